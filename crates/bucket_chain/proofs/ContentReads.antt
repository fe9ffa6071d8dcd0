-- What the record of an entry tells, and that the pages of each entry are read.
use Rattle.std.proofs.Common.{◌≡◌, ℕ, zero, suc, ◌+◌, ◌<◌, true, false, Bool, Some, cond, List, [], ◌∷◌, length, get_or, flat_map, refl, ap, ◌∙◌, subst, arith}
use Rattle.std.specs.List.{AllByRecursion, Contains}
use Rattle.std.proofs.lemmas.Bool.{ltb-true}
use Rattle.dbm_model.specs.Bounds.{Version}
use Rattle.dbm_model.specs.Pairs.{is_far}
use Rattle.page_model.specs.Chain.{Entry, pages_long, record_with, record_of, IsEntry}
use Rattle.page_model.specs.Numbers.{IsNumber}
use Rattle.page_model.specs.PageBodies.{first_of, entry_bodies, AreRead}
use Rattle.page_model.specs.Pages.{Body, NumberedBody}
use Rattle.page_model.proofs.GoodBodies.{number_again}
use Rattle.page_model.proofs.Chains.{near_if, AllByRecursion-left, AllByRecursion-right}
use Rattle.slot_page.specs.Contents.{told_content, near_record}

no_bytes : (xs : List ℕ) → length xs ≡ 0 → xs ≡ []
no_bytes [] e = refl
no_bytes (x ∷ xs) e = absurd (omega (arith, e))

-- the record of a far entry tells its first page and its length
pub told_far : (version : Version) (e : Entry) → IsEntry version e → is_far e.pair ≡ true
    → AllByRecursion IsNumber e.pages
    → told_content (record_of e) ≡ Some (first_of e.pages, length e.pair.1)
told_far version e is far numbers = by_pages e.pages refl numbers
  where
    count : length e.pages ≡ pages_long (length e.pair.1)
    count = is.paged ∙ ap (λ (b : Bool). cond b (pages_long (length e.pair.1)) 0) far

    some : 0 < length e.pair.1
    some = omega (
      arith,
      near_if version e.pair is.allowed far,
      ltb-true 2026 (length e.pair.0 + length e.pair.1) far,
    )

    by_pages : (pages : List ℕ) → e.pages ≡ pages → AllByRecursion IsNumber pages
        → told_content (record_with e.pair pages) ≡ Some (first_of pages, length e.pair.1)
    by_pages [] none ns = absurd (omega (arith, count, some, ap length none))
    by_pages (n ∷ rest) is ns = ap (λ (m : ℕ). Some (m, length e.pair.1)) (number_again n ns.0)

-- that of a near one has the content behind the key
pub near_is : (version : Version) (e : Entry) → IsEntry version e → is_far e.pair ≡ false
    → record_of e ≡ near_record e.pair.0 e.pair.1
near_is version e is near = ap (record_with e.pair) (no_bytes e.pages
    (is.paged ∙ ap (λ (b : Bool). cond b (pages_long (length e.pair.1)) 0) near))

-- the pages of each entry are read
pub entry_read : (at : ℕ → Body) (entries : List Entry) (e : Entry)
    → AreRead at (flat_map entry_bodies entries) → Contains entries e → AreRead at (entry_bodies e)
entry_read at entries e read among = by_place entries read among.0 among.1 among.2
  where
    by_place : (entries : List Entry) → AreRead at (flat_map entry_bodies entries) → (k : ℕ)
        → k < length entries → get_or entries k e ≡ e → AreRead at (entry_bodies e)
    by_place [] read k lt same = absurd (omega (arith, lt))
    by_place (one ∷ entries) read zero lt same =
        subst (λ (x : Entry). AreRead at (entry_bodies x)) same
        (AllByRecursion-left (λ (b : NumberedBody). at b.number ≡ b.body) (entry_bodies one)
        (flat_map entry_bodies entries) read)
    by_place (one ∷ entries) read (suc k) lt same =
        by_place entries
        (AllByRecursion-right (λ (b : NumberedBody). at b.number ≡ b.body) (entry_bodies one)
        (flat_map entry_bodies entries) read) k (omega (arith, lt)) same
