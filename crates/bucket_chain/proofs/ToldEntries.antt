-- What the record of a found entry tells of its content, and of how many pages that is.
use Rattle.std.proofs.Common.{◌≡◌, ℕ, zero, suc, ◌+◌, ◌^◌, ◌<◌, ◌≤◌, Bool, true, false, cond, Option, Some, None, List, [], ◌∷◌, length, map, get_or, inl, inr, ⊎_elim, refl, sym, ap, ◌∙◌, subst, arith}
use Rattle.std.specs.List.{AllByRecursion, HoldsAt}
use Rattle.std.specs.Option.{option_map}
use Rattle.std.proofs.lemmas.Bool.{cases_lt, false≢true}
use Rattle.dbm_model.specs.Bounds.{Version, V1, V2}
use Rattle.dbm_model.specs.Pairs.{Key, is_far}
use Rattle.dbm_model.specs.Sizes.{pages_for}
use Rattle.page_model.specs.Bytes.{u32_at}
use Rattle.page_model.specs.Chain.{Entry, pages_long, record_with, record_of, IsEntry}
use Rattle.page_model.specs.Numbers.{IsNumber}
use Rattle.page_model.specs.Pages.{Body, Record, Other}
use Rattle.page_model.specs.PageBodies.{content_bodies, entry_bodies, AreRead}
use Rattle.page_model.specs.Valid.{MayTell, IsRecord, IsOf}
use Rattle.page_model.proofs.GoodBodies.{key_is}
use Rattle.page_io.specs.Store.{Pages, are_in_order, has_page}
use Rattle.page_io.specs.Views.{body_at}
use Rattle.page_io.specs.declared.store.PageStore.{Ghosts}
use Rattle.page_io.proofs.StagedPages.{in_range, has_between}
use Rattle.page_io.proofs.Views.{unknown_said}
use Rattle.page_io.specs.BucketPages.{IsPageOf, page_records}
use Rattle.slot_page.specs.Contents.{HasKeyAt, told_content}
use Rattle.slot_page.proofs.Tellings.{holds_there}
use Rattle.content_pages.proofs.FarContents.{far_pages_are}
use Rattle.bucket_chain.proofs.ContentReads.{told_far}
use Rattle.bucket_chain.specs.AnyFile.{AreToldPages}
use Rattle.bucket_chain.specs.Hits.{pages_told}

-- ---- the pages that a page's record tells are few

few_told : (version : Version) (r : Record) (far : Option ℕ) → r.far ≡ far → MayTell r far
    → IsOf version r → pages_told (option_map (λ long. (u32_at r.bytes 0, long)) far) + 1
    ≤ pages_for version
few_told V1 r None is may of_version = omega arith
few_told V1 r (Some long) is may of_version = absurd (let e = sym is ∙ of_version in cc)
few_told V2 r None is may of_version = omega arith
few_told V2 r (Some long) is may of_version = omega (arith, may.long_enough.1)

no_record : Record
no_record = record { key = []; bytes = []; far = None }

pub told_few : (version : Version) (bytes : List ℕ) (slot : ℕ) (content : Option (ℕ × ℕ))
    → IsPageOf version bytes → slot < length (page_records bytes)
    → HoldsAt (λ r. told_content r ≡ content) (page_records bytes) slot
    → pages_told content + 1 ≤ pages_for version
told_few version bytes slot content page within told =
    let r = get_or (page_records bytes) slot no_record in
    let few = few_told version r r.far refl
    (holds_there IsRecord (page_records bytes) slot no_record page.page.sound.records within)
    (holds_there (IsOf version) (page_records bytes) slot no_record page.of_version within) in
    subst (λ (o : Option (ℕ × ℕ)). pages_told o + 1 ≤ pages_for version) (told no_record) few

-- ---- a near entry tells none

told_near : (e : Entry) → e.pages ≡ [] → told_content (record_of e) ≡ None
told_near e none = ap (λ (ns : List ℕ). told_content (record_with e.pair ns)) none

-- where no far entry has the key, its record tells none
pub lacks_far : (key : Key) (entries : List Entry) (slot : ℕ)
    → AllByRecursion (λ e. e.pair.0 ≡ key → e.pages ≡ []) entries
    → HasKeyAt key (map record_of entries) slot
    → HoldsAt (λ r. told_content r ≡ None) (map record_of entries) slot
lacks_far key [] slot near has = absurd (omega (arith, has.0))
lacks_far key (e ∷ entries) zero near has = λ d.
    told_near e (near.0 (sym (key_is e.pair e.pages) ∙ has.1 (record_of e)))
lacks_far key (e ∷ entries) (suc slot) near has = λ d.
    lacks_far key entries slot near.1 (omega (arith, has.0), λ d'. has.1 d') d

-- ---- the pages that an entry's record tells are its pages

-- four bytes hold the number of a page that says something
pub said_number : {S : Type 0} (s : Ghosts S) (store : S) (n : ℕ)
    → length (s.committed store) + 1 ≡ (s.state store).end → (s.state store).end < 2 ^ 32
    → are_in_order 1 (2 ^ 32) (s.state store).staged ≡ true → 1 ≤ n
    → (body_at s store n ≡ Other → ⊥) → IsNumber n
said_number s store n ends small order some says = elim (cases_lt n (2 ^ 32)) [
  | inl lt ↦ lt
  | inr ge ↦ absurd (says (unknown_said s store n ends some (λ known. ⊎_elim
      (λ has. false≢true (sym (none_staged (s.state store).staged order ge) ∙ has))
      (λ within. omega (arith, within.1, small, ge)) known)))
]
  where
    none_staged : (pages : Pages) → are_in_order 1 (2 ^ 32) pages ≡ true → 2 ^ 32 ≤ n
        → has_page pages n ≡ false
    none_staged pages order ge = has_between 1 (2 ^ 32) pages (length pages) n order
        (λ k lt. omega (arith, (in_range 1 (2 ^ 32) pages k order lt).1, ge))
        (λ lt. absurd (omega (arith, lt))) (omega arith)

pub content_numbers : (at : ℕ → Body) (pages content : List ℕ)
    → AreRead at (content_bodies pages content) → AllByRecursion (λ n. 1 ≤ n) pages
    → ((n : ℕ) → 1 ≤ n → (at n ≡ Other → ⊥) → IsNumber n) → AllByRecursion IsNumber pages
content_numbers at [] content read numbered small = tt
content_numbers at (n ∷ rest) content read numbered small = (
  small n numbered.0 (λ other. let e = sym read.0 ∙ other in absurd (cc)),
  content_numbers at rest _ read.1 numbered.1 small,
)

no_pages : (pages : List ℕ) → length pages ≡ 0 → pages ≡ []
no_pages [] none = refl
no_pages (n ∷ rest) none = absurd (omega (arith, none))

pub told_pages : (version : Version) (at : ℕ → Body) (e : Entry) (content : Option (ℕ × ℕ))
    → IsEntry version e → AreRead at (entry_bodies e) → AllByRecursion (λ n. 1 ≤ n) e.pages
    → AllByRecursion IsNumber e.pages → told_content (record_of e) ≡ content
    → AreToldPages at content e.pages
told_pages version at e content is read numbered small told = by_far (is_far e.pair) refl
  where
    by_far : (b : Bool) → is_far e.pair ≡ b → AreToldPages at content e.pages
    by_far true far =
        subst (λ (o : Option (ℕ × ℕ)). AreToldPages at o e.pages)
        (sym (told_far version e is far small) ∙ told)
        (far_pages_are at version e is far numbered read)
    by_far false near =
        let none = no_pages e.pages
        (is.paged ∙ ap (λ (b : Bool). cond b (pages_long (length e.pair.1)) 0) near) in
        subst (λ (o : Option (ℕ × ℕ)). AreToldPages at o e.pages)
        (sym (told_near e none) ∙ told) none
