-- The record of an entry of a table says the entry's pair.
use Rattle.std.proofs.Common.{◌≡◌, ℕ, zero, suc, ◌<◌, ◌≤◌, ◌^◌, Bool, true, false, cond, List, [], ◌∷◌, length, get_or, flat_map, refl, sym, ap, ◌∙◌, subst, arith}
use Rattle.std.specs.List.{AllByRecursion, Contains}
use Rattle.std.proofs.lemmas.Bool.Decides.{nat_tests}
use Rattle.dbm_model.specs.Bounds.{Version}
use Rattle.dbm_model.specs.Pairs.{is_far}
use Rattle.page_model.specs.Chain.{Entry, Chain, numbers, entries_in, pages_of, pages_long, record_of, IsEntry}
use Rattle.page_model.specs.Numbers.{IsNumber}
use Rattle.page_model.specs.Pages.{Body, NumberedBody}
use Rattle.page_model.specs.Space.{Space, is_page}
use Rattle.page_model.specs.PageBodies.{leaf_bodies, entry_bodies, AreRead}
use Rattle.page_model.proofs.Chains.{AllByRecursion-left, AllByRecursion-right}
use Rattle.page_model.proofs.GoodBodies.{key_is, from_times}
use Rattle.free_pages.specs.declared.free_state.FreeState.{FreeState}
use Rattle.content_pages.proofs.PageCounts.{times_both}
use Rattle.bucket_chain.proofs.ContentReads.{entry_read, told_far, near_is}
use Rattle.bucket_chain.specs.Changes.{IsPlaced}
use Rattle.linear_hash.specs.Looking.{SaysContent, SaysPair}

abbrev IsPage : ℕ → Type 0
IsPage n = (1 ≤ n) × IsNumber n

-- what holds of all holds of each
pub each_of : {X : Type 0} (P : X → Type 0) (xs : List X) (x : X) → AllByRecursion P xs
    → Contains xs x → P x
each_of {X} P xs x all among = by_place xs all among.0 among.1 among.2
  where
    by_place : (xs : List X) → AllByRecursion P xs → (k : ℕ) → k < length xs → get_or xs k x ≡ x
        → P x
    by_place [] all k lt same = absurd (omega (arith, lt))
    by_place (y ∷ ys) all zero lt same = subst P same all.0
    by_place (y ∷ ys) all (suc k) lt same = by_place ys all.1 k (omega (arith, lt)) same

-- the pages of all contents are those of each
pages_each : (P : ℕ → Type 0) (entries : List Entry) → AllByRecursion P (pages_of entries)
    → AllByRecursion (λ e. AllByRecursion P e.pages) entries
pages_each P [] all = tt
pages_each P (e ∷ entries) all = (
  AllByRecursion-left P e.pages (pages_of entries) all,
  pages_each P entries (AllByRecursion-right P e.pages (pages_of entries) all),
)

numbers_only : (pages : List ℕ) → AllByRecursion IsPage pages → AllByRecursion (λ n. 1 ≤ n) pages
numbers_only [] all = tt
numbers_only (n ∷ pages) all = (all.0.0, numbers_only pages all.1)

numbers_small : (pages : List ℕ) → AllByRecursion IsPage pages → AllByRecursion IsNumber pages
numbers_small [] all = tt
numbers_small (n ∷ pages) all = (all.0.1, numbers_small pages all.1)

says_pair : (version : Version) (at : ℕ → Body) (e : Entry) → IsEntry version e
    → AreRead at (entry_bodies e) → AllByRecursion IsPage e.pages → SaysPair at e.pair (record_of e)
says_pair version at e is read numbered = by_far (is_far e.pair) refl
  where
    by_far : (far : Bool) → is_far e.pair ≡ far → SaysPair at e.pair (record_of e)
    by_far true far = record {
      key = key_is e.pair e.pages;
      content = subst (SaysContent at e.pair.1 (record_of e).bytes)
          (sym (told_far version e is far (numbers_small e.pages numbered))) (
            refl,
            record {
              pages = e.pages;
              begins = refl;
              numbered = numbers_only e.pages numbered;
              paged = is.paged ∙ ap (λ (b : Bool). cond b (pages_long (length e.pair.1)) 0) far;
              are_read = read;
            },
          );
    }
    by_far false near = subst (SaysPair at e.pair) (sym (near_is version e is near))
        (record { key = refl; content = refl })

in_file : (n end : ℕ) → 1 ≤ cond {A = ℕ} (is_page n end) 1 0 → (1 ≤ n) × (n < end)
in_file n end stands = grind (arith, nat_tests)

-- in a chain that is placed in a file whose page numbers can be told
pub told_pair : (version : Version) (at : ℕ → Body) (state : FreeState) (head : ℕ) (chain : Chain)
    (s : Space) (e : Entry) → IsPlaced version at state head chain s → s.end ≤ 2 ^ 32
    → Contains (entries_in chain) e → SaysPair at e.pair (record_of e)
told_pair version at state head chain s e placed small among =
    let entries = entries_in chain in
    let P : NumberedBody → Type 0 = λ b. at b.number ≡ b.body in
    let contents = AllByRecursion-right P (leaf_bodies chain) (flat_map entry_bodies entries)
    placed.chain_is.are_read in
    let pages = from_times IsPage (pages_of entries) (λ n stands.
    let range = in_file n s.end (omega (
      arith,
      stands,
      placed.apart n,
      times_both n (numbers chain) (pages_of entries),
    )) in (range.0, omega (arith, range.1, small))) in
    says_pair version at e (each_of (IsEntry version) entries e placed.chain_is.entered among)
    (entry_read at entries e contents among)
    (each_of (λ (e : Entry). AllByRecursion IsPage e.pages) entries e
    (pages_each IsPage entries pages) among)
