-- The pages that are taken for a content, one after the other.
use Rattle.std.proofs.Common.{◌≡◌, ◌≢◌, ◌⊎◌, inl, inr, ℕ, zero, suc, ◌+◌, ◌<◌, ◌≤◌, ◌==◌, ◌||◌, Bool, true, false, cond, List, [], ◌∷◌, ◌++◌, length, get_or, AllPairs, eq-eqb, refl, sym, ap, subst, ◌∙◌, arith}
use Rattle.std.specs.List.{list_any}
use Rattle.std.proofs.lemmas.Bool.{cases_eq, false≢true}
use Rattle.std.proofs.lemmas.Bool.Decides.{nat_tests}
use Rattle.std.proofs.lemmas.List.Folds.{list_any_at}
use Rattle.std.proofs.lemmas.List.Quantifiers.{all_pairs_push}
use Rattle.std.proofs.lemmas.List.Sums.{sum_by-cons}
use Rattle.page_model.specs.Chain.{pages_long}
use Rattle.page_model.specs.Pages.{Body}
use Rattle.page_model.specs.PageBodies.{first_of, content_bodies, free_bodies, AreRead}
use Rattle.page_model.specs.Rewrites.{AreRewritten}
use Rattle.page_model.specs.Space.{Space, next_page, next_pages, after_take, after_takes, is_page, times_of}
use Rattle.page_model.proofs.Ends.{kept_takes}
use Rattle.page_model.proofs.Flat.{numbers-free}
use Rattle.page_model.proofs.Frames.{kept, at_most_one}
use Rattle.page_model.proofs.Spaces.{times_head}
use Rattle.page_io.specs.Page.{own_number}
use Rattle.page_io.specs.Store.{StoreState, put_page, IsKnown}
use Rattle.page_io.specs.Views.{MayEnd}
use Rattle.page_io.proofs.StagedPages.{has_page-put, has_page-put_other}
use Rattle.page_io.proofs.Views.{known_below, end_stays, end_grows}
use Rattle.free_pages.specs.declared.free_state.FreeState.{FreeState}
use Rattle.free_pages.specs.FreeList.{state_of, IsFreeList, IsApart, IsTaken}
use Rattle.free_pages.specs.Giving.{AreTaken}
use Rattle.content_pages.specs.Contents.{IsPutAt}
use Rattle.content_pages.specs.Staging.{MayEndWithAll}
use Rattle.content_pages.proofs.ContentWrites.{numbers-content}
use Rattle.content_pages.proofs.PageCounts.{times_both}

-- a page that is among those taken stands there
pub listed_times : (pages : List ℕ) (n : ℕ) → list_any (λ m. m == n) pages ≡ true
    → 1 ≤ times_of n pages
listed_times [] n is = absurd (false≢true is)
listed_times (m ∷ pages) n is = elim (cases_eq m n) [
  | inl same ↦ subst (λ (k : ℕ). 1 ≤ times_of n (k ∷ pages)) (sym same)
      (omega (arith, times_head n pages))
  | inr other ↦ omega (
    arith,
    sum_by-cons (λ (k : ℕ). cond (k == n) 1 0) m pages,
    listed_times pages n (behind (m == n) (ne_test m n other) is),
  )
]
  where
    ne_test : (m n : ℕ) → (m ≡ n → ⊥) → (m == n) ≡ false
    ne_test m n other = grind (arith, nat_tests)

    behind : (b : Bool) → b ≡ false → (b || list_any (λ k. k == n) pages) ≡ true
        → list_any (λ k. k == n) pages ≡ true
    behind true off is = absurd (false≢true (sym off))
    behind false off is = is

-- and one that isn't differs from each of them
pub distinct_more : (pages : List ℕ) (n : ℕ) → list_any (λ m. m == n) pages ≡ false
    → AllPairs (λ m k. m ≢ k) pages → AllPairs (λ m k. m ≢ k) (pages ++ n ∷ [])
distinct_more pages n none apart = all_pairs_push (λ m k. m ≢ k) pages n apart
    (λ k d lt same. false≢true (sym none
    ∙ list_any_at (λ m. m == n) pages k d lt (eq-eqb (get_or pages k d) n same)))

-- one page more is taken
pub taken_more : (at : ℕ → Body) (before mid after : FreeState) (pages : List ℕ) (n : ℕ)
    → AreTaken at before pages mid → IsTaken at mid n after
    → AreTaken at before (pages ++ n ∷ []) after
taken_more at before mid after [] n are is =
    (after, subst (λ (f : FreeState). IsTaken at f n after) are is, refl)
taken_more at before mid after (m ∷ pages) n are is =
    (are.0, are.1, taken_more at are.0 mid after pages n are.2 is)

-- ---- where the file may end

-- the page is known and the end stays, or it is the page at the end
abbrev pub IsPlaced : StoreState → ℕ → ℕ → ℕ → Type 0
IsPlaced state n old_end new_end = (IsKnown state n × (new_end ≡ old_end))
    ⊎ ((n ≡ old_end) × (new_end ≡ old_end + 1))

known_put : (state : StoreState) (n : ℕ) (bytes : List ℕ) → IsKnown state n
    → IsKnown (record state { staged = put_page state.staged bytes }) n
known_put state n bytes (inl has) = elim (cases_eq (own_number bytes) n) [
  | inl same ↦ inl (has_page-put state.staged bytes n same)
  | inr other ↦ inl (has_page-put_other state.staged bytes n other ∙ has)
]
known_put state n bytes (inr within) = inr within

placed_put : (state : StoreState) (n old_end new_end : ℕ) (bytes : List ℕ)
    → IsPlaced state n old_end new_end
    → IsPlaced (record state { staged = put_page state.staged bytes }) n old_end new_end
placed_put state n old_end new_end bytes (inl known) =
    inl (known_put state n bytes known.0, known.1)
placed_put state n old_end new_end bytes (inr last) = inr last

one_end : (state : StoreState) (n old_end new_end : ℕ) → MayEnd state old_end
    → IsPlaced state n old_end new_end → MayEndWithAll state (n ∷ []) new_end
one_end state n old_end new_end may (inl known) bytes own =
    subst (MayEnd (record state { staged = put_page state.staged bytes })) (sym known.1)
    (end_stays state old_end bytes may
    (omega (arith, own, known_below state old_end n may known.0)))
one_end state n old_end new_end may (inr last) bytes own =
    subst (MayEnd (record state { staged = put_page state.staged bytes })) (sym last.1)
    (end_grows state old_end bytes may (own ∙ last.0))

pub may_end_more : (state : StoreState) (pages : List ℕ) (n old_end new_end : ℕ)
    → MayEndWithAll state pages old_end → IsPlaced state n old_end new_end
    → MayEndWithAll state (pages ++ n ∷ []) new_end
may_end_more state [] n old_end new_end may placed = one_end state n old_end new_end may placed
may_end_more state (m ∷ pages) n old_end new_end may placed = λ bytes own.
    may_end_more (record state { staged = put_page state.staged bytes }) pages n old_end new_end
    (may bytes own) (placed_put state n old_end new_end bytes placed)

-- ---- in a free list that is read as one

-- a further page at the end
one_page_more : (n end : ℕ) → 1 ≤ end
    → cond {A = ℕ} (is_page n (end + 1)) 1 0 ≡ cond (is_page n end) 1 0 + cond (end == n) 1 0
one_page_more n end h = grind (arith, nat_tests)

end_is_none : (end : ℕ) → cond {A = ℕ} (is_page end end) 1 0 ≡ 0
end_is_none end = grind (arith, nat_tests)

-- where none is free, one page more ends the file behind the next one
take_at_end : (free : List ℕ) (end : ℕ) → length free ≡ 0
    → (after_take (record { free = free; end = end })).end ≡ end + 1
take_at_end [] end none = refl
take_at_end (n ∷ rest) end none = absurd (cc)

-- where none is free, more pages end it later
pub ends_later : (k m : ℕ) (s : Space) → k < m → length (after_takes k s).free ≡ 0
    → (after_takes k s).end < (after_takes m s).end
ends_later k zero s lt none = absurd (omega (arith, lt))
ends_later zero (suc m) s lt none =
    omega (arith, kept_takes m (after_take s), take_at_end s.free s.end none)
ends_later (suc k) (suc m) s lt none = ends_later k m (after_take s) (omega (arith, lt)) none

-- the page that is taken next is none of these
next_apart : (pages : List ℕ) (s : Space) → IsApart pages s → times_of (next_page s) pages ≡ 0
next_apart pages s apart = by_free s.free s.end apart
  where
    by_free : (free : List ℕ) (end : ℕ) → IsApart pages (record { free = free; end = end })
        → times_of (next_page (record { free = free; end = end })) pages ≡ 0
    by_free [] end apart = omega (arith, apart end, end_is_none end)
    by_free (n ∷ rest) end apart =
        omega (arith, apart n, times_head n rest, at_most_one (is_page n end))

-- and stands apart from what is left
apart_more : (pages : List ℕ) (s : Space) → 1 ≤ s.end → IsApart pages s
    → IsApart (pages ++ next_page s ∷ []) (after_take s)
apart_more pages s some apart = by_free s.free s.end some apart
  where
    by_free : (free : List ℕ) (end : ℕ) → 1 ≤ end
        → IsApart pages (record { free = free; end = end })
        → IsApart (pages ++ next_page (record { free = free; end = end }) ∷ [])
        (after_take (record { free = free; end = end }))
    by_free [] end some apart m =
        omega (
          arith,
          apart m,
          one_page_more m end some,
          times_both m pages (end ∷ []),
          sum_by-cons (λ (k : ℕ). cond (k == m) 1 0) end [],
        )
    by_free (n ∷ rest) end some apart m =
        omega (
          arith,
          apart m,
          times_both m pages (n ∷ []),
          sum_by-cons (λ (k : ℕ). cond (k == m) 1 0) n [],
          sum_by-cons (λ (k : ℕ). cond (k == m) 1 0) n rest,
        )

-- what is left is a free list
list_taken : (at : ℕ → Body) (state after : FreeState) (s : Space) → IsFreeList at state s
    → after ≡ state_of (after_take s) → IsFreeList at after (after_take s)
list_taken at state after s list is = record {
  kept = is;
  are_read = rest_read s.free s.end list.are_read;
  some = end_some s.free s.end list.some;
}
  where
    rest_read : (free : List ℕ) (end : ℕ) → AreRead at (free_bodies free)
        → AreRead at (free_bodies (after_take (record { free = free; end = end })).free)
    rest_read [] end read = tt
    rest_read (n ∷ rest) end read = read.1

    end_some : (free : List ℕ) (end : ℕ) → 1 ≤ end
        → 1 ≤ (after_take (record { free = free; end = end })).end
    end_some [] end some = omega arith
    end_some (n ∷ rest) end some = some

-- the next of some pages, and what is left
next_more : (count : ℕ) (s : Space)
    → next_pages (count + 1) s ≡ next_pages count s ++ next_page (after_takes count s) ∷ []
next_more count s =
    ap (λ (k : ℕ). next_pages k s) {x = count + 1} {y = suc count} (omega arith) ∙ by count s
  where
    by : (count : ℕ) (s : Space)
        → next_pages (suc count) s ≡ next_pages count s ++ next_page (after_takes count s) ∷ []
    by zero s = refl
    by (suc count) s = ap (λ (ns : List ℕ). next_page s ∷ ns) (by count (after_take s))

after_more : (count : ℕ) (s : Space)
    → after_takes (count + 1) s ≡ after_take (after_takes count s)
after_more count s =
    ap (λ (k : ℕ). after_takes k s) {x = count + 1} {y = suc count} (omega arith) ∙ by count s
  where
    by : (count : ℕ) (s : Space) → after_takes (suc count) s ≡ after_take (after_takes count s)
    by zero s = refl
    by (suc count) s = by count (after_take s)

-- so many pages were taken as the placement takes them
pub record AreTheNext (at : ℕ → Body) (s : Space) (count : ℕ) (pages : List ℕ)
    (after : FreeState) : Type 0 where
  pub pages_are : pages ≡ next_pages count s
  pub list : IsFreeList at after (after_takes count s)
  pub apart : IsApart pages (after_takes count s)

pub next_starts : (at : ℕ → Body) (state : FreeState) (s : Space) (pages : List ℕ) → pages ≡ []
    → IsFreeList at state s → IsApart [] s → AreTheNext at s 0 pages state
next_starts at state s pages none list apart = record {
  pages_are = none;
  list = list;
  apart = subst (λ (ns : List ℕ). IsApart ns s) (sym none) apart;
}

-- what is left stands alone
pub left_alone : (pages : List ℕ) (s : Space) → IsApart pages s → IsApart [] s
left_alone pages s apart n = omega (arith, apart n)

pub next_goes_on : (at : ℕ → Body) (s : Space) (count : ℕ) (pages more : List ℕ)
    (state after : FreeState) (n : ℕ) → AreTheNext at s count pages state
    → n ≡ next_page (after_takes count s) → after ≡ state_of (after_take (after_takes count s))
    → more ≡ pages ++ n ∷ [] → AreTheNext at s (count + 1) more after
next_goes_on at s count pages more state after n so_far is left grown =
    let now = after_takes count s in
    let then : more ≡ pages ++ next_page now ∷ [] =
    grown ∙ ap (λ (k : ℕ). pages ++ k ∷ []) is in
    record {
      pages_are = then ∙ ap (λ (ns : List ℕ). ns ++ next_page now ∷ []) so_far.pages_are
          ∙ sym (next_more count s);
      list = subst (IsFreeList at after) (sym (after_more count s))
          (list_taken at state after now so_far.list left);
      apart = subst (IsApart more) (sym (after_more count s))
          (subst (λ (ns : List ℕ). IsApart ns (after_take now)) (sym then)
          (apart_more pages now so_far.list.some so_far.apart));
    }

-- so are the pages that the placement takes
pub all_next : (at : ℕ → Body) (state : FreeState) (s : Space) (count : ℕ) → IsFreeList at state s
    → IsApart [] s → AreTheNext at s count (next_pages count s) (state_of (after_takes count s))
all_next at state s zero list apart =
    next_starts at (state_of s) s [] refl
    (record { kept = refl; are_read = list.are_read; some = list.some }) apart
all_next at state s (suc count) list apart =
    let one : count + 1 ≡ suc count = omega arith in
    subst (λ (k : ℕ). AreTheNext at s k (next_pages k s) (state_of (after_takes k s))) one
    (next_goes_on at s count (next_pages count s) (next_pages (count + 1) s)
    (state_of (after_takes count s)) (state_of (after_takes (count + 1) s))
    (next_page (after_takes count s)) (all_next at state s count list apart) refl
    (ap state_of (after_more count s)) (next_more count s))

-- the next page isn't one of those taken
pub not_twice : (at : ℕ → Body) (s : Space) (count : ℕ) (pages : List ℕ) (state : FreeState)
    (n : ℕ) → AreTheNext at s count pages state → n ≡ next_page (after_takes count s)
    → list_any (λ m. m == n) pages ≡ true → ⊥
not_twice at s count pages state n so_far is listed =
    let none : times_of n pages ≡ 0 = ap (λ (k : ℕ). times_of k pages) is
    ∙ next_apart pages (after_takes count s) so_far.apart in
    omega (arith, none, listed_times pages n listed)

-- the free list stays where those pages are written
pub list_left : (at at' : ℕ → Body) (s : Space) (count : ℕ) (pages : List ℕ) (after : FreeState)
    → AreTheNext at s count pages after → ((n : ℕ) → times_of n pages ≡ 0 → at' n ≡ at n)
    → IsFreeList at' after (after_takes count s)
list_left at at' s count pages after are others =
    let left = after_takes count s in
    record {
      kept = are.list.kept;
      are_read = kept at at' (free_bodies left.free)
          (λ n stands. others n (omega (
            arith,
            are.apart n,
            at_most_one (is_page n left.end),
            subst (λ (ns : List ℕ). 1 ≤ times_of n ns) (numbers-free left.free) stands,
          ))) are.list.are_read;
      some = are.list.some;
    }

-- a content that is written into those pages is put as the placement puts it
pub put_there : (at at' : ℕ → Body) (state after : FreeState) (s : Space) (count first : ℕ)
    (pages content : List ℕ) → IsFreeList at state s → IsApart [] s
    → count ≡ pages_long (length content) → pages ≡ next_pages count s
    → after ≡ state_of (after_takes count s) → first ≡ first_of pages
    → AreRewritten at at' (content_bodies pages content) → IsPutAt at at' after first content s
put_there at at' state after s count first pages content list apart enough are left begins written =
    let long = pages_long (length content) in
    let taken : pages ≡ next_pages long s = are ∙ ap (λ (k : ℕ). next_pages k s) enough in
    let now : after ≡ state_of (after_takes long s) =
    left ∙ ap (λ (k : ℕ). state_of (after_takes k s)) enough in
    let next = all_next at state s long list apart in
    record {
      begins = begins ∙ ap first_of taken;
      written = subst (λ (ns : List ℕ). AreRewritten at at' (content_bodies ns content)) taken
          written;
      left = subst (λ (f : FreeState). IsFreeList at' f (after_takes long s)) (sym now)
          (list_left at at' s long (next_pages long s) (state_of (after_takes long s)) next
          (λ n none. written.others n
          (ap (times_of n) (numbers-content pages content ∙ taken) ∙ none)));
    }
