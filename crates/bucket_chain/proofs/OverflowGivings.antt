-- Overflow pages that are given, one after the other.
use Rattle.std.proofs.Common.{◌≡◌, ◌≢◌, ℕ, ◌+◌, ◌≤◌, Bool, true, false, cond, List, [], ◌∷◌, ◌++◌, length, refl, sym, ap, ◌∙◌, subst, arith}
use Rattle.std.specs.List.{AllByRecursion}
use Rattle.std.proofs.lemmas.List.{length-append, length-map, map-append}
use Rattle.dbm_model.specs.Bounds.{Version}
use Rattle.page_model.specs.Pages.{Body, HeadPage, OverflowPage, FreePage, Record}
use Rattle.page_model.specs.Chain.{Leaf, Chain, numbers, pages_in, pages_of, entries_in}
use Rattle.page_model.specs.Space.{Space, give, is_page, times_of}
use Rattle.page_model.specs.PageBodies.{first_of}
use Rattle.page_model.proofs.Chains.{AllByRecursion-append}
use Rattle.page_model.proofs.Spaces.{times_head, times_tail}
use Rattle.free_pages.specs.declared.free_state.FreeState.{FreeState}
use Rattle.free_pages.specs.FreeList.{IsFreeList, IsApart}
use Rattle.free_pages.specs.Giving.{IsFree, AreGiven}
use Rattle.content_pages.proofs.PageCounts.{times_both}
use Rattle.bucket_chain.specs.Links.{SaysLink}
use Rattle.bucket_chain.specs.Chains.{ReadLeaf, ReadChain, leaf_read, chain_read, number_or, AreLinked, BeginsAt}
use Rattle.bucket_chain.proofs.Walks.{leaf_of, AreNumbered, number_more, linked_more, IsSplit, IsReadAs, read_as, begins_at, begins_same, IsHere, walk_is_here}
use Rattle.bucket_chain.specs.AnyFile.{numbers_read}
use Rattle.bucket_chain.specs.Changes.{IsPlaced}
use Rattle.bucket_chain.proofs.Givings.{given_none, given_more}

-- so many pages were given
pub record AreGivenIn (old new : ℕ → Body) (before after : FreeState)
    (first n step : ℕ) : Type 0 where
  pub pages : ReadChain
  pub linked : AreLinked old pages n
  pub first_is : first ≡ number_or pages n
  pub numbered : AreNumbered pages
  pub given : AreGiven old new before after (numbers_read pages)
  pub count : length pages ≡ step

pub giving_starts : (at : ℕ → Body) (state : FreeState) (first : ℕ)
    → AreGivenIn at at state state first first 0
giving_starts at state first = record {
  pages = [];
  linked = tt;
  first_is = refl;
  numbered = tt;
  given = given_none at state;
  count = refl;
}

numbers_more : (pages : ReadChain) (n : ℕ) (records : List Record)
    → numbers_read (pages ++ leaf_of n records ∷ []) ≡ numbers_read pages ++ n ∷ []
numbers_more pages n records =
    map-append (λ (leaf : ReadLeaf). leaf.number) pages (leaf_of n records ∷ [])

-- a page isn't free where it says that it is an overflow page
not_free : (body : Body) (next : ℕ) (records : List Record) → IsFree body
    → body ≡ OverflowPage next records → ⊥
not_free body next records free over = let same = sym free.free ∙ over in absurd (cc)

none_or_some : (k : ℕ) → (1 ≤ k → ⊥) → k ≡ 0
none_or_some k none = omega (arith, none)

module _ (version : Version) (old mid new : ℕ → Body) (before after after' : FreeState)
    (first n step next : ℕ) (records : List Record)
    (so_far : AreGivenIn old mid before after first n step)
    (link : SaysLink version mid n 4 next records) where
  apart : times_of n (numbers_read so_far.pages) ≡ 0
  apart = none_or_some _ (λ stands.
      not_free (mid n) next records (so_far.given.free n stands) link.says)

  -- the page is given too
  pub giving_goes_on : 1 ≤ n → new n ≡ FreePage after.head → ((m : ℕ) → (m ≡ n → ⊥) → new m
      ≡ mid m)
      → after' ≡ record { head = n; count = after.count + 1; file_end = after.file_end }
      → ((s : Space) → IsFreeList mid after s → IsApart (n ∷ []) s
      → IsFreeList new after' (give (n ∷ []) s))
      → AreGivenIn old new before after' first next (step + 1)
  giving_goes_on some free others is list = record {
    pages = so_far.pages ++ leaf_of n records ∷ [];
    linked = linked_more old so_far.pages n next records so_far.linked
        (sym (so_far.given.others n apart) ∙ link.says) (link.filled refl);
    first_is = so_far.first_is ∙ sym (number_more so_far.pages n next records);
    numbered = AllByRecursion-append (λ (leaf : ReadLeaf). 1 ≤ leaf.number) so_far.pages
        (leaf_of n records ∷ []) so_far.numbered (some, tt);
    given = subst (AreGiven old new before after') (sym (numbers_more so_far.pages n records))
        (given_more old mid new before after after'
        (numbers_read so_far.pages) n so_far.given apart
        free others is list);
    count = omega (arith, so_far.count, length-append so_far.pages (leaf_of n records ∷ []));
  }

-- ---- in a chain that is read as one

pub first_or : (chain : Chain) → number_or (chain_read chain) 0 ≡ first_of (numbers chain)
first_or [] = refl
first_or (leaf ∷ rest) = refl

pub numbers_are : (chain : Chain) → numbers_read (chain_read chain) ≡ numbers chain
numbers_are [] = refl
numbers_are (leaf ∷ rest) = ap (λ (ns : List ℕ). leaf.number ∷ ns) (numbers_are rest)

module _ (version : Version) (old mid : ℕ → Body) (before after : FreeState) (first n step : ℕ)
    (so_far : AreGivenIn old mid before after first n step) (head : ℕ) (leaf : Leaf)
    (rest : Chain) (s : Space)
    (placed : IsPlaced version old before head (leaf ∷ rest) s)
    (from : first ≡ first_of (numbers rest)) where
  abbrev all_read : ReadChain
  all_read = chain_read (leaf ∷ rest)

  as_read : IsReadAs version old s.end head all_read
  as_read = read_as version old s.end head (leaf ∷ rest) placed.chain_is

  begins : BeginsAt old head (leaf_read leaf ∷ so_far.pages) n
  begins =
      let all = begins_at version old s.end head (leaf ∷ rest) placed.chain_is in (
        all.0,
        all.1 ∙ ap (λ (k : ℕ). HeadPage k (leaf_read leaf).records)
            (first_or rest ∙ sym from ∙ so_far.first_is),
        so_far.linked,
      )

  head_some : 1 ≤ leaf.number
  head_some = placed.chain_is.numbered.0

  pub given_split : IsSplit all_read (leaf_read leaf ∷ so_far.pages) n
  given_split = begins_same version old s.end head
      (leaf_read leaf ∷ so_far.pages) all_read n begins
      (head_some, so_far.numbered) as_read

  -- the chain has more pages than were given
  more_pages : length so_far.pages + 1 ≤ length (pages_in (leaf ∷ rest))
  more_pages = omega (
    arith,
    ap length given_split.parts,
    length-append (leaf_read leaf ∷ so_far.pages) given_split.later,
    length-map (leaf ∷ rest) leaf_read,
    length-map (leaf ∷ rest) (λ (l : Leaf). l.number),
    length-append (numbers (leaf ∷ rest)) (pages_of (entries_in (leaf ∷ rest))),
  )

  pub not_all : s.end ≤ step → ⊥
  not_all over = omega (arith, over, so_far.count, placed.fits, more_pages)

  -- how often they stand in the chain
  times_given_in : (m : ℕ) → times_of m (leaf.number ∷ numbers_read so_far.pages)
      + times_of m (numbers_read given_split.later) ≤ times_of m (pages_in (leaf ∷ rest))
  times_given_in m = omega (
    arith,
    times_both m (numbers (leaf ∷ rest)) (pages_of (entries_in (leaf ∷ rest))),
    ap (times_of m) (sym (numbers_are (leaf ∷ rest)) ∙ ap numbers_read given_split.parts
        ∙ map-append (λ (l : ReadLeaf). l.number) (leaf_read leaf ∷ so_far.pages)
        given_split.later),
    times_both m (leaf.number ∷ numbers_read so_far.pages) (numbers_read given_split.later),
  )

  given_apart : IsApart (numbers_read so_far.pages) s
  given_apart m =
      omega (
        arith,
        placed.apart m,
        times_given_in m,
        times_tail m leaf.number (numbers_read so_far.pages),
      )

  pub still_free : IsFreeList mid after (give (numbers_read so_far.pages) s)
  still_free = so_far.given.list s placed.free_is given_apart

  -- so many are free that one more fits
  pub room_left : after.file_end ≤ after.count → ⊥
  room_left over =
      let kept : before.count ≡ length s.free =
      ap (λ (f : FreeState). f.count) placed.free_is.kept in
      let end_is : before.file_end ≡ s.end =
      ap (λ (f : FreeState). f.file_end) placed.free_is.kept in
      omega (
        arith,
        over,
        kept,
        end_is,
        so_far.given.more,
        so_far.given.end,
        length-map so_far.pages (λ (l : ReadLeaf). l.number),
        placed.fits,
        more_pages,
      )

  -- where there are more pages, the next says so still
  pub next_says : n ≢ 0 → IsHere version old all_read (leaf_read leaf ∷ so_far.pages) n 4
  next_says more = walk_is_here version old s.end head (λ _. Unit {0}) n 4
      (length so_far.pages + 1) all_read as_read
      (record {
        before = leaf_read leaf ∷ so_far.pages;
        has_passed = (begins, more);
        numbered = (head_some, so_far.numbered);
        passed = all so_far.pages;
        kind_is = refl;
        count = omega arith;
      })
    where
      all : (chain : ReadChain) → Unit {0} × AllByRecursion (λ (_ : ReadLeaf). Unit {0}) chain
      all [] = (tt, tt)
      all (leaf ∷ rest) = (tt, all rest)

  pub next_link : (more : n ≢ 0) → SaysLink version mid n 4
      (number_or (next_says more).later 0) (next_says more).leaf.records
  next_link more =
      let here = next_says more in
      let both = ap (times_of n) (sym (numbers_are (leaf ∷ rest)) ∙ ap numbers_read here.parts
      ∙ map-append (λ (l : ReadLeaf). l.number) (leaf_read leaf ∷ so_far.pages)
      (here.leaf ∷ here.later)) in
      let apart : times_of n (numbers_read so_far.pages) ≡ 0
      = omega (
        arith,
        one_at_most n,
        both,
        times_both n (leaf.number ∷ numbers_read so_far.pages)
            (numbers_read (here.leaf ∷ here.later)),
        times_tail n leaf.number (numbers_read so_far.pages),
        stands here.leaf here.later here.number,
      ) in
      record {
        says = so_far.given.others n apart ∙ here.link.says;
        filled = here.link.filled;
        sound = here.link.sound;
      }
    where
      one_at_most : (m : ℕ) → times_of m (numbers (leaf ∷ rest)) ≤ 1
      one_at_most m = by_test (is_page m s.end) (placed.apart m)
        where
          by_test : (b : Bool) → times_of m (pages_in (leaf ∷ rest)) + times_of m s.free
              ≤ cond b 1 0 → times_of m (numbers (leaf ∷ rest)) ≤ 1
          by_test true le = omega (
            arith,
            le,
            times_both m (numbers (leaf ∷ rest)) (pages_of (entries_in (leaf ∷ rest))),
          )
          by_test false le = omega (
            arith,
            le,
            times_both m (numbers (leaf ∷ rest)) (pages_of (entries_in (leaf ∷ rest))),
          )

      stands : (l : ReadLeaf) (later : ReadChain) → n ≡ l.number
          → 1 ≤ times_of n (numbers_read (l ∷ later))
      stands l later same = subst (λ (k : ℕ). 1 ≤ times_of k (numbers_read (l ∷ later))) (sym same)
          (omega (arith, times_head l.number (numbers_read later)))
