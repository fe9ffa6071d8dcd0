-- A chain whose overflow pages were given and whose head page was emptied.
use Rattle.std.proofs.Common.{◌≡◌, ◌≢◌, ℕ, ◌+◌, ◌≤◌, ◌==◌, Bool, true, false, cond, List, [], ◌∷◌, ◌++◌, length, reverse, append-nil, refl, sym, ap, ◌∙◌, subst, arith}
use Rattle.std.specs.Prelude.{AllPairs}
use Rattle.std.proofs.lemmas.List.{length-append, length-reverse}
use Rattle.std.proofs.lemmas.List.Sums.{sum_by-append}
use Rattle.dbm_model.specs.Bounds.{Version}
use Rattle.page_model.specs.Pages.{Body, HeadPage, Record}
use Rattle.page_model.specs.Chain.{Leaf, Chain, numbers, pages_of, entries_in}
use Rattle.page_model.specs.Space.{Space, give, is_page, times_of}
use Rattle.page_model.specs.PageBodies.{first_of, free_bodies, AreRead}
use Rattle.page_model.proofs.Chains.{AllByRecursion-right}
use Rattle.page_model.proofs.Spaces.{times_head}
use Rattle.free_pages.specs.declared.free_state.FreeState.{FreeState}
use Rattle.free_pages.specs.FreeList.{IsFreeList}
use Rattle.bucket_chain.specs.Links.{SaysLink}
use Rattle.bucket_chain.specs.Chains.{ReadLeaf, ReadChain, leaf_read, chain_read, number_or}
use Rattle.bucket_chain.specs.Walks.{IsReadToEnd}
use Rattle.bucket_chain.specs.Giving.{AreOverflowGiven}
use Rattle.bucket_chain.specs.AnyFile.{IsEmptied, numbers_read}
use Rattle.bucket_chain.specs.Changes.{IsPlaced, IsCleared, store_in}
use Rattle.bucket_chain.proofs.Walks.{leaf_of, AreNumbered, one_next, read_as}
use Rattle.bucket_chain.proofs.KeyWalks.{none_later}
use Rattle.bucket_chain.proofs.Rewriting.{free_kept, not_there, not_here}
use Rattle.content_pages.proofs.PageCounts.{times_both}
use Rattle.bucket_chain.proofs.OverflowGivings.{AreGivenIn, first_or, numbers_are, given_split, still_free}
use Rattle.content_pages.proofs.ContentGivings.{times_given}

-- all pages were given
abbrev pub all_given : (old mid : ℕ → Body) (state state' : FreeState) (first : ℕ)
    (given : AreOverflowGiven old mid state state' first)
    → AreGivenIn old mid state state' first 0 (length given.pages)
all_given old mid state state' first given = record {
  pages = given.pages;
  linked = given.linked;
  first_is = given.first_is;
  numbered = given.numbered;
  given = given.given;
  count = refl;
}

-- the chain was read to its end
pub was_read : (version : Version) (old mid : ℕ → Body) (state state' : FreeState) (head first : ℕ)
    (records : List Record) → SaysLink version old head 3 first records
    → AreOverflowGiven old mid state state' first → IsReadToEnd old head
was_read version old mid state state' head first records link given = record {
  chain = leaf_of head records ∷ given.pages;
  are_read = (refl, link.says ∙ ap (λ (n : ℕ). HeadPage n records) given.first_is, given.linked);
}

-- on any file: it was, its overflow pages were given, and its head page was emptied
pub emptied : (version : Version) (old mid new : ℕ → Body) (before after : FreeState)
    (head first : ℕ) (records : List Record) → SaysLink version old head 3 first records
    → AreOverflowGiven old mid before after first → new head ≡ HeadPage 0 []
    → ((m : ℕ) → (m ≡ head → ⊥) → new m ≡ mid m) → IsEmptied old new before after head
emptied version old mid new before after head first records link given here others = record {
  leaf = leaf_of head records;
  overflow = given.pages;
  are_read = (refl, link.says ∙ ap (λ (n : ℕ). HeadPage n records) given.first_is, given.linked);
  mid = mid;
  given = given.given;
  empty = here;
  others = others;
}

-- what its head says
pub head_link : (version : Version) (old : ℕ → Body) (state : FreeState) (head : ℕ) (leaf : Leaf)
    (rest : Chain) (s : Space) → IsPlaced version old state head (leaf ∷ rest) s
    → SaysLink version old head 3 (number_or (chain_read rest) 0) (leaf_read leaf).records
head_link version old state head leaf rest s placed =
    let links = (read_as version old s.end head (leaf ∷ rest) placed.chain_is).links in
    subst (λ (n : ℕ). SaysLink version old n 3 (number_or (chain_read rest) 0)
    (leaf_read leaf).records) (sym placed.chain_is.from) links.0

-- its head has a number
pub head_some : (version : Version) (old : ℕ → Body) (state : FreeState) (head : ℕ) (leaf : Leaf)
    (rest : Chain) (s : Space) → IsPlaced version old state head (leaf ∷ rest) s → 1 ≤ head
head_some version old state head leaf rest s placed =
    subst (λ (n : ℕ). 1 ≤ n) (sym placed.chain_is.from) placed.chain_is.numbered.0

-- the page that its head names
pub first_is : (version : Version) (old : ℕ → Body) (state : FreeState) (head first : ℕ)
    (records : List Record) (leaf : Leaf) (rest : Chain) (s : Space)
    → IsPlaced version old state head (leaf ∷ rest) s
    → SaysLink version old head 3 first records → first ≡ first_of (numbers rest)
first_is version old state head first records leaf rest s placed link =
    (one_next version old head 3 first (number_or (chain_read rest) 0) records
    (leaf_read leaf).records link (head_link version old state head leaf rest s placed)).0
    ∙ first_or rest

module _ (version : Version) (old mid at' : ℕ → Body) (state state' : FreeState) (head first : ℕ)
    (records : List Record) (leaf : Leaf) (rest : Chain) (s : Space)
    (placed : IsPlaced version old state head (leaf ∷ rest) s)
    (link : SaysLink version old head 3 first records)
    (given : AreOverflowGiven old mid state state' first) where
  from : first ≡ first_of (numbers rest)
  from = first_is version old state head first records leaf rest s placed link

  abbrev in_all : AreGivenIn old mid state state' first 0 (length given.pages)
  in_all = all_given old mid state state' first given

  same_pages : given.pages ≡ chain_read rest
  same_pages =
      let split = given_split version old mid state state' first 0 (length given.pages) in_all head
      leaf rest s placed from in
      let read = read_as version old s.end head (leaf ∷ rest) placed.chain_is in
      let numbered = AllByRecursion-right (λ (l : ReadLeaf). 1 ≤ l.number)
      (leaf_read leaf ∷ given.pages) split.later (subst AreNumbered split.parts read.numbered) in
      let nothing : split.later ≡ [] = none_later split.later numbered (sym split.next) in
      let tail : chain_read rest ≡ given.pages ++ split.later = let parts = split.parts in cc in
      sym (tail ∙ ap (λ (c : ReadChain). given.pages ++ c) nothing ∙ append-nil given.pages)

  same_numbers : numbers_read given.pages ≡ numbers rest
  same_numbers = ap numbers_read same_pages ∙ numbers_are rest

  free_list : IsFreeList mid state' (give (numbers rest) s)
  free_list = subst (λ (ns : List ℕ). IsFreeList mid state' (give ns s)) same_numbers
      (still_free version old mid state state' first 0 (length given.pages) in_all head leaf
      rest s placed from)

  -- the pages of the chain without those of its contents
  own : (n : ℕ) → times_of n (leaf.number ∷ numbers rest) + times_of n s.free
      ≤ cond (is_page n s.end) 1 0
  own n = omega (
    arith,
    placed.apart n,
    times_both n (numbers (leaf ∷ rest)) (pages_of (entries_in (leaf ∷ rest))),
  )

  apart : (n : ℕ) → times_of n (leaf.number ∷ numbers rest) + times_of n s.free ≤ 1
  apart n = by_test (is_page n s.end) (own n)
    where
      by_test : (b : Bool) → times_of n (leaf.number ∷ numbers rest) + times_of n s.free
          ≤ cond b 1 0 → times_of n (leaf.number ∷ numbers rest) + times_of n s.free ≤ 1
      by_test true le = le
      by_test false le = omega (arith, le)

  head_apart : times_of leaf.number (give (numbers rest) s).free ≡ 0
  head_apart = omega (
    arith,
    apart leaf.number,
    times_head leaf.number (numbers rest),
    times_given leaf.number (numbers rest) s,
  )

  pub cleared : at' head ≡ HeadPage 0 [] → ((n : ℕ) → (n ≡ head → ⊥) → at' n ≡ mid n)
      → IsCleared version old at' state' head (store_in (leaf ∷ rest, s) [])
  cleared here others =
      let number : head ≡ leaf.number = placed.chain_is.from in
      let read : at' leaf.number ≡ HeadPage 0 [] = ap at' (sym number) ∙ here in
      let free_read : AreRead at' (free_bodies (give (numbers rest) s).free) =
      free_kept mid at' (give (numbers rest) s).free
      (λ n stands. others n (λ same.
      not_there leaf.number n (give (numbers rest) s).free head_apart stands
      (same ∙ number))) free_list.are_read in
      record {
        becomes = record {
          rewritten = record {
            chain_read = (read, tt);
            free_read = free_read;
            others = λ n none.
                let other : n ≡ head → ⊥ = λ same.
                not_here leaf.number n (leaf.number ∷ [])
                (omega (arith, times_head leaf.number [])) (omega (arith, none))
                (same ∙ number) in
                others n other ∙ given.given.others n
                (omega (
                  arith,
                  none,
                  times_given n (numbers rest) s,
                  ap (times_of n) same_numbers,
                ));
          };
          kept = free_list.kept;
        };
        is_placed = record {
          chain_is = record {
            are_read = (read, tt);
            is_chain = (omega arith, tt, tt);
            from = number;
            few = omega (arith, placed.fits);
            numbered = (placed.chain_is.numbered.0, tt);
            entered = tt;
            sound = (record { distinct = no_keys; told = tt; of_version = tt }, tt);
          };
          free_is = record {
            kept = free_list.kept;
            are_read = free_read;
            some =
                placed.free_is.some;
          };
          apart = λ n. omega (arith, own n, times_given n (numbers rest) s, one_more n);
          fits = omega (
            arith,
            placed.fits,
            length-append (numbers (leaf ∷ rest)) (pages_of (entries_in (leaf ∷ rest))),
            length-append (reverse (numbers rest)) s.free,
            length-reverse (numbers rest),
          );
        };
        empty = refl;
      }
    where
      no_keys : AllPairs (λ (r q : Record). r.key ≢ q.key) []
      no_keys i j d lt le = absurd (omega arith)

      one_more : (n : ℕ) → times_of n (leaf.number ∷ numbers rest) ≡ times_of n (leaf.number ∷ [])
          + times_of n (numbers rest)
      one_more n = sum_by-append (λ (m : ℕ). cond (m == n) 1 0) (leaf.number ∷ []) (numbers rest)

-- a chain has a head page
pub each_chain : {X : Type 0} (version : Version) (at : ℕ → Body) (state : FreeState) (head : ℕ)
    (chain : Chain) (s : Space) → IsPlaced version at state head chain s
    → ((leaf : Leaf) (rest : Chain) → chain ≡ leaf ∷ rest
    → IsPlaced version at state head (leaf ∷ rest) s → X) → X
each_chain version at state head [] s placed f = absurd placed.chain_is.is_chain
each_chain version at state head (leaf ∷ rest) s placed f = f leaf rest refl placed

-- a chain and a free list read alike are placed alike
pub placed_same : (version : Version) (at at' : ℕ → Body) (state : FreeState) (head : ℕ)
    (chain : Chain) (s : Space) → at' ≡ at → IsPlaced version at state head chain s
    → IsPlaced version at' state head chain s
placed_same version at at' state head chain s same placed =
    subst (λ (f : ℕ → Body). IsPlaced version f state head chain s) (sym same) placed
