-- A chain of which one page is rewritten.
use Rattle.std.proofs.Common.{◌≡◌, ℕ, ◌+◌, ◌≤◌, ◌==◌, cond, List, [], ◌∷◌, ◌++◌, map, refl, sym, ap, ◌∙◌, subst, arith}
use Rattle.std.proofs.lemmas.List.{map-append}
use Rattle.std.proofs.lemmas.List.Sums.{sum_by-append}
use Rattle.page_model.specs.Pages.{Body, HeadPage, OverflowPage}
use Rattle.page_model.specs.Chain.{Leaf, Chain, Entry, numbers, record_of}
use Rattle.page_model.specs.Space.{Space, is_page, times_of}
use Rattle.page_model.specs.PageBodies.{first_of, leaf_bodies, overflow_bodies, free_bodies, AreRead}
use Rattle.page_model.proofs.Frames.{kept, at_most_one}
use Rattle.page_model.proofs.Flat.{numbers-free}
use Rattle.page_model.proofs.Spaces.{times_head, times_tail}
use Rattle.bucket_chain.specs.Links.{link_body}
use Rattle.bucket_chain.specs.Chains.{chain_read, number_or, kind_behind}

-- each page of a part of a chain says its records and the next page: the first has this kind, and
-- page `after` follows the last
abbrev pub AreSaid : (ℕ → Body) → ℕ → Chain → ℕ → Type 0
AreSaid at kind [] after = Unit {0}
AreSaid at kind (leaf ∷ rest) after =
    (at leaf.number ≡ link_body kind (number_or (chain_read rest) after)
    (map record_of leaf.entries)) × AreSaid at 4 rest after

first_is : (chain : Chain) → number_or (chain_read chain) 0 ≡ first_of (numbers chain)
first_is [] = refl
first_is (leaf ∷ rest) = refl

overflow_said : (at : ℕ → Body) (chain : Chain) → AreRead at (overflow_bodies chain)
    → AreSaid at 4 chain 0
overflow_said at [] read = tt
overflow_said at (leaf ∷ rest) read = (
  read.0 ∙ ap (λ (n : ℕ). OverflowPage n (map record_of leaf.entries)) (sym (first_is rest)),
  overflow_said at rest read.1,
)

-- what is read of a chain, in these words
pub chain_said : (at : ℕ → Body) (chain : Chain) → AreRead at (leaf_bodies chain)
    → AreSaid at 3 chain 0
chain_said at [] read = tt
chain_said at (leaf ∷ rest) read = (
  read.0 ∙ ap (λ (n : ℕ). HeadPage n (map record_of leaf.entries)) (sym (first_is rest)),
  overflow_said at rest read.1,
)

overflow_read : (at : ℕ → Body) (chain : Chain) → AreSaid at 4 chain 0
    → AreRead at (overflow_bodies chain)
overflow_read at [] says = tt
overflow_read at (leaf ∷ rest) says = (
  says.0 ∙ ap (λ (n : ℕ). OverflowPage n (map record_of leaf.entries)) (first_is rest),
  overflow_read at rest says.1,
)

pub leaves_read : (at : ℕ → Body) (chain : Chain) → AreSaid at 3 chain 0
    → AreRead at (leaf_bodies chain)
leaves_read at [] says = tt
leaves_read at (leaf ∷ rest) says = (
  says.0 ∙ ap (λ (n : ℕ). HeadPage n (map record_of leaf.entries))
      (first_is rest),
  overflow_read at rest says.1,
)

-- two parts
number_or-append : (a b : Chain) (after : ℕ)
    → number_or (chain_read (a ++ b)) after ≡ number_or (chain_read a) (number_or
    (chain_read b) after)
number_or-append [] b after = refl
number_or-append (leaf ∷ a) b after = refl

kind_from : ℕ → Chain → ℕ
kind_from kind [] = kind
kind_from kind (leaf ∷ rest) = 4

four_from : (chain : Chain) → kind_from 4 chain ≡ 4
unfolding kind_from
four_from [] = refl
four_from (leaf ∷ rest) = refl

three_from : (chain : Chain) → kind_from 3 chain ≡ kind_behind (chain_read chain)
unfolding kind_from
three_from [] = refl
three_from (leaf ∷ rest) = refl

said_parts : (at : ℕ → Body) (kind : ℕ) (a b : Chain) (after : ℕ) → AreSaid at kind (a ++ b) after
    → AreSaid at kind a (number_or (chain_read b) after) × AreSaid at (kind_from kind a) b after
unfolding kind_from
said_parts at kind [] b after says = (tt, says)
said_parts at kind (leaf ∷ a) b after says =
    let rest = said_parts at 4 a b after says.1 in (
      (
        says.0 ∙ ap (λ (n : ℕ). link_body kind n (map record_of leaf.entries))
            (number_or-append a b after),
        rest.0,
      ),
      subst (λ (k : ℕ). AreSaid at k b after) (four_from a) rest.1,
    )

said_join : (at : ℕ → Body) (kind : ℕ) (a b : Chain) (after : ℕ)
    → AreSaid at kind a (number_or (chain_read b) after) → AreSaid at (kind_from kind a) b after
    → AreSaid at kind (a ++ b) after
unfolding kind_from
said_join at kind [] b after first second = second
said_join at kind (leaf ∷ a) b after first second = (
  first.0 ∙ ap (λ (n : ℕ). link_body kind n (map record_of leaf.entries)) (sym
      (number_or-append a b after)),
  said_join at 4 a b after first.1
      (subst (λ (k : ℕ). AreSaid at k b after) (sym (four_from a)) second),
)

-- how often a page comes in two parts
pub times_in : (n : ℕ) (a b : Chain)
    → times_of n (numbers (a ++ b)) ≡ times_of n (numbers a) + times_of n (numbers b)
times_in n a b = ap (times_of n) (map-append (λ (leaf : Leaf). leaf.number) a b)
    ∙ sum_by-append (λ (m : ℕ). cond (m == n) 1 0) (numbers a) (numbers b)

-- pages that are as they were
pub said_kept : (at at' : ℕ → Body) (kind : ℕ) (chain : Chain) (after : ℕ)
    → ((n : ℕ) → 1 ≤ times_of n (numbers chain) → at' n ≡ at n) → AreSaid at kind chain after
    → AreSaid at' kind chain after
said_kept at at' kind [] after same says = tt
said_kept at at' kind (leaf ∷ rest) after same says = (
  same leaf.number (omega (arith, times_head leaf.number (numbers rest))) ∙ says.0,
  said_kept at at' 4 rest after
      (λ n stands. same n (omega (arith, stands, times_tail n leaf.number (numbers rest)))) says.1,
)

pub free_kept : (at at' : ℕ → Body) (free : List ℕ) → ((n : ℕ) → 1 ≤ times_of n free → at' n
    ≡ at n)
    → AreRead at (free_bodies free) → AreRead at' (free_bodies free)
free_kept at at' free same read =
    kept at at' (free_bodies free)
    (λ n stands. same n (subst (λ (ns : List ℕ). 1 ≤ times_of n ns) (numbers-free free) stands))
    read

-- One page of a chain: it stands nowhere else.
module _ (before : Chain) (leaf : Leaf) (later : Chain) (s : Space)
    (apart : (n : ℕ) → times_of n (numbers (before ++ leaf ∷ later)) + times_of n s.free
    ≤ cond (is_page n s.end) 1 0) where
  counts : (n : ℕ) → times_of n (numbers before) + times_of n (leaf.number ∷ numbers later)
      + times_of n s.free ≤ 1
  counts n = omega (
    arith,
    apart n,
    times_in n before (leaf ∷ later),
    at_most_one
        (is_page n s.end),
  )

  pub before_apart : times_of leaf.number (numbers before) ≡ 0
  before_apart = omega (arith, counts leaf.number, times_head leaf.number (numbers later))

  pub later_apart : times_of leaf.number (numbers later) ≡ 0
  later_apart = omega (arith, counts leaf.number, times_head leaf.number (numbers later))

  pub free_apart : times_of leaf.number s.free ≡ 0
  free_apart = omega (arith, counts leaf.number, times_head leaf.number (numbers later))

-- a page that comes in a list isn't one that doesn't
pub not_there : (n m : ℕ) (ns : List ℕ) → times_of n ns ≡ 0 → 1 ≤ times_of m ns → m ≡ n → ⊥
not_there n m ns none stands same =
    omega (arith, none, subst (λ (k : ℕ). 1 ≤ times_of k ns) same stands)

-- a page that isn't in a list isn't one that is
pub not_here : (n m : ℕ) (ns : List ℕ) → 1 ≤ times_of n ns → times_of m ns ≡ 0 → m ≡ n → ⊥
not_here n m ns stands none same =
    omega (arith, none, subst (λ (k : ℕ). 1 ≤ times_of k ns) (sym same) stands)

-- the page in the middle, and the number behind it
pub middle_there : (before : Chain) (leaf : Leaf) (later : Chain)
    → 1 ≤ times_of leaf.number (numbers (before ++ leaf ∷ later))
middle_there before leaf later =
    omega (
      arith,
      times_in leaf.number before (leaf ∷ later),
      times_head leaf.number (numbers later),
    )

module _ (at at' : ℕ → Body) (before : Chain) (leaf : Leaf) (later : Chain) (after : ℕ)
    (says : AreSaid at 3 (before ++ leaf ∷ later) after)
    (same_before : (n : ℕ) → 1 ≤ times_of n (numbers before) → at' n ≡ at n) where
  -- with other entries, or with another page behind it
  pub rewritten_said : (entries : List Entry) (behind : Chain) (after' : ℕ)
      → at' leaf.number ≡ link_body (kind_behind (chain_read before)) (number_or
      (chain_read behind) after') (map record_of entries)
      → AreSaid at' 4 behind after'
      → AreSaid at' 3 (before ++ record leaf { entries = entries } ∷ behind) after'
  rewritten_said entries behind after' here rest =
      let parts = said_parts at 3 before (leaf ∷ later) after says in
      said_join at' 3 before (record leaf { entries = entries } ∷ behind) after'
      (said_kept at at' 3 before leaf.number same_before parts.0) (
        here ∙ ap (λ (k : ℕ). link_body k (number_or (chain_read behind) after')
            (map record_of entries))
            (sym (three_from before)),
        rest,
      )

  -- the pages behind it
  pub later_said : AreSaid at 4 later after
  later_said = (said_parts at 3 before (leaf ∷ later) after says).1.1

  -- the page itself
  pub here_said : at leaf.number ≡ link_body (kind_behind (chain_read before)) (number_or
      (chain_read later) after) (map record_of leaf.entries)
  here_said = (said_parts at 3 before (leaf ∷ later) after says).1.0
      ∙ ap (λ (k : ℕ). link_body k (number_or (chain_read later) after)
      (map record_of leaf.entries)) (three_from before)
