-- A free list, and what a page that comes in front leaves of it.
use Rattle.std.proofs.Common.{◌≡◌, ◌↔◌, ℕ, ◌+◌, ◌-◌, ◌<◌, ◌≤◌, Bool, true, false, not, eqb, cond, Some, None, List, [], ◌∷◌, length, refl, sym, ap, ◌∙◌, subst, arith}
use Rattle.std.proofs.lemmas.Bool.Decides.{nat_tests}
use mathlib.Core.Bool.{beq}
use Rattle.page_model.specs.Pages.{Body, FreePage}
use Rattle.page_model.specs.PageBodies.{first_of, free_bodies, AreRead}
use Rattle.page_model.specs.Space.{Space, after_take, give, is_page, times_of}
use Rattle.page_model.proofs.Frames.{at_most_one}
use Rattle.page_model.proofs.Spaces.{times_head, times_tail}
use Rattle.free_pages.specs.FreeList.{state_of, IsFreeList, IsApart, IsFirstTaken, HasEnds}
use Rattle.free_pages.specs.declared.free_state.FreeState.{FreeState}

-- a page that stands apart isn't free
pub not_free : (n : ℕ) (s : Space) → IsApart (n ∷ []) s → times_of n s.free ≡ 0
not_free n s apart = omega (arith, apart n, times_head n [], at_most_one (is_page n s.end))

-- pages other than n are read as before
pub free_stays : (at at' : ℕ → Body) (n : ℕ) (free : List ℕ) → times_of n free ≡ 0
    → ((m : ℕ) → (m ≡ n → ⊥) → at' m ≡ at m) → AreRead at (free_bodies free)
    → AreRead at' (free_bodies free)
free_stays at at' n [] none others read = tt
free_stays at at' n (m ∷ rest) none others read = (
  others m (λ same. let twice : times_of n (n ∷ rest) ≡ 0 =
      subst (λ (k : ℕ). times_of n (k ∷ rest) ≡ 0) same none in
      absurd (omega (arith, twice, times_head n rest))) ∙ read.0,
  free_stays at at' n rest (omega (arith, none, times_tail n m rest)) others read.1,
)

-- page n comes in front
pub given_reads : (at at' : ℕ → Body) (state : FreeState) (s : Space) (n : ℕ)
    → IsFreeList at state s → IsApart (n ∷ []) s → at' n ≡ FreePage state.head
    → ((m : ℕ) → (m ≡ n → ⊥) → at' m ≡ at m)
    → IsFreeList at' (record { head = n; count = state.count + 1; file_end = state.file_end })
    (give (n ∷ []) s)
given_reads at at' state s n list apart front others =
    let count : state.count + 1 ≡ length (n ∷ s.free) =
    omega (arith, ap (λ (t : FreeState). t.count) list.kept) in
    let end : state.file_end ≡ s.end = ap (λ (t : FreeState). t.file_end) list.kept in
    record {
      kept = λ i. record { head = n; count = count i; file_end = end i };
      are_read = (
        front ∙ ap FreePage (ap (λ (t : FreeState). t.head) list.kept),
        free_stays at at' n s.free (not_free n s apart) others list.are_read,
      );
      some = list.some;
    }

-- page 0 is none of the file's
page_some : (n end : ℕ) → 1 ≤ cond (is_page n end) 1 0 → 1 ≤ n
page_some n end h = grind (arith, nat_tests)

-- a page of the free list
free_some : (n : ℕ) (s : Space) → IsApart [] s → 1 ≤ times_of n s.free → 1 ≤ n
free_some n s apart stands = page_some n s.end (omega (arith, apart n))

-- there is a first free page exactly where there are free ones
free_ends : (free : List ℕ) → ((n : ℕ) → 1 ≤ times_of n free → 1 ≤ n)
    → (first_of free ≡ 0) ↔ (length free ≡ 0)
free_ends [] some = (λ e. refl, λ e. refl)
free_ends (n ∷ rest) some = (
  λ e. absurd (omega (arith, some n, times_head n rest)),
  λ e.
      absurd (omega arith),
)

-- and so it is kept
pub list_ends : (at : ℕ → Body) (state : FreeState) (s : Space) → IsFreeList at state s
    → IsApart [] s → HasEnds state
list_ends at state s list apart =
    subst HasEnds (sym list.kept) (free_ends s.free (λ n. free_some n s apart))

-- the first page of a free list can be taken
pub first_free : (at : ℕ → Body) (state : FreeState) (s : Space) → IsFreeList at state s
    → IsApart [] s → 0 < state.head → IsFirstTaken at state state.head (state_of (after_take s))
first_free at state s list apart =
    subst (λ (t : FreeState). 0 < t.head → IsFirstTaken at t t.head (state_of (after_take s)))
    (sym list.kept) (by_free s.free s.end list.are_read (λ n. free_some n s apart))
  where
    by_free : (free : List ℕ) (end : ℕ) → AreRead at (free_bodies free)
        → ((n : ℕ) → 1 ≤ times_of n free → 1 ≤ n) → 0 < first_of free
        → IsFirstTaken at (state_of (record { free = free; end = end })) (first_of free)
        (state_of (after_take (record { free = free; end = end })))
    by_free [] end read each some = absurd (omega arith)
    by_free (n ∷ rest) end read each some = record {
      some = some;
      first = refl;
      free = read.0;
      one_less = omega arith;
      ends = free_ends rest (λ m stands. each m (omega (arith, stands, times_tail m n rest)));
      end = refl;
    }

-- the code's test, whether just one of two numbers is as it is named here
abbrev pub differ : ℕ → ℕ → ℕ → Bool
differ head count least = not (beq (eqb head 0) (eqb count least))

-- what is left of a free list has a first page exactly where there is one more page
pub rest_ends : (next count : ℕ) → 0 < count → differ next count 1 ≡ false
    → (next ≡ 0) ↔ (count - 1 ≡ 0)
rest_ends next count some same = grind (arith, nat_tests)

pub rest_is_well : (next count : ℕ) (rest : FreeState) → next ≡ rest.head → HasEnds rest
    → rest.count + 1 ≡ count → differ next count 1 ≡ true → ⊥
rest_is_well next count rest first ends one other = grind (arith, nat_tests)

pub list_is_well : (state : FreeState) → HasEnds state
    → differ state.head state.count 0 ≡ true → ⊥
list_is_well state ends other = grind (arith, nat_tests)

pub one_next : (next other : ℕ) → Some next ≡ Some other → next ≡ other
one_next next other same = cc

pub none_read : (next : ℕ) → Some next ≡ None → ⊥
none_read next same = absurd (cc)
