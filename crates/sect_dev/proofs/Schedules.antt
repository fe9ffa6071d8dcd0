-- Which of the calls to come fail, as the schedules count them.
use Rattle.std.proofs.Common.{◌≡◌, ◌≤◌, ◌+◌, ℕ, leb, eqb, true, false, IsTrue, Option, Some, sym, ap, subst, ◌∙◌, arith, rules, ◌↔◌}
use Rattle.std.proofs.lemmas.Bool.{le-leb}
use Rattle.std.proofs.lemmas.Bool.Decides.{nat_tests, Decides-eqb}
use Rattle.sect_dev.specs.Schedule.{fails_once}
use Rattle.sect_dev.specs.declared.fuse.AllAfter.{AllAfter}
use Rattle.sect_dev.specs.contracts.fuse.AllAfterSchedule.TheImpl.{ghosts as AllAfterGhosts}

-- the one call that fails is the next one
module _ (schedule : Option ℕ) (k : ℕ) (is : schedule ≡ Some k) (first : k ≡ 0) where
  pub fails_now : true ≡ fails_once schedule 0
  fails_now = sym (ap (λ (p : Option ℕ). fails_once p 0) (is ∙ ap Some first))

  pub fails_no_more : (i : ℕ) → false ≡ fails_once schedule (i + 1)
  fails_no_more i =
      let no : false ≡ eqb (i + 1) 0 = search (rules, nat_tests) in
      no ∙ sym (ap (λ (p : Option ℕ). fails_once p (i + 1)) (is ∙ ap Some first))

-- the only call that fails
pub fails_at : (schedule : Option ℕ) (k : ℕ) → schedule ≡ Some k → (i : ℕ)
    → IsTrue (fails_once schedule i) ↔ (i ≡ k)
fails_at schedule k is i = subst (λ (p : Option ℕ). IsTrue (fails_once p i) ↔ (i ≡ k)) (sym is)
    (Decides-eqb i k)

-- a moment is none behind that up to which calls are passed on
pub goes_until : (schedule : AllAfter) (now : ℕ) → now ≤ AllAfterGhosts.until schedule now
goes_until schedule now = omega arith

-- no call is left that passes
module _ (calls_left : ℕ) (none : calls_left ≡ 0) where
  pub blown : true ≡ leb calls_left 0
  blown = sym (le-leb calls_left 0 (omega (arith, none)))

  pub stays_blown : (i : ℕ) → leb calls_left i ≡ leb calls_left (i + 1)
  stays_blown i = le-leb calls_left i (omega (arith, none)) ∙ sym (le-leb calls_left (i + 1)
      (omega (arith, none)))
