-- What a store in memory answers.
use Rattle.std.proofs.Common.{◌≡◌, inl, inr, ℕ, ◌+◌, ◌-◌, ◌<◌, ◌≤◌, max, true, Ok, Err, refl, sym, ◌∙◌, arith}
use Rattle.std.proofs.lemmas.Bool.{false≢true}
use Rattle.page_io.specs.Answers.{IsReadAnswer, IsCommitAnswer, LacksPages}
use Rattle.page_io.specs.Store.{StoreState, IsKnown}
use Rattle.page_io.specs.declared.store.PageFault.TheVariants.{NoRoom}

module _ {T : Type 0} (state : StoreState) (n : ℕ) (usable : state.usable ≡ true) where
  -- a page that is there is read
  pub known_answer : (x : T) → IsKnown state n → IsReadAnswer state n (Ok x)
  known_answer x known = record {
    broken = (λ is. cc, λ not. absurd (false≢true (sym not ∙ usable)));
    damaged = (λ is. cc, λ both. absurd (both.1 known));
    only = tt;
  }

module _ {T : Type 0} (state : StoreState) (end : ℕ) (usable : state.usable ≡ true)
    (writable : state.writable ≡ true) where
  -- a commit for which there is room is done
  pub fits_answer : (x : T) → (LacksPages state end → ⊥) → IsCommitAnswer state end (Ok x)
  fits_answer x fits = record {
    broken = (λ is. cc, λ not. absurd (false≢true (sym not ∙ usable)));
    read_only = (λ is. cc, λ both. absurd (false≢true (sym both.1 ∙ writable)));
    no_room = (λ is. cc, λ all. absurd (fits all.2));
    only = tt;
  }

  -- and no other
  pub full_answer : LacksPages state end → IsCommitAnswer {T = T} state end (Err NoRoom)
  full_answer lacks = record {
    broken = (λ is. cc, λ not. absurd (false≢true (sym not ∙ usable)));
    read_only = (λ is. cc, λ both. absurd (false≢true (sym both.1 ∙ writable)));
    no_room = (λ is. (usable, writable, lacks), λ all. refl);
    only = inl (inr (inr refl));
  }

-- the room behind the greater end, and how many pages are staged
module _ (room capacity all greater old new count staged : ℕ) (is : room ≡ capacity - greater)
    (all_is : capacity ≡ all) (greater_is : greater ≡ max old new) (count_is : count ≡ staged) where
  pub lacks_room : room < count → all < max old new + staged
  lacks_room more = omega (arith, is, all_is, greater_is, count_is, more)

  pub end_within : count ≤ room → 0 < staged → new ≤ all
  end_within fits some = omega (arith, is, all_is, greater_is, count_is, fits, some)
