-- A change that was made with a copy of what is kept of the meta page.
use Rattle.std.proofs.Common.{◌≡◌, ◌↔◌, ℕ, true, Result, Err, refl, sym, subst}
use Rattle.dbm_model.specs.Bounds.{Bounds}
use Rattle.dbm_model.specs.Pairs.{Contents}
use Rattle.page_model.specs.Pages.{Meta}
use Rattle.page_model.specs.Valid.{IsMeta}
use Rattle.page_io.specs.Answers.{HasDeviceCause}
use Rattle.page_io.specs.declared.store.PageStore.{Ghosts}
use Rattle.page_io.specs.declared.store.PageFault.{PageFault}
use Rattle.page_io.specs.Committing.{Holds, IsForgotten, IsUntouched}
use Rattle.linear_hash.specs.Holding.{IsEnded, ChangesMap}
use Rattle.linear_hash.specs.Staging.{IsChangeAnswer}

module _ {S : Type 0} (s : Ghosts S) (old new : S) (before : Meta) where
  -- what it makes of the map
  pub turned : (copied after : Meta) (map changed : Contents) (wanted : Meta → Bounds)
      (most : Meta → ℕ) (result : Result Unit PageFault) → copied ≡ before
      → (Holds s old copied map
      → ChangesMap s old new copied after map changed (wanted copied) (most copied) result)
      → Holds s old before map
      → ChangesMap s old new before after map changed (wanted before) (most before) result
  turned copied after map changed wanted most result is told =
      subst (λ (m : Meta). Holds s old m map
      → ChangesMap s old new m after map changed (wanted m) (most m) result) is told

  -- where it was refused, nothing of the copy is kept
  module _ (result : Result Unit PageFault) (e : PageFault) (exit : result ≡ Err e) where
    pub refused_ends : IsMeta before → IsForgotten (s.state old) (s.state new) e
        → (s.honest old → (s.state new).usable ≡ true → IsUntouched s old new)
        → HasDeviceCause {T = Unit} (s.faults old) (s.faults new) (Err e)
        → (s.honest new ↔ s.honest old)
        → IsChangeAnswer {T = Unit} (s.state old) (Err e) → IsEnded s old new before before result
    refused_ends valid forgotten kept cause honesty answer =
        subst (IsEnded s old new before before) (sym exit)
        (record {
          ok = tt;
          err = (forgotten, refl);
          kept = kept;
          valid = valid;
          cause = cause;
          honesty = honesty;
          answer = answer;
        })

    pub refused_turn : (after : Meta) (map changed : Contents) (wanted : Bounds) (most : ℕ)
        → ChangesMap s old new before after map changed wanted most (Err e)
        → ChangesMap s old new before before map changed wanted most result
    refused_turn after map changed wanted most told =
        subst (ChangesMap s old new before before map changed wanted most) (sym exit)
        (record {
          done = tt;
          bounds = tt;
          kept = told.kept;
          any_moment = told.any_moment;
          unchanged =
              told.unchanged;
          whole = told.whole;
          grows = tt;
          bounded = tt;
          no_room = told.no_room;
        })
