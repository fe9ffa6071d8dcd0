-- What a stop leaves within calls, read otherwise and one after another.
use Rattle.std.proofs.Common.{◌≡◌, inl, inr, ⊎_elim, ◌≤◌, sym, subst, arith}
use Rattle.page_io.specs.Store.{Settled}
use Rattle.page_io.specs.declared.store.PageStore.{Ghosts}
use Rattle.dbm_file.specs.Answers.{StandsForSome, Survives}
use Rattle.dbm_file.specs.Held.{Held}
use Rattle.dbm_file.specs.Database.{store_of}
use Rattle.dbm_file.specs.declared.database.Database.{Database}

-- of more
pub survives_among : {S : Type 0} (s : Ghosts S) (old new : Database S s) (P Q : Held → Type 0)
    → Survives old new Q → ((held : Held) → Q held → P held) → Survives old new P
survives_among s old new P Q run more = record {
  later = run.later;
  until = run.until;
  each = λ x left. let is = run.each x left in (is.0, more is.0 is.1, is.2);
  before = λ t x le left. ⊎_elim (λ past. inl past) (λ is. inr (is.0, more is.0 is.1, is.2))
      (run.before t x le left);
}

-- one after another
pub survives_then : {S : Type 0} (s : Ghosts S) (old mid new : Database S s)
    (P Q : Held → Type 0) → Survives old mid P → Survives mid new Q
    → ((held : Held) → Q held → P held)
    → Survives old new P
survives_then s old mid new P Q first second more = record {
  later = omega (arith, first.later, second.later);
  until = omega (arith, first.until, second.until);
  each = λ x left. ⊎_elim (λ past. first.each x past) (λ is. now x is)
      (second.before (s.moment (store_of old)).at x first.later left);
  before = λ t x le left. ⊎_elim (λ past. first.before t x le past) (λ is. inr (now x is))
      (second.before t x (omega (arith, le, first.later)) left);
}
  where
    now : (x : Settled) → StandsForSome Q x → StandsForSome P x
    now x is = (is.0, more is.0 is.1, is.2)

-- where the second ones made no device call
pub survives_still : {S : Type 0} (s : Ghosts S) (old mid new : Database S s)
    (P : Held → Type 0) → Survives old mid P → store_of new ≡ store_of mid
    → Survives old new P
survives_still {S} s old mid new P run still = record {
  later = subst (λ (d : S). (s.moment (store_of old)).at ≤ (s.moment d).at) (sym still) run.later;
  until = subst (λ (d : S). (s.moment d).until ≤ (s.moment (store_of old)).until) (sym still)
      run.until;
  each = λ x left. run.each x
      (subst (λ (d : S). s.settled_since d (s.moment (store_of old)).at x) still left);
  before = λ t x le left. run.before t x le
      (subst (λ (d : S). s.settled_since d t x) still left);
}
