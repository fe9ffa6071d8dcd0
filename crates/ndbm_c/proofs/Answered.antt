-- A call on the database that a handle holds.
use Rattle.std.proofs.Common.{◌≡◌, ◌<◌, ℤ, sym, subst, w32, to_z, of_z}
use Rattle.std.specs.Int.Signed.{mag}
use Rattle.ndbm_c.specs.Held.{OnOpen}
use Rattle.ndbm_c.specs.declared.handle.Open.{Open}
use Rattle.ndbm_c.specs.declared.handle.Open.TheVariants.{Database}
use Rattle.ndbm_c.specs.declared.handle.Opened.{Opened}
use Rattle.ndbm_c.proofs.Opened.{same_number}

pub on_open : (held : Open) (old new : Opened) (Goes : ℤ → Opened → Opened → Type 0) (status : ℤ)
    → mag status < 2147483648 → held ≡ Database old → Goes status old new
    → OnOpen held (Database new) (to_z w32 (of_z w32 status)) (Goes (to_z w32 (of_z w32 status)))
on_open held old new Goes status small same is =
    subst (λ (n : ℤ). OnOpen held (Database new) n (Goes n)) (sym (same_number status small))
    (subst (λ (h : Open). OnOpen h (Database new) status (Goes status)) (sym same) is)
