-- What closing a database leaves of its device.
use Rattle.std.proofs.Common.{◌≡◌, ◌⊎◌, inl, inr, ⊎_elim, ℕ, ◌/◌, ◌≤◌, false, Result, Ok, Err, OnOk, IfErr, refl, sym, ap, subst}
use Rattle.std.specs.Prelude.{IsErrOf}
use Rattle.sect_dev.specs.Device.{Image, LeavesOnly}
use Rattle.sect_dev.specs.Moments.{IsOutcome}
use Rattle.sect_dev.specs.declared.device.SectorDev as device
use Rattle.page_io.specs.Store.{Settled, StoreState}
use Rattle.page_io.specs.declared.store.PageFault.{PageFault}
use Rattle.page_io.specs.declared.store.PageFault.TheVariants.{Broken, Device}
use Rattle.redo_area.specs.File.{settled}

-- the moments of a device are those of a layer above it
pub lower : {S D : Type 0} (dev : device.Ghosts D) (below : S → D) (old new : S)
    (P Q : Settled → Type 0) → dev.sectors (below new) / 4 ≡ dev.sectors (below old) / 4
    → LeavesOnly (λ p. dev.moment (below p))
    (λ p. IsOutcome dev.left_since (settled (dev.sectors (below p) / 4)) (below p)) old new P
    → ((y : Settled) → P y → Q y)
    → LeavesOnly dev.moment
    (IsOutcome dev.left_since (settled (dev.sectors (below old) / 4))) (below old) (below new) Q
lower dev below old new P Q same run weaker =
    let at_own : (t : ℕ) (y : Settled)
    → IsOutcome dev.left_since (settled (dev.sectors (below old) / 4)) (below new) t y
    → IsOutcome dev.left_since (settled (dev.sectors (below new) / 4)) (below new) t y =
    λ t y is.
    subst (λ (n : ℕ). IsOutcome dev.left_since (settled n) (below new) t y) (sym same) is in
    record {
      later = run.later;
      until = run.until;
      each = λ y is. weaker y (run.each y (at_own (dev.moment (below old)).at y is));
      before = λ t y le is. ⊎_elim (λ past. inl past) (λ p. inr (weaker y p))
          (run.before t y le (at_own t y is));
    }

-- what they leave, an image that is left now does too
pub left_now : {D : Type 0} (dev : device.Ghosts D) (old new : D) (P : Settled → Type 0)
    (image : Image) → dev.sectors new / 4 ≡ dev.sectors old / 4
    → LeavesOnly dev.moment (IsOutcome dev.left_since (settled (dev.sectors old / 4))) old new P
    → ((dev.moment old).at ≤ (dev.moment new).at → dev.left_since new (dev.moment old).at image)
    → P (settled (dev.sectors new / 4) image)
left_now dev old new P image same run counts =
    subst (λ (n : ℕ). P (settled n image)) (sym same)
    (run.each (settled (dev.sectors old / 4) image)
    (record { left = image; is_left = counts run.later; reads = refl }))

-- whatever a settling answers, there is as much room
pub same_capacity : {T : Type 0} (before now : StoreState) (result : Result T PageFault)
    → OnOk result (now ≡ before)
    → (IsErrOf result Device → now ≡ record before { usable = false })
    → (IsErrOf result Broken → now.capacity ≡ before.capacity)
    → IfErr result (λ e. (e ≡ Broken) ⊎ (e ≡ Device)) → now.capacity ≡ before.capacity
same_capacity before now (Ok x) ok breaks broken only = ap (λ (st : StoreState). st.capacity) ok
same_capacity before now (Err e) ok breaks broken only = elim only [
  | inl is ↦ broken (ap Err is)
  | inr failed ↦ ap (λ (st : StoreState). st.capacity) (breaks (ap Err failed))
]
