-- What is said where an opening ends.
use Rattle.std.proofs.Common.{◌≡◌, ◌≢◌, ◌⊎◌, ⊎_elim, inl, inr, ℕ, ◌≤◌, ◌↔◌, Bool, true, false, cond, not, ◌&&◌, Option, Some, None, Result, Ok, Err, IfOk, refl, sym, ap, ◌∙◌, subst, arith}
use Rattle.std.specs.Prelude.{IfSome, nat_lt}
use Rattle.std.specs.FinMap.{empty}
use Rattle.sect_dev.specs.Device.{Image, IsImageOf, IsStable, LeavesOnly}
use Rattle.sect_dev.specs.Moments.{IsOutcome, weaker}
use Rattle.sect_dev.specs.declared.device.SectorDev as device
use Rattle.dbm_model.specs.Bounds.{Bounds}
use Rattle.dbm_model.specs.Pairs.{Contents}
use Rattle.page_io.specs.Answers.{IsReadAnswer}
use Rattle.page_io.specs.Store.{Settled, StoreState}
use Rattle.page_io.specs.declared.store.PageFault.{PageFault}
use Rattle.page_io.specs.declared.store.PageFault.TheVariants as page
use Rattle.page_io.specs.declared.store.PageStore as store
use Rattle.redo_area.specs.File.{settled, SettlesAsBefore}
use Rattle.redo_area.specs.Opening.{IsFresh as IsFreshStore}
use Rattle.sect_dev.specs.Reads.{OnlyReads}
use Rattle.redo_area.specs.Settling.{SettlesTo, only_seen}
use Rattle.file_opening.specs.Opening.{writes, bounds_of, is_exclusive, early_fault}
use Rattle.file_opening.specs.OpenFiles.{StandsAs, OpensAs, IsJustOpened}
use Rattle.file_opening.specs.declared.file.OpenFile.{OpenFile}
use Rattle.file_opening.specs.declared.open_how.OpenHow.{OpenHow}
use Rattle.dbm_fault.specs.declared.fault.Fault.{Fault}
use Rattle.dbm_fault.specs.declared.fault.Fault.TheVariants.{Memory, Device, Broken, ReadOnly, TooLong, Full, NoPass, NoRoom, Damaged, NotADatabase, Version, TooSmall, BadLimit, Missing, Exists}
use Rattle.page_io.proofs.Exits.{not_both}
use Rattle.file_opening.proofs.EmptyFiles.{settles_run}

-- ---- Booleans

pub not_on : (b : Bool) → (b ≡ true → ⊥) → b ≡ false
not_on true none = absurd (none refl)
not_on false none = refl

-- ---- faults

-- a fault that may refuse an opening is none of these
abbrev pub IsOpening : Fault → Type 0
IsOpening f = (f ≢ Broken) × (f ≢ TooLong) × (f ≢ Full) × (f ≢ NoPass) × (f ≢ Missing)

pub memory_opens : IsOpening Memory
memory_opens = (λ is. cc, λ is. cc, λ is. cc, λ is. cc, λ is. cc)

pub device_opens : IsOpening Device
device_opens = (λ is. cc, λ is. cc, λ is. cc, λ is. cc, λ is. cc)

read_only_opens : IsOpening ReadOnly
read_only_opens = (λ is. cc, λ is. cc, λ is. cc, λ is. cc, λ is. cc)

no_room_opens : IsOpening NoRoom
no_room_opens = (λ is. cc, λ is. cc, λ is. cc, λ is. cc, λ is. cc)

damaged_opens : IsOpening Damaged
damaged_opens = (λ is. cc, λ is. cc, λ is. cc, λ is. cc, λ is. cc)

no_database_opens : IsOpening NotADatabase
no_database_opens = (λ is. cc, λ is. cc, λ is. cc, λ is. cc, λ is. cc)

version_opens : IsOpening Version
version_opens = (λ is. cc, λ is. cc, λ is. cc, λ is. cc, λ is. cc)

too_small_opens : IsOpening TooSmall
too_small_opens = (λ is. cc, λ is. cc, λ is. cc, λ is. cc, λ is. cc)

bad_limit_opens : IsOpening BadLimit
bad_limit_opens = (λ is. cc, λ is. cc, λ is. cc, λ is. cc, λ is. cc)

pub exists_opens : IsOpening Exists
exists_opens = (λ is. cc, λ is. cc, λ is. cc, λ is. cc, λ is. cc)

opens_as : (f g : Fault) → IsOpening g → f ≡ g → IsOpening f
opens_as f g opens is = subst IsOpening (sym is) opens

pub of_found : (f : Fault) → (f ≡ Device) ⊎ ((f ≡ Version) ⊎ (f ≡ Damaged)) → IsOpening f
of_found f (inl is) = opens_as f Device device_opens is
of_found f (inr (inl is)) = opens_as f Version version_opens is
of_found f (inr (inr is)) = opens_as f Damaged damaged_opens is

pub of_emptied : (f : Fault) → (f ≡ BadLimit)
    ⊎ ((f ≡ TooSmall) ⊎ ((f ≡ Memory) ⊎ ((f ≡ NoRoom) ⊎ (f ≡ Device)))) → IsOpening f
of_emptied f (inl is) = opens_as f BadLimit bad_limit_opens is
of_emptied f (inr (inl is)) = opens_as f TooSmall too_small_opens is
of_emptied f (inr (inr (inl is))) = opens_as f Memory memory_opens is
of_emptied f (inr (inr (inr (inl is)))) = opens_as f NoRoom no_room_opens is
of_emptied f (inr (inr (inr (inr is)))) = opens_as f Device device_opens is

pub of_made : (f : Fault) → (f ≡ Device)
    ⊎ ((f ≡ NotADatabase) ⊎ ((f ≡ ReadOnly) ⊎ ((f ≡ BadLimit) ⊎ (f ≡ TooSmall)))) → IsOpening f
of_made f (inl is) = opens_as f Device device_opens is
of_made f (inr (inl is)) = opens_as f NotADatabase no_database_opens is
of_made f (inr (inr (inl is))) = opens_as f ReadOnly read_only_opens is
of_made f (inr (inr (inr (inl is)))) = opens_as f BadLimit bad_limit_opens is
of_made f (inr (inr (inr (inr is)))) = opens_as f TooSmall too_small_opens is

-- a read of the meta page fails by the device alone
pub only_device : {T : Type 0} (state : StoreState) (e : PageFault) → state.usable ≡ true
    → 4 ≤ state.end → IsReadAnswer {T = T} state 1 (Err e) → e ≡ page.Device
only_device state e usable least answer = ⊎_elim
    (λ broken. not_both _ usable (answer.broken.0 (ap Err broken)))
    (λ other. ⊎_elim (λ damaged. absurd
    ((answer.damaged.0 (ap Err damaged)).1 (inr (omega arith, omega (arith, least)))))
    (λ device. device) other)
    answer.only

-- the fault of a device that is no good file

module _ (b : Bool) (f other : Fault) (is : f ≡ cond b Exists other) where
  by_exists : (P : Fault → Type 0) → P Exists → P other → P f
  by_exists P exists opens = subst P (sym is) (elim b as (λ c. P (cond c Exists other)) [
    | true ↦ exists
    | false ↦ opens
  ])

pub of_no_file : (b : Bool) (f : Fault) → f ≡ cond b Exists NotADatabase
    → IsOpening f × (f ≢ Device)
of_no_file b f is = by_exists b f NotADatabase is (λ g. IsOpening g × (g ≢ Device))
    (exists_opens, λ same. cc) (no_database_opens, λ same. cc)

pub of_damaged : (b : Bool) (f : Fault) → f ≡ cond b Exists Damaged → IsOpening f × (f ≢ Device)
of_damaged b f is = by_exists b f Damaged is (λ g. IsOpening g × (g ≢ Device))
    (exists_opens, λ same. cc) (damaged_opens, λ same. cc)

-- what refuses an opening early is none of the device's
by_early : (a b : Bool) (f : Fault) → cond a (Some ReadOnly) (cond b (Some TooSmall) None) ≡ Some f
    → IsOpening f × (f ≢ Device)
by_early true b f is = let same : f ≡ ReadOnly = cc in
    (opens_as f ReadOnly read_only_opens same, λ other. cc)
by_early false true f is = let same : f ≡ TooSmall = cc in
    (opens_as f TooSmall too_small_opens same, λ other. cc)
by_early false false f is = absurd (cc)

pub of_early : (how : OpenHow) (sectors : ℕ) (f : Fault) → early_fault how sectors ≡ Some f
    → IsOpening f × (f ≢ Device)
of_early how sectors f is = by_early (how.truncate && not (writes how.access))
    (nat_lt sectors 16) f is

pub if_none : (P : Fault → Type 0) (o : Option Fault) → o ≡ None → IfSome o P
if_none P o none = subst (λ (f : Option Fault). IfSome f P) (sym none) tt

pub early_err : (T : Type 0) {D : Type 0} (o : Option Fault) (d : D) (f : Fault) → o ≡ Some f
    → IfSome o (λ g. ◌≡◌ {A = Result T (D × Fault)} (Err (d, f)) (Err (d, g)))
early_err T {D} o d f is = subst
    (λ (p : Option Fault). IfSome p (λ g. ◌≡◌ {A = Result T (D × Fault)} (Err (d, f)) (Err (d, g))))
    (sym is) refl

pub not_none : {P : Type 0} (o : Option Fault) (f : Fault) → o ≡ Some f → o ≡ None → P
not_none o f some none = let both = sym some ∙ none in cc

-- ---- devices

no_fewer : (a : ℕ) → a ≤ a
no_fewer a = omega arith

-- what a device that is handed back unchanged shows
module _ {D : Type 0} (dev : device.Ghosts D) (old new : D) (same : new ≡ old) where
  pub same_honest : dev.honest new ↔ dev.honest old
  same_honest = subst (λ (d : D). dev.honest d ↔ dev.honest old) (sym same) (λ h. h, λ h. h)

  pub same_faults : dev.faults old ≤ dev.faults new
  same_faults = subst (λ (d : D). dev.faults old ≤ dev.faults d) (sym same)
      (no_fewer (dev.faults old))

-- what reads alone leave of a store that was opened for writing settles as before
pub reads_leave : {D : Type 0} (dev : device.Ghosts D) (cap : ℕ) (old new : D) (was : Settled)
    → OnlyReads dev old new → IsStable (dev.candidate old) (dev.seen old)
    → settled cap (dev.seen old) ≡ was
    → (after : Image) → IsImageOf (dev.candidate new) after → settled cap after ≡ was
reads_leave dev cap old new was reads stable is after left =
    only_seen cap (dev.candidate old) (dev.seen old) (settled cap after) was stable is
    (record { image = after; is_image = λ n. reads.no_new n (after n) (left n); reads = refl })

-- a run of reads, seen as what it leaves settles
pub reads_settle : {D : Type 0} (dev : device.Ghosts D) (cap : ℕ) (old new : D)
    (Q : Settled → Type 0) → OnlyReads dev old new
    → LeavesOnly dev.moment (IsOutcome dev.left_since (settled cap)) old new
    (λ y. SettlesTo cap (dev.candidate old) y ⊎ Q y)
reads_settle {D} dev cap old new Q reads =
    settles_run dev.moment dev.left_since old new cap
    (λ y. SettlesTo cap (dev.candidate old) y ⊎ Q y)
    (weaker dev.moment dev.left_since old new
    (λ image. SettlesTo cap (dev.candidate old) (settled cap image) ⊎ Q (settled cap image))
    (IsImageOf (dev.candidate old)) reads.any_moment
    (λ image is. inl (record { image = image; is_image = is; reads = refl })))

-- the same of a run that leaves what settles as before
pub before_settle : {D : Type 0} (dev : device.Ghosts D) (cap : ℕ) (old new : D)
    (Q : Settled → Type 0) → LeavesOnly dev.moment dev.left_since old new
    (SettlesAsBefore cap (dev.candidate old))
    → LeavesOnly dev.moment (IsOutcome dev.left_since (settled cap)) old new
    (λ y. SettlesTo cap (dev.candidate old) y ⊎ Q y)
before_settle {D} dev cap old new Q run =
    settles_run dev.moment dev.left_since old new cap
    (λ y. SettlesTo cap (dev.candidate old) y ⊎ Q y)
    (weaker dev.moment dev.left_since old new
    (λ image. SettlesTo cap (dev.candidate old) (settled cap image) ⊎ Q (settled cap image))
    (SettlesAsBefore cap (dev.candidate old)) run
    (λ image before. inl (record { image = before.0; is_image = before.1; reads = sym before.2 })))

-- ---- files

-- a file that was emptied opens as it was asked
pub opens_emptied : {S E : Type 0} {s : store.Ghosts S} (how : OpenHow) (map : Contents)
    (bounds : Bounds) (r : Result (OpenFile S s) E) → how.truncate ≡ true
    → is_exclusive how ≡ false
    → IfOk r (λ file. StandsAs file empty (bounds_of how))
    → IfOk r (λ file. (is_exclusive how ≡ false) × OpensAs how map bounds file)
opens_emptied how map bounds (Ok file) on may stands = (
  may,
  subst (λ (b : Bool). StandsAs file (cond b empty map) (cond b (bounds_of how) bounds))
      (sym on) stands,
)
opens_emptied how map bounds (Err e) on may stands = tt

pub just_opened : {S E : Type 0} {s : store.Ghosts S} (r : Result (OpenFile S s) E)
    (one other : Bool) (pages same : ℕ) → one ≡ other → pages ≡ same
    → IfOk r (IsJustOpened one pages) → IfOk r (IsJustOpened other same)
just_opened r one other pages same writing is fresh =
    subst (λ (n : ℕ). IfOk r (IsJustOpened other n)) is
    (subst (λ (b : Bool). IfOk r (IsJustOpened b pages)) writing fresh)

pub made_opened : {S E P : Type 0} {s : store.Ghosts S} (r : Result (OpenFile S s) E)
    (writing : Bool) (pages same : ℕ) → IfOk r (λ file. P) → IfOk r (IsJustOpened true pages)
    → (P → true ≡ writing) → pages ≡ same → IfOk r (IsJustOpened writing same)
made_opened (Ok file) writing pages same none fresh by is =
    just_opened {E = Unit {0}} (Ok file) true writing pages same (by none) is fresh
made_opened (Err e) writing pages same none fresh by is = tt

-- a store as opening leaves it, with the same words for its pages and its access
pub fresh_there : {state : StoreState} (one other : Bool) (pages same : ℕ)
    → IsFreshStore pages one state → same ≡ pages → one ≡ other → IsFreshStore same other state
fresh_there one other pages same fresh is writing =
    record {
      staged = fresh.staged;
      capacity = fresh.capacity ∙ sym is;
      usable = fresh.usable;
      writable = fresh.writable ∙ writing;
    }
