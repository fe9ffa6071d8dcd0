-- The commit of the three pages of an empty database.
use Rattle.std.proofs.Common.{◌≡◌, ◌≢◌, ◌∙◌, inl, inr, ⊎_elim, ◌⊎◌, ℕ, ◌/◌, [], ◌∷◌, map, Result, Ok, Err, IfOk, sym, ap, subst, refl}
use Rattle.std.specs.Prelude.{IsOkAnd}
use Rattle.std.specs.FinMap.{empty}
use Rattle.sect_dev.specs.Device.{Image, Candidates, IsImageOf, LeavesOnly, NoNewCandidate, Moment}
use Rattle.sect_dev.specs.Moments.{IsOutcome, followed_by, weaker, started, lifted}
use Rattle.sect_dev.specs.declared.device.SectorDev as device
use Rattle.dbm_model.specs.Bounds.{Bounds}
use Rattle.page_model.specs.Pages.{Meta, MetaPage}
use Rattle.page_model.specs.Meaning.{said_by}
use Rattle.page_io.specs.Store.{Pages, Settled, StoreState, bytes_of, file_of, page_of, committed_with}
use Rattle.page_io.specs.Page.{own_number}
use Rattle.page_io.specs.Meaning.{FileStandsFor, ImageStandsFor}
use Rattle.page_io.specs.Views.{StagesOnly}
use Rattle.page_io.specs.declared.store.PageStore.{Ghosts}
use Rattle.page_io.specs.declared.store.PageFault.{PageFault}
use Rattle.redo_area.specs.File.{settled, SettlesAsBefore}
use Rattle.sect_dev.specs.Reads.{OnlyReads}
use Rattle.redo_area.specs.Settling.{SettlesTo}
use Rattle.redo_area.specs.declared.pager.Pager.{Pager}
use Rattle.dbm_fault.specs.Faults.{fault_from}
use Rattle.page_io.specs.Committing.{Holds, IsForgotten}
use Rattle.dbm_fault.specs.declared.fault.Fault.{Fault}
use Rattle.dbm_fault.specs.declared.fault.Fault.TheVariants.{Device}
use Rattle.file_opening.proofs.NewFiles.{three_committed}

-- the pages that were there, or where that is due an empty database
abbrev pub OldOrEmpty : Pages → Type 0 → Bounds → Settled → Type 0
OldOrEmpty pages Due bounds y = (y ≡ file_of pages) ⊎ (Due × ImageStandsFor y empty bounds)

module _ {S : Type 0} (s : Ghosts S) (old mid new : S) (m : Meta) (pages : Pages)
    (stages : StagesOnly s old mid) (honest : s.honest old)
    (stands : FileStandsFor pages empty m.bounds) (meta : said_by (page_of pages) 1 ≡ MetaPage m)
    (numbers : map own_number pages ≡ 1 ∷ 2 ∷ 3 ∷ []) where
  -- what is committed
  file_is : (end : ℕ) → (end ≡ 4) × ((s.state mid).staged ≡ pages)
      → committed_with (s.committed mid) (s.state mid).staged end ≡ pages
  file_is end is =
      ap (λ (ps : Pages). committed_with (s.committed mid) ps end) is.1
      ∙ ap (λ (n : ℕ). committed_with (s.committed mid) pages n) is.0
      ∙ three_committed (s.committed mid) pages numbers

  pub holds_empty : (end : ℕ) → (end ≡ 4) × ((s.state mid).staged ≡ pages)
      → s.committed new ≡ committed_with (s.committed mid) (s.state mid).staged end
      → Holds s new m empty
  holds_empty end is committed =
      let same = sym (committed ∙ file_is end is) in
      record {
        stands = subst (λ (ps : Pages). FileStandsFor ps empty m.bounds) same stands;
        meta_is = subst (λ (ps : Pages). said_by (page_of ps) 1 ≡ MetaPage m) same meta;
      }

  -- `only` is the store's law `only_committed` of the old one
  pub leaves_old_or_empty : {Due : Type 0} (r : Result ℕ PageFault) → IfOk r (λ end. Due)
      → IfOk r (λ end. (end ≡ 4) × ((s.state mid).staged ≡ pages))
      → ((y : Settled) → s.settles_to old y → y ≡ file_of (s.committed old))
      → LeavesOnly s.moment s.settled_since mid new
      (λ y. (y ≡ file_of (s.committed mid))
      ⊎ IsOkAnd r (λ end. y ≡ file_of
      (committed_with (s.committed mid) (s.state mid).staged end)))
      → LeavesOnly s.moment s.settled_since old new (OldOrEmpty (s.committed old) Due m.bounds)
  leaves_old_or_empty {Due} r due staged only run =
      followed_by s.moment s.settled_since old mid new (OldOrEmpty (s.committed old) Due m.bounds) _
      (weaker s.moment s.settled_since old mid (OldOrEmpty (s.committed old) Due m.bounds)
      (s.settles_to old) (stages.kept honest).any_moment (λ y is. inl (only y is))) run
      (λ y is. ⊎_elim (λ same. inl (same ∙ ap file_of (stages.kept honest).committed))
      (λ then. inr (by_case r due staged y then)) is)
    where
      by_case : (r : Result ℕ PageFault) → IfOk r (λ end. Due)
          → IfOk r (λ end. (end ≡ 4) × ((s.state mid).staged ≡ pages)) → (y : Settled)
          → IsOkAnd r (λ end. y ≡ file_of
          (committed_with (s.committed mid) (s.state mid).staged end))
          → Due × ImageStandsFor y empty m.bounds
      by_case (Ok end) due staged y is = (
        due,
        subst (λ (z : Settled). ImageStandsFor z empty m.bounds)
            (sym (is ∙ ap file_of (file_is end staged))) stands,
      )
      by_case (Err e) due staged y is = absurd is

-- ---- what is read of a device, as it settles

-- a run of a device, seen as what it leaves settles
pub settles_run : {D : Type 0} (moment : D → Moment) (left_since : D → ℕ → Image → Type 0)
    (old new : D) (cap : ℕ) (P : Settled → Type 0)
    → LeavesOnly moment left_since old new (λ image. P (settled cap image))
    → LeavesOnly moment (IsOutcome left_since (settled cap)) old new P
settles_run {D} moment left_since old new cap P run =
    lifted moment left_since (λ (d : D). d) (λ (d : D). settled cap) old new P refl run

-- with no call: `now` is the device's law `only_now`
pub settles_still : {D : Type 0} (moment : D → Moment) (left_since : D → ℕ → Image → Type 0)
    (candidate : D → Candidates) (d : D) (cap : ℕ) (P : Settled → Type 0)
    → ((image : Image) → left_since d (moment d).at image → IsImageOf (candidate d) image)
    → ((y : Settled) → SettlesTo cap (candidate d) y → P y)
    → LeavesOnly moment (IsOutcome left_since (settled cap)) d d P
settles_still moment left_since candidate d cap P now holds =
    settles_run moment left_since d d cap P
    (started moment left_since d _
    (λ image left. holds (settled cap image)
    (record { image = image; is_image = now image left; reads = refl })))

-- reads alone leave what settles as before
pub settles_before : (cap cap' : ℕ) (old new : Candidates) (y : Settled) → cap' ≡ cap
    → NoNewCandidate old new → SettlesTo cap' new y → SettlesTo cap old y
settles_before cap cap' old new y same fewer s =
    record {
      image = s.image;
      is_image = λ n. fewer n (s.image n) (s.is_image n);
      reads =
          ap (λ (n : ℕ). settled n s.image) (sym same) ∙ s.reads;
    }

-- one run after another, seen so
pub settles_on : {D : Type 0} (moment : D → Moment) (left_since : D → ℕ → Image → Type 0)
    (old mid new : D) (cap cap' : ℕ) (P Q : Settled → Type 0) → cap' ≡ cap
    → LeavesOnly moment (IsOutcome left_since (settled cap)) old mid P
    → LeavesOnly moment (IsOutcome left_since (settled cap')) mid new Q
    → ((y : Settled) → Q y → P y)
    → LeavesOnly moment (IsOutcome left_since (settled cap)) old new P
settles_on moment left_since old mid new cap cap' P Q same first second implies =
    followed_by moment (IsOutcome left_since (settled cap)) old mid new P Q first
    (subst (λ (n : ℕ). LeavesOnly moment (IsOutcome left_since (settled n)) mid new Q) same
    second) implies

-- no device call is made
pub reads_nothing : {D : Type 0} (dev : device.Ghosts D) (d : D)
    → ((image : Image) → dev.left_since d (dev.moment d).at image
    → IsImageOf (dev.candidate d) image)
    → OnlyReads dev d d
reads_nothing dev d now = record {
  seen = refl;
  no_new = λ m c is. is;
  no_lost = λ m c is. is;
  still = refl;
  any_moment = started dev.moment dev.left_since d (IsImageOf (dev.candidate d)) now;
}

-- after a refusal that left the store usable: `counts` is the device's law `counts_now`
pub left_as_before : {D : Type 0} (left_since : D → ℕ → Image → Type 0) (candidate : D → Candidates)
    (new : D) (since cap cap' : ℕ) (was : Settled) → cap' ≡ cap
    → ((y : Settled) → IsOutcome left_since (settled cap') new since y → y ≡ was)
    → ((image : Image) → IsImageOf (candidate new) image → left_since new since image)
    → (after : Image) → IsImageOf (candidate new) after → settled cap after ≡ was
left_as_before left_since candidate new since cap cap' was same each counts after is =
    ap (λ (n : ℕ). settled n after) (sym same)
    ∙ each (settled cap' after) (record {
      left = after;
      is_left = counts after is;
      reads = refl;
    })

-- what a pager shows as a store
abbrev pub state_of : {D : Type 0} {bound : device.Ghosts D} → Pager D bound → StoreState
state_of {D} {bound} p = record {
  staged = bytes_of p.staged.items;
  end = p.end;
  capacity =
      bound.sectors p.dev / 4;
  usable = p.usable;
  writable = p.writable;
  base = [];
}

-- a fault of the pages that isn't the device's left the store usable
pub still_good : (old new : StoreState) (e : PageFault) (fault : Fault) → IsForgotten old new e
    → fault ≡ fault_from e → fault ≢ Device → new.usable ≡ old.usable
still_good old new e fault (inl same) is other = ap (λ (st : StoreState). st.usable) same
still_good old new e fault (inr broke) is other = absurd (other (is ∙ ap fault_from broke.0))

pub still_capacity : (old new : StoreState) (e : PageFault) → IsForgotten old new e
    → new.capacity ≡ old.capacity
still_capacity old new e (inl same) = ap (λ (st : StoreState). st.capacity) same
still_capacity old new e (inr broke) = ap (λ (st : StoreState). st.capacity) broke.1

-- a run of a store over a device, as one of the device
pub below_run : {S D : Type 0} (moment : D → Moment) (left_since : D → ℕ → Image → Type 0)
    (below : S → D) (cap : S → ℕ) (old new : S) (P : Settled → Type 0) → cap new ≡ cap old
    → LeavesOnly (λ s. moment (below s)) (λ s. IsOutcome left_since (settled (cap s)) (below s)) old
    new P → LeavesOnly moment (IsOutcome left_since (settled (cap old)))
    (below old) (below new) P
below_run moment left_since below cap old new P same run = record {
  later = run.later;
  until = run.until;
  each = λ y left. run.each y (subst
      (λ (n : ℕ). IsOutcome left_since (settled n) (below new) (moment (below old)).at y)
      (sym same) left);
  before = λ t y le left. run.before t y le
      (subst (λ (n : ℕ). IsOutcome left_since (settled n) (below new) t y) (sym same) left);
}

-- the run of an emptying, as one of the device, where the bounds are known by another name
pub run_below : {D Due Then : Type 0} (dev : device.Ghosts D) (old new : Pager D dev)
    (pages : Pages) (bounds same : Bounds) → same ≡ bounds → (Due → Then)
    → dev.sectors new.dev / 4 ≡ dev.sectors old.dev / 4
    → LeavesOnly (λ (p : Pager D dev). dev.moment p.dev)
    (λ (p : Pager D dev). IsOutcome dev.left_since (settled (dev.sectors p.dev / 4)) p.dev) old
    new (OldOrEmpty pages Due same)
    → LeavesOnly dev.moment (IsOutcome dev.left_since (settled (dev.sectors old.dev / 4))) old.dev
    new.dev (OldOrEmpty pages Then bounds)
run_below {D} {Due} {Then} dev old new pages bounds same is then size run =
    let since = IsOutcome dev.left_since (settled (dev.sectors old.dev / 4)) in
    subst (λ (b : Bounds). LeavesOnly dev.moment since old.dev new.dev (OldOrEmpty pages Then b)) is
    (weaker dev.moment since old.dev new.dev (OldOrEmpty pages Then same)
    (OldOrEmpty pages Due same)
    (below_run dev.moment dev.left_since (λ (p : Pager D dev). p.dev)
    (λ (p : Pager D dev). dev.sectors p.dev / 4) old new
    (OldOrEmpty pages Due same) size run)
    (λ y. ⊎_elim (λ was. inl was) (λ new. inr (then new.0, new.1))))

-- what is left later settles as something did at the start
pub settles_from : (cap cap' : ℕ) (start mid : Candidates) (y : Settled) → cap' ≡ cap
    → ((image : Image) → IsImageOf mid image → SettlesAsBefore cap start image)
    → SettlesTo cap' mid y → SettlesTo cap start y
settles_from cap cap' start mid y same before s =
    let was = before s.image s.is_image in
    record {
      image = was.0;
      is_image = was.1;
      reads =
          sym was.2 ∙ ap (λ (n : ℕ). settled n s.image) (sym same) ∙ s.reads;
    }
