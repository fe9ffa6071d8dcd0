-- What an opening may find and leave, over a device whose images are as those that it had before.
use Rattle.std.proofs.Common.{◌≡◌, ◌⊎◌, ◌≤◌, ◌*◌, inl, inr, ℕ, List, cond, ◌/◌, Result, Ok, Err, IfOk, IfErr, refl, sym, ◌∙◌, ap, ⊎_elim, subst}
use Rattle.sect_dev.specs.Device.{Image, Candidates, IsImageOf, NoNewCandidate, LeavesOnly}
use Rattle.sect_dev.specs.Moments.{IsOutcome, fewer_images, followed_by, weaker, lifted}
use Rattle.sect_dev.specs.declared.device.SectorDev.{Ghosts}
use Rattle.dbm_model.specs.Bounds.{Bounds}
use Rattle.dbm_model.specs.Pairs.{Contents}
use Rattle.dbm_model.specs.Sizes.{home}
use Rattle.page_model.specs.Pages.{Meta}
use Rattle.page_io.specs.Meaning.{ImageStandsFor}
use Rattle.page_io.specs.Store.{Settled, blank, file_of, nothing}
use Rattle.redo_area.specs.File.{settled}
use Rattle.redo_area.specs.Header.{has_magic, header_of}
use Rattle.redo_area.specs.Opening.{SaysUnsettled}
use Rattle.redo_area.specs.Settling.{SettlesTo}
use Rattle.redo_area.specs.Turn.{IsAsBefore}
use Rattle.dbm_fault.specs.declared.fault.Fault.{Fault}
use Rattle.dbm_fault.specs.declared.fault.Fault.TheVariants.{NotADatabase, Exists, Damaged}
use Rattle.file_opening.specs.Opening.{is_exclusive, RefusesBy, Refuses, IsRefusedOpening, Allows, AllAllow, Makes, BeginsEmpty, MayRemain, KeepsMeta, AllStand, IsOpened}
use Rattle.file_opening.specs.declared.open_how.OpenHow.{OpenHow}
use Rattle.dbm_file.specs.Opened.{AllHaveRoom}

pub if_ok_then : {T E : Type 0} (P Q : T → Type 0) (r : Result T E) → ((x : T) → P x → Q x)
    → IfOk r P → IfOk r Q
if_ok_then P Q (Ok x) more p = more x p
if_ok_then P Q (Err e) more p = tt

pub if_err_then : {T E : Type 0} (P Q : E → Type 0) (r : Result T E) → ((e : E) → P e → Q e)
    → IfErr r P → IfErr r Q
if_err_then P Q (Ok x) more p = tt
if_err_then P Q (Err e) more p = more e p

abbrev IsBlankOrStands : Settled → Type 0
IsBlankOrStands y = (y ≡ blank)
    ⊎ ((map : Contents) × (bounds : Bounds) × ImageStandsFor y map bounds)

-- why a settled image is refused, by another image with the same commit sector
other_image : (y : Settled) (how : OpenHow) (sectors : ℕ) (a b : Image) (fault : Fault)
    → a 0 ≡ b 0 → RefusesBy y how sectors a fault → RefusesBy y how sectors b fault
other_image blank how sectors a b fault same refuses = refuses
other_image (file_of pages) how sectors a b fault same refuses = refuses
other_image nothing how sectors a b fault same refuses =
    refuses ∙ ap (λ (s : List ℕ). cond (is_exclusive how) Exists
    (cond (has_magic s) Damaged NotADatabase)) same

other_unsettled : (pages : ℕ) (a b : Image) → a 0 ≡ b 0 → SaysUnsettled pages a
    → SaysUnsettled pages b
other_unsettled pages a b same (inl armed) = inl (record {
  end = armed.end;
  start = armed.start;
  count = armed.count;
  header = ap (header_of pages) (sym same) ∙ armed.header;
})
other_unsettled pages a b same (inr log) = inr (record {
  start = log.start;
  header = ap (header_of pages) (sym same) ∙ log.header;
})

module _ (old new : Candidates) (sectors : ℕ)
    (as_old : (image : Image) → IsImageOf new image → IsAsBefore (sectors / 4) old image) where
  settles_too : (y : Settled) → SettlesTo (sectors / 4) new y → SettlesTo (sectors / 4) old y
  settles_too y left =
      let was = as_old left.image left.is_image in
      record { image = was.start; is_image = was.at_start; reads = sym was.same ∙ left.reads }

  pub all_stand : AllStand (sectors / 4) old → AllStand (sectors / 4) new
  all_stand stand image is =
      let was = as_old image is in
      subst (λ (y : Settled). IsBlankOrStands y) (sym was.same) (stand was.start was.at_start)

  pub all_have_room : AllHaveRoom (sectors / 4) old → AllHaveRoom (sectors / 4) new
  all_have_room room image is =
      let was = as_old image is in
      subst (λ (y : Settled). (y ≡ blank) ⊎ ((map : Contents) × (bounds : Bounds)
      × ImageStandsFor y map bounds × (2 * home bounds ≤ sectors / 4))) (sym was.same)
      (room was.start was.at_start)

  module _ (how : OpenHow) where
    pub all_allow : AllAllow how sectors old → AllAllow how sectors new
    all_allow allow image is =
        let was = as_old image is in
        subst (Allows how sectors) (sym was.same) (allow was.start was.at_start)

    makes_too : Makes how sectors new → Makes how sectors old
    makes_too makes = record { due = makes.due; on_blank = settles_too _ makes.on_blank }

    begins_too : BeginsEmpty how sectors new → BeginsEmpty how sectors old
    begins_too begins = ⊎_elim (λ makes. inl (makes_too makes))
        (λ empties. inr (record {
          file = empties.file;
          at_start = settles_too _ empties.at_start;
          empties = empties.empties;
        })) begins

    pub may_remain : (y : Settled) → MayRemain how sectors new y → MayRemain how sectors old y
    may_remain y may = ⊎_elim (λ left. inl (settles_too y left))
        (λ made. inr (begins_too made.0, made.1)) may

    pub keeps_meta : (kept : Meta) → KeepsMeta how sectors new kept → KeepsMeta how sectors old kept
    keeps_meta kept keeps = ⊎_elim
        (λ found. inl (found.0, settles_too _ found.1, found.2))
        (λ made. inr (makes_too made.0, made.1)) keeps

    pub is_opened : (map : Contents) (bounds : Bounds) → IsOpened how sectors new map bounds
        → IsOpened how sectors old map bounds
    is_opened map bounds is = ⊎_elim
        (λ stood.
        let was = as_old stood.0.image stood.0.at_start in
        inl (
          record {
            image = was.start;
            at_start = was.at_start;
            stands = subst (λ (y : Settled). ImageStandsFor y map bounds) was.same stood.0.stands;
          },
          stood.1,
          stood.2,
        ))
        (λ made. inr (begins_too made.0, made.1, made.2)) is

    refuses_too : (image start : Image) (fault : Fault)
        → settled (sectors / 4) image ≡ settled (sectors / 4) start → image 0 ≡ start 0
        → Refuses how sectors image fault → Refuses how sectors start fault
    refuses_too image start fault same sector refuses = ⊎_elim
        (λ by. inl (other_image (settled (sectors / 4) start) how sectors image start fault sector
        (subst (λ (y : Settled). RefusesBy y how sectors image fault) same by)))
        (λ memory. inr (
          memory.0,
          ⊎_elim (λ cut. inl cut)
              (λ taken. inr (taken.0, other_unsettled (sectors / 4) image start sector taken.1))
              memory.1,
        )) refuses

    pub is_refused : (now : Candidates) (fault : Fault) → IsRefusedOpening how sectors new now fault
        → IsRefusedOpening how sectors old now fault
    is_refused now fault is =
        let was = as_old is.image is.at_start in
        record {
          image = was.start;
          at_start = was.at_start;
          refuses = refuses_too is.image was.start fault was.same was.sector is.refuses;
          left = λ writable after left. is.left writable after left ∙ was.same;
        }

-- calls behind which each image is as one of the start
pub left_at_start : {D : Type 0} (dev : Ghosts D) (old new : D) (how : OpenHow)
    → LeavesOnly dev.moment dev.left_since old new
    (IsAsBefore (dev.sectors old / 4) (dev.candidate old))
    → LeavesOnly dev.moment (IsOutcome dev.left_since (settled (dev.sectors old / 4))) old new
    (MayRemain how (dev.sectors old) (dev.candidate old))
left_at_start {D} dev old new how run =
    let n = dev.sectors old in
    lifted dev.moment dev.left_since (λ (d : D). d) (λ (d : D). settled (n / 4)) old new
    (MayRemain how n (dev.candidate old)) refl
    (weaker dev.moment dev.left_since old new
    (λ image. MayRemain how n (dev.candidate old) (settled (n / 4) image))
    (IsAsBefore (n / 4) (dev.candidate old)) run
    (λ image was. inl (record { image = was.start; is_image = was.at_start; reads = sym was.same })))

-- images that such calls left, of which others leave no more
pub as_first : {D : Type 0} (dev : Ghosts D) (old mid new : D)
    → ((image : Image) → IsImageOf (dev.candidate mid) image
    → IsAsBefore (dev.sectors old / 4) (dev.candidate old) image)
    → NoNewCandidate (dev.candidate mid) (dev.candidate new)
    → (image : Image) → IsImageOf (dev.candidate new) image
    → IsAsBefore (dev.sectors old / 4) (dev.candidate old) image
as_first dev old mid new as_old fewer image is =
    as_old image (fewer_images (dev.candidate mid) (dev.candidate new) image fewer is)

-- such calls, one run behind another that adds no candidate
pub then_none : {D : Type 0} (dev : Ghosts D) (old mid new : D)
    → LeavesOnly dev.moment dev.left_since old mid
    (IsAsBefore (dev.sectors old / 4) (dev.candidate old))
    → ((image : Image) → IsImageOf (dev.candidate mid) image
    → IsAsBefore (dev.sectors old / 4) (dev.candidate old) image)
    → LeavesOnly dev.moment dev.left_since mid new (IsImageOf (dev.candidate mid))
    → LeavesOnly dev.moment dev.left_since old new
    (IsAsBefore (dev.sectors old / 4) (dev.candidate old))
then_none dev old mid new first as_old second =
    followed_by dev.moment dev.left_since old mid new
    (IsAsBefore (dev.sectors old / 4) (dev.candidate old)) (IsImageOf (dev.candidate mid)) first
    second as_old

-- and then an opening
pub opened_behind : {D : Type 0} (dev : Ghosts D) (old mid new : D) (how : OpenHow)
    → dev.sectors mid ≡ dev.sectors old
    → ((image : Image) → IsImageOf (dev.candidate mid) image
    → IsAsBefore (dev.sectors old / 4) (dev.candidate old) image)
    → LeavesOnly dev.moment dev.left_since old mid
    (IsAsBefore (dev.sectors old / 4) (dev.candidate old))
    → LeavesOnly dev.moment (IsOutcome dev.left_since (settled (dev.sectors mid / 4))) mid new
    (MayRemain how (dev.sectors mid) (dev.candidate mid))
    → LeavesOnly dev.moment (IsOutcome dev.left_since (settled (dev.sectors old / 4))) old new
    (MayRemain how (dev.sectors old) (dev.candidate old))
opened_behind {D} dev old mid new how size as_old first second =
    let n = dev.sectors old in
    let remains = MayRemain how n (dev.candidate old) in
    followed_by dev.moment (IsOutcome dev.left_since (settled (n / 4))) old mid new remains
    (MayRemain how n (dev.candidate mid))
    (left_at_start dev old mid how first)
    (subst (λ (k : ℕ). LeavesOnly dev.moment (IsOutcome dev.left_since (settled (k / 4))) mid new
    (MayRemain how k (dev.candidate mid))) size second)
    (λ y may. may_remain (dev.candidate old) (dev.candidate mid) n as_old how y may)
