-- A device in memory is large enough, and blank.
use Rattle.std.proofs.Common.{◌≡◌, ◌⊎◌, inl, inr, ℕ, suc, ◌*◌, ◌/◌, ◌≤◌, Bool, true, false, cond, Option, Some, None, refl, ap, subst, ◌∙◌, arith}
use Rattle.std.specs.FinMap.{empty}
use Rattle.std.specs.Prelude.{nat_lt}
use Rattle.std.proofs.lemmas.Bool.{le-ltb}
use Rattle.std.proofs.lemmas.Bool.Decides.{leb_tells}
use Rattle.dbm_model.specs.Bounds.{Bounds}
use Rattle.sect_dev.specs.Device.{Image, Candidates, IsImageOf, IsStable}
use Rattle.sect_dev.specs.Sector.{zeros}
use Rattle.dbm_model.specs.Pairs.{Contents}
use Rattle.dbm_model.specs.Sizes.{is_limit, home, sectors_for}
use Rattle.page_io.specs.Store.{Settled, blank}
use Rattle.page_io.specs.Meaning.{ImageStandsFor}
use Rattle.redo_area.specs.Header.{header_of}
use Rattle.redo_area.specs.File.{settled, settled_by}
use Rattle.redo_area.specs.declared.header.Header.{Header}
use Rattle.redo_area.specs.declared.header.Header.TheVariants.{Blank}
use Rattle.file_opening.specs.Opening.{writes, bounds_of, room_fault, making_fault, IsOpened}
use Rattle.file_opening.specs.declared.open_how.OpenHow.{OpenHow}
use Rattle.dbm_fault.specs.declared.fault.Fault.{Fault}
use Rattle.dbm_fault.specs.declared.fault.Fault.TheVariants.{TooSmall}

-- each allowed limit needs at least 16 sectors
pub enough : (bounds : Bounds) (n : ℕ) → Some n ≡ sectors_for bounds → 16 ≤ n
enough bounds n h = (elim (is_limit bounds.limit) as
    (λ b. Some n ≡ cond b (Some (8 * home bounds)) None → 16 ≤ n) [
      | true ↦ λ h. let e : n ≡ 8 * home bounds = cc in omega (arith, e)
      | false ↦ λ h. cc
    ]) h

fits : (n : ℕ) → room_fault (Some n) n ≡ None
fits n = elim (leb_tells (suc n) n) [
  | inl w ↦ absurd (omega (arith, w.1))
  | inr w ↦ rw (w.0) refl
]

-- a database may be made on a blank device of so many sectors
pub makes_room : (how : OpenHow) (n sectors : ℕ) → how.create ≡ true → writes how.access ≡ true
    → Some n ≡ sectors_for (bounds_of how) → sectors ≡ n → making_fault how sectors ≡ None
makes_room how n sectors create writing needed same = rw (create, writing, ← needed, same) (fits n)

blank_header : (pages : ℕ) → header_of pages zeros ≡ Blank
unfolding header_of zeros
blank_header pages = refl

-- a device of which nothing was written is blank
pub blank_there : (pages : ℕ) (candidate : Candidates) → IsStable candidate (λ _. zeros)
    → (image : Image) → IsImageOf candidate image → settled pages image ≡ blank
unfolding settled
blank_there pages candidate stable image is =
    ap (λ (h : Header). settled_by h image)
    (ap (header_of pages) (stable 0 (image 0) (is 0)) ∙ blank_header pages)

-- what is opened on one is new
pub opened_new : (how : OpenHow) (sectors : ℕ) (start : Candidates) (map : Contents) (bounds : Bounds)
    → ((image : Image) → IsImageOf start image → settled (sectors / 4) image ≡ blank)
    → IsOpened how sectors start map bounds → (map ≡ empty) × (bounds ≡ bounds_of how)
opened_new how sectors start map bounds none (inl stood) =
    absurd (subst (λ (y : Settled). ImageStandsFor y map bounds)
    (none stood.0.image stood.0.at_start) stood.0.stands)
opened_new how sectors start map bounds none (inr new) = (new.1, new.2)

-- with 16 sectors nothing refuses an opening at once that doesn't empty the database
pub large_enough : (sectors : ℕ) → 16 ≤ sectors
    → cond {A = Option Fault} (nat_lt sectors 16) (Some TooSmall) None ≡ None
large_enough sectors le = ap (λ (b : Bool). cond {A = Option Fault} b (Some TooSmall) None)
    (le-ltb sectors 16 le)

-- for writing, and with nothing emptied, no memory is wanted
pub only_device : {A B : Type 0} → A ⊎ (B × ((false ≡ true) ⊎ (true ≡ false))) → A
only_device (inl a) = a
only_device (inr (b, inl e)) = absurd (cc)
only_device (inr (b, inr e)) = absurd (cc)
