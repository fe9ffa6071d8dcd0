-- What an opening answers, from what the device had at the start.
use Rattle.std.proofs.Common.{◌≡◌, ◌≢◌, ◌⊎◌, ⊎_elim, inl, inr, ℕ, ◌+◌, ◌/◌, length, Bool, true, false, cond, not, ◌&&◌, Option, Some, None, is_some, Result, Ok, Err, refl, sym, ap, ◌∙◌, subst}
use Rattle.std.specs.Prelude.{IfOk, IfErr, IfSome, nat_lt}
use Rattle.std.specs.FinMap.{empty}
use Rattle.sect_dev.specs.Device.{Image, Candidates, IsImageOf, IsStable}
use Rattle.sect_dev.specs.Moments.{only_image}
use Rattle.sect_dev.specs.declared.device.SectorDev as device
use Rattle.dbm_model.specs.Bounds.{Bounds}
use Rattle.page_model.specs.Pages.{MetaPage}
use Rattle.dbm_model.specs.Pairs.{Contents}
use Rattle.page_model.specs.Reading.{body_of}
use Rattle.page_model.specs.PageBodies.{meta_of}
use Rattle.page_model.proofs.GoodBodies.{bodies_valid}
use Rattle.page_io.specs.Store.{Settled, Pages, blank, file_of, nothing, page_of}
use Rattle.page_io.specs.Meaning.{FileStandsFor, ImageStandsFor}
use Rattle.redo_area.specs.File.{settled}
use Rattle.redo_area.specs.Header.{has_magic}
use Rattle.redo_area.specs.Opening.{refusal_by, refusal_of, IsRefused, SaysUnsettled}
use Rattle.page_io.specs.declared.store.PageStore as store
use Rattle.sect_dev.specs.Reads.{OnlyReads}
use Rattle.redo_area.specs.Settling.{SettlesTo}
use Rattle.redo_area.specs.declared.pager.Pager.{Pager}
use Rattle.redo_area.specs.declared.open_fault.OpenFault.{OpenFault}
use Rattle.redo_area.specs.declared.open_fault.OpenFault.TheVariants as redo
use Rattle.file_opening.specs.Opening.{writes, bounds_of, is_exclusive, early_fault, making_fault, emptying_fault, SaysMeta, SaysNoMeta, RefusesMeta, RefusesFile, RefusesBy, RefusesOpened, Refuses, IsRefusedOpening, Allows, AllAllow, AllStand, StoodFor, IsOpened}
use Rattle.file_opening.specs.OpenFiles.{device_left, StandsAs, OpensAs}
use Rattle.file_opening.specs.declared.file.OpenFile.{OpenFile}
use Rattle.file_opening.specs.declared.open_how.OpenHow.{OpenHow}
use Rattle.dbm_fault.specs.declared.fault.Fault.{Fault}
use Rattle.dbm_fault.specs.declared.fault.Fault.TheVariants.{Memory, Device, Broken, ReadOnly, TooLong, Full, NoPass, NoRoom, Damaged, NotADatabase, Version, TooSmall, BadLimit, Missing, Exists}

-- what holds of a value or an error, from other facts of it
pub both_ok : {T E : Type 0} {P Q R : T → Type 0} (result : Result T E) → IfOk result P
    → IfOk result Q → ((x : T) → P x → Q x → R x) → IfOk result R
both_ok (Ok x) p q then = then x p q
both_ok (Err e) p q then = tt

pub from_ok : {T E : Type 0} {P Q : T → Type 0} (result : Result T E) → IfOk result P
    → ((x : T) → P x → Q x) → IfOk result Q
from_ok (Ok x) p then = then x p
from_ok (Err e) p then = tt

pub both_err : {T E : Type 0} {P Q R : E → Type 0} (result : Result T E) → IfErr result P
    → IfErr result Q → ((e : E) → P e → Q e → R e) → IfErr result R
both_err (Ok x) p q then = tt
both_err (Err e) p q then = then e p q

pub each_err : {T E : Type 0} {P Q : E → Type 0} (result : Result T E) → IfErr result P
    → ((e : E) → result ≡ Err e → P e → Q e) → IfErr result Q
each_err (Ok x) p then = tt
each_err (Err e) p then = then e refl p

-- a Boolean by its negation
pub is_on : (b : Bool) → not b ≡ false → b ≡ true
is_on true is = refl
is_on false is = absurd (cc)

pub is_off : (b : Bool) → not b ≡ true → b ≡ false
is_off true is = absurd (cc)
is_off false is = refl

-- a fault is the device's or another
is_device : (fault : Fault) → (fault ≡ Device) ⊎ (fault ≢ Device)
is_device Device = inl refl
is_device Memory = inr (λ is. cc)
is_device Broken = inr (λ is. cc)
is_device ReadOnly = inr (λ is. cc)
is_device TooLong = inr (λ is. cc)
is_device Full = inr (λ is. cc)
is_device NoPass = inr (λ is. cc)
is_device NoRoom = inr (λ is. cc)
is_device Damaged = inr (λ is. cc)
is_device NotADatabase = inr (λ is. cc)
is_device Version = inr (λ is. cc)
is_device TooSmall = inr (λ is. cc)
is_device BadLimit = inr (λ is. cc)
is_device Missing = inr (λ is. cc)
is_device Exists = inr (λ is. cc)

-- ---- why the store of pages was not opened

-- a refusal that says what the device holds
abbrev pub IsTold : OpenFault → Type 0
IsTold fault = (fault ≢ redo.Device) × (fault ≢ redo.Memory)

pub blank_tells : IsTold redo.Blank
blank_tells = (λ is. cc, λ is. cc)

pub not_ours_tells : IsTold redo.NotOurs
not_ours_tells = (λ is. cc, λ is. cc)

pub damaged_tells : IsTold redo.Damaged
damaged_tells = (λ is. cc, λ is. cc)

-- an image at the start is refused so, and for writing what a stop now leaves settles as it does
pub record Tells (how : OpenHow) (sectors : ℕ) (start now : Candidates)
    (answer : OpenFault) : Type 0 where
  pub image : Image
  pub at_start : IsImageOf start image
  pub fault : refusal_of (sectors / 4) image ≡ Some answer
  pub left : writes how.access ≡ true → (after : Image) → IsImageOf now after
      → settled (sectors / 4) after ≡ settled (sectors / 4) image

module _ (how : OpenHow) (sectors : ℕ) (start now : Candidates) where
  -- for writing one image is left, and for reading what a read gave is an image
  pub tells : (writing : Bool) (before after : Image) (answer fault : OpenFault)
      → writing ≡ writes how.access → answer ≡ fault → fault ≢ redo.Device → fault ≢ redo.Memory
      → IsImageOf start before
      → (writing ≡ true → answer ≢ redo.Device → IsRefused (sectors / 4) start now after answer)
      → (writing ≡ false → answer ≢ redo.Device → answer ≢ redo.Memory
      → refusal_of (sectors / 4) before ≡ Some answer)
      → Tells how sectors start now fault
  tells true before after answer fault asked same other large there refused seen =
      let one = refused refl (λ is. other (sym same ∙ is)) in
      record {
        image = after;
        at_start = one.at_start;
        fault = one.fault ∙ ap Some same;
        left = λ w image left. ap (settled (sectors / 4))
            (only_image now after image one.stable left);
      }
  tells false before after answer fault asked same other large there refused seen = record {
    image = before;
    at_start = there;
    fault = seen refl (λ is. other (sym same ∙ is)) (λ is. large (sym same ∙ is)) ∙ ap Some same;
    left = λ w. absurd (let e = asked ∙ w in cc);
  }

  -- memory was wanted for the redo images of an armed file
  pub lacks_memory : (writing : Bool) (before : Image) → writing ≡ writes how.access
      → (writing ≡ true → ⊥) → IsImageOf start before → SaysUnsettled (sectors / 4) before
      → IsRefusedOpening how sectors start now Memory
  lacks_memory true before asked not_so there armed = absurd (not_so refl)
  lacks_memory false before asked not_so there armed = record {
    image = before;
    at_start = there;
    refuses = inr (refl, inr (sym asked, armed));
    left = λ w. absurd (let e = asked ∙ w in cc);
  }

blank_by : (s : Settled) (ours : Bool) → refusal_by s ours ≡ Some redo.Blank → s ≡ blank
blank_by blank ours is = refl
blank_by (file_of pages) ours is = cc
blank_by nothing true is = cc
blank_by nothing false is = cc

-- the fault of what stands for nothing
nothing_by : (s : Settled) (ours : Bool) → refusal_by s ours ≡ Some redo.NotOurs
    → (s ≡ nothing) × (NotADatabase ≡ cond ours Damaged NotADatabase)
nothing_by blank ours is = absurd (cc)
nothing_by (file_of pages) ours is = absurd (cc)
nothing_by nothing true is = absurd (cc)
nothing_by nothing false is = (refl, refl)

damaged_by : (s : Settled) (ours : Bool) → refusal_by s ours ≡ Some redo.Damaged
    → (s ≡ nothing) × (Damaged ≡ cond ours Damaged NotADatabase)
damaged_by blank ours is = absurd (cc)
damaged_by (file_of pages) ours is = absurd (cc)
damaged_by nothing true is = (refl, refl)
damaged_by nothing false is = absurd (cc)

module _ (how : OpenHow) (sectors : ℕ) (start now : Candidates) where
  module _ (answer : OpenFault) (told : Tells how sectors start now answer) where
    refused_so : (fault : Fault) (s : Settled) → settled (sectors / 4) told.image ≡ s
        → RefusesBy s how sectors told.image fault → IsRefusedOpening how sectors start now fault
    refused_so fault s is refuses = record {
      image = told.image;
      at_start = told.at_start;
      refuses = inl (subst (λ (t : Settled). RefusesBy t how sectors told.image fault)
          (sym is) refuses);
      left = told.left;
    }

  module _ (told : Tells how sectors start now redo.Blank) where
    blank_there : settled (sectors / 4) told.image ≡ blank
    blank_there = blank_by (settled (sectors / 4) told.image) (has_magic (told.image 0)) told.fault

    pub has_blank : SettlesTo (sectors / 4) start blank
    has_blank = record { image = told.image; is_image = told.at_start; reads = blank_there }

    pub all_blank : writes how.access ≡ true → (image : Image) → IsImageOf now image
        → settled (sectors / 4) image ≡ blank
    all_blank writing image is = told.left writing image is ∙ blank_there

    pub refused_blank : (fault : Fault) → making_fault how sectors ≡ Some fault
        → IsRefusedOpening how sectors start now fault
    refused_blank fault making = refused_so redo.Blank told fault blank blank_there making

  pub refused_not_ours : (fault : Fault) → Tells how sectors start now redo.NotOurs
      → fault ≡ cond (is_exclusive how) Exists NotADatabase
      → IsRefusedOpening how sectors start now fault
  refused_not_ours fault told is =
      let by = nothing_by (settled (sectors / 4) told.image)
      (has_magic (told.image 0)) told.fault in
      refused_so redo.NotOurs told fault nothing by.0
      (is ∙ ap (cond (is_exclusive how) Exists) by.1)

  pub refused_damaged : (fault : Fault) → Tells how sectors start now redo.Damaged
      → fault ≡ cond (is_exclusive how) Exists Damaged
      → IsRefusedOpening how sectors start now fault
  refused_damaged fault told is =
      let by = damaged_by (settled (sectors / 4) told.image)
      (has_magic (told.image 0)) told.fault in
      refused_so redo.Damaged told fault nothing by.0
      (is ∙ ap (cond (is_exclusive how) Exists) by.1)

  -- a file that was found, and then refused
  refused_by : (file : Pages) (image : Image) (fault : Fault)
      → settled (sectors / 4) image ≡ file_of file → RefusesOpened how sectors file fault
      → Refuses how sectors image fault
  refused_by file image fault is (inl found) =
      inl (subst (λ (s : Settled). RefusesBy s how sectors image fault) (sym is) found)
  refused_by file image fault is (inr memory) = inr (memory.0, inl memory.1)

  pub refused_file : (file : Pages) (fault : Fault) → SettlesTo (sectors / 4) start (file_of file)
      → RefusesOpened how sectors file fault
      → (writes how.access ≡ true → (after : Image) → IsImageOf now after
      → settled (sectors / 4) after ≡ file_of file)
      → IsRefusedOpening how sectors start now fault
  refused_file file fault settles refuses left = record {
    image = settles.image;
    at_start = settles.is_image;
    refuses = refused_by file settles.image fault settles.reads refuses;
    left = λ writing after is. left writing after is ∙ sym settles.reads;
  }

  -- what stands for a map and allows what is asked isn't refused
  none_refused : (s : Settled) (image : Image) (fault : Fault)
      → (s ≡ blank) ⊎ ((map : Contents) × (bounds : Bounds) × ImageStandsFor s map bounds)
      → Allows how sectors s → RefusesBy s how sectors image fault → ⊥
  none_refused blank image fault stands allows refuses = absurd (let e = sym allows ∙ refuses in cc)
  none_refused nothing image fault (inl is) allows refuses = absurd (let e = is in cc)
  none_refused nothing image fault (inr some) allows refuses = some.2
  none_refused (file_of file) image fault (inl is) allows refuses = absurd (let e = is in cc)
  none_refused (file_of file) image fault (inr some) allows (inl exists) =
      absurd (let e = sym exists.0 ∙ allows.0 in cc)
  none_refused (file_of file) image fault (inr some) allows (inr found) = by_file found.1
    where
      stands : FileStandsFor file some.0 some.1
      stands = some.2

      good : body_of 1 (page_of file 1) ≡ MetaPage (meta_of stands.placement)
      good = stands.spelled.0

      no_meta : SaysNoMeta (page_of file 1) → ⊥
      no_meta none = none (meta_of stands.placement)
          (bodies_valid stands.placement stands.good).0.1 good

      by_meta : (f : Fault) → RefusesMeta (page_of file 1) f → ⊥
      by_meta Version why = no_meta why.0
      by_meta Damaged why = no_meta why.0
      by_meta Memory why = why
      by_meta Device why = why
      by_meta Broken why = why
      by_meta ReadOnly why = why
      by_meta TooLong why = why
      by_meta Full why = why
      by_meta NoPass why = why
      by_meta NoRoom why = why
      by_meta NotADatabase why = why
      by_meta TooSmall why = why
      by_meta BadLimit why = why
      by_meta Missing why = why
      by_meta Exists why = why

      by_file : RefusesFile how sectors file fault → ⊥
      by_file (inl meta) = by_meta fault meta
      by_file (inr emptying) = absurd (let e = sym (allows.1 emptying.1) ∙ emptying.2 in cc)

  -- so nothing but the device and want of memory refuses it
  pub only_memory : (fault : Fault) → AllStand (sectors / 4) start → AllAllow how sectors start
      → (fault ≢ Device → IsRefusedOpening how sectors start now fault)
      → (fault ≡ Device) ⊎ ((fault ≡ Memory)
      × ((how.truncate ≡ true) ⊎ (writes how.access ≡ false)))
  only_memory fault stand allow refused = elim (is_device fault) [
    | inl is ↦ inl is
    | inr other ↦ inr (by_why (refused other))
  ]
    where
      by_why : IsRefusedOpening how sectors start now fault
          → (fault ≡ Memory) × ((how.truncate ≡ true) ⊎ (writes how.access ≡ false))
      by_why r = ⊎_elim
          (λ by. absurd (none_refused (settled (sectors / 4) r.image) r.image fault
          (stand r.image r.at_start) (allow r.image r.at_start) by))
          (λ memory. (memory.0, ⊎_elim (λ emptied. inl emptied) (λ reads. inr reads.0) memory.1))
          r.refuses

-- what a file stands for, where each image at the start is blank or stands for a map
pub record WhatStood (pages : ℕ) (start : Candidates) (file : Pages) : Type 0 where
  pub map : Contents
  pub bounds : Bounds
  pub stands : FileStandsFor file map bounds
  pub stood : StoodFor pages start map bounds

pub what_stood : (pages : ℕ) (start : Candidates) (file : Pages)
    → SettlesTo pages start (file_of file) → AllStand pages start → WhatStood pages start file
what_stood pages start file settles all = by_case (all settles.image settles.is_image)
  where
    by_case : (settled pages settles.image ≡ blank)
        ⊎ ((map : Contents) × (bounds : Bounds)
        × ImageStandsFor (settled pages settles.image) map bounds)
        → WhatStood pages start file
    by_case (inl none) = let reads = settles.reads in absurd (cc)
    by_case (inr some) = record {
      map = some.0;
      bounds = some.1;
      stands = subst (λ (s : Settled). ImageStandsFor s some.0 some.1) settles.reads some.2;
      stood = record { image = settles.image; at_start = settles.is_image; stands = some.2 };
    }

has_meta : (file : Pages) (map : Contents) (bounds : Bounds) → FileStandsFor file map bounds
    → SaysMeta (page_of file 1)
has_meta file map bounds stands =
    record {
      meta = meta_of stands.placement;
      valid =
          (bodies_valid stands.placement stands.good).0.1;
      says = stands.spelled.0;
    }

-- a file that was opened: as it stood, or emptied
module _ {S : Type 0} {s : store.Ghosts S} (how : OpenHow) (sectors : ℕ) (start : Candidates)
    (pages_were : Pages) (what : WhatStood (sectors / 4) start pages_were) (file : OpenFile S s)
    (at_start : SettlesTo (sectors / 4) start (file_of pages_were)) (may : is_exclusive how ≡ false)
    (opens : OpensAs how what.map what.bounds file) where
  pub opened_as_asked : (how.truncate ≡ true → writes how.access ≡ true)
      → (how.truncate ≡ true
      → emptying_fault (bounds_of how) sectors (length pages_were + 1) ≡ None)
      → (map : Contents) × (bounds : Bounds) × StandsAs file map bounds
      × IsOpened how sectors start map bounds
  opened_as_asked written due = by_case how.truncate refl
    where
      stands_by : (b : Bool) → how.truncate ≡ b
          → StandsAs file (cond b empty what.map) (cond b (bounds_of how) what.bounds)
      stands_by b is = subst (λ (x : Bool).
          StandsAs file (cond x empty what.map) (cond x (bounds_of how) what.bounds)) is opens

      by_case : (b : Bool) → how.truncate ≡ b
          → (map : Contents) × (bounds : Bounds) × StandsAs file map bounds
          × IsOpened how sectors start map bounds
      by_case true on = (
        empty,
        bounds_of how,
        stands_by true on,
        inr (
          inr (record {
            file = pages_were;
            at_start = at_start;
            empties =
                record {
                  asked = on;
                  written = written on;
                  allowed = may;
                  opens =
                      has_meta pages_were what.map what.bounds what.stands;
                  due = due on;
                };
          }),
          refl,
          refl,
        ),
      )
      by_case false off = (what.map, what.bounds, stands_by false off, inl (what.stood, off, may))

-- only one that may be written is emptied
by_early : (truncate writing : Bool) (other : Option Fault)
    → cond (truncate && not writing) (Some ReadOnly) other ≡ None → truncate ≡ true → writing ≡ true
by_early true true other none on = refl
by_early true false other none on = absurd (cc)
by_early false writing other none on = absurd (cc)

pub may_empty : (how : OpenHow) (sectors : ℕ) → early_fault how sectors ≡ None → how.truncate ≡ true
    → writes how.access ≡ true
may_empty how sectors none on =
    by_early how.truncate (writes how.access)
    (cond (nat_lt sectors 16) (Some TooSmall) None) none on

-- what was refused at once left the device as it was
pub device_untouched : {D : Type 0} {bound : device.Ghosts D} {s : store.Ghosts (Pager D bound)}
    (fault : Option Fault) (d : D) (r : Result (OpenFile (Pager D bound) s) (D × Fault))
    → is_some fault ≡ true → IfSome fault (λ f. r ≡ Err (d, f)) → device_left r ≡ d
device_untouched None d r some is = absurd (cc)
device_untouched (Some f) d r some is = ap device_left is

-- reads alone leave one image where there was one
pub stable_still : {D : Type 0} (dev : device.Ghosts D) (old new : D) → OnlyReads dev old new
    → IsStable (dev.candidate old) (dev.seen old) → IsStable (dev.candidate new) (dev.seen new)
stable_still dev old new reads stable m c is =
    stable m c (reads.no_new m c is) ∙ ap (λ (seen : Image). seen m) (sym reads.seen)

pub by_access : {P : Type 0} (b : Bool) → (b ≡ true → P) → (b ≡ false → P) → P
by_access true on off = on refl
by_access false on off = off refl
