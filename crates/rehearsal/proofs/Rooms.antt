-- Sessions on a device with enough room.
use Rattle.std.proofs.Common.{◌≡◌, ◌≢◌, ◌⊎◌, inl, inr, ℕ, ◌*◌, ◌≤◌, List, [], ◌∷◌, ◌++◌, refl}
use Rattle.std.proofs.lemmas.List.Elements.{All-nil, All-cons, All-append}
use Rattle.dbm_model.specs.Bounds.{Bounds}
use Rattle.sect_dev.specs.Device.{Candidates}
use Rattle.dbm_model.specs.Calls as calls
use Rattle.dbm_model.specs.Pairs.{Contents}
use Rattle.dbm_model.specs.Sizes.{home}
use Rattle.page_io.specs.Store.{blank}
use Rattle.page_io.specs.Meaning.{ImageStandsFor}
use Rattle.redo_area.specs.File.{settled}
use Rattle.dbm_model.specs.Members.{Member, NoDatabase, Holding, Members, HasRoomFor, AllHaveRoom}
use Rattle.dbm_model.specs.SessionRoom.{IsNeverShort}
use Rattle.dbm_fault.specs.Faults.{fault_of}
use Rattle.dbm_fault.specs.declared.fault.Fault.{Fault}
use Rattle.dbm_fault.specs.declared.fault.Fault.TheVariants.{Memory, Device, Broken, ReadOnly, TooLong, Full, NoPass, NoRoom, Damaged, NotADatabase, Version, TooSmall, BadLimit, Missing, Exists}
use Rattle.file_opening.specs.Opening.{AllStand}
use Rattle.dbm_file.specs.Opened as files
use Rattle.rehearsal.specs.Members.{StandsFor, AllStandFor}
use Rattle.rehearsal.specs.Rehearsals.{AreNeverShort}
use Rattle.rehearsal.specs.Sessions.{ending_of}
use Rattle.rehearsal.specs.declared.sessions.Ending.{Ending}

-- only that fault is told as want of room
told_as_short : (fault : Fault) → fault_of fault ≡ calls.NoRoom → fault ≡ NoRoom
told_as_short Memory is = absurd (cc)
told_as_short Device is = absurd (cc)
told_as_short Broken is = absurd (cc)
told_as_short ReadOnly is = absurd (cc)
told_as_short TooLong is = absurd (cc)
told_as_short Full is = absurd (cc)
told_as_short NoPass is = absurd (cc)
told_as_short NoRoom is = refl
told_as_short Damaged is = absurd (cc)
told_as_short NotADatabase is = absurd (cc)
told_as_short Version is = absurd (cc)
told_as_short TooSmall is = absurd (cc)
told_as_short BadLimit is = absurd (cc)
told_as_short Missing is = absurd (cc)
told_as_short Exists is = absurd (cc)

pub not_short : (fault : Fault) → fault ≢ NoRoom → fault_of fault ≢ calls.NoRoom
not_short fault other is = other (told_as_short fault is)

-- each image stands for a map, or for none
pub are_maps : (pages : ℕ) (start : Candidates) → files.AllHaveRoom pages start
    → AllStand pages start
are_maps pages start all image is = weaker (all image is) where
  weaker : (settled pages image ≡ blank)
      ⊎ ((contents : Contents) × (bounds : Bounds)
      × ImageStandsFor (settled pages image) contents bounds
      × (2 * home bounds ≤ pages)) → (settled pages image ≡ blank)
      ⊎ ((contents : Contents) × (bounds : Bounds)
      × ImageStandsFor (settled pages image) contents bounds)
  weaker (inl is) = inl is
  weaker (inr (contents, bounds, stands, enough)) = inr (contents, bounds, stands)

-- images that stand for members with room
pub members_have_room : (members : Members) (pages : ℕ) (start : Candidates)
    → AllStandFor members pages start → AllHaveRoom pages members → files.AllHaveRoom pages start
members_have_room members pages start stand all image is =
    let one = stand image is in by_member one.0 one.2 (all one.0 one.1)
  where
    by_member : (member : Member) → StandsFor (settled pages image) member
        → HasRoomFor pages member → (settled pages image ≡ blank)
        ⊎ ((contents : Contents) × (bounds : Bounds)
        × ImageStandsFor (settled pages image) contents bounds × (2 * home bounds ≤ pages))
    by_member NoDatabase stands has = inl stands
    by_member (Holding contents bounds) stands has = inr (contents, bounds, stands, has)

-- one session more
pub short_no_more : (endings : List Ending) (ending : Ending) → AreNeverShort endings
    → ((count : ℕ) → IsNeverShort (ending_of ending count))
    → AreNeverShort (endings ++ ending ∷ [])
short_no_more endings ending all one =
    let Never = λ (e : Ending). (count : ℕ) → IsNeverShort (ending_of e count) in
    All-append Never endings (ending ∷ []) all (All-cons Never ending [] one (All-nil Never))
