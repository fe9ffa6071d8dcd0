-- Which members of the definitions the images of a device stand for.
use Rattle.std.specs.Prelude.{◌≡◌, ℕ, Contains}
use Rattle.sect_dev.specs.Device.{Image, Candidates, IsImageOf}
use Rattle.page_io.specs.Store.{Settled, blank}
use Rattle.page_io.specs.Meaning.{ImageStandsFor}
use Rattle.redo_area.specs.File.{settled}
use Rattle.dbm_model.specs.Members.{Member, NoDatabase, Holding, Members}

-- an image that settles so stands for the member: a blank one for no database
abbrev pub StandsFor : Settled → Member → Type 0
StandsFor settled NoDatabase = settled ≡ blank
StandsFor settled (Holding map bounds) = ImageStandsFor settled map bounds

-- for one of these
abbrev pub StandsForOne : Members → Settled → Type 0
StandsForOne members settled =
    (member : Member) × Contains members member × StandsFor settled member

-- each image of a device of so many pages stands for one of these
abbrev pub AllStandFor : Members → ℕ → Candidates → Type 0
AllStandFor members pages candidate =
    (image : Image) → IsImageOf candidate image → StandsForOne members (settled pages image)
