-- What a device is told by whoever serves it.
use Rattle.std.specs.Prelude.{◌≡◌, List, []}
use Rattle.sect_dev.specs.Device.{Image}
use Rattle.sect_dev.specs.declared.past.Event.{Event}
use Rattle.sect_dev.specs.declared.served.Told.{Told}
use Rattle.sect_dev.specs.declared.served.Told.TheVariants.{Sector, CarriedOut}

-- the sector holds what a read of it gives
abbrev pub IsTrueOf : Image → Told → Type 0
IsTrueOf seen (Sector n content) = seen n ≡ content
IsTrueOf seen CarriedOut = Unit

-- which changes are still to be carried out
abbrev pub listed_after : Told → List Event → List Event
listed_after (Sector n content) listed = listed
listed_after CarriedOut listed = []
