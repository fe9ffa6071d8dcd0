-- What a handle leaves for the others that share its file.
use Rattle.std.specs.Prelude.{◌≡◌, true}
use Rattle.sect_dev.specs.Device.{IsStable}
use Rattle.dbm_file.specs.Database.{page_state}
use Rattle.dbm_file.specs.Opened.{device_below}
use Rattle.listed_dev.specs.contracts.listed_dev.ListedDevSectorDev.TheImpl.{ghosts as served}
use Rattle.ndbm_c.specs.declared.handle.Opened.{Opened}

-- Between two calls of a database that was opened for writing and that no fault has broken nothing is
-- unsynced, so another handle may open the file for reading.
abbrev pub RestsOnDisk : Type 0
RestsOnDisk = (opened : Opened) → (page_state opened.db).usable ≡ true
    → (page_state opened.db).writable ≡ true
    → IsStable (served.candidate (device_below opened.db)) (served.seen (device_below opened.db))
