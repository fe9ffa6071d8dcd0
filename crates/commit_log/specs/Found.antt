-- A commit that was found in a slot.
use Rattle.std.specs.Prelude.{◌≡◌, ◌⊎◌, ◌≤◌, ◌<◌, ◌+◌, ◌*◌, ℕ, take, false}
use Rattle.sect_dev.specs.Device.{Image}
use Rattle.page_model.specs.Bytes.{u32_at}
use Rattle.page_io.specs.Store.{bytes_of}
use Rattle.commit_log.specs.Log.{Log, Slot, slot_of, log_by, has_disordered}
use Rattle.commit_log.specs.declared.finding.FoundLog.{FoundLog}

abbrev pub log_found : FoundLog → Log
log_found found = record {
  number = found.number;
  end = found.end;
  pages = bytes_of (take found.count found.pages);
}

-- no sector of a slot begins with a greater number
abbrev pub AreAtMost : ℕ → Slot → Type 0
AreAtMost highest slot = (k : ℕ) → k < 61 → u32_at (slot k) 0 ≤ highest

-- what both slots say, in the order of their numbers, of which neither is disordered
abbrev pub AreFound : ℕ → FoundLog → FoundLog → Image → Type 0
AreFound start older newer seen =
    (has_disordered seen start ≡ false)
    × (((log_found older ≡ log_by start (slot_of seen (4 * start)))
    × (log_found newer ≡ log_by start (slot_of seen (4 * start + 64)))
    × (older.number ≤ newer.number))
    ⊎ ((log_found newer ≡ log_by start (slot_of seen (4 * start)))
    × (log_found older ≡ log_by start (slot_of seen (4 * start + 64)))
    × (older.number < newer.number)))
