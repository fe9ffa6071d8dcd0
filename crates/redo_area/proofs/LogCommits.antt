-- What waits in a log, and where the log stands.
use Rattle.std.proofs.Common.{◌≡◌, ◌≤◌, ℕ, List, length, take, None, Some, true, sym, subst, arith}
use Rattle.std.proofs.lemmas.List.{take_all}
use Rattle.sect_dev.specs.Device.{Image, Candidates}
use Rattle.page_io.specs.Store.{Pages, bytes_of}
use Rattle.page_io.specs.declared.page.Page.{Page}
use Rattle.commit_log.specs.Log.{IsLogged}
use Rattle.redo_area.specs.declared.area.LogPlace.{LogPlace}
use Rattle.redo_area.specs.declared.area.RedoArea.{RedoArea}
use Rattle.redo_area.specs.declared.header.CommitKind.{CommitKind}
use Rattle.redo_area.specs.declared.header.Header.TheVariants.{Logging}
use Rattle.redo_area.specs.Header.{header_of, kind_of}
use Rattle.redo_area.specs.Settling.{IsInLog, HasLogRoom, SettlesToPages, waits_at}
use Rattle.redo_area.specs.Arming.{IsPlaced}
use Rattle.redo_area.proofs.Images.{logged_holds}

one_log : {log other : LogPlace} → Some log ≡ Some other → log ≡ other
one_log is = cc

-- redo images are no log
pub no_other : {P : Type 0} {log : LogPlace} → None ≡ Some log → P
no_other is = cc

-- the pages of a commit wait in a log
pub waits_logged : {capacity end start : ℕ} {kind : CommitKind} {candidate : Candidates}
    {seen : Image} (pages : Pages) (log : LogPlace) → kind_of (seen 0) ≡ kind
    → header_of capacity (seen 0) ≡ Logging start
    → IsLogged end start log.number log.at log.beside pages candidate seen
    → SettlesToPages true capacity end
    (record { kind = kind; start = start; held = 32; log = Some log }) pages candidate seen
waits_logged {capacity} {end} {start} {kind} {candidate} {seen} pages log kind_is header logged =
    let area : RedoArea = record { kind = kind; start = start; held = 32; log = Some log } in
    waits_at true capacity end area pages candidate seen (omega arith)
    (logged_holds capacity logged header) kind_is
    (λ other is. subst (IsInLog capacity end start pages candidate seen) (one_log is)
    (record { header = header; logged = logged }))

-- all of them
pub waits_in_log : {capacity end start : ℕ} {kind : CommitKind} {candidate : Candidates}
    {seen : Image} (pages : List Page) (log : LogPlace) → kind_of (seen 0) ≡ kind
    → header_of capacity (seen 0) ≡ Logging start
    → IsLogged end start log.number log.at log.beside (bytes_of pages) candidate seen
    → SettlesToPages true capacity end
    (record { kind = kind; start = start; held = 32; log = Some log })
    (bytes_of (take (length pages) pages)) candidate seen
waits_in_log {capacity} {end} {start} {kind} {candidate} {seen} pages log kind_is header logged =
    let area : RedoArea = record { kind = kind; start = start; held = 32; log = Some log } in
    subst (λ (ps : List Page). SettlesToPages true capacity end area (bytes_of ps) candidate seen)
    (sym (take_all (length pages) pages (omega arith)))
    (waits_logged (bytes_of pages) log kind_is header logged)

-- where such a log stands
pub log_placed : {capacity end start : ℕ} {kind : CommitKind} (log : LogPlace) → end ≤ start
    → HasLogRoom capacity start log
    → IsPlaced capacity end (record { kind = kind; start = start; held = 32; log = Some log })
log_placed {capacity} {end} {start} log behind room = record {
  behind = behind;
  within = omega (arith, room.room);
  log = λ other is. subst (HasLogRoom capacity start) (one_log is) room;
}
