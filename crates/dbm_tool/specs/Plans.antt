-- What is proved of a plan that was carried out.
use Rattle.std.specs.Prelude.{◌≡◌, ◌++◌, ℕ, List, Option, None, Some, IfSome, Result, Ok, Err, OnOk, length}
use Rattle.std.specs.Io.KnownBytes.{Appends}
use Rattle.sect_dev.specs.declared.device.SectorDev as device
use Rattle.page_io.specs.declared.store.PageStore as store
use Rattle.redo_area.specs.declared.pager.Pager.{Pager}
use Rattle.page_cache.specs.declared.cached_pages.CachedPages.{CachedPages}
use Rattle.file_opening.specs.declared.open_how.Access.TheVariants.{ReadOnly, ReadWrite}
use Rattle.dbm_file.specs.declared.calls.Call.TheVariants as call
use Rattle.dbm_file.specs.declared.calls.StoreMode.TheVariants as mode
use Rattle.dbm_lines.specs.Forms.{dump_in, listing_in}
use Rattle.dbm_command_line.specs.declared.help_text.TheConstants.{FAULT_TABLE}
use Rattle.dbm_command_line.specs.declared.plan.Plan.{Plan}
use Rattle.dbm_command_line.specs.declared.plan.Upgrade.TheVariants.{Version2}
use Rattle.dbm_command_line.specs.declared.plan.Plan.TheVariants.{Create, Store, Insert, Fetch, Delete, List as ListKeys, Dump, Load, Stat, Verify, Format, Upgrade, Script, ReadScript, Rehearse, Faults}
use Rattle.dbm_command_line.specs.declared.plan.Source.TheVariants.{File, Memory}
use Rattle.dbm_command_line.specs.declared.plan.Version.{Version}
use Rattle.dbm_command_line.specs.declared.plan.Version.TheVariants.{V1, V2}
use Rattle.dbm_model.specs.Bounds as bounds
use Rattle.dbm_commands.specs.Outcomes.{IsTold, MakesCall}
use Rattle.dbm_commands.specs.Printing.{IsFetched}
use Rattle.dbm_commands.specs.declared.outcomes.Outcome.{Outcome}
use Rattle.dbm_commands.specs.declared.outcomes.Outcome.TheVariants.{Done}
use Rattle.dbm_commands.specs.declared.outcomes.Failure.{Failure}
use Rattle.dbm_commands.specs.declared.outcomes.Failure.TheVariants.{NotKept}
use Rattle.dbm_tool.specs.Commands.{LoadsText, LooksThrough, Prints, PrintsFormat, PrintsNumbers, RunsScript, Takes, form_of}
use Rattle.dbm_tool.specs.Files.{Opens, made_new, there}
use Rattle.dbm_rehearse.specs.Counts.{AreCounted, counts_text, stops_of}
use Rattle.dbm_rehearse.specs.Lines.{bad_lines}
use Rattle.dbm_rehearse.specs.declared.report.Rehearsed.{Rehearsed}
use Rattle.dbm_engines.specs.Scripts.{AnswersInMemory}
use Rattle.dbm_lines.specs.Scripts.{calls_in, script_of}

-- a script was rehearsed, and this was the first stop that lost a change: its bad lines were told,
-- and then the counts
pub record Rehearses (most lost : Option ℕ) (text : List ℕ) (old new : Option (List ℕ))
    : Type 0 where
  pub counts : Rehearsed
  pub told : Appends old new (bad_lines (script_of text) ++ counts_text counts)
  pub calls : counts.calls ≡ length (calls_in (script_of text))
  pub stops : counts.stops ≡ stops_of most counts.device_calls
  pub counted : AreCounted counts
  pub lost_is : counts.first_lost ≡ lost

-- the version of the format that the words ask for, and the bounds of a database that is made so
abbrev pub asked_version : Version → bounds.Version
asked_version V1 = bounds.V1
asked_version V2 = bounds.V2

abbrev pub asked_bounds : ℕ → Version → bounds.Bounds
asked_bounds limit version = record { limit = limit; version = asked_version version }

-- a rehearsal told its counts, and the first stop that lost a change, if one did
abbrev pub EndsRehearsal : Option ℕ → Result Outcome Failure → List ℕ → Option (List ℕ)
    → Option (List ℕ) → Type 0
EndsRehearsal stops (Ok outcome) text old new = Rehearses stops None text old new
EndsRehearsal stops (Err (NotKept stop)) text old new = Rehearses stops (Some stop) text old new
EndsRehearsal stops (Err failure) text old new = Unit {0}

module _ {D : Type 0} {bound : device.Ghosts D} {p : store.Ghosts (Pager D bound)}
    (s : store.Ghosts (CachedPages (Pager D bound) p)) where
  -- The plan was carried out, over files that are devices of this kind, and ended so: with this
  -- input, and an output that had the old bytes and has the new ones. Of the plans that replace,
  -- copy or salvage a file, or have its commits made otherwise, nothing is said here.
  abbrev pub CarriesOut : Plan → Result Outcome Failure → Option (List ℕ) → Option (List ℕ)
      → Option (List ℕ) → Type 0
  CarriesOut (Create file limit version commits) result input old new =
      Opens s (made_new limit version commits)
      (λ db after done. (after ≡ db) × (done ≡ Ok Done)) result
  CarriesOut (Store file key content spelled) result input old new =
      Takes spelled key.now (λ k. Takes spelled content.now (λ c. Opens s (there ReadWrite)
      (λ db after done. MakesCall db after (call.Store k c mode.Replace) (IsTold done)))) result
  CarriesOut (Insert file key content spelled) result input old new =
      Takes spelled key.now (λ k. Takes spelled content.now (λ c. Opens s (there ReadWrite)
      (λ db after done. MakesCall db after (call.Store k c mode.Insert) (IsTold done)))) result
  CarriesOut (Fetch file key spelled) result input old new =
      Takes spelled key.now (λ k. Opens s (there ReadOnly)
      (λ db after done. MakesCall db after (call.Fetch k) (IsFetched spelled old new done))) result
  CarriesOut (Delete file key spelled) result input old new =
      Takes spelled key.now (λ k. Opens s (there ReadWrite)
      (λ db after done. MakesCall db after (call.Delete k) (IsTold done))) result
  CarriesOut (ListKeys file spelled) result input old new =
      Opens s (there ReadOnly) (λ db after. Prints (listing_in (form_of spelled)) db after old new)
      result
  CarriesOut (Dump file spelled) result input old new =
      Opens s (there ReadOnly) (λ db after. Prints (dump_in (form_of spelled)) db after old new)
      result
  CarriesOut (Load file spelled group) result input old new =
      Opens s (there ReadWrite) (λ db after. LoadsText (form_of spelled) input db after) result
  CarriesOut (Stat file) result input old new =
      Opens s (there ReadOnly) (λ db after. PrintsNumbers db after old new) result
  CarriesOut (Verify file) result input old new =
      Opens s (there ReadOnly) (λ db after. LooksThrough db old new) result
  CarriesOut (Format file) result input old new =
      Opens s (there ReadOnly) (λ db after. PrintsFormat db after old new) result
  CarriesOut (Upgrade file Version2) result input old new =
      Opens s (there ReadWrite) (λ db after done. MakesCall db after call.Upgrade (IsTold done))
      result
  CarriesOut (Script (File file) spelled) result input old new =
      Opens s (there ReadWrite)
      (λ db after. RunsScript (form_of spelled) input db after old new) result
  CarriesOut (ReadScript file spelled) result input old new =
      Opens s (there ReadOnly)
      (λ db after. RunsScript (form_of spelled) input db after old new) result
  CarriesOut (Script (Memory limit version) spelled) result input old new =
      OnOk result (IfSome input
      (λ text. AnswersInMemory (form_of spelled) (asked_bounds limit version) text old new))
  CarriesOut (Rehearse source stops) result input old new =
      IfSome input (λ text. EndsRehearsal stops result text old new)
  CarriesOut Faults result input old new = OnOk result (Appends old new FAULT_TABLE.now)
  CarriesOut plan result input old new = Unit {0}
