-- What the commands do with the database of their file, and how they end.
use Rattle.std.specs.Prelude.{◌≡◌, ◌⊎◌, ℕ, List, [], ◌∷◌, true, Option, None, Some, IfSome, Result, Ok, Err, OnOk, IfErr}
use Rattle.std.specs.Io.KnownBytes.{Appends}
use Rattle.sect_dev.specs.declared.device.SectorDev as device
use Rattle.page_io.specs.declared.store.PageStore.{Ghosts}
use Rattle.redo_area.specs.declared.pager.Pager.{Pager}
use Rattle.page_cache.specs.declared.cached_pages.CachedPages.{CachedPages}
use Rattle.dbm_commands.specs.Printing.{format_text, stat_of, stat_text, version_of}
use Rattle.dbm_commands.specs.Verifying.{TellsPairs, verify_failures}
use Rattle.dbm_commands.specs.Words.{spelled}
use Rattle.dbm_commands.specs.declared.outcomes.Outcome.{Outcome}
use Rattle.dbm_commands.specs.declared.outcomes.Outcome.TheVariants.{Done}
use Rattle.dbm_commands.specs.declared.outcomes.Failure.{Failure}
use Rattle.dbm_commands.specs.declared.outcomes.Failure.TheVariants.{NotHex, Fault}
use Rattle.dbm_engines.specs.Dumping.{IsPairChance, Reads}
use Rattle.dbm_fault.specs.Among.{IsErrAmong}
use Rattle.dbm_fault.specs.declared.engine_fault.EngineFault.{EngineFault}
use Rattle.dbm_fault.specs.declared.engine_fault.EngineFault.TheVariants.{Memory, Read, Write, Line, Db}
use Rattle.dbm_fault.specs.declared.fault.Fault.TheVariants.{Damaged}
use Rattle.dbm_file.specs.Database.{store_of, AtEachHandle}
use Rattle.dbm_file.specs.Opened.{kind_below}
use Rattle.dbm_file.specs.Verifying.{IsFileOf}
use Rattle.dbm_file.specs.declared.database.Database.{Database}
use Rattle.dbm_lines.specs.Forms.{script_in}
use Rattle.dbm_lines.specs.declared.forms.TextForm.{TextForm}
use Rattle.dbm_lines.specs.declared.forms.TextForm.TheVariants.{Hexadecimal, Escaped}
use Rattle.dbm_lines.specs.declared.bad_lines.BadLine.{BadLine}
use Rattle.dbm_engines.specs.Loading.{Loads}
use Rattle.dbm_engines.specs.LoadRefusals.{stop_fault}
use Rattle.dbm_engines.specs.declared.load_stop.LoadStop.{LoadStop}
use Rattle.dbm_engines.specs.declared.load_stop.LoadStop.TheVariants.{Bad, Refused}
use Rattle.dbm_model.specs.Pairs.{Contents}
use Rattle.dbm_command_line.specs.declared.plan.Spelling.{Spelling}
use Rattle.dbm_command_line.specs.declared.plan.Spelling.TheVariants as spelling
use Rattle.dbm_engines.specs.Scripts.{AnswersScript, MakesFirst}
use Rattle.dbm_engines.specs.Tellings.{TellsScript}

-- the form of a text that is spelled so
abbrev pub form_of : Spelling → TextForm
form_of spelling.Text = Escaped
form_of spelling.Hexadecimal = Hexadecimal

-- The bytes that a word spells were taken, and it is so of them; or the word spells none, or there
-- was no memory for them.
abbrev pub Takes : Spelling → List ℕ → (List ℕ → Result Outcome Failure → Type 0)
    → Result Outcome Failure → Type 0
Takes spelled_so word IsSo result =
    ((bytes : List ℕ) × (spelled spelled_so word ≡ Some bytes) × IsSo bytes result)
    ⊎ (((spelled spelled_so word ≡ None) × (result ≡ Err NotHex))
    ⊎ (result ≡ Err (Fault Memory)))

-- how a load ended, as a command is told to have
abbrev pub told : Result Unit LoadStop → Result Outcome Failure
told (Ok done) = Ok Done
told (Err stop) = Err (Fault (stop_fault stop))

-- the first line of a load that was not stored, where the database refused to store it
abbrev pub refused_line_at : Option LoadStop → Option ℕ
refused_line_at (Some (Refused line fault)) = Some line
refused_line_at _ = None

-- why the line of a load is bad, where one is, and how its words are spelled
abbrev pub bad_line_at : Option LoadStop → Spelling → Option (BadLine × Spelling)
bad_line_at (Some (Bad line why)) spelling = Some (why, spelling)
bad_line_at _ spelling = None

-- how an engine ended that prints, as a command is told to have once the output was flushed
abbrev pub IsFlushed : Result Unit EngineFault → Result Outcome Failure → Type 0
IsFlushed (Ok ended) done = (done ≡ Ok Done) ⊎ (done ≡ Err (Fault Write))
IsFlushed (Err fault) done = done ≡ Err (Fault fault)

-- a dump or a list may end by this fault: by no failed reading of a text, and by no line
abbrev pub IsOfPrinting : EngineFault → Type 0
IsOfPrinting Read = ⊥
IsOfPrinting (Line n) = ⊥
IsOfPrinting fault = Unit {0}

module _ {S : Type 0} {s : Ghosts S} where
  -- Exactly this text of the map was printed, and the map stays. A database that is at a usable
  -- handle is refused by nothing but a failed write, want of memory and a fault of the device.
  pub record Prints (text_of : Contents → List ℕ) (old new : Database S s)
      (before after : Option (List ℕ)) (done : Result Outcome Failure) : Type 0 where
    pub printed : AtEachHandle old (λ h. h.state.usable ≡ true
        → OnOk done (Appends before after (text_of h.state.map)))
    pub ended : Result Unit EngineFault
    pub reads : Reads old new ended
    pub whole : AtEachHandle old (λ h. h.state.usable ≡ true
        → IfErr ended (λ fault. (fault ≡ Write) ⊎ IsPairChance h.state.map fault))
    pub is_told : IsFlushed ended done

  -- a text was loaded
  pub record LoadsText (form : TextForm) (text : Option (List ℕ)) (old new : Database S s)
      (done : Result Outcome Failure) : Type 0 where
    pub ended : Result Unit LoadStop
    pub loads : Loads form ended text old new
    pub is_told : done ≡ told ended

  -- A script of this form was run: the calls of its first lines were made, and where it ended well
  -- those of all its lines, with exactly the answer printed, also on any device.
  pub record RunsScript (form : TextForm) (text : Option (List ℕ)) (old new : Database S s)
      (before after : Option (List ℕ)) (done : Result Outcome Failure) : Type 0 where
    pub made : AtEachHandle old (λ h. MakesFirst form text old new h)
    pub answered : AtEachHandle old (λ h. OnOk done (IfSome text
        (λ bytes. AnswersScript form (script_in form bytes) old new h before after)))
    pub tells : OnOk done (IfSome text
        (λ bytes. TellsScript form (script_in form bytes) old new before after))
    pub ended : Result Unit EngineFault
    pub only : IsErrAmong ended (Memory ∷ Read ∷ Write ∷ [])
    pub is_told : IsFlushed ended done

  -- the seven numbers of a database were printed, or the write failed
  abbrev pub PrintsNumbers : Database S s → Database S s → Option (List ℕ) → Option (List ℕ)
      → Result Outcome Failure → Type 0
  PrintsNumbers old new before after done =
      (new ≡ old) × OnOk done (Appends before after (stat_text (stat_of old)))
      × ((done ≡ Ok Done) ⊎ (done ≡ Err (Fault Write)))

  -- A file was looked through: how many pairs there are was printed only of a good one, and of a
  -- good one it wasn't told that it is damaged.
  pub record LooksThrough (old : Database S s) (before after : Option (List ℕ))
      (done : Result Outcome Failure) : Type 0 where
    pub good : s.honest (store_of old)
        → OnOk done (TellsPairs (s.committed (store_of old)) before after)
    pub damaged : s.honest (store_of old) → done ≡ Err (Fault (Db Damaged)) → (pairs : ℕ)
        → IsFileOf (s.committed (store_of old)) pairs → ⊥
    pub only : IsErrAmong done verify_failures

-- the version of a database's format and the syncs of each of its commits in a row were printed, or
-- the write failed
abbrev pub PrintsFormat : {D : Type 0} {bound : device.Ghosts D} {p : Ghosts (Pager D bound)}
    {s : Ghosts (CachedPages (Pager D bound) p)} (old new : Database (CachedPages (Pager D bound) p) s)
    → Option (List ℕ) → Option (List ℕ) → Result Outcome Failure → Type 0
PrintsFormat old new before after done =
    (new ≡ old) × OnOk done (Appends before after (format_text (version_of old) (kind_below old)))
    × ((done ≡ Ok Done) ⊎ (done ≡ Err (Fault Write)))
