-- How commands on a file end.
use Rattle.std.proofs.Common.{◌≡◌, ◌⊎◌, inl, inr, ⊎_elim, ℕ, List, ◌∷◌, [], Option, None, Some, true, IfSome, Result, Ok, Err, OnOk, IfErr, sym, ap, subst, ◌∙◌}
use Rattle.std.specs.Io.KnownBytes.{Appends, Keeps}
use Rattle.std.proofs.KnownBytes.{Appends-kept}
use Rattle.sect_dev.specs.declared.device.SectorDev as device
use Rattle.page_io.specs.declared.store.PageStore as store
use Rattle.redo_area.specs.declared.pager.Pager.{Pager}
use Rattle.page_cache.specs.declared.cached_pages.CachedPages.{CachedPages}
use Rattle.file_opening.specs.Opening.{writes}
use Rattle.file_opening.specs.declared.open_how.OpenHow.{OpenHow}
use Rattle.dbm_engines.specs.Dumping.{IsPairChance, Reads}
use Rattle.dbm_file.specs.Database.{AtEachHandle}
use Rattle.dbm_file.specs.Named.{OpensFile}
use Rattle.dbm_file.specs.Opened.{IsNewlyOpened}
use Rattle.dbm_file.specs.declared.database.Database.{Database}
use Rattle.dbm_fault.specs.Among.{IsAmong, IsErrAmong}
use Rattle.dbm_fault.specs.declared.fault.Fault.{Fault as Refusal}
use Rattle.dbm_fault.specs.declared.engine_fault.EngineFault.{EngineFault}
use Rattle.dbm_fault.specs.declared.engine_fault.EngineFault.TheVariants.{Memory, Read, Write, Db}
use Rattle.dbm_commands.specs.Words.{spelled}
use Rattle.dbm_commands.specs.declared.outcomes.Outcome.{Outcome}
use Rattle.dbm_commands.specs.declared.outcomes.Outcome.TheVariants.{Done}
use Rattle.dbm_commands.specs.declared.outcomes.Failure.{Failure}
use Rattle.dbm_commands.specs.declared.outcomes.Failure.TheVariants.{NotHex, Fault}
use Rattle.dbm_model.specs.Pairs.{Contents}
use Rattle.dbm_command_line.specs.declared.plan.Spelling.{Spelling}
use Rattle.dbm_engines.specs.Scripts.{AnswersScript, MakesFirst}
use Rattle.dbm_engines.specs.Tellings.{TellsScript}
use Rattle.dbm_lines.specs.Forms.{script_in}
use Rattle.dbm_lines.specs.declared.forms.TextForm.{TextForm}
use Rattle.dbm_tool.specs.Commands.{IsFlushed, Prints, RunsScript}
use Rattle.dbm_tool.specs.Files.{IsClosed, IsUnopened, Opens, RefusesOpening}

-- a word spells no bytes, or there was no memory for them
pub not_taken : (spelled_so : Spelling) (word : List ℕ) (failure : Failure)
    (result : Result Outcome Failure) → result ≡ Err failure
    → (failure ≡ NotHex → spelled spelled_so word ≡ None)
    → IsAmong failure (NotHex ∷ Fault Memory ∷ [])
    → ((spelled spelled_so word ≡ None) × (result ≡ Err NotHex)) ⊎ (result ≡ Err (Fault Memory))
not_taken spelled_so word failure result is none among =
    ⊎_elim (λ no_digits. inl (none no_digits, is ∙ ap Err no_digits))
    (λ memory. inr (is ∙ ap Err memory)) among

-- what an engine did, also where the flush behind it fails
flushed_so : (ended : Result Unit EngineFault) (done : Result Outcome Failure) (P Q : Type 0)
    → IfErr ended (λ fault. done ≡ Err (Fault fault)) → OnOk ended P → (P → Q) → OnOk done Q
flushed_so (Ok x) (Ok y) P Q failed p then = then p
flushed_so (Ok x) (Err e) P Q failed p then = tt
flushed_so (Err f) (Ok y) P Q failed p then = absurd (let is = failed in cc)
flushed_so (Err f) (Err e) P Q failed p then = tt

-- how a command ends behind it
flushed_told : (ended : Result Unit EngineFault) (done : Result Outcome Failure)
    → IfErr ended (λ fault. done ≡ Err (Fault fault))
    → OnOk ended ((done ≡ Ok Done) ⊎ (done ≡ Err (Fault Write))) → IsFlushed ended done
flushed_told (Ok x) done failed well = well
flushed_told (Err f) done failed well = failed

of_text : (text : Option (List ℕ)) (P Q : List ℕ → Type 0) → ((bytes : List ℕ) → P bytes → Q bytes)
    → IfSome text P → IfSome text Q
of_text None P Q then p = tt
of_text (Some bytes) P Q then p = then bytes p

module _ {S : Type 0} {s : store.Ghosts S} (old new : Database S s)
    (before mid after : Option (List ℕ)) (ended : Result Unit EngineFault)
    (done : Result Outcome Failure) (failed : IfErr ended (λ fault. done ≡ Err (Fault fault)))
    (well : OnOk ended ((done ≡ Ok Done) ⊎ (done ≡ Err (Fault Write))))
    (keeps : Keeps mid after) where
  -- a text was printed, and the output flushed
  pub printed : (text_of : Contents → List ℕ) → AtEachHandle old (λ h. h.state.usable ≡ true
      → OnOk ended (Appends before mid (text_of h.state.map)))
      → AtEachHandle old (λ h. h.state.usable ≡ true
      → IfErr ended (λ fault. (fault ≡ Write) ⊎ IsPairChance h.state.map fault))
      → Reads old new ended → Prints text_of old new before after done
  printed text_of prints whole reads = record {
    printed = λ honest h at usable. flushed_so ended done _ _ failed (prints honest h at usable)
        (λ all. Appends-kept before mid after (text_of h.state.map) all keeps);
    ended = ended;
    reads = reads;
    whole = whole;
    is_told = flushed_told ended done failed well;
  }

  -- a script was run, and the output flushed
  pub ran : (form : TextForm) (text : Option (List ℕ))
      → AtEachHandle old (λ h. MakesFirst form text old new h)
      → AtEachHandle old (λ h. OnOk ended (IfSome text
      (λ bytes. AnswersScript form (script_in form bytes) old new h before mid)))
      → OnOk ended (IfSome text
      (λ bytes. TellsScript form (script_in form bytes) old new before mid))
      → IsErrAmong ended (Memory ∷ Read ∷ Write ∷ [])
      → RunsScript form text old new before after done
  ran form text made answers tells only = record {
    made = made;
    answered = λ honest h at. flushed_so ended done _ _ failed (answers honest h at)
        (of_text text _ _ (λ bytes one. record {
          replies = one.replies;
          run = one.run;
          written = Appends-kept before mid after _ one.written keeps;
        }));
    tells = flushed_so ended done _ _ failed tells (of_text text _ _ (λ bytes one. record {
      calls = one.calls;
      calls_are = one.calls_are;
      replies = one.replies;
      answered = one.answered;
      written = Appends-kept before mid after _ one.written keeps;
    }));
    ended = ended;
    only = only;
    is_told = flushed_told ended done failed well;
  }

module _ {D : Type 0} {bound : device.Ghosts D} {p : store.Ghosts (Pager D bound)}
    (s : store.Ghosts (CachedPages (Pager D bound) p)) (how : OpenHow)
    (Did : Database (CachedPages (Pager D bound) p) s
    → Database (CachedPages (Pager D bound) p) s → Result Outcome Failure → Type 0)
    (result : Result Outcome Failure) where
  -- the file was not opened
  pub not_opened : (fault : Refusal) → result ≡ Err (Fault (Db fault))
      → RefusesOpening bound how fault → Opens s how Did result
  not_opened fault is refused =
      inl (subst (λ (r : Result Outcome Failure). IsUnopened bound how r) (sym is) refused)

  -- it was, and closed again
  pub was_closed : (opened after : Database (CachedPages (Pager D bound) p) s)
      (done : Result Outcome Failure) → OpensFile how opened
      → IsNewlyOpened (writes how.access) 68250498 opened → Did opened after done
      → IsClosed after done result → Opens s how Did result
  was_closed opened after done opens fresh did closed = inr record {
    opened = opened;
    after = after;
    done = done;
    opens = opens;
    fresh = fresh;
    did = did;
    closed = closed;
  }
