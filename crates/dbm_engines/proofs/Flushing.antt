-- What is written stays through a flush.
use Rattle.std.proofs.Common.{◌≡◌, ◌∙◌, ℕ, true, List, Option, Some, None, Result, Ok, Err, IfSome, OnOk}
use Rattle.std.specs.FinMap as map
use Rattle.std.specs.Io.KnownBytes.{Appends, Keeps}
use Rattle.dbm_model.specs.Bounds.{Bounds}
use Rattle.dbm_model.specs.Calls.{Call}
use Rattle.dbm_model.specs.States.{Handle}
use Rattle.dbm_lines.specs.Lines.{bad_line}
use Rattle.dbm_model.specs.Sizes.{is_limit}
use Rattle.page_io.specs.declared.store.PageStore.{Ghosts}
use Rattle.dbm_file.specs.Opened.{HasRoom, IsOpenedAt}
use Rattle.dbm_file.specs.declared.database.Database.{Database}
use Rattle.dbm_file.proofs.EnoughRoom.{room_at}
use Rattle.dbm_lines.specs.Forms.{reply_line_in, script_in}
use Rattle.dbm_lines.specs.declared.forms.TextForm.{TextForm}
use Rattle.dbm_engines.specs.Scripts.{AnswersScript, AnswersInMemory, AnswersLine}

kept : (old mid new : Option (List ℕ)) (text : List ℕ) → Appends old mid text → Keeps mid new
    → Appends old new text
kept None mid new text wrote keeps = tt
kept (Some xs) None new text wrote keeps = absurd wrote
kept (Some xs) (Some ys) None text wrote keeps = absurd keeps
kept (Some xs) (Some ys) (Some zs) text wrote keeps = keeps ∙ wrote

pub on_ok : {E : Type 0} (r : Result Unit E) (old mid new : Option (List ℕ)) (text : List ℕ)
    → Appends old mid text → Keeps mid new → OnOk r (Appends old new text)
on_ok (Ok u) old mid new text wrote keeps = kept old mid new text wrote keeps
on_ok (Err e) old mid new text wrote keeps = tt

-- the answer of a line, after a flush
pub line_flushed : {S E : Type 0} {s : Ghosts S} (r : Result Unit E) (form : TextForm)
    (call : Option Call) (old new : Database S s) (start : Handle)
    (before mid after : Option (List ℕ))
    → AnswersLine form call old new start (λ text. Appends before mid text) → Keeps mid after
    → AnswersLine form call old new start (λ text. OnOk r (Appends before after text))
line_flushed r form None old new start before mid after answer keeps =
    (answer.0, on_ok r before mid after bad_line answer.1 keeps)
line_flushed r form (Some call) old new start before mid after answer keeps =
    (answer.0, answer.1, on_ok r before mid after (reply_line_in form answer.0) answer.2 keeps)

-- the answer of a new database, after the last flush
pub answered : {S E : Type 0} {s : Ghosts S} (r : Result Unit E) (form : TextForm) (bounds : Bounds)
    (first old mid new : Option (List ℕ)) (db after : Database S s)
    (opened : IsOpenedAt true db map.empty bounds) → HasRoom db → is_limit bounds.limit ≡ true
    → IfSome first (λ text. AnswersScript form (script_in form text) db after opened.handle old mid)
    → Keeps mid new → OnOk r (IfSome first (λ text. AnswersInMemory form bounds text old new))
answered {S} {E} {s} r form bounds first old mid new db after opened room allowed answers keeps =
    by_case r first answers
  where
    of_text : (text : List ℕ) → AnswersScript form (script_in form text) db after opened.handle old mid
        → AnswersInMemory form bounds text old new
    of_text text answers = record {
      allowed = allowed;
      before = opened.handle;
      empty = opened.is_fresh;
      room = room_at db opened.handle room opened.is_at;
      after = answers.run.after;
      replies = answers.replies;
      run = answers.run.run;
      written = kept old mid new _ answers.written keeps;
    }

    by_case : (r : Result Unit E) (first : Option (List ℕ))
        → IfSome first (λ text. AnswersScript form (script_in form text) db after opened.handle old mid)
        → OnOk r (IfSome first (λ text. AnswersInMemory form bounds text old new))
    by_case (Err e) first answers = tt
    by_case (Ok u) None answers = tt
    by_case (Ok u) (Some text) answers = of_text text answers
