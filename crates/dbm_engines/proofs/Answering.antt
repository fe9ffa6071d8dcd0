-- How far a script has been answered.
use Rattle.std.proofs.Common.{◌≡◌, ◌+◌, ℕ, Bool, true, false, List, [], ◌∷◌, ◌++◌, take, map, Option, Some, None, IfSome, Result, Ok, Err, OnOk, is_ok, refl, sym, ap, subst, ◌∙◌, append-nil, append_assoc}
use Rattle.std.specs.Io.KnownBytes.{Appends}
use Rattle.dbm_model.specs.Calls.{Call, Reply}
use Rattle.dbm_lines.specs.Lines.{bad_line}
use Rattle.dbm_lines.specs.Scripts.{calls_in}
use Rattle.dbm_model.specs.States.{Handle}
use Rattle.dbm_model.specs.Steps.{Run}
use Rattle.page_io.specs.declared.store.PageStore.{Ghosts}
use Rattle.dbm_file.specs.Answers.{IsSameDatabase}
use Rattle.dbm_file.specs.Runs.{IsRun}
use Rattle.dbm_file.specs.declared.database.Database.{Database}
use Rattle.dbm_file.proofs.Breaks.{CountsNow}
use Rattle.dbm_file.proofs.Runs.{goes_on_with}
use Rattle.dbm_lines.proofs.TextLines.{first_line, call_in-kept}
use Rattle.dbm_lines.specs.Bounds.{longest_in}
use Rattle.dbm_lines.specs.Forms.{answer_in, call_in, reply_line_in, script_in}
use Rattle.dbm_lines.specs.declared.forms.TextForm.{TextForm}
use Rattle.dbm_lines.specs.Reading.{line_bytes, after_line, ReadsLine}
use Rattle.dbm_engines.specs.Scripts.{AreFirstLines, MakesFirst, AnswersFirst, AnswersScript, AnswersLine}

-- the first line of a script and the rest
first_call : (form : TextForm) (x : ℕ) (xs line : List ℕ)
    → line ≡ take (longest_in form + 1) (line_bytes (x ∷ xs))
    → script_in form (x ∷ xs) ≡ call_in form line ∷ script_in form (after_line (x ∷ xs))
first_call form x xs line h = ap (map (call_in form)) (first_line x xs)
    ∙ ap (λ call. call ∷ script_in form (after_line (x ∷ xs)))
    (sym (ap (call_in form) h ∙ call_in-kept form (line_bytes (x ∷ xs))))

pub calls_in-push : (script : List (Option Call)) (call : Option Call)
    → calls_in (script ++ call ∷ []) ≡ calls_in script ++ calls_in (call ∷ [])
calls_in-push [] call = refl
calls_in-push (None ∷ script) call = calls_in-push script call
calls_in-push (Some earlier ∷ script) call =
    ap (λ calls. earlier ∷ calls) (calls_in-push script call)

answer_in-bad : (form : TextForm) (before after : Handle) (script : List (Option Call))
    (replies : List Reply) → Run before (calls_in script) replies after
    → answer_in form (script ++ None ∷ []) replies ≡ answer_in form script replies ++ bad_line
answer_in-bad form before after [] replies run = refl
answer_in-bad form before after (None ∷ script) replies run =
    ap (λ text. bad_line ++ text) (answer_in-bad form before after script replies run)
    ∙ sym (append_assoc bad_line (answer_in form script replies) bad_line)
answer_in-bad form before after (Some call ∷ script) [] run = absurd run
answer_in-bad form before after (Some call ∷ script) (reply ∷ replies) run =
    ap (λ text. reply_line_in form reply ++ text)
    (answer_in-bad form run.0 after script replies run.2)
    ∙ sym (append_assoc (reply_line_in form reply) (answer_in form script replies) bad_line)

answer_in-call : (form : TextForm) (before after : Handle) (script : List (Option Call))
    (replies : List Reply) (call : Call) (reply : Reply)
    → Run before (calls_in script) replies after
    → answer_in form (script ++ Some call ∷ []) (replies ++ reply ∷ [])
    ≡ answer_in form script replies ++ reply_line_in form reply
answer_in-call form before after [] [] call reply run = append-nil (reply_line_in form reply)
answer_in-call form before after [] (other ∷ replies) call reply run = absurd run
answer_in-call form before after (None ∷ script) replies call reply run =
    ap (λ text. bad_line ++ text)
    (answer_in-call form before after script replies call reply run)
    ∙ sym (append_assoc bad_line (answer_in form script replies) (reply_line_in form reply))
answer_in-call form before after (Some earlier ∷ script) [] call reply run = absurd run
answer_in-call form before after (Some earlier ∷ script) (other ∷ replies) call reply run =
    ap (λ text. reply_line_in form other ++ text)
    (answer_in-call form run.0 after script replies call reply run.2)
    ∙ sym (append_assoc (reply_line_in form other) (answer_in form script replies)
    (reply_line_in form reply))

pub joined : (a b c : Option (List ℕ)) (first second : List ℕ) → Appends a b first → Appends b c second
    → Appends a c (first ++ second)
joined None b c first second p q = tt
joined (Some x) None c first second p q = absurd p
joined (Some x) (Some y) None first second p q = absurd q
joined (Some x) (Some y) (Some z) first second p q =
    q ∙ ap (λ text. text ++ second) p ∙ append_assoc x first second

-- of a script, what was answered and what is left
abbrev pub IsLeft : TextForm → Option (List ℕ) → Option (List ℕ) → List (Option Call) → Type 0
IsLeft form None now done = Unit {0}
IsLeft form (Some text) None done = ⊥
IsLeft form (Some text) (Some rest) done =
    done ++ script_in form rest ≡ script_in form text

-- how far a script has been answered
pub record IsAnswered {S : Type 0} {s : Ghosts S} (form : TextForm) (old new : Database S s)
    (start : Handle) (first now before after : Option (List ℕ)) : Type 0 where
  pub done : List (Option Call)
  pub answered : AnswersScript form done old new start before after
  pub left : IsLeft form first now done

pub at_start : {S : Type 0} {s : Ghosts S} (form : TextForm) (db : Database S s)
    (start : Handle) (first before : Option (List ℕ)) → IsRun db db start [] []
    → IsAnswered form db db start first first before before
at_start form db start None None none =
    record { done = []; answered = record { replies = []; run = none; written = tt }; left = tt }
at_start form db start None (Some text) none =
    record {
      done = [];
      answered =
          record { replies = []; run = none; written = sym (append-nil text) };
      left = tt;
    }
at_start form db start (Some script) None none =
    record { done = []; answered = record { replies = []; run = none; written = tt }; left = refl }
at_start form db start (Some script) (Some text) none =
    record {
      done = [];
      answered =
          record { replies = []; run = none; written = sym (append-nil text) };
      left = refl;
    }

module _ {S : Type 0} (s : Ghosts S) (form : TextForm) (old mid new : Database S s)
    (start : Handle) (goes : IsSameDatabase mid new) (counts : CountsNow new) where
  one_more : (before now after : Option (List ℕ)) (done : List (Option Call)) (call : Option Call)
      (h : AnswersScript form done old mid start before now)
      → AnswersLine form call mid new h.run.after (λ text. Appends now after text)
      → AnswersScript form (done ++ call ∷ []) old new start before after
  one_more before now after done None h answer = record {
    replies = h.replies;
    run = rw (calls_in-push done None, append-nil (calls_in done), answer.0) h.run;
    written = rw (answer_in-bad form _ _ done h.replies h.run.run)
        (joined before now after (answer_in form done h.replies) bad_line h.written answer.1);
  }
  one_more before now after done (Some call) h answer = record {
    replies = h.replies ++ answer.0 ∷ [];
    run = goes_on_with s old mid new start (calls_in done) h.replies call answer.0 goes h.run
        answer.1 counts _ _ (calls_in-push done (Some call)) refl;
    written = rw (answer_in-call form _ _ done h.replies call answer.0 h.run.run)
        (joined before now after (answer_in form done h.replies) (reply_line_in form answer.0)
        h.written answer.2);
  }

pub left_after : (form : TextForm) (first now next : Option (List ℕ)) (line : List ℕ)
    (done : List (Option Call)) → IsLeft form first now done
    → IfSome now (λ text. ReadsLine (longest_in form + 1) text true line next)
    → IsLeft form first next (done ++ call_in form line ∷ [])
left_after form None now next line done h r = tt
left_after form (Some text) None next line done h r = absurd h
left_after form (Some text) (Some []) next line done h r = let e = r.0 in cc
left_after form (Some text) (Some (x ∷ xs)) next line done h r =
    rw (r.2) (append_assoc done (call_in form line ∷ [])
    (script_in form (after_line (x ∷ xs)))
    ∙ ap (λ rest. done ++ rest) (sym (first_call form x xs line r.1)) ∙ h)

-- a line was read and answered
pub go_on : {S : Type 0} (s : Ghosts S) (form : TextForm) (old mid new : Database S s)
    (start : Handle) (first now next before written after : Option (List ℕ)) (line : List ℕ)
    → IsSameDatabase mid new → CountsNow new
    → (h : IsAnswered form old mid start first now before written)
    → IfSome now (λ text. ReadsLine (longest_in form + 1) text true line next)
    → AnswersLine form (call_in form line) mid new h.answered.run.after
    (λ text. Appends written after text)
    → IsAnswered form old new start first next before after
go_on s form old mid new start first now next before written after line goes counts h read
    answer = record {
      done = h.done ++ call_in form line ∷ [];
      answered = one_more s form old mid new start goes counts before written after h.done
          (call_in form line) h.answered answer;
      left = left_after form first now next line h.done h.left read;
    }

-- what is said where the writing went well
pub said : {S E : Type 0} {s : Ghosts S} (r : Result Unit E) (form : TextForm)
    (call : Option Call) (old new : Database S s) (start : Handle) (Says : List ℕ → Type 0)
    → is_ok r ≡ true → AnswersLine form call old new start (λ text. OnOk r (Says text))
    → AnswersLine form call old new start Says
said (Ok u) form None old new start Says ok answer = answer
said (Ok u) form (Some call) old new start Says ok answer = answer
said (Err e) form call old new start Says ok answer = cc

-- a line that was there
pub was_read : (form : TextForm) (now next : Option (List ℕ)) (line : List ℕ) (more : Bool)
    → more ≡ true → IfSome now (λ text. ReadsLine (longest_in form + 1) text more line next)
    → IfSome now (λ text. ReadsLine (longest_in form + 1) text true line next)
was_read form now next line more is read =
    subst (λ (b : Bool). IfSome now (λ text. ReadsLine (longest_in form + 1) text b line next))
    is read

-- the text was at its end
pub was_none : (form : TextForm) (now next : Option (List ℕ)) (line : List ℕ) (more : Bool)
    → more ≡ false → IfSome now (λ text. ReadsLine (longest_in form + 1) text more line next)
    → IfSome now (λ text. ReadsLine (longest_in form + 1) text false line next)
was_none form now next line more is read =
    subst (λ (b : Bool). IfSome now (λ text. ReadsLine (longest_in form + 1) text b line next))
    is read

-- no call was made
pub no_call : {S : Type 0} {s : Ghosts S} (form : TextForm) (db : Database S s)
    (start : Handle) (text : Option (List ℕ)) → IsRun db db start [] []
    → MakesFirst form text db db start
no_call form db start None none =
    record { made = []; first = ([], tt); replies = []; run = none }
no_call form db start (Some text) none =
    record { made = []; first = (script_in form text, refl); replies = []; run = none }

-- what was answered are the first lines
first_lines : (form : TextForm) (first now : Option (List ℕ)) (done : List (Option Call))
    → IsLeft form first now done → AreFirstLines form first done
first_lines form None now done left = ([], tt)
first_lines form (Some text) None done left = absurd left
first_lines form (Some text) (Some rest) done left = (script_in form rest, sym left)

-- with the line that was read
with_line : (form : TextForm) (first now next : Option (List ℕ)) (line : List ℕ)
    (done : List (Option Call)) → IsLeft form first now done
    → IfSome now (λ text. ReadsLine (longest_in form + 1) text true line next)
    → AreFirstLines form first (done ++ call_in form line ∷ [])
with_line form first now next line done left read =
    first_lines form first next (done ++ call_in form line ∷ [])
    (left_after form first now next line done left read)

-- the calls that were made stand
pub stand : {S : Type 0} {s : Ghosts S} (form : TextForm) (old new : Database S s)
    (start : Handle) (first now before after : Option (List ℕ))
    → IsAnswered form old new start first now before after → MakesFirst form first old new start
stand form old new start first now before after h =
    record {
      made = h.done;
      first = first_lines form first now h.done h.left;
      replies =
          h.answered.replies;
      run = h.answered.run;
    }

-- and their answers
pub answered_first : {S : Type 0} {s : Ghosts S} (form : TextForm) (old new : Database S s)
    (start : Handle) (first now before after : Option (List ℕ))
    → IsAnswered form old new start first now before after
    → AnswersFirst form first old new start before after
answered_first form old new start first now before after h = record {
  made = h.done;
  first = first_lines form first now h.done h.left;
  answers = h.answered;
}

-- so does a call whose reply was not written
module _ {S : Type 0} (s : Ghosts S) (form : TextForm) (old mid new : Database S s)
    (start : Handle) (first now next before after : Option (List ℕ)) (line : List ℕ)
    (Says : List ℕ → Type 0) (goes : IsSameDatabase mid new) (counts : CountsNow new)
    (h : IsAnswered form old mid start first now before after)
    (read : IfSome now (λ text. ReadsLine (longest_in form + 1) text true line next)) where
  stands_by : (call : Option Call) → AnswersLine form call mid new h.answered.run.after Says
      → AreFirstLines form first (h.done ++ call ∷ []) → MakesFirst form first old new start
  stands_by None answer lines = record {
    made = h.done ++ None ∷ [];
    first = lines;
    replies = h.answered.replies;
    run = rw (calls_in-push h.done None, append-nil (calls_in h.done), answer.0) h.answered.run;
  }
  stands_by (Some call) answer lines = record {
    made = h.done ++ Some call ∷ [];
    first = lines;
    replies = h.answered.replies ++ answer.0 ∷ [];
    run = goes_on_with s old mid new start (calls_in h.done) h.answered.replies call answer.0
        goes h.answered.run answer.1 counts _ _ (calls_in-push h.done (Some call)) refl;
  }

  pub stand_with : AnswersLine form (call_in form line) mid new h.answered.run.after Says
      → MakesFirst form first old new start
  stand_with answer = stands_by (call_in form line) answer
      (with_line form first now next line h.done h.left read)

whole : {S : Type 0} {s : Ghosts S} (form : TextForm) (old new : Database S s) (start : Handle)
    (text : List ℕ) (now next before after : Option (List ℕ)) (line : List ℕ)
    (done : List (Option Call)) → IsLeft form (Some text) now done
    → AnswersScript form done old new start before after
    → IfSome now (λ text. ReadsLine (longest_in form + 1) text false line next)
    → AnswersScript form (script_in form text) old new start before after
whole form old new start text None next before after line done left h read = absurd left
whole form old new start text (Some []) next before after line done left h read =
    subst (λ (script : List (Option Call)). AnswersScript form script old new start before after)
    (sym (append-nil done) ∙ left) h
whole form old new start text (Some (x ∷ xs)) next before after line done left h read =
    let e = read.0 in cc

-- at the end of the text the whole script is answered
pub at_end : {S : Type 0} {s : Ghosts S} (form : TextForm) (old new : Database S s) (start : Handle)
    (first now next before after : Option (List ℕ)) (line : List ℕ)
    → IsAnswered form old new start first now before after
    → IfSome now (λ text. ReadsLine (longest_in form + 1) text false line next)
    → IfSome first
    (λ text. AnswersScript form (script_in form text) old new start before after)
at_end form old new start None now next before after line h read = tt
at_end form old new start (Some text) now next before after line h read =
    whole form old new start text now next before after line h.done h.left h.answered read
