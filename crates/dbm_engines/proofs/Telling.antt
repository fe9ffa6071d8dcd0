-- How far a script has been told, on any device.
use Rattle.std.proofs.Common.{◌≡◌, ◌+◌, ℕ, length, arith, true, false, List, [], ◌∷◌, ◌++◌, map, Option, Some, None, IfSome, Result, Ok, Err, OnOk, is_ok, refl, sym, ap, subst, ◌∙◌, append-nil, append_assoc}
use Rattle.std.proofs.lemmas.List.{map-append, length-map}
use Rattle.std.specs.Io.KnownBytes.{Appends, Keeps}
use Rattle.dbm_model.specs.Calls as model
use Rattle.dbm_lines.specs.Lines.{bad_line}
use Rattle.dbm_lines.specs.Scripts.{calls_in}
use Rattle.page_io.specs.declared.store.PageStore.{Ghosts}
use Rattle.dbm_file.specs.Calls.{call_of, reply_of}
use Rattle.dbm_file.specs.Replies.{IsAnswered, AreAnswered}
use Rattle.dbm_file.specs.declared.calls.Call.{Call}
use Rattle.dbm_file.specs.declared.calls.Reply.{Reply}
use Rattle.dbm_file.specs.declared.database.Database.{Database}
use Rattle.dbm_file.proofs.Answered.{answered_next}
use Rattle.dbm_lines.specs.Bounds.{longest_in}
use Rattle.dbm_lines.specs.Forms.{answer_in, call_in, reply_line_in, script_in}
use Rattle.dbm_lines.specs.Reading.{ReadsLine}
use Rattle.dbm_lines.specs.declared.forms.TextForm.{TextForm}
use Rattle.dbm_engines.specs.Tellings.{TellsLine, TellsScript}
use Rattle.dbm_engines.proofs.Flushing.{on_ok}
use Rattle.dbm_engines.proofs.Answering.{IsLeft, left_after, calls_in-push, joined}

-- ---- one line

-- the line says what the reply is
pub told_line : {S : Type 0} {s : Ghosts S} (form : TextForm) (old new : Database S s)
    (made : Call) (reply : Reply) (said : model.Reply) (Says : List ℕ → Type 0)
    → IsAnswered old new made reply → reply_of reply ≡ said → Says (reply_line_in form said)
    → TellsLine form (Some (call_of made)) old new Says
told_line form old new made reply said Says answered same says = (
  made,
  refl,
  reply,
  answered,
  subst (λ (r : model.Reply). Says (reply_line_in form r)) (sym same) says,
)

-- what is said where the writing went well
pub told_well : {S E : Type 0} {s : Ghosts S} (r : Result Unit E) (form : TextForm)
    (call : Option model.Call) (old new : Database S s) (Says : List ℕ → Type 0)
    → is_ok r ≡ true → TellsLine form call old new (λ text. OnOk r (Says text))
    → TellsLine form call old new Says
told_well (Ok u) form None old new Says ok telling = telling
told_well (Ok u) form (Some call) old new Says ok telling = telling
told_well (Err e) form call old new Says ok telling = cc

-- one that was flushed
pub told_flushed : {S E : Type 0} {s : Ghosts S} (r : Result Unit E) (form : TextForm)
    (call : Option model.Call) (old new : Database S s) (before mid after : Option (List ℕ))
    → Keeps mid after → TellsLine form call old new (λ text. Appends before mid text)
    → TellsLine form call old new (λ text. OnOk r (Appends before after text))
told_flushed r form None old new before mid after keeps telling =
    (telling.0, on_ok r before mid after bad_line telling.1 keeps)
told_flushed r form (Some call) old new before mid after keeps
    (made, is, reply, answered, says) = (
      made,
      is,
      reply,
      answered,
      on_ok r before mid after (reply_line_in form (reply_of reply)) says keeps,
    )

-- ---- a script

-- there is a reply to each call
as_many : {S : Type 0} {s : Ghosts S} (old new : Database S s) (calls : List Call)
    (replies : List Reply) → AreAnswered old new calls replies → length replies ≡ length calls
as_many old new [] [] answered = refl
as_many old new [] (reply ∷ replies) answered = absurd answered
as_many old new (call ∷ calls) [] answered = absurd answered
as_many old new (call ∷ calls) (reply ∷ replies) answered =
    omega (arith, as_many answered.0 new calls replies answered.2)

many_told : {S : Type 0} {s : Ghosts S} {form : TextForm} {script : List (Option model.Call)}
    {old new : Database S s} {before after : Option (List ℕ)}
    (h : TellsScript form script old new before after)
    → length h.replies ≡ length (calls_in script)
many_told {S} {s} {form} {script} {old} {new} h = as_many old new h.calls h.replies h.answered
    ∙ sym (length-map h.calls call_of) ∙ ap length h.calls_are

answer-bad : (form : TextForm) (script : List (Option model.Call)) (replies : List Reply)
    → length replies ≡ length (calls_in script)
    → answer_in form (script ++ None ∷ []) (map reply_of replies)
    ≡ answer_in form script (map reply_of replies) ++ bad_line
answer-bad form [] replies many = refl
answer-bad form (None ∷ script) replies many =
    ap (λ text. bad_line ++ text) (answer-bad form script replies many)
    ∙ sym (append_assoc bad_line (answer_in form script (map reply_of replies)) bad_line)
answer-bad form (Some call ∷ script) [] many = absurd (omega (arith, many))
answer-bad form (Some call ∷ script) (reply ∷ replies) many =
    ap (λ text. reply_line_in form (reply_of reply) ++ text)
    (answer-bad form script replies (omega (arith, many)))
    ∙ sym (append_assoc (reply_line_in form (reply_of reply)) (answer_in form script (map reply_of replies))
    bad_line)

answer-call : (form : TextForm) (script : List (Option model.Call)) (replies : List Reply)
    (call : model.Call) (reply : Reply) → length replies ≡ length (calls_in script)
    → answer_in form (script ++ Some call ∷ []) (map reply_of (replies ++ reply ∷ []))
    ≡ answer_in form script (map reply_of replies) ++ reply_line_in form (reply_of reply)
answer-call form [] [] call reply many = append-nil (reply_line_in form (reply_of reply))
answer-call form [] (other ∷ replies) call reply many = absurd (omega (arith, many))
answer-call form (None ∷ script) replies call reply many =
    ap (λ text. bad_line ++ text) (answer-call form script replies call reply many)
    ∙ sym (append_assoc bad_line (answer_in form script (map reply_of replies))
    (reply_line_in form (reply_of reply)))
answer-call form (Some earlier ∷ script) [] call reply many = absurd (omega (arith, many))
answer-call form (Some earlier ∷ script) (other ∷ replies) call reply many =
    ap (λ text. reply_line_in form (reply_of other) ++ text)
    (answer-call form script replies call reply (omega (arith, many)))
    ∙ sym (append_assoc (reply_line_in form (reply_of other)) (answer_in form script (map reply_of replies))
    (reply_line_in form (reply_of reply)))

-- how far it has been told
pub record IsTold {S : Type 0} {s : Ghosts S} (form : TextForm) (old new : Database S s)
    (first now before after : Option (List ℕ)) : Type 0 where
  pub done : List (Option model.Call)
  pub tells : TellsScript form done old new before after
  pub left : IsLeft form first now done

nothing_written : (before : Option (List ℕ)) → Appends before before []
nothing_written None = tt
nothing_written (Some text) = sym (append-nil text)

nothing_read : (form : TextForm) (first : Option (List ℕ)) → IsLeft form first first []
nothing_read form None = tt
nothing_read form (Some text) = refl

pub told_none : {S : Type 0} {s : Ghosts S} (form : TextForm) (db : Database S s)
    (first before : Option (List ℕ)) → IsTold form db db first first before before
told_none form db first before = record {
  done = [];
  tells = record {
    calls = [];
    calls_are = refl;
    replies = [];
    answered = refl;
    written = nothing_written before;
  };
  left = nothing_read form first;
}

one_more : {S : Type 0} {s : Ghosts S} (form : TextForm) (old mid new : Database S s)
    (before now after : Option (List ℕ)) (done : List (Option model.Call))
    (call : Option model.Call) → TellsScript form done old mid before now
    → TellsLine form call mid new (λ text. Appends now after text)
    → TellsScript form (done ++ call ∷ []) old new before after
one_more {S} {s} form old mid new before now after done None h telling = record {
  calls = h.calls;
  calls_are = h.calls_are ∙ sym (calls_in-push done None ∙ append-nil (calls_in done));
  replies = h.replies;
  answered = subst (λ (db : Database S s). AreAnswered old db h.calls h.replies) (sym telling.0)
      h.answered;
  written = rw (answer-bad form done h.replies (many_told h))
      (joined before now after (answer_in form done (map reply_of h.replies)) bad_line h.written
      telling.1);
}
one_more form old mid new before now after done (Some call) h
    (made, is, reply, answered, says) = record {
      calls = h.calls ++ made ∷ [];
      calls_are = map-append call_of h.calls (made ∷ []) ∙ (λ i. h.calls_are i ++ is i ∷ [])
          ∙ sym (calls_in-push done (Some call));
      replies = h.replies ++ reply ∷ [];
      answered = answered_next old mid new h.calls h.replies made reply h.answered answered;
      written = rw (answer-call form done h.replies call reply (many_told h))
          (joined before now after (answer_in form done (map reply_of h.replies))
          (reply_line_in form (reply_of reply)) h.written says);
    }

-- a line was read and told
pub tell_on : {S : Type 0} {s : Ghosts S} (form : TextForm) (old mid new : Database S s)
    (first now next before written after : Option (List ℕ)) (line : List ℕ)
    → IsTold form old mid first now before written
    → IfSome now (λ text. ReadsLine (longest_in form + 1) text true line next)
    → TellsLine form (call_in form line) mid new (λ text. Appends written after text)
    → IsTold form old new first next before after
tell_on form old mid new first now next before written after line h read telling = record {
  done = h.done ++ call_in form line ∷ [];
  tells = one_more form old mid new before written after h.done (call_in form line) h.tells
      telling;
  left = left_after form first now next line h.done h.left read;
}

whole : {S : Type 0} {s : Ghosts S} (form : TextForm) (old new : Database S s) (text : List ℕ)
    (now next before after : Option (List ℕ)) (line : List ℕ) (done : List (Option model.Call))
    → IsLeft form (Some text) now done → TellsScript form done old new before after
    → IfSome now (λ text. ReadsLine (longest_in form + 1) text false line next)
    → TellsScript form (script_in form text) old new before after
whole form old new text None next before after line done left h read = absurd left
whole form old new text (Some []) next before after line done left h read =
    subst (λ (script : List (Option model.Call)). TellsScript form script old new before after)
    (sym (append-nil done) ∙ left) h
whole form old new text (Some (x ∷ xs)) next before after line done left h read =
    let e = read.0 in cc

-- at the end of the text the whole script is told
pub told_whole : {S : Type 0} {s : Ghosts S} (form : TextForm) (old new : Database S s)
    (first now next before after : Option (List ℕ)) (line : List ℕ)
    → IsTold form old new first now before after
    → IfSome now (λ text. ReadsLine (longest_in form + 1) text false line next)
    → IfSome first (λ text. TellsScript form (script_in form text) old new before after)
told_whole form old new None now next before after line h read = tt
told_whole form old new (Some text) now next before after line h read =
    whole form old new text now next before after line h.done h.left h.tells read
