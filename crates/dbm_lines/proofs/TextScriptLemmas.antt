-- Replies in the text form read back, and are told apart.
use Rattle.std.proofs.Common.{◌≡◌, ◌==◌, ℕ, suc, List, [], ◌∷◌, ◌++◌, length, Bool, true, false, cond, Option, Some, None, codes, refl, sym, ap, ◌∙◌, arith}
use Rattle.std.specs.Prelude.{◌≢◌}
use Rattle.std.specs.List.{All}
use Rattle.std.specs.Fmt.{digits}
use Rattle.std.proofs.lemmas.Bool.{le-leb, lt-leb}
use Rattle.std.proofs.lemmas.List.{append_cancel_right}
use Rattle.std.proofs.lemmas.List.Elements.{All-append, All-nil}
use Rattle.hex.specs.Hex.{encode_lower}
use Rattle.dbm_model.specs.Calls.{Call, Fault, Bytes, Refused}
use Rattle.dbm_model.specs.Calls as fault
use Rattle.dbm_lines.specs.Escapes.{escaped, unescaped, marked, fields_in, longest_text_line}
use Rattle.dbm_lines.specs.EscapeTexts.{IsPrintable}
use Rattle.dbm_lines.specs.Lines.{reply_by, with_line_feed}
use Rattle.dbm_lines.specs.TextScripts.{call_of_fields, is_like_reply, reply_field, text_reply_line}
use Rattle.dbm_lines.specs.TextScriptExamples.{HaveBytes, LongTextCalls, ReplyFields, RepliesDiffer}
use Rattle.dbm_lines.proofs.EscapeLemmas.{digits_printable, digits_read, escapes_back, printable, two_printable}

pub long_text_calls : LongTextCalls
long_text_calls = record {
  longest = λ line le. ap (λ b. cond {A = Option Call} b None (call_of_fields (fields_in line)))
      (lt-leb (suc longest_text_line) (length line) (omega (arith, le)));
  longer = λ line lt. ap (λ b. cond {A = Option Call} b None (call_of_fields (fields_in line)))
      (le-leb (suc longest_text_line) (length line) (omega (arith, lt)));
}

marked_back : (bytes : List ℕ) → HaveBytes bytes → unescaped (marked bytes) ≡ Some bytes
marked_back [] small = refl
marked_back (byte ∷ rest) small =
    digits_read byte (escaped rest) (small 0)
    ∙ rw (escapes_back rest (λ i. small (suc i))) refl

marked_printable : (bytes : List ℕ) → HaveBytes bytes → All IsPrintable (marked bytes)
marked_printable [] small = All-nil IsPrintable
marked_printable (byte ∷ rest) small =
    All-append IsPrintable (codes "\\x") (encode_lower (byte ∷ []) ++ escaped rest)
    (two_printable 92 120 (omega arith, omega arith) (omega arith, omega arith))
    (All-append IsPrintable (encode_lower (byte ∷ [])) (escaped rest)
    (digits_printable byte (small 0)) (printable rest (λ i. small (suc i))))

pub reply_fields : ReplyFields
reply_fields = record {
  reads_back = λ bytes small. elim (is_like_reply bytes) as
      (λ b. unescaped (cond b (marked bytes) (escaped bytes)) ≡ Some bytes) [
        | true ↦ marked_back bytes small
        | false ↦ escapes_back bytes small
      ];
  printable = λ bytes small. elim (is_like_reply bytes) as
      (λ b. All IsPrintable (cond b (marked bytes) (escaped bytes))) [
        | true ↦ marked_printable bytes small
        | false ↦ printable bytes small
      ];
}

abbrev first_of : List ℕ → ℕ
first_of [] = 0
first_of (byte ∷ rest) = byte

-- a text that is told of no bytes, since its own bytes are marked
module _ (text : List ℕ) (plain : (92 == first_of text) ≡ false)
    (itself : unescaped text ≡ Some text) (like : is_like_reply text ≡ true) where
  no_mark : (bytes : List ℕ) → is_like_reply bytes ≡ true → marked bytes ≢ text
  no_mark [] is same = cc
  no_mark (byte ∷ rest) is same =
      let e : true ≡ false = ap (λ bytes. 92 == first_of bytes) same ∙ plain in cc

  no_other : (bytes : List ℕ) → HaveBytes bytes → is_like_reply bytes ≡ false
      → escaped bytes ≢ text
  no_other bytes small is same =
      let back : Some bytes ≡ Some text =
      sym (escapes_back bytes small) ∙ ap unescaped same ∙ itself in
      let equal : bytes ≡ text = cc in
      let e : false ≡ true = sym is ∙ ap is_like_reply equal ∙ like in cc

  differs : (bytes : List ℕ) → HaveBytes bytes → reply_field bytes ≢ text
  differs bytes small = by_case (is_like_reply bytes) refl
    where
      by_case : (b : Bool) → is_like_reply bytes ≡ b
          → cond b (marked bytes) (escaped bytes) ≢ text
      by_case true is = no_mark bytes is
      by_case false is = no_other bytes small is

  line_differs : (bytes : List ℕ) → HaveBytes bytes
      → text_reply_line (Bytes bytes) ≢ with_line_feed text
  line_differs bytes small same =
      differs bytes small (append_cancel_right (reply_field bytes) text (10 ∷ []) same)

-- each refusal
refusal_differs : (why : Fault) (bytes : List ℕ) → HaveBytes bytes
    → text_reply_line (Bytes bytes) ≢ text_reply_line (Refused why)
unfolding digits
refusal_differs fault.Memory = line_differs (reply_by reply_field (Refused fault.Memory)) refl refl refl
refusal_differs fault.Device = line_differs (reply_by reply_field (Refused fault.Device)) refl refl refl
refusal_differs fault.Broken = line_differs (reply_by reply_field (Refused fault.Broken)) refl refl refl
refusal_differs fault.ReadOnly = line_differs (reply_by reply_field (Refused fault.ReadOnly)) refl refl refl
refusal_differs fault.TooLong = line_differs (reply_by reply_field (Refused fault.TooLong)) refl refl refl
refusal_differs fault.Full = line_differs (reply_by reply_field (Refused fault.Full)) refl refl refl
refusal_differs fault.NoPass = line_differs (reply_by reply_field (Refused fault.NoPass)) refl refl refl
refusal_differs fault.NoRoom = line_differs (reply_by reply_field (Refused fault.NoRoom)) refl refl refl
refusal_differs fault.Damaged = line_differs (reply_by reply_field (Refused fault.Damaged)) refl refl refl
refusal_differs fault.NotADatabase = line_differs (reply_by reply_field (Refused fault.NotADatabase)) refl refl refl
refusal_differs fault.Version = line_differs (reply_by reply_field (Refused fault.Version)) refl refl refl
refusal_differs fault.TooSmall = line_differs (reply_by reply_field (Refused fault.TooSmall)) refl refl refl
refusal_differs fault.BadLimit = line_differs (reply_by reply_field (Refused fault.BadLimit)) refl refl refl
refusal_differs fault.Missing = line_differs (reply_by reply_field (Refused fault.Missing)) refl refl refl
refusal_differs fault.Exists = line_differs (reply_by reply_field (Refused fault.Exists)) refl refl refl

pub replies_are_apart : RepliesDiffer
replies_are_apart = record {
  no_record = line_differs (codes "none") refl refl refl;
  end = line_differs (codes "end") refl refl refl;
  absent = line_differs (codes "-1 absent") refl refl refl;
  refused = λ bytes why. refusal_differs why bytes;
  bad = line_differs (codes "-1 line") refl refl refl;
}
