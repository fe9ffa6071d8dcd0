-- How far a script has been read.
use Rattle.std.proofs.Common.{◌≡◌, ◌+◌, ℕ, true, List, [], ◌∷◌, ◌++◌, take, map, Option, Some, None, IfSome, refl, sym, ap, ◌∙◌, append-nil, append_assoc}
use Rattle.std.specs.Io.KnownBytes.{Appends}
use Rattle.std.proofs.KnownBytes.{Appends-nil, Appends-trans}
use Rattle.dbm_model.specs.Calls.{Call}
use Rattle.dbm_lines.specs.Lines.{call_in_line, bad_line}
use Rattle.dbm_lines.specs.Scripts.{script_of, calls_in}
use Rattle.dbm_lines.proofs.TextLines.{first_line, call_in-kept}
use Rattle.dbm_lines.specs.Bounds.{longest_in}
use Rattle.dbm_lines.specs.declared.forms.TextForm.TheVariants.{Hexadecimal}
use Rattle.dbm_lines.specs.Reading.{line_bytes, after_line, ReadsLine}
use Rattle.dbm_rehearse.specs.Lines.{bad_lines, AddsLine}

-- the first line of a script and the rest
first_call : (x : ℕ) (xs line : List ℕ)
    → line ≡ take (longest_in Hexadecimal + 1) (line_bytes (x ∷ xs))
    → script_of (x ∷ xs) ≡ call_in_line line ∷ script_of (after_line (x ∷ xs))
first_call x xs line h = ap (map call_in_line) (first_line x xs)
    ∙ ap (λ call. call ∷ script_of (after_line (x ∷ xs)))
    (sym (ap call_in_line h ∙ call_in-kept Hexadecimal (line_bytes (x ∷ xs))))

calls_in-push : (script : List (Option Call)) (call : Option Call)
    → calls_in (script ++ call ∷ []) ≡ calls_in script ++ calls_in (call ∷ [])
calls_in-push [] call = refl
calls_in-push (None ∷ script) call = calls_in-push script call
calls_in-push (Some earlier ∷ script) call =
    ap (λ calls. earlier ∷ calls) (calls_in-push script call)

bad_lines-push : (script : List (Option Call)) (call : Option Call)
    → bad_lines (script ++ call ∷ []) ≡ bad_lines script ++ bad_lines (call ∷ [])
bad_lines-push [] call = refl
bad_lines-push (None ∷ script) call = ap (λ text. bad_line ++ text) (bad_lines-push script call)
    ∙ sym (append_assoc bad_line (bad_lines script) (bad_lines (call ∷ [])))
bad_lines-push (Some earlier ∷ script) call = bad_lines-push script call

-- of a script, what was read and what is left
abbrev IsLeft : Option (List ℕ) → Option (List ℕ) → List (Option Call) → Type 0
IsLeft None now done = Unit {0}
IsLeft (Some text) None done = ⊥
IsLeft (Some text) (Some rest) done = done ++ script_of rest ≡ script_of text

left_after : (first now next : Option (List ℕ)) (line : List ℕ)
    (done : List (Option Call)) → IsLeft first now done
    → IfSome now (λ text. ReadsLine (longest_in Hexadecimal + 1) text true line next)
    → IsLeft first next (done ++ call_in_line line ∷ [])
left_after None now next line done h r = tt
left_after (Some text) None next line done h r = absurd h
left_after (Some text) (Some []) next line done h r = let e = r.0 in cc
left_after (Some text) (Some (x ∷ xs)) next line done h r =
    rw (r.2) (append_assoc done (call_in_line line ∷ []) (script_of (after_line (x ∷ xs)))
    ∙ ap (λ rest. done ++ rest) (sym (first_call x xs line r.1)) ∙ h)

-- how far a script was read: its calls, and the answers to its bad lines
pub record IsRead (first now before after : Option (List ℕ)) (calls : List Call) : Type 0 where
  pub done : List (Option Call)
  pub left : IsLeft first now done
  pub asked : calls ≡ calls_in done
  pub told : Appends before after (bad_lines done)

all_left : (first : Option (List ℕ)) → IsLeft first first []
all_left None = tt
all_left (Some text) = refl

pub at_start : (first before : Option (List ℕ)) → IsRead first first before before []
at_start first before = record {
  done = [];
  left = all_left first;
  asked = refl;
  told = Appends-nil before;
}

-- a line was read
module _ (first now next before mid after : Option (List ℕ)) (line : List ℕ)
    (calls more : List Call)
    (read : IfSome now (λ text. ReadsLine (longest_in Hexadecimal + 1) text true line next))
    (h : IsRead first now before mid calls) where
  by_call : (call : Option Call) → call ≡ call_in_line line → AddsLine call calls more mid after
      → IsRead first next before after more
  by_call None says adds = record {
    done = h.done ++ call_in_line line ∷ [];
    left = left_after first now next line h.done h.left read;
    asked = rw (← says, calls_in-push h.done None, append-nil (calls_in h.done))
        (adds.0 ∙ h.asked);
    told = rw (← says, bad_lines-push h.done None)
        (rw (append-nil bad_line) (Appends-trans before mid after _ bad_line h.told adds.1));
  }
  by_call (Some call) says adds = record {
    done = h.done ++ call_in_line line ∷ [];
    left = left_after first now next line h.done h.left read;
    asked = rw (← says, calls_in-push h.done (Some call))
        (adds.0 ∙ ap (λ calls. calls ++ call ∷ []) h.asked);
    told = rw (← says, bad_lines-push h.done (Some call), append-nil (bad_lines h.done), adds.1)
        h.told;
  }

  pub with_line : AddsLine (call_in_line line) calls more mid after
      → IsRead first next before after more
  with_line adds = by_call (call_in_line line) refl adds
