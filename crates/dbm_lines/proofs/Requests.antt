-- Lines of too many parts.
use Rattle.std.proofs.Common.{◌≡◌, ◌==◌, ◌≤◌, ℕ, suc, Bool, true, false, cond, List, [], ◌∷◌, length, Option, Some, None, IfSome, is_some, refl, sym, ap, arith}
use Rattle.std.specs.List.{onto_first, slice_split}
use Rattle.std.specs.Option.{option_map}
use Rattle.std.specs.Prelude.{option_and_then}
use Rattle.std.proofs.lemmas.Bool.{lt-leb}
use Rattle.dbm_model.specs.Calls.{Call}
use Rattle.dbm_model.specs.Pairs.{Pair}
use Rattle.dbm_lines.specs.Escapes.{longest_text_line, unescaped}
use Rattle.dbm_lines.specs.Lines.{longest_line, words_in, bare_call, call_of_parts, key_call, pair_call}
use Rattle.dbm_lines.specs.Words.{word_bytes}
use Rattle.dbm_lines.specs.BadLines.{parts_in}
use Rattle.dbm_lines.specs.Bounds.{longest_in}
use Rattle.dbm_lines.specs.Forms.{call_in}
use Rattle.dbm_lines.specs.PairLines.{pair_of_words}
use Rattle.dbm_lines.specs.Requests.{bytes_in, pair_of_parts}
use Rattle.dbm_lines.specs.declared.forms.TextForm.{TextForm}
use Rattle.dbm_lines.specs.declared.forms.TextForm.TheVariants.{Hexadecimal, Escaped}

-- the value of an option that has one
pub from_some : {A : Type 0} (P : A → Type 0) (o : Option A) → IfSome o P → is_some o ≡ true
    → (x : A) × P x
from_some P None h some = cc
from_some P (Some x) h some = (x, h)

first_of_parts : (x : ℕ) (parts : List (List ℕ))
    → (word : List ℕ) × (words : List (List ℕ)) × (onto_first x parts ≡ word ∷ words)
first_of_parts x [] = (x ∷ [], [], refl)
first_of_parts x (part ∷ parts) = (x ∷ part, parts, refl)

-- a line has a first part
pub first_part : (p : ℕ → Bool) (line : List ℕ) → (part : List ℕ) × (parts : List (List ℕ))
    × (slice_split p line ≡ part ∷ parts)
first_part p [] = ([], [], refl)
first_part p (x ∷ line) = elim (p x) as
    (λ b. (part : List ℕ) × (parts : List (List ℕ))
    × (cond b ([] ∷ slice_split p line) (onto_first x (slice_split p line)) ≡ part ∷ parts)) [
      | true ↦ ([], slice_split p line, refl)
      | false ↦ first_of_parts x (slice_split p line)
    ]

-- so does one of either form
pub first_part_in : (form : TextForm) (line : List ℕ) → (part : List ℕ)
    × (parts : List (List ℕ)) × (parts_in form line ≡ part ∷ parts)
first_part_in Hexadecimal line = first_part (λ byte. byte == 32) line
first_part_in Escaped line = first_part (λ byte. byte == 9) line

-- a pair has two words
pub pair_of_more : (words key second content rest : List ℕ) → words_in words ≡ key ∷ words_in second
    → words_in second ≡ content ∷ words_in rest → None ≡ pair_of_words (words_in words)
pair_of_more words key second content rest h more =
    let first = first_part (λ byte. byte == 32) rest in rw (h, more, first.2) refl

module _ (bytes_of : List ℕ → Option (List ℕ)) where
  no_pair : (name : List ℕ) → ((k c : List ℕ) → pair_call name k c ≡ None)
      → (key content : Option (List ℕ))
      → None ≡ option_and_then (λ k. option_and_then (pair_call name k) content) key
  no_pair name none None content = refl
  no_pair name none (Some key) None = refl
  no_pair name none (Some key) (Some content) = sym (none key content)

  many_parts : (name : List ℕ) → ((k c : List ℕ) → pair_call name k c ≡ None)
      → (key part : List ℕ) (parts : List (List ℕ))
      → None ≡ call_of_parts bytes_of (name ∷ key ∷ part ∷ parts)
  many_parts name none key part [] = no_pair name none (bytes_of key) (bytes_of part)
  many_parts name none key part (more ∷ parts) = refl

  no_key : (name : List ℕ) → ((k : List ℕ) → key_call name k ≡ None) → (key : Option (List ℕ))
      → None ≡ option_and_then (key_call name) key
  no_key name none None = refl
  no_key name none (Some key) = sym (none key)

-- two parts that say no pair
pairless : (name : List ℕ) (key content : Option (List ℕ))
    → None ≡ option_and_then {U = Pair} (λ k. option_map (λ c. (k, c)) content) key
    → None ≡ option_and_then (λ k. option_and_then (pair_call name k) content) key
pairless name None content h = refl
pairless name (Some key) None h = refl
pairless name (Some key) (Some content) h = cc

-- a call of a pair has a pair after its name
pub no_pair_call : (form : TextForm) (name : List ℕ) → bare_call name ≡ None
    → ((key : List ℕ) → key_call name key ≡ None) → (parts : List (List ℕ))
    → None ≡ pair_of_parts form parts → None ≡ call_of_parts (bytes_in form) (name ∷ parts)
no_pair_call form name bare none [] h = sym bare
no_pair_call form name bare none (key ∷ []) h =
    no_key (bytes_in form) name none (bytes_in form key)
no_pair_call Hexadecimal name bare none (key ∷ content ∷ []) h =
    pairless name (word_bytes key) (word_bytes content) h
no_pair_call Escaped name bare none (key ∷ content ∷ []) h =
    pairless name (unescaped key) (unescaped content) h
no_pair_call form name bare none (key ∷ content ∷ more ∷ parts) h = refl

-- a call of a key has one part after its name
pub key_of_more : (form : TextForm) (name : List ℕ) → ((k c : List ℕ) → pair_call name k c ≡ None)
    → (parts key rest : List ℕ) → parts_in form parts ≡ key ∷ parts_in form rest
    → None ≡ call_of_parts (bytes_in form) (name ∷ parts_in form parts)
key_of_more form name none parts key rest h = let first = first_part_in form rest in
    rw (h, first.2) (many_parts (bytes_in form) name none key first.0 first.1)

-- a name of no such call
pub no_name : (form : TextForm) (name rest : List ℕ)
    → ((key content : List ℕ) → (key_call name key ≡ None) × (pair_call name key content ≡ None))
    → None ≡ call_of_parts (bytes_in form) (name ∷ parts_in form rest)
no_name form name rest none =
    let first = first_part_in form rest in rw (first.2) (by_parts first.0 first.1)
  where
    by_parts : (part : List ℕ) (parts : List (List ℕ))
        → None ≡ call_of_parts (bytes_in form) (name ∷ part ∷ parts)
    by_parts part [] =
        no_key (bytes_in form) name (λ key. (none key []).0) (bytes_in form part)
    by_parts part (more ∷ parts) =
        many_parts (bytes_in form) name (λ key content. (none key content).1) part more parts

-- a line that isn't longer than it may be asks for what its parts do
pub call_of_line : (form : TextForm) (line : List ℕ) → length line ≤ longest_in form
    → call_of_parts (bytes_in form) (parts_in form line) ≡ call_in form line
call_of_line Hexadecimal line le = ap (λ (b : Bool). cond {A = Option Call} b None
    (call_of_parts word_bytes (parts_in Hexadecimal line)))
    (sym (lt-leb (suc longest_line) (length line) (omega (arith, le))))
call_of_line Escaped line le = ap (λ (b : Bool). cond {A = Option Call} b None
    (call_of_parts unescaped (parts_in Escaped line)))
    (sym (lt-leb (suc longest_text_line) (length line) (omega (arith, le))))
