-- What a line asks for.
use Rattle.std.specs.Prelude.{◌≡◌, ℕ, List, Option, Some, None, codes}
use Rattle.dbm_model.specs.Calls.{Call}
use Rattle.dbm_model.specs.Calls as model
use Rattle.dbm_model.specs.Pairs.{Pair}
use Rattle.dbm_lines.specs.Escapes.{pair_of_fields, unescaped}
use Rattle.dbm_lines.specs.Lines.{key_call, pair_call}
use Rattle.dbm_lines.specs.Words.{word_bytes}
use Rattle.dbm_lines.specs.PairLines.{pair_of_words}
use Rattle.dbm_lines.specs.declared.forms.TextForm.{TextForm}
use Rattle.dbm_lines.specs.declared.forms.TextForm.TheVariants.{Hexadecimal, Escaped}
use Rattle.dbm_lines.specs.declared.parsing.Name.{Name}
use Rattle.dbm_lines.specs.declared.parsing.Name.TheVariants as name
use Rattle.dbm_lines.specs.declared.parsing.Request.{Request}
use Rattle.dbm_lines.specs.declared.parsing.Request.TheVariants.{Store, Insert, Fetch, Delete, First, Next, Error, Clear, Bad}

-- the call of a request, of the bytes that stand for a key and a content
abbrev pub asked : Request → List ℕ → List ℕ → Option Call
asked Store key content = Some (model.Store key content model.Replace)
asked Insert key content = Some (model.Store key content model.Insert)
asked Fetch key content = Some (model.Fetch key)
asked Delete key content = Some (model.Delete key)
asked First key content = Some model.First
asked Next key content = Some model.Next
asked Error key content = Some model.Error
asked Clear key content = Some model.Clear
asked Bad key content = None

-- the bytes that a part of a line stands for, if it is a good one
abbrev pub bytes_in : TextForm → List ℕ → Option (List ℕ)
bytes_in Hexadecimal = word_bytes
bytes_in Escaped = unescaped

-- the pair of two parts, if they say one
abbrev pub pair_of_parts : TextForm → List (List ℕ) → Option Pair
pair_of_parts Hexadecimal = pair_of_words
pair_of_parts Escaped = pair_of_fields

-- the word is the name of the call, or of none that has words after it
abbrev pub IsNamed : List ℕ → Option Name → Type 0
IsNamed word (Some name.Store) = word ≡ codes "S"
IsNamed word (Some name.Insert) = word ≡ codes "I"
IsNamed word (Some name.Fetch) = word ≡ codes "F"
IsNamed word (Some name.Delete) = word ≡ codes "D"
IsNamed word None = (key content : List ℕ)
    → (key_call word key ≡ None) × (pair_call word key content ≡ None)
