-- What is written of a failure in words.
use Rattle.std.proofs.Common.{ℕ, List, ◌∷◌, [], ◌++◌, Option, Result, Ok, Err, OnOk, codes, refl, inr}
use Rattle.std.proofs.KnownBytes.{Appends-trans}
use Rattle.std.specs.Io.KnownBytes.{Appends}
use Rattle.dbm_commands.specs.declared.outcomes.Failure.{Failure}
use Rattle.dbm_tool.specs.Causes.{AreStreamWords, AreWords, GrowsBy, IsCauseLine, file_text, line_text}

-- the words of a stream, and what the system told behind them
pub stream_words : {T E : Type 0} (written : Result T E) (old mid new : Option (List ℕ))
    (stream told : List ℕ) → Appends old mid stream
    → OnOk written (Appends mid new (codes ": " ++ told))
    → OnOk written (GrowsBy old new (AreStreamWords stream))
stream_words (Ok done) old mid new stream told first behind = (
  stream ++ (codes ": " ++ told),
  Appends-trans old mid new stream (codes ": " ++ told) first behind,
  inr (told, refl),
)
stream_words (Err e) old mid new stream told first behind = tt

-- a line in its five parts
pub whole_line : {T E : Type 0} (written : Result T E) (old a b c d new : Option (List ℕ))
    (file : Option (List ℕ)) (number : Option ℕ) (failure : Failure)
    → Appends old a (codes "dbmtool: ") → Appends a b (file_text file)
    → Appends b c (line_text number) → GrowsBy c d (AreWords failure)
    → OnOk written (Appends d new (10 ∷ []))
    → OnOk written (GrowsBy old new (IsCauseLine file number failure))
whole_line (Err e) old a b c d new file number failure name of_file of_line (words, said, are) feed =
    tt
whole_line (Ok done) old a b c d new file number failure name of_file of_line (words, said, are)
    feed =
    let of_words = Appends-trans b c d (line_text number) words of_line said in
    let of_place = Appends-trans a b d (file_text file) (line_text number ++ words) of_file of_words in
    let text = codes "dbmtool: " ++ (file_text file ++ (line_text number ++ words)) in
    let of_name = Appends-trans old a d (codes "dbmtool: ")
    (file_text file ++ (line_text number ++ words)) name of_place in (
      text ++ 10 ∷ [],
      Appends-trans old d new text (10 ∷ []) of_name feed,
      record { words = words; are_words = are; line_is = refl },
    )
