-- Lines that were printed one after another.
use Rattle.std.proofs.Common.{ℕ, List, ◌++◌, Option, Result, Ok, Err, OnOk}
use Rattle.std.proofs.KnownBytes.{Appends-trans, Appends-kept}
use Rattle.std.specs.Io.KnownBytes.{Appends, Keeps}

-- two lines, which a flush keeps
pub two_printed : {T E : Type 0} (flushed : Result T E) (a b c d : Option (List ℕ))
    (one two : List ℕ) → Appends a b one → Appends b c two → Keeps c d
    → OnOk flushed (Appends a d (one ++ two))
two_printed (Err fault) a b c d one two p q keeps = tt
two_printed (Ok x) a b c d one two p q keeps =
    Appends-kept a c d _ (Appends-trans a b c one two p q) keeps

-- seven lines, which a flush keeps
pub seven_printed : {T E : Type 0} (flushed : Result T E) (a b c d e f g h i : Option (List ℕ))
    (one two three four five six seven : List ℕ)
    → Appends a b one → Appends b c two → Appends c d three → Appends d e four → Appends e f five
    → Appends f g six → Appends g h seven → Keeps h i
    → OnOk flushed (Appends a i (one ++ two ++ three ++ four ++ five ++ six ++ seven))
seven_printed (Err fault) a b c d e f g h i one two three four five six seven p q r s
    t u v keeps = tt
seven_printed (Ok x) a b c d e f g h i one two three four five six seven p q r s t u v keeps =
    let to_c = Appends-trans a b c one two p q in
    let to_d = Appends-trans a c d _ three to_c r in
    let to_e = Appends-trans a d e _ four to_d s in
    let to_f = Appends-trans a e f _ five to_e t in
    let to_g = Appends-trans a f g _ six to_f u in
    Appends-kept a h i _ (Appends-trans a g h _ seven to_g v) keeps
