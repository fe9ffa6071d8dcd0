-- The lines of pairs and keys, written one after the other.
use Rattle.std.proofs.Common.{◌≡◌, ◌∙◌, ℕ, List, [], ◌∷◌, ◌++◌, map, flat_map, Option, sym, ap, subst, append-nil}
use Rattle.std.specs.Io.KnownBytes.{Appends}
use Rattle.std.proofs.KnownBytes.{Appends-trans}
use Rattle.std.proofs.lemmas.Grind.{flat_map-append}
use Rattle.std.proofs.lemmas.List.{map-append}

-- the bytes of one more item stand behind those of the items before it
pub one_more : {X Y : Type 0} (line : Y → List ℕ) (bytes : X → Y) (items : List X) (item : X)
    (said : Y) (a b c : Option (List ℕ)) → said ≡ bytes item
    → Appends a b (flat_map line (map bytes items)) → Appends b c (line said)
    → Appends a c (flat_map line (map bytes (items ++ item ∷ [])))
one_more line bytes items item said a b c is before now =
    let older = flat_map line (map bytes items) in
    subst (Appends a c)
    (ap (λ (last : List ℕ). older ++ last) (ap line is ∙ sym (append-nil (line (bytes item))))
    ∙ sym (flat_map-append line (map bytes items) (bytes item ∷ []))
    ∙ ap (flat_map line) (sym (map-append bytes items (item ∷ []))))
    (Appends-trans a b c older (line said) before now)
