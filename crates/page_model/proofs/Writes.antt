-- What a write leaves.
use Rattle.std.proofs.Common.{◌≡◌, ℕ, ◌+◌, ◌≤◌, List, ◌++◌, length, take, drop, refl, ap, sym, ◌∙◌, append_assoc, arith}
use Rattle.std.proofs.lemmas.List.{drop-drop, take_at, drop_at, length-append, length-take-le}
use Rattle.page_model.specs.Bytes.{overwrite}

-- a write over b, which stands behind a
pub overwrite_mid : (a b c x : List ℕ) (at : ℕ) → length a ≡ at → length x ≡ length b
    → overwrite (a ++ (b ++ c)) at x ≡ a ++ (x ++ c)
overwrite_mid a b c x at e f =
    let front : take at (a ++ (b ++ c)) ≡ a = take_at a (b ++ c) at e in
    let rest : drop (at + length x) (a ++ (b ++ c)) ≡ c =
    sym (drop-drop (length x) at (a ++ (b ++ c)))
    ∙ ap (drop (length x)) (drop_at a (b ++ c) at e) ∙ drop_at b c (length x) (sym f) in
    rw (front, rest) refl

-- a write behind a write
pub overwrite_then : (xs x y : List ℕ) (at to : ℕ) → at ≤ length xs → at + length x ≡ to
    → overwrite (overwrite xs at x) to y ≡ overwrite xs at (x ++ y)
overwrite_then xs x y at to le e =
    let rest : List ℕ = drop (at + length x) xs in
    let front : List ℕ = take at xs ++ x in
    let long : length front ≡ to =
    omega (arith, length-append (take at xs) x, length-take-le at xs le) in
    let same : overwrite xs at x ≡ front ++ rest = sym (append_assoc (take at xs) x rest) in
    let taken : take to (front ++ rest) ≡ front = take_at front rest to long in
    let dropped : drop (to + length y) (front ++ rest) ≡ drop (length y) rest =
    sym (drop-drop (length y) to (front ++ rest))
    ∙ ap (drop (length y)) (drop_at front rest to long) in
    let both : overwrite (front ++ rest) to y ≡ front ++ (y ++ drop (length y) rest) =
    rw (taken, dropped) refl in
    let at_end : at + length x + length y ≡ at + length (x ++ y) =
    omega (arith, length-append x y) in
    let last : drop (length y) rest ≡ drop (at + length (x ++ y)) xs =
    drop-drop (length y) (at + length x) xs ∙ ap (λ (k : ℕ). drop k xs) at_end in
    ap (λ (zs : List ℕ). overwrite zs to y) same ∙ both
    ∙ ap (λ (zs : List ℕ). front ++ (y ++ zs)) last
    ∙ append_assoc (take at xs) x (y ++ drop (at + length (x ++ y)) xs)
    ∙ ap (λ (zs : List ℕ). take at xs ++ zs)
    (sym (append_assoc x y (drop (at + length (x ++ y)) xs)))
