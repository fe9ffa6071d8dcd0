-- What writes behind one another leave.
use Rattle.std.proofs.Common.{◌≡◌, ℕ, ◌+◌, ◌≤◌, List, ◌++◌, length, drop, ap, ◌∙◌, arith}
use Rattle.std.proofs.lemmas.List.{length-append}
use Rattle.page_model.specs.Bytes.{overwrite}
use Rattle.page_model.proofs.Writes.{overwrite_then}

-- five fields from the front on
pub five_fields : (xs m s e a c rest : List ℕ) → length m ≡ 8 → length s ≡ 4 → length e ≡ 4
    → length a ≡ 4 → length c ≡ 4 → drop 24 xs ≡ rest
    → overwrite (overwrite (overwrite (overwrite (overwrite xs 0 m) 8 s) 12 e) 16 a) 20 c
    ≡ ((((m ++ s) ++ e) ++ a) ++ c) ++ rest
five_fields xs m s e a c rest lm ls le la lc is =
    let start : 0 ≤ length xs = omega arith in
    let t1 : overwrite (overwrite xs 0 m) 8 s ≡ overwrite xs 0 (m ++ s) =
    overwrite_then xs m s 0 8 start (omega (arith, lm)) in
    let l1 : length (m ++ s) ≡ 12 = omega (arith, length-append m s, lm, ls) in
    let t2 : overwrite (overwrite xs 0 (m ++ s)) 12 e ≡ overwrite xs 0 ((m ++ s) ++ e) =
    overwrite_then xs (m ++ s) e 0 12 start (omega (arith, l1)) in
    let l2 : length ((m ++ s) ++ e) ≡ 16 = omega (arith, length-append (m ++ s) e, l1, le) in
    let t3 : overwrite (overwrite xs 0 ((m ++ s) ++ e)) 16 a
    ≡ overwrite xs 0 (((m ++ s) ++ e) ++ a) =
    overwrite_then xs ((m ++ s) ++ e) a 0 16 start (omega (arith, l2)) in
    let l3 : length (((m ++ s) ++ e) ++ a) ≡ 20 =
    omega (arith, length-append ((m ++ s) ++ e) a, l2, la) in
    let t4 : overwrite (overwrite xs 0 (((m ++ s) ++ e) ++ a)) 20 c
    ≡ overwrite xs 0 ((((m ++ s) ++ e) ++ a) ++ c) =
    overwrite_then xs (((m ++ s) ++ e) ++ a) c 0 20 start (omega (arith, l3)) in
    let all = (((m ++ s) ++ e) ++ a) ++ c in
    let l4 : 0 + length all ≡ 24 = omega (arith, length-append (((m ++ s) ++ e) ++ a) c, l3, lc) in
    ap (λ (ys : List ℕ). overwrite (overwrite (overwrite ys 12 e) 16 a) 20 c) t1
    ∙ ap (λ (ys : List ℕ). overwrite (overwrite ys 16 a) 20 c) t2
    ∙ ap (λ (ys : List ℕ). overwrite ys 20 c) t3
    ∙ t4
    ∙ ap (λ (k : ℕ). all ++ drop k xs) l4 ∙ ap (λ (ys : List ℕ). all ++ ys) is
