-- What a map of contents by sector says.
use Rattle.std.proofs.Common.{◌≡◌, ◌∙◌, ◌==◌, if◌then◌else◌, Bool, true, false, ℕ, List, [], ◌∷◌, Option, Some, refl, ap}
use Rattle.std.specs.Prelude.{unwrap_or, nat_eq}
use Rattle.std.specs.Array.{AllZipBelow}
use Rattle.std.specs.HashMap.{HashMap, get, Updates}
use Rattle.std.specs.List.{AllZip}
use Rattle.std.specs.Map.{lookup}
use Rattle.sect_dev.specs.History.{content_in}
use Rattle.sect_dev.specs.Sector.{zeros}

-- of a sector that is in it
pub content_found : {S : Type 0} (newest : HashMap ℕ (List ℕ) S) (n : ℕ) (content written : List ℕ)
    → Some content ≡ get nat_eq newest n → content_in newest n ≡ written → content ≡ written
content_found newest n content written found is = ap (λ (c : Option
    (List ℕ)). unwrap_or c zeros) found ∙ is

-- a clone of a content is the content
same_bytes : (xs ys : List ℕ) → AllZip (λ x y. y ≡ x) xs ys → ys ≡ xs
same_bytes [] [] all = refl
same_bytes [] (y ∷ ys) all = absurd all
same_bytes (x ∷ xs) [] all = absurd all
same_bytes (x ∷ xs) (y ∷ ys) all =
    ap (λ (b : ℕ). b ∷ ys) all.0 ∙ ap (λ (l : List ℕ). x ∷ l) (same_bytes xs ys all.1)

-- those of a map are its entries
pub same_entries : (old new : List (ℕ × List ℕ))
    → AllZip (λ p q. (q.0 ≡ p.0) × AllZipBelow (λ x y. y ≡ x) p.1 q.1 512) old new → new ≡ old
same_entries [] [] all = refl
same_entries [] (q ∷ new) all = absurd all
same_entries (p ∷ old) [] all = absurd all
same_entries (p ∷ old) (q ∷ new) all =
    ap (λ (n : ℕ). (n, q.1) ∷ new) all.0.0
    ∙ ap (λ (c : List ℕ). (p.0, c) ∷ new) (same_bytes p.1 q.1 all.0.1.whole)
    ∙ ap (λ (l : List (ℕ × List ℕ)). p ∷ l) (same_entries old new all.1)

-- of a map with the same entries
pub same_contents : {S : Type 0} (old new : HashMap ℕ (List ℕ) S) → new.entries ≡ old.entries
    → (n : ℕ) → content_in new n ≡ content_in old n
same_contents old new same n = ap (λ es. unwrap_or (lookup (nat_eq n) es) zeros) same

-- with a content put into it
pub content_put : {S : Type 0} (old new : HashMap ℕ (List ℕ) S) (n : ℕ) (content : List ℕ)
    → Updates nat_eq old new n (Some content) → (m : ℕ)
    → content_in new m ≡ (if n == m then content else content_in old m)
content_put old new n content put m =
    ap (λ (c : Option (List ℕ)). unwrap_or c zeros) (put.0 m) ∙ by_test (nat_eq n m)
  where
    by_test : (test : Bool) → unwrap_or (if test then Some content else get nat_eq old m) zeros
        ≡ (if test then content else content_in old m)
    by_test true = refl
    by_test false = refl
