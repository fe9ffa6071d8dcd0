-- The content pages of a record, joined, are its content.
use Rattle.std.proofs.Common.{◌≡◌, ℕ, suc, ◌+◌, ◌-◌, ◌*◌, ◌≤◌, cond, List, [], ◌∷◌, ◌++◌, length, take, drop, flat_map, replicate, Some, inl, inr, refl, sym, ap, ◌∙◌, append_assoc, append-nil, arith}
use Rattle.std.specs.List.{AllByRecursion}
use Rattle.std.proofs.lemmas.Bool.{cases_lt}
use Rattle.std.proofs.lemmas.List.{take_all, take_at, length-take-le, length-drop, take-append-drop}
use Rattle.dbm_model.specs.Bounds.{Version}
use Rattle.page_model.specs.Bytes.{u32_at, u32_bytes}
use Rattle.page_model.specs.Chain.{Entry, pages_long, record_with, record_of, pages_of, IsEntry}
use Rattle.page_model.specs.Pages.{Body}
use Rattle.page_model.specs.PageBodies.{first_of, filled, content_bodies, entry_bodies, AreRead}
use Rattle.page_model.specs.Meaning.{bytes_on, page_behind, joined, content_by, pair_of}
use Rattle.page_model.proofs.Chains.{AllByRecursion-left, AllByRecursion-right}
use Rattle.page_model.proofs.GoodBodies.{IsPageNumber, far_pages, number_again}

-- what is taken from two texts beyond the first
take_behind : (xs ys : List ℕ) (k : ℕ) → take (length xs + k) (xs ++ ys) ≡ xs ++ take k ys
take_behind [] ys k = ap (λ n. take n ys) (omega arith)
take_behind (x ∷ xs) ys k =
    let more : length (x ∷ xs) + k ≡ suc (length xs + k) = omega arith in
    ap (λ n. take n (x ∷ (xs ++ ys))) more ∙ ap (λ zs. x ∷ zs) (take_behind xs ys k)

pub joined_again : (at : ℕ → Body) (pages content : List ℕ)
    → AreRead at (content_bodies pages content) → length content ≤ 2032 * length pages
    → take (length content) (joined at (length pages) (first_of pages)) ≡ content
joined_again at [] [] read many = refl
joined_again at [] (x ∷ content) read many = absurd (omega arith)
joined_again at (n ∷ rest) content read many =
    let some : List ℕ = take 2032 content in
    let after : List ℕ = joined at (length rest) (first_of rest) in
    let here : joined at (length (n ∷ rest)) n ≡ filled some ++ after =
    λ i. bytes_on (read.0 i) ++ joined at (length rest) (page_behind (read.0 i)) in
    ap (take (length content)) here
    ∙ elim (cases_lt 2032 (length content)) as (λ _.
    take (length content) (filled some ++ after) ≡ content) [
      | inl more ↦
          let long : length some ≡ 2032 = length-take-le 2032 content (omega arith) in
          let left : length (drop 2032 content) ≡ length content - 2032 = length-drop 2032 content in
          let full : filled some ≡ some =
          ap (λ k. some ++ replicate (2032 - k) 0) long ∙ append-nil some in
          let split : length content ≡ length some + length (drop 2032 content) = omega arith in
          ap (λ xs. take (length content) (xs ++ after)) full
          ∙ ap (λ k. take k (some ++ after)) split
          ∙ take_behind some after (length (drop 2032 content))
          ∙ ap (λ xs. some ++ xs)
          (joined_again at rest (drop 2032 content) read.1 (omega arith))
          ∙ take-append-drop 2032 content
      | inr few ↦
          let all : some ≡ content = take_all 2032 content few in
          ap (λ xs. take (length content) (filled xs ++ after)) all
          ∙ ap (take (length content))
          (append_assoc content (replicate (2032 - length content) 0) after)
          ∙ take_at content (replicate (2032 - length content) 0 ++ after) (length content) refl
    ]

-- the pair that a record says is its own
pair_again : (at : ℕ → Body) (version : Version) (e : Entry) (pages : List ℕ) → e.pages ≡ pages
    → IsEntry version e → AllByRecursion IsPageNumber pages
    → AreRead at (content_bodies pages e.pair.1) → pair_of at (record_with e.pair pages) ≡ e.pair
pair_again at version e [] same is ns read = refl
pair_again at version e (n ∷ rest) same is ns read =
    let long = length e.pair.1 in
    let far = far_pages version e is (omega (arith, ap length same)) in
    let many : length (n ∷ rest) ≡ pages_long long =
    sym (ap length same) ∙ is.paged ∙ ap (λ b. cond b (pages_long long) 0) far in
    let number = number_again n ns.0.1 in
    let content : content_by at (u32_bytes n) (Some long) ≡ e.pair.1 =
    ap (λ k. take long (joined at k (u32_at (u32_bytes n) 0))) (sym many)
    ∙ ap (λ k. take long (joined at (length (n ∷ rest)) k)) number
    ∙ joined_again at (n ∷ rest) e.pair.1 read (omega (arith, many)) in
    λ i. (e.pair.0, content i)

pub pairs_again : (at : ℕ → Body) (version : Version) (es : List Entry)
    → AllByRecursion (IsEntry version) es → AllByRecursion IsPageNumber (pages_of es)
    → AreRead at (flat_map entry_bodies es)
    → AllByRecursion (λ e. pair_of at (record_of e) ≡ e.pair) es
pairs_again at version [] is ns read = tt
pairs_again at version (e ∷ es) is ns read = (
  pair_again at version e e.pages refl is.0
      (AllByRecursion-left IsPageNumber e.pages (pages_of es) ns)
      (AllByRecursion-left (λ numbered. at numbered.number ≡ numbered.body) (entry_bodies e)
      (flat_map entry_bodies es) read),
  pairs_again at version es is.1 (AllByRecursion-right IsPageNumber e.pages (pages_of es) ns)
      (AllByRecursion-right (λ numbered. at numbered.number ≡ numbered.body) (entry_bodies e)
      (flat_map entry_bodies es) read),
)
