-- The staging of the three pages of an empty database.
use Rattle.std.proofs.Common.{◌≡◌, ℕ, ◌<◌, Bool, true, false, List, [], ◌∷◌, get_or, map, Result, Ok, Err, refl, ap, ◌∙◌, arith}
use Rattle.std.specs.Prelude.{IsErrOf}
use Rattle.page_io.specs.Page.{own_number}
use Rattle.page_io.specs.Store.{Pages, StoreState, bytes_of, put_page}
use Rattle.page_io.specs.declared.page.Page.{Page}
use Rattle.page_io.specs.declared.store.PageFault.{PageFault}
use Rattle.page_io.specs.declared.store.PageFault.TheVariants.{Broken}
use Rattle.page_io.proofs.Exits.{came, not_both}
use Rattle.page_io.proofs.StagedPages.{put_page-behind}

-- the number of each page
pub first_number : (pages : List Page) (page : Page)
    → map own_number (bytes_of pages) ≡ 1 ∷ 2 ∷ 3 ∷ [] → own_number (get_or pages 0 page).bytes ≡ 1
first_number [] page is = absurd (cc)
first_number (a ∷ rest) page is = ap (λ (ns : List ℕ). get_or ns 0 0) is

pub second_number : (pages : List Page) (page : Page)
    → map own_number (bytes_of pages) ≡ 1 ∷ 2 ∷ 3 ∷ [] → own_number (get_or pages 1 page).bytes ≡ 2
second_number [] page is = absurd (cc)
second_number (a ∷ []) page is = absurd (cc)
second_number (a ∷ b ∷ rest) page is = ap (λ (ns : List ℕ). get_or ns 1 0) is

pub third_number : (pages : List Page) (page : Page)
    → map own_number (bytes_of pages) ≡ 1 ∷ 2 ∷ 3 ∷ [] → own_number (get_or pages 2 page).bytes ≡ 3
third_number [] page is = absurd (cc)
third_number (a ∷ []) page is = absurd (cc)
third_number (a ∷ b ∷ []) page is = absurd (cc)
third_number (a ∷ b ∷ c ∷ rest) page is = ap (λ (ns : List ℕ). get_or ns 2 0) is

-- the bytes of all three
pub three_bytes : (pages : List Page) (p q r : Page)
    → map own_number (bytes_of pages) ≡ 1 ∷ 2 ∷ 3 ∷ []
    → (get_or pages 0 p).bytes ∷ (get_or pages 1 q).bytes ∷ (get_or pages 2 r).bytes ∷ []
    ≡ bytes_of pages
three_bytes [] p q r is = absurd (cc)
three_bytes (a ∷ []) p q r is = absurd (cc)
three_bytes (a ∷ b ∷ []) p q r is = absurd (cc)
three_bytes (a ∷ b ∷ c ∷ []) p q r is = refl
three_bytes (a ∷ b ∷ c ∷ d ∷ rest) p q r is = absurd (cc)

-- staged one after the other, they stand in this order
put_three : (p q r : List ℕ) → own_number p ≡ 1 → own_number q ≡ 2 → own_number r ≡ 3
    → put_page (put_page (p ∷ []) q) r ≡ p ∷ q ∷ r ∷ []
put_three p q r one two three =
    ap (λ (ps : Pages). put_page ps r) (put_page-behind p [] q (rises one two (omega arith)))
    ∙ put_page-behind p (q ∷ []) r (rises one three (omega arith))
    ∙ ap (λ (ps : Pages). p ∷ ps) (put_page-behind q [] r (rises two three (omega arith)))
  where
    rises : {a b m n : ℕ} → a ≡ m → b ≡ n → m < n → a < b
    rises low high lt = omega (arith, low, high, lt)

pub staged_three : (s0 s1 s2 s3 : StoreState) (p q r : List ℕ) → s0.staged ≡ []
    → s1 ≡ record s0 { staged = put_page s0.staged p }
    → s2 ≡ record s1 { staged = put_page s1.staged q }
    → s3 ≡ record s2 { staged = put_page s2.staged r }
    → own_number p ≡ 1 → own_number q ≡ 2 → own_number r ≡ 3 → s3.staged ≡ p ∷ q ∷ r ∷ []
staged_three s0 s1 s2 s3 p q r none first second third one two three =
    let staged1 = ap (λ (s : StoreState). s.staged) first
    ∙ ap (λ (ps : Pages). put_page ps p) none in
    let staged2 = ap (λ (s : StoreState). s.staged) second
    ∙ ap (λ (ps : Pages). put_page ps q) staged1 in
    ap (λ (s : StoreState). s.staged) third ∙ ap (λ (ps : Pages). put_page ps r) staged2
    ∙ put_three p q r one two three

-- a stage of a usable store isn't refused as that of a broken one
pub not_broken : {T U : Type 0} (result : Result T PageFault) (e : PageFault) (was now : Bool)
    → result ≡ Err e → now ≡ was → (IsErrOf {T = U} (Err e) Broken → now ≡ false)
    → IsErrOf result Broken → was ≡ true → ⊥
not_broken result e was now exit same answer is usable =
    not_both now (same ∙ usable) (answer (came result e exit Broken is))

pub not_err : {T P : Type 0} (x : T) (f : PageFault)
    → ◌≡◌ {A = Result T PageFault} (Ok x) (Err f) → P
not_err x f is = cc
