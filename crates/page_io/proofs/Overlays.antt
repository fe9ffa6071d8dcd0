-- Laws of lists of pages, for the layers above.
use Rattle.std.proofs.Common.{◌≡◌, ◌≢◌, inl, inr, ℕ, zero, suc, ◌+◌, ◌-◌, ◌<◌, ◌≤◌, List, [], ◌∷◌, ◌++◌, length, get_or, eqb, Bool, true, false, cond, refl, sym, ◌∙◌, ap, arith, rules}
use Rattle.std.proofs.lemmas.Bool.{cases_eq, ne_eqb, eq-eqb, false≢true}
use Rattle.std.proofs.lemmas.Bool.Decides.{nat_tests}
use Rattle.page_io.specs.Page.{own_number}
use Rattle.page_io.specs.Store.{Pages, pages_from, file_pages, page_of, with_page, overlaid, has_page}

-- pages that agree one by one
pub same_pages : (f g : ℕ → List ℕ) (at count : ℕ) → ((n : ℕ) → at ≤ n → n < at + count → f n ≡ g n)
    → pages_from f at count ≡ pages_from g at count
same_pages f g at zero same = refl
same_pages f g at (suc count) same =
    ap (λ (c : List ℕ). c ∷ pages_from f (at + 1) count) (same at (omega arith) (omega arith))
    ∙ ap (λ (cs : Pages). g at ∷ cs)
    (same_pages f g (at + 1) count (λ n ge lt. same n (omega (arith, ge)) (omega (arith, lt))))

-- the pages of a file that agree one by one
pub same_file : (f g : ℕ → List ℕ) (end : ℕ) → ((n : ℕ) → 1 ≤ n → n < end → f n ≡ g n)
    → file_pages f end ≡ file_pages g end
same_file f g end same = same_pages f g 1 (end - 1) (λ n ge lt. same n ge (omega (arith, ge, lt)))

-- one more
pub pages_more : (f : ℕ → List ℕ) (at count : ℕ)
    → pages_from f at (count + 1) ≡ pages_from f at count ++ f (at + count) ∷ []
pages_more f at zero = ap (λ (m : ℕ). f m ∷ []) (omega arith)
pages_more f at (suc count) =
    let rest = pages_more f (at + 1) count in
    let place : at + 1 + count ≡ at + suc count = omega arith in
    let more : suc count + 1 ≡ suc (count + 1) = omega arith in
    ap (pages_from f at) more
    ∙ ap (λ (cs : Pages). f at ∷ cs)
    (rest ∙ ap (λ (m : ℕ). pages_from f (at + 1) count ++ f m ∷ []) place)

pub get_or-pages_from : (f : ℕ → List ℕ) (at count i : ℕ) → i < count
    → get_or (pages_from f at count) i [] ≡ f (at + i)
get_or-pages_from f at zero i lt = absurd (omega (arith, lt))
get_or-pages_from f at (suc count) zero lt = ap f (omega arith)
get_or-pages_from f at (suc count) (suc i) lt =
    let place : at + 1 + i ≡ at + suc i = omega arith in
    get_or-pages_from f (at + 1) count i (omega (arith, lt)) ∙ ap f place

-- a page of a file's pages
pub page_of-file : (f : ℕ → List ℕ) (end n : ℕ) → 1 ≤ n → n < end
    → page_of (file_pages f end) n ≡ f n
page_of-file f end n ge lt =
    let place : 1 + (n - 1) ≡ n = omega arith in
    get_or-pages_from f 1 (end - 1) (n - 1) (omega arith) ∙ ap f place

pub with_page-same : (home : ℕ → List ℕ) (page : List ℕ) (n : ℕ) → own_number page ≡ n
    → with_page home page n ≡ page
with_page-same home page n same = search (rules, nat_tests)

pub with_page-other : (home : ℕ → List ℕ) (page : List ℕ) (n : ℕ) → own_number page ≢ n
    → with_page home page n ≡ home n
with_page-other home page n other = search (rules, nat_tests)

-- none of these pages has that number
abbrev pub IsApart : Pages → ℕ → Type 0
IsApart [] n = Unit {0}
IsApart (page ∷ pages) n = (own_number page ≢ n) × IsApart pages n

-- what stands under the pages doesn't count
pub overlaid-over : (pages : Pages) (f g : ℕ → List ℕ) (n : ℕ) → (IsApart pages n → g n ≡ f n)
    → overlaid pages g n ≡ overlaid pages f n
overlaid-over [] f g n same = same tt
overlaid-over (page ∷ pages) f g n same =
    overlaid-over pages (with_page f page) (with_page g page) n
    (λ apart. elim (cases_eq (own_number page) n) [
      | inl is ↦ with_page-same g page n is ∙ sym (with_page-same f page n is)
      | inr other ↦ with_page-other g page n other ∙ same (other, apart)
          ∙ sym (with_page-other f page n other)
    ])

-- a page that none of them names stays
pub overlaid-apart : (pages : Pages) (f : ℕ → List ℕ) (n : ℕ) → IsApart pages n
    → overlaid pages f n ≡ f n
overlaid-apart [] f n apart = refl
overlaid-apart (page ∷ pages) f n apart =
    overlaid-apart pages (with_page f page) n apart.1 ∙ with_page-other f page n apart.0

-- one more
pub overlaid-push : (pages : Pages) (f : ℕ → List ℕ) (page : List ℕ)
    → overlaid (pages ++ page ∷ []) f ≡ with_page (overlaid pages f) page
overlaid-push [] f page = refl
overlaid-push (first ∷ pages) f page = overlaid-push pages (with_page f first) page

-- a page that is among them is not apart
pub apart-has_page : (pages : Pages) (n : ℕ) → IsApart pages n → has_page pages n ≡ false
apart-has_page [] n apart = refl
apart-has_page (page ∷ pages) n apart =
    ap (λ (b : Bool). cond b true (has_page pages n)) (ne_eqb (own_number page) n apart.0)
    ∙ apart-has_page pages n apart.1

pub has_page-apart : (pages : Pages) (n : ℕ) → has_page pages n ≡ false → IsApart pages n
has_page-apart [] n none = tt
has_page-apart (page ∷ pages) n none = elim (cases_eq (own_number page) n) [
  | inl same ↦ absurd (false≢true
      (sym none ∙ ap (λ (b : Bool). cond b true (has_page pages n))
      (eq-eqb (own_number page) n same)))
  | inr other ↦ (
    other,
    has_page-apart pages n
        (ap (λ (b : Bool). cond b true (has_page pages n))
        (sym (ne_eqb (own_number page) n other)) ∙ none),
  )
]

-- where it is staged, what stands under it doesn't count
pub overlaid-staged : (pages : Pages) (f g : ℕ → List ℕ) (n : ℕ) → has_page pages n ≡ true
    → overlaid pages g n ≡ overlaid pages f n
overlaid-staged pages f g n has =
    overlaid-over pages f g n (λ apart.
    absurd (false≢true (sym (apart-has_page pages n apart) ∙ has)))

pub overlaid-none : (pages : Pages) (f : ℕ → List ℕ) (n : ℕ) → has_page pages n ≡ false
    → overlaid pages f n ≡ f n
overlaid-none pages f n none = overlaid-apart pages f n (has_page-apart pages n none)

-- one more
pub has_page-push : (pages : Pages) (page : List ℕ) (n : ℕ)
    → has_page (pages ++ page ∷ []) n ≡ cond (has_page pages n) true (eqb (own_number page) n)
has_page-push [] page n = elim (eqb (own_number page) n) as
    (λ (b : Bool). cond b true false ≡ b) [ true ↦ refl | false ↦ refl ]
has_page-push (first ∷ pages) page n =
    elim (eqb (own_number first) n) as
    (λ (b : Bool). cond b true (has_page (pages ++ page ∷ []) n)
    ≡ cond (cond b true (has_page pages n)) true (eqb (own_number page) n)) [
      | true ↦ refl
      | false ↦ has_page-push pages page n
    ]

-- a page of another number is passed over
pub has_page-skip : (pages : Pages) (page : List ℕ) (n : ℕ) → own_number page ≢ n
    → has_page (page ∷ pages) n ≡ has_page pages n
has_page-skip pages page n other =
    ap (λ (b : Bool). cond b true (has_page pages n)) (ne_eqb (own_number page) n other)

pub has_page-here : (pages : Pages) (page : List ℕ) (n : ℕ) → own_number page ≡ n
    → has_page (page ∷ pages) n ≡ true
has_page-here pages page n same =
    ap (λ (b : Bool). cond b true (has_page pages n)) (eq-eqb (own_number page) n same)

-- a page that is there is among them
pub has_page-at : (pages : Pages) (k n : ℕ) → k < length pages → own_number (get_or pages k []) ≡ n
    → has_page pages n ≡ true
has_page-at [] k n lt is = absurd (omega (arith, lt))
has_page-at (page ∷ pages) zero n lt is = has_page-here pages page n is
has_page-at (page ∷ pages) (suc k) n lt is = elim (cases_eq (own_number page) n) [
  | inl same ↦ has_page-here pages page n same
  | inr other ↦ has_page-skip pages page n other ∙ has_page-at pages k n (omega (arith, lt)) is
]

-- where each has another number, none is
pub has_page-none : (pages : Pages) (n : ℕ)
    → ((k : ℕ) → k < length pages → own_number (get_or pages k []) ≢ n) → has_page pages n ≡ false
has_page-none [] n others = refl
has_page-none (page ∷ pages) n others =
    has_page-skip pages page n (others 0 (omega arith))
    ∙ has_page-none pages n (λ k lt. others (suc k) (omega (arith, lt)))
