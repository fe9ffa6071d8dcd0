-- Laws of the entries of a map of pages by their own numbers.
use Rattle.std.proofs.Common.{◌≡◌, ◌≢◌, inl, inr, ℕ, ◌+◌, ◌<◌, ◌≤◌, List, [], ◌∷◌, get_or, map, eqb, Bool, true, false, cond, Some, None, Result, Ok, Err, OnOk, OnErr, refl, sym, ◌∙◌, ap, subst, arith}
use Rattle.std.proofs.lemmas.Bool.{cases_eq, cases_order, lt-ltb, le-ltb, eq-eqb, ne_eqb}
use Rattle.std.specs.Global.{Box}
use Rattle.std.specs.declared.cmp.Ordering.{Ordering}
use Rattle.std.specs.declared.cmp.Ordering.TheVariants.{Less, Equal, Greater}
use Rattle.std.specs.Ordering.{is_eq, nat_cmp, match_ordering}
use Rattle.std.specs.Map.{keys_of, values_of, lookup}
use Rattle.std.specs.BTreeMap.{insert_entry, is_at}
use Rattle.page_io.specs.Page.{own_number}
use Rattle.page_io.specs.Store.{Pages, with_page, overlaid, put_page, has_page, are_in_order}
use Rattle.page_io.specs.declared.page.Page.{Page}
use Rattle.page_io.proofs.Overlays.{overlaid-none, has_page-skip, has_page-here, with_page-same}
use Rattle.page_io.proofs.StagedPages.{order_put, put_page-before, put_page-over, put_page-behind, has_between, in_range}
use Rattle.page_group.specs.Numbered.{pages_in, AreNumbered}
use Rattle.page_group.proofs.Putting.{order_parts}

-- ---- how two numbers compare

cmp_less : (n m : ℕ) → n < m → nat_cmp n m ≡ Less
cmp_less n m lt = ap (λ (b : Bool). cond b Less (cond (eqb n m) Equal Greater)) (lt-ltb n m lt)

cmp_equal : (n m : ℕ) → n ≡ m → nat_cmp n m ≡ Equal
cmp_equal n m same =
    ap (λ (b : Bool). cond b Less (cond (eqb n m) Equal Greater)) (le-ltb n m (omega (arith, same)))
    ∙ ap (λ (b : Bool). cond b Equal Greater) (eq-eqb n m same)

cmp_greater : (n m : ℕ) → m < n → nat_cmp n m ≡ Greater
cmp_greater n m gt =
    ap (λ (b : Bool). cond b Less (cond (eqb n m) Equal Greater)) (le-ltb n m (omega (arith, gt)))
    ∙ ap (λ (b : Bool). cond b Equal Greater) (ne_eqb n m (λ same. omega (arith, same, gt)))

at_same : (n m : ℕ) → n ≡ m → is_at (nat_cmp n) m ≡ true
at_same n m same = ap is_eq (cmp_equal n m same)

at_other : (n m : ℕ) → n ≢ m → is_at (nat_cmp n) m ≡ false
at_other n m other = elim (cases_order n m) [
  | inl same ↦ absurd (other same)
  | inr (inl below) ↦ ap is_eq (cmp_less n m below)
  | inr (inr above) ↦ ap is_eq (cmp_greater n m above)
]

-- ---- numbers of entries

module _ (entry : ℕ × Box Page) (entries : List (ℕ × Box Page)) where
  first_own : AreNumbered (entry ∷ entries) → own_number entry.1.value.bytes ≡ entry.0
  first_own numbered = sym (ap (λ (xs : List ℕ). get_or xs 0 0) numbered)

  others_numbered : AreNumbered (entry ∷ entries) → AreNumbered entries
  others_numbered numbered = ap others numbered
    where
      others : List ℕ → List ℕ
      others [] = []
      others (x ∷ xs) = xs

  joined : own_number entry.1.value.bytes ≡ entry.0 → AreNumbered entries
      → AreNumbered (entry ∷ entries)
  joined own numbered = ap (λ (n : ℕ). n ∷ keys_of entries) (sym own)
      ∙ ap (λ (ns : List ℕ). own_number entry.1.value.bytes ∷ ns) numbered

-- ---- an entry that is put in

module _ (entry : ℕ × Box Page) (entries : List (ℕ × Box Page)) (k : ℕ) (one : Box Page) where
  abbrev chosen : Ordering → List (ℕ × Box Page)
  chosen order = match_ordering order ((k, one) ∷ entry ∷ entries) ((entry.0, one) ∷ entries)
      (entry ∷ insert_entry nat_cmp entries k one)

  inserted_before : k < entry.0
      → insert_entry nat_cmp (entry ∷ entries) k one ≡ (k, one) ∷ entry ∷ entries
  inserted_before lt = ap chosen (cmp_less k entry.0 lt)

  inserted_over : k ≡ entry.0
      → insert_entry nat_cmp (entry ∷ entries) k one ≡ (entry.0, one) ∷ entries
  inserted_over same = ap chosen (cmp_equal k entry.0 same)

  inserted_behind : entry.0 < k
      → insert_entry nat_cmp (entry ∷ entries) k one ≡ entry ∷ insert_entry nat_cmp entries k one
  inserted_behind gt = ap chosen (cmp_greater k entry.0 gt)

-- the pages are those with this one in the place of its number
pub put_entry : (entries : List (ℕ × Box Page)) (k : ℕ) (one : Box Page) → AreNumbered entries
    → own_number one.value.bytes ≡ k
    → pages_in (insert_entry nat_cmp entries k one) ≡ put_page (pages_in entries) one.value.bytes
put_entry [] k one numbered own = refl
put_entry (entry ∷ entries) k one numbered own =
    let first = first_own entry entries numbered in
    let page = entry.1.value.bytes in
    let new = one.value.bytes in
    elim (cases_order k entry.0) [
      | inl same ↦ ap pages_in (inserted_over entry entries k one same)
          ∙ sym (put_page-over page (pages_in entries) new (own ∙ same ∙ sym first))
      | inr (inl below) ↦ ap pages_in (inserted_before entry entries k one below)
          ∙ sym (put_page-before page (pages_in entries) new (omega (arith, own, first, below)))
      | inr (inr above) ↦ ap pages_in (inserted_behind entry entries k one above)
          ∙ ap (λ (ps : Pages). page ∷ ps)
          (put_entry entries k one (others_numbered entry entries numbered) own)
          ∙ sym (put_page-behind page (pages_in entries) new (omega (arith, own, first, above)))
    ]

pub put_numbered : (entries : List (ℕ × Box Page)) (k : ℕ) (one : Box Page) → AreNumbered entries
    → own_number one.value.bytes ≡ k → AreNumbered (insert_entry nat_cmp entries k one)
put_numbered [] k one numbered own = joined (k, one) [] own numbered
put_numbered (entry ∷ entries) k one numbered own =
    let rest = others_numbered entry entries numbered in
    elim (cases_order k entry.0) [
      | inl same ↦ subst AreNumbered (sym (inserted_over entry entries k one same))
          (joined (entry.0, one) entries (own ∙ same) rest)
      | inr (inl below) ↦ subst AreNumbered (sym (inserted_before entry entries k one below))
          (joined (k, one) (entry ∷ entries) own numbered)
      | inr (inr above) ↦ subst AreNumbered (sym (inserted_behind entry entries k one above))
          (joined entry (insert_entry nat_cmp entries k one) (first_own entry entries numbered)
          (put_numbered entries k one rest own))
    ]

-- ---- an entry that is looked up

-- a page that is found is among them, and shown in its place
pub found_page : (least high : ℕ) (entries : List (ℕ × Box Page)) (n : ℕ) (one : Box Page)
    → AreNumbered entries → are_in_order least high (pages_in entries) ≡ true
    → lookup (is_at (nat_cmp n)) entries ≡ Some one
    → (has_page (pages_in entries) n ≡ true)
    × ((home : ℕ → List ℕ) → overlaid (pages_in entries) home n ≡ one.value.bytes)
found_page least high [] n one numbered order found = cc
found_page least high (entry ∷ entries) n one numbered order found =
    let page = entry.1.value.bytes in
    let later = lookup (is_at (nat_cmp n)) entries in
    let first = first_own entry entries numbered in
    let rest = order_parts least high page (pages_in entries) order in
    let read = λ (b : Bool). cond b (Some entry.1) later in
    elim (cases_eq n entry.0) [
      | inl same ↦
          let here : Some entry.1 ≡ Some one = sym (ap read (at_same n entry.0 same)) ∙ found in
          let is : entry.1 ≡ one = cc in
          let own : own_number page ≡ n = first ∙ sym same in
          let none = has_between (own_number page + 1) high (pages_in entries) 0 n rest.2
          (λ k lt. absurd (omega (arith, lt)))
          (λ more. omega (
            arith,
            own,
            (in_range (own_number page + 1) high (pages_in entries) 0 rest.2 more).0,
          )) (omega arith) in (
            has_page-here (pages_in entries) page n own,
            λ home. overlaid-none (pages_in entries) (with_page home page) n none
                ∙ with_page-same home page n own ∙ ap (λ (b : Box Page). b.value.bytes) is,
          )
      | inr other ↦
          let more = found_page (own_number page + 1) high entries n one
          (others_numbered entry entries numbered) rest.2
          (sym (ap read (at_other n entry.0 other)) ∙ found) in (
            has_page-skip (pages_in entries) page n (λ same. other (sym same ∙ first)) ∙ more.0,
            λ home. more.1 (with_page home page),
          )
    ]

-- where none is found, none is among them
pub absent_page : (entries : List (ℕ × Box Page)) (n : ℕ) → AreNumbered entries
    → lookup (is_at (nat_cmp n)) entries ≡ None → has_page (pages_in entries) n ≡ false
absent_page [] n numbered none = refl
absent_page (entry ∷ entries) n numbered none =
    let later = lookup (is_at (nat_cmp n)) entries in
    let first = first_own entry entries numbered in
    let read = λ (b : Bool). cond b (Some entry.1) later in
    elim (cases_eq n entry.0) [
      | inl same ↦
          let both : Some entry.1 ≡ None = sym (ap read (at_same n entry.0 same)) ∙ none in cc
      | inr other ↦
          has_page-skip (pages_in entries) entry.1.value.bytes n (λ same. other (sym same ∙ first))
          ∙ absent_page entries n (others_numbered entry entries numbered)
          (sym (ap read (at_other n entry.0 other)) ∙ none)
    ]

-- ---- the values of a map

abbrev pub bytes_in : List (Box Page) → Pages
bytes_in boxes = map (λ (one : Box Page). one.value.bytes) boxes

pub bytes_in-values : (entries : List (ℕ × Box Page))
    → bytes_in (values_of entries) ≡ pages_in entries
bytes_in-values [] = refl
bytes_in-values (entry ∷ entries) =
    ap (λ (ps : Pages). entry.1.value.bytes ∷ ps) (bytes_in-values entries)

-- ---- a map in which one was put, or refused

pub after_put : {T E : Type 0} (result : Result T E) (old new : List (ℕ × Box Page)) (k high : ℕ)
    (one : Box Page) → AreNumbered old → are_in_order 1 high (pages_in old) ≡ true
    → own_number one.value.bytes ≡ k → 1 ≤ k → k < high
    → OnOk result (new ≡ insert_entry nat_cmp old k one) → OnErr result (new ≡ old)
    → AreNumbered new × (are_in_order 1 high (pages_in new) ≡ true)
after_put (Ok x) old new k high one numbered order own some below ok err = (
  subst AreNumbered (sym ok) (put_numbered old k one numbered own),
  ap (λ (es : List (ℕ × Box Page)). are_in_order 1 high (pages_in es)) ok
      ∙ ap (λ (ps : Pages). are_in_order 1 high ps) (put_entry old k one numbered own)
      ∙ order_put 1 high (pages_in old) one.value.bytes order (omega (arith, own, some))
      (omega (arith, own, below)),
)
after_put (Err e) old new k high one numbered order own some below ok err = (
  subst AreNumbered (sym err) numbered,
  ap (λ (es : List (ℕ × Box Page)). are_in_order 1 high (pages_in es)) err ∙ order,
)
