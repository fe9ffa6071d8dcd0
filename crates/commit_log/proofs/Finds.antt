-- What is found in the bytes of a slot.
use Rattle.std.proofs.Common.{◌≡◌, ◌≢◌, ◌∙◌, inl, inr, sym, ap, refl, ℕ, zero, suc, ◌+◌, ◌*◌, ◌<◌, ◌≤◌, List, ◌++◌, length, take, drop, slice_index, Bool, true, false, cond, ◌&&◌, not, eqb, leb, arith}
use Rattle.std.proofs.lemmas.Bool.{cases_eq, and_from, and_parts, and_left, and_right, not_from_true, not_from_false, ne_eqb, eq-eqb, leb-true}
use Rattle.std.proofs.lemmas.List.{drop-drop}
use borrow.Rule.Slice.PartMut.{put_mid}
use Rattle.sect_dev.specs.Device.{part_of}
use Rattle.page_model.specs.Bytes.{u32_at, overwrite}
use Rattle.page_io.specs.Page.{part, page_at}
use Rattle.page_io.specs.Store.{Pages, pages_from, are_in_order}
use Rattle.page_io.proofs.PageLaws.{page_of_parts}
use Rattle.commit_log.specs.Log.{Log, no_log, Slot, carry, unstamped, log_by, is_disordered}
use Rattle.commit_log.proofs.Logs.{log_same, whole_or_not, disorder_same, whole_or_ordered}
use Rattle.commit_log.proofs.Words.{part_at, put_here, put_apart}

-- the number that a sector begins with
pub part_field : (bytes : List ℕ) (k : ℕ) → u32_at (part_of bytes k) 0 ≡ u32_at bytes (512 * k)
part_field bytes k =
    let none : 512 * k + 0 ≡ 512 * k = omega arith in
    let last : 512 * k + 3 ≡ 512 * k + 2 + 1 = omega arith in
    let b0 = part_at bytes k 0 (omega arith) ∙ ap (slice_index bytes) none in
    let b1 = part_at bytes k 1 (omega arith) in
    let b2 = part_at bytes k 2 (omega arith) in
    let b3 = part_at bytes k 3 (omega arith) ∙ ap (slice_index bytes) last in
    omega (arith, b0, b1, b2, b3)

pub carry_more : (slot : Slot) (number k : ℕ) → carry slot number k ≡ true
    → u32_at (slot (1 + k)) 0 ≡ number → carry slot number (k + 1) ≡ true
carry_more slot number k so_far is =
    let next : k + 1 ≡ suc k = omega arith in
    ap (carry slot number) next
    ∙ and_from (eqb (u32_at (slot (1 + k)) 0) number) (carry slot number k)
    (eq-eqb (u32_at (slot (1 + k)) 0) number is) so_far

pub carry_fails : (slot : Slot) (number count k : ℕ) → k < count
    → u32_at (slot (1 + k)) 0 ≢ number → carry slot number count ≡ false
carry_fails slot number zero k lt other = absurd (omega (arith, lt))
carry_fails slot number (suc count) k lt other = elim (cases_eq k count) [
  | inl same ↦ and_left (eqb (u32_at (slot (1 + count)) 0) number) (carry slot number count)
      (ne_eqb (u32_at (slot (1 + count)) 0) number
      (λ is. other (ap (λ (j : ℕ). u32_at (slot (1 + j)) 0) same ∙ is)))
  | inr apart ↦ and_right (eqb (u32_at (slot (1 + count)) 0) number) (carry slot number count)
      (carry_fails slot number count k (omega (arith, lt, apart)) other)
]

-- parts that are written over
module _ (xs c : List ℕ) (k : ℕ) (fits : 512 * k + 512 ≤ length xs) (long : length c ≡ 512) where
  over : put_mid (512 * k) 512 xs c ≡ overwrite xs (512 * k) c
  over = let count : 512 ≡ length c = sym long in
      ap (λ (n : ℕ). take (512 * k) xs ++ (c ++ drop n (drop (512 * k) xs))) count
      ∙ ap (λ (ys : List ℕ). take (512 * k) xs ++ (c ++ ys)) (drop-drop (length c) (512 * k) xs)

  pub over_here : part_of (overwrite xs (512 * k) c) k ≡ c
  over_here = ap (λ (ys : List ℕ). part_of ys k) (sym over) ∙ put_here xs c k 512 fits long refl

  pub over_apart : (j : ℕ) → 512 * j + 512 ≤ length xs → j ≢ k
      → part_of (overwrite xs (512 * k) c) j ≡ part_of xs j
  over_apart j inside other = ap (λ (ys : List ℕ). part_of ys j) (sym over)
      ∙ put_apart xs c k 512 fits long refl j inside other

pub page_found : (slot : Slot) (i : ℕ) (bytes : List ℕ) → length bytes ≡ 2048
    → ((k : ℕ) → k < 4 → part_of bytes k ≡ unstamped slot (4 * i + k))
    → bytes ≡ page_at (unstamped slot) i
unfolding part part_of
page_found slot i bytes long are =
    sym (page_of_parts (unstamped slot) i bytes long (λ k lt. sym (are k lt)))

-- what a slot says by its fields
module _ (start : ℕ) (slot : Slot) (n c e : ℕ) (has_number : n ≡ u32_at (slot 0) 0)
    (has_count : c ≡ u32_at (slot 0) 4) (has_end : e ≡ u32_at (slot 0) 8) where
  abbrev range : Bool
  range = (leb 1 n && (leb 1 c && leb c 15)) && (leb 4 e && leb e start)

  abbrev said_by : Bool → Bool → Pages → Log
  said_by all order ps =
      cond ((range && all) && order) (record { number = n; end = e; pages = ps }) no_log

  by_fields : log_by start slot ≡ said_by (carry slot n (4 * c))
      (are_in_order 1 e (pages_from (page_at (unstamped slot)) 0 c))
      (pages_from (page_at (unstamped slot)) 0 c)
  unfolding log_by
  by_fields =
      let f = λ (n c e : ℕ). cond ((((leb 1 n && (leb 1 c && leb c 15))
      && (leb 4 e && leb e start)) && carry slot n (4 * c))
      && are_in_order 1 e (pages_from (page_at (unstamped slot)) 0 c))
      (record { number = n; end = e; pages = pages_from (page_at (unstamped slot)) 0 c }) no_log in
      ap (λ (n : ℕ). f n (u32_at (slot 0) 4) (u32_at (slot 0) 8)) (sym has_number)
      ∙ ap (λ (c : ℕ). f n c (u32_at (slot 0) 8)) (sym has_count)
      ∙ ap (λ (e : ℕ). f n c e) (sym has_end)

  pub none_if_out : range ≡ false → no_log ≡ log_by start slot
  none_if_out fails = sym (by_fields ∙ ap (λ (b : Bool). cond b
      (record { number = n; end = e; pages = pages_from (page_at (unstamped slot)) 0 c }) no_log)
      (and_left (range && carry slot n (4 * c)) _ (and_left range (carry slot n (4 * c)) fails)))

  pub none_if_mixed : carry slot n (4 * c) ≡ false → no_log ≡ log_by start slot
  none_if_mixed fails = sym (by_fields ∙ ap (λ (b : Bool). cond b
      (record { number = n; end = e; pages = pages_from (page_at (unstamped slot)) 0 c }) no_log)
      (and_left (range && carry slot n (4 * c)) _ (and_right range (carry slot n (4 * c)) fails)))

  pub none_if_disordered : are_in_order 1 e (pages_from (page_at (unstamped slot)) 0 c) ≡ false
      → no_log ≡ log_by start slot
  none_if_disordered fails = sym (by_fields ∙ ap (λ (b : Bool). cond b
      (record { number = n; end = e; pages = pages_from (page_at (unstamped slot)) 0 c }) no_log)
      (and_right (range && carry slot n (4 * c)) _ fails))

  pub found_if : (pages : Pages) → range ≡ true → carry slot n (4 * c) ≡ true
      → are_in_order 1 e (pages_from (page_at (unstamped slot)) 0 c) ≡ true
      → pages ≡ pages_from (page_at (unstamped slot)) 0 c
      → record { number = n; end = e; pages = pages } ≡ log_by start slot
  found_if pages in_range all order are =
      ap (λ (ps : Pages). record { number = n; end = e; pages = ps }) are
      ∙ sym (by_fields ∙ ap (λ (b : Bool). cond b
      (record { number = n; end = e; pages = pages_from (page_at (unstamped slot)) 0 c }) no_log)
      (and_from (range && carry slot n (4 * c)) _ (and_from range (carry slot n (4 * c)) in_range
      all) order))

-- whether it is disordered by its fields
module _ (start : ℕ) (slot : Slot) (n c e : ℕ) (has_number : n ≡ u32_at (slot 0) 0)
    (has_count : c ≡ u32_at (slot 0) 4) (has_end : e ≡ u32_at (slot 0) 8) where
  abbrev fields : Bool
  fields = (leb 1 n && (leb 1 c && leb c 15)) && (leb 4 e && leb e start)

  abbrev order : Bool
  order = are_in_order 1 e (pages_from (page_at (unstamped slot)) 0 c)

  disordered_by : is_disordered start slot ≡ (fields && carry slot n (4 * c)) && not order
  unfolding is_disordered
  disordered_by =
      let f = λ (n c e : ℕ). (((leb 1 n && (leb 1 c && leb c 15)) && (leb 4 e && leb e start))
      && carry slot n (4 * c))
      && not (are_in_order 1 e (pages_from (page_at (unstamped slot)) 0 c)) in
      ap (λ (n : ℕ). f n (u32_at (slot 0) 4) (u32_at (slot 0) 8)) (sym has_number)
      ∙ ap (λ (c : ℕ). f n c (u32_at (slot 0) 8)) (sym has_count)
      ∙ ap (λ (e : ℕ). f n c e) (sym has_end)

  pub ordered_if_out : fields ≡ false → false ≡ is_disordered start slot
  ordered_if_out fails = sym (disordered_by ∙ and_left (fields && carry slot n (4 * c)) (not order)
      (and_left fields (carry slot n (4 * c)) fails))

  pub ordered_if_mixed : carry slot n (4 * c) ≡ false → false ≡ is_disordered start slot
  ordered_if_mixed fails =
      sym (disordered_by ∙ and_left (fields && carry slot n (4 * c)) (not order)
      (and_right fields (carry slot n (4 * c)) fails))

  pub ordered_if_found : order ≡ true → false ≡ is_disordered start slot
  ordered_if_found holds =
      sym (disordered_by ∙ and_right (fields && carry slot n (4 * c)) (not order)
      (not_from_true order holds))

  pub disordered_if : fields ≡ true → carry slot n (4 * c) ≡ true → order ≡ false
      → true ≡ is_disordered start slot
  disordered_if in_range all fails =
      sym (disordered_by ∙ and_from (fields && carry slot n (4 * c)) (not order)
      (and_from fields (carry slot n (4 * c)) in_range all) (not_from_false order fails))

pub few_if : (start n c e : ℕ)
    → ((leb 1 n && (leb 1 c && leb c 15)) && (leb 4 e && leb e start)) ≡ true → c ≤ 15
few_if start n c e holds =
    let both = and_parts (leb 1 n && (leb 1 c && leb c 15)) (leb 4 e && leb e start) holds in
    let counts = and_parts (leb 1 n) (leb 1 c && leb c 15) both.0 in
    let count = and_parts (leb 1 c) (leb c 15) counts.1 in
    leb-true c 15 count.1

-- slots that agree
pub same_slots : (start : ℕ) (f g : Slot) → ((k : ℕ) → k < 61 → f k ≡ g k)
    → log_by start f ≡ log_by start g
same_slots start f g same = elim (whole_or_not start f) [
  | inr whole ↦ log_same f g (same 0 (omega arith))
      (λ k lt. same (1 + k) (omega (arith, lt, whole.few))) start
  | inl none ↦ elim (whole_or_not start g) [
    | inr whole ↦ sym (log_same g f (sym (same 0 (omega arith)))
        (λ k lt. sym (same (1 + k) (omega (arith, lt, whole.few)))) start)
    | inl too ↦ none ∙ sym too
  ]
]

pub same_disorder : (start : ℕ) (f g : Slot) → ((k : ℕ) → k < 61 → f k ≡ g k)
    → is_disordered start f ≡ is_disordered start g
same_disorder start f g same = elim (whole_or_ordered start f) [
  | inr whole ↦ disorder_same f g (same 0 (omega arith))
      (λ k lt. same (1 + k) (omega (arith, lt, whole.few))) start
  | inl none ↦ elim (whole_or_ordered start g) [
    | inr whole ↦ sym (disorder_same g f (sym (same 0 (omega arith)))
        (λ k lt. sym (same (1 + k) (omega (arith, lt, whole.few)))) start)
    | inl too ↦ none ∙ sym too
  ]
]
