-- What a slot says that is written in part, and what the log settles to then.
use Rattle.std.proofs.Common.{◌≡◌, ◌⊎◌, inl, inr, ⊎_elim, ℕ, zero, suc, ◌+◌, ◌*◌, ◌<◌, ◌≤◌, List, ◌++◌, length, take, drop, Bool, true, false, cond, ◌&&◌, ◌||◌, not, eqb, leb, refl, sym, ◌∙◌, ap, arith}
use Rattle.std.proofs.lemmas.Bool.{cases_eq, cases_Bool, and_parts, and_left, and_right, not_from_true, eqb-true, leb-true, ne_eqb, lt-ltb, le-ltb}
use Rattle.sect_dev.specs.Device.{Image, Candidates, sector_count, part_of, IsPart}
use Rattle.page_model.specs.Bytes.{u32_at}
use Rattle.page_io.specs.Page.{page_at}
use Rattle.page_io.proofs.Overlays.{same_pages, same_file, IsApart, overlaid-over, overlaid-apart}
use Rattle.page_io.proofs.PageLaws.{same_page}
use Rattle.page_io.specs.Store.{Pages, Settled, file_of, nothing, pages_from, file_pages, overlaid, are_in_order, IsEither}
use Rattle.commit_log.specs.Homes.{IsOutsideAll}
use Rattle.commit_log.specs.Log.{Log, no_log, Slot, slot_of, carry, unstamped, logged, is_in_range, log_of, log_by, is_disordered, has_disordered, settled_newer, settled_logs, settled_at, ArePlaces, IsLogged, Spells}
use Rattle.commit_log.proofs.Outside.{outside-above, outside-apart}

-- one of the sectors that carry a number
pub carry_at : (slot : Slot) (number count k : ℕ) → carry slot number count ≡ true → k < count
    → u32_at (slot (1 + k)) 0 ≡ number
carry_at slot number zero k is lt = absurd (omega (arith, lt))
carry_at slot number (suc count) k is lt =
    let both = and_parts (eqb (u32_at (slot (1 + count)) 0) number) (carry slot number count) is in
    elim (cases_eq k count) [
      | inl same ↦ ap (λ (j : ℕ). u32_at (slot (1 + j)) 0) same
          ∙ eqb-true (u32_at (slot (1 + count)) 0) number both.0
      | inr other ↦ carry_at slot number count k both.1 (omega (arith, lt, other))
    ]

pub carry_same : (f g : Slot) (number count : ℕ) → ((k : ℕ) → k < count → f (1 + k) ≡ g (1 + k))
    → carry f number count ≡ carry g number count
carry_same f g number zero same = refl
carry_same f g number (suc count) same =
    ap (λ (s : List ℕ). eqb (u32_at s 0) number && carry f number count) (same count (omega arith))
    ∙ ap (λ (b : Bool). eqb (u32_at (g (1 + count)) 0) number && b)
    (carry_same f g number count (λ k lt. same k (omega (arith, lt))))

-- slots that agree as far as the first sector counts
module _ (f g : Slot) (first : f 0 ≡ g 0)
    (same : (k : ℕ) → k < 4 * u32_at (f 0) 4 → f (1 + k) ≡ g (1 + k)) where
  pub logged_same : logged f ≡ logged g
  logged_same =
      same_pages (page_at (unstamped f)) (page_at (unstamped g)) 0 (u32_at (f 0) 4)
      (λ n ge lt. same_page (unstamped f) (unstamped g) n
      (λ m ge4 lt4.
      ap (λ (s : List ℕ). take 4 (drop (16 + 4 * m) s) ++ drop 4 (f (1 + m))) first
      ∙ ap (λ (s : List ℕ). take 4 (drop (16 + 4 * m) (g 0)) ++ drop 4 s)
      (same m (omega (arith, lt, lt4)))))
      ∙ ap (λ (s : List ℕ). pages_from (page_at (unstamped g)) 0 (u32_at s 4)) first

  pub log_same : (start : ℕ) → log_by start f ≡ log_by start g
  unfolding log_by
  log_same start =
      ap (λ (b : Bool). log_of start (f 0) b (logged f))
      (carry_same f g (u32_at (f 0) 0) (4 * u32_at (f 0) 4) same)
      ∙ ap (λ (ps : Pages). log_of start (f 0)
      (carry g (u32_at (f 0) 0) (4 * u32_at (f 0) 4)) ps) logged_same
      ∙ ap (λ (s : List ℕ). log_of start s (carry g (u32_at s 0) (4 * u32_at s 4)) (logged g)) first

  pub disorder_same : (start : ℕ) → is_disordered start f ≡ is_disordered start g
  unfolding is_disordered
  disorder_same start =
      ap (λ (b : Bool). (is_in_range start (f 0) && b)
      && not (are_in_order 1 (u32_at (f 0) 8) (logged f)))
      (carry_same f g (u32_at (f 0) 0) (4 * u32_at (f 0) 4) same)
      ∙ ap (λ (ps : Pages). (is_in_range start (f 0)
      && carry g (u32_at (f 0) 0) (4 * u32_at (f 0) 4))
      && not (are_in_order 1 (u32_at (f 0) 8) ps)) logged_same
      ∙ ap (λ (s : List ℕ). (is_in_range start s && carry g (u32_at s 0) (4 * u32_at s 4))
      && not (are_in_order 1 (u32_at s 8) (logged g))) first

-- a slot all of whose sectors carry its number
pub record IsWhole (slot : Slot) : Type 0 where
  pub few : u32_at (slot 0) 4 ≤ 15
  pub all : carry slot (u32_at (slot 0) 0) (4 * u32_at (slot 0) 4) ≡ true

abbrev pub said : Slot → Log
said slot = record {
  number = u32_at (slot 0) 0;
  end = u32_at (slot 0) 8;
  pages = logged slot;
}

pub whole_or_not : (start : ℕ) (slot : Slot) → (log_by start slot ≡ no_log) ⊎ IsWhole slot
unfolding log_by
whole_or_not start slot =
    let first = slot 0 in
    let all = carry slot (u32_at first 0) (4 * u32_at first 4) in
    let order = are_in_order 1 (u32_at first 8) (logged slot) in
    elim (cases_Bool ((is_in_range start first && all) && order)) [
      | inl holds ↦
          let both = and_parts (is_in_range start first && all) order holds in
          let two = and_parts (is_in_range start first) all both.0 in
          let fields = and_parts _ _ two.0 in
          let counts = and_parts _ _ fields.0 in
          let count = and_parts _ _ counts.1 in
          inr (record { few = leb-true _ _ count.1; all = two.1 })
      | inr fails ↦ inl (ap (λ (b : Bool). cond b (said slot) no_log) fails)
    ]

pub whole_or_ordered : (start : ℕ) (slot : Slot)
    → (is_disordered start slot ≡ false) ⊎ IsWhole slot
unfolding is_disordered
whole_or_ordered start slot =
    let first = slot 0 in
    let all = carry slot (u32_at first 0) (4 * u32_at first 4) in
    elim (cases_Bool (is_in_range start first && all)) [
      | inl holds ↦
          let two = and_parts (is_in_range start first) all holds in
          let fields = and_parts _ _ two.0 in
          let counts = and_parts _ _ fields.0 in
          let count = and_parts _ _ counts.1 in
          inr (record { few = leb-true _ _ count.1; all = two.1 })
      | inr fails ↦ inl (and_left (is_in_range start first && all) _ fails)
    ]

-- a slot that says a commit is not disordered
pub ordered_if : (start : ℕ) (slot : Slot) → 1 ≤ (log_by start slot).number
    → is_disordered start slot ≡ false
unfolding log_by is_disordered
ordered_if start slot some =
    let first = slot 0 in
    let all = carry slot (u32_at first 0) (4 * u32_at first 4) in
    let order = are_in_order 1 (u32_at first 8) (logged slot) in
    elim (cases_Bool ((is_in_range start first && all) && order)) [
      | inl holds ↦
          let both = and_parts (is_in_range start first && all) order holds in
          and_right (is_in_range start first && all) (not order) (not_from_true order both.1)
      | inr fails ↦
          let none : (log_of start first all (logged slot)).number ≡ 0 =
          ap (λ (b : Bool). (cond b (said slot) no_log).number) fails in
          absurd (omega (arith, some, none))
    ]

-- nor is one whose first sector has number 0
pub ordered_none : (start : ℕ) (slot : Slot) → u32_at (slot 0) 0 ≡ 0
    → is_disordered start slot ≡ false
unfolding is_disordered
ordered_none start slot zero_is =
    let first = slot 0 in
    let all = carry slot (u32_at first 0) (4 * u32_at first 4) in
    let order = are_in_order 1 (u32_at first 8) (logged slot) in
    ap (λ (n : ℕ). (((leb 1 n && (leb 1 (u32_at first 4) && leb (u32_at first 4) 15))
    && (leb 4 (u32_at first 8) && leb (u32_at first 8) start)) && all) && not order) zero_is

-- the number of what a slot says is 0, or its first sector's
pub number_within : (start : ℕ) (slot : Slot) → (log_by start slot).number ≤ u32_at (slot 0) 0
unfolding log_by
number_within start slot =
    let first = slot 0 in
    let all = carry slot (u32_at first 0) (4 * u32_at first 4) in
    let order = are_in_order 1 (u32_at first 8) (logged slot) in
    elim (cases_Bool ((is_in_range start first && all) && order)) [
      | inl holds ↦
          let same : (log_of start first all (logged slot)).number ≡ u32_at first 0 =
          ap (λ (b : Bool). (cond b (said slot) no_log).number) holds in
          omega (arith, same)
      | inr fails ↦
          let same : (log_of start first all (logged slot)).number ≡ 0 =
          ap (λ (b : Bool). (cond b (said slot) no_log).number) fails in
          omega (arith, same)
    ]

-- a slot whose first sector has number 0 says none
pub log_none : (start : ℕ) (slot : Slot) → u32_at (slot 0) 0 ≡ 0 → log_by start slot ≡ no_log
unfolding log_by
log_none start slot zero_is =
    let first = slot 0 in
    let all = carry slot (u32_at first 0) (4 * u32_at first 4) in
    let order = are_in_order 1 (u32_at first 8) (logged slot) in
    ap (λ (n : ℕ). cond ((((leb 1 n && (leb 1 (u32_at first 4) && leb (u32_at first 4) 15))
    && (leb 4 (u32_at first 8) && leb (u32_at first 8) start)) && all) && order) (said slot) no_log)
    zero_is

-- A slot each of whose sectors is as it was, with a lower number, or one of a new commit, says what it
-- said, or the new commit, or none.
module _ (start number count : ℕ) (old new image : Slot)
    (either : (k : ℕ) → k < 61 → (image k ≡ old k) ⊎ ((k < 1 + 4 * count) × (image k ≡ new k)))
    (lower : (k : ℕ) → k < 61 → u32_at (old k) 0 < number)
    (stamped : (k : ℕ) → k < 1 + 4 * count → u32_at (new k) 0 ≡ number)
    (counted : u32_at (new 0) 4 ≡ count) where
  -- a whole one whose first sector is as it was
  all_old : IsWhole image → image 0 ≡ old 0 → (k : ℕ) → k < 4 * u32_at (image 0) 4
      → image (1 + k) ≡ old (1 + k)
  all_old whole first k lt = ⊎_elim (λ same. same)
      (λ is.
      let carried = carry_at image (u32_at (image 0) 0) (4 * u32_at (image 0) 4) k whole.all lt in
      let is_number = ap (λ (s : List ℕ). u32_at s 0) is.1 ∙ stamped (1 + k) is.0 in
      let was = ap (λ (s : List ℕ). u32_at s 0) first in
      absurd (omega (arith, carried, is_number, was, lower 0 (omega arith))))
      (either (1 + k) (omega (arith, lt, whole.few)))

  -- one whose first sector is new
  all_new : IsWhole image → image 0 ≡ new 0 → (k : ℕ) → k < 4 * u32_at (image 0) 4
      → image (1 + k) ≡ new (1 + k)
  all_new whole first k lt = ⊎_elim
      (λ same.
      let carried = carry_at image (u32_at (image 0) 0) (4 * u32_at (image 0) 4) k whole.all lt in
      let was = ap (λ (s : List ℕ). u32_at s 0) same in
      let is_number = ap (λ (s : List ℕ). u32_at s 0) first ∙ stamped 0 (omega arith) in
      absurd (omega (arith, carried, was, is_number, lower (1 + k) (omega (arith, lt, whole.few)))))
      (λ is. is.1)
      (either (1 + k) (omega (arith, lt, whole.few)))

  pub mixed : (log_by start image ≡ no_log)
      ⊎ ((log_by start image ≡ log_by start old) ⊎ (log_by start image ≡ log_by start new))
  mixed = elim (whole_or_not start image) [
    | inl none ↦ inl none
    | inr whole ↦ inr (⊎_elim (λ same. inl (log_same image old same (all_old whole same) start))
        (λ is. inr (log_same image new is.1 (all_new whole is.1) start)) (either 0 (omega arith)))
  ]

  -- and it is not disordered where neither the old one is nor the new
  pub mixed_ordered : is_disordered start old ≡ false → is_disordered start new ≡ false
      → is_disordered start image ≡ false
  mixed_ordered old_is new_is = elim (whole_or_ordered start image) [
    | inl is ↦ is
    | inr whole ↦ ⊎_elim
        (λ same. disorder_same image old same (all_old whole same) start ∙ old_is)
        (λ is. disorder_same image new is.1 (all_new whole is.1) start ∙ new_is)
        (either 0 (omega arith))
  ]

-- what two logs settle to, the older one first or second
module _ (older newer : Log) (home : ℕ → List ℕ) where
  abbrev pub over_both : Settled
  over_both = file_of (file_pages (overlaid newer.pages (overlaid older.pages home)) newer.end)

  newer_is : 1 ≤ newer.number → settled_newer older newer home ≡ over_both
  newer_is some = ap (λ (b : Bool). cond b nothing over_both)
      (ne_eqb newer.number 0 (λ is. omega (arith, some, is)))

  pub older_first : older.number ≤ newer.number → 1 ≤ newer.number
      → settled_logs older newer home ≡ over_both
  older_first le some =
      ap (λ (b : Bool). cond b (settled_newer newer older home) (settled_newer older newer home))
      (le-ltb newer.number older.number le) ∙ newer_is some

  pub newer_first : older.number < newer.number → 1 ≤ newer.number
      → settled_logs newer older home ≡ over_both
  newer_first less some =
      ap (λ (b : Bool). cond b (settled_newer older newer home) (settled_newer newer older home))
      (lt-ltb older.number newer.number less) ∙ newer_is some

-- the two orders of the slots
abbrev pub EitherPlace : ℕ → ℕ → ℕ → Type 0
EitherPlace start at beside =
    ((at ≡ 4 * start) × (beside ≡ 4 * start + 64)) ⊎ ((at ≡ 4 * start + 64) × (beside ≡ 4 * start))

pub either_place : (start at beside : ℕ) → ArePlaces start at beside → EitherPlace start at beside
either_place start at beside places =
    ⊎_elim (λ is. inl (is, places.first is)) (λ other. inr (places.second other))
    (cases_eq at (4 * start))

-- neither slot is disordered
neither_place : (image : Image) (start at beside : ℕ) → EitherPlace start at beside
    → is_disordered start (slot_of image at) ≡ false
    → is_disordered start (slot_of image beside) ≡ false → has_disordered image start ≡ false
neither_place image start at beside (inl p) ordered too =
    let by = λ (at : ℕ). is_disordered start (slot_of image at) in
    ap (λ (b : Bool). b || by (4 * start + 64)) (ap by (sym p.0) ∙ ordered)
    ∙ ap by (sym p.1) ∙ too
neither_place image start at beside (inr p) ordered too =
    let by = λ (at : ℕ). is_disordered start (slot_of image at) in
    ap (λ (b : Bool). b || by (4 * start + 64)) (ap by (sym p.1) ∙ too)
    ∙ ap by (sym p.0) ∙ ordered

-- what an image settles to by its two slots, where neither is disordered
by_either : (image : Image) (start at beside : ℕ) (older newer : Log) → EitherPlace start at beside
    → log_by start (slot_of image at) ≡ newer → log_by start (slot_of image beside) ≡ older
    → older.number < newer.number → 1 ≤ newer.number
    → settled_logs (log_by start (slot_of image (4 * start)))
    (log_by start (slot_of image (4 * start + 64))) (page_at image) ≡ file_of
    (file_pages (overlaid newer.pages (overlaid older.pages (page_at image))) newer.end)
by_either image start at beside older newer (inl p) newest other less some =
    let by = λ (at : ℕ). log_by start (slot_of image at) in
    let first : by (4 * start) ≡ newer = ap by (sym p.0) ∙ newest in
    let second : by (4 * start + 64) ≡ older = ap by (sym p.1) ∙ other in
    ap (λ (l : Log). settled_logs l (by (4 * start + 64)) (page_at image)) first
    ∙ ap (λ (l : Log). settled_logs newer l (page_at image)) second
    ∙ newer_first older newer (page_at image) less some
by_either image start at beside older newer (inr p) newest other less some =
    let by = λ (at : ℕ). log_by start (slot_of image at) in
    let first : by (4 * start) ≡ older = ap by (sym p.1) ∙ other in
    let second : by (4 * start + 64) ≡ newer = ap by (sym p.0) ∙ newest in
    ap (λ (l : Log). settled_logs l (by (4 * start + 64)) (page_at image)) first
    ∙ ap (λ (l : Log). settled_logs older l (page_at image)) second
    ∙ older_first older newer (page_at image) (omega (arith, less)) some

-- settled_at where no slot is disordered
pub settled_ordered : (image : Image) (start : ℕ) → has_disordered image start ≡ false
    → settled_at image start ≡ settled_logs (log_by start (slot_of image (4 * start)))
    (log_by start (slot_of image (4 * start + 64))) (page_at image)
settled_ordered image start none = ap (λ (b : Bool). cond b nothing
    (settled_logs (log_by start (slot_of image (4 * start)))
    (log_by start (slot_of image (4 * start + 64))) (page_at image))) none

pub by_slots : (image : Image) (start at beside : ℕ) (older newer : Log) → ArePlaces start at beside
    → log_by start (slot_of image at) ≡ newer → log_by start (slot_of image beside) ≡ older
    → is_disordered start (slot_of image beside) ≡ false → older.number < newer.number
    → 1 ≤ newer.number → settled_at image start ≡ file_of
    (file_pages (overlaid newer.pages (overlaid older.pages (page_at image))) newer.end)
by_slots image start at beside older newer places newest other ordered less some =
    let place = either_place start at beside places in
    let says : (log_by start (slot_of image at)).number ≡ newer.number =
    ap (λ (l : Log). l.number) newest in
    settled_ordered image start (neither_place image start at beside place
    (ordered_if start (slot_of image at) (omega (arith, says, some))) ordered)
    ∙ by_either image start at beside older newer place newest other less some

-- the slots in the other order
by_turned : (start at beside : ℕ) → EitherPlace start at beside → ArePlaces start beside at
by_turned start at beside (inl p) = record
    { first = λ is. absurd (omega (arith, p.1, is)); second = λ _. (p.1, p.0) }
by_turned start at beside (inr p) = record
    { first = λ _. p.0; second = λ other. absurd (other p.1) }

pub turned : (start at beside : ℕ) → ArePlaces start at beside → ArePlaces start beside at
turned start at beside places = by_turned start at beside (either_place start at beside places)

pub far_apart : (start at beside j k : ℕ) → ArePlaces start at beside → j < 61 → k < 61
    → at + k ≡ beside + j → {P : Type 0} → P
far_apart start at beside j k places jlt klt same = elim (either_place start at beside places) [
  | inl p ↦ absurd (omega (arith, p.0, p.1, jlt, klt, same))
  | inr p ↦ absurd (omega (arith, p.0, p.1, jlt, klt, same))
]

pub at_least : (start at beside : ℕ) → ArePlaces start at beside → 4 * start ≤ at
at_least start at beside places = elim (either_place start at beside places) [
  | inl p ↦ omega (arith, p.0)
  | inr p ↦ omega (arith, p.0)
]

-- where pages came to their own numbers, they stand over themselves
pub twice : (waiting : Pages) (f g : ℕ → List ℕ) (n : ℕ) → g n ≡ overlaid waiting f n
    → overlaid waiting g n ≡ g n
twice waiting f g n home =
    overlaid-over waiting f g n (λ apart. home ∙ overlaid-apart waiting f n apart) ∙ sym home

-- While a commit is logged beside another one, and the pages of that come home: each sector is as it
-- was, or one of the new log, or one of those pages.
module _ {candidate : Candidates} {seen : Image} {end start number at beside : ℕ} {waiting : Pages}
    (is : IsLogged end start number at beside waiting candidate seen) (pages : Pages)
    (new_end : ℕ) (bytes : List ℕ) (spelled : Spells start (number + 1) new_end pages bytes)
    (all_of : length bytes ≡ 512 * (1 + 4 * length pages)) (new : new_end ≤ start) where
  sectors : sector_count bytes ≡ 1 + 4 * length pages
  sectors = omega (arith, all_of)

  within : (k : ℕ) → k < sector_count bytes → k < 61
  within k lt = omega (arith, lt, sectors, spelled.few)

  low : 4 * start ≤ at
  low = at_least start at beside is.places

  low_beside : 4 * start ≤ beside
  low_beside = at_least start beside at (turned start at beside is.places)

  module _ (image : Image) (may : (m : ℕ) → IsOutsideAll waiting m
      → (image m ≡ seen m) ⊎ IsPart beside bytes m (image m)) where
    -- a sector behind the end, of the newest commit's slot
    same_newest : (k : ℕ) → k < 61 → image (at + k) ≡ seen (at + k)
    same_newest k lt = ⊎_elim (λ same. same)
        (λ part. far_apart start at beside part.k k is.places (within part.k part.within) lt
        part.place)
        (may (at + k) (outside-above 1 end waiting (at + k) is.in_order
        (omega (arith, low, is.above))))

    pub newest_stays : log_by start (slot_of image at)
        ≡ record { number = number; end = end; pages = waiting }
    newest_stays = elim (whole_or_not start (slot_of seen at)) [
      | inl none ↦
          let zero_is : number ≡ 0 = ap (λ (l : Log). l.number) (sym is.newest ∙ none) in
          absurd (omega (arith, zero_is, is.some))
      | inr whole ↦ sym (log_same (slot_of seen at) (slot_of image at)
          (sym (same_newest 0 (omega arith)))
          (λ k lt. sym (same_newest (1 + k) (omega (arith, lt, whole.few)))) start) ∙ is.newest
    ]

    either_beside : (k : ℕ) → k < 61 → (slot_of image beside k ≡ slot_of seen beside k)
        ⊎ ((k < 1 + 4 * length pages) × (slot_of image beside k ≡ part_of bytes k))
    either_beside k lt = ⊎_elim (λ same. inl same)
        (λ part.
        let same : part.k ≡ k = omega (arith, part.place) in
        inr (omega (arith, same, part.within, sectors), part.same ∙ ap (part_of bytes) same))
        (may (beside + k) (outside-above 1 end waiting (beside + k) is.in_order
        (omega (arith, low_beside, is.above))))

    -- a page in front of the log that doesn't wait
    same_home : (n : ℕ) → n < start → IsApart waiting n → page_at image n ≡ page_at seen n
    same_home n lt apart = same_page image seen n
        (λ m ge4 lt4. ⊎_elim (λ same. same)
        (λ part. absurd (omega (arith, part.place, low_beside, lt, lt4)))
        (may m (outside-apart waiting n m apart ge4 lt4)))

    over_home : (n : ℕ) → n < start
        → overlaid waiting (page_at image) n ≡ overlaid waiting (page_at seen) n
    over_home n lt = overlaid-over waiting (page_at seen) (page_at image) n (same_home n lt)

    -- the new commit is not disordered, nor what stands in its place meanwhile
    new_ordered : is_disordered start (part_of bytes) ≡ false
    new_ordered =
        let says : (log_by start (part_of bytes)).number ≡ number + 1 =
        ap (λ (l : Log). l.number) spelled.says in
        ordered_if start (part_of bytes) (omega (arith, says))

    beside_ordered : is_disordered start (slot_of image beside) ≡ false
    beside_ordered = mixed_ordered start (number + 1) (length pages) (slot_of seen beside)
        (part_of bytes) (slot_of image beside) either_beside
        (λ k lt. omega (arith, is.lower k lt)) spelled.stamped spelled.counted is.ordered
        new_ordered

    newest_ordered : is_disordered start (slot_of image at) ≡ false
    newest_ordered =
        let says : (log_by start (slot_of image at)).number ≡ number =
        ap (λ (l : Log). l.number) newest_stays in
        ordered_if start (slot_of image at) (omega (arith, says, is.some))

    pub next_settles : IsEither (file_pages (overlaid waiting (page_at seen)) end)
        (file_pages (overlaid pages (overlaid waiting (page_at seen))) new_end)
        (settled_at image start)
    next_settles =
        elim (mixed start (number + 1) (length pages) (slot_of seen beside) (part_of bytes)
        (slot_of image beside) either_beside (λ k lt. omega (arith, is.lower k lt))
        spelled.stamped spelled.counted) [
          | inl none ↦ inl (by_slots image start at beside no_log
              (record { number = number; end = end; pages = waiting }) is.places newest_stays none
              beside_ordered (omega (arith, is.some)) is.some
              ∙ ap file_of (same_file (overlaid waiting (page_at image))
              (overlaid waiting (page_at seen)) end
              (λ n ge lt. over_home n (omega (arith, lt, is.above)))))
          | inr (inl old) ↦
              let o = log_by start (slot_of seen beside) in
              inl (by_slots image start at beside o
              (record { number = number; end = end; pages = waiting }) is.places newest_stays old
              beside_ordered (omega (arith, number_within start (slot_of seen beside), is.lower 0 (omega arith)))
              is.some
              ∙ ap file_of (same_file (overlaid waiting (overlaid o.pages (page_at image)))
              (overlaid waiting (page_at seen)) end
              (λ n ge lt. overlaid-over waiting (overlaid o.pages (page_at seen))
              (overlaid o.pages (page_at image)) n
              (λ apart. overlaid-over o.pages (page_at seen) (page_at image) n
              (λ _. same_home n (omega (arith, lt, is.above)) apart)) ∙ is.said n)))
          | inr (inr now) ↦ inr (by_slots image start beside at
              (record { number = number; end = end; pages = waiting })
              (record { number = number + 1; end = new_end; pages = pages })
              (turned start at beside is.places) (now ∙ spelled.says) newest_stays
              newest_ordered (omega arith) (omega arith)
              ∙ ap file_of (same_file (overlaid pages (overlaid waiting (page_at image)))
              (overlaid pages (overlaid waiting (page_at seen))) new_end
              (λ n ge lt. overlaid-over pages (overlaid waiting (page_at seen))
              (overlaid waiting (page_at image)) n
              (λ _. over_home n (omega (arith, lt, new))))))
        ]

-- While pages of the newest commit come home, and nothing else is written.
module _ {candidate : Candidates} {seen : Image} {end start number at beside : ℕ} {waiting : Pages}
    (is : IsLogged end start number at beside waiting candidate seen) (image : Image)
    (may : (m : ℕ) → 0 < m → IsOutsideAll waiting m → image m ≡ seen m) where
  behind_stays : (m : ℕ) → 4 * start ≤ m → image m ≡ seen m
  behind_stays m le =
      may m (omega (arith, le, is.least, is.above))
      (outside-above 1 end waiting m is.in_order (omega (arith, le, is.above)))

  slot_stays : (from : ℕ) → 4 * start ≤ from
      → log_by start (slot_of image from) ≡ log_by start (slot_of seen from)
  slot_stays from le = log_same (slot_of image from) (slot_of seen from)
      (behind_stays (from + 0) (omega (arith, le)))
      (λ k lt. behind_stays (from + (1 + k)) (omega (arith, le))) start

  ordered_stays : is_disordered start (slot_of image beside) ≡ false
  ordered_stays =
      let low = at_least start beside at (turned start at beside is.places) in
      disorder_same (slot_of image beside) (slot_of seen beside)
      (behind_stays (beside + 0) (omega (arith, low)))
      (λ k lt. behind_stays (beside + (1 + k)) (omega (arith, low))) start ∙ is.ordered

  pub home_settles : settled_at image start
      ≡ file_of (file_pages (overlaid waiting (page_at seen)) end)
  home_settles =
      let o = log_by start (slot_of seen beside) in
      by_slots image start at beside o (record { number = number; end = end; pages = waiting })
      is.places (slot_stays at (at_least start at beside is.places) ∙ is.newest)
      (slot_stays beside (at_least start beside at (turned start at beside is.places)))
      ordered_stays (omega (arith, number_within start (slot_of seen beside), is.lower 0 (omega arith))) is.some
      ∙ ap file_of (same_file (overlaid waiting (overlaid o.pages (page_at image)))
      (overlaid waiting (page_at seen)) end
      (λ n ge lt. overlaid-over waiting (overlaid o.pages (page_at seen))
      (overlaid o.pages (page_at image)) n
      (λ apart. overlaid-over o.pages (page_at seen) (page_at image) n
      (λ _. same_page image seen n
      (λ m ge4 lt4. may m (omega (arith, ge, ge4))
      (outside-apart waiting n m apart ge4 lt4)))) ∙ is.said n))
