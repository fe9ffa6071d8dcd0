-- What a stop leaves while both logs are redone.
use Rattle.std.proofs.Common.{◌≡◌, inl, inr, ℕ, ◌+◌, ◌*◌, ◌<◌, ◌≤◌, List, Bool, true, cond, ◌&&◌, ◌||◌, eqb, leb, ltb, ◌∙◌, ap, subst, arith}
use Rattle.std.proofs.lemmas.Bool.{cases_Bool, and_parts, leb-true}
use Rattle.sect_dev.specs.Device.{Image, IsImageOf, IsStable, NoNewCandidate, Elapses, LeavesOnly}
use Rattle.sect_dev.specs.Moments.{followed_by, weaker, goes_on}
use Rattle.sect_dev.specs.declared.device.SectorDev.{Ghosts}
use Rattle.page_model.specs.Bytes.{u32_at}
use Rattle.page_io.specs.Page.{page_at, KeepsWhere}
use Rattle.page_io.specs.Store.{Pages, Settled, file_of, nothing, file_pages, overlaid, are_in_order}
use Rattle.page_io.proofs.Overlays.{same_file, IsApart, overlaid-over}
use Rattle.page_io.proofs.PageLaws.{same_page}
use Rattle.commit_log.specs.Homes.{IsOutsideAll}
use Rattle.commit_log.specs.Log.{Log, no_log, Slot, slot_of, carry, logged, is_in_range, log_of, log_by, is_disordered, has_disordered, settled_newer, settled_logs, settled_at}
use Rattle.commit_log.specs.Redoing.{AreLogs}
use Rattle.commit_log.proofs.Logs.{said, log_same, disorder_same, settled_ordered, older_first, newer_first}
use Rattle.commit_log.proofs.Outside.{outside-above, outside-apart, outside-below}

-- the pages that a slot says are in order, and in front of the log
pub record IsGood (start : ℕ) (log : Log) : Type 0 where
  pub in_order : are_in_order 1 log.end log.pages ≡ true
  pub above : log.end ≤ start
  pub least : 1 ≤ log.number → 4 ≤ log.end

pub good_log : (start : ℕ) (slot : Slot) → IsGood start (log_by start slot)
unfolding log_by
good_log start slot =
    let first = slot 0 in
    let all = carry slot (u32_at first 0) (4 * u32_at first 4) in
    let order = are_in_order 1 (u32_at first 8) (logged slot) in
    elim (cases_Bool ((is_in_range start first && all) && order)) [
      | inl holds ↦
          let is : log_of start first all (logged slot) ≡ said slot =
          ap (λ (b : Bool). cond b (said slot) no_log) holds in
          let both = and_parts (is_in_range start first && all) order holds in
          let two = and_parts (is_in_range start first) all both.0 in
          let fields = and_parts (leb 1 (u32_at first 0)
          && (leb 1 (u32_at first 4) && leb (u32_at first 4) 15))
          (leb 4 (u32_at first 8) && leb (u32_at first 8) start) two.0 in
          let ends = and_parts (leb 4 (u32_at first 8)) (leb (u32_at first 8) start) fields.1 in
          let high : u32_at first 8 ≤ start = leb-true (u32_at first 8) start ends.1 in
          record {
            in_order = ap (λ (l : Log). are_in_order 1 l.end l.pages) is ∙ both.1;
            above = omega (arith, high, ap (λ (l : Log). l.end) is);
            least = λ some. omega (
              arith,
              leb-true 4 (u32_at first 8) ends.0,
              ap (λ (l : Log). l.end) is,
            );
          }
      | inr fails ↦
          let is : log_of start first all (logged slot) ≡ no_log =
          ap (λ (b : Bool). cond b (said slot) no_log) fails in
          record {
            in_order = ap (λ (l : Log). are_in_order 1 l.end l.pages) is;
            above = omega (arith, ap (λ (l : Log). l.end) is);
            least = λ some. absurd (omega (arith, some, ap (λ (l : Log). l.number) is));
          }
    ]

-- pages at home that agree but for those that the logs have
module _ (start : ℕ) (f g : ℕ → List ℕ) where
  newer_same : (older newer : Log) → newer.end ≤ start
      → ((n : ℕ) → n < start → IsApart older.pages n → IsApart newer.pages n → g n ≡ f n)
      → settled_newer older newer g ≡ settled_newer older newer f
  newer_same older newer above same =
      ap (λ (s : Settled). cond (eqb newer.number 0) nothing s)
      (ap file_of (same_file (overlaid newer.pages (overlaid older.pages g))
      (overlaid newer.pages (overlaid older.pages f)) newer.end
      (λ n ge lt. overlaid-over newer.pages (overlaid older.pages f) (overlaid older.pages g) n
      (λ apart. overlaid-over older.pages f g n
      (λ too. same n (omega (arith, lt, above)) too apart)))))

  pub logs_same : (a b : Log) → a.end ≤ start → b.end ≤ start
      → ((n : ℕ) → n < start → IsApart a.pages n → IsApart b.pages n → g n ≡ f n)
      → settled_logs a b g ≡ settled_logs a b f
  logs_same a b above_a above_b same =
      ap (λ (s : Settled). cond (ltb b.number a.number) s (settled_newer a b g))
      (newer_same b a above_a (λ n lt apart_b apart_a. same n lt apart_a apart_b))
      ∙ ap (λ (s : Settled). cond (ltb b.number a.number) (settled_newer b a f) s)
      (newer_same a b above_b same)

-- the logs of both slots
abbrev pub first_log : Image → ℕ → Log
first_log image start = log_by start (slot_of image (4 * start))

abbrev pub second_log : Image → ℕ → Log
second_log image start = log_by start (slot_of image (4 * start + 64))

-- an image that differs in pages of the logs alone
module _ (seen image : Image) (start : ℕ)
    (may : (m : ℕ) → IsOutsideAll (first_log seen start).pages m
    → IsOutsideAll (second_log seen start).pages m → image m ≡ seen m) where
  good_first : IsGood start (first_log seen start)
  good_first = good_log start (slot_of seen (4 * start))

  good_second : IsGood start (second_log seen start)
  good_second = good_log start (slot_of seen (4 * start + 64))

  behind_stays : (m : ℕ) → 4 * start ≤ m → image m ≡ seen m
  behind_stays m le = may m
      (outside-above 1 (first_log seen start).end (first_log seen start).pages m
      good_first.in_order (omega (arith, le, good_first.above)))
      (outside-above 1 (second_log seen start).end (second_log seen start).pages m
      good_second.in_order (omega (arith, le, good_second.above)))

  log_stays : (from : ℕ) → 4 * start ≤ from
      → log_by start (slot_of image from) ≡ log_by start (slot_of seen from)
  log_stays from le = log_same (slot_of image from) (slot_of seen from)
      (behind_stays (from + 0) (omega (arith, le)))
      (λ k lt. behind_stays (from + (1 + k)) (omega (arith, le))) start

  disorder_stays : (from : ℕ) → 4 * start ≤ from
      → is_disordered start (slot_of image from) ≡ is_disordered start (slot_of seen from)
  disorder_stays from le = disorder_same (slot_of image from) (slot_of seen from)
      (behind_stays (from + 0) (omega (arith, le)))
      (λ k lt. behind_stays (from + (1 + k)) (omega (arith, le))) start

  same_disordered : has_disordered image start ≡ has_disordered seen start
  same_disordered =
      ap (λ (b : Bool). b || is_disordered start (slot_of image (4 * start + 64)))
      (disorder_stays (4 * start) (omega arith))
      ∙ ap (λ (b : Bool). is_disordered start (slot_of seen (4 * start)) || b)
      (disorder_stays (4 * start + 64) (omega arith))

  logs_settle : settled_logs (first_log image start) (second_log image start) (page_at image)
      ≡ settled_logs (first_log seen start) (second_log seen start) (page_at seen)
  logs_settle =
      ap (λ (l : Log). settled_logs l (second_log image start) (page_at image))
      (log_stays (4 * start) (omega arith))
      ∙ ap (λ (l : Log). settled_logs (first_log seen start) l (page_at image))
      (log_stays (4 * start + 64) (omega arith))
      ∙ logs_same start (page_at seen) (page_at image) (first_log seen start)
      (second_log seen start) good_first.above good_second.above
      (λ n lt apart_a apart_b. same_page image seen n
      (λ m ge4 lt4. may m
      (outside-apart (first_log seen start).pages n m apart_a ge4 lt4)
      (outside-apart (second_log seen start).pages n m apart_b ge4 lt4)))

  pub redoing_settles : settled_at image start ≡ settled_at seen start
  redoing_settles =
      ap (λ (b : Bool). cond b nothing
      (settled_logs (first_log image start) (second_log image start) (page_at image)))
      same_disordered
      ∙ ap (λ (s : Settled). cond (has_disordered seen start) nothing s) logs_settle

  pub sector_too : image 0 ≡ seen 0
  sector_too = may 0
      (outside-below 1 (first_log seen start).end (first_log seen start).pages 0
      good_first.in_order (omega arith))
      (outside-below 1 (second_log seen start).end (second_log seen start).pages 0
      good_second.in_order (omega arith))

-- what two logs say that were found
pub both_logs : {start end : ℕ} {older newer : Pages} {seen : Image}
    → AreLogs start end older newer seen → (m : ℕ)
    → IsOutsideAll (first_log seen start).pages m → IsOutsideAll (second_log seen start).pages m
    → IsOutsideAll older m × IsOutsideAll newer m
both_logs are m out_first out_second = elim are.slots [
  | inl p ↦ (
    subst (λ (ps : Pages). IsOutsideAll ps m) (ap (λ (l : Log). l.pages) p.0 ∙ are.older_is)
        out_first,
    subst (λ (ps : Pages). IsOutsideAll ps m) (ap (λ (l : Log). l.pages) p.1 ∙ are.newer_is)
        out_second,
  )
  | inr p ↦ (
    subst (λ (ps : Pages). IsOutsideAll ps m) (ap (λ (l : Log). l.pages) p.1 ∙ are.older_is)
        out_second,
    subst (λ (ps : Pages). IsOutsideAll ps m) (ap (λ (l : Log). l.pages) p.0 ∙ are.newer_is)
        out_first,
  )
]

-- and what the device settles to
pub settled_of : {start end : ℕ} {older newer : Pages} {seen : Image}
    → AreLogs start end older newer seen → settled_at seen start
    ≡ file_of (file_pages (overlaid newer (overlaid older (page_at seen))) end)
settled_of {start} {end} {older} {newer} {seen} are =
    by_order ∙ ap (λ (e : ℕ). file_of (file_pages (overlaid are.new.pages
    (overlaid are.old.pages (page_at seen))) e)) are.end_is
    ∙ ap (λ (ps : Pages). file_of (file_pages (overlaid ps
    (overlaid are.old.pages (page_at seen))) end)) are.newer_is
    ∙ ap (λ (ps : Pages). file_of (file_pages (overlaid newer (overlaid ps (page_at seen))) end))
    are.older_is
  where
    by_order : settled_at seen start ≡ file_of (file_pages (overlaid are.new.pages
        (overlaid are.old.pages (page_at seen))) are.new.end)
    by_order = settled_ordered seen start are.ordered ∙ elim are.slots [
      | inl p ↦
          ap (λ (l : Log). settled_logs l (second_log seen start) (page_at seen)) p.0
          ∙ ap (λ (l : Log). settled_logs are.old l (page_at seen)) p.1
          ∙ older_first are.old are.new (page_at seen) p.2 are.some
      | inr p ↦
          ap (λ (l : Log). settled_logs l (second_log seen start) (page_at seen)) p.0
          ∙ ap (λ (l : Log). settled_logs are.new l (page_at seen)) p.1
          ∙ newer_first are.old are.new (page_at seen) p.2 are.some
    ]

-- the pages of the one log come home, then those of the other, and a sync
module _ {D : Type 0} (dev : Ghosts D) (first one two after : D) (start : ℕ) (a b : Pages)
    (stable : IsStable (dev.candidate first) (dev.seen first))
    (both : (m : ℕ) → IsOutsideAll (first_log (dev.seen first) start).pages m
    → IsOutsideAll (second_log (dev.seen first) start).pages m
    → IsOutsideAll a m × IsOutsideAll b m) where
  abbrev pub Same : Image → Type 0
  Same image = (settled_at image start ≡ settled_at (dev.seen first) start)
      × (image 0 ≡ dev.seen first 0)

  pub same_if : (image : Image) → ((m : ℕ) → IsOutsideAll a m → IsOutsideAll b m
      → image m ≡ dev.seen first m) → Same image
  same_if image is =
      let may = λ (m : ℕ) (x : IsOutsideAll (first_log (dev.seen first) start).pages m)
      (y : IsOutsideAll (second_log (dev.seen first) start).pages m).
      is m (both m x y).0 (both m x y).1 in
      (redoing_settles (dev.seen first) image start may, sector_too (dev.seen first) image start may)

  module _ (homes_a : LeavesOnly dev.moment dev.left_since first one
      (KeepsWhere (dev.candidate first) (IsOutsideAll a)))
      (fewer_a : (m : ℕ) (c : List ℕ) → IsOutsideAll a m → dev.candidate one m c
      → dev.candidate first m c) where
    pub one_redone : LeavesOnly dev.moment dev.left_since first one Same
    one_redone = weaker dev.moment dev.left_since first one Same _ homes_a
        (λ image keeps. same_if image (λ m out_a out_b. stable m (image m) (keeps m out_a)))

    module _ (homes_b : LeavesOnly dev.moment dev.left_since one two
        (KeepsWhere (dev.candidate one) (IsOutsideAll b)))
        (fewer_b : (m : ℕ) (c : List ℕ) → IsOutsideAll b m → dev.candidate two m c
        → dev.candidate one m c) where
      pub two_redone : LeavesOnly dev.moment dev.left_since first two Same
      two_redone = followed_by dev.moment dev.left_since first one two Same _ one_redone homes_b
          (λ image keeps. same_if image
          (λ m out_a out_b. stable m (image m) (fewer_a m (image m) out_a (keeps m out_b))))

      pub redone : NoNewCandidate (dev.candidate two) (dev.candidate after)
          → Elapses (dev.moment two) (dev.moment after) (dev.left_since two)
          (dev.left_since after) (IsImageOf (dev.candidate after))
          → LeavesOnly dev.moment dev.left_since first after Same
      redone none_new time =
          goes_on dev.moment dev.left_since first two after Same (IsImageOf (dev.candidate after))
          two_redone time
          (λ image now. same_if image
          (λ m out_a out_b. stable m (image m) (fewer_a m (image m) out_a
          (fewer_b m (image m) out_b (none_new m (image m) (now m))))))
