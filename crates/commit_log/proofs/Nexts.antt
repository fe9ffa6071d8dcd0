-- What a stop may leave while a commit follows a logged one, and what is left after it.
use Rattle.std.proofs.Common.{◌≡◌, ◌⊎◌, inl, inr, ⊎_elim, ℕ, ◌+◌, ◌-◌, ◌*◌, ◌<◌, ◌≤◌, List, length, true, false, sym, ◌∙◌, ap, arith}
use Rattle.std.proofs.lemmas.Bool.{cases_lt}
use Rattle.std.proofs.lemmas.List.{length-map}
use Rattle.sect_dev.specs.Device.{Image, Candidates, IsImageOf, IsStable, NoNewCandidate, with_run_candidates, Elapses, LeavesOnly, sector_count, part_of, IsOutsideRun, IsPart, IsRunWritten}
use Rattle.sect_dev.specs.Moments.{by_call, followed_by, goes_on}
use Rattle.sect_dev.specs.declared.device.SectorDev.{Ghosts}
use Rattle.page_model.specs.Bytes.{u32_at}
use Rattle.page_io.specs.Page.{page_at, KeepsWhere}
use Rattle.page_io.specs.Store.{Pages, file_pages, overlaid, are_in_order, has_page, bytes_of, IsEither}
use Rattle.page_io.specs.declared.page.Page.{Page}
use Rattle.page_io.proofs.Overlays.{overlaid-over, apart-has_page}
use Rattle.page_io.proofs.PageLaws.{same_page}
use Rattle.commit_log.specs.Homes.{IsOutsideAll}
use Rattle.commit_log.specs.Log.{Log, slot_of, log_by, settled_at, IsLogged, Spells}
use Rattle.commit_log.proofs.Outside.{outside-above, outside-below}
use Rattle.commit_log.proofs.Logs.{next_settles, newest_stays, either_place, log_same, turned, at_least, twice, ordered_if}

module _ {D : Type 0} (dev : Ghosts D) (first : D) {end start number at beside : ℕ}
    {waiting : Pages}
    (is : IsLogged end start number at beside waiting (dev.candidate first) (dev.seen first))
    (pages : Pages) (new_end : ℕ) (bytes : List ℕ)
    (spelled : Spells start (number + 1) new_end pages bytes)
    (all_of : length bytes ≡ 512 * (1 + 4 * length pages)) (new : new_end ≤ start) where
  -- the old pages or the new, under the same commit sector
  abbrev pub Leaves : Image → Type 0
  Leaves image = IsEither (file_pages (overlaid waiting (page_at (dev.seen first))) end)
      (file_pages (overlaid pages (overlaid waiting (page_at (dev.seen first)))) new_end)
      (settled_at image start) × (image 0 ≡ dev.seen first 0)

  sector_stays : (image : Image) → ((m : ℕ) → IsOutsideAll waiting m
      → (image m ≡ dev.seen first m) ⊎ IsPart beside bytes m (image m))
      → image 0 ≡ dev.seen first 0
  sector_stays image may = ⊎_elim (λ same. same)
      (λ part. absurd (omega (
        arith,
        part.place,
        is.least,
        is.above,
        at_least start beside at (turned start at beside is.places),
      )))
      (may 0 (outside-below 1 end waiting 0 is.in_order (omega arith)))

  leaves : (image : Image) → ((m : ℕ) → IsOutsideAll waiting m
      → (image m ≡ dev.seen first m) ⊎ IsPart beside bytes m (image m)) → Leaves image
  leaves image may =
      (next_settles is pages new_end bytes spelled all_of new image may, sector_stays image may)

  -- the log is written
  module _ (mid : D)
      (fewer : NoNewCandidate (with_run_candidates (dev.candidate first) beside bytes)
      (dev.candidate mid)) where
    may_be : (m : ℕ) (c : List ℕ) → dev.candidate mid m c
        → (c ≡ dev.seen first m) ⊎ IsPart beside bytes m c
    may_be m c may = ⊎_elim (λ old. inl (is.stable m c old)) (λ part. inr part) (fewer m c may)

    pub log_leaves : ((image : Image) → dev.left_since first (dev.moment first).at image
        → IsImageOf (dev.candidate first) image)
        → Elapses (dev.moment first) (dev.moment mid) (dev.left_since first) (dev.left_since mid)
        (IsImageOf (dev.candidate mid))
        → LeavesOnly dev.moment dev.left_since first mid Leaves
    log_leaves only_now time =
        by_call dev.moment dev.left_since first mid Leaves (IsImageOf (dev.candidate mid))
        (λ image left. leaves image
        (λ m out. inl (is.stable m (image m) (only_now image left m))))
        time (λ image now. leaves image (λ m out. may_be m (image m) (now m)))

    -- the pages come home
    pub homes_leave : (home : D) → LeavesOnly dev.moment dev.left_since first mid Leaves
        → LeavesOnly dev.moment dev.left_since mid home
        (KeepsWhere (dev.candidate mid) (IsOutsideAll waiting))
        → LeavesOnly dev.moment dev.left_since first home Leaves
    homes_leave home run homes =
        followed_by dev.moment dev.left_since first mid home Leaves _ run homes
        (λ image keeps. leaves image (λ m out. may_be m (image m) (keeps m out)))

    -- and a sync
    pub sync_leaves : (home after : D) → LeavesOnly dev.moment dev.left_since first home Leaves
        → ((m : ℕ) (c : List ℕ) → IsOutsideAll waiting m → dev.candidate home m c
        → dev.candidate mid m c)
        → NoNewCandidate (dev.candidate home) (dev.candidate after)
        → Elapses (dev.moment home) (dev.moment after) (dev.left_since home)
        (dev.left_since after) (IsImageOf (dev.candidate after))
        → LeavesOnly dev.moment dev.left_since first after Leaves
    sync_leaves home after run candidates none_new time =
        goes_on dev.moment dev.left_since first home after Leaves (IsImageOf (dev.candidate after))
        run time
        (λ image now. leaves image (λ m out. may_be m (image m)
        (candidates m (image m) out (none_new m (image m) (now m)))))

-- after the sync
module _ {candidate : Candidates} {seen : Image} {end start number at beside : ℕ} {waiting : Pages}
    (is : IsLogged end start number at beside waiting candidate seen) (pages : Pages)
    (new_end : ℕ) (bytes : List ℕ) (spelled : Spells start (number + 1) new_end pages bytes)
    (all_of : length bytes ≡ 512 * (1 + 4 * length pages)) (new : new_end ≤ start)
    (written home : Image) (run : IsRunWritten seen beside bytes written)
    (others : (m : ℕ) → IsOutsideAll waiting m → home m ≡ written m)
    (at_home : (n : ℕ) → has_page pages n ≡ false
    → page_at home n ≡ overlaid waiting (page_at written) n) where
  long : sector_count bytes ≡ 1 + 4 * length pages
  long = omega (arith, all_of)

  low : 4 * start ≤ at
  low = at_least start at beside is.places

  low_beside : 4 * start ≤ beside
  low_beside = at_least start beside at (turned start at beside is.places)

  -- behind the end only the log was written
  behind : (m : ℕ) → 4 * start ≤ m → home m ≡ written m
  behind m le = others m (outside-above 1 end waiting m is.in_order (omega (arith, le, is.above)))

  has_log : (k : ℕ) → k < 1 + 4 * length pages → home (beside + k) ≡ part_of bytes k
  has_log k lt = behind (beside + k) (omega (arith, low_beside)) ∙ run.inside k (omega (arith, lt, long))

  has_old : (k : ℕ) → 1 + 4 * length pages ≤ k → home (beside + k) ≡ seen (beside + k)
  has_old k ge = behind (beside + k) (omega (arith, low_beside))
      ∙ run.outside (beside + k) (inr (omega (arith, ge, long)))

  has_newest : (k : ℕ) → k < 61 → home (at + k) ≡ seen (at + k)
  has_newest k lt = behind (at + k) (omega (arith, low)) ∙ run.outside (at + k) apart
    where
      apart : IsOutsideRun beside (sector_count bytes) (at + k)
      apart = elim (either_place start at beside is.places) [
        | inl p ↦ inl (omega (arith, p.0, p.1, lt))
        | inr p ↦ inr (omega (arith, p.0, p.1, long, spelled.few))
      ]

  -- in front of the log the pages that waited stand over what was there, but for those that the
  -- commit has
  pub pages_now : (n : ℕ) → n < start → has_page pages n ≡ false
      → page_at home n ≡ overlaid waiting (page_at seen) n
  pages_now n lt none = at_home n none
      ∙ overlaid-over waiting (page_at seen) (page_at written) n (λ apart. same n lt)
    where
      same : (n : ℕ) → n < start → page_at written n ≡ page_at seen n
      same n lt = same_page written seen n
          (λ m ge4 lt4. run.outside m (inl (omega (arith, lt, lt4, low_beside))))

  pub sector_now : home 0 ≡ seen 0
  sector_now = others 0 (outside-below 1 end waiting 0 is.in_order (omega arith))
      ∙ run.outside 0 (inl (omega (arith, low_beside, is.least, is.above)))

  pub next_logged : (candidate_now : Candidates) → IsStable candidate_now home → 4 ≤ new_end
      → are_in_order 1 new_end pages ≡ true
      → IsLogged new_end start (number + 1) beside at pages candidate_now home
  next_logged candidate_now stable least order =
      let old : log_by start (slot_of home at)
      ≡ record { number = number; end = end; pages = waiting } =
      newest_stays is pages new_end bytes spelled all_of new home
      may in
      record {
        stable = stable;
        places = turned start at beside is.places;
        newest = sym (log_same (part_of bytes) (slot_of home beside)
            (sym (has_log 0 (omega arith)))
            (λ k lt. sym (has_log (1 + k) (omega (arith, lt, spelled.counted)))) start)
            ∙ spelled.says;
        some = omega arith;
        in_order = order;
        least = least;
        above = new;
        highest = λ k lt. elim (cases_lt k (1 + 4 * length pages)) [
          | inl less ↦
              let number_is = ap (λ (s : List ℕ). u32_at s 0) (has_log k less)
              ∙ spelled.stamped k less in
              omega (arith, number_is)
          | inr from ↦
              let number_is = ap (λ (s : List ℕ). u32_at s 0) (has_old k from) in
              omega (arith, number_is, is.lower k lt)
        ];
        lower = λ k lt.
            let number_is = ap (λ (s : List ℕ). u32_at s 0) (has_newest k lt) in
            omega (arith, number_is, is.highest k lt);
        ordered =
            let says : (log_by start (slot_of home at)).number ≡ number =
            ap (λ (l : Log). l.number) old in
            ordered_if start (slot_of home at) (omega (arith, says, is.some));
        said = λ n. overlaid-over pages (page_at home)
            (overlaid (log_by start (slot_of home at)).pages (page_at home)) n
            (λ apart. ap (λ (l : Log). overlaid l.pages (page_at home) n) old
            ∙ twice waiting (page_at written) (page_at home) n
            (at_home n (apart-has_page pages n apart)));
      }
    where
      may : (m : ℕ) → IsOutsideAll waiting m
          → (home m ≡ seen m) ⊎ IsPart beside bytes m (home m)
      may m out = elim (cases_lt m beside) [
        | inl below ↦ inl (others m out ∙ run.outside m (inl below))
        | inr from ↦ elim (cases_lt m (beside + sector_count bytes)) [
          | inl inside ↦
              let place : m ≡ beside + (m - beside) = omega (arith, from) in
              inr (record {
                k = m - beside;
                within = omega (arith, from, inside);
                place = place;
                same = others m out ∙ ap written place
                    ∙ run.inside (m - beside) (omega (arith, from, inside));
              })
          | inr above ↦ inl (others m out ∙ run.outside m (inr above))
        ]
      ]

-- the bytes of a log and no more
pub exact : (bytes : List ℕ) (pages : List Page) → length bytes ≡ 512 * (1 + 4 * length pages)
    → length bytes ≡ 512 * (1 + 4 * length (bytes_of pages))
exact bytes pages is = omega (arith, is, length-map pages (λ (p : Page). p.bytes))
