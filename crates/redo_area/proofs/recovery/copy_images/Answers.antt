use Rattle.std.proofs.Common.{◌≡◌, ◌<◌, ◌≤◌, ◌+◌, ℕ, List, [], get_or, ◌∷◌, ◌++◌, length, true, refl, ◌∙◌, sym, ap, subst, arith}
use Rattle.sect_dev.specs.Device.{Image}
use Rattle.sect_dev.specs.declared.device.SectorDev.{Ghosts}
use Rattle.page_io.specs.Page.{page_at, own_number, IsOutsidePage}
use Rattle.page_io.proofs.PageLaws.{same_page}
use Rattle.page_io.specs.Store.{Pages, pages_from, overlaid, are_in_order}
use Rattle.page_io.proofs.Overlays.{overlaid-push, pages_more, get_or-pages_from}
use Rattle.page_io.specs.Counts.{length-pages_from}
use Rattle.page_io.proofs.StagedPages.{in_range}
use Rattle.redo_area.specs.File.{redo_images, IsOutsideAll}
use Rattle.commit_log.proofs.Outside.{outside_at, outside-above}
use Rattle.commit_log.proofs.WriteRuns.{Keeps, none_written, keeps_on, home_more}
use Rattle.commit_log.proofs.ReadRuns.{read_on}
use Rattle.redo_area.proofs.recovery.copy_images.Goals as goal
use Rattle.redo_area.proofs.recovery.copy_images.Goals.{then-own-lt1-via-then-own-lt1, then-own-lt1-via-else-own-lt1+then-end-own}

-- an image that was read once those before it are copied home
module _ {D : Type 0} (dev : Ghosts D) (first before : D) (start count end i : ℕ) (bytes : List ℕ)
    (above : end ≤ start) (lt : i < count)
    (order : dev.honest first → are_in_order 1 end (redo_images (dev.seen first) start count)
    ≡ true) (keeps : Keeps dev (IsOutsideAll (redo_images (dev.seen first) start count))
    first before)
    (read : dev.honest before → bytes ≡ page_at (dev.seen before) (start + i)) where
  -- it is as it was at the start
  as_first : dev.honest first → bytes ≡ page_at (dev.seen first) (start + i)
  as_first h =
      read (keeps.honesty.1 h) ∙ same_page (dev.seen before) (dev.seen first) (start + i)
      (λ m ge less. keeps.others h m
      (outside-above 1 end (redo_images (dev.seen first) start count) m (order h)
      (omega (arith, ge, above))))

  inside : i < length (redo_images (dev.seen first) start count)
  inside = omega (arith, length-pages_from (page_at (dev.seen first)) start count, lt)

  number : dev.honest first → own_number (get_or (redo_images (dev.seen first) start count) i [])
      ≡ own_number bytes
  number h = ap own_number (get_or-pages_from (page_at (dev.seen first)) start count i lt
      ∙ sym (as_first h))

  within : dev.honest first → (1 ≤ own_number bytes) × (own_number bytes < end)
  within h =
      let range = in_range 1 end (redo_images (dev.seen first) start count) i (order h) inside in
      (omega (arith, range.0, number h), omega (arith, range.1, number h))

  -- and is written to its own number
  copied_home : (mid after : D) (own : ℕ) → own ≡ own_number bytes
      → Keeps dev (IsOutsideAll (redo_images (dev.seen first) start count)) first mid
      → Keeps dev (IsOutsidePage own) mid after
      → Keeps dev (IsOutsideAll (redo_images (dev.seen first) start count)) first after
  copied_home mid after own owns seen written =
      let Kept = IsOutsideAll (redo_images (dev.seen first) start count) in
      keeps_on dev Kept (IsOutsidePage own) first mid after seen written
      (λ h m out. subst (λ (k : ℕ). IsOutsidePage k m) (number h ∙ sym owns)
      (outside_at (redo_images (dev.seen first) start count) m i out inside))

pub loop-i-init : goal.loop-i-init
loop-i-init g c =
    let first = c.args.dev.now in
    let redo = redo_images (g.D.SectorDev.seen first) c.args.start c.args.count in
    record {
      keeps = none_written g.D.SectorDev (IsOutsideAll redo) first
          (g.met.D.SectorDev.only_now first);
      written = λ h n. refl;
    }

pub returns-then-own-lt1-clause-good : goal.returns-then-own-lt1-clause-good
returns-then-own-lt1-clause-good g c h =
    let range = within g.D.SectorDev c.args.dev.now c.loop-i.dev c.args.start c.args.count
    c.args.end c.loop-i.i c.read_page.new.page.bytes c.requires.above c.loop-i-test.true
    c.requires.in_order c.loop-i.invariant.keeps c.in_ok-read_page.ensures.read h in
    elim c.then-own-lt1.branch [
      | then-own-lt1-via-then-own-lt1 w ↦
          absurd (omega (arith, c.own-own.ensures.number, range.0, w.if-own-lt1.true))
      | then-own-lt1-via-else-own-lt1+then-end-own w ↦
          absurd (omega (arith, c.own-own.ensures.number, range.1, w.if-end-own.true))
    ]

pub returns-then-own-lt1-clause-written : goal.returns-then-own-lt1-clause-written
returns-then-own-lt1-clause-written g c h =
    let range = within g.D.SectorDev c.args.dev.now c.loop-i.dev c.args.start c.args.count
    c.args.end c.loop-i.i c.read_page.new.page.bytes c.requires.above c.loop-i-test.true
    c.requires.in_order c.loop-i.invariant.keeps c.in_ok-read_page.ensures.read h in
    elim c.then-own-lt1.branch [
      | then-own-lt1-via-then-own-lt1 w ↦
          absurd (omega (arith, c.own-own.ensures.number, range.0, w.if-own-lt1.true))
      | then-own-lt1-via-else-own-lt1+then-end-own w ↦
          absurd (omega (arith, c.own-own.ensures.number, range.1, w.if-end-own.true))
    ]

pub returns-in_err-read_page-clause-any_moment : goal.returns-in_err-read_page-clause-any_moment
returns-in_err-read_page-clause-any_moment g c =
    let r = c.read_page.ensures in
    (read_on g.D.SectorDev c.read_page.new.dev c.loop-i.invariant.keeps r.device.size
    r.device.honesty r.device.cause.later r.any_moment r.candidates r.seen).any_moment

pub returns-in_err-read_page-clause-candidates : goal.returns-in_err-read_page-clause-candidates
returns-in_err-read_page-clause-candidates g c =
    let r = c.read_page.ensures in
    (read_on g.D.SectorDev c.read_page.new.dev c.loop-i.invariant.keeps r.device.size
    r.device.honesty r.device.cause.later r.any_moment r.candidates r.seen).candidates

pub returns-then-own-lt1-clause-any_moment : goal.returns-then-own-lt1-clause-any_moment
returns-then-own-lt1-clause-any_moment g c =
    let r = c.read_page.ensures in
    (read_on g.D.SectorDev c.read_page.new.dev c.loop-i.invariant.keeps r.device.size
    r.device.honesty r.device.cause.later r.any_moment r.candidates r.seen).any_moment

pub returns-then-own-lt1-clause-candidates : goal.returns-then-own-lt1-clause-candidates
returns-then-own-lt1-clause-candidates g c =
    let r = c.read_page.ensures in
    (read_on g.D.SectorDev c.read_page.new.dev c.loop-i.invariant.keeps r.device.size
    r.device.honesty r.device.cause.later r.any_moment r.candidates r.seen).candidates

pub returns-then-own-lt1-clause-others : goal.returns-then-own-lt1-clause-others
returns-then-own-lt1-clause-others g c =
    let r = c.read_page.ensures in
    (read_on g.D.SectorDev c.read_page.new.dev c.loop-i.invariant.keeps r.device.size
    r.device.honesty r.device.cause.later r.any_moment r.candidates r.seen).others

pub returns-in_err-write_page-clause-any_moment : goal.returns-in_err-write_page-clause-any_moment
returns-in_err-write_page-clause-any_moment g c =
    let r = c.read_page.ensures in
    let w = c.write_page.ensures in
    (copied_home g.D.SectorDev c.args.dev.now c.loop-i.dev c.args.start c.args.count c.args.end
    c.loop-i.i c.read_page.new.page.bytes c.requires.above c.loop-i-test.true
    c.requires.in_order c.loop-i.invariant.keeps c.in_ok-read_page.ensures.read
    c.read_page.new.dev c.write_page.new.dev c.own-own.result c.own-own.ensures.number
    (read_on g.D.SectorDev c.read_page.new.dev c.loop-i.invariant.keeps r.device.size
    r.device.honesty r.device.cause.later r.any_moment r.candidates r.seen)
    (record {
      size = w.device.size;
      honesty = w.device.honesty;
      faults = w.device.cause.later;
      any_moment = w.any_moment;
      candidates = w.candidates;
      others = w.others;
    })).any_moment

pub returns-in_err-write_page-clause-candidates : goal.returns-in_err-write_page-clause-candidates
returns-in_err-write_page-clause-candidates g c =
    let r = c.read_page.ensures in
    let w = c.write_page.ensures in
    (copied_home g.D.SectorDev c.args.dev.now c.loop-i.dev c.args.start c.args.count c.args.end
    c.loop-i.i c.read_page.new.page.bytes c.requires.above c.loop-i-test.true
    c.requires.in_order c.loop-i.invariant.keeps c.in_ok-read_page.ensures.read
    c.read_page.new.dev c.write_page.new.dev c.own-own.result c.own-own.ensures.number
    (read_on g.D.SectorDev c.read_page.new.dev c.loop-i.invariant.keeps r.device.size
    r.device.honesty r.device.cause.later r.any_moment r.candidates r.seen)
    (record {
      size = w.device.size;
      honesty = w.device.honesty;
      faults = w.device.cause.later;
      any_moment = w.any_moment;
      candidates = w.candidates;
      others = w.others;
    })).candidates

pub loop-i-preserved : goal.loop-i-preserved
loop-i-preserved g c =
    let dev = g.D.SectorDev in
    let inv = c.loop-i.invariant in
    let r = c.read_page.ensures in
    let w = c.write_page.ensures in
    record {
      keeps = copied_home g.D.SectorDev c.args.dev.now c.loop-i.dev c.args.start c.args.count
          c.args.end c.loop-i.i c.read_page.new.page.bytes c.requires.above c.loop-i-test.true
          c.requires.in_order c.loop-i.invariant.keeps c.in_ok-read_page.ensures.read
          c.read_page.new.dev c.write_page.new.dev c.own-own.result c.own-own.ensures.number
          (read_on g.D.SectorDev c.read_page.new.dev c.loop-i.invariant.keeps r.device.size
          r.device.honesty r.device.cause.later r.any_moment r.candidates r.seen)
          (record {
            size = w.device.size;
            honesty = w.device.honesty;
            faults = w.device.cause.later;
            any_moment =
                w.any_moment;
            candidates = w.candidates;
            others = w.others;
          });
      written = λ h n.
          let home = page_at (dev.seen c.args.dev.now) in
          let so_far = pages_from home c.args.start c.loop-i.i in
          let page = c.read_page.new.page.bytes in
          let h1 = inv.keeps.honesty.1 h in
          let h2 = r.device.honesty.1 h1 in
          let bytes = as_first g.D.SectorDev c.args.dev.now c.loop-i.dev c.args.start c.args.count
          c.args.end c.loop-i.i c.read_page.new.page.bytes c.requires.above c.loop-i-test.true
          c.requires.in_order c.loop-i.invariant.keeps c.in_ok-read_page.ensures.read h in
          home_more (dev.seen c.read_page.new.dev) (dev.seen c.write_page.new.dev)
          (overlaid so_far home) page c.own-own.result c.own-own.ensures.number
          (c.in_ok-write_page.ensures.written h2)
          (w.others h2) n (ap (λ (s : Image). page_at s n) (r.seen h1) ∙ inv.written h n)
          ∙ sym (ap (λ (ps : Pages). overlaid ps home n)
          (pages_more home c.args.start c.loop-i.i
          ∙ ap (λ (p : List ℕ). so_far ++ p ∷ []) (sym bytes))
          ∙ ap (λ (f : ℕ → List ℕ). f n) (overlaid-push so_far home page));
    }
