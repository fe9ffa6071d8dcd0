use Rattle.std.proofs.Common.{◌≡◌, ◌/◌, ℕ, ◌∙◌, sym, ap}
use Rattle.std.proofs.lemmas.Bool.{false≢true}
use Rattle.sect_dev.specs.Device.{Image}
use Rattle.page_io.specs.Page.{page_at}
use Rattle.page_io.specs.Store.{are_in_order, pages_from}
use Rattle.page_io.specs.Counts.{length-pages_from}
use Rattle.redo_area.specs.Header.{header_of}
use Rattle.redo_area.specs.declared.header.Header.TheVariants.{Armed}
use Rattle.redo_area.specs.File.{redo_images}
use Rattle.redo_area.proofs.Images.{settled-disordered}
use Rattle.redo_area.proofs.Recoveries.{check_leaves, copy_leaves}
use Rattle.redo_area.proofs.recovery.end_armed.Goals as goal

pub returns-in_err-sound-clause-any_moment : goal.returns-in_err-sound-clause-any_moment
returns-in_err-sound-clause-any_moment g c honest =
    check_leaves g.D.SectorDev c.args.dev.now c.check_images.new.dev (c.requires.stable honest)
    (c.check_images.ensures.any_moment honest)

pub returns-then-not-sound-clause-any_moment : goal.returns-then-not-sound-clause-any_moment
returns-then-not-sound-clause-any_moment g c honest =
    check_leaves g.D.SectorDev c.args.dev.now c.check_images.new.dev (c.requires.stable honest)
    (c.check_images.ensures.any_moment honest)

pub returns-in_err-good-clause-any_moment : goal.returns-in_err-good-clause-any_moment
returns-in_err-good-clause-any_moment g c honest =
    let checked = c.check_images.ensures in
    copy_leaves g.D.SectorDev c.args.dev.now c.check_images.new.dev (c.requires.stable honest)
    c.args.end c.args.start c.args.count (c.requires.header honest)
    (sym (c.in_ok-sound.ensures.checked honest) ∙ c.if-not-sound.false) checked.device.size
    (checked.seen honest) c.replay.new.dev (checked.any_moment honest)
    (c.replay.ensures.any_moment (checked.device.honesty.1 honest))

pub returns-clause-any_moment : goal.returns-clause-any_moment
returns-clause-any_moment g c honest =
    let checked = c.check_images.ensures in
    copy_leaves g.D.SectorDev c.args.dev.now c.check_images.new.dev (c.requires.stable honest)
    c.args.end c.args.start c.args.count (c.requires.header honest)
    (sym (c.in_ok-sound.ensures.checked honest) ∙ c.if-not-sound.false) checked.device.size
    (checked.seen honest) c.replay.new.dev (checked.any_moment honest)
    (c.replay.ensures.any_moment (checked.device.honesty.1 honest))

pub replay-requires-clause-armed : goal.replay-requires-clause-armed
replay-requires-clause-armed g c still =
    let honest = c.check_images.ensures.device.honesty.0 still in
    let dev = g.D.SectorDev in
    let first = c.args.dev.now in
    let mid = c.check_images.new.dev in
    let start = c.args.start in
    let count = c.args.count in
    let end = c.args.end in
    let seen_same = c.check_images.ensures.seen honest in
    let same_cap : dev.sectors mid / 4 ≡ dev.sectors first / 4 =
    ap (λ (s : ℕ). s / 4) c.check_images.ensures.device.size in
    let long = length-pages_from (page_at (dev.seen mid)) start count in
    let order = sym (c.in_ok-sound.ensures.checked honest) ∙ c.if-not-sound.false in
    record {
      stable = λ m x may. c.requires.stable honest m x
          (c.check_images.ensures.candidates honest m x may)
          ∙ sym (ap (λ (s : Image). s m) seen_same);
      header = ap (λ (s : Image). header_of (dev.sectors mid / 4) (s 0)) seen_same
          ∙ ap (λ (k : ℕ). header_of k (dev.seen first 0)) same_cap ∙ c.requires.header honest
          ∙ ap (Armed end start) (sym long);
      images = ap (pages_from (page_at (dev.seen mid)) start) long;
      in_order = ap (λ (s : Image). are_in_order 1 end (redo_images s start count))
          seen_same ∙ order;
    }

pub returns-then-not-sound-clause-refused : goal.returns-then-not-sound-clause-refused
returns-then-not-sound-clause-refused g c honest is =
    let dev = g.D.SectorDev in
    let first = c.args.dev.now in
    let seen_same = c.check_images.ensures.seen honest in
    let order = sym (c.in_ok-sound.ensures.checked honest) ∙ c.if-not-sound.true in (
      λ m x may. c.requires.stable honest m x (c.check_images.ensures.candidates honest m x may)
          ∙ sym (ap (λ (s : Image). s m) seen_same),
      seen_same,
      settled-disordered (dev.sectors first / 4) (dev.seen first) c.args.end c.args.start
          c.args.count (c.requires.header honest) order,
    )

pub returns-clause-refused : goal.returns-clause-refused
returns-clause-refused g c honest is =
    absurd (false≢true (sym is ∙ c.in_ok-good.ensures.good
    (c.check_images.ensures.device.honesty.1 honest)))
