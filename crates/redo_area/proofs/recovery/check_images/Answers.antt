use Rattle.std.proofs.Common.{◌≡◌, ◌<◌, ◌≤◌, ◌⊎◌, inl, inr, ◌+◌, ◌-◌, ℕ, ◌∙◌, sym, ap, arith}
use Rattle.std.proofs.lemmas.Result.{IfOk-from_err}
use Rattle.sect_dev.specs.Device.{Image, IsImageOf}
use Rattle.sect_dev.specs.Moments.{followed_by}
use Rattle.page_io.specs.Page.{page_at, own_number}
use Rattle.page_io.specs.Store.{pages_from, are_in_order}
use Rattle.page_io.proofs.Exits.{later_then, both_ways}
use Rattle.commit_log.proofs.Orders.{not_in_order, one_in_order, none_left}
use Rattle.redo_area.proofs.Results.{cause_after, cause_ok}
use Rattle.redo_area.proofs.recovery.check_images.Goals as goal
use Rattle.redo_area.proofs.recovery.check_images.Goals.{then-own-least-via-then-own-least, then-own-least-via-else-own-least+then-from-own}

-- a page is not read
pub returns-in_err-read_page : goal.returns-in_err-read_page
returns-in_err-read_page g c =
    let dev = g.D.SectorDev in
    let first = c.args.dev.now in
    let before = c.loop-i.dev in
    let after = c.read_page.new.dev in
    let inv = c.loop-i.invariant in
    let page = c.read_page.ensures in
    let result = c.from_residual in
    record {
      checked = λ h. IfOk-from_err _ _ result.ensures.0;
      seen = λ h. page.seen (inv.honesty.1 h) ∙ inv.seen h;
      candidates = λ h m x may. inv.candidates h m x (page.candidates (inv.honesty.1 h) m x may);
      any_moment = λ h. followed_by dev.moment dev.left_since first before after
          (IsImageOf (dev.candidate first)) (IsImageOf (dev.candidate before))
          (inv.moments h) (page.any_moment (inv.honesty.1 h))
          (λ image is m. inv.candidates h m (image m) (is m));
      device = record {
        honesty = both_ways page.device.honesty inv.honesty;
        cause = cause_after _ c.in_err-read_page.field-0.0 _ _ _ inv.faults
            c.in_err-read_page.ensures.device.cause;
        size = page.device.size ∙ inv.size;
      };
    }

-- its number is out of range
pub returns-then-own-least : goal.returns-then-own-least
returns-then-own-least g c =
    let dev = g.D.SectorDev in
    let first = c.args.dev.now in
    let before = c.loop-i.dev in
    let after = c.read_page.new.dev in
    let inv = c.loop-i.invariant in
    let page = c.read_page.ensures in
    record {
      checked = λ h.
          let at = page_at (dev.seen first) in
          let bytes = c.in_ok-read_page.ensures.read (inv.honesty.1 h) ∙ ap
          (λ (s : Image). page_at s (c.args.start + c.loop-i.i)) (inv.seen h) in
          let out : (c.from-own.result < c.loop-i.least) ⊎ (c.args.end ≤ c.from-own.result) =
          elim c.then-own-least.branch
          as (λ x. (c.from-own.result < c.loop-i.least) ⊎ (c.args.end ≤ c.from-own.result)) [
            | then-own-least-via-then-own-least w ↦ inl w.if-own-least.true
            | then-own-least-via-else-own-least+then-from-own w ↦ inr
                (omega (arith, w.if-from-own.true, w.from.ensures))
          ] in
          sym (inv.checked h ∙ not_in_order at c.args.start c.args.count c.args.end c.loop-i.i
          c.loop-i.least c.from-own.result
          c.loop-i-test.true (c.from-own.ensures ∙ c.own.ensures.number ∙ ap own_number bytes) out);
      seen = λ h. page.seen (inv.honesty.1 h) ∙ inv.seen h;
      candidates = λ h m x may. inv.candidates h m x (page.candidates (inv.honesty.1 h) m x may);
      any_moment = λ h. followed_by dev.moment dev.left_since first before after
          (IsImageOf (dev.candidate first)) (IsImageOf (dev.candidate before))
          (inv.moments h) (page.any_moment (inv.honesty.1 h))
          (λ image is m. inv.candidates h m (image m) (is m));
      device = record {
        honesty = both_ways page.device.honesty inv.honesty;
        cause = cause_ok _ _ _ (later_then _ _ _ inv.faults page.device.cause.later);
        size = page.device.size ∙ inv.size;
      };
    }

-- all are in order
pub returns : goal.returns
returns g c =
    let inv = c.loop-i.invariant in
    record {
      checked = λ h.
          let at = page_at (g.D.SectorDev.seen c.args.dev.now) in
          let none : c.args.count - c.loop-i.i ≡ 0 = none_left _ _ c.loop-i-test.false in
          sym (inv.checked h ∙ ap (λ (k : ℕ). are_in_order c.loop-i.least c.args.end
          (pages_from at (c.args.start + c.loop-i.i) k)) none);
      seen = inv.seen;
      candidates = inv.candidates;
      any_moment = inv.moments;
      device = record {
        honesty = inv.honesty;
        cause = cause_ok _ _ _ inv.faults;
        size = inv.size;
      };
    }

pub loop-i-preserved : goal.loop-i-preserved
loop-i-preserved g c =
    let dev = g.D.SectorDev in
    let first = c.args.dev.now in
    let before = c.loop-i.dev in
    let after = c.read_page.new.dev in
    let at = page_at (dev.seen first) in
    let inv = c.loop-i.invariant in
    let h1 = inv.honesty.1 in
    record {
      size = c.read_page.ensures.device.size ∙ inv.size;
      small = omega arith;
      honesty = both_ways c.read_page.ensures.device.honesty inv.honesty;
      faults = omega (arith, c.read_page.ensures.device.cause.later, inv.faults);
      seen = λ h. c.read_page.ensures.seen (h1 h) ∙ inv.seen h;
      candidates = λ h m x may. inv.candidates h m x
          (c.read_page.ensures.candidates (h1 h) m x may);
      moments = λ h. followed_by dev.moment dev.left_since first before after
          (IsImageOf (dev.candidate first)) (IsImageOf (dev.candidate before)) (inv.moments h)
          (c.read_page.ensures.any_moment (h1 h))
          (λ image is m. inv.candidates h m (image m) (is m));
      checked = λ h.
          let bytes = c.in_ok-read_page.ensures.read (h1 h)
          ∙ ap (λ (s : Image). page_at s (c.args.start + c.loop-i.i)) (inv.seen h) in
          inv.checked h ∙ one_in_order at c.args.start c.args.count c.args.end c.loop-i.i
          c.loop-i.least c.from-own.result c.loop-i-test.true
          (c.from-own.ensures ∙ c.own.ensures.number ∙ ap own_number bytes)
          (omega (arith, c.if-own-least.false))
          (omega (arith, c.if-from-own.false, c.from.ensures));
    }
