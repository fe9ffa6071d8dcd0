use Rattle.std.proofs.Common.{◌≡◌, ◌+◌, ◌-◌, ◌/◌, ◌<◌, ◌≤◌, ℕ, length, get_or, [], subst, ap, sym, ◌∙◌, arith, rules}
use Rattle.page_io.specs.Page.{own_number}
use Rattle.page_io.specs.Store.{bytes_of}
use Rattle.page_io.proofs.PageLists.{bytes_at}
use Rattle.page_io.proofs.Places.{below_place}
use Rattle.page_io.proofs.staged.place_of.Goals as goal

pub loop-low-init : goal.loop-low-init
loop-low-init c = search rules

pub bounds-staged-middle : goal.bounds-staged-middle
bounds-staged-middle c = omega (arith, c.loop-low-test.true, c.loop-low.invariant.high)

-- the page in the middle, and those before it, have numbers below n
pub loop-low-preserved-then-own-n : goal.loop-low-preserved-then-own-n
loop-low-preserved-then-own-n c =
    let inv = c.loop-low.invariant in
    let pages = c.args.staged.now in
    let middle : ℕ = c.loop-low.low + (c.loop-low.high - c.loop-low.low) / 2 in
    let within : middle < length pages = omega (arith, c.loop-low-test.true, inv.high) in
    let num = c.own.ensures.number ∙ sym (ap own_number
    (bytes_at pages middle c.index-staged-middle.result within c.index-staged-middle.is)) in
    record {
      low = omega (arith, c.loop-low-test.true);
      high = inv.high;
      before = below_place pages middle c.args.n c.requires.order within
          (omega (arith, num, c.if-own-n.true));
      after = inv.after;
    }

-- it is the first one whose number isn't below n, or one behind that
pub loop-low-preserved : goal.loop-low-preserved
loop-low-preserved c =
    let inv = c.loop-low.invariant in
    let pages = c.args.staged.now in
    let middle : ℕ = c.loop-low.low + (c.loop-low.high - c.loop-low.low) / 2 in
    let within : middle < length pages = omega (arith, c.loop-low-test.true, inv.high) in
    let num = c.own.ensures.number ∙ sym (ap own_number
    (bytes_at pages middle c.index-staged-middle.result within c.index-staged-middle.is)) in
    record {
      low = omega arith;
      high = omega (arith, within);
      before = inv.before;
      after = λ _. omega (arith, num, c.if-own-n.false);
    }

pub returns-clause-after : goal.returns-clause-after
returns-clause-after c lt =
    let inv = c.loop-low.invariant in
    let same : c.loop-low.high ≡ c.loop-low.low = omega (arith, inv.low, c.loop-low-test.false) in
    subst (λ (k : ℕ). c.args.n ≤ own_number (get_or (bytes_of c.args.staged.now) k [])) same
    (inv.after (omega (arith, same, lt)))
