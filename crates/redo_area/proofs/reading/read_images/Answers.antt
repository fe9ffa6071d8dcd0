use Rattle.std.proofs.Common.{◌≡◌, ◌+◌, ◌-◌, ℕ, List, [], ◌∷◌, ◌++◌, ◌<◌, ◌≤◌, ◌⊎◌, inl, inr, true, refl, ◌∙◌, sym, ap, subst, arith}
use Rattle.std.proofs.lemmas.List.{map-append}
use Rattle.sect_dev.specs.Device.{Image}
use Rattle.page_io.specs.Page.{page_at, own_number}
use Rattle.page_io.specs.Store.{Pages, bytes_of, pages_from, are_in_order, AllBelow}
use Rattle.page_io.specs.declared.page.Page.{Page}
use Rattle.page_io.proofs.Overlays.{pages_more}
use Rattle.page_io.proofs.StagedPages.{AllBelow-push, AllBelow-wider}
use Rattle.page_io.proofs.Exits.{no_err, later_then, more_later, both_ways}
use Rattle.commit_log.proofs.Orders.{not_in_order, one_in_order, none_left, all_read, order_push}
use Rattle.commit_log.proofs.ReadRuns.{none_yet, one_more}
use Rattle.redo_area.specs.declared.open_fault.OpenFault.TheVariants.{Memory, Device, Damaged}
use Rattle.redo_area.proofs.Results.{from_test, fault_from_test, other_fault}
use Rattle.redo_area.proofs.reading.read_images.Goals as goal
use Rattle.redo_area.proofs.reading.read_images.Goals.{then-own-least-via-then-own-least, then-own-least-via-else-own-least+then-from-own}

pub loop-i-init : goal.loop-i-init
loop-i-init g c =
    let first = c.args.dev.now in
    let none : c.new-images.result.items ≡ [] = c.new-images.ensures.items in
    record {
      size = refl;
      small = omega arith;
      honesty = (λ h. h, λ h. h);
      faults = omega arith;
      only_reads = λ h. none_yet g.D.SectorDev first
          (λ image left. g.met.D.SectorDev.only_now first image h left);
      checked = λ h.
          let at = page_at (g.D.SectorDev.seen first) in
          let here : c.args.start ≡ c.args.start + 0 = omega arith in
          let all : c.args.count ≡ c.args.count - 0 = omega arith in
          ap (λ (k : ℕ). are_in_order 1 c.args.end (pages_from at k c.args.count)) here
          ∙ ap (λ (k : ℕ). are_in_order 1 c.args.end (pages_from at (c.args.start + 0) k)) all;
      rising = ap (λ (ps : List Page). are_in_order 1 c.args.end (bytes_of ps)) none;
      below = subst (λ (ps : List Page). AllBelow 1 (bytes_of ps)) (sym none) tt;
      positive = omega arith;
      images = λ h. ap bytes_of none;
    }

-- a page is not read
pub returns-then-is_err : goal.returns-then-is_err
returns-then-is_err g c =
    let inv = c.loop-i.invariant in
    let page = c.read_page.ensures in
    record {
      images = λ h. tt;
      in_order = λ h. tt;
      rising = tt;
      damaged = λ h is. other_fault Device Damaged refl is;
      only = inl refl;
      only_reads = λ h.
          let h1 = inv.honesty.1 h in
          one_more g.D.SectorDev c.args.dev.now c.loop-i.dev c.read_page.new.dev (inv.only_reads h)
          (page.seen h1) (page.candidates h1) (page.keeps h1) page.still (page.any_moment h1);
      later = later_then _ _ _ inv.faults page.device.cause.later;
      cause = λ _. more_later _ _ _ inv.faults
          (fault_from_test c.read_page.result c.is_err.ensures.value c.if-is_err.true
          page.device.cause.fault);
      honesty = both_ways page.device.honesty inv.honesty;
      size = page.device.size ∙ inv.size;
    }

-- its number is out of range
pub returns-then-own-least : goal.returns-then-own-least
returns-then-own-least g c =
    let inv = c.loop-i.invariant in
    let page = c.read_page.ensures in
    record {
      images = λ h. tt;
      in_order = λ h. tt;
      rising = tt;
      damaged = λ h _.
          let at = page_at (g.D.SectorDev.seen c.args.dev.now) in
          let read = from_test c.read_page.result c.is_err.ensures.value c.if-is_err.false
          (page.read (inv.honesty.1 h)) in
          let bytes = read ∙ ap (λ (s : Image). page_at s (c.args.start + c.loop-i.i))
          (inv.only_reads h).seen in
          let out : (c.from-own.result < c.loop-i.least) ⊎ (c.args.end ≤ c.from-own.result) =
          elim c.then-own-least.branch
          as (λ x. (c.from-own.result < c.loop-i.least) ⊎ (c.args.end ≤ c.from-own.result)) [
            | then-own-least-via-then-own-least w ↦ inl w.if-own-least.true
            | then-own-least-via-else-own-least+then-from-own w ↦ inr
                (omega (arith, w.if-from-own.true, w.from.ensures))
          ] in
          inv.checked h ∙ not_in_order at c.args.start c.args.count c.args.end c.loop-i.i
          c.loop-i.least c.from-own.result
          c.loop-i-test.true (c.from-own.ensures ∙ c.own.ensures.number ∙ ap own_number bytes) out;
      only = inr (inr refl);
      only_reads = λ h.
          let h1 = inv.honesty.1 h in
          one_more g.D.SectorDev c.args.dev.now c.loop-i.dev c.read_page.new.dev (inv.only_reads h)
          (page.seen h1) (page.candidates h1) (page.keeps h1) page.still (page.any_moment h1);
      later = later_then _ _ _ inv.faults page.device.cause.later;
      cause = λ is. other_fault Damaged Device refl is;
      honesty = both_ways page.device.honesty inv.honesty;
      size = page.device.size ∙ inv.size;
    }

-- it finds no memory
pub returns-then-is_err-2 : goal.returns-then-is_err-2
returns-then-is_err-2 g c =
    let inv = c.loop-i.invariant in
    let page = c.read_page.ensures in
    record {
      images = λ h. tt;
      in_order = λ h. tt;
      rising = tt;
      damaged = λ h is. other_fault Memory Damaged refl is;
      only = inr (inl refl);
      only_reads = λ h.
          let h1 = inv.honesty.1 h in
          one_more g.D.SectorDev c.args.dev.now c.loop-i.dev c.read_page.new.dev (inv.only_reads h)
          (page.seen h1) (page.candidates h1) (page.keeps h1) page.still (page.any_moment h1);
      later = later_then _ _ _ inv.faults page.device.cause.later;
      cause = λ is. other_fault Memory Device refl is;
      honesty = both_ways page.device.honesty inv.honesty;
      size = page.device.size ∙ inv.size;
    }

-- all are read
pub returns : goal.returns
returns g c =
    let at = page_at (g.D.SectorDev.seen c.args.dev.now) in
    let inv = c.loop-i.invariant in
    record {
      rising = inv.rising;
      images = λ h. inv.images h ∙ ap (pages_from at c.args.start)
          (all_read _ _ c.loop-i-test.false c.loop-i.auto.i-end);
      in_order = λ h.
          let none : c.args.count - c.loop-i.i ≡ 0 = none_left _ _ c.loop-i-test.false in
          inv.checked h ∙ ap (λ (k : ℕ). are_in_order c.loop-i.least c.args.end
          (pages_from at (c.args.start + c.loop-i.i) k)) none;
      damaged = λ h is. no_err _ _ is;
      only = tt;
      only_reads = inv.only_reads;
      later = inv.faults;
      cause = λ is. no_err _ _ is;
      honesty = inv.honesty;
      size = inv.size;
    }

grown : (now items : List Page) (page : Page) → now ≡ items ++ page ∷ []
    → bytes_of now ≡ bytes_of items ++ page.bytes ∷ []
grown now items page is = ap bytes_of is ∙ map-append (λ (p : Page). p.bytes) items (page ∷ [])

pushed : (now items : List Page) (page : Page) (old : Pages) (new : List ℕ)
    → now ≡ items ++ page ∷ [] → bytes_of items ≡ old → page.bytes ≡ new
    → bytes_of now ≡ old ++ new ∷ []
pushed now items page old new is before bytes =
    grown now items page is
    ∙ ap (λ (ps : Pages). ps ++ page.bytes ∷ []) before ∙ ap (λ (b : List ℕ). old ++ b ∷ []) bytes

pub loop-i-preserved : goal.loop-i-preserved
loop-i-preserved g c =
    let dev = g.D.SectorDev in
    let first = c.args.dev.now in
    let at = page_at (dev.seen first) in
    let i = c.loop-i.i in
    let place : ℕ = c.args.start + i in
    let inv = c.loop-i.invariant in
    let page = c.read_page.ensures in
    let h1 = inv.honesty.1 in
    let items = bytes_of c.loop-i.images.items in
    let new = c.read_page.new.page.bytes in
    let own : c.from-own.result ≡ own_number new = c.from-own.ensures ∙ c.own.ensures.number in
    let is_pushed = from_test c.push.result c.is_err-in-loop-i.ensures.value
    c.if-is_err-2.false c.push.ensures.ok in
    let all = sym (grown c.push.new.self.items c.loop-i.images.items c.read_page.new.page is_pushed) in
    let bytes = λ (h : dev.honest first).
    from_test c.read_page.result c.is_err.ensures.value c.if-is_err.false (page.read (h1 h))
    ∙ ap (λ (s : Image). page_at s place) (inv.only_reads h).seen in
    record {
      size = page.device.size ∙ inv.size;
      small = omega arith;
      honesty = both_ways page.device.honesty inv.honesty;
      faults = omega (arith, page.device.cause.later, inv.faults);
      only_reads = λ h. one_more dev first c.loop-i.dev c.read_page.new.dev (inv.only_reads h)
          (page.seen (h1 h)) (page.candidates (h1 h)) (page.keeps (h1 h)) page.still (page.any_moment (h1 h));
      checked = λ h. inv.checked h ∙ one_in_order at c.args.start c.args.count c.args.end c.loop-i.i
          c.loop-i.least c.from-own.result c.loop-i-test.true
          (c.from-own.ensures ∙ c.own.ensures.number ∙ ap own_number (bytes h))
          (omega (arith, c.if-own-least.false))
          (omega (arith, c.if-from-own.false, c.from.ensures));
      rising = subst (λ (ps : Pages). are_in_order 1 c.args.end ps ≡ true) all
          (order_push 1 c.args.end items new inv.rising
          (AllBelow-wider c.loop-i.least (own_number new) items
          (omega (arith, own, c.if-own-least.false)) inv.below)
          (omega (arith, own, c.if-own-least.false, inv.positive))
          (omega (arith, own, c.if-from-own.false, c.from.ensures)));
      below = subst (AllBelow (c.from-own.result + 1)) all
          (AllBelow-push c.loop-i.least (c.from-own.result + 1) items new inv.below
          (omega (arith, c.if-own-least.false)) (omega (arith, own)));
      positive = omega arith;
      images = λ h.
          pushed c.push.new.self.items c.loop-i.images.items c.read_page.new.page
          (pages_from at c.args.start i) (at place)
          is_pushed
          (inv.images h) (bytes h)
          ∙ sym (pages_more at c.args.start i);
    }
