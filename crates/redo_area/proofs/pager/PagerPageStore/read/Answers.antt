use Rattle.std.proofs.Common.{◌≡◌, ◌/◌, ℕ, List, true, refl, sym, ◌∙◌, ap, subst, arith, rules}
use Rattle.sect_dev.specs.Device.{Image}
use Rattle.page_io.specs.Page.{page_at}
use Rattle.page_io.specs.Store.{bytes_of, file_pages, overlaid, page_of, are_in_order}
use Rattle.page_io.proofs.Overlays.{overlaid-staged, overlaid-none}
use Rattle.page_io.proofs.StagedPages.{order_wider}
use Rattle.page_io.specs.declared.page.Page.{Page}
use Rattle.redo_area.specs.Arming.{IsPlaced}
use Rattle.redo_area.specs.Settling.{quarter_fits}
use Rattle.redo_area.proofs.Kept.{not_found, not_staged, read_leaves, unasked}
use Rattle.commit_log.proofs.ReadRuns.{none_yet}
use Rattle.redo_area.proofs.Results.{from_test}
use Rattle.redo_area.proofs.StillSettles.{reads_still}
use Rattle.redo_area.proofs.pager.PagerPageStore.read.Goals as goal

pub find_staged-requires-2 : goal.find_staged-requires-2
find_staged-requires-2 g c =
    let old = c.args.self.now in
    let end = g.met.D.SectorDev.fits old.dev in
    record {
      order = subst (λ (ps : List Page). are_in_order 1 4294967296 (bytes_of ps) ≡ true)
          (sym c.as_slice-2.ensures)
          (order_wider 1 old.end 4294967296 (bytes_of old.waiting.items)
          (omega (arith, old.fits, quarter_fits _ end)) old.rising);
    }

pub returns-then-find_staged-clause-found : goal.returns-then-find_staged-clause-found
returns-then-find_staged-clause-found g c honest =
    let old = c.args.self.now in
    let home = page_of (file_pages
    (overlaid (bytes_of old.waiting.items) (page_at (g.D.SectorDev.seen old.dev))) old.end) in
    c.find_staged.ensures.page
    ∙ overlaid-staged (bytes_of c.as_slice.result.now) home (λ _. c.args.page.now.bytes) c.args.n
    (sym c.find_staged.ensures.found ∙ c.if-find_staged.true)
    ∙ ap (λ (ps : List Page). overlaid (bytes_of ps) home c.args.n) c.as_slice.ensures

pub returns-then-find_staged-2-clause-found : goal.returns-then-find_staged-2-clause-found
returns-then-find_staged-2-clause-found g c honest =
    let old = c.args.self.now in
    let seen = page_at (g.D.SectorDev.seen old.dev) in
    let none = not_found c.args.n c.as_slice.ensures c.find_staged.ensures.found
    c.if-find_staged.false in
    c.find_staged-2.ensures.page
    ∙ overlaid-staged (bytes_of c.as_slice-2.result.now) seen (λ _. c.find_staged.new.page.bytes)
    c.args.n (sym c.find_staged-2.ensures.found ∙ c.if-find_staged-2.true)
    ∙ ap (λ (ps : List Page). overlaid (bytes_of ps) seen c.args.n) c.as_slice-2.ensures
    ∙ sym (not_staged (bytes_of old.staged.items) (overlaid (bytes_of old.waiting.items) seen) old.end
    c.args.n c.if-n-lt1.false c.if-self-n.false none)

pub returns-clause-found : goal.returns-clause-found
returns-clause-found g c honest =
    let old = c.args.self.now in
    let waiting = bytes_of old.waiting.items in
    let seen = page_at (g.D.SectorDev.seen old.dev) in
    let none = not_found c.args.n c.as_slice.ensures c.find_staged.ensures.found
    c.if-find_staged.false in
    let not_kept = not_found c.args.n c.as_slice-2.ensures c.find_staged-2.ensures.found
    c.if-find_staged-2.false in
    from_test c.read_page.result c.is_err.ensures.value c.if-is_err.false
    (c.read_page.ensures.read honest)
    ∙ sym (overlaid-none waiting seen c.args.n not_kept)
    ∙ sym (not_staged (bytes_of old.staged.items) (overlaid waiting seen) old.end c.args.n
    c.if-n-lt1.false c.if-self-n.false none)

-- the store is broken
pub returns-then-not-self-clause-kept : goal.returns-then-not-self-clause-kept
returns-then-not-self-clause-kept g c honest =
    unasked g.D.SectorDev c.args.self.now _ refl refl
    (λ image. g.met.D.SectorDev.only_now c.args.self.now.dev image honest)

pub returns-then-not-self-clause-only_reads : goal.returns-then-not-self-clause-only_reads
returns-then-not-self-clause-only_reads g c honest =
    none_yet g.D.SectorDev c.args.self.now.dev
    (λ image. g.met.D.SectorDev.only_now c.args.self.now.dev image honest)

-- the page is staged
pub returns-then-find_staged-clause-kept : goal.returns-then-find_staged-clause-kept
returns-then-find_staged-clause-kept g c honest =
    unasked g.D.SectorDev c.args.self.now _ refl refl
    (λ image. g.met.D.SectorDev.only_now c.args.self.now.dev image honest)

pub returns-then-find_staged-clause-only_reads : goal.returns-then-find_staged-clause-only_reads
returns-then-find_staged-clause-only_reads g c honest =
    none_yet g.D.SectorDev c.args.self.now.dev
    (λ image. g.met.D.SectorDev.only_now c.args.self.now.dev image honest)

-- there is no such page
pub returns-then-n-lt1-clause-kept : goal.returns-then-n-lt1-clause-kept
returns-then-n-lt1-clause-kept g c honest =
    unasked g.D.SectorDev c.args.self.now _ refl refl
    (λ image. g.met.D.SectorDev.only_now c.args.self.now.dev image honest)

pub returns-then-n-lt1-clause-only_reads : goal.returns-then-n-lt1-clause-only_reads
returns-then-n-lt1-clause-only_reads g c honest =
    none_yet g.D.SectorDev c.args.self.now.dev
    (λ image. g.met.D.SectorDev.only_now c.args.self.now.dev image honest)

-- its image is kept
pub returns-then-find_staged-2-clause-kept : goal.returns-then-find_staged-2-clause-kept
returns-then-find_staged-2-clause-kept g c honest =
    unasked g.D.SectorDev c.args.self.now _ refl refl
    (λ image. g.met.D.SectorDev.only_now c.args.self.now.dev image honest)

pub returns-then-find_staged-2-clause-only_reads : goal.returns-then-find_staged-2-clause-only_reads
returns-then-find_staged-2-clause-only_reads g c honest =
    none_yet g.D.SectorDev c.args.self.now.dev
    (λ image. g.met.D.SectorDev.only_now c.args.self.now.dev image honest)

-- the device fails
pub returns-then-is_err-clause-kept : goal.returns-then-is_err-clause-kept
returns-then-is_err-clause-kept g c honest =
    let old = c.args.self.now in
    let page = c.read_page.ensures in
    record {
      committed = ap (λ (s : Image). file_pages (overlaid (bytes_of old.waiting.items) (page_at s))
          old.end) (page.seen honest);
      still = page.still;
      any_moment = read_leaves g.D.SectorDev old _ page.device.size (page.any_moment honest);
    }

pub returns-then-is_err-clause-only_reads : goal.returns-then-is_err-clause-only_reads
returns-then-is_err-clause-only_reads g c honest =
    let page = c.read_page.ensures in
    record {
      seen = page.seen honest;
      no_new = page.candidates honest;
      no_lost = page.keeps honest;
      still = page.still;
      any_moment = page.any_moment honest;
    }

-- it is read from the device
pub returns-clause-kept : goal.returns-clause-kept
returns-clause-kept g c honest =
    let old = c.args.self.now in
    let page = c.read_page.ensures in
    record {
      committed = ap (λ (s : Image). file_pages (overlaid (bytes_of old.waiting.items) (page_at s))
          old.end) (page.seen honest);
      still = page.still;
      any_moment = read_leaves g.D.SectorDev old _ page.device.size (page.any_moment honest);
    }

pub returns-clause-only_reads : goal.returns-clause-only_reads
returns-clause-only_reads g c honest =
    let page = c.read_page.ensures in
    record {
      seen = page.seen honest;
      no_new = page.candidates honest;
      no_lost = page.keeps honest;
      still = page.still;
      any_moment = page.any_moment honest;
    }

pub returns-clause-answer : goal.returns-clause-answer
returns-clause-answer g c = search rules

pub returns-then-find_staged-2-clause-answer : goal.returns-then-find_staged-2-clause-answer
returns-then-find_staged-2-clause-answer g c = search rules

pub returns-then-is_err-clause-answer : goal.returns-then-is_err-clause-answer
returns-then-is_err-clause-answer g c = search rules

pub returns-then-n-lt1-clause-answer : goal.returns-then-n-lt1-clause-answer
returns-then-n-lt1-clause-answer g c = search rules

pub invariant_of-self-clause-placed : goal.invariant_of-self-clause-placed
invariant_of-self-clause-placed g c =
    subst (λ (s : ℕ). IsPlaced (s / 4) c.args.self.now.end c.args.self.now.area)
    (sym c.read_page.ensures.device.size) c.args.self.now.placed

pub invariant_of-self-clause-settles : goal.invariant_of-self-clause-settles
invariant_of-self-clause-settles g c =
    reads_still c.args.self.now.settles c.read_page.ensures.device.honesty.0
    c.read_page.ensures.device.size c.read_page.ensures.seen c.read_page.ensures.candidates
