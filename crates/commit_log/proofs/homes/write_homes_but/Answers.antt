use Rattle.std.proofs.Common.{◌≡◌, ◌<◌, ◌≤◌, ◌+◌, ◌*◌, ℕ, List, [], length, take, get_or, true, false, refl, ◌∙◌, sym, ap, subst, arith}
use Rattle.std.proofs.lemmas.Bool.{false≢true}
use Rattle.std.proofs.lemmas.List.{length-map}
use Rattle.sect_dev.specs.declared.device.SectorDev.{Ghosts}
use Rattle.page_io.specs.Page.{page_at, own_number, IsOutsidePage}
use Rattle.page_io.specs.Store.{Pages, overlaid, has_page, bytes_of}
use Rattle.page_io.proofs.Overlays.{overlaid-push, with_page-other}
use Rattle.page_io.specs.declared.page.Page.{Page}
use Rattle.commit_log.specs.Homes.{IsOutsideAll}
use Rattle.page_io.proofs.PageLists.{bytes_more, bytes_at}
use Rattle.commit_log.proofs.Outside.{outside_at}
use Rattle.commit_log.proofs.WriteRuns.{Keeps, none_written, keeps_on, home_more}
use Rattle.commit_log.proofs.homes.write_homes_but.Goals as goal
use Rattle.commit_log.proofs.homes.write_homes_but.Goals.{then-not-is_among+in_ok-write_page, else-not-is_among}

-- the number of the page at an index
own_at : (pages : List Page) (idx : ℕ) (page : Page) (own : ℕ) → idx < length pages
    → page ≡ get_or pages idx page → own ≡ own_number page.bytes
    → own_number (get_or (bytes_of pages) idx []) ≡ own
own_at pages idx page own lt is owns = ap own_number (bytes_at pages idx page lt is) ∙ sym owns

-- the page at an index is written after the ones before it
one_home : {D : Type 0} (dev : Ghosts D) (old mid new : D) (pages : List Page) (idx : ℕ)
    (page : Page) (own : ℕ) → idx < length pages → page ≡ get_or pages idx page
    → own ≡ own_number page.bytes
    → Keeps dev (IsOutsideAll (bytes_of pages)) old mid → Keeps dev (IsOutsidePage own) mid new
    → Keeps dev (IsOutsideAll (bytes_of pages)) old new
one_home dev old mid new pages idx page own lt is owns first second =
    keeps_on dev (IsOutsideAll (bytes_of pages)) (IsOutsidePage own) old mid new first second
    (λ h m out. subst (λ (k : ℕ). IsOutsidePage k m) (own_at pages idx page own lt is owns)
    (outside_at (bytes_of pages) m idx out
    (omega (arith, lt, length-map pages (λ (p : Page). p.bytes)))))

pub loop-page-init : goal.loop-page-init
loop-page-init g c =
    let first = c.args.dev.now in
    record {
      keeps = none_written g.D.SectorDev (IsOutsideAll (bytes_of c.args.pages.now)) first
          (g.met.D.SectorDev.only_now first);
      written = λ h n new. refl;
    }

pub write_page-requires : goal.write_page-requires
write_page-requires g c =
    let sectors = g.D.SectorDev.sectors c.args.dev.now in
    let lt = c.loop-page-test.true in
    let fits : 4 * c.own-own.result + 4 ≤ sectors =
    subst (λ (k : ℕ). 4 * k + 4 ≤ sectors)
    (own_at c.args.pages.now c.loop-page.page-index c.page-item.result c.own-own.result lt
    c.page-item.is c.own-own.ensures.number) (c.requires.room c.loop-page.page-index lt) in
    omega (arith, fits, c.loop-page.invariant.keeps.size)

pub returns-in_err-write_page-clause-any_moment : goal.returns-in_err-write_page-clause-any_moment
returns-in_err-write_page-clause-any_moment g c =
    let w = c.write_page.ensures in
    (one_home g.D.SectorDev c.args.dev.now c.loop-page.dev c.write_page.new.dev c.args.pages.now
    c.loop-page.page-index c.page-item.result c.own-own.result
    c.loop-page-test.true c.page-item.is
    c.own-own.ensures.number c.loop-page.invariant.keeps
    (record {
      size = w.device.size;
      honesty = w.device.honesty;
      faults = w.device.cause.later;
      any_moment =
          w.any_moment;
      candidates = w.candidates;
      others = w.others;
    })).any_moment

pub returns-in_err-write_page-clause-candidates : goal.returns-in_err-write_page-clause-candidates
returns-in_err-write_page-clause-candidates g c =
    let w = c.write_page.ensures in
    (one_home g.D.SectorDev c.args.dev.now c.loop-page.dev c.write_page.new.dev c.args.pages.now
    c.loop-page.page-index c.page-item.result c.own-own.result
    c.loop-page-test.true c.page-item.is
    c.own-own.ensures.number c.loop-page.invariant.keeps
    (record {
      size = w.device.size;
      honesty = w.device.honesty;
      faults = w.device.cause.later;
      any_moment =
          w.any_moment;
      candidates = w.candidates;
      others = w.others;
    })).candidates

-- a page that newer ones have too is passed over
passed : (pages : List Page) (idx : ℕ) (page : Page) (newer : Pages) (home : ℕ → List ℕ)
    (n own : ℕ) → idx < length pages → page ≡ get_or pages idx page → own ≡ own_number page.bytes
    → has_page newer own ≡ true → has_page newer n ≡ false
    → overlaid (bytes_of (take idx pages)) home n ≡ overlaid (bytes_of (take (idx + 1) pages)) home n
passed pages idx page newer home n own lt is owns has none =
    let so_far = bytes_of (take idx pages) in
    sym (ap (λ (ps : Pages). overlaid ps home n) (bytes_more pages idx page lt is)
    ∙ ap (λ (f : ℕ → List ℕ). f n) (overlaid-push so_far home page.bytes)
    ∙ with_page-other (overlaid so_far home) page.bytes n
    (λ same. false≢true (sym none ∙ ap (has_page newer) (sym (owns ∙ same)) ∙ has)))

pub loop-page-preserved : goal.loop-page-preserved
loop-page-preserved g c =
    let dev = g.D.SectorDev in
    let first = c.args.dev.now in
    let pages = c.args.pages.now in
    let idx = c.loop-page.page-index in
    let page = c.page-item.result in
    let inv = c.loop-page.invariant in
    let home = page_at (dev.seen first) in
    elim c.if-not-is_among.branch [
      | then-not-is_among+in_ok-write_page w ↦
          let told = w.write_page.ensures in
          record {
            keeps = subst (Keeps dev (IsOutsideAll (bytes_of pages)) first) (sym w.dev-is)
                (one_home dev first c.loop-page.dev w.write_page.new.dev pages idx page
                c.own-own.result c.loop-page-test.true c.page-item.is c.own-own.ensures.number
                inv.keeps
                (record {
                  size = told.device.size;
                  honesty = told.device.honesty;
                  faults = told.device.cause.later;
                  any_moment = told.any_moment;
                  candidates = told.candidates;
                  others = told.others;
                }));
            written = λ h n new.
                let so_far = bytes_of (take idx pages) in
                let h1 = inv.keeps.honesty.1 h in
                ap (λ d. page_at (dev.seen d) n) w.dev-is
                ∙ home_more (dev.seen c.loop-page.dev) (dev.seen w.write_page.new.dev)
                (overlaid so_far home) page.bytes c.own-own.result c.own-own.ensures.number
                (w.in_ok-write_page.ensures.written h1) (told.others h1) n (inv.written h n new)
                ∙ sym (ap (λ (ps : Pages). overlaid ps home n)
                (bytes_more pages idx page c.loop-page-test.true c.page-item.is)
                ∙ ap (λ (f : ℕ → List ℕ). f n) (overlaid-push so_far home page.bytes));
          }
      | else-not-is_among w ↦ record {
        keeps = subst (Keeps dev (IsOutsideAll (bytes_of pages)) first) (sym w.dev-is) inv.keeps;
        written = λ h n new. ap (λ d. page_at (dev.seen d) n) w.dev-is ∙ inv.written h n new
            ∙ passed pages idx page (bytes_of c.args.newer.now) home n c.own-own.result
            c.loop-page-test.true c.page-item.is c.own-own.ensures.number
            (sym c.is_among.ensures ∙ w.if-not-is_among.false) new;
      }
    ]
