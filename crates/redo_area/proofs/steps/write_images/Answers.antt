use Rattle.std.proofs.Common.{◌≡◌, ◌<◌, ◌+◌, ◌*◌, ℕ, List, [], ◌∷◌, ◌++◌, take, length, inl, inr, refl, ◌∙◌, sym, ap, arith}
use Rattle.page_io.specs.Page.{page_at, IsOutside, IsOutsidePage}
use Rattle.page_io.proofs.PageLaws.{same_page}
use Rattle.page_io.specs.Store.{Pages, bytes_of}
use Rattle.page_io.proofs.Overlays.{same_pages, pages_more}
use Rattle.page_io.proofs.PageLists.{bytes_more}
use Rattle.commit_log.proofs.WriteRuns.{none_written, keeps_on}
use Rattle.redo_area.proofs.steps.write_images.Goals as goal

-- a sector of none of the pages in a row is none of the page at an index
behind : (n start idx count m : ℕ) → n ≡ start + idx → idx < count
    → IsOutside (4 * start) (4 * (start + count)) m → IsOutsidePage n m
behind n start idx count m place lt (inl low) = inl (omega (arith, place, low))
behind n start idx count m place lt (inr high) = inr (omega (arith, place, lt, high))

pub loop-page-init : goal.loop-page-init
loop-page-init g c =
    let first = c.args.dev.now in
    record {
      place = omega arith;
      keeps =
          none_written g.D.SectorDev (IsOutside (4 * c.args.start) (4 * (c.args.start + length c.args.pages.now))) first
          (g.met.D.SectorDev.only_now first);
      written = λ h. refl;
    }

pub returns-in_err-write_page-clause-any_moment : goal.returns-in_err-write_page-clause-any_moment
returns-in_err-write_page-clause-any_moment g c =
    let w = c.write_page.ensures in
    (keeps_on g.D.SectorDev (IsOutside (4 * c.args.start) (4 * (c.args.start + length c.args.pages.now))) (IsOutsidePage c.loop-page.n) c.args.dev.now
    c.loop-page.dev c.write_page.new.dev c.loop-page.invariant.keeps
    (record {
      size = w.device.size;
      honesty = w.device.honesty;
      faults = w.device.cause.later;
      any_moment = w.any_moment;
      candidates = w.candidates;
      others = w.others;
    })
    (λ h m out. behind c.loop-page.n c.args.start c.loop-page.page-index (length c.args.pages.now) m
    c.loop-page.invariant.place c.loop-page-test.true out)).any_moment

pub returns-in_err-write_page-clause-candidates : goal.returns-in_err-write_page-clause-candidates
returns-in_err-write_page-clause-candidates g c =
    let w = c.write_page.ensures in
    (keeps_on g.D.SectorDev (IsOutside (4 * c.args.start) (4 * (c.args.start + length c.args.pages.now))) (IsOutsidePage c.loop-page.n) c.args.dev.now
    c.loop-page.dev c.write_page.new.dev c.loop-page.invariant.keeps
    (record {
      size = w.device.size;
      honesty = w.device.honesty;
      faults = w.device.cause.later;
      any_moment = w.any_moment;
      candidates = w.candidates;
      others = w.others;
    })
    (λ h m out. behind c.loop-page.n c.args.start c.loop-page.page-index (length c.args.pages.now) m
    c.loop-page.invariant.place c.loop-page-test.true out)).candidates

pub loop-page-preserved : goal.loop-page-preserved
loop-page-preserved g c =
    let start = c.args.start in
    let idx = c.loop-page.page-index in
    let pages = c.args.pages.now in
    let before = g.D.SectorDev.seen c.loop-page.dev in
    let after = g.D.SectorDev.seen c.write_page.new.dev in
    let inv = c.loop-page.invariant in
    let w = c.write_page.ensures in
    record {
      place = omega arith;
      keeps = keeps_on g.D.SectorDev (IsOutside (4 * c.args.start) (4 * (c.args.start + length c.args.pages.now))) (IsOutsidePage c.loop-page.n)
          c.args.dev.now c.loop-page.dev c.write_page.new.dev c.loop-page.invariant.keeps
          (record {
            size = w.device.size;
            honesty = w.device.honesty;
            faults = w.device.cause.later;
            any_moment =
                w.any_moment;
            candidates = w.candidates;
            others = w.others;
          })
          (λ h m out. behind c.loop-page.n c.args.start c.loop-page.page-index (length c.args.pages.now) m
          c.loop-page.invariant.place c.loop-page-test.true out);
      written = λ h.
          let now = page_at after in
          let h1 = inv.keeps.honesty.1 h in
          let here : now (start + idx) ≡ c.page-item.result.bytes =
          ap now (sym inv.place) ∙ c.in_ok-write_page.ensures.written h1 in
          pages_more now start idx
          ∙ ap (λ (ps : Pages). ps ++ now (start + idx) ∷ [])
          (same_pages now (page_at before) start idx
          (λ k ge lt. same_page after before k
          (λ m ge4 lt4. w.others h1 m (inl (omega (arith, lt, lt4, inv.place)))))
          ∙ inv.written h)
          ∙ ap (λ (x : List ℕ). bytes_of (take idx pages) ++ x ∷ []) here
          ∙ sym (bytes_more pages idx c.page-item.result c.loop-page-test.true c.page-item.is);
    }
