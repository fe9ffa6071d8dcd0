use Rattle.std.proofs.Common.{◌≡◌, ◌/◌, ℕ, List, length, take, inl, true, refl, sym, ◌∙◌, ap, subst, arith}
use Rattle.std.proofs.lemmas.List.{length-map}
use Rattle.sect_dev.specs.Moments.{started}
use Rattle.page_io.specs.Store.{file_of, IsEither, bytes_of, are_in_order, committed_with}
use Rattle.page_io.specs.declared.page.Page.{Page}
use Rattle.page_io.proofs.StagedPages.{order_below}
use Rattle.redo_area.specs.File.{settled}
use Rattle.redo_area.specs.Settling.{SettlesToPages, only_seen, for_all_access}
use Rattle.redo_area.proofs.Splits.{taken_in_order}
use Rattle.redo_area.proofs.Kept.{pages_of, as_read, commit_leaves}
use Rattle.redo_area.proofs.pager.PagerPageStore.commit.Goals as goal

-- the pages have no room
pub returns-then-len-room-clause-any_moment : goal.returns-then-len-room-clause-any_moment
returns-then-len-room-clause-any_moment g c honest usable writable =
    let dev = g.D.SectorDev in
    let old = c.args.self.now in
    let cap : ℕ = dev.sectors old.dev / 4 in
    let before = pages_of dev old in
    let P = IsEither before (committed_with before (bytes_of old.staged.items) c.args.new_end) in
    let settles = old.settles honest usable in
    as_read dev old _ P refl
    (started dev.moment dev.left_since old.dev (λ image. P (settled cap image))
    (λ image left. inl (only_seen cap (dev.candidate old.dev) (dev.seen old.dev) (settled cap image)
    (file_of before) (settles.waits writable).stable settles.settles
    (record {
      image = image;
      is_image = g.met.D.SectorDev.only_now old.dev image honest left;
      reads = refl;
    }))))

pub commit_over-done-requires-clause-pages : goal.commit_over-done-requires-clause-pages
commit_over-done-requires-clause-pages g c = record {
  some = omega (
    arith,
    c.requires.some,
    length-map c.args.self.now.staged.items (λ (p : Page). p.bytes),
    ap length c.as_slice-pages.ensures,
  );
  least = c.requires.least;
  in_order = subst (λ (ps : List Page). are_in_order 1 c.args.new_end (bytes_of ps) ≡ true)
      (sym c.as_slice-pages.ensures)
      (order_below 1 4294967296 c.args.new_end (bytes_of c.args.self.now.staged.items)
      c.args.self.now.order c.requires.below);
}

pub returns-in_default-clause-any_moment : goal.returns-in_default-clause-any_moment
returns-in_default-clause-any_moment g c honest usable writable =
    commit_leaves g.D.SectorDev c.args.self.now _ c.args.new_end c.as_slice-waiting.result.now
    c.as_slice-pages.result.now c.commit_over-done.ensures.device.size c.as_slice-waiting.ensures
    c.as_slice-pages.ensures (c.commit_over-done.ensures.any_moment honest)

-- the pages of the commit wait
pub invariant_of-self-2-clause-settles : goal.invariant_of-self-2-clause-settles
invariant_of-self-2-clause-settles g c still usable =
    let dev = g.D.SectorDev in
    let old = c.args.self.now in
    let new = c.commit_over-done.new.dev in
    let done = c.in-Ok.done in
    let settles = λ (cap : ℕ) (pages : List Page). SettlesToPages true cap c.args.new_end done.area
    (bytes_of pages) (dev.candidate new) (dev.seen new) in
    let same : dev.sectors old.dev / 4 ≡ dev.sectors new / 4 =
    ap (λ (s : ℕ). s / 4) (sym c.commit_over-done.ensures.device.size) in
    let is = c.in-Ok.ensures.settles (c.commit_over-done.ensures.device.honesty.0 still) in
    for_all_access old.writable
    (subst (settles (dev.sectors new / 4)) (sym (c.hand_over.ensures.given ∙ c.truncate.ensures.items))
    (subst (λ (cap : ℕ). settles cap (take done.waiting old.staged.items)) same
    (subst (λ (ps : List Page). settles (dev.sectors old.dev / 4) (take done.waiting ps))
    c.as_slice-pages.ensures is)))

pub invariant_of-self-2-clause-rising : goal.invariant_of-self-2-clause-rising
invariant_of-self-2-clause-rising g c =
    ap (λ ps. are_in_order 1 c.args.new_end (bytes_of ps))
    (c.hand_over.ensures.given ∙ c.truncate.ensures.items)
    ∙ taken_in_order 1 c.args.new_end c.in-Ok.done.waiting c.args.self.now.staged.items
    (order_below 1 4294967296 c.args.new_end (bytes_of c.args.self.now.staged.items)
    c.args.self.now.order c.requires.below)

pub returns-clause-any_moment : goal.returns-clause-any_moment
returns-clause-any_moment g c honest usable writable =
    commit_leaves g.D.SectorDev c.args.self.now _ c.args.new_end c.as_slice-waiting.result.now
    c.as_slice-pages.result.now c.commit_over-done.ensures.device.size c.as_slice-waiting.ensures
    c.as_slice-pages.ensures (c.commit_over-done.ensures.any_moment honest)
