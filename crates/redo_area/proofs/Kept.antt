-- Pages that wait over the device's, and what calls leave of both.
use Rattle.std.proofs.Common.{◌≡◌, inl, inr, ⊎_elim, ℕ, ◌<◌, ◌≤◌, ◌/◌, Bool, List, true, false, refl, sym, ◌∙◌, ap, subst}
use Rattle.sect_dev.specs.Device.{Image, IsImageOf, LeavesOnly}
use Rattle.sect_dev.specs.Moments.{IsOutcome, weaker, lifted}
use Rattle.sect_dev.specs.declared.device.SectorDev.{Ghosts}
use Rattle.page_io.specs.Kept.{KeepsPages}
use Rattle.page_io.specs.Page.{page_at}
use Rattle.page_io.specs.Store.{Pages, Settled, file_of, file_pages, page_of, overlaid, has_page, bytes_of, committed_with, IsEither}
use Rattle.page_io.specs.declared.page.Page.{Page}
use Rattle.redo_area.specs.File.{settled}
use Rattle.redo_area.specs.Settling.{SettlesTo}
use Rattle.redo_area.specs.declared.pager.Pager.{Pager}
use Rattle.page_io.proofs.Overlays.{overlaid-none, page_of-file}
use Rattle.page_io.proofs.StagedPages.{replaced}
use Rattle.commit_log.proofs.ReadRuns.{none_yet}

-- a page that was looked for in a list, and not found
pub not_found : {pages items : List Page} {b : Bool} (n : ℕ) → pages ≡ items
    → b ≡ has_page (bytes_of pages) n → b ≡ false → has_page (bytes_of items) n ≡ false
not_found n same is fails = ap (λ (ps : List Page). has_page (bytes_of ps) n) (sym same)
    ∙ sym is ∙ fails

-- what a read gives where the page is not staged
pub not_staged : (staged : Pages) (home : ℕ → List ℕ) (end n : ℕ) → 1 ≤ n → n < end
    → has_page staged n ≡ false → overlaid staged (page_of (file_pages home end)) n ≡ home n
not_staged staged home end n ge lt none =
    overlaid-none staged (page_of (file_pages home end)) n none ∙ page_of-file home end n ge lt

-- pages at home, and a commit from there
module _ (before : Pages) (home : ℕ → List ℕ) (old_end : ℕ)
    (at_home : file_pages home old_end ≡ before) where
  -- what is committed afterwards
  pub new_pages : (new_end : ℕ) (pages staged : Pages) → pages ≡ staged
      → ((n : ℕ) → old_end ≤ n → n < new_end → has_page staged n ≡ true)
      → file_pages (overlaid pages home) new_end ≡ committed_with before staged new_end
  new_pages new_end pages staged same grown =
      ap (λ (ps : Pages). file_pages (overlaid ps home) new_end) same
      ∙ replaced home old_end new_end staged grown
      ∙ ap (λ (ps : Pages). committed_with ps staged new_end) at_home

  -- what a stop in between leaves
  pub either : (new_end : ℕ) (pages staged : Pages) (y : Settled) → pages ≡ staged
      → ((n : ℕ) → old_end ≤ n → n < new_end → has_page staged n ≡ true)
      → IsEither (file_pages home old_end) (file_pages (overlaid pages home) new_end) y
      → IsEither before (committed_with before staged new_end) y
  either new_end pages staged y same grown is =
      ⊎_elim (λ old. inl (old ∙ ap file_of at_home))
      (λ new. inr (new ∙ ap file_of (new_pages new_end pages staged same grown))) is

-- the pages that a pager reads
abbrev pub pages_of : {D : Type 0} (dev : Ghosts D) → Pager D dev → Pages
pages_of dev p = file_pages (overlaid (bytes_of p.waiting.items) (page_at (dev.seen p.dev))) p.end

-- what a stop leaves, as the store reads it
pub as_read : {D : Type 0} (dev : Ghosts D) (old new : Pager D dev) (P : Settled → Type 0)
    → dev.sectors new.dev ≡ dev.sectors old.dev
    → LeavesOnly dev.moment dev.left_since old.dev new.dev
    (λ image. P (settled (dev.sectors old.dev / 4) image))
    → LeavesOnly (λ (p : Pager D dev). dev.moment p.dev)
    (λ (p : Pager D dev). IsOutcome dev.left_since (settled (dev.sectors p.dev / 4)) p.dev) old
    new P
as_read {D} dev old new P size run =
    lifted dev.moment dev.left_since (λ (p : Pager D dev). p.dev)
    (λ (p : Pager D dev). settled (dev.sectors p.dev / 4)) old new P
    (ap (λ (s : ℕ). settled (s / 4)) size) run

-- what a stop during reads leaves
pub read_leaves : {D : Type 0} (dev : Ghosts D) (old new : Pager D dev)
    → dev.sectors new.dev ≡ dev.sectors old.dev
    → LeavesOnly dev.moment dev.left_since old.dev new.dev (IsImageOf (dev.candidate old.dev))
    → LeavesOnly (λ (p : Pager D dev). dev.moment p.dev)
    (λ (p : Pager D dev). IsOutcome dev.left_since (settled (dev.sectors p.dev / 4)) p.dev) old
    new
    (SettlesTo (dev.sectors old.dev / 4) (dev.candidate old.dev))
read_leaves dev old new size run =
    let P = SettlesTo (dev.sectors old.dev / 4) (dev.candidate old.dev) in
    as_read dev old new P size
    (weaker dev.moment dev.left_since old.dev new.dev
    (λ image. P (settled (dev.sectors old.dev / 4) image)) (IsImageOf (dev.candidate old.dev)) run
    (λ image is. record { image = image; is_image = is; reads = refl }))

-- what a call that asks the device for nothing keeps
pub unasked : {D : Type 0} (dev : Ghosts D) (old new : Pager D dev) → new.dev ≡ old.dev
    → pages_of dev new ≡ pages_of dev old
    → ((image : Image) → dev.left_since old.dev (dev.moment old.dev).at image
    → IsImageOf (dev.candidate old.dev) image)
    → KeepsPages (pages_of dev) (λ (p : Pager D dev). dev.moment p.dev)
    (λ (p : Pager D dev). IsOutcome dev.left_since (settled (dev.sectors p.dev / 4)) p.dev)
    (λ (p : Pager D dev). SettlesTo (dev.sectors p.dev / 4) (dev.candidate p.dev)) old new
unasked {D} dev old new same pages only_now = record {
  committed = pages;
  still = ap (λ (d : D). (dev.moment d).at) same;
  any_moment = read_leaves dev old new (ap dev.sectors same)
      (subst (λ (d : D). LeavesOnly dev.moment dev.left_since old.dev d
      (IsImageOf (dev.candidate old.dev))) (sym same)
      (none_yet dev old.dev only_now).any_moment);
}

-- what a stop leaves while pages that wait are brought home
module _ {D : Type 0} (dev : Ghosts D) (old new : Pager D dev)
    (size : dev.sectors new.dev ≡ dev.sectors old.dev)
    (run : LeavesOnly dev.moment dev.left_since old.dev new.dev
    (λ image. settled (dev.sectors old.dev / 4) image ≡ file_of (pages_of dev old))) where
  -- in a settling
  pub settle_leaves : settled (dev.sectors old.dev / 4) (dev.seen old.dev)
      ≡ file_of (pages_of dev old) → IsImageOf (dev.candidate old.dev) (dev.seen old.dev)
      → LeavesOnly (λ (p : Pager D dev). dev.moment p.dev)
      (λ (p : Pager D dev). IsOutcome dev.left_since (settled (dev.sectors p.dev / 4)) p.dev) old
      new (SettlesTo (dev.sectors old.dev / 4) (dev.candidate old.dev))
  settle_leaves settles may_stay =
      let P = SettlesTo (dev.sectors old.dev / 4) (dev.candidate old.dev) in
      as_read dev old new P size
      (weaker dev.moment dev.left_since old.dev new.dev
      (λ image. P (settled (dev.sectors old.dev / 4) image)) _ run
      (λ image is.
      record { image = dev.seen old.dev; is_image = may_stay; reads = settles ∙ sym is }))

-- what a stop leaves in a commit, whose device was given what the pager has
pub commit_leaves : {D : Type 0} (dev : Ghosts D) (old new : Pager D dev) (new_end : ℕ)
    (waiting pages : List Page) → dev.sectors new.dev ≡ dev.sectors old.dev
    → waiting ≡ old.waiting.items → pages ≡ old.staged.items
    → LeavesOnly dev.moment dev.left_since old.dev new.dev
    (λ image. IsEither
    (file_pages (overlaid (bytes_of waiting) (page_at (dev.seen old.dev))) old.end)
    (committed_with
    (file_pages (overlaid (bytes_of waiting) (page_at (dev.seen old.dev))) old.end)
    (bytes_of pages) new_end) (settled (dev.sectors old.dev / 4) image))
    → LeavesOnly (λ (p : Pager D dev). dev.moment p.dev)
    (λ (p : Pager D dev). IsOutcome dev.left_since (settled (dev.sectors p.dev / 4)) p.dev) old
    new
    (IsEither (pages_of dev old)
    (committed_with (pages_of dev old) (bytes_of old.staged.items) new_end))
commit_leaves dev old new new_end waiting pages size kept same run =
    let before = λ (ps : List Page). file_pages
    (overlaid (bytes_of ps) (page_at (dev.seen old.dev))) old.end in
    let Leaves = λ (ws ps : List Page). LeavesOnly dev.moment dev.left_since old.dev new.dev
    (λ image. IsEither (before ws) (committed_with (before ws) (bytes_of ps) new_end)
    (settled (dev.sectors old.dev / 4) image)) in
    as_read dev old new
    (IsEither (pages_of dev old)
    (committed_with (pages_of dev old) (bytes_of old.staged.items) new_end)) size
    (subst (λ ws. Leaves ws old.staged.items) kept (subst (Leaves waiting) same run))
