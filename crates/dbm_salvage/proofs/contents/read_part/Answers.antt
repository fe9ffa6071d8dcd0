use Rattle.std.proofs.Common.{◌≡◌, ◌++◌, ℕ, take, drop, ⊎_elim, ap, ◌∙◌, sym, arith, rules}
use Rattle.page_model.specs.Pages.{ContentPage}
use Rattle.page_model.specs.PageBodies.{filled}
use Rattle.page_io.proofs.Exits.{not_both}
use Rattle.content_pages.proofs.ContentTexts.{length-part}
use Rattle.dbm_salvage.specs.Laid.{laid}
use Rattle.dbm_salvage.proofs.ContentParts.{not_behind, part_said, headed_again, clear_again}
use Rattle.dbm_salvage.proofs.LookRuns.{from_test}
use Rattle.dbm_salvage.proofs.contents.read_part.Goals as goal
use Rattle.dbm_salvage.proofs.contents.read_part.Goals.{then-not-is_plain-via-then-not-is_plain, then-not-is_plain-via-else-not-is_plain+then-not-is_clear}

-- there is no such page
pub returns-then-n-eq0-clause-whole : goal.returns-then-n-eq0-clause-whole
returns-then-n-eq0-clause-whole g c honest next part some size says broken =
    ⊎_elim (λ none. absurd (omega (arith, none, some)))
    (λ behind. not_behind (laid c.args.images.now (g.D.SectorDev.seen c.args.dev.now)) c.args.pages c.args.n next
    (filled part) behind.1 says)
    c.then-n-eq0.either

-- it is no content page, or has bytes behind the part
pub returns-then-not-is_plain-clause-whole : goal.returns-then-not-is_plain-clause-whole
returns-then-not-is_plain-clause-whole g c honest next part some size says broken =
    let image = laid c.args.images.now (g.D.SectorDev.seen c.args.dev.now) in
    let bytes = c.read_laid.new.page.bytes in
    let read = from_test c.read_laid.result c.is_err.ensures.value c.if-is_err.false
    (c.read_laid.ensures.read honest) in
    elim c.then-not-is_plain.branch [
      | then-not-is_plain-via-then-not-is_plain w ↦ not_both c.is_plain.result
          (c.is_plain.ensures.plain.1 (headed_again image c.args.pages c.args.n c.args.long bytes
          c.if-n-pages.false (omega arith) (omega arith) c.is_plain.ensures.bytes c.requires.part
          read next part says)) w.if-not-is_plain.true
      | then-not-is_plain-via-else-not-is_plain+then-not-is_clear w ↦ not_both w.is_clear.result
          (w.is_clear.ensures.1 (clear_again image c.args.pages c.args.n c.args.long bytes
          c.if-n-pages.false (omega arith) (omega arith) c.is_plain.ensures.bytes c.requires.part
          read next part size says)) w.if-not-is_clear.true
    ]

pub returns-clause-says : goal.returns-clause-says
returns-clause-says g c honest =
    let image = laid c.args.images.now (g.D.SectorDev.seen c.args.dev.now) in
    let bytes = c.read_laid.new.page.bytes in
    let read = from_test c.read_laid.result c.is_err.ensures.value c.if-is_err.false
    (c.read_laid.ensures.read honest) in
    let part = take c.args.long (drop 16 bytes) in
    let more : c.extend_from_slice.new.self.items ≡ c.args.content.now.items ++ part =
    search rules in (
      part,
      length-part bytes c.args.long (omega arith) c.requires.part,
      more,
      part_said image c.args.pages c.args.n c.args.long bytes c.if-n-pages.false
          (omega arith) (omega arith) c.is_plain.ensures.bytes c.requires.part read
          (c.is_plain.ensures.plain.0 c.if-not-is_plain.false)
          (c.is_clear.ensures.0 c.if-not-is_clear.false)
          ∙ ap (λ (n : ℕ). ContentPage n (filled part)) (sym c.next.ensures),
    )
