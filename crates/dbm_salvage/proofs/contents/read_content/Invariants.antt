use Rattle.std.proofs.Common.{◌≡◌, ℕ, ◌+◌, ◌-◌, ◌*◌, List, length, vec_len, vec_capacity, ◌≤◌}
use Rattle.content_pages.specs.Contents.{IsContentAt}
use Rattle.content_pages.proofs.ContentWalks.{IsReadTo, IsRest}
use Rattle.dbm_salvage.specs.Laid.{laid}
use Rattle.dbm_salvage.specs.Reads.{Looks}
use Rattle.dbm_salvage.specs.Salvage.{said_in}
use Rattle.dbm_salvage.proofs.contents.read_content.Given as goal

abbrev pub invariant-loop-page : goal.invariant-loop-page
invariant-loop-page g l =
    let dev = g.D.SectorDev in
    let at = said_in (laid l.fn.images (dev.seen l.fn.dev)) l.fn.pages in
    record {
      looks : Looks dev l.fn.dev l.dev;
      capacity : vec_capacity l.fn.content ≤ vec_capacity l.content;
      room : vec_len l.content + l.left ≤ vec_capacity l.content;
      held : length l.content.items + l.left ≡ l.fn.long;
      left : l.left ≡ l.fn.long - 2032 * l._page;
      read : dev.honest l.fn.dev → IsReadTo at l.fn.first l.at l._page l.content.items;
      rest : dev.honest l.fn.dev → (bytes : List ℕ) → length bytes ≡ l.fn.long
          → IsContentAt at l.fn.first bytes → IsRest at l.at l.content.items bytes;
    }
