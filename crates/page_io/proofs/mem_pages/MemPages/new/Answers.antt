use Rattle.std.proofs.Common.{◌+◌, ◌++◌, ◌∙◌, ◌^◌, List, length, ap}
use Rattle.page_io.specs.Store.{bytes_of, are_in_order}
use Rattle.page_io.specs.declared.page.Page.{Page}
use Rattle.page_io.proofs.Memory.{first_pages, fills, state_is, least_end, end_fits, capacity_fits}
use Rattle.page_io.proofs.mem_pages.MemPages.new.Goals as goal

pub invariant_of-result : goal.invariant_of-result
invariant_of-result c =
    let all = c.in_ok-extend_from_slice.ensures.items in
    let filled = fills _ _ c.args.pages.now _ _ c.args.capacity all c.in_ok-all.ensures.items
    c.as_slice.ensures.len c.in_ok-room.ensures.len c.requires.fits in
    record {
      least = least_end (length c.args.pages.now) c.requires.least;
      room = end_fits (length c.args.pages.now) _ c.args.capacity c.requires.fits filled;
      fits = capacity_fits _ c.args.capacity (2 ^ 32) c.ranges.capacity.fits filled;
      order = ap (λ (ps : List Page). are_in_order 1 (2 ^ 32) (bytes_of ps)) c.new.ensures.items;
    }

pub returns-clause-state : goal.returns-clause-state
returns-clause-state c =
    let all = c.in_ok-extend_from_slice.ensures.items in
    let filled = fills _ _ c.args.pages.now _ _ c.args.capacity all c.in_ok-all.ensures.items
    c.as_slice.ensures.len c.in_ok-room.ensures.len c.requires.fits in
    state_is (bytes_of c.new.result.items) (length c.args.pages.now + 1) _ c.args.capacity
    (ap bytes_of c.new.ensures.items) filled

pub returns-clause-committed : goal.returns-clause-committed
returns-clause-committed c = first_pages _ c.args.pages.now c.as_slice.result.now
    (c.in_ok-extend_from_slice.ensures.items
    ∙ ap (λ (ps : List Page). ps ++ c.as_slice.result.now) c.in_ok-all.ensures.items)
