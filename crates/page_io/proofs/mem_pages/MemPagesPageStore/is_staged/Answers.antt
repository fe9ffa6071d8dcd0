use Rattle.std.proofs.Common.{List, ◌∙◌, ap}
use Rattle.page_io.specs.Store.{bytes_of, has_page}
use Rattle.page_io.specs.declared.page.Page.{Page}
use Rattle.page_io.proofs.mem_pages.MemPagesPageStore.is_staged.Goals as goal

pub returns : goal.returns
returns c = c.is_among.ensures
    ∙ ap (λ (ps : List Page). has_page (bytes_of ps) c.args.n) c.as_slice.ensures
