use Rattle.std.proofs.Common.{◌≡◌, take}
use Rattle.page_io.specs.Store.{bytes_of}
use Rattle.page_group.specs.Changed.{changed_pages, put_all}
use Rattle.page_group.proofs.changed_pages.ChangedPages.put_all.Given as goal

abbrev pub invariant-loop-page : goal.invariant-loop-page
invariant-loop-page l = changed_pages l.self
    ≡ put_all (changed_pages l.fn.self) (bytes_of (take l.page-index l.pages))
