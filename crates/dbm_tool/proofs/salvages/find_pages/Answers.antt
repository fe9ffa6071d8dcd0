use Rattle.std.proofs.Common.{◌≡◌, Option, Some, None, IfSome, subst, arith}
use Rattle.page_io.specs.Store.{bytes_of}
use Rattle.page_io.proofs.StagedPages.{order_wider}
use Rattle.dbm_tool.proofs.salvages.find_pages.Goals as goal

some_at : {T : Type 0} (P : T → Type 0) (o : Option T) (x : T) → o ≡ Some x → IfSome o P → P x
some_at P (Some y) x is p = subst P (cc) p
some_at P None x is p = cc

-- the numbers of a log's pages are below the file's end
pub of_log-requires : goal.of_log-requires
of_log-requires c =
    let file = c.in-Ok.file in
    let log = some_at _ c.args.layout.log c.in-Some.start c.in-Some.is c.requires.log in
    order_wider 1 file.end 4294967296 (bytes_of file.redo.items)
    (omega (arith, c.in-Ok.ensures.end, log, c.args.dev.now.fits)) c.in-Ok.ensures.rising
