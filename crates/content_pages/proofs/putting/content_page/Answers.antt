use Rattle.std.proofs.Common.{◌≡◌, ◌++◌, take, arith}
use Rattle.page_model.specs.PageBodies.{filled}
use Rattle.page_model.specs.Spelling.{header}
use Rattle.free_pages.proofs.FreePageTexts.{own_again}
use Rattle.content_pages.proofs.ContentTexts.{content_made, made_says}
use Rattle.content_pages.proofs.putting.content_page.Goals as goal

made : (c : goal.After-put) → c.put.new.self.bytes
    ≡ header c.args.own 6 0 c.args.next 0 ++ filled (take 2032 c.args.bytes.now)
made c = content_made c.plain-page.result.bytes c.args.bytes.now c.put.new.self.bytes c.args.own
    c.args.next c.min.result c.plain-page.ensures c.min.ensures c.put.ensures

pub returns-clause-own : goal.returns-clause-own
returns-clause-own c = own_again c.put.new.self.bytes _ c.args.own 6 c.args.next (omega arith)
    (made c)

pub returns-clause-says : goal.returns-clause-says
returns-clause-says c = made_says c.put.new.self.bytes c.args.bytes.now c.args.own c.args.next
    (omega arith) (omega arith) (made c)
