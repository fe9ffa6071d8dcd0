use Rattle.page_io.proofs.page.Page.next.Goals as goal

pub returns : goal.returns
returns c = c.u32_at.ensures
