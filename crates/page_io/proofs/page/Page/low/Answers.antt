use Rattle.page_io.proofs.page.Page.low.Goals as goal

pub returns : goal.returns
returns c = c.u16_at.ensures
