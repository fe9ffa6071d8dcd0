use Rattle.page_io.proofs.page.Page.slots.Goals as goal

pub returns : goal.returns
returns c = c.u16_at.ensures
