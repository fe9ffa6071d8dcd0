use Rattle.std.proofs.Common.{sym, subst}
use Rattle.page_io.specs.Store.{StoreState}
use Rattle.page_io.specs.Views.{MayEnd}
use Rattle.bucket_chain.proofs.staging.stage_page.Goals as goal

pub returns-clause-may_end : goal.returns-clause-may_end
returns-clause-may_end g c end below may =
    subst (λ (st : StoreState). MayEnd st end) (sym c.tell.ensures.reads.same)
    (c.stage_own.ensures.may_end end below may)
