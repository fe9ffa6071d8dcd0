use Rattle.std.proofs.Common.{inl, ap, ◌∙◌, refl}
use Rattle.dbm_file.proofs.Settled.{still_stands}
use Rattle.dbm_file.proofs.database.Database.sync.Goals as goal

pub returns-in-Ok-clause-stays : goal.returns-in-Ok-clause-stays
returns-in-Ok-clause-stays g c honest =
    let done = c.settle.ensures in
    still_stands g.S.PageStore c.args.self.now _ c.settle.result refl honest (done.any_moment honest)
    (done.committed honest) done.ok done.breaks
    (λ is. ap (λ store. (g.S.PageStore.state store).usable) (done.untouched (inl (done.answer.broken.0 is)))
    ∙ done.answer.broken.0 is)
    done.answer.only
    (λ t y. g.met.S.PageStore.counts_now c.settle.new.self t y (done.honesty.1 honest))

pub returns-in-Err-clause-stays : goal.returns-in-Err-clause-stays
returns-in-Err-clause-stays g c honest =
    let done = c.settle.ensures in
    still_stands g.S.PageStore c.args.self.now _ c.settle.result refl honest (done.any_moment honest)
    (done.committed honest) done.ok done.breaks
    (λ is. ap (λ store. (g.S.PageStore.state store).usable) (done.untouched (inl (done.answer.broken.0 is)))
    ∙ done.answer.broken.0 is)
    done.answer.only
    (λ t y. g.met.S.PageStore.counts_now c.settle.new.self t y (done.honesty.1 honest))
