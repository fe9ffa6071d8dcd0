use Rattle.std.proofs.Common.{List, map, Option, Ok, Err, sym, ap, subst, ◌∙◌}
use Rattle.std.specs.Prelude.{IfSome}
use Rattle.std.proofs.lemmas.List.{take-map}
use Rattle.dbm_model.specs.Pairs.{Pair}
use Rattle.page_io.specs.Views.{ReadsOnly}
use Rattle.page_group.specs.Ending.{IsCommit}
use Rattle.page_group.specs.Group.{pages_over}
use Rattle.dbm_fault.specs.declared.fault.Fault.{Fault}
use Rattle.dbm_file.specs.GroupsInMemory.{StoresMany, EndsLent}
use Rattle.dbm_file.specs.Database.{page_state, store_of}
use Rattle.dbm_file.specs.Pairs.{pair_of}
use Rattle.dbm_file.proofs.GroupLoans.{lent_none, lent_refused, lent_done, lent_broke}
use Rattle.dbm_file.proofs.ReadSteps.{not_broken}
use Rattle.dbm_file.proofs.groups.store_lent.Goals as goal

pub returns-in-Ok-2-clause-ends : goal.returns-in-Ok-2-clause-ends
returns-in-Ok-2-clause-ends g c =
    let s = g.S.PageStore in
    lent_none s c.args.base.now c.into_base.result.now c.args.meta.now
    (subst (λ (o : Option g.row.S.Denot). IfSome o (λ first.
    ReadsOnly s first c.into_base.result.now)) c.requires.lent c.into_base.ensures.reads)
    (map pair_of c.args.pairs.now)

pub returns-clause-ends : goal.returns-clause-ends
returns-clause-ends g c =
    let s = g.S.PageStore in
    lent_refused s c.args.base.now c.into_base-in-Err.result.now c.args.meta.now
    (subst (λ (o : Option g.row.S.Denot). IfSome o (λ first.
    ReadsOnly s first c.into_base-in-Err.result.now)) c.requires.lent c.into_base-in-Err.ensures.reads)
    (map pair_of c.args.pairs.now) _

pub returns-in-Ok-true-clause-ends : goal.returns-in-Ok-true-clause-ends
returns-in-Ok-true-clause-ends g c =
    let s = g.S.PageStore in
    let last = c.fill-filled.new.group in
    let begun = c.group_over-group.ensures in
    let filled = c.in-Ok.ensures in
    let pairs = c.args.pairs.now in
    lent_done s c.args.base.now c.commit_all-base.result.base.now c.args.meta.now _
    c.group_over-group.result last begun.begins begun.is_at filled.goes
    (not_broken _ _ c.is_broken.ensures c.if-not-is_broken.true) (map pair_of pairs) c.in-Ok.count
    (subst (λ (ps : List Pair). StoresMany c.group_over-group.result last ps)
    (sym (take-map pair_of c.in-Ok.count pairs)) filled.stored)
    c.commit_all-base.result.done
    (subst (λ (o : Option g.row.S.Denot). IfSome o (λ first. IsCommit s first
    c.commit_all-base.result.base.now (pages_over s (store_of last)) (page_state last).end
    c.commit_all-base.result.done)) c.requires.lent c.commit_all-base.ensures.commits)
    g.met.S.PageStore.only_committed (c.in-Ok-true.is ∙ ap Ok c.in-Ok-true.field-0-test)

pub returns-in-Ok-false-clause-ends : goal.returns-in-Ok-false-clause-ends
returns-in-Ok-false-clause-ends g c =
    let s = g.S.PageStore in
    let last = c.fill-filled.new.group in
    let commits = subst (λ (o : Option g.row.S.Denot). IfSome o (λ first. IsCommit s first
    c.commit_all-base.result.base.now (pages_over s (store_of last)) (page_state last).end
    c.commit_all-base.result.done)) c.requires.lent c.commit_all-base.ensures.commits in
    lent_none s c.args.base.now c.commit_all-base.result.base.now c.args.meta.now
    (commits.refused (c.in-Ok-false.is ∙ ap Ok c.in-Ok-false.field-0-test)) (map pair_of c.args.pairs.now)

pub returns-in-Ok-clause-ends : goal.returns-in-Ok-clause-ends
returns-in-Ok-clause-ends g c =
    let s = g.S.PageStore in
    let last = c.fill-filled.new.group in
    let begun = c.group_over-group.ensures in
    let filled = c.in-Ok.ensures in
    let pairs = c.args.pairs.now in
    subst (λ (fault : Fault). EndsLent s c.args.base.now c.commit_all-base.result.base.now
    c.args.meta.now c.args.meta.now (map pair_of pairs) (Err fault)) (sym c.from.ensures)
    (lent_broke s c.args.base.now c.commit_all-base.result.base.now c.args.meta.now _
    c.group_over-group.result last begun.begins begun.is_at filled.goes
    (not_broken _ _ c.is_broken.ensures c.if-not-is_broken.true) (map pair_of pairs) c.in-Ok.count
    (subst (λ (ps : List Pair). StoresMany c.group_over-group.result last ps)
    (sym (take-map pair_of c.in-Ok.count pairs)) filled.stored)
    c.commit_all-base.result.done
    (subst (λ (o : Option g.row.S.Denot). IfSome o (λ first. IsCommit s first
    c.commit_all-base.result.base.now (pages_over s (store_of last)) (page_state last).end
    c.commit_all-base.result.done)) c.requires.lent c.commit_all-base.ensures.commits)
    c.in-Err-done.fault c.in-Err-done.is)
