use Rattle.std.proofs.Common.{rules}
use Rattle.dbm_file.proofs.GroupEnds.{broken_refuses, group_refused, group_flagged}
use Rattle.dbm_file.proofs.ReadSteps.{no_read, not_broken}
use Rattle.dbm_fault.specs.declared.fault.Fault.TheVariants.{Broken, ReadOnly}
use Rattle.dbm_file.proofs.database.Database.store_many.Goals as goal

pub returns-then-is_broken-clause-ends : goal.returns-then-is_broken-clause-ends
returns-then-is_broken-clause-ends g c honest h at =
    let s = g.S.PageStore in
    let db = c.args.self.now in
    group_flagged s db db h _ _ _ c.refuse.new.error Broken c.refuse.ensures.flag _
    c.refuse.result c.refuse.ensures.answer
    (broken_refuses s db h at (c.is_broken.ensures.0 c.if-is_broken.true) _)

pub returns-then-not-self-clause-ends : goal.returns-then-not-self-clause-ends
returns-then-not-self-clause-ends g c honest h at =
    let s = g.S.PageStore in
    let db = c.args.self.now in
    group_flagged s db db h _ _ _ c.refuse-then-not-self.new.error ReadOnly
    c.refuse-then-not-self.ensures.flag _ c.refuse-then-not-self.result
    c.refuse-then-not-self.ensures.answer
    (group_refused s db db h at honest
    (not_broken _ _ c.is_broken.ensures c.if-is_broken.false)
    (no_read s db (λ y e left. g.met.S.PageStore.only_now db.store y e left)) _ ReadOnly)

pub returns-in-Err-clause-ends : goal.returns-in-Err-clause-ends
returns-in-Err-clause-ends g c honest h at =
    group_flagged g.S.PageStore c.args.self.now c.store_group.new.self h _ _ _
    c.refuse-in-Err.new.error c.in-Err.fault c.refuse-in-Err.ensures.flag _
    c.refuse-in-Err.result c.refuse-in-Err.ensures.answer (c.in-Err.ensures.ends honest h at)

pub returns-in-Err-clause-read_only : goal.returns-in-Err-clause-read_only
returns-in-Err-clause-read_only g c = search rules

pub returns-in-Ok-clause-read_only : goal.returns-in-Ok-clause-read_only
returns-in-Ok-clause-read_only g c = search rules

pub store_group-requires-clause-writable : goal.store_group-requires-clause-writable
store_group-requires-clause-writable g c = search rules

pub returns-in-Ok-clause-ends : goal.returns-in-Ok-clause-ends
returns-in-Ok-clause-ends g c honest h at = c.in-Ok.ensures.ends honest h at
