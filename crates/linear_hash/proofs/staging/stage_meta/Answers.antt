use Rattle.std.proofs.Common.{◌∙◌, length, ap, arith}
use Rattle.page_io.specs.Store.{StoreState}
use Rattle.page_io.specs.Views.{StagesOnly}
use Rattle.page_io.proofs.Views.{after_stage, staged_said, others_said, length-put}
use Rattle.page_io.proofs.OwnNumbers.{own_same}
use Rattle.linear_hash.proofs.MetaStaging.{can_commit}
use Rattle.linear_hash.proofs.staging.stage_meta.Given.{Over}
use Rattle.linear_hash.proofs.staging.stage_meta.Goals as goal

pub stage-requires-clause-number : goal.stage-requires-clause-number
stage-requires-clause-number g c =
    own_same c.write_meta.new.page.bytes ∙ c.write_meta.ensures.number

stages_one : (g : Over) (c : goal.In_ok-stage g)
    → StagesOnly g.S.PageStore c.args.store.now c.stage.new.self
stages_one g c =
    let done = c.stage.ensures in
    after_stage g.S.PageStore c.args.store.now c.stage.new.self c.write_meta.new.page.bytes
    c.stage.result (g.met.S.PageStore.counts_now c.stage.new.self) done.ok done.err done.honesty
    done.faults done.kept

pub returns-clause-may_commit : goal.returns-clause-may_commit
returns-clause-may_commit g c may =
    let bytes = c.write_meta.new.page.bytes in
    record {
      may_commit = can_commit _ _ c.args.space.file_end bytes
          (g.met.S.PageStore.in_range c.args.store.now).0
          (own_same bytes ∙ c.write_meta.ensures.number) c.in_ok-stage.ensures.ok may;
      grows = may.least;
    }

pub returns-clause-few : goal.returns-clause-few
returns-clause-few g c = omega (
  arith,
  ap (λ (s : StoreState). length s.staged) c.in_ok-stage.ensures.ok,
  length-put (g.S.PageStore.state c.args.store.now).staged c.write_meta.new.page.bytes
      (g.met.S.PageStore.in_order c.args.store.now),
)

pub returns-clause-page : goal.returns-clause-page
returns-clause-page g c honest =
    let bytes = c.write_meta.new.page.bytes in
    staged_said g.S.PageStore c.args.store.now c.stage.new.self 1 bytes (stages_one g c) honest
    (g.met.S.PageStore.in_order c.args.store.now) c.in_ok-stage.ensures.ok
    (own_same bytes ∙ c.write_meta.ensures.number)
    ∙ c.write_meta.ensures.body

pub returns-clause-others : goal.returns-clause-others
returns-clause-others g c honest n other =
    let bytes = c.write_meta.new.page.bytes in
    others_said g.S.PageStore c.args.store.now c.stage.new.self 1 n bytes (stages_one g c) honest
    c.in_ok-stage.ensures.ok (own_same bytes ∙ c.write_meta.ensures.number) other
