use Rattle.std.proofs.Common.{◌≡◌, ◌∙◌, arith}
use Rattle.page_io.specs.Page.{own_number}
use Rattle.page_io.specs.Views.{body_at, StagesOnly}
use Rattle.page_io.proofs.Views.{after_stage, staged_said, others_said}
use Rattle.free_pages.proofs.FreeLists.{given_reads}
use Rattle.free_pages.proofs.OneStage.{few_staged, may_still_end}
use Rattle.free_pages.proofs.FreePageTexts.{own_again, made_says}
use Rattle.free_pages.proofs.free_list.give.Given.{Over}
use Rattle.free_pages.proofs.free_list.give.Goals as goal

own : (g : Over) (c : goal.After-space-2-1 g) → own_number c.plain-page.result.bytes ≡ c.args.n
own g c = own_again c.plain-page.result.bytes _ c.args.n 5 c.args.space.now.head (omega arith)
    c.plain-page.ensures

staged_only : (g : Over) (c : goal.After-space-2-1 g)
    → StagesOnly g.S.PageStore c.args.store.now c.stage.new.self
staged_only g c =
    let done = c.stage.ensures in
    after_stage g.S.PageStore c.args.store.now c.stage.new.self c.plain-page.result.bytes
    c.stage.result (g.met.S.PageStore.counts_now c.stage.new.self) done.ok done.err done.honesty
    done.faults done.kept

pub stage-requires-clause-number : goal.stage-requires-clause-number
stage-requires-clause-number g c =
    own_again c.plain-page.result.bytes _ c.args.n 5 c.args.space.now.head (omega arith)
    c.plain-page.ensures

pub returns-clause-few : goal.returns-clause-few
returns-clause-few g c =
    let old = c.args.store.now in
    few_staged (g.S.PageStore.state old) (g.S.PageStore.state c.stage.new.self)
    c.plain-page.result.bytes (g.met.S.PageStore.in_order old) c.in_ok-stage.ensures.ok

pub returns-clause-free : goal.returns-clause-free
returns-clause-free g c honest =
    let old = c.args.store.now in
    let bytes = c.plain-page.result.bytes in
    staged_said g.S.PageStore old c.stage.new.self c.args.n bytes (staged_only g c) honest
    (g.met.S.PageStore.in_order old) c.in_ok-stage.ensures.ok (own g c)
    ∙ made_says bytes c.args.n c.args.space.now.head (omega arith) (omega arith)
    c.plain-page.ensures

pub returns-clause-others : goal.returns-clause-others
returns-clause-others g c honest m other =
    others_said g.S.PageStore c.args.store.now c.stage.new.self c.args.n m c.plain-page.result.bytes
    (staged_only g c) honest c.in_ok-stage.ensures.ok (own g c) other

pub returns-clause-may_end : goal.returns-clause-may_end
returns-clause-may_end g c lt may =
    may_still_end (g.S.PageStore.state c.args.store.now) (g.S.PageStore.state c.stage.new.self)
    c.args.space.now.file_end c.plain-page.result.bytes may (omega (arith, own g c))
    c.in_ok-stage.ensures.ok

pub returns-clause-exact : goal.returns-clause-exact
returns-clause-exact g c honest s list apart =
    given_reads (body_at g.S.PageStore c.args.store.now) (body_at g.S.PageStore c.stage.new.self)
    c.args.space.now s c.args.n list apart (returns-clause-free g c honest)
    (returns-clause-others g c honest)
