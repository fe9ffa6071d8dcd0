use Rattle.std.proofs.Common.{◌≡◌, ℕ, Option, get_or, ◌+◌, ap, ◌∙◌, arith}
use Rattle.std.specs.Option.{unwrap_or}
use Rattle.page_io.specs.Views.{body_at, StagesOnly}
use Rattle.page_io.proofs.Views.{stages_then, after_stage, staged_said, others_said}
use Rattle.free_pages.proofs.OneStage.{few_staged}
use Rattle.content_pages.proofs.ContentWrites.{made_for_place, writing_goes_on, writing_ends, one_staged}
use Rattle.content_pages.proofs.StagedCounts.{few_next}
use Rattle.content_pages.proofs.putting.write_content.Given.{Over}
use Rattle.content_pages.proofs.putting.write_content.Goals as goal

staged_only : (g : Over) (c : goal.In_ok-stage g)
    → StagesOnly g.S.PageStore c.loop-i.store c.stage.new.self
staged_only g c =
    let done = c.stage.ensures in
    after_stage g.S.PageStore c.loop-i.store c.stage.new.self c.content_page-page.result.bytes
    c.stage.result (g.met.S.PageStore.counts_now c.stage.new.self) done.ok done.err done.honesty
    done.faults done.kept

next_is : (g : Over) (c : goal.In_ok-stage g)
    → c.unwrap_or-next.result ≡ get_or c.args.pages.now (c.loop-i.i + 1) 0
next_is g c =
    c.unwrap_or-next.ensures ∙ ap (λ (o : Option ℕ). unwrap_or o 0) c.copied.ensures
    ∙ c.get.ensures.lookup.4 (omega arith) 0

pub loop-i-preserved : goal.loop-i-preserved
loop-i-preserved g c =
    let st = g.S.PageStore in
    let so_far = c.loop-i.invariant in
    let bytes = c.content_page-page.result.bytes in
    let own = c.content_page-page.ensures.own in
    let ok = c.in_ok-stage.ensures.ok in
    let pages = c.args.pages.now in
    let content = c.args.content.now in
    let n = get_or c.args.pages.now c.loop-i.i 0 in
    record {
      stages = stages_then st _ _ _ (g.met.S.PageStore.counts_now c.loop-i.store) so_far.stages
          (staged_only g c);
      few = few_next (st.state c.args.store.now) (st.state c.loop-i.store) c.loop-i.i _ so_far.few
          (few_staged (st.state c.loop-i.store) (st.state c.stage.new.self) bytes
          (g.met.S.PageStore.in_order c.loop-i.store) ok);
      faults = c.in_ok-stage.ensures.faults ∙ so_far.faults;
      may_end = λ end may. one_staged (st.state c.loop-i.store) (st.state c.stage.new.self) pages
          bytes c.loop-i.i n end c.loop-i-test.true (λ _. n) (so_far.may_end end may) own ok;
      written = λ honest apart.
          let h1 = so_far.stages.honesty.1 honest in
          writing_goes_on (body_at st c.args.store.now) (body_at st c.loop-i.store)
          (body_at st c.stage.new.self) pages content c.loop-i.i c.loop-i-test.true apart
          (so_far.written honest apart)
          (staged_said st c.loop-i.store c.stage.new.self n bytes (staged_only g c) h1
          (g.met.S.PageStore.in_order c.loop-i.store) ok own
          ∙ made_for_place _ pages content c.loop-i.i c.unwrap_or-next.result
          c.content_page-page.ensures.says (next_is g c))
          (λ m other. others_said st c.loop-i.store c.stage.new.self n m bytes (staged_only g c) h1
          ok own other);
    }

pub returns-clause-written : goal.returns-clause-written
returns-clause-written g c honest apart =
    writing_ends _ _ c.args.pages.now c.args.content.now c.loop-i.i
    (c.loop-i.invariant.written honest apart) c.loop-i-test.false
