use Rattle.std.proofs.Common.{ℕ, sym, subst, ◌∙◌, ap, arith}
use Rattle.page_model.specs.Pages.{Body}
use Rattle.page_io.specs.Store.{StoreState}
use Rattle.page_io.specs.Views.{body_at, MayEnd}
use Rattle.page_io.specs.declared.store.PageFault.TheVariants.{Damaged}
use Rattle.page_io.proofs.Views.{stages_then, same_said, known_below}
use Rattle.page_io.proofs.Exits.{exit_is, came}
use Rattle.free_pages.specs.declared.free_state.FreeState.{FreeState}
use Rattle.free_pages.specs.FreeList.{IsFreeList}
use Rattle.content_pages.proofs.ContentGivings.{giving_goes_on, giving_ends, those_given, no_more, next_given}
use Rattle.content_pages.proofs.StagedCounts.{few_more}
use Rattle.content_pages.proofs.giving.give_content.Goals as goal

pub loop-page-preserved : goal.loop-page-preserved
loop-page-preserved g c =
    let st = g.S.PageStore in
    let so_far = c.loop-page.invariant in
    let read = c.in_ok-next.ensures.reads.only in
    let ok = c.in_ok-give.ensures.ok in
    record {
      stages = stages_then st _ _ _ (g.met.S.PageStore.counts_now c.read_page.new.store)
          (stages_then st _ _ _ (g.met.S.PageStore.counts_now c.loop-page.store) so_far.stages
          read.stages_only) c.in_ok-give.ensures.stages;
      few = few_more (st.state c.args.store.now) (st.state c.loop-page.store)
          (st.state c.read_page.new.store) c.loop-page._page _ so_far.few read.same
          c.in_ok-give.ensures.few;
      ends = λ _. (
        λ none. absurd (omega (
          arith,
          none,
          ap (λ (t : FreeState). t.head) ok,
          c.in_ok-next.ensures.known.0,
        )),
        λ none. absurd (omega (arith, none, ap (λ (t : FreeState). t.count) ok)),
      );
      end = ap (λ (t : FreeState). t.file_end) ok ∙ so_far.end;
      may_end = λ may.
          let before = so_far.may_end may in
          c.in_ok-give.ensures.may_end (known_below _ _ _ before c.in_ok-next.ensures.known.1)
          (subst (λ (x : StoreState). MayEnd x c.loop-page.given.file_end) (sym read.same) before);
      given = λ honest.
          let h1 = so_far.stages.honesty.1 honest in
          let h2 = read.stages_only.honesty.1 h1 in
          let same = same_said st _ _ read h1 in
          giving_goes_on (body_at st c.args.store.now) (body_at st c.loop-page.store)
          (body_at st c.give.new.store) c.args.space.now c.loop-page.given c.give.new.space
          c.args.first c.loop-page.at c.loop-page._page c.in_ok-next.next (so_far.given honest)
          (record { bytes = _; says = c.in_ok-next.ensures.says h1 })
          c.in_ok-next.ensures.known.0 (c.in_ok-give.ensures.free h2)
          (λ m other. c.in_ok-give.ensures.others h2 m other ∙ ap (λ (f : ℕ → Body). f m) same)
          ok (λ s is apart. c.in_ok-give.ensures.exact h2 s
          (subst (λ (f : ℕ → Body). IsFreeList f c.loop-page.given s) (sym same) is) apart);
    }

-- the page is one of the content's
pub returns-in_err-next-clause-whole : goal.returns-in_err-next-clause-whole
returns-in_err-next-clause-whole g c honest pages s are list apart fits damaged =
    let so_far = c.loop-page.invariant in
    let result = c.from_residual in
    let exit = exit_is result.result c.in_err-next.field-0.0 result.ensures.1 in
    let here = next_given _ _ _ _ _ _ _ _ (so_far.given honest) pages are s apart
    (omega (arith, c.loop-page-test.true, c.pages_for-page-end.ensures.number)) in
    c.in_err-next.ensures.whole (so_far.stages.honesty.1 honest) here.next here.some here.is
    (came _ _ exit Damaged damaged)

-- there are as many pages
pub returns-then-at-ne0-clause-whole : goal.returns-then-at-ne0-clause-whole
returns-then-at-ne0-clause-whole g c honest pages s are list apart fits damaged =
    c.if-at-ne0.true (no_more _ _ _ _ _ _ _ _ (c.loop-page.invariant.given honest) pages are
    (omega (
      arith,
      c.loop-page-test.false,
      c.pages_for-page-end.ensures.number,
      c.loop-page.auto._page-end,
    )))

pub returns-clause-given : goal.returns-clause-given
returns-clause-given g c honest =
    giving_ends _ _ _ _ _ _ _ c.args.long (c.loop-page.invariant.given honest) c.if-at-ne0.false
    (omega (
      arith,
      c.loop-page-test.false,
      c.pages_for-page-end.ensures.number,
      c.loop-page.auto._page-end,
    ))

pub returns-clause-exact : goal.returns-clause-exact
returns-clause-exact g c honest pages are =
    those_given _ _ _ _ _ _ _ c.args.long (c.loop-page.invariant.given honest) pages are
    (omega (
      arith,
      c.loop-page-test.false,
      c.pages_for-page-end.ensures.number,
      c.loop-page.auto._page-end,
    ))
