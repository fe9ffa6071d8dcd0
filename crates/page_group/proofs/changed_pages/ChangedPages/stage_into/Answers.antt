use Rattle.std.proofs.Common.{◌≡◌, List, [], ◌∷◌, ◌++◌, sym, ◌∙◌, ap, arith, rules, append_assoc}
use Rattle.std.proofs.lemmas.Map.Iter.{rest_more, rest_all}
use Rattle.std.specs.Global.{Box}
use Rattle.std.specs.Map.Iter.{deref}
use Rattle.std.specs.BTreeMap.{values}
use Rattle.page_io.specs.Page.{own_number}
use Rattle.page_io.specs.Store.{Pages, StoreState, put_page, are_in_order}
use Rattle.page_io.specs.declared.page.Page.{Page}
use Rattle.page_io.proofs.Exits.{exit_is}
use Rattle.page_io.proofs.Views.{stages_then, after_stage}
use Rattle.page_group.specs.Changed.{changed_pages}
use Rattle.page_group.proofs.Entries.{bytes_in, bytes_in-values}
use Rattle.page_group.proofs.Putting.{order_middle, put_last}
use Rattle.page_group.proofs.Staging.{none_yet, not_staged}
use Rattle.page_group.proofs.changed_pages.ChangedPages.stage_into.Goals as goal

pub loop-page-init : goal.loop-page-init
loop-page-init g c =
    let entries = c.args.self.now.pages.entries in
    let all : c.into_iter-page-iterator.result ≡ values c.args.self.now.pages = search rules in
    record {
      stages = none_yet g.S.PageStore c.args.store.now
          (g.met.S.PageStore.only_now c.args.store.now);
      staged = ap (λ (ps : Pages). ps ++ bytes_in c.into_iter-page-iterator.result) c.requires
          ∙ ap bytes_in all ∙ bytes_in-values entries;
    }

pub stage-requires-clause-some : goal.stage-requires-clause-some
stage-requires-clause-some g c =
    let staged = (g.S.PageStore.state c.loop-page.store).staged in
    let one = c.in-Some.page.now in
    let more = rest_more deref c.loop-page.page-iterator c.next.new.self c.next.result c.in-Some.page
    c.in-Some.is c.next.ensures.steps in
    let joined : staged ++ one.value.bytes ∷ bytes_in c.next.new.self
    ≡ changed_pages c.args.self.now =
    ap (λ (boxes : List (Box Page)). staged ++ bytes_in boxes) (sym more)
    ∙ c.loop-page.invariant.staged in
    let some = order_middle 1 4294967296 staged one.value.bytes (bytes_in c.next.new.self)
    (ap (are_in_order 1 4294967296) joined ∙ c.args.self.now.order) in
    omega (
      arith,
      some,
      c.own.ensures.number,
      ap (λ (page : Page). own_number page.bytes) c.deref.ensures,
    )

pub loop-page-preserved : goal.loop-page-preserved
loop-page-preserved g c =
    let st = g.S.PageStore in
    let staged = (st.state c.loop-page.store).staged in
    let one = c.in-Some.page.now in
    let page = c.deref-in-loop-page.result.now in
    let rest = c.next.new.self in
    let told = c.stage.ensures in
    let more = rest_more deref c.loop-page.page-iterator rest c.next.result c.in-Some.page
    c.in-Some.is c.next.ensures.steps in
    let joined : staged ++ one.value.bytes ∷ bytes_in rest ≡ changed_pages c.args.self.now =
    ap (λ (boxes : List (Box Page)). staged ++ bytes_in boxes) (sym more)
    ∙ c.loop-page.invariant.staged in
    record {
      stages = stages_then st _ _ _ (g.met.S.PageStore.counts_now c.loop-page.store)
          c.loop-page.invariant.stages
          (after_stage st c.loop-page.store c.stage.new.self page.bytes c.stage.result
          (g.met.S.PageStore.counts_now c.stage.new.self) told.ok told.err told.honesty told.faults
          told.kept);
      staged = ap (λ (state : StoreState). state.staged ++ bytes_in rest) c.in_ok-stage.ensures.ok
          ∙ ap (λ (p : Page). put_page staged p.bytes ++ bytes_in rest) c.deref-in-loop-page.ensures
          ∙ ap (λ (ps : Pages). ps ++ bytes_in rest)
          (put_last 1 4294967296 staged one.value.bytes (bytes_in rest)
          (ap (are_in_order 1 4294967296) joined ∙ c.args.self.now.order))
          ∙ append_assoc staged (one.value.bytes ∷ []) (bytes_in rest) ∙ joined;
    }

pub returns-clause-staged : goal.returns-clause-staged
returns-clause-staged g c =
    let staged = (g.S.PageStore.state c.loop-page.store).staged in
    let none = rest_all deref c.loop-page.page-iterator c.next.new.self c.next.result c.in-None.is
    c.next.ensures.steps in
    let same : staged ++ [] ≡ staged = search rules in
    sym same ∙ ap (λ (boxes : List (Box Page)). staged ++ bytes_in boxes) (sym none)
    ∙ c.loop-page.invariant.staged

-- one is not staged
pub returns-in_err-stage-clause-answer : goal.returns-in_err-stage-clause-answer
returns-in_err-stage-clause-answer g c =
    let st = g.S.PageStore in
    let told = c.in_err-stage.ensures in
    let result = c.from_residual in
    let exit = exit_is result.result c.in_err-stage.field-0.0 result.ensures.1 in
    not_staged result.result c.in_err-stage.field-0.0 st.reserved c.own.result
    (st.state c.args.store.now) (st.state c.loop-page.store) (st.state c.stage.new.self) exit
    (ap (λ (state : StoreState). state.usable) c.loop-page.invariant.stages.state)
    told.err told.answer
