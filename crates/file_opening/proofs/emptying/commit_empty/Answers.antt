use Rattle.std.proofs.Common.{◌≡◌, ◌⊎◌, ⊎_elim, ◌+◌, ◌≤◌, true, IfOk, IfErr, OnErr, ◌∙◌, ap}
use Rattle.std.specs.Prelude.{IsErrOf}
use Rattle.sect_dev.specs.Device.{LeavesOnly}
use Rattle.page_io.specs.Store.{StoreState, bytes_of, file_of}
use Rattle.page_io.specs.declared.store.PageFault.TheVariants.{NoRoom}
use Rattle.page_io.specs.Committing.{IsForgotten}
use Rattle.seg_table.specs.MetaPages.{model_meta}
use Rattle.page_io.proofs.CommitResults.{commit_ok}
use Rattle.file_opening.proofs.EmptyCommits.{may_commit, committed_state, forgotten_since, cause_of, only_of, no_room_of, no_room_or_room, room_of_ok, left_by_refusal, unchanged_since}
use Rattle.file_opening.proofs.EmptyFiles.{holds_empty, leaves_old_or_empty}
use Rattle.page_io.proofs.Exits.{both_ways}
use Rattle.file_opening.proofs.Refusals.{each_err}
use Rattle.file_opening.proofs.emptying.commit_empty.Given.{Over}
use Rattle.file_opening.proofs.emptying.commit_empty.Goals as goal

pub returns-clause-holds : goal.returns-clause-holds
returns-clause-holds g c honest =
    let staged = c.stage_empty-staged.ensures in
    let made = c.pages_of_empty.ensures in
    commit_ok _ c.stage_empty-staged.result c.finish.result c.finish.ensures.refused staged.staged
    (c.finish.ensures.committed (staged.stages.honesty.1 honest))
    (holds_empty g.S.PageStore c.args.store.now c.stage_empty-staged.new.store c.finish.new.store
    (model_meta c.args.meta.now) (bytes_of c.pages_of_empty.result) staged.stages honest
    made.stands made.meta made.numbers)

-- what was forgotten since the start, what a refusal left, and whether there was room
is_forgotten : (g : Over) (c : goal.After-finish g)
    → IfErr c.finish.result (IsForgotten (g.S.PageStore.state c.args.store.now)
    (g.S.PageStore.state c.finish.new.store))
is_forgotten g c =
    let state = g.S.PageStore.state in
    each_err c.finish.result c.finish.ensures.err
    (λ e is forgotten. forgotten_since (state c.args.store.now)
    (state c.stage_empty-staged.new.store) (state c.finish.new.store)
    c.stage_empty-staged.ensures.stages.state e forgotten)

since_unchanged : (g : Over) (c : goal.After-finish g) → g.S.PageStore.honest c.args.store.now
    → OnErr c.finish.result ((g.S.PageStore.state c.finish.new.store).usable ≡ true →
    LeavesOnly g.S.PageStore.moment g.S.PageStore.settled_since c.args.store.now c.finish.new.store
    (λ y. y ≡ file_of (g.S.PageStore.committed c.args.store.now)))
since_unchanged g c honest =
    let staged = c.stage_empty-staged.ensures in
    unchanged_since g.S.PageStore c.args.store.now c.stage_empty-staged.new.store c.finish.new.store
    c.finish.result _ staged.stages honest
    (λ y is. g.met.S.PageStore.only_committed c.args.store.now y honest c.requires.ready.usable
    c.requires.ready.writable is)
    (c.finish.ensures.unchanged (staged.stages.honesty.1 honest)
    (ap (λ (st : StoreState). st.usable) staged.stages.state ∙ c.requires.ready.usable)
    (ap (λ (st : StoreState). st.writable) staged.stages.state ∙ c.requires.ready.writable))

has_room : (g : Over) (c : goal.After-finish g) → IsErrOf c.finish.result NoRoom
    ⊎ IfOk c.stage_empty-staged.result
    (λ end. (g.S.PageStore.state c.args.store.now).end + 3
    ≤ (g.S.PageStore.state c.args.store.now).capacity)
has_room g c =
    let state = g.S.PageStore.state in
    let staged = c.stage_empty-staged.ensures in
    no_room_or_room c.stage_empty-staged.result c.finish.result (state c.args.store.now)
    (state c.stage_empty-staged.new.store) (bytes_of c.pages_of_empty.result)
    staged.stages.state (g.met.S.PageStore.in_range c.args.store.now).0
    c.pages_of_empty.ensures.numbers staged.staged c.finish.ensures.answer
    (ap (λ (st : StoreState). st.usable) staged.stages.state ∙ c.requires.ready.usable)
    (ap (λ (st : StoreState). st.writable) staged.stages.state ∙ c.requires.ready.writable)

pub returns-clause-any_moment : goal.returns-clause-any_moment
returns-clause-any_moment g c honest =
    let staged = c.stage_empty-staged.ensures in
    let made = c.pages_of_empty.ensures in
    let usable = ap (λ (st : StoreState). st.usable) staged.stages.state
    ∙ c.requires.ready.usable in
    let writable = ap (λ (st : StoreState). st.writable) staged.stages.state
    ∙ c.requires.ready.writable in
    let h1 = staged.stages.honesty.1 honest in
    ⊎_elim
    (λ none. left_by_refusal g.S.PageStore c.args.store.now c.finish.new.store c.finish.result _
    (model_meta c.args.meta.now).bounds none c.requires.ready.usable (is_forgotten g c)
    (since_unchanged g c honest))
    (λ due. leaves_old_or_empty g.S.PageStore c.args.store.now c.stage_empty-staged.new.store
    c.finish.new.store (model_meta c.args.meta.now) (bytes_of c.pages_of_empty.result)
    staged.stages honest made.stands made.meta made.numbers
    c.stage_empty-staged.result due staged.staged
    (λ y is. g.met.S.PageStore.only_committed c.args.store.now y honest c.requires.ready.usable
    c.requires.ready.writable is)
    (c.finish.ensures.any_moment h1 usable writable))
    (has_room g c)

pub pages_of_empty-requires-clause-limited : goal.pages_of_empty-requires-clause-limited
pages_of_empty-requires-clause-limited g c = c.requires.limited

pub pages_of_empty-requires-clause-fresh : goal.pages_of_empty-requires-clause-fresh
pages_of_empty-requires-clause-fresh g c = c.requires.fresh

pub stage_empty-staged-requires-clause-idle : goal.stage_empty-staged-requires-clause-idle
stage_empty-staged-requires-clause-idle g c = c.requires.ready.idle

pub stage_empty-staged-requires-clause-numbers : goal.stage_empty-staged-requires-clause-numbers
stage_empty-staged-requires-clause-numbers g c = c.pages_of_empty.ensures.numbers

pub finish-requires : goal.finish-requires
finish-requires g c =
    let mid = c.stage_empty-staged.new.store in
    may_commit c.stage_empty-staged.result (g.S.PageStore.state mid) _
    c.stage_empty-staged.ensures.staged c.pages_of_empty.ensures.numbers
    (g.met.S.PageStore.in_range mid).0

pub returns-clause-ok : goal.returns-clause-ok
returns-clause-ok g c =
    let state = g.S.PageStore.state in
    let staged = c.stage_empty-staged.ensures in
    commit_ok _ c.stage_empty-staged.result c.finish.result c.finish.ensures.refused staged.staged
    c.finish.ensures.ok
    (λ end is done. committed_state (state c.args.store.now) (state c.stage_empty-staged.new.store)
    (state c.finish.new.store) staged.stages.state end c.requires.ready.idle is.0 done)

pub returns-clause-err : goal.returns-clause-err
returns-clause-err g c = is_forgotten g c

pub returns-clause-room : goal.returns-clause-room
returns-clause-room g c = room_of_ok _ c.stage_empty-staged.result c.finish.result _
    c.finish.ensures.refused (has_room g c)

pub returns-clause-cause : goal.returns-clause-cause
returns-clause-cause g c =
    let staged = c.stage_empty-staged.ensures in
    let done = c.finish.ensures in
    cause_of _ c.stage_empty-staged.result c.finish.result _ _ _ done.refused staged.only done.cause
    staged.stages.later done.later

pub returns-clause-honesty : goal.returns-clause-honesty
returns-clause-honesty g c = both_ways c.finish.ensures.honesty
    c.stage_empty-staged.ensures.stages.honesty

pub returns-clause-only : goal.returns-clause-only
returns-clause-only g c =
    let staged = c.stage_empty-staged.ensures in
    let done = c.finish.ensures in
    only_of _ c.stage_empty-staged.result c.finish.result
    (g.S.PageStore.state c.stage_empty-staged.new.store) done.refused staged.only
    (λ broken. staged.broken broken c.requires.ready.usable) done.answer
    (ap (λ (st : StoreState). st.usable) staged.stages.state ∙ c.requires.ready.usable)
    (ap (λ (st : StoreState). st.writable) staged.stages.state ∙ c.requires.ready.writable)

pub returns-clause-no_room : goal.returns-clause-no_room
returns-clause-no_room g c is =
    let state = g.S.PageStore.state in
    let staged = c.stage_empty-staged.ensures in
    let done = c.finish.ensures in
    no_room_of _ c.stage_empty-staged.result c.finish.result (state c.args.store.now)
    (state c.stage_empty-staged.new.store) _ staged.stages.state
    (g.met.S.PageStore.in_range c.args.store.now).0 c.pages_of_empty.ensures.numbers
    done.refused staged.only staged.staged done.answer is

pub returns-clause-unchanged : goal.returns-clause-unchanged
returns-clause-unchanged g c honest = since_unchanged g c honest
