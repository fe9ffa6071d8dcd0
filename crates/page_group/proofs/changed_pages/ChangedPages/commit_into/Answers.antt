use Rattle.std.proofs.Common.{sym, ◌∙◌, ap, arith, rules}
use Rattle.std.proofs.lemmas.Grind.{common_steps}
use Rattle.page_io.specs.Store.{StoreState}
use Rattle.page_io.proofs.Runs.{kept_either, kept_twice}
use Rattle.page_group.specs.Changed.{changed_pages}
use Rattle.page_group.proofs.Staging.{all_staged, may_commit, commit_leaves, is_usable, of_ok, refused_reads}
use Rattle.page_group.proofs.changed_pages.ChangedPages.commit_into.Goals as goal

pub finish-requires : goal.finish-requires
finish-requires g c =
    let s = g.S.PageStore in
    let old = c.args.store.now in
    let ends = all_staged c.stage_into.result (s.state old) (s.state c.stage_into.new.store)
    (changed_pages c.args.self.now) c.args.new_end c.requires.whole c.requires.longer
    c.stage_into.ensures.stages.only.state c.stage_into.ensures.staged in
    may_commit (s.state c.stage_into.new.store) 1 c.args.new_end
    (of_ok _ c.stage_into.result c.if-is_err.ensures.value ends)
    (sym c.is_staged.ensures ∙ c.if-not-is_staged.false)
    (omega (arith, c.requires.longer, (g.met.S.PageStore.in_range old).0))

pub returns-then-is_err-clause-refused : goal.returns-then-is_err-clause-refused
returns-then-is_err-clause-refused g c = grind (arith, common_steps)

pub returns-in-Ok-clause-done : goal.returns-in-Ok-clause-done
returns-in-Ok-clause-done g c = search rules

pub returns-in-Ok-clause-committed : goal.returns-in-Ok-clause-committed
returns-in-Ok-clause-committed g c = search rules

pub returns-in-Err-clause-refused : goal.returns-in-Err-clause-refused
returns-in-Err-clause-refused g c = search rules

pub returns-in-Err-2-clause-done : goal.returns-in-Err-2-clause-done
returns-in-Err-2-clause-done g c = search rules

pub returns-in-Err-2-clause-committed : goal.returns-in-Err-2-clause-committed
returns-in-Err-2-clause-committed g c = search rules

pub returns-then-is_err-clause-any_moment : goal.returns-then-is_err-clause-any_moment
returns-then-is_err-clause-any_moment g c honest =
    let s = g.S.PageStore in
    let laws = g.met.S.PageStore in
    let old = c.args.store.now in
    let mid = c.stage_into.new.store in
    let stages = c.stage_into.ensures.stages.only in
    let staged_honest = stages.honesty.1 honest in
    kept_either s.committed s.moment s.settled_since s.settles_to old c.unstage.new.self _
    (λ y is. laws.only_committed old y honest c.requires.ready.usable c.requires.ready.writable is)
    (kept_twice s.committed s.moment s.settled_since s.settles_to old mid c.unstage.new.self
    (λ t y le is. laws.counts_now mid t y staged_honest le is) (stages.kept honest)
    (c.unstage.ensures.kept staged_honest))

pub returns-in-Ok-clause-any_moment : goal.returns-in-Ok-clause-any_moment
returns-in-Ok-clause-any_moment g c honest =
    let old = c.args.store.now in
    let mid = c.stage_into.new.store in
    commit_leaves g.S.PageStore old mid c.finish.new.store (g.S.PageStore.state mid).staged
    (changed_pages c.args.self.now) c.args.new_end (g.met.S.PageStore.only_committed old)
    c.stage_into.ensures.stages.only c.finish.ensures.any_moment honest c.requires.ready.usable
    c.requires.ready.writable
    (of_ok _ c.stage_into.result c.if-is_err.ensures.value c.stage_into.ensures.staged)

pub returns-in-Err-clause-any_moment : goal.returns-in-Err-clause-any_moment
returns-in-Err-clause-any_moment g c honest =
    let old = c.args.store.now in
    let mid = c.stage_into.new.store in
    commit_leaves g.S.PageStore old mid c.finish.new.store (g.S.PageStore.state mid).staged
    (changed_pages c.args.self.now) c.args.new_end (g.met.S.PageStore.only_committed old)
    c.stage_into.ensures.stages.only c.finish.ensures.any_moment honest c.requires.ready.usable
    c.requires.ready.writable
    (of_ok _ c.stage_into.result c.if-is_err.ensures.value c.stage_into.ensures.staged)

pub returns-in-Err-2-clause-any_moment : goal.returns-in-Err-2-clause-any_moment
returns-in-Err-2-clause-any_moment g c honest =
    let old = c.args.store.now in
    let mid = c.stage_into.new.store in
    commit_leaves g.S.PageStore old mid c.finish.new.store (g.S.PageStore.state mid).staged
    (changed_pages c.args.self.now) c.args.new_end (g.met.S.PageStore.only_committed old)
    c.stage_into.ensures.stages.only c.finish.ensures.any_moment honest c.requires.ready.usable
    c.requires.ready.writable
    (of_ok _ c.stage_into.result c.if-is_err.ensures.value c.stage_into.ensures.staged)

pub returns-in-Err-2-clause-refused : goal.returns-in-Err-2-clause-refused
returns-in-Err-2-clause-refused g c is =
    let s = g.S.PageStore in
    let laws = g.met.S.PageStore in
    let mid = c.stage_into.new.store in
    let stages = c.stage_into.ensures.stages.only in
    let usable = is_usable (s.state c.finish.new.store).usable c.if-is_broken.ensures.1 in
    refused_reads s c.args.store.now mid c.finish.new.store laws.counts_now
    (λ h. laws.committed_may_stay mid h
    (ap (λ (st : StoreState). st.usable) stages.state ∙ c.requires.ready.usable))
    c.requires.ready.idle stages c.in-Err-2.field-0 usable c.in-Err-2.ensures.err c.finish.ensures.honesty c.finish.ensures.later
    (λ h. c.in-Err-2.ensures.kept h usable)
    (λ h. c.in-Err-2.ensures.unchanged h
    (ap (λ (st : StoreState). st.usable) stages.state ∙ c.requires.ready.usable)
    (ap (λ (st : StoreState). st.writable) stages.state ∙ c.requires.ready.writable) usable)
