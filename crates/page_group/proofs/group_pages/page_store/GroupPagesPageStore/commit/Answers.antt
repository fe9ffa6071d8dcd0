use Rattle.std.proofs.Common.{◌≡◌, inl, inr, ℕ, ◌<◌, ◌≤◌, List, true, false, Result, Ok, Err, OnOk, sym, subst, ◌∙◌, ap, arith}
use Rattle.std.proofs.lemmas.Bool.{false≢true}
use Rattle.std.specs.Result.{is_err}
use Rattle.page_io.specs.Store.{Pages, AllBelow, file_of, bytes_of, has_page, committed_with}
use Rattle.page_io.specs.declared.page.Page.{Page}
use Rattle.page_group.specs.Changed.{changed_pages, put_all}
use Rattle.page_group.specs.Group.{pages_over}
use Rattle.page_group.specs.Over.{Over}
use Rattle.page_group.specs.Whole.{IsWhole}
use Rattle.page_group.proofs.Committed.{committed_now, whole_now}
use Rattle.page_group.proofs.group_pages.page_store.GroupPagesPageStore.commit.Goals as goal

was_ok : {T E P : Type 0} (result : Result T E) → is_err result ≡ false → OnOk result P → P
was_ok (Ok x) is p = p
was_ok (Err e) is p = absurd (false≢true (sym is))

pub invariant_of-self-2 : goal.invariant_of-self-2
invariant_of-self-2 g c =
    let held = c.self.inside.held in
    let over = c.self.invariant.2 in
    let end = c.args.new_end in
    let changed = changed_pages held.changed in
    let staged = bytes_of held.staged.items in
    let base_end = (g.S.PageStore.state c.self.inside.first.value).end in
    let put : changed_pages c.put_all.new.self ≡ put_all changed staged =
    was_ok c.put_all.result (sym c.if-is_err.ensures.value) c.put_all.ensures
    ∙ ap (λ (ps : List Page). put_all changed (bytes_of ps)) c.as_slice.ensures in
    let below = subst (λ (group : Over g.row.S.Denot).
    AllBelow end (bytes_of group.held.staged.items)) (sym c.self.view_is) c.requires.below in
    let grown = subst (λ (group : Over g.row.S.Denot). (n : ℕ) → group.held.end ≤ n → n < end
    → has_page (bytes_of group.held.staged.items) n ≡ true) (sym c.self.view_is) c.requires.grown in
    let whole = over.whole c.if-not-self.false in (
      c.self.invariant.0,
      c.self.invariant.1,
      record {
        ready = over.ready;
        reads = over.reads;
        longer = omega (arith, over.longer, c.if-new_end-held.false);
        whole = λ usable. subst (λ (ps : Pages). IsWhole base_end ps end) (sym put)
            (whole_now (g.S.PageStore.committed c.self.inside.first.value) changed staged
            4294967296 held.end end whole.below held.order below
            c.if-new_end-held.false base_end whole grown);
      },
    )

pub returns-clause-committed : goal.returns-clause-committed
returns-clause-committed g c honest =
    let s = g.S.PageStore in
    let held = c.self.inside.held in
    let base = s.committed c.self.inside.first.value in
    let end = c.args.new_end in
    let changed = changed_pages held.changed in
    let staged = bytes_of held.staged.items in
    let put : changed_pages c.put_all.new.self ≡ put_all changed staged =
    was_ok c.put_all.result (sym c.if-is_err.ensures.value) c.put_all.ensures
    ∙ ap (λ (ps : List Page). put_all changed (bytes_of ps)) c.as_slice.ensures in
    let below = subst (λ (group : Over g.row.S.Denot).
    AllBelow end (bytes_of group.held.staged.items)) (sym c.self.view_is) c.requires.below in
    let grown = subst (λ (group : Over g.row.S.Denot). (n : ℕ) → group.held.end ≤ n → n < end
    → has_page (bytes_of group.held.staged.items) n ≡ true) (sym c.self.view_is) c.requires.grown in
    ap (λ (ps : Pages). committed_with base ps end) put
    ∙ committed_now base changed staged 4294967296 held.end end
    (c.self.invariant.2.whole c.if-not-self.false).below held.order below
    c.if-new_end-held.false grown
    ∙ ap (λ (group : Over g.row.S.Denot).
    committed_with (pages_over s group) (bytes_of group.held.staged.items) end) c.self.view_is

pub returns-clause-any_moment : goal.returns-clause-any_moment
returns-clause-any_moment g c honest usable writable =
    let same = returns-clause-committed g c honest in
    record {
      later = omega arith;
      until = omega arith;
      each = λ y left. inr (left.1 ∙ ap file_of same);
      before = λ t y le left. inr (inr (left.1 ∙ ap file_of same));
    }

pub returns-then-len-room-clause-any_moment : goal.returns-then-len-room-clause-any_moment
returns-then-len-room-clause-any_moment g c honest usable writable =
    let same = ap (λ (group : Over g.row.S.Denot). file_of (pages_over g.S.PageStore group))
    c.self.view_is in
    record {
      later = omega arith;
      until = omega arith;
      each = λ y left. inl (left.1 ∙ same);
      before = λ t y le left. inr (inl (left.1 ∙ same));
    }
