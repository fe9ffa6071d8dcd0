use Rattle.std.proofs.Common.{◌≡◌, ◌∙◌, ◌+◌, ◌-◌, ◌<◌, ◌≤◌, ℕ, Result, IfOk, OnOk, true, ⊎_elim, is_some, sym, ap, subst, arith}
use Rattle.std.specs.FinMap.{get, remove}
use Rattle.sect_dev.specs.Device.{LeavesOnly}
use Rattle.std.proofs.lemmas.Result.{on_err_weaker, on_ok_weaker}
use Rattle.dbm_model.specs.Pairs.{Contents}
use Rattle.dbm_model.specs.Sizes.{home}
use Rattle.page_model.specs.Placement.{Placement, contents, delete}
use Rattle.page_io.specs.Store.{StoreState}
use Rattle.page_io.specs.Views.{body_at}
use Rattle.page_io.specs.declared.store.PageFault.TheVariants.{Memory, Damaged}
use Rattle.page_io.specs.declared.store.PageFault.{PageFault}
use Rattle.seg_table.specs.MetaPages.{model_meta}
use Rattle.linear_hash.specs.Tables.{shape_in, IsTable}
use Rattle.page_io.specs.Committing.{Holds}
use Rattle.linear_hash.specs.Holding.{StandsForEither}
use Rattle.linear_hash.specs.Staging.{IsKept, IsNewEnd, IsStaged}
use Rattle.page_io.proofs.CommitResults.{commit_ok}
use Rattle.linear_hash.proofs.Commits.{committed_so, can_commit_so, grows_so}
use Rattle.linear_hash.proofs.Changing.{never_damaged, never_memory, few_staged, ok_then, grows_to, ends_within, lacks_twice, short_by, commit_holds, staged_stands, leaves_either, leaves_old, told_by, no_room_by}
use Rattle.linear_hash.proofs.Plans.{now, was_placed, deleted_good, deleted_map, deleted_bounded}
use Rattle.linear_hash.proofs.Tables.{is_table}
use Rattle.linear_hash.proofs.Written.{written_committed}
use Rattle.linear_hash.proofs.changes.commit_delete.Given.{Over}
use Rattle.linear_hash.proofs.changes.commit_delete.Goals.{After-finish}
use Rattle.linear_hash.proofs.changes.commit_delete.Goals as goal

-- the plan of the change: the placement that the pages say, and that without the key
module _ (g : Over) (c : After-finish g) (map : Contents)
    (holds : Holds g.S.PageStore c.args.store.now (model_meta c.args.meta.now) map) where
  abbrev plan : Placement
  plan = now g.S.PageStore c.args.store.now (model_meta c.args.meta.now) map holds

  table : IsTable (body_at g.S.PageStore c.args.store.now) (model_meta c.args.meta.now)
      (g.S.PageStore.state c.args.store.now).end plan
  table = is_table g.S.PageStore c.args.store.now (model_meta c.args.meta.now) map holds
      (g.met.S.PageStore.ends c.args.store.now) c.requires.idle

  bounded : (delete plan c.args.key.now).space.end ≤ home (model_meta c.args.meta.now).bounds
  bounded = deleted_bounded g.S.PageStore c.args.store.now (model_meta c.args.meta.now) map holds
      c.args.key.now

  module _ (was : is_some (get map c.args.key.now) ≡ true) where
    there : is_some (get (contents plan) c.args.key.now) ≡ true
    there = sym (was_placed g.S.PageStore c.args.store.now (model_meta c.args.meta.now) map holds
        c.args.key.now true (sym was))

    moments : g.S.PageStore.honest c.args.store.now
        → (g.S.PageStore.state c.args.store.now).usable ≡ true
        → LeavesOnly g.S.PageStore.moment g.S.PageStore.settled_since c.args.store.now
        c.finish.new.store (StandsForEither map (model_meta c.args.meta.now).bounds
        (remove map c.args.key.now) (model_meta c.args.meta.now).bounds)
    moments honest usable =
        let staged = c.stage_delete-staged.ensures in
        let then = staged_stands g.S.PageStore c.stage_delete-staged.new.store
        (model_meta c.stage_delete-staged.new.meta) (delete plan c.args.key.now)
        (remove map c.args.key.now) (model_meta c.args.meta.now).bounds c.stage_delete-staged.result
        (deleted_good g.S.PageStore c.args.store.now (model_meta c.args.meta.now) map holds
        c.args.key.now) (deleted_map g.S.PageStore c.args.store.now
        (model_meta c.args.meta.now) map holds c.args.key.now)
        (staged.exact honest plan table there).0
        (on_ok_weaker c.stage_delete-staged.result (λ kept. kept.bounds) staged.kept) in
        leaves_either g.S.PageStore c.args.store.now c.stage_delete-staged.new.store
        c.finish.new.store c.stage_delete-staged.result c.finish.result staged.stages.only honest
        map
        (remove map c.args.key.now) (model_meta c.args.meta.now).bounds holds.stands
        (λ y is. g.met.S.PageStore.only_committed c.args.store.now y honest usable
        c.requires.writable is) (model_meta c.args.meta.now).bounds then
        (c.finish.ensures.any_moment (staged.stages.only.honesty.1 honest)
        (ap (λ (st : StoreState). st.usable) staged.stages.only.state ∙ usable)
        (ap (λ (st : StoreState). st.writable) staged.stages.only.state ∙ c.requires.writable))

-- how it ends on any device
pub returns-clause-ends : goal.returns-clause-ends
returns-clause-ends g c =
    let staged = c.stage_delete-staged.ensures in
    let done = c.finish.ensures in
    committed_so g.S.PageStore _ _ c.finish.new.store _ c.stage_delete-staged.result c.finish.result
    staged.stages.only c.requires.idle c.requires.writable staged.answer.change staged.stages.cause
    (on_ok_weaker c.stage_delete-staged.result (λ kept. kept.valid) staged.kept) done.refused
    done.ok done.err
    done.answer done.cause done.later done.honesty done.kept

one_less : {n m : ℕ} → n ≡ m - 1 → 0 < m → n + 1 ≡ m
one_less is some = omega (arith, is, some)

-- what is kept of the meta page
kept_then : (g : Over) (c : After-finish g) → OnOk c.finish.result
    (IsKept (model_meta c.args.meta.now) (model_meta c.stage_delete-staged.new.meta)
    (c.args.meta.now.pairs - 1) (shape_in (model_meta c.args.meta.now)))
kept_then g c = ok_then _ _ _ c.finish.result c.finish.ensures.refused
    c.stage_delete-staged.ensures.kept

pub returns-clause-bounds : goal.returns-clause-bounds
returns-clause-bounds g c = on_ok_weaker c.finish.result (λ kept. kept.bounds) (kept_then g c)

pub returns-clause-pairs : goal.returns-clause-pairs
returns-clause-pairs g c = on_ok_weaker c.finish.result
    (λ kept. one_less kept.pairs c.requires.some) (kept_then g c)

pub returns-clause-shape : goal.returns-clause-shape
returns-clause-shape g c = on_ok_weaker c.finish.result (λ kept. kept.shaped) (kept_then g c)

pub returns-clause-no_memory : goal.returns-clause-no_memory
returns-clause-no_memory g c honest p table near is =
    c.stage_delete-staged.ensures.no_memory honest p table near
    (told_by g.S.PageStore _ _ c.finish.new.store c.stage_delete-staged.result
    c.finish.result c.stage_delete-staged.ensures.stages.only _ Memory never_memory
    c.finish.ensures.answer c.finish.ensures.refused is)

pub returns-clause-memory : goal.returns-clause-memory
returns-clause-memory g c is =
    c.stage_delete-staged.ensures.answer.memory
    (told_by g.S.PageStore _ _ c.finish.new.store c.stage_delete-staged.result
    c.finish.result c.stage_delete-staged.ensures.stages.only _ Memory never_memory
    c.finish.ensures.answer c.finish.ensures.refused is)

-- the staged pages are few
pub returns-clause-room : goal.returns-clause-room
returns-clause-room g c room =
    let st = g.S.PageStore in
    let staged = c.stage_delete-staged.ensures in
    ⊎_elim
    (λ early. absurd (staged.answer.no_room early))
    (λ late.
    let end = subst (λ (r : Result ℕ PageFault).
    IfOk r (λ end. end ≡ (st.state c.args.store.now).end)) late.1 staged.end in
    omega (
      arith,
      late.2,
      end,
      staged.few,
      ap (λ (s : StoreState). s.end) staged.stages.only.state,
      ap (λ (s : StoreState). s.capacity) staged.stages.only.state,
    ))
    (no_room_by st _ _ c.finish.new.store c.stage_delete-staged.result c.finish.result
    staged.stages.only _ c.finish.ensures.answer c.finish.ensures.refused room)

pub returns-clause-turns : goal.returns-clause-turns
returns-clause-turns g c honest usable map holds was =
    let staged = c.stage_delete-staged.ensures in
    record {
      done =
          let q = delete (plan g c map holds) c.args.key.now in
          let good = deleted_good g.S.PageStore c.args.store.now (model_meta c.args.meta.now) map
          holds c.args.key.now in
          let is = deleted_map g.S.PageStore c.args.store.now (model_meta c.args.meta.now) map holds
          c.args.key.now in
          subst (λ (changed : Contents).
          OnOk c.finish.result (Holds g.S.PageStore c.finish.new.store
          (model_meta c.stage_delete-staged.new.meta) changed)) is
          (commit_ok _ c.stage_delete-staged.result c.finish.result c.finish.ensures.refused
          (staged.exact honest (plan g c map holds) (table g c map holds)
          (there g c map holds was)).0
          (c.finish.ensures.committed (staged.stages.only.honesty.1 honest))
          (λ end body_at committed. commit_holds g.S.PageStore c.stage_delete-staged.new.store _
          end q good body_at c.finish.new.store committed));
      bounds = returns-clause-bounds g c;
      kept = (returns-clause-ends g c).kept honest;
      any_moment = moments g c map holds was honest usable;
      unchanged =
          on_err_weaker c.finish.result
          (λ run usable_now. leaves_old g.S.PageStore c.args.store.now
          c.stage_delete-staged.new.store c.finish.new.store c.stage_delete-staged.result
          c.finish.result staged.stages.only honest map map (model_meta c.args.meta.now).bounds
          holds.stands
          (λ y is. g.met.S.PageStore.only_committed c.args.store.now y honest usable
          c.requires.writable is) (run usable_now))
          (c.finish.ensures.unchanged (staged.stages.only.honesty.1 honest)
          (ap (λ (st : StoreState). st.usable) staged.stages.only.state ∙ usable)
          (ap (λ (st : StoreState). st.writable) staged.stages.only.state
          ∙ c.requires.writable));
      whole = λ damaged.
          let early = told_by g.S.PageStore _ _ c.finish.new.store c.stage_delete-staged.result
          c.finish.result c.stage_delete-staged.ensures.stages.only _ Damaged never_damaged
          c.finish.ensures.answer c.finish.ensures.refused damaged in
          (c.stage_delete-staged.ensures.exact honest (plan g c map holds)
          (table g c map holds) (there g c map holds was)).1 early;
      grows =
          let p = plan g c map holds in
          let in_table = table g c map holds in
          grows_to _ _ (delete p c.args.key.now) (g.S.PageStore.state c.args.store.now)
          (g.S.PageStore.state c.stage_delete-staged.new.store)
          (g.S.PageStore.state c.finish.new.store) 0 _ c.stage_delete-staged.result
          c.finish.result c.finish.ensures.refused c.finish.ensures.ok
          (grows_so _ _ c.stage_delete-staged.result staged.may_commit)
          (staged.exact honest p in_table (there g c map holds was)).0
          (omega (arith, in_table.ends));
      bounded =
          let p = plan g c map holds in
          ends_within _ _ (delete p c.args.key.now)
          (g.S.PageStore.state c.stage_delete-staged.new.store)
          (g.S.PageStore.state c.finish.new.store) _ _ c.stage_delete-staged.result c.finish.result
          c.finish.ensures.refused c.finish.ensures.ok
          (staged.exact honest p (table g c map holds) (there g c map holds was)).0
          (bounded g c map holds);
      no_room = λ room.
          let in_table = table g c map holds in
          let end = (delete (plan g c map holds) c.args.key.now).space.end in
          let by = no_room_by g.S.PageStore _ _ c.finish.new.store c.stage_delete-staged.result
          c.finish.result staged.stages.only _ c.finish.ensures.answer
          c.finish.ensures.refused room in
          short_by _ end _ _ _ _ (⊎_elim (λ early. absurd (staged.answer.no_room early))
          (λ late.
          let is = subst (λ (q : Result ℕ PageFault).
          IfOk q (λ end. IsStaged (body_at g.S.PageStore c.stage_delete-staged.new.store)
          (model_meta c.stage_delete-staged.new.meta) end
          (delete (plan g c map holds) c.args.key.now))) late.1
          (staged.exact honest (plan g c map holds) in_table (there g c map holds was)).0 in
          let can = subst (λ (q : Result ℕ PageFault).
          IfOk q (IsNewEnd (g.S.PageStore.state c.args.store.now)
          (g.S.PageStore.state c.stage_delete-staged.new.store))) late.1
          staged.may_commit in
          let few = few_staged 1 late.0 _
          (g.met.S.PageStore.in_order c.stage_delete-staged.new.store) can.may_commit.below
          (omega (arith, can.may_commit.least)) in
          let short = lacks_twice (g.S.PageStore.state c.stage_delete-staged.new.store) late.0 _
          late.2 (omega (
            arith,
            can.grows,
            ap (λ (st : StoreState). st.end)
                staged.stages.only.state,
          ))
          few
          (ap (λ (st : StoreState). st.capacity) staged.stages.only.state) in
          omega (arith, short, is.ends)) by) (bounded g c map holds)
          (omega (arith, in_table.ends));
    }

pub returns-clause-deleted : goal.returns-clause-deleted
returns-clause-deleted g c honest =
    let staged = c.stage_delete-staged.ensures in
    let h1 = staged.stages.only.honesty.1 honest in
    written_committed g.S.PageStore c.stage_delete-staged.new.store c.finish.new.store _ _ _ _
    c.stage_delete-staged.result c.finish.result c.finish.ensures.refused
    (can_commit_so _ _ c.stage_delete-staged.result staged.may_commit)
    (c.finish.ensures.committed h1) c.finish.ensures.ok (staged.deleted honest)
