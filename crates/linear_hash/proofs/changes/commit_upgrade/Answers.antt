use Rattle.std.proofs.Common.{◌≡◌, ◌∙◌, ◌≤◌, ℕ, [], Result, Ok, Err, IfOk, IfErr, OnOk, ⊎_elim, refl, sym, ap, subst, arith}
use Rattle.std.proofs.lemmas.Result.{on_err_weaker}
use Rattle.dbm_model.specs.Bounds.{upgraded}
use Rattle.dbm_model.specs.Pairs.{Contents}
use Rattle.page_model.specs.Pages.{Meta}
use Rattle.page_model.specs.Placement.{Placement, raised}
use Rattle.page_io.specs.Store.{StoreState, Settled, file_of}
use Rattle.page_io.specs.Views.{body_at}
use Rattle.page_io.specs.declared.store.PageFault.TheVariants.{Damaged}
use Rattle.page_io.specs.declared.store.PageFault.{PageFault}
use Rattle.page_io.proofs.Exits.{last_not_damaged, last_has_room}
use Rattle.seg_table.specs.MetaPages.{model_meta}
use Rattle.page_io.specs.Committing.{Holds, MayCommit}
use Rattle.page_io.proofs.CommitResults.{commit_ok}
use Rattle.linear_hash.specs.Staging.{IsStaged}
use Rattle.linear_hash.specs.Tables.{space_in, IsTable}
use Rattle.linear_hash.proofs.Commits.{committed_so}
use Rattle.linear_hash.proofs.Refusals.{stage_answers}
use Rattle.page_model.specs.Valid.{IsMeta}
use Rattle.linear_hash.proofs.Changing.{never_damaged, few_staged, ok_then, grows_to, ends_within, lacks_twice, short_by, commit_holds, staged_stands, leaves_either, leaves_old, told_by, no_room_by}
use Rattle.linear_hash.proofs.Plans.{now}
use Rattle.linear_hash.proofs.Stagings.{staged_at_last, staged_ok}
use Rattle.linear_hash.proofs.Tables.{is_table, map_placed}
use Rattle.linear_hash.proofs.Upgrades.{raised_valid, raised_meta, raised_good, raised_map, raised_midway, raised_bounded, Unchanged, upgraded_so}
use Rattle.linear_hash.proofs.Written.{written_committed, written_so}
use Rattle.linear_hash.proofs.changes.commit_upgrade.Given.{Over}
use Rattle.linear_hash.proofs.changes.commit_upgrade.Goals.{After-finish}
use Rattle.linear_hash.proofs.changes.commit_upgrade.Goals as goal

on_ok : {P : Type 0} {T E : Type 0} (result : Result T E) → P → OnOk result P
on_ok (Ok x) holds = holds
on_ok (Err e) holds = tt

least : (end : ℕ) (r : Result ℕ PageFault) → IfOk r (λ e. e ≡ end) → IfOk r (λ e. end ≤ e)
least end (Ok e) same = omega (arith, same)
least end (Err e) same = tt

-- the file ends where it ended
same_end : (new mid : StoreState) (end : ℕ) (A : PageFault → Type 0) (r : Result ℕ PageFault)
    (result : Result Unit PageFault) → IfErr r (λ e. (result ≡ Err e) × A e)
    → IfOk r (λ e. OnOk result (new ≡ record mid { staged = []; end = e }))
    → IfOk r (λ e. e ≡ end) → OnOk result (new.end ≡ end)
same_end new mid end A (Ok e) (Ok done) refused is same = ap (λ (s : StoreState). s.end) is ∙ same
same_end new mid end A r (Err e) refused is same = tt
same_end new mid end A (Err e) (Ok done) refused is same = absurd (let x = refused.0 in cc)

-- how it ends on any device
pub returns-clause-ends : goal.returns-clause-ends
returns-clause-ends g c =
    let staged = c.stage_upgrade-staged.ensures in
    let done = c.finish.ensures in
    committed_so g.S.PageStore _ _ c.finish.new.store _ c.stage_upgrade-staged.result
    c.finish.result staged.stages.only c.requires.idle c.requires.writable
    (stage_answers _ _ _ _ _ refl staged.answer) staged.stages.cause
    (on_ok c.stage_upgrade-staged.result (subst IsMeta (sym staged.meta)
    (raised_valid _ c.requires.valid))) done.refused done.ok done.err done.answer done.cause
    done.later done.honesty done.kept

-- the meta page alone is staged
pub returns-clause-room : goal.returns-clause-room
returns-clause-room g c room =
    let st = g.S.PageStore in
    let staged = c.stage_upgrade-staged.ensures in
    ⊎_elim
    (λ early. absurd (last_has_room _ _ _ _ staged.answer early))
    (λ late.
    let end = subst (λ (r : Result ℕ PageFault).
    IfOk r (λ end. end ≡ (st.state c.args.store.now).end)) late.1 staged.end in
    omega (
      arith,
      late.2,
      end,
      staged.few,
      ap (λ (s : StoreState). s.end) staged.stages.only.state,
      ap (λ (s : StoreState). s.capacity) staged.stages.only.state,
    ))
    (no_room_by st _ _ c.finish.new.store c.stage_upgrade-staged.result c.finish.result
    staged.stages.only _ c.finish.ensures.answer c.finish.ensures.refused room)

-- on any file: the meta page is staged with the bounds of version 2, and then it is committed
pub returns-clause-upgraded : goal.returns-clause-upgraded
returns-clause-upgraded g c honest =
    let st = g.S.PageStore in
    let staged = c.stage_upgrade-staged.ensures in
    let m = model_meta c.args.meta.now in
    let end = (st.state c.args.store.now).end in
    let after = model_meta c.stage_upgrade-staged.new.meta in
    let old = body_at st c.args.store.now in
    let new = body_at st c.stage_upgrade-staged.new.store in
    let h1 = staged.stages.only.honesty.1 honest in
    let written = staged_ok c.stage_upgrade-staged.result
    (λ page last is. written_so (Unchanged old) old new (raised_meta m) after
    (space_in m end) last refl staged.meta is page (staged.others honest)
    (raised_meta m) (λ i. record {
      bounds = (ap (λ (n : Meta). n.bounds) staged.meta) i;
      pairs = after.pairs;
      level = (ap (λ (n : Meta). n.level) staged.meta) i;
      split = (ap (λ (n : Meta). n.split) staged.meta) i;
      free_head = after.free_head;
      free_count = after.free_count;
      segments = (ap (λ (n : Meta). n.segments) staged.meta) i;
    })) (staged.page honest) staged.end in
    upgraded_so old (body_at st c.finish.new.store) m after end _ c.finish.result
    (same_end (st.state c.finish.new.store) (st.state c.stage_upgrade-staged.new.store) _ _
    c.stage_upgrade-staged.result c.finish.result
    c.finish.ensures.refused c.finish.ensures.ok staged.end)
    (on_ok c.finish.result staged.meta)
    (written_committed st c.stage_upgrade-staged.new.store c.finish.new.store _ _ _ _
    c.stage_upgrade-staged.result c.finish.result c.finish.ensures.refused staged.may_commit
    (c.finish.ensures.committed h1) c.finish.ensures.ok written)

-- the plan of the change: the placement that the pages say
module _ (g : Over) (c : After-finish g) (map : Contents)
    (holds : Holds g.S.PageStore c.args.store.now (model_meta c.args.meta.now) map) where
  abbrev plan : Placement
  plan = now g.S.PageStore c.args.store.now (model_meta c.args.meta.now) map holds

  table : IsTable (body_at g.S.PageStore c.args.store.now) (model_meta c.args.meta.now)
      (g.S.PageStore.state c.args.store.now).end plan
  table = is_table g.S.PageStore c.args.store.now (model_meta c.args.meta.now) map holds
      (g.met.S.PageStore.ends c.args.store.now) c.requires.idle

  is_staged : g.S.PageStore.honest c.args.store.now → IfOk c.stage_upgrade-staged.result (λ end.
      IsStaged (body_at g.S.PageStore c.stage_upgrade-staged.new.store)
      (model_meta c.stage_upgrade-staged.new.meta) end (raised plan))
  is_staged honest =
      let staged = c.stage_upgrade-staged.ensures in
      let m = model_meta c.args.meta.now in
      let end = (g.S.PageStore.state c.args.store.now).end in
      staged_ok c.stage_upgrade-staged.result
      (λ page last is. staged_at_last _ (raised_meta m) (space_in m end) (raised plan)
      (raised_midway _ _ _ plan table) (ap (λ (n : Meta). n.pairs) table.meta_is) _ _ last
      staged.meta is page (staged.others honest)) (staged.page honest) staged.end

pub returns-clause-turns : goal.returns-clause-turns
returns-clause-turns g c honest usable map holds =
    let st = g.S.PageStore in
    let staged = c.stage_upgrade-staged.ensures in
    let p = plan g c map holds in
    let q = raised p in
    let good = raised_good p holds.stands.good in
    let is = raised_map p map holds.stands.good
    (map_placed st c.args.store.now (model_meta c.args.meta.now) map holds) in
    let there = is_staged g c map holds honest in
    let old = (model_meta c.args.meta.now).bounds in
    let wanted = upgraded old in
    let bounds = on_ok c.stage_upgrade-staged.result
    (ap (λ (m : Meta). m.bounds) staged.meta) in
    let bounded = raised_bounded _ _ _ p (table g c map holds) in
    let usable_then = ap (λ (s : StoreState). s.usable) staged.stages.only.state ∙ usable in
    let writable_then = ap (λ (s : StoreState). s.writable) staged.stages.only.state
    ∙ c.requires.writable in
    let h1 = staged.stages.only.honesty.1 honest in
    let only : (y : Settled) → st.settles_to c.args.store.now y
    → y ≡ file_of (st.committed c.args.store.now) =
    λ y settles. g.met.S.PageStore.only_committed c.args.store.now y honest usable
    c.requires.writable settles in
    record {
      done = subst (λ (changed : Contents).
          OnOk c.finish.result (Holds st c.finish.new.store
          (model_meta c.stage_upgrade-staged.new.meta) changed)) is
          (commit_ok _ c.stage_upgrade-staged.result c.finish.result c.finish.ensures.refused there
          (c.finish.ensures.committed h1)
          (λ end spelled committed. commit_holds st c.stage_upgrade-staged.new.store _
          end q good spelled c.finish.new.store committed));
      bounds = ok_then _ _ _ c.finish.result c.finish.ensures.refused bounds;
      kept = (returns-clause-ends g c).kept honest;
      any_moment = leaves_either st c.args.store.now c.stage_upgrade-staged.new.store
          c.finish.new.store c.stage_upgrade-staged.result c.finish.result staged.stages.only
          honest map
          map old holds.stands only wanted
          (staged_stands st c.stage_upgrade-staged.new.store
          (model_meta c.stage_upgrade-staged.new.meta) q map wanted
          c.stage_upgrade-staged.result good is there bounds)
          (c.finish.ensures.any_moment h1 usable_then writable_then);
      unchanged = on_err_weaker c.finish.result
          (λ run usable_now. leaves_old st c.args.store.now
          c.stage_upgrade-staged.new.store c.finish.new.store c.stage_upgrade-staged.result
          c.finish.result staged.stages.only honest map map old holds.stands only (run usable_now))
          (c.finish.ensures.unchanged h1 usable_then writable_then);
      whole = λ damaged.
          let early = told_by st _ _ c.finish.new.store c.stage_upgrade-staged.result
          c.finish.result staged.stages.only _ Damaged never_damaged
          c.finish.ensures.answer c.finish.ensures.refused damaged in
          last_not_damaged _ _ _ _ staged.answer early;
      grows = grows_to _ _ q (st.state c.args.store.now)
          (st.state c.stage_upgrade-staged.new.store) (st.state c.finish.new.store) 0 _
          c.stage_upgrade-staged.result c.finish.result c.finish.ensures.refused
          c.finish.ensures.ok (least _ c.stage_upgrade-staged.result staged.end) there
          (omega (arith, (table g c map holds).ends));
      bounded = ends_within _ _ q (st.state c.stage_upgrade-staged.new.store)
          (st.state c.finish.new.store) _ _ c.stage_upgrade-staged.result c.finish.result
          c.finish.ensures.refused c.finish.ensures.ok there bounded;
      no_room = λ room.
          let by = no_room_by st _ _ c.finish.new.store c.stage_upgrade-staged.result
          c.finish.result staged.stages.only _ c.finish.ensures.answer
          c.finish.ensures.refused room in
          short_by _ q.space.end _ _ _ _ (⊎_elim
          (λ early. absurd (last_has_room _ _ _ _ staged.answer early))
          (λ late.
          let placed = subst (λ (r : Result ℕ PageFault).
          IfOk r (λ end. IsStaged (body_at st c.stage_upgrade-staged.new.store)
          (model_meta c.stage_upgrade-staged.new.meta) end q)) late.1 there in
          let can = subst (λ (r : Result ℕ PageFault).
          IfOk r (MayCommit (st.state c.stage_upgrade-staged.new.store))) late.1
          staged.may_commit in
          let grow = subst (λ (r : Result ℕ PageFault).
          IfOk r (λ end. end ≡ (st.state c.args.store.now).end)) late.1 staged.end in
          let few = few_staged 1 late.0 _
          (g.met.S.PageStore.in_order c.stage_upgrade-staged.new.store) can.below
          (omega (arith, can.least)) in
          let short = lacks_twice (st.state c.stage_upgrade-staged.new.store) late.0 _
          late.2 (omega (arith, grow, ap (λ (s : StoreState). s.end) staged.stages.only.state)) few
          (ap (λ (s : StoreState). s.capacity) staged.stages.only.state) in
          omega (arith, short, placed.ends)) by) bounded
          (omega (arith, (table g c map holds).ends));
    }
