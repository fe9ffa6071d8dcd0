use Rattle.std.proofs.Common.{cond, ◌≡◌, ◌∙◌, ◌+◌, ◌≤◌, ℕ, Result, IfOk, OnOk, true, ⊎_elim, is_some, sym, ap, subst, arith}
use Rattle.std.specs.FinMap.{get, insert}
use Rattle.sect_dev.specs.Device.{LeavesOnly}
use Rattle.std.proofs.lemmas.Result.{on_err_weaker, on_ok_weaker}
use Rattle.dbm_model.specs.Sizes.{home, most_taken}
use Rattle.page_model.specs.Pages.{Meta}
use Rattle.dbm_model.specs.Pairs.{Pair, Contents, IsAllowed}
use Rattle.page_model.specs.Placement.{Placement, contents, MayStore, store}
use Rattle.page_io.specs.Store.{StoreState}
use Rattle.page_io.specs.Views.{body_at}
use Rattle.page_io.specs.declared.store.PageFault.TheVariants.{Memory, Damaged}
use Rattle.page_io.specs.declared.store.PageFault.{PageFault}
use Rattle.page_model.proofs.Ends.{store_takes_few}
use Rattle.seg_table.specs.MetaPages.{model_meta}
use Rattle.linear_hash.specs.Tables.{shape_in, shape_for, IsTable}
use Rattle.page_io.specs.Committing.{Holds}
use Rattle.linear_hash.specs.Holding.{StandsForEither}
use Rattle.linear_hash.specs.Staging.{IsKept, IsNewEnd, IsStaged}
use Rattle.page_io.proofs.CommitResults.{commit_ok}
use Rattle.linear_hash.proofs.Commits.{committed_so, can_commit_so, grows_so}
use Rattle.linear_hash.proofs.Changing.{never_damaged, never_memory, few_staged, ok_then, grows_to, ends_within, lacks_twice, short_by, commit_holds, staged_stands, leaves_either, leaves_old, told_by, no_room_by}
use Rattle.linear_hash.proofs.MemoryNeeds.{content_taken, short_early}
use Rattle.linear_hash.proofs.Plans.{now, was_placed, may_store, stored_good, stored_map, stored_bounded}
use Rattle.linear_hash.proofs.Tables.{is_table}
use Rattle.linear_hash.proofs.Written.{written_committed}
use Rattle.linear_hash.proofs.changes.commit_store.Given.{Over}
use Rattle.linear_hash.proofs.changes.commit_store.Goals.{After-finish}
use Rattle.linear_hash.proofs.changes.commit_store.Goals as goal

-- the plan of the change: the placement that the pages say, and that with the pair
module _ (g : Over) (c : After-finish g) (map : Contents)
    (holds : Holds g.S.PageStore c.args.store.now (model_meta c.args.meta.now) map)
    (was : c.args.was_there ≡ is_some (get map c.args.key.now)) where
  abbrev pair : Pair
  pair = (c.args.key.now, c.args.content.now)

  abbrev plan : Placement
  plan = now g.S.PageStore c.args.store.now (model_meta c.args.meta.now) map holds

  may : MayStore plan pair
  may = may_store g.S.PageStore c.args.store.now (model_meta c.args.meta.now) map holds pair
      c.args.was_there c.requires.allowed (
        (λ i. let fits = c.type_inv.key i in omega (arith, fits)),
        (λ i. let fits = c.type_inv.content i in omega (arith, fits)),
      ) was c.requires.room

  table : IsTable (body_at g.S.PageStore c.args.store.now) (model_meta c.args.meta.now)
      (g.S.PageStore.state c.args.store.now).end plan
  table = is_table g.S.PageStore c.args.store.now (model_meta c.args.meta.now) map holds
      (g.met.S.PageStore.ends c.args.store.now) c.requires.idle

  there : c.args.was_there ≡ is_some (get (contents plan) c.args.key.now)
  there = was_placed g.S.PageStore c.args.store.now (model_meta c.args.meta.now) map holds
      c.args.key.now c.args.was_there was

  -- it is allowed in the placement
  allowed : IsAllowed plan.bounds.version pair
  allowed = subst (λ (m : Meta). IsAllowed m.bounds.version pair) table.meta_is c.requires.allowed

  bounded : (store plan pair).space.end ≤ home (model_meta c.args.meta.now).bounds
  bounded = stored_bounded g.S.PageStore c.args.store.now (model_meta c.args.meta.now) map holds
      pair may

  moments : g.S.PageStore.honest c.args.store.now
      → (g.S.PageStore.state c.args.store.now).usable ≡ true
      → LeavesOnly g.S.PageStore.moment g.S.PageStore.settled_since c.args.store.now
      c.finish.new.store (StandsForEither map (model_meta c.args.meta.now).bounds
      (insert map c.args.key.now c.args.content.now) (model_meta c.args.meta.now).bounds)
  moments honest usable =
      let staged = c.stage_store-staged.ensures in
      let then = staged_stands g.S.PageStore c.stage_store-staged.new.store
      (model_meta c.stage_store-staged.new.meta) (store plan pair)
      (insert map c.args.key.now c.args.content.now) (model_meta c.args.meta.now).bounds
      c.stage_store-staged.result
      (stored_good g.S.PageStore c.args.store.now (model_meta c.args.meta.now) map holds pair may)
      (stored_map g.S.PageStore c.args.store.now (model_meta c.args.meta.now) map
      holds pair may)
      (staged.exact honest plan table may there)
      (on_ok_weaker c.stage_store-staged.result (λ kept. kept.bounds) staged.kept) in
      leaves_either g.S.PageStore c.args.store.now c.stage_store-staged.new.store c.finish.new.store
      c.stage_store-staged.result c.finish.result staged.stages.only honest map
      (insert map c.args.key.now c.args.content.now) (model_meta c.args.meta.now).bounds
      holds.stands
      (λ y is. g.met.S.PageStore.only_committed c.args.store.now y honest usable
      c.requires.writable is) (model_meta c.args.meta.now).bounds then
      (c.finish.ensures.any_moment (staged.stages.only.honesty.1 honest)
      (ap (λ (st : StoreState). st.usable) staged.stages.only.state ∙ usable)
      (ap (λ (st : StoreState). st.writable) staged.stages.only.state ∙ c.requires.writable))

-- how it ends on any device
pub returns-clause-ends : goal.returns-clause-ends
returns-clause-ends g c =
    let staged = c.stage_store-staged.ensures in
    let done = c.finish.ensures in
    committed_so g.S.PageStore _ _ c.finish.new.store _ c.stage_store-staged.result c.finish.result
    staged.stages.only c.requires.idle c.requires.writable staged.answer staged.stages.cause
    (on_ok_weaker c.stage_store-staged.result (λ kept. kept.valid) staged.kept) done.refused
    done.ok done.err
    done.answer done.cause done.later done.honesty done.kept

-- what is kept of the meta page
kept_then : (g : Over) (c : After-finish g) → OnOk c.finish.result
    (IsKept (model_meta c.args.meta.now) (model_meta c.stage_store-staged.new.meta)
    (cond c.args.was_there c.args.meta.now.pairs (c.args.meta.now.pairs + 1))
    (shape_for c.stage_store-staged.new.meta.pairs (shape_in (model_meta c.args.meta.now))))
kept_then g c = ok_then _ _ _ c.finish.result c.finish.ensures.refused
    c.stage_store-staged.ensures.kept

pub returns-clause-bounds : goal.returns-clause-bounds
returns-clause-bounds g c = on_ok_weaker c.finish.result (λ kept. kept.bounds) (kept_then g c)

pub returns-clause-pairs : goal.returns-clause-pairs
returns-clause-pairs g c = on_ok_weaker c.finish.result (λ kept. kept.pairs) (kept_then g c)

pub returns-clause-shape : goal.returns-clause-shape
returns-clause-shape g c = on_ok_weaker c.finish.result (λ kept. kept.shaped) (kept_then g c)

pub returns-clause-memory : goal.returns-clause-memory
returns-clause-memory g c is =
    c.stage_store-staged.ensures.memory
    (told_by g.S.PageStore _ _ c.finish.new.store c.stage_store-staged.result
    c.finish.result c.stage_store-staged.ensures.stages.only _ Memory never_memory
    c.finish.ensures.answer c.finish.ensures.refused is)

pub returns-clause-sparing : goal.returns-clause-sparing
returns-clause-sparing g c honest p table was is =
    c.stage_store-staged.ensures.sparing honest p table was
    (told_by g.S.PageStore _ _ c.finish.new.store c.stage_store-staged.result
    c.finish.result c.stage_store-staged.ensures.stages.only _ Memory never_memory
    c.finish.ensures.answer c.finish.ensures.refused is)

pub returns-clause-turns : goal.returns-clause-turns
returns-clause-turns g c honest usable map holds was =
    let staged = c.stage_store-staged.ensures in
    record {
      done =
          let q = store (plan g c map holds was) (pair g c map holds was) in
          let good = stored_good g.S.PageStore c.args.store.now (model_meta c.args.meta.now) map
          holds (pair g c map holds was) (may g c map holds was) in
          let is = stored_map g.S.PageStore c.args.store.now (model_meta c.args.meta.now) map holds
          (pair g c map holds was) (may g c map holds was) in
          subst (λ (changed : Contents).
          OnOk c.finish.result (Holds g.S.PageStore c.finish.new.store
          (model_meta c.stage_store-staged.new.meta) changed)) is
          (commit_ok _ c.stage_store-staged.result c.finish.result c.finish.ensures.refused
          (staged.exact honest (plan g c map holds was) (table g c map holds was)
          (may g c map holds was) (there g c map holds was))
          (c.finish.ensures.committed (staged.stages.only.honesty.1 honest))
          (λ end body_at committed. commit_holds g.S.PageStore c.stage_store-staged.new.store _
          end q good body_at c.finish.new.store committed));
      bounds = returns-clause-bounds g c;
      kept = (returns-clause-ends g c).kept honest;
      any_moment = moments g c map holds was honest usable;
      unchanged =
          on_err_weaker c.finish.result
          (λ run usable_now. leaves_old g.S.PageStore c.args.store.now
          c.stage_store-staged.new.store c.finish.new.store c.stage_store-staged.result
          c.finish.result staged.stages.only honest map map (model_meta c.args.meta.now).bounds
          holds.stands
          (λ y is. g.met.S.PageStore.only_committed c.args.store.now y honest usable
          c.requires.writable is) (run usable_now))
          (c.finish.ensures.unchanged (staged.stages.only.honesty.1 honest)
          (ap (λ (st : StoreState). st.usable) staged.stages.only.state ∙ usable)
          (ap (λ (st : StoreState). st.writable) staged.stages.only.state
          ∙ c.requires.writable));
      whole = λ damaged.
          let early = told_by g.S.PageStore _ _ c.finish.new.store c.stage_store-staged.result
          c.finish.result c.stage_store-staged.ensures.stages.only _ Damaged never_damaged
          c.finish.ensures.answer c.finish.ensures.refused damaged in
          (c.stage_store-staged.ensures.refused honest (plan g c map holds was)
          (table g c map holds was) (there g c map holds was)).whole early;
      grows =
          let p = plan g c map holds was in
          let in_table = table g c map holds was in
          let few = store_takes_few p (pair g c map holds was) in_table.good.sound
          (allowed g c map holds was) in
          grows_to _ _ (store p (pair g c map holds was)) (g.S.PageStore.state c.args.store.now)
          (g.S.PageStore.state c.stage_store-staged.new.store)
          (g.S.PageStore.state c.finish.new.store) (c.args.meta.now.pairs
          + most_taken (model_meta c.args.meta.now).bounds.version) _
          c.stage_store-staged.result c.finish.result c.finish.ensures.refused
          c.finish.ensures.ok (grows_so _ _ c.stage_store-staged.result staged.may_commit)
          (staged.exact honest p in_table (may g c map holds was) (there g c map holds was))
          (omega (
            arith,
            few,
            in_table.ends,
            ap (λ (m : Meta). m.pairs) in_table.meta_is,
            ap (λ (m : Meta). most_taken m.bounds.version) in_table.meta_is,
          ));
      bounded =
          let p = plan g c map holds was in
          let changed = store p (pair g c map holds was) in
          ends_within _ _ changed (g.S.PageStore.state c.stage_store-staged.new.store)
          (g.S.PageStore.state c.finish.new.store) _ _ c.stage_store-staged.result c.finish.result
          c.finish.ensures.refused c.finish.ensures.ok
          (staged.exact honest p (table g c map holds was) (may g c map holds was)
          (there g c map holds was)) (bounded g c map holds was);
      no_room = λ room.
          let p = plan g c map holds was in
          let changed = store p (pair g c map holds was) in
          let in_table = table g c map holds was in
          let end = store_takes_few p (pair g c map holds was) in_table.good.sound
          (allowed g c map holds was) in
          let pairs = ap (λ (m : Meta). m.pairs) in_table.meta_is in
          let good = stored_good g.S.PageStore c.args.store.now (model_meta c.args.meta.now) map
          holds (pair g c map holds was) (may g c map holds was) in
          let capacity = ap (λ (st : StoreState). st.capacity) staged.stages.only.state in
          let most : changed.space.end ≤ (g.S.PageStore.state c.args.store.now).end
          + c.args.meta.now.pairs + most_taken (model_meta c.args.meta.now).bounds.version =
          omega (
            arith,
            end,
            in_table.ends,
            pairs,
            ap (λ (m : Meta). most_taken m.bounds.version) in_table.meta_is,
          ) in
          let by = no_room_by g.S.PageStore _ _ c.finish.new.store c.stage_store-staged.result
          c.finish.result staged.stages.only _ c.finish.ensures.answer
          c.finish.ensures.refused room in
          ⊎_elim
          (λ early. short_early (model_meta c.args.meta.now).bounds _ changed.space.end _ _ _
          (subst (λ (m : Meta). 1 ≤ m.bounds.limit) (sym in_table.meta_is)
          in_table.good.limited.0)
          (content_taken _ (pair g c map holds was) c.requires.allowed)
          ((staged.refused honest p in_table (there g c map holds was)).room early)
          (omega (arith, good.sound.pages.as_many)) (bounded g c map holds was) most)
          (λ late.
          let is = subst (λ (q : Result ℕ PageFault).
          IfOk q (λ end. IsStaged (body_at g.S.PageStore c.stage_store-staged.new.store)
          (model_meta c.stage_store-staged.new.meta) end
          (store p (pair g c map holds was)))) late.1
          (staged.exact honest p in_table (may g c map holds was) (there g c map holds was)) in
          let can = subst (λ (q : Result ℕ PageFault).
          IfOk q (IsNewEnd (g.S.PageStore.state c.args.store.now)
          (g.S.PageStore.state c.stage_store-staged.new.store))) late.1
          staged.may_commit in
          let few = few_staged 1 late.0 _
          (g.met.S.PageStore.in_order c.stage_store-staged.new.store) can.may_commit.below
          (omega (arith, can.may_commit.least)) in
          let short = lacks_twice (g.S.PageStore.state c.stage_store-staged.new.store) late.0 _
          late.2 (omega (
            arith,
            can.grows,
            ap (λ (st : StoreState). st.end)
                staged.stages.only.state,
          ))
          few
          capacity in
          short_by _ changed.space.end _ _ _ _ (omega (arith, short, is.ends))
          (bounded g c map holds was) most) by;
    }

pub returns-clause-stored : goal.returns-clause-stored
returns-clause-stored g c honest =
    let staged = c.stage_store-staged.ensures in
    let h1 = staged.stages.only.honesty.1 honest in
    written_committed g.S.PageStore c.stage_store-staged.new.store c.finish.new.store _ _ _ _
    c.stage_store-staged.result c.finish.result c.finish.ensures.refused
    (can_commit_so _ _ c.stage_store-staged.result staged.may_commit)
    (c.finish.ensures.committed h1) c.finish.ensures.ok (staged.stored honest)
