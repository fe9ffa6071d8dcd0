use Rattle.std.proofs.Common.{◌≡◌, ◌∙◌, inl, inr, ⊎_elim, ℕ, ◌+◌, ◌*◌, ◌≤◌, Bool, true, false, cond, nat_lt, IfOk, length, refl, sym, ap, subst, arith, rules}
use Rattle.std.proofs.lemmas.Bool.{cases_lt}
use Rattle.std.proofs.lemmas.Result.{IfOk-from_err}
use Rattle.std.specs.FinMap.{get}
use Rattle.dbm_model.specs.Steps.{holds_far}
use Rattle.page_model.specs.Valid.{meta_buckets}
use Rattle.dbm_model.specs.Bounds.{Bounds}
use Rattle.page_model.specs.Pages.{Meta, Body}
use Rattle.dbm_model.specs.Pairs.{Pair, IsAllowed}
use Rattle.seg_table.specs.declared.meta.Meta as code
use Rattle.page_io.specs.Versions.{model_version}
use Rattle.page_model.specs.Placement.{Placement, pairs_of, contents, chain_at, replace}
use Rattle.page_model.proofs.Ends.{kept_store}
use Rattle.page_io.specs.Store.{Pages, StoreState}
use Rattle.page_io.specs.Views.{body_at, StagesOnly, MayEnd}
use Rattle.page_io.specs.declared.store.PageFault.TheVariants.{Memory, Damaged, NoRoom}
use Rattle.page_io.proofs.Views.{stages_then}
use Rattle.page_io.proofs.Exits.{exit_is, came, cause_first, cause_then, cause_last, last_not_damaged, last_has_room}
use Rattle.free_pages.specs.declared.free_state.FreeState.{FreeState}
use Rattle.seg_table.specs.MetaPages.{model_meta}
use Rattle.linear_hash.specs.Tables.{space_in, shape_in, shape_for, split_where_full, IsTable}
use Rattle.linear_hash.specs.Staging.{IsStaged}
use Rattle.linear_hash.specs.AnyFile.{IsSplitWhere}
use Rattle.linear_hash.specs.Changing.{PutIn, Stores, shaped_as}
use Rattle.linear_hash.proofs.Midway.{midway_same}
use Rattle.linear_hash.proofs.Stagings.{table_midway, midway_pairs, staged_at_last, staged_ok, new_end_later, kept_at_last}
use Rattle.linear_hash.proofs.MemoryNeeds.{no_content, may_need, needs}
use Rattle.linear_hash.proofs.SplitChains.{split_few}
use Rattle.linear_hash.proofs.StoredPairs.{counted_more, where_full, full_count}
use Rattle.linear_hash.proofs.SplitPages.{split_shaped}
use Rattle.linear_hash.proofs.Written.{put_under, idle_end, written_shaped, stored_then}
use Rattle.linear_hash.proofs.staging.stage_store.Given.{Over}
use Rattle.linear_hash.proofs.staging.stage_store.Goals.{After-stage_meta}
use Rattle.linear_hash.proofs.Refusals.{change_refused, stage_answers}
use Rattle.linear_hash.proofs.staging.stage_store.Goals as goal

-- what the code allows the placement does
allowed_in : (meta : code.Meta) (end : ℕ) {at : ℕ → Body} (p : Placement) (pair : Pair)
    → IsTable at (model_meta meta) end p → IsAllowed (model_meta meta).bounds.version pair
    → IsAllowed p.bounds.version pair
allowed_in meta end p pair table allowed =
    subst (λ (b : Bounds). IsAllowed b.version pair) (ap (λ (m : Meta). m.bounds) table.meta_is)
    allowed

-- how many pairs there are then
more_pairs : (was_there : Bool) (pairs more : ℕ) → more ≡ cond was_there 0 1
    → pairs + more ≡ cond was_there pairs (pairs + 1)
more_pairs true pairs more is = omega (arith, is)
more_pairs false pairs more is = omega (arith, is)

-- the pair is not put
pub returns-in_err-replace_pair : goal.returns-in_err-replace_pair
returns-in_err-replace_pair g c =
    let told = c.in_err-replace_pair.ensures in
    let result = c.from_residual in
    let exit = exit_is result.result c.in_err-replace_pair.field-0.0 result.ensures.1 in
    record {
      stages = record {
        only = told.stages.only;
        cause = cause_first _ _ exit _ _ told.stages.cause;
      };
      answer = change_refused _ _ refl _ _ exit told.answer.change;
      memory = λ is. inr (may_need (model_version c.args.meta.now.version) c.args.was_there
          (c.args.key.now, c.args.content.now) g.S.PageStore.reserved g.S.PageStore.reserves
          (omega (
            arith,
            told.answer.memory (came _ _ exit Memory is),
            ap (λ (ps : Pages). length ps) c.requires.idle,
          )));
      sparing = λ honest p table was is.
          let pair : Pair = (c.args.key.now, c.args.content.now) in
          let start = midway_same g.S.PageStore _ _ _ _ c.space_of-space.result p refl
          (c.space_of-space.ensures ∙ ap (space_in (model_meta c.args.meta.now)) c.end.ensures)
          (table_midway _ _ _ p table) in
          needs pair (holds_far pair.0 (get (contents p) pair.0)) (λ near kept.
          absurd (omega (
            arith,
            (told.sparing honest p start was kept).0 (came _ _ exit Memory is),
            ap (λ (ps : Pages). length ps) c.requires.idle,
            g.S.PageStore.reserves,
            no_content pair near,
          )));
      kept = IfOk-from_err _ _ result.ensures.0;
      may_commit = IfOk-from_err _ _ result.ensures.0;
      stored = λ honest. IfOk-from_err _ _ result.ensures.0;
      exact = λ honest p table may was. IfOk-from_err _ _ result.ensures.0;
      refused = λ honest p table was. record {
        whole = λ damaged.
            let start = midway_same g.S.PageStore _ _ _ _ c.space_of-space.result p refl
            (c.space_of-space.ensures ∙ ap (space_in (model_meta c.args.meta.now)) c.end.ensures)
            (table_midway _ _ _ p table) in
            told.whole honest p start was (came _ _ exit Damaged damaged);
        room = λ none.
            let end = ap (λ (f : FreeState). f.file_end) c.space_of-space.ensures
            ∙ c.end.ensures in
            omega (
              arith,
              told.answer.room (came _ _ exit NoRoom none),
              end,
              table.ends,
              kept_store p (c.args.key.now, c.args.content.now),
            );
      };
    }

-- no bucket is split
pub returns-in_err-split_if_full : goal.returns-in_err-split_if_full
returns-in_err-split_if_full g c =
    let one = c.in_ok-replace_pair.ensures.stages.only in
    let told = c.in_err-split_if_full.ensures in
    let result = c.from_residual-in_err-split_if_full in
    let exit = exit_is result.result c.in_err-split_if_full.field-0.0 result.ensures.1 in
    record {
      stages = record {
        only = stages_then g.S.PageStore _ _ _
            (g.met.S.PageStore.counts_now c.replace_pair.new.store) one told.stages.only;
        cause = cause_then _ _ exit _ _ _ one.later told.stages.cause;
      };
      answer = change_refused _ _ (ap (λ (s : StoreState). s.usable) one.state) _ _
          exit told.answer;
      memory = λ is. inl (omega (
        arith,
        told.memory (came _ _ exit Memory is),
        more_pairs c.args.was_there c.args.meta.now.pairs c.added.result c.added.ensures,
      ));
      sparing = λ honest p table was is. inl (omega (
        arith,
        told.memory (came _ _ exit Memory is),
        more_pairs c.args.was_there c.args.meta.now.pairs c.added.result c.added.ensures,
      ));
      kept = IfOk-from_err _ _ result.ensures.0;
      may_commit = IfOk-from_err _ _ result.ensures.0;
      stored = λ honest. IfOk-from_err _ _ result.ensures.0;
      exact = λ honest p table may was. IfOk-from_err _ _ result.ensures.0;
      refused = λ honest p table was.
          let pair : Pair = (c.args.key.now, c.args.content.now) in
          let start = midway_same g.S.PageStore _ _ _ _ c.space_of-space.result p refl
          (c.space_of-space.ensures ∙ ap (space_in (model_meta c.args.meta.now)) c.end.ensures)
          (table_midway _ _ _ p table) in
          let mid = midway_pairs _ _ _ (replace p pair) _
          (c.in_ok-replace_pair.ensures.exact honest p start was) in
          let h1 = c.in_ok-replace_pair.ensures.stages.only.honesty.1 honest in
          let end = subst (λ (n : ℕ).
          length (chain_at (replace p pair) (replace p pair).shape.split) ≤ n)
          (sym (ap (λ (st : StoreState). st.end) c.in_ok-replace_pair.ensures.stages.only.state))
          (split_few _ _ _ p pair table) in
          record {
            whole = λ damaged.
                told.whole h1 (replace p pair) mid end (came _ _ exit Damaged damaged);
            room = λ none.
                let counted = counted_more p pair c.args.was_there _ _ table.good.sound
                (allowed_in c.args.meta.now _ p pair table c.requires.allowed) was
                (ap (λ (m : Meta). m.pairs) table.meta_is) c.added.ensures in
                let most = (told.exact h1 (replace p pair) mid end counted).1
                (came _ _ exit NoRoom none) in
                omega (
                  arith,
                  most,
                  ap (λ (q : Placement). q.space.end) (where_full p pair),
                  ap (λ (st : StoreState). st.capacity)
                      c.in_ok-replace_pair.ensures.stages.only.state,
                );
          };
    }

-- the meta page is staged last
staged_so_far : (g : Over) (c : After-stage_meta g)
    → StagesOnly g.S.PageStore c.args.store.now c.split_if_full.new.store
staged_so_far g c = stages_then g.S.PageStore _ _ _
    (g.met.S.PageStore.counts_now c.replace_pair.new.store) c.in_ok-replace_pair.ensures.stages.only
    c.in_ok-split_if_full.ensures.stages.only

pub returns-clause-stages : goal.returns-clause-stages
returns-clause-stages g c = record {
  only = stages_then g.S.PageStore _ _ _
      (g.met.S.PageStore.counts_now c.split_if_full.new.store) (staged_so_far g c)
      c.stage_meta.ensures.stages.only;
  cause = cause_last _ _ _ _ (staged_so_far g c).later c.stage_meta.ensures.stages.cause;
}

pub returns-clause-answer : goal.returns-clause-answer
returns-clause-answer g c = stage_answers _ _ _ _ _
    (ap (λ (s : StoreState). s.usable) (staged_so_far g c).state) c.stage_meta.ensures.answer

-- without a split the meta page is the fifth at most
pub returns-clause-memory : goal.returns-clause-memory
returns-clause-memory g c is =
    let old = c.args.meta.now in
    let pair : Pair = (c.args.key.now, c.args.content.now) in
    let pairs = old.pairs + c.added.result in
    let more = more_pairs c.args.was_there old.pairs c.added.result c.added.ensures in
    ⊎_elim
    (λ full. inl (omega (arith, full, more)))
    (λ few. inr (may_need (model_version old.version) c.args.was_there pair g.S.PageStore.reserved
    g.S.PageStore.reserves (omega (
      arith,
      (c.stage_meta.ensures.answer.memory is).1,
      ap (λ s. length (g.S.PageStore.state s).staged) (c.in_ok-split_if_full.ensures.still few).0,
      c.in_ok-replace_pair.ensures.few,
      ap (λ (ps : Pages). length ps) c.requires.idle,
    ))))
    (cases_lt (8 * meta_buckets (model_meta old)) pairs)

pub returns-clause-sparing : goal.returns-clause-sparing
returns-clause-sparing g c honest p table was is =
    let old = c.args.meta.now in
    let pair : Pair = (c.args.key.now, c.args.content.now) in
    let pairs = old.pairs + c.added.result in
    let more = more_pairs c.args.was_there old.pairs c.added.result c.added.ensures in
    let start = midway_same g.S.PageStore _ _ _ _ c.space_of-space.result p refl
    (c.space_of-space.ensures ∙ ap (space_in (model_meta old)) c.end.ensures)
    (table_midway _ _ _ p table) in
    ⊎_elim
    (λ full. inl (omega (arith, full, more)))
    (λ few. needs pair (holds_far pair.0 (get (contents p) pair.0)) (λ near kept.
    absurd (omega (
      arith,
      (c.stage_meta.ensures.answer.memory is).1,
      ap (λ s. length (g.S.PageStore.state s).staged) (c.in_ok-split_if_full.ensures.still few).0,
      (c.in_ok-replace_pair.ensures.sparing honest p start was kept).1,
      ap (λ (ps : Pages). length ps) c.requires.idle,
      g.S.PageStore.reserves,
      no_content pair near,
    ))))
    (cases_lt (8 * meta_buckets (model_meta old)) pairs)

pub returns-clause-refused : goal.returns-clause-refused
returns-clause-refused g c honest p table was = record {
  whole = λ damaged. absurd (last_not_damaged _ _ _ _ c.stage_meta.ensures.answer damaged);
  room = λ none. absurd (last_has_room _ _ _ _ c.stage_meta.ensures.answer none);
}

pub returns-clause-may_commit : goal.returns-clause-may_commit
returns-clause-may_commit g c =
    let st = g.S.PageStore in
    let start = c.space_of-space.ensures ∙ ap (space_in (model_meta c.args.meta.now)) c.end.ensures
    in
    let ends = subst (λ (f : FreeState). MayEnd (st.state c.args.store.now) f.file_end) (sym start)
    (idle_end (st.state c.args.store.now) c.requires.idle) in
    new_end_later _ _ _ c.stage_meta.result
    (ap (λ (s : StoreState). s.end) (staged_so_far g c).state)
    (c.stage_meta.ensures.may_commit (c.in_ok-split_if_full.ensures.keeps.may_end
    (c.in_ok-replace_pair.ensures.keeps.may_end ends)))

-- what is kept of the meta page
pub returns-clause-kept : goal.returns-clause-kept
returns-clause-kept g c =
    let split = c.in_ok-split_if_full.ensures.kept in
    let m = c.stage_meta.ensures.meta in
    kept_at_last c.stage_meta.result (record {
      valid = c.stage_meta.ensures.valid;
      bounds = ap (λ (n : Meta). n.bounds) m ∙ split.bounds;
      pairs = ap (λ (n : Meta). n.pairs) m ∙ split.pairs
          ∙ more_pairs c.args.was_there c.args.meta.now.pairs c.added.result c.added.ensures;
      shaped = ap shape_in m ∙ split.shaped
          ∙ ap (λ (n : ℕ). shape_for n (shape_in (model_meta c.args.meta.now)))
          (sym (ap (λ (n : Meta). n.pairs) m));
    })

pub returns-clause-exact : goal.returns-clause-exact
returns-clause-exact g c honest p table may was =
    let pair : Pair = (c.args.key.now, c.args.content.now) in
    let q = replace p pair in
    let start = midway_same g.S.PageStore _ _ _ _ c.space_of-space.result p refl
    (c.space_of-space.ensures ∙ ap (space_in (model_meta c.args.meta.now)) c.end.ensures)
    (table_midway _ _ _ p table) in
    let mid = c.in_ok-replace_pair.ensures.exact honest p start was in
    let end = subst (λ (n : ℕ). length (chain_at q q.shape.split) ≤ n)
    (sym (ap (λ (st : StoreState). st.end) c.in_ok-replace_pair.ensures.stages.only.state))
    (split_few _ _ _ p pair table) in
    let h1 = c.in_ok-replace_pair.ensures.stages.only.honesty.1 honest in
    let counted : c.args.meta.now.pairs + c.added.result ≡ length (pairs_of q) =
    counted_more p pair c.args.was_there _ _ table.good.sound
    (allowed_in c.args.meta.now _ p pair table c.requires.allowed) was
    (ap (λ (m : Meta). m.pairs) table.meta_is) c.added.ensures in
    let split = (c.in_ok-split_if_full.ensures.exact h1 q (midway_pairs _ _ _ q _ mid) end
    counted).0 in
    let h2 = c.in_ok-split_if_full.ensures.stages.only.honesty.1 h1 in
    let all : c.split_if_full.new.meta.pairs ≡ length (pairs_of (split_where_full q)) =
    c.in_ok-split_if_full.ensures.kept.pairs ∙ counted ∙ sym (full_count q mid.sound) in
    subst (λ (r : Placement). IfOk c.stage_meta.result
    (λ end. IsStaged (body_at g.S.PageStore c.stage_meta.new.store)
    (model_meta c.stage_meta.new.meta) end r)) (where_full p pair)
    (staged_ok c.stage_meta.result
    (λ page end last. staged_at_last _ _ _ (split_where_full q) split all _ _ end
    c.stage_meta.ensures.meta last page (c.stage_meta.ensures.others h2))
    (c.stage_meta.ensures.page h2) c.stage_meta.ensures.end)

-- on any file: the pair is put into its bucket, one is split where that is due, and then the meta
-- page is written
pub returns-clause-stored : goal.returns-clause-stored
returns-clause-stored g c honest =
    let st = g.S.PageStore in
    let before = model_meta c.args.meta.now in
    let pair : Pair = (c.args.key.now, c.args.content.now) in
    let old = body_at st c.args.store.now in
    let at1 = body_at st c.replace_pair.new.store in
    let at2 = body_at st c.split_if_full.new.store in
    let end = (st.state c.args.store.now).end in
    let replaced = c.in_ok-replace_pair.ensures in
    let split = c.in_ok-split_if_full.ensures in
    let grown = model_meta c.split_if_full.new.meta in
    let after = model_meta c.stage_meta.new.meta in
    let pairs = c.args.meta.now.pairs + c.added.result in
    let h1 = replaced.stages.only.honesty.1 honest in
    let h2 = split.stages.only.honesty.1 h1 in
    let start = c.space_of-space.ensures ∙ ap (space_in before) c.end.ensures in
    let ends = subst (λ (f : FreeState). MayEnd (st.state c.args.store.now) f.file_end) (sym start)
    (idle_end (st.state c.args.store.now) c.requires.idle) in
    let put = subst (λ (f : FreeState). PutIn c.args.was_there (Unit {0}) old before f pair at1
    c.replace_pair.new.space) start
    (put_under c.args.was_there _ (Unit {0}) old at1 before _ _ pair (λ u. ends)
    (replaced.put_in honest)) in
    let free = c.stage_meta.ensures.meta in
    let counted : after.pairs ≡ pairs = ap (λ (m : Meta). m.pairs) free ∙ split.kept.pairs in
    let shaped = split_shaped before grown after pairs _ _ free
    (nat_lt (8 * meta_buckets before) pairs) _ (replaced.keeps.may_end ends) at1 at2
    c.replace_pair.new.space c.split_if_full.new.space (split.splits h1) in
    let splits = subst (λ (n : ℕ). IsSplitWhere (nat_lt (8 * meta_buckets before) n) (Unit {0}) at1
    at2 before (shaped_as before after) c.replace_pair.new.space c.split_if_full.new.space)
    (sym counted) shaped in
    let change = stored_then c.args.was_there old before after (space_in before end) pair at1 at2
    c.replace_pair.new.space c.split_if_full.new.space put splits in
    staged_ok c.stage_meta.result
    (λ page last is. written_shaped
    (Stores c.args.was_there old before after (space_in before end) pair) _ _ grown after _ last
    change free is page (c.stage_meta.ensures.others h2) before split.kept.bounds)
    (c.stage_meta.ensures.page h2) c.stage_meta.ensures.end

pub stage_meta-requires-clause-valid : goal.stage_meta-requires-clause-valid
stage_meta-requires-clause-valid g c = search rules
