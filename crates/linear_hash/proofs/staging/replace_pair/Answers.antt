use Rattle.std.proofs.Common.{◌≡◌, ◌∙◌, ℕ, ◌+◌, ◌^◌, ◌<◌, ◌≤◌, Bool, cond, false, [], length, get_or, refl, sym, ap, subst, is_some, arith}
use Rattle.std.specs.FinMap.{get}
use Rattle.std.proofs.lemmas.Result.{IfOk-from_err, on_ok_weaker}
use Rattle.page_model.specs.Address.{address, hash_of}
use Rattle.page_model.specs.PairLists.{times}
use Rattle.page_model.specs.Pages.{Body}
use Rattle.page_model.specs.Chain.{pairs_in}
use Rattle.page_model.specs.Placement.{Placement, contents, key_bucket, chain_at, delete}
use Rattle.page_model.specs.PageBodies.{heads_of}
use Rattle.page_model.proofs.Places.{deleted_finds_none}
use Rattle.page_io.specs.Store.{StoreState}
use Rattle.page_io.specs.Views.{body_at, StagesOnly, MayEnd}
use Rattle.page_io.specs.declared.store.PageFault.TheVariants.{Memory, NoRoom, Damaged}
use Rattle.page_io.proofs.Views.{same_said, stages_then}
use Rattle.page_io.proofs.Exits.{exit_is, came, cause_first, cause_then, cause_last}
use Rattle.free_pages.specs.FreeList.{HasEnds}
use Rattle.free_pages.specs.declared.free_state.FreeState.{FreeState}
use Rattle.seg_table.specs.MetaPages.{model_meta}
use Rattle.bucket_chain.specs.AnyFile.{AreInTurn, IsPut}
use Rattle.dbm_model.specs.Sizes.{pages_for}
use Rattle.dbm_model.specs.Steps.{holds_far}
use Rattle.page_io.specs.Versions.{model_version}
use Rattle.bucket_chain.specs.Changes.{IsPlaced}
use Rattle.linear_hash.specs.Tables.{shape_in}
use Rattle.linear_hash.specs.Staging.{IsMidway, removal_pages}
use Rattle.linear_hash.specs.Changing.{IsOutWhere}
use Rattle.linear_hash.proofs.Buckets.{bucket_of, bucket_is}
use Rattle.linear_hash.proofs.Midway.{midway_read, midway_same, midway_heads, midway_below, midway_chain, midway_once, midway_one, midway_near, midway_small, midway_deleted, midway_put, delete_none, not_in_chain, head_still, may_end_same, may_end_read}
use Rattle.linear_hash.proofs.Refusals.{head_no_memory, head_refused, remove_refused, head_has_room, remove_has_room, put_answers}
use Rattle.linear_hash.proofs.Written.{in_bucket, was_out, was_not, is_put_under}
use Rattle.linear_hash.proofs.staging.replace_pair.Given.{Over}
use Rattle.linear_hash.proofs.staging.replace_pair.Goals.{In_ok-head, After-put, then-was_there+in_ok-take_out, else-was_there}
use Rattle.linear_hash.proofs.staging.replace_pair.Goals as goal

-- the head page is not told
pub returns-in_err-head : goal.returns-in_err-head
returns-in_err-head g c =
    let few : c.args.space.now.file_end < 2 ^ 32 = omega (arith, c.if-prove.false) in
    let told = c.in_err-head.ensures in
    let result = c.from_residual in
    let exit = exit_is result.result c.in_err-head.field-0.0 result.ensures.1 in
    record {
      stages = record {
        only = told.reads.only.stages_only;
        cause = cause_first _ _ exit _ _ told.reads.cause;
      };
      few = omega (arith, ap (λ (s : StoreState). length s.staged) told.reads.only.same);
      answer = record {
        change = head_refused _ _ refl _ _ exit told.answer;
        memory = λ is. absurd
            (head_no_memory {T = ℕ} _ told.answer.only (came _ _ exit Memory is));
        room = λ none. absurd (head_has_room _ _ told.answer (came _ _ exit NoRoom none));
      };
      keeps = record { ends = λ e. e; may_end = λ may. IfOk-from_err _ _ result.ensures.0 };
      put_in = λ honest. IfOk-from_err _ _ result.ensures.0;
      exact = λ honest p mid was. IfOk-from_err _ _ result.ensures.0;
      whole = λ honest p mid was damaged.
          told.whole honest (heads_of p.chains) (midway_heads _ _ _ p mid few)
          (came _ _ exit Damaged damaged);
      sparing = λ honest p mid was near. (
        λ is. absurd (head_no_memory {T = ℕ} _ told.answer.only (came _ _ exit Memory is)),
        omega (arith, ap (λ (s : StoreState). length s.staged) told.reads.only.same),
      );
    }

-- the key is not taken out
pub returns-in_err-take_out : goal.returns-in_err-take_out
returns-in_err-take_out g c =
    let few : c.args.space.now.file_end < 2 ^ 32 = omega (arith, c.if-prove.false) in
    let removes : removal_pages (model_version c.args.meta.now.version) c.args.was_there
    ≡ 1 + pages_for (model_version c.args.meta.now.version) =
    ap (λ (b : Bool). cond {A = ℕ} b (1 + pages_for (model_version c.args.meta.now.version)) 0)
    c.if-was_there.true in
    let one = c.in_ok-head.ensures.reads.only in
    let told = c.in_err-take_out.ensures in
    let result = c.from_residual-in_err-take_out in
    let exit = exit_is result.result c.in_err-take_out.field-0.0 result.ensures.1 in
    record {
      stages = record {
        only = stages_then g.S.PageStore _ _ _ (g.met.S.PageStore.counts_now c.head_of.new.store)
            one.stages_only told.stages.only;
        cause = cause_then _ _ exit _ _ _ one.stages_only.later told.stages.cause;
      };
      few = omega (arith, told.few, removes, ap (λ (s : StoreState). length s.staged) one.same);
      answer = record {
        change = remove_refused _ _ (ap (λ (s : StoreState). s.usable) one.same) _ _
            exit _ _ told.answer;
        memory = λ is. omega (
          arith,
          told.answer.memory (came _ _ exit Memory is),
          removes,
          ap (λ (s : StoreState). length s.staged) one.same,
        );
        room = λ none. absurd (remove_has_room _ _ _ _ told.answer (came _ _ exit NoRoom none));
      };
      keeps = record {
        ends = told.keeps.ends;
        may_end = λ may. IfOk-from_err _ _ result.ensures.0;
      };
      put_in = λ honest. IfOk-from_err _ _ result.ensures.0;
      exact = λ honest p mid was. IfOk-from_err _ _ result.ensures.0;
      whole = λ honest p mid was damaged.
          let bucket = bucket_of c.args.meta.now c.args.key.now c.bucket.result c.hash.result
          c.bucket.ensures.address c.hash.ensures in
          let head = c.in_ok-head.ensures.exact honest (heads_of p.chains)
          (midway_heads _ _ _ p mid few)
          (midway_below _ _ _ p mid few c.args.key.now c.bucket.result bucket) in
          let here = midway_read g.S.PageStore _ _ _ _ p one honest mid in
          told.whole (one.stages_only.honesty.1 honest) _ _
          (midway_chain _ _ _ p here few c.args.key.now c.bucket.result bucket
          c.in_ok-head.head head)
          (midway_one _ _ _ p here few c.args.key.now (sym was ∙ c.if-was_there.true))
          (came _ _ exit Damaged damaged);
      sparing = λ honest p mid was near.
          let bucket = bucket_of c.args.meta.now c.args.key.now c.bucket.result c.hash.result
          c.bucket.ensures.address c.hash.ensures in
          let head = c.in_ok-head.ensures.exact honest (heads_of p.chains)
          (midway_heads _ _ _ p mid few)
          (midway_below _ _ _ p mid few c.args.key.now c.bucket.result bucket) in
          let here = midway_read g.S.PageStore _ _ _ _ p one honest mid in
          let spare = told.sparing (one.stages_only.honesty.1 honest) _ _
          (midway_chain _ _ _ p here few c.args.key.now c.bucket.result bucket
          c.in_ok-head.head head) (midway_near _ _ _ p here few c.args.key.now near) in
          let same = ap (λ (s : StoreState). length s.staged) one.same in (
            λ is. omega (arith, spare.0.memory (came _ _ exit Memory is), same),
            omega (arith, spare.1, same),
          );
    }

module _ (g : Over) (c : After-put g) where
  small : c.args.space.now.file_end < 2 ^ 32
  small = omega (arith, c.if-prove.false)

  -- up to the put
  stages_so_far : StagesOnly g.S.PageStore c.args.store.now c.if-was_there.store
  stages_so_far =
      let reads = c.in_ok-head.ensures.reads.only.stages_only in
      elim c.if-was_there.branch [
        | then-was_there+in_ok-take_out w ↦
            subst (StagesOnly g.S.PageStore c.args.store.now) (sym w.store-is)
            (stages_then g.S.PageStore _ _ _ (g.met.S.PageStore.counts_now c.head_of.new.store)
            reads w.in_ok-take_out.ensures.stages.only)
        | else-was_there w ↦ subst (StagesOnly g.S.PageStore c.args.store.now)
            (sym w.store-is) reads
      ]

  few_so_far : length (g.S.PageStore.state c.if-was_there.store).staged
      ≤ length (g.S.PageStore.state c.args.store.now).staged
      + removal_pages (model_version c.args.meta.now.version) c.args.was_there
  few_so_far =
      let read = ap (λ (s : StoreState). length s.staged) c.in_ok-head.ensures.reads.only.same in
      elim c.if-was_there.branch [
        | then-was_there+in_ok-take_out w ↦
            let is = ap (λ s. length (g.S.PageStore.state s).staged) w.store-is in
            let version = model_version c.args.meta.now.version in
            let removes = ap (λ (b : Bool). cond {A = ℕ} b (1 + pages_for version) 0)
            w.if-was_there.true in
            omega (arith, is, w.in_ok-take_out.ensures.few, read, removes)
        | else-was_there w ↦
            let is = ap (λ s. length (g.S.PageStore.state s).staged) w.store-is in
            omega (arith, is, read)
      ]

  ends_so_far : HasEnds c.args.space.now → HasEnds c.if-was_there.space
  ends_so_far e = elim c.if-was_there.branch [
    | then-was_there+in_ok-take_out w ↦ subst HasEnds (sym w.space-is)
        (w.in_ok-take_out.ensures.keeps.ends e)
    | else-was_there w ↦ subst HasEnds (sym w.space-is) e
  ]

  may_end_so_far : MayEnd (g.S.PageStore.state c.args.store.now) c.args.space.now.file_end
      → MayEnd (g.S.PageStore.state c.if-was_there.store) c.if-was_there.space.file_end
  may_end_so_far may =
      let read = may_end_read g.S.PageStore _ _ _ c.in_ok-head.ensures.reads.only may in
      elim c.if-was_there.branch [
        | then-was_there+in_ok-take_out w ↦
            may_end_same g.S.PageStore _ _ _ _ w.store-is w.space-is
            (w.in_ok-take_out.ensures.keeps.may_end read)
        | else-was_there w ↦ may_end_same g.S.PageStore _ _ _ _ w.store-is w.space-is read
      ]

  end_so_far : c.if-was_there.space.file_end ≡ c.args.space.now.file_end
  end_so_far = elim c.if-was_there.branch [
    | then-was_there+in_ok-take_out w ↦
        ap (λ (f : FreeState). f.file_end) w.space-is ∙ w.in_ok-take_out.ensures.end
    | else-was_there w ↦ ap (λ (f : FreeState). f.file_end) w.space-is
  ]

  small_so_far : c.if-was_there.space.file_end < 2 ^ 32
  small_so_far = omega (arith, small, end_so_far)

  bucket : c.bucket.result ≡ address (shape_in (model_meta c.args.meta.now))
      (hash_of c.args.key.now)
  bucket = bucket_of c.args.meta.now c.args.key.now c.bucket.result c.hash.result
      c.bucket.ensures.address c.hash.ensures

  -- the change of the chain from a head page on
  abbrev put_from : (ℕ → Body) → ℕ → Type 0
  put_from at head =
      AreInTurn (λ (mid : ℕ → Body) (between : FreeState).
      IsOutWhere c.args.was_there (model_version c.args.meta.now.version) at mid c.args.space.now
      between head c.args.key.now)
      (λ (mid : ℕ → Body) (between : FreeState).
      IsPut mid (body_at g.S.PageStore c.put.new.store)
      (MayEnd (g.S.PageStore.state c.args.store.now) c.args.space.now.file_end) between
      c.put.new.space head (c.args.key.now, c.args.content.now))

  -- the key is out of its bucket, on any file
  out_so_far : g.S.PageStore.honest c.args.store.now
      → IsOutWhere c.args.was_there (model_version c.args.meta.now.version)
      (body_at g.S.PageStore c.head_of.new.store)
      (body_at g.S.PageStore c.if-was_there.store) c.args.space.now c.if-was_there.space
      c.in_ok-head.head c.args.key.now
  out_so_far honest = elim c.if-was_there.branch [
    | then-was_there+in_ok-take_out w ↦
        was_out g.S.PageStore _ _ _ _ _ _ _ _ _ _ w.store-is w.space-is w.if-was_there.true
        (w.in_ok-take_out.ensures.taken_out
        (c.in_ok-head.ensures.reads.only.stages_only.honesty.1 honest))
    | else-was_there w ↦
        was_not g.S.PageStore _ _ _ _ _ _ _ _ _ _ w.store-is w.space-is w.if-was_there.false
        refl refl
  ]

  module _ (honest : g.S.PageStore.honest c.args.store.now) (p : Placement)
      (mid : IsMidway (body_at g.S.PageStore c.args.store.now) (model_meta c.args.meta.now)
      c.args.space.now p)
      (was : c.args.was_there ≡ is_some (get (contents p) c.args.key.now)) where
    head_is : c.in_ok-head.head ≡ get_or (heads_of p.chains) c.bucket.result 0
    head_is = c.in_ok-head.ensures.exact honest (heads_of p.chains)
        (midway_heads _ _ _ p mid small)
        (midway_below _ _ _ p mid small c.args.key.now c.bucket.result bucket)

    -- once the key was taken out, or was not there
    removed : IsMidway (body_at g.S.PageStore c.if-was_there.store) (model_meta c.args.meta.now)
        c.if-was_there.space (delete p c.args.key.now)
    removed =
        let h1 = c.in_ok-head.ensures.reads.only.stages_only.honesty.1 honest in
        let here = midway_read g.S.PageStore _ _ _ _ p c.in_ok-head.ensures.reads.only honest mid in
        elim c.if-was_there.branch [
          | then-was_there+in_ok-take_out w ↦
              let placed = midway_chain _ _ _ p here small c.args.key.now c.bucket.result bucket
              c.in_ok-head.head head_is in
              let gone = w.in_ok-take_out.ensures.exact h1 _ _ placed
              (midway_once _ _ _ p here small c.args.key.now) in
              midway_same g.S.PageStore _ _ _ _ _ _ w.store-is w.space-is
              (midway_deleted _ _ _ p here small _ _ c.args.key.now gone)
          | else-was_there w ↦
              let none = delete_none p c.args.key.now mid.sound (sym was ∙ w.if-was_there.false) in
              midway_same g.S.PageStore _ _ _ _ _ _ w.store-is w.space-is
              (subst (IsMidway (body_at g.S.PageStore c.head_of.new.store)
              (model_meta c.args.meta.now) c.args.space.now) (sym none) here)
        ]

    -- where the pair is put
    chain_is : IsPlaced (model_version c.args.meta.now.version)
        (body_at g.S.PageStore c.if-was_there.store) c.if-was_there.space
        c.in_ok-head.head (chain_at (delete p c.args.key.now) (key_bucket p.shape c.args.key.now))
        (delete p c.args.key.now).space
    chain_is =
        let same = bucket_is _ (model_meta c.args.meta.now) p mid.sound
        (midway_small _ _ _ p mid small) mid.below.are_read mid.shape_is mid.segments_are
        mid.bounds_are c.args.key.now c.bucket.result bucket in
        midway_chain _ _ _ (delete p c.args.key.now) removed (small_so_far) c.args.key.now
        c.bucket.result bucket c.in_ok-head.head
        (head_still p c.args.key.now c.bucket.result c.in_ok-head.head mid.sound same head_is)

    lacks : times c.args.key.now (pairs_in
        (chain_at (delete p c.args.key.now) (key_bucket p.shape c.args.key.now))) ≡ 0
    lacks = not_in_chain (delete p c.args.key.now) c.args.key.now removed.sound
        (deleted_finds_none [] p mid.sound c.args.key.now)

    -- where what the key has is near, two pages are staged at the most
    spare_so_far : holds_far c.args.key.now (get (contents p) c.args.key.now) ≡ false
        → length (g.S.PageStore.state c.if-was_there.store).staged
        ≤ length (g.S.PageStore.state c.args.store.now).staged + 2
    spare_so_far near =
        let read = ap (λ (s : StoreState). length s.staged) c.in_ok-head.ensures.reads.only.same in
        let h1 = c.in_ok-head.ensures.reads.only.stages_only.honesty.1 honest in
        let here = midway_read g.S.PageStore _ _ _ _ p c.in_ok-head.ensures.reads.only honest mid in
        elim c.if-was_there.branch [
          | then-was_there+in_ok-take_out w ↦
              let is = ap (λ s. length (g.S.PageStore.state s).staged) w.store-is in
              let placed = midway_chain _ _ _ p here small c.args.key.now c.bucket.result bucket
              c.in_ok-head.head head_is in
              let spare = w.in_ok-take_out.ensures.sparing h1 _ _ placed
              (midway_near _ _ _ p here small c.args.key.now near) in
              omega (arith, is, spare.1, read)
          | else-was_there w ↦
              let is = ap (λ s. length (g.S.PageStore.state s).staged) w.store-is in
              omega (arith, is, read)
        ]

-- the pair is put, or is not
pub returns : goal.returns
returns g c =
    let so_far = stages_so_far g c in
    let told = c.put.ensures in
    let h1 = so_far.honesty.1 in
    record {
      stages = record {
        only = stages_then g.S.PageStore _ _ _ (g.met.S.PageStore.counts_now c.if-was_there.store)
            so_far told.stages.only;
        cause = cause_last _ _ _ _ so_far.later told.stages.cause;
      };
      few = omega (arith, told.few, few_so_far g c);
      answer = record {
        change = put_answers _ _ _ _ _ _ (ap (λ (s : StoreState). s.usable) so_far.state)
            told.answer;
        memory = λ is. omega (arith, told.answer.memory is, few_so_far g c);
        room = λ none. omega (
          arith,
          (told.answer.no_room none).0,
          end_so_far g c,
          ap (λ (s : StoreState). s.capacity) so_far.state,
        );
      };
      keeps = record {
        ends = λ e. told.keeps.ends (ends_so_far g c e);
        may_end = λ may. told.keeps.may_end (may_end_so_far g c may);
      };
      put_in = λ honest.
          on_ok_weaker c.put.result (λ added.
          in_bucket _ _ (model_meta c.args.meta.now) c.args.key.now c.bucket.result
          c.in_ok-head.head (put_from g c) (bucket g c) (c.in_ok-head.ensures.entry honest)
          (same_said g.S.PageStore _ _ c.in_ok-head.ensures.reads.only honest)
          (record {
            mid = body_at g.S.PageStore c.if-was_there.store;
            between = c.if-was_there.space;
            first = out_so_far g c honest;
            second = is_put_under _ _ (may_end_so_far g c) _ _ _ _ _ _ added;
          })) (told.put (h1 honest));
      exact = λ honest p mid was.
          on_ok_weaker c.put.result (λ becomes.
          midway_put _ _ _ (delete p c.args.key.now) (removed g c honest p mid was)
          (small_so_far g c) _ _ (c.args.key.now, c.args.content.now) c.requires.allowed
          (deleted_finds_none [] p mid.sound c.args.key.now) becomes)
          (told.exact (h1 honest) _ _ (chain_is g c honest p mid was) (lacks g c honest p mid was));
      whole = λ honest p mid was. told.whole (h1 honest) _ _ (chain_is g c honest p mid was)
          (lacks g c honest p mid was);
      sparing = λ honest p mid was near.
          let few = spare_so_far g c honest p mid was near in
          (λ is. omega (arith, told.answer.memory is, few), omega (arith, told.few, few));
    }
