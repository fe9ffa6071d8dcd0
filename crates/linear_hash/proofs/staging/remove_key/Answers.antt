use Rattle.std.proofs.Common.{ℕ, ◌^◌, ◌<◌, length, refl, ap, subst, arith}
use Rattle.std.proofs.lemmas.Result.{IfOk-from_err, on_ok_weaker}
use Rattle.page_model.specs.Pages.{Body}
use Rattle.page_model.specs.Placement.{Placement, key_bucket, chain_at}
use Rattle.page_model.specs.PageBodies.{heads_of}
use Rattle.page_io.specs.Store.{StoreState}
use Rattle.page_io.specs.Views.{body_at}
use Rattle.page_io.specs.declared.store.PageFault.TheVariants.{Damaged}
use Rattle.page_io.proofs.Views.{same_said, stages_then}
use Rattle.page_io.proofs.Exits.{exit_is, came, cause_first, cause_last}
use Rattle.dbm_model.specs.Sizes.{pages_for}
use Rattle.page_io.specs.Versions.{model_version}
use Rattle.seg_table.specs.MetaPages.{model_meta}
use Rattle.bucket_chain.specs.Answers.{IsRemoveAnswer}
use Rattle.bucket_chain.specs.AnyFile.{IsTakenOut}
use Rattle.bucket_chain.specs.Changes.{IsPlaced}
use Rattle.linear_hash.specs.Staging.{IsMidway}
use Rattle.linear_hash.proofs.Buckets.{bucket_of}
use Rattle.linear_hash.proofs.Midway.{midway_read, midway_heads, midway_below, midway_chain, midway_once, midway_one, midway_near, midway_deleted, may_end_read}
use Rattle.linear_hash.proofs.Refusals.{head_of_remove}
use Rattle.linear_hash.proofs.Written.{in_bucket}
use Rattle.linear_hash.proofs.staging.remove_key.Given.{Over}
use Rattle.linear_hash.proofs.staging.remove_key.Goals.{After-take_out}
use Rattle.linear_hash.proofs.staging.remove_key.Goals as goal

-- the head page is not told
pub returns-in_err-head : goal.returns-in_err-head
returns-in_err-head g c =
    let few : c.args.space.now.file_end < 2 ^ 32 = omega (arith, c.if-prove.false) in
    let told = c.in_err-head.ensures in
    let result = c.from_residual in
    let exit = exit_is result.result c.in_err-head.field-0.0 result.ensures.1 in
    record {
      stages = record {
        only = told.reads.only.stages_only;
        cause = cause_first _ _ exit _ _ told.reads.cause;
      };
      few = omega (arith, ap (λ (s : StoreState). length s.staged) told.reads.only.same);
      answer = head_of_remove _ _ refl _ _ exit _ _ told.answer;
      end = refl;
      keeps = record { ends = λ e. e; may_end = λ may. IfOk-from_err _ _ result.ensures.0 };
      took_out = λ honest. IfOk-from_err _ _ result.ensures.0;
      exact = λ honest p mid. IfOk-from_err _ _ result.ensures.0;
      whole = λ honest p mid was damaged.
          told.whole honest (heads_of p.chains) (midway_heads _ _ _ p mid few)
          (came _ _ exit Damaged damaged);
      sparing = λ honest p mid near. (
        head_of_remove _ _ refl _ _ exit _ _ told.answer,
        omega (arith, ap (λ (s : StoreState). length s.staged) told.reads.only.same),
      );
    }

-- the chain of the key's bucket, once its head page was looked up
module _ (g : Over) (c : After-take_out g) (honest : g.S.PageStore.honest c.args.store.now)
    (p : Placement) (mid : IsMidway (body_at g.S.PageStore c.args.store.now)
    (model_meta c.args.meta.now) c.args.space.now p) where
  small : c.args.space.now.file_end < 2 ^ 32
  small = omega (arith, c.if-prove.false)

  here : IsMidway (body_at g.S.PageStore c.head_of.new.store) (model_meta c.args.meta.now)
      c.args.space.now p
  here = midway_read g.S.PageStore _ _ _ _ p c.in_ok-head.ensures.reads.only honest mid

  chain_is : IsPlaced (model_version c.args.meta.now.version)
      (body_at g.S.PageStore c.head_of.new.store) c.args.space.now c.in_ok-head.head
      (chain_at p (key_bucket p.shape c.args.key.now)) p.space
  chain_is =
      let bucket = bucket_of c.args.meta.now c.args.key.now c.bucket.result c.hash.result
      c.bucket.ensures.address c.hash.ensures in
      let head = c.in_ok-head.ensures.exact honest (heads_of p.chains)
      (midway_heads _ _ _ p mid small)
      (midway_below _ _ _ p mid small c.args.key.now c.bucket.result bucket) in
      midway_chain _ _ _ p here small c.args.key.now c.bucket.result bucket
      c.in_ok-head.head head

-- the key is taken out, or is not
pub returns : goal.returns
returns g c =
    let one = c.in_ok-head.ensures.reads.only in
    let told = c.take_out.ensures in
    let h1 = one.stages_only.honesty.1 in
    let used : c.args.space.now.file_end < 2 ^ 32 = omega (arith, c.if-prove.false) in
    record {
      stages = record {
        only = stages_then g.S.PageStore _ _ _ (g.met.S.PageStore.counts_now c.head_of.new.store)
            one.stages_only told.stages.only;
        cause = cause_last _ _ _ _ one.stages_only.later told.stages.cause;
      };
      few = omega (arith, told.few, ap (λ (s : StoreState). length s.staged) one.same);
      answer = subst (λ (s : StoreState). IsRemoveAnswer g.S.PageStore.reserved
          (pages_for (model_version c.args.meta.now.version)) s c.take_out.result)
          one.same told.answer;
      end = told.end;
      keeps = record {
        ends = told.keeps.ends;
        may_end = λ may. told.keeps.may_end (may_end_read g.S.PageStore _ _ _ one may);
      };
      took_out = λ honest.
          on_ok_weaker c.take_out.result (λ out.
          in_bucket _ _ (model_meta c.args.meta.now) c.args.key.now c.bucket.result
          c.in_ok-head.head
          (λ (at : ℕ → Body) (head : ℕ). IsTakenOut (model_version c.args.meta.now.version) at
          (body_at g.S.PageStore c.take_out.new.store)
          c.args.space.now c.take_out.new.space head c.args.key.now)
          (bucket_of c.args.meta.now c.args.key.now c.bucket.result c.hash.result
          c.bucket.ensures.address c.hash.ensures) (c.in_ok-head.ensures.entry honest)
          (same_said g.S.PageStore _ _ one honest) out)
          (told.taken_out (h1 honest));
      exact = λ honest p mid.
          on_ok_weaker c.take_out.result (λ becomes.
          midway_deleted _ _ _ p (here g c honest p mid) used _ _ c.args.key.now becomes)
          (told.exact (h1 honest) _ _ (chain_is g c honest p mid)
          (midway_once _ _ _ p (here g c honest p mid) used c.args.key.now));
      whole = λ honest p mid was. told.whole (h1 honest) _ _ (chain_is g c honest p mid)
          (midway_one _ _ _ p (here g c honest p mid) used c.args.key.now was);
      sparing = λ honest p mid near.
          let spare = told.sparing (h1 honest) _ _ (chain_is g c honest p mid)
          (midway_near _ _ _ p (here g c honest p mid) used c.args.key.now near) in (
            subst (λ (s : StoreState). IsRemoveAnswer g.S.PageStore.reserved 1 s c.take_out.result)
                one.same spare.0,
            omega (arith, spare.1, ap (λ (s : StoreState). length s.staged) one.same),
          );
    }
