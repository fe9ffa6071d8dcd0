use Rattle.std.proofs.Common.{◌≡◌, ℕ, ◌*◌, ◌<◌, ◌≤◌, refl, sym, ap, subst, arith}
use Rattle.std.proofs.lemmas.Bool.{lt-ltb, le-ltb}
use Rattle.std.proofs.lemmas.Result.{IfOk-from_err}
use Rattle.page_model.specs.Pages.{Meta}
use Rattle.page_model.specs.Placement.{Placement}
use Rattle.page_io.specs.Views.{body_at, MayEnd}
use Rattle.page_io.specs.declared.store.PageFault.TheVariants.{NoRoom, Damaged}
use Rattle.page_io.proofs.Exits.{exit_is, came, cause_first, cause_ok}
use Rattle.seg_table.specs.MetaPages.{model_meta}
use Rattle.bucket_chain.proofs.ReadPages.{reads_none}
use Rattle.linear_hash.specs.Tables.{shape_in, shape_for}
use Rattle.linear_hash.specs.Staging.{IsMidway}
use Rattle.linear_hash.proofs.Fullness.{few_where_full, counted_valid, grown_valid, grown_shape, same_shape, full_is_split, few_is_same}
use Rattle.linear_hash.proofs.SplitPages.{where_many, where_few}
use Rattle.linear_hash.proofs.Refusals.{change_refused, no_refusal}
use Rattle.linear_hash.proofs.staging.split_if_full.Goals as goal

-- the bucket can be split
pub split_bucket-requires : goal.split_bucket-requires
split_bucket-requires g c =
    let full = subst (λ (b : ℕ). 8 * b < c.args.meta.now.pairs) c.buckets.ensures
    c.if-meta-buckets.true in
    record {
      segments = c.requires.valid.all_segments;
      few =
          few_where_full (model_meta c.args.meta.now) c.requires.valid c.requires.few.0 full;
    }

-- the bucket is not split
pub returns-in_err-split_bucket : goal.returns-in_err-split_bucket
returns-in_err-split_bucket g c =
    let told = c.in_err-split_bucket.ensures in
    let result = c.from_residual in
    let exit = exit_is result.result c.in_err-split_bucket.field-0.0 result.ensures.1 in
    record {
      stages = record {
        only = told.stages.only;
        cause = cause_first _ _ exit _ _ told.stages.cause;
      };
      answer = change_refused _ _ refl _ _ exit told.answer;
      memory = λ is.
          subst (λ (b : ℕ). 8 * b < c.args.meta.now.pairs) c.buckets.ensures
          c.if-meta-buckets.true;
      kept = IfOk-from_err _ _ result.ensures.0;
      still = λ few.
          let full = subst (λ (b : ℕ). 8 * b < c.args.meta.now.pairs) c.buckets.ensures
          c.if-meta-buckets.true in
          absurd (omega (arith, few, full));
      keeps = record {
        ends = told.keeps.ends;
        may_end = λ may. IfOk-from_err _ _ result.ensures.0;
      };
      splits = λ honest. IfOk-from_err _ _ result.ensures.0;
      exact = λ honest p mid near counted. (
        IfOk-from_err _ _ result.ensures.0,
        λ none.
            let full = subst (λ (b : ℕ). 8 * b < c.args.meta.now.pairs) c.buckets.ensures
            c.if-meta-buckets.true in
            omega (
              arith,
              told.room honest p mid near (came _ _ exit NoRoom none),
              ap (λ (q : Placement). q.space.end) (full_is_split _ _ _ p mid counted full),
            ),
      );
      whole = λ honest p mid near damaged.
          told.whole honest p mid near (came _ _ exit Damaged damaged);
    }

-- the bucket is split
pub returns-in_ok-split_bucket-clause-stages : goal.returns-in_ok-split_bucket-clause-stages
returns-in_ok-split_bucket-clause-stages g c = record {
  only = c.in_ok-split_bucket.ensures.stages.only;
  cause = cause_ok _ _ _ c.in_ok-split_bucket.ensures.stages.cause.later;
}

pub returns-in_ok-split_bucket-clause-answer : goal.returns-in_ok-split_bucket-clause-answer
returns-in_ok-split_bucket-clause-answer g c = no_refusal _ _

pub returns-in_ok-split_bucket-clause-kept : goal.returns-in_ok-split_bucket-clause-kept
returns-in_ok-split_bucket-clause-kept g c =
    let full = subst (λ (b : ℕ). 8 * b < c.args.meta.now.pairs) c.buckets.ensures
    c.if-meta-buckets.true in
    let grows = c.in_ok-split_bucket.ensures.grown in
    record {
      valid = grown_valid (model_meta c.args.meta.now) c.requires.valid c.requires.few.0 full
          (model_meta c.split_bucket.new.meta) c.requires.few.1 grows;
      bounds = ap (λ (m : Meta). m.bounds) grows.rest;
      pairs = ap (λ (m : Meta). m.pairs) grows.rest;
      shaped = subst (λ (n : ℕ). shape_in (model_meta c.split_bucket.new.meta)
          ≡ shape_for n (shape_in (model_meta c.args.meta.now)))
          (sym (ap (λ (m : Meta). m.pairs) grows.rest))
          (grown_shape c.args.meta.now.pairs _ _ full grows.shape);
    }

pub returns-in_ok-split_bucket-clause-still : goal.returns-in_ok-split_bucket-clause-still
returns-in_ok-split_bucket-clause-still g c few =
    let full = subst (λ (b : ℕ). 8 * b < c.args.meta.now.pairs) c.buckets.ensures
    c.if-meta-buckets.true in
    absurd (omega (arith, few, full))

pub returns-in_ok-split_bucket-clause-keeps : goal.returns-in_ok-split_bucket-clause-keeps
returns-in_ok-split_bucket-clause-keeps g c = record {
  ends = c.in_ok-split_bucket.ensures.keeps.ends;
  may_end = c.in_ok-split_bucket.ensures.keeps.may_end;
}

pub returns-in_ok-split_bucket-clause-whole : goal.returns-in_ok-split_bucket-clause-whole
returns-in_ok-split_bucket-clause-whole g c honest p mid near damaged = cc

pub returns-in_ok-split_bucket-clause-splits : goal.returns-in_ok-split_bucket-clause-splits
returns-in_ok-split_bucket-clause-splits g c honest =
    let full = subst (λ (b : ℕ). 8 * b < c.args.meta.now.pairs) c.buckets.ensures
    c.if-meta-buckets.true in
    where_many (MayEnd (g.S.PageStore.state c.args.store.now) c.args.space.now.file_end)
    (lt-ltb _ _ full) (c.in_ok-split_bucket.ensures.splits honest)

pub returns-in_ok-split_bucket-clause-exact : goal.returns-in_ok-split_bucket-clause-exact
returns-in_ok-split_bucket-clause-exact g c honest p mid near counted =
    let full = subst (λ (b : ℕ). 8 * b < c.args.meta.now.pairs) c.buckets.ensures
    c.if-meta-buckets.true in (
      subst (IsMidway (body_at g.S.PageStore c.split_bucket.new.store)
          (model_meta c.split_bucket.new.meta) c.split_bucket.new.space)
          (sym (full_is_split _ _ _ p mid counted full))
          (c.in_ok-split_bucket.ensures.exact honest p mid near),
      λ none. absurd (let x = none in cc),
    )

-- there are few pairs
pub returns-else-meta-buckets-clause-stages : goal.returns-else-meta-buckets-clause-stages
returns-else-meta-buckets-clause-stages g c = record {
  only = (reads_none g.S.PageStore c.args.store.now
      (g.met.S.PageStore.only_now c.args.store.now)).stages_only;
  cause = cause_ok _ _ _ (reads_none g.S.PageStore c.args.store.now
      (g.met.S.PageStore.only_now c.args.store.now)).stages_only.later;
}

pub returns-else-meta-buckets-clause-answer : goal.returns-else-meta-buckets-clause-answer
returns-else-meta-buckets-clause-answer g c = no_refusal _ _

pub returns-else-meta-buckets-clause-kept : goal.returns-else-meta-buckets-clause-kept
returns-else-meta-buckets-clause-kept g c =
    let few = subst (λ (b : ℕ). c.args.meta.now.pairs ≤ 8 * b) c.buckets.ensures
    c.if-meta-buckets.false in
    record {
      valid = counted_valid (model_meta c.args.meta.now) c.requires.valid c.requires.few.0 few;
      bounds = refl;
      pairs = refl;
      shaped = same_shape c.args.meta.now.pairs (shape_in (model_meta c.args.meta.now)) few;
    }

pub returns-else-meta-buckets-clause-still : goal.returns-else-meta-buckets-clause-still
returns-else-meta-buckets-clause-still g c few = (refl, refl, refl)

pub returns-else-meta-buckets-clause-keeps : goal.returns-else-meta-buckets-clause-keeps
returns-else-meta-buckets-clause-keeps g c = record { ends = λ e. e; may_end = λ may. may }

pub returns-else-meta-buckets-clause-whole : goal.returns-else-meta-buckets-clause-whole
returns-else-meta-buckets-clause-whole g c honest p mid near damaged = cc

pub returns-else-meta-buckets-clause-splits : goal.returns-else-meta-buckets-clause-splits
returns-else-meta-buckets-clause-splits g c honest =
    let few = subst (λ (b : ℕ). c.args.meta.now.pairs ≤ 8 * b) c.buckets.ensures
    c.if-meta-buckets.false in
    where_few (MayEnd (g.S.PageStore.state c.args.store.now) c.args.space.now.file_end)
    (le-ltb _ _ few) (refl, refl, refl)

pub returns-else-meta-buckets-clause-exact : goal.returns-else-meta-buckets-clause-exact
returns-else-meta-buckets-clause-exact g c honest p mid near counted =
    let few = subst (λ (b : ℕ). c.args.meta.now.pairs ≤ 8 * b) c.buckets.ensures
    c.if-meta-buckets.false in (
      subst (IsMidway (body_at g.S.PageStore c.args.store.now) (model_meta c.args.meta.now)
          c.args.space.now) (sym (few_is_same _ _ _ p mid counted few)) mid,
      λ none. absurd (let x = none in cc),
    )
