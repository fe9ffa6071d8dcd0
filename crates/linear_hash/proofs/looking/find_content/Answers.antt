use Rattle.std.proofs.Common.{◌≡◌, ◌∙◌, ℕ, refl, sym, ap, subst}
use Rattle.std.proofs.lemmas.Result.{IfOk-from_err, IfOk-weaker}
use Rattle.page_model.specs.Address.{address, hash_of}
use Rattle.page_model.specs.Pages.{Body}
use Rattle.page_model.specs.Placement.{Placement, key_bucket, chain_at}
use Rattle.page_model.specs.PageBodies.{heads_of}
use Rattle.page_io.specs.Store.{StoreState}
use Rattle.page_io.specs.Views.{body_at}
use Rattle.page_io.specs.declared.store.PageFault.TheVariants.{Damaged}
use Rattle.page_io.proofs.Views.{same_said, reads_then}
use Rattle.page_io.proofs.Exits.{exit_is, came, cause_first, cause_last}
use Rattle.seg_table.specs.MetaPages.{model_meta}
use Rattle.bucket_chain.specs.WalkAnswers.{IsWalkAnswer}
use Rattle.bucket_chain.specs.Chains.{IsChainAt}
use Rattle.linear_hash.specs.Tables.{shape_in, IsTable}
use Rattle.linear_hash.proofs.Buckets.{table_heads, table_below, table_chain, content_found}
use Rattle.linear_hash.proofs.Refusals.{head_of_walk}
use Rattle.linear_hash.proofs.Searches.{content_from, segment_from, look_from}
use Rattle.linear_hash.proofs.looking.find_content.Given.{Over}
use Rattle.linear_hash.proofs.looking.find_content.Goals as goal

-- the head page is not told
pub returns-in_err-head : goal.returns-in_err-head
returns-in_err-head g c =
    let told = c.in_err-head.ensures in
    let result = c.from_residual in
    let exit = exit_is result.result c.in_err-head.field-0.0 result.ensures.1 in
    record {
      reads = record { only = told.reads.only; cause = cause_first _ _ exit _ _ told.reads.cause };
      answer = head_of_walk _ _ refl _ _ exit told.answer;
      of_version = IfOk-from_err _ _ result.ensures.0;
      searched = λ honest. IfOk-from_err _ _ result.ensures.0;
      exact = λ honest p table. IfOk-from_err _ _ result.ensures.0;
      whole = λ honest p table damaged.
          told.whole honest (heads_of p.chains) (table_heads _ _ _ p table)
          (came _ _ exit Damaged damaged);
      readable = λ honest can damaged.
          told.readable honest (segment_from _ _ _ _ c.bucket.result (c.bucket.ensures.address
          ∙ ap (address (shape_in (model_meta c.args.meta.now))) c.hash.ensures) can)
          (came _ _ exit Damaged damaged);
    }

-- the bucket that was looked for
bucket_is : (g : Over) (c : goal.After-lookup_content g)
    → c.bucket.result ≡ address (shape_in (model_meta c.args.meta.now)) (hash_of c.args.key.now)
bucket_is g c = c.bucket.ensures.address
    ∙ ap (address (shape_in (model_meta c.args.meta.now))) c.hash.ensures

-- the chain of the key's bucket, as it is read after the head was looked up
chain_there : (g : Over) (c : goal.After-lookup_content g) → g.S.PageStore.honest c.args.store.now
    → (p : Placement)
    → IsTable (body_at g.S.PageStore c.args.store.now) (model_meta c.args.meta.now)
    (g.S.PageStore.state c.args.store.now).end p
    → IsChainAt (model_meta c.args.meta.now).bounds.version
    (body_at g.S.PageStore c.head_of.new.store)
    (g.S.PageStore.state c.head_of.new.store).end c.in_ok-head.head
    (chain_at p (key_bucket p.shape c.args.key.now))
chain_there g c honest p table =
    let chain = chain_at p (key_bucket p.shape c.args.key.now) in
    let reads = c.in_ok-head.ensures.reads.only in
    let bucket = bucket_is g c in
    let head = c.in_ok-head.ensures.exact honest (heads_of p.chains) (table_heads _ _ _ p table)
    (table_below _ _ _ p table c.args.key.now c.bucket.result bucket) in
    let there = table_chain _ _ _ p table c.args.key.now c.bucket.result bucket
    c.in_ok-head.head head in
    subst (λ (st : StoreState). IsChainAt (model_meta c.args.meta.now).bounds.version
    (body_at g.S.PageStore c.head_of.new.store) st.end
    c.in_ok-head.head chain) (sym reads.same)
    (subst (λ (at : ℕ → Body). IsChainAt (model_meta c.args.meta.now).bounds.version at
    (g.S.PageStore.state c.args.store.now).end
    c.in_ok-head.head chain) (sym (same_said g.S.PageStore _ _ reads honest)) there)

pub returns-clause-reads : goal.returns-clause-reads
returns-clause-reads g c = record {
  only = reads_then g.S.PageStore _ _ _
      (g.met.S.PageStore.counts_now c.head_of.new.store) c.in_ok-head.ensures.reads.only
      c.lookup_content.ensures.reads.only;
  cause = cause_last _ _ _ _ c.in_ok-head.ensures.reads.cause.later
      c.lookup_content.ensures.reads.cause;
}

pub returns-clause-answer : goal.returns-clause-answer
returns-clause-answer g c = subst (λ (s : StoreState). IsWalkAnswer s c.lookup_content.result)
    c.in_ok-head.ensures.reads.only.same c.lookup_content.ensures.answer

pub returns-clause-searched : goal.returns-clause-searched
returns-clause-searched g c honest =
    let reads = c.in_ok-head.ensures.reads.only in
    content_from _ _ (model_meta c.args.meta.now) c.args.key.now c.bucket.result c.in_ok-head.head
    (bucket_is g c) (c.in_ok-head.ensures.entry honest)
    (same_said g.S.PageStore _ _ reads honest) c.lookup_content.new.room.items c.lookup_content.result
    (c.lookup_content.ensures.walked (reads.stages_only.honesty.1 honest))

pub returns-clause-exact : goal.returns-clause-exact
returns-clause-exact g c honest p table =
    IfOk-weaker c.lookup_content.result _ _
    (λ found looked. content_found _ _ _ p c.args.key.now c.lookup_content.new.room.items found
    table looked)
    (c.lookup_content.ensures.exact (c.in_ok-head.ensures.reads.only.stages_only.honesty.1 honest)
    _ (chain_there g c honest p table))

pub returns-clause-whole : goal.returns-clause-whole
returns-clause-whole g c honest p table =
    c.lookup_content.ensures.whole (c.in_ok-head.ensures.reads.only.stages_only.honesty.1 honest) _
    (chain_there g c honest p table)

pub returns-clause-readable : goal.returns-clause-readable
returns-clause-readable g c honest can =
    let reads = c.in_ok-head.ensures.reads.only in
    c.lookup_content.ensures.readable (reads.stages_only.honesty.1 honest)
    (look_from _ _ (model_meta c.args.meta.now) _ _ c.args.key.now c.bucket.result
    c.in_ok-head.head (bucket_is g c) (c.in_ok-head.ensures.entry honest)
    (same_said g.S.PageStore _ _ reads honest) (ap (λ (st : StoreState). st.end) reads.same) can)
