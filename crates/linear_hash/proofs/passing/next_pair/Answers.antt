use Rattle.std.proofs.Common.{◌≡◌, ℕ, ◌-◌, ◌^◌, ◌<◌, ◌≤◌, List, Option, Some, None, MatchOption, option_copied, Bor, inl, sym, subst, arith, rules}
use Rattle.dbm_model.specs.KeyOrder.{rank}
use Rattle.dbm_model.specs.States.{Pass}
use Rattle.page_model.specs.Chain.{pairs_in}
use Rattle.page_model.specs.PageBodies.{heads_of}
use Rattle.page_model.specs.Placement.{Placement, chain_at, key_bucket}
use Rattle.page_io.specs.Views.{body_at}
use Rattle.page_io.specs.declared.store.PageFault.TheVariants.{Damaged}
use Rattle.page_io.proofs.Exits.{exit_is, came}
use Rattle.page_io.proofs.Views.{reads_then, same_said}
use Rattle.lin_addr.specs.Intervals.{Precedes}
use Rattle.lin_addr.proofs.Precedence.{rises}
use Rattle.lin_addr.proofs.Ranks.{rank_below}
use Rattle.lin_addr.specs.Shapes.{shape_of}
use Rattle.seg_table.specs.MetaPages.{model_meta}
use Rattle.seg_table.specs.declared.meta.Meta as code
use Rattle.bucket_chain.specs.Leasts.{pass_behind, IsLeast, IsLeastRead}
use Rattle.bucket_chain.proofs.ReadPages.{still_honest}
use Rattle.linear_hash.specs.Passing.{bucket_of_pass, IsBucketRead, HaveNone}
use Rattle.linear_hash.specs.Tables.{shape_in, IsTable}
use Rattle.linear_hash.proofs.PassedBuckets.{bucket_read, first_below, to_read_next, none_before_first, none_before_next, none_at_all}
use Rattle.linear_hash.proofs.Passes.{IsLeft, first_left, still_left, nothing_left, least_left}
use Rattle.linear_hash.proofs.TableChains.{heads_there, chain_there}
use Rattle.linear_hash.proofs.passing.next_pair.Given.{Over}
use Rattle.linear_hash.proofs.passing.next_pair.Goals.{In_ok-slot}
use Rattle.linear_hash.proofs.passing.next_pair.Goals as goal

-- where the pass stands
abbrev from_of : Option (Bor (List ℕ)) → Pass
from_of last = pass_behind (option_copied last)

at_most : {n : ℕ} → n ≤ 16 → n ≤ 17
at_most low = omega arith

-- the bucket that it begins with
first_is : (meta : code.Meta) (last : Option (Bor (List ℕ))) (bucket : ℕ)
    (Told : Bor (List ℕ) → Type 0) → MatchOption last (bucket ≡ 0) Told
    → ((key : Bor (List ℕ)) → Told key → bucket ≡ key_bucket (shape_of meta.shape) key.now)
    → bucket ≡ bucket_of_pass (model_meta meta) (from_of last)
first_is meta None bucket Told told by_key = told
first_is meta (Some key) bucket Told told by_key = by_key key told

pub loop-head-init : goal.loop-head-init
loop-head-init g c =
    let m = model_meta c.args.meta.now in
    let from = from_of c.args.last in
    let low = at_most c.args.meta.now.shape.low_level in
    let first : c.map_or-bucket.result ≡ bucket_of_pass m from =
    first_is c.args.meta.now c.args.last c.map_or-bucket.result _ c.map_or-bucket.ensures
    (λ key told. search rules) in
    record {
      reads = search rules;
      within = omega (arith, first, first_below m c.requires.split_in low from);
      to_read = inl first;
      passed = λ honest. subst (λ (b : ℕ). HaveNone (body_at g.S.PageStore c.args.store.now) m from
          (λ other. Precedes (shape_in m) other b)) (sym first)
          (none_before_first m c.requires.split_in low from
          (body_at g.S.PageStore c.args.store.now));
      left = λ honest p table. subst (λ (b : ℕ). IsLeft p from b) (sym first)
          (first_left _ _ _ p table c.args.meta.now.shape.low_level from);
    }

-- a head page is not told
pub returns-in_err-head-clause-whole : goal.returns-in_err-head-clause-whole
returns-in_err-head-clause-whole g c honest p table damaged =
    let reads = c.loop-head.invariant.reads in
    let result = c.from_residual in
    let exit = exit_is result.result c.in_err-head.field-0.0 result.ensures.1 in
    c.in_err-head.ensures.whole (still_honest g.S.PageStore _ _ reads honest) (heads_of p.chains)
    (heads_there g.S.PageStore _ _ _ p reads honest table) (came _ _ exit Damaged damaged)

-- a chain is not walked
pub returns-in_err-slot-clause-whole : goal.returns-in_err-slot-clause-whole
returns-in_err-slot-clause-whole g c honest p table damaged =
    let so_far = c.loop-head.invariant in
    let still = still_honest g.S.PageStore _ _ so_far.reads honest in
    let reads = c.in_ok-head.ensures.reads.only in
    let result = c.from_residual-in_err-slot in
    let exit = exit_is result.result c.in_err-slot.field-0.0 result.ensures.1 in
    let chain = chain_there g.S.PageStore _ _ _ p so_far.reads honest table _ _ _ reads
    so_far.within (c.in_ok-head.ensures.exact still) in
    c.in_err-slot.ensures.whole (still_honest g.S.PageStore _ _ reads still)
    (chain_at p c.loop-head.bucket) chain (came _ _ exit Damaged damaged)

-- what the walk found, by pages that say what they said at first
read_here : (g : Over) (c : In_ok-slot g) → g.S.PageStore.honest c.args.store.now
    → (answer : Option ℕ) → c.in_ok-slot.field-0 ≡ answer
    → IsBucketRead (body_at g.S.PageStore c.args.store.now) (model_meta c.args.meta.now)
    c.loop-head.bucket (from_of c.args.last) c.least_behind.new.ranked answer
read_here g c honest answer is =
    let so_far = c.loop-head.invariant in
    let still = still_honest g.S.PageStore _ _ so_far.reads honest in
    let reads = c.in_ok-head.ensures.reads.only in
    bucket_read _ _ _ (model_meta c.args.meta.now) c.loop-head.bucket c.in_ok-head.head
    (from_of c.args.last) c.least_behind.new.ranked answer so_far.within so_far.to_read
    (same_said g.S.PageStore _ _ so_far.reads honest) (same_said g.S.PageStore _ _ reads still)
    (c.in_ok-head.ensures.entry still)
    (subst (λ (found : Option ℕ). IsLeastRead (body_at g.S.PageStore c.head_of.new.store)
    c.in_ok-head.head (from_of c.args.last) c.least_behind.new.ranked found) is
    (c.in_ok-slot.ensures.walked (still_honest g.S.PageStore _ _ reads still)))

-- the least of the keys of the bucket of a table
least_here : (g : Over) (c : In_ok-slot g) → g.S.PageStore.honest c.args.store.now
    → (p : Placement)
    → IsTable (body_at g.S.PageStore c.args.store.now) (model_meta c.args.meta.now)
    (g.S.PageStore.state c.args.store.now).end p
    → (answer : Option ℕ) → c.in_ok-slot.field-0 ≡ answer
    → IsLeast (pairs_in (chain_at p c.loop-head.bucket)) (from_of c.args.last)
    c.least_behind.new.ranked answer
least_here g c honest p table answer is =
    let so_far = c.loop-head.invariant in
    let still = still_honest g.S.PageStore _ _ so_far.reads honest in
    let reads = c.in_ok-head.ensures.reads.only in
    let chain = chain_there g.S.PageStore _ _ _ p so_far.reads honest table _ _ _ reads
    so_far.within (c.in_ok-head.ensures.exact still) in
    subst (IsLeast (pairs_in (chain_at p c.loop-head.bucket)) (from_of c.args.last)
    c.least_behind.new.ranked) is
    (c.in_ok-slot.ensures.exact (still_honest g.S.PageStore _ _ reads still)
    (chain_at p c.loop-head.bucket) chain)

pub returns-in-Some-clause-passed : goal.returns-in-Some-clause-passed
returns-in-Some-clause-passed g c honest = record {
  bucket = c.loop-head.bucket;
  read = read_here g c.before honest (Some c.in-Some.slot) c.in-Some.is;
  before = c.loop-head.invariant.passed honest;
}

pub returns-in-Some-clause-exact : goal.returns-in-Some-clause-exact
returns-in-Some-clause-exact g c honest p table =
    least_left _ _ _ p table c.args.meta.now.shape.low_level (from_of c.args.last)
    c.loop-head.bucket (c.loop-head.invariant.left honest p table) _ c.in-Some.slot
    c.loop-head.invariant.within
    (least_here g c.before honest p table (Some c.in-Some.slot) c.in-Some.is)

falls : (b next : ℕ) → rank b < rank next → 2 ^ 32 - rank next < 2 ^ 32 - rank b
falls b next more = omega (arith, rank_below next)

pub loop-head-smaller : goal.loop-head-smaller
loop-head-smaller g c =
    let following = c.in-Some-following.ensures.next in
    falls c.loop-head.bucket c.in-Some-following.next
    (rises (shape_in (model_meta c.args.meta.now)) c.requires.split_in
    (at_most c.args.meta.now.shape.low_level) c.loop-head.bucket c.in-Some-following.next
    c.loop-head.invariant.within following.there following.behind)

pub loop-head-preserved : goal.loop-head-preserved
loop-head-preserved g c =
    let so_far = c.loop-head.invariant in
    let following = c.in-Some-following.ensures.next in
    let low = at_most c.args.meta.now.shape.low_level in
    let counts = g.met.S.PageStore.counts_now in
    record {
      reads = reads_then g.S.PageStore _ _ _ (counts c.head_of.new.store)
          (reads_then g.S.PageStore _ _ _ (counts c.loop-head.store) so_far.reads
          c.in_ok-head.ensures.reads.only) c.in_ok-slot.ensures.reads.only;
      within = following.there;
      to_read = to_read_next (model_meta c.args.meta.now) c.requires.split_in low
          (from_of c.args.last) c.loop-head.bucket c.in-Some-following.next so_far.within
          so_far.to_read following.behind;
      passed = λ honest. none_before_next (model_meta c.args.meta.now) c.requires.split_in low
          (from_of c.args.last) _ c.loop-head.bucket c.least_behind.new.ranked so_far.within
          (so_far.passed honest) (read_here g c.before.before.before honest None c.in_default.is)
          c.in-Some-following.next following;
      left = λ honest p table. still_left _ _ _ p table c.args.meta.now.shape.low_level
          (from_of c.args.last) c.loop-head.bucket (so_far.left honest p table)
          c.in-Some-following.next
          (least_here g c.before.before.before honest p table None c.in_default.is) following;
    }

pub returns-in-None-clause-passed : goal.returns-in-None-clause-passed
returns-in-None-clause-passed g c honest =
    none_at_all (model_meta c.args.meta.now) c.requires.split_in
    (at_most c.args.meta.now.shape.low_level) (from_of c.args.last) _ c.loop-head.bucket
    c.least_behind.new.ranked c.loop-head.invariant.within
    (c.loop-head.invariant.passed honest)
    (read_here g c.before.before.before honest None c.in_default.is)
    c.in-None.ensures.last

pub returns-in-None-clause-exact : goal.returns-in-None-clause-exact
returns-in-None-clause-exact g c honest p table =
    nothing_left _ _ _ p table c.args.meta.now.shape.low_level (from_of c.args.last)
    c.loop-head.bucket (c.loop-head.invariant.left honest p table)
    (least_here g c.before.before.before honest p table None c.in_default.is) c.in-None.ensures.last

pub returns-in-None-clause-reads : goal.returns-in-None-clause-reads
returns-in-None-clause-reads g c = record { only = search rules; cause = search rules }

pub returns-in-Some-clause-ahead : goal.returns-in-Some-clause-ahead
returns-in-Some-clause-ahead g c = search rules

pub returns-in_err-slot-clause-reads : goal.returns-in_err-slot-clause-reads
returns-in_err-slot-clause-reads g c = record { only = search rules; cause = search rules }

pub returns-in_err-head-clause-reads : goal.returns-in_err-head-clause-reads
returns-in_err-head-clause-reads g c = record {
  only = reads_then g.S.PageStore _ _ _ (g.met.S.PageStore.counts_now c.loop-head.store)
      c.loop-head.invariant.reads c.in_err-head.ensures.reads.only;
  cause = search rules;
}
