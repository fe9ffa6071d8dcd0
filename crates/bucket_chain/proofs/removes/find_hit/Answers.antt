use Rattle.std.proofs.Common.{inl, inr, refl, sym, ap}
use Rattle.std.proofs.lemmas.Bool.{false≢true}
use Rattle.std.proofs.lemmas.Result.{IfOk-from_err}
use Rattle.page_io.specs.Store.{StoreState}
use Rattle.page_io.specs.declared.store.PageFault.TheVariants.{Damaged}
use Rattle.page_io.proofs.Views.{reads_then}
use Rattle.page_io.proofs.Exits.{exit_is, came, cause_then, cause_ok}
use Rattle.page_io.specs.BucketPages.{page_records}
use Rattle.bucket_chain.specs.Walks.{EndsWithout}
use Rattle.bucket_chain.proofs.Headers.{header_of}
use Rattle.bucket_chain.proofs.ReadPages.{reads_none, still_honest, link_before, link_after}
use Rattle.bucket_chain.proofs.Walks.{read_as, walk_is_here, some_page, not_too_long}
use Rattle.bucket_chain.proofs.KeyWalks.{absent_times}
use Rattle.bucket_chain.proofs.StagedPages.{known_same}
use Rattle.bucket_chain.proofs.KeySlots.{hit_walk}
use Rattle.bucket_chain.proofs.Hits.{track_starts, track_goes_on, track_ends, track_hits}
use Rattle.bucket_chain.proofs.Refusals.{walk_walks, no_walk_refusal, no_fault, long_walk, long_walk_cause}
use Rattle.bucket_chain.proofs.removes.find_hit.Goals as goal

pub loop-step-init : goal.loop-step-init
loop-step-init g c = record {
  kinds = inl refl;
  prior_kinds = inl refl;
  reads = reads_none g.S.PageStore c.args.store.now (g.met.S.PageStore.only_now c.args.store.now);
  walked = λ honest. track_starts _ _ _ _;
}

-- a page is not read
pub returns-in_err-next : goal.returns-in_err-next
returns-in_err-next g c =
    let st = g.S.PageStore in
    let told = c.in_err-next.ensures in
    let result = c.from_residual in
    let exit = exit_is result.result c.in_err-next.field-0.0 result.ensures.1 in
    let reads = c.loop-step.invariant.reads in
    record {
      reads = record {
        only = reads_then st _ _ _ (g.met.S.PageStore.counts_now c.loop-step.store) reads
            told.reads.only;
        cause = cause_then _ _ exit _ _ _ reads.stages_only.later told.reads.cause;
      };
      answer = walk_walks _ _ (ap (λ (s : StoreState). s.usable) reads.same) _ _ exit told.answer;
      held = IfOk-from_err _ _ result.ensures.0;
      walked = λ honest. IfOk-from_err _ _ result.ensures.0;
      has = λ honest. IfOk-from_err _ _ result.ensures.0;
      whole = λ honest chain is damaged.
          let walk = (c.loop-step.invariant.walked honest).walk in
          let read = read_as _ _ _ _ chain is in
          let here = walk_is_here _ _ _ _ _ _ _ _ _ read walk in
          let some = some_page _ _ _ _ _ _ _ _ _ read walk in
          c.in_err-next.ensures.whole (still_honest g.S.PageStore _ _ reads honest) _ _ some
          (link_after _ g.S.PageStore _ _ reads honest _ _ _ _ here.link)
          (came _ _ exit Damaged damaged);
    }

-- the page has the key
pub returns-in-Some : goal.returns-in-Some
returns-in-Some g c =
    let st = g.S.PageStore in
    let told = c.in_ok-next.ensures in
    let before = c.loop-step.invariant.reads in
    let reads = reads_then st _ _ _ (g.met.S.PageStore.counts_now c.loop-step.store) before
    told.reads.only in
    let bytes = c.read_link.new.page.bytes in
    let hit = λ (honest : st.honest c.args.store.now).
    let link = link_before _ st _ _ before honest _ _ _ _ told.says in
    track_hits _ _ _ _ _ _ _ _ _ (c.loop-step.invariant.walked honest) _ (page_records bytes) link
    told.known.0 bytes c.in-Some.slot _
    told.link refl c.in-Some.ensures.found in
    record {
      reads = record { only = reads; cause = cause_ok _ _ _ reads.stages_only.later };
      answer = no_walk_refusal _ _;
      held = record {
        some = told.known.0;
        known = known_same _ _ _ (sym before.same) told.known.1;
        own = (header_of _ _ _ _ _ _ told.link).own;
        page = told.link.page;
        has = c.in-Some.ensures.found;
        content = c.far_at.ensures;
        prior_kind = c.loop-step.invariant.prior_kinds;
      };
      walked = hit;
      has = λ honest _. hit_walk _ _ _ _ _ _ (hit honest);
      whole = λ honest chain is damaged. absurd (no_fault _ _ damaged);
    }

-- it is the last, and has not
pub returns-then-next-eq0 : goal.returns-then-next-eq0
returns-then-next-eq0 g c =
    let st = g.S.PageStore in
    let told = c.in_ok-next.ensures in
    let before = c.loop-step.invariant.reads in
    let reads = reads_then st _ _ _ (g.met.S.PageStore.counts_now c.loop-step.store) before
    told.reads.only in
    record {
      reads = record { only = reads; cause = cause_ok _ _ _ reads.stages_only.later };
      answer = no_walk_refusal _ _;
      held = tt;
      walked = λ honest.
          let link = link_before _ st _ _ before honest _ _ _ _ told.says in
          track_ends _ _ _ _ _ _ _ _ _ (c.loop-step.invariant.walked honest) _ _ link told.known.0
          (EndsWithout c.args.key.now)
          (c.if-next-eq0.true, absent_times _ _ c.in_default.ensures.none);
      has = λ honest some. absurd (false≢true some);
      whole = λ honest chain is damaged. absurd (no_fault _ _ damaged);
    }

pub loop-step-preserved : goal.loop-step-preserved
loop-step-preserved g c = record {
  kinds = inr refl;
  prior_kinds = c.loop-step.invariant.kinds;
  reads = reads_then g.S.PageStore _ _ _ (g.met.S.PageStore.counts_now c.loop-step.store)
      c.loop-step.invariant.reads c.in_ok-next.ensures.reads.only;
  walked = λ honest.
      let link = link_before _ g.S.PageStore _ _ c.loop-step.invariant.reads honest _ _ _ _
      c.in_ok-next.ensures.says in
      track_goes_on _ _ _ _ _ _ _ _ _ (c.loop-step.invariant.walked honest) _ _ link
      c.in_ok-next.ensures.known.0 c.if-next-eq0.false
      (absent_times _ _ c.in_default.ensures.none);
}

-- more pages than there may be
pub returns : goal.returns
returns g c =
    let reads = c.loop-step.invariant.reads in
    record {
      reads = record { only = reads; cause = long_walk_cause _ _ reads.stages_only.later };
      answer = long_walk _;
      held = tt;
      walked = λ honest. tt;
      has = λ honest. tt;
      whole = λ honest chain is damaged.
          not_too_long _ _ _ _ _ _ _ _ _ (read_as _ _ _ _ chain is)
          (c.loop-step.invariant.walked honest).walk
          c.loop-step-test.false;
    }
