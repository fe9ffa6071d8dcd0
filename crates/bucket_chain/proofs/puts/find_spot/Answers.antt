use Rattle.std.proofs.Common.{◌≡◌, inr, false, refl, sym, ◌∙◌, ap}
use Rattle.std.proofs.lemmas.Result.{IfOk-from_err}
use Rattle.page_io.specs.Store.{StoreState}
use Rattle.page_io.specs.declared.store.PageFault.TheVariants.{Damaged}
use Rattle.page_io.proofs.Views.{reads_then}
use Rattle.page_io.proofs.Exits.{exit_is, came, cause_then, cause_ok}
use Rattle.bucket_chain.proofs.ReadPages.{still_honest, link_before, link_after}
use Rattle.bucket_chain.proofs.Walks.{read_as, walk_goes_on, walk_is_here, some_page, not_too_long}
use Rattle.bucket_chain.specs.Records.{as_record}
use Rattle.bucket_chain.proofs.SpotLemmas.{spot_found, is_full, true_false}
use Rattle.bucket_chain.proofs.StagedPages.{known_same}
use Rattle.bucket_chain.proofs.Refusals.{walk_walks, no_walk_refusal, no_fault, long_walk, long_walk_cause}
use Rattle.bucket_chain.proofs.puts.find_spot.Goals as goal
use Rattle.bucket_chain.proofs.puts.find_spot.Goals.{then-has_room-via-then-has_room, then-has_room-via-else-has_room+then-next-eq0}

-- a page is not read
pub returns-in_err-next : goal.returns-in_err-next
returns-in_err-next g c =
    let st = g.S.PageStore in
    let told = c.in_err-next.ensures in
    let result = c.from_residual in
    let exit = exit_is result.result c.in_err-next.field-0.0 result.ensures.1 in
    let reads = c.loop-step.invariant.reads in
    record {
      reads = record {
        only = reads_then st _ _ _ (g.met.S.PageStore.counts_now c.loop-step.store) reads
            told.reads.only;
        cause = cause_then _ _ exit _ _ _ reads.stages_only.later told.reads.cause;
      };
      answer = walk_walks _ _ (ap (λ (s : StoreState). s.usable) reads.same) _ _ exit told.answer;
      known = IfOk-from_err _ _ result.ensures.0;
      page = IfOk-from_err _ _ result.ensures.0;
      found = λ honest. IfOk-from_err _ _ result.ensures.0;
      whole = λ honest chain is damaged.
          let walk = c.loop-step.invariant.walked honest in
          let read = read_as _ _ _ _ chain is in
          let here = walk_is_here _ _ _ _ _ _ _ _ _ read walk in
          let some = some_page _ _ _ _ _ _ _ _ _ read walk in
          c.in_err-next.ensures.whole (still_honest g.S.PageStore _ _ reads honest) _ _ some
          (link_after _ g.S.PageStore _ _ reads honest _ _ _ _ here.link)
          (came _ _ exit Damaged damaged);
    }

-- the page fits it, or is the last
pub returns-then-has_room : goal.returns-then-has_room
returns-then-has_room g c =
    let st = g.S.PageStore in
    let told = c.in_ok-next.ensures in
    let before = c.loop-step.invariant.reads in
    let counts = g.met.S.PageStore.counts_now c.loop-step.store in
    let reads = reads_then st _ _ _ counts before told.reads.only in
    record {
      reads = record { only = reads; cause = cause_ok _ _ _ reads.stages_only.later };
      answer = no_walk_refusal _ _;
      known = (told.known.0, known_same _ _ _ (sym before.same) told.known.1);
      page = record {
        kind = c.loop-step.kind;
        next = c.in_ok-next.next;
        link = told.link;
        room = c.fits-has_room.ensures.0;
      };
      found = λ honest.
          let link = link_before _ st _ _ before honest _ _ _ _ told.says in
          let last : c.fits-has_room.result ≡ false → c.in_ok-next.next ≡ 0 =
          elim c.then-has_room.branch [
            | then-has_room-via-then-has_room w ↦ λ e. true_false (sym w.if-has_room.true ∙ e)
            | then-has_room-via-else-has_room+then-next-eq0 w ↦ λ e. w.if-next-eq0.true
          ] in
          let walked = c.loop-step.invariant.walked honest in
          spot_found _ _ _ (as_record c.args.added) _ _ _ _ c.read_link.new.page.bytes
          c.fits-has_room.result walked link told.known.0 told.link c.fits-has_room.ensures last;
      whole = λ honest chain is damaged. absurd (no_fault _ _ damaged);
    }

pub loop-step-preserved : goal.loop-step-preserved
loop-step-preserved g c = record {
  kinds = inr refl;
  reads = reads_then g.S.PageStore _ _ _ (g.met.S.PageStore.counts_now c.loop-step.store)
      c.loop-step.invariant.reads c.in_ok-next.ensures.reads.only;
  walked = λ honest.
      let link = link_before _ g.S.PageStore _ _ c.loop-step.invariant.reads honest _ _ _ _
      c.in_ok-next.ensures.says in
      walk_goes_on _ _ _ _ _ _ _ (c.loop-step.invariant.walked honest) _ _ link
      c.in_ok-next.ensures.known.0 c.if-next-eq0.false
      (is_full (as_record c.args.added) c.loop-step.at c.read_link.new.page.bytes
      c.fits-has_room.result c.in_ok-next.ensures.link.page.page.sound.fits
      c.fits-has_room.ensures c.if-has_room.false);
}

-- more pages than there may be
pub returns : goal.returns
returns g c =
    let reads = c.loop-step.invariant.reads in
    record {
      reads = record { only = reads; cause = long_walk_cause _ _ reads.stages_only.later };
      answer = long_walk _;
      known = tt;
      page = tt;
      found = λ honest. tt;
      whole = λ honest chain is damaged. not_too_long _ _ _ _ _ _ _ _ _ (read_as _ _ _ _ chain is)
          (c.loop-step.invariant.walked honest) c.loop-step-test.false;
    }
