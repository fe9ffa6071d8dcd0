use Rattle.std.proofs.Common.{◌≤◌, ◌^◌, ◌++◌, ◌∷◌, [], ℕ, inl, inr, refl, ◌∙◌, arith}
use Rattle.page_model.specs.Chain.{pages_in, pages_of}
use Rattle.page_model.specs.Pages.{Body}
use Rattle.page_io.specs.Versions.{model_version}
use Rattle.page_io.specs.Views.{body_at}
use Rattle.page_io.specs.declared.store.PageFault.TheVariants.{Damaged}
use Rattle.page_io.proofs.Exits.{exit_is, came}
use Rattle.page_io.proofs.Views.{reads_then}
use Rattle.file_check.specs.Marks.{AreMarked, MayBeSeen}
use Rattle.page_io.specs.BucketPages.{page_records}
use Rattle.lin_addr.specs.Shapes.{shape_of}
use Rattle.bucket_chain.proofs.ReadPages.{reads_none, still_honest, link_before, link_after}
use Rattle.bucket_chain.proofs.Walks.{read_as, some_page, not_too_long}
use Rattle.file_check.specs.BucketChains.{AreEntriesOf, HasNewKeys, AreNewInChain, AreContentsChecked}
use Rattle.file_check.proofs.GoodChains.{good_chain, good_page, good_mark, good_entries, good_marks, good_keys, good_new, good_contents}
use Rattle.file_check.proofs.PartChains.{no_part, part_more, is_checked}
use Rattle.file_check.proofs.SeenPages.{mark_more, not_refused}
use Rattle.file_check.proofs.StoreReads.{from_mid, to_mid}
use Rattle.file_check.proofs.ToldFlaws.{kept_then}
use Rattle.file_check.proofs.chains.check_chain.Goals as goal

pub loop-step-init : goal.loop-step-init
loop-step-init g c = record {
  kinds = inl refl;
  marks = refl;
  reads = reads_none g.S.PageStore c.args.store.now
      (λ y h left. g.met.S.PageStore.only_now c.args.store.now y h left);
  told = λ told was. was;
  part = λ honest seen are. no_part (model_version c.args.version)
      (body_at g.S.PageStore c.args.store.now) (g.S.PageStore.state c.args.store.now).end
      c.args.head (shape_of c.args.shape) c.args.bucket c.args.marks.now seen are;
}

pub returns-in_err-next-clause-whole : goal.returns-in_err-next-clause-whole
returns-in_err-next-clause-whole g c honest seen chain are is may damaged =
    let st = g.S.PageStore in
    let reads = c.loop-step.invariant.reads in
    let part = c.loop-step.invariant.part honest seen are in
    let small : (st.state c.args.store.now).end ≤ 2 ^ 32 =
    omega (arith, g.met.S.PageStore.in_range c.args.store.now) in
    let good = good_chain _ _ _ _ _ _ seen chain is small may in
    let here = good_page _ _ _ _ _ _ seen chain is small may _ _ _ _ _ part in
    let some = some_page _ _ _ _ _ _ _ _ _ (read_as _ _ _ _ chain good) part.walk in
    let exit = exit_is c.from_residual.result c.in_err-next.field-0.0 c.from_residual.ensures.1 in
    c.in_err-next.ensures.whole (still_honest st _ _ reads honest) _ _ some
    (link_after _ st _ _ reads honest _ _ _ _ here.link) (came _ _ exit Damaged damaged)

pub returns-then-not-mark-clause-whole : goal.returns-then-not-mark-clause-whole
returns-then-not-mark-clause-whole g c honest seen chain are is may damaged =
    let st = g.S.PageStore in
    let part = c.loop-step.invariant.part honest seen are in
    let small : (st.state c.args.store.now).end ≤ 2 ^ 32 =
    omega (arith, g.met.S.PageStore.in_range c.args.store.now) in
    not_refused c.loop-step.marks c.mark.result c.end-end.result
    (st.state c.args.store.now).end c.loop-step.at (seen ++ pages_in part.chain)
    c.end-end.ensures c.mark.ensures.may_be part.marked
    (good_mark _ _ _ _ _ _ seen chain is small may _ _ _ _ _ part) c.if-not-mark.true

pub returns-then-not-are_in_bucket-clause-whole : goal.returns-then-not-are_in_bucket-clause-whole
returns-then-not-are_in_bucket-clause-whole g c honest seen chain are is may damaged =
    let st = g.S.PageStore in
    let part = c.loop-step.invariant.part honest seen are in
    let small : (st.state c.args.store.now).end ≤ 2 ^ 32 =
    omega (arith, g.met.S.PageStore.in_range c.args.store.now) in
    let link = link_before _ st _ _ c.loop-step.invariant.reads honest _ _ _ _
    c.in_ok-next.ensures.says in
    let yes = c.are_in_bucket.ensures.1
    (good_keys _ _ _ _ _ _ seen chain is small may _ _ _ _ _ part _ _ link) in cc

pub returns-in_err-check_keys-clause-whole : goal.returns-in_err-check_keys-clause-whole
returns-in_err-check_keys-clause-whole g c honest seen chain are is may damaged =
    let st = g.S.PageStore in
    let part = c.loop-step.invariant.part honest seen are in
    let small : (st.state c.args.store.now).end ≤ 2 ^ 32 =
    omega (arith, g.met.S.PageStore.in_range c.args.store.now) in
    let link = link_before _ st _ _ c.loop-step.invariant.reads honest _ _ _ _
    c.in_ok-next.ensures.says in
    let reads = reads_then st _ _ _ (g.met.S.PageStore.counts_now c.loop-step.store)
    c.loop-step.invariant.reads c.in_ok-next.ensures.reads.only in
    let result = c.from_residual-in_err-check_keys in
    let exit = exit_is result.result c.in_err-check_keys.field-0.0 result.ensures.1 in
    c.in_err-check_keys.ensures.whole (still_honest st _ _ reads honest) chain
    (to_mid st _ _ reads honest
    (λ (at : ℕ → Body) (end : ℕ). AreNewInChain (model_version c.args.version) at end c.args.head
    c.loop-step.at (page_records c.read_link.new.page.bytes) chain)
    (good_new _ _ _ _ _ _ seen chain is small may _ _ _ _ _ part _ _ link))
    (came _ _ exit Damaged damaged)

pub returns-in_err-check_contents-clause-whole : goal.returns-in_err-check_contents-clause-whole
returns-in_err-check_contents-clause-whole g c honest seen chain are is may damaged =
    let st = g.S.PageStore in
    let end = (st.state c.args.store.now).end in
    let records = page_records c.read_link.new.page.bytes in
    let part = c.loop-step.invariant.part honest seen are in
    let small : end ≤ 2 ^ 32 = omega (arith, g.met.S.PageStore.in_range c.args.store.now) in
    let link = link_before _ st _ _ c.loop-step.invariant.reads honest _ _ _ _
    c.in_ok-next.ensures.says in
    let reads = reads_then st _ _ _ (g.met.S.PageStore.counts_now c.read_link.new.store)
    (reads_then st _ _ _ (g.met.S.PageStore.counts_now c.loop-step.store)
    c.loop-step.invariant.reads c.in_ok-next.ensures.reads.only)
    c.in_ok-check_keys.ensures.reads.only in
    let result = c.from_residual-in_err-check_contents in
    let exit = exit_is result.result c.in_err-check_contents.field-0.0 result.ensures.1 in
    let before = seen ++ pages_in part.chain in
    let seen' = before ++ c.loop-step.at ∷ [] in
    let entries = good_entries _ _ _ _ _ _ seen chain is small may _ _ _ _ _ part in
    let marked = mark_more c.loop-step.marks c.mark.new.marks c.end-end.result end c.loop-step.at
    before c.end-end.ensures c.if-not-mark.ensures.marked part.marked in
    c.in_err-check_contents.ensures.whole (still_honest st _ _ reads honest) seen' entries
    (to_mid st _ _ reads honest
    (λ (at : ℕ → Body) (end : ℕ). AreMarked c.mark.new.marks end seen') marked)
    (to_mid st _ _ reads honest
    (λ (at : ℕ → Body) (end : ℕ). AreEntriesOf (model_version c.args.version) at records entries)
    (good_contents _ _ _ _ _ _ seen chain is small may _ _ _ _ _ part _ _ link))
    (to_mid st _ _ reads honest
    (λ (at : ℕ → Body) (end : ℕ). MayBeSeen end (seen' ++ pages_of entries))
    (good_marks _ _ _ _ _ _ seen chain is small may _ _ _ _ _ part))
    (came _ _ exit Damaged damaged)

pub returns-then-next-eq0-clause-sound : goal.returns-then-next-eq0-clause-sound
returns-then-next-eq0-clause-sound g c honest seen are =
    let st = g.S.PageStore in
    let end = (st.state c.args.store.now).end in
    let version = model_version c.args.version in
    let records = page_records c.read_link.new.page.bytes in
    let part = c.loop-step.invariant.part honest seen are in
    let link = link_before _ st _ _ c.loop-step.invariant.reads honest _ _ _ _
    c.in_ok-next.ensures.says in
    let reads = reads_then st _ _ _ (g.met.S.PageStore.counts_now c.loop-step.store)
    c.loop-step.invariant.reads c.in_ok-next.ensures.reads.only in
    let all_reads = reads_then st _ _ _ (g.met.S.PageStore.counts_now c.read_link.new.store) reads
    c.in_ok-check_keys.ensures.reads.only in
    let fresh = from_mid st _ _ reads honest
    (λ (at : ℕ → Body) (end : ℕ). HasNewKeys at c.args.head c.loop-step.at records)
    (c.in_ok-check_keys.ensures.sound (still_honest st _ _ reads honest)) in
    let before = seen ++ pages_in part.chain in
    let seen' = before ++ c.loop-step.at ∷ [] in
    let marked = mark_more c.loop-step.marks c.mark.new.marks c.end-end.result end c.loop-step.at
    before c.end-end.ensures c.if-not-mark.ensures.marked part.marked in
    let checked = from_mid st _ _ all_reads honest
    (λ (at : ℕ → Body) (end : ℕ). AreContentsChecked version at end records
    c.check_contents.new.marks seen')
    (c.in_ok-check_contents.ensures.sound (still_honest st _ _ all_reads honest) seen'
    (to_mid st _ _ all_reads honest
    (λ (at : ℕ → Body) (end : ℕ). AreMarked c.mark.new.marks end seen') marked)) in
    is_checked version _ _ _ _ _ _ _ _ _ _ _ _ _ _ _ seen c.read_link.new.page.bytes part link
    c.in_ok-next.ensures.known.0 c.in_ok-next.ensures.link.page
    (c.are_in_bucket.ensures.0 c.if-not-are_in_bucket.false) fresh marked checked
    c.saturating_add-pairs.ensures c.slots.ensures c.if-next-eq0.true

pub loop-step-preserved : goal.loop-step-preserved
loop-step-preserved g c =
    let st = g.S.PageStore in
    let end = (st.state c.args.store.now).end in
    let version = model_version c.args.version in
    let records = page_records c.read_link.new.page.bytes in
    let reads = reads_then st _ _ _ (g.met.S.PageStore.counts_now c.loop-step.store)
    c.loop-step.invariant.reads c.in_ok-next.ensures.reads.only in
    let all_reads = reads_then st _ _ _ (g.met.S.PageStore.counts_now c.read_link.new.store) reads
    c.in_ok-check_keys.ensures.reads.only in
    record {
      kinds = inr refl;
      marks = c.in_ok-check_contents.ensures.length ∙ c.if-not-mark.ensures.length
          ∙ c.loop-step.invariant.marks;
      reads = reads_then st _ _ _ (g.met.S.PageStore.counts_now c.check_keys.new.store) all_reads
          c.in_ok-check_contents.ensures.reads.only;
      told = kept_then (kept_then (kept_then (kept_then c.loop-step.invariant.told
          c.in_ok-next.ensures.told (λ is. cc))
          c.mark.ensures.told (λ is. let marked = c.if-not-mark.false in cc))
          c.in_ok-check_keys.ensures.told (λ is. cc))
          c.in_ok-check_contents.ensures.told (λ is. cc);
      part = λ honest seen are.
          let part = c.loop-step.invariant.part honest seen are in
          let link = link_before _ st _ _ c.loop-step.invariant.reads honest _ _ _ _
          c.in_ok-next.ensures.says in
          let fresh = from_mid st _ _ reads honest
          (λ (at : ℕ → Body) (end : ℕ). HasNewKeys at c.args.head c.loop-step.at records)
          (c.in_ok-check_keys.ensures.sound (still_honest st _ _ reads honest)) in
          let before = seen ++ pages_in part.chain in
          let seen' = before ++ c.loop-step.at ∷ [] in
          let marked = mark_more c.loop-step.marks c.mark.new.marks c.end-end.result end
          c.loop-step.at before c.end-end.ensures c.if-not-mark.ensures.marked part.marked in
          let checked = from_mid st _ _ all_reads honest
          (λ (at : ℕ → Body) (end : ℕ). AreContentsChecked version at end records
          c.check_contents.new.marks seen')
          (c.in_ok-check_contents.ensures.sound (still_honest st _ _ all_reads honest) seen'
          (to_mid st _ _ all_reads honest
          (λ (at : ℕ → Body) (end : ℕ). AreMarked c.mark.new.marks end seen') marked)) in
          part_more version _ _ _ _ _ _ _ _ _ _ _ _ _ _ _ seen c.read_link.new.page.bytes part
          link c.in_ok-next.ensures.known.0 c.in_ok-next.ensures.link.page
          (c.are_in_bucket.ensures.0 c.if-not-are_in_bucket.false) fresh marked checked
          c.saturating_add-pairs.ensures c.slots.ensures c.if-next-eq0.false;
    }

pub returns-clause-whole : goal.returns-clause-whole
returns-clause-whole g c honest seen chain are is may damaged =
    let part = c.loop-step.invariant.part honest seen are in
    let small : (g.S.PageStore.state c.args.store.now).end ≤ 2 ^ 32 =
    omega (arith, g.met.S.PageStore.in_range c.args.store.now) in
    not_too_long _ _ _ _ _ _ _ _ _
    (read_as _ _ _ _ chain (good_chain _ _ _ _ _ _ seen chain is small may)) part.walk
    (omega arith)
