use Rattle.std.proofs.Common.{rules, ◌++◌, ◌∙◌, ◌+◌, ℕ, Bool, List, refl, sym, ap, subst, arith}
use Rattle.page_model.specs.Chain.{pages_of}
use Rattle.page_model.specs.Pages.{Body}
use Rattle.page_io.specs.Store.{StoreState}
use Rattle.page_io.specs.Versions.{model_version}
use Rattle.page_io.specs.Views.{body_at, ReadsOnly}
use Rattle.page_io.specs.declared.store.PageFault.TheVariants.{Damaged}
use Rattle.page_io.proofs.Exits.{exit_is, came}
use Rattle.page_io.proofs.Views.{reads_then}
use Rattle.file_check.specs.Marks.{AreMarked, MayBeSeen}
use Rattle.page_io.specs.BucketPages.{page_records}
use Rattle.bucket_chain.proofs.ReadPages.{reads_none, still_honest}
use Rattle.file_check.specs.BucketChains.{AreContentPages, IsContentChecked}
use Rattle.file_check.proofs.BucketRecords.{within_page, whole_page}
use Rattle.file_check.proofs.EntryChecks.{AreFirstRead, none_read, near_more, far_more, all_read, content_here}
use Rattle.file_check.proofs.StoreReads.{from_mid, to_mid}
use Rattle.file_check.proofs.ToldFlaws.{Keeps, kept_then}
use Rattle.file_check.proofs.contents.check_contents.Goals as goal
use Rattle.file_check.proofs.contents.check_contents.Goals.{in-Some+in_ok-check_content, in_default}

pub loop-slot-init : goal.loop-slot-init
loop-slot-init g c = record {
  marks = refl;
  reads = reads_none g.S.PageStore c.args.store.now
      (λ y h left. g.met.S.PageStore.only_now c.args.store.now y h left);
  told = λ told was. was;
  part = λ honest seen are. none_read (model_version c.args.version)
      (body_at g.S.PageStore c.args.store.now) (g.S.PageStore.state c.args.store.now).end
      (page_records c.args.page.now.bytes) c.args.marks.now seen are;
}

pub far_at-requires-clause-within : goal.far_at-requires-clause-within
far_at-requires-clause-within g c = within_page c.args.page.now.bytes c.loop-slot.slot
    c.slots-slot-end.result c.requires.page.page c.slots-slot-end.ensures c.loop-slot-test.true

pub check_content-requires : goal.check_content-requires
check_content-requires g c =
    let same = ap (λ (state : StoreState). state.end) c.loop-slot.invariant.reads.same in
    omega (arith, same, c.requires.marks, c.loop-slot.invariant.marks)

pub returns-in_err-check_content-clause-reads : goal.returns-in_err-check_content-clause-reads
returns-in_err-check_content-clause-reads g c = record {
  only = reads_then g.S.PageStore _ _ _ (g.met.S.PageStore.counts_now c.loop-slot.store)
      c.loop-slot.invariant.reads c.in_err-check_content.ensures.reads.only;
  cause = search rules;
}

pub returns-in_err-check_content-clause-whole : goal.returns-in_err-check_content-clause-whole
returns-in_err-check_content-clause-whole g c honest seen entries are of may damaged =
    let st = g.S.PageStore in
    let so_far = c.loop-slot.invariant in
    let told = c.in_err-check_content.ensures in
    let result = c.from_residual in
    let exit = exit_is result.result c.in_err-check_content.field-0.0 result.ensures.1 in
    let end = (st.state c.args.store.now).end in
    let part = so_far.part honest seen are in
    let seen' = seen ++ pages_of part.entries in
    let here = content_here (model_version c.args.version) (body_at st c.args.store.now) end
    (page_records c.args.page.now.bytes) c.loop-slot.slot c.in-Some.first c.in-Some.long
    c.loop-slot.marks seen entries part (omega (arith, g.met.S.PageStore.in_range c.args.store.now))
    of may
    (within_page c.args.page.now.bytes c.loop-slot.slot c.slots-slot-end.result
    c.requires.page.page c.slots-slot-end.ensures c.loop-slot-test.true) c.in-Some.ensures in
    told.whole (still_honest st _ _ so_far.reads honest) seen' here.pages here.content
    (to_mid st _ _ so_far.reads honest
    (λ (at : ℕ → Body) (end : ℕ). AreMarked c.loop-slot.marks end seen') part.marked)
    (to_mid st _ _ so_far.reads honest
    (λ (at : ℕ → Body) (end : ℕ). AreContentPages at c.in-Some.first c.in-Some.long here.pages
    here.content) here.are)
    (to_mid st _ _ so_far.reads honest
    (λ (at : ℕ → Body) (end : ℕ). MayBeSeen end (seen' ++ here.pages)) here.may)
    (came _ _ exit Damaged damaged)

pub loop-slot-preserved : goal.loop-slot-preserved
loop-slot-preserved g c =
    let st = g.S.PageStore in
    let so_far = c.loop-slot.invariant in
    let version = model_version c.args.version in
    let at = body_at st c.args.store.now in
    let end = (st.state c.args.store.now).end in
    let bytes = c.args.page.now.bytes in
    let slot = c.loop-slot.slot in
    let within = within_page bytes slot c.slots-slot-end.result c.requires.page.page
    c.slots-slot-end.ensures c.loop-slot-test.true in
    elim c.match-far_at.branch [
      | in-Some+in_ok-check_content w ↦
          let told = w.in_ok-check_content.ensures in
          record {
            marks = c.match-far_at.auto.marks ∙ so_far.marks;
            reads = subst (λ (store : g.row.S.Denot). ReadsOnly st c.args.store.now store)
                (sym w.store-is)
                (reads_then st _ _ _ (g.met.S.PageStore.counts_now c.loop-slot.store) so_far.reads
                told.reads.only);
            told = subst (λ (watch : g.row.W.Denot).
                Keeps (g.W.Watch.has_told c.args.watch.now) (g.W.Watch.has_told watch))
                (sym w.watch-is) (kept_then so_far.told told.told (λ is. cc));
            part = λ honest seen are.
                let part = so_far.part honest seen are in
                let seen' = seen ++ pages_of part.entries in
                subst (λ (ms : List Bool). AreFirstRead version at end (page_records bytes)
                (slot + 1) ms seen) (sym w.marks-is)
                (far_more version at end slot bytes c.loop-slot.marks seen c.requires.page
                c.are_bytes.ensures within part w.in-Some.first w.in-Some.long
                w.check_content.new.marks w.in-Some.ensures
                (from_mid st _ _ so_far.reads honest
                (λ (at : ℕ → Body) (end : ℕ). IsContentChecked at end w.in-Some.first
                w.in-Some.long w.check_content.new.marks seen')
                (told.sound (still_honest st _ _ so_far.reads honest) seen'
                (to_mid st _ _ so_far.reads honest
                (λ (at : ℕ → Body) (end : ℕ). AreMarked c.loop-slot.marks end seen')
                part.marked))));
          }
      | in_default w ↦ record {
        marks = c.match-far_at.auto.marks ∙ so_far.marks;
        reads = subst (λ (store : g.row.S.Denot). ReadsOnly st c.args.store.now store)
            (sym w.store-is) so_far.reads;
        told = subst (λ (watch : g.row.W.Denot).
            Keeps (g.W.Watch.has_told c.args.watch.now) (g.W.Watch.has_told watch))
            (sym w.watch-is) so_far.told;
        part = λ honest seen are.
            subst (λ (ms : List Bool). AreFirstRead version at end (page_records bytes)
            (slot + 1) ms seen) (sym w.marks-is)
            (near_more version at end slot bytes c.loop-slot.marks seen c.requires.page
            c.are_bytes.ensures within (so_far.part honest seen are) w.in_default.ensures);
      }
    ]

pub returns-clause-sound : goal.returns-clause-sound
returns-clause-sound g c honest seen are =
    all_read (model_version c.args.version) (body_at g.S.PageStore c.args.store.now)
    (g.S.PageStore.state c.args.store.now).end (page_records c.args.page.now.bytes)
    c.loop-slot.slot c.loop-slot.marks seen (c.loop-slot.invariant.part honest seen are)
    (whole_page c.args.page.now.bytes c.loop-slot.slot c.slots-slot-end.result
    c.requires.page.page c.slots-slot-end.ensures c.loop-slot-test.false)
