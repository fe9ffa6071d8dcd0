use Rattle.std.proofs.Common.{rules, ◌≡◌, ◌+◌, ◌++◌, ◌∷◌, [], ℕ, List, take, get_or, Err, Some, append-nil, refl, sym, ap, ◌∙◌, subst, arith}
use Rattle.std.proofs.lemmas.Result.{err_from_is_err_and}
use Rattle.page_model.specs.Pages.{FreePage}
use Rattle.page_io.specs.declared.store.PageFault.TheVariants.{Damaged}
use Rattle.file_check.specs.Marks.{AreMarked, MayBeSeen}
use Rattle.free_pages.proofs.FreeLists.{none_read as no_next}
use Rattle.bucket_chain.proofs.ReadPages.{reads_none}
use Rattle.file_check.proofs.FreeReads.{none_read, starts_there, more_read, all_read, says_free, may_next, next_marked, none_behind, all_marked, is_some}
use Rattle.file_check.proofs.OneRead.{said_before, said_after, must_be_known, read_then}
use Rattle.file_check.proofs.ToldFlaws.{kept_then}
use Rattle.file_check.proofs.free.check_free.Goals as goal

pub returns-in_err-read-clause-whole : goal.returns-in_err-read-clause-whole
returns-in_err-read-clause-whole g c honest seen free are is may damaged =
    let here = c.loop.invariant.exact honest seen free are is may in
    let p = err_from_is_err_and c.from_residual.result c.from_residual.ensures.1 in
    let fault : c.in_err-read.field-0.0 ≡ Damaged = let is = rw (p.1, p.2) at damaged in cc in
    let unknown = c.in_err-read.ensures.answer.damaged.0 (ap Err fault) in
    let says = says_free _ _ _ free c.loop.counter c.loop.at is c.loop-test.true here.0 in
    let some = is_some _ (seen ++ take c.loop.counter free) c.loop.at
    (may_next _ _ _ _ seen free c.loop.counter c.loop.at is
    c.loop-test.true here.0 may) in
    let other = must_be_known g.S.PageStore _ _ c.loop.invariant.reads honest _ _
    (g.met.S.PageStore.ends c.loop.store) some unknown.1 says in
    absurd (cc (other))

pub returns-in_err-next-clause-whole : goal.returns-in_err-next-clause-whole
returns-in_err-next-clause-whole g c honest seen free are is may damaged =
    let here = c.loop.invariant.exact honest seen free are is may in
    let says = says_free _ _ _ free c.loop.counter c.loop.at is c.loop-test.true here.0 in
    let found : c.read_free.result ≡ Some (get_or free (c.loop.counter + 1) 0) =
    (c.read_free.ensures.says _).1
    (said_after g.S.PageStore _ _ c.loop.invariant.reads honest c.loop.at c.read.new.page.bytes _
    c.in_ok-read.ensures.found says) in
    no_next _ (sym found ∙ c.in_err-next.ensures.ok_part)

pub returns-then-not-mark-clause-whole : goal.returns-then-not-mark-clause-whole
returns-then-not-mark-clause-whole g c honest seen free are is may damaged =
    let here = c.loop.invariant.exact honest seen free are is may in
    let next = may_next _ _ _ _ seen free c.loop.counter c.loop.at is c.loop-test.true here.0 may in
    let before = seen ++ take c.loop.counter free in
    let marked = subst (λ (end : ℕ). AreMarked c.loop.marks end before) (sym c.end-end.ensures)
    here.1 in
    let yes = (c.mark.ensures.may_be before marked).1
    (subst (λ (end : ℕ). MayBeSeen end (before ++ c.loop.at ∷ [])) (sym c.end-end.ensures) next) in
    absurd (cc (yes))

pub loop-preserved : goal.loop-preserved
loop-preserved g c =
    let end-is = c.end-end.ensures in
    let mark : (before : List ℕ)
    → AreMarked c.loop.marks (g.S.PageStore.state c.args.store.now).end before
    → AreMarked c.mark.new.marks (g.S.PageStore.state c.args.store.now).end
    (before ++ c.loop.at ∷ []) = λ before are. subst
    (λ (end : ℕ). AreMarked c.mark.new.marks end (before ++ c.loop.at ∷ [])) end-is
    (c.mark.ensures.marked before
    (subst (λ (end : ℕ). AreMarked c.loop.marks end before) (sym end-is) are)
    c.if-not-mark.false) in
    let next = (c.read_free.ensures.says c.in_ok-next.next).0 c.in_ok-next.ensures.ok_part in
    record {
      length = c.mark.ensures.length ∙ c.loop.invariant.length;
      reads = read_then g.S.PageStore _ _ _ (g.met.S.PageStore.counts_now c.loop.store)
          (g.met.S.PageStore.counts_now c.read.new.store) c.loop.invariant.reads
          c.read.ensures.state c.read.ensures.honesty c.read.ensures.cause.later
          c.read.ensures.kept;
      told = kept_then (kept_then (kept_then c.loop.invariant.told c.in_ok-read.ensures.told
          (λ is. cc)) c.read_free.ensures.told
          (λ is. let found = c.in_ok-next.ensures.ok_part in cc)) c.mark.ensures.told
          (λ is. let marked = c.if-not-mark.false in cc);
      sound = λ honest seen are. more_read _ _ _ c.loop.counter c.loop.at _ _ _ seen
          (c.loop.invariant.sound honest seen are)
          (said_before g.S.PageStore _ _ c.loop.invariant.reads honest c.loop.at
          c.read.new.page.bytes _ c.in_ok-read.ensures.found next) mark;
      exact = λ honest seen free are is may.
          let here = c.loop.invariant.exact honest seen free are is may in
          let says = says_free _ _ _ free c.loop.counter c.loop.at is c.loop-test.true here.0 in
          let read = said_before g.S.PageStore _ _ c.loop.invariant.reads honest c.loop.at
          c.read.new.page.bytes _ c.in_ok-read.ensures.found next in
          let same : FreePage c.in_ok-next.next ≡ FreePage (get_or free (c.loop.counter + 1) 0) =
          sym read ∙ says in (
            cc (same),
            next_marked _ _ _ _ _ seen free c.loop.counter c.loop.at is c.loop-test.true here.0
                (mark (seen ++ take c.loop.counter free) here.1),
          );
    }

pub returns-then-at-eq0-clause-sound : goal.returns-then-at-eq0-clause-sound
returns-then-at-eq0-clause-sound g c honest seen are =
    all_read _ _ _ _ _ _ _ seen (c.loop.invariant.sound honest seen are) c.if-at-eq0.true
    (omega arith)

pub returns-then-at-eq0-clause-exact : goal.returns-then-at-eq0-clause-exact
returns-then-at-eq0-clause-exact g c honest seen free are is may =
    all_marked _ _ _ _ _ seen free c.loop.counter is (omega arith)
    (c.loop.invariant.exact honest seen free are is may).1

pub returns-else-at-eq0-clause-whole : goal.returns-else-at-eq0-clause-whole
returns-else-at-eq0-clause-whole g c honest seen free are is may damaged =
    let here = c.loop.invariant.exact honest seen free are is may in
    c.if-at-eq0.false (none_behind _ _ _ free c.loop.counter c.loop.at is (omega arith) here.0)

pub loop-init : goal.loop-init
loop-init g c = record {
  length = refl;
  reads = reads_none g.S.PageStore c.args.store.now
      (λ y h left. g.met.S.PageStore.only_now c.args.store.now y h left);
  told = λ told was. was;
  sound = λ honest seen are. none_read _ _ _ _ seen are;
  exact = λ honest seen free are is may. (
    starts_there _ _ _ free is,
    subst (AreMarked c.args.marks.now (g.S.PageStore.state c.args.store.now).end)
        (sym (append-nil seen)) are,
  );
}

pub returns-in_err-read-clause-reads : goal.returns-in_err-read-clause-reads
returns-in_err-read-clause-reads g c = record {
  only = read_then g.S.PageStore _ _ _ (g.met.S.PageStore.counts_now c.loop.store)
      (g.met.S.PageStore.counts_now c.read.new.store) c.loop.invariant.reads
      c.read.ensures.state c.read.ensures.honesty c.read.ensures.cause.later c.read.ensures.kept;
  cause = search rules;
}

pub returns-in_err-next-clause-reads : goal.returns-in_err-next-clause-reads
returns-in_err-next-clause-reads g c = record {
  only = read_then g.S.PageStore _ _ _ (g.met.S.PageStore.counts_now c.loop.store)
      (g.met.S.PageStore.counts_now c.read.new.store) c.loop.invariant.reads
      c.read.ensures.state c.read.ensures.honesty c.read.ensures.cause.later c.read.ensures.kept;
  cause = search rules;
}

pub returns-then-not-mark-clause-reads : goal.returns-then-not-mark-clause-reads
returns-then-not-mark-clause-reads g c = record {
  only = read_then g.S.PageStore _ _ _ (g.met.S.PageStore.counts_now c.loop.store)
      (g.met.S.PageStore.counts_now c.read.new.store) c.loop.invariant.reads
      c.read.ensures.state c.read.ensures.honesty c.read.ensures.cause.later c.read.ensures.kept;
  cause = search rules;
}
