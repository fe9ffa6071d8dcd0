use Rattle.std.proofs.Common.{◌∙◌, inr, ap, sym, subst, refl, Err, arith}
use Rattle.std.specs.FinMap.{get, remove, len}
use Rattle.dbm_model.specs.Bounds.{Bounds}
use Rattle.dbm_model.specs.Calls as model
use Rattle.dbm_model.specs.Steps.{Case, Suffers}
use Rattle.page_io.specs.Store.{StoreState}
use Rattle.page_model.specs.Pages.{Meta}
use Rattle.linear_hash.specs.Tables.{shape_in}
use Rattle.dbm_file.specs.Database.{handle_of, meta_kept}
use Rattle.dbm_file.specs.Passing.{model_pass}
use Rattle.dbm_file.specs.declared.calls.DeleteReply.TheVariants as deleted
use Rattle.dbm_fault.specs.declared.fault.Fault.TheVariants.{ReadOnly}
use Rattle.dbm_file.proofs.Cases.{broken_delete, delete_read_only, delete_rule, delete_fails, absent}
use Rattle.dbm_file.proofs.ReadSteps.{from_own, no_read, still_meta, still_bounds, still_writable, not_broken, rejected_step, found_step, walk_failed_step, broken_step}
use Rattle.dbm_file.proofs.AskedChanges.{mid_placed, mid_table, turns_to, fits_mid, lacks_room, frees}
use Rattle.dbm_file.proofs.ChangeSteps.{mid_honest, mid_usable, mid_holds, changed_step, no_growth, refused_step}
use Rattle.dbm_file.proofs.RefusedChanges.{told_keeps}
use Rattle.dbm_file.proofs.Endings.{unusable_delete, unwritable_delete, told_delete, absent_delete, uncounted_delete, done_delete, walk_told, done_keeps}
use Rattle.seg_table.specs.MetaPages.{model_meta}
use Rattle.dbm_file.proofs.BucketSteps.{none_opened}
use Rattle.dbm_file.proofs.Refused.{as_change, walk_no_memory}
use Rattle.dbm_file.proofs.Done.{was_deleted}
use Rattle.dbm_file.proofs.Searches.{was_absent}
use Rattle.dbm_file.proofs.StoreSteps.{delete_asked, no_key, reply_to_delete}
use Rattle.dbm_file.proofs.database.Database.try_delete.Goals as goal

pub returns-then-is_broken : goal.returns-then-is_broken
returns-then-is_broken g c =
    record {
      step = λ honest h at.
          let map = h.state.map in
          let db = c.args.self.now in
          let broken = c.is_broken.ensures.0 c.if-is_broken.true in
          from_own at (broken_step g.S.PageStore db map _ broken
          (broken_delete (handle_of db map) c.args.key.now broken));
      ends = unusable_delete c.args.self.now c.args.key.now
          (c.is_broken.ensures.0 c.if-is_broken.true);
      pass = refl;
    }

pub returns-then-not-self : goal.returns-then-not-self
returns-then-not-self g c =
    let s = g.S.PageStore in
    let db = c.args.self.now in
    let key = c.args.key.now in
    let usable = not_broken _ _ c.is_broken.ensures c.if-is_broken.false in
    record {
      step = λ honest h at.
          let map = h.state.map in
          let falls = delete_read_only (handle_of db map) key usable
          (db.told ∙ c.if-not-self.true) in
          from_own at (rejected_step s db db map _
          (no_read s db (λ y h left. g.met.S.PageStore.only_now db.store y h left)) honest
          (at.map usable) (at.rests usable) ReadOnly falls);
      ends = unwritable_delete db key usable (db.told ∙ c.if-not-self.true)
          (no_read s db (λ y honest left. g.met.S.PageStore.only_now db.store y honest left));
      pass = refl;
    }

pub returns-in_err-has : goal.returns-in_err-has
returns-in_err-has g c =
    let s = g.S.PageStore in
    let db = c.args.self.now in
    let key = c.args.key.now in
    let usable = not_broken _ _ c.is_broken.ensures c.if-is_broken.false in
    let writable = db.told ∙ c.if-not-self.false in
    let all = c.in_err-has.ensures in
    let told = c.from_residual.ensures.1 in
    let keeps = walk_told db c.has.new.self c.in_err-has.field-0.0 c.from_residual.result all.reads
    usable all.answer all.cause told in
    record {
      step = λ honest h at.
          let map = h.state.map in
          let falls = delete_rule (handle_of db map) key usable writable in
          from_own at (reply_to_delete c.has.new.self c.in_err-has.field-0.0
          (walk_failed_step s db c.has.new.self map _ c.in_err-has.ensures.reads honest
          (at.map usable) (at.rests usable)
          _ c.in_err-has.field-0.0 usable c.in_err-has.ensures.answer c.in_err-has.ensures.cause
          (c.in_err-has.ensures.whole honest map (at.map usable))
          (λ reply after fails. subst (λ (rule : Case).
          Suffers (handle_of db map) (model.Delete key) rule reply after) (sym falls)
          (delete_fails (handle_of db map) (model.Delete key) reply after fails key (get map key))))
          c.from_residual.result c.from_residual.ensures.1);
      ends = told_delete db key usable writable c.has.new.self c.from_residual.result
          c.in_err-has.field-0.0 told (as_change _ all.answer.only)
          (λ is. absurd (walk_no_memory _ all.answer.only is))
          (still_meta s db c.has.new.self all.reads) keeps;
      pass = ap model_pass c.in_err-has.ensures.reads.pass_is;
    }

pub returns-then-not-branch : goal.returns-then-not-branch
returns-then-not-branch g c =
    let s = g.S.PageStore in
    let db = c.args.self.now in
    let key = c.args.key.now in
    let usable = not_broken _ _ c.is_broken.ensures c.if-is_broken.false in
    let writable = db.told ∙ c.if-not-self.false in
    let all = c.in_ok-has.ensures in
    record {
      step = λ honest h at.
          let map = h.state.map in
          let state = (handle_of db map).state in
          let none = sym (c.in_ok-has.ensures.exact honest map (at.map usable))
          ∙ c.if-not-branch.true in
          let falls = delete_rule (handle_of db map) key usable writable ∙ absent state key (get map key) none in
          from_own at (found_step s db c.has.new.self map _ c.in_ok-has.ensures.reads honest
          (at.map usable) (at.rests usable) model.Absent refl falls);
      ends = absent_delete db key usable writable c.has.new.self all.reads
          (λ honest. was_absent _ _ key _ c.if-not-branch.true (all.searched honest));
      pass = ap model_pass c.in_ok-has.ensures.reads.pass_is;
    }

pub returns-then-self-eq0 : goal.returns-then-self-eq0
returns-then-self-eq0 g c =
    let s = g.S.PageStore in
    let db = c.args.self.now in
    let key = c.args.key.now in
    let usable = not_broken _ _ c.is_broken.ensures c.if-is_broken.false in
    let writable = db.told ∙ c.if-not-self.false in
    record {
      step = λ honest h at.
          let map = h.state.map in
          let there = sym (c.in_ok-has.ensures.exact honest map (at.map usable))
          ∙ c.if-not-branch.false in
          absurd (no_key g.S.PageStore db map key (at.map usable)
          (omega (
            arith,
            c.if-self-eq0.true,
            ap (λ m. m.pairs) c.in_ok-has.ensures.reads.meta_is,
          )) there);
      ends = uncounted_delete db key usable writable c.has.new.self c.in_ok-has.ensures.reads;
      pass = ap model_pass c.in_ok-has.ensures.reads.pass_is;
    }

pub returns-in_err-delete_pair : goal.returns-in_err-delete_pair
returns-in_err-delete_pair g c =
    let s = g.S.PageStore in
    let db = c.args.self.now in
    let key = c.args.key.now in
    let usable = not_broken _ _ c.is_broken.ensures c.if-is_broken.false in
    let writable = db.told ∙ c.if-not-self.false in
    let read = c.in_ok-has.ensures.reads in
    let all = c.in_err-delete_pair.ensures in
    let told = c.from_residual-in_err-delete_pair.ensures.1 in
    let r = c.from_residual-in_err-delete_pair.result in
    let keeps = told_keeps s db c.has.new.self _ read usable writable c.in_err-delete_pair.field-0.0
    record { ends = all.ends; error_is = refl; pass_is = refl } r told in
    record {
      step = λ honest h at.
          let map = h.state.map in
          let there = sym (c.in_ok-has.ensures.exact honest map (at.map usable))
          ∙ c.if-not-branch.false in
          let asked = delete_asked s db c.has.new.self map key c.in_ok-has.ensures.reads usable
          writable honest (at.map usable) (at.rests usable) there in
          let turns = turns_to s asked c.delete_pair.new.store _
          (all.turns (mid_honest s asked) (mid_usable s asked) map (mid_holds s asked) there) in
          from_own at (reply_to_delete _ c.in_err-delete_pair.field-0.0
          (refused_step s asked _ c.in_err-delete_pair.field-0.0
          record { ends = all.ends; error_is = refl; pass_is = refl } _ turns
          (λ t x le left. g.met.S.PageStore.counts_now c.delete_pair.new.store t x
          (all.ends.honesty.1 (mid_honest s asked)) le left)
          (λ is. frees s asked key (λ near. all.no_memory (mid_honest s asked) (mid_placed s asked)
          (mid_table s asked (g.met.S.PageStore.ends c.has.new.self.store)) near (ap Err is)))
          (λ is. lacks_room s asked c.delete_pair.new.store _ turns (ap Err is)))
          c.from_residual-in_err-delete_pair.result c.from_residual-in_err-delete_pair.ensures.1);
      ends = told_delete db key usable writable _ r c.in_err-delete_pair.field-0.0 told
          all.ends.answer.only
          (λ is. sym (ap (λ (b : Bounds). b.version) (still_bounds s db c.has.new.self read))
          ∙ all.memory (ap Err is))
          (all.ends.err.1 ∙ still_meta s db c.has.new.self read) keeps;
      pass = ap model_pass c.in_ok-has.ensures.reads.pass_is;
    }

pub returns : goal.returns
returns g c =
    let s = g.S.PageStore in
    let db = c.args.self.now in
    let key = c.args.key.now in
    let usable = not_broken _ _ c.is_broken.ensures c.if-is_broken.false in
    let writable = db.told ∙ c.if-not-self.false in
    let read = c.in_ok-has.ensures.reads in
    let all = c.in_ok-delete_pair.ensures in
    let same = still_meta s db c.has.new.self read in
    let keeps = done_keeps db c.has.new.self _ _ deleted.Deleted read usable writable
    record { ends = all.ends; error_is = refl; pass_is = refl }
    (all.bounds ∙ still_bounds s db c.has.new.self read) in
    record {
      step = λ honest h at.
          let map = h.state.map in
          let there = sym (c.in_ok-has.ensures.exact honest map (at.map usable))
          ∙ c.if-not-branch.false in
          let asked = delete_asked s db c.has.new.self map key c.in_ok-has.ensures.reads usable
          writable honest (at.map usable) (at.rests usable) there in
          let turns = turns_to s asked c.delete_pair.new.store _
          (all.turns (mid_honest s asked) (mid_usable s asked) map (mid_holds s asked) there) in
          from_own at (changed_step s asked _
          record { ends = all.ends; error_is = refl; pass_is = refl } _
          (no_growth s asked) (inr (fits_mid s asked turns.bounded))
          (none_opened (handle_of db map) model.Deleted (meta_kept c.has.new.self)
          (model_meta c.delete_pair.new.meta) (len (remove map key)) all.shape refl)
          turns
          (λ x left. g.met.S.PageStore.only_committed c.delete_pair.new.store x
          (all.ends.honesty.1 (mid_honest s asked))
          (ap (λ (st : StoreState). st.usable) all.ends.ok ∙ mid_usable s asked)
          (ap (λ (st : StoreState). st.writable) all.ends.ok
          ∙ still_writable s db c.has.new.self c.in_ok-has.ensures.reads ∙ writable)
          left));
      ends = done_delete db key usable writable _ (all.shape ∙ ap shape_in same)
          (all.pairs ∙ ap (λ (m : Meta). m.pairs) same)
          (λ honest. was_deleted db c.has.new.self read honest c.delete_pair.new.store
          (model_meta c.delete_pair.new.meta) key
          (all.deleted (read.reads.stages_only.honesty.1 honest))) keeps;
      pass = ap model_pass c.in_ok-has.ensures.reads.pass_is;
    }
