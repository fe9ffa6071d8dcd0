use Rattle.std.proofs.Common.{◌≡◌, ◌<◌, ◌≤◌, ◌∙◌, inr, ap, sym, subst, refl, true, false, is_some, Err, arith, rules}
use Rattle.std.specs.FinMap.{get, insert, len}
use Rattle.dbm_model.specs.Calls as model
use Rattle.dbm_model.specs.Bounds.{Bounds}
use Rattle.dbm_model.specs.Pairs.{Contents, is_allowed}
use Rattle.dbm_model.specs.Steps.{Case, Suffers}
use Rattle.dbm_file.specs.Calls.{mode_of}
use Rattle.dbm_file.specs.Passing.{model_pass}
use Rattle.page_io.specs.Store.{StoreState}
use Rattle.seg_table.specs.MetaPages.{model_meta}
use Rattle.dbm_file.specs.Database.{handle_of, meta_kept}
use Rattle.dbm_file.specs.declared.calls.StoreMode.TheVariants.{Replace}
use Rattle.dbm_file.specs.declared.calls.StoreReply.TheVariants as stored
use Rattle.dbm_fault.specs.declared.fault.Fault.TheVariants.{ReadOnly, TooLong, Full}
use Rattle.page_io.proofs.Exits.{not_both}
use Rattle.dbm_file.proofs.Cases.{broken_store, store_read_only, too_long_rule, store_rule, store_fails, kept, full}
use Rattle.dbm_file.proofs.ReadSteps.{from_own, no_read, still_meta, still_bounds, still_writable, not_broken, found_step, declined_step, rejected_step, walk_failed_step, broken_step}
use Rattle.dbm_file.proofs.AskedChanges.{mid_placed, mid_map, mid_table, turns_to, fits_mid, lacks_room}
use Rattle.dbm_file.proofs.ChangeSteps.{mid_honest, mid_usable, mid_holds, mid_pairs, mid_buckets, changed_step, store_growth, refused_step}
use Rattle.dbm_file.proofs.RefusedChanges.{told_keeps}
use Rattle.dbm_file.proofs.Endings.{unusable_store, unwritable_store, long_store, told_store, kept_store, full_store, done_store, walk_told, done_keeps, changed_shape}
use Rattle.dbm_file.proofs.BucketSteps.{store_opens, would_take, may_need}
use Rattle.dbm_file.proofs.Refused.{as_change, walk_no_memory}
use Rattle.dbm_file.proofs.Done.{was_put}
use Rattle.dbm_file.proofs.Searches.{was_found}
use Rattle.dbm_file.proofs.StoreSteps.{store_asked, reply_to_store, inserts_so, replaces_so}
use Rattle.linear_hash.proofs.Tables.{counted}
use Rattle.dbm_file.proofs.database.Database.try_store.Goals.{else-was_there-via-then-was_there+else-eq, else-was_there-via-else-was_there, else-not-was_there-via-then-not-was_there+else-self, else-not-was_there-via-else-not-was_there}
use Rattle.dbm_file.proofs.database.Database.try_store.Goals as goal

pub returns-then-is_broken : goal.returns-then-is_broken
returns-then-is_broken g c =
    record {
      step = λ honest h at.
          let map = h.state.map in
          let db = c.args.self.now in
          let broken = c.is_broken.ensures.0 c.if-is_broken.true in
          from_own at (broken_step g.S.PageStore db map _ broken
          (broken_store (handle_of db map) c.args.key.now c.args.content.now
          (mode_of c.args.mode) broken));
      ends = unusable_store c.args.self.now c.args.key.now
          (c.is_broken.ensures.0 c.if-is_broken.true) c.args.content.now c.args.mode;
      pass = refl;
    }

pub returns-then-not-self : goal.returns-then-not-self
returns-then-not-self g c =
    let s = g.S.PageStore in
    let db = c.args.self.now in
    let key = c.args.key.now in
    let content = c.args.content.now in
    let mode = c.args.mode in
    let usable = not_broken _ _ c.is_broken.ensures c.if-is_broken.false in
    record {
      step = λ honest h at.
          let map = h.state.map in
          let falls = store_read_only (handle_of db map) key content (mode_of mode)
          usable (db.told ∙ c.if-not-self.true) in
          from_own at (rejected_step s db db map _
          (no_read s db (λ y h left. g.met.S.PageStore.only_now db.store y h left)) honest
          (at.map usable) (at.rests usable) ReadOnly falls);
      ends = unwritable_store db key usable (db.told ∙ c.if-not-self.true)
          (no_read s db (λ y honest left. g.met.S.PageStore.only_now db.store y honest left))
          content mode;
      pass = refl;
    }

pub returns-then-not-is_allowed : goal.returns-then-not-is_allowed
returns-then-not-is_allowed g c =
    let s = g.S.PageStore in
    let db = c.args.self.now in
    let key = c.args.key.now in
    let content = c.args.content.now in
    let mode = c.args.mode in
    let usable = not_broken _ _ c.is_broken.ensures c.if-is_broken.false in
    let writable = db.told ∙ c.if-not-self.false in
    let long = sym c.is_allowed.ensures ∙ c.if-not-is_allowed.true in
    record {
      step = λ honest h at.
          let map = h.state.map in
          let falls = too_long_rule (handle_of db map) key content (mode_of mode) usable
          writable long in
          from_own at (rejected_step s db db map _
          (no_read s db (λ y h left. g.met.S.PageStore.only_now db.store y h left)) honest
          (at.map usable) (at.rests usable) TooLong falls);
      ends = long_store db key usable writable content mode
          (no_read s db (λ y honest left. g.met.S.PageStore.only_now db.store y honest left))
          long;
      pass = refl;
    }

pub returns-in_err-was_there : goal.returns-in_err-was_there
returns-in_err-was_there g c =
    let s = g.S.PageStore in
    let db = c.args.self.now in
    let key = c.args.key.now in
    let content = c.args.content.now in
    let mode = c.args.mode in
    let usable = not_broken _ _ c.is_broken.ensures c.if-is_broken.false in
    let writable = db.told ∙ c.if-not-self.false in
    let short = sym c.is_allowed.ensures ∙ c.if-not-is_allowed.false in
    let all = c.in_err-was_there.ensures in
    let told = c.from_residual.ensures.1 in
    let keeps = walk_told db c.has.new.self c.in_err-was_there.field-0.0 c.from_residual.result
    all.reads usable all.answer all.cause told in
    record {
      step = λ honest h at.
          let map = h.state.map in
          let held = at.map usable in
          let state = (handle_of db map).state in
          let falls = store_rule (handle_of db map) key content (mode_of mode) usable writable short in
          from_own at (reply_to_store c.has.new.self c.in_err-was_there.field-0.0
          (walk_failed_step s db c.has.new.self map _ c.in_err-was_there.ensures.reads honest
          held (at.rests usable)
          _ c.in_err-was_there.field-0.0 usable c.in_err-was_there.ensures.answer
          c.in_err-was_there.ensures.cause (c.in_err-was_there.ensures.whole honest map held)
          (λ reply after fails. subst (λ (rule : Case).
          Suffers (handle_of db map) (model.Store key content (mode_of mode)) rule reply after) (sym falls)
          (store_fails (handle_of db map) (model.Store key content (mode_of mode)) reply after fails
          key content (mode_of mode)
          (get map key))))
          c.from_residual.result c.from_residual.ensures.1);
      ends = told_store db key usable writable c.has.new.self content mode short
          c.from_residual.result c.in_err-was_there.field-0.0 told (as_change _ all.answer.only)
          (λ is. absurd (walk_no_memory _ all.answer.only is)) (still_meta s db c.has.new.self all.reads) keeps;
      pass = ap model_pass c.in_err-was_there.ensures.reads.pass_is;
    }

pub returns-then-eq : goal.returns-then-eq
returns-then-eq g c =
    let s = g.S.PageStore in
    let db = c.args.self.now in
    let key = c.args.key.now in
    let content = c.args.content.now in
    let mode = c.args.mode in
    let usable = not_broken _ _ c.is_broken.ensures c.if-is_broken.false in
    let writable = db.told ∙ c.if-not-self.false in
    let short = sym c.is_allowed.ensures ∙ c.if-not-is_allowed.false in
    let all = c.in_ok-was_there.ensures in
    let inserts = inserts_so mode c.if-eq.ensures in
    record {
      step = λ honest h at.
          let map = h.state.map in
          let held = at.map usable in
          let there = sym (c.in_ok-was_there.ensures.exact honest map held) ∙ c.if-was_there.true in
          let state = (handle_of db map).state in
          let falls = store_rule (handle_of db map) key content (mode_of mode) usable writable short
          ∙ kept state key content (get map key) (mode_of mode) there (ap mode_of inserts) in
          from_own at (found_step s db c.has.new.self map _ c.in_ok-was_there.ensures.reads
          honest held (at.rests usable) model.Kept refl falls);
      ends = kept_store db key usable writable c.has.new.self content mode short all.reads inserts
          (λ honest. was_found _ _ key _ c.if-was_there.true (all.searched honest));
      pass = ap model_pass c.in_ok-was_there.ensures.reads.pass_is;
    }

pub returns-then-self : goal.returns-then-self
returns-then-self g c =
    let s = g.S.PageStore in
    let db = c.args.self.now in
    let key = c.args.key.now in
    let content = c.args.content.now in
    let mode = c.args.mode in
    let usable = not_broken _ _ c.is_broken.ensures c.if-is_broken.false in
    let writable = db.told ∙ c.if-not-self.false in
    let short = sym c.is_allowed.ensures ∙ c.if-not-is_allowed.false in
    record {
      step = λ honest h at.
          let map = h.state.map in
          let held = at.map usable in
          let told_absent = c.if-not-was_there.true in
          let absent = sym (c.in_ok-was_there.ensures.exact honest map held) ∙ told_absent in
          let state = (handle_of db map).state in
          let read = c.in_ok-was_there.ensures.reads in
          let many : db.meta.limit ≤ len map =
          omega (
            arith,
            c.if-self.true,
            counted s db.store _ map held,
            ap (λ m. m.limit) read.meta_is,
            ap (λ m. m.pairs) read.meta_is,
          ) in
          let falls = store_rule (handle_of db map) key content (mode_of mode) usable writable short
          ∙ full state key content (get map key) (mode_of mode) absent many in
          from_own at (declined_step s db c.has.new.self map _ read honest held
          (at.rests usable) Full falls);
      ends = full_store db key usable writable c.has.new.self content mode short
          c.in_ok-was_there.ensures.reads;
      pass = ap model_pass c.in_ok-was_there.ensures.reads.pass_is;
    }

pub returns-in_err-store_pair : goal.returns-in_err-store_pair
returns-in_err-store_pair g c =
    let s = g.S.PageStore in
    let db = c.args.self.now in
    let key = c.args.key.now in
    let content = c.args.content.now in
    let mode = c.args.mode in
    let usable = not_broken _ _ c.is_broken.ensures c.if-is_broken.false in
    let writable = db.told ∙ c.if-not-self.false in
    let short = sym c.is_allowed.ensures ∙ c.if-not-is_allowed.false in
    let read = c.in_ok-was_there.ensures.reads in
    let all = c.in_err-store_pair.ensures in
    let told = c.from_residual-in_err-store_pair.ensures.1 in
    let r = c.from_residual-in_err-store_pair.result in
    let keeps = told_keeps s db c.has.new.self _ read usable writable c.in_err-store_pair.field-0.0
    record { ends = all.ends; error_is = refl; pass_is = refl } r told in
    let replaces : c.in_ok-was_there.was_there ≡ true → mode ≡ Replace =
    elim c.else-was_there.branch [
      | else-was_there-via-then-was_there+else-eq w ↦ λ is. replaces_so mode w.if-eq.ensures
      | else-was_there-via-else-was_there w ↦ λ is. not_both _ is w.if-was_there.false
    ] in
    record {
      step = λ honest h at.
          let map = h.state.map in
          let there = c.in_ok-was_there.ensures.exact honest map (at.map usable) in
          let few : c.in_ok-was_there.was_there ≡ false
          → c.has.new.self.meta.pairs < c.has.new.self.meta.limit =
          elim c.else-not-was_there.branch [
            | else-not-was_there-via-then-not-was_there+else-self w ↦ λ is. w.if-self.false
            | else-not-was_there-via-else-not-was_there w ↦ λ is.
                not_both _ w.if-not-was_there.false is
          ] in
          let asked = store_asked s db c.has.new.self map key c.in_ok-was_there.ensures.reads
          usable writable honest (at.map usable) (at.rests usable)
          content mode c.in_ok-was_there.was_there
          short there replaces few in
          let turns = turns_to s asked c.store_pair.new.store _
          (all.turns (mid_honest s asked) (mid_usable s asked) map (mid_holds s asked) there) in
          from_own at (reply_to_store _ c.in_err-store_pair.field-0.0
          (refused_step s asked _ c.in_err-store_pair.field-0.0
          record { ends = all.ends; error_is = refl; pass_is = refl } _ turns
          (λ t x le left. g.met.S.PageStore.counts_now c.store_pair.new.store t x
          (all.ends.honesty.1 (mid_honest s asked)) le left)
          (λ is. would_take (handle_of db map) key content mode c.in_ok-was_there.was_there
          (meta_kept c.has.new.self) (mid_placed s asked) there replaces (mid_map s asked)
          (mid_pairs s asked) (mid_buckets s asked) c.has.new.self.valid
          (all.sparing (mid_honest s asked) (mid_placed s asked)
          (mid_table s asked (g.met.S.PageStore.ends c.has.new.self.store))
          (there ∙ ap (λ (m : Contents). is_some (get m key)) (sym (mid_map s asked))) (ap Err is)))
          (λ is. lacks_room s asked c.store_pair.new.store _ turns (ap Err is)))
          c.from_residual-in_err-store_pair.result c.from_residual-in_err-store_pair.ensures.1);
      ends = told_store db key usable writable _ content mode short r c.in_err-store_pair.field-0.0
          told all.ends.answer.only
          (λ is. may_need (meta_kept db) (meta_kept c.has.new.self) (key, content) mode
          c.in_ok-was_there.was_there db.valid (still_meta s db c.has.new.self read) replaces
          (all.memory (ap Err is)))
          (all.ends.err.1 ∙ still_meta s db c.has.new.self read) keeps;
      pass = ap model_pass c.in_ok-was_there.ensures.reads.pass_is;
    }

pub returns : goal.returns
returns g c =
    let s = g.S.PageStore in
    let db = c.args.self.now in
    let key = c.args.key.now in
    let content = c.args.content.now in
    let mode = c.args.mode in
    let usable = not_broken _ _ c.is_broken.ensures c.if-is_broken.false in
    let writable = db.told ∙ c.if-not-self.false in
    let short = sym c.is_allowed.ensures ∙ c.if-not-is_allowed.false in
    let read = c.in_ok-was_there.ensures.reads in
    let all = c.in_ok-store_pair.ensures in
    let keeps = done_keeps db c.has.new.self _ _ stored.Stored read usable writable
    record { ends = all.ends; error_is = refl; pass_is = refl }
    (all.bounds ∙ still_bounds s db c.has.new.self read) in
    record {
      step = λ honest h at.
          let map = h.state.map in
          let there = c.in_ok-was_there.ensures.exact honest map (at.map usable) in
          let replaces : c.in_ok-was_there.was_there ≡ true → mode ≡ Replace =
          elim c.else-was_there.branch [
            | else-was_there-via-then-was_there+else-eq w ↦ λ is. replaces_so mode w.if-eq.ensures
            | else-was_there-via-else-was_there w ↦ λ is. not_both _ is w.if-was_there.false
          ] in
          let few : c.in_ok-was_there.was_there ≡ false
          → c.has.new.self.meta.pairs < c.has.new.self.meta.limit =
          elim c.else-not-was_there.branch [
            | else-not-was_there-via-then-not-was_there+else-self w ↦ λ is. w.if-self.false
            | else-not-was_there-via-else-not-was_there w ↦ λ is.
                not_both _ w.if-not-was_there.false is
          ] in
          let asked = store_asked s db c.has.new.self map key c.in_ok-was_there.ensures.reads
          usable writable honest (at.map usable) (at.rests usable)
          content mode c.in_ok-was_there.was_there
          short there replaces few in
          let turns = turns_to s asked c.store_pair.new.store _
          (all.turns (mid_honest s asked) (mid_usable s asked) map (mid_holds s asked) there) in
          from_own at (changed_step s asked _
          record { ends = all.ends; error_is = refl; pass_is = refl }
          _ (store_growth s asked refl) (inr (fits_mid s asked turns.bounded))
          (store_opens (meta_kept db) (meta_kept c.has.new.self)
          (model_meta c.store_pair.new.meta) (len (insert map key content))
          (still_meta s db c.has.new.self read)
          (sym (counted s c.store_pair.new.store (model_meta c.store_pair.new.meta)
          (insert map key content) turns.done)) all.shape)
          turns
          (λ x left. g.met.S.PageStore.only_committed c.store_pair.new.store x
          (all.ends.honesty.1 (mid_honest s asked))
          (ap (λ (st : StoreState). st.usable) all.ends.ok ∙ mid_usable s asked)
          (ap (λ (st : StoreState). st.writable) all.ends.ok
          ∙ still_writable s db c.has.new.self c.in_ok-was_there.ensures.reads
          ∙ writable) left));
      ends = done_store db key usable writable _ content mode short
          (changed_shape (meta_kept db) (meta_kept c.has.new.self)
          (model_meta c.store_pair.new.meta) (still_meta s db c.has.new.self read) all.shape)
          (λ honest. was_put db c.has.new.self read honest _ (key, content)
          c.in_ok-was_there.was_there (c.in_ok-was_there.ensures.searched honest) all.pairs
          (all.stored (read.reads.stages_only.honesty.1 honest))) keeps;
      pass = ap model_pass c.in_ok-was_there.ensures.reads.pass_is;
    }

pub store_pair-requires-clause-allowed : goal.store_pair-requires-clause-allowed
store_pair-requires-clause-allowed g c =
    ap (λ (b : Bounds). is_allowed b.version (c.args.key.now, c.args.content.now))
    (still_bounds g.S.PageStore c.args.self.now c.has.new.self c.in_ok-was_there.ensures.reads)
    ∙ sym c.is_allowed.ensures ∙ c.if-not-is_allowed.false

pub store_pair-requires-clause-room : goal.store_pair-requires-clause-room
store_pair-requires-clause-room g c = search rules
