use Rattle.std.proofs.Common.{rules, Err, refl, ap, ◌∙◌}
use Rattle.std.proofs.lemmas.Result.{IfOk-from_err}
use Rattle.std.specs.FinMap.{len}
use Rattle.page_io.specs.Store.{StoreState}
use Rattle.dbm_file.specs.Database.{meta_kept}
use Rattle.dbm_file.proofs.GoodFiles.{damage_told, file_read, held_file, pairs_of_map, read_as_file, stands_with}
use Rattle.dbm_file.proofs.ReadSteps.{not_broken}
use Rattle.dbm_file.proofs.ReadThrough.{shown_usable, stays_at}
use Rattle.dbm_file.proofs.database.Database.verify.Goals as goal

pub returns-in_err-verify-clause-damaged : goal.returns-in_err-verify-clause-damaged
returns-in_err-verify-clause-damaged g c honest is pairs file =
    let s = g.S.PageStore in
    let store = c.args.self.now.store in
    let damaged = damage_told c.in_err-verify.field-0.0 c.from_residual.result
    c.from_residual.ensures.1 is in
    c.in_err-verify.ensures.damaged honest (ap Err damaged) pairs
    (read_as_file s store c.args.self.now.idle (g.met.S.PageStore.ends store) pairs file)

pub returns-in_err-verify-clause-counts : goal.returns-in_err-verify-clause-counts
returns-in_err-verify-clause-counts g c honest h at usable =
    let s = g.S.PageStore in
    let db = c.args.self.now in
    let held = held_file s db.store (meta_kept db) h.state.map (at.map (shown_usable db h at usable)) in (
      IfOk-from_err _ _ c.from_residual.ensures.0,
      λ is. c.in_err-verify.ensures.damaged honest
          (ap Err (damage_told c.in_err-verify.field-0.0 c.from_residual.result
          c.from_residual.ensures.1 is)) (len h.state.map)
          (read_as_file s db.store db.idle (g.met.S.PageStore.ends db.store) (len h.state.map) held),
    )

pub returns-in_err-verify-clause-stays : goal.returns-in_err-verify-clause-stays
returns-in_err-verify-clause-stays g c honest h at =
    stays_at g.S.PageStore c.args.self.now _ record {
      reads = c.in_err-verify.ensures.reads.only;
      meta_is = refl;
      error_is = refl;
      pass_is = refl;
    } honest h at

pub returns-clause-good : goal.returns-clause-good
returns-clause-good g c honest =
    let s = g.S.PageStore in
    let store = c.args.self.now.store in
    file_read s store c.args.self.now.idle (g.met.S.PageStore.ends store) c.in_ok-verify.field-0
    (c.in_ok-verify.ensures.good honest)

pub returns-clause-counts : goal.returns-clause-counts
returns-clause-counts g c honest h at usable =
    let s = g.S.PageStore in
    let db = c.args.self.now in
    let held = at.map (shown_usable db h at usable) in
    let pairs = c.in_ok-verify.field-0 in (
      pairs_of_map (s.committed db.store) pairs h.state.map (meta_kept db).bounds held.stands
          (file_read s db.store db.idle (g.met.S.PageStore.ends db.store) pairs
          (c.in_ok-verify.ensures.good honest)),
      λ is. absurd (let e = is in cc),
    )

pub returns-clause-stays : goal.returns-clause-stays
returns-clause-stays g c honest h at =
    stays_at g.S.PageStore c.args.self.now _ record {
      reads = c.in_ok-verify.ensures.reads.only;
      meta_is = refl;
      error_is = refl;
      pass_is = refl;
    } honest h at

pub returns-clause-begins : goal.returns-clause-begins
returns-clause-begins g c honest writable =
    let s = g.S.PageStore in
    let store = c.args.self.now.store in
    let reads = c.in_ok-verify.ensures.reads.only in
    let pairs = c.in_ok-verify.field-0 in
    stands_with s c.args.self.now _ pairs reads honest
    (file_read s store c.args.self.now.idle (g.met.S.PageStore.ends store) pairs
    (c.in_ok-verify.ensures.good honest))
    (λ y left. g.met.S.PageStore.only_committed _ y (reads.stages_only.honesty.1 honest)
    (ap (λ (st : StoreState). st.usable) reads.same
    ∙ not_broken _ _ c.is_broken.ensures c.if-is_broken.false)
    (ap (λ (st : StoreState). st.writable) reads.same ∙ writable) left)

pub returns-then-is_broken-clause-damaged : goal.returns-then-is_broken-clause-damaged
returns-then-is_broken-clause-damaged g c = search rules

pub returns-then-is_broken-clause-broken : goal.returns-then-is_broken-clause-broken
returns-then-is_broken-clause-broken g c = search rules
