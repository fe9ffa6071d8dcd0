use Rattle.std.proofs.Common.{◌∙◌, ap, is_some, refl}
use Rattle.std.proofs.lemmas.Result.{IfOk-from_err}
use Rattle.std.specs.FinMap.{get}
use Rattle.dbm_model.specs.Pairs.{Contents}
use Rattle.page_io.specs.declared.store.PageFault.TheVariants.{Damaged}
use Rattle.page_io.proofs.Exits.{exit_is, came, cause_first, cause_ok}
use Rattle.linear_hash.proofs.Found.{found_some}
use Rattle.linear_hash.proofs.Refusals.{walk_passed}
use Rattle.linear_hash.proofs.Tables.{placed, is_table, map_placed}
use Rattle.dbm_file.proofs.Searches.{searched_for}
use Rattle.dbm_file.proofs.Endings.{walk_was, never_damaged}
use Rattle.dbm_file.proofs.database.Database.has.Goals as goal

pub returns-in_err-place : goal.returns-in_err-place
returns-in_err-place g c =
    let s = g.S.PageStore in
    let store = c.args.self.now.store in
    let all = c.in_err-place.ensures in
    let ended = c.from_residual.result in
    let e = c.in_err-place.field-0.0 in
    let exit = exit_is ended e c.from_residual.ensures.1 in
    record {
      reads = record { reads = all.reads.only; meta_is = refl; error_is = refl; pass_is = refl };
      cause = cause_first ended e exit _ _ all.reads.cause;
      answer = walk_passed _ _ refl ended e exit all.answer;
      searched = IfOk-from_err _ _ c.from_residual.ensures.0;
      exact = λ honest map h. IfOk-from_err _ _ c.from_residual.ensures.0;
      whole = λ honest map h is. all.whole honest (placed s store _ map h)
          (is_table s store _ map h (g.met.S.PageStore.ends store) c.args.self.now.idle)
          (came ended e exit Damaged is);
    }

pub returns : goal.returns
returns g c =
    let s = g.S.PageStore in
    let store = c.args.self.now.store in
    let all = c.in_ok-place.ensures in
    record {
      reads = record { reads = all.reads.only; meta_is = refl; error_is = refl; pass_is = refl };
      cause = cause_ok _ _ c.is_some.result all.reads.cause.later;
      answer = walk_was c.is_some.result;
      searched = λ honest. searched_for _ _ c.args.key.now _ c.in_ok-place.place c.is_some.result
          c.is_some.ensures (all.searched honest);
      exact = λ honest map h.
          let table = is_table s store _ map h (g.met.S.PageStore.ends store)
          c.args.self.now.idle in
          let found = all.exact honest (placed s store _ map h) table in
          c.is_some.ensures ∙ found_some _ c.args.key.now _ _ _ found
          ∙ ap (λ (m : Contents). is_some (get m c.args.key.now)) (map_placed s store _ map h);
      whole = λ honest map h is. never_damaged c.is_some.result is;
    }
