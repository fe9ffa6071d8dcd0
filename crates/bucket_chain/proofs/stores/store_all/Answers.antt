use Rattle.std.proofs.Common.{map, refl, ap, arith}
use Rattle.std.proofs.lemmas.Result.{IfOk-from_err}
use Rattle.page_io.specs.Store.{StoreState}
use Rattle.page_io.specs.Views.{body_at}
use Rattle.page_io.specs.declared.store.PageFault.TheVariants.{NoRoom, Damaged}
use Rattle.page_io.proofs.Exits.{exit_is, came, cause_first, cause_last}
use Rattle.page_io.proofs.Views.{stages_then}
use Rattle.bucket_chain.specs.Pairs.{record_as}
use Rattle.bucket_chain.proofs.HeldCleared.{held_cleared}
use Rattle.bucket_chain.proofs.Added.{all_under}
use Rattle.bucket_chain.proofs.Refusals.{store_stores, stores_last}
use Rattle.bucket_chain.proofs.StagedPages.{on_ok, if_ok}
use Rattle.bucket_chain.proofs.stores.store_all.Goals as goal

-- the chain is not emptied
pub returns-in_err-clear : goal.returns-in_err-clear
returns-in_err-clear g c =
    let told = c.in_err-clear.ensures in
    let result = c.from_residual in
    let exit = exit_is result.result c.in_err-clear.field-0.0 result.ensures.1 in
    record {
      stages = record {
        only = told.stages.only;
        cause = cause_first _ _ exit _ _ told.stages.cause;
      };
      answer = store_stores _ _ refl _ _ exit told.answer;
      room = λ empty none. told.room (came _ _ exit NoRoom none);
      walked = λ honest. IfOk-from_err _ _ result.ensures.0;
      stored = λ honest. IfOk-from_err _ _ result.ensures.0;
      no_room = λ honest none. absurd (told.room (came _ _ exit NoRoom none));
      keeps = record {
        ends = told.keeps.ends;
        may_end = λ may. IfOk-from_err _ _ result.ensures.0;
      };
      exact = λ honest chain s placed entries same held once. IfOk-from_err _ _ result.ensures.0;
      whole = λ honest chain s placed entries same held once damaged.
          told.whole honest chain s placed (came _ _ exit Damaged damaged);
    }

-- the pairs are put
pub returns : goal.returns
returns g c =
    let st = g.S.PageStore in
    let cleared = c.in_ok-clear.ensures in
    let told = c.put_all.ensures in
    record {
      stages = record {
        only = stages_then st _ _ _ (g.met.S.PageStore.counts_now c.clear.new.store)
            cleared.stages.only
            told.stages.only;
        cause = cause_last _ _ _ _ cleared.stages.cause.later told.stages.cause;
      };
      answer = stores_last _ _ _ (ap (λ (s : StoreState). s.usable) cleared.stages.only.state)
          told.answer;
      room = told.room;
      no_room = λ honest none.
          let full = told.no_room (cleared.stages.only.honesty.1 honest) none in
          omega (
            arith,
            full,
            cleared.end,
            ap (λ (s : StoreState). s.capacity)
                cleared.stages.only.state,
          );
      walked = λ honest. if_ok c.put_all.result (cleared.walked honest);
      keeps = record {
        ends = λ e. told.keeps.ends (cleared.keeps.ends e);
        may_end = λ may. told.keeps.may_end (cleared.keeps.may_end may);
      };
      stored = λ honest. on_ok c.put_all.result (told.added (cleared.stages.only.honesty.1 honest))
          (λ all. record {
            mid = body_at st c.clear.new.store;
            between = c.clear.new.space;
            first = cleared.emptied honest;
            second = all_under _ _ cleared.keeps.may_end (λ r. c.args.head) _ _
                (map record_as c.args.pairs.now) _ _ all;
          });
      exact = λ honest chain s placed entries same held once.
          let empty = cleared.exact honest chain s placed in
          let h1 = cleared.stages.only.honesty.1 honest in
          on_ok c.put_all.result (told.exact h1 _ _ empty.is_placed
          entries same (held_cleared _ _ _ _ _ _ _ chain s entries placed held empty) empty.empty
          once)
          (λ all. all.becomes (body_at st c.args.store.now) empty.becomes);
      whole = λ honest chain s placed entries same held once damaged.
          let empty = cleared.exact honest chain s placed in
          told.whole (cleared.stages.only.honesty.1 honest) _ _ empty.is_placed
          entries same (held_cleared _ _ _ _ _ _ _ chain s entries placed held empty) empty.empty
          once damaged;
    }
