use Rattle.std.proofs.Common.{◌∙◌, ℕ, false, Option, Some, None, IfSome, Ok, Err, refl, inl, inr, subst, ap}
use Rattle.dbm_model.specs.Calls.{Next, End}
use Rattle.bucket_chain.specs.Leasts.{IsAheadAt}
use Rattle.dbm_file.specs.Passing.{pass_of, pass_from}
use Rattle.dbm_file.specs.Trying.{slot_reply}
use Rattle.dbm_fault.specs.declared.fault.Fault.TheVariants.{NoPass}
use Rattle.dbm_file.proofs.Cases.{broken_next}
use Rattle.dbm_file.proofs.Lends.{lends_broken, lends_nothing, flagged_lends}
use Rattle.dbm_file.proofs.ReadSteps.{not_broken}
use Rattle.dbm_file.proofs.PassSteps.{next_step, passed_lends, keeps_as, keeps_err, lent_key, short_key, refused_by, stands_behind, stands_still, no_pass_lends, was_begun, was_not_begun}
use Rattle.dbm_file.proofs.Searches.{nothing_searched, given_key, given_none, key_ahead, broken_first, pass_lacked, pass_on, not_for_pass}
use Rattle.dbm_file.proofs.database.Database.nextkey.Goals as goal

pub returns-then-is_broken : goal.returns-then-is_broken
returns-then-is_broken g c =
    let answer = c.refuse.ensures.answer in (
      (
        refl,
        (λ _. tt),
        lends_broken g.S.PageStore c.args.self.now Next End _ _ _ c.refuse.new.error
            _ c.refuse.ensures.flag c.refuse.result answer refl
            (c.is_broken.ensures.0 c.if-is_broken.true) (λ h broken. broken_next h broken),
      ),
      record {
        after = tt;
        short = lends_nothing _ c.refuse.result _ answer;
        passed =
            nothing_searched _ c.refuse.result _ answer;
        ahead =
            nothing_searched _ c.refuse.result _ answer;
        no_pass =
            broken_first c.refuse.result _ _ _ answer (λ is. cc)
            (c.is_broken.ensures.0 c.if-is_broken.true);
        only =
            refused_by _ c.refuse.result _ answer (inl refl);
      },
    )

pub returns-then-not-is_begun : goal.returns-then-not-is_begun
returns-then-not-is_begun g c =
    let s = g.S.PageStore in
    let db = c.args.self.now in
    let usable = not_broken _ _ c.is_broken.ensures c.if-is_broken.false in
    let none = was_not_begun (pass_of db) c.is_begun.result c.is_begun.ensures
    c.if-not-is_begun.true in
    let answer = c.refuse-then-not-is_begun.ensures.answer in (
      (
        refl,
        (λ _. tt),
        flagged_lends s db Next End _ _ _ c.refuse-then-not-is_begun.new.error NoPass
            c.refuse-then-not-is_begun.ensures.flag c.refuse-then-not-is_begun.result answer db
            (no_pass_lends s db none usable
            (λ y honest left. g.met.S.PageStore.only_now db.store y honest left)),
      ),
      record {
        after = tt;
        short = lends_nothing _ c.refuse-then-not-is_begun.result _ answer;
        passed =
            nothing_searched _ c.refuse-then-not-is_begun.result _ answer;
        ahead =
            nothing_searched _ c.refuse-then-not-is_begun.result _ answer;
        no_pass =
            pass_lacked c.refuse-then-not-is_begun.result _ _ answer usable none;
        only =
            refused_by _ c.refuse-then-not-is_begun.result _ answer (inr (inl refl));
      },
    )

pub returns-in-Ok-Some : goal.returns-in-Ok-Some
returns-in-Ok-Some g c =
    let s = g.S.PageStore in
    let db = c.args.self.now in
    let usable = not_broken _ _ c.is_broken.ensures c.if-is_broken.false in
    let begun = was_begun (pass_of db) c.is_begun.result c.is_begun.ensures
    c.if-not-is_begun.false in
    let all = c.in-Ok-Some.ensures in
    let bytes = c.advance.new.self.ranked in
    let told = rw c.page.ensures at c.pair_at.ensures in
    let ahead = subst (λ (o : Option ℕ). IfSome o (λ slot. IsAheadAt (pass_from false db) bytes slot))
    c.in-Ok-Some.field-0-is all.ahead in (
      (
        refl,
        (λ _. tt),
        passed_lends s db c.advance.new.self Next bytes (Ok c.in-Ok-Some.field-0)
            (Ok (Some c.pair_at.result.0))
            (λ honest h at. next_step s db c.advance.new.self _ begun usable
            h at (all.step honest h at))
            (ap (λ (o : Option ℕ). slot_reply bytes (Ok o)) c.in-Ok-Some.field-0-is
            ∙ lent_key bytes c.in-Ok-Some.slot c.pair_at.result told)
            (keeps_as c.in-Ok-Some.field-0 (Some c.pair_at.result.0) all.keeps)
            (stands_behind _ (pass_from false db) bytes _ c.in-Ok-Some.slot c.pair_at.result
            all.stands c.in-Ok-Some.field-0-is told),
      ),
      record {
        after = tt;
        short = short_key bytes c.pair_at.result.0.now c.pair_at.result.1.now
            c.in-Ok-Some.slot ahead.page ahead.has.0 told;
        passed = (
          begun,
          λ honest.
              given_key _ _ _ bytes _ c.in-Ok-Some.slot c.pair_at.result c.in-Ok-Some.field-0-is
              told (all.passed honest),
        );
        ahead = key_ahead (pass_of db) bytes c.in-Ok-Some.slot c.pair_at.result told
            ahead;
        no_pass = pass_on (Ok (Some c.pair_at.result.0)) _ _ begun (λ is. cc);
        only = tt;
      },
    )

pub returns-in-Ok-None : goal.returns-in-Ok-None
returns-in-Ok-None g c =
    let s = g.S.PageStore in
    let db = c.args.self.now in
    let usable = not_broken _ _ c.is_broken.ensures c.if-is_broken.false in
    let begun = was_begun (pass_of db) c.is_begun.result c.is_begun.ensures
    c.if-not-is_begun.false in
    let all = c.in-Ok-None.ensures in
    let bytes = c.advance.new.self.ranked in (
      (
        refl,
        (λ _. tt),
        passed_lends s db c.advance.new.self Next bytes (Ok c.in-Ok-None.field-0) (Ok None)
            (λ honest h at. next_step s db c.advance.new.self _ begun usable
            h at (all.step honest h at))
            (ap (λ (o : Option ℕ). slot_reply bytes (Ok o)) c.in-Ok-None.field-0-is)
            (keeps_as c.in-Ok-None.field-0 None all.keeps)
            (stands_still _ (pass_from false db) bytes _ all.stands c.in-Ok-None.field-0-is),
      ),
      record {
        after = tt;
        short = tt;
        passed = (
          begun,
          λ honest.
              given_none _ _ _ bytes _ c.in-Ok-None.field-0-is (all.passed honest),
        );
        ahead = tt;
        no_pass = pass_on (Ok None) _ _ begun (λ is. cc);
        only = tt;
      },
    )

pub returns-in-Err : goal.returns-in-Err
returns-in-Err g c =
    let s = g.S.PageStore in
    let db = c.args.self.now in
    let usable = not_broken _ _ c.is_broken.ensures c.if-is_broken.false in
    let begun = was_begun (pass_of db) c.is_begun.result c.is_begun.ensures
    c.if-not-is_begun.false in
    let all = c.in-Err.ensures in (
      (
        refl,
        (λ _. tt),
        passed_lends s db c.advance.new.self Next c.advance.new.self.ranked (Err c.in-Err.fault)
            (Err c.in-Err.fault) (λ honest h at.
            next_step s db c.advance.new.self _ begun usable h at
            (all.step honest h at)) refl (keeps_err c.in-Err.fault all.keeps) tt,
      ),
      record {
        after = tt;
        short = tt;
        passed = tt;
        ahead = tt;
        no_pass =
            pass_on (Err c.in-Err.fault) _ _ begun
            (λ is. not_for_pass c.in-Err.fault all.only (let same = is in cc));
        only =
            inr (inr all.only);
      },
    )
