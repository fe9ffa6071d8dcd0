use Rattle.std.proofs.Common.{◌∙◌, ℕ, true, Option, Some, None, IfSome, Ok, Err, refl, inl, inr, subst, ap, rules}
use Rattle.dbm_model.specs.Calls.{First, End}
use Rattle.bucket_chain.specs.Leasts.{IsAheadAt}
use Rattle.dbm_file.specs.Passing.{pass_from}
use Rattle.dbm_file.specs.Trying.{slot_reply}
use Rattle.dbm_file.proofs.Cases.{broken_first}
use Rattle.dbm_file.proofs.Lends.{lends_broken, lends_nothing}
use Rattle.dbm_file.proofs.ReadSteps.{not_broken}
use Rattle.dbm_file.proofs.PassSteps.{first_step, passed_lends, keeps_as, keeps_err, lent_key, short_key, refused_by, stands_behind, stands_still}
use Rattle.dbm_file.proofs.Searches.{nothing_searched, given_key, given_none}
use Rattle.dbm_file.proofs.database.Database.firstkey.Goals as goal

pub returns-then-is_broken : goal.returns-then-is_broken
returns-then-is_broken g c =
    let answer = c.refuse.ensures.answer in (
      (
        refl,
        (λ _. tt),
        lends_broken g.S.PageStore c.args.self.now First End _ _ _
            c.refuse.new.error _ c.refuse.ensures.flag c.refuse.result answer refl
            (c.is_broken.ensures.0 c.if-is_broken.true)
            (λ h broken. broken_first h broken),
      ),
      record {
        after = tt;
        short = lends_nothing _ c.refuse.result _ answer;
        passed =
            nothing_searched _ c.refuse.result _ answer;
        only =
            refused_by _ c.refuse.result _ answer (inl refl);
      },
    )

pub returns-in-Ok-Some : goal.returns-in-Ok-Some
returns-in-Ok-Some g c =
    let s = g.S.PageStore in
    let db = c.args.self.now in
    let usable = not_broken _ _ c.is_broken.ensures c.if-is_broken.false in
    let all = c.in-Ok-Some.ensures in
    let bytes = c.advance.new.self.ranked in
    let told = rw c.page.ensures at c.pair_at.ensures in
    let ahead = subst (λ (o : Option ℕ). IfSome o (λ slot. IsAheadAt (pass_from true db) bytes slot))
    c.in-Ok-Some.field-0-is all.ahead in (
      (
        refl,
        (λ _. tt),
        passed_lends s db c.advance.new.self First bytes (Ok c.in-Ok-Some.field-0)
            (Ok (Some c.pair_at.result.0))
            (λ honest h at. first_step s db c.advance.new.self _ usable h at (all.step honest h at))
            (ap (λ (o : Option ℕ). slot_reply bytes (Ok o)) c.in-Ok-Some.field-0-is
            ∙ lent_key bytes c.in-Ok-Some.slot c.pair_at.result told)
            (keeps_as c.in-Ok-Some.field-0 (Some c.pair_at.result.0) all.keeps)
            (stands_behind _ (pass_from true db) bytes _ c.in-Ok-Some.slot c.pair_at.result
            all.stands c.in-Ok-Some.field-0-is told),
      ),
      record {
        after = tt;
        short = short_key bytes c.pair_at.result.0.now c.pair_at.result.1.now
            c.in-Ok-Some.slot ahead.page ahead.has.0 told;
        passed =
            (λ honest. given_key _ _ _ bytes _ c.in-Ok-Some.slot c.pair_at.result
            c.in-Ok-Some.field-0-is told (all.passed honest));
        only = tt;
      },
    )

pub returns-in-Ok-None : goal.returns-in-Ok-None
returns-in-Ok-None g c =
    let s = g.S.PageStore in
    let db = c.args.self.now in
    let usable = not_broken _ _ c.is_broken.ensures c.if-is_broken.false in
    let all = c.in-Ok-None.ensures in
    let bytes = c.advance.new.self.ranked in (
      (
        refl,
        (λ _. tt),
        passed_lends s db c.advance.new.self First bytes (Ok c.in-Ok-None.field-0) (Ok None)
            (λ honest h at. first_step s db c.advance.new.self _ usable h at (all.step honest h at))
            (ap (λ (o : Option ℕ). slot_reply bytes (Ok o)) c.in-Ok-None.field-0-is)
            (keeps_as c.in-Ok-None.field-0 None all.keeps)
            (stands_still _ (pass_from true db) bytes _ all.stands c.in-Ok-None.field-0-is),
      ),
      record {
        after = tt;
        short = tt;
        passed =
            (λ honest. given_none _ _ _ bytes _ c.in-Ok-None.field-0-is (all.passed honest));
        only = tt;
      },
    )

pub returns-in-Err : goal.returns-in-Err
returns-in-Err g c =
    let s = g.S.PageStore in
    let db = c.args.self.now in
    let usable = not_broken _ _ c.is_broken.ensures c.if-is_broken.false in
    let all = c.in-Err.ensures in (
      (
        refl,
        (λ _. tt),
        passed_lends s db c.advance.new.self First c.advance.new.self.ranked
            (Err c.in-Err.fault) (Err c.in-Err.fault)
            (λ honest h at. first_step s db c.advance.new.self _ usable h at (all.step honest h at)) refl
            (keeps_err c.in-Err.fault all.keeps) tt,
      ),
      record { after = tt; short = tt; passed = tt; only = inr all.only },
    )

pub advance-requires-clause-begun : goal.advance-requires-clause-begun
advance-requires-clause-begun g c = search rules
