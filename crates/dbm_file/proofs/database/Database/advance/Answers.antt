use Rattle.std.proofs.Common.{◌∙◌, ℕ, List, Option, IfSome, refl, sym, ap, subst, rules}
use Rattle.std.specs.Borrow.{Bor}
use Rattle.std.specs.Option.{option_map}
use Rattle.dbm_model.specs.States.{Behind}
use Rattle.bucket_chain.specs.Leasts.{pass_behind, IsAheadAt}
use Rattle.dbm_file.specs.Passing.{pass_from}
use Rattle.dbm_file.proofs.PassSteps.{least_of_map, table_at, begins_so, goes_on_so, given_step, ended_step, pass_failed, pass_flagged, short_key}
use Rattle.dbm_file.proofs.ReadSteps.{after_reads}
use Rattle.dbm_file.proofs.Searches.{blank, passed_so}
use Rattle.dbm_file.proofs.database.Database.advance.Goals as goal

pub go_behind-requires : goal.go_behind-requires
go_behind-requires g c =
    let bytes = c.next_pair.new.ranked in
    let from = pass_behind (option_map (λ (key : Bor (List ℕ)). key.now) c.last-last.result) in
    let ahead = subst (λ (o : Option ℕ). IfSome o (λ at. IsAheadAt from bytes at))
    c.in-Ok-Some.field-0-is c.in-Ok-Some.ensures.ahead in
    short_key bytes _ c.pair_at.result.1.now c.in-Ok-Some.slot ahead.page ahead.has.0
    (rw c.page.ensures at c.pair_at.ensures)

pub returns-in-Ok-Some-clause-step : goal.returns-in-Ok-Some-clause-step
returns-in-Ok-Some-clause-step g c honest h at call falls =
    let s = g.S.PageStore in
    let db = c.args.self.now in
    let all = c.in-Ok-Some.ensures in
    let told = rw c.page.ensures at c.pair_at.ensures in
    let least = least_of_map s db h at honest c.requires.usable (g.met.S.PageStore.ends db.store)
    _ _ (c.last-last.ensures c.requires.begun) c.next_pair.new.ranked c.in-Ok-Some.field-0
    all.exact in
    given_step s db _ h at call (pass_from c.args.begins db)
    record { reads = all.reads.only; meta_is = refl; error_is = refl; pass_is = refl } honest
    c.requires.usable falls least.pages least.map_is _ _ least.least
    c.in-Ok-Some.slot c.pair_at.result.0.now c.in-Ok-Some.field-0-is
    (told blank).0 c.go_behind.ensures

pub returns-in-Ok-None-clause-step : goal.returns-in-Ok-None-clause-step
returns-in-Ok-None-clause-step g c honest h at call falls =
    let s = g.S.PageStore in
    let db = c.args.self.now in
    let all = c.in-Ok-None.ensures in
    let least = least_of_map s db h at honest c.requires.usable (g.met.S.PageStore.ends db.store)
    _ _ (c.last-last.ensures c.requires.begun) c.next_pair.new.ranked c.in-Ok-None.field-0
    all.exact in
    ended_step s db _ h at call (pass_from c.args.begins db)
    record { reads = all.reads.only; meta_is = refl; error_is = refl; pass_is = refl } honest
    c.requires.usable falls least.pages least.map_is _ _ least.least
    c.in-Ok-None.field-0-is (begins_so c.args.begins db c.if-begins.true)

pub returns-in-Ok-None-2-clause-step : goal.returns-in-Ok-None-2-clause-step
returns-in-Ok-None-2-clause-step g c honest h at call falls =
    let s = g.S.PageStore in
    let db = c.args.self.now in
    let all = c.in-Ok-None.ensures in
    let least = least_of_map s db h at honest c.requires.usable (g.met.S.PageStore.ends db.store)
    _ _ (c.last-last.ensures c.requires.begun) c.next_pair.new.ranked c.in-Ok-None.field-0
    all.exact in
    ended_step s db _ h at call (pass_from c.args.begins db)
    record { reads = all.reads.only; meta_is = refl; error_is = refl; pass_is = refl } honest
    c.requires.usable falls least.pages least.map_is _ _ least.least
    c.in-Ok-None.field-0-is (goes_on_so c.args.begins db c.if-begins.false)

pub returns-in-Err-clause-step : goal.returns-in-Err-clause-step
returns-in-Err-clause-step g c honest h at call falls =
    let s = g.S.PageStore in
    let db = c.args.self.now in
    let all = c.in-Err.ensures in
    let new = after_reads s db c.next_pair.new.store c.next_pair.new.page c.next_pair.new.ranked
    all.reads.only in
    pass_flagged s db new h _ _ _ call c.refuse.new.error c.from.result _ c.refuse.ensures.flag
    c.from.ensures _ c.refuse.result c.refuse.ensures.answer
    (pass_failed s db new h at call (pass_from c.args.begins db) falls
    record { reads = all.reads.only; meta_is = refl; error_is = refl; pass_is = refl } honest
    c.requires.usable _ c.in-Err.fault all.answer all.reads.cause
    (all.whole honest _ (table_at s db h at c.requires.usable (g.met.S.PageStore.ends db.store))))

pub returns-in-Ok-Some-clause-passed : goal.returns-in-Ok-Some-clause-passed
returns-in-Ok-Some-clause-passed g c honest =
    passed_so _ _ _ _ _ _ _ (c.last-last.ensures c.requires.begun) c.in-Ok-Some.field-0-is
    (c.in-Ok-Some.ensures.passed honest)

pub returns-in-Ok-None-clause-passed : goal.returns-in-Ok-None-clause-passed
returns-in-Ok-None-clause-passed g c honest =
    passed_so _ _ _ _ _ _ _ (c.last-last.ensures c.requires.begun) c.in-Ok-None.field-0-is
    (c.in-Ok-None.ensures.passed honest)

pub returns-in-Ok-None-2-clause-passed : goal.returns-in-Ok-None-2-clause-passed
returns-in-Ok-None-2-clause-passed g c honest =
    passed_so _ _ _ _ _ _ _ (c.last-last.ensures c.requires.begun) c.in-Ok-None.field-0-is
    (c.in-Ok-None.ensures.passed honest)

pub returns-in-Ok-Some-clause-stands : goal.returns-in-Ok-Some-clause-stands
returns-in-Ok-Some-clause-stands g c =
    let told = rw c.page.ensures at c.pair_at.ensures in
    c.go_behind.ensures ∙ sym (ap Behind (told blank).0)

pub returns-in-Ok-None-clause-stands : goal.returns-in-Ok-None-clause-stands
returns-in-Ok-None-clause-stands g c = begins_so c.args.begins c.args.self.now c.if-begins.true

pub returns-in-Ok-None-2-clause-stands : goal.returns-in-Ok-None-2-clause-stands
returns-in-Ok-None-2-clause-stands g c = goes_on_so c.args.begins c.args.self.now c.if-begins.false

pub returns-in-Err-clause-keeps : goal.returns-in-Err-clause-keeps
returns-in-Err-clause-keeps g c = search rules
