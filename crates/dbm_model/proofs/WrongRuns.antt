-- Replies that no run has.
use Rattle.std.proofs.Common.{◌≡◌, ⊎_elim, ℕ, ◌≤◌, [], ◌∷◌, Some, None, refl, sym, ◌∙◌, ap, subst, arith}
use Rattle.std.specs.FinMap.{empty, get-empty}
use Rattle.std.specs.Prelude.{nat_le, is_some}
use Rattle.dbm_model.specs.Bounds.{in_v1}
use Rattle.dbm_model.specs.Calls.{Insert, Replace, Call, Store, Fetch, First, Next, End, Refused, Reply, Stored, Kept, Bytes, NoRecord, Fault, NoPass, Full}
use Rattle.dbm_model.specs.KeyOrder.{ComesBefore}
use Rattle.dbm_model.specs.Pairs.{key_cmp}
use Rattle.dbm_model.specs.States.{State, NotBegun, Begun, Handle}
use Rattle.dbm_model.specs.Steps.{Case, Tells, Refuses, Declines, Finds, Passes, Changes, fetched, case_for, Answers, Suffers, Step}
use Rattle.dbm_model.specs.Examples.{WrongReplies, new_database, one}
use Rattle.dbm_model.proofs.AscentLemmas.{none_given_twice}
use Rattle.dbm_model.proofs.PassRuns.{a, b, both, has_a, a_before_b}
use Rattle.dbm_model.proofs.PassSteps.{passes_stay}
use Rattle.dbm_model.proofs.RefusalLemmas.{refuses_where_due}
use Rattle.dbm_model.proofs.RunLemmas.{only, is_only, at, by_old, adds, declines, one_more, none_yet, allowed}

-- a reply that isn't a refusal
abbrev IsWell : Reply → Type 0
IsWell reply = (fault : Fault) → reply ≡ Refused fault → ⊥

-- it isn't one that comes instead
well_unsuffered : (h after : Handle) (call : Call) (c : Case) (reply : Reply) → IsWell reply
    → Suffers h call c reply after → ⊥
well_unsuffered h after call (Tells said told) reply well s = s
well_unsuffered h after call (Refuses fault) reply well s = s
well_unsuffered h after call (Declines fault) reply well s = well _ s.0
well_unsuffered h after call (Finds found) reply well s =
    ⊎_elim (λ f. well _ f.0) (λ m. well _ m.0) s
well_unsuffered h after call (Passes from) reply well s = well _ s.0
well_unsuffered h after call (Changes said next) reply well s =
    ⊎_elim (λ f. well _ f.0) (λ o.
    ⊎_elim (λ b. well _ b.0) (λ p. ⊎_elim (λ m. well _ m.0) (λ r. well _ r.0) p) o) s

-- it comes by the rule that the call falls under
surely : (h after : Handle) (s : State) (call : Call) (c : Case) (reply : Reply) → h.state ≡ s
    → case_for h.capacity s call ≡ c → IsWell reply → Step h call reply after → Answers s c reply after.state
surely h after s call c reply is falls well step =
    let rule = ap (λ (t : State). case_for h.capacity t call) is ∙ falls in
    ⊎_elim
    (λ a. subst (λ (t : State). Answers t c reply after.state) is
    (subst (λ (d : Case). Answers h.state d reply after.state) rule a))
    (λ t. absurd (well_unsuffered h after call c reply well
    (subst (λ (d : Case). Suffers h call d reply after) rule t)))
    step.answers

-- what a first store leaves
once : (limit : ℕ) → 1 ≤ limit → (after : Handle)
    → Step (new_database (in_v1 limit)) (Store (one 0x61) (one 0x01) Replace) Stored after
    → after.state ≡ at (in_v1 limit) (only (one 0x01)) None NotBegun
once limit some after step =
    let rule = adds (in_v1 limit) empty None NotBegun (one 0x61) (one 0x01) allowed
    (get-empty key_cmp (one 0x61)) (none_yet limit some) in
    (surely (new_database (in_v1 limit)) after (at (in_v1 limit) empty None NotBegun)
    (Store (one 0x61) (one 0x01) Replace) (Changes Stored (at (in_v1 limit) (only (one 0x01)) None NotBegun)) Stored refl
    rule (λ fault is. absurd (let x = is in cc)) step).1

pub wrong_replies : WrongReplies
wrong_replies =
    let map = only (one 0x01) in
    let s = at (in_v1 100) map None NotBegun in
    let has = is_only (one 0x01) (one 0x61) in
    record {
      invented = λ m. absurd (let a =
          surely (new_database (in_v1 100)) m.run.0 (at (in_v1 100) empty None NotBegun) (Fetch (one 0x61))
          (Finds NoRecord) (Bytes (one 0x01)) refl (ap fetched (get-empty key_cmp (one 0x61)))
          (λ fault is. absurd (let x = is in cc)) m.run.1 in let x = a.0 in cc);
      lost = λ m. absurd (let a = surely m.run.0 m.run.2.0 s (Fetch (one 0x61))
          (Finds (Bytes (one 0x01))) NoRecord (once 100 (omega arith) m.run.0 m.run.1)
          (ap fetched has) (λ fault is. absurd (let x = is in cc)) m.run.2.1 in
          let x = a.0 in cc);
      another = λ m. absurd (let a =
          surely m.run.0 m.run.2.0 s (Fetch (one 0x61)) (Finds (Bytes (one 0x01)))
          (Bytes (one 0x02)) (once 100 (omega arith) m.run.0 m.run.1) (ap fetched has)
          (λ fault is. absurd (let x = is in cc)) m.run.2.1 in let x = a.0 in cc);
      replaced = λ m. absurd (let a =
          surely m.run.0 m.run.2.0 s (Store (one 0x61) (one 0x02) Insert) (Finds Kept) Stored
          (once 100 (omega arith) m.run.0 m.run.1)
          (by_old (in_v1 100) map None NotBegun (one 0x61) (one 0x02) allowed Insert (Some (one 0x01)) has)
          (λ fault is. absurd (let x = is in cc)) m.run.2.1 in let x = a.0 in cc);
      beyond = λ m. absurd (let a =
          surely m.run.0 m.run.2.0 (at (in_v1 1) map None NotBegun) (Store (one 0x62) (one 0x01) Replace)
          (Declines Full) Stored (once 1 (omega arith) m.run.0 m.run.1)
          (declines (in_v1 1) map None NotBegun (one 0x62) (one 0x01) allowed (is_only (one 0x01) (one 0x62))
          (ap (nat_le 1) (one_more (one 0x61) (one 0x01))))
          (λ fault is. absurd (let x = is in cc)) m.run.2.1 in let x = a.0 in cc);
      ended = λ m. ⊎_elim (λ none. none.0 (one 0x61) (ap is_some has) tt)
          (λ given. absurd (let x = given.2 in cc))
          (surely m.run.0 m.run.2.0 s First (Passes Begun) End
          (once 100 (omega arith) m.run.0 m.run.1) refl
          (λ fault is. absurd (let x = is in cc)) m.run.2.1);
      unbegun = λ m. absurd (let a =
          surely (new_database (in_v1 100)) m.run.0 (at (in_v1 100) empty None NotBegun) Next (Refuses NoPass) End
          refl refl (λ fault is. absurd (let x = is in cc)) m.run.1 in let x = a.0 in cc);
      ended_by_a_store = λ m.
          let begun = ⊎_elim (λ end. absurd (let x = end.1 in cc))
          (λ given is. absurd (let x = sym is ∙ ap (λ (t : State). t.pass) given.3 in cc))
          (surely m.run.0 m.run.2.0 s First (Passes Begun) (Bytes (one 0x61))
          (once 100 (omega arith) m.run.0 m.run.1) refl
          (λ fault is. absurd (let x = is in cc)) m.run.2.1) in
          let last = m.run.2.2 in
          passes_stay m.run.2.0 last.0 (Store (one 0x61) (one 0x02) Replace) Stored last.1 begun
          (refuses_where_due last.0 last.2.0 Next NoPass last.2.1).2;
      twice = λ m. absurd (let most =
          none_given_twice m.run.0 m.after (Next ∷ [])
          (Bytes (one 0x61) ∷ Bytes (one 0x61) ∷ []) m.run.2 ((λ is. absurd (let x = is in cc)), tt)
          (one 0x61) in omega arith);
      later_one = λ m.
          let rule = adds (in_v1 100) map None NotBegun b (one 0x01) allowed
          (is_only (one 0x01) b) (ap (nat_le 100) (one_more a (one 0x01))) in
          let two = (surely m.run.0 m.run.2.0 s (Store b (one 0x01) Replace)
          (Changes Stored (at (in_v1 100) both None NotBegun)) Stored (once 100 (omega arith) m.run.0 m.run.1) rule
          (λ fault is. absurd (let x = is in cc)) m.run.2.1).1 in
          ⊎_elim (λ end. absurd (let x = end.1 in cc))
          (λ given. given.1.least a has_a tt
          (let same : b ≡ given.0 = let x = given.2 in cc in
          subst (λ k. ComesBefore a k) same a_before_b))
          (surely m.run.2.0 m.run.2.2.0 (at (in_v1 100) both None NotBegun) First (Passes Begun) (Bytes b)
          two refl (λ fault is. absurd (let x = is in cc)) m.run.2.2.1);
    }
