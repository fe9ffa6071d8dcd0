use Rattle.std.proofs.Common.{◌≡◌, ◌↔◌, ℕ, Bool, IsTrue, refl, sym, ap, ◌∙◌, nat_cmp, Less, Equal, Greater}
use Rattle.std.specs.Cmp.{nat_cmp_is}
use Rattle.std.specs.Cmp.Lexicographic.{slice_cmp, lists_agrees}
use Rattle.std.specs.Ordering.{ordering_then, is_lt, is_some_and}
use Rattle.std.specs.declared.cmp.Ordering.{Ordering}
use Rattle.dbm_model.specs.KeyOrder.{rank, hash_of}
use Rattle.lin_addr.proofs.order.Ranked.comes_before.Goals as goal

is_less : (o : Ordering) → IsTrue (is_lt o) ↔ (o ≡ Less)
is_less Less = (λ _. refl, λ _. refl)
is_less Equal = (λ h. cc, λ e. cc)
is_less Greater = (λ h. cc, λ e. cc)

-- of two keys with one rank the bytes say which comes first
by_bytes : (a b : ℕ) (o : Ordering) (t : Bool) → a ≡ b → t ≡ is_lt o
    → IsTrue t ↔ (ordering_then (nat_cmp a b) o ≡ Less)
by_bytes a b o t e is =
    let tied : Equal ≡ nat_cmp a b = nat_cmp_is a b Equal e in
    rw (is, ← tied) (is_less o)

pub returns-then-self-other-2 : goal.returns-then-self-other-2
returns-then-self-other-2 c =
    let here = c.args.self.now in
    let there = c.args.other.now in
    by_bytes (rank (hash_of here.key.now)) (rank (hash_of there.key.now))
    (slice_cmp nat_cmp here.key.now there.key.now) c.lt.result
    (sym here.is_rank ∙ c.if-self-other-2.true ∙ there.is_rank)
    (c.lt.ensures ∙ ap (is_some_and is_lt)
    (lists_agrees (λ _ _. refl) here.key.now there.key.now))
