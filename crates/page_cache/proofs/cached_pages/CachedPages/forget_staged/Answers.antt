use Rattle.std.proofs.Common.{inl, inr, sym, ap, ◌∙◌, arith}
use Rattle.std.proofs.lemmas.Bool.{cases_lt}
use Rattle.page_io.specs.Store.{has_page}
use Rattle.page_cache.proofs.cached_pages.CachedPages.forget_staged.Goals as goal

pub invariant_of-self : goal.invariant_of-self
invariant_of-self g c = record {
  are_current = λ n copy has.
      c.loop-n.self.are_current n copy (c.forget.ensures n copy has).0;
}

pub loop-n-preserved : goal.loop-n-preserved
loop-n-preserved g c = record {
  store = c.loop-n.invariant.store;
  none = λ k copy has ge le.
      let old = c.forget.ensures k copy has in
      let staged = ap (λ store. has_page (g.S.PageStore.state store).staged k)
      (sym c.loop-n.invariant.store) in
      elim (cases_lt c.loop-n.from k) [
        | inl behind ↦ staged ∙ c.in-Some.ensures.2 k behind
            (omega (arith, le, old.1))
        | inr before ↦ c.loop-n.invariant.none k copy old.0 ge before
      ];
}

pub returns-clause-unstaged : goal.returns-clause-unstaged
returns-clause-unstaged g c k copy has ge =
    let staged = ap (λ store. has_page (g.S.PageStore.state store).staged k)
    (sym c.loop-n.invariant.store) in
    elim (cases_lt c.loop-n.from k) [
      | inl behind ↦ staged ∙ c.in_default.ensures k behind
      | inr before ↦ c.loop-n.invariant.none k copy has ge before
    ]
