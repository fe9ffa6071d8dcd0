use Rattle.std.proofs.Common.{Contains, inl, inr, ⊎_elim, sym, ◌∙◌, ap, subst}
use Rattle.std.specs.Global.{Box}
use Rattle.std.specs.Option.{option_copied_mut}
use Rattle.page_cache.proofs.Lookups.{same_entries, after_set}
use Rattle.page_cache.specs.declared.page_copy.PageCopy.{PageCopy}
use Rattle.page_cache.proofs.page_copies.PageCopies.keep.Goals as goal

pub returns-in-Some-get_mut : goal.returns-in-Some-get_mut
returns-in-Some-get_mut c k one has =
    ⊎_elim
    (λ left. inl (
      subst (λ es. Contains es (k, one))
          (sym (same_entries c.args.self.now.pages c.in-Some.pages c.in-Some.is)) left.0,
      left.1,
    ))
    (λ set. inr (set.0, ap (λ (b : Box PageCopy). b.value.page) set.1))
    (after_set c.in-Some.pages.entries c.args.n c.in-Some-get_mut.copy.now _
    c.len.ensures.valid.0
    (sym c.get_mut.ensures.value ∙ ap option_copied_mut c.in-Some-get_mut.is) k one has)

pub returns-in-None : goal.returns-in-None
returns-in-None c k one has =
    ⊎_elim
    (λ left. inl (
      subst (λ es. Contains es (k, one))
          (sym (same_entries c.args.self.now.pages c.in-Some.pages c.in-Some.is)) left.0,
      left.1,
    ))
    (λ new. inr new)
    (c.add.ensures.added k one has)
