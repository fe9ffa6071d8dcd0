use Rattle.std.proofs.Common.{inl, inr, ◌∙◌, ap}
use Rattle.std.specs.Global.{Box}
use Rattle.page_cache.proofs.Lookups.{after_put, none_apart}
use Rattle.page_cache.specs.declared.page_copy.PageCopy.{PageCopy}
use Rattle.page_cache.proofs.page_copies.add.Goals as goal

pub returns-in-Ok-clause-added : goal.returns-in-Ok-clause-added
returns-in-Ok-clause-added c k one has =
    elim (after_put c.args.pages.now c.put.result c.put.new.self c.args.n c.in-Ok.copy
    c.put.ensures.entries c.put.ensures.err k one has) [
      | inl old ↦ inl (old, none_apart c.args.pages.now.entries c.args.n c.requires.none k one old)
      | inr put ↦ inr (
        put.0,
        ap (λ (b : Box PageCopy). b.value.page) put.1
            ∙ ap (λ (copy : PageCopy). copy.page) c.in-Ok.ensures.ok,
      )
    ]

pub returns-in_default-clause-added : goal.returns-in_default-clause-added
returns-in_default-clause-added c k one has =
    inl (has, none_apart c.args.pages.now.entries c.args.n c.requires.none k one has)
