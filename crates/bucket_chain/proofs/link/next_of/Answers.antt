use Rattle.std.proofs.Common.{◌≡◌, ◌<◌, sym, ap, ◌∙◌, arith, Some}
use Rattle.page_model.specs.Reading.{slot_count}
use Rattle.bucket_chain.proofs.Headers.{header_of, link_is}
use Rattle.bucket_chain.proofs.link.next_of.Goals as goal
use Rattle.bucket_chain.proofs.link.next_of.Goals.{then-own-n-via-then-own-n, then-own-n-via-else-own-n+then-kind, else-kind-eq-OVERFLOW-via-then-kind-eq-OVERFLOW+else-is_empty, else-kind-eq-OVERFLOW-via-else-kind-eq-OVERFLOW}

pub returns-then-own-n-clause-every : goal.returns-then-own-n-clause-every
returns-then-own-n-clause-every c next records link =
    let header = header_of _ c.args.page.now.bytes c.args.n c.args.kind next records link in
    elim c.then-own-n.branch [
      | then-own-n-via-then-own-n w ↦ absurd (w.if-own-n.true (c.own.ensures.field ∙ header.own))
      | then-own-n-via-else-own-n+then-kind w ↦
          absurd (w.if-kind.true (w.kind.ensures ∙ header.kind_of))
    ]

pub returns-then-is_empty-clause-every : goal.returns-then-is_empty-clause-every
returns-then-is_empty-clause-every c next records link =
    let some = (header_of _ c.args.page.now.bytes c.args.n c.args.kind next records link).filled
    c.if-kind-eq-OVERFLOW.true in
    absurd (omega (arith, some))

pub returns-clause-sound : goal.returns-clause-sound
returns-clause-sound c =
    let bytes = c.args.page.now.bytes in
    let some : c.args.kind ≡ 4 → 0 < slot_count bytes = elim c.else-kind-eq-OVERFLOW.branch [
      | else-kind-eq-OVERFLOW-via-then-kind-eq-OVERFLOW+else-is_empty w ↦ λ e. omega arith
      | else-kind-eq-OVERFLOW-via-else-kind-eq-OVERFLOW w ↦ λ e.
          absurd (w.if-kind-eq-OVERFLOW.false e)
    ] in
    link_is _ bytes c.args.n c.args.kind c.next.result
    c.requires (sym c.own.ensures.field ∙ c.if-own-n.false) (sym c.kind.ensures ∙ c.if-kind.false)
    (sym c.next.ensures) some

pub returns-clause-every : goal.returns-clause-every
returns-clause-every c next records link =
    ap Some (c.next.ensures ∙ (header_of _ c.args.page.now.bytes c.args.n c.args.kind next
    records link).next_of)
