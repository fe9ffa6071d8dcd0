use Rattle.std.proofs.Common.{◌∷◌, [], ℕ, List, sym, subst}
use Rattle.file_check.specs.Marks.{AreMarked, MayBeSeen}
use Rattle.file_check.proofs.file.mark_tables.Goals as goal

pub returns-then-mark-clause-marked : goal.returns-then-mark-clause-marked
returns-then-mark-clause-marked g c is =
    subst (λ (ns : List ℕ). AreMarked c.mark_all.new.marks c.args.end (1 ∷ ns)) c.deref.ensures.0
    (c.mark_all.ensures.marked (1 ∷ [])
    (c.mark.ensures.marked [] c.requires.none c.if-mark.true) is)

pub returns-then-mark-clause-may_be : goal.returns-then-mark-clause-may_be
returns-then-mark-clause-may_be g c =
    let both = c.mark_all.ensures.may_be (1 ∷ [])
    (c.mark.ensures.marked [] c.requires.none c.if-mark.true) in
    let same = c.deref.ensures.0 in (
      λ is. subst (λ (ns : List ℕ). MayBeSeen c.args.end (1 ∷ ns)) same (both.0 is),
      λ may. both.1 (subst (λ (ns : List ℕ). MayBeSeen c.args.end (1 ∷ ns)) (sym same) may),
    )
