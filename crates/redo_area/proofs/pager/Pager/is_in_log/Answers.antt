use Rattle.std.proofs.Common.{◌≡◌, inr, Bool, true, Option, Some, None, is_some, refl, sym, ◌∙◌}
use Rattle.redo_area.specs.declared.header.CommitKind.TheVariants.{Images, Log}
use Rattle.redo_area.proofs.SectorRanges.{logging_kind}
use Rattle.redo_area.proofs.pager.Pager.is_in_log.Goals as goal

-- where there is something
some_of : {T P : Type 0} (answer : Option T) {b : Bool} → b ≡ is_some answer → b ≡ true
    → ((x : T) → answer ≡ Some x → P) → P
some_of (Some x) is holds then = then x refl
some_of None is holds then = absurd (let same = sym is ∙ holds in cc)

images_apart : Images ≡ Log → ⊥
images_apart is = cc

pub returns : goal.returns
returns g c = record {
  log = λ holds honest usable writable.
      some_of c.args.self.now.area.log c.is_some.ensures holds
      (λ log is.
      let waits = (c.args.self.now.settles honest usable).waits writable in
      let header = (waits.logs log is).header in
      record {
        stable = waits.stable;
        header = inr (record { start = c.args.self.now.area.start; header = header });
        images = λ kind. absurd (images_apart (sym kind ∙ logging_kind _ _ _ header));
      });
}
