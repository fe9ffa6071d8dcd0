use Rattle.std.proofs.Common.{◌≡◌, true, refl, sym, ◌∙◌, Result, Ok, Err, is_ok}
use Rattle.std.specs.Prelude.{IfOk}
use Rattle.std.specs.Result.{IsOkAnd}
use Rattle.std.proofs.lemmas.Bool.{eqb-true}
use Rattle.dbm_salvage.proofs.PageKinds.{meta_read, meta_reads}
use Rattle.dbm_salvage.proofs.looks.is_meta.Goals as goal

-- what holds of a value, where there is one
of_ok : {T E Q : Type 0} (P : T → Type 0) (r : Result T E) → is_ok r ≡ true → IfOk r P
    → ((x : T) → P x → Q) → Q
of_ok P (Ok x) is p next = next x p
of_ok P (Err e) is p next = cc

some_ok : {T E : Type 0} (P : T → Type 0) (r : Result T E) → IsOkAnd r P → is_ok r ≡ true
some_ok P (Ok x) told = refl
some_ok P (Err e) told = absurd told

pub returns-then-n-eq1 : goal.returns-then-n-eq1
returns-then-n-eq1 c =
    let bytes = c.args.page.now.bytes in (
      λ yes. of_ok _ c.read_meta.result (sym c.is_ok.ensures.value ∙ yes) c.read_meta.ensures.found
          (λ m told. meta_reads c.args.n bytes _ c.if-n-eq1.true told.0 told.1),
      λ reads. let is = meta_read c.args.n bytes reads c.requires in
          c.is_ok.ensures.value
          ∙ some_ok _ c.read_meta.result (c.read_meta.ensures.only is.meta is.sound is.spelled),
    )

pub returns-else-n-eq1 : goal.returns-else-n-eq1
returns-else-n-eq1 c = (
  λ yes. absurd (c.if-n-eq1.false (eqb-true c.args.n 1 yes)),
  λ reads. absurd (c.if-n-eq1.false (meta_read c.args.n c.args.page.now.bytes reads c.requires).one),
)
