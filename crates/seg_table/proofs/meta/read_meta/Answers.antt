use Rattle.std.proofs.Common.{◌≡◌, ℕ, refl, sym, ap, subst, ◌∙◌}
use Rattle.dbm_model.specs.Bounds.{version_number}
use Rattle.page_model.specs.Reading.{version_of}
use Rattle.page_model.specs.Spelling.{meta_spelling}
use Rattle.page_model.specs.Valid.{IsMeta}
use Rattle.page_model.proofs.Metas.{fields_again}
use Rattle.page_io.specs.Versions.{model_version}
use Rattle.seg_table.specs.MetaPages.{model_meta}
use Rattle.seg_table.proofs.Metas.{told_version, told_known, IsMetaPage, meta_found, none_spelled, none_said, fields_said}
use Rattle.seg_table.proofs.meta.read_meta.Goals as goal
use Rattle.seg_table.proofs.meta.read_meta.Goals.{Joined-then-not-is_plain, then-not-is_plain-via-then-not-is_plain, then-not-is_plain-via-else-not-is_plain+then-next-ne0, In_default, In_default-meta_of, in_default-meta_of-via-in-Some-meta_of+else-is_sound, in_default-meta_of-via-in_default-meta_of}

-- the header is another one
not_headed : (c : Joined-then-not-is_plain) → IsMetaPage c.args.page.now.bytes → ⊥
not_headed c p = elim c.then-not-is_plain.branch [
  | then-not-is_plain-via-then-not-is_plain w ↦ let yes =
      c.is_plain.ensures.plain.1 p.headed.header in absurd cc
  | then-not-is_plain-via-else-not-is_plain+then-next-ne0 w ↦
      w.if-next-ne0.true (w.next.ensures ∙ p.headed.no_next)
]

pub returns-then-not-is_plain-clause-only : goal.returns-then-not-is_plain-clause-only
returns-then-not-is_plain-clause-only c = none_spelled c.args.page.now.bytes (not_headed c)

pub returns-then-not-is_plain-clause-body : goal.returns-then-not-is_plain-clause-body
returns-then-not-is_plain-clause-body c = none_said c.args.page.now.bytes (not_headed c)

-- no version has the number
not_versed : (c : In_default) → IsMetaPage c.args.page.now.bytes → ⊥
not_versed c p = told_known c.u32_at.result
    (subst (λ (n : ℕ). version_number (version_of n) ≡ n) (sym c.u32_at.ensures) p.version)
    c.in_default.ensures.none

pub returns-in_default-clause-only : goal.returns-in_default-clause-only
returns-in_default-clause-only c = none_spelled c.args.page.now.bytes (not_versed c)

pub returns-in_default-clause-body : goal.returns-in_default-clause-body
returns-in_default-clause-body c = none_said c.args.page.now.bytes (not_versed c)

pub returns-in-Some-meta_of-clause-found : goal.returns-in-Some-meta_of-clause-found
returns-in-Some-meta_of-clause-found c =
    let bytes = c.args.page.now.bytes in
    let m = model_meta c.in-Some-meta_of.meta in
    let is : IsMeta m = c.is_sound.ensures.0 (cc) in
    let page : IsMetaPage bytes = record {
      headed = record {
        header = c.is_plain.ensures.plain.0 (cc);
        no_next =
            sym c.next.ensures ∙ c.if-next-ne0.false;
      };
      version = subst (λ (n : ℕ). version_number (version_of n) ≡ n) c.u32_at.ensures
          (ap version_number (sym (told_version (model_version c.in-Some.version) _
          c.in-Some.ensures.told)) ∙ c.in-Some.ensures.told);
      laid = c.in-Some-meta_of.ensures.only.0 refl;
      sound = subst IsMeta c.in-Some-meta_of.ensures.found is;
    } in (
      is,
      meta_found bytes c.args.page.now.whole c.is_plain.ensures.bytes page
          ∙ ap (meta_spelling 1) (sym c.in-Some-meta_of.ensures.found),
    )

pub returns-in-Some-meta_of-clause-only : goal.returns-in-Some-meta_of-clause-only
returns-in-Some-meta_of-clause-only c = λ m h e.
    c.in-Some-meta_of.ensures.found ∙ fields_again c.args.page.now.bytes m h e

pub returns-in-Some-meta_of-clause-body : goal.returns-in-Some-meta_of-clause-body
returns-in-Some-meta_of-clause-body c = let found = returns-in-Some-meta_of-clause-found c in
    fields_said c.args.page.now.bytes (model_meta c.in-Some-meta_of.meta) found.0 found.1

-- it is laid out otherwise, or says what no meta page may
not_sound : (c : In_default-meta_of) → IsMetaPage c.args.page.now.bytes → ⊥
not_sound c p = elim c.in_default-meta_of.branch [
  | in_default-meta_of-via-in-Some-meta_of+else-is_sound w ↦ let yes =
      w.is_sound.ensures.1 (subst IsMeta (sym w.in-Some-meta_of.ensures.found) p.sound) in absurd cc
  | in_default-meta_of-via-in_default-meta_of w ↦ let some = w.in_default-meta_of.ensures.only.1 p.laid in absurd cc
]

pub returns-in_default-meta_of-clause-only : goal.returns-in_default-meta_of-clause-only
returns-in_default-meta_of-clause-only c = none_spelled c.args.page.now.bytes (not_sound c)

pub returns-in_default-meta_of-clause-body : goal.returns-in_default-meta_of-clause-body
returns-in_default-meta_of-clause-body c = none_said c.args.page.now.bytes (not_sound c)
