use Rattle.std.proofs.Common.{◌≡◌, List, ℕ, ◌+◌, ◌*◌, get_or, sym, subst, ap, ◌∙◌, rules, arith}
use Rattle.std.proofs.lemmas.Bool.Decides.{nat_tests}
use Rattle.page_model.specs.Numbers.{IsNumber}
use Rattle.page_model.specs.Reading.{next_of, IsClear}
use Rattle.page_io.specs.Plain.{HasPlainHeader}
use Rattle.seg_table.specs.MetaPages.{model_meta}
use Rattle.seg_table.specs.Segments.{heads_in}
use Rattle.seg_table.proofs.Segments.{segment_found, segment_again}
use Rattle.seg_table.proofs.segment.segment_ok.Goals as goal
use Rattle.seg_table.proofs.segment.segment_ok.Goals.{then-is_plain, else-is_plain}

pub returns-then-next-eq0 : goal.returns-then-next-eq0
returns-then-next-eq0 c = elim c.if-is_plain.branch [
  | then-is_plain w ↦
      let bytes = c.args.page.now.bytes in
      let count = heads_in (model_meta c.args.meta.now) c.args.s in
      let own : get_or c.deref.result.now c.args.s 0
      ≡ get_or c.args.meta.now.segments.items c.args.s 0 =
      ap (λ (ns : List ℕ). get_or ns c.args.s 0) c.deref.ensures.0 in
      let small : IsNumber (get_or c.deref.result.now c.args.s 0) = search rules in
      let next : next_of bytes ≡ 0 = grind (arith, nat_tests) in (
        λ clear. segment_found bytes _ count c.args.page.now.whole c.is_plain.ensures.bytes
            (omega arith) record {
              header = subst (λ (n : ℕ). HasPlainHeader bytes n 2) own
                  (c.is_plain.ensures.plain.0 (cc));
              no_next = next;
              rest = subst (λ (n : ℕ). IsClear bytes (16 + 4 * n) 2048) c.heads_of.ensures
                  (c.is_clear.ensures.0 clear);
            },
        λ is. c.is_clear.ensures.1 (subst (λ (n : ℕ). IsClear bytes (16 + 4 * n) 2048)
            (sym c.heads_of.ensures) (segment_again bytes _ count (subst IsNumber own small)
            (omega arith) is).rest),
      )
  | else-is_plain w ↦ absurd cc
]

pub returns-else-next-eq0 : goal.returns-else-next-eq0
returns-else-next-eq0 c = (
  λ e. absurd cc,
  λ is.
      let bytes = c.args.page.now.bytes in
      let own : get_or c.deref.result.now c.args.s 0
      ≡ get_or c.args.meta.now.segments.items c.args.s 0 =
      ap (λ (ns : List ℕ). get_or ns c.args.s 0) c.deref.ensures.0 in
      let small : IsNumber (get_or c.deref.result.now c.args.s 0) = search rules in
      let page = segment_again bytes _ (heads_in (model_meta c.args.meta.now) c.args.s)
      (subst IsNumber own small) (omega arith) is in
      elim c.if-is_plain.branch [
        | then-is_plain w ↦ let next : w.next.result ≡ 0 = w.next.ensures ∙ page.no_next in
            absurd (grind (arith, nat_tests))
        | else-is_plain w ↦ let yes =
            c.is_plain.ensures.plain.1 (subst (λ (n : ℕ). HasPlainHeader bytes n 2) (sym own)
            page.header) in absurd cc
      ],
)
