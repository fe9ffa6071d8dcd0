use Rattle.std.proofs.Common.{◌≡◌, ◌∙◌, ◌/◌, ◌%◌, ℕ, List, get_or, ap, subst, sym, arith, rules}
use Rattle.page_model.specs.Numbers.{IsNumber}
use Rattle.page_model.specs.Reading.{body_of}
use Rattle.page_io.specs.Views.{visible_page, body_at}
use Rattle.seg_table.specs.Heads.{HasEntry}
use Rattle.seg_table.specs.MetaPages.{model_meta}
use Rattle.seg_table.specs.Segments.{heads_in, IsSpelledSegment}
use Rattle.seg_table.proofs.HeadReads.{entry_read, head_read}
use Rattle.seg_table.proofs.HeadTexts.{heads_spelled}
use Rattle.seg_table.proofs.table.lent_head.Given.{Over}
use Rattle.seg_table.proofs.table.lent_head.Goals as goal

-- the number by which it was asked for
own : (g : Over) (c : goal.After-head_in g) → get_or c.deref.result.now (c.args.bucket / 508) 0
    ≡ get_or c.args.meta.now.segments.items (c.args.bucket / 508) 0
own g c = ap (λ (xs : List ℕ). get_or xs (c.args.bucket / 508) 0) c.deref.ensures.0

-- it is what that page says
said : (g : Over) (c : goal.After-head_in g) → g.S.PageStore.honest c.args.store.now
    → body_at g.S.PageStore c.args.store.now
    (get_or c.args.meta.now.segments.items (c.args.bucket / 508) 0)
    ≡ body_of (get_or c.args.meta.now.segments.items (c.args.bucket / 508) 0)
    c.in_ok-lent.lent.page.now.bytes
said g c honest =
    ap (body_of (get_or c.args.meta.now.segments.items (c.args.bucket / 508) 0))
    (sym (c.in_ok-lent.ensures.found honest
    ∙ ap (visible_page g.S.PageStore c.args.store.now) (own g c)))

-- the page that is lent is the segment
spelled : (g : Over) (c : goal.After-head_in g)
    → IsSpelledSegment c.in_ok-lent.lent.page.now.bytes
    (get_or c.args.meta.now.segments.items (c.args.bucket / 508) 0)
spelled g c =
    let s = c.args.bucket / 508 in
    let n = get_or c.args.meta.now.segments.items s 0 in
    let small : IsNumber n = search rules in
    heads_spelled c.in_ok-lent.lent.page.now.bytes n (heads_in (model_meta c.args.meta.now) s)
    small (omega arith) (c.segment_ok.ensures.0 (cc))

pub returns-then-segment_ok-clause-entry : goal.returns-then-segment_ok-clause-entry
returns-then-segment_ok-clause-entry g c honest =
    let at = body_at g.S.PageStore c.args.store.now in
    let bytes = c.in_ok-lent.lent.page.now.bytes in
    let n = get_or c.args.meta.now.segments.items (c.args.bucket / 508) 0 in
    subst (HasEntry (at n) (c.args.bucket % 508)) (sym c.head_in.ensures)
    (entry_read at c.args.meta.now.segments.items c.args.bucket bytes
    c.in_ok-lent.lent.page.now.whole (spelled g c)
    (said g c honest))

pub returns-then-segment_ok-clause-exact : goal.returns-then-segment_ok-clause-exact
returns-then-segment_ok-clause-exact g c honest heads are lt =
    let bytes = c.in_ok-lent.lent.page.now.bytes in
    let n = get_or c.args.meta.now.segments.items (c.args.bucket / 508) 0 in
    c.head_in.ensures
    ∙ head_read (body_at g.S.PageStore c.args.store.now) c.args.meta.now.segments.items
    c.args.bucket bytes c.in_ok-lent.lent.page.now.whole (spelled g c)
    (said g c honest) heads are.are_read c.requires
