use Rattle.std.proofs.Common.{rules, ◌≡◌, ℕ, List, length, ◌∷◌, ◌++◌, [], append_assoc, set, take, drop, true, false, sym, ◌∙◌, ap, subst}
use Rattle.std.proofs.lemmas.List.{length-set}
use Rattle.std.specs.Prelude.{IsFalse}
use Rattle.std.specs.List.{insert_slice}
use Rattle.smallvec.proofs.SmallVecLemmas.{items-with_items}
use Rattle.page_io.specs.Page.{own_number}
use Rattle.page_io.specs.Store.{Pages, bytes_of, put_page, has_page, are_in_order}
use Rattle.page_io.specs.declared.page.Page.{Page}
use Rattle.page_io.proofs.Exits.{at_error}
use Rattle.page_io.proofs.Places.{IsPlace, IsThere, replaced_at, inserted_at, absent_at}
use Rattle.page_io.proofs.StagedPages.{order_put}
use Rattle.page_io.proofs.staged.put_staged.Goals as goal

pub returns-then-is_at-clause-ok : goal.returns-then-is_at-clause-ok
returns-then-is_at-clause-ok c =
    let at = c.place_of-at.result in
    let page = c.args.page.now in
    let place = subst (IsPlace c.as_slice-pages.result.now at) c.own-own.ensures.number
    c.place_of-at.ensures in
    let is = subst (λ (n : ℕ). IsThere c.as_slice-pages.result.now at n c.is_at.result)
    c.own-own.ensures.number c.is_at.ensures in
    let here = is.yes c.if-is_at.true in
    let written = set c.deref_mut.result.now at page in
    let long : length written ≡ length c.args.staged.now.items =
    length-set c.deref_mut.result.now at page ∙ ap (λ (ps : List Page). length ps)
    c.deref_mut.ensures.value in
    ap bytes_of (items-with_items c.args.staged.now written long)
    ∙ ap (λ (ps : List Page). bytes_of (set ps at page)) c.deref_mut.ensures.value
    ∙ subst (λ (ps : List Page). bytes_of (set ps at page) ≡ put_page (bytes_of ps) page.bytes)
    c.as_slice-pages.ensures
    (replaced_at c.as_slice-pages.result.now at page place.within place.before here.0 here.1)

pub returns-then-is_at-clause-order : goal.returns-then-is_at-clause-order
returns-then-is_at-clause-order c =
    subst (λ (ps : Pages). are_in_order 1 4294967296 ps ≡ true)
    (sym (returns-then-is_at-clause-ok c))
    (order_put 1 4294967296 (bytes_of c.args.staged.now.items) c.args.page.now.bytes
    c.requires.order c.requires.number.0 c.requires.number.1)

pub returns-clause-ok : goal.returns-clause-ok
returns-clause-ok c =
    let at = c.place_of-at.result in
    let page = c.args.page.now in
    let place = subst (IsPlace c.as_slice-pages.result.now at) c.own-own.ensures.number
    c.place_of-at.ensures in
    let is = subst (λ (n : ℕ). IsThere c.as_slice-pages.result.now at n c.is_at.result)
    c.own-own.ensures.number c.is_at.ensures in
    let other : IsFalse c.is_at.result = cc in
    ap bytes_of (c.in_ok-insert_from_slice.ensures.ok
    ∙ ap (insert_slice c.args.staged.now.items at) c.from_ref.ensures.value
    ∙ append_assoc (take at c.args.staged.now.items) (page ∷ []) (drop at c.args.staged.now.items))
    ∙ subst (λ (ps : List Page). bytes_of (take at ps ++ page ∷ drop at ps)
    ≡ put_page (bytes_of ps) page.bytes) c.as_slice-pages.ensures
    (inserted_at c.as_slice-pages.result.now at page place.within place.before place.after
    (is.no other))

pub returns-clause-order : goal.returns-clause-order
returns-clause-order c =
    subst (λ (ps : Pages). are_in_order 1 4294967296 ps ≡ true) (sym (returns-clause-ok c))
    (order_put 1 4294967296 (bytes_of c.args.staged.now.items) c.args.page.now.bytes
    c.requires.order c.requires.number.0 c.requires.number.1)

pub returns-in_err-insert_from_slice-clause-grown : goal.returns-in_err-insert_from_slice-clause-grown
returns-in_err-insert_from_slice-clause-grown c =
    let at = c.place_of-at.result in
    let page = c.args.page.now in
    let place = subst (IsPlace c.as_slice-pages.result.now at) c.own-own.ensures.number
    c.place_of-at.ensures in
    let is = subst (λ (n : ℕ). IsThere c.as_slice-pages.result.now at n c.is_at.result)
    c.own-own.ensures.number c.is_at.ensures in
    let absent = λ (order : are_in_order 1 4294967296 (bytes_of c.as_slice-pages.result.now) ≡ true).
    absent_at c.as_slice-pages.result.now at page place.within place.before
    place.after (is.no c.if-is_at.false) 1 4294967296 order in
    at_error c.from_residual.result _
    (subst (λ (ps : List Page). are_in_order 1 4294967296 (bytes_of ps) ≡ true
    → has_page (bytes_of ps) (own_number page.bytes) ≡ false)
    c.as_slice-pages.ensures absent c.requires.order)

pub returns-in_err-insert_from_slice-clause-full : goal.returns-in_err-insert_from_slice-clause-full
returns-in_err-insert_from_slice-clause-full c = at_error c.from_residual.result _ (search rules)
