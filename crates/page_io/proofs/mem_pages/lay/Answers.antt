use Rattle.std.proofs.Common.{◌≡◌, ◌≢◌, ◌<◌, ◌≤◌, ◌+◌, ◌-◌, ℕ, List, [], length, get_or, set, take, inl, inr, sym, ◌∙◌, ap, arith, get_or-set_same, get_or-set_other}
use Rattle.std.proofs.lemmas.List.{map-set, length-map, length-set}
use Rattle.std.proofs.lemmas.Bool.{cases_eq}
use Rattle.page_io.specs.Page.{own_number}
use Rattle.page_io.specs.Store.{Pages, bytes_of, overlaid, page_of, with_page}
use Rattle.page_io.proofs.Overlays.{with_page-same, with_page-other, overlaid-push}
use Rattle.page_io.proofs.PageLists.{bytes_more, bytes_at}
use Rattle.page_io.specs.declared.page.Page.{Page}
use Rattle.page_io.proofs.mem_pages.lay.Goals as goal

-- a page of the pages after a write
at_set : (pages : List Page) (own n : ℕ) (page : Page) → 1 ≤ own → own ≤ length pages → 1 ≤ n
    → own ≡ n → page_of (bytes_of (set pages (own - 1) page)) n ≡ page.bytes
at_set pages own n page low high ge same =
    let place : n - 1 ≡ own - 1 = omega arith in
    let lt : own - 1 < length (bytes_of pages) =
    omega (arith, length-map pages (λ (p : Page). p.bytes)) in
    ap (λ (ps : Pages). get_or ps (n - 1) []) (map-set (λ (p : Page). p.bytes) pages (own - 1) page)
    ∙ ap (λ (k : ℕ). get_or (set (bytes_of pages) (own - 1) page.bytes) k []) place
    ∙ (rw get_or-set_same)

beside_set : (pages : List Page) (own n : ℕ) (page : Page) → 1 ≤ own → 1 ≤ n → own ≢ n
    → page_of (bytes_of (set pages (own - 1) page)) n ≡ page_of (bytes_of pages) n
beside_set pages own n page low ge other =
    let ne : n - 1 ≢ own - 1 = λ same. other (omega (arith, same)) in
    ap (λ (ps : Pages). get_or ps (n - 1) []) (map-set (λ (p : Page). p.bytes) pages (own - 1) page)
    ∙ (rw get_or-set_other)

pub overflow_sub-at : goal.overflow_sub-at
overflow_sub-at c =
    let num : own_number (get_or (bytes_of c.args.staged.now) c.loop-one.one-index [])
    ≡ c.own.result =
    ap own_number (bytes_at c.args.staged.now c.loop-one.one-index c.one-item.result
    c.loop-one-test.true c.one-item.is) ∙ sym c.own.ensures.number in
    let low = (c.requires c.loop-one.one-index c.loop-one-test.true).0 in
    omega (arith, num, low)

pub index_mut-requires : goal.index_mut-requires
index_mut-requires c =
    let num : own_number (get_or (bytes_of c.args.staged.now) c.loop-one.one-index [])
    ≡ c.own.result =
    ap own_number (bytes_at c.args.staged.now c.loop-one.one-index c.one-item.result
    c.loop-one-test.true c.one-item.is) ∙ sym c.own.ensures.number in
    let both = c.requires c.loop-one.one-index c.loop-one-test.true in
    omega (arith, num, both.0, both.1, c.loop-one.invariant.size)

pub loop-one-preserved : goal.loop-one-preserved
loop-one-preserved c =
    let idx = c.loop-one.one-index in
    let staged = c.args.staged.now in
    let pages = c.loop-one.pages.items in
    let one = c.one-item.result in
    let own = c.own.result in
    let inv = c.loop-one.invariant in
    let num : own_number (get_or (bytes_of staged) idx []) ≡ own =
    ap own_number (bytes_at staged idx one c.loop-one-test.true c.one-item.is)
    ∙ sym c.own.ensures.number in
    let both = c.requires idx c.loop-one-test.true in
    let low : 1 ≤ own = omega (arith, num, both.0) in
    let high : own ≤ length pages = omega (arith, num, both.1, inv.size) in
    record {
      size = length-set pages (own - 1) one ∙ inv.size;
      laid = λ n ge le.
          let home = page_of (bytes_of c.args.pages.now.items) in
          let so_far = overlaid (bytes_of (take idx staged)) home in
          let more : overlaid (bytes_of (take (idx + 1) staged)) home n
          ≡ with_page so_far one.bytes n =
          ap (λ (ps : Pages). overlaid ps home n)
          (bytes_more staged idx one c.loop-one-test.true c.one-item.is)
          ∙ ap (λ (f : ℕ → List ℕ). f n)
          (overlaid-push (bytes_of (take idx staged)) home one.bytes) in
          elim (cases_eq own n) [
            | inl same ↦ at_set pages own n one low high ge same
                ∙ sym (with_page-same so_far one.bytes n (sym c.own.ensures.number ∙ same))
                ∙ sym more
            | inr other ↦ beside_set pages own n one low ge other ∙ inv.laid n ge le
                ∙ sym (with_page-other so_far one.bytes n (λ e. other (c.own.ensures.number ∙ e)))
                ∙ sym more
          ];
    }
