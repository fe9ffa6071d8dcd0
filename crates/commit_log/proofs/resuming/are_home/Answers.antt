use Rattle.std.proofs.Common.{◌≡◌, ◌≤◌, ◌↔◌, ◌+◌, ◌*◌, ℕ, List, Bool, true, false, not, eqb, inl, inr, refl, sym, ◌∙◌, ap, subst, arith}
use Rattle.std.proofs.lemmas.Bool.{cases_eq, cases_Bool, false≢true}
use Rattle.std.proofs.lemmas.Bool.Decides.{Decides-eqb}
use Rattle.std.proofs.lemmas.Slice.Eq.{slice_eq-Decides}
use Rattle.std.specs.Cmp.Lexicographic.{pointwise}
use Rattle.sect_dev.specs.Device.{Image}
use Rattle.sect_dev.specs.Reads.{OnlyReads}
use Rattle.page_io.specs.Page.{page_at, own_number}
use Rattle.page_io.specs.Store.{bytes_of}
use Rattle.page_io.specs.declared.page.Page.{Page}
use Rattle.page_io.proofs.Exits.{both_ways}
use Rattle.commit_log.proofs.OwnPages.{own_at, passed_same, passed_other, replaced}
use Rattle.commit_log.proofs.ReadRuns.{none_yet, one_more}
use Rattle.commit_log.proofs.resuming.are_home.Goals as goal
use Rattle.commit_log.proofs.resuming.are_home.Goals.{then-not-is_among+in_ok-read_page+else-ne, else-not-is_among}

-- bytes that don't differ
same_bytes : (xs ys : List ℕ) (differ : Bool) → differ ≡ not (pointwise eqb xs ys)
    → differ ≡ false → xs ≡ ys
same_bytes xs ys differ is same_is = elim (cases_Bool (pointwise eqb xs ys)) [
  | inl same ↦ (slice_eq-Decides Decides-eqb xs ys (pointwise eqb xs ys) refl).0 same
  | inr other ↦ absurd (false≢true (sym same_is ∙ is ∙ ap not other))
]

pub loop-page-init : goal.loop-page-init
loop-page-init g c =
    let first = c.args.dev.now in
    record {
      size = refl;
      honesty = (λ h. h, λ h. h);
      faults = omega arith;
      only_reads = λ h. none_yet g.D.SectorDev first
          (λ image left. g.met.D.SectorDev.only_now first image h left);
      home = λ h n none. refl;
    }

pub read_page-requires : goal.read_page-requires
read_page-requires g c =
    let sectors = g.D.SectorDev.sectors c.args.dev.now in
    let fits : 4 * c.own-own.result + 4 ≤ sectors =
    subst (λ (k : ℕ). 4 * k + 4 ≤ sectors)
    (own_at c.args.pages.now c.loop-page.page-index c.page-item.result c.own-own.result
    c.loop-page-test.true c.page-item.is c.own-own.ensures.number)
    (c.requires.room c.loop-page.page-index c.loop-page-test.true) in
    omega (arith, fits, c.loop-page.invariant.size)

pub loop-page-preserved : goal.loop-page-preserved
loop-page-preserved g c =
    let dev = g.D.SectorDev in
    let first = c.args.dev.now in
    let pages = c.args.pages.now in
    let idx = c.loop-page.page-index in
    let page = c.page-item.result in
    let inv = c.loop-page.invariant in
    let owns = c.own-own.ensures.number in
    elim c.if-not-is_among.branch [
      | then-not-is_among+in_ok-read_page+else-ne w ↦
          let told = w.read_page.ensures in
          record {
            size = ap dev.sectors w.dev-is ∙ told.device.size ∙ inv.size;
            honesty = subst (λ d. dev.honest d ↔ dev.honest first) (sym w.dev-is)
                (both_ways told.device.honesty inv.honesty);
            faults = omega (arith, inv.faults, told.device.cause.later, ap dev.faults w.dev-is);
            only_reads = λ h.
                let h1 = inv.honesty.1 h in
                subst (OnlyReads dev first) (sym w.dev-is)
                (one_more dev first c.loop-page.dev w.read_page.new.dev (inv.only_reads h)
                (told.seen h1) (told.candidates h1) (told.keeps h1) told.still
                (told.any_moment h1));
            home = λ h n none.
                let h1 = inv.honesty.1 h in
                elim (cases_eq (own_number page.bytes) n) [
                  | inl same ↦ passed_same pages idx page (page_at (dev.seen first)) n
                      c.loop-page-test.true c.page-item.is same
                      ∙ sym (same_bytes w.read_page.new.page.bytes page.bytes w.ne.result w.ne.ensures
                      w.if-ne.false)
                      ∙ w.in_ok-read_page.ensures.read h1
                      ∙ ap (λ (s : Image). page_at s c.own-own.result) (inv.only_reads h).seen
                      ∙ ap (page_at (dev.seen first)) (owns ∙ same)
                  | inr other ↦ passed_other pages idx page (page_at (dev.seen first)) n
                      c.loop-page-test.true c.page-item.is other ∙ inv.home h n none
                ];
          }
      | else-not-is_among w ↦ record {
        size = ap dev.sectors w.dev-is ∙ inv.size;
        honesty = subst (λ d. dev.honest d ↔ dev.honest first) (sym w.dev-is) inv.honesty;
        faults = omega (arith, inv.faults, ap dev.faults w.dev-is);
        only_reads = λ h. subst (OnlyReads dev first) (sym w.dev-is) (inv.only_reads h);
        home = λ h n none. passed_other pages idx page (page_at (dev.seen first)) n
            c.loop-page-test.true c.page-item.is
            (λ same. replaced (bytes_of c.args.newer.now) c.own-own.result n
            (sym c.is_among.ensures ∙ w.if-not-is_among.false) none (owns ∙ same))
            ∙ inv.home h n none;
      }
    ]
