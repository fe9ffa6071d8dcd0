-- What images and stores stand for.
use Rattle.std.proofs.Common.{◌≡◌, ℕ, ◌+◌, ◌-◌, ◌<◌, ◌≤◌, ◌==◌, cond, List, ◌++◌, length, map, refl, sym, ap, ◌∙◌, subst, arith}
use Rattle.std.proofs.lemmas.Bool.Decides.{nat_tests}
use Rattle.std.proofs.lemmas.List.Sums.{sum_by-append}
use Rattle.dbm_model.specs.Pairs.{contents_of}
use Rattle.page_model.specs.Placement.{in_use}
use Rattle.page_model.specs.Space.{is_page, times_of}
use Rattle.page_model.specs.PageBodies.{page_bodies, IsSpelled}
use Rattle.page_model.specs.Reading.{body_of}
use Rattle.page_model.specs.Meaning.{said_by, flat_pairs}
use Rattle.page_model.proofs.Frames.{kept}
use Rattle.page_model.proofs.Flat.{numbers-page_bodies, flat_is_contents}
use Rattle.page_model.proofs.Meaning.{pages_one_meaning}
use Rattle.page_io.specs.Store.{blank, file_of, nothing, page_of, overlaid, committed_with}
use Rattle.page_io.specs.Counts.{length-pages_from}
use Rattle.page_io.specs.Meaning.{ImagesHaveOneMeaning, CommitsStand}
use Rattle.page_io.proofs.Overlays.{page_of-file}

pub one_meaning : ImagesHaveOneMeaning
one_meaning blank m n bounds other s t = absurd s
one_meaning (file_of pages) m n bounds other s t =
    pages_one_meaning (page_of pages) (length pages + 1) m n bounds other s t
one_meaning nothing m n bounds other s t = absurd s

-- a page of the file is from 1 to end - 1
is_within : (n end : ℕ) → 1 ≤ cond {A = ℕ} (is_page n end) 1 0 → (1 ≤ n) × (n < end)
is_within n end stands = (grind (arith, nat_tests), grind (arith, nat_tests))

pub commits : CommitsStand
commits pages staged p good spelled =
    let end = p.space.end in
    let page = overlaid staged (page_of pages) in
    let new = committed_with pages staged end in
    let some : 1 ≤ end = omega (arith, good.sound.pages.as_many) in
    let ends : end ≡ length new + 1 = omega (arith, some, length-pages_from page 1 (end - 1)) in
    let same : (n : ℕ) → 1 ≤ times_of n (map (λ numbered. numbered.number) (page_bodies p))
    → said_by (page_of new) n ≡ said_by page n = λ n stands.
    let counted : 1 ≤ times_of n (in_use p ++ p.space.free) =
    subst (λ (ns : List ℕ). 1 ≤ times_of n ns) (numbers-page_bodies p) stands in
    let within = is_within n end (omega (
      arith,
      counted,
      good.sound.pages.once n,
      sum_by-append (λ (m : ℕ). cond (m == n) 1 0) (in_use p) p.space.free,
    )) in
    ap (body_of n) (page_of-file page end n within.0 within.1) in
    let read : IsSpelled (said_by (page_of new)) p =
    kept (said_by page) (said_by (page_of new)) (page_bodies p) same spelled in
    record {
      placement = p;
      good = good;
      spelled = read;
      ends = ends;
      bounded = refl;
      holds = ap (λ (k : ℕ). contents_of (flat_pairs (said_by (page_of new)) k)) (sym ends)
          ∙ flat_is_contents p (said_by (page_of new)) good read;
    }
