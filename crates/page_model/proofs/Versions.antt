-- A placement in version 2, and pages of a version.
use Rattle.std.proofs.Common.{◌≡◌, ℕ, ◌≤◌, List, [], ◌∷◌, ◌++◌, length, map, drop, flat_map, refl, ◌∙◌, arith}
use Rattle.std.specs.List.{AllByRecursion}
use Rattle.std.proofs.lemmas.Bool.{leb-true, ltb-true}
use Rattle.dbm_model.specs.Bounds.{Version, V1, V2}
use Rattle.page_model.specs.Chain.{Entry, Chain, record_with, record_of, entries_in, IsEntry}
use Rattle.page_model.specs.Valid.{IsOf, IsBodyOf}
use Rattle.page_model.specs.Placement.{raised}
use Rattle.page_model.specs.PageBodies.{overflow_bodies, leaf_bodies, content_bodies, entry_bodies, chain_bodies, segment_bodies, free_bodies, heads_of}
use Rattle.page_model.specs.BodyLaws.{RaisedRewrites, BodiesAreOfVersion}
use Rattle.page_model.proofs.Chains.{AllByRecursion-append, AllByRecursion-left, AllByRecursion-right}
use Rattle.page_model.proofs.Flat.{flat_is_contents}
use Rattle.page_model.proofs.GoodBodies.{far_pages}
use Rattle.page_model.proofs.Extensions.{meta_rewrites}
use Rattle.page_model.proofs.Stores.{raised_is_good}

pub raised_rewrites : RaisedRewrites
raised_rewrites p at at' g spelled r =
    let good = raised_is_good p g in
    let now = meta_rewrites (raised p) at at' good.0.sound spelled.1 r in
    record {
      placement = raised p;
      good = good.0;
      spelled = now;
      ends = refl;
      bounded = refl;
      holds = flat_is_contents (raised p) at' good.0 now ∙ good.1;
    }

-- no pair of version 1 has content pages
record_of_version : (version : Version) (e : Entry) (pages : List ℕ) → length e.pages ≡ length pages
    → IsEntry version e → IsOf version (record_with e.pair pages)
record_of_version V2 e pages same is = tt
record_of_version V1 e [] same is = refl
record_of_version V1 e (n ∷ rest) same is =
    absurd (let far = far_pages V1 e is (omega arith) in
    let less = leb-true _ 2026 is.allowed in let more = ltb-true 2026 _ far in omega arith)

pub records_of_version : (version : Version) (es : List Entry) → AllByRecursion (IsEntry version) es
    → AllByRecursion (IsOf version) (map record_of es)
records_of_version version [] h = tt
records_of_version version (e ∷ es) h =
    (record_of_version version e e.pages refl h.0, records_of_version version es h.1)

content_of_version : (version : Version) (e : Entry) (pages content : List ℕ)
    → length pages ≤ length e.pages → IsEntry version e
    → AllByRecursion (λ numbered. IsBodyOf version numbered.body) (content_bodies pages content)
content_of_version version e [] content few is = tt
content_of_version V2 e (n ∷ rest) content few is =
    (refl, content_of_version V2 e rest (drop 2032 content) (omega arith) is)
content_of_version V1 e (n ∷ rest) content few is =
    absurd (let far = far_pages V1 e is (omega arith) in
    let less = leb-true _ 2026 is.allowed in let more = ltb-true 2026 _ far in omega arith)

contents_of_version : (version : Version) (es : List Entry) → AllByRecursion (IsEntry version) es
    → AllByRecursion (λ numbered. IsBodyOf version numbered.body) (flat_map entry_bodies es)
contents_of_version version [] h = tt
contents_of_version version (e ∷ es) h =
    AllByRecursion-append (λ numbered. IsBodyOf version numbered.body) (entry_bodies e)
    (flat_map entry_bodies es)
    (content_of_version version e e.pages e.pair.1 (omega arith) h.0)
    (contents_of_version version es h.1)

overflow_of_version : (version : Version) (rest : Chain)
    → AllByRecursion (IsEntry version) (entries_in rest)
    → AllByRecursion (λ numbered. IsBodyOf version numbered.body) (overflow_bodies rest)
overflow_of_version version [] h = tt
overflow_of_version version (leaf ∷ rest) h = (
  records_of_version version leaf.entries
      (AllByRecursion-left (IsEntry version) leaf.entries (entries_in rest) h),
  overflow_of_version version rest
      (AllByRecursion-right (IsEntry version) leaf.entries (entries_in rest) h),
)

leaves_of_version : (version : Version) (chain : Chain)
    → AllByRecursion (IsEntry version) (entries_in chain)
    → AllByRecursion (λ numbered. IsBodyOf version numbered.body) (leaf_bodies chain)
leaves_of_version version [] h = tt
leaves_of_version version (head ∷ rest) h = (
  records_of_version version head.entries
      (AllByRecursion-left (IsEntry version) head.entries (entries_in rest) h),
  overflow_of_version version rest
      (AllByRecursion-right (IsEntry version) head.entries (entries_in rest) h),
)

chains_of_version : (version : Version) (chains : List Chain)
    → AllByRecursion (IsEntry version) (flat_map entries_in chains)
    → AllByRecursion (λ numbered. IsBodyOf version numbered.body) (flat_map chain_bodies chains)
chains_of_version version [] h = tt
chains_of_version version (chain ∷ rest) h =
    let here = AllByRecursion-left (IsEntry version) (entries_in chain) (flat_map entries_in rest) h in
    AllByRecursion-append (λ numbered. IsBodyOf version numbered.body) (chain_bodies chain)
    (flat_map chain_bodies rest)
    (AllByRecursion-append (λ numbered. IsBodyOf version numbered.body) (leaf_bodies chain)
    (flat_map entry_bodies (entries_in chain)) (leaves_of_version version chain here)
    (contents_of_version version (entries_in chain) here))
    (chains_of_version version rest
    (AllByRecursion-right (IsEntry version) (entries_in chain) (flat_map entries_in rest) h))

segments_of_version : (version : Version) (segments heads : List ℕ)
    → AllByRecursion (λ numbered. IsBodyOf version numbered.body) (segment_bodies segments heads)
segments_of_version version [] heads = tt
segments_of_version version (n ∷ rest) heads = (tt, segments_of_version version rest (drop 508 heads))

free_of_version : (version : Version) (free : List ℕ)
    → AllByRecursion (λ numbered. IsBodyOf version numbered.body) (free_bodies free)
free_of_version version [] = tt
free_of_version version (n ∷ rest) = (tt, free_of_version version rest)

pub bodies_of_version : BodiesAreOfVersion
bodies_of_version p g =
    let version = p.bounds.version in
    let s = segment_bodies p.segments (heads_of p.chains) in (
      refl,
      AllByRecursion-append (λ numbered. IsBodyOf version numbered.body)
          (s ++ flat_map chain_bodies p.chains) (free_bodies p.space.free)
          (AllByRecursion-append (λ numbered. IsBodyOf version numbered.body) s
          (flat_map chain_bodies p.chains)
          (segments_of_version version p.segments (heads_of p.chains))
          (chains_of_version version p.chains g.sound.entered))
          (free_of_version version p.space.free),
    )
