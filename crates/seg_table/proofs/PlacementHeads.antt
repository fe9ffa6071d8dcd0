-- The heads of a good placement.
use Rattle.std.proofs.Common.{◌≡◌, ℕ, ◌<◌, ◌≤◌, ◌==◌, ◌^◌, cond, List, [], ◌∷◌, ◌++◌, length, flat_map, ◌∙◌, arith}
use Rattle.std.specs.Prelude.{All}
use Rattle.std.specs.List.{AllByRecursion}
use Rattle.std.proofs.lemmas.Bool.Decides.{nat_tests}
use Rattle.std.proofs.lemmas.List.{length-map, get_or-map}
use Rattle.std.proofs.lemmas.List.Elements.{All-from_recursion}
use Rattle.std.proofs.lemmas.List.Sums.{sum_by-append, sum_by-cons}
use Rattle.page_model.specs.Numbers.{IsNumber}
use Rattle.page_model.specs.Pages.{Body, NumberedBody}
use Rattle.page_model.specs.Chain.{Chain, numbers, pages_in}
use Rattle.page_model.specs.Space.{is_page, times_of}
use Rattle.page_model.specs.Placement.{Placement, IsSound}
use Rattle.page_model.specs.PageBodies.{first_of, heads_of, chain_bodies, free_bodies, segment_bodies, lower_bodies, AreRead}
use Rattle.page_model.proofs.Chains.{AllByRecursion-left}
use Rattle.page_model.proofs.Spaces.{times_head, times_tail}
use Rattle.seg_table.specs.Placements.{HasHeads, PlacementsHaveHeads}

-- a page of the file is from 1 to end - 1
is_within : (n end : ℕ) → 1 ≤ cond {A = ℕ} (is_page n end) 1 0 → (1 ≤ n) × (n < end)
is_within n end stands = (grind (arith, nat_tests), grind (arith, nat_tests))

-- pages that stand in a file are numbers above 0
are_used : (pages : List ℕ) (end : ℕ) → end ≤ 2 ^ 32
    → ((n : ℕ) → times_of n pages ≤ cond {A = ℕ} (is_page n end) 1 0)
    → AllByRecursion (λ n. (0 < n) × IsNumber n) pages
are_used [] end small within = tt
are_used (n ∷ rest) end small within =
    let here = is_within n end (omega (arith, within n, times_head n rest)) in (
      (omega (arith, here.0), omega (arith, here.1, small)),
      are_used rest end small (λ m. omega (arith, within m, times_tail m n rest)),
    )

-- where the numbers of the segment pages are such numbers
pub heads_read : (at : ℕ → Body) (p : Placement) → IsSound p
    → All (λ n. (0 < n) × IsNumber n) p.segments → AreRead at (lower_bodies p) → HasHeads at p
heads_read at p sound used read =
    let s = segment_bodies p.segments (heads_of p.chains) in
    let P : NumberedBody → Type 0 = λ numbered. at numbered.number ≡ numbered.body in
    let upper = AllByRecursion-left P (s ++ flat_map chain_bodies p.chains)
    (free_bodies p.space.free) read in
    let head : Chain → ℕ = λ chain. first_of (numbers chain) in
    let many : length (heads_of p.chains) ≡ length p.chains = length-map p.chains head in
    record {
      heads_are = record {
        are_read =
            AllByRecursion-left P s (flat_map chain_bodies p.chains) upper;
        many =
            many ∙ sound.all_buckets;
        used = used;
      };
      room = omega (arith, many, sound.all_segments);
      each = λ bucket lt. get_or-map head p.chains bucket [] 0 lt;
    }

-- the segment pages of a sound placement stand in its file
pub used_segments : (p : Placement) → IsSound p → p.space.end ≤ 2 ^ 32
    → All (λ n. (0 < n) × IsNumber n) p.segments
used_segments p sound small =
    let within : (n : ℕ) → times_of n p.segments ≤ cond {A = ℕ} (is_page n p.space.end) 1 0 = λ n.
    let one : ℕ → ℕ = λ m. cond (m == n) 1 0 in
    omega (
      arith,
      sound.pages.once n,
      sum_by-cons one 1 (p.segments ++ flat_map pages_in p.chains),
      sum_by-append one p.segments (flat_map pages_in p.chains),
    ) in
    All-from_recursion (λ n. (0 < n) × IsNumber n) p.segments
    (are_used p.segments p.space.end small within)

pub placements_heads : PlacementsHaveHeads
placements_heads at p sound small read = heads_read at p sound (used_segments p sound small) read
