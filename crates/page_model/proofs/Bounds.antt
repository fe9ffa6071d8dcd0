-- How many pages are in use, and where the file ends.
use Rattle.std.proofs.Common.{◌≡◌, ℕ, zero, suc, Bool, ◌+◌, ◌*◌, ◌∙◌, subst, ◌^◌, ◌<◌, ◌≤◌, true, false, cond, List, [], ◌∷◌, ◌++◌, length, drop, ltb, flat_map, fold, get_or, refl, set, sym, ap, arith, length-set, length-append}
use Rattle.std.specs.List.{AllByRecursion}
use Rattle.std.proofs.lemmas.Bool.{ltb-true, ltb-false}
use Rattle.std.proofs.Math.Pow.{pow_mono}
use Rattle.dbm_model.specs.Bounds.{Version, V1, V2}
use Rattle.dbm_model.specs.Pairs.{is_far, IsAllowed}
use Rattle.page_model.specs.Chain.{Entry, Chain, pages_long, numbers, entries_in, leaf_pairs, pairs_in, pages_of, pages_in, has_room, IsEntry, IsChain}
use Rattle.page_model.specs.Space.{Space, next_page, after_take, after_takes, give, IsExact}
use Rattle.dbm_model.specs.Sizes.{buckets_for, pages_for, home}
use Rattle.page_model.specs.Placement.{Placement, pairs_of, in_use, key_bucket, chain_at, put_entry, IsSoundBeside, IsSound, begins_segment, extended, split}
use Rattle.page_model.specs.PlacementLaws.{LevelIsLow}
use Rattle.std.proofs.lemmas.Bool.{leb-true}
use Rattle.std.proofs.lemmas.List.{length-map}
use Rattle.std.proofs.lemmas.List.Sums.{sum_by-cons}
use Rattle.page_model.proofs.Chains.{near_if, pairs_of_entries, AllByRecursion-left, AllByRecursion-right}
use Rattle.page_model.proofs.PairLists.{length-sum_by}
use Rattle.page_model.proofs.Spaces.{IsExact-take}
use Rattle.page_model.proofs.Places.{sum_by-put}
use Rattle.page_model.proofs.Splits.{CanFill, can_fill_rest, can_fill_extended, headed_pages, sum_by-extended}

-- each overflow page has a pair
full_leaves : (leaves : Chain) → AllByRecursion (λ leaf. 0 < length leaf.entries) leaves
    → length (numbers leaves) ≤ length (pairs_in leaves)
full_leaves [] h = omega arith
full_leaves (leaf ∷ rest) h = let here = h.0 in let there = full_leaves rest h.1 in let all =
    length-append (leaf_pairs leaf) (pairs_in rest) in
    let same = length-map leaf.entries (λ e. e.pair) in omega arith

pages_of_chain : (chain : Chain) → IsChain chain
    → length (numbers chain) ≤ 1 + length (pairs_in chain)
pages_of_chain [] h = absurd h
pages_of_chain (head ∷ overflow) h = let rest = full_leaves overflow h.2 in let all =
    length-append (leaf_pairs head) (pairs_in overflow) in omega arith

-- the content pages of a pair
few_content_pages : (version : Version) (e : Entry) → IsEntry version e
    → length e.pages + 1 ≤ pages_for version
few_content_pages version e is = by_far (is_far e.pair) refl
  where
    many : (v : Version) → 1 ≤ pages_for v
    many V1 = omega arith
    many V2 = omega arith

    long : (v : Version) → IsAllowed v e.pair → is_far e.pair ≡ true
        → pages_long (length e.pair.1) + 1 ≤ pages_for v
    long V1 allowed far = absurd (let less = leb-true _ 2026 allowed in
        let more = ltb-true 2026 _ far in omega arith)
    long V2 allowed far = let few = near_if V2 e.pair allowed far in omega arith

    by_far : (b : Bool) → is_far e.pair ≡ b → length e.pages + 1 ≤ pages_for version
    by_far false near = let none = is.paged
        ∙ ap (λ b. cond b (pages_long (length e.pair.1)) 0) near in
        let some = many version in omega arith
    by_far true far = let all = is.paged
        ∙ ap (λ b. cond b (pages_long (length e.pair.1)) 0) far in
        let few = long version is.allowed far in omega arith

contents_below : (version : Version) (entries : List Entry)
    → AllByRecursion (IsEntry version) entries
    → length (pages_of entries) + length entries ≤ pages_for version * length entries
contents_below V1 [] h = omega arith
contents_below V2 [] h = omega arith
contents_below V1 (e ∷ entries) h =
    let here = few_content_pages V1 e h.0 in
    let rest = contents_below V1 entries h.1 in
    let all = length-append e.pages (pages_of entries) in omega arith
contents_below V2 (e ∷ entries) h =
    let here = few_content_pages V2 e h.0 in
    let rest = contents_below V2 entries h.1 in
    let all = length-append e.pages (pages_of entries) in omega arith

one_chain_more : (version : Version) (ns cs es ps rest chains pairs : ℕ) → ns ≤ 1 + ps → es ≡ ps
    → cs + es ≤ pages_for version * es → rest ≤ chains + pages_for version * pairs
    → ns + cs + rest ≤ suc chains + pages_for version * (ps + pairs)
one_chain_more V1 ns cs es ps rest chains pairs a b c d = omega arith
one_chain_more V2 ns cs es ps rest chains pairs a b c d = omega arith

pages_of_chains : (version : Version) (chains : List Chain)
    → ((j : ℕ) → j < length chains → IsChain (get_or chains j []))
    → AllByRecursion (IsEntry version) (flat_map entries_in chains)
    → length (flat_map pages_in chains)
    ≤ length chains + pages_for version * length (flat_map pairs_in chains)
pages_of_chains V1 [] h k = omega arith
pages_of_chains V2 [] h k = omega arith
pages_of_chains version (chain ∷ rest) h k =
    let here = pages_of_chain chain (h 0 (omega arith)) in
    let there = pages_of_chains version rest (λ j l. h (suc j) (omega arith))
    (AllByRecursion-right (IsEntry version) (entries_in chain) (flat_map entries_in rest) k) in
    let held = contents_below version (entries_in chain)
    (AllByRecursion-left (IsEntry version) (entries_in chain) (flat_map entries_in rest) k) in
    let a = length-append (pages_in chain) (flat_map pages_in rest) in
    let b = length-append (pairs_in chain) (flat_map pairs_in rest) in
    let c = length-append (numbers chain) (pages_of (entries_in chain)) in
    let d = ap length (pairs_of_entries chain) ∙ length-map (entries_in chain) (λ e. e.pair) in
    let all = one_chain_more version (length (numbers chain)) (length (pages_of (entries_in chain)))
    (length (entries_in chain)) (length (pairs_in chain)) (length (flat_map pages_in rest))
    (length rest) (length (flat_map pairs_in rest)) here (sym d) held there in
    subst (λ n. length (flat_map pages_in (chain ∷ rest)) ≤ length (chain ∷ rest)
    + pages_for version * n) (sym b) (omega (arith, a, c, all))

two_parts : (version : Version) (a b limit : ℕ) → a + b ≤ limit
    → pages_for version * a + pages_for version * b ≤ pages_for version * limit
two_parts V1 a b limit h = omega arith
two_parts V2 a b limit h = omega arith

-- what is in use and held by these is below the home of the bounds
pub in_use_beside : (held : List ℕ) (p : Placement) → IsSoundBeside held p → (entries : List Entry)
    → AllByRecursion (IsEntry p.bounds.version) entries → (limit : ℕ)
    → length p.chains ≤ buckets_for limit → length (pairs_of p) + length entries ≤ limit
    → length (pages_of entries ++ in_use p) + 1
    ≤ home (record { limit = limit; version = p.bounds.version })
in_use_beside held p h entries all limit few small =
    let a = pages_of_chains p.bounds.version p.chains (λ j l. (h.in_place j l).0) h.entered in
    let b = length-append (1 ∷ p.segments) (flat_map pages_in p.chains) in
    let c = h.all_segments in
    let d = two_parts p.bounds.version (length (pairs_of p)) (length entries) limit small in
    let e = contents_below p.bounds.version entries all in
    let g = length-append (pages_of entries) (in_use p) in
    omega arith

-- what is in use is below it
pub in_use_below : (p : Placement) → IsSound p → (limit : ℕ) → length p.chains ≤ buckets_for limit
    → length (pairs_of p) ≤ limit
    → length (in_use p) + 1 ≤ home (record { limit = limit; version = p.bounds.version })
in_use_below p h limit few small = in_use_beside [] p h [] tt limit few (omega arith)

-- a page is taken at the end only where no page is free
pub end_after_take : (ys : List ℕ) (s : Space) (bound : ℕ) → IsExact ys (after_take s)
    → s.end ≤ bound → length ys + 1 ≤ bound → (after_take s).end ≤ bound
end_after_take ys s bound h l m = by_free s.free s.end h l where
  by_free : (free : List ℕ) (end : ℕ) → IsExact ys (after_take (record { free = free; end = end }))
      → end ≤ bound → (after_take (record { free = free; end = end })).end ≤ bound
  by_free [] end h l = let a = h.as_many in omega arith
  by_free (n ∷ rest) end h l = l

pub end_after_put : (p : Placement) (e : Entry) (rest : List ℕ) (bound : ℕ)
    → IsSoundBeside rest (put_entry p e)
    → p.space.end ≤ bound → length (rest ++ in_use (put_entry p e)) + 1 ≤ bound
    → (put_entry p e).space.end ≤ bound
end_after_put p e rest bound h l m =
    elim (has_room e (chain_at p (key_bucket p.shape e.pair.0))) as
    (λ b. IsExact (rest ++ in_use (put_entry p e)) (cond b p.space (after_take p.space))
    → (cond b p.space (after_take p.space)).end ≤ bound) [
      | true ↦ λ is. l
      | false ↦ λ is. end_after_take (rest ++ in_use (put_entry p e)) p.space bound is l m
    ] h.pages

-- so many pages are taken
pub end_after_takes : (k : ℕ) (xs : List ℕ) (s : Space) (bound : ℕ) → IsExact xs s → s.end ≤ bound
    → length xs + k + 1 ≤ bound → (after_takes k s).end ≤ bound
end_after_takes zero xs s bound h l m = l
end_after_takes (suc k) xs s bound h l m =
    let taken = IsExact-take xs (next_page s ∷ xs) s
    (λ f. let a = sum_by-cons f (next_page s) xs in omega arith) h in
    end_after_takes k (next_page s ∷ xs) (after_take s) bound taken
    (end_after_take (next_page s ∷ xs) s bound taken l (omega arith)) (omega arith)

pub length-put : (held : List ℕ) (p : Placement) → IsSoundBeside held p → (e : Entry)
    → length (pairs_of (put_entry p e)) ≡ length (pairs_of p) + 1
length-put held p h e = length-sum_by (pairs_of (put_entry p e)) ∙ sum_by-put held p h e (λ _. 1)
    ∙ ap (λ n. n + 1) (sym (length-sum_by (pairs_of p)))

pub end_filled : (entries : List Entry) (p : Placement) (limit : ℕ) → CanFill p entries
    → length (pairs_of p) + length entries ≤ limit → length p.chains ≤ buckets_for limit
    → p.space.end ≤ home (record { limit = limit; version = p.bounds.version })
    → (fold put_entry p entries).space.end
    ≤ home (record { limit = limit; version = p.bounds.version })
end_filled [] p limit h few small l = l
end_filled (x ∷ entries) p limit h few small l =
    let next = can_fill_rest x entries p h in
    let many = length-put (pages_of (x ∷ entries)) p h.sound x in
    let same : length (put_entry p x).chains ≡ length p.chains = length-set p.chains _ _ in
    end_filled entries (put_entry p x) limit next (omega arith) (omega arith)
    (end_after_put p x (pages_of entries)
    (home (record { limit = limit; version = p.bounds.version })) next.sound l
    (in_use_beside (pages_of entries) (put_entry p x) next.sound entries next.small limit
    (omega arith) (omega arith)))

pub end_extended : (p : Placement) → IsSound p → (limit : ℕ) → length p.chains + 1 ≤ buckets_for limit
    → length (pairs_of p) ≤ limit
    → p.space.end ≤ home (record { limit = limit; version = p.bounds.version })
    → (extended p).space.end ≤ home (record { limit = limit; version = p.bounds.version })
end_extended p h limit few small l =
    let chain = chain_at p p.shape.split in
    let held = pages_of (entries_in chain) in
    let bound = home (record { limit = limit; version = p.bounds.version }) in
    let given = give (drop 1 (numbers chain)) p.space in
    let can = can_fill_extended p h in
    let sums = sum_by-extended p h (λ _. 1) in
    let a = length-sum_by (pairs_of (extended p)) in
    let b = length-sum_by (pairs_of p) in
    let b' = length-sum_by (pairs_in chain) in
    let b'' = ap length (pairs_of_entries chain) ∙ length-map (entries_in chain) (λ e. e.pair) in
    let chains : length (extended p).chains ≡ length p.chains + 1 =
    length-append (set p.chains p.shape.split _) _
    ∙ ap (λ n. n + 1) (length-set p.chains p.shape.split _) in
    let room = in_use_beside held (extended p) can.sound (entries_in chain) can.small limit
    (omega arith) (omega arith) in
    let more = length-append p.segments
    (cond (begins_segment p) (next_page (after_take given) ∷ []) []) in
    let c = length-append (1 ∷ p.segments) (flat_map pages_in (extended p).chains) in
    let d = length-append (1 ∷ (extended p).segments) (flat_map pages_in (extended p).chains) in
    let e = length-append held (1 ∷ p.segments ++ flat_map pages_in (extended p).chains) in
    let g = length-append held (in_use (extended p)) in
    let headed : (after_take given).end ≤ bound =
    end_after_take (held ++ (1 ∷ p.segments ++ flat_map pages_in (extended p).chains)) given bound
    (headed_pages p h) l (omega arith) in
    elim (begins_segment p) as (λ b.
    IsExact (held ++ in_use (extended p)) (cond b (after_take (after_take given)) (after_take given))
    → (cond b (after_take (after_take given)) (after_take given)).end ≤ bound) [
      | true ↦ λ e. end_after_take (held ++ in_use (extended p)) (after_take given) bound e headed room
      | false ↦ λ e. headed
    ] can.sound.pages

pub end_split : (p : Placement) → IsSound p → (limit : ℕ) → length p.chains + 1 ≤ buckets_for limit
    → length (pairs_of p) ≤ limit
    → p.space.end ≤ home (record { limit = limit; version = p.bounds.version })
    → (split p).space.end ≤ home (record { limit = limit; version = p.bounds.version })
end_split p h limit few small l =
    let chain = chain_at p p.shape.split in
    let sums = sum_by-extended p h (λ _. 1) in
    let a = length-sum_by (pairs_of (extended p)) in
    let b = length-sum_by (pairs_of p) in
    let c = length-sum_by (pairs_in chain) in
    let d = ap length (pairs_of_entries chain) ∙ length-map (entries_in chain) (λ e. e.pair) in
    let chains : length (extended p).chains ≡ length p.chains + 1 =
    length-append (set p.chains p.shape.split _) _
    ∙ ap (λ n. n + 1) (length-set p.chains p.shape.split _) in
    end_filled (entries_in chain) (extended p) limit (can_fill_extended p h) (omega arith) (omega arith)
    (end_extended p h limit few small l)

-- the limit bounds the level
pub level_low : LevelIsLow
level_low p h =
    elim (ltb 16 p.shape.level) as (λ t. ltb 16 p.shape.level ≡ t → p.shape.level ≤ 16) [
      | true ↦ λ t. absurd (let more : 17 ≤ p.shape.level =
          (let l = ltb-true _ _ t in omega arith) in let a : 2 ^ 17 ≤ 2 ^ p.shape.level =
          pow_mono more in
          let b = h.few_buckets in let c = h.sound.all_buckets in let d =
          h.limited.1 in omega arith)
      | false ↦ λ t. (let l = ltb-false _ _ t in omega arith)
    ] refl
