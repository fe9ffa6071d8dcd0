-- The chains of a sound placement.
use Rattle.std.proofs.Common.{◌≡◌, ℕ, zero, suc, ◌<◌, ◌==◌, flat_map, get_or, sum_by, ◌≤◌, inl, inr, cond, List, [], ◌∷◌, ◌++◌, length, map, refl, sym, ap, subst, arith}
use Rattle.std.specs.List.{AllByRecursion}
use Rattle.std.proofs.lemmas.Bool.{cases_eq}
use Rattle.std.proofs.lemmas.Bool.Decides.{nat_tests}
use Rattle.std.proofs.lemmas.List.{length-append, length-map}
use Rattle.std.proofs.lemmas.List.Sums.{sum_by-append}
use Rattle.dbm_model.specs.Pairs.{Pair}
use Rattle.page_model.specs.PairLists.{has_key, times}
use Rattle.page_model.proofs.Chains.{AllByRecursion-left, AllByRecursion-right}
use Rattle.page_model.proofs.GoodBodies.{IsPageNumber, from_times}
use Rattle.free_pages.specs.FreeList.{IsApart}
use Rattle.bucket_chain.proofs.LeavesSound.{leaves_sound}
use Rattle.bucket_chain.proofs.FewPages.{few_apart}
use Rattle.content_pages.proofs.PageCounts.{times_both, times_other}
use Rattle.page_model.specs.Pages.{Body, NumberedBody}
use Rattle.page_model.specs.Address.{hash_of}
use Rattle.page_model.specs.Chain.{Chain, Leaf, numbers, entries_in, pairs_in, pages_of, pages_in, has_room, add, IsEntry}
use Rattle.page_model.specs.Space.{next_page, after_take, is_page, times_of}
use Rattle.page_model.specs.Placement.{chain_at, key_bucket}
use Rattle.page_model.specs.PageBodies.{chain_bodies, free_bodies, segment_bodies, heads_of, AreRead}
use Rattle.page_model.proofs.AddressLemmas.{address_below}
use Rattle.page_model.proofs.Frames.{rewritten, held_stay, first_of_add, put_rewrites, delete_rewrites}
use Rattle.page_model.proofs.Places.{delete_sound}
use Rattle.page_model.proofs.Spaces.{times_head, times_tail}
use Rattle.bucket_chain.specs.Placements.{ChainsArePlaced, EntriesArePlacements, PutsArePlacements, RemovalsArePlacements}

-- a sum over one of many lists
one_part : {X Y : Type 0} (f : Y → ℕ) (g : X → List Y) (xs : List X) (i : ℕ) (d : X)
    → i < length xs
    → sum_by f (g (get_or xs i d)) ≤ sum_by f (flat_map g xs)
one_part f g [] i d lt = absurd (omega (arith, lt))
one_part f g (x ∷ xs) zero d lt = omega (arith, sum_by-append f (g x) (flat_map g xs))
one_part f g (x ∷ xs) (suc i) d lt =
    omega (arith, sum_by-append f (g x) (flat_map g xs), one_part f g xs i d (omega (arith, lt)))

-- what holds of all of many lists holds of one
one_all : {X Y : Type 0} (P : Y → Type 0) (g : X → List Y) (xs : List X) (i : ℕ) (d : X)
    → i < length xs → AllByRecursion P (flat_map g xs) → AllByRecursion P (g (get_or xs i d))
one_all P g [] i d lt all = absurd (omega (arith, lt))
one_all P g (x ∷ xs) zero d lt all = AllByRecursion-left P (g x) (flat_map g xs) all
one_all P g (x ∷ xs) (suc i) d lt all =
    one_all P g xs i d (omega (arith, lt)) (AllByRecursion-right P (g x) (flat_map g xs) all)

page_some : (n end : ℕ) → 1 ≤ cond {A = ℕ} (is_page n end) 1 0 → 1 ≤ n
page_some n end stands = grind (arith, nat_tests)

-- pages that stand in the file are none of page 0
some_numbers : (chain : Chain) (end : ℕ)
    → ((n : ℕ) → times_of n (numbers chain) ≤ cond {A = ℕ} (is_page n end) 1 0)
    → AllByRecursion (λ leaf. 1 ≤ leaf.number) chain
some_numbers [] end within = tt
some_numbers (leaf ∷ rest) end within = (
  page_some leaf.number end (omega
      (arith, within leaf.number, times_head leaf.number (numbers rest))),
  some_numbers rest end (λ n. omega (arith, within n, times_tail n leaf.number (numbers rest))),
)

in_file : (n end : ℕ) → 1 ≤ cond {A = ℕ} (is_page n end) 1 0 → (1 ≤ n) × (n < end)
in_file n end stands = grind (arith, nat_tests)

pub chains_placed : ChainsArePlaced
chains_placed at state held p bucket sound small below lt =
    let chain = chain_at p bucket in
    let s = segment_bodies p.segments (heads_of p.chains) in
    let P : NumberedBody → Type 0 = λ numbered. at numbered.number ≡ numbered.body in
    let upper = AllByRecursion-left P (s ++ flat_map chain_bodies p.chains)
    (free_bodies p.space.free) below.are_read in
    let chains = AllByRecursion-right P s (flat_map chain_bodies p.chains) upper in
    let apart : IsApart (pages_in chain) p.space = λ n.
    let one : ℕ → ℕ = λ m. cond (m == n) 1 0 in
    omega (
      arith,
      sound.pages.once n,
      sum_by-append one held (1 ∷ p.segments ++ flat_map pages_in p.chains),
      sum_by-append one (1 ∷ p.segments) (flat_map pages_in p.chains),
      one_part one pages_in p.chains bucket [] lt,
    ) in
    let some : 1 ≤ p.space.end = omega (arith, sound.pages.as_many) in
    let fits = few_apart (pages_in chain) p.space apart some in
    let within : (n : ℕ) → times_of n (numbers chain) ≤ cond {A = ℕ} (is_page n p.space.end) 1 0 =
    λ n. omega (arith, apart n, times_both n (numbers chain) (pages_of (entries_in chain))) in
    let once : (key : List ℕ) → times key (pairs_in chain) ≤ 1 = λ key.
    omega (
      arith,
      sound.no_key_twice key,
      one_part (λ (q : Pair). cond (has_key key q) 1 0) pairs_in p.chains bucket [] lt,
    ) in
    let entered = one_all (IsEntry p.bounds.version) entries_in p.chains bucket [] lt
    sound.entered in
    let pages = from_times IsPageNumber (pages_of (entries_in chain)) (λ n stands.
    let range = in_file n p.space.end (omega (
      arith,
      stands,
      apart n,
      times_both n (numbers chain) (pages_of (entries_in chain)),
    )) in (omega (arith, range.0), omega (arith, range.1, small))) in
    record {
      chain_is = record {
        are_read = one_all P chain_bodies p.chains bucket [] lt chains;
        is_chain = (sound.in_place bucket lt).0;
        from = refl;
        few = omega (
          arith,
          fits,
          length-append (numbers chain) (pages_of (entries_in chain)),
          length-map chain (λ (l : Leaf). l.number),
        );
        numbered = some_numbers chain p.space.end within;
        entered = entered;
        sound = leaves_sound p.bounds.version chain entered pages once;
      };
      free_is = record {
        kept = below.kept;
        are_read = AllByRecursion-right P (s ++ flat_map chain_bodies p.chains)
            (free_bodies p.space.free) below.are_read;
        some = some;
      };
      apart = apart;
      fits = fits;
    }

-- what pages say, whatever that is
bodies_at : (ℕ → Body) → List ℕ → List NumberedBody
bodies_at at [] = []
bodies_at at (n ∷ ns) = record { number = n; body = at n } ∷ bodies_at at ns

numbers_at : (at : ℕ → Body) (ns : List ℕ)
    → map (λ (b : NumberedBody). b.number) (bodies_at at ns) ≡ ns
unfolding bodies_at
numbers_at at [] = refl
numbers_at at (n ∷ ns) = ap (λ (ms : List ℕ). n ∷ ms) (numbers_at at ns)

read_at : (at : ℕ → Body) (ns : List ℕ) → AreRead at (bodies_at at ns)
unfolding bodies_at
read_at at [] = tt
read_at at (n ∷ ns) = (refl, read_at at ns)

same_at : (at at' : ℕ → Body) (ns : List ℕ) → AreRead at' (bodies_at at ns)
    → AllByRecursion (λ n. at' n ≡ at n) ns
unfolding bodies_at
same_at at at' [] read = tt
same_at at at' (n ∷ ns) read = (read.0, same_at at at' ns read.1)

pub entries_placements : EntriesArePlacements
entries_placements at at' state state' held p e sound sound' below read becomes =
    let bucket = key_bucket p.shape e.pair.0 in
    let chain = chain_at p bucket in
    let within : bucket < length p.chains =
    (let l = address_below p.shape (hash_of e.pair.0) sound.split_in in let m = sound.all_buckets
    in
    omega arith) in
    let space = cond (has_room e chain) p.space (after_take p.space) in
    let same = first_of_add e (next_page p.space) chain (sound.in_place bucket within).0 in (
      record {
        are_read = rewritten p at at' bucket (add e (next_page p.space) chain) space held within
            sound'.pages same below.are_read becomes.rewritten;
        kept = becomes.kept;
      },
      λ n stands. all_there (λ (m : ℕ). at' m ≡ at m) held
          (same_at at at' held (held_stay p at at' bucket (add e (next_page p.space) chain) space
          held within sound'.pages same (bodies_at at held) (numbers_at at held) (read_at at held)
          becomes.rewritten)) n stands,
    )
  where
    all_there : (P : ℕ → Type 0) (ns : List ℕ) → AllByRecursion P ns → (n : ℕ)
        → 1 ≤ times_of n ns → P n
    all_there P [] all n stands = absurd (omega (arith, stands))
    all_there P (m ∷ ns) all n stands = elim (cases_eq m n) [
      | inl is ↦ subst P is all.0
      | inr other ↦ all_there P ns all.1 n (omega (
        arith,
        stands,
        times_both n (m ∷ []) ns,
        times_other n m (λ e. other (sym e)),
      ))
    ]

pub puts_placements : PutsArePlacements
puts_placements at at' state state' p pair sound sound' below becomes = record {
  are_read = put_rewrites p at at' pair sound sound' below.are_read becomes.rewritten;
  kept = becomes.kept;
}

pub removals_placements : RemovalsArePlacements
removals_placements at at' state state' p key sound below becomes = record {
  are_read = delete_rewrites p at at' key sound (delete_sound [] p sound key) below.are_read
      becomes.rewritten;
  kept = becomes.kept;
}
