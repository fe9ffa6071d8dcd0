-- A change of one chain and the free list leaves each other page.
use Rattle.std.proofs.Common.{◌≡◌, ℕ, zero, suc, ◌+◌, ◌<◌, ◌≤◌, ◌==◌, Bool, true, false, cond, List, [], ◌∷◌, ◌++◌, length, map, flat_map, set, refl, sym, ap, ◌∙◌, subst, arith}
use Rattle.std.specs.List.{AllByRecursion}
use Rattle.std.proofs.lemmas.List.{map-set, set-get_or}
use Rattle.std.proofs.lemmas.List.Sums.{sum_by-append, sum_by-cons}
use Rattle.dbm_model.specs.Pairs.{Key, contents_of}
use Rattle.page_model.specs.Address.{hash_of}
use Rattle.page_model.specs.Chain.{Entry, Chain, numbers, pages_of, pages_in, has_room, add, remove, freed, IsChain}
use Rattle.page_model.specs.Space.{Space, next_page, after_take, give, is_page, times_of, IsExact}
use Rattle.page_model.specs.Placement.{Placement, key_bucket, chain_at, entry_for, with_content, IsSound}
use Rattle.page_model.specs.Pages.{Body, NumberedBody}
use Rattle.page_model.specs.PageBodies.{first_of, entry_bodies, chain_bodies, free_bodies, segment_bodies, heads_of, lower_bodies, AreRead}
use Rattle.page_model.specs.Rewrites.{IsRewritten}
use Rattle.page_model.specs.Meaning.{flat_pairs}
use Rattle.page_model.specs.BodyLaws.{OneMap, PutEntryRewrites, PutRewrites, DeleteRewrites}
use Rattle.page_model.proofs.AddressLemmas.{address_below}
use Rattle.page_model.proofs.PairLists.{sum_by-flat_map-set}
use Rattle.page_model.proofs.Spaces.{times_head, times_tail}
use Rattle.page_model.proofs.Chains.{AllByRecursion-append, AllByRecursion-left, AllByRecursion-right, numbers-add}
use Rattle.page_model.proofs.Flat.{numbers-entries, numbers-chain_bodies, numbers-chains, numbers-segments, flat_is_contents}

pub one_map : OneMap
one_map p q at h k s t e = sym (flat_is_contents p at h s)
    ∙ ap (λ end. contents_of (flat_pairs at end)) e ∙ flat_is_contents q at k t

-- pages that are as they were say what they said
pub kept : (at at' : ℕ → Body) (xs : List NumberedBody)
    → ((n : ℕ) → 1 ≤ times_of n (map (λ numbered. numbered.number) xs) → at' n ≡ at n)
    → AreRead at xs → AreRead at' xs
kept at at' [] same h = tt
kept at at' (x ∷ xs) same h = (
  same x.number (omega (arith, times_head x.number (map (λ numbered. numbered.number) xs))) ∙ h.0,
  kept at at' xs (λ n l. same n
      (omega (arith, times_tail n x.number (map (λ numbered. numbered.number) xs)))) h.1,
)

-- of many chains one is written
pub kept_chains : (at at' : ℕ → Body) (chains : List Chain) (i : ℕ) (chain : Chain)
    → i < length chains →
    ((n : ℕ) → 1 ≤ times_of n (flat_map pages_in (set chains i [])) → at' n ≡ at n)
    → AreRead at' (chain_bodies chain) →
    AreRead at (flat_map chain_bodies chains)
    → AreRead at' (flat_map chain_bodies (set chains i chain))
kept_chains at at' [] i chain l same new h = absurd (omega arith)
kept_chains at at' (x ∷ xs) zero chain l same new h =
    AllByRecursion-append (λ numbered. at' numbered.number ≡ numbered.body) (chain_bodies chain)
    (flat_map chain_bodies xs) new
    (kept at at' (flat_map chain_bodies xs)
    (λ n k. same n (subst (λ ns. 1 ≤ times_of n ns) (numbers-chains xs) k))
    (AllByRecursion-right (λ numbered. at numbered.number ≡ numbered.body) (chain_bodies x)
    (flat_map chain_bodies xs) h))
kept_chains at at' (x ∷ xs) (suc i) chain l same new h =
    let parts : (n : ℕ) → times_of n (flat_map pages_in (set (x ∷ xs) (suc i) []))
    ≡ times_of n (pages_in x) + times_of n (flat_map pages_in (set xs i []))
    = λ (n : ℕ). sum_by-append (λ m. cond (m == n) 1 0) (pages_in x)
    (flat_map pages_in (set xs i [])) in
    AllByRecursion-append (λ numbered. at' numbered.number ≡ numbered.body) (chain_bodies x)
    (flat_map chain_bodies (set xs i chain))
    (kept at at' (chain_bodies x)
    (λ n k. same n (let a = parts n in let b =
    subst (λ ns. 1 ≤ times_of n ns) (numbers-chain_bodies x) k in omega arith))
    (AllByRecursion-left (λ numbered. at numbered.number ≡ numbered.body) (chain_bodies x)
    (flat_map chain_bodies xs) h))
    (kept_chains at at' xs i chain (omega arith)
    (λ n k. same n (let a = parts n in omega arith)) new
    (AllByRecursion-right (λ numbered. at numbered.number ≡ numbered.body) (chain_bodies x)
    (flat_map chain_bodies xs) h))

pub at_most_one : (b : Bool) → cond b 1 0 ≤ 1
at_most_one true = omega arith
at_most_one false = omega arith

-- the change of one chain, for any chain and free list that keep each page in one place
module _ (p : Placement) (at at' : ℕ → Body) (bucket : ℕ) (chain : Chain) (space : Space)
    (held : List ℕ) (below : bucket < length p.chains)
    (pages : IsExact (held ++ (1 ∷ p.segments ++ flat_map pages_in (set p.chains bucket chain))) space)
    (same_head : first_of (numbers chain) ≡ first_of (numbers (chain_at p bucket))) where
  -- how often a page comes, by its places
  places : (n : ℕ) → times_of n p.segments + times_of n (flat_map pages_in (set p.chains bucket []))
      + (times_of n (pages_in chain) + times_of n space.free) + times_of n held ≤ 1
  places n =
      let f : ℕ → ℕ = λ m. cond (m == n) 1 0 in
      let a = pages.once n in
      let b = sum_by-append f (1 ∷ p.segments) (flat_map pages_in (set p.chains bucket chain)) in
      let c = sum_by-cons f 1 p.segments in
      let d = sum_by-flat_map-set f pages_in p.chains bucket chain [] below in
      let e = sum_by-flat_map-set f pages_in p.chains bucket [] [] below in
      let g = at_most_one (is_page n space.end) in
      let i = sum_by-append f held (1 ∷ p.segments ++ flat_map pages_in (set p.chains bucket chain)) in
      omega arith

  heads_stay : heads_of (set p.chains bucket chain) ≡ heads_of p.chains
  heads_stay =
      let head : Chain → ℕ = λ c. first_of (numbers c) in
      map-set head p.chains bucket chain ∙ ap (set (map head p.chains) bucket) same_head
      ∙ sym (map-set head p.chains bucket (chain_at p bucket))
      ∙ ap (map head) (set-get_or p.chains bucket [])

  -- what is held stays
  pub held_stay : (xs : List NumberedBody) → map (λ numbered. numbered.number) xs ≡ held
      → AreRead at xs → IsRewritten at at' chain space → AreRead at' xs
  held_stay xs are h r = kept at at' xs (λ n l. r.others n
      (let a = places n in let b = subst (λ ns. 1 ≤ times_of n ns) are l in omega arith)) h

  pub rewritten : AreRead at (lower_bodies p) → IsRewritten at at' chain space
      → AreRead at' (lower_bodies (record p { chains = set p.chains bucket chain; space = space }))
  rewritten h r =
      let s = segment_bodies p.segments (heads_of p.chains) in
      let old = flat_map chain_bodies p.chains in
      let P : NumberedBody → Type 0 = λ numbered. at numbered.number ≡ numbered.body in
      let Q : NumberedBody → Type 0 = λ numbered. at' numbered.number ≡ numbered.body in
      let upper = AllByRecursion-left P (s ++ old) (free_bodies p.space.free) h in
      let segments = kept at at' s (λ n k.
      r.others n (let a = places n in let b =
      subst (λ ns. 1 ≤ times_of n ns) (numbers-segments p.segments (heads_of p.chains))
      k in omega arith)) (AllByRecursion-left P s old upper) in
      let chains = kept_chains at at' p.chains bucket chain below
      (λ n k. r.others n (let a = places n in omega arith)) r.chain_read
      (AllByRecursion-right P s old upper) in
      AllByRecursion-append Q (segment_bodies p.segments (heads_of (set p.chains bucket chain))
      ++ flat_map chain_bodies (set p.chains bucket chain)) (free_bodies space.free)
      (AllByRecursion-append Q (segment_bodies p.segments (heads_of (set p.chains bucket chain)))
      (flat_map chain_bodies (set p.chains bucket chain))
      (subst (λ hs. AllByRecursion Q (segment_bodies p.segments hs)) (sym heads_stay) segments)
      chains)
      r.free_read

pub first_of_add : (pair : Entry) (new : ℕ) (chain : Chain) → IsChain chain
    → first_of (numbers (add pair new chain)) ≡ first_of (numbers chain)
first_of_add pair new [] h = absurd h
first_of_add pair new (head ∷ rest) h = ap first_of (numbers-add pair new (head ∷ rest))

first_of_remove : (key : Key) (chain : Chain)
    → first_of (numbers (remove key chain)) ≡ first_of (numbers chain)
first_of_remove key [] = refl
first_of_remove key (head ∷ rest) = refl

bucket_in : (p : Placement) → IsSound p → (key : Key) → key_bucket p.shape key < length p.chains
bucket_in p h key = let l = address_below p.shape (hash_of key) h.split_in in let e =
    h.all_buckets in omega arith

pub put_entry_rewrites : PutEntryRewrites
put_entry_rewrites p at at' e left h k read kept_read r =
    let bucket = key_bucket p.shape e.pair.0 in
    let chain = chain_at p bucket in
    let below : bucket < length p.chains =
    (let l = address_below p.shape (hash_of e.pair.0) h.split_in in let m = h.all_buckets in
    omega arith) in
    let space = cond (has_room e chain) p.space (after_take p.space) in
    let same = first_of_add e (next_page p.space) chain (h.in_place bucket below).0 in (
      rewritten p at at' bucket (add e (next_page p.space) chain) space (pages_of left) below k.pages
          same read r,
      held_stay p at at' bucket (add e (next_page p.space) chain) space (pages_of left) below k.pages
          same (flat_map entry_bodies left) (numbers-entries left) kept_read r,
    )

pub put_rewrites : PutRewrites
put_rewrites p at at' pair h k read r =
    let bucket = key_bucket p.shape pair.0 in
    let chain = chain_at p bucket in
    let e = entry_for p pair in
    let space = (with_content p pair).space in
    rewritten p at at' bucket (add e (next_page space) chain)
    (cond (has_room e chain) space (after_take space)) [] (bucket_in p h pair.0) k.pages
    (first_of_add e (next_page space) chain (h.in_place bucket (bucket_in p h pair.0)).0) read
    r

pub delete_rewrites : DeleteRewrites
delete_rewrites p at at' key h k read r =
    let bucket = key_bucket p.shape key in
    let chain = chain_at p bucket in
    rewritten p at at' bucket (remove key chain) (give (freed key chain) p.space) []
    (bucket_in p h key) k.pages (first_of_remove key chain) read r
