-- The records of the bucket that is split, put again one by one.
use Rattle.std.proofs.Common.{◌≡◌, ◌==◌, flat_map, ℕ, zero, suc, ◌+◌, ◌^◌, ◌<◌, ◌≤◌, Bool, true, false, cond, List, [], ◌∷◌, ◌++◌, length, map, take, drop, get_or, set, fold, None, refl, sym, ap, ◌∙◌, subst, ⊎_elim, arith, add-one, get_or-set_same, get_or-set_other, length-append, length-set}
use Rattle.std.specs.List.{AllByRecursion}
use Rattle.std.proofs.Math.Seq.{drop-cons}
use Rattle.std.proofs.lemmas.Bool.{cases_eq}
use Rattle.std.proofs.lemmas.List.{get_or_append_left, get_or_push, get_or-map, length-map, take-append-drop, take_all, take_more}
use Rattle.std.proofs.lemmas.List.Sums.{fold-append, sum_by-append}
use Rattle.dbm_model.specs.Bounds.{Version, Bounds}
use Rattle.page_model.specs.Address.{Shape, hash_of, grown}
use Rattle.page_model.specs.Pages.{Body, NumberedBody, Record}
use Rattle.dbm_model.specs.Pairs.{Pair}
use Rattle.page_model.specs.PairLists.{times}
use Rattle.page_model.specs.Chain.{Entry, Chain, numbers, pairs_in, pages_of, pages_in, record_of, add}
use Rattle.page_model.specs.Space.{next_page, times_of}
use Rattle.page_model.specs.Placement.{Placement, key_bucket, chain_at, put_entry, bared, extended, split, IsSoundBeside, IsSound, pairs_of}
use Rattle.page_model.specs.PageBodies.{first_of, entry_bodies, AreRead}
use Rattle.page_model.specs.Rewrites.{new_head}
use Rattle.page_model.proofs.AddressLemmas.{address_below}
use Rattle.page_model.proofs.Ends.{kept_fold}
use Rattle.page_model.proofs.Chains.{pairs_of_entries, AllByRecursion-left, AllByRecursion-right}
use Rattle.page_model.proofs.Flat.{numbers-entries}
use Rattle.page_model.proofs.Frames.{kept, first_of_add}
use Rattle.page_model.proofs.Extensions.{first_of_bared}
use Rattle.page_model.proofs.PairLists.{value_in, sum_by-flat_map-set}
use Rattle.page_model.proofs.Places.{times_none, value_at}
use Rattle.page_model.proofs.Splits.{CanFill, first_absent, can_fill_rest, can_fill_extended}
use Rattle.lin_addr.specs.Shapes.{BelongsTo}
use Rattle.free_pages.specs.declared.free_state.FreeState.{FreeState}
use Rattle.free_pages.specs.FreeList.{IsApart}
use Rattle.page_model.proofs.GoodBodies.{key_is}
use Rattle.bucket_chain.specs.Changes.{IsPlaced, AreHeld, BecomesPlaced, put_in}
use Rattle.bucket_chain.specs.Pairs.{record_as}
use Rattle.bucket_chain.specs.Placements.{IsBelow, placed_for}
use Rattle.bucket_chain.specs.declared.pair.Pair as code
use Rattle.bucket_chain.proofs.PlacedChains.{chains_placed, entries_placements}
use Rattle.bucket_chain.proofs.Storing.{record_there}
use Rattle.linear_hash.specs.Splitting.{entries_split, IsRefilled}

-- the placement once the first of them are put
abbrev pub filled : Placement → ℕ → Placement
filled p i = fold put_entry (extended p) (take i (entries_split p))

-- the pages say that placement, and both buckets keep their head pages
pub record IsFilling (at : ℕ → Body) (space : FreeState) (p : Placement) (i : ℕ) : Type 0 where
  pub below : IsBelow at space (filled p i)
  pub can : CanFill (filled p i) (drop i (entries_split p))
  pub contents : AreRead at (flat_map entry_bodies (drop i (entries_split p)))
  pub shape_is : (filled p i).shape ≡ grown p.shape
  pub many : length (filled p i).chains ≡ length p.chains + 1
  pub old_head : first_of (numbers (chain_at (filled p i) p.shape.split))
      ≡ first_of (numbers (chain_at p p.shape.split))
  pub new_head_is : first_of (numbers (chain_at (filled p i) (length p.chains)))
      ≡ (new_head p).number

-- the record of this entry is put next
pub record IsNext (p : Placement) (i : ℕ) (x : Entry) : Type 0 where
  pub within : i < length (entries_split p)
  pub there : get_or (entries_split p) i x ≡ x

-- ---- any placement

bucket_in : (held : List ℕ) (q : Placement) → IsSoundBeside held q → (x : Entry)
    → key_bucket q.shape x.pair.0 < length q.chains
bucket_in held q sound x = omega (
  arith,
  address_below q.shape (hash_of x.pair.0) sound.split_in,
  sound.all_buckets,
)

-- a key that is nowhere is not in its chain
not_in_chain : (held : List ℕ) (q : Placement) (x : Entry) → IsSoundBeside held q
    → value_in x.pair.0 (pairs_of q) ≡ None
    → times x.pair.0 (pairs_in (chain_at q (key_bucket q.shape x.pair.0))) ≡ 0
not_in_chain held q x sound none =
    let key = x.pair.0 in
    times_none key (pairs_in (chain_at q (key_bucket q.shape key)))
    (sym (value_at q.shape q.chains key sound.split_in sound.all_buckets sound.in_place) ∙ none)

-- a put keeps the head page of each bucket
head_kept : (held : List ℕ) (q : Placement) (x : Entry) (j : ℕ) → IsSoundBeside held q
    → first_of (numbers (chain_at (put_entry q x) j)) ≡ first_of (numbers (chain_at q j))
head_kept held q x j sound =
    let bucket = key_bucket q.shape x.pair.0 in
    let chain = chain_at q bucket in
    let new = add x (next_page q.space) chain in
    let first : Chain → ℕ = λ c. first_of (numbers c) in
    let lt = bucket_in held q sound x in
    ⊎_elim
    (λ (same : j ≡ bucket). ap (λ i. first (get_or (set q.chains bucket new) i [])) same
    ∙ ap first (get_or-set_same q.chains bucket new [] lt)
    ∙ first_of_add x (next_page q.space) chain (sound.in_place bucket lt).0
    ∙ ap (λ i. first (chain_at q i)) (sym same))
    (λ (ne : j ≡ bucket → ⊥). ap first (get_or-set_other q.chains bucket j new [] ne))
    (cases_eq j bucket)

all_at : {X : Type 0} (P : X → Type 0) (xs : List X) (i : ℕ) (d : X) → i < length xs
    → AllByRecursion P xs → P (get_or xs i d)
all_at P [] i d lt all = absurd (omega (arith, lt))
all_at P (x ∷ xs) zero d lt all = all.0
all_at P (x ∷ xs) (suc i) d lt all = all_at P xs i d (omega (arith, lt)) all.1

-- what holds of the pairs of entries holds of each pair
of_pairs : (P : Pair → Type 0) (entries : List Entry)
    → AllByRecursion P (map (λ (e : Entry). e.pair) entries) → AllByRecursion (λ e. P e.pair)
    entries
of_pairs P [] all = tt
of_pairs P (e ∷ entries) all = (all.0, of_pairs P entries all.1)

-- the pages of one content and of one chain stand apart from each other and from the free ones
apart_in : (q : Placement) (x : Entry) (rest : List Entry)
    → IsSoundBeside (pages_of (x ∷ rest)) q → (bucket : ℕ) → bucket < length q.chains
    → IsApart (pages_of (x ∷ []) ++ pages_in (chain_at q bucket)) q.space
apart_in q x rest sound bucket lt n =
    let f : ℕ → ℕ = λ m. cond (m == n) 1 0 in
    let held = pages_of (x ∷ rest) in
    omega (
      arith,
      sound.pages.once n,
      sum_by-append f held (1 ∷ q.segments ++ flat_map pages_in q.chains),
      sum_by-append f x.pages (pages_of rest),
      sum_by-append f x.pages [],
      sum_by-append f (1 ∷ q.segments) (flat_map pages_in q.chains),
      sum_by-flat_map-set f pages_in q.chains bucket [] [] lt,
      sum_by-append f (pages_of (x ∷ [])) (pages_in (chain_at q bucket)),
    )

module _ (p : Placement) (sound : IsSound p) where
  old_below : p.shape.split < length p.chains
  old_below = omega (arith, sound.all_buckets, sound.split_in)

  -- ---- no pair is put yet

  pub filling_starts : (at : ℕ → Body) (space : FreeState) → IsBelow at space (extended p)
      → AreRead at (flat_map entry_bodies (entries_split p)) → IsFilling at space p 0
  filling_starts at space below read =
      let chain = chain_at p p.shape.split in
      let cs = set p.chains p.shape.split (bared chain) in
      let last : Chain = new_head p ∷ [] in
      let first : Chain → ℕ = λ c. first_of (numbers c) in
      let same = length-set p.chains p.shape.split (bared chain) in
      record {
        below = below;
        can = can_fill_extended p sound;
        contents = read;
        shape_is = refl;
        many = omega (arith, length-append cs (last ∷ []), same);
        old_head = ap first (get_or_append_left cs (last ∷ []) [] p.shape.split
            (omega (arith, same, old_below))
            ∙ get_or-set_same p.chains p.shape.split (bared chain) [] old_below)
            ∙ first_of_bared chain;
        new_head_is = ap first (get_or_push cs last [] (length p.chains) same);
      }

  -- ---- the next pair

  module _ (i : ℕ) (x : Entry) (next : IsNext p i x) where
    -- it is one of the bucket that is split
    in_split : key_bucket p.shape x.pair.0 ≡ p.shape.split
    in_split =
        let P : Pair → Type 0 = λ pair. key_bucket p.shape pair.0 ≡ p.shape.split in
        ap (λ (y : Entry). key_bucket p.shape y.pair.0) (sym next.there)
        ∙ all_at (λ y. P y.pair) (entries_split p) i x next.within
        (of_pairs P (entries_split p)
        (subst (AllByRecursion P) (pairs_of_entries (chain_at p p.shape.split))
        (sound.in_place p.shape.split old_below).1))

    rest_is : drop i (entries_split p) ≡ x ∷ drop (i + 1) (entries_split p)
    rest_is = rw add-one (drop-cons (entries_split p) i x next.within
        ∙ ap (λ (y : Entry). y ∷ drop (suc i) (entries_split p)) next.there)

    filled_is : filled p (i + 1) ≡ put_entry (filled p i) x
    filled_is = ap (fold put_entry (extended p))
        (take_more (entries_split p) i x next.within
        ∙ ap (λ (y : Entry). take i (entries_split p) ++ y ∷ []) next.there)
        ∙ fold-append put_entry (extended p) (take i (entries_split p)) (x ∷ [])

    module _ (at : ℕ → Body) (space : FreeState) (so_far : IsFilling at space p i) where
      can_put : CanFill (filled p i) (x ∷ drop (i + 1) (entries_split p))
      can_put = subst (CanFill (filled p i)) rest_is so_far.can

      -- its content stands in pages of its own, and no other page of the rest is touched
      next_read : AreRead at (flat_map entry_bodies (x ∷ drop (i + 1) (entries_split p)))
      next_read = subst (λ (es : List Entry). AreRead at (flat_map entry_bodies es)) rest_is
          so_far.contents

      own_read : AreRead at (entry_bodies x)
      own_read = AllByRecursion-left (λ (b : NumberedBody). at b.number ≡ b.body) (entry_bodies x)
          (flat_map entry_bodies (drop (i + 1) (entries_split p))) next_read

      pub next_held : AreHeld (filled p i).bounds.version at
          (pages_in (placed_for (filled p i) x.pair.0).0) (filled p i).space (x ∷ [])
      next_held = record {
        entered = (can_put.small.0, tt);
        are_read = (own_read, tt);
        apart = apart_in (filled p i) x (drop (i + 1) (entries_split p)) can_put.sound
            (key_bucket (filled p i).shape x.pair.0)
            (bucket_in (pages_of (x ∷ drop (i + 1) (entries_split p))) (filled p i) can_put.sound
            x);
      }

      pub next_absent : times x.pair.0 (pairs_in (placed_for (filled p i) x.pair.0).0) ≡ 0
      next_absent = not_in_chain (pages_of (drop i (entries_split p))) (filled p i) x
          so_far.can.sound
          (first_absent x (drop (i + 1) (entries_split p)) (filled p i) can_put)

      -- the head page of the bucket to which it goes
      pub next_head : (up : Bool) (to head n : ℕ) → BelongsTo p.shape (hash_of x.pair.0) up
          → to ≡ cond up n head → head ≡ first_of (numbers (chain_at p p.shape.split))
          → n ≡ (new_head p).number
          → to ≡ first_of (numbers (chain_at (filled p i) (key_bucket (filled p i).shape x.pair.0)))
      next_head up to head n place to_is head_is n_is =
          let q = filled p i in
          let goes : key_bucket q.shape x.pair.0
          ≡ cond up (p.shape.split + 2 ^ p.shape.level) p.shape.split =
          ap (λ s. key_bucket s x.pair.0) so_far.shape_is ∙ place in_split in
          let last : p.shape.split + 2 ^ p.shape.level ≡ length p.chains =
          omega (arith, sound.all_buckets) in
          to_is ∙ elim up as (λ b. cond b n head
          ≡ first_of (numbers (chain_at q
          (cond b (p.shape.split + 2 ^ p.shape.level) p.shape.split)))) [
            | true ↦ n_is ∙ sym so_far.new_head_is
                ∙ ap (λ j. first_of (numbers (chain_at q j))) (sym last)
            | false ↦ head_is ∙ sym so_far.old_head
          ] ∙ ap (λ j. first_of (numbers (chain_at q j))) (sym goes)

      pub next_placed : space.file_end < 2 ^ 32 → (to : ℕ) → to
          ≡ first_of (numbers (chain_at (filled p i) (key_bucket (filled p i).shape x.pair.0)))
          → IsPlaced (filled p i).bounds.version at space to
          (placed_for (filled p i) x.pair.0).0 (filled p i).space
      next_placed small to is =
          let q = filled p i in
          let held = pages_of (drop i (entries_split p)) in
          subst (λ h. IsPlaced q.bounds.version at space h (placed_for q x.pair.0).0 q.space)
          (sym is)
          (chains_placed at space held q (key_bucket q.shape x.pair.0) so_far.can.sound
          (omega (arith, small, ap (λ (s : FreeState). s.file_end) so_far.below.kept)) so_far.below
          (bucket_in held q so_far.can.sound x))

      pub filling_goes_on : (at' : ℕ → Body) (space' : FreeState)
          → BecomesPlaced at at' space' (put_in (placed_for (filled p i) x.pair.0) x)
          → IsFilling at' space' p (i + 1)
      filling_goes_on at' space' becomes =
          let q = filled p i in
          let e = sym filled_is in
          let rest = drop (i + 1) (entries_split p) in
          let held = pages_of (x ∷ rest) in
          let sound = can_put.sound in
          let can = can_fill_rest x rest q can_put in
          let P : NumberedBody → Type 0 = λ b. at b.number ≡ b.body in
          let placed = entries_placements at at' space space' (pages_of rest) q x sound can.sound
          so_far.below own_read becomes in
          record {
            below = subst (IsBelow at' space') e
                placed.0;
            can = subst (λ r. CanFill r rest) e can;
            contents = kept at at' (flat_map entry_bodies rest)
                (λ n l. placed.1 n (subst (λ ns. 1 ≤ times_of n ns) (numbers-entries rest) l))
                (AllByRecursion-right P (entry_bodies x) (flat_map entry_bodies rest) next_read);
            shape_is = subst (λ r. r.shape ≡ grown p.shape) e so_far.shape_is;
            many = subst (λ r. length r.chains ≡ length p.chains + 1) e
                (length-set q.chains _ _ ∙ so_far.many);
            old_head = subst (λ r. first_of (numbers (chain_at r p.shape.split))
                ≡ first_of (numbers (chain_at p p.shape.split))) e
                (head_kept held q x p.shape.split sound ∙ so_far.old_head);
            new_head_is = subst (λ r. first_of (numbers (chain_at r (length p.chains)))
                ≡ (new_head p).number) e (head_kept held q x (length p.chains) sound
                ∙ so_far.new_head_is);
          }

-- ---- all are put

pub filling_ends : (at : ℕ → Body) (space : FreeState) (p : Placement) (i : ℕ)
    → length (entries_split p) ≤ i → IsFilling at space p i → IsBelow at space (split p)
filling_ends at space p i le so_far =
    subst (λ entries. IsBelow at space (fold put_entry (extended p) entries))
    (take_all i (entries_split p) le) so_far.below

-- no put gives a page back
pub filling_room : (at : ℕ → Body) (space : FreeState) (p : Placement) (i : ℕ)
    → IsFilling at space p i → space.file_end ≤ (split p).space.end
filling_room at space p i so_far =
    let all : fold put_entry (filled p i) (drop i (entries_split p)) ≡ split p =
    sym (fold-append put_entry (extended p) (take i (entries_split p)) (drop i (entries_split p)))
    ∙ ap (fold put_entry (extended p)) (take-append-drop i (entries_split p)) in
    omega (
      arith,
      ap (λ (s : FreeState). s.file_end) so_far.below.kept,
      kept_fold (drop i (entries_split p)) (filled p i),
      ap (λ (q : Placement). q.space.end) all,
    )

-- ---- the records of the code

-- records that are put don't change the bounds
kept_bounds : (entries : List Entry) (q : Placement) → (fold put_entry q entries).bounds ≡ q.bounds
kept_bounds [] q = refl
kept_bounds (e ∷ entries) q = kept_bounds entries (put_entry q e)

-- no entry
abbrev blank : Entry
blank = record { pair = ([], []); pages = [] }

-- the entry at a place of a list
same_there : (entries : List Entry) (i : ℕ) (d : Entry) → i < length entries
    → get_or entries i (get_or entries i d) ≡ get_or entries i d
same_there [] i d lt = absurd (omega (arith, lt))
same_there (e ∷ entries) zero d lt = refl
same_there (e ∷ entries) (suc i) d lt = same_there entries i d (omega (arith, lt))

module _ (version : Version) (at : ℕ → Body) (space : FreeState) (shape : Shape) (head n : ℕ)
    (pairs : List code.Pair) (p : Placement)
    (from : IsRefilled version at space shape head n (map record_as pairs) p) where
  pub refill_length : length (entries_split p) ≡ length pairs
  refill_length = omega (
    arith,
    length-map pairs record_as,
    ap length from.records_are,
    length-map (entries_split p) record_of,
  )

  module _ (i : ℕ) (item : code.Pair) (lt : i < length pairs)
      (here : get_or pairs i item ≡ item) where
    -- the entry of which this is the record
    abbrev pub refill_entry : Entry
    refill_entry = get_or (entries_split p) i blank

    within : i < length (entries_split p)
    within = omega (arith, lt, refill_length)

    pub refill_next : IsNext p i refill_entry
    refill_next = record {
      within = within;
      there = same_there (entries_split p) i blank within;
    }

    pub refill_record : record_of refill_entry ≡ record_as item
    refill_record =
        sym (get_or-map record_of (entries_split p) i blank (record_as item) within)
        ∙ ap (λ (rs : List Record). get_or rs i (record_as item)) (sym from.records_are)
        ∙ record_there pairs i item lt here

    pub refill_key : refill_entry.pair.0 ≡ item.key.items
    refill_key = sym (key_is refill_entry.pair refill_entry.pages)
        ∙ ap (λ (r : Record). r.key) refill_record

    of_version : version ≡ (filled p i).bounds.version
    of_version = from.version_is
        ∙ ap (λ (b : Bounds). b.version) (sym (kept_bounds (take i (entries_split p)) (extended p)))

    module _ (at' : ℕ → Body) (space' : FreeState) (so_far : IsFilling at' space' p i) where
      -- the chain to which it goes
      pub refill_placed : space'.file_end < 2 ^ 32 → (up : Bool) (hash to : ℕ)
          → BelongsTo shape hash up → hash ≡ hash_of item.key.items → to ≡ cond up n head
          → IsPlaced version at' space' to
          (placed_for (filled p i) refill_entry.pair.0).0 (filled p i).space
      refill_placed small up hash to place hash_is to_is =
          let belongs = subst (λ h. BelongsTo p.shape h up)
          (hash_is ∙ ap hash_of (sym refill_key))
          (subst (λ s. BelongsTo s hash up) from.shape_is place) in
          subst (λ (v : Version). IsPlaced v at' space' to
          (placed_for (filled p i) refill_entry.pair.0).0 (filled p i).space) (sym of_version)
          (next_placed p from.sound i refill_entry refill_next at' space' so_far small to
          (next_head p from.sound i refill_entry refill_next at' space' so_far up to head n
          belongs to_is from.old_head from.new_head_is))

      pub refill_held : AreHeld version at'
          (pages_in (placed_for (filled p i) refill_entry.pair.0).0) (filled p i).space
          (refill_entry ∷ [])
      refill_held = subst (λ (v : Version). AreHeld v at'
          (pages_in (placed_for (filled p i) refill_entry.pair.0).0) (filled p i).space
          (refill_entry ∷ [])) (sym of_version)
          (next_held p from.sound i refill_entry refill_next at' space' so_far)

      pub refill_absent : times refill_entry.pair.0
          (pairs_in (placed_for (filled p i) refill_entry.pair.0).0) ≡ 0
      refill_absent = next_absent p from.sound i refill_entry refill_next at' space' so_far

      pub refill_goes_on : (at'' : ℕ → Body) (space'' : FreeState) → BecomesPlaced at' at'' space''
          (put_in (placed_for (filled p i) refill_entry.pair.0) refill_entry)
          → IsFilling at'' space'' p (i + 1)
      refill_goes_on at'' space'' becomes =
          filling_goes_on p from.sound i refill_entry refill_next at' space' so_far at'' space''
          becomes
