-- A split keeps the map.
use Rattle.std.proofs.Common.{◌≡◌, ◌≢◌, ℕ, ◌+◌, ◌%◌, ◌^◌, ◌<◌, ◌≤◌, ◌==◌, ◌&&◌, Bool, true, false, cond, eqb, List, [], ◌∷◌, ◌++◌, length, map, drop, flat_map, fold, get_or, set, sum_by, Option, None, Some, is_eq, refl, sym, ap, ◌∙◌, subst, ⊎_elim, arith, get_or-set_same, get_or-set_other, length-set, length-append, append-nil, pow_pos, pow-add}
use Rattle.std.specs.List.{AllByRecursion}
use Rattle.std.specs.Option.{option_or}
use Rattle.std.specs.Int.{bit_at}
use Rattle.std.specs.FinMap.{get-from_entries, same_map}
use Rattle.std.specs.Cmp.{tied_itself}
use Rattle.std.proofs.lemmas.Cmp.{nat_list_cmp_total}
use Rattle.std.proofs.lemmas.List.{get_or_append_left, get_or_push, append-nil}
use Rattle.std.proofs.lemmas.List.Concat.{flat_map-append}
use Rattle.std.proofs.lemmas.List.Sums.{sum_by-append, sum_by-cons, sum_by_push}
use Rattle.std.proofs.lemmas.Bool.{cases_eq, eqb-true, eqb-false, ne_eqb}
use Rattle.page_model.specs.Address.{Shape, address, buckets, grown, hash_of}
use Rattle.dbm_model.specs.Pairs.{Key, Pair, IsAllowed}
use Rattle.page_model.specs.PairLists.{has_key, times}
use Rattle.page_model.specs.Chain.{Entry, Chain, numbers, entries_in, pairs_in, pages_of, pages_in, IsEntry, IsChain}
use Rattle.page_model.specs.Space.{next_page, after_take, give, IsExact}
use Rattle.dbm_model.specs.Sizes.{segments_for}
use Rattle.page_model.specs.Placement.{Placement, pairs_of, contents, in_use, key_bucket, chain_at, put_entry, IsInPlace, IsSoundBeside, IsSound, bare, bared, begins_segment, extended, split}
use Rattle.page_model.specs.PlacementLaws.{PairsAreAllowed}
use Rattle.page_model.proofs.AddressLemmas.{grown_address}
use Rattle.page_model.proofs.PairLists.{value_in, value_in-split, times_some, sum_by-flat_map-set}
use Rattle.page_model.proofs.Chains.{AllByRecursion-append, AllByRecursion-left, AllByRecursion-right, all_pairs, pairs_of_entries}
use Rattle.page_model.proofs.Spaces.{IsExact-take, IsExact-give}
use Rattle.page_model.proofs.Places.{keys_exact, all_at, all_set, sum_by-put, put_sound, value_in-put}

-- ---- records put one after another

abbrev pub pairs_at : List Entry → List Pair
pairs_at entries = map (λ e. e.pair) entries

-- q is p with the records put
pub record IsFilled (p : Placement) (entries : List Entry) (q : Placement) : Type 0 where
  pub sound : IsSound q
  pub sums : (f : Pair → ℕ)
      → sum_by f (pairs_of q) ≡ sum_by f (pairs_of p) + sum_by f (pairs_at entries)
  pub values : (key : Key) → value_in key (pairs_of q)
      ≡ option_or (value_in key (pairs_at entries)) (value_in key (pairs_of p))
  pub chains : length q.chains ≡ length p.chains
  pub bounds_are : q.bounds ≡ p.bounds

pushed : {A : Type 0} (t : Bool) (x : A) (a b : Option A) → (t ≡ true → a ≡ None)
    → option_or a (cond t (Some x) b) ≡ option_or (cond t (Some x) a) b
pushed true x a b h = ap (λ o. option_or o (Some x)) (h refl)
pushed false x a b h = refl

-- records that may be put: their pairs are allowed, no key of them comes twice, in them and in the
-- placement, and the pages of their contents are held
pub record CanFill (p : Placement) (entries : List Entry) : Type 0 where
  pub sound : IsSoundBeside (pages_of entries) p
  pub small : AllByRecursion (IsEntry p.bounds.version) entries
  pub once : (key : Key) → times key (pairs_at entries) + times key (pairs_of p) ≤ 1

counts : (key : Key) (x : Pair) (pairs : List Pair)
    → times key (x ∷ pairs) ≡ cond (has_key key x) 1 0 + times key pairs
counts key x pairs = sum_by-cons (λ pair. cond (has_key key pair) 1 0) x pairs

counts_one : (key : Key) (x : Pair) (pairs : List Pair) → has_key key x ≡ true
    → times key (x ∷ pairs) ≡ 1 + times key pairs
counts_one key x pairs t = counts key x pairs ∙ ap (λ b. cond b 1 0 + times key pairs) t

pub first_absent : (x : Entry) (entries : List Entry) (p : Placement) → CanFill p (x ∷ entries)
    → value_in x.pair.0 (pairs_of p) ≡ None
first_absent x entries p h = times_some x.pair.0 (pairs_of p)
    (let a = counts_one x.pair.0 x.pair (pairs_at entries)
    (ap is_eq (tied_itself nat_list_cmp_total x.pair.0)) in let b = h.once x.pair.0 in omega arith)

later_absent : (x : Entry) (entries : List Entry) (p : Placement) → CanFill p (x ∷ entries)
    → (key : Key) → has_key key x.pair ≡ true → value_in key (pairs_at entries) ≡ None
later_absent x entries p h key t =
    times_some key (pairs_at entries)
    (let a = counts_one key x.pair (pairs_at entries) t in let b = h.once key in omega arith)

pub can_fill_rest : (x : Entry) (entries : List Entry) (p : Placement) → CanFill p (x ∷ entries)
    → CanFill (put_entry p x) entries
can_fill_rest x entries p h = record {
  sound = put_sound (pages_of (x ∷ entries)) p h.sound x (pages_of entries)
      (λ f. sum_by-append f x.pages (pages_of entries)) h.small.0 (first_absent x entries p h);
  small = h.small.1;
  once = λ key. let a = counts key x.pair (pairs_at entries) in let b = h.once key in let c =
      sum_by-put (pages_of (x ∷ entries)) p h.sound x (λ pair. cond (has_key key pair) 1 0) in
      omega arith;
}

pub filled : (entries : List Entry) (p : Placement) → CanFill p entries
    → IsFilled p entries (fold put_entry p entries)
filled [] p h = record {
  sound = h.sound;
  sums = λ f. omega arith;
  values = λ key. refl;
  chains = refl;
  bounds_are = refl;
}
filled (x ∷ entries) p h =
    let held = pages_of (x ∷ entries) in
    let rest = filled entries (put_entry p x) (can_fill_rest x entries p h) in
    record {
      sound = rest.sound;
      sums = λ f. let a = rest.sums f in let b = sum_by-put held p h.sound x f in let c =
          sum_by-cons f x.pair (pairs_at entries) in omega arith;
      values = λ key. rest.values key
          ∙ ap (option_or (value_in key (pairs_at entries)))
          (value_in-put held p h.sound x h.small.0 (first_absent x entries p h) key)
          ∙ pushed (has_key key x.pair) x.pair.1 (value_in key (pairs_at entries))
          (value_in key (pairs_of p)) (later_absent x entries p h key);
      chains = rest.chains ∙ length-set p.chains _ _;
      bounds_are = rest.bounds_are;
    }

-- ---- the placement with one bucket more

split_below : (s : Shape) → s.split < 2 ^ s.level → (grown s).split < 2 ^ (grown s).level
split_below s h =
    elim (eqb (s.split + 1) (2 ^ s.level)) as
    (λ t. eqb (s.split + 1) (2 ^ s.level) ≡ t
    → (cond {A = Shape} t (record { level = s.level + 1; split = 0 })
    (record { level = s.level; split = s.split + 1 })).split
    < 2 ^ (cond {A = Shape} t (record { level = s.level + 1; split = 0 })
    (record { level = s.level; split = s.split + 1 })).level) [
      | true ↦ λ t. pow_pos (s.level + 1)
      | false ↦ λ t. let ne : s.split + 1 ≡ 2 ^ s.level → ⊥ = eqb-false _ _ t in omega arith
    ] refl

twice : (n : ℕ) → 2 ^ (n + 1) ≡ 2 ^ n + 2 ^ n
twice n = grind (arith, pow-add)

pub buckets_grown : (s : Shape) → buckets (grown s) ≡ buckets s + 1
buckets_grown s =
    elim (eqb (s.split + 1) (2 ^ s.level)) as
    (λ t. eqb (s.split + 1) (2 ^ s.level) ≡ t
    → buckets (cond t (record { level = s.level + 1; split = 0 })
    (record { level = s.level; split = s.split + 1 })) ≡ buckets s + 1) [
      | true ↦ λ t. let e = eqb-true _ _ t in let w = twice s.level in omega arith
      | false ↦ λ t. omega arith
    ] refl

-- a key of another bucket stays there
stays : (s : Shape) (key : Key) → s.split < 2 ^ s.level → key_bucket s key ≢ s.split
    → key_bucket (grown s) key ≡ key_bucket s key
stays s key h ne = grown_address s (hash_of key) h
    ∙ ap (λ b. cond (b && eqb (bit_at (hash_of key) s.level) 1) (s.split + 2 ^ s.level)
    (address s (hash_of key))) (ne_eqb (key_bucket s key) s.split ne)

all_stay : (s : Shape) (j : ℕ) (xs : List Pair) → s.split < 2 ^ s.level → j ≢ s.split
    → AllByRecursion (λ pair. key_bucket s pair.0 ≡ j) xs
    → AllByRecursion (λ pair. key_bucket (grown s) pair.0 ≡ j) xs
all_stay s j [] h ne k = tt
all_stay s j (x ∷ xs) h ne k =
    (stays s x.0 h (λ e. ne (sym k.0 ∙ e)) ∙ k.0, all_stay s j xs h ne k.1)

IsChain-bared : (chain : Chain) → IsChain chain → IsChain (bared chain)
IsChain-bared [] h = h
IsChain-bared (head ∷ overflow) h = (omega arith, tt, tt)

pairs_in-bared : (chain : Chain) → pairs_in (bared chain) ≡ []
pairs_in-bared [] = refl
pairs_in-bared (head ∷ overflow) = refl

-- the head stays, and the others are given
sum_by-bared : (f : ℕ → ℕ) (chain : Chain)
    → sum_by f (numbers (bared chain)) + sum_by f (drop 1 (numbers chain))
    ≡ sum_by f (numbers chain)
sum_by-bared f [] = refl
sum_by-bared f (head ∷ overflow) = let a =
    sum_by-cons f head.number (numbers overflow) in omega arith

more_segments : (n k : ℕ) → k ≡ segments_for n
    → k + length (cond {A = List ℕ} (n % 508 == 0) (0 ∷ []) []) ≡ segments_for (n + 1)
more_segments n k e =
    let none : List ℕ = [] in
    let one : List ℕ = 0 ∷ [] in
    elim (n % 508 == 0) as (λ t. (n % 508 == 0) ≡ t
    → k + length (cond t one none) ≡ segments_for (n + 1)) [
      | true ↦ λ t. let z = eqb-true _ _ t in omega arith
      | false ↦ λ t. let z : n % 508 ≡ 0 → ⊥ = eqb-false _ _ t in omega arith
    ] refl

-- an emptied chain holds no content
entries_in-bared : (chain : Chain) → entries_in (bared chain) ≡ []
entries_in-bared [] = refl
entries_in-bared (head ∷ overflow) = refl

sum_by-bared_pages : (f : ℕ → ℕ) (chain : Chain)
    → sum_by f (pages_in (bared chain)) ≡ sum_by f (numbers (bared chain))
sum_by-bared_pages f [] = refl
sum_by-bared_pages f (head ∷ overflow) = refl

module _ (p : Placement) (h : IsSound p) where
  old : Chain
  old = chain_at p p.shape.split

  old_below : p.shape.split < length p.chains
  old_below = let e = h.all_buckets in let l = h.split_in in omega arith

  pub value_in-extended : (key : Key)
      → value_in key (pairs_of p) ≡ option_or (value_in key (pairs_in (chain_at p p.shape.split)))
      (value_in key (pairs_of (extended p)))
  value_in-extended key =
      let chain = chain_at p p.shape.split in
      let e : pairs_of (extended p) ≡ flat_map pairs_in (set p.chains p.shape.split (bared chain))
      = flat_map-append pairs_in (set p.chains p.shape.split (bared chain))
      ((bare (next_page (give (drop 1 (numbers chain)) p.space)) ∷ []) ∷ []) ∙ append-nil _ in
      value_in-split key pairs_in p.chains p.shape.split (bared chain) [] (pairs_in-bared chain)
      old_below (h.no_key_twice key)
      ∙ ap (λ xs. option_or (value_in key (pairs_in chain)) (value_in key xs)) (sym e)

  pub sum_by-extended : (f : Pair → ℕ)
      → sum_by f (pairs_of (extended p)) + sum_by f (pairs_in (chain_at p p.shape.split))
      ≡ sum_by f (pairs_of p)
  sum_by-extended f =
      let chain = chain_at p p.shape.split in
      let e : pairs_of (extended p) ≡ flat_map pairs_in (set p.chains p.shape.split (bared chain))
      = flat_map-append pairs_in (set p.chains p.shape.split (bared chain))
      ((bare (next_page (give (drop 1 (numbers chain)) p.space)) ∷ []) ∷ []) ∙ append-nil _ in
      let a = ap (sum_by f) e in
      let b = sum_by-flat_map-set f pairs_in p.chains p.shape.split (bared chain) [] old_below in
      let c = ap (sum_by f) (pairs_in-bared chain) in
      omega arith

  extended_in_place : IsInPlace (grown p.shape) (extended p).chains
  extended_in_place j l =
      let chain = chain_at p p.shape.split in
      let cs = set p.chains p.shape.split (bared chain) in
      let last : Chain = bare (next_page (give (drop 1 (numbers chain)) p.space)) ∷ [] in
      let here = h.in_place p.shape.split old_below in
      let many = length-append cs (last ∷ []) in
      let same = length-set p.chains p.shape.split (bared chain) in
      let Good : Chain → Type 0 = λ c.
      IsChain c × AllByRecursion (λ pair. key_bucket (grown p.shape) pair.0 ≡ j) (pairs_in c) in
      ⊎_elim
      (λ (e : j ≡ length cs). subst Good (sym (get_or_push cs last [] j (sym e)))
      ((omega arith, tt, tt), tt))
      (λ (ne : j ≡ length cs → ⊥).
      let below : j < length cs = omega arith in
      subst Good (sym (get_or_append_left cs (last ∷ []) [] j below))
      (⊎_elim
      (λ (e : j ≡ p.shape.split). subst Good
      (sym (ap (λ i. get_or cs i []) e
      ∙ get_or-set_same p.chains p.shape.split (bared chain) [] old_below)) (
        IsChain-bared chain here.0,
        subst
            (AllByRecursion (λ pair. key_bucket (grown p.shape) pair.0 ≡ j))
            (sym (pairs_in-bared chain)) tt,
      ))
      (λ (n : j ≡ p.shape.split → ⊥).
      subst Good (sym (get_or-set_other p.chains p.shape.split j (bared chain) [] n))
      (let there = h.in_place j (omega arith) in
      (there.0, all_stay p.shape j (pairs_in (chain_at p j)) h.split_in n there.1)))
      (cases_eq j p.shape.split)))
      (cases_eq j (length cs))

  -- the pages in use once the new bucket has its head, and those of the contents that are moved
  pub headed_pages : IsExact (pages_of (entries_in (chain_at p p.shape.split))
      ++ (1 ∷ p.segments ++ flat_map pages_in (extended p).chains))
      (after_take (give (drop 1 (numbers (chain_at p p.shape.split))) p.space))
  headed_pages =
      let chain = chain_at p p.shape.split in
      let cs = set p.chains p.shape.split (bared chain) in
      let given = give (drop 1 (numbers chain)) p.space in
      let last : Chain = bare (next_page given) ∷ [] in
      let held = pages_of (entries_in chain) in
      let kept = 1 ∷ p.segments ++ flat_map pages_in cs in
      let more = 1 ∷ p.segments ++ flat_map pages_in (cs ++ last ∷ []) in
      let less : IsExact (held ++ kept) given =
      IsExact-give (in_use p) (held ++ kept) (drop 1 (numbers chain)) p.space (λ f.
      let a = sum_by-flat_map-set f pages_in p.chains p.shape.split (bared chain) [] old_below in
      let b = sum_by-bared f chain in
      let c = sum_by-append f (1 ∷ p.segments) (flat_map pages_in p.chains) in
      let d = sum_by-append f (1 ∷ p.segments) (flat_map pages_in cs) in
      let e = sum_by-append f held kept in
      let g = sum_by-append f (numbers chain) held in
      let i = sum_by-bared_pages f chain in
      omega arith) h.pages in
      IsExact-take (held ++ kept) (held ++ more) given (λ f.
      let a = sum_by-append f (1 ∷ p.segments) (flat_map pages_in cs) in
      let b = sum_by-append f (1 ∷ p.segments) (flat_map pages_in (cs ++ last ∷ [])) in
      let c = ap (sum_by f) (flat_map-append pages_in cs (last ∷ []))
      ∙ sum_by-append f (flat_map pages_in cs) (next_page given ∷ []) in
      let d = sum_by-append f held kept in
      let e = sum_by-append f held more in
      omega arith) less

  extended_pages : IsExact (pages_of (entries_in (chain_at p p.shape.split)) ++ in_use (extended p))
      (extended p).space
  extended_pages =
      let headed = after_take (give (drop 1 (numbers (chain_at p p.shape.split))) p.space) in
      let held = pages_of (entries_in (chain_at p p.shape.split)) in
      let chains' = (extended p).chains in
      elim (begins_segment p) as (λ b.
      IsExact (held ++ (1 ∷ (p.segments ++ cond b (next_page headed ∷ []) [])
      ++ flat_map pages_in chains')) (cond b (after_take headed) headed)) [
        | true ↦ IsExact-take (held ++ (1 ∷ p.segments ++ flat_map pages_in chains')) _ headed (λ f.
            let a = sum_by-append f (1 ∷ p.segments) (flat_map pages_in chains') in
            let b = sum_by-append f (1 ∷ (p.segments ++ next_page headed ∷ []))
            (flat_map pages_in chains') in
            let c = sum_by_push f (1 ∷ p.segments) (next_page headed) in
            let d = sum_by-append f held (1 ∷ p.segments ++ flat_map pages_in chains') in
            let e = sum_by-append f held
            (1 ∷ (p.segments ++ next_page headed ∷ []) ++ flat_map pages_in chains') in
            omega arith) headed_pages
        | false ↦ subst (λ ss. IsExact (held ++ (1 ∷ ss ++ flat_map pages_in chains')) headed)
            (sym (append-nil p.segments)) headed_pages
      ]

  length_cond : (b : Bool) (x y : ℕ)
      → length (cond {A = List ℕ} b (x ∷ []) []) ≡ length (cond {A = List ℕ} b (y ∷ []) [])
  length_cond true x y = refl
  length_cond false x y = refl

  pub extended_sound : IsSoundBeside (pages_of (entries_in (chain_at p p.shape.split))) (extended p)
  extended_sound =
      let chain = chain_at p p.shape.split in
      let cs = set p.chains p.shape.split (bared chain) in
      let given = give (drop 1 (numbers chain)) p.space in
      let last : Chain = bare (next_page given) ∷ [] in
      let one_more : length (cs ++ last ∷ []) ≡ length p.chains + 1 =
      (let a = length-append cs (last ∷ []) in let b =
      length-set p.chains p.shape.split (bared chain) in omega arith) in
      record {
        split_in = split_below p.shape h.split_in;
        all_buckets = (let a = buckets_grown p.shape in let b = h.all_buckets in omega arith);
        all_segments = length-append p.segments
            (cond (begins_segment p) (next_page (after_take given) ∷ []) [])
            ∙ ap (λ n. length p.segments + n)
            (length_cond (begins_segment p) (next_page (after_take given)) 0)
            ∙ more_segments (length p.chains) (length p.segments) h.all_segments
            ∙ ap segments_for (sym one_more);
        pages = extended_pages;
        in_place = extended_in_place;
        no_key_twice = λ q. let a = sum_by-extended (λ pair. cond (has_key q pair) 1 0) in let b =
            h.no_key_twice q in omega arith;
        entered = subst (AllByRecursion (IsEntry p.bounds.version))
            (sym (flat_map-append entries_in cs (last ∷ [])))
            (AllByRecursion-append (IsEntry p.bounds.version) (flat_map entries_in cs) []
            (all_set (IsEntry p.bounds.version) p.chains p.shape.split (bared chain)
            (subst (AllByRecursion (IsEntry p.bounds.version)) (sym (entries_in-bared chain)) tt)
            h.entered) tt);
      }

  small_entries : AllByRecursion (IsEntry p.bounds.version) (entries_in (chain_at p p.shape.split))
  small_entries = all_at (IsEntry p.bounds.version) p.chains p.shape.split old_below h.entered

  pub can_fill_extended : CanFill (extended p) (entries_in (chain_at p p.shape.split))
  can_fill_extended = record {
    sound = extended_sound;
    small = small_entries;
    once = λ key. let chain = chain_at p p.shape.split in
        let a = sum_by-extended (λ pair. cond (has_key key pair) 1 0) in
        let b = h.no_key_twice key in
        let c = ap (times key) (pairs_of_entries chain) in omega arith;
  }

  pub split_filled : IsFilled (extended p) (entries_in (chain_at p p.shape.split)) (split p)
  split_filled = filled (entries_in (chain_at p p.shape.split)) (extended p) can_fill_extended

  pub contents-split : contents (split p) ≡ contents p
  contents-split = same_map nat_list_cmp_total keys_exact _ _ (λ q.
      get-from_entries nat_list_cmp_total (pairs_of (split p)) q ∙ split_filled.values q
      ∙ ap (λ xs. option_or (value_in q xs) (value_in q (pairs_of (extended p))))
      (sym (pairs_of_entries (chain_at p p.shape.split)))
      ∙ sym (value_in-extended q) ∙ sym (get-from_entries nat_list_cmp_total (pairs_of p) q))

all_weaker : {X : Type 0} (P Q : X → Type 0) → ((x : X) → P x → Q x) → (xs : List X)
    → AllByRecursion P xs → AllByRecursion Q xs
all_weaker P Q so [] h = tt
all_weaker P Q so (x ∷ xs) h = (so x h.0, all_weaker P Q so xs h.1)

-- each pair of a sound placement is allowed
pub pairs_allowed : PairsAreAllowed
pairs_allowed p h = over p.chains h.entered where
  over : (chains : List Chain) → AllByRecursion (IsEntry p.bounds.version) (flat_map entries_in chains)
      → AllByRecursion (IsAllowed p.bounds.version) (flat_map pairs_in chains)
  over [] h = tt
  over (chain ∷ rest) h = AllByRecursion-append (IsAllowed p.bounds.version) (pairs_in chain)
      (flat_map pairs_in rest)
      (all_pairs (IsAllowed p.bounds.version) chain
      (all_weaker (IsEntry p.bounds.version) (λ e. IsAllowed p.bounds.version e.pair)
      (λ e is. is.allowed) (entries_in chain)
      (AllByRecursion-left (IsEntry p.bounds.version) (entries_in chain) (flat_map entries_in rest) h)))
      (over rest (AllByRecursion-right (IsEntry p.bounds.version) (entries_in chain)
      (flat_map entries_in rest) h))
