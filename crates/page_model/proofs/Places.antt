-- A pair put into a sound placement, or a key deleted, leaves a sound one, whose map is the map
-- with that change.
use Rattle.std.proofs.Common.{◌≡◌, ◌≢◌, ℕ, zero, suc, ◌++◌, ◌+◌, ◌^◌, ◌<◌, ◌≤◌, Bool, true, false, not, cond, List, [], ◌∷◌, length, filter, flat_map, get_or, set, sum_by, None, Some, Ordering, Equal, is_eq, refl, sym, ap, ◌∙◌, subst, ⊎_elim, arith, get_or-set_same, get_or-set_other, length-set}
use Rattle.std.specs.List.{AllByRecursion}
use Rattle.std.specs.Ordering.{eq_by_cmp}
use Rattle.std.specs.FinMap.{get, insert, get-from_entries, get-insert, get-remove, same_map, slice_cmp-IsAntisymmetric, nat_cmp-IsAntisymmetric, IsAntisymmetric}
use Rattle.std.specs.FinMap as fin
use Rattle.std.specs.FinMap.Entries.{find-where_key}
use Rattle.std.specs.Cmp.{eq_by_cmp_equiv, tied_itself}
use Rattle.std.proofs.lemmas.Cmp.{nat_list_cmp_total}
use Rattle.std.proofs.lemmas.List.{get_or_default}
use Rattle.std.proofs.lemmas.List.Sums.{sum_by-append, sum_by-cons}
use Rattle.std.proofs.lemmas.List.Filters.{sum_by-filter_both}
use Rattle.std.proofs.lemmas.Bool.{cases_eq}
use Rattle.page_model.specs.Address.{Shape, buckets, hash_of}
use Rattle.dbm_model.specs.Pairs.{Key, Pair, Contents, key_cmp, IsAllowed}
use Rattle.page_model.specs.PairLists.{has_key, times}
use Rattle.page_model.specs.Chain.{Entry, Chain, content_pages, entries_in, pairs_in, pages_in, is_at, has_room, add, remove, freed, IsEntry, IsChain}
use Rattle.page_model.specs.Space.{next_page, next_pages, after_take, after_takes, IsExact}
use Rattle.dbm_model.specs.Sizes.{segments_for}
use Rattle.page_model.specs.Placement.{Placement, pairs_of, contents, in_use, key_bucket, chain_at, put_entry, entry_for, with_content, put, delete, replace, IsInPlace, IsSoundBeside, IsSound}
use Rattle.page_model.specs.PlacementLaws.{ReplaceInserts, DeleteRemoves}
use Rattle.page_model.proofs.AddressLemmas.{address_below}
use Rattle.page_model.proofs.PairLists.{value_in, value_in-one, sum_by-flat_map-set}
use Rattle.page_model.proofs.Chains.{sum_by-add, sum_by-add_pages, value_in-add, All-add, all_pairs_add, entry_small, IsChain-add, entries_in-remove, pairs_in-remove, sum_by-remove_pages, IsChain-remove, AllByRecursion-filter, AllByRecursion-append, AllByRecursion-left, AllByRecursion-right}
use Rattle.page_model.proofs.Spaces.{IsExact-take, IsExact-takes, IsExact-give, IsExact-same, length-next_pages}

pub keys_exact : IsAntisymmetric key_cmp
keys_exact = slice_cmp-IsAntisymmetric nat_cmp-IsAntisymmetric

pub is_equal : (r : Ordering) → is_eq r ≡ true → r ≡ Equal
is_equal Ordering.Less e = cc
is_equal Ordering.Equal e = refl
is_equal Ordering.Greater e = cc

pub same_key : (q : Key) (pair : Pair) → has_key q pair ≡ true → q ≡ pair.0
same_key q pair e = keys_exact q pair.0 (is_equal _ e)

-- a key that finds nothing does not come, and the other way
pub times_none : (q : Key) (xs : List Pair) → value_in q xs ≡ None → times q xs ≡ 0
times_none q [] e = refl
times_none q (x ∷ xs) e =
    sum_by-cons (λ pair. cond (has_key q pair) 1 0) x xs
    ∙ elim (has_key q x) as (λ b.
    cond b (Some x.1) (value_in q xs) ≡ None → cond b 1 0 + times q xs ≡ 0) [
      | true ↦ λ e.
          cc
      | false ↦ λ e. let rest = times_none q xs e in omega arith
    ] e

-- a key of another bucket finds nothing
pub elsewhere : (shape : Shape) (q : Key) (bucket : ℕ) (xs : List Pair)
    → AllByRecursion (λ pair. key_bucket shape pair.0 ≡ bucket) xs → key_bucket shape q ≢ bucket
    → value_in q xs ≡ None
elsewhere shape q bucket [] h ne = refl
elsewhere shape q bucket (x ∷ xs) h ne =
    elim (has_key q x) as (λ b. has_key q x ≡ b → cond b (Some x.1) (value_in q xs) ≡ None) [
      | true ↦ λ t. absurd (ne (ap (key_bucket shape) (same_key q x t) ∙ h.0))
      | false ↦ λ t. elsewhere shape q bucket xs h.1 ne
    ] refl

-- a look-up is a look-up in the key's chain
pub value_at : (shape : Shape) (chains : List Chain) (q : Key) → shape.split < 2 ^ shape.level
    → length chains ≡ buckets shape → IsInPlace shape chains →
    value_in q (flat_map pairs_in chains)
    ≡ value_in q (pairs_in (get_or chains (key_bucket shape q) []))
value_at shape chains q split many h =
    let below : key_bucket shape q < length chains =
    (let l = address_below shape (hash_of q) split in omega arith) in
    value_in-one q pairs_in chains (key_bucket shape q) [] below (λ j e l ne.
    ap (λ c. value_in q (pairs_in c)) (get_or_default chains j e [] l)
    ∙ elsewhere shape q j _ (h j l).1 (λ same. ne (sym same)))

-- a chain of a bucket is written
pub in_place-set : (shape : Shape) (chains : List Chain) (bucket : ℕ) (chain : Chain)
    → bucket < length chains → IsInPlace shape chains → IsChain chain
    → AllByRecursion (λ pair. key_bucket shape pair.0 ≡ bucket) (pairs_in chain)
    → IsInPlace shape (set chains bucket chain)
in_place-set shape chains bucket chain l h k a =
    λ j in'. ⊎_elim
    (λ same. subst (λ i. IsChain (get_or (set chains bucket chain) i [])
    × AllByRecursion (λ pair. key_bucket shape pair.0 ≡ i)
    (pairs_in (get_or (set chains bucket chain) i []))) (sym same)
    (subst (λ c. IsChain c × AllByRecursion (λ pair. key_bucket shape pair.0 ≡ bucket) (pairs_in c))
    (sym (get_or-set_same chains bucket chain [] l)) (k, a)))
    (λ ne. subst (λ c. IsChain c × AllByRecursion (λ pair. key_bucket shape pair.0 ≡ j)
    (pairs_in c)) (sym (get_or-set_other chains bucket j chain [] ne))
    (h j (omega (arith, length-set chains bucket chain))))
    (cases_eq j bucket)

-- what holds of all entries of a list of chains, where one of them is written
pub all_at : (P : Entry → Type 0) (chains : List Chain) (i : ℕ) → i < length chains
    → AllByRecursion P (flat_map entries_in chains) → AllByRecursion P (entries_in (get_or chains i []))
all_at P [] i l h = absurd (omega arith)
all_at P (chain ∷ rest) zero l h =
    AllByRecursion-left P (entries_in chain) (flat_map entries_in rest) h
all_at P (chain ∷ rest) (suc i) l h =
    all_at P rest i (omega arith) (AllByRecursion-right P (entries_in chain) (flat_map entries_in rest) h)

pub all_set : (P : Entry → Type 0) (chains : List Chain) (i : ℕ) (new : Chain)
    → AllByRecursion P (entries_in new) → AllByRecursion P (flat_map entries_in chains)
    → AllByRecursion P (flat_map entries_in (set chains i new))
all_set P [] i new here h = tt
all_set P (chain ∷ rest) zero new here h =
    AllByRecursion-append P (entries_in new) (flat_map entries_in rest) here
    (AllByRecursion-right P (entries_in chain) (flat_map entries_in rest) h)
all_set P (chain ∷ rest) (suc i) new here h =
    AllByRecursion-append P (entries_in chain) (flat_map entries_in (set rest i new))
    (AllByRecursion-left P (entries_in chain) (flat_map entries_in rest) h)
    (all_set P rest i new here (AllByRecursion-right P (entries_in chain) (flat_map entries_in rest) h))

module _ (held : List ℕ) (p : Placement) (h : IsSoundBeside held p) where
  bucket_below : (key : Key) → key_bucket p.shape key < length p.chains
  bucket_below key = let l = address_below p.shape (hash_of key) h.split_in in let e =
      h.all_buckets in omega arith

  -- one pair more, whatever is summed
  pub sum_by-put : (entry : Entry) (f : Pair → ℕ)
      → sum_by f (pairs_of (put_entry p entry)) ≡ sum_by f (pairs_of p) + f entry.pair
  sum_by-put entry f =
      let bucket = key_bucket p.shape entry.pair.0 in
      let chain = chain_at p bucket in
      let a = sum_by-flat_map-set f pairs_in p.chains bucket (add entry (next_page p.space) chain) []
      (bucket_below entry.pair.0) in
      let b = sum_by-add f entry (next_page p.space) chain in
      omega arith

  -- the pages of its content were held, and are in use then
  put_pages : (entry : Entry) (rest : List ℕ)
      → ((f : ℕ → ℕ) → sum_by f held ≡ sum_by f entry.pages + sum_by f rest)
      → IsExact (rest ++ in_use (put_entry p entry)) (put_entry p entry).space
  put_pages entry rest parts =
      let bucket = key_bucket p.shape entry.pair.0 in
      let chain = chain_at p bucket in
      let new = add entry (next_page p.space) chain in
      let sums : (f : ℕ → ℕ) → sum_by f (rest ++ in_use (put_entry p entry)) + 0
      ≡ sum_by f (held ++ in_use p)
      + sum_by f (cond (has_room entry chain) [] (next_page p.space ∷ []))
      = λ (f : ℕ → ℕ).
      let a = sum_by-flat_map-set f pages_in p.chains bucket new [] (bucket_below entry.pair.0) in
      let b = sum_by-add_pages f entry (next_page p.space) chain in
      let c = sum_by-append f (1 ∷ p.segments) (flat_map pages_in p.chains) in
      let d = sum_by-append f (1 ∷ p.segments) (flat_map pages_in (set p.chains bucket new)) in
      let e = parts f in
      let g = sum_by-append f held (in_use p) in
      let i = sum_by-append f rest (in_use (put_entry p entry)) in
      omega arith in
      elim (has_room entry chain) as
      (λ b. ((f : ℕ → ℕ) → sum_by f (rest ++ in_use (put_entry p entry)) + 0
      ≡ sum_by f (held ++ in_use p) + sum_by f (cond b [] (next_page p.space ∷ [])))
      → IsExact (rest ++ in_use (put_entry p entry)) (cond b p.space (after_take p.space))) [
        | true ↦ λ s. IsExact-same (held ++ in_use p) _ p.space
            (λ f. let e = s f in omega arith) h.pages
        | false ↦ λ s. IsExact-take (held ++ in_use p) _ p.space
            (λ f. let e = s f in omega arith) h.pages
      ] sums

  pub put_in_place : (entry : Entry) → IsEntry p.bounds.version entry
      → IsInPlace p.shape (put_entry p entry).chains
  put_in_place entry is =
      let bucket = key_bucket p.shape entry.pair.0 in
      let here = h.in_place bucket (bucket_below entry.pair.0) in
      in_place-set p.shape p.chains bucket _ (bucket_below entry.pair.0) h.in_place
      (IsChain-add entry (next_page p.space) (chain_at p bucket)
      (entry_small p.bounds.version entry is) here.0)
      (all_pairs_add (λ x. key_bucket p.shape x.0 ≡ bucket) entry (next_page p.space)
      (chain_at p bucket) refl here.1)

  pub put_sound : (entry : Entry) (rest : List ℕ)
      → ((f : ℕ → ℕ) → sum_by f held ≡ sum_by f entry.pages + sum_by f rest)
      → IsEntry p.bounds.version entry → value_in entry.pair.0 (pairs_of p) ≡ None
      → IsSoundBeside rest (put_entry p entry)
  put_sound entry rest parts is new = record {
    split_in = h.split_in;
    all_buckets = length-set p.chains _ _ ∙ h.all_buckets;
    all_segments = h.all_segments
        ∙ ap segments_for (sym (length-set p.chains (key_bucket p.shape entry.pair.0)
        (add entry (next_page p.space) (chain_at p (key_bucket p.shape entry.pair.0)))));
    pages = put_pages entry rest parts;
    in_place = put_in_place entry is;
    no_key_twice = λ q. subst (λ n. n ≤ 1) (sym (sum_by-put entry (λ x. cond (has_key q x) 1 0)))
        (elim (has_key q entry.pair) as (λ b.
        has_key q entry.pair ≡ b → times q (pairs_of p) + cond b 1 0 ≤ 1) [
          | true ↦ λ t. let none = times_none q (pairs_of p)
              (ap (λ k. value_in k (pairs_of p)) (same_key q entry.pair t) ∙ new) in omega arith
          | false ↦ λ t. let few = h.no_key_twice q in omega arith
        ] refl);
    entered = all_set (IsEntry p.bounds.version) p.chains (key_bucket p.shape entry.pair.0) _
        (All-add (IsEntry p.bounds.version) entry (next_page p.space)
        (chain_at p (key_bucket p.shape entry.pair.0)) is
        (all_at (IsEntry p.bounds.version) p.chains (key_bucket p.shape entry.pair.0)
        (bucket_below entry.pair.0) h.entered)) h.entered;
  }

  -- a look-up after it
  pub value_in-put : (entry : Entry) → IsEntry p.bounds.version entry
      → value_in entry.pair.0 (pairs_of p) ≡ None
      → (q : Key) → value_in q (pairs_of (put_entry p entry))
      ≡ cond (has_key q entry.pair) (Some entry.pair.1) (value_in q (pairs_of p))
  value_in-put entry is none q =
      let pair = entry.pair in
      let bucket = key_bucket p.shape pair.0 in
      let chain = chain_at p bucket in
      let new = add entry (next_page p.space) chain in
      let before = value_at p.shape p.chains q h.split_in h.all_buckets h.in_place in
      let after = value_at p.shape (set p.chains bucket new) q h.split_in
      (length-set p.chains bucket new ∙ h.all_buckets) (put_in_place entry is) in
      after ∙ ⊎_elim
      (λ same. ap (λ i. value_in q (pairs_in (get_or (set p.chains bucket new) i []))) same
      ∙ ap (λ c. value_in q (pairs_in c))
      (get_or-set_same p.chains bucket new [] (bucket_below pair.0))
      ∙ value_in-add q entry (next_page p.space) chain
      (λ t. ap (λ i. value_in q (pairs_in (chain_at p i))) (sym same) ∙ sym before
      ∙ ap (λ k. value_in k (pairs_of p)) (same_key q pair t) ∙ none)
      ∙ ap (λ i. cond (has_key q pair) (Some pair.1) (value_in q (pairs_in (chain_at p i))))
      (sym same)
      ∙ ap (cond (has_key q pair) (Some pair.1)) (sym before))
      (λ ne. ap (λ c. value_in q (pairs_in c))
      (get_or-set_other p.chains bucket (key_bucket p.shape q) new [] ne)
      ∙ sym before
      ∙ elim (has_key q pair) as (λ b.
      has_key q pair ≡ b → value_in q (pairs_of p)
      ≡ cond b (Some pair.1) (value_in q (pairs_of p))) [
        | true ↦ λ t. absurd (ne (ap (key_bucket p.shape) (same_key q pair t)))
        | false ↦ λ t. refl
      ] refl)
      (cases_eq (key_bucket p.shape q) bucket)

  pub contents-put : (entry : Entry) → IsEntry p.bounds.version entry
      → value_in entry.pair.0 (pairs_of p) ≡ None
      → contents (put_entry p entry) ≡ insert (contents p) entry.pair.0 entry.pair.1
  contents-put entry is none = same_map nat_list_cmp_total keys_exact _ _ (λ q.
      get-from_entries nat_list_cmp_total (pairs_of (put_entry p entry)) q
      ∙ value_in-put entry is none q
      ∙ ap (cond (has_key q entry.pair) (Some entry.pair.1))
      (sym (get-from_entries nat_list_cmp_total (pairs_of p) q))
      ∙ sym (get-insert nat_list_cmp_total (contents p) entry.pair.0 entry.pair.1 q))

  -- ---- the pages of a content

  pub taken_sound : (k : ℕ)
      → IsSoundBeside (next_pages k p.space ++ held) (record p { space = after_takes k p.space })
  taken_sound k = record {
    split_in = h.split_in;
    all_buckets = h.all_buckets;
    all_segments = h.all_segments;
    pages = IsExact-same (next_pages k p.space ++ (held ++ in_use p))
        ((next_pages k p.space ++ held) ++ in_use p) (after_takes k p.space)
        (λ f. let a = sum_by-append f (next_pages k p.space) (held ++ in_use p) in
        let b = sum_by-append f held (in_use p) in
        let c = sum_by-append f (next_pages k p.space ++ held) (in_use p) in
        let d = sum_by-append f (next_pages k p.space) held in omega arith)
        (IsExact-takes k (held ++ in_use p) p.space h.pages);
    in_place = h.in_place;
    no_key_twice = h.no_key_twice;
    entered = h.entered;
  }

  -- ---- delete

  -- what is deleted and what stays
  pub sum_by-delete : (key : Key) (f : Pair → ℕ)
      → sum_by f (pairs_of (delete p key))
      + sum_by f (filter (has_key key) (pairs_in (chain_at p (key_bucket p.shape key))))
      ≡ sum_by f (pairs_of p)
  sum_by-delete key f =
      let bucket = key_bucket p.shape key in
      let chain = chain_at p bucket in
      let a = sum_by-flat_map-set f pairs_in p.chains bucket (remove key chain) []
      (bucket_below key) in
      let b = ap (sum_by f) (pairs_in-remove key chain) in
      let c = sum_by-filter_both (has_key key) (λ pair. not (has_key key pair)) (λ _. refl) f
      (pairs_in chain) in
      omega arith

  delete_pages : (key : Key) → IsExact (held ++ in_use (delete p key)) (delete p key).space
  delete_pages key =
      let bucket = key_bucket p.shape key in
      let chain = chain_at p bucket in
      IsExact-give (held ++ in_use p) (held ++ in_use (delete p key)) (freed key chain) p.space (λ f.
      let a = sum_by-flat_map-set f pages_in p.chains bucket (remove key chain) []
      (bucket_below key) in
      let b = sum_by-remove_pages f key chain in
      let c = sum_by-append f (1 ∷ p.segments) (flat_map pages_in p.chains) in
      let d = sum_by-append f (1 ∷ p.segments)
      (flat_map pages_in (set p.chains bucket (remove key chain))) in
      let e = sum_by-append f held (in_use p) in
      let g = sum_by-append f held (in_use (delete p key)) in
      omega arith) h.pages

  delete_in_place : (key : Key) → IsInPlace p.shape (delete p key).chains
  delete_in_place key =
      let bucket = key_bucket p.shape key in
      let chain = chain_at p bucket in
      let here = h.in_place bucket (bucket_below key) in
      in_place-set p.shape p.chains bucket (remove key chain) (bucket_below key) h.in_place
      (IsChain-remove key chain here.0)
      (subst (λ xs. AllByRecursion (λ pair. key_bucket p.shape pair.0 ≡ bucket) xs)
      (sym (pairs_in-remove key chain))
      (AllByRecursion-filter (λ pair. key_bucket p.shape pair.0 ≡ bucket)
      (λ pair. not (has_key key pair)) (pairs_in chain) here.1))

  pub delete_sound : (key : Key) → IsSoundBeside held (delete p key)
  delete_sound key = record {
    split_in = h.split_in;
    all_buckets = length-set p.chains _ _ ∙ h.all_buckets;
    all_segments = h.all_segments
        ∙ ap segments_for (sym (length-set p.chains (key_bucket p.shape key)
        (remove key (chain_at p (key_bucket p.shape key)))));
    pages = delete_pages key;
    in_place = delete_in_place key;
    no_key_twice = λ q. let few = h.no_key_twice q in let parts =
        sum_by-delete key (λ x. cond (has_key q x) 1 0) in omega arith;
    entered = all_set (IsEntry p.bounds.version) p.chains (key_bucket p.shape key) _
        (subst (AllByRecursion (IsEntry p.bounds.version))
        (sym (entries_in-remove key (chain_at p (key_bucket p.shape key))))
        (AllByRecursion-filter (IsEntry p.bounds.version) (λ entry. not (is_at key entry))
        (entries_in (chain_at p (key_bucket p.shape key)))
        (all_at (IsEntry p.bounds.version) p.chains (key_bucket p.shape key) (bucket_below key)
        h.entered))) h.entered;
  }

  pub value_in-delete : (key q : Key)
      → value_in q (pairs_of (delete p key))
      ≡ cond (not (eq_by_cmp key_cmp key q)) (value_in q (pairs_of p)) None
  value_in-delete key q =
      let bucket = key_bucket p.shape key in
      let chain = chain_at p bucket in
      let before = value_at p.shape p.chains q h.split_in h.all_buckets h.in_place in
      let after = value_at p.shape (set p.chains bucket (remove key chain)) q h.split_in
      (length-set p.chains bucket (remove key chain) ∙ h.all_buckets) (delete_in_place key) in
      let keep = λ (x : Key). not (eq_by_cmp key_cmp key x) in
      after ∙ ⊎_elim
      (λ same. ap (λ i. value_in q (pairs_in
      (get_or (set p.chains bucket (remove key chain)) i []))) same
      ∙ ap (λ c. value_in q (pairs_in c))
      (get_or-set_same p.chains bucket (remove key chain) [] (bucket_below key))
      ∙ ap (value_in q) (pairs_in-remove key chain)
      ∙ find-where_key key_cmp keep q (λ x e. ap keep (sym (keys_exact q x e))) (pairs_in chain)
      ∙ ap (λ i. cond (keep q) (value_in q (pairs_in (chain_at p i))) None) (sym same)
      ∙ ap (λ o. cond (keep q) o None) (sym before))
      (λ ne. ap (λ c. value_in q (pairs_in c))
      (get_or-set_other p.chains bucket (key_bucket p.shape q) (remove key chain) [] ne)
      ∙ sym before
      ∙ elim (eq_by_cmp key_cmp key q) as
      (λ b. eq_by_cmp key_cmp key q ≡ b
      → value_in q (pairs_of p) ≡ cond (not b) (value_in q (pairs_of p)) None) [
        | true ↦ λ t. absurd (ne (ap (key_bucket p.shape) (sym (same_key key (q, []) t))))
        | false ↦ λ t. refl
      ] refl)
      (cases_eq (key_bucket p.shape q) bucket)

  turned : {A : Type 0} (b : Bool) (x y : A) → cond (not b) x y ≡ cond b y x
  turned true x y = refl
  turned false x y = refl

  pub contents-delete : (key : Key) → contents (delete p key) ≡ fin.remove (contents p) key
  contents-delete key = same_map nat_list_cmp_total keys_exact _ _ (λ q.
      get-from_entries nat_list_cmp_total (pairs_of (delete p key)) q ∙ value_in-delete key q
      ∙ turned (eq_by_cmp key_cmp key q) _ _
      ∙ ap (λ b. cond b None (value_in q (pairs_of p)))
      ((eq_by_cmp_equiv nat_list_cmp_total).symm key q)
      ∙ ap (cond (eq_by_cmp key_cmp q key) None)
      (sym (get-from_entries nat_list_cmp_total (pairs_of p) q))
      ∙ sym (get-remove nat_list_cmp_total (contents p) key q))

  pub deleted_finds_none : (key : Key) → value_in key (pairs_of (delete p key)) ≡ None
  deleted_finds_none key = value_in-delete key key
      ∙ ap (λ b. cond (not b) (value_in key (pairs_of p)) None)
      (ap is_eq (tied_itself nat_list_cmp_total key))

-- insert after remove is insert
pub insert-remove : (m : Contents) (key : Key) (content : List ℕ)
    → insert (fin.remove m key) key content ≡ insert m key content
insert-remove m key content = same_map nat_list_cmp_total keys_exact _ _ (λ q.
    get-insert nat_list_cmp_total (fin.remove m key) key content q
    ∙ ap (cond (eq_by_cmp key_cmp q key) (Some content)) (get-remove nat_list_cmp_total m key q)
    ∙ elim (eq_by_cmp key_cmp q key) as
    (λ b. cond b (Some content) (cond b None (get m q))
    ≡ cond b (Some content) (get m q)) [ true ↦ refl | false ↦ refl ]
    ∙ sym (get-insert nat_list_cmp_total m key content q))

-- the entry that a pair gets
pub is_entry_for : (p : Placement) (pair : Pair) → IsAllowed p.bounds.version pair
    → IsEntry p.bounds.version (entry_for p pair)
is_entry_for p pair allowed =
    record { allowed = allowed; paged = length-next_pages (content_pages pair) p.space }

pub put_is_sound : (held : List ℕ) (p : Placement) → IsSoundBeside held p → (pair : Pair)
    → IsAllowed p.bounds.version pair → value_in pair.0 (pairs_of p) ≡ None
    → IsSoundBeside held (put p pair)
put_is_sound held p h pair allowed none =
    let pages = next_pages (content_pages pair) p.space in
    put_sound (pages ++ held) (with_content p pair) (taken_sound held p h (content_pages pair))
    (entry_for p pair) held (λ f. sum_by-append f pages held) (is_entry_for p pair allowed) none

pub replace_sound : (p : Placement) → IsSound p → (pair : Pair) → IsAllowed p.bounds.version pair
    → IsSound (replace p pair)
replace_sound p h pair allowed =
    put_is_sound [] (delete p pair.0) (delete_sound [] p h pair.0) pair allowed
    (deleted_finds_none [] p h pair.0)

pub contents-replace : (p : Placement) → IsSound p → (pair : Pair)
    → IsAllowed p.bounds.version pair
    → contents (replace p pair) ≡ insert (contents p) pair.0 pair.1
contents-replace p h pair allowed =
    let q = delete p pair.0 in
    contents-put (next_pages (content_pages pair) q.space ++ []) (with_content q pair)
    (taken_sound [] q (delete_sound [] p h pair.0) (content_pages pair)) (entry_for q pair)
    (is_entry_for q pair allowed) (deleted_finds_none [] p h pair.0)
    ∙ ap (λ m. insert m pair.0 pair.1) (contents-delete [] p h pair.0)
    ∙ insert-remove (contents p) pair.0 pair.1

pub replace_inserts : ReplaceInserts
replace_inserts p pair h allowed = (replace_sound p h pair allowed, contents-replace p h pair allowed)

pub delete_removes : DeleteRemoves
delete_removes p key h = (delete_sound [] p h key, contents-delete [] p h key)
