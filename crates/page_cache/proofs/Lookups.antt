-- What the calls of a cache leave of its entries.
use Rattle.lru.proofs.Splits.{Contains-cons}
use Rattle.std.proofs.Common.{◌∷◌, [], ◌≡◌, ◌⊎◌, inl, inr, ⊎_elim, ℕ, true, false, List, Option, Some, None, Result, Ok, Err, OnOk, OnErr, Contains, refl, sym, ◌∙◌, ap, subst, nat_eq}
use Rattle.std.proofs.lemmas.Bool.{eqb-true, false≢true}
use Rattle.std.proofs.lemmas.Cmp.{nat_eq_equiv}
use Rattle.std.proofs.lemmas.List.Elements.{All-from_recursion, All-contains}
use Rattle.std.proofs.lemmas.Map.{lookup-remove_entry, none_passes_from_lookup}
use Rattle.std.specs.Global.{Box}
use Rattle.std.specs.List.{IsDistinct}
use Rattle.std.specs.Map.{keys_of, lookup, lookup_entry, remove_entry, set_value}
use Rattle.std.specs.Option.{option_map_or}
use Rattle.lru.specs.LruCache.{LruCache, lru_cache, promoted, put_entries}
use Rattle.lru.proofs.CallerLemmas.{Contains-lookup, Contains-lookup_entry, Contains-put_entries, Contains-remove_entry}
use Rattle.page_cache.specs.Copies.{entries_of}
use Rattle.page_cache.specs.declared.page_copy.PageCopy.{PageCopy}

module _ (kept : Option (LruCache ℕ (Box PageCopy))) (cache : LruCache ℕ (Box PageCopy)) (is : kept ≡ Some cache) where
  -- the entries are the cache's
  pub same_entries : entries_of kept ≡ cache.entries
  same_entries = ap entries_of is

  -- what a look-up answers
  pub found_copy : (n : ℕ) (page : Box PageCopy) → Some page ≡ lookup (nat_eq n) cache.entries
      → Contains (entries_of kept) (n, page)
  found_copy n page value =
      let found = Contains-lookup (nat_eq n) cache.entries page (sym value) in
      subst (λ es. Contains es (n, page)) (sym same_entries)
      (subst (λ k. Contains cache.entries (k, page)) (sym (eqb-true n found.0 found.2)) found.1)

-- what is there once one was put in, or refused
pub after_put : {T E : Type 0} (cache : LruCache ℕ (Box PageCopy)) (result : Result T E)
    (new : LruCache ℕ (Box PageCopy)) (n : ℕ) (page : Box PageCopy)
    → OnOk result (new ≡ lru_cache (put_entries nat_eq cache n page) cache.cap)
    → OnErr result (new ≡ cache) → (k : ℕ) (one : Box PageCopy) → Contains new.entries (k, one)
    → Contains cache.entries (k, one) ⊎ ((k ≡ n) × (one ≡ page))
after_put cache (Ok x) new n page ok err k one c =
    elim (Contains-put_entries nat_eq cache n page (k, one)
    (subst (λ (l : LruCache ℕ (Box PageCopy)). Contains l.entries (k, one)) ok c)) [
      | inl old ↦ inl old
      | inr put ↦ inr (⊎_elim (λ e. e) (λ other. sym (eqb-true n k other.2)) put.1, put.0)
    ]
after_put cache (Err e) new n page ok err k one c =
    inl (subst (λ es. Contains es (k, one))
    (ap (λ (l : LruCache ℕ (Box PageCopy)). l.entries) err) c)

-- what is left once the one of page n was taken out
pub left_apart : (entries : List (ℕ × Box PageCopy)) (new : LruCache ℕ (Box PageCopy)) (cap n : ℕ)
    → IsDistinct nat_eq (keys_of entries) → new ≡ lru_cache (remove_entry (nat_eq n) entries) cap
    → (k : ℕ) (one : Box PageCopy) → Contains new.entries (k, one)
    → Contains entries (k, one) × (k ≡ n → ⊥)
left_apart entries new cap n distinct same k one c =
    let left = remove_entry (nat_eq n) entries in
    let none : lookup (nat_eq n) left ≡ None =
    lookup-remove_entry nat_eq_equiv (nat_eq n)
    (λ x y passes. ap (λ k. nat_eq k y) (eqb-true n x passes)) n entries distinct
    ∙ rw (nat_eq_equiv.refl n) refl in
    let all = All-from_recursion (λ e. nat_eq n e.0 ≡ false) left
    (none_passes_from_lookup (nat_eq n) left none) in
    let inside : Contains left (k, one) =
    subst (λ (l : LruCache ℕ (Box PageCopy)). Contains l.entries (k, one)) same c in (
      Contains-remove_entry (nat_eq n) entries (k, one) inside,
      λ is. false≢true (sym (All-contains (λ e. nat_eq n e.0 ≡ false) left (k, one) all inside)
          ∙ subst (λ m. nat_eq n m ≡ true) (sym is) (nat_eq_equiv.refl n)),
    )

-- no copy of page n is among those in which it isn't found
pub none_apart : (entries : List (ℕ × Box PageCopy)) (n : ℕ) → lookup (nat_eq n) entries ≡ None
    → (k : ℕ) (one : Box PageCopy) → Contains entries (k, one) → k ≡ n → ⊥
none_apart entries n none k one c is =
    let all = All-from_recursion (λ e. nat_eq n e.0 ≡ false) entries
    (none_passes_from_lookup (nat_eq n) entries none) in
    false≢true (sym (All-contains (λ e. nat_eq n e.0 ≡ false) entries (k, one) all c)
    ∙ subst (λ m. nat_eq n m ≡ true) (sym is) (nat_eq_equiv.refl n))

-- a value that is found has an entry
entry_of : (entries : List (ℕ × Box PageCopy)) (n : ℕ) (one : Box PageCopy)
    → lookup (nat_eq n) entries ≡ Some one
    → (e : ℕ × Box PageCopy) × (lookup_entry (nat_eq n) entries ≡ Some e)
entry_of [] n one found = cc
entry_of (e ∷ entries) n one found = (elim (nat_eq n e.0) as
    (λ b. nat_eq n e.0 ≡ b
    → (f : ℕ × Box PageCopy) × (lookup_entry (nat_eq n) (e ∷ entries) ≡ Some f)) [
      | true ↦ λ is. (e, rw is refl)
      | false ↦ λ other. let more = entry_of entries n one (rw other at found) in
          (more.0, rw other more.1)
    ]) refl

-- once the copy of page n, which went to the front, is another one
pub after_set : (entries : List (ℕ × Box PageCopy)) (n : ℕ) (old new : Box PageCopy)
    → IsDistinct nat_eq (keys_of entries) → lookup (nat_eq n) entries ≡ Some old
    → (k : ℕ) (one : Box PageCopy)
    → Contains (set_value (nat_eq n) (promoted (nat_eq n) entries) new) (k, one)
    → (Contains entries (k, one) × (k ≡ n → ⊥)) ⊎ ((k ≡ n) × (one ≡ new))
after_set entries n old new distinct found k one =
    in_front (lookup_entry (nat_eq n) entries) refl
  where
    rest : List (ℕ × Box PageCopy)
    rest = remove_entry (nat_eq n) entries

    in_front : (front : Option (ℕ × Box PageCopy)) → lookup_entry (nat_eq n) entries ≡ front
        → Contains (set_value (nat_eq n) (option_map_or (λ e. e ∷ rest) front entries) new) (k, one)
        → (Contains entries (k, one) × (k ≡ n → ⊥)) ⊎ ((k ≡ n) × (one ≡ new))
    in_front None none c = absurd (let is = entry_of entries n old found in cc)
    in_front (Some e) is c =
        let passes = (Contains-lookup_entry (nat_eq n) entries e is).1 in
        elim (Contains-cons (e.0, new) rest (k, one) (rw passes at c)) [
          | inl same ↦ inr (
            sym (ap (λ (f : ℕ × Box PageCopy). f.0) same) ∙ sym (eqb-true n e.0 passes),
            sym (ap (λ (f : ℕ × Box PageCopy). f.1) same),
          )
          | inr left ↦ inl (left_apart entries (lru_cache rest 1) 1 n distinct refl k one left)
        ]
