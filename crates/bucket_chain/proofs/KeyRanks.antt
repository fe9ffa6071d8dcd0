-- The ranks of a page's keys, slot by slot.
use Rattle.std.proofs.Common.{◌≡◌, ◌≢◌, ℕ, ◌+◌, ◌<◌, ◌↔◌, Bool, IsTrue, List, [], ◌∷◌, ◌++◌, None, length, get_or, take, sym, ap, ◌∙◌, subst, arith, refl, inl, inr, nat_cmp, Less, Greater}
use Rattle.std.specs.Cmp.{nat_cmp_is}
use Rattle.std.specs.Cmp.Lexicographic.{slice_cmp}
use Rattle.std.specs.Ordering.{ordering_then}
use Rattle.std.specs.declared.cmp.Ordering.{Ordering}
use Rattle.std.specs.List.{HoldsAt}
use Rattle.std.proofs.lemmas.Bool.{cases_lt}
use Rattle.std.proofs.lemmas.List.{take_more, length-map, get_or-map, get_or_default}
use Rattle.dbm_model.specs.KeyOrder.{hash_of, rank, ComesBefore}
use Rattle.dbm_model.specs.Pairs.{Key}
use Rattle.page_model.specs.Pages.{Record}
use Rattle.page_io.specs.BucketPages.{IsBucketPage, page_records}
use Rattle.bucket_chain.specs.Bests.{IsRankedAt}
use Rattle.bucket_chain.specs.KeyRanks.{key_ranks}

blank : Record
blank = record { key = []; bytes = []; far = None }

-- the rank in each slot is that of its key
pub rank_there : (bytes : List ℕ) (slot : ℕ) → slot < length (page_records bytes)
    → (d : ℕ) → HoldsAt (λ r. get_or (key_ranks bytes) slot d ≡ rank (hash_of r.key))
    (page_records bytes) slot
rank_there bytes slot within d e =
    get_or-map (λ (r : Record). rank (hash_of r.key)) (page_records bytes) slot e d within

-- one rank more
pub ranked_more : (bytes : List ℕ) (slot : ℕ) (key content : List ℕ)
    → slot < length (page_records bytes)
    → HoldsAt (λ r. (r.key ≡ key) × (r.bytes ≡ content)) (page_records bytes) slot
    → take slot (key_ranks bytes) ++ rank (hash_of key) ∷ [] ≡ take (slot + 1) (key_ranks bytes)
ranked_more bytes slot key content within there =
    ap (λ (r : ℕ). take slot (key_ranks bytes) ++ r ∷ [])
    (sym (rank_there bytes slot within 0 blank
    ∙ ap (λ (k : List ℕ). rank (hash_of k)) ((there blank).0)))
    ∙ sym (take_more (key_ranks bytes) slot 0
    (omega (arith, within, length-map (page_records bytes) (λ (r : Record). rank (hash_of r.key)))))

-- a slot with the rank that is kept of its key
pub ranked_slot : (bytes ranks : List ℕ) (slot : ℕ) → IsBucketPage bytes → ranks ≡ key_ranks bytes
    → slot < length ranks → IsRankedAt bytes (record { slot = slot; rank = get_or ranks slot 0 })
ranked_slot bytes ranks slot page are within =
    let here : slot < length (page_records bytes) =
    omega (
      arith,
      within,
      ap length are,
      length-map (page_records bytes) (λ (r : Record). rank (hash_of r.key)),
    ) in
    record {
      key = (get_or (page_records bytes) slot blank).key;
      page = page;
      has = (
        here,
        λ d. ap (λ (r : Record). r.key) (get_or_default (page_records bytes) slot d blank here),
      );
      rank_is = ap (λ (xs : List ℕ). get_or xs slot 0) are ∙ rank_there bytes slot here 0 blank;
    }

-- ---- two ranks that aren't one decide

less_first : (a b : ℕ) (o : Ordering) (t : Bool) → a ≢ b → IsTrue t ↔ (a < b)
    → IsTrue t ↔ (ordering_then (nat_cmp a b) o ≡ Less)
less_first a b o t not less = elim (cases_lt a b) [
  | inl lt ↦
      let first : Less ≡ nat_cmp a b = nat_cmp_is a b Less lt in
      rw (← first) (λ _. refl, λ _. less.1 lt)
  | inr ge ↦
      let behind : Greater ≡ nat_cmp a b = nat_cmp_is a b Greater (omega arith) in
      rw (← behind) (λ is. absurd (let lt = less.0 is in omega arith), λ e. cc)
]

pub order_by_rank : (key other : Key) (a b : ℕ) (t : Bool) → a ≡ rank (hash_of key)
    → b ≡ rank (hash_of other) → a ≢ b → IsTrue t ↔ (a < b) → IsTrue t ↔ ComesBefore key other
order_by_rank key other a b t of_key of_other not less =
    let by_bytes = slice_cmp nat_cmp key other in
    subst (λ (x : ℕ).
    IsTrue t ↔ (ordering_then (nat_cmp x (rank (hash_of other))) by_bytes ≡ Less)) of_key
    (subst (λ (y : ℕ). IsTrue t ↔ (ordering_then (nat_cmp a y) by_bytes ≡ Less)) of_other
    (less_first a b by_bytes t not less))
