-- The least key of a chain, as it is read page by page.
use Rattle.std.proofs.Common.{◌≡◌, ◌≢◌, ℕ, ◌+◌, ◌≤◌, List, [], ◌++◌, map, Option, refl, sym, subst}
use Rattle.std.proofs.lemmas.List.{map-append}
use Rattle.dbm_model.specs.Bounds.{Version}
use Rattle.dbm_model.specs.Pairs.{Pair}
use Rattle.dbm_model.specs.States.{Pass}
use Rattle.page_model.specs.Pages.{Body, Record}
use Rattle.page_model.specs.Chain.{Chain, pairs_in}
use Rattle.bucket_chain.specs.Bests.{IsHeadRead}
use Rattle.bucket_chain.specs.Chains.{record_pair, IsChainAt}
use Rattle.bucket_chain.specs.Leasts.{IsLeast, IsLeastRead}
use Rattle.bucket_chain.specs.Links.{SaysLink}
use Rattle.bucket_chain.proofs.LoadedRecords.{AreLoaded, none_loaded, more_loaded, all_loaded, all_of}
use Rattle.bucket_chain.proofs.LeastKeys.{least_of_chain}

-- The best slot so far is that of the records of the pages that were read. What they say has the
-- premise.
pub record IsBestSoFar (Premise : Type 0) (at : ℕ → Body) (head n kind step : ℕ) (from : Pass)
    (bytes : List ℕ) (best : Option ℕ) : Type 0 where
  pub records : List Record
  pub least : IsLeast (map record_pair records) from bytes best
  pub loaded : Premise → AreLoaded at head n kind step records

-- behind the head page
pub best_of_head : (Premise : Type 0) (version : Version) (at : ℕ → Body) (head n : ℕ) (from : Pass)
    (bytes : List ℕ) (best : Option ℕ) (records : List Record)
    → IsLeast (map record_pair records) from bytes best
    → (Premise → IsHeadRead version at head n records)
    → IsBestSoFar Premise at head n 4 1 from bytes best
best_of_head Premise version at head n from bytes best records least read = record {
  records = records;
  least = least;
  loaded = λ h. more_loaded version at head head 3 0 n [] records records
      (none_loaded at head [] refl) (read h).says (read h).some refl (read h).more;
}

module _ (Premise : Type 0) (version : Version) (at : ℕ → Body) (head n kind step next : ℕ)
    (from : Pass) (bytes new : List ℕ) (best better : Option ℕ) (here : List Record)
    (so_far : IsBestSoFar Premise at head n kind step from bytes best)
    (merged : IsLeast (map record_pair so_far.records ++ map record_pair here) from new better)
    (some : 1 ≤ n) where
  all_least : IsLeast (map record_pair (so_far.records ++ here)) from new better
  all_least = subst (λ (pairs : List Pair). IsLeast pairs from new better)
      (sym (map-append record_pair so_far.records here)) merged

  -- one page more
  pub best_goes_on : (Premise → SaysLink version at n kind next here) → next ≢ 0
      → IsBestSoFar Premise at head next 4 (step + 1) from new better
  best_goes_on link more = record {
    records = so_far.records ++ here;
    least = all_least;
    loaded = λ h. more_loaded version at head n kind step next so_far.records
        (so_far.records ++ here) here (so_far.loaded h) (link h) some refl more;
  }

  -- the last
  pub best_is_read : Premise → SaysLink version at n kind next here → next ≡ 0
      → IsLeastRead at head from new better
  best_is_read h link last = record {
    records = so_far.records ++ here;
    says = all_loaded version at head n kind step next so_far.records
        (so_far.records ++ here) here (so_far.loaded h) link some refl last;
    least = all_least;
  }

  -- of a chain that is read as one it is the chain's
  pub best_is_least : Premise → SaysLink version at n kind next here → (end : ℕ) (chain : Chain)
      → IsChainAt version at end head chain → next ≡ 0
      → IsLeast (pairs_in chain) from new better
  best_is_least h link end chain is last =
      least_of_chain chain (so_far.records ++ here) from new better
      (all_of version at head n kind step next so_far.records (so_far.records ++ here) here
      (so_far.loaded h) link some refl end chain is last) all_least

-- the head page alone, where it is the last
module _ (version : Version) (at : ℕ → Body) (head next : ℕ) (from : Pass) (bytes : List ℕ)
    (best : Option ℕ) (here : List Record) (least : IsLeast (map record_pair here) from bytes best)
    (some : 1 ≤ head) (link : SaysLink version at head 3 next here) (last : next ≡ 0) where
  pub head_is_read : IsLeastRead at head from bytes best
  head_is_read = record {
    records = here;
    says = all_loaded version at head head 3 0 next [] here here (none_loaded at head [] refl) link
        some refl last;
    least = least;
  }

  pub head_is_least : (end : ℕ) (chain : Chain) → IsChainAt version at end head chain
      → IsLeast (pairs_in chain) from bytes best
  head_is_least end chain is =
      least_of_chain chain here from bytes best
      (all_of version at head head 3 0 next [] here here (none_loaded at head [] refl) link some
      refl end chain is last) least
