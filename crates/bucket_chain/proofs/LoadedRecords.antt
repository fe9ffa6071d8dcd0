-- The records that were copied.
use Rattle.std.proofs.Common.{◌≡◌, ◌≢◌, ℕ, zero, suc, ◌+◌, ◌<◌, ◌≤◌, List, [], ◌∷◌, ◌++◌, length, map, take, true, Result, Ok, Err, OnOk, sym, ap, ◌∙◌, subst, append_assoc, append-nil, arith}
use Rattle.std.specs.Result.{is_ok}
use Rattle.std.proofs.lemmas.List.{map-append, take_more}
use Rattle.std.proofs.lemmas.List.Concat.{flat_map-append}
use Rattle.std.specs.Prelude.{All}
use Rattle.std.specs.List.{HoldsAt, AllByRecursion}
use Rattle.dbm_model.specs.Bounds.{Version}
use Rattle.page_model.specs.Slots.{taken}
use Rattle.page_model.specs.Pages.{Body, Record}
use Rattle.page_model.specs.Valid.{IsRecord, IsOf}
use Rattle.page_model.specs.Chain.{Chain, entries_in, record_of}
use Rattle.page_model.proofs.Chains.{AllByRecursion-append, AllByRecursion-right}
use Rattle.page_io.specs.BucketPages.{IsPageOf, page_records}
use Rattle.bucket_chain.specs.Links.{SaysLink}
use Rattle.bucket_chain.specs.Chains.{ReadLeaf, ReadChain, all_records, chain_read, IsChainAt, BeginsAt}
use Rattle.bucket_chain.specs.Walks.{SaysAll}
use Rattle.bucket_chain.specs.Pairs.{record_as, IsSmall}
use Rattle.bucket_chain.specs.declared.pair.Pair as code
use Rattle.bucket_chain.proofs.Walks.{leaf_of, AreNumbered, IsUnderWay, read_as, all_records_read, walk_starts, walk_goes_on, passed_more, numbered_more, begins_same}
use Rattle.bucket_chain.proofs.KeyWalks.{none_later}

-- the call went well
pub went_well : {T E : Type 0} (P : Type 0) (result : Result T E) → true ≡ is_ok result
    → OnOk result P → P
went_well P (Ok value) ok here = here
went_well P (Err e) ok here = absurd (cc)

-- one more of a page
pub copied_more : (records : List Record) (old now new : List code.Pair) (slot : ℕ)
    (pair : code.Pair) → map record_as now ≡ map record_as old ++ take slot records
    → slot < length records → HoldsAt (λ r. r ≡ record_as pair) records slot
    → new ≡ now ++ pair ∷ []
    → map record_as new ≡ map record_as old ++ take (slot + 1) records
copied_more records old now new slot pair before within there pushed =
    let here : take slot records ++ record_as pair ∷ [] ≡ take (slot + 1) records =
    ap (λ (r : Record). take slot records ++ r ∷ []) (sym (there (record_as pair)))
    ∙ sym (take_more records slot (record_as pair) within) in
    ap (map record_as) pushed ∙ map-append record_as now (pair ∷ [])
    ∙ ap (λ (xs : List Record). xs ++ record_as pair ∷ []) before
    ∙ append_assoc (map record_as old) (take slot records) (record_as pair ∷ [])
    ∙ ap (λ (xs : List Record). map record_as old ++ xs) here

-- the pages that a walk passed, and their records
abbrev Any : ReadLeaf → Type 0
Any leaf = Unit {0}

pub record AreLoaded (at : ℕ → Body) (head n kind step : ℕ) (records : List Record)
    : Type 0 where
  pub walk : IsUnderWay at head Any n kind step
  pub all : records ≡ all_records walk.before

pub none_loaded : (at : ℕ → Body) (head : ℕ) (records : List Record) → records ≡ []
    → AreLoaded at head head 3 0 records
unfolding walk_starts
none_loaded at head records none = record { walk = walk_starts at head Any; all = none }

module _ (version : Version) (at : ℕ → Body) (head n kind step next : ℕ)
    (old new here : List Record) (loaded : AreLoaded at head n kind step old)
    (link : SaysLink version at n kind next here) (some : 1 ≤ n)
    (appended : new ≡ old ++ here) where
  all_now : new ≡ all_records (loaded.walk.before ++ leaf_of n here ∷ [])
  all_now = appended ∙ ap (λ (xs : List Record). xs ++ here) loaded.all
      ∙ ap (λ (xs : List Record). all_records loaded.walk.before ++ xs) (sym (append-nil here))
      ∙ sym (flat_map-append (λ (leaf : ReadLeaf). leaf.records) loaded.walk.before
      (leaf_of n here ∷ []))

  -- one page more
  pub more_loaded : next ≢ 0 → AreLoaded at head next 4 (step + 1) new
  unfolding walk_goes_on
  more_loaded more = record {
    walk =
        walk_goes_on version at head Any n kind step loaded.walk next here link some more tt;
    all = all_now;
  }

  -- the last
  pub all_loaded : next ≡ 0 → SaysAll at head new
  all_loaded last = record {
    chain = loaded.walk.before ++ leaf_of n here ∷ [];
    are_read = subst (BeginsAt at head (loaded.walk.before ++ leaf_of n here ∷ [])) last
        (passed_more version at head Any n kind step loaded.walk next here link);
    all = all_now;
  }

  -- of a chain that is read as one they are the chain's
  pub all_of : (end : ℕ) (chain : Chain) → IsChainAt version at end head chain → next ≡ 0
      → new ≡ map record_of (entries_in chain)
  all_of end chain is last =
      let read = read_as version at end head chain is in
      let before = loaded.walk.before ++ leaf_of n here ∷ [] in
      let numbered = numbered_more version at head Any n kind step loaded.walk here some in
      let split = begins_same version at end head before (chain_read chain) next
      (passed_more version at head Any n kind step loaded.walk next here link) numbered read in
      let rest = AllByRecursion-right (λ (leaf : ReadLeaf). 1 ≤ leaf.number) before split.later
      (subst AreNumbered split.parts read.numbered) in
      let nothing = none_later split.later rest (sym split.next ∙ last) in
      all_now ∙ ap all_records (sym (append-nil before))
      ∙ ap (λ (later : ReadChain). all_records (before ++ later)) (sym nothing)
      ∙ ap all_records (sym split.parts) ∙ all_records_read chain

-- ---- each record of a page is small, on any file

-- of records that fit a page
small_in : (version : Version) (records : List Record) → taken records ≤ 2032
    → AllByRecursion IsRecord records → AllByRecursion (IsOf version) records
    → AllByRecursion (IsSmall version) records
small_in version [] fit told of_version = tt
small_in version (r ∷ records) fit told of_version = (
  record { few = omega arith; told = told.0; of_version = of_version.0 },
  small_in version records (omega arith) told.1 of_version.1,
)

-- one page more
pub more_small : (version : Version) (bytes : List ℕ) (old new : List Record)
    → IsPageOf version bytes → new ≡ old ++ page_records bytes
    → AllByRecursion (IsSmall version) old → AllByRecursion (IsSmall version) new
more_small version bytes old new page appended small =
    subst (AllByRecursion (IsSmall version)) (sym appended)
    (AllByRecursion-append (IsSmall version) old (page_records bytes) small
    (small_in version (page_records bytes) page.page.sound.fits page.page.sound.records
    page.of_version))

-- pair by pair
pub each_small : (version : Version) (pairs : List code.Pair)
    → AllByRecursion (IsSmall version) (map record_as pairs)
    → All (λ pair. IsSmall version (record_as pair)) pairs
each_small version [] small i d within = absurd (omega (arith, within))
each_small version (pair ∷ pairs) small zero d within = small.0
each_small version (pair ∷ pairs) small (suc i) d within =
    each_small version pairs small.1 i d (omega (arith, within))
