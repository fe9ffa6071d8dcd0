-- Lists of records with no key in common, and such in which no key comes twice.
use Rattle.std.proofs.Common.{◌≡◌, ◌≢◌, ℕ, suc, ◌+◌, ◌≤◌, Bool, true, false, cond, List, [], ◌∷◌, refl, sym, ap, ◌∙◌, arith}
use Rattle.std.specs.Prelude.{AllPairs}
use Rattle.std.specs.List.{AllByRecursion}
use Rattle.std.proofs.lemmas.List.Elements.{recursion_from_All, All-from_recursion}
use Rattle.dbm_model.specs.Pairs.{Key}
use Rattle.page_model.specs.PairLists.{has_key}
use Rattle.page_model.specs.Pages.{Record}
use Rattle.page_model.proofs.Places.{same_key}
use Rattle.slot_page.specs.Contents.{HasKeyAt, IsAbsent}
use Rattle.bucket_chain.specs.Chains.{record_pair}
use Rattle.bucket_chain.proofs.KeyWalks.{absent_times}
use Rattle.file_check.specs.BucketChains.{AreApart}
use Rattle.file_check.proofs.RecordTimes.{comes, comes-first, comes-own}

-- no record of the list has the key of this one
abbrev pub IsNew : List Record → Record → Type 0
IsNew others r = AllByRecursion (λ q. r.key ≢ q.key) others

pub new_if_absent : (key : Key) (others : List Record) (r : Record) → r.key ≡ key
    → IsAbsent key others → IsNew others r
new_if_absent key others r is absent =
    recursion_from_All (λ (q : Record). r.key ≢ q.key) others
    (λ k d within same. absent k d within (sym same ∙ is))

pub not_new : (key : Key) (others : List Record) (r : Record) (j : ℕ) → r.key ≡ key
    → HasKeyAt key others j → IsNew others r → ⊥
not_new key others r j is has new =
    All-from_recursion (λ (q : Record). r.key ≢ q.key) others new j r has.0 (is ∙ sym (has.1 r))

-- a new record's key does not come
new_comes : (key : Key) (others : List Record) (r : Record) → r.key ≡ key → IsNew others r
    → comes key others ≡ 0
new_comes key others r is new = absent_times key others
    (λ k d within same. All-from_recursion (λ (q : Record). r.key ≢ q.key) others new k d within
    (is ∙ sym same))

-- a key of which the list has none
none_new : (key : Key) (others : List Record) (r : Record) → r.key ≡ key → comes key others ≡ 0
    → IsNew others r
none_new key [] r is none = tt
none_new key (q ∷ others) r is none = (
  λ same. absurd (omega (arith, none, comes-own key q others (sym same ∙ is))),
  none_new key others r is (omega (arith, none, comes-first key q others)),
)

-- a key that comes in one list does not come in the other
pub apart_comes : (key : Key) (records others : List Record) → AreApart records others
    → comes key records ≢ 0 → comes key others ≡ 0
apart_comes key [] others apart some = absurd (some refl)
apart_comes key (r ∷ records) others apart some =
    elim (has_key key (record_pair r)) as (λ (b : Bool). has_key key (record_pair r) ≡ b
    → comes key others ≡ 0) [
      | true ↦ λ e. new_comes key others r (sym (same_key key (record_pair r) e)) apart.0
      | false ↦ λ e.
          let here : cond {A = ℕ} (has_key key (record_pair r)) 1 0 ≡ 0 =
          ap (λ (b : Bool). cond b 1 0) e in
          let later : comes key records ≢ 0 = λ none. some (omega (
            arith,
            none,
            here,
            comes-first key r records,
          )) in
          apart_comes key records others apart.1 later
    ] refl

-- lists that have no key twice together
pub apart_of_once : (records others : List Record)
    → ((key : Key) → comes key records + comes key others ≤ 1) → AreApart records others
apart_of_once [] others once = tt
apart_of_once (r ∷ records) others once = (
  none_new r.key others r refl
      (omega (arith, once r.key, comes-own r.key r records refl)),
  apart_of_once records others
      (λ key. omega (arith, once key, comes-first key r records)),
)

-- no two records have one key
pub once_in : (key : Key) (records : List Record) → AllPairs (λ r q. r.key ≢ q.key) records
    → comes key records ≤ 1
once_in key [] distinct = omega arith
once_in key (r ∷ records) distinct =
    let parts = comes-first key r records in
    let tail : AllPairs (λ r q. r.key ≢ q.key) records = λ i j d before within.
    distinct (suc i) (suc j) d (omega (arith, before)) (omega (arith, within)) in
    let rest = once_in key records tail in
    elim (has_key key (record_pair r)) as (λ (b : Bool). has_key key (record_pair r) ≡ b
    → comes key (r ∷ records) ≤ 1) [
      | true ↦ λ e.
          let none = absent_times key records (λ k d within same.
          distinct 0 (suc k) d (omega arith) (omega (arith, within))
          (sym (same_key key (record_pair r) e) ∙ sym same)) in
          let one : cond {A = ℕ} (has_key key (record_pair r)) 1 0 ≡ 1 =
          ap (λ (b : Bool). cond b 1 0) e in
          omega (arith, parts, none, one)
      | false ↦ λ e.
          let zeroth : cond {A = ℕ} (has_key key (record_pair r)) 1 0 ≡ 0 =
          ap (λ (b : Bool). cond b 1 0) e in
          omega (arith, parts, rest, zeroth)
    ] refl
