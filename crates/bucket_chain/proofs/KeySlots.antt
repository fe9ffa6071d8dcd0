-- A key that stands in a slot of a page.
use Rattle.std.proofs.Common.{◌≡◌, ℕ, zero, suc, ◌≤◌, Bool, cond, List, [], ◌∷◌, map, ap, arith}
use Rattle.std.proofs.lemmas.List.Sums.{sum_by-cons}
use Rattle.dbm_model.specs.Pairs.{Key, Pair}
use Rattle.page_model.specs.PairLists.{has_key, times}
use Rattle.page_model.specs.Pages.{Body, Record}
use Rattle.slot_page.specs.Contents.{HasKeyAt}
use Rattle.bucket_chain.specs.Chains.{record_pair}
use Rattle.bucket_chain.specs.Walks.{IsWalk, LacksKey, HasKey}
use Rattle.bucket_chain.proofs.KeyWalks.{has_key_is}
use Rattle.bucket_chain.specs.Hits.{IsHit}
use Rattle.bucket_chain.specs.declared.removes.Hit.{Hit}
use Rattle.dbm_model.specs.Bounds.{Version}

-- it comes
pub slot_times : (key : Key) (records : List Record) (i : ℕ) → HasKeyAt key records i
    → 1 ≤ times key (map record_pair records)
slot_times key [] i has = absurd (omega (arith, has.0))
slot_times key (r ∷ records) zero has =
    let one : cond {A = ℕ} (has_key key (record_pair r)) 1 0 ≡ 1 =
    ap (λ (b : Bool). cond b 1 0) (has_key_is key (record_pair r) (has.1 r)) in
    omega (
      arith,
      one,
      sum_by-cons (λ (q : Pair). cond (has_key key q) 1 0) (record_pair r)
          (map record_pair records),
    )
slot_times key (r ∷ records) (suc i) has =
    omega (
      arith,
      slot_times key records i (omega (arith, has.0), λ d. has.1 d),
      sum_by-cons (λ (q : Pair). cond (has_key key q) 1 0) (record_pair r)
          (map record_pair records),
    )

-- a walk that found the key
pub hit_walk : (version : Version) (at : ℕ → Body) (head : ℕ) (key : Key) (bytes : List ℕ)
    (hit : Hit) → IsHit version at head key bytes hit → IsWalk at head (LacksKey key) (HasKey key)
hit_walk version at head key bytes hit found =
    let walk = found.walked.walk in
    record {
      before = walk.before;
      leaf = walk.leaf;
      after = walk.after;
      are_read = walk.are_read;
      passed = walk.passed;
      last = slot_times key walk.leaf.records hit.slot walk.last.has;
    }
