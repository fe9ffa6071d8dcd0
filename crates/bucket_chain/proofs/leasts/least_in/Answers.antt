use Rattle.std.proofs.Common.{◌<◌, ap, length, subst, arith, List}
use Rattle.std.proofs.lemmas.List.{take_all, length-map}
use Rattle.dbm_model.specs.Pairs.{Pair}
use Rattle.dbm_model.specs.KeyOrder.{rank, hash_of}
use Rattle.page_model.specs.Pages.{Record}
use Rattle.page_io.specs.BucketPages.{page_records}
use Rattle.bucket_chain.specs.Chains.{record_pair}
use Rattle.bucket_chain.specs.Bests.{pass_from, slot_of}
use Rattle.bucket_chain.specs.Leasts.{IsLeast}
use Rattle.bucket_chain.proofs.KeyRanks.{ranked_slot}
use Rattle.bucket_chain.proofs.LeastKeys.{page_pairs, better_key, slot_passed, slot_left, slot_taken}
use Rattle.bucket_chain.proofs.leasts.least_in.Goals as goal
use Rattle.bucket_chain.proofs.leasts.least_in.Goals.{then-is_behind+then-is_better, else-is_behind, else-is_behind-via-then-is_behind+else-is_better, else-is_behind-via-else-is_behind}

pub loop-slot-init : goal.loop-slot-init
loop-slot-init c = record { ranked = tt; least = tt }

pub is_behind-requires : goal.is_behind-requires
is_behind-requires c = ranked_slot _ _ _ c.ranks-ranks.ensures.page c.ranks-ranks.ensures.ranks (omega arith)

pub is_better-requires : goal.is_better-requires
is_better-requires c = record {
  at = ranked_slot _ _ _ c.ranks-ranks.ensures.page c.ranks-ranks.ensures.ranks (omega arith);
  best = c.loop-slot.invariant.ranked;
}

pub loop-slot-preserved : goal.loop-slot-preserved
loop-slot-preserved c =
    let bytes = c.args.page.now in
    let within : c.loop-slot.slot < length c.ranks-ranks.result.now = omega arith in
    let at = ranked_slot bytes c.ranks-ranks.result.now c.loop-slot.slot c.ranks-ranks.ensures.page c.ranks-ranks.ensures.ranks
    within in
    let behind = c.is_behind.ensures at.key at.has in
    elim c.if-is_behind.branch [
      | then-is_behind+then-is_better w ↦
          slot_taken bytes _ _ at.has _ _ _ _ behind
          c.loop-slot.invariant c.ranks-ranks.ensures.page w.if-is_behind.true _
          w.is_better.ensures.first
          (better_key bytes bytes _ _ at.key _ at.has w.is_better.ensures.before)
          w.if-is_better.true _ at.rank_is w.best-is
      | else-is_behind w ↦ elim w.else-is_behind.branch [
        | else-is_behind-via-then-is_behind+else-is_better v ↦
            slot_left bytes _ _ at.has _ _ _ _ behind
            c.loop-slot.invariant c.ranks-ranks.ensures.page v.if-is_behind.true _
            v.is_better.ensures.first
            (better_key bytes bytes _ _ at.key _ at.has v.is_better.ensures.before)
            v.if-is_better.false w.best-is
        | else-is_behind-via-else-is_behind v ↦
            slot_passed bytes _ _ at.has _ _ _ _ behind
            c.loop-slot.invariant v.if-is_behind.false w.best-is
      ]
    ]

pub returns-clause-ranked : goal.returns-clause-ranked
returns-clause-ranked c = c.loop-slot.invariant.ranked

pub returns-clause-least : goal.returns-clause-least
returns-clause-least c =
    let bytes = c.args.page.now in
    subst (λ (pairs : List Pair). IsLeast pairs
    (pass_from c.args.last) bytes (slot_of c.loop-slot.best))
    (take_all c.loop-slot.slot (page_pairs bytes)
    (omega (
      arith,
      ap length c.ranks-ranks.ensures.ranks,
      length-map (page_records bytes) (λ (r : Record). rank (hash_of r.key)),
      length-map (page_records bytes) record_pair,
    )))
    c.loop-slot.invariant.least
