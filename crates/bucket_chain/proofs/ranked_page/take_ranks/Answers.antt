use Rattle.std.proofs.Common.{◌<◌, length, ap, ◌∙◌, arith, ℕ, List, [], ◌∷◌, ◌++◌, take}
use Rattle.std.proofs.lemmas.List.{take_all, length-take, length-map}
use Rattle.dbm_model.specs.KeyOrder.{hash_of, rank}
use Rattle.page_model.specs.Pages.{Record}
use Rattle.page_io.specs.BucketPages.{page_records}
use Rattle.slot_page.proofs.Pages.{counted}
use Rattle.bucket_chain.specs.KeyRanks.{key_ranks}
use Rattle.bucket_chain.proofs.KeyRanks.{ranked_more}
use Rattle.bucket_chain.proofs.ranked_page.take_ranks.Goals as goal

pub pair_at-requires-clause-within : goal.pair_at-requires-clause-within
pair_at-requires-clause-within c =
    omega (arith, (counted c.args.page.now.bytes c.requires).count_is, c.slots-slot-end.ensures)

pub push-requires : goal.push-requires
push-requires c =
    let many = ap length c.loop-slot.invariant in
    let page = counted c.args.page.now.bytes c.requires in
    omega (
      arith,
      many,
      length-take {A = ℕ},
      page.low_is,
      page.room_is,
      c.slots-slot-end.ensures,
      page.count_is,
    )

pub loop-slot-init : goal.loop-slot-init
loop-slot-init c = c.clear.ensures

pub loop-slot-preserved : goal.loop-slot-preserved
loop-slot-preserved c =
    let bytes = c.args.page.now.bytes in
    let within : c.loop-slot.slot < length (page_records bytes) =
    omega (arith, (counted bytes c.requires).count_is, c.slots-slot-end.ensures) in
    c.push.ensures.items
    ∙ ap (λ (ranks : List ℕ). ranks ++ c.of.result.rank ∷ []) c.loop-slot.invariant
    ∙ ap (λ (r : ℕ). take c.loop-slot.slot (key_ranks bytes) ++ r ∷ [])
    (c.of.result.is_rank ∙ ap (λ (key : List ℕ). rank (hash_of key)) c.of.ensures)
    ∙ ranked_more bytes _ _ _ within c.pair_at.ensures

pub returns : goal.returns
returns c =
    let bytes = c.args.page.now.bytes in
    c.loop-slot.invariant
    ∙ take_all c.loop-slot.slot (key_ranks bytes)
    (omega (
      arith,
      (counted bytes c.requires).count_is,
      c.slots-slot-end.ensures,
      length-map (page_records bytes) (λ (r : Record). rank (hash_of r.key)),
    ))
