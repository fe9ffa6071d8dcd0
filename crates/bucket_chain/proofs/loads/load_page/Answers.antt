use Rattle.std.proofs.Common.{◌++◌, ◌<◌, ◌≤◌, List, length, map, ap, ◌∙◌, arith, rules}
use Rattle.std.proofs.lemmas.List.{take_all}
use Rattle.page_model.specs.Pages.{Record}
use Rattle.page_io.specs.BucketPages.{page_records}
use Rattle.slot_page.proofs.Pages.{counted}
use Rattle.bucket_chain.specs.Pairs.{record_as}
use Rattle.bucket_chain.proofs.LoadedRecords.{copied_more}
use Rattle.bucket_chain.proofs.loads.load_page.Goals as goal

pub load_pair-requires-clause-within : goal.load_pair-requires-clause-within
load_pair-requires-clause-within c =
    omega (arith, (counted c.args.page.now.bytes c.requires).count_is, c.slots-slot-end.ensures)

pub loop-slot-preserved : goal.loop-slot-preserved
loop-slot-preserved c =
    let within : c.loop-slot.slot < length (page_records c.args.page.now.bytes) =
    omega (
      arith,
      (counted c.args.page.now.bytes c.requires).count_is,
      c.slots-slot-end.ensures,
    ) in
    copied_more (page_records c.args.page.now.bytes) _ _ _ c.loop-slot.slot c.in_ok-pair.pair
    c.loop-slot.invariant within c.in_ok-pair.ensures c.in_ok-push.ensures.items

pub returns : goal.returns
returns c =
    let all : length (page_records c.args.page.now.bytes) ≤ c.loop-slot.slot =
    omega (
      arith,
      (counted c.args.page.now.bytes c.requires).count_is,
      c.slots-slot-end.ensures,
    ) in
    c.loop-slot.invariant ∙ ap (λ (xs : List Record). map record_as c.args.pairs.now.items ++ xs)
    (take_all c.loop-slot.slot (page_records c.args.page.now.bytes) all)

pub loop-slot-init : goal.loop-slot-init
loop-slot-init c = search rules
