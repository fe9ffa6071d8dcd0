use Rattle.std.proofs.Common.{◌≡◌, ◌∙◌, ◌<◌, true, length, length-set, arith}
use Rattle.slot_page.specs.Layout.{HasNewKey}
use Rattle.slot_page.proofs.Layouts.{key_inside}
use Rattle.slot_page.proofs.KeyMarks.{mark_at, mark_is, new_by_mark, noted_more, distinct_more}
use Rattle.slot_page.proofs.reading.have_distinct_keys.Goals as goal
use Rattle.slot_page.proofs.reading.have_distinct_keys.Goals.{else-is_seen-mark-via-then-is_seen-mark+else-not-is_new_key, else-is_seen-mark-via-else-is_seen-mark}

pub key_at-requires : goal.key_at-requires
key_at-requires c =
    key_inside c.args.page.now.bytes c.args.count c.loop-j.j c.slot_at.result c.requires.in_place
    (omega arith) c.slot_at.ensures

pub loop-j-preserved : goal.loop-j-preserved
loop-j-preserved c =
    let bytes = c.args.page.now.bytes in
    let held = c.loop-j.invariant in
    let mark = c.from-mark.result in
    let is : mark ≡ mark_at bytes c.loop-j.j =
    mark_is bytes c.key_at.result.now c.loop-j.j mark c.slot_at.result c.slot_at.ensures
    c.key_at.ensures (c.from-mark.ensures ∙ c.mark_of.ensures) in
    let inside : mark < length c.loop-j.is_seen = omega (arith, held.many) in
    let new : HasNewKey bytes c.loop-j.j = elim c.else-is_seen-mark.branch [
      | else-is_seen-mark-via-then-is_seen-mark+else-not-is_new_key w ↦
          w.is_new_key.ensures.0 w.if-not-is_new_key.false
      | else-is_seen-mark-via-else-is_seen-mark w ↦
          new_by_mark bytes c.loop-j.is_seen c.loop-j.j mark is held.noted w.if-is_seen-mark.false
    ] in
    record {
      many = length-set c.loop-j.is_seen mark true ∙ held.many;
      noted = noted_more bytes c.loop-j.is_seen c.loop-j.j mark is inside held.noted;
      distinct = distinct_more bytes c.loop-j.j held.distinct new;
    }
