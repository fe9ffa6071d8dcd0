use Rattle.std.proofs.Common.{◌+◌, List, take, sym, ap, subst, arith}
use Rattle.dbm_file.specs.Rooms.{AreRoomsFor, gives_content, gives_key}
use Rattle.dbm_file.specs.declared.calls.Call.{Call}
use Rattle.dbm_file.specs.declared.running.Rooms.{Rooms}
use Rattle.dbm_file.proofs.RoomCounts.{no_rooms, one_more, none_more, takes_key, takes_none}
use Rattle.dbm_file.proofs.Runs.{all_taken}
use Rattle.dbm_file.proofs.running.rooms_for.Goals.{in-Fetch+in_ok-room-in-Fetch+in_ok-push-in-Fetch, in_default, in-First+in_ok-with_capacity-in-First+in_ok-push-in-First}
use Rattle.dbm_file.proofs.running.rooms_for.Goals as goal

pub loop-call-init : goal.loop-call-init
loop-call-init c = record {
  contents = no_rooms _ c.new.result c.new.ensures.items c.new.ensures.len;
  keys = no_rooms _ c.new-2.result c.new-2.ensures.items c.new-2.ensures.len;
}

pub loop-call-preserved : goal.loop-call-preserved
loop-call-preserved c =
    let calls = c.args.calls.now in
    let i = c.loop-call.call-index in
    let call = c.call-item.result in
    let so_far = c.loop-call.invariant in
    let lt = c.loop-call-test.true in
    let is = c.call-item.is in
    elim c.match-call.branch [
      | in-Fetch+in_ok-room-in-Fetch+in_ok-push-in-Fetch w ↦
          let room = w.in_ok-room-in-Fetch.ensures in
          subst (λ (rooms : Rooms). AreRoomsFor c.args.longest (take (i + 1) calls) rooms)
          (sym w.rooms-is) record {
            contents = one_more gives_content _ calls i call lt is _ w.push.new.self
                w.in_ok-room-in-Fetch.room (ap gives_content w.in-Fetch.is) so_far.contents
                (record {
                  empty = room.items;
                  large = room.capacity;
                }) w.in_ok-push-in-Fetch.ensures.len w.in_ok-push-in-Fetch.ensures.items;
            keys = none_more gives_key _ calls i call lt is _ (ap gives_key w.in-Fetch.is) so_far.keys;
          }
      | in_default w ↦
          let none = takes_none call w.in_default.not-Fetch w.in_default.not-First
          w.in_default.not-Next in
          subst (λ (rooms : Rooms). AreRoomsFor c.args.longest (take (i + 1) calls) rooms)
          (sym w.rooms-is) record {
            contents = none_more gives_content _ calls i call lt is _ none.0 so_far.contents;
            keys = none_more gives_key _ calls i call lt is _ none.1 so_far.keys;
          }
      | in-First+in_ok-with_capacity-in-First+in_ok-push-in-First w ↦
          let room = w.in_ok-with_capacity-in-First.ensures in
          let key = takes_key call w.in-First.is in
          subst (λ (rooms : Rooms). AreRoomsFor c.args.longest (take (i + 1) calls) rooms)
          (sym w.rooms-is) record {
            contents = none_more gives_content _ calls i call lt is _ key.0 so_far.contents;
            keys = one_more gives_key _ calls i call lt is _ w.push-in-First.new.self
                w.in_ok-with_capacity-in-First.field-0 key.1 so_far.keys
                (record { empty = room.items; large = room.capacity })
                w.in_ok-push-in-First.ensures.len w.in_ok-push-in-First.ensures.items;
          }
    ]

pub returns : goal.returns
returns c =
    subst (λ (calls : List Call). AreRoomsFor c.args.longest calls c.loop-call.rooms)
    (all_taken c.args.calls.now c.loop-call.call-index (omega (arith, c.loop-call-test.false)))
    c.loop-call.invariant
