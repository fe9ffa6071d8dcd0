-- A device may go to another thread.
use denote.Builtin as builtin
use denote.Param.Send.{IsSend, owning_send, struct_send, recorded_send, plain_send, array_send, sendable}
use denote.Struct.Declared.{shape}
use Rattle.sect_dev.specs.contracts.past.Past as past
use Rattle.sect_dev.proofs.past.Event.TheSendSync as event
use Rattle.std.proofs.collections.HashMap.TheSendSync as map
use Rattle.std.proofs.vec.Vec.TheSendSync as vec
use Rattle.std.proofs.alloc.Global.TheSendSync as global
use Rattle.std.proofs.Crossing.{frees}
use Rattle.std.proofs.hash.BuildHasherDefault.TheSendSync as hasher
use Rattle.std.proofs.hash.FoldHasher.TheSendSync as fold
use Rattle.std.specs.contracts.hash.FoldHasher.{the_row as fold_row}
use Rattle.listed_dev.specs.contracts.listed_dev.ListedDev as dev

past_send : IsSend past.the_row
past_send = owning_send past.the_type tt (λ d. tt) (λ k x w. tt)

pub field_send : IsSend dev.the_field.row
field_send = struct_send (shape dev.the_type) (
  search sendable,
  (
    map.the_send builtin.u32 (builtin.Array builtin.u8 tt 512) _ _ fold_row _ _ _ _ _
        (plain_send _ _ _ _ _) (array_send builtin.u8 512 (plain_send _ _ _ _ _))
        (hasher.the_send _ fold.the_send) global.the_send frees,
    (
      vec.the_send _ _ _ event.the_send global.the_send frees,
      (
        past_send,
        (search sendable, (search sendable, (global.the_field_send, tt))),
      ),
    ),
  ),
)

pub send : IsSend dev.the_row
send = recorded_send dev.the_field.row _ _ dev.the_type.to_one field_send
