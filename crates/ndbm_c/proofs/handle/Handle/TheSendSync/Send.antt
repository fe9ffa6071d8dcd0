-- A handle may go to another thread: an open one as its box may, and a closed one owns nothing.
use base.Shift.{Keyless}
use denote.Param.Send.{IsSend, AllSend, owning_send, struct_send, sendable}
use denote.RawPtr.{Ptr}
use denote.Struct.Owning.{shape, fields, to}
use denote.Struct.Struct.{exits_of}
use mir.Raw.{raw}
use denote.Memory.{lone}
use Rattle.std.proofs.Common.{Bool, true, false, Option, Some, None}
use Rattle.std.proofs.Crossing.{frees}
use Rattle.std.specs.Global.{Global}
use Rattle.std_alloc.proofs.SendSync.{quiet, lies}
use Rattle.std_heap.proofs.Global.TheSendSync as heap_send
use Rattle.ndbm_c.proofs.Crossing.{held_send}
use Rattle.ndbm_c.specs.Handle.{handle_owns}
use Rattle.ndbm_c.specs.contracts.handle.Handle.{the_row, the_type}
use Rattle.ndbm_c.specs.contracts.handle.Open.{the_row as Value}

owns_keyless : (alloc : Global) (at : Ptr) (is_open : Bool) (held : Option Value.Denot)
    → Keyless (handle_owns alloc at is_open held)
owns_keyless alloc at true (Some x) =
    (lies Value held_send at x, frees.frees alloc (raw (lone Value.mir)) at)
owns_keyless alloc at true None = tt
owns_keyless alloc at false (Some x) = tt
owns_keyless alloc at false None = tt

pub send : IsSend the_row
send =
    let all : AllSend (fields the_type) =
    (search sendable, (heap_send.the_field_send, (search sendable, tt))) in
    owning_send the_type all (λ h. owns_keyless h.alloc h.at h.is_open h.held)
    (λ k. quiet (to the_type) (exits_of k (fields the_type))
    ((struct_send (shape the_type) all).leaving k))
