-- What a handle owns, and what it holds.
use base.Fml.{Fml, ftrue, ffalse}
use denote.RawPtr.{Ptr}
use Rattle.std.specs.Prelude.{Bool, true, false, Option, Some, None}
use Rattle.std.specs.Box.Ownership.{box_owns}
use Rattle.std.specs.Global.{Global, Box}
use Rattle.std_heap.specs.contracts.GlobalAllocator.TheImpl.{ghosts}
use Rattle.ndbm_c.specs.contracts.handle.Open.{the_row}
use Rattle.ndbm_c.specs.declared.parts.Parts.{Parts}

-- an open one owns what a `Box<Open>` there does, and a closed one nothing
abbrev pub handle_owns : Global → Ptr → Bool → Option the_row.Denot → Fml
handle_owns alloc at true (Some held) = box_owns (ghosts.dealloc_token alloc) the_row at held
handle_owns alloc at true None = ffalse
handle_owns alloc at false (Some held) = ffalse
handle_owns alloc at false None = ftrue

-- the value of the parts, where there are some
abbrev pub in_parts : Option (Parts the_row.Denot Global) → Option the_row.Denot
in_parts None = None
in_parts (Some parts) = Some parts.value

-- the value in the box, where there is one
abbrev pub in_box : Option (Box the_row.Denot) → Option the_row.Denot
in_box None = None
in_box (Some made) = Some made.value
