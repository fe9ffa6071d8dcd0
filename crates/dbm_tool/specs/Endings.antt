-- How a plan may end.
use Rattle.std.specs.Prelude.{◌≡◌, ◌⊎◌, ℕ, Bool, true, false, Option, None, Result, Ok, Err}
use Rattle.dbm_command_line.specs.declared.plan.Plan.{Plan}
use Rattle.dbm_command_line.specs.declared.plan.Plan.TheVariants.{Store, Insert, Fetch, Delete, List as ListKeys, Dump, Load, Replace, Salvage, Stat, Verify, Format, Script, ReadScript, Rehearse, Faults}
use Rattle.dbm_command_line.specs.declared.plan.Source.{Source}
use Rattle.dbm_command_line.specs.declared.plan.Source.TheVariants.{Memory as InMemory}
use Rattle.dbm_commands.specs.Words.{spelled}
use Rattle.dbm_commands.specs.declared.outcomes.Outcome.{Outcome}
use Rattle.dbm_commands.specs.declared.outcomes.Outcome.TheVariants.{Done, Nothing}
use Rattle.dbm_commands.specs.declared.outcomes.Failure.{Failure}
use Rattle.dbm_commands.specs.declared.outcomes.Failure.TheVariants.{NotHex, NotText, Fault, NotKept}
use Rattle.dbm_fault.specs.declared.fault.Fault.{Fault as Refusal}
use Rattle.dbm_fault.specs.declared.fault.Fault.TheVariants.{BadLimit}
use Rattle.dbm_fault.specs.declared.engine_fault.EngineFault.{EngineFault}
use Rattle.dbm_fault.specs.declared.engine_fault.EngineFault.TheVariants.{Memory, Read, Write, Line, Db}
use Rattle.dbm_model.specs.Sizes.{is_limit}

-- it reads standard input
abbrev pub reads : Plan → Bool
reads (Load file spelling group) = true
reads (Replace file spelling limit) = true
reads (Script source spelling) = true
reads (ReadScript file spelling) = true
reads (Rehearse source stops) = true
reads _ = false

-- it writes standard output
abbrev pub prints : Plan → Bool
prints (Fetch file key spelling) = true
prints (ListKeys file spelling) = true
prints (Dump file spelling) = true
prints (Salvage file) = true
prints (Stat file) = true
prints (Verify file) = true
prints (Format file) = true
prints (Script source spelling) = true
prints (ReadScript file spelling) = true
prints (Rehearse source stops) = true
prints Faults = true
prints _ = false

-- its key may be absent, or an inserted one present
abbrev pub looks_for_a_key : Plan → Bool
looks_for_a_key (Insert file key content spelling) = true
looks_for_a_key (Fetch file key spelling) = true
looks_for_a_key (Delete file key spelling) = true
looks_for_a_key _ = false

-- a line of its input may be bad
abbrev pub has_lines : Plan → Bool
has_lines (Load file spelling group) = true
has_lines (Replace file spelling limit) = true
has_lines _ = false

-- it looks at what stops leave
abbrev pub looks_at_stops : Plan → Bool
looks_at_stops (Rehearse source stops) = true
looks_at_stops _ = false

-- it has a database, so it takes memory
abbrev pub has_database : Plan → Bool
has_database Faults = false
has_database _ = true

-- its database may refuse it so: one in memory, only for the limit
abbrev pub CanBeRefused : Plan → Refusal → Type 0
CanBeRefused Faults refusal = ⊥
CanBeRefused (Script (InMemory limit version) spelling) refusal =
    (refusal ≡ BadLimit) × (is_limit limit ≡ false)
CanBeRefused _ refusal = Unit {0}

-- it may end by this fault
abbrev pub CanMeet : Plan → EngineFault → Type 0
CanMeet plan Memory = has_database plan ≡ true
CanMeet plan Read = reads plan ≡ true
CanMeet plan Write = prints plan ≡ true
CanMeet plan (Line n) = has_lines plan ≡ true
CanMeet plan (Db refusal) = CanBeRefused plan refusal

-- one of its words is to be hexadecimal, and spells no bytes
abbrev pub LacksDigits : Plan → Type 0
LacksDigits (Store file key content spelling) =
    (spelled spelling key.now ≡ None) ⊎ (spelled spelling content.now ≡ None)
LacksDigits (Insert file key content spelling) =
    (spelled spelling key.now ≡ None) ⊎ (spelled spelling content.now ≡ None)
LacksDigits (Fetch file key spelling) = spelled spelling key.now ≡ None
LacksDigits (Delete file key spelling) = spelled spelling key.now ≡ None
LacksDigits _ = ⊥

-- the plan may end so
abbrev pub EndsAs : Plan → Result Outcome Failure → Type 0
EndsAs plan (Ok Done) = Unit {0}
EndsAs plan (Ok Nothing) = looks_for_a_key plan ≡ true
EndsAs plan (Err NotHex) = LacksDigits plan
EndsAs plan (Err NotText) = ⊥
EndsAs plan (Err (Fault met)) = CanMeet plan met
EndsAs plan (Err (NotKept stop)) = looks_at_stops plan ≡ true

-- a rehearsal may end so, whatever its database
abbrev pub MayEndRehearsal : Result Outcome Failure → Type 0
MayEndRehearsal result =
    (source : Source) (stops : Option ℕ) → EndsAs (Rehearse source stops) result
