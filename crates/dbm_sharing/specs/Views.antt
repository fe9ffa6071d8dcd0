-- What one handle sees of a chain: a run of the model.
use Rattle.std.specs.Prelude.{◌≡◌, ◌≢◌, ℕ, nat_eq, Bool, true, false, ◌||◌, if◌then◌else◌, List, [], ◌∷◌, ◌++◌, map, None}
use Rattle.dbm_model.specs.Calls.{Call, Store, Delete, Error, Clear, Reply, Stored, Deleted, Upgraded, is_acknowledged}
use Rattle.dbm_model.specs.Passes.{is_refused}
use Rattle.dbm_model.specs.States.{State, Handle}
use Rattle.dbm_model.specs.Steps.{Run}
use Rattle.dbm_sharing.specs.Handles.{Shared, state_of}
use Rattle.dbm_sharing.specs.Periods.{Period, Answered, CutByDevice, CutByDeath, Opened, Replaced, Chain, IsOneTable}

-- a call with its reply
abbrev pub Said : Type 0
Said = Call × Reply

-- the call is about the error alone: dbm_error, dbm_clearerr
abbrev pub is_about_error : Call → Bool
is_about_error Error = true
is_about_error Clear = true
is_about_error call = false

-- the reply that acknowledges a change
abbrev pub acknowledged_by : Call → Reply
acknowledged_by (Store key content mode) = Stored
acknowledged_by (Delete key) = Deleted
acknowledged_by call = Upgraded

-- of its own calls: each one that was answered, but for those about the error. One that was refused
-- has left the map and the pass as they were
abbrev pub own_said : Call → Reply → List Said
own_said call reply = if is_refused reply || is_about_error call then [] else (call, reply) ∷ []

-- of a call of another handle: a change that was acknowledged
abbrev pub others_said : Call → Reply → List Said
others_said call reply = if is_acknowledged reply then (call, reply) ∷ [] else []

-- of a call that was cut short, whosever it is: where all of it was made, it is as one that was
-- acknowledged
abbrev pub cut_said : Call → Bool → List Said
cut_said call made = if made then (call, acknowledged_by call) ∷ [] else []

-- what a handle sees of a period
abbrev pub seen_of : ℕ → Period → List Said
seen_of who (Answered caller call reply) = if nat_eq caller who then own_said call reply
    else others_said call reply
seen_of who (CutByDevice caller call made) = cut_said call made
seen_of who (CutByDeath caller call made) = cut_said call made
seen_of who (Opened caller writable) = []
seen_of who (Replaced map bounds) = []

-- what it sees of periods, in their order
abbrev pub seen : ℕ → List Period → List Said
seen who [] = []
seen who (period ∷ periods) = seen_of who period ++ seen who periods

abbrev pub calls_seen : ℕ → List Period → List Call
calls_seen who periods = map (λ said. said.0) (seen who periods)

abbrev pub replies_seen : ℕ → List Period → List Reply
replies_seen who periods = map (λ said. said.1) (seen who periods)

-- it is one handle throughout: it doesn't die, and no other one is opened in its place
abbrev pub Lasts : ℕ → List Period → Type 0
Lasts who [] = Unit {0}
Lasts who (CutByDeath caller call made ∷ periods) = (who ≢ caller) × Lasts who periods
Lasts who (Opened caller writable ∷ periods) = (who ≢ caller) × Lasts who periods
Lasts who (period ∷ periods) = Lasts who periods

-- the state of the run: that of the handle, open for the others' changes, and with no error
abbrev pub viewed : Shared → ℕ → State
viewed s who = record (state_of s who) { error = None; writable = true }

-- What a handle sees of one table is a run of the model, from any handle of the model at the map
-- and its pass: its own calls that were answered, with their replies, and between them the
-- acknowledged changes of the others, and of a change that was cut short all or nothing.
abbrev pub ViewsAreRuns : Type 0
ViewsAreRuns = (pages who : ℕ) (before after : Shared) (periods : List Period)
    → Chain pages before periods after → Lasts who periods → IsOneTable periods
    → (first : Handle) → first.state ≡ viewed before who → first.capacity ≡ pages →
    (last : Handle) × (last.state ≡ viewed after who)
    × Run first (calls_seen who periods) (replies_seen who periods) last
