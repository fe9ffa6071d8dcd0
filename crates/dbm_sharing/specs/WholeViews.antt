-- What one handle sees of a chain, with the calls of its own that were refused.
use Rattle.std.specs.Prelude.{◌≡◌, ◌≢◌, ℕ, nat_eq, true, if◌then◌else◌, List, [], ◌∷◌, ◌++◌, map}
use Rattle.dbm_model.specs.Calls.{Call, Reply, Refused, Memory, Device, NoRoom}
use Rattle.dbm_model.specs.States.{Handle}
use Rattle.dbm_model.specs.Steps.{Run}
use Rattle.dbm_sharing.specs.Handles.{Shared, state_of}
use Rattle.dbm_sharing.specs.Periods.{Period, Answered, CutByDevice, CutByDeath, Opened, Replaced, Chain, IsOneTable}
use Rattle.dbm_sharing.specs.Views.{Said, others_said, cut_said, Lasts}

-- what a handle sees of a period: each call of its own with its reply, and of the others what they
-- changed
abbrev pub whole_of : ℕ → Period → List Said
whole_of who (Answered caller call reply) = if nat_eq caller who then (call, reply) ∷ []
    else others_said call reply
whole_of who (CutByDevice caller call made) = if nat_eq caller who
    then (call, Refused Device) ∷ cut_said call made else cut_said call made
whole_of who (CutByDeath caller call made) = cut_said call made
whole_of who (Opened caller writable) = []
whole_of who (Replaced map bounds) = []

abbrev pub whole : ℕ → List Period → List Said
whole who [] = []
whole who (period ∷ periods) = whole_of who period ++ whole who periods

abbrev pub whole_calls : ℕ → List Period → List Call
whole_calls who periods = map (λ said. said.0) (whole who periods)

abbrev pub whole_replies : ℕ → List Period → List Reply
whole_replies who periods = map (λ said. said.1) (whole who periods)

-- no call of its own was refused for memory or for room
abbrev pub LacksNothing : ℕ → List Period → Type 0
LacksNothing who [] = Unit {0}
LacksNothing who (Answered caller call reply ∷ periods) =
    (caller ≡ who → (reply ≢ Refused Memory) × (reply ≢ Refused NoRoom))
    × LacksNothing who periods
LacksNothing who (period ∷ periods) = LacksNothing who periods

-- Of a handle that is open for changes all is a run of the model, from any handle of the model at
-- its state, where it lacked neither memory nor room. Of these two the numbers of buckets and of
-- pages decide, which need not be known from one call of a handle to its next.
abbrev pub WholeViewsAreRuns : Type 0
WholeViewsAreRuns = (pages who : ℕ) (before after : Shared) (periods : List Period)
    → Chain pages before periods after → Lasts who periods → IsOneTable periods
    → LacksNothing who periods → (before.own who).writable ≡ true → (first : Handle)
    → first.state ≡ state_of before who → first.capacity ≡ pages →
    (last : Handle) × (last.state ≡ state_of after who)
    × Run first (whole_calls who periods) (whole_replies who periods) last
