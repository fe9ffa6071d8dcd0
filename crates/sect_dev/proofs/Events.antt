-- What a sync leaves.
use Rattle.std.proofs.Common.{ℕ, List, ◌∷◌, sym, subst}
use Rattle.sect_dev.specs.declared.past.Event.{Event}
use Rattle.sect_dev.specs.declared.past.Event.TheVariants.{Synced}
use Rattle.sect_dev.specs.History.{IsCandidate, content_is_candidate}

-- what a read gives was a candidate before the sync
pub synced_adds_none : (events : List Event) (m : ℕ) (c : List ℕ)
    → IsCandidate (Synced ∷ events) m c → IsCandidate events m c
synced_adds_none events m c is =
    subst (IsCandidate events m) (sym is) (content_is_candidate events m)
