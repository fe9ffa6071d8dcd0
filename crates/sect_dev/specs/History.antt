-- The writes and syncs of a device in memory, the newest first, and what follows from them.
use Rattle.std.specs.Prelude.{◌≡◌, ◌⊎◌, ◌≤◌, ◌+◌, ℕ, Bool, true, false, if◌then◌else◌, List, [], ◌∷◌, length, slice_index_or, unwrap_or, nat_eq}
use Rattle.std.specs.HashMap.{HashMap, get}
use mathlib.Core.Logic.{inl, inr}
use Rattle.std.proofs.Common.{refl, subst, arith, rules}
use Rattle.std.proofs.lemmas.Bool.{cases_eq}
use Rattle.std.proofs.lemmas.Bool.Decides.{nat_tests}
use Rattle.sect_dev.specs.declared.past.Event.{Event}
use Rattle.sect_dev.specs.declared.past.Event.TheVariants.{Wrote, Synced}
use Rattle.sect_dev.specs.Device.{Image, with_sector, IsImageOf}
use Rattle.sect_dev.specs.Sector.{zeros}

-- the content last written to each sector
abbrev pub content_after : List Event → Image
content_after [] = λ n. zeros
content_after (Wrote n bytes ∷ earlier) = with_sector (content_after earlier) n bytes
content_after (Synced ∷ earlier) = content_after earlier

-- a sector's content at the last sync, or one that it was given since
abbrev pub IsCandidate : List Event → ℕ → List ℕ → Type 0
IsCandidate [] m c = c ≡ zeros
IsCandidate (Wrote n bytes ∷ earlier) m c = IsCandidate earlier m c ⊎ ((m ≡ n) × (c ≡ bytes))
IsCandidate (Synced ∷ earlier) m c = c ≡ content_after earlier m

-- the images of now and of each moment before, down to moment t: a moment is a number of events
abbrev pub LeftSince : List Event → ℕ → Image → Type 0
LeftSince [] t image = IsImageOf (IsCandidate []) image
LeftSince (e ∷ earlier) t image =
    IsImageOf (IsCandidate (e ∷ earlier)) image ⊎ ((t ≤ length earlier) × LeftSince earlier t image)

-- the record as it was at the last sync
abbrev pub at_last_sync : List Event → List Event
at_last_sync [] = []
at_last_sync (Wrote n bytes ∷ earlier) = at_last_sync earlier
at_last_sync (Synced ∷ earlier) = Synced ∷ earlier

-- how many writes since the last sync
abbrev pub pending_of : List Event → ℕ
pending_of [] = 0
pending_of (Wrote n bytes ∷ earlier) = pending_of earlier + 1
pending_of (Synced ∷ earlier) = 0

-- the image in which, of the writes since the last sync, those with a mark happened. The oldest has
-- mark 0
abbrev pub kept : List Event → List Bool → Image
kept [] marks = λ n. zeros
kept (Wrote n bytes ∷ earlier) marks =
    if slice_index_or marks (pending_of earlier) false then with_sector (kept earlier marks) n bytes
    else kept earlier marks
kept (Synced ∷ earlier) marks = content_after earlier

-- what a map from a sector to its content says, where a sector that is not in it was never written
abbrev pub content_in : {S : Type 0} → HashMap ℕ (List ℕ) S → Image
content_in newest n = unwrap_or (get nat_eq newest n) zeros

-- what a read gives is part of an image
pub content_is_candidate : (events : List Event)
    → IsImageOf (IsCandidate events) (content_after events)
content_is_candidate [] m = refl
content_is_candidate (Wrote n bytes ∷ earlier) m = elim (cases_eq m n) [
  | inl same ↦ inr (same, search (rules, nat_tests))
  | inr other ↦ inl (subst (IsCandidate earlier m) (search (rules, nat_tests))
      (content_is_candidate earlier m))
]
content_is_candidate (Synced ∷ earlier) m = refl

-- an image of now is one of those since any moment
pub counts_now : (events : List Event) (t : ℕ) (image : Image)
    → IsImageOf (IsCandidate events) image → LeftSince events t image
counts_now [] t image now = now
counts_now (e ∷ earlier) t image now = inl now

-- since the last moment there is no other
pub only_now : (events : List Event) (image : Image) → LeftSince events (length events) image
    → IsImageOf (IsCandidate events) image
only_now [] image left = left
only_now (e ∷ earlier) image (inl now) = now
only_now (e ∷ earlier) image (inr past) = absurd (omega (arith, past.0))

of_mark : (n : ℕ) (bytes : List ℕ) (earlier : List Event) (image : Image) (m : ℕ)
    → IsCandidate earlier m (image m) → (mark : Bool)
    → IsCandidate (Wrote n bytes ∷ earlier) m
    ((if mark then with_sector image n bytes else image) m)
of_mark n bytes earlier image m is true = elim (cases_eq m n) [
  | inl same ↦ inr (same, search (rules, nat_tests))
  | inr other ↦ inl (subst (IsCandidate earlier m) (search (rules, nat_tests)) is)
]
of_mark n bytes earlier image m is false = inl is

-- whatever is marked is an image
pub kept_is_image : (events : List Event) (marks : List Bool)
    → IsImageOf (IsCandidate events) (kept events marks)
kept_is_image [] marks m = refl
kept_is_image (Wrote n bytes ∷ earlier) marks m =
    of_mark n bytes earlier (kept earlier marks) m (kept_is_image earlier marks m)
    (slice_index_or marks (pending_of earlier) false)
kept_is_image (Synced ∷ earlier) marks m = refl
