-- The map that periods leave, told from the periods alone, and the replies that follow from it.
use Rattle.std.specs.Prelude.{◌≡◌, ◌≢◌, ℕ, Bool, if◌then◌else◌, List, [], ◌∷◌, ◌++◌, Some, None}
use Rattle.std.specs.FinMap.{get}
use Rattle.dbm_model.specs.Bounds.{Bounds}
use Rattle.dbm_model.specs.Calls.{Call, Fetch, Reply, Bytes, NoRecord}
use Rattle.dbm_model.specs.Changes.{map_after, map_asked, bounds_after, bounds_asked}
use Rattle.dbm_model.specs.Members.{Member, Holding}
use Rattle.dbm_model.specs.Pairs.{Key, Contents}
use Rattle.dbm_sharing.specs.Handles.{Shared, file_of}
use Rattle.dbm_sharing.specs.Periods.{Period, Answered, CutByDevice, CutByDeath, Opened, Replaced, IsAnswered, Chain}

-- what one period leaves of the map and the bounds
abbrev pub cut_leaves : Contents → Bounds → Call → Bool → Member
cut_leaves map bounds call made = if made
    then Holding (map_asked map call) (bounds_asked bounds call) else Holding map bounds

abbrev pub leaves : Member → Period → Member
leaves member (Replaced map bounds) = Holding map bounds
leaves (Holding map bounds) (Answered who call reply) =
    Holding (map_after map call reply) (bounds_after bounds call reply)
leaves (Holding map bounds) (CutByDevice who call made) = cut_leaves map bounds call made
leaves (Holding map bounds) (CutByDeath who call made) = cut_leaves map bounds call made
leaves member period = member

-- what the periods leave, one after another
abbrev pub left_after : Member → List Period → Member
left_after member [] = member
left_after member (period ∷ periods) = left_after (leaves member period) periods

-- What a chain leaves is told by its periods.
abbrev pub PeriodsTellTheMap : Type 0
PeriodsTellTheMap = (pages : ℕ) (before after : Shared) (periods : List Period)
    → Chain pages before periods after → file_of after ≡ left_after (file_of before) periods

-- the reply is that of the model at the map that these periods left
pub record IsReplyBehind (pages : ℕ) (before : Shared) (earlier : List Period) (who : ℕ)
    (call : Call) (reply : Reply) : Type 0 where
  pub mid : Shared
  pub after : Shared
  pub left : file_of mid ≡ left_after (file_of before) earlier
  pub answered : IsAnswered pages mid who call reply after

-- Each reply is that of the model at the map that the periods before it left, whoever they are of.
abbrev pub RepliesAreOfTheMap : Type 0
RepliesAreOfTheMap = (pages : ℕ) (before after : Shared) (earlier later : List Period) (who : ℕ)
    (call : Call) (reply : Reply)
    → Chain pages before (earlier ++ Answered who call reply ∷ later) after
    → IsReplyBehind pages before earlier who call reply

-- So a fetch tells what that map has of its key.
pub record FetchesTellTheMap : Type 0 where
  pub found : (pages : ℕ) (before after : Shared) (earlier later : List Period) (who : ℕ)
      (key content : List ℕ) (map : Contents) (bounds : Bounds)
      → Chain pages before (earlier ++ Answered who (Fetch key) (Bytes content) ∷ later) after
      → left_after (file_of before) earlier ≡ Holding map bounds → get map key ≡ Some content
  pub absent : (pages : ℕ) (before after : Shared) (earlier later : List Period) (who : ℕ)
      (key : Key) (map : Contents) (bounds : Bounds)
      → Chain pages before (earlier ++ Answered who (Fetch key) NoRecord ∷ later) after
      → left_after (file_of before) earlier ≡ Holding map bounds → get map key ≡ None

-- none of these periods is one of this handle
abbrev pub AreOfOthers : ℕ → List Period → Type 0
AreOfOthers who [] = Unit {0}
AreOfOthers who (Answered caller call reply ∷ periods) = (who ≢ caller) × AreOfOthers who periods
AreOfOthers who (CutByDevice caller call made ∷ periods) = (who ≢ caller) × AreOfOthers who periods
AreOfOthers who (CutByDeath caller call made ∷ periods) = (who ≢ caller) × AreOfOthers who periods
AreOfOthers who (Opened caller writable ∷ periods) = (who ≢ caller) × AreOfOthers who periods
AreOfOthers who (Replaced map bounds ∷ periods) = AreOfOthers who periods

-- The others leave a handle its error, its pass and its access, also where the table is replaced.
abbrev pub OthersLeaveOwn : Type 0
OthersLeaveOwn = (pages who : ℕ) (before after : Shared) (periods : List Period)
    → Chain pages before periods after → AreOfOthers who periods
    → after.own who ≡ before.own who
