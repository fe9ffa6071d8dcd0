-- What a store shows page by page, and calls that stage pages and do no more.
use Rattle.std.specs.Prelude.{◌≡◌, ◌↔◌, ◌<◌, ◌≤◌, ℕ, true, List}
use Rattle.page_model.specs.Pages.{Body}
use Rattle.page_model.specs.Reading.{body_of}
use Rattle.page_io.specs.Page.{own_number}
use Rattle.page_io.specs.Store.{Settled, StoreState, page_of, overlaid, put_page, has_page, AllBelow}
use Rattle.page_io.specs.Kept.{KeepsPages}
use Rattle.page_io.specs.declared.store.PageStore.{Ghosts}

-- page n as a read gives it: the staged one, else the committed one
abbrev pub visible_page : {S : Type 0} → Ghosts S → S → ℕ → List ℕ
visible_page s store = overlaid (s.state store).staged (page_of (s.committed store))

-- what page n says
abbrev pub body_at : {S : Type 0} → Ghosts S → S → ℕ → Body
body_at s store n = body_of n (visible_page s store n)

-- Pages may have been staged; nothing else has changed, neither the committed pages nor what a stop
-- may leave.
pub record StagesOnly {S : Type 0} (s : Ghosts S) (old new : S) : Type 0 where
  pub state : s.state new ≡ record (s.state old) { staged = (s.state new).staged }
  pub honesty : s.honest new ↔ s.honest old
  pub later : s.faults old ≤ s.faults new
  pub kept : s.honest old → KeepsPages s.committed s.moment s.settled_since s.settles_to old new
  pub now : s.honest old → (settled : Settled) → s.settles_to new settled → s.settles_to old settled

-- Pages may have been read, and none was staged.
pub record ReadsOnly {S : Type 0} (s : Ghosts S) (old new : S) : Type 0 where
  pub same : s.state new ≡ s.state old
  pub stages_only : StagesOnly s old new

-- A commit may end the file before page `end`: all staged pages are below it, and those behind the
-- old end are staged.
pub record MayEnd (state : StoreState) (end : ℕ) : Type 0 where
  pub least : state.end ≤ end
  pub below : AllBelow end state.staged
  pub grown : (n : ℕ) → state.end ≤ n → n < end → has_page state.staged n ≡ true

-- it may end there once page n is staged too
abbrev pub MayEndWith : StoreState → ℕ → ℕ → Type 0
MayEndWith state n end = (bytes : List ℕ) → own_number bytes ≡ n
    → MayEnd (record state { staged = put_page state.staged bytes }) end
