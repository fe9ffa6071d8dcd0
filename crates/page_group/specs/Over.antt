-- A group over a store, as contracts see it.
use Rattle.std.specs.Prelude.{◌≡◌, ◌≤◌, true}
use Rattle.page_io.specs.Views.{ReadsOnly}
use Rattle.page_io.specs.declared.store.PageStore.{Ghosts}
use Rattle.page_io.specs.Store.{IsReady}
use Rattle.page_group.specs.Changed.{changed_pages}
use Rattle.page_group.specs.Whole.{IsWhole}
use Rattle.page_group.specs.declared.changes.Changes.{Changes}

-- the base as it was when the group began and as it is, and what the group holds
pub record Over (S : Type 0) : Type 0 where
  pub first : S
  pub base : S
  pub held : Changes

-- the base was read at most, and what it lacks of the group's file is held
pub record IsOver {S : Type 0} (s : Ghosts S) (first base : S) (held : Changes) : Type 0 where
  pub ready : IsReady (s.state first)
  pub reads : ReadsOnly s first base
  pub longer : (s.state first).end ≤ held.end
  pub whole : held.usable ≡ true
      → IsWhole (s.state first).end (changed_pages held.changed) held.end
