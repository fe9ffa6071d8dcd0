-- The one commit at the end of a group.
use Rattle.std.specs.Prelude.{◌≡◌, ◌↔◌, ℕ, Bool, true, false, Result, Ok, IfErr}
use Rattle.sect_dev.specs.Device.{LeavesOnly}
use Rattle.page_io.specs.Answers.{HasDeviceCause}
use Rattle.page_io.specs.Store.{Pages, IsEither}
use Rattle.page_io.specs.Views.{ReadsOnly}
use Rattle.page_io.specs.declared.store.PageStore.{Ghosts}
use Rattle.page_io.specs.declared.store.PageFault.{PageFault}
use Rattle.page_io.specs.declared.store.PageFault.TheVariants.{Device}

-- A store commits these pages, and its file then ends before page `end`; or it tells that it has not,
-- and nothing has changed; or the device broke it.
pub record IsCommit {S : Type 0} (s : Ghosts S) (old new : S) (pages : Pages) (end : ℕ)
    (result : Result Bool PageFault) : Type 0 where
  pub done : result ≡ Ok true → s.state new ≡ record (s.state old) { end = end }
  pub committed : s.honest old → result ≡ Ok true → s.committed new ≡ pages
  -- whatever is answered, every image of every moment settles to the old pages or the new
  pub any_moment : s.honest old → LeavesOnly s.moment s.settled_since old new
      (IsEither (s.committed old) pages)
  pub refused : result ≡ Ok false → ReadsOnly s old new
  pub broke : IfErr result (λ e. (e ≡ Device)
      × (s.state new ≡ record (s.state old) { usable = false }))
  pub honesty : s.honest new ↔ s.honest old
  pub cause : HasDeviceCause (s.faults old) (s.faults new) result
