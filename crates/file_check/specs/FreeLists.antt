-- The list of free pages.
use Rattle.std.specs.Prelude.{◌≡◌, ℕ, Bool, List, ◌++◌, length}
use Rattle.page_model.specs.Pages.{Body}
use Rattle.page_model.specs.PageBodies.{first_of, free_bodies, AreRead}
use Rattle.file_check.specs.Marks.{AreMarked}

-- the pages say this list, of so many pages from page `head` on
pub record IsList (at : ℕ → Body) (head count : ℕ) (free : List ℕ) : Type 0 where
  pub are_read : AreRead at (free_bodies free)
  pub from : head ≡ first_of free
  pub many : count ≡ length free

-- such a list was read, and its pages are marked behind those seen before
pub record IsListMarked (at : ℕ → Body) (end head count : ℕ) (marks : List Bool)
    (seen : List ℕ) : Type 0 where
  pub free : List ℕ
  pub is : IsList at head count free
  pub marked : AreMarked marks end (seen ++ free)
