-- A far content in its pages.
use Rattle.std.specs.Prelude.{◌≡◌, ◌≢◌, ℕ, ◌≤◌, List, [], ◌∷◌, length, AllPairs}
use Rattle.std.specs.List.{AllByRecursion}
use Rattle.page_model.specs.Chain.{pages_long}
use Rattle.page_model.specs.PageBodies.{first_of, content_bodies, AreRead}
use Rattle.page_model.specs.Pages.{Body, ContentPage}
use Rattle.page_model.specs.Rewrites.{AreRewritten}
use Rattle.page_model.specs.Space.{Space, next_pages, after_takes}
use Rattle.free_pages.specs.declared.free_state.FreeState.{FreeState}
use Rattle.free_pages.specs.FreeList.{IsFreeList}
use Rattle.free_pages.specs.Giving.{AreGiven, AreTaken}

-- a content page, whatever it says, that names this one, 0 for none
pub record IsContentPage (body : Body) (next : ℕ) : Type 0 where
  pub bytes : List ℕ
  pub says : body ≡ ContentPage next bytes

-- content pages, each naming the one behind it, and the last one none
abbrev pub AreNamed : (ℕ → Body) → List ℕ → Type 0
AreNamed at [] = Unit {0}
AreNamed at (n ∷ rest) = IsContentPage (at n) (first_of rest) × AreNamed at rest

-- the pages of a content of so many bytes that begins in page `first`, whatever they say
pub record ArePagesOf (at : ℕ → Body) (first long : ℕ) (pages : List ℕ) : Type 0 where
  pub begins : first ≡ first_of pages
  pub numbered : AllByRecursion (λ n. 1 ≤ n) pages
  pub paged : length pages ≡ pages_long long
  pub named : AreNamed at pages

-- the pages from page `first` on say this content, zeros behind it
pub record IsContentAt (at : ℕ → Body) (first : ℕ) (content : List ℕ) : Type 0 where
  pub pages : List ℕ
  pub begins : first ≡ first_of pages
  pub numbered : AllByRecursion (λ n. 1 ≤ n) pages
  pub paged : length pages ≡ pages_long (length content)
  pub are_read : AreRead at (content_bodies pages content)

-- the pages of a content were given, in order
pub record IsContentGiven (old new : ℕ → Body) (before after : FreeState)
    (first long : ℕ) : Type 0 where
  pub pages : List ℕ
  pub are : ArePagesOf old first long pages
  pub given : AreGiven old new before after pages

-- pages were taken for a content, none of them twice, and say it
pub record IsContentPut (old new : ℕ → Body) (before after : FreeState) (pages content : List ℕ)
    : Type 0 where
  pub taken : AreTaken old before pages after
  pub distinct : AllPairs (λ n m. n ≢ m) pages
  pub numbered : AllByRecursion (λ n. 1 ≤ n) pages
  pub paged : length pages ≡ pages_long (length content)
  pub written : AreRewritten old new (content_bodies pages content)

-- the content stands in the pages that the placement takes, and the free list is what is left
pub record IsPutAt (old new : ℕ → Body) (after : FreeState) (first : ℕ) (content : List ℕ)
    (s : Space) : Type 0 where
  pub begins : first ≡ first_of (next_pages (pages_long (length content)) s)
  pub written :
      AreRewritten old new (content_bodies (next_pages (pages_long (length content)) s) content)
  pub left : IsFreeList new after (after_takes (pages_long (length content)) s)
