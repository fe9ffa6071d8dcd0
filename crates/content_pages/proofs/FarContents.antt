-- The content of a far pair, as the pages of its entry say it.
use Rattle.std.proofs.Common.{◌≡◌, ℕ, ◌≤◌, true, cond, Bool, List, [], ◌∷◌, length, take, drop, refl, sym, ap, ◌∙◌, arith}
use Rattle.std.specs.List.{AllByRecursion}
use Rattle.dbm_model.specs.Bounds.{Version}
use Rattle.dbm_model.specs.Pairs.{is_far}
use Rattle.page_model.specs.Chain.{Entry, IsEntry, pages_long}
use Rattle.page_model.specs.Meaning.{joined}
use Rattle.page_model.specs.Pages.{Body}
use Rattle.page_model.specs.PageBodies.{first_of, filled, content_bodies, entry_bodies, AreRead}
use Rattle.page_model.proofs.Joins.{joined_again}
use Rattle.content_pages.specs.Contents.{AreNamed, ArePagesOf, IsContentAt}

-- a far entry has the pages that its content needs
far_paged : (version : Version) (e : Entry) → IsEntry version e → is_far e.pair ≡ true
    → length e.pages ≡ pages_long (length e.pair.1)
far_paged version e is far =
    is.paged ∙ ap (λ (b : Bool). cond b (pages_long (length e.pair.1)) 0) far

-- pages that say a content are content pages, each naming the next
read_named : (at : ℕ → Body) (pages content : List ℕ) → AreRead at (content_bodies pages content)
    → AreNamed at pages
read_named at [] content read = tt
read_named at (n ∷ rest) content read = (
  record { bytes = filled (take 2032 content); says = read.0 },
  read_named at rest (drop 2032 content) read.1,
)

-- the pages of an entry say its content
pub far_content_stands : (at : ℕ → Body) (version : Version) (e : Entry) → IsEntry version e
    → is_far e.pair ≡ true → AllByRecursion (λ n. 1 ≤ n) e.pages → AreRead at (entry_bodies e)
    → IsContentAt at (first_of e.pages) e.pair.1
far_content_stands at version e is far numbered read = record {
  pages = e.pages;
  begins = refl;
  numbered = numbered;
  paged = far_paged version e is far;
  are_read = read;
}

-- and are the pages of its content
pub far_pages_are : (at : ℕ → Body) (version : Version) (e : Entry) → IsEntry version e
    → is_far e.pair ≡ true → AllByRecursion (λ n. 1 ≤ n) e.pages → AreRead at (entry_bodies e)
    → ArePagesOf at (first_of e.pages) (length e.pair.1) e.pages
far_pages_are at version e is far numbered read = record {
  begins = refl;
  numbered = numbered;
  paged = far_paged version e is far;
  named = read_named at e.pages e.pair.1 read;
}

-- a content, joined from its pages
content_joined : (at : ℕ → Body) (first : ℕ) (a : List ℕ) → IsContentAt at first a
    → take (length a) (joined at (pages_long (length a)) first) ≡ a
content_joined at first a is =
    ap (λ (k : ℕ). take (length a) (joined at k first)) (sym is.paged)
    ∙ ap (λ (k : ℕ). take (length a) (joined at (length is.pages) k)) is.begins
    ∙ joined_again at is.pages a is.are_read (omega (arith, is.paged))

-- from one page on there is one content of a length
pub one_content : (at : ℕ → Body) (first : ℕ) (a b : List ℕ) → IsContentAt at first a
    → IsContentAt at first b → length a ≡ length b → a ≡ b
one_content at first a b one two long =
    sym (content_joined at first a one)
    ∙ ap (λ (k : ℕ). take k (joined at (pages_long k) first)) long ∙ content_joined at first b two
