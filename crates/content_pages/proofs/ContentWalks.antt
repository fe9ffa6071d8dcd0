-- A content that is read page by page.
use Rattle.std.proofs.Common.{◌≡◌, ℕ, ◌+◌, ◌-◌, ◌*◌, ◌<◌, ◌≤◌, min, List, [], ◌∷◌, ◌++◌, length, replicate, take, drop, refl, sym, ap, subst, ◌∙◌, append_assoc, arith}
use Rattle.std.specs.List.{AllByRecursion}
use Rattle.std.proofs.lemmas.List.{take_all, take_at, take-append-le, drop-append-le, drop_all, take-append-drop, length-append, length-drop, length-take}
use Rattle.page_model.specs.Chain.{pages_long}
use Rattle.page_model.specs.Pages.{Body, ContentPage}
use Rattle.page_model.specs.PageBodies.{first_of, filled, content_bodies, AreRead}
use Rattle.content_pages.specs.Contents.{IsContentAt}
use Rattle.content_pages.proofs.ContentTexts.{one_next, one_text}

-- a page says the same where all pages do
pub said_too : (at at' : ℕ → Body) (n : ℕ) (body : Body) → at' ≡ at → at n ≡ body → at' n ≡ body
said_too at at' n body same says = ap (λ (f : ℕ → Body). f n) same ∙ says

-- the pages from `first` on say these bytes, 2,032 to a page, and page `end` comes behind them
abbrev pub AreHeld : (ℕ → Body) → ℕ → List ℕ → List ℕ → ℕ → Type 0
AreHeld at first [] content end = (first ≡ end) × (content ≡ [])
AreHeld at first (n ∷ pages) content end = (first ≡ n) × (1 ≤ n)
    × ((next : ℕ) × (at n ≡ ContentPage next (filled (take 2032 content)))
    × AreHeld at next pages (drop 2032 content) end)

-- one page more
pub held_more : (at : ℕ → Body) (first n next : ℕ) (pages content part : List ℕ)
    → AreHeld at first pages content n → length content ≡ 2032 * length pages → 1 ≤ n
    → length part ≤ 2032 → at n ≡ ContentPage next (filled part)
    → AreHeld at first (pages ++ n ∷ []) (content ++ part) next
held_more at first n next [] content part held long some le says =
    let bytes : content ++ part ≡ part = ap (λ (xs : List ℕ). xs ++ part) held.1 in (
      held.0,
      some,
      (
        next,
        says ∙ ap (λ (xs : List ℕ). ContentPage next (filled xs))
            (sym (ap (take 2032) bytes ∙ take_all 2032 part le)),
        (refl, ap (drop 2032) bytes ∙ drop_all 2032 part le),
      ),
    )
held_more at first n next (m ∷ pages) content part held long some le says =
    let many : 2032 ≤ length content = omega (arith, long) in
    let later : List ℕ = drop 2032 content in
    let size : length later ≡ 2032 * length pages =
    omega (arith, long, length-drop 2032 content) in (
      held.0,
      held.1,
      (
        held.2.0,
        held.2.1 ∙ ap (λ (xs : List ℕ). ContentPage held.2.0 (filled xs))
            (sym (take-append-le 2032 content part many)),
        subst (λ (xs : List ℕ). AreHeld at held.2.0 (pages ++ n ∷ []) xs next)
            (sym (drop-append-le 2032 content part many))
            (held_more at held.2.0 n next pages later part held.2.2 size some le says),
      ),
    )

pub held_begins : (at : ℕ → Body) (first : ℕ) (pages content : List ℕ)
    → AreHeld at first pages content 0 → first ≡ first_of pages
held_begins at first [] content held = held.0
held_begins at first (n ∷ pages) content held = held.0

held_numbered : (at : ℕ → Body) (first end : ℕ) (pages content : List ℕ)
    → AreHeld at first pages content end → AllByRecursion (λ n. 1 ≤ n) pages
held_numbered at first end [] content held = tt
held_numbered at first end (n ∷ pages) content held =
    (held.1, held_numbered at held.2.0 end pages (drop 2032 content) held.2.2)

pub held_read : (at : ℕ → Body) (first : ℕ) (pages content : List ℕ) → AreHeld at first pages content 0
    → AreRead at (content_bodies pages content)
held_read at first [] content held = tt
held_read at first (n ∷ pages) content held = (
  held.2.1 ∙ ap (λ (next : ℕ). ContentPage next (filled (take 2032 content)))
      (held_begins at held.2.0 pages (drop 2032 content) held.2.2),
  held_read at held.2.0 pages (drop 2032 content) held.2.2,
)

-- so many pages were read
pub record IsReadTo (at : ℕ → Body) (first end count : ℕ) (content : List ℕ) : Type 0 where
  pub pages : List ℕ
  pub many : length pages ≡ count
  pub held : AreHeld at first pages content end

pub read_goes_on : (at : ℕ → Body) (first n count next : ℕ) (content part more : List ℕ)
    → IsReadTo at first n count content → length content ≡ 2032 * count → 1 ≤ n
    → length part ≤ 2032 → at n ≡ ContentPage next (filled part) → more ≡ content ++ part
    → IsReadTo at first next (count + 1) more
read_goes_on at first n count next content part more so_far long some le says is = record {
  pages = so_far.pages ++ n ∷ [];
  many = omega (arith, so_far.many, length-append so_far.pages (n ∷ []));
  held = subst (λ (xs : List ℕ). AreHeld at first (so_far.pages ++ n ∷ []) xs next) (sym is)
      (held_more at first n next so_far.pages content part so_far.held
      (omega (arith, long, so_far.many)) some le says);
}

-- all were read
pub read_ends : (at : ℕ → Body) (first end count : ℕ) (content : List ℕ)
    → IsReadTo at first end count content → end ≡ 0 → count ≡ pages_long (length content)
    → IsContentAt at first content
read_ends at first end count content so_far none enough =
    let held = subst (λ (k : ℕ). AreHeld at first so_far.pages content k) none so_far.held in
    record {
      pages = so_far.pages;
      begins = held_begins at first so_far.pages content held;
      numbered = held_numbered at first 0 so_far.pages content held;
      paged = so_far.many ∙ enough;
      are_read = held_read at first so_far.pages content held;
    }

-- ---- a content that is there

-- the first page of a content
pub record IsFirstPage (at : ℕ → Body) (n : ℕ) (content : List ℕ) : Type 0 where
  pub some : 1 ≤ n
  pub next : ℕ
  pub says : at n ≡ ContentPage next (filled (take 2032 content))
  pub behind : IsContentAt at next (drop 2032 content)

pub first_page : (at : ℕ → Body) (n : ℕ) (content : List ℕ) → IsContentAt at n content
    → 0 < length content → IsFirstPage at n content
first_page at n content is more =
    by_pages is.pages is.begins is.numbered is.paged is.are_read
  where
    by_pages : (pages : List ℕ) → n ≡ first_of pages → AllByRecursion (λ m. 1 ≤ m) pages
        → length pages ≡ pages_long (length content) → AreRead at (content_bodies pages content)
        → IsFirstPage at n content
    by_pages [] begins numbered paged read = absurd (omega (arith, paged))
    by_pages (m ∷ rest) begins numbered paged read = record {
      some = omega (arith, begins, numbered.0);
      next = first_of rest;
      says = ap at begins ∙ read.0;
      behind = record {
        pages = rest;
        begins = refl;
        numbered = numbered.1;
        paged = omega (arith, paged, more, length-drop 2032 content);
        are_read = read.1;
      };
    }

-- no page says nothing
pub no_page : (at : ℕ → Body) (n : ℕ) (content : List ℕ) → IsContentAt at n content
    → length content ≡ 0 → n ≡ 0
no_page at n content is none = by_pages is.pages is.begins is.paged
  where
    by_pages : (pages : List ℕ) → n ≡ first_of pages
        → length pages ≡ pages_long (length content) → n ≡ 0
    by_pages [] begins paged = begins
    by_pages (m ∷ rest) begins paged = absurd (omega (arith, paged, none))

-- two parts of one length that fill a page alike
pub one_part : (xs ys : List ℕ) → length xs ≡ length ys → filled xs ≡ filled ys → xs ≡ ys
one_part xs ys long same =
    sym (take_at xs (replicate (2032 - length xs) 0) (length xs) refl)
    ∙ ap (take (length xs)) same
    ∙ take_at ys (replicate (2032 - length ys) 0) (length xs) (sym long)

-- page n, which says a part of so many bytes
pub record IsPart (body : Body) (n size : ℕ) : Type 0 where
  pub some : 1 ≤ n
  pub next : ℕ
  pub part : List ℕ
  pub size_is : length part ≡ size
  pub says : body ≡ ContentPage next (filled part)

-- what is left of a content that is read so far, from page n on
pub record IsRest (at : ℕ → Body) (n : ℕ) (so_far content : List ℕ) : Type 0 where
  pub rest : List ℕ
  pub parts : content ≡ so_far ++ rest
  pub stands : IsContentAt at n rest

pub length-rest : (at : ℕ → Body) (n left : ℕ) (so_far content : List ℕ)
    (is : IsRest at n so_far content) → length so_far + left ≡ length content
    → length is.rest ≡ left
length-rest at n left so_far content is long =
    omega (arith, long, ap length is.parts, length-append so_far is.rest)

module _ (at : ℕ → Body) (n left : ℕ) (so_far content : List ℕ) (is : IsRest at n so_far content)
    (long : length so_far + left ≡ length content) (more : 0 < left) where
  page_here : IsFirstPage at n is.rest
  page_here = first_page at n is.rest is.stands
      (omega (arith, length-rest at n left so_far content is long))

  part_here : (size : ℕ) → size ≡ min left 2032 → length (take 2032 is.rest) ≡ size
  part_here size same =
      omega (
        arith,
        same,
        length-take 2032 is.rest,
        length-rest at n left so_far content is long,
      )

  -- the part that is to be read next
  pub to_read : (at' : ℕ → Body) (size : ℕ) → at' ≡ at → size ≡ min left 2032
      → IsPart (at' n) n size
  to_read at' size same long = record {
    some = page_here.some;
    next = page_here.next;
    part = take 2032 is.rest;
    size_is = part_here size long;
    says = said_too at at' n _ same page_here.says;
  }

  -- the part that is read is the content's
  pub rest_goes_on : (next : ℕ) (part new : List ℕ) → length part ≡ min left 2032
      → at n ≡ ContentPage next (filled part) → new ≡ so_far ++ part → IsRest at next new content
  rest_goes_on next part new size says grown =
      let both = sym page_here.says ∙ says in
      let same : take 2032 is.rest ≡ part =
      one_part (take 2032 is.rest) part (part_here (length part) size) (one_text _ _ _ _ both) in
      record {
        rest = drop 2032 is.rest;
        parts = is.parts ∙ ap (λ (xs : List ℕ). so_far ++ xs) (sym (take-append-drop 2032 is.rest))
            ∙ sym (append_assoc so_far (take 2032 is.rest) (drop 2032 is.rest))
            ∙ ap (λ (xs : List ℕ). (so_far ++ xs) ++ drop 2032 is.rest) same
            ∙ ap (λ (xs : List ℕ). xs ++ drop 2032 is.rest) (sym grown);
        stands = subst (λ (k : ℕ). IsContentAt at k (drop 2032 is.rest)) (one_next _ _ _ _ both)
            page_here.behind;
      }
