-- The pages of a content, looked at and marked one after the other.
use Rattle.std.proofs.Common.{◌≡◌, ℕ, ◌+◌, ◌-◌, ◌*◌, ◌<◌, ◌≤◌, min, Bool, List, [], ◌∷◌, ◌++◌, length, take, drop, refl, sym, ap, subst, ◌∙◌, append_assoc, append-nil, arith}
use Rattle.std.specs.List.{AllByRecursion}
use Rattle.std.proofs.lemmas.List.{length-append, length-drop, length-take}
use Rattle.page_model.specs.Chain.{pages_long}
use Rattle.page_model.specs.PairLists.{AreBytes}
use Rattle.page_model.specs.Pages.{Body, ContentPage}
use Rattle.page_model.specs.PageBodies.{first_of, filled, content_bodies, AreRead}
use Rattle.page_model.proofs.Chains.{AllByRecursion-append}
use Rattle.file_check.specs.Marks.{AreMarked, MayBeSeen}
use Rattle.file_check.proofs.Seen.{may_front}
use Rattle.content_pages.proofs.ContentTexts.{one_next, length-part}
use Rattle.content_pages.proofs.ContentWalks.{AreHeld, IsPart, said_too, held_more, held_read, held_begins}
use Rattle.file_check.specs.BucketChains.{AreContentPages, IsContentChecked}
use Rattle.file_check.proofs.PageBytes.{bytes_of_take, bytes_of_drop, all_bytes}
use Rattle.file_check.proofs.SeenPages.{in_file, times_parts, times_own}

-- ---- pages that say a content so far

-- so many pages were read and marked, and so many bytes are left
pub record IsPartChecked (at : ℕ → Body) (end first long n step left : ℕ) (marks : List Bool)
    (seen : List ℕ) : Type 0 where
  pub pages : List ℕ
  pub content : List ℕ
  pub held : AreHeld at first pages content n
  pub many : length pages ≡ step
  pub size_is : length content + left ≡ long
  pub bytes : AllByRecursion (λ byte. byte < 256) content
  pub marked : AreMarked marks end (seen ++ pages)

pub none_checked : (at : ℕ → Body) (end first long left : ℕ) (marks : List Bool) (seen : List ℕ)
    → left ≡ long → AreMarked marks end seen
    → IsPartChecked at end first long first 0 left marks seen
none_checked at end first long left marks seen all are = record {
  pages = [];
  content = [];
  held = (refl, refl);
  many = refl;
  size_is = omega (arith, all);
  bytes = tt;
  marked = subst (AreMarked marks end) (sym (append-nil seen)) are;
}

pub part_more : (at : ℕ → Body) (end first long n step left next size after : ℕ)
    (marks now : List Bool) (seen bytes : List ℕ)
    → (part : IsPartChecked at end first long n step left marks seen)
    → left ≡ long - 2032 * step → 0 < left → size ≡ min left 2032 → after ≡ left - size → 1 ≤ n
    → length bytes ≡ 2048 → AreBytes bytes
    → at n ≡ ContentPage next (filled (take size (drop 16 bytes)))
    → AreMarked now end ((seen ++ part.pages) ++ n ∷ [])
    → IsPartChecked at end first long next (step + 1) after now seen
part_more at end first long n step left next size after marks now seen bytes part left_is more
    size_is after_is some len are says marked =
    let piece : List ℕ = take size (drop 16 bytes) in
    let le : size ≤ 2032 = omega (arith, size_is) in
    let long_is : length piece ≡ size = length-part bytes size len le in
    record {
      pages = part.pages ++ n ∷ [];
      content = part.content ++ piece;
      held = held_more at first n next part.pages part.content piece part.held
          (omega (arith, part.size_is, part.many, left_is, more)) some
          (omega (arith, long_is, le)) says;
      many = omega (arith, part.many, length-append part.pages (n ∷ []));
      size_is = omega (
        arith,
        part.size_is,
        long_is,
        size_is,
        after_is,
        length-append part.content piece,
      );
      bytes = AllByRecursion-append (λ (byte : ℕ). byte < 256) part.content piece part.bytes
          (all_bytes piece
          (bytes_of_take size (drop 16 bytes) (bytes_of_drop 16 bytes are)));
      marked = subst (AreMarked now end) (append_assoc seen part.pages (n ∷ [])) marked;
    }

-- all were
pub all_checked : (at : ℕ → Body) (end first long n step left : ℕ) (marks : List Bool)
    (seen : List ℕ) → IsPartChecked at end first long n step left marks seen → n ≡ 0
    → left ≡ 0 → step ≡ pages_long long → IsContentChecked at end first long marks seen
all_checked at end first long n step left marks seen part last none enough =
    let held = subst (λ (k : ℕ). AreHeld at first part.pages part.content k) last part.held in
    record {
      pages = part.pages;
      content = part.content;
      are = record {
        begins = held_begins at first part.pages part.content held;
        paged = part.many ∙ enough;
        long_is = omega (arith, part.size_is, none);
        are_read = held_read at first part.pages part.content held;
      };
      bytes = part.bytes;
      marked = part.marked;
    }

-- ---- pages that say a content

-- page n is the next of these pages, and those before it are marked
pub record IsContentRest (at : ℕ → Body) (end n left : ℕ) (pages : List ℕ) (marks : List Bool)
    (seen : List ℕ) : Type 0 where
  pub done : List ℕ
  pub rest : List ℕ
  pub content : List ℕ
  pub parts : pages ≡ done ++ rest
  pub begins : n ≡ first_of rest
  pub paged : length rest ≡ pages_long left
  pub size_is : length content ≡ left
  pub are_read : AreRead at (content_bodies rest content)
  pub marked : AreMarked marks end (seen ++ done)

pub whole_rest : (at : ℕ → Body) (end first long left : ℕ) (pages content : List ℕ)
    (marks : List Bool) (seen : List ℕ) → left ≡ long → AreMarked marks end seen
    → AreContentPages at first long pages content
    → IsContentRest at end first left pages marks seen
whole_rest at end first long left pages content marks seen all marked are = record {
  done = [];
  rest = pages;
  content = content;
  parts = refl;
  begins = are.begins;
  paged = are.paged ∙ ap pages_long (sym all);
  size_is = are.long_is ∙ sym all;
  are_read = are.are_read;
  marked = subst (AreMarked marks end) (sym (append-nil seen)) marked;
}

-- nothing is left
pub no_rest : (at : ℕ → Body) (end n left : ℕ) (pages : List ℕ) (marks : List Bool)
    (seen : List ℕ) → IsContentRest at end n left pages marks seen → left ≡ 0 → n ≡ 0
no_rest at end n left pages marks seen is none = by_rest is.rest is.begins is.paged
  where
    by_rest : (rest : List ℕ) → n ≡ first_of rest → length rest ≡ pages_long left → n ≡ 0
    by_rest [] begins paged = begins
    by_rest (m ∷ rest) begins paged = absurd (omega (arith, paged, none))

-- the next page, and those behind it
record IsNext (at : ℕ → Body) (n left : ℕ) (rest content : List ℕ) : Type 0 where
  pub behind : List ℕ
  pub parts : rest ≡ n ∷ behind
  pub paged : length behind ≡ pages_long (left - 2032)
  pub says : at n ≡ ContentPage (first_of behind) (filled (take 2032 content))
  pub are_read : AreRead at (content_bodies behind (drop 2032 content))

module _ (at : ℕ → Body) (end n left : ℕ) (pages : List ℕ) (marks : List Bool) (seen : List ℕ)
    (is : IsContentRest at end n left pages marks seen) (more : 0 < left) where
  next_is : IsNext at n left is.rest is.content
  next_is = by_rest is.rest is.begins is.paged is.are_read
    where
      by_rest : (rest : List ℕ) → n ≡ first_of rest → length rest ≡ pages_long left
          → AreRead at (content_bodies rest is.content) → IsNext at n left rest is.content
      by_rest [] begins paged read = absurd (omega (arith, paged, more))
      by_rest (m ∷ rest) begins paged read = record {
        behind = rest;
        parts = λ i. sym begins i ∷ rest;
        paged = omega (arith, paged, more);
        says = ap at begins ∙ read.0;
        are_read = read.1;
      }

  pages_are : seen ++ pages ≡ ((seen ++ is.done) ++ n ∷ []) ++ next_is.behind
  pages_are = ap (λ (ns : List ℕ). seen ++ ns) is.parts
      ∙ sym (append_assoc seen is.done is.rest)
      ∙ ap (λ (ns : List ℕ). (seen ++ is.done) ++ ns) next_is.parts
      ∙ sym (append_assoc (seen ++ is.done) (n ∷ []) next_is.behind)

  -- it may be marked
  pub rest_mark : MayBeSeen end (seen ++ pages) → MayBeSeen end ((seen ++ is.done) ++ n ∷ [])
  rest_mark may = may_front end ((seen ++ is.done) ++ n ∷ []) next_is.behind
      (subst (MayBeSeen end) pages_are may)

  part_is : (size : ℕ) → size ≡ min left 2032 → length (take 2032 is.content) ≡ size
  part_is size same = omega (arith, same, length-take 2032 is.content, is.size_is)

  -- it says a part
  pub rest_part : (at' : ℕ → Body) (size : ℕ) → MayBeSeen end (seen ++ pages) → at' ≡ at
      → size ≡ min left 2032 → IsPart (at' n) n size
  rest_part at' size may same size_is = record {
    some = (in_file end n ((seen ++ is.done) ++ n ∷ []) (rest_mark may)
        (omega (arith, times_parts n (seen ++ is.done) (n ∷ []), times_own n []))).0;
    next = first_of next_is.behind;
    part = take 2032 is.content;
    size_is = part_is size size_is;
    says = said_too at at' n _ same next_is.says;
  }

  -- and names the next
  pub rest_more : (now : List Bool) (next size after : ℕ) (part : List ℕ)
      → at n ≡ ContentPage next part → size ≡ min left 2032 → after ≡ left - size
      → AreMarked now end ((seen ++ is.done) ++ n ∷ [])
      → IsContentRest at end next after pages now seen
  rest_more now next size after part says size_is after_is marked = record {
    done = is.done ++ n ∷ [];
    rest = next_is.behind;
    content = drop 2032 is.content;
    parts = is.parts ∙ ap (λ (ns : List ℕ). is.done ++ ns) next_is.parts
        ∙ sym (append_assoc is.done (n ∷ []) next_is.behind);
    begins = sym (one_next _ _ _ _ (sym next_is.says ∙ says));
    paged = omega (arith, next_is.paged, size_is, after_is);
    size_is = omega (arith, is.size_is, size_is, after_is, length-drop 2032 is.content);
    are_read = next_is.are_read;
    marked = subst (AreMarked now end) (append_assoc seen is.done (n ∷ [])) marked;
  }
