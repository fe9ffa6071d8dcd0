-- The free list, as far as it was read.
use Rattle.std.proofs.Common.{◌≡◌, inl, ℕ, zero, suc, ◌+◌, ◌<◌, ◌≤◌, Bool, List, [], ◌∷◌, ◌++◌, length, get_or, take, refl, sym, ap, ◌∙◌, subst, arith, append_assoc, append-nil, length-append, add-one}
use Rattle.std.proofs.lemmas.List.{take_all}
use Rattle.page_model.specs.Pages.{Body, FreePage}
use Rattle.page_model.specs.PageBodies.{first_of, free_bodies, AreRead}
use Rattle.file_check.specs.Marks.{AreMarked, MayBeSeen}
use Rattle.file_check.proofs.Seen.{first_more, may_first, no_page}
use Rattle.file_check.specs.FreeLists.{IsList, IsListMarked}

-- i pages were read, and page n comes next
pub record IsRead (at : ℕ → Body) (end head i n : ℕ) (marks : List Bool)
    (seen : List ℕ) : Type 0 where
  pub before : List ℕ
  pub many : length before ≡ i
  -- whatever list begins at page n
  pub behind : (rest : List ℕ) → first_of rest ≡ n → AreRead at (free_bodies rest)
      → AreRead at (free_bodies (before ++ rest)) × (first_of (before ++ rest) ≡ head)
  pub marked : AreMarked marks end (seen ++ before)

pub none_read : (at : ℕ → Body) (end head : ℕ) (marks : List Bool) (seen : List ℕ)
    → AreMarked marks end seen → IsRead at end head 0 head marks seen
none_read at end head marks seen are = record {
  before = [];
  many = refl;
  behind = λ rest first read. (read, first);
  marked = subst (AreMarked marks end) (sym (append-nil seen)) are;
}

pub more_read : (at : ℕ → Body) (end head i n next : ℕ) (marks marks' : List Bool) (seen : List ℕ)
    → IsRead at end head i n marks seen → at n ≡ FreePage next
    → ((before : List ℕ) → AreMarked marks end before → AreMarked marks' end (before ++ n ∷ []))
    → IsRead at end head (i + 1) next marks' seen
more_read at end head i n next marks marks' seen is says mark = record {
  before = is.before ++ n ∷ [];
  many = omega (arith, is.many, length-append is.before (n ∷ []));
  behind = λ rest first read.
      let whole = is.behind (n ∷ rest) refl (says ∙ ap FreePage (sym first), read) in
      subst (λ (ns : List ℕ). AreRead at (free_bodies ns) × (first_of ns ≡ head))
      (sym (append_assoc is.before (n ∷ []) rest)) whole;
  marked = subst (AreMarked marks' end) (append_assoc seen is.before (n ∷ []))
      (mark (seen ++ is.before) is.marked);
}

-- the list ends there
pub all_read : (at : ℕ → Body) (end head count i n : ℕ) (marks : List Bool) (seen : List ℕ)
    → IsRead at end head i n marks seen → n ≡ 0 → i ≡ count
    → IsListMarked at end head count marks seen
all_read at end head count i n marks seen is none all =
    let whole = is.behind [] (sym none) tt in
    let same = append-nil is.before in
    record {
      free = is.before;
      is = record {
        are_read = subst (λ (ns : List ℕ). AreRead at (free_bodies ns)) same whole.0;
        from = sym (subst (λ (ns : List ℕ). first_of ns ≡ head) same whole.1);
        many = sym all ∙ sym is.many;
      };
      marked = is.marked;
    }

-- of a list that the pages say

first_is : (ns : List ℕ) → first_of ns ≡ get_or ns 0 0
first_is [] = refl
first_is (n ∷ ns) = refl

pub starts_there : (at : ℕ → Body) (head count : ℕ) (free : List ℕ) → IsList at head count free
    → head ≡ get_or free 0 0
starts_there at head count free is = is.from ∙ first_is free

says_next : (at : ℕ → Body) (free : List ℕ) (i : ℕ) → AreRead at (free_bodies free)
    → i < length free → at (get_or free i 0) ≡ FreePage (get_or free (suc i) 0)
says_next at [] i read lt = absurd (omega arith)
says_next at (n ∷ rest) zero read lt = read.0 ∙ ap FreePage (first_is rest)
says_next at (n ∷ rest) (suc i) read lt = says_next at rest i read.1 (omega arith)

-- page n is page i of the list, and names the one behind
pub says_free : (at : ℕ → Body) (head count : ℕ) (free : List ℕ) (i n : ℕ)
    → IsList at head count free → i < count → n ≡ get_or free i 0
    → at n ≡ FreePage (get_or free (i + 1) 0)
says_free at head count free i n is lt same =
    ap at same ∙ says_next at free i is.are_read (omega (arith, is.many))
    ∙ ap (λ (k : ℕ). FreePage (get_or free k 0)) (sym (add-one i))

-- it may be seen behind those before it
pub may_next : (at : ℕ → Body) (end head count : ℕ) (seen free : List ℕ) (i n : ℕ)
    → IsList at head count free → i < count → n ≡ get_or free i 0 → MayBeSeen end (seen ++ free)
    → MayBeSeen end ((seen ++ take i free) ++ n ∷ [])
may_next at end head count seen free i n is lt same may =
    subst (MayBeSeen end) (sym (first_more seen free i n (omega (arith, is.many)) same))
    (may_first end seen free (i + 1) may)

pub next_marked : (at : ℕ → Body) (end head count : ℕ) (marks : List Bool) (seen free : List ℕ)
    (i n : ℕ) → IsList at head count free → i < count → n ≡ get_or free i 0
    → AreMarked marks end ((seen ++ take i free) ++ n ∷ [])
    → AreMarked marks end (seen ++ take (i + 1) free)
next_marked at end head count marks seen free i n is lt same are =
    subst (AreMarked marks end) (first_more seen free i n (omega (arith, is.many)) same) are

past_end : (ns : List ℕ) (i : ℕ) → length ns ≤ i → get_or ns i 0 ≡ 0
past_end [] i le = refl
past_end (n ∷ ns) zero le = absurd (omega arith)
past_end (n ∷ ns) (suc i) le = past_end ns i (omega arith)

-- behind the last page there is none
pub none_behind : (at : ℕ → Body) (head count : ℕ) (free : List ℕ) (i n : ℕ)
    → IsList at head count free → i ≡ count → n ≡ get_or free i 0 → n ≡ 0
none_behind at head count free i n is all same =
    same ∙ past_end free i (omega (arith, is.many, all))

pub all_marked : (at : ℕ → Body) (end head count : ℕ) (marks : List Bool) (seen free : List ℕ)
    (i : ℕ) → IsList at head count free → i ≡ count → AreMarked marks end (seen ++ take i free)
    → AreMarked marks end (seen ++ free)
all_marked at end head count marks seen free i is all are =
    subst (λ (ns : List ℕ). AreMarked marks end (seen ++ ns))
    (take_all i free (omega (arith, is.many, all))) are

-- a page that may be seen is a page
pub is_some : (end : ℕ) (seen : List ℕ) (n : ℕ) → MayBeSeen end (seen ++ n ∷ []) → 1 ≤ n
is_some end seen zero may = absurd (no_page end seen 0 (inl refl) may)
is_some end seen (suc n) may = omega arith
