-- The pages of a content that are written, one after the other.
use Rattle.std.proofs.Common.{◌≡◌, ◌≢◌, ℕ, zero, suc, ◌+◌, ◌-◌, ◌*◌, ◌<◌, ◌≤◌, List, [], ◌∷◌, ◌++◌, length, map, get_or, take, drop, AllPairs, refl, sym, ap, subst, ◌∙◌, arith}
use Rattle.std.specs.List.{slice_get}
use Rattle.std.specs.Option.{unwrap_or}
use Rattle.std.proofs.lemmas.List.{take_more, take_rest, take-map, take_all, drop-drop, drop_more}
use Rattle.page_model.specs.Pages.{Body, ContentPage, NumberedBody}
use Rattle.page_model.specs.PageBodies.{first_of, filled, content_bodies, AreRead}
use Rattle.page_model.specs.Rewrites.{AreRewritten}
use Rattle.page_model.specs.Space.{times_of}
use Rattle.page_model.proofs.Chains.{AllByRecursion-append}
use Rattle.page_model.proofs.Frames.{kept}
use Rattle.page_model.proofs.Spaces.{times_head}
use Rattle.page_io.specs.Page.{own_number}
use Rattle.page_io.specs.Store.{StoreState, put_page}
use Rattle.content_pages.specs.Staging.{MayEndWithAll}
use Rattle.content_pages.proofs.PageCounts.{times_both, times_other}

pub numbers-content : (pages content : List ℕ)
    → map (λ numbered. numbered.number) (content_bodies pages content) ≡ pages
numbers-content [] content = refl
numbers-content (n ∷ rest) content =
    ap (λ (ns : List ℕ). n ∷ ns) (numbers-content rest (drop 2032 content))

length-bodies : (pages content : List ℕ) → length (content_bodies pages content) ≡ length pages
length-bodies [] content = refl
length-bodies (n ∷ rest) content = omega (arith, length-bodies rest (drop 2032 content))

-- what page i has to say
abbrev pub body_of_page : List ℕ → List ℕ → ℕ → Body
body_of_page pages content i =
    ContentPage (first_of (drop (i + 1) pages)) (filled (take 2032 (drop (2032 * i) content)))

first_behind : (pages : List ℕ) (k : ℕ) → first_of (drop k pages) ≡ get_or pages k 0
first_behind [] zero = refl
first_behind [] (suc k) = refl
first_behind (n ∷ rest) zero = refl
first_behind (n ∷ rest) (suc k) = first_behind rest k

pub first_got : (pages : List ℕ) → unwrap_or (slice_get pages 0) 0 ≡ first_of pages
first_got [] = refl
first_got (n ∷ rest) = refl

-- a page that is made says that
pub made_for_place : (body : Body) (pages content : List ℕ) (i next : ℕ)
    → body ≡ ContentPage next (filled (take 2032 (take (length content - 2032 * i)
    (drop (2032 * i) content)))) → next ≡ get_or pages (i + 1) 0
    → body ≡ body_of_page pages content i
made_for_place body pages content i next made is =
    made ∙ ap (λ (xs : List ℕ). ContentPage next (filled (take 2032 xs)))
    (take_rest content (2032 * i))
    ∙ ap (λ (k : ℕ). ContentPage k (filled (take 2032 (drop (2032 * i) content))))
    (is ∙ sym (first_behind pages (i + 1)))

body_at_place : (pages content : List ℕ) (i : ℕ) (d : NumberedBody) → i < length pages
    → get_or (content_bodies pages content) i d
    ≡ record { number = get_or pages i 0; body = body_of_page pages content i }
body_at_place [] content i d lt = absurd (omega (arith, lt))
body_at_place (n ∷ rest) content zero d lt = refl
body_at_place (n ∷ rest) content (suc i) d lt =
    let behind : drop (2032 * i) (drop 2032 content) ≡ drop (2032 * suc i) content =
    drop-drop (2032 * i) 2032 content ∙ ap (λ (k : ℕ). drop k content) (omega arith) in
    let next : drop (i + 1) rest ≡ drop (suc i + 1) (n ∷ rest) =
    ap (λ (k : ℕ). drop k (n ∷ rest)) {x = suc (i + 1)} (omega arith) in
    body_at_place rest (drop 2032 content) i d (omega (arith, lt))
    ∙ ap (λ (xs : List ℕ). record {
      number = get_or rest i 0;
      body = ContentPage (first_of (drop (i + 1) rest)) (filled (take 2032 xs));
    }) behind
    ∙ ap (λ (ns : List ℕ). record {
      number = get_or rest i 0;
      body = ContentPage (first_of ns) (filled (take 2032 (drop (2032 * suc i) content)));
    }) next

-- a page isn't one of those before it
none_before : (pages : List ℕ) (i : ℕ) → AllPairs (λ n m. n ≢ m) pages → i < length pages → (j : ℕ)
    → j ≤ i → times_of (get_or pages i 0) (take j pages) ≡ 0
none_before pages i apart lt zero le = refl
none_before pages i apart lt (suc j) le =
    let n = get_or pages i 0 in
    let more : take (suc j) pages ≡ take j pages ++ get_or pages j 0 ∷ [] =
    ap (λ (k : ℕ). take k pages) {x = suc j} {y = j + 1} (omega arith)
    ∙ take_more pages j 0 (omega (arith, lt, le)) in
    omega (
      arith,
      ap (times_of n) more,
      times_both n (take j pages) (get_or pages j 0 ∷ []),
      times_other n (get_or pages j 0) (λ same. apart j i 0 (omega (arith, le)) lt (sym same)),
      none_before pages i apart lt j (omega (arith, le)),
    )

-- the first `count` pages were written
pub record IsWrittenTo (old new : ℕ → Body) (pages content : List ℕ) (count : ℕ) : Type 0 where
  pub are_read : AreRead new (take count (content_bodies pages content))
  pub others : (m : ℕ) → times_of m (take count pages) ≡ 0 → new m ≡ old m

module _ (old mid new : ℕ → Body) (pages content : List ℕ) (i : ℕ) (lt : i < length pages)
    (apart : AllPairs (λ n m. n ≢ m) pages) (so_far : IsWrittenTo old mid pages content i) where
  abbrev n : ℕ
  n = get_or pages i 0

  abbrev bodies : List NumberedBody
  bodies = content_bodies pages content

  abbrev here : NumberedBody
  here = record { number = n; body = body_of_page pages content i }

  more : take (i + 1) bodies ≡ take i bodies ++ here ∷ []
  more = take_more bodies i here (omega (arith, lt, length-bodies pages content))
      ∙ ap (λ (b : NumberedBody). take i bodies ++ b ∷ []) (body_at_place pages content i here lt)

  numbers : map (λ numbered. numbered.number) (take i bodies) ≡ take i pages
  numbers = sym (take-map (λ (b : NumberedBody). b.number) i bodies)
      ∙ ap (take i) (numbers-content pages content)

  none : times_of n (take i pages) ≡ 0
  none = none_before pages i apart lt i (omega arith)

  pub writing_goes_on : new n ≡ body_of_page pages content i
      → ((m : ℕ) → (m ≡ n → ⊥) → new m ≡ mid m) → IsWrittenTo old new pages content (i + 1)
  writing_goes_on says others = record {
    are_read = subst (AreRead new) (sym more)
        (AllByRecursion-append (λ (b : NumberedBody). new b.number ≡ b.body) (take i bodies)
        (here ∷ [])
        (kept mid new (take i bodies) (λ m stands. others m (λ same. omega (
          arith,
          none,
          subst (λ (k : ℕ). 1 ≤ times_of k (take i pages)) same
              (subst (λ (ns : List ℕ). 1 ≤ times_of m ns) numbers stands),
        ))) so_far.are_read) (says, tt));
    others = λ m away.
        let both : times_of m (take (i + 1) pages) ≡ times_of m (take i pages)
        + times_of m (n ∷ []) =
        ap (times_of m) (take_more pages i 0 lt) ∙ times_both m (take i pages) (n ∷ []) in
        others m (λ same. omega (
          arith,
          away,
          both,
          subst (λ (k : ℕ). times_of k (n ∷ []) ≡ 1) (sym same) (times_same n),
        )) ∙ so_far.others m (omega (arith, away, both));
  }
    where
      times_same : (k : ℕ) → times_of k (k ∷ []) ≡ 1
      times_same k = omega (arith, times_head k [])

-- all were written
pub writing_ends : (old new : ℕ → Body) (pages content : List ℕ) (count : ℕ)
    → IsWrittenTo old new pages content count → length pages ≤ count
    → AreRewritten old new (content_bodies pages content)
writing_ends old new pages content count so_far enough = record {
  are_read = subst (AreRead new) (take_all count (content_bodies pages content)
      (omega (arith, enough, length-bodies pages content))) so_far.are_read;
  others = λ m away. so_far.others m
      (ap (times_of m) (take_all count pages enough ∙ sym (numbers-content pages content)) ∙ away);
}

-- ---- where the file may end

-- before page i is staged
pub one_staged : (before after : StoreState) (pages bytes : List ℕ) (i n end : ℕ)
    → i < length pages → n ≡ get_or pages i 0 → MayEndWithAll before (drop i pages) end
    → own_number bytes ≡ n → after ≡ record before { staged = put_page before.staged bytes }
    → MayEndWithAll after (drop (i + 1) pages) end
one_staged before after pages bytes i n end lt is may own put =
    subst (λ (st : StoreState). MayEndWithAll st (drop (i + 1) pages) end) (sym put)
    (subst (λ (ns : List ℕ). MayEndWithAll before ns end) (drop_more pages i 0 lt) may bytes
    (own ∙ is))
