-- The pages of a content that are given, one after the other.
use Rattle.std.proofs.Common.{◌≡◌, inl, inr, ℕ, ◌+◌, ◌<◌, ◌≤◌, ◌==◌, cond, List, [], ◌∷◌, ◌++◌, length, reverse, sum_by, refl, sym, ap, ◌∙◌, subst, append-nil, arith}
use Rattle.std.specs.List.{AllByRecursion}
use Rattle.std.proofs.lemmas.Bool.{cases_eq}
use Rattle.std.proofs.lemmas.List.{reverse-append, length-append}
use Rattle.std.proofs.lemmas.List.Sums.{sum_by-append}
use Rattle.std.proofs.lemmas.List.Sorted.{IsPermutation-reverse, sum_by-IsPermutation}
use Rattle.page_model.specs.Chain.{pages_long}
use Rattle.page_model.specs.Pages.{Body, FreePage}
use Rattle.page_model.specs.PageBodies.{first_of}
use Rattle.page_model.specs.Space.{Space, give, is_page, times_of}
use Rattle.page_model.proofs.Frames.{at_most_one}
use Rattle.page_model.proofs.Spaces.{times_head, times_tail}
use Rattle.free_pages.specs.declared.free_state.FreeState.{FreeState}
use Rattle.free_pages.specs.FreeList.{IsFreeList, IsApart}
use Rattle.free_pages.specs.Giving.{IsFree, AreInFront, AreGiven}
use Rattle.content_pages.specs.Contents.{IsContentPage, AreNamed, ArePagesOf, IsContentGiven}
use Rattle.content_pages.proofs.ContentTexts.{one_next}
use Rattle.content_pages.proofs.PageCounts.{times_both, times_other}

-- content pages from `first` on, each naming the one behind it, and the last one `end`
abbrev pub AreLed : (ℕ → Body) → ℕ → List ℕ → ℕ → Type 0
AreLed at first [] end = first ≡ end
AreLed at first (n ∷ pages) end = (first ≡ n) × (1 ≤ n)
    × ((next : ℕ) × IsContentPage (at n) next × AreLed at next pages end)

-- one page more
led_more : (at : ℕ → Body) (first n next : ℕ) (pages : List ℕ) → AreLed at first pages n → 1 ≤ n
    → IsContentPage (at n) next → AreLed at first (pages ++ n ∷ []) next
led_more at first n next [] led some is = (led, some, (next, is, refl))
led_more at first n next (m ∷ pages) led some is = (
  led.0,
  led.1,
  (led.2.0, led.2.1, led_more at led.2.0 n next pages led.2.2 some is),
)

led_begins : (at : ℕ → Body) (first : ℕ) (pages : List ℕ) → AreLed at first pages 0
    → first ≡ first_of pages
led_begins at first [] led = led
led_begins at first (n ∷ pages) led = led.0

led_numbered : (at : ℕ → Body) (first end : ℕ) (pages : List ℕ) → AreLed at first pages end
    → AllByRecursion (λ n. 1 ≤ n) pages
led_numbered at first end [] led = tt
led_numbered at first end (n ∷ pages) led =
    (led.1, led_numbered at led.2.0 end pages led.2.2)

led_named : (at : ℕ → Body) (first : ℕ) (pages : List ℕ) → AreLed at first pages 0
    → AreNamed at pages
led_named at first [] led = tt
led_named at first (n ∷ pages) led = (
  subst (IsContentPage (at n)) (led_begins at led.2.0 pages led.2.2) led.2.1,
  led_named at led.2.0 pages led.2.2,
)

-- pages of which the first ones were passed
pub record IsSplit (at : ℕ → Body) (n : ℕ) (passed pages : List ℕ) : Type 0 where
  pub later : List ℕ
  pub parts : pages ≡ passed ++ later
  pub begins : n ≡ first_of later
  pub numbered : AllByRecursion (λ m. 1 ≤ m) later
  pub named : AreNamed at later

led_split : (at : ℕ → Body) (first n : ℕ) (passed pages : List ℕ) → AreLed at first passed n
    → first ≡ first_of pages → AllByRecursion (λ m. 1 ≤ m) pages → AreNamed at pages
    → length passed ≤ length pages → IsSplit at n passed pages
led_split at first n [] pages led begins numbered named le = record {
  later = pages;
  parts = refl;
  begins = sym led ∙ begins;
  numbered = numbered;
  named = named;
}
led_split at first n (m ∷ passed) [] led begins numbered named le = absurd (omega (arith, le))
led_split at first n (m ∷ passed) (k ∷ pages) led begins numbered named le =
    let same : m ≡ k = sym led.0 ∙ begins in
    let next : led.2.0 ≡ first_of pages =
    one_next _ _ _ _ (sym led.2.1.says ∙ ap at same ∙ named.0.says) in
    let rest = led_split at led.2.0 n passed pages led.2.2 next numbered.1 named.1
    (omega (arith, le)) in
    record {
      later = rest.later;
      parts = λ i. sym same i ∷ rest.parts i;
      begins = rest.begins;
      numbered = rest.numbered;
      named = rest.named;
    }

-- ---- pages in front of the free ones

-- they stay in front while none of them is changed
pub in_front_kept : (at at' : ℕ → Body) (old_head new_head : ℕ) (pages : List ℕ)
    → ((n : ℕ) → 1 ≤ times_of n pages → at' n ≡ at n) → AreInFront at old_head pages new_head
    → AreInFront at' old_head pages new_head
in_front_kept at at' old_head new_head [] same are = are
in_front_kept at at' old_head new_head (n ∷ pages) same are = (
  same n (omega (arith, times_head n pages)) ∙ are.0,
  in_front_kept at at' n new_head pages
      (λ m stands. same m (omega (arith, stands, times_tail m n pages))) are.1,
)

-- and one more is put in front of them
pub in_front_more : (at : ℕ → Body) (old_head new_head : ℕ) (pages : List ℕ) (n : ℕ)
    → AreInFront at old_head pages new_head → at n ≡ FreePage new_head
    → AreInFront at old_head (pages ++ n ∷ []) n
in_front_more at old_head new_head [] n are free =
    (subst (λ (k : ℕ). at n ≡ FreePage k) are free, refl)
in_front_more at old_head new_head (m ∷ pages) n are free =
    (are.0, in_front_more at m new_head pages n are.1 free)

-- as many of each page in the free list and among those given
pub times_given : (n : ℕ) (pages : List ℕ) (s : Space)
    → times_of n (give pages s).free ≡ times_of n pages + times_of n s.free
times_given n pages s =
    let one : ℕ → ℕ = λ m. cond (m == n) 1 0 in
    sum_by-append one (reverse pages) s.free
    ∙ ap (λ (k : ℕ). k + sum_by one s.free)
    (sum_by-IsPermutation one pages (reverse pages) (IsPermutation-reverse pages))

-- one more in front
pub give_more : (pages : List ℕ) (n : ℕ) (s : Space)
    → give (n ∷ []) (give pages s) ≡ give (pages ++ n ∷ []) s
give_more pages n s = ap (λ (free : List ℕ). record s { free = free })
    (sym (ap (λ (ns : List ℕ). ns ++ s.free) (reverse-append pages (n ∷ []))))

-- a page isn't free where it says a content
not_free : (body : Body) (next : ℕ) → IsFree body → IsContentPage body next → ⊥
not_free body next free is = let same = sym free.free ∙ is.says in absurd (cc)

none_or_some : (k : ℕ) → (1 ≤ k → ⊥) → k ≡ 0
none_or_some k none = omega (arith, none)

-- ---- so many pages were given

pub record IsGivenTo (old new : ℕ → Body) (before after : FreeState)
    (first end count : ℕ) : Type 0 where
  pub pages : List ℕ
  pub many : length pages ≡ count
  pub led : AreLed old first pages end
  pub given : AreGiven old new before after pages

module _ (old mid new : ℕ → Body) (before after after' : FreeState) (first n count next : ℕ)
    (so_far : IsGivenTo old mid before after first n count)
    (page : IsContentPage (mid n) next) where
  abbrev more : List ℕ
  more = so_far.pages ++ n ∷ []

  apart : times_of n so_far.pages ≡ 0
  apart = none_or_some _ (λ stands. not_free (mid n) next (so_far.given.free n stands) page)

  counted : (m : ℕ) → times_of m more ≡ times_of m so_far.pages + times_of m (n ∷ [])
  counted m = times_both m so_far.pages (n ∷ [])

  -- the page is given too
  pub giving_goes_on : 1 ≤ n → new n ≡ FreePage after.head → ((m : ℕ) → (m ≡ n → ⊥) → new m ≡ mid m)
      → after' ≡ record { head = n; count = after.count + 1; file_end = after.file_end }
      → ((s : Space) → IsFreeList mid after s → IsApart (n ∷ []) s
      → IsFreeList new after' (give (n ∷ []) s))
      → IsGivenTo old new before after' first next (count + 1)
  giving_goes_on some free others is list = record {
    pages = more;
    many = omega (arith, so_far.many, length-append so_far.pages (n ∷ []));
    led = led_more old first n next so_far.pages so_far.led some
        (subst (λ (b : Body). IsContentPage b next) (so_far.given.others n apart) page);
    given = record {
      free = λ m stands. elim (cases_eq m n) [
        | inl same ↦ subst (λ (k : ℕ). IsFree (new k)) (sym same)
            (record { next = after.head; free = free })
        | inr other ↦ subst IsFree (sym (others m other))
            (so_far.given.free m (omega (arith, stands, counted m, times_other m n other)))
      ];
      others = λ m none.
          let other : m ≡ n → ⊥ = λ same.
          omega (
            arith,
            none,
            counted m,
            subst (λ (k : ℕ). 1 ≤ times_of k (n ∷ [])) (sym same)
                (omega (arith, times_head n [])),
          ) in
          others m other ∙ so_far.given.others m (omega (arith, none, counted m));
      in_front = subst (AreInFront new before.head more)
          (sym (ap (λ (f : FreeState). f.head) is))
          (in_front_more new before.head after.head so_far.pages n
          (in_front_kept mid new before.head after.head so_far.pages
          (λ m stands. others m (λ same. omega (
            arith,
            apart,
            subst (λ (k : ℕ). 1 ≤ times_of k so_far.pages) same stands,
          ))) so_far.given.in_front) free);
      more = omega (
        arith,
        so_far.given.more,
        ap (λ (f : FreeState). f.count) is,
        length-append so_far.pages (n ∷ []),
      );
      end = ap (λ (f : FreeState). f.file_end) is ∙ so_far.given.end;
      list = λ s is stands.
          let own : (m : ℕ) → times_of m so_far.pages + times_of m s.free
          ≤ cond (is_page m s.end) 1 0 = λ m. omega (arith, stands m, counted m) in
          let given : IsFreeList mid after (give so_far.pages s) = so_far.given.list s is own in
          let alone : IsApart (n ∷ []) (give so_far.pages s) = λ m.
          omega (arith, stands m, counted m, times_given m so_far.pages s) in
          subst (IsFreeList new after') (give_more so_far.pages n s)
          (list (give so_far.pages s) given alone);
    };
  }

-- all were given
module _ (old new : ℕ → Body) (before after : FreeState) (first end count long : ℕ)
    (so_far : IsGivenTo old new before after first end count) where
  pub giving_ends : end ≡ 0 → count ≡ pages_long long
      → IsContentGiven old new before after first long
  giving_ends none enough =
      let led = subst (AreLed old first so_far.pages) none so_far.led in
      record {
        pages = so_far.pages;
        are = record {
          begins = led_begins old first so_far.pages led;
          numbered = led_numbered old first 0 so_far.pages led;
          paged = so_far.many ∙ enough;
          named = led_named old first so_far.pages led;
        };
        given = so_far.given;
      }

  -- where they are these pages
  module _ (pages : List ℕ) (are : ArePagesOf old first long pages) where
    given_split : count ≤ pages_long long → IsSplit old end so_far.pages pages
    given_split le = led_split old first end so_far.pages pages so_far.led are.begins are.numbered
        are.named (omega (arith, so_far.many, are.paged, le))

    none_later : (enough : count ≡ pages_long long) → (later : List ℕ)
        → pages ≡ so_far.pages ++ later → later ≡ []
    none_later enough [] parts = refl
    none_later enough (m ∷ later) parts = absurd (omega (
      arith,
      enough,
      so_far.many,
      are.paged,
      ap length parts,
      length-append so_far.pages (m ∷ later),
    ))

    pub those_given : count ≡ pages_long long → AreGiven old new before after pages
    those_given enough =
        let split = given_split (omega (arith, enough)) in
        let none = none_later enough split.later split.parts in
        subst (AreGiven old new before after)
        (sym (split.parts ∙ ap (λ (ns : List ℕ). so_far.pages ++ ns) none
        ∙ append-nil so_far.pages)) so_far.given

    pub no_more : count ≡ pages_long long → end ≡ 0
    no_more enough =
        let split = given_split (omega (arith, enough)) in
        split.begins ∙ ap first_of (none_later enough split.later split.parts)

    -- so many are free that one more fits
    pub room_left : (s : Space) → IsFreeList old before s → length pages + length s.free < s.end
        → count < pages_long long → after.file_end ≤ after.count → ⊥
    room_left s list fits more over =
        let kept : before.count ≡ length s.free = ap (λ (f : FreeState). f.count) list.kept in
        let end_is : before.file_end ≡ s.end = ap (λ (f : FreeState). f.file_end) list.kept in
        omega (
          arith,
          over,
          kept,
          end_is,
          so_far.given.more,
          so_far.given.end,
          so_far.many,
          are.paged,
          fits,
          more,
        )

    -- the page that is read next
    pub record IsNext (body : Body) : Type 0 where
      pub some : 1 ≤ end
      pub next : ℕ
      pub is : IsContentPage body next

    pub next_given : (s : Space) → IsApart pages s → count < pages_long long → IsNext (new end)
    next_given s apart_from more =
        by_later split.later split.begins split.numbered split.named split.parts
      where
        split : IsSplit old end so_far.pages pages
        split = given_split (omega (arith, more))

        by_later : (later : List ℕ) → end ≡ first_of later → AllByRecursion (λ m. 1 ≤ m) later
            → AreNamed old later → pages ≡ so_far.pages ++ later → IsNext (new end)
        by_later [] begins numbered named parts = absurd (omega (
          arith,
          more,
          so_far.many,
          are.paged,
          ap length parts,
          ap length (append-nil so_far.pages),
        ))
        by_later (m ∷ later) begins numbered named parts =
            let stands : 1 ≤ times_of end (m ∷ later) =
            subst (λ (k : ℕ). 1 ≤ times_of k (m ∷ later)) (sym begins)
            (omega (arith, times_head m later)) in
            let none : times_of end so_far.pages ≡ 0 = omega (
              arith,
              apart_from end,
              at_most_one (is_page end s.end),
              ap (times_of end) parts,
              times_both end so_far.pages (m ∷ later),
              stands,
            ) in
            record {
              some = omega (arith, begins, numbered.0);
              next = first_of later;
              is = subst (λ (b : Body). IsContentPage b (first_of later))
                  (sym (so_far.given.others end none ∙ ap old begins)) named.0;
            }
