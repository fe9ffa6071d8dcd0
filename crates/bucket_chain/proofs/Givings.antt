-- Pages that are given to the free list, one after the other.
use Rattle.std.proofs.Common.{◌≡◌, inl, inr, ℕ, ◌+◌, ◌≤◌, cond, List, [], ◌∷◌, ◌++◌, Option, Some, None, false, append-nil, refl, sym, ap, ◌∙◌, subst, arith}
use Rattle.std.proofs.lemmas.Bool.{cases_eq}
use Rattle.std.proofs.lemmas.List.{length-append}
use Rattle.page_model.specs.Pages.{Body, FreePage}
use Rattle.page_model.specs.PageBodies.{first_of}
use Rattle.page_model.specs.Space.{Space, give, is_page, times_of}
use Rattle.page_model.proofs.Spaces.{times_head}
use Rattle.free_pages.specs.declared.free_state.FreeState.{FreeState}
use Rattle.free_pages.specs.FreeList.{IsFreeList, IsApart}
use Rattle.free_pages.specs.Giving.{IsFree, AreInFront, AreGiven}
use Rattle.content_pages.specs.Contents.{IsContentPage, AreNamed, IsContentGiven}
use Rattle.content_pages.proofs.PageCounts.{times_both, times_other}
use Rattle.bucket_chain.specs.AnyFile.{AreToldPages, IsNoContent, AreGivenBack}
use Rattle.content_pages.proofs.ContentGivings.{in_front_kept, in_front_more, times_given, give_more}

-- none was given
pub given_none : (at : ℕ → Body) (state : FreeState) → AreGiven at at state state []
given_none at state = record {
  free = λ m stands. absurd (omega (arith, stands));
  others = λ m none. refl;
  in_front = refl;
  more = omega arith;
  end = refl;
  list = λ s list apart. list;
}

-- another page is given behind these
pub given_more : (old mid new : ℕ → Body) (before after after' : FreeState) (pages : List ℕ)
    (n : ℕ)
    → AreGiven old mid before after pages → times_of n pages ≡ 0 → new n ≡ FreePage after.head
    → ((m : ℕ) → (m ≡ n → ⊥) → new m ≡ mid m)
    → after' ≡ record { head = n; count = after.count + 1; file_end = after.file_end }
    → ((s : Space) → IsFreeList mid after s → IsApart (n ∷ []) s
    → IsFreeList new after' (give (n ∷ []) s))
    → AreGiven old new before after' (pages ++ n ∷ [])
given_more old mid new before after after' pages n so_far apart free others is list =
    record {
      free = λ m stands. elim (cases_eq m n) [
        | inl same ↦ subst (λ (k : ℕ). IsFree (new k)) (sym same)
            (record { next = after.head; free = free })
        | inr other ↦ subst IsFree (sym (others m other))
            (so_far.free m (omega (arith, stands, counted m, times_other m n other)))
      ];
      others = λ m none.
          let other : m ≡ n → ⊥ = λ same.
          omega (
            arith,
            none,
            counted m,
            subst (λ (k : ℕ). 1 ≤ times_of k (n ∷ [])) (sym same)
                (omega (arith, times_head n [])),
          ) in
          others m other ∙ so_far.others m (omega (arith, none, counted m));
      in_front = subst (AreInFront new before.head (pages ++ n ∷ []))
          (sym (ap (λ (f : FreeState). f.head) is))
          (in_front_more new before.head after.head pages n
          (in_front_kept mid new before.head after.head pages
          (λ m stands. others m (λ same. omega (
            arith,
            apart,
            subst (λ (k : ℕ). 1 ≤ times_of k pages) same stands,
          ))) so_far.in_front) free);
      more = omega (
        arith,
        so_far.more,
        ap (λ (f : FreeState). f.count) is,
        length-append pages (n ∷ []),
      );
      end = ap (λ (f : FreeState). f.file_end) is ∙ so_far.end;
      list = λ s is stands.
          let own : (m : ℕ) → times_of m pages + times_of m s.free
          ≤ cond (is_page m s.end) 1 0 = λ m. omega (arith, stands m, counted m) in
          let given : IsFreeList mid after (give pages s) = so_far.list s is own in
          let alone : IsApart (n ∷ []) (give pages s) = λ m.
          omega (arith, stands m, counted m, times_given m pages s) in
          subst (IsFreeList new after') (give_more pages n s) (list (give pages s) given alone);
    }
  where
    counted : (m : ℕ) → times_of m (pages ++ n ∷ []) ≡ times_of m pages + times_of m (n ∷ [])
    counted m = times_both m pages (n ∷ [])

-- a page that is none of a content's is none of these
pub not_named : (at : ℕ → Body) (n : ℕ) (pages : List ℕ) → AreNamed at pages
    → IsNoContent (at n) → times_of n pages ≡ 0
not_named at n [] named not = refl
not_named at n (m ∷ pages) named not =
    let other : n ≡ m → ⊥ =
    λ same. not _ (subst (λ (k : ℕ). IsContentPage (at k) (first_of pages)) (sym same) named.0) in
    omega (
      arith,
      times_both n (m ∷ []) pages,
      times_other n m other,
      not_named at n pages named.1 not,
    )

-- ---- the pages of a content that is told, and then a page that was emptied

pub none_is : {A : Type 0} (option : Option A) → ((x : A) → option ≡ Some x → ⊥) → option ≡ None
none_is None not = refl
none_is (Some x) not = absurd (not x refl)

pub told_apart : (at : ℕ → Body) (told : Option (ℕ × ℕ)) (pages : List ℕ) (n : ℕ)
    → AreToldPages at told pages → IsNoContent (at n) → times_of n pages ≡ 0
told_apart at None pages n are not = ap (times_of n) are
told_apart at (Some (first, long)) pages n are not = not_named at n pages are.named not

-- those of the content were given
pub record AreToldGiven (old mid : ℕ → Body) (before between : FreeState)
    (told : Option (ℕ × ℕ)) : Type 0 where
  pub pages : List ℕ
  pub are : AreToldPages old told pages
  pub given : AreGiven old mid before between pages

pub told_given : (old mid : ℕ → Body) (before between : FreeState) (told : Option (ℕ × ℕ))
    (first long : ℕ) → told ≡ Some (first, long)
    → IsContentGiven old mid before between first long → AreToldGiven old mid before between told
told_given old mid before between told first long is given = record {
  pages = given.pages;
  are = subst (λ (o : Option (ℕ × ℕ)). AreToldPages old o given.pages) (sym is) given.are;
  given = given.given;
}

pub told_none : (at : ℕ → Body) (state : FreeState) (told : Option (ℕ × ℕ)) → told ≡ None
    → AreToldGiven at at state state told
told_none at state told is = record {
  pages = [];
  are = subst (λ (o : Option (ℕ × ℕ)). AreToldPages at o []) (sym is) refl;
  given = given_none at state;
}

-- these are its pages where they are told
pub told_those : (at : ℕ → Body) (state : FreeState) (told : Option (ℕ × ℕ)) (pages : List ℕ)
    → told ≡ None → AreToldPages at told pages → AreGiven at at state state pages
told_those at state told pages is are =
    let none : pages ≡ [] =
    subst (λ (o : Option (ℕ × ℕ)). AreToldPages at o pages) is are in
    subst (AreGiven at at state state) (sym none) (given_none at state)

pub back_kept : (old new : ℕ → Body) (before after : FreeState) (told : Option (ℕ × ℕ)) (n : ℕ)
    → AreToldGiven old new before after told → AreGivenBack old new before after told false n
back_kept old new before after told n given = record {
  content = given.pages;
  content_is = given.are;
  given = subst (AreGiven old new before after) (sym (append-nil given.pages)) given.given;
}
