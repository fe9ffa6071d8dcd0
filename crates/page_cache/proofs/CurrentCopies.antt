-- What the calls of a store leave of the copies of its pages.
use Rattle.std.proofs.Common.{◌≡◌, ◌⊎◌, inl, inr, ◌<◌, ◌≤◌, ◌^◌, ℕ, Bool, true, false, List, [], Option, Some, None, IfSome, IsSome, Result, Ok, Err, OnOk, IfErr, IsErrOf, IsTrue, Contains, refl, sym, ◌∙◌, ap, subst, nat_eq}
use Rattle.std.proofs.lemmas.Bool.{cases_lt, false≢true}
use Rattle.page_io.specs.Answers.{IsRefusal}
use Rattle.page_io.specs.Kept.{KeepsPages}
use Rattle.page_io.specs.Page.{own_number}
use Rattle.page_io.specs.Store.{Pages, StoreState, IsKnown, page_of, overlaid, put_page, has_page, are_in_order, committed_with}
use Rattle.page_io.specs.declared.page.Page.{Page}
use Rattle.page_io.specs.declared.store.PageFault.{PageFault}
use Rattle.page_io.specs.declared.store.PageFault.TheVariants.{Broken, Device}
use Rattle.page_io.specs.declared.store.PageStore.{Ghosts}
use Rattle.page_io.proofs.Overlays.{overlaid-none, page_of-file}
use Rattle.page_io.proofs.StagedPages.{has_page-put_other, overlaid-put, overlaid-put_other}
use Rattle.std.specs.Global.{Box}
use Rattle.lru.specs.LruCache.{promoted}
use Rattle.lru.proofs.CallerLemmas.{Contains-promoted}
use Rattle.page_cache.specs.Current.{IsCurrent, AreCurrent, HasNoStaged}
use Rattle.page_cache.specs.declared.page_copy.PageCopy.{PageCopy}

-- a store that is not broken can be used
pub usable_from : (broken usable : Bool) → (usable ≡ false → IsTrue broken) → broken ≡ false
    → usable ≡ true
usable_from broken true told not = refl
usable_from broken false told not = absurd (false≢true (sym not ∙ told refl))

-- the copies once page n is kept: older ones of other pages, and one of it
abbrev pub IsKept : List (ℕ × Box PageCopy) → List (ℕ × Box PageCopy) → ℕ → Page → Type 0
IsKept old new n page = (k : ℕ) (one : Box PageCopy) → Contains new (k, one)
    → (Contains old (k, one) × (k ≡ n → ⊥)) ⊎ ((k ≡ n) × (one.value.page ≡ page))

module _ {S : Type 0} (s : Ghosts S) where
  -- a copy goes to the front
  pub moved : (store : S) (old new : List (ℕ × Box PageCopy)) (n : ℕ) → AreCurrent s store old
      → new ≡ promoted (nat_eq n) old → AreCurrent s store new
  moved store old new n current same k copy c =
      current k copy (Contains-promoted (nat_eq n) old (k, copy)
      (subst (λ es. Contains es (k, copy)) same c))

  -- a copy that was found is what a read gives
  pub found_current : {T : Type 0} (store : S) (copies : List (ℕ × Box PageCopy)) (n : ℕ)
      → AreCurrent s store copies → (found : Option T) (page : Page)
      → (Known : T → Box PageCopy → Type 0)
      → IfSome found (λ known. (copy : Box PageCopy) × Contains copies (n, copy)
      × (copy.value.page ≡ page) × Known known copy)
      → IsSome found → IsCurrent s store n page
  found_current store copies n current (Some known) page Known is some =
      subst (IsCurrent s store n) is.2 (current n is.0 is.1)
  found_current store copies n current None page Known is some = absurd (false≢true some)

  -- a page is kept whose copy is current
  pub with_kept : (store : S) (old new : List (ℕ × Box PageCopy)) (n : ℕ) (page : Page)
      → ((k : ℕ) (one : Box PageCopy) → Contains old (k, one) → (k ≡ n → ⊥)
      → IsCurrent s store k one.value.page)
      → IsCurrent s store n page → IsKept old new n page → AreCurrent s store new
  with_kept store old new n page others is put k one c = elim (put k one c) [
    | inl before ↦ others k one before.0 before.1
    | inr same ↦ subst (λ m. IsCurrent s store m one.value.page) (sym same.0)
        (subst (λ p. IsCurrent s store n p) (sym same.1) is)
  ]

  -- ---- the store below before a call and after it

  module _ (old new : S) (was : s.honest new → s.honest old) where
    -- what a read gave it gives
    pub still_current : s.state new ≡ s.state old
        → (s.honest old → s.committed new ≡ s.committed old) → (n : ℕ) (page : Page)
        → IsCurrent s old n page → IsCurrent s new n page
    still_current same pages n page current h usable known =
        current (was h) (ap (λ (st : StoreState). st.usable) (sym same) ∙ usable)
        (subst (λ (st : StoreState). IsKnown st n) same known)
        ∙ ap (λ (st : StoreState). overlaid st.staged (page_of (s.committed old)) n) (sym same)
        ∙ ap (λ (ps : Pages). overlaid (s.state new).staged (page_of ps) n) (sym (pages (was h)))

    -- nothing has changed
    pub unchanged : (copies : List (ℕ × Box PageCopy)) → AreCurrent s old copies
        → s.state new ≡ s.state old
        → (s.honest old
        → KeepsPages s.committed s.moment s.settled_since s.settles_to old new)
        → AreCurrent s new copies
    unchanged copies current same kept n copy c =
        still_current same (λ h. (kept h).committed) n copy.value.page (current n copy c)

    -- all staged pages were forgotten, and none has a copy
    pub all_unstaged : (copies : List (ℕ × Box PageCopy)) → AreCurrent s old copies
        → HasNoStaged (s.state old).staged copies
        → s.state new ≡ record (s.state old) { staged = [] }
        → (s.honest old
        → KeepsPages s.committed s.moment s.settled_since s.settles_to old new)
        → AreCurrent s new copies
    all_unstaged copies current none same kept n copy c h usable known =
        let home = page_of (s.committed old) in
        let within : (1 ≤ n) × (n < (s.state old).end) =
        elim (subst (λ (st : StoreState). IsKnown st n) same known) [
          | inl has ↦ absurd (false≢true has)
          | inr both ↦ both
        ] in
        current n copy c (was h) (ap (λ (st : StoreState). st.usable) (sym same) ∙ usable)
        (inr within)
        ∙ overlaid-none (s.state old).staged home n (none n copy c within.0)
        ∙ ap (λ (ps : Pages). page_of ps n) (sym (kept (was h)).committed)
        ∙ ap (λ (st : StoreState). overlaid st.staged (page_of (s.committed new)) n) (sym same)

    module _ (bytes : List ℕ) (same : s.state new
        ≡ record (s.state old) { staged = put_page (s.state old).staged bytes })
        (kept : s.honest old → KeepsPages s.committed s.moment s.settled_since s.settles_to old new)
      where
        -- a page was staged that is another one
        staged_other : (k : ℕ) (page : Page) → (own_number bytes ≡ k → ⊥) → IsCurrent s old k page
            → IsCurrent s new k page
        staged_other k page other current h usable known =
            let staged = (s.state old).staged in
            let home = page_of (s.committed old) in
            let known_before : IsKnown (record (s.state old) { staged = put_page staged bytes }) k =
            subst (λ (st : StoreState). IsKnown st k) same known in
            current (was h) (ap (λ (st : StoreState). st.usable) (sym same) ∙ usable)
            (elim known_before [
              | inl has ↦ inl (sym (has_page-put_other staged bytes k other) ∙ has)
              | inr within ↦ inr within
            ])
            ∙ sym (overlaid-put_other staged home bytes k other)
            ∙ ap (λ (st : StoreState). overlaid st.staged home k) (sym same)
            ∙ ap (λ (ps : Pages). overlaid (s.state new).staged (page_of ps) k)
            (sym (kept (was h)).committed)

        -- the page that was staged
        staged_one : (page : Page) → page.bytes ≡ bytes
            → are_in_order 1 (2 ^ 32) (s.state old).staged ≡ true
            → IsCurrent s new (own_number bytes) page
        staged_one page is order h usable known =
            is
            ∙ sym (overlaid-put 1 (2 ^ 32) (s.state old).staged (page_of (s.committed new)) bytes
            (own_number bytes) order refl)
            ∙ ap (λ (st : StoreState). overlaid st.staged (page_of (s.committed new))
            (own_number bytes)) (sym same)

    -- a page was staged, and is kept
    pub staged_kept : (before after : List (ℕ × Box PageCopy)) (page : Page) (n : ℕ)
        → AreCurrent s old before → own_number page.bytes ≡ n
        → are_in_order 1 (2 ^ 32) (s.state old).staged ≡ true
        → s.state new
        ≡ record (s.state old) { staged = put_page (s.state old).staged page.bytes }
        → (s.honest old
        → KeepsPages s.committed s.moment s.settled_since s.settles_to old new)
        → IsKept before after n page → AreCurrent s new after
    staged_kept before after page n current own order same kept put =
        with_kept new before after n page
        (λ k one c other. staged_other page.bytes same kept k one.value.page
        (λ is. other (sym is ∙ own)) (current k one c))
        (subst (λ m. IsCurrent s new m page) own
        (staged_one page.bytes same kept page refl order)) put

    -- the store broke
    broken_apart : (copies : List (ℕ × Box PageCopy))
        → s.state new ≡ record (s.state old) { usable = false } → AreCurrent s new copies
    broken_apart copies same n copy c h usable known = absurd (false≢true
        (sym (ap (λ (st : StoreState). st.usable) same) ∙ usable))

    module _ (new_end : ℕ) (grown : (n : ℕ) → (s.state old).end ≤ n → n < new_end
        → has_page (s.state old).staged n ≡ true) where
      -- the staged pages were committed
      committed_all : (copies : List (ℕ × Box PageCopy)) → AreCurrent s old copies
          → s.state new ≡ record (s.state old) { staged = []; end = new_end }
          → (s.honest old → s.committed new
          ≡ committed_with (s.committed old) (s.state old).staged new_end)
          → AreCurrent s new copies
      committed_all copies current same pages n copy c h usable known =
          let staged = (s.state old).staged in
          let home = page_of (s.committed old) in
          let within : (1 ≤ n) × (n < new_end) =
          elim (subst (λ (st : StoreState). IsKnown st n) same known) [
            | inl has ↦ absurd (false≢true has)
            | inr both ↦ both
          ] in
          let known_before : IsKnown (s.state old) n =
          elim (cases_lt n (s.state old).end) [
            | inl before ↦ inr (within.0, before)
            | inr behind ↦ inl (grown n behind within.1)
          ] in
          current n copy c (was h)
          (ap (λ (st : StoreState). st.usable) (sym same) ∙ usable) known_before
          ∙ sym (page_of-file (overlaid staged home) new_end n within.0 within.1)
          ∙ ap (λ (ps : Pages). page_of ps n) (sym (pages (was h)))
          ∙ ap (λ (st : StoreState). overlaid st.staged (page_of (s.committed new)) n) (sym same)

      -- whatever a commit answers
      pub after_commit : {T : Type 0} (copies : List (ℕ × Box PageCopy))
          → AreCurrent s old copies → (result : Result T PageFault)
          → OnOk result (s.state new ≡ record (s.state old) { staged = []; end = new_end })
          → (s.honest old → OnOk result (s.committed new
          ≡ committed_with (s.committed old) (s.state old).staged new_end))
          → IfErr result (λ e. IsRefusal e → (s.state new ≡ s.state old)
          × (s.honest old
          → KeepsPages s.committed s.moment s.settled_since s.settles_to old new))
          → (IsErrOf result Device → s.state new ≡ record (s.state old) { usable = false })
          → IfErr result (λ e. IsRefusal e ⊎ (e ≡ Device))
          → AreCurrent s new copies
      after_commit copies current (Ok x) ok pages refused breaks only =
          committed_all copies current ok pages
      after_commit copies current (Err e) ok pages refused breaks only = elim only [
        | inl refusal ↦ unchanged copies current (refused refusal).0 (refused refusal).1
        | inr device ↦ broken_apart copies (breaks (ap Err device))
      ]

    -- whatever a settling answers
    pub after_settle : {T : Type 0} (copies : List (ℕ × Box PageCopy))
        → AreCurrent s old copies → (result : Result T PageFault)
        → OnOk result (s.state new ≡ s.state old)
        → (s.honest old → OnOk result (s.committed new ≡ s.committed old))
        → (IsErrOf result Device → s.state new ≡ record (s.state old) { usable = false })
        → ((s.state old).usable ≡ false → new ≡ old)
        → (IsErrOf result Broken → (s.state old).usable ≡ false)
        → IfErr result (λ e. (e ≡ Broken) ⊎ (e ≡ Device))
        → AreCurrent s new copies
    after_settle copies current (Ok x) ok pages breaks untouched broken only =
        λ n copy c. still_current ok pages n copy.value.page (current n copy c)
    after_settle copies current (Err e) ok pages breaks untouched broken only = elim only [
      | inl is ↦ subst (λ store. AreCurrent s store copies)
          (sym (untouched (broken (ap Err is)))) current
      | inr device ↦ broken_apart copies (breaks (ap Err device))
    ]
