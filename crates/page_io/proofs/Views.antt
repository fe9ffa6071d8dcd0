-- Laws of what a store shows, for the layers above.
use Rattle.std.proofs.Common.{◌≡◌, ◌↔◌, inl, inr, ⊎_elim, ℕ, zero, suc, ◌+◌, ◌-◌, ◌<◌, ◌≤◌, List, length, true, false, Result, Ok, Err, OnOk, OnErr, refl, sym, ◌∙◌, ap, arith}
use Rattle.std.proofs.lemmas.Bool.{cases_eq, cases_lt, false≢true}
use Rattle.std.specs.Prelude.{◌^◌, slice_index_or, [], ◌∷◌}
use Rattle.page_model.specs.Pages.{Other}
use Rattle.page_model.specs.Reading.{body_of}
use Rattle.page_io.specs.Page.{own_number}
use Rattle.page_io.specs.Store.{Pages, Settled, StoreState, page_of, overlaid, put_page, has_page, are_in_order, AllBelow, IsKnown}
use Rattle.page_io.specs.Kept.{KeepsPages}
use Rattle.page_io.specs.Views.{visible_page, body_at, StagesOnly, ReadsOnly, MayEnd}
use Rattle.page_io.specs.declared.store.PageStore.{Ghosts}
use Rattle.page_io.specs.declared.store.PageFault.{PageFault}
use Rattle.page_io.proofs.Overlays.{overlaid-none, has_page-skip}
use Rattle.page_io.proofs.StagedPages.{overlaid-put, overlaid-put_other, has_page-put, has_page-put_other, length-put_new, length-put_again, AllBelow-wider, AllBelow-put}
use Rattle.page_io.proofs.Runs.{kept_twice}
use Rattle.page_io.proofs.Exits.{both_ways}

module _ {S : Type 0} (s : Ghosts S) where
  -- `counts` is the store's law `counts_now`
  now_from : (old new : S) → ((t : ℕ) (y : Settled) → s.honest new → t ≤ (s.moment new).at
      → s.settles_to new y → s.settled_since new t y)
      → (s.honest new ↔ s.honest old)
      → (s.honest old → KeepsPages s.committed s.moment s.settled_since s.settles_to old new)
      → s.honest old → (y : Settled) → s.settles_to new y → s.settles_to old y
  now_from old new counts honesty kept h y is =
      let run = (kept h).any_moment in
      run.each y (counts (s.moment old).at y (honesty.1 h) run.later is)

  -- what a read does
  pub after_read : (old new : S)
      → ((t : ℕ) (y : Settled) → s.honest new → t ≤ (s.moment new).at → s.settles_to new y
      → s.settled_since new t y)
      → s.state new ≡ s.state old → (s.honest new ↔ s.honest old) → s.faults old ≤ s.faults new
      → (s.honest old → KeepsPages s.committed s.moment s.settled_since s.settles_to old new)
      → ReadsOnly s old new
  after_read old new counts same honesty later kept = record {
    same = same;
    stages_only = record {
      state = same ∙ ap (λ (st : StoreState). record (s.state old) { staged = st.staged })
          (sym same);
      honesty = honesty;
      later = later;
      kept = kept;
      now = now_from old new counts honesty kept;
    };
  }

  -- two calls that stage pages at most
  pub stages_then : (old mid new : S)
      → ((t : ℕ) (y : Settled) → s.honest mid → t ≤ (s.moment mid).at → s.settles_to mid y
      → s.settled_since mid t y)
      → StagesOnly s old mid → StagesOnly s mid new → StagesOnly s old new
  stages_then old mid new counts first second = record {
    state = second.state ∙ ap (λ (st : StoreState). record st { staged = (s.state new).staged })
        first.state;
    honesty = both_ways second.honesty first.honesty;
    later = omega (arith, first.later, second.later);
    kept = λ h. kept_twice s.committed s.moment s.settled_since s.settles_to old mid new
        (λ t y le is. counts t y (first.honesty.1 h) le is) (first.kept h)
        (second.kept (first.honesty.1 h));
    now = λ h y is. first.now h y (second.now (first.honesty.1 h) y is);
  }

  -- two that read pages at most
  pub reads_then : (old mid new : S)
      → ((t : ℕ) (y : Settled) → s.honest mid → t ≤ (s.moment mid).at → s.settles_to mid y
      → s.settled_since mid t y)
      → ReadsOnly s old mid → ReadsOnly s mid new → ReadsOnly s old new
  reads_then old mid new counts first second = record {
    same = second.same ∙ first.same;
    stages_only = stages_then old mid new counts first.stages_only second.stages_only;
  }

  -- what a stage does
  pub after_stage : {T : Type 0} (old new : S) (bytes : List ℕ) (result : Result T PageFault)
      → ((t : ℕ) (y : Settled) → s.honest new → t ≤ (s.moment new).at → s.settles_to new y
      → s.settled_since new t y)
      → OnOk result (s.state new ≡ record (s.state old) {
        staged =
            put_page (s.state old).staged bytes;
      }) → OnErr result (s.state new ≡ s.state old)
      → (s.honest new ↔ s.honest old) → s.faults new ≡ s.faults old
      → (s.honest old → KeepsPages s.committed s.moment s.settled_since s.settles_to old new)
      → StagesOnly s old new
  after_stage old new bytes result counts ok err honesty faults kept = record {
    state = elim result as (λ r. OnOk r
        (s.state new ≡ record (s.state old) { staged = put_page (s.state old).staged bytes })
        → OnErr r (s.state new ≡ s.state old)
        → s.state new ≡ record (s.state old) { staged = (s.state new).staged }) [
          | Ok x ↦ λ put same. put ∙ ap
              (λ (st : StoreState). record (s.state old) { staged = st.staged }) (sym put)
          | Err e ↦ λ put same. same ∙ ap
              (λ (st : StoreState). record (s.state old) { staged = st.staged }) (sym same)
        ] ok err;
    honesty = honesty;
    later = omega (arith, faults);
    kept = kept;
    now = now_from old new counts honesty kept;
  }

  -- what was read is what it was
  pub same_shown : (old new : S) → ReadsOnly s old new → s.honest old
      → visible_page s new ≡ visible_page s old
  same_shown old new reads honest =
      ap (λ (st : StoreState). overlaid st.staged (page_of (s.committed new))) reads.same
      ∙ ap (λ (ps : Pages). overlaid (s.state old).staged (page_of ps))
      (reads.stages_only.kept honest).committed

  pub same_said : (old new : S) → ReadsOnly s old new → s.honest old → body_at s new ≡ body_at s old
  same_said old new reads honest =
      ap (λ (page : ℕ → List ℕ). λ (n : ℕ). body_of n (page n)) (same_shown old new reads honest)

  -- the staged page is shown in the place of its number
  pub staged_shown : (old new : S) (n : ℕ) (bytes : List ℕ) → StagesOnly s old new → s.honest old
      → are_in_order 1 (2 ^ 32) (s.state old).staged ≡ true
      → s.state new ≡ record (s.state old) { staged = put_page (s.state old).staged bytes }
      → own_number bytes ≡ n
      → visible_page s new n ≡ bytes
  staged_shown old new n bytes only honest order put own =
      ap (λ (st : StoreState). overlaid st.staged (page_of (s.committed new)) n) put
      ∙ overlaid-put 1 (2 ^ 32) (s.state old).staged (page_of (s.committed new)) bytes n order own

  -- and every other as before
  pub others_shown : (old new : S) (n m : ℕ) (bytes : List ℕ) → StagesOnly s old new → s.honest old
      → s.state new ≡ record (s.state old) { staged = put_page (s.state old).staged bytes }
      → own_number bytes ≡ n → (m ≡ n → ⊥)
      → visible_page s new m ≡ visible_page s old m
  others_shown old new n m bytes only honest put own other =
      ap (λ (st : StoreState). overlaid st.staged (page_of (s.committed new)) m) put
      ∙ overlaid-put_other (s.state old).staged (page_of (s.committed new)) bytes m
      (λ same. other (sym same ∙ own))
      ∙ ap (λ (ps : Pages). overlaid (s.state old).staged (page_of ps) m)
      (only.kept honest).committed

  pub staged_said : (old new : S) (n : ℕ) (bytes : List ℕ) → StagesOnly s old new → s.honest old
      → are_in_order 1 (2 ^ 32) (s.state old).staged ≡ true
      → s.state new ≡ record (s.state old) { staged = put_page (s.state old).staged bytes }
      → own_number bytes ≡ n
      → body_at s new n ≡ body_of n bytes
  staged_said old new n bytes only honest order put own =
      ap (body_of n) (staged_shown old new n bytes only honest order put own)

  pub others_said : (old new : S) (n m : ℕ) (bytes : List ℕ) → StagesOnly s old new → s.honest old
      → s.state new ≡ record (s.state old) { staged = put_page (s.state old).staged bytes }
      → own_number bytes ≡ n → (m ≡ n → ⊥)
      → body_at s new m ≡ body_at s old m
  others_said old new n m bytes only honest put own other =
      ap (body_of m) (others_shown old new n m bytes only honest put own other)

  -- A page that isn't known says nothing. `ends` is the store's law.
  pub unknown_said : (store : S) (n : ℕ) → length (s.committed store) + 1 ≡ (s.state store).end
      → 1 ≤ n → (IsKnown (s.state store) n → ⊥) → body_at s store n ≡ Other
  unfolding body_of
  unknown_said store n ends some unknown =
      ap (body_of n) (staged_none ∙ nothing_behind (s.committed store) (n - 1) behind)
    where
      staged_none : visible_page s store n ≡ page_of (s.committed store) n
      staged_none = overlaid-none (s.state store).staged (page_of (s.committed store)) n
          (elim (has_page (s.state store).staged n) as
          (λ b. has_page (s.state store).staged n ≡ b → b ≡ false) [
            | true ↦ λ has. absurd (unknown (inl has))
            | false ↦ λ has. refl
          ] refl)

      behind : length (s.committed store) ≤ n - 1
      behind = elim (cases_lt n (s.state store).end) [
        | inl lt ↦ absurd (unknown (inr (some, lt)))
        | inr ge ↦ omega (arith, ge, ends)
      ]

      nothing_behind : (pages : Pages) (i : ℕ) → length pages ≤ i → slice_index_or pages i [] ≡ []
      nothing_behind [] i le = refl
      nothing_behind (page ∷ pages) zero le = absurd (omega (arith, le))
      nothing_behind (page ∷ pages) (suc i) le = nothing_behind pages i (omega (arith, le))

-- a page that is known is below an end
pub below_end : (end : ℕ) (pages : Pages) (n : ℕ) → AllBelow end pages
    → has_page pages n ≡ true → n < end
below_end end [] n below has = absurd (false≢true has)
below_end end (page ∷ pages) n below has = elim (cases_eq (own_number page) n) [
  | inl same ↦ omega (arith, same, below.0)
  | inr other ↦ below_end end pages n below.1 (sym (has_page-skip pages page n other) ∙ has)
]

pub known_below : (st : StoreState) (end n : ℕ) → MayEnd st end → IsKnown st n → n < end
known_below st end n may known =
    ⊎_elim (λ has. below_end end st.staged n may.below has)
    (λ within. omega (arith, within.1, may.least)) known

-- a page below the end is staged
pub end_stays : (st : StoreState) (end : ℕ) (bytes : List ℕ) → MayEnd st end
    → own_number bytes < end → MayEnd (record st { staged = put_page st.staged bytes }) end
end_stays st end bytes may lt = record {
  least = may.least;
  below = AllBelow-put end st.staged bytes may.below lt;
  grown = λ n ge le. elim (cases_eq (own_number bytes) n) [
    | inl same ↦ has_page-put st.staged bytes n same
    | inr other ↦ has_page-put_other st.staged bytes n other ∙ may.grown n ge le
  ];
}

-- the page at the end is staged
pub end_grows : (st : StoreState) (end : ℕ) (bytes : List ℕ) → MayEnd st end
    → own_number bytes ≡ end → MayEnd (record st { staged = put_page st.staged bytes }) (end + 1)
end_grows st end bytes may is = record {
  least = omega (arith, may.least);
  below = AllBelow-put (end + 1) st.staged bytes
      (AllBelow-wider end (end + 1) st.staged (omega arith) may.below) (omega (arith, is));
  grown = λ n ge lt. elim (cases_eq (own_number bytes) n) [
    | inl same ↦ has_page-put st.staged bytes n same
    | inr other ↦ has_page-put_other st.staged bytes n other
        ∙ may.grown n ge (omega (arith, lt, is, other))
  ];
}

-- at most one more page is staged
pub length-put : (pages : Pages) (new : List ℕ) → are_in_order 1 (2 ^ 32) pages ≡ true
    → length (put_page pages new) ≤ length pages + 1
length-put pages new order = elim (has_page pages (own_number new)) as
    (λ b. has_page pages (own_number new) ≡ b → length (put_page pages new) ≤ length pages + 1) [
      | true ↦ λ has. omega (arith, length-put_again 1 (2 ^ 32) pages new order has)
      | false ↦ λ none. omega (arith, length-put_new pages new none)
    ] refl
