-- What the commit of an empty database answers, from what was staged and what was committed.
use Rattle.std.proofs.Common.{◌≡◌, ◌⊎◌, inl, inr, ⊎_elim, ℕ, ◌+◌, ◌<◌, ◌≤◌, Bool, true, false, [], ◌∷◌, List, length, get_or, map, Result, Ok, Err, IfOk, IfErr, OnOk, OnErr, refl, sym, ap, ◌∙◌, subst, arith}
use Rattle.std.specs.Prelude.{IsErrOf, nat_lt}
use Rattle.std.proofs.lemmas.Bool.Decides.{nat_tests}
use Rattle.dbm_model.specs.Bounds.{Bounds}
use Rattle.sect_dev.specs.Device.{LeavesOnly}
use Rattle.sect_dev.specs.Moments.{followed_by, weaker}
use Rattle.dbm_fault.specs.Among.{IsErrAmong}
use Rattle.page_io.specs.Answers.{HasDeviceCause, IsCommitAnswer}
use Rattle.page_io.specs.Page.{own_number}
use Rattle.page_io.specs.Store.{Pages, Settled, StoreState, AllBelow, file_of}
use Rattle.page_io.specs.Views.{StagesOnly}
use Rattle.page_io.specs.declared.store.PageStore.{Ghosts}
use Rattle.page_io.specs.declared.store.PageFault.{PageFault}
use Rattle.page_io.specs.declared.store.PageFault.TheVariants.{Memory, Device, Broken, NoRoom}
use Rattle.page_io.proofs.Exits.{cause_last, not_both}
use Rattle.page_io.specs.Committing.{MayCommit, IsForgotten}
use Rattle.file_opening.proofs.EmptyFiles.{OldOrEmpty}

below_four : (pages : Pages) (end : ℕ) → end ≡ 4 → map own_number pages ≡ 1 ∷ 2 ∷ 3 ∷ []
    → AllBelow end pages
below_four [] end four is = tt
below_four (a ∷ []) end four is = absurd (cc)
below_four (a ∷ b ∷ []) end four is = absurd (cc)
below_four (a ∷ b ∷ c ∷ []) end four is = (
  omega (arith, four, ap (λ (ns : List ℕ). get_or ns 0 0) is),
  (
    omega (arith, four, ap (λ (ns : List ℕ). get_or ns 1 0) is),
    (omega (arith, four, ap (λ (ns : List ℕ). get_or ns 2 0) is), tt),
  ),
)
below_four (a ∷ b ∷ c ∷ d ∷ rest) end four is = absurd (cc)

three_pages : (pages : Pages) → map own_number pages ≡ 1 ∷ 2 ∷ 3 ∷ [] → length pages ≡ 3
three_pages [] is = absurd (cc)
three_pages (a ∷ []) is = absurd (cc)
three_pages (a ∷ b ∷ []) is = absurd (cc)
three_pages (a ∷ b ∷ c ∷ []) is = refl
three_pages (a ∷ b ∷ c ∷ d ∷ rest) is = absurd (cc)

-- the three pages may be committed
pub may_commit : (r : Result ℕ PageFault) (state : StoreState) (pages : Pages)
    → IfOk r (λ end. (end ≡ 4) × (state.staged ≡ pages)) → map own_number pages ≡ 1 ∷ 2 ∷ 3 ∷ []
    → 4 ≤ state.end → IfOk r (MayCommit state)
may_commit (Ok end) state pages is numbers least = record {
  below = subst (AllBelow end) (sym is.1) (below_four pages end is.0 numbers);
  grown = λ n from lt. absurd (omega (arith, from, lt, is.0, least));
  some = omega (arith, ap (λ (ps : Pages). length ps) is.1, three_pages pages numbers);
  least = omega (arith, is.0);
}
may_commit (Err e) state pages is numbers least = tt

-- ---- states

module _ (old mid new : StoreState) (stages : mid ≡ record old { staged = mid.staged }) where
  pub committed_state : (end : ℕ) → old.staged ≡ [] → end ≡ 4
      → new ≡ record mid { staged = []; end = end } → new ≡ record old { end = 4 }
  committed_state end idle four is =
      is ∙ ap (λ (n : ℕ). record mid { staged = []; end = n }) four
      ∙ ap (λ (st : StoreState). record st { staged = []; end = 4 }) stages
      ∙ ap (λ (ps : Pages). record old { staged = ps; end = 4 }) (sym idle)

  pub forgotten_since : (e : PageFault) → IsForgotten mid new e → IsForgotten old new e
  forgotten_since e (inl same) =
      inl (same ∙ ap (λ (st : StoreState). record st { staged = [] }) stages)
  forgotten_since e (inr broke) =
      inr (
        broke.0,
        broke.1 ∙ ap (λ (st : StoreState). record st { staged = []; usable = false })
            stages,
      )

-- ---- faults

abbrev RefusedAs : (PageFault → Type 0) → Result ℕ PageFault → Result Unit PageFault → Type 0
RefusedAs A r result = IfErr r (λ e. (result ≡ Err e) × A e)

-- no page was staged for want of memory, or in a broken store
abbrev StagedOr : Result ℕ PageFault → Type 0
StagedOr r = IfErr r (λ e. (e ≡ Broken) ⊎ (e ≡ Memory))

same_fault : (result : Result Unit PageFault) (e f : PageFault) → result ≡ Err e
    → result ≡ Err f → e ≡ f
same_fault result e f one two = let both = sym one ∙ two in cc

not_memory : (e : PageFault) → (e ≡ Broken) ⊎ (e ≡ Memory) → e ≡ Device → ⊥
not_memory e (inl broken) is = let both = sym broken ∙ is in cc
not_memory e (inr memory) is = let both = sym memory ∙ is in cc

has_room : (e : PageFault) → (e ≡ Broken) ⊎ (e ≡ Memory) → e ≡ NoRoom → ⊥
has_room e (inl broken) is = let both = sym broken ∙ is in cc
has_room e (inr memory) is = let both = sym memory ∙ is in cc

pub cause_of : (A : PageFault → Type 0) (r : Result ℕ PageFault) (result : Result Unit PageFault)
    (before mid now : ℕ) → RefusedAs A r result → StagedOr r
    → IfOk r (λ end. HasDeviceCause mid now result)
    → before ≤ mid → mid ≤ now → HasDeviceCause before now result
cause_of A (Ok end) result before mid now refused staged cause one two =
    cause_last before mid now result one cause
cause_of A (Err e) result before mid now refused staged cause one two = record {
  later = omega (arith, one, two);
  fault = λ is. absurd (not_memory e staged (same_fault result e Device refused.0 is));
}

pub only_of : (A : PageFault → Type 0) (r : Result ℕ PageFault) (result : Result Unit PageFault)
    (mid : StoreState) → RefusedAs A r result → StagedOr r → (IsErrOf r Broken → ⊥)
    → IfOk r (λ end. IsCommitAnswer mid end result)
    → mid.usable ≡ true → mid.writable ≡ true → IsErrAmong result (Memory ∷ NoRoom ∷ Device ∷ [])
only_of A r (Ok x) mid refused staged whole answer usable writable = tt
only_of A (Ok end) (Err f) mid refused staged whole answer usable writable = ⊎_elim
    (λ refusal. ⊎_elim
    (λ broken. not_both _ usable (answer.broken.0 (ap Err broken)))
    (λ other. ⊎_elim (λ read_only. not_both _ writable (answer.read_only.0 (ap Err read_only)).1)
    (λ room. inr (inl room)) other)
    refusal)
    (λ device. inr (inr device))
    answer.only
only_of A (Err e) (Err f) mid refused staged whole answer usable writable = ⊎_elim
    (λ broken. absurd (whole (ap Err broken)))
    (λ memory. inl (same_fault (Err f) f e refl refused.0 ∙ memory))
    staged

pub no_room_of : (A : PageFault → Type 0) (r : Result ℕ PageFault) (result : Result Unit PageFault)
    (old mid : StoreState) (pages : Pages) → mid ≡ record old { staged = mid.staged } → 4 ≤ old.end
    → map own_number pages ≡ 1 ∷ 2 ∷ 3 ∷ []
    → RefusedAs A r result → StagedOr r → IfOk r (λ end. (end ≡ 4) × (mid.staged ≡ pages))
    → IfOk r (λ end. IsCommitAnswer mid end result) → IsErrOf result NoRoom
    → old.capacity < old.end + 3
no_room_of A (Ok end) result old mid pages stages least numbers refused staged is answer none =
    let short = (answer.no_room.0 none).2 in
    omega (
      arith,
      short,
      is.0,
      least,
      ap (λ (ps : Pages). length ps) is.1,
      three_pages pages numbers,
      ap (λ (st : StoreState). st.capacity) stages,
      ap (λ (st : StoreState). st.end) stages,
    )
no_room_of A (Err e) result old mid pages stages least numbers refused staged is answer none =
    absurd (has_room e staged (same_fault result e NoRoom refused.0 none))

fits_or_lacks : (capacity end : ℕ) (b : Bool) → nat_lt capacity (end + 3) ≡ b
    → (capacity < end + 3) ⊎ (end + 3 ≤ capacity)
fits_or_lacks capacity end true is = inl (grind (arith, nat_tests))
fits_or_lacks capacity end false is = inr (grind (arith, nat_tests))

-- a commit that isn't refused for want of room has room
pub no_room_or_room : (r : Result ℕ PageFault) (result : Result Unit PageFault)
    (old mid : StoreState) (pages : Pages) → mid ≡ record old { staged = mid.staged } → 4 ≤ old.end
    → map own_number pages ≡ 1 ∷ 2 ∷ 3 ∷ []
    → IfOk r (λ end. (end ≡ 4) × (mid.staged ≡ pages))
    → IfOk r (λ end. IsCommitAnswer mid end result) → mid.usable ≡ true → mid.writable ≡ true
    → IsErrOf result NoRoom ⊎ IfOk r (λ end. old.end + 3 ≤ old.capacity)
no_room_or_room (Ok end) result old mid pages stages least numbers is answer usable writable =
    ⊎_elim
    (λ lacks. inl (answer.no_room.1 (
      usable,
      writable,
      omega (
        arith,
        lacks,
        is.0,
        least,
        ap (λ (ps : Pages). length ps) is.1,
        three_pages pages numbers,
        ap (λ (st : StoreState). st.capacity) stages,
        ap (λ (st : StoreState). st.end) stages,
      ),
    )))
    (λ fits. inr fits)
    (fits_or_lacks old.capacity old.end (nat_lt old.capacity (old.end + 3)) refl)
no_room_or_room (Err e) result old mid pages stages least numbers is answer usable writable = inr tt

pub room_of_ok : (A : PageFault → Type 0) (r : Result ℕ PageFault) (result : Result Unit PageFault)
    (Due : Type 0) → RefusedAs A r result → IsErrOf result NoRoom ⊎ IfOk r (λ end. Due)
    → OnOk result Due
room_of_ok A r (Err e) Due refused either = tt
room_of_ok A (Ok end) (Ok x) Due refused either =
    ⊎_elim (λ none. absurd (let x = none in cc)) (λ due. due) either
room_of_ok A (Err e) (Ok x) Due refused either = absurd (let x = refused.0 in cc)

-- ---- a refusal that left the store usable

-- what was refused for want of room left the store as usable as it was
still_usable : (old new : StoreState) (fault : PageFault) → fault ≡ NoRoom
    → IsForgotten old new fault → new.usable ≡ old.usable
still_usable old new fault none (inl same) = ap (λ (st : StoreState). st.usable) same
still_usable old new fault none (inr broke) =
    absurd (let both : Device ≡ NoRoom = sym broke.0 ∙ none in cc)

-- and where it was refused for want of room, the pages
pub left_by_refusal : {S : Type 0} (s : Ghosts S) (old new : S) (result : Result Unit PageFault)
    (Due : Type 0) (bounds : Bounds) → IsErrOf result NoRoom → (s.state old).usable ≡ true
    → IfErr result (IsForgotten (s.state old) (s.state new))
    → OnErr result ((s.state new).usable ≡ true
    → LeavesOnly s.moment s.settled_since old new (λ y. y ≡ file_of (s.committed old)))
    → LeavesOnly s.moment s.settled_since old new (OldOrEmpty (s.committed old) Due bounds)
left_by_refusal s old new (Ok x) Due bounds none usable forgotten run = absurd (let x = none in cc)
left_by_refusal s old new (Err e) Due bounds none usable forgotten run =
    weaker s.moment s.settled_since old new (OldOrEmpty (s.committed old) Due bounds)
    (λ y. y ≡ file_of (s.committed old))
    (run (still_usable (s.state old) (s.state new) e (same_fault (Err e) e NoRoom refl none)
    forgotten ∙ usable)) (λ y is. inl is)

pub unchanged_since : {S T E : Type 0} (s : Ghosts S) (old mid new : S) (result : Result T E)
    (usable : Type 0) → StagesOnly s old mid → s.honest old
    → ((y : Settled) → s.settles_to old y → y ≡ file_of (s.committed old))
    → OnErr result (usable → LeavesOnly s.moment s.settled_since mid new
    (λ y. y ≡ file_of (s.committed mid)))
    → OnErr result (usable → LeavesOnly s.moment s.settled_since old new
    (λ y. y ≡ file_of (s.committed old)))
unchanged_since s old mid new (Ok x) usable stages honest only run = tt
unchanged_since s old mid new (Err e) usable stages honest only run = λ is.
    followed_by s.moment s.settled_since old mid new (λ y. y ≡ file_of (s.committed old))
    (λ y. y ≡ file_of (s.committed mid))
    (weaker s.moment s.settled_since old mid (λ y. y ≡ file_of (s.committed old)) (s.settles_to old)
    (stages.kept honest).any_moment only) (run is)
    (λ y same. same ∙ ap file_of (stages.kept honest).committed)
