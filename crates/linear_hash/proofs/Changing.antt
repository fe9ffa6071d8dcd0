-- A change that is staged and then committed or forgotten.
use Rattle.std.proofs.Common.{◌≡◌, ◌∙◌, inl, inr, ⊎_elim, ◌⊎◌, ℕ, ◌+◌, ◌*◌, ◌<◌, ◌≤◌, ◌^◌, true, ◌&&◌, leb, ltb, [], ◌∷◌, length, refl, Result, Ok, Err, IfOk, IfErr, OnOk, sym, ap, subst, arith}
use Rattle.std.specs.Prelude.{IsOkAnd}
use Rattle.std.proofs.lemmas.Bool.{and_parts, leb-true}
use Rattle.sect_dev.specs.Device.{LeavesOnly}
use Rattle.sect_dev.specs.Moments.{followed_by, weaker}
use Rattle.dbm_model.specs.Bounds.{Bounds}
use Rattle.page_model.specs.Pages.{Meta, MetaPage, Body}
use Rattle.dbm_model.specs.Pairs.{Contents}
use Rattle.page_model.specs.Placement.{Placement, contents, IsGood}
use Rattle.page_model.specs.Reading.{body_of}
use Rattle.page_model.specs.Meaning.{said_by}
use Rattle.page_io.specs.Store.{Pages, overlaid, Settled, file_of, StoreState, page_of, committed_with, are_in_order, AllBelow}
use Rattle.page_io.specs.Page.{own_number}
use Rattle.page_io.specs.Meaning.{FileStandsFor, ImageStandsFor}
use Rattle.page_io.specs.Views.{body_at, StagesOnly}
use Rattle.page_io.specs.declared.store.PageStore.{Ghosts}
use Rattle.page_io.specs.Answers.{IsCommitAnswer, IsRefusal, LacksPages}
use Rattle.page_io.specs.declared.store.PageFault.{PageFault}
use Rattle.page_io.specs.declared.store.PageFault.TheVariants.{Memory, Device, Broken, NoRoom, Damaged}
use Rattle.page_io.proofs.Meanings.{commits}
use Rattle.page_io.proofs.Overlays.{page_of-file}
use Rattle.page_io.specs.Committing.{Holds}
use Rattle.linear_hash.specs.Holding.{StandsForEither}
use Rattle.linear_hash.specs.Staging.{IsStaged, IsChangeAnswer}

module _ {S : Type 0} (s : Ghosts S) (mid : S) (m : Meta) (end : ℕ) (q : Placement)
    (good : IsGood q) (staged : IsStaged (body_at s mid) m end q) where
  abbrev pub after : Pages
  after = committed_with (s.committed mid) (s.state mid).staged end

  -- what a commit leaves
  pub commit_stands : FileStandsFor after (contents q) m.bounds
  commit_stands =
      let there = commits (s.committed mid) (s.state mid).staged q good staged.spelled in
      subst (λ (n : ℕ). FileStandsFor (committed_with (s.committed mid) (s.state mid).staged n)
      (contents q) m.bounds) staged.ends
      (subst (λ (b : Bounds). FileStandsFor
      (committed_with (s.committed mid) (s.state mid).staged q.space.end) (contents q)
      b) (sym (ap (λ (n : Meta). n.bounds) staged.meta_is)) there)

  commit_meta : said_by (page_of after) 1 ≡ MetaPage m
  commit_meta =
      let page = overlaid (s.state mid).staged (page_of (s.committed mid)) in
      let some : 1 < end = omega (arith, good.sound.pages.as_many, staged.ends) in
      ap (body_of 1) (page_of-file page end 1 (omega arith) some) ∙ staged.spelled.0
      ∙ ap MetaPage (sym staged.meta_is)

  pub commit_holds : (new : S) → s.committed new ≡ after → Holds s new m (contents q)
  commit_holds new is = record {
    stands = subst (λ (pages : Pages). FileStandsFor pages (contents q) m.bounds)
        (sym is) commit_stands;
    meta_is = subst (λ (pages : Pages). said_by (page_of pages) 1 ≡ MetaPage m)
        (sym is) commit_meta;
  }

-- the same where it is staged at all
pub staged_stands : {S : Type 0} (s : Ghosts S) (mid : S) (m : Meta) (q : Placement)
    (changed : Contents) (bounds : Bounds) (r : Result ℕ PageFault) → IsGood q
    → contents q ≡ changed → IfOk r (λ end. IsStaged (body_at s mid) m end q)
    → OnOk r (m.bounds ≡ bounds)
    → IfOk r (λ end. FileStandsFor
    (committed_with (s.committed mid) (s.state mid).staged end) changed bounds)
staged_stands s mid m q changed bounds (Ok end) good is staged same =
    subst (λ (b : Bounds). FileStandsFor (committed_with (s.committed mid) (s.state mid).staged end)
    changed b) same
    (subst (λ (c : Contents). FileStandsFor
    (committed_with (s.committed mid) (s.state mid).staged end) c m.bounds) is
    (commit_stands s mid m end q good staged))
staged_stands s mid m q changed bounds (Err e) good is staged same = tt

-- what holds of whatever was answered
each_err : {P : PageFault → Type 0} (result : Result Unit PageFault)
    → ((e : PageFault) → result ≡ Err e → P e) → IfErr result P
each_err (Ok x) each = tt
each_err (Err e) each = each e refl

-- no commit says Damaged
pub never_damaged : IsRefusal Damaged ⊎ (Damaged ≡ Device) → ⊥
never_damaged (inl (inl e)) = absurd cc
never_damaged (inl (inr (inl e))) = absurd cc
never_damaged (inl (inr (inr e))) = absurd cc
never_damaged (inr e) = absurd cc

-- nor Memory
pub never_memory : IsRefusal Memory ⊎ (Memory ≡ Device) → ⊥
never_memory (inl (inl e)) = absurd cc
never_memory (inl (inr (inl e))) = absurd cc
never_memory (inl (inr (inr e))) = absurd cc
never_memory (inr e) = absurd cc

-- a change that is done leaves the file with the end that was staged
pub grows_to : (at : ℕ → Body) (m : Meta) (q : Placement) (old mid new : StoreState) (most : ℕ)
    (A : PageFault → Type 0) (r : Result ℕ PageFault) (result : Result Unit PageFault)
    → IfErr r (λ e. (result ≡ Err e) × A e)
    → IfOk r (λ end. OnOk result (new ≡ record mid { staged = []; end = end }))
    → IfOk r (λ end. old.end ≤ end) → IfOk r (λ end. IsStaged at m end q)
    → q.space.end ≤ old.end + most
    → OnOk result ((old.end ≤ new.end) × (new.end ≤ old.end + most))
grows_to at m q old mid new most A (Ok end) (Ok done) refused is least staged few =
    let last = ap (λ (st : StoreState). st.end) is in
    (omega (arith, least, last), omega (arith, few, staged.ends, last))
grows_to at m q old mid new most A (Ok end) (Err e) refused is least staged few = tt
grows_to at m q old mid new most A (Err fault) (Ok done) refused is least staged few =
    absurd (let x = refused.0 in cc)
grows_to at m q old mid new most A (Err fault) (Err e) refused is least staged few = tt

-- it is that of the placement
pub ends_within : (at : ℕ → Body) (m : Meta) (q : Placement) (mid new : StoreState) (most : ℕ)
    (A : PageFault → Type 0) (r : Result ℕ PageFault) (result : Result Unit PageFault)
    → IfErr r (λ e. (result ≡ Err e) × A e)
    → IfOk r (λ end. OnOk result (new ≡ record mid { staged = []; end = end }))
    → IfOk r (λ end. IsStaged at m end q) → q.space.end ≤ most → OnOk result (new.end ≤ most)
ends_within at m q mid new most A (Ok end) (Ok done) refused is staged few =
    omega (arith, few, staged.ends, ap (λ (st : StoreState). st.end) is)
ends_within at m q mid new most A (Ok end) (Err e) refused is staged few = tt
ends_within at m q mid new most A (Err fault) (Ok done) refused is staged few =
    absurd (let x = refused.0 in cc)
ends_within at m q mid new most A (Err fault) (Err e) refused is staged few = tt

-- fewer staged pages than the file then has
pub few_staged : (least end : ℕ) (pages : Pages) → are_in_order least (2 ^ 32) pages ≡ true
    → AllBelow end pages → least ≤ end → length pages + least ≤ end
few_staged least end [] order below le = omega (arith, le)
few_staged least end (page ∷ pages) order below le =
    let both = and_parts (leb least (own_number page) && ltb (own_number page) (2 ^ 32))
    (are_in_order (own_number page + 1) (2 ^ 32) pages) order in
    let ge = leb-true least (own_number page)
    (and_parts (leb least (own_number page)) (ltb (own_number page) (2 ^ 32)) both.0).0 in
    omega (
      arith,
      ge,
      below.0,
      few_staged (own_number page + 1) end pages both.1 below.1
          (omega (arith, below.0)),
    )

-- a commit lacks room only on a device for less than twice the pages that the file then has
pub lacks_twice : (st : StoreState) (end capacity : ℕ) → LacksPages st end → st.end ≤ end
    → length st.staged + 1 ≤ end → st.capacity ≡ capacity → capacity < 2 * end
lacks_twice st end capacity lacks le few same = omega (arith, lacks, le, few, same)

-- that is less than two bounds on them allow for
pub short_by : (capacity end most old pairs taken : ℕ) → capacity < 2 * end → end ≤ most
    → end ≤ old + pairs + taken
    → (capacity < 2 * most) × (capacity < 2 * (old + pairs + taken))
short_by capacity end most old pairs taken short bounded few =
    (omega (arith, short, bounded), omega (arith, short, few))

-- what holds of what was staged holds where it was committed
pub ok_then : (P : Type 0) (A : PageFault → Type 0) (r : Result ℕ PageFault)
    (result : Result Unit PageFault) → IfErr r (λ e. (result ≡ Err e) × A e) → OnOk r P
    → OnOk result P
ok_then P A (Ok end) (Ok done) refused holds = holds
ok_then P A r (Err e) refused holds = tt
ok_then P A (Err e) (Ok done) refused holds = absurd (let x = refused.0 in cc)

module _ {S : Type 0} (s : Ghosts S) (old mid new : S) (r : Result ℕ PageFault)
    (result : Result Unit PageFault) (stages : StagesOnly s old mid) where
  usable_same : (s.state mid).usable ≡ (s.state old).usable
  usable_same = ap (λ (st : StoreState). st.usable) stages.state

  writable_same : (s.state mid).writable ≡ (s.state old).writable
  writable_same = ap (λ (st : StoreState). st.writable) stages.state

  -- why a change is refused
  pub change_answer : (A : PageFault → Type 0) → (s.state old).writable ≡ true
      → IsChangeAnswer (s.state old) r → IfOk r (λ end. IsCommitAnswer (s.state mid) end result)
      → IfErr r (λ e. (result ≡ Err e) × A e) → IsChangeAnswer (s.state old) result
  change_answer A writable staged committed refused = by_case r staged committed refused
    where
      may_be : (e : PageFault) → result ≡ Err e → (end : ℕ)
          → IsCommitAnswer (s.state mid) end result
          → (e ≡ Broken) ⊎ ((e ≡ Memory) ⊎ ((e ≡ NoRoom) ⊎ ((e ≡ Damaged) ⊎ (e ≡ Device))))
      may_be e is end a = ⊎_elim
          (λ refusal. ⊎_elim (λ broken. inl broken) (λ other. ⊎_elim
          (λ read. let not = sym (writable_same ∙ writable)
          ∙ (a.read_only.0 (is ∙ ap Err read)).1 in absurd cc)
          (λ room. inr (inr (inl room))) other) refusal)
          (λ device. inr (inr (inr (inr device))))
          (subst (λ (r : Result Unit PageFault). IfErr r (λ e. IsRefusal e ⊎ (e ≡ Device))) is
          a.only)

      by_case : (r : Result ℕ PageFault) → IsChangeAnswer (s.state old) r
          → IfOk r (λ end. IsCommitAnswer (s.state mid) end result)
          → IfErr r (λ e. (result ≡ Err e) × A e) → IsChangeAnswer (s.state old) result
      by_case (Ok end) staged a refused = record {
        broken = λ b. sym usable_same ∙ a.broken.0 b;
        only = each_err result (λ e is. may_be e is end a);
      }
      by_case (Err e) staged a refused =
          subst (IsChangeAnswer (s.state old)) (sym refused.0)
          (record {
            broken = λ b. staged.broken (ap Err (let same : e ≡ Broken = cc in same));
            only = staged.only;
          })

  module _ (honest : s.honest old) (map changed : Contents) (bounds : Bounds)
      (stands : FileStandsFor (s.committed old) map bounds)
      (only : (y : Settled) → s.settles_to old y → y ≡ file_of (s.committed old)) where
    same_pages : s.committed mid ≡ s.committed old
    same_pages = (stages.kept honest).committed

    -- what was there before stands for the old map
    before : (y : Settled) → y ≡ file_of (s.committed old) → ImageStandsFor y map bounds
    before y is = subst (λ (z : Settled). ImageStandsFor z map bounds) (sym is) stands

    staging : LeavesOnly s.moment s.settled_since old mid
        (λ settled. ImageStandsFor settled map bounds)
    staging = weaker s.moment s.settled_since old mid (λ settled. ImageStandsFor settled map bounds)
        (s.settles_to old) (stages.kept honest).any_moment (λ y is. before y (only y is))

    -- at every moment an image stands for the old map or for the new one
    pub leaves_either : (wanted : Bounds) → IfOk r (λ end.
        FileStandsFor (committed_with (s.committed mid) (s.state mid).staged end) changed wanted)
        → LeavesOnly s.moment s.settled_since mid new
        (λ settled. (settled ≡ file_of (s.committed mid))
        ⊎ IsOkAnd r (λ end. settled ≡ file_of
        (committed_with (s.committed mid) (s.state mid).staged end)))
        → LeavesOnly s.moment s.settled_since old new (StandsForEither map bounds changed wanted)
    leaves_either wanted then run =
        followed_by s.moment s.settled_since old mid new (StandsForEither map bounds changed wanted)
        _ (weaker s.moment s.settled_since old mid (StandsForEither map bounds changed wanted)
        (λ settled. ImageStandsFor settled map bounds) staging (λ y is. inl is)) run
        (λ y is. ⊎_elim (λ e. inl (before y (e ∙ ap file_of same_pages)))
        (λ e. inr (by_case r then y e)) is)
      where
        by_case : (r : Result ℕ PageFault)
            → IfOk r (λ end. FileStandsFor
            (committed_with (s.committed mid) (s.state mid).staged end) changed wanted)
            → (y : Settled)
            → IsOkAnd r (λ end. y ≡ file_of
            (committed_with (s.committed mid) (s.state mid).staged end))
            → ImageStandsFor y changed wanted
        by_case (Ok end) then y is = subst
            (λ (z : Settled). ImageStandsFor z changed wanted) (sym is) then
        by_case (Err e) then y is = absurd is

    -- and where it was refused and nothing broke, for the old one
    pub leaves_old : LeavesOnly s.moment s.settled_since mid new
        (λ settled. settled ≡ file_of (s.committed mid))
        → LeavesOnly s.moment s.settled_since old new (λ settled. ImageStandsFor settled map bounds)
    leaves_old run =
        followed_by s.moment s.settled_since old mid new
        (λ settled. ImageStandsFor settled map bounds) _ staging run
        (λ y e. before y (e ∙ ap file_of same_pages))

  -- a fault that no commit answers was the staging's
  pub told_by : (A : PageFault → Type 0) (f : PageFault) → (IsRefusal f ⊎ (f ≡ Device) → ⊥)
      → IfOk r (λ end. IsCommitAnswer (s.state mid) end result)
      → IfErr r (λ e. (result ≡ Err e) × A e) → result ≡ Err f → r ≡ Err f
  told_by A f never committed refused is = by_case r committed refused
    where
      by_case : (r : Result ℕ PageFault) → IfOk r (λ end. IsCommitAnswer (s.state mid) end result)
          → IfErr r (λ e. (result ≡ Err e) × A e) → r ≡ Err f
      by_case (Ok end) a refused = absurd
          (never (subst (λ (r : Result Unit PageFault). IfErr r (λ e. IsRefusal e ⊎ (e ≡ Device)))
          is a.only))
      by_case (Err e) a refused = ap Err
          (let both = sym refused.0 ∙ is in let same : e ≡ f = cc in same)

  -- NoRoom is the staging's, or the staged pages lack room
  pub no_room_by : (A : PageFault → Type 0)
      → IfOk r (λ end. IsCommitAnswer (s.state mid) end result)
      → IfErr r (λ e. (result ≡ Err e) × A e) → result ≡ Err NoRoom
      → (r ≡ Err NoRoom) ⊎ ((end : ℕ) × (r ≡ Ok end) × LacksPages (s.state mid) end)
  no_room_by A committed refused is = by_case r refl committed refused
    where
      by_case : (q : Result ℕ PageFault) → r ≡ q
          → IfOk q (λ end. IsCommitAnswer (s.state mid) end result)
          → IfErr q (λ e. (result ≡ Err e) × A e)
          → (r ≡ Err NoRoom) ⊎ ((end : ℕ) × (r ≡ Ok end) × LacksPages (s.state mid) end)
      by_case (Ok end) same a refused = inr (end, same, (a.no_room.0 is).2)
      by_case (Err e) same a refused =
          inl (same ∙ ap Err (let both = sym refused.0 ∙ is in
          let fault : e ≡ NoRoom = cc in fault))
