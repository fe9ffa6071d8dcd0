-- What the images of a file, of a device and of a database stand for.
use Rattle.std.proofs.Common.{◌≡◌, ◌≢◌, inl, inr, ℕ, ◌/◌, Bool, true, false, cond, not, List, [], ◌∷◌, Option, Some, None, refl, sym, ◌∙◌, ap, subst}
use Rattle.std.proofs.lemmas.Bool.{cases_eq}
use Rattle.dbm_fault.specs.declared.fault.Fault.TheVariants.{NotADatabase}
use Rattle.dbm_fault.specs.declared.fault.Fault.{Fault}
use Rattle.dbm_model.specs.Bounds.{Bounds}
use Rattle.dbm_model.specs.Pairs.{Contents}
use Rattle.file_opening.specs.Opening.{writes, BeginsEmpty, MayRemain}
use Rattle.file_opening.specs.declared.open_how.OpenHow.{OpenHow}
use Rattle.listed_dev.specs.Listed.{history}
use Rattle.listed_dev.specs.contracts.listed_dev.ListedDevSectorDev.TheImpl.{ghosts as served}
use Rattle.listed_dev.specs.declared.listed_dev.ListedDev.{ListedDev}
use Rattle.page_io.proofs.Meanings.{one_meaning}
use Rattle.page_io.specs.Meaning.{ImageStandsFor}
use Rattle.page_io.specs.Store.{Settled}
use Rattle.redo_area.specs.File.{settled}
use Rattle.sect_dev.specs.Device.{Image, IsImageOf, IsStable, with_sector}
use Rattle.sect_dev.specs.History.{content_after, IsCandidate, content_is_candidate, counts_now}
use Rattle.sect_dev.specs.Moments.{at_same, at_other}
use Rattle.sect_dev.specs.declared.past.Event.TheVariants.{Synced}
use Rattle.sect_dev.specs.declared.past.Event.{Event}
use Rattle.ndbm_c.proofs.Turns.{same_but_turn}
use Rattle.ndbm_c.specs.Holders.{FileStands, IsSynced, IsSameFile}
use Rattle.ndbm_c.specs.Opening.{IsRefusal}
use Rattle.ndbm_c.specs.Periods.{Through, TellsDevice, TriesToOpen}

-- ---- files

-- it stands for one of these maps
pub record StandsIn (Among : Contents → Bounds → Type 0) (y : Settled) : Type 0 where
  pub map : Contents
  pub bounds : Bounds
  pub among : Among map bounds
  pub stands : ImageStandsFor y map bounds

-- so does whatever a stop may leave of a file
abbrev pub FileAmong : ℕ → List Event → (Contents → Bounds → Type 0) → Type 0
FileAmong sectors past Among = (image : Image) → IsImageOf (IsCandidate past) image
    → StandsIn Among (settled (sectors / 4) image)

-- this map alone
abbrev pub Only : Contents → Bounds → Contents → Bounds → Type 0
Only map bounds other within = (other ≡ map) × (within ≡ bounds)

pub stands_alone : (sectors : ℕ) (past : List Event) (map : Contents) (bounds : Bounds)
    → FileStands sectors past map bounds → FileAmong sectors past (Only map bounds)
stands_alone sectors past map bounds stands image is =
    record { map = map; bounds = bounds; among = (refl, refl); stands = stands image is }

module _ (past other : List Event) (same : IsSameFile past other) where
  -- the image with the turn of the other file
  abbrev moved : Image → Image
  moved image = with_sector image 1 (content_after other 1)

  moved_is : (image : Image) → IsImageOf (IsCandidate past) image
      → IsImageOf (IsCandidate other) (moved image)
  moved_is image is n = elim (cases_eq n 1) [
    | inl here ↦ subst (λ (m : ℕ). IsCandidate other m (moved image m)) (sym here)
        (subst (IsCandidate other 1) (sym (at_same image 1 (content_after other 1) 1 refl))
        (content_is_candidate other 1))
    | inr beside ↦ subst (IsCandidate other n)
        (sym (at_other image 1 (content_after other 1) n beside))
        (same.left n (image n) beside (is n))
  ]

  pub same_stands : (sectors : ℕ) (Among : Contents → Bounds → Type 0)
      → FileAmong sectors other Among → FileAmong sectors past Among
  same_stands sectors Among stands image is =
      subst (StandsIn Among)
      (same_but_turn (moved image) image
      (λ m beside. at_other image 1 (content_after other 1) m beside) (sectors / 4))
      (stands (moved image) (moved_is image is))

  pub same_synced : IsSynced other → IsSynced past
  same_synced synced n content beside is =
      synced n content beside (same.left n content beside is) ∙ sym (same.seen n beside)

-- where it was synced, a stop leaves what a read gives
pub synced_stands : (sectors : ℕ) (past : List Event) (map : Contents) (bounds : Bounds)
    → IsSynced past → ImageStandsFor (settled (sectors / 4) (content_after past)) map bounds
    → FileStands sectors past map bounds
synced_stands sectors past map bounds synced stands image is =
    subst (λ (y : Settled). ImageStandsFor y map bounds)
    (same_but_turn (content_after past) image
    (λ n beside. sym (synced n (image n) beside (is n))) (sectors / 4)) stands

-- of a file that was just synced it leaves what a read gives
pub just_synced : (sectors : ℕ) (past : List Event) (Among : Contents → Bounds → Type 0)
    → FileAmong sectors past Among → FileAmong sectors (Synced ∷ past) Among
just_synced sectors past Among stands image is = stands image
    (λ n. subst (IsCandidate past n) (sym (is n)) (content_is_candidate past n))

-- with one turn, it is stable
pub all_stable : (past : List Event) → IsSynced past
    → ((content : List ℕ) → IsCandidate past 1 content → content ≡ content_after past 1)
    → IsStable (IsCandidate past) (content_after past)
all_stable past synced turn n content is = elim (cases_eq n 1) [
  | inl here ↦ turn content (subst (λ (m : ℕ). IsCandidate past m content) here is)
      ∙ ap (content_after past) (sym here)
  | inr beside ↦ synced n content beside is
]

-- two images that differ in the turn at the most stand for one map
pub one_map : (capacity : ℕ) (a b : Image) → ((n : ℕ) → n ≢ 1 → a n ≡ b n)
    → (map other : Contents) (bounds within : Bounds)
    → ImageStandsFor (settled capacity a) map bounds
    → ImageStandsFor (settled capacity b) other within → (map ≡ other) × (bounds ≡ within)
one_map capacity a b same map other bounds within stands also =
    one_meaning (settled capacity b) map other bounds within
    (subst (λ (y : Settled). ImageStandsFor y map bounds) (same_but_turn a b same capacity) stands)
    also

-- ---- steps one after another

pub through : {X : Type 0} (P : X → Type 0) (Goes : X → X → Type 0)
    → ((old new : X) → Goes old new → P old → P new)
    → (first : X) (steps : List X) (last : X) → Through Goes first steps last → P first → P last
through P Goes keeps first [] last is has = subst P (sym is) has
through P Goes keeps first (next ∷ rest) last goes has =
    through P Goes keeps next rest last goes.1 (keeps first next goes.0 has)

-- ---- devices

never_made : (b : Bool) (rest : Option Fault) → b ≡ false
    → cond (not b) (Some NotADatabase) rest ≡ None → ⊥
never_made true rest is due = absurd (let x = is in cc)
never_made false rest is due = absurd (let x = due in cc)

-- where there is a database, none is made or emptied
pub never_empty : (how : OpenHow) (sectors : ℕ) (dev : ListedDev) → how.create ≡ false
    → how.truncate ≡ false → BeginsEmpty how sectors (served.candidate dev) → ⊥
never_empty how sectors dev kept whole (inl makes) = never_made how.create _ kept makes.due
never_empty how sectors dev kept whole (inr empties) =
    absurd (let x = sym whole ∙ empties.empties.asked in cc)

-- a device of that size whose images stand for such maps, and on which nothing is unsynced where it is
-- opened for reading
pub record DeviceStands (how : OpenHow) (sectors : ℕ) (Among : Contents → Bounds → Type 0)
    (dev : ListedDev) : Type 0 where
  pub size : served.sectors dev ≡ sectors
  pub stands : FileAmong sectors (history dev) Among
  pub stable : writes how.access ≡ false → IsStable (served.candidate dev) (served.seen dev)

module _ (how : OpenHow) (sectors : ℕ) (Among : Contents → Bounds → Type 0)
    (kept : how.create ≡ false) (whole : how.truncate ≡ false) where
  abbrev Stands : ListedDev → Type 0
  Stands = DeviceStands how sectors Among

  pub told_stands : (old new : ListedDev) → TellsDevice old new → Stands old → Stands new
  told_stands old new (told, is_true, tells) has = record {
    size = tells.size ∙ has.size;
    stands = subst (λ (events : List Event). FileAmong sectors events Among)
        (sym tells.history) has.stands;
    stable = λ reads. subst
        (λ (events : List Event). IsStable (IsCandidate events) (content_after events))
        (sym tells.history) (has.stable reads);
  }

  remains : (dev : ListedDev) (y : Settled) → Stands dev
      → MayRemain how (served.sectors dev) (served.candidate dev) y → StandsIn Among y
  remains dev y has (inl there) = subst (StandsIn Among)
      (ap (λ (n : ℕ). settled (n / 4) there.image) (sym has.size) ∙ there.reads)
      (has.stands there.image there.is_image)
  remains dev y has (inr begins) =
      absurd (never_empty how (served.sectors dev) dev kept whole begins.0)

  refused_stands : (old new : ListedDev) (fault : Fault) → IsRefusal how old new fault
      → Stands old → Stands new
  refused_stands old new fault is has = record {
    size = is.size whole ∙ has.size;
    stands = λ image is_image. subst (StandsIn Among)
        (ap (λ (n : ℕ). settled (n / 4) image) has.size)
        (remains old (settled (served.sectors old / 4) image) has
        (is.any_moment.each (settled (served.sectors old / 4) image) (record {
          left = image;
          is_left = counts_now (history new) (served.moment old).at image is_image;
          reads = refl;
        })));
    stable = λ reads n content among. let only = is.only_reads reads in
        has.stable reads n content (only.no_new n content among)
        ∙ ap (λ (i : Image). i n) (sym only.seen);
  }

  pub tried_stands : (old new : ListedDev) → TriesToOpen how old new → Stands old → Stands new
  tried_stands old new (inl tries) has = refused_stands old new tries.1.0 tries.1.2 has
  tried_stands old new (inr tells) has = told_stands old new tells has
