-- The pages of a new file.
use Rattle.std.proofs.Common.{◌≡◌, ◌⊎◌, ⊎_elim, inl, inr, ℕ, ◌≤◌, ◌==◌, Bool, true, false, cond, not, Option, Some, None, is_some, List, [], ◌∷◌, get_or, map, refl, sym, ap, ◌∙◌, subst}
use Rattle.std.specs.FinMap.{empty}
use Rattle.dbm_model.specs.Bounds.{Bounds}
use Rattle.page_model.specs.Pages.{Meta, MetaPage, SegmentPage, HeadPage, bucket}
use Rattle.page_model.specs.Placement.{fresh_placement}
use Rattle.page_model.specs.Reading.{body_of, bucket_of}
use Rattle.page_model.specs.PageBodies.{meta_of, IsSpelled}
use Rattle.page_model.specs.Meaning.{said_by}
use Rattle.dbm_model.specs.Sizes.{sectors_for}
use Rattle.page_model.specs.Valid.{IsBucket}
use Rattle.page_model.proofs.Flat.{flat_is_contents}
use Rattle.page_model.proofs.Stores.{fresh_is_good}
use Rattle.page_io.specs.Page.{own_number}
use Rattle.page_io.specs.Store.{Pages, Settled, blank, committed_with, page_of}
use Rattle.page_io.specs.Meaning.{FileStandsFor, ImageStandsFor}
use Rattle.redo_area.specs.File.{IsBlankOr}
use Rattle.page_io.specs.BucketPages.{IsBucketPage}
use Rattle.slot_page.proofs.Pages.{is_head}
use Rattle.file_opening.specs.Opening.{writes, bounds_of, room_fault, making_fault}
use Rattle.file_opening.specs.declared.open_how.OpenHow.{OpenHow}
use Rattle.dbm_fault.specs.declared.fault.Fault.{Fault}
use Rattle.dbm_fault.specs.declared.fault.Fault.TheVariants.{NotADatabase, ReadOnly}

-- a head page with no pair
pub bare_head : (bytes : List ℕ) → IsBucketPage bytes → bucket_of bytes ≡ bucket 3 3 0 []
    → body_of 3 bytes ≡ HeadPage 0 []
bare_head bytes page says = (is_head 3 0 [] bytes (subst IsBucket says page.sound)).1 (page, says)

-- the meta page, one segment page and one head page that is empty
pub new_stands : (bounds : Bounds) (m : Meta) (first second third : List ℕ) → 1 ≤ bounds.limit
    → bounds.limit ≤ 1000000 → m ≡ meta_of (fresh_placement bounds)
    → body_of 1 first ≡ MetaPage m → body_of 2 second ≡ SegmentPage (3 ∷ [])
    → body_of 3 third ≡ HeadPage 0 []
    → FileStandsFor (first ∷ second ∷ third ∷ []) empty bounds
new_stands bounds m first second third least most is meta segment head =
    let p = fresh_placement bounds in
    let good = fresh_is_good bounds least most in
    let at = said_by (page_of (first ∷ second ∷ third ∷ [])) in
    let spelled : IsSpelled at p = (meta ∙ ap MetaPage is, (segment, (head, tt))) in
    record {
      placement = p;
      good = good.0;
      spelled = spelled;
      ends = refl;
      bounded = refl;
      holds = flat_is_contents p at good.0 spelled ∙ good.1;
    }

-- the own numbers of three pages
pub three_numbers : (a b c : ℕ) → a ≡ 1 → b ≡ 2 → c ≡ 3 → a ∷ b ∷ c ∷ [] ≡ 1 ∷ 2 ∷ 3 ∷ []
three_numbers a b c first second third = λ i. first i ∷ second i ∷ third i ∷ []

-- three pages that are committed are the file, where it ends behind them
pub three_committed : (old pages : Pages) → map own_number pages ≡ 1 ∷ 2 ∷ 3 ∷ []
    → committed_with old pages 4 ≡ pages
three_committed old [] is = absurd (cc)
three_committed old (a ∷ []) is = absurd (cc)
three_committed old (a ∷ b ∷ []) is = absurd (cc)
three_committed old (a ∷ b ∷ c ∷ []) is =
    let first : own_number a ≡ 1 = ap (λ (ns : List ℕ). get_or ns 0 0) is in
    let second : own_number b ≡ 2 = ap (λ (ns : List ℕ). get_or ns 1 0) is in
    let third : own_number c ≡ 3 = ap (λ (ns : List ℕ). get_or ns 2 0) is in
    let page : ℕ → ℕ → ℕ → ℕ → List ℕ = λ x y z n.
    cond (z == n) c (cond (y == n) b (cond (x == n) a (page_of old n))) in
    λ i. page (first i) (second i) (third i) 1 ∷ page (first i) (second i) (third i) 2
    ∷ page (first i) (second i) (third i) 3 ∷ []
three_committed old (a ∷ b ∷ c ∷ d ∷ rest) is = absurd (cc)

-- what is made on a blank device was asked for, and may be written
by_create : (create for_writing : Bool) (fault : Option Fault)
    → cond (not create) (Some NotADatabase) (cond (not for_writing) (Some ReadOnly) fault) ≡ None
    → (create ≡ true) × (for_writing ≡ true)
by_create true true fault is = (refl, refl)
by_create true false fault is = absurd (cc)
by_create false for_writing fault is = absurd (cc)

pub was_asked : (how : OpenHow) (sectors : ℕ) → making_fault how sectors ≡ None
    → (how.create ≡ true) × (writes how.access ≡ true)
was_asked how sectors none = by_create how.create (writes how.access)
    (room_fault (sectors_for (bounds_of how)) sectors) none

-- for reading none is made
by_reading : (create for_writing : Bool) (fault : Option Fault) → for_writing ≡ false
    → is_some (cond (not create) (Some NotADatabase) (cond (not for_writing) (Some ReadOnly) fault))
    ≡ true
by_reading true true fault is = absurd (cc)
by_reading true false fault is = refl
by_reading false for_writing fault is = refl

pub none_for_reading : (how : OpenHow) (sectors : ℕ) → writes how.access ≡ false
    → is_some (making_fault how sectors) ≡ true
none_for_reading how sectors reads = by_reading how.create (writes how.access)
    (room_fault (sectors_for (bounds_of how)) sectors) reads

-- what is left is blank, or stands for the new database
abbrev pub BlankOrNew : Option Fault → Bounds → Settled → Type 0
BlankOrNew fault bounds s = (s ≡ blank) ⊎ ((fault ≡ None) × ImageStandsFor s empty bounds)

pub blank_or_new : (pages : Pages) (bounds : Bounds) (fault : Option Fault)
    → FileStandsFor pages empty bounds → fault ≡ None → (s : Settled) → IsBlankOr pages s
    → BlankOrNew fault bounds s
blank_or_new pages bounds fault stands none s or =
    ⊎_elim (λ is. inl is) (λ is. inr
    (none, subst (λ (t : Settled). ImageStandsFor t empty bounds) (sym is) stands)) or
