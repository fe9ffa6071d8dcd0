-- Sessions that find a database or make one are opened where there is room.
use Rattle.std.proofs.Common.{◌≡◌, ◌⊎◌, ⊎_elim, ℕ, ◌+◌, ◌*◌, ◌/◌, ◌≤◌, Bool, true, false, cond, not, ◌&&◌, ◌||◌, Some, None, [], ◌∷◌, length, refl, sym, ap, ◌∙◌, subst, arith, Contains}
use Rattle.std.specs.Prelude.{nat_lt}
use Rattle.std.specs.Option.{option_or}
use Rattle.std.proofs.lemmas.Bool.Decides.{nat_tests}
use Rattle.dbm_model.specs.Bounds.{Version, V1, V2, Bounds}
use Rattle.dbm_model.specs.Sizes.{is_limit, home, sectors_for}
use Rattle.sect_dev.specs.Device.{Candidates, IsStable}
use Rattle.sect_dev.specs.Sector.{zeros}
use Rattle.sect_dev.specs.Moments.{only_image}
use Rattle.page_io.specs.Store.{Settled, blank, file_of, nothing}
use Rattle.redo_area.specs.File.{settled}
use Rattle.redo_area.proofs.Blanks.{blank_image}
use Rattle.file_opening.specs.Opening.{early_fault, room_fault, making_fault, commit_fault, emptying_fault, Allows, AllAllow}
use Rattle.dbm_fault.specs.declared.fault.Fault.TheVariants.{ReadOnly, NotADatabase, TooSmall}
use Rattle.dbm_model.specs.Members.{Member, NoDatabase, Holding, Members, AllHaveRoom}
use Rattle.dbm_model.proofs.Lists.{is_first}
use Rattle.rehearsal.specs.Members.{StandsFor, AllStandFor}
use Rattle.rehearsal.specs.Sessions.{asked_bounds, for_writing}
use Rattle.rehearsal.specs.declared.sessions.Opening.{Opening}

-- ---- what refuses an opening

-- a database has four pages at least
least : (bounds : Bounds) → 2 ≤ home bounds
least bounds = by_version bounds.version
  where
    by_version : (v : Version) → 2 ≤ home (record { limit = bounds.limit; version = v })
    by_version V1 = omega arith
    by_version V2 = omega arith

-- and one of a limit five
five : (bounds : Bounds) → 1 ≤ bounds.limit → 5 ≤ home bounds
five bounds some = by_version bounds.version
  where
    by_version : (v : Version) → 5 ≤ home (record { limit = bounds.limit; version = v })
    by_version V1 = omega (arith, some)
    by_version V2 = omega (arith, some)

-- nothing refuses a limit on a device that has its sectors
no_room_fault : (bounds : Bounds) (sectors : ℕ) → is_limit bounds.limit ≡ true
    → 2 * home bounds ≤ sectors / 4 → room_fault (sectors_for bounds) sectors ≡ None
no_room_fault bounds sectors is enough =
    ap (λ b. room_fault (cond b (Some (8 * home bounds)) None) sectors) is
    ∙ fits (home bounds) enough
  where
    fits : (n : ℕ) → 2 * n ≤ sectors / 4 → room_fault (Some (8 * n)) sectors ≡ None
    fits n enough = grind (arith, nat_tests)

-- three pages fit behind a file that is half as large as the device at most
no_emptying_fault : (bounds : Bounds) (sectors end pages : ℕ)
    → room_fault (sectors_for bounds) sectors ≡ None → end ≤ pages → 5 ≤ pages
    → 2 * pages ≤ sectors / 4 → emptying_fault bounds sectors end ≡ None
no_emptying_fault bounds sectors end pages none few some enough =
    ap (λ o. option_or o (commit_fault sectors end)) none ∙ fits
  where
    fits : commit_fault sectors end ≡ None
    fits = grind (arith, nat_tests)

never_both : (b : Bool) → (b && false) ≡ false
never_both true = refl
never_both false = refl

one_of_both : (a b : Bool) → b ≡ true → (a || b) ≡ true
one_of_both true b is = refl
one_of_both false b is = is

first_of_both : (a b : Bool) → a ≡ true → (a || b) ≡ true
first_of_both a b is = ap (λ x. x || b) is

pub not_early : (how : Opening) (sectors : ℕ) → 2 * home (asked_bounds how) ≤ sectors / 4
    → early_fault (for_writing how) sectors ≡ None
not_early how sectors enough =
    ap (λ b. cond b (Some ReadOnly) (cond (nat_lt sectors 16) (Some TooSmall) None))
    (never_both how.truncate) ∙ large (home (asked_bounds how)) (least (asked_bounds how)) enough
  where
    large : (n : ℕ) → 2 ≤ n → 2 * n ≤ sectors / 4
        → cond (nat_lt sectors 16) (Some TooSmall) None ≡ None
    large n some enough = grind (arith, nat_tests)

-- ---- what the images allow

module _ (before : Members) (how : Opening) (sectors : ℕ)
    (all : AllHaveRoom (sectors / 4) before) (asked : 2 * home (asked_bounds how) ≤ sectors / 4)
    (limited : (how.create || how.truncate) ≡ true → is_limit how.limit ≡ true)
    (found : (Contains before NoDatabase → ⊥) ⊎ (how.create ≡ true)) where
  may_make : how.create ≡ true → making_fault (for_writing how) sectors ≡ None
  may_make creates =
      ap (λ b. cond (not b) (Some NotADatabase)
      (room_fault (sectors_for (asked_bounds how)) sectors)) creates
      ∙ no_room_fault (asked_bounds how) sectors
      (limited (first_of_both how.create how.truncate creates)) asked

  allows : (member : Member) (y : Settled) → Contains before member → StandsFor y member
      → Allows (for_writing how) sectors y
  allows NoDatabase y among is =
      subst (Allows (for_writing how) sectors) (sym is)
      (may_make (⊎_elim (λ none. absurd (none among)) (λ creates. creates) found))
  allows (Holding map bounds) blank among stands = absurd stands
  allows (Holding map bounds) (file_of pages) among stands = (
    never_both how.create,
    λ truncates.
        let bounded = ap home stands.bounded in
        no_emptying_fault (asked_bounds how) sectors (length pages + 1) (home bounds)
        (no_room_fault (asked_bounds how) sectors
        (limited (one_of_both how.create how.truncate truncates)) asked)
        (omega (arith, stands.good.bounded, stands.ends, bounded))
        (omega (arith, five stands.placement.bounds stands.good.limited.0, bounded))
        (all (Holding map bounds) among),
  )
  allows (Holding map bounds) nothing among stands = absurd stands

  pub all_allow : (start : Candidates) → AllStandFor before (sectors / 4) start
      → AllAllow (for_writing how) sectors start
  all_allow start stand image is =
      let one = stand image is in allows one.0 (settled (sectors / 4) image) one.1 one.2

-- ---- a device of zeros

pub blank_holds_none : (pages : ℕ) (candidate : Candidates) → IsStable candidate (λ _. zeros)
    → AllStandFor (NoDatabase ∷ []) pages candidate
blank_holds_none pages candidate stable image is = (
  NoDatabase,
  is_first NoDatabase [] NoDatabase refl,
  blank_image pages image
      (ap (λ i. i 0) (only_image candidate (λ _. zeros) image stable is)),
)
