-- What a limit asks for, and what refuses an empty database.
use Rattle.std.proofs.Common.{◌≡◌, ◌⊎◌, inl, inr, ⊎_elim, ℕ, ◌+◌, ◌*◌, ◌/◌, ◌≤◌, ◌<◌, Bool, true, false, cond, Option, Some, None, refl, sym, ap, ◌∙◌, subst, arith}
use Rattle.std.specs.Int.{div_ceil}
use Rattle.std.specs.Prelude.{nat_lt}
use Rattle.std.specs.Option.{option_or}
use Rattle.std.proofs.lemmas.Bool.Decides.{nat_tests}
use Rattle.dbm_model.specs.Bounds.{Version, Bounds}
use Rattle.page_model.specs.Pages.{Meta}
use Rattle.page_model.specs.PageBodies.{meta_of}
use Rattle.page_model.specs.Placement.{fresh_placement}
use Rattle.dbm_model.specs.Sizes.{is_limit, buckets_for, segments_for, pages_for, home, sectors_for}
use Rattle.page_model.specs.Valid.{IsMeta}
use Rattle.page_model.proofs.GoodBodies.{bodies_valid}
use Rattle.page_model.proofs.Stores.{fresh_is_good}
use Rattle.page_io.specs.declared.store.PageFault.{PageFault}
use Rattle.page_io.specs.declared.store.PageFault.TheVariants as page
use Rattle.dbm_fault.specs.Faults.{fault_from}
use Rattle.dbm_fault.specs.declared.fault.Fault.{Fault}
use Rattle.dbm_fault.specs.declared.fault.Fault.TheVariants.{Memory, Device, NoRoom, TooSmall, BadLimit}
use Rattle.file_opening.specs.Opening.{room_fault, commit_fault, emptying_fault}

-- ---- sizes

limit_is : (limit : ℕ) → 1 ≤ limit → limit ≤ 1000000 → is_limit limit ≡ true
limit_is limit least most = grind (arith, nat_tests)

limit_says : (limit : ℕ) → is_limit limit ≡ true → (1 ≤ limit) × (limit ≤ 1000000)
limit_says limit is = (grind (arith, nat_tests), grind (arith, nat_tests))

-- what is counted is what is needed
pub sectors_are : (version : Version) (limit buckets segments pages : ℕ) → 1 ≤ limit
    → limit ≤ 1000000 → buckets ≡ div_ceil limit 8 → segments ≡ div_ceil buckets 508
    → pages ≡ pages_for version
    → Some (8 * (2 + segments + buckets + pages * limit))
    ≡ sectors_for (record { limit = limit; version = version })
sectors_are version limit buckets segments pages least most are parts each =
    let bounds : Bounds = record { limit = limit; version = version } in
    let b : buckets ≡ buckets_for limit = are ∙ omega arith in
    let s : segments ≡ segments_for (buckets_for limit) =
    parts ∙ ap (λ (n : ℕ). div_ceil n 508) b ∙ omega arith in
    ap (λ (n : ℕ). Some (8 * n)) (ap (λ (n : ℕ). 2 + n + buckets + pages * limit) s
    ∙ ap (λ (n : ℕ). 2 + segments_for (buckets_for limit) + n + pages * limit) b
    ∙ ap (λ (n : ℕ). 2 + segments_for (buckets_for limit) + buckets_for limit + n * limit) each)
    ∙ ap (λ (x : Bool). cond x (Some (8 * home bounds)) None) (sym (limit_is limit least most))

-- ---- room

room_limit : (b : Bool) (n sectors : ℕ)
    → room_fault (cond b (Some n) None) sectors ≡ None → b ≡ true
room_limit true n sectors none = refl
room_limit false n sectors none = absurd (cc)

-- where there is room, the limit is one
pub limit_of_room : (bounds : Bounds) (sectors : ℕ)
    → room_fault (sectors_for bounds) sectors ≡ None
    → (1 ≤ bounds.limit) × (bounds.limit ≤ 1000000)
limit_of_room bounds sectors none = limit_says bounds.limit
    (room_limit (is_limit bounds.limit) (8 * home bounds) sectors none)

small_room : (b : Bool) (f : Fault) → cond b (Some TooSmall) None ≡ Some f → f ≡ TooSmall
small_room true f is = cc
small_room false f is = absurd (cc)

pub of_room : (needed : Option ℕ) (sectors : ℕ) (f : Fault) → room_fault needed sectors ≡ Some f
    → (f ≡ BadLimit) ⊎ (f ≡ TooSmall)
of_room None sectors f is = inl (cc)
of_room (Some n) sectors f is = inr (small_room (nat_lt sectors n) f is)

apart : {P : Type 0} (f : Fault) → (f ≡ BadLimit) ⊎ (f ≡ TooSmall) → f ≡ Device → P
apart f (inl limit) is = let both = sym limit ∙ is in cc
apart f (inr small) is = let both = sym small ∙ is in cc

pub of_room_apart : {P : Type 0} (needed : Option ℕ) (sectors : ℕ) (f : Fault)
    → room_fault needed sectors ≡ Some f → f ≡ Device → P
of_room_apart needed sectors f is device = apart f (of_room needed sectors f is) device

-- nothing was told that refuses the bounds
pub has_room : (bounds : Bounds) (sectors same : ℕ) (told : Option Fault) → same ≡ sectors
    → told ≡ room_fault (sectors_for bounds) same → told ≡ None
    → room_fault (sectors_for bounds) sectors ≡ None
has_room bounds sectors same told is said none =
    ap (room_fault (sectors_for bounds)) (sym is) ∙ sym said ∙ none

-- where the bounds have room, and the commit too, nothing refuses an emptying
pub allows_emptying : (bounds : Bounds) (sectors end : ℕ)
    → room_fault (sectors_for bounds) sectors ≡ None
    → end + 3 ≤ sectors / 4 → emptying_fault bounds sectors end ≡ None
allows_emptying bounds sectors end room fits =
    ap (λ (o : Option Fault). option_or o (commit_fault sectors end)) room ∙ commits fits
  where
    commits : end + 3 ≤ sectors / 4 → commit_fault sectors end ≡ None
    commits le = grind (arith, nat_tests)

-- ---- a new meta page

pub fresh_meta : (bounds : Bounds) (m : Meta) → m ≡ meta_of (fresh_placement bounds)
    → m ≡ meta_of (fresh_placement m.bounds)
fresh_meta bounds m is = is ∙ ap (λ (b : Bounds). meta_of (fresh_placement b))
    (sym (ap (λ (x : Meta). x.bounds) is))

pub fresh_valid : (bounds : Bounds) (m : Meta) → (1 ≤ bounds.limit) × (bounds.limit ≤ 1000000)
    → m ≡ meta_of (fresh_placement bounds) → IsMeta m
fresh_valid bounds m limited is =
    subst IsMeta (sym is) (bodies_valid (fresh_placement bounds)
    (fresh_is_good bounds limited.0 limited.1).0).0.1

-- ---- a commit that was refused

-- the faults of an emptying
abbrev pub EmptyingOnly : Fault → Type 0
EmptyingOnly f = (f ≡ BadLimit) ⊎ ((f ≡ TooSmall) ⊎ ((f ≡ Memory) ⊎ ((f ≡ NoRoom) ⊎ (f ≡ Device))))

module _ (e : PageFault) (only : (e ≡ page.Memory) ⊎ ((e ≡ page.NoRoom) ⊎ (e ≡ page.Device))) where
  pub of_commit : EmptyingOnly (fault_from e)
  of_commit = inr (inr (⊎_elim (λ memory. inl (ap fault_from memory))
      (λ other. ⊎_elim (λ room. inr (inl (ap fault_from room)))
      (λ device. inr (inr (ap fault_from device))) other) only))

  pub came_from : fault_from e ≡ Device → e ≡ page.Device
  came_from is = ⊎_elim
      (λ memory. absurd (let both : Memory ≡ Device = sym (ap fault_from memory) ∙ is in cc))
      (λ other. ⊎_elim (λ room. absurd
      (let both : NoRoom ≡ Device = sym (ap fault_from room) ∙ is in cc))
      (λ device. device) other)
      only

  pub refuses_commit : (bounds : Bounds) (sectors end : ℕ)
      → room_fault (sectors_for bounds) sectors ≡ None
      → (e ≡ page.NoRoom → sectors / 4 < end + 3) → (e ≡ page.Device → ⊥)
      → (emptying_fault bounds sectors end ≡ Some (fault_from e)) ⊎ (fault_from e ≡ Memory)
  refuses_commit bounds sectors end room short other = ⊎_elim
      (λ memory. inr (ap fault_from memory))
      (λ more. ⊎_elim
      (λ none. inl (ap (λ (o : Option Fault). option_or o (commit_fault sectors end)) room
      ∙ lacks (short none) ∙ ap (λ (x : PageFault). Some (fault_from x)) (sym none)))
      (λ device. absurd (other device))
      more)
      only
    where
      lacks : sectors / 4 < end + 3 → commit_fault sectors end ≡ Some NoRoom
      lacks lt = grind (arith, nat_tests)
