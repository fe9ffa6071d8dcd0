-- The rule that a call of a usable handle falls under.
use Rattle.std.proofs.Common.{◌≡◌, inl, inr, ◌*◌, ℕ, ◌<◌, ◌≤◌, true, false, cond, not, List, Option, Some, None, is_some, refl, ◌∙◌, ap}
use Rattle.std.specs.Prelude.{◌≢◌, nat_le}
use Rattle.std.specs.FinMap.{get, insert, remove, len}
use Rattle.std.proofs.lemmas.Bool.{le-leb, lt-leb, le-ltb, lt-ltb}
use Rattle.dbm_model.specs.Calls.{Mode, Insert, Replace, Call, Store, Fetch, Delete, First, Next, Error, Clear, Upgrade, Reply, Number, Stored, Kept, Deleted, Absent, Upgraded, TooSmall, TooLong, Full, Broken, ReadOnly, NoPass}
use Rattle.dbm_model.specs.Bounds.{V1, V2, upgraded}
use Rattle.dbm_model.specs.Pairs.{is_allowed}
use Rattle.dbm_model.specs.Sizes.{home}
use Rattle.dbm_model.specs.States.{State, Pass, NotBegun, Begun, Behind, Handle, error_number}
use Rattle.dbm_model.specs.Steps.{Tells, Refuses, Declines, Finds, Passes, Changes, fetched, stored, deleted, passed, raised, usable_case, broken_case, case_of, with_map, Suffers, Fails, LacksMemory}

usable_rule : (h : Handle) (call : Call) → h.state.usable ≡ true
    → case_of h call ≡ usable_case h.capacity h.state call
usable_rule h call usable =
    ap (λ b. cond b (usable_case h.capacity h.state call) (broken_case h.capacity h.state call)) usable

broken_rule : (h : Handle) (call : Call) → h.state.usable ≡ false
    → case_of h call ≡ broken_case h.capacity h.state call
broken_rule h call broken =
    ap (λ b. cond b (usable_case h.capacity h.state call) (broken_case h.capacity h.state call)) broken

pub broken_store : (h : Handle) (key content : List ℕ) (mode : Mode) → h.state.usable ≡ false
    → case_of h (Store key content mode) ≡ Refuses Broken
broken_store h key content mode broken = broken_rule h (Store key content mode) broken

pub broken_fetch : (h : Handle) (key : List ℕ) → h.state.usable ≡ false
    → case_of h (Fetch key) ≡ Refuses Broken
broken_fetch h key broken = broken_rule h (Fetch key) broken

pub broken_delete : (h : Handle) (key : List ℕ) → h.state.usable ≡ false
    → case_of h (Delete key) ≡ Refuses Broken
broken_delete h key broken = broken_rule h (Delete key) broken

pub fetch_rule : (h : Handle) (key : List ℕ) (old : Option (List ℕ)) → h.state.usable ≡ true
    → get h.state.map key ≡ old → case_of h (Fetch key) ≡ fetched old
fetch_rule h key old usable has = usable_rule h (Fetch key) usable ∙ ap fetched has

pub delete_rule : (h : Handle) (key : List ℕ) → h.state.usable ≡ true → h.state.writable ≡ true
    → case_of h (Delete key) ≡ deleted h.state key (get h.state.map key)
delete_rule h key usable writable =
    usable_rule h (Delete key) usable
    ∙ ap (λ b. cond b (deleted h.state key (get h.state.map key)) (Refuses ReadOnly)) writable

pub delete_read_only : (h : Handle) (key : List ℕ) → h.state.usable ≡ true → h.state.writable ≡ false
    → case_of h (Delete key) ≡ Refuses ReadOnly
delete_read_only h key usable reads =
    usable_rule h (Delete key) usable
    ∙ ap (λ b. cond b (deleted h.state key (get h.state.map key)) (Refuses ReadOnly)) reads

pub store_read_only : (h : Handle) (key content : List ℕ) (mode : Mode) → h.state.usable ≡ true
    → h.state.writable ≡ false → case_of h (Store key content mode) ≡ Refuses ReadOnly
store_read_only h key content mode usable reads =
    usable_rule h (Store key content mode) usable
    ∙ ap (λ b. cond (not b) (Refuses ReadOnly)
    (cond (is_allowed h.state.bounds.version (key, content))
    (stored h.state key content mode (get h.state.map key)) (Refuses TooLong))) reads

module _ (h : Handle) (key content : List ℕ) (mode : Mode) (usable : h.state.usable ≡ true)
    (writable : h.state.writable ≡ true) where
  pub by_length : case_of h (Store key content mode)
      ≡ cond (is_allowed h.state.bounds.version (key, content))
      (stored h.state key content mode (get h.state.map key)) (Refuses TooLong)
  by_length =
      usable_rule h (Store key content mode) usable
      ∙ ap (λ b. cond (not b) (Refuses ReadOnly)
      (cond (is_allowed h.state.bounds.version (key, content))
      (stored h.state key content mode (get h.state.map key)) (Refuses TooLong))) writable

  pub too_long_rule : is_allowed h.state.bounds.version (key, content) ≡ false
      → case_of h (Store key content mode) ≡ Refuses TooLong
  too_long_rule long = by_length
      ∙ ap (λ b. cond b (stored h.state key content mode (get h.state.map key)) (Refuses TooLong)) long

  pub store_rule : is_allowed h.state.bounds.version (key, content) ≡ true
      → case_of h (Store key content mode) ≡ stored h.state key content mode (get h.state.map key)
  store_rule short = by_length ∙ ap
      (λ b. cond b (stored h.state key content mode (get h.state.map key)) (Refuses TooLong)) short

-- a store, by what the key has
module _ (s : State) (key content : List ℕ) where
  pub kept : (old : Option (List ℕ)) (mode : Mode) → is_some old ≡ true → mode ≡ Insert
      → stored s key content mode old ≡ Finds Kept
  kept (Some old) mode there is = ap (λ (m : Mode). stored s key content m (Some old)) is
  kept None mode there is = absurd (let e = there in cc)

  pub full : (old : Option (List ℕ)) (mode : Mode) → is_some old ≡ false → s.bounds.limit ≤ len s.map
      → stored s key content mode old ≡ Declines Full
  full (Some old) mode absent many = absurd (let e = absent in cc)
  full None Insert absent many =
      ap (λ b. cond b (Declines Full) (Changes Stored (with_map s (insert s.map key content))))
      (le-leb s.bounds.limit (len s.map) many)
  full None Replace absent many =
      ap (λ b. cond b (Declines Full) (Changes Stored (with_map s (insert s.map key content))))
      (le-leb s.bounds.limit (len s.map) many)

  pub changes : (old : Option (List ℕ)) (mode : Mode) → (is_some old ≡ true → mode ≡ Replace)
      → (is_some old ≡ false → len s.map < s.bounds.limit)
      → stored s key content mode old ≡ Changes Stored (with_map s (insert s.map key content))
  changes (Some old) mode there few =
      ap (λ (m : Mode). stored s key content m (Some old)) (there refl)
  changes None Insert there few =
      ap (λ b. cond b (Declines Full) (Changes Stored (with_map s (insert s.map key content))))
      (lt-leb s.bounds.limit (len s.map) (few refl))
  changes None Replace there few =
      ap (λ b. cond b (Declines Full) (Changes Stored (with_map s (insert s.map key content))))
      (lt-leb s.bounds.limit (len s.map) (few refl))

-- a delete, by what the key has
pub absent : (s : State) (key : List ℕ) (old : Option (List ℕ)) → is_some old ≡ false
    → deleted s key old ≡ Finds Absent
absent s key None is = refl
absent s key (Some old) is = absurd (let e = is in cc)

pub removes : (s : State) (key : List ℕ) (old : Option (List ℕ)) → is_some old ≡ true
    → deleted s key old ≡ Changes Deleted (with_map s (remove s.map key))
removes s key None is = absurd (let e = is in cc)
removes s key (Some old) is = refl

-- whatever a usable call finds, the device may fail
module _ (h : Handle) (call : Call) (reply : Reply) (after : Handle)
    (fails : Fails h reply after) where
  pub fetch_fails : (old : Option (List ℕ)) → Suffers h call (fetched old) reply after
  fetch_fails None = inl fails
  fetch_fails (Some content) = inl fails

  pub delete_fails : (key : List ℕ) (old : Option (List ℕ))
      → Suffers h call (deleted h.state key old) reply after
  delete_fails key None = inl fails
  delete_fails key (Some content) = inl fails

  pub store_fails : (key content : List ℕ) (mode : Mode) (old : Option (List ℕ))
      → Suffers h call (stored h.state key content mode old) reply after
  store_fails key content Insert (Some old) = inl fails
  store_fails key content Replace (Some old) = inl fails
  store_fails key content Insert None =
      elim (nat_le h.state.bounds.limit (len h.state.map)) as
      (λ b. Suffers h call
      (cond b (Declines Full) (Changes Stored (with_map h.state (insert h.state.map key content))))
      reply after) [
        | true ↦ fails
        | false ↦ inl fails
      ]
  store_fails key content Replace None =
      elim (nat_le h.state.bounds.limit (len h.state.map)) as
      (λ b. Suffers h call
      (cond b (Declines Full) (Changes Stored (with_map h.state (insert h.state.map key content))))
      reply after) [
        | true ↦ fails
        | false ↦ inl fails
      ]

-- a fetch may lack memory
pub fetch_lacks : (h : Handle) (call : Call) (reply : Reply) (after : Handle)
    → LacksMemory h call reply after → (old : Option (List ℕ))
    → Suffers h call (fetched old) reply after
fetch_lacks h call reply after lacks None = inr lacks
fetch_lacks h call reply after lacks (Some content) = inr lacks

-- an upgrade
pub broken_upgrade : (h : Handle) → h.state.usable ≡ false → case_of h Upgrade ≡ Refuses Broken
broken_upgrade h broken = broken_rule h Upgrade broken

pub upgrade_read_only : (h : Handle) → h.state.usable ≡ true → h.state.writable ≡ false
    → case_of h Upgrade ≡ Refuses ReadOnly
upgrade_read_only h usable reads =
    usable_rule h Upgrade usable
    ∙ ap (λ b. cond b (raised h.capacity h.state h.state.bounds.version) (Refuses ReadOnly)) reads

pub upgrade_rule : (h : Handle) → h.state.usable ≡ true → h.state.writable ≡ true
    → case_of h Upgrade ≡ raised h.capacity h.state h.state.bounds.version
upgrade_rule h usable writable =
    usable_rule h Upgrade usable
    ∙ ap (λ b. cond b (raised h.capacity h.state h.state.bounds.version) (Refuses ReadOnly)) writable

pub second_rule : (h : Handle) → h.state.usable ≡ true → h.state.writable ≡ true
    → h.state.bounds.version ≡ V2 → case_of h Upgrade ≡ Tells Upgraded h.state
second_rule h usable writable second =
    upgrade_rule h usable writable ∙ ap (raised h.capacity h.state) second

pub too_small_rule : (h : Handle) → h.state.usable ≡ true → h.state.writable ≡ true
    → h.state.bounds.version ≡ V1 → h.capacity < 2 * home (upgraded h.state.bounds)
    → case_of h Upgrade ≡ Refuses TooSmall
too_small_rule h usable writable first small =
    upgrade_rule h usable writable ∙ ap (raised h.capacity h.state) first
    ∙ ap (λ b. cond b (Refuses TooSmall)
    (Changes Upgraded (record h.state { bounds = upgraded h.state.bounds })))
    (lt-ltb h.capacity (2 * home (upgraded h.state.bounds)) small)

pub raises : (h : Handle) → h.state.usable ≡ true → h.state.writable ≡ true
    → h.state.bounds.version ≡ V1 → 2 * home (upgraded h.state.bounds) ≤ h.capacity
    → case_of h Upgrade ≡ Changes Upgraded (record h.state { bounds = upgraded h.state.bounds })
raises h usable writable first room =
    upgrade_rule h usable writable ∙ ap (raised h.capacity h.state) first
    ∙ ap (λ b. cond b (Refuses TooSmall)
    (Changes Upgraded (record h.state { bounds = upgraded h.state.bounds })))
    (le-ltb h.capacity (2 * home (upgraded h.state.bounds)) room)

-- calls of a pass
pub broken_first : (h : Handle) → h.state.usable ≡ false → case_of h First ≡ Refuses Broken
broken_first h broken = broken_rule h First broken

pub broken_next : (h : Handle) → h.state.usable ≡ false → case_of h Next ≡ Refuses Broken
broken_next h broken = broken_rule h Next broken

pub first_rule : (h : Handle) → h.state.usable ≡ true → case_of h First ≡ Passes Begun
first_rule h usable = usable_rule h First usable

begun_passes : (pass : Pass) → pass ≢ NotBegun → passed pass ≡ Passes pass
begun_passes NotBegun begun = absurd (begun refl)
begun_passes Begun begun = refl
begun_passes (Behind last) begun = refl

pub next_rule : (h : Handle) → h.state.usable ≡ true → h.state.pass ≢ NotBegun
    → case_of h Next ≡ Passes h.state.pass
next_rule h usable begun = usable_rule h Next usable ∙ begun_passes h.state.pass begun

pub no_pass_rule : (h : Handle) → h.state.usable ≡ true → h.state.pass ≡ NotBegun
    → case_of h Next ≡ Refuses NoPass
no_pass_rule h usable off = usable_rule h Next usable ∙ ap passed off

pub passes_fail : (h : Handle) (call : Call) (reply : Reply) (after : Handle) → Fails h reply after
    → (from : Pass) → Suffers h call (Passes from) reply after
passes_fail h call reply after fails from = fails

-- the error number can be asked for and cleared in a broken state too
pub error_rule : (h : Handle) → case_of h Error ≡ Tells (Number (error_number h.state.error)) h.state
error_rule h = elim h.state.usable as
    (λ b. cond b (usable_case h.capacity h.state Error) (broken_case h.capacity h.state Error)
    ≡ Tells (Number (error_number h.state.error)) h.state) [ true ↦ refl | false ↦ refl ]

pub clear_rule : (h : Handle) → case_of h Clear ≡ Tells (Number 0) (record h.state { error = None })
clear_rule h = elim h.state.usable as
    (λ b. cond b (usable_case h.capacity h.state Clear) (broken_case h.capacity h.state Clear)
    ≡ Tells (Number 0) (record h.state { error = None })) [ true ↦ refl | false ↦ refl ]
