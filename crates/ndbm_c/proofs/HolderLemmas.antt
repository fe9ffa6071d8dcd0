-- What a period leaves of the file and of the handles.
use Rattle.std.proofs.Common.{◌≡◌, inl, inr, ℕ, ◌/◌, ◌≤◌, ℤ, pos, zero, suc, Bool, true, false, List, length, Option, Some, refl, sym, ◌∙◌, ap, subst}
use Rattle.std.proofs.lemmas.Bool.{cases_eq}
use Rattle.std.specs.Prelude.{unwrap_or}
use Rattle.dbm_file.specs.Database.{page_state, IsAt}
use Rattle.dbm_file.specs.Opened.{device_below}
use Rattle.dbm_model.specs.Calls.{Call, Store, Fetch, Delete, First, Next, Error, Clear, Upgrade, Fault}
use Rattle.dbm_model.specs.States.{State, Pass, NotBegun, Begun, Behind, Handle}
use Rattle.listed_dev.specs.Listed.{history}
use Rattle.ndbm_c.proofs.Beside.{StandsAs}
use Rattle.ndbm_c.proofs.Readying.{IsReadyAt}
use Rattle.ndbm_c.proofs.Resting.{all_rest}
use Rattle.ndbm_c.proofs.Standing.{FileAmong, Only, stands_alone, same_stands, same_synced}
use Rattle.ndbm_c.proofs.Takings.{IsShortPass, IsHeldAt, IsHolderSound, images_stand}
use Rattle.ndbm_c.specs.Holders.{SharedFile, IsSynced}
use Rattle.ndbm_c.specs.Periods.{IsShortKey, made_of, passed, IsCarriedOut, OthersStay}
use Rattle.ndbm_c.specs.declared.handle.Opened as handle

-- each handle has what the file stands for
abbrev pub AllSound : ℕ → SharedFile → Type 0
AllSound sectors file = (who : ℕ) → IsHolderSound (sectors / 4) (file.holders who)

-- ---- what a period leaves of the file

module _ (sectors : ℕ) (before : SharedFile) (opened : handle.Opened) (after : SharedFile)
    (carried : IsCarriedOut before opened after) where
  pub carried_synced : (b : Bool) → (page_state opened.db).writable ≡ b
      → (page_state opened.db).usable ≡ true → (before.is_left ≡ false → IsSynced before.past)
      → after.is_left ≡ false → IsSynced after.past
  carried_synced true writes usable synced even =
      same_synced after.past (history (device_below opened.db)) carried.carried
      (λ n content beside among. all_rest opened usable writes n content among)
  carried_synced false reads usable synced even =
      same_synced after.past before.past (carried.only_reads reads)
      (synced (sym (carried.reads reads) ∙ even))

  pub carried_stands : (h : Handle) → IsAt opened.db h → (page_state opened.db).usable ≡ true
      → h.capacity ≡ sectors / 4
      → FileAmong sectors after.past (Only h.state.map h.state.bounds)
  carried_stands h at usable size =
      same_stands after.past (history (device_below opened.db)) carried.carried sectors
      (Only h.state.map h.state.bounds)
      (stands_alone sectors (history (device_below opened.db)) h.state.map h.state.bounds
      (images_stand sectors opened h at usable size))

-- ---- the handles

same_some : (a b : handle.Opened) → Some a ≡ Some b → a ≡ b
same_some a b is = ap (λ (o : Option handle.Opened). unwrap_or o a) is

-- the pass of a handle stays as long as one may be
short_first : (status : ℤ) (bytes : List ℕ) (pass : Pass)
    → (status ≡ pos 0 → length bytes ≤ 2026) → IsShortPass pass
    → IsShortPass (passed First status bytes pass)
short_first (pos zero) bytes pass short was key is =
    subst (λ (k : List ℕ). length k ≤ 2026) (key_of bytes key is) (short refl)
  where
    key_of : (bytes key : List ℕ) → Behind bytes ≡ Behind key → bytes ≡ key
    key_of bytes key is = cc is
short_first (pos (suc zero)) bytes pass short was key is = absurd (let x = is in cc)
short_first other bytes pass short was key is = was key is

short_next : (status : ℤ) (bytes : List ℕ) (pass : Pass)
    → (status ≡ pos 0 → length bytes ≤ 2026) → IsShortPass pass
    → IsShortPass (passed Next status bytes pass)
short_next (pos zero) bytes pass short was key is =
    subst (λ (k : List ℕ). length k ≤ 2026) (key_of bytes key is) (short refl)
  where
    key_of : (bytes key : List ℕ) → Behind bytes ≡ Behind key → bytes ≡ key
    key_of bytes key is = cc is
short_next other bytes pass short was key is = was key is

pub short_passed : (call : Call) (status : ℤ) (bytes : List ℕ) (pass : Pass)
    → (status ≡ pos 0 → IsShortKey call bytes) → IsShortPass pass
    → IsShortPass (passed (made_of call pass) status bytes pass)
short_passed First status bytes pass short was = short_first status bytes pass short was
short_passed Next status bytes Begun short was = short_first status bytes Begun short was
short_passed Next status bytes NotBegun short was = short_next status bytes NotBegun short was
short_passed Next status bytes (Behind key) short was =
    short_next status bytes (Behind key) short was
short_passed (Store key content mode) status bytes pass short was = was
short_passed (Fetch key) status bytes pass short was = was
short_passed (Delete key) status bytes pass short was = was
short_passed Error status bytes pass short was = was
short_passed Clear status bytes pass short was = was
short_passed Upgrade status bytes pass short was = was

-- a handle that has this database
pub holds_sound : (pages : ℕ) (s : State) (error : Option Fault) (pass : Pass) (writable : Bool)
    (last : handle.Opened) → IsReadyAt pages s last → StandsAs pass s.pass → IsShortPass pass
    → IsHolderSound pages
    (record { held = Some last; error = error; pass = pass; writable = writable })
holds_sound pages s error pass writable last ready stands short = record {
  short = short;
  held = λ opened is. subst (IsHeldAt pages pass) (same_some last opened is) (record {
    handle = ready.handle;
    is_at = ready.is_at;
    stands = subst (λ (t : State). StandsAs pass t.pass) (sym ready.state) stands;
    size = ready.size;
  });
}

-- one handle has changed
pub others_sound : (sectors who : ℕ) (before after : SharedFile) → AllSound sectors before
    → OthersStay who before after → IsHolderSound (sectors / 4) (after.holders who)
    → AllSound sectors after
others_sound sectors who before after sound others own other = elim (cases_eq other who) [
  | inl same ↦ subst (λ (n : ℕ). IsHolderSound (sectors / 4) (after.holders n)) (sym same) own
  | inr beside ↦ subst (IsHolderSound (sectors / 4)) (sym (others other beside)) (sound other)
]
