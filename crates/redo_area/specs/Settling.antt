-- A pager on the device below it.
use Rattle.std.specs.Prelude.{◌≡◌, ◌<◌, ◌≤◌, ◌+◌, ◌*◌, ◌/◌, ◌^◌, ℕ, Bool, true, [], None, Some}
use Rattle.std.proofs.Common.{refl, sym, ◌∙◌, ap, arith}
use Rattle.sect_dev.specs.Device.{Image, Candidates, IsImageOf, IsStable}
use Rattle.page_io.specs.Page.{page_at}
use Rattle.page_io.specs.Store.{Pages, Settled, file_of, file_pages, overlaid}
use Rattle.commit_log.specs.Log.{IsLogged}
use Rattle.redo_area.specs.declared.area.LogPlace.{LogPlace}
use Rattle.redo_area.specs.declared.area.RedoArea.{RedoArea}
use Rattle.redo_area.specs.Header.{header_of, kind_of}
use Rattle.redo_area.specs.declared.header.Header.{Header}
use Rattle.redo_area.specs.declared.header.Header.TheVariants.{Clear, Logging}
use Rattle.redo_area.specs.File.{settled, settled_by, IsAtRest, HoldsWaiting}

-- the commit sector names a log from page `start` on, whose newest commit has the pages that wait
pub record IsInLog (capacity end start : ℕ) (waiting : Pages) (candidate : Candidates)
    (seen : Image) (log : LogPlace) : Type 0 where
  pub header : header_of capacity (seen 0) ≡ Logging start
  pub logged : IsLogged end start log.number log.at log.beside waiting candidate seen

-- a device of so many pages has room for such a log
pub record HasLogRoom (capacity start : ℕ) (log : LogPlace) : Type 0 where
  pub room : start + 32 ≤ capacity
  pub at : log.at ≤ 4 * start + 64
  pub beside : log.beside ≤ 4 * start + 64

-- all is on the disk; the commit sector is clear where no page waits, else it says those that wait,
-- which stand in the redo area
pub record MayWait (capacity end : ℕ) (area : RedoArea) (waiting : Pages) (candidate : Candidates)
    (seen : Image) : Type 0 where
  pub stable : IsStable candidate seen
  pub kind : kind_of (seen 0) ≡ area.kind
  pub clear : area.held ≡ 0 → (waiting ≡ []) × (header_of capacity (seen 0) ≡ Clear end)
  pub holds : 0 < area.held → HoldsWaiting capacity end area.start area.held waiting candidate seen
  pub logs : (log : LogPlace) → area.log ≡ Some log
      → IsInLog capacity end area.start waiting candidate seen log

-- what a read gives settles to the committed pages, and a writable pager knows its commit sector
pub record SettlesToPages (writable : Bool) (capacity end : ℕ) (area : RedoArea) (waiting : Pages)
    (candidate : Candidates) (seen : Image) : Type 0 where
  pub settles : settled capacity seen ≡ file_of (file_pages (overlaid waiting (page_at seen)) end)
  pub waits : writable ≡ true → MayWait capacity end area waiting candidate seen

-- so it is with a usable pager
abbrev pub SettlesIfUsable : Type 0 → Bool → Bool → ℕ → ℕ → RedoArea → Pages → Candidates → Image
    → Type 0
SettlesIfUsable honest usable writable capacity end area waiting candidate seen =
    honest → usable ≡ true
    → SettlesToPages writable capacity end area waiting candidate seen

-- some image of these settles so
pub record SettlesTo (capacity : ℕ) (candidate : Candidates) (outcome : Settled) : Type 0 where
  pub image : Image
  pub is_image : IsImageOf candidate image
  pub reads : settled capacity image ≡ outcome

-- what is seen at rest settles to its pages
pub seen_settles : (capacity end : ℕ) (candidate : Candidates) (seen : Image)
    → IsAtRest capacity end candidate seen
    → settled capacity seen ≡ file_of (file_pages (page_at seen) end)
unfolding settled
seen_settles capacity end candidate seen rest = ap (λ (h : Header). settled_by h seen) rest.header

none_some : {log : LogPlace} → None ≡ Some log → ⊥
none_some is = cc

-- a pager at rest, where no page waits
pub rests_at : (writable : Bool) (capacity end : ℕ) (area : RedoArea) (waiting : Pages)
    (candidate : Candidates) (seen : Image) → area.held ≡ 0 → area.log ≡ None → waiting ≡ []
    → IsAtRest capacity end candidate seen → (writable ≡ true → kind_of (seen 0) ≡ area.kind)
    → SettlesToPages writable capacity end area waiting candidate seen
rests_at writable capacity end area waiting candidate seen zero no_log none rest kind = record {
  settles = seen_settles capacity end candidate seen rest
      ∙ ap (λ (ps : Pages). file_of (file_pages (overlaid ps (page_at seen)) end)) (sym none);
  waits = λ is. record {
    stable = rest.stable;
    kind = kind is;
    clear = λ _. (none, rest.header);
    holds = λ some. absurd (omega (arith, some, zero));
    logs = λ log is. absurd (none_some (sym no_log ∙ is));
  };
}

-- a pager whose pages wait
pub waits_at : (writable : Bool) (capacity end : ℕ) (area : RedoArea) (waiting : Pages)
    (candidate : Candidates) (seen : Image) → 0 < area.held
    → HoldsWaiting capacity end area.start area.held waiting candidate seen
    → kind_of (seen 0) ≡ area.kind
    → ((log : LogPlace) → area.log ≡ Some log
    → IsInLog capacity end area.start waiting candidate seen log)
    → SettlesToPages writable capacity end area waiting candidate seen
waits_at writable capacity end area waiting candidate seen some holds kind logs = record {
  settles = holds.settles seen (λ m out is. refl);
  waits = λ is. record {
    stable = holds.stable;
    kind = kind;
    clear = λ none. absurd (omega (arith, some, none));
    holds = λ more. holds;
    logs = logs;
  };
}

-- what is known of one that may write is known of one that only reads
pub for_all_access : {capacity end : ℕ} {area : RedoArea} {waiting : Pages}
    {candidate : Candidates} {seen : Image} (writable : Bool)
    → SettlesToPages true capacity end area waiting candidate seen
    → SettlesToPages writable capacity end area waiting candidate seen
for_all_access writable is = record { settles = is.settles; waits = λ _. is.waits refl }

-- where all is stable, there is one outcome
pub only_seen : (capacity : ℕ) (candidate : Candidates) (seen : Image) (outcome now : Settled)
    → IsStable candidate seen → settled capacity seen ≡ now → SettlesTo capacity candidate outcome
    → outcome ≡ now
only_seen capacity candidate seen outcome now stable is s =
    let same : s.image ≡ seen = λ i m. stable m (s.image m) (s.is_image m) i in
    sym s.reads ∙ ap (settled capacity) same ∙ is

-- a number of pages is below the number of their sectors
pub quarter_fits : (n : ℕ) → n < 2 ^ 32 → n / 4 < 2 ^ 32
quarter_fits n lt = omega (arith, lt)
