-- How many pages an opening keeps in memory is no part of what it does with the file.
use Rattle.std.proofs.Common.{◌≡◌, ◌≢◌, ◌&&◌, ◌⊎◌, ◌/◌, ⊎_elim, inl, inr, ℕ, false, Option, Result, Ok, Err, IfOk, IfErr}
use Rattle.dbm_model.specs.Bounds.{Bounds}
use Rattle.dbm_model.specs.Pairs.{Contents}
use Rattle.sect_dev.specs.Device.{Candidates, Image, LeavesOnly, Moment}
use Rattle.sect_dev.specs.declared.device.SectorDev as device
use Rattle.page_io.specs.declared.store.PageStore as store
use Rattle.page_io.specs.Store.{Pages, Settled, blank, file_of, nothing}
use Rattle.redo_area.specs.File.{settled}
use Rattle.redo_area.specs.declared.pager.Pager.{Pager}
use Rattle.page_cache.specs.declared.cached_pages.CachedPages.{CachedPages}
use Rattle.file_opening.specs.Opening.{writes, Makes, EmptiesFile, BeginsEmpty, MayRemain, KeepsMeta, IsOpened, RefusesBy, IsRefusedOpening}
use Rattle.file_opening.specs.declared.open_how.OpenHow.{OpenHow}
use Rattle.dbm_fault.specs.declared.fault.Fault.{Fault}
use Rattle.dbm_fault.specs.declared.fault.Fault.TheVariants.{Broken, Device, Full, Memory, Missing, NoPass, TooLong}
use Rattle.dbm_file.specs.Opened.{IsNewlyOpened}
use Rattle.dbm_file.specs.Named.{OpensFile, RefusesFile}
use Rattle.dbm_file.specs.declared.database.Database.{Database}
use Rattle.dbm_file.specs.declared.named.Refusal.{Refusal}
use Rattle.dbm_tool.specs.Files.{IsOpening}

-- an opening that keeps so many
abbrev pub keeping : OpenHow → Option ℕ → OpenHow
keeping how kept = record how { kept_pages = kept }

weaker : {D X : Type 0} (moment : D → Moment) (left_since : D → ℕ → X → Type 0) (old new : D)
    (P Q : X → Type 0) → ((x : X) → P x → Q x) → LeavesOnly moment left_since old new P
    → LeavesOnly moment left_since old new Q
weaker moment left_since old new P Q to run = record {
  later = run.later;
  until = run.until;
  each = λ x left. to x (run.each x left);
  before = λ t x le left. ⊎_elim (λ was. inl was) (λ is. inr (to x is)) (run.before t x le left);
}

module _ (how : OpenHow) (kept : Option ℕ) (sectors : ℕ) where
  makes : (start : Candidates) → Makes (keeping how kept) sectors start → Makes how sectors start
  makes start m = record { due = m.due; on_blank = m.on_blank }

  empties_file : (file : Pages) → EmptiesFile (keeping how kept) sectors file
      → EmptiesFile how sectors file
  empties_file file e = record {
    asked = e.asked;
    written = e.written;
    allowed = e.allowed;
    opens = e.opens;
    due = e.due;
  }

  begins : (start : Candidates) → BeginsEmpty (keeping how kept) sectors start
      → BeginsEmpty how sectors start
  begins start = ⊎_elim (λ m. inl (makes start m)) (λ e. inr (record {
    file = e.file;
    at_start = e.at_start;
    empties = empties_file e.file e.empties;
  }))

  may_remain : (start : Candidates) (now : Settled)
      → MayRemain (keeping how kept) sectors start now → MayRemain how sectors start now
  may_remain start now = ⊎_elim (λ was. inl was) (λ made. inr (begins start made.0, made.1))

  keeps_meta : (start : Candidates) (meta : _) → KeepsMeta (keeping how kept) sectors start meta
      → KeepsMeta how sectors start meta
  keeps_meta start meta = ⊎_elim
      (λ there. inl (
        there.0,
        there.1,
        ⊎_elim (λ kept. inl kept)
            (λ emptied. inr (empties_file there.0 emptied.0, emptied.1)) there.2,
      ))
      (λ made. inr (makes start made.0, made.1))

  opened : (start : Candidates) (map : Contents) (bounds : Bounds)
      → IsOpened (keeping how kept) sectors start map bounds
      → IsOpened how sectors start map bounds
  opened start map bounds = ⊎_elim (λ stood. inl stood)
      (λ made. inr (begins start made.0, made.1, made.2))

  refuses_by : (found : Settled) (image : Image) (fault : Fault)
      → RefusesBy found (keeping how kept) sectors image fault
      → RefusesBy found how sectors image fault
  refuses_by blank image fault by = by
  refuses_by (file_of pages) image fault by = by
  refuses_by nothing image fault by = by

  refused : (start now : Candidates) (fault : Fault)
      → IsRefusedOpening (keeping how kept) sectors start now fault
      → IsRefusedOpening how sectors start now fault
  refused start now fault r = record {
    image = r.image;
    at_start = r.at_start;
    refuses = ⊎_elim (λ by. inl (refuses_by (settled (sectors / 4) r.image) r.image fault by))
        (λ memory. inr memory) r.refuses;
    left = r.left;
  }

module _ {D : Type 0} (bound : device.Ghosts D) (how : OpenHow) (kept : Option ℕ) where
  opens : {p : store.Ghosts (Pager D bound)} {s : store.Ghosts (CachedPages (Pager D bound) p)}
      (db : Database (CachedPages (Pager D bound) p) s) → OpensFile (keeping how kept) db
      → OpensFile how db
  opens db o =
      let sectors = bound.sectors o.first in
      let start = bound.candidate o.first in
      record {
        first = o.first;
        begins = o.begins;
        size = o.size;
        stands = λ honest stable all.
            let held = o.stands honest stable all in
            (held.0, held.1, held.2, opened how kept sectors start held.0 held.1 held.3);
        opened = λ honest. keeps_meta how kept sectors start _ (o.opened honest);
        any_moment = λ honest. weaker _ _ _ _ _ _ (may_remain how kept sectors start)
            (o.any_moment honest);
      }

  refuses_file : (fault : Fault) → RefusesFile bound (keeping how kept) fault
      → RefusesFile bound how fault
  refuses_file fault r = record {
    first = r.first;
    begins = r.begins;
    size = r.size;
    left = r.left;
    refused = λ honest. ⊎_elim (λ early. inl early)
        (λ late. inr (refused how kept _ _ _ fault late)) (r.refused honest);
  }

  -- what `open_named` tells of an opening that keeps so many
  pub opened_so : {p : store.Ghosts (Pager D bound)}
      {s : store.Ghosts (CachedPages (Pager D bound) p)}
      (result : Result (Database (CachedPages (Pager D bound) p) s) Refusal)
      → IfOk result (IsNewlyOpened (writes how.access) 68250498)
      → IfErr result (λ e. e.fault ≡ Missing → (writes how.access && how.create) ≡ false)
      → IfErr result (λ e. (e.fault ≢ Broken) × (e.fault ≢ TooLong) × (e.fault ≢ Full)
      × (e.fault ≢ NoPass))
      → IfOk result (OpensFile (keeping how kept))
      → IfErr result (λ e. e.fault ≢ Memory → e.fault ≢ Missing → e.fault ≢ Device
      → RefusesFile bound (keeping how kept) e.fault)
      → IsOpening bound how result
  opened_so (Ok db) fresh missing only opening refusal = (opens db opening, fresh)
  opened_so (Err named) fresh missing only opening refusal = record {
    no_call = only;
    missing = missing;
    refused = λ memory absent dev. refuses_file named.fault (refusal memory absent dev);
  }
