use Rattle.std.proofs.Common.{◌≡◌, ◌≢◌, ◌≤◌, ◌/◌, ℕ, Bool, cond, List, [], Err, Some, ◌∙◌, refl, sym, ap, subst}
use Rattle.std.proofs.lemmas.Result.{IfOk-from_err}
use Rattle.sect_dev.specs.Device.{Image}
use Rattle.page_io.specs.Page.{page_at}
use Rattle.page_io.specs.Store.{bytes_of, file_of, file_pages, overlaid, are_in_order}
use Rattle.commit_log.specs.Log.{settled_at}
use Rattle.page_io.proofs.Exits.{exit_is, came, if_exit, no_err, later_then, more_later, both_ways}
use Rattle.page_io.specs.declared.page.Page.{Page}
use Rattle.redo_area.specs.File.{redo_images}
use Rattle.redo_area.specs.Header.{kind_of}
use Rattle.redo_area.specs.declared.header.CommitKind.TheVariants.{Images, Log}
use Rattle.redo_area.specs.Opening.{refusal_of}
use Rattle.redo_area.specs.declared.open_fault.OpenFault.{OpenFault}
use Rattle.redo_area.specs.declared.open_fault.OpenFault.TheVariants.{Memory, Device, Blank, NotOurs, Damaged}
use Rattle.redo_area.proofs.Openings.{below_room, says_armed, found-clear, found-armed, refused-blank, refused-not_ours, refused-damaged, refused-armed, found-logging, refused-logging}
use Rattle.commit_log.proofs.ReadRuns.{sector_read, more_reads}
use Rattle.redo_area.proofs.Results.{from_test, fault_from_test, other_fault, ok_then, err_then}
use Rattle.redo_area.proofs.reading.read_file.Goals as goal

-- the sector is not read
pub returns-then-is_err : goal.returns-then-is_err
returns-then-is_err g c =
    let told = c.read.ensures in
    record {
      found = λ honest. tt;
      end = tt;
      kind = λ honest. tt;
      rising = tt;
      refused = λ honest device memory. absurd (device refl);
      memory = λ honest is. other_fault Device Memory refl is;
      only_reads = λ honest. sector_read g.D.SectorDev c.args.dev.now c.read.new.self
          (λ image left. g.met.D.SectorDev.only_now c.args.dev.now image honest left)
          (told.seen honest) (told.candidates honest) (told.keeps honest) told.still (told.time honest);
      later = told.cause.later;
      cause = λ is. fault_from_test c.read.result c.is_err.ensures.value c.if-is_err.true
          told.cause.fault;
      honesty = told.honesty;
      size = told.size;
    }

-- all zeros
pub returns-in-Blank : goal.returns-in-Blank
returns-in-Blank g c =
    let told = c.read.ensures in
    record {
      found = λ honest. tt;
      end = tt;
      kind = λ honest. tt;
      rising = tt;
      refused = λ honest device memory.
          let read = from_test c.read.result c.is_err.ensures.value c.if-is_err.false
          (told.read honest) in
          refused-blank (g.D.SectorDev.seen c.args.dev.now) c.capacity-capacity.ensures read
          c.in-Blank.ensures.said;
      memory = λ honest is. other_fault Blank Memory refl is;
      only_reads = λ honest. sector_read g.D.SectorDev c.args.dev.now c.read.new.self
          (λ image left. g.met.D.SectorDev.only_now c.args.dev.now image honest left)
          (told.seen honest) (told.candidates honest) (told.keeps honest) told.still (told.time honest);
      later = told.cause.later;
      cause = λ is. other_fault Blank Device refl is;
      honesty = told.honesty;
      size = told.size;
    }

-- another magic
pub returns-in-NotOurs : goal.returns-in-NotOurs
returns-in-NotOurs g c =
    let told = c.read.ensures in
    record {
      found = λ honest. tt;
      end = tt;
      kind = λ honest. tt;
      rising = tt;
      refused = λ honest device memory.
          let read = from_test c.read.result c.is_err.ensures.value c.if-is_err.false
          (told.read honest) in
          refused-not_ours (g.D.SectorDev.seen c.args.dev.now) c.capacity-capacity.ensures read
          c.in-NotOurs.ensures.said c.in-NotOurs.ensures.ours;
      memory = λ honest is. other_fault NotOurs Memory refl is;
      only_reads = λ honest. sector_read g.D.SectorDev c.args.dev.now c.read.new.self
          (λ image left. g.met.D.SectorDev.only_now c.args.dev.now image honest left)
          (told.seen honest) (told.candidates honest) (told.keeps honest) told.still (told.time honest);
      later = told.cause.later;
      cause = λ is. other_fault NotOurs Device refl is;
      honesty = told.honesty;
      size = told.size;
    }

-- no header
pub returns-in-Damaged : goal.returns-in-Damaged
returns-in-Damaged g c =
    let told = c.read.ensures in
    record {
      found = λ honest. tt;
      end = tt;
      kind = λ honest. tt;
      rising = tt;
      refused = λ honest device memory.
          let read = from_test c.read.result c.is_err.ensures.value c.if-is_err.false
          (told.read honest) in
          refused-damaged (g.D.SectorDev.seen c.args.dev.now) c.capacity-capacity.ensures read
          c.in-Damaged.ensures.said c.in-Damaged.ensures.ours;
      memory = λ honest is. other_fault Damaged Memory refl is;
      only_reads = λ honest. sector_read g.D.SectorDev c.args.dev.now c.read.new.self
          (λ image left. g.met.D.SectorDev.only_now c.args.dev.now image honest left)
          (told.seen honest) (told.candidates honest) (told.keeps honest) told.still (told.time honest);
      later = told.cause.later;
      cause = λ is. other_fault Damaged Device refl is;
      honesty = told.honesty;
      size = told.size;
    }

-- no commit to end
pub returns-in-Clear : goal.returns-in-Clear
returns-in-Clear g c =
    let told = c.read.ensures in
    let clear = c.in-Clear in
    let seen = g.D.SectorDev.seen c.args.dev.now in
    record {
      found = λ honest.
          let read = from_test c.read.result c.is_err.ensures.value c.if-is_err.false
          (told.read honest) in
          let none : c.new.result.items ≡ [] = c.new.ensures.items in
          found-clear seen c.capacity-capacity.ensures read clear.end (bytes_of c.new.result.items)
          clear.ensures.said (ap bytes_of none);
      end = (
        clear.ensures.in_range.0,
        subst (λ (k : ℕ). clear.end ≤ k / 4)
            c.capacity-capacity.ensures clear.ensures.in_range.1,
      );
      kind = λ honest.
          c.kind_of-kind.ensures ∙ ap kind_of
          (from_test c.read.result c.is_err.ensures.value c.if-is_err.false (told.read honest));
      rising =
          let none : c.new.result.items ≡ [] = c.new.ensures.items in
          ap (λ (ps : List Page). are_in_order 1 clear.end (bytes_of ps)) none;
      refused = λ honest. tt;
      memory = λ honest is. no_err _ _ is;
      only_reads = λ honest. sector_read g.D.SectorDev c.args.dev.now c.read.new.self
          (λ image left. g.met.D.SectorDev.only_now c.args.dev.now image honest left)
          (told.seen honest) (told.candidates honest) (told.keeps honest) told.still (told.time honest);
      later = told.cause.later;
      cause = λ is. no_err _ _ is;
      honesty = told.honesty;
      size = told.size;
    }

-- the redo images are read
pub returns-in_ok-redo-in-Armed : goal.returns-in_ok-redo-in-Armed
returns-in_ok-redo-in-Armed g c =
    let dev = g.D.SectorDev in
    let first = c.args.dev.now in
    let armed = c.in-Armed in
    let redo = c.in_ok-redo-in-Armed in
    let told = c.read.ensures in
    let more = redo.ensures in
    let range = armed.ensures.in_range in
    record {
      found = λ honest.
          let read = from_test c.read.result c.is_err.ensures.value c.if-is_err.false
          (told.read honest) in
          let h1 = told.honesty.1 honest in
          let as_seen = told.seen honest in
          found-armed (dev.seen first) c.capacity-capacity.ensures read armed.end armed.start
          armed.count (bytes_of redo.redo.items) armed.ensures.said
          (more.images h1 ∙ ap (λ (s : Image). redo_images s armed.start armed.count) as_seen)
          (ap (λ (s : Image). are_in_order 1 armed.end (redo_images s armed.start armed.count))
          (sym as_seen) ∙ more.in_order h1);
      end = (
        range.0,
        subst (λ (k : ℕ). armed.end ≤ k / 4) c.capacity-capacity.ensures
            (below_room _ _ _ _ range.1 range.2),
      );
      kind = λ honest.
          c.kind_of-kind.ensures ∙ ap kind_of
          (from_test c.read.result c.is_err.ensures.value c.if-is_err.false (told.read honest));
      rising = more.rising;
      refused = λ honest. tt;
      memory = λ honest is. no_err _ _ is;
      only_reads = λ honest.
          more_reads dev first c.read.new.self c.read_images.new.dev
          (sector_read dev first c.read.new.self
          (λ image left. g.met.D.SectorDev.only_now first image honest left)
          (told.seen honest) (told.candidates honest) (told.keeps honest) told.still (told.time honest))
          (more.only_reads (told.honesty.1 honest));
      later = later_then _ _ _ told.cause.later more.later;
      cause = λ is. no_err _ _ is;
      honesty = both_ways more.honesty told.honesty;
      size = more.size ∙ told.size;
    }

-- or they are not
pub returns-in_err-redo-in-Armed : goal.returns-in_err-redo-in-Armed
returns-in_err-redo-in-Armed g c =
    let dev = g.D.SectorDev in
    let first = c.args.dev.now in
    let armed = c.in-Armed in
    let fault = c.in_err-redo-in-Armed in
    let told = c.read.ensures in
    let more = fault.ensures in
    let result = c.from_residual in
    let exit = exit_is result.result fault.field-0.0 result.ensures.1 in
    record {
      found = λ honest. IfOk-from_err _ _ result.ensures.0;
      end = IfOk-from_err _ _ result.ensures.0;
      kind = λ honest. IfOk-from_err _ _ result.ensures.0;
      rising = IfOk-from_err _ _ result.ensures.0;
      refused = λ honest.
          let read = from_test c.read.result c.is_err.ensures.value c.if-is_err.false
          (told.read honest) in
          if_exit (λ (e : OpenFault). e ≢ Device → e ≢ Memory → refusal_of (dev.sectors first / 4)
          (dev.seen first) ≡ Some e) _ _ exit
          (refused-armed (dev.seen first) c.capacity-capacity.ensures read fault.field-0.0
          armed.end armed.start armed.count
          armed.ensures.said armed.ensures.ours more.only
          (λ is. ap
          (λ (s : Image). are_in_order 1 armed.end (redo_images s armed.start armed.count))
          (sym (told.seen honest))
          ∙ more.damaged (told.honesty.1 honest) (ap Err is)));
      memory = λ honest is.
          let read = from_test c.read.result c.is_err.ensures.value c.if-is_err.false
          (told.read honest) in
          says_armed (dev.seen first) c.capacity-capacity.ensures read armed.end armed.start
          armed.count armed.ensures.said;
      only_reads = λ honest.
          more_reads dev first c.read.new.self c.read_images.new.dev
          (sector_read dev first c.read.new.self
          (λ image left. g.met.D.SectorDev.only_now first image honest left)
          (told.seen honest) (told.candidates honest) (told.keeps honest) told.still (told.time honest))
          (more.only_reads (told.honesty.1 honest));
      later = later_then _ _ _ told.cause.later more.later;
      cause = λ is. more_later _ _ _ told.cause.later (more.cause (came _ _ exit Device is));
      honesty = both_ways more.honesty told.honesty;
      size = more.size ∙ told.size;
    }

-- a log is read
pub returns-in-Logging-clause-found : goal.returns-in-Logging-clause-found
returns-in-Logging-clause-found g c honest =
    let dev = g.D.SectorDev in
    let first = c.args.dev.now in
    let told = c.read.ensures in
    let read = from_test c.read.result c.is_err.ensures.value c.if-is_err.false
    (told.read honest) in
    ok_then _ _ c.read_log.result (c.read_log.ensures.found (told.honesty.1 honest))
    (λ file is. found-logging (dev.seen first) c.capacity-capacity.ensures read file.end
    c.in-Logging.start (bytes_of file.redo.items) c.in-Logging.ensures.said
    (subst (λ (s : Image). settled_at s c.in-Logging.start
    ≡ file_of (file_pages (overlaid (bytes_of file.redo.items) (page_at s)) file.end))
    (told.seen honest) is))

pub returns-in-Logging-clause-refused : goal.returns-in-Logging-clause-refused
returns-in-Logging-clause-refused g c honest =
    let dev = g.D.SectorDev in
    let first = c.args.dev.now in
    let told = c.read.ensures in
    let read = from_test c.read.result c.is_err.ensures.value c.if-is_err.false
    (told.read honest) in
    err_then _ _ c.read_log.result c.read_log.ensures.only
    (λ fault is only. refused-logging (dev.seen first) c.capacity-capacity.ensures read fault
    c.in-Logging.start c.in-Logging.ensures.said c.in-Logging.ensures.ours only
    (λ same. ap (λ (s : Image). settled_at s c.in-Logging.start) (sym (told.seen honest))
    ∙ c.read_log.ensures.damaged (told.honesty.1 honest) (is ∙ ap Err same)))

pub returns-in-Logging-clause-kind : goal.returns-in-Logging-clause-kind
returns-in-Logging-clause-kind g c honest =
    let read = from_test c.read.result c.is_err.ensures.value c.if-is_err.false
    (c.read.ensures.read honest) in
    ok_then _ _ c.read_log.result c.read_log.ensures.kind
    (λ file is. is ∙ sym (ap kind_of (sym read)
    ∙ ap (λ (b : Bool). cond b Log Images) c.in-Logging.ensures.log))
