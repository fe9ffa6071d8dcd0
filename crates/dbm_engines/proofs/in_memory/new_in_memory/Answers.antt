use Rattle.std.proofs.Common.{inl, true, false, None, refl, sym, subst, arith}
use Rattle.dbm_engines.specs.Scripts.{asked}
use Rattle.dbm_file.specs.Opened.{IsOpenedAt}
use Rattle.file_opening.specs.Opening.{Allows}
use Rattle.file_opening.specs.declared.open_how.Access.TheVariants.{ReadWrite}
use Rattle.file_opening.specs.declared.open_how.OpenHow.{OpenHow}
use Rattle.redo_area.specs.declared.header.CommitKind.TheVariants.{Images}
use Rattle.dbm_engines.proofs.Rooms.{enough, makes_room, large_enough, blank_there, opened_new, only_device}
use Rattle.dbm_engines.proofs.in_memory.new_in_memory.Goals as goal

pub returns-in-Ok-clause-fresh : goal.returns-in-Ok-clause-fresh
returns-in-Ok-clause-fresh c =
    let how : OpenHow = record {
      access = ReadWrite;
      create = true;
      exclusive = false;
      truncate =
          false;
      limit = c.args.limit;
      version = c.args.version;
      commits = Images;
      kept_pages = None;
    } in
    let found = c.in-Ok.ensures.stands tt (λ reads. absurd (cc))
    (λ image is. inl (blank_there _ _ c.new.ensures.stable image is)) in
    let new = opened_new how _ _ found.0 found.1 (blank_there _ _ c.new.ensures.stable) found.3 in
    subst (λ map. IsOpenedAt true c.in-Ok.db map (asked c.args.limit c.args.version)) new.0
    (subst (IsOpenedAt true c.in-Ok.db found.0) new.1 found.2)

pub returns-clause-only : goal.returns-clause-only
returns-clause-only c allowed =
    let how : OpenHow = record {
      access = ReadWrite;
      create = true;
      exclusive = false;
      truncate =
          false;
      limit = c.args.limit;
      version = c.args.version;
      commits = Images;
      kept_pages = None;
    } in
    let blank = blank_there _ _ c.new.ensures.stable in
    let room = makes_room how c.in-Some.sectors _ refl refl c.in-Some.ensures c.new.ensures.size in
    only_device (c.in-Err.ensures.opens tt
    (large_enough _ (omega (
      arith,
      enough (asked c.args.limit c.args.version) c.in-Some.sectors c.in-Some.ensures,
      c.new.ensures.size,
    ))) (λ image is. inl (blank image is))
    (λ image is. subst (Allows how _) (sym (blank image is)) room))

pub returns-in-Ok-clause-room : goal.returns-in-Ok-clause-room
returns-in-Ok-clause-room c =
    (c.in-Ok.ensures.room tt (λ image is. inl (blank_there _ _ c.new.ensures.stable image is))).1
