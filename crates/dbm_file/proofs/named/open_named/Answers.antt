use Rattle.std.proofs.Common.{ℕ, ◌/◌, Bool, ◌&&◌, ap, subst, sym, ◌∙◌, arith, rules}
use Rattle.dbm_fault.specs.declared.fault.Fault.{Fault}
use Rattle.dbm_file.specs.Named.{RefusesFile}
use Rattle.sect_dev.specs.contracts.file_dev.FileDevSectorDev.TheImpl.{ghosts as FileDevGhosts}
use Rattle.dbm_file.proofs.EnoughRoom.{file_has_room}
use Rattle.dbm_file.proofs.OpenedFiles.{refuses_file}
use Rattle.dbm_file.proofs.named.open_named.Goals as goal

pub returns-in-Ok-open_again-clause-opens : goal.returns-in-Ok-open_again-clause-opens
returns-in-Ok-open_again-clause-opens g c = record {
  first = c.in-Ok-open_path.dev;
  begins = c.in-Ok-open_path.ensures.begins;
  size = c.in-Ok-open_path.ensures.size;
  stands = λ honest one stand. c.in-Ok-open_again.ensures.stands honest one stand;
  opened = λ honest. c.in-Ok-open_again.ensures.opened honest;
  any_moment = λ honest. c.in-Ok-open_again.ensures.any_moment honest;
}

pub returns-in-Err-Missing-clause-missing : goal.returns-in-Err-Missing-clause-missing
returns-in-Err-Missing-clause-missing g c _ =
    ap (λ (writes_so : Bool). writes_so && c.args.how.create) (sym c.is_writable-writable.ensures)
    ∙ c.in-Err-Missing.ensures.missing c.in-Err-Missing.field-0-is

-- the refusal has the fault of the opening
pub returns-in-Ok-open_path-clause-refused : goal.returns-in-Ok-open_path-clause-refused
returns-in-Ok-open_path-clause-refused g c memory missing other =
    let told = c.in-Err.ensures in
    let same = c.refused_by.ensures.fault in
    subst (λ (fault : Fault). RefusesFile FileDevGhosts c.args.how fault) (sym same)
    (refuses_file _ FileDevGhosts c.args.how c.in-Ok-open_path.dev c.in-Err.dev c.in-Err.fault
    c.in-Ok-open_path.ensures.begins c.in-Ok-open_path.ensures.size told.early
    (λ honest none. told.refused honest none (λ is. other (same ∙ is))))

-- a device that failed has counted it
pub returns-in-Ok-open_path-clause-told : goal.returns-in-Ok-open_path-clause-told
returns-in-Ok-open_path-clause-told g c device =
    c.refused_by.ensures.system
    (omega (arith, c.in-Err.ensures.device (sym c.refused_by.ensures.fault ∙ device)))

pub returns-in-Ok-open_again-clause-room : goal.returns-in-Ok-open_again-clause-room
returns-in-Ok-open_again-clause-room g c =
    let db = c.in-Ok-open_again.db in
    file_has_room db db.valid (c.in-Ok-open_again.ensures.fresh.capacity
    ∙ ap (λ (n : ℕ). n / 4) c.in-Ok-open_path.ensures.size)

pub returns-in-Ok-open_again-clause-fresh : goal.returns-in-Ok-open_again-clause-fresh
returns-in-Ok-open_again-clause-fresh g c = search rules
