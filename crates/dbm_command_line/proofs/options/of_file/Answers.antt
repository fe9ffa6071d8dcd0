use Rattle.clap.specs.Words.{found_of, rows_of}
use Rattle.dbm_command_line.specs.Asking.{Asks}
use Rattle.dbm_command_line.proofs.Naming.{if_none}
use Rattle.dbm_command_line.proofs.options.of_file.Goals as goal

pub returns-in_err-file : goal.returns-in_err-file
returns-in_err-file c = if_none c.from_residual.result
    (Asks c.args.name.now (rows_of (found_of c.args.options.now))) c.from_residual.ensures

pub returns-in_err-number-in-create : goal.returns-in_err-number-in-create
returns-in_err-number-in-create c =
    if_none c.from_residual-in_err-number-in-create.result
    (Asks c.args.name.now (rows_of (found_of c.args.options.now)))
    c.from_residual-in_err-number-in-create.ensures

pub returns-in_err-version-in-create : goal.returns-in_err-version-in-create
returns-in_err-version-in-create c =
    if_none c.from_residual-in_err-version-in-create.result
    (Asks c.args.name.now (rows_of (found_of c.args.options.now)))
    c.from_residual-in_err-version-in-create.ensures

pub returns-in_err-new_commits-in-create : goal.returns-in_err-new_commits-in-create
returns-in_err-new_commits-in-create c =
    if_none c.from_residual-in_err-new_commits-in-create.result
    (Asks c.args.name.now (rows_of (found_of c.args.options.now)))
    c.from_residual-in_err-new_commits-in-create.ensures

pub returns-in_ok-new_commits-in-create : goal.returns-in_ok-new_commits-in-create
returns-in_ok-new_commits-in-create c = (
  c.in-create.is,
  c.in_ok-file.ensures,
  c.in_ok-number-in-create.ensures,
  c.in_ok-version-in-create.ensures,
  c.in_ok-new_commits-in-create.ensures,
)

pub returns-in_err-form-in-list : goal.returns-in_err-form-in-list
returns-in_err-form-in-list c =
    if_none c.from_residual-in_err-form-in-list.result
    (Asks c.args.name.now (rows_of (found_of c.args.options.now)))
    c.from_residual-in_err-form-in-list.ensures

pub returns-in_ok-form-in-list : goal.returns-in_ok-form-in-list
returns-in_ok-form-in-list c =
    (c.in-list.is, record { file = c.in_ok-file.ensures; flag = c.in_ok-form-in-list.ensures })

pub returns-in_err-form-in-dump : goal.returns-in_err-form-in-dump
returns-in_err-form-in-dump c =
    if_none c.from_residual-in_err-form-in-dump.result
    (Asks c.args.name.now (rows_of (found_of c.args.options.now)))
    c.from_residual-in_err-form-in-dump.ensures

pub returns-in_ok-form-in-dump : goal.returns-in_ok-form-in-dump
returns-in_ok-form-in-dump c =
    (c.in-dump.is, record { file = c.in_ok-file.ensures; flag = c.in_ok-form-in-dump.ensures })

pub returns-in-stat : goal.returns-in-stat
returns-in-stat c = (c.in-stat.is, c.in_ok-file.ensures)

pub returns-in-verify : goal.returns-in-verify
returns-in-verify c = (c.in-verify.is, c.in_ok-file.ensures)

pub returns-in-version : goal.returns-in-version
returns-in-version c = (c.in-version.is, c.in_ok-file.ensures)

pub returns-in_err-upgrade-in-upgrade : goal.returns-in_err-upgrade-in-upgrade
returns-in_err-upgrade-in-upgrade c =
    if_none c.from_residual-in_err-upgrade-in-upgrade.result
    (Asks c.args.name.now (rows_of (found_of c.args.options.now)))
    c.from_residual-in_err-upgrade-in-upgrade.ensures

pub returns-in_ok-upgrade-in-upgrade : goal.returns-in_ok-upgrade-in-upgrade
returns-in_ok-upgrade-in-upgrade c =
    (c.in-upgrade.is, c.in_ok-file.ensures, c.in_ok-upgrade-in-upgrade.ensures)

pub returns-in_err-optional-in-resize : goal.returns-in_err-optional-in-resize
returns-in_err-optional-in-resize c =
    if_none c.from_residual-in_err-optional-in-resize.result
    (Asks c.args.name.now (rows_of (found_of c.args.options.now)))
    c.from_residual-in_err-optional-in-resize.ensures

pub returns-in_ok-optional-in-resize : goal.returns-in_ok-optional-in-resize
returns-in_ok-optional-in-resize c =
    (c.in-resize.is, c.in_ok-file.ensures, c.in_ok-optional-in-resize.ensures)

pub returns-in_err-text-in-backup : goal.returns-in_err-text-in-backup
returns-in_err-text-in-backup c =
    if_none c.from_residual-in_err-text-in-backup.result
    (Asks c.args.name.now (rows_of (found_of c.args.options.now)))
    c.from_residual-in_err-text-in-backup.ensures

pub returns-in_ok-text-in-backup : goal.returns-in_ok-text-in-backup
returns-in_ok-text-in-backup c =
    (c.in-backup.is, c.in_ok-file.ensures, c.in_ok-text-in-backup.ensures)

pub returns-in-salvage : goal.returns-in-salvage
returns-in-salvage c = (c.in-salvage.is, c.in_ok-file.ensures)

pub returns-in_default : goal.returns-in_default
returns-in_default c = c.of_key.ensures
