use Rattle.clap.specs.Words.{found_of, rows_of}
use Rattle.dbm_command_line.specs.Asking.{Asks}
use Rattle.dbm_command_line.proofs.Naming.{if_none}
use Rattle.dbm_command_line.proofs.options.of_key.Goals as goal

pub returns-in_err-file : goal.returns-in_err-file
returns-in_err-file c = if_none c.from_residual.result
    (Asks c.args.name.now (rows_of (found_of c.args.options.now))) c.from_residual.ensures

pub returns-in_err-key : goal.returns-in_err-key
returns-in_err-key c = if_none c.from_residual-in_err-key.result
    (Asks c.args.name.now (rows_of (found_of c.args.options.now)))
    c.from_residual-in_err-key.ensures

pub returns-in_err-spelling : goal.returns-in_err-spelling
returns-in_err-spelling c = if_none c.from_residual-in_err-spelling.result
    (Asks c.args.name.now (rows_of (found_of c.args.options.now)))
    c.from_residual-in_err-spelling.ensures

pub returns-in_err-text-in-store : goal.returns-in_err-text-in-store
returns-in_err-text-in-store c =
    if_none c.from_residual-in_err-text-in-store.result
    (Asks c.args.name.now (rows_of (found_of c.args.options.now)))
    c.from_residual-in_err-text-in-store.ensures

pub returns-in_err-text-in-insert : goal.returns-in_err-text-in-insert
returns-in_err-text-in-insert c =
    if_none c.from_residual-in_err-text-in-insert.result
    (Asks c.args.name.now (rows_of (found_of c.args.options.now)))
    c.from_residual-in_err-text-in-insert.ensures

pub returns-in_ok-text-in-store : goal.returns-in_ok-text-in-store
returns-in_ok-text-in-store c = (
  c.in-store.is,
  record {
    key =
        record {
          file = c.in_ok-file.ensures;
          key = c.in_ok-key.ensures;
          flag =
              c.in_ok-spelling.ensures;
        };
    content = c.in_ok-text-in-store.ensures;
  },
)

pub returns-in_ok-text-in-insert : goal.returns-in_ok-text-in-insert
returns-in_ok-text-in-insert c = (
  c.in-insert.is,
  record {
    key =
        record {
          file = c.in_ok-file.ensures;
          key = c.in_ok-key.ensures;
          flag =
              c.in_ok-spelling.ensures;
        };
    content = c.in_ok-text-in-insert.ensures;
  },
)

pub returns-in-fetch : goal.returns-in-fetch
returns-in-fetch c = (
  c.in-fetch.is,
  record {
    file = c.in_ok-file.ensures;
    key = c.in_ok-key.ensures;
    flag =
        c.in_ok-spelling.ensures;
  },
)

pub returns-in-delete : goal.returns-in-delete
returns-in-delete c = (
  c.in-delete.is,
  record {
    file = c.in_ok-file.ensures;
    key = c.in_ok-key.ensures;
    flag =
        c.in_ok-spelling.ensures;
  },
)
