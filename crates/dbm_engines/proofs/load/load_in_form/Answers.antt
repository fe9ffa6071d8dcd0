use Rattle.std.proofs.Common.{rules}
use Rattle.dbm_file.proofs.Runs.{no_run}
use Rattle.dbm_engines.proofs.Endings.{why_in}
use Rattle.dbm_engines.proofs.Loading.{not_begun, loads_in, dump_back}
use Rattle.dbm_engines.proofs.load.load_in_form.Goals as goal

pub returns-in_default : goal.returns-in_default
returns-in_default g c =
    let db = c.args.db.now in
    record {
      loads =
          not_begun c.args.form db _ (λ start honest at.
          no_run g.S.PageStore db start at
          (λ x left. g.met.S.PageStore.only_now db.store x honest left));
      why = search rules;
      read = search rules;
      size = search rules;
      dump = search rules;
      faults = search rules;
      goes = search rules;
      memory = search rules;
    }

pub returns : goal.returns
returns g c =
    let loads = loads_in c.args.form c.in-Ok.buffers.form _ _ _ _ c.in-Ok.ensures.0
    c.load_with.ensures.loads in
    record {
      loads = loads;
      why =
          why_in c.args.form c.in-Ok.buffers.form _ _ c.in-Ok.ensures.0 c.load_with.ensures.why;
      read = search rules;
      size = search rules;
      dump = dump_back c.args.form _ _ _ _ loads;
      faults = search rules;
      goes = search rules;
      memory = search rules;
    }
