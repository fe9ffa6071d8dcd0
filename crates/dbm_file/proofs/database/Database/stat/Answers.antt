use Rattle.std.proofs.Common.{rules, arith}
use Rattle.dbm_file.proofs.OpenedFiles.{counts_pairs, few_pages}
use Rattle.dbm_file.proofs.database.Database.stat.Goals as goal

pub returns-clause-counts : goal.returns-clause-counts
returns-clause-counts g c h at usable = counts_pairs g.S.PageStore c.args.self.now h at usable

pub returns-clause-bounded : goal.returns-clause-bounded
returns-clause-bounded g c h at usable =
    let ends = g.met.S.PageStore.ends c.args.self.now.store in
    omega (arith, few_pages g.S.PageStore c.args.self.now h at usable ends, c.end.ensures)

pub returns-clause-shown : goal.returns-clause-shown
returns-clause-shown g c = search rules
