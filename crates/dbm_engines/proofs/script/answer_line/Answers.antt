use Rattle.std.proofs.Common.{rules}
use Rattle.dbm_engines.proofs.script.answer_line.Goals as goal

pub returns-in-Bad-clause-line : goal.returns-in-Bad-clause-line
returns-in-Bad-clause-line g c = search rules

pub returns-in-Store-clause-line : goal.returns-in-Store-clause-line
returns-in-Store-clause-line g c =
    let line = c.answer_store.ensures.line c.args.buffers.now.form in search rules

pub returns-in-Store-clause-tells : goal.returns-in-Store-clause-tells
returns-in-Store-clause-tells g c =
    let tells = c.answer_store.ensures.tells c.args.buffers.now.form in search rules

pub returns-in-Insert-clause-line : goal.returns-in-Insert-clause-line
returns-in-Insert-clause-line g c =
    let line = c.answer_store-in-Insert.ensures.line c.args.buffers.now.form in search rules

pub returns-in-Insert-clause-tells : goal.returns-in-Insert-clause-tells
returns-in-Insert-clause-tells g c =
    let tells = c.answer_store-in-Insert.ensures.tells c.args.buffers.now.form in search rules

pub returns-in-Delete-clause-line : goal.returns-in-Delete-clause-line
returns-in-Delete-clause-line g c =
    let line = c.answer_delete.ensures.line c.args.buffers.now.form in search rules

pub returns-in-Delete-clause-tells : goal.returns-in-Delete-clause-tells
returns-in-Delete-clause-tells g c =
    let tells = c.answer_delete.ensures.tells c.args.buffers.now.form in search rules
