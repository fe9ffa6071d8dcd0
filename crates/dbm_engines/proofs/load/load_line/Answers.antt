use Rattle.std.proofs.Common.{◌∙◌, Some, sym}
use Rattle.dbm_lines.specs.Forms.{is_passed_in, pair_in}
use Rattle.dbm_engines.proofs.Loading.{alone_line}
use Rattle.dbm_engines.proofs.load.load_line.Goals as goal

pub returns-clause-line : goal.returns-clause-line
returns-clause-line g c =
    let buffers = c.args.buffers.now in
    alone_line (is_passed_in buffers.form buffers.line.items)
    (pair_in buffers.form buffers.line.items) c.deref.result.now c.deref-2.result.now
    c.args.number c.store_alone.result c.args.db.now c.store_alone.new.db
    (sym c.is_passed_over.ensures ∙ c.if-is_passed_over.false)
    ((λ i. Some (c.deref.ensures.value i, c.deref-2.ensures.value i))
    ∙ c.if-not-pair.ensures.pair) c.store_alone.ensures.stores
