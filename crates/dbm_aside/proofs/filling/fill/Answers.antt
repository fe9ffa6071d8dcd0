use Rattle.std.proofs.Common.{subst, sym}
use Rattle.dbm_lines.specs.Forms.{dump_in}
use Rattle.dbm_lines.specs.declared.forms.TextForm.{TextForm}
use Rattle.dbm_engines.specs.Loading.{IsLoad}
use Rattle.dbm_aside.proofs.filling.fill.Goals as goal

pub returns-in-Hexadecimal : goal.returns-in-Hexadecimal
returns-in-Hexadecimal g c =
    subst (λ (form : TextForm). IsLoad form (dump_in form) g.R.Read.remaining c.args.reader.now
    c.load_engine.new.reader c.args.db.now c.load_engine.new.db c.load_engine.result)
    (sym c.in-Hexadecimal.is) c.load_engine.ensures

pub returns-in-Escaped : goal.returns-in-Escaped
returns-in-Escaped g c =
    subst (λ (form : TextForm). IsLoad form (dump_in form) g.R.Read.remaining c.args.reader.now
    c.load_text_engine.new.reader c.args.db.now c.load_text_engine.new.db
    c.load_text_engine.result) (sym c.in-Escaped.is) c.load_text_engine.ensures
