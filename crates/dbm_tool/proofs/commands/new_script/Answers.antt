use Rattle.std.proofs.Common.{ℕ, List, IfSome, subst, rules}
use Rattle.dbm_model.specs.Bounds.{Version}
use Rattle.dbm_engines.specs.Scripts.{AnswersInMemory}
use Rattle.dbm_tool.specs.Commands.{form_of}
use Rattle.dbm_tool.proofs.commands.new_script.Goals as goal

pub returns-clause-answered : goal.returns-clause-answered
returns-clause-answered g c = subst
    (λ (v : Version). IfSome (g.R.Read.remaining c.args.input.now) (λ (text : List ℕ).
    AnswersInMemory (form_of c.args.spelling) (record { limit = c.args.limit; version = v }) text
    (g.O.Write.contents c.args.output.now) (g.O.Write.contents c.script_in_memory.new.output)))
    c.file_version-version.ensures.model
    (rw c.form_of.ensures at c.in_ok-script_in_memory.ensures.answer)

pub returns-in_err-script_in_memory-clause-ends : goal.returns-in_err-script_in_memory-clause-ends
returns-in_err-script_in_memory-clause-ends g c = search rules
