-- What a command and an option are to the parser, while they are put together.
use Rattle.std.specs.Prelude.{◌≡◌, [], false, IfOk, Result}
use Rattle.clap.specs.Words.{App, Rule, Shape, app_of, rule_of, with_subcommand}
use Rattle.clap.specs.declared.builder.arg.Arg.{Arg}
use Rattle.clap.specs.declared.builder.command.Command.{Command}
use Rattle.clap.specs.declared.builder.command.Command.TheViews.{out-Command}

-- a command with no subcommand
abbrev pub alone : Shape → App
alone line = record { top = line; subs = [] }

-- these definitions are what the parser reads of the command, and none of its options is its
-- subcommands' too
pub record IsApp (command : Command) (app : App) : Type 0 where
  pub shape : app_of command ≡ app
  pub local : (out-Command command).has_globals ≡ false

pub record IsRule (argument : Arg) (rule : Rule) : Type 0 where
  pub shape : rule_of argument ≡ rule
  pub local : argument.global ≡ false

-- one line more, where both could be made
abbrev pub Adds : {E : Type 0} → Result Command E → Result Command E → Result Command E → Type 0
Adds old sub new = (app : App) (line : Shape) → IfOk old (λ c. IsApp c app)
    → IfOk sub (λ c. IsApp c (alone line)) → IfOk new (λ c. IsApp c (with_subcommand app line))
