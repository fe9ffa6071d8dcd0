-- What a parse by the command line entered, by the words.
use Rattle.std.proofs.Common.{◌≡◌, ◌∙◌, true, refl, ap, subst, List, Option}
use Rattle.clap.specs.Words.{App, HasMatchesOf, Row, Text, found_of, is_simple, matches_of, rows_of, subcommand_of, subcommand_rows_of}
use Rattle.clap.specs.declared.parser.matches.ArgMatches.{ArgMatches}
use Rattle.dbm_command_line.specs.CommandLine.{command_line}

-- the parser's definitions give the matches of the command line
line_is_simple : is_simple command_line ≡ true
unfolding command_line
line_is_simple = refl

-- what holds of what was entered holds of what the words enter
pub of_words : (m : ArgMatches) (app : App) (words : List Text)
    (P : Option (Text × List Row) → Type 0) → app ≡ command_line → HasMatchesOf app words m
    → P (subcommand_rows_of m) → P (subcommand_of command_line words)
of_words m app words P is matches p =
    subst P ((matches (ap is_simple is ∙ line_is_simple)).1 ∙ ap (λ a. subcommand_of a words) is) p

-- and of what was entered before the command
pub rows_of_words : (m : ArgMatches) (app : App) (words : List Text) (P : List Row → Type 0)
    → app ≡ command_line → HasMatchesOf app words m → P (rows_of (found_of m))
    → P (matches_of command_line words)
rows_of_words m app words P is matches p =
    subst P ((matches (ap is_simple is ∙ line_is_simple)).0 ∙ ap (λ a. matches_of a words) is) p
