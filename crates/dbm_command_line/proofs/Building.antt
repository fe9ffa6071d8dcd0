-- What an option and a subcommand add to a command's definitions.
use Rattle.std.proofs.Common.{◌≡◌, ◌∙◌, ◌||◌, true, false, List, [], ◌∷◌, Some, Bool, ℕ, ℤ, pos, ap, ap₂, IfOk, Result}
use Rattle.std.specs.Borrow.{Bor}
use Rattle.std.specs.Int.{int_max, int_min}
use Rattle.std.proofs.lemmas.Result.{IfOk-weaker}
use Rattle.clap.specs.Simple.{app_of_fields}
use Rattle.clap.specs.Words.{AddsArg, AddsSubcommand, App, Rule, Shape, Text, rule_of, signed_between, with_rule, with_subcommand}
use Rattle.clap.specs.declared.builder.arg.Arg.{Arg}
use Rattle.clap.specs.declared.builder.action.ArgAction.{ArgAction}
use Rattle.clap.specs.declared.builder.command.Command.{Command}
use Rattle.clap.specs.declared.builder.command.Command.TheOpen.{Command-F}
use Rattle.clap.specs.declared.builder.command.Command.TheViews.{out-Command}
use Rattle.clap.specs.declared.builder.value_parser.ValueParser.{ValueParser}
use Rattle.dbm_command_line.specs.Building.{Adds, IsApp, IsRule, alone}

-- a command of these fields
pub with_fields : (new : Command) (fields : Command-F Command) (app : App)
    → out-Command new ≡ fields → app_of_fields fields ≡ app → fields.has_globals ≡ false
    → IsApp new app
with_fields new fields app is shape local =
    record { shape = ap app_of_fields is ∙ shape; local = ap (λ f. f.has_globals) is ∙ local }

-- an argument of these fields
pub with_settings : (new fields : Arg) (rule : Rule) → new ≡ fields → rule_of fields ≡ rule
    → fields.global ≡ false → IsRule new rule
with_settings new fields rule is shape local =
    record { shape = ap rule_of is ∙ shape; local = ap (λ (a : Arg). a.global) is ∙ local }

-- ---- a command's settings, one by one

-- a text is none of the definitions that the parser reads
pub with_about : {text : Bor Text} (old new : Command) (app : App)
    → out-Command new ≡ record (out-Command old) { about = Some text } → IsApp old app
    → IsApp new app
with_about {text} old new app is was =
    with_fields new (record (out-Command old) { about = Some text }) app is was.shape was.local

pub with_after_help : {text : Bor Text} (old new : Command) (app : App)
    → out-Command new ≡ record (out-Command old) { after_help = Some text } → IsApp old app
    → IsApp new app
with_after_help {text} old new app is was =
    with_fields new (record (out-Command old) { after_help = Some text }) app is was.shape was.local

pub with_usage : {text : Bor Text} (old new : Command) (app : App)
    → out-Command new ≡ record (out-Command old) { usage_str = Some text } → IsApp old app
    → IsApp new app
with_usage {text} old new app is was =
    with_fields new (record (out-Command old) { usage_str = Some text }) app is was.shape was.local

pub with_version : {text : Bor Text} (old new : Command) (app : App)
    → out-Command new ≡ record (out-Command old) { version = Some text } → IsApp old app
    → IsApp new (record { top = record app.top { has_version = true }; subs = app.subs })
with_version {text} old new app is was =
    with_fields new (record (out-Command old) { version = Some text })
    (record { top = record app.top { has_version = true }; subs = app.subs }) is
    (ap (λ (a : App). record { top = record a.top { has_version = true }; subs = a.subs })
    was.shape) was.local

pub with_no_binary_name : (old new : Command) (app : App)
    → out-Command new ≡ record (out-Command old) { no_binary_name = true } → IsApp old app
    → IsApp new (record { top = record app.top { no_binary_name = true }; subs = app.subs })
with_no_binary_name old new app is was =
    with_fields new (record (out-Command old) { no_binary_name = true })
    (record { top = record app.top { no_binary_name = true }; subs = app.subs }) is
    (ap (λ (a : App). record { top = record a.top { no_binary_name = true }; subs = a.subs })
    was.shape) was.local

pub with_subcommand_required : (old new : Command) (app : App)
    → out-Command new ≡ record (out-Command old) { subcommand_required = true } → IsApp old app
    → IsApp new (record { top = record app.top { subcommand_required = true }; subs = app.subs })
with_subcommand_required old new app is was =
    with_fields new (record (out-Command old) { subcommand_required = true })
    (record { top = record app.top { subcommand_required = true }; subs = app.subs }) is
    (ap (λ (a : App). record {
      top = record a.top { subcommand_required = true };
      subs =
          a.subs;
    }) was.shape) was.local

pub with_bin_name : (old new : Command) (app : App)
    → out-Command new ≡ record (out-Command old) { bin_name = (out-Command new).bin_name }
    → IsApp old app → IsApp new app
with_bin_name old new app is was =
    with_fields new (record (out-Command old) { bin_name = (out-Command new).bin_name }) app is
    was.shape was.local

-- ---- an argument's settings, one by one

pub with_help : {text : Bor Text} (old new : Arg) (rule : Rule)
    → new ≡ record old { help = Some text } → IsRule old rule → IsRule new rule
with_help {text} old new rule is was =
    with_settings new (record old { help = Some text }) rule is was.shape was.local

-- the parser of a `u32`, narrowed to the numbers from one to another
pub narrowed_by : (narrow : ValueParser) (least most first last : ℤ) → first ≡ least → last ≡ most
    → narrow ≡ signed_between (int_max (pos 0) first) (int_min (pos 4294967295) last)
    → narrow ≡ signed_between (int_max (pos 0) least) (int_min (pos 4294967295) most)
narrowed_by narrow least most first last first_is last_is is =
    is ∙ ap₂ (λ a b. signed_between (int_max (pos 0) a) (int_min (pos 4294967295) b))
    first_is last_is

-- what stands behind these two has no name here, so their caller shows what the parser reads of it
pub with_value_name : (old new : Arg) (rule : Rule)
    → rule_of new ≡ record (rule_of old) { value_names = 1 } → new.global ≡ old.global
    → IsRule old rule → IsRule new (record rule { value_names = 1 })
with_value_name old new rule reads local was =
    record {
      shape = reads ∙ ap (λ (r : Rule). record r { value_names = 1 }) was.shape;
      local =
          local ∙ was.local;
    }

pub with_default : (value : Text) (old new : Arg) (rule : Rule)
    → rule_of new ≡ record (rule_of old) { defaults = value ∷ [] } → new.global ≡ old.global
    → IsRule old rule → IsRule new (record rule { defaults = value ∷ [] })
with_default value old new rule reads local was =
    record {
      shape = reads ∙ ap (λ (r : Rule). record r { defaults = value ∷ [] }) was.shape;
      local = local ∙ was.local;
    }

pub with_required : (must : Bool) (old new : Arg) (rule : Rule)
    → new ≡ record old { required = must } → IsRule old rule
    → IsRule new (record rule { required = must })
with_required must old new rule is was =
    with_settings new (record old { required = must }) (record rule { required = must }) is
    (ap (λ (r : Rule). record r { required = must }) was.shape) was.local

pub with_long : {name : Bor Text} (old new : Arg) (rule : Rule)
    → new ≡ record old { long = Some name } → IsRule old rule
    → IsRule new (record rule { long = Some name.now })
with_long {name} old new rule is was =
    with_settings new (record old { long = Some name }) (record rule { long = Some name.now }) is
    (ap (λ (r : Rule). record r { long = Some name.now }) was.shape) was.local

pub with_short : (name : ℕ) (old new : Arg) (rule : Rule) → new ≡ record old { short = Some name }
    → IsRule old rule → IsRule new (record rule { short = Some name })
with_short name old new rule is was =
    with_settings new (record old { short = Some name }) (record rule { short = Some name }) is
    (ap (λ (r : Rule). record r { short = Some name }) was.shape) was.local

pub with_action_of : (action : ArgAction) (old new : Arg) (rule : Rule)
    → new ≡ record old { action = Some action } → IsRule old rule
    → IsRule new (record rule { action = Some action })
with_action_of action old new rule is was =
    with_settings new (record old { action = Some action }) (record rule { action = Some action })
    is (ap (λ (r : Rule). record r { action = Some action }) was.shape) was.local

pub with_parser : (parser : ValueParser) (old new : Arg) (rule : Rule)
    → new ≡ record old { value_parser = new.value_parser } → new.value_parser ≡ Some parser
    → IsRule old rule → IsRule new (record rule { parser = Some parser })
with_parser parser old new rule is read was =
    with_settings new (record old { value_parser = new.value_parser })
    (record rule { parser = Some parser }) is
    (ap₂ (λ (r : Rule) p. record r { parser = p }) was.shape read) was.local

-- ---- an option or a subcommand more

pub with_option : (old new : Command) (a : Arg) (app : App) (rule : Rule) → IsApp old app
    → IsRule a rule → AddsArg old a new → IsApp new (with_rule app rule)
with_option old new a app rule was given adds = record {
  shape = adds.shape given.local ∙ ap₂ with_rule was.shape given.shape;
  local = adds.globals ∙ ap₂ (λ x y. x || y) was.local given.local;
}

pub with_line : (old sub new : Command) (app : App) (line : Shape) → IsApp old app
    → IsApp sub (alone line) → AddsSubcommand old sub new → IsApp new (with_subcommand app line)
with_line old sub new app line was given adds = record {
  shape = adds.shape given.local
      ∙ ap₂ with_subcommand was.shape (ap (λ (a : App). a.top) given.shape);
  local = adds.globals ∙ ap₂ (λ x y. x || y) was.local given.local;
}

-- the same of a result
pub option_added : {E : Type 0} (old : Command) (a : Arg) (r : Result Command E) (app : App)
    (rule : Rule) → IsApp old app → IsRule a rule → IfOk r (AddsArg old a)
    → IfOk r (λ c. IsApp c (with_rule app rule))
option_added old a r app rule was given adds =
    IfOk-weaker r _ _ (λ new add. with_option old new a app rule was given add) adds

-- a command of these subcommands
abbrev lines_on : Shape → List Shape → App
lines_on top lines = record { top = record top { is_leaf = false }; subs = lines }

-- eighteen subcommands, one after another; the steps are put together for any lines, since written
-- out they are long
pub eighteen_lines_added : {E : Type 0} (top : Shape)
    (l1 l2 l3 l4 l5 l6 l7 l8 l9 l10 l11 l12 l13 l14 l15 l16 l17 l18 : Shape)
    (c0 c1 c2 c3 c4 c5 c6 c7 c8 c9 c10 c11 c12 c13 c14 c15 c16 c17 s1 s2 s3 s4 s5 s6 s7 s8 s9 s10
    s11 s12 s13 s14 s15 s16 s17 s18 r : Result Command E)
    → IfOk c0 (λ c. IsApp c (alone top))
    → IfOk s1 (λ s. IsApp s (alone l1)) → Adds c0 s1 c1
    → IfOk s2 (λ s. IsApp s (alone l2)) → Adds c1 s2 c2
    → IfOk s3 (λ s. IsApp s (alone l3)) → Adds c2 s3 c3
    → IfOk s4 (λ s. IsApp s (alone l4)) → Adds c3 s4 c4
    → IfOk s5 (λ s. IsApp s (alone l5)) → Adds c4 s5 c5
    → IfOk s6 (λ s. IsApp s (alone l6)) → Adds c5 s6 c6
    → IfOk s7 (λ s. IsApp s (alone l7)) → Adds c6 s7 c7
    → IfOk s8 (λ s. IsApp s (alone l8)) → Adds c7 s8 c8
    → IfOk s9 (λ s. IsApp s (alone l9)) → Adds c8 s9 c9
    → IfOk s10 (λ s. IsApp s (alone l10)) → Adds c9 s10 c10
    → IfOk s11 (λ s. IsApp s (alone l11)) → Adds c10 s11 c11
    → IfOk s12 (λ s. IsApp s (alone l12)) → Adds c11 s12 c12
    → IfOk s13 (λ s. IsApp s (alone l13)) → Adds c12 s13 c13
    → IfOk s14 (λ s. IsApp s (alone l14)) → Adds c13 s14 c14
    → IfOk s15 (λ s. IsApp s (alone l15)) → Adds c14 s15 c15
    → IfOk s16 (λ s. IsApp s (alone l16)) → Adds c15 s16 c16
    → IfOk s17 (λ s. IsApp s (alone l17)) → Adds c16 s17 c17
    → IfOk s18 (λ s. IsApp s (alone l18)) → Adds c17 s18 r
    → IfOk r (λ c. IsApp c (record {
      top = record top { is_leaf = false };
      subs =
          l1 ∷ l2 ∷ l3 ∷ l4 ∷ l5 ∷ l6 ∷ l7 ∷ l8 ∷ l9 ∷ l10 ∷ l11 ∷ l12 ∷ l13 ∷ l14 ∷ l15 ∷ l16 ∷ l17
          ∷ l18 ∷ [];
    }))
eighteen_lines_added top l1 l2 l3 l4 l5 l6 l7 l8 l9 l10 l11 l12 l13 l14 l15 l16 l17 l18 c0 c1 c2
    c3 c4 c5 c6 c7 c8 c9 c10 c11 c12 c13 c14 c15 c16 c17 s1 s2 s3 s4 s5 s6 s7 s8 s9 s10 s11 s12 s13
    s14 s15 s16 s17 s18 r p0 p1 a1 p2 a2 p3 a3 p4 a4 p5 a5 p6 a6 p7 a7 p8 a8 p9 a9 p10 a10 p11 a11
    p12 a12 p13 a13 p14 a14 p15 a15 p16 a16 p17 a17 p18 a18 =
    let with_1 : IfOk c1 (λ c. IsApp c
    (lines_on top (l1 ∷ []))) =
    a1 (alone top) l1 p0 p1 in
    let with_2 : IfOk c2 (λ c. IsApp c
    (lines_on top (l1 ∷ l2 ∷ []))) =
    a2 (lines_on top (l1 ∷ [])) l2 with_1 p2 in
    let with_3 : IfOk c3 (λ c. IsApp c
    (lines_on top (l1 ∷ l2 ∷ l3 ∷ []))) =
    a3 (lines_on top (l1 ∷ l2 ∷ [])) l3 with_2 p3 in
    let with_4 : IfOk c4 (λ c. IsApp c
    (lines_on top (l1 ∷ l2 ∷ l3 ∷ l4 ∷ []))) =
    a4 (lines_on top (l1 ∷ l2 ∷ l3 ∷ [])) l4 with_3 p4 in
    let with_5 : IfOk c5 (λ c. IsApp c
    (lines_on top (l1 ∷ l2 ∷ l3 ∷ l4 ∷ l5 ∷ []))) =
    a5 (lines_on top (l1 ∷ l2 ∷ l3 ∷ l4 ∷ [])) l5 with_4 p5 in
    let with_6 : IfOk c6 (λ c. IsApp c
    (lines_on top (l1 ∷ l2 ∷ l3 ∷ l4 ∷ l5 ∷ l6 ∷ []))) =
    a6 (lines_on top (l1 ∷ l2 ∷ l3 ∷ l4 ∷ l5 ∷ [])) l6 with_5 p6 in
    let with_7 : IfOk c7 (λ c. IsApp c
    (lines_on top (l1 ∷ l2 ∷ l3 ∷ l4 ∷ l5 ∷ l6 ∷ l7 ∷ []))) =
    a7 (lines_on top (l1 ∷ l2 ∷ l3 ∷ l4 ∷ l5 ∷ l6 ∷ [])) l7 with_6 p7 in
    let with_8 : IfOk c8 (λ c. IsApp c
    (lines_on top (l1 ∷ l2 ∷ l3 ∷ l4 ∷ l5 ∷ l6 ∷ l7 ∷ l8 ∷ []))) =
    a8 (lines_on top (l1 ∷ l2 ∷ l3 ∷ l4 ∷ l5 ∷ l6 ∷ l7 ∷ [])) l8 with_7 p8 in
    let with_9 : IfOk c9 (λ c. IsApp c
    (lines_on top (l1 ∷ l2 ∷ l3 ∷ l4 ∷ l5 ∷ l6 ∷ l7 ∷ l8 ∷ l9 ∷ []))) =
    a9 (lines_on top (l1 ∷ l2 ∷ l3 ∷ l4 ∷ l5 ∷ l6 ∷ l7 ∷ l8 ∷ [])) l9 with_8 p9 in
    let with_10 : IfOk c10 (λ c. IsApp c
    (lines_on top (l1 ∷ l2 ∷ l3 ∷ l4 ∷ l5 ∷ l6 ∷ l7 ∷ l8 ∷ l9 ∷ l10 ∷ []))) =
    a10 (lines_on top (l1 ∷ l2 ∷ l3 ∷ l4 ∷ l5 ∷ l6 ∷ l7 ∷ l8 ∷ l9 ∷ [])) l10 with_9 p10 in
    let with_11 : IfOk c11 (λ c. IsApp c
    (lines_on top (l1 ∷ l2 ∷ l3 ∷ l4 ∷ l5 ∷ l6 ∷ l7 ∷ l8 ∷ l9 ∷ l10 ∷ l11 ∷ []))) =
    a11 (lines_on top (l1 ∷ l2 ∷ l3 ∷ l4 ∷ l5 ∷ l6 ∷ l7 ∷ l8 ∷ l9 ∷ l10 ∷ [])) l11 with_10 p11 in
    let with_12 : IfOk c12 (λ c. IsApp c
    (lines_on top (l1 ∷ l2 ∷ l3 ∷ l4 ∷ l5 ∷ l6 ∷ l7 ∷ l8 ∷ l9 ∷ l10 ∷ l11 ∷ l12 ∷ []))) =
    a12 (lines_on top (l1 ∷ l2 ∷ l3 ∷ l4 ∷ l5 ∷ l6 ∷ l7 ∷ l8 ∷ l9 ∷ l10 ∷ l11 ∷ [])) l12 with_11 p12
    in
    let with_13 : IfOk c13 (λ c. IsApp c
    (lines_on top (l1 ∷ l2 ∷ l3 ∷ l4 ∷ l5 ∷ l6 ∷ l7 ∷ l8 ∷ l9 ∷ l10 ∷ l11 ∷ l12 ∷ l13 ∷ []))) =
    a13 (lines_on top (l1 ∷ l2 ∷ l3 ∷ l4 ∷ l5 ∷ l6 ∷ l7 ∷ l8 ∷ l9 ∷ l10 ∷ l11 ∷ l12 ∷ [])) l13
    with_12 p13 in
    let with_14 : IfOk c14 (λ c. IsApp c
    (lines_on top (l1 ∷ l2 ∷ l3 ∷ l4 ∷ l5 ∷ l6 ∷ l7 ∷ l8 ∷ l9 ∷ l10 ∷ l11 ∷ l12 ∷ l13 ∷ l14 ∷ [])))
    =
    a14 (lines_on top (l1 ∷ l2 ∷ l3 ∷ l4 ∷ l5 ∷ l6 ∷ l7 ∷ l8 ∷ l9 ∷ l10 ∷ l11 ∷ l12 ∷ l13 ∷ [])) l14
    with_13 p14 in
    let with_15 : IfOk c15 (λ c. IsApp c
    (lines_on top (l1 ∷ l2 ∷ l3 ∷ l4 ∷ l5 ∷ l6 ∷ l7 ∷ l8 ∷ l9 ∷ l10 ∷ l11 ∷ l12 ∷ l13 ∷ l14 ∷ l15 ∷
    []))) =
    a15 (lines_on top (l1 ∷ l2 ∷ l3 ∷ l4 ∷ l5 ∷ l6 ∷ l7 ∷ l8 ∷ l9 ∷ l10 ∷ l11 ∷ l12 ∷ l13 ∷ l14 ∷
    [])) l15 with_14 p15 in
    let with_16 : IfOk c16 (λ c. IsApp c
    (lines_on top (l1 ∷ l2 ∷ l3 ∷ l4 ∷ l5 ∷ l6 ∷ l7 ∷ l8 ∷ l9 ∷ l10 ∷ l11 ∷ l12 ∷ l13 ∷ l14 ∷ l15 ∷
    l16 ∷ []))) =
    a16 (lines_on top (l1 ∷ l2 ∷ l3 ∷ l4 ∷ l5 ∷ l6 ∷ l7 ∷ l8 ∷ l9 ∷ l10 ∷ l11 ∷ l12 ∷ l13 ∷ l14 ∷
    l15 ∷ [])) l16 with_15 p16 in
    let with_17 : IfOk c17 (λ c. IsApp c
    (lines_on top (l1 ∷ l2 ∷ l3 ∷ l4 ∷ l5 ∷ l6 ∷ l7 ∷ l8 ∷ l9 ∷ l10 ∷ l11 ∷ l12 ∷ l13 ∷ l14 ∷ l15 ∷
    l16 ∷ l17 ∷ []))) =
    a17 (lines_on top (l1 ∷ l2 ∷ l3 ∷ l4 ∷ l5 ∷ l6 ∷ l7 ∷ l8 ∷ l9 ∷ l10 ∷ l11 ∷ l12 ∷ l13 ∷ l14 ∷
    l15 ∷ l16 ∷ [])) l17 with_16 p17 in
    a18 (lines_on top (l1 ∷ l2 ∷ l3 ∷ l4 ∷ l5 ∷ l6 ∷ l7 ∷ l8 ∷ l9 ∷ l10 ∷ l11 ∷ l12 ∷ l13 ∷ l14 ∷
    l15 ∷ l16 ∷ l17 ∷ [])) l18 with_17 p18
