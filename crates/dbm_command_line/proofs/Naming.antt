-- What a parse entered, as a plan.
use Rattle.std.proofs.Common.{◌≡◌, ◌∙◌, ℕ, Bool, true, false, List, Option, Some, None, IfSome, MatchBool, MatchOption, Ok, Result, option_map, IfOk, refl, sym, ap, ap₂, subst, eqb, codes}
use Rattle.std.specs.Option.{ok_or}
use Rattle.std.proofs.lemmas.Bool.Decides.{Decides-eqb}
use Rattle.std.proofs.lemmas.Slice.Eq.{slice_eq-Decides}
use Rattle.std.specs.Str.Parse.{ExplainsUnsignedError, HasUnsignedDigitsIfOk, ParsesUnsigned}
use Rattle.std.specs.declared.num.ParseIntError.{ParseIntError}
use Rattle.std.specs.Borrow.{Bor}
use Rattle.clap.specs.Words.{ReadsOne, Row, Text, first_of, first_value, one_of, one_text, rows_of, subcommand_name_of, subcommand_rows_of}
use Rattle.clap.specs.declared.parser.matches.ArgMatches.{ArgMatches}
use Rattle.clap.specs.declared.parser.matches.Found.{Found}
use Rattle.clap.proofs.WalkLemmas.{first_value-rows, one_text-rows}
use lib.Pointwise.{pointwise}
use Rattle.dbm_command_line.specs.Asking.{Asks, IsNumberText, IsText, Names}
use Rattle.dbm_command_line.specs.declared.plan.Plan.{Plan}
use Rattle.dbm_command_line.specs.declared.words.WordsError.{WordsError}
use Rattle.dbm_command_line.specs.declared.words.WordsError.TheVariants.{NoPlan}

map_twice : {A B C : Type 0} (f : B → C) (g : A → B) (o : Option A)
    → option_map (λ x. f (g x)) o ≡ option_map f (option_map g o)
map_twice f g None = refl
map_twice f g (Some x) = refl

subcommand_name : (m : ArgMatches)
    → subcommand_name_of m ≡ option_map (λ p. p.0) (subcommand_rows_of m)
subcommand_name m = map_twice (λ p. p.0) _ _

pair_of : (name : Text) (rows : List Row) (entered : Option (Text × List Row))
    → Some name ≡ option_map (λ p. p.0) entered → Some rows ≡ option_map (λ p. p.1) entered
    → entered ≡ Some (name, rows)
pair_of name rows None named read = cc
pair_of name rows (Some entered) named read =
    let first : entered.0 ≡ name = cc in
    let second : entered.1 ≡ rows = cc in
    ap₂ (λ n r. Some (n, r)) first second

-- the command that was entered, by its name and its rows
pub entered_is : (m : ArgMatches) (name : Text) (rows : List Row) → Some name ≡ subcommand_name_of m
    → Some rows ≡ option_map (λ p. p.1) (subcommand_rows_of m)
    → subcommand_rows_of m ≡ Some (name, rows)
entered_is m name rows named read =
    pair_of name rows (subcommand_rows_of m) (named ∙ subcommand_name m) read

-- of the command that was entered
module _ (m : ArgMatches) (name : Text) (rows : List Row) (named : Some name ≡ subcommand_name_of m)
    (read : Some rows ≡ option_map (λ p. p.1) (subcommand_rows_of m)) where
  -- what it asks for is what the words name
  pub names_plan : (plan : Plan) → Asks name rows plan → Names (subcommand_rows_of m) plan
  names_plan plan asks = subst (λ entered. Names entered plan)
      (sym (entered_is m name rows named read)) asks

  pub names_found : (found : Option Plan) (result : Result Plan WordsError)
      → result ≡ ok_or found NoPlan → IfSome found (Asks name rows)
      → IfOk result (Names (subcommand_rows_of m))
  names_found found result is asks =
      subst (λ r. IfOk r (Names (subcommand_rows_of m))) (sym is) (of_found found asks)
    where
      of_found : (o : Option Plan) → IfSome o (Asks name rows)
          → IfOk (ok_or o NoPlan) (Names (subcommand_rows_of m))
      of_found None asks = tt
      of_found (Some plan) asks = names_plan plan asks

-- a text that was compared
pub is_name : (text name : Text) (same : Bool) → same ≡ pointwise eqb text name
    → same ≡ true → text ≡ name
is_name text name same is true_is = (slice_eq-Decides Decides-eqb text name same is).0 true_is

-- where nothing was found
pub if_none : {T : Type 0} (found : Option T) (P : T → Type 0) → found ≡ None → IfSome found P
if_none {T} found P is = subst (λ (o : Option T). IfSome o P) (sym is) tt

-- and where something was
pub if_some : {T : Type 0} (found : Option T) (x : T) (P : T → Type 0) → found ≡ Some x
    → IfSome found P → P x
if_some {T} found x P is holds = subst (λ (o : Option T). IfSome o P) is holds

-- the first word under an id, or none
word_read : (o : Option (Bor Text)) (rows : List Row) (id : Text)
    → option_map (λ s. s.now) o ≡ first_of id rows
    → MatchOption o (first_of id rows ≡ None) (λ word. IsText rows id word.now)
word_read None rows id is = sym is
word_read (Some word) rows id is = sym is

pub text_read : (o : Option (Bor Text)) (f : Found) (id : Text)
    → option_map (λ s. s.now) o ≡ first_value f id
    → MatchOption o (first_of id (rows_of f) ≡ None) (λ word. IsText (rows_of f) id word.now)
text_read o f id is = word_read o (rows_of f) id (is ∙ first_value-rows f id)

-- what was read is read from a text
read_from : {T : Type 0} (o : Option Text) (v : T) (P : Text → Type 0) → (o ≡ None → Some v ≡ None)
    → ((t : Text) → o ≡ Some t → P t) → (t : Text) × (o ≡ Some t) × P t
read_from None v P none value = let e = none refl in cc
read_from (Some t) v P none value = (t, refl, value t refl)

-- what `u32` reads of a text
abbrev ReadsU32 : Text → Result ℕ ParseIntError → Type 0
ReadsU32 t r = ParsesUnsigned 32 10 t r × ExplainsUnsignedError 10 t r × HasUnsignedDigitsIfOk t r

pub number_read : (o : Option ℕ) (f : Found) (id : Text) → (one_text f id ≡ None → o ≡ None)
    → ((t : Text) → one_text f id ≡ Some t → ReadsOne ReadsU32 t o)
    → IfSome o (IsNumberText (rows_of f) id)
number_read None f id none value = tt
number_read (Some n) f id none value =
    let read = read_from (one_text f id) n (λ t. ReadsU32 t (Ok n)) none value in
    (read.0, sym (one_text-rows f id) ∙ read.1, read.2.0)

abbrev bool_text : Bool → Text
bool_text true = codes "true"
bool_text false = codes "false"

parsed_bool : (t : Text) (b : Bool) → MatchBool b (t ≡ codes "true") (t ≡ codes "false")
    → t ≡ bool_text b
parsed_bool t true is = is
parsed_bool t false is = is

-- a flag that was read, which is known, has its text
pub flag_read : (f : Found) (id : Text) (b known : Bool) → b ≡ known
    → (one_text f id ≡ None → Some b ≡ None)
    → ((t : Text) → one_text f id ≡ Some t → MatchBool b (t ≡ codes "true") (t ≡ codes "false"))
    → one_of id (rows_of f) ≡ Some (bool_text known)
flag_read f id b known same none value =
    let read = read_from (one_text f id) b
    (λ t. MatchBool b (t ≡ codes "true") (t ≡ codes "false")) none value in
    sym (one_text-rows f id) ∙ read.1 ∙ ap Some (parsed_bool read.0 b read.2)
    ∙ ap (λ k. Some (bool_text k)) same
