-- What a status tells.
use Rattle.std.proofs.Common.{◌≡◌, ◌⊎◌, inl, inr, refl, ◌∙◌, sym, ap, subst, append-nil, ℕ, List, [], ◌++◌, Bool, Option, None, Result, Ok, Err, IfErr, true, false, ◌||◌}
use Rattle.std.specs.Io.KnownBytes.{Appends}
use Rattle.dbm_command_line.specs.Asking.{AreVerbose, IsPlan}
use Rattle.dbm_command_line.specs.declared.plan.Plan.{Plan}
use Rattle.dbm_commands.specs.declared.outcomes.Outcome.{Outcome}
use Rattle.dbm_commands.specs.declared.outcomes.Outcome.TheVariants.{Done, Nothing}
use Rattle.dbm_commands.specs.declared.outcomes.Failure.{Failure}
use Rattle.dbm_commands.specs.declared.outcomes.Failure.TheVariants.{NotHex, NotText, Fault, NotKept}
use Rattle.dbm_tool.specs.Causes.{file_of, is_fault}
use Rattle.dbm_tool.specs.Endings.{EndsAs, has_lines, prints, reads}
use Rattle.dbm_tool.specs.Faults.{failure_line}
use Rattle.dbm_tool.specs.Statuses.{AreRefused, AskFor, Tells, TellsFault, TellsMisuse, TellsMore, status_of}

-- how a plan ended, by its status
pub done_at_zero : (r : Result Outcome Failure) (status : ℕ) → status ≡ status_of r → status ≡ 0
    → r ≡ Ok Done
done_at_zero (Ok Done) status is zero = refl
done_at_zero (Ok Nothing) status is zero = absurd (let e = sym is ∙ zero in cc)
done_at_zero (Err NotHex) status is zero = absurd (let e = sym is ∙ zero in cc)
done_at_zero (Err NotText) status is zero = absurd (let e = sym is ∙ zero in cc)
done_at_zero (Err (Fault met)) status is zero = absurd (let e = sym is ∙ zero in cc)
done_at_zero (Err (NotKept stop)) status is zero = absurd (let e = sym is ∙ zero in cc)

pub nothing_at_one : (r : Result Outcome Failure) (status : ℕ) → status ≡ status_of r
    → status ≡ 1 → r ≡ Ok Nothing
nothing_at_one (Ok Done) status is one = absurd (let e = sym is ∙ one in cc)
nothing_at_one (Ok Nothing) status is one = refl
nothing_at_one (Err NotHex) status is one = absurd (let e = sym is ∙ one in cc)
nothing_at_one (Err NotText) status is one = absurd (let e = sym is ∙ one in cc)
nothing_at_one (Err (Fault met)) status is one = absurd (let e = sym is ∙ one in cc)
nothing_at_one (Err (NotKept stop)) status is one = absurd (let e = sym is ∙ one in cc)

-- of a failure that is no fault its line alone was told
line_alone : (asked : Bool) (file : Option (List ℕ)) (number : Option ℕ) (told : Bool)
    (old new : Option (List ℕ)) (failure : Failure) → is_fault failure ≡ false
    → TellsMore asked file number told old new failure
    → Tells told old new (failure_line failure)
line_alone asked file number told old new failure no_fault tells was =
    let all = tells was in
    let none : all.0 ≡ [] = rw no_fault at all.2 in
    subst (Appends old new) (ap (λ (more : List ℕ). failure_line failure ++ more) none
    ∙ append-nil (failure_line failure)) all.1

-- what was told, under other names of what was asked for and of the file
pub lines_as : (r : Result Outcome Failure) (asked wanted : Bool) (file name : Option (List ℕ))
    (number : Option ℕ) (told : Bool) (old new : Option (List ℕ)) → asked ≡ wanted → file ≡ name
    → IfErr r (TellsMore asked file number told old new)
    → IfErr r (TellsMore wanted name number told old new)
lines_as r asked wanted file name number told old new same same_file lines =
    subst (λ (f : Option (List ℕ)). IfErr r (TellsMore wanted f number told old new)) same_file
    (subst (λ (b : Bool). IfErr r (TellsMore b file number told old new)) same lines)

-- at status 2 it told a fault of the plan, or a stop that lost a change
pub tells_fault : (words : List (List ℕ)) (p : Plan) (r : Result Outcome Failure)
    (EndsBy : Plan → Result Outcome Failure → Type 0)
    (status : ℕ) (verbose environment told : Bool) (number : Option ℕ)
    (old new : Option (List ℕ)) → IsPlan words p → EndsAs p r → EndsBy p r
    → AreVerbose words verbose → (number ≡ None) ⊎ (has_lines p ≡ true)
    → IfErr r (TellsMore (verbose || environment) (file_of p) number told old new)
    → status ≡ status_of r → status ≡ 2 → TellsFault words environment told old new EndsBy
tells_fault words p (Ok Done) EndsBy status verbose environment told number old new is_plan ends by
    are_verbose of_load lines s two = absurd (let e = sym s ∙ two in cc)
tells_fault words p (Ok Nothing) EndsBy status verbose environment told number old new is_plan ends
    by are_verbose of_load lines s two = absurd (let e = sym s ∙ two in cc)
tells_fault words p (Err NotHex) EndsBy status verbose environment told number old new is_plan ends
    by are_verbose of_load lines s two = absurd (let e = sym s ∙ two in cc)
tells_fault words p (Err NotText) EndsBy status verbose environment told number old new is_plan ends
    by are_verbose of_load lines s two = absurd (let e = sym s ∙ two in cc)
tells_fault words p (Err (Fault met)) EndsBy status verbose environment told number old new is_plan
    ends by are_verbose of_load lines s two = inl record {
      plan = p;
      met = met;
      can_be_met = ends;
      ends = by;
      tells = record {
        is_plan = is_plan;
        verbose = verbose;
        is_verbose = are_verbose;
        number = number;
        of_load = of_load;
        lines = lines;
      };
    }
tells_fault words p (Err (NotKept stop)) EndsBy status verbose environment told number old new
    is_plan ends by are_verbose of_load lines s two = inr (inr record {
      plan = p;
      rehearses = ends;
      stop = stop;
      ends = by;
      tells = record {
        is_plan = is_plan;
        verbose = verbose;
        is_verbose = are_verbose;
        number = number;
        of_load = of_load;
        lines = lines;
      };
    })

-- at status 3 it told a word that is not hexadecimal
pub tells_misuse : (words : List (List ℕ)) (p : Plan) (r : Result Outcome Failure)
    (status : ℕ) (asked : Bool) (file : Option (List ℕ)) (number : Option ℕ) (told : Bool)
    (old new : Option (List ℕ)) → IsPlan words p → EndsAs p r
    → IfErr r (TellsMore asked file number told old new) → status ≡ status_of r → status ≡ 3
    → TellsMisuse words told old new
tells_misuse words p (Ok Done) status asked file number told old new is_plan ends line s three =
    absurd (let e = sym s ∙ three in cc)
tells_misuse words p (Ok Nothing) status asked file number told old new is_plan ends line s three =
    absurd (let e = sym s ∙ three in cc)
tells_misuse words p (Err NotHex) status asked file number told old new is_plan ends line s three =
    inl (
      record { plan = p; is_plan = is_plan; is_so = ends },
      line_alone asked file number told old new NotHex refl line,
    )
tells_misuse words p (Err NotText) status asked file number told old new is_plan ends line s three =
    absurd ends
tells_misuse words p (Err (Fault met)) status asked file number told old new is_plan ends line s
    three = absurd (let e = sym s ∙ three in cc)
tells_misuse words p (Err (NotKept stop)) status asked file number told old new is_plan ends line s
    three = absurd (let e = sym s ∙ three in cc)

-- the output stays but for a plan that prints, and the input but for one that reads
unless : {P Q : Type 0} (b : Bool) → (b ≡ true → Q) → (b ≡ false → P) → P ⊎ Q
unless true q p = inr (q refl)
unless false q p = inl (p refl)

pub prints_or_stays : (words : List (List ℕ)) (p : Plan) (Stays : Type 0) → IsPlan words p
    → (prints p ≡ false → Stays)
    → Stays ⊎ (AskFor words (λ plan. prints plan ≡ true) ⊎ AreRefused words)
prints_or_stays words p Stays is_plan stays =
    unless (prints p) (λ is_so. inl record { plan = p; is_plan = is_plan; is_so = is_so }) stays

pub reads_or_stays : (words : List (List ℕ)) (p : Plan) (Stays : Type 0) → IsPlan words p
    → (reads p ≡ false → Stays) → Stays ⊎ AskFor words (λ plan. reads plan ≡ true)
reads_or_stays words p Stays is_plan stays =
    unless (reads p) (λ is_so. record { plan = p; is_plan = is_plan; is_so = is_so }) stays
