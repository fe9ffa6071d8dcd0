-- What a text of pairs says, and what a load of it does.
use Rattle.std.specs.Prelude.{◌≡◌, ◌⊎◌, ◌<◌, ◌≤◌, ℕ, ◌+◌, Bool, true, false, List, [], ◌∷◌, ◌++◌, length, Option, Some, None, IfSome, Result, Ok, Err, OnOk}
use Rattle.std.specs.FinMap.{empty, entries}
use Rattle.std.specs.List.{All}
use Rattle.dbm_model.specs.Calls.{Stored, Refused}
use Rattle.dbm_model.specs.Changes.{replacing}
use Rattle.dbm_lines.specs.Lines.{lines_of}
use Rattle.page_model.specs.PairLists.{HasBytes}
use Rattle.dbm_model.specs.Pairs.{Pair, Contents}
use Rattle.dbm_model.specs.States.{Handle}
use Rattle.page_io.specs.declared.store.PageStore.{Ghosts}
use Rattle.dbm_file.specs.Answers.{IsStep, IsSameDatabase}
use Rattle.dbm_file.specs.Database.{store_of, IsAt, AtEachHandle}
use Rattle.dbm_fault.specs.Faults.{fault_of}
use Rattle.dbm_file.specs.declared.database.Database.{Database}
use Rattle.dbm_lines.specs.PairLines.{Say}
use Rattle.dbm_fault.specs.declared.fault.Fault.{Fault}
use Rattle.dbm_lines.specs.Forms.{pair_in, is_passed_in, lines_said}
use Rattle.dbm_lines.specs.declared.forms.TextForm.{TextForm}
use Rattle.dbm_engines.specs.declared.load_stop.LoadStop.{LoadStop}
use Rattle.dbm_engines.specs.declared.load_stop.LoadStop.TheVariants.{Memory as NoMemory, Bad, Refused as RefusedAt}
use Rattle.dbm_engines.specs.LoadEndings.{TellsWhy}
use Rattle.dbm_engines.specs.LoadRefusals.{StopsByFault}
use Rattle.dbm_engines.specs.Storing.{StoresAll, StoresBefore, StoresThenGroup}

-- there is a first line, and it is not passed over
abbrev pub FirstIsSaid : TextForm → List (List ℕ) → Type 0
FirstIsSaid form [] = ⊥
FirstIsSaid form (line ∷ lines) = is_passed_in form line ≡ false

-- and it says this pair, or is bad
abbrev pub FirstSays : TextForm → List (List ℕ) → Option Pair → Type 0
FirstSays form [] said = ⊥
FirstSays form (line ∷ lines) said =
    (is_passed_in form line ≡ false) × (pair_in form line ≡ said)

-- each key and content of the map is of bytes
abbrev pub IsOfBytes : Contents → Type 0
IsOfBytes contents = All HasBytes (entries contents)

-- these lines, without those that are passed over, say these pairs
abbrev pub AllSay : TextForm → List (List ℕ) → List Pair → Type 0
AllSay form lines pairs = Say (pair_in form) (lines_said form lines) pairs

-- the first of these lines say these pairs
abbrev pub FirstSay : TextForm → List (List ℕ) → List Pair → Type 0
FirstSay form rest pairs =
    (lines : List (List ℕ)) × (later : List (List ℕ)) × (rest ≡ lines ++ later)
    × AllSay form lines pairs

-- These pairs were stored, and then that of the next line was refused by a store of its own.
abbrev pub IsRefusedAlone : {S : Type 0} {s : Ghosts S} → TextForm → Fault
    → Database S s → Database S s → List (List ℕ) → List Pair → Type 0
IsRefusedAlone form fault old new rest stored =
    (pair : Pair) × FirstSays form rest (Some pair)
    × StoresBefore old new stored pair (fault_of fault)

-- These pairs were stored, and then those of some lines, from the next one on, by a store of their
-- group.
abbrev pub IsRefusedInGroup : {S : Type 0} {s : Ghosts S} → TextForm → Fault
    → Database S s → Database S s → List (List ℕ) → List Pair → Type 0
IsRefusedInGroup form fault old new rest stored =
    (group : List Pair) × (0 < length group) × FirstIsSaid form rest × FirstSay form rest group
    × AtEachHandle old (λ h. StoresThenGroup old new h stored group fault)

-- How a load ended that stored these pairs, of the first lines, and did not store the rest. The
-- number that is told is that of the first line of the rest.
abbrev pub EndsBy : {S : Type 0} {s : Ghosts S} → TextForm
    → Result Unit LoadStop → Database S s → Database S s → List (List ℕ) → List (List ℕ)
    → List Pair → Type 0
EndsBy form (Ok done) old new first rest stored = (rest ≡ []) × StoresAll old new stored
EndsBy form (Err (Bad n why)) old new first rest stored =
    (n ≡ length first + 1) × FirstSays form rest None × StoresAll old new stored
EndsBy form (Err (RefusedAt n fault)) old new first rest stored =
    (n ≡ length first + 1)
    × (IsRefusedAlone form fault old new rest stored
    ⊎ IsRefusedInGroup form fault old new rest stored)
EndsBy form _ old new first rest stored = StoresAll old new stored

-- What a load did of a text of this form, whatever it answers: it stored what the first lines say.
pub record Loads {S : Type 0} {s : Ghosts S} (form : TextForm)
    (result : Result Unit LoadStop) (text : Option (List ℕ)) (old new : Database S s)
    : Type 0 where
  pub first : List (List ℕ)
  pub rest : List (List ℕ)
  pub stored : List Pair
  pub lines : IfSome text (λ bytes. lines_of bytes ≡ first ++ rest)
  pub said : AllSay form first stored
  pub ends : EndsBy form result old new first rest stored

-- of the dump of a map, loaded into an empty database: it then has that map
abbrev pub LoadsDump : {S : Type 0} {s : Ghosts S} → (Contents → List ℕ) → Option (List ℕ)
    → Database S s → Database S s → Type 0
LoadsDump {S} {s} dumped text old new =
    s.honest (store_of old) → (h : Handle) → IsAt old h → h.state.map ≡ empty →
    (contents : Contents) → IsOfBytes contents → text ≡ Some (dumped contents)
    → (after : Handle) × IsAt new after × (after.state.map ≡ contents)

-- What a load of a text of this form has done, and by what it may be stopped.
pub record IsLoad {S R : Type 0} {s : Ghosts S} (form : TextForm) (dumped : Contents → List ℕ)
    (remaining : R → Option (List ℕ)) (before after : R) (old new : Database S s)
    (result : Result Unit LoadStop) : Type 0 where
  pub loads : Loads form result (remaining before) old new
  pub why : TellsWhy form result (remaining before)
  pub read : OnOk result (IfSome (remaining before) (λ text. remaining after ≡ Some []))
  pub size : OnOk result (IfSome (remaining before) (λ text. length text ≤ 4294967295))
  -- a dump is loaded back
  pub dump : OnOk result (LoadsDump dumped (remaining before) old new)
  -- on any device it is stopped by nothing but a fault of a store, a line, reading and memory
  pub faults : StopsByFault result
  pub goes : IsSameDatabase old new
  pub memory : result ≡ Err NoMemory → (new ≡ old) × (after ≡ before)

-- what became of one line of this number that is passed over, or says this pair, or is bad
abbrev pub LoadsLine : {S : Type 0} {s : Ghosts S} → Bool → Result Unit LoadStop → Option Pair → ℕ
    → Database S s → Database S s → Type 0
LoadsLine true (Ok done) said number old new = new ≡ old
LoadsLine {S} {s} false (Ok done) (Some pair) number old new =
    s.honest (store_of old) → (h : Handle) → IsAt old h → IsStep old new h (replacing pair) Stored
LoadsLine {S} {s} false (Err (RefusedAt n fault)) (Some pair) number old new =
    (n ≡ number) × (s.honest (store_of old) → (h : Handle) → IsAt old h
    → IsStep old new h (replacing pair) (Refused (fault_of fault)))
LoadsLine false (Err (Bad n why)) None number old new = (n ≡ number) × (new ≡ old)
LoadsLine _ _ said number old new = ⊥
