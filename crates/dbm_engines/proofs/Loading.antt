-- How far a text has been loaded.
use Rattle.std.proofs.Common.{◌≡◌, inl, ℕ, ◌+◌, Bool, true, false, List, [], ◌∷◌, ◌++◌, length, map, Option, Some, None, IfSome, Result, Ok, Err, OnOk, refl, sym, ap, subst, ◌∙◌, arith, append-nil, append_assoc, length-append}
use Rattle.std.specs.FinMap.{entries}
use Rattle.std.proofs.lemmas.List.{map-append}
use Rattle.dbm_model.specs.Calls.{Store, Replace, Stored, Refused, Fault}
use Rattle.dbm_model.specs.Changes.{replacing}
use Rattle.dbm_lines.specs.Lines.{lines_of}
use Rattle.dbm_model.specs.Pairs.{Pair}
use Rattle.dbm_model.specs.States.{Handle}
use Rattle.dbm_model.specs.Steps.{Run}
use Rattle.page_io.specs.declared.store.PageStore.{Ghosts}
use Rattle.dbm_file.specs.Answers.{IsStep, IsSameDatabase}
use Rattle.dbm_file.specs.Calls.{store_reply}
use Rattle.dbm_file.specs.Database.{store_of, IsAt, AtEachHandle}
use Rattle.dbm_file.specs.Runs.{IsRun}
use Rattle.dbm_fault.specs.Faults.{fault_of}
use Rattle.dbm_file.specs.declared.calls.StoreReply.{StoreReply}
use Rattle.dbm_file.specs.declared.calls.StoreReply.TheVariants as stored
use Rattle.dbm_file.specs.declared.database.Database.{Database}
use Rattle.dbm_file.proofs.Breaks.{CountsNow}
use Rattle.dbm_file.proofs.Runs.{goes_on_with}
use Rattle.dbm_lines.specs.Bounds.{longest_in}
use Rattle.dbm_lines.specs.Forms.{pair_in, is_passed_in, dump_in, lines_said}
use Rattle.dbm_lines.specs.declared.forms.TextForm.{TextForm}
use Rattle.dbm_engines.specs.Loading.{AllSay, Loads, LoadsDump, LoadsLine}
use Rattle.dbm_engines.specs.Storing.{StoresAll, StoresAlone, StoresBefore, StoresPair}
use Rattle.dbm_lines.specs.Reading.{line_bytes, after_line, ReadsLine}
use Rattle.dbm_engines.specs.declared.load_stop.LoadStop.{LoadStop}
use Rattle.dbm_engines.specs.declared.load_stop.LoadStop.TheVariants.{Memory, Read, Bad, Refused as RefusedAt}
use Rattle.dbm_lines.proofs.TextLines.{first_line, is_passed_in-kept, pair_in-kept}
use Rattle.dbm_engines.proofs.LoadingRuns.{fills, never_kept}
use Rattle.dbm_engines.proofs.Saying.{passes_one, says_one}
use Rattle.dbm_lines.proofs.PairLines.{lines_read, lines_say}

-- of a text, the lines that were read, and what is left
abbrev pub AreRead : Option (List ℕ) → Option (List ℕ) → List (List ℕ) → Type 0
AreRead None now done = Unit {0}
AreRead (Some text) None done = ⊥
AreRead (Some text) (Some rest) done = lines_of text ≡ done ++ lines_of rest

-- how far a text has been loaded
pub record IsLoading {S : Type 0} {s : Ghosts S} (form : TextForm) (old new : Database S s)
    (first now : Option (List ℕ)) (number : ℕ) : Type 0 where
  pub done : List (List ℕ)
  pub stored : List Pair
  pub read : AreRead first now done
  pub said : AllSay form done stored
  pub counted : number ≡ length done + 1
  pub stores : StoresAll old new stored

pub at_start : {S : Type 0} {s : Ghosts S} (form : TextForm) (db : Database S s)
    (first : Option (List ℕ))
    → ((h : Handle) → s.honest (store_of db) → IsAt db h → IsRun db db h [] [])
    → IsLoading form db db first first 1
at_start form db None none = record {
  done = [];
  stored = [];
  read = tt;
  said = refl;
  counted = refl;
  stores = λ honest h at. none h honest at;
}
at_start form db (Some text) none =
    record {
      done = [];
      stored = [];
      read = refl;
      said = refl;
      counted = refl;
      stores =
          λ honest h at. none h honest at;
    }

-- a line is read alike under the same form
pub read_in : (form other : TextForm) (now next : Option (List ℕ)) (more : Bool) (line : List ℕ)
    → other ≡ form → IfSome now (λ text. ReadsLine (longest_in other + 1) text more line next)
    → IfSome now (λ text. ReadsLine (longest_in form + 1) text more line next)
read_in form other now next more line same =
    subst (λ (f : TextForm).
    IfSome now (λ text. ReadsLine (longest_in f + 1) text more line next)) same

-- the line that was read is the next one of the text, or says the same
pub read_on : (form : TextForm) (first now next : Option (List ℕ)) (line : List ℕ)
    (done : List (List ℕ))
    → AreRead first now done → IfSome now (λ text. ReadsLine (longest_in form + 1) text true line next)
    → (whole : List ℕ) × (pair_in form whole ≡ pair_in form line)
    × (is_passed_in form whole ≡ is_passed_in form line) × AreRead first next (done ++ whole ∷ [])
read_on form None now next line done h r = (line, refl, refl, tt)
read_on form (Some text) None next line done h r = absurd h
read_on form (Some text) (Some []) next line done h r = let e = r.0 in cc
read_on form (Some text) (Some (x ∷ xs)) next line done h r = (
  line_bytes (x ∷ xs),
  sym (pair_in-kept form (line_bytes (x ∷ xs))) ∙ sym (ap (pair_in form) r.1),
  sym (is_passed_in-kept form (line_bytes (x ∷ xs))) ∙ sym (ap (is_passed_in form) r.1),
  rw (r.2) (h ∙ ap (λ rest. done ++ rest) (first_line x xs)
      ∙ sym (append_assoc done (line_bytes (x ∷ xs) ∷ []) (lines_of (after_line (x ∷ xs))))),
)

-- the lines behind those that were read
pub left_over : (first now : Option (List ℕ)) (done : List (List ℕ)) → AreRead first now done
    → (rest : List (List ℕ)) × IfSome first (λ text. lines_of text ≡ done ++ rest)
left_over None now done h = ([], tt)
left_over (Some text) None done h = absurd h
left_over (Some text) (Some rest) done h = (lines_of rest, h)

left_behind : (first : Option (List ℕ)) (done : List (List ℕ)) (line : List ℕ)
    (rest : List (List ℕ)) → IfSome first (λ text. lines_of text ≡ (done ++ line ∷ []) ++ rest)
    → IfSome first (λ text. lines_of text ≡ done ++ line ∷ rest)
left_behind None done line rest h = tt
left_behind (Some text) done line rest h = h ∙ append_assoc done (line ∷ []) rest

module _ {S : Type 0} (s : Ghosts S) (old mid new : Database S s)
    (honesty : s.honest (store_of old) → s.honest (store_of mid)) (goes : IsSameDatabase mid new)
    (counts : s.honest (store_of new) → CountsNow new) where
  -- one more pair was stored
  one_more : (pairs : List Pair) (pair : Pair) → StoresAll old mid pairs
      → (s.honest (store_of mid) → (h : Handle) → IsAt mid h
      → IsStep mid new h (replacing pair) Stored) → StoresAll old new (pairs ++ pair ∷ [])
  one_more pairs pair stores step honest h at =
      let run = stores honest h at in
      goes_on_with s old mid new h (map replacing pairs) (map (λ _. Stored) pairs) (replacing pair)
      Stored goes run (step (honesty honest) run.after run.is_at)
      (counts (goes.honesty.1 (honesty honest))) _ _
      (map-append replacing pairs (pair ∷ [])) (map-append (λ _. Stored) pairs (pair ∷ []))

  -- or was refused
  one_refused : (pairs : List Pair) (pair : Pair) (fault : Fault) → StoresAll old mid pairs
      → (s.honest (store_of mid) → (h : Handle) → IsAt mid h
      → IsStep mid new h (replacing pair) (Refused fault))
      → StoresBefore old new pairs pair fault
  one_refused pairs pair fault stores step honest h at =
      let run = stores honest h at in
      goes_on_with s old mid new h (map replacing pairs) (map (λ _. Stored) pairs) (replacing pair)
      (Refused fault) goes run (step (honesty honest) run.after run.is_at)
      (counts (goes.honesty.1 (honesty honest))) _ _ refl refl

seen : {A : Type 0} {x y : A} → Some x ≡ Some y → x ≡ y
seen e = cc

-- a store that is acknowledged has stored
pub stored_pair : {S : Type 0} {s : Ghosts S} (key content : List ℕ) (reply : StoreReply)
    (old new : Database S s)
    → AtEachHandle old (λ h. IsStep old new h (Store key content Replace) (store_reply (Ok reply)))
    → StoresPair (Ok tt) old new (key, content)
stored_pair key content stored.Stored old new step = step
stored_pair key content stored.Kept old new step = λ honest h at. let one =
    step honest h at in absurd (never_kept h one.after key content one.step)

-- so was the line's pair, or it was refused
pub alone_line : {S : Type 0} {s : Ghosts S} (passed : Bool) (said : Option Pair)
    (key content : List ℕ) (number : ℕ) (result : Result Unit LoadStop) (old new : Database S s)
    → passed ≡ false → Some (key, content) ≡ said
    → StoresAlone result number old new (key, content) → LoadsLine passed result said number old new
alone_line true said key content number result old new not_passed e step = cc
alone_line false None key content number result old new not_passed e step = cc
alone_line {S} {s} false (Some pair) key content number (Ok done) old new not_passed e step =
    subst (λ (p : Pair). StoresAlone (Ok tt) number old new p) (seen e) step
alone_line {S} {s} false (Some pair) key content number (Err (RefusedAt n fault)) old new not_passed e step =
    subst (λ (p : Pair). StoresAlone (Err (RefusedAt n fault)) number old new p) (seen e) step
alone_line false (Some pair) key content number (Err (Bad n why)) old new not_passed e step =
    absurd step
alone_line false (Some pair) key content number (Err Memory) old new not_passed e step =
    absurd step
alone_line false (Some pair) key content number (Err Read) old new not_passed e step = absurd step

module _ {S : Type 0} (s : Ghosts S) (form : TextForm) (old mid new : Database S s)
    (first now next : Option (List ℕ)) (line : List ℕ) (number : ℕ)
    (honesty : s.honest (store_of old) → s.honest (store_of mid)) (goes : IsSameDatabase mid new)
    (counts : s.honest (store_of new) → CountsNow new) (h : IsLoading form old mid first now number)
    (r : IfSome now (λ text. ReadsLine (longest_in form + 1) text true line next)) where
  -- a line was read, and its pair was stored, or it was passed over
  pub go_on : LoadsLine (is_passed_in form line) (Ok tt) (pair_in form line) number mid new
      → IsLoading form old new first next (number + 1)
  go_on loaded =
      let whole = read_on form first now next line h.done h.read r in
      by_kind (is_passed_in form line) (pair_in form line) whole.0 whole.2 whole.1 whole.3 loaded
    where
      count : (whole : List ℕ) → number + 1 ≡ length (h.done ++ whole ∷ []) + 1
      count whole = omega (arith, h.counted, length-append h.done (whole ∷ []))

      by_kind : (passed : Bool) (said : Option Pair) (whole : List ℕ)
          → is_passed_in form whole ≡ passed → pair_in form whole ≡ said
          → AreRead first next (h.done ++ whole ∷ [])
          → LoadsLine passed (Ok tt) said number mid new
          → IsLoading form old new first next (number + 1)
      by_kind true said whole is says read loaded = record {
        done = h.done ++ whole ∷ [];
        stored = h.stored;
        read = read;
        said = passes_one form h.done h.stored whole is h.said;
        counted = count whole;
        stores = subst (λ (db : Database S s). StoresAll old db h.stored) (sym loaded) h.stores;
      }
      by_kind false None whole is says read loaded = absurd loaded
      by_kind false (Some pair) whole is says read loaded = record {
        done = h.done ++ whole ∷ [];
        stored = h.stored ++ pair ∷ [];
        read = read;
        said = says_one form h.done h.stored whole pair is says h.said;
        counted = count whole;
        stores = one_more s old mid new honesty goes counts h.stored pair h.stores loaded;
      }

  -- or the load stopped there
  pub stopped : (stop : LoadStop)
      → LoadsLine (is_passed_in form line) (Err stop) (pair_in form line) number mid new
      → Loads form (Err stop) first old new
  stopped stop loaded =
      let whole = read_on form first now next line h.done h.read r in
      let over = left_over first next (h.done ++ whole.0 ∷ []) whole.3 in
      by_stop stop (is_passed_in form line) (pair_in form line) whole.0 over.0 whole.2 whole.1
      (left_behind first h.done whole.0 over.0 over.1) loaded
    where
      by_stop : (stop : LoadStop) (passed : Bool) (said : Option Pair) (whole : List ℕ)
          (rest : List (List ℕ)) → is_passed_in form whole ≡ passed → pair_in form whole ≡ said
          → IfSome first (λ text. lines_of text ≡ h.done ++ whole ∷ rest)
          → LoadsLine passed (Err stop) said number mid new → Loads form (Err stop) first old new
      by_stop (Bad n why) false None whole rest is says lines loaded = record {
        first = h.done;
        rest = whole ∷ rest;
        stored = h.stored;
        lines = lines;
        said = h.said;
        ends = (
          loaded.0 ∙ h.counted,
          (is, says),
          subst (λ (db : Database S s). StoresAll old db h.stored) (sym loaded.1) h.stores,
        );
      }
      by_stop (RefusedAt n fault) false (Some pair) whole rest is says lines loaded = record {
        first = h.done;
        rest = whole ∷ rest;
        stored = h.stored;
        lines = lines;
        said = h.said;
        ends = (
          loaded.0 ∙ h.counted,
          inl (
            pair,
            (is, says),
            one_refused s old mid new honesty goes counts h.stored pair
                (fault_of fault) h.stores loaded.1,
          ),
        );
      }
      by_stop (Bad n why) false (Some pair) whole rest is says lines loaded = absurd loaded
      by_stop (RefusedAt n fault) false None whole rest is says lines loaded = absurd loaded
      by_stop Memory false said whole rest is says lines loaded = absurd loaded
      by_stop Read false said whole rest is says lines loaded = absurd loaded
      by_stop stop true said whole rest is says lines loaded = absurd loaded

module _ {S : Type 0} {s : Ghosts S} (form : TextForm) (old new : Database S s)
    (first now : Option (List ℕ)) (number : ℕ) (h : IsLoading form old new first now number) where
  -- the reading failed
  pub not_read : Loads form (Err Read) first old new
  not_read =
      let over = left_over first now h.done h.read in
      record {
        first = h.done;
        rest = over.0;
        stored = h.stored;
        lines = over.1;
        said = h.said;
        ends = h.stores;
      }

-- nothing was read and nothing called
pub not_begun : {S : Type 0} {s : Ghosts S} (form : TextForm) (db : Database S s)
    (first : Option (List ℕ))
    → ((h : Handle) → s.honest (store_of db) → IsAt db h → IsRun db db h [] [])
    → Loads form (Err Memory) first db db
not_begun form db first none =
    let over = lines_in first in
    record {
      first = [];
      rest = over.0;
      stored = [];
      lines = over.1;
      said = refl;
      ends =
          λ honest h at. none h honest at;
    }
  where
    lines_in : (first : Option (List ℕ))
        → (rest : List (List ℕ)) × IfSome first (λ text. lines_of text ≡ [] ++ rest)
    lines_in None = ([], tt)
    lines_in (Some text) = (lines_of text, refl)

-- a text is loaded alike under the same form
pub loads_in : {S : Type 0} {s : Ghosts S} (form other : TextForm) (result : Result Unit LoadStop)
    (old new : Database S s) (text : Option (List ℕ)) → other ≡ form
    → Loads other result text old new → Loads form result text old new
loads_in form other result old new text same =
    subst (λ (f : TextForm). Loads f result text old new) same

-- a dump is loaded back
pub dump_back : {S : Type 0} {s : Ghosts S} (form : TextForm) (result : Result Unit LoadStop)
    (old new : Database S s) (text : Option (List ℕ)) → Loads form result text old new
    → OnOk result (LoadsDump (dump_in form) text old new)
dump_back form (Err stop) old new text loads = tt
dump_back form (Ok done) old new text loads = λ honest h at none contents fit is.
    let run = loads.ends.1 honest h at in
    let lines = subst (λ (o : Option (List ℕ)).
    IfSome o (λ bytes. lines_of bytes ≡ loads.first ++ loads.rest)) is loads.lines in
    let whole = lines ∙ ap (λ (rest : List (List ℕ)). loads.first ++ rest) loads.ends.0
    ∙ append-nil loads.first in
    let same : loads.stored ≡ entries contents =
    lines_say form (entries contents) loads.stored fit
    (ap (map (pair_in form)) (sym (lines_read form (entries contents) fit)
    ∙ ap (lines_said form) whole) ∙ loads.said) in (
      run.after,
      run.is_at,
      fills contents h run.after none
          (subst (λ (pairs : List Pair).
          Run h (map replacing pairs) (map (λ _. Stored) pairs) run.after) same run.run),
    )
