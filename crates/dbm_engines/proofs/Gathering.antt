-- How far a text has been loaded, with pairs that are held back for a commit that they share.
use Rattle.std.proofs.Common.{◌≡◌, inl, inr, ℕ, ◌+◌, Bool, true, false, List, [], ◌∷◌, ◌++◌, length, Option, Some, None, IfSome, Result, Ok, Err, refl, sym, ap, subst, ◌∙◌, arith, append_assoc, length-append}
use Rattle.dbm_lines.specs.Lines.{lines_of}
use Rattle.dbm_model.specs.Pairs.{Pair}
use Rattle.page_io.specs.declared.store.PageStore.{Ghosts}
use Rattle.dbm_fault.specs.declared.fault.Fault as db
use Rattle.dbm_file.specs.Answers.{IsSameDatabase}
use Rattle.dbm_file.specs.declared.database.Database.{Database}
use Rattle.dbm_file.proofs.Runs.{goes_nowhere, still_goes}
use Rattle.dbm_lines.specs.Bounds.{longest_in}
use Rattle.dbm_lines.specs.Forms.{is_passed_in, pair_in}
use Rattle.dbm_lines.specs.Reading.{ReadsLine}
use Rattle.dbm_lines.specs.declared.forms.TextForm.{TextForm}
use Rattle.dbm_engines.specs.Batches.{BeginAt, GroupsLine, Numbered, StopsAt, StoresBatch, pairs_of}
use Rattle.dbm_engines.specs.Loading.{EndsBy, FirstSay, FirstSays, Loads, LoadsLine}
use Rattle.dbm_engines.specs.Storing.{IsRefused, StoresAll}
use Rattle.dbm_engines.specs.declared.load_stop.LoadStop.{LoadStop}
use Rattle.dbm_engines.specs.declared.load_stop.LoadStop.TheVariants.{Memory, Read, Bad, Refused}
use Rattle.dbm_engines.proofs.Batching.{pairs-append}
use Rattle.dbm_engines.proofs.Loading.{AreRead, IsLoading, read_on, left_over, stopped, not_read}
use Rattle.dbm_engines.proofs.Saying.{Heads, SayAt, first_before, first_is_said, parted, passes_on, says_of, takes_on}
use Rattle.dbm_engines.proofs.Stores.{OnlyNow, Counts, refused_later, stores_none, stores_more}

-- so far, with these pairs of the last lines held back
pub record IsGathering {S : Type 0} {s : Ghosts S} (form : TextForm) (old new : Database S s)
    (first now : Option (List ℕ)) (held : List Numbered) (number : ℕ) : Type 0 where
  pub done : List (List ℕ)
  pub stored : List Numbered
  pub read : AreRead first now done
  pub said : SayAt form 1 done (stored ++ held)
  pub counted : number ≡ length done + 1
  pub stores : StoresAll old new (pairs_of stored)

nothing_read : (first : Option (List ℕ)) → AreRead first first []
nothing_read None = tt
nothing_read (Some text) = refl

pub none_held : {S : Type 0} (s : Ghosts S) (form : TextForm) (db : Database S s)
    (first : Option (List ℕ)) (held : List Numbered) → OnlyNow db → held ≡ []
    → IsGathering form db db first first held 1
none_held s form db first held only none = record {
  done = [];
  stored = [];
  read = nothing_read first;
  said = subst (λ (told : List Numbered). SayAt form 1 [] told) (sym none) tt;
  counted = refl;
  stores = stores_none s db only;
}

-- the first of some pairs heads these lines
head_of : (form : TextForm) (line k : ℕ) (lines : List (List ℕ)) (refused later : List Numbered)
    → BeginAt line refused → Heads form k lines (refused ++ later) → (line ≡ k)
    × (one : Numbered) × (more : List Numbered) × (refused ≡ one ∷ more)
    × FirstSays form lines (Some one.1)
head_of form line k lines [] later begin heads = absurd begin
head_of form line k lines (one ∷ more) later begin heads =
    (begin ∙ heads.0, one, more, refl, heads.1)

in_parts : (first : Option (List ℕ)) (done ahead rest over : List (List ℕ))
    → IfSome first (λ text. lines_of text ≡ done ++ over) → done ≡ ahead ++ rest
    → IfSome first (λ text. lines_of text ≡ ahead ++ (rest ++ over))
in_parts None done ahead rest over lines is = tt
in_parts (Some text) done ahead rest over lines is =
    lines ∙ ap (λ (ls : List (List ℕ)). ls ++ over) is ∙ append_assoc ahead rest over

-- a refused store of some pairs, the first of which heads these lines
refused_by : {S : Type 0} {s : Ghosts S} (form : TextForm) (old new : Database S s)
    (first lines rest : List (List ℕ)) (told refused : List Numbered) (line : ℕ) (fault : db.Fault)
    → IsRefused old new (pairs_of told) (pairs_of refused) fault → line ≡ length first + 1
    → (one : Numbered) → (more : List Numbered) → refused ≡ one ∷ more
    → FirstSays form lines (Some one.1) → FirstSay form lines (pairs_of refused)
    → EndsBy form (Err (Refused line fault)) old new first lines (pairs_of told)
refused_by form old new first lines rest told refused line fault (inl (pair, is, before)) at one more are says group =
    let same : one.1 ≡ pair = head_same (pairs_of refused) one.1 pair (pairs_of more)
    (ap pairs_of are) is in
    (at, inl (pair, subst (λ (p : Pair). FirstSays form lines (Some p)) same says, before))
  where
    head_same : (pairs : List Pair) (x y : Pair) (xs : List Pair) → pairs ≡ x ∷ xs
        → pairs ≡ y ∷ [] → x ≡ y
    head_same pairs x y xs first second = let e : x ∷ xs ≡ y ∷ [] = sym first ∙ second in cc
refused_by form old new first lines rest told refused line fault (inr (some, then)) at one more are says group =
    (at, inr (pairs_of refused, some, first_is_said form lines (Some one.1) says, group, then))

module _ {S : Type 0} (s : Ghosts S) (form : TextForm) (old mid new : Database S s)
    (first now : Option (List ℕ)) (held : List Numbered) (number : ℕ) (was : IsSameDatabase old mid)
    (goes : IsSameDatabase mid new) (h : IsGathering form old mid first now held number) where
  more_stored : (more : List Numbered) → StoresAll mid new (pairs_of more)
      → StoresAll old new (pairs_of (h.stored ++ more))
  more_stored more stores =
      subst (λ (ps : List Pair). StoresAll old new ps) (sym (pairs-append h.stored more))
      (stores_more s old mid was (pairs_of h.stored) h.stores new (pairs_of more) goes stores)

  -- some of the first ones that were held were stored
  pub moved : (stored kept : List Numbered) → held ≡ stored ++ kept
      → StoresAll mid new (pairs_of stored) → IsGathering form old new first now kept number
  moved stored kept is stores = record {
    done = h.done;
    stored = h.stored ++ stored;
    read = h.read;
    said = subst (λ (told : List Numbered). SayAt form 1 h.done told)
        (ap (λ (xs : List Numbered). h.stored ++ xs) is ∙ sym (append_assoc h.stored stored kept))
        h.said;
    counted = h.counted;
    stores = more_stored stored stores;
  }

  -- all of them
  pub all_stored : StoresAll mid new (pairs_of held) → IsLoading form old new first now number
  all_stored stores = record {
    done = h.done;
    stored = pairs_of (h.stored ++ held);
    read = h.read;
    said = says_of form 1 h.done (h.stored ++ held) h.said;
    counted = h.counted;
    stores = more_stored held stores;
  }

  -- a store was refused
  pub refused_within : (line : ℕ) (fault : db.Fault) → StopsAt mid new held line fault
      → Loads form (Err (Refused line fault)) first old new
  refused_within line fault stops =
      let told = h.stored ++ stops.stored in
      let behind = stops.refused ++ stops.later in
      let parts = parted form 1 h.done told behind
      (subst (λ (all : List Numbered). SayAt form 1 h.done all)
      (ap (λ (xs : List Numbered). h.stored ++ xs) stops.held_are
      ∙ sym (append_assoc h.stored stops.stored behind)) h.said) in
      let next = parted form (length parts.ahead + 1) parts.rest stops.refused stops.later
      parts.say_later in
      let over = left_over first now h.done h.read in
      let head = head_of form line (length parts.ahead + 1) parts.rest stops.refused stops.later
      stops.begin parts.heads in
      let how = subst (λ (ps : List Pair). IsRefused old new ps (pairs_of stops.refused) fault)
      (sym (pairs-append h.stored stops.stored))
      (refused_later s old mid was (pairs_of h.stored) h.stores new (pairs_of stops.stored)
      (pairs_of stops.refused) fault goes stops.how) in
      let group : FirstSay form (parts.rest ++ over.0) (pairs_of stops.refused) = (
        next.ahead,
        next.rest ++ over.0,
        ap (λ (ls : List (List ℕ)). ls ++ over.0) next.lines_are
            ∙ append_assoc next.ahead next.rest over.0,
        says_of form (length parts.ahead + 1) next.ahead stops.refused next.say_first,
      ) in
      record {
        first = parts.ahead;
        rest = parts.rest ++ over.0;
        stored = pairs_of told;
        lines = in_parts first h.done parts.ahead parts.rest over.0 over.1 parts.lines_are;
        said = says_of form 1 parts.ahead told parts.say_first;
        ends = refused_by form old new parts.ahead (parts.rest ++ over.0) over.0 told stops.refused
            line fault how head.0 head.1 head.2 head.3
            (first_before form parts.rest over.0 (Some head.1.1) head.4) group;
      }

  -- the store of those that were held failed
  pub batch_refused : (stop : LoadStop) → StoresBatch (Err stop) mid new held
      → Loads form (Err stop) first old new
  batch_refused (Refused line fault) stops = refused_within line fault stops
  batch_refused (Bad n why) stops = absurd stops
  batch_refused Memory stops = absurd stops
  batch_refused Read stops = absurd stops

  -- all were stored, and the reading had failed
  pub unread : StoresAll mid new (pairs_of held) → Loads form (Err Read) first old new
  unread stores = not_read form old new first now number (all_stored stores)

  -- the text was at its end
  pub ended : (result : Result Unit LoadStop) (line : List ℕ) (next : Option (List ℕ))
      → IfSome now (λ text. ReadsLine (longest_in form + 1) text false line next)
      → StoresBatch result mid new held → Loads form result first old new
  ended (Err stop) line next r stops = batch_refused stop stops
  ended (Ok done) line next r stores = record {
    first = h.done;
    rest = [];
    stored = pairs_of (h.stored ++ held);
    lines = no_more first now h.read r;
    said = says_of form 1 h.done (h.stored ++ held) h.said;
    ends = (refl, more_stored held stores);
  }
    where
      no_more : (first now : Option (List ℕ)) → AreRead first now h.done
          → IfSome now (λ text. ReadsLine (longest_in form + 1) text false line next)
          → IfSome first (λ text. lines_of text ≡ h.done ++ [])
      no_more None now read r = tt
      no_more (Some text) None read r = absurd read
      no_more (Some text) (Some []) read r = read
      no_more (Some text) (Some (x ∷ xs)) read r = absurd (let e = r.0 in cc)

module _ {S : Type 0} (s : Ghosts S) (form : TextForm) (old mid new : Database S s)
    (first now next : Option (List ℕ)) (line : List ℕ) (held : List Numbered) (number : ℕ)
    (was : IsSameDatabase old mid) (goes : IsSameDatabase mid new) (counts : Counts new)
    (h : IsGathering form old mid first now held number)
    (r : IfSome now (λ text. ReadsLine (longest_in form + 1) text true line next)) where
  count : (whole : List ℕ) → number + 1 ≡ length (h.done ++ whole ∷ []) + 1
  count whole = omega (arith, h.counted, length-append h.done (whole ∷ []))

  -- a line was read, which says a pair
  took : (pair : Pair) → is_passed_in form line ≡ false → pair_in form line ≡ Some pair
      → IsGathering form old mid first next (held ++ (number, pair) ∷ []) (number + 1)
  took pair read says =
      let whole = read_on form first now next line h.done h.read r in
      record {
        done = h.done ++ whole.0 ∷ [];
        stored = h.stored;
        read = whole.3;
        said = subst (λ (told : List Numbered). SayAt form 1 (h.done ++ whole.0 ∷ []) told)
            (append_assoc h.stored held ((number, pair) ∷ []))
            (takes_on form 1 h.done (h.stored ++ held) whole.0 (number, pair) (whole.2 ∙ read)
            (whole.1 ∙ says) h.counted h.said);
        counted = count whole.0;
        stores = h.stores;
      }

  -- or is passed over
  passed : is_passed_in form line ≡ true → IsGathering form old mid first next held (number + 1)
  passed is =
      let whole = read_on form first now next line h.done h.read r in
      record {
        done = h.done ++ whole.0 ∷ [];
        stored = h.stored;
        read = whole.3;
        said = passes_on form 1 h.done (h.stored ++ held) whole.0 (whole.2 ∙ is) h.said;
        counted = count whole.0;
        stores = h.stores;
      }

  pub line_went : (kept : List Numbered)
      → GroupsLine (is_passed_in form line) (Ok tt) (pair_in form line) number mid new held kept
      → IsGathering form old new first next kept (number + 1)
  line_went kept went = by_kind (is_passed_in form line) (pair_in form line) refl refl went
    where
      by_kind : (b : Bool) (said : Option Pair) → is_passed_in form line ≡ b
          → pair_in form line ≡ said → GroupsLine b (Ok tt) said number mid new held kept
          → IsGathering form old new first next kept (number + 1)
      by_kind true said is says went =
          subst (λ (db : Database S s). IsGathering form old db first next kept (number + 1))
          (sym went.0)
          (subst (λ (k : List Numbered). IsGathering form old mid first next k (number + 1))
          (sym went.1) (passed is))
      by_kind false None is says went = absurd went
      by_kind false (Some pair) is says (stored, are, stores) =
          moved s form old mid new first next (held ++ (number, pair) ∷ []) (number + 1) was goes
          (took pair is says) stored kept are stores

  pub line_stopped : (stop : LoadStop) (kept : List Numbered)
      → GroupsLine (is_passed_in form line) (Err stop) (pair_in form line) number mid new held kept
      → Loads form (Err stop) first old new
  line_stopped stop kept went =
      by_stop stop (is_passed_in form line) (pair_in form line) refl refl went
    where
      by_stop : (stop : LoadStop) (b : Bool) (said : Option Pair) → is_passed_in form line ≡ b
          → pair_in form line ≡ said → GroupsLine b (Err stop) said number mid new held kept
          → Loads form (Err stop) first old new
      by_stop (Refused n fault) false (Some pair) is says stops =
          refused_within s form old mid new first next (held ++ (number, pair) ∷ []) (number + 1)
          was goes (took pair is says) n fault stops
      by_stop (Refused n fault) false None is says stops =
          refused_within s form old mid new first now held number was goes h n fault stops
      by_stop (Bad n why) false None is says (at, stores) =
          let so = still_goes old mid new was goes in
          stopped s form old new new first now next line number so.honesty.1
          (goes_nowhere new) counts
          (all_stored s form old mid new first now held number was goes h stores) r (Bad n why)
          (subst (λ b. LoadsLine b (Err (Bad n why)) (pair_in form line) number new new) (sym is)
          (subst (λ (said : Option Pair). LoadsLine false (Err (Bad n why)) said number new new)
          (sym says) (at, refl)))
      by_stop (Bad n why) false (Some pair) is says stops = absurd stops
      by_stop Memory false said is says stops = absurd stops
      by_stop Read false said is says stops = absurd stops
      by_stop stop true said is says stops = absurd stops
