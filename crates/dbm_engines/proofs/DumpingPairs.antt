-- Pairs gathered by a pass, with the content of each key.
use Rattle.std.proofs.Common.{◌≡◌, ◌⊎◌, inl, inr, ⊎_elim, T, ℕ, ◌+◌, ◌≤◌, Bool, true, false, cond, ◌||◌, ◌&&◌, List, [], ◌∷◌, map, length, Option, Some, None, is_some, Result, Ok, Err, refl, sym, ◌∙◌, ap, subst, arith}
use Rattle.std.specs.Global.{Vec}
use Rattle.std.specs.BTreeMap.{insert_entry}
use Rattle.std.specs.Cmp.{tied_itself}
use Rattle.std.specs.Cmp.Lexicographic.{slice_cmp}
use Rattle.std.specs.FinMap.{entries, keys, get, contains_key, get-entries, entries_sorted, find, is_sorted, put, slice_cmp-IsAntisymmetric, nat_cmp-IsAntisymmetric}
use Rattle.std.specs.FinMap.Entries.{below_all, by_order}
use Rattle.std.specs.FinSet as set
use Rattle.std.specs.List.{AllByRecursion}
use Rattle.std.specs.Ordering.{eq_by_cmp, is_lt, is_eq, ordering_reverse, nat_cmp, match_ordering}
use Rattle.std.specs.declared.cmp.Ordering.{Ordering}
use Rattle.std.specs.declared.cmp.Ordering.TheVariants.{Less, Equal, Greater}
use Rattle.std.proofs.lemmas.Cmp.{nat_list_cmp_total}
use Rattle.std.proofs.lemmas.List.{length-map}
use Rattle.dbm_model.specs.Calls as model
use Rattle.dbm_model.specs.Calls.{Call, Fetch, NoRecord, Bytes, Next, End}
use Rattle.dbm_model.specs.Pairs.{Key, Pair, Contents, key_cmp}
use Rattle.dbm_model.specs.States.{State, Pass, Handle}
use Rattle.dbm_model.specs.Steps.{fetched, Answers, Suffers, holds_far, takes_memory}
use Rattle.page_io.specs.declared.store.PageStore.{Ghosts}
use Rattle.dbm_file.specs.Calls.{Lent, lent_reply}
use Rattle.dbm_fault.specs.Faults.{fault_of}
use Rattle.dbm_file.specs.declared.database.Database.{Database}
use Rattle.dbm_engines.specs.Dumping.{IsChance, IsPairChance, HasFar, IsCopied, CopiesStep}
use Rattle.dbm_fault.specs.declared.engine_fault.EngineFault.{EngineFault}
use Rattle.dbm_fault.specs.declared.engine_fault.EngineFault.TheVariants.{Db}
use Rattle.dbm_fault.specs.declared.fault.Fault.TheVariants as of_call
use Rattle.dbm_engines.proofs.DumpingKeys.{HasGathered, IsPassing, on_usable, by_chance, by_memory, pass_goes_on, pass_ends}
use Rattle.dbm_engines.proofs.KeySets.{key_put}

-- what a fetch gives of a key that has this, and what it leaves where it gives something; whether
-- it takes memory is given
abbrev FetchGives : Bool → State → State → Option (List ℕ) → Result (Option (Vec ℕ)) EngineFault
    → Type 0
FetchGives takes before after found (Ok None) = (found ≡ None) × (after ≡ before)
FetchGives takes before after found (Ok (Some copy)) = (found ≡ Some copy.items) × (after ≡ before)
FetchGives takes before after found (Err fault) =
    IsChance fault ⊎ ((fault ≡ Db of_call.Memory) × (takes ≡ true))

no_bytes : (bytes : List ℕ) → Bytes bytes ≡ NoRecord → ⊥
no_bytes bytes e = cc

no_fault : (bytes : List ℕ) (fault : model.Fault) → Bytes bytes ≡ model.Refused fault → ⊥
no_fault bytes fault e = cc

no_refusal : (fault : model.Fault) → model.Refused fault ≡ NoRecord → ⊥
no_refusal fault e = cc

same_bytes : (a b : List ℕ) → Bytes a ≡ Bytes b → b ≡ a
same_bytes a b e = cc

fetch_gives : (before after : Handle) (call : Call) (found : Option (List ℕ)) (lent : Lent)
    (result : Result (Option (Vec ℕ)) EngineFault) → IsCopied lent result
    → Answers before.state (fetched found) (lent_reply NoRecord lent) after.state
    ⊎ Suffers before call (fetched found) (lent_reply NoRecord lent) after
    → FetchGives (takes_memory before call) before.state after.state found result
fetch_gives before after call None (Ok None) (Ok None) copied h =
    ⊎_elim (λ x. (refl, x.1)) (⊎_elim (λ x. absurd (no_refusal model.Device (sym x.0)))
    (λ x. absurd (no_refusal model.Memory (sym x.0)))) h
fetch_gives before after call (Some content) (Ok None) (Ok None) copied h =
    ⊎_elim (λ x. absurd (no_bytes content (sym x.0)))
    (⊎_elim (λ x. absurd (no_refusal model.Device (sym x.0)))
    (λ x. absurd (no_refusal model.Memory (sym x.0)))) h
fetch_gives before after call found (Ok None) (Ok (Some copy)) copied h = absurd copied
fetch_gives before after call found (Ok None) (Err told) copied h = absurd copied
fetch_gives before after call found (Ok (Some bytes)) (Ok None) copied h = absurd copied
fetch_gives before after call None (Ok (Some bytes)) (Ok (Some copy)) copied h =
    ⊎_elim (λ x. absurd (no_bytes bytes.now x.0))
    (⊎_elim (λ x. absurd (no_fault bytes.now model.Device x.0))
    (λ x. absurd (no_fault bytes.now model.Memory x.0))) h
fetch_gives before after call (Some content) (Ok (Some bytes)) (Ok (Some copy)) copied h =
    ⊎_elim (λ x. (ap Some (same_bytes bytes.now content x.0 ∙ sym copied), x.1))
    (⊎_elim (λ x. absurd (no_fault bytes.now model.Device x.0))
    (λ x. absurd (no_fault bytes.now model.Memory x.0))) h
fetch_gives before after call found (Ok (Some bytes)) (Err told) copied h = inl (inl copied)
fetch_gives before after call found (Err why) (Ok None) copied h = absurd copied
fetch_gives before after call found (Err why) (Ok (Some copy)) copied h = absurd copied
fetch_gives before after call None (Err why) (Err told) copied h =
    ⊎_elim (λ x. absurd (no_refusal (fault_of why) x.0))
    (⊎_elim (λ x. inl (by_chance why told copied x.0))
    (λ x. inr (by_memory why told copied x.0, x.2))) h
fetch_gives before after call (Some content) (Err why) (Err told) copied h =
    ⊎_elim (λ x. absurd (no_fault content (fault_of why) (sym x.0)))
    (⊎_elim (λ x. inl (by_chance why told copied x.0))
    (λ x. inr (by_memory why told copied x.0, x.2))) h

-- ---- pairs with the contents of a map

abbrev pub IsOf : Contents → Pair → Type 0
IsOf m pair = get m pair.0 ≡ Some pair.1

other_way : (r : Ordering) → T (is_lt r) → is_eq (ordering_reverse r) ≡ false
other_way Less h = refl
other_way Equal h = absurd h
other_way Greater h = refl

of_both : (a b : Bool) → T (a && b) → T a × T b
of_both true b h = (tt, h)
of_both false b h = absurd h

-- an entry before changes nothing
later_found : (e : Pair) (es rest : List Pair) → T (below_all key_cmp e.0 rest)
    → AllByRecursion (λ x. find key_cmp x.0 es ≡ Some x.1) rest
    → AllByRecursion (λ x. find key_cmp x.0 (e ∷ es) ≡ Some x.1) rest
later_found e es [] h found = tt
later_found e es (x ∷ rest) h found =
    let below = of_both (is_lt (key_cmp e.0 x.0)) (below_all key_cmp e.0 rest) h in
    let other : eq_by_cmp key_cmp x.0 e.0 ≡ false =
    ap is_eq (nat_list_cmp_total.antisymm x.0 e.0) ∙ other_way (key_cmp e.0 x.0) below.0 in (
      ap (λ b. cond b (Some e.1) (find key_cmp x.0 es)) other ∙ found.0,
      later_found e es rest below.1 found.1,
    )

found_there : (es : List Pair) → T (is_sorted key_cmp es)
    → AllByRecursion (λ x. find key_cmp x.0 es ≡ Some x.1) es
found_there [] h = tt
found_there (e ∷ es) h =
    let parts = of_both (below_all key_cmp e.0 es) (is_sorted key_cmp es) h in (
      ap (λ r. cond (is_eq r) (Some e.1) (find key_cmp e.0 es)) (tied_itself nat_list_cmp_total e.0),
      later_found e es es parts.0 (found_there es parts.1),
    )

same_pairs : (m : Contents) (ps es : List Pair)
    → map (λ (x : Pair). x.0) ps ≡ map (λ (x : Pair). x.0) es → AllByRecursion (IsOf m) ps
    → AllByRecursion (λ x. find key_cmp x.0 (entries m) ≡ Some x.1) es → ps ≡ es
same_pairs m [] [] e all found = refl
same_pairs m [] (x ∷ es) e all found = cc
same_pairs m (p ∷ ps) [] e all found = cc
same_pairs m (p ∷ ps) (x ∷ es) e all found =
    let key : p.0 ≡ x.0 = cc in
    let rest : map (λ (y : Pair). y.0) ps ≡ map (λ (y : Pair). y.0) es = cc in
    let both : Some p.1 ≡ Some x.1 = sym all.0 ∙ ap (get m) key ∙ get-entries m x.0 ∙ found.0 in
    let content : p.1 ≡ x.1 = cc in
    let others = same_pairs m ps es rest all.1 found.1 in
    λ i. (key i, content i) ∷ others i

-- pairs of all keys of a map are its entries
pub all_pairs : (m : Contents) (ps : List Pair) → map (λ (x : Pair). x.0) ps ≡ keys m
    → AllByRecursion (IsOf m) ps → ps ≡ entries m
all_pairs m ps e all = same_pairs m ps (entries m) e all
    (found_there (entries m) (entries_sorted m))

-- ---- a pair put among others

-- what holds of the others and of it holds of all
all_put : (P : Pair → Type 0) (key : Key) (content : List ℕ) (es : List Pair)
    → AllByRecursion P es → P (key, content) → AllByRecursion P (put key_cmp key content es)
all_put P key content [] all is = (is, tt)
all_put P key content (e ∷ es) all is =
    by_place _ (key_cmp key e.0) refl (all_put P key content es all.1 is)
  where
    by_place : (more : List Pair) (r : Ordering) → key_cmp key e.0 ≡ r → AllByRecursion P more
        → AllByRecursion P (by_order r ((key, content) ∷ e ∷ es) ((e.0, content) ∷ es) (e ∷ more))
    by_place more Less place rest = (is, all)
    by_place more Equal place rest = (
      subst (λ (k : Key). P (k, content))
          (slice_cmp-IsAntisymmetric nat_cmp-IsAntisymmetric key e.0 place) is,
      all.1,
    )
    by_place more Greater place rest = (all.0, rest)

-- the order of owned keys
abbrev pub vec_cmp : Vec ℕ → Vec ℕ → Ordering
vec_cmp x y = slice_cmp nat_cmp x.items y.items

abbrev pub Owned : Type 0
Owned = Vec ℕ × Vec ℕ

abbrev pub bytes_of : List Owned → List Pair
bytes_of pairs = map (λ (x : Owned). (x.0.items, x.1.items)) pairs

bytes_inserted : (es : List Owned) (key content : Vec ℕ)
    → bytes_of (insert_entry vec_cmp es key content)
    ≡ put key_cmp key.items content.items (bytes_of es)
bytes_inserted [] key content = refl
bytes_inserted (e ∷ es) key content =
    seen _ _ (vec_cmp key e.0) (bytes_inserted es key content)
  where
    seen : (more : List Owned) (rest : List Pair) (r : Ordering) → bytes_of more ≡ rest
        → bytes_of (match_ordering r ((key, content) ∷ e ∷ es) ((e.0, content) ∷ es) (e ∷ more))
        ≡ by_order r ((key.items, content.items) ∷ bytes_of (e ∷ es))
        ((e.0.items, content.items) ∷ bytes_of es) ((e.0.items, e.1.items) ∷ rest)
    seen more rest Less h = refl
    seen more rest Equal h = refl
    seen more rest Greater h = ap (λ (xs : List Pair). (e.0.items, e.1.items) ∷ xs) h

pub pair_put : (old new : List Owned) (key content : Vec ℕ)
    → new ≡ insert_entry vec_cmp old key content
    → bytes_of new ≡ put key_cmp key.items content.items (bytes_of old)
pair_put old new key content inserted = ap bytes_of inserted ∙ bytes_inserted old key content

-- at most one pair more
inserted_length : (es : List Owned) (key content : Vec ℕ)
    → length (insert_entry vec_cmp es key content) ≤ length es + 1
inserted_length [] key content = omega arith
inserted_length (e ∷ es) key content =
    by_place _ (vec_cmp key e.0) (inserted_length es key content)
  where
    by_place : (more : List Owned) (r : Ordering) → length more ≤ length es + 1
        → length (match_ordering r ((key, content) ∷ e ∷ es) ((e.0, content) ∷ es) (e ∷ more))
        ≤ length (e ∷ es) + 1
    by_place more Less le = omega arith
    by_place more Equal le = omega arith
    by_place more Greater le = omega (arith, le)

pub one_pair_more : (old new : List Owned) (key content : Vec ℕ) (count : ℕ)
    → new ≡ insert_entry vec_cmp old key content → length old ≤ count → length new ≤ count + 1
one_pair_more old new key content count inserted le =
    omega (arith, ap length inserted, inserted_length old key content, le)

-- ---- a pass with the contents of its keys

abbrev pub keys_of : List Pair → List Key
keys_of pairs = map (λ (x : Pair). x.0) pairs

pub many_bytes : (pairs : List Owned) → length (keys_of (bytes_of pairs)) ≡ length pairs
many_bytes pairs = length-map (bytes_of pairs) (λ (x : Pair). x.0)
    ∙ length-map pairs (λ (x : Owned). (x.0.items, x.1.items))

-- a pass over a database of the map, as far as it has come, and the content of each key that it gave
-- before the last one
pub record IsFetching {S : Type 0} {s : Ghosts S} (db : Database S s) (m : Contents)
    (done : List Pair) (given : Option (Vec ℕ)) (count : ℕ) : Type 0 where
  pub pass : IsPassing db m (keys_of done) given count
  pub found : AllByRecursion (IsOf m) done

or_true : (b : Bool) → (b || true) ≡ true
or_true true = refl
or_true false = refl

-- a key that the pass gave has a content
has_content : (m : Contents) (done : List Key) (given : Option (Vec ℕ)) (key : Vec ℕ) (count : ℕ)
    (pass : Pass) → HasGathered m done given count pass → given ≡ Some key
    → get m key.items ≡ None → ⊥
has_content m done None key count pass held is none = cc
has_content m done (Some given) key count pass held is none =
    let same : given.items ≡ key.items = cc in
    let there : contains_key m given.items ≡ true = held.whole given.items
    ∙ ap (λ r. contains_key held.some given.items
    || (is_eq r || set.contains held.left given.items)) (tied_itself nat_list_cmp_total given.items)
    ∙ or_true (contains_key held.some given.items) in
    let e : true ≡ false = sym there ∙ ap (λ (k : Key). contains_key m k) same
    ∙ ap is_some none in
    cc

module _ {S : Type 0} {s : Ghosts S} where
  -- it is begun with nothing
  pub fetch_begins : (db : Database S s) (m : Contents) (done : List Pair) (given : Option (Vec ℕ))
      → done ≡ [] → IsPassing db m [] given 0 → IsFetching db m done given 0
  fetch_begins db m done given none begun =
      subst (λ (ps : List Pair). IsFetching db m ps given 0) (sym none)
      (record { pass = begun; found = tt })

  -- and ends, where no key came
  pub fetch_ends : (db : Database S s) (m : Contents) (done : List Pair) (given : Option (Vec ℕ))
      (count : ℕ) → IsFetching db m done given count → given ≡ None → done ≡ entries m
  fetch_ends db m done given count so_far none =
      all_pairs m done (pass_ends db m (keys_of done) given count so_far.pass none) so_far.found

  -- the content of a key
  module _ (old mid : Database S s) (m : Contents) (done : List Pair) (given : Option (Vec ℕ))
      (count : ℕ) (key : Vec ℕ) (bytes : Key) (result : Result (Option (Vec ℕ)) EngineFault)
      (so_far : IsFetching old m done given count) (is : given ≡ Some key)
      (asked : bytes ≡ key.items)
      (step : CopiesStep old mid so_far.pass.now (Fetch bytes) NoRecord result) where
    abbrev Gives : Result (Option (Vec ℕ)) EngineFault → Type 0
    Gives told = FetchGives (takes_memory so_far.pass.now (Fetch bytes)) so_far.pass.now.state
        step.2.after.state (get m key.items) told

    gives : Gives result
    gives = subst (λ (k : Key). FetchGives (takes_memory so_far.pass.now (Fetch bytes))
        so_far.pass.now.state step.2.after.state (get m k) result) asked
        (subst (λ (all : Contents). FetchGives (takes_memory so_far.pass.now (Fetch bytes))
        so_far.pass.now.state step.2.after.state (get all bytes) result)
        so_far.pass.map_is
        (fetch_gives so_far.pass.now step.2.after (Fetch bytes) (get so_far.pass.now.state.map bytes) step.0
        result step.1 (on_usable so_far.pass.now step.2.after (Fetch bytes)
        (lent_reply NoRecord step.0) so_far.pass.usable step.2.step)))

    asks_far : takes_memory so_far.pass.now (Fetch bytes) ≡ true → HasFar m
    asks_far takes = (
      bytes,
      subst (λ (all : Contents). holds_far bytes (get all bytes) ≡ true) so_far.pass.map_is takes,
    )

    pub fetch_goes_on_not : (fault : EngineFault) → result ≡ Err fault → IsPairChance m fault
    fetch_goes_on_not fault badly =
        ⊎_elim (λ chance. inl chance) (λ lacks. inr (lacks.0, asks_far lacks.1))
        (subst Gives badly gives)

    -- is not missing
    pub none_missing : result ≡ Ok None → ⊥
    none_missing missing =
        let given_none : Gives (Ok None) = subst Gives missing gives in
        has_content m (keys_of done) given key count so_far.pass.now.state.pass so_far.pass.held is
        given_none.0

    module _ (copy : Vec ℕ) (well : result ≡ Ok (Some copy)) where
      found_is : Gives (Ok (Some copy))
      found_is = subst Gives well gives

      -- a fetch leaves the pass where it was
      pub pass_stays : IsPassing mid m (keys_of done) given count
      pass_stays = record {
        now = step.2.after;
        is_at = step.2.is_at;
        map_is = ap (λ (x : State). x.map) found_is.1 ∙ so_far.pass.map_is;
        usable = ap (λ (x : State). x.usable) found_is.1 ∙ so_far.pass.usable;
        held = subst (λ (p : Pass). HasGathered m (keys_of done) given count p)
            (sym (ap (λ (x : State). x.pass) found_is.1)) so_far.pass.held;
      }

      -- which then goes on
      pub fetch_goes_on : (new : Database S s) (again : Result (Option (Vec ℕ)) EngineFault)
          (next : Option (Vec ℕ)) (more : List Pair)
          → CopiesStep mid new step.2.after Next End again → again ≡ Ok next
          → more ≡ put key_cmp key.items copy.items done → IsFetching new m more next (count + 1)
      unfolding pass_stays
      fetch_goes_on new again next more made told inserted = record {
        pass = pass_goes_on mid new m (keys_of done) given key count again pass_stays is made next
            (keys_of more) told
            (ap keys_of inserted ∙ sym (key_put key.items copy.items done));
        found = subst (λ (ps : List Pair). AllByRecursion (IsOf m) ps) (sym inserted)
            (all_put (IsOf m) key.items copy.items done so_far.found found_is.0);
      }
