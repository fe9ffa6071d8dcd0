-- What a pass has given, and what is gathered of it.
use Rattle.std.proofs.Common.{◌≡◌, ◌≢◌, ◌⊎◌, inl, inr, ⊎_elim, ℕ, ◌+◌, ◌≤◌, ◌<◌, Bool, true, false, cond, ◌||◌, List, [], ◌∷◌, map, length, Option, Some, None, is_some, Result, Ok, Err, MatchResult, refl, sym, ◌∙◌, ap, subst, arith}
use Rattle.std.specs.Global.{Vec}
use Rattle.std.specs.BTreeSet.{insert_key}
use Rattle.std.specs.Cmp.Lexicographic.{slice_cmp}
use Rattle.std.specs.FinMap as finite
use Rattle.std.specs.FinMap.{entries, keys, contains_key, put}
use Rattle.std.specs.FinSet as set
use Rattle.std.specs.Ordering.{eq_by_cmp, nat_cmp, match_ordering}
use Rattle.std.specs.declared.cmp.Ordering.{Ordering}
use Rattle.std.specs.declared.cmp.Ordering.TheVariants.{Less, Equal, Greater}
use Rattle.std.proofs.lemmas.Cmp.{nat_list_cmp_total}
use Rattle.std.proofs.lemmas.List.{length-map}
use Rattle.dbm_model.specs.Calls as model
use Rattle.dbm_model.specs.Calls.{Call, First, Next, End, Bytes}
use Rattle.dbm_model.specs.Pairs.{Key, Contents, key_cmp}
use Rattle.dbm_model.specs.States.{State, Pass, NotBegun, Begun, Behind, Handle}
use Rattle.dbm_model.specs.Steps.{Case, Passes, IsNextKey, IsOver, usable_case, broken_case, case_of, passed, Answers, Suffers, Step}
use Rattle.page_io.specs.declared.store.PageStore.{Ghosts}
use Rattle.dbm_file.specs.Calls.{Lent, lent_reply}
use Rattle.dbm_file.specs.Database.{IsAt}
use Rattle.dbm_fault.specs.Faults.{fault_of}
use Rattle.dbm_file.specs.declared.database.Database.{Database}
use Rattle.dbm_fault.specs.declared.fault.Fault.{Fault}
use Rattle.dbm_fault.specs.declared.fault.Fault.TheVariants.{Device}
use Rattle.dbm_fault.specs.declared.fault.Fault.TheVariants as fault
use Rattle.dbm_engines.specs.Dumping.{IsChance, IsCopied, CopiesStep}
use Rattle.dbm_engines.proofs.Dumping.{keeps_map, reads_first, reads_next}
use Rattle.dbm_fault.specs.declared.engine_fault.EngineFault.{EngineFault}
use Rattle.dbm_fault.specs.declared.engine_fault.EngineFault.TheVariants.{Db}
use Rattle.dbm_engines.proofs.PassSets.{HasAhead, all_ahead, next_among, others_ahead, none_ahead}
use Rattle.dbm_engines.proofs.KeySets.{Keys, Gathered, key_inserted, contains_inserted, all_gathered, nothing, keys_of_nothing, contains_nothing, all_counted, fewer_by_one, taken}

-- ---- a pass

device_only : (why : Fault) → fault_of why ≡ model.Device → why ≡ Device
device_only fault.Memory e = cc
device_only fault.Device e = refl
device_only fault.Broken e = cc
device_only fault.ReadOnly e = cc
device_only fault.TooLong e = cc
device_only fault.Full e = cc
device_only fault.NoPass e = cc
device_only fault.NoRoom e = cc
device_only fault.Damaged e = cc
device_only fault.NotADatabase e = cc
device_only fault.Version e = cc
device_only fault.TooSmall e = cc
device_only fault.BadLimit e = cc
device_only fault.Missing e = cc
device_only fault.Exists e = cc

memory_only : (why : Fault) → fault_of why ≡ model.Memory → why ≡ fault.Memory
memory_only fault.Memory e = refl
memory_only fault.Device e = cc
memory_only fault.Broken e = cc
memory_only fault.ReadOnly e = cc
memory_only fault.TooLong e = cc
memory_only fault.Full e = cc
memory_only fault.NoPass e = cc
memory_only fault.NoRoom e = cc
memory_only fault.Damaged e = cc
memory_only fault.NotADatabase e = cc
memory_only fault.Version e = cc
memory_only fault.TooSmall e = cc
memory_only fault.BadLimit e = cc
memory_only fault.Missing e = cc
memory_only fault.Exists e = cc

pub by_memory : (why : Fault) (told : EngineFault) → told ≡ Db why
    → model.Refused (fault_of why) ≡ model.Refused model.Memory → told ≡ Db fault.Memory
by_memory why told is refused =
    let e : fault_of why ≡ model.Memory = cc in is ∙ ap Db (memory_only why e)

-- what refuses a call that is answered from the file
pub by_chance : (why : Fault) (told : EngineFault) → told ≡ Db why
    → model.Refused (fault_of why) ≡ model.Refused model.Device → IsChance told
by_chance why told is refused =
    let e : fault_of why ≡ model.Device = cc in
    inr (is ∙ ap Db (device_only why e))

-- what a pass that stands there gives, and where it stands then
abbrev PassGives : Contents → Pass → Pass → Result (Option (Vec ℕ)) EngineFault → Type 0
PassGives m from pass (Ok None) = IsOver m from
PassGives m from pass (Ok (Some key)) = IsNextKey m from key.items × (pass ≡ Behind key.items)
PassGives m from pass (Err fault) = IsChance fault

pass_gives : (before after : Handle) (call : Call) (from : Pass) (lent : Lent)
    (result : Result (Option (Vec ℕ)) EngineFault) → IsCopied lent result
    → Answers before.state (Passes from) (lent_reply End lent) after.state
    ⊎ Suffers before call (Passes from) (lent_reply End lent) after
    → PassGives before.state.map from after.state.pass result
pass_gives before after call from (Ok None) (Ok None) copied h =
    ⊎_elim (λ given. ⊎_elim (λ x. x.0) (λ x. let e = x.2 in absurd (no_key x.0 e)) given)
    (λ x. let e = x.0 in cc) h
  where
    no_key : (key : Key) → End ≡ Bytes key → ⊥
    no_key key e = cc
pass_gives before after call from (Ok None) (Ok (Some copy)) copied h = absurd copied
pass_gives before after call from (Ok None) (Err told) copied h = absurd copied
pass_gives before after call from (Ok (Some bytes)) (Ok None) copied h = absurd copied
pass_gives before after call from (Ok (Some bytes)) (Ok (Some copy)) copied h = ⊎_elim
    (λ given. ⊎_elim (λ x. absurd (no_end x.1)) (λ x.
    let same : x.0 ≡ copy.items = sym (one_key x.0 x.2) ∙ sym copied in (
      subst (IsNextKey before.state.map from) same x.1,
      ap (λ (s : State). s.pass) x.3 ∙ ap Behind same,
    ))
    given)
    (λ x. absurd (no_fault x.0)) h
  where
    no_end : Bytes bytes.now ≡ End → ⊥
    no_end e = cc

    one_key : (key : Key) → Bytes bytes.now ≡ Bytes key → bytes.now ≡ key
    one_key key e = cc

    no_fault : Bytes bytes.now ≡ model.Refused model.Device → ⊥
    no_fault e = cc
pass_gives before after call from (Ok (Some bytes)) (Err told) copied h = inl copied
pass_gives before after call from (Err why) (Ok None) copied h = absurd copied
pass_gives before after call from (Err why) (Ok (Some copy)) copied h = absurd copied
pass_gives before after call from (Err why) (Err told) copied h = ⊎_elim
    (λ given. ⊎_elim (λ x. absurd (no_end x.1)) (λ x. absurd (no_bytes x.0 x.2)) given)
    (λ x. by_chance why told copied x.0) h
  where
    no_end : model.Refused (fault_of why) ≡ End → ⊥
    no_end e = cc

    no_bytes : (key : Key) → model.Refused (fault_of why) ≡ Bytes key → ⊥
    no_bytes key e = cc

-- ---- what is gathered

-- of the map's keys these are gathered, this one is to come next, and the others are left to the
-- pass
pub record IsGathering (m : Contents) (done : List Key) (key : Key) (count : ℕ)
    (pass : Pass) : Type 0 where
  pub left : Keys
  pub some : Gathered
  pub begun : pass ≢ NotBegun
  pub ahead : HasAhead m pass left
  pub done_is : done ≡ keys some
  pub whole : (q : Key) → contains_key m q
      ≡ (contains_key some q || (eq_by_cmp key_cmp q key || set.contains left q))
  pub counted : count + 1 + set.len left ≡ finite.len m

-- where no key came, all are gathered
abbrev pub HasGathered : Contents → List Key → Option (Vec ℕ) → ℕ → Pass → Type 0
HasGathered m done None count pass = done ≡ keys m
HasGathered m done (Some key) count pass = IsGathering m done key.items count pass

begins : (m : Contents) (pass : Pass) (result : Result (Option (Vec ℕ)) EngineFault)
    → PassGives m Begun pass result
    → MatchResult result (λ given. HasGathered m [] given 0 pass) IsChance
begins m pass (Ok None) over =
    let none = none_ahead m Begun (set.from_list (keys m)) (all_ahead m) over in
    sym keys_of_nothing ∙ all_gathered m nothing (λ q.
    finite.contains_key-keys m q ∙ sym (set.contains-from_list nat_list_cmp_total (keys m) q)
    ∙ ap (λ (x : Keys). set.contains x q) none ∙ set.contains-empty key_cmp q
    ∙ sym (contains_nothing q))
begins m pass (Ok (Some key)) given =
    let all : Keys = set.from_list (keys m) in
    let there = next_among m Begun all (all_ahead m) key.items given.0 in
    record {
      left = set.remove all key.items;
      some = nothing;
      begun = λ none. absurd (let e = sym given.1 ∙ none in cc);
      ahead = subst (λ (p : Pass). HasAhead m p (set.remove all key.items)) (sym given.1)
          (others_ahead m Begun all (all_ahead m) key.items given.0);
      done_is = sym keys_of_nothing;
      whole = λ q.
          finite.contains_key-keys m q ∙ sym (set.contains-from_list nat_list_cmp_total (keys m) q)
          ∙ taken all key.items q there
          ∙ ap (λ b. b || (eq_by_cmp key_cmp q key.items || set.contains (set.remove all key.items)
          q)) (sym (contains_nothing q));
      counted = let one = fewer_by_one all key.items there in let many = all_counted m in
          omega (arith, one, many);
    }
begins m pass (Err fault) chance = chance

no_more : (a b c : Bool) → c ≡ false → (a || (b || c)) ≡ (b || a)
no_more true true c e = refl
no_more true false c e = refl
no_more false true c e = refl
no_more false false c e = e

gone_over : (a b c : Bool) → (a || (b || c)) ≡ ((b || a) || c)
gone_over true true c = refl
gone_over true false c = refl
gone_over false true c = refl
gone_over false false c = refl

goes_on : (m : Contents) (done : List Key) (key : Key) (count : ℕ) (before pass : Pass)
    (held : IsGathering m done key count before) (result : Result (Option (Vec ℕ)) EngineFault)
    → PassGives m before pass result
    → MatchResult result (λ given.
    HasGathered m (insert_key key_cmp done key) given (count + 1) pass) IsChance
goes_on m done key count before pass held (Ok None) over =
    let none = none_ahead m before held.left held.ahead over in
    ap (λ (ks : List Key). insert_key key_cmp ks key) held.done_is ∙ key_inserted held.some key
    ∙ all_gathered m (finite.insert held.some key tt) (λ q.
    held.whole q
    ∙ no_more (contains_key held.some q) (eq_by_cmp key_cmp q key) (set.contains held.left q)
    (ap (λ (x : Keys). set.contains x q) none ∙ set.contains-empty key_cmp q)
    ∙ sym (contains_inserted held.some key q))
goes_on m done key count before pass held (Ok (Some next)) given = record {
  left = set.remove held.left next.items;
  some = finite.insert held.some key tt;
  begun = λ none. absurd (let e = sym given.1 ∙ none in cc);
  ahead = subst (λ (p : Pass). HasAhead m p (set.remove held.left next.items)) (sym given.1)
      (others_ahead m before held.left held.ahead next.items given.0);
  done_is = ap (λ (ks : List Key). insert_key key_cmp ks key) held.done_is
      ∙ key_inserted held.some key;
  whole = λ q.
      held.whole q ∙ gone_over (contains_key held.some q) (eq_by_cmp key_cmp q key)
      (set.contains held.left q)
      ∙ (λ i. sym (contains_inserted held.some key q) i || taken held.left next.items q
      (next_among m before held.left held.ahead next.items given.0) i);
  counted = let one = fewer_by_one held.left next.items
      (next_among m before held.left held.ahead next.items given.0) in let many = held.counted in
      omega (arith, one, many);
}
goes_on m done key count before pass held (Err fault) chance = chance

-- the rule of a call on a usable handle
pub on_usable : (before after : Handle) (call : Call) (reply : model.Reply)
    → before.state.usable ≡ true → Step before call reply after
    → Answers before.state (usable_case before.capacity before.state call) reply after.state
    ⊎ Suffers before call (usable_case before.capacity before.state call) reply after
on_usable before after call reply usable step =
    subst (λ (rule : Case). Answers before.state rule reply after.state
    ⊎ Suffers before call rule reply after)
    (ap (λ b. cond b (usable_case before.capacity before.state call)
    (broken_case before.capacity before.state call)) usable)
    step.answers

-- that of a pass which was begun
goes_by : (pass : Pass) → pass ≢ NotBegun → passed pass ≡ Passes pass
goes_by NotBegun begun = absurd (begun refl)
goes_by Begun begun = refl
goes_by (Behind last) begun = refl

-- a pass over a database of the map, as far as it has come
pub record IsPassing {S : Type 0} {s : Ghosts S} (db : Database S s) (m : Contents)
    (done : List Key) (given : Option (Vec ℕ)) (count : ℕ) : Type 0 where
  pub now : Handle
  pub is_at : IsAt db now
  pub map_is : now.state.map ≡ m
  pub usable : now.state.usable ≡ true
  pub held : HasGathered m done given count now.state.pass

module _ {S : Type 0} {s : Ghosts S} where
  passing : (db : Database S s) (m : Contents) (after : Handle) (done : List Key) (count : ℕ)
      (result : Result (Option (Vec ℕ)) EngineFault) → IsAt db after → after.state.map ≡ m
      → after.state.usable ≡ true
      → MatchResult result (λ given. HasGathered m done given count after.state.pass) IsChance
      → MatchResult result (λ given. IsPassing db m done given count) IsChance
  passing db m after done count (Ok given) at map usable held =
      record { now = after; is_at = at; map_is = map; usable = usable; held = held }
  passing db m after done count (Err fault) at map usable held = held

  -- a pass is begun
  begun : (old new : Database S s) (start : Handle) (result : Result (Option (Vec ℕ)) EngineFault)
      → start.state.usable ≡ true → CopiesStep old new start First End result
      → MatchResult result (λ given. IsPassing new start.state.map [] given 0) IsChance
  begun old new start result usable (lent, copied, made) =
      let keeps = keeps_map start made.after First (case_of start First) (lent_reply End lent)
      (reads_first start) made.step.answers in
      let gives = pass_gives start made.after First Begun lent result
      copied (on_usable start made.after First (lent_reply End lent) usable made.step) in
      passing new start.state.map made.after [] 0 result made.is_at keeps.map
      (keeps.usable ∙ usable) (begins start.state.map made.after.state.pass result gives)

  pub pass_begins : (old new : Database S s) (start : Handle)
      (result : Result (Option (Vec ℕ)) EngineFault) (given : Option (Vec ℕ)) (done : List Key)
      → start.state.usable ≡ true → CopiesStep old new start First End result
      → result ≡ Ok given → done ≡ [] → IsPassing new start.state.map done given 0
  pass_begins old new start result given done usable step is none =
      subst (λ (ks : List Key). IsPassing new start.state.map ks given 0) (sym none)
      (subst (λ (r : Result (Option (Vec ℕ)) EngineFault).
      MatchResult r (λ given. IsPassing new start.state.map [] given 0) IsChance) is
      (begun old new start result usable step))

  pub pass_begins_not : (old new : Database S s) (start : Handle)
      (result : Result (Option (Vec ℕ)) EngineFault) (fault : EngineFault)
      → start.state.usable ≡ true → CopiesStep old new start First End result
      → result ≡ Err fault → IsChance fault
  pass_begins_not old new start result fault usable step is =
      subst (λ (r : Result (Option (Vec ℕ)) EngineFault).
      MatchResult r (λ given. IsPassing new start.state.map [] given 0) IsChance) is
      (begun old new start result usable step)

  -- and goes on
  gone_on : (old new : Database S s) (m : Contents) (done : List Key) (given : Option (Vec ℕ))
      (key : Vec ℕ) (count : ℕ) (result : Result (Option (Vec ℕ)) EngineFault)
      (so_far : IsPassing old m done given count) → given ≡ Some key
      → CopiesStep old new so_far.now Next End result
      → MatchResult result (λ next.
      IsPassing new m (insert_key key_cmp done key.items) next (count + 1)) IsChance
  gone_on old new m done None key count result so_far is step = cc
  gone_on old new m done (Some given) key count result so_far is (lent, copied, made) =
      let start = so_far.now in
      let same : given ≡ key = cc in
      let keeps = keeps_map start made.after Next (case_of start Next) (lent_reply End lent)
      (reads_next start) made.step.answers in
      let step = on_usable start made.after Next (lent_reply End lent) so_far.usable made.step in
      let from = start.state.pass in
      let rule = subst (λ (c : Case).
      Answers start.state c (lent_reply End lent) made.after.state
      ⊎ Suffers start Next c (lent_reply End lent) made.after)
      (goes_by from so_far.held.begun) step in
      let gives = subst (λ (all : Contents). PassGives all from made.after.state.pass result)
      so_far.map_is (pass_gives start made.after Next from lent result copied rule) in
      subst (λ (k : Vec ℕ). MatchResult result
      (λ next. IsPassing new m (insert_key key_cmp done k.items) next (count + 1)) IsChance)
      same
      (passing new m made.after (insert_key key_cmp done given.items) (count + 1) result made.is_at
      (keeps.map ∙ so_far.map_is) (keeps.usable ∙ so_far.usable)
      (goes_on m done given.items count start.state.pass made.after.state.pass
      so_far.held result gives))

  module _ (old new : Database S s) (m : Contents) (done : List Key) (given : Option (Vec ℕ))
      (key : Vec ℕ) (count : ℕ) (result : Result (Option (Vec ℕ)) EngineFault)
      (so_far : IsPassing old m done given count) (is : given ≡ Some key)
      (step : CopiesStep old new so_far.now Next End result) where
    pub pass_goes_on : (next : Option (Vec ℕ)) (more : List Key) → result ≡ Ok next
        → more ≡ insert_key key_cmp done key.items → IsPassing new m more next (count + 1)
    pass_goes_on next more well put =
        subst (λ (ks : List Key). IsPassing new m ks next (count + 1)) (sym put)
        (subst (λ (r : Result (Option (Vec ℕ)) EngineFault).
        MatchResult r (λ next. IsPassing new m (insert_key key_cmp done key.items) next
        (count + 1)) IsChance) well (gone_on old new m done given key count result
        so_far is step))

    pub pass_goes_on_not : (fault : EngineFault) → result ≡ Err fault → IsChance fault
    pass_goes_on_not fault badly =
        subst (λ (r : Result (Option (Vec ℕ)) EngineFault).
        MatchResult r (λ next. IsPassing new m (insert_key key_cmp done key.items) next
        (count + 1)) IsChance) badly (gone_on old new m done given key count result
        so_far is step)

module _ {S : Type 0} {s : Ghosts S} (db : Database S s) (m : Contents) (done : List Key) where
  -- and ends, where no key came
  pub pass_ends : (given : Option (Vec ℕ)) (count : ℕ) → IsPassing db m done given count
      → given ≡ None → done ≡ keys m
  pass_ends given count so_far none =
      subst (λ (g : Option (Vec ℕ)). HasGathered m done g count so_far.now.state.pass)
      none so_far.held

  many_keys : (given : Option (Vec ℕ)) (count : ℕ) → IsPassing db m done given count
      → given ≡ None → length done ≡ finite.len m
  many_keys given count so_far none = ap length (pass_ends given count so_far none)
      ∙ length-map (entries m) (λ entry. entry.0) ∙ sym (finite.len-entries m)

  -- not before it has given as many keys as the map has
  pub pass_too_short : (P : Type 0) (given : Option (Vec ℕ)) (count held most : ℕ)
      → IsPassing db m done given count → given ≡ None → length done ≡ held → most ≡ finite.len m
      → held < most → P
  pass_too_short P given count held most so_far none is all less =
      let many = many_keys given count so_far none in
      absurd (omega (arith, many, is, all, less))

  -- before it has given as many keys as the map has
  pub pass_too_long : (P : Type 0) (given : Option (Vec ℕ)) (count most : ℕ)
      → IsPassing db m done given count → is_some given ≡ true → most ≡ finite.len m
      → most ≤ count → P
  pass_too_long P None count most so_far some is all = cc
  pass_too_long P (Some key) count most so_far some is all = let counted = so_far.held.counted in
      absurd (omega (arith, counted, is, all))

pub none_left : (given : Option (Vec ℕ)) → is_some given ≡ false → given ≡ None
none_left None is = refl
none_left (Some key) is = cc

-- the bytes of a set that one more key is put into
bytes_inserted : (ks : List (Vec ℕ)) (key : Vec ℕ)
    → map (λ (x : Vec ℕ). x.items)
    (insert_key (λ (x y : Vec ℕ). slice_cmp nat_cmp x.items y.items) ks key)
    ≡ insert_key key_cmp (map (λ (x : Vec ℕ). x.items) ks) key.items
bytes_inserted [] key = refl
bytes_inserted (k ∷ ks) key = seen _ _ (slice_cmp nat_cmp key.items k.items) (bytes_inserted ks key)
  where
    seen : (more : List (Vec ℕ)) (rest : List Key) (r : Ordering)
        → map (λ (x : Vec ℕ). x.items) more ≡ rest
        → map (λ (x : Vec ℕ). x.items) (match_ordering r (key ∷ k ∷ ks) (k ∷ ks) (k ∷ more))
        ≡ match_ordering r (key.items ∷ k.items ∷ map (λ (x : Vec ℕ). x.items) ks)
        (k.items ∷ map (λ (x : Vec ℕ). x.items) ks) (k.items ∷ rest)
    seen more rest Less h = refl
    seen more rest Equal h = refl
    seen more rest Greater h = ap (λ xs. k.items ∷ xs) h

pub bytes_put : (old new : List (Vec ℕ)) (key : Vec ℕ)
    → new ≡ insert_key (λ (x y : Vec ℕ). slice_cmp nat_cmp x.items y.items) old key
    → map (λ (x : Vec ℕ). x.items) new
    ≡ insert_key key_cmp (map (λ (x : Vec ℕ). x.items) old) key.items
bytes_put old new key put = ap (map (λ (x : Vec ℕ). x.items)) put ∙ bytes_inserted old key

-- at most one key more
inserted_length : (ks : List (Vec ℕ)) (key : Vec ℕ)
    → length (insert_key (λ (x y : Vec ℕ). slice_cmp nat_cmp x.items y.items) ks key)
    ≤ length ks + 1
inserted_length [] key = omega arith
inserted_length (k ∷ ks) key =
    by_place _ (slice_cmp nat_cmp key.items k.items) (inserted_length ks key)
  where
    by_place : (more : List (Vec ℕ)) (r : Ordering) → length more ≤ length ks + 1
        → length (match_ordering r (key ∷ k ∷ ks) (k ∷ ks) (k ∷ more)) ≤ length (k ∷ ks) + 1
    by_place more Less le = omega arith
    by_place more Equal le = omega arith
    by_place more Greater le = omega (arith, le)

pub one_more_at_most : (old new : List (Vec ℕ)) (key : Vec ℕ) (count : ℕ)
    → new ≡ insert_key (λ (x y : Vec ℕ). slice_cmp nat_cmp x.items y.items) old key
    → length old ≤ count → length new ≤ count + 1
one_more_at_most old new key count put le =
    omega (arith, ap length put, inserted_length old key, le)
