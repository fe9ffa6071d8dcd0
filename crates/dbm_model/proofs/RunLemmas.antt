-- Runs that are worked out by hand.
use Rattle.std.proofs.Common.{◌+◌, ◌≡◌, inl, ℕ, ◌≤◌, List, [], ◌∷◌, Bool, true, false, cond, Option, Some, None, refl, sym, ◌∙◌, ap, subst, arith}
use Rattle.std.specs.FinMap.{empty, get, insert, remove, len, get-empty, get-insert, get-remove, len-empty, len-insert}
use Rattle.std.specs.Prelude.{nat_le, is_some}
use Rattle.std.specs.Cmp.{IsTotalOrder}
use Rattle.std.specs.Cmp.Lexicographic.{nat_list_cmp_total}
use Rattle.std.proofs.lemmas.Bool.{lt-leb}
use Rattle.std.specs.Ordering.{eq_by_cmp}
use Rattle.dbm_model.specs.Bounds.{Bounds, in_v1}
use Rattle.dbm_model.specs.Calls.{Mode, Insert, Replace, Call, Store, Reply, Stored, Kept, Bytes, NoRecord, Absent, Deleted, Number, Fault, NoPass, Full, TooLong}
use Rattle.dbm_model.specs.Pairs.{Contents, Key, key_cmp, is_allowed}
use Rattle.dbm_model.specs.States.{State, Pass, NotBegun, Handle, fresh}
use Rattle.dbm_model.specs.Steps.{Case, Tells, Refuses, Declines, Finds, Changes, with_map, fetched, deleted, stored, case_for, case_of, Answers, Run, buckets_added}
use Rattle.dbm_model.specs.Examples.{StopsAtLimit, StoresAndDeletes, MayAnswer, one}

-- the handle after a call that nothing stops
abbrev with_state : Handle → Reply → State → Handle
with_state h reply after = record h {
  state = after;
  buckets = h.buckets + buckets_added h reply (len after.map);
}

-- a first call that nothing stops
calm : (h last : Handle) (call : Call) (calls : List Call) (c : Case) (reply : Reply)
    (replies : List Reply) (after : State)
    → case_of h call ≡ c → Answers h.state c reply after
    → Run (with_state h reply after) calls replies last
    → Run h (call ∷ calls) (reply ∷ replies) last
calm h last call calls c reply replies after falls answers rest = (
  with_state h reply after,
  record {
    counts = omega arith;
    capacity = refl;
    pages =
        (omega arith, omega arith);
    bounded = inl refl;
    buckets = refl;
    answers =
        inl (subst (λ (d : Case). Answers h.state d reply after) (sym falls) answers);
  },
  rest,
)

-- a handle at the state, with so many buckets
abbrev pub with_buckets : State → ℕ → Handle
with_buckets s buckets = record {
  state = s;
  faults = 0;
  pages = 4;
  capacity = 8;
  buckets = buckets;
}

-- from a state, the calls may get these replies, however many buckets there are
pub record IsRunFrom (s : State) (calls : List Call) (replies : List Reply) : Type 0 where
  pub last : ℕ → Handle
  pub run : (buckets : ℕ) → Run (with_buckets s buckets) calls replies (last buckets)

pub goes : (s : State) {call : Call} {calls : List Call} {reply : Reply} {replies : List Reply}
    (c : Case) (after : State)
    → case_for 8 s call ≡ c → Answers s c reply after → IsRunFrom after calls replies
    → IsRunFrom s (call ∷ calls) (reply ∷ replies)
goes s {call} {calls} {reply} {replies} c after falls answers rest = record {
  last = λ buckets.
      rest.last (buckets + buckets_added (with_buckets s buckets) reply (len after.map));
  run = λ buckets.
      let then_are = buckets + buckets_added (with_buckets s buckets) reply (len after.map) in
      calm (with_buckets s buckets) (rest.last then_are) call calls c
      reply replies after falls answers (rest.run then_are);
}

pub done : (s : State) → IsRunFrom s [] []
done s = record { last = with_buckets s; run = λ buckets. refl }

pub may : (bounds : Bounds) {calls : List Call} {replies : List Reply}
    → IsRunFrom (fresh empty bounds true) calls replies → MayAnswer bounds calls replies
may bounds g = record { after = g.last 1; run = g.run 1 }

abbrev pub order : IsTotalOrder key_cmp
order = nat_list_cmp_total

abbrev pub only : List ℕ → Contents
only content = insert empty (one 0x61) content

pub is_only : (content : List ℕ) (key : Key)
    → get (only content) key ≡ cond (eq_by_cmp key_cmp key (one 0x61)) (Some content) None
is_only content key = get-insert order empty (one 0x61) content key
    ∙ ap (cond (eq_by_cmp key_cmp key (one 0x61)) (Some content)) (get-empty key_cmp key)

-- a map of one pair has one key
pub one_more : (key content : List ℕ)
    → len (insert (empty {X = List ℕ} {R = key_cmp}) key content) ≡ 1
one_more key content = len-insert order empty key content
    ∙ ap (λ (old : Option (List ℕ)).
    cond (is_some old) (len (empty {X = List ℕ} {R = key_cmp}))
    (len (empty {X = List ℕ} {R = key_cmp}) + 1)) (get-empty key_cmp key)
    ∙ ap (λ (n : ℕ). n + 1) (len-empty key_cmp (List ℕ))

-- usable and open for changes
abbrev pub at : Bounds → Contents → Option Fault → Pass → State
at bounds map error pass = record {
  map = map;
  bounds = bounds;
  error = error;
  pass = pass;
  writable =
      true;
  usable = true;
}

-- a store of an allowed pair
module _ (bounds : Bounds) (map : Contents) (error : Option Fault) (pass : Pass)
    (key content : List ℕ) (allowed : is_allowed bounds.version (key, content) ≡ true) where
  abbrev pub here : State
  here = at bounds map error pass

  pub by_old : (mode : Mode) (old : Option (List ℕ)) → get map key ≡ old
      → case_for 0 here (Store key content mode) ≡ stored here key content mode old
  by_old mode old has = ap (λ b.
      cond b (stored here key content mode (get map key)) (Refuses TooLong)) allowed
      ∙ ap (stored here key content mode) has

  by_room : (b : Bool) → nat_le bounds.limit (len map) ≡ b
      → cond (nat_le bounds.limit (len map)) (Declines Full) (Changes Stored (with_map here (insert map key content)))
      ≡ cond b (Declines Full) (Changes Stored (with_map here (insert map key content)))
  by_room b is = ap (λ c. cond c (Declines Full) (Changes Stored (with_map here (insert map key content)))) is

  pub adds : get map key ≡ None → nat_le bounds.limit (len map) ≡ false
      → case_for 0 here (Store key content Replace)
      ≡ Changes Stored (with_map here (insert map key content))
  adds absent free = by_old Replace None absent ∙ by_room false free

  pub declines : get map key ≡ None → nat_le bounds.limit (len map) ≡ true
      → case_for 0 here (Store key content Replace) ≡ Declines Full
  declines absent none = by_old Replace None absent ∙ by_room true none

pub none_yet : (limit : ℕ) → 1 ≤ limit
    → nat_le limit (len (empty {X = List ℕ} {R = key_cmp})) ≡ false
none_yet limit some = ap (nat_le limit) (len-empty key_cmp (List ℕ)) ∙ lt-leb limit 0 some

abbrev pub allowed : true ≡ true
allowed = refl

-- a first store of a key in a new database
pub first_store : (limit : ℕ) (key content : ℕ) → 1 ≤ limit
    → {calls : List Call} {replies : List Reply}
    → IsRunFrom (at (in_v1 limit) (insert empty (one key) (one content)) None NotBegun) calls replies
    → IsRunFrom (at (in_v1 limit) empty None NotBegun) (Store (one key) (one content) Replace ∷ calls)
    (Stored ∷ replies)
first_store limit key content some rest =
    let map = insert empty (one key) (one content) in
    goes (at (in_v1 limit) empty None NotBegun) (Changes Stored (at (in_v1 limit) map None NotBegun)) (at (in_v1 limit) map None NotBegun)
    (adds (in_v1 limit) empty None NotBegun (one key) (one content) allowed (get-empty key_cmp (one key))
    (none_yet limit some)) (refl, refl) rest

pub stops_at_limit : StopsAtLimit
stops_at_limit =
    let map = only (one 0x01) in
    let flagged = at (in_v1 1) map (Some Full) NotBegun in
    let new = insert map (one 0x61) (one 0x02) in
    let last = at (in_v1 1) new (Some Full) NotBegun in
    let has = is_only (one 0x01) (one 0x61) in
    may (in_v1 1) (first_store 1 0x61 0x01 (omega arith)
    (goes (at (in_v1 1) map None NotBegun) (Declines Full) flagged
    (declines (in_v1 1) map None NotBegun (one 0x62) (one 0x01) allowed (is_only (one 0x01) (one 0x62))
    (ap (nat_le 1) (one_more (one 0x61) (one 0x01)))) (refl, refl)
    (goes flagged (Finds Kept) flagged
    (by_old (in_v1 1) map (Some Full) NotBegun (one 0x61) (one 0x03) allowed Insert (Some (one 0x01))
    has) (refl, refl)
    (goes flagged (Changes Stored last) last
    (by_old (in_v1 1) map (Some Full) NotBegun (one 0x61) (one 0x02) allowed Replace (Some (one 0x01))
    has) (refl, refl)
    (goes last (Finds (Bytes (one 0x02))) last
    (ap fetched (get-insert order map (one 0x61) (one 0x02) (one 0x61))) (refl, refl)
    (goes last (Refuses NoPass) last refl (refl, refl)
    (goes last (Tells (Number 6) last) last refl (refl, refl) (done last))))))))

pub stores_and_deletes : StoresAndDeletes
stores_and_deletes =
    let k = one 0x6b in
    let map = insert empty k (one 0x76) in
    let two = insert map [] [] in
    let left = remove two k in
    let first = at (in_v1 100) map None NotBegun in
    let second = at (in_v1 100) two None NotBegun in
    let third = at (in_v1 100) left None NotBegun in
    let had = get-insert order empty k (one 0x76) k in
    let absent = get-insert order empty k (one 0x76) [] ∙ get-empty key_cmp [] in
    let room = ap (nat_le 100) (one_more k (one 0x76)) in
    may (in_v1 100) (first_store 100 0x6b 0x76 (omega arith)
    (goes first (Finds (Bytes (one 0x76))) first (ap fetched had) (refl, refl)
    (goes first (Finds Kept) first
    (by_old (in_v1 100) map None NotBegun k (one 0x77) allowed Insert (Some (one 0x76)) had)
    (refl, refl)
    (goes first (Finds (Bytes (one 0x76))) first (ap fetched had) (refl, refl)
    (goes first (Changes Stored second) second
    (adds (in_v1 100) map None NotBegun [] [] allowed absent room) (refl, refl)
    (goes second (Finds (Bytes [])) second (ap fetched (get-insert order map [] [] [])) (refl, refl)
    (goes second (Finds NoRecord) second
    (ap fetched (get-insert order map [] [] (one 0x00)
    ∙ get-insert order empty k (one 0x76) (one 0x00)
    ∙ get-empty key_cmp (one 0x00))) (refl, refl)
    (goes second (Changes Deleted third) third
    (ap (deleted second k) (get-insert order map [] [] k ∙ had)) (refl, refl)
    (goes third (Finds Absent) third (ap (deleted third k) (get-remove order two k k)) (refl, refl)
    (goes third (Tells (Number 0) third) third refl (refl, refl) (done third)))))))))))
