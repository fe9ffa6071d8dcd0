-- Entries that are put one after the other.
use Rattle.std.proofs.Common.{◌≡◌, ◌≢◌, ℕ, suc, ◌+◌, ◌<◌, ◌≤◌, Bool, true, false, cond, List, [], ◌∷◌, ◌++◌, length, get_or, fold, map, take, refl, sym, ap, ◌∙◌, subst, arith, append_assoc}
use Rattle.std.proofs.lemmas.List.{append-nil, length-append, length-map, map-append, get_or_append_left, get_or-map, take_more}
use Rattle.std.proofs.lemmas.List.Sums.{sum_by-append, sum_by-cons, fold-append}
use Rattle.dbm_model.specs.Bounds.{Version}
use Rattle.dbm_model.specs.Pairs.{Key, Pair}
use Rattle.page_model.specs.PairLists.{has_key, times}
use Rattle.page_model.specs.Pages.{Body, Record}
use Rattle.page_model.specs.Chain.{Chain, Entry, entries_in, pairs_in, pages_of, pages_in, record_of}
use Rattle.page_model.specs.Space.{Space, next_page}
use Rattle.page_model.proofs.Chains.{sum_by-add, pairs_of_entries}
use Rattle.page_model.proofs.Places.{same_key}
use Rattle.free_pages.specs.declared.free_state.FreeState.{FreeState}
use Rattle.content_pages.proofs.PageCounts.{times_both}
use Rattle.bucket_chain.specs.Pairs.{IsSmall, record_as}
use Rattle.bucket_chain.specs.declared.pair.Pair as code
use Rattle.bucket_chain.specs.Changes.{IsPlaced, AreHeld, HaveKeysOnce, Placed, put_in, BecomesPlaced}
use Rattle.bucket_chain.proofs.PlacedPuts.{held_still, put_keeps, put_after}

abbrev pub keys_of : List Entry → List Pair
keys_of entries = map (λ (e : Entry). e.pair) entries

-- so far these entries were put one after the other
pub record HavePut (version : Version) (old now : ℕ → Body) (before state : FreeState) (head : ℕ)
    (placed : Placed) (entries : List Entry) (count : ℕ) : Type 0 where
  pub done : List Entry
  pub rest : List Entry
  pub parts : entries ≡ done ++ rest
  pub many : length done ≡ count
  pub is_placed :
      IsPlaced version now state head (fold put_in placed done).0 (fold put_in placed done).1
  pub becomes : (at : ℕ → Body) → BecomesPlaced at old before placed
      → BecomesPlaced at now state (fold put_in placed done)
  pub counted : (key : Key)
      → times key (pairs_in (fold put_in placed done).0) ≡ times key (keys_of done)
  pub held : AreHeld version now (pages_in (fold put_in placed done).0)
      (fold put_in placed done).1 rest

no_pairs : (chain : Chain) → entries_in chain ≡ [] → pairs_in chain ≡ []
no_pairs chain none = pairs_of_entries chain ∙ ap (λ (es : List Entry). keys_of es) none

pub none_put : (version : Version) (at : ℕ → Body) (state : FreeState) (head : ℕ) (chain : Chain)
    (s : Space) (entries : List Entry) → IsPlaced version at state head chain s
    → AreHeld version at (pages_in chain) s entries → entries_in chain ≡ []
    → HavePut version at at state state head (chain, s) entries 0
none_put version at state head chain s entries is held empty = record {
  done = [];
  rest = entries;
  parts = refl;
  many = refl;
  is_placed = is;
  becomes = λ at b. b;
  counted = λ key. ap (times key) (no_pairs chain empty);
  held = held;
}

-- the next entry
pub record IsNextOf (version : Version) (now : ℕ → Body) (placed : Placed) (done : List Entry)
    (rest : List Entry) (r : Record) : Type 0 where
  pub e : Entry
  pub later : List Entry
  pub rest_is : rest ≡ e ∷ later
  pub is : record_of e ≡ r
  pub alone : AreHeld version now (pages_in placed.0) placed.1 (e ∷ [])
  pub none : times e.pair.0 (keys_of done) ≡ 0

middle_of : (done : List Entry) (e : Entry) (later : List Entry) (d : Record)
    → get_or (map record_of (done ++ e ∷ later)) (length done) d ≡ record_of e
middle_of [] e later d = refl
middle_of (x ∷ done) e later d = middle_of done e later d

has_key_not : (key : Key) (pair : Pair) → pair.0 ≢ key → has_key key pair ≡ false
has_key_not key pair other = elim (has_key key pair) as
    (λ b. has_key key pair ≡ b → has_key key pair ≡ false) [
      | true ↦ λ e. absurd (other (sym (same_key key pair e)))
      | false ↦ λ e. e
    ] refl

none_of : (key : Key) (done : List Entry)
    → ((k : ℕ) (d : Entry) → k < length done → (get_or done k d).pair.0 ≢ key)
    → times key (keys_of done) ≡ 0
none_of key [] others = refl
none_of key (e ∷ done) others =
    let not : cond {A = ℕ} (has_key key e.pair) 1 0 ≡ 0 =
    ap (λ (b : Bool). cond b 1 0) (has_key_not key e.pair (others 0 e (omega arith))) in
    omega (
      arith,
      not,
      none_of key done (λ k d lt. others (suc k) d (omega (arith, lt))),
      sum_by-cons (λ (q : Pair). cond {A = ℕ} (has_key key q) 1 0) e.pair (keys_of done),
    )

get_middle : (done : List Entry) (e : Entry) (later : List Entry) (d : Entry)
    → get_or (done ++ e ∷ later) (length done) d ≡ e
get_middle [] e later d = refl
get_middle (x ∷ done) e later d = get_middle done e later d

held_first : (version : Version) (now : ℕ → Body) (pages : List ℕ) (s : Space) (e : Entry)
    (later : List Entry) → AreHeld version now pages s (e ∷ later)
    → AreHeld version now pages s (e ∷ [])
held_first version now pages s e later held = record {
  entered = (held.entered.0, tt);
  are_read = (held.are_read.0, tt);
  apart = λ n. omega (
    arith,
    held.apart n,
    times_both n (pages_of (e ∷ later)) pages,
    times_both n (pages_of (e ∷ [])) pages,
    times_both n e.pages (pages_of later),
    times_both n e.pages (pages_of []),
  );
}

pub next_of : (version : Version) (now : ℕ → Body) (placed : Placed)
    (entries done rest : List Entry)
    (count : ℕ) (records : List Record) (r : Record) → entries ≡ done ++ rest
    → length done ≡ count → map record_of entries ≡ records → count < length records
    → get_or records count r ≡ r
    → AreHeld version now (pages_in placed.0) placed.1 rest → HaveKeysOnce entries
    → IsNextOf version now placed done rest r
next_of version now placed entries done [] count records r parts many all lt here held once =
    absurd (omega (
      arith,
      lt,
      many,
      ap length all,
      length-map entries record_of,
      ap length (parts ∙ append-nil done),
    ))
next_of version now placed entries done (e ∷ later) count records r parts many all lt here held
    once =
    record {
      e = e;
      later = later;
      rest_is = refl;
      is = sym (middle_of done e later r)
          ∙ ap (λ (k : ℕ). get_or (map record_of (done ++ e ∷ later)) k r) many
          ∙ ap (λ (es : List Entry). get_or (map record_of es) count r) (sym parts)
          ∙ ap (λ (rs : List Record). get_or rs count r) all ∙ here;
      alone = held_first version now (pages_in placed.0) placed.1 e later held;
      none = none_of e.pair.0 done (λ k d less same.
          (subst HaveKeysOnce parts once) k (length done) d less
          (omega (arith, length-append done (e ∷ later)))
          (ap (λ (x : Entry). x.pair.0) (get_or_append_left done (e ∷ later) d k less) ∙ same
          ∙ ap (λ (x : Entry). x.pair.0) (sym (get_middle done e later d))));
    }

-- one more
pub one_put : (version : Version) (old mid new : ℕ → Body) (before state state' : FreeState)
    (head : ℕ) (placed : Placed) (entries : List Entry) (count : ℕ)
    (so_far : HavePut version old mid before state head placed entries count) (r : Record)
    (next : IsNextOf version mid (fold put_in placed so_far.done) so_far.done so_far.rest r)
    → IsSmall version r
    → BecomesPlaced mid new state' (put_in (fold put_in placed so_far.done) next.e)
    → HavePut version old new before state' head placed entries (count + 1)
one_put version old mid new before state state' head placed entries count so_far r next small
    becomes =
    let e = next.e in
    let done = so_far.done in
    let chain = (fold put_in placed done).0 in
    let s = (fold put_in placed done).1 in
    let same : put_in (fold put_in placed done) e ≡ fold put_in placed (done ++ e ∷ []) =
    sym (fold-append put_in placed done (e ∷ [])) in
    let may : IsSmall version (record_of e) = subst (IsSmall version) (sym next.is) small in
    let held : AreHeld version mid (pages_in chain) s (e ∷ next.later) =
    subst (AreHeld version mid (pages_in chain) s) next.rest_is so_far.held in
    let none : times e.pair.0 (pairs_in chain) ≡ 0 = so_far.counted e.pair.0 ∙ next.none in
    record {
      done = done ++ e ∷ [];
      rest = next.later;
      parts = so_far.parts ∙ ap (λ (es : List Entry). done ++ es) next.rest_is
          ∙ sym (append_assoc done (e ∷ []) next.later);
      many = omega (arith, so_far.many, length-append done (e ∷ []));
      is_placed = subst (λ (p : Placed). IsPlaced version new state' head p.0 p.1) same
          (put_keeps version mid new state state' head chain s e next.later so_far.is_placed may
          held none becomes);
      becomes = λ at first. subst (λ (p : Placed). BecomesPlaced at new state' p) same
          (put_after at mid new state state' chain s e (so_far.becomes at first) becomes);
      counted = λ key.
          ap (λ (p : Placed). times key (pairs_in p.0)) (sym same)
          ∙ sum_by-add (λ (q : Pair). cond (has_key key q) 1 0) e (next_page s) chain
          ∙ ap (λ (k : ℕ). k + cond (has_key key e.pair) 1 0) (so_far.counted key)
          ∙ sym (times_snoc key done e);
      held = subst (λ (p : Placed). AreHeld version new (pages_in p.0) p.1 next.later) same
          (held_still version mid new state state' head chain s e next.later so_far.is_placed may
          held none becomes);
    }
  where
    times_snoc : (key : Key) (done : List Entry) (e : Entry)
        → times key (keys_of (done ++ e ∷ [])) ≡ times key (keys_of done)
        + cond (has_key key e.pair) 1 0
    times_snoc key done e = omega (
      arith,
      ap (times key) (map-append (λ (x : Entry). x.pair) done (e ∷ [])),
      sum_by-append (λ (q : Pair). cond {A = ℕ} (has_key key q) 1 0) (keys_of done) (e.pair ∷ []),
      sum_by-cons (λ (q : Pair). cond {A = ℕ} (has_key key q) 1 0) e.pair [],
    )

-- the records so far, and the next
pub next_record : (pairs : List code.Pair) (i : ℕ) (item : code.Pair) → i < length pairs
    → get_or pairs i item ≡ item → take (i + 1) (map record_as pairs)
    ≡ take i (map record_as pairs)
    ++ record_as item ∷ []
next_record pairs i item lt here =
    take_more (map record_as pairs) i (record_as item)
    (omega (arith, lt, length-map pairs record_as))
    ∙ ap (λ (r : Record). take i (map record_as pairs) ++ r ∷ [])
    (get_or-map record_as pairs i item (record_as item) lt ∙ ap record_as here)

pub record_there : (pairs : List code.Pair) (i : ℕ) (item : code.Pair) → i < length pairs
    → get_or pairs i item ≡ item → get_or (map record_as pairs) i (record_as item) ≡ record_as item
record_there pairs i item lt here =
    get_or-map record_as pairs i item (record_as item) lt ∙ ap record_as here

-- all entries were put
pub all_put : (version : Version) (old now : ℕ → Body) (before state : FreeState) (head : ℕ)
    (placed : Placed) (entries : List Entry) (count : ℕ)
    (so_far : HavePut version old now before state head placed entries count)
    → length entries ≤ count → so_far.done ≡ entries
all_put version old now before state head placed entries count so_far over =
    by_rest so_far.rest so_far.parts
  where
    by_rest : (rest : List Entry) → entries ≡ so_far.done ++ rest → so_far.done ≡ entries
    by_rest [] parts = sym (parts ∙ append-nil so_far.done)
    by_rest (e ∷ rest) parts = absurd (omega (
      arith,
      over,
      so_far.many,
      ap length parts,
      length-append so_far.done (e ∷ rest),
    ))
