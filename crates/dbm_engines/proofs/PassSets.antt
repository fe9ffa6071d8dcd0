-- The keys of a map that a pass has before it, as a set.
use Rattle.std.proofs.Common.{◌≡◌, ⊎_elim, Bool, true, false, not, ◌&&◌, is_some, is_eq, refl, sym, ◌∙◌, ap, subst}
use Rattle.std.specs.Prelude.{IsSome}
use Rattle.std.specs.Cmp.{Equal-is}
use Rattle.std.specs.FinMap.{get, keys, contains_key-keys, slice_cmp-IsAntisymmetric, nat_cmp-IsAntisymmetric}
use Rattle.std.specs.FinSet as set
use Rattle.std.specs.Ordering.{eq_by_cmp}
use Rattle.std.proofs.lemmas.Cmp.{nat_list_cmp_total, tied_itself}
use Rattle.dbm_model.specs.KeyOrder.{ComesBefore}
use Rattle.dbm_model.specs.Pairs.{Key, Contents, key_cmp}
use Rattle.dbm_model.specs.States.{Pass, NotBegun, Begun, Behind}
use Rattle.dbm_model.specs.Steps.{IsAhead, IsNextKey, IsOver}
use Rattle.dbm_model.proofs.KeyOrderLemmas.{comes_on, never_before_itself, one_comes_before}
use Rattle.dbm_engines.proofs.KeySets.{Keys}

-- the map's keys that a pass has before it are these
pub record HasAhead (m : Contents) (pass : Pass) (left : Keys) : Type 0 where
  pub has : (key : Key) → set.contains left key ≡ true → IsSome (get m key) × IsAhead pass key
  pub all : (key : Key) → IsSome (get m key) → IsAhead pass key → set.contains left key ≡ true

-- before all keys it has them all
pub all_ahead : (m : Contents) → HasAhead m Begun (set.from_list (keys m))
all_ahead m = record {
  has = λ key there. (sym (among key) ∙ there, tt);
  all = λ key there ahead. among key ∙ there;
}
  where
    among : (key : Key) → set.contains {R = key_cmp} (set.from_list (keys m)) key
        ≡ is_some (get m key)
    among key = set.contains-from_list nat_list_cmp_total (keys m) key
        ∙ sym (contains_key-keys m key)

parts : (a b : Bool) → (not a && b) ≡ true → (a ≡ false) × (b ≡ true)
parts true b is = absurd (let e = is in cc)
parts false b is = (refl, is)

-- what is behind a key that a pass has before it, it has before it too
further : (from : Pass) (key other : Key) → IsAhead from key → ComesBefore key other
    → IsAhead from other
further NotBegun key other ahead before = ahead
further Begun key other ahead before = tt
further (Behind last) key other ahead before = comes_on last key other ahead before

module _ (m : Contents) (from : Pass) (left : Keys) (held : HasAhead m from left) where
  -- the next key is one of them
  pub next_among : (key : Key) → IsNextKey m from key → set.contains left key ≡ true
  next_among key next = held.all key next.there next.ahead

  -- and behind it are the others
  pub others_ahead : (key : Key) → IsNextKey m from key
      → HasAhead m (Behind key) (set.remove left key)
  others_ahead key next = record {
    has = λ other there.
        let two = parts (eq_by_cmp key_cmp other key) (set.contains left other)
        (sym (removed other) ∙ there) in
        let was = held.has other two.1 in (
          was.0,
          ⊎_elim (λ before. before) (⊎_elim
              (λ same. absurd (let e = sym two.0 ∙ tied (sym same) in cc))
              (λ back. absurd (next.least other was.0 was.1 back)))
              (one_comes_before key other),
        );
    all = λ other there before.
        removed other
        ∙ ap (λ b. not b && set.contains left other)
        (apart other before (eq_by_cmp key_cmp other key) refl)
        ∙ held.all other there (further from key other next.ahead before);
  }
    where
      removed : (other : Key) → set.contains (set.remove left key) other
          ≡ (not (eq_by_cmp key_cmp other key) && set.contains left other)
      removed other = set.contains-remove nat_list_cmp_total left key other

      tied : {other : Key} → other ≡ key → eq_by_cmp key_cmp other key ≡ true
      tied {other} same = ap (λ (k : Key). eq_by_cmp key_cmp k key) same
          ∙ ap is_eq (tied_itself nat_list_cmp_total key)

      apart : (other : Key) → ComesBefore key other → (b : Bool)
          → eq_by_cmp key_cmp other key ≡ b → eq_by_cmp key_cmp other key ≡ false
      apart other before true is =
          let same : other ≡ key =
          slice_cmp-IsAntisymmetric nat_cmp-IsAntisymmetric other key
          ((Equal-is (key_cmp other key)).0 is) in
          absurd (never_before_itself key (subst (ComesBefore key) same before))
      apart other before false is = is

  -- at its end there are none
  pub none_ahead : IsOver m from → left ≡ set.empty
  none_ahead over = set.same_set nat_list_cmp_total
      (slice_cmp-IsAntisymmetric nat_cmp-IsAntisymmetric) left set.empty
      (λ key. none key (set.contains left key) refl ∙ sym (set.contains-empty key_cmp key))
    where
      none : (key : Key) (b : Bool) → set.contains left key ≡ b → set.contains left key ≡ false
      none key true is = let was = held.has key is in absurd (over key was.0 was.1)
      none key false is = is
