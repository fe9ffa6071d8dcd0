-- Runs with passes that are worked out by hand.
use Rattle.std.proofs.Common.{◌≡◌, ◌≢◌, ◌⊎◌, inl, inr, ⊎_elim, ℕ, ◌+◌, ◌-◌, ◌≤◌, List, Bool, true, false, cond, Some, None, refl, sym, ◌∙◌, ap, subst, arith}
use Rattle.std.specs.FinMap.{empty, get, insert, remove, len, contains_key, get-empty, get-insert, get-remove, len-insert, len-remove}
use Rattle.std.specs.Prelude.{nat_le, is_some, IsSome}
use Rattle.std.specs.Int.{reverse_bits_onto}
use Rattle.std.specs.Ordering.{eq_by_cmp}
use Rattle.std.proofs.lemmas.Bool.{lt-leb}
use Rattle.dbm_model.specs.Bounds.{in_v1}
use Rattle.dbm_model.specs.Calls.{Insert, Stored, Kept, Deleted, Bytes, Number, NoPass}
use Rattle.dbm_model.specs.KeyOrder.{hash_of, ComesBefore}
use Rattle.dbm_model.specs.Pairs.{Contents, Key, key_cmp}
use Rattle.dbm_model.specs.States.{NotBegun, Begun, Behind}
use Rattle.dbm_model.specs.Steps.{Tells, Refuses, Finds, Passes, Changes, fetched, deleted, IsNextKey, IsOver}
use Rattle.dbm_model.specs.Examples.{PassesOverNothing, PassesOn, PassesOverChanges, one}
use Rattle.dbm_model.proofs.KeyOrderLemmas.{never_before_itself, never_back}
use Rattle.dbm_model.proofs.RunLemmas.{order, goes, done, may, only, is_only, at, by_old, adds, first_store, one_more, allowed}
use Rattle.dbm_model.proofs.TimesLemmas.{same_key, itself}

-- ---- which keys a map has

none_in_empty : (key : Key) → IsSome (get (empty {X = List ℕ} {R = key_cmp}) key) → ⊥
none_in_empty key there = absurd (let none = sym there ∙ ap is_some (get-empty key_cmp key) in cc)

in_inserted : (map : Contents) (name content : List ℕ) (key : Key)
    → IsSome (get (insert map name content) key) → (key ≡ name) ⊎ IsSome (get map key)
in_inserted map name content key there =
    by_tie (eq_by_cmp key_cmp key name) refl
    (sym (ap is_some (get-insert order map name content key)) ∙ there)
  where
    by_tie : (b : Bool) → eq_by_cmp key_cmp key name ≡ b
        → is_some (cond b (Some content) (get map key)) ≡ true
        → (key ≡ name) ⊎ IsSome (get map key)
    by_tie true is has = inl (same_key key name is)
    by_tie false is has = inr has

in_removed : (map : Contents) (name : Key) (key : Key) → IsSome (get (remove map name) key)
    → (key ≢ name) × IsSome (get map key)
in_removed map name key there =
    by_tie (eq_by_cmp key_cmp key name) refl
    (sym (ap is_some (get-remove order map name key)) ∙ there)
  where
    by_tie : (b : Bool) → eq_by_cmp key_cmp key name ≡ b
        → is_some (cond b None (get map key)) ≡ true → (key ≢ name) × IsSome (get map key)
    by_tie true is has = absurd (let none = has in cc)
    by_tie false is has = (
      (λ same. absurd (let tied = sym is ∙ ap (λ k. eq_by_cmp key_cmp k name) same
          ∙ itself name in cc)),
      has,
    )

in_only : (content : List ℕ) (key : Key) → IsSome (get (only content) key) → key ≡ one 0x61
in_only content key there = ⊎_elim (λ is. is) (λ none. absurd (none_in_empty key none))
    (in_inserted empty (one 0x61) content key there)

first_of_one : (content : List ℕ) → IsNextKey (only content) Begun (one 0x61)
first_of_one content = record {
  there = ap is_some (is_only content (one 0x61));
  ahead = tt;
  least = λ other there ahead before. never_before_itself (one 0x61)
      (subst (λ k. ComesBefore k (one 0x61)) (in_only content other there) before);
}

over_behind_one : (content : List ℕ) → IsOver (only content) (Behind (one 0x61))
over_behind_one content key there ahead = never_before_itself (one 0x61)
    (subst (λ k. ComesBefore (one 0x61) k) (in_only content key there) ahead)

pub passes_over_nothing : PassesOverNothing
passes_over_nothing =
    let flagged = at (in_v1 100) empty (Some NoPass) NotBegun in
    let begun = at (in_v1 100) empty (Some NoPass) Begun in
    let over : IsOver empty Begun = λ key there ahead. none_in_empty key there in
    may (in_v1 100) (goes (at (in_v1 100) empty None NotBegun) (Refuses NoPass) flagged refl (refl, refl)
    (goes flagged (Passes Begun) begun refl (inl (over, refl, refl))
    (goes begun (Passes Begun) begun refl (inl (over, refl, refl))
    (goes begun (Tells (Number 7) begun) begun refl (refl, refl) (done begun)))))

pub passes_on : PassesOn
passes_on =
    let map = only (one 0x01) in
    let begun = at (in_v1 100) map None (Behind (one 0x61)) in
    let has = is_only (one 0x01) (one 0x61) in
    let over = over_behind_one (one 0x01) in
    may (in_v1 100) (first_store 100 0x61 0x01 (omega arith)
    (goes (at (in_v1 100) map None NotBegun) (Passes Begun) begun refl
    (inr (one 0x61, first_of_one (one 0x01), refl, refl))
    (goes begun (Finds (Bytes (one 0x01))) begun (ap fetched has) (refl, refl)
    (goes begun (Finds Kept) begun
    (by_old (in_v1 100) map None (Behind (one 0x61)) (one 0x61) (one 0x02) allowed Insert
    (Some (one 0x01)) has) (refl, refl)
    (goes begun (Passes (Behind (one 0x61))) begun refl (inl (over, refl, refl))
    (goes begun (Passes (Behind (one 0x61))) begun refl (inl (over, refl, refl)) (done begun)))))))

-- ---- a pass over changes of three keys

abbrev pub a : Key
a = one 0x61

abbrev pub b : Key
b = one 0x62

abbrev g : Key
g = one 0x67

pub a_before_b : ComesBefore a b
unfolding hash_of reverse_bits_onto
a_before_b = refl

a_before_g : ComesBefore a g
unfolding hash_of reverse_bits_onto
a_before_g = refl

g_before_b : ComesBefore g b
unfolding hash_of reverse_bits_onto
g_before_b = refl

abbrev x : List ℕ
x = one 0x01

-- the maps: a and b, b, b and g, all three
abbrev pub both : Contents
both = insert (only x) b x

abbrev left : Contents
left = remove both a

abbrev added : Contents
added = insert left g x

abbrev all_three : Contents
all_three = insert added a x

in_both : (key : Key) → IsSome (get both key) → (key ≡ b) ⊎ (key ≡ a)
in_both key there = ⊎_elim (λ is. inl is) (λ old. inr (in_only x key old))
    (in_inserted (only x) b x key there)

in_left : (key : Key) → IsSome (get left key) → key ≡ b
in_left key there = let old = in_removed both a key there in
    ⊎_elim (λ is. is) (λ is. absurd (old.0 is)) (in_both key old.1)

in_added : (key : Key) → IsSome (get added key) → (key ≡ g) ⊎ (key ≡ b)
in_added key there = ⊎_elim (λ is. inl is) (λ old. inr (in_left key old))
    (in_inserted left g x key there)

in_all : (key : Key) → IsSome (get all_three key) → (key ≡ a) ⊎ ((key ≡ g) ⊎ (key ≡ b))
in_all key there = ⊎_elim (λ is. inl is) (λ old. inr (in_added key old))
    (in_inserted added a x key there)

has_a_at : get both a ≡ Some x
has_a_at = get-insert order (only x) b x a ∙ is_only x a

pub has_a : IsSome (get both a)
has_a = ap is_some has_a_at

has_b : get left b ≡ Some x
has_b = get-remove order both a b ∙ get-insert order (only x) b x b

has_g : get added g ≡ Some x
has_g = get-insert order left g x g

first_is_a : IsNextKey both Begun a
first_is_a = record {
  there = has_a;
  ahead = tt;
  least = λ other there ahead before. ⊎_elim
      (λ is. never_back a b a_before_b (subst (λ k. ComesBefore k a) is before))
      (λ is. never_before_itself a (subst (λ k. ComesBefore k a) is before))
      (in_both other there);
}

then_g : IsNextKey added (Behind a) g
then_g = record {
  there = ap is_some has_g;
  ahead = a_before_g;
  least = λ other there ahead before. ⊎_elim
      (λ is. never_before_itself g (subst (λ k. ComesBefore k g) is before))
      (λ is. never_back g b g_before_b (subst (λ k. ComesBefore k g) is before))
      (in_added other there);
}

then_b : IsNextKey all_three (Behind g) b
then_b = record {
  there = ap is_some (get-insert order added a x b ∙ get-insert order left g x b ∙ has_b);
  ahead = g_before_b;
  least = λ other there ahead before. ⊎_elim
      (λ is. never_back a g a_before_g (subst (λ k. ComesBefore g k) is ahead))
      (⊎_elim (λ is. never_before_itself g (subst (λ k. ComesBefore g k) is ahead))
      (λ is. never_before_itself b (subst (λ k. ComesBefore k b) is before)))
      (in_all other there);
}

then_over : IsOver all_three (Behind b)
then_over key there ahead = ⊎_elim
    (λ is. never_back a b a_before_b (subst (λ k. ComesBefore b k) is ahead))
    (⊎_elim (λ is. never_back g b g_before_b (subst (λ k. ComesBefore b k) is ahead))
    (λ is. never_before_itself b (subst (λ k. ComesBefore b k) is ahead)))
    (in_all key there)

by_one : (n m : ℕ) (there : Bool) → m ≡ cond there n (n + 1) → m ≤ n + 1
by_one n m true is = omega (arith, is)
by_one n m false is = omega (arith, is)

not_more : (n m : ℕ) (there : Bool) → m ≡ cond there (n - 1) n → m ≤ n
not_more n m true is = omega (arith, is)
not_more n m false is = omega (arith, is)

len_inserted : (map : Contents) (key content : List ℕ)
    → len (insert map key content) ≤ len map + 1
len_inserted map key content = by_one (len map) (len (insert map key content))
    (contains_key map key) (len-insert order map key content)

len_removed : (map : Contents) (key : Key) → len (remove map key) ≤ len map
len_removed map key = not_more (len map) (len (remove map key)) (contains_key map key)
    (len-remove order map key)

two_left : len left ≤ 2
two_left = omega (arith, one_more a x, len_inserted (only x) b x, len_removed both a)

pub passes_over_changes : PassesOverChanges
passes_over_changes =
    let two = at (in_v1 100) both None NotBegun in
    let behind_a = at (in_v1 100) both None (Behind a) in
    let less = at (in_v1 100) left None (Behind a) in
    let more = at (in_v1 100) added None (Behind a) in
    let behind_g = at (in_v1 100) added None (Behind g) in
    let again = at (in_v1 100) all_three None (Behind g) in
    let behind_b = at (in_v1 100) all_three None (Behind b) in
    may (in_v1 100) (first_store 100 0x61 0x01 (omega arith)
    (goes (at (in_v1 100) (only x) None NotBegun) (Changes Stored two) two
    (adds (in_v1 100) (only x) None NotBegun b x allowed (is_only x b)
    (ap (nat_le 100) (one_more a x))) (refl, refl)
    (goes two (Passes Begun) behind_a refl (inr (a, first_is_a, refl, refl))
    (goes behind_a (Changes Deleted less) less (ap (deleted behind_a a) has_a_at) (refl, refl)
    (goes less (Changes Stored more) more
    (adds (in_v1 100) left None (Behind a) g x allowed
    (get-remove order both a g ∙ get-insert order (only x) b x g ∙ is_only x g)
    (lt-leb 100 (len left) (omega (arith, two_left)))) (refl, refl)
    (goes more (Passes (Behind a)) behind_g refl (inr (g, then_g, refl, refl))
    (goes behind_g (Changes Stored again) again
    (adds (in_v1 100) added None (Behind g) a x allowed
    (get-insert order left g x a ∙ get-remove order both a a)
    (lt-leb 100 (len added) (omega (arith, two_left, len_inserted left g x)))) (refl, refl)
    (goes again (Passes (Behind g)) behind_b refl (inr (b, then_b, refl, refl))
    (goes behind_b (Passes (Behind b)) behind_b refl (inl (then_over, refl, refl))
    (done behind_b))))))))))
