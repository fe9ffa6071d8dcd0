-- How many buckets a change leaves, and which store opens one.
use Rattle.std.proofs.Common.{◌≡◌, ℕ, ◌+◌, ◌*◌, inl, inr, List, Bool, true, false, cond, Option, Some, None, is_some, refl, sym, ◌∙◌, ap, ap₂, subst, arith}
use Rattle.std.specs.Prelude.{nat_lt, ◌||◌}
use Rattle.std.specs.FinMap.{get, len}
use Rattle.std.proofs.lemmas.Bool.{le-leb}
use Rattle.dbm_model.specs.Calls as model
use Rattle.dbm_model.specs.Pairs.{Pair, Contents, is_far}
use Rattle.dbm_model.specs.States.{Handle}
use Rattle.dbm_model.specs.Steps.{buckets_added, holds_far, is_full, store_takes, takes_memory}
use Rattle.page_model.specs.Address.{Shape, buckets, grown}
use Rattle.page_model.specs.Pages.{Meta}
use Rattle.page_model.specs.Placement.{Placement, contents}
use Rattle.page_model.specs.Valid.{IsMeta, meta_buckets}
use Rattle.page_model.proofs.Splits.{buckets_grown}
use Rattle.linear_hash.specs.Staging.{WouldSplit, MayTakeMemory, TakesMemory}
use Rattle.linear_hash.specs.Tables.{shape_in, shape_for}
use Rattle.dbm_file.specs.Calls.{mode_of}
use Rattle.dbm_file.specs.Changing.{HasFullBuckets, MayNeedMemory}
use Rattle.dbm_file.specs.declared.calls.StoreMode.{StoreMode}
use Rattle.dbm_file.specs.declared.calls.StoreMode.TheVariants.{Replace}

-- a change that keeps the shape opens none
pub none_opened : (before : Handle) (reply : model.Reply) (old new : Meta) (pairs : ℕ)
    → shape_in new ≡ shape_in old → buckets_added before reply pairs ≡ 0
    → meta_buckets new ≡ meta_buckets old + buckets_added before reply pairs
none_opened before reply old new pairs shape none =
    let same : meta_buckets new ≡ meta_buckets old = ap buckets shape in
    omega (arith, same, none)

-- one that may grow it opens one where there are then more than eight pairs to a bucket
grown_by : (s : Shape) (pairs : ℕ)
    → buckets (shape_for pairs s) ≡ buckets s + cond (nat_lt (8 * buckets s) pairs) 1 0
grown_by s pairs = elim (nat_lt (8 * buckets s) pairs) as
    (λ full. buckets (cond full (grown s) s) ≡ buckets s + cond full 1 0) [
      | true ↦ buckets_grown s
      | false ↦ omega arith
    ]

pub store_opens : (old mid new : Meta) (pairs : ℕ) → mid ≡ old → new.pairs ≡ pairs
    → shape_in new ≡ shape_for new.pairs (shape_in mid)
    → meta_buckets new
    ≡ meta_buckets mid + cond (nat_lt (8 * meta_buckets old) pairs) 1 0
store_opens old mid new pairs same counted shape =
    ap buckets shape ∙ grown_by (shape_in mid) new.pairs
    ∙ ap₂ (λ (m : Meta) (n : ℕ). meta_buckets mid + cond (nat_lt (8 * meta_buckets m) n) 1 0)
    same counted

-- a store that may take memory is one that may need it
pub may_need : (old mid : Meta) (pair : Pair) (mode : StoreMode) (there : Bool) → IsMeta old
    → mid ≡ old → (there ≡ true → mode ≡ Replace) → MayTakeMemory mid there pair
    → MayNeedMemory old pair mode
may_need old mid pair mode there valid same replaces takes =
    by_case (subst (λ (m : Meta). MayTakeMemory m there pair) same takes)
  where
    full : (b : Bool) → WouldSplit old b → HasFullBuckets old
    full true would = absurd (omega (arith, would, valid.few_pairs.1))
    full false would = omega (arith, would, valid.few_pairs.1)

    by_case : MayTakeMemory old there pair → MayNeedMemory old pair mode
    by_case (inl would) = inl (full there would)
    by_case (inr (inl far)) = inr (inl far)
    by_case (inr (inr (was, second))) = inr (inr (replaces was, second))

or_right : (a b : Bool) → b ≡ true → (a || b) ≡ true
or_right true b is = refl
or_right false b is = is

or_left : (a b : Bool) → a ≡ true → (a || b) ≡ true
or_left true b is = refl
or_left false b is = absurd (let e = is in cc)

-- by what the key has, and in which mode: a new key where there are eight pairs to a bucket, a far
-- content, and one in the place of a far content
module _ (h : Handle) (key content : List ℕ) where
  full_takes : (mode : model.Mode) (old : Option (List ℕ)) → is_some old ≡ false
      → is_full h ≡ true → store_takes h key content mode old ≡ true
  full_takes mode (Some earlier) absent full = absurd (let e = absent in cc)
  full_takes model.Insert None absent full = or_left (is_full h) (is_far (key, content)) full
  full_takes model.Replace None absent full = or_left (is_full h) (is_far (key, content)) full

  far_takes : (mode : model.Mode) (old : Option (List ℕ))
      → (is_some old ≡ true → mode ≡ model.Replace)
      → is_far (key, content) ≡ true → store_takes h key content mode old ≡ true
  far_takes model.Insert (Some old) replaces far = absurd (let e = replaces refl in cc)
  far_takes model.Replace (Some old) replaces far =
      or_left (is_far (key, content)) (is_far (key, old)) far
  far_takes model.Insert None replaces far = or_right (is_full h) (is_far (key, content)) far
  far_takes model.Replace None replaces far = or_right (is_full h) (is_far (key, content)) far

  frees_far : (mode : model.Mode) (old : Option (List ℕ))
      → (is_some old ≡ true → mode ≡ model.Replace)
      → holds_far key old ≡ true → store_takes h key content mode old ≡ true
  frees_far mode None replaces far = absurd (let e = far in cc)
  frees_far model.Insert (Some old) replaces far = absurd (let e = replaces refl in cc)
  frees_far model.Replace (Some old) replaces far =
      or_right (is_far (key, content)) (is_far (key, old)) far

-- a store that found no memory takes some
pub would_take : (h : Handle) (key content : List ℕ) (mode : StoreMode) (there : Bool)
    (kept : Meta) (p : Placement) → there ≡ is_some (get h.state.map key)
    → (there ≡ true → mode ≡ Replace) → contents p ≡ h.state.map
    → kept.pairs ≡ len h.state.map → meta_buckets kept ≡ h.buckets → IsMeta kept
    → TakesMemory kept p there (key, content)
    → takes_memory h (model.Store key content (mode_of mode)) ≡ true
would_take h key content mode there kept p is replaces map counted same valid takes =
    by_case takes
  where
    replaces_it : is_some (get h.state.map key) ≡ true → mode_of mode ≡ model.Replace
    replaces_it has = ap mode_of (replaces (is ∙ has))

    new_key : (b : Bool) → b ≡ is_some (get h.state.map key) → WouldSplit kept b
        → store_takes h key content (mode_of mode) (get h.state.map key) ≡ true
    new_key true found would = absurd (omega (arith, would, valid.few_pairs.1))
    new_key false absent would = full_takes h key content (mode_of mode) (get h.state.map key) (sym absent)
        (le-leb (8 * h.buckets) (len h.state.map) (omega (arith, would, counted, same)))

    by_case : TakesMemory kept p there (key, content)
        → store_takes h key content (mode_of mode) (get h.state.map key) ≡ true
    by_case (inl would) = new_key there is would
    by_case (inr (inl far)) = far_takes h key content (mode_of mode) (get h.state.map key) replaces_it far
    by_case (inr (inr far)) = frees_far h key content (mode_of mode) (get h.state.map key) replaces_it
        (subst (λ (c : Contents). holds_far key (get c key) ≡ true) map far)
