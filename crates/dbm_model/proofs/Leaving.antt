-- What is left by lists of changes.
use Rattle.std.proofs.Common.{◌≡◌, ◌⊎◌, inl, inr, ⊎_elim, suc, Bool, true, false, ◌||◌, cond, List, [], ◌∷◌, ◌++◌, map, refl, sym, ◌∙◌, subst}
use Rattle.dbm_model.specs.Bounds.{Bounds}
use Rattle.dbm_model.specs.Members.{Member, NoDatabase, Holding, Opening, opened}
use Rattle.dbm_model.specs.Calls.{Fault, Device}
use Rattle.dbm_model.specs.SessionChanges.{Opens, applied, Marked, Acknowledged, InDoubt, of_opening, of_refused, LeftBy, OnlyLastInDoubt, IsLeftByPrefix}

-- one list behind another
pub left_append : (xs ys : List Marked) (a b c : Member) → LeftBy xs a b → LeftBy ys b c
    → LeftBy (xs ++ ys) a c
left_append [] ys a b c first then = subst (λ (m : Member). LeftBy ys m c) first then
left_append (Acknowledged change ∷ xs) ys a b c first then =
    left_append xs ys (applied change a) b c first then
left_append (InDoubt change ∷ xs) ys a b c (inl done) then =
    inl (left_append xs ys (applied change a) b c done then)
left_append (InDoubt change ∷ xs) ys a b c (inr not_done) then =
    inr (left_append xs ys a b c not_done then)

-- an opening that neither creates nor empties makes nothing of what it finds
opens_as_is : (create truncate : Bool) (limit : Bounds) (m : Member)
    → (create || truncate) ≡ false
    → opened (record { create = create; truncate = truncate; bounds = limit }) m ≡ m
opens_as_is false false limit NoDatabase none = refl
opens_as_is false false limit (Holding map most) none = refl
opens_as_is true truncate limit m none = absurd (let x = none in cc)
opens_as_is false true limit m none = absurd (let x = none in cc)

pub opening_made : (how : Opening) (m : Member)
    → LeftBy (of_opening Acknowledged how) m (opened how m)
opening_made how m = elim (how.create || how.truncate) as
    (λ b. (how.create || how.truncate) ≡ b
    → LeftBy (cond b (Acknowledged (Opens how) ∷ []) []) m (opened how m)) [
      | true ↦ λ is. refl
      | false ↦ λ is. opens_as_is how.create how.truncate how.bounds m is
    ] refl

pub opening_in_doubt : (how : Opening) (m after : Member) → (after ≡ m) ⊎ (after ≡ opened how m)
    → LeftBy (of_opening InDoubt how) m after
opening_in_doubt how m after left = elim (how.create || how.truncate) as
    (λ b. (how.create || how.truncate) ≡ b
    → LeftBy (cond b (InDoubt (Opens how) ∷ []) []) m after) [
      | true ↦ λ is. ⊎_elim (λ e. inr e) (λ e. inl e) left
      | false ↦ λ is. ⊎_elim (λ e. e)
          (λ e. e ∙ opens_as_is how.create how.truncate how.bounds m is) left
    ] refl

-- where none is in doubt but the last, what is left is left by a prefix
pub prefix_left : (changes : List Marked) (before after : Member) → OnlyLastInDoubt changes
    → LeftBy changes before after → IsLeftByPrefix changes before after
prefix_left [] before after one left = record { count = 0; left = left; missing = tt }
prefix_left (Acknowledged change ∷ changes) before after one left =
    let rest = prefix_left changes (applied change before) after one left in record {
      count = suc rest.count;
      left = rest.left;
      missing = rest.missing;
    }
prefix_left (InDoubt change ∷ []) before after one (inl done) =
    record { count = 1; left = done; missing = tt }
prefix_left (InDoubt change ∷ []) before after one (inr not_done) =
    record { count = 0; left = not_done; missing = tt }
prefix_left (InDoubt change ∷ other ∷ changes) before after one left =
    absurd (let x = one in cc)

-- all of them were acknowledged
abbrev pub AllMade : List Marked → Type 0
AllMade [] = Unit {0}
AllMade (Acknowledged change ∷ changes) = AllMade changes
AllMade (InDoubt change ∷ changes) = ⊥

pub all_append : (xs ys : List Marked) → AllMade xs → AllMade ys → AllMade (xs ++ ys)
all_append [] ys first then = then
all_append (Acknowledged change ∷ xs) ys first then = all_append xs ys first then
all_append (InDoubt change ∷ xs) ys first then = absurd first

pub one_behind : (xs ys : List Marked) → AllMade xs → OnlyLastInDoubt ys
    → OnlyLastInDoubt (xs ++ ys)
one_behind [] ys all one = one
one_behind (Acknowledged change ∷ xs) ys all one = one_behind xs ys all one
one_behind (InDoubt change ∷ xs) ys all one = absurd all

pub none_in_doubt : (xs : List Marked) → AllMade xs → OnlyLastInDoubt xs
none_in_doubt [] all = tt
none_in_doubt (Acknowledged change ∷ xs) all = none_in_doubt xs all
none_in_doubt (InDoubt change ∷ xs) all = absurd all

pub opening_all : (how : Opening) → AllMade (of_opening Acknowledged how)
opening_all how = elim (how.create || how.truncate) as
    (λ b. AllMade (cond b (Acknowledged (Opens how) ∷ []) [])) [ true ↦ tt | false ↦ tt ]

pub opening_one : (how : Opening) → OnlyLastInDoubt (of_opening InDoubt how)
opening_one how = elim (how.create || how.truncate) as
    (λ b. OnlyLastInDoubt (cond b (InDoubt (Opens how) ∷ []) [])) [ true ↦ refl | false ↦ tt ]

-- a refusal that is none of the device leaves nothing in doubt
pub refused_for_good : (fault : Fault) (how : Opening) → (fault ≡ Device → ⊥)
    → of_refused fault how ≡ []
refused_for_good Device how other = absurd (other refl)
refused_for_good fault how other = refl

-- none but the opening is
pub refused_one : (fault : Fault) (how : Opening) → OnlyLastInDoubt (of_refused fault how)
refused_one Device how = opening_one how
refused_one fault how = tt

-- what those behind acknowledged ones leave
pub left_rest : (xs ys : List Marked) (a b c : Member) → AllMade xs → LeftBy xs a b
    → LeftBy (xs ++ ys) a c → LeftBy ys b c
left_rest [] ys a b c all first both = subst (λ (m : Member). LeftBy ys m c) (sym first) both
left_rest (Acknowledged change ∷ xs) ys a b c all first both =
    left_rest xs ys (applied change a) b c all first both
left_rest (InDoubt change ∷ xs) ys a b c all first both = absurd all
