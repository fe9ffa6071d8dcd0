-- Stores in a group, as steps of the database that it began from.
use Rattle.std.proofs.Common.{◌≡◌, ◌⊎◌, inl, inr, ⊎_elim, ℕ, ◌+◌, ◌≤◌, List, [], ◌∷◌, ◌++◌, map, Bool, true, false, cond, Option, Some, None, Ok, refl, sym, ◌∙◌, ap, subst, arith}
use Rattle.std.specs.Prelude.{nat_le}
use Rattle.std.specs.FinMap.{get, insert, len}
use Rattle.std.proofs.lemmas.List.{map-append}
use Rattle.dbm_model.specs.Bounds.{Bounds}
use Rattle.dbm_model.specs.Calls as model
use Rattle.dbm_model.specs.Changes.{replacing, with_pairs}
use Rattle.dbm_model.specs.Pairs.{Pair, Contents, is_allowed}
use Rattle.dbm_model.specs.Sizes.{home, most_taken}
use Rattle.dbm_model.specs.States.{State, Handle}
use Rattle.dbm_model.specs.Steps.{Case, Tells, Refuses, Declines, Finds, Passes, Changes, stored, with_map, case_of, Answers, Suffers, Step, Run}
use Rattle.dbm_model.proofs.CaseLemmas.{map_of_usable}
use Rattle.dbm_model.proofs.Runs.{run-push}
use Rattle.page_model.specs.Valid.{meta_buckets}
use Rattle.page_io.specs.declared.store.PageStore.{Ghosts}
use Rattle.dbm_file.specs.Answers.{IsStep, IsCallEnded}
use Rattle.dbm_file.specs.Calls.{store_reply}
use Rattle.dbm_file.specs.Database.{store_of, meta_kept, page_state, handle_of, IsAt}
use Rattle.dbm_file.specs.GroupsInMemory.{IsSameGroup, handle_in, IsAlike, IsStoredIn, StoresOne, StoresMany}
use Rattle.dbm_file.specs.declared.calls.StoreReply.{StoreReply}
use Rattle.dbm_file.specs.declared.calls.StoreReply.TheVariants.{Kept}
use Rattle.dbm_file.specs.declared.calls.StoreReply.TheVariants as done
use Rattle.dbm_file.specs.declared.database.Database.{Database}
use Rattle.dbm_file.proofs.Cases.{by_length}

-- a store that was acknowledged changed the map
abbrev inserted : State → List ℕ → List ℕ → State
inserted s key content = with_map s (insert s.map key content)

module _ (s : State) (key content : List ℕ) (after : State) where
  abbrev IsChange : Case → Type 0
  IsChange c = (c ≡ Changes model.Stored (inserted s key content)) × (after ≡ inserted s key content)

  by_old : (old : Option (List ℕ))
      → Answers s (stored s key content model.Replace old) model.Stored after
      → IsChange (stored s key content model.Replace old)
  by_old (Some earlier) is = (refl, is.1)
  by_old None is = elim (nat_le s.bounds.limit (len s.map)) as
      (λ b. Answers s (cond b (Declines model.Full)
      (Changes model.Stored (inserted s key content))) model.Stored after
      → IsChange (cond b (Declines model.Full) (Changes model.Stored (inserted s key content)))) [
        | true ↦ λ full. absurd (let e = full.0 in cc)
        | false ↦ λ done. (refl, done.1)
      ] is

  by_size : (b : Bool) → Answers s (cond b (stored s key content model.Replace (get s.map key))
      (Refuses model.TooLong)) model.Stored after
      → IsChange (cond b (stored s key content model.Replace (get s.map key))
      (Refuses model.TooLong))
  by_size true is = by_old (get s.map key) is
  by_size false is = absurd (let e = is.0 in cc)

changed : (h : Handle) (key content : List ℕ) (after : State) → h.state.usable ≡ true
    → h.state.writable ≡ true
    → Answers h.state (case_of h (model.Store key content model.Replace)) model.Stored after
    → IsChange h.state key content after (case_of h (model.Store key content model.Replace))
changed h key content after usable writable is =
    let rule = by_length h key content model.Replace usable writable in
    subst (IsChange h.state key content after) (sym rule)
    (by_size h.state key content after (is_allowed h.state.bounds.version (key, content))
    (subst (λ (c : Case). Answers h.state c model.Stored after) rule is))

-- it wasn't refused
unrefused : (before : Handle) (call : model.Call) (c : Case) (after : Handle)
    → Suffers before call c model.Stored after → ⊥
unrefused before call (Tells said told) after is = is
unrefused before call (Refuses fault) after is = is
unrefused before call (Declines fault) after is = let e = is.0 in cc
unrefused before call (Finds found) after (inl fails) = let e = fails.0 in cc
unrefused before call (Finds found) after (inr memory) = let e = memory.0 in cc
unrefused before call (Passes from) after is = let e = is.0 in cc
unrefused before call (Changes said next) after (inl fails) = let e = fails.0 in cc
unrefused before call (Changes said next) after (inr (inl breaks)) = let e = breaks.0 in cc
unrefused before call (Changes said next) after (inr (inr (inl memory))) = let e = memory.0 in cc
unrefused before call (Changes said next) after (inr (inr (inr room))) = let e = room.0 in cc

-- where it changes the map at one handle, it changes that at each with the same map and bounds
module _ (h k : Handle) (key content : List ℕ) (map_is : k.state.map ≡ h.state.map)
    (bounds_are : k.state.bounds ≡ h.state.bounds) (next : State) where
  has_place : (b : Bool)
      → cond b (Declines model.Full) (Changes model.Stored (inserted h.state key content))
      ≡ Changes model.Stored next → b ≡ false
  has_place true is = absurd (let e = is in cc)
  has_place false is = refl

  same_test : nat_le k.state.bounds.limit (len k.state.map)
      ≡ nat_le h.state.bounds.limit (len h.state.map)
  same_test = ap (λ (b : Bounds). nat_le b.limit (len k.state.map)) bounds_are
      ∙ ap (λ (m : Contents). nat_le h.state.bounds.limit (len m)) map_is

  same_rule : (old : Option (List ℕ))
      → stored h.state key content model.Replace old ≡ Changes model.Stored next
      → stored k.state key content model.Replace old
      ≡ Changes model.Stored (inserted k.state key content)
  same_rule (Some earlier) is = refl
  same_rule None is =
      ap (λ (b : Bool).
      cond b (Declines model.Full) (Changes model.Stored (inserted k.state key content)))
      (same_test ∙ has_place (nat_le h.state.bounds.limit (len h.state.map)) is)

  allows : (b : Bool) (rule : Case)
      → cond b rule (Refuses model.TooLong) ≡ Changes model.Stored next
      → (b ≡ true) × (rule ≡ Changes model.Stored next)
  allows true rule is = (refl, is)
  allows false rule is = absurd (let e = is in cc)

  same_case : h.state.usable ≡ true → h.state.writable ≡ true → k.state.usable ≡ true
      → k.state.writable ≡ true
      → case_of h (model.Store key content model.Replace) ≡ Changes model.Stored next
      → case_of k (model.Store key content model.Replace)
      ≡ Changes model.Stored (inserted k.state key content)
  same_case usable writable also too is =
      let found = allows (is_allowed h.state.bounds.version (key, content))
      (stored h.state key content model.Replace (get h.state.map key))
      (sym (by_length h key content model.Replace usable writable) ∙ is) in
      by_length k key content model.Replace also too
      ∙ ap (λ (b : Bool). cond b (stored k.state key content model.Replace (get k.state.map key))
      (Refuses model.TooLong))
      (ap (λ (b : Bounds). is_allowed b.version (key, content)) bounds_are ∙ found.0)
      ∙ same_rule (get k.state.map key)
      (ap (λ (x : Contents). stored h.state key content model.Replace (get x key)) map_is ∙ found.1)

module _ {G : Type 0} {g : Ghosts G} (old new : Database G g) where
  -- the step of a store in the group, from a handle that is like the group's
  module _ (contents : Contents) (pair : Pair) (usable : (page_state old).usable ≡ true)
      (writable : (page_state old).writable ≡ true) (after : Handle)
      (step : Step (handle_of old contents) (replacing pair) model.Stored after)
      (is : after ≡ handle_of new (insert contents pair.0 pair.1)) where
    abbrev own : Handle
    own = handle_of old contents

    abbrev left : Handle
    left = handle_of new (insert contents pair.0 pair.1)

    own_step : Step own (replacing pair) model.Stored left
    own_step = subst (λ (h : Handle). Step own (replacing pair) model.Stored h) is step

    falls : case_of own (replacing pair)
        ≡ Changes model.Stored (inserted own.state pair.0 pair.1)
    falls = ⊎_elim
        (λ answers. (changed own pair.0 pair.1 left.state usable writable answers).0)
        (λ suffers. absurd (unrefused own (replacing pair) (case_of own (replacing pair)) left suffers))
        own_step.answers

    pub stored_step : (before : Handle) (faults : ℕ) → IsAlike before old
        → Step (handle_in before faults old contents) (replacing pair) model.Stored
        (handle_in before faults new (insert contents pair.0 pair.1))
    stored_step before faults alike = record {
      counts = omega arith;
      capacity = refl;
      pages = subst (λ (b : Bounds). ((page_state old).end ≤ (page_state new).end)
          × ((page_state new).end ≤ (page_state old).end + (len contents + most_taken b.version)))
          (sym alike.bounds) own_step.pages;
      bounded = subst (λ (n : Bounds). ((page_state new).end ≡ (page_state old).end)
          ⊎ ((page_state new).end ≤ home n)) (sym alike.bounds) own_step.bounded;
      buckets = own_step.buckets;
      answers = inl (subst (λ (c : Case).
          Answers (handle_in before faults old contents).state c model.Stored
          (handle_in before faults new (insert contents pair.0 pair.1)).state)
          (sym (same_case own (handle_in before faults old contents) pair.0 pair.1 refl
          alike.bounds _ usable writable alike.usable alike.writable falls)) (refl, refl));
    }

  -- what a store in the group that was answered leaves there
  module _ (pair : Pair) (writable : (page_state old).writable ≡ true)
      (usable : (page_state old).usable ≡ true) (now : (page_state new).usable ≡ true) where
    pub stored_in : (contents : Contents)
        → IsStep old new (handle_of old contents) (replacing pair) model.Stored
        → IsStoredIn old new contents pair
    stored_in contents is =
        let after_usable = ap (λ (h : Handle). h.state.usable) is.is_at.shows ∙ now in
        let left = map_of_usable (handle_of old contents) is.after (replacing pair) model.Stored
        is.step after_usable in
        let after_is = is.is_at.shows ∙ ap (handle_of new) left in
        record {
          step = stored_step contents pair usable writable is.after is.step after_is;
          is_at = subst (IsAt new) after_is is.is_at;
        }

-- a replacing store that is answered has stored its pair
pub is_stored : (reply : StoreReply) → (reply ≡ Kept → ⊥) → reply ≡ done.Stored
is_stored done.Stored not_kept = refl
is_stored done.Kept not_kept = absurd (not_kept refl)

-- what is known of the group before and after a store that was answered
module _ {G T : Type 0} {g : Ghosts G} (old new : Database G g) (value : T)
    (keeps : IsCallEnded old new (Ok value)) where
  pub was_sound : (page_state old).usable ≡ true
  was_sound = by_mark (page_state old).usable refl
    where
      by_mark : (b : Bool) → (page_state old).usable ≡ b → (page_state old).usable ≡ true
      by_mark true is = is
      by_mark false is = absurd (let e = keeps.broken.1 is in let x = e in cc)

  pub is_sound : (page_state new).usable ≡ true
  is_sound = ⊎_elim (λ same. same ∙ was_sound) (λ broke. absurd (let e = broke.0 in cc)) keeps.breaks

-- a step with the call and the reply told otherwise
pub as_stored : {G : Type 0} {g : Ghosts G} {old new : Database G g} {h : Handle}
    (key content : List ℕ) (pair : Pair) (reply : StoreReply) → key ≡ pair.0 → content ≡ pair.1
    → reply ≡ done.Stored
    → IsStep old new h (model.Store key content model.Replace) (store_reply (Ok reply))
    → IsStep old new h (replacing pair) model.Stored
as_stored {old = old} {new = new} {h = h} key content pair reply k v is step =
    subst (λ (x : List ℕ). IsStep old new h (model.Store x pair.1 model.Replace) model.Stored) k
    (subst (λ (x : List ℕ). IsStep old new h (model.Store key x model.Replace) model.Stored) v
    (subst (λ (r : StoreReply). IsStep old new h (model.Store key content model.Replace)
    (store_reply (Ok r))) is step))

-- the pairs stored so far, with one more
last_pair : (contents : Contents) (pairs : List Pair) (pair : Pair)
    → with_pairs contents (pairs ++ pair ∷ []) ≡ insert (with_pairs contents pairs) pair.0 pair.1
last_pair contents [] pair = refl
last_pair contents (first ∷ pairs) pair = last_pair (insert contents first.0 first.1) pairs pair

-- groups whose files are the same
module _ {G : Type 0} {g : Ghosts G} where
  same_handle : (old new : Database G g) → IsSameGroup old new → (before : Handle) (faults : ℕ)
      (contents : Contents)
      → handle_in before faults new contents ≡ handle_in before faults old contents
  same_handle old new same before faults contents =
      ap (λ (n : ℕ). record (handle_in before faults new contents) { pages = n }) same.end
      ∙ ap (λ m. record (handle_in before faults new contents) {
        pages = (page_state old).end;
        buckets = meta_buckets m;
      }) same.meta

  pub alike_still : (old new : Database G g) (before : Handle)
      → (meta_kept new).bounds ≡ (meta_kept old).bounds
      → (page_state new).capacity ≡ (page_state old).capacity → IsAlike before old
      → IsAlike before new
  alike_still old new before bounds capacity alike = record {
    usable = alike.usable;
    writable = alike.writable;
    bounds = alike.bounds ∙ sym bounds;
    capacity = alike.capacity ∙ sym capacity;
  }

  pub one_more_stored : (old mid new : Database G g) (pairs : List Pair) (pair : Pair)
      → (meta_kept mid).bounds ≡ (meta_kept old).bounds
      → (page_state mid).capacity ≡ (page_state old).capacity
      → (g.honest (store_of old) → g.honest (store_of mid))
      → StoresMany old mid pairs → StoresOne mid new pair true
      → StoresMany old new (pairs ++ pair ∷ [])
  one_more_stored old mid new pairs pair bounds capacity honesty many one honest contents at =
      let earlier = many honest contents at in
      let last = one (honesty honest) (with_pairs contents pairs) earlier.is_at in
      let is = sym (last_pair contents pairs pair) in
      record {
        run = λ before faults alike.
            subst (λ cs. Run (handle_in before faults old contents) cs
            (map (λ _. model.Stored) (pairs ++ pair ∷ []))
            (handle_in before faults new (with_pairs contents (pairs ++ pair ∷ []))))
            (sym (map-append replacing pairs (pair ∷ [])))
            (subst (λ rs. Run (handle_in before faults old contents)
            (map replacing pairs ++ replacing pair ∷ []) rs
            (handle_in before faults new (with_pairs contents (pairs ++ pair ∷ []))))
            (sym (map-append (λ _. model.Stored) pairs (pair ∷ [])))
            (subst (λ m. Run (handle_in before faults old contents)
            (map replacing pairs ++ replacing pair ∷ [])
            (map (λ _. model.Stored) pairs ++ model.Stored ∷ [])
            (handle_in before faults new m)) is
            (run-push _ _ _ (map replacing pairs) (map (λ _. model.Stored) pairs)
            (replacing pair) model.Stored (earlier.run before faults alike)
            (last.step before faults (alike_still old mid before bounds capacity alike)))));
        is_at = subst (λ m. IsAt new (handle_of new m)) is last.is_at;
      }

  -- and with no more
  pub no_more_stored : (old mid new : Database G g) (pairs : List Pair)
      → (g.honest (store_of old) → g.honest (store_of mid))
      → StoresMany old mid pairs → IsSameGroup mid new → StoresMany old new pairs
  no_more_stored old mid new pairs honesty many same honest contents at =
      let earlier = many honest contents at in
      record {
        run = λ before faults alike.
            subst (λ (h : Handle). Run (handle_in before faults old contents) (map replacing pairs)
            (map (λ _. model.Stored) pairs) h)
            (sym (same_handle mid new same before faults (with_pairs contents pairs)))
            (earlier.run before faults alike);
        is_at = same.stays (honesty honest) (with_pairs contents pairs) earlier.is_at;
      }
