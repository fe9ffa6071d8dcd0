-- The placement that the staged pages spell once the meta page is staged.
use Rattle.std.proofs.Common.{Result, Ok, Err, IfOk, OnOk, ◌≡◌, ℕ, ◌-◌, Bool, true, is_some, [], ◌∷◌, cond, length, sym, ap, ◌∙◌, arith}
use Rattle.std.specs.FinMap.{get, len, len-remove}
use Rattle.std.proofs.lemmas.Cmp.{nat_list_cmp_total}
use Rattle.page_model.specs.Pages.{Meta, Body, MetaPage}
use Rattle.page_model.specs.Space.{times_of}
use Rattle.dbm_model.specs.Pairs.{Key, Contents}
use Rattle.page_model.specs.Placement.{Placement, pairs_of, contents, delete, IsSound}
use Rattle.page_model.specs.PageBodies.{meta_of}
use Rattle.page_model.proofs.Extensions.{meta_rewrites}
use Rattle.page_model.proofs.Places.{delete_sound, contents-delete}
use Rattle.page_model.proofs.Stores.{counts_keys}
use Rattle.page_io.specs.Store.{StoreState}
use Rattle.page_io.specs.declared.store.PageFault.{PageFault}
use Rattle.free_pages.specs.declared.free_state.FreeState.{FreeState}
use Rattle.linear_hash.specs.Tables.{shape_in, space_in, IsTable}
use Rattle.linear_hash.specs.Staging.{IsMidway, IsNewEnd, IsStaged}

-- a change begins at a good placement
pub table_midway : (at : ℕ → Body) (m : Meta) (end : ℕ) (p : Placement) → IsTable at m end p
    → IsMidway at m (space_in m end) p
table_midway at m end p table = record {
  sound = table.good.sound;
  below = record {
    are_read = table.are_read;
    kept =
        ap (λ (n : Meta). space_in n end) table.meta_is
        ∙ ap (space_in (meta_of p)) (sym table.ends);
  };
  shape_is = ap shape_in table.meta_is;
  segments_are = ap (λ (n : Meta). n.segments) table.meta_is;
  bounds_are = ap (λ (n : Meta). n.bounds) table.meta_is;
}

module _ (at : ℕ → Body) (m : Meta) (space : FreeState) (p : Placement)
    (mid : IsMidway at m space p) (counted : m.pairs ≡ length (pairs_of p)) where
  -- what is kept is what the placement's meta page says
  meta_is : record m { free_head = space.head; free_count = space.count } ≡ meta_of p
  meta_is = λ i. record {
    bounds = mid.bounds_are i;
    pairs = counted i;
    level = (mid.shape_is i).level;
    split = (mid.shape_is i).split;
    free_head = (mid.below.kept i).head;
    free_count = (mid.below.kept i).count;
    segments = mid.segments_are i;
  }

  -- it ends where the meta page is staged
  pub staged_at_last : (at' : ℕ → Body) (n : Meta) (end : ℕ)
      → n ≡ record m { free_head = space.head; free_count = space.count } → end ≡ space.file_end
      → at' 1 ≡ MetaPage n → ((k : ℕ) → (k ≡ 1 → ⊥) → at' k ≡ at k) → IsStaged at' n end p
  staged_at_last at' n end is last page others =
      let says : n ≡ meta_of p = is ∙ meta_is in
      record {
        spelled = meta_rewrites p at at' mid.sound mid.below.are_read
            (record {
              are_read = (page ∙ ap MetaPage says, tt);
              others = λ k none.
                  others k (λ same. absurd (apart k same none));
            });
        meta_is = says;
        ends = sym (last ∙ ap (λ (s : FreeState). s.file_end) mid.below.kept);
      }
    where
      apart : (k : ℕ) → k ≡ 1 → times_of k (1 ∷ []) ≡ 0 → ⊥
      apart k same none = let one = ap (λ (n : ℕ). times_of n (1 ∷ [])) same in
          omega (arith, one, none)

-- where a value is answered, and what is said then
pub staged_ok : {T E P : Type 0} {Q R : T → Type 0} (result : Result T E)
    → (P → (x : T) → Q x → R x) → OnOk result P → IfOk result Q → IfOk result R
staged_ok (Ok x) then p q = then p x q
staged_ok (Err e) then p q = tt

-- the number of pairs is not looked at midway
pub midway_pairs : (at : ℕ → Body) (m : Meta) (space : FreeState) (p : Placement) (pairs : ℕ)
    → IsMidway at m space p → IsMidway at (record m { pairs = pairs }) space p
midway_pairs at m space p pairs mid =
    record {
      sound = mid.sound;
      below = mid.below;
      shape_is = mid.shape_is;
      segments_are =
          mid.segments_are;
      bounds_are = mid.bounds_are;
    }

-- a deleted key leaves one pair less
pub deleted_count : (p : Placement) (key : Key) → IsSound p → is_some (get (contents p) key) ≡ true
    → length (pairs_of (delete p key)) ≡ length (pairs_of p) - 1
deleted_count p key sound was =
    sym (counts_keys (delete p key) (delete_sound [] p sound key))
    ∙ ap (λ (c : Contents). len c) (contents-delete [] p sound key)
    ∙ len-remove nat_list_cmp_total (contents p) key
    ∙ ap (λ (b : Bool). cond b (len (contents p) - 1) (len (contents p))) was
    ∙ ap (λ (n : ℕ). n - 1) (counts_keys p sound)

-- the end that a call's last step may give the file, which itself may end it there
pub new_end_later : (old mid new : StoreState) (result : Result ℕ PageFault) → mid.end ≡ old.end
    → IfOk result (IsNewEnd mid new) → IfOk result (IsNewEnd old new)
new_end_later old mid new (Ok end) same told =
    record { may_commit = told.may_commit; grows = omega (arith, same, told.grows) }
new_end_later old mid new (Err e) same told = tt

-- what is kept whatever is answered is kept where it is done
pub kept_at_last : {P : Type 0} {T E : Type 0} (result : Result T E) → P → OnOk result P
kept_at_last (Ok x) holds = holds
kept_at_last (Err e) holds = tt
