-- What a split leaves of the pages on any file.
use Rattle.std.proofs.Common.{◌≡◌, ◌↔◌, ◌∙◌, ℕ, zero, suc, ◌+◌, ◌^◌, Bool, true, false, cond, eqb, List, [], ◌∷◌, map, refl, sym, ap, subst, arith}
use Rattle.std.specs.Prelude.{All}
use Rattle.std.specs.Bool.{IsTrue}
use Rattle.std.specs.Int.{bit_at}
use Rattle.std.specs.List.{AllByRecursion}
use Rattle.std.proofs.lemmas.Bool.Decides.{nat_tests}
use Rattle.dbm_model.specs.Bounds.{Version}
use Rattle.page_model.specs.Pages.{Meta, Body}
use Rattle.page_model.specs.Valid.{IsOf}
use Rattle.bucket_chain.specs.Pairs.{record_as, IsSmall}
use Rattle.bucket_chain.specs.declared.pair.Pair as code
use Rattle.free_pages.specs.declared.free_state.FreeState.{FreeState}
use Rattle.seg_table.specs.Heads.{AddsSegment}
use Rattle.bucket_chain.specs.AnyFile.{AreInTurn, AreAdded, AreStored, IsEmptied}
use Rattle.bucket_chain.proofs.Added.{all_under}
use Rattle.linear_hash.specs.Tables.{shape_in}
use Rattle.linear_hash.specs.Staging.{IsGrown}
use Rattle.linear_hash.specs.AnyFile.{IsExtended, IsSplit, IsSplitWhere, head_for}
use Rattle.linear_hash.specs.Changing.{shaped_as}

-- the test of a bit, as the code makes it
same_test : (up : Bool) (x : ℕ) → (IsTrue up ↔ (x ≡ 1)) → up ≡ eqb x 1
same_test true x is = let one : x ≡ 1 = is.0 refl in
    let test : eqb x 1 ≡ true = grind (arith, nat_tests) in sym test
same_test false x is = by_test (eqb x 1) refl
  where
    by_test : (t : Bool) → eqb x 1 ≡ t → false ≡ t
    by_test true test = is.1 (let one : x ≡ 1 = grind (arith, nat_tests) in one)
    by_test false test = refl

-- and the head page that it chooses
pub chosen_head : (up : Bool) (level taken head to hash hash' : ℕ)
    → (IsTrue up ↔ (bit_at hash level ≡ 1)) → hash ≡ hash' → to ≡ cond up taken head
    → to ≡ cond (eqb (bit_at hash' level) 1) taken head
chosen_head up level taken head to hash hash' bit same is =
    is ∙ ap (λ (t : Bool). cond t taken head)
    (same_test up (bit_at hash level) bit ∙ ap (λ (h : ℕ). eqb (bit_at h level) 1) same)

-- where no pair is put again, the chain was emptied and no more
pub emptied_alone : (old new : ℕ → Body) (Ends : Type 0) (before after : FreeState) (head : ℕ)
    → AreStored old new Ends before after head [] → IsEmptied old new before after head
emptied_alone old new Ends before after head stored =
    subst (λ (f : ℕ → Body). IsEmptied old f before after head) (sym stored.second.0)
    (subst (λ (a : FreeState). IsEmptied old stored.mid before a head) (sym stored.second.1)
    stored.first)

-- each record that was loaded is one of the version
pub all_of_version : (version : Version) (pairs : List code.Pair)
    → All (λ pair. IsSmall version (record_as pair)) pairs
    → AllByRecursion (IsOf version) (map record_as pairs)
all_of_version version [] small = tt
all_of_version version (pair ∷ pairs) small = (
  (small zero pair (omega arith)).of_version,
  all_of_version version pairs (λ i d within. small (suc i) d (omega (arith, within))),
)

-- whether there were too many pairs
module _ (Ends : Type 0) {t : Bool} {old new : ℕ → Body} {m n : Meta}
    {before after : FreeState} where
  pub where_many : t ≡ true → IsSplit Ends old new m n before after
      → IsSplitWhere t Ends old new m n before after
  where_many is split =
      subst (λ (b : Bool). IsSplitWhere b Ends old new m n before after) (sym is) split

  pub where_few : t ≡ false → (new ≡ old) × (n ≡ m) × (after ≡ before)
      → IsSplitWhere t Ends old new m n before after
  where_few is still =
      subst (λ (b : Bool). IsSplitWhere b Ends old new m n before after) (sym is) still

-- the count of pairs and the free pages are none of a split's
module _ (before n after : Meta) (pairs head count : ℕ)
    (free : after ≡ record n { free_head = head; free_count = count }) where
  same_segments : after.segments ≡ n.segments
  same_segments = ap (λ (m : Meta). m.segments) free

  grown_shaped : IsGrown (record before { pairs = pairs }) n → IsGrown before
      (shaped_as before after)
  grown_shaped grown = record {
    shape = ap shape_in free ∙ grown.shape;
    segments = subst (λ (ns : List ℕ).
        AddsSegment before (record before { segments = ns }) (2 ^ before.level + before.split))
        (sym same_segments) (record {
          rest = refl;
          kept = grown.segments.kept;
          count = grown.segments.count;
          used = grown.segments.used;
        });
    rest = refl;
  }

  still_shaped : n ≡ record before { pairs = pairs } → shaped_as before after ≡ before
  still_shaped still = λ i. record before {
    level = (ap (λ (m : Meta). m.level) free ∙ ap (λ (m : Meta). m.level) still) i;
    split = (ap (λ (m : Meta). m.split) free ∙ ap (λ (m : Meta). m.split) still) i;
    segments = (ap (λ (m : Meta). m.segments) free ∙ ap (λ (m : Meta). m.segments) still) i;
  }

  pub split_shaped : (t : Bool) (Ends : Type 0) → Ends → (old new : ℕ → Body)
      (space left : FreeState)
      → IsSplitWhere t Ends old new (record before { pairs = pairs }) n space left
      → IsSplitWhere t (Unit {0}) old new before (shaped_as before after) space left
  split_shaped true Ends ends old new space left is = record {
    head = is.head;
    taken = is.taken;
    records = is.records;
    entry = is.entry;
    says = is.says;
    of_version = is.of_version;
    change = subst (λ (ns : List ℕ). AreInTurn
        (λ mid between.
        IsExtended old mid before (record before { segments = ns }) space between is.head is.taken)
        (λ mid between. AreAdded mid new (Unit {0}) between left
        (head_for before.level is.head is.taken) is.records)) (sym same_segments)
        (record {
          mid = is.change.mid;
          between = is.change.between;
          first = is.change.first;
          second = all_under Ends (Unit {0}) (λ u. ends)
              (head_for before.level is.head is.taken) is.change.mid is.change.between is.records
              new
              left is.change.second;
        });
    grown = grown_shaped is.grown;
  }
  split_shaped false Ends ends old new space left is = (is.0, still_shaped is.1, is.2)
