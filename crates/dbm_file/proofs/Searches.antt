-- Searches, by what they answered.
use Rattle.std.proofs.Common.{◌≡◌, ◌⊎◌, ◌<◌, ℕ, zero, suc, Bool, true, false, is_some, List, [], ◌∷◌, length, get_or, refl, arith, Option, Some, None, Result, Err, IfOk, inl, inr, sym, ◌∙◌, subst}
use Rattle.std.specs.Prelude.{◌↔◌, ◌≢◌, IsSome}
use Rattle.std.specs.Borrow.{Bor}
use Rattle.std.specs.List.{HoldsAt}
use Rattle.dbm_model.specs.Pairs.{Key}
use Rattle.dbm_model.specs.States.{Pass, NotBegun}
use Rattle.dbm_model.specs.Steps.{IsAhead}
use Rattle.bucket_chain.specs.Chains.{ReadLeaf}
use Rattle.page_model.specs.Pages.{Meta, Body, Record}
use Rattle.page_io.specs.BucketPages.{page_records}
use Rattle.content_pages.specs.Contents.{IsContentAt}
use Rattle.bucket_chain.specs.Walks.{EndsWithout}
use Rattle.bucket_chain.specs.declared.content_lookups.FoundContent.{FoundContent}
use Rattle.bucket_chain.specs.declared.content_lookups.FoundContent.TheVariants.{Near, Far}
use Rattle.bucket_chain.specs.declared.place.Place.{Place}
use Rattle.linear_hash.specs.Looking.{IsSearch, EndsAt, EndsAtFound, SaysContent}
use Rattle.dbm_fault.specs.declared.fault.Fault.{Fault}
use Rattle.dbm_fault.specs.declared.fault.Fault.TheVariants.{NoPass, Device, Damaged}
use Rattle.bucket_chain.specs.Leasts.{IsAheadAt}
use Rattle.linear_hash.specs.Passing.{IsPassed}
use Rattle.dbm_file.specs.Searches.{EndsWith, EndsBy, EndsAtContent, EndsAtFar, IsGiven}

-- no record
abbrev pub blank : Record
blank = record { key = []; bytes = []; far = None }

-- within a list it doesn't matter what stands behind it
pub same_slot : (rs : List Record) (k : ℕ) → k < length rs → (d e : Record)
    → get_or rs k d ≡ get_or rs k e
same_slot [] k lt d e = absurd (omega (arith, lt))
same_slot (r ∷ rs) zero lt d e = refl
same_slot (r ∷ rs) (suc k) lt d e = same_slot rs k (omega (arith, lt)) d e

-- a search of whose last page less is said
pub ended_so : (at : ℕ → Body) (m : Meta) (key : Key) (P Q : ReadLeaf → ℕ → Type 0)
    → ((leaf : ReadLeaf) (after : ℕ) → P leaf after → Q leaf after) → IsSearch at m key P
    → IsSearch at m key Q
ended_so at m key P Q implies s = record {
  head = s.head;
  segment = s.segment;
  walk = record {
    before = s.walk.before;
    leaf = s.walk.leaf;
    after = s.walk.after;
    are_read =
        s.walk.are_read;
    passed = s.walk.passed;
    last =
        implies s.walk.leaf s.walk.after s.walk.last;
  };
}

-- whether the key is there
there_or_not : (key : Key) (bytes : List ℕ) (place : Option Place) (there : Bool)
    → there ≡ is_some place → (leaf : ReadLeaf) (after : ℕ) → EndsAt key bytes place leaf after
    → EndsBy key there leaf after
there_or_not key bytes None true is leaf after ends = cc
there_or_not key bytes None false is leaf after ends = ends
there_or_not key bytes (Some place) true is leaf after ends = (place.slot, ends.has)
there_or_not key bytes (Some place) false is leaf after ends = cc

pub searched_for : (at : ℕ → Body) (m : Meta) (key : Key) (bytes : List ℕ) (place : Option Place)
    (there : Bool) → there ≡ is_some place → IsSearch at m key (EndsAt key bytes place)
    → IsSearch at m key (EndsBy key there)
searched_for at m key bytes place there is s =
    ended_so at m key (EndsAt key bytes place) (EndsBy key there)
    (there_or_not key bytes place there is) s

-- a key that was found, or wasn't
pub was_found : (at : ℕ → Body) (m : Meta) (key : Key) (there : Bool) → there ≡ true
    → IsSearch at m key (EndsBy key there) → IsSearch at m key (EndsWith key)
was_found at m key there is s = subst (λ (b : Bool). IsSearch at m key (EndsBy key b)) is s

pub was_absent : (at : ℕ → Body) (m : Meta) (key : Key) (there : Bool) → there ≡ false
    → IsSearch at m key (EndsBy key there) → IsSearch at m key (EndsWithout key)
was_absent at m key there is s = subst (λ (b : Bool). IsSearch at m key (EndsBy key b)) is s

-- nothing was found
pub found_nothing : (at : ℕ → Body) (m : Meta) (key : Key) (near : List ℕ)
    (found : Option FoundContent) → found ≡ None
    → IsSearch at m key (EndsAtFound key near found)
    → IsSearch at m key (EndsAtContent at key None)
found_nothing at m key near found is s =
    subst (λ (f : Option FoundContent). IsSearch at m key (EndsAtFound key near f)) is s

-- a content beside its key was found
pub near_content : (at : ℕ → Body) (m : Meta) (key : Key) (near : List ℕ)
    (found : Option FoundContent) → found ≡ Some Near
    → IsSearch at m key (EndsAtFound key near found)
    → IsSearch at m key (EndsAtContent at key (Some near))
near_content at m key near found is s =
    ended_so at m key (EndsAtFound key near (Some Near)) (EndsAtContent at key (Some near))
    (λ leaf after ends. (
      ends.0,
      ends.1.0,
      λ d.
          let r = get_or leaf.records ends.0 d in
          record {
            key = ends.1.1 d;
            content = subst (SaysContent at near r.bytes) (sym (ends.2 d).0) (ends.2 d).1;
          },
    ))
    (subst (λ (f : Option FoundContent). IsSearch at m key (EndsAtFound key near f)) is s)

-- one in pages of its own
pub far_key : (at : ℕ → Body) (m : Meta) (key : Key) (near : List ℕ)
    (found : Option FoundContent) (first long : ℕ) → found ≡ Some (Far first long)
    → IsSearch at m key (EndsAtFound key near found) → IsSearch at m key (EndsAtFar key)
far_key at m key near found first long is s =
    ended_so at m key (EndsAtFound key near (Some (Far first long))) (EndsAtFar key)
    (λ leaf after ends. (
      ends.0,
      ends.1,
      λ d. subst (λ (o : Option (ℕ × ℕ)). IsSome o) (sym (ends.2 d)) refl,
    ))
    (subst (λ (f : Option FoundContent). IsSearch at m key (EndsAtFound key near f)) is s)

-- and these pages say it
pub far_content : (at : ℕ → Body) (m : Meta) (key : Key) (near content : List ℕ)
    (found : Option FoundContent) (first long : ℕ) → found ≡ Some (Far first long)
    → length content ≡ long → IsContentAt at first content
    → IsSearch at m key (EndsAtFound key near found)
    → IsSearch at m key (EndsAtContent at key (Some content))
far_content at m key near content found first long is size says s =
    ended_so at m key (EndsAtFound key near (Some (Far first long)))
    (EndsAtContent at key (Some content))
    (λ leaf after ends. (
      ends.0,
      ends.1.0,
      λ d.
          let r = get_or leaf.records ends.0 d in
          record {
            key = ends.1.1 d;
            content = subst (SaysContent at content r.bytes) (sym (ends.2 d)) (size, says);
          },
    ))
    (subst (λ (f : Option FoundContent). IsSearch at m key (EndsAtFound key near f)) is s)

-- the search for a content of which it is known that it is the same
pub searched_content : (at : ℕ → Body) (m : Meta) (key : Key) (found answer : Option (List ℕ))
    → found ≡ answer → IsSearch at m key (EndsAtContent at key found)
    → IsSearch at m key (EndsAtContent at key answer)
searched_content at m key found answer is =
    subst (λ (o : Option (List ℕ)). IsSearch at m key (EndsAtContent at key o)) is

-- a refusal tells of no search
pub nothing_searched : {T : Type 0} (P : T → Type 0) (r : Result T Fault) (fault : Fault)
    → r ≡ Err fault → IfOk r P
nothing_searched {T} P r fault is = subst (λ (x : Result T Fault). IfOk x P) (sym is) tt

-- the key of the pair that a pass has reached
pub given_key : (at : ℕ → Body) (m : Meta) (from : Pass) (bytes : List ℕ) (reached : Option ℕ)
    (slot : ℕ) (pair : Bor (List ℕ) × Bor (List ℕ)) → reached ≡ Some slot
    → HoldsAt (λ r. (r.key ≡ pair.0.now) × (r.bytes ≡ pair.1.now)) (page_records bytes) slot
    → IsPassed at m from bytes reached → IsGiven at m from (Some pair.0.now)
given_key at m from bytes reached slot pair is holds there = (
  bytes,
  slot,
  subst (λ (o : Option ℕ). IsPassed at m from bytes o) is there,
  λ d. (holds d).0,
)

pub given_none : (at : ℕ → Body) (m : Meta) (from : Pass) (bytes : List ℕ) (reached : Option ℕ)
    → reached ≡ None → IsPassed at m from bytes reached → IsGiven at m from None
given_none at m from bytes reached is there =
    subst (λ (o : Option ℕ). IsPassed at m from bytes o) is there

-- from another place, and with another answer, of which it is known that they are the same
pub passed_so : (at : ℕ → Body) (m : Meta) (behind from : Pass) (bytes : List ℕ)
    (found answer : Option ℕ) → behind ≡ from → found ≡ answer
    → IsPassed at m behind bytes found → IsPassed at m from bytes answer
passed_so at m behind from bytes found answer is same passed =
    subst (λ (o : Option ℕ). IsPassed at m from bytes o) same
    (subst (λ (x : Pass). IsPassed at m x bytes found) is passed)

-- the key in a slot of a page that a pass came to is one before it
pub key_ahead : (from : Pass) (bytes : List ℕ) (slot : ℕ) (pair : Bor (List ℕ) × Bor (List ℕ))
    → HoldsAt (λ r. (r.key ≡ pair.0.now) × (r.bytes ≡ pair.1.now)) (page_records bytes) slot
    → IsAheadAt from bytes slot → IsAhead from pair.0.now
key_ahead from bytes slot pair holds there =
    subst (IsAhead from)
    (sym (there.has.1 blank) ∙ (holds blank).0) there.ahead

same_fault : {T : Type 0} (r : Result T Fault) (one other : Fault) → r ≡ Err one
    → r ≡ Err other → one ≡ other
same_fault r one other is also = let same = sym is ∙ also in cc

-- whether a pass was begun, by where that of the database stood
module _ {T : Type 0} (r : Result T Fault) (usable : Bool) (stood : Pass) where
  -- a broken database doesn't say
  pub broken_first : (fault : Fault) → r ≡ Err fault → (fault ≡ NoPass → ⊥) → usable ≡ false
      → (r ≡ Err NoPass) ↔ ((usable ≡ true) × (stood ≡ NotBegun))
  broken_first fault is other broken = (
    (λ no_pass. absurd (other (same_fault r fault NoPass is no_pass))),
    (λ lacks. absurd (let both = sym broken ∙ lacks.0 in cc)),
  )

  pub pass_lacked : r ≡ Err NoPass → usable ≡ true → stood ≡ NotBegun
      → (r ≡ Err NoPass) ↔ ((usable ≡ true) × (stood ≡ NotBegun))
  pass_lacked is goes none = ((λ _. (goes, none)), λ _. is)

  pub pass_on : stood ≢ NotBegun → (r ≡ Err NoPass → ⊥)
      → (r ≡ Err NoPass) ↔ ((usable ≡ true) × (stood ≡ NotBegun))
  pass_on begun other = ((λ no_pass. absurd (other no_pass)), (λ lacks. absurd (begun lacks.1)))

-- what goes wrong while pages are read
pub not_for_pass : (fault : Fault) → (fault ≡ Device) ⊎ (fault ≡ Damaged) → fault ≡ NoPass → ⊥
not_for_pass fault (inl is) no_pass = let both = sym is ∙ no_pass in cc
not_for_pass fault (inr is) no_pass = let both = sym is ∙ no_pass in cc
