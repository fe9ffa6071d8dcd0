-- Where a walk that looks for room ends.
use Rattle.std.proofs.Common.{◌≡◌, ◌↔◌, ℕ, ◌+◌, ◌≤◌, Bool, true, false, List, length, refl, sym, ◌∙◌, subst, arith}
use Rattle.std.specs.Prelude.{IsTrue}
use Rattle.std.proofs.lemmas.Bool.{le-leb, lt-leb, false≢true}
use Rattle.dbm_model.specs.Bounds.{Version}
use Rattle.page_model.specs.Pages.{Body, Record}
use Rattle.page_model.specs.Slots.{taken, room_of}
use Rattle.page_io.specs.BucketPages.{page_records}
use Rattle.bucket_chain.specs.Chains.{ReadLeaf}
use Rattle.bucket_chain.specs.Links.{IsLink, SaysLink}
use Rattle.bucket_chain.specs.Walks.{IsFull, fits_leaf}
use Rattle.bucket_chain.specs.Spots.{IsSpot}
use Rattle.bucket_chain.proofs.Walks.{leaf_of, IsUnderWay, passed_more, numbered_more}

-- whether the bytes of a record fit the room, as the code asks it
abbrev pub HasRoom : Record → List Record → Type 0
HasRoom r records = length r.key + length r.bytes + 6 ≤ room_of records

with_room : (r : Record) (leaf : ReadLeaf) → HasRoom r leaf.records → fits_leaf r leaf ≡ true
with_room r leaf room = le-leb _ _ (omega (arith, room))

full_leaf : (r : Record) (leaf : ReadLeaf) → taken leaf.records ≤ 2032
    → (HasRoom r leaf.records → ⊥) → fits_leaf r leaf ≡ false
full_leaf r leaf most none = lt-leb _ _ (omega (arith, none, most))

pub fits_is : (r : Record) (leaf : ReadLeaf) (b : Bool) → taken leaf.records ≤ 2032
    → (IsTrue b ↔ HasRoom r leaf.records) → b ≡ fits_leaf r leaf
fits_is r leaf true most asked = sym (with_room r leaf (asked.0 refl))
fits_is r leaf false most asked =
    sym (full_leaf r leaf most (λ room. absurd (let e = asked.1 room in cc)))

pub true_false : {A : Type 0} → true ≡ false → A
true_false e = absurd (false≢true (sym e))

-- the walk ends at the page
pub spot_found : (version : Version) (at : ℕ → Body) (head : ℕ) (r : Record)
    (n kind step next : ℕ) (bytes : List ℕ) (has_room : Bool)
    → IsUnderWay at head (IsFull r) n kind step
    → SaysLink version at n kind next (page_records bytes) → 1 ≤ n
    → IsLink version bytes n kind next (page_records bytes)
    → (IsTrue has_room ↔ HasRoom r (page_records bytes)) → (has_room ≡ false → next ≡ 0)
    → IsSpot version at head r bytes (record { page = n; has_room = has_room })
spot_found version at head r n kind step next bytes has_room walk says some link asked last =
    let is : has_room ≡ fits_leaf r (leaf_of n (page_records bytes)) =
    fits_is r (leaf_of n (page_records bytes)) has_room link.page.page.sound.fits asked in
    record {
      before = walk.before;
      next = next;
      begins = passed_more version at head (IsFull r) n kind step walk next (page_records bytes)
          says;
      numbered = numbered_more version at head (IsFull r) n kind step walk (page_records bytes)
          some;
      passed = walk.passed;
      link = subst (λ (k : ℕ). IsLink version bytes n k next (page_records bytes)) (walk.kind_is)
          link;
      room = λ e. sym is ∙ e;
      full = λ e. (sym is ∙ e, last e);
    }

-- a page without room is passed
pub is_full : (r : Record) (n : ℕ) (bytes : List ℕ) (has_room : Bool)
    → taken (page_records bytes) ≤ 2032 → (IsTrue has_room ↔ HasRoom r (page_records bytes))
    → has_room ≡ false → IsFull r (leaf_of n (page_records bytes))
is_full r n bytes has_room most asked e =
    sym (fits_is r (leaf_of n (page_records bytes)) has_room most asked) ∙ e
