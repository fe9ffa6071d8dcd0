-- The content that a record tells, on any device and in a chain that is read as one.
use Rattle.std.proofs.Common.{◌≡◌, ℕ, ◌+◌, ◌<◌, ◌≤◌, zero, suc, true, false, is_some, List, [], ◌∷◌, length, get_or, Option, Some, None, IfSome, refl, sym, ◌∙◌, ap, subst, arith}
use Rattle.std.specs.List.{AllByRecursion, HoldsAt}
use Rattle.dbm_model.specs.Bounds.{Version, V1, V2}
use Rattle.dbm_model.specs.Pairs.{Key}
use Rattle.page_model.specs.Chain.{Chain}
use Rattle.page_model.specs.Pages.{Body, Record}
use Rattle.page_model.specs.Slots.{taken}
use Rattle.page_model.specs.Valid.{IsFar, MayTell, IsRecord, IsOf}
use Rattle.page_io.specs.BucketPages.{IsBucketPage, IsPageOf, page_records}
use Rattle.slot_page.specs.Contents.{IsAbsent, told_content}
use Rattle.bucket_chain.specs.Chains.{IsChainAt}
use Rattle.bucket_chain.specs.ContentLookups.{TellsContent, IsOnlyAt, IsLookIn, TellsKey, IsContentLook, IsContentIn, IsContentFound, IsOfVersion}
use Rattle.bucket_chain.specs.Links.{SaysLink}
use Rattle.bucket_chain.specs.Walks.{IsFoundIn, LacksKey}
use Rattle.bucket_chain.specs.declared.content_lookups.FoundContent.{FoundContent}
use Rattle.bucket_chain.specs.declared.content_lookups.FoundContent.TheVariants.{Near, Far}
use Rattle.bucket_chain.specs.declared.place.Place.{Place}
use Rattle.bucket_chain.proofs.KeyWalks.{looked_up}
use Rattle.bucket_chain.proofs.Walks.{IsUnderWay, walk_ends}

abbrev pub blank : Record
blank = record { key = []; bytes = []; far = None }

-- what holds of each record of a page holds of the one in a slot
in_slot : (P : Record → Type 0) (rs : List Record) (k : ℕ) → AllByRecursion P rs → k < length rs
    → P (get_or rs k blank)
in_slot P [] k all lt = absurd (omega (arith, lt))
in_slot P (r ∷ rs) zero all lt = all.0
in_slot P (r ∷ rs) (suc k) all lt = in_slot P rs k all.1 (omega (arith, lt))

-- the bytes of a record of a page are few
pub few_bytes : (bytes : List ℕ) (k : ℕ) → IsBucketPage bytes → k < length (page_records bytes)
    → length (get_or (page_records bytes) k blank).bytes ≤ 2026
few_bytes bytes k page lt = omega (arith, few (page_records bytes) k lt, page.sound.fits)
  where
    few : (rs : List Record) (k : ℕ) → k < length rs
        → length (get_or rs k blank).bytes + 6 ≤ taken rs
    few [] k lt = absurd (omega (arith, lt))
    few (r ∷ rs) zero lt = omega arith
    few (r ∷ rs) (suc k) lt = omega (arith, few rs k (omega (arith, lt)))

-- what a record tells of a far content, where it tells any
told_far : (r : Record) (first long : ℕ) → told_content r ≡ Some (first, long)
    → r.far ≡ Some long
told_far r first long told = by_far r.far refl
  where
    length_of : Option (ℕ × ℕ) → Option ℕ
    length_of None = None
    length_of (Some (first, long)) = Some long

    by_far : (far : Option ℕ) → r.far ≡ far → r.far ≡ Some long
    by_far None none = absurd (let e = ap (λ (f : Option ℕ). told_content (record r { far = f }))
        (sym none) ∙ told in cc)
    by_far (Some n) some = some ∙ ap length_of
        (ap (λ (f : Option ℕ). told_content (record r { far = f })) (sym some) ∙ told)

-- a far content is one that the version allows
pub of_version : (version : Version) (key : Key) (bytes near : List ℕ) (found : FoundContent)
    (slot : ℕ) → IsPageOf version bytes → IsOnlyAt key (page_records bytes) near found slot
    → IsOfVersion version key found
of_version version key bytes near Near slot page only = tt
of_version version key bytes near (Far first long) slot page only =
    let r = get_or (page_records bytes) slot blank in
    let told = told_far r first long (only.tells blank) in
    let far : IsFar r long = subst (MayTell r) told
    (in_slot IsRecord (page_records bytes) slot page.page.sound.records only.has.0) in (
      by_version version r told
          (in_slot (IsOf version) (page_records bytes) slot page.of_version only.has.0),
      omega (arith, far.long_enough.0, ap (λ (k : Key). length k) (only.has.1 blank)),
      far.long_enough.1,
    )
  where
    by_version : (v : Version) (r : Record) → r.far ≡ Some long → IsOf v r → v ≡ V2
    by_version V2 r told of = refl
    by_version V1 r told of = absurd (let e = sym of ∙ told in cc)

-- the entry that was found has the content that its record tells
pub content_in : (key : Key) (chain : Chain) (bytes near : List ℕ) (place : Place)
    (found : FoundContent) → IsFoundIn key chain bytes place
    → HoldsAt (λ r. TellsContent r near found) (page_records bytes) place.slot
    → IsContentIn key chain near found
content_in key chain bytes near place found is tells = record {
  entry = is.entry;
  among = is.among;
  key_is = is.key_is;
  tells = subst (λ r. TellsContent r near found) (is.there blank) (tells blank);
  first = is.found;
}

-- where a page lacks the key, none of its records has it
pub look_absent : (key : Key) (records : List Record) (near : List ℕ)
    (found : Option FoundContent) → is_some found ≡ false → IsLookIn key records near found
    → IsAbsent key records
look_absent key records near None none look = look
look_absent key records near (Some f) none look = absurd (let is = none in cc)

-- what is found in a page is one that the version allows
pub look_of_version : (version : Version) (key : Key) (bytes near : List ℕ)
    (found : Option FoundContent) → IsPageOf version bytes
    → IsLookIn key (page_records bytes) near found → IfSome found (IsOfVersion version key)
look_of_version version key bytes near None page look = tt
look_of_version version key bytes near (Some f) page look =
    of_version version key bytes near f look.0 page look.1

-- a look in the page that a walk has come to
module _ (version : Version) (at : ℕ → Body) (head : ℕ) (key : Key) (n kind step next : ℕ)
    (bytes near : List ℕ) (walk : IsUnderWay at head (LacksKey key) n kind step)
    (link : SaysLink version at n kind next (page_records bytes)) where
  -- ends the walk where the key is there
  pub look_ends : (found : Option FoundContent) → is_some found ≡ true
      → IsLookIn key (page_records bytes) near found → IsContentLook at head key near found
  look_ends None some look = absurd (let is = some in cc)
  look_ends (Some f) some look =
      walk_ends version at head (LacksKey key) n kind step walk (TellsKey key near f) next
      (page_records bytes) link (look.0, look.1.has, look.1.tells)

  -- and it is the first of the key's entries in a chain that is read as one
  pub look_found : (end : ℕ) (chain : Chain) → IsChainAt version at end head chain → 1 ≤ n
      → IsBucketPage bytes → (found : Option FoundContent) → is_some found ≡ true
      → IsLookIn key (page_records bytes) near found → IsContentFound key chain near found
  look_found end chain is some page None there look = absurd (let e = there in cc)
  look_found end chain is some page (Some f) there look =
      let place : Place = record { page = n; slot = look.0 } in
      content_in key chain bytes near place f
      (looked_up version at end head chain key n kind step next (page_records bytes) is walk link
      some bytes place page refl look.1.has look.1.only) look.1.tells
