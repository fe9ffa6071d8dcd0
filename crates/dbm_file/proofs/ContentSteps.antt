-- The content of a key, as a search finds it.
use Rattle.std.proofs.Common.{◌≡◌, ℕ, ◌+◌, ◌≤◌, true, List, length, Option, Some, None, IfSome, refl, sym, ◌∙◌, ap, subst, arith}
use Rattle.std.specs.List.{HoldsAt}
use Rattle.std.proofs.lemmas.Bool.{lt-ltb}
use Rattle.dbm_model.specs.Bounds.{Version, V1, V2}
use Rattle.std.specs.FinMap.{get}
use Rattle.dbm_model.specs.Pairs.{Key, Contents, is_far}
use Rattle.page_model.specs.Pages.{Meta, Body}
use Rattle.page_model.specs.Placement.{contents}
use Rattle.page_io.specs.Committing.{Holds}
use Rattle.page_io.specs.Views.{body_at, ReadsOnly}
use Rattle.page_io.specs.declared.store.PageStore.{Ghosts}
use Rattle.page_io.proofs.Views.{same_said}
use Rattle.bucket_chain.specs.Chains.{ReadLeaf}
use Rattle.bucket_chain.specs.ContentLookups.{IsOfVersion}
use Rattle.bucket_chain.specs.declared.content_lookups.FoundContent.{FoundContent}
use Rattle.bucket_chain.specs.declared.content_lookups.FoundContent.TheVariants.{Near, Far}
use Rattle.slot_page.specs.Contents.{HasKeyAt}
use Rattle.content_pages.specs.Contents.{IsContentAt}
use Rattle.linear_hash.specs.Looking.{IsFoundContent, IsSearch, EndsAtFound}
use Rattle.linear_hash.proofs.Tables.{placed, map_placed}
use Rattle.dbm_file.specs.Searches.{ContentIsThere}
use Rattle.dbm_file.specs.Fetching.{IsShort}
use Rattle.dbm_file.specs.declared.database.Database.{Database}
use Rattle.dbm_file.specs.declared.database.Found.{Found}
use Rattle.dbm_file.specs.Rooms.{longest_content}
use Rattle.dbm_file.proofs.Searches.{blank}

-- what was found, where it is known by its parts
pub same_some : (found : Option FoundContent) (f g : FoundContent) → found ≡ Some f → f ≡ g
    → found ≡ Some g
same_some found f g is same = is ∙ ap Some same

-- ---- of a far content that was found

module _ (version : Version) (key : Key) (found : Option FoundContent) (first long : ℕ)
    (is : found ≡ Some (Far first long)) (of : IfSome found (IsOfVersion version key)) where
  allowed : IsOfVersion version key (Far first long)
  allowed = subst (λ (f : Option FoundContent). IfSome f (IsOfVersion version key)) is of

  pub second : version ≡ V2
  second = allowed.0

  pub far_short : long ≤ longest_content version
  far_short = subst (λ (v : Version). long ≤ longest_content v) (sym second) allowed.2

  -- a content of that length is far
  pub is_far_here : (content : List ℕ) → length content ≡ long → is_far (key, content) ≡ true
  is_far_here content size = lt-ltb 2026 (length key + length content)
      (omega (arith, allowed.1, size))

-- a content beside its key is as long as any version allows
pub near_short : (version : Version) (near : List ℕ) → length near ≤ 2026
    → length near ≤ longest_content version
near_short V1 near few = few
near_short V2 near few = omega (arith, few)

-- where a content was found, it is short
pub found_in : {S : Type 0} {s : Ghosts S} (db : Database S s) (found : Option Found) (there : Found)
    → found ≡ Some there → IfSome found (IsShort db) → IsShort db there
found_in db found there is = subst (λ (f : Option Found). IfSome f (IsShort db)) is

-- ---- of the map

module _ (at : ℕ → Body) (near : List ℕ) (old : Option (List ℕ)) (found : Option FoundContent)
    (has : IsFoundContent at old near found) where
  -- what was found beside the key is what the map has
  pub near_map : found ≡ Some Near → Some near ≡ old
  near_map is = by_old old (subst (IsFoundContent at old near) is has)
    where
      by_old : (o : Option (List ℕ)) → IsFoundContent at o near (Some Near) → Some near ≡ o
      by_old None none = absurd (let e = none in cc)
      by_old (Some content) same = ap Some same

  -- where nothing was found, it has none
  pub none_map : found ≡ None → None ≡ old
  none_map is = by_old old (subst (IsFoundContent at old near) is has)
    where
      by_old : (o : Option (List ℕ)) → IsFoundContent at o near None → None ≡ o
      by_old None none = refl
      by_old (Some content) some = absurd some

-- what the pages of a far content say
pub record HasContent (at : ℕ → Body) (old : Option (List ℕ)) (first long : ℕ) : Type 0 where
  pub content : List ℕ
  pub is : old ≡ Some content
  pub size_is : length content ≡ long
  pub says : IsContentAt at first content

pub far_map : (at : ℕ → Body) (near : List ℕ) (old : Option (List ℕ))
    (found : Option FoundContent) → IsFoundContent at old near found → (first long : ℕ)
    → found ≡ Some (Far first long) → HasContent at old first long
far_map at near old found has first long is =
    by_old old refl (subst (IsFoundContent at old near) is has)
  where
    by_old : (o : Option (List ℕ)) → old ≡ o → IsFoundContent at o near (Some (Far first long))
        → HasContent at old first long
    by_old None none found = absurd (let e = found in cc)
    by_old (Some content) some told =
        record { content = content; is = some; size_is = told.0; says = told.1 }

-- what the search has to be for is what the map has
pub found_for : {S : Type 0} (s : Ghosts S) (store : S) (m : Meta) (map : Contents)
    (holds : Holds s store m map) (key : Key) (near : List ℕ) (found : Option FoundContent)
    → IsFoundContent (body_at s store) (get (contents (placed s store m map holds)) key) near found
    → IsFoundContent (body_at s store) (get map key) near found
found_for s store m map holds key near found = subst
    (λ (c : Contents). IsFoundContent (body_at s store) (get c key) near found)
    (map_placed s store m map holds)

-- a content that pages say, of that length
abbrev pub IsSaid : (ℕ → Body) → ℕ → ℕ → Type 0
IsSaid at first long =
    (content : List ℕ) × (length content ≡ long) × IsContentAt at first content

-- where the pages of every far record with the key say its content, those of the one that was found
-- do
pub said_there : (at : ℕ → Body) (m : Meta) (key : Key) (near : List ℕ)
    (found : Option FoundContent) (first long : ℕ) → found ≡ Some (Far first long)
    → IsSearch at m key (EndsAtFound key near found)
    → ((leaf : ReadLeaf) (slot : ℕ) → IsSearch at m key (λ last after. last ≡ leaf)
    → HasKeyAt key leaf.records slot → HoldsAt (ContentIsThere at) leaf.records slot)
    → IsSaid at first long
said_there at m key near found first long is search each = by_found
    (subst (λ (f : Option FoundContent). IsSearch at m key (EndsAtFound key near f)) is search)
  where
    by_found : IsSearch at m key (EndsAtFound key near (Some (Far first long)))
        → IsSaid at first long
    by_found s =
        let leaf = s.walk.leaf in
        let last = s.walk.last in
        each leaf last.0 record {
          head = s.head;
          segment = s.segment;
          walk = record {
            before = s.walk.before;
            leaf = leaf;
            after = s.walk.after;
            are_read = s.walk.are_read;
            passed = s.walk.passed;
            last = refl;
          };
        } last.1 blank first long (last.2 blank)

-- the content is read behind pages that were read
pub said_behind : {S : Type 0} (s : Ghosts S) (old mid : S) → ReadsOnly s old mid → s.honest old
    → (first : ℕ) (content : List ℕ) → IsContentAt (body_at s old) first content
    → IsContentAt (body_at s mid) first content
said_behind s old mid reads honest first content = subst
    (λ (at : ℕ → Body). IsContentAt at first content) (sym (same_said s old mid reads honest))

-- and what was read is said by the pages that there were
pub said_before : {S : Type 0} (s : Ghosts S) (old mid : S) → ReadsOnly s old mid → s.honest old
    → (first : ℕ) (content : List ℕ) → IsContentAt (body_at s mid) first content
    → IsContentAt (body_at s old) first content
said_before s old mid reads honest first content = subst
    (λ (at : ℕ → Body). IsContentAt at first content) (same_said s old mid reads honest)
