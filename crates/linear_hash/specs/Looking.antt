-- What a look for a key finds.
use Rattle.std.specs.Prelude.{◌≡◌, ℕ, ◌/◌, ◌%◌, List, length, slice_index, Option, Some, None}
use Rattle.std.specs.List.{HoldsAt}
use Rattle.dbm_model.specs.Bounds.{Version}
use Rattle.dbm_model.specs.Pairs.{Key, Pair}
use Rattle.page_model.specs.Pages.{Meta, Body, Record}
use Rattle.page_model.specs.Placement.{key_bucket}
use Rattle.seg_table.specs.Heads.{HasEntry, SaysSegment}
use Rattle.page_io.specs.BucketPages.{IsPageOf, page_records}
use Rattle.slot_page.specs.Contents.{HasKeyAt, told_content}
use Rattle.content_pages.specs.Contents.{IsContentAt}
use Rattle.bucket_chain.specs.Chains.{ReadLeaf}
use Rattle.bucket_chain.specs.Walks.{IsWalk, LacksKey, EndsWithout, IsRecordAt, CanLook}
use Rattle.bucket_chain.specs.ContentLookups.{TellsKey}
use Rattle.bucket_chain.specs.declared.content_lookups.FoundContent.{FoundContent}
use Rattle.bucket_chain.specs.declared.content_lookups.FoundContent.TheVariants.{Near, Far}
use Rattle.bucket_chain.specs.declared.place.Place.{Place}
use Rattle.linear_hash.specs.Tables.{shape_in}

-- on any file: the bytes are a page of records of the version, and the key is in that slot
pub record IsHeld (version : Version) (key : Key) (bytes : List ℕ) (slot : ℕ) : Type 0 where
  pub page : IsPageOf version bytes
  pub has : HasKeyAt key (page_records bytes) slot

-- which segment page has the head of the key's bucket, and where in it
abbrev pub key_segment : Meta → Key → ℕ
key_segment m key = slice_index m.segments (key_bucket (shape_in m) key / 508)

abbrev pub key_entry : Meta → Key → ℕ
key_entry m key = key_bucket (shape_in m) key % 508

-- On any file: from the head page that is read for the key's bucket the pages of its chain were
-- read, none of them but the last has the key, and the last one is as stated.
pub record IsSearch (at : ℕ → Body) (m : Meta) (key : Key) (Last : ReadLeaf → ℕ → Type 0)
    : Type 0 where
  pub head : ℕ
  pub segment : HasEntry (at (key_segment m key)) (key_entry m key) head
  pub walk : IsWalk at head (LacksKey key) Last

-- What a search reads can be read: the page of the segment of the key's bucket says its heads, and
-- from the bucket's head page on the pages up to the one with the key, or the last, are a chain's.
pub record CanSearch (at : ℕ → Body) (m : Meta) (end : ℕ) (key : Key) : Type 0 where
  pub segment : SaysSegment at m (key_bucket (shape_in m) key / 508)
  pub look : CanLook m.bounds.version at end (slice_index segment.heads (key_entry m key)) key

-- the search ended at the key's record, which stands at the place in the page, which the bytes are;
-- or behind all pages
abbrev pub EndsAt : Key → List ℕ → Option Place → ReadLeaf → ℕ → Type 0
EndsAt key bytes None leaf after = EndsWithout key leaf after
EndsAt key bytes (Some place) leaf after = IsRecordAt key bytes place leaf after

-- it ended at the key's record, which tells the content that was found, or behind all pages
abbrev pub EndsAtFound : Key → List ℕ → Option FoundContent → ReadLeaf → ℕ → Type 0
EndsAtFound key near None leaf after = EndsWithout key leaf after
EndsAtFound key near (Some found) leaf after = TellsKey key near found leaf after

-- a record says this content: near in its own bytes, far in the pages of which it tells the first
abbrev pub SaysContent : (ℕ → Body) → List ℕ → List ℕ → Option (ℕ × ℕ) → Type 0
SaysContent at content bytes None = bytes ≡ content
SaysContent at content bytes (Some (first, long)) =
    (length content ≡ long) × IsContentAt at first content

pub record SaysPair (at : ℕ → Body) (pair : Pair) (r : Record) : Type 0 where
  pub key : r.key ≡ pair.0
  pub content : SaysContent at pair.1 r.bytes (told_content r)

-- the key has this content, which the record in that slot says, or none
abbrev pub IsFound : (ℕ → Body) → Key → Option (List ℕ) → List ℕ → Option Place → Type 0
IsFound at key None bytes place = place ≡ None
IsFound at key (Some content) bytes None = ⊥
IsFound at key (Some content) bytes (Some place) =
    HoldsAt (SaysPair at (key, content)) (page_records bytes) place.slot

-- what was found is this content, in the room or in the pages that it tells, or no content
abbrev pub IsFoundContent : (ℕ → Body) → Option (List ℕ) → List ℕ → Option FoundContent → Type 0
IsFoundContent at None near found = found ≡ None
IsFoundContent at (Some content) near None = ⊥
IsFoundContent at (Some content) near (Some Near) = near ≡ content
IsFoundContent at (Some content) near (Some (Far first long)) =
    (length content ≡ long) × IsContentAt at first content
