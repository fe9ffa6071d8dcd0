-- What the pages of a database say.
use Rattle.std.specs.Prelude.{ℕ, List, Option}
use Rattle.dbm_model.specs.Bounds.{Bounds}

-- what the meta page says
pub record Meta : Type 0 where
  pub bounds : Bounds
  pub pairs : ℕ
  pub level : ℕ
  pub split : ℕ
  pub free_head : ℕ
  pub free_count : ℕ
  pub segments : List ℕ

-- what a slot of a page holds: a key and the bytes behind it. They are the content, or where that is
-- far the number of its first page, and its length is told
pub record Record : Type 0 where
  pub key : List ℕ
  pub bytes : List ℕ
  pub far : Option ℕ

-- what a page says beside its own number. `next` is a page number, 0 for none
pub data Body : Type 0 where
  MetaPage : Meta → Body
  SegmentPage : (heads : List ℕ) → Body
  HeadPage : (next : ℕ) → (records : List Record) → Body
  OverflowPage : (next : ℕ) → (records : List Record) → Body
  FreePage : (next : ℕ) → Body
  -- 2,032 bytes of a content
  ContentPage : (next : ℕ) → (bytes : List ℕ) → Body
  Other : Body

-- a page: its own number and what it says
pub record NumberedBody : Type 0 where
  pub number : ℕ
  pub body : Body

-- a page of records: kind 3 is a bucket's head page, kind 4 an overflow page
pub record Bucket : Type 0 where
  pub own : ℕ
  pub kind : ℕ
  pub next : ℕ
  pub held : List Record

abbrev pub bucket : ℕ → ℕ → ℕ → List Record → Bucket
bucket own kind next records = record { own = own; kind = kind; next = next; held = records }
