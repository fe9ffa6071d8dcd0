-- The next key of a pass over all buckets, on any file.
use Rattle.std.specs.Prelude.{◌≡◌, ◌⊎◌, ℕ, ◌<◌, ◌/◌, ◌%◌, List, slice_index, Option, Some, None}
use Rattle.dbm_model.specs.States.{Pass, NotBegun, Begun, Behind}
use Rattle.page_model.specs.Pages.{Meta, Body}
use Rattle.page_model.specs.Placement.{key_bucket}
use Rattle.page_model.specs.Valid.{meta_buckets}
use Rattle.lin_addr.specs.Intervals.{Precedes}
use Rattle.bucket_chain.specs.Leasts.{IsLeastRead}
use Rattle.seg_table.specs.Heads.{HasEntry}
use Rattle.linear_hash.specs.Tables.{shape_in}

-- the bucket that has the place of a pass
abbrev pub bucket_of_pass : Meta → Pass → ℕ
bucket_of_pass m NotBegun = 0
bucket_of_pass m Begun = 0
bucket_of_pass m (Behind last) = key_bucket (shape_in m) last

-- that bucket, or one that it precedes
abbrev pub IsToRead : Meta → Pass → ℕ → Type 0
IsToRead m from bucket =
    (bucket ≡ bucket_of_pass m from) ⊎ Precedes (shape_in m) (bucket_of_pass m from) bucket

-- in this bucket the chain was read from the head page that its segment page names, and that is the
-- least of its keys
pub record IsBucketRead (at : ℕ → Body) (m : Meta) (bucket : ℕ) (from : Pass) (bytes : List ℕ)
    (answer : Option ℕ) : Type 0 where
  pub there : bucket < meta_buckets m
  pub to_read : IsToRead m from bucket
  pub head : ℕ
  pub segment : HasEntry (at (slice_index m.segments (bucket / 508))) (bucket % 508) head
  pub least : IsLeastRead at head from bytes answer

-- so were these buckets, and none has a key for the pass
abbrev pub HaveNone : (ℕ → Body) → Meta → Pass → (ℕ → Type 0) → Type 0
HaveNone at m from Among = (bucket : ℕ) → bucket < meta_buckets m → IsToRead m from bucket
    → Among bucket → (bytes : List ℕ) × IsBucketRead at m bucket from bytes None

-- the bucket that has the next key, and none that precedes it has one; or no bucket has one
pub record IsBucketPassed (at : ℕ → Body) (m : Meta) (from : Pass) (bytes : List ℕ)
    (slot : ℕ) : Type 0 where
  pub bucket : ℕ
  pub read : IsBucketRead at m bucket from bytes (Some slot)
  pub before : HaveNone at m from (λ other. Precedes (shape_in m) other bucket)

abbrev pub IsPassed : (ℕ → Body) → Meta → Pass → List ℕ → Option ℕ → Type 0
IsPassed at m from bytes None = HaveNone at m from (λ bucket. Unit {0})
IsPassed at m from bytes (Some slot) = IsBucketPassed at m from bytes slot
