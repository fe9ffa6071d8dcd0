-- How many pages and sectors a database of a limit needs, whatever is stored in it and deleted.
use Rattle.std.specs.Prelude.{◌≡◌, Bool, ℕ, ◌+◌, ◌*◌, ◌/◌, nat_le, ◌&&◌, Option, Some, None, if◌then◌else◌}
use Rattle.dbm_model.specs.Bounds.{Version, V1, V2, Bounds, in_v1, in_v2}

-- a limit may be 1 to 1,000,000
abbrev pub is_limit : ℕ → Bool
is_limit limit = nat_le 1 limit && nat_le limit 1000000

-- eight pairs to a bucket
abbrev pub buckets_for : ℕ → ℕ
buckets_for limit = (limit + 7) / 8

-- 508 buckets to a segment page
abbrev pub segments_for : ℕ → ℕ
segments_for buckets = (buckets + 507) / 508

-- how many pages a pair takes at most: that of its slot, and in version 2 33 of its content
abbrev pub pages_for : Version → ℕ
pages_for V1 = 1
pages_for V2 = 34

-- the page of the commit sector, the meta page, the segments, a page for each bucket, and those of
-- each pair
abbrev pub home : Bounds → ℕ
home bounds = 2 + segments_for (buckets_for bounds.limit) + buckets_for bounds.limit
    + pages_for bounds.version * bounds.limit

-- how many pages a store takes at most beside one for each pair: the pair's, a head and a segment,
-- and in version 2 33 of its content
abbrev pub most_taken : Version → ℕ
most_taken V1 = 4
most_taken V2 = 37

-- twice as many pages of four sectors
abbrev pub sectors_for : Bounds → Option ℕ
sectors_for bounds = if is_limit bounds.limit then Some (8 * home bounds) else None

-- a database of one pair has five pages, one of a hundred has 116; the largest has 1,125,249. In
-- version 2 it is 38, 3,416 and 34,125,249
pub record SizeExamples : Type 0 where
  pub eight_pairs : buckets_for 8 ≡ 1
  pub nine_pairs : buckets_for 9 ≡ 2
  pub one_segment : segments_for 508 ≡ 1
  pub two_segments : segments_for 509 ≡ 2
  pub none : sectors_for (in_v1 0) ≡ None
  pub least : sectors_for (in_v1 1) ≡ Some 40
  pub hundred : sectors_for (in_v1 100) ≡ Some 928
  pub largest : sectors_for (in_v1 1000000) ≡ Some 9001992
  pub too_many : sectors_for (in_v1 1000001) ≡ None
  pub least_v2 : sectors_for (in_v2 1) ≡ Some 304
  pub hundred_v2 : sectors_for (in_v2 100) ≡ Some 27328
  pub largest_v2 : sectors_for (in_v2 1000000) ≡ Some 273001992
