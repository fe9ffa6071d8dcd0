-- What pages stand for.
use Rattle.std.specs.Prelude.{◌≡◌, ℕ, zero, suc, ◌-◌, List, [], ◌++◌, map, take, flat_map, Option, Some, None}
use Rattle.std.specs.List.{AllByRecursion, range_with_len}
use Rattle.dbm_model.specs.Bounds.{Bounds}
use Rattle.dbm_model.specs.Pairs.{Pair, Contents, contents_of}
use Rattle.page_model.specs.Bytes.{u32_at}
use Rattle.page_model.specs.Chain.{pages_long}
use Rattle.page_model.specs.Pages.{Body, MetaPage, SegmentPage, HeadPage, OverflowPage, FreePage, ContentPage, Other, Record}
use Rattle.page_model.specs.Spelling.{spell}
use Rattle.page_model.specs.Reading.{body_of}
use Rattle.page_model.specs.Placement.{Placement, IsGood}
use Rattle.page_model.specs.PageBodies.{page_bodies, IsSpelled}

-- the records of one page
abbrev pub records_on : Body → List Record
records_on (MetaPage meta) = []
records_on (SegmentPage heads) = []
records_on (HeadPage next records) = records
records_on (OverflowPage next records) = records
records_on (FreePage next) = []
records_on (ContentPage next bytes) = []
records_on Other = []

-- what a content page says
abbrev pub bytes_on : Body → List ℕ
bytes_on (MetaPage meta) = []
bytes_on (SegmentPage heads) = []
bytes_on (HeadPage next records) = []
bytes_on (OverflowPage next records) = []
bytes_on (FreePage next) = []
bytes_on (ContentPage next bytes) = bytes
bytes_on Other = []

abbrev pub page_behind : Body → ℕ
page_behind (MetaPage meta) = 0
page_behind (SegmentPage heads) = 0
page_behind (HeadPage next records) = 0
page_behind (OverflowPage next records) = 0
page_behind (FreePage next) = 0
page_behind (ContentPage next bytes) = next
page_behind Other = 0

-- the bytes of so many content pages from page n on, each followed by the one that it names
abbrev pub joined : (ℕ → Body) → ℕ → ℕ → List ℕ
joined at zero n = []
joined at (suc count) n = bytes_on (at n) ++ joined at count (page_behind (at n))

-- the content of a record: its bytes, or where it is far so many of the content pages from the one
-- that they name
abbrev pub content_by : (ℕ → Body) → List ℕ → Option ℕ → List ℕ
content_by at bytes None = bytes
content_by at bytes (Some long) = take long (joined at (pages_long long) (u32_at bytes 0))

abbrev pub pair_of : (ℕ → Body) → Record → Pair
pair_of at r = (r.key, content_by at r.bytes r.far)

-- the pairs of one page
abbrev pub pairs_on : (ℕ → Body) → Body → List Pair
pairs_on at body = map (pair_of at) (records_on body)

-- all pairs of all pages, page by page in ascending number, with no look at a bucket, a chain or a
-- segment
abbrev pub flat_pairs : (ℕ → Body) → ℕ → List Pair
flat_pairs at end = flat_map (λ n. pairs_on at (at n)) (range_with_len 1 (end - 1))

-- pages 1 to end - 1 stand for a map and bounds: they spell a good placement, and the map is that
-- of their flat contents
pub record StandsFor (at : ℕ → Body) (end : ℕ) (map : Contents) (bounds : Bounds) : Type 0 where
  pub placement : Placement
  pub good : IsGood placement
  pub spelled : IsSpelled at placement
  pub ends : placement.space.end ≡ end
  pub bounded : placement.bounds ≡ bounds
  pub holds : contents_of (flat_pairs at end) ≡ map

-- what pages of bytes say
abbrev pub said_by : (ℕ → List ℕ) → ℕ → Body
said_by page n = body_of n (page n)

-- the pages are those of the placement, byte by byte
abbrev pub ArePages : (ℕ → List ℕ) → Placement → Type 0
ArePages page p = AllByRecursion (λ numbered. page numbered.number ≡ spell numbered) (page_bodies p)

-- pages of bytes stand for what they say
abbrev pub PagesStandFor : (ℕ → List ℕ) → ℕ → Contents → Bounds → Type 0
PagesStandFor page end map bounds = StandsFor (said_by page) end map bounds
