-- What each page of a placement says, page by page.
use Rattle.std.specs.Prelude.{◌≡◌, ℕ, ◌-◌, List, [], ◌∷◌, ◌++◌, length, map, take, drop, flat_map, replicate}
use Rattle.std.specs.List.{AllByRecursion}
use Rattle.page_model.specs.Pages.{Meta, Body, MetaPage, SegmentPage, HeadPage, OverflowPage, FreePage, ContentPage, NumberedBody}
use Rattle.page_model.specs.Chain.{Chain, Entry, numbers, entries_in, record_of}
use Rattle.page_model.specs.Placement.{Placement, pairs_of}

-- the first number, 0 for none: what `next` is before the list
abbrev pub first_of : List ℕ → ℕ
first_of [] = 0
first_of (n ∷ rest) = n

-- each page names the one after it
abbrev pub overflow_bodies : Chain → List NumberedBody
overflow_bodies [] = []
overflow_bodies (leaf ∷ rest) =
    record { number = leaf.number; body = OverflowPage (first_of (numbers rest)) (map record_of leaf.entries) }
    ∷ overflow_bodies rest

abbrev pub leaf_bodies : Chain → List NumberedBody
leaf_bodies [] = []
leaf_bodies (head ∷ rest) = record {
  number = head.number;
  body =
      HeadPage (first_of (numbers rest)) (map record_of head.entries);
} ∷ overflow_bodies rest

-- zeros behind the last bytes of a content
abbrev pub filled : List ℕ → List ℕ
filled bytes = bytes ++ replicate (2032 - length bytes) 0

-- a content, 2,032 bytes to a page
abbrev pub content_bodies : List ℕ → List ℕ → List NumberedBody
content_bodies [] content = []
content_bodies (n ∷ rest) content =
    record { number = n; body = ContentPage (first_of rest) (filled (take 2032 content)) }
    ∷ content_bodies rest (drop 2032 content)

abbrev pub entry_bodies : Entry → List NumberedBody
entry_bodies e = content_bodies e.pages e.pair.1

abbrev pub chain_bodies : Chain → List NumberedBody
chain_bodies chain = leaf_bodies chain ++ flat_map entry_bodies (entries_in chain)

abbrev pub free_bodies : List ℕ → List NumberedBody
free_bodies [] = []
free_bodies (n ∷ rest) = record { number = n; body = FreePage (first_of rest) } ∷ free_bodies rest

-- 508 heads to a page
abbrev pub segment_bodies : List ℕ → List ℕ → List NumberedBody
segment_bodies [] heads = []
segment_bodies (n ∷ rest) heads = record { number = n; body = SegmentPage (take 508 heads) } ∷ segment_bodies rest (drop 508 heads)

-- the head page of each bucket
abbrev pub heads_of : List Chain → List ℕ
heads_of chains = map (λ chain. first_of (numbers chain)) chains

abbrev pub meta_of : Placement → Meta
meta_of p = record {
  bounds = p.bounds;
  pairs = length (pairs_of p);
  level = p.shape.level;
  split = p.shape.split;
  free_head = first_of p.space.free;
  free_count = length p.space.free;
  segments = p.segments;
}

abbrev pub meta_body : Placement → NumberedBody
meta_body p = record { number = 1; body = MetaPage (meta_of p) }

-- all pages but meta
abbrev pub lower_bodies : Placement → List NumberedBody
lower_bodies p = segment_bodies p.segments (heads_of p.chains) ++ flat_map chain_bodies p.chains
    ++ free_bodies p.space.free

-- all pages
abbrev pub page_bodies : Placement → List NumberedBody
page_bodies p = meta_body p ∷ lower_bodies p

-- what is read of these pages is what they say
abbrev pub AreRead : (ℕ → Body) → List NumberedBody → Type 0
AreRead at xs = AllByRecursion (λ numbered. at numbered.number ≡ numbered.body) xs

-- page by page, what is read is what the placement says
abbrev pub IsSpelled : (ℕ → Body) → Placement → Type 0
IsSpelled at p = AreRead at (page_bodies p)
