-- Changes of a few pages that leave all others.
use Rattle.std.specs.Prelude.{◌≡◌, ℕ, ◌+◌, ◌-◌, ◌*◌, List, [], ◌∷◌, ◌++◌, length, map, drop}
use Rattle.page_model.specs.Pages.{Body, NumberedBody}
use Rattle.page_model.specs.Chain.{Leaf, Chain, numbers, pages_in}
use Rattle.page_model.specs.Space.{Space, next_page, give, times_of}
use Rattle.page_model.specs.Placement.{Placement, chain_at, bare, bared, extended}
use Rattle.page_model.specs.PageBodies.{chain_bodies, free_bodies, segment_bodies, heads_of, AreRead}

-- no page outside this chain and the free list is changed
abbrev pub OthersStay : (ℕ → Body) → (ℕ → Body) → Chain → Space → Type 0
OthersStay at at' chain space =
    (n : ℕ) → times_of n (pages_in chain) + times_of n space.free ≡ 0 → at' n ≡ at n

-- one chain and the free list were changed, and nothing else
pub record IsRewritten (at at' : ℕ → Body) (chain : Chain) (space : Space) : Type 0 where
  pub chain_read : AreRead at' (chain_bodies chain)
  pub free_read : AreRead at' (free_bodies space.free)
  pub others : OthersStay at at' chain space

-- these pages are rewritten, and no other page
pub record AreRewritten (at at' : ℕ → Body) (xs : List NumberedBody) : Type 0 where
  pub are_read : AreRead at' xs
  pub others : (n : ℕ) → times_of n (map (λ numbered. numbered.number) xs) ≡ 0 → at' n ≡ at n

-- the last segment page
abbrev pub last_segment : Placement → List NumberedBody
last_segment p = let before = length p.segments - 1 in
    segment_bodies (drop before p.segments) (drop (508 * before) (heads_of p.chains))

-- the head of the new bucket
abbrev pub new_head : Placement → Leaf
new_head p = bare (next_page (give (drop 1 (numbers (chain_at p p.shape.split))) p.space))

-- what is rewritten where a bucket is added: the emptied head, the new head, the last segment page
-- and the free list
abbrev pub extended_bodies : Placement → List NumberedBody
extended_bodies p =
    chain_bodies (bared (chain_at p p.shape.split)) ++ chain_bodies (new_head p ∷ [])
    ++ last_segment (extended p) ++ free_bodies (extended p).space.free
