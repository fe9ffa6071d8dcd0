-- What a look for a key tells of the map.
use Rattle.std.proofs.Common.{◌≡◌, ℕ, List, Option, Some, None, is_some, ap, refl}
use Rattle.dbm_model.specs.Pairs.{Key}
use Rattle.page_model.specs.Pages.{Body}
use Rattle.bucket_chain.specs.declared.place.Place.{Place}
use Rattle.linear_hash.specs.Looking.{IsFound}

-- a place is found where the key has a content
pub found_some : (at : ℕ → Body) (key : Key) (old : Option (List ℕ)) (bytes : List ℕ)
    (place : Option Place) → IsFound at key old bytes place → is_some place ≡ is_some old
found_some at key None bytes place is = ap is_some is
found_some at key (Some content) bytes None is = absurd is
found_some at key (Some content) bytes (Some place) is = refl
