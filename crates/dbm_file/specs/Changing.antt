-- What a store and a delete that were done have left in the pages, on any file.
use Rattle.std.specs.Prelude.{◌≡◌, ◌⊎◌, ◌+◌, ◌*◌, ◌<◌, Bool, true, if◌then◌else◌}
use Rattle.dbm_model.specs.Bounds.{V1, V2, upgraded}
use Rattle.dbm_model.specs.Pairs.{Key, Pair, is_far}
use Rattle.dbm_model.specs.Sizes.{home}
use Rattle.page_model.specs.Pages.{Meta}
use Rattle.page_model.specs.Valid.{meta_buckets}
use Rattle.page_io.specs.Views.{body_at}
use Rattle.page_io.specs.declared.store.PageStore.{Ghosts}
use Rattle.linear_hash.specs.Changing.{IsDeleted, IsStored, IsUpgraded}
use Rattle.linear_hash.specs.Looking.{IsSearch}
use Rattle.dbm_file.specs.Database.{store_of, meta_kept, page_state}
use Rattle.dbm_file.specs.Searches.{EndsBy}
use Rattle.dbm_file.specs.declared.calls.StoreMode.{StoreMode}
use Rattle.dbm_file.specs.declared.calls.StoreMode.TheVariants.{Replace}
use Rattle.dbm_file.specs.declared.database.Database.{Database}

-- over an honest store: the key was taken out of the chain that is read for its bucket, and the
-- meta page says so
abbrev pub WasDeleted : {S : Type 0} {s : Ghosts S} → Database S s → Database S s → Key → Type 0
WasDeleted {S} {s} old new key =
    s.honest (store_of old)
    → IsDeleted (body_at s (store_of old)) (body_at s (store_of new)) (meta_kept old)
    (meta_kept new) (page_state old).end (page_state new).end key

-- The key's bucket was searched, and one pair more is counted where the key wasn't there. The pair
-- was put in, in the place of the key's, and a bucket was split where that is due.
pub record IsPut {S : Type 0} {s : Ghosts S} (old new : Database S s) (pair : Pair) : Type 0 where
  pub there : Bool
  pub searched : IsSearch (body_at s (store_of old)) (meta_kept old) pair.0 (EndsBy pair.0 there)
  pub counted : (meta_kept new).pairs
      ≡ (if there then (meta_kept old).pairs else (meta_kept old).pairs + 1)
  pub stored : IsStored there (body_at s (store_of old)) (body_at s (store_of new)) (meta_kept old)
      (meta_kept new) (page_state old).end (page_state new).end pair

-- over an honest store: the meta page has the bounds of version 2, and no other page was changed
abbrev pub WasUpgraded : {S : Type 0} {s : Ghosts S} → Database S s → Database S s → Type 0
WasUpgraded {S} {s} old new =
    s.honest (store_of old)
    → IsUpgraded (body_at s (store_of old)) (body_at s (store_of new)) (meta_kept old)
    (meta_kept new) (page_state old).end

-- neither broken nor opened for reading
abbrev pub MayUpgrade : {S : Type 0} {s : Ghosts S} → Database S s → Type 0
MayUpgrade db = ((page_state db).usable ≡ true) × ((page_state db).writable ≡ true)

-- of version 1, over a device without the room that version 2 asks for
abbrev pub IsTooSmall : {S : Type 0} {s : Ghosts S} → Database S s → Type 0
IsTooSmall db = MayUpgrade db × ((meta_kept db).bounds.version ≡ V1)
    × ((page_state db).capacity < 2 * home (upgraded (meta_kept db).bounds))

-- there are eight pairs to a bucket
abbrev pub HasFullBuckets : Meta → Type 0
HasFullBuckets m = m.pairs ≡ 8 * meta_buckets m

-- a store may take memory, as far as can be told before the key is looked up
abbrev pub MayNeedMemory : Meta → Pair → StoreMode → Type 0
MayNeedMemory m pair mode = HasFullBuckets m ⊎ ((is_far pair ≡ true)
    ⊎ ((mode ≡ Replace) × (m.bounds.version ≡ V2)))

-- over an honest store
abbrev pub WasStored : {S : Type 0} {s : Ghosts S} → Database S s → Database S s → Pair → Type 0
WasStored {S} {s} old new pair = s.honest (store_of old) → IsPut old new pair
