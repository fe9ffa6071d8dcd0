-- The best key of a walk so far, which is the least one that the pass has before it.
use Rattle.std.specs.Prelude.{◌≡◌, ◌≢◌, ℕ, ◌≤◌, List, Option, Some, None}
use Rattle.dbm_model.specs.KeyOrder.{hash_of, rank}
use Rattle.dbm_model.specs.Bounds.{Version}
use Rattle.dbm_model.specs.Pairs.{Key}
use Rattle.dbm_model.specs.States.{Pass, Begun, Behind}
use Rattle.page_model.specs.Pages.{Body, Record}
use Rattle.page_io.specs.BucketPages.{IsBucketPage, page_records}
use Rattle.slot_page.specs.Contents.{HasKeyAt}
use Rattle.bucket_chain.specs.Links.{SaysLink}
use Rattle.lin_addr.specs.declared.order.Ranked.{Ranked}
use Rattle.bucket_chain.specs.declared.leasts.Best.{Best}

-- behind this key, or before all where there is none
abbrev pub pass_from : Option Ranked → Pass
pass_from None = Begun
pass_from (Some last) = Behind last.key.now

abbrev pub slot_of : Option Best → Option ℕ
slot_of None = None
slot_of (Some best) = Some best.slot

-- its slot of the page, which the bytes are, has a key of its rank
pub record IsRankedAt (bytes : List ℕ) (best : Best) : Type 0 where
  pub key : Key
  pub page : IsBucketPage bytes
  pub has : HasKeyAt key (page_records bytes) best.slot
  pub rank_is : best.rank ≡ rank (hash_of key)

-- the head page was read, has these records and names page n
pub record IsHeadRead (version : Version) (at : ℕ → Body) (head n : ℕ)
    (records : List Record) : Type 0 where
  pub says : SaysLink version at head 3 n records
  pub some : 1 ≤ head
  pub more : n ≢ 0
