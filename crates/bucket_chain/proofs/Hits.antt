-- A walk that remembers the page before.
use Rattle.std.proofs.Common.{◌≡◌, ◌≢◌, inl, inr, ℕ, ◌+◌, ◌≤◌, List, Option, map, refl, subst}
use Rattle.dbm_model.specs.Bounds.{Version}
use Rattle.dbm_model.specs.Pairs.{Key}
use Rattle.page_model.specs.PairLists.{times}
use Rattle.page_model.specs.Pages.{Body, Record}
use Rattle.page_io.specs.BucketPages.{page_records}
use Rattle.slot_page.specs.Contents.{HasKeyAt}
use Rattle.bucket_chain.specs.Chains.{ReadLeaf, record_pair}
use Rattle.bucket_chain.specs.Links.{SaysLink, IsLink}
use Rattle.bucket_chain.specs.Walks.{LacksKey}
use Rattle.bucket_chain.specs.Hits.{IsPrior, IsNumberedWalk, IsHitAt, IsHit}
use Rattle.bucket_chain.proofs.Walks.{leaf_of, IsUnderWay, walk_starts, walk_goes_on, passed_more, numbered_more}

-- the walk stands at page n, and has passed page `prior` last
pub record IsTracked (at : ℕ → Body) (head : ℕ) (key : Key)
    (prior prior_kind n kind step : ℕ) : Type 0 where
  pub walk : IsUnderWay at head (LacksKey key) n kind step
  pub prior_is : IsPrior walk.before prior prior_kind

pub track_starts : (at : ℕ → Body) (head : ℕ) (key : Key) (prior_kind : ℕ)
    → IsTracked at head key 0 prior_kind head 3 0
unfolding walk_starts
track_starts at head key prior_kind =
    record { walk = walk_starts at head (LacksKey key); prior_is = inl (refl, refl) }

module _ (version : Version) (at : ℕ → Body) (head : ℕ) (key : Key)
    (prior prior_kind n kind step : ℕ)
    (tracked : IsTracked at head key prior prior_kind n kind step) (next : ℕ)
    (records : List Record)
    (link : SaysLink version at n kind next records) (some : 1 ≤ n) where
  -- it goes on to the next page
  pub track_goes_on : next ≢ 0 → times key (map record_pair records) ≡ 0
      → IsTracked at head key n kind next 4 (step + 1)
  unfolding walk_goes_on
  track_goes_on more lacks = record {
    walk = walk_goes_on version at head (LacksKey key) n kind step tracked.walk next records link
        some more lacks;
    prior_is = inr (record {
      front = tracked.walk.before;
      leaf = leaf_of n records;
      parts = refl;
      number = refl;
      kind_is = tracked.walk.kind_is;
    });
  }

  -- or ends here
  pub track_ends : (Last : ReadLeaf → ℕ → Type 0) → Last (leaf_of n records) next
      → IsNumberedWalk at head (LacksKey key) Last
  track_ends Last last = record {
    walk = record {
      before = tracked.walk.before;
      leaf = leaf_of n records;
      after = next;
      are_read =
          passed_more version at head (LacksKey key) n kind step tracked.walk next records link;
      passed =
          tracked.walk.passed;
      last = last;
    };
    numbered = numbered_more version at head (LacksKey key) n kind step tracked.walk records some;
  }

  -- at the page with the key
  pub track_hits : (bytes : List ℕ) (slot : ℕ) (content : Option (ℕ × ℕ))
      → IsLink version bytes n kind next (page_records bytes)
      → page_records bytes ≡ records → HasKeyAt key records slot
      → IsHit version at head key bytes (record {
        page = n;
        slot = slot;
        prior = prior;
        prior_kind =
            prior_kind;
        next = next;
        content = content;
      })
  unfolding track_ends
  track_hits bytes slot content is_link read has = record {
    walked = track_ends (IsHitAt key bytes
        (record {
          page = n;
          slot = slot;
          prior = prior;
          prior_kind = prior_kind;
          next = next;
          content = content;
        }))
        record { number = refl; records = read; has = has; next = refl };
    link = subst (λ (k : ℕ). IsLink version bytes n k next
        (page_records bytes)) tracked.walk.kind_is is_link;
    prior = tracked.prior_is;
  }
