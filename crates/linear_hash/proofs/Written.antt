-- What a change leaves of the pages on any file, from its bucket to the commit.
use Rattle.std.proofs.Common.{◌≡◌, ◌∙◌, ℕ, ◌*◌, ◌<◌, ◌≤◌, nat_lt, ◌/◌, ◌%◌, Bool, true, false, [], Result, Ok, Err, IfOk, IfErr, OnOk, slice_index, sym, ap, subst, arith}
use Rattle.page_model.specs.Address.{address, hash_of}
use Rattle.page_model.specs.Pages.{Meta, Body, MetaPage}
use Rattle.page_model.specs.Valid.{meta_buckets}
use Rattle.page_model.specs.Reading.{body_of}
use Rattle.dbm_model.specs.Pairs.{Key, Pair}
use Rattle.page_io.specs.Store.{Pages, StoreState, AllBelow, page_of, overlaid, committed_with}
use Rattle.page_io.specs.Views.{body_at, MayEnd}
use Rattle.page_io.specs.declared.store.PageStore.{Ghosts}
use Rattle.page_io.specs.declared.store.PageFault.{PageFault}
use Rattle.page_io.proofs.Overlays.{page_of-file}
use Rattle.page_io.specs.Committing.{MayCommit}
use Rattle.free_pages.specs.declared.free_state.FreeState.{FreeState}
use Rattle.seg_table.specs.Heads.{HasEntry}
use Rattle.bucket_chain.specs.AnyFile.{IsPut, IsTakenOut}
use Rattle.bucket_chain.proofs.Added.{added_under}
use Rattle.dbm_model.specs.Bounds.{Version}
use Rattle.page_model.specs.Chain.{record_with}
use Rattle.linear_hash.specs.AnyFile.{IsSplitWhere}
use Rattle.linear_hash.specs.Changing.{InBucket, IsOutWhere, PutIn, IsWritten, Stores, shaped_as}
use Rattle.linear_hash.specs.Tables.{shape_in, space_in}

-- the head was read from the pages as they were at first, and the chain was changed in pages that
-- say the same
pub in_bucket : (at at' : ℕ → Body) (m : Meta) (key : Key) (bucket head : ℕ)
    (Change : (ℕ → Body) → ℕ → Type 0) → bucket ≡ address (shape_in m) (hash_of key)
    → HasEntry (at (slice_index m.segments (bucket / 508))) (bucket % 508) head → at' ≡ at
    → Change at' head → InBucket at m key (Change at)
in_bucket at at' m key bucket head Change is entry same change = record {
  head = head;
  segment = subst (λ (b : ℕ). HasEntry (at (slice_index m.segments (b / 508))) (b % 508) head) is
      entry;
  change = subst (λ (f : ℕ → Body). Change f head) same change;
}

-- the key was out of its bucket where it was there, or was not there
module _ {S : Type 0} (s : Ghosts S) (old mid new : S) (before between after : FreeState)
    (head : ℕ) (key : Key) (was_there : Bool) (version : Version) (store : new ≡ mid)
    (free : after ≡ between) where
  pub was_out : was_there ≡ true
      → IsTakenOut version (body_at s old) (body_at s mid) before between head key
      → IsOutWhere was_there version (body_at s old) (body_at s new) before after head key
  was_out is out =
      subst (λ (b : Bool). IsOutWhere b version (body_at s old) (body_at s new) before after head
      key)
      (sym is)
      (subst (λ (st : S). IsTakenOut version (body_at s old) (body_at s st) before after head key)
      (sym store)
      (subst (λ (f : FreeState). IsTakenOut version (body_at s old) (body_at s mid) before f head
      key)
      (sym free) out))

  pub was_not : was_there ≡ false → mid ≡ old → between ≡ before
      → IsOutWhere was_there version (body_at s old) (body_at s new) before after head key
  was_not is still kept =
      subst (λ (b : Bool). IsOutWhere b version (body_at s old) (body_at s new) before after head
      key)
      (sym is) (ap (body_at s) (store ∙ still), free ∙ kept)

-- where the end is the file's under some other premise
pub is_put_under : (Ends Other : Type 0) → (Other → Ends) → (old new : ℕ → Body)
    (before after : FreeState) (head : ℕ) (pair : Pair) → IsPut old new Ends before after head pair
    → IsPut old new Other before after head pair
is_put_under Ends Other then old new before after head pair put = record {
  pages = put.pages;
  mid = put.mid;
  between = put.between;
  content = put.content;
  added = added_under Ends Other then put.mid new put.between after head
      (record_with pair put.pages)
      put.added;
}

pub put_under : (was_there : Bool) (Ends Other : Type 0) (old new : ℕ → Body) (m : Meta)
    (before after : FreeState) (pair : Pair) → (Other → Ends)
    → PutIn was_there Ends old m before pair new after
    → PutIn was_there Other old m before pair new after
put_under was_there Ends Other old new m before after pair then put = record {
  head = put.head;
  segment = put.segment;
  change = record {
    mid = put.change.mid;
    between = put.change.between;
    first = put.change.first;
    second = is_put_under Ends Other then put.change.mid new put.change.between after put.head pair
        put.change.second;
  };
}

-- and one was split thereafter, where that is due
pub stored_then : (was_there : Bool) (old : ℕ → Body) (before after : Meta) (space : FreeState)
    (pair : Pair) (mid new : ℕ → Body) (between left : FreeState)
    → PutIn was_there (Unit {0}) old before space pair mid between
    → IsSplitWhere (nat_lt (8 * meta_buckets before) after.pairs) (Unit {0}) mid new before
    (shaped_as before after) between left
    → Stores was_there old before after space pair new left
stored_then was_there old before after space pair mid new between left put splits =
    record { mid = mid; between = between; first = put; second = splits }

-- where nothing is staged, a commit may end the file where it ends
pub idle_end : (st : StoreState) → st.staged ≡ [] → MayEnd st st.end
idle_end st idle = record {
  least = omega arith;
  below = subst (AllBelow st.end) (sym idle) tt;
  grown = λ n ge lt. absurd (omega (arith, ge, lt));
}

-- once the meta page is staged
module _ (Change : (ℕ → Body) → FreeState → Type 0) (mid new : ℕ → Body) (counted after : Meta)
    (space : FreeState) (end : ℕ) (change : Change mid space)
    (free : after ≡ record counted { free_head = space.head; free_count = space.count })
    (last : end ≡ space.file_end) (page : new 1 ≡ MetaPage after)
    (others : (n : ℕ) → (n ≡ 1 → ⊥) → new n ≡ mid n) where
  said : space ≡ space_in after end
  said = λ i. record {
    head = sym (ap (λ (m : Meta). m.free_head) free) i;
    count = sym (ap (λ (m : Meta). m.free_count) free) i;
    file_end = sym last i;
  }

  pub written_so : (before : Meta) → after ≡ record before {
    pairs = after.pairs;
    free_head = after.free_head;
    free_count = after.free_count;
  } → IsWritten Change new before after end
  written_so before kept = record {
    mid = mid;
    change = subst (Change mid) said change;
    kept = kept;
    meta = page;
    others = λ n lt below. others n (λ same. absurd (omega (arith, lt, same)));
  }

  -- where only the count was changed before
  pub written_last : (before : Meta) → counted ≡ record before { pairs = counted.pairs }
      → IsWritten Change new before after end
  written_last before count = written_so before (λ i. record {
    bounds = (ap (λ (m : Meta). m.bounds) free ∙ ap (λ (m : Meta). m.bounds) count) i;
    pairs = after.pairs;
    level = (ap (λ (m : Meta). m.level) free ∙ ap (λ (m : Meta). m.level) count) i;
    split = (ap (λ (m : Meta). m.split) free ∙ ap (λ (m : Meta). m.split) count) i;
    free_head = after.free_head;
    free_count = after.free_count;
    segments = (ap (λ (m : Meta). m.segments) free ∙ ap (λ (m : Meta). m.segments) count) i;
  })

  -- or the shape and the segments too
  pub written_shaped : (before : Meta) → counted.bounds ≡ before.bounds
      → IsWritten Change new (shaped_as before after) after end
  written_shaped before bounds = written_so (shaped_as before after) (λ i. record {
    bounds = (ap (λ (m : Meta). m.bounds) free ∙ bounds) i;
    pairs = after.pairs;
    level = after.level;
    split = after.split;
    free_head = after.free_head;
    free_count = after.free_count;
    segments = after.segments;
  })

-- once it is committed
pub written_committed : {S : Type 0} (s : Ghosts S) (mid new : S)
    (Change : (ℕ → Body) → FreeState → Type 0) (before after : Meta) (A : PageFault → Type 0)
    (r : Result ℕ PageFault) (result : Result Unit PageFault)
    → IfErr r (λ e. (result ≡ Err e) × A e) → IfOk r (MayCommit (s.state mid))
    → IfOk r (λ end. OnOk result
    (s.committed new ≡ committed_with (s.committed mid) (s.state mid).staged end))
    → IfOk r (λ end. OnOk result
    (s.state new ≡ record (s.state mid) { staged = []; end = end }))
    → IfOk r (λ end. IsWritten Change (body_at s mid) before after end)
    → OnOk result (IsWritten Change (body_at s new) before after (s.state new).end)
written_committed s mid new Change before after A (Err fault) (Ok done) refused can committed is
    written =
    absurd (let x = refused.0 in cc)
written_committed s mid new Change before after A r (Err e) refused can committed is written = tt
written_committed s mid new Change before after A (Ok end) (Ok done) refused can committed is
    written = record {
      mid = written.mid;
      change = subst (λ (e : ℕ). Change written.mid (space_in after e)) (sym last) written.change;
      kept = written.kept;
      meta = shown 1 (omega arith) (omega (arith, can.least)) ∙ written.meta;
      others = λ n lt below.
          let within : n < end = omega (arith, below, last) in
          shown n (omega (arith, lt)) within ∙ written.others n lt within;
    }
  where
    last : (s.state new).end ≡ end
    last = ap (λ (st : StoreState). st.end) is

    shown : (n : ℕ) → 1 ≤ n → n < end → body_at s new n ≡ body_at s mid n
    shown n ge lt =
        let page = overlaid (s.state mid).staged (page_of (s.committed mid)) in
        ap (λ (st : StoreState). body_of n (overlaid st.staged (page_of (s.committed new)) n)) is
        ∙ ap (λ (pages : Pages). body_of n (page_of pages n)) committed
        ∙ ap (body_of n) (page_of-file page end n ge lt)
