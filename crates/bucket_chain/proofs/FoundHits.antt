-- What a hit tells of the chain, and what is left where its record is taken out.
use Rattle.std.proofs.Common.{◌≡◌, ℕ, ◌+◌, ◌<◌, ◌≤◌, ◌==◌, Bool, true, false, cond, Option, None, List, [], ◌∷◌, ◌++◌, length, get_or, map, flat_map, inl, inr, sym, ap, ◌∙◌, subst, arith, append_assoc}
use Rattle.std.specs.List.{AllByRecursion, HoldsAt}
use Rattle.std.proofs.lemmas.Bool.{cases_eq}
use Rattle.dbm_model.specs.Bounds.{Version}
use Rattle.dbm_model.specs.Pairs.{Key}
use Rattle.page_model.specs.PairLists.{times}
use Rattle.page_model.specs.Numbers.{IsNumber}
use Rattle.page_model.specs.Pages.{Body, Record, HeadPage, OverflowPage, ContentPage, Other, NumberedBody}
use Rattle.page_model.specs.Chain.{Chain, Entry, entries_in, pairs_in, record_of, is_at, IsEntry}
use Rattle.page_model.specs.Space.{Space}
use Rattle.page_model.specs.PageBodies.{leaf_bodies, entry_bodies, AreRead}
use Rattle.page_model.proofs.Chains.{AllByRecursion-left, AllByRecursion-right, AllByRecursion-filter}
use Rattle.page_model.proofs.GoodBodies.{from_times}
use Rattle.free_pages.specs.declared.free_state.FreeState.{FreeState}
use Rattle.free_pages.specs.FreeList.{IsFreeList, IsApart}
use Rattle.free_pages.specs.Giving.{AreGiven}
use Rattle.page_io.specs.BucketPages.{page_records}
use Rattle.slot_page.specs.Contents.{HasKeyAt, told_content}
use Rattle.content_pages.proofs.PageCounts.{times_both}
use Rattle.bucket_chain.specs.Links.{link_body}
use Rattle.bucket_chain.specs.Chains.{ReadLeaf, ReadChain, BeginsAt, kind_behind}
use Rattle.bucket_chain.specs.AnyFile.{AreToldPages, IsNoContent, IsUnlinked, IsTakenOut, AreGivenBack, emptied_page}
use Rattle.bucket_chain.specs.Changes.{IsPlaced, BecomesPlaced, LacksFar, remove_from}
use Rattle.bucket_chain.specs.Hits.{IsHit}
use Rattle.bucket_chain.specs.declared.removes.Hit.{Hit}
use Rattle.bucket_chain.proofs.ChainContents.{contents_each, contents_kept}
use Rattle.bucket_chain.proofs.FoundEntries.{IsFoundHere, found_here, hit_page}
use Rattle.bucket_chain.proofs.KeySlots.{slot_times}
use Rattle.bucket_chain.proofs.Removals.{removed, free_mid, freed_apart, content_same}
use Rattle.bucket_chain.proofs.Rewriting.{AreSaid, chain_said}
use Rattle.bucket_chain.proofs.FewPages.{few_apart, page_some}
use Rattle.bucket_chain.proofs.TakenEntries.{IsTakenIn, taken_in, of_key}
use Rattle.bucket_chain.proofs.TakenOut.{last_say}
use Rattle.bucket_chain.proofs.ToldEntries.{lacks_far, content_numbers, told_pages}

-- ---- on any file

-- a page of a chain has no content
link_no_content : (kind next : ℕ) (records : List Record) (body : Body)
    → body ≡ link_body kind next records → IsNoContent body
link_no_content kind next records body says other is = by_kind (kind == 3) (sym says ∙ is.says)
  where
    by_kind : (head : Bool) → cond head (HeadPage next records) (OverflowPage next records)
        ≡ ContentPage other is.bytes → ⊥
    by_kind true e = cc
    by_kind false e = cc

-- so the page that was emptied isn't taken for one
pub emptied_no_content : (version : Version) (at mid : ℕ → Body) (head slot : ℕ)
    (before : ReadChain) (leaf : ReadLeaf) (after n : ℕ) (is_emptied : Bool) → n ≡ leaf.number
    → BeginsAt at head (before ++ leaf ∷ []) after
    → IsUnlinked version at mid slot is_emptied before leaf after → is_emptied ≡ true
    → IsNoContent (mid n)
emptied_no_content version at mid head slot before leaf after n false number begins taken
    is_true = absurd (cc)
emptied_no_content version at mid head slot before leaf after n true number begins taken
    is_true =
    let both = last_say at head taken.front taken.prior leaf after
    (subst (λ (c : ReadChain). BeginsAt at head c after)
    (ap (λ (c : ReadChain). c ++ leaf ∷ []) taken.parts
    ∙ append_assoc taken.front (taken.prior ∷ []) (leaf ∷ [])) begins) in
    elim (cases_eq n taken.prior.number) [
      | inl same ↦ link_no_content (kind_behind taken.front) after taken.prior.records (mid n)
          (ap mid same ∙ taken.named)
      | inr other ↦ link_no_content 4 after leaf.records (mid n)
          (taken.others n other ∙ ap at number ∙ both.1)
    ]

-- the record of the hit was taken out, and what it tells was given
pub taken_out : (version : Version) (old mid new : ℕ → Body) (before after : FreeState)
    (head : ℕ) (key : Key) (bytes : List ℕ) (hit : Hit) (is_emptied : Bool)
    (is : IsHit version old head key bytes hit)
    → HoldsAt (λ r. told_content r ≡ hit.content) (page_records bytes) hit.slot
    → IsUnlinked version old mid hit.slot is_emptied is.walked.walk.before is.walked.walk.leaf
    is.walked.walk.after → AreGivenBack mid new before after hit.content is_emptied hit.page
    → IsTakenOut version old new before after head key
taken_out version old mid new before after head key bytes hit is_emptied is told unlinked given =
    let walk = is.walked.walk in
    let at = walk.last in
    record {
      walk = record {
        before = walk.before;
        leaf = walk.leaf;
        after = walk.after;
        are_read = walk.are_read;
        passed = walk.passed;
        last = slot_times key walk.leaf.records hit.slot at.has;
      };
      slot = hit.slot;
      has = at.has;
      mid = mid;
      is_emptied = is_emptied;
      unlinked = unlinked;
      given = λ d.
          let here : told_content (get_or walk.leaf.records hit.slot d) ≡ hit.content =
          ap (λ (rs : List Record). told_content (get_or rs hit.slot d)) (sym at.records)
          ∙ told d in
          subst (λ (o : Option (ℕ × ℕ)).
          AreGivenBack mid new before after o is_emptied walk.leaf.number) (sym here)
          (subst (λ (n : ℕ). AreGivenBack mid new before after hit.content is_emptied n) at.number
          given);
    }

-- ---- in a chain that is read as one

module _ (version : Version) (at : ℕ → Body) (state : FreeState) (head : ℕ) (chain : Chain)
    (s : Space) (key : Key) (bytes : List ℕ) (hit : Hit)
    (placed : IsPlaced version at state head chain s)
    (is : IsHit version at head key bytes hit)
    (told : HoldsAt (λ r. told_content r ≡ hit.content) (page_records bytes) hit.slot) where
  -- where no far entry has the key, no content is told
  pub near_told : LacksFar key chain → hit.content ≡ None
  near_told near =
      let page = hit_page version at s.end head chain key placed.chain_is is.walked in
      let walk = is.walked.walk in
      let entries = page.page.entries in
      let same : map record_of entries ≡ page_records bytes =
      ap (λ (l : ReadLeaf). l.records) page.page_read ∙ sym walk.last.records in
      let has : HasKeyAt key (map record_of entries) hit.slot =
      subst (λ (l : ReadLeaf). HasKeyAt key l.records hit.slot) (sym page.page_read)
      walk.last.has in
      let near' : AllByRecursion (λ e. e.pair.0 ≡ key → e.pages ≡ []) entries =
      page.entries_all (λ e. e.pair.0 ≡ key → e.pages ≡ []) near in
      let r : Record = record { key = []; bytes = []; far = None } in
      sym (told r)
      ∙ ap (λ (rs : List Record). told_content (get_or rs hit.slot r)) (sym same)
      ∙ lacks_far key entries hit.slot near' has r

  module _ (once : times key (pairs_in chain) ≤ 1) where
    pub found : IsFoundHere chain key hit.slot is.walked.walk.before is.walked.walk.leaf
        is.walked.walk.after
    found = found_here version at s.end head chain key placed.chain_is is.walked hit.slot
        is.walked.walk.last.has once

    abbrev entry : Entry
    entry = found.entry.e

    said : AreSaid at 3 chain 0
    said = chain_said at chain (AllByRecursion-left (λ (b : NumberedBody). at b.number ≡ b.body)
        (leaf_bodies chain) (flat_map entry_bodies (entries_in chain)) placed.chain_is.are_read)

    contents : AllByRecursion (λ e. AreRead at (entry_bodies e)) (entries_in chain)
    contents = contents_each at (entries_in chain)
        (AllByRecursion-right (λ (b : NumberedBody). at b.number ≡ b.body) (leaf_bodies chain)
        (flat_map entry_bodies (entries_in chain)) placed.chain_is.are_read)

    -- what holds of all entries holds of this one
    of_entry : (P : Entry → Type 0) → AllByRecursion P (entries_in chain) → P entry
    of_entry P all = (subst (AllByRecursion P)
        (of_key version at chain s key hit.slot is.walked.walk.before is.walked.walk.leaf
        is.walked.walk.after found placed.apart said)
        (AllByRecursion-filter P (is_at key) (entries_in chain) all)).0

    told_entry : told_content (record_of entry) ≡ hit.content
    told_entry =
        let r : Record = record { key = []; bytes = []; far = None } in
        ap told_content (sym (found.entry.there r))
        ∙ ap (λ (l : ReadLeaf). told_content (get_or l.records hit.slot r)) found.page_read
        ∙ ap (λ (rs : List Record). told_content (get_or rs hit.slot r))
        (sym is.walked.walk.last.records)
        ∙ told r

    module _ (mid : ℕ → Body) (is_emptied : Bool)
        (unlinked : IsUnlinked version at mid hit.slot is_emptied is.walked.walk.before
        is.walked.walk.leaf is.walked.walk.after) where
      abbrev pages : List ℕ
      pages = entry.pages ++ emptied_page is_emptied hit.page

      taken : IsTakenIn at mid chain key (entry.pages ++ emptied_page is_emptied hit.page)
      taken = subst (λ (n : ℕ). IsTakenIn at mid chain key
          (entry.pages ++ emptied_page is_emptied n)) (sym is.walked.walk.last.number)
          (taken_in version at chain s key hit.slot is.walked.walk.before is.walked.walk.leaf
          is.walked.walk.after found placed.apart said mid is_emptied unlinked)

      -- what becomes free stands apart from the free list
      pub given_apart : IsApart (entry.pages ++ emptied_page is_emptied hit.page) s
      given_apart = subst (λ (ns : List ℕ). IsApart ns s) taken.given
          (freed_apart version at mid state head chain s key placed taken.page taken.stands
          taken.others)

      pub given_fits : length (entry.pages ++ emptied_page is_emptied hit.page) + length s.free
          < s.end
      given_fits = few_apart (entry.pages ++ emptied_page is_emptied hit.page) s given_apart
          placed.free_is.some

      pub free_then : IsFreeList mid state s
      free_then = free_mid version at mid state head chain s key placed taken.page taken.stands
          taken.others

      -- the pages of the content are told still
      pub told_then : ((n : ℕ) → 1 ≤ n → (at n ≡ Other → ⊥) → IsNumber n)
          → AreToldPages mid hit.content entry.pages
      told_then small =
          let numbered : AllByRecursion (λ n. 1 ≤ n) entry.pages =
          from_times (λ n. 1 ≤ n) entry.pages (λ n stands. page_some n s.end (omega (
            arith,
            stands,
            given_apart n,
            times_both n entry.pages (emptied_page is_emptied hit.page),
          ))) in
          let read = of_entry (λ e. AreRead mid (entry_bodies e))
          (contents_kept at mid (entries_in chain)
          (content_same version at mid state head chain s key placed taken.page taken.stands
          taken.others) contents) in
          told_pages version mid entry hit.content
          (of_entry (IsEntry version) placed.chain_is.entered) read numbered
          (content_numbers at entry.pages entry.pair.1
          (of_entry (λ e. AreRead at (entry_bodies e)) contents) numbered small) told_entry

      pub removed_then : (new : ℕ → Body) (state' : FreeState)
          → AreGiven mid new state state' (entry.pages ++ emptied_page is_emptied hit.page)
          → BecomesPlaced at new state' (remove_from (chain, s) key)
      removed_then new state' given =
          removed version at mid state head chain s key placed taken.page taken.stands
          taken.others new state' taken.said
          (subst (AreGiven mid new state state') (sym taken.given) given)
