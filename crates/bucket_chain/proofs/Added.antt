-- Where a pair was added, on any file.
use Rattle.std.proofs.Common.{◌≡◌, ◌≢◌, inl, inr, ⊎_elim, ℕ, ◌+◌, ◌-◌, ◌<◌, ◌≤◌, ◌==◌, Bool, true, false, cond, List, [], ◌∷◌, ◌++◌, length, refl, sym, ap, ◌∙◌, subst, arith}
use Rattle.std.specs.List.{AllByRecursion}
use Rattle.std.proofs.lemmas.List.{get_or_past}
use Rattle.dbm_model.specs.Bounds.{Version}
use Rattle.page_model.specs.Pages.{Body, Record, HeadPage, OverflowPage, FreePage, Other}
use Rattle.page_model.specs.Reading.{body_of}
use Rattle.page_io.specs.Store.{page_of, has_page}
use Rattle.page_io.specs.Views.{body_at, MayEnd}
use Rattle.page_io.specs.declared.store.PageStore.{Ghosts}
use Rattle.page_io.proofs.Overlays.{overlaid-none}
use Rattle.page_io.proofs.Views.{below_end}
use Rattle.free_pages.specs.declared.free_state.FreeState.{FreeState}
use Rattle.free_pages.specs.FreeList.{IsTaken}
use Rattle.page_io.specs.BucketPages.{page_records}
use Rattle.bucket_chain.specs.Links.{link_body}
use Rattle.bucket_chain.specs.Chains.{ReadChain, AreLinked, BeginsAt, kind_behind}
use Rattle.bucket_chain.specs.Spots.{leaf_on, IsSpot}
use Rattle.bucket_chain.specs.AnyFile.{IsAdded, AreAdded}
use Rattle.bucket_chain.specs.declared.puts.Spot.{Spot}
use Rattle.bucket_chain.proofs.StagedPages.{IsRewrittenAlone, AreRewritten}

-- ---- the page at the file's end

nothing_said : (n : ℕ) → body_of n [] ≡ Other
unfolding body_of
nothing_said n = refl

-- where a commit may end the file, no page stands
pub says_nothing : {S : Type 0} (s : Ghosts S) (store : S) (end : ℕ)
    → length (s.committed store) + 1 ≡ (s.state store).end → 4 ≤ (s.state store).end
    → MayEnd (s.state store) end → body_at s store end ≡ Other
says_nothing s store end ends some may =
    let staged = (s.state store).staged in
    let pages = s.committed store in
    let absent : page_of pages end ≡ [] =
    get_or_past pages (end - 1) [] (omega (arith, ends, may.least)) in
    ap (body_of end) (overlaid-none staged (page_of pages) end
    (none (has_page staged end) (λ has. below_end end staged end may.below has)) ∙ absent)
    ∙ nothing_said end
  where
    none : (has : Bool) → (has ≡ true → end < end) → has ≡ false
    none true below = absurd (omega (arith, below refl))
    none false below = refl

-- ---- a page that was taken

-- it is no page of a chain
abbrev IsNoLink : Body → Type 0
IsNoLink body = (kind next : ℕ) (records : List Record) → body ≡ link_body kind next records → ⊥

not_free : (body : Body) (n : ℕ) → body ≡ FreePage n → IsNoLink body
not_free body n free kind next records says = by_kind (kind == 3) (sym says ∙ free)
  where
    by_kind : (head : Bool) → cond head (HeadPage next records) (OverflowPage next records)
        ≡ FreePage n → ⊥
    by_kind true e = absurd (cc)
    by_kind false e = absurd (cc)

not_nothing : (body : Body) → body ≡ Other → IsNoLink body
not_nothing body nothing kind next records says = by_kind (kind == 3) (sym says ∙ nothing)
  where
    by_kind : (head : Bool) → cond head (HeadPage next records) (OverflowPage next records)
        ≡ Other → ⊥
    by_kind true e = absurd (cc)
    by_kind false e = absurd (cc)

taken_is_none : (old : ℕ → Body) (before after : FreeState) (n : ℕ) → IsTaken old before n after
    → old before.file_end ≡ Other → IsNoLink (old n)
taken_is_none old before after n is_taken nothing = ⊎_elim
    (λ first. not_free (old n) after.head first.free)
    (λ end. not_nothing (old n) (ap old end.last ∙ nothing))
    is_taken

-- so it is none of those that were read
linked_apart : (at : ℕ → Body) (n : ℕ) (rest : ReadChain) (next : ℕ) → IsNoLink (at n)
    → AreLinked at rest next → AllByRecursion (λ page. page.number ≢ n) rest
linked_apart at n [] next none linked = tt
linked_apart at n (leaf ∷ rest) next none linked = (
  λ same. none 4 _ leaf.records (ap at (sym same) ∙ linked.0),
  linked_apart at n rest next none linked.2,
)

begins_apart : (at : ℕ → Body) (head n : ℕ) (pages : ReadChain) (next : ℕ) → IsNoLink (at n)
    → BeginsAt at head pages next → AllByRecursion (λ page. page.number ≢ n) pages
begins_apart at head n [] next none begins = absurd begins
begins_apart at head n (leaf ∷ rest) next none begins = (
  λ same. none 3 _ leaf.records (ap at (sym same ∙ begins.0) ∙ begins.1),
  linked_apart at n rest next none begins.2,
)

-- ---- the two ways of a put

module _ (version : Version) (old new : ℕ → Body) (Ends : Type 0) (before after : FreeState)
    (head : ℕ) (r : Record)
    (bytes : List ℕ) (spot : Spot) (found : IsSpot version old head r bytes spot) where
  -- to a page that it fits
  pub added_to : spot.has_room ≡ true → after ≡ before
      → IsRewrittenAlone old new spot.page
      (link_body (kind_behind found.before) found.next (page_records bytes ++ r ∷ []))
      → IsAdded old new Ends before after head r
  added_to room kept here = record {
    walk = record {
      before = found.before;
      leaf = leaf_on spot bytes;
      after = found.next;
      are_read =
          found.begins;
      passed = found.passed;
      last = inl (found.room room);
    };
    added = inl (
      record { has_room = found.room room; says = here.says; others = here.others },
      kept,
    );
  }

  -- to a page of its own
  pub added_behind : spot.has_room ≡ false → (n : ℕ) → IsTaken old before n after
      → (Ends → old before.file_end ≡ Other)
      → AreRewritten old new n (OverflowPage 0 (r ∷ [])) spot.page
      (link_body (kind_behind found.before) n (page_records bytes))
      → IsAdded old new Ends before after head r
  added_behind full n is_taken nothing both = record {
    walk = record {
      before = found.before;
      leaf = leaf_on spot bytes;
      after = found.next;
      are_read =
          found.begins;
      passed = found.passed;
      last = inr (found.full full).1;
    };
    added = inr (record {
      taken = n;
      is_full = found.full full;
      is_taken = is_taken;
      apart = λ ends. begins_apart old head n (found.before ++ leaf_on spot bytes ∷ []) found.next
          (taken_is_none old before after n is_taken (nothing ends)) found.begins;
      says = both.first;
      named = both.second;
      others = both.others;
    });
  }

-- ---- many puts

-- under what else says that the kept end is the file's
pub added_under : (E F : Type 0) → (F → E)
    → (old new : ℕ → Body) (before after : FreeState) (head : ℕ) (r : Record)
    → IsAdded old new E before after head r → IsAdded old new F before after head r
added_under E F then old new before after head r is = record {
  walk = is.walk;
  added = ⊎_elim
      (λ here. inl here)
      (λ behind. inr (record {
        taken = behind.taken;
        is_full = behind.is_full;
        is_taken = behind.is_taken;
        apart = λ ends. behind.apart (then ends);
        says = behind.says;
        named = behind.named;
        others = behind.others;
      }))
      is.added;
}

pub all_under : (E F : Type 0) → (F → E)
    → (head : Record → ℕ) (old : ℕ → Body) (before : FreeState) (records : List Record) (new : ℕ
    → Body)
    (after : FreeState) → AreAdded old new E before after head records
    → AreAdded old new F before after head records
all_under E F then head old before [] new after all = all
all_under E F then head old before (r ∷ records) new after all = record {
  mid = all.mid;
  between = all.between;
  first = added_under E F then old all.mid before all.between (head r) r all.first;
  second = all_under E F then head all.mid all.between records new after all.second;
}

-- one more
pub one_added : (Ends : Type 0) (head : Record → ℕ) (old : ℕ
    → Body) (before : FreeState) (records : List Record)
    (mid : ℕ → Body) (between : FreeState) (r : Record) (new : ℕ → Body) (after : FreeState)
    → AreAdded old mid Ends before between head records
    → IsAdded mid new Ends between after (head r) r
    → AreAdded old new Ends before after head (records ++ r ∷ [])
one_added Ends head old before [] mid between r new after none more = record {
  mid = new;
  between = after;
  first = subst (λ (f : ℕ → Body). IsAdded f new Ends before after (head r) r) none.0
      (subst (λ (s : FreeState). IsAdded mid new Ends s after (head r) r) none.1 more);
  second = (refl, refl);
}
one_added Ends head old before (p ∷ records) mid between r new after all more = record {
  mid = all.mid;
  between = all.between;
  first = all.first;
  second = one_added Ends head all.mid all.between records mid between r new after all.second more;
}

-- each takes one page at most
one_grows : (Ends : Type 0) (old new : ℕ → Body) (before after : FreeState) (head : ℕ) (r : Record)
    → IsAdded old new Ends before after head r → after.file_end ≤ before.file_end + 1
one_grows Ends old new before after head r is = ⊎_elim
    (λ here. omega (arith, ap (λ (s : FreeState). s.file_end) here.1))
    (λ behind. ⊎_elim (λ first. omega (arith, first.end))
    (λ last. omega (arith, ap (λ (s : FreeState). s.file_end) last.grown)) behind.is_taken)
    is.added

pub all_grow : (Ends : Type 0) (head : Record → ℕ) (old : ℕ
    → Body) (before : FreeState) (records : List Record)
    (new : ℕ → Body) (after : FreeState) → AreAdded old new Ends before after head records
    → after.file_end ≤ before.file_end + length records
all_grow Ends head old before [] new after none =
    omega (arith, ap (λ (s : FreeState). s.file_end) none.1)
all_grow Ends head old before (r ∷ records) new after all =
    omega (
      arith,
      one_grows Ends old all.mid before all.between (head r) r all.first,
      all_grow Ends head all.mid all.between records new after all.second,
    )
