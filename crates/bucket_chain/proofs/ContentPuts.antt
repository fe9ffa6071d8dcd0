-- A chain beside the pages that were taken for a content.
use Rattle.std.proofs.Common.{◌≡◌, ℕ, zero, suc, ◌+◌, ◌<◌, ◌≤◌, ◌==◌, Bool, true, false, cond, List, [], ◌∷◌, ◌++◌, refl, sym, ap, ◌∙◌, subst, arith}
use Rattle.dbm_model.specs.Bounds.{Version}
use Rattle.dbm_model.specs.Pairs.{Pair, IsAllowed}
use Rattle.page_model.specs.Pages.{Body}
use Rattle.page_model.specs.Chain.{Chain, Entry, pages_of, pages_in, content_pages, has_room}
use Rattle.page_model.specs.Space.{Space, next_page, next_pages, after_take, after_takes, is_page, times_of}
use Rattle.page_model.specs.PageBodies.{first_of, chain_bodies, content_bodies}
use Rattle.page_model.specs.Rewrites.{AreRewritten}
use Rattle.page_model.proofs.Chains.{sum_by-add_pages}
use Rattle.page_model.proofs.Ends.{kept_taken, kept_takes}
use Rattle.page_model.proofs.Flat.{numbers-chain_bodies}
use Rattle.page_model.proofs.Frames.{kept}
use Rattle.page_model.proofs.Spaces.{length-next_pages, times_head}
use Rattle.free_pages.specs.declared.free_state.FreeState.{FreeState}
use Rattle.free_pages.specs.FreeList.{IsFreeList, IsApart}
use Rattle.content_pages.proofs.ContentWrites.{numbers-content}
use Rattle.content_pages.proofs.PageCounts.{times_both}
use Rattle.bucket_chain.specs.Changes.{IsPlaced, AreHeld, BecomesPlaced, put_in, put_pair}
use Rattle.bucket_chain.proofs.PutLemmas.{one_or_none}
use Rattle.bucket_chain.proofs.FewPages.{few_apart, taken_apart, page_some}

-- ---- pages that are taken one after the other

pub takes_apart : (count : ℕ) (pages : List ℕ) (s : Space) → IsApart pages s → 1 ≤ s.end
    → IsApart (next_pages count s ++ pages) (after_takes count s)
takes_apart zero pages s apart some = apart
takes_apart (suc count) pages s apart some = λ n.
    let next = next_page s in
    omega (
      arith,
      takes_apart count (pages ++ next ∷ []) (after_take s) (taken_apart pages s apart some)
          (omega (arith, some, kept_taken s)) n,
      times_both n (next_pages count (after_take s)) (pages ++ next ∷ []),
      times_both n pages (next ∷ []),
      times_both n (next ∷ next_pages count (after_take s)) pages,
      times_both n (next ∷ []) (next_pages count (after_take s)),
    )

-- ---- a chain and a content that was put beside it

module _ (version : Version) (old mid : ℕ → Body) (before between : FreeState) (head : ℕ)
    (chain : Chain) (s : Space) (pair : Pair) (count : ℕ)
    (placed : IsPlaced version old before head chain s) (allowed : IsAllowed version pair)
    (enough : content_pages pair ≡ count)
    (written : AreRewritten old mid (content_bodies (next_pages count s) pair.1))
    (left : IsFreeList mid between (after_takes count s)) where
  apart : IsApart (next_pages count s ++ pages_in chain) (after_takes count s)
  apart = takes_apart count (pages_in chain) s placed.apart placed.free_is.some

  -- no page of the chain was written
  chain_same : (n : ℕ) → 1 ≤ times_of n (pages_in chain) → mid n ≡ old n
  chain_same n stands = written.others n (
      ap (times_of n) (numbers-content (next_pages count s) pair.1)
      ∙ omega (
        arith,
        stands,
        one_or_none (is_page n (after_takes count s).end) _ (apart n),
        times_both n (next_pages count s) (pages_in chain),
      ))

  chain_apart : IsApart (pages_in chain) (after_takes count s)
  chain_apart n = omega (arith, apart n, times_both n (next_pages count s) (pages_in chain))

  pub still_placed : IsPlaced version mid between head chain (after_takes count s)
  still_placed =
      let is = placed.chain_is in
      record {
        chain_is = record {
          are_read = kept old mid (chain_bodies chain)
              (λ n stands. chain_same n (subst (λ (ns : List ℕ). 1 ≤ times_of n ns)
              (numbers-chain_bodies chain) stands)) is.are_read;
          is_chain = is.is_chain;
          from = is.from;
          few = omega (arith, is.few, kept_takes count s);
          numbered = is.numbered;
          entered = is.entered;
          sound = is.sound;
        };
        free_is = left;
        apart = chain_apart;
        fits = few_apart (pages_in chain) (after_takes count s) chain_apart left.some;
      }

  abbrev entry : Entry
  entry = record { pair = pair; pages = next_pages count s }

  pub now_held : AreHeld version mid (pages_in chain) (after_takes count s) (entry ∷ [])
  now_held = record {
    entered =
        (record { allowed = allowed; paged = length-next_pages count s ∙ sym enough }, tt);
    are_read = (written.are_read, tt);
    apart = λ n. omega (
      arith,
      apart n,
      times_both n (next_pages count s) (pages_in chain),
      times_both n (pages_of (entry ∷ [])) (pages_in chain),
      times_both n (next_pages count s) [],
    );
  }

  -- then the entry was added
  pub put_behind : (new : ℕ → Body) (after : FreeState)
      → BecomesPlaced mid new after (put_in (chain, after_takes count s) entry)
      → BecomesPlaced old new after (put_pair (chain, s) pair)
  put_behind new after becomes =
      subst (λ (k : ℕ). BecomesPlaced old new after (put_in (chain, after_takes k s)
      (record { pair = pair; pages = next_pages k s }))) (sym enough) record {
        rewritten = record {
          chain_read = becomes.rewritten.chain_read;
          free_read = becomes.rewritten.free_read;
          others = λ n none. becomes.rewritten.others n none
              ∙ written.others n (ap (times_of n) (numbers-content (next_pages count s) pair.1)
              ∙ omega (
                arith,
                none,
                sum_by-add_pages (λ (m : ℕ). cond (m == n) 1 0) entry
                    (next_page (after_takes count s)) chain,
              ));
        };
        kept = becomes.kept;
      }

-- ---- where a device has no room

end_kept : (chain : Chain) (s : Space) (e : Entry) → s.end ≤ (put_in (chain, s) e).1.end
end_kept chain s e = elim (has_room e chain) as (λ b. s.end ≤ (cond b s (after_take s)).end) [
  | true ↦ omega arith
  | false ↦ kept_taken s
]

-- no page was taken for the content
pub lacks_first : (chain : Chain) (s : Space) (pair : Pair) (count capacity : ℕ)
    → content_pages pair ≡ count → capacity < (after_takes count s).end
    → capacity < (put_pair (chain, s) pair).1.end
lacks_first chain s pair count capacity enough lacks =
    let many = content_pages pair in
    omega (
      arith,
      lacks,
      ap (λ (k : ℕ). (after_takes k s).end) enough,
      end_kept chain (after_takes many s)
          (record { pair = pair; pages = next_pages many s }),
    )

-- none was taken for the record, which fits no page of the chain
module _ (version : Version) (at : ℕ → Body) (state : FreeState) (head : ℕ) (chain : Chain)
    (s : Space) (e : Entry) (capacity : ℕ) (placed : IsPlaced version at state head chain s)
    (no_room : has_room e chain ≡ true → ⊥) (lacks : capacity < state.file_end + 1)
    (none : state.head ≡ 0) where
  none_free : first_of s.free ≡ 0 → (after_take s).end ≡ s.end + 1
  none_free first = by_free s.free s.end placed.apart first
    where
      by_free : (free : List ℕ) (end : ℕ)
          → IsApart (pages_in chain) (record { free = free; end = end }) → first_of free ≡ 0
          → (after_take (record { free = free; end = end })).end ≡ end + 1
      by_free [] end apart first = refl
      by_free (m ∷ rest) end apart first = absurd (omega (
        arith,
        first,
        page_some m end (omega (arith, apart m, times_both m (m ∷ []) rest, times_head m [])),
      ))

  pub lacks_last : capacity < (put_in (chain, s) e).1.end
  lacks_last = by_room (has_room e chain) refl
    where
      by_room : (b : Bool) → has_room e chain ≡ b → capacity < (put_in (chain, s) e).1.end
      by_room true is = absurd (no_room is)
      by_room false is =
          let kept = placed.free_is.kept in
          omega (
            arith,
            lacks,
            ap (λ (f : FreeState). f.file_end) kept,
            none_free (sym (ap (λ (f : FreeState). f.head) kept) ∙ none),
            ap (λ (b : Bool). (cond b s (after_take s)).end) is,
          )

-- a pair of so many pages
pub lacks_pair : (chain : Chain) (s : Space) (pair : Pair) (count capacity : ℕ)
    → content_pages pair ≡ count
    → capacity < (put_in (chain, after_takes count s)
    (record { pair = pair; pages = next_pages count s })).1.end
    → capacity < (put_pair (chain, s) pair).1.end
lacks_pair chain s pair count capacity enough lacks =
    subst (λ (k : ℕ). capacity < (put_in (chain, after_takes k s)
    (record { pair = pair; pages = next_pages k s })).1.end) (sym enough) lacks
