-- What reads of a store tell their caller.
use Rattle.std.proofs.Common.{◌≡◌, ◌≢◌, inl, ℕ, ◌≤◌, Result, None, Some, Option, List, refl, sym, subst, arith}
use Rattle.std.specs.Prelude.{IfOk, IfSome}
use Rattle.std.specs.Option.{ok_or}
use Rattle.page_io.specs.Store.{Settled, StoreState}
use Rattle.dbm_model.specs.Bounds.{Version}
use Rattle.page_model.specs.Pages.{Body, Record}
use Rattle.page_io.specs.Views.{body_at, ReadsOnly}
use Rattle.page_io.specs.declared.store.PageStore.{Ghosts}
use Rattle.page_io.proofs.Views.{same_said}
use Rattle.page_model.specs.Chain.{Chain}
use Rattle.bucket_chain.specs.Bests.{IsHeadRead}
use Rattle.bucket_chain.specs.Chains.{IsChainAt}
use Rattle.bucket_chain.specs.Links.{SaysLink}

-- before the first call; `only` is the store's law `only_now`
pub reads_none : {S : Type 0} (s : Ghosts S) (store : S)
    → ((y : Settled) → s.honest store → s.settled_since store (s.moment store).at y
    → s.settles_to store y) → ReadsOnly s store store
reads_none s store only = record {
  same = refl;
  stages_only = record {
    state = refl;
    honesty = (λ h. h, λ h. h);
    later = omega arith;
    kept = λ h. record {
      committed = refl;
      still = refl;
      any_moment =
          record {
            later = omega arith;
            until = omega arith;
            each = λ y left. only y h left;
            before =
                λ t y le left. inl left;
          };
    };
    now = λ h y is. is;
  };
}

-- an answer that came from an option
pub if_some : {A E : Type 0} (P Q : A → Type 0) (option : Option A) (result : Result A E) (e : E)
    → result ≡ ok_or option e → IfSome option P → ((x : A) → P x → Q x) → IfOk result Q
if_some P Q None result e is some then = rw is tt
if_some P Q (Some x) result e is some then = rw is (then x some)

-- a page of a chain, as it is read before and after
module _ {S : Type 0} (s : Ghosts S) (old mid : S) (reads : ReadsOnly s old mid)
    (honest : s.honest old) where
  pub still_honest : s.honest mid
  still_honest = reads.stages_only.honesty.1 honest

module _ (version : Version) {S : Type 0} (s : Ghosts S) (old mid : S)
    (reads : ReadsOnly s old mid) (honest : s.honest old) where
  pub link_before : (n kind next : ℕ) (records : List Record)
      → (s.honest mid → SaysLink version (body_at s mid) n kind next records)
      → SaysLink version (body_at s old) n kind next records
  link_before n kind next records link =
      subst (λ (at : ℕ
      → Body). SaysLink version at n kind next records) (same_said s old mid reads honest)
      (link (still_honest s old mid reads honest))

  pub link_after : (n kind next : ℕ) (records : List Record)
      → SaysLink version (body_at s old) n kind next records
      → SaysLink version (body_at s mid) n kind next records
  link_after n kind next records link =
      subst (λ (at : ℕ → Body). SaysLink version at n kind next records)
      (sym (same_said s old mid reads honest)) link

  -- the page that was read first, for those who read on
  pub head_after : (head n : ℕ) (records : List Record)
      → SaysLink version (body_at s old) head 3 n records
      → 1 ≤ head → n ≢ 0 → IsHeadRead version (body_at s mid) head n records
  head_after head n records link some more = record {
    says = link_after head 3 n records link;
    some = some;
    more = more;
  }

  pub chain_after : (head : ℕ) (chain : Chain)
      → IsChainAt version (body_at s old) (s.state old).end head chain
      → IsChainAt version (body_at s mid) (s.state mid).end head chain
  chain_after head chain is =
      subst (λ (at : ℕ → Body). IsChainAt version at (s.state mid).end head chain)
      (sym (same_said s old mid reads honest))
      (subst (λ (state : StoreState). IsChainAt version (body_at s old) state.end head chain)
      (sym reads.same) is)
