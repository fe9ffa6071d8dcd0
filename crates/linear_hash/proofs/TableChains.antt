-- The chain of a bucket of a table, by its number.
use Rattle.std.proofs.Common.{[], ◌≡◌, ℕ, ◌<◌, List, length, get_or, refl, sym, ap, ◌∙◌, subst, arith}
use Rattle.page_model.specs.Address.{buckets}
use Rattle.page_model.specs.Pages.{Meta, Body}
use Rattle.page_model.specs.Chain.{numbers}
use Rattle.page_model.specs.Placement.{Placement, chain_at}
use Rattle.page_model.specs.PageBodies.{first_of, heads_of}
use Rattle.page_model.proofs.GoodBodies.{end_small}
use Rattle.page_io.specs.Store.{StoreState}
use Rattle.page_io.specs.Views.{body_at, ReadsOnly}
use Rattle.page_io.specs.declared.store.PageStore.{Ghosts}
use Rattle.page_io.proofs.Views.{same_said}
use Rattle.seg_table.specs.Heads.{AreHeads}
use Rattle.seg_table.proofs.PlacementHeads.{heads_read, used_segments}
use Rattle.free_pages.specs.FreeList.{state_of}
use Rattle.bucket_chain.specs.Chains.{IsChainAt}
use Rattle.bucket_chain.specs.Changes.{IsPlaced}
use Rattle.dbm_model.specs.Bounds.{Bounds}
use Rattle.bucket_chain.proofs.PlacedChains.{chains_placed}
use Rattle.bucket_chain.proofs.ReadPages.{still_honest}
use Rattle.linear_hash.specs.Tables.{shape_in, IsTable}
use Rattle.linear_hash.proofs.Buckets.{table_heads, table_bounds}

module _ (at : ℕ → Body) (m : Meta) (end : ℕ) (p : Placement) (table : IsTable at m end p) where
  pub table_buckets : length p.chains ≡ buckets (shape_in m)
  table_buckets = table.good.sound.all_buckets ∙ ap buckets (ap shape_in (sym table.meta_is))

  -- from its head page on it is read as one
  pub bucket_chain_there : (bucket head : ℕ) → bucket < length p.chains
      → head ≡ get_or (heads_of p.chains) bucket 0
      → IsChainAt m.bounds.version at end head (chain_at p bucket)
  bucket_chain_there bucket head below head_is =
      let sound = table.good.sound in
      let small = end_small p table.good in
      let used = used_segments p sound small in
      let first : head ≡ first_of (numbers (chain_at p bucket)) =
      head_is ∙ (heads_read at p sound used table.are_read).each bucket below in
      let v = m.bounds.version in
      let there = subst (λ (b : Bounds). IsPlaced b.version at (state_of p.space)
      (first_of (numbers (chain_at p bucket))) (chain_at p bucket) p.space)
      (sym (table_bounds at m end p table))
      (chains_placed at (state_of p.space) [] p bucket sound small
      (record { are_read = table.are_read; kept = refl }) below) in
      subst (λ (n : ℕ). IsChainAt v at n head (chain_at p bucket)) table.ends
      (subst (λ (n : ℕ). IsChainAt v at p.space.end n (chain_at p bucket)) (sym first)
      there.chain_is)

-- ---- the same after reads
module _ {S : Type 0} (s : Ghosts S) where
  table_after : (old new : S) (m : Meta) (p : Placement) → ReadsOnly s old new → s.honest old
      → IsTable (body_at s old) m (s.state old).end p
      → IsTable (body_at s new) m (s.state new).end p
  table_after old new m p reads honest table =
      subst (λ (st : StoreState). IsTable (body_at s new) m st.end p) (sym reads.same)
      (subst (λ (at : ℕ → Body). IsTable at m (s.state old).end p)
      (sym (same_said s old new reads honest)) table)

  module _ (first store : S) (m : Meta) (p : Placement) (reads : ReadsOnly s first store)
      (honest : s.honest first) (table : IsTable (body_at s first) m (s.state first).end p) where
    there : IsTable (body_at s store) m (s.state store).end p
    there = table_after first store m p reads honest table

    pub heads_there : AreHeads (body_at s store) m (heads_of p.chains)
    heads_there = table_heads (body_at s store) m (s.state store).end p there

    -- `found` is what `head_of` says of the head that it answers
    pub chain_there : (new : S) (bucket head : ℕ) → ReadsOnly s store new
        → bucket < buckets (shape_in m)
        → ((heads : List ℕ) → AreHeads (body_at s store) m heads → bucket < length heads
        → head ≡ get_or heads bucket 0)
        → IsChainAt m.bounds.version (body_at s new) (s.state new).end head (chain_at p bucket)
    chain_there new bucket head goes_on within found =
        let later = table_after store new m p goes_on
        (still_honest s first store reads honest) there in
        let is_head = found (heads_of p.chains) heads_there
        (omega (arith, within, heads_there.many)) in
        bucket_chain_there (body_at s new) m (s.state new).end p later bucket head
        (omega (arith, within, table_buckets (body_at s first) m (s.state first).end p table))
        is_head
