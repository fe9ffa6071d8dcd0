-- Where a key's record was taken out, on any file.
use Rattle.std.proofs.Common.{◌≡◌, ◌⊎◌, inl, inr, ℕ, zero, suc, ◌≤◌, ◌<◌, ◌==◌, Bool, true, false, cond, List, [], ◌∷◌, ◌++◌, length, sym, ap, ◌∙◌, subst, arith, append_assoc}
use Rattle.std.specs.Prelude.{remove as remove_at}
use Rattle.std.specs.List.{AllByRecursion}
use Rattle.std.proofs.lemmas.List.Edits.{length-remove}
use Rattle.dbm_model.specs.Bounds.{Version}
use Rattle.dbm_model.specs.Pairs.{Key}
use Rattle.page_model.specs.Pages.{Body, Record, HeadPage, OverflowPage, Bucket}
use Rattle.page_model.specs.Valid.{IsOf}
use Rattle.page_model.specs.Reading.{body_of}
use Rattle.page_model.specs.Chain.{Chain}
use Rattle.page_model.proofs.Chains.{AllByRecursion-left, AllByRecursion-right}
use Rattle.page_io.specs.BucketPages.{page_records}
use Rattle.slot_page.specs.Contents.{HasRecords, HasKeyAt, with_records}
use Rattle.bucket_chain.specs.Links.{link_body, IsLink, SaysLink}
use Rattle.bucket_chain.specs.Chains.{ReadLeaf, ReadChain, chain_read, IsChainAt, AreLinked, BeginsAt, kind_behind}
use Rattle.bucket_chain.proofs.LinkBodies.{says_link}
use Rattle.bucket_chain.proofs.Walks.{AreLinks, IsSplit, IsReadAs, read_as, begins_same, links_behind, kind_same}
use Rattle.bucket_chain.specs.Hits.{IsLast, IsHit, IsRelinked}
use Rattle.bucket_chain.specs.AnyFile.{IsTakenFrom, IsTakenWith}
use Rattle.bucket_chain.specs.declared.removes.Hit.{Hit}
use Rattle.bucket_chain.proofs.LinkedPages.{kinds_behind}

pub all_remove : {X : Type 0} (P : X → Type 0) (xs : List X) (i : ℕ) → AllByRecursion P xs
    → AllByRecursion P (remove_at xs i)
all_remove P [] zero all = tt
all_remove P [] (suc i) all = tt
all_remove P (x ∷ xs) zero all = all.1
all_remove P (x ∷ xs) (suc i) all = (all.0, all_remove P xs i all.1)

-- the page without a record, which isn't its last or is the head's
pub link_without : (version : Version) (old new : List ℕ) (n kind next i : ℕ)
    → IsLink version old n kind next (page_records old)
    → HasRecords old new (remove_at (page_records old) i) → i < length (page_records old)
    → (kind ≡ 4 → 2 ≤ length (page_records old))
    → IsLink version new n kind next (remove_at (page_records old) i)
link_without version old new n kind next i link holds within two = record {
  page = record {
    page = holds.page;
    of_version = subst (λ (b : Bucket). AllByRecursion (IsOf version) b.held) (sym holds.says)
        (all_remove (IsOf version) (page_records old) i link.page.of_version);
  };
  says = holds.says
      ∙ ap (λ (b : Bucket). with_records b (remove_at (page_records old) i)) link.says;
  filled = λ four. omega (arith, two four, length-remove (page_records old) i within);
}

-- a page has one list of records
same_records : (kind kind' next next' : ℕ) (records records' : List Record)
    → link_body kind next records ≡ link_body kind' next' records' → records ≡ records'
same_records kind kind' next next' records records' = by_kinds (kind == 3) (kind' == 3)
  where
    by_kinds : (head head' : Bool)
        → cond head (HeadPage next records) (OverflowPage next records)
        ≡ cond head' (HeadPage next' records') (OverflowPage next' records') → records ≡ records'
    by_kinds true true e = cc
    by_kinds true false e = absurd (cc)
    by_kinds false true e = absurd (cc)
    by_kinds false false e = cc

-- the last page that was read, and the one before it
linked_last : (at : ℕ → Body) (rest : ReadChain) (prior leaf : ReadLeaf) (next : ℕ)
    → AreLinked at (rest ++ prior ∷ leaf ∷ []) next
    → (at prior.number ≡ OverflowPage leaf.number prior.records)
    × (at leaf.number ≡ OverflowPage next leaf.records)
linked_last at [] prior leaf next linked = (linked.0, linked.2.0)
linked_last at (first ∷ rest) prior leaf next linked = linked_last at rest prior leaf next linked.2

pub last_say : (at : ℕ → Body) (head : ℕ) (front : ReadChain) (prior leaf : ReadLeaf) (next : ℕ)
    → BeginsAt at head (front ++ prior ∷ leaf ∷ []) next
    → (at prior.number ≡ link_body (kind_behind front) leaf.number prior.records)
    × (at leaf.number ≡ OverflowPage next leaf.records)
last_say at head [] prior leaf next begins = (ap at begins.0 ∙ begins.1, begins.2.0)
last_say at head (first ∷ rest) prior leaf next begins =
    linked_last at rest prior leaf next begins.2

-- a page that can be linked anew
pub record IsPage (version : Version) (at : ℕ → Body) (n kind : ℕ) : Type 0 where
  pub next : ℕ
  pub records : List Record
  pub link : SaysLink version at n kind next records

module _ (version : Version) (old : ℕ → Body) (head : ℕ) (key : Key) (bytes : List ℕ) (hit : Hit)
    (found : IsHit version old head key bytes hit) where
  -- a page with none before it is the head
  first_or_more : (hit.prior ≡ 0) ⊎ (2 ≤ length (page_records bytes))
      → kind_behind found.walked.walk.before ≡ 4 → 2 ≤ length (page_records bytes)
  first_or_more why four = elim why [
    | inl none ↦ absurd (elim found.prior [
      | inl first ↦ omega (arith, four, ap kind_behind first.0)
      | inr last ↦ let numbered = AllByRecursion-right (λ (l : ReadLeaf). 1 ≤ l.number) last.front
          (last.leaf ∷ []) (subst (AllByRecursion (λ (l : ReadLeaf). 1 ≤ l.number)) last.parts
          (AllByRecursion-left (λ (l : ReadLeaf). 1 ≤ l.number) found.walked.walk.before
          (found.walked.walk.leaf ∷ []) found.walked.numbered)) in
          omega (arith, numbered.0, last.number, none)
    ])
    | inr two ↦ two
  ]

  -- its page keeps a record, or is the head
  pub taken_from : (new : ℕ → Body) (left : List ℕ)
      → (hit.prior ≡ 0) ⊎ (2 ≤ length (page_records bytes)) → new hit.page ≡ body_of hit.page left
      → HasRecords bytes left (remove_at (page_records bytes) hit.slot)
      → ((m : ℕ) → (m ≡ hit.page → ⊥) → new m ≡ old m)
      → IsTakenFrom version old new hit.slot found.walked.walk.before found.walked.walk.leaf
      found.walked.walk.after
  taken_from new left why read holds others =
      let walk = found.walked.walk in
      let at = walk.last in
      let kind = kind_behind walk.before in
      let link = link_without version bytes left hit.page kind hit.next hit.slot found.link holds
      (subst (λ (rs : List Record). HasKeyAt key rs hit.slot) (sym at.records) at.has).0
      (first_or_more why) in
      let says = says_link version new left hit.page kind hit.next
      (remove_at (page_records bytes) hit.slot) read (kinds_behind walk.before) link in
      record {
        says = subst (λ (n : ℕ). SaysLink version new n kind walk.after
            (remove_at walk.leaf.records hit.slot)) at.number
            (subst (λ (n : ℕ). SaysLink version new hit.page kind n
            (remove_at walk.leaf.records hit.slot)) at.next
            (subst (λ (rs : List Record). SaysLink version new hit.page kind hit.next
            (remove_at rs hit.slot)) at.records says));
        others = λ m other. others m (λ e. other (e ∙ at.number));
      }

  -- the page before it is one of the chain
  pub prior_says : (most : ℕ) (chain : Chain) → IsChainAt version old most head chain
      → (hit.prior ≡ 0 → ⊥) → IsPage version old hit.prior hit.prior_kind
  prior_says most chain is some = elim found.prior [
    | inl first ↦ absurd (some first.1)
    | inr last ↦
        (let walk = found.walked.walk in
        let read : IsReadAs version old most head (chain_read chain) =
        read_as version old most head chain is in
        let split : IsSplit (chain_read chain) (walk.before ++ walk.leaf ∷ []) walk.after =
        begins_same version old most head (walk.before ++ walk.leaf ∷ []) (chain_read chain)
        walk.after walk.are_read found.walked.numbered read in
        let parts : chain_read chain ≡ last.front ++ last.leaf ∷ walk.leaf ∷ split.later =
        split.parts ∙ append_assoc walk.before (walk.leaf ∷ []) split.later
        ∙ ap (λ (c : ReadChain). c ++ walk.leaf ∷ split.later) last.parts
        ∙ append_assoc last.front (last.leaf ∷ []) (walk.leaf ∷ split.later) in
        let links = links_behind version old 3 last.front (last.leaf ∷ walk.leaf ∷ split.later)
        (subst (AreLinks version old 3) parts read.links) in
        record {
          next = walk.leaf.number;
          records = last.leaf.records;
          link = subst (λ (n : ℕ). SaysLink version old n hit.prior_kind walk.leaf.number
              last.leaf.records) (sym last.number)
              (subst (λ (k : ℕ). SaysLink version old last.leaf.number k walk.leaf.number
              last.leaf.records) (kind_same last.front ∙ sym last.kind_is) links.0);
        })
  ]

  -- its page leaves the chain
  pub taken_with : (new : ℕ → Body) → (hit.prior ≡ 0 → ⊥) → length (page_records bytes) ≡ 1
      → IsRelinked version old new hit.prior hit.prior_kind hit.next
      → ((m : ℕ) → (m ≡ hit.prior → ⊥) → new m ≡ old m)
      → IsTakenWith old new found.walked.walk.before found.walked.walk.leaf
      found.walked.walk.after
  taken_with new some one linked others = elim found.prior [
    | inl first ↦ absurd (some first.1)
    | inr last ↦ by_last last
  ]
    where
      by_last : IsLast found.walked.walk.before hit.prior hit.prior_kind
          → IsTakenWith old new found.walked.walk.before found.walked.walk.leaf
          found.walked.walk.after
      by_last last =
          let walk = found.walked.walk in
          let at = walk.last in
          let prior = last.leaf in
          let joined : walk.before ++ walk.leaf ∷ [] ≡ last.front ++ prior ∷ walk.leaf ∷ [] =
          ap (λ (c : ReadChain). c ++ walk.leaf ∷ []) last.parts
          ∙ append_assoc last.front (prior ∷ []) (walk.leaf ∷ []) in
          let both = last_say old head last.front prior walk.leaf walk.after
          (subst (λ (c : ReadChain). BeginsAt old head c walk.after) joined walk.are_read) in
          let records : linked.records ≡ prior.records =
          same_records hit.prior_kind (kind_behind last.front) linked.old_next walk.leaf.number
          linked.records prior.records (sym linked.was.says ∙ ap old last.number ∙ both.0) in
          record {
            front = last.front;
            prior = prior;
            parts = last.parts;
            alone = sym (ap length at.records) ∙ one;
            named = ap new (sym last.number) ∙ linked.says.says
                ∙ (λ i. link_body (last.kind_is i) (at.next i) (records i));
            others = λ m not_prior. others m (λ e. not_prior (e ∙ last.number));
          }
