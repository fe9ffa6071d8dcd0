-- The contents of a chain's entries, and the parts of a chain that was read.
use Rattle.std.proofs.Common.{◌≡◌, ℕ, ◌≤◌, List, [], ◌∷◌, ◌++◌, map, flat_map, refl, ap, subst, arith}
use Rattle.std.specs.List.{AllByRecursion}
use Rattle.page_model.specs.Pages.{Body, NumberedBody}
use Rattle.page_model.specs.Chain.{Leaf, Chain, Entry, pages_of}
use Rattle.page_model.specs.Space.{times_of}
use Rattle.page_model.specs.PageBodies.{content_bodies, entry_bodies, AreRead}
use Rattle.page_model.proofs.Chains.{AllByRecursion-append, AllByRecursion-left, AllByRecursion-right}
use Rattle.page_model.proofs.Frames.{kept}
use Rattle.content_pages.proofs.PageCounts.{times_both}
use Rattle.bucket_chain.specs.Chains.{ReadLeaf, ReadChain, leaf_read, chain_read}

abbrev Says : (ℕ → Body) → NumberedBody → Type 0
Says at b = at b.number ≡ b.body

-- the contents of all entries are those of each
pub contents_each : (at : ℕ → Body) (entries : List Entry)
    → AreRead at (flat_map entry_bodies entries)
    → AllByRecursion (λ e. AreRead at (entry_bodies e)) entries
contents_each at [] read = tt
contents_each at (e ∷ entries) read = (
  AllByRecursion-left (Says at) (entry_bodies e) (flat_map entry_bodies entries) read,
  contents_each at entries
      (AllByRecursion-right (Says at) (entry_bodies e) (flat_map entry_bodies entries) read),
)

pub contents_all : (at : ℕ → Body) (entries : List Entry)
    → AllByRecursion (λ e. AreRead at (entry_bodies e)) entries
    → AreRead at (flat_map entry_bodies entries)
contents_all at [] read = tt
contents_all at (e ∷ entries) read =
    AllByRecursion-append (Says at) (entry_bodies e) (flat_map entry_bodies entries) read.0
    (contents_all at entries read.1)

content_numbers : (pages content : List ℕ)
    → map (λ (b : NumberedBody). b.number) (content_bodies pages content) ≡ pages
content_numbers [] content = refl
content_numbers (n ∷ pages) content =
    ap (λ (ns : List ℕ). n ∷ ns) (content_numbers pages _)

-- they stay while their pages do
pub contents_kept : (at at' : ℕ → Body) (entries : List Entry)
    → ((n : ℕ) → 1 ≤ times_of n (pages_of entries) → at' n ≡ at n)
    → AllByRecursion (λ e. AreRead at (entry_bodies e)) entries
    → AllByRecursion (λ e. AreRead at' (entry_bodies e)) entries
contents_kept at at' [] same read = tt
contents_kept at at' (e ∷ entries) same read = (
  kept at at' (entry_bodies e)
      (λ n stands. same n (omega (
        arith,
        times_both n e.pages (pages_of entries),
        subst (λ (ns : List ℕ). 1 ≤ times_of n ns) (content_numbers e.pages e.pair.1) stands,
      ))) read.0,
  contents_kept at at' entries
      (λ n stands. same n (omega (arith, times_both n e.pages (pages_of entries), stands))) read.1,
)

-- a page among those that were read is one of the chain
pub record AreParts (chain : Chain) (before : ReadChain) (leaf : ReadLeaf)
    (behind : ReadChain) : Type 0 where
  pub front : Chain
  pub page : Leaf
  pub later : Chain
  pub parts : chain ≡ front ++ page ∷ later
  pub front_read : chain_read front ≡ before
  pub page_read : leaf_read page ≡ leaf
  pub later_read : chain_read later ≡ behind

pub parts_of : (chain : Chain) (before : ReadChain) (leaf : ReadLeaf) (behind : ReadChain)
    → chain_read chain ≡ before ++ leaf ∷ behind → AreParts chain before leaf behind
parts_of [] [] leaf behind e = absurd (cc)
parts_of [] (first ∷ before) leaf behind e = absurd (cc)
parts_of (page ∷ later) [] leaf behind e = record {
  front = [];
  page = page;
  later = later;
  parts = refl;
  front_read = refl;
  page_read = cc;
  later_read = cc;
}
parts_of (one ∷ chain) (first ∷ before) leaf behind e =
    let same : leaf_read one ≡ first = cc in
    let rest : chain_read chain ≡ before ++ leaf ∷ behind = cc in
    let there = parts_of chain before leaf behind rest in
    record {
      front = one ∷ there.front;
      page = there.page;
      later = there.later;
      parts = ap (λ (c : Chain). one ∷ c) there.parts;
      front_read = λ i. same i ∷ there.front_read i;
      page_read = there.page_read;
      later_read = there.later_read;
    }
