-- What stands on the pages of a file is one chain: from its first page on a content has one list of
-- pages, and a record is that of one entry.
use Rattle.std.proofs.Common.{◌≡◌, ℕ, List, [], ◌∷◌, length, map, take, drop, flat_map, refl, sym, ap, ◌∙◌, arith}
use Rattle.std.specs.List.{AllByRecursion}
use Rattle.dbm_model.specs.Bounds.{Version}
use Rattle.dbm_model.specs.Pairs.{Pair}
use Rattle.page_model.specs.Bytes.{u32_at}
use Rattle.page_model.specs.Pages.{Body, ContentPage, NumberedBody, Record}
use Rattle.page_model.specs.Chain.{Entry, Chain, content_pages, record_with, record_of, entries_in, pages_of, IsEntry}
use Rattle.page_model.specs.PageBodies.{first_of, filled, content_bodies, entry_bodies, AreRead}
use Rattle.page_model.specs.Meaning.{pair_of}
use Rattle.page_model.proofs.Chains.{AllByRecursion-append, AllByRecursion-left, AllByRecursion-right}
use Rattle.page_model.proofs.GoodBodies.{IsPageNumber, number_again}
use Rattle.page_model.proofs.Joins.{pairs_again}
use Rattle.bucket_chain.specs.Chains.{ReadLeaf, leaf_read, chain_read}

-- so many content pages from one page on
pub one_pages : (at : ℕ → Body) (pages pages' content content' : List ℕ)
    → first_of pages ≡ first_of pages' → length pages ≡ length pages'
    → AreRead at (content_bodies pages content) → AreRead at (content_bodies pages' content')
    → pages ≡ pages'
one_pages at [] [] content content' first many read read' = refl
one_pages at [] (n ∷ rest) content content' first many read read' = absurd (omega (arith, many))
one_pages at (n ∷ rest) [] content content' first many read read' = absurd (omega (arith, many))
one_pages at (n ∷ rest) (m ∷ rest') content content' first many read read' =
    let here : at n ≡ ContentPage (first_of rest) (filled (take 2032 content)) = read.0 in
    let there : at n ≡ ContentPage (first_of rest') (filled (take 2032 content')) =
    ap at first ∙ read'.0 in
    let after : first_of rest ≡ first_of rest' = cc in
    let tails = one_pages at rest rest' (drop 2032 content) (drop 2032 content') after
    (omega (arith, many)) read.1 read'.1 in
    (λ i. first i ∷ tails i)

-- an entry whose content stands on its pages
pub record IsStored (version : Version) (at : ℕ → Body) (e : Entry) : Type 0 where
  pub entry : IsEntry version e
  pub numbers : AllByRecursion IsPageNumber e.pages
  pub read : AreRead at (entry_bodies e)

pub are_stored : (version : Version) (at : ℕ → Body) (entries : List Entry)
    → AllByRecursion (IsEntry version) entries → AllByRecursion IsPageNumber (pages_of entries)
    → AreRead at (flat_map entry_bodies entries) → AllByRecursion (IsStored version at) entries
are_stored version at [] is ns read = tt
are_stored version at (e ∷ entries) is ns read = (
  record {
    entry = is.0;
    numbers = AllByRecursion-left IsPageNumber e.pages (pages_of entries) ns;
    read = AllByRecursion-left (λ (b : NumberedBody). at b.number ≡ b.body) (entry_bodies e)
        (flat_map entry_bodies entries) read;
  },
  are_stored version at entries is.1
      (AllByRecursion-right IsPageNumber e.pages (pages_of entries) ns)
      (AllByRecursion-right (λ (b : NumberedBody). at b.number ≡ b.body) (entry_bodies e)
      (flat_map entry_bodies entries) read),
)

own_pair : (version : Version) (at : ℕ → Body) (e : Entry) → IsStored version at e
    → pair_of at (record_of e) ≡ e.pair
own_pair version at e is = (pairs_again at version (e ∷ []) (is.entry, tt)
    (AllByRecursion-append IsPageNumber e.pages [] is.numbers tt)
    (AllByRecursion-append (λ (b : NumberedBody). at b.number ≡ b.body) (entry_bodies e) [] is.read
    tt)).0

-- records name the first page
first_same : (pair pair' : Pair) (pages pages' : List ℕ) → length pages ≡ length pages'
    → AllByRecursion IsPageNumber pages → AllByRecursion IsPageNumber pages'
    → record_with pair pages ≡ record_with pair' pages' → first_of pages ≡ first_of pages'
first_same pair pair' [] [] many ns ns' same = refl
first_same pair pair' [] (n ∷ rest) many ns ns' same = absurd (omega (arith, many))
first_same pair pair' (n ∷ rest) [] many ns ns' same = absurd (omega (arith, many))
first_same pair pair' (n ∷ rest) (m ∷ rest') many ns ns' same =
    sym (number_again n ns.0.1) ∙ ap (λ (r : Record). u32_at r.bytes 0) same
    ∙ number_again m ns'.0.1

-- a record is that of one entry
pub one_entry : (version : Version) (at : ℕ → Body) (e e' : Entry) → IsStored version at e
    → IsStored version at e' → record_of e ≡ record_of e' → e ≡ e'
one_entry version at e e' is is' same =
    let pair : e.pair ≡ e'.pair = sym (own_pair version at e is) ∙ ap (pair_of at) same
    ∙ own_pair version at e' is' in
    let many : length e.pages ≡ length e'.pages =
    is.entry.paged ∙ ap content_pages pair ∙ sym is'.entry.paged in
    let pages : e.pages ≡ e'.pages = one_pages at e.pages e'.pages e.pair.1 e'.pair.1
    (first_same e.pair e'.pair e.pages e'.pages many is.numbers is'.numbers same) many
    is.read is'.read in
    λ i. record { pair = pair i; pages = pages i }

pub one_entries : (version : Version) (at : ℕ → Body) (entries entries' : List Entry)
    → AllByRecursion (IsStored version at) entries → AllByRecursion (IsStored version at) entries'
    → map record_of entries ≡ map record_of entries' → entries ≡ entries'
one_entries version at [] [] is is' same = refl
one_entries version at [] (e ∷ entries') is is' same = absurd (cc)
one_entries version at (e ∷ entries) [] is is' same = absurd (cc)
one_entries version at (e ∷ entries) (e' ∷ entries') is is' same =
    let first : record_of e ≡ record_of e' = cc in
    let rest : map record_of entries ≡ map record_of entries' = cc in
    let here = one_entry version at e e' is.0 is'.0 first in
    let tails = one_entries version at entries entries' is.1 is'.1 rest in
    λ i. here i ∷ tails i

-- pages that are read are those of one chain
pub one_chain : (version : Version) (at : ℕ → Body) (chain chain' : Chain)
    → AllByRecursion (IsStored version at) (entries_in chain)
    → AllByRecursion (IsStored version at) (entries_in chain')
    → chain_read chain ≡ chain_read chain' → chain ≡ chain'
one_chain version at [] [] is is' same = refl
one_chain version at [] (leaf ∷ rest) is is' same = absurd (cc)
one_chain version at (leaf ∷ rest) [] is is' same = absurd (cc)
one_chain version at (leaf ∷ rest) (leaf' ∷ rest') is is' same =
    let first : leaf_read leaf ≡ leaf_read leaf' = cc in
    let later : chain_read rest ≡ chain_read rest' = cc in
    let number : leaf.number ≡ leaf'.number = ap (λ (l : ReadLeaf). l.number) first in
    let entries : leaf.entries ≡ leaf'.entries = one_entries version at leaf.entries leaf'.entries
    (AllByRecursion-left (IsStored version at) leaf.entries (entries_in rest) is)
    (AllByRecursion-left (IsStored version at) leaf'.entries (entries_in rest') is')
    (ap (λ (l : ReadLeaf). l.records) first) in
    let here : leaf ≡ leaf' = (λ i. record { number = number i; entries = entries i }) in
    let tails = one_chain version at rest rest'
    (AllByRecursion-right (IsStored version at) leaf.entries (entries_in rest) is)
    (AllByRecursion-right (IsStored version at) leaf'.entries (entries_in rest') is') later in
    λ i. here i ∷ tails i
