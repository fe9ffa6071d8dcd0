-- The chains of the heads on a segment page, as far as they were read.
use Rattle.std.proofs.Common.{◌≡◌, inl, inr, ℕ, ◌+◌, ◌-◌, ◌*◌, ◌^◌, ◌<◌, ◌≤◌, min, Bool, List, [], ◌∷◌, ◌++◌, length, flat_map, get_or, take, drop, refl, sym, ap, ◌∙◌, subst, arith, append_assoc, append-nil, length-append}
use Rattle.std.specs.List.{AllByRecursion}
use Rattle.std.proofs.lemmas.Bool.{cases_lt}
use Rattle.std.proofs.lemmas.List.{take_all, take_more, take-append-drop, map-append}
use Rattle.std.proofs.lemmas.List.Concat.{flat_map-append}
use Rattle.page_model.specs.Bytes.{u32_at}
use Rattle.page_model.specs.Pages as model
use Rattle.page_model.specs.Pages.{Body}
use Rattle.page_model.specs.Chain.{Chain, numbers, pages_in, IsChain}
use Rattle.page_model.specs.PageBodies.{first_of, heads_of}
use Rattle.page_model.proofs.Chains.{AllByRecursion-append}
use Rattle.file_check.specs.Marks.{AreMarked, MayBeSeen}
use Rattle.file_check.proofs.Seen.{may_front, are_seen}
use Rattle.file_check.specs.BucketChains.{IsBucketChain, IsChecked}
use Rattle.file_check.specs.Segments.{shape_in, AreCounted, AreHeadChains, AreHeadsChecked}
use Rattle.file_check.proofs.ChainReads.{get_or-front, get_or-behind, chains_behind, no_chains, one_chain, counted_behind, none_counted, one_counted, chain_same}

-- ---- chains that are found

pub no_heads : (at : ℕ → Body) (end : ℕ) (m : model.Meta) (bytes : List ℕ) (first : ℕ)
    (marks : List Bool) (seen : List ℕ) → AreMarked marks end seen
    → AreHeadsChecked at end m bytes first 0 0 marks seen
no_heads at end m bytes first marks seen are = record {
  chains = [];
  are = record {
    many = refl;
    heads = λ i lt. absurd (omega arith);
    are = no_chains at m first;
  };
  some = tt;
  counted = none_counted end marks seen are;
}

-- the head of a chain that was read isn't 0
head_some : (chain : Chain) → IsChain chain → AllByRecursion (λ leaf. 1 ≤ leaf.number) chain
    → 0 < first_of (numbers chain)
head_some [] is some = absurd is
head_some (leaf ∷ rest) is some = omega (arith, some.0)

heads_more : (bytes : List ℕ) (chains : List Chain) (chain : Chain) (head : ℕ)
    → ((i : ℕ) → i < length chains
    → u32_at bytes (16 + 4 * i) ≡ first_of (numbers (get_or chains i [])))
    → head ≡ u32_at bytes (16 + 4 * length chains) → head ≡ first_of (numbers chain)
    → (i : ℕ) → i < length (chains ++ chain ∷ [])
    → u32_at bytes (16 + 4 * i) ≡ first_of (numbers (get_or (chains ++ chain ∷ []) i []))
heads_more bytes chains chain head heads e f i lt = elim (cases_lt i (length chains)) [
  | inl within ↦ heads i within ∙ ap (λ (c : Chain). first_of (numbers c))
      (sym (get_or-front chains (chain ∷ []) i [] within))
  | inr behind ↦
      let last : i ≡ length chains = omega (arith, behind, lt, length-append chains (chain ∷ [])) in
      let there : i ≡ length chains + 0 = omega (arith, last) in
      ap (λ (k : ℕ). u32_at bytes (16 + 4 * k)) last ∙ sym e ∙ f
      ∙ ap (λ (c : Chain). first_of (numbers c))
      (sym (get_or-behind chains (chain ∷ []) i 0 [] there))
]

pub more_heads : (at : ℕ → Body) (end : ℕ) (m : model.Meta) (bytes : List ℕ)
    (first i pairs more sum head : ℕ) (marks marks' : List Bool) (seen : List ℕ)
    → AreHeadsChecked at end m bytes first i pairs marks seen
    → head ≡ u32_at bytes (16 + 4 * i)
    → ((seen : List ℕ) → AreMarked marks end seen
    → IsChecked m.bounds.version at end (shape_in m) (first + i) head more marks' seen)
    → sum ≡ min (pairs + more) (2 ^ 32 - 1)
    → AreHeadsChecked at end m bytes first (i + 1) sum marks' seen
more_heads at end m bytes first i pairs more sum head marks marks' seen is here check count =
    let chains = is.chains in
    let next = check (seen ++ flat_map pages_in chains) is.counted.marked in
    let chain = next.chain in
    let many = is.are.many in
    let head-is : head ≡ u32_at bytes (16 + 4 * length chains) =
    here ∙ ap (λ (k : ℕ). u32_at bytes (16 + 4 * k)) (sym many) in
    let place : first + i ≡ first + length chains = omega (arith, many) in
    record {
      chains = chains ++ chain ∷ [];
      are = record {
        many = omega (arith, many, length-append chains (chain ∷ []));
        heads = heads_more bytes chains chain head is.are.heads head-is next.is.from;
        are = chains_behind at m first (first + i) chains (chain ∷ []) is.are.are
            (one_chain at m (first + i) (first + i) head chain next.is refl) place;
      };
      some = subst (AllByRecursion (λ (h : ℕ). 0 < h))
          (sym (map-append (λ (c : Chain). first_of (numbers c)) chains (chain ∷ [])))
          (AllByRecursion-append (λ (h : ℕ). 0 < h) (heads_of chains) (heads_of
          (chain ∷ [])) is.some
          (head_some chain next.is.is_chain next.numbered, tt));
      counted = counted_behind chains (chain ∷ []) end pairs more sum marks marks' seen is.counted
          (one_counted chain end more marks'
          (seen ++ flat_map pages_in chains) next.many next.marked)
          count;
    }

-- ---- chains that are given

flat_more : (chains : List Chain) (i : ℕ) → i < length chains
    → flat_map pages_in (take (i + 1) chains)
    ≡ flat_map pages_in (take i chains) ++ pages_in (get_or chains i [])
flat_more chains i lt =
    ap (flat_map pages_in) (take_more chains i [] lt)
    ∙ flat_map-append pages_in (take i chains) (get_or chains i [] ∷ [])
    ∙ ap (λ (ns : List ℕ). flat_map pages_in (take i chains) ++ ns)
    (append-nil (pages_in (get_or chains i [])))

-- the pages of the first chains
pub may_chains : (end : ℕ) (seen : List ℕ) (chains : List Chain) (k : ℕ)
    → MayBeSeen end (seen ++ flat_map pages_in chains)
    → MayBeSeen end (seen ++ flat_map pages_in (take k chains))
may_chains end seen chains k may =
    may_front end (seen ++ flat_map pages_in (take k chains)) (flat_map pages_in (drop k chains))
    (subst (MayBeSeen end)
    (ap (λ (cs : List Chain). seen ++ flat_map pages_in cs) (sym (take-append-drop k chains))
    ∙ ap (λ (ns : List ℕ). seen ++ ns) (flat_map-append pages_in (take k chains) (drop k chains))
    ∙ sym
    (append_assoc seen (flat_map pages_in (take k chains)) (flat_map pages_in (drop k chains))))
    may)

pub may_chain : (end : ℕ) (seen : List ℕ) (chains : List Chain) (i : ℕ) → i < length chains
    → MayBeSeen end (seen ++ flat_map pages_in chains)
    → MayBeSeen end ((seen ++ flat_map pages_in (take i chains)) ++ pages_in (get_or chains i []))
may_chain end seen chains i lt may =
    subst (MayBeSeen end)
    (ap (λ (ns : List ℕ). seen ++ ns) (flat_more chains i lt)
    ∙ sym (append_assoc seen (flat_map pages_in (take i chains)) (pages_in (get_or chains i []))))
    (may_chains end seen chains (i + 1) may)

-- chain i of them
pub chain_there : (at : ℕ → Body) (m : model.Meta) (bytes : List ℕ) (first count i head : ℕ)
    (chains : List Chain) → AreHeadChains at m bytes first count chains → i < count
    → head ≡ u32_at bytes (16 + 4 * i)
    → IsBucketChain m.bounds.version at (shape_in m) (first + i) head (get_or chains i [])
chain_there at m bytes first count i head chains is lt here =
    let within : i < length chains = omega (arith, lt, is.many) in
    subst (λ (h : ℕ). IsBucketChain m.bounds.version at (shape_in m) (first + i) h
    (get_or chains i []))
    (sym (here ∙ is.heads i within)) (is.are i within)

pub more_exact : (at : ℕ → Body) (end : ℕ) (m : model.Meta) (bytes : List ℕ)
    (first count i pairs more sum head : ℕ) (marks marks' : List Bool) (seen : List ℕ)
    (chains : List Chain) → end ≤ 2 ^ 32 → AreHeadChains at m bytes first count chains
    → MayBeSeen end (seen ++ flat_map pages_in chains) → i < count
    → AreCounted (take i chains) end pairs marks seen → head ≡ u32_at bytes (16 + 4 * i)
    → ((seen : List ℕ) → AreMarked marks end seen
    → IsChecked m.bounds.version at end (shape_in m) (first + i) head more marks' seen)
    → sum ≡ min (pairs + more) (2 ^ 32 - 1) → AreCounted (take (i + 1) chains) end sum marks' seen
more_exact at end m bytes first count i pairs more sum head marks marks' seen chains small is may
    lt before here check total =
    let front = take i chains in
    let chain = get_or chains i [] in
    let within : i < length chains = omega (arith, lt, is.many) in
    let next = check (seen ++ flat_map pages_in front) before.marked in
    let same : next.chain ≡ chain = chain_same m.bounds.version at end (shape_in m) (first + i) head
    (seen ++ flat_map pages_in front) (seen ++ flat_map pages_in front) next.chain chain small
    next.is (chain_there at m bytes first count i head chains is lt here)
    (are_seen marks' end ((seen ++ flat_map pages_in front) ++ pages_in next.chain) next.marked)
    (may_chain end seen chains i within may) in
    let one = one_counted next.chain end more marks' (seen ++ flat_map pages_in front) next.many
    next.marked in
    subst (λ (cs : List Chain). AreCounted cs end sum marks' seen)
    (ap (λ (c : Chain). front ++ c ∷ []) same ∙ sym (take_more chains i [] within))
    (counted_behind front (next.chain ∷ []) end pairs more sum marks marks' seen before one total)

pub all_exact : (at : ℕ → Body) (end : ℕ) (m : model.Meta) (bytes : List ℕ)
    (first count i pairs : ℕ) (marks : List Bool) (seen : List ℕ) (chains : List Chain)
    → AreHeadChains at m bytes first count chains → i ≡ count
    → AreCounted (take i chains) end pairs marks seen → AreCounted chains end pairs marks seen
all_exact at end m bytes first count i pairs marks seen chains is all counted =
    subst (λ (cs : List Chain). AreCounted cs end pairs marks seen)
    (take_all i chains (omega (arith, is.many, all))) counted
