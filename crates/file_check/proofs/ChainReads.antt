-- The chains of a segment, as far as they were read.
use Rattle.std.proofs.Common.{◌≡◌, inl, inr, ℕ, zero, suc, ◌+◌, ◌-◌, ◌^◌, ◌<◌, ◌≤◌, min, Bool, List, [], ◌∷◌, ◌++◌, length, map, flat_map, get_or, refl, sym, ap, ◌∙◌, subst, arith, append_assoc, append-nil, length-append}
use Rattle.std.specs.List.{AllByRecursion}
use Rattle.std.proofs.lemmas.Bool.{cases_lt}
use Rattle.std.proofs.lemmas.List.Concat.{flat_map-append}
use Rattle.dbm_model.specs.Pairs.{Pair}
use Rattle.dbm_model.specs.Bounds.{Version}
use Rattle.page_model.specs.Address.{Shape}
use Rattle.page_model.specs.Pages as model
use Rattle.page_model.specs.Pages.{Body, HeadPage, OverflowPage, NumberedBody}
use Rattle.page_model.specs.Chain.{Chain, IsChain, numbers, record_of, entries_in, pages_in, pairs_in}
use Rattle.page_model.specs.PageBodies.{first_of, heads_of, leaf_bodies, overflow_bodies, entry_bodies, AreRead}
use Rattle.page_model.proofs.Chains.{AllByRecursion-left}
use Rattle.file_check.specs.Marks.{AreMarked, MayBeSeen}
use Rattle.bucket_chain.specs.Chains.{chain_read}
use Rattle.file_check.specs.BucketChains.{IsBucketChain}
use Rattle.file_check.proofs.GoodChains.{stored}
use Rattle.file_check.proofs.OneChain.{one_chain as one_reading}
use Rattle.file_check.proofs.SeenPages.{numbered_in}
use Rattle.file_check.specs.Segments.{shape_in, AreChains, AreCounted}

-- ---- numbers

-- a sum that stops at its highest number
pub capped_sum : (a b n m sum : ℕ) → a ≡ min n (2 ^ 32 - 1) → b ≡ min m (2 ^ 32 - 1)
    → sum ≡ min (a + b) (2 ^ 32 - 1) → sum ≡ min (n + m) (2 ^ 32 - 1)
capped_sum a b n m sum p q r = omega (arith, p, q, r)

-- ---- heads

pub length-heads : (chains : List Chain) → length (heads_of chains) ≡ length chains
length-heads [] = refl
length-heads (chain ∷ chains) = ap suc (length-heads chains)

-- ---- one chain more

pub get_or-front : {X : Type 0} (xs ys : List X) (i : ℕ) (d : X) → i < length xs
    → get_or (xs ++ ys) i d ≡ get_or xs i d
get_or-front [] ys i d lt = absurd (omega arith)
get_or-front (x ∷ xs) ys zero d lt = refl
get_or-front (x ∷ xs) ys (suc i) d lt = get_or-front xs ys i d (omega arith)

pub get_or-behind : {X : Type 0} (xs ys : List X) (i j : ℕ) (d : X) → i ≡ length xs + j
    → get_or (xs ++ ys) i d ≡ get_or ys j d
get_or-behind [] ys i j d e = ap (λ (k : ℕ). get_or ys k d) (let same : i ≡ j = omega arith in same)
get_or-behind (x ∷ xs) ys zero j d e = absurd (omega arith)
get_or-behind (x ∷ xs) ys (suc i) j d e = get_or-behind xs ys i j d (omega arith)

-- chains behind others
pub chains_behind : (at : ℕ → Body) (m : model.Meta) (first next : ℕ) (chains more : List Chain)
    → AreChains at m first chains → AreChains at m next more
    → next ≡ first + length chains → AreChains at m first (chains ++ more)
chains_behind at m first next chains more are others e i lt =
    let IsAt = λ (c : Chain). IsBucketChain m.bounds.version at (shape_in m) (first + i)
    (first_of (numbers c)) c in
    elim (cases_lt i (length chains)) [
      | inl within ↦ subst IsAt (sym (get_or-front chains more i [] within)) (are i within)
      | inr behind ↦
          let j = i - length chains in
          let there : i ≡ length chains + j = omega (arith, behind) in
          let place : next + j ≡ first + i = omega (arith, behind, e) in
          let is = others j (omega (arith, behind, lt, length-append chains more)) in
          subst IsAt (sym (get_or-behind chains more i j [] there))
          (subst (λ (b : ℕ). IsBucketChain m.bounds.version at (shape_in m) b
          (first_of (numbers (get_or more j []))) (get_or more j [])) place is)
    ]

pub no_chains : (at : ℕ → Body) (m : model.Meta) (first : ℕ) → AreChains at m first []
no_chains at m first i lt = absurd (omega arith)

pub one_chain : (at : ℕ → Body) (m : model.Meta) (first bucket head : ℕ) (chain : Chain)
    → IsBucketChain m.bounds.version at (shape_in m) bucket head chain → bucket ≡ first
    → AreChains at m first (chain ∷ [])
one_chain at m first bucket head chain is e zero lt =
    subst (λ (h : ℕ). IsBucketChain m.bounds.version at (shape_in m) (first + 0) h chain) is.from
    (subst (λ (b : ℕ). IsBucketChain m.bounds.version at (shape_in m) b head chain)
    (let same : bucket ≡ first + 0 = omega arith in same) is)
one_chain at m first bucket head chain is e (suc i) lt = absurd (omega arith)

-- what is counted and marked of chains behind others
pub counted_behind : (chains more : List Chain) (end pairs others sum : ℕ)
    (marks marks' : List Bool)
    (seen : List ℕ) → AreCounted chains end pairs marks seen
    → AreCounted more end others marks' (seen ++ flat_map pages_in chains)
    → sum ≡ min (pairs + others) (2 ^ 32 - 1) → AreCounted (chains ++ more) end sum marks' seen
counted_behind chains more end pairs others sum marks marks' seen front behind is =
    let count : length (flat_map pairs_in (chains ++ more))
    ≡ length (flat_map pairs_in chains) + length (flat_map pairs_in more) =
    ap length (flat_map-append pairs_in chains more)
    ∙ length-append (flat_map pairs_in chains) (flat_map pairs_in more) in
    record {
      counted = capped_sum pairs others (length (flat_map pairs_in chains))
          (length (flat_map pairs_in more)) sum front.counted behind.counted is
          ∙ ap (λ (n : ℕ). min n (2 ^ 32 - 1)) (sym count);
      marked = subst (AreMarked marks' end)
          (append_assoc seen (flat_map pages_in chains) (flat_map pages_in more)
          ∙ ap (λ (ns : List ℕ). seen ++ ns) (sym (flat_map-append pages_in chains more)))
          behind.marked;
    }

pub none_counted : (end : ℕ) (marks : List Bool) (seen : List ℕ) → AreMarked marks end seen
    → AreCounted [] end 0 marks seen
none_counted end marks seen are = record {
  counted = omega arith;
  marked = subst (AreMarked marks end) (sym (append-nil seen)) are;
}

pub one_counted : (chain : Chain) (end pairs : ℕ) (marks : List Bool) (seen : List ℕ)
    → pairs ≡ min (length (pairs_in chain)) (2 ^ 32 - 1)
    → AreMarked marks end (seen ++ pages_in chain) → AreCounted (chain ∷ []) end pairs marks seen
one_counted chain end pairs marks seen count are = record {
  counted = count ∙ ap (λ (ps : List Pair). min (length ps) (2 ^ 32 - 1))
      (sym (append-nil (pairs_in chain)));
  marked = subst (λ (ns : List ℕ). AreMarked marks end (seen ++ ns))
      (sym (append-nil (pages_in chain))) are;
}

-- ---- one reading

-- from one head page the pages say one chain
overflow_same : (at : ℕ → Body) (xs ys : Chain) → AllByRecursion (λ leaf. 1 ≤ leaf.number) xs
    → AllByRecursion (λ leaf. 1 ≤ leaf.number) ys → first_of (numbers xs) ≡ first_of (numbers ys)
    → AreRead at (overflow_bodies xs) → AreRead at (overflow_bodies ys)
    → chain_read xs ≡ chain_read ys
overflow_same at [] [] some others e read again = refl
overflow_same at [] (y ∷ ys) some others e read again = absurd (omega (arith, others.0, e))
overflow_same at (x ∷ xs) [] some others e read again = absurd (omega (arith, some.0, e))
overflow_same at (x ∷ xs) (y ∷ ys) some others e read again =
    let bodies : OverflowPage (first_of (numbers xs)) (map record_of x.entries)
    ≡ OverflowPage (first_of (numbers ys)) (map record_of y.entries) =
    sym read.0 ∙ ap at e ∙ again.0 in
    let records : map record_of x.entries ≡ map record_of y.entries = cc in
    let next : first_of (numbers xs) ≡ first_of (numbers ys) = cc in
    let rest = overflow_same at xs ys some.1 others.1 next read.1 again.1 in
    λ i. record { number = e i; records = records i } ∷ rest i

leaves_same : (at : ℕ → Body) (xs ys : Chain) → IsChain xs → IsChain ys
    → AllByRecursion (λ leaf. 1 ≤ leaf.number) xs → AllByRecursion (λ leaf. 1 ≤ leaf.number) ys
    → first_of (numbers xs) ≡ first_of (numbers ys) → AreRead at (leaf_bodies xs)
    → AreRead at (leaf_bodies ys) → chain_read xs ≡ chain_read ys
leaves_same at [] ys is others some more e read again = absurd is
leaves_same at (x ∷ xs) [] is others some more e read again = absurd others
leaves_same at (x ∷ xs) (y ∷ ys) is others some more e read again =
    let bodies : HeadPage (first_of (numbers xs)) (map record_of x.entries)
    ≡ HeadPage (first_of (numbers ys)) (map record_of y.entries) =
    sym read.0 ∙ ap at e ∙ again.0 in
    let records : map record_of x.entries ≡ map record_of y.entries = cc in
    let next : first_of (numbers xs) ≡ first_of (numbers ys) = cc in
    let rest = overflow_same at xs ys some.1 more.1 next read.1 again.1 in
    λ i. record { number = e i; records = records i } ∷ rest i

pub chain_same : (version : Version) (at : ℕ → Body) (end : ℕ) (shape : Shape) (bucket head : ℕ)
    (seen seen' : List ℕ) (xs ys : Chain) → end ≤ 2 ^ 32
    → IsBucketChain version at shape bucket head xs
    → IsBucketChain version at shape bucket head ys → MayBeSeen end (seen ++ pages_in xs)
    → MayBeSeen end (seen' ++ pages_in ys) → xs ≡ ys
chain_same version at end shape bucket head seen seen' xs ys small one two may can =
    let says = λ (b : NumberedBody). at b.number ≡ b.body in
    one_reading version at xs ys
    (stored version at end head shape bucket seen xs one small may)
    (stored version at end head shape bucket seen' ys two small can)
    (leaves_same at xs ys one.is_chain two.is_chain (numbered_in end seen xs may)
    (numbered_in end seen' ys can) (sym one.from ∙ two.from)
    (AllByRecursion-left says (leaf_bodies xs) (flat_map entry_bodies (entries_in xs)) one.are_read)
    (AllByRecursion-left says (leaf_bodies ys) (flat_map entry_bodies (entries_in ys))
    two.are_read))
