-- Each page of a good placement has its spelling.
use Rattle.std.proofs.Common.{◌≡◌, ◌≢◌, ◌↔◌, ℕ, zero, suc, ◌+◌, ◌^◌, ◌<◌, ◌≤◌, ◌-◌, Bool, true, false, map, replicate, cond, ◌&&◌, leb, ltb, List, [], ◌∷◌, ◌++◌, length, take, drop, flat_map, refl, ap, subst, ◌∙◌, arith, ◌⊎◌, inl, inr}
use Rattle.std.specs.Prelude.{AllPairs}
use Rattle.std.specs.List.{AllByRecursion}
use Rattle.std.proofs.lemmas.Bool.Decides.{nat_tests}
use Rattle.std.proofs.lemmas.List.{get_or_default, length-take, length-append, length-replicate}
use Rattle.std.proofs.lemmas.Bool.{ltb-true}
use Rattle.std.proofs.lemmas.List.Elements.{recursion_from_All, All-from_recursion}
use Rattle.std.proofs.lemmas.List.Kept.{AllPairs-cons}
use Rattle.std.proofs.lemmas.List.Sums.{sum_by-append, sum_by-cons}
use Rattle.std.proofs.lemmas.Map.Text.{is_eq-slice_cmp}
use Rattle.std.proofs.lemmas.Slice.Eq.{bytes_eq-Decides}
use Rattle.dbm_model.specs.Bounds.{Version, V1, V2}
use Rattle.dbm_model.specs.Sizes.{home}
use Rattle.page_model.specs.Bytes.{u32_at, u32_bytes}
use Rattle.page_model.specs.Numbers.{IsNumber}
use Rattle.dbm_model.specs.Pairs.{Key, Pair, is_far}
use Rattle.page_model.specs.PairLists.{has_key, times}
use Rattle.page_model.specs.Pages.{MetaPage, NumberedBody, Record, bucket}
use Rattle.page_model.specs.Spelling.{spell}
use Rattle.page_model.specs.Valid.{IsRecord, IsBucket, IsMeta, IsValidBody}
use Rattle.page_model.specs.Chain.{Entry, Chain, Leaf, pages_long, record_with, record_of, numbers, entries_in, leaf_pairs, pairs_in, pages_of, pages_in, used, IsEntry, IsChain}
use Rattle.page_model.specs.Space.{times_of}
use Rattle.page_model.specs.Placement.{Placement, in_use, IsGood, IsSound}
use Rattle.page_model.specs.PageBodies.{first_of, overflow_bodies, leaf_bodies, filled, content_bodies, entry_bodies, chain_bodies, free_bodies, segment_bodies, heads_of, meta_of, page_bodies}
use Rattle.page_model.specs.Meaning.{said_by}
use Rattle.page_model.specs.BodyLaws.{BodiesAreValid, PagesReadExactly}
use Rattle.page_model.proofs.Numbers.{trimmed-is}
use Rattle.page_model.proofs.Bodies.{body_is}
use Rattle.page_model.proofs.Spaces.{times_head, times_tail}
use Rattle.page_model.proofs.Buckets.{four_is}
use Rattle.page_model.proofs.Chains.{near_if, AllByRecursion-append, AllByRecursion-left, AllByRecursion-right}

-- the number of a page, which is not 0
abbrev pub IsPageNumber : ℕ → Type 0
IsPageNumber n = (0 < n) × IsNumber n

-- ---- numbers

pub from_times : (P : ℕ → Type 0) (ns : List ℕ) → ((n : ℕ) → 1 ≤ times_of n ns → P n)
    → AllByRecursion P ns
from_times P [] h = tt
from_times P (n ∷ ns) h = (
  h n (omega (arith, times_head n ns)),
  from_times P ns (λ m le. h m (omega (arith, times_tail m n ns))),
)

in_range : (n end : ℕ) → 1 ≤ cond (leb 1 n && ltb n end) 1 0 → (1 ≤ n) × (n < end)
in_range n end h = grind (arith, nat_tests)

pub number : (p : Placement) → IsSound p → p.space.end ≤ 2 ^ 32 → (n : ℕ)
    → 1 ≤ times_of n (in_use p) + times_of n p.space.free → IsPageNumber n
number p h le n some =
    let both = in_range n p.space.end (subst (λ (k : ℕ). 1 ≤ k) (h.pages.once n) some) in
    (omega (arith, both.0), omega (arith, both.1))

All-take : (P : ℕ → Type 0) (k : ℕ) (ns : List ℕ) → AllByRecursion P ns
    → AllByRecursion P (take k ns)
All-take P zero ns h = tt
All-take P (suc k) [] h = tt
All-take P (suc k) (n ∷ ns) h = (h.0, All-take P k ns h.1)

All-drop : (P : ℕ → Type 0) (k : ℕ) (ns : List ℕ) → AllByRecursion P ns
    → AllByRecursion P (drop k ns)
All-drop P zero ns h = h
All-drop P (suc k) [] h = tt
All-drop P (suc k) (n ∷ ns) h = All-drop P k ns h.1

All-weaker : (P Q : ℕ → Type 0) → ((n : ℕ) → P n → Q n) → (ns : List ℕ) → AllByRecursion P ns
    → AllByRecursion Q ns
All-weaker P Q f [] h = tt
All-weaker P Q f (n ∷ ns) h = (f n h.0, All-weaker P Q f ns h.1)

first_number : (ns : List ℕ) → AllByRecursion IsPageNumber ns → IsNumber (first_of ns)
first_number [] h = omega arith
first_number (n ∷ ns) h = h.0.1

first_none : (ns : List ℕ) → AllByRecursion IsPageNumber ns → (first_of ns ≡ 0) ↔ (length ns ≡ 0)
first_none [] h = (λ e. refl, λ e. refl)
first_none (n ∷ ns) h = (λ e. absurd (omega (arith, h.0.0, e)), λ e. absurd (omega (arith, e)))

-- ---- pairs

own_key : (p : Pair) → has_key p.0 p ≡ true
own_key p = is_eq-slice_cmp p.0 p.0 ∙ (bytes_eq-Decides p.0 p.0).1 refl

counted : (key : Key) (p : Pair) (ps : List Pair)
    → times key (p ∷ ps) ≡ cond (has_key key p) 1 0 + times key ps
counted key p ps = sum_by-cons (λ q. cond (has_key key q) 1 0) p ps

own_counted : (key : Key) (p : Pair) (ps : List Pair) → key ≡ p.0
    → times key (p ∷ ps) ≡ 1 + times key ps
own_counted key p ps e = counted key p ps
    ∙ ap (λ b. cond b 1 0 + times key ps) (ap (λ (k : Key). has_key k p) e ∙ own_key p)

abbrev pub Once : List Pair → Type 0
Once ps = (key : Key) → times key ps ≤ 1

pub once_left : (ps qs : List Pair) → Once (ps ++ qs) → Once ps
once_left ps qs h key = omega (arith, h key, sum_by-append (λ q. cond (has_key key q) 1 0) ps qs)

pub once_right : (ps qs : List Pair) → Once (ps ++ qs) → Once qs
once_right ps qs h key = omega (arith, h key, sum_by-append (λ q. cond (has_key key q) 1 0) ps qs)

-- ---- records

pub key_is : (pair : Pair) (pages : List ℕ) → (record_with pair pages).key ≡ pair.0
key_is pair [] = refl
key_is pair (n ∷ rest) = refl

absent_records : (key : Key) (es : List Entry) → times key (map (λ e. e.pair) es) ≡ 0
    → AllByRecursion (λ r. key ≢ r.key) (map record_of es)
absent_records key [] h = tt
absent_records key (e ∷ es) h = (
  λ same. absurd (omega (
    arith,
    own_counted key e.pair (map (λ one. one.pair) es)
        (same ∙ key_is e.pair e.pages),
  )),
  absent_records key es (omega (arith, counted key e.pair (map (λ one. one.pair) es))),
)

pub distinct_records : (es : List Entry) → Once (map (λ e. e.pair) es)
    → AllPairs (λ r q. r.key ≢ q.key) (map record_of es)
distinct_records [] h = λ i j d less lt. absurd (omega arith)
distinct_records (e ∷ es) h =
    let pairs : List Pair = map (λ one. one.pair) es in
    let none : times e.pair.0 pairs ≡ 0 =
    omega (arith, h e.pair.0, own_counted e.pair.0 e.pair pairs refl) in
    let others = distinct_records es (λ key. omega (arith, h key, counted key e.pair pairs)) in
    AllPairs-cons (λ (r q : Record). r.key ≢ q.key) (record_of e) (map record_of es)
    (All-from_recursion (λ (q : Record). (record_of e).key ≢ q.key) (map record_of es)
    (absent_records (record_of e).key es
    (ap (λ k. times k pairs) (key_is e.pair e.pages) ∙ none))) others

-- a far pair has content pages, and a near one none
pub far_pages : (version : Version) (e : Entry) → IsEntry version e → 1 ≤ length e.pages
    → is_far e.pair ≡ true
far_pages version e is some = by_far (is_far e.pair) refl
  where
    by_far : (b : Bool) → is_far e.pair ≡ b → is_far e.pair ≡ true
    by_far true far = far
    by_far false near = absurd (let none = is.paged
        ∙ ap (λ b. cond b (pages_long (length e.pair.1)) 0) near in omega arith)

pub number_again : (n : ℕ) → IsNumber n → u32_at (u32_bytes n) 0 ≡ n
number_again n lt = four_is n lt

record_good : (version : Version) (e : Entry) (pages : List ℕ) → e.pages ≡ pages
    → IsEntry version e → AllByRecursion IsPageNumber pages → IsRecord (record_with e.pair pages)
record_good version e [] same is ns = tt
record_good version e (n ∷ rest) same is ns =
    let far = far_pages version e is (omega (arith, ap length same)) in
    let bounds = near_if version e.pair is.allowed far in
    record {
      short = bounds.0;
      number = (refl, λ zero. absurd (omega (arith, ns.0.0, number_again n ns.0.1, zero)));
      long_enough = (ltb-true 2026 (length e.pair.0 + length e.pair.1) far, bounds.1);
    }

pub records_good : (version : Version) (es : List Entry) → AllByRecursion (IsEntry version) es
    → AllByRecursion IsPageNumber (pages_of es) → AllByRecursion IsRecord (map record_of es)
records_good version [] is ns = tt
records_good version (e ∷ es) is ns = (
  record_good version e e.pages refl is.0
      (AllByRecursion-left IsPageNumber e.pages (pages_of es) ns),
  records_good version es is.1 (AllByRecursion-right IsPageNumber e.pages (pages_of es) ns),
)

content_good : (pages content : List ℕ) → AllByRecursion IsPageNumber pages
    → AllByRecursion IsValidBody (content_bodies pages content)
content_good [] content ns = tt
content_good (n ∷ rest) content ns =
    let some : List ℕ = take 2032 content in
    let long : length (filled some) ≡ 2032 = omega (
      arith,
      length-append some (replicate (2032 - length some) 0),
      length-replicate {A = ℕ} (2032 - length some) 0,
      length-take 2032 content,
    ) in
    ((ns.0.1, first_number rest ns.1, long), content_good rest (drop 2032 content) ns.1)

contents_good : (es : List Entry) → AllByRecursion IsPageNumber (pages_of es)
    → AllByRecursion IsValidBody (flat_map entry_bodies es)
contents_good [] ns = tt
contents_good (e ∷ es) ns =
    AllByRecursion-append IsValidBody (entry_bodies e) (flat_map entry_bodies es)
    (content_good e.pages e.pair.1 (AllByRecursion-left IsPageNumber e.pages (pages_of es) ns))
    (contents_good es (AllByRecursion-right IsPageNumber e.pages (pages_of es) ns))

-- ---- the pages with what they say

leaf_fits : (version : Version) (n kind next : ℕ) (leaf : Leaf) → IsPageNumber n
    → (kind ≡ 3) ⊎ (kind ≡ 4) → IsNumber next → used leaf ≤ 2032 → Once (leaf_pairs leaf)
    → AllByRecursion (IsEntry version) leaf.entries
    → AllByRecursion IsPageNumber (pages_of leaf.entries)
    → IsBucket (bucket n kind next (map record_of leaf.entries))
leaf_fits version n kind next leaf a k b le once is ns = record {
  own = a.1;
  kind = k;
  next = b;
  fits = le;
  distinct = distinct_records leaf.entries once;
  records = records_good version leaf.entries is ns;
}

pages_left : (P : ℕ → Type 0) (xs ys : List Entry) → AllByRecursion P (pages_of (xs ++ ys))
    → AllByRecursion P (pages_of xs) × AllByRecursion P (pages_of ys)
pages_left P [] ys h = (tt, h)
pages_left P (x ∷ xs) ys h =
    let rest = pages_left P xs ys (AllByRecursion-right P x.pages (pages_of (xs ++ ys)) h) in (
      AllByRecursion-append P x.pages (pages_of xs)
          (AllByRecursion-left P x.pages (pages_of (xs ++ ys)) h) rest.0,
      rest.1,
    )

overflow_good : (version : Version) (rest : Chain) → AllByRecursion IsPageNumber (numbers rest)
    → AllByRecursion (λ leaf. used leaf ≤ 2032) rest → Once (pairs_in rest)
    → AllByRecursion (IsEntry version) (entries_in rest)
    → AllByRecursion IsPageNumber (pages_of (entries_in rest))
    → AllByRecursion IsValidBody (overflow_bodies rest)
overflow_good version [] ns fits once is cs = tt
overflow_good version (leaf ∷ rest) ns fits once is cs =
    let both = pages_left IsPageNumber leaf.entries (entries_in rest) cs in (
      leaf_fits version leaf.number 4 (first_of (numbers rest)) leaf ns.0 (inr refl)
          (first_number (numbers rest) ns.1) fits.0 (once_left (leaf_pairs leaf) (pairs_in rest) once)
          (AllByRecursion-left (IsEntry version) leaf.entries (entries_in rest) is) both.0,
      overflow_good version rest ns.1 fits.1 (once_right (leaf_pairs leaf) (pairs_in rest) once)
          (AllByRecursion-right (IsEntry version) leaf.entries (entries_in rest) is) both.1,
    )

leaves_good : (version : Version) (chain : Chain) → AllByRecursion IsPageNumber (numbers chain)
    → IsChain chain → Once (pairs_in chain) → AllByRecursion (IsEntry version) (entries_in chain)
    → AllByRecursion IsPageNumber (pages_of (entries_in chain))
    → AllByRecursion IsValidBody (leaf_bodies chain)
leaves_good version [] ns is once es cs = tt
leaves_good version (head ∷ rest) ns is once es cs =
    let both = pages_left IsPageNumber head.entries (entries_in rest) cs in (
      leaf_fits version head.number 3 (first_of (numbers rest)) head ns.0 (inl refl)
          (first_number (numbers rest) ns.1) is.0 (once_left (leaf_pairs head) (pairs_in rest) once)
          (AllByRecursion-left (IsEntry version) head.entries (entries_in rest) es) both.0,
      overflow_good version rest ns.1 is.1 (once_right (leaf_pairs head) (pairs_in rest) once)
          (AllByRecursion-right (IsEntry version) head.entries (entries_in rest) es) both.1,
    )

chain_good : (version : Version) (chain : Chain) → AllByRecursion IsPageNumber (pages_in chain)
    → IsChain chain → Once (pairs_in chain) → AllByRecursion (IsEntry version) (entries_in chain)
    → AllByRecursion IsValidBody (chain_bodies chain)
chain_good version chain ns is once es =
    let own = AllByRecursion-left IsPageNumber (numbers chain) (pages_of (entries_in chain)) ns in
    let held = AllByRecursion-right IsPageNumber (numbers chain) (pages_of (entries_in chain)) ns in
    AllByRecursion-append IsValidBody (leaf_bodies chain) (flat_map entry_bodies (entries_in chain))
    (leaves_good version chain own is once es held) (contents_good (entries_in chain) held)

chains_good : (version : Version) (chains : List Chain)
    → AllByRecursion IsPageNumber (flat_map pages_in chains)
    → AllByRecursion IsChain chains → Once (flat_map pairs_in chains)
    → AllByRecursion (IsEntry version) (flat_map entries_in chains)
    → AllByRecursion IsValidBody (flat_map chain_bodies chains)
chains_good version [] ns is once es = tt
chains_good version (chain ∷ rest) ns is once es =
    AllByRecursion-append IsValidBody (chain_bodies chain) (flat_map chain_bodies rest)
    (chain_good version chain
    (AllByRecursion-left IsPageNumber (pages_in chain) (flat_map pages_in rest) ns)
    is.0 (once_left (pairs_in chain) (flat_map pairs_in rest) once)
    (AllByRecursion-left (IsEntry version) (entries_in chain) (flat_map entries_in rest) es))
    (chains_good version rest
    (AllByRecursion-right IsPageNumber (pages_in chain) (flat_map pages_in rest) ns)
    is.1 (once_right (pairs_in chain) (flat_map pairs_in rest) once)
    (AllByRecursion-right (IsEntry version) (entries_in chain) (flat_map entries_in rest) es))

heads_good : (chains : List Chain) → AllByRecursion IsPageNumber (flat_map pages_in chains)
    → AllByRecursion IsChain chains → AllByRecursion IsPageNumber (heads_of chains)
heads_good [] ns is = tt
heads_good ([] ∷ rest) ns is = absurd is.0
heads_good ((head ∷ more) ∷ rest) ns is = (
  ns.0,
  heads_good rest (AllByRecursion-right IsPageNumber (pages_in (head ∷ more))
      (flat_map pages_in rest) ns) is.1,
)

free_good : (free : List ℕ) → AllByRecursion IsPageNumber free
    → AllByRecursion IsValidBody (free_bodies free)
free_good [] h = tt
free_good (n ∷ rest) h = ((h.0.1, first_number rest h.1), free_good rest h.1)

segments_good : (segments heads : List ℕ) → AllByRecursion IsPageNumber segments
    → AllByRecursion IsPageNumber heads → AllByRecursion IsValidBody (segment_bodies segments heads)
segments_good [] heads ns hs = tt
segments_good (n ∷ rest) heads ns hs =
    let mine : AllByRecursion IsPageNumber (take 508 heads) = All-take IsPageNumber 508 heads hs in
    let numbers = All-from_recursion IsNumber (take 508 heads)
    (All-weaker IsPageNumber IsNumber (λ m h. h.1) (take 508 heads) mine) in
    let ends = trimmed-is (take 508 heads)
    (All-weaker IsPageNumber (λ m. 0 < m) (λ m h. h.0) (take 508 heads) mine) in (
      (ns.0.1, omega (arith, length-take 508 heads), numbers, ends),
      segments_good rest (drop 508 heads) ns.1 (All-drop IsPageNumber 508 heads hs),
    )

chains_are : (p : Placement) → IsSound p → AllByRecursion IsChain p.chains
chains_are p h = recursion_from_All IsChain p.chains
    (λ k d lt. subst IsChain (get_or_default p.chains k [] d lt) (h.in_place k lt).0)

-- the limit bounds the numbers of pages
pub end_small : (p : Placement) → IsGood p → p.space.end ≤ 2 ^ 32
end_small p h = omega (arith, h.bounded, home_small p.bounds.limit p.bounds.version h.limited.1)
  where
    home_small : (limit : ℕ) (version : Version) → limit ≤ 1000000
        → home (record { limit = limit; version = version }) ≤ 2 ^ 32
    home_small limit V1 most = omega arith
    home_small limit V2 most = omega arith

meta_good : (p : Placement) → IsGood p → AllByRecursion IsPageNumber p.segments
    → AllByRecursion IsPageNumber p.space.free → IsMeta (meta_of p)
meta_good p h segments free =
    let s = h.sound in
    let many = s.all_buckets in
    record {
      limited = h.limited;
      split_in = s.split_in;
      few_buckets = omega (arith, many, h.few_buckets);
      few_pairs = (h.few_pairs, omega (arith, many, h.light));
      all_segments = omega (arith, many, s.all_segments);
      used = All-from_recursion IsPageNumber p.segments segments;
      numbers = (first_number p.space.free free, omega (arith, s.pages.as_many, end_small p h));
      ends = first_none p.space.free free;
    }

pub bodies_valid : BodiesAreValid
bodies_valid p h =
    let s = h.sound in
    let le = end_small p h in
    let pages = from_times IsPageNumber (in_use p) (λ n some. number p s le n (omega arith)) in
    let free = from_times IsPageNumber p.space.free (λ n some. number p s le n (omega arith)) in
    let segments = (AllByRecursion-left IsPageNumber (1 ∷ p.segments)
    (flat_map pages_in p.chains) pages).1 in
    let ns = AllByRecursion-right IsPageNumber (1 ∷ p.segments) (flat_map pages_in p.chains) pages in
    let is = chains_are p s in
    let first : IsValidBody (record { number = 1; body = MetaPage (meta_of p) }) =
    (refl, meta_good p h segments free) in
    let lower = AllByRecursion-append IsValidBody
    (segment_bodies p.segments (heads_of p.chains) ++ flat_map chain_bodies p.chains)
    (free_bodies p.space.free)
    (AllByRecursion-append IsValidBody (segment_bodies p.segments (heads_of p.chains))
    (flat_map chain_bodies p.chains)
    (segments_good p.segments (heads_of p.chains) segments (heads_good p.chains ns is))
    (chains_good p.bounds.version p.chains ns is s.no_key_twice s.entered))
    (free_good p.space.free free) in
    (first, lower)

-- pages that may be said are read exactly where they are spelled
exactly : (page : ℕ → List ℕ) (xs : List NumberedBody) → AllByRecursion IsValidBody xs
    → AllByRecursion (λ s. page s.number ≡ spell s) xs
    ↔ AllByRecursion (λ s. said_by page s.number ≡ s.body) xs
exactly page [] h = (λ a. tt, λ a. tt)
exactly page (x ∷ xs) h =
    let here = body_is x.number (page x.number) x.body h.0 in
    let rest = exactly page xs h.1 in
    (λ a. (here.0 a.0, rest.0 a.1), λ a. (here.1 a.0, rest.1 a.1))

pub pages_exactly : PagesReadExactly
pages_exactly page p good = exactly page (page_bodies p) (bodies_valid p good)
