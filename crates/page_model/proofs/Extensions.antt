-- A bucket that is added, and the meta page, leave each other page.
use Rattle.std.proofs.Common.{◌≡◌, ℕ, zero, suc, ◌+◌, ◌-◌, ◌*◌, ◌<◌, ◌≤◌, ◌==◌, cond, List, [], ◌∷◌, ◌++◌, length, map, take, drop, flat_map, get_or, set, sum_by, refl, sym, ap, ◌∙◌, subst, arith, length-append, length-set}
use Rattle.std.specs.List.{AllByRecursion}
use Rattle.std.proofs.lemmas.List.{map-append, map-set, set-get_or, take-append-le, take-append-drop, drop-append-le, drop-drop, length-drop, length-map}
use Rattle.std.proofs.lemmas.List.Concat.{flat_map-append}
use Rattle.std.proofs.lemmas.List.Sums.{sum_by-append, sum_by-cons}
use Rattle.page_model.specs.Pages.{Body, NumberedBody, SegmentPage}
use Rattle.page_model.specs.Chain.{Chain, numbers, entries_in, pages_of, pages_in}
use Rattle.page_model.specs.Space.{is_page, times_of}
use Rattle.page_model.specs.Placement.{Placement, in_use, chain_at, bared, extended, IsSound}
use Rattle.page_model.specs.PageBodies.{first_of, leaf_bodies, entry_bodies, chain_bodies, free_bodies, segment_bodies, heads_of, lower_bodies, AreRead}
use Rattle.page_model.specs.Rewrites.{AreRewritten, last_segment, new_head, extended_bodies}
use Rattle.page_model.specs.BodyLaws.{ExtendRewrites, MetaRewrites}
use Rattle.page_model.proofs.PairLists.{sum_by-flat_map-set}
use Rattle.page_model.proofs.Chains.{AllByRecursion-append, AllByRecursion-left, AllByRecursion-right}
use Rattle.page_model.proofs.Splits.{extended_sound}
use Rattle.page_model.proofs.Flat.{numbers-entries, numbers-chain_bodies, numbers-segments, numbers-free, numbers-page_bodies}
use Rattle.page_model.proofs.Frames.{kept, kept_chains, at_most_one}

-- ---- segment pages

-- the first pages, and the others with the heads that are left
pub segments_split : (k : ℕ) (segments heads : List ℕ)
    → segment_bodies segments heads ≡ segment_bodies (take k segments) heads
    ++ segment_bodies (drop k segments) (drop (508 * k) heads)
segments_split zero segments heads = refl
segments_split (suc k) [] heads = refl
segments_split (suc k) (n ∷ rest) heads =
    let more : 508 + 508 * k ≡ 508 * suc k = omega arith in
    let later = segments_split k rest (drop 508 heads) in
    let at : drop (508 * k) (drop 508 heads) ≡ drop (508 * suc k) heads =
    drop-drop (508 * k) 508 heads ∙ ap (λ i. drop i heads) more in
    let first = segment_bodies (n ∷ []) heads in
    ap (λ xs. first ++ xs) later ∙ ap
    (λ hs. first ++ (segment_bodies (take k rest) (drop 508 heads)
    ++ segment_bodies (drop k rest) hs)) at

-- the first pages are full, and further heads go to later ones
segments_same : (k : ℕ) (segments heads more : List ℕ) → 508 * k ≤ length heads
    → segment_bodies (take k segments) (heads ++ more) ≡ segment_bodies (take k segments) heads
segments_same zero segments heads more l = refl
segments_same (suc k) [] heads more l = refl
segments_same (suc k) (n ∷ rest) heads more l =
    let here = take-append-le 508 heads more (omega arith) in
    let left = drop-append-le 508 heads more (omega arith) in
    let later = segments_same k rest (drop 508 heads) more (omega (arith, length-drop 508 heads)) in
    let others = ap (segment_bodies (take k rest)) left ∙ later in
    λ i. record { number = n; body = SegmentPage (here i) } ∷ others i

pub first_of_bared : (chain : Chain) → first_of (numbers (bared chain)) ≡ first_of (numbers chain)
first_of_bared [] = refl
first_of_bared (head ∷ rest) = refl

-- ---- the change

-- of the pages of a list, those before a place and the others
pub taken_dropped : (n k : ℕ) (ns : List ℕ)
    → times_of n ns ≡ times_of n (take k ns) + times_of n (drop k ns)
taken_dropped n k ns = ap (times_of n) (sym (take-append-drop k ns))
    ∙ sum_by-append (λ m. cond (m == n) 1 0) (take k ns) (drop k ns)

-- one of the chains
chain_read : (at : ℕ → Body) (chains : List Chain) (i : ℕ) → i < length chains
    → AreRead at (flat_map chain_bodies chains) → AreRead at (chain_bodies (get_or chains i []))
chain_read at [] i l h = absurd (omega arith)
chain_read at (chain ∷ rest) zero l h =
    AllByRecursion-left (λ numbered. at numbered.number ≡ numbered.body) (chain_bodies chain)
    (flat_map chain_bodies rest) h
chain_read at (chain ∷ rest) (suc i) l h =
    chain_read at rest i (omega arith)
    (AllByRecursion-right (λ numbered. at numbered.number ≡ numbered.body) (chain_bodies chain)
    (flat_map chain_bodies rest) h)

module _ (p : Placement) (h : IsSound p) (at at' : ℕ → Body) where
  below : p.shape.split < length p.chains
  below = let e = h.all_buckets in let l = h.split_in in omega arith

  -- the numbers of the pages that are rewritten
  pub touched : (n : ℕ) → times_of n (map (λ numbered. numbered.number) (extended_bodies p))
      ≡ times_of n (pages_in (bared (chain_at p p.shape.split)))
      + times_of n ((new_head p).number ∷ [])
      + times_of n (drop (length (extended p).segments - 1) (extended p).segments)
      + times_of n (extended p).space.free
  touched n =
      let f : ℕ → ℕ = λ m. cond (m == n) 1 0 in
      let k = length (extended p).segments - 1 in
      let number : NumberedBody → ℕ = λ numbered. numbered.number in
      let a = chain_bodies (bared (chain_at p p.shape.split)) in
      let b = chain_bodies (new_head p ∷ []) in
      let c = last_segment (extended p) in
      let d = free_bodies (extended p).space.free in
      let e = map-append number (a ++ b ++ c) d
      ∙ ap (λ ns. ns ++ map number d)
      (map-append number (a ++ b) c ∙ ap (λ ns. ns ++ map number c) (map-append number a b)) in
      let i = ap (λ ns. times_of n ns) e in
      let j = sum_by-append f (map number a ++ map number b ++ map number c) (map number d) in
      let l = sum_by-append f (map number a ++ map number b) (map number c) in
      let m = sum_by-append f (map number a) (map number b) in
      let na = ap (λ ns. times_of n ns) (numbers-chain_bodies (bared (chain_at p p.shape.split))) in
      let nc = ap (λ ns. times_of n ns)
      (numbers-segments (drop k (extended p).segments)
      (drop (508 * k) (heads_of (extended p).chains))) in
      let nd = ap (λ ns. times_of n ns) (numbers-free (extended p).space.free) in
      omega arith

  -- how often a page comes afterwards, by its places
  pub places : (n : ℕ) → times_of n (extended p).segments
      + times_of n (flat_map pages_in (set p.chains p.shape.split []))
      + (times_of n (pages_in (bared (chain_at p p.shape.split)))
      + times_of n ((new_head p).number ∷ []) + times_of n (extended p).space.free)
      + times_of n (pages_of (entries_in (chain_at p p.shape.split))) ≤ 1
  places n =
      let f : ℕ → ℕ = λ m. cond (m == n) 1 0 in
      let q = extended p in
      let chain = chain_at p p.shape.split in
      let cs = set p.chains p.shape.split (bared chain) in
      let a = (extended_sound p h).pages.once n in
      let b = sum_by-append f (1 ∷ q.segments) (flat_map pages_in q.chains) in
      let c = sum_by-cons f 1 q.segments in
      let d = sum_by-flat_map-set f pages_in p.chains p.shape.split (bared chain) [] below in
      let e = sum_by-flat_map-set f pages_in p.chains p.shape.split [] [] below in
      let g = ap (sum_by f) (flat_map-append pages_in cs ((new_head p ∷ []) ∷ []))
      ∙ sum_by-append f (flat_map pages_in cs) ((new_head p).number ∷ []) in
      let i = at_most_one (is_page n q.space.end) in
      let j = sum_by-append f (pages_of (entries_in chain)) (in_use q) in
      omega arith

  -- the heads are those of before, and the new one
  pub heads_extended : heads_of (extended p).chains ≡ heads_of p.chains ++ (new_head p).number ∷ []
  heads_extended =
      let head : Chain → ℕ = λ c. first_of (numbers c) in
      let chain = chain_at p p.shape.split in
      let cs = set p.chains p.shape.split (bared chain) in
      map-append head cs ((new_head p ∷ []) ∷ [])
      ∙ ap (λ ns. ns ++ (new_head p).number ∷ [])
      (map-set head p.chains p.shape.split (bared chain)
      ∙ ap (set (map head p.chains) p.shape.split) (first_of_bared chain)
      ∙ sym (map-set head p.chains p.shape.split chain)
      ∙ ap (map head) (set-get_or p.chains p.shape.split []))

  module _ (r : AreRewritten at at' (extended_bodies p)) (read : AreRead at (lower_bodies p)) where
    chains_read : AreRead at' (flat_map chain_bodies (extended p).chains)
    chains_read =
        let chain = chain_at p p.shape.split in
        let cs = set p.chains p.shape.split (bared chain) in
        let P : NumberedBody → Type 0 = λ numbered. at numbered.number ≡ numbered.body in
        let Q : NumberedBody → Type 0 = λ numbered. at' numbered.number ≡ numbered.body in
        let s = segment_bodies p.segments (heads_of p.chains) in
        let was = AllByRecursion-right P s (flat_map chain_bodies p.chains)
        (AllByRecursion-left P (s ++ flat_map chain_bodies p.chains)
        (free_bodies p.space.free) read) in
        let a = chain_bodies (bared chain) in
        let b = chain_bodies (new_head p ∷ []) in
        let two = AllByRecursion-left Q (a ++ b) (last_segment (extended p))
        (AllByRecursion-left Q (a ++ b ++ last_segment (extended p))
        (free_bodies (extended p).space.free) r.are_read) in
        let stay = kept_chains at at' p.chains p.shape.split (bared chain) below
        (λ n l. r.others n (let x = places n in let y = touched n in let z =
        taken_dropped n (length (extended p).segments - 1) (extended p).segments in
        omega arith)) (AllByRecursion-left Q a b two) was in
        subst (AllByRecursion Q) (sym (flat_map-append chain_bodies cs ((new_head p ∷ []) ∷ [])))
        (AllByRecursion-append Q (flat_map chain_bodies cs) (chain_bodies (new_head p ∷ [])) stay
        (AllByRecursion-right Q a b two))

    segments_read : AreRead at' (segment_bodies (extended p).segments (heads_of (extended p).chains))
    segments_read =
        let q = extended p in
        let k = length q.segments - 1 in
        let heads = heads_of p.chains in
        let chain = chain_at p p.shape.split in
        let P : NumberedBody → Type 0 = λ numbered. at numbered.number ≡ numbered.body in
        let Q : NumberedBody → Type 0 = λ numbered. at' numbered.number ≡ numbered.body in
        let s = segment_bodies p.segments heads in
        let many : length q.chains ≡ length p.chains + 1 =
        length-append (set p.chains p.shape.split (bared chain)) _
        ∙ ap (λ n. n + 1) (length-set p.chains p.shape.split (bared chain)) in
        let segments = h.all_segments in
        let after = (extended_sound p h).all_segments in
        let wide : length heads ≡ length p.chains =
        length-map p.chains (λ c. first_of (numbers c)) in
        let same : take k q.segments ≡ take k p.segments =
        take-append-le k p.segments _ (omega arith) in
        let was = AllByRecursion-left P s (flat_map chain_bodies p.chains)
        (AllByRecursion-left P (s ++ flat_map chain_bodies p.chains)
        (free_bodies p.space.free) read) in
        let full = segment_bodies (take k p.segments) heads in
        let full_was = AllByRecursion-left P full
        (segment_bodies (drop k p.segments) (drop (508 * k) heads))
        (subst (AllByRecursion P) (segments_split k p.segments heads) was) in
        let stay : AllByRecursion Q full = kept at at' full (λ n l. r.others n (
        let x = places n in let y = touched n in let z = taken_dropped n k q.segments in let e =
        ap (times_of n) same in
        let b = subst (λ ns. 1 ≤ times_of n ns) (numbers-segments (take k p.segments) heads) l in
        omega arith)) full_was in
        let e : segment_bodies (take k q.segments) (heads_of q.chains) ≡ full
        = ap (segment_bodies (take k q.segments)) heads_extended
        ∙ segments_same k q.segments heads ((new_head p).number ∷ []) (omega arith)
        ∙ ap (λ ns. segment_bodies ns heads) same in
        let a = chain_bodies (bared chain) in
        let b = chain_bodies (new_head p ∷ []) in
        let last = AllByRecursion-right Q (a ++ b) (last_segment q)
        (AllByRecursion-left Q (a ++ b ++ last_segment q)
        (free_bodies q.space.free) r.are_read) in
        subst (AllByRecursion Q) (sym (segments_split k q.segments (heads_of q.chains)))
        (AllByRecursion-append Q (segment_bodies (take k q.segments) (heads_of q.chains))
        (last_segment q) (subst (AllByRecursion Q) (sym e) stay) last)

    pub all_read : AreRead at' (lower_bodies (extended p))
    all_read =
        let q = extended p in
        let Q : NumberedBody → Type 0 = λ numbered. at' numbered.number ≡ numbered.body in
        let s = segment_bodies q.segments (heads_of q.chains) in
        AllByRecursion-append Q (s ++ flat_map chain_bodies q.chains) (free_bodies q.space.free)
        (AllByRecursion-append Q s (flat_map chain_bodies q.chains) segments_read chains_read)
        (AllByRecursion-right Q (chain_bodies (bared (chain_at p p.shape.split))
        ++ chain_bodies (new_head p ∷ []) ++ last_segment q)
        (free_bodies q.space.free) r.are_read)

    -- the contents of the emptied bucket stay
    pub contents_stay : AreRead at' (flat_map entry_bodies (entries_in (chain_at p p.shape.split)))
    contents_stay =
        let P : NumberedBody → Type 0 = λ numbered. at numbered.number ≡ numbered.body in
        let s = segment_bodies p.segments (heads_of p.chains) in
        let chain = chain_at p p.shape.split in
        let was = AllByRecursion-right P s (flat_map chain_bodies p.chains)
        (AllByRecursion-left P (s ++ flat_map chain_bodies p.chains)
        (free_bodies p.space.free) read) in
        kept at at' (flat_map entry_bodies (entries_in chain))
        (λ n l. r.others n (let x = places n in let y = touched n in let z =
        taken_dropped n (length (extended p).segments - 1) (extended p).segments in
        let b = subst (λ ns. 1 ≤ times_of n ns) (numbers-entries (entries_in chain)) l in
        omega arith))
        (AllByRecursion-right P (leaf_bodies chain) (flat_map entry_bodies (entries_in chain))
        (chain_read at p.chains p.shape.split below was))

pub extend_rewrites : ExtendRewrites
extend_rewrites p at at' h read r = (all_read p h at at' r read, contents_stay p h at at' r read)

pub meta_rewrites : MetaRewrites
meta_rewrites p at at' h read r = (
  r.are_read.0,
  kept at at' (lower_bodies p) (λ n l. r.others n (
      let f : ℕ → ℕ = λ m. cond (m == n) 1 0 in
      let a = h.pages.once n in
      let b = at_most_one (is_page n p.space.end) in
      let c = sum_by-append f (in_use p) p.space.free in
      let d = ap (times_of n) (numbers-page_bodies p) in
      let e = sum_by-cons f 1 (map (λ numbered. numbered.number) (lower_bodies p)) in
      let g = sum_by-cons f 1 [] in
      omega arith)) read,
)
