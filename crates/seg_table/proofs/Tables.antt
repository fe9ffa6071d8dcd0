-- Segment pages as a map from bucket to head.
use Rattle.std.proofs.Common.{◌≡◌, ℕ, zero, suc, ◌+◌, ◌-◌, ◌*◌, ◌/◌, ◌%◌, ◌<◌, ◌≤◌, List, [], ◌∷◌, ◌++◌, length, get_or, take, drop, min, refl, sym, ap, subst, ◌∙◌, arith}
use Rattle.std.proofs.lemmas.List.{drop-drop, get_or-take, get_or-drop, take-append-le, drop-append-le, length-take, length-drop}
use Rattle.page_model.specs.Pages.{Meta, Body, SegmentPage}
use Rattle.page_model.specs.PageBodies.{segment_bodies, AreRead}
use Rattle.page_model.specs.Space.{times_of}
use Rattle.page_model.proofs.Spaces.{times_head, times_tail}
use Rattle.seg_table.specs.Heads.{AreHeads, SaysSegment}
use Rattle.seg_table.proofs.HeadLists.{put, take-put, drop-put, take-put_behind, drop-put_behind}

-- the heads of segment s
abbrev pub part : List ℕ → ℕ → List ℕ
part heads s = take 508 (drop (508 * s) heads)

-- what each segment page says
pub part_read : (at : ℕ → Body) (ns heads : List ℕ) (s : ℕ) → AreRead at (segment_bodies ns heads)
    → s < length ns → at (get_or ns s 0) ≡ SegmentPage (part heads s)
part_read at [] heads s read lt = absurd (omega arith)
part_read at (n ∷ ns) heads zero read lt = read.0
part_read at (n ∷ ns) heads (suc s) read lt =
    part_read at ns (drop 508 heads) s read.1 (omega arith)
    ∙ ap (λ (xs : List ℕ). SegmentPage (take 508 xs))
    (drop-drop (508 * s) 508 heads
    ∙ ap (λ (k : ℕ). drop k heads) (let k : 508 + 508 * s ≡ 508 * suc s = omega arith in k))

pub length-part : (heads : List ℕ) (s : ℕ)
    → length (part heads s) ≡ min (length heads - 508 * s) 508
length-part heads s = omega (
  arith,
  length-take 508 (drop (508 * s) heads),
  length-drop (508 * s) heads,
)

-- where the segment pages say heads, so does that of segment s
pub part_said : (at : ℕ → Body) (m : Meta) (heads : List ℕ) (s : ℕ) → AreHeads at m heads
    → s < length m.segments → SaysSegment at m s
part_said at m heads s are lt = record {
  heads = part heads s;
  says = part_read at m.segments heads s are.are_read lt;
  many = omega (arith, length-part heads s, are.many);
  some = (are.used s 0 lt).0;
}

-- the head of a bucket, by its place in its segment
pub get_or-part : (heads : List ℕ) (b : ℕ)
    → get_or (part heads (b / 508)) (b % 508) 0 ≡ get_or heads b 0
get_or-part heads b =
    get_or-take 508 (drop (508 * (b / 508)) heads) (b % 508) 0 (omega arith)
    ∙ get_or-drop (508 * (b / 508)) heads (b % 508) 0
    ∙ ap (λ (k : ℕ). get_or heads k 0) (let k : 508 * (b / 508) + b % 508 ≡ b = omega arith in k)

pub stands_there : (ns : List ℕ) (s : ℕ) → s < length ns → 1 ≤ times_of (get_or ns s 0) ns
stands_there [] s lt = absurd (omega arith)
stands_there (n ∷ ns) zero lt = omega (arith, times_head n ns)
stands_there (n ∷ ns) (suc s) lt =
    omega (arith, stands_there ns s (omega arith), times_tail (get_or ns s 0) n ns)

-- pages that stay say what they said
stay : (at at' : ℕ → Body) (ns heads : List ℕ) (n : ℕ) → times_of n ns ≡ 0
    → ((k : ℕ) → (k ≡ n → ⊥) → at' k ≡ at k) → AreRead at (segment_bodies ns heads)
    → AreRead at' (segment_bodies ns heads)
stay at at' [] heads n none others read = tt
stay at at' (m ∷ ns) heads n none others read = (
  others m (λ same. let there : times_of n (n ∷ ns) ≡ 0 =
      subst (λ (k : ℕ). times_of n (k ∷ ns) ≡ 0) same none in
      absurd (omega (arith, there, times_head n ns))) ∙ read.0,
  stay at at' ns (drop 508 heads) n (omega (arith, none, times_tail n m ns)) others read.1,
)

-- one head is set on its page
pub set_read : (at at' : ℕ → Body) (ns heads : List ℕ) (s i b head : ℕ)
    → ((n : ℕ) → times_of n ns ≤ 1) → s < length ns → i < 508 → 508 * s + i ≡ b → b ≤ length heads
    → AreRead at (segment_bodies ns heads)
    → at' (get_or ns s 0) ≡ SegmentPage (put (part heads s) i head)
    → ((k : ℕ) → (k ≡ get_or ns s 0 → ⊥) → at' k ≡ at k)
    → AreRead at' (segment_bodies ns (put heads b head))
set_read at at' [] heads s i b head once lt in_page e le read new others = absurd (omega arith)
set_read at at' (n ∷ ns) heads zero i b head once lt in_page e le read new others =
    let same : i ≡ b = omega arith in
    let first : at' n ≡ SegmentPage (take 508 (put heads b head)) =
    new ∙ ap SegmentPage (sym (take-put 508 heads i head in_page (omega arith)))
    ∙ ap (λ (k : ℕ). SegmentPage (take 508 (put heads k head))) same in
    let later : drop 508 heads ≡ drop 508 (put heads b head) =
    sym (drop-put 508 heads b head (omega arith) le) in (
      first,
      subst (λ (xs : List ℕ). AreRead at' (segment_bodies ns xs)) later
          (stay at at' ns (drop 508 heads) n (omega (arith, once n, times_head n ns))
          others read.1),
    )
set_read at at' (n ∷ ns) heads (suc s) i b head once lt in_page e le read new others =
    let apart : n ≡ get_or ns s 0 → ⊥ = λ same.
    absurd (omega (
      arith,
      once n,
      times_head n ns,
      subst (λ (k : ℕ). 1 ≤ times_of k ns) (sym same)
          (stands_there ns s (omega arith)),
    )) in
    let first : at' n ≡ SegmentPage (take 508 (put heads b head)) =
    others n apart ∙ read.0 ∙ ap SegmentPage
    (sym (take-put_behind 508 heads b head (omega arith) le)) in
    let k = 508 * s + i in
    let later : put (drop 508 heads) k head ≡ drop 508 (put heads b head) =
    sym (drop-put_behind 508 heads b k head (omega arith) le) in
    let page : at' (get_or ns s 0) ≡ SegmentPage (put (part (drop 508 heads) s) i head) =
    new ∙ ap (λ (xs : List ℕ). SegmentPage (put (take 508 xs) i head))
    (ap (λ (j : ℕ). drop j heads) (let j : 508 * suc s ≡ 508 + 508 * s = omega arith in j)
    ∙ sym (drop-drop (508 * s) 508 heads)) in
    let rest = set_read at at' ns (drop 508 heads) s i k head
    (λ m. omega (arith, once m, times_tail m n ns)) (omega arith) in_page refl
    (omega (arith, length-drop 508 heads)) read.1 page others in
    (first, subst (λ (xs : List ℕ). AreRead at' (segment_bodies ns xs)) later rest)

-- a segment is added behind full ones
pub added_read : (at at' : ℕ → Body) (ns heads : List ℕ) (n head : ℕ) → times_of n ns ≡ 0
    → length heads ≡ 508 * length ns → AreRead at (segment_bodies ns heads)
    → at' n ≡ SegmentPage (head ∷ []) → ((k : ℕ) → (k ≡ n → ⊥) → at' k ≡ at k)
    → AreRead at' (segment_bodies (ns ++ n ∷ []) (heads ++ head ∷ []))
added_read at at' [] [] n head none full read new others = (new, tt)
added_read at at' [] (h ∷ heads) n head none full read new others = absurd (omega arith)
added_read at at' (m ∷ ns) heads n head none full read new others =
    let apart : m ≡ n → ⊥ = λ same. let there : times_of n (n ∷ ns) ≡ 0 =
    subst (λ (k : ℕ). times_of n (k ∷ ns) ≡ 0) same none in
    absurd (omega (arith, there, times_head n ns)) in
    let first : at' m ≡ SegmentPage (take 508 (heads ++ head ∷ [])) =
    others m apart ∙ read.0 ∙ ap SegmentPage
    (sym (take-append-le 508 heads (head ∷ []) (omega arith))) in
    let later : drop 508 heads ++ head ∷ [] ≡ drop 508 (heads ++ head ∷ []) =
    sym (drop-append-le 508 heads (head ∷ []) (omega arith)) in
    let rest = added_read at at' ns (drop 508 heads) n head (omega (arith, none, times_tail n m ns))
    (omega (arith, length-drop 508 heads)) read.1 new others in
    (first, subst (λ (xs : List ℕ). AreRead at' (segment_bodies (ns ++ n ∷ []) xs)) later rest)
