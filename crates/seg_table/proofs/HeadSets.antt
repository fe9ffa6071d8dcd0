-- What a set head makes of the table.
use Rattle.std.proofs.Common.{◌≡◌, ℕ, ◌*◌, ◌/◌, ◌%◌, ◌<◌, ◌≤◌, Bool, true, false, cond, eqb, List, [], ◌∷◌, ◌++◌, length, get_or, refl, sym, ap, subst, ◌∙◌, arith}
use Rattle.std.proofs.lemmas.Bool.Decides.{nat_tests}
use Rattle.std.proofs.lemmas.List.{length-append}
use Rattle.std.proofs.lemmas.List.Elements.{All-append, All-from_recursion}
use Rattle.std.proofs.Math.Seq.{get_or-append_seam, take-append_seam, take-length}
use Rattle.page_model.specs.Numbers.{IsNumber}
use Rattle.page_model.specs.Pages as model
use Rattle.page_model.specs.Pages.{Body, SegmentPage}
use Rattle.page_model.specs.PageBodies.{segment_bodies, AreRead}
use Rattle.page_model.specs.Space.{Space, next_page, after_take, is_page, times_of}
use Rattle.page_model.proofs.Frames.{at_most_one}
use Rattle.page_model.proofs.Spaces.{times_head}
use Rattle.free_pages.specs.declared.free_state.FreeState.{FreeState}
use Rattle.free_pages.specs.FreeList.{state_of, IsApart}
use Rattle.seg_table.specs.Heads.{with_head, CanSet, IsHeadSet, AddsSegment}
use Rattle.seg_table.proofs.HeadLists.{put, append-put, with_head-put}
use Rattle.seg_table.proofs.Tables.{part, set_read, added_read}

-- a page that is taken is no segment's
next_unused : (ns : List ℕ) (s : Space) → IsApart ns s → times_of (next_page s) ns ≡ 0
next_unused ns s apart = by_free s.free s.end apart
  where
    behind : (end : ℕ) → cond {A = ℕ} (is_page end end) 1 0 ≡ 0
    behind end = grind (arith, nat_tests)

    by_free : (free : List ℕ) (end : ℕ) → IsApart ns (record { free = free; end = end })
        → times_of (next_page (record { free = free; end = end })) ns ≡ 0
    by_free [] end apart = omega (arith, apart end, behind end)
    by_free (n ∷ free) end apart =
        omega (arith, apart n, times_head n free, at_most_one (is_page n end))

-- pages that are apart from others are apart
pub still_apart : (ns : List ℕ) (s : Space) → IsApart ns s → IsApart [] s
still_apart ns s apart n = omega (arith, apart n)

module _ (old new : ℕ → Body) (m : model.Meta) (free : FreeState) (heads : List ℕ) (b head : ℕ)
    (s : Space) (can : CanSet old m free heads b head s) where
  -- in a segment that is there
  pub set_there : b / 508 < length m.segments
      → new (get_or m.segments (b / 508) 0)
      ≡ SegmentPage (put (part heads (b / 508)) (b % 508) head)
      → ((k : ℕ) → (k ≡ get_or m.segments (b / 508) 0 → ⊥) → new k ≡ old k)
      → IsHeadSet old new m m free heads b head s
  set_there there page others =
      let test : eqb (b / 508) (length m.segments) ≡ false = grind (arith, nat_tests) in
      let once = λ (n : ℕ). let most : times_of n m.segments ≤ 1 =
      omega (arith, can.apart n, at_most_one (is_page n s.end)) in most in
      let read = set_read old new m.segments heads (b / 508) (b % 508) b head once there
      (omega arith) (omega arith) can.bucket can.heads_are.are_read page others in
      record {
        segments_are = ap (λ (t : Bool).
            record m { segments = cond t (m.segments ++ next_page s ∷ []) m.segments })
            (sym test);
        free_is = can.free_is.kept ∙ ap
            (λ (t : Bool). state_of (cond t (after_take s) s)) (sym test);
        are_read = subst (λ (hs : List ℕ). AreRead new (segment_bodies m.segments hs))
            (sym (with_head-put heads b head can.bucket)) read;
        others = others;
      }

  -- in one that is added
  pub set_added : (n : ℕ) (ns : List ℕ) (left : FreeState) → b / 508 ≡ length m.segments
      → n ≡ next_page s → ns ≡ m.segments ++ n ∷ [] → left ≡ state_of (after_take s)
      → new n ≡ SegmentPage (head ∷ [])
      → ((k : ℕ) → (k ≡ n → ⊥) → new k ≡ old k)
      → IsHeadSet old new m (record m { segments = ns }) left heads b head s
  set_added n ns left added is grown kept page others =
      let test : eqb (b / 508) (length m.segments) ≡ true = grind (arith, nat_tests) in
      let last : b ≡ length heads = omega (arith, added, can.room, can.bucket) in
      let full : length heads ≡ 508 * length m.segments =
      omega (arith, added, can.room, can.bucket) in
      let unused : times_of n m.segments ≡ 0 =
      ap (λ (k : ℕ). times_of k m.segments) is ∙ next_unused m.segments s can.apart in
      let more : heads ++ head ∷ [] ≡ with_head heads b head =
      append-put heads b head last ∙ sym (with_head-put heads b head can.bucket) in
      let place : get_or ns (b / 508) 0 ≡ n =
      ap (λ (xs : List ℕ). get_or xs (b / 508) 0) grown
      ∙ ap (λ (i : ℕ). get_or (m.segments ++ n ∷ []) i 0) added
      ∙ get_or-append_seam m.segments n [] 0 in
      let segments : ns ≡ cond (eqb (b / 508) (length m.segments))
      (m.segments ++ next_page s ∷ []) m.segments
      = grown ∙ ap (λ (k : ℕ). m.segments ++ k ∷ []) is
      ∙ ap (λ (t : Bool). cond t (m.segments ++ next_page s ∷ []) m.segments) (sym test) in
      let read = added_read old new m.segments heads n head unused full
      can.heads_are.are_read page others in
      record {
        segments_are = ap (λ (xs : List ℕ). record m { segments = xs }) segments;
        free_is = kept ∙ ap (λ (t : Bool). state_of (cond t (after_take s) s)) (sym test);
        are_read = subst (λ (xs : List ℕ). AreRead new (segment_bodies xs (with_head heads b head)))
            (sym grown) (subst (λ (hs : List ℕ).
            AreRead new (segment_bodies (m.segments ++ n ∷ []) hs)) more read);
        others = λ k ne. others k (λ same. ne (same ∙ sym place));
      }

-- a segment is added
pub adds : (m : model.Meta) (ns : List ℕ) (n b : ℕ) → b / 508 ≡ length m.segments → 1 ≤ n
    → IsNumber n → ns ≡ m.segments ++ n ∷ [] → AddsSegment m (record m { segments = ns }) b
adds m ns n b added some small grown =
    subst (λ (xs : List ℕ). AddsSegment m (record m { segments = xs }) b) (sym grown) record {
      rest = refl;
      kept = take-append_seam m.segments (n ∷ []);
      count = omega (arith, length-append m.segments (n ∷ []));
      used = λ all. All-append (λ k. (0 < k) × IsNumber k) m.segments (n ∷ []) all
          (All-from_recursion (λ k. (0 < k) × IsNumber k) (n ∷ []) ((some, small), tt));
    }

-- or none
pub adds_none : (m : model.Meta) (b : ℕ) → b / 508 < length m.segments → AddsSegment m m b
adds_none m b there = record {
  rest = refl;
  kept = take-length m.segments;
  count = omega arith;
  used = λ all. all;
}
