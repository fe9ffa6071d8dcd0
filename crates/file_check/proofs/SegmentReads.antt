-- The page of a segment, and its chains.
use Rattle.std.proofs.Common.{◌≡◌, ℕ, suc, ◌+◌, ◌-◌, ◌*◌, ◌<◌, ◌≤◌, Bool, All, Result, Ok, Err, List, [], ◌∷◌, length, get_or, drop, replicate, refl, sym, ap, ◌∙◌, subst, arith}
use Rattle.std.specs.Prelude.{IfOk}
use Rattle.std.specs.List.{AllByRecursion}
use Rattle.std.proofs.lemmas.List.{get_or-map}
use Rattle.std.proofs.lemmas.List.Elements.{recursion_from_All}
use Rattle.page_model.specs.Bytes.{u32_at}
use Rattle.page_model.specs.Chain.{Chain, numbers}
use Rattle.page_model.specs.Numbers.{IsNumber}
use Rattle.page_model.specs.PageBodies.{first_of, heads_of}
use Rattle.page_model.specs.Pages as model
use Rattle.page_model.specs.Pages.{Body, SegmentPage}
use Rattle.page_model.specs.Reading.{body_of}
use Rattle.page_model.specs.Spelling.{segment_spelling}
use Rattle.page_model.specs.Valid.{MaySay}
use Rattle.page_model.proofs.Bodies.{body_is}
use Rattle.page_model.proofs.Numbers.{numbers_again, trimmed-is}
use Rattle.seg_table.specs.Segments.{heads_in, IsSegment}
use Rattle.seg_table.proofs.Entries.{get_or-numbers_at}
use Rattle.seg_table.proofs.HeadTexts.{entry_is, heads_of_said, said_segment}
use Rattle.file_check.specs.Segments.{AreChains, AreHeadChains, AreHeadsChecked, AreInSegment, IsSegmentChecked}
use Rattle.file_check.proofs.ChainReads.{length-heads}

-- what an answer says, by what it said
pub if_ok : {A E : Type 0} (P Q : A → Type 0) (result : Result A E) → IfOk result P
    → ((x : A) → P x → Q x) → IfOk result Q
if_ok P Q (Ok x) is then = then x is
if_ok P Q (Err e) is then = tt

-- lists of one length with the same numbers at each place
lists_same : (xs ys : List ℕ) → length xs ≡ length ys
    → ((i : ℕ) → i < length xs → get_or xs i 0 ≡ get_or ys i 0) → xs ≡ ys
lists_same [] [] many each = refl
lists_same [] (y ∷ ys) many each = absurd (omega arith)
lists_same (x ∷ xs) [] many each = absurd (omega arith)
lists_same (x ∷ xs) (y ∷ ys) many each =
    let first : x ≡ y = each 0 (omega arith) in
    let rest = lists_same xs ys (omega arith) (λ i lt. each (suc i) (omega arith)) in
    λ i. first i ∷ rest i

-- place i of a spelled segment page is head i
spelled_entry : (bytes heads : List ℕ) (own i : ℕ) → All IsNumber heads
    → bytes ≡ segment_spelling own heads → i < length heads
    → u32_at bytes (16 + 4 * i) ≡ get_or heads i 0
unfolding segment_spelling
spelled_entry bytes heads own i all e lt =
    let zeros : List ℕ = replicate (2032 - 4 * length heads) 0 in
    sym (get_or-numbers_at bytes (length heads) 16 i (16 + 4 * i) lt refl)
    ∙ ap (λ (ns : List ℕ). get_or ns i 0)
    (numbers_again bytes zeros heads 16 (recursion_from_All IsNumber heads all) (ap (drop 16) e))

head_at : (chains : List Chain) (i : ℕ) → i < length chains
    → get_or (heads_of chains) i 0 ≡ first_of (numbers (get_or chains i []))
head_at chains i lt = get_or-map (λ (c : Chain). first_of (numbers c)) chains i [] 0 lt

-- ---- chains that are found

-- a segment page says the heads that were read of it
heads_are_said : (bytes : List ℕ) (own count : ℕ) (chains : List Chain) → IsNumber own
    → count ≤ 508 → IsSegment bytes own count → length chains ≡ count
    → ((i : ℕ) → i < length chains
    → u32_at bytes (16 + 4 * i) ≡ first_of (numbers (get_or chains i [])))
    → AllByRecursion (λ head. 0 < head) (heads_of chains)
    → body_of own bytes ≡ SegmentPage (heads_of chains)
heads_are_said bytes own count chains small few is many heads some =
    let lengths : length is.heads ≡ length (heads_of chains) =
    omega (arith, is.many, many, length-heads chains) in
    let same : is.heads ≡ heads_of chains = lists_same is.heads (heads_of chains) lengths
    (λ i lt. let within : i < length chains = omega (arith, lt, is.many, many) in
    sym (spelled_entry bytes is.heads own i is.numbers is.spelled lt) ∙ heads i within
    ∙ sym (head_at chains i within)) in
    let room : length (heads_of chains) ≤ 508 = omega (arith, many, few, length-heads chains) in
    let may : MaySay own (SegmentPage (heads_of chains)) =
    (small, room, subst (All IsNumber) same is.numbers, trimmed-is (heads_of chains) some) in
    (body_is own bytes (SegmentPage (heads_of chains)) may).0
    (is.spelled ∙ ap (segment_spelling own) same)

pub segment_checked : (at : ℕ → Body) (end : ℕ) (m : model.Meta) (s first count pairs : ℕ)
    (bytes : List ℕ) (marks : List Bool) (seen : List ℕ)
    → AreHeadsChecked at end m bytes first count pairs marks seen
    → at (get_or m.segments s 0) ≡ body_of (get_or m.segments s 0) bytes
    → IsSegment bytes (get_or m.segments s 0) (heads_in m s) → IsNumber (get_or m.segments s 0)
    → count ≡ heads_in m s → first ≡ 508 * s → IsSegmentChecked at end m s pairs marks seen
segment_checked at end m s first count pairs bytes marks seen is read segment small many begin =
    let said = heads_are_said bytes (get_or m.segments s 0) (heads_in m s) is.chains small
    (omega arith) segment (is.are.many ∙ many) is.are.heads is.some in
    record {
      chains = is.chains;
      are = record {
        said = read ∙ said;
        many = is.are.many ∙ many;
        are = subst (λ (b : ℕ). AreChains at m b is.chains) begin is.are.are;
      };
      counted = is.counted;
    }

-- ---- chains that are given

pub is_segment : (at : ℕ → Body) (m : model.Meta) (s : ℕ) (bytes : List ℕ) (chains : List Chain)
    → AreInSegment at m s chains → length bytes ≡ 2048
    → at (get_or m.segments s 0) ≡ body_of (get_or m.segments s 0) bytes
    → IsSegment bytes (get_or m.segments s 0) (heads_in m s)
is_segment at m s bytes chains is long read =
    said_segment bytes (get_or m.segments s 0) (heads_in m s) (heads_of chains) long
    (length-heads chains ∙ is.many) (sym read ∙ is.said)

pub head_chains : (at : ℕ → Body) (m : model.Meta) (s first count : ℕ) (bytes : List ℕ)
    (chains : List Chain) → AreInSegment at m s chains → length bytes ≡ 2048
    → at (get_or m.segments s 0) ≡ body_of (get_or m.segments s 0) bytes
    → count ≡ heads_in m s → first ≡ 508 * s
    → AreHeadChains at m bytes first count chains
head_chains at m s first count bytes chains is long read many begin =
    let same = heads_of_said bytes (get_or m.segments s 0) (heads_of chains)
    (sym read ∙ is.said) in
    record {
      many = is.many ∙ sym many;
      heads = λ i lt. entry_is bytes i long (omega (arith, lt, is.many))
          ∙ ap (λ (ns : List ℕ). get_or ns i 0) (sym same) ∙ head_at chains i lt;
      are = subst (λ (b : ℕ). AreChains at m b chains) (sym begin) is.are;
    }
