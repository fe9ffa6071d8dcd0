-- Segment pages: what is read by places is what is spelled.
use Rattle.std.proofs.Common.{◌≡◌, ℕ, ◌+◌, ◌-◌, ◌*◌, ◌<◌, ◌≤◌, min, List, [], ◌++◌, length, replicate, drop, refl, sym, ap, subst, ◌∙◌, arith}
use Rattle.std.proofs.lemmas.List.{append-nil}
use Rattle.std.proofs.lemmas.List.Elements.{All-from_recursion}
use Rattle.page_model.specs.Numbers.{IsNumber, numbers_bytes, numbers_at}
use Rattle.page_model.specs.Reading.{next_of, IsClear}
use Rattle.page_model.specs.Spelling.{header, segment_spelling}
use Rattle.page_model.proofs.Numbers.{length-numbers_bytes, length-numbers_at, numbers_text, numbers_small}
use Rattle.page_model.proofs.Texts.{IsBytes, IsText, text_then, zeros_text, skip, clear_again, whole}
use Rattle.page_io.specs.Plain.{HasPlainHeader}
use Rattle.page_io.proofs.PlainPages.{plain_text, plain_again}
use Rattle.seg_table.specs.Segments.{IsSegment}

-- the bytes are laid out as a segment page's
pub record IsSegmentPage (bytes : List ℕ) (own count : ℕ) : Type 0 where
  pub header : HasPlainHeader bytes own 2
  pub no_next : next_of bytes ≡ 0
  pub rest : IsClear bytes (16 + 4 * count) 2048

-- a page that is laid out so is spelled so
pub segment_found : (bytes : List ℕ) (own count : ℕ) → length bytes ≡ 2048 → IsBytes bytes
    → count ≤ 508 → IsSegmentPage bytes own count → IsSegment bytes own count
unfolding segment_spelling
segment_found bytes own count len fits le h =
    let heads = numbers_at bytes 16 count in
    let many = length-numbers_at bytes 16 count in
    let zeros : List ℕ = replicate (2032 - 4 * length heads) 0 in
    let t0 = subst (λ (n : ℕ). IsText bytes 0 (header own 2 0 n 0) 16) h.no_next
    (plain_text bytes own 2 (omega arith) fits h.header) in
    let t1 = numbers_text bytes fits count 16 (16 + 4 * count) refl (omega arith) in
    let t2 = zeros_text bytes (2032 - 4 * length heads) (16 + 4 * count) 2048 (omega (arith, many))
    (omega arith) h.rest in
    let body = text_then bytes 16 (numbers_bytes heads) (16 + 4 * count) zeros 2048 t1 t2 in
    record {
      heads = heads;
      many = many;
      numbers = All-from_recursion IsNumber heads (numbers_small bytes fits count 16);
      spelled = whole bytes (header own 2 0 0 0 ++ (numbers_bytes heads ++ zeros)) len
          (text_then bytes 0 (header own 2 0 0 0) 16 (numbers_bytes heads ++ zeros) 2048 t0 body);
    }

-- and a page that is spelled so is laid out so
pub segment_again : (bytes : List ℕ) (own count : ℕ) → IsNumber own → count ≤ 508
    → IsSegment bytes own count → IsSegmentPage bytes own count
unfolding segment_spelling
segment_again bytes own count a le h =
    let heads = h.heads in
    let many = h.many in
    let zeros : List ℕ = replicate (2032 - 4 * length heads) 0 in
    let plain = plain_again bytes (numbers_bytes heads ++ zeros) own 2 0 a
    (omega arith) h.spelled in
    let d16 : drop 16 bytes ≡ numbers_bytes heads ++ zeros = ap (drop 16) h.spelled in
    let dn : drop (16 + 4 * count) bytes ≡ zeros =
    skip bytes (numbers_bytes heads) zeros 16 (16 + 4 * count) d16
    (omega (arith, length-numbers_bytes heads)) in
    record {
      header = plain.good;
      no_next = plain.next_is;
      rest = clear_again bytes [] (16 + 4 * count) (2032 - 4 * length heads) 2048
          (dn ∙ sym (append-nil zeros)) (omega arith);
    }

-- so many of a segment's buckets exist, where no product is too large
pub heads_counted : (s b buckets product left heads : ℕ) → b < 4294967296 → b ≡ buckets
    → product ≡ min (508 * s) 18446744073709551615 → left ≡ b - product → heads ≡ min left 508
    → heads ≡ min (buckets - 508 * s) 508
heads_counted s b buckets product left heads small is multiplied less most =
    omega (arith, small, is, multiplied, less, most)
