-- What is spelled as the meta page or as a segment page is read back.
use Rattle.std.proofs.Common.{◌≡◌, ℕ, ◌-◌, ◌*◌, ◌/◌, ◌^◌, ◌≤◌, ◌<◌, List, [], ◌++◌, length, replicate, drop, refl, sym, ap, ◌∙◌, arith, inl, inr, All}
use Rattle.std.proofs.lemmas.Bool.{cases_lt}
use Rattle.std.proofs.Math.Pow.{pow_mono}
use Rattle.std.proofs.lemmas.List.{append-nil, length-append, length-replicate}
use Rattle.std.proofs.lemmas.List.Elements.{recursion_from_All}
use Rattle.dbm_model.specs.Bounds.{Version, V1, V2, version_number}
use Rattle.page_model.specs.Bytes.{u32_at}
use Rattle.page_model.specs.Numbers.{IsNumber, numbers_bytes, numbers_at}
use Rattle.page_model.specs.Pages.{Meta}
use Rattle.page_model.specs.Spelling.{header, counts, meta_spelling, segment_spelling}
use Rattle.page_model.specs.Reading.{trimmed, version_of, fields_of, heads_on}
use Rattle.page_model.specs.Valid.{IsMeta}
use Rattle.page_model.proofs.Buckets.{four_is}
use Rattle.page_model.proofs.Numbers.{length-numbers_bytes, numbers_bytes-append, numbers_bytes-zeros, numbers_again, with_zeros, trimmed-append_zeros}

-- a limit of a million has few levels
pub level_small : (m : Meta) → IsMeta m → m.level ≤ 16
level_small m h =
    elim (cases_lt 16 m.level) [
      | inl lt ↦
          let most : 2 ^ 17 ≤ 2 ^ m.level = pow_mono {i = 17} {j = m.level} (omega arith) in
          absurd (omega (arith, most, h.few_buckets, h.limited.1))
      | inr ge ↦ ge
    ]

-- the segments fit the meta page
pub few_segments : (m : Meta) → IsMeta m → length m.segments ≤ 496
few_segments m h = omega (arith, h.all_segments, h.few_buckets, h.limited.1)

-- the numbers of a meta page, where they stand
pub record Counts (bytes : List ℕ) (m : Meta) : Type 0 where
  pub version : u32_at bytes 16 ≡ version_number m.bounds.version
  pub limit : u32_at bytes 20 ≡ m.bounds.limit
  pub pairs : u32_at bytes 24 ≡ m.pairs
  pub level : u32_at bytes 28 ≡ m.level
  pub split : u32_at bytes 32 ≡ m.split
  pub free_head : u32_at bytes 36 ≡ m.free_head
  pub free_count : u32_at bytes 40 ≡ m.free_count
  pub count : u32_at bytes 44 ≡ length m.segments

number_small : (v : Version) → version_number v < 2 ^ 32
number_small V1 = omega arith
number_small V2 = omega arith

version_again : (v : Version) → version_of (version_number v) ≡ v
version_again V1 = refl
version_again V2 = refl

-- the numbers of a spelled meta page are read
pub counts_again : (bytes rest : List ℕ) (m : Meta) → IsMeta m
    → bytes ≡ header 1 1 0 0 0 ++ (numbers_bytes (counts m) ++ rest) → Counts bytes m
counts_again bytes rest m h e =
    let few = few_segments m h in
    let small = level_small m h in
    record {
      version = ap (λ (x : List ℕ). u32_at x 16) e
          ∙ four_is (version_number m.bounds.version) (number_small m.bounds.version);
      limit = ap (λ (x : List ℕ). u32_at x 20) e ∙ four_is m.bounds.limit (omega (arith, h.limited.1));
      pairs = ap (λ (x : List ℕ). u32_at x 24) e
          ∙ four_is m.pairs (omega (arith, h.limited.1, h.few_pairs.0));
      level = ap (λ (x : List ℕ). u32_at x 28) e ∙ four_is m.level (omega arith);
      split = ap (λ (x : List ℕ). u32_at x 32) e
          ∙ four_is m.split (omega (arith, h.few_buckets, h.limited.1));
      free_head = ap (λ (x : List ℕ). u32_at x 36) e ∙ four_is m.free_head h.numbers.0;
      free_count = ap (λ (x : List ℕ). u32_at x 40) e ∙ four_is m.free_count h.numbers.1;
      count = ap (λ (x : List ℕ). u32_at x 44) e ∙ four_is (length m.segments) (omega arith);
    }

-- what a spelled meta page says
pub fields_again : (bytes : List ℕ) (m : Meta) → IsMeta m → bytes ≡ meta_spelling 1 m
    → fields_of bytes ≡ m
unfolding fields_of meta_spelling
fields_again bytes m h e =
    let zeros : List ℕ = replicate (1984 - 4 * length m.segments) 0 in
    let s = counts_again bytes (replicate 16 0 ++ (numbers_bytes m.segments ++ zeros)) m h e in
    let segments : numbers_at bytes 64 (u32_at bytes 44) ≡ m.segments =
    ap (numbers_at bytes 64) s.count
    ∙ numbers_again bytes zeros m.segments 64
    (recursion_from_All IsNumber m.segments (λ k d lt. (h.used k d lt).1)) (ap (drop 64) e) in
    let version = ap version_of s.version ∙ version_again m.bounds.version in
    let limit = s.limit in let pairs = s.pairs in let level = s.level in let split = s.split in
    let free_head = s.free_head in let free_count = s.free_count in
    rw (version, limit, pairs, level, split, free_head, free_count, segments) refl

-- what a spelled segment page says
pub heads_again : (bytes heads : List ℕ) (own : ℕ) → length heads ≤ 508 → All IsNumber heads
    → trimmed heads ≡ heads → bytes ≡ segment_spelling own heads → heads_on bytes ≡ heads
unfolding heads_on segment_spelling
heads_again bytes heads own le all ends e =
    let ok = recursion_from_All IsNumber heads all in
    let j = 508 - length heads in
    let zeros : List ℕ = replicate (2032 - 4 * length heads) 0 in
    let padded : List ℕ = heads ++ replicate j 0 in
    let long : length bytes ≡ 2048 =
    omega (
      arith,
      ap length e,
      length-append (numbers_bytes heads) zeros,
      length-numbers_bytes heads,
      length-replicate {A = ℕ} (2032 - 4 * length heads) 0,
    ) in
    let many : length padded ≡ (length bytes - 16) / 4 =
    omega (arith, long, length-append heads (replicate j 0), length-replicate {A = ℕ} j 0) in
    let text : numbers_bytes heads ++ zeros ≡ numbers_bytes padded =
    ap (λ (n : ℕ). numbers_bytes heads ++ replicate n 0)
    (let k : 2032 - 4 * length heads ≡ 4 * j = omega arith in k)
    ∙ ap (λ (t : List ℕ). numbers_bytes heads ++ t) (sym (numbers_bytes-zeros j))
    ∙ sym (numbers_bytes-append heads (replicate j 0)) in
    let d16 : drop 16 bytes ≡ numbers_bytes padded ++ [] =
    ap (drop 16) e ∙ text ∙ sym (append-nil (numbers_bytes padded)) in
    let numbers : numbers_at bytes 16 (length padded) ≡ padded =
    numbers_again bytes [] padded 16 (with_zeros heads j ok) d16 in
    ap (λ (n : ℕ). trimmed (numbers_at bytes 16 n)) (sym many) ∙ ap trimmed numbers
    ∙ trimmed-append_zeros heads j ∙ ends
