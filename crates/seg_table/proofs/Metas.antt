-- The meta page: what is read by places is what is spelled.
use Rattle.std.proofs.Common.{◌≡◌, ◌↔◌, ℕ, ◌+◌, ◌-◌, ◌*◌, ◌^◌, ◌<◌, ◌≤◌, List, [], ◌∷◌, ◌++◌, length, replicate, drop, refl, sym, ap, subst, ◌∙◌, arith}
use Rattle.std.proofs.lemmas.List.{append-nil, length-replicate, replicate-append-replicate}
use Rattle.dbm_model.specs.Bounds.{Version, V1, V2, version_number}
use Rattle.page_model.specs.Bytes.{u32_at, overwrite}
use Rattle.page_model.specs.Numbers.{numbers_bytes, numbers_at}
use Rattle.page_model.specs.Pages as model
use Rattle.page_model.specs.Pages.{MetaPage}
use Rattle.page_model.specs.Reading.{body_of, version_of, fields_of, IsClear}
use Rattle.page_model.specs.Spelling.{header, counts, meta_spelling}
use Rattle.page_model.specs.Valid.{IsMeta}
use Rattle.page_model.proofs.Bodies.{body_is}
use Rattle.page_model.proofs.Metas.{level_small, few_segments, counts_again, fields_again}
use Rattle.page_model.proofs.Numbers.{length-numbers_bytes, length-numbers_at, numbers_text}
use Rattle.page_model.proofs.Texts.{IsBytes, IsText, text_then, zeros_text, skip, clear_again, whole}
use Rattle.page_model.proofs.Writes.{overwrite_mid}
use Rattle.lin_addr.specs.Shapes.{CanBe}
use Rattle.page_io.proofs.PlainPages.{plain_text, plain_again}
use Rattle.seg_table.specs.MetaPages.{HasMetaHeader, IsUnknown, IsMetaLayout}

-- a number tells the version that it is the number of
told_again : (v : Version) → version_of (version_number v) ≡ v
told_again V1 = refl
told_again V2 = refl

pub told_version : (v : Version) (n : ℕ) → version_number v ≡ n → v ≡ version_of n
told_version v n is = sym (told_again v) ∙ ap version_of is

-- and one that tells a version is 1 or 2
pub told_known : (n : ℕ) → version_number (version_of n) ≡ n → IsUnknown n → ⊥
told_known n is unknown = by_version (version_of n) is
  where
    by_version : (v : Version) → version_number v ≡ n → ⊥
    by_version V1 is = unknown.0 (sym is)
    by_version V2 is = unknown.1 (sym is)

-- the bytes are laid out as a meta page's
pub record IsMetaPage (bytes : List ℕ) : Type 0 where
  pub headed : HasMetaHeader bytes
  pub version : version_number (version_of (u32_at bytes 16)) ≡ u32_at bytes 16
  pub laid : IsMetaLayout bytes
  pub sound : IsMeta (fields_of bytes)

-- the numbers before the segments
counts_are : (bytes : List ℕ) → version_number (version_of (u32_at bytes 16)) ≡ u32_at bytes 16
    → numbers_at bytes 16 8 ≡ counts (fields_of bytes)
unfolding fields_of
counts_are bytes e =
    ap (λ (n : ℕ). n ∷ numbers_at bytes 20 7) (sym e)
    ∙ ap (λ (n : ℕ). version_number (version_of (u32_at bytes 16)) ∷ u32_at bytes 20
    ∷ u32_at bytes 24 ∷ u32_at bytes 28 ∷ u32_at bytes 32 ∷ u32_at bytes 36 ∷ u32_at bytes 40 ∷ n
    ∷ [])
    (sym (length-numbers_at bytes 64 (u32_at bytes 44)))

-- a page that is laid out so is spelled so
pub meta_found : (bytes : List ℕ) → length bytes ≡ 2048 → IsBytes bytes → IsMetaPage bytes
    → bytes ≡ meta_spelling 1 (fields_of bytes)
unfolding meta_spelling fields_of
meta_found bytes len fits h =
    let count = u32_at bytes 44 in
    let segments = numbers_at bytes 64 count in
    let many : length segments ≡ count = length-numbers_at bytes 64 count in
    let few : length segments ≤ 496 = few_segments (fields_of bytes) h.sound in
    let zeros : List ℕ = replicate (1984 - 4 * length segments) 0 in
    let numbers = numbers_bytes (counts (fields_of bytes)) in
    let t0 = subst (λ (n : ℕ). IsText bytes 0 (header 1 1 0 n 0) 16) h.headed.no_next
    (plain_text bytes 1 1 (omega arith) fits h.headed.header) in
    let t1 = subst (λ (ns : List ℕ). IsText bytes 16 (numbers_bytes ns) 48)
    (counts_are bytes h.version) (numbers_text bytes fits 8 16 48 refl (omega arith)) in
    let t2 = zeros_text bytes 16 48 64 refl (omega arith) h.laid.zeros in
    let t3 = numbers_text bytes fits count 64 (64 + 4 * count) refl (omega arith) in
    let t4 = zeros_text bytes (1984 - 4 * length segments) (64 + 4 * count) 2048
    (omega (arith, many)) (omega arith) h.laid.rest in
    let b3 = text_then bytes 64 (numbers_bytes segments) (64 + 4 * count) zeros 2048 t3 t4 in
    let b2 = text_then bytes 48 (replicate 16 0) 64 (numbers_bytes segments ++ zeros) 2048 t2 b3 in
    let b1 = text_then bytes 16 numbers 48
    (replicate 16 0 ++ (numbers_bytes segments ++ zeros)) 2048 t1 b2 in
    whole bytes (header 1 1 0 0 0
    ++ (numbers ++ (replicate 16 0 ++ (numbers_bytes segments ++ zeros)))) len
    (text_then bytes 0 (header 1 1 0 0 0) 16
    (numbers ++ (replicate 16 0 ++ (numbers_bytes segments ++ zeros))) 2048 t0 b1)

-- and a page that is spelled so is laid out so
pub meta_again : (bytes : List ℕ) (m : model.Meta) → IsMeta m → bytes ≡ meta_spelling 1 m
    → IsMetaPage bytes
unfolding meta_spelling
meta_again bytes m h e =
    let few = few_segments m h in
    let small = level_small m h in
    let zeros : List ℕ = replicate (1984 - 4 * length m.segments) 0 in
    let s = counts_again bytes (replicate 16 0 ++ (numbers_bytes m.segments ++ zeros)) m h e in
    let plain = plain_again bytes
    (numbers_bytes (counts m) ++ (replicate 16 0 ++ (numbers_bytes m.segments ++ zeros))) 1 1 0
    (omega arith) (omega arith) e in
    let d64 : drop 64 bytes ≡ numbers_bytes m.segments ++ zeros = ap (drop 64) e in
    let dn : drop (64 + 4 * length m.segments) bytes ≡ zeros =
    skip bytes (numbers_bytes m.segments) zeros 64 (64 + 4 * length m.segments) d64
    (omega (arith, length-numbers_bytes m.segments)) in
    let rest = clear_again bytes [] (64 + 4 * length m.segments) (1984 - 4 * length m.segments) 2048
    (dn ∙ sym (append-nil zeros)) (omega arith) in
    record {
      headed = record { header = plain.good; no_next = plain.next_is };
      version = ap (λ (n : ℕ). version_number (version_of n)) s.version
          ∙ ap version_number (told_again m.bounds.version) ∙ sym s.version;
      laid = record {
        shape = (
          omega (arith, s.level),
          subst (λ (l : ℕ). u32_at bytes 32 < 2 ^ l) (sym s.level)
              (omega (arith, s.split, h.split_in)),
        );
        few = omega (arith, s.count);
        zeros = clear_again bytes (numbers_bytes m.segments ++ zeros) 48 16 64
            (ap (drop 48) e) refl;
        rest = λ k ge lt. rest k (omega (arith, s.count)) lt;
      };
      sound = subst IsMeta (sym (fields_again bytes m h e)) h;
    }

-- what two writes leave of a page with a header alone
pub meta_written : (m : model.Meta) (start one two segments : List ℕ) (number count : ℕ)
    → length m.segments ≤ 496 → count ≡ length m.segments → segments ≡ m.segments
    → number ≡ version_number m.bounds.version → start ≡ header 1 1 0 0 0 ++ replicate 2032 0
    → one ≡ overwrite start 16 (numbers_bytes
    (number ∷ m.bounds.limit ∷ m.pairs ∷ m.level ∷ m.split ∷ m.free_head ∷ m.free_count ∷ count
    ∷ []))
    → two ≡ overwrite one 64 (numbers_bytes segments) → two ≡ meta_spelling 1 m
unfolding meta_spelling
meta_written m start one two segments number count few f g told a b d =
    let n = 4 * length m.segments in
    let zn : List ℕ = replicate n 0 in
    let rest : List ℕ = replicate (1984 - n) 0 in
    let z16 : List ℕ = replicate 16 0 in
    let z32 : List ℕ = replicate 32 0 in
    let numbers = numbers_bytes (counts m) in
    let one' : one ≡ overwrite start 16 numbers =
    b ∙ ap (λ (k : ℕ). overwrite start 16
    (numbers_bytes (number ∷ m.bounds.limit ∷ m.pairs ∷ m.level ∷ m.split ∷ m.free_head
    ∷ m.free_count ∷ k ∷ []))) f
    ∙ ap (λ (v : ℕ). overwrite start 16
    (numbers_bytes (v ∷ m.bounds.limit ∷ m.pairs ∷ m.level ∷ m.split ∷ m.free_head ∷ m.free_count
    ∷ length m.segments ∷ []))) told in
    let two' : two ≡ overwrite one 64 (numbers_bytes m.segments) =
    d ∙ ap (λ (ns : List ℕ). overwrite one 64 (numbers_bytes ns)) g in
    let tail : replicate 1984 0 ≡ zn ++ rest =
    ap (λ (k : ℕ). replicate k 0) (let k : 1984 ≡ n + (1984 - n) = omega arith in k)
    ∙ sym (replicate-append-replicate n (1984 - n) 0) in
    let parts : replicate 2032 0 ≡ z32 ++ (z16 ++ (zn ++ rest)) =
    sym (replicate-append-replicate 32 2000 0)
    ∙ ap (λ (x : List ℕ). z32 ++ x)
    (sym (replicate-append-replicate 16 1984 0) ∙ ap (λ (x : List ℕ). z16 ++ x) tail) in
    let first : overwrite (header 1 1 0 0 0 ++ (z32 ++ (z16 ++ (zn ++ rest)))) 16 numbers
    ≡ header 1 1 0 0 0 ++ (numbers ++ (z16 ++ (zn ++ rest))) =
    overwrite_mid (header 1 1 0 0 0) z32 (z16 ++ (zn ++ rest)) numbers 16 refl refl in
    let front = header 1 1 0 0 0 ++ (numbers ++ z16) in
    let second : overwrite (front ++ (zn ++ rest)) 64 (numbers_bytes m.segments) ≡ front
    ++ (numbers_bytes m.segments ++ rest) =
    overwrite_mid front zn rest (numbers_bytes m.segments) 64 refl
    (omega (arith, length-numbers_bytes m.segments, length-replicate {A = ℕ} n 0)) in
    let started : start ≡ header 1 1 0 0 0 ++ (z32 ++ (z16 ++ (zn ++ rest))) =
    a ∙ ap (λ (x : List ℕ). header 1 1 0 0 0 ++ x) parts in
    let filled : one ≡ header 1 1 0 0 0 ++ (numbers ++ (z16 ++ (zn ++ rest))) =
    one' ∙ ap (λ (x : List ℕ). overwrite x 16 numbers) started ∙ first in
    two' ∙ ap (λ (x : List ℕ). overwrite x 64 (numbers_bytes m.segments)) filled ∙ second

-- what is read by places is what was read
pub fields_read : (bytes segments : List ℕ) (version : Version)
    (limit pairs level split free_head free_count : ℕ)
    → limit ≡ u32_at bytes 20 → pairs ≡ u32_at bytes 24 → level ≡ u32_at bytes 28
    → split ≡ u32_at bytes 32
    → free_head ≡ u32_at bytes 36 → free_count ≡ u32_at bytes 40
    → segments ≡ numbers_at bytes 64 (u32_at bytes 44) → version ≡ version_of (u32_at bytes 16)
    → record {
      bounds = record { limit = limit; version = version };
      pairs = pairs;
      level = level;
      split = split;
      free_head = free_head;
      free_count = free_count;
      segments = segments;
    } ≡ fields_of bytes
unfolding fields_of
fields_read bytes segments version limit pairs level split free_head free_count a b d e f g k told =
    rw (a, b, d, e, f, g, k, told) refl

-- and it is laid out as it was read
pub layout_read : (bytes : List ℕ) (level split count : ℕ) → level ≡ u32_at bytes 28
    → split ≡ u32_at bytes 32 → count ≡ u32_at bytes 44 → CanBe level split → count ≤ 496
    → IsClear bytes 48 64 → IsClear bytes (64 + 4 * count) 2048 → IsMetaLayout bytes
layout_read bytes level split count a b d can few zeros rest = record {
  shape = subst (λ (l : ℕ). CanBe l (u32_at bytes 32)) a (subst (CanBe level) b can);
  few = subst (λ (n : ℕ). n ≤ 496) d few;
  zeros = zeros;
  rest = subst (λ (n : ℕ). IsClear bytes (64 + 4 * n) 2048) d rest;
}

-- a page that isn't laid out so is spelled by no meta
pub none_spelled : (bytes : List ℕ) → (IsMetaPage bytes → ⊥) → (m : model.Meta) → IsMeta m
    → bytes ≡ meta_spelling 1 m → ⊥
none_spelled bytes none m h e = none (meta_again bytes m h e)

-- and says none
pub none_said : (bytes : List ℕ) → (IsMetaPage bytes → ⊥) → (m : model.Meta) → IsMeta m
    → ⊥ ↔ (body_of 1 bytes ≡ MetaPage m)
none_said bytes none m h = (
  λ e. absurd e,
  λ e.
      none (meta_again bytes m h ((body_is 1 bytes (MetaPage m) (refl, h)).1 e)),
)

-- a page that is laid out so says its fields
pub fields_said : (bytes : List ℕ) (read : model.Meta) → IsMeta read → bytes ≡ meta_spelling 1 read
    → (m : model.Meta) → IsMeta m
    → (read ≡ m) ↔ (body_of 1 bytes ≡ MetaPage m)
fields_said bytes read is spelled m h = (
  λ e. (body_is 1 bytes (MetaPage m) (refl, h)).0 (spelled ∙ ap (meta_spelling 1) e),
  λ e. sym (fields_again bytes read is spelled)
      ∙ fields_again bytes m h ((body_is 1 bytes (MetaPage m) (refl, h)).1 e),
)
