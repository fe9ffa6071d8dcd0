-- What a slot says that was spelled.
use Rattle.std.proofs.Common.{◌≡◌, ◌∙◌, sym, ap, refl, ℕ, zero, suc, ◌+◌, ◌*◌, ◌/◌, ◌%◌, ◌^◌, ◌<◌, ◌≤◌, List, [], ◌∷◌, ◌++◌, length, take, drop, get_or, Bool, true, cond, ◌&&◌, eqb, leb, arith}
use Rattle.std.proofs.lemmas.Bool.{and_from, le-leb, eq-eqb}
use Rattle.std.proofs.lemmas.List.{get_or-take, length-take-le, length-map, take-append-drop, drop_at}
use Rattle.sect_dev.specs.Device.{part_of}
use Rattle.page_model.specs.Bytes.{u32_at, u32_bytes, overwrite}
use Rattle.page_io.specs.Page.{part, page_at}
use Rattle.page_io.specs.Store.{Pages, pages_from, are_in_order, bytes_of}
use Rattle.page_io.specs.declared.page.Page.{Page}
use Rattle.page_io.proofs.Fields.{u32_again}
use Rattle.page_io.proofs.PageLaws.{page_of_parts}
use Rattle.commit_log.specs.Log.{Log, no_log, Slot, carry, unstamped, logged, log_by, Spells}
use Rattle.commit_log.specs.Pieces.{sector_at}
use Rattle.commit_log.proofs.Logs.{log_same}
use Rattle.commit_log.proofs.Words.{part_size, part_at, is_part, front_field, front_word}

-- a page is whole
pub long_at : (pages : List Page) (i : ℕ) → i < length pages
    → length (get_or (bytes_of pages) i []) ≡ 2048
long_at [] i lt = absurd (omega (arith, lt))
long_at (page ∷ pages) zero lt = page.whole
long_at (page ∷ pages) (suc i) lt = long_at pages i (omega (arith, lt))

-- pages that agree with a list
pub from_list : (f : ℕ → List ℕ) (at : ℕ) (pages : Pages)
    → ((i : ℕ) → i < length pages → f (at + i) ≡ get_or pages i [])
    → pages_from f at (length pages) ≡ pages
from_list f at [] same = refl
from_list f at (page ∷ pages) same =
    let here : at + 0 ≡ at = omega arith in
    ap (λ (p : List ℕ). p ∷ pages_from f (at + 1) (length pages))
    (ap f (sym here) ∙ same 0 (omega arith))
    ∙ ap (λ (ps : Pages). page ∷ ps) (from_list f (at + 1) pages
    (λ i lt. let place : at + 1 + i ≡ at + suc i = omega arith in
    ap f place ∙ same (suc i) (omega (arith, lt))))

pub carry_from : (slot : Slot) (number count : ℕ)
    → ((k : ℕ) → k < count → u32_at (slot (1 + k)) 0 ≡ number) → carry slot number count ≡ true
carry_from slot number zero is = refl
carry_from slot number (suc count) is =
    and_from (eqb (u32_at (slot (1 + count)) 0) number) (carry slot number count)
    (eq-eqb (u32_at (slot (1 + count)) 0) number (is count (omega arith)))
    (carry_from slot number count (λ k lt. is k (omega (arith, lt))))

-- a sector whose first bytes were replaced, with those again
pub put_back : (sector word : List ℕ) (number : ℕ) → word ≡ take 4 sector
    → word ++ drop 4 (overwrite sector 0 (u32_bytes number)) ≡ sector
put_back sector word number is =
    ap (λ (w : List ℕ). w ++ drop 4 (overwrite sector 0 (u32_bytes number))) is
    ∙ ap (λ (rest : List ℕ). take 4 sector ++ rest)
    (drop_at (u32_bytes number) (drop 4 sector) 4 refl)
    ∙ take-append-drop 4 sector

module _ (start number end : ℕ) (pages : List Page) (bytes first : List ℕ)
    (some : 1 ≤ length pages) (few : length pages ≤ 15) (one : 1 ≤ number) (fits : number < 2 ^ 32)
    (least : 4 ≤ end) (above : end ≤ start)
    (order : are_in_order 1 end (bytes_of pages) ≡ true) (long : length bytes ≡ 31232)
    (first_is : part_of bytes 0 ≡ part_of first 0)
    (first_long : length first ≡ 2048)
    (has_number : u32_at first 0 ≡ number) (has_count : u32_at first 4 ≡ length pages)
    (has_end : u32_at first 8 ≡ end)
    (words : (k : ℕ) → k < 4 * length pages
    → take 4 (drop (16 + 4 * k) first) ≡ take 4 (sector_at (bytes_of pages) k))
    (written : (k : ℕ) → k < 4 * length pages → part_of bytes (1 + k)
    ≡ overwrite (sector_at (bytes_of pages) k) 0 (u32_bytes number)) where
  count : length (bytes_of pages) ≡ length pages
  count = length-map pages (λ (p : Page). p.bytes)

  slot : Slot
  slot = part_of bytes

  number_is : u32_at (part_of bytes 0) 0 ≡ number
  number_is = ap (λ (s : List ℕ). u32_at s 0) first_is ∙ front_field first 0 (omega arith)
      ∙ has_number

  count_is : u32_at (part_of bytes 0) 4 ≡ length (bytes_of pages)
  count_is = ap (λ (s : List ℕ). u32_at s 4) first_is ∙ front_field first 4 (omega arith)
      ∙ has_count ∙ sym count

  end_is : u32_at (part_of bytes 0) 8 ≡ end
  end_is = ap (λ (s : List ℕ). u32_at s 8) first_is ∙ front_field first 8 (omega arith) ∙ has_end

  page_of : (k : ℕ) → k < 4 * length pages → k / 4 < length pages
  page_of k lt = omega (arith, lt)

  sector_long : (k : ℕ) → k < 4 * length pages → length (sector_at (bytes_of pages) k) ≡ 512
  sector_long k lt = part_size (get_or (bytes_of pages) (k / 4) []) (k % 4)
      (omega (arith, long_at pages (k / 4) (page_of k lt)))

  carries : (k : ℕ) → k < 4 * length pages → u32_at (part_of bytes (1 + k)) 0 ≡ number
  carries k lt = ap (λ (s : List ℕ). u32_at s 0) (written k lt)
      ∙ u32_again (sector_at (bytes_of pages) k) 0 number (omega (arith, sector_long k lt)) fits

  back : (k : ℕ) → k < 4 * length pages
      → unstamped (part_of bytes) k ≡ sector_at (bytes_of pages) k
  back k lt =
      ap (λ (s : List ℕ). take 4 (drop (16 + 4 * k) (part_of bytes 0)) ++ drop 4 s) (written k lt)
      ∙ put_back (sector_at (bytes_of pages) k) (take 4 (drop (16 + 4 * k) (part_of bytes 0)))
      number
      (ap (λ (s : List ℕ). take 4 (drop (16 + 4 * k) s)) first_is
      ∙ front_word first (16 + 4 * k) (omega (arith, lt, few)) (omega (arith, first_long))
      ∙ words k lt)

  page_back : (i : ℕ) → i < length (bytes_of pages)
      → page_at (unstamped (part_of bytes)) (0 + i) ≡ get_or (bytes_of pages) i []
  unfolding part part_of
  page_back i lt =
      let inside : i < length pages = omega (arith, lt, count) in
      page_of_parts (unstamped (part_of bytes)) (0 + i) (get_or (bytes_of pages) i [])
      (long_at pages i inside)
      (λ k klt.
      let whole : (4 * (0 + i) + k) / 4 ≡ i = omega (arith, klt) in
      let rest : (4 * (0 + i) + k) % 4 ≡ k = omega (arith, klt) in
      back (4 * (0 + i) + k) (omega (arith, inside, klt))
      ∙ ap (λ (j : ℕ). part_of (get_or (bytes_of pages) j []) ((4 * (0 + i) + k) % 4)) whole
      ∙ ap (part_of (get_or (bytes_of pages) i [])) rest)

  pages_back : logged (part_of bytes) ≡ bytes_of pages
  pages_back = ap (pages_from (page_at (unstamped (part_of bytes))) 0) count_is
      ∙ from_list (page_at (unstamped (part_of bytes))) 0 (bytes_of pages) page_back

  all_carry : carry (part_of bytes) (u32_at (part_of bytes 0) 0) (4 * u32_at (part_of bytes 0) 4)
      ≡ true
  all_carry = carry_from (part_of bytes) (u32_at (part_of bytes 0) 0)
      (4 * u32_at (part_of bytes 0) 4)
      (λ k lt. carries k (omega (arith, lt, count_is, count)) ∙ sym number_is)

  abbrev by_fields : ℕ → ℕ → ℕ → Bool → Pages → Log
  by_fields n c e all ps =
      cond ((((leb 1 n && (leb 1 c && leb c 15)) && (leb 4 e && leb e start)) && all)
      && are_in_order 1 e ps) (record { number = n; end = e; pages = ps }) no_log

  says : log_by start (part_of bytes)
      ≡ record { number = number; end = end; pages = bytes_of pages }
  unfolding log_by
  says =
      let c = u32_at (part_of bytes 0) 4 in
      let e = u32_at (part_of bytes 0) 8 in
      let all = carry (part_of bytes) (u32_at (part_of bytes 0) 0)
      (4 * u32_at (part_of bytes 0) 4) in
      ap (λ (n : ℕ). by_fields n c e all (logged (part_of bytes))) number_is
      ∙ ap (λ (c : ℕ). by_fields number c e all (logged (part_of bytes))) count_is
      ∙ ap (λ (e : ℕ). by_fields number (length (bytes_of pages)) e all (logged (part_of bytes)))
      end_is
      ∙ ap (λ (b : Bool). by_fields number (length (bytes_of pages)) end b
      (logged (part_of bytes))) all_carry
      ∙ ap (λ (ps : Pages). by_fields number (length (bytes_of pages)) end true ps) pages_back
      ∙ ap (λ (b : Bool). cond b
      (record { number = number; end = end; pages = bytes_of pages }) no_log) holds
    where
      holds : (((leb 1 number && (leb 1 (length (bytes_of pages))
          && leb (length (bytes_of pages)) 15)) && (leb 4 end && leb end start)) && true)
          && are_in_order 1 end (bytes_of pages) ≡ true
      holds = and_from _ _ (and_from _ _ (and_from _ _
          (and_from _ _ (le-leb 1 number one)
          (and_from _ _ (le-leb 1 (length (bytes_of pages)) (omega (arith, some, count)))
          (le-leb (length (bytes_of pages)) 15 (omega (arith, few, count)))))
          (and_from _ _ (le-leb 4 end least) (le-leb end start above))) refl) order

  stamped : (k : ℕ) → k < 1 + 4 * length (bytes_of pages)
      → u32_at (part_of bytes k) 0 ≡ number
  stamped zero lt = number_is
  stamped (suc k) lt =
      let place : 1 + k ≡ suc k = omega arith in
      ap (λ (j : ℕ). u32_at (part_of bytes j) 0) (sym place)
      ∙ carries k (omega (arith, lt, count))

  pub spells : Spells start number end (bytes_of pages) bytes
  spells = record {
    says = says;
    long = omega (arith, long, few, count);
    few = omega (arith, few, count);
    stamped = stamped;
    counted = count_is;
  }

-- the front of bytes has their parts
pub front_part : (bytes : List ℕ) (size k : ℕ) → size ≤ length bytes → 512 * k + 512 ≤ size
    → part_of (take size bytes) k ≡ part_of bytes k
front_part bytes size k fits inside =
    sym (is_part (take size bytes) (part_of bytes k) k
    (omega (arith, inside, length-take-le size bytes fits))
    (part_size bytes k (omega (arith, inside, fits)))
    (λ j within. part_at bytes k j within
    ∙ sym (get_or-take size bytes (512 * k + j) 0 (omega (arith, inside, within)))))

-- a commit is spelled by the sectors that it has
pub spelled_in_front : (start number end : ℕ) (pages : Pages) (bytes : List ℕ) (size : ℕ)
    → size ≡ 512 * (1 + 4 * length pages) → Spells start number end pages bytes
    → Spells start number end pages (take size bytes)
spelled_in_front start number end pages bytes size all is =
    let long : length (take size bytes) ≡ size =
    length-take-le size bytes (omega (arith, all, is.long)) in
    let same = λ (k : ℕ) (lt : k < 1 + 4 * length pages).
    front_part bytes size k (omega (arith, all, is.long)) (omega (arith, all, lt)) in
    record {
      says = log_same (part_of (take size bytes)) (part_of bytes) (same 0 (omega arith))
          (λ k lt. same (1 + k) (omega (
            arith,
            lt,
            ap (λ (s : List ℕ). u32_at s 4) (same 0 (omega arith)),
            is.counted,
          ))) start ∙ is.says;
      long = omega (arith, long, all);
      few = is.few;
      stamped = λ k lt. ap (λ (s : List ℕ). u32_at s 0) (same k lt) ∙ is.stamped k lt;
      counted = ap (λ (s : List ℕ). u32_at s 4) (same 0 (omega arith)) ∙ is.counted;
    }
