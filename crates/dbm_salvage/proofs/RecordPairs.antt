-- The pairs of the records of a page, one after the other.
use Rattle.std.proofs.Common.{◌≡◌, ℕ, zero, suc, ◌+◌, ◌<◌, ◌≤◌, Bool, true, cond, List, [], ◌∷◌, ◌++◌, length, get_or, take, flat_map, Option, Some, None, inl, inr, refl, sym, ap, subst, ◌∙◌, append-nil, arith}
use Rattle.std.specs.Option.{is_some}
use Rattle.std.specs.List.{HoldsAt}
use Rattle.std.specs.Io.KnownBytes.{Appends}
use Rattle.std.proofs.KnownBytes.{Appends-trans}
use Rattle.std.proofs.lemmas.Grind.{flat_map-append}
use Rattle.std.proofs.lemmas.List.{take_more, take_all}
use Rattle.dbm_model.specs.Pairs.{Pair}
use Rattle.page_model.specs.Pages.{Body, Record}
use Rattle.page_model.specs.Reading.{slot_count}
use Rattle.page_model.specs.Slots.{size, total_size}
use Rattle.page_io.specs.BucketPages.{IsBucketPage, page_records}
use Rattle.slot_page.proofs.Pages.{counted}
use Rattle.dbm_salvage.specs.Salvage.{IsPairOf, ArePairsOf, printed, line_of}

-- a record is no longer than its page
size_within : (rs : List Record) (i : ℕ) (d : Record) → i < length rs
    → size (get_or rs i d) ≤ total_size rs
size_within [] i d lt = absurd (omega arith)
size_within (r ∷ rs) zero d lt = omega arith
size_within (r ∷ rs) (suc i) d lt = omega (arith, size_within rs i d (omega arith))

some_record : Record
some_record = record { key = []; bytes = []; far = None }

pub short : (bytes key text : List ℕ) (i : ℕ) → IsBucketPage bytes
    → i < length (page_records bytes)
    → HoldsAt (λ r. (r.key ≡ key) × (r.bytes ≡ text)) (page_records bytes) i
    → length text ≤ 2032
short bytes key text i page lt is =
    let r = get_or (page_records bytes) i some_record in
    omega (
      arith,
      page.sound.fits,
      size_within (page_records bytes) i some_record lt,
      ap length (is some_record).1,
    )

pub within_page : (bytes : List ℕ) (i count : ℕ) → IsBucketPage bytes → count ≡ slot_count bytes
    → i < count → i < length (page_records bytes)
within_page bytes i count page is below = omega (arith, (counted bytes page).count_is, is, below)

pub whole_page : (bytes : List ℕ) (count : ℕ) → IsBucketPage bytes → count ≡ slot_count bytes
    → count ≡ length (page_records bytes)
whole_page bytes count page is = is ∙ (counted bytes page).count_is

-- ---- pairs

pair_weaker : (at : ℕ → Body) (a b : Bool) (r : Record) (pair : Option Pair)
    → (a ≡ true → b ≡ true) → IsPairOf at a r pair → IsPairOf at b r pair
pair_weaker at a b r (Some pair) more is = is
pair_weaker at a b r None more (inl failed) = inl (more failed)
pair_weaker at a b r None more (inr none) = inr none

pub pairs_weaker : (at : ℕ → Body) (a b : Bool) (rs : List Record) (pairs : List (Option Pair))
    → (a ≡ true → b ≡ true) → ArePairsOf at a rs pairs → ArePairsOf at b rs pairs
pairs_weaker at a b [] [] more are = tt
pairs_weaker at a b [] (pair ∷ pairs) more are = absurd are
pairs_weaker at a b (r ∷ rs) [] more are = absurd are
pairs_weaker at a b (r ∷ rs) (pair ∷ pairs) more are =
    (pair_weaker at a b r pair more are.0, pairs_weaker at a b rs pairs more are.1)

pairs_then : (at : ℕ → Body) (a : Bool) (rs : List Record) (pairs : List (Option Pair))
    (r : Record) (pair : Option Pair) → ArePairsOf at a rs pairs → IsPairOf at a r pair
    → ArePairsOf at a (rs ++ r ∷ []) (pairs ++ pair ∷ [])
pairs_then at a [] [] r pair are is = (is, tt)
pairs_then at a [] (q ∷ pairs) r pair are is = absurd are
pairs_then at a (s ∷ rs) [] r pair are is = absurd are
pairs_then at a (s ∷ rs) (q ∷ pairs) r pair are is =
    (are.0, pairs_then at a rs pairs r pair are.1 is)

pub length-pairs : (at : ℕ → Body) (a : Bool) (rs : List Record) (pairs : List (Option Pair))
    → ArePairsOf at a rs pairs → length pairs ≡ length rs
length-pairs at a [] [] are = refl
length-pairs at a [] (pair ∷ pairs) are = absurd are
length-pairs at a (r ∷ rs) [] are = absurd are
length-pairs at a (r ∷ rs) (pair ∷ pairs) are = ap suc (length-pairs at a rs pairs are.1)

-- how many there are
pub printed_more : (pairs : List (Option Pair)) (pair : Option Pair)
    → printed (pairs ++ pair ∷ []) ≡ printed pairs + cond (is_some pair) 1 0
printed_more [] None = refl
printed_more [] (Some p) = refl
printed_more (None ∷ pairs) pair = printed_more pairs pair
printed_more (Some q ∷ pairs) pair = omega (arith, printed_more pairs pair)

-- ---- the first records of a page

-- the first i records have these pairs, so many of them were found, and their lines were written
pub record AreDone (at : ℕ → Body) (failed : Bool) (records : List Record) (i : ℕ)
    (old new : Option (List ℕ)) (count : ℕ) : Type 0 where
  pub pairs : List (Option Pair)
  pub are : ArePairsOf at failed (take i records) pairs
  pub count_is : count ≡ printed pairs
  pub written : Appends old new (flat_map line_of pairs)

line_more : (pairs : List (Option Pair)) (pair : Option Pair) (a b c : Option (List ℕ))
    → Appends a b (flat_map line_of pairs) → Appends b c (line_of pair)
    → Appends a c (flat_map line_of (pairs ++ pair ∷ []))
line_more pairs pair a b c before now =
    subst (Appends a c)
    (ap (λ (last : List ℕ). flat_map line_of pairs ++ last) (sym (append-nil (line_of pair)))
    ∙ sym (flat_map-append line_of pairs (pair ∷ [])))
    (Appends-trans a b c (flat_map line_of pairs) (line_of pair) before now)

pub done_more : (at : ℕ → Body) (a b c : Bool) (records : List Record) (i : ℕ)
    (old mid new : Option (List ℕ)) (count more : ℕ) (pair : Option Pair)
    → i < length records → (a ≡ true → c ≡ true) → (b ≡ true → c ≡ true)
    → (done : AreDone at a records i old mid count)
    → HoldsAt (λ r. IsPairOf at b r pair) records i
    → more ≡ printed (done.pairs ++ pair ∷ []) → Appends mid new (line_of pair)
    → AreDone at c records (i + 1) old new more
done_more at a b c records i old mid new count more pair lt first second done is count_is written =
    let r = some_record in
    record {
      pairs = done.pairs ++ pair ∷ [];
      are = subst (λ (rs : List Record). ArePairsOf at c rs (done.pairs ++ pair ∷ []))
          (sym (take_more records i r lt))
          (pairs_then at c (take i records) done.pairs _ pair
          (pairs_weaker at a c (take i records) done.pairs first done.are)
          (pair_weaker at b c _ pair second (is r)));
      count_is = count_is;
      written = line_more done.pairs pair old mid new done.written written;
    }

-- all of them
pub all_done : (at : ℕ → Body) (failed : Bool) (records : List Record) (i : ℕ)
    (old new : Option (List ℕ)) (count : ℕ) → length records ≤ i
    → (done : AreDone at failed records i old new count)
    → ArePairsOf at failed records done.pairs
all_done at failed records i old new count le done =
    subst (λ (rs : List Record). ArePairsOf at failed rs done.pairs) (take_all i records le) done.are
