-- What is found of pages, one after the other.
use Rattle.std.proofs.Common.{◌≡◌, ℕ, ◌+◌, ◌-◌, ◌<◌, ◌≤◌, Bool, true, false, List, [], ◌∷◌, ◌++◌, length, flat_map, Option, Some, None, inl, inr, ⊎_elim, refl, sym, ap, subst, ◌∙◌, append-nil, append_assoc, arith}
use Rattle.std.specs.Io.KnownBytes.{Appends}
use Rattle.std.proofs.KnownBytes.{Appends-nil, Appends-trans}
use Rattle.std.proofs.lemmas.Bool.{cases_lt}
use Rattle.std.proofs.lemmas.Grind.{flat_map-append}
use Rattle.std.proofs.lemmas.List.{length-append}
use Rattle.dbm_model.specs.Pairs.{Pair}
use Rattle.page_model.specs.Meaning.{records_on}
use Rattle.page_model.specs.Pages.{Record}
use Rattle.page_model.specs.Reading.{body_of}
use Rattle.dbm_salvage.specs.Salvage.{said_in, ReadsAs, ArePairsOf, printed, IsNoPage, Found, HasPairs, IsFound, IsPageSalvaged, AreFound, lines_of, told_by, told_from, all_printed, AreSalvaged}
use Rattle.dbm_salvage.specs.Telling.{Tells}
use Rattle.dbm_salvage.specs.declared.trouble.Trouble.{Trouble}
use Rattle.dbm_salvage.specs.declared.trouble.Trouble.TheVariants.{Unread, Blank, NoPage, Elsewhere, Content}
use Rattle.dbm_salvage.proofs.RecordPairs.{AreDone, length-pairs, all_done}

-- ---- one page

-- the device may have failed later
pub found_weaker : (file : ℕ → List ℕ) (pages : ℕ) (F G : Type 0) (n : ℕ)
    (pairs : List (Option Pair)) (trouble : Option Trouble) → (F → G)
    → IsFound file pages F n pairs trouble → IsFound file pages G n pairs trouble
found_weaker file pages F G n pairs None more is = is
found_weaker file pages F G n pairs (Some Content) more is = is
found_weaker file pages F G n pairs (Some Unread) more is = (more is.0, is.1)
found_weaker file pages F G n pairs (Some Blank) more is = is
found_weaker file pages F G n pairs (Some NoPage) more is = is
found_weaker file pages F G n pairs (Some Elsewhere) more is = is

pub page_weaker : (file : ℕ → List ℕ) (pages : ℕ) (F G : Type 0) (n : ℕ) (old new : Option (List ℕ))
    (count : ℕ) (trouble : Option Trouble) → (F → G)
    → IsPageSalvaged file pages F n old new count trouble
    → IsPageSalvaged file pages G n old new count trouble
page_weaker file pages F G n old new count trouble more is = record {
  pairs = is.pairs;
  is_found = found_weaker file pages F G n is.pairs trouble more is.is_found;
  count_is = is.count_is;
  written = is.written;
}

-- a page that reads as none
no_page : (file : ℕ → List ℕ) (pages : ℕ) (F : Type 0) (n : ℕ) (trouble : Trouble)
    → IsNoPage n (file n) trouble → IsFound file pages F n [] (Some trouble)
no_page file pages F n Unread is = absurd is
no_page file pages F n Blank is = (refl, is)
no_page file pages F n NoPage is = (refl, is)
no_page file pages F n Elsewhere is = (refl, is)
no_page file pages F n Content is = absurd is

-- nothing was written
nothing : (file : ℕ → List ℕ) (pages : ℕ) (F : Type 0) (n : ℕ) (old : Option (List ℕ)) (count : ℕ)
    (trouble : Option Trouble) → count ≡ 0 → IsFound file pages F n [] trouble
    → IsPageSalvaged file pages F n old old count trouble
nothing file pages F n old count trouble none is =
    record { pairs = []; is_found = is; count_is = none; written = Appends-nil old }

pub unread_page : (file : ℕ → List ℕ) (pages : ℕ) (F : Type 0) (n : ℕ) (old : Option (List ℕ))
    (count : ℕ) (trouble : Option Trouble) → count ≡ 0 → trouble ≡ Some Unread → F
    → IsPageSalvaged file pages F n old old count trouble
unread_page file pages F n old count trouble none told failed =
    nothing file pages F n old count trouble none
    (subst (IsFound file pages F n []) (sym told) (failed, inl refl))

pub other_page : (file : ℕ → List ℕ) (pages : ℕ) (F : Type 0) (n : ℕ) (bytes : List ℕ)
    (old : Option (List ℕ)) (count : ℕ) (trouble : Option Trouble) (why : Trouble) → count ≡ 0
    → trouble ≡ Some why → bytes ≡ file n → IsNoPage n bytes why
    → IsPageSalvaged file pages F n old old count trouble
other_page file pages F n bytes old count trouble why none told read is =
    nothing file pages F n old count trouble none
    (subst (IsFound file pages F n []) (sym told) (no_page file pages F n why
    (subst (λ (b : List ℕ). IsNoPage n b why) read is)))

-- the pairs of a page that reads as page n
has_pairs : (file : ℕ → List ℕ) (pages n : ℕ) (failed : Bool) (bytes : List ℕ)
    (records : List Record) (pairs : List (Option Pair)) → bytes ≡ file n
    → ReadsAs n bytes → records_on (body_of n bytes) ≡ records
    → ArePairsOf (said_in file pages) failed records pairs → HasPairs file pages n failed pairs
has_pairs file pages n failed bytes records pairs read reads said are = record {
  reads = subst (ReadsAs n) read reads;
  pairs_are = subst (λ (rs : List Record). ArePairsOf (said_in file pages) failed rs pairs)
      (sym said ∙ ap (λ (b : List ℕ). records_on (body_of n b)) read) are;
}

pub bare_page : (file : ℕ → List ℕ) (pages : ℕ) (F : Type 0) (n : ℕ) (bytes : List ℕ)
    (old : Option (List ℕ)) → bytes ≡ file n → ReadsAs n bytes
    → records_on (body_of n bytes) ≡ []
    → IsPageSalvaged file pages F n old old 0 None
bare_page file pages F n bytes old read reads said =
    nothing file pages F n old 0 None refl
    (has_pairs file pages n false bytes [] [] read reads said tt, refl)

-- a bucket page, of which all records are done
pub bucket_page : (file : ℕ → List ℕ) (pages : ℕ) (F : Type 0) (n : ℕ) (bytes : List ℕ)
    (records : List Record) (i : ℕ) (failed : Bool) (old new : Option (List ℕ)) (count all : ℕ)
    (trouble : Option Trouble) → bytes ≡ file n → ReadsAs n bytes
    → records_on (body_of n bytes) ≡ records → length records ≤ i → all ≡ length records
    → count ≤ all
    → AreDone (said_in file pages) failed records i old new count → (failed ≡ true → F)
    → (failed ≡ true → trouble ≡ Some Unread)
    → (failed ≡ false → count < all → trouble ≡ Some Content)
    → (failed ≡ false → all ≤ count → trouble ≡ None)
    → IsPageSalvaged file pages F n old new count trouble
bucket_page file pages F n bytes records i true old new count all trouble read reads said le
    size few done faulted unread lost whole =
    let are = all_done (said_in file pages) true records i old new count le done in
    record {
      pairs = done.pairs;
      is_found = subst (IsFound file pages F n done.pairs) (sym (unread refl)) (
        faulted refl,
        inr (has_pairs file pages n true bytes records done.pairs read reads
            said are),
      );
      count_is = done.count_is;
      written = done.written;
    }
bucket_page file pages F n bytes records i false old new count all trouble read reads said le
    size few done faulted unread lost whole =
    let are = all_done (said_in file pages) false records i old new count le done in
    let has = has_pairs file pages n false bytes records done.pairs read reads said are in
    let long = length-pairs (said_in file pages) false records done.pairs are in
    record {
      pairs = done.pairs;
      is_found = ⊎_elim
          (λ lt. subst (IsFound file pages F n done.pairs) (sym (lost refl lt))
          (has, omega (arith, lt, long, size, done.count_is)))
          (λ not. subst (IsFound file pages F n done.pairs) (sym (whole refl not))
          (has, omega (arith, not, few, long, size, done.count_is)))
          (cases_lt count all);
      count_is = done.count_is;
      written = done.written;
    }

-- ---- all pages

all_weaker : (file : ℕ → List ℕ) (pages : ℕ) (F G : Type 0) (n : ℕ) (founds : List Found) → (F → G)
    → AreFound file pages F n founds → AreFound file pages G n founds
all_weaker file pages F G n [] more are = tt
all_weaker file pages F G n (found ∷ rest) more are = (
  found_weaker file pages F G n found.pairs found.trouble more are.0,
  all_weaker file pages F G (n + 1) rest more are.1,
)

one_more : (file : ℕ → List ℕ) (pages : ℕ) (F : Type 0) (n m : ℕ) (founds : List Found)
    (found : Found) → n + length founds ≡ m → AreFound file pages F n founds
    → IsFound file pages F m found.pairs found.trouble
    → AreFound file pages F n (founds ++ found ∷ [])
one_more file pages F n m [] found place are is =
    let same : m ≡ n = omega (arith, place) in
    (subst (λ (k : ℕ). IsFound file pages F k found.pairs found.trouble) same is, tt)
one_more file pages F n m (first ∷ rest) found place are is =
    (are.0, one_more file pages F (n + 1) m rest found (omega (arith, place)) are.1 is)

told_more : (n m : ℕ) (founds : List Found) (found : Found) → n + length founds ≡ m
    → told_from n (founds ++ found ∷ []) ≡ told_from n founds ++ told_by m found.trouble
told_more n m [] found place =
    let same : n ≡ m = omega (arith, place) in
    append-nil (told_by n found.trouble) ∙ ap (λ (k : ℕ). told_by k found.trouble) same
told_more n m (first ∷ rest) found place =
    ap (λ (told : List (ℕ × Trouble)). told_by n first.trouble ++ told)
    (told_more (n + 1) m rest found (omega (arith, place)))
    ∙ sym (append_assoc (told_by n first.trouble) (told_from (n + 1) rest)
    (told_by m found.trouble))

printed_more : (founds : List Found) (found : Found)
    → all_printed (founds ++ found ∷ []) ≡ all_printed founds + printed found.pairs
printed_more [] found = omega arith
printed_more (first ∷ rest) found = omega (arith, printed_more rest found)

lines_more : (founds : List Found) (found : Found) (a b c : Option (List ℕ))
    → Appends a b (flat_map lines_of founds) → Appends b c (lines_of found)
    → Appends a c (flat_map lines_of (founds ++ found ∷ []))
lines_more founds found a b c before now =
    subst (Appends a c)
    (ap (λ (last : List ℕ). flat_map lines_of founds ++ last) (sym (append-nil (lines_of found)))
    ∙ sym (flat_map-append lines_of founds (found ∷ [])))
    (Appends-trans a b c (flat_map lines_of founds) (lines_of found) before now)

-- what was told, one after the other
pub told_none : (told : Option (List (ℕ × Trouble))) → Tells told told []
told_none None = tt
told_none (Some xs) = sym (append-nil xs)

told_then : (a b c : Option (List (ℕ × Trouble))) (xs ys : List (ℕ × Trouble)) → Tells a b xs
    → Tells b c ys → Tells a c (xs ++ ys)
told_then None b c xs ys one two = tt
told_then (Some told) None c xs ys one two = absurd one
told_then (Some told) (Some mid) None xs ys one two = absurd two
told_then (Some told) (Some mid) (Some now) xs ys one two =
    two ∙ ap (λ (t : List (ℕ × Trouble)). t ++ ys) one ∙ append_assoc told xs ys

-- before the first page
pub none_salvaged : (file : ℕ → List ℕ) (pages : ℕ) (F : Type 0) (old : Option (List ℕ))
    (told : Option (List (ℕ × Trouble))) → AreSalvaged file pages F 1 old old told told 0 0
none_salvaged file pages F old told = record {
  founds = [];
  are_found = tt;
  all = refl;
  written = Appends-nil old;
  told_is = told_none told;
  pairs_are = refl;
  troubles_are = refl;
}

-- and one page more
pub page_salvaged : (file : ℕ → List ℕ) (pages : ℕ) (F G H : Type 0) (n : ℕ)
    (old mid new : Option (List ℕ)) (told between now : Option (List (ℕ × Trouble)))
    (pairs troubles count one more_pairs more_troubles : ℕ) (trouble : Option Trouble) → 1 ≤ n
    → (F → H) → (G → H) → AreSalvaged file pages F n old mid told between pairs troubles
    → IsPageSalvaged file pages G n mid new count trouble
    → Tells between now (told_by n trouble) → one ≡ length (told_by n trouble)
    → more_pairs ≡ pairs + count → more_troubles ≡ troubles + one
    → AreSalvaged file pages H (n + 1) old new told now more_pairs more_troubles
page_salvaged file pages F G H n old mid new told between now pairs troubles count one more_pairs
    more_troubles trouble some first second all page told_is one_is more_is troubles_is =
    let found : Found = record { pairs = page.pairs; trouble = trouble } in
    let place : 1 + length all.founds ≡ n = omega (arith, all.all, some) in
    let told_all = told_more 1 n all.founds found place in
    record {
      founds = all.founds ++ found ∷ [];
      are_found = one_more file pages H 1 n all.founds found place
          (all_weaker file pages F H 1 all.founds first all.are_found)
          (found_weaker file pages G H n page.pairs trouble second page.is_found);
      all = omega (arith, all.all, some, length-append all.founds (found ∷ []));
      written = lines_more all.founds found old mid new all.written page.written;
      told_is = subst (Tells told now) (sym told_all)
          (told_then told between now (told_from 1 all.founds) (told_by n trouble) all.told_is
          told_is);
      pairs_are = omega (
        arith,
        more_is,
        all.pairs_are,
        page.count_is,
        printed_more all.founds found,
      );
      troubles_are = omega (
        arith,
        troubles_is,
        one_is,
        all.troubles_are,
        ap length told_all,
        length-append (told_from 1 all.founds) (told_by n trouble),
      );
    }

-- up to the last page
pub pages_salvaged : (file : ℕ → List ℕ) (pages : ℕ) (F : Type 0) (n m : ℕ)
    (old new : Option (List ℕ)) (told now : Option (List (ℕ × Trouble))) (pairs troubles : ℕ)
    → n - 1 ≡ m - 1 → AreSalvaged file pages F n old new told now pairs troubles
    → AreSalvaged file pages F m old new told now pairs troubles
pages_salvaged file pages F n m old new told now pairs troubles same all =
    record {
      founds = all.founds;
      are_found = all.are_found;
      all = all.all ∙ same;
      written = all.written;
      told_is = all.told_is;
      pairs_are = all.pairs_are;
      troubles_are = all.troubles_are;
    }
