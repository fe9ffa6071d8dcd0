-- What a salvage finds in the pages of a file. Each page is looked at by itself.
use Rattle.std.specs.Prelude.{◌≡◌, ◌≢◌, ◌⊎◌, ℕ, ◌+◌, ◌-◌, ◌<◌, Bool, true, false, nat_lt, if◌then◌else◌, List, [], ◌∷◌, ◌++◌, length, flat_map, Option, Some, None}
use Rattle.std.specs.Option.{is_some, is_none}
use Rattle.std.specs.List.{HoldsAt}
use Rattle.std.specs.Io.KnownBytes.{Appends}
use Rattle.dbm_model.specs.Pairs.{Pair}
use Rattle.dbm_lines.specs.Dumps.{dump_line}
use Rattle.page_model.specs.Bytes.{u32_at}
use Rattle.page_model.specs.Meaning.{records_on, said_by}
use Rattle.page_model.specs.Pages.{Body, Record}
use Rattle.page_model.specs.Reading.{own_number, body_of, IsClear}
use Rattle.page_model.specs.Valid.{MaySay}
use Rattle.content_pages.specs.Contents.{IsContentAt}
use Rattle.dbm_salvage.specs.Telling.{Tells}
use Rattle.dbm_salvage.specs.declared.contents.NoContent.{NoContent}
use Rattle.dbm_salvage.specs.declared.contents.NoContent.TheVariants.{Failed, Broken}
use Rattle.dbm_salvage.specs.declared.trouble.Trouble.{Trouble}
use Rattle.dbm_salvage.specs.declared.trouble.Trouble.TheVariants.{Unread, Blank, NoPage, Elsewhere, Content}

-- page n of a file of so many pages, page 0 among them; there is none behind them
abbrev pub file_page : (ℕ → List ℕ) → ℕ → ℕ → List ℕ
file_page file pages n = if nat_lt n pages then file n else []

-- what its pages say
abbrev pub said_in : (ℕ → List ℕ) → ℕ → ℕ → Body
said_in file pages = said_by (file_page file pages)

-- the bytes read as page n: they are the spelling of what that page may say
abbrev pub ReadsAs : ℕ → List ℕ → Type 0
ReadsAs n bytes = MaySay n (body_of n bytes)

-- ---- the pairs of a page

-- the content of a record: its bytes, or where it is far so many bytes in whole content pages from
-- the page on that they name
abbrev pub IsContentBy : (ℕ → Body) → List ℕ → Option ℕ → List ℕ → Type 0
IsContentBy at bytes None content = content ≡ bytes
IsContentBy at bytes (Some long) content =
    (length content ≡ long) × IsContentAt at (u32_at bytes 0) content

-- the pair of a record; none where its content isn't whole, or may have failed to be read
abbrev pub IsPairOf : (ℕ → Body) → Bool → Record → Option Pair → Type 0
IsPairOf at failed r (Some pair) = (r.key ≡ pair.0) × IsContentBy at r.bytes r.far pair.1
IsPairOf at failed r None =
    (failed ≡ true) ⊎ ((content : List ℕ) → IsContentBy at r.bytes r.far content → ⊥)

-- the same of each record, in order
abbrev pub ArePairsOf : (ℕ → Body) → Bool → List Record → List (Option Pair) → Type 0
ArePairsOf at failed [] [] = Unit {0}
ArePairsOf at failed [] (pair ∷ pairs) = ⊥
ArePairsOf at failed (r ∷ rs) [] = ⊥
ArePairsOf at failed (r ∷ rs) (pair ∷ pairs) =
    IsPairOf at failed r pair × ArePairsOf at failed rs pairs

-- how many records have a pair
abbrev pub printed : List (Option Pair) → ℕ
printed [] = 0
printed (None ∷ rest) = printed rest
printed (Some pair ∷ rest) = printed rest + 1

-- the line of a pair
abbrev pub line_of : Option Pair → List ℕ
line_of None = []
line_of (Some pair) = dump_line pair

-- whether the device failed to read a content
abbrev pub is_failed : Option NoContent → Bool
is_failed None = false
is_failed (Some Failed) = true
is_failed (Some Broken) = false

-- ---- a page

-- why bytes don't read as page n
abbrev pub IsNoPage : ℕ → List ℕ → Trouble → Type 0
IsNoPage n bytes Unread = ⊥
IsNoPage n bytes Blank = IsClear bytes 0 2048
IsNoPage n bytes NoPage =
    (IsClear bytes 0 2048 → ⊥) × (ReadsAs (own_number bytes) bytes → ⊥)
IsNoPage n bytes Elsewhere = (own_number bytes ≢ n) × ReadsAs (own_number bytes) bytes
IsNoPage n bytes Content = ⊥

-- what is found of a page: the pair of each record, and what is wrong with it
pub record Found : Type 0 where
  pub pairs : List (Option Pair)
  pub trouble : Option Trouble

-- the page reads as page n, and these are the pairs of its records
pub record HasPairs (file : ℕ → List ℕ) (pages n : ℕ) (failed : Bool)
    (pairs : List (Option Pair)) : Type 0 where
  pub reads : ReadsAs n (file n)
  pub pairs_are :
      ArePairsOf (said_in file pages) failed (records_on (body_of n (file n))) pairs

-- what is found of page n. `Faulted` is that the device failed
abbrev pub IsFound : (ℕ → List ℕ) → ℕ → Type 0 → ℕ → List (Option Pair) → Option Trouble → Type 0
IsFound file pages Faulted n pairs None =
    HasPairs file pages n false pairs × (printed pairs ≡ length pairs)
IsFound file pages Faulted n pairs (Some Content) =
    HasPairs file pages n false pairs × (printed pairs < length pairs)
IsFound file pages Faulted n pairs (Some Unread) =
    Faulted × ((pairs ≡ []) ⊎ HasPairs file pages n true pairs)
IsFound file pages Faulted n pairs (Some Blank) =
    (pairs ≡ []) × IsNoPage n (file n) Blank
IsFound file pages Faulted n pairs (Some NoPage) =
    (pairs ≡ []) × IsNoPage n (file n) NoPage
IsFound file pages Faulted n pairs (Some Elsewhere) =
    (pairs ≡ []) × IsNoPage n (file n) Elsewhere

-- record i has this pair, or why it has none, and the line of its pair stands in the output
pub record IsRecordSalvaged (file : ℕ → List ℕ) (pages : ℕ) (records : List Record) (i : ℕ)
    (old new : Option (List ℕ)) (lost : Option NoContent) : Type 0 where
  pub pair : Option Pair
  pub is : HoldsAt (λ r. IsPairOf (said_in file pages) (is_failed lost) r pair) records i
  pub told : is_some pair ≡ is_none lost
  pub written : Appends old new (line_of pair)

-- the lines of the pairs that are found of page n stand in the output
pub record IsPageSalvaged (file : ℕ → List ℕ) (pages : ℕ) (Faulted : Type 0) (n : ℕ)
    (old new : Option (List ℕ)) (count : ℕ) (trouble : Option Trouble) : Type 0 where
  pub pairs : List (Option Pair)
  pub is_found : IsFound file pages Faulted n pairs trouble
  pub count_is : count ≡ printed pairs
  pub written : Appends old new (flat_map line_of pairs)

-- ---- all pages

-- of each page from n on
abbrev pub AreFound : (ℕ → List ℕ) → ℕ → Type 0 → ℕ → List Found → Type 0
AreFound file pages Faulted n [] = Unit {0}
AreFound file pages Faulted n (found ∷ rest) =
    IsFound file pages Faulted n found.pairs found.trouble
    × AreFound file pages Faulted (n + 1) rest

abbrev pub lines_of : Found → List ℕ
lines_of found = flat_map line_of found.pairs

-- the pages in trouble, from page n on
abbrev pub told_by : ℕ → Option Trouble → List (ℕ × Trouble)
told_by n None = []
told_by n (Some trouble) = (n, trouble) ∷ []

abbrev pub told_from : ℕ → List Found → List (ℕ × Trouble)
told_from n [] = []
told_from n (found ∷ rest) = told_by n found.trouble ++ told_from (n + 1) rest

abbrev pub all_printed : List Found → ℕ
all_printed [] = 0
all_printed (found ∷ rest) = printed found.pairs + all_printed rest

-- The pages 1 to n - 1 were salvaged: the lines of their pairs stand in the output, page by page,
-- and of each page in trouble it was told.
pub record AreSalvaged (file : ℕ → List ℕ) (pages : ℕ) (Faulted : Type 0) (n : ℕ)
    (old new : Option (List ℕ)) (told now_told : Option (List (ℕ × Trouble))) (pairs troubles : ℕ)
    : Type 0 where
  pub founds : List Found
  pub are_found : AreFound file pages Faulted 1 founds
  pub all : length founds ≡ n - 1
  pub written : Appends old new (flat_map lines_of founds)
  pub told_is : Tells told now_told (told_from 1 founds)
  pub pairs_are : pairs ≡ all_printed founds
  pub troubles_are : troubles ≡ length (told_from 1 founds)
