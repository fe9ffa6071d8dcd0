-- The contents of a page's records, looked at and marked one after the other.
use Rattle.std.proofs.Common.{◌≡◌, ℕ, zero, suc, ◌+◌, ◌^◌, ◌<◌, ◌≤◌, Bool, true, false, cond, List, [], ◌∷◌, ◌++◌, length, map, take, drop, get_or, flat_map, Option, None, Some, refl, sym, ap, subst, ◌∙◌, append_assoc, append-nil, arith}
use Rattle.std.specs.List.{AllByRecursion, HoldsAt}
use Rattle.std.specs.Option.{option_map}
use Rattle.std.proofs.lemmas.Bool.Decides.{nat_tests}
use Rattle.std.proofs.lemmas.List.{take_all, take_more, map-append, drop_all, get_or_default}
use Rattle.std.proofs.lemmas.List.Concat.{flat_map-append}
use Rattle.std.proofs.lemmas.List.Elements.{All-from_recursion}
use Rattle.dbm_model.specs.Bounds.{Version, V1, V2}
use Rattle.dbm_model.specs.Pairs.{Pair, is_far, are_allowed}
use Rattle.page_model.specs.Bytes.{u32_at, u32_bytes}
use Rattle.page_model.specs.Chain.{Entry, pages_long, record_with, record_of, pages_of, IsEntry}
use Rattle.page_model.specs.PairLists.{AreBytes, HasBytes}
use Rattle.page_model.specs.Pages.{Body, NumberedBody, Record}
use Rattle.page_model.specs.PageBodies.{first_of, entry_bodies, AreRead}
use Rattle.page_model.specs.Slots.{size, taken}
use Rattle.page_model.specs.Valid.{MayTell, IsRecord, IsFar, IsOf}
use Rattle.page_model.proofs.Chains.{AllByRecursion-append, AllByRecursion-left, AllByRecursion-right}
use Rattle.page_model.proofs.GoodBodies.{IsPageNumber, far_pages, number_again}
use Rattle.page_model.proofs.Texts.{four_text}
use Rattle.file_check.specs.Marks.{AreMarked, MayBeSeen}
use Rattle.file_check.proofs.Seen.{are_seen}
use Rattle.page_model.specs.Space.{times_of}
use Rattle.page_io.specs.BucketPages.{IsPageOf, page_records}
use Rattle.slot_page.specs.Contents.{told_content}
use Rattle.file_check.specs.BucketChains.{AreContentPages, IsContentChecked, AreEntriesOf, AreContentsChecked}
use Rattle.file_check.proofs.OneChain.{IsStored, are_stored, one_entries}
use Rattle.file_check.proofs.PageBytes.{RecordHasBytes, record_bytes, are_bytes}
use Rattle.file_check.proofs.SeenPages.{pages_of-append, page_numbers, may_behind, fewer_seen, times_parts}

-- ---- what a record tells

abbrev tell : Record → ℕ → ℕ × ℕ
tell r long = (u32_at r.bytes 0, long)

one_telling : (p q : ℕ × ℕ) → Some p ≡ Some q → (p.0 ≡ q.0) × (p.1 ≡ q.1)
one_telling p q same =
    let is : p ≡ q = cc in
    (ap (λ (t : ℕ × ℕ). t.0) is, ap (λ (t : ℕ × ℕ). t.1) is)

pub told_none : (r : Record) → told_content r ≡ None → r.far ≡ None
told_none r is = by_far r.far refl is
  where
    by_far : (far : Option ℕ) → r.far ≡ far
        → option_map (tell r) far ≡ None → r.far ≡ None
    by_far None same is = same
    by_far (Some long) same is = absurd (cc)

pub told_some : (r : Record) (first long : ℕ) → told_content r ≡ Some (first, long)
    → (r.far ≡ Some long) × (u32_at r.bytes 0 ≡ first)
told_some r first long is = by_far r.far refl is
  where
    by_far : (far : Option ℕ) → r.far ≡ far
        → option_map (tell r) far ≡ Some (first, long)
        → (r.far ≡ Some long) × (u32_at r.bytes 0 ≡ first)
    by_far None same is = absurd (cc)
    by_far (Some other) same is =
        let both = one_telling (tell r other) (first, long) is in
        (same ∙ ap Some both.1, both.0)

-- ---- the entry of a record

pub record IsEntryOf (version : Version) (at : ℕ → Body) (r : Record) (e : Entry) : Type 0 where
  pub is : record_of e ≡ r
  pub entry : IsEntry version e
  pub read : AreRead at (entry_bodies e)
  pub bytes : HasBytes e.pair

near_allowed : (version : Version) (key content : ℕ) → key + content ≤ 2026
    → are_allowed version key content ≡ true
near_allowed V1 key content near = grind (arith, nat_tests)
near_allowed V2 key content near = grind (arith, nat_tests)

not_far : (pair : Pair) → length pair.0 + length pair.1 ≤ 2026 → is_far pair ≡ false
not_far pair near = grind (arith, nat_tests)

near_entry : (version : Version) (at : ℕ → Body) (r : Record) → size r ≤ 2026 → r.far ≡ None
    → RecordHasBytes r
    → IsEntryOf version at r (record { pair = (r.key, r.bytes); pages = [] })
near_entry version at r small near bytes = record {
  is = λ i. record { key = r.key; bytes = r.bytes; far = sym near i };
  entry = record {
    allowed = near_allowed version (length r.key) (length r.bytes) small;
    paged = sym (ap (λ (b : Bool). cond b (pages_long (length r.bytes)) 0)
        (not_far (r.key, r.bytes) small));
  };
  read = tt;
  bytes = bytes;
}

far_allowed : (version : Version) (r : Record) (long : ℕ) → IsOf version r → r.far ≡ Some long
    → length r.key ≤ 1023 → long ≤ 65535 → are_allowed version (length r.key) long ≡ true
far_allowed V1 r long of far short few = absurd (let is = of in cc)
far_allowed V2 r long of far short few = both (length r.key) long short few
  where
    both : (key long : ℕ) → key ≤ 1023 → long ≤ 65535 → are_allowed V2 key long ≡ true
    both key long short few = grind (arith, nat_tests)

is_far_pair : (pair : Pair) → 2026 < length pair.0 + length pair.1 → is_far pair ≡ true
is_far_pair pair more = grind (arith, nat_tests)

-- four bytes are those of their number
four_bytes : (bytes : List ℕ) → AreBytes bytes → length bytes ≡ 4
    → u32_bytes (u32_at bytes 0) ≡ bytes
four_bytes bytes are four =
    let text = four_text bytes 0 4 are (omega arith) refl in
    let none : drop 4 bytes ≡ [] = drop_all 4 bytes (omega arith) in
    sym (append-nil (u32_bytes (u32_at bytes 0)))
    ∙ ap (λ (x : List ℕ). u32_bytes (u32_at bytes 0) ++ x) (sym none) ∙ sym text

far_entry : (version : Version) (at : ℕ → Body) (r : Record) (first long : ℕ)
    (pages content : List ℕ) → IsRecord r → IsOf version r → r.far ≡ Some long
    → u32_at r.bytes 0 ≡ first → AreContentPages at first long pages content
    → RecordHasBytes r → AllByRecursion (λ byte. byte < 256) content
    → IsEntryOf version at r (record { pair = (r.key, content); pages = pages })
far_entry version at r first long pages content told of far first_is are held bytes =
    let is : IsFar r long = subst (MayTell r) far told in
    let allowed = far_allowed version r long of far is.short is.long_enough.1 in
    let many : 2026 < length r.key + length content =
    omega (arith, is.long_enough.0, are.long_is) in
    record {
      is = by_pages pages are.begins (omega (arith, are.paged, is.short, is.long_enough.0));
      entry = record {
        allowed = ap (are_allowed version (length r.key)) are.long_is ∙ allowed;
        paged = are.paged ∙ ap pages_long (sym are.long_is)
            ∙ sym (ap (λ (b : Bool). cond b (pages_long (length content)) 0)
            (is_far_pair (r.key, content) many));
      };
      read = are.are_read;
      bytes = (held.0, are_bytes content bytes);
    }
  where
    is_far_here : IsFar r long
    is_far_here = subst (MayTell r) far told

    by_pages : (pages : List ℕ) → first ≡ first_of pages → 1 ≤ length pages
        → record_with (r.key, content) pages ≡ r
    by_pages [] begins some = absurd (omega (arith, some))
    by_pages (n ∷ rest) begins some =
        let number : u32_bytes n ≡ r.bytes = ap u32_bytes (sym begins ∙ sym first_is)
        ∙ four_bytes r.bytes held.1 is_far_here.number.0 in
        let tells : Some (length content) ≡ r.far = ap Some are.long_is ∙ sym far in
        λ i. record { key = r.key; bytes = number i; far = tells i }

-- ---- the first records of a page

pub record AreFirstRead (version : Version) (at : ℕ → Body) (end : ℕ) (records : List Record)
    (slot : ℕ) (marks : List Bool) (seen : List ℕ) : Type 0 where
  pub entries : List Entry
  pub are : map record_of entries ≡ take slot records
  pub entered : AllByRecursion (IsEntry version) entries
  pub are_read : AreRead at (flat_map entry_bodies entries)
  pub bytes : AllByRecursion (λ e. HasBytes e.pair) entries
  pub marked : AreMarked marks end (seen ++ pages_of entries)

pub none_read : (version : Version) (at : ℕ → Body) (end : ℕ) (records : List Record)
    (marks : List Bool) (seen : List ℕ) → AreMarked marks end seen
    → AreFirstRead version at end records 0 marks seen
none_read version at end records marks seen are = record {
  entries = [];
  are = refl;
  entered = tt;
  are_read = tt;
  bytes = tt;
  marked = subst (AreMarked marks end) (sym (append-nil seen)) are;
}

module _ (version : Version) (at : ℕ → Body) (end : ℕ) (records : List Record) (slot : ℕ)
    (marks : List Bool) (seen : List ℕ)
    (part : AreFirstRead version at end records slot marks seen) where
  -- one more
  entry_more : (now : List Bool) (r : Record) (e : Entry) → slot < length records
      → get_or records slot r ≡ r → IsEntryOf version at r e
      → AreMarked now end ((seen ++ pages_of part.entries) ++ e.pages)
      → AreFirstRead version at end records (slot + 1) now seen
  entry_more now r e within here is marked = record {
    entries = part.entries ++ e ∷ [];
    are = map-append record_of part.entries (e ∷ [])
        ∙ ap (λ (rs : List Record). rs ++ record_of e ∷ []) part.are
        ∙ ap (λ (q : Record). take slot records ++ q ∷ []) (is.is ∙ sym here)
        ∙ sym (take_more records slot r within);
    entered = AllByRecursion-append (IsEntry version) part.entries (e ∷ []) part.entered
        (is.entry, tt);
    are_read = subst (AreRead at)
        (sym (flat_map-append entry_bodies part.entries (e ∷ [])))
        (AllByRecursion-append (λ (b : NumberedBody). at b.number ≡ b.body)
        (flat_map entry_bodies part.entries) (entry_bodies e ++ []) part.are_read
        (AllByRecursion-append (λ (b : NumberedBody). at b.number ≡ b.body) (entry_bodies e) []
        is.read tt));
    bytes = AllByRecursion-append (λ (e : Entry). HasBytes e.pair) part.entries (e ∷ []) part.bytes
        (is.bytes, tt);
    marked = subst (AreMarked now end) (
        append_assoc seen (pages_of part.entries) e.pages
        ∙ ap (λ (ns : List ℕ). seen ++ (pages_of part.entries ++ ns)) (sym (append-nil e.pages))
        ∙ ap (λ (ns : List ℕ). seen ++ ns) (sym (pages_of-append part.entries (e ∷ [])))
        ) marked;
  }

  -- all
  pub all_read : length records ≤ slot → AreContentsChecked version at end records marks seen
  all_read over = record {
    entries = part.entries;
    are = record {
      are = part.are ∙ take_all slot records over;
      entered = part.entered;
      are_read = part.are_read;
    };
    bytes = part.bytes;
    marked = part.marked;
  }

-- records of a page are small
sizes_in : (records : List Record) → taken records ≤ 2032
    → AllByRecursion (λ r. size r ≤ 2026) records
sizes_in [] fit = tt
sizes_in (r ∷ records) fit = (omega arith, sizes_in records (omega arith))

module _ (version : Version) (at : ℕ → Body) (end slot : ℕ) (bytes : List ℕ)
    (marks : List Bool) (seen : List ℕ) (page : IsPageOf version bytes) (are : AreBytes bytes)
    (within : slot < length (page_records bytes))
    (part : AreFirstRead version at end (page_records bytes) slot marks seen) where
  abbrev blank : Record
  blank = record { key = []; bytes = []; far = None }

  abbrev here : Record
  here = get_or (page_records bytes) slot blank

  here_is : get_or (page_records bytes) slot here ≡ here
  here_is = get_or_default (page_records bytes) slot here blank within

  -- a near record
  pub near_more : HoldsAt (λ r. told_content r ≡ None) (page_records bytes) slot
      → AreFirstRead version at end (page_records bytes) (slot + 1) marks seen
  near_more told = entry_more version at end (page_records bytes) slot marks seen part marks here
      (record { pair = (here.key, here.bytes); pages = [] }) within here_is
      (near_entry version at here
      (All-from_recursion (λ (r : Record). size r ≤ 2026) (page_records bytes)
      (sizes_in (page_records bytes) page.page.sound.fits) slot blank within)
      (told_none here (told blank))
      (All-from_recursion RecordHasBytes (page_records bytes) (record_bytes bytes are) slot blank
      within))
      (subst (AreMarked marks end) (sym (append-nil (seen ++ pages_of part.entries))) part.marked)

  -- a far one, whose content was checked
  pub far_more : (first long : ℕ) (now : List Bool)
      → HoldsAt (λ r. told_content r ≡ Some (first, long)) (page_records bytes) slot
      → IsContentChecked at end first long now (seen ++ pages_of part.entries)
      → AreFirstRead version at end (page_records bytes) (slot + 1) now seen
  far_more first long now told checked =
      let tells = told_some here first long (told blank) in
      entry_more version at end (page_records bytes) slot marks seen part now here
      (record { pair = (here.key, checked.content); pages = checked.pages }) within here_is
      (far_entry version at here first long checked.pages checked.content
      (All-from_recursion IsRecord (page_records bytes) page.page.sound.records slot blank within)
      (All-from_recursion (IsOf version) (page_records bytes) page.of_version slot blank within)
      tells.0 tells.1 checked.are
      (All-from_recursion RecordHasBytes (page_records bytes) (record_bytes bytes are) slot blank
      within) checked.bytes)
      checked.marked

-- ---- the entries of a page

-- the entry of the record in a slot
record IsSplitAt (entries : List Entry) (records : List Record) (slot : ℕ) : Type 0 where
  pub front : List Entry
  pub entry : Entry
  pub behind : List Entry
  pub parts : entries ≡ front ++ entry ∷ behind
  pub front_is : map record_of front ≡ take slot records
  pub here : HoldsAt (λ r. r ≡ record_of entry) records slot

split_at : (entries : List Entry) (records : List Record) (slot : ℕ)
    → map record_of entries ≡ records → slot < length records → IsSplitAt entries records slot
split_at [] [] slot are within = absurd (omega (arith, within))
split_at [] (r ∷ records) slot are within = absurd (cc)
split_at (e ∷ entries) [] slot are within = absurd (cc)
split_at (e ∷ entries) (r ∷ records) zero are within = record {
  front = [];
  entry = e;
  behind = entries;
  parts = refl;
  front_is = refl;
  here = λ d. (let same : record_of e ≡ r = cc in sym same);
}
split_at (e ∷ entries) (r ∷ records) (suc slot) are within =
    let same : record_of e ≡ r = cc in
    let later = split_at entries records slot (cc) (omega (arith, within)) in
    record {
      front = e ∷ later.front;
      entry = later.entry;
      behind = later.behind;
      parts = λ i. e ∷ later.parts i;
      front_is = λ i. same i ∷ later.front_is i;
      here = λ d. later.here d;
    }

-- a far entry has its content on its pages
far_of : (version : Version) (at : ℕ → Body) (e : Entry) (first long : ℕ) → IsStored version at e
    → told_content (record_of e) ≡ Some (first, long)
    → AreContentPages at first long e.pages e.pair.1
far_of version at e first long is told = by_pages e.pages refl is.numbers told
  where
    by_pages : (pages : List ℕ) → e.pages ≡ pages → AllByRecursion IsPageNumber pages
        → told_content (record_with e.pair pages) ≡ Some (first, long)
        → AreContentPages at first long e.pages e.pair.1
    by_pages [] same ns told = absurd (cc)
    by_pages (n ∷ rest) same ns told =
        let both = one_telling (u32_at (u32_bytes n) 0, length e.pair.1) (first, long) told in
        let size : length e.pair.1 ≡ long = both.1 in
        let number : u32_at (u32_bytes n) 0 ≡ first = both.0 in
        let far = far_pages version e is.entry (omega (arith, ap length same)) in
        record {
          begins = sym number ∙ number_again n ns.0.1 ∙ ap first_of (sym same);
          paged = is.entry.paged
              ∙ ap (λ (b : Bool). cond b (pages_long (length e.pair.1)) 0) far
              ∙ ap pages_long size;
          long_is = size;
          are_read = is.read;
        }

-- the content of the record in a slot, whose pages may be marked
pub record IsContentHere (at : ℕ → Body) (end first long : ℕ) (seen : List ℕ) : Type 0 where
  pub pages : List ℕ
  pub content : List ℕ
  pub are : AreContentPages at first long pages content
  pub may : MayBeSeen end (seen ++ pages)

pub content_here : (version : Version) (at : ℕ → Body) (end : ℕ) (records : List Record)
    (slot first long : ℕ) (marks : List Bool) (seen : List ℕ) (entries : List Entry)
    → (part : AreFirstRead version at end records slot marks seen) → end ≤ 2 ^ 32
    → AreEntriesOf version at records entries → MayBeSeen end (seen ++ pages_of entries)
    → slot < length records
    → HoldsAt (λ r. told_content r ≡ Some (first, long)) records slot
    → IsContentHere at end first long (seen ++ pages_of part.entries)
content_here version at end records slot first long marks seen entries part small of may within
    told =
    let split = split_at entries records slot of.are within in
    let blank : Record = record { key = []; bytes = []; far = None } in
    let e = split.entry in
    let all = subst (AllByRecursion (IsStored version at)) split.parts
    (are_stored version at entries of.entered
    (page_numbers end (pages_of entries) small (may_behind end seen (pages_of entries) may))
    of.are_read) in
    let read = are_stored version at part.entries part.entered
    (page_numbers end (pages_of part.entries) small
    (may_behind end seen (pages_of part.entries)
    (are_seen marks end (seen ++ pages_of part.entries) part.marked))) part.are_read in
    let front : part.entries ≡ split.front = one_entries version at part.entries split.front read
    (AllByRecursion-left (IsStored version at) split.front (e ∷ split.behind) all)
    (part.are ∙ sym split.front_is) in
    let mine = AllByRecursion-right (IsStored version at) split.front (e ∷ split.behind) all in
    record {
      pages = e.pages;
      content = e.pair.1;
      are = far_of version at e first long mine.0
          (ap told_content (sym (split.here blank)) ∙ told blank);
      may = fewer_seen end (seen ++ pages_of entries) ((seen ++ pages_of part.entries) ++ e.pages)
          (λ n. omega (
            arith,
            times_parts n (seen ++ pages_of part.entries) e.pages,
            times_parts n seen (pages_of part.entries),
            times_parts n seen (pages_of entries),
            ap (λ (es : List Entry). times_of n (pages_of es)) front,
            ap (λ (es : List Entry). times_of n (pages_of es)) split.parts,
            ap (times_of n) (pages_of-append split.front (e ∷ split.behind)),
            times_parts n (pages_of split.front) (e.pages ++ pages_of split.behind),
            times_parts n e.pages (pages_of split.behind),
          )) may;
    }
