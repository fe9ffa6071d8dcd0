-- What the images of each step of a commit settle to.
use Rattle.std.proofs.Common.{◌≡◌, ◌⊎◌, inl, inr, ⊎_elim, ℕ, ◌+◌, ◌*◌, ◌<◌, ◌≤◌, List, length, Bool, true, false, cond, refl, sym, ◌∙◌, ap, arith}
use Rattle.sect_dev.specs.Device.{Image, Candidates, IsStable, with_sector}
use Rattle.page_io.specs.Page.{page_at, IsOutside}
use Rattle.page_io.proofs.PageLaws.{same_page, at_same, at_other}
use Rattle.page_io.specs.Store.{Pages, blank, file_of, nothing, pages_from, file_pages, overlaid, are_in_order}
use Rattle.page_io.proofs.Overlays.{same_pages, same_file, overlaid-over}
use Rattle.redo_area.specs.Header.{header_of}
use Rattle.redo_area.specs.declared.header.Header.{Header}
use Rattle.redo_area.specs.declared.header.Header.TheVariants.{Blank, Clear, Armed, Logging, NotOurs, Damaged}
use Rattle.commit_log.specs.Log.{settled_at, IsLogged}
use Rattle.commit_log.proofs.LogHolds.{log_holds}
use Rattle.commit_log.proofs.Outside.{outside-below, outside-above, outside-apart}
use Rattle.redo_area.specs.File.{settled, settled_by, settled_over, redo_images, IsOutsideAll, IsAtRest, IsArmed, IsHeld, HoldsWaiting}

-- pages behind sector 0 are as they were
pub same_new : (first mid : Image) (redo : Pages) (end start : ℕ) → end ≤ start
    → ((m : ℕ) → 0 < m → m < 4 * start → mid m ≡ first m)
    → file_pages (overlaid redo (page_at mid)) end ≡ file_pages (overlaid redo (page_at first)) end
same_new first mid redo end start le same =
    same_file (overlaid redo (page_at mid)) (overlaid redo (page_at first)) end
    (λ n ge lt. overlaid-over redo (page_at first) (page_at mid) n
    (λ apart. same_page mid first n
    (λ m ge4 lt4. same m (omega (arith, ge, ge4)) (omega (arith, lt, le, lt4)))))

-- a page came to its own number, and what else was written stands behind
pub now_home : (first written mid : Image) (from : ℕ) (redo : Pages) (n : ℕ)
    → page_at mid n ≡ overlaid redo (page_at written) n
    → ((m : ℕ) → m < 4 * from → written m ≡ first m)
    → n < from → page_at mid n ≡ overlaid redo (page_at first) n
now_home first written mid from redo n home same lt =
    home ∙ overlaid-over redo (page_at first) (page_at written) n
    (λ apart. same_page written first n (λ m ge4 lt4. same m (omega (arith, lt, lt4))))

-- images stay behind pages that come to their own numbers
pub images_stay : (written mid : Image) (end start count : ℕ) (redo pages : Pages)
    → are_in_order 1 end redo ≡ true → end ≤ start
    → ((m : ℕ) → IsOutsideAll redo m → mid m ≡ written m)
    → pages_from (page_at written) start count ≡ pages
    → pages_from (page_at mid) start count ≡ pages
images_stay written mid end start count redo pages order le others is =
    same_pages (page_at mid) (page_at written) start count
    (λ n ge lt. same_page mid written n
    (λ m ge4 lt4. others m (outside-above 1 end redo m order (omega (arith, ge, ge4, le))))) ∙ is

module _ (capacity : ℕ) where
  pub settled-clear : (image : Image) (end : ℕ) → header_of capacity (image 0) ≡ Clear end
      → settled capacity image ≡ file_of (file_pages (page_at image) end)
  unfolding settled
  settled-clear image end is = ap (λ (h : Header). settled_by h image) is

  pub settled-armed : (image : Image) (end start : ℕ) (redo : Pages)
      → header_of capacity (image 0) ≡ Armed end start (length redo)
      → redo_images image start (length redo) ≡ redo → are_in_order 1 end redo ≡ true
      → settled capacity image ≡ file_of (file_pages (overlaid redo (page_at image)) end)
  unfolding settled
  settled-armed image end start redo is images order =
      ap (λ (h : Header). settled_by h image) is
      ∙ ap (λ (r : Pages). settled_over r image end) images
      ∙ ap (λ (b : Bool). cond b (file_of (file_pages (overlaid redo (page_at image)) end)) nothing)
      order

  pub settled-logging : (image : Image) (start : ℕ) → header_of capacity (image 0) ≡ Logging start
      → settled capacity image ≡ settled_at image start
  unfolding settled
  settled-logging image start is = ap (λ (h : Header). settled_by h image) is

  pub settled-blank : (image : Image) → header_of capacity (image 0) ≡ Blank
      → settled capacity image ≡ blank
  unfolding settled
  settled-blank image is = ap (λ (h : Header). settled_by h image) is

  pub settled-not_ours : (image : Image) → header_of capacity (image 0) ≡ NotOurs
      → settled capacity image ≡ nothing
  unfolding settled
  settled-not_ours image is = ap (λ (h : Header). settled_by h image) is

  pub settled-damaged : (image : Image) → header_of capacity (image 0) ≡ Damaged
      → settled capacity image ≡ nothing
  unfolding settled
  settled-damaged image is = ap (λ (h : Header). settled_by h image) is

  pub settled-disordered : (image : Image) (end start count : ℕ)
      → header_of capacity (image 0) ≡ Armed end start count
      → are_in_order 1 end (redo_images image start count) ≡ false
      → settled capacity image ≡ nothing
  unfolding settled
  settled-disordered image end start count is order =
      let redo = redo_images image start count in
      ap (λ (h : Header). settled_by h image) is
      ∙ ap (λ (b : Bool). cond b (file_of (file_pages (overlaid redo (page_at image)) end))
      nothing) order

  -- step 1: what is written stands behind the file
  pub staging : (seen image : Image) (end start : ℕ) → header_of capacity (seen 0) ≡ Clear end
      → end ≤ start → 1 ≤ start
      → ((m : ℕ) → m < 4 * start → image m ≡ seen m)
      → settled capacity image ≡ file_of (file_pages (page_at seen) end)
  staging seen image end start header le some same =
      settled-clear image end (ap (header_of capacity) (same 0 (omega (arith, some))) ∙ header)
      ∙ ap file_of (same_file (page_at image) (page_at seen) end
      (λ n ge lt. same_page image seen n
      (λ m ge4 lt4. same m (omega (arith, lt, le, lt4)))))

  -- step 2: the images are armed
  pub armed_over : (seen image : Image) (end start : ℕ) (redo : Pages)
      → header_of capacity (image 0) ≡ Armed end start (length redo)
      → redo_images image start (length redo) ≡ redo → are_in_order 1 end redo ≡ true → end ≤ start
      → ((m : ℕ) → 0 < m → m < 4 * start → image m ≡ seen m)
      → settled capacity image ≡ file_of (file_pages (overlaid redo (page_at seen)) end)
  armed_over seen image end start redo header images order le same =
      settled-armed image end start redo header images order
      ∙ ap file_of (same_new seen image redo end start le same)

  -- step 3: home pages are written under the images, and others behind the end beside these
  pub armed_holds : {candidate : Candidates} {seen : Image} {end start : ℕ} {redo : Pages}
      → IsArmed capacity end start redo candidate seen → end ≤ start → 1 ≤ end
      → HoldsWaiting capacity end start (length redo) redo candidate seen
  armed_holds {candidate} {seen} {end} {start} {redo} is le some = record {
    stable = is.stable;
    in_order = is.in_order;
    settles = λ image same.
        settled-armed image end start redo
        (ap (header_of capacity) (same 0 (outside-below 1 end redo 0 is.in_order (omega arith))
        (inl (omega (arith, some)))) ∙ is.header)
        (same_pages (page_at image) (page_at seen) start (length redo)
        (λ n ge lt. same_page image seen n
        (λ m ge4 lt4. same m (outside-above 1 end redo m is.in_order
        (omega (arith, ge, le, ge4)))
        (inr (omega (arith, ge, ge4), omega (arith, lt, lt4))))) ∙ is.images)
        is.in_order
        ∙ ap file_of (same_file (overlaid redo (page_at image)) (overlaid redo (page_at seen)) end
        (λ n ge lt. overlaid-over redo (page_at seen) (page_at image) n
        (λ apart. same_page image seen n
        (λ m ge4 lt4. same m (outside-apart redo n m apart ge4 lt4)
        (inl (omega (arith, lt, lt4)))))));
  }

  -- the same under a log
  pub logged_holds : {candidate : Candidates} {seen : Image} {end start number at beside : ℕ}
      {waiting : Pages} → IsLogged end start number at beside waiting candidate seen
      → header_of capacity (seen 0) ≡ Logging start
      → HoldsWaiting capacity end start 32 waiting candidate seen
  logged_holds {candidate} {seen} {end} {start} is header = record {
    stable = is.stable;
    in_order = is.in_order;
    settles = λ image same.
        settled-logging image start
        (ap (header_of capacity) (same 0 (outside-below 1 end _ 0 is.in_order (omega arith))
        (inl (omega (arith, is.least)))) ∙ header)
        ∙ log_holds is image (λ m out held. same m out
        (⊎_elim (λ low. inl low) (λ high. inr (high.0, omega (arith, high.1))) held));
  }

  -- what is written beside it
  pub beside_held : {candidate : Candidates} {seen : Image} {end start held : ℕ} {waiting : Pages}
      → HoldsWaiting capacity end start held waiting candidate seen → (from count : ℕ) → end ≤ from
      → (from + count ≤ start) ⊎ (start + held ≤ from) → (image : Image)
      → ((m : ℕ) → IsOutsideAll waiting m → IsOutside (4 * from) (4 * (from + count)) m
      → image m ≡ seen m)
      → settled capacity image ≡ file_of (file_pages (overlaid waiting (page_at seen)) end)
  beside_held {candidate} {seen} {end} {start} {held} holds from count low far image same =
      holds.settles image (λ m out is. same m out (apart m is))
    where
      apart : (m : ℕ) → IsHeld end start held m → IsOutside (4 * from) (4 * (from + count)) m
      apart m (inl front) = inl (omega (arith, front, low))
      apart m (inr within) = ⊎_elim (λ before. inr (omega (arith, before, within.0)))
          (λ behind. inl (omega (arith, behind, within.1))) far

  -- after step 2
  pub now_armed : (mid : Image) (content : List ℕ) (end start count : ℕ) (redo : Pages)
      → length redo ≡ count → header_of capacity content ≡ Armed end start count
      → pages_from (page_at mid) start count ≡ redo → 1 ≤ start
      → (header_of capacity (with_sector mid 0 content 0) ≡ Armed end start (length redo))
      × (redo_images (with_sector mid 0 content) start (length redo) ≡ redo)
  now_armed mid content end start count redo long header images some = (
    ap (header_of capacity) (at_same mid 0 content 0 refl) ∙ header
        ∙ ap (Armed end start) (sym long),
    ap (pages_from (page_at (with_sector mid 0 content)) start) long
        ∙ same_pages (page_at (with_sector mid 0 content)) (page_at mid) start count
        (λ n ge lt. same_page (with_sector mid 0 content) mid n
        (λ m ge4 lt4. at_other mid 0 content m (omega (arith, some, ge, ge4)))) ∙ images,
  )

  -- after step 4
  pub now_clear : (first mid : Image) (content : List ℕ) (end : ℕ) (redo : Pages)
      → ((n : ℕ) → page_at mid n ≡ overlaid redo (page_at first) n)
      → file_pages (page_at (with_sector mid 0 content)) end
      ≡ file_pages (overlaid redo (page_at first)) end
  now_clear first mid content end redo written =
      same_file (page_at (with_sector mid 0 content)) (overlaid redo (page_at first)) end
      (λ n ge lt. same_page (with_sector mid 0 content) mid n
      (λ m ge4 lt4. at_other mid 0 content m (omega (arith, ge, ge4))) ∙ written n)

  -- the commit sector is put, and is clear
  pub rest_after : (candidate : Candidates) (mid seen : Image) (content : List ℕ) (end : ℕ)
      → IsStable candidate seen → seen ≡ with_sector mid 0 content
      → header_of capacity content ≡ Clear end
      → IsAtRest capacity end candidate seen
  rest_after candidate mid seen content end stable is header = record {
    stable = stable;
    header = ap (λ (s : Image). header_of capacity (s 0)) is
        ∙ ap (header_of capacity) (at_same mid 0 content 0 refl) ∙ header;
  }
