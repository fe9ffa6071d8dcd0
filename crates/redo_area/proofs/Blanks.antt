-- A device is blank exactly where its first sector is zeros.
use Rattle.std.proofs.Common.{◌≡◌, ◌≢◌, inl, inr, ℕ, List, drop, replicate, ◌+◌, ◌*◌, Bool, true, false, cond, ◌&&◌, eqb, leb, ltb, refl, sym, ◌∙◌, ap, subst}
use Rattle.std.proofs.lemmas.Bool.{cases_eq}
use Rattle.std.specs.Cmp.Lexicographic.{pointwise}
use Rattle.sect_dev.specs.Device.{Image, Candidates, IsImageOf, with_sector}
use Rattle.sect_dev.specs.Moments.{at_same, at_other}
use Rattle.sect_dev.specs.Sector.{zeros}
use Rattle.page_model.specs.Bytes.{u32_at}
use Rattle.page_io.specs.Page.{page_at}
use Rattle.page_io.specs.Store.{Pages, blank, file_of, file_pages, nothing, overlaid, are_in_order}
use Rattle.commit_log.specs.Log.{slot_of, log_by, has_disordered}
use Rattle.redo_area.specs.Header.{has_magic, is_magic, header_by, header_of}
use Rattle.redo_area.specs.declared.header.CommitKind.TheVariants.{Log}
use Rattle.redo_area.specs.declared.header.Header.{Header}
use Rattle.redo_area.specs.declared.header.Header.TheVariants.{Blank, Clear, Armed, Logging, NotOurs, Damaged}
use Rattle.redo_area.specs.File.{settled, settled_by, redo_images}
use Rattle.redo_area.proofs.Headers.{bytes_same, header_of-zeros}

never_blank : (in_range is_clear is_armed is_logging : Bool) (end start count : ℕ)
    → cond in_range (cond is_clear (Clear end) (cond is_armed (Armed end start count)
    (cond is_logging (Logging start) Damaged))) Damaged ≢ Blank
never_blank true true is_armed is_logging end start count is = cc
never_blank true false true is_logging end start count is = cc
never_blank true false false true end start count is = cc
never_blank true false false false end start count is = cc
never_blank false is_clear is_armed is_logging end start count is = cc

by_tests : (empty ours padded : Bool) (said : Header) → said ≢ Blank
    → cond empty Blank (cond ours (cond padded said Damaged) NotOurs) ≡ Blank → empty ≡ true
by_tests true ours padded said other is = refl
by_tests false true true said other is = absurd (other is)
by_tests false true false said other is = cc
by_tests false false padded said other is = cc

zeros_of : (capacity : ℕ) (sector : List ℕ) → header_of capacity sector ≡ Blank → sector ≡ zeros
unfolding header_of
zeros_of capacity sector is =
    let state = u32_at sector 8 in
    let end = u32_at sector 12 in
    let start = u32_at sector 16 in
    let count = u32_at sector 20 in
    bytes_same sector zeros
    (by_tests (pointwise eqb sector zeros) (has_magic sector)
    (pointwise eqb (replicate 488 0) (drop 24 sector))
    (header_by capacity (is_magic Log sector) state end start count)
    (never_blank (leb 4 end && leb end capacity) (eqb state 0 && eqb start 0 && eqb count 0)
    (eqb state 1 && leb 1 count && leb end start && leb (start + count) capacity)
    (eqb state 2 && is_magic Log sector && eqb count 0 && leb end start
    && leb (start + 32) capacity) end
    start count) is)

over_images : (order : Bool) (pages : Pages) → cond order (file_of pages) nothing ≢ blank
over_images true pages is = cc
over_images false pages is = cc

over_logs : (damaged turned first second : Bool) (a b : Pages)
    → cond damaged nothing (cond turned (cond first nothing (file_of a))
    (cond second nothing (file_of b))) ≢ blank
over_logs true turned first second a b is = cc
over_logs false true true second a b is = cc
over_logs false true false second a b is = cc
over_logs false false first true a b is = cc
over_logs false false first false a b is = cc

blank_header : (header : Header) (image : Image) → settled_by header image ≡ blank → header ≡ Blank
blank_header Blank image is = refl
blank_header (Clear end) image is = cc
blank_header (Armed end start count) image is =
    absurd (over_images (are_in_order 1 end (redo_images image start count)) _ is)
blank_header (Logging start) image is =
    let first = log_by start (slot_of image (4 * start)) in
    let second = log_by start (slot_of image (4 * start + 64)) in
    let home = page_at image in
    absurd (over_logs (has_disordered image start) (ltb second.number first.number)
    (eqb first.number 0) (eqb second.number 0)
    (file_pages (overlaid first.pages (overlaid second.pages home)) first.end)
    (file_pages (overlaid second.pages (overlaid first.pages home)) second.end) is)
blank_header NotOurs image is = cc
blank_header Damaged image is = cc

blank_zeros : (capacity : ℕ) (image : Image) → settled capacity image ≡ blank → image 0 ≡ zeros
unfolding settled
blank_zeros capacity image is =
    zeros_of capacity (image 0) (blank_header (header_of capacity (image 0)) image is)

-- where every image is blank, the first sector has nothing but zeros
pub blank_candidates : (capacity : ℕ) (candidate : Candidates) (seen : Image)
    → IsImageOf candidate seen → ((image : Image) → IsImageOf candidate image
    → settled capacity image ≡ blank)
    → (c : List ℕ) → candidate 0 c → c ≡ zeros
blank_candidates capacity candidate seen may all c is =
    let image : Image = with_sector seen 0 c in
    let is_image = λ (m : ℕ). elim (cases_eq m 0) as (λ x. candidate m (image m)) [
      | inl same ↦ subst (candidate m) (sym (at_same seen 0 c m same))
          (subst (λ (k : ℕ). candidate k c) (sym same) is)
      | inr other ↦ subst (candidate m) (sym (at_other seen 0 c m other)) (may m)
    ] in
    sym (at_same seen 0 c 0 refl) ∙ blank_zeros capacity image (all image is_image)

pub blank_image : (capacity : ℕ) (image : Image) → image 0 ≡ zeros → settled capacity image ≡ blank
unfolding settled
blank_image capacity image is =
    ap (λ (h : Header). settled_by h image) (ap (header_of capacity) is ∙ header_of-zeros capacity)
