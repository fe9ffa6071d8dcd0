-- What a file stands for does not depend on sector 1.
use Rattle.std.proofs.Common.{◌≡◌, ◌≢◌, inl, inr, ⊎_elim, ◌≤◌, ◌*◌, ◌+◌, ◌/◌, ℕ, List, Bool, cond, ◌||◌, eqb, ltb, refl, sym, ◌∙◌, ap, subst, arith}
use Rattle.std.proofs.lemmas.Bool.{cases_eq}
use Rattle.sect_dev.specs.Device.{Image, IsImageOf, NoNewCandidate, with_sector, with_candidate, Elapses, LeavesOnly}
use Rattle.sect_dev.specs.Moments.{at_same, at_other, fewer_images, by_call, goes_on}
use Rattle.sect_dev.specs.declared.device.SectorDev.{Ghosts}
use Rattle.page_io.specs.Page.{page_at}
use Rattle.page_io.specs.Store.{Pages, Settled, file_of, nothing, are_in_order, file_pages, overlaid}
use Rattle.page_io.proofs.Overlays.{same_pages, same_file, overlaid-over}
use Rattle.page_io.proofs.PageLaws.{same_page}
use Rattle.commit_log.specs.Log.{Log, slot_of, log_by, is_disordered, has_disordered, settled_newer, settled_logs, settled_at}
use Rattle.commit_log.proofs.Finds.{same_slots, same_disorder}
use Rattle.redo_area.specs.Header.{header_of, IsInRange}
use Rattle.redo_area.specs.declared.header.Header.{Header}
use Rattle.redo_area.specs.declared.header.Header.TheVariants.{Blank, Clear, Armed, Logging, NotOurs, Damaged}
use Rattle.redo_area.proofs.SectorRanges.{sector_in_range}
use Rattle.redo_area.specs.File.{settled, settled_by, redo_images}
use Rattle.redo_area.specs.Turn.{IsAsBefore}

-- two images that differ in sector 1 at the most
module _ (a b : Image) (same : (m : ℕ) → m ≢ 1 → a m ≡ b m) where
  same_at : (n : ℕ) → 1 ≤ n → page_at a n ≡ page_at b n
  same_at n ge = same_page a b n (λ m ge4 lt4. same m (λ one. omega (arith, ge, ge4, one)))

  same_newer : (older newer : Log)
      → settled_newer older newer (page_at a) ≡ settled_newer older newer (page_at b)
  same_newer older newer =
      ap (λ (s : Settled). cond (eqb newer.number 0) nothing s)
      (ap file_of (same_file (overlaid newer.pages (overlaid older.pages (page_at a)))
      (overlaid newer.pages (overlaid older.pages (page_at b))) newer.end
      (λ n ge lt. overlaid-over newer.pages (overlaid older.pages (page_at b))
      (overlaid older.pages (page_at a)) n
      (λ _. overlaid-over older.pages (page_at b) (page_at a) n (λ _. same_at n ge)))))

  same_slot : (start from : ℕ) → 4 ≤ from
      → log_by start (slot_of a from) ≡ log_by start (slot_of b from)
  same_slot start from ge = same_slots start (slot_of a from) (slot_of b from)
      (λ k lt. same (from + k) (λ one. omega (arith, ge, one)))

  same_order : (start from : ℕ) → 4 ≤ from
      → is_disordered start (slot_of a from) ≡ is_disordered start (slot_of b from)
  same_order start from ge = same_disorder start (slot_of a from) (slot_of b from)
      (λ k lt. same (from + k) (λ one. omega (arith, ge, one)))

  same_logs : (start : ℕ) → 4 ≤ start
      → settled_logs (log_by start (slot_of a (4 * start)))
      (log_by start (slot_of a (4 * start + 64))) (page_at a)
      ≡ settled_logs (log_by start (slot_of b (4 * start)))
      (log_by start (slot_of b (4 * start + 64))) (page_at b)
  same_logs start ge =
      let first = log_by start (slot_of b (4 * start)) in
      let second = log_by start (slot_of b (4 * start + 64)) in
      ap (λ (l : Log). settled_logs l (log_by start (slot_of a (4 * start + 64))) (page_at a))
      (same_slot start (4 * start) (omega (arith, ge)))
      ∙ ap (λ (l : Log). settled_logs first l (page_at a))
      (same_slot start (4 * start + 64) (omega (arith, ge)))
      ∙ ap (λ (s : Settled). cond (ltb second.number first.number) s
      (settled_newer first second (page_at a))) (same_newer second first)
      ∙ ap (λ (s : Settled). cond (ltb second.number first.number)
      (settled_newer second first (page_at b)) s) (same_newer first second)

  same_log : (start : ℕ) → 4 ≤ start → settled_at a start ≡ settled_at b start
  same_log start ge =
      ap (λ (d : Bool). cond (d || is_disordered start (slot_of a (4 * start + 64))) nothing
      (settled_logs (log_by start (slot_of a (4 * start)))
      (log_by start (slot_of a (4 * start + 64))) (page_at a)))
      (same_order start (4 * start) (omega (arith, ge)))
      ∙ ap (λ (d : Bool). cond (is_disordered start (slot_of b (4 * start)) || d) nothing
      (settled_logs (log_by start (slot_of a (4 * start)))
      (log_by start (slot_of a (4 * start + 64))) (page_at a)))
      (same_order start (4 * start + 64) (omega (arith, ge)))
      ∙ ap (λ (s : Settled). cond (has_disordered b start) nothing s) (same_logs start ge)

  same_by : (capacity : ℕ) (h : Header) → IsInRange capacity h → settled_by h a ≡ settled_by h b
  same_by capacity Blank range = refl
  same_by capacity (Clear end) range =
      ap file_of (same_file (page_at a) (page_at b) end (λ n ge lt. same_at n ge))
  same_by capacity (Armed end start count) range =
      let images : redo_images a start count ≡ redo_images b start count =
      same_pages (page_at a) (page_at b) start count
      (λ n ge lt. same_at n (omega (arith, ge, range.0, range.1))) in
      ap (λ (r : Pages). cond (are_in_order 1 end r) (file_of
      (file_pages (overlaid r (page_at a)) end)) nothing) images
      ∙ ap (λ (s : Settled). cond (are_in_order 1 end (redo_images b start count)) s nothing)
      (ap file_of (same_file (overlaid (redo_images b start count) (page_at a))
      (overlaid (redo_images b start count) (page_at b)) end
      (λ n ge lt. overlaid-over (redo_images b start count) (page_at b) (page_at a) n
      (λ _. same_at n ge))))
  same_by capacity (Logging start) range = same_log start range.0
  same_by capacity NotOurs range = refl
  same_by capacity Damaged range = refl

  pub same_but_turn : (capacity : ℕ) → settled capacity a ≡ settled capacity b
  unfolding settled
  same_but_turn capacity =
      ap (λ (s : List ℕ). settled_by (header_of capacity s) a) (same 0 (λ one. omega (arith, one)))
      ∙ same_by capacity (header_of capacity (b 0)) (sector_in_range capacity (b 0))

-- Calls behind which each image settles as one of the start: reads, and a write of sector 1.
module _ {D : Type 0} (dev : Ghosts D) (first : D)
    (only_now : (image : Image) → dev.left_since first (dev.moment first).at image
    → IsImageOf (dev.candidate first) image) where
  abbrev pub AsBefore : Image → Type 0
  AsBefore = IsAsBefore (dev.sectors first / 4) (dev.candidate first)

  pub old_too : (image : Image) → IsImageOf (dev.candidate first) image → AsBefore image
  old_too image is = record { start = image; at_start = is; same = refl; sector = refl }

  module _ (one : D) (none_one : NoNewCandidate (dev.candidate first) (dev.candidate one)) where
    pub one_image : (image : Image) → IsImageOf (dev.candidate one) image → AsBefore image
    one_image image is =
        old_too image (fewer_images (dev.candidate first) (dev.candidate one) image none_one is)

    pub one_leaves : Elapses (dev.moment first) (dev.moment one) (dev.left_since first)
        (dev.left_since one) (IsImageOf (dev.candidate one))
        → LeavesOnly dev.moment dev.left_since first one AsBefore
    one_leaves time =
        by_call dev.moment dev.left_since first one AsBefore (IsImageOf (dev.candidate one))
        (λ image left. old_too image (only_now image left)) time one_image

    module _ (two : D) (none_two : NoNewCandidate (dev.candidate one) (dev.candidate two)) where
      pub two_image : (image : Image) → IsImageOf (dev.candidate two) image → AsBefore image
      two_image image is =
          one_image image (fewer_images (dev.candidate one) (dev.candidate two) image none_two is)

      pub two_leave : LeavesOnly dev.moment dev.left_since first one AsBefore
          → Elapses (dev.moment one) (dev.moment two) (dev.left_since one) (dev.left_since two)
          (IsImageOf (dev.candidate two))
          → LeavesOnly dev.moment dev.left_since first two AsBefore
      two_leave run time =
          goes_on dev.moment dev.left_since first one two AsBefore (IsImageOf (dev.candidate two))
          run time two_image

      module _ (three : D) (content : List ℕ) (stays : IsImageOf (dev.candidate first) (dev.seen first))
          (none_three : NoNewCandidate (with_candidate (dev.candidate two) 1 content)
          (dev.candidate three)) where
        abbrev at_start : Image → Image
        at_start image = with_sector image 1 (dev.seen first 1)

        among : (image : Image) → IsImageOf (dev.candidate three) image
            → IsImageOf (dev.candidate first) (at_start image)
        among image is m = elim (cases_eq m 1) [
          | inl one ↦ subst (dev.candidate first m)
              (ap (dev.seen first) one ∙ sym (at_same image 1 (dev.seen first 1) m one)) (stays m)
          | inr other ↦ subst (dev.candidate first m)
              (sym (at_other image 1 (dev.seen first 1) m other))
              (⊎_elim (λ old. none_one m (image m) (none_two m (image m) old))
              (λ turn. absurd (other turn.0)) (none_three m (image m) (is m)))
        ]

        pub three_image : (image : Image) → IsImageOf (dev.candidate three) image → AsBefore image
        three_image image is = record {
          start = at_start image;
          at_start = among image is;
          same = same_but_turn image (at_start image)
              (λ m other. sym (at_other image 1 (dev.seen first 1) m other)) (dev.sectors first / 4);
          sector = sym (at_other image 1 (dev.seen first 1) 0 (λ one. omega (arith, one)));
        }

        pub three_leave : LeavesOnly dev.moment dev.left_since first two AsBefore
            → Elapses (dev.moment two) (dev.moment three) (dev.left_since two)
            (dev.left_since three) (IsImageOf (dev.candidate three))
            → LeavesOnly dev.moment dev.left_since first three AsBefore
        three_leave run time =
            goes_on dev.moment dev.left_since first two three AsBefore
            (IsImageOf (dev.candidate three)) run time three_image
