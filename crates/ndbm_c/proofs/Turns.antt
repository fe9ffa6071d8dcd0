-- What a file stands for does not depend on sector 1, which has the turn.
use Rattle.std.proofs.Common.{◌≡◌, ◌≢◌, ◌≤◌, ◌*◌, ◌+◌, ℕ, List, drop, replicate, Bool, true, false, cond, ◌&&◌, ◌||◌, eqb, leb, ltb, refl, ◌∙◌, ap, arith}
use Rattle.std.proofs.lemmas.Bool.{and_parts, leb-true}
use Rattle.std.specs.Cmp.Lexicographic.{pointwise}
use Rattle.sect_dev.specs.Device.{Image}
use Rattle.sect_dev.specs.Sector.{zeros}
use Rattle.page_model.specs.Bytes.{u32_at}
use Rattle.page_io.specs.Page.{page_at}
use Rattle.page_io.specs.Store.{Pages, Settled, file_of, nothing, are_in_order, file_pages, overlaid}
use Rattle.page_io.proofs.Overlays.{same_pages, same_file, overlaid-over}
use Rattle.page_io.proofs.PageLaws.{same_page}
use Rattle.commit_log.specs.Log.{Log, slot_of, log_by, is_disordered, has_disordered, settled_newer, settled_logs, settled_at}
use Rattle.commit_log.proofs.Finds.{same_slots, same_disorder}
use Rattle.redo_area.specs.Header.{has_magic, is_magic, header_by, header_of, IsInRange}
use Rattle.redo_area.specs.declared.header.CommitKind.TheVariants as commits
use Rattle.redo_area.specs.declared.header.Header.{Header}
use Rattle.redo_area.specs.declared.header.Header.TheVariants.{Blank, Clear, Armed, Logging, NotOurs, Damaged}
use Rattle.redo_area.specs.File.{settled, settled_by, redo_images}

-- ---- what a commit sector may say

pick : (P : Header → Type 0) (b : Bool) (x y : Header) → (b ≡ true → P x) → P y → P (cond b x y)
pick P true x y then other = then refl
pick P false x y then other = other

fields_in_range : (capacity : ℕ) (may_log : Bool) (state end start count : ℕ)
    → IsInRange capacity (header_by capacity may_log state end start count)
fields_in_range capacity may_log state end start count =
    pick (IsInRange capacity) (leb 4 end && leb end capacity) _ Damaged
    (λ both.
    let ends = and_parts (leb 4 end) (leb end capacity) both in
    let low = leb-true 4 end ends.0 in
    pick (IsInRange capacity) (eqb state 0 && eqb start 0 && eqb count 0) (Clear end) _
    (λ _. (low, leb-true end capacity ends.1))
    (pick (IsInRange capacity) (eqb state 1 && leb 1 count && leb end start && leb (start + count) capacity)
    (Armed end start count) _
    (λ is.
    let last = and_parts (eqb state 1 && leb 1 count && leb end start)
    (leb (start + count) capacity) is in
    let next = and_parts (eqb state 1 && leb 1 count) (leb end start) last.0 in
    (low, leb-true end start next.1, leb-true (start + count) capacity last.1))
    (pick (IsInRange capacity) (eqb state 2 && may_log && eqb count 0 && leb end start
    && leb (start + 32) capacity) (Logging start) Damaged
    (λ is.
    let last = and_parts (eqb state 2 && may_log && eqb count 0 && leb end start)
    (leb (start + 32) capacity) is in
    let next = and_parts (eqb state 2 && may_log && eqb count 0) (leb end start) last.0 in
    let above = leb-true end start next.1 in
    (omega (arith, low, above), leb-true (start + 32) capacity last.1))
    tt)))
    tt

sector_in_range : (capacity : ℕ) (sector : List ℕ) → IsInRange capacity (header_of capacity sector)
unfolding header_of
sector_in_range capacity sector =
    pick (IsInRange capacity) (pointwise eqb sector zeros) Blank _ (λ _. tt)
    (pick (IsInRange capacity) (has_magic sector) _ NotOurs
    (λ _. pick (IsInRange capacity) (pointwise eqb (replicate 488 0) (drop 24 sector)) _ Damaged
    (λ _. fields_in_range capacity (is_magic commits.Log sector) (u32_at sector 8) (u32_at sector 12)
    (u32_at sector 16) (u32_at sector 20)) tt) tt)

-- ---- images

-- two images that differ in sector 1 at the most
module _ (a b : Image) (same : (m : ℕ) → m ≢ 1 → a m ≡ b m) where
  same_at : (n : ℕ) → 1 ≤ n → page_at a n ≡ page_at b n
  same_at n ge = same_page a b n (λ m ge4 lt4. same m (λ one. omega (arith, ge, ge4, one)))

  same_newer : (older newer : Log)
      → settled_newer older newer (page_at a) ≡ settled_newer older newer (page_at b)
  same_newer older newer =
      ap (λ (s : Settled). cond (eqb newer.number 0) nothing s)
      (ap file_of (same_file (overlaid newer.pages (overlaid older.pages (page_at a)))
      (overlaid newer.pages (overlaid older.pages (page_at b))) newer.end
      (λ n ge lt. overlaid-over newer.pages (overlaid older.pages (page_at b))
      (overlaid older.pages (page_at a)) n
      (λ _. overlaid-over older.pages (page_at b) (page_at a) n (λ _. same_at n ge)))))

  same_slot : (start from : ℕ) → 4 ≤ from
      → log_by start (slot_of a from) ≡ log_by start (slot_of b from)
  same_slot start from ge = same_slots start (slot_of a from) (slot_of b from)
      (λ k lt. same (from + k) (λ one. omega (arith, ge, one)))

  same_order : (start from : ℕ) → 4 ≤ from
      → is_disordered start (slot_of a from) ≡ is_disordered start (slot_of b from)
  same_order start from ge = same_disorder start (slot_of a from) (slot_of b from)
      (λ k lt. same (from + k) (λ one. omega (arith, ge, one)))

  same_logs : (start : ℕ) → 4 ≤ start
      → settled_logs (log_by start (slot_of a (4 * start)))
      (log_by start (slot_of a (4 * start + 64))) (page_at a)
      ≡ settled_logs (log_by start (slot_of b (4 * start)))
      (log_by start (slot_of b (4 * start + 64))) (page_at b)
  same_logs start ge =
      let first = log_by start (slot_of b (4 * start)) in
      let second = log_by start (slot_of b (4 * start + 64)) in
      ap (λ (l : Log). settled_logs l (log_by start (slot_of a (4 * start + 64))) (page_at a))
      (same_slot start (4 * start) (omega (arith, ge)))
      ∙ ap (λ (l : Log). settled_logs first l (page_at a))
      (same_slot start (4 * start + 64) (omega (arith, ge)))
      ∙ ap (λ (s : Settled). cond (ltb second.number first.number) s
      (settled_newer first second (page_at a))) (same_newer second first)
      ∙ ap (λ (s : Settled). cond (ltb second.number first.number)
      (settled_newer second first (page_at b)) s) (same_newer first second)

  same_log : (start : ℕ) → 4 ≤ start → settled_at a start ≡ settled_at b start
  same_log start ge =
      ap (λ (d : Bool). cond (d || is_disordered start (slot_of a (4 * start + 64))) nothing
      (settled_logs (log_by start (slot_of a (4 * start)))
      (log_by start (slot_of a (4 * start + 64))) (page_at a)))
      (same_order start (4 * start) (omega (arith, ge)))
      ∙ ap (λ (d : Bool). cond (is_disordered start (slot_of b (4 * start)) || d) nothing
      (settled_logs (log_by start (slot_of a (4 * start)))
      (log_by start (slot_of a (4 * start + 64))) (page_at a)))
      (same_order start (4 * start + 64) (omega (arith, ge)))
      ∙ ap (λ (s : Settled). cond (has_disordered b start) nothing s) (same_logs start ge)

  same_by : (capacity : ℕ) (h : Header) → IsInRange capacity h → settled_by h a ≡ settled_by h b
  same_by capacity Blank range = refl
  same_by capacity (Clear end) range =
      ap file_of (same_file (page_at a) (page_at b) end (λ n ge lt. same_at n ge))
  same_by capacity (Armed end start count) range =
      let images : redo_images a start count ≡ redo_images b start count =
      same_pages (page_at a) (page_at b) start count
      (λ n ge lt. same_at n (omega (arith, ge, range.0, range.1))) in
      ap (λ (r : Pages). cond (are_in_order 1 end r) (file_of
      (file_pages (overlaid r (page_at a)) end)) nothing) images
      ∙ ap (λ (s : Settled). cond (are_in_order 1 end (redo_images b start count)) s nothing)
      (ap file_of (same_file (overlaid (redo_images b start count) (page_at a))
      (overlaid (redo_images b start count) (page_at b)) end
      (λ n ge lt. overlaid-over (redo_images b start count) (page_at b) (page_at a) n
      (λ _. same_at n ge))))
  same_by capacity (Logging start) range = same_log start range.0
  same_by capacity NotOurs range = refl
  same_by capacity Damaged range = refl

  pub same_but_turn : (capacity : ℕ) → settled capacity a ≡ settled capacity b
  unfolding settled
  same_but_turn capacity =
      ap (λ (s : List ℕ). settled_by (header_of capacity s) a) (same 0 (λ one. omega (arith, one)))
      ∙ same_by capacity (header_of capacity (b 0)) (sector_in_range capacity (b 0))
