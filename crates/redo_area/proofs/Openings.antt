-- What a device opens with, and why it is refused, from what its commit sector says.
use Rattle.std.proofs.Common.{◌≡◌, ◌≢◌, ◌⊎◌, inl, inr, ⊎_elim, ◌+◌, ◌≤◌, ◌/◌, ℕ, List, [], Bool, true, false, cond, Some, sym, ◌∙◌, ap, arith}
use Rattle.sect_dev.specs.Device.{Image}
use Rattle.page_io.specs.Page.{page_at}
use Rattle.page_io.specs.Store.{Pages, Settled, nothing, file_of, pages_from, file_pages, overlaid, are_in_order}
use Rattle.page_io.specs.Counts.{length-pages_from}
use Rattle.commit_log.specs.Log.{settled_at}
use Rattle.redo_area.specs.Header.{header_of, has_magic}
use Rattle.redo_area.specs.declared.header.Header.{Header}
use Rattle.redo_area.specs.declared.header.Header.TheVariants.{Blank, Clear, Armed, Logging, NotOurs, Damaged}
use Rattle.redo_area.specs.File.{settled, redo_images}
use Rattle.redo_area.specs.Opening.{refusal_by, refusal_of, SaysUnsettled}
use Rattle.redo_area.specs.declared.open_fault.OpenFault.{OpenFault}
use Rattle.redo_area.specs.declared.open_fault.OpenFault.TheVariants.{Memory, Device, Blank as BlankFault, NotOurs as NotOursFault, Damaged as DamagedFault}
use Rattle.redo_area.proofs.Images.{settled-blank, settled-clear, settled-armed, settled-logging, settled-disordered, settled-not_ours, settled-damaged}

-- an end below the redo images
pub below_room : (end start count capacity : ℕ) → end ≤ start → start + count ≤ capacity
    → end ≤ capacity
below_room end start count capacity above room = omega (arith, above, room)

-- the sector as it was read, on a device whose capacity was found
module _ {sectors found : ℕ} (seen : Image) {content : List ℕ} (same : found ≡ sectors)
    (read : content ≡ seen 0) where
  pub as_read : (h : Header) → h ≡ header_of (found / 4) content
      → header_of (sectors / 4) (seen 0) ≡ h
  as_read h said = ap (header_of (sectors / 4)) (sym read)
      ∙ ap (λ (k : ℕ). header_of (k / 4) content) (sym same) ∙ sym said

  -- the header with its fields
  pub says_armed : (end start count : ℕ) → Armed end start count ≡ header_of (found / 4) content
      → SaysUnsettled (sectors / 4) seen
  says_armed end start count said = inl (record
      { end = end; start = start; count = count; header = as_read (Armed end start count) said })

  pub says_logging : (start : ℕ) → Logging start ≡ header_of (found / 4) content
      → SaysUnsettled (sectors / 4) seen
  says_logging start said = inr (record { start = start; header = as_read (Logging start) said })

  pub refused-blank : Blank ≡ header_of (found / 4) content
      → refusal_of (sectors / 4) seen ≡ Some BlankFault
  refused-blank said = ap (λ (s : Settled). refusal_by s (has_magic (seen 0)))
      (settled-blank (sectors / 4) seen (as_read Blank said))

  refused-nothing : (ours : Bool) → settled (sectors / 4) seen ≡ nothing → has_magic content ≡ ours
      → refusal_of (sectors / 4) seen ≡ cond ours (Some DamagedFault) (Some NotOursFault)
  refused-nothing ours none is =
      ap (λ (s : Settled). refusal_by s (has_magic (seen 0))) none
      ∙ ap (λ (b : Bool). cond b (Some DamagedFault) (Some NotOursFault))
      (ap has_magic (sym read) ∙ is)

  pub refused-not_ours : NotOurs ≡ header_of (found / 4) content → has_magic content ≡ false
      → refusal_of (sectors / 4) seen ≡ Some NotOursFault
  refused-not_ours said other =
      refused-nothing false (settled-not_ours (sectors / 4) seen (as_read NotOurs said)) other

  pub refused-damaged : Damaged ≡ header_of (found / 4) content → has_magic content ≡ true
      → refusal_of (sectors / 4) seen ≡ Some DamagedFault
  refused-damaged said ours = refused-nothing true
      (settled-damaged (sectors / 4) seen (as_read Damaged said)) ours

  pub refused-images : settled (sectors / 4) seen ≡ nothing → has_magic content ≡ true
      → refusal_of (sectors / 4) seen ≡ Some DamagedFault
  refused-images none ours = refused-nothing true none ours

  -- the file, with redo images in memory
  pub found-clear : (end : ℕ) (redo : Pages) → Clear end ≡ header_of (found / 4) content → redo ≡ []
      → settled (sectors / 4) seen ≡ file_of (file_pages (overlaid redo (page_at seen)) end)
  found-clear end redo said none =
      settled-clear (sectors / 4) seen end (as_read (Clear end) said)
      ∙ ap (λ (ps : Pages). file_of (file_pages (overlaid ps (page_at seen)) end)) (sym none)

  pub found-armed : (end start count : ℕ) (redo : Pages)
      → Armed end start count ≡ header_of (found / 4) content → redo ≡ redo_images seen start count
      → are_in_order 1 end (redo_images seen start count) ≡ true
      → settled (sectors / 4) seen ≡ file_of (file_pages (overlaid redo (page_at seen)) end)
  found-armed end start count redo said images order =
      let long = length-pages_from (page_at seen) start count in
      settled-armed (sectors / 4) seen end start (redo_images seen start count)
      (as_read (Armed end start count) said ∙ ap (Armed end start) (sym long))
      (ap (pages_from (page_at seen) start) long) order
      ∙ ap (λ (ps : Pages). file_of (file_pages (overlaid ps (page_at seen)) end)) (sym images)

  -- the fault of reading redo images
  pub refused-armed : (fault : OpenFault) (end start count : ℕ)
      → Armed end start count ≡ header_of (found / 4) content → has_magic content ≡ true
      → (fault ≡ Device) ⊎ ((fault ≡ Memory) ⊎ (fault ≡ DamagedFault))
      → (fault ≡ DamagedFault → are_in_order 1 end (redo_images seen start count) ≡ false)
      → fault ≢ Device → fault ≢ Memory → refusal_of (sectors / 4) seen ≡ Some fault
  refused-armed fault end start count said ours only damaged device memory =
      ⊎_elim (λ is. absurd (device is)) (λ rest. ⊎_elim (λ is. absurd (memory is))
      (λ is. refused-images (settled-disordered (sectors / 4) seen end start count
      (as_read (Armed end start count) said) (damaged is)) ours ∙ ap Some (sym is))
      rest) only

  pub found-logging : (end start : ℕ) (redo : Pages)
      → Logging start ≡ header_of (found / 4) content
      → settled_at seen start ≡ file_of (file_pages (overlaid redo (page_at seen)) end)
      → settled (sectors / 4) seen ≡ file_of (file_pages (overlaid redo (page_at seen)) end)
  found-logging end start redo said is =
      settled-logging (sectors / 4) seen start (as_read (Logging start) said) ∙ is

  -- the fault of reading a log
  pub refused-logging : (fault : OpenFault) (start : ℕ)
      → Logging start ≡ header_of (found / 4) content → has_magic content ≡ true
      → (fault ≡ Device) ⊎ ((fault ≡ Memory) ⊎ (fault ≡ DamagedFault))
      → (fault ≡ DamagedFault → settled_at seen start ≡ nothing)
      → fault ≢ Device → fault ≢ Memory → refusal_of (sectors / 4) seen ≡ Some fault
  refused-logging fault start said ours only damaged device memory =
      ⊎_elim (λ is. absurd (device is)) (λ rest. ⊎_elim (λ is. absurd (memory is))
      (λ is. refused-images (settled-logging (sectors / 4) seen start
      (as_read (Logging start) said) ∙ damaged is) ours ∙ ap Some (sym is))
      rest) only
