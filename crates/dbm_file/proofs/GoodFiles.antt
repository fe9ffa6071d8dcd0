-- A good file by what its pages say, and by the map that they stand for.
use Rattle.std.proofs.Common.{◌≡◌, ℕ, ◌+◌, [], length, Result, Err, IsErrAnd, refl, sym, ap, ◌∙◌, subst}
use Rattle.std.proofs.lemmas.Result.{err_from_is_err_and}
use Rattle.std.specs.FinMap.{len}
use Rattle.dbm_model.specs.Bounds.{Bounds}
use Rattle.dbm_model.specs.Pairs.{Contents, contents_of}
use Rattle.page_model.specs.Placement.{pairs_of, contents}
use Rattle.page_model.specs.Meaning.{said_by, flat_pairs}
use Rattle.page_model.specs.Pages.{Body, Meta}
use Rattle.page_model.proofs.Flat.{flat_is_contents}
use Rattle.page_model.proofs.Meaning.{one_meaning}
use Rattle.page_model.proofs.Stores.{counts_keys}
use Rattle.page_io.specs.Store.{Pages, Settled, file_of, page_of}
use Rattle.page_io.specs.Meaning.{FileStandsFor, ImageStandsFor}
use Rattle.page_io.specs.Views.{body_at, ReadsOnly}
use Rattle.page_io.specs.declared.store.PageStore.{Ghosts}
use Rattle.page_io.specs.declared.store.PageFault.{PageFault}
use Rattle.page_io.specs.declared.store.PageFault.TheVariants as page
use Rattle.page_io.specs.Committing.{Holds}
use Rattle.linear_hash.proofs.Tables.{committed_said}
use Rattle.dbm_fault.specs.Faults.{fault_from}
use Rattle.dbm_fault.specs.declared.fault.Fault.{Fault}
use Rattle.dbm_fault.specs.declared.fault.Fault.TheVariants.{Damaged}
use Rattle.file_check.specs.Good.{IsGoodFile}
use Rattle.dbm_file.specs.Database.{store_of}
use Rattle.dbm_file.specs.Verifying.{IsFileOf, StandsWith}
use Rattle.dbm_file.specs.declared.database.Database.{Database}

-- the map of a file is that of its placement
pub contents_are : (pages : Pages) (map : Contents) (bounds : Bounds)
    (stands : FileStandsFor pages map bounds) → contents stands.placement ≡ map
contents_are pages map bounds stands =
    let at = said_by (page_of pages) in
    sym (flat_is_contents stands.placement at stands.good stands.spelled)
    ∙ ap (λ (end : ℕ). contents_of (flat_pairs at end)) stands.ends ∙ stands.holds

-- it has as many keys as the placement has pairs
many_of : (pages : Pages) (map : Contents) (bounds : Bounds) (stands : FileStandsFor pages map bounds)
    → len map ≡ length (pairs_of stands.placement)
many_of pages map bounds stands =
    ap (λ (m : Contents). len m) (sym (contents_are pages map bounds stands))
    ∙ counts_keys stands.placement stands.good.sound

module _ (pages : Pages) (pairs : ℕ) where
  pub file_of_good : IsGoodFile (said_by (page_of pages)) (length pages + 1) pairs
      → IsFileOf pages pairs
  file_of_good file =
      let at = said_by (page_of pages) in
      let stands : FileStandsFor pages (contents_of (flat_pairs at (length pages + 1)))
      file.placement.bounds = record {
        placement = file.placement;
        good = file.good;
        spelled = file.spelled;
        ends = file.ends;
        bounded = refl;
        holds = refl;
      } in
      record {
        map = contents_of (flat_pairs at (length pages + 1));
        bounds = file.placement.bounds;
        stands = stands;
        many = many_of pages _ _ stands ∙ file.counted;
      }

  pub good_of_file : IsFileOf pages pairs
      → IsGoodFile (said_by (page_of pages)) (length pages + 1) pairs
  good_of_file file = record {
    placement = file.stands.placement;
    good = file.stands.good;
    spelled = file.stands.spelled;
    ends = file.stands.ends;
    counted = sym (many_of pages file.map file.bounds file.stands) ∙ file.many;
  }

  -- its pairs are those of the map that it stands for
  pub pairs_of_map : (map : Contents) (bounds : Bounds) → FileStandsFor pages map bounds
      → IsFileOf pages pairs → pairs ≡ len map
  pairs_of_map map bounds stands file =
      sym file.many ∙ ap (λ (m : Contents). len m)
      (one_meaning (said_by (page_of pages)) (length pages + 1) file.map map file.bounds bounds
      file.stands stands).0

-- of a store with nothing staged; `ends` is its law
module _ {S : Type 0} (s : Ghosts S) (store : S) (idle : (s.state store).staged ≡ [])
    (ends : length (s.committed store) + 1 ≡ (s.state store).end) (pairs : ℕ) where
  pub file_read : IsGoodFile (body_at s store) (s.state store).end pairs
      → IsFileOf (s.committed store) pairs
  file_read file = file_of_good (s.committed store) pairs
      (subst (λ (at : ℕ → Body). IsGoodFile at (length (s.committed store) + 1) pairs)
      (committed_said s store idle)
      (subst (λ (end : ℕ). IsGoodFile (body_at s store) end pairs) (sym ends) file))

  pub read_as_file : IsFileOf (s.committed store) pairs
      → IsGoodFile (body_at s store) (s.state store).end pairs
  read_as_file file =
      subst (λ (end : ℕ). IsGoodFile (body_at s store) end pairs) ends
      (subst (λ (at : ℕ → Body). IsGoodFile at (length (s.committed store) + 1) pairs)
      (sym (committed_said s store idle)) (good_of_file (s.committed store) pairs file))

-- where a database holds a map, its file is one of the map's pairs
pub held_file : {S : Type 0} (s : Ghosts S) (store : S) (m : Meta) (map : Contents)
    → Holds s store m map → IsFileOf (s.committed store) (len map)
held_file s store m map held = record {
  map = map;
  bounds = m.bounds;
  stands = held.stands;
  many = refl;
}

-- a store's fault is told as damage where it is
pub damage_told : {T : Type 0} (e : PageFault) (result : Result T Fault)
    → IsErrAnd result (λ fault. fault ≡ fault_from e) → result ≡ Err Damaged → e ≡ page.Damaged
damage_told e result told is =
    let p = err_from_is_err_and result told in
    by_fault e (let same = rw (p.1, p.2) at is in cc)
  where
    by_fault : (e : PageFault) → fault_from e ≡ Damaged → e ≡ page.Damaged
    by_fault page.Memory is = absurd (let same = is in cc)
    by_fault page.Device is = absurd (let same = is in cc)
    by_fault page.Broken is = absurd (let same = is in cc)
    by_fault page.ReadOnly is = absurd (let same = is in cc)
    by_fault page.NoRoom is = absurd (let same = is in cc)
    by_fault page.Damaged is = refl

-- what a store may be left with that was read through stands for its map; `only` is its law
pub stands_with : {S : Type 0} (s : Ghosts S) (old new : Database S s) (pairs : ℕ)
    → ReadsOnly s (store_of old) (store_of new) → s.honest (store_of old)
    → IsFileOf (s.committed (store_of old)) pairs
    → ((y : Settled) → s.settles_to (store_of new) y → y ≡ file_of (s.committed (store_of new)))
    → StandsWith new pairs
stands_with s old new pairs reads honest file only = record {
  map = file.map;
  bounds = file.bounds;
  many = file.many;
  stands = λ y left. subst (λ (z : Settled). ImageStandsFor z file.map file.bounds)
      (sym (only y left ∙ ap file_of (reads.stages_only.kept honest).committed)) file.stands;
}
