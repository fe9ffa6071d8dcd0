-- A database whose store was settled.
use Rattle.std.proofs.Common.{◌≡◌, ◌⊎◌, inl, inr, ◌≤◌, ℕ, true, false, Result, Ok, Err, OnOk, IfErr, IsErrOf, refl, sym, ◌∙◌, ap, subst}
use Rattle.sect_dev.specs.Device.{LeavesOnly}
use Rattle.sect_dev.specs.Moments.{weaker}
use Rattle.dbm_model.specs.Pairs.{Contents}
use Rattle.dbm_model.specs.States.{Handle}
use Rattle.page_model.specs.Pages.{Meta}
use Rattle.page_io.specs.Store.{Settled, StoreState}
use Rattle.page_io.specs.Meaning.{ImageStandsFor}
use Rattle.page_io.specs.declared.store.PageStore.{Ghosts}
use Rattle.page_io.specs.declared.store.PageFault.{PageFault}
use Rattle.page_io.specs.declared.store.PageFault.TheVariants as page
use Rattle.dbm_file.specs.Answers.{StandsForSome}
use Rattle.dbm_file.specs.Held.{Held, held_by}
use Rattle.dbm_file.specs.Database.{store_of, meta_kept, page_state, HoldsMap, StandsAfterStop, IsAt}
use Rattle.dbm_file.specs.Syncing.{StandsStill}
use Rattle.dbm_file.specs.declared.database.Database.{Database}
use Rattle.dbm_file.proofs.Breaks.{rests_shown}
use Rattle.dbm_file.proofs.ReadSteps.{at_own, holds_as}

-- whatever is answered, a store that is usable afterwards was settled
usable_after : (before now : StoreState) (result : Result Unit PageFault) → OnOk result (now ≡ before)
    → (IsErrOf result page.Device → now ≡ record before { usable = false })
    → (IsErrOf result page.Broken → now.usable ≡ false)
    → IfErr result (λ e. (e ≡ page.Broken) ⊎ (e ≡ page.Device))
    → now.usable ≡ true → (result ≡ Ok tt) × (before.usable ≡ true)
usable_after before now (Ok tt) ok breaks broken only usable =
    (refl, ap (λ (st : StoreState). st.usable) (sym ok) ∙ usable)
usable_after before now (Err e) ok breaks broken only usable = elim only [
  | inl is ↦ absurd (let no = sym (broken (ap Err is)) ∙ usable in cc)
  | inr is ↦ absurd (let no = sym (ap (λ (st : StoreState). st.usable) (breaks (ap Err is))) ∙ usable in cc)
]

module _ {S : Type 0} (s : Ghosts S) (old new : Database S s) (result : Result Unit PageFault)
    (meta : meta_kept new ≡ meta_kept old)
    (honest : s.honest (store_of old))
    (run : LeavesOnly s.moment s.settled_since (store_of old) (store_of new)
    (s.settles_to (store_of old)))
    (committed : OnOk result (s.committed (store_of new) ≡ s.committed (store_of old)))
    (ok : OnOk result (page_state new ≡ page_state old))
    (breaks : IsErrOf result page.Device → page_state new ≡ record (page_state old) { usable = false })
    (broken : IsErrOf result page.Broken → (page_state new).usable ≡ false)
    (only : IfErr result (λ e. (e ≡ page.Broken) ⊎ (e ≡ page.Device)))
    (counts : (t : ℕ) (y : Settled) → t ≤ (s.moment (store_of new)).at
    → s.settles_to (store_of new) y → s.settled_since (store_of new) t y) where
  settled_so : (page_state new).usable ≡ true → (result ≡ Ok tt) × ((page_state old).usable ≡ true)
  settled_so = usable_after (page_state old) (page_state new) result ok breaks broken only

  still_holds : (map : Contents) → HoldsMap old map → HoldsMap new map
  still_holds map held usable =
      let was = settled_so usable in
      holds_as s (store_of old) (store_of new) (meta_kept old) (meta_kept new) map
      (subst (λ r. OnOk r (s.committed (store_of new) ≡ s.committed (store_of old))) was.0 committed)
      meta (held was.1)

  still_rests : (map : Contents) → StandsAfterStop old map → StandsAfterStop new map
  still_rests map rests usable y left =
      subst (λ (m : Meta). ImageStandsFor y map m.bounds) (sym meta)
      (rests (settled_so usable).1 y
      (run.each y (counts (s.moment (store_of old)).at y run.later left)))

  pub still_stands : (h : Handle) → IsAt old h → StandsStill old new h
  still_stands h at =
      let map = h.state.map in
      record {
        is_at = at_own new map (still_holds map at.map) (still_rests map at.rests);
        survives = λ usable. weaker s.moment s.settled_since (store_of old) (store_of new)
            (StandsForSome (λ (left : Held). left ≡ held_by h.state)) (s.settles_to (store_of old))
            run (λ x is. (held_by h.state, refl, rests_shown old h at usable x is));
      }
