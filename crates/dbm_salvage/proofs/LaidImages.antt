-- Redo images that are laid over pages, one after another.
use Rattle.std.proofs.Common.{◌≡◌, ◌≢◌, ◌⊎◌, inl, inr, ℕ, ◌+◌, ◌*◌, ◌<◌, ◌≤◌, List, length, get_or, set, cond, Bool, true, false, eqb, refl, sym, ◌∙◌, ap, subst, ⊎_elim, arith}
use Rattle.std.proofs.lemmas.Bool.{ne_eqb, cases_eq, cases_lt}
use Rattle.std.proofs.lemmas.List.{get_or-set_same, get_or-set_other}
use Rattle.sect_dev.specs.Device.{Image}
use Rattle.page_model.specs.Reading.{own_number}
use Rattle.page_io.specs.Page.{page_at}
use Rattle.dbm_salvage.specs.Images.{place, AreOnDevice, IsImageFor, IsLaidAt, AreLaid}

-- a page with an image stands where that does
placed : (places : List ℕ) (n at : ℕ) → get_or places n 0 ≡ at → 1 ≤ at → place places n ≡ at
placed places n at is some =
    ap (λ (k : ℕ). cond (eqb k 0) n k) is
    ∙ ap (λ (b : Bool). cond b n at) (ne_eqb at 0 (λ none. omega (arith, none, some)))

-- the image of page n is noted
pub laid_at : (places : List ℕ) (n at : ℕ) → n < length places → 1 ≤ at
    → IsLaidAt places n at (set places n at)
laid_at places n at within some = record {
  here = placed (set places n at) n at (get_or-set_same places n at 0 within) some;
  others = λ m not. ap (λ (k : ℕ). cond (eqb k 0) m k) (get_or-set_other places n m at 0 not);
}

module _ (image : Image) (pages start : ℕ) where
  -- before the first
  pub none_laid : (F : Type 0) (places : List ℕ) → ((n : ℕ) → place places n ≡ n)
      → AreLaid image pages start 0 F places 0
  none_laid F places own = record {
    from = λ n. inl (own n);
    all = λ at n le lt is. absurd (omega (arith, le, lt));
    none_lost = λ none at le lt. absurd (omega (arith, le, lt));
    some_lost = λ some. absurd (omega (arith, some));
  }

  module _ (count : ℕ) (F G : Type 0) (more : F → G) (places : List ℕ) (lost : ℕ)
      (are : AreLaid image pages start count F places lost) where
    from_more : (n : ℕ) → (place places n ≡ n)
        ⊎ ((at : ℕ) × (start ≤ at) × (at < start + (count + 1)) × (place places n ≡ at)
        × IsImageFor image pages at n)
    from_more n = ⊎_elim (λ own. inl own)
        (λ it. inr (it.0, it.1, omega (arith, it.2), it.3, it.4)) (are.from n)

    all_others : (at m : ℕ) → start ≤ at → at < start + (count + 1) → (n : ℕ) (new : List ℕ)
        → IsImageFor image pages (start + count) n → IsLaidAt places n (start + count) new
        → m ≢ n → IsImageFor image pages at m → G ⊎ (place new m ≢ m)
    all_others at m le lt n new is laid not is_one = ⊎_elim
        (λ before. ⊎_elim (λ failed. inl (more failed))
        (λ moved. inr (λ own. moved (sym (laid.others m not) ∙ own))) (are.all at m le before is_one))
        (λ last. absurd (not (sym is_one.own
        ∙ ap (λ k. own_number (page_at image k)) (omega (arith, last, lt)) ∙ is.own)))
        (cases_lt at (start + count))

    -- one more reads as a page
    pub one_laid : (n : ℕ) (new : List ℕ) → pages ≤ start
        → IsImageFor image pages (start + count) n → IsLaidAt places n (start + count) new
        → AreLaid image pages start (count + 1) G new lost
    one_laid n new behind is laid = record {
      from = λ m. ⊎_elim
          (λ same. inr (
            start + count,
            omega arith,
            omega arith,
            subst (λ k. place new k ≡ start + count) (sym same) laid.here,
            subst (λ k. IsImageFor image pages (start + count) k) (sym same) is,
          ))
          (λ not. ⊎_elim (λ own. inl (laid.others m not ∙ own))
          (λ it. inr (it.0, it.1, it.2, laid.others m not ∙ it.3, it.4)) (from_more m))
          (cases_eq m n);
      all = λ at m le lt is_one. ⊎_elim
          (λ same. inr (λ own. omega (arith, own, same, ap (place new) same, laid.here, is.below, behind)))
          (λ not. all_others at m le lt n new is laid not is_one)
          (cases_eq m n);
      none_lost = λ none at le lt. ⊎_elim
          (λ before. are.none_lost none at le before)
          (λ last. (n, subst (λ k. IsImageFor image pages k n) (omega (arith, last, lt)) is))
          (cases_lt at (start + count));
      some_lost = λ some. ⊎_elim (λ failed. inl (more failed))
          (λ it. inr (it.0, it.1, omega (arith, it.2), it.3)) (are.some_lost some);
    }

    -- one more doesn't, and is lost
    pub none_more : G ⊎ ((n : ℕ) → IsImageFor image pages (start + count) n → ⊥)
        → AreLaid image pages start (count + 1) G places (lost + 1)
    none_more none = record {
      from = from_more;
      all = λ at m le lt is_one. ⊎_elim
          (λ before. ⊎_elim (λ failed. inl (more failed)) (λ moved. inr moved)
          (are.all at m le before is_one))
          (λ last. ⊎_elim (λ failed. inl failed)
          (λ nothing. absurd (nothing m (subst (λ k. IsImageFor image pages k m)
          (omega (arith, last, lt)) is_one))) none)
          (cases_lt at (start + count));
      none_lost = λ is. absurd (omega (arith, is));
      some_lost = λ some. ⊎_elim (λ failed. inl failed)
          (λ nothing. inr (start + count, omega arith, omega arith, nothing)) none;
    }

-- where the list has 0 or nothing, a page stands at its own number
pub own_place : (places : List ℕ) (n : ℕ) → get_or places n 0 ≡ 0 → place places n ≡ n
own_place places n none = ap (λ (k : ℕ). cond (eqb k 0) n k) none

-- an image on the device leaves each page there
pub still_on : (places : List ℕ) (pages sectors n at : ℕ) → AreOnDevice places pages sectors
    → n < length places → 1 ≤ at → 4 * at + 4 ≤ sectors
    → AreOnDevice (set places n at) pages sectors
still_on places pages sectors n at on within some fits m below =
    let laid = laid_at places n at within some in
    ⊎_elim (λ same. omega (arith, ap (place (set places n at)) same, laid.here, fits))
    (λ not. omega (arith, laid.others m not, on m below)) (cases_eq m n)
