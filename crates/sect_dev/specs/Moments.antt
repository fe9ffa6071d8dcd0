-- How runs of device calls go on: laws of the words of `Device`, for the layers above.
use Rattle.std.specs.Prelude.{◌≡◌, ◌≢◌, ◌⊎◌, ℕ, List}
use mathlib.Core.Logic.{inl, inr}
use Rattle.std.proofs.Common.{⊎_elim, sym, ◌∙◌, ap, subst, arith, rules}
use Rattle.std.proofs.lemmas.Bool.{cases_eq}
use Rattle.std.proofs.lemmas.Bool.Decides.{nat_tests}
use Rattle.sect_dev.specs.Device.{Image, Candidates, IsImageOf, IsStable, NoNewCandidate, with_sector, with_candidate, Moment, Elapses, LeavesOnly, sector_count, IsOutsideRun, IsPart, IsRunPartlyWritten}

-- with fewer candidates there are no other images
pub fewer_images : (old new : Candidates) (image : Image) → NoNewCandidate old new
    → IsImageOf new image → IsImageOf old image
fewer_images old new image fewer is n = fewer n (image n) (is n)

-- before the first call
pub started : {D X : Type 0} (moment : D → Moment) (left_since : D → ℕ → X → Type 0) (old : D)
    (P : X → Type 0)
    → ((x : X) → left_since old (moment old).at x → P x) → LeavesOnly moment left_since old old P
started moment left_since old P here =
    record {
      later = omega arith;
      until = omega arith;
      each = here;
      before = λ t image le left. inl left;
    }

-- one call
pub by_call : {D X : Type 0} (moment : D → Moment) (left_since : D → ℕ → X → Type 0) (old new : D)
    (P may_leave : X → Type 0)
    → ((x : X) → left_since old (moment old).at x → P x)
    → Elapses (moment old) (moment new) (left_since old) (left_since new) may_leave
    → ((x : X) → may_leave x → P x) → LeavesOnly moment left_since old new P
by_call moment left_since old new P may_leave here time now = record {
  later = time.later;
  until = time.until;
  each = λ image left. ⊎_elim (here image) (now image)
      (time.nothing_else (moment old).at image (omega arith) left);
  before = λ t image le left. ⊎_elim (λ past. inl past) (λ is. inr (now image is))
      (time.nothing_else t image le left);
}

-- one run after another
pub followed_by : {D X : Type 0} (moment : D → Moment) (left_since : D → ℕ → X → Type 0)
    (old mid new : D) (P Q : X → Type 0)
    → LeavesOnly moment left_since old mid P → LeavesOnly moment left_since mid new Q
    → ((x : X) → Q x → P x)
    → LeavesOnly moment left_since old new P
followed_by moment left_since old mid new P Q first second weaker = record {
  later = omega (arith, first.later, second.later);
  until = omega (arith, first.until, second.until);
  each = λ image left. ⊎_elim (first.each image) (weaker image)
      (second.before (moment old).at image first.later left);
  before = λ t image le left. ⊎_elim (λ past. first.before t image le past)
      (λ q. inr (weaker image q)) (second.before t image (omega (arith, le, first.later)) left);
}

pub weaker : {D X : Type 0} (moment : D → Moment) (left_since : D → ℕ → X → Type 0) (old new : D)
    (P Q : X → Type 0)
    → LeavesOnly moment left_since old new Q → ((x : X) → Q x → P x)
    → LeavesOnly moment left_since old new P
weaker moment left_since old new P Q run implies = record {
  later = run.later;
  until = run.until;
  each = λ image left. implies image (run.each image left);
  before = λ t image le left. ⊎_elim (λ past. inl past) (λ q. inr (implies image q))
      (run.before t image le left);
}

-- one call more
pub goes_on : {D X : Type 0} (moment : D → Moment) (left_since : D → ℕ → X → Type 0)
    (old mid new : D) (P may_leave : X → Type 0)
    → LeavesOnly moment left_since old mid P
    → Elapses (moment mid) (moment new) (left_since mid) (left_since new) may_leave
    → ((x : X) → may_leave x → P x) → LeavesOnly moment left_since old new P
goes_on moment left_since old mid new P may_leave run time now = record {
  later = omega (arith, run.later, time.later);
  until = omega (arith, run.until, time.until);
  each = λ image left. ⊎_elim (run.each image) (now image)
      (time.nothing_else (moment old).at image run.later left);
  before = λ t image le left. ⊎_elim (run.before t image le) (λ is. inr (now image is))
      (time.nothing_else t image (omega (arith, le, run.later)) left);
}

-- where all is stable, a write of sector n leaves the other sectors in every image
pub same_elsewhere : (candidate : Candidates) (seen : Image) (n : ℕ) (content : List ℕ)
    (image : Image)
    → IsStable candidate seen → IsImageOf (with_candidate candidate n content) image → (m : ℕ)
    → m ≢ n → image m ≡ seen m
same_elsewhere candidate seen n content image stable is m other =
    ⊎_elim (λ old. stable m (image m) old) (λ new. absurd (other new.0)) (is m)

-- where all is stable, there is one image
pub only_image : (candidate : Candidates) (seen image : Image) → IsStable candidate seen
    → IsImageOf candidate image → image ≡ seen
only_image candidate seen image stable is = λ i m. stable m (image m) (is m) i

pub at_same : (image : Image) (n : ℕ) (content : List ℕ) (m : ℕ) → m ≡ n
    → with_sector image n content m ≡ content
at_same image n content m same = search (rules, nat_tests)

pub at_other : (image : Image) (n : ℕ) (content : List ℕ) (m : ℕ) → m ≢ n
    → with_sector image n content m ≡ image m
at_other image n content m other = search (rules, nat_tests)

-- where all is stable, a write of sector n leaves two images
pub two_images : (candidate : Candidates) (seen : Image) (n : ℕ) (content : List ℕ) (image : Image)
    → IsStable candidate seen
    → IsImageOf (with_candidate candidate n content) image
    → (image ≡ seen) ⊎ (image ≡ with_sector seen n content)
two_images candidate seen n content image stable is =
    ⊎_elim (λ old. inl (λ i m. unchanged (stable n (image n) old) m i))
    (λ new. inr (λ i m. changed new.1 m i)) (is n)
  where
    others : (m : ℕ) → m ≢ n → image m ≡ seen m
    others = same_elsewhere candidate seen n content image stable is

    unchanged : image n ≡ seen n → (m : ℕ) → image m ≡ seen m
    unchanged here m = elim (cases_eq m n) [
      | inl same ↦ ap image same ∙ here ∙ ap seen (sym same)
      | inr other ↦ others m other
    ]

    changed : image n ≡ content → (m : ℕ) → image m ≡ with_sector seen n content m
    changed here m = elim (cases_eq m n) [
      | inl same ↦ ap image same ∙ here ∙ sym (at_same seen n content m same)
      | inr other ↦ others m other ∙ sym (at_other seen n content m other)
    ]

-- a sector outside a run has no part of it
pub no_part : (n : ℕ) (bytes : List ℕ) (m : ℕ) (content : List ℕ)
    → IsOutsideRun n (sector_count bytes) m → IsPart n bytes m content → ⊥
no_part n bytes m content (inl below) part = omega (arith, below, part.place)
no_part n bytes m content (inr above) part = omega (arith, above, part.within, part.place)

-- where a run is written in part, the other sectors stay
pub outside_run : (n : ℕ) (bytes : List ℕ) (old new : Image) → IsRunPartlyWritten old n bytes new
    → (m : ℕ) → IsOutsideRun n (sector_count bytes) m → new m ≡ old m
outside_run n bytes old new partly m out =
    ⊎_elim (λ same. same) (λ part. absurd (no_part n bytes m (new m) out part)) (partly m)

-- What a stop leaves at one layer, read by the layer above: `below` is the state of the layer
-- below.
pub record IsOutcome {D X Y : Type 0} (left_since : D → ℕ → X → Type 0) (read : X → Y) (d : D)
    (t : ℕ) (y : Y) : Type 0 where
  pub left : X
  pub is_left : left_since d t left
  pub reads : read left ≡ y

pub lifted : {S D X Y : Type 0} (moment : D → Moment) (left_since : D → ℕ → X → Type 0)
    (below : S → D) (read : S → X → Y) (old new : S) (P : Y → Type 0)
    → read new ≡ read old → LeavesOnly moment left_since (below old) (below new)
    (λ x. P (read old x))
    → LeavesOnly (λ s. moment (below s)) (λ s. IsOutcome left_since (read s) (below s)) old new P
lifted {S} {D} {X} {Y} moment left_since below read old new P same run = record {
  later = run.later;
  until = run.until;
  each = λ y r. subst P (ap (λ (f : X → Y). f r.left) (sym same) ∙ r.reads)
      (run.each r.left r.is_left);
  before = λ t y le r.
      let reads = ap (λ (f : X → Y). f r.left) (sym same) ∙ r.reads in
      ⊎_elim (λ past. inl (record { left = r.left; is_left = past; reads = reads }))
      (λ p. inr (subst P reads p)) (run.before t r.left le r.is_left);
}
