-- A device to which nothing happened.
use Rattle.std.proofs.Common.{◌≡◌, ℕ, List, ◌∷◌, length, inl, sym, ap, subst, arith}
use Rattle.sect_dev.specs.Device.{Image}
use Rattle.sect_dev.specs.History.{IsCandidate, LeftSince, content_after, content_is_candidate, only_now}
use Rattle.sect_dev.specs.Reads.{OnlyReads}
use Rattle.sect_dev.specs.declared.past.Event.{Event}
use Rattle.sect_dev.specs.declared.past.Event.TheVariants.{Synced}
use Rattle.listed_dev.specs.Listed.{history}
use Rattle.listed_dev.specs.contracts.listed_dev.ListedDevSectorDev.TheImpl.{ghosts}
use Rattle.listed_dev.specs.declared.listed_dev.ListedDev.{ListedDev}

-- it shows what it showed
pub shows_the_same : (old new : ListedDev) → history new ≡ history old → OnlyReads ghosts old new
shows_the_same old new same = record {
  seen = ap content_after same;
  no_new = λ m c. subst (λ (es : List Event). IsCandidate es m c) same;
  no_lost = λ m c. subst (λ (es : List Event). IsCandidate es m c) (sym same);
  still = ap length same;
  any_moment = record {
    later = omega (arith, ap length same);
    until = omega (arith);
    each = λ (image : Image) left. only_now (history old) image
        (subst (λ (es : List Event). LeftSince es (length (history old)) image) same left);
    before = λ t (image : Image) le left.
        inl (subst (λ (es : List Event). LeftSince es t image) same left);
  };
}

-- a sync adds no candidate
pub synced_so : (old new : ListedDev) → history new ≡ Synced ∷ history old → (m : ℕ) (c : List ℕ)
    → IsCandidate (history new) m c → IsCandidate (history old) m c
synced_so old new synced m c is =
    let was : c ≡ content_after (history old) m =
    subst (λ (es : List Event). IsCandidate es m c) synced is in
    subst (IsCandidate (history old) m) (sym was) (content_is_candidate (history old) m)
