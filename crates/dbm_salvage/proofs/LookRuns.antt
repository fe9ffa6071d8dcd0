-- Calls that only look at a device, one after another.
use Rattle.std.proofs.Common.{◌≡◌, Bool, true, false, Result, Ok, Err, is_err, OnOk, OnErr, refl, sym, ◌∙◌, arith}
use Rattle.sect_dev.specs.Device.{Image, IsImageOf}
use Rattle.sect_dev.specs.Moments.{fewer_images, started, followed_by}
use Rattle.sect_dev.specs.Reads.{OnlyReads}
use Rattle.sect_dev.specs.declared.device.SectorDev.{Ghosts}
use Rattle.page_io.proofs.Exits.{both_ways}
use Rattle.dbm_salvage.specs.Reads.{Looks}

from_ok : {T E P : Type 0} (r : Result T E) → is_err r ≡ false → OnOk r P → P
from_ok (Ok x) ok p = p
from_ok (Err e) ok p = cc

-- where a test for `Err` answered no
pub from_test : {T E P : Type 0} (r : Result T E) {b : Bool} → b ≡ is_err r
    → b ≡ false → OnOk r P → P
from_test r is fails p = from_ok r (sym is ∙ fails) p

from_err : {T E P : Type 0} (r : Result T E) → is_err r ≡ true → OnErr r P → P
from_err (Ok x) err p = cc
from_err (Err e) err p = p

-- where it answered yes
pub fault_from_test : {T E P : Type 0} (r : Result T E) {b : Bool} → b ≡ is_err r → b ≡ true
    → OnErr r P → P
fault_from_test r is holds p = from_err r (sym is ∙ holds) p

module _ {D : Type 0} (dev : Ghosts D) where
  -- before the first
  none_yet : (old : D) → ((image : Image) → dev.left_since old (dev.moment old).at image
      → IsImageOf (dev.candidate old) image) → OnlyReads dev old old
  none_yet old only_now = record {
    seen = refl;
    no_new = λ m c may. may;
    no_lost = λ m c may. may;
    still = refl;
    any_moment = started dev.moment dev.left_since old (IsImageOf (dev.candidate old)) only_now;
  }

  pub looks_none : (old : D) → ((image : Image) → dev.honest old
      → dev.left_since old (dev.moment old).at image → IsImageOf (dev.candidate old) image)
      → Looks dev old old
  looks_none old only_now = record {
    only_reads = λ h. none_yet old (λ image left. only_now image h left);
    still = refl;
    honesty = (λ h. h, λ h. h);
    later = omega arith;
    size = refl;
  }

  -- one call after another
  more_reads : (old mid new : D) → OnlyReads dev old mid → OnlyReads dev mid new
      → OnlyReads dev old new
  more_reads old mid new first second = record {
    seen = second.seen ∙ first.seen;
    no_new = λ m c may. first.no_new m c (second.no_new m c may);
    no_lost = λ m c may. second.no_lost m c (first.no_lost m c may);
    still = second.still ∙ first.still;
    any_moment = followed_by dev.moment dev.left_since old mid new (IsImageOf (dev.candidate old))
        (IsImageOf (dev.candidate mid)) first.any_moment second.any_moment
        (λ image is. fewer_images (dev.candidate old) (dev.candidate mid) image first.no_new is);
  }

  pub looks_then : (old mid new : D) → Looks dev old mid → Looks dev mid new → Looks dev old new
  looks_then old mid new first second = record {
    only_reads = λ h. more_reads old mid new (first.only_reads h)
        (second.only_reads (first.honesty.1 h));
    still = second.still ∙ first.still;
    honesty = both_ways second.honesty first.honesty;
    later = omega (arith, first.later, second.later);
    size = second.size ∙ first.size;
  }
