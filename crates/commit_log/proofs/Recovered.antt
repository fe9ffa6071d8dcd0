-- What a stop leaves while a log is read and then ended.
use Rattle.std.proofs.Common.{◌≡◌, ℕ, ◌∙◌, ap}
use Rattle.sect_dev.specs.Device.{Image, IsImageOf, IsStable, LeavesOnly}
use Rattle.sect_dev.specs.Moments.{weaker, followed_by}
use Rattle.sect_dev.specs.Reads.{OnlyReads}
use Rattle.sect_dev.specs.declared.device.SectorDev.{Ghosts}
use Rattle.commit_log.specs.Log.{settled_at}

module _ {D : Type 0} (dev : Ghosts D) (first one : D) (start : ℕ)
    (stable : IsStable (dev.candidate first) (dev.seen first)) (read : OnlyReads dev first one) where
  abbrev pub Same : Image → Type 0
  Same image = (settled_at image start ≡ settled_at (dev.seen first) start)
      × (image 0 ≡ dev.seen first 0)

  same_of : (image : Image) → IsImageOf (dev.candidate first) image → Same image
  same_of image is =
      let same : image ≡ dev.seen first = λ i m. stable m (image m) (is m) i in
      (ap (λ (s : Image). settled_at s start) same, ap (λ (s : Image). s 0) same)

  pub one_read : LeavesOnly dev.moment dev.left_since first one Same
  one_read = weaker dev.moment dev.left_since first one Same (IsImageOf (dev.candidate first))
      read.any_moment same_of

  module _ (two : D) (read_too : OnlyReads dev one two) where
    pub two_read : LeavesOnly dev.moment dev.left_since first two Same
    two_read = followed_by dev.moment dev.left_since first one two Same
        (IsImageOf (dev.candidate one)) one_read read_too.any_moment
        (λ image is. same_of image (λ m. read.no_new m (image m) (is m)))

    pub then_ended : (after : D) → LeavesOnly dev.moment dev.left_since two after
        (λ image. (settled_at image start ≡ settled_at (dev.seen two) start)
        × (image 0 ≡ dev.seen two 0))
        → LeavesOnly dev.moment dev.left_since first after Same
    then_ended after ended =
        let same : dev.seen two ≡ dev.seen first = read_too.seen ∙ read.seen in
        followed_by dev.moment dev.left_since first two after Same _ two_read ended
        (λ image is. (
          is.0 ∙ ap (λ (s : Image). settled_at s start) same,
          is.1 ∙ ap (λ (s : Image). s 0) same,
        ))
