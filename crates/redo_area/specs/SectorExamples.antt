-- Commit sectors that are worked out by hand.
use Rattle.std.specs.Prelude.{◌≡◌, [], ◌∷◌, ◌++◌, drop, replicate}
use Rattle.redo_area.specs.Header.{fields, spelled, header_of}
use Rattle.redo_area.specs.declared.header.CommitKind.TheVariants.{Images, Log}
use Rattle.redo_area.specs.declared.header.Header.TheVariants.{Blank, Clear, Armed, Logging, NotOurs, Damaged}

-- good ones: a blank one, a clear one, and an armed one over two images, which just fit a device of
-- eight pages
pub record GoodSectors : Type 0 where
  pub blank : header_of 100 (replicate 512 0) ≡ Blank
  pub clear : header_of 100 (spelled Images 0 4 0 0) ≡ Clear 4
  pub clear_log : header_of 100 (spelled Log 0 4 0 0) ≡ Clear 4
  pub armed : header_of 8 (spelled Images 1 5 6 2) ≡ Armed 5 6 2
  pub logging : header_of 38 (spelled Log 2 5 6 0) ≡ Logging 6
  pub bytes : spelled Images 1 5 6 2 ≡ (0x44 ∷ 0x42 ∷ 0x4d ∷ 0x52 ∷ 0x45 ∷ 0x44 ∷ 0x4f ∷ 0x31
      ∷ 0 ∷ 0 ∷ 0 ∷ 1 ∷ 0 ∷ 0 ∷ 0 ∷ 5 ∷ 0 ∷ 0 ∷ 0 ∷ 6 ∷ 0 ∷ 0 ∷ 0 ∷ 2 ∷ []) ++ replicate 488 0

-- wrong ones: another magic word, another state, a log in a file that has none, an end below 4 or
-- behind the device, a clear one with a start or a count, an armed one with no image, with images
-- in front of the end, or behind the device, and a byte behind the fields that isn't 0
pub record WrongSectors : Type 0 where
  pub magic : header_of 100 (0x45 ∷ drop 1 (spelled Images 0 4 0 0)) ≡ NotOurs
  pub state : header_of 100 (spelled Images 3 4 0 0) ≡ Damaged
  pub no_log : header_of 100 (spelled Images 2 5 6 0) ≡ Damaged
  pub low_end : header_of 100 (spelled Images 0 3 0 0) ≡ Damaged
  pub high_end : header_of 100 (spelled Images 0 101 0 0) ≡ Damaged
  pub clear_start : header_of 100 (spelled Images 0 4 9 0) ≡ Damaged
  pub clear_count : header_of 100 (spelled Images 0 4 0 1) ≡ Damaged
  pub no_image : header_of 100 (spelled Images 1 5 6 0) ≡ Damaged
  pub low_start : header_of 100 (spelled Images 1 5 4 2) ≡ Damaged
  pub high_count : header_of 7 (spelled Images 1 5 6 2) ≡ Damaged
  pub log_behind : header_of 37 (spelled Log 2 5 6 0) ≡ Damaged
  pub low_log : header_of 100 (spelled Log 2 7 6 0) ≡ Damaged
  pub log_count : header_of 100 (spelled Log 2 5 6 1) ≡ Damaged
  pub byte_24 : header_of 100 (fields Images 0 4 0 0 ++ 1 ∷ replicate 487 0) ≡ Damaged
  pub byte_511 : header_of 100 (fields Images 0 4 0 0 ++ replicate 487 0 ++ 1 ∷ []) ≡ Damaged
