use Rattle.std.proofs.Common.{refl}
use Rattle.sect_dev.specs.Sector.{zeros}
use Rattle.redo_area.specs.Header.{magic, digit, fields, spelled, header_of}
use Rattle.redo_area.proofs.laws.sectors_are_read_exactly.Goals as goal

pub returns-clause-good : goal.returns-clause-good
unfolding zeros magic digit fields spelled header_of
returns-clause-good c = record { blank = refl; clear = refl; clear_log = refl; armed = refl; logging = refl; bytes = refl }

pub returns-clause-wrong : goal.returns-clause-wrong
unfolding zeros magic digit fields spelled header_of
returns-clause-wrong c = record {
  magic = refl;
  state = refl;
  no_log = refl;
  low_end = refl;
  high_end = refl;
  clear_start = refl;
  clear_count = refl;
  no_image = refl;
  low_start = refl;
  high_count = refl;
  log_behind = refl;
  low_log = refl;
  log_count = refl;
  byte_24 = refl;
  byte_511 = refl;
}
