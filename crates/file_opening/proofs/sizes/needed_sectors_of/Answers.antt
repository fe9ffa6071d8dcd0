use Rattle.std.proofs.Common.{arith}
use Rattle.page_io.specs.Versions.{model_version}
use Rattle.file_opening.proofs.Rooms.{sectors_are}
use Rattle.file_opening.proofs.sizes.needed_sectors_of.Goals as goal

pub returns : goal.returns
returns c = sectors_are (model_version c.args.version) c.args.limit _ _ _ (omega arith)
    c.if-limit-gt1000000.false c.div_ceil-buckets.ensures c.div_ceil-segments.ensures
    c.pages_for.ensures
