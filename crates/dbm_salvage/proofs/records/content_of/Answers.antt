use Rattle.std.proofs.Common.{arith}
use Rattle.dbm_salvage.proofs.RecordPairs.{short}
use Rattle.dbm_salvage.proofs.records.content_of.Goals as goal

pub unwrap-requires : goal.unwrap-requires
unwrap-requires g c =
    c.extend_from_slice.ensures.succeeds
    (omega (
      arith,
      c.clear.ensures.len,
      c.clear.ensures.capacity,
      c.requires.room,
      short c.args.page.now.bytes _ _ c.args.i c.requires.page c.requires.within
          c.pair_at.ensures,
    ))
