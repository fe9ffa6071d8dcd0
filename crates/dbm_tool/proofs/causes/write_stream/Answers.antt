use Rattle.std.proofs.Common.{rules}
use Rattle.std.specs.Io.KnownBytes.{Appends}
use Rattle.dbm_tool.proofs.Wording.{stream_words}
use Rattle.dbm_tool.proofs.causes.write_stream.Goals as goal

pub returns-in-Some : goal.returns-in-Some
returns-in-Some g c =
    let first : Appends (g.F.Write.contents c.args.faults.now)
    (g.F.Write.contents c.write_all.new.self) c.args.words.now = search rules in
    stream_words c.write.result _ _ _ _ _ first c.write.ensures.bytes
