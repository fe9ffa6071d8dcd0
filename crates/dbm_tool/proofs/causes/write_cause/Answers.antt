use Rattle.dbm_tool.proofs.Wording.{whole_line}
use Rattle.dbm_tool.proofs.causes.write_cause.Goals as goal

pub returns : goal.returns
returns g c =
    whole_line c.write_all-2.result _ _ _ _ _ _ _ _ c.args.failure c.in_ok-write_all.ensures.bytes
    c.in_ok-write_file.ensures c.in_ok-write_line.ensures c.in_ok-write_words.ensures
    c.write_all-2.ensures.bytes
