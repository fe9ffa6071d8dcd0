use Rattle.dbm_tool.proofs.KeptPages.{opened_so}
use Rattle.dbm_tool.proofs.host.open_once.Goals as goal

pub returns : goal.returns
returns g c =
    let all = c.open_named.ensures in
    opened_so _ c.args.how c.args.kept_pages c.open_named.result all.fresh all.missing all.only
    all.opens all.refused
