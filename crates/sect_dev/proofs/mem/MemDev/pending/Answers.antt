use Rattle.std.proofs.Common.{◌≡◌, ◌∙◌, length, rules}
use Rattle.sect_dev.proofs.Unsynced.{all_counted}
use Rattle.sect_dev.proofs.mem.MemDev.pending.Goals as goal

pub returns : goal.returns
returns c =
    let dev = c.args.self.now in
    let counted : c.len.result ≡ length dev.unsynced.items = search rules in
    counted ∙ all_counted dev.unsynced.items dev.past.events dev.unsynced_are
