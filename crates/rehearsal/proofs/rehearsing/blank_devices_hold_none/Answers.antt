use Rattle.std.proofs.Common.{◌/◌}
use Rattle.sect_dev.specs.contracts.mem.MemDevSectorDev.TheImpl.{ghosts as MemDevGhosts}
use Rattle.rehearsal.proofs.Reopenings.{blank_holds_none}
use Rattle.rehearsal.proofs.rehearsing.blank_devices_hold_none.Goals as goal

pub returns : goal.returns
returns c stable =
    blank_holds_none (MemDevGhosts.sectors c.args.dev.now / 4) (MemDevGhosts.candidate c.args.dev.now)
    stable
