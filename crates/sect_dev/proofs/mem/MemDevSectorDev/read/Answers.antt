use Rattle.std.proofs.Common.{refl, sym, ap, ◌∙◌}
use Rattle.std.specs.Option.{option_copied}
use Rattle.sect_dev.specs.Mem.{history}
use Rattle.sect_dev.specs.History.{content_after}
use Rattle.sect_dev.proofs.Indexed.{content_found}
use Rattle.sect_dev.proofs.mem.MemDevSectorDev.read.Goals as goal

pub returns-in-Some : goal.returns-in-Some
returns-in-Some c =
    let dev = c.args.self.now in
    record {
      succeeds = refl;
      content = content_found dev.newest c.args.n c.in-Some.content.now (content_after
          (history dev) c.args.n)
          (sym (ap option_copied c.in-Some.is) ∙ c.get.ensures.value) (dev.indexed c.args.n);
      same = refl;
    }
