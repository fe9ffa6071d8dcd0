use Rattle.std.proofs.Common.{ℕ, List, get_or, ap}
use Rattle.page_io.specs.Page.{page_at}
use Rattle.page_io.specs.Store.{bytes_of}
use Rattle.page_io.proofs.Overlays.{overlaid-over}
use Rattle.dbm_salvage.specs.Images.{place}
use Rattle.dbm_salvage.specs.Laid.{laid}
use Rattle.dbm_salvage.proofs.LaidImages.{own_place}
use Rattle.dbm_salvage.proofs.images.Images.of_log.Goals as goal

-- each page on the device stands at its own number
pub returns-clause-over : goal.returns-clause-over
unfolding laid
returns-clause-over c image n =
    overlaid-over (bytes_of c.args.logged.items) (page_at image)
    (λ (m : ℕ). page_at image (place c.new.result.items m)) n
    (λ _. ap (page_at image) (own_place c.new.result.items n
    (ap (λ (places : List ℕ). get_or places n 0) c.new.ensures.items)))
