use Rattle.redo_area.proofs.Results.{some_then, none_then}
use Rattle.redo_area.proofs.arming.place_beside.Goals as goal

pub returns-clause-first : goal.returns-clause-first
returns-clause-first c =
    some_then c.room_beside.result c.room_beside.ensures.first
    (λ place first other is. first other is.fits)

pub returns-clause-none : goal.returns-clause-none
returns-clause-none c =
    none_then c.room_beside.result c.room_beside.ensures.none (λ none other is. none other is.fits)
