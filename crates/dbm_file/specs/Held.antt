-- What the file of a database stands for.
use Rattle.dbm_model.specs.Bounds.{Bounds}
use Rattle.dbm_model.specs.Calls.{Call}
use Rattle.dbm_model.specs.Changes.{map_asked, bounds_asked}
use Rattle.dbm_model.specs.Pairs.{Contents}
use Rattle.dbm_model.specs.States.{State}

pub record Held : Type 0 where
  pub map : Contents
  pub bounds : Bounds

abbrev pub held_by : State → Held
held_by s = record { map = s.map; bounds = s.bounds }

-- what a call asks for, where it is a change
abbrev pub held_asked : State → Call → Held
held_asked s call = record { map = map_asked s.map call; bounds = bounds_asked s.bounds call }
