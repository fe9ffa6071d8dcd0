-- What is said of the calls of a session that were made.
use Rattle.std.proofs.Common.{List, map}
use Rattle.dbm_model.specs.Calls.{Reply}
use Rattle.dbm_file.specs.Calls.{reply_of}
use Rattle.rehearsal.specs.Positions.{IfMade}
use Rattle.rehearsal.specs.declared.sessions.Ending.{Ending}
use Rattle.rehearsal.specs.declared.sessions.Ending.TheVariants.{NotOpened, NoMemory, Rested, Unsettled, Broke, BrokeGroup}

-- what follows from what is said of the calls that were made
pub if_made : (ending : Ending) (P Q : List Reply → Type 0)
    → ((replies : List Reply) → P replies → Q replies) → IfMade ending P → IfMade ending Q
if_made (NotOpened fault) P Q goes is = tt
if_made NoMemory P Q goes is = tt
if_made (Rested replies stored) P Q goes is = goes (map reply_of replies.items) is
if_made (Unsettled replies stored) P Q goes is = goes (map reply_of replies.items) is
if_made (Broke replies) P Q goes is = goes (map reply_of replies.items) is
if_made (BrokeGroup replies) P Q goes is = goes (map reply_of replies.items) is
