use Rattle.std.proofs.Common.{Ok, refl, ap}
use Rattle.dbm_file.specs.Database.{handle_of}
use Rattle.dbm_file.specs.Pairs.{pair_of}
use Rattle.dbm_file.proofs.GroupSteps.{stored_in, is_stored, was_sound, is_sound, as_stored}
use Rattle.dbm_file.proofs.groups.store_in.Goals as goal

pub returns-in-Ok-clause-stored : goal.returns-in-Ok-clause-stored
returns-in-Ok-clause-stored g c honest contents at =
    let old = c.args.group.now in
    let new = c.store.new.self in
    let pair = pair_of c.args.pair.now in
    let all = c.in-Ok.ensures in
    let reply = c.in-Ok.field-0 in
    stored_in old new pair refl (was_sound old new reply all.keeps)
    (is_sound old new reply all.keeps) contents
    (as_stored c.deref.result.now c.deref-2.result.now pair reply c.deref.ensures.value
    c.deref-2.ensures.value (is_stored reply (λ is. let mode = (all.kept (ap Ok is)).0 in cc))
    (all.step honest (handle_of old contents) at))
