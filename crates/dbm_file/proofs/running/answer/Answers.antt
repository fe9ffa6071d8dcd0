use Rattle.std.proofs.Common.{w32, to_z, of_z, ◌∙◌, inl, inr, sym, ap, subst}
use Rattle.dbm_model.specs.Calls as model
use Rattle.dbm_model.specs.Changes.{bounds_after}
use Rattle.dbm_file.specs.Answers.{IsSameUnder}
use Rattle.dbm_file.specs.Calls.{call_of}
use Rattle.dbm_file.specs.Database.{meta_kept}
use Rattle.dbm_file.specs.declared.calls.Reply.TheVariants.{NoRecord, End, Number}
use Rattle.dbm_file.proofs.Answered.{answered_to, store_answered, delete_answered, fetch_answered, first_answered, next_answered, upgrade_answered, store_is_told, delete_is_told, upgrade_is_told, bytes_are_told, same_goes}
use Rattle.dbm_file.proofs.RoomCounts.{content_room, behind_content, key_room, behind_key}
use Rattle.dbm_file.proofs.Runs.{same_step, same_store, told_number, goes_nowhere, goes_for}
use Rattle.dbm_file.proofs.running.answer.Goals as goal

-- ---- the rooms

pub bytes_in-requires : goal.bytes_in-requires
bytes_in-requires g c = (
  _,
  content_room c.requires.1 c.args.call.now c.requires.0 c.args.rooms.now c.requires.3 c.in-Fetch.key
      c.in-Fetch.is c.take_room-room.result c.take_room-room.new.rooms _ c.requires.2
      c.take_room-room.ensures.taken,
  c.fetch.ensures.short,
)

pub bytes_in-requires-in-First : goal.bytes_in-requires-in-First
bytes_in-requires-in-First g c = (
  2026,
  key_room c.requires.1 c.args.call.now c.requires.0 c.args.rooms.now c.requires.3 (inl c.in-First.is)
      c.take_room.result c.take_room.new.rooms c.take_room.ensures.taken,
  c.firstkey.ensures.short,
)

pub bytes_in-requires-in-Next : goal.bytes_in-requires-in-Next
bytes_in-requires-in-Next g c = (
  2026,
  key_room c.requires.1 c.args.call.now c.requires.0 c.args.rooms.now c.requires.3 (inr c.in-Next.is)
      c.take_room-in-Next.result c.take_room-in-Next.new.rooms c.take_room-in-Next.ensures.taken,
  c.nextkey.ensures.short,
)

pub returns-in-Fetch-clause-rooms : goal.returns-in-Fetch-clause-rooms
returns-in-Fetch-clause-rooms g c later longest there =
    behind_content longest c.args.call.now later c.args.rooms.now there c.in-Fetch.key c.in-Fetch.is
    c.take_room-room.result c.take_room-room.new.rooms c.take_room-room.ensures.taken

pub returns-in-First-clause-rooms : goal.returns-in-First-clause-rooms
returns-in-First-clause-rooms g c later longest there =
    behind_key longest c.args.call.now later c.args.rooms.now there (inl c.in-First.is)
    c.take_room.result c.take_room.new.rooms c.take_room.ensures.taken

pub returns-in-Next-clause-rooms : goal.returns-in-Next-clause-rooms
returns-in-Next-clause-rooms g c later longest there =
    behind_key longest c.args.call.now later c.args.rooms.now there (inr c.in-Next.is)
    c.take_room-in-Next.result c.take_room-in-Next.new.rooms c.take_room-in-Next.ensures.taken

-- ---- the calls

pub returns-in-Store-clause-step : goal.returns-in-Store-clause-step
returns-in-Store-clause-step g c honest h at =
    same_step (same_store _ _ _ _ _ c.as_slice.ensures c.as_slice-in-Store.ensures
    ∙ sym (ap call_of c.in-Store.is)) (sym (store_is_told _ _ c.reply_to_store.ensures))
    (c.store.ensures.step honest h at)

pub returns-in-Store-clause-answered : goal.returns-in-Store-clause-answered
returns-in-Store-clause-answered g c =
    answered_to c.args.db.now c.store.new.self _ _ c.reply_to_store.result c.in-Store.is
    (store_answered c.store.result c.reply_to_store.result _ _ _ _ _ c.reply_to_store.ensures
    c.as_slice.ensures c.as_slice-in-Store.ensures c.store.ensures.kept c.store.ensures.stored
    c.store.ensures.only c.store.ensures.keeps)

pub returns-in-Fetch-clause-step : goal.returns-in-Fetch-clause-step
returns-in-Fetch-clause-step g c honest h at =
    same_step (ap model.Fetch c.as_slice-in-Fetch.ensures ∙ sym (ap call_of c.in-Fetch.is))
    (bytes_are_told NoRecord _ _ c.bytes_in.ensures)
    (c.fetch.follows.holds-at-none.step honest h at)

pub returns-in-Fetch-clause-answered : goal.returns-in-Fetch-clause-answered
returns-in-Fetch-clause-answered g c =
    answered_to c.args.db.now c.fetch.follows.lender-at-none _ _ c.bytes_in.result c.in-Fetch.is
    (fetch_answered c.fetch.result c.bytes_in.result _ _ c.bytes_in.ensures
    c.as_slice-in-Fetch.ensures c.fetch.ensures.searched c.fetch.ensures.only
    c.fetch.follows.holds-at-none.keeps)

pub returns-in-Delete-clause-step : goal.returns-in-Delete-clause-step
returns-in-Delete-clause-step g c honest h at =
    same_step (ap model.Delete c.as_slice-in-Delete.ensures ∙ sym (ap call_of c.in-Delete.is))
    (sym (delete_is_told _ _ c.reply_to_delete.ensures)) (c.delete.ensures.step honest h at)

pub returns-in-Delete-clause-answered : goal.returns-in-Delete-clause-answered
returns-in-Delete-clause-answered g c =
    answered_to c.args.db.now c.delete.new.self _ _ c.reply_to_delete.result c.in-Delete.is
    (delete_answered c.delete.result c.reply_to_delete.result _ _ c.reply_to_delete.ensures
    c.as_slice-in-Delete.ensures c.delete.ensures.absent c.delete.ensures.deleted
    c.delete.ensures.only c.delete.ensures.keeps)

pub returns-in-First-clause-step : goal.returns-in-First-clause-step
returns-in-First-clause-step g c honest h at =
    same_step (sym (ap call_of c.in-First.is)) (bytes_are_told End _ _ c.bytes_in-in-First.ensures)
    (c.firstkey.follows.holds-at-none.step honest h at)

pub returns-in-First-clause-answered : goal.returns-in-First-clause-answered
returns-in-First-clause-answered g c =
    answered_to c.args.db.now c.firstkey.follows.lender-at-none _ _ c.bytes_in-in-First.result
    c.in-First.is
    (first_answered c.firstkey.result c.bytes_in-in-First.result c.bytes_in-in-First.ensures
    c.firstkey.ensures.passed c.firstkey.ensures.only c.firstkey.follows.holds-at-none.keeps)

pub returns-in-Next-clause-step : goal.returns-in-Next-clause-step
returns-in-Next-clause-step g c honest h at =
    same_step (sym (ap call_of c.in-Next.is)) (bytes_are_told End _ _ c.bytes_in-in-Next.ensures)
    (c.nextkey.follows.holds-at-none.step honest h at)

pub returns-in-Next-clause-answered : goal.returns-in-Next-clause-answered
returns-in-Next-clause-answered g c =
    answered_to c.args.db.now c.nextkey.follows.lender-at-none _ _ c.bytes_in-in-Next.result
    c.in-Next.is
    (next_answered c.nextkey.result c.bytes_in-in-Next.result c.bytes_in-in-Next.ensures
    c.nextkey.ensures.passed c.nextkey.ensures.only c.nextkey.follows.holds-at-none.keeps)

pub returns-in-Error-clause-step : goal.returns-in-Error-clause-step
returns-in-Error-clause-step g c honest h at =
    same_step (sym (ap call_of c.in-Error.is))
    (ap model.Number (sym (told_number c.error.result _ c.error.type_inv c.error.ensures.number)))
    (c.error.ensures.step honest h at)

pub returns-in-Clear-clause-step : goal.returns-in-Clear-clause-step
returns-in-Clear-clause-step g c honest h at =
    same_step (sym (ap call_of c.in-Clear.is))
    (ap model.Number (sym (told_number c.clearerr.result 0 c.clearerr.type_inv
    c.clearerr.ensures.zero))) (c.clearerr.ensures.step honest h at)

pub returns-in-Store-clause-goes : goal.returns-in-Store-clause-goes
returns-in-Store-clause-goes g c =
    goes_for c.args.db.now c.store.new.self c.args.call.now _ c.reply_to_store.result c.in-Store.is c.store.ensures.keeps.goes

pub returns-in-Fetch-clause-goes : goal.returns-in-Fetch-clause-goes
returns-in-Fetch-clause-goes g c =
    goes_for c.args.db.now c.fetch.follows.lender-at-none c.args.call.now _ c.bytes_in.result c.in-Fetch.is c.fetch.follows.holds-at-none.keeps.goes

pub returns-in-Delete-clause-goes : goal.returns-in-Delete-clause-goes
returns-in-Delete-clause-goes g c =
    goes_for c.args.db.now c.delete.new.self c.args.call.now _ c.reply_to_delete.result c.in-Delete.is c.delete.ensures.keeps.goes

pub returns-in-First-clause-goes : goal.returns-in-First-clause-goes
returns-in-First-clause-goes g c =
    goes_for c.args.db.now c.firstkey.follows.lender-at-none c.args.call.now _ c.bytes_in-in-First.result c.in-First.is c.firstkey.follows.holds-at-none.keeps.goes

pub returns-in-Next-clause-goes : goal.returns-in-Next-clause-goes
returns-in-Next-clause-goes g c =
    goes_for c.args.db.now c.nextkey.follows.lender-at-none c.args.call.now _ c.bytes_in-in-Next.result c.in-Next.is c.nextkey.follows.holds-at-none.keeps.goes

pub returns-in-Error-clause-goes : goal.returns-in-Error-clause-goes
returns-in-Error-clause-goes g c =
    goes_for c.args.db.now c.args.db.now c.args.call.now _ (Number (to_z w32 (of_z w32 c.error.result)))
    c.in-Error.is (goes_nowhere c.args.db.now)

pub returns-in-Clear-clause-goes : goal.returns-in-Clear-clause-goes
returns-in-Clear-clause-goes g c =
    goes_for c.args.db.now c.clearerr.new.self c.args.call.now _
    (Number (to_z w32 (of_z w32 c.clearerr.result))) c.in-Clear.is
    (same_goes c.args.db.now c.clearerr.new.self c.clearerr.ensures.still.0
    c.clearerr.ensures.still.1)

-- ---- an upgrade

pub returns-in-Upgrade-clause-step : goal.returns-in-Upgrade-clause-step
returns-in-Upgrade-clause-step g c honest h at =
    same_step (sym (ap call_of c.in-Upgrade.is)) (sym (upgrade_is_told _ _ c.reply_to_upgrade.ensures))
    (c.upgrade.ensures.step honest h at)

pub returns-in-Upgrade-clause-answered : goal.returns-in-Upgrade-clause-answered
returns-in-Upgrade-clause-answered g c =
    answered_to c.args.db.now c.upgrade.new.self _ _ c.reply_to_upgrade.result c.in-Upgrade.is
    (upgrade_answered c.upgrade.result c.reply_to_upgrade.result c.reply_to_upgrade.ensures
    c.upgrade.ensures.upgraded c.upgrade.ensures.only c.upgrade.ensures.keeps)

pub returns-in-Upgrade-clause-goes : goal.returns-in-Upgrade-clause-goes
returns-in-Upgrade-clause-goes g c =
    goes_for c.args.db.now c.upgrade.new.self c.args.call.now _ c.reply_to_upgrade.result c.in-Upgrade.is
    (subst (λ (reply : model.Reply).
    IsSameUnder (bounds_after (meta_kept c.args.db.now).bounds model.Upgrade reply) c.args.db.now
    c.upgrade.new.self) (sym (upgrade_is_told _ _ c.reply_to_upgrade.ensures))
    c.upgrade.ensures.keeps.goes)
