-- What a handle holds may go to another thread.
use denote.Enum.Declared as enum
use denote.Param.Send.{IsSend, enum_send, struct_send, recorded_send}
use denote.Struct.Declared.{shape}
use Rattle.dbm_file.proofs.database.Database.TheSendSync as database
use Rattle.page_cache.proofs.cached_pages.CachedPages.TheSendSync as cached
use Rattle.redo_area.proofs.pager.Pager.TheSendSync as pager
use Rattle.page_cache.specs.contracts.cached_pages.CachedPagesPageStore.TheImpl as cached_store
use Rattle.redo_area.specs.contracts.pager.Pager.{the_row as pager_row}
use Rattle.redo_area.specs.contracts.pager.PagerPageStore.TheImpl as pager_store
use Rattle.listed_dev.proofs.Crossing as listed
use Rattle.listed_dev.specs.contracts.listed_dev.ListedDev.{the_row as dev_row}
use Rattle.listed_dev.specs.contracts.listed_dev.ListedDevSectorDev.TheImpl.{ghosts as dev_ghosts}
use Rattle.ndbm_calls.proofs.group.Group.TheSendSync as group
use Rattle.ndbm_c.specs.contracts.handle.Open as held
use Rattle.ndbm_c.specs.contracts.handle.Opened as opened

opened_send : IsSend opened.the_field.row
opened_send = struct_send (shape opened.the_type) (
  database.the_field_send _
      (cached_store.ghosts (pager_row dev_row dev_ghosts)
      (pager_store.ghosts dev_row dev_ghosts pager_store.no_dict) cached_store.no_dict)
      (cached.the_send _ _ (pager.the_send _ _ listed.send)),
  (group.the_field_send, tt),
)

pub held_send : IsSend held.the_row
held_send = recorded_send held.the_field.row _ _ held.the_type.to_one
    (enum_send (enum.shape held.the_type)
    (tt, ((listed.field_send, tt), ((opened_send, tt), tt))))
