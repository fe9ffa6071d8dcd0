use Rattle.std.proofs.Common.{◌∙◌, sym, ap, subst, List, length, arith}
use Rattle.sect_dev.specs.declared.mem.Write.{Write}
use Rattle.sect_dev.specs.declared.past.Event.{Event}
use Rattle.sect_dev.specs.Device.{Image, IsImageOf}
use Rattle.sect_dev.specs.History.{kept_is_image, IsCandidate, pending_of, kept, content_after}
use Rattle.sect_dev.specs.Mem.{history}
use Rattle.sect_dev.proofs.Pending.{last_and_pending}
use Rattle.sect_dev.proofs.Unsynced.{all_counted, joined}
use Rattle.sect_dev.proofs.mem.MemDev.crashed.Goals as goal

pub add_marked-requires : goal.add_marked-requires
add_marked-requires c =
    let dev = c.args.self.now in
    ap pending_of (joined dev.unsynced.items (history dev) dev.unsynced_are c.as_slice.result.now
    (history c.in_ok-after.after) c.as_slice.ensures.value c.in_ok-after.ensures.record)
    ∙ sym (all_counted dev.unsynced.items (history dev) dev.unsynced_are)
    ∙ sym (ap (λ (l : List Write). length l) c.as_slice.ensures.value)

pub returns-clause-seen : goal.returns-clause-seen
returns-clause-seen c =
    let dev = c.args.self.now in
    ap content_after c.make_stable.ensures.record ∙ c.in_ok-add_marked.ensures.ok
    ∙ ap (λ (l : List Event). kept l c.args.keep.now)
    (joined dev.unsynced.items (history dev) dev.unsynced_are c.as_slice.result.now
    (history c.in_ok-after.after) c.as_slice.ensures.value c.in_ok-after.ensures.record)

pub returns-clause-image : goal.returns-clause-image
returns-clause-image c =
    subst (λ (image : Image). IsImageOf (IsCandidate (history c.args.self.now)) image)
    (sym (returns-clause-seen c)) (kept_is_image (history c.args.self.now) c.args.keep.now)

pub returns-clause-moment : goal.returns-clause-moment
returns-clause-moment c =
    let dev = c.args.self.now in
    omega (
      arith,
      ap (λ (l : List Event). length l) c.make_stable.ensures.record,
      c.in_ok-add_marked.ensures.most,
      ap (λ (l : List Event). length l) c.in_ok-after.ensures.record,
      last_and_pending (history dev),
      all_counted dev.unsynced.items (history dev) dev.unsynced_are,
      ap (λ (l : List Write). length l) c.as_slice.ensures.value,
    )
