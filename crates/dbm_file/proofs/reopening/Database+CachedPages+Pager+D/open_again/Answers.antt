use Rattle.std.proofs.Common.{ℕ, ◌/◌, sym, ap, subst, ◌∙◌}
use Rattle.sect_dev.specs.Device.{LeavesOnly}
use Rattle.sect_dev.specs.Moments.{IsOutcome}
use Rattle.page_io.proofs.Exits.{not_both}
use Rattle.file_opening.specs.Opening.{early_fault, AllAllow, AllStand, KeepsMeta, IsOpened, IsRefusedOpening, MayRemain}
use Rattle.redo_area.specs.File.{settled}
use Rattle.dbm_file.specs.Database.{meta_kept}
use Rattle.dbm_file.specs.Opened.{AllHaveRoom}
use Rattle.dbm_file.proofs.Reopenings.{if_ok_then, if_err_then, all_stand, all_have_room, all_allow, keeps_meta, is_opened, is_refused, as_first, then_none, opened_behind, left_at_start}
use Rattle.dbm_file.proofs.reopening.Database+CachedPages+Pager+D.open_again.Goals as goal
use Rattle.dbm_file.proofs.reopening.Database+CachedPages+Pager+D.open_again.Goals.{then-is_err-via-then-is_err, then-is_err-via-else-is_err+then-is_err-2}

pub returns-then-is_err-clause-any_moment : goal.returns-then-is_err-clause-any_moment
returns-then-is_err-clause-any_moment g c honest =
    let dev = g.D.SectorDev in
    let first = c.args.dev in
    let n = dev.sectors first in
    let turned = c.change_turn.ensures in
    elim c.then-is_err.branch [
      | then-is_err-via-then-is_err w ↦
          subst (λ d. LeavesOnly dev.moment (IsOutcome dev.left_since (settled (n / 4))) first d
          (MayRemain c.args.how n (dev.candidate first))) (sym w.dev-is)
          (left_at_start dev first c.change_turn.new.dev c.args.how (turned.any_moment honest))
      | then-is_err-via-else-is_err+then-is_err-2 w ↦
          subst (λ d. LeavesOnly dev.moment (IsOutcome dev.left_since (settled (n / 4))) first d
          (MayRemain c.args.how n (dev.candidate first))) (sym w.dev-is)
          (left_at_start dev first w.write_back.new.dev c.args.how
          (then_none dev first c.change_turn.new.dev w.write_back.new.dev (turned.any_moment honest)
          (turned.images honest) (w.write_back.ensures.any_moment (turned.device.honesty.1 honest))))
    ]

pub returns-clause-any_moment : goal.returns-clause-any_moment
returns-clause-any_moment g c honest =
    let dev = g.D.SectorDev in
    let first = c.args.dev in
    let now = c.write_back.new.dev in
    let turned = c.change_turn.ensures in
    let wrote = c.write_back.ensures in
    let h1 = turned.device.honesty.1 honest in
    let h2 = wrote.device.honesty.1 h1 in
    let size = wrote.device.size ∙ turned.device.size in
    let as_old = as_first dev first c.change_turn.new.dev now (turned.images honest)
    (wrote.candidates h1) in
    opened_behind dev first now _ c.args.how size as_old
    (then_none dev first c.change_turn.new.dev now (turned.any_moment honest)
    (turned.images honest) (wrote.any_moment h1))
    (c.open-2.ensures.any_moment h2)

pub returns-clause-opened : goal.returns-clause-opened
returns-clause-opened g c honest =
    let dev = g.D.SectorDev in
    let first = c.args.dev in
    let now = c.write_back.new.dev in
    let turned = c.change_turn.ensures in
    let wrote = c.write_back.ensures in
    let h1 = turned.device.honesty.1 honest in
    let h2 = wrote.device.honesty.1 h1 in
    let size = wrote.device.size ∙ turned.device.size in
    let as_old = as_first dev first c.change_turn.new.dev now (turned.images honest)
    (wrote.candidates h1) in
    if_ok_then _ _ c.open-2.result
    (λ db keeps. keeps_meta (dev.candidate first) (dev.candidate now) (dev.sectors first) as_old
    c.args.how (meta_kept db)
    (subst (λ (n : ℕ). KeepsMeta c.args.how n (dev.candidate now) (meta_kept db)) size keeps))
    (c.open-2.ensures.opened h2)

pub returns-clause-stands : goal.returns-clause-stands
returns-clause-stands g c honest one stand =
    let dev = g.D.SectorDev in
    let first = c.args.dev in
    let now = c.write_back.new.dev in
    let turned = c.change_turn.ensures in
    let wrote = c.write_back.ensures in
    let h1 = turned.device.honesty.1 honest in
    let h2 = wrote.device.honesty.1 h1 in
    let size = wrote.device.size ∙ turned.device.size in
    let as_old = as_first dev first c.change_turn.new.dev now (turned.images honest)
    (wrote.candidates h1) in
    if_ok_then _ _ c.open-2.result
    (λ db found. (
      found.0,
      found.1,
      found.2,
      is_opened (dev.candidate first) (dev.candidate now) (dev.sectors first) as_old c.args.how
          found.0 found.1
          (subst (λ (n : ℕ). IsOpened c.args.how n (dev.candidate now) found.0 found.1) size
          found.3),
    ))
    (c.open-2.ensures.stands h2
    (λ reads. absurd (not_both c.is_writable.result c.if-not-is_writable.false
    (c.is_writable.ensures ∙ reads)))
    (subst (λ (n : ℕ). AllStand (n / 4) (dev.candidate now)) (sym size)
    (all_stand (dev.candidate first) (dev.candidate now) (dev.sectors first) as_old stand)))

pub returns-clause-opens : goal.returns-clause-opens
returns-clause-opens g c honest early stand allow =
    let dev = g.D.SectorDev in
    let first = c.args.dev in
    let now = c.write_back.new.dev in
    let turned = c.change_turn.ensures in
    let wrote = c.write_back.ensures in
    let h1 = turned.device.honesty.1 honest in
    let h2 = wrote.device.honesty.1 h1 in
    let size = wrote.device.size ∙ turned.device.size in
    let as_old = as_first dev first c.change_turn.new.dev now (turned.images honest)
    (wrote.candidates h1) in
    c.open-2.ensures.opens h2
    (ap (early_fault c.args.how) size ∙ early)
    (subst (λ (n : ℕ). AllStand (n / 4) (dev.candidate now)) (sym size)
    (all_stand (dev.candidate first) (dev.candidate now) (dev.sectors first) as_old stand))
    (subst (λ (n : ℕ). AllAllow c.args.how n (dev.candidate now)) (sym size)
    (all_allow (dev.candidate first) (dev.candidate now) (dev.sectors first) as_old c.args.how
    allow))

pub returns-clause-room : goal.returns-clause-room
returns-clause-room g c honest enough =
    let dev = g.D.SectorDev in
    let first = c.args.dev in
    let now = c.write_back.new.dev in
    let turned = c.change_turn.ensures in
    let wrote = c.write_back.ensures in
    let h1 = turned.device.honesty.1 honest in
    let h2 = wrote.device.honesty.1 h1 in
    let size = wrote.device.size ∙ turned.device.size in
    let as_old = as_first dev first c.change_turn.new.dev now (turned.images honest)
    (wrote.candidates h1) in
    c.open-2.ensures.room h2
    (subst (λ (n : ℕ). AllHaveRoom (n / 4) (dev.candidate now)) (sym size)
    (all_have_room (dev.candidate first) (dev.candidate now) (dev.sectors first) as_old enough))

pub returns-clause-refused : goal.returns-clause-refused
returns-clause-refused g c honest early =
    let dev = g.D.SectorDev in
    let first = c.args.dev in
    let now = c.write_back.new.dev in
    let turned = c.change_turn.ensures in
    let wrote = c.write_back.ensures in
    let h1 = turned.device.honesty.1 honest in
    let h2 = wrote.device.honesty.1 h1 in
    let size = wrote.device.size ∙ turned.device.size in
    let as_old = as_first dev first c.change_turn.new.dev now (turned.images honest)
    (wrote.candidates h1) in
    if_err_then _ _ c.open-2.result
    (λ e refused other. is_refused (dev.candidate first) (dev.candidate now) (dev.sectors first)
    as_old c.args.how (dev.candidate e.0) e.1
    (subst (λ (n : ℕ). IsRefusedOpening c.args.how n (dev.candidate now) (dev.candidate e.0) e.1)
    size (refused other)))
    (c.open-2.ensures.refused h2 (ap (early_fault c.args.how) size ∙ early))
