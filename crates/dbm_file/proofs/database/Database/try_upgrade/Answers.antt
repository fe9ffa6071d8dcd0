use Rattle.std.proofs.Common.{◌≡◌, ◌∙◌, ◌≤◌, ◌*◌, inl, inr, ⊎_elim, ap, refl, Err, arith}
use Rattle.std.specs.FinMap.{len}
use Rattle.dbm_model.specs.Bounds.{upgraded}
use Rattle.dbm_model.specs.Calls as model
use Rattle.dbm_model.specs.Sizes.{home}
use Rattle.page_io.specs.Store.{StoreState}
use Rattle.seg_table.specs.MetaPages.{model_meta}
use Rattle.linear_hash.specs.Tables.{shape_in}
use Rattle.dbm_fault.specs.declared.fault.Fault.TheVariants.{ReadOnly, TooSmall}
use Rattle.dbm_file.specs.Database.{handle_of, meta_kept}
use Rattle.dbm_file.proofs.BucketSteps.{none_opened}
use Rattle.dbm_file.proofs.Cases.{broken_upgrade, upgrade_read_only, second_rule, too_small_rule}
use Rattle.dbm_file.proofs.ChangeSteps.{mid_honest, mid_usable, mid_holds, changed_step, no_growth, refused_step}
use Rattle.dbm_file.proofs.ReadSteps.{from_own, no_read, not_broken, broken_step, rejected_step, told_step_of}
use Rattle.dbm_file.proofs.RefusedChanges.{told_keeps}
use Rattle.dbm_file.proofs.UpgradeSteps.{is_second, is_first, upgrade_asked, reply_to_upgrade, told_upgrade}
use Rattle.dbm_file.proofs.database.Database.try_upgrade.Goals as goal

pub returns-then-is_broken-clause-step : goal.returns-then-is_broken-clause-step
returns-then-is_broken-clause-step g c honest h at =
    let db = c.args.self.now in
    let broken = c.is_broken.ensures.0 c.if-is_broken.true in
    from_own at (broken_step g.S.PageStore db h.state.map _ broken
    (broken_upgrade (handle_of db h.state.map) broken))

pub returns-then-not-self-clause-step : goal.returns-then-not-self-clause-step
returns-then-not-self-clause-step g c honest h at =
    let s = g.S.PageStore in
    let db = c.args.self.now in
    let map = h.state.map in
    let usable = not_broken _ _ c.is_broken.ensures c.if-is_broken.false in
    from_own at (rejected_step s db db map _
    (no_read s db (λ y honest left. g.met.S.PageStore.only_now db.store y honest left)) honest
    (at.map usable) (at.rests usable) ReadOnly
    (upgrade_read_only (handle_of db map) usable (db.told ∙ c.if-not-self.true)))

pub returns-then-eq-clause-step : goal.returns-then-eq-clause-step
returns-then-eq-clause-step g c honest h at =
    let s = g.S.PageStore in
    let db = c.args.self.now in
    let map = h.state.map in
    let usable = not_broken _ _ c.is_broken.ensures c.if-is_broken.false in
    from_own at (told_step_of s db db map _
    (no_read s db (λ y honest left. g.met.S.PageStore.only_now db.store y honest left)) honest
    (at.map usable) (at.rests usable) model.Upgraded refl
    (second_rule (handle_of db map) usable (db.told ∙ c.if-not-self.false)
    (is_second db.meta.version c.if-eq.ensures)))

pub returns-then-capacity-pages_needed-clause-step :
    goal.returns-then-capacity-pages_needed-clause-step
returns-then-capacity-pages_needed-clause-step g c honest h at =
    let s = g.S.PageStore in
    let db = c.args.self.now in
    let map = h.state.map in
    let usable = not_broken _ _ c.is_broken.ensures c.if-is_broken.false in
    from_own at (rejected_step s db db map _
    (no_read s db (λ y honest left. g.met.S.PageStore.only_now db.store y honest left)) honest
    (at.map usable) (at.rests usable) TooSmall
    (too_small_rule (handle_of db map) usable (db.told ∙ c.if-not-self.false)
    (is_first db.meta.version c.if-eq.ensures)
    (omega (arith, c.if-capacity-pages_needed.true, c.capacity.ensures, c.pages_needed.ensures))))

pub returns-in_err-upgrade-clause-step : goal.returns-in_err-upgrade-clause-step
returns-in_err-upgrade-clause-step g c honest h at =
    let s = g.S.PageStore in
    let db = c.args.self.now in
    let map = h.state.map in
    let all = c.in_err-upgrade.ensures in
    let e = c.in_err-upgrade.field-0.0 in
    let usable = not_broken _ _ c.is_broken.ensures c.if-is_broken.false in
    let room : 2 * home (upgraded (meta_kept db).bounds) ≤ (s.state db.store).capacity =
    omega (arith, c.if-capacity-pages_needed.false, c.capacity.ensures, c.pages_needed.ensures) in
    let asked = upgrade_asked s db map
    (no_read s db (λ y honest left. g.met.S.PageStore.only_now db.store y honest left)) usable
    (db.told ∙ c.if-not-self.false) honest (at.map usable) (at.rests usable)
    (is_first db.meta.version c.if-eq.ensures) room in
    let turns = all.turns (mid_honest s asked) (mid_usable s asked) map (mid_holds s asked) in
    from_own at (reply_to_upgrade _ e
    (refused_step s asked _ e record { ends = all.ends; error_is = refl; pass_is = refl } _ turns
    (λ t x le left. g.met.S.PageStore.counts_now c.upgrade.new.store t x
    (all.ends.honesty.1 (mid_honest s asked)) le left)
    (λ is. absurd (all.never (inl (ap Err is))))
    (λ is. absurd (omega (arith, (turns.no_room (ap Err is)).0, room))))
    c.from_residual.result c.from_residual.ensures.1)

pub returns-in_err-upgrade-clause-ends : goal.returns-in_err-upgrade-clause-ends
returns-in_err-upgrade-clause-ends g c =
    let s = g.S.PageStore in
    let db = c.args.self.now in
    let all = c.in_err-upgrade.ensures in
    let e = c.in_err-upgrade.field-0.0 in
    let usable = not_broken _ _ c.is_broken.ensures c.if-is_broken.false in
    let told = c.from_residual.ensures.1 in
    let read = no_read s db (λ y honest left. g.met.S.PageStore.only_now db.store y honest left) in
    told_upgrade db _ c.from_residual.result e usable (db.told ∙ c.if-not-self.false)
    (is_first db.meta.version c.if-eq.ensures)
    (omega (arith, c.if-capacity-pages_needed.false, c.capacity.ensures, c.pages_needed.ensures))
    told all.ends.answer.only
    (λ is. all.never (⊎_elim (λ memory. inl (ap Err memory)) (λ damaged. inr (ap Err damaged)) is))
    (λ is. all.room (ap Err is))
    (told_keeps s db db _ read usable (db.told ∙ c.if-not-self.false) e record { ends = all.ends; error_is = refl; pass_is = refl }
    c.from_residual.result told)

pub returns-clause-step : goal.returns-clause-step
returns-clause-step g c honest h at =
    let s = g.S.PageStore in
    let db = c.args.self.now in
    let map = h.state.map in
    let all = c.in_ok-upgrade.ensures in
    let usable = not_broken _ _ c.is_broken.ensures c.if-is_broken.false in
    let writable = db.told ∙ c.if-not-self.false in
    let asked = upgrade_asked s db map
    (no_read s db (λ y honest left. g.met.S.PageStore.only_now db.store y honest left)) usable
    writable honest (at.map usable) (at.rests usable) (is_first db.meta.version c.if-eq.ensures)
    (omega (arith, c.if-capacity-pages_needed.false, c.capacity.ensures, c.pages_needed.ensures)) in
    let turns = all.turns (mid_honest s asked) (mid_usable s asked) map (mid_holds s asked) in
    let same_end : (s.state c.upgrade.new.store).end ≡ (s.state db.store).end =
    omega (arith, turns.grows.0, turns.grows.1) in
    from_own at (changed_step s asked _
    record { ends = all.ends; error_is = refl; pass_is = refl } _ (no_growth s asked)
    (inl same_end)
    (none_opened (handle_of db map) model.Upgraded (meta_kept db) (model_meta c.upgrade.new.meta)
    (len map) (ap shape_in all.meta) refl) turns
    (λ x left. g.met.S.PageStore.only_committed c.upgrade.new.store x
    (all.ends.honesty.1 (mid_honest s asked))
    (ap (λ (st : StoreState). st.usable) all.ends.ok ∙ usable)
    (ap (λ (st : StoreState). st.writable) all.ends.ok ∙ writable) left))
