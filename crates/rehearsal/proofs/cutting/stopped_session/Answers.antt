use Rattle.std.proofs.Common.{◌≡◌, ◌+◌, ◌/◌, None, sym, ap, ◌∙◌, refl, subst, arith}
use Rattle.std.proofs.lemmas.Bool.{ltb-false}
use Rattle.sect_dev.specs.contracts.mem.MemDevSectorDev.TheImpl.{ghosts as MemDevGhosts}
use Rattle.sect_dev.proofs.Schedules.{goes_until}
use Rattle.dbm_model.specs.Sessions.{Disk}
use Rattle.dbm_file.specs.Opened as files
use Rattle.file_opening.specs.Opening.{early_fault, AllStand, AllAllow}
use Rattle.rehearsal.specs.Members.{AllStandFor}
use Rattle.rehearsal.specs.Sessions.{plan_of, for_writing, ending_of, Leaves}
use Rattle.rehearsal.proofs.Cuts.{never_failed}
use Rattle.rehearsal.proofs.Rooms.{members_have_room}
use Rattle.rehearsal.proofs.cutting.stopped_session.Goals as goal

pub returns-clause-leaves : goal.returns-clause-leaves
returns-clause-leaves c before stand =
    let given = ap (λ k. k.inner) c.new-fuse.ensures.inner ∙ c.new-counting.ensures.inner in
    let left = c.into_inner.ensures ∙ ap (λ k. k.inner) c.into_inner-counted.ensures in
    let some = c.session-fuse.ensures.leaves tt before
    (subst (λ d. AllStandFor before (MemDevGhosts.sectors d / 4) (MemDevGhosts.candidate d))
    (sym given) stand) in
    let first = c.new-fuse.result in
    let last = c.session-fuse.result.0 in
    let disk : Disk = record {
      pages = MemDevGhosts.sectors first.inner.inner / 4;
      at_start = MemDevGhosts.faults first.inner.inner + first.refused;
      at_end = MemDevGhosts.faults last.inner.inner + last.refused;
    } in (
      disk,
      sym (ap (λ d. MemDevGhosts.sectors d / 4) left ∙ c.session-fuse.ensures.size),
      some.0,
      subst (λ d. Leaves disk before (plan_of c.args.how c.args.calls.now c.args.group.now)
          (ending_of c.session-fuse.result.1 some.0) (MemDevGhosts.sectors d / 4)
          (MemDevGhosts.candidate d)) (sym left) some.1,
    )

pub returns-clause-room : goal.returns-clause-room
returns-clause-room c before stand all =
    let given = ap (λ k. k.inner) c.new-fuse.ensures.inner ∙ c.new-counting.ensures.inner in
    c.session-fuse.ensures.room tt
    (subst (λ d. files.AllHaveRoom (MemDevGhosts.sectors d / 4) (MemDevGhosts.candidate d))
    (sym given)
    (members_have_room before (MemDevGhosts.sectors c.args.dev / 4)
    (MemDevGhosts.candidate c.args.dev) stand all))

pub returns-clause-opens : goal.returns-clause-opens
returns-clause-opens c early stand allow =
    let given = ap (λ k. k.inner) c.new-fuse.ensures.inner ∙ c.new-counting.ensures.inner in
    c.session-fuse.ensures.opens tt
    (subst (λ d. early_fault (for_writing c.args.how) (MemDevGhosts.sectors d) ≡ None) (sym given)
    early)
    (subst (λ d. AllStand (MemDevGhosts.sectors d / 4) (MemDevGhosts.candidate d)) (sym given) stand)
    (subst (λ d. AllAllow (for_writing c.args.how) (MemDevGhosts.sectors d)
    (MemDevGhosts.candidate d)) (sym given) allow)

pub returns-clause-spared : goal.returns-clause-spared
returns-clause-spared c before stand uncut =
    let given = ap (λ k. k.inner) c.new-fuse.ensures.inner ∙ c.new-counting.ensures.inner in
    let some = c.session-fuse.ensures.leaves tt before
    (subst (λ d. AllStandFor before (MemDevGhosts.sectors d / 4) (MemDevGhosts.candidate d))
    (sym given) stand) in
    let first = c.new-fuse.result in
    let last = c.session-fuse.result.0 in
    let start = MemDevGhosts.faults first.inner.inner + first.refused in
    let end = MemDevGhosts.faults last.inner.inner + last.refused in
    let disk : Disk = record {
      pages = MemDevGhosts.sectors first.inner.inner / 4;
      at_start = start;
      at_end = end;
    } in
    let whole = ltb-false 0 c.failed_on_purpose-is_cut.result uncut in
    let unfailed = c.has_failed.ensures.unfailed c.if-has_failed.false in
    let same = ap (λ k. MemDevGhosts.faults k.inner) c.into_inner-counted.ensures in
    never_failed start end
    (λ more. omega (arith, more, whole, c.failed_on_purpose-is_cut.ensures, unfailed, same))
    disk before (plan_of c.args.how c.args.calls.now c.args.group.now) c.session-fuse.result.1 some.0
    (MemDevGhosts.sectors last.inner.inner / 4) (MemDevGhosts.candidate last.inner.inner) refl refl
    some.1 c.session-fuse.ensures.failed c.session-fuse.ensures.group_refused

pub returns-clause-stops : goal.returns-clause-stops
returns-clause-stops c before stand =
    let given = ap (λ k. k.inner) c.new-fuse.ensures.inner ∙ c.new-counting.ensures.inner in
    let left = c.into_inner.ensures ∙ ap (λ k. k.inner) c.into_inner-counted.ensures in
    let run = (c.session-fuse.ensures.any_moment tt before
    (subst (λ d. AllStandFor before (MemDevGhosts.sectors d / 4) (MemDevGhosts.candidate d))
    (sym given) stand)).1 in
    let first = c.new-fuse.result in
    let last = c.session-fuse.result.0 in
    omega (
      arith,
      run.until,
      c.new-fuse.ensures.until (MemDevGhosts.moment first.inner.inner).at,
      ap (λ d. (MemDevGhosts.moment d).at) given,
      goes_until last.schedule (MemDevGhosts.moment last.inner.inner).at,
      ap (λ d. (MemDevGhosts.moment d).at) left,
    )
