use Rattle.std.proofs.Common.{ℕ, ◌*◌, ◌+◌, ◌/◌, ◌≤◌, List, IfOk, sym, ap, subst, arith}
use Rattle.std.proofs.lemmas.Result.{IfOk-weaker}
use Rattle.sect_dev.specs.contracts.mem.MemDevSectorDev.TheImpl.{ghosts as MemDevGhosts}
use Rattle.dbm_model.specs.Sizes.{home}
use Rattle.dbm_model.specs.Members.{AllHaveRoom}
use Rattle.dbm_file.specs.declared.pair.Pair.{Pair}
use Rattle.dbm_file.specs.declared.calls.Call.{Call}
use Rattle.rehearsal.specs.Sessions.{asked_bounds, plan_of}
use Rattle.rehearsal.specs.Rehearsals.{SessionLeaves}
use Rattle.rehearsal.proofs.Lists.{after_stop, finds_or_makes_one}
use Rattle.rehearsal.proofs.Openings.{all_stand}
use Rattle.rehearsal.proofs.Reopenings.{not_early, all_allow}
use Rattle.rehearsal.proofs.rehearsing.run_stage.Goals as goal

pub returns-clause-leaves : goal.returns-clause-leaves
returns-clause-leaves c before stand =
    let dev = c.args.dev in
    let start = c.in_ok-start.start in
    let how = c.args.stage.now.how in
    let same = ap (λ (n : ℕ). n / 4) c.in_ok-start.ensures.size in
    let there = after_stop before (MemDevGhosts.sectors dev / 4) (MemDevGhosts.sectors start / 4)
    (MemDevGhosts.candidate dev) (MemDevGhosts.candidate start) (MemDevGhosts.seen start) stand
    c.in_ok-start.ensures.image c.in_ok-start.ensures.stable same in
    subst (λ (calls : List Call). IfOk c.stopped_session.result (λ r.
    SessionLeaves before (plan_of how calls c.args.stage.now.group.items) r.1.ending
    (MemDevGhosts.sectors r.0 / 4) (MemDevGhosts.candidate r.0)))
    c.as_slice-calls.ensures.value
    (subst (λ (group : List Pair). IfOk c.stopped_session.result (λ r.
    SessionLeaves before (plan_of how c.as_slice-calls.result.now group) r.1.ending
    (MemDevGhosts.sectors r.0 / 4) (MemDevGhosts.candidate r.0)))
    c.as_slice-group.ensures.value
    (c.stopped_session.ensures.leaves before there))

pub returns-clause-room : goal.returns-clause-room
returns-clause-room c before stand all =
    let dev = c.args.dev in
    let start = c.in_ok-start.start in
    let same = ap (λ (n : ℕ). n / 4) c.in_ok-start.ensures.size in
    c.stopped_session.ensures.room before
    (after_stop before (MemDevGhosts.sectors dev / 4) (MemDevGhosts.sectors start / 4)
    (MemDevGhosts.candidate dev) (MemDevGhosts.candidate start) (MemDevGhosts.seen start) stand
    c.in_ok-start.ensures.image c.in_ok-start.ensures.stable same)
    (subst (λ (n : ℕ). AllHaveRoom n before) (sym same) all)

pub returns-clause-reopens : goal.returns-clause-reopens
returns-clause-reopens c before stand all asked limited found =
    let dev = c.args.dev in
    let start = c.in_ok-start.start in
    let how = c.args.stage.now.how in
    let sectors = MemDevGhosts.sectors start in
    let candidate = MemDevGhosts.candidate start in
    let same = ap (λ (n : ℕ). n / 4) c.in_ok-start.ensures.size in
    let there = after_stop before (MemDevGhosts.sectors dev / 4) (sectors / 4)
    (MemDevGhosts.candidate dev) candidate (MemDevGhosts.seen start) stand
    c.in_ok-start.ensures.image c.in_ok-start.ensures.stable same in
    let room = subst (λ (n : ℕ). AllHaveRoom n before) (sym same) all in
    let enough = subst (λ (n : ℕ). 2 * home (asked_bounds how) ≤ n) (sym same) asked in
    c.stopped_session.ensures.opens (not_early how sectors enough)
    (all_stand before (sectors / 4) candidate there)
    (all_allow before how sectors room enough limited
    (finds_or_makes_one before
    (plan_of how c.args.stage.now.calls.items c.args.stage.now.group.items) found)
    candidate there)

pub returns-clause-spared : goal.returns-clause-spared
returns-clause-spared c before stand =
    let dev = c.args.dev in
    let start = c.in_ok-start.start in
    c.stopped_session.ensures.spared before
    (after_stop before (MemDevGhosts.sectors dev / 4) (MemDevGhosts.sectors start / 4)
    (MemDevGhosts.candidate dev) (MemDevGhosts.candidate start) (MemDevGhosts.seen start) stand
    c.in_ok-start.ensures.image c.in_ok-start.ensures.stable
    (ap (λ (n : ℕ). n / 4) c.in_ok-start.ensures.size))

pub returns-clause-stops : goal.returns-clause-stops
returns-clause-stops c before stand =
    let dev = c.args.dev in
    let start = c.in_ok-start.start in
    let there = after_stop before (MemDevGhosts.sectors dev / 4) (MemDevGhosts.sectors start / 4)
    (MemDevGhosts.candidate dev) (MemDevGhosts.candidate start) (MemDevGhosts.seen start) stand
    c.in_ok-start.ensures.image c.in_ok-start.ensures.stable
    (ap (λ (n : ℕ). n / 4) c.in_ok-start.ensures.size) in
    IfOk-weaker c.stopped_session.result
    (λ r. (MemDevGhosts.moment r.0).at
    ≤ (MemDevGhosts.moment start).at + c.args.stage.now.device_calls)
    (λ r. (MemDevGhosts.moment r.0).at
    ≤ (MemDevGhosts.moment dev).at + (c.args.stage.now.device_calls + 1))
    (λ r le. omega (arith, le, c.in_ok-start.ensures.moment))
    (c.stopped_session.ensures.stops before there)
