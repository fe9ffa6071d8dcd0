use Rattle.std.proofs.Common.{inl, inr, ⊎_elim, refl}
use Rattle.dbm_fault.specs.declared.engine_fault.EngineFault.TheVariants.{Write}
use Rattle.dbm_tool.proofs.Statuses.{done_at_zero, lines_as, nothing_at_one, prints_or_stays, reads_or_stays, tells_fault, tells_misuse}
use Rattle.dbm_tool.proofs.program.tool.Goals as goal

pub returns-in-Ok-show-clause-done : goal.returns-in-Ok-show-clause-done
returns-in-Ok-show-clause-done g c zero =
    let is = c.in-Err-Help.field-0-is in
    inl (
      refl,
      λ taken. ⊎_elim (λ memory. absurd (cc))
          (λ other. ⊎_elim (λ no_plan. absurd (cc))
          (λ no_source. ⊎_elim (λ of_script. absurd (cc))
          (λ later. ⊎_elim (λ of_rehearsal. absurd (cc))
          (λ last. ⊎_elim (λ of_version. absurd (cc)) (λ rest. ⊎_elim (λ of_reading. absurd (cc))
          (λ of_limit. absurd (cc)) rest) last) later) no_source)
          other)
          (c.in-Err-Help.ensures.passes taken),
    )

pub returns-in-Err-show-clause-fault : goal.returns-in-Err-show-clause-fault
returns-in-Err-show-clause-fault g c two =
    let is = c.in-Err-Help.field-0-is in
    inr (inl record {
      met = Write;
      can_be_met = inr (
        refl,
        λ taken. ⊎_elim (λ memory. absurd (cc))
            (λ other. ⊎_elim (λ no_plan. absurd (cc))
            (λ no_source. ⊎_elim (λ of_script. absurd (cc))
            (λ later. ⊎_elim (λ of_rehearsal. absurd (cc))
            (λ last. ⊎_elim (λ of_version. absurd (cc)) (λ rest. ⊎_elim (λ of_reading. absurd (cc))
            (λ of_limit. absurd (cc)) rest) last) later)
            no_source) other)
            (c.in-Err-Help.ensures.passes taken),
      );
      lines = c.unwritten_help.ensures.line;
    })

pub returns-in-Err-show-clause-output : goal.returns-in-Err-show-clause-output
returns-in-Err-show-clause-output g c =
    let is = c.in-Err-Help.field-0-is in
    inr (inr (λ taken. ⊎_elim (λ memory. absurd (cc))
    (λ other. ⊎_elim (λ no_plan. absurd (cc))
    (λ no_source. ⊎_elim (λ of_script. absurd (cc))
    (λ later. ⊎_elim (λ of_rehearsal. absurd (cc))
    (λ last. ⊎_elim (λ of_version. absurd (cc)) (λ rest. ⊎_elim (λ of_reading. absurd (cc))
    (λ of_limit. absurd (cc)) rest) last) later) no_source)
    other)
    (c.in-Err-Help.ensures.passes taken)))

pub returns-else-is_unread-clause-done : goal.returns-else-is_unread-clause-done
returns-else-is_unread-clause-done g c zero =
    let is = done_at_zero c.carry_out-done.result _ c.ended_by.ensures.status zero in
    inr record {
      plan = c.in-Ok.request.plan;
      is_plan = c.in-Ok.ensures.plan;
      is_so = rw is at c.carry_out-done.ensures.carried;
    }

pub returns-else-is_unread-clause-nothing : goal.returns-else-is_unread-clause-nothing
returns-else-is_unread-clause-nothing g c one =
    let is = nothing_at_one c.carry_out-done.result _ c.ended_by.ensures.status one in
    record {
      plan = c.in-Ok.request.plan;
      is_plan = c.in-Ok.ensures.plan;
      is_so = (
        rw is at c.carry_out-done.ensures.ends,
        rw is at c.carry_out-done.ensures.carried,
      );
    }

pub returns-else-is_unread-clause-fault : goal.returns-else-is_unread-clause-fault
returns-else-is_unread-clause-fault g c two =
    tells_fault _ c.in-Ok.request.plan c.carry_out-done.result _ _ c.in-Ok.request.verbose
    c.args.environment.verbose _ c.known_of-known.result.line _ _ c.in-Ok.ensures.plan
    c.carry_out-done.ensures.ends c.carry_out-done.ensures.carried c.in-Ok.ensures.options.verbose
    c.known_of-known.ensures.line (lines_as c.carry_out-done.result _ _ _ _ _ _ _ _
    c.wants_more.ensures c.known_of-known.ensures.file c.ended_by.ensures.line)
    c.ended_by.ensures.status two

pub returns-else-is_unread-clause-usage : goal.returns-else-is_unread-clause-usage
returns-else-is_unread-clause-usage g c three =
    tells_misuse _ c.in-Ok.request.plan c.carry_out-done.result _ _ _ _ _ _ _ c.in-Ok.ensures.plan
    c.carry_out-done.ensures.ends c.ended_by.ensures.line c.ended_by.ensures.status three

pub returns-else-is_unread-clause-output : goal.returns-else-is_unread-clause-output
returns-else-is_unread-clause-output g c =
    prints_or_stays _ c.in-Ok.request.plan _ c.in-Ok.ensures.plan c.carry_out-done.ensures.output

pub returns-else-is_unread-clause-input : goal.returns-else-is_unread-clause-input
returns-else-is_unread-clause-input g c =
    reads_or_stays _ c.in-Ok.request.plan _ c.in-Ok.ensures.plan c.carry_out-done.ensures.input

pub returns-then-is_unread-clause-input : goal.returns-then-is_unread-clause-input
returns-then-is_unread-clause-input g c =
    reads_or_stays _ c.in-Ok.request.plan _ c.in-Ok.ensures.plan c.carry_out-done.ensures.input
