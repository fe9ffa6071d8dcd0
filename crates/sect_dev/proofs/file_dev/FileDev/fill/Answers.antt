use Rattle.std.proofs.Common.{rules, ℕ, ◌≡◌, ◌≤◌, ◌+◌, ◌-◌, ◌∙◌, [], Ok, length, take, refl, arith, ap}
use Rattle.std.proofs.lemmas.List.{places}
use borrow.Rule.Slice.PartMut.{put_mid}
use Rattle.sect_dev.proofs.Filling.{at_early, more_filled, rest_filled}
use Rattle.sect_dev.proofs.Results.{at_ok}
use Rattle.sect_dev.specs.File.{file_history, Gave}
use Rattle.sect_dev.specs.FileHistory.{byte_of}
use Rattle.sect_dev.proofs.file_dev.FileDev.fill.Goals as goal
use Rattle.sect_dev.proofs.file_dev.FileDev.fill.Goals.{in-Ok, in-Err}

pub returns-then-filled-out : goal.returns-then-filled-out
returns-then-filled-out c honest j inside =
    c.loop.invariant.same honest j (omega (arith, inside, c.if-filled-out.true))

pub overflow_add-filled : goal.overflow_add-filled
overflow_add-filled c =
    let size : length c.pread.new.out ≡ length c.loop.out - c.loop.filled = search (rules, places) in
    omega (
      arith,
      c.in-Ok.ensures.bound,
      size,
      c.loop.invariant.long,
      c.if-filled-out.false,
      c.requires,
    )

pub returns-in-Ok-eq0 : goal.returns-in-Ok-eq0
returns-in-Ok-eq0 c honest j inside =
    let dev = c.args.self.now in
    let inv = c.loop.invariant in
    let content = λ (j : ℕ). byte_of ((file_history dev).seen dev.changes) (c.args.at + j) in
    let filled = c.loop.filled in
    let size : length c.pread.new.out ≡ length c.loop.out - filled = search (rules, places) in
    let at = c.args.at + filled in
    let within : filled ≤ length c.loop.out = omega (arith, c.if-filled-out.false) in
    let mid = put_mid filled (length c.loop.out - filled) c.loop.out c.pread.new.out in
    let same : length mid ≡ length c.loop.out = search (rules, places) in
    let last : length c.fill.new.self ≡ length mid - filled = search (rules, places) in
    let whole : length (put_mid filled (length mid - filled) mid c.fill.new.self) ≡ length mid =
    search (rules, places) in
    let gave : Gave dev at [] = at_ok c.pread.result
    (λ (k : ℕ). Gave dev at (take k c.pread.new.out)) 0
    (c.in-Ok-eq0.is ∙ ap Ok c.in-Ok-eq0.field-0-test) c.pread.ensures.gave in
    rest_filled (length mid) filled mid c.fill.new.self content refl (omega (arith, within, same))
    last
    (at_early (length c.loop.out) filled c.loop.out c.pread.new.out content refl within size
    (inv.same honest))
    (λ j inside. search (rules, places))
    (λ j late. (honest.kept.reads dev.changes at [] (gave honest.recorded)).ended refl
    (c.args.at + j) (omega (arith, late)))
    j (omega (arith, inside, whole))

pub loop-preserved : goal.loop-preserved
loop-preserved c =
    let dev = c.args.self.now in
    let inv = c.loop.invariant in
    let content = λ (j : ℕ). byte_of ((file_history dev).seen dev.changes) (c.args.at + j) in
    let filled = c.loop.filled in
    let size : length c.pread.new.out ≡ length c.loop.out - filled = search (rules, places) in
    let within : filled ≤ length c.loop.out = omega (arith, c.if-filled-out.false) in
    let whole : length (put_mid filled (length c.loop.out - filled) c.loop.out c.pread.new.out)
    ≡ length c.loop.out = search (rules, places) in
    elim c.match-pread.branch [
      | in-Ok w ↦ let part = take w.in-Ok.more c.pread.new.out in
          let most : w.in-Ok.more ≤ length c.pread.new.out = w.in-Ok.ensures.bound in
          record {
            long = whole ∙ inv.long;
            within = omega (arith, w.filled-is, most, size, within, inv.long);
            same = λ honest j inside. more_filled (length c.loop.out) filled c.loop.out
                c.pread.new.out content refl within size (inv.same honest) w.in-Ok.more most
                (λ i given.
                let place : c.args.at + (filled + i) ≡ c.args.at + filled + i = omega arith in
                ap (byte_of ((file_history dev).seen dev.changes)) place
                ∙ (honest.kept.reads dev.changes (c.args.at + filled) part
                (w.in-Ok.ensures.gave honest.recorded)).each i given)
                j (omega (arith, inside, w.filled-is));
          }
      | in-Err w ↦ record {
        long = whole ∙ inv.long;
        within = omega (arith, w.filled-is, within, inv.long);
        same = λ honest j inside. at_early (length c.loop.out) filled c.loop.out c.pread.new.out
            content refl within size (inv.same honest) j (omega (arith, inside, w.filled-is));
      }
    ]
