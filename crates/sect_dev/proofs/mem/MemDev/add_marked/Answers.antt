use Rattle.std.proofs.Common.{List, ◌≡◌, ◌∙◌, ◌<◌, ◌++◌, ◌+◌, refl, sym, ap, [], ◌∷◌, length, map, take, get_or, cond, false, arith, rules}
use Rattle.std.proofs.lemmas.List.{take_more, length-map, get_or-map}
use Rattle.sect_dev.specs.declared.mem.MemDev.{MemDev}
use Rattle.sect_dev.specs.declared.mem.Write.{Write}
use Rattle.sect_dev.specs.declared.past.Event.{Event}
use Rattle.sect_dev.specs.declared.past.Event.TheVariants.{Wrote}
use Rattle.sect_dev.specs.Mem.{history}
use Rattle.sect_dev.specs.Unsynced.{event_of}
use Rattle.sect_dev.proofs.Pending.{first, next}
use Rattle.sect_dev.proofs.mem.MemDev.add_marked.Goals as goal
use Rattle.sect_dev.proofs.mem.MemDev.add_marked.Goals.{then-is_marked+in_ok-add, else-is_marked}

pub loop-i-init : goal.loop-i-init
loop-i-init c = record {
  kept_so_far = first (map event_of c.args.writes.now) (history c.args.self.now)
      (c.requires ∙ sym (length-map c.args.writes.now event_of)) c.args.keep.now;
  most = omega arith;
  rest = record { capacity = refl; faults = refl };
}

pub loop-i-preserved : goal.loop-i-preserved
loop-i-preserved c =
    let writes = c.args.writes.now in
    let i = c.loop-i.i in
    let no_write : Write = record { sector = 0; bytes = []; before = [] } in
    let write = get_or writes i no_write in
    let event = event_of write in
    let old = history c.loop-i.self in
    let size = length-map writes event_of in
    let within : i < length (map event_of writes) = omega (arith, c.loop-i-test.true, size) in
    let taken : take (i + 1) (map event_of writes) ≡ take i (map event_of writes) ++ event ∷ [] =
    take_more (map event_of writes) i (Wrote 0 []) within
    ∙ ap (λ (e : Event). take i (map event_of writes) ++ e ∷ [])
    (get_or-map event_of writes i no_write (Wrote 0 []) c.loop-i-test.true) in
    let marked = get_or c.args.keep.now i false in
    let step = λ (added : history c.if-is_marked.self ≡ cond marked (event ∷ old) old).
    next (map event_of writes) (history c.args.self.now) (c.requires ∙ sym size) old
    (history c.if-is_marked.self) c.args.keep.now i event within taken added
    c.loop-i.invariant.kept_so_far in
    elim c.if-is_marked.branch [
      | then-is_marked+in_ok-add w ↦ record {
        kept_so_far = step (ap history w.self-is ∙ w.in_ok-add.ensures.ok
            ∙ ap (λ b. cond b (event ∷ old) old) w.if-is_marked.ensures);
        most = omega (
          arith,
          c.loop-i.invariant.most,
          ap (λ (events : List Event). length events)
              (ap history w.self-is ∙ w.in_ok-add.ensures.ok),
        );
        rest = search rules;
      }
      | else-is_marked w ↦ record {
        kept_so_far = step (ap history w.self-is
            ∙ ap (λ b. cond b (event ∷ old) old) w.if-is_marked.ensures);
        most = omega (
          arith,
          c.loop-i.invariant.most,
          ap (λ (dev : MemDev). length (history dev)) w.self-is,
        );
        rest = search rules;
      }
    ]
