use Rattle.std.proofs.Common.{rules, ◌∙◌, List, map, reverse, sym, ap}
use Rattle.sect_dev.specs.declared.mem.Write.{Write}
use Rattle.sect_dev.specs.declared.past.Event.{Event}
use Rattle.sect_dev.specs.History.{content_after}
use Rattle.sect_dev.specs.Unsynced.{event_of, before_of, unsynced_of, overwritten}
use Rattle.sect_dev.proofs.Unsynced.{none_since, none_overwritten}
use Rattle.sect_dev.proofs.mem.MemDev.at_last_sync.Goals as goal

pub invariant_of-result-clause-unsynced_are : goal.invariant_of-result-clause-unsynced_are
invariant_of-result-clause-unsynced_are c =
    ap (λ (l : List Write). reverse (map event_of l)) c.new.ensures.items
    ∙ sym (none_since c.args.self.now.past.events)
    ∙ sym (ap (λ (l : List Event). unsynced_of l) c.synced.ensures)

pub invariant_of-result-clause-before_are : goal.invariant_of-result-clause-before_are
invariant_of-result-clause-before_are c =
    ap (λ (l : List Write). reverse (map before_of l)) c.new.ensures.items
    ∙ sym (none_overwritten c.args.self.now.past.events)
    ∙ sym (ap (λ (l : List Event). overwritten l) c.synced.ensures)

pub invariant_of-result-clause-indexed : goal.invariant_of-result-clause-indexed
invariant_of-result-clause-indexed c = λ n.
    c.in_ok-undone.ensures n ∙ sym (ap (λ (l : List Event). content_after l n) c.synced.ensures)

pub returns-clause-size : goal.returns-clause-size
returns-clause-size c = search rules
