use Rattle.std.proofs.Common.{◌≡◌, ◌∙◌, ◌-◌, ℕ, ◌++◌, ◌∷◌, [], List, length, map, reverse, refl, ap, subst, take, arith, rules}
use Rattle.std.proofs.lemmas.List.{take_all, take_more}
use Rattle.sect_dev.specs.declared.mem.Write.{Write}
use Rattle.sect_dev.specs.History.{content_in}
use Rattle.sect_dev.specs.Mem.{history}
use Rattle.sect_dev.specs.Unsynced.{event_of, before_of}
use Rattle.sect_dev.proofs.Indexed.{same_entries, same_contents, content_put}
use Rattle.sect_dev.proofs.Undoing.{IsBack, one_undone, all_undone}
use Rattle.sect_dev.proofs.mem.MemDev.undone.Goals as goal

pub loop-i-init : goal.loop-i-init
loop-i-init c =
    let dev = c.args.self.now in
    let contents = c.in_ok-contents.contents in
    let counted : c.len-i.result ≡ length dev.unsynced.items = search rules in
    let whole = take_all c.len-i.result dev.unsynced.items (omega (arith, counted)) in
    let cloned = same_entries dev.newest.entries contents.entries c.in_ok-contents.ensures.cases in
    record {
      events = history dev;
      writes_are = ap (λ (l : List Write). reverse (map event_of l)) whole ∙ dev.unsynced_are;
      before_are = ap (λ (l : List Write). reverse (map before_of l)) whole ∙ dev.before_are;
      same = refl;
      contents_are = λ n. same_contents dev.newest contents cloned n ∙ dev.indexed n;
    }

pub loop-i-preserved : goal.loop-i-preserved
loop-i-preserved c =
    let dev = c.args.self.now in
    let writes = dev.unsynced.items in
    let i = c.loop-i.i - 1 in
    let write = c.index-write.result.now in
    let more : take c.loop-i.i writes ≡ take i writes ++ write ∷ [] = search (rules, take_more) in
    one_undone (take i writes) write (content_in c.loop-i.contents) (content_in c.insert.new.self)
    (history dev)
    (content_put c.loop-i.contents c.insert.new.self write.sector write.before
    c.in_ok-insert.ensures.updates)
    (subst (λ (l : List Write). IsBack l (content_in c.loop-i.contents) (history dev)) more
    c.loop-i.invariant)

pub returns : goal.returns
returns c =
    let dev = c.args.self.now in
    let none : c.loop-i.i ≡ 0 = omega (arith, c.loop-i-test.false) in
    all_undone (content_in c.loop-i.contents) (history dev)
    (subst (λ (i : ℕ). IsBack (take i dev.unsynced.items) (content_in c.loop-i.contents)
    (history dev)) none c.loop-i.invariant)
