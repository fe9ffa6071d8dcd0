use Rattle.std.proofs.Common.{Vec, Option, Some, None, IfSome, IfNone, true, false, ◌≡◌, ◌⊎◌, ℕ, ◌+◌, ◌*◌, ◌≤◌, ◌<◌, List, length, get_or, set, replicate, inl, inr, ⊎_elim, sym, ap, subst, ◌∙◌, arith}
use Rattle.std.proofs.lemmas.List.{get_or-replicate, length-set}
use Rattle.sect_dev.specs.Device.{Image, MoreFaults}
use Rattle.page_io.proofs.Exits.{more_later}
use Rattle.dbm_salvage.specs.Images.{place, AreOnDevice, IsImageFor, AreLaid}
use Rattle.dbm_salvage.proofs.LaidImages.{none_laid, one_laid, none_more, laid_at, still_on, own_place}
use Rattle.dbm_salvage.proofs.LookRuns.{looks_then, looks_none}
use Rattle.dbm_salvage.proofs.images.Images.of.Goals as goal
use Rattle.dbm_salvage.proofs.images.Images.of.Goals.{in-Some, in-None}

some_at : {T : Type 0} (P : T → Type 0) (r : Option T) (x : T) → r ≡ Some x → IfSome r P → P x
some_at P (Some y) x is p = subst P (cc) p
some_at P None x is p = cc

none_at : {T : Type 0} (P : Type 0) (r : Option T) → r ≡ None → IfNone r P → P
none_at P (Some y) is p = cc
none_at P None is p = p

pub loop-i-preserved : goal.loop-i-preserved
loop-i-preserved g c =
    let dev = g.D.SectorDev in
    let first = c.args.dev.now in
    let so_far = c.loop-i.invariant in
    let told = c.page_of_image.ensures in
    let looks = looks_then dev _ _ _ so_far.looks told.looks in
    elim c.match-page_of_image.branch [
      | in-Some w ↦
          let own = w.in-Some.own in
          let at = c.args.start + c.loop-i.i in
          let within = some_at _ c.page_of_image.result own w.in-Some.is told.within in
          let items : c.match-page_of_image.places.items ≡ set c.loop-i.places.items own at =
          ap (λ (v : Vec ℕ _). v.items) w.places-is in
          let below : own < length c.loop-i.places.items =
          omega (arith, within.1, so_far.long) in
          let some : 1 ≤ at = omega (arith, within, c.requires.behind) in
          record {
            looks = looks;
            long = ap length items ∙ length-set _ own at ∙ so_far.long;
            few = omega (arith, w.lost-is, so_far.few);
            within = subst (λ (places : List ℕ). AreOnDevice places c.args.pages
                (dev.sectors first)) (sym items)
                (still_on c.loop-i.places.items c.args.pages (dev.sectors first) own at
                so_far.within below some
                (omega (arith, c.requires.fits, c.loop-i-test.true, c.loop-i.auto.i-end)));
            laid = λ honest.
                let seen = (so_far.looks.only_reads honest).seen in
                let is = subst (λ (image : Image). IsImageFor image c.args.pages at own) seen
                (some_at _ c.page_of_image.result own w.in-Some.is
                (told.some (so_far.looks.honesty.1 honest))) in
                let all = one_laid (dev.seen first) c.args.pages c.args.start c.loop-i.i
                (MoreFaults (dev.faults first) (dev.faults c.loop-i.dev))
                (MoreFaults (dev.faults first) (dev.faults c.page_of_image.new.dev))
                (λ before. omega (arith, before, told.looks.later)) c.loop-i.places.items
                c.loop-i.lost (so_far.laid honest) own (set c.loop-i.places.items own at)
                c.requires.behind is (laid_at c.loop-i.places.items own at below some) in
                subst (λ (lost : ℕ). AreLaid (dev.seen first) c.args.pages c.args.start
                (c.loop-i.i + 1)
                (MoreFaults (dev.faults first) (dev.faults c.page_of_image.new.dev))
                c.match-page_of_image.places.items lost) (sym w.lost-is)
                (subst (λ (places : List ℕ). AreLaid (dev.seen first) c.args.pages c.args.start
                (c.loop-i.i + 1)
                (MoreFaults (dev.faults first) (dev.faults c.page_of_image.new.dev)) places
                c.loop-i.lost) (sym items) all);
          }
      | in-None w ↦
          let items : c.match-page_of_image.places.items ≡ c.loop-i.places.items =
          ap (λ (v : Vec ℕ _). v.items) w.places-is in
          record {
            looks = looks;
            long = ap length items ∙ so_far.long;
            few = omega (arith, w.lost-is, so_far.few);
            within = subst (λ (places : List ℕ). AreOnDevice places c.args.pages
                (dev.sectors first)) (sym items) so_far.within;
            laid = λ honest.
                let seen = (so_far.looks.only_reads honest).seen in
                let none = none_at _ c.page_of_image.result w.in-None.is
                (told.none (so_far.looks.honesty.1 honest)) in
                let all = none_more (dev.seen first) c.args.pages c.args.start c.loop-i.i
                (MoreFaults (dev.faults first) (dev.faults c.loop-i.dev))
                (MoreFaults (dev.faults first) (dev.faults c.page_of_image.new.dev))
                (λ before. omega (arith, before, told.looks.later)) c.loop-i.places.items
                c.loop-i.lost (so_far.laid honest)
                (⊎_elim (λ failed. inl (more_later _ _ _ so_far.looks.later failed))
                (λ nothing. inr (λ n is. nothing n (subst (λ (image : Image).
                IsImageFor image c.args.pages (c.args.start + c.loop-i.i) n) (sym seen) is)))
                none) in
                subst (λ (lost : ℕ). AreLaid (dev.seen first) c.args.pages c.args.start
                (c.loop-i.i + 1)
                (MoreFaults (dev.faults first) (dev.faults c.page_of_image.new.dev))
                c.match-page_of_image.places.items lost) (sym w.lost-is)
                (subst (λ (places : List ℕ). AreLaid (dev.seen first) c.args.pages c.args.start
                (c.loop-i.i + 1)
                (MoreFaults (dev.faults first) (dev.faults c.page_of_image.new.dev)) places
                (c.loop-i.lost + 1)) (sym items) all);
          }
    ]

pub returns-clause-laid : goal.returns-clause-laid
returns-clause-laid g c honest =
    subst (λ (n : ℕ). AreLaid (g.D.SectorDev.seen c.args.dev.now) c.args.pages c.args.start n
    (MoreFaults (g.D.SectorDev.faults c.args.dev.now) (g.D.SectorDev.faults c.loop-i.dev))
    c.loop-i.places.items c.loop-i.lost) (omega (arith, c.loop-i-test.false, c.loop-i.auto.i-end))
    (c.loop-i.invariant.laid honest)
