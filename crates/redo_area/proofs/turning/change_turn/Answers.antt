use Rattle.redo_area.proofs.Turns.{one_image, one_leaves, two_image, two_leave, three_image, three_leave}
use Rattle.redo_area.proofs.turning.change_turn.Goals as goal

pub returns-in_err-read-clause-any_moment : goal.returns-in_err-read-clause-any_moment
returns-in_err-read-clause-any_moment g c honest =
    one_leaves g.D.SectorDev c.args.dev.now
    (λ image left. g.met.D.SectorDev.only_now c.args.dev.now image honest left) c.read.new.self
    (c.read.ensures.candidates honest) (c.read.ensures.time honest)

pub returns-in_err-read-clause-images : goal.returns-in_err-read-clause-images
returns-in_err-read-clause-images g c honest =
    one_image g.D.SectorDev c.args.dev.now
    (λ image left. g.met.D.SectorDev.only_now c.args.dev.now image honest left) c.read.new.self
    (c.read.ensures.candidates honest)

pub returns-then-eq-clause-any_moment : goal.returns-then-eq-clause-any_moment
returns-then-eq-clause-any_moment g c honest =
    one_leaves g.D.SectorDev c.args.dev.now
    (λ image left. g.met.D.SectorDev.only_now c.args.dev.now image honest left) c.read.new.self
    (c.read.ensures.candidates honest) (c.read.ensures.time honest)

pub returns-then-eq-clause-images : goal.returns-then-eq-clause-images
returns-then-eq-clause-images g c honest =
    one_image g.D.SectorDev c.args.dev.now
    (λ image left. g.met.D.SectorDev.only_now c.args.dev.now image honest left) c.read.new.self
    (c.read.ensures.candidates honest)

pub returns-in_err-read-2-clause-any_moment : goal.returns-in_err-read-2-clause-any_moment
returns-in_err-read-2-clause-any_moment g c honest =
    let h1 = c.read.ensures.honesty.1 honest in
    two_leave g.D.SectorDev c.args.dev.now
    (λ image left. g.met.D.SectorDev.only_now c.args.dev.now image honest left) c.read.new.self
    (c.read.ensures.candidates honest) c.read-2.new.self (c.read-2.ensures.candidates h1)
    (one_leaves g.D.SectorDev c.args.dev.now
    (λ image left. g.met.D.SectorDev.only_now c.args.dev.now image honest left) c.read.new.self
    (c.read.ensures.candidates honest) (c.read.ensures.time honest)) (c.read-2.ensures.time h1)

pub returns-in_err-read-2-clause-images : goal.returns-in_err-read-2-clause-images
returns-in_err-read-2-clause-images g c honest =
    let h1 = c.read.ensures.honesty.1 honest in
    two_image g.D.SectorDev c.args.dev.now
    (λ image left. g.met.D.SectorDev.only_now c.args.dev.now image honest left) c.read.new.self
    (c.read.ensures.candidates honest) c.read-2.new.self (c.read-2.ensures.candidates h1)

pub returns-clause-any_moment : goal.returns-clause-any_moment
returns-clause-any_moment g c honest =
    let h1 = c.read.ensures.honesty.1 honest in
    let h2 = c.read-2.ensures.honesty.1 h1 in
    three_leave g.D.SectorDev c.args.dev.now
    (λ image left. g.met.D.SectorDev.only_now c.args.dev.now image honest left) c.read.new.self
    (c.read.ensures.candidates honest) c.read-2.new.self (c.read-2.ensures.candidates h1)
    c.write.new.self _ (g.met.D.SectorDev.seen_may_stay c.args.dev.now honest)
    (c.write.ensures.candidates h2)
    (two_leave g.D.SectorDev c.args.dev.now
    (λ image left. g.met.D.SectorDev.only_now c.args.dev.now image honest left) c.read.new.self
    (c.read.ensures.candidates honest) c.read-2.new.self (c.read-2.ensures.candidates h1)
    (one_leaves g.D.SectorDev c.args.dev.now
    (λ image left. g.met.D.SectorDev.only_now c.args.dev.now image honest left) c.read.new.self
    (c.read.ensures.candidates honest) (c.read.ensures.time honest)) (c.read-2.ensures.time h1))
    (c.write.ensures.time h2)

pub returns-clause-images : goal.returns-clause-images
returns-clause-images g c honest =
    let h1 = c.read.ensures.honesty.1 honest in
    let h2 = c.read-2.ensures.honesty.1 h1 in
    three_image g.D.SectorDev c.args.dev.now
    (λ image left. g.met.D.SectorDev.only_now c.args.dev.now image honest left) c.read.new.self
    (c.read.ensures.candidates honest) c.read-2.new.self (c.read-2.ensures.candidates h1)
    c.write.new.self _ (g.met.D.SectorDev.seen_may_stay c.args.dev.now honest)
    (c.write.ensures.candidates h2)
