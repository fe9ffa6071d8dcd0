use Rattle.std.proofs.Common.{◌≡◌, ◌+◌, ◌≤◌, ◌^◌, ap, sym, ◌∙◌, arith, rules, subst}
use Rattle.dbm_model.specs.KeyOrder.{rank}
use Rattle.lin_addr.specs.Shapes.{shape_of}
use Rattle.lin_addr.specs.Intervals.{PrecedesNone, IsFollowing}
use Rattle.lin_addr.proofs.Intervals.{is_last, is_following}
use Rattle.lin_addr.proofs.growth.Shape.following.Goals as goal

pub returns-in_err-next-clause-last : goal.returns-in_err-next-clause-last
returns-in_err-next-clause-last c =
    let low : c.args.self.now.level ≤ 17 = omega (arith, c.args.self.now.low_level) in
    let full : 2 ^ 32 ≤ rank c.highest.result + 1 =
    omega (arith, c.rank.ensures.rank, c.in_err-next.ensures) in
    let last : PrecedesNone (shape_of c.args.self.now) c.args.bucket =
    is_last (shape_of c.args.self.now) c.args.self.now.split_in low c.args.bucket
    c.highest.result c.highest.type_inv c.highest.ensures.there c.highest.ensures.greatest full in
    search (rules, last)

pub returns-clause-next : goal.returns-clause-next
returns-clause-next c =
    let low : c.args.self.now.level ≤ 17 = omega (arith, c.args.self.now.low_level) in
    let next_is : rank c.rank-2.result ≡ rank c.highest.result + 1 =
    c.rank-2.ensures.back ∙ c.in_ok-next.ensures.1 ∙ ap (λ x. x + 1) c.rank.ensures.rank in
    subst (λ b. IsFollowing (shape_of c.args.self.now) c.args.bucket b)
    (sym c.bucket.ensures.address)
    (is_following (shape_of c.args.self.now) c.args.self.now.split_in low c.args.bucket
    c.highest.result c.highest.type_inv c.highest.ensures.there c.highest.ensures.greatest
    c.rank-2.result c.rank-2.type_inv next_is)
