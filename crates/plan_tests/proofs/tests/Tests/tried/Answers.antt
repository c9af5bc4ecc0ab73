use Rattle.std.proofs.Common.{◌≡◌, ◌+◌, ◌≤◌, refl, false, true, map, ap, arith}
use Rattle.placement_code.specs.Placed.{placement_of}
use Rattle.text_places.specs.Finding.{seen}
use Rattle.text_limits.specs.Sums.{are_within}
use Rattle.plan_tests.proofs.Sums.{more_statements, few_statements}
use Rattle.plan_tests.proofs.Settling.{passes_limits, is_placed}
use Rattle.plan_tests.proofs.tests.Tests.tried.Goals as goal

pub returns-then-not-are_within-clause-tried : goal.returns-then-not-are_within-clause-tried
returns-then-not-are_within-clause-tried c =
    let w : are_within c.in_ok-sums.sums ≡ false = cc in
    λ o m v13 blocks s steps x t k.
    passes_limits o m v13 blocks s steps x c.args.placed.now c.args.place c.args.round (map seen c.args.uses.now) c.limits_are_told.ensures c.placements_are_told.ensures
    c.args.self.now c.box_bytes-bytes.result c.in-Some.peak c.in_ok-sums.sums c.in-Some.ensures.peak (omega (arith, c.if-peak-self.false)) c.box_bytes-bytes.ensures c.in_ok-sums.ensures w t k

pub returns-clause-tried : goal.returns-clause-tried
returns-clause-tried c =
    let w : are_within c.in_ok-sums.sums ≡ true = cc in
    λ o m v13 blocks s steps x t k.
    is_placed o m v13 blocks s steps x c.args.placed.now c.args.place c.args.round (map seen c.args.uses.now) c.limits_are_told.ensures c.placements_are_told.ensures
    c.args.self.now _ c.box_bytes-bytes.result c.in-Some.peak c.in_ok-sums.sums c.in-Some.ensures.peak (omega (arith, c.if-peak-self.false)) c.box_bytes-bytes.ensures c.in_ok-sums.ensures w
    refl refl refl c.add.ensures t k

pub returns-clause-few : goal.returns-clause-few
returns-clause-few c =
    let w : are_within c.in_ok-sums.sums ≡ true = cc in
    let r = c.requires.few in
    let e = ap (λ t. t.statements) c.in_ok-sums.ensures in
    let more = more_statements (placement_of c.args.placed.now) c.args.round.loops c.args.round.ifs (map seen c.args.uses.now) c.args.self.now.sums c.args.self.now.number r.placements r.most in
    let few = few_statements c.in_ok-sums.sums w in
    let at_least : c.args.self.now.number + 1 ≤ c.in_ok-sums.sums.statements = omega (arith, e, more) in
    record { placements = at_least; most = omega (arith, at_least, few) }
