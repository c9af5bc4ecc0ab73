use Rattle.std.proofs.Common.{rules, arith, ◌≡◌, ◌∷◌}
use Rattle.std.proofs.lemmas.List.Elements.{All-rest}
use Rattle.placement_code.specs.Small.{IsWell}
use Rattle.placement_code.proofs.Lessened.{less_turn, less_over, behind_few}
use Rattle.placement_code.proofs.redirects.less_places.Goals as goal

pub loop-expr-preserved : goal.loop-expr-preserved
loop-expr-preserved c =
    let first : c.loop-expr.rest.now ≡ c.in-Some.dim.now ∷ c.in-Some.more.now = search rules in
    let few = behind_few c.loop-expr.k c.in-Some.dim.now c.loop-expr.rest.now c.in-Some.more.now first in
    record {
      same =
          less_turn c.args.exprs.now c.loop-expr.expr-index c.loop-expr.k c.behind-k.result c.expr-item.result c.in_ok-less_one.field-0 c.in-Some.dim.now c.in-Some.more.now c.loop-expr.rest.now c.loop-expr.differences
          c.push-in-loop-expr.new.self _ c.loop-expr-test.true c.expr-item.is first c.in_ok-less_one.ensures c.in_ok-push-2.ensures.ok c.behind-k.ensures c.loop-expr.invariant.same;
      well = All-rest IsWell c.in-Some.dim.now c.in-Some.more.now c.loop-expr.rest.now first c.loop-expr.invariant.well;
      within = omega (arith, few, c.loop-expr.invariant.within, c.behind-k.ensures);
    }

pub loop-expr-preserved-in_default : goal.loop-expr-preserved-in_default
loop-expr-preserved-in_default c = record {
  same =
      less_over c.args.exprs.now c.loop-expr.expr-index c.loop-expr.k c.expr-item.result c.in_ok-copy.field-0 c.loop-expr.rest.now c.loop-expr.differences
      c.push.new.self _ c.loop-expr-test.true c.expr-item.is c.in_default.ensures.cases c.in_ok-copy.ensures c.in_ok-push.ensures.ok c.loop-expr.invariant.same;
  well = c.loop-expr.invariant.well;
  within = c.loop-expr.invariant.within;
}
