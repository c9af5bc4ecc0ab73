use Rattle.std.proofs.Common.{arith, ◌+◌, drop, sym, subst}
use Rattle.affine_ast.specs.Nest.{nest}
use Rattle.placement_stage.specs.All.{AllMayBeStaged}
use Rattle.placement_stage.proofs.Alls.{may_first, all_next, all_done}
use Rattle.placement_stage.proofs.all.stage_all.Goals as goal

pub stage_text-requires : goal.stage_text-requires
stage_text-requires c =
    let m = may_first c.args.plan.now c.loop-one.one-index c.one-item.result (nest c.loop-one.made) c.loop-one-test.true c.one-item.is c.loop-one.invariant.may in
    record { placed = m.0; constants = m.1 }

pub loop-one-preserved : goal.loop-one-preserved
loop-one-preserved c =
    let m = may_first c.args.plan.now c.loop-one.one-index c.one-item.result (nest c.loop-one.made) c.loop-one-test.true c.one-item.is c.loop-one.invariant.may in
    record {
      may = subst (λ n. AllMayBeStaged (drop (c.loop-one.one-index + 1) c.args.plan.now) n) (sym c.in_ok-made.ensures) m.2;
      same = all_next c.args.plan.now c.loop-one.one-index c.one-item.result (nest c.loop-one.made) (nest c.in_ok-made.made) _ c.loop-one-test.true c.one-item.is c.in_ok-made.ensures c.loop-one.invariant.same;
    }

pub returns : goal.returns
returns c = all_done c.args.plan.now c.loop-one.one-index (nest c.loop-one.made) _ (omega arith) c.loop-one.invariant.same
