use Rattle.std.proofs.Common.{◌∙◌, sym, ap}
use Rattle.affine_expr.specs.Bounded.{range_at}
use Rattle.affine_ast.specs.Names.{put}
use Rattle.module_work.specs.declared.ranges.Before.{Before}
use Rattle.module_work.specs.Table.{ranges_of}
use Rattle.module_work.proofs.Tables.{back_one}
use Rattle.module_work.proofs.ranges.restore.Goals as goal

pub loop-name-preserved : goal.loop-name-preserved
loop-name-preserved c =
    back_one c.pop.new.self.items c.loop-name.before.items c.in-Some.field-0 (ranges_of c.loop-name.ranges.entries) (ranges_of c.set.new.ranges.entries) _ c.in-Some.ensures.items
    (c.in_ok-set.ensures ∙ ap (λ (b : Before). put (ranges_of c.loop-name.ranges.entries) b.name.now (range_at b.interval)) (sym c.in-Some.field-0-is)) c.loop-name.invariant
