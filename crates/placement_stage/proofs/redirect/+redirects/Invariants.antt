use Rattle.std.proofs.Common.{◌≡◌, drop}
use Rattle.affine_ast.specs.Nest.{nest, followed_by}
use Rattle.module_work.proofs.Weights.{weight_of, weight_of_all}
use Rattle.placement_texts.specs.Mapped.{mapped}
use Rattle.placement_texts.specs.Template.{redirect}
use Rattle.placement_code.specs.Placed.{placement_of}
use Rattle.placement_stage.specs.Stages.{IsSmallText}
use Rattle.placement_stage.proofs.redirect.+redirects.Given as goal

abbrev pub invariant-redirected_all-loop-stmt : goal.invariant-redirected_all-loop-stmt
invariant-redirected_all-loop-stmt l = record {
  same : mapped (redirect (placement_of l.placed)) (nest l.fn.stmts) ≡ followed_by (nest l.made) (mapped (redirect (placement_of l.placed)) (nest (drop l.stmt-index l.fn.stmts)));
  small : IsSmallText (nest (drop l.stmt-index l.fn.stmts));
}

abbrev pub decreases-redirected : goal.decreases-redirected
decreases-redirected l = weight_of l.stmt.now

abbrev pub decreases-redirected_all : goal.decreases-redirected_all
decreases-redirected_all l = weight_of_all l.stmts.now
