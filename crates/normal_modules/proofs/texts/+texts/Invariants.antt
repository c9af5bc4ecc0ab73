use Rattle.std.proofs.Common.{◌≡◌, drop}
use Rattle.affine_ast.specs.Nest.{nest, followed_by}
use Rattle.module_work.proofs.Weights.{weight_of, weight_of_all}
use Rattle.placement_texts.specs.Mapped.{mapped}
use Rattle.normal_texts.specs.Texts.{normal_plain}
use Rattle.normal_modules.proofs.texts.+texts.Given as goal

abbrev pub invariant-normal_all-loop-stmt : goal.invariant-normal_all-loop-stmt
invariant-normal_all-loop-stmt l = mapped normal_plain (nest l.fn.stmts) ≡ followed_by (nest l.made) (mapped normal_plain (nest (drop l.stmt-index l.fn.stmts)))

abbrev pub decreases-normal_what : goal.decreases-normal_what
decreases-normal_what l = weight_of l.stmt.now

abbrev pub decreases-normal_all : goal.decreases-normal_all
decreases-normal_all l = weight_of_all l.stmts.now
