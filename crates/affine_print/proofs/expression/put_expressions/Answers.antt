use Rattle.std.proofs.Common.{arith}
use Rattle.affine_ast.specs.Spelling.{expression_text}
use Rattle.affine_print.specs.Places.{leaves_of}
use Rattle.affine_print.proofs.Pieces.{listed_none, listed_more}
use Rattle.affine_print.proofs.expression.put_expressions.Goals as goal

pub loop-place-init : goal.loop-place-init
loop-place-init c = listed_none (expression_text (leaves_of c.args.leaves)) c.args.out.now.items

pub loop-place-preserved : goal.loop-place-preserved
loop-place-preserved c =
    listed_more (expression_text (leaves_of c.args.leaves)) c.args.exprs.now c.loop-place.place c.index-exprs-place.result _ _ _ _ (omega arith) c.index-exprs-place.is
    c.loop-place.invariant c.in_ok-put_comma.ensures c.in_ok-put_expression.ensures
