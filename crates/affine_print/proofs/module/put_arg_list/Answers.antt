use Rattle.std.proofs.Common.{arith}
use Rattle.affine_ast.specs.Spelling.{arg_text}
use Rattle.affine_print.proofs.Pieces.{listed_none, listed_more}
use Rattle.affine_print.proofs.module.put_arg_list.Goals as goal

pub loop-place-init : goal.loop-place-init
loop-place-init c = listed_none arg_text c.args.out.now.items

pub loop-place-preserved : goal.loop-place-preserved
loop-place-preserved c =
    listed_more arg_text c.args.args.now c.loop-place.place c.index-args-place.result _ _ _ _ (omega arith) c.index-args-place.is
    c.loop-place.invariant c.in_ok-put_comma.ensures c.in_ok-put_arg.ensures
