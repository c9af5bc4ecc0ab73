use Rattle.affine_print.proofs.Pieces.{numbered_none, numbered_more}
use Rattle.affine_print.proofs.access.put_parameters.Goals as goal

pub loop-number-init : goal.loop-number-init
loop-number-init c = numbered_none c.args.letter.now c.args.out.now.items

pub loop-number-preserved : goal.loop-number-preserved
loop-number-preserved c =
    numbered_more c.args.letter.now c.loop-number.number _ _ _ _ _
    c.loop-number.invariant c.in_ok-put_comma.ensures c.in_ok-put.ensures c.in_ok-put_unsigned.ensures
