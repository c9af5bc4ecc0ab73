use Rattle.std.proofs.Common.{arith}
use Rattle.affine_ast.specs.Spelling.{name_text}
use Rattle.affine_print.proofs.Pieces.{listed_none, listed_more}
use Rattle.affine_print.proofs.piece.put_names.Goals as goal

pub loop-place-init : goal.loop-place-init
loop-place-init c = listed_none name_text c.args.out.now.items

pub loop-place-preserved : goal.loop-place-preserved
loop-place-preserved c =
    listed_more name_text c.args.names.now c.loop-place.place c.index-names-place.result _ _ _ _ (omega arith) c.index-names-place.is
    c.loop-place.invariant c.in_ok-put_comma.ensures c.in_ok-put_name.ensures
