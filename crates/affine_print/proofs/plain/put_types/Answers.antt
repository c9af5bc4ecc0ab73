use Rattle.std.proofs.Common.{arith}
use Rattle.affine_ast.specs.Spelling.{memref_text}
use Rattle.affine_print.proofs.Pieces.{listed_none, listed_more}
use Rattle.affine_print.proofs.plain.put_types.Goals as goal

pub loop-place-init : goal.loop-place-init
loop-place-init c = listed_none memref_text c.args.out.now.items

pub loop-place-preserved : goal.loop-place-preserved
loop-place-preserved c =
    listed_more memref_text c.args.types.now c.loop-place.place c.index-types-place.result _ _ _ _ (omega arith) c.index-types-place.is
    c.loop-place.invariant c.in_ok-put_comma.ensures c.in_ok-put_memref.ensures
