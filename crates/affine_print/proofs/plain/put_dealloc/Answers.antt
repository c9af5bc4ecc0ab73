use Rattle.std.proofs.lemmas.Result.{on_ok_weaker}
use Rattle.affine_ast.specs.Spelling.{dealloc_text}
use Rattle.affine_print.proofs.Pieces.{two_pieces}
use Rattle.affine_print.proofs.plain.put_dealloc.Goals as goal

pub returns : goal.returns
unfolding dealloc_text
returns c = on_ok_weaker c.put_typed.result (λ e. two_pieces _ _ _ _ _ c.in_ok-put_named.ensures e) c.put_typed.ensures
