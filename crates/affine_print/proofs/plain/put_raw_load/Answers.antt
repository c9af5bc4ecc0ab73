use Rattle.std.proofs.lemmas.Result.{on_ok_weaker}
use Rattle.affine_ast.specs.Spelling.{raw_load_text}
use Rattle.affine_print.proofs.Pieces.{three_pieces}
use Rattle.affine_print.proofs.plain.put_raw_load.Goals as goal

pub returns : goal.returns
unfolding raw_load_text
returns c = on_ok_weaker c.put_typed.result (λ e. three_pieces _ _ _ _ _ _ _ c.in_ok-put_defined.ensures c.in_ok-put_raw_place.ensures e) c.put_typed.ensures
