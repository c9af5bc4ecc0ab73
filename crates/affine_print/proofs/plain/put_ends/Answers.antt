use Rattle.std.proofs.lemmas.Result.{on_ok_weaker}
use Rattle.affine_ast.specs.Spelling.{ends_text}
use Rattle.affine_print.proofs.Pieces.{three_pieces}
use Rattle.affine_print.proofs.plain.put_ends.Goals as goal

pub returns : goal.returns
unfolding ends_text
returns c = on_ok_weaker c.put_other_places.result (λ e. three_pieces _ _ _ _ _ _ _ c.in_ok-put_first_place.ensures c.in_ok-put.ensures e) c.put_other_places.ensures
