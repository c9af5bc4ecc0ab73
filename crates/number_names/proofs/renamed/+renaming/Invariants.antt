use Rattle.std.proofs.Common.{◌≡◌, drop}
use Rattle.affine_ast.specs.Nest.{nest, followed_by}
use Rattle.placement_texts.specs.Renamed.{named}
use Rattle.number_names.specs.Renaming.{new_name}
use Rattle.number_names.proofs.renamed.+renaming.Given as goal

abbrev pub invariant-renamed_all-loop-stmt : goal.invariant-renamed_all-loop-stmt
invariant-renamed_all-loop-stmt l = named (new_name l.numbering) (nest l.fn.stmts) ≡ followed_by (nest l.made) (named (new_name l.numbering) (nest (drop l.stmt-index l.fn.stmts)))
