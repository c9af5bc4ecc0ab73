use Rattle.std.proofs.Common.{◌≡◌, ◌++◌, take}
use Rattle.std.specs.List.{flat_map}
use Rattle.affine_ast.specs.Spelling.{size_text}
use Rattle.affine_print.proofs.types.put_sizes.Given as goal

abbrev pub invariant-loop-size : goal.invariant-loop-size
invariant-loop-size l = l.out.items ≡ l.initial.out.items ++ flat_map size_text (take l.size-index l.sizes)
