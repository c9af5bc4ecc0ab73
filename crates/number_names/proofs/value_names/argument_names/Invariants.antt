use Rattle.std.proofs.Common.{◌≡◌, map, take}
use Rattle.affine_ast.specs.declared.module.Arg.{Arg}
use Rattle.number_names.proofs.value_names.argument_names.Given as goal

abbrev pub invariant-loop-arg : goal.invariant-loop-arg
invariant-loop-arg l = l.names ≡ map (λ (arg : Arg). arg.name) (take l.arg-index l.args)
