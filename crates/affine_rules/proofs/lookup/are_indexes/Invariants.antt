use Rattle.std.proofs.Common.{◌≡◌, drop}
use Rattle.std.specs.List.{list_all}
use Rattle.affine_ast.specs.declared.types.Scalar.TheVariants.{Index}
use Rattle.affine_ast.specs.Rules.{is_of}
use Rattle.affine_rules.specs.Scoped.{scope_of}
use Rattle.affine_rules.proofs.lookup.are_indexes.Given as goal

abbrev pub invariant-loop-name : goal.invariant-loop-name
invariant-loop-name l = list_all (λ n. is_of (scope_of l.names.entries) n Index) l.used ≡ list_all (λ n. is_of (scope_of l.names.entries) n Index) (drop l.name-index l.used)
