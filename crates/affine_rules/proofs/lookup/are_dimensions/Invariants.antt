use Rattle.std.proofs.Common.{◌≡◌, drop}
use Rattle.std.specs.List.{list_all}
use Rattle.affine_ast.specs.Rules.{is_dimension}
use Rattle.affine_rules.specs.Scoped.{scope_of}
use Rattle.affine_rules.proofs.lookup.are_dimensions.Given as goal

abbrev pub invariant-loop-name : goal.invariant-loop-name
invariant-loop-name l = list_all (is_dimension (scope_of l.names.entries)) l.used ≡ list_all (is_dimension (scope_of l.names.entries)) (drop l.name-index l.used)
