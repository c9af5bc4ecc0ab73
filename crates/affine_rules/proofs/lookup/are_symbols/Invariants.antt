use Rattle.std.proofs.Common.{◌≡◌, drop}
use Rattle.std.specs.List.{list_all}
use Rattle.affine_ast.specs.Rules.{is_symbol}
use Rattle.affine_rules.specs.Scoped.{scope_of}
use Rattle.affine_rules.proofs.lookup.are_symbols.Given as goal

abbrev pub invariant-loop-name : goal.invariant-loop-name
invariant-loop-name l = list_all (is_symbol (scope_of l.names.entries)) l.used ≡ list_all (is_symbol (scope_of l.names.entries)) (drop l.name-index l.used)
