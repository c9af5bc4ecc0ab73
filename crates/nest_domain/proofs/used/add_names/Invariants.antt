use Rattle.std.proofs.Common.{◌≡◌, drop}
use Rattle.std.specs.Prelude.{◌||◌}
use Rattle.affine_ast.specs.declared.name.Name.{Name}
use Rattle.affine_rules.specs.Scoped.{names_of}
use Rattle.nest_domain.specs.Ways.{has_name}
use Rattle.nest_domain.proofs.used.add_names.Given as goal

abbrev pub invariant-loop-name : goal.invariant-loop-name
invariant-loop-name l = (m : Name) → (has_name m l.names || names_of l.initial.used.keys m) ≡ (has_name m (drop l.name-index l.names) || names_of l.used.keys m)
