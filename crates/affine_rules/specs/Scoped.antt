-- The tables of names as what stands round a statement.
use Rattle.std.specs.Prelude.{Bool, ◌&&◌, List}
use Rattle.std.specs.List.{list_any}
use Rattle.std.specs.Map.{lookup}
use Rattle.std.specs.Option.{option_map}
use Rattle.std.specs.Str.{bytes_eq}
use mathlib.Core.Bool.{beq}
use Rattle.affine_expr.specs.Bounded.{range_at}
use Rattle.affine_ast.specs.declared.name.Name.{Name}
use Rattle.affine_ast.specs.Scope as known
use Rattle.affine_ast.specs.Scope.{Scope, Around}
use Rattle.affine_rules.specs.declared.scope.Key.{Key}
use Rattle.affine_rules.specs.declared.scope.Binding.{Binding}
use Rattle.affine_rules.specs.declared.scope.Binding.TheVariants as code
use Rattle.affine_rules.specs.declared.scope.Totals.{Totals}
use Rattle.affine_rules.specs.declared.scope.Scoped.{Scoped}

abbrev pub binding_of : Binding → known.Binding
binding_of (code.Variable i) = known.Variable (range_at i)
binding_of (code.Symbol i) = known.Symbol (range_at i)
binding_of (code.IndexConstant z) = known.IndexConstant z
binding_of (code.Data ty) = known.Data ty
binding_of (code.MemrefArgument ty) = known.MemrefArgument ty
binding_of (code.Allocation ty) = known.Allocation ty

-- whether a key is that of a name
abbrev pub is_key : Name → Key → Bool
is_key n k = bytes_eq n.text k.text.now && beq n.made k.made

-- the scope that the entries of a table stand for
unfoldable pub scope_of : List (Key × Binding) → Scope
scope_of es n = option_map binding_of (lookup (is_key n) es)

-- the names that the keys of a table are
unfoldable pub names_of : List Key → Name → Bool
names_of ks n = list_any (is_key n) ks

abbrev pub totals_of : Totals → known.Totals
totals_of t = record { memrefs = t.memrefs; indexes = t.indexes; elements = t.elements; allocated = t.allocated; tags = t.tags; statements = t.statements }

-- what stands round a statement, as the code keeps it
abbrev pub around_of : Scoped → Around
around_of s = record { scope = scope_of s.names.entries; released = names_of s.released.keys; loops = s.loops; ifs = s.ifs; totals = totals_of s.totals }
