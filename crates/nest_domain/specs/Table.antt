-- The table of forms, as the form that it has for each name.
use Rattle.std.specs.Prelude.{List, Option, Some, None}
use Rattle.std.specs.Map.{lookup}
use Rattle.affine_expr.specs.Forms.{Form}
use Rattle.affine_ast.specs.declared.name.Name.{Name}
use Rattle.affine_rules.specs.declared.scope.Key.{Key}
use Rattle.affine_rules.specs.Scoped.{is_key}

abbrev pub form_or_none : Option (Option Form) → Option Form
form_or_none (Some o) = o
form_or_none None = None

-- the form of each name, and none of one that isn't in the table
unfoldable pub forms_of : List (Key × Option Form) → Name → Option Form
forms_of es n = form_or_none (lookup (is_key n) es)
