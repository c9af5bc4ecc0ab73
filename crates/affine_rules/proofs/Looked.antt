-- What a look-up finds, as what stands in the scope.
use Rattle.std.proofs.Common.{◌≡◌, Bor, ap, ◌∙◌}
use Rattle.std.specs.Prelude.{Option, Some, None, is_some, option_copied}
use Rattle.std.specs.Option.{option_map}
use Rattle.affine_ast.specs.Scope as known
use Rattle.affine_rules.specs.declared.scope.Binding.{Binding}
use Rattle.affine_rules.specs.Scoped.{binding_of}

pub found_some : (o : Option (Bor Binding)) (s : Option known.Binding) → option_map binding_of (option_copied o) ≡ s → is_some o ≡ is_some s
found_some None s h = ap is_some h
found_some (Some b) s h = ap is_some h

-- what is asked of an entry is asked of what stands in the scope
pub found_at : {Y : Type 0} (f : Option known.Binding → Y) (o : Option (Bor Binding)) (s : Option known.Binding) (y : Y) → option_map binding_of (option_copied o) ≡ s → y ≡ f (option_map binding_of (option_copied o)) → y ≡ f s
found_at f o s y h e = e ∙ ap f h
