-- A module whose names are replaced by its numbering has numbered names.
use Rattle.std.proofs.Common.{◌≡◌, ℕ, List, map, ap, ◌∙◌}
use Rattle.affine_ast.specs.declared.module.Module.{Module}
use Rattle.affine_ast.specs.declared.name.Name.{Name}
use Rattle.affine_ast.specs.Nest.{nest}
use Rattle.affine_ast.specs.Validity.{IsValid}
use Rattle.placement_texts.specs.Renamed.{named}
use Rattle.numbered_names.specs.Numbers.{value_names, made_of, numbered_name, numbered_arg, IsNumbered}
use Rattle.numbered_names.proofs.Laws.{numbered_valid}
use Rattle.number_names.specs.Underscores.{most}
use Rattle.number_names.specs.Renaming.{Numbers, new_name, IsRenamedModule}
use Rattle.number_names.proofs.Places.{new_is}
use Rattle.number_names.proofs.Prefixes.{is_prefix}

module _ (m q : Module) (numbers : Numbers) (is : numbers ≡ record { made = made_of (value_names m); underscores = most (value_names m) }) (renamed : IsRenamedModule (new_name numbers) m q) where
  same : new_name numbers ≡ numbered_name (most (value_names m)) (value_names m)
  same = ap new_name is ∙ new_is (most (value_names m)) (value_names m)

  pub is_numbered : IsNumbered m q
  is_numbered = record {
    underscore_count = most (value_names m);
    prefix_is = is_prefix (value_names m);
    name = renamed.name;
    args = renamed.args ∙ ap (λ f. map (numbered_arg f) m.args) same;
    body = renamed.body ∙ ap (λ f. named f (nest m.body)) same;
  }

  pub stays_valid : IsValid m → IsValid q
  stays_valid valid = numbered_valid m q is_numbered valid
