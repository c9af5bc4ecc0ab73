-- What tells made names from one another and from those of a text.
use Rattle.std.specs.Prelude.{◌≡◌, ℕ, suc, true, false}
use Rattle.affine_ast.specs.declared.name.Name.{Name}
use Rattle.affine_ast.specs.Names.{same_name}
use Rattle.made_names.specs.Made.{made_name, made_by}

-- a made name tells the placement that it is of, and its slot there
pub record NamesAreTold : Type 0 where
  pub by : (number slot : ℕ) → made_by (made_name number slot) ≡ suc number
  pub slots : (number i j : ℕ) → same_name (made_name number i) (made_name number j) ≡ true → i ≡ j
  pub of_texts : (n : Name) → n.made ≡ false → made_by n ≡ 0
