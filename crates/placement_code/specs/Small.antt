-- Numbers that templates may write, negate and take from one another.
use Rattle.std.specs.Prelude.{◌≡◌, ◌^◌, ◌≤◌, ◌<◌, ℤ, pos, ◌≤ℤ◌, true, false, List, length, All}
use Rattle.affine_ast.specs.declared.name.Name.{Name}
use Rattle.valid_laws.specs.Safe.{IsSmall}
use Rattle.placement_texts.specs.Template.{Dimension}
use Rattle.placement_code.specs.Beginnings.{has_none}

-- terms with small coefficients
abbrev pub AreSmall : List (Name × ℤ) → Type 0
AreSmall terms = All (λ (t : Name × ℤ). IsSmall t.1) terms

-- a number at which a box begins
pub record IsPlace (z : ℤ) : Type 0 where
  pub least : pos 0 ≤ℤ z
  pub most : z ≤ℤ pos (2 ^ 62)

-- a dimension whose numbers may be written, with a term for each of few values; a place that is a number lies in the memref
pub record IsWell (d : Dimension) : Type 0 where
  pub terms : AreSmall d.terms
  pub few : length d.terms < 2 ^ 31
  pub offset : IsSmall d.offset
  pub begins : has_none d.terms ≡ true → d.clamped ≡ false → pos 0 ≤ℤ d.offset

-- at most as many dimensions as a memref has
pub record AreWell (ds : List Dimension) : Type 0 where
  pub rank : length ds ≤ 6
  pub each : All IsWell ds
