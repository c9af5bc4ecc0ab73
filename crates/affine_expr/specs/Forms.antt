-- Linear forms, the locals that stand for the divisions in them, and their values.
use Rattle.std.specs.Prelude.{◌≡◌, ℕ, suc, ◌+◌, ℤ, pos, ◌+ℤ◌, ◌*ℤ◌, ◌<ℤ◌, List, [], ◌∷◌, ◌++◌, length}
use Rattle.affine_expr.specs.Value.{floor_div}

-- coefs . x + constant
pub record Form : Type 0 where
  pub coefs : List ℤ
  pub constant : ℤ

-- the floor of a form over a positive divisor
pub record LocalForm : Type 0 where
  pub coefs : List ℤ
  pub constant : ℤ
  pub divisor : ℤ

-- a form over the dimensions, the symbols and then these locals
pub record LinearForm : Type 0 where
  pub coefs : List ℤ
  pub constant : ℤ
  pub locals : List LocalForm

-- the sum of the products
abbrev pub dot : List ℤ → List ℤ → ℤ
dot [] ys = pos 0
dot (x ∷ xs) [] = pos 0
dot (x ∷ xs) (y ∷ ys) = x *ℤ y +ℤ dot xs ys

abbrev pub form_value : List ℤ → ℤ → List ℤ → ℤ
form_value coefs constant point = dot coefs point +ℤ constant

-- a point, and behind it each local with its floor
abbrev pub with_locals : List ℤ → List LocalForm → List ℤ
with_locals point [] = point
with_locals point (l ∷ ls) = with_locals (point ++ floor_div (form_value l.coefs l.constant point) l.divisor ∷ []) ls

-- the value of a linear form at a point of dimensions and symbols, where each local has its floor
abbrev pub linear_value : LinearForm → List ℤ → ℤ
linear_value f point = form_value f.coefs f.constant (with_locals point f.locals)

-- each local is over a positive divisor, and has a coefficient for each variable before it, so many before the first
abbrev pub AreInOrder : ℕ → List LocalForm → Type 0
AreInOrder width [] = Unit {0}
AreInOrder width (l ∷ ls) = (length l.coefs ≡ width) × (pos 0 <ℤ l.divisor) × AreInOrder (suc width) ls

-- a form over so many dimensions and symbols and all its locals
pub record IsShaped (width : ℕ) (f : LinearForm) : Type 0 where
  pub coefs : length f.coefs ≡ width + length f.locals
  pub locals : AreInOrder width f.locals
