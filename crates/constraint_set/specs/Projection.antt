-- What elimination keeps of the scaled points.
use Rattle.std.specs.Prelude.{◌≡◌, ℕ, List, map, length, ℤ, pos, ◌*ℤ◌, ◌<ℤ◌, slice_index_or}
use Rattle.constraint_set.specs.Lists.{Each}
use Rattle.constraint_set.specs.Points.{LinearSystem, PointOf}

abbrev pub scaled : ℤ → List ℤ → List ℤ
scaled t p = map (λ x. t *ℤ x) p

-- x is p, but for the places of a list, where anything may stand
pub record AgreesOutside (ks : List ℕ) (p x : List ℤ) : Type 0 where
  pub as_long : length x ≡ length p
  pub same : (i : ℕ) → Each (λ k. ¬ (i ≡ k)) ks → slice_index_or x i (pos 0) ≡ slice_index_or p i (pos 0)

-- every scaled point of a system is one of the projected system, whatever stands in the eliminated places
abbrev pub Projects : List ℕ → LinearSystem → LinearSystem → Type 0
Projects ks s projected = (p x : List ℤ) (q : ℤ) → PointOf s p q → AgreesOutside ks p x → PointOf projected x q

-- for some t > 0, with new values in the eliminated places, t times a point is one of the system
pub record LiftsTo (ks : List ℕ) (s : LinearSystem) (p : List ℤ) (q : ℤ) : Type 0 where
  pub t : ℤ
  pub raised : List ℤ
  pub positive : pos 0 <ℤ t
  pub agrees : AgreesOutside ks (scaled t p) raised
  pub point : PointOf s raised (t *ℤ q)

-- every scaled point of the projected system lifts to one of the system
abbrev pub Lifts : List ℕ → LinearSystem → LinearSystem → Type 0
Lifts ks s projected = (p : List ℤ) (q : ℤ) → PointOf projected p q → LiftsTo ks s p q
