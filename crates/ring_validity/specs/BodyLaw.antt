-- What is proved of the body of a loop with rings.
use Rattle.std.specs.Prelude.{◌≡◌, ℕ, ◌≤◌, ℤ, pos, ◌<ℤ◌, Bool, true, List}
use Rattle.affine_ast.specs.declared.name.Name.{Name}
use Rattle.affine_ast.specs.declared.types.Bound.{Bound}
use Rattle.affine_ast.specs.Names.{put}
use Rattle.affine_ast.specs.Nest.{Nest}
use Rattle.affine_ast.specs.Rules.{is_new}
use Rattle.affine_ast.specs.Scope.{Scope}
use Rattle.placement_texts.specs.Template.{Placement}
use Rattle.ring_plans.specs.Rings.{all_in_ring, bodies}
use Rattle.ring_validity.specs.Bodies.{HoldsTemplate, IsRing, Beside}
use Rattle.ring_validity.specs.Openings.{BoundWell, CanHaveRings, HoldsTemplates, rings_scope}
use Rattle.ring_validity.specs.Wells.{a_number, WellFormed}

-- where the ring, its tags and the template's constants stand round the loop, the body with the ring is well-formed if the single one is
abbrev pub BodyStaysWell : Type 0
BodyStaysWell = (buffers : ℕ) (v : Name) (lower upper : Bound) (step : ℤ) (p : Placement) (known : Scope) → IsRing buffers v lower upper step p known
    → (n : Nest) (s t : Scope) (d e : Name → Bool) → HoldsTemplate p known n → WellFormed n s d → Beside buffers v lower upper step p known s t d e
    → WellFormed (all_in_ring buffers v lower upper step p n) t e

-- so is the body with a ring for each of several placements, that have their names for themselves
abbrev pub BodiesStayWell : Type 0
BodiesStayWell = (buffers : ℕ) (v : Name) (lower upper : Bound) (step : ℤ) (ps : List Placement) (n : Nest) (s : Scope) (d : Name → Bool) → 1 ≤ buffers → pos 0 <ℤ step
    → BoundWell s lower → is_new s v ≡ true → CanHaveRings s d v ps → HoldsTemplates ps n → WellFormed n (put s v a_number) d
    → WellFormed (bodies buffers v lower upper step ps n) (put (rings_scope buffers v lower upper step ps s) v a_number) d
