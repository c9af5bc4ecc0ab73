-- The rules of validity that ask nothing of intervals, sizes and the length of a text: V1, V2, V4 to V8 and V10. They ask of a name in
-- scope what it stands for, but not its interval; so what they ask hangs on the kinds of the names in scope and on what is released.
use Rattle.std.specs.Prelude.{◌≡◌, ℕ, ℤ, pos, Bool, true, false, ◌&&◌, List, Option, Some, None}
use Rattle.affine_expr.specs.declared.map.Set.{Set}
use Rattle.affine_expr.specs.Spread.{only}
use Rattle.affine_ast.specs.declared.name.Name.{Name}
use Rattle.affine_ast.specs.declared.types.Bound.{Bound}
use Rattle.affine_ast.specs.Names.{put}
use Rattle.affine_ast.specs.Nest.{Plain, Nest, Nothing, Loop, Branch, Does}
use Rattle.affine_ast.specs.Parts.{Effect, NewIndex, NewConstant, NewData, NewMemref, Released, Unchanged, effect_of}
use Rattle.affine_ast.specs.Rules.{bound_in, are_in, uses_in_scope, is_new, defines_new, bound_stands, operands_stand, uses_stand, types_agree, constant_in_range, bound_fits, set_fits, counts_fit, bound_pure, step_positive, set_pure, maps_pure, spaces_agree}
use Rattle.affine_ast.specs.Scope.{Binding, Variable, Data, Allocation, Scope, Around, binding_of_constant}
use Rattle.affine_ast.specs.Validity.{no_totals}

-- what a name stands for: of a loop variable, and of a result of a map, not in which interval
abbrev pub kind_of : Option Binding → Option Binding
kind_of (Some (Variable r)) = Some (Variable (only (pos 0)))
kind_of b = b

abbrev pub kinds : Scope → Scope
kinds s n = kind_of (s n)

abbrev pub a_number : Option Binding
a_number = Some (Variable (only (pos 0)))

-- what is known behind a plain statement
abbrev pub known_by : Effect → Scope → Scope
known_by (NewIndex r pick at) s = put s r a_number
known_by (NewConstant r z ty) s = put s r (Some (binding_of_constant z ty))
known_by (NewData r ty) s = put s r (Some (Data ty))
known_by (NewMemref r ty) s = put s r (Some (Allocation ty))
known_by (Released m) s = s
known_by Unchanged s = s

abbrev pub released_by : Effect → (Name → Bool) → Name → Bool
released_by (NewIndex r pick at) d = d
released_by (NewConstant r z ty) d = d
released_by (NewData r ty) d = d
released_by (NewMemref r ty) d = d
released_by (Released m) d = put d m true
released_by Unchanged d = d

abbrev pub known_behind : Plain → Scope → Scope
known_behind q s = known_by (effect_of q) s

abbrev pub released_behind : Plain → (Name → Bool) → Name → Bool
released_behind q d = released_by (effect_of q) d

abbrev pub around : Scope → (Name → Bool) → Around
around s d = record { scope = s; released = d; loops = 0; ifs = 0; totals = no_totals }

-- of a plain statement before what follows in its region, where these kinds are in scope and these memrefs released
pub record PlainWell (s : Scope) (d : Name → Bool) (q : Plain) (rest : Nest) : Type 0 where
  pub uses : uses_in_scope s q ≡ true
  pub new_name : defines_new s q ≡ true
  pub stand : uses_stand s q ≡ true
  pub types : types_agree s q ≡ true
  pub constants : constant_in_range q ≡ true
  pub counts : counts_fit q ≡ true
  pub pure : maps_pure q ≡ true
  pub spaces : spaces_agree (around s d) q rest ≡ true

pub record LoopWell (s : Scope) (v : Name) (l u : Bound) (step : ℤ) : Type 0 where
  pub uses : (bound_in s l && bound_in s u) ≡ true
  pub new_name : is_new s v ≡ true
  pub stand : (bound_stands s l && bound_stands s u) ≡ true
  pub fits : (bound_fits l && bound_fits u) ≡ true
  pub pure : (bound_pure l && (bound_pure u && step_positive step)) ≡ true

pub record ConditionWell (s : Scope) (set : Set) (names : List Name) : Type 0 where
  pub uses : are_in s names ≡ true
  pub stand : operands_stand s set.dims names ≡ true
  pub fits : set_fits set names ≡ true
  pub pure : set_pure set ≡ true

-- each statement of a text meets these rules
abbrev pub WellFormed : Nest → Scope → (Name → Bool) → Type 0
WellFormed Nothing s d = Unit {0}
WellFormed (Loop line v l u step body rest) s d = LoopWell s v l u step × WellFormed body (put s v a_number) d × WellFormed rest s d
WellFormed (Branch line set names first has other rest) s d =
    ConditionWell s set names × WellFormed first s d × WellFormed other s d × WellFormed rest s d
WellFormed (Does line q rest) s d = PlainWell s d q rest × WellFormed rest (known_behind q s) (released_behind q d)
