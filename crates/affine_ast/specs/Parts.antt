-- What a plain statement does to the names round it, which names it uses, and which maps it has. A definition that asks something
-- of every result, every use or every map goes over these.
use Rattle.std.specs.Prelude.{ℤ, Bool, true, ◌&&◌, List, [], ◌∷◌, ◌++◌, map, Option, Some, None}
use Rattle.affine_ast.specs.declared.name.Name.{Name}
use Rattle.affine_ast.specs.declared.types.Access.{Access}
use Rattle.affine_ast.specs.declared.types.MemrefType.{MemrefType}
use Rattle.affine_ast.specs.declared.types.Pick.{Pick}
use Rattle.affine_ast.specs.declared.types.Scalar.{Scalar}
use Rattle.affine_ast.specs.declared.types.Scalar.TheVariants.{Int}
use Rattle.affine_ast.specs.Nest.{Plain, Value, Load, Store, RawLoad, RawStore, Constant, Binary, Cast, Alloc, Dealloc, Start, Wait, Return}

-- ---- each of a list

-- each passes the test. Of a list of one it is that one's test
abbrev pub every : {A : Type 0} → (A → Bool) → List A → Bool
every test [] = true
every test (a ∷ []) = test a
every test (a ∷ b ∷ more) = test a && every test (b ∷ more)

-- P holds of each. Of a list of one it is that of the one
abbrev pub Every : {A : Type 0} → (A → Type 0) → List A → Type 0
Every P [] = Unit {0}
Every P (a ∷ []) = P a
Every P (a ∷ b ∷ more) = P a × Every P (b ∷ more)

-- ---- names that are defined and released

-- what a plain statement does to the names round it
pub data Effect : Type 0 where
  -- a new name stands for the number that a map gives
  NewIndex : Name → Pick → Access → Effect
  -- a new name stands for a constant of this type
  NewConstant : Name → ℤ → Scalar → Effect
  -- a new name holds data of this type
  NewData : Name → Scalar → Effect
  -- a new name stands for an allocated memref of this type
  NewMemref : Name → MemrefType → Effect
  -- an allocated memref is released
  Released : Name → Effect
  Unchanged : Effect

abbrev pub effect_of : Plain → Effect
effect_of (Value r pick at) = NewIndex r pick at
effect_of (Load r m at ty) = NewData r (Int ty.element)
effect_of (RawLoad r m at ty) = NewData r (Int ty.element)
effect_of (Constant r z ty) = NewConstant r z ty
effect_of (Binary r op x y ty) = NewData r ty
effect_of (Cast r kind x from to) = NewData r to
effect_of (Alloc r ty) = NewMemref r ty
effect_of (Dealloc m ty) = Released m
effect_of p = Unchanged

abbrev pub result_of_effect : Effect → Option Name
result_of_effect (NewIndex r pick at) = Some r
result_of_effect (NewConstant r z ty) = Some r
result_of_effect (NewData r ty) = Some r
result_of_effect (NewMemref r ty) = Some r
result_of_effect (Released m) = None
result_of_effect Unchanged = None

-- the name that a plain statement defines, where it defines one
abbrev pub result_of : Plain → Option Name
result_of p = result_of_effect (effect_of p)

-- that name, alone in a list
abbrev pub results_of : Plain → List Name
results_of p = listed (result_of p)
  where
    listed : Option Name → List Name
    listed None = []
    listed (Some r) = r ∷ []

-- ---- names that are used

-- the stride and the chunk of a transfer, where it has them
abbrev pub stride_names : Option (Name × Name) → List Name
stride_names None = []
stride_names (Some two) = two.0 ∷ two.1 ∷ []

-- the names that the start of a transfer uses
abbrev pub start_uses : Name → Access → Name → Access → Name → Access → Name → Option (Name × Name) → List Name
start_uses x x_at y y_at t t_at n stride = x ∷ x_at.operands ++ (y ∷ y_at.operands ++ (t ∷ t_at.operands ++ (n ∷ stride_names stride)))

-- the names that a plain statement uses, in the order of its text
abbrev pub uses_of : Plain → List Name
uses_of (Value r pick at) = at.operands
uses_of (Load r m at ty) = m ∷ at.operands
uses_of (Store x m at ty) = x ∷ m ∷ at.operands
uses_of (RawLoad r m at ty) = m ∷ at
uses_of (RawStore x m at ty) = x ∷ m ∷ at
uses_of (Constant r z ty) = []
uses_of (Binary r op x y ty) = x ∷ y ∷ []
uses_of (Cast r kind x from to) = x ∷ []
uses_of (Alloc r ty) = []
uses_of (Dealloc m ty) = m ∷ []
uses_of (Start x x_at y y_at t t_at n stride types) = start_uses x x_at y y_at t t_at n stride
uses_of (Wait t at n ty) = t ∷ at.operands ++ (n ∷ [])
uses_of Return = []

-- ---- maps

-- the maps of a plain statement with their operands, in the order of its text
abbrev pub maps_of : Plain → List Access
maps_of (Value r pick at) = at ∷ []
maps_of (Load r m at ty) = at ∷ []
maps_of (Store x m at ty) = at ∷ []
maps_of (Start x x_at y y_at t t_at n stride types) = x_at ∷ y_at ∷ t_at ∷ []
maps_of (Wait t at n ty) = at ∷ []
maps_of p = []

-- the lists of operands of a plain statement: those of its maps, or the subscripts that are values
abbrev pub operand_lists : Plain → List (List Name)
operand_lists (RawLoad r m at ty) = at ∷ []
operand_lists (RawStore x m at ty) = at ∷ []
operand_lists p = map (λ (at : Access). at.operands) (maps_of p)
