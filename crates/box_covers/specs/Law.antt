-- What a cover says of the turns of a run.
use Rattle.std.specs.Prelude.{◌≡◌, ℕ, ◌+◌, ℤ, Bool, true, List, [], ◌∷◌, ◌++◌, Contains, Some}
use Rattle.affine_ast.specs.declared.image.Image.{Image}
use Rattle.affine_ast.specs.declared.module.Module.{Module}
use Rattle.affine_ast.specs.declared.name.Name.{Name}
use Rattle.affine_ast.specs.declared.types.Access.{Access}
use Rattle.affine_ast.specs.declared.types.Bound.{Bound}
use Rattle.affine_ast.specs.declared.types.MemrefType.{MemrefType}
use Rattle.affine_ast.specs.Nest.{Nest, Nothing, Loop, Store, nest}
use Rattle.affine_ast.specs.Validity.{IsValid}
use Rattle.direct_meaning.specs.Static.{Env, results_of}
use Rattle.direct_meaning.specs.Actions.{action_of, actions}
use Rattle.direct_meaning.specs.Memory.{Fits, start_env}
use Rattle.nest_domain.specs.Ways.{Header, Round, Use, uses, at_path, loop_count}
use Rattle.nest_domain.specs.Domains.{symbol_count}
use Rattle.nest_domain.specs.Visits.{Visits}
use Rattle.nest_domain.specs.Boxes.{Dimension, AllIn, AreOver}
use Rattle.box_covers.specs.Covers.{covers}

-- in a visit of a list of statements, a store to a memref with these subscripts is come to
pub record IsStored (name : Name) (xs : List ℤ) (n : Nest) (f : Env) : Type 0 where
  pub value : Name
  pub at : Access
  pub ty : MemrefType
  pub env : Env
  pub subscripts : results_of env at ≡ xs
  pub found : Contains (actions n f) (action_of (Store value name at ty) env)

-- the accesses of a memref in a loop at the end of a way
abbrev pub loop_uses : Name → List Header → Name → Bound → Bound → ℤ → Nest → List Use
loop_uses name way v l u s body = uses name body (way ++ Round v l u s ∷ [])

-- where a box is covered, each of its elements is stored to in each visit of the loop
abbrev pub CoveredIsSwept : Type 0
CoveredIsSwept = (m : Module) → IsValid m → (memory : Image) → Fits m memory → (steps : List (ℕ × Bool)) (way : List Header) (line : ℕ) (v : Name) (l u : Bound) (s : ℤ) (body rest : Nest)
    → at_path (nest m.body) steps ≡ Some (record { way = way; here = Loop line v l u s body rest })
    → (name : Name) (sizes : List ℕ) (ds : List Dimension) → covers m.args way (loop_uses name way v l u s body) (symbol_count m.args + loop_count way) ds ≡ true
    → AreOver (symbol_count m.args + loop_count way) ds → (turns : List ℤ) (f : Env) → Visits way (start_env m.args memory.symbols) turns f
    → (xs : List ℤ) → AllIn ds sizes (memory.symbols ++ turns) xs → IsStored name xs (Loop line v l u s body Nothing) f
