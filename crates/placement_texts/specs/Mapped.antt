-- A text with its plain statements changed one by one.
use Rattle.std.specs.Prelude.{◌≡◌, ℕ, ◌+◌, List, [], ◌∷◌, Some}
use Rattle.affine_ast.specs.declared.name.Name.{Name}
use Rattle.affine_ast.specs.declared.types.Access.{Access}
use Rattle.affine_ast.specs.declared.types.MemrefType.{MemrefType}
use Rattle.affine_ast.specs.Nest.{Plain, Nest, Nothing, Loop, Branch, Does, Start, Wait}
use Rattle.direct_meaning.specs.Action.{TagMemref}
use Rattle.direct_meaning.specs.Static.{Env, cell_in, results_of}
use Rattle.placement_texts.specs.Labels.{Numbers, tag_up}

abbrev pub mapped : (Plain → Plain) → Nest → Nest
mapped change Nothing = Nothing
mapped change (Loop line v l u s body rest) = Loop line v l u s (mapped change body) (mapped change rest)
mapped change (Branch line set names first has other rest) = Branch line set names (mapped change first) has
    (mapped change other) (mapped change rest)
mapped change (Does line p rest) = Does line (change p) (mapped change rest)

-- the tags of a memref move up together: new ones don't stand among them
abbrev pub TagsTogether : Numbers → Env → Name → Access → MemrefType → Type 0
TagsTogether new e t at ty = (first cell : ℕ) → e.home t ≡ Some (TagMemref first)
    → cell_in ty.sizes (results_of e at) ≡ Some cell → tag_up new (first + cell) ≡ tag_up new first + cell

abbrev pub ThirdTogether : Numbers → Env → Name → Access → List MemrefType → Type 0
ThirdTogether new e t at (a_ty ∷ b_ty ∷ t_ty ∷ []) = TagsTogether new e t at t_ty
ThirdTogether new e t at types = Unit {0}

-- so with those of each start and each wait
abbrev pub Together : Numbers → Plain → Env → Type 0
Together new (Start a a_at b b_at t t_at n stride types) e = ThirdTogether new e t t_at types
Together new (Wait t at n ty) e = TagsTogether new e t at ty
Together new p e = Unit {0}
