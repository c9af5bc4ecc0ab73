-- Blocks: the loops with exactly so many loops round them; and the memrefs that statements access.
use Rattle.std.specs.Prelude.{ℕ, zero, suc, ℤ, if◌then◌else◌, List, [], ◌∷◌, ◌++◌}
use Rattle.affine_ast.specs.declared.name.Name.{Name}
use Rattle.affine_ast.specs.declared.types.Bound.{Bound}
use Rattle.affine_ast.specs.Nest.{Plain, Nest, Nothing, Loop, Branch, Does, Load, Store, RawLoad, RawStore, Dealloc, Start, Wait}
use Rattle.nest_domain.specs.Ways.{Header, Round, Given, Except, Behind, Past, has_name}

-- a loop, with the way to it
pub record Block : Type 0 where
  pub way : List Header
  pub line : ℕ
  pub var : Name
  pub lower : Bound
  pub upper : Bound
  pub step : ℤ
  pub body : Nest

-- in text order, with so many loops round them among statements behind a way
unfoldable pub blocks : ℕ → Nest → List Header → List Block
blocks depth Nothing way = []
blocks zero (Loop line v l u s body rest) way =
    record { way = way; line = line; var = v; lower = l; upper = u; step = s; body = body } ∷ blocks zero rest (way ++ Past body ∷ [])
blocks (suc depth) (Loop line v l u s body rest) way = blocks depth body (way ++ Round v l u s ∷ []) ++ blocks (suc depth) rest (way ++ Past body ∷ [])
blocks depth (Branch line set names first has other rest) way =
    blocks depth first (way ++ Given set names ∷ []) ++ (blocks depth other (way ++ Except set names first ∷ []) ++ blocks depth rest ((way ++ Past first ∷ []) ++ Past other ∷ []))
blocks depth (Does line p rest) way = blocks depth rest (way ++ Behind p ∷ [])

-- ---- the memrefs that are accessed
abbrev pub memrefs_of : Plain → List Name
memrefs_of (Load r m at ty) = m ∷ []
memrefs_of (Store x m at ty) = m ∷ []
memrefs_of (RawLoad r m at ty) = m ∷ []
memrefs_of (RawStore x m at ty) = m ∷ []
memrefs_of (Dealloc m ty) = m ∷ []
memrefs_of (Start x x_at y y_at t t_at n stride types) = x ∷ y ∷ t ∷ []
memrefs_of (Wait t at n ty) = t ∷ []
memrefs_of p = []

-- names behind those that are there already, each once
abbrev pub with_name : List Name → Name → List Name
with_name kept n = if has_name n kept then kept else kept ++ n ∷ []

abbrev pub with_names : List Name → List Name → List Name
with_names kept [] = kept
with_names kept (n ∷ ns) = with_names (with_name kept n) ns

-- behind those that are there already the memrefs that statements access, each once, in the order of their first accesses
unfoldable pub accessed : Nest → List Name → List Name
accessed Nothing kept = kept
accessed (Loop line v l u s body rest) kept = accessed rest (accessed body kept)
accessed (Branch line set names first has other rest) kept = accessed rest (accessed other (accessed first kept))
accessed (Does line p rest) kept = accessed rest (with_names kept (memrefs_of p))
