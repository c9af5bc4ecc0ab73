-- Texts all of whose names pass a test, which no name of a template passes.
use Rattle.std.specs.Prelude.{◌≡◌, ℕ, ◌≤◌, Bool, true, false, List, [], ◌∷◌, Option, Some, None}
use Rattle.affine_ast.specs.declared.name.Name.{Name}
use Rattle.affine_ast.specs.declared.types.Access.{Access}
use Rattle.affine_ast.specs.declared.types.Bound.{Bound}
use Rattle.affine_ast.specs.declared.types.Bound.TheVariants as bound
use Rattle.affine_ast.specs.Names.{same_name}
use Rattle.affine_ast.specs.Nest.{Plain, Nest, Nothing, Loop, Branch, Does, Value, Load, Store, RawLoad, RawStore, Constant, Binary, Cast, Alloc, Dealloc, Start, Wait, Return}
use Rattle.affine_ast.specs.Sizes.{product}

module _ (own : Name → Bool) where
  abbrev pub OwnNames : List Name → Type 0
  OwnNames [] = Unit {0}
  OwnNames (n ∷ ns) = (own n ≡ true) × OwnNames ns

  abbrev pub OwnBound : Bound → Type 0
  OwnBound (bound.Int z) = Unit {0}
  OwnBound (bound.Value n) = own n ≡ true
  OwnBound (bound.Map at) = OwnNames at.operands

  -- a memref with its subscripts
  abbrev pub OwnAccess : Name → Access → Type 0
  OwnAccess m at = (own m ≡ true) × OwnNames at.operands

  abbrev pub OwnPair : Option (Name × Name) → Type 0
  OwnPair None = Unit {0}
  OwnPair (Some two) = (own two.0 ≡ true) × (own two.1 ≡ true)

  -- and each allocation has an element
  abbrev pub OwnPlain : Plain → Type 0
  OwnPlain (Value r pick at) = (own r ≡ true) × OwnNames at.operands
  OwnPlain (Load r m at ty) = (own r ≡ true) × OwnAccess m at
  OwnPlain (Store x m at ty) = (own x ≡ true) × OwnAccess m at
  OwnPlain (RawLoad r m at ty) = (own r ≡ true) × (own m ≡ true) × OwnNames at
  OwnPlain (RawStore x m at ty) = (own x ≡ true) × (own m ≡ true) × OwnNames at
  OwnPlain (Constant r z ty) = own r ≡ true
  OwnPlain (Binary r op a b ty) = (own r ≡ true) × (own a ≡ true) × (own b ≡ true)
  OwnPlain (Cast r kind x from to) = (own r ≡ true) × (own x ≡ true)
  OwnPlain (Alloc r ty) = (own r ≡ true) × (1 ≤ product ty.sizes)
  OwnPlain (Dealloc m ty) = own m ≡ true
  OwnPlain (Start a a_at b b_at t t_at n stride types) = OwnAccess a a_at × OwnAccess b b_at × OwnAccess t t_at
      × (own n ≡ true) × OwnPair stride
  OwnPlain (Wait t at n ty) = OwnAccess t at × (own n ≡ true)
  OwnPlain Return = Unit {0}

  abbrev pub OwnNest : Nest → Type 0
  OwnNest Nothing = Unit {0}
  OwnNest (Loop line v l u s body rest) = (own v ≡ true) × OwnBound l × OwnBound u × OwnNest body × OwnNest rest
  OwnNest (Branch line set names first has other rest) = OwnNames names × OwnNest first × OwnNest other × OwnNest rest
  OwnNest (Does line p rest) = OwnPlain p × OwnNest rest

  -- names of a template, no two of which are one
  pub record MadeNames (name : ℕ → Name) : Type 0 where
    pub made : (i : ℕ) → own (name i) ≡ false
    pub apart : (i j : ℕ) → same_name (name i) (name j) ≡ true → i ≡ j
