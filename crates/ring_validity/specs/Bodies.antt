-- The body of a loop with a ring: what has to hold of the single text there, and how its names in scope lie to those of the ring's text.
use Rattle.std.specs.Prelude.{◌≡◌, ◌⊎◌, ℕ, ◌≤◌, ℤ, pos, ◌<ℤ◌, Bool, true, false, ◌||◌, List, [], ◌∷◌, Option, Some, None}
use Rattle.affine_ast.specs.declared.name.Name.{Name}
use Rattle.affine_ast.specs.declared.types.Bound.{Bound}
use Rattle.affine_ast.specs.declared.types.Bound.TheVariants as bound
use Rattle.affine_ast.specs.Names.{same_name}
use Rattle.affine_ast.specs.Nest.{Plain, Nest, Nothing, Loop, Branch, Does, Value, Load, Store, RawLoad, RawStore, Constant, Binary, Cast, Alloc, Dealloc, Start, Wait, Return}
use Rattle.affine_ast.specs.Parts.{stride_names, uses_of, result_of}
use Rattle.affine_ast.specs.Rules.{is_count}
use Rattle.affine_ast.specs.Scope.{IndexConstant, Allocation, Scope, binding_of_constant}
use Rattle.loop_forms.specs.Split.{as_map}
use Rattle.placement_texts.specs.Template.{Placement, fast_name, tag_name, count_name, stride_name, chunk_name, fast_type, slow_type, tag_type}
use Rattle.ring_plans.specs.Rings.{late_rows, ring_tags, ring_type}
use Rattle.ring_validity.specs.Wells.{a_number, ConditionWell}

-- the names that a bound uses
abbrev pub bound_uses : Bound → List Name
bound_uses (bound.Int z) = []
bound_uses (bound.Value n) = n ∷ []
bound_uses (bound.Map at) = at.operands

-- ---- a placement's names in the single text
module _ (p : Placement) where
  -- its fast memref or its tags; one of its constants
  abbrev pub is_memref : Name → Bool
  is_memref m = same_name (fast_name p.name) m || same_name (tag_name p.name) m

  abbrev pub is_constant : Name → Bool
  is_constant r = same_name (count_name p.name) r || (same_name (stride_name p.name) r || same_name (chunk_name p.name) r)

  abbrev pub is_special : Name → Bool
  is_special n = is_memref n || is_constant n

  abbrev pub NoMemrefs : List Name → Type 0
  NoMemrefs [] = Unit {0}
  NoMemrefs (n ∷ ns) = (is_memref n ≡ false) × NoMemrefs ns

  abbrev pub NotSpecial : Option Name → Type 0
  NotSpecial None = Unit {0}
  NotSpecial (Some r) = is_special r ≡ false

  -- a statement that speaks of neither memref and defines none of these names
  pub record IsOther (q : Plain) : Type 0 where
    pub uses : NoMemrefs (uses_of q)
    pub result : NotSpecial (result_of q)

  -- a statement of the template, or an access that it redirected. `known` are the names in scope where the ring's loops stand: the
  -- constants there are those of the template
  module _ (known : Scope) where
    abbrev pub IsMine : Plain → Type 0
    IsMine (Constant r z ty) = (is_constant r ≡ true) × (is_memref r ≡ false) × (known r ≡ Some (binding_of_constant z ty))
    IsMine (Alloc r ty) = ((r ≡ fast_name p.name) × (ty ≡ fast_type p)) ⊎ ((r ≡ tag_name p.name) × (ty ≡ tag_type))
    IsMine (Dealloc m ty) = is_memref m ≡ true
    IsMine (Load r m at ty) = (m ≡ fast_name p.name) × (ty ≡ fast_type p) × NoMemrefs at.operands × (is_special r ≡ false)
    IsMine (Store x m at ty) = (m ≡ fast_name p.name) × (ty ≡ fast_type p) × NoMemrefs at.operands × (is_memref x ≡ false)
    IsMine (Start x x_at y y_at t t_at n stride types) = (t ≡ tag_name p.name) × ((y ≡ fast_name p.name)
        ⊎ ((x ≡ fast_name p.name) × (types ≡ fast_type p ∷ slow_type p ∷ tag_type ∷ []) × (is_memref y ≡ false) × NoMemrefs x_at.operands × NoMemrefs y_at.operands × NoMemrefs t_at.operands
        × (is_memref n ≡ false) × NoMemrefs (stride_names stride)))
    IsMine (Wait t at n ty) = (t ≡ tag_name p.name) × (ty ≡ tag_type) × NoMemrefs at.operands × (is_memref n ≡ false)
    IsMine q = ⊥

    -- the placement's names stand only where its template puts them
    abbrev pub HoldsTemplate : Nest → Type 0
    HoldsTemplate Nothing = Unit {0}
    HoldsTemplate (Loop line w l u step body rest) = (is_special w ≡ false) × NoMemrefs (bound_uses l) × NoMemrefs (bound_uses u) × HoldsTemplate body × HoldsTemplate rest
    HoldsTemplate (Branch line set names first has other rest) = NoMemrefs names × HoldsTemplate first × HoldsTemplate other × HoldsTemplate rest
    HoldsTemplate (Does line q rest) = (IsOther q ⊎ IsMine q) × HoldsTemplate rest

-- ---- the loop of a variable between bounds, by a step, and rings of so many places
module _ (buffers : ℕ) (v : Name) (lower upper : Bound) (s : ℤ) (p : Placement) (known : Scope) where
  -- no two of the placement's names are one, the count is a constant that says how many elements, and the loop's variable is none of them
  pub record IsRing : Type 0 where
    pub some : 1 ≤ buffers
    pub positive : pos 0 <ℤ s
    pub memrefs_apart : same_name (tag_name p.name) (fast_name p.name) ≡ false
    pub count_apart : is_memref p (count_name p.name) ≡ false
    pub count : ℤ
    pub counted : known (count_name p.name) ≡ Some (IndexConstant count)
    pub least : is_count (Some count) ≡ true
    pub turn_apart : is_special p v ≡ false

  -- what is in scope and released in the body of the single text, and in that of the ring's: there the ring, its tags and the constants
  -- are from the beginning, and all else is the same
  pub record Beside (single ring : Scope) (d e : Name → Bool) : Type 0 where
    pub others : (n : Name) → is_special p n ≡ false → ring n ≡ single n
    pub constants : (n : Name) → is_constant p n ≡ true → is_memref p n ≡ false → (ring n ≡ known n) × ((single n ≡ None) ⊎ (single n ≡ ring n))
    pub released : (n : Name) → is_memref p n ≡ false → e n ≡ d n
    pub fast : ring (fast_name p.name) ≡ Some (Allocation (ring_type buffers v lower upper s p))
    pub fast_live : e (fast_name p.name) ≡ false
    pub tags : ring (tag_name p.name) ≡ Some (Allocation (ring_tags buffers v lower upper s))
    pub tags_live : e (tag_name p.name) ≡ false
    pub turn : ring v ≡ a_number
    -- where an outward placement's tags were allocated, the condition of its late wait can stand
    pub late : p.reads ≡ false → ConditionWell ring (late_rows buffers v lower upper s (as_map lower)) (v ∷ (as_map lower).operands)
