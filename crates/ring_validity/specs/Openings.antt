-- What stands round a loop with rings: the constants of the templates, the rings and their tags; and which placements can have rings there.
use Rattle.std.specs.Prelude.{◌≡◌, ℕ, ℤ, pos, ◌*◌, Bool, true, false, List, [], ◌∷◌, Option, Some, None, nat_eq}
use Rattle.affine_ast.specs.declared.name.Name.{Name}
use Rattle.affine_ast.specs.declared.types.Bound.{Bound}
use Rattle.affine_ast.specs.declared.types.Scalar.TheVariants.{Index}
use Rattle.affine_ast.specs.Names.{same_name, put}
use Rattle.affine_ast.specs.Nest.{Nest}
use Rattle.affine_ast.specs.Rules.{is_new, is_count, bound_in, bound_stands, bound_fits, bound_pure}
use Rattle.affine_ast.specs.Scope.{Allocation, Scope, binding_of_constant}
use Rattle.affine_ast.specs.Sizes.{product}
use Rattle.placement_texts.specs.Template.{How, Copies, Transfers, Placement, dim_extents, fast_name, tag_name, count_name, stride_name, chunk_name}
use Rattle.ring_plans.specs.Rings.{ring_tags, ring_type}
use Rattle.ring_validity.specs.Bodies.{is_special, HoldsTemplate}

-- ---- the names in scope behind the constants of a template
abbrev pub with_constant : Name → ℕ → Scope → Scope
with_constant n k s = put s n (Some (binding_of_constant (pos k) Index))

module _ (p : Placement) where
  abbrev pub chunks_scope : Option (ℕ × ℕ) → Scope → Scope
  chunks_scope None s = s
  chunks_scope (Some two) s = with_constant (chunk_name p.name) two.1 (with_constant (stride_name p.name) two.0 s)

  abbrev pub constants_scope : How → Scope → Scope
  constants_scope Copies s = s
  constants_scope (Transfers chunks) s = chunks_scope chunks (with_constant (count_name p.name) (product (dim_extents p.dims)) s)

  -- the constants alone
  abbrev pub template_scope : Scope
  template_scope = constants_scope p.how (λ n. None)

-- no name that the second template takes is one of the first
abbrev pub NoneTaken : Placement → Placement → Type 0
NoneTaken p q = (i : ℕ) → is_special p (q.name i) ≡ false

abbrev pub NoneTakenBy : Placement → List Placement → Type 0
NoneTakenBy p [] = Unit {0}
NoneTakenBy p (q ∷ qs) = NoneTaken p q × NoneTakenBy p qs

-- a placement by transfers of at least one element, whose names differ from one another, from the loop's variable, and from all that is in
-- scope or released where the loop stands
pub record CanHaveRing (s : Scope) (d : Name → Bool) (v : Name) (p : Placement) : Type 0 where
  pub chunks : Option (ℕ × ℕ)
  pub transfers : p.how ≡ Transfers chunks
  pub apart : (i j : ℕ) → same_name (p.name i) (p.name j) ≡ nat_eq i j
  pub new_names : (i : ℕ) → is_new s (p.name i) ≡ true
  pub live : (i : ℕ) → d (p.name i) ≡ false
  pub least : is_count (Some (pos (product (dim_extents p.dims)))) ≡ true
  pub turn : is_special p v ≡ false

abbrev pub CanHaveRings : Scope → (Name → Bool) → Name → List Placement → Type 0
CanHaveRings s d v [] = Unit {0}
CanHaveRings s d v (p ∷ ps) = CanHaveRing s d v p × NoneTakenBy p ps × CanHaveRings s d v ps

-- the placements stand in this text, each where its template puts it
abbrev pub HoldsTemplates : List Placement → Nest → Type 0
HoldsTemplates [] n = Unit {0}
HoldsTemplates (p ∷ ps) n = HoldsTemplate p (template_scope p) n × HoldsTemplates ps n

-- a bound that can stand where these names are in scope
pub record BoundWell (s : Scope) (l : Bound) : Type 0 where
  pub uses : bound_in s l ≡ true
  pub stand : bound_stands s l ≡ true
  pub fits : bound_fits l ≡ true
  pub pure : bound_pure l ≡ true

-- ---- the loop of a variable between bounds, by a step, and rings of so many places
module _ (buffers : ℕ) (v : Name) (lower upper : Bound) (step : ℤ) where
  -- the names in scope behind the constants, the ring and the tags of a placement, and behind those of several
  abbrev pub ring_scope : Placement → Scope → Scope
  ring_scope p s =
      put (put (constants_scope p p.how s) (fast_name p.name) (Some (Allocation (ring_type buffers v lower upper step p)))) (tag_name p.name)
      (Some (Allocation (ring_tags buffers v lower upper step)))

  abbrev pub rings_scope : List Placement → Scope → Scope
  rings_scope [] s = s
  rings_scope (p ∷ ps) s = rings_scope ps (ring_scope p s)
