-- Starts ahead: what has to be in scope where they stand, and what is in scope behind them.
use Rattle.std.specs.Prelude.{◌≡◌, ℕ, zero, suc, ℤ, pos, Bool, true, false, List, [], ◌∷◌, Option, Some, None, if◌then◌else◌}
use Rattle.affine_ast.specs.declared.name.Name.{Name}
use Rattle.affine_ast.specs.declared.types.Bound.{Bound}
use Rattle.affine_ast.specs.Names.{same_name, put}
use Rattle.affine_ast.specs.Rules.{is_count, are_stride_and_chunk}
use Rattle.affine_ast.specs.Scope.{IndexConstant, MemrefArgument, Allocation, Scope}
use Rattle.placement_texts.specs.Template.{Dimension, Transfers, Placement, slow_type, fast_name, tag_name, count_name, stride_name, chunk_name, place_name, least_name}
use Rattle.placement_texts.specs.Tests.{DimsStand}
use Rattle.ring_plans.specs.Rings.{later_names, dims_later, ring_tags, ring_type}
use Rattle.ring_validity.specs.Wells.{a_number}

-- ---- behind the values that say where a box begins
module _ (name : ℕ → Name) where
  abbrev pub place_scope : ℕ → Dimension → List (Name × ℤ) → Scope → Scope
  place_scope k d [] s = s
  place_scope k d (t ∷ ts) s = if d.clamped then put (put s (least_name name k) a_number) (place_name name k) a_number else put s (place_name name k) a_number

  abbrev pub places_scope : ℕ → List Dimension → Scope → Scope
  places_scope k [] s = s
  places_scope k (d ∷ ds) s = places_scope (suc k) ds (place_scope k d d.terms s)

-- stride and chunk are constants, as the rules ask for
abbrev pub ChunksKnown : Placement → Option (ℕ × ℕ) → Scope → Type 0
ChunksKnown p None s = Unit {0}
ChunksKnown p (Some two) s = (s (stride_name p.name) ≡ Some (IndexConstant (pos two.0))) × (s (chunk_name p.name) ≡ Some (IndexConstant (pos two.1)))
    × (are_stride_and_chunk (Some (pos two.0)) (Some (pos two.1)) ≡ true)

-- ---- the names of places ahead, each changed by a function, for the turn that is z later
module _ (buffers : ℕ) (v : Name) (lower upper : Bound) (step : ℤ) (f : Name → Name) (z : ℤ) where
  abbrev pub ahead_name : Placement → ℕ → Name
  ahead_name p n = f (later_names p.name n)

  abbrev pub start_scope : Placement → Scope → Scope
  start_scope p s = if p.reads then places_scope (ahead_name p) 0 (dims_later v z p.dims) s else s

  abbrev pub started_scope : List Placement → Scope → Scope
  started_scope [] s = s
  started_scope (p ∷ ps) s = started_scope ps (start_scope p s)

  -- the memref is an argument; the ring, its tags and the constants are in scope, none released; the values that say where the box begins
  -- may be dimensions; the names of the places are new
  pub record CanStart (s : Scope) (d : Name → Bool) (p : Placement) : Type 0 where
    pub memref : s p.memref ≡ Some (MemrefArgument (slow_type p))
    pub memref_live : d p.memref ≡ false
    pub fast : s (fast_name p.name) ≡ Some (Allocation (ring_type buffers v lower upper step p))
    pub fast_live : d (fast_name p.name) ≡ false
    pub tags : s (tag_name p.name) ≡ Some (Allocation (ring_tags buffers v lower upper step))
    pub tags_live : d (tag_name p.name) ≡ false
    pub count : ℤ
    pub counted : s (count_name p.name) ≡ Some (IndexConstant count)
    pub least : is_count (Some count) ≡ true
    pub chunks : Option (ℕ × ℕ)
    pub transfers : p.how ≡ Transfers chunks
    pub strides : ChunksKnown p chunks s
    pub turn : s v ≡ a_number
    pub dims : DimsStand s p.dims
    pub apart : (i j : ℕ) → same_name (ahead_name p i) (ahead_name p j) ≡ true → i ≡ j
    pub new_names : (k : ℕ) → (s (place_name (ahead_name p) k) ≡ None) × (s (least_name (ahead_name p) k) ≡ None)

  -- no two placements have a place of one name
  abbrev pub NoPlaceOf : Placement → List Placement → Type 0
  NoPlaceOf p [] = Unit {0}
  NoPlaceOf p (q ∷ qs) = ((i j : ℕ) → same_name (ahead_name p i) (ahead_name q j) ≡ false) × NoPlaceOf p qs

  abbrev pub CanStarts : Scope → (Name → Bool) → List Placement → Type 0
  CanStarts s d [] = Unit {0}
  CanStarts s d (p ∷ ps) = (p.reads ≡ true → CanStart s d p) × NoPlaceOf p ps × CanStarts s d ps

  -- this name is no place of any of them
  abbrev pub IsNoPlace : Name → List Placement → Type 0
  IsNoPlace n [] = Unit {0}
  IsNoPlace n (p ∷ ps) = ((k : ℕ) → (same_name (place_name (ahead_name p) k) n ≡ false) × (same_name (least_name (ahead_name p) k) n ≡ false)) × IsNoPlace n ps
