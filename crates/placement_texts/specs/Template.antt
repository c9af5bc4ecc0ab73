-- The template of one placement: a memref of which a box is staged at a loop.
use Rattle.std.specs.Prelude.{ℕ, suc, ◌+◌, ◌*◌, ℤ, pos, neg_ℤ, ◌-ℤ◌, Bool, true, false, List, [], ◌∷◌, ◌++◌, length, take, drop, Option, Some, None, int_lt, if◌then◌else◌}
use Rattle.std.specs.Int.{int_min, int_max}
use Rattle.std.specs.Ordering.{int_eq}
use Rattle.affine_expr.specs.declared.expr.Expr.{Expr, Dim, Const, Neg, Add, Sub, Mul, fold-Expr}
use Rattle.affine_expr.specs.declared.expr.Expr.TheOpen.{Expr-F}
use Rattle.affine_ast.specs.declared.name.Name.{Name}
use Rattle.affine_ast.specs.declared.types.Access.{Access}
use Rattle.affine_ast.specs.declared.types.Bound.TheVariants as bound
use Rattle.affine_ast.specs.declared.types.Element.{Element}
use Rattle.affine_ast.specs.declared.types.Element.TheVariants.{I32}
use Rattle.affine_ast.specs.declared.types.MemrefType.{MemrefType}
use Rattle.affine_ast.specs.declared.types.Pick.TheVariants.{Apply, Min, Max}
use Rattle.affine_ast.specs.declared.types.Scalar.TheVariants.{Index}
use Rattle.affine_ast.specs.Names.{same_name}
use Rattle.affine_ast.specs.Nest.{Plain, Nest, Nothing, Loop, Does, Value, Load, Store, Constant, Alloc, Dealloc, Start, Wait, followed_by}
use Rattle.affine_ast.specs.Sizes.{product}
use Rattle.placement_texts.specs.Mapped.{mapped}

-- ---- a placement

-- a dimension of the memref: its size, and where the box begins, which is the sum of the values with their coefficients and
-- the offset, for so many elements; where it is clamped, as near to that as the box lies in the memref
pub record Dimension : Type 0 where
  pub size : ℕ
  pub terms : List (Name × ℤ)
  pub offset : ℤ
  pub extent : ℕ
  pub clamped : Bool

-- by loops that copy, or by transfers, with a stride and a chunk where there are several chunks
pub data How : Type 0 where
  Copies : How
  Transfers : Option (ℕ × ℕ) → How

-- a memref, its box, whether it is read in before the loop and written out after it, and how; and the names that the
-- template takes
pub record Placement : Type 0 where
  pub memref : Name
  pub element : Element
  pub dims : List Dimension
  pub reads : Bool
  pub writes : Bool
  pub how : How
  pub name : ℕ → Name

abbrev pub dim_sizes : List Dimension → List ℕ
dim_sizes [] = []
dim_sizes (d ∷ ds) = d.size ∷ dim_sizes ds

abbrev pub dim_extents : List Dimension → List ℕ
dim_extents [] = []
dim_extents (d ∷ ds) = d.extent ∷ dim_extents ds

abbrev pub slow_type : Placement → MemrefType
slow_type p = record { sizes = dim_sizes p.dims; element = p.element; space = 0 }

-- one half
abbrev pub fast_type : Placement → MemrefType
fast_type p = record { sizes = 1 ∷ dim_extents p.dims; element = p.element; space = 1 }

abbrev pub tag_type : MemrefType
tag_type = record { sizes = 1 ∷ []; element = I32; space = 2 }

-- ---- names

module _ (name : ℕ → Name) where
  abbrev pub fast_name : Name
  fast_name = name 0

  abbrev pub tag_name : Name
  tag_name = name 1

  abbrev pub count_name : Name
  count_name = name 2

  abbrev pub stride_name : Name
  stride_name = name 3

  abbrev pub chunk_name : Name
  chunk_name = name 4

  -- the value that a copy loop moves, in and out
  abbrev pub in_value : Name
  in_value = name 5

  abbrev pub out_value : Name
  out_value = name 6

  -- of the dimension of this number: where the box begins, that before it is raised to 0, and the variables of the copy loops
  abbrev pub place_name : ℕ → Name
  place_name d = name (7 + 4 * d)

  abbrev pub least_name : ℕ → Name
  least_name d = name (8 + 4 * d)

  abbrev pub in_turn : ℕ → Name
  in_turn d = name (9 + 4 * d)

  abbrev pub out_turn : ℕ → Name
  out_turn d = name (10 + 4 * d)

-- ---- sums, folded

-- the number that an expression is, where it is one number
abbrev pub number_step : Expr-F (Option ℤ) → Option ℤ
number_step (Expr-F.Const z) = Some z
number_step e = None

unfoldable pub number_of : Expr → Option ℤ
number_of = fold-Expr (Option ℤ) number_step

abbrev pub less_by : Option ℤ → Expr → ℤ → Expr
less_by (Some k) e z = Const (k -ℤ z)
less_by None e z = if int_eq z (pos 0) then e else Sub e (Const z)

-- `e - z`
abbrev pub less : Expr → ℤ → Expr
less e z = less_by (number_of e) e z

-- `e + z`, for an expression that is no number
abbrev pub plus : Expr → ℤ → Expr
plus e z = if int_eq z (pos 0) then e else (if int_lt z (pos 0) then Sub e (Const (neg_ℤ z)) else Add e (Const z))

-- ---- where the box begins

abbrev pub term : ℕ → ℤ → Expr
term k a = if int_eq a (pos 1) then Dim k else Mul (Dim k) (Const a)

abbrev pub first_term : ℕ → ℤ → Expr
first_term k a = if int_eq a (neg_ℤ (pos 1)) then Neg (Dim k) else term k a

abbrev pub join_term : Expr → ℕ → ℤ → Expr
join_term e k a = if int_lt a (pos 0) then Sub e (term k (neg_ℤ a)) else Add e (term k a)

abbrev pub join_terms : Expr → ℕ → List (Name × ℤ) → Expr
join_terms e k [] = e
join_terms e k (t ∷ ts) = join_terms (join_term e k t.1) (suc k) ts

-- the terms in order and then the offset
abbrev pub form : List (Name × ℤ) → ℤ → Expr
form [] z = Const z
form (t ∷ ts) z = plus (join_terms (first_term 0 t.1) 1 ts) z

abbrev pub term_names : List (Name × ℤ) → List Name
term_names [] = []
term_names (t ∷ ts) = t.0 ∷ term_names ts

-- a map over the terms' values
abbrev pub over_terms : List (Name × ℤ) → List Expr → Access
over_terms ts results = record {
  map = record { dims = length ts; syms = 0; results = results };
  operands = term_names ts;
}

-- the greatest place at which the box lies in the memref
abbrev pub last_place : Dimension → ℤ
last_place d = pos d.size -ℤ pos d.extent

abbrev pub clamp : Dimension → ℤ → ℤ
clamp d z = int_max (int_min z (last_place d)) (pos 0)

-- where the box begins in a dimension: at a number, or at what a value says
pub data Begin : Type 0 where
  Fixed : ℤ → Begin
  Named : Name → Begin

-- `affine_map<(d0) -> (d0, 0)>` of a value
abbrev pub value_or_zero : Name → Access
value_or_zero n = record {
  map = record { dims = 1; syms = 0; results = Dim 0 ∷ Const (pos 0) ∷ [] };
  operands = n
      ∷ [];
}

module _ (name : ℕ → Name) where
  abbrev pub begin : ℕ → Dimension → List (Name × ℤ) → Begin
  begin k d [] = Fixed (if d.clamped then clamp d d.offset else d.offset)
  begin k d (t ∷ ts) = Named (place_name name k)

  -- from this dimension on
  abbrev pub begins_from : ℕ → List Dimension → List Begin
  begins_from k [] = []
  begins_from k (d ∷ ds) = begin k d d.terms ∷ begins_from (suc k) ds

  abbrev pub place_statement : ℕ → Dimension → List (Name × ℤ) → Nest → Nest
  place_statement k d [] rest = rest
  place_statement k d (t ∷ ts) rest =
      if d.clamped
      then Does 0 (Value (least_name name k) Min (over_terms (t ∷ ts) (form (t ∷ ts) d.offset ∷ Const (last_place d)
      ∷ []))) (Does 0 (Value (place_name name k) Max (value_or_zero (least_name name k))) rest)
      else Does 0 (Value (place_name name k) Apply (over_terms (t ∷ ts) (form (t ∷ ts) d.offset ∷ []))) rest

  -- how many statements these are
  abbrev pub statement_count : Dimension → List (Name × ℤ) → ℕ
  statement_count d [] = 0
  statement_count d (t ∷ ts) = if d.clamped then 2 else 1

  abbrev pub places_count : List Dimension → ℕ
  places_count [] = 0
  places_count (d ∷ ds) = statement_count d d.terms + places_count ds

  abbrev pub places_from : ℕ → List Dimension → Nest → Nest
  places_from k [] rest = rest
  places_from k (d ∷ ds) rest = place_statement k d d.terms (places_from (suc k) ds rest)

-- ---- subscripts

-- the values that say where the box begins
abbrev pub named : List Begin → List Name
named [] = []
named (Fixed z ∷ bs) = named bs
named (Named n ∷ bs) = n ∷ named bs

-- each subscript less the place of its dimension; the values that say places are dimensions from this one on
abbrev pub less_places : ℕ → List Expr → List Begin → List Expr
less_places k [] bs = []
less_places k (e ∷ es) [] = e ∷ es
less_places k (e ∷ es) (Fixed z ∷ bs) = less e z ∷ less_places k es bs
less_places k (e ∷ es) (Named n ∷ bs) = Sub e (Dim k) ∷ less_places (suc k) es bs

-- an access of the memref becomes one of the fast memref: `[0, e - place ..]`
abbrev pub in_fast : List Begin → Access → Access
in_fast bs at = record {
  map = record {
    dims = at.map.dims + length (named bs);
    syms = at.map.syms;
    results = Const (pos 0)
        ∷ less_places at.map.dims at.map.results bs;
  };
  operands = take at.map.dims at.operands ++ (named bs ++ drop at.map.dims at.operands);
}

-- the variables of copy loops, and as dimensions from this one on
abbrev pub turn_names : (ℕ → Name) → ℕ → List Begin → List Name
turn_names turn d [] = []
turn_names turn d (b ∷ bs) = turn d ∷ turn_names turn (suc d) bs

abbrev pub turn_dims : ℕ → List Begin → List Expr
turn_dims d [] = []
turn_dims d (b ∷ bs) = Dim d ∷ turn_dims (suc d) bs

-- `turn + place` for each dimension of the memref: the turns are dimensions from `d` on, the values that say places from `k` on
abbrev pub turn_places : ℕ → ℕ → List Begin → List Expr
turn_places d k [] = []
turn_places d k (Fixed z ∷ bs) = plus (Dim d) z ∷ turn_places (suc d) k bs
turn_places d k (Named n ∷ bs) = Add (Dim d) (Dim k) ∷ turn_places (suc d) (suc k) bs

-- the memref's element and the fast memref's, at turns of the copy loops
abbrev pub slow_at_turns : (ℕ → Name) → List Begin → Access
slow_at_turns turn bs = record {
  map = record { dims = length bs + length (named bs); syms = 0; results = turn_places 0 (length bs) bs };
  operands = turn_names turn 0 bs ++ named bs;
}

abbrev pub fast_at_turns : (ℕ → Name) → List Begin → Access
fast_at_turns turn bs = record {
  map = record { dims = length bs; syms = 0; results = Const (pos 0) ∷ turn_dims 0 bs };
  operands = turn_names turn 0 bs;
}

-- the places: a number, or a dimension from this one on
abbrev pub place_exprs : ℕ → List Begin → List Expr
place_exprs k [] = []
place_exprs k (Fixed z ∷ bs) = Const z ∷ place_exprs k bs
place_exprs k (Named n ∷ bs) = Dim k ∷ place_exprs (suc k) bs

-- the memref's element at the places, the first of the fast memref's, and of the tags
abbrev pub slow_at_places : List Begin → Access
slow_at_places bs = record {
  map = record { dims = length (named bs); syms = 0; results = place_exprs 0 bs };
  operands = named bs;
}

abbrev pub zeros : List Begin → List Expr
zeros [] = []
zeros (b ∷ bs) = Const (pos 0) ∷ zeros bs

abbrev pub at_zeros : List Expr → Access
at_zeros es = record { map = record { dims = 0; syms = 0; results = es }; operands = [] }

abbrev pub fast_at_zeros : List Begin → Access
fast_at_zeros bs = at_zeros (Const (pos 0) ∷ zeros bs)

abbrev pub tag_at_zero : Access
tag_at_zero = at_zeros (Const (pos 0) ∷ [])

-- ---- the statements round the loop

-- loops `0 to extent` inside one another, their variables numbered from `d` on
abbrev pub loops : (ℕ → Name) → ℕ → List Dimension → Nest → Nest
loops turn d [] inner = inner
loops turn d (dim ∷ dims) inner = Loop 0 (turn d) (bound.Int (pos 0)) (bound.Int (pos dim.extent)) (pos 1)
    (loops turn (suc d) dims inner) Nothing

module _ (p : Placement) where
  abbrev pub begins : List Begin
  begins = begins_from p.name 0 p.dims

  abbrev pub copy_in : Nest
  copy_in = loops (in_turn p.name) 0 p.dims
      (Does 0 (Load (in_value p.name) p.memref (slow_at_turns (in_turn p.name) begins) (slow_type p))
      (Does 0 (Store (in_value p.name) (fast_name p.name) (fast_at_turns (in_turn p.name) begins)
      (fast_type p)) Nothing))

  abbrev pub copy_out : Nest
  copy_out = loops (out_turn p.name) 0 p.dims
      (Does 0 (Load (out_value p.name) (fast_name p.name) (fast_at_turns (out_turn p.name) begins) (fast_type p))
      (Does 0 (Store (out_value p.name) p.memref (slow_at_turns (out_turn p.name) begins) (slow_type p)) Nothing))

  abbrev pub stride_of : Option (ℕ × ℕ) → Option (Name × Name)
  stride_of None = None
  stride_of (Some two) = Some (stride_name p.name, chunk_name p.name)

  abbrev pub wait : Nest
  wait = Does 0 (Wait (tag_name p.name) tag_at_zero (count_name p.name) tag_type) Nothing

  abbrev pub start_in : Option (ℕ × ℕ) → Nest
  start_in chunks = Does 0
      (Start p.memref (slow_at_places begins) (fast_name p.name) (fast_at_zeros begins) (tag_name p.name) tag_at_zero
      (count_name p.name) (stride_of chunks) (slow_type p ∷ fast_type p ∷ tag_type ∷ [])) wait

  abbrev pub start_out : Option (ℕ × ℕ) → Nest
  start_out chunks = Does 0
      (Start (fast_name p.name) (fast_at_zeros begins) p.memref (slow_at_places begins) (tag_name p.name) tag_at_zero
      (count_name p.name) (stride_of chunks) (fast_type p ∷ slow_type p ∷ tag_type ∷ [])) wait

  abbrev pub index_constant : Name → ℕ → Nest → Nest
  index_constant n k rest = Does 0 (Constant n (pos k) Index) rest

  -- how many tags are allocated
  abbrev pub tags_made : How → ℕ
  tags_made Copies = 0
  tags_made (Transfers chunks) = 1

  abbrev pub chunk_count : Option (ℕ × ℕ) → ℕ
  chunk_count None = 0
  chunk_count (Some two) = 2

  -- how many constants stand before the loop
  abbrev pub constant_count : How → ℕ
  constant_count Copies = 0
  constant_count (Transfers chunks) = suc (chunk_count chunks)

  abbrev pub chunk_constants : Option (ℕ × ℕ) → Nest → Nest
  chunk_constants None rest = rest
  chunk_constants (Some two) rest = index_constant (stride_name p.name) two.0
      (index_constant (chunk_name p.name) two.1 rest)

  abbrev pub constants : How → Nest → Nest
  constants Copies rest = rest
  constants (Transfers chunks) rest = index_constant (count_name p.name) (product (dim_extents p.dims))
      (chunk_constants chunks rest)

  abbrev pub allocs : How → Nest → Nest
  allocs Copies rest = Does 0 (Alloc (fast_name p.name) (fast_type p)) rest
  allocs (Transfers chunks) rest = Does 0 (Alloc (fast_name p.name) (fast_type p))
      (Does 0 (Alloc (tag_name p.name) tag_type) rest)

  abbrev pub deallocs : How → Nest → Nest
  deallocs Copies rest = Does 0 (Dealloc (fast_name p.name) (fast_type p)) rest
  deallocs (Transfers chunks) rest = Does 0 (Dealloc (fast_name p.name) (fast_type p))
      (Does 0 (Dealloc (tag_name p.name) tag_type) rest)

  abbrev pub read_in : How → Nest
  read_in Copies = copy_in
  read_in (Transfers chunks) = start_in chunks

  abbrev pub write_out : How → Nest
  write_out Copies = copy_out
  write_out (Transfers chunks) = start_out chunks

  abbrev pub where_so : Bool → Nest → Nest → Nest
  where_so true part rest = followed_by part rest
  where_so false part rest = rest

  -- what stands before the loop, and after it
  abbrev pub before : Nest → Nest
  before rest = places_from p.name 0 p.dims (constants p.how (allocs p.how (where_so p.reads (read_in p.how) rest)))

  abbrev pub behind_loop : Nest → Nest
  behind_loop rest = where_so p.writes (write_out p.how) (deallocs p.how rest)

  -- in the loop, loads and stores of the memref are of the fast memref
  abbrev pub redirect : Plain → Plain
  redirect (Load r m at ty) = if same_name p.memref m
      then Load r (fast_name p.name) (in_fast begins at) (fast_type p) else Load r m at ty
  redirect (Store x m at ty) = if same_name p.memref m
      then Store x (fast_name p.name) (in_fast begins at) (fast_type p) else Store x m at ty
  redirect q = q

  -- a loop with the template round it, and what follows
  abbrev pub staged_loop : Nest → Nest → Nest
  staged_loop (Loop line v l u s body rest) more = before (Loop line v l u s (mapped redirect body) (behind_loop more))
  staged_loop n more = n
