-- Tiles of 16 numbers, staged with rings: what their texts are.
use Rattle.std.specs.Prelude.{ℕ, ℤ, pos, false, List, [], ◌∷◌, codes, None}
use Rattle.affine_expr.specs.declared.expr.Expr.{Expr, Dim, Const, Add, Sub, FloorDiv, Mod}
use Rattle.affine_expr.specs.declared.map.Rel.TheVariants as rel
use Rattle.affine_expr.specs.declared.map.Set.{Set}
use Rattle.affine_ast.specs.declared.name.Name.{Name}
use Rattle.affine_ast.specs.declared.stmt.What.{For, Load as LoadFrom, Store as StoreIn, Constant as ConstantIs, Return as Returns}
use Rattle.affine_ast.specs.declared.module.Module.{Module}
use Rattle.affine_ast.specs.declared.types.Access.{Access}
use Rattle.affine_ast.specs.declared.types.Bound.TheVariants as bound
use Rattle.affine_ast.specs.declared.types.Element.TheVariants.{I32}
use Rattle.affine_ast.specs.declared.types.MemrefType.{MemrefType}
use Rattle.affine_ast.specs.declared.types.Pick.TheVariants.{Apply}
use Rattle.affine_ast.specs.declared.types.Scalar.TheVariants as scalar
use Rattle.affine_ast.specs.Nest.{Nest, Nothing, Loop, Branch, Does, Value, Load, Store, Constant, Binary, Alloc, Dealloc, Start, Wait, Return}
use Rattle.int_ops.specs.declared.operation.Op.TheVariants as op
use Rattle.made_names.specs.Made.{made_name}
use Rattle.ring_plans.specs.Rings.{twin}
use Rattle.plan_numbers.specs.Modules.{A, it, i, loaded, raised, c, stmt, slow, memref_a, at}

-- ---- the names of the one placement
abbrev pub fast : Name
fast = made_name 0 0

abbrev pub tags : Name
tags = made_name 0 1

abbrev pub count : Name
count = made_name 0 2

-- where the tile of the turn begins, and that of a turn that is ahead; in the third loop and the first they have other names
abbrev pub tile_begin : Name
tile_begin = made_name 0 7

abbrev pub begin_ahead : Name
begin_ahead = made_name 0 9

abbrev pub other_begin : Name
other_begin = twin tile_begin

abbrev pub other_ahead : Name
other_ahead = twin begin_ahead

-- the made names that three loops define, in the order of their definitions: each stands there once, so it is numbered by its place
abbrev pub names_of_three : List Name
names_of_three = count ∷ fast ∷ tags ∷ other_ahead ∷ begin_ahead ∷ tile_begin ∷ other_begin ∷ []

-- ---- a ring of so many places
module _ (buffers : ℕ) where
  abbrev pub ring : MemrefType
  ring = record { sizes = buffers ∷ 16 ∷ []; element = I32; space = 1 }

  abbrev pub ring_tags : MemrefType
  ring_tags = record { sizes = buffers ∷ []; element = I32; space = 2 }

  -- the place of a turn in it
  abbrev pub place : Expr → Expr
  place turn = Mod (FloorDiv turn (Const (pos 16))) (Const (pos buffers))

  abbrev pub at_turn : Expr → List Expr → Access
  at_turn turn es = record { map = record { dims = 1; syms = 0; results = place turn ∷ es }; operands = it ∷ [] }

  -- A's element i in the ring, which is that of i less the tile's begin
  abbrev pub at_element : Name → Access
  at_element from = record { map = record { dims = 3; syms = 0; results = place (Dim 2) ∷ Sub (Dim 0) (Dim 1) ∷ [] }; operands = i ∷ from ∷ it ∷ [] }

  abbrev pub begins_at : Name → Expr → Nest → Nest
  begins_at n e rest = Does 0 (Value n Apply (at e it)) rest

  abbrev pub start_in : Name → Expr → Nest → Nest
  start_in from turn rest = Does 0
      (Start A (at (Dim 0) from) fast (at_turn turn (Const (pos 0) ∷ [])) tags (at_turn turn []) count None (slow 64 ∷ ring ∷ ring_tags ∷ [])) rest

  abbrev pub start_out : Name → Nest → Nest
  start_out from rest = Does 0
      (Start fast (at_turn (Dim 0) (Const (pos 0) ∷ [])) A (at (Dim 0) from) tags (at_turn (Dim 0) []) count None (ring ∷ slow 64 ∷ ring_tags ∷ [])) rest

  abbrev pub wait : Nest → Nest
  wait rest = Does 0 (Wait tags (at_turn (Dim 0) []) count ring_tags) rest

  abbrev pub opened : Nest → Nest
  opened rest = Does 0 (Constant count (pos 16) scalar.Index) (Does 0 (Alloc fast ring) (Does 0 (Alloc tags ring_tags) rest))

  abbrev pub closed : Nest
  closed = Does 0 (Dealloc fast ring) (Does 0 (Dealloc tags ring_tags) (Does 10 Return Nothing))

  abbrev pub over : ℕ → ℤ → ℤ → Nest → Nest → Nest
  over line l u body rest = Loop line it (bound.Int l) (bound.Int u) (pos 16) body rest

  abbrev pub tile_loop : Nest → Nest → Nest
  tile_loop body rest = Loop 3 i (bound.Map (at (Dim 0) it)) (bound.Map (at (Add (Dim 0) (Const (pos 16))) it)) (pos 1) body rest

  -- ---- inward: each element of the tile is raised
  abbrev pub raised_in_ring : Name → Nest
  raised_in_ring from =
      Does 4 (Load loaded fast (at_element from) ring)
      (Does 5 (Constant c (pos 1) (scalar.Int I32))
      (Does 6 (Binary raised op.Add loaded c (scalar.Int I32))
      (Does 7 (Store raised fast (at_element from) ring) Nothing)))

  abbrev pub turn : Name → Nest
  turn from = begins_at from (Dim 0) (wait (tile_loop (raised_in_ring from) (start_out from (wait Nothing))))

  -- transfers are so far ahead; where the first loop ends, the second one, and where the third begins
  abbrev pub three_loops : ℤ → ℤ → ℤ → ℤ → Nest
  three_loops ahead first_end main_end last_begin = opened
      (over 0 (pos 0) first_end (begins_at other_ahead (Dim 0) (start_in other_ahead (Dim 0) Nothing))
      (over 2 (pos 0) main_end (begins_at begin_ahead (Add (Dim 0) (Const ahead)) (start_in begin_ahead (Add (Dim 0) (Const ahead)) (turn tile_begin)))
      (over 0 last_begin (pos 64) (turn other_begin) closed)))

  -- ---- outward: each element of the tile becomes 7
  abbrev pub sevens_in_ring : Nest
  sevens_in_ring = Does 4 (Constant c (pos 7) (scalar.Int I32)) (Does 5 (Store c fast (at_element tile_begin) ring) Nothing)

  abbrev pub from_turn : ℤ → Set
  from_turn z = record { dims = 1; syms = 0; rows = record { left = Dim 0; rel = rel.Ge; right = Const z } ∷ [] }

  -- from which turn on the ring has come round, and from which on transfers are still under way behind the loop
  abbrev pub one_loop : ℤ → ℤ → Nest
  one_loop round_again last_begin = opened
      (over 2 (pos 0) (pos 64)
      (begins_at tile_begin (Dim 0) (Branch 0 (from_turn round_again) (it ∷ []) (wait Nothing) false Nothing (tile_loop sevens_in_ring (start_out tile_begin Nothing))))
      (over 0 last_begin (pos 64) (wait Nothing) closed))

-- 64 numbers, each made 7, in tiles of 16
abbrev pub sevens : Module
sevens = record {
  name = codes "f";
  args = memref_a 64;
  body =
      stmt 2 (For it (bound.Int (pos 0)) (bound.Int (pos 64)) (pos 16) (
      stmt 3 (For i (bound.Map (at (Dim 0) it)) (bound.Map (at (Add (Dim 0) (Const (pos 16))) it)) (pos 1) (
      stmt 4 (ConstantIs c (pos 7) (scalar.Int I32)) ∷ stmt 5 (StoreIn c A (at (Dim 0) i) (slow 64)) ∷ [])) ∷ []))
      ∷ stmt 10 Returns ∷ [];
}

-- the same of 65 numbers, of which each tile's turn reads the last one
abbrev pub last_number : Access
last_number = record { map = record { dims = 0; syms = 0; results = Const (pos 64) ∷ [] }; operands = [] }

abbrev pub sevens_read : Module
sevens_read = record {
  name = codes "f";
  args = memref_a 65;
  body =
      stmt 2 (For it (bound.Int (pos 0)) (bound.Int (pos 64)) (pos 16) (
      stmt 3 (For i (bound.Map (at (Dim 0) it)) (bound.Map (at (Add (Dim 0) (Const (pos 16))) it)) (pos 1) (
      stmt 4 (ConstantIs c (pos 7) (scalar.Int I32)) ∷ stmt 5 (StoreIn c A (at (Dim 0) i) (slow 65)) ∷ []))
      ∷ stmt 7 (LoadFrom loaded A last_number (slow 65)) ∷ []))
      ∷ stmt 10 Returns ∷ [];
}
