-- A text in which each start is waited for at once stays one when a placement is staged.
use Rattle.std.proofs.Common.{◌≡◌, ℕ, suc, List, [], ◌∷◌, refl, sym, subst, Bool, true, false}
use Rattle.std.specs.Prelude.{ℤ, Some, None, if◌then◌else◌}
use Rattle.affine_expr.specs.declared.expr.Expr.{Const}
use Rattle.affine_ast.specs.declared.name.Name.{Name}
use Rattle.affine_ast.specs.declared.types.Access.{Access}
use Rattle.affine_ast.specs.declared.types.MemrefType.{MemrefType}
use Rattle.affine_ast.specs.declared.types.Pick.TheVariants.{Apply, Min, Max}
use Rattle.affine_ast.specs.Names.{same_name}
use Rattle.affine_ast.specs.Nest.{Plain, Nest, Nothing, Loop, Branch, Does, Value, Load, Store, RawLoad, RawStore, Constant, Binary, Cast, Alloc, Dealloc, Start, Wait, Return, followed_by}
use Rattle.placement_texts.specs.Mapped.{mapped}
use Rattle.placement_texts.specs.Template.{Dimension, Placement, How, Copies, Transfers, fast_name, least_name, place_name, in_turn, out_turn, fast_type, in_fast, begins, over_terms, form, last_place, value_or_zero, place_statement, places_from, loops, constants, allocs, deallocs, where_so, read_in, write_out, before, behind_loop, redirect}
use Rattle.placement_texts.specs.Spots.{Spot, Here, Behind, Inside, Other, staged_at}
use Rattle.staging_laws.specs.Spared.{WaitsNext, WaitedFor}

-- a start's wait is the first statement of what follows
record IsWait (t : Name) (at : Access) (types : List MemrefType) (rest : Nest) : Type 0 where
  line : ℕ
  count : Name
  type : MemrefType
  more : Nest
  is : rest ≡ Does line (Wait t at count type) more
  stays : (other : Nest) → WaitsNext t at types (Does line (Wait t at count type) other)

is_wait : (t : Name) (at : Access) (types : List MemrefType) (rest : Nest) → WaitsNext t at types rest → IsWait t at types rest
is_wait t at (a_ty ∷ b_ty ∷ t_ty ∷ []) (Does line (Wait u u_at n ty) more) h = record { line = line; count = n; type = ty; more = more; is = (λ i. Does line (Wait (h.0 i) (h.1 i) n ty) more); stays = λ other. (refl, refl, h.2) }
is_wait t at [] rest h = absurd h
is_wait t at (a_ty ∷ []) rest h = absurd h
is_wait t at (a_ty ∷ b_ty ∷ []) rest h = absurd h
is_wait t at (a_ty ∷ b_ty ∷ t_ty ∷ []) Nothing h = absurd h
is_wait t at (a_ty ∷ b_ty ∷ t_ty ∷ []) (Loop line' v l u' s body rest) h = absurd h
is_wait t at (a_ty ∷ b_ty ∷ t_ty ∷ []) (Branch line' set ns first has other rest) h = absurd h
is_wait t at (a_ty ∷ b_ty ∷ t_ty ∷ []) (Does line' (Value r pick x) more) h = absurd h
is_wait t at (a_ty ∷ b_ty ∷ t_ty ∷ []) (Does line' (Load r m x ty) more) h = absurd h
is_wait t at (a_ty ∷ b_ty ∷ t_ty ∷ []) (Does line' (Store x m y ty) more) h = absurd h
is_wait t at (a_ty ∷ b_ty ∷ t_ty ∷ []) (Does line' (RawLoad r m x ty) more) h = absurd h
is_wait t at (a_ty ∷ b_ty ∷ t_ty ∷ []) (Does line' (RawStore x m y ty) more) h = absurd h
is_wait t at (a_ty ∷ b_ty ∷ t_ty ∷ []) (Does line' (Constant r z ty) more) h = absurd h
is_wait t at (a_ty ∷ b_ty ∷ t_ty ∷ []) (Does line' (Binary r op x y ty) more) h = absurd h
is_wait t at (a_ty ∷ b_ty ∷ t_ty ∷ []) (Does line' (Cast r kind x from to) more) h = absurd h
is_wait t at (a_ty ∷ b_ty ∷ t_ty ∷ []) (Does line' (Alloc r ty) more) h = absurd h
is_wait t at (a_ty ∷ b_ty ∷ t_ty ∷ []) (Does line' (Dealloc m ty) more) h = absurd h
is_wait t at (a_ty ∷ b_ty ∷ t_ty ∷ []) (Does line' (Start x x_at y y_at z z_at m st tys) more) h = absurd h
is_wait t at (a_ty ∷ b_ty ∷ t_ty ∷ []) (Does line' Return more) h = absurd h
is_wait t at (a_ty ∷ b_ty ∷ t_ty ∷ u_ty ∷ types) rest h = absurd h

-- a change of the rest that leaves a wait where it is
next_kept : (t : Name) (at : Access) (types : List MemrefType) (rest : Nest) (change : Nest → Nest) → ((line : ℕ) (count : Name) (type : MemrefType) (more : Nest) → (other : Nest) × (change (Does line (Wait t at count type) more) ≡ Does line (Wait t at count type) other))
    → WaitsNext t at types rest → WaitsNext t at types (change rest)
next_kept t at types rest change keeps h =
    let w = is_wait t at types rest h in
    let k = keeps w.line w.count w.type w.more in
    subst (λ n. WaitsNext t at types (change n)) (sym w.is) (subst (WaitsNext t at types) (sym k.1) (w.stays k.0))

later : (line : ℕ) (q : Plain) (rest : Nest) → WaitedFor (Does line q rest) → WaitedFor rest
later line (Value r pick at) rest h = h
later line (Load r m at ty) rest h = h
later line (Store x m at ty) rest h = h
later line (RawLoad r m at ty) rest h = h
later line (RawStore x m at ty) rest h = h
later line (Constant r z ty) rest h = h
later line (Binary r op a b ty) rest h = h
later line (Cast r kind x from to) rest h = h
later line (Alloc r ty) rest h = h
later line (Dealloc m ty) rest h = h
later line (Wait t at n ty) rest h = h
later line Return rest h = h
later line (Start a a_at b b_at t t_at n stride types) rest h = h.1

changed : (change : Nest → Nest) → ((t : Name) (at : Access) (line : ℕ) (count : Name) (type : MemrefType) (more : Nest) → (other : Nest) × (change (Does line (Wait t at count type) more) ≡ Does line (Wait t at count type) other))
    → (line : ℕ) (q : Plain) (rest : Nest) → WaitedFor (Does line q rest) → WaitedFor (change rest) → WaitedFor (Does line q (change rest))
changed change keeps line (Value r pick at) rest h k = k
changed change keeps line (Load r m at ty) rest h k = k
changed change keeps line (Store x m at ty) rest h k = k
changed change keeps line (RawLoad r m at ty) rest h k = k
changed change keeps line (RawStore x m at ty) rest h k = k
changed change keeps line (Constant r z ty) rest h k = k
changed change keeps line (Binary r op a b ty) rest h k = k
changed change keeps line (Cast r kind x from to) rest h k = k
changed change keeps line (Alloc r ty) rest h k = k
changed change keeps line (Dealloc m ty) rest h k = k
changed change keeps line (Wait t at n ty) rest h k = k
changed change keeps line Return rest h k = k
changed change keeps line (Start a a_at b b_at t t_at n stride types) rest h k = (next_kept t t_at types rest change (keeps t t_at) h.0, k)

-- ---- a text with its loads and stores redirected
module _ (p : Placement) where
  redirected : (n : Nest) → WaitedFor n → WaitedFor (mapped (redirect p) n)
  redirected Nothing h = tt
  redirected (Loop line v l u s body rest) h = (redirected body h.0, redirected rest h.1)
  redirected (Branch line set ns first has other rest) h = (redirected first h.0, redirected other h.1, redirected rest h.2)
  redirected (Does line (Value r pick at) rest) h = redirected rest h
  redirected (Does line (Load r m at ty) rest) h = one (same_name p.memref m) (redirected rest h)
    where
      one : (b : Bool) → WaitedFor (mapped (redirect p) rest) → WaitedFor (Does line (if b then Load r (fast_name p.name) (in_fast (begins p) at) (fast_type p) else Load r m at ty) (mapped (redirect p) rest))
      one true k = k
      one false k = k
  redirected (Does line (Store x m at ty) rest) h = one (same_name p.memref m) (redirected rest h)
    where
      one : (b : Bool) → WaitedFor (mapped (redirect p) rest) → WaitedFor (Does line (if b then Store x (fast_name p.name) (in_fast (begins p) at) (fast_type p) else Store x m at ty) (mapped (redirect p) rest))
      one true k = k
      one false k = k
  redirected (Does line (RawLoad r m at ty) rest) h = redirected rest h
  redirected (Does line (RawStore x m at ty) rest) h = redirected rest h
  redirected (Does line (Constant r z ty) rest) h = redirected rest h
  redirected (Does line (Binary r op a b ty) rest) h = redirected rest h
  redirected (Does line (Cast r kind x from to) rest) h = redirected rest h
  redirected (Does line (Alloc r ty) rest) h = redirected rest h
  redirected (Does line (Dealloc m ty) rest) h = redirected rest h
  redirected (Does line (Wait t at n ty) rest) h = redirected rest h
  redirected (Does line Return rest) h = redirected rest h
  redirected (Does line (Start a a_at b b_at t t_at n stride types) rest) h = (next_kept t t_at types rest (mapped (redirect p)) (λ line count type more. (mapped (redirect p) more, refl)) h.0, redirected rest h.1)

  -- ---- the template
  loops_waits : (turn : ℕ → Name) (d : ℕ) (dims : List Dimension) (inner : Nest) → WaitedFor inner → WaitedFor (loops turn d dims inner)
  loops_waits turn d [] inner h = h
  loops_waits turn d (dim ∷ dims) inner h = (loops_waits turn (suc d) dims inner h, tt)

  followed_loops : (turn : ℕ → Name) (d : ℕ) (dims : List Dimension) (inner rest : Nest) → WaitedFor inner → WaitedFor (followed_by inner rest) → WaitedFor rest → WaitedFor (followed_by (loops turn d dims inner) rest)
  followed_loops turn d [] inner rest h k r = k
  followed_loops turn d (dim ∷ dims) inner rest h k r = (loops_waits turn (suc d) dims inner h, r)

  in_waits : (how : How) (rest : Nest) → WaitedFor rest → WaitedFor (followed_by (read_in p how) rest)
  in_waits Copies rest h = followed_loops (in_turn p.name) 0 p.dims _ rest tt h h
  in_waits (Transfers chunks) rest h = ((refl, refl, refl), h)

  out_waits : (how : How) (rest : Nest) → WaitedFor rest → WaitedFor (followed_by (write_out p how) rest)
  out_waits Copies rest h = followed_loops (out_turn p.name) 0 p.dims _ rest tt h h
  out_waits (Transfers chunks) rest h = ((refl, refl, refl), h)

  so_in : (b : Bool) (how : How) (rest : Nest) → WaitedFor rest → WaitedFor (where_so p b (read_in p how) rest)
  so_in true how rest h = in_waits how rest h
  so_in false how rest h = h

  so_out : (b : Bool) (how : How) (rest : Nest) → WaitedFor rest → WaitedFor (where_so p b (write_out p how) rest)
  so_out true how rest h = out_waits how rest h
  so_out false how rest h = h

  allocs_wait : (how : How) (rest : Nest) → WaitedFor rest → WaitedFor (allocs p how rest)
  allocs_wait Copies rest h = h
  allocs_wait (Transfers chunks) rest h = h

  deallocs_wait : (how : How) (rest : Nest) → WaitedFor rest → WaitedFor (deallocs p how rest)
  deallocs_wait Copies rest h = h
  deallocs_wait (Transfers chunks) rest h = h

  constants_wait : (how : How) (rest : Nest) → WaitedFor rest → WaitedFor (constants p how rest)
  constants_wait Copies rest h = h
  constants_wait (Transfers None) rest h = h
  constants_wait (Transfers (Some two)) rest h = h

  place_waits : (k : ℕ) (d : Dimension) (ts : List (Name × ℤ)) (rest : Nest) → WaitedFor rest → WaitedFor (place_statement p.name k d ts rest)
  place_waits k d [] rest h = h
  place_waits k d (t ∷ ts) rest h = one d.clamped
    where
      one : (b : Bool) → WaitedFor (if b
          then Does 0 (Value (least_name p.name k) Min (over_terms (t ∷ ts) (form (t ∷ ts) d.offset ∷ Const (last_place d) ∷ []))) (Does 0 (Value (place_name p.name k) Max (value_or_zero (least_name p.name k))) rest)
          else Does 0 (Value (place_name p.name k) Apply (over_terms (t ∷ ts) (form (t ∷ ts) d.offset ∷ []))) rest)
      one true = h
      one false = h

  places_wait : (k : ℕ) (ds : List Dimension) (rest : Nest) → WaitedFor rest → WaitedFor (places_from p.name k ds rest)
  places_wait k [] rest h = h
  places_wait k (d ∷ ds) rest h = place_waits k d d.terms (places_from p.name (suc k) ds rest) (places_wait (suc k) ds rest h)

  before_waits : (rest : Nest) → WaitedFor rest → WaitedFor (before p rest)
  before_waits rest h =
      let so = where_so p p.reads (read_in p p.how) rest in
      places_wait 0 p.dims (constants p p.how (allocs p p.how so)) (constants_wait p.how (allocs p p.how so) (allocs_wait p.how so (so_in p.reads p.how rest h)))

  behind_waits : (rest : Nest) → WaitedFor rest → WaitedFor (behind_loop p rest)
  behind_waits rest h = so_out p.writes p.how (deallocs p p.how rest) (deallocs_wait p.how rest h)

  wait_stays : (s : Spot) (t : Name) (at : Access) (line : ℕ) (count : Name) (type : MemrefType) (more : Nest) → (other : Nest) × (staged_at p s (Does line (Wait t at count type) more) ≡ Does line (Wait t at count type) other)
  wait_stays Here t at line count type more = (more, refl)
  wait_stays (Behind s) t at line count type more = (staged_at p s more, refl)
  wait_stays (Inside s) t at line count type more = (more, refl)
  wait_stays (Other s) t at line count type more = (more, refl)

  pub waited_staged : (s : Spot) (n : Nest) → WaitedFor n → WaitedFor (staged_at p s n)
  waited_staged s Nothing h = tt
  waited_staged Here (Loop line v l u step body rest) h = before_waits (Loop line v l u step (mapped (redirect p) body) (behind_loop p rest)) (redirected body h.0, behind_waits rest h.1)
  waited_staged (Behind s) (Loop line v l u step body rest) h = (h.0, waited_staged s rest h.1)
  waited_staged (Inside s) (Loop line v l u step body rest) h = (waited_staged s body h.0, h.1)
  waited_staged (Other s) (Loop line v l u step body rest) h = h
  waited_staged Here (Branch line set ns first has other rest) h = h
  waited_staged (Behind s) (Branch line set ns first has other rest) h = (h.0, h.1, waited_staged s rest h.2)
  waited_staged (Inside s) (Branch line set ns first has other rest) h = (waited_staged s first h.0, h.1, h.2)
  waited_staged (Other s) (Branch line set ns first has other rest) h = (h.0, waited_staged s other h.1, h.2)
  waited_staged (Behind s) (Does line q rest) h = changed (staged_at p s) (wait_stays s) line q rest h (waited_staged s rest (later line q rest h))
  waited_staged Here (Does line q rest) h = h
  waited_staged (Inside s) (Does line q rest) h = h
  waited_staged (Other s) (Does line q rest) h = h
