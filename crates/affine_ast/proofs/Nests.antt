-- What a statement becomes among the statements of a list, one equation for each kind.
use Rattle.std.proofs.Common.{◌≡◌, ℕ, ℤ, true, false, List, [], ◌∷◌, ◌++◌, map, refl, sym, ap, ◌∙◌}
use Rattle.std.specs.Prelude.{Option, Some, None}
use Rattle.affine_expr.specs.declared.map.Set.{Set}
use Rattle.int_ops.specs.declared.operation.CastKind.{CastKind}
use Rattle.int_ops.specs.declared.operation.Op.{Op}
use Rattle.affine_ast.specs.declared.name.Name.{Name}
use Rattle.affine_ast.specs.declared.types.Access.{Access}
use Rattle.affine_ast.specs.declared.types.Bound.{Bound}
use Rattle.affine_ast.specs.declared.types.MemrefType.{MemrefType}
use Rattle.affine_ast.specs.declared.types.Pick.{Pick}
use Rattle.affine_ast.specs.declared.types.Scalar.{Scalar}
use Rattle.affine_ast.specs.declared.stmt.Stmt.{Stmt, fold-roll-Stmt}
use Rattle.affine_ast.specs.declared.stmt.What as what
use Rattle.affine_ast.specs.declared.stmt.What.{What, fold-roll-What}
use Rattle.affine_ast.specs.declared.stmt.What.TheOpen.{What-F}
use Rattle.affine_ast.specs.declared.stmt.What.TheVariants.{rolls-For, rolls-If, rolls-Value, rolls-Load, rolls-Store, rolls-RawLoad, rolls-RawStore, rolls-Constant, rolls-Binary, rolls-Cast, rolls-Alloc, rolls-Dealloc, rolls-Start, rolls-Wait, rolls-Return}
use Rattle.affine_ast.specs.Nest.{Nest, Nothing, Loop, Branch, Does, Value, Load, Store, RawLoad, RawStore, Constant, Binary, Cast, Alloc, Dealloc, Start, Wait, Return, followed_by, Puts, joined, put_layer, put_stmt_layer, put_what, put_stmt, nest, head_plain, head_is_region, plain_of, is_region}

-- the statements of a list, each put before the next
pub joined_is : (ss : List Stmt) → joined (map put_stmt ss) ≡ nest ss
unfolding nest
joined_is [] = refl
joined_is (s ∷ ss) = ap (put_stmt s) (joined_is ss)

-- a statement is its `what` at its line
pub put_stmt_is : (line : ℕ) (w : What) (rest : Nest) → put_stmt (record { line = line; what = w }) rest ≡ put_what w line rest
unfolding put_stmt put_what
put_stmt_is line w rest = ap (λ f. f rest) (fold-roll-Stmt (ℕ → Puts) Puts put_layer put_stmt_layer (record { line = line; what = w }))

pub nest-nil : nest [] ≡ Nothing
unfolding nest
nest-nil = refl

pub nest-cons : (s : Stmt) (ss : List Stmt) → nest (s ∷ ss) ≡ put_what s.what s.line (nest ss)
unfolding nest
nest-cons s ss = put_stmt_is s.line s.what (nest ss)

module _ (line : ℕ) (rest : Nest) where
  pub put_what_is : (x : What-F What Stmt) (w : What) → what.roll-What x ≡ w → put_what w line rest ≡ put_layer (what.map-What What Stmt (ℕ → Puts) Puts put_what put_stmt x) line rest
  unfolding put_what put_stmt
  put_what_is x w rolls = ap (λ w. put_what w line rest) (sym rolls) ∙ ap (λ f. f line rest) (fold-roll-What (ℕ → Puts) Puts put_layer put_stmt_layer x)

  pub put-For : (v : Name) (l u : Bound) (s : ℤ) (body : List Stmt) → put_what (what.For v l u s body) line rest ≡ Loop line v l u s (nest body) rest
  put-For v l u s body = put_what_is (What-F.For v l u s body) _ (rolls-For v l u s body) ∙ ap (λ b. Loop line v l u s b rest) (joined_is body)

  pub put-If : (set : Set) (names : List Name) (first : List Stmt) → put_what (what.If set names first None) line rest ≡ Branch line set names (nest first) false Nothing rest
  put-If set names first = put_what_is (What-F.If set names first None) _ (rolls-If set names first None) ∙ ap (λ b. Branch line set names b false Nothing rest) (joined_is first)

  pub put-If-else : (set : Set) (names : List Name) (first other : List Stmt) → put_what (what.If set names first (Some other)) line rest ≡ Branch line set names (nest first) true (nest other) rest
  put-If-else set names first other =
      put_what_is (What-F.If set names first (Some other)) _ (rolls-If set names first (Some other))
      ∙ (λ i. Branch line set names (joined_is first i) true (joined_is other i) rest)

  pub put-Value : (r : Name) (pick : Pick) (at : Access) → put_what (what.Value r pick at) line rest ≡ Does line (Value r pick at) rest
  put-Value r pick at = put_what_is (What-F.Value r pick at) _ (rolls-Value r pick at)

  pub put-Load : (r m : Name) (at : Access) (ty : MemrefType) → put_what (what.Load r m at ty) line rest ≡ Does line (Load r m at ty) rest
  put-Load r m at ty = put_what_is (What-F.Load r m at ty) _ (rolls-Load r m at ty)

  pub put-Store : (x m : Name) (at : Access) (ty : MemrefType) → put_what (what.Store x m at ty) line rest ≡ Does line (Store x m at ty) rest
  put-Store x m at ty = put_what_is (What-F.Store x m at ty) _ (rolls-Store x m at ty)

  pub put-RawLoad : (r m : Name) (at : List Name) (ty : MemrefType) → put_what (what.RawLoad r m at ty) line rest ≡ Does line (RawLoad r m at ty) rest
  put-RawLoad r m at ty = put_what_is (What-F.RawLoad r m at ty) _ (rolls-RawLoad r m at ty)

  pub put-RawStore : (x m : Name) (at : List Name) (ty : MemrefType) → put_what (what.RawStore x m at ty) line rest ≡ Does line (RawStore x m at ty) rest
  put-RawStore x m at ty = put_what_is (What-F.RawStore x m at ty) _ (rolls-RawStore x m at ty)

  pub put-Constant : (r : Name) (z : ℤ) (ty : Scalar) → put_what (what.Constant r z ty) line rest ≡ Does line (Constant r z ty) rest
  put-Constant r z ty = put_what_is (What-F.Constant r z ty) _ (rolls-Constant r z ty)

  pub put-Binary : (r : Name) (op : Op) (a b : Name) (ty : Scalar) → put_what (what.Binary r op a b ty) line rest ≡ Does line (Binary r op a b ty) rest
  put-Binary r op a b ty = put_what_is (What-F.Binary r op a b ty) _ (rolls-Binary r op a b ty)

  pub put-Cast : (r : Name) (kind : CastKind) (x : Name) (from to : Scalar) → put_what (what.Cast r kind x from to) line rest ≡ Does line (Cast r kind x from to) rest
  put-Cast r kind x from to = put_what_is (What-F.Cast r kind x from to) _ (rolls-Cast r kind x from to)

  pub put-Alloc : (r : Name) (ty : MemrefType) → put_what (what.Alloc r ty) line rest ≡ Does line (Alloc r ty) rest
  put-Alloc r ty = put_what_is (What-F.Alloc r ty) _ (rolls-Alloc r ty)

  pub put-Dealloc : (m : Name) (ty : MemrefType) → put_what (what.Dealloc m ty) line rest ≡ Does line (Dealloc m ty) rest
  put-Dealloc m ty = put_what_is (What-F.Dealloc m ty) _ (rolls-Dealloc m ty)

  pub put-Start : (a : Name) (aa : Access) (b : Name) (bb : Access) (t : Name) (ta : Access) (n : Name) (stride : Option (Name × Name)) (types : List MemrefType)
      → put_what (what.Start a aa b bb t ta n stride types) line rest ≡ Does line (Start a aa b bb t ta n stride types) rest
  put-Start a aa b bb t ta n stride types = put_what_is (What-F.Start a aa b bb t ta n stride types) _ (rolls-Start a aa b bb t ta n stride types)

  pub put-Wait : (t : Name) (at : Access) (n : Name) (ty : MemrefType) → put_what (what.Wait t at n ty) line rest ≡ Does line (Wait t at n ty) rest
  put-Wait t at n ty = put_what_is (What-F.Wait t at n ty) _ (rolls-Wait t at n ty)

  pub put-Return : put_what what.Return line rest ≡ Does line Return rest
  put-Return = put_what_is What-F.Return _ rolls-Return

layer_followed : (x : What-F (ℕ → Puts) Puts) (line : ℕ) (rest b : Nest) → followed_by (put_layer x line rest) b ≡ put_layer x line (followed_by rest b)
layer_followed (What-F.For v l u s body) line rest b = refl
layer_followed (What-F.If set names first other) line rest b = refl
layer_followed x line rest b = refl

-- a statement before others, with more behind those
pub put-followed : (w : What) (line : ℕ) (rest b : Nest) → followed_by (put_what w line rest) b ≡ put_what w line (followed_by rest b)
put-followed w line rest b =
    let parts = what.map-What What Stmt (ℕ → Puts) Puts put_what put_stmt (what.out-What w) in
    ap (λ n. followed_by n b) (put_what_is line rest (what.out-What w) w (what.roll-out-What w))
    ∙ layer_followed parts line rest b
    ∙ sym (put_what_is line (followed_by rest b) (what.out-What w) w (what.roll-out-What w))

-- statements behind statements
pub nest-append : (xs ys : List Stmt) → nest (xs ++ ys) ≡ followed_by (nest xs) (nest ys)
nest-append [] ys = ap (λ n. followed_by n (nest ys)) (sym nest-nil)
nest-append (s ∷ ss) ys =
    nest-cons s (ss ++ ys)
    ∙ ap (put_what s.what s.line) (nest-append ss ys)
    ∙ sym (put-followed s.what s.line (nest ss) (nest ys))
    ∙ ap (λ n. followed_by n (nest ys)) (sym (nest-cons s ss))

pub ruleset nests = (nest-nil, nest-cons, put-For, put-If, put-If-else, put-Value, put-Load, put-Store, put-RawLoad, put-RawStore, put-Constant, put-Binary, put-Cast, put-Alloc, put-Dealloc, put-Start, put-Wait, put-Return)

-- ---- statements without a region

pub plain-Value : (r : Name) (pick : Pick) (at : Access) → plain_of (what.Value r pick at) ≡ Value r pick at
unfolding plain_of
plain-Value r pick at = ap head_plain (put-Value 0 Nothing r pick at)

pub region-Value : (r : Name) (pick : Pick) (at : Access) → is_region (what.Value r pick at) ≡ false
unfolding is_region
region-Value r pick at = ap head_is_region (put-Value 0 Nothing r pick at)

pub plain-Load : (r m : Name) (at : Access) (ty : MemrefType) → plain_of (what.Load r m at ty) ≡ Load r m at ty
unfolding plain_of
plain-Load r m at ty = ap head_plain (put-Load 0 Nothing r m at ty)

pub region-Load : (r m : Name) (at : Access) (ty : MemrefType) → is_region (what.Load r m at ty) ≡ false
unfolding is_region
region-Load r m at ty = ap head_is_region (put-Load 0 Nothing r m at ty)

pub plain-Store : (x m : Name) (at : Access) (ty : MemrefType) → plain_of (what.Store x m at ty) ≡ Store x m at ty
unfolding plain_of
plain-Store x m at ty = ap head_plain (put-Store 0 Nothing x m at ty)

pub region-Store : (x m : Name) (at : Access) (ty : MemrefType) → is_region (what.Store x m at ty) ≡ false
unfolding is_region
region-Store x m at ty = ap head_is_region (put-Store 0 Nothing x m at ty)

pub plain-RawLoad : (r m : Name) (at : List Name) (ty : MemrefType) → plain_of (what.RawLoad r m at ty) ≡ RawLoad r m at ty
unfolding plain_of
plain-RawLoad r m at ty = ap head_plain (put-RawLoad 0 Nothing r m at ty)

pub region-RawLoad : (r m : Name) (at : List Name) (ty : MemrefType) → is_region (what.RawLoad r m at ty) ≡ false
unfolding is_region
region-RawLoad r m at ty = ap head_is_region (put-RawLoad 0 Nothing r m at ty)

pub plain-RawStore : (x m : Name) (at : List Name) (ty : MemrefType) → plain_of (what.RawStore x m at ty) ≡ RawStore x m at ty
unfolding plain_of
plain-RawStore x m at ty = ap head_plain (put-RawStore 0 Nothing x m at ty)

pub region-RawStore : (x m : Name) (at : List Name) (ty : MemrefType) → is_region (what.RawStore x m at ty) ≡ false
unfolding is_region
region-RawStore x m at ty = ap head_is_region (put-RawStore 0 Nothing x m at ty)

pub plain-Constant : (r : Name) (z : ℤ) (ty : Scalar) → plain_of (what.Constant r z ty) ≡ Constant r z ty
unfolding plain_of
plain-Constant r z ty = ap head_plain (put-Constant 0 Nothing r z ty)

pub region-Constant : (r : Name) (z : ℤ) (ty : Scalar) → is_region (what.Constant r z ty) ≡ false
unfolding is_region
region-Constant r z ty = ap head_is_region (put-Constant 0 Nothing r z ty)

pub plain-Binary : (r : Name) (op : Op) (a b : Name) (ty : Scalar) → plain_of (what.Binary r op a b ty) ≡ Binary r op a b ty
unfolding plain_of
plain-Binary r op a b ty = ap head_plain (put-Binary 0 Nothing r op a b ty)

pub region-Binary : (r : Name) (op : Op) (a b : Name) (ty : Scalar) → is_region (what.Binary r op a b ty) ≡ false
unfolding is_region
region-Binary r op a b ty = ap head_is_region (put-Binary 0 Nothing r op a b ty)

pub plain-Cast : (r : Name) (kind : CastKind) (x : Name) (from to : Scalar) → plain_of (what.Cast r kind x from to) ≡ Cast r kind x from to
unfolding plain_of
plain-Cast r kind x from to = ap head_plain (put-Cast 0 Nothing r kind x from to)

pub region-Cast : (r : Name) (kind : CastKind) (x : Name) (from to : Scalar) → is_region (what.Cast r kind x from to) ≡ false
unfolding is_region
region-Cast r kind x from to = ap head_is_region (put-Cast 0 Nothing r kind x from to)

pub plain-Alloc : (r : Name) (ty : MemrefType) → plain_of (what.Alloc r ty) ≡ Alloc r ty
unfolding plain_of
plain-Alloc r ty = ap head_plain (put-Alloc 0 Nothing r ty)

pub region-Alloc : (r : Name) (ty : MemrefType) → is_region (what.Alloc r ty) ≡ false
unfolding is_region
region-Alloc r ty = ap head_is_region (put-Alloc 0 Nothing r ty)

pub plain-Dealloc : (m : Name) (ty : MemrefType) → plain_of (what.Dealloc m ty) ≡ Dealloc m ty
unfolding plain_of
plain-Dealloc m ty = ap head_plain (put-Dealloc 0 Nothing m ty)

pub region-Dealloc : (m : Name) (ty : MemrefType) → is_region (what.Dealloc m ty) ≡ false
unfolding is_region
region-Dealloc m ty = ap head_is_region (put-Dealloc 0 Nothing m ty)

pub plain-Start : (a : Name) (aa : Access) (b : Name) (bb : Access) (t : Name) (ta : Access) (n : Name) (stride : Option (Name × Name)) (types : List MemrefType) → plain_of (what.Start a aa b bb t ta n stride types) ≡ Start a aa b bb t ta n stride types
unfolding plain_of
plain-Start a aa b bb t ta n stride types = ap head_plain (put-Start 0 Nothing a aa b bb t ta n stride types)

pub region-Start : (a : Name) (aa : Access) (b : Name) (bb : Access) (t : Name) (ta : Access) (n : Name) (stride : Option (Name × Name)) (types : List MemrefType) → is_region (what.Start a aa b bb t ta n stride types) ≡ false
unfolding is_region
region-Start a aa b bb t ta n stride types = ap head_is_region (put-Start 0 Nothing a aa b bb t ta n stride types)

pub plain-Wait : (t : Name) (at : Access) (n : Name) (ty : MemrefType) → plain_of (what.Wait t at n ty) ≡ Wait t at n ty
unfolding plain_of
plain-Wait t at n ty = ap head_plain (put-Wait 0 Nothing t at n ty)

pub region-Wait : (t : Name) (at : Access) (n : Name) (ty : MemrefType) → is_region (what.Wait t at n ty) ≡ false
unfolding is_region
region-Wait t at n ty = ap head_is_region (put-Wait 0 Nothing t at n ty)

pub plain-Return : plain_of what.Return ≡ Return
unfolding plain_of
plain-Return = ap head_plain (put-Return 0 Nothing)

pub region-Return : is_region what.Return ≡ false
unfolding is_region
region-Return = ap head_is_region (put-Return 0 Nothing)

pub plain-For : (v : Name) (l u : Bound) (s : ℤ) (body : List Stmt) → plain_of (what.For v l u s body) ≡ Return
unfolding plain_of
plain-For v l u s body = ap head_plain (put-For 0 Nothing v l u s body)

pub plain-If : (set : Set) (names : List Name) (first : List Stmt) (other : Option (List Stmt)) → plain_of (what.If set names first other) ≡ Return
unfolding plain_of
plain-If set names first None = ap head_plain (put-If 0 Nothing set names first)
plain-If set names first (Some other) = ap head_plain (put-If-else 0 Nothing set names first other)

pub ruleset plains = (plain-Value, plain-Load, plain-Store, plain-RawLoad, plain-RawStore, plain-Constant, plain-Binary, plain-Cast, plain-Alloc, plain-Dealloc, plain-Start, plain-Wait, plain-Return, plain-For, plain-If, region-Value, region-Load, region-Store, region-RawLoad, region-RawStore, region-Constant, region-Binary, region-Cast, region-Alloc, region-Dealloc, region-Start, region-Wait, region-Return)

pub region-For : (v : Name) (l u : Bound) (s : ℤ) (body : List Stmt) → is_region (what.For v l u s body) ≡ true
unfolding is_region
region-For v l u s body = ap head_is_region (put-For 0 Nothing v l u s body)

pub region-If : (set : Set) (names : List Name) (first : List Stmt) (other : Option (List Stmt)) → is_region (what.If set names first other) ≡ true
unfolding is_region
region-If set names first None = ap head_is_region (put-If 0 Nothing set names first)
region-If set names first (Some other) = ap head_is_region (put-If-else 0 Nothing set names first other)

pub ruleset regions = (region-For, region-If)

layer_plain : (x : What-F (ℕ → Puts) Puts) (line : ℕ) (rest : Nest) → head_is_region (put_layer x 0 Nothing) ≡ false → put_layer x line rest ≡ Does line (head_plain (put_layer x 0 Nothing)) rest
layer_plain (What-F.For v l u s body) line rest h = absurd (let z : ⊥ = cc in z)
layer_plain (What-F.If set names first other) line rest h = absurd (let z : ⊥ = cc in z)
layer_plain x line rest h = refl

-- a statement without a region is put as the plain one that it is
pub put_plain : (w : What) (line : ℕ) (rest : Nest) → is_region w ≡ false → put_what w line rest ≡ Does line (plain_of w) rest
unfolding is_region plain_of
put_plain w line rest h =
    let x = what.map-What What Stmt (ℕ → Puts) Puts put_what put_stmt (what.out-What w) in
    put_what_is line rest (what.out-What w) w (what.roll-out-What w)
    ∙ layer_plain x line rest (ap head_is_region (sym (put_what_is 0 Nothing (what.out-What w) w (what.roll-out-What w))) ∙ h)
    ∙ ap (λ n. Does line (head_plain n) rest) (sym (put_what_is 0 Nothing (what.out-What w) w (what.roll-out-What w)))

-- a statement that is no loop and no condition has no region
pub plain_unless : (w : What) → ((v : Name) (l u : Bound) (s : ℤ) (body : List Stmt) → w ≡ what.For v l u s body → ⊥)
    → ((set : Set) (names : List Name) (first : List Stmt) (other : Option (List Stmt)) → w ≡ what.If set names first other → ⊥) → is_region w ≡ false
unfolding is_region
plain_unless w no_loop no_condition = by (what.out-What w) (what.roll-out-What w)
  where
    by : (x : What-F What Stmt) → what.roll-What x ≡ w → head_is_region (put_what w 0 Nothing) ≡ false
    by (What-F.For v l u s body) e = absurd (no_loop v l u s body (sym e ∙ rolls-For v l u s body))
    by (What-F.If set names first other) e = absurd (no_condition set names first other (sym e ∙ rolls-If set names first other))
    by x e = ap head_is_region (put_what_is 0 Nothing x w e)
