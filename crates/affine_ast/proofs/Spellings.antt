-- The spelling of expressions and statements, one equation for each kind.
use Rattle.std.proofs.Common.{◌≡◌, ℕ, ◌+◌, ◌<◌, ℤ, true, List, [], ◌∷◌, ◌++◌, take, length, get_or, refl, sym, ap, ◌∙◌, append_assoc, append-nil}
use Rattle.std.proofs.lemmas.List.{take_more}
use Rattle.std.specs.Prelude.{Option, Some, None, codes}
use Rattle.affine_expr.specs.declared.expr.Expr.{Expr, Dim, Sym, Const, Neg, Add, Sub, Mul, FloorDiv, CeilDiv, Mod, fold-Expr, fold-roll-Expr}
use Rattle.affine_expr.specs.declared.expr.Expr.TheVariants.{rolls-Dim, rolls-Sym, rolls-Const, rolls-Neg, rolls-Add, rolls-Sub, rolls-Mul, rolls-FloorDiv, rolls-CeilDiv, rolls-Mod}
use Rattle.affine_expr.specs.declared.expr.Expr.TheOpen.{Expr-F}
use Rattle.affine_expr.specs.declared.map.Set.{Set}
use Rattle.int_ops.specs.declared.operation.CastKind.{CastKind}
use Rattle.int_ops.specs.declared.operation.Op.{Op}
use Rattle.affine_ast.specs.declared.name.Name.{Name}
use Rattle.affine_ast.specs.declared.types.Access.{Access}
use Rattle.affine_ast.specs.declared.types.Bound.{Bound}
use Rattle.affine_ast.specs.declared.types.MemrefType.{MemrefType}
use Rattle.affine_ast.specs.declared.types.Pick.{Pick}
use Rattle.affine_ast.specs.declared.types.Scalar.{Scalar}
use Rattle.affine_ast.specs.declared.stmt.Stmt.{Stmt}
use Rattle.affine_ast.specs.declared.stmt.What as what
use Rattle.affine_ast.specs.declared.stmt.What.{What}
use Rattle.affine_ast.specs.declared.stmt.What.TheOpen.{What-F}
use Rattle.affine_ast.specs.Nest.{Nest, Nothing, Puts, put_layer, put_what, put_stmt, nest}
use Rattle.affine_ast.specs.Spelling.{Leaves, Texts, as_sum, as_product, as_unary, as_literal, sum_text, product_text, texts_step, texts, line_text, block_text, for_text, if_text, else_text, deeper, lines, first_text, statement_text, value_text, load_text, store_text, raw_load_text, raw_store_text, constant_text, binary_text, cast_text, alloc_text, dealloc_text, ends_text, amount_text, wait_text}
use Rattle.affine_ast.proofs.Nests.{put_what_is, put-For, put-If, put-If-else, put-Value, put-Load, put-Store, put-RawLoad, put-RawStore, put-Constant, put-Binary, put-Cast, put-Alloc, put-Dealloc, put-Start, put-Wait, put-Return, nest-cons}

module _ (leaves : Leaves) where
  pub texts-Dim : (n : ℕ) → texts leaves (Dim n) ≡ as_unary (leaves.dimension n)
  unfolding texts
  texts-Dim n = ap (fold-Expr Texts (texts_step leaves)) (sym (rolls-Dim n)) ∙ fold-roll-Expr Texts (texts_step leaves) (Expr-F.Dim n)

  pub texts-Sym : (n : ℕ) → texts leaves (Sym n) ≡ as_unary (leaves.symbol n)
  unfolding texts
  texts-Sym n = ap (fold-Expr Texts (texts_step leaves)) (sym (rolls-Sym n)) ∙ fold-roll-Expr Texts (texts_step leaves) (Expr-F.Sym n)

  pub texts-Const : (z : ℤ) → texts leaves (Const z) ≡ as_literal z
  unfolding texts
  texts-Const z = ap (fold-Expr Texts (texts_step leaves)) (sym (rolls-Const z)) ∙ fold-roll-Expr Texts (texts_step leaves) (Expr-F.Const z)

  pub texts-Neg : (a : Expr) → texts leaves (Neg a) ≡ as_unary (codes "-" ++ (texts leaves a).negated)
  unfolding texts
  texts-Neg a = ap (fold-Expr Texts (texts_step leaves)) (sym (rolls-Neg a)) ∙ fold-roll-Expr Texts (texts_step leaves) (Expr-F.Neg a)

  pub texts-Add : (a b : Expr) → texts leaves (Add a b) ≡ as_sum (sum_text (texts leaves a) (codes " + ") (texts leaves b))
  unfolding texts
  texts-Add a b = ap (fold-Expr Texts (texts_step leaves)) (sym (rolls-Add a b)) ∙ fold-roll-Expr Texts (texts_step leaves) (Expr-F.Add a b)

  pub texts-Sub : (a b : Expr) → texts leaves (Sub a b) ≡ as_sum (sum_text (texts leaves a) (codes " - ") (texts leaves b))
  unfolding texts
  texts-Sub a b = ap (fold-Expr Texts (texts_step leaves)) (sym (rolls-Sub a b)) ∙ fold-roll-Expr Texts (texts_step leaves) (Expr-F.Sub a b)

  pub texts-Mul : (a b : Expr) → texts leaves (Mul a b) ≡ as_product (product_text (texts leaves a) (codes " * ") (texts leaves b))
  unfolding texts
  texts-Mul a b = ap (fold-Expr Texts (texts_step leaves)) (sym (rolls-Mul a b)) ∙ fold-roll-Expr Texts (texts_step leaves) (Expr-F.Mul a b)

  pub texts-FloorDiv : (a b : Expr) → texts leaves (FloorDiv a b) ≡ as_product (product_text (texts leaves a) (codes " floordiv ") (texts leaves b))
  unfolding texts
  texts-FloorDiv a b = ap (fold-Expr Texts (texts_step leaves)) (sym (rolls-FloorDiv a b)) ∙ fold-roll-Expr Texts (texts_step leaves) (Expr-F.FloorDiv a b)

  pub texts-CeilDiv : (a b : Expr) → texts leaves (CeilDiv a b) ≡ as_product (product_text (texts leaves a) (codes " ceildiv ") (texts leaves b))
  unfolding texts
  texts-CeilDiv a b = ap (fold-Expr Texts (texts_step leaves)) (sym (rolls-CeilDiv a b)) ∙ fold-roll-Expr Texts (texts_step leaves) (Expr-F.CeilDiv a b)

  pub texts-Mod : (a b : Expr) → texts leaves (Mod a b) ≡ as_product (product_text (texts leaves a) (codes " mod ") (texts leaves b))
  unfolding texts
  texts-Mod a b = ap (fold-Expr Texts (texts_step leaves)) (sym (rolls-Mod a b)) ∙ fold-roll-Expr Texts (texts_step leaves) (Expr-F.Mod a b)

pub ruleset expression_texts = (texts-Dim, texts-Sym, texts-Const, texts-Neg, texts-Add, texts-Sub, texts-Mul, texts-FloorDiv, texts-CeilDiv, texts-Mod)

-- ---- Statements

module _ (margin : List ℕ) where
  pub statement-For : (v : Name) (l u : Bound) (s : ℤ) (body : List Stmt)
      → statement_text margin (what.For v l u s body) ≡ block_text margin (for_text v l u s) (lines (deeper margin) (nest body))
  unfolding statement_text
  statement-For v l u s body = ap (first_text margin) (put-For 0 Nothing v l u s body)

  pub statement-If : (set : Set) (names : List Name) (first : List Stmt)
      → statement_text margin (what.If set names first None) ≡ block_text margin (if_text set names) (lines (deeper margin) (nest first))
  unfolding statement_text else_text
  statement-If set names first =
      ap (first_text margin) (put-If 0 Nothing set names first) ∙ ap (block_text margin (if_text set names)) (append-nil (lines (deeper margin) (nest first)))

  pub statement-If-else : (set : Set) (names : List Name) (first other : List Stmt)
      → statement_text margin (what.If set names first (Some other))
      ≡ block_text margin (if_text set names) (lines (deeper margin) (nest first) ++ else_text margin true (lines (deeper margin) (nest other)))
  unfolding statement_text
  statement-If-else set names first other = ap (first_text margin) (put-If-else 0 Nothing set names first other)

  pub statement-Value : (r : Name) (pick : Pick) (at : Access) → statement_text margin (what.Value r pick at) ≡ value_text r pick at
  unfolding statement_text
  statement-Value r pick at = ap (first_text margin) (put-Value 0 Nothing r pick at)

  pub statement-Load : (r m : Name) (at : Access) (ty : MemrefType) → statement_text margin (what.Load r m at ty) ≡ load_text r m at ty
  unfolding statement_text
  statement-Load r m at ty = ap (first_text margin) (put-Load 0 Nothing r m at ty)

  pub statement-Store : (x m : Name) (at : Access) (ty : MemrefType) → statement_text margin (what.Store x m at ty) ≡ store_text x m at ty
  unfolding statement_text
  statement-Store x m at ty = ap (first_text margin) (put-Store 0 Nothing x m at ty)

  pub statement-RawLoad : (r m : Name) (at : List Name) (ty : MemrefType) → statement_text margin (what.RawLoad r m at ty) ≡ raw_load_text r m at ty
  unfolding statement_text
  statement-RawLoad r m at ty = ap (first_text margin) (put-RawLoad 0 Nothing r m at ty)

  pub statement-RawStore : (x m : Name) (at : List Name) (ty : MemrefType) → statement_text margin (what.RawStore x m at ty) ≡ raw_store_text x m at ty
  unfolding statement_text
  statement-RawStore x m at ty = ap (first_text margin) (put-RawStore 0 Nothing x m at ty)

  pub statement-Constant : (r : Name) (z : ℤ) (ty : Scalar) → statement_text margin (what.Constant r z ty) ≡ constant_text r z ty
  unfolding statement_text
  statement-Constant r z ty = ap (first_text margin) (put-Constant 0 Nothing r z ty)

  pub statement-Binary : (r : Name) (op : Op) (a b : Name) (ty : Scalar) → statement_text margin (what.Binary r op a b ty) ≡ binary_text r op a b ty
  unfolding statement_text
  statement-Binary r op a b ty = ap (first_text margin) (put-Binary 0 Nothing r op a b ty)

  pub statement-Cast : (r : Name) (kind : CastKind) (x : Name) (from to : Scalar) → statement_text margin (what.Cast r kind x from to) ≡ cast_text r kind x from to
  unfolding statement_text
  statement-Cast r kind x from to = ap (first_text margin) (put-Cast 0 Nothing r kind x from to)

  pub statement-Alloc : (r : Name) (ty : MemrefType) → statement_text margin (what.Alloc r ty) ≡ alloc_text r ty
  unfolding statement_text
  statement-Alloc r ty = ap (first_text margin) (put-Alloc 0 Nothing r ty)

  pub statement-Dealloc : (m : Name) (ty : MemrefType) → statement_text margin (what.Dealloc m ty) ≡ dealloc_text m ty
  unfolding statement_text
  statement-Dealloc m ty = ap (first_text margin) (put-Dealloc 0 Nothing m ty)

  pub statement-Start : (a : Name) (aa : Access) (b : Name) (bb : Access) (t : Name) (ta : Access) (n : Name) (stride : Option (Name × Name)) (types : List MemrefType)
      → statement_text margin (what.Start a aa b bb t ta n stride types) ≡ ends_text a aa b bb t ta ++ amount_text n stride types
  unfolding statement_text
  statement-Start a aa b bb t ta n stride types = ap (first_text margin) (put-Start 0 Nothing a aa b bb t ta n stride types)

  pub statement-Wait : (t : Name) (at : Access) (n : Name) (ty : MemrefType) → statement_text margin (what.Wait t at n ty) ≡ wait_text t at n ty
  unfolding statement_text
  statement-Wait t at n ty = ap (first_text margin) (put-Wait 0 Nothing t at n ty)

  pub statement-Return : statement_text margin what.Return ≡ codes "return"
  unfolding statement_text
  statement-Return = ap (first_text margin) (put-Return 0 Nothing)

  layer_lines : (x : What-F (ℕ → Puts) Puts) (line : ℕ) (rest : Nest)
      → lines margin (put_layer x line rest) ≡ line_text margin (first_text margin (put_layer x 0 Nothing)) ++ lines margin rest
  unfolding lines
  layer_lines (What-F.For v l u s body) line rest = refl
  layer_lines (What-F.If set names first other) line rest = refl
  layer_lines (What-F.Value r pick at) line rest = refl
  layer_lines (What-F.Load r m at ty) line rest = refl
  layer_lines (What-F.Store x m at ty) line rest = refl
  layer_lines (What-F.RawLoad r m at ty) line rest = refl
  layer_lines (What-F.RawStore x m at ty) line rest = refl
  layer_lines (What-F.Constant r z ty) line rest = refl
  layer_lines (What-F.Binary r op a c ty) line rest = refl
  layer_lines (What-F.Cast r kind x from to) line rest = refl
  layer_lines (What-F.Alloc r ty) line rest = refl
  layer_lines (What-F.Dealloc m ty) line rest = refl
  layer_lines (What-F.Start a aa c cc' t ta n stride types) line rest = refl
  layer_lines (What-F.Wait t at n ty) line rest = refl
  layer_lines What-F.Return line rest = refl

  -- a statement's line, and then the lines of what follows
  pub lines-put : (w : What) (line : ℕ) (rest : Nest) → lines margin (put_what w line rest) ≡ line_text margin (statement_text margin w) ++ lines margin rest
  unfolding statement_text
  lines-put w line rest =
      let parts = what.map-What What Stmt (ℕ → Puts) Puts put_what put_stmt (what.out-What w) in
      ap (lines margin) (put_what_is line rest (what.out-What w) w (what.roll-out-What w))
      ∙ layer_lines parts line rest
      ∙ ap (λ n. line_text margin (first_text margin n) ++ lines margin rest) (sym (put_what_is 0 Nothing (what.out-What w) w (what.roll-out-What w)))

  pub lines-nil : lines margin (nest []) ≡ []
  unfolding lines nest
  lines-nil = refl

  pub lines-cons : (s : Stmt) (ss : List Stmt) → lines margin (nest (s ∷ ss)) ≡ line_text margin (statement_text margin s.what) ++ lines margin (nest ss)
  lines-cons s ss = ap (lines margin) (nest-cons s ss) ∙ lines-put s.what s.line (nest ss)

  pub lines-append : (xs ys : List Stmt) → lines margin (nest (xs ++ ys)) ≡ lines margin (nest xs) ++ lines margin (nest ys)
  lines-append [] ys = ap (λ l. l ++ lines margin (nest ys)) (sym lines-nil)
  lines-append (s ∷ ss) ys =
      lines-cons s (ss ++ ys)
      ∙ ap (λ l. line_text margin (statement_text margin s.what) ++ l) (lines-append ss ys)
      ∙ sym (append_assoc (line_text margin (statement_text margin s.what)) (lines margin (nest ss)) (lines margin (nest ys)))
      ∙ ap (λ l. l ++ lines margin (nest ys)) (sym (lines-cons s ss))

  -- the lines of the statements so far, and then one more
  pub lines-more : (xs : List Stmt) (i : ℕ) (x : Stmt) → i < length xs → x ≡ get_or xs i x
      → lines margin (nest (take (i + 1) xs)) ≡ lines margin (nest (take i xs)) ++ line_text margin (statement_text margin x.what)
  lines-more xs i x h is =
      let t : take (i + 1) xs ≡ take i xs ++ x ∷ [] = take_more xs i x h ∙ ap (λ y. take i xs ++ y ∷ []) (sym is) in
      ap (λ l. lines margin (nest l)) t
      ∙ lines-append (take i xs) (x ∷ [])
      ∙ ap (λ l. lines margin (nest (take i xs)) ++ l)
      (lines-cons x [] ∙ ap (λ l. line_text margin (statement_text margin x.what) ++ l) lines-nil ∙ append-nil (line_text margin (statement_text margin x.what)))

pub ruleset statement_texts = (statement-For, statement-If, statement-If-else, statement-Value, statement-Load, statement-Store, statement-RawLoad, statement-RawStore, statement-Constant, statement-Binary, statement-Cast, statement-Alloc, statement-Dealloc, statement-Start, statement-Wait, statement-Return)
