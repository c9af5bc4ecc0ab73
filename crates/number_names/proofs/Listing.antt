-- The names that a statement defines, by its kind.
use Rattle.std.proofs.Common.{◌≡◌, ℕ, ◌+◌, ◌<◌, ◌≤◌, ℤ, List, [], ◌∷◌, ◌++◌, drop, length, get_or, refl, sym, ap, ◌∙◌, subst}
use Rattle.std.specs.Prelude.{Option, Some, None}
use Rattle.std.proofs.lemmas.List.{drop_more, append_assoc, append-nil}
use Rattle.affine_expr.specs.declared.map.Set.{Set}
use Rattle.int_ops.specs.declared.operation.CastKind.{CastKind}
use Rattle.int_ops.specs.declared.operation.Op.{Op}
use Rattle.affine_ast.specs.declared.name.Name.{Name}
use Rattle.affine_ast.specs.declared.types.Access.{Access}
use Rattle.affine_ast.specs.declared.types.Bound.{Bound}
use Rattle.affine_ast.specs.declared.types.MemrefType.{MemrefType}
use Rattle.affine_ast.specs.declared.types.Pick.{Pick}
use Rattle.affine_ast.specs.declared.types.Scalar.{Scalar}
use Rattle.affine_ast.specs.declared.stmt.Stmt.{Stmt}
use Rattle.affine_ast.specs.declared.stmt.What as what
use Rattle.affine_ast.specs.declared.stmt.What.{What}
use Rattle.affine_ast.specs.declared.stmt.What.TheOpen.{What-F}
use Rattle.affine_ast.specs.Nest.{Nest, Nothing, Puts, joined, joined_other, nest, put_layer, put_what, put_stmt}
use Rattle.affine_ast.proofs.Nests.{nest-nil, nest-cons, put_what_is, put-For, put-If, put-If-else, put-Value, put-Load, put-Store, put-RawLoad, put-RawStore, put-Constant, put-Binary, put-Cast, put-Alloc, put-Dealloc, put-Start, put-Wait, put-Return}
use Rattle.numbered_names.specs.Numbers.{defined}

-- what a statement alone defines
abbrev pub of_one : What → List Name
of_one w = defined (put_what w 0 Nothing)

abbrev layers : What → What-F (ℕ → Puts) Puts
layers w = what.map-What What Stmt (ℕ → Puts) Puts put_what put_stmt (what.out-What w)

layer_defined : (x : What-F (ℕ → Puts) Puts) (line : ℕ) (rest : Nest) → defined (put_layer x line rest) ≡ defined (put_layer x 0 Nothing) ++ defined rest
unfolding defined
layer_defined (What-F.For v l u s body) line rest = ap (λ xs. v ∷ xs ++ defined rest) (sym (append-nil (defined (joined body))))
layer_defined (What-F.If set names first other) line rest =
    sym (append_assoc (defined (joined first)) (defined (joined_other other)) (defined rest))
    ∙ ap (λ xs. (defined (joined first) ++ xs) ++ defined rest) (sym (append-nil (defined (joined_other other))))
layer_defined (What-F.Value r pick at) line rest = refl
layer_defined (What-F.Load r m at ty) line rest = refl
layer_defined (What-F.Store x m at ty) line rest = refl
layer_defined (What-F.RawLoad r m at ty) line rest = refl
layer_defined (What-F.RawStore x m at ty) line rest = refl
layer_defined (What-F.Constant r z ty) line rest = refl
layer_defined (What-F.Binary r op a b ty) line rest = refl
layer_defined (What-F.Cast r kind x from to) line rest = refl
layer_defined (What-F.Alloc r ty) line rest = refl
layer_defined (What-F.Dealloc m ty) line rest = refl
layer_defined (What-F.Start a aa b bb t ta n stride types) line rest = refl
layer_defined (What-F.Wait t at n ty) line rest = refl
layer_defined What-F.Return line rest = refl

-- a statement and what stands behind it
defined_put : (w : What) (line : ℕ) (rest : Nest) → defined (put_what w line rest) ≡ of_one w ++ defined rest
defined_put w line rest =
    ap defined (put_what_is line rest (what.out-What w) w (what.roll-out-What w))
    ∙ layer_defined (layers w) line rest
    ∙ ap (λ n. defined n ++ defined rest) (sym (put_what_is 0 Nothing (what.out-What w) w (what.roll-out-What w)))

module _ (w : What) where
  pub Value_listed : (r : Name) (pick : Pick) (at : Access) → w ≡ what.Value r pick at → of_one w ≡ r ∷ []
  unfolding defined
  Value_listed r pick at is = ap of_one is ∙ ap defined (put-Value 0 Nothing r pick at)

  pub Load_listed : (r m : Name) (at : Access) (ty : MemrefType) → w ≡ what.Load r m at ty → of_one w ≡ r ∷ []
  unfolding defined
  Load_listed r m at ty is = ap of_one is ∙ ap defined (put-Load 0 Nothing r m at ty)

  pub RawLoad_listed : (r m : Name) (at : List Name) (ty : MemrefType) → w ≡ what.RawLoad r m at ty → of_one w ≡ r ∷ []
  unfolding defined
  RawLoad_listed r m at ty is = ap of_one is ∙ ap defined (put-RawLoad 0 Nothing r m at ty)

  pub Constant_listed : (r : Name) (z : ℤ) (ty : Scalar) → w ≡ what.Constant r z ty → of_one w ≡ r ∷ []
  unfolding defined
  Constant_listed r z ty is = ap of_one is ∙ ap defined (put-Constant 0 Nothing r z ty)

  pub Binary_listed : (r : Name) (op : Op) (x y : Name) (ty : Scalar) → w ≡ what.Binary r op x y ty → of_one w ≡ r ∷ []
  unfolding defined
  Binary_listed r op x y ty is = ap of_one is ∙ ap defined (put-Binary 0 Nothing r op x y ty)

  pub Cast_listed : (r : Name) (kind : CastKind) (x : Name) (from to : Scalar) → w ≡ what.Cast r kind x from to → of_one w ≡ r ∷ []
  unfolding defined
  Cast_listed r kind x from to is = ap of_one is ∙ ap defined (put-Cast 0 Nothing r kind x from to)

  pub Alloc_listed : (r : Name) (ty : MemrefType) → w ≡ what.Alloc r ty → of_one w ≡ r ∷ []
  unfolding defined
  Alloc_listed r ty is = ap of_one is ∙ ap defined (put-Alloc 0 Nothing r ty)

  pub Store_listed : (x m : Name) (at : Access) (ty : MemrefType) → w ≡ what.Store x m at ty → of_one w ≡ []
  unfolding defined
  Store_listed x m at ty is = ap of_one is ∙ ap defined (put-Store 0 Nothing x m at ty)

  pub RawStore_listed : (x m : Name) (at : List Name) (ty : MemrefType) → w ≡ what.RawStore x m at ty → of_one w ≡ []
  unfolding defined
  RawStore_listed x m at ty is = ap of_one is ∙ ap defined (put-RawStore 0 Nothing x m at ty)

  pub Dealloc_listed : (m : Name) (ty : MemrefType) → w ≡ what.Dealloc m ty → of_one w ≡ []
  unfolding defined
  Dealloc_listed m ty is = ap of_one is ∙ ap defined (put-Dealloc 0 Nothing m ty)

  pub Start_listed : (a : Name) (a_at : Access) (b : Name) (b_at : Access) (t : Name) (t_at : Access) (n : Name) (stride : Option (Name × Name)) (types : List MemrefType) → w ≡ what.Start a a_at b b_at t t_at n stride types → of_one w ≡ []
  unfolding defined
  Start_listed a a_at b b_at t t_at n stride types is = ap of_one is ∙ ap defined (put-Start 0 Nothing a a_at b b_at t t_at n stride types)

  pub Wait_listed : (t : Name) (at : Access) (n : Name) (ty : MemrefType) → w ≡ what.Wait t at n ty → of_one w ≡ []
  unfolding defined
  Wait_listed t at n ty is = ap of_one is ∙ ap defined (put-Wait 0 Nothing t at n ty)

  pub Return_listed : w ≡ what.Return → of_one w ≡ []
  unfolding defined
  Return_listed is = ap of_one is ∙ ap defined (put-Return 0 Nothing)

  pub for_listed : (v : Name) (l u : Bound) (s : ℤ) (body ss : List Stmt) (old mid : List Name) → w ≡ what.For v l u s body → ss ≡ body → mid ≡ old ++ v ∷ []
      → mid ++ defined (nest ss) ≡ old ++ of_one w
  unfolding defined
  for_listed v l u s body ss old mid is same so =
      (λ i. so i ++ defined (nest (same i)))
      ∙ append_assoc old (v ∷ []) (defined (nest body))
      ∙ ap (λ xs. old ++ v ∷ xs) (sym (append-nil (defined (nest body))))
      ∙ ap (λ xs. old ++ xs) (sym (ap of_one is ∙ ap defined (put-For 0 Nothing v l u s body)))

  pub if_listed : (set : Set) (names : List Name) (first ss : List Stmt) (other : Option (List Stmt)) (old new : List Name) → w ≡ what.If set names first other → ss ≡ first → other ≡ None
      → new ≡ old ++ defined (nest ss) → new ≡ old ++ of_one w
  unfolding defined
  if_listed set names first ss other old new is same none so =
      so ∙ ap (λ ss. old ++ defined (nest ss)) same
      ∙ ap (λ xs. old ++ xs) (sym (append-nil (defined (nest first))))
      ∙ ap (λ xs. old ++ xs) (sym (ap of_one (is ∙ ap (what.If set names first) none) ∙ ap defined (put-If 0 Nothing set names first)))

  pub if_else_listed : (set : Set) (names : List Name) (first ss more ts : List Stmt) (other : Option (List Stmt)) (old mid : List Name) → w ≡ what.If set names first other → ss ≡ first
      → other ≡ Some more → ts ≡ more → mid ≡ old ++ defined (nest ss) → mid ++ defined (nest ts) ≡ old ++ of_one w
  unfolding defined
  if_else_listed set names first ss more ts other old mid is same some alike so =
      (λ i. (so ∙ ap (λ ss. old ++ defined (nest ss)) same) i ++ defined (nest (alike i)))
      ∙ append_assoc old (defined (nest first)) (defined (nest more))
      ∙ ap (λ xs. old ++ (defined (nest first) ++ xs)) (sym (append-nil (defined (nest more))))
      ∙ ap (λ xs. old ++ xs) (sym (ap of_one (is ∙ ap (what.If set names first) some) ∙ ap defined (put-If-else 0 Nothing set names first more)))

-- ---- a list

pub listed_step : (ss : List Stmt) (i : ℕ) (s : Stmt) (names new total : List Name) → i < length ss → s ≡ get_or ss i s → new ≡ names ++ of_one s.what
    → total ≡ names ++ defined (nest (drop i ss)) → total ≡ new ++ defined (nest (drop (i + 1) ss))
listed_step ss i s names new total h e added so =
    so
    ∙ ap (λ n. names ++ defined n) (ap nest (drop_more ss i s h ∙ ap (λ x. x ∷ drop (i + 1) ss) (sym e)) ∙ nest-cons s (drop (i + 1) ss))
    ∙ ap (λ xs. names ++ xs) (defined_put s.what s.line (nest (drop (i + 1) ss)))
    ∙ sym (append_assoc names (of_one s.what) (defined (nest (drop (i + 1) ss))))
    ∙ ap (λ xs. xs ++ defined (nest (drop (i + 1) ss))) (sym added)

pub listed_end : (rest : List Stmt) (names total : List Name) → rest ≡ [] → total ≡ names ++ defined (nest rest) → names ≡ total
unfolding defined
listed_end rest names total none so = sym (so ∙ ap (λ ss. names ++ defined (nest ss)) none ∙ ap (λ n. names ++ defined n) nest-nil ∙ append-nil names)
