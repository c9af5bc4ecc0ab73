-- Renamed statements, one law for each kind.
use Rattle.std.proofs.Common.{◌≡◌, ℕ, ◌+◌, ◌<◌, ℤ, List, [], ◌∷◌, ◌++◌, drop, length, get_or, map, refl, sym, ap, ◌∙◌}
use Rattle.std.specs.Prelude.{Option, Some, None, true, false}
use Rattle.std.proofs.lemmas.List.{drop_more}
use Rattle.affine_expr.specs.declared.map.Set.{Set}
use Rattle.int_ops.specs.declared.operation.CastKind.{CastKind}
use Rattle.int_ops.specs.declared.operation.Op.{Op}
use Rattle.affine_ast.specs.declared.name.Name.{Name}
use Rattle.affine_ast.specs.declared.types.Access.{Access}
use Rattle.affine_ast.specs.declared.types.Bound.{Bound}
use Rattle.affine_ast.specs.declared.types.MemrefType.{MemrefType}
use Rattle.affine_ast.specs.declared.types.Pick.{Pick}
use Rattle.affine_ast.specs.declared.types.Scalar.{Scalar}
use Rattle.affine_ast.specs.declared.stmt.Stmt.{Stmt}
use Rattle.affine_ast.specs.declared.stmt.What as what
use Rattle.affine_ast.specs.declared.stmt.What.{What}
use Rattle.affine_ast.specs.Nest.{Nest, Nothing, Loop, Branch, Does, nest, followed_by, put_what}
use Rattle.affine_ast.proofs.Nests.{nest-nil, nest-cons, nest-append, put-For, put-If, put-If-else, put-Value, put-Load, put-Store, put-RawLoad, put-RawStore, put-Constant, put-Binary, put-Cast, put-Alloc, put-Dealloc, put-Start, put-Wait, put-Return, put-followed}
use Rattle.placement_texts.specs.Renamed.{access_named, bound_named, pair_named, named}
use Rattle.number_names.specs.Renaming.{IsRenamed}

module _ (f : Name → Name) (w made : What) where
  pub for_renamed : (v : Name) (l u : Bound) (s : ℤ) (body ss new : List Stmt) → w ≡ what.For v l u s body → ss ≡ body → nest new ≡ named f (nest ss)
      → made ≡ what.For (f v) (bound_named f l) (bound_named f u) s new → IsRenamed f w made
  for_renamed v l u s body ss new is same inner made_is = record {
    put = λ line rest.
        ap (λ w. put_what w line (named f rest)) made_is
        ∙ put-For line (named f rest) (f v) (bound_named f l) (bound_named f u) s new
        ∙ ap (λ b. Loop line (f v) (bound_named f l) (bound_named f u) s b (named f rest)) (inner ∙ ap (λ ss. named f (nest ss)) same)
        ∙ ap (named f) (sym (ap (λ w. put_what w line rest) is ∙ put-For line rest v l u s body));
  }

  pub if_renamed : (set : Set) (names : List Name) (first ss new : List Stmt) (other : Option (List Stmt)) → w ≡ what.If set names first other → other ≡ None → ss ≡ first → nest new ≡ named f (nest ss)
      → made ≡ what.If set (map f names) new None → IsRenamed f w made
  if_renamed set names first ss new other is none same inner made_is = record {
    put = λ line rest.
        ap (λ w. put_what w line (named f rest)) made_is
        ∙ put-If line (named f rest) set (map f names) new
        ∙ ap (λ b. Branch line set (map f names) b false Nothing (named f rest)) (inner ∙ ap (λ ss. named f (nest ss)) same)
        ∙ ap (named f) (sym (ap (λ w. put_what w line rest) (is ∙ ap (what.If set names first) none) ∙ put-If line rest set names first));
  }

  pub if_else_renamed : (set : Set) (names : List Name) (first more ss ts new newer : List Stmt) (other : Option (List Stmt)) → w ≡ what.If set names first other → other ≡ Some more → ss ≡ first → ts ≡ more
      → nest new ≡ named f (nest ss) → nest newer ≡ named f (nest ts) → made ≡ what.If set (map f names) new (Some newer) → IsRenamed f w made
  if_else_renamed set names first more ss ts new newer other is some same alike inner outer made_is = record {
    put = λ line rest.
        ap (λ w. put_what w line (named f rest)) made_is
        ∙ put-If-else line (named f rest) set (map f names) new newer
        ∙ ap (λ b. Branch line set (map f names) b true (nest newer) (named f rest)) (inner ∙ ap (λ ss. named f (nest ss)) same)
        ∙ ap (λ b. Branch line set (map f names) (named f (nest first)) true b (named f rest)) (outer ∙ ap (λ ss. named f (nest ss)) alike)
        ∙ ap (named f) (sym (ap (λ w. put_what w line rest) (is ∙ ap (what.If set names first) some) ∙ put-If-else line rest set names first more));
  }

  pub Value_renamed : (r : Name) (pick : Pick) (at : Access) → w ≡ what.Value r pick at → made ≡ what.Value (f r) pick (access_named f at) → IsRenamed f w made
  Value_renamed r pick at is made_is = record {
    put = λ line rest.
        ap (λ w. put_what w line (named f rest)) made_is
        ∙ put-Value line (named f rest) (f r) pick (access_named f at)
        ∙ ap (named f) (sym (ap (λ w. put_what w line rest) is ∙ put-Value line rest r pick at));
  }

  pub Load_renamed : (r m : Name) (at : Access) (ty : MemrefType) → w ≡ what.Load r m at ty → made ≡ what.Load (f r) (f m) (access_named f at) ty → IsRenamed f w made
  Load_renamed r m at ty is made_is = record {
    put = λ line rest.
        ap (λ w. put_what w line (named f rest)) made_is
        ∙ put-Load line (named f rest) (f r) (f m) (access_named f at) ty
        ∙ ap (named f) (sym (ap (λ w. put_what w line rest) is ∙ put-Load line rest r m at ty));
  }

  pub Store_renamed : (x m : Name) (at : Access) (ty : MemrefType) → w ≡ what.Store x m at ty → made ≡ what.Store (f x) (f m) (access_named f at) ty → IsRenamed f w made
  Store_renamed x m at ty is made_is = record {
    put = λ line rest.
        ap (λ w. put_what w line (named f rest)) made_is
        ∙ put-Store line (named f rest) (f x) (f m) (access_named f at) ty
        ∙ ap (named f) (sym (ap (λ w. put_what w line rest) is ∙ put-Store line rest x m at ty));
  }

  pub RawLoad_renamed : (r m : Name) (at : List Name) (ty : MemrefType) → w ≡ what.RawLoad r m at ty → made ≡ what.RawLoad (f r) (f m) (map f at) ty → IsRenamed f w made
  RawLoad_renamed r m at ty is made_is = record {
    put = λ line rest.
        ap (λ w. put_what w line (named f rest)) made_is
        ∙ put-RawLoad line (named f rest) (f r) (f m) (map f at) ty
        ∙ ap (named f) (sym (ap (λ w. put_what w line rest) is ∙ put-RawLoad line rest r m at ty));
  }

  pub RawStore_renamed : (x m : Name) (at : List Name) (ty : MemrefType) → w ≡ what.RawStore x m at ty → made ≡ what.RawStore (f x) (f m) (map f at) ty → IsRenamed f w made
  RawStore_renamed x m at ty is made_is = record {
    put = λ line rest.
        ap (λ w. put_what w line (named f rest)) made_is
        ∙ put-RawStore line (named f rest) (f x) (f m) (map f at) ty
        ∙ ap (named f) (sym (ap (λ w. put_what w line rest) is ∙ put-RawStore line rest x m at ty));
  }

  pub Constant_renamed : (r : Name) (z : ℤ) (ty : Scalar) → w ≡ what.Constant r z ty → made ≡ what.Constant (f r) z ty → IsRenamed f w made
  Constant_renamed r z ty is made_is = record {
    put = λ line rest.
        ap (λ w. put_what w line (named f rest)) made_is
        ∙ put-Constant line (named f rest) (f r) z ty
        ∙ ap (named f) (sym (ap (λ w. put_what w line rest) is ∙ put-Constant line rest r z ty));
  }

  pub Binary_renamed : (r : Name) (op : Op) (x y : Name) (ty : Scalar) → w ≡ what.Binary r op x y ty → made ≡ what.Binary (f r) op (f x) (f y) ty → IsRenamed f w made
  Binary_renamed r op x y ty is made_is = record {
    put = λ line rest.
        ap (λ w. put_what w line (named f rest)) made_is
        ∙ put-Binary line (named f rest) (f r) op (f x) (f y) ty
        ∙ ap (named f) (sym (ap (λ w. put_what w line rest) is ∙ put-Binary line rest r op x y ty));
  }

  pub Cast_renamed : (r : Name) (kind : CastKind) (x : Name) (from to : Scalar) → w ≡ what.Cast r kind x from to → made ≡ what.Cast (f r) kind (f x) from to → IsRenamed f w made
  Cast_renamed r kind x from to is made_is = record {
    put = λ line rest.
        ap (λ w. put_what w line (named f rest)) made_is
        ∙ put-Cast line (named f rest) (f r) kind (f x) from to
        ∙ ap (named f) (sym (ap (λ w. put_what w line rest) is ∙ put-Cast line rest r kind x from to));
  }

  pub Alloc_renamed : (r : Name) (ty : MemrefType) → w ≡ what.Alloc r ty → made ≡ what.Alloc (f r) ty → IsRenamed f w made
  Alloc_renamed r ty is made_is = record {
    put = λ line rest.
        ap (λ w. put_what w line (named f rest)) made_is
        ∙ put-Alloc line (named f rest) (f r) ty
        ∙ ap (named f) (sym (ap (λ w. put_what w line rest) is ∙ put-Alloc line rest r ty));
  }

  pub Dealloc_renamed : (m : Name) (ty : MemrefType) → w ≡ what.Dealloc m ty → made ≡ what.Dealloc (f m) ty → IsRenamed f w made
  Dealloc_renamed m ty is made_is = record {
    put = λ line rest.
        ap (λ w. put_what w line (named f rest)) made_is
        ∙ put-Dealloc line (named f rest) (f m) ty
        ∙ ap (named f) (sym (ap (λ w. put_what w line rest) is ∙ put-Dealloc line rest m ty));
  }

  pub Start_renamed : (a : Name) (a_at : Access) (b : Name) (b_at : Access) (t : Name) (t_at : Access) (n : Name) (stride : Option (Name × Name)) (types : List MemrefType) → w ≡ what.Start a a_at b b_at t t_at n stride types → made ≡ what.Start (f a) (access_named f a_at) (f b) (access_named f b_at) (f t) (access_named f t_at) (f n) (pair_named f stride) types → IsRenamed f w made
  Start_renamed a a_at b b_at t t_at n stride types is made_is = record {
    put = λ line rest.
        ap (λ w. put_what w line (named f rest)) made_is
        ∙ put-Start line (named f rest) (f a) (access_named f a_at) (f b) (access_named f b_at) (f t) (access_named f t_at) (f n) (pair_named f stride) types
        ∙ ap (named f) (sym (ap (λ w. put_what w line rest) is ∙ put-Start line rest a a_at b b_at t t_at n stride types));
  }

  pub Wait_renamed : (t : Name) (at : Access) (n : Name) (ty : MemrefType) → w ≡ what.Wait t at n ty → made ≡ what.Wait (f t) (access_named f at) (f n) ty → IsRenamed f w made
  Wait_renamed t at n ty is made_is = record {
    put = λ line rest.
        ap (λ w. put_what w line (named f rest)) made_is
        ∙ put-Wait line (named f rest) (f t) (access_named f at) (f n) ty
        ∙ ap (named f) (sym (ap (λ w. put_what w line rest) is ∙ put-Wait line rest t at n ty));
  }

  pub Return_renamed : w ≡ what.Return → made ≡ what.Return → IsRenamed f w made
  Return_renamed is made_is = record {
    put = λ line rest.
        ap (λ w. put_what w line (named f rest)) made_is
        ∙ put-Return line (named f rest)
        ∙ ap (named f) (sym (ap (λ w. put_what w line rest) is ∙ put-Return line rest));
  }

-- ---- a list

followed_assoc : (a b c : Nest) → followed_by (followed_by a b) c ≡ followed_by a (followed_by b c)
followed_assoc Nothing b c = refl
followed_assoc (Loop line v l u s body rest) b c = ap (Loop line v l u s body) (followed_assoc rest b c)
followed_assoc (Branch line set names first has other rest) b c = ap (Branch line set names first has other) (followed_assoc rest b c)
followed_assoc (Does line q rest) b c = ap (Does line q) (followed_assoc rest b c)

followed_nothing : (a : Nest) → followed_by a Nothing ≡ a
followed_nothing Nothing = refl
followed_nothing (Loop line v l u s body rest) = ap (Loop line v l u s body) (followed_nothing rest)
followed_nothing (Branch line set names first has other rest) = ap (Branch line set names first has other) (followed_nothing rest)
followed_nothing (Does line q rest) = ap (Does line q) (followed_nothing rest)

nest_push : (out : List Stmt) (s : Stmt) (n : Nest) → followed_by (nest (out ++ s ∷ [])) n ≡ followed_by (nest out) (put_what s.what s.line n)
nest_push out s n =
    ap (λ m. followed_by m n) (nest-append out (s ∷ []))
    ∙ followed_assoc (nest out) (nest (s ∷ [])) n
    ∙ ap (followed_by (nest out)) (ap (λ m. followed_by m n) (nest-cons s [] ∙ ap (put_what s.what s.line) nest-nil) ∙ put-followed s.what s.line Nothing n)

module _ (f : Name → Name) where
  pub renamed_step : (ss : List Stmt) (i : ℕ) (s made : Stmt) (out new : List Stmt) (total : Nest) → i < length ss → s ≡ get_or ss i s → made.line ≡ s.line → IsRenamed f s.what made.what
      → new ≡ out ++ made ∷ [] → total ≡ followed_by (nest out) (named f (nest (drop i ss))) → total ≡ followed_by (nest new) (named f (nest (drop (i + 1) ss)))
  renamed_step ss i s made out new total h e line is pushed so =
      so
      ∙ ap (λ n. followed_by (nest out) (named f n)) (ap nest (drop_more ss i s h ∙ ap (λ x. x ∷ drop (i + 1) ss) (sym e)) ∙ nest-cons s (drop (i + 1) ss))
      ∙ ap (followed_by (nest out)) (sym (is.put s.line (nest (drop (i + 1) ss))) ∙ ap (λ k. put_what made.what k (named f (nest (drop (i + 1) ss)))) (sym line))
      ∙ sym (nest_push out made (named f (nest (drop (i + 1) ss))))
      ∙ ap (λ l. followed_by (nest l) (named f (nest (drop (i + 1) ss)))) (sym pushed)

  pub renamed_end : (rest out : List Stmt) (total : Nest) → rest ≡ [] → total ≡ followed_by (nest out) (named f (nest rest)) → nest out ≡ total
  renamed_end rest out total none so =
      sym (so ∙ ap (λ ss. followed_by (nest out) (named f (nest ss))) none ∙ ap (λ n. followed_by (nest out) (named f n)) nest-nil ∙ followed_nothing (nest out))
