-- Redirected statements, one law for each kind.
use Rattle.std.proofs.Common.{◌≡◌, ℕ, ◌+◌, ◌<◌, ◌≤◌, ℤ, Bool, true, false, List, [], ◌∷◌, ◌++◌, drop, length, get_or, refl, sym, ap, ◌∙◌, subst}
use Rattle.std.specs.Prelude.{Option, Some, None, if◌then◌else◌}
use Rattle.std.proofs.lemmas.List.{drop_more, drop_all}
use Rattle.affine_expr.specs.declared.map.Set.{Set}
use Rattle.affine_ast.specs.declared.name.Name.{Name}
use Rattle.affine_ast.specs.declared.types.Access.{Access}
use Rattle.affine_ast.specs.declared.types.Bound.{Bound}
use Rattle.affine_ast.specs.declared.types.MemrefType.{MemrefType}
use Rattle.affine_ast.specs.declared.stmt.Stmt.{Stmt}
use Rattle.affine_ast.specs.declared.stmt.What as what
use Rattle.affine_ast.specs.declared.stmt.What.{What}
use Rattle.affine_ast.specs.declared.stmt.What.TheOpen.{What-F}
use Rattle.affine_ast.specs.declared.stmt.What.TheVariants.{rolls-Load, rolls-Store}
use Rattle.affine_ast.specs.Names.{same_name}
use Rattle.affine_ast.proofs.Names.{same_name-eq, same_name-is}
use Rattle.affine_ast.specs.Nest.{Plain, Nest, Nothing, Loop, Branch, Does, Load, Store, Puts, nest, followed_by, put_layer, put_what, plain_of, head_plain}
use Rattle.affine_ast.proofs.Nests.{nest-nil, nest-cons, nest-append, put-For, put-If, put-If-else, put-Load, put-Store, put_plain, plain_unless, put_what_is, put-followed}
use Rattle.placement_texts.specs.Mapped.{mapped}
use Rattle.placement_texts.specs.Template.{Placement, redirect, fast_name, fast_type, in_fast, begins}
use Rattle.placement_stage.specs.Stages.{HasSmallSubscripts, IsSmallText, IsSmallWhat, load_over, store_over, IsRedirected}
use Rattle.placement_stage.proofs.Layers.{layers, in_layers}

-- ---- what is asked of a text, of its parts
layer_small : (x : What-F (ℕ → Puts) Puts) (line : ℕ) (rest : Nest) → IsSmallText (put_layer x line rest) → IsSmallText (put_layer x 0 Nothing) × IsSmallText rest
layer_small (What-F.For v l u s body) line rest h = ((h.0, tt), h.1)
layer_small (What-F.If set names first other) line rest h = ((h.0, h.1, tt), h.2)
layer_small x line rest h = ((h.0, tt), h.1)

pub small_first : (w : What) (line : ℕ) (rest : Nest) → IsSmallText (put_what w line rest) → IsSmallWhat w × IsSmallText rest
small_first w line rest h =
    let two = layer_small (layers w) line rest (subst IsSmallText (in_layers w line rest) h) in
    (subst IsSmallText (sym (in_layers w 0 Nothing)) two.0, two.1)

pub small_step : (ss : List Stmt) (i : ℕ) (s : Stmt) → i < length ss → s ≡ get_or ss i s → IsSmallText (nest (drop i ss)) → IsSmallWhat s.what × IsSmallText (nest (drop (i + 1) ss))
small_step ss i s h e small = small_first s.what s.line (nest (drop (i + 1) ss)) (subst IsSmallText (ap nest (drop_more ss i s h ∙ ap (λ x. x ∷ drop (i + 1) ss) (sym e)) ∙ nest-cons s (drop (i + 1) ss)) small)

module _ (w : What) where
  pub small_body : (v : Name) (l u : Bound) (s : ℤ) (body ss : List Stmt) → w ≡ what.For v l u s body → ss ≡ body → IsSmallWhat w → IsSmallText (nest ss)
  small_body v l u s body ss is same h =
      let small = subst IsSmallText (ap (λ w. put_what w 0 Nothing) is ∙ put-For 0 Nothing v l u s body) h in
      subst (λ ss. IsSmallText (nest ss)) (sym same) small.0

  pub small_first_region : (set : Set) (names : List Name) (first : List Stmt) (o : Option (List Stmt)) (ss : List Stmt) → w ≡ what.If set names first o → ss ≡ first → IsSmallWhat w → IsSmallText (nest ss)
  small_first_region set names first None ss is same h =
      let small = subst IsSmallText (ap (λ w. put_what w 0 Nothing) is ∙ put-If 0 Nothing set names first) h in
      subst (λ ss. IsSmallText (nest ss)) (sym same) small.0
  small_first_region set names first (Some other) ss is same h =
      let small = subst IsSmallText (ap (λ w. put_what w 0 Nothing) is ∙ put-If-else 0 Nothing set names first other) h in
      subst (λ ss. IsSmallText (nest ss)) (sym same) small.0

  pub small_other_region : (set : Set) (names : List Name) (first other ss : List Stmt) → w ≡ what.If set names first (Some other) → ss ≡ other → IsSmallWhat w → IsSmallText (nest ss)
  small_other_region set names first other ss is same h =
      let small = subst IsSmallText (ap (λ w. put_what w 0 Nothing) is ∙ put-If-else 0 Nothing set names first other) h in
      subst (λ ss. IsSmallText (nest ss)) (sym same) small.1

  pub small_load : (r m : Name) (at : Access) (ty : MemrefType) → w ≡ what.Load r m at ty → IsSmallWhat w → HasSmallSubscripts (Load r m at ty)
  small_load r m at ty is h =
      let small = subst IsSmallText (ap (λ w. put_what w 0 Nothing) is ∙ put-Load 0 Nothing r m at ty) h in small.0

  pub small_store : (x m : Name) (at : Access) (ty : MemrefType) → w ≡ what.Store x m at ty → IsSmallWhat w → HasSmallSubscripts (Store x m at ty)
  small_store x m at ty is h =
      let small = subst IsSmallText (ap (λ w. put_what w 0 Nothing) is ∙ put-Store 0 Nothing x m at ty) h in small.0

-- ---- a load and a store, of the memref and of another
differs : (a b : Name) → (a ≡ b → ⊥) → same_name a b ≡ false
differs a b unlike = by (same_name a b) refl
  where
    by : (x : Bool) → same_name a b ≡ x → same_name a b ≡ false
    by true e = absurd (unlike (same_name-eq a b e))
    by false e = e

module _ (p : Placement) (r m : Name) (at : Access) (ty : MemrefType) where
  pub load_same : p.memref ≡ m → load_over p r m at ty ≡ what.Load r (fast_name p.name) (in_fast (begins p) at) (fast_type p)
  load_same e = ap (λ b. if b then what.Load r (fast_name p.name) (in_fast (begins p) at) (fast_type p) else what.Load r m at ty) (same_name-is p.memref m e)

  pub load_other : (p.memref ≡ m → ⊥) → load_over p r m at ty ≡ what.Load r m at ty
  load_other unlike = ap (λ b. if b then what.Load r (fast_name p.name) (in_fast (begins p) at) (fast_type p) else what.Load r m at ty) (differs p.memref m unlike)

  pub store_same : p.memref ≡ m → store_over p r m at ty ≡ what.Store r (fast_name p.name) (in_fast (begins p) at) (fast_type p)
  store_same e = ap (λ b. if b then what.Store r (fast_name p.name) (in_fast (begins p) at) (fast_type p) else what.Store r m at ty) (same_name-is p.memref m e)

  pub store_other : (p.memref ≡ m → ⊥) → store_over p r m at ty ≡ what.Store r m at ty
  store_other unlike = ap (λ b. if b then what.Store r (fast_name p.name) (in_fast (begins p) at) (fast_type p) else what.Store r m at ty) (differs p.memref m unlike)

-- ---- a statement
module _ (p : Placement) (w made : What) where
  pub for_redirected : (v : Name) (l u : Bound) (s : ℤ) (body ss new : List Stmt) → w ≡ what.For v l u s body → ss ≡ body → nest new ≡ mapped (redirect p) (nest ss)
      → made ≡ what.For v l u s new → IsRedirected p w made
  for_redirected v l u s body ss new is same inner made_is = record {
    put = λ line rest.
        ap (λ w. put_what w line (mapped (redirect p) rest)) made_is
        ∙ put-For line (mapped (redirect p) rest) v l u s new
        ∙ ap (λ b. Loop line v l u s b (mapped (redirect p) rest)) (inner ∙ ap (λ ss. mapped (redirect p) (nest ss)) same)
        ∙ ap (mapped (redirect p)) (sym (ap (λ w. put_what w line rest) is ∙ put-For line rest v l u s body));
  }

  pub if_redirected : (set : Set) (names : List Name) (first ss new : List Stmt) → w ≡ what.If set names first None → ss ≡ first → nest new ≡ mapped (redirect p) (nest ss)
      → made ≡ what.If set names new None → IsRedirected p w made
  if_redirected set names first ss new is same inner made_is = record {
    put = λ line rest.
        ap (λ w. put_what w line (mapped (redirect p) rest)) made_is
        ∙ put-If line (mapped (redirect p) rest) set names new
        ∙ ap (λ b. Branch line set names b false Nothing (mapped (redirect p) rest)) (inner ∙ ap (λ ss. mapped (redirect p) (nest ss)) same)
        ∙ ap (mapped (redirect p)) (sym (ap (λ w. put_what w line rest) is ∙ put-If line rest set names first));
  }

  pub if_else_redirected : (set : Set) (names : List Name) (first other ss ts new more : List Stmt) → w ≡ what.If set names first (Some other) → ss ≡ first → ts ≡ other
      → nest new ≡ mapped (redirect p) (nest ss) → nest more ≡ mapped (redirect p) (nest ts) → made ≡ what.If set names new (Some more) → IsRedirected p w made
  if_else_redirected set names first other ss ts new more is same alike inner outer made_is = record {
    put = λ line rest.
        ap (λ w. put_what w line (mapped (redirect p) rest)) made_is
        ∙ put-If-else line (mapped (redirect p) rest) set names new more
        ∙ ap (λ b. Branch line set names b true (nest more) (mapped (redirect p) rest)) (inner ∙ ap (λ ss. mapped (redirect p) (nest ss)) same)
        ∙ ap (λ b. Branch line set names (mapped (redirect p) (nest first)) true b (mapped (redirect p) rest)) (outer ∙ ap (λ ss. mapped (redirect p) (nest ss)) alike)
        ∙ ap (mapped (redirect p)) (sym (ap (λ w. put_what w line rest) is ∙ put-If-else line rest set names first other));
  }

  load_put : (r m : Name) (at : Access) (ty : MemrefType) (line : ℕ) (rest : Nest) (same : Bool)
      → put_what (if same then what.Load r (fast_name p.name) (in_fast (begins p) at) (fast_type p) else what.Load r m at ty) line rest
      ≡ Does line (if same then Load r (fast_name p.name) (in_fast (begins p) at) (fast_type p) else Load r m at ty) rest
  load_put r m at ty line rest true = put-Load line rest r (fast_name p.name) (in_fast (begins p) at) (fast_type p)
  load_put r m at ty line rest false = put-Load line rest r m at ty

  pub load_redirected : (r m : Name) (at : Access) (ty : MemrefType) → w ≡ what.Load r m at ty → made ≡ load_over p r m at ty → IsRedirected p w made
  load_redirected r m at ty is made_is = record {
    put = λ line rest.
        ap (λ w. put_what w line (mapped (redirect p) rest)) made_is
        ∙ load_put r m at ty line (mapped (redirect p) rest) (same_name p.memref m)
        ∙ ap (mapped (redirect p)) (sym (ap (λ w. put_what w line rest) is ∙ put-Load line rest r m at ty));
  }

  store_put : (x m : Name) (at : Access) (ty : MemrefType) (line : ℕ) (rest : Nest) (same : Bool)
      → put_what (if same then what.Store x (fast_name p.name) (in_fast (begins p) at) (fast_type p) else what.Store x m at ty) line rest
      ≡ Does line (if same then Store x (fast_name p.name) (in_fast (begins p) at) (fast_type p) else Store x m at ty) rest
  store_put x m at ty line rest true = put-Store line rest x (fast_name p.name) (in_fast (begins p) at) (fast_type p)
  store_put x m at ty line rest false = put-Store line rest x m at ty

  pub store_redirected : (x m : Name) (at : Access) (ty : MemrefType) → w ≡ what.Store x m at ty → made ≡ store_over p x m at ty → IsRedirected p w made
  store_redirected x m at ty is made_is = record {
    put = λ line rest.
        ap (λ w. put_what w line (mapped (redirect p) rest)) made_is
        ∙ store_put x m at ty line (mapped (redirect p) rest) (same_name p.memref m)
        ∙ ap (mapped (redirect p)) (sym (ap (λ w. put_what w line rest) is ∙ put-Store line rest x m at ty));
  }

-- what is no load and no store stays
record IsKept (p : Placement) (q : Plain) : Type 0 where
  same : redirect p q ≡ q

kept : (p : Placement) (w : What) → ((r m : Name) (at : Access) (ty : MemrefType) → w ≡ what.Load r m at ty → ⊥) → ((x m : Name) (at : Access) (ty : MemrefType) → w ≡ what.Store x m at ty → ⊥) → IsKept p (plain_of w)
unfolding plain_of
kept p w load store = by (what.out-What w) (what.roll-out-What w)
  where
    by : (x : What-F What Stmt) → what.roll-What x ≡ w → IsKept p (head_plain (put_what w 0 Nothing))
    by (What-F.Load r m at ty) e = absurd (load r m at ty (sym e ∙ rolls-Load r m at ty))
    by (What-F.Store r m at ty) e = absurd (store r m at ty (sym e ∙ rolls-Store r m at ty))
    by x e = subst (λ n. IsKept p (head_plain n)) (sym (put_what_is 0 Nothing x w e)) (record { same = refl })

pub other_redirected : (p : Placement) (w made : What)
    → ((v : Name) (l u : Bound) (step : ℤ) (body : List Stmt) → w ≡ what.For v l u step body → ⊥)
    → ((set : Set) (names : List Name) (first : List Stmt) (other : Option (List Stmt)) → w ≡ what.If set names first other → ⊥)
    → ((r m : Name) (at : Access) (ty : MemrefType) → w ≡ what.Load r m at ty → ⊥) → ((x m : Name) (at : Access) (ty : MemrefType) → w ≡ what.Store x m at ty → ⊥)
    → made ≡ w → IsRedirected p w made
other_redirected p w made loop condition load store made_is = record {
  put = λ line rest.
      let region = plain_unless w loop condition in
      ap (λ w. put_what w line (mapped (redirect p) rest)) made_is
      ∙ put_plain w line (mapped (redirect p) rest) region
      ∙ ap (λ q. Does line q (mapped (redirect p) rest)) (sym (IsKept.same (kept p w load store)))
      ∙ ap (mapped (redirect p)) (sym (put_plain w line rest region));
}

-- ---- a list

nest_push : (out : List Stmt) (s : Stmt) (n : Nest) → followed_by (nest (out ++ s ∷ [])) n ≡ followed_by (nest out) (put_what s.what s.line n)
nest_push out s n =
    ap (λ m. followed_by m n) (nest-append out (s ∷ []))
    ∙ followed_assoc (nest out) (nest (s ∷ [])) n
    ∙ ap (followed_by (nest out)) (ap (λ m. followed_by m n) (nest-cons s [] ∙ ap (put_what s.what s.line) nest-nil) ∙ put-followed s.what s.line Nothing n)
  where
    followed_assoc : (a b c : Nest) → followed_by (followed_by a b) c ≡ followed_by a (followed_by b c)
    followed_assoc Nothing b c = refl
    followed_assoc (Loop line v l u s body rest) b c = ap (Loop line v l u s body) (followed_assoc rest b c)
    followed_assoc (Branch line set names first has other rest) b c = ap (Branch line set names first has other) (followed_assoc rest b c)
    followed_assoc (Does line q rest) b c = ap (Does line q) (followed_assoc rest b c)

followed_nothing : (a : Nest) → followed_by a Nothing ≡ a
followed_nothing Nothing = refl
followed_nothing (Loop line v l u s body rest) = ap (Loop line v l u s body) (followed_nothing rest)
followed_nothing (Branch line set names first has other rest) = ap (Branch line set names first has other) (followed_nothing rest)
followed_nothing (Does line q rest) = ap (Does line q) (followed_nothing rest)

pub redirect_first : (p : Placement) (out : List Stmt) (n : Nest) → out ≡ [] → mapped (redirect p) n ≡ followed_by (nest out) (mapped (redirect p) n)
redirect_first p out n e = sym (ap (λ ss. followed_by (nest ss) (mapped (redirect p) n)) e ∙ ap (λ m. followed_by m (mapped (redirect p) n)) nest-nil)

pub redirect_step : (p : Placement) (ss : List Stmt) (i : ℕ) (s made : Stmt) (w : What) (out new : List Stmt) (total : Nest) → i < length ss → s ≡ get_or ss i s
    → made.line ≡ s.line → made.what ≡ w → IsRedirected p s.what w → new ≡ out ++ made ∷ []
    → total ≡ followed_by (nest out) (mapped (redirect p) (nest (drop i ss))) → total ≡ followed_by (nest new) (mapped (redirect p) (nest (drop (i + 1) ss)))
redirect_step p ss i s made w out new total h e line same is pushed so =
    let rest = nest (drop (i + 1) ss) in
    so
    ∙ ap (λ n. followed_by (nest out) (mapped (redirect p) n)) (ap nest (drop_more ss i s h ∙ ap (λ x. x ∷ drop (i + 1) ss) (sym e)) ∙ nest-cons s (drop (i + 1) ss))
    ∙ ap (followed_by (nest out)) (sym (is.put s.line rest) ∙ ap (λ k. put_what w k (mapped (redirect p) rest)) (sym line) ∙ ap (λ w. put_what w made.line (mapped (redirect p) rest)) (sym same))
    ∙ sym (nest_push out made (mapped (redirect p) rest))
    ∙ ap (λ ss. followed_by (nest ss) (mapped (redirect p) rest)) (sym pushed)

pub redirect_end : (p : Placement) (ss : List Stmt) (i : ℕ) (out : List Stmt) (total : Nest) → length ss ≤ i → total ≡ followed_by (nest out) (mapped (redirect p) (nest (drop i ss))) → nest out ≡ total
redirect_end p ss i out total h so =
    sym (so ∙ ap (λ ss. followed_by (nest out) (mapped (redirect p) (nest ss))) (drop_all i ss h) ∙ ap (λ n. followed_by (nest out) (mapped (redirect p) n)) nest-nil ∙ followed_nothing (nest out))
