-- Changed statements, one law for each kind.
use Rattle.std.proofs.Common.{◌≡◌, ℕ, ◌+◌, ◌<◌, ◌≤◌, ℤ, true, false, List, [], ◌∷◌, ◌++◌, drop, length, get_or, refl, sym, ap, ◌∙◌, subst}
use Rattle.std.specs.Prelude.{Option, Some, None}
use Rattle.std.proofs.lemmas.List.{drop_more, drop_all}
use Rattle.affine_expr.specs.declared.map.Set.{Set}
use Rattle.affine_ast.specs.declared.name.Name.{Name}
use Rattle.affine_ast.specs.declared.types.Access.{Access}
use Rattle.affine_ast.specs.declared.types.Bound.{Bound}
use Rattle.affine_ast.specs.declared.types.MemrefType.{MemrefType}
use Rattle.affine_ast.specs.declared.stmt.Stmt.{Stmt}
use Rattle.affine_ast.specs.declared.stmt.What as what
use Rattle.affine_ast.specs.declared.stmt.What.{What}
use Rattle.affine_ast.specs.declared.stmt.What.TheOpen.{What-F}
use Rattle.affine_ast.specs.declared.stmt.What.TheVariants.{rolls-Load, rolls-Store, rolls-Start, rolls-Wait}
use Rattle.affine_ast.specs.Nest.{Plain, Nest, Nothing, Loop, Branch, Does, Load, Store, Start, Wait, nest, followed_by, put_what, plain_of, head_plain}
use Rattle.affine_ast.proofs.Nests.{nest-nil, nest-cons, nest-append, put-For, put-If, put-If-else, put-Load, put-Store, put-Start, put-Wait, put_plain, plain_unless, put_what_is, put-followed}
use Rattle.placement_texts.specs.Mapped.{mapped}
use Rattle.placement_texts.specs.Normal.{normal}
use Rattle.normal_texts.specs.Texts.{normal_plain}
use Rattle.normal_modules.specs.Changed.{IsChanged}

-- ---- a statement
module _ (w made : What) where
  pub for_changed : (v : Name) (l u : Bound) (s : ℤ) (body ss new : List Stmt) → w ≡ what.For v l u s body → ss ≡ body → nest new ≡ mapped normal_plain (nest ss)
      → made ≡ what.For v l u s new → IsChanged normal_plain w made
  for_changed v l u s body ss new is same inner made_is = record {
    put = λ line rest.
        ap (λ w. put_what w line (mapped normal_plain rest)) made_is
        ∙ put-For line (mapped normal_plain rest) v l u s new
        ∙ ap (λ b. Loop line v l u s b (mapped normal_plain rest)) (inner ∙ ap (λ ss. mapped normal_plain (nest ss)) same)
        ∙ ap (mapped normal_plain) (sym (ap (λ w. put_what w line rest) is ∙ put-For line rest v l u s body));
  }

  pub if_changed : (set : Set) (names : List Name) (first ss new : List Stmt) → w ≡ what.If set names first None → ss ≡ first → nest new ≡ mapped normal_plain (nest ss)
      → made ≡ what.If set names new None → IsChanged normal_plain w made
  if_changed set names first ss new is same inner made_is = record {
    put = λ line rest.
        ap (λ w. put_what w line (mapped normal_plain rest)) made_is
        ∙ put-If line (mapped normal_plain rest) set names new
        ∙ ap (λ b. Branch line set names b false Nothing (mapped normal_plain rest)) (inner ∙ ap (λ ss. mapped normal_plain (nest ss)) same)
        ∙ ap (mapped normal_plain) (sym (ap (λ w. put_what w line rest) is ∙ put-If line rest set names first));
  }

  pub if_else_changed : (set : Set) (names : List Name) (first other ss ts new more : List Stmt) → w ≡ what.If set names first (Some other) → ss ≡ first → ts ≡ other
      → nest new ≡ mapped normal_plain (nest ss) → nest more ≡ mapped normal_plain (nest ts) → made ≡ what.If set names new (Some more) → IsChanged normal_plain w made
  if_else_changed set names first other ss ts new more is same alike inner outer made_is = record {
    put = λ line rest.
        ap (λ w. put_what w line (mapped normal_plain rest)) made_is
        ∙ put-If-else line (mapped normal_plain rest) set names new more
        ∙ ap (λ b. Branch line set names b true (nest more) (mapped normal_plain rest)) (inner ∙ ap (λ ss. mapped normal_plain (nest ss)) same)
        ∙ ap (λ b. Branch line set names (mapped normal_plain (nest first)) true b (mapped normal_plain rest)) (outer ∙ ap (λ ss. mapped normal_plain (nest ss)) alike)
        ∙ ap (mapped normal_plain) (sym (ap (λ w. put_what w line rest) is ∙ put-If-else line rest set names first other));
  }

  pub load_changed : (r m : Name) (at : Access) (ty : MemrefType) → w ≡ what.Load r m at ty → made ≡ what.Load r m (normal at) ty → IsChanged normal_plain w made
  load_changed r m at ty is made_is = record {
    put = λ line rest.
        ap (λ w. put_what w line (mapped normal_plain rest)) made_is
        ∙ put-Load line (mapped normal_plain rest) r m (normal at) ty
        ∙ ap (mapped normal_plain) (sym (ap (λ w. put_what w line rest) is ∙ put-Load line rest r m at ty));
  }

  pub store_changed : (x m : Name) (at : Access) (ty : MemrefType) → w ≡ what.Store x m at ty → made ≡ what.Store x m (normal at) ty → IsChanged normal_plain w made
  store_changed x m at ty is made_is = record {
    put = λ line rest.
        ap (λ w. put_what w line (mapped normal_plain rest)) made_is
        ∙ put-Store line (mapped normal_plain rest) x m (normal at) ty
        ∙ ap (mapped normal_plain) (sym (ap (λ w. put_what w line rest) is ∙ put-Store line rest x m at ty));
  }

  pub start_changed : (a : Name) (aa : Access) (b : Name) (bb : Access) (g : Name) (ga : Access) (n : Name) (stride : Option (Name × Name)) (types : List MemrefType) → w ≡ what.Start a aa b bb g ga n stride types → made ≡ what.Start a (normal aa) b (normal bb) g (normal ga) n stride types → IsChanged normal_plain w made
  start_changed a aa b bb g ga n stride types is made_is = record {
    put = λ line rest.
        ap (λ w. put_what w line (mapped normal_plain rest)) made_is
        ∙ put-Start line (mapped normal_plain rest) a (normal aa) b (normal bb) g (normal ga) n stride types
        ∙ ap (mapped normal_plain) (sym (ap (λ w. put_what w line rest) is ∙ put-Start line rest a aa b bb g ga n stride types));
  }

  pub wait_changed : (g : Name) (at : Access) (n : Name) (ty : MemrefType) → w ≡ what.Wait g at n ty → made ≡ what.Wait g (normal at) n ty → IsChanged normal_plain w made
  wait_changed g at n ty is made_is = record {
    put = λ line rest.
        ap (λ w. put_what w line (mapped normal_plain rest)) made_is
        ∙ put-Wait line (mapped normal_plain rest) g (normal at) n ty
        ∙ ap (mapped normal_plain) (sym (ap (λ w. put_what w line rest) is ∙ put-Wait line rest g at n ty));
  }

-- what has no subscripts in brackets stays
record IsKept (q : Plain) : Type 0 where
  same : normal_plain q ≡ q

module _ (w : What) (load : (r m : Name) (at : Access) (ty : MemrefType) → w ≡ what.Load r m at ty → ⊥) (store : (x m : Name) (at : Access) (ty : MemrefType) → w ≡ what.Store x m at ty → ⊥)
    (start : (a : Name) (aa : Access) (b : Name) (bb : Access) (g : Name) (ga : Access) (n : Name) (stride : Option (Name × Name)) (types : List MemrefType) → w ≡ what.Start a aa b bb g ga n stride types → ⊥)
    (wait : (g : Name) (at : Access) (n : Name) (ty : MemrefType) → w ≡ what.Wait g at n ty → ⊥) where
  kept_by : (x : What-F What Stmt) → what.roll-What x ≡ w → IsKept (head_plain (put_what w 0 Nothing))
  kept_by (What-F.Load r m at ty) e = absurd (load r m at ty (sym e ∙ rolls-Load r m at ty))
  kept_by (What-F.Store r m at ty) e = absurd (store r m at ty (sym e ∙ rolls-Store r m at ty))
  kept_by (What-F.Start a aa b bb g ga n stride types) e = absurd (start a aa b bb g ga n stride types (sym e ∙ rolls-Start a aa b bb g ga n stride types))
  kept_by (What-F.Wait g at n ty) e = absurd (wait g at n ty (sym e ∙ rolls-Wait g at n ty))
  kept_by x e = subst (λ n. IsKept (head_plain n)) (sym (put_what_is 0 Nothing x w e)) (record { same = refl })

  kept : IsKept (plain_of w)
  unfolding plain_of
  kept = kept_by (what.out-What w) (what.roll-out-What w)

  pub other_changed : (made : What) → ((v : Name) (l u : Bound) (step : ℤ) (body : List Stmt) → w ≡ what.For v l u step body → ⊥)
      → ((set : Set) (names : List Name) (first : List Stmt) (other : Option (List Stmt)) → w ≡ what.If set names first other → ⊥) → made ≡ w → IsChanged normal_plain w made
  other_changed made loop condition made_is = record {
    put = λ line rest.
        let region = plain_unless w loop condition in
        ap (λ w. put_what w line (mapped normal_plain rest)) made_is
        ∙ put_plain w line (mapped normal_plain rest) region
        ∙ ap (λ q. Does line q (mapped normal_plain rest)) (sym (IsKept.same kept))
        ∙ ap (mapped normal_plain) (sym (put_plain w line rest region));
  }

-- ---- a list

nest_push : (out : List Stmt) (s : Stmt) (n : Nest) → followed_by (nest (out ++ s ∷ [])) n ≡ followed_by (nest out) (put_what s.what s.line n)
nest_push out s n =
    ap (λ m. followed_by m n) (nest-append out (s ∷ []))
    ∙ followed_assoc (nest out) (nest (s ∷ [])) n
    ∙ ap (followed_by (nest out)) (ap (λ m. followed_by m n) (nest-cons s [] ∙ ap (put_what s.what s.line) nest-nil) ∙ put-followed s.what s.line Nothing n)
  where
    followed_assoc : (a b c : Nest) → followed_by (followed_by a b) c ≡ followed_by a (followed_by b c)
    followed_assoc Nothing b c = refl
    followed_assoc (Loop line v l u s body rest) b c = ap (Loop line v l u s body) (followed_assoc rest b c)
    followed_assoc (Branch line set names first has other rest) b c = ap (Branch line set names first has other) (followed_assoc rest b c)
    followed_assoc (Does line q rest) b c = ap (Does line q) (followed_assoc rest b c)

followed_nothing : (a : Nest) → followed_by a Nothing ≡ a
followed_nothing Nothing = refl
followed_nothing (Loop line v l u s body rest) = ap (Loop line v l u s body) (followed_nothing rest)
followed_nothing (Branch line set names first has other rest) = ap (Branch line set names first has other) (followed_nothing rest)
followed_nothing (Does line q rest) = ap (Does line q) (followed_nothing rest)

pub change_first : (out : List Stmt) (n : Nest) → out ≡ [] → mapped normal_plain n ≡ followed_by (nest out) (mapped normal_plain n)
change_first out n e = sym (ap (λ ss. followed_by (nest ss) (mapped normal_plain n)) e ∙ ap (λ m. followed_by m (mapped normal_plain n)) nest-nil)

pub change_step : (ss : List Stmt) (i : ℕ) (s made : Stmt) (w : What) (out new : List Stmt) (total : Nest) → i < length ss → s ≡ get_or ss i s
    → made.line ≡ s.line → made.what ≡ w → IsChanged normal_plain s.what w → new ≡ out ++ made ∷ []
    → total ≡ followed_by (nest out) (mapped normal_plain (nest (drop i ss))) → total ≡ followed_by (nest new) (mapped normal_plain (nest (drop (i + 1) ss)))
change_step ss i s made w out new total h e line same is pushed so =
    let rest = nest (drop (i + 1) ss) in
    so
    ∙ ap (λ n. followed_by (nest out) (mapped normal_plain n)) (ap nest (drop_more ss i s h ∙ ap (λ x. x ∷ drop (i + 1) ss) (sym e)) ∙ nest-cons s (drop (i + 1) ss))
    ∙ ap (followed_by (nest out)) (sym (is.put s.line rest) ∙ ap (λ k. put_what w k (mapped normal_plain rest)) (sym line) ∙ ap (λ w. put_what w made.line (mapped normal_plain rest)) (sym same))
    ∙ sym (nest_push out made (mapped normal_plain rest))
    ∙ ap (λ ss. followed_by (nest ss) (mapped normal_plain rest)) (sym pushed)

pub change_end : (ss : List Stmt) (i : ℕ) (out : List Stmt) (total : Nest) → length ss ≤ i → total ≡ followed_by (nest out) (mapped normal_plain (nest (drop i ss))) → nest out ≡ total
change_end ss i out total h so =
    sym (so ∙ ap (λ ss. followed_by (nest out) (mapped normal_plain (nest ss))) (drop_all i ss h) ∙ ap (λ n. followed_by (nest out) (mapped normal_plain n)) nest-nil ∙ followed_nothing (nest out))
