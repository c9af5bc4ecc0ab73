-- Statements with lines, one law for each kind, and lists of them.
use Rattle.std.proofs.Common.{◌≡◌, ℕ, zero, suc, ◌+◌, ◌<◌, ◌≤◌, ℤ, true, false, List, [], ◌∷◌, ◌++◌, drop, length, get_or, refl, sym, ap, ◌∙◌}
use Rattle.std.specs.Prelude.{Option, Some, None}
use Rattle.std.proofs.lemmas.List.{drop_all}
use Rattle.affine_expr.specs.declared.map.Set.{Set}
use Rattle.affine_ast.specs.declared.name.Name.{Name}
use Rattle.affine_ast.specs.declared.types.Bound.{Bound}
use Rattle.affine_ast.specs.declared.stmt.Stmt.{Stmt}
use Rattle.affine_ast.specs.declared.stmt.What as what
use Rattle.affine_ast.specs.declared.stmt.What.{What}
use Rattle.affine_ast.specs.Nest.{Nest, Nothing, Loop, Branch, Does, nest, followed_by, put_what}
use Rattle.affine_ast.proofs.Nests.{nest-nil, nest-cons, nest-append, put-For, put-If, put-If-else, put_plain, plain_unless, put-followed}
use Rattle.module_work.proofs.Works.{nest_step}
use Rattle.plan_laws.specs.Sites.{line_or_one, lined}
use Rattle.lined_texts.specs.Lined.{IsLinedWhat}

pub one_for_none : (line : ℕ) → line ≡ 0 → 1 ≡ line_or_one line
one_for_none line e = sym (ap line_or_one e)

pub own_line : (line : ℕ) → (line ≡ 0 → ⊥) → line ≡ line_or_one line
own_line zero h = absurd (h refl)
own_line (suc line) h = refl

-- ---- a statement
module _ (w made : What) where
  pub for_lined : (v : Name) (l u : Bound) (s : ℤ) (body ss new : List Stmt) → w ≡ what.For v l u s body → ss ≡ body → nest new ≡ lined (nest ss) → made ≡ what.For v l u s new → IsLinedWhat w made
  for_lined v l u s body ss new is same inner made_is = record {
    put = λ line rest.
        ap (λ w. put_what w (line_or_one line) (lined rest)) made_is
        ∙ put-For (line_or_one line) (lined rest) v l u s new
        ∙ ap (λ b. Loop (line_or_one line) v l u s b (lined rest)) (inner ∙ ap (λ ss. lined (nest ss)) same)
        ∙ ap lined (sym (ap (λ w. put_what w line rest) is ∙ put-For line rest v l u s body));
  }

  pub if_lined : (set : Set) (names : List Name) (first ss new : List Stmt) → w ≡ what.If set names first None → ss ≡ first → nest new ≡ lined (nest ss) → made ≡ what.If set names new None → IsLinedWhat w made
  if_lined set names first ss new is same inner made_is = record {
    put = λ line rest.
        ap (λ w. put_what w (line_or_one line) (lined rest)) made_is
        ∙ put-If (line_or_one line) (lined rest) set names new
        ∙ ap (λ b. Branch (line_or_one line) set names b false Nothing (lined rest)) (inner ∙ ap (λ ss. lined (nest ss)) same)
        ∙ ap lined (sym (ap (λ w. put_what w line rest) is ∙ put-If line rest set names first));
  }

  pub if_else_lined : (set : Set) (names : List Name) (first other ss ts new more : List Stmt) → w ≡ what.If set names first (Some other) → ss ≡ first → ts ≡ other
      → nest new ≡ lined (nest ss) → nest more ≡ lined (nest ts) → made ≡ what.If set names new (Some more) → IsLinedWhat w made
  if_else_lined set names first other ss ts new more is same alike inner outer made_is = record {
    put = λ line rest.
        ap (λ w. put_what w (line_or_one line) (lined rest)) made_is
        ∙ put-If-else (line_or_one line) (lined rest) set names new more
        ∙ (λ i. Branch (line_or_one line) set names ((inner ∙ ap (λ ss. lined (nest ss)) same) i) true ((outer ∙ ap (λ ss. lined (nest ss)) alike) i) (lined rest))
        ∙ ap lined (sym (ap (λ w. put_what w line rest) is ∙ put-If-else line rest set names first other));
  }

  pub plain_lined : ((v : Name) (l u : Bound) (step : ℤ) (body : List Stmt) → w ≡ what.For v l u step body → ⊥)
      → ((set : Set) (names : List Name) (first : List Stmt) (other : Option (List Stmt)) → w ≡ what.If set names first other → ⊥) → made ≡ w → IsLinedWhat w made
  plain_lined loop condition made_is = record {
    put = λ line rest.
        let region = plain_unless w loop condition in
        ap (λ w. put_what w (line_or_one line) (lined rest)) made_is
        ∙ put_plain w (line_or_one line) (lined rest) region
        ∙ ap lined (sym (put_plain w line rest region));
  }

-- ---- a list
followed_assoc : (a b c : Nest) → followed_by (followed_by a b) c ≡ followed_by a (followed_by b c)
followed_assoc Nothing b c = refl
followed_assoc (Loop line v l u s body rest) b c = ap (Loop line v l u s body) (followed_assoc rest b c)
followed_assoc (Branch line set names first has other rest) b c = ap (Branch line set names first has other) (followed_assoc rest b c)
followed_assoc (Does line q rest) b c = ap (Does line q) (followed_assoc rest b c)

followed_nothing : (a : Nest) → followed_by a Nothing ≡ a
followed_nothing Nothing = refl
followed_nothing (Loop line v l u s body rest) = ap (Loop line v l u s body) (followed_nothing rest)
followed_nothing (Branch line set names first has other rest) = ap (Branch line set names first has other) (followed_nothing rest)
followed_nothing (Does line q rest) = ap (Does line q) (followed_nothing rest)

nest_push : (out : List Stmt) (s : Stmt) (n : Nest) → followed_by (nest (out ++ s ∷ [])) n ≡ followed_by (nest out) (put_what s.what s.line n)
nest_push out s n =
    ap (λ m. followed_by m n) (nest-append out (s ∷ []))
    ∙ followed_assoc (nest out) (nest (s ∷ [])) n
    ∙ ap (followed_by (nest out)) (ap (λ m. followed_by m n) (nest-cons s [] ∙ ap (put_what s.what s.line) nest-nil) ∙ put-followed s.what s.line Nothing n)

module _ (ss : List Stmt) where
  abbrev pub IsLinedTo : ℕ → List Stmt → Type 0
  IsLinedTo i out = lined (nest ss) ≡ followed_by (nest out) (lined (nest (drop i ss)))

  pub lines_begin : (out : List Stmt) → out ≡ [] → IsLinedTo 0 out
  lines_begin out e = sym (ap (λ ss_. followed_by (nest ss_) (lined (nest ss))) e ∙ ap (λ m. followed_by m (lined (nest ss))) nest-nil)

  pub lines_go_on : (i : ℕ) (s made : Stmt) (w : What) (out new : List Stmt) → i < length ss → s ≡ get_or ss i s → made.line ≡ line_or_one s.line → made.what ≡ w
      → IsLinedWhat s.what w → new ≡ out ++ made ∷ [] → IsLinedTo i out → IsLinedTo (i + 1) new
  lines_go_on i s made w out new h e line same is pushed so =
      let rest = nest (drop (i + 1) ss) in
      so
      ∙ ap (λ n. followed_by (nest out) (lined n)) (nest_step ss i s h e)
      ∙ ap (followed_by (nest out)) (sym (is.put s.line rest) ∙ (λ j. put_what (sym same j) (sym line j) (lined rest)))
      ∙ sym (nest_push out made (lined rest))
      ∙ ap (λ ss. followed_by (nest ss) (lined rest)) (sym pushed)

  pub lines_end : (i : ℕ) (out : List Stmt) → length ss ≤ i → IsLinedTo i out → nest out ≡ lined (nest ss)
  lines_end i out h so =
      sym (so ∙ ap (λ ss. followed_by (nest out) (lined (nest ss))) (drop_all i ss h) ∙ ap (λ n. followed_by (nest out) (lined n)) nest-nil ∙ followed_nothing (nest out))
