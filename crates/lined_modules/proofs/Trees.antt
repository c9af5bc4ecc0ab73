-- The text with lines is that of a module.
use Rattle.std.proofs.Common.{◌≡◌, ℕ, ℤ, true, false, List, Some, None, refl, sym, ap, ◌∙◌}
use Rattle.affine_expr.specs.declared.map.Set.{Set}
use Rattle.affine_ast.specs.declared.name.Name.{Name}
use Rattle.affine_ast.specs.declared.stmt.Stmt.{Stmt}
use Rattle.affine_ast.specs.declared.stmt.What as what
use Rattle.affine_ast.specs.declared.types.Bound.{Bound}
use Rattle.affine_ast.specs.Nest.{Plain, Nest, Nothing, Loop, Branch, Does, nest}
use Rattle.affine_ast.proofs.Nests.{nest-nil, nest-cons, put-For, put-If, put-If-else}
use Rattle.printed_texts.proofs.Unnested.{what_of, stmt_of, stmts_of, put_plain, unnested}
use Rattle.plan_laws.specs.Sites.{lined}

-- a condition without an else region has nothing there
abbrev pub Closed : Nest → Type 0
Closed Nothing = Unit {0}
Closed (Loop line v l u s body rest) = Closed body × Closed rest
Closed (Branch line set names first true other rest) = Closed first × Closed other × Closed rest
Closed (Branch line set names first false other rest) = (other ≡ Nothing) × Closed first × Closed rest
Closed (Does line p rest) = Closed rest

module _ (line : ℕ) where
  of_loop : (v : Name) (l u : Bound) (s : ℤ) (body rest : Nest) → nest (stmts_of (Loop line v l u s body rest)) ≡ Loop line v l u s (nest (stmts_of body)) (nest (stmts_of rest))
  of_loop v l u s body rest = nest-cons (stmt_of line (what.For v l u s (stmts_of body))) (stmts_of rest) ∙ put-For line (nest (stmts_of rest)) v l u s (stmts_of body)

  of_choice : (set : Set) (names : List Name) (first other rest : Nest) → nest (stmts_of (Branch line set names first true other rest)) ≡ Branch line set names (nest (stmts_of first)) true (nest (stmts_of other)) (nest (stmts_of rest))
  of_choice set names first other rest = nest-cons (stmt_of line (what.If set names (stmts_of first) (Some (stmts_of other)))) (stmts_of rest) ∙ put-If-else line (nest (stmts_of rest)) set names (stmts_of first) (stmts_of other)

  of_condition : (set : Set) (names : List Name) (first other rest : Nest) → nest (stmts_of (Branch line set names first false other rest)) ≡ Branch line set names (nest (stmts_of first)) false Nothing (nest (stmts_of rest))
  of_condition set names first other rest = nest-cons (stmt_of line (what.If set names (stmts_of first) None)) (stmts_of rest) ∙ put-If line (nest (stmts_of rest)) set names (stmts_of first)

  of_plain : (p : Plain) (rest : Nest) → nest (stmts_of (Does line p rest)) ≡ Does line p (nest (stmts_of rest))
  of_plain p rest = nest-cons (stmt_of line (what_of p)) (stmts_of rest) ∙ put_plain p line (nest (stmts_of rest))

closed : (n : Nest) → nest (stmts_of n) ≡ n → Closed n
closed Nothing e = tt
closed (Loop line v l u s body rest) e =
    let f : Loop line v l u s (nest (stmts_of body)) (nest (stmts_of rest)) ≡ Loop line v l u s body rest = sym (of_loop line v l u s body rest) ∙ e in
    (closed body cc, closed rest cc)
closed (Branch line set names first true other rest) e =
    let f : Branch line set names (nest (stmts_of first)) true (nest (stmts_of other)) (nest (stmts_of rest)) ≡ Branch line set names first true other rest = sym (of_choice line set names first other rest) ∙ e in
    (closed first cc, closed other cc, closed rest cc)
closed (Branch line set names first false other rest) e =
    let f : Branch line set names (nest (stmts_of first)) false Nothing (nest (stmts_of rest)) ≡ Branch line set names first false other rest = sym (of_condition line set names first other rest) ∙ e in
    let g : Nothing ≡ other = cc in
    (sym g, closed first cc, closed rest cc)
closed (Does line p rest) e =
    let f : Does line p (nest (stmts_of rest)) ≡ Does line p rest = sym (of_plain line p rest) ∙ e in
    closed rest cc

closed_lined : (n : Nest) → Closed n → Closed (lined n)
closed_lined Nothing h = tt
closed_lined (Loop line v l u s body rest) h = (closed_lined body h.0, closed_lined rest h.1)
closed_lined (Branch line set names first true other rest) h = (closed_lined first h.0, closed_lined other h.1, closed_lined rest h.2)
closed_lined (Branch line set names first false other rest) h = (ap lined h.0, closed_lined first h.1, closed_lined rest h.2)
closed_lined (Does line p rest) h = closed_lined rest h

pub made : (n : Nest) → Closed n → nest (stmts_of n) ≡ n
made Nothing h = nest-nil
made (Loop line v l u s body rest) h = of_loop line v l u s body rest ∙ (λ i. Loop line v l u s (made body h.0 i) (made rest h.1 i))
made (Branch line set names first true other rest) h = of_choice line set names first other rest ∙ (λ i. Branch line set names (made first h.0 i) true (made other h.1 i) (made rest h.2 i))
made (Branch line set names first false other rest) h = of_condition line set names first other rest ∙ (λ i. Branch line set names (made first h.1 i) false (sym h.0 i) (made rest h.2 i))
made (Does line p rest) h = of_plain line p rest ∙ ap (λ n. Does line p n) (made rest h)

pub closed_text : (ss : List Stmt) → Closed (lined (nest ss))
closed_text ss = closed_lined (nest ss) (closed (nest ss) (ap nest (unnested (nest ss) ss refl)))

pub tree_lined : (ss : List Stmt) → nest (stmts_of (lined (nest ss))) ≡ lined (nest ss)
tree_lined ss = made (lined (nest ss)) (closed_text ss)
