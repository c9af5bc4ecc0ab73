-- The size of a text, by which the walk over it ends.
use Rattle.std.proofs.Common.{◌≡◌, ℕ, zero, suc, ◌+◌, ◌<◌, ◌≤◌, ℤ, List, [], ◌∷◌, drop, length, get_or, refl, ap, ◌∙◌, arith}
use Rattle.std.specs.Prelude.{Option, Some, None}
use Rattle.affine_expr.specs.declared.map.Set.{Set}
use Rattle.affine_ast.specs.declared.name.Name.{Name}
use Rattle.affine_ast.specs.declared.types.Bound.{Bound}
use Rattle.affine_ast.specs.declared.stmt.Stmt.{Stmt}
use Rattle.affine_ast.specs.declared.stmt.What as what
use Rattle.affine_ast.specs.declared.stmt.What.{What}
use Rattle.affine_ast.specs.Nest.{Nest, Nothing, Loop, Branch, Does, followed_by, nest, put_what}
use Rattle.affine_ast.proofs.Nests.{nest-cons, put-For, put-If, put-If-else, put-followed}
use Rattle.module_work.proofs.Works.{nest_step}

-- one for each statement and for the end of each region
unfoldable pub weight : Nest → ℕ
weight Nothing = 1
weight (Loop line v l u s body rest) = suc (weight body + weight rest)
weight (Branch line set names first has other rest) = suc (weight first + weight other + weight rest)
weight (Does line p rest) = suc (weight rest)

abbrev pub weight_of : Stmt → ℕ
weight_of s = weight (put_what s.what s.line Nothing)

abbrev pub weight_of_all : List Stmt → ℕ
weight_of_all ss = suc (weight (nest ss))

weight_positive : (n : Nest) → 1 ≤ weight n
unfolding weight
weight_positive Nothing = omega arith
weight_positive (Loop line v l u s body rest) = omega arith
weight_positive (Branch line set names first has other rest) = omega arith
weight_positive (Does line p rest) = omega arith

weight_followed : (a b : Nest) → weight a + weight b ≡ suc (weight (followed_by a b))
unfolding weight
weight_followed Nothing b = omega arith
weight_followed (Loop line v l u s body rest) b = let h = weight_followed rest b in omega (arith, h)
weight_followed (Branch line set names first has other rest) b = let h = weight_followed rest b in omega (arith, h)
weight_followed (Does line p rest) b = let h = weight_followed rest b in omega (arith, h)

weight_first : (s : Stmt) (rest : Nest) → weight_of s + weight rest ≡ suc (weight (put_what s.what s.line rest))
weight_first s rest = weight_followed (put_what s.what s.line Nothing) rest ∙ ap (λ n. suc (weight n)) (put-followed s.what s.line Nothing rest)

weight_drop : (ss : List Stmt) (i : ℕ) → weight (nest (drop i ss)) ≤ weight (nest ss)
weight_drop ss zero = omega arith
weight_drop [] (suc i) = let e : drop (suc i) (let xs : List Stmt = [] in xs) ≡ [] = refl in omega (arith, ap (λ xs. weight (nest xs)) e)
weight_drop (s ∷ ss) (suc i) =
    let h = weight_drop ss i in
    let e = ap weight (nest-cons s ss) in
    let f = weight_first s (nest ss) in
    let p = weight_positive (put_what s.what s.line Nothing) in
    omega (arith, h, e, f, p)

-- a statement of a list
pub lighter_statement : (ss : List Stmt) (i : ℕ) (s : Stmt) (t : ℕ) → i < length ss → s ≡ get_or ss i s → weight_of_all ss ≡ t → weight_of s < t
lighter_statement ss i s t h e at =
    let d = weight_drop ss i in
    let n = ap weight (nest_step ss i s h e) in
    let f = weight_first s (nest (drop (i + 1) ss)) in
    let p = weight_positive (nest (drop (i + 1) ss)) in
    omega (arith, d, n, f, p, at)

module _ (line : ℕ) (w : What) (t : ℕ) where
  -- the regions of a statement
  pub lighter_body : (v : Name) (l u : Bound) (s : ℤ) (body ss : List Stmt) → w ≡ what.For v l u s body → ss ≡ body → weight_of (record { line = line; what = w }) ≡ t → weight_of_all ss < t
  unfolding weight
  lighter_body v l u s body ss is same at =
      let e = ap weight (ap (λ w. put_what w line Nothing) is ∙ put-For line Nothing v l u s body) in
      let f = ap (λ ss. weight (nest ss)) same in omega (arith, e, f, at)

  pub lighter_first : (set : Set) (names : List Name) (first : List Stmt) (o : Option (List Stmt)) (ss : List Stmt) → w ≡ what.If set names first o → ss ≡ first → weight_of (record { line = line; what = w }) ≡ t → weight_of_all ss < t
  unfolding weight
  lighter_first set names first None ss is same at =
      let e = ap weight (ap (λ w. put_what w line Nothing) is ∙ put-If line Nothing set names first) in
      let f = ap (λ ss. weight (nest ss)) same in omega (arith, e, f, at)
  lighter_first set names first (Some other) ss is same at =
      let e = ap weight (ap (λ w. put_what w line Nothing) is ∙ put-If-else line Nothing set names first other) in
      let p = weight_positive (nest other) in
      let f = ap (λ ss. weight (nest ss)) same in omega (arith, e, f, p, at)

  pub lighter_other : (set : Set) (names : List Name) (first other ss : List Stmt) → w ≡ what.If set names first (Some other) → ss ≡ other → weight_of (record { line = line; what = w }) ≡ t → weight_of_all ss < t
  unfolding weight
  lighter_other set names first other ss is same at =
      let e = ap weight (ap (λ w. put_what w line Nothing) is ∙ put-If-else line Nothing set names first other) in
      let p = weight_positive (nest first) in
      let f = ap (λ ss. weight (nest ss)) same in omega (arith, e, f, p, at)
