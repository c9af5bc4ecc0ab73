-- The size of what is left to walk, by which each walk ends: four for each part of a text, so that the calls between a statement and
-- the statements of its regions have sizes of their own.
use Rattle.std.proofs.Common.{◌≡◌, ℕ, ◌+◌, ◌*◌, ◌<◌, ℤ, List, length, get_or, Option, Some, None, refl, ap, ◌∙◌, arith}
use Rattle.affine_expr.specs.declared.map.Set.{Set}
use Rattle.affine_ast.specs.declared.name.Name.{Name}
use Rattle.affine_ast.specs.declared.types.Bound.{Bound}
use Rattle.affine_ast.specs.declared.stmt.Stmt.{Stmt}
use Rattle.affine_ast.specs.declared.stmt.What as what
use Rattle.affine_ast.specs.declared.stmt.What.{What}
use Rattle.affine_ast.specs.Nest.{Nothing, nest, put_what}
use Rattle.affine_ast.proofs.Nests.{nest-nil, put-If, put-If-else}
use Rattle.module_work.proofs.Weights.{weight, weight_of, weight_of_all, lighter_statement, lighter_body}
use Rattle.text_places.specs.Finding.{or_none}

abbrev pub size_of_all : List Stmt → ℕ
size_of_all ss = 4 * weight_of_all ss

abbrev pub size_of : Stmt → ℕ
size_of s = 4 * weight_of s

abbrev pub size_of_region : List Stmt → ℕ
size_of_region ss = 4 * weight_of_all ss + 1

abbrev pub size_of_body : List Stmt → ℕ
size_of_body ss = 4 * weight_of_all ss + 2

abbrev pub size_of_both : List Stmt → List Stmt → ℕ
size_of_both first other = 4 * (weight (nest first) + weight (nest other)) + 7

-- a statement of a list
pub statement_smaller : (ss : List Stmt) (i : ℕ) (s : Stmt) (t : ℕ) → i < length ss → s ≡ get_or ss i s → size_of_all ss ≡ t → size_of s < t
statement_smaller ss i s t h e at = let l = lighter_statement ss i s (weight_of_all ss) h e refl in omega (arith, l, at)

-- the statements of a region
pub list_smaller : (ss : List Stmt) (t : ℕ) → size_of_region ss ≡ t → size_of_all ss < t
list_smaller ss t at = omega (arith, at)

-- the region of a loop
pub region_smaller : (ss : List Stmt) (t : ℕ) → size_of_body ss ≡ t → size_of_region ss < t
region_smaller ss t at = omega (arith, at)

-- the regions of a condition
pub first_smaller : (first other : List Stmt) (t : ℕ) → size_of_both first other ≡ t → size_of_region first < t
first_smaller first other t at = omega (arith, at)

pub other_smaller : (first other : List Stmt) (t : ℕ) → size_of_both first other ≡ t → size_of_region other < t
other_smaller first other t at = omega (arith, at)

module _ (line : ℕ) (w : What) (t : ℕ) where
  -- what a loop or a condition holds
  pub body_smaller : (v : Name) (l u : Bound) (s : ℤ) (body ss : List Stmt) → w ≡ what.For v l u s body → ss ≡ body → size_of (record { line = line; what = w }) ≡ t → size_of_body ss < t
  body_smaller v l u s body ss is same at =
      let h = lighter_body line w (weight_of (record { line = line; what = w })) v l u s body ss is same refl in omega (arith, h, at)

  pub both_smaller : (set : Set) (names : List Name) (first : List Stmt) (o : Option (List Stmt)) (fs os : List Stmt) → w ≡ what.If set names first o → fs ≡ first → os ≡ or_none o
      → size_of (record { line = line; what = w }) ≡ t → size_of_both fs os < t
  unfolding weight
  both_smaller set names first None fs os is same others at =
      let e = ap weight (ap (λ w. put_what w line Nothing) is ∙ put-If line Nothing set names first) in
      let f = ap (λ ss. weight (nest ss)) same in
      let g = ap weight (ap nest others ∙ nest-nil) in
      omega (arith, e, f, g, at)
  both_smaller set names first (Some other) fs os is same others at =
      let e = ap weight (ap (λ w. put_what w line Nothing) is ∙ put-If-else line Nothing set names first other) in
      let f = ap (λ ss. weight (nest ss)) same in
      let g = ap (λ ss. weight (nest ss)) others in
      omega (arith, e, f, g, at)
