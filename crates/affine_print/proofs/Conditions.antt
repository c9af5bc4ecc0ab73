-- The text of a condition from the texts of its regions.
use Rattle.std.proofs.Common.{◌≡◌, ℕ, true, List, ◌++◌, sym, ap, ◌∙◌, append_assoc}
use Rattle.std.specs.Prelude.{Option, Some, None, codes}
use Rattle.affine_expr.specs.declared.map.Set.{Set}
use Rattle.affine_ast.specs.declared.name.Name.{Name}
use Rattle.affine_ast.specs.declared.stmt.Stmt.{Stmt}
use Rattle.affine_ast.specs.declared.stmt.What.{What, If}
use Rattle.affine_ast.specs.Nest.{nest}
use Rattle.affine_ast.specs.Spelling.{if_text, deeper, block_text, else_text, lines, statement_text}
use Rattle.affine_ast.proofs.Spellings.{statement-If, statement-If-else}

module _ (margin : List ℕ) (set : Set) (names : List Name) (first : List Stmt) where
  pub one_region : (absent : Option (List Stmt)) (w : What) (old mid new : List ℕ)
      → w ≡ If set names first absent → absent ≡ None → mid ≡ old ++ (if_text set names ++ lines (deeper margin) (nest first)) → new ≡ mid ++ (margin ++ codes "}")
      → new ≡ old ++ statement_text margin w
  unfolding block_text
  one_region absent w old mid new is no_other p q =
      let head = if_text set names in
      let inside = lines (deeper margin) (nest first) in
      let close = margin ++ codes "}" in
      q ∙ ap (λ l. l ++ close) p ∙ append_assoc old (head ++ inside) close ∙ ap (λ l. old ++ l) (append_assoc head inside close)
      ∙ ap (λ l. old ++ l) (sym (ap (statement_text margin) (is ∙ ap (λ o. If set names first o) no_other) ∙ statement-If margin set names first))

  pub two_regions : (both : Option (List Stmt)) (other : List Stmt) (w : What) (old mid more new : List ℕ)
      → w ≡ If set names first both → both ≡ Some other → mid ≡ old ++ (if_text set names ++ lines (deeper margin) (nest first))
      → more ≡ mid ++ else_text margin true (lines (deeper margin) (nest other)) → new ≡ more ++ (margin ++ codes "}")
      → new ≡ old ++ statement_text margin w
  unfolding block_text
  two_regions both other w old mid more new is some p q r =
      let head = if_text set names in
      let inside = lines (deeper margin) (nest first) in
      let behind = else_text margin true (lines (deeper margin) (nest other)) in
      let close = margin ++ codes "}" in
      r ∙ ap (λ l. l ++ close) (q ∙ ap (λ l. l ++ behind) p ∙ append_assoc old (head ++ inside) behind ∙ ap (λ l. old ++ l) (append_assoc head inside behind))
      ∙ append_assoc old (head ++ (inside ++ behind)) close ∙ ap (λ l. old ++ l) (append_assoc head (inside ++ behind) close)
      ∙ ap (λ l. old ++ l) (sym (ap (statement_text margin) (is ∙ ap (λ o. If set names first o) some) ∙ statement-If-else margin set names first other))
