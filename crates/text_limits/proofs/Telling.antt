-- The capped sums of a text with one placement more.
use Rattle.std.proofs.Common.{◌≡◌, ℕ, ◌+◌, List, sym, ap, ◌∙◌, arith}
use Rattle.std.specs.Prelude.{◌&&◌, sum_by}
use Rattle.std.specs.List.{list_all}
use Rattle.affine_ast.specs.declared.stmt.Stmt.{Stmt}
use Rattle.affine_ast.specs.declared.types.Access.{Access}
use Rattle.affine_ast.specs.Nest.{nest}
use Rattle.nest_domain.specs.Ways.{Use}
use Rattle.placement_lists.specs.Statements.{before, behind}
use Rattle.placement_texts.specs.Template.{Placement}
use Rattle.text_limits.specs.declared.sums.Sums.{Sums}
use Rattle.text_limits.specs.Sums.{sums_in}
use Rattle.text_limits.specs.Adding.{with_sums, subscripts, operands_more, fits_in_fast, redirected, template_sums}
use Rattle.text_limits.specs.Capped.{capped, capped_sums}
use Rattle.text_limits.specs.Telling.{told_with, PlacementsAreTold}
use Rattle.text_limits.proofs.Adding.{placements_add_sums}
use Rattle.text_limits.proofs.Tallied.{caps_add}

second : (a b : ℕ) → capped (a + capped b) ≡ capped (a + b)
second a b = omega arith

first : (a b c : ℕ) → capped ((capped a + b) + c) ≡ capped ((a + b) + c)
first a b c = omega arith

again : (a b : ℕ) → capped (capped a + b) ≡ capped (a + b)
again a b = omega arith

twice : (a : ℕ) → capped (capped a) ≡ capped a
twice a = omega arith

caps_second : (a b : Sums) → capped_sums (with_sums a (capped_sums b)) ≡ capped_sums (with_sums a b)
caps_second a b = λ i. record {
  statements = second a.statements b.statements i;
  operands = second a.operands b.operands i;
  elements = second a.elements b.elements i;
  tags = second a.tags b.tags i;
  fits = a.fits && b.fits;
}

module _ (p : Placement) where
  caps_redirected : (ats : List Access) (t : Sums) → capped_sums (redirected p ats (capped_sums t)) ≡ capped_sums (redirected p ats t)
  caps_redirected ats t = λ i. record {
    statements = twice t.statements i;
    operands = again t.operands (sum_by (operands_more p) ats) i;
    elements = twice t.elements i;
    tags = twice t.tags i;
    fits = t.fits && list_all (fits_in_fast p) ats;
  }

  caps_first : (ats : List Access) (a b : Sums) → capped_sums (redirected p ats (with_sums (capped_sums a) b)) ≡ capped_sums (redirected p ats (with_sums a b))
  caps_first ats a b = λ i. record {
    statements = again a.statements b.statements i;
    operands = first a.operands b.operands (sum_by (operands_more p) ats) i;
    elements = again a.elements b.elements i;
    tags = again a.tags b.tags i;
    fits = (a.fits && b.fits) && list_all (fits_in_fast p) ats;
  }

  -- as the code makes them
  pub made_with : (l i : ℕ) (us : List Use) (own front back both all result : Sums) (ss ts : List Stmt) → ss ≡ before p → ts ≡ behind p
      → front ≡ capped_sums (sums_in l i (nest ss)) → back ≡ capped_sums (sums_in l i (nest ts)) → both ≡ capped_sums (with_sums front back) → all ≡ capped_sums (with_sums own both)
      → result ≡ capped_sums (redirected p (subscripts us) all) → result ≡ told_with p l i us own
  made_with l i us own front back both all result ss ts ss_is ts_is front_is back_is both_is all_is is =
      let ats = subscripts us in
      is
      ∙ ap (λ t. capped_sums (redirected p ats t)) all_is
      ∙ caps_redirected ats (with_sums own both)
      ∙ ap (λ t. capped_sums (redirected p ats (with_sums own t))) both_is
      ∙ (λ j. capped_sums (redirected p ats (with_sums own (capped_sums (with_sums (front_is j) (back_is j))))))
      ∙ (λ j. capped_sums (redirected p ats (with_sums own (capped_sums (with_sums (capped_sums (sums_in l i (nest (ss_is j)))) (capped_sums (sums_in l i (nest (ts_is j)))))))))
      ∙ ap (λ t. capped_sums (redirected p ats (with_sums own t))) (caps_add (sums_in l i (nest (before p))) (sums_in l i (nest (behind p))))
      ∙ sym (caps_redirected ats (with_sums own (capped_sums (template_sums p l i))))
      ∙ ap (λ t. capped_sums (redirected p ats t)) (caps_second own (template_sums p l i))
      ∙ caps_redirected ats (with_sums own (template_sums p l i))

pub placements_are_told : PlacementsAreTold
placements_are_told p l i us s n t d is =
    ap (λ t. told_with p l i us t) is
    ∙ caps_first p (subscripts us) (sums_in 0 0 n) (template_sums p l i)
    ∙ (λ j. capped_sums (redirected p (d.uses j) (with_sums (sums_in 0 0 n) (template_sums p (d.in_loops j) (d.in_ifs j)))))
    ∙ ap capped_sums (sym (placements_add_sums p s n d.loop))
