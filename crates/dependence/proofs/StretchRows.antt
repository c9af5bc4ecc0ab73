-- The rows that put a number into a dimension.
use Rattle.std.proofs.Common.{◌≡◌, ℕ, List, [], ◌∷◌, ◌++◌, Ok, ℤ, pos, neg_ℤ, ◌+ℤ◌, ◌-ℤ◌, sym, ap, ◌∙◌, append_assoc}
use Rattle.num_row.specs.Ints.{narrowed}
use Rattle.constraint_set.specs.Points.{LinearRow}
use Rattle.constraint_set.specs.Elimination.{or_wide}
use Rattle.constraint_set.specs.Reach.{negated}
use Rattle.projection.specs.Answers.{after}
use Rattle.dependence.specs.Clashes.{with_variable, stretch_rows}

pub stretch_made : (j : ℕ) (begin : LinearRow) (extent : ℤ) (out mid new : List LinearRow) (low from up : List ℤ) (below top : ℤ) → negated begin.coefs ≡ Ok low → or_wide (narrowed (neg_ℤ begin.constant)) ≡ Ok below → or_wide (narrowed (begin.constant +ℤ (extent -ℤ pos 1))) ≡ Ok top
    → from ≡ with_variable j (pos 1) low → up ≡ with_variable j (neg_ℤ (pos 1)) begin.coefs → mid ≡ out ++ record { coefs = from; constant = below } ∷ [] → new ≡ mid ++ record { coefs = up; constant = top } ∷ [] → after out (stretch_rows j begin extent) ≡ Ok new
stretch_made j begin extent out mid new low from up below top a b c f u p q =
    let made : stretch_rows j begin extent ≡ Ok (record { coefs = with_variable j (pos 1) low; constant = below } ∷ record { coefs = with_variable j (neg_ℤ (pos 1)) begin.coefs; constant = top } ∷ []) = rw (a, b, c) in
    ap (after out) made
    ∙ ap Ok ((λ i. out ++ record { coefs = sym f i; constant = below } ∷ record { coefs = sym u i; constant = top } ∷ []) ∙ sym (append_assoc out (record { coefs = from; constant = below } ∷ []) (record { coefs = up; constant = top } ∷ [])) ∙ ap (λ (xs : List LinearRow). xs ++ record { coefs = up; constant = top } ∷ []) (sym p) ∙ sym q)
