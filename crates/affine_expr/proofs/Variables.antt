-- The steps of the loop that makes the forms of variables.
use Rattle.std.proofs.Common.{◌≡◌, ℕ, zero, suc, ◌+◌, ◌-◌, ◌<◌, ◌≤◌, List, [], ◌∷◌, ◌++◌, arith, refl, sym, ap, ◌∙◌, append_assoc, append-nil}
use Rattle.affine_expr.specs.Forms.{Form}
use Rattle.affine_expr.specs.Linear.{variable_form, variable_forms}

one_more : (width place left : ℕ) → 0 < left → variable_forms width place left ≡ variable_form width place ∷ variable_forms width (suc place) (left - 1)
one_more width place zero h = absurd (omega arith)
one_more width place (suc n) h = let e : suc n - 1 ≡ n = omega arith in ap (λ k. variable_form width place ∷ variable_forms width (suc place) k) (sym e)

pub turn : (width place count i : ℕ) (out : List Form) → i < count
    → out ++ variable_forms width (place + i) (count - i) ≡ (out ++ variable_form width (place + i) ∷ []) ++ variable_forms width (place + (i + 1)) (count - (i + 1))
turn width place count i out h =
    let d : suc (place + i) ≡ place + (i + 1) = omega arith in
    let e : count - i - 1 ≡ count - (i + 1) = omega arith in
    ap (λ t. out ++ t) (one_more width (place + i) (count - i) (omega arith) ∙ ap (λ k. variable_form width (place + i) ∷ variable_forms width k (count - i - 1)) d ∙ ap (λ k. variable_form width (place + i) ∷ variable_forms width (place + (i + 1)) k) e)
    ∙ sym (append_assoc out (variable_form width (place + i) ∷ []) (variable_forms width (place + (i + 1)) (count - (i + 1))))

pub ended : (width place count i : ℕ) (out : List Form) → count ≤ i → out ++ variable_forms width place (count - i) ≡ out
ended width place count i out h = let e : count - i ≡ 0 = omega arith in ap (λ k. out ++ variable_forms width place k) e ∙ append-nil out
