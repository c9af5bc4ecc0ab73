-- One result more.
use Rattle.std.proofs.Common.{◌≡◌, ℕ, ◌+◌, ◌<◌, List, [], ◌∷◌, ◌++◌, take, length, map, get_or, sym, ap, ◌∙◌}
use Rattle.std.proofs.lemmas.List.{take_more, map-append}
use Rattle.affine_expr.specs.declared.expr.Expr.{Expr}

pub results_step : (f : Expr → Expr) (es : List Expr) (i : ℕ) (e made : Expr) (out new : List Expr) → i < length es → e ≡ get_or es i e → made ≡ f e → new ≡ out ++ made ∷ []
    → out ≡ map f (take i es) → new ≡ map f (take (i + 1) es)
results_step f es i e made out new h is made_is pushed so =
    pushed ∙ ap (λ x. out ++ x ∷ []) made_is ∙ ap (λ o. o ++ f e ∷ []) so
    ∙ sym (map-append f (take i es) (e ∷ []))
    ∙ ap (map f) (sym (take_more es i e h ∙ ap (λ x. take i es ++ x ∷ []) (sym is)))
