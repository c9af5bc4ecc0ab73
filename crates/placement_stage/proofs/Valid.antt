-- In a valid module subscripts that are numbers are small.
use Rattle.std.proofs.Common.{◌≡◌, ℤ, Bool, true, false, List, [], ◌∷◌, refl, sym, ap, ◌∙◌, subst}
use Rattle.std.specs.Prelude.{Option, Some, None, is_some, not, ◌||◌, if◌then◌else◌}
use Rattle.std.specs.List.{list_all}
use Rattle.std.proofs.lemmas.Bool.{and_parts}
use Rattle.std.proofs.lemmas.List.Elements.{All-nil, All-cons}
use Rattle.affine_expr.specs.declared.expr.Expr.{Expr, Const, roll-Expr, out-Expr, roll-out-Expr, fold-roll-Expr, fold-Expr}
use Rattle.affine_expr.specs.declared.expr.Expr.TheOpen.{Expr-F}
use Rattle.affine_expr.specs.declared.expr.Expr.TheVariants.{rolls-Const}
use Rattle.affine_expr.specs.Bounded.{limited, bounded, bounded_step}
use Rattle.affine_expr.specs.Pure.{is_outside}
use Rattle.affine_expr.specs.Spread.{Range, Spread, spread_step}
use Rattle.affine_ast.specs.declared.module.Module.{Module}
use Rattle.affine_ast.specs.declared.types.Access.{Access}
use Rattle.affine_ast.specs.Nest.{Plain, Nest, Nothing, Loop, Branch, Does, Value, Load, Store, RawLoad, RawStore, Constant, Binary, Cast, Alloc, Dealloc, Start, Wait, Return, nest}
use Rattle.affine_ast.specs.Rules.{has_interval, access_bounded, maps_bounded}
use Rattle.affine_ast.specs.Scope.{Scope, Totals, Around, with_totals, counted, in_loop, in_condition, behind_plain}
use Rattle.affine_ast.specs.Validity.{IsValid, Passed, told, then_told, rule_of_plain, rule_of_loop, rule_of_condition}
use Rattle.valid_laws.specs.Safe.{IsSmall}
use Rattle.valid_laws.proofs.Passing.{judged_passed, then_passed, plain_holds, valid_passes}
use Rattle.valid_laws.proofs.Small.{small_of_test}
use Rattle.placement_texts.specs.Template.{number_step, number_of}
use Rattle.placement_code.specs.Redirects.{SmallWhere, HasSmall, HaveSmall}
use Rattle.placement_code.proofs.Lessened.{number_const}
use Rattle.placement_stage.specs.Stages.{HasSmallSubscripts, IsSmallText}

module _ (ds ss : List Range) where
  bounded_const : (z : ℤ) → bounded ds ss (Const z) ≡ limited (spread_step ds ss (Expr-F.Const z))
  unfolding bounded
  bounded_const z = ap (fold-Expr (Option Spread) (bounded_step ds ss)) (sym (rolls-Const z)) ∙ fold-roll-Expr (Option Spread) (bounded_step ds ss) (Expr-F.Const z)

  inside : (z : ℤ) (outside : Bool) → is_outside z ≡ outside → is_some (if outside || outside then None else Some (spread_step ds ss (Expr-F.Const z))) ≡ true → outside ≡ false
  inside z true e h = absurd (let x : ⊥ = cc in x)
  inside z false e h = refl

  small_number : (z : ℤ) → has_interval ds ss (Const z) ≡ true → IsSmall z
  unfolding limited has_interval
  small_number z h =
      let o = inside z (is_outside z) refl (ap is_some (sym (bounded_const z)) ∙ h) in
      small_of_test z (ap not o)

  small_expr : (e : Expr) → has_interval ds ss e ≡ true → HasSmall e
  unfolding number_of
  small_expr e h = by (out-Expr e) (roll-out-Expr e)
    where
      by : (x : Expr-F Expr) → roll-Expr x ≡ e → SmallWhere (number_of e)
      by (Expr-F.Const z) is =
          let same = sym is ∙ rolls-Const z in
          subst SmallWhere (sym (ap number_of same ∙ number_const z)) (small_number z (ap (has_interval ds ss) (sym same) ∙ h))
      by x is = subst SmallWhere (sym (ap (fold-Expr (Option ℤ) number_step) (sym is) ∙ fold-roll-Expr (Option ℤ) number_step x)) tt

  small_exprs : (es : List Expr) → list_all (has_interval ds ss) es ≡ true → HaveSmall es
  small_exprs [] h = All-nil HasSmall
  small_exprs (e ∷ es) h =
      let two = and_parts (has_interval ds ss e) (list_all (has_interval ds ss) es) h in
      All-cons HasSmall e es (small_expr e two.0) (small_exprs es two.1)

small_access : (s : Scope) (at : Access) → access_bounded s at ≡ true → HaveSmall at.map.results
unfolding access_bounded
small_access s at h = small_exprs _ _ at.map.results ((and_parts _ _ h).1)

small_plain : (s : Scope) (q : Plain) → maps_bounded s q ≡ true → HasSmallSubscripts q
small_plain s (Load r m at ty) h = small_access s at h
small_plain s (Store x m at ty) h = small_access s at h
small_plain s (Value r pick at) h = tt
small_plain s (RawLoad r m at ty) h = tt
small_plain s (RawStore x m at ty) h = tt
small_plain s (Constant r z ty) h = tt
small_plain s (Binary r op x y ty) h = tt
small_plain s (Cast r k x from to) h = tt
small_plain s (Alloc r ty) h = tt
small_plain s (Dealloc m ty) h = tt
small_plain s (Start x x_at y y_at t t_at n stride types) h = tt
small_plain s (Wait t at n ty) h = tt
small_plain s Return h = tt

small_told : (n : Nest) (a : Around) (t : Totals) → told n a ≡ Passed t → IsSmallText n
unfolding told
small_told Nothing a t h = tt
small_told (Loop line v l u step body rest) a t h =
    let j = judged_passed line (rule_of_loop (counted a) v l u step) _ t h in
    let k = then_passed (told body (in_loop v l u (counted a))) (λ t. told rest (with_totals t a)) t j.1 in
    (small_told body (in_loop v l u (counted a)) k.0 k.1, small_told rest (with_totals k.0 a) t k.2)
small_told (Branch line set ns first has other rest) a t h =
    let j = judged_passed line (rule_of_condition (counted a) set ns) _ t h in
    let k = then_passed (told first (in_condition (counted a))) (λ t. then_told (told other (in_condition (with_totals t a))) (λ u. told rest (with_totals u a))) t j.1 in
    let o = then_passed (told other (in_condition (with_totals k.0 a))) (λ u. told rest (with_totals u a)) t k.2 in
    (small_told first (in_condition (counted a)) k.0 k.1, small_told other (in_condition (with_totals k.0 a)) o.0 o.1, small_told rest (with_totals o.0 a) t o.2)
small_told (Does line q rest) a t h =
    let j = judged_passed line (rule_of_plain (counted a) q rest) _ t h in
    let holds = plain_holds (counted a) q rest j.0 in
    (small_plain _ q holds.bounded, small_told rest (behind_plain q (counted a)) t j.1)

pub valid_small : (m : Module) → IsValid m → IsSmallText (nest m.body)
valid_small m h = let p = valid_passes m h in small_told (nest m.body) p.0 p.1 p.2
