-- In a text that keeps to the rule on intervals subscripts that are numbers are small, so it may be staged in.
use Rattle.std.proofs.Common.{◌≡◌, ℤ, Bool, true, false, List, [], ◌∷◌, Option, Some, None, refl, sym, ap, ◌∙◌, subst}
use Rattle.std.specs.Prelude.{All, is_some, not, ◌||◌, ◌&&◌, if◌then◌else◌}
use Rattle.std.specs.List.{list_all}
use Rattle.std.proofs.lemmas.Bool.{and_parts}
use Rattle.std.proofs.lemmas.List.Elements.{All-nil, All-cons, All-head, All-tail}
use Rattle.affine_expr.specs.declared.expr.Expr.{Expr, Const, roll-Expr, out-Expr, roll-out-Expr, fold-roll-Expr, fold-Expr}
use Rattle.affine_expr.specs.declared.expr.Expr.TheOpen.{Expr-F}
use Rattle.affine_expr.specs.declared.expr.Expr.TheVariants.{rolls-Const}
use Rattle.affine_expr.specs.Bounded.{limited, bounded, bounded_step}
use Rattle.affine_expr.specs.Pure.{is_outside}
use Rattle.affine_expr.specs.Spread.{Range, Spread, spread_step}
use Rattle.affine_ast.specs.declared.module.Arg.{Arg}
use Rattle.affine_ast.specs.declared.types.Access.{Access}
use Rattle.affine_ast.specs.Nest.{Plain, Nest, Nothing, Loop, Branch, Does, Value, Load, Store, RawLoad, RawStore, Constant, Binary, Cast, Alloc, Dealloc, Start, Wait, Return}
use Rattle.affine_ast.specs.Rules.{has_interval, access_bounded, maps_bounded, bound_bounded, set_bounded}
use Rattle.affine_ast.specs.Scope.{Scope}
use Rattle.valid_laws.specs.Safe.{IsSmall}
use Rattle.valid_laws.proofs.Small.{small_of_test}
use Rattle.placement_code.specs.Placed.{placement_of}
use Rattle.placement_code.specs.Redirects.{SmallWhere, HasSmall, HaveSmall}
use Rattle.placement_code.proofs.Lessened.{number_const}
use Rattle.placement_stage.specs.All.{with_one, AllMayBeStaged, IsStepOf, AreSteps}
use Rattle.placement_stage.specs.declared.all.PlacedAt.{PlacedAt}
use Rattle.placement_stage.specs.Stages.{HasSmallSubscripts, IsSmallText}
use Rattle.placement_texts.specs.Fold.{Step}
use Rattle.placement_texts.specs.Spots.{stage_one}
use Rattle.placement_texts.specs.Template.{number_step, number_of}
use Rattle.placement_texts.specs.Tests.{behind_scope, loop_scope}
use Rattle.placement_texts.specs.Valid.{scope_behind_arguments}
use Rattle.plan_laws.specs.Limits.{bounded_in, keeps_intervals}
use Rattle.plan_laws.specs.Sites.{lined}
use Rattle.plan_staging.specs.Made.{MayBeWrittenAt}
use Rattle.plan_staging.proofs.Said.{AllKeep}

module _ (ds ss : List Range) where
  bounded_const : (z : ℤ) → bounded ds ss (Const z) ≡ limited (spread_step ds ss (Expr-F.Const z))
  unfolding bounded
  bounded_const z = ap (fold-Expr (Option Spread) (bounded_step ds ss)) (sym (rolls-Const z)) ∙ fold-roll-Expr (Option Spread) (bounded_step ds ss) (Expr-F.Const z)

  inside : (z : ℤ) (outside : Bool) → is_outside z ≡ outside → is_some (if outside || outside then None else Some (spread_step ds ss (Expr-F.Const z))) ≡ true → outside ≡ false
  inside z true e h = absurd (let x : ⊥ = cc in x)
  inside z false e h = refl

  small_number : (z : ℤ) → has_interval ds ss (Const z) ≡ true → IsSmall z
  unfolding limited has_interval
  small_number z h =
      let o = inside z (is_outside z) refl (ap is_some (sym (bounded_const z)) ∙ h) in
      small_of_test z (ap not o)

  small_expr : (e : Expr) → has_interval ds ss e ≡ true → HasSmall e
  unfolding number_of
  small_expr e h = by (out-Expr e) (roll-out-Expr e)
    where
      by : (x : Expr-F Expr) → roll-Expr x ≡ e → SmallWhere (number_of e)
      by (Expr-F.Const z) is =
          let same = sym is ∙ rolls-Const z in
          subst SmallWhere (sym (ap number_of same ∙ number_const z)) (small_number z (ap (has_interval ds ss) (sym same) ∙ h))
      by x is = subst SmallWhere (sym (ap (fold-Expr (Option ℤ) number_step) (sym is) ∙ fold-roll-Expr (Option ℤ) number_step x)) tt

  small_exprs : (es : List Expr) → list_all (has_interval ds ss) es ≡ true → HaveSmall es
  small_exprs [] h = All-nil HasSmall
  small_exprs (e ∷ es) h =
      let two = and_parts (has_interval ds ss e) (list_all (has_interval ds ss) es) h in
      All-cons HasSmall e es (small_expr e two.0) (small_exprs es two.1)

small_access : (s : Scope) (at : Access) → access_bounded s at ≡ true → HaveSmall at.map.results
unfolding access_bounded
small_access s at h = small_exprs _ _ at.map.results ((and_parts _ _ h).1)

small_plain : (s : Scope) (q : Plain) → maps_bounded s q ≡ true → HasSmallSubscripts q
small_plain s (Load r m at ty) h = small_access s at h
small_plain s (Store x m at ty) h = small_access s at h
small_plain s (Value r pick at) h = tt
small_plain s (RawLoad r m at ty) h = tt
small_plain s (RawStore x m at ty) h = tt
small_plain s (Constant r z ty) h = tt
small_plain s (Binary r op x y ty) h = tt
small_plain s (Cast r k x from to) h = tt
small_plain s (Alloc r ty) h = tt
small_plain s (Dealloc m ty) h = tt
small_plain s (Start x x_at y y_at t t_at n stride types) h = tt
small_plain s (Wait t at n ty) h = tt
small_plain s Return h = tt

small_bounded : (n : Nest) (s : Scope) → bounded_in n s ≡ true → IsSmallText n
small_bounded Nothing s h = tt
small_bounded (Loop line v l u step body rest) s h =
    let one = and_parts (bound_bounded s l && bound_bounded s u) (bounded_in body (loop_scope v l u s) && bounded_in rest s) h in
    let two = and_parts (bounded_in body (loop_scope v l u s)) (bounded_in rest s) one.1 in
    (small_bounded body (loop_scope v l u s) two.0, small_bounded rest s two.1)
small_bounded (Branch line set ns first has other rest) s h =
    let one = and_parts (set_bounded s set ns) (bounded_in first s && (bounded_in other s && bounded_in rest s)) h in
    let two = and_parts (bounded_in first s) (bounded_in other s && bounded_in rest s) one.1 in
    let three = and_parts (bounded_in other s) (bounded_in rest s) two.1 in
    (small_bounded first s two.0, small_bounded other s three.0, small_bounded rest s three.1)
small_bounded (Does line q rest) s h =
    let one = and_parts (maps_bounded s q) (bounded_in rest (behind_scope q s)) h in
    (small_plain s q one.0, small_bounded rest (behind_scope q s) one.1)

small_kept : (args : List Arg) (n : Nest) → keeps_intervals args n ≡ true → IsSmallText n
unfolding keeps_intervals
small_kept args n h = small_bounded n (scope_behind_arguments args (λ n. None)) h

pub small_lined : (n : Nest) → IsSmallText n → IsSmallText (lined n)
small_lined Nothing h = tt
small_lined (Loop line v l u step body rest) h = (small_lined body h.0, small_lined rest h.1)
small_lined (Branch line set ns first has other rest) h = (small_lined first h.0, small_lined other h.1, small_lined rest h.2)
small_lined (Does line q rest) h = (h.0, small_lined rest h.1)

-- ---- all placements of a plan may be staged
step_same : (x : PlacedAt) (s : Step) (n : Nest) → IsStepOf x s → stage_one s.placement s.spot n ≡ with_one x n
step_same x s n is = ap (λ p. stage_one p s.spot n) is.placement ∙ ap (λ t. stage_one (placement_of x.placed) t n) is.spot

pub may_be_staged : (args : List Arg) (xs : List PlacedAt) (ss : List Step) (n : Nest) → AreSteps xs ss → All MayBeWrittenAt xs → IsSmallText n → AllKeep args ss n → AllMayBeStaged xs n
may_be_staged args [] ss n h w small k = tt
may_be_staged args (x ∷ xs) [] n h w small k = absurd h
may_be_staged args (x ∷ xs) (s ∷ ss) n h w small k =
    let same = step_same x s n h.0 in (
      All-head MayBeWrittenAt x xs w,
      small,
      may_be_staged args xs ss (with_one x n) h.1 (All-tail MayBeWrittenAt x xs w)
          (subst IsSmallText same (small_kept args (stage_one s.placement s.spot n) k.0)) (subst (AllKeep args ss) same k.1),
    )
