-- What the rule on intervals says of the accesses in a loop whose accesses of the memref are redirected.
use Rattle.std.proofs.Common.{◌≡◌, ◌+◌, ◌*◌, Bool, true, cond, List, [], ap, ◌∙◌, sym, subst}
use Rattle.std.specs.Prelude.{◌&&◌}
use Rattle.std.proofs.lemmas.Bool.{and_parts}
use Rattle.affine_expr.specs.Spread.{Range}
use Rattle.affine_ast.specs.declared.name.Name.{Name}
use Rattle.affine_ast.specs.declared.types.Access.{Access}
use Rattle.affine_ast.specs.declared.types.MemrefType.{MemrefType}
use Rattle.affine_ast.specs.Nest.{Plain, Nest, Nothing, Loop, Branch, Does, Value, Load, Store, RawLoad, RawStore, Constant, Binary, Cast, Alloc, Dealloc, Start, Wait, Return}
use Rattle.affine_ast.specs.Rules.{set_bounded, maps_bounded, bound_bounded, access_bounded}
use Rattle.affine_ast.specs.Scope.{Scope}
use Rattle.placement_texts.specs.Mapped.{mapped}
use Rattle.placement_texts.specs.Own.{OwnNames, OwnPlain, OwnNest, MadeNames}
use Rattle.placement_texts.specs.Template.{Placement, fast_name, fast_type, begins, in_fast, redirect}
use Rattle.placement_texts.specs.Tests.{behind_scope, loop_scope}
use Rattle.plan_laws.specs.Limits.{bounded_in}
use Rattle.placed_intervals.specs.Fits.{SubscriptsFit, AccessFits, Under, Sized}
use Rattle.placed_intervals.proofs.Scopes.{Agree, loop_agrees, behind_agrees}
use Rattle.placed_intervals.proofs.Redirects.{made_put, made_behind, behind_redirected}
use Rattle.interval_tests.proofs.Backward.{BeginsAre, in_fast_gives}
use Rattle.interval_tests.proofs.Unblock.{begins_along}

module _ (own : Name → Bool) (p : Placement) (names : MadeNames own p.name) (sized : Sized p.dims) (rs : List Range) where
  subscripts_give : (s t : Scope) (at : Access) (ty : MemrefType) → Agree own s t → OwnNames own at.operands → access_bounded s at ≡ true → SubscriptsFit p [] s at ty → BeginsAre t (begins p) rs → access_bounded t (in_fast (begins p) at) ≡ true → SubscriptsFit p rs s at ty
  subscripts_give s t at ty same o h known are j = record { fits = known.fits; element = known.element; less = in_fast_gives own s t (begins p) rs at same o known.fits h are j }

  plain_gives : (q : Plain) (s t : Scope) → Agree own s t → OwnPlain own q → maps_bounded s q ≡ true → AccessFits p [] q s → BeginsAre t (begins p) rs → maps_bounded t (redirect p q) ≡ true → AccessFits p rs q s
  plain_gives (Load r m at ty) s t same o h known are j = λ e.
      subscripts_give s t at ty same o.1.1 h (known e) are (subst (λ b. maps_bounded t (cond b (Load r (fast_name p.name) (in_fast (begins p) at) (fast_type p)) (Load r m at ty)) ≡ true) e j)
  plain_gives (Store x m at ty) s t same o h known are j = λ e.
      subscripts_give s t at ty same o.1.1 h (known e) are (subst (λ b. maps_bounded t (cond b (Store x (fast_name p.name) (in_fast (begins p) at) (fast_type p)) (Store x m at ty)) ≡ true) e j)
  plain_gives (Value r pick at) s t same o h known are j = tt
  plain_gives (RawLoad r m at ty) s t same o h known are j = tt
  plain_gives (RawStore x m at ty) s t same o h known are j = tt
  plain_gives (Constant r z ty) s t same o h known are j = tt
  plain_gives (Binary r op x y ty) s t same o h known are j = tt
  plain_gives (Cast r k x from to) s t same o h known are j = tt
  plain_gives (Alloc r ty) s t same o h known are j = tt
  plain_gives (Dealloc m ty) s t same o h known are j = tt
  plain_gives (Start x x_at y y_at z z_at n stride types) s t same o h known are j = tt
  plain_gives (Wait z at n ty) s t same o h known are j = tt
  plain_gives Return s t same o h known are j = tt

  pub body_gives : (n : Nest) (s t : Scope) → Agree own s t → OwnNest own n → bounded_in n s ≡ true → Under (AccessFits p []) n s → BeginsAre t (begins p) rs → bounded_in (mapped (redirect p) n) t ≡ true → Under (AccessFits p rs) n s
  body_gives Nothing s t same o h known are j = tt
  body_gives (Loop line v l u step body rest) s t same o h known are j =
      let w = and_parts (bound_bounded s l && bound_bounded s u) _ h in
      let x = and_parts (bounded_in body (loop_scope v l u s)) (bounded_in rest s) w.1 in
      let w' = and_parts (bound_bounded t l && bound_bounded t u) _ j in
      let x' = and_parts (bounded_in (mapped (redirect p) body) (loop_scope v l u t)) (bounded_in (mapped (redirect p) rest) t) w'.1 in (
        body_gives body (loop_scope v l u s) (loop_scope v l u t) (loop_agrees own s t same v l u o.1 o.2) o.3 x.0 known.0 (begins_along own p names sized 0 p.dims rs t (loop_scope v l u t) (λ d. made_put own p names rs t v _ o.0 (7 + 4 * d)) are) x'.0,
        body_gives rest s t same o.4 x.1 known.1 are x'.1,
      )
  body_gives (Branch line set ns first has other rest) s t same o h known are j =
      let w = and_parts (set_bounded s set ns) _ h in
      let x = and_parts (bounded_in first s) _ w.1 in
      let y = and_parts (bounded_in other s) (bounded_in rest s) x.1 in
      let w' = and_parts (set_bounded t set ns) _ j in
      let x' = and_parts (bounded_in (mapped (redirect p) first) t) _ w'.1 in
      let y' = and_parts (bounded_in (mapped (redirect p) other) t) (bounded_in (mapped (redirect p) rest) t) x'.1 in
      (body_gives first s t same o.1 x.0 known.0 are x'.0, body_gives other s t same o.2 y.0 known.1 are y'.0, body_gives rest s t same o.3 y.1 known.2 are y'.1)
  body_gives (Does line q rest) s t same o h known are j =
      let w = and_parts (maps_bounded s q) (bounded_in rest (behind_scope q s)) h in
      let w' = and_parts (maps_bounded t (redirect p q)) (bounded_in (mapped (redirect p) rest) (behind_scope (redirect p q) t)) j in
      let first = plain_gives q s t same o.0 w.0 known.0 are w'.0 in (
        first,
        body_gives rest (behind_scope q s) (behind_scope q t) (behind_agrees own s t same q o.0) o.1 w.1 known.1 (begins_along own p names sized 0 p.dims rs t (behind_scope q t) (λ d. made_behind own p names rs q t o.0 (7 + 4 * d)) are)
            (sym (ap (bounded_in (mapped (redirect p) rest)) (behind_redirected own p names rs q s t first)) ∙ w'.1),
      )
