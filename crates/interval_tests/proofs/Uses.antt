-- The accesses in a loop pass a region's test where they fit the template.
use Rattle.std.proofs.Common.{◌≡◌, Bool, true, false, cond, List, [], ◌∷◌, ◌++◌, refl, sym, ap, ◌∙◌, subst}
use Rattle.std.specs.Prelude.{◌&&◌}
use Rattle.constraint_set.specs.Lists.{Each}
use Rattle.constraint_set.proofs.Steps.{Each-append}
use Rattle.affine_expr.specs.Spread.{Range}
use Rattle.affine_expr.proofs.FormValues as forms
use Rattle.affine_ast.specs.declared.module.Arg.{Arg}
use Rattle.affine_ast.specs.declared.name.Name.{Name}
use Rattle.affine_ast.specs.declared.types.Access.{Access}
use Rattle.affine_ast.specs.declared.types.MemrefType.{MemrefType}
use Rattle.affine_ast.specs.Intervals.{Ranges, ranges_at, first_turn, last_end, turn_range}
use Rattle.affine_ast.specs.Names.{same_name, put}
use Rattle.affine_ast.specs.Nest.{Plain, Nest, Nothing, Loop, Branch, Does, Value, Load, Store, RawLoad, RawStore, Constant, Binary, Cast, Alloc, Dealloc, Start, Wait, Return}
use Rattle.affine_ast.specs.Scope.{Scope, ranges_in, Totals, Around, with_totals, counted, in_loop, in_condition, behind_plain}
use Rattle.affine_ast.specs.Validity.{Passed, then_told, told, rule_of_plain, rule_of_loop, rule_of_condition}
use Rattle.direct_meaning.specs.Work.{ranges_after}
use Rattle.valid_laws.proofs.Passing.{judged_passed, then_passed, plain_holds}
use Rattle.nest_domain.specs.Ways.{Header, Round, Given, Except, Behind, Past, Use, Affine, Other, if_named, use_of, uses}
use Rattle.nest_domain.specs.Domains.{Accessed}
use Rattle.place_intervals.specs.Places.{subscripts_fit}
use Rattle.access_region.specs.Candidates.{Reaching}
use Rattle.access_region.specs.Places.{accesses_fit}
use Rattle.access_region.proofs.Regioned.{IsReaching, AreOf}
use Rattle.placement_texts.specs.Template.{Placement}
use Rattle.placement_texts.proofs.ScopedTexts.{scope_behind}
use Rattle.placed_intervals.specs.Fits.{LessFit, SubscriptsFit, AccessFits, Under}
use Rattle.placed_intervals.proofs.Known.{end, UseFits, access_known}
use Rattle.placed_intervals.proofs.Reached.{ranges_loop, ranges_behind, further}
use Rattle.interval_tests.proofs.Places.{less_given}

cases : {P : Type 0} (b : Bool) → (b ≡ true → P) → (b ≡ false → P) → P
cases true y n = y refl
cases false y n = n refl

module _ (args : List Arg) (p : Placement) (rs : List Range) where
  abbrev Fit : List Use → Type 0
  Fit us = Each (UseFits args rs) us

  -- ---- one statement
  named_fits : (m n : Name) (u : Use) → (same_name m n ≡ true → UseFits args rs u) → Fit (if_named m n u)
  named_fits m n u h = cases (same_name m n) (λ e. subst (λ b. Fit (cond b (u ∷ []) [])) (sym e) (h e, tt)) (λ e. subst (λ b. Fit (cond b (u ∷ []) [])) (sym e) tt)

  access_fit : (s : Scope) (w : List Header) (stores : Bool) (n : Name) (at : Access) (ty : MemrefType) → ranges_in s ≡ end args w → (same_name p.memref n ≡ true → SubscriptsFit p rs s at ty) → Fit (if_named p.memref n (Affine w stores at))
  access_fit s w stores n at ty known h = named_fits p.memref n (Affine w stores at) (λ e. subst (λ (rho : Ranges). LessFit (ranges_at rho at) rs) known (h e).less)

  others_fit : (m n : Name) → Fit (if_named m n Other)
  others_fit m n = named_fits m n Other (λ e. tt)

  plain_fit : (q : Plain) (s : Scope) (w : List Header) → ranges_in s ≡ end args w → AccessFits p rs q s → Fit (use_of p.memref q w)
  plain_fit (Load r m at ty) s w known h = access_fit s w false m at ty known h
  plain_fit (Store x m at ty) s w known h = access_fit s w true m at ty known h
  plain_fit (Value r pick at) s w known h = tt
  plain_fit (RawLoad r m at ty) s w known h = others_fit p.memref m
  plain_fit (RawStore x m at ty) s w known h = others_fit p.memref m
  plain_fit (Constant r z ty) s w known h = tt
  plain_fit (Binary r op x y ty) s w known h = tt
  plain_fit (Cast r k x from to) s w known h = tt
  plain_fit (Alloc r ty) s w known h = tt
  plain_fit (Dealloc m ty) s w known h = others_fit p.memref m
  plain_fit (Start x x_at y y_at t t_at n stride types) s w known h =
      Each-append (UseFits args rs) (if_named p.memref x Other) (if_named p.memref y Other ++ if_named p.memref t Other) (others_fit p.memref x) (Each-append (UseFits args rs) (if_named p.memref y Other) (if_named p.memref t Other) (others_fit p.memref y) (others_fit p.memref t))
  plain_fit (Wait t at n ty) s w known h = others_fit p.memref t
  plain_fit Return s w known h = tt

  -- ---- a text
  pub text_uses : (n : Nest) (a : Around) (t : Totals) (w : List Header) → told n a ≡ Passed t → ranges_in a.scope ≡ end args w → Under (AccessFits p rs) n a.scope → Fit (uses p.memref n w)
  unfolding told uses
  text_uses Nothing a t w h known k = tt
  text_uses (Loop line v l u s body rest) a t w h known k =
      let j = judged_passed line (rule_of_loop (counted a) v l u s) _ t h in
      let b = then_passed (told body (in_loop v l u (counted a))) (λ t. told rest (with_totals t a)) t j.1 in
      Each-append (UseFits args rs) (uses p.memref body (w ++ Round v l u s ∷ [])) (uses p.memref rest (w ++ Past body ∷ []))
      (text_uses body (in_loop v l u (counted a)) b.0 (w ++ Round v l u s ∷ []) b.1
      (further args p rs w (Round v l u s) _ (ranges_loop a.scope v l u ∙ (λ i. put (known i) v (turn_range (first_turn (known i) l) (last_end (known i) u))))) k.0)
      (text_uses rest (with_totals b.0 a) t (w ++ Past body ∷ []) b.2 (further args p rs w (Past body) _ known) k.1)
  text_uses (Branch line set ns first has other rest) a t w h known k =
      let j = judged_passed line (rule_of_condition (counted a) set ns) _ t h in
      let b = then_passed (told first (in_condition (counted a))) (λ t. then_told (told other (in_condition (with_totals t a))) (λ u. told rest (with_totals u a))) t j.1 in
      let c = then_passed (told other (in_condition (with_totals b.0 a))) (λ u. told rest (with_totals u a)) t b.2 in
      let x = uses p.memref first (w ++ Given set ns ∷ []) in
      let y = uses p.memref other (w ++ Except set ns first ∷ []) in
      let z = uses p.memref rest ((w ++ Past first ∷ []) ++ Past other ∷ []) in
      Each-append (UseFits args rs) x (y ++ z)
      (text_uses first (in_condition (counted a)) b.0 (w ++ Given set ns ∷ []) b.1 (further args p rs w (Given set ns) _ known) k.0)
      (Each-append (UseFits args rs) y z
      (text_uses other (in_condition (with_totals b.0 a)) c.0 (w ++ Except set ns first ∷ []) c.1 (further args p rs w (Except set ns first) _ known) k.1)
      (text_uses rest (with_totals c.0 a) t ((w ++ Past first ∷ []) ++ Past other ∷ []) c.2 (further args p rs (w ++ Past first ∷ []) (Past other) _ (further args p rs w (Past first) _ known)) k.2))
  text_uses (Does line q rest) a t w h known k =
      let j = judged_passed line (rule_of_plain (counted a) q rest) _ t h in
      let holds = plain_holds (counted a) q rest j.0 in
      Each-append (UseFits args rs) (use_of p.memref q w) (uses p.memref rest (w ++ Behind q ∷ []))
      (plain_fit q a.scope w known k.0)
      (text_uses rest (behind_plain q (counted a)) t (w ++ Behind q ∷ []) j.1 (further args p rs w (Behind q) _ (ranges_behind q a holds.new_name ∙ ap (ranges_after q) known)) (subst (Under (AccessFits p rs) rest) (scope_behind q a) k.1))

  -- ---- the test of them
  use_given : (way : List Header) (at : Access) (a : Reaching) → IsReaching args way at a → LessFit (ranges_at (end args way) at) rs → subscripts_fit a.ranges rs ≡ true
  use_given way at a is h =
      let known = subst (λ w. forms.Gives w (λ (a : Accessed). a.known.ranges ≡ end args way)) is.is (access_known args way at) in
      less_given a.ranges rs (subst (λ es. LessFit es rs) (sym (ap (λ (x : Reaching). x.ranges) is.same ∙ ap (λ (rho : Ranges). ranges_at rho at) known)) h)

  pub uses_given : (us : List Use) (xs : List Reaching) → AreOf args us xs → Fit us → accesses_fit rs xs ≡ true
  uses_given us [] are h = refl
  uses_given [] (a ∷ xs) are h = absurd are
  uses_given (Affine way stores at ∷ us) (a ∷ xs) are h = λ i. use_given way at a are.0 h.0 i && uses_given us xs are.1 h.1 i
  uses_given (Other ∷ us) (a ∷ xs) are h = absurd are
