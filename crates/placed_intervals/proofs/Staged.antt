-- A text in which a memref is staged keeps to the rule on intervals, where the text did and the template fits at the loop.
use Rattle.std.proofs.Common.{◌≡◌, List, ◌∙◌, Bool, true}
use Rattle.std.specs.Prelude.{◌&&◌}
use Rattle.std.proofs.lemmas.Bool.{and_parts}
use Rattle.affine_expr.specs.Spread.{Range}
use Rattle.affine_ast.specs.declared.name.Name.{Name}
use Rattle.affine_ast.specs.Nest.{Nest, Nothing, Loop, Branch, Does}
use Rattle.affine_ast.specs.Rules.{set_bounded, maps_bounded, bound_bounded}
use Rattle.affine_ast.specs.Scope.{Scope}
use Rattle.placement_texts.specs.Own.{OwnNest, MadeNames}
use Rattle.placement_texts.specs.Regions.{OwnDims}
use Rattle.placement_texts.specs.Spots.{Spot, Here, Behind, Inside, Other, staged_at}
use Rattle.placement_texts.specs.Template.{Placement}
use Rattle.placement_texts.specs.Tests.{behind_scope, loop_scope}
use Rattle.plan_laws.specs.Limits.{bounded_in}
use Rattle.placed_intervals.specs.Fits.{FitsAt}
use Rattle.placed_intervals.proofs.Scopes.{Agree, bound_same, set_same, maps_same, loop_agrees, behind_agrees, text_same}
use Rattle.placed_intervals.proofs.Block.{block_bounded}

module _ (own : Name → Bool) (p : Placement) (names : MadeNames own p.name) (rs : List Range) (dims : OwnDims own p.dims) where
  pub staged_bounded : (x : Spot) (n : Nest) (s t : Scope) → Agree own s t → OwnNest own n → bounded_in n s ≡ true → FitsAt p rs x n s → bounded_in (staged_at p x n) t ≡ true
  staged_bounded x Nothing s t same o h fit = h
  staged_bounded Here (Loop line v l u step body rest) s t same o h fit = block_bounded own p names rs fit.2 dims line v l u step body rest s t same o h fit
  staged_bounded (Behind x) (Loop line v l u step body rest) s t same o h fit =
      let w = and_parts (bound_bounded s l && bound_bounded s u) _ h in
      let y = and_parts (bounded_in body (loop_scope v l u s)) (bounded_in rest s) w.1 in
      λ i. ((λ j. bound_same own s t same l o.1 j && bound_same own s t same u o.2 j) ∙ w.0) i
      && ((text_same own body (loop_scope v l u s) (loop_scope v l u t) (loop_agrees own s t same v l u o.1 o.2) o.3 ∙ y.0) i && staged_bounded x rest s t same o.4 y.1 fit i)
  staged_bounded (Inside x) (Loop line v l u step body rest) s t same o h fit =
      let w = and_parts (bound_bounded s l && bound_bounded s u) _ h in
      let y = and_parts (bounded_in body (loop_scope v l u s)) (bounded_in rest s) w.1 in
      λ i. ((λ j. bound_same own s t same l o.1 j && bound_same own s t same u o.2 j) ∙ w.0) i
      && (staged_bounded x body (loop_scope v l u s) (loop_scope v l u t) (loop_agrees own s t same v l u o.1 o.2) o.3 y.0 fit i && (text_same own rest s t same o.4 ∙ y.1) i)
  staged_bounded (Other x) (Loop line v l u step body rest) s t same o h fit = text_same own (Loop line v l u step body rest) s t same o ∙ h
  staged_bounded Here (Branch line set ns first has other rest) s t same o h fit = text_same own (Branch line set ns first has other rest) s t same o ∙ h
  staged_bounded (Behind x) (Branch line set ns first has other rest) s t same o h fit =
      let w = and_parts (set_bounded s set ns) _ h in
      let y = and_parts (bounded_in first s) _ w.1 in
      let z = and_parts (bounded_in other s) (bounded_in rest s) y.1 in
      λ i. (set_same own s t same set ns o.0 ∙ w.0) i && ((text_same own first s t same o.1 ∙ y.0) i && ((text_same own other s t same o.2 ∙ z.0) i && staged_bounded x rest s t same o.3 z.1 fit i))
  staged_bounded (Inside x) (Branch line set ns first has other rest) s t same o h fit =
      let w = and_parts (set_bounded s set ns) _ h in
      let y = and_parts (bounded_in first s) _ w.1 in
      let z = and_parts (bounded_in other s) (bounded_in rest s) y.1 in
      λ i. (set_same own s t same set ns o.0 ∙ w.0) i && (staged_bounded x first s t same o.1 y.0 fit i && ((text_same own other s t same o.2 ∙ z.0) i && (text_same own rest s t same o.3 ∙ z.1) i))
  staged_bounded (Other x) (Branch line set ns first has other rest) s t same o h fit =
      let w = and_parts (set_bounded s set ns) _ h in
      let y = and_parts (bounded_in first s) _ w.1 in
      let z = and_parts (bounded_in other s) (bounded_in rest s) y.1 in
      λ i. (set_same own s t same set ns o.0 ∙ w.0) i && ((text_same own first s t same o.1 ∙ y.0) i && (staged_bounded x other s t same o.2 z.0 fit i && (text_same own rest s t same o.3 ∙ z.1) i))
  staged_bounded Here (Does line q rest) s t same o h fit = text_same own (Does line q rest) s t same o ∙ h
  staged_bounded (Behind x) (Does line q rest) s t same o h fit =
      let w = and_parts (maps_bounded s q) (bounded_in rest (behind_scope q s)) h in
      λ i. (maps_same own s t same q o.0 ∙ w.0) i && staged_bounded x rest (behind_scope q s) (behind_scope q t) (behind_agrees own s t same q o.0) o.1 w.1 fit i
  staged_bounded (Inside x) (Does line q rest) s t same o h fit = text_same own (Does line q rest) s t same o ∙ h
  staged_bounded (Other x) (Does line q rest) s t same o h fit = text_same own (Does line q rest) s t same o ∙ h
