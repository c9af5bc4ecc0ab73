-- What the rule on intervals says at the loop of a placement, where it holds of the text with the template round it.
use Rattle.std.proofs.Common.{◌≡◌, ◌⊎◌, Bool, true}
use Rattle.std.specs.Prelude.{◌&&◌}
use Rattle.std.proofs.lemmas.Bool.{and_parts}
use Rattle.affine_ast.specs.declared.name.Name.{Name}
use Rattle.affine_ast.specs.Nest.{Nest, Nothing, Loop, Branch, Does}
use Rattle.affine_ast.specs.Rules.{set_bounded, maps_bounded, bound_bounded}
use Rattle.affine_ast.specs.Scope.{Scope}
use Rattle.placement_texts.specs.Own.{MadeNames}
use Rattle.placement_texts.specs.Regions.{OwnDims}
use Rattle.placement_texts.specs.Spots.{Spot, Here, Behind, Inside, Other, IsLoop, staged_at}
use Rattle.placement_texts.specs.Template.{Placement}
use Rattle.placement_texts.specs.Tests.{behind_scope, loop_scope, scope_at}
use Rattle.placement_regions.specs.Sites.{from_spot}
use Rattle.plan_laws.specs.Limits.{bounded_in}
use Rattle.placed_intervals.specs.Fits.{Sized}
use Rattle.interval_tests.proofs.Unblock.{BlockBack, block_back}

module _ (own : Name → Bool) (p : Placement) (names : MadeNames own p.name) (sized : Sized p.dims) (moves : (p.reads ≡ true) ⊎ (p.writes ≡ true)) (dims : OwnDims own p.dims) where
  abbrev pub LoopBack : Nest → Scope → Type 0
  LoopBack (Loop line v l u step body rest) s = BlockBack own p names sized v l u body s
  LoopBack n s = Unit {0}

  pub staged_back : (x : Spot) (n : Nest) (s : Scope) → IsLoop x n → bounded_in (staged_at p x n) s ≡ true → LoopBack (from_spot x n) (scope_at x n s)
  staged_back x Nothing s is h = absurd is
  staged_back Here (Loop line v l u step body rest) s is h = block_back own p names sized moves dims line v l u step body rest s h
  staged_back (Behind x) (Loop line v l u step body rest) s is h =
      let w = and_parts (bound_bounded s l && bound_bounded s u) _ h in
      staged_back x rest s is (and_parts (bounded_in body (loop_scope v l u s)) (bounded_in (staged_at p x rest) s) w.1).1
  staged_back (Inside x) (Loop line v l u step body rest) s is h =
      let w = and_parts (bound_bounded s l && bound_bounded s u) _ h in
      staged_back x body (loop_scope v l u s) is (and_parts (bounded_in (staged_at p x body) (loop_scope v l u s)) (bounded_in rest s) w.1).0
  staged_back (Other x) (Loop line v l u step body rest) s is h = absurd is
  staged_back Here (Branch line set ns first has other rest) s is h = absurd is
  staged_back (Behind x) (Branch line set ns first has other rest) s is h =
      let w = and_parts (set_bounded s set ns) _ h in
      let y = and_parts (bounded_in first s) _ w.1 in
      staged_back x rest s is (and_parts (bounded_in other s) (bounded_in (staged_at p x rest) s) y.1).1
  staged_back (Inside x) (Branch line set ns first has other rest) s is h =
      let w = and_parts (set_bounded s set ns) _ h in
      staged_back x first s is (and_parts (bounded_in (staged_at p x first) s) _ w.1).0
  staged_back (Other x) (Branch line set ns first has other rest) s is h =
      let w = and_parts (set_bounded s set ns) _ h in
      let y = and_parts (bounded_in first s) _ w.1 in
      staged_back x other s is (and_parts (bounded_in (staged_at p x other) s) (bounded_in rest s) y.1).0
  staged_back Here (Does line q rest) s is h = absurd is
  staged_back (Behind x) (Does line q rest) s is h = staged_back x rest (behind_scope q s) is (and_parts (maps_bounded s q) (bounded_in (staged_at p x rest) (behind_scope q s)) h).1
  staged_back (Inside x) (Does line q rest) s is h = absurd is
  staged_back (Other x) (Does line q rest) s is h = absurd is
