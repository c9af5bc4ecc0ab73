-- The loops round a placement's loop are the same when another placement is staged.
use Rattle.std.proofs.Common.{◌≡◌, ℕ, zero, suc, ℤ, List, [], ◌∷◌, refl, ap, Bool, true, false}
use Rattle.std.specs.Prelude.{None}
use Rattle.affine_ast.specs.declared.name.Name.{Name}
use Rattle.affine_ast.specs.declared.types.Bound.{Bound}
use Rattle.affine_ast.specs.Names.{same_name}
use Rattle.affine_ast.specs.Nest.{Nest, Nothing, Loop, Branch, Does}
use Rattle.direct_meaning.specs.Static.{Env}
use Rattle.nest_domain.specs.Ways.{loop_names}
use Rattle.placement_texts.specs.Mapped.{mapped}
use Rattle.placement_texts.specs.Spots.{Spot, Here, Behind, Inside, Other, HasLine, found, staged_at}
use Rattle.placement_texts.specs.Template.{Placement, fast_name, tag_name, behind_loop, redirect}
use Rattle.placement_texts.proofs.Skipped.{Skips, before_skips, behind_skips}
use Rattle.placement_regions.specs.Sites.{way_to}

abbrev pub around : Spot → Nest → List Name
around t n = loop_names (way_to (found t n) n)

module _ (p : Placement) (tag_memref : same_name (tag_name p.name) p.memref ≡ false) (tag_fast : same_name (tag_name p.name) (fast_name p.name) ≡ false) where
  around_mapped : (t : Spot) (n : Nest) → around t (mapped (redirect p) n) ≡ around t n
  around_mapped Here Nothing = refl
  around_mapped (Behind t) Nothing = refl
  around_mapped (Inside t) Nothing = refl
  around_mapped (Other t) Nothing = refl
  around_mapped t (Loop zero v l u step body rest) = around_mapped t rest
  around_mapped t (Branch zero set ns first has other rest) = around_mapped t rest
  around_mapped t (Does zero q rest) = around_mapped t rest
  around_mapped Here (Loop (suc line) v l u step body rest) = refl
  around_mapped (Behind t) (Loop (suc line) v l u step body rest) = around_mapped t rest
  around_mapped (Inside t) (Loop (suc line) v l u step body rest) = ap (λ ns. v ∷ ns) (around_mapped t body)
  around_mapped (Other t) (Loop (suc line) v l u step body rest) = refl
  around_mapped Here (Branch (suc line) set ns first has other rest) = refl
  around_mapped (Behind t) (Branch (suc line) set ns first has other rest) = around_mapped t rest
  around_mapped (Inside t) (Branch (suc line) set ns first has other rest) = around_mapped t first
  around_mapped (Other t) (Branch (suc line) set ns first has other rest) = around_mapped t other
  around_mapped Here (Does (suc line) q rest) = refl
  around_mapped (Behind t) (Does (suc line) q rest) = around_mapped t rest
  around_mapped (Inside t) (Does (suc line) q rest) = refl
  around_mapped (Other t) (Does (suc line) q rest) = refl

  any_env : Env
  any_env = record { known = λ n. None; home = λ n. None; fasts = 0; tags = 0 }

  abbrev Is : Spot → List Name → Nest → Env → Type 0
  Is t names n e = around t n ≡ names

  skips : (t : Spot) (names : List Name) → Skips (tag_name p.name) (Is t names)
  skips t names = record { does = λ q rest g s k. k; loop = λ v l u step body rest g s k. k }

  at_loop : (t : Spot) (line : ℕ) (v : Name) (l u : Bound) (step : ℤ) (body rest : Nest) → around t (Loop (suc line) v l u step (mapped (redirect p) body) (behind_loop p rest)) ≡ around t (Loop (suc line) v l u step body rest)
  at_loop Here line v l u step body rest = refl
  at_loop (Behind t) line v l u step body rest = behind_skips (tag_name p.name) (Is t (around t rest)) (skips t (around t rest)) p tag_memref tag_fast rest any_env refl
  at_loop (Inside t) line v l u step body rest = ap (λ ns. v ∷ ns) (around_mapped t body)
  at_loop (Other t) line v l u step body rest = refl

  pub around_staged : (t s : Spot) (n : Nest) → HasLine s n → around t (staged_at p s n) ≡ around t n
  around_staged t s Nothing i = refl
  around_staged t Here (Loop zero v l u step body rest) i = absurd i
  around_staged t Here (Loop (suc line) v l u step body rest) i =
      let names = around t (Loop (suc line) v l u step body rest) in
      before_skips (tag_name p.name) (Is t names) (skips t names) p tag_memref tag_fast (Loop (suc line) v l u step (mapped (redirect p) body) (behind_loop p rest)) any_env (at_loop t line v l u step body rest)
  around_staged t (Behind s) (Loop zero v l u step body rest) i = around_staged t s rest i
  around_staged t (Inside s) (Loop zero v l u step body rest) i = refl
  around_staged t (Other s) (Loop zero v l u step body rest) i = refl
  around_staged Here (Behind s) (Loop (suc line) v l u step body rest) i = refl
  around_staged (Behind t) (Behind s) (Loop (suc line) v l u step body rest) i = around_staged t s rest i
  around_staged (Inside t) (Behind s) (Loop (suc line) v l u step body rest) i = refl
  around_staged (Other t) (Behind s) (Loop (suc line) v l u step body rest) i = refl
  around_staged Here (Inside s) (Loop (suc line) v l u step body rest) i = refl
  around_staged (Behind t) (Inside s) (Loop (suc line) v l u step body rest) i = refl
  around_staged (Inside t) (Inside s) (Loop (suc line) v l u step body rest) i = ap (λ ns. v ∷ ns) (around_staged t s body i)
  around_staged (Other t) (Inside s) (Loop (suc line) v l u step body rest) i = refl
  around_staged t (Other s) (Loop (suc line) v l u step body rest) i = refl
  around_staged t Here (Branch line set ns first has other rest) i = refl
  around_staged t (Behind s) (Branch zero set ns first has other rest) i = around_staged t s rest i
  around_staged t (Inside s) (Branch zero set ns first has other rest) i = refl
  around_staged t (Other s) (Branch zero set ns first has other rest) i = refl
  around_staged Here (Behind s) (Branch (suc line) set ns first has other rest) i = refl
  around_staged (Behind t) (Behind s) (Branch (suc line) set ns first has other rest) i = around_staged t s rest i
  around_staged (Inside t) (Behind s) (Branch (suc line) set ns first has other rest) i = refl
  around_staged (Other t) (Behind s) (Branch (suc line) set ns first has other rest) i = refl
  around_staged Here (Inside s) (Branch (suc line) set ns first has other rest) i = refl
  around_staged (Behind t) (Inside s) (Branch (suc line) set ns first has other rest) i = refl
  around_staged (Inside t) (Inside s) (Branch (suc line) set ns first has other rest) i = around_staged t s first i
  around_staged (Other t) (Inside s) (Branch (suc line) set ns first has other rest) i = refl
  around_staged Here (Other s) (Branch (suc line) set ns first has other rest) i = refl
  around_staged (Behind t) (Other s) (Branch (suc line) set ns first has other rest) i = refl
  around_staged (Inside t) (Other s) (Branch (suc line) set ns first has other rest) i = refl
  around_staged (Other t) (Other s) (Branch (suc line) set ns first has other rest) i = around_staged t s other i
  around_staged t Here (Does line q rest) i = refl
  around_staged t (Behind s) (Does zero q rest) i = around_staged t s rest i
  around_staged Here (Behind s) (Does (suc line) q rest) i = refl
  around_staged (Behind t) (Behind s) (Does (suc line) q rest) i = around_staged t s rest i
  around_staged (Inside t) (Behind s) (Does (suc line) q rest) i = refl
  around_staged (Other t) (Behind s) (Does (suc line) q rest) i = refl
  around_staged t (Inside s) (Does line q rest) i = refl
  around_staged t (Other s) (Does line q rest) i = refl
