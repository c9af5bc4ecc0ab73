-- A loop of the source is found again in the text in which a memref is staged.
use Rattle.std.proofs.Common.{◌≡◌, ℕ, zero, suc, ℤ, false}
use Rattle.affine_ast.specs.declared.name.Name.{Name}
use Rattle.affine_ast.specs.declared.types.Bound.{Bound}
use Rattle.affine_ast.specs.Names.{same_name}
use Rattle.affine_ast.specs.Nest.{Plain, Nest, Nothing, Loop, Branch, Does}
use Rattle.direct_meaning.specs.Static.{Env}
use Rattle.placement_texts.specs.Mapped.{mapped}
use Rattle.placement_texts.specs.Template.{Placement, fast_name, behind_loop, redirect}
use Rattle.placement_texts.specs.Spots.{Spot, Here, Behind, Inside, Other, IsLoop, HasLine, Disjoint, found, staged_at}
use Rattle.placement_texts.proofs.Skipped.{Skips, before_skips, behind_skips}

-- a loop with a line stands at a place that is counted over the statements with a line
abbrev pub Stays : Spot → Nest → Type 0
Stays t n = IsLoop (found t n) n × HasLine (found t n) n

-- where only plain statements change
mapped_stays : (change : Plain → Plain) (t : Spot) (n : Nest) → Stays t n → Stays t (mapped change n)
mapped_stays change t Nothing h = absurd h.0
mapped_stays change t (Loop zero v l u step body rest) h = mapped_stays change t rest h
mapped_stays change Here (Loop (suc line) v l u step body rest) h = (tt, tt)
mapped_stays change (Behind t) (Loop (suc line) v l u step body rest) h = mapped_stays change t rest h
mapped_stays change (Inside t) (Loop (suc line) v l u step body rest) h = mapped_stays change t body h
mapped_stays change (Other t) (Loop (suc line) v l u step body rest) h = absurd h.0
mapped_stays change t (Branch zero set ns first has other rest) h = mapped_stays change t rest h
mapped_stays change Here (Branch (suc line) set ns first has other rest) h = absurd h.0
mapped_stays change (Behind t) (Branch (suc line) set ns first has other rest) h = mapped_stays change t rest h
mapped_stays change (Inside t) (Branch (suc line) set ns first has other rest) h = mapped_stays change t first h
mapped_stays change (Other t) (Branch (suc line) set ns first has other rest) h = mapped_stays change t other h
mapped_stays change t (Does zero q rest) h = mapped_stays change t rest h
mapped_stays change Here (Does (suc line) q rest) h = absurd h.0
mapped_stays change (Behind t) (Does (suc line) q rest) h = mapped_stays change t rest h
mapped_stays change (Inside t) (Does (suc line) q rest) h = absurd h.0
mapped_stays change (Other t) (Does (suc line) q rest) h = absurd h.0

-- `m` is a name that the template doesn't take: no demand is made of it here
module _ (p : Placement) (m : Name) (g : Env) (other_name : same_name m p.memref ≡ false) (fast : same_name m (fast_name p.name) ≡ false) where
  abbrev K : Spot → Nest → Env → Type 0
  K t n e = Stays t n

  skips : (t : Spot) → Skips m (K t)
  skips t = record { does = λ q rest e s k. k; loop = λ v l u step body rest e s k. k }

  at_loop : (t : Spot) (line : ℕ) (v : Name) (l u : Bound) (step : ℤ) (body rest : Nest) → Stays t (Loop (suc line) v l u step body rest) → Stays t (Loop (suc line) v l u step (mapped (redirect p) body) (behind_loop p rest))
  at_loop Here line v l u step body rest h = (tt, tt)
  at_loop (Behind t) line v l u step body rest h = behind_skips m (K t) (skips t) p other_name fast rest g h
  at_loop (Inside t) line v l u step body rest h = mapped_stays (redirect p) t body h
  at_loop (Other t) line v l u step body rest h = absurd h.0

  pub staged_stays : (t s : Spot) (n : Nest) → IsLoop s n → HasLine s n → Stays t n → Stays t (staged_at p s n)
  staged_stays t s Nothing is line_ h = absurd is
  staged_stays t Here (Loop zero v l u step body rest) is line_ h = absurd line_
  staged_stays t Here (Loop (suc line) v l u step body rest) is line_ h =
      before_skips m (K t) (skips t) p other_name fast (Loop (suc line) v l u step (mapped (redirect p) body) (behind_loop p rest)) g (at_loop t line v l u step body rest h)
  staged_stays t (Behind s) (Loop zero v l u step body rest) is line_ h = staged_stays t s rest is line_ h
  staged_stays Here (Behind s) (Loop (suc line) v l u step body rest) is line_ h = (tt, tt)
  staged_stays (Behind t) (Behind s) (Loop (suc line) v l u step body rest) is line_ h = staged_stays t s rest is line_ h
  staged_stays (Inside t) (Behind s) (Loop (suc line) v l u step body rest) is line_ h = h
  staged_stays (Other t) (Behind s) (Loop (suc line) v l u step body rest) is line_ h = absurd h.0
  staged_stays t (Inside s) (Loop zero v l u step body rest) is line_ h = h
  staged_stays Here (Inside s) (Loop (suc line) v l u step body rest) is line_ h = (tt, tt)
  staged_stays (Behind t) (Inside s) (Loop (suc line) v l u step body rest) is line_ h = h
  staged_stays (Inside t) (Inside s) (Loop (suc line) v l u step body rest) is line_ h = staged_stays t s body is line_ h
  staged_stays (Other t) (Inside s) (Loop (suc line) v l u step body rest) is line_ h = absurd h.0
  staged_stays t (Other s) (Loop line v l u step body rest) is line_ h = absurd is
  staged_stays t Here (Branch line set ns first has other rest) is line_ h = absurd is
  staged_stays t (Behind s) (Branch zero set ns first has other rest) is line_ h = staged_stays t s rest is line_ h
  staged_stays Here (Behind s) (Branch (suc line) set ns first has other rest) is line_ h = absurd h.0
  staged_stays (Behind t) (Behind s) (Branch (suc line) set ns first has other rest) is line_ h = staged_stays t s rest is line_ h
  staged_stays (Inside t) (Behind s) (Branch (suc line) set ns first has other rest) is line_ h = h
  staged_stays (Other t) (Behind s) (Branch (suc line) set ns first has other rest) is line_ h = h
  staged_stays t (Inside s) (Branch zero set ns first has other rest) is line_ h = h
  staged_stays Here (Inside s) (Branch (suc line) set ns first has other rest) is line_ h = absurd h.0
  staged_stays (Behind t) (Inside s) (Branch (suc line) set ns first has other rest) is line_ h = h
  staged_stays (Inside t) (Inside s) (Branch (suc line) set ns first has other rest) is line_ h = staged_stays t s first is line_ h
  staged_stays (Other t) (Inside s) (Branch (suc line) set ns first has other rest) is line_ h = h
  staged_stays t (Other s) (Branch zero set ns first has other rest) is line_ h = h
  staged_stays Here (Other s) (Branch (suc line) set ns first has other rest) is line_ h = absurd h.0
  staged_stays (Behind t) (Other s) (Branch (suc line) set ns first has other rest) is line_ h = h
  staged_stays (Inside t) (Other s) (Branch (suc line) set ns first has other rest) is line_ h = h
  staged_stays (Other t) (Other s) (Branch (suc line) set ns first has other rest) is line_ h = staged_stays t s other is line_ h
  staged_stays t Here (Does line q rest) is line_ h = absurd is
  staged_stays t (Behind s) (Does zero q rest) is line_ h = staged_stays t s rest is line_ h
  staged_stays Here (Behind s) (Does (suc line) q rest) is line_ h = absurd h.0
  staged_stays (Behind t) (Behind s) (Does (suc line) q rest) is line_ h = staged_stays t s rest is line_ h
  staged_stays (Inside t) (Behind s) (Does (suc line) q rest) is line_ h = absurd h.0
  staged_stays (Other t) (Behind s) (Does (suc line) q rest) is line_ h = absurd h.0
  staged_stays t (Inside s) (Does line q rest) is line_ h = absurd is
  staged_stays t (Other s) (Does line q rest) is line_ h = absurd is

-- loops that are apart by their counted places are apart by their places
pub found_disjoint : (t s : Spot) (n : Nest) → Disjoint t s → Disjoint (found t n) (found s n)
found_disjoint t s Nothing h = h
found_disjoint t s (Loop zero v l u step body rest) h = found_disjoint t s rest h
found_disjoint t s (Branch zero set ns first has other rest) h = found_disjoint t s rest h
found_disjoint t s (Does zero q rest) h = found_disjoint t s rest h
found_disjoint Here Here (Loop (suc line) v l u step body rest) h = h
found_disjoint Here (Behind s) (Loop (suc line) v l u step body rest) h = tt
found_disjoint Here (Inside s) (Loop (suc line) v l u step body rest) h = absurd h
found_disjoint Here (Other s) (Loop (suc line) v l u step body rest) h = tt
found_disjoint (Behind t) Here (Loop (suc line) v l u step body rest) h = tt
found_disjoint (Behind t) (Behind s) (Loop (suc line) v l u step body rest) h = found_disjoint t s rest h
found_disjoint (Behind t) (Inside s) (Loop (suc line) v l u step body rest) h = tt
found_disjoint (Behind t) (Other s) (Loop (suc line) v l u step body rest) h = tt
found_disjoint (Inside t) Here (Loop (suc line) v l u step body rest) h = absurd h
found_disjoint (Inside t) (Behind s) (Loop (suc line) v l u step body rest) h = tt
found_disjoint (Inside t) (Inside s) (Loop (suc line) v l u step body rest) h = found_disjoint t s body h
found_disjoint (Inside t) (Other s) (Loop (suc line) v l u step body rest) h = tt
found_disjoint (Other t) Here (Loop (suc line) v l u step body rest) h = tt
found_disjoint (Other t) (Behind s) (Loop (suc line) v l u step body rest) h = tt
found_disjoint (Other t) (Inside s) (Loop (suc line) v l u step body rest) h = tt
found_disjoint (Other t) (Other s) (Loop (suc line) v l u step body rest) h = h
found_disjoint Here Here (Branch (suc line) set ns first has other rest) h = h
found_disjoint Here (Behind s) (Branch (suc line) set ns first has other rest) h = tt
found_disjoint Here (Inside s) (Branch (suc line) set ns first has other rest) h = absurd h
found_disjoint Here (Other s) (Branch (suc line) set ns first has other rest) h = tt
found_disjoint (Behind t) Here (Branch (suc line) set ns first has other rest) h = tt
found_disjoint (Behind t) (Behind s) (Branch (suc line) set ns first has other rest) h = found_disjoint t s rest h
found_disjoint (Behind t) (Inside s) (Branch (suc line) set ns first has other rest) h = tt
found_disjoint (Behind t) (Other s) (Branch (suc line) set ns first has other rest) h = tt
found_disjoint (Inside t) Here (Branch (suc line) set ns first has other rest) h = absurd h
found_disjoint (Inside t) (Behind s) (Branch (suc line) set ns first has other rest) h = tt
found_disjoint (Inside t) (Inside s) (Branch (suc line) set ns first has other rest) h = found_disjoint t s first h
found_disjoint (Inside t) (Other s) (Branch (suc line) set ns first has other rest) h = tt
found_disjoint (Other t) Here (Branch (suc line) set ns first has other rest) h = tt
found_disjoint (Other t) (Behind s) (Branch (suc line) set ns first has other rest) h = tt
found_disjoint (Other t) (Inside s) (Branch (suc line) set ns first has other rest) h = tt
found_disjoint (Other t) (Other s) (Branch (suc line) set ns first has other rest) h = found_disjoint t s other h
found_disjoint Here Here (Does (suc line) q rest) h = h
found_disjoint Here (Behind s) (Does (suc line) q rest) h = tt
found_disjoint Here (Inside s) (Does (suc line) q rest) h = absurd h
found_disjoint Here (Other s) (Does (suc line) q rest) h = tt
found_disjoint (Behind t) Here (Does (suc line) q rest) h = tt
found_disjoint (Behind t) (Behind s) (Does (suc line) q rest) h = found_disjoint t s rest h
found_disjoint (Behind t) (Inside s) (Does (suc line) q rest) h = tt
found_disjoint (Behind t) (Other s) (Does (suc line) q rest) h = tt
found_disjoint (Inside t) Here (Does (suc line) q rest) h = absurd h
found_disjoint (Inside t) (Behind s) (Does (suc line) q rest) h = tt
found_disjoint (Inside t) (Inside s) (Does (suc line) q rest) h = h
found_disjoint (Inside t) (Other s) (Does (suc line) q rest) h = tt
found_disjoint (Other t) Here (Does (suc line) q rest) h = tt
found_disjoint (Other t) (Behind s) (Does (suc line) q rest) h = tt
found_disjoint (Other t) (Inside s) (Does (suc line) q rest) h = tt
found_disjoint (Other t) (Other s) (Does (suc line) q rest) h = h
