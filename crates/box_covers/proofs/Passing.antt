-- The steps of loops along a way.
use Rattle.std.proofs.Common.{◌≡◌, ℕ, zero, suc, ◌+◌, ◌<◌, Bool, true, false, ◌&&◌, List, [], ◌∷◌, length, map, drop, get_or, Result, refl, sym, ◌∙◌, ap, subst, arith}
use Rattle.affine_expr.specs.declared.linear.LinearFault.{LinearFault}
use Rattle.affine_ast.specs.declared.module.Arg.{Arg}
use Rattle.affine_ast.specs.declared.stmt.What.{What}
use Rattle.affine_ast.specs.declared.types.Access.{Access}
use Rattle.affine_ast.specs.Intervals.{Ranges}
use Rattle.affine_ast.specs.Nest.{Plain, plain_of}
use Rattle.nest_domain.specs.declared.step.Step.{Step}
use Rattle.nest_domain.specs.Ways.{Header, loop_count}
use Rattle.nest_domain.specs.Steps.{header_of}
use Rattle.nest_domain.specs.Ready.{ReadyHeader}
use Rattle.nest_domain.specs.Domains.{symbol_count}
use Rattle.nest_domain.specs.Boxes.{Dimension}
use Rattle.box_covers.specs.declared.along.TracedForms.{TracedForms}
use Rattle.box_covers.specs.Traced.{Traced, behind_plain, swept}
use Rattle.box_covers.specs.Covers.{unconditional, covers_from, traced_at, store_covers}
use Rattle.box_covers.specs.Told.{traced_of, Tells, AreReady}

pub ready_at : (way : List Step) (i : ℕ) (step : Step) → AreReady (map header_of way) → i < length way → step ≡ get_or way i step → (rho : Ranges) × ReadyHeader (header_of step) rho
ready_at [] i step r h e = absurd (omega (arith, h))
ready_at (s ∷ way) zero step r h e = subst (λ t. (rho : Ranges) × ReadyHeader (header_of t) rho) (sym e) r.0
ready_at (s ∷ way) (suc i) step r h e = ready_at way i step r.1 (omega (arith, h)) e

pub ready_behind : (n : ℕ) (hs : List Header) → AreReady hs → AreReady (drop n hs)
ready_behind zero hs r = r
ready_behind (suc n) [] r = tt
ready_behind (suc n) (h ∷ hs) r = ready_behind n hs r.1

pub headers_behind : (n : ℕ) (way : List Step) → map header_of (drop n way) ≡ drop n (map header_of way)
headers_behind zero way = refl
headers_behind (suc n) [] = refl
headers_behind (suc n) (s ∷ way) = headers_behind n way

-- a statement as it is seen
pub passed_as : (w : What) (p : Plain) (k : Traced) (new : TracedForms) (r : Result (Unit {0}) LinearFault) → plain_of w ≡ p → Tells (behind_plain p k) (λ done. traced_of new) r → Tells (behind_plain (plain_of w) k) (λ done. traced_of new) r
passed_as w p k new r e h = subst (λ q. Tells (behind_plain q k) (λ done. traced_of new) r) (sym e) h

pub passed_none : (w : What) (p : Plain) (k : Traced) → plain_of w ≡ p → behind_plain p k ≡ k → k ≡ behind_plain (plain_of w) k
passed_none w p k e h = sym (ap (λ q. behind_plain q k) e ∙ h)

as_long : (way : List Step) → length way ≡ length (map header_of way)
as_long [] = refl
as_long (s ∷ way) = ap suc (as_long way)

-- where no condition stands behind the loop, the store covers where the loops sweep
pub store_told : (args : List Arg) (way : List Step) (there inner : List Header) (at : Access) (n first : ℕ) (ds : List Dimension) (k : Traced) (r : Result Bool LinearFault) → inner ≡ drop n there → n ≡ length way → unconditional inner ≡ true
    → first ≡ symbol_count args + loop_count (map header_of way) → k ≡ traced_at args (map header_of way) (loop_count there) → Tells {A = Bool} (covers_from first ds (swept inner at k)) (λ b. b) r
    → Tells {A = Bool} (store_covers args (map header_of way) there at (symbol_count args + loop_count (map header_of way)) ds) (λ b. b) r
store_told args way there inner at n first ds k r e m u f g h =
    let hs = map header_of way in
    let is : inner ≡ drop (length hs) there = e ∙ ap (λ i. drop i there) (m ∙ as_long way) in
    let free : unconditional (drop (length hs) there) ≡ true = ap unconditional (sym is) ∙ u in
    subst (λ b. Tells {A = Bool} (b && covers_from (symbol_count args + loop_count hs) ds (swept (drop (length hs) there) at (traced_at args hs (loop_count there)))) (λ b. b) r) (sym free)
    (subst (λ x. x) (λ i. Tells {A = Bool} (covers_from (f i) ds (swept (is i) at (g i))) (λ b. b) r) h)

pub store_kept : (args : List Arg) (way : List Step) (there inner : List Header) (at : Access) (n outer : ℕ) (ds : List Dimension) → inner ≡ drop n there → n ≡ length way → unconditional inner ≡ false → false ≡ store_covers args (map header_of way) there at outer ds
store_kept args way there inner at n outer ds e m u =
    let is : inner ≡ drop (length (map header_of way)) there = e ∙ ap (λ i. drop i there) (m ∙ as_long way) in
    let bound : unconditional (drop (length (map header_of way)) there) ≡ false = ap unconditional (sym is) ∙ u in
    sym (ap (λ b. b && covers_from outer ds (swept (drop (length (map header_of way)) there) at (traced_at args (map header_of way) (loop_count there)))) bound)
