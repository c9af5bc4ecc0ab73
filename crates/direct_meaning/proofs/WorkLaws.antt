-- The list of actions is never longer than the work.
use Rattle.std.proofs.Common.{◌≡◌, ℕ, zero, suc, ◌+◌, ◌*◌, ◌≤◌, max, ℤ, pos, ◌+ℤ◌, ◌-ℤ◌, ◌≤ℤ◌, ◌<ℤ◌, List, [], ◌∷◌, length, refl, arith, Bool, true, false}
use Rattle.std.specs.Prelude.{flat_map, int_lt, if◌then◌else◌}
use Rattle.std.specs.Int.{int_max}
use Rattle.std.proofs.lemmas.Int.{ints}
use Rattle.std.proofs.lemmas.List.{length-append}
use Rattle.affine_ast.specs.Names.{put}
use Rattle.affine_ast.specs.Nest.{Plain, Nest, Nothing, Loop, Branch, Does, Start}
use Rattle.direct_meaning.specs.Turns.{gap, turns, turns_within}
use Rattle.direct_meaning.specs.Action.{Action}
use Rattle.direct_meaning.specs.Static.{Env, knows, lower_of, upper_of, holds_at}
use Rattle.direct_meaning.specs.Actions.{after_plain, behind, actions}
use Rattle.direct_meaning.specs.Work.{Ranges, first_turn, last_end, turn_range, turn_count, ranges_after, plain_work, full_work}
use Rattle.direct_meaning.specs.Bounded.{TurnsBounded}

-- what holds of each element
abbrev pub Every : {A : Type 0} → (A → Type 0) → List A → Type 0
Every Q [] = Unit {0}
Every Q (a ∷ xs) = Q a × Every Q xs

-- a turn lies between the bounds
abbrev pub Between : ℤ → ℤ → ℤ → Type 0
Between a b t = (a ≤ℤ t) × (t <ℤ b)

turns_lie : (n : ℕ) (a low b s : ℤ) → low ≤ℤ a → pos 0 <ℤ s → Every (Between low b) (turns_within n a b s)
turns_lie zero a low b s h k = tt
turns_lie (suc n) a low b s h k = by (int_lt a b) refl (turns_lie n (a +ℤ s) low b s (omega (arith, ints, h, k)) k)
  where
    by : (t : Bool) → int_lt a b ≡ t → Every (Between low b) (turns_within n (a +ℤ s) b s) → Every (Between low b) (if t then a ∷ turns_within n (a +ℤ s) b s else [])
    by true t more = let less : a <ℤ b = grind (arith, ints, t) in ((h, less), more)
    by false t more = tt

pub all_between : (a b s : ℤ) → Every (Between a b) (turns a b s)
unfolding turns
all_between a b s = turns_lie (gap (b -ℤ a)) a a b (int_max (pos 1) s) (omega (arith, ints)) (grind (arith, ints))

length_flat : {A : Type 0} (a b : ℤ) (f : ℤ → List A) (k : ℕ) → ((t : ℤ) → a ≤ℤ t → t <ℤ b → length (f t) ≤ k) → (ts : List ℤ) → Every (Between a b) ts → length (flat_map f ts) ≤ length ts * k
length_flat a b f k h [] e = omega arith
length_flat a b f k h (t ∷ ts) e = omega (arith, length-append (f t) (flat_map f ts), h t e.0.0 e.0.1, length_flat a b f k h ts e.1)

times : (a b c d : ℕ) → a ≤ b → c ≤ d → a * c ≤ b * max 1 d
times a b c d p q = grind arith

either : (t : Bool) (xs ys : List Action) (a b : ℕ) → length xs ≤ a → length ys ≤ b → length (if t then xs else ys) ≤ a + b
either true xs ys a b p q = omega arith
either false xs ys a b p q = omega arith

one : (p : Plain) (rho : Ranges) → 1 ≤ plain_work p rho
one (Start a a_at b b_at t t_at n stride types) rho = omega arith
one p rho = omega arith

pub work_bounds : (n : Nest) (e : Env) (rho : Ranges) → TurnsBounded n e rho → length (actions n e) ≤ full_work n rho
unfolding actions full_work
work_bounds Nothing e rho h = omega arith
work_bounds (Loop line v l u s body rest) e rho h =
    let inner = put rho v (turn_range (first_turn rho l) (last_end rho u)) in
    let ts = turns (lower_of e l) (upper_of e u) s in
    let count = turn_count (first_turn rho l) (last_end rho u) s in
    let each = length_flat (lower_of e l) (upper_of e u) (λ t. actions body (knows e v t)) (full_work body inner) (λ t low high. work_bounds body (knows e v t) inner (h.1 t low high)) ts (all_between (lower_of e l) (upper_of e u) s) in
    omega (
      arith,
      length-append (flat_map (λ t. actions body (knows e v t)) ts) (actions rest (behind body e)),
      each,
      times (length ts) count (full_work body inner) (full_work body inner) h.0 (omega arith),
      work_bounds rest (behind body e) rho h.2,
    )
work_bounds (Branch line set names first has other rest) e rho h =
    let middle = behind first e in
    let last = behind other middle in
    let chosen = if holds_at e set names then actions first e else actions other middle in
    omega (
      arith,
      length-append chosen (actions rest last),
      either (holds_at e set names) (actions first e) (actions other middle) (full_work first rho) (full_work other rho) (work_bounds first e rho h.0) (work_bounds other middle rho h.1),
      work_bounds rest last rho h.2,
    )
work_bounds (Does line p rest) e rho h = omega (arith, one p rho, work_bounds rest (after_plain p e) (ranges_after p rho) h)
