-- Functions over expressions, one equation for each kind.
use Rattle.std.proofs.Common.{◌≡◌, ℕ, ℤ, List, sym, ap, ◌∙◌}
use Rattle.std.specs.Prelude.{Option}
use Rattle.affine_expr.specs.declared.expr.Expr.{Expr, Dim, Sym, Const, Neg, Add, Sub, Mul, FloorDiv, CeilDiv, Mod, fold-Expr, fold-roll-Expr}
use Rattle.affine_expr.specs.declared.expr.Expr.TheVariants.{rolls-Dim, rolls-Sym, rolls-Const, rolls-Neg, rolls-Add, rolls-Sub, rolls-Mul, rolls-FloorDiv, rolls-CeilDiv, rolls-Mod}
use Rattle.affine_expr.specs.declared.expr.Expr.TheOpen.{Expr-F}
use Rattle.affine_expr.specs.Bounded.{bounded, bounded_step}
use Rattle.affine_expr.specs.Spread.{Range, Spread, spread, spread_step}
use Rattle.placement_texts.specs.Template.{number_step, number_of}

pub number_of-Dim : (n : ℕ) → number_of (Dim n) ≡ number_step (Expr-F.Dim n)
unfolding number_of
number_of-Dim n = ap (fold-Expr (Option ℤ) number_step) (sym (rolls-Dim n)) ∙ fold-roll-Expr (Option ℤ) number_step (Expr-F.Dim n)

pub number_of-Sym : (n : ℕ) → number_of (Sym n) ≡ number_step (Expr-F.Sym n)
unfolding number_of
number_of-Sym n = ap (fold-Expr (Option ℤ) number_step) (sym (rolls-Sym n)) ∙ fold-roll-Expr (Option ℤ) number_step (Expr-F.Sym n)

pub number_of-Const : (z : ℤ) → number_of (Const z) ≡ number_step (Expr-F.Const z)
unfolding number_of
number_of-Const z = ap (fold-Expr (Option ℤ) number_step) (sym (rolls-Const z)) ∙ fold-roll-Expr (Option ℤ) number_step (Expr-F.Const z)

pub number_of-Neg : (a : Expr) → number_of (Neg a) ≡ number_step (Expr-F.Neg (number_of a))
unfolding number_of
number_of-Neg a = ap (fold-Expr (Option ℤ) number_step) (sym (rolls-Neg a)) ∙ fold-roll-Expr (Option ℤ) number_step (Expr-F.Neg a)

pub number_of-Add : (a b : Expr) → number_of (Add a b) ≡ number_step (Expr-F.Add (number_of a) (number_of b))
unfolding number_of
number_of-Add a b = ap (fold-Expr (Option ℤ) number_step) (sym (rolls-Add a b)) ∙ fold-roll-Expr (Option ℤ) number_step (Expr-F.Add a b)

pub number_of-Sub : (a b : Expr) → number_of (Sub a b) ≡ number_step (Expr-F.Sub (number_of a) (number_of b))
unfolding number_of
number_of-Sub a b = ap (fold-Expr (Option ℤ) number_step) (sym (rolls-Sub a b)) ∙ fold-roll-Expr (Option ℤ) number_step (Expr-F.Sub a b)

pub number_of-Mul : (a b : Expr) → number_of (Mul a b) ≡ number_step (Expr-F.Mul (number_of a) (number_of b))
unfolding number_of
number_of-Mul a b = ap (fold-Expr (Option ℤ) number_step) (sym (rolls-Mul a b)) ∙ fold-roll-Expr (Option ℤ) number_step (Expr-F.Mul a b)

pub number_of-FloorDiv : (a b : Expr) → number_of (FloorDiv a b) ≡ number_step (Expr-F.FloorDiv (number_of a) (number_of b))
unfolding number_of
number_of-FloorDiv a b = ap (fold-Expr (Option ℤ) number_step) (sym (rolls-FloorDiv a b)) ∙ fold-roll-Expr (Option ℤ) number_step (Expr-F.FloorDiv a b)

pub number_of-CeilDiv : (a b : Expr) → number_of (CeilDiv a b) ≡ number_step (Expr-F.CeilDiv (number_of a) (number_of b))
unfolding number_of
number_of-CeilDiv a b = ap (fold-Expr (Option ℤ) number_step) (sym (rolls-CeilDiv a b)) ∙ fold-roll-Expr (Option ℤ) number_step (Expr-F.CeilDiv a b)

pub number_of-Mod : (a b : Expr) → number_of (Mod a b) ≡ number_step (Expr-F.Mod (number_of a) (number_of b))
unfolding number_of
number_of-Mod a b = ap (fold-Expr (Option ℤ) number_step) (sym (rolls-Mod a b)) ∙ fold-roll-Expr (Option ℤ) number_step (Expr-F.Mod a b)

pub ruleset numbers_of = (number_of-Dim, number_of-Sym, number_of-Const, number_of-Neg, number_of-Add, number_of-Sub, number_of-Mul, number_of-FloorDiv, number_of-CeilDiv, number_of-Mod)

module _ (rs ts : List Range) where
  pub bounded-Dim : (n : ℕ) → bounded rs ts (Dim n) ≡ bounded_step rs ts (Expr-F.Dim n)
  unfolding bounded
  bounded-Dim n = ap (fold-Expr (Option Spread) (bounded_step rs ts)) (sym (rolls-Dim n)) ∙ fold-roll-Expr (Option Spread) (bounded_step rs ts) (Expr-F.Dim n)

  pub bounded-Sym : (n : ℕ) → bounded rs ts (Sym n) ≡ bounded_step rs ts (Expr-F.Sym n)
  unfolding bounded
  bounded-Sym n = ap (fold-Expr (Option Spread) (bounded_step rs ts)) (sym (rolls-Sym n)) ∙ fold-roll-Expr (Option Spread) (bounded_step rs ts) (Expr-F.Sym n)

  pub bounded-Const : (z : ℤ) → bounded rs ts (Const z) ≡ bounded_step rs ts (Expr-F.Const z)
  unfolding bounded
  bounded-Const z = ap (fold-Expr (Option Spread) (bounded_step rs ts)) (sym (rolls-Const z)) ∙ fold-roll-Expr (Option Spread) (bounded_step rs ts) (Expr-F.Const z)

  pub bounded-Neg : (a : Expr) → bounded rs ts (Neg a) ≡ bounded_step rs ts (Expr-F.Neg (bounded rs ts a))
  unfolding bounded
  bounded-Neg a = ap (fold-Expr (Option Spread) (bounded_step rs ts)) (sym (rolls-Neg a)) ∙ fold-roll-Expr (Option Spread) (bounded_step rs ts) (Expr-F.Neg a)

  pub bounded-Add : (a b : Expr) → bounded rs ts (Add a b) ≡ bounded_step rs ts (Expr-F.Add (bounded rs ts a) (bounded rs ts b))
  unfolding bounded
  bounded-Add a b = ap (fold-Expr (Option Spread) (bounded_step rs ts)) (sym (rolls-Add a b)) ∙ fold-roll-Expr (Option Spread) (bounded_step rs ts) (Expr-F.Add a b)

  pub bounded-Sub : (a b : Expr) → bounded rs ts (Sub a b) ≡ bounded_step rs ts (Expr-F.Sub (bounded rs ts a) (bounded rs ts b))
  unfolding bounded
  bounded-Sub a b = ap (fold-Expr (Option Spread) (bounded_step rs ts)) (sym (rolls-Sub a b)) ∙ fold-roll-Expr (Option Spread) (bounded_step rs ts) (Expr-F.Sub a b)

  pub bounded-Mul : (a b : Expr) → bounded rs ts (Mul a b) ≡ bounded_step rs ts (Expr-F.Mul (bounded rs ts a) (bounded rs ts b))
  unfolding bounded
  bounded-Mul a b = ap (fold-Expr (Option Spread) (bounded_step rs ts)) (sym (rolls-Mul a b)) ∙ fold-roll-Expr (Option Spread) (bounded_step rs ts) (Expr-F.Mul a b)

  pub bounded-FloorDiv : (a b : Expr) → bounded rs ts (FloorDiv a b) ≡ bounded_step rs ts (Expr-F.FloorDiv (bounded rs ts a) (bounded rs ts b))
  unfolding bounded
  bounded-FloorDiv a b = ap (fold-Expr (Option Spread) (bounded_step rs ts)) (sym (rolls-FloorDiv a b)) ∙ fold-roll-Expr (Option Spread) (bounded_step rs ts) (Expr-F.FloorDiv a b)

  pub bounded-CeilDiv : (a b : Expr) → bounded rs ts (CeilDiv a b) ≡ bounded_step rs ts (Expr-F.CeilDiv (bounded rs ts a) (bounded rs ts b))
  unfolding bounded
  bounded-CeilDiv a b = ap (fold-Expr (Option Spread) (bounded_step rs ts)) (sym (rolls-CeilDiv a b)) ∙ fold-roll-Expr (Option Spread) (bounded_step rs ts) (Expr-F.CeilDiv a b)

  pub bounded-Mod : (a b : Expr) → bounded rs ts (Mod a b) ≡ bounded_step rs ts (Expr-F.Mod (bounded rs ts a) (bounded rs ts b))
  unfolding bounded
  bounded-Mod a b = ap (fold-Expr (Option Spread) (bounded_step rs ts)) (sym (rolls-Mod a b)) ∙ fold-roll-Expr (Option Spread) (bounded_step rs ts) (Expr-F.Mod a b)

pub ruleset bounds = (bounded-Dim, bounded-Sym, bounded-Const, bounded-Neg, bounded-Add, bounded-Sub, bounded-Mul, bounded-FloorDiv, bounded-CeilDiv, bounded-Mod)

module _ (rs ts : List Range) where
  pub spread-Dim : (n : ℕ) → spread rs ts (Dim n) ≡ spread_step rs ts (Expr-F.Dim n)
  unfolding spread
  spread-Dim n = ap (fold-Expr Spread (spread_step rs ts)) (sym (rolls-Dim n)) ∙ fold-roll-Expr Spread (spread_step rs ts) (Expr-F.Dim n)

  pub spread-Sym : (n : ℕ) → spread rs ts (Sym n) ≡ spread_step rs ts (Expr-F.Sym n)
  unfolding spread
  spread-Sym n = ap (fold-Expr Spread (spread_step rs ts)) (sym (rolls-Sym n)) ∙ fold-roll-Expr Spread (spread_step rs ts) (Expr-F.Sym n)

  pub spread-Const : (z : ℤ) → spread rs ts (Const z) ≡ spread_step rs ts (Expr-F.Const z)
  unfolding spread
  spread-Const z = ap (fold-Expr Spread (spread_step rs ts)) (sym (rolls-Const z)) ∙ fold-roll-Expr Spread (spread_step rs ts) (Expr-F.Const z)

  pub spread-Neg : (a : Expr) → spread rs ts (Neg a) ≡ spread_step rs ts (Expr-F.Neg (spread rs ts a))
  unfolding spread
  spread-Neg a = ap (fold-Expr Spread (spread_step rs ts)) (sym (rolls-Neg a)) ∙ fold-roll-Expr Spread (spread_step rs ts) (Expr-F.Neg a)

  pub spread-Add : (a b : Expr) → spread rs ts (Add a b) ≡ spread_step rs ts (Expr-F.Add (spread rs ts a) (spread rs ts b))
  unfolding spread
  spread-Add a b = ap (fold-Expr Spread (spread_step rs ts)) (sym (rolls-Add a b)) ∙ fold-roll-Expr Spread (spread_step rs ts) (Expr-F.Add a b)

  pub spread-Sub : (a b : Expr) → spread rs ts (Sub a b) ≡ spread_step rs ts (Expr-F.Sub (spread rs ts a) (spread rs ts b))
  unfolding spread
  spread-Sub a b = ap (fold-Expr Spread (spread_step rs ts)) (sym (rolls-Sub a b)) ∙ fold-roll-Expr Spread (spread_step rs ts) (Expr-F.Sub a b)

  pub spread-Mul : (a b : Expr) → spread rs ts (Mul a b) ≡ spread_step rs ts (Expr-F.Mul (spread rs ts a) (spread rs ts b))
  unfolding spread
  spread-Mul a b = ap (fold-Expr Spread (spread_step rs ts)) (sym (rolls-Mul a b)) ∙ fold-roll-Expr Spread (spread_step rs ts) (Expr-F.Mul a b)

  pub spread-FloorDiv : (a b : Expr) → spread rs ts (FloorDiv a b) ≡ spread_step rs ts (Expr-F.FloorDiv (spread rs ts a) (spread rs ts b))
  unfolding spread
  spread-FloorDiv a b = ap (fold-Expr Spread (spread_step rs ts)) (sym (rolls-FloorDiv a b)) ∙ fold-roll-Expr Spread (spread_step rs ts) (Expr-F.FloorDiv a b)

  pub spread-CeilDiv : (a b : Expr) → spread rs ts (CeilDiv a b) ≡ spread_step rs ts (Expr-F.CeilDiv (spread rs ts a) (spread rs ts b))
  unfolding spread
  spread-CeilDiv a b = ap (fold-Expr Spread (spread_step rs ts)) (sym (rolls-CeilDiv a b)) ∙ fold-roll-Expr Spread (spread_step rs ts) (Expr-F.CeilDiv a b)

  pub spread-Mod : (a b : Expr) → spread rs ts (Mod a b) ≡ spread_step rs ts (Expr-F.Mod (spread rs ts a) (spread rs ts b))
  unfolding spread
  spread-Mod a b = ap (fold-Expr Spread (spread_step rs ts)) (sym (rolls-Mod a b)) ∙ fold-roll-Expr Spread (spread_step rs ts) (Expr-F.Mod a b)

  pub least-Dim : (n : ℕ) → (spread rs ts (Dim n)).range.least ≡ (spread_step rs ts (Expr-F.Dim n)).range.least
  least-Dim n = ap (λ (s : Spread). s.range.least) (spread-Dim n)

  pub least-Sym : (n : ℕ) → (spread rs ts (Sym n)).range.least ≡ (spread_step rs ts (Expr-F.Sym n)).range.least
  least-Sym n = ap (λ (s : Spread). s.range.least) (spread-Sym n)

  pub least-Const : (z : ℤ) → (spread rs ts (Const z)).range.least ≡ (spread_step rs ts (Expr-F.Const z)).range.least
  least-Const z = ap (λ (s : Spread). s.range.least) (spread-Const z)

  pub least-Neg : (a : Expr) → (spread rs ts (Neg a)).range.least ≡ (spread_step rs ts (Expr-F.Neg (spread rs ts a))).range.least
  least-Neg a = ap (λ (s : Spread). s.range.least) (spread-Neg a)

  pub least-Add : (a b : Expr) → (spread rs ts (Add a b)).range.least ≡ (spread_step rs ts (Expr-F.Add (spread rs ts a) (spread rs ts b))).range.least
  least-Add a b = ap (λ (s : Spread). s.range.least) (spread-Add a b)

  pub least-Sub : (a b : Expr) → (spread rs ts (Sub a b)).range.least ≡ (spread_step rs ts (Expr-F.Sub (spread rs ts a) (spread rs ts b))).range.least
  least-Sub a b = ap (λ (s : Spread). s.range.least) (spread-Sub a b)

  pub least-Mul : (a b : Expr) → (spread rs ts (Mul a b)).range.least ≡ (spread_step rs ts (Expr-F.Mul (spread rs ts a) (spread rs ts b))).range.least
  least-Mul a b = ap (λ (s : Spread). s.range.least) (spread-Mul a b)

  pub least-FloorDiv : (a b : Expr) → (spread rs ts (FloorDiv a b)).range.least ≡ (spread_step rs ts (Expr-F.FloorDiv (spread rs ts a) (spread rs ts b))).range.least
  least-FloorDiv a b = ap (λ (s : Spread). s.range.least) (spread-FloorDiv a b)

  pub least-CeilDiv : (a b : Expr) → (spread rs ts (CeilDiv a b)).range.least ≡ (spread_step rs ts (Expr-F.CeilDiv (spread rs ts a) (spread rs ts b))).range.least
  least-CeilDiv a b = ap (λ (s : Spread). s.range.least) (spread-CeilDiv a b)

  pub least-Mod : (a b : Expr) → (spread rs ts (Mod a b)).range.least ≡ (spread_step rs ts (Expr-F.Mod (spread rs ts a) (spread rs ts b))).range.least
  least-Mod a b = ap (λ (s : Spread). s.range.least) (spread-Mod a b)

  pub greatest-Dim : (n : ℕ) → (spread rs ts (Dim n)).range.greatest ≡ (spread_step rs ts (Expr-F.Dim n)).range.greatest
  greatest-Dim n = ap (λ (s : Spread). s.range.greatest) (spread-Dim n)

  pub greatest-Sym : (n : ℕ) → (spread rs ts (Sym n)).range.greatest ≡ (spread_step rs ts (Expr-F.Sym n)).range.greatest
  greatest-Sym n = ap (λ (s : Spread). s.range.greatest) (spread-Sym n)

  pub greatest-Const : (z : ℤ) → (spread rs ts (Const z)).range.greatest ≡ (spread_step rs ts (Expr-F.Const z)).range.greatest
  greatest-Const z = ap (λ (s : Spread). s.range.greatest) (spread-Const z)

  pub greatest-Neg : (a : Expr) → (spread rs ts (Neg a)).range.greatest ≡ (spread_step rs ts (Expr-F.Neg (spread rs ts a))).range.greatest
  greatest-Neg a = ap (λ (s : Spread). s.range.greatest) (spread-Neg a)

  pub greatest-Add : (a b : Expr) → (spread rs ts (Add a b)).range.greatest ≡ (spread_step rs ts (Expr-F.Add (spread rs ts a) (spread rs ts b))).range.greatest
  greatest-Add a b = ap (λ (s : Spread). s.range.greatest) (spread-Add a b)

  pub greatest-Sub : (a b : Expr) → (spread rs ts (Sub a b)).range.greatest ≡ (spread_step rs ts (Expr-F.Sub (spread rs ts a) (spread rs ts b))).range.greatest
  greatest-Sub a b = ap (λ (s : Spread). s.range.greatest) (spread-Sub a b)

  pub greatest-Mul : (a b : Expr) → (spread rs ts (Mul a b)).range.greatest ≡ (spread_step rs ts (Expr-F.Mul (spread rs ts a) (spread rs ts b))).range.greatest
  greatest-Mul a b = ap (λ (s : Spread). s.range.greatest) (spread-Mul a b)

  pub greatest-FloorDiv : (a b : Expr) → (spread rs ts (FloorDiv a b)).range.greatest ≡ (spread_step rs ts (Expr-F.FloorDiv (spread rs ts a) (spread rs ts b))).range.greatest
  greatest-FloorDiv a b = ap (λ (s : Spread). s.range.greatest) (spread-FloorDiv a b)

  pub greatest-CeilDiv : (a b : Expr) → (spread rs ts (CeilDiv a b)).range.greatest ≡ (spread_step rs ts (Expr-F.CeilDiv (spread rs ts a) (spread rs ts b))).range.greatest
  greatest-CeilDiv a b = ap (λ (s : Spread). s.range.greatest) (spread-CeilDiv a b)

  pub greatest-Mod : (a b : Expr) → (spread rs ts (Mod a b)).range.greatest ≡ (spread_step rs ts (Expr-F.Mod (spread rs ts a) (spread rs ts b))).range.greatest
  greatest-Mod a b = ap (λ (s : Spread). s.range.greatest) (spread-Mod a b)

  pub fixed-Dim : (n : ℕ) → (spread rs ts (Dim n)).fixed ≡ (spread_step rs ts (Expr-F.Dim n)).fixed
  fixed-Dim n = ap (λ (s : Spread). s.fixed) (spread-Dim n)

  pub fixed-Sym : (n : ℕ) → (spread rs ts (Sym n)).fixed ≡ (spread_step rs ts (Expr-F.Sym n)).fixed
  fixed-Sym n = ap (λ (s : Spread). s.fixed) (spread-Sym n)

  pub fixed-Const : (z : ℤ) → (spread rs ts (Const z)).fixed ≡ (spread_step rs ts (Expr-F.Const z)).fixed
  fixed-Const z = ap (λ (s : Spread). s.fixed) (spread-Const z)

  pub fixed-Neg : (a : Expr) → (spread rs ts (Neg a)).fixed ≡ (spread_step rs ts (Expr-F.Neg (spread rs ts a))).fixed
  fixed-Neg a = ap (λ (s : Spread). s.fixed) (spread-Neg a)

  pub fixed-Add : (a b : Expr) → (spread rs ts (Add a b)).fixed ≡ (spread_step rs ts (Expr-F.Add (spread rs ts a) (spread rs ts b))).fixed
  fixed-Add a b = ap (λ (s : Spread). s.fixed) (spread-Add a b)

  pub fixed-Sub : (a b : Expr) → (spread rs ts (Sub a b)).fixed ≡ (spread_step rs ts (Expr-F.Sub (spread rs ts a) (spread rs ts b))).fixed
  fixed-Sub a b = ap (λ (s : Spread). s.fixed) (spread-Sub a b)

  pub fixed-Mul : (a b : Expr) → (spread rs ts (Mul a b)).fixed ≡ (spread_step rs ts (Expr-F.Mul (spread rs ts a) (spread rs ts b))).fixed
  fixed-Mul a b = ap (λ (s : Spread). s.fixed) (spread-Mul a b)

  pub fixed-FloorDiv : (a b : Expr) → (spread rs ts (FloorDiv a b)).fixed ≡ (spread_step rs ts (Expr-F.FloorDiv (spread rs ts a) (spread rs ts b))).fixed
  fixed-FloorDiv a b = ap (λ (s : Spread). s.fixed) (spread-FloorDiv a b)

  pub fixed-CeilDiv : (a b : Expr) → (spread rs ts (CeilDiv a b)).fixed ≡ (spread_step rs ts (Expr-F.CeilDiv (spread rs ts a) (spread rs ts b))).fixed
  fixed-CeilDiv a b = ap (λ (s : Spread). s.fixed) (spread-CeilDiv a b)

  pub fixed-Mod : (a b : Expr) → (spread rs ts (Mod a b)).fixed ≡ (spread_step rs ts (Expr-F.Mod (spread rs ts a) (spread rs ts b))).fixed
  fixed-Mod a b = ap (λ (s : Spread). s.fixed) (spread-Mod a b)

pub ruleset spread_parts = (least-Dim, least-Sym, least-Const, least-Neg, least-Add, least-Sub, least-Mul, least-FloorDiv, least-CeilDiv, least-Mod, greatest-Dim, greatest-Sym, greatest-Const, greatest-Neg, greatest-Add, greatest-Sub, greatest-Mul, greatest-FloorDiv, greatest-CeilDiv, greatest-Mod, fixed-Dim, fixed-Sym, fixed-Const, fixed-Neg, fixed-Add, fixed-Sub, fixed-Mul, fixed-FloorDiv, fixed-CeilDiv, fixed-Mod)
