-- The operands of expressions that have an interval: leaves of their parameters, and integers of 64 bits.
use Rattle.std.proofs.Common.{◌≡◌, ℕ, ◌+◌, ℤ, pos, negsuc, Bool, true, false, List, [], ◌∷◌, ◌++◌, length, length-append, refl, sym, ap, ◌∙◌, subst, arith}
use Rattle.std.specs.Prelude.{◌&&◌, ◌||◌, Option, Some, None, is_some, nat_le, sum_by, option_and_then, if◌then◌else◌}
use Rattle.std.specs.List.{list_all}
use Rattle.std.proofs.lemmas.Bool.{and_parts, ltb-true, leb-true}
use Rattle.std.proofs.lemmas.Int.{ints}
use Rattle.std.proofs.lemmas.List.Recursion.{is_sum_by}
use Rattle.affine_expr.specs.declared.expr.Expr.{Expr, fold-roll-Expr, ind-Expr, map-Expr, roll-Expr}
use Rattle.affine_expr.specs.declared.expr.Expr.TheOpen.{Expr-F}
use Rattle.affine_expr.specs.Bounded.{limited, bounded_step, bounded}
use Rattle.affine_expr.specs.Pure.{is_outside, has_leaves_below, leaves_step}
use Rattle.affine_expr.specs.Spread.{Range, Spread, only}
use Rattle.affine_expr.proofs.Limits.{is_inside}
use Rattle.affine_ast.specs.PlainLimits.{operands_step, operand_count, depths}
use Rattle.affine_ast.specs.Rules.{has_interval}
use Rattle.plan_laws.specs.Limits.{expression_fits}
use Rattle.printed_texts.specs.Nesting.{printed_nesting}
use Rattle.printed_texts.specs.Writable.{InRange, Positive, Negative, Operand, operands_of, OperandsFit, IsWithin, ExpressionFits, ExpressionsFit, AllWithin, operands_in}
use Rattle.printed_texts.proofs.Operands.{operands-roll}

-- ---- integers
pub in_range : (z : ℤ) → is_outside z ≡ false → InRange z
in_range (pos n) h = let k = (is_inside (pos n) h).high in Positive n refl (omega (arith, ints, k))
in_range (negsuc n) h = let k = (is_inside (negsuc n) h).low in Negative n refl (omega (arith, ints, k))

-- ---- operands
fit_join : (d s : ℕ) (xs ys : List Operand) → OperandsFit d s xs → OperandsFit d s ys → OperandsFit d s (xs ++ ys)
fit_join d s [] ys h k = k
fit_join d s (x ∷ xs) ys h k = (h.0, fit_join d s xs ys h.1 k)

-- both have an interval where a part of both has one
both_some : (x y : Option Spread) (f : Spread → Spread → Option Spread) → is_some (option_and_then (λ a. option_and_then (λ b. f a b) y) x) ≡ true → (is_some x ≡ true) × (is_some y ≡ true)
both_some (Some a) (Some b) f h = (refl, refl)
both_some (Some a) None f h = absurd (let z : ⊥ = cc in z)
both_some None y f h = absurd (let z : ⊥ = cc in z)

one_some : (x : Option Spread) (f : Spread → Option Spread) → is_some (option_and_then f x) ≡ true → is_some x ≡ true
one_some (Some a) f h = refl
one_some None f h = absurd (let z : ⊥ = cc in z)

limited_inside : (t : Spread) (z : ℤ) → t.range.least ≡ z → is_some (limited t) ≡ true → is_outside z ≡ false
unfolding limited
limited_inside t z e h = by (is_outside t.range.least) refl h
  where
    by : (b : Bool) → is_outside t.range.least ≡ b → is_some (if b || is_outside t.range.greatest then None else Some t) ≡ true → is_outside z ≡ false
    by true q h = absurd (let y : ⊥ = cc in y)
    by false q h = ap is_outside (sym e) ∙ q

module _ (d s : ℕ) (ds ss : List Range) where
  abbrev Fits : Expr → Type 0
  Fits e = has_leaves_below d s e ≡ true → is_some (bounded ds ss e) ≡ true → OperandsFit d s (operands_of e)

  leaves-roll : (x : Expr-F Expr) → has_leaves_below d s (roll-Expr x) ≡ leaves_step d s (map-Expr Expr Bool (has_leaves_below d s) x)
  unfolding has_leaves_below
  leaves-roll x = fold-roll-Expr Bool (leaves_step d s) x

  bounded-roll : (x : Expr-F Expr) → bounded ds ss (roll-Expr x) ≡ bounded_step ds ss (map-Expr Expr (Option Spread) (bounded ds ss) x)
  unfolding bounded
  bounded-roll x = fold-roll-Expr (Option Spread) (bounded_step ds ss) x

  -- a part of two
  two : (x : Expr-F Expr) (a b : Expr) (f : Spread → Spread → Option Spread) → Fits a → Fits b
      → leaves_step d s (map-Expr Expr Bool (has_leaves_below d s) x) ≡ (has_leaves_below d s a && has_leaves_below d s b)
      → bounded_step ds ss (map-Expr Expr (Option Spread) (bounded ds ss) x) ≡ option_and_then (λ p. option_and_then (λ q. f p q) (bounded ds ss b)) (bounded ds ss a)
      → operands_of (roll-Expr x) ≡ operands_of a ++ operands_of b → Fits (roll-Expr x)
  two x a b f p q leaves bounds operands h k =
      let l = and_parts (has_leaves_below d s a) (has_leaves_below d s b) (sym leaves ∙ sym (leaves-roll x) ∙ h) in
      let i = both_some (bounded ds ss a) (bounded ds ss b) f (ap is_some (sym bounds ∙ sym (bounded-roll x)) ∙ k) in
      subst (OperandsFit d s) (sym operands) (fit_join d s (operands_of a) (operands_of b) (p l.0 i.0) (q l.1 i.1))

  layer : (y : Expr-F ((e : Expr) × Fits e)) → Fits (roll-Expr (map-Expr ((e : Expr) × Fits e) Expr (λ e. e.0) y))
  layer (Expr-F.Dim n) h k = subst (OperandsFit d s) (sym (operands-roll (Expr-F.Dim n))) (ltb-true n d (sym (leaves-roll (Expr-F.Dim n)) ∙ h), tt)
  layer (Expr-F.Sym n) h k = subst (OperandsFit d s) (sym (operands-roll (Expr-F.Sym n))) (ltb-true n s (sym (leaves-roll (Expr-F.Sym n)) ∙ h), tt)
  layer (Expr-F.Const z) h k =
      subst (OperandsFit d s) (sym (operands-roll (Expr-F.Const z)))
      (in_range z (limited_inside (record { range = only z; fixed = Some z }) z refl (ap is_some (sym (bounded-roll (Expr-F.Const z))) ∙ k)), tt)
  layer (Expr-F.Neg a) h k =
      subst (OperandsFit d s) (sym (operands-roll (Expr-F.Neg a.0)))
      (a.1 (sym (leaves-roll (Expr-F.Neg a.0)) ∙ h) (one_some (bounded ds ss a.0) _ (ap is_some (sym (bounded-roll (Expr-F.Neg a.0))) ∙ k)))
  layer (Expr-F.Add a b) h k = two (Expr-F.Add a.0 b.0) a.0 b.0 _ a.1 b.1 refl refl (operands-roll (Expr-F.Add a.0 b.0)) h k
  layer (Expr-F.Sub a b) h k = two (Expr-F.Sub a.0 b.0) a.0 b.0 _ a.1 b.1 refl refl (operands-roll (Expr-F.Sub a.0 b.0)) h k
  layer (Expr-F.Mul a b) h k = two (Expr-F.Mul a.0 b.0) a.0 b.0 _ a.1 b.1 refl refl (operands-roll (Expr-F.Mul a.0 b.0)) h k
  layer (Expr-F.FloorDiv a b) h k = two (Expr-F.FloorDiv a.0 b.0) a.0 b.0 _ a.1 b.1 refl refl (operands-roll (Expr-F.FloorDiv a.0 b.0)) h k
  layer (Expr-F.CeilDiv a b) h k = two (Expr-F.CeilDiv a.0 b.0) a.0 b.0 _ a.1 b.1 refl refl (operands-roll (Expr-F.CeilDiv a.0 b.0)) h k
  layer (Expr-F.Mod a b) h k = two (Expr-F.Mod a.0 b.0) a.0 b.0 _ a.1 b.1 refl refl (operands-roll (Expr-F.Mod a.0 b.0)) h k

  pub operands_fit : (e : Expr) → Fits e
  operands_fit = ind-Expr Fits (λ x y is. subst (λ z. Fits (roll-Expr z)) is (layer y))

-- ---- how many
abbrev Counts : Expr → Type 0
Counts e = length (operands_of e) ≡ operand_count e

count-roll : (x : Expr-F Expr) → operand_count (roll-Expr x) ≡ operands_step (map-Expr Expr ℕ operand_count x)
unfolding operand_count
count-roll x = fold-roll-Expr ℕ operands_step x

counts_two : (x : Expr-F Expr) (a b : Expr) → operands_of (roll-Expr x) ≡ operands_of a ++ operands_of b → operands_step (map-Expr Expr ℕ operand_count x) ≡ operand_count a + operand_count b
    → Counts a → Counts b → Counts (roll-Expr x)
counts_two x a b operands count p q = ap (λ (xs : List Operand). length xs) operands ∙ length-append (operands_of a) (operands_of b) ∙ (λ i. p i + q i) ∙ sym count ∙ sym (count-roll x)

counts_layer : (y : Expr-F ((e : Expr) × Counts e)) → Counts (roll-Expr (map-Expr ((e : Expr) × Counts e) Expr (λ e. e.0) y))
counts_layer (Expr-F.Dim n) = ap (λ (xs : List Operand). length xs) (operands-roll (Expr-F.Dim n)) ∙ sym (count-roll (Expr-F.Dim n))
counts_layer (Expr-F.Sym n) = ap (λ (xs : List Operand). length xs) (operands-roll (Expr-F.Sym n)) ∙ sym (count-roll (Expr-F.Sym n))
counts_layer (Expr-F.Const z) = ap (λ (xs : List Operand). length xs) (operands-roll (Expr-F.Const z)) ∙ sym (count-roll (Expr-F.Const z))
counts_layer (Expr-F.Neg a) = ap (λ (xs : List Operand). length xs) (operands-roll (Expr-F.Neg a.0)) ∙ a.1 ∙ sym (count-roll (Expr-F.Neg a.0))
counts_layer (Expr-F.Add a b) = counts_two (Expr-F.Add a.0 b.0) a.0 b.0 (operands-roll (Expr-F.Add a.0 b.0)) refl a.1 b.1
counts_layer (Expr-F.Sub a b) = counts_two (Expr-F.Sub a.0 b.0) a.0 b.0 (operands-roll (Expr-F.Sub a.0 b.0)) refl a.1 b.1
counts_layer (Expr-F.Mul a b) = counts_two (Expr-F.Mul a.0 b.0) a.0 b.0 (operands-roll (Expr-F.Mul a.0 b.0)) refl a.1 b.1
counts_layer (Expr-F.FloorDiv a b) = counts_two (Expr-F.FloorDiv a.0 b.0) a.0 b.0 (operands-roll (Expr-F.FloorDiv a.0 b.0)) refl a.1 b.1
counts_layer (Expr-F.CeilDiv a b) = counts_two (Expr-F.CeilDiv a.0 b.0) a.0 b.0 (operands-roll (Expr-F.CeilDiv a.0 b.0)) refl a.1 b.1
counts_layer (Expr-F.Mod a b) = counts_two (Expr-F.Mod a.0 b.0) a.0 b.0 (operands-roll (Expr-F.Mod a.0 b.0)) refl a.1 b.1

pub counted : (e : Expr) → length (operands_of e) ≡ operand_count e
counted = ind-Expr Counts (λ x y is. subst (λ z. Counts (roll-Expr z)) is (counts_layer y))

-- ---- limits
pub within : (e : Expr) → expression_fits e ≡ true → IsWithin e
unfolding printed_nesting
within e h =
    let two = and_parts (nat_le (operand_count e) 256) (nat_le (depths e).sum 128) h in
    let c = counted e in
    let few = leb-true (operand_count e) 256 two.0 in
    record { operands = omega (arith, c, few); nesting = leb-true (depths e).sum 128 two.1 }

pub all_within : (es : List Expr) → list_all expression_fits es ≡ true → AllWithin es
all_within [] h = tt
all_within (e ∷ es) h = let two = and_parts (expression_fits e) (list_all expression_fits es) h in (within e two.0, all_within es two.1)

module _ (d s : ℕ) (ds ss : List Range) where
  pub one_fits : (e : Expr) → expression_fits e ≡ true → has_leaves_below d s e ≡ true → has_interval ds ss e ≡ true → ExpressionFits d s e
  unfolding has_interval
  one_fits e h leaves bounds = record { within = within e h; operands = operands_fit d s ds ss e leaves bounds }

  pub all_fit : (es : List Expr) → list_all expression_fits es ≡ true → list_all (has_leaves_below d s) es ≡ true → list_all (has_interval ds ss) es ≡ true → ExpressionsFit d s es
  all_fit [] h l b = tt
  all_fit (e ∷ es) h l b =
      let hs = and_parts (expression_fits e) (list_all expression_fits es) h in
      let ls = and_parts (has_leaves_below d s e) (list_all (has_leaves_below d s) es) l in
      let bs = and_parts (has_interval ds ss e) (list_all (has_interval ds ss) es) b in
      (one_fits e hs.0 ls.0 bs.0, all_fit es hs.1 ls.1 bs.1)

pub sum_is : (es : List Expr) → operands_in es ≡ sum_by operand_count es
sum_is = is_sum_by operands_in operand_count refl (λ e es. ap (λ (n : ℕ). n + operands_in es) (counted e))
