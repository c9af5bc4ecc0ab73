-- Expressions of a bound behind the loop's variable, and sums of them, keep their leaves and stay pure.
use Rattle.std.proofs.Common.{◌≡◌, ℕ, ◌+◌, ◌<◌, ℤ, pos, neg_ℤ, refl, sym, ap, ◌∙◌, subst, arith, Bool, true, false}
use Rattle.std.specs.Prelude.{◌&&◌, Option, Some, None, int_lt, if◌then◌else◌}
use Rattle.std.specs.Ordering.{int_eq}
use Rattle.std.proofs.lemmas.Bool.{and_parts, ltb-true, lt-ltb}
use Rattle.affine_expr.specs.declared.expr.Expr.{Expr, Const, Add, Sub, fold-Expr, fold-roll-Expr, ind-Expr, map-Expr, roll-Expr}
use Rattle.affine_expr.specs.declared.expr.Expr.TheVariants.{rolls-Add}
use Rattle.affine_expr.specs.declared.expr.Expr.TheOpen.{Expr-F}
use Rattle.affine_expr.specs.Pure.{Purity, purity_step, purity, is_pure, has_leaves_below, leaves_step}
use Rattle.loop_forms.specs.Split.{leaf_behind, behind}
use Rattle.loop_forms.specs.Sums.{number_of, sum_by, sum_of}
use Rattle.placement_texts.proofs.ScopedRedirect.{leaves-Const, leaves-Sub}
use Rattle.placement_texts.proofs.ScopedAccess.{pure-Const, pure-Sub}
use Rattle.ring_validity.proofs.Places.{leaves-Add, pure-Add}

module _ (d s : ℕ) where
  abbrev moved : Expr-F Expr → Expr
  moved x = roll-Expr (leaf_behind d s x)

  -- ---- leaves
  module _ (a b : ℕ) where
    abbrev Leaves : Expr → Type 0
    Leaves e = has_leaves_below a b e ≡ true → has_leaves_below (d + a) (s + b) (behind d s e) ≡ true

    abbrev step : Expr-F Bool → Bool
    step = leaves_step (d + a) (s + b)

    one_leaf : (x : Expr-F Expr) → has_leaves_below (d + a) (s + b) (behind d s (roll-Expr x)) ≡ step (map-Expr Expr Bool (has_leaves_below (d + a) (s + b)) (leaf_behind d s (map-Expr Expr Expr (behind d s) x)))
    unfolding has_leaves_below behind
    one_leaf x = ap (fold-Expr Bool step) (fold-roll-Expr Expr moved x) ∙ fold-roll-Expr Bool step (leaf_behind d s (map-Expr Expr Expr (behind d s) x))

    old : (x : Expr-F Expr) → has_leaves_below a b (roll-Expr x) ≡ true → leaves_step a b (map-Expr Expr Bool (has_leaves_below a b) x) ≡ true
    unfolding has_leaves_below
    old x h = sym (fold-roll-Expr Bool (leaves_step a b) x) ∙ h

    two : (x y x' y' : Bool) → (x ≡ true → x' ≡ true) → (y ≡ true → y' ≡ true) → (x && y) ≡ true → (x' && y') ≡ true
    two x y x' y' h j e = let p = and_parts x y e in λ i. h p.0 i && j p.1 i

    leaves_layer : (y : Expr-F ((e : Expr) × Leaves e)) → Leaves (roll-Expr (map-Expr ((e : Expr) × Leaves e) Expr (λ e. e.0) y))
    leaves_layer (Expr-F.Dim k) h = let l = ltb-true k a (old (Expr-F.Dim k) h) in one_leaf (Expr-F.Dim k) ∙ lt-ltb (d + k) (d + a) (omega (arith, l))
    leaves_layer (Expr-F.Sym k) h = let l = ltb-true k b (old (Expr-F.Sym k) h) in one_leaf (Expr-F.Sym k) ∙ lt-ltb (s + k) (s + b) (omega (arith, l))
    leaves_layer (Expr-F.Const z) h = one_leaf (Expr-F.Const z)
    leaves_layer (Expr-F.Neg x) h = one_leaf (Expr-F.Neg x.0) ∙ x.1 (old (Expr-F.Neg x.0) h)
    leaves_layer (Expr-F.Add x y) h = one_leaf (Expr-F.Add x.0 y.0) ∙ two _ _ _ _ x.1 y.1 (old (Expr-F.Add x.0 y.0) h)
    leaves_layer (Expr-F.Sub x y) h = one_leaf (Expr-F.Sub x.0 y.0) ∙ two _ _ _ _ x.1 y.1 (old (Expr-F.Sub x.0 y.0) h)
    leaves_layer (Expr-F.Mul x y) h = one_leaf (Expr-F.Mul x.0 y.0) ∙ two _ _ _ _ x.1 y.1 (old (Expr-F.Mul x.0 y.0) h)
    leaves_layer (Expr-F.FloorDiv x y) h = one_leaf (Expr-F.FloorDiv x.0 y.0) ∙ two _ _ _ _ x.1 y.1 (old (Expr-F.FloorDiv x.0 y.0) h)
    leaves_layer (Expr-F.CeilDiv x y) h = one_leaf (Expr-F.CeilDiv x.0 y.0) ∙ two _ _ _ _ x.1 y.1 (old (Expr-F.CeilDiv x.0 y.0) h)
    leaves_layer (Expr-F.Mod x y) h = one_leaf (Expr-F.Mod x.0 y.0) ∙ two _ _ _ _ x.1 y.1 (old (Expr-F.Mod x.0 y.0) h)

    pub behind_leaves : (e : Expr) → Leaves e
    behind_leaves = ind-Expr Leaves (λ x y is. subst (λ z. Leaves (roll-Expr z)) is (leaves_layer y))

  -- ---- purity
  abbrev Pure : Expr → Type 0
  Pure e = purity (behind d s e) ≡ purity e

  abbrev read : Expr-F Expr → Purity
  read x = purity_step (map-Expr Expr Purity purity x)

  one_pure : (x : Expr-F Expr) → purity (behind d s (roll-Expr x)) ≡ read (leaf_behind d s (map-Expr Expr Expr (behind d s) x))
  unfolding behind
  one_pure x = ap purity (fold-roll-Expr Expr moved x) ∙ fold-roll-Expr Purity purity_step (leaf_behind d s (map-Expr Expr Expr (behind d s) x))

  was : (x : Expr-F Expr) → read x ≡ purity (roll-Expr x)
  was x = sym (fold-roll-Expr Purity purity_step x)

  both : (f : Purity → Purity → Purity) (a b x y : Purity) → a ≡ x → b ≡ y → f a b ≡ f x y
  both f a b x y h k = λ i. f (h i) (k i)

  pure_layer : (y : Expr-F ((e : Expr) × Pure e)) → Pure (roll-Expr (map-Expr ((e : Expr) × Pure e) Expr (λ e. e.0) y))
  pure_layer (Expr-F.Dim k) = one_pure (Expr-F.Dim k) ∙ was (Expr-F.Dim k)
  pure_layer (Expr-F.Sym k) = one_pure (Expr-F.Sym k) ∙ was (Expr-F.Sym k)
  pure_layer (Expr-F.Const z) = one_pure (Expr-F.Const z) ∙ was (Expr-F.Const z)
  pure_layer (Expr-F.Neg x) = one_pure (Expr-F.Neg x.0) ∙ ap (λ p. purity_step (Expr-F.Neg p)) x.1 ∙ was (Expr-F.Neg x.0)
  pure_layer (Expr-F.Add x y) = one_pure (Expr-F.Add x.0 y.0) ∙ both (λ p q. purity_step (Expr-F.Add p q)) _ _ _ _ x.1 y.1 ∙ was (Expr-F.Add x.0 y.0)
  pure_layer (Expr-F.Sub x y) = one_pure (Expr-F.Sub x.0 y.0) ∙ both (λ p q. purity_step (Expr-F.Sub p q)) _ _ _ _ x.1 y.1 ∙ was (Expr-F.Sub x.0 y.0)
  pure_layer (Expr-F.Mul x y) = one_pure (Expr-F.Mul x.0 y.0) ∙ both (λ p q. purity_step (Expr-F.Mul p q)) _ _ _ _ x.1 y.1 ∙ was (Expr-F.Mul x.0 y.0)
  pure_layer (Expr-F.FloorDiv x y) = one_pure (Expr-F.FloorDiv x.0 y.0) ∙ both (λ p q. purity_step (Expr-F.FloorDiv p q)) _ _ _ _ x.1 y.1 ∙ was (Expr-F.FloorDiv x.0 y.0)
  pure_layer (Expr-F.CeilDiv x y) = one_pure (Expr-F.CeilDiv x.0 y.0) ∙ both (λ p q. purity_step (Expr-F.CeilDiv p q)) _ _ _ _ x.1 y.1 ∙ was (Expr-F.CeilDiv x.0 y.0)
  pure_layer (Expr-F.Mod x y) = one_pure (Expr-F.Mod x.0 y.0) ∙ both (λ p q. purity_step (Expr-F.Mod p q)) _ _ _ _ x.1 y.1 ∙ was (Expr-F.Mod x.0 y.0)

  same_purity : (e : Expr) → Pure e
  same_purity = ind-Expr Pure (λ x y is. subst (λ z. Pure (roll-Expr z)) is (pure_layer y))

  pub behind_pure : (e : Expr) → is_pure e ≡ true → is_pure (behind d s e) ≡ true
  unfolding is_pure
  behind_pure e h = ap (λ (p : Purity). p.pure) (same_purity e) ∙ h

-- ---- sums
pub sum_leaves : (d s : ℕ) (a b : Expr) → has_leaves_below d s a ≡ true → has_leaves_below d s b ≡ true → has_leaves_below d s (sum_of a b) ≡ true
sum_leaves d s a b h k = by (number_of a) (number_of b)
  where
    added : has_leaves_below d s (Add a b) ≡ true
    added = leaves-Add d s a b ∙ (λ i. h i && k i)

    less : (z : ℤ) → has_leaves_below d s (Sub a (Const z)) ≡ true
    less z = leaves-Sub d s a (Const z) ∙ (λ i. h i && leaves-Const d s z i)

    of : (c : Bool) (x y : Expr) → has_leaves_below d s x ≡ true → has_leaves_below d s y ≡ true → has_leaves_below d s (if c then x else y) ≡ true
    of true x y m n = m
    of false x y m n = n

    by : (x y : Option ℤ) → has_leaves_below d s (sum_by x y a b) ≡ true
    by (Some x) (Some y) = leaves-Const d s _
    by (Some x) None = of (int_eq x (pos 0)) b (Add a b) k added
    by None (Some y) = of (int_eq y (pos 0)) a _ h (of (int_lt y (pos 0)) (Sub a (Const (neg_ℤ y))) (Add a b) (less (neg_ℤ y)) added)
    by None None = added

pub sum_pure : (a b : Expr) → is_pure a ≡ true → is_pure b ≡ true → is_pure (sum_of a b) ≡ true
sum_pure a b h k = by (number_of a) (number_of b)
  where
    added : is_pure (Add a b) ≡ true
    added = pure-Add a b ∙ (λ i. h i && k i)

    less : (z : ℤ) → is_pure (Sub a (Const z)) ≡ true
    less z = pure-Sub a (Const z) ∙ (λ i. h i && pure-Const z i)

    of : (c : Bool) (x y : Expr) → is_pure x ≡ true → is_pure y ≡ true → is_pure (if c then x else y) ≡ true
    of true x y m n = m
    of false x y m n = n

    by : (x y : Option ℤ) → is_pure (sum_by x y a b) ≡ true
    by (Some x) (Some y) = pure-Const _
    by (Some x) None = of (int_eq x (pos 0)) b (Add a b) k added
    by None (Some y) = of (int_eq y (pos 0)) a _ h (of (int_lt y (pos 0)) (Sub a (Const (neg_ℤ y))) (Add a b) (less (neg_ℤ y)) added)
    by None None = added
