-- The range of each kind of expression holds its value, where the ranges of its parts hold theirs.
use Rattle.std.proofs.Common.{◌≡◌, true, ◌||◌, ℤ, pos, neg_ℤ, ◌+ℤ◌, ◌-ℤ◌, ◌*ℤ◌, ◌≤ℤ◌, ◌<ℤ◌, List, Option, Some, None, sym, ap, subst, ◌∙◌, inl, inr, arith}
use Rattle.std.specs.Prelude.{is_some}
use Rattle.std.specs.Int.{int_min, int_max}
use Rattle.std.proofs.lemmas.Int.{ints, clamps}
use Rattle.std.proofs.Math.IntN.{*ℤ_comm}
use Rattle.num_row.proofs.Order.{mul_le_right, le_or_lt}
use Rattle.affine_expr.specs.declared.expr.Expr.TheOpen.{Expr-F}
use Rattle.affine_expr.specs.Value.{floor_div, ceil_div, floor_mod}
use Rattle.affine_expr.specs.Spread.{Range, Within, Spread, scaled, range_of_product, range_of_floor, range_of_ceil, range_of_mod, both_fixed, one_fixed, spread_step}
use Rattle.affine_expr.specs.Pure.{is_positive}
use Rattle.affine_expr.proofs.Divisions.{floor_mono, ceil_mono, mod_low, mod_high, mul_turned}

-- a value that is known is the value
abbrev pub Known : Option ℤ → ℤ → Type 0
Known None z = Unit {0}
Known (Some c) z = z ≡ c

-- what a spread says of the value v of an expression, whose value without dimensions and symbols is f
pub record Sound (s : Spread) (v : ℤ) (f : Option ℤ) : Type 0 where
  pub within : Within v s.range
  pub known : Known s.fixed v
  pub same : s.fixed ≡ f

both_known : (f : ℤ → ℤ → ℤ) (x y : Option ℤ) (u v : ℤ) → Known x u → Known y v → Known (both_fixed f x y) (f u v)
both_known f None y u v h k = tt
both_known f (Some a) None u v h k = tt
both_known f (Some a) (Some b) u v h k = ap (λ t. f t v) h ∙ ap (f a) k

one_known : (f : ℤ → ℤ) (x : Option ℤ) (u : ℤ) → Known x u → Known (one_fixed f x) (f u)
one_known f None u h = tt
one_known f (Some a) u h = ap f h

both_same : (f : ℤ → ℤ → ℤ) (x y g h : Option ℤ) → x ≡ g → y ≡ h → both_fixed f x y ≡ both_fixed f g h
both_same f x y g h d e = ap (λ t. both_fixed f t y) d ∙ ap (both_fixed f g) e

module _ (ds ss : List Range) where
  pub neg_sound : (a : Spread) (u : ℤ) (f : Option ℤ) → Sound a u f → Sound (spread_step ds ss (Expr-F.Neg a)) (neg_ℤ u) (one_fixed neg_ℤ f)
  neg_sound a u f h = record {
    within = record { low = omega (arith, ints, h.within.high); high = omega (arith, ints, h.within.low) };
    known = one_known neg_ℤ a.fixed u h.known;
    same = ap (one_fixed neg_ℤ) h.same;
  }

  pub add_sound : (a b : Spread) (u v : ℤ) (f g : Option ℤ) → Sound a u f → Sound b v g → Sound (spread_step ds ss (Expr-F.Add a b)) (u +ℤ v) (both_fixed (λ x y. x +ℤ y) f g)
  add_sound a b u v f g h k = record {
    within = record { low = omega (arith, ints, h.within.low, k.within.low); high = omega (arith, ints, h.within.high, k.within.high) };
    known = both_known (λ x y. x +ℤ y) a.fixed b.fixed u v h.known k.known;
    same = both_same (λ x y. x +ℤ y) a.fixed b.fixed f g h.same k.same;
  }

  pub sub_sound : (a b : Spread) (u v : ℤ) (f g : Option ℤ) → Sound a u f → Sound b v g → Sound (spread_step ds ss (Expr-F.Sub a b)) (u -ℤ v) (both_fixed (λ x y. x -ℤ y) f g)
  sub_sound a b u v f g h k = record {
    within = record { low = omega (arith, ints, h.within.low, k.within.high); high = omega (arith, ints, h.within.high, k.within.low) };
    known = both_known (λ x y. x -ℤ y) a.fixed b.fixed u v h.known k.known;
    same = both_same (λ x y. x -ℤ y) a.fixed b.fixed f g h.same k.same;
  }

  ends : (x y z : ℤ) → x ≤ℤ z → z ≤ℤ y → Within z (record { least = int_min x y; greatest = int_max x y })
  ends x y z h k = record { low = omega (arith, ints, clamps, h, k); high = omega (arith, ints, clamps, h, k) }

  ends_turned : (x y z : ℤ) → y ≤ℤ z → z ≤ℤ x → Within z (record { least = int_min x y; greatest = int_max x y })
  ends_turned x y z h k = record { low = omega (arith, ints, clamps, h, k); high = omega (arith, ints, clamps, h, k) }

  pub scaled_within : (r : Range) (u k : ℤ) → Within u r → Within (u *ℤ k) (scaled r k)
  scaled_within r u k h = elim (le_or_lt (pos 0) k) [
    | inl l ↦ ends (r.least *ℤ k) (r.greatest *ℤ k) (u *ℤ k) (mul_le_right r.least u k h.low l) (mul_le_right u r.greatest k h.high l)
    | inr l ↦ (let m : k ≤ℤ pos 0 = omega (arith, ints, l) in ends_turned (r.least *ℤ k) (r.greatest *ℤ k) (u *ℤ k) (mul_turned u r.greatest k m h.high) (mul_turned r.least u k m h.low))
  ]

  product_by : (a b : Spread) (u v : ℤ) → Within u a.range → Within v b.range → (x y : Option ℤ) → Known x u → Known y v → (is_some x || is_some y) ≡ true → Within (u *ℤ v) (range_of_product a b x y)
  product_by a b u v h k x (Some c) m n p = subst (λ t. Within (u *ℤ t) (scaled a.range c)) (sym n) (scaled_within a.range u c h)
  product_by a b u v h k (Some c) None m n p = subst (λ t. Within t (scaled b.range c)) (*ℤ_comm v c ∙ ap (λ t. t *ℤ v) (sym m)) (scaled_within b.range v c k)
  product_by a b u v h k None None m n p = absurd (let z : ⊥ = cc in z)

  pub mul_sound : (a b : Spread) (u v : ℤ) (f g : Option ℤ) → Sound a u f → Sound b v g → (is_some f || is_some g) ≡ true → Sound (spread_step ds ss (Expr-F.Mul a b)) (u *ℤ v) (both_fixed (λ x y. x *ℤ y) f g)
  mul_sound a b u v f g h k p = record {
    within = product_by a b u v h.within k.within a.fixed b.fixed h.known k.known (ap (λ t. is_some t || is_some b.fixed) h.same ∙ ap (λ t. is_some f || is_some t) k.same ∙ p);
    known = both_known (λ x y. x *ℤ y) a.fixed b.fixed u v h.known k.known;
    same = both_same (λ x y. x *ℤ y) a.fixed b.fixed f g h.same k.same;
  }

  -- ---- divisions
  quotient : (o : ℤ → ℤ → ℤ) (range : Option ℤ → Range) (u v : ℤ) (y : Option ℤ) → Known y v → is_positive y ≡ true → ((c : ℤ) → pos 0 <ℤ c → Within (o u c) (range (Some c))) → Within (o u v) (range y)
  quotient o range u v None n p h = absurd (let z : ⊥ = cc in z)
  quotient o range u v (Some c) n p h = subst (λ t. Within (o u t) (range (Some c))) (sym n) (h c (omega (arith, ints, p)))

  pub floor_sound : (a b : Spread) (u v : ℤ) (f g : Option ℤ) → Sound a u f → Sound b v g → is_positive g ≡ true → Sound (spread_step ds ss (Expr-F.FloorDiv a b)) (floor_div u v) (both_fixed floor_div f g)
  floor_sound a b u v f g h k p = record {
    within = quotient floor_div (range_of_floor a.range) u v b.fixed k.known (ap is_positive k.same ∙ p) (λ c l. record { low = floor_mono a.range.least u c l h.within.low; high = floor_mono u a.range.greatest c l h.within.high });
    known = both_known floor_div a.fixed b.fixed u v h.known k.known;
    same = both_same floor_div a.fixed b.fixed f g h.same k.same;
  }

  pub ceil_sound : (a b : Spread) (u v : ℤ) (f g : Option ℤ) → Sound a u f → Sound b v g → is_positive g ≡ true → Sound (spread_step ds ss (Expr-F.CeilDiv a b)) (ceil_div u v) (both_fixed ceil_div f g)
  ceil_sound a b u v f g h k p = record {
    within = quotient ceil_div (range_of_ceil a.range) u v b.fixed k.known (ap is_positive k.same ∙ p) (λ c l. record { low = ceil_mono a.range.least u c l h.within.low; high = ceil_mono u a.range.greatest c l h.within.high });
    known = both_known ceil_div a.fixed b.fixed u v h.known k.known;
    same = both_same ceil_div a.fixed b.fixed f g h.same k.same;
  }

  pub mod_sound : (a b : Spread) (u v : ℤ) (f g : Option ℤ) → Sound a u f → Sound b v g → is_positive g ≡ true → Sound (spread_step ds ss (Expr-F.Mod a b)) (floor_mod u v) (both_fixed floor_mod f g)
  mod_sound a b u v f g h k p = record {
    within = quotient floor_mod (range_of_mod a.range) u v b.fixed k.known (ap is_positive k.same ∙ p) (λ c l. record { low = mod_low u c l; high = mod_high u c l });
    known = both_known floor_mod a.fixed b.fixed u v h.known k.known;
    same = both_same floor_mod a.fixed b.fixed f g h.same k.same;
  }
