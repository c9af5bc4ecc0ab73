-- An expression whose parts stay within the limits of intervals has small numbers alone. (nest_domain has the same for its own; it isn't handed out.)
use Rattle.std.proofs.Common.{◌≡◌, Bool, true, false, cond, ◌||◌, List, [], ◌∷◌, Option, Some, None, ℤ, pos, neg_ℤ, ◌+ℤ◌, ◌-ℤ◌, ◌*ℤ◌, ◌<ℤ◌, refl, sym, ap, subst, ◌∙◌, arith}
use Rattle.std.specs.Prelude.{◌&&◌, not, is_some}
use Rattle.std.proofs.lemmas.Int.{ints}
use Rattle.std.proofs.lemmas.Bool.{and_parts}
use Rattle.std.specs.List.{list_all}
use Rattle.affine_expr.specs.declared.expr.Expr.{Expr, fold-Expr, fold-roll-Expr, ind-Expr, map-Expr, roll-Expr}
use Rattle.affine_expr.specs.declared.expr.Expr.TheOpen.{Expr-F}
use Rattle.affine_expr.specs.Value.{floor_div, ceil_div, floor_mod}
use Rattle.affine_expr.specs.Spread.{Range, Within, Spread, range_of_product, range_of_floor, range_of_ceil, range_of_mod, both_fixed, one_fixed, spread_step}
use Rattle.affine_expr.specs.Pure.{is_outside, is_small, is_positive, Purity, purity_at, purity, is_pure, has_small_numbers}
use Rattle.affine_expr.specs.Bounded.{◌>>=◌, limited, bounded, bounded_step}
use Rattle.affine_expr.proofs.Limits.{is_inside, not_outside}
use Rattle.affine_expr.proofs.Ranges.{scaled_within}
use Rattle.affine_expr.proofs.Divisions.{floor_mono, ceil_mono, mod_low, mod_high}
use Rattle.affine_expr.proofs.Agreement.{Between}
use Rattle.affine_ast.specs.Rules.{has_interval}

-- what a part's spread tells of its purity
record Fine (p : Purity) (s : Spread) : Type 0 where
  small : p.small ≡ true
  same : s.fixed ≡ p.fixed
  between : Between p.fixed s.range

-- a spread within the limits
record Kept (s t : Spread) : Type 0 where
  same : s ≡ t
  least : is_outside s.range.least ≡ false
  greatest : is_outside s.range.greatest ≡ false

kept_by : (s t : Spread) (p q : Bool) → is_outside s.range.least ≡ p → is_outside s.range.greatest ≡ q → cond (p || q) None (Some s) ≡ Some t → Kept s t
kept_by s t true q e f h = absurd (let z : ⊥ = cc in z)
kept_by s t false true e f h = absurd (let z : ⊥ = cc in z)
kept_by s t false false e f h = record { same = cc; least = e; greatest = f }

kept : (s t : Spread) → limited s ≡ Some t → Kept s t
unfolding limited
kept s t h = kept_by s t (is_outside s.range.least) (is_outside s.range.greatest) refl refl h

small_between : (x : Option ℤ) (r : Range) → Between x r → is_outside r.least ≡ false → is_outside r.greatest ≡ false → is_small x ≡ true
small_between None r h a b = refl
small_between (Some v) r h a b =
    let p = is_inside r.least a in
    let q = is_inside r.greatest b in
    ap not (not_outside v (record { low = omega (arith, ints, p.low, h.low); high = omega (arith, ints, q.high, h.high) }))

both_true : (a b : Bool) → a ≡ true → b ≡ true → (a && b) ≡ true
both_true a b h k = ap (λ c. c && b) h ∙ k

fine_at : (x : Option ℤ) (pure small : Bool) (s t : Spread) → limited s ≡ Some t → small ≡ true → s.fixed ≡ x → Between x s.range → Fine (purity_at x pure small) t
fine_at x pure small s t h m e b =
    let k = kept s t h in record {
      small = both_true small (is_small x) m (small_between x s.range b k.least k.greatest);
      same = ap (λ (u : Spread). u.fixed) (sym k.same) ∙ e;
      between = subst (λ (u : Spread). Between x u.range) k.same b;
    }

fine_one : (A : Option Spread) (P : Purity) (S : Spread → Spread) (F : Option ℤ → Option ℤ) (pure : Bool) (t : Spread) → (A >>= (λ x. limited (S x))) ≡ Some t → ((x : Spread) → A ≡ Some x → Fine P x)
    → ((x : Spread) → (S x).fixed ≡ F x.fixed) → ((x : Spread) → Between x.fixed x.range → Between (F x.fixed) (S x).range) → Fine (purity_at (F P.fixed) pure P.small) t
fine_one None P S F pure t h f e k = absurd (let z : ⊥ = cc in z)
fine_one (Some x) P S F pure t h f e k =
    let m = f x refl in
    fine_at (F P.fixed) pure P.small (S x) t h m.small (e x ∙ ap F m.same) (subst (λ o. Between (F o) (S x).range) m.same (k x (subst (λ o. Between o x.range) (sym m.same) m.between)))

fine_two : (A B : Option Spread) (P Q : Purity) (S : Spread → Spread → Spread) (F : Option ℤ → Option ℤ → Option ℤ) (pure : Bool) (t : Spread) → (A >>= (λ x. B >>= (λ y. limited (S x y)))) ≡ Some t
    → ((x : Spread) → A ≡ Some x → Fine P x) → ((y : Spread) → B ≡ Some y → Fine Q y) → ((x y : Spread) → (S x y).fixed ≡ F x.fixed y.fixed)
    → ((x y : Spread) → x.fixed ≡ P.fixed → y.fixed ≡ Q.fixed → Between x.fixed x.range → Between y.fixed y.range → Between (F x.fixed y.fixed) (S x y).range)
    → Fine (purity_at (F P.fixed Q.fixed) pure (P.small && Q.small)) t
fine_two None B P Q S F pure t h f g e k = absurd (let z : ⊥ = cc in z)
fine_two (Some x) None P Q S F pure t h f g e k = absurd (let z : ⊥ = cc in z)
fine_two (Some x) (Some y) P Q S F pure t h f g e k =
    let m = f x refl in
    let n = g y refl in
    fine_at (F P.fixed Q.fixed) pure (P.small && Q.small) (S x y) t h (both_true P.small Q.small m.small n.small) (e x y ∙ ap (λ o. F o y.fixed) m.same ∙ ap (F P.fixed) n.same)
    (subst (λ o. Between (F o Q.fixed) (S x y).range) m.same (subst (λ o. Between (F x.fixed o) (S x y).range) n.same
    (k x y m.same n.same (subst (λ o. Between o x.range) (sym m.same) m.between) (subst (λ o. Between o y.range) (sym n.same) n.between))))

-- ---- the known value of each kind lies between its ends
neg_between : (x : Option ℤ) (a : Range) → Between x a → Between (one_fixed neg_ℤ x) (record { least = neg_ℤ a.greatest; greatest = neg_ℤ a.least })
neg_between None a h = tt
neg_between (Some u) a h = record { low = omega (arith, ints, h.high); high = omega (arith, ints, h.low) }

add_between : (x y : Option ℤ) (a b : Range) → Between x a → Between y b → Between (both_fixed (λ u v. u +ℤ v) x y) (record { least = a.least +ℤ b.least; greatest = a.greatest +ℤ b.greatest })
add_between None y a b h k = tt
add_between (Some u) None a b h k = tt
add_between (Some u) (Some v) a b h k = record { low = omega (arith, ints, h.low, k.low); high = omega (arith, ints, h.high, k.high) }

sub_between : (x y : Option ℤ) (a b : Range) → Between x a → Between y b → Between (both_fixed (λ u v. u -ℤ v) x y) (record { least = a.least -ℤ b.greatest; greatest = a.greatest -ℤ b.least })
sub_between None y a b h k = tt
sub_between (Some u) None a b h k = tt
sub_between (Some u) (Some v) a b h k = record { low = omega (arith, ints, h.low, k.high); high = omega (arith, ints, h.high, k.low) }

-- a product that is known has a right side that is
mul_between : (r s : Spread) (x y : Option ℤ) → Between x r.range → Between (both_fixed (λ u v. u *ℤ v) x y) (range_of_product r s x y)
mul_between r s None (Some c) h = tt
mul_between r s None None h = tt
mul_between r s (Some u) None h = tt
mul_between r s (Some u) (Some c) h = scaled_within [] [] r.range u c h

divided_between : (o : ℤ → ℤ → ℤ) (range : Range → Option ℤ → Range) (x y : Option ℤ) (a : Range) → Between x a → is_positive y ≡ true → ((c u : ℤ) → pos 0 <ℤ c → Within u a → Within (o u c) (range a (Some c)))
    → Between (both_fixed o x y) (range a y)
divided_between o range None y a h p k = tt
divided_between o range (Some u) None a h p k = tt
divided_between o range (Some u) (Some c) a h p k = k c u (omega (arith, ints, p)) h

module _ (ds ss : List Range) where
  abbrev spreads : Expr → Option Spread
  spreads = fold-Expr (Option Spread) (bounded_step ds ss)

  abbrev Small : Expr → Type 0
  Small e = (purity e).pure ≡ true → (t : Spread) → spreads e ≡ Some t → Fine (purity e) t

  one_layer : (y : Expr-F ((e : Expr) × Small e)) → Small (roll-Expr (map-Expr ((e : Expr) × Small e) Expr (λ e. e.0) y))
  one_layer (Expr-F.Dim n) = simp fold-roll-Expr (λ p t h. fine_at None true true (spread_step ds ss (Expr-F.Dim n)) t h refl refl tt)
  one_layer (Expr-F.Sym n) = simp fold-roll-Expr (λ p t h. fine_at None true true (spread_step ds ss (Expr-F.Sym n)) t h refl refl tt)
  one_layer (Expr-F.Const z) = simp fold-roll-Expr (λ p t h. fine_at (Some z) true true (spread_step ds ss (Expr-F.Const z)) t h refl refl (record { low = omega (arith, ints); high = omega (arith, ints) }))
  one_layer (Expr-F.Neg a) = simp fold-roll-Expr (λ p t h.
      fine_one (spreads a.0) (purity a.0) (λ x. spread_step ds ss (Expr-F.Neg x)) (one_fixed neg_ℤ) (purity a.0).pure t h (a.1 p) (λ x. refl) (λ x b. neg_between x.fixed x.range b))
  one_layer (Expr-F.Add a b) = simp fold-roll-Expr (λ p t h.
      let q = and_parts _ _ p in
      fine_two (spreads a.0) (spreads b.0) (purity a.0) (purity b.0) (λ x y. spread_step ds ss (Expr-F.Add x y)) (both_fixed (λ u v. u +ℤ v)) _ t h (a.1 q.0) (b.1 q.1) (λ x y. refl) (λ x y d e k m. add_between x.fixed y.fixed x.range y.range k m))
  one_layer (Expr-F.Sub a b) = simp fold-roll-Expr (λ p t h.
      let q = and_parts _ _ p in
      fine_two (spreads a.0) (spreads b.0) (purity a.0) (purity b.0) (λ x y. spread_step ds ss (Expr-F.Sub x y)) (both_fixed (λ u v. u -ℤ v)) _ t h (a.1 q.0) (b.1 q.1) (λ x y. refl) (λ x y d e k m. sub_between x.fixed y.fixed x.range y.range k m))
  one_layer (Expr-F.Mul a b) = simp fold-roll-Expr (λ p t h.
      let r = and_parts _ _ p in
      let q = and_parts _ _ r.0 in
      fine_two (spreads a.0) (spreads b.0) (purity a.0) (purity b.0) (λ x y. spread_step ds ss (Expr-F.Mul x y)) (both_fixed (λ u v. u *ℤ v)) _ t h (a.1 q.0) (b.1 q.1) (λ x y. refl) (λ x y d e k m. mul_between x y x.fixed y.fixed k))
  one_layer (Expr-F.FloorDiv a b) = simp fold-roll-Expr (λ p t h.
      let r = and_parts _ _ p in
      let q = and_parts _ _ r.0 in
      fine_two (spreads a.0) (spreads b.0) (purity a.0) (purity b.0) (λ x y. spread_step ds ss (Expr-F.FloorDiv x y)) (both_fixed floor_div) _ t h (a.1 q.0) (b.1 q.1) (λ x y. refl)
      (λ x y d e k m. divided_between floor_div range_of_floor x.fixed y.fixed x.range k (ap is_positive e ∙ r.1) (λ c u l w. record { low = floor_mono x.range.least u c l w.low; high = floor_mono u x.range.greatest c l w.high })))
  one_layer (Expr-F.CeilDiv a b) = simp fold-roll-Expr (λ p t h.
      let r = and_parts _ _ p in
      let q = and_parts _ _ r.0 in
      fine_two (spreads a.0) (spreads b.0) (purity a.0) (purity b.0) (λ x y. spread_step ds ss (Expr-F.CeilDiv x y)) (both_fixed ceil_div) _ t h (a.1 q.0) (b.1 q.1) (λ x y. refl)
      (λ x y d e k m. divided_between ceil_div range_of_ceil x.fixed y.fixed x.range k (ap is_positive e ∙ r.1) (λ c u l w. record { low = ceil_mono x.range.least u c l w.low; high = ceil_mono u x.range.greatest c l w.high })))
  one_layer (Expr-F.Mod a b) = simp fold-roll-Expr (λ p t h.
      let r = and_parts _ _ p in
      let q = and_parts _ _ r.0 in
      fine_two (spreads a.0) (spreads b.0) (purity a.0) (purity b.0) (λ x y. spread_step ds ss (Expr-F.Mod x y)) (both_fixed floor_mod) _ t h (a.1 q.0) (b.1 q.1) (λ x y. refl)
      (λ x y d e k m. divided_between floor_mod range_of_mod x.fixed y.fixed x.range k (ap is_positive e ∙ r.1) (λ c u l w. record { low = mod_low u c l; high = mod_high u c l })))

  small_of : (e : Expr) → Small e
  small_of = ind-Expr Small (λ x y is. subst (λ z. Small (roll-Expr z)) is (one_layer y))

  there : (e : Expr) (o : Option Spread) → spreads e ≡ o → is_some o ≡ true → is_pure e ≡ true → has_small_numbers e ≡ true
  unfolding is_pure has_small_numbers
  there e None h s p = absurd (let z : ⊥ = cc in z)
  there e (Some t) h s p = (small_of e p t h).small

  -- the numbers of a pure expression that has an interval are small
  pub interval_small : (e : Expr) → is_pure e ≡ true → has_interval ds ss e ≡ true → has_small_numbers e ≡ true
  unfolding has_interval bounded
  interval_small e p h = there e (spreads e) refl h p

  pub results_small : (es : List Expr) → list_all is_pure es ≡ true → list_all (has_interval ds ss) es ≡ true → list_all has_small_numbers es ≡ true
  results_small [] p h = refl
  results_small (e ∷ es) p h =
      let a = and_parts (is_pure e) (list_all is_pure es) p in
      let b = and_parts (has_interval ds ss e) (list_all (has_interval ds ss) es) h in
      both_true (has_small_numbers e) (list_all has_small_numbers es) (interval_small e a.0 b.0) (results_small es a.1 b.1)
