-- The intervals of expressions, part by part.
use Rattle.std.proofs.Common.{◌≡◌, ℕ, ℤ, pos, Bool, true, false, cond, List, ◌++◌, length, get_or, refl, sym, ap, ◌∙◌, subst}
use Rattle.std.specs.Prelude.{◌||◌, Option, Some, None}
use Rattle.std.proofs.lemmas.Bool.{and_parts, ltb-true}
use Rattle.std.proofs.lemmas.List.{get_or_append_left}
use Rattle.affine_expr.specs.declared.expr.Expr.{Expr, Dim, Const, Add, Sub, fold-Expr, fold-roll-Expr, ind-Expr, map-Expr, roll-Expr}
use Rattle.affine_expr.specs.declared.expr.Expr.TheVariants.{rolls-Dim, rolls-Const, rolls-Add, rolls-Sub}
use Rattle.affine_expr.specs.declared.expr.Expr.TheOpen.{Expr-F}
use Rattle.affine_expr.specs.Bounded.{◌>>=◌, limited, bounded, bounded_step}
use Rattle.affine_expr.specs.Pure.{is_outside, has_leaves_below}
use Rattle.affine_expr.specs.Spread.{Range, Spread, only, spread, spread_step}
use Rattle.placed_intervals.specs.Fits.{Inside}

pub limited_inside : (s : Spread) → Inside s.range → limited s ≡ Some s
unfolding limited
limited_inside s h = by (is_outside s.range.least) (is_outside s.range.greatest) h.0 h.1
  where
    by : (a b : Bool) → a ≡ false → b ≡ false → (cond (a || b) None (Some s)) ≡ Some s
    by false false p q = refl
    by true b p q = absurd (let z : ⊥ = cc in z)
    by false true p q = absurd (let z : ⊥ = cc in z)

pub inside_limited : (s a : Spread) → limited s ≡ Some a → (s ≡ a) × Inside s.range
unfolding limited
inside_limited s a h = by (is_outside s.range.least) (is_outside s.range.greatest) refl refl h
  where
    by : (x y : Bool) → is_outside s.range.least ≡ x → is_outside s.range.greatest ≡ y → (cond (x || y) None (Some s)) ≡ Some a → (s ≡ a) × Inside s.range
    by false false p q k = ((let e : s ≡ a = cc in e), (p, q))
    by true y p q k = absurd (let z : ⊥ = cc in z)
    by false true p q k = absurd (let z : ⊥ = cc in z)

module _ (ds ss : List Range) where
  bounded-Dim : (n : ℕ) → bounded ds ss (Dim n) ≡ bounded_step ds ss (Expr-F.Dim n)
  unfolding bounded
  bounded-Dim n = ap (fold-Expr (Option Spread) (bounded_step ds ss)) (sym (rolls-Dim n)) ∙ fold-roll-Expr (Option Spread) (bounded_step ds ss) (Expr-F.Dim n)

  bounded-Const : (z : ℤ) → bounded ds ss (Const z) ≡ bounded_step ds ss (Expr-F.Const z)
  unfolding bounded
  bounded-Const z = ap (fold-Expr (Option Spread) (bounded_step ds ss)) (sym (rolls-Const z)) ∙ fold-roll-Expr (Option Spread) (bounded_step ds ss) (Expr-F.Const z)

  bounded-Add : (e f : Expr) → bounded ds ss (Add e f) ≡ bounded_step ds ss (Expr-F.Add (bounded ds ss e) (bounded ds ss f))
  unfolding bounded
  bounded-Add e f = ap (fold-Expr (Option Spread) (bounded_step ds ss)) (sym (rolls-Add e f)) ∙ fold-roll-Expr (Option Spread) (bounded_step ds ss) (Expr-F.Add e f)

  bounded-Sub : (e f : Expr) → bounded ds ss (Sub e f) ≡ bounded_step ds ss (Expr-F.Sub (bounded ds ss e) (bounded ds ss f))
  unfolding bounded
  bounded-Sub e f = ap (fold-Expr (Option Spread) (bounded_step ds ss)) (sym (rolls-Sub e f)) ∙ fold-roll-Expr (Option Spread) (bounded_step ds ss) (Expr-F.Sub e f)

  pub dim_is : (n : ℕ) (r : Range) → get_or ds n (only (pos 0)) ≡ r → Inside r → bounded ds ss (Dim n) ≡ Some (record { range = r; fixed = None })
  dim_is n r e h = bounded-Dim n ∙ ap (λ (x : Range). limited (record { range = x; fixed = None })) e ∙ limited_inside (record { range = r; fixed = None }) h

  pub const_is : (z : ℤ) → is_outside z ≡ false → bounded ds ss (Const z) ≡ Some (record { range = only z; fixed = Some z })
  const_is z h = bounded-Const z ∙ limited_inside (record { range = only z; fixed = Some z }) (h, h)

  pub const_of : (z : ℤ) (a : Spread) → bounded ds ss (Const z) ≡ Some a → (a.range ≡ only z) × (is_outside z ≡ false)
  const_of z a h = let k = inside_limited (record { range = only z; fixed = Some z }) a (sym (bounded-Const z) ∙ h) in (ap (λ (x : Spread). x.range) (sym k.0), k.1.0)

  pub add_is : (e f : Expr) (a b : Spread) → bounded ds ss e ≡ Some a → bounded ds ss f ≡ Some b → Inside (spread_step ds ss (Expr-F.Add a b)).range → bounded ds ss (Add e f) ≡ Some (spread_step ds ss (Expr-F.Add a b))
  add_is e f a b p q h = bounded-Add e f ∙ (λ i. bounded_step ds ss (Expr-F.Add (p i) (q i))) ∙ limited_inside (spread_step ds ss (Expr-F.Add a b)) h

  pub sub_is : (e f : Expr) (a b : Spread) → bounded ds ss e ≡ Some a → bounded ds ss f ≡ Some b → Inside (spread_step ds ss (Expr-F.Sub a b)).range → bounded ds ss (Sub e f) ≡ Some (spread_step ds ss (Expr-F.Sub a b))
  sub_is e f a b p q h = bounded-Sub e f ∙ (λ i. bounded_step ds ss (Expr-F.Sub (p i) (q i))) ∙ limited_inside (spread_step ds ss (Expr-F.Sub a b)) h

  -- what the interval of a whole says of its parts
  pub dim_of : (n : ℕ) (a : Spread) → bounded ds ss (Dim n) ≡ Some a → (a.range ≡ get_or ds n (only (pos 0))) × Inside a.range
  dim_of n a h =
      let k = inside_limited (record { range = get_or ds n (only (pos 0)); fixed = None }) a (sym (bounded-Dim n) ∙ h) in
      (ap (λ (x : Spread). x.range) (sym k.0), subst (λ (x : Spread). Inside x.range) k.0 k.1)

  pub record Parts (e f : Expr) (S : Spread → Spread → Spread) (c : Spread) : Type 0 where
    pub first : Spread
    pub second : Spread
    pub first_is : bounded ds ss e ≡ Some first
    pub second_is : bounded ds ss f ≡ Some second
    pub inside : Inside (S first second).range

  parts_by : (e f : Expr) (S : Spread → Spread → Spread) (c : Spread) (x y : Option Spread) → bounded ds ss e ≡ x → bounded ds ss f ≡ y → (x >>= (λ a. y >>= (λ b. limited (S a b)))) ≡ Some c → Parts e f S c
  parts_by e f S c None y p q h = absurd (let z : ⊥ = cc in z)
  parts_by e f S c (Some a) None p q h = absurd (let z : ⊥ = cc in z)
  parts_by e f S c (Some a) (Some b) p q h = record { first = a; second = b; first_is = p; second_is = q; inside = (inside_limited (S a b) c h).1 }

  pub add_of : (e f : Expr) (c : Spread) → bounded ds ss (Add e f) ≡ Some c → Parts e f (λ a b. spread_step ds ss (Expr-F.Add a b)) c
  add_of e f c h = parts_by e f (λ a b. spread_step ds ss (Expr-F.Add a b)) c (bounded ds ss e) (bounded ds ss f) refl refl (sym (bounded-Add e f) ∙ h)

  pub sub_of : (e f : Expr) (c : Spread) → bounded ds ss (Sub e f) ≡ Some c → Parts e f (λ a b. spread_step ds ss (Expr-F.Sub a b)) c
  sub_of e f c h = parts_by e f (λ a b. spread_step ds ss (Expr-F.Sub a b)) c (bounded ds ss e) (bounded ds ss f) refl refl (sym (bounded-Sub e f) ∙ h)

  -- ---- where all parts keep to the limits, the interval is that without limits
  abbrev IsSpread : Expr → Type 0
  IsSpread e = (a : Spread) → bounded ds ss e ≡ Some a → (spread ds ss e ≡ a) × Inside a.range

  leaf : (s a : Spread) → limited s ≡ Some a → (s ≡ a) × Inside a.range
  leaf s a h = let k = inside_limited s a h in (k.0, subst (λ (x : Spread). Inside x.range) k.0 k.1)

  one : (X : Option Spread) (x a : Spread) (S : Spread → Spread) → ((y : Spread) → X ≡ Some y → (x ≡ y) × Inside y.range) → (X >>= (λ y. limited (S y))) ≡ Some a → (S x ≡ a) × Inside a.range
  one None x a S h k = absurd (let z : ⊥ = cc in z)
  one (Some y) x a S h k = let l = leaf (S y) a k in (ap S (h y refl).0 ∙ l.0, l.1)

  two : (X Y : Option Spread) (x y a : Spread) (S : Spread → Spread → Spread) → ((z : Spread) → X ≡ Some z → (x ≡ z) × Inside z.range) → ((z : Spread) → Y ≡ Some z → (y ≡ z) × Inside z.range)
      → (X >>= (λ u. Y >>= (λ v. limited (S u v)))) ≡ Some a → (S x y ≡ a) × Inside a.range
  two None Y x y a S h j k = absurd (let z : ⊥ = cc in z)
  two (Some u) None x y a S h j k = absurd (let z : ⊥ = cc in z)
  two (Some u) (Some v) x y a S h j k = let l = leaf (S u v) a k in ((λ i. S ((h u refl).0 i) ((j v refl).0 i)) ∙ l.0, l.1)

  spread_layer : (y : Expr-F ((e : Expr) × IsSpread e)) → IsSpread (roll-Expr (map-Expr ((e : Expr) × IsSpread e) Expr (λ e. e.0) y))
  unfolding bounded spread
  spread_layer (Expr-F.Dim n) = simp fold-roll-Expr (λ a h. leaf (spread_step ds ss (Expr-F.Dim n)) a h)
  spread_layer (Expr-F.Sym n) = simp fold-roll-Expr (λ a h. leaf (spread_step ds ss (Expr-F.Sym n)) a h)
  spread_layer (Expr-F.Const z) = simp fold-roll-Expr (λ a h. leaf (spread_step ds ss (Expr-F.Const z)) a h)
  spread_layer (Expr-F.Neg x) = simp fold-roll-Expr (λ a h. one (bounded ds ss x.0) (spread ds ss x.0) a (λ u. spread_step ds ss (Expr-F.Neg u)) x.1 h)
  spread_layer (Expr-F.Add x y) = simp fold-roll-Expr (λ a h. two (bounded ds ss x.0) (bounded ds ss y.0) (spread ds ss x.0) (spread ds ss y.0) a (λ u v. spread_step ds ss (Expr-F.Add u v)) x.1 y.1 h)
  spread_layer (Expr-F.Sub x y) = simp fold-roll-Expr (λ a h. two (bounded ds ss x.0) (bounded ds ss y.0) (spread ds ss x.0) (spread ds ss y.0) a (λ u v. spread_step ds ss (Expr-F.Sub u v)) x.1 y.1 h)
  spread_layer (Expr-F.Mul x y) = simp fold-roll-Expr (λ a h. two (bounded ds ss x.0) (bounded ds ss y.0) (spread ds ss x.0) (spread ds ss y.0) a (λ u v. spread_step ds ss (Expr-F.Mul u v)) x.1 y.1 h)
  spread_layer (Expr-F.FloorDiv x y) = simp fold-roll-Expr (λ a h. two (bounded ds ss x.0) (bounded ds ss y.0) (spread ds ss x.0) (spread ds ss y.0) a (λ u v. spread_step ds ss (Expr-F.FloorDiv u v)) x.1 y.1 h)
  spread_layer (Expr-F.CeilDiv x y) = simp fold-roll-Expr (λ a h. two (bounded ds ss x.0) (bounded ds ss y.0) (spread ds ss x.0) (spread ds ss y.0) a (λ u v. spread_step ds ss (Expr-F.CeilDiv u v)) x.1 y.1 h)
  spread_layer (Expr-F.Mod x y) = simp fold-roll-Expr (λ a h. two (bounded ds ss x.0) (bounded ds ss y.0) (spread ds ss x.0) (spread ds ss y.0) a (λ u v. spread_step ds ss (Expr-F.Mod u v)) x.1 y.1 h)

  pub spread_is : (e : Expr) → IsSpread e
  spread_is = ind-Expr IsSpread (λ x y is. subst (λ z. IsSpread (roll-Expr z)) is (spread_layer y))

-- ---- more dimensions than an expression has
module _ (ds more ss : List Range) (syms : ℕ) where
  abbrev Stays : Expr → Type 0
  Stays e = has_leaves_below (length ds) syms e ≡ true → bounded (ds ++ more) ss e ≡ bounded ds ss e

  both : (x y : (e : Expr) × Stays e) (S : Expr-F (Option Spread) → Option Spread) (C : Option Spread → Option Spread → Expr-F (Option Spread)) → (has_leaves_below (length ds) syms x.0 ≡ true) × (has_leaves_below (length ds) syms y.0 ≡ true)
      → S (C (bounded (ds ++ more) ss x.0) (bounded (ds ++ more) ss y.0)) ≡ S (C (bounded ds ss x.0) (bounded ds ss y.0))
  both x y S C p = λ i. S (C (x.1 p.0 i) (y.1 p.1 i))

  stays_layer : (y : Expr-F ((e : Expr) × Stays e)) → Stays (roll-Expr (map-Expr ((e : Expr) × Stays e) Expr (λ e. e.0) y))
  unfolding has_leaves_below bounded
  stays_layer (Expr-F.Dim n) = simp fold-roll-Expr (λ h. ap (λ (r : Range). limited (record { range = r; fixed = None })) (get_or_append_left ds more (only (pos 0)) n (ltb-true n (length ds) h)))
  stays_layer (Expr-F.Sym n) = simp fold-roll-Expr (λ h. refl)
  stays_layer (Expr-F.Const z) = simp fold-roll-Expr (λ h. refl)
  stays_layer (Expr-F.Neg x) = simp fold-roll-Expr (λ h. ap (λ o. bounded_step ds ss (Expr-F.Neg o)) (x.1 h))
  stays_layer (Expr-F.Add x y) = simp fold-roll-Expr (λ h. let p = and_parts _ _ h in λ i. bounded_step ds ss (Expr-F.Add (x.1 p.0 i) (y.1 p.1 i)))
  stays_layer (Expr-F.Sub x y) = simp fold-roll-Expr (λ h. let p = and_parts _ _ h in λ i. bounded_step ds ss (Expr-F.Sub (x.1 p.0 i) (y.1 p.1 i)))
  stays_layer (Expr-F.Mul x y) = simp fold-roll-Expr (λ h. let p = and_parts _ _ h in λ i. bounded_step ds ss (Expr-F.Mul (x.1 p.0 i) (y.1 p.1 i)))
  stays_layer (Expr-F.FloorDiv x y) = simp fold-roll-Expr (λ h. let p = and_parts _ _ h in λ i. bounded_step ds ss (Expr-F.FloorDiv (x.1 p.0 i) (y.1 p.1 i)))
  stays_layer (Expr-F.CeilDiv x y) = simp fold-roll-Expr (λ h. let p = and_parts _ _ h in λ i. bounded_step ds ss (Expr-F.CeilDiv (x.1 p.0 i) (y.1 p.1 i)))
  stays_layer (Expr-F.Mod x y) = simp fold-roll-Expr (λ h. let p = and_parts _ _ h in λ i. bounded_step ds ss (Expr-F.Mod (x.1 p.0 i) (y.1 p.1 i)))

  pub stays : (e : Expr) → Stays e
  stays = ind-Expr Stays (λ x y is. subst (λ z. Stays (roll-Expr z)) is (stays_layer y))
