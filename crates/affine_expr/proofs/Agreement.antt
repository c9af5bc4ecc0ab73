-- The spans that are found level by level are the bounded spreads of a pure expression.
use Rattle.std.proofs.Common.{◌≡◌, ℕ, zero, suc, ◌<◌, Bool, true, false, cond, ◌||◌, ℤ, pos, neg_ℤ, ◌+ℤ◌, ◌-ℤ◌, ◌*ℤ◌, ◌<ℤ◌, int_lt, List, [], ◌∷◌, length, get_or, Option, Some, None, refl, sym, ap, subst, ◌∙◌, arith}
use Rattle.std.specs.Prelude.{is_some, slice_get}
use Rattle.std.proofs.lemmas.Int.{ints}
use Rattle.std.proofs.lemmas.Bool.{and_parts, ltb-true}
use Rattle.affine_expr.specs.declared.map.Interval.{Interval}
use Rattle.affine_expr.specs.declared.interval.Span.{Span}
use Rattle.affine_expr.specs.declared.expr.Expr.{Expr, fold-Expr, fold-roll-Expr, ind-Expr, map-Expr, roll-Expr}
use Rattle.affine_expr.specs.declared.expr.Expr.TheOpen.{Expr-F}
use Rattle.affine_expr.specs.Value.{floor_div, ceil_div, floor_mod}
use Rattle.affine_expr.specs.Spread.{Range, Within, Spread, only, scaled as scaled_range, range_of_product, range_of_floor, range_of_ceil, range_of_mod, both_fixed, one_fixed, spread_step}
use Rattle.affine_expr.specs.Pure.{is_outside, is_positive, purity, is_pure, has_leaves_below}
use Rattle.affine_expr.specs.Bounded.{◌>>=◌, limited, bounded, bounded_step, ranges, range_at, shown, interval_of}
use Rattle.affine_expr.specs.Guarded.{small}
use Rattle.affine_expr.specs.Spans.{spread_of, small_fixed, spanned, span_at, negated, added, taken, scaled, times_by, times, by_divisor, floored, ceiled, reduced, leaf, span_of, interval_at}
use Rattle.affine_expr.proofs.Limits.{IsInside, is_inside, not_outside, small_is}
use Rattle.affine_expr.proofs.Ranges.{scaled_within}
use Rattle.affine_expr.proofs.Divisions.{floor_mono, ceil_mono, mod_low, mod_high}

-- a value that is known lies between the ends
abbrev pub Between : Option ℤ → Range → Type 0
Between None r = Unit {0}
Between (Some v) r = Within v r

-- a span o stands for the spread b, whose known value is f
pub record Stands (s : Span) (b : Option Spread) (f : Option ℤ) : Type 0 where
  pub same : b ≡ Some (spread_of s)
  pub known : s.fixed ≡ f
  pub between : Between s.fixed (spread_of s).range

abbrev pub Agrees : Option Span → Option Spread → Option ℤ → Type 0
Agrees None b f = b ≡ None
Agrees (Some s) b f = Stands s b f

-- ---- a spread whose ends are inside the limits is a span
fixed_small : (fixed : Option ℤ) (r : Range) → Between fixed r → is_outside r.least ≡ false → is_outside r.greatest ≡ false → small_fixed fixed ≡ Some fixed
fixed_small None r h a b = refl
fixed_small (Some v) r h a b =
    let p = is_inside r.least a in
    let q = is_inside r.greatest b in
    let k : IsInside v = record { low = omega (arith, ints, p.low, h.low); high = omega (arith, ints, q.high, h.high) } in
    ap (λ t. t >>= (λ x. Some (Some x))) (small_is v (not_outside v k))

span_by : (s : Spread) → Between s.fixed s.range → (p q : Bool) → is_outside s.range.least ≡ p → is_outside s.range.greatest ≡ q
    → Agrees (cond p None (Some s.range.least) >>= (λ l. cond q None (Some s.range.greatest) >>= (λ g. small_fixed s.fixed >>= (λ f. Some (record { least = l; greatest = g; fixed = f }))))) (cond (p || q) None (Some s)) s.fixed
span_by s h true q d e = refl
span_by s h false true d e = refl
span_by s h false false d e =
    subst (λ o. Agrees (o >>= (λ f. Some (record { least = s.range.least; greatest = s.range.greatest; fixed = f }))) (Some s) s.fixed) (sym (fixed_small s.fixed s.range h d e)) (record { same = refl; known = refl; between = h })

span_agrees : (s : Spread) → Between s.fixed s.range → Agrees (span_at s) (limited s) s.fixed
unfolding spanned small limited
span_agrees s h = span_by s h (is_outside s.range.least) (is_outside s.range.greatest) refl refl

-- ---- one level above parts that agree
agree_one : (x : Option Span) (X : Option Spread) (f : Option ℤ) (op : Span → Option Span) (S : Spread → Spread) (F : Option ℤ → Option ℤ) → Agrees x X f
    → ((r : Span) → Between r.fixed (spread_of r).range → r.fixed ≡ f → Agrees (op r) (limited (S (spread_of r))) (F r.fixed))
    → Agrees (x >>= op) (X >>= (λ a. limited (S a))) (F f)
agree_one None X f op S F h k = ap (λ o. o >>= (λ a. limited (S a))) h
agree_one (Some r) X f op S F h k =
    subst (λ g. Agrees (op r) (X >>= (λ a. limited (S a))) (F g)) h.known
    (subst (λ o. Agrees (op r) (o >>= (λ a. limited (S a))) (F r.fixed)) (sym h.same) (k r h.between h.known))

agree_two : (x y : Option Span) (X Y : Option Spread) (f g : Option ℤ) (op : Span → Span → Option Span) (S : Spread → Spread → Spread) (F : Option ℤ → Option ℤ → Option ℤ) → Agrees x X f → Agrees y Y g
    → ((r s : Span) → Between r.fixed (spread_of r).range → Between s.fixed (spread_of s).range → r.fixed ≡ f → s.fixed ≡ g → Agrees (op r s) (limited (S (spread_of r) (spread_of s))) (F r.fixed s.fixed))
    → Agrees (x >>= (λ r. y >>= (λ s. op r s))) (X >>= (λ a. Y >>= (λ b. limited (S a b)))) (F f g)
agree_two None y X Y f g op S F h k m = ap (λ o. o >>= (λ a. Y >>= (λ b. limited (S a b)))) h
agree_two (Some r) None X Y f g op S F h k m = ap (λ o. o >>= (λ a. Y >>= (λ b. limited (S a b)))) h.same ∙ ap (λ o. o >>= (λ b. limited (S (spread_of r) b))) k
agree_two (Some r) (Some s) X Y f g op S F h k m =
    subst (λ t. Agrees (op r s) (X >>= (λ a. Y >>= (λ b. limited (S a b)))) (F t g)) h.known
    (subst (λ t. Agrees (op r s) (X >>= (λ a. Y >>= (λ b. limited (S a b)))) (F r.fixed t)) k.known
    (subst (λ o. Agrees (op r s) (o >>= (λ a. Y >>= (λ b. limited (S a b)))) (F r.fixed s.fixed)) (sym h.same)
    (subst (λ o. Agrees (op r s) (o >>= (λ b. limited (S (spread_of r) b))) (F r.fixed s.fixed)) (sym k.same) (m r s h.between k.between h.known k.known))))

-- ---- the known value of each kind lies between its ends
neg_between : (x : Option ℤ) (a : Range) → Between x a → Between (one_fixed neg_ℤ x) (record { least = neg_ℤ a.greatest; greatest = neg_ℤ a.least })
neg_between None a h = tt
neg_between (Some u) a h = record { low = omega (arith, ints, h.high); high = omega (arith, ints, h.low) }

add_between : (x y : Option ℤ) (a b : Range) → Between x a → Between y b → Between (both_fixed (λ u v. u +ℤ v) x y) (record { least = a.least +ℤ b.least; greatest = a.greatest +ℤ b.greatest })
add_between None y a b h k = tt
add_between (Some u) None a b h k = tt
add_between (Some u) (Some v) a b h k = record { low = omega (arith, ints, h.low, k.low); high = omega (arith, ints, h.high, k.high) }

sub_between : (x y : Option ℤ) (a b : Range) → Between x a → Between y b → Between (both_fixed (λ u v. u -ℤ v) x y) (record { least = a.least -ℤ b.greatest; greatest = a.greatest -ℤ b.least })
sub_between None y a b h k = tt
sub_between (Some u) None a b h k = tt
sub_between (Some u) (Some v) a b h k = record { low = omega (arith, ints, h.low, k.high); high = omega (arith, ints, h.high, k.low) }

mul_between : (x : Option ℤ) (a : Range) (c : ℤ) → Between x a → Between (both_fixed (λ u v. u *ℤ v) x (Some c)) (scaled_range a c)
mul_between None a c h = tt
mul_between (Some u) a c h = scaled_within [] [] a u c h

div_between : (o : ℤ → ℤ → ℤ) (x : Option ℤ) (c : ℤ) (a b : Range) → Between x a → ((u : ℤ) → Within u a → Within (o u c) b) → Between (both_fixed o x (Some c)) b
div_between o None c a b h k = tt
div_between o (Some u) c a b h k = k u h

-- ---- products and divisions
times_by_agrees : (r s : Span) (x y : Option ℤ) → Between x (spread_of r).range → (is_some x || is_some y) ≡ true
    → Agrees (times_by r s x y (both_fixed (λ u v. u *ℤ v) x y)) (limited (record { range = range_of_product (spread_of r) (spread_of s) x y; fixed = both_fixed (λ u v. u *ℤ v) x y })) (both_fixed (λ u v. u *ℤ v) x y)
unfolding scaled
times_by_agrees r s x (Some c) h p = span_agrees (record { range = scaled_range (spread_of r).range c; fixed = both_fixed (λ u v. u *ℤ v) x (Some c) }) (mul_between x (spread_of r).range c h)
times_by_agrees r s (Some c) None h p = span_agrees (record { range = scaled_range (spread_of s).range c; fixed = None }) tt
times_by_agrees r s None None h p = absurd (let z : ⊥ = cc in z)

times_agrees : (r s : Span) → Between r.fixed (spread_of r).range → (is_some r.fixed || is_some s.fixed) ≡ true
    → Agrees (times r s) (limited (spread_step [] [] (Expr-F.Mul (spread_of r) (spread_of s)))) (both_fixed (λ u v. u *ℤ v) r.fixed s.fixed)
unfolding times
times_agrees r s h p = times_by_agrees r s r.fixed s.fixed h p

done_by : (o : Option Span) (b : Option Spread) (f : Option ℤ) (c : ℤ) (t : Bool) → t ≡ true → Agrees o b f → Agrees (cond t o None) b f
done_by o b f c true e h = h
done_by o b f c false e h = absurd (let z : ⊥ = cc in z)

divided_by : (d : ℤ → ℤ → ℤ) (range : Range → Option ℤ → Range) (r : Span) (y : Option ℤ) → Between r.fixed (spread_of r).range → is_positive y ≡ true
    → ((c u : ℤ) → pos 0 <ℤ c → Within u (spread_of r).range → Within (d u c) (range (spread_of r).range (Some c)))
    → Agrees (by_divisor (span_at (record { range = range (spread_of r).range y; fixed = both_fixed d r.fixed y })) y) (limited (record { range = range (spread_of r).range y; fixed = both_fixed d r.fixed y })) (both_fixed d r.fixed y)
divided_by d range r None h p k = absurd (let z : ⊥ = cc in z)
divided_by d range r (Some c) h p k =
    let l : pos 0 <ℤ c = omega (arith, ints, p) in
    done_by _ _ _ c (int_lt (pos 0) c) p (span_agrees (record { range = range (spread_of r).range (Some c); fixed = both_fixed d r.fixed (Some c) }) (div_between d r.fixed c (spread_of r).range _ h (λ u w. k c u l w)))

floored_agrees : (r s : Span) → Between r.fixed (spread_of r).range → is_positive s.fixed ≡ true → Agrees (floored r s) (limited (spread_step [] [] (Expr-F.FloorDiv (spread_of r) (spread_of s)))) (both_fixed floor_div r.fixed s.fixed)
unfolding floored
floored_agrees r s h p = divided_by floor_div range_of_floor r s.fixed h p (λ c u l w. record { low = floor_mono r.least u c l w.low; high = floor_mono u r.greatest c l w.high })

ceiled_agrees : (r s : Span) → Between r.fixed (spread_of r).range → is_positive s.fixed ≡ true → Agrees (ceiled r s) (limited (spread_step [] [] (Expr-F.CeilDiv (spread_of r) (spread_of s)))) (both_fixed ceil_div r.fixed s.fixed)
unfolding ceiled
ceiled_agrees r s h p = divided_by ceil_div range_of_ceil r s.fixed h p (λ c u l w. record { low = ceil_mono r.least u c l w.low; high = ceil_mono u r.greatest c l w.high })

reduced_agrees : (r s : Span) → Between r.fixed (spread_of r).range → is_positive s.fixed ≡ true → Agrees (reduced r s) (limited (spread_step [] [] (Expr-F.Mod (spread_of r) (spread_of s)))) (both_fixed floor_mod r.fixed s.fixed)
unfolding reduced
reduced_agrees r s h p = divided_by floor_mod range_of_mod r s.fixed h p (λ c u l w. record { low = mod_low u c l; high = mod_high u c l })

-- ---- leaves
leaf_agrees : (is : List Interval) (n : ℕ) → n < length is → Agrees (leaf (slice_get is n)) (limited (record { range = get_or (ranges is) n (only (pos 0)); fixed = None })) None
leaf_agrees [] n h = absurd (omega arith)
leaf_agrees (i ∷ is) zero h = span_agrees (record { range = range_at i; fixed = None }) tt
leaf_agrees (i ∷ is) (suc n) h = leaf_agrees is n (omega arith)

module _ (is js : List Interval) where
  abbrev pub Finds : Expr → Type 0
  Finds e = (purity e).pure ≡ true → has_leaves_below (length is) (length js) e ≡ true → Agrees (span_of is js e) (bounded (ranges is) (ranges js) e) (purity e).fixed

  one_layer : (y : Expr-F ((e : Expr) × Finds e)) → Finds (roll-Expr (map-Expr ((e : Expr) × Finds e) Expr (λ e. e.0) y))
  unfolding has_leaves_below bounded negated added taken
  one_layer (Expr-F.Dim n) = simp fold-roll-Expr (λ p l. leaf_agrees is n (ltb-true n (length is) l))
  one_layer (Expr-F.Sym n) = simp fold-roll-Expr (λ p l. leaf_agrees js n (ltb-true n (length js) l))
  one_layer (Expr-F.Const z) = simp fold-roll-Expr (λ p l. span_agrees (record { range = only z; fixed = Some z }) (record { low = omega (arith, ints); high = omega (arith, ints) }))
  one_layer (Expr-F.Neg a) = simp fold-roll-Expr (λ p l.
      agree_one (span_of is js a.0) (fold-Expr (Option Spread) (bounded_step (ranges is) (ranges js)) a.0) (purity a.0).fixed negated (λ x. spread_step (ranges is) (ranges js) (Expr-F.Neg x)) (one_fixed neg_ℤ) (a.1 p l)
      (λ r h e. span_agrees (spread_step [] [] (Expr-F.Neg (spread_of r))) (neg_between r.fixed (spread_of r).range h)))
  one_layer (Expr-F.Add a b) = simp fold-roll-Expr (λ p l.
      let q = and_parts _ _ p in
      let m = and_parts _ _ l in
      agree_two (span_of is js a.0) (span_of is js b.0) (fold-Expr (Option Spread) (bounded_step (ranges is) (ranges js)) a.0) (fold-Expr (Option Spread) (bounded_step (ranges is) (ranges js)) b.0) (purity a.0).fixed (purity b.0).fixed
      added (λ x y. spread_step (ranges is) (ranges js) (Expr-F.Add x y)) (both_fixed (λ u v. u +ℤ v)) (a.1 q.0 m.0) (b.1 q.1 m.1)
      (λ r s h k d e. span_agrees (spread_step [] [] (Expr-F.Add (spread_of r) (spread_of s))) (add_between r.fixed s.fixed (spread_of r).range (spread_of s).range h k)))
  one_layer (Expr-F.Sub a b) = simp fold-roll-Expr (λ p l.
      let q = and_parts _ _ p in
      let m = and_parts _ _ l in
      agree_two (span_of is js a.0) (span_of is js b.0) (fold-Expr (Option Spread) (bounded_step (ranges is) (ranges js)) a.0) (fold-Expr (Option Spread) (bounded_step (ranges is) (ranges js)) b.0) (purity a.0).fixed (purity b.0).fixed
      taken (λ x y. spread_step (ranges is) (ranges js) (Expr-F.Sub x y)) (both_fixed (λ u v. u -ℤ v)) (a.1 q.0 m.0) (b.1 q.1 m.1)
      (λ r s h k d e. span_agrees (spread_step [] [] (Expr-F.Sub (spread_of r) (spread_of s))) (sub_between r.fixed s.fixed (spread_of r).range (spread_of s).range h k)))
  one_layer (Expr-F.Mul a b) = simp fold-roll-Expr (λ p l.
      let t = and_parts _ _ p in
      let q = and_parts _ _ t.0 in
      let m = and_parts _ _ l in
      agree_two (span_of is js a.0) (span_of is js b.0) (fold-Expr (Option Spread) (bounded_step (ranges is) (ranges js)) a.0) (fold-Expr (Option Spread) (bounded_step (ranges is) (ranges js)) b.0) (purity a.0).fixed (purity b.0).fixed
      times (λ x y. spread_step (ranges is) (ranges js) (Expr-F.Mul x y)) (both_fixed (λ u v. u *ℤ v)) (a.1 q.0 m.0) (b.1 q.1 m.1)
      (λ r s h k d e. times_agrees r s h (ap (λ w. is_some w || is_some s.fixed) d ∙ ap (λ w. is_some (purity a.0).fixed || is_some w) e ∙ t.1)))
  one_layer (Expr-F.FloorDiv a b) = simp fold-roll-Expr (λ p l.
      let t = and_parts _ _ p in
      let q = and_parts _ _ t.0 in
      let m = and_parts _ _ l in
      agree_two (span_of is js a.0) (span_of is js b.0) (fold-Expr (Option Spread) (bounded_step (ranges is) (ranges js)) a.0) (fold-Expr (Option Spread) (bounded_step (ranges is) (ranges js)) b.0) (purity a.0).fixed (purity b.0).fixed
      floored (λ x y. spread_step (ranges is) (ranges js) (Expr-F.FloorDiv x y)) (both_fixed floor_div) (a.1 q.0 m.0) (b.1 q.1 m.1)
      (λ r s h k d e. floored_agrees r s h (ap is_positive e ∙ t.1)))
  one_layer (Expr-F.CeilDiv a b) = simp fold-roll-Expr (λ p l.
      let t = and_parts _ _ p in
      let q = and_parts _ _ t.0 in
      let m = and_parts _ _ l in
      agree_two (span_of is js a.0) (span_of is js b.0) (fold-Expr (Option Spread) (bounded_step (ranges is) (ranges js)) a.0) (fold-Expr (Option Spread) (bounded_step (ranges is) (ranges js)) b.0) (purity a.0).fixed (purity b.0).fixed
      ceiled (λ x y. spread_step (ranges is) (ranges js) (Expr-F.CeilDiv x y)) (both_fixed ceil_div) (a.1 q.0 m.0) (b.1 q.1 m.1)
      (λ r s h k d e. ceiled_agrees r s h (ap is_positive e ∙ t.1)))
  one_layer (Expr-F.Mod a b) = simp fold-roll-Expr (λ p l.
      let t = and_parts _ _ p in
      let q = and_parts _ _ t.0 in
      let m = and_parts _ _ l in
      agree_two (span_of is js a.0) (span_of is js b.0) (fold-Expr (Option Spread) (bounded_step (ranges is) (ranges js)) a.0) (fold-Expr (Option Spread) (bounded_step (ranges is) (ranges js)) b.0) (purity a.0).fixed (purity b.0).fixed
      reduced (λ x y. spread_step (ranges is) (ranges js) (Expr-F.Mod x y)) (both_fixed floor_mod) (a.1 q.0 m.0) (b.1 q.1 m.1)
      (λ r s h k d e. reduced_agrees r s h (ap is_positive e ∙ t.1)))

  finds : (e : Expr) → Finds e
  finds = ind-Expr Finds (λ x y is. subst (λ z. Finds (roll-Expr z)) is (one_layer y))

  shown_by : (x : Option Span) (X : Option Spread) (f : Option ℤ) → Agrees x X f → interval_at x ≡ shown X
  shown_by None X f h = ap shown (sym h)
  shown_by (Some s) X f h = ap shown (sym h.same)

  -- the interval that is found is the interval of the expression
  pub interval_found : (e : Expr) → is_pure e ≡ true → has_leaves_below (length is) (length js) e ≡ true → interval_at (span_of is js e) ≡ interval_of is js e
  unfolding is_pure interval_of
  interval_found e p l = shown_by _ _ _ (finds e p l)
