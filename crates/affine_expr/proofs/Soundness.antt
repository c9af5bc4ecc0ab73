-- The value of a pure expression lies in its interval, and is found with no number outside the limits.
use Rattle.std.proofs.Common.{◌≡◌, ℕ, zero, suc, ◌<◌, Bool, true, false, cond, ◌||◌, ℤ, pos, neg_ℤ, ◌+ℤ◌, ◌-ℤ◌, ◌*ℤ◌, ◌<ℤ◌, List, [], ◌∷◌, length, get_or, Option, Some, None, IsSome, refl, sym, ap, subst, ◌∙◌, arith}
use Rattle.std.specs.Prelude.{is_some, nat_lt}
use Rattle.std.proofs.lemmas.Int.{ints}
use Rattle.std.proofs.lemmas.Bool.{and_parts, ltb-true}
use Rattle.affine_expr.specs.declared.map.Interval.{Interval}
use Rattle.affine_expr.specs.declared.expr.Expr.{Expr, fold-roll-Expr, ind-Expr, map-Expr, roll-Expr}
use Rattle.affine_expr.specs.declared.expr.Expr.TheOpen.{Expr-F}
use Rattle.affine_expr.specs.Value.{floor_div, ceil_div, floor_mod, value}
use Rattle.affine_expr.specs.Spread.{Within, Spread, only, spread, spread_step}
use Rattle.affine_expr.specs.Pure.{is_outside, is_positive, purity, is_pure, has_leaves_below}
use Rattle.affine_expr.specs.Bounded.{◌>>=◌, limited, bounded, ranges, shown, interval_of, AreIn, LiesIn, Evaluable}
use Rattle.affine_expr.specs.Guarded.{small_one, small_two, divided, guarded}
use Rattle.affine_expr.proofs.Limits.{IsInside, is_inside, not_outside}
use Rattle.affine_expr.proofs.Guards.{AreInside, one_is, two_is, divided_done}
use Rattle.affine_expr.proofs.Ranges.{Known, Sound, neg_sound, add_sound, sub_sound, mul_sound, floor_sound, ceil_sound, mod_sound}

-- ---- the limits
pub record IsLimited (s : Spread) : Type 0 where
  pub kept : limited s ≡ Some s
  pub low : IsInside s.range.least
  pub high : IsInside s.range.greatest

limited_by : (s : Spread) (p q : Bool) → is_outside s.range.least ≡ p → is_outside s.range.greatest ≡ q → IsSome (cond (p || q) None (Some s)) → (cond (p || q) None (Some s) ≡ Some s) × IsInside s.range.least × IsInside s.range.greatest
limited_by s true q d e h = absurd (let z : ⊥ = cc in z)
limited_by s false true d e h = absurd (let z : ⊥ = cc in z)
limited_by s false false d e h = (refl, is_inside s.range.least d, is_inside s.range.greatest e)

pub limited_is : (s : Spread) → IsSome (limited s) → IsLimited s
unfolding limited
limited_is s h =
    let k = limited_by s (is_outside s.range.least) (is_outside s.range.greatest) refl refl h in
    record { kept = k.0; low = k.1; high = k.2 }

inside_within : (s : Spread) (v : ℤ) → IsLimited s → Within v s.range → IsInside v
inside_within s v l w = record { low = omega (arith, ints, l.low.low, w.low); high = omega (arith, ints, l.high.high, w.high) }

-- ---- what holds of an expression: its spread s is sound, and where all parts keep within the limits, so that b is its
-- spread, the value v is found as g and lies within the limits
pub record IsTame (b : Option Spread) (s : Spread) (g : Option ℤ) (v : ℤ) : Type 0 where
  pub same : b ≡ Some s
  pub found : g ≡ Some v
  pub inside : IsInside v

pub record Good (b : Option Spread) (s : Spread) (g : Option ℤ) (v : ℤ) (f : Option ℤ) : Type 0 where
  pub sound : Sound s v f
  pub tame : IsSome b → IsTame b s g v

first_some : {A B : Type 0} (x : Option A) (f : A → Option B) → IsSome (x >>= f) → IsSome x
first_some None f h = absurd (let z : ⊥ = cc in z)
first_some (Some x) f h = refl

at_some : {A B : Type 0} (o : Option A) (x : A) (f : A → Option B) → o ≡ Some x → (o >>= f) ≡ f x
at_some o x f e = ap (λ t. t >>= f) e

some_along : {A : Type 0} (o p : Option A) → o ≡ p → IsSome o → IsSome p
some_along o p e h = subst IsSome e h

good_leaf : (s : Spread) (g : Option ℤ) (v : ℤ) (f : Option ℤ) → Sound s v f → g ≡ Some v → Good (limited s) s g v f
good_leaf s g v f h e = record { sound = h; tame = λ k. (let l = limited_is s k in record { same = l.kept; found = e; inside = inside_within s v l h.within }) }

good_one : (X : Option Spread) (a : Spread) (gx : Option ℤ) (u : ℤ) (f : Option ℤ) (S : Spread → Spread) (op : ℤ → Option ℤ) (w : ℤ) (F : Option ℤ)
    → Good X a gx u f → Sound (S a) w F → (is_outside u ≡ false → op u ≡ Some w) → Good (X >>= (λ x. limited (S x))) (S a) (gx >>= op) w F
good_one X a gx u f S op w F h k o = record {
  sound = k;
  tame = λ p.
      (let hx = h.tame (first_some X (λ x. limited (S x)) p) in
      let e = at_some X a (λ x. limited (S x)) hx.same in
      let l = limited_is (S a) (some_along (X >>= (λ x. limited (S x))) (limited (S a)) e p) in
      record { same = e ∙ l.kept; found = at_some gx u op hx.found ∙ o (not_outside u hx.inside); inside = inside_within (S a) w l k.within });
}

good_two : (X Y : Option Spread) (a b : Spread) (gx gy : Option ℤ) (u v : ℤ) (f g : Option ℤ) (S : Spread → Spread → Spread) (op : ℤ → ℤ → Option ℤ) (w : ℤ) (F : Option ℤ)
    → Good X a gx u f → Good Y b gy v g → Sound (S a b) w F → (AreInside u v → op u v ≡ Some w)
    → Good (X >>= (λ x. Y >>= (λ y. limited (S x y)))) (S a b) (gx >>= (λ x. gy >>= (λ y. op x y))) w F
good_two X Y a b gx gy u v f g S op w F h k m o = record {
  sound = m;
  tame = λ p.
      (let hx = h.tame (first_some X (λ x. Y >>= (λ y. limited (S x y))) p) in
      let e = at_some X a (λ x. Y >>= (λ y. limited (S x y))) hx.same in
      let q = some_along _ (Y >>= (λ y. limited (S a y))) e p in
      let ky = k.tame (first_some Y (λ y. limited (S a y)) q) in
      let d = at_some Y b (λ y. limited (S a y)) ky.same in
      let l = limited_is (S a b) (some_along _ (limited (S a b)) d q) in
      record {
        same = e ∙ d ∙ l.kept;
        found = at_some gx u (λ x. gy >>= (λ y. op x y)) hx.found ∙ at_some gy v (λ y. op u y) ky.found ∙ o (record { first = not_outside u hx.inside; second = not_outside v ky.inside });
        inside = inside_within (S a b) w l m.within;
      });
}

positive_by : (y : Option ℤ) (v : ℤ) → Known y v → is_positive y ≡ true → pos 0 <ℤ v
positive_by None v n p = absurd (let z : ⊥ = cc in z)
positive_by (Some c) v n p = omega (arith, ints, n, p)

-- a divisor is positive
positive : {s : Spread} {v : ℤ} {f : Option ℤ} → Sound s v f → is_positive f ≡ true → pos 0 <ℤ v
positive {s} {v} h p = positive_by s.fixed v h.known (ap is_positive h.same ∙ p)

-- ---- leaves
pub length_in : (zs : List ℤ) (is : List Interval) → AreIn zs is → length zs ≡ length is
length_in [] [] h = refl
length_in [] (i ∷ is) h = absurd h
length_in (z ∷ zs) [] h = absurd h
length_in (z ∷ zs) (i ∷ is) h = ap suc (length_in zs is h.1)

leaf_in : (zs : List ℤ) (is : List Interval) (n : ℕ) → AreIn zs is → n < length zs → Within (get_or zs n (pos 0)) (get_or (ranges is) n (only (pos 0)))
leaf_in [] is n h l = absurd (omega arith)
leaf_in (z ∷ zs) [] n h l = absurd h
leaf_in (z ∷ zs) (i ∷ is) zero h l = record { low = h.0.low; high = h.0.high }
leaf_in (z ∷ zs) (i ∷ is) (suc n) h l = leaf_in zs is n h.1 (omega arith)

leaf_found : (zs : List ℤ) (n : ℕ) → nat_lt n (length zs) ≡ true → cond (nat_lt n (length zs)) (Some (get_or zs n (pos 0))) None ≡ Some (get_or zs n (pos 0))
leaf_found zs n h = ap (λ t. cond t (Some (get_or zs n (pos 0))) None) h

module _ (ds ss : List ℤ) (is js : List Interval) (dims_in : AreIn ds is) (syms_in : AreIn ss js) where
  abbrev pub Holds : Expr → Type 0
  Holds e = (purity e).pure ≡ true → has_leaves_below (length ds) (length ss) e ≡ true → Good (bounded (ranges is) (ranges js) e) (spread (ranges is) (ranges js) e) (guarded ds ss e) (value ds ss e) (purity e).fixed

  one_layer : (y : Expr-F ((e : Expr) × Holds e)) → Holds (roll-Expr (map-Expr ((e : Expr) × Holds e) Expr (λ e. e.0) y))
  unfolding has_leaves_below bounded spread value
  one_layer (Expr-F.Dim n) = simp fold-roll-Expr (λ p l. good_leaf _ _ _ _ (record { within = leaf_in ds is n dims_in (ltb-true n (length ds) l); known = tt; same = refl }) (leaf_found ds n l))
  one_layer (Expr-F.Sym n) = simp fold-roll-Expr (λ p l. good_leaf _ _ _ _ (record { within = leaf_in ss js n syms_in (ltb-true n (length ss) l); known = tt; same = refl }) (leaf_found ss n l))
  one_layer (Expr-F.Const z) = simp fold-roll-Expr (λ p l. good_leaf _ _ _ _ (record { within = record { low = omega (arith, ints); high = omega (arith, ints) }; known = refl; same = refl }) refl)
  one_layer (Expr-F.Neg a) = simp fold-roll-Expr (λ p l.
      let h = a.1 p l in
      good_one _ _ _ _ _ (λ x. spread_step (ranges is) (ranges js) (Expr-F.Neg x)) (small_one neg_ℤ) _ _ h (neg_sound (ranges is) (ranges js) _ _ _ h.sound) (one_is neg_ℤ _))
  one_layer (Expr-F.Add a b) = simp fold-roll-Expr (λ p l.
      let q = and_parts _ _ p in
      let m = and_parts _ _ l in
      let h = a.1 q.0 m.0 in
      let k = b.1 q.1 m.1 in
      good_two _ _ _ _ _ _ _ _ _ _ (λ x y. spread_step (ranges is) (ranges js) (Expr-F.Add x y)) (small_two (λ x y. x +ℤ y)) _ _ h k (add_sound (ranges is) (ranges js) _ _ _ _ _ _ h.sound k.sound) (two_is (λ x y. x +ℤ y) _ _))
  one_layer (Expr-F.Sub a b) = simp fold-roll-Expr (λ p l.
      let q = and_parts _ _ p in
      let m = and_parts _ _ l in
      let h = a.1 q.0 m.0 in
      let k = b.1 q.1 m.1 in
      good_two _ _ _ _ _ _ _ _ _ _ (λ x y. spread_step (ranges is) (ranges js) (Expr-F.Sub x y)) (small_two (λ x y. x -ℤ y)) _ _ h k (sub_sound (ranges is) (ranges js) _ _ _ _ _ _ h.sound k.sound) (two_is (λ x y. x -ℤ y) _ _))
  one_layer (Expr-F.Mul a b) = simp fold-roll-Expr (λ p l.
      let r = and_parts _ _ p in
      let q = and_parts _ _ r.0 in
      let m = and_parts _ _ l in
      let h = a.1 q.0 m.0 in
      let k = b.1 q.1 m.1 in
      good_two _ _ _ _ _ _ _ _ _ _ (λ x y. spread_step (ranges is) (ranges js) (Expr-F.Mul x y)) (small_two (λ x y. x *ℤ y)) _ _ h k (mul_sound (ranges is) (ranges js) _ _ _ _ _ _ h.sound k.sound r.1) (two_is (λ x y. x *ℤ y) _ _))
  one_layer (Expr-F.FloorDiv a b) = simp fold-roll-Expr (λ p l.
      let r = and_parts _ _ p in
      let q = and_parts _ _ r.0 in
      let m = and_parts _ _ l in
      let h = a.1 q.0 m.0 in
      let k = b.1 q.1 m.1 in
      good_two _ _ _ _ _ _ _ _ _ _ (λ x y. spread_step (ranges is) (ranges js) (Expr-F.FloorDiv x y)) (divided floor_div) _ _ h k (floor_sound (ranges is) (ranges js) _ _ _ _ _ _ h.sound k.sound r.1) (divided_done floor_div _ _ (positive k.sound r.1)))
  one_layer (Expr-F.CeilDiv a b) = simp fold-roll-Expr (λ p l.
      let r = and_parts _ _ p in
      let q = and_parts _ _ r.0 in
      let m = and_parts _ _ l in
      let h = a.1 q.0 m.0 in
      let k = b.1 q.1 m.1 in
      good_two _ _ _ _ _ _ _ _ _ _ (λ x y. spread_step (ranges is) (ranges js) (Expr-F.CeilDiv x y)) (divided ceil_div) _ _ h k (ceil_sound (ranges is) (ranges js) _ _ _ _ _ _ h.sound k.sound r.1) (divided_done ceil_div _ _ (positive k.sound r.1)))
  one_layer (Expr-F.Mod a b) = simp fold-roll-Expr (λ p l.
      let r = and_parts _ _ p in
      let q = and_parts _ _ r.0 in
      let m = and_parts _ _ l in
      let h = a.1 q.0 m.0 in
      let k = b.1 q.1 m.1 in
      good_two _ _ _ _ _ _ _ _ _ _ (λ x y. spread_step (ranges is) (ranges js) (Expr-F.Mod x y)) (divided floor_mod) _ _ h k (mod_sound (ranges is) (ranges js) _ _ _ _ _ _ h.sound k.sound r.1) (divided_done floor_mod _ _ (positive k.sound r.1)))

  holds_at : (e : Expr) → Holds e
  holds_at = ind-Expr Holds (λ x y is. subst (λ z. Holds (roll-Expr z)) is (one_layer y))

  pub good : (e : Expr) → is_pure e ≡ true → has_leaves_below (length ds) (length ss) e ≡ true → Good (bounded (ranges is) (ranges js) e) (spread (ranges is) (ranges js) e) (guarded ds ss e) (value ds ss e) (purity e).fixed
  unfolding is_pure
  good e p l = holds_at e p l

-- ---- the value lies in the interval
lies_by : (v : ℤ) (s : Spread) (b : Option Spread) → Within v s.range → (IsSome b → b ≡ Some s) → LiesIn v (shown b)
lies_by v s None w h = tt
lies_by v s (Some t) w h = subst (λ o. LiesIn v (shown o)) (sym (h refl)) (record { low = w.low; high = w.high })

pub interval_sound : (e : Expr) (is js : List Interval) → is_pure e ≡ true → has_leaves_below (length is) (length js) e ≡ true
    → (ds ss : List ℤ) → AreIn ds is → AreIn ss js → LiesIn (value ds ss e) (interval_of is js e)
unfolding interval_of
interval_sound e is js p l ds ss d s =
    let m : has_leaves_below (length ds) (length ss) e ≡ true = ap (λ n. has_leaves_below n (length ss) e) (length_in ds is d) ∙ ap (λ n. has_leaves_below (length is) n e) (length_in ss js s) ∙ l in
    let g = good ds ss is js d s e p m in
    lies_by (value ds ss e) _ _ g.sound.within (λ h. (g.tame h).same)

-- ---- where an expression may be evaluated, no number is outside the limits
shown_some : (b : Option Spread) → IsSome (shown b) → IsSome b
shown_some None h = absurd (let z : ⊥ = cc in z)
shown_some (Some t) h = refl

pub evaluated : (ds ss : List ℤ) (e : Expr) → Evaluable ds ss e → guarded ds ss e ≡ Some (value ds ss e)
unfolding interval_of
evaluated ds ss e h =
    let g = good ds ss h.reach.dims h.reach.syms h.reach.dims_in h.reach.syms_in e h.pure h.leaves in
    (g.tame (shown_some _ h.reach.reached)).found

pub evaluated_some : (ds ss : List ℤ) (e : Expr) → Evaluable ds ss e → IsSome (guarded ds ss e)
evaluated_some ds ss e h = ap is_some (evaluated ds ss e h)

pub value_found : (ds ss : List ℤ) (e : Expr) (v : ℤ) → guarded ds ss e ≡ Some v → Evaluable ds ss e → v ≡ value ds ss e
value_found ds ss e v g h = let k = evaluated ds ss e h in cc
