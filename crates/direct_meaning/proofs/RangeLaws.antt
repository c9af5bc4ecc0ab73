-- The interval of an affine expression holds its value.
use Rattle.std.proofs.Common.{◌≡◌, ℕ, zero, suc, ◌+◌, ◌*◌, ◌/◌, ◌≤◌, ℤ, pos, negsuc, ◌+ℤ◌, ◌-ℤ◌, ◌*ℤ◌, neg_ℤ, ◌≤ℤ◌, List, [], ◌∷◌, refl, sym, ap, ◌∙◌, subst, arith, true, false}
use Rattle.std.specs.Prelude.{◌&&◌, ◌||◌, Option, Some, None, is_some, slice_index_or}
use Rattle.std.specs.Int.{int_div_euclid}
use Rattle.std.proofs.lemmas.Int.{ints}
use Rattle.std.proofs.lemmas.Bool.{and_parts}
use Rattle.std.proofs.lemmas.Nat.{div-add-mod'}
use Rattle.std.proofs.Math.Nat.{mod-lt}
use Rattle.std.proofs.Math.IntN.{*ℤ_comm, zero-*ℤ, suc_ℤ-*ℤ, pred_ℤ-*ℤ}
use Rattle.affine_expr.specs.declared.expr.Expr.{Expr, ind-Expr, map-Expr, roll-Expr, fold-roll-Expr}
use Rattle.affine_expr.specs.declared.expr.Expr.TheOpen.{Expr-F}
use Rattle.affine_expr.specs.Value.{floor_div, ceil_div, floor_mod, value_step, value}
use Rattle.affine_expr.specs.Pure.{Purity, purity_at, is_positive, purity_step, purity, is_pure}
use Rattle.affine_expr.specs.Spread.{Range, only, Within, Spread, scaled, range_of_product, range_of_floor, range_of_ceil, range_of_mod, both_fixed, one_fixed, spread_step, spread}
use Rattle.direct_meaning.proofs.TurnLaws.{floor_is}

-- products by one number
grows : (n : ℕ) (a b : ℤ) → a ≤ℤ b → (pos n *ℤ a) ≤ℤ (pos n *ℤ b)
grows zero a b h = omega (arith, ints, zero-*ℤ a, zero-*ℤ b)
grows (suc n) a b h = omega (arith, ints, suc_ℤ-*ℤ (pos n) a, suc_ℤ-*ℤ (pos n) b, grows n a b h, h)

falls : (n : ℕ) (a b : ℤ) → a ≤ℤ b → (negsuc n *ℤ b) ≤ℤ (negsuc n *ℤ a)
falls zero a b h = omega (arith, ints, pred_ℤ-*ℤ (pos 0) a, pred_ℤ-*ℤ (pos 0) b, zero-*ℤ a, zero-*ℤ b, h)
falls (suc n) a b h = omega (arith, ints, pred_ℤ-*ℤ (negsuc n) a, pred_ℤ-*ℤ (negsuc n) b, falls n a b h, h)

by_number : (c : ℤ) (v : ℤ) (r : Range) → Within v r → Within (v *ℤ c) (scaled r c)
by_number (pos n) v r h =
    let a = grows n r.least v h.low in
    let b = grows n v r.greatest h.high in
    record {
      low = grind (arith, ints, a, b, *ℤ_comm (pos n) r.least, *ℤ_comm (pos n) v, *ℤ_comm (pos n) r.greatest);
      high = grind (arith, ints, a, b, *ℤ_comm (pos n) r.least, *ℤ_comm (pos n) v, *ℤ_comm (pos n) r.greatest);
    }
by_number (negsuc n) v r h =
    let a = falls n r.least v h.low in
    let b = falls n v r.greatest h.high in
    record {
      low = grind (arith, ints, a, b, *ℤ_comm (negsuc n) r.least, *ℤ_comm (negsuc n) v, *ℤ_comm (negsuc n) r.greatest);
      high = grind (arith, ints, a, b, *ℤ_comm (negsuc n) r.least, *ℤ_comm (negsuc n) v, *ℤ_comm (negsuc n) r.greatest);
    }

-- quotients by one positive number
less_quotient : (a b s : ℕ) → 1 ≤ s → a ≤ b → a / s ≤ b / s
less_quotient a b s h k =
    let p = div-add-mod' a s in
    let q = div-add-mod' b s in
    let m = mod-lt b {m = s} (omega (arith, h)) in
    grind (arith, p, q, m, h, k)

quotients : (a b : ℤ) (s : ℕ) → 1 ≤ s → a ≤ℤ b → int_div_euclid a (pos s) ≤ℤ int_div_euclid b (pos s)
quotients (pos a) (pos b) s h k = let q = less_quotient a b s h (omega (arith, ints, k)) in omega (arith, ints, q)
quotients (pos a) (negsuc b) s h k = absurd (omega (arith, ints, k))
quotients (negsuc a) (pos b) s h k = omega (arith, ints)
quotients (negsuc a) (negsuc b) s h k = let q = less_quotient b a s h (omega (arith, ints, k)) in omega (arith, ints, q)

floors : (a b : ℤ) (s : ℕ) → 1 ≤ s → a ≤ℤ b → floor_div a (pos s) ≤ℤ floor_div b (pos s)
floors a b s h k = omega (arith, ints, floor_is a s, floor_is b s, quotients a b s h k)

ceils : (a b : ℤ) (s : ℕ) → 1 ≤ s → a ≤ℤ b → ceil_div a (pos s) ≤ℤ ceil_div b (pos s)
unfolding ceil_div
ceils a b s h k = let q = floors (neg_ℤ b) (neg_ℤ a) s h (omega (arith, ints, k)) in omega (arith, ints, q)

-- remainders
remainder : (a : ℤ) (s : ℕ) → 1 ≤ s → Within (a -ℤ (pos s *ℤ int_div_euclid a (pos s))) (record { least = pos 0; greatest = pos s -ℤ pos 1 })
remainder (pos n) s h =
    let p = div-add-mod' n s in
    let m = mod-lt n {m = s} (omega (arith, h)) in
    let c : s * (n / s) ≡ n / s * s = grind arith in
    record { low = omega (arith, ints, p, c, h); high = omega (arith, ints, p, m, c, h) }
remainder (negsuc n) s h =
    let p = div-add-mod' n s in
    let m = mod-lt n {m = s} (omega (arith, h)) in
    let c : s * suc (n / s) ≡ s + n / s * s = grind arith in
    record { low = omega (arith, ints, p, m, c, h); high = omega (arith, ints, p, c, h) }

mods : (a : ℤ) (s : ℕ) → 1 ≤ s → Within (floor_mod a (pos s)) (record { least = pos 0; greatest = pos s -ℤ pos 1 })
unfolding floor_mod
mods a s h = subst (λ q. Within (a -ℤ (pos s *ℤ q)) (record { least = pos 0; greatest = pos s -ℤ pos 1 })) (sym (floor_is a s)) (remainder a s h)

-- what holds of a value, a spread and a purity of one expression
abbrev Held : ℤ → Spread → Purity → Type 0
Held v s p = (p.fixed ≡ s.fixed) × (p.pure ≡ true → Within v s.range × ((c : ℤ) → s.fixed ≡ Some c → v ≡ c))

-- the value of two parts where both have one
fixed_both : (f : ℤ → ℤ → ℤ) (a b : Option ℤ) (v w c : ℤ) → ((x : ℤ) → a ≡ Some x → v ≡ x) → ((x : ℤ) → b ≡ Some x → w ≡ x) → both_fixed f a b ≡ Some c → f v w ≡ c
fixed_both f (Some a) (Some b) v w c p q h = let e : f a b ≡ c = cc in (λ i. f (p a refl i) (q b refl i)) ∙ e
fixed_both f (Some a) None v w c p q h = let z : None ≡ Some c = h in absurd (gone c z)
  where
    gone : (c : ℤ) → None ≡ Some c → ⊥
    gone c z = cc
fixed_both f None b v w c p q h = let z : None ≡ Some c = h in absurd (gone c z)
  where
    gone : (c : ℤ) → None ≡ Some c → ⊥
    gone c z = cc

fixed_one : (f : ℤ → ℤ) (a : Option ℤ) (v c : ℤ) → ((x : ℤ) → a ≡ Some x → v ≡ x) → one_fixed f a ≡ Some c → f v ≡ c
fixed_one f (Some a) v c p h = let e : f a ≡ c = cc in ap f (p a refl) ∙ e
fixed_one f None v c p h = let z : None ≡ Some c = h in absurd (gone c z)
  where
    gone : (c : ℤ) → None ≡ Some c → ⊥
    gone c z = cc

neg_held : (v : ℤ) (s : Spread) (p : Purity) → Held v s p
    → Held (neg_ℤ v) (record { range = record { least = neg_ℤ s.range.greatest; greatest = neg_ℤ s.range.least }; fixed = one_fixed neg_ℤ s.fixed }) (purity_at (one_fixed neg_ℤ p.fixed) p.pure p.small)
neg_held v s p h = (
  ap (one_fixed neg_ℤ) h.0,
  λ t.
      let w = (h.1 t).0 in
      let l = w.low in
      let g = w.high in
      (record { low = omega (arith, ints, g); high = omega (arith, ints, l) }, λ c e. fixed_one neg_ℤ s.fixed v c (h.1 t).1 e),
)

module _ (v w : ℤ) (s t : Spread) (p q : Purity) (h : Held v s p) (k : Held w t q) where
  abbrev pure_both : (p.pure && q.pure) ≡ true → (Within v s.range × ((c : ℤ) → s.fixed ≡ Some c → v ≡ c)) × (Within w t.range × ((c : ℤ) → t.fixed ≡ Some c → w ≡ c))
  pure_both e = let two = and_parts p.pure q.pure e in (h.1 two.0, k.1 two.1)

  same_fixed : (f : ℤ → ℤ → ℤ) → both_fixed f p.fixed q.fixed ≡ both_fixed f s.fixed t.fixed
  same_fixed f = λ i. both_fixed f (h.0 i) (k.0 i)

  add_held : Held (v +ℤ w) (record { range = record { least = s.range.least +ℤ t.range.least; greatest = s.range.greatest +ℤ t.range.greatest }; fixed = both_fixed (λ x y. x +ℤ y) s.fixed t.fixed })
      (purity_at (both_fixed (λ x y. x +ℤ y) p.fixed q.fixed) (p.pure && q.pure) (p.small && q.small))
  add_held = (
    same_fixed (λ x y. x +ℤ y),
    λ e.
        let two = pure_both e in
        let a = two.0.0.low in let b = two.0.0.high in let c = two.1.0.low in let d = two.1.0.high in
        (record { low = omega (arith, ints, a, c); high = omega (arith, ints, b, d) }, λ c e. fixed_both (λ x y. x +ℤ y) s.fixed t.fixed v w c two.0.1 two.1.1 e),
  )

  sub_held : Held (v -ℤ w) (record { range = record { least = s.range.least -ℤ t.range.greatest; greatest = s.range.greatest -ℤ t.range.least }; fixed = both_fixed (λ x y. x -ℤ y) s.fixed t.fixed })
      (purity_at (both_fixed (λ x y. x -ℤ y) p.fixed q.fixed) (p.pure && q.pure) (p.small && q.small))
  sub_held = (
    same_fixed (λ x y. x -ℤ y),
    λ e.
        let two = pure_both e in
        let a = two.0.0.low in let b = two.0.0.high in let c = two.1.0.low in let d = two.1.0.high in
        (record { low = omega (arith, ints, a, d); high = omega (arith, ints, b, c) }, λ c e. fixed_both (λ x y. x -ℤ y) s.fixed t.fixed v w c two.0.1 two.1.1 e),
  )

  product_in : (a b : Option ℤ) → s.fixed ≡ a → t.fixed ≡ b → (is_some a || is_some b) ≡ true → (Within v s.range × ((c : ℤ) → s.fixed ≡ Some c → v ≡ c)) → (Within w t.range × ((c : ℤ) → t.fixed ≡ Some c → w ≡ c))
      → Within (v *ℤ w) (range_of_product s t a b)
  product_in a (Some c) x y some l r = subst (λ z. Within (v *ℤ z) (scaled s.range c)) (sym (r.1 c y)) (by_number c v s.range l.0)
  product_in (Some c) None x y some l r =
      subst (λ z. Within z (scaled t.range c)) (*ℤ_comm w c ∙ ap (λ z. z *ℤ w) (sym (l.1 c x))) (by_number c w t.range r.0)
  product_in None None x y some l r = let z : false ≡ true = some in absurd (cc)

  mul_held : Held (v *ℤ w) (record { range = range_of_product s t s.fixed t.fixed; fixed = both_fixed (λ x y. x *ℤ y) s.fixed t.fixed })
      (purity_at (both_fixed (λ x y. x *ℤ y) p.fixed q.fixed) ((p.pure && q.pure) && (is_some p.fixed || is_some q.fixed)) (p.small && q.small))
  mul_held = (
    same_fixed (λ x y. x *ℤ y),
    λ e.
        let parts = and_parts (p.pure && q.pure) (is_some p.fixed || is_some q.fixed) e in
        let two = pure_both parts.0 in
        let some : (is_some s.fixed || is_some t.fixed) ≡ true = (λ i. is_some (sym h.0 i) || is_some (sym k.0 i)) ∙ parts.1 in
        (product_in s.fixed t.fixed refl refl some two.0 two.1, λ c e. fixed_both (λ x y. x *ℤ y) s.fixed t.fixed v w c two.0.1 two.1.1 e),
  )

  -- the right side's number
  divisor : (o : Option ℤ) → is_positive o ≡ true → (n : ℕ) × (1 ≤ n) × (o ≡ Some (pos n))
  divisor (Some (pos n)) e = (n, (grind (arith, ints, e)), refl)
  divisor (Some (negsuc n)) e = absurd (grind (arith, ints, e))
  divisor None e = let z : false ≡ true = e in absurd (cc)

  div_held : (f : ℤ → ℤ → ℤ) (range : Range → Option ℤ → Range)
      → ((n : ℕ) → 1 ≤ n → Within v s.range → Within (f v (pos n)) (range s.range (Some (pos n))))
      → Held (f v w) (record { range = range s.range t.fixed; fixed = both_fixed f s.fixed t.fixed }) (purity_at (both_fixed f p.fixed q.fixed) ((p.pure && q.pure) && is_positive q.fixed) (p.small && q.small))
  div_held f range law = (
    same_fixed f,
    λ e.
        let parts = and_parts (p.pure && q.pure) (is_positive q.fixed) e in
        let two = pure_both parts.0 in
        let d = divisor t.fixed (ap is_positive (sym k.0) ∙ parts.1) in (
          subst (λ o. Within (f v w) (range s.range o)) (sym d.2) (subst (λ z. Within (f v z) (range s.range (Some (pos d.0)))) (sym (two.1.1 (pos d.0) d.2)) (law d.0 d.1 two.0.0)),
          λ c e. fixed_both f s.fixed t.fixed v w c two.0.1 two.1.1 e,
        ),
  )

floor_law : (v : ℤ) (r : Range) (n : ℕ) → 1 ≤ n → Within v r → Within (floor_div v (pos n)) (range_of_floor r (Some (pos n)))
floor_law v r n h k = record { low = floors r.least v n h k.low; high = floors v r.greatest n h k.high }

ceil_law : (v : ℤ) (r : Range) (n : ℕ) → 1 ≤ n → Within v r → Within (ceil_div v (pos n)) (range_of_ceil r (Some (pos n)))
ceil_law v r n h k = record { low = ceils r.least v n h k.low; high = ceils v r.greatest n h k.high }

mod_law : (v : ℤ) (r : Range) (n : ℕ) → 1 ≤ n → Within v r → Within (floor_mod v (pos n)) (range_of_mod r (Some (pos n)))
mod_law v r n h k = mods v n h

-- the numbers of the leaves lie in their ranges
abbrev pub InRanges : List ℤ → List Range → Type 0
InRanges [] [] = Unit {0}
InRanges (z ∷ zs) (r ∷ rs) = Within z r × InRanges zs rs
InRanges [] (r ∷ rs) = ⊥
InRanges (z ∷ zs) [] = ⊥

nothing_in : Within (pos 0) (only (pos 0))
nothing_in = record { low = omega (arith, ints); high = omega (arith, ints) }

pub leaf_in : (zs : List ℤ) (rs : List Range) (k : ℕ) → InRanges zs rs → Within (slice_index_or zs k (pos 0)) (slice_index_or rs k (only (pos 0)))
leaf_in [] [] k h = nothing_in
leaf_in (z ∷ zs) (r ∷ rs) zero h = h.0
leaf_in (z ∷ zs) (r ∷ rs) (suc k) h = leaf_in zs rs k h.1
leaf_in [] (r ∷ rs) k h = absurd h
leaf_in (z ∷ zs) [] k h = absurd h

module _ (ds ss : List ℤ) (rds rss : List Range) (dims : InRanges ds rds) (syms : InRanges ss rss) where
  abbrev P : Expr → Type 0
  P e = Held (value ds ss e) (spread rds rss e) (purity e)

  layer : (x : Expr-F Expr) → Held (value_step ds ss (map-Expr Expr ℤ (value ds ss) x)) (spread_step rds rss (map-Expr Expr Spread (spread rds rss) x)) (purity_step (map-Expr Expr Purity purity x)) → P (roll-Expr x)
  unfolding value spread
  layer x h =
      subst (λ t. t) (λ i. Held (sym (fold-roll-Expr ℤ (value_step ds ss) x) i) (sym (fold-roll-Expr Spread (spread_step rds rss) x) i) (sym (fold-roll-Expr Purity purity_step x) i)) h

  unnumbered : (n : ℕ) (r : Range) (v : ℤ) → Within v r → Held v (record { range = r; fixed = None }) (purity_at None true true)
  unnumbered n r v h = (refl, λ e. (h, λ c z. absurd (gone c z)))
    where
      gone : (c : ℤ) → None ≡ Some c → ⊥
      gone c z = cc

  step : (x : Expr-F Expr) (y : Expr-F ((e : Expr) × P e)) → map-Expr ((e : Expr) × P e) Expr (λ e. e.0) y ≡ x → P (roll-Expr x)
  step x y path = subst (λ x. P (roll-Expr x)) path (at y)
    where
      one_number : (z c : ℤ) → Some z ≡ Some c → z ≡ c
      one_number z c e = cc

      at : (y : Expr-F ((e : Expr) × P e)) → P (roll-Expr (map-Expr ((e : Expr) × P e) Expr (λ e. e.0) y))
      at (Expr-F.Dim k) = layer (Expr-F.Dim k) (unnumbered k _ _ (leaf_in ds rds k dims))
      at (Expr-F.Sym k) = layer (Expr-F.Sym k) (unnumbered k _ _ (leaf_in ss rss k syms))
      at (Expr-F.Const z) = layer (Expr-F.Const z) (refl, λ e. (record { low = omega (arith, ints); high = omega (arith, ints) }, λ c e. one_number z c e))
      at (Expr-F.Neg a) = layer (Expr-F.Neg a.0) (neg_held _ _ (purity a.0) a.1)
      at (Expr-F.Add a b) = layer (Expr-F.Add a.0 b.0) (add_held _ _ _ _ (purity a.0) (purity b.0) a.1 b.1)
      at (Expr-F.Sub a b) = layer (Expr-F.Sub a.0 b.0) (sub_held _ _ _ _ (purity a.0) (purity b.0) a.1 b.1)
      at (Expr-F.Mul a b) = layer (Expr-F.Mul a.0 b.0) (mul_held _ _ _ _ (purity a.0) (purity b.0) a.1 b.1)
      at (Expr-F.FloorDiv a b) = layer (Expr-F.FloorDiv a.0 b.0) (div_held _ _ _ _ (purity a.0) (purity b.0) a.1 b.1 floor_div range_of_floor (floor_law _ _))
      at (Expr-F.CeilDiv a b) = layer (Expr-F.CeilDiv a.0 b.0) (div_held _ _ _ _ (purity a.0) (purity b.0) a.1 b.1 ceil_div range_of_ceil (ceil_law _ _))
      at (Expr-F.Mod a b) = layer (Expr-F.Mod a.0 b.0) (div_held _ _ _ _ (purity a.0) (purity b.0) a.1 b.1 floor_mod range_of_mod (mod_law _ _))

  held : (e : Expr) → P e
  held = ind-Expr P step

  -- the value of an affine expression lies in its interval
  pub value_in : (e : Expr) → is_pure e ≡ true → Within (value ds ss e) (spread rds rss e).range
  unfolding is_pure
  value_in e h = ((held e).1 h).0
