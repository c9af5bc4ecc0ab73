-- The interval of the expression of a place is that of its terms, one after the other.
use Rattle.std.proofs.Common.{◌≡◌, ℕ, suc, ◌+◌, Bool, true, false, cond, ◌||◌, ◌&&◌, List, [], ◌∷◌, get_or, Option, Some, None, ℤ, pos, neg_ℤ, ◌-ℤ◌, int_lt, refl, sym, ◌∙◌, ap, subst, arith}
use Rattle.std.specs.Ordering.{int_eq}
use Rattle.affine_expr.specs.declared.expr.Expr.{Expr, Dim, Const, Neg, Add, Sub, Mul, fold-Expr, fold-roll-Expr}
use Rattle.affine_expr.specs.declared.expr.Expr.TheVariants.{rolls-Dim, rolls-Const, rolls-Neg, rolls-Add, rolls-Sub, rolls-Mul}
use Rattle.affine_expr.specs.declared.expr.Expr.TheOpen.{Expr-F}
use Rattle.std.specs.Int.{int_min, int_max}
use Rattle.constraint_set.specs.Tidy.{all_zero}
use Rattle.affine_expr.specs.Spread.{Range, only, scaled, Spread, spread_step}
use Rattle.affine_expr.specs.Bounded.{◌>>=◌, limited, bounded, bounded_step}
use Rattle.affine_expr.specs.Pure.{is_outside}
use Rattle.nest_domain.specs.Boxes.{Dimension}
use Rattle.place_intervals.specs.Places.{first_term, size_term, with_term, with_number, terms_behind, place_expr, chosen, range_of_spread, clamped_range, number_range, place_range}
use Rattle.place_intervals.specs.TermRanges.{kept, plus, less, opposite, times, first_range, size_range, added_range, numbered_range, head, tail, terms_range, form_range}

limited_range : (s : Spread) → range_of_spread (limited s) ≡ kept s.range
unfolding limited
limited_range s = by (is_outside s.range.least || is_outside s.range.greatest)
  where
    by : (b : Bool) → range_of_spread (cond b None (Some s)) ≡ cond b None (Some s.range)
    by true = refl
    by false = refl

module _ (L : List Range) where
  R : Expr → Option Range
  R e = range_of_spread (bounded L [] e)

  bounded-Dim : (n : ℕ) → bounded L [] (Dim n) ≡ bounded_step L [] (Expr-F.Dim n)
  unfolding bounded
  bounded-Dim n = ap (fold-Expr (Option Spread) (bounded_step L [])) (sym (rolls-Dim n)) ∙ fold-roll-Expr (Option Spread) (bounded_step L []) (Expr-F.Dim n)

  bounded-Const : (z : ℤ) → bounded L [] (Const z) ≡ bounded_step L [] (Expr-F.Const z)
  unfolding bounded
  bounded-Const z = ap (fold-Expr (Option Spread) (bounded_step L [])) (sym (rolls-Const z)) ∙ fold-roll-Expr (Option Spread) (bounded_step L []) (Expr-F.Const z)

  bounded-Neg : (e : Expr) → bounded L [] (Neg e) ≡ bounded_step L [] (Expr-F.Neg (bounded L [] e))
  unfolding bounded
  bounded-Neg e = ap (fold-Expr (Option Spread) (bounded_step L [])) (sym (rolls-Neg e)) ∙ fold-roll-Expr (Option Spread) (bounded_step L []) (Expr-F.Neg e)

  bounded-Add : (e f : Expr) → bounded L [] (Add e f) ≡ bounded_step L [] (Expr-F.Add (bounded L [] e) (bounded L [] f))
  unfolding bounded
  bounded-Add e f = ap (fold-Expr (Option Spread) (bounded_step L [])) (sym (rolls-Add e f)) ∙ fold-roll-Expr (Option Spread) (bounded_step L []) (Expr-F.Add e f)

  bounded-Sub : (e f : Expr) → bounded L [] (Sub e f) ≡ bounded_step L [] (Expr-F.Sub (bounded L [] e) (bounded L [] f))
  unfolding bounded
  bounded-Sub e f = ap (fold-Expr (Option Spread) (bounded_step L [])) (sym (rolls-Sub e f)) ∙ fold-roll-Expr (Option Spread) (bounded_step L []) (Expr-F.Sub e f)

  bounded-Mul : (e f : Expr) → bounded L [] (Mul e f) ≡ bounded_step L [] (Expr-F.Mul (bounded L [] e) (bounded L [] f))
  unfolding bounded
  bounded-Mul e f = ap (fold-Expr (Option Spread) (bounded_step L [])) (sym (rolls-Mul e f)) ∙ fold-roll-Expr (Option Spread) (bounded_step L []) (Expr-F.Mul e f)

  dim_range : (n : ℕ) → R (Dim n) ≡ kept (get_or L n (only (pos 0)))
  unfolding R
  dim_range n = ap range_of_spread (bounded-Dim n) ∙ limited_range (record { range = get_or L n (only (pos 0)); fixed = None })

  const_range : (z : ℤ) → R (Const z) ≡ kept (only z)
  unfolding R
  const_range z = ap range_of_spread (bounded-Const z) ∙ limited_range (record { range = only z; fixed = Some z })

  neg_range : (e : Expr) → R (Neg e) ≡ (R e >>= (λ x. kept (opposite x)))
  unfolding R
  neg_range e = ap range_of_spread (bounded-Neg e) ∙ by (bounded L [] e)
    where
      by : (w : Option Spread) → range_of_spread (bounded_step L [] (Expr-F.Neg w)) ≡ (range_of_spread w >>= (λ x. kept (opposite x)))
      by None = refl
      by (Some a) = limited_range (spread_step L [] (Expr-F.Neg a))

  add_range : (e f : Expr) → R (Add e f) ≡ (R e >>= (λ x. R f >>= (λ y. kept (plus x y))))
  unfolding R
  add_range e f = ap range_of_spread (bounded-Add e f) ∙ by (bounded L [] e) (bounded L [] f)
    where
      by : (w v : Option Spread) → range_of_spread (bounded_step L [] (Expr-F.Add w v)) ≡ (range_of_spread w >>= (λ x. range_of_spread v >>= (λ y. kept (plus x y))))
      by None v = refl
      by (Some a) None = refl
      by (Some a) (Some b) = limited_range (spread_step L [] (Expr-F.Add a b))

  sub_range : (e f : Expr) → R (Sub e f) ≡ (R e >>= (λ x. R f >>= (λ y. kept (less x y))))
  unfolding R
  sub_range e f = ap range_of_spread (bounded-Sub e f) ∙ by (bounded L [] e) (bounded L [] f)
    where
      by : (w v : Option Spread) → range_of_spread (bounded_step L [] (Expr-F.Sub w v)) ≡ (range_of_spread w >>= (λ x. range_of_spread v >>= (λ y. kept (less x y))))
      by None v = refl
      by (Some a) None = refl
      by (Some a) (Some b) = limited_range (spread_step L [] (Expr-F.Sub a b))

  mul_range : (n : ℕ) (a : ℤ) → R (Mul (Dim n) (Const a)) ≡ times (get_or L n (only (pos 0))) a
  unfolding R limited
  mul_range n a = ap range_of_spread (bounded-Mul (Dim n) (Const a) ∙ (λ i. bounded_step L [] (Expr-F.Mul (bounded-Dim n i) (bounded-Const a i)))) ∙ by (is_outside r.least || is_outside r.greatest) (is_outside a || is_outside a)
    where
      r : Range
      r = get_or L n (only (pos 0))

      by : (b c : Bool) → range_of_spread (bounded_step L [] (Expr-F.Mul (cond b None (Some (record { range = r; fixed = None }))) (cond c None (Some (record { range = only a; fixed = Some a }))))) ≡ (cond b None (Some r) >>= (λ x. cond c None (Some (only a)) >>= (λ y. kept (scaled x a))))
      by true c = refl
      by false true = refl
      by false false = limited_range (record { range = scaled r a; fixed = None })

  -- ---- terms
  abbrev at : ℕ → Range
  at n = get_or L n (only (pos 0))

  first_is : (n : ℕ) (a : ℤ) → R (first_term n a) ≡ first_range (at n) a
  first_is n a = by (int_eq a (pos 1)) (int_eq a (neg_ℤ (pos 1)))
    where
      by : (b c : Bool) → R (cond b (Dim n) (cond c (Neg (Dim n)) (Mul (Dim n) (Const a)))) ≡ cond b (kept (at n)) (cond c (kept (at n) >>= (λ x. kept (opposite x))) (times (at n) a))
      by true c = dim_range n
      by false true = neg_range (Dim n) ∙ ap (λ w. w >>= (λ x. kept (opposite x))) (dim_range n)
      by false false = mul_range n a

  size_is : (n : ℕ) (a : ℤ) → R (size_term n a) ≡ size_range (at n) a
  size_is n a = by (int_eq a (pos 1))
    where
      by : (b : Bool) → R (cond b (Dim n) (Mul (Dim n) (Const a))) ≡ cond b (kept (at n)) (times (at n) a)
      by true = dim_range n
      by false = mul_range n a

  term_is : (e : Expr) (n : ℕ) (a : ℤ) → R (with_term e n a) ≡ (R e >>= (λ x. added_range x (at n) a))
  term_is e n a = by (int_lt a (pos 0))
    where
      by : (b : Bool) → R (cond b (Sub e (size_term n (neg_ℤ a))) (Add e (size_term n a))) ≡ (R e >>= (λ x. cond b (size_range (at n) (neg_ℤ a) >>= (λ y. kept (less x y))) (size_range (at n) a >>= (λ y. kept (plus x y)))))
      by true = sub_range e (size_term n (neg_ℤ a)) ∙ ap (λ w. R e >>= (λ x. w >>= (λ y. kept (less x y)))) (size_is n (neg_ℤ a))
      by false = add_range e (size_term n a) ∙ ap (λ w. R e >>= (λ x. w >>= (λ y. kept (plus x y)))) (size_is n a)

  number_is : (e : Expr) (k : ℤ) → R (with_number e k) ≡ (R e >>= (λ x. numbered_range x k))
  number_is e k = by (int_eq k (pos 0)) (int_lt k (pos 0))
    where
      some : (w : Option Range) → w ≡ (w >>= (λ x. Some x))
      some None = refl
      some (Some x) = refl

      by : (b c : Bool) → R (cond b e (cond c (Sub e (Const (neg_ℤ k))) (Add e (Const k)))) ≡ (R e >>= (λ x. cond b (Some x) (cond c (kept (only (neg_ℤ k)) >>= (λ y. kept (less x y))) (kept (only k) >>= (λ y. kept (plus x y))))))
      by true c = some (R e)
      by false true = sub_range e (Const (neg_ℤ k)) ∙ ap (λ w. R e >>= (λ x. w >>= (λ y. kept (less x y)))) (const_range (neg_ℤ k))
      by false false = add_range e (Const k) ∙ ap (λ w. R e >>= (λ x. w >>= (λ y. kept (plus x y)))) (const_range k)

  -- a list that goes on at a number
  Follows : ℕ → List Range → Type 0
  Follows n rs = (m : ℕ) → get_or L (n + m) (only (pos 0)) ≡ get_or rs m (only (pos 0))

  follows_head : (n : ℕ) (rs : List Range) → Follows n rs → at n ≡ head rs
  unfolding Follows
  follows_head n rs f = ap (λ k. get_or L k (only (pos 0))) (plain n) ∙ f 0 ∙ zeroth rs
    where
      plain : (n : ℕ) → n ≡ n + 0
      plain n = omega arith

      zeroth : (rs : List Range) → get_or rs 0 (only (pos 0)) ≡ head rs
      zeroth [] = refl
      zeroth (r ∷ rs) = refl

  follows_tail : (n : ℕ) (rs : List Range) → Follows n rs → Follows (suc n) (tail rs)
  unfolding Follows
  follows_tail n rs f m = ap (λ k. get_or L k (only (pos 0))) (next n m) ∙ f (suc m) ∙ shift rs m
    where
      next : (n m : ℕ) → suc n + m ≡ n + suc m
      next n m = omega arith

      shift : (rs : List Range) (m : ℕ) → get_or rs (suc m) (only (pos 0)) ≡ get_or (tail rs) m (only (pos 0))
      shift [] m = refl
      shift (r ∷ rs) m = refl

  chosen_next : (a : ℤ) (cs : List ℤ) (rs : List Range) (n : ℕ) → int_eq a (pos 0) ≡ false → Follows n (chosen (a ∷ cs) rs) → (at n ≡ head rs) × Follows (suc n) (chosen cs (tail rs))
  chosen_next a cs [] n e f = (follows_head n [] f, subst (λ xs. Follows (suc n) xs) (none cs) (follows_tail n [] f))
    where
      none : (cs : List ℤ) → [] ≡ chosen {A = Range} cs []
      none [] = refl
      none (c ∷ cs) = refl
  chosen_next a cs (r ∷ rs) n e f =
      let g = subst (Follows n) (ap (λ b. cond b (chosen cs rs) (r ∷ chosen cs rs)) e) f in
      (follows_head n (r ∷ chosen cs rs) g, follows_tail n (r ∷ chosen cs rs) g)

  chosen_skip : (a : ℤ) (cs : List ℤ) (rs : List Range) → int_eq a (pos 0) ≡ true → chosen (a ∷ cs) rs ≡ chosen cs (tail rs)
  chosen_skip a cs [] e = none cs
    where
      none : (cs : List ℤ) → [] ≡ chosen {A = Range} cs []
      none [] = refl
      none (c ∷ cs) = refl
  chosen_skip a cs (r ∷ rs) e = ap (λ b. cond b (chosen cs rs) (r ∷ chosen cs rs)) e

  chained : (w : Option Range) (f g : Range → Option Range) → ((w >>= f) >>= g) ≡ (w >>= (λ x. f x >>= g))
  chained None f g = refl
  chained (Some x) f g = refl

  terms_are : (cs : List ℤ) (e : Expr) (n : ℕ) (rs : List Range) → Follows n (chosen cs rs) → R (terms_behind e n cs) ≡ (R e >>= (λ x. terms_range x cs rs))
  terms_are [] e n rs f = some (R e)
    where
      some : (w : Option Range) → w ≡ (w >>= (λ x. Some x))
      some None = refl
      some (Some x) = refl
  terms_are (a ∷ cs) e n rs f = by (int_eq a (pos 0)) refl (λ g m rs f. terms_are cs g m rs f)
    where
      by : (b : Bool) → int_eq a (pos 0) ≡ b → ((g : Expr) (m : ℕ) (rs : List Range) → Follows m (chosen cs rs) → R (terms_behind g m cs) ≡ (R g >>= (λ x. terms_range x cs rs)))
          → R (cond b (terms_behind e n cs) (terms_behind (with_term e n a) (suc n) cs)) ≡ (R e >>= (λ x. cond b (terms_range x cs (tail rs)) (added_range x (head rs) a >>= (λ y. terms_range y cs (tail rs)))))
      by true h more = more e n (tail rs) (subst (Follows n) (chosen_skip a cs rs h) f)
      by false h more =
          let g = chosen_next a cs rs n h f in
          more (with_term e n a) (suc n) (tail rs) g.1
          ∙ ap (λ w. w >>= (λ x. terms_range x cs (tail rs))) (term_is e n a ∙ ap (λ r. R e >>= (λ x. added_range x r a)) g.0)
          ∙ chained (R e) (λ x. added_range x (head rs) a) (λ y. terms_range y cs (tail rs))

  place_is : (cs : List ℤ) (k : ℤ) (rs : List Range) → Follows 0 (chosen cs rs) → R (place_expr cs k) ≡ form_range cs k rs
  place_is [] k rs f = const_range k
  place_is (a ∷ cs) k rs f = by (int_eq a (pos 0)) refl (λ rs f. place_is cs k rs f)
    where
      by : (b : Bool) → int_eq a (pos 0) ≡ b → ((rs : List Range) → Follows 0 (chosen cs rs) → R (place_expr cs k) ≡ form_range cs k rs)
          → R (cond b (place_expr cs k) (with_number (terms_behind (first_term 0 a) 1 cs) k)) ≡ cond b (form_range cs k (tail rs)) (first_range (head rs) a >>= (λ x. terms_range x cs (tail rs) >>= (λ y. numbered_range y k)))
      by true h more = more (tail rs) (subst (Follows 0) (chosen_skip a cs rs h) f)
      by false h more =
          let g = chosen_next a cs rs 0 h f in
          number_is (terms_behind (first_term 0 a) 1 cs) k
          ∙ ap (λ w. w >>= (λ x. numbered_range x k)) (terms_are cs (first_term 0 a) 1 (tail rs) g.1 ∙ ap (λ w. w >>= (λ x. terms_range x cs (tail rs))) (first_is 0 a ∙ ap (λ r. first_range r a) g.0))
          ∙ chained (first_range (head rs) a) (λ x. terms_range x cs (tail rs)) (λ y. numbered_range y k)

pub form_range_is : (cs : List ℤ) (k : ℤ) (rs : List Range) → range_of_spread (bounded (chosen cs rs) [] (place_expr cs k)) ≡ form_range cs k rs
unfolding R Follows
form_range_is cs k rs = place_is (chosen cs rs) cs k rs same
  where
    same : Follows (chosen cs rs) 0 (chosen cs rs)
    same m = ap (λ k. get_or (chosen cs rs) k (only (pos 0))) (omega arith)

-- ---- a dimension's place
-- neither clamped nor constant
varying : (rs : List Range) (size : ℕ) (d : Dimension) → (d.clamped && all_zero d.coefs) ≡ false → place_range rs size d ≡ clamped_range d.clamped (pos size -ℤ d.extent) (form_range d.coefs d.offset rs)
varying rs size d v =
    ap (λ x. cond x (Some (number_range (pos size -ℤ d.extent) d.offset)) (clamped_range d.clamped (pos size -ℤ d.extent) (range_of_spread (bounded (chosen d.coefs rs) [] (place_expr d.coefs d.offset))))) v
    ∙ ap (clamped_range d.clamped (pos size -ℤ d.extent)) (form_range_is d.coefs d.offset rs)

pub place_number : (rs : List Range) (size : ℕ) (d : Dimension) (r : Range) → (d.clamped && all_zero d.coefs) ≡ true → r ≡ number_range (pos size -ℤ d.extent) d.offset → Some r ≡ place_range rs size d
place_number rs size d r v e =
    ap Some e
    ∙ sym (ap (λ x. cond x (Some (number_range (pos size -ℤ d.extent) d.offset)) (clamped_range d.clamped (pos size -ℤ d.extent) (range_of_spread (bounded (chosen d.coefs rs) [] (place_expr d.coefs d.offset))))) v)

pub place_none : (rs : List Range) (size : ℕ) (d : Dimension) → (d.clamped && all_zero d.coefs) ≡ false → None ≡ form_range d.coefs d.offset rs → None ≡ place_range rs size d
place_none rs size d v h = sym (varying rs size d v ∙ ap (clamped_range d.clamped (pos size -ℤ d.extent)) (sym h))

pub place_plain : (rs : List Range) (size : ℕ) (d : Dimension) (r : Range) → (d.clamped && all_zero d.coefs) ≡ false → Some r ≡ form_range d.coefs d.offset rs → d.clamped ≡ false → Some r ≡ place_range rs size d
place_plain rs size d r v h c = sym (varying rs size d v ∙ (λ i. clamped_range (c i) (pos size -ℤ d.extent) (sym h i)))

pub place_clamped : (rs : List Range) (size : ℕ) (d : Dimension) (r w : Range) (most : ℤ) → (d.clamped && all_zero d.coefs) ≡ false → Some r ≡ form_range d.coefs d.offset rs → d.clamped ≡ true → most ≡ pos size -ℤ d.extent
    → w ≡ record { least = int_max (pos 0) (int_min r.least most); greatest = int_max (pos 0) (int_min r.greatest most) } → Some w ≡ place_range rs size d
place_clamped rs size d r w most v h c m e = ap Some e ∙ sym (varying rs size d v ∙ (λ i. clamped_range (c i) (sym m i) (sym h i)))
