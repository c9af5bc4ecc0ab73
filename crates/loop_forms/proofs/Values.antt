-- Values of folded sums, of an expression over the values of two maps, and of bounds.
use Rattle.std.proofs.Common.{◌≡◌, ℕ, zero, suc, ◌+◌, ◌-◌, ◌<◌, ◌≤◌, ℤ, pos, ◌+ℤ◌, ◌-ℤ◌, List, [], ◌∷◌, ◌++◌, length, map, take, drop, refl, sym, ap, ◌∙◌, subst, arith, Bool, true, false}
use Rattle.std.specs.Prelude.{◌&&◌, Option, Some, None, neg_ℤ, ◌*ℤ◌, int_lt, nat_eq, slice_index_or, if◌then◌else◌}
use Rattle.std.specs.Ordering.{int_eq}
use Rattle.std.specs.List.{list_all}
use Rattle.std.proofs.lemmas.Bool.{and_parts, ltb-true}
use Rattle.std.proofs.lemmas.Int.{ints}
use Rattle.std.proofs.lemmas.List.{get_or_append_left, get_or-append-add}
use Rattle.affine_expr.specs.declared.expr.Expr.{Expr, Add, Const, Sub, fold-Expr, fold-roll-Expr, ind-Expr, map-Expr, roll-Expr}
use Rattle.affine_expr.specs.declared.expr.Expr.TheOpen.{Expr-F}
use Rattle.affine_expr.specs.Value.{value, value_step}
use Rattle.affine_expr.specs.Pure.{has_leaves_below, leaves_step}
use Rattle.affine_expr.proofs.Values.{value-Add, value-Sub, value-Const}
use Rattle.loop_forms.specs.Sums.{number_step, number_of, sum_by, sum_of, difference_by, difference_of}
use Rattle.loop_forms.specs.Split.{leaf_behind, behind}

-- ---- an expression that is one number has it for its value
module _ (ds ss : List ℤ) where
  abbrev IsNumber : Expr → Type 0
  IsNumber e = (z : ℤ) → number_of e ≡ Some z → value ds ss e ≡ z

  number_layer : (y : Expr-F ((e : Expr) × IsNumber e)) → IsNumber (roll-Expr (map-Expr ((e : Expr) × IsNumber e) Expr (λ e. e.0) y))
  unfolding number_of value
  number_layer (Expr-F.Const x) z h = fold-roll-Expr ℤ (value_step ds ss) (Expr-F.Const x) ∙ some_is x z (sym (fold-roll-Expr (Option ℤ) number_step (Expr-F.Const x)) ∙ h)
    where
      held : Option ℤ → ℤ
      held (Some x) = x
      held None = pos 0

      some_is : (x z : ℤ) → Some x ≡ Some z → x ≡ z
      some_is x z h = ap held h
  number_layer (Expr-F.Dim k) z h = absurd (let n = sym (fold-roll-Expr (Option ℤ) number_step (Expr-F.Dim k)) ∙ h in cc)
  number_layer (Expr-F.Sym k) z h = absurd (let n = sym (fold-roll-Expr (Option ℤ) number_step (Expr-F.Sym k)) ∙ h in cc)
  number_layer (Expr-F.Neg a) z h = absurd (let n = sym (fold-roll-Expr (Option ℤ) number_step (Expr-F.Neg a.0)) ∙ h in cc)
  number_layer (Expr-F.Add a b) z h = absurd (let n = sym (fold-roll-Expr (Option ℤ) number_step (Expr-F.Add a.0 b.0)) ∙ h in cc)
  number_layer (Expr-F.Sub a b) z h = absurd (let n = sym (fold-roll-Expr (Option ℤ) number_step (Expr-F.Sub a.0 b.0)) ∙ h in cc)
  number_layer (Expr-F.Mul a b) z h = absurd (let n = sym (fold-roll-Expr (Option ℤ) number_step (Expr-F.Mul a.0 b.0)) ∙ h in cc)
  number_layer (Expr-F.FloorDiv a b) z h = absurd (let n = sym (fold-roll-Expr (Option ℤ) number_step (Expr-F.FloorDiv a.0 b.0)) ∙ h in cc)
  number_layer (Expr-F.CeilDiv a b) z h = absurd (let n = sym (fold-roll-Expr (Option ℤ) number_step (Expr-F.CeilDiv a.0 b.0)) ∙ h in cc)
  number_layer (Expr-F.Mod a b) z h = absurd (let n = sym (fold-roll-Expr (Option ℤ) number_step (Expr-F.Mod a.0 b.0)) ∙ h in cc)

  is_number : (e : Expr) → IsNumber e
  is_number = ind-Expr IsNumber (λ x y is. subst (λ z. IsNumber (roll-Expr z)) is (number_layer y))

  -- ---- sums
  pub sum_value : (a b : Expr) → value ds ss (sum_of a b) ≡ value ds ss a +ℤ value ds ss b
  sum_value a b = by (number_of a) (number_of b) (is_number a) (is_number b)
    where
      chosen : (c : Bool) (y z : Expr) → (c ≡ true → value ds ss y ≡ value ds ss a +ℤ value ds ss b) → (c ≡ false → value ds ss z ≡ value ds ss a +ℤ value ds ss b)
          → value ds ss (if c then y else z) ≡ value ds ss a +ℤ value ds ss b
      chosen true y z f g = f refl
      chosen false y z f g = g refl

      by : (m n : Option ℤ) → ((z : ℤ) → m ≡ Some z → value ds ss a ≡ z) → ((z : ℤ) → n ≡ Some z → value ds ss b ≡ z) → value ds ss (sum_by m n a b) ≡ value ds ss a +ℤ value ds ss b
      by (Some x) (Some y) f g = value-Const ds ss (x +ℤ y) ∙ (λ i. sym (f x refl) i +ℤ sym (g y refl) i)
      by (Some x) None f g =
          chosen (int_eq x (pos 0)) b (Add a b)
          (λ t. let e : x ≡ pos 0 = grind (arith, ints, t) in let k = f x refl in omega (arith, ints, e, k))
          (λ t. value-Add ds ss a b)
      by None (Some y) f g =
          let k = g y refl in
          chosen (int_eq y (pos 0)) a _
          (λ t. let e : y ≡ pos 0 = grind (arith, ints, t) in omega (arith, ints, e, k))
          (λ t. chosen (int_lt y (pos 0)) (Sub a (Const (neg_ℤ y))) (Add a b)
          (λ u. let e = value-Const ds ss (neg_ℤ y) in let s = value-Sub ds ss a (Const (neg_ℤ y)) in omega (arith, ints, e, s, k))
          (λ u. value-Add ds ss a b))
      by None None f g = value-Add ds ss a b

  pub difference_value : (a b : Expr) → value ds ss (difference_of a b) ≡ value ds ss a -ℤ value ds ss b
  difference_value a b = by (number_of a) (number_of b) (is_number a) (is_number b)
    where
      by : (m n : Option ℤ) → ((z : ℤ) → m ≡ Some z → value ds ss a ≡ z) → ((z : ℤ) → n ≡ Some z → value ds ss b ≡ z) → value ds ss (difference_by m n a b) ≡ value ds ss a -ℤ value ds ss b
      by (Some x) (Some y) f g = value-Const ds ss (x -ℤ y) ∙ (λ i. sym (f x refl) i -ℤ sym (g y refl) i)
      by (Some x) None f g = value-Sub ds ss a b
      by None None f g = value-Sub ds ss a b
      by None (Some y) f g = at (int_eq y (pos 0)) refl
        where
          at : (t : Bool) → int_eq y (pos 0) ≡ t → value ds ss (if t then a else Sub a b) ≡ value ds ss a -ℤ value ds ss b
          at true t = let e : y ≡ pos 0 = grind (arith, ints, t) in let k = g y refl in omega (arith, ints, e, k)
          at false t = value-Sub ds ss a b

-- ---- an expression over the values of two maps
back : (xs ys : List ℤ) (n k : ℕ) → length xs ≡ n → slice_index_or (xs ++ ys) (n + k) (pos 0) ≡ slice_index_or ys k (pos 0)
back xs ys n k h = ap (λ m. slice_index_or (xs ++ ys) (m + k) (pos 0)) (sym h) ∙ get_or-append-add xs ys k (pos 0)

both : (f : ℤ → ℤ → ℤ) (x y u v : ℤ) → x ≡ u → y ≡ v → f x y ≡ f u v
both f x y u v h k = ap (λ t. f t y) h ∙ ap (f u) k

module _ (ds es ss ts : List ℤ) where
  -- the first map's expressions don't see the second's values
  abbrev Front : Expr → Type 0
  Front e = has_leaves_below (length ds) (length ss) e ≡ true → value (ds ++ es) (ss ++ ts) e ≡ value ds ss e

  abbrev old : Expr-F ℤ → ℤ
  old = value_step ds ss

  abbrev new : Expr-F ℤ → ℤ
  new = value_step (ds ++ es) (ss ++ ts)

  leaves : (x : Expr-F Expr) → has_leaves_below (length ds) (length ss) (roll-Expr x) ≡ true → leaves_step (length ds) (length ss) (map-Expr Expr Bool (has_leaves_below (length ds) (length ss)) x) ≡ true
  unfolding has_leaves_below
  leaves x h = sym (fold-roll-Expr Bool (leaves_step (length ds) (length ss)) x) ∙ h

  two : (x : Expr-F Expr) (f : ℤ → ℤ → ℤ) (a b : (e : Expr) × Front e) → value (ds ++ es) (ss ++ ts) (roll-Expr x) ≡ f (value (ds ++ es) (ss ++ ts) a.0) (value (ds ++ es) (ss ++ ts) b.0)
      → value ds ss (roll-Expr x) ≡ f (value ds ss a.0) (value ds ss b.0) → (has_leaves_below (length ds) (length ss) a.0 && has_leaves_below (length ds) (length ss) b.0) ≡ true
      → value (ds ++ es) (ss ++ ts) (roll-Expr x) ≡ value ds ss (roll-Expr x)
  two x f a b n o h = let p = and_parts (has_leaves_below (length ds) (length ss) a.0) (has_leaves_below (length ds) (length ss) b.0) h in n ∙ both f _ _ _ _ (a.1 p.0) (b.1 p.1) ∙ sym o

  front_layer : (y : Expr-F ((e : Expr) × Front e)) → Front (roll-Expr (map-Expr ((e : Expr) × Front e) Expr (λ e. e.0) y))
  unfolding value
  front_layer (Expr-F.Dim k) h = fold-roll-Expr ℤ new (Expr-F.Dim k) ∙ get_or_append_left ds es (pos 0) k (ltb-true k (length ds) (leaves (Expr-F.Dim k) h)) ∙ sym (fold-roll-Expr ℤ old (Expr-F.Dim k))
  front_layer (Expr-F.Sym k) h = fold-roll-Expr ℤ new (Expr-F.Sym k) ∙ get_or_append_left ss ts (pos 0) k (ltb-true k (length ss) (leaves (Expr-F.Sym k) h)) ∙ sym (fold-roll-Expr ℤ old (Expr-F.Sym k))
  front_layer (Expr-F.Const z) h = fold-roll-Expr ℤ new (Expr-F.Const z) ∙ sym (fold-roll-Expr ℤ old (Expr-F.Const z))
  front_layer (Expr-F.Neg a) h = fold-roll-Expr ℤ new (Expr-F.Neg a.0) ∙ ap neg_ℤ (a.1 (leaves (Expr-F.Neg a.0) h)) ∙ sym (fold-roll-Expr ℤ old (Expr-F.Neg a.0))
  front_layer (Expr-F.Add a b) h = two (Expr-F.Add a.0 b.0) (λ x y. old (Expr-F.Add x y)) a b (fold-roll-Expr ℤ new (Expr-F.Add a.0 b.0)) (fold-roll-Expr ℤ old (Expr-F.Add a.0 b.0)) (leaves (Expr-F.Add a.0 b.0) h)
  front_layer (Expr-F.Sub a b) h = two (Expr-F.Sub a.0 b.0) (λ x y. old (Expr-F.Sub x y)) a b (fold-roll-Expr ℤ new (Expr-F.Sub a.0 b.0)) (fold-roll-Expr ℤ old (Expr-F.Sub a.0 b.0)) (leaves (Expr-F.Sub a.0 b.0) h)
  front_layer (Expr-F.Mul a b) h = two (Expr-F.Mul a.0 b.0) (λ x y. old (Expr-F.Mul x y)) a b (fold-roll-Expr ℤ new (Expr-F.Mul a.0 b.0)) (fold-roll-Expr ℤ old (Expr-F.Mul a.0 b.0)) (leaves (Expr-F.Mul a.0 b.0) h)
  front_layer (Expr-F.FloorDiv a b) h = two (Expr-F.FloorDiv a.0 b.0) (λ x y. old (Expr-F.FloorDiv x y)) a b (fold-roll-Expr ℤ new (Expr-F.FloorDiv a.0 b.0)) (fold-roll-Expr ℤ old (Expr-F.FloorDiv a.0 b.0)) (leaves (Expr-F.FloorDiv a.0 b.0) h)
  front_layer (Expr-F.CeilDiv a b) h = two (Expr-F.CeilDiv a.0 b.0) (λ x y. old (Expr-F.CeilDiv x y)) a b (fold-roll-Expr ℤ new (Expr-F.CeilDiv a.0 b.0)) (fold-roll-Expr ℤ old (Expr-F.CeilDiv a.0 b.0)) (leaves (Expr-F.CeilDiv a.0 b.0) h)
  front_layer (Expr-F.Mod a b) h = two (Expr-F.Mod a.0 b.0) (λ x y. old (Expr-F.Mod x y)) a b (fold-roll-Expr ℤ new (Expr-F.Mod a.0 b.0)) (fold-roll-Expr ℤ old (Expr-F.Mod a.0 b.0)) (leaves (Expr-F.Mod a.0 b.0) h)

  pub value_front : (e : Expr) → Front e
  value_front = ind-Expr Front (λ x y is. subst (λ z. Front (roll-Expr z)) is (front_layer y))

  -- the second map's expressions are moved behind the first's values
  module _ (d s : ℕ) (is_d : length ds ≡ d) (is_s : length ss ≡ s) where
    abbrev Back : Expr → Type 0
    Back e = value (ds ++ es) (ss ++ ts) (behind d s e) ≡ value es ts e

    abbrev moved : Expr-F Expr → Expr
    moved x = roll-Expr (leaf_behind d s x)

    abbrev its : Expr-F ℤ → ℤ
    its = value_step es ts

    one_layer : (x : Expr-F Expr) → value (ds ++ es) (ss ++ ts) (behind d s (roll-Expr x)) ≡ new (map-Expr Expr ℤ (value (ds ++ es) (ss ++ ts)) (leaf_behind d s (map-Expr Expr Expr (behind d s) x)))
    unfolding value behind
    one_layer x = ap (fold-Expr ℤ new) (fold-roll-Expr Expr moved x) ∙ fold-roll-Expr ℤ new (leaf_behind d s (map-Expr Expr Expr (behind d s) x))

    back_layer : (y : Expr-F ((e : Expr) × Back e)) → Back (roll-Expr (map-Expr ((e : Expr) × Back e) Expr (λ e. e.0) y))
    unfolding value
    back_layer (Expr-F.Dim k) = one_layer (Expr-F.Dim k) ∙ back ds es d k is_d ∙ sym (fold-roll-Expr ℤ its (Expr-F.Dim k))
    back_layer (Expr-F.Sym k) = one_layer (Expr-F.Sym k) ∙ back ss ts s k is_s ∙ sym (fold-roll-Expr ℤ its (Expr-F.Sym k))
    back_layer (Expr-F.Const z) = one_layer (Expr-F.Const z) ∙ sym (fold-roll-Expr ℤ its (Expr-F.Const z))
    back_layer (Expr-F.Neg a) = one_layer (Expr-F.Neg a.0) ∙ ap neg_ℤ a.1 ∙ sym (fold-roll-Expr ℤ its (Expr-F.Neg a.0))
    back_layer (Expr-F.Add a b) = one_layer (Expr-F.Add a.0 b.0) ∙ both (λ x y. its (Expr-F.Add x y)) _ _ _ _ a.1 b.1 ∙ sym (fold-roll-Expr ℤ its (Expr-F.Add a.0 b.0))
    back_layer (Expr-F.Sub a b) = one_layer (Expr-F.Sub a.0 b.0) ∙ both (λ x y. its (Expr-F.Sub x y)) _ _ _ _ a.1 b.1 ∙ sym (fold-roll-Expr ℤ its (Expr-F.Sub a.0 b.0))
    back_layer (Expr-F.Mul a b) = one_layer (Expr-F.Mul a.0 b.0) ∙ both (λ x y. its (Expr-F.Mul x y)) _ _ _ _ a.1 b.1 ∙ sym (fold-roll-Expr ℤ its (Expr-F.Mul a.0 b.0))
    back_layer (Expr-F.FloorDiv a b) = one_layer (Expr-F.FloorDiv a.0 b.0) ∙ both (λ x y. its (Expr-F.FloorDiv x y)) _ _ _ _ a.1 b.1 ∙ sym (fold-roll-Expr ℤ its (Expr-F.FloorDiv a.0 b.0))
    back_layer (Expr-F.CeilDiv a b) = one_layer (Expr-F.CeilDiv a.0 b.0) ∙ both (λ x y. its (Expr-F.CeilDiv x y)) _ _ _ _ a.1 b.1 ∙ sym (fold-roll-Expr ℤ its (Expr-F.CeilDiv a.0 b.0))
    back_layer (Expr-F.Mod a b) = one_layer (Expr-F.Mod a.0 b.0) ∙ both (λ x y. its (Expr-F.Mod x y)) _ _ _ _ a.1 b.1 ∙ sym (fold-roll-Expr ℤ its (Expr-F.Mod a.0 b.0))

    pub value_back : (e : Expr) → Back e
    value_back = ind-Expr Back (λ x y is. subst (λ z. Back (roll-Expr z)) is (back_layer y))
