-- The statements that say where the box begins.
use Rattle.std.proofs.Common.{◌≡◌, ℕ, suc, ℤ, pos, ◌+ℤ◌, ◌-ℤ◌, ◌*ℤ◌, List, [], ◌∷◌, ◌++◌, length, refl, ap, ◌∙◌, subst, arith, Bool, true, false}
use Rattle.std.specs.Prelude.{neg_ℤ, int_lt, if◌then◌else◌}
use Rattle.std.specs.Ordering.{int_eq}
use Rattle.std.proofs.lemmas.Int.{ints}
use Rattle.std.proofs.lemmas.Bool.Decides.{Decides-int_eq}
use Rattle.std.proofs.lemmas.List.{append_assoc}
use Rattle.affine_expr.specs.declared.expr.Expr.{Expr, Dim, Const, Neg, Add, Sub, Mul}
use Rattle.affine_expr.specs.Value.{value}
use Rattle.affine_expr.proofs.Values.{value-Const, value-Neg, value-Add, value-Sub, value-Mul}
use Rattle.affine_ast.specs.declared.name.Name.{Name}
use Rattle.direct_meaning.specs.Static.{Env, number, numbers}
use Rattle.placement_texts.specs.Template.{term, first_term, join_term, join_terms, form, term_names}
use Rattle.placement_texts.specs.Regions.{form_number}
use Rattle.placement_texts.proofs.Subscripts.{value-plus, dim_behind, one_more}

-- a term's value, where its dimension's is x
module _ (ds : List ℤ) (k : ℕ) (x : ℤ) (is : value ds [] (Dim k) ≡ x) where
  term_if : (a : ℤ) (t : Bool) → int_eq a (pos 1) ≡ t → value ds [] (if t then Dim k else Mul (Dim k) (Const a)) ≡ x *ℤ a
  term_if a true t =
      let e = (Decides-int_eq a (pos 1)).0 t in
      is ∙ rw e (let v : x ≡ x *ℤ pos 1 = omega (arith, ints) in v)
  term_if a false t = value-Mul ds [] (Dim k) (Const a) ∙ (λ i. is i *ℤ value-Const ds [] a i)

  value-term : (a : ℤ) → value ds [] (term k a) ≡ x *ℤ a
  value-term a = term_if a (int_eq a (pos 1)) refl

  first_if : (a : ℤ) (t : Bool) → int_eq a (neg_ℤ (pos 1)) ≡ t → value ds [] (if t then Neg (Dim k) else term k a) ≡ x *ℤ a
  first_if a true t =
      let e = (Decides-int_eq a (neg_ℤ (pos 1))).0 t in
      value-Neg ds [] (Dim k) ∙ ap neg_ℤ is ∙ rw e (let v : neg_ℤ x ≡ x *ℤ neg_ℤ (pos 1) = omega (arith, ints) in v)
  first_if a false t = value-term a

  value-first : (a : ℤ) → value ds [] (first_term k a) ≡ x *ℤ a
  value-first a = first_if a (int_eq a (neg_ℤ (pos 1))) refl

  join_if : (e : Expr) (a : ℤ) (t : Bool) → value ds [] (if t then Sub e (term k (neg_ℤ a)) else Add e (term k a)) ≡ value ds [] e +ℤ x *ℤ a
  join_if e a true =
      value-Sub ds [] e (term k (neg_ℤ a)) ∙ ap (λ w. value ds [] e -ℤ w) (value-term (neg_ℤ a))
      ∙ (let v : value ds [] e -ℤ x *ℤ neg_ℤ a ≡ value ds [] e +ℤ x *ℤ a = grind (arith, ints) in v)
  join_if e a false = value-Add ds [] e (term k a) ∙ ap (λ w. value ds [] e +ℤ w) (value-term a)

  value-join : (e : Expr) (a : ℤ) → value ds [] (join_term e k a) ≡ value ds [] e +ℤ x *ℤ a
  value-join e a = join_if e a (int_lt a (pos 0))

add_assoc : (a b c : ℤ) → (a +ℤ b) +ℤ c ≡ a +ℤ (b +ℤ c)
add_assoc a b c = omega (arith, ints)

-- the terms' sum
module _ (g : Env) where
  value-terms : (front : List ℤ) (e : Expr) (k : ℕ) (ts : List (Name × ℤ)) → length front ≡ k
      → value (front ++ numbers g (term_names ts)) [] (join_terms e k ts) ≡ value (front ++ numbers g (term_names ts)) [] e +ℤ form_number g ts (pos 0)
  value-terms front e k [] l = omega (arith, ints)
  value-terms front e k (t ∷ ts) l =
      let x = number (g.known t.0) in
      let rest = numbers g (term_names ts) in
      let again : (front ++ x ∷ []) ++ rest ≡ front ++ x ∷ rest = append_assoc front (x ∷ []) rest in
      let more = value-terms (front ++ x ∷ []) (join_term e k t.1) (suc k) ts (one_more front x k l) in
      let sum : (value (front ++ x ∷ rest) [] e +ℤ x *ℤ t.1) +ℤ form_number g ts (pos 0) ≡ value (front ++ x ∷ rest) [] e +ℤ (x *ℤ t.1 +ℤ form_number g ts (pos 0)) = add_assoc (value (front ++ x ∷ rest) [] e) (x *ℤ t.1) (form_number g ts (pos 0)) in
      subst (λ ds. value ds [] (join_terms (join_term e k t.1) (suc k) ts) ≡ value ds [] (join_term e k t.1) +ℤ form_number g ts (pos 0)) again more
      ∙ ap (λ w. w +ℤ form_number g ts (pos 0)) (value-join (front ++ x ∷ rest) k x (dim_behind [] front x rest k l) e t.1)
      ∙ sum

  sum_from : (ts : List (Name × ℤ)) (z : ℤ) → form_number g ts (pos 0) +ℤ z ≡ form_number g ts z
  sum_from [] z = omega (arith, ints)
  sum_from (t ∷ ts) z =
      let more = sum_from ts z in
      let w = number (g.known t.0) *ℤ t.1 in
      let e : (w +ℤ form_number g ts (pos 0)) +ℤ z ≡ w +ℤ (form_number g ts (pos 0) +ℤ z) = add_assoc w (form_number g ts (pos 0)) z in
      e ∙ ap (λ s. w +ℤ s) more

  -- the form's value, under its own map
  pub value-form : (ts : List (Name × ℤ)) (z : ℤ) → value (numbers g (term_names ts)) [] (form ts z) ≡ form_number g ts z
  value-form [] z = value-Const [] [] z
  value-form (t ∷ ts) z =
      let x = number (g.known t.0) in
      let ds = x ∷ numbers g (term_names ts) in
      value-plus ds [] (join_terms (first_term 0 t.1) 1 ts) z
      ∙ ap (λ w. w +ℤ z) (value-terms (x ∷ []) (first_term 0 t.1) 1 ts refl ∙ ap (λ w. w +ℤ form_number g ts (pos 0)) (value-first ds 0 x (dim_behind [] [] x (numbers g (term_names ts)) 0 refl) t.1))
      ∙ sum_from (t ∷ ts) z
