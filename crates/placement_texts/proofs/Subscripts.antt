-- The values of the template's expressions and subscripts.
use Rattle.std.proofs.Common.{◌≡◌, ℕ, zero, suc, ◌+◌, ◌-◌, ◌≤◌, ℤ, pos, ◌+ℤ◌, ◌-ℤ◌, ◌*ℤ◌, List, [], ◌∷◌, ◌++◌, length, get_or, refl, sym, ap, ◌∙◌, subst, arith, Bool, true, false, map, take, drop}
use Rattle.std.specs.Prelude.{Option, Some, None, neg_ℤ, int_lt, if◌then◌else◌}
use Rattle.std.specs.Ordering.{int_eq}
use Rattle.std.specs.List.{list_all}
use Rattle.std.proofs.lemmas.Int.{ints}
use Rattle.std.proofs.lemmas.Bool.{and_parts, ltb-true, eqb-true}
use Rattle.std.proofs.lemmas.Bool.Decides.{Decides-int_eq}
use Rattle.std.proofs.lemmas.List.{get_or_append_left, get_or-append_right, length-append, append_assoc}
use Rattle.affine_expr.specs.declared.expr.Expr.{Expr, Dim, Const, Add, Sub, fold-roll-Expr, ind-Expr, map-Expr, roll-Expr}
use Rattle.affine_expr.specs.declared.expr.Expr.TheOpen.{Expr-F}
use Rattle.affine_expr.specs.Value.{value, value_step, floor_div, ceil_div, floor_mod}
use Rattle.affine_expr.specs.Pure.{has_leaves_below, leaves_step}
use Rattle.affine_expr.proofs.Values.{value-Dim, value-Const, value-Add, value-Sub}
use Rattle.affine_ast.specs.declared.name.Name.{Name}
use Rattle.affine_ast.specs.declared.types.Access.{Access}
use Rattle.affine_ast.specs.Rules.{map_fits}
use Rattle.direct_meaning.specs.Static.{Env, number, numbers, results_of}
use Rattle.placement_texts.specs.Template.{number_step, number_of, less_by, less, plus, Begin, Fixed, Named, named, less_places, in_fast}

-- ---- sums, folded

-- an expression that is one number has it as its value
module _ (ds ss : List ℤ) where
  abbrev IsNumber : Expr → Type 0
  IsNumber e = (k : ℤ) → number_of e ≡ Some k → value ds ss e ≡ k

  not_there : {A : Type 0} (k : ℤ) → None ≡ Some k → A
  not_there k h = absurd (cc)

  number_layer : (y : Expr-F ((e : Expr) × IsNumber e)) → IsNumber (roll-Expr (map-Expr ((e : Expr) × IsNumber e) Expr (λ e. e.0) y))
  unfolding number_of value
  number_layer (Expr-F.Const z) k h = let e : Some z ≡ Some k = sym (fold-roll-Expr (Option ℤ) number_step (Expr-F.Const z)) ∙ h in fold-roll-Expr ℤ (value_step ds ss) (Expr-F.Const z) ∙ (cc)
  number_layer (Expr-F.Dim n) k h = not_there k (sym (fold-roll-Expr (Option ℤ) number_step (Expr-F.Dim n)) ∙ h)
  number_layer (Expr-F.Sym n) k h = not_there k (sym (fold-roll-Expr (Option ℤ) number_step (Expr-F.Sym n)) ∙ h)
  number_layer (Expr-F.Neg a) k h = not_there k (sym (fold-roll-Expr (Option ℤ) number_step (Expr-F.Neg a.0)) ∙ h)
  number_layer (Expr-F.Add a b) k h = not_there k (sym (fold-roll-Expr (Option ℤ) number_step (Expr-F.Add a.0 b.0)) ∙ h)
  number_layer (Expr-F.Sub a b) k h = not_there k (sym (fold-roll-Expr (Option ℤ) number_step (Expr-F.Sub a.0 b.0)) ∙ h)
  number_layer (Expr-F.Mul a b) k h = not_there k (sym (fold-roll-Expr (Option ℤ) number_step (Expr-F.Mul a.0 b.0)) ∙ h)
  number_layer (Expr-F.FloorDiv a b) k h = not_there k (sym (fold-roll-Expr (Option ℤ) number_step (Expr-F.FloorDiv a.0 b.0)) ∙ h)
  number_layer (Expr-F.CeilDiv a b) k h = not_there k (sym (fold-roll-Expr (Option ℤ) number_step (Expr-F.CeilDiv a.0 b.0)) ∙ h)
  number_layer (Expr-F.Mod a b) k h = not_there k (sym (fold-roll-Expr (Option ℤ) number_step (Expr-F.Mod a.0 b.0)) ∙ h)

  is_number : (e : Expr) → IsNumber e
  is_number = ind-Expr IsNumber (λ x y is. subst (λ z. IsNumber (roll-Expr z)) is (number_layer y))

  zero_test : (z : ℤ) → int_eq z (pos 0) ≡ true → z ≡ pos 0
  zero_test z h = (Decides-int_eq z (pos 0)).0 h

  less_if : (e : Expr) (z : ℤ) (t : Bool) → int_eq z (pos 0) ≡ t → value ds ss (if t then e else Sub e (Const z)) ≡ value ds ss e -ℤ z
  less_if e z true t =
      let k = zero_test z t in
      rw k (let v : value ds ss e ≡ value ds ss e -ℤ pos 0 = omega (arith, ints) in v)
  less_if e z false t = value-Sub ds ss e (Const z) ∙ ap (λ w. value ds ss e -ℤ w) (value-Const ds ss z)

  less_by_value : (o : Option ℤ) (e : Expr) (z : ℤ) → number_of e ≡ o → value ds ss (less_by o e z) ≡ value ds ss e -ℤ z
  less_by_value (Some k) e z h = value-Const ds ss (k -ℤ z) ∙ ap (λ w. w -ℤ z) (sym (is_number e k h))
  less_by_value None e z h = less_if e z (int_eq z (pos 0)) refl

  pub value-less : (e : Expr) (z : ℤ) → value ds ss (less e z) ≡ value ds ss e -ℤ z
  value-less e z = less_by_value (number_of e) e z refl

  plus_if : (e : Expr) (z : ℤ) (t u : Bool) → int_eq z (pos 0) ≡ t → value ds ss (if t then e else (if u then Sub e (Const (neg_ℤ z)) else Add e (Const z))) ≡ value ds ss e +ℤ z
  plus_if e z true u t =
      let k = zero_test z t in
      rw k (let v : value ds ss e ≡ value ds ss e +ℤ pos 0 = omega (arith, ints) in v)
  plus_if e z false true t =
      value-Sub ds ss e (Const (neg_ℤ z)) ∙ ap (λ w. value ds ss e -ℤ w) (value-Const ds ss (neg_ℤ z))
      ∙ (let v : value ds ss e -ℤ neg_ℤ z ≡ value ds ss e +ℤ z = omega (arith, ints) in v)
  plus_if e z false false t = value-Add ds ss e (Const z) ∙ ap (λ w. value ds ss e +ℤ w) (value-Const ds ss z)

  pub value-plus : (e : Expr) (z : ℤ) → value ds ss (plus e z) ≡ value ds ss e +ℤ z
  value-plus e z = plus_if e z (int_eq z (pos 0)) (int_lt z (pos 0)) refl

-- ---- more dimensions than an expression has

module _ (ds more ss : List ℤ) (syms : ℕ) where
  abbrev Stays : Expr → Type 0
  Stays e = has_leaves_below (length ds) syms e ≡ true → value (ds ++ more) ss e ≡ value ds ss e

  stays_layer : (y : Expr-F ((e : Expr) × Stays e)) → Stays (roll-Expr (map-Expr ((e : Expr) × Stays e) Expr (λ e. e.0) y))
  unfolding has_leaves_below value
  stays_layer (Expr-F.Dim n) h =
      fold-roll-Expr ℤ (value_step (ds ++ more) ss) (Expr-F.Dim n)
      ∙ get_or_append_left ds more (pos 0) n (ltb-true n (length ds) (sym (fold-roll-Expr Bool (leaves_step (length ds) syms) (Expr-F.Dim n)) ∙ h))
      ∙ sym (fold-roll-Expr ℤ (value_step ds ss) (Expr-F.Dim n))
  stays_layer (Expr-F.Sym n) h = fold-roll-Expr ℤ (value_step (ds ++ more) ss) (Expr-F.Sym n) ∙ sym (fold-roll-Expr ℤ (value_step ds ss) (Expr-F.Sym n))
  stays_layer (Expr-F.Const z) h = fold-roll-Expr ℤ (value_step (ds ++ more) ss) (Expr-F.Const z) ∙ sym (fold-roll-Expr ℤ (value_step ds ss) (Expr-F.Const z))
  stays_layer (Expr-F.Neg a) h =
      fold-roll-Expr ℤ (value_step (ds ++ more) ss) (Expr-F.Neg a.0)
      ∙ ap neg_ℤ (a.1 (sym (fold-roll-Expr Bool (leaves_step (length ds) syms) (Expr-F.Neg a.0)) ∙ h))
      ∙ sym (fold-roll-Expr ℤ (value_step ds ss) (Expr-F.Neg a.0))
  stays_layer (Expr-F.Add a b) h =
      let p = and_parts _ _ (sym (fold-roll-Expr Bool (leaves_step (length ds) syms) (Expr-F.Add a.0 b.0)) ∙ h) in
      fold-roll-Expr ℤ (value_step (ds ++ more) ss) (Expr-F.Add a.0 b.0)
      ∙ (λ i. a.1 p.0 i +ℤ b.1 p.1 i)
      ∙ sym (fold-roll-Expr ℤ (value_step ds ss) (Expr-F.Add a.0 b.0))
  stays_layer (Expr-F.Sub a b) h =
      let p = and_parts _ _ (sym (fold-roll-Expr Bool (leaves_step (length ds) syms) (Expr-F.Sub a.0 b.0)) ∙ h) in
      fold-roll-Expr ℤ (value_step (ds ++ more) ss) (Expr-F.Sub a.0 b.0)
      ∙ (λ i. a.1 p.0 i -ℤ b.1 p.1 i)
      ∙ sym (fold-roll-Expr ℤ (value_step ds ss) (Expr-F.Sub a.0 b.0))
  stays_layer (Expr-F.Mul a b) h =
      let p = and_parts _ _ (sym (fold-roll-Expr Bool (leaves_step (length ds) syms) (Expr-F.Mul a.0 b.0)) ∙ h) in
      fold-roll-Expr ℤ (value_step (ds ++ more) ss) (Expr-F.Mul a.0 b.0)
      ∙ (λ i. a.1 p.0 i *ℤ b.1 p.1 i)
      ∙ sym (fold-roll-Expr ℤ (value_step ds ss) (Expr-F.Mul a.0 b.0))
  stays_layer (Expr-F.FloorDiv a b) h =
      let p = and_parts _ _ (sym (fold-roll-Expr Bool (leaves_step (length ds) syms) (Expr-F.FloorDiv a.0 b.0)) ∙ h) in
      fold-roll-Expr ℤ (value_step (ds ++ more) ss) (Expr-F.FloorDiv a.0 b.0)
      ∙ (λ i. floor_div (a.1 p.0 i) (b.1 p.1 i))
      ∙ sym (fold-roll-Expr ℤ (value_step ds ss) (Expr-F.FloorDiv a.0 b.0))
  stays_layer (Expr-F.CeilDiv a b) h =
      let p = and_parts _ _ (sym (fold-roll-Expr Bool (leaves_step (length ds) syms) (Expr-F.CeilDiv a.0 b.0)) ∙ h) in
      fold-roll-Expr ℤ (value_step (ds ++ more) ss) (Expr-F.CeilDiv a.0 b.0)
      ∙ (λ i. ceil_div (a.1 p.0 i) (b.1 p.1 i))
      ∙ sym (fold-roll-Expr ℤ (value_step ds ss) (Expr-F.CeilDiv a.0 b.0))
  stays_layer (Expr-F.Mod a b) h =
      let p = and_parts _ _ (sym (fold-roll-Expr Bool (leaves_step (length ds) syms) (Expr-F.Mod a.0 b.0)) ∙ h) in
      fold-roll-Expr ℤ (value_step (ds ++ more) ss) (Expr-F.Mod a.0 b.0)
      ∙ (λ i. floor_mod (a.1 p.0 i) (b.1 p.1 i))
      ∙ sym (fold-roll-Expr ℤ (value_step ds ss) (Expr-F.Mod a.0 b.0))

  pub value_stays : (e : Expr) → Stays e
  value_stays = ind-Expr Stays (λ x y is. subst (λ z. Stays (roll-Expr z)) is (stays_layer y))

-- ---- where the box begins, as numbers

abbrev pub begin_number : Env → Begin → ℤ
begin_number g (Fixed z) = z
begin_number g (Named n) = number (g.known n)

abbrev pub begin_numbers : Env → List Begin → List ℤ
begin_numbers g bs = map (begin_number g) bs

abbrev pub minus_each : List ℤ → List ℤ → List ℤ
minus_each [] ps = []
minus_each (z ∷ zs) [] = z ∷ zs
minus_each (z ∷ zs) (p ∷ ps) = (z -ℤ p) ∷ minus_each zs ps

-- the dimension behind others
pub dim_behind : (ss front : List ℤ) (x : ℤ) (back : List ℤ) (k : ℕ) → length front ≡ k → value (front ++ x ∷ back) ss (Dim k) ≡ x
dim_behind ss front x back k h =
    value-Dim (front ++ x ∷ back) ss k
    ∙ get_or-append_right front (x ∷ back) k k (pos 0) h (omega arith)
    ∙ ap (λ n. get_or (x ∷ back) n (pos 0)) (let e : k - k ≡ 0 = omega arith in e)

pub one_more : (xs : List ℤ) (x : ℤ) (k : ℕ) → length xs ≡ k → length (xs ++ x ∷ []) ≡ suc k
one_more xs x k h = let e = length-append xs (x ∷ []) in omega (arith, e, h)

module _ (g : Env) (ss : List ℤ) (syms : ℕ) where
  -- `ds` the dimensions of the expressions, then the values that say places, those before and those that are left
  places_less : (ds front : List ℤ) (k : ℕ) (es : List Expr) (bs : List Begin) → length (ds ++ front) ≡ k → list_all (has_leaves_below (length ds) syms) es ≡ true
      → map (value (ds ++ (front ++ numbers g (named bs))) ss) (less_places k es bs) ≡ minus_each (map (value ds ss) es) (begin_numbers g bs)
  places_less ds front k [] bs l h = refl
  places_less ds front k (e ∷ es) [] l h = same (e ∷ es) h
    where
      same : (es : List Expr) → list_all (has_leaves_below (length ds) syms) es ≡ true → map (value (ds ++ (front ++ [])) ss) es ≡ map (value ds ss) es
      same [] h = refl
      same (e ∷ es) h = let p = and_parts _ _ h in λ i. value_stays ds (front ++ []) ss syms e p.0 i ∷ same es p.1 i
  places_less ds front k (e ∷ es) (Fixed z ∷ bs) l h =
      let p = and_parts _ _ h in
      let more = front ++ numbers g (named bs) in
      λ i. (value-less (ds ++ more) ss e z ∙ ap (λ w. w -ℤ z) (value_stays ds more ss syms e p.0)) i ∷ places_less ds front k es bs l p.1 i
  places_less ds front k (e ∷ es) (Named n ∷ bs) l h =
      let p = and_parts _ _ h in
      let x = number (g.known n) in
      let rest = numbers g (named bs) in
      let shape : ds ++ (front ++ x ∷ rest) ≡ (ds ++ front) ++ x ∷ rest = sym (append_assoc ds front (x ∷ rest)) in
      let again : ds ++ (front ++ x ∷ rest) ≡ ds ++ ((front ++ x ∷ []) ++ rest) = ap (λ l. ds ++ l) (sym (append_assoc front (x ∷ []) rest)) in
      let longer : length (ds ++ (front ++ x ∷ [])) ≡ suc k = ap length (sym (append_assoc ds front (x ∷ []))) ∙ one_more (ds ++ front) x k l in
      λ i. (value-Sub (ds ++ (front ++ x ∷ rest)) ss e (Dim k)
      ∙ (λ j. value_stays ds (front ++ x ∷ rest) ss syms e p.0 j -ℤ (ap (λ l. value l ss (Dim k)) shape ∙ dim_behind ss (ds ++ front) x rest k l) j)) i
      ∷ (ap (λ l. map (value l ss) (less_places (suc k) es bs)) again ∙ places_less ds (front ++ x ∷ []) (suc k) es bs longer p.1) i

-- ---- the redirected access

pub numbers_append : (g : Env) (xs ys : List Name) → numbers g (xs ++ ys) ≡ numbers g xs ++ numbers g ys
numbers_append g [] ys = refl
numbers_append g (x ∷ xs) ys = ap (λ l. number (g.known x) ∷ l) (numbers_append g xs ys)

pub length_numbers : (g : Env) (xs : List Name) → length (numbers g xs) ≡ length xs
length_numbers g [] = refl
length_numbers g (x ∷ xs) = ap suc (length_numbers g xs)

pub take_all : {A : Type 0} (xs ys : List A) (n : ℕ) → length xs ≡ n → take n (xs ++ ys) ≡ xs
take_all [] ys n h = ap (λ n. take n ys) (sym h)
take_all (x ∷ xs) ys zero h = absurd (omega (arith, h))
take_all (x ∷ xs) ys (suc n) h = ap (λ l. x ∷ l) (take_all xs ys n (omega (arith, h)))

pub drop_all : {A : Type 0} (xs ys : List A) (n : ℕ) → length xs ≡ n → drop n (xs ++ ys) ≡ ys
drop_all [] ys n h = ap (λ n. drop n ys) (sym h)
drop_all (x ∷ xs) ys zero h = absurd (omega (arith, h))
drop_all (x ∷ xs) ys (suc n) h = drop_all xs ys n (omega (arith, h))

length_take : {A : Type 0} (xs : List A) (n : ℕ) → n ≤ length xs → length (take n xs) ≡ n
length_take xs zero h = refl
length_take [] (suc n) h = absurd (omega (arith, h))
length_take (x ∷ xs) (suc n) h = ap suc (length_take xs n (omega (arith, h)))

-- the subscripts of the redirected access, where those of the access are under its own values
pub in_fast_results : (g : Env) (bs : List Begin) (at : Access) → map_fits at ≡ true → results_of g (in_fast bs at) ≡ pos 0 ∷ minus_each (results_of g at) (begin_numbers g bs)
unfolding results_of map_fits
in_fast_results g bs at fits =
    let p = and_parts _ _ fits in
    let count : length at.operands ≡ at.map.dims + at.map.syms = eqb-true (length at.operands) (at.map.dims + at.map.syms) p.0 in
    let zs = numbers g at.operands in
    let d = at.map.dims in
    let ds = take d zs in
    let ss = drop d zs in
    let vs = numbers g (named bs) in
    let long : length zs ≡ length at.operands = length_numbers g at.operands in
    let ds_long : length ds ≡ d = length_take zs d (omega (arith, long, count)) in
    let all : numbers g (take d at.operands ++ (named bs ++ drop d at.operands)) ≡ (ds ++ vs) ++ ss =
    numbers_append g (take d at.operands) (named bs ++ drop d at.operands)
    ∙ (λ i. numbers_take d at.operands i ++ (numbers_append g (named bs) (drop d at.operands) ∙ ap (λ l. vs ++ l) (numbers_drop d at.operands)) i)
    ∙ sym (append_assoc ds vs ss) in
    let front_long : length (ds ++ vs) ≡ d + length (named bs) =
    (let e = length-append ds vs in let v = length_numbers g (named bs) in omega (arith, e, v, ds_long)) in
    let leaves : list_all (has_leaves_below (length ds) at.map.syms) at.map.results ≡ true = ap (λ n. list_all (has_leaves_below n at.map.syms) at.map.results) ds_long ∙ p.1 in
    let none : length (ds ++ []) ≡ d = (let e = length-append ds [] in omega (arith, e, ds_long)) in
    (λ i. map (value (take (d + length (named bs)) (all i)) (drop (d + length (named bs)) (all i))) (Const (pos 0) ∷ less_places d at.map.results bs))
    ∙ (λ i. map (value (take_all (ds ++ vs) ss (d + length (named bs)) front_long i) (drop_all (ds ++ vs) ss (d + length (named bs)) front_long i)) (Const (pos 0) ∷ less_places d at.map.results bs))
    ∙ (λ i. value-Const (ds ++ vs) ss (pos 0) i ∷ places_less g ss at.map.syms ds [] d at.map.results bs none leaves i)
  where
    numbers_take : (n : ℕ) (xs : List Name) → numbers g (take n xs) ≡ take n (numbers g xs)
    numbers_take zero xs = refl
    numbers_take (suc n) [] = refl
    numbers_take (suc n) (x ∷ xs) = ap (λ l. number (g.known x) ∷ l) (numbers_take n xs)

    numbers_drop : (n : ℕ) (xs : List Name) → numbers g (drop n xs) ≡ drop n (numbers g xs)
    numbers_drop zero xs = refl
    numbers_drop (suc n) [] = refl
    numbers_drop (suc n) (x ∷ xs) = numbers_drop n xs
