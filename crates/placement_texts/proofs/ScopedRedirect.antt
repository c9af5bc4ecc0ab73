-- A redirected access breaks no rule but tested ones.
use Rattle.std.proofs.Common.{◌≡◌, ℕ, zero, suc, ◌+◌, ◌<◌, ◌≤◌, ℤ, pos, List, [], ◌∷◌, ◌++◌, length, refl, sym, ap, ◌∙◌, subst, arith, Bool, true, false, take, drop}
use Rattle.std.specs.Prelude.{◌&&◌, Option, Some, None, nat_lt, if◌then◌else◌}
use Rattle.std.specs.Ordering.{int_eq}
use Rattle.std.specs.List.{list_all}
use Rattle.std.proofs.lemmas.Bool.{and_parts, ltb-true, lt-ltb, eqb-true, eq-eqb}
use Rattle.std.proofs.lemmas.List.{append_assoc, length-append}
use Rattle.affine_expr.specs.declared.expr.Expr.{Expr, Dim, Const, Sub, fold-Expr, fold-roll-Expr, ind-Expr, map-Expr, roll-Expr}
use Rattle.affine_expr.specs.declared.expr.Expr.TheVariants.{rolls-Dim, rolls-Const, rolls-Sub}
use Rattle.affine_expr.specs.declared.expr.Expr.TheOpen.{Expr-F}
use Rattle.affine_expr.specs.Pure.{has_leaves_below, leaves_step}
use Rattle.affine_ast.specs.declared.name.Name.{Name}
use Rattle.affine_ast.specs.declared.types.Access.{Access}
use Rattle.affine_ast.specs.Rules.{map_fits}
use Rattle.placement_texts.specs.Template.{number_of, less_by, Begin, Fixed, Named, named, less_places, in_fast}
use Rattle.placement_texts.proofs.Subscripts.{take_all, drop_all}

-- ---- leaves
pub leaves-Dim : (d s n : ℕ) → has_leaves_below d s (Dim n) ≡ nat_lt n d
unfolding has_leaves_below
leaves-Dim d s n = ap (fold-Expr Bool (leaves_step d s)) (sym (rolls-Dim n)) ∙ fold-roll-Expr Bool (leaves_step d s) (Expr-F.Dim n)

pub leaves-Const : (d s : ℕ) (z : ℤ) → has_leaves_below d s (Const z) ≡ true
unfolding has_leaves_below
leaves-Const d s z = ap (fold-Expr Bool (leaves_step d s)) (sym (rolls-Const z)) ∙ fold-roll-Expr Bool (leaves_step d s) (Expr-F.Const z)

pub leaves-Sub : (d s : ℕ) (a b : Expr) → has_leaves_below d s (Sub a b) ≡ (has_leaves_below d s a && has_leaves_below d s b)
unfolding has_leaves_below
leaves-Sub d s a b = ap (fold-Expr Bool (leaves_step d s)) (sym (rolls-Sub a b)) ∙ fold-roll-Expr Bool (leaves_step d s) (Expr-F.Sub a b)

-- more dimensions
module _ (d k s : ℕ) where
  abbrev More : Expr → Type 0
  More e = has_leaves_below d s e ≡ true → has_leaves_below (d + k) s e ≡ true

  two : (a b a' b' : Bool) → (a ≡ true → a' ≡ true) → (b ≡ true → b' ≡ true) → (a && b) ≡ true → (a' && b') ≡ true
  two a b a' b' h j e = let p = and_parts a b e in λ i. h p.0 i && j p.1 i

  more_layer : (y : Expr-F ((e : Expr) × More e)) → More (roll-Expr (map-Expr ((e : Expr) × More e) Expr (λ e. e.0) y))
  unfolding has_leaves_below
  more_layer (Expr-F.Dim n) h =
      let l = ltb-true n d (sym (fold-roll-Expr Bool (leaves_step d s) (Expr-F.Dim n)) ∙ h) in
      fold-roll-Expr Bool (leaves_step (d + k) s) (Expr-F.Dim n) ∙ lt-ltb n (d + k) (omega (arith, l))
  more_layer (Expr-F.Sym n) h = fold-roll-Expr Bool (leaves_step (d + k) s) (Expr-F.Sym n) ∙ sym (fold-roll-Expr Bool (leaves_step d s) (Expr-F.Sym n)) ∙ h
  more_layer (Expr-F.Const z) h = fold-roll-Expr Bool (leaves_step (d + k) s) (Expr-F.Const z)
  more_layer (Expr-F.Neg a) h = fold-roll-Expr Bool (leaves_step (d + k) s) (Expr-F.Neg a.0) ∙ a.1 (sym (fold-roll-Expr Bool (leaves_step d s) (Expr-F.Neg a.0)) ∙ h)
  more_layer (Expr-F.Add a b) h = fold-roll-Expr Bool (leaves_step (d + k) s) (Expr-F.Add a.0 b.0) ∙ two _ _ _ _ a.1 b.1 (sym (fold-roll-Expr Bool (leaves_step d s) (Expr-F.Add a.0 b.0)) ∙ h)
  more_layer (Expr-F.Sub a b) h = fold-roll-Expr Bool (leaves_step (d + k) s) (Expr-F.Sub a.0 b.0) ∙ two _ _ _ _ a.1 b.1 (sym (fold-roll-Expr Bool (leaves_step d s) (Expr-F.Sub a.0 b.0)) ∙ h)
  more_layer (Expr-F.Mul a b) h = fold-roll-Expr Bool (leaves_step (d + k) s) (Expr-F.Mul a.0 b.0) ∙ two _ _ _ _ a.1 b.1 (sym (fold-roll-Expr Bool (leaves_step d s) (Expr-F.Mul a.0 b.0)) ∙ h)
  more_layer (Expr-F.FloorDiv a b) h = fold-roll-Expr Bool (leaves_step (d + k) s) (Expr-F.FloorDiv a.0 b.0) ∙ two _ _ _ _ a.1 b.1 (sym (fold-roll-Expr Bool (leaves_step d s) (Expr-F.FloorDiv a.0 b.0)) ∙ h)
  more_layer (Expr-F.CeilDiv a b) h = fold-roll-Expr Bool (leaves_step (d + k) s) (Expr-F.CeilDiv a.0 b.0) ∙ two _ _ _ _ a.1 b.1 (sym (fold-roll-Expr Bool (leaves_step d s) (Expr-F.CeilDiv a.0 b.0)) ∙ h)
  more_layer (Expr-F.Mod a b) h = fold-roll-Expr Bool (leaves_step (d + k) s) (Expr-F.Mod a.0 b.0) ∙ two _ _ _ _ a.1 b.1 (sym (fold-roll-Expr Bool (leaves_step d s) (Expr-F.Mod a.0 b.0)) ∙ h)

  more_leaves : (e : Expr) → More e
  more_leaves = ind-Expr More (λ x y is. subst (λ z. More (roll-Expr z)) is (more_layer y))

less_if : (d s : ℕ) (e : Expr) (z : ℤ) (t : Bool) → has_leaves_below d s e ≡ true → has_leaves_below d s (if t then e else Sub e (Const z)) ≡ true
less_if d s e z true h = h
less_if d s e z false h = leaves-Sub d s e (Const z) ∙ (λ i. h i && leaves-Const d s z i)

less_leaves : (d s : ℕ) (o : Option ℤ) (e : Expr) (z : ℤ) → has_leaves_below d s e ≡ true → has_leaves_below d s (less_by o e z) ≡ true
less_leaves d s (Some k) e z h = leaves-Const d s _
less_leaves d s None e z h = less_if d s e z (int_eq z (pos 0)) h

-- `k0` the places before, of `k` in all
places_leaves : (d k s at : ℕ) (es : List Expr) (bs : List Begin) → d ≤ at → at + length (named bs) ≡ d + k → list_all (has_leaves_below d s) es ≡ true → list_all (has_leaves_below (d + k) s) (less_places at es bs) ≡ true
places_leaves d k s at [] bs low is h = refl
places_leaves d k s at (e ∷ es) [] low is h = all (e ∷ es) h
  where
    all : (es : List Expr) → list_all (has_leaves_below d s) es ≡ true → list_all (has_leaves_below (d + k) s) es ≡ true
    all [] h = refl
    all (e ∷ es) h = let p = and_parts _ _ h in λ i. more_leaves d k s e p.0 i && all es p.1 i
places_leaves d k s at (e ∷ es) (Fixed z ∷ bs) low is h =
    let p = and_parts _ _ h in
    λ i. less_leaves (d + k) s (number_of e) e z (more_leaves d k s e p.0) i && places_leaves d k s at es bs low is p.1 i
places_leaves d k s at (e ∷ es) (Named n ∷ bs) low is h =
    let p = and_parts _ _ h in
    let less : at < d + k = omega (arith, is) in
    λ i. (leaves-Sub (d + k) s e (Dim at) ∙ (λ j. more_leaves d k s e p.0 j && (leaves-Dim (d + k) s at ∙ lt-ltb at (d + k) less) j)) i
    && places_leaves d k s (suc at) es bs (omega (arith, low)) (omega (arith, is)) p.1 i

-- V7: the redirected map has as many operands as parameters, and these as leaves
pub in_fast_fits : (bs : List Begin) (at : Access) → map_fits at ≡ true → map_fits (in_fast bs at) ≡ true
unfolding map_fits
in_fast_fits bs at h =
    let p = and_parts _ _ h in
    let d = at.map.dims in
    let k = length (named bs) in
    let s = at.map.syms in
    let count : length at.operands ≡ d + s = eqb-true (length at.operands) (d + s) p.0 in
    let a = length-append (take d at.operands) (named bs ++ drop d at.operands) in
    let b = length-append (named bs) (drop d at.operands) in
    let c = length_parts d at.operands (omega (arith, count)) in
    let c0 = c.0 in
    let c1 = c.1 in
    let long : length (take d at.operands ++ (named bs ++ drop d at.operands)) ≡ (d + k) + s = omega (arith, a, b, c0, c1, count) in
    λ i. eq-eqb (length (take d at.operands ++ (named bs ++ drop d at.operands))) ((d + k) + s) long i
    && (leaves-Const (d + k) s (pos 0) i && places_leaves d k s d at.map.results bs (omega arith) refl p.1 i)
  where
    length_parts : (d : ℕ) (xs : List Name) → d ≤ length xs → (length (take d xs) ≡ d) × (length (drop d xs) + d ≡ length xs)
    length_parts zero xs h = (refl, omega arith)
    length_parts (suc d) [] h = absurd (omega (arith, h))
    length_parts (suc d) (x ∷ xs) h =
        let p = length_parts d xs (omega (arith, h)) in
        let p0 = p.0 in
        let p1 = p.1 in
        (omega (arith, p0), omega (arith, p1))

-- V1 and V4: all operands of the redirected access stand, where those of the access and the values that say places do
pub all_both : (f : Name → Bool) (xs ys : List Name) → list_all f xs ≡ true → list_all f ys ≡ true → list_all f (xs ++ ys) ≡ true
all_both f [] ys h k = k
all_both f (x ∷ xs) ys h k = let p = and_parts _ _ h in λ i. p.0 i && all_both f xs ys p.1 k i

all_take : (f : Name → Bool) (n : ℕ) (xs : List Name) → list_all f xs ≡ true → list_all f (take n xs) ≡ true
all_take f zero xs h = refl
all_take f (suc n) [] h = refl
all_take f (suc n) (x ∷ xs) h = let p = and_parts _ _ h in λ i. p.0 i && all_take f n xs p.1 i

all_drop : (f : Name → Bool) (n : ℕ) (xs : List Name) → list_all f xs ≡ true → list_all f (drop n xs) ≡ true
all_drop f zero xs h = h
all_drop f (suc n) [] h = refl
all_drop f (suc n) (x ∷ xs) h = let p = and_parts _ _ h in all_drop f n xs p.1

pub in_fast_uses : (f : Name → Bool) (bs : List Begin) (at : Access) → list_all f at.operands ≡ true → list_all f (named bs) ≡ true → list_all f (in_fast bs at).operands ≡ true
in_fast_uses f bs at h k = all_both f (take at.map.dims at.operands) _ (all_take f at.map.dims at.operands h) (all_both f (named bs) _ k (all_drop f at.map.dims at.operands h))

-- its dimensions are those of the access and the values that say places, its symbols those of the access
pub in_fast_dims : (bs : List Begin) (at : Access) → at.map.dims ≤ length at.operands → take (in_fast bs at).map.dims (in_fast bs at).operands ≡ take at.map.dims at.operands ++ named bs
in_fast_dims bs at h =
    let d = at.map.dims in
    let xs = take d at.operands in
    let shape : xs ++ (named bs ++ drop d at.operands) ≡ (xs ++ named bs) ++ drop d at.operands = sym (append_assoc xs (named bs) (drop d at.operands)) in
    let a = length-append xs (named bs) in
    let b = length_take d at.operands h in
    ap (take (d + length (named bs))) shape ∙ take_all (xs ++ named bs) (drop d at.operands) (d + length (named bs)) (omega (arith, a, b))
  where
    length_take : (n : ℕ) (xs : List Name) → n ≤ length xs → length (take n xs) ≡ n
    length_take zero xs h = refl
    length_take (suc n) [] h = absurd (omega (arith, h))
    length_take (suc n) (x ∷ xs) h = let e = length_take n xs (omega (arith, h)) in omega (arith, e)

pub in_fast_syms : (bs : List Begin) (at : Access) → at.map.dims ≤ length at.operands → drop (in_fast bs at).map.dims (in_fast bs at).operands ≡ drop at.map.dims at.operands
in_fast_syms bs at h =
    let d = at.map.dims in
    let xs = take d at.operands in
    let shape : xs ++ (named bs ++ drop d at.operands) ≡ (xs ++ named bs) ++ drop d at.operands = sym (append_assoc xs (named bs) (drop d at.operands)) in
    let a = length-append xs (named bs) in
    let b = length_take d at.operands h in
    ap (drop (d + length (named bs))) shape ∙ drop_all (xs ++ named bs) (drop d at.operands) (d + length (named bs)) (omega (arith, a, b))
  where
    length_take : (n : ℕ) (xs : List Name) → n ≤ length xs → length (take n xs) ≡ n
    length_take zero xs h = refl
    length_take (suc n) [] h = absurd (omega (arith, h))
    length_take (suc n) (x ∷ xs) h = let e = length_take n xs (omega (arith, h)) in omega (arith, e)
