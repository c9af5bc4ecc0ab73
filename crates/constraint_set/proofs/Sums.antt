-- The loop that adds products from the left, and what its sums are.
use Rattle.std.proofs.Common.{◌≡◌, ℕ, zero, suc, ◌+◌, ◌<◌, ◌≤◌, Bool, true, false, ◌&&◌, not, IsTrue, ◌↔◌, List, [], ◌∷◌, length, drop, get_or, Option, Some, None, IfSome, ℤ, pos, ◌+ℤ◌, ◌*ℤ◌, ◌≤ℤ◌, ◌<ℤ◌, int_lt, arith, refl, sym, ap, ◌∙◌, add-one, subst}
use Rattle.std.proofs.lemmas.Int.{ints}
use Rattle.num_row.specs.Ints.{narrowed, ◌>>=◌}
use Rattle.num_row.proofs.Narrow.{narrowed_some}
use Rattle.constraint_set.specs.Lists.{Each}
use Rattle.constraint_set.specs.Points.{LinearRow, LinearSystem, dot, dot_from, value_at, fitting_value, all_hold, HoldsAtPoint, PointOf}

-- what a sum so far becomes by one more product
abbrev pub turn_of : ℤ → List ℤ → List ℤ → ℕ → Option ℤ → Option ℤ
turn_of sum cs ps i o = o >>= (λ product. narrowed (sum +ℤ product) >>= (λ more. dot_from more (drop i cs) (drop i ps)))

drop_turn : (cs ps : List ℤ) (i : ℕ) (sum : ℤ) → i < length cs → length cs ≡ length ps
    → dot_from sum (drop i cs) (drop i ps) ≡ turn_of sum cs ps (suc i) (narrowed (get_or cs i (pos 0) *ℤ get_or ps i (pos 0)))
drop_turn [] ps i sum h e = absurd (omega arith)
drop_turn (c ∷ cs) [] i sum h e = absurd (omega arith)
drop_turn (c ∷ cs) (p ∷ ps) zero sum h e = refl
drop_turn (c ∷ cs) (p ∷ ps) (suc i) sum h e = drop_turn cs ps i sum (omega arith) (omega arith)

module _ (cs ps : List ℤ) (i : ℕ) (sum : ℤ) (h : i < length cs) (e : length cs ≡ length ps) where
  pub no_product : narrowed (get_or cs i (pos 0) *ℤ get_or ps i (pos 0)) ≡ None → dot_from sum (drop i cs) (drop i ps) ≡ None
  no_product f = drop_turn cs ps i sum h e ∙ ap (turn_of sum cs ps (suc i)) f

  pub no_sum : (x : ℤ) → narrowed (get_or cs i (pos 0) *ℤ get_or ps i (pos 0)) ≡ Some x → narrowed (sum +ℤ x) ≡ None → dot_from sum (drop i cs) (drop i ps) ≡ None
  no_sum x f g = drop_turn cs ps i sum h e ∙ ap (turn_of sum cs ps (suc i)) f ∙ ap (λ o. o >>= (λ more. dot_from more (drop (suc i) cs) (drop (suc i) ps))) g

  pub more : (x y : ℤ) → narrowed (get_or cs i (pos 0) *ℤ get_or ps i (pos 0)) ≡ Some x → narrowed (sum +ℤ x) ≡ Some y → dot_from sum (drop i cs) (drop i ps) ≡ dot_from y (drop (i + 1) cs) (drop (i + 1) ps)
  more x y f g = rw add-one (drop_turn cs ps i sum h e ∙ ap (turn_of sum cs ps (suc i)) f ∙ ap (λ o. o >>= (λ more. dot_from more (drop (suc i) cs) (drop (suc i) ps))) g)

pub ended : (cs ps : List ℤ) (i : ℕ) (sum : ℤ) → length cs ≤ i → dot_from sum (drop i cs) (drop i ps) ≡ Some sum
ended [] ps zero sum h = refl
ended [] ps (suc i) sum h = refl
ended (c ∷ cs) ps zero sum h = absurd (omega arith)
ended (c ∷ cs) [] (suc i) sum h = nothing (drop i cs) sum
  where
    nothing : (cs : List ℤ) (sum : ℤ) → dot_from sum cs [] ≡ Some sum
    nothing [] sum = refl
    nothing (c ∷ cs) sum = refl
ended (c ∷ cs) (p ∷ ps) (suc i) sum h = ended cs ps i sum (omega arith)

-- ---- what a value that fits is
pub some_of : {A B : Type 0} (o : Option A) (f : A → Option B) (b : B) → (o >>= f) ≡ Some b → (a : A) × ((o ≡ Some a) × (f a ≡ Some b))
some_of None f b h = absurd (let x : ⊥ = cc in x)
some_of (Some a) f b h = (a, (refl, h))

dot_from_is : (sum : ℤ) (cs ps : List ℤ) (v : ℤ) → dot_from sum cs ps ≡ Some v → v ≡ sum +ℤ dot cs ps
dot_from_is sum [] ps v h = let e : sum ≡ v = cc in omega (arith, ints, e)
dot_from_is sum (c ∷ cs) [] v h = let e : sum ≡ v = cc in omega (arith, ints, e)
dot_from_is sum (c ∷ cs) (p ∷ ps) v h =
    let first = some_of (narrowed (c *ℤ p)) (λ product. narrowed (sum +ℤ product) >>= (λ more. dot_from more cs ps)) v h in
    let second = some_of (narrowed (sum +ℤ first.0)) (λ more. dot_from more cs ps) v first.1.1 in
    let rest = dot_from_is second.0 cs ps v second.1.1 in
    let x = (narrowed_some (c *ℤ p) first.0 first.1.0).0 in
    let y = (narrowed_some (sum +ℤ first.0) second.0 second.1.0).0 in
    omega (arith, ints, rest, x, y)

value_is : (r : LinearRow) (p : List ℤ) (q v : ℤ) → fitting_value r p q ≡ Some v → v ≡ value_at r p q
value_is r p q v h =
    let first = some_of (dot_from (pos 0) r.coefs p) (λ sum. narrowed (r.constant *ℤ q) >>= (λ product. narrowed (sum +ℤ product))) v h in
    let second = some_of (narrowed (r.constant *ℤ q)) (λ product. narrowed (first.0 +ℤ product)) v first.1.1 in
    let d = dot_from_is (pos 0) r.coefs p first.0 first.1.0 in
    let x = (narrowed_some (r.constant *ℤ q) second.0 second.1.0).0 in
    let y = (narrowed_some (first.0 +ℤ second.0) v second.1.1).0 in
    omega (arith, ints, d, x, y)

holds_by : (v w : ℤ) (b : Bool) (P : Type 0) → v ≡ w → (IsTrue b ↔ P) → IsTrue (not (int_lt v (pos 0)) && b) ↔ ((pos 0 ≤ℤ w) × P)
holds_by v w b P e h = by (int_lt v (pos 0)) refl
  where
    by : (t : Bool) → int_lt v (pos 0) ≡ t → IsTrue (not t && b) ↔ ((pos 0 ≤ℤ w) × P)
    by true f = ((λ x. absurd (let y : ⊥ = cc in y)), (λ x. absurd (let y : ⊥ = omega (arith, ints, x.0, e, f) in y)))
    by false f = ((λ x. (omega (arith, ints, e, f), h.0 x)), (λ x. h.1 x.1))

-- whether all rows hold, where the test has an answer
pub all_hold_is : (rows : List LinearRow) (p : List ℤ) (q : ℤ) (b : Bool) → all_hold rows p q ≡ Some b → IsTrue b ↔ Each (HoldsAtPoint p q) rows
all_hold_is [] p q b h = let e : true ≡ b = cc in subst (λ t. IsTrue t ↔ Unit {0}) e ((λ x. tt), (λ x. refl))
all_hold_is (r ∷ rs) p q b h =
    let first = some_of (fitting_value r p q) (λ value. all_hold rs p q >>= (λ rest. Some (not (int_lt value (pos 0)) && rest))) b h in
    let second = some_of (all_hold rs p q) (λ rest. Some (not (int_lt first.0 (pos 0)) && rest)) b first.1.1 in
    let e : (not (int_lt first.0 (pos 0)) && second.0) ≡ b = cc in
    subst (λ t. IsTrue t ↔ Each (HoldsAtPoint p q) (r ∷ rs)) e (holds_by first.0 (value_at r p q) second.0 (Each (HoldsAtPoint p q) rs) (value_is r p q first.0 first.1.0) (all_hold_is rs p q second.0 second.1.0))

pub holds_exact : (s : LinearSystem) (p : List ℤ) (q : ℤ) (o : Option Bool) → length p ≡ s.vars → pos 0 <ℤ q → o ≡ all_hold s.rows p q → IfSome o (λ holds. IsTrue holds ↔ PointOf s p q)
holds_exact s p q None long scale e = tt
holds_exact s p q (Some b) long scale e =
    let h = all_hold_is s.rows p q b (sym e) in
    ((λ x. record { as_long = long; point = (scale, h.0 x) }), (λ x. h.1 x.point.1))
