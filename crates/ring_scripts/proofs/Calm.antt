-- Transfers of turns without a clash have no place in common.
use Rattle.std.proofs.Common.{◌≡◌, ◌≢◌, ℕ, suc, ◌+◌, ◌*◌, ◌<◌, ◌≤◌, ℤ, pos, negsuc, List, [], ◌∷◌, ◌++◌, length, refl, sym, ap, ◌∙◌, subst, arith, Bool, true, false}
use Rattle.std.specs.Prelude.{◌&&◌, Option, Some, None, Ok, nat_eq, nat_le, nat_lt, if◌then◌else◌}
use Rattle.std.proofs.lemmas.Bool.{eqb-true, eqb-false, lt-ltb, ltb-true}
use Rattle.std.proofs.Math.Nat.{mul-le-mul_right}
use Rattle.bus_model.specs.declared.transfer.Transfer.{Transfer}
use Rattle.bus_model.specs.Places.{slow_place, meets}
use Rattle.bus_model.proofs.Places.{meets_nowhere}
use Rattle.nest_domain.specs.Boxes.{Dimension, AllIn, later_turn}
use Rattle.affine_ast.specs.Sizes.{product}
use Rattle.direct_meaning.specs.Action.{Place, Slow, Outside}
use Rattle.direct_meaning.specs.Static.{cell_in, row_major, slow_at, within}
use Rattle.direct_meaning.specs.Transfers.{overlap}
use Rattle.dependence.proofs.Apart.{no_clash_is_apart}
use Rattle.placement_texts.specs.Boxes.{is_of}
use Rattle.ring_runs.proofs.Extras.{no_overlap}
use Rattle.ring_scripts.specs.Calm.{CarriesBox, NoClashIsCalm, ElsewhereIsCalm}

-- ---- an element's number tells its subscripts
record Inside (z : ℤ) (n k : ℕ) : Type 0 where
  is : z ≡ pos k
  below : k < n

within_is : (z : ℤ) (n k : ℕ) → within z n ≡ Some k → Inside z n k
within_is (pos j) n k h = by (nat_lt j n) refl h
  where
    by : (t : Bool) → nat_lt j n ≡ t → (if t then Some j else None) ≡ Some k → Inside (pos j) n k
    by true t h = let e : j ≡ k = cc in record { is = ap pos e; below = (let l = ltb-true j n t in omega (arith, l, e)) }
    by false t h = absurd (let y : ⊥ = cc in y)
within_is (negsuc j) n k h = absurd (let y : ⊥ = cc in y)

record Row (o r : Option ℕ) (m c : ℕ) : Type 0 where
  row : ℕ
  rest : ℕ
  has_row : o ≡ Some row
  has_rest : r ≡ Some rest
  is : row * m + rest ≡ c

row_of : (o r : Option ℕ) (m c : ℕ) → row_major o m r ≡ Some c → Row o r m c
row_of None r m c h = absurd (let y : ⊥ = cc in y)
row_of (Some k) None m c h = absurd (let y : ⊥ = cc in y)
row_of (Some k) (Some j) m c h = record { row = k; rest = j; has_row = refl; has_rest = refl; is = (let e : k * m + j ≡ c = cc in e) }

cell_below : (ns : List ℕ) (zs : List ℤ) (c : ℕ) → cell_in ns zs ≡ Some c → c < product ns
cell_below [] [] c h = let e : 0 ≡ c = cc in omega (arith, e)
cell_below (n ∷ ns) (z ∷ zs) c h =
    let r = row_of (within z n) (cell_in ns zs) (product ns) c h in
    let low = (within_is z n r.row r.has_row).below in
    let rest = cell_below ns zs r.rest r.has_rest in
    let e = r.is in
    let m : suc r.row * product ns ≤ n * product ns = mul-le-mul_right (product ns) (omega (arith, low)) in
    let s : suc r.row * product ns ≡ product ns + r.row * product ns = grind arith in
    omega (arith, rest, e, m, s)
cell_below [] (z ∷ zs) c h = absurd (let y : ⊥ = cc in y)
cell_below (n ∷ ns) [] c h = absurd (let y : ⊥ = cc in y)

-- a number is one row and one rest below the row's length
same_row : (a b j k m : ℕ) → j < m → k < m → a * m + j ≡ b * m + k → a ≡ b
same_row a b j k m p q e = by (nat_eq a b) refl (nat_lt a b) refl
  where
    by : (s : Bool) → nat_eq a b ≡ s → (t : Bool) → nat_lt a b ≡ t → a ≡ b
    by true s t u = eqb-true a b s
    by false s true u =
        let l = ltb-true a b u in
        let w : suc a * m ≤ b * m = mul-le-mul_right m (omega (arith, l)) in
        let v : suc a * m ≡ m + a * m = grind arith in
        absurd (omega (arith, p, q, e, w, v))
    by false s false u =
        let ge : b ≤ a = grind (arith, u) in
        let ne = eqb-false a b s in
        let w : suc b * m ≤ a * m = mul-le-mul_right m (omega (arith, ge, ne)) in
        let v : suc b * m ≡ m + b * m = grind arith in
        absurd (omega (arith, p, q, e, w, v))

one_cell : (ns : List ℕ) (xs ys : List ℤ) (c : ℕ) → cell_in ns xs ≡ Some c → cell_in ns ys ≡ Some c → xs ≡ ys
one_cell [] [] [] c h k = refl
one_cell [] [] (y ∷ ys) c h k = absurd (let y : ⊥ = cc in y)
one_cell [] (x ∷ xs) ys c h k = absurd (let y : ⊥ = cc in y)
one_cell (n ∷ ns) [] ys c h k = absurd (let y : ⊥ = cc in y)
one_cell (n ∷ ns) (x ∷ xs) [] c h k = absurd (let y : ⊥ = cc in y)
one_cell (n ∷ ns) (x ∷ xs) (y ∷ ys) c h k =
    let m = product ns in
    let a = row_of (within x n) (cell_in ns xs) m c h in
    let b = row_of (within y n) (cell_in ns ys) m c k in
    let p = cell_below ns xs a.rest a.has_rest in
    let q = cell_below ns ys b.rest b.has_rest in
    let rows : a.row ≡ b.row = same_row a.row b.row a.rest b.rest m p q (a.is ∙ sym b.is) in
    let scaled : a.row * m ≡ b.row * m = ap (λ r. r * m) rows in
    let e = a.is in
    let f = b.is in
    let rests : a.rest ≡ b.rest = omega (arith, scaled, e, f) in
    let first : x ≡ y = (within_is x n a.row a.has_row).is ∙ ap pos rows ∙ sym (within_is y n b.row b.has_row).is in
    let others = one_cell ns xs ys b.rest (a.has_rest ∙ ap Some rests) b.has_rest in
    λ i. first i ∷ others i

-- ---- slow places
record Cell (first : ℕ) (o : Option ℕ) (q : ℕ) : Type 0 where
  cell : ℕ
  has : o ≡ Some cell
  is : first + cell ≡ q

cell_of : (first : ℕ) (o : Option ℕ) (q : ℕ) → slow_at first o ≡ Slow q → Cell first o q
cell_of first (Some c) q h = record { cell = c; has = refl; is = (let e : first + c ≡ q = cc in e) }
cell_of first None q h = absurd (let y : ⊥ = cc in y)

pub no_clash_is_calm : NoClashIsCalm
no_clash_is_calm first sizes ds outside n i t wide over less clear os ls ms long now then_is within_now within_then u w hu hw =
    (no_overlap u w (λ e f a b is. apart e f a b is), no_overlap w u (λ e f a b is. apart f e b a (sym is)))
  where
    apart : (e f : ℕ) → e < u.count → f < w.count → slow_place u e ≡ slow_place w f → ⊥
    apart e f a b is =
        let x = hu e a in
        let y = hw f b in
        let c = cell_of first (cell_in sizes x.0) (slow_place u e) x.2 in
        let d = cell_of first (cell_in sizes y.0) (slow_place w f) y.2 in
        let ci = c.is in
        let di = d.is in
        let same : c.cell ≡ d.cell = omega (arith, ci, di, is) in
        let xs : x.0 ≡ y.0 = one_cell sizes x.0 y.0 d.cell (c.has ∙ ap Some same) d.has in
        no_clash_is_apart ds ds outside n sizes i t wide over over less clear os ls ms x.0 long now then_is within_now within_then x.1 (subst (AllIn ds sizes (later_turn os i t)) (sym xs) y.1)

pub elsewhere_is_calm : ElsewhereIsCalm
elsewhere_is_calm first sizes ds os u p h other = meets_nowhere u p (λ e lt is. differ e lt is)
  where
    differ : (e : ℕ) → e < u.count → slow_place u e ≡ p → ⊥
    differ e lt is =
        let x = h e lt in
        let c = cell_of first (cell_in sizes x.0) (slow_place u e) x.2 in
        let ci = c.is in
        let below = cell_below sizes x.0 c.cell c.has in
        let low : nat_le first p ≡ true = (let l : first ≤ p = omega (arith, ci, is) in grind (arith, l)) in
        let high : nat_lt p (first + product sizes) ≡ true = lt-ltb p (first + product sizes) (omega (arith, ci, is, below)) in
        let here : is_of first sizes p ≡ true = λ i. low i && high i in
        let z : true ≡ false = sym here ∙ other in cc
