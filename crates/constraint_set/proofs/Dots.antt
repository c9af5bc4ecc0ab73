-- Rows mixed without a test of ranges, and the laws of dot products.
use Rattle.std.proofs.Common.{◌≡◌, ℕ, zero, suc, ◌<◌, List, [], ◌∷◌, ◌++◌, map, length, ℤ, pos, neg_ℤ, ◌+ℤ◌, ◌*ℤ◌, get_or, ◌∙◌, ap, arith}
use Rattle.std.proofs.lemmas.Int.{ints}
use Rattle.std.proofs.Math.ListN.{set}
use Rattle.num_row.proofs.Ring.{Var, ◌⊕◌, ◌⊗◌, ring, combine_step}
use Rattle.constraint_set.specs.Points.{LinearRow, dot, value_at, coef}
use Rattle.constraint_set.specs.Projection.{scaled}
use Rattle.constraint_set.specs.Elimination.{raising, lowering, without}

-- `a * xs + b * ys`
abbrev pub mixed : ℤ → List ℤ → ℤ → List ℤ → List ℤ
mixed a [] b ys = []
mixed a (x ∷ xs) b [] = []
mixed a (x ∷ xs) b (y ∷ ys) = (a *ℤ x +ℤ b *ℤ y) ∷ mixed a xs b ys

abbrev pub mixed_row : ℤ → LinearRow → ℤ → LinearRow → LinearRow
mixed_row a r b s = record { coefs = mixed a r.coefs b s.coefs; constant = a *ℤ r.constant +ℤ b *ℤ s.constant }

-- the pair of two rows with the variable cancelled, by the whole coefficients
abbrev pub paired : ℕ → LinearRow → LinearRow → LinearRow
paired k p n = mixed_row (neg_ℤ (coef k n)) p (coef k p) n

abbrev pub pairs : ℕ → List LinearRow → List LinearRow → List LinearRow
pairs k [] ns = []
pairs k (p ∷ ps) ns = map (paired k p) ns ++ pairs k ps ns

-- a step of elimination over all integers
abbrev pub plain_step : ℕ → List LinearRow → List LinearRow
plain_step k rows = without k rows ++ pairs k (raising k rows) (lowering k rows)

pub dot-mixed : (a : ℤ) (xs : List ℤ) (b : ℤ) (ys : List ℤ) (p : List ℤ) → length xs ≡ length ys → dot (mixed a xs b ys) p ≡ a *ℤ dot xs p +ℤ b *ℤ dot ys p
dot-mixed a [] b [] p e = ring (Var (pos 0)) (Var a ⊗ Var (pos 0) ⊕ Var b ⊗ Var (pos 0)) (omega arith)
dot-mixed a [] b (y ∷ ys) p e = absurd (omega arith)
dot-mixed a (x ∷ xs) b [] p e = absurd (omega arith)
dot-mixed a (x ∷ xs) b (y ∷ ys) [] e = ring (Var (pos 0)) (Var a ⊗ Var (pos 0) ⊕ Var b ⊗ Var (pos 0)) (omega arith)
dot-mixed a (x ∷ xs) b (y ∷ ys) (p ∷ ps) e =
    ap (λ z. (a *ℤ x +ℤ b *ℤ y) *ℤ p +ℤ z) (dot-mixed a xs b ys ps (omega arith)) ∙ combine_step a x b y p (dot xs ps) (dot ys ps)

pub value-mixed : (a : ℤ) (r : LinearRow) (b : ℤ) (s : LinearRow) (p : List ℤ) (q : ℤ) → length r.coefs ≡ length s.coefs → value_at (mixed_row a r b s) p q ≡ a *ℤ value_at r p q +ℤ b *ℤ value_at s p q
value-mixed a r b s p q e =
    ap (λ z. z +ℤ (a *ℤ r.constant +ℤ b *ℤ s.constant) *ℤ q) (dot-mixed a r.coefs b s.coefs p e)
    ∙ join (dot r.coefs p) (dot s.coefs p) r.constant s.constant
  where
    join : (d e c f : ℤ) → (a *ℤ d +ℤ b *ℤ e) +ℤ (a *ℤ c +ℤ b *ℤ f) *ℤ q ≡ a *ℤ (d +ℤ c *ℤ q) +ℤ b *ℤ (e +ℤ f *ℤ q)
    join d e c f = ring (Var a ⊗ Var d ⊕ Var b ⊗ Var e ⊕ (Var a ⊗ Var c ⊕ Var b ⊗ Var f) ⊗ Var q) (Var a ⊗ (Var d ⊕ Var c ⊗ Var q) ⊕ Var b ⊗ (Var e ⊕ Var f ⊗ Var q)) (omega arith)

pub dot-scaled : (xs : List ℤ) (t : ℤ) (p : List ℤ) → dot xs (scaled t p) ≡ t *ℤ dot xs p
dot-scaled [] t p = ring (Var (pos 0)) (Var t ⊗ Var (pos 0)) (omega arith)
dot-scaled (x ∷ xs) t [] = ring (Var (pos 0)) (Var t ⊗ Var (pos 0)) (omega arith)
dot-scaled (x ∷ xs) t (p ∷ ps) =
    ap (λ z. x *ℤ (t *ℤ p) +ℤ z) (dot-scaled xs t ps) ∙ ring (Var x ⊗ (Var t ⊗ Var p) ⊕ Var t ⊗ Var (dot xs ps)) (Var t ⊗ (Var x ⊗ Var p ⊕ Var (dot xs ps))) (omega arith)

pub value-scaled : (r : LinearRow) (t : ℤ) (p : List ℤ) (q : ℤ) → value_at r (scaled t p) (t *ℤ q) ≡ t *ℤ value_at r p q
value-scaled r t p q =
    ap (λ z. z +ℤ r.constant *ℤ (t *ℤ q)) (dot-scaled r.coefs t p) ∙ ring (Var t ⊗ Var (dot r.coefs p) ⊕ Var r.constant ⊗ (Var t ⊗ Var q)) (Var t ⊗ (Var (dot r.coefs p) ⊕ Var r.constant ⊗ Var q)) (omega arith)

-- another value at place k
pub dot-set : (xs : List ℤ) (p : List ℤ) (k : ℕ) (v : ℤ) → k < length p → dot xs (set p k v) +ℤ get_or xs k (pos 0) *ℤ get_or p k (pos 0) ≡ dot xs p +ℤ get_or xs k (pos 0) *ℤ v
dot-set [] p k v h = ring (Var (pos 0) ⊕ Var (pos 0) ⊗ Var (get_or p k (pos 0))) (Var (pos 0) ⊕ Var (pos 0) ⊗ Var v) (omega arith)
dot-set (x ∷ xs) [] k v h = absurd (omega arith)
dot-set (x ∷ xs) (p ∷ ps) zero v h = ring (Var x ⊗ Var v ⊕ Var (dot xs ps) ⊕ Var x ⊗ Var p) (Var x ⊗ Var p ⊕ Var (dot xs ps) ⊕ Var x ⊗ Var v) (omega arith)
dot-set (x ∷ xs) (p ∷ ps) (suc k) v h =
    let e = dot-set xs ps k v (omega arith) in
    omega (arith, ints, e)

-- the value of a row with place k of the point set to 0, and then to v
pub rest_at : ℕ → LinearRow → List ℤ → ℤ → ℤ
rest_at k r p q = value_at r (set p k (pos 0)) q

pub value-set : (k : ℕ) (r : LinearRow) (p : List ℤ) (q v : ℤ) → k < length p → value_at r (set p k v) q ≡ coef k r *ℤ v +ℤ rest_at k r p q
unfolding rest_at
value-set k r p q v h =
    let e = dot-set r.coefs p k v h in
    let f = dot-set r.coefs p k (pos 0) h in
    let z : coef k r *ℤ pos 0 ≡ pos 0 = ring (Var (coef k r) ⊗ Var (pos 0)) (Var (pos 0)) (omega arith) in
    omega (arith, ints, e, f, z)
