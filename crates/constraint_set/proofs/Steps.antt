-- A step of elimination: its parts are the whole, and each scaled point of the rows is one of the step's.
use Rattle.std.proofs.Common.{◌≡◌, ℕ, zero, suc, ◌<◌, Bool, true, false, cond, List, [], ◌∷◌, ◌++◌, map, length, ℤ, pos, neg_ℤ, ◌+ℤ◌, ◌*ℤ◌, ◌<ℤ◌, get_or, refl, sym, ◌∙◌, ap, arith}
use Rattle.std.proofs.lemmas.Int.{ints}
use Rattle.std.proofs.Math.ListN.{set}
use Rattle.num_row.proofs.Ring.{Var, ◌⊕◌, ◌⊗◌, Neg, ring, mul_nonneg}
use Rattle.std.proofs.lemmas.Bool.Decides.{Decides-int_eq}
use Rattle.constraint_set.specs.Lists.{Each}
use Rattle.constraint_set.specs.Points.{LinearRow, value_at, HoldsAtPoint, IsPoint, coef, AreWide}
use Rattle.constraint_set.specs.Elimination.{is_raising, is_lowering, is_flat, raising, lowering, without}
use Rattle.constraint_set.proofs.Dots.{mixed, paired, pairs, plain_step, value-mixed, dot-set}

-- ---- lists
pub Each-append : {A : Type 0} (P : A → Type 0) (xs ys : List A) → Each P xs → Each P ys → Each P (xs ++ ys)
Each-append P [] ys h k = k
Each-append P (x ∷ xs) ys h k = (h.0, Each-append P xs ys h.1 k)

pub Each-first : {A : Type 0} (P : A → Type 0) (xs ys : List A) → Each P (xs ++ ys) → Each P xs
Each-first P [] ys h = tt
Each-first P (x ∷ xs) ys h = (h.0, Each-first P xs ys h.1)

pub Each-second : {A : Type 0} (P : A → Type 0) (xs ys : List A) → Each P (xs ++ ys) → Each P ys
Each-second P [] ys h = h
Each-second P (x ∷ xs) ys h = Each-second P xs ys h.1

pub Each-map : {A B : Type 0} (P : B → Type 0) (f : A → B) (xs : List A) → Each (λ x. P (f x)) xs → Each P (map f xs)
Each-map P f [] h = tt
Each-map P f (x ∷ xs) h = (h.0, Each-map P f xs h.1)

pub Each-unmap : {A B : Type 0} (P : B → Type 0) (f : A → B) (xs : List A) → Each P (map f xs) → Each (λ x. P (f x)) xs
Each-unmap P f [] h = tt
Each-unmap P f (x ∷ xs) h = (h.0, Each-unmap P f xs h.1)

pub Each-both : {A : Type 0} (P Q R : A → Type 0) → ((x : A) → P x → Q x → R x) → (xs : List A) → Each P xs → Each Q xs → Each R xs
Each-both P Q R f [] h k = tt
Each-both P Q R f (x ∷ xs) h k = (f x h.0 k.0, Each-both P Q R f xs h.1 k.1)

pub Each-weaken : {A : Type 0} (P R : A → Type 0) → ((x : A) → P x → R x) → (xs : List A) → Each P xs → Each R xs
Each-weaken P R f [] h = tt
Each-weaken P R f (x ∷ xs) h = (f x h.0, Each-weaken P R f xs h.1)

-- ---- the three parts of the rows
abbrev pub Raises : ℕ → LinearRow → Type 0
Raises k r = pos 0 <ℤ coef k r

abbrev pub Lowers : ℕ → LinearRow → Type 0
Lowers k r = coef k r <ℤ pos 0

module _ (k : ℕ) (P : LinearRow → Type 0) where
  up_by : (r : LinearRow) (rest : List LinearRow) → P r → Each (λ r. Raises k r × P r) rest → (b : Bool) → is_raising k r ≡ b → Each (λ r. Raises k r × P r) (cond b (r ∷ rest) rest)
  up_by r rest h hs true e = ((omega (arith, ints, e), h), hs)
  up_by r rest h hs false e = hs

  pub part_raising : (rs : List LinearRow) → Each P rs → Each (λ r. Raises k r × P r) (raising k rs)
  part_raising [] h = tt
  part_raising (r ∷ rs) h = up_by r (raising k rs) h.0 (part_raising rs h.1) (is_raising k r) refl

  down_by : (r : LinearRow) (rest : List LinearRow) → P r → Each (λ r. Lowers k r × P r) rest → (b : Bool) → is_lowering k r ≡ b → Each (λ r. Lowers k r × P r) (cond b (r ∷ rest) rest)
  down_by r rest h hs true e = ((omega (arith, ints, e), h), hs)
  down_by r rest h hs false e = hs

  pub part_lowering : (rs : List LinearRow) → Each P rs → Each (λ r. Lowers k r × P r) (lowering k rs)
  part_lowering [] h = tt
  part_lowering (r ∷ rs) h = down_by r (lowering k rs) h.0 (part_lowering rs h.1) (is_lowering k r) refl

  flat_by : (r : LinearRow) (rest : List LinearRow) → P r → Each (λ r. (coef k r ≡ pos 0) × P r) rest → (b : Bool) → is_flat k r ≡ b → Each (λ r. (coef k r ≡ pos 0) × P r) (cond b (r ∷ rest) rest)
  flat_by r rest h hs true e = (((Decides-int_eq (coef k r) (pos 0)).0 e, h), hs)
  flat_by r rest h hs false e = hs

  pub part_without : (rs : List LinearRow) → Each P rs → Each (λ r. (coef k r ≡ pos 0) × P r) (without k rs)
  part_without [] h = tt
  part_without (r ∷ rs) h = flat_by r (without k rs) h.0 (part_without rs h.1) (is_flat k r) refl

  third : (r : LinearRow) (b c : Bool) → is_raising k r ≡ b → is_lowering k r ≡ c → b ≡ false → c ≡ false → is_flat k r ≡ true
  third r b c e f g h = (Decides-int_eq (coef k r) (pos 0)).1 (let up : is_raising k r ≡ false = e ∙ g in let down : is_lowering k r ≡ false = f ∙ h in omega (arith, ints, up, down))

  whole_by : (r : LinearRow) (us ds fs rs : List LinearRow) → (Each P us → Each P ds → Each P fs → Each P rs) → (x y z : Bool) → (x ≡ false → y ≡ false → z ≡ true)
      → Each P (cond x (r ∷ us) us) → Each P (cond y (r ∷ ds) ds) → Each P (cond z (r ∷ fs) fs) → P r × Each P rs
  whole_by r us ds fs rs g true true true t a b c = (a.0, g a.1 b.1 c.1)
  whole_by r us ds fs rs g true true false t a b c = (a.0, g a.1 b.1 c)
  whole_by r us ds fs rs g true false true t a b c = (a.0, g a.1 b c.1)
  whole_by r us ds fs rs g true false false t a b c = (a.0, g a.1 b c)
  whole_by r us ds fs rs g false true true t a b c = (b.0, g a b.1 c.1)
  whole_by r us ds fs rs g false true false t a b c = (b.0, g a b.1 c)
  whole_by r us ds fs rs g false false true t a b c = (c.0, g a b c.1)
  whole_by r us ds fs rs g false false false t a b c = absurd (let e = t refl refl in let x : ⊥ = cc in x)

  -- the three parts are the whole
  pub whole : (rs : List LinearRow) → Each P (raising k rs) → Each P (lowering k rs) → Each P (without k rs) → Each P rs
  whole [] a b c = tt
  whole (r ∷ rs) a b c =
      whole_by r (raising k rs) (lowering k rs) (without k rs) rs (whole rs) (is_raising k r) (is_lowering k r) (is_flat k r) (third r (is_raising k r) (is_lowering k r) refl refl) a b c

-- ---- the projection
pub get-mixed : (a : ℤ) (xs : List ℤ) (b : ℤ) (ys : List ℤ) (k : ℕ) → length xs ≡ length ys → get_or (mixed a xs b ys) k (pos 0) ≡ a *ℤ get_or xs k (pos 0) +ℤ b *ℤ get_or ys k (pos 0)
get-mixed a [] b [] k e = ring (Var (pos 0)) (Var a ⊗ Var (pos 0) ⊕ Var b ⊗ Var (pos 0)) (omega arith)
get-mixed a [] b (y ∷ ys) k e = absurd (omega arith)
get-mixed a (x ∷ xs) b [] k e = absurd (omega arith)
get-mixed a (x ∷ xs) b (y ∷ ys) zero e = refl
get-mixed a (x ∷ xs) b (y ∷ ys) (suc k) e = get-mixed a xs b ys k (omega arith)

pub length-mixed : (a : ℤ) (xs : List ℤ) (b : ℤ) (ys : List ℤ) → length xs ≡ length ys → length (mixed a xs b ys) ≡ length xs
length-mixed a [] b [] e = refl
length-mixed a [] b (y ∷ ys) e = refl
length-mixed a (x ∷ xs) b [] e = absurd (omega arith)
length-mixed a (x ∷ xs) b (y ∷ ys) e = ap suc (length-mixed a xs b ys (omega arith))

-- a row of n coefficients that holds
abbrev pub Known : ℕ → List ℤ → ℤ → LinearRow → Type 0
Known n p q r = (length r.coefs ≡ n) × HoldsAtPoint p q r

-- and that has none in place k
abbrev pub Free : ℕ → ℕ → List ℤ → ℤ → LinearRow → Type 0
Free k n p q r = (coef k r ≡ pos 0) × Known n p q r

module _ (k n : ℕ) (p : List ℤ) (q : ℤ) where
  pair_free : (r s : LinearRow) → Raises k r × Known n p q r → Lowers k s × Known n p q s → Free k n p q (paired k r s)
  pair_free r s h g =
      let one = mul_nonneg (neg_ℤ (coef k s)) (value_at r p q) (omega (arith, ints, g.0)) h.1.1 in
      let two = mul_nonneg (coef k r) (value_at s p q) (omega (arith, ints, h.0)) g.1.1 in
      let l = h.1.0 ∙ sym g.1.0 in
      let e = value-mixed (neg_ℤ (coef k s)) r (coef k r) s p q l in (
        get-mixed (neg_ℤ (coef k s)) r.coefs (coef k r) s.coefs k l ∙ ring (Neg (Var (coef k s)) ⊗ Var (coef k r) ⊕ Var (coef k r) ⊗ Var (coef k s)) (Var (pos 0)) (omega arith),
        (length-mixed (neg_ℤ (coef k s)) r.coefs (coef k r) s.coefs l ∙ h.1.0, omega (arith, ints, one, two, e)),
      )

  pairs_free : (rs ss : List LinearRow) → Each (λ r. Raises k r × Known n p q r) rs → Each (λ s. Lowers k s × Known n p q s) ss → Each (Free k n p q) (pairs k rs ss)
  pairs_free [] ss h g = tt
  pairs_free (r ∷ rs) ss h g =
      Each-append (Free k n p q) (map (paired k r) ss) (pairs k rs ss)
      (Each-map (Free k n p q) (paired k r) ss (Each-weaken (λ s. Lowers k s × Known n p q s) (λ s. Free k n p q (paired k r s)) (λ s f. pair_free r s h.0 f) ss g))
      (pairs_free rs ss h.1 g)

  pub step_free : (rows : List LinearRow) → Each (Known n p q) rows → Each (Free k n p q) (plain_step k rows)
  step_free rows h =
      Each-append (Free k n p q) (without k rows) (pairs k (raising k rows) (lowering k rows)) (part_without k (Known n p q) rows h)
      (pairs_free (raising k rows) (lowering k rows) (part_raising k (Known n p q) rows h) (part_lowering k (Known n p q) rows h))

-- every scaled point of the rows is one of the step's, whatever stands in place k
pub projects : (k n : ℕ) (rows : List LinearRow) (p : List ℤ) (q v : ℤ) → k < length p → AreWide n rows → IsPoint rows p q → IsPoint (plain_step k rows) (set p k v) q
projects k n rows p q v h wide point =
    let free = step_free k n p q rows (Each-both (λ r. length r.coefs ≡ n) (HoldsAtPoint p q) (Known n p q) (λ r a b. (a, b)) rows wide point.1) in
    (point.0, Each-weaken (Free k n p q) (HoldsAtPoint (set p k v) q) (λ r f. keeps r f) (plain_step k rows) free)
  where
    keeps : (r : LinearRow) → Free k n p q r → HoldsAtPoint (set p k v) q r
    keeps r f =
        let e = dot-set r.coefs p k v h in
        let z : coef k r *ℤ v ≡ pos 0 = ap (λ x. x *ℤ v) f.0 ∙ ring (Var (pos 0) ⊗ Var v) (Var (pos 0)) (omega arith) in
        let y : coef k r *ℤ get_or p k (pos 0) ≡ pos 0 = ap (λ x. x *ℤ get_or p k (pos 0)) f.0 ∙ ring (Var (pos 0) ⊗ Var (get_or p k (pos 0))) (Var (pos 0)) (omega arith) in
        omega (arith, ints, e, z, y, f.1.1)
