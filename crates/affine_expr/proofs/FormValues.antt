-- What the checked sums and multiples of forms are worth.
use Rattle.std.proofs.Common.{◌≡◌, ℕ, zero, suc, ◌<◌, ◌≤◌, Bool, true, false, cond, List, [], ◌∷◌, ◌++◌, length, get_or, set, replicate, Some, None, Result, Ok, Err, ℤ, pos, neg_ℤ, ◌+ℤ◌, ◌-ℤ◌, ◌*ℤ◌, refl, ◌∙◌, ap, arith}
use Rattle.std.proofs.lemmas.Int.{ints}
use Rattle.std.proofs.lemmas.List.{length-replicate, length-set}
use Rattle.num_row.specs.Ints.{narrowed, fits_i128}
use Rattle.num_row.proofs.Ring.{Var, ◌⊕◌, ◌⊗◌, Neg, ring}
use Rattle.affine_expr.specs.declared.linear.LinearFault.{LinearFault}
use Rattle.affine_expr.specs.declared.linear.Join.{Join}
use Rattle.affine_expr.specs.declared.linear.Join.TheVariants.{Sum, Difference}
use Rattle.affine_expr.specs.Forms.{Form, dot, form_value}
use Rattle.affine_expr.specs.Linear.{◌>>=◌, or_wide, joined, join_coefs, join_forms, scale_coefs, scale_form, number_form, variable_form, raised}

-- what holds of the answer, where there is one
abbrev pub Gives : {A : Type 0} → Result A LinearFault → (A → Type 0) → Type 0
Gives (Ok x) P = P x
Gives (Err e) P = Unit {0}

pub then : {A B : Type 0} (w : Result A LinearFault) (f : A → Result B LinearFault) (P : A → Type 0) (Q : B → Type 0) → Gives w P → ((x : A) → P x → Gives (f x) Q) → Gives (w >>= f) Q
then (Ok x) f P Q h g = g x h
then (Err e) f P Q h g = tt

pub narrow_gives : (z : ℤ) → Gives (or_wide (narrowed z)) (λ x. x ≡ z)
unfolding narrowed
narrow_gives z = by (fits_i128 z)
  where
    by : (b : Bool) → Gives (or_wide (cond b (Some z) None)) (λ x. x ≡ z)
    by true = refl
    by false = tt

-- ---- sums and differences
pub record IsJoined (w : Join) (xs ys zs : List ℤ) : Type 0 where
  pub same : (p : List ℤ) → dot zs p ≡ joined w (dot xs p) (dot ys p)
  pub long : length zs ≡ length ys

joined_zero : (w : Join) → pos 0 ≡ joined w (pos 0) (pos 0)
joined_zero Sum = refl
joined_zero Difference = refl

step : (w : Join) (x y z q a b c : ℤ) → z ≡ joined w x y → c ≡ joined w a b → z *ℤ q +ℤ c ≡ joined w (x *ℤ q +ℤ a) (y *ℤ q +ℤ b)
step Sum x y z q a b c e f =
    ap (λ t. t *ℤ q +ℤ c) e ∙ ap (λ t. (x +ℤ y) *ℤ q +ℤ t) f ∙ ring ((Var x ⊕ Var y) ⊗ Var q ⊕ (Var a ⊕ Var b)) ((Var x ⊗ Var q ⊕ Var a) ⊕ (Var y ⊗ Var q ⊕ Var b)) (omega arith)
step Difference x y z q a b c e f =
    let r : (x -ℤ y) *ℤ q ≡ x *ℤ q +ℤ neg_ℤ (y *ℤ q) = ap (λ t. t *ℤ q) (minus x y) ∙ ring ((Var x ⊕ Neg (Var y)) ⊗ Var q) (Var x ⊗ Var q ⊕ Neg (Var y ⊗ Var q)) (omega arith) in
    ap (λ t. t *ℤ q +ℤ c) e ∙ ap (λ t. (x -ℤ y) *ℤ q +ℤ t) f ∙ linear ((x -ℤ y) *ℤ q) (x *ℤ q) (y *ℤ q) r
  where
    minus : (u v : ℤ) → u -ℤ v ≡ u +ℤ neg_ℤ v
    minus u v = omega (arith, ints)

    linear : (t u v : ℤ) → t ≡ u +ℤ neg_ℤ v → t +ℤ (a -ℤ b) ≡ (u +ℤ a) -ℤ (v +ℤ b)
    linear t u v h = omega (arith, ints, h)

cons_joined : (w : Join) (x y z : ℤ) (xs ys zs : List ℤ) → z ≡ joined w x y → IsJoined w xs ys zs → IsJoined w (x ∷ xs) (y ∷ ys) (z ∷ zs)
cons_joined w x y z xs ys zs e h = record { same = both; long = ap suc h.long }
  where
    both : (p : List ℤ) → dot (z ∷ zs) p ≡ joined w (dot (x ∷ xs) p) (dot (y ∷ ys) p)
    both [] = joined_zero w
    both (q ∷ p) = step w x y z q (dot xs p) (dot ys p) (dot zs p) e (h.same p)

filled : (w : Join) (y z : ℤ) (ys zs : List ℤ) → z ≡ joined w (pos 0) y → IsJoined w [] ys zs → IsJoined w [] (y ∷ ys) (z ∷ zs)
filled w y z ys zs e h = record { same = both; long = ap suc h.long }
  where
    nothing : (q : ℤ) → pos 0 *ℤ q +ℤ pos 0 ≡ pos 0
    nothing q = ring (Var (pos 0) ⊗ Var q ⊕ Var (pos 0)) (Var (pos 0)) (omega arith)

    both : (p : List ℤ) → dot (z ∷ zs) p ≡ joined w (pos 0) (dot (y ∷ ys) p)
    both [] = joined_zero w
    both (q ∷ p) = step w (pos 0) y z q (pos 0) (dot ys p) (dot zs p) e (h.same p) ∙ ap (λ t. joined w t (y *ℤ q +ℤ dot ys p)) (nothing q)

pub join_gives : (w : Join) (xs ys : List ℤ) → length xs ≤ length ys → Gives (join_coefs w xs ys) (IsJoined w xs ys)
join_gives w [] [] h = record { same = λ p. joined_zero w; long = refl }
join_gives w (x ∷ xs) [] h = absurd (omega arith)
join_gives w [] (y ∷ ys) h = then (or_wide (narrowed (joined w (pos 0) y))) _ (λ z. z ≡ joined w (pos 0) y) (IsJoined w [] (y ∷ ys)) (narrow_gives (joined w (pos 0) y)) (λ z e.
    then (join_coefs w [] ys) _ (IsJoined w [] ys) (IsJoined w [] (y ∷ ys)) (join_gives w [] ys (omega arith)) (λ zs k. filled w y z ys zs e k))
join_gives w (x ∷ xs) (y ∷ ys) h = then (or_wide (narrowed (joined w x y))) _ (λ z. z ≡ joined w x y) (IsJoined w (x ∷ xs) (y ∷ ys)) (narrow_gives (joined w x y)) (λ z e.
    then (join_coefs w xs ys) _ (IsJoined w xs ys) (IsJoined w (x ∷ xs) (y ∷ ys)) (join_gives w xs ys (omega arith)) (λ zs k. cons_joined w x y z xs ys zs e k))

-- the value of a form at a point
abbrev pub worth : Form → List ℤ → ℤ
worth f p = form_value f.coefs f.constant p

pub record IsJoin (w : Join) (f g h : Form) : Type 0 where
  pub same : (p : List ℤ) → worth h p ≡ joined w (worth f p) (worth g p)
  pub long : length h.coefs ≡ length g.coefs

constants : (w : Join) (d a b c x y : ℤ) → d ≡ joined w a b → c ≡ joined w x y → d +ℤ c ≡ joined w (a +ℤ x) (b +ℤ y)
constants Sum d a b c x y e f = omega (arith, ints, e, f)
constants Difference d a b c x y e f = omega (arith, ints, e, f)

pub join_forms_gives : (w : Join) (f g : Form) → length f.coefs ≤ length g.coefs → Gives (join_forms w f g) (IsJoin w f g)
unfolding join_forms
join_forms_gives w f g l = then (join_coefs w f.coefs g.coefs) _ (IsJoined w f.coefs g.coefs) (IsJoin w f g) (join_gives w f.coefs g.coefs l) (λ cs h.
    then (or_wide (narrowed (joined w f.constant g.constant))) _ (λ z. z ≡ joined w f.constant g.constant) (IsJoin w f g) (narrow_gives _) (λ c e.
    record { same = λ p. constants w (dot cs p) (dot f.coefs p) (dot g.coefs p) c f.constant g.constant (h.same p) e; long = h.long }))

-- ---- multiples
pub record IsScaled (k : ℤ) (xs zs : List ℤ) : Type 0 where
  pub same : (p : List ℤ) → dot zs p ≡ k *ℤ dot xs p
  pub long : length zs ≡ length xs

cons_scaled : (k x z : ℤ) (xs zs : List ℤ) → z ≡ k *ℤ x → IsScaled k xs zs → IsScaled k (x ∷ xs) (z ∷ zs)
cons_scaled k x z xs zs e h = record { same = both; long = ap suc h.long }
  where
    both : (p : List ℤ) → dot (z ∷ zs) p ≡ k *ℤ dot (x ∷ xs) p
    both [] = ring (Var (pos 0)) (Var k ⊗ Var (pos 0)) (omega arith)
    both (q ∷ p) = ap (λ w. w *ℤ q +ℤ dot zs p) e ∙ ap (λ w. k *ℤ x *ℤ q +ℤ w) (h.same p) ∙ ring (Var k ⊗ Var x ⊗ Var q ⊕ Var k ⊗ Var (dot xs p)) (Var k ⊗ (Var x ⊗ Var q ⊕ Var (dot xs p))) (omega arith)

scale_gives : (k : ℤ) (xs : List ℤ) → Gives (scale_coefs k xs) (IsScaled k xs)
scale_gives k [] = record { same = λ p. ring (Var (pos 0)) (Var k ⊗ Var (pos 0)) (omega arith); long = refl }
scale_gives k (x ∷ xs) = then (or_wide (narrowed (k *ℤ x))) _ (λ z. z ≡ k *ℤ x) (IsScaled k (x ∷ xs)) (narrow_gives (k *ℤ x)) (λ z e.
    then (scale_coefs k xs) _ (IsScaled k xs) (IsScaled k (x ∷ xs)) (scale_gives k xs) (λ zs h. cons_scaled k x z xs zs e h))

pub record IsScale (k : ℤ) (f h : Form) : Type 0 where
  pub same : (p : List ℤ) → worth h p ≡ k *ℤ worth f p
  pub long : length h.coefs ≡ length f.coefs

pub scale_form_gives : (k : ℤ) (f : Form) → Gives (scale_form k f) (IsScale k f)
unfolding scale_form
scale_form_gives k f = then (scale_coefs k f.coefs) _ (IsScaled k f.coefs) (IsScale k f) (scale_gives k f.coefs) (λ cs h.
    then (or_wide (narrowed (k *ℤ f.constant))) _ (λ z. z ≡ k *ℤ f.constant) (IsScale k f) (narrow_gives _) (λ c e.
    record { same = λ p. both (dot cs p) (dot f.coefs p) c f.constant (h.same p) e; long = h.long }))
  where
    both : (d a c x : ℤ) → d ≡ k *ℤ a → c ≡ k *ℤ x → d +ℤ c ≡ k *ℤ (a +ℤ x)
    both d a c x e f = let r : k *ℤ (a +ℤ x) ≡ k *ℤ a +ℤ k *ℤ x = ring (Var k ⊗ (Var a ⊕ Var x)) (Var k ⊗ Var a ⊕ Var k ⊗ Var x) (omega arith) in omega (arith, ints, r)

-- ---- f + c - 1
pub record IsRaised (c : ℤ) (f h : Form) : Type 0 where
  pub same : (p : List ℤ) → worth h p ≡ worth f p +ℤ (c -ℤ pos 1)
  pub long : length h.coefs ≡ length f.coefs

pub raised_gives : (f : Form) (c : ℤ) → Gives (raised f c) (IsRaised c f)
unfolding raised
raised_gives f c = then (or_wide (narrowed (f.constant +ℤ (c -ℤ pos 1)))) _ (λ z. z ≡ f.constant +ℤ (c -ℤ pos 1)) (IsRaised c f) (narrow_gives _) (λ z e.
    record { same = λ p. linear (dot f.coefs p) f.constant z c e; long = refl })
  where
    linear : (d x z c : ℤ) → z ≡ x +ℤ (c -ℤ pos 1) → d +ℤ z ≡ (d +ℤ x) +ℤ (c -ℤ pos 1)
    linear d x z c e = omega (arith, ints, e)

-- ---- numbers and variables
pub dot-zeros : (n : ℕ) (p : List ℤ) → dot (replicate n (pos 0)) p ≡ pos 0
dot-zeros zero p = refl
dot-zeros (suc n) [] = refl
dot-zeros (suc n) (q ∷ p) = ap (λ t. pos 0 *ℤ q +ℤ t) (dot-zeros n p) ∙ ring (Var (pos 0) ⊗ Var q ⊕ Var (pos 0)) (Var (pos 0)) (omega arith)

dot-unit : (n i : ℕ) (p : List ℤ) → i < n → dot (set (replicate n (pos 0)) i (pos 1)) p ≡ get_or p i (pos 0)
dot-unit zero i p h = absurd (omega arith)
dot-unit (suc n) zero [] h = refl
dot-unit (suc n) (suc i) [] h = refl
dot-unit (suc n) zero (q ∷ p) h = ap (λ t. pos 1 *ℤ q +ℤ t) (dot-zeros n p) ∙ ring (Var (pos 1) ⊗ Var q ⊕ Var (pos 0)) (Var q) (omega arith)
dot-unit (suc n) (suc i) (q ∷ p) h = ring (Var (pos 0) ⊗ Var q ⊕ Var (dot (set (replicate n (pos 0)) i (pos 1)) p)) (Var (dot (set (replicate n (pos 0)) i (pos 1)) p)) (omega arith) ∙ dot-unit n i p (omega arith)

plus_zero : (a : ℤ) → a +ℤ pos 0 ≡ a
plus_zero a = omega (arith, ints)

pub number_worth : (n : ℕ) (z : ℤ) (p : List ℤ) → worth (number_form n z) p ≡ z
unfolding number_form
number_worth n z p = ap (λ t. t +ℤ z) (dot-zeros n p) ∙ zero_plus z
  where
    zero_plus : (a : ℤ) → pos 0 +ℤ a ≡ a
    zero_plus a = omega (arith, ints)

pub number_long : (n : ℕ) (z : ℤ) → length (number_form n z).coefs ≡ n
unfolding number_form
number_long n z = length-replicate n (pos 0)

pub variable_worth : (n i : ℕ) (p : List ℤ) → i < n → worth (variable_form n i) p ≡ get_or p i (pos 0)
unfolding variable_form
variable_worth n i p h = plus_zero (dot (set (replicate n (pos 0)) i (pos 1)) p) ∙ dot-unit n i p h

pub variable_long : (n i : ℕ) → length (variable_form n i).coefs ≡ n
unfolding variable_form
variable_long n i = length-set (replicate n (pos 0)) i (pos 1) ∙ length-replicate n (pos 0)

-- ---- longer points, and a last variable
pub dot-longer : (xs p more : List ℤ) → length xs ≤ length p → dot xs (p ++ more) ≡ dot xs p
dot-longer [] p more h = refl
dot-longer (x ∷ xs) [] more h = absurd (omega arith)
dot-longer (x ∷ xs) (y ∷ p) more h = ap (λ z. x *ℤ y +ℤ z) (dot-longer xs p more (omega arith))

pub dot-last : (xs p : List ℤ) (c q : ℤ) → length xs ≡ length p → dot (xs ++ c ∷ []) (p ++ q ∷ []) ≡ dot xs p +ℤ c *ℤ q
dot-last [] [] c q h = ring (Var c ⊗ Var q ⊕ Var (pos 0)) (Var (pos 0) ⊕ Var c ⊗ Var q) (omega arith)
dot-last [] (y ∷ p) c q h = absurd (omega arith)
dot-last (x ∷ xs) [] c q h = absurd (omega arith)
dot-last (x ∷ xs) (y ∷ p) c q h = ap (λ z. x *ℤ y +ℤ z) (dot-last xs p c q (omega arith)) ∙ linear (x *ℤ y) (dot xs p) (c *ℤ q)
  where
    linear : (a b d : ℤ) → a +ℤ (b +ℤ d) ≡ (a +ℤ b) +ℤ d
    linear a b d = omega (arith, ints)
