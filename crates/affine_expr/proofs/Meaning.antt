-- The form of an expression has its value at a point where the forms of its leaves have theirs and each local has its floor.
use Rattle.std.proofs.Common.{◌≡◌, ℕ, zero, suc, ◌+◌, ◌-◌, ◌<◌, ◌≤◌, Bool, true, false, cond, List, [], ◌∷◌, ◌++◌, length, get_or, replicate, Option, Some, None, Result, Ok, Err, ℤ, pos, neg_ℤ, ◌+ℤ◌, ◌-ℤ◌, ◌*ℤ◌, ◌<ℤ◌, int_lt, refl, sym, ◌∙◌, ap, subst, arith, append_assoc, append-nil, length-append, slice_get}
use Rattle.std.proofs.lemmas.Int.{ints}
use Rattle.std.proofs.lemmas.List.{length-replicate}
use Rattle.std.proofs.Math.IntN.{*ℤ_comm}
use Rattle.std.specs.Int.{int_div_euclid}
use Rattle.num_row.proofs.Ring.{Var, ◌⊕◌, ◌⊗◌, Neg, ring}
use Rattle.num_row.proofs.Floors.{floor_below, floor_above, ceiling_unique}
use Rattle.affine_expr.specs.declared.expr.Expr.{Expr, fold-roll-Expr, ind-Expr, map-Expr, roll-Expr}
use Rattle.affine_expr.specs.declared.expr.Expr.TheOpen.{Expr-F}
use Rattle.affine_expr.specs.declared.linear.LinearFault.{LinearFault}
use Rattle.affine_expr.specs.declared.linear.Join.{Join}
use Rattle.affine_expr.specs.declared.linear.Join.TheVariants.{Sum, Difference}
use Rattle.affine_expr.specs.Value.{floor_div, ceil_div, floor_mod, value}
use Rattle.affine_expr.specs.Spread.{both_fixed, one_fixed}
use Rattle.affine_expr.specs.Forms.{Form, LocalForm, LinearForm, dot, with_locals, linear_value, AreInOrder, IsShaped}
use Rattle.affine_expr.specs.Linear.{joined, join_forms, padded, leaf, over, joined_by, variable_forms, finished, linear_of, scale_form, number_form, variable_form, floored_form, rest_form, raised, local_of, State, state, Part, divisor, scaled_by, product_by, floor_by, ceil_by, rest_by}
use Rattle.affine_expr.proofs.Ranges.{Known}
use Rattle.affine_expr.proofs.Divisions.{floor_is, ceil_is}
use Rattle.affine_expr.proofs.FormValues.{Gives, then, worth, IsJoin, join_forms_gives, IsScale, scale_form_gives, IsRaised, raised_gives, dot-zeros, dot-last, number_worth, number_long, variable_worth, variable_long}
use Rattle.affine_expr.proofs.Locals.{with_locals-append, length-with_locals, worth_longer, kept, in_order-last}

-- ---- forms with zeros behind
dot-behind : (xs ys p : List ℤ) → ((q : List ℤ) → dot ys q ≡ pos 0) → dot (xs ++ ys) p ≡ dot xs p
dot-behind [] ys p h = h p
dot-behind (x ∷ xs) ys [] h = refl
dot-behind (x ∷ xs) ys (q ∷ p) h = ap (λ t. x *ℤ q +ℤ t) (dot-behind xs ys p h)

pub padded_worth : (n : ℕ) (f : Form) (p : List ℤ) → worth (padded n f) p ≡ worth f p
unfolding padded
padded_worth n f p = ap (λ t. t +ℤ f.constant) (dot-behind f.coefs (replicate (n - length f.coefs) (pos 0)) p (dot-zeros (n - length f.coefs)))

pub padded_long : (n : ℕ) (f : Form) → length f.coefs ≤ n → length (padded n f).coefs ≡ n
unfolding padded
padded_long n f h = omega (arith, h, length-append f.coefs (replicate (n - length f.coefs) (pos 0)), length-replicate (n - length f.coefs) (pos 0))

pub padded_most : (n : ℕ) (f : Form) → n ≤ length (padded n f).coefs
unfolding padded
padded_most n f = omega (arith, length-append f.coefs (replicate (n - length f.coefs) (pos 0)), length-replicate (n - length f.coefs) (pos 0))

pub padded_exact : (n : ℕ) (f : Form) → n ≤ length f.coefs → length (padded n f).coefs ≡ length f.coefs
unfolding padded
padded_exact n f h = omega (arith, h, length-append f.coefs (replicate (n - length f.coefs) (pos 0)), length-replicate (n - length f.coefs) (pos 0))

-- a form names no variable past so many, and has the value v at a point
pub record Is (n : ℕ) (p : List ℤ) (f : Form) (v : ℤ) : Type 0 where
  pub short : length f.coefs ≤ n
  pub same : worth f p ≡ v

abbrev pub Are : ℕ → List ℤ → List Form → List ℤ → Type 0
Are n p [] [] = Unit {0}
Are n p [] (v ∷ vs) = ⊥
Are n p (f ∷ fs) [] = ⊥
Are n p (f ∷ fs) (v ∷ vs) = Is n p f v × Are n p fs vs

-- ---- the ceiling is the floor of what is raised
ceil_raised : (v c : ℤ) → pos 0 <ℤ c → floor_div (v +ℤ (c -ℤ pos 1)) c ≡ ceil_div v c
ceil_raised v c h =
    let q = int_div_euclid (v +ℤ (c -ℤ pos 1)) c in
    let low = floor_below (v +ℤ (c -ℤ pos 1)) c h in
    let high = floor_above (v +ℤ (c -ℤ pos 1)) c h in
    floor_is (v +ℤ (c -ℤ pos 1)) c h ∙ ceiling_unique v c q h (omega (arith, ints, low, high)) (omega (arith, ints, low, high)) ∙ sym (ceil_is v c h)

-- ---- what is known
known_along : (o : Option ℤ) (u v : ℤ) → u ≡ v → Known o u → Known o v
known_along o u v e h = subst (Known o) e h

one_known : (f : ℤ → ℤ) (x : Option ℤ) (u : ℤ) → Known x u → Known (one_fixed f x) (f u)
one_known f None u h = tt
one_known f (Some a) u h = ap f h

two_known : (f : ℤ → ℤ → ℤ) (x y : Option ℤ) (u v : ℤ) → Known x u → Known y v → Known (both_fixed f x y) (f u v)
two_known f None y u v h k = tt
two_known f (Some a) None u v h k = tt
two_known f (Some a) (Some b) u v h k = ap (λ t. f t v) h ∙ ap (f a) k

divisor_known : (x : Option ℤ) (u : ℤ) → Known x u → Known (divisor x) u
divisor_known None u h = tt
divisor_known (Some c) u h = by (int_lt (pos 0) c)
  where
    by : (b : Bool) → Known (cond b (Some c) None) u
    by true = h
    by false = tt

-- a divisor is positive
abbrev IsDivisor : Option ℤ → Type 0
IsDivisor None = Unit {0}
IsDivisor (Some c) = pos 0 <ℤ c

divisor_is : (x : Option ℤ) → IsDivisor (divisor x)
divisor_is None = tt
divisor_is (Some c) = by (int_lt (pos 0) c) refl
  where
    by : (b : Bool) → int_lt (pos 0) c ≡ b → IsDivisor (cond b (Some c) None)
    by true e = omega (arith, ints, e)
    by false e = tt

module _ (env : List ℤ) (width : ℕ) (length-env : length env ≡ width) where
  -- a form with its locals behind those so far is worth v
  pub record Good (ls : List LocalForm) (v : ℤ) (st : State) : Type 0 where
    pub more : List LocalForm
    pub grown : st.locals ≡ ls ++ more
    pub long : length st.form.coefs ≡ width + length st.locals
    pub ordered : AreInOrder width st.locals
    pub same : worth st.form (with_locals env st.locals) ≡ v

  abbrev pub Means : Part → ℤ → Type 0
  Means a v = (ls : List LocalForm) → AreInOrder width ls → Gives (a.form ls) (Good ls v)

  number_good : (ls : List LocalForm) (z : ℤ) → AreInOrder width ls → Good ls z (state (number_form (width + length ls) z) ls)
  number_good ls z o = record {
    more = [];
    grown = sym (append-nil ls);
    long = number_long (width + length ls) z;
    ordered = o;
    same = number_worth (width + length ls) z (with_locals env ls);
  }

  leaf_good : (ls : List LocalForm) (f : Form) (v : ℤ) → Is width env f v → AreInOrder width ls → Good ls v (state (padded (width + length ls) f) ls)
  leaf_good ls f v h o = record {
    more = [];
    grown = sym (append-nil ls);
    long = padded_long (width + length ls) f (omega (arith, h.short));
    ordered = o;
    same = padded_worth (width + length ls) f (with_locals env ls) ∙ worth_longer f env ls (omega (arith, h.short, length-env)) ∙ h.same;
  }

  -- ---- sums and multiples
  join_means : (w : Join) (a b : Part) (u v : ℤ) → Means a u → Means b v → (ls : List LocalForm) → AreInOrder width ls → Gives (joined_by w a b ls) (Good ls (joined w u v))
  join_means w a b u v h k ls o = then (a.form ls) _ (Good ls u) (Good ls (joined w u v)) (h ls o) (λ f gf.
      then (b.form f.locals) _ (Good f.locals v) (Good ls (joined w u v)) (k f.locals gf.ordered) (λ g gg.
      let second = padded (length f.form.coefs) g.form in
      let shorter : length f.form.coefs ≤ length g.form.coefs = omega (arith, gf.long, gg.long, ap length gg.grown, length-append f.locals gg.more) in
      then (join_forms w f.form second) _ (IsJoin w f.form second) (Good ls (joined w u v)) (join_forms_gives w f.form second (padded_most (length f.form.coefs) g.form)) (λ t j. record {
        more = gf.more ++ gg.more;
        grown = gg.grown ∙ ap (λ l. l ++ gg.more) gf.grown ∙ append_assoc ls gf.more gg.more;
        long = j.long ∙ padded_exact (length f.form.coefs) g.form shorter ∙ gg.long;
        ordered = gg.ordered;
        same = j.same (with_locals env g.locals)
            ∙ ap (λ z. joined w z (worth second (with_locals env g.locals))) (kept env f.form f.locals g.locals gg.more gg.grown (omega (arith, gf.long, length-env)) ∙ gf.same)
            ∙ ap (joined w u) (padded_worth (length f.form.coefs) g.form (with_locals env g.locals) ∙ gg.same);
      })))

  scale_means : (k : ℤ) (a : Part) (u : ℤ) → Means a u → (ls : List LocalForm) → AreInOrder width ls → Gives (scaled_by k a ls) (Good ls (k *ℤ u))
  scale_means k a u h ls o = then (a.form ls) _ (Good ls u) (Good ls (k *ℤ u)) (h ls o) (λ f gf.
      then (scale_form k f.form) _ (IsScale k f.form) (Good ls (k *ℤ u)) (scale_form_gives k f.form) (λ t j. record {
        more = gf.more;
        grown = gf.grown;
        long = j.long ∙ gf.long;
        ordered = gf.ordered;
        same = j.same (with_locals env f.locals) ∙ ap (λ z. k *ℤ z) gf.same;
      }))

  good_along : (r : Result State LinearFault) (ls : List LocalForm) (u v : ℤ) → u ≡ v → Gives r (Good ls u) → Gives r (Good ls v)
  good_along r ls u v e h = subst (λ z. Gives r (Good ls z)) e h

  product_means : (a b : Part) (u v : ℤ) → Means a u → Means b v → (x y : Option ℤ) → Known x u → Known y v → (ls : List LocalForm) → AreInOrder width ls → Gives (product_by a b x y ls) (Good ls (u *ℤ v))
  product_means a b u v h k x (Some c) m n ls o = good_along (scaled_by c a ls) ls (c *ℤ u) (u *ℤ v) (*ℤ_comm c u ∙ ap (λ t. u *ℤ t) (sym n)) (scale_means c a u h ls o)
  product_means a b u v h k (Some c) None m n ls o = good_along (scaled_by c b ls) ls (c *ℤ v) (u *ℤ v) (ap (λ t. t *ℤ v) (sym m)) (scale_means c b v k ls o)
  product_means a b u v h k None None m n ls o = tt

  -- ---- divisions
  floored_good : (f : Form) (c u : ℤ) (ls ms more : List LocalForm) → ms ≡ ls ++ more → length f.coefs ≡ width + length ms → AreInOrder width ms → worth f (with_locals env ms) ≡ u → pos 0 <ℤ c → Good ls (floor_div u c) (floored_form f c ms)
  unfolding floored_form
  floored_good f c u ls ms more g l o s p =
      let point = with_locals env ms in
      let long : length f.coefs ≡ length point = omega (arith, l, length-with_locals env ms, length-env) in
      let here : with_locals env (ms ++ local_of f c ∷ []) ≡ point ++ floor_div (worth f point) c ∷ [] = with_locals-append env ms (local_of f c ∷ []) in
      record {
        more = more ++ local_of f c ∷ [];
        grown = ap (λ x. x ++ local_of f c ∷ []) g ∙ append_assoc ls more (local_of f c ∷ []);
        long = omega (arith, l, length-append (replicate (length f.coefs) (pos 0)) (pos 1 ∷ []), length-replicate (length f.coefs) (pos 0), length-append ms (local_of f c ∷ []));
        ordered = in_order-last width ms (local_of f c) o l p;
        same = ap (λ q. dot (replicate (length f.coefs) (pos 0) ++ pos 1 ∷ []) q +ℤ pos 0) here
            ∙ ap (λ z. z +ℤ pos 0) (dot-last (replicate (length f.coefs) (pos 0)) point (pos 1) (floor_div (worth f point) c) (length-replicate (length f.coefs) (pos 0) ∙ long))
            ∙ ap (λ z. (z +ℤ pos 1 *ℤ floor_div (worth f point) c) +ℤ pos 0) (dot-zeros (length f.coefs) point)
            ∙ ring ((Var (pos 0) ⊕ Var (pos 1) ⊗ Var (floor_div (worth f point) c)) ⊕ Var (pos 0)) (Var (floor_div (worth f point) c)) (omega arith)
            ∙ ap (λ z. floor_div z c) s;
      }

  rest_good : (f : Form) (c u : ℤ) (ls ms more : List LocalForm) → ms ≡ ls ++ more → length f.coefs ≡ width + length ms → AreInOrder width ms → worth f (with_locals env ms) ≡ u → pos 0 <ℤ c → Good ls (floor_mod u c) (rest_form f c ms)
  unfolding rest_form floor_mod
  rest_good f c u ls ms more g l o s p =
      let point = with_locals env ms in
      let long : length f.coefs ≡ length point = omega (arith, l, length-with_locals env ms, length-env) in
      let here : with_locals env (ms ++ local_of f c ∷ []) ≡ point ++ floor_div (worth f point) c ∷ [] = with_locals-append env ms (local_of f c ∷ []) in
      record {
        more = more ++ local_of f c ∷ [];
        grown = ap (λ x. x ++ local_of f c ∷ []) g ∙ append_assoc ls more (local_of f c ∷ []);
        long = omega (arith, l, length-append f.coefs (neg_ℤ c ∷ []), length-append ms (local_of f c ∷ []));
        ordered = in_order-last width ms (local_of f c) o l p;
        same = ap (λ q. dot (f.coefs ++ neg_ℤ c ∷ []) q +ℤ f.constant) here
            ∙ ap (λ z. z +ℤ f.constant) (dot-last f.coefs point (neg_ℤ c) (floor_div (worth f point) c) long)
            ∙ less (dot f.coefs point) f.constant (neg_ℤ c *ℤ floor_div (worth f point) c) (c *ℤ floor_div (worth f point) c) (ring (Neg (Var c) ⊗ Var (floor_div (worth f point) c)) (Neg (Var c ⊗ Var (floor_div (worth f point) c))) (omega arith))
            ∙ ap (λ z. z -ℤ c *ℤ floor_div z c) s;
      }
    where
      less : (d k m n : ℤ) → m ≡ neg_ℤ n → (d +ℤ m) +ℤ k ≡ (d +ℤ k) -ℤ n
      less d k m n e = omega (arith, ints, e)

  floor_means : (a : Part) (u v : ℤ) → Means a u → (y : Option ℤ) → Known y v → IsDivisor y → (ls : List LocalForm) → AreInOrder width ls → Gives (floor_by a y ls) (Good ls (floor_div u v))
  floor_means a u v h None n p ls o = tt
  floor_means a u v h (Some c) n p ls o = then (a.form ls) _ (Good ls u) (Good ls (floor_div u v)) (h ls o) (λ f gf.
      subst (λ t. Good ls (floor_div u t) (floored_form f.form c f.locals)) (sym n) (floored_good f.form c u ls f.locals gf.more gf.grown gf.long gf.ordered gf.same p))

  ceil_means : (a : Part) (u v : ℤ) → Means a u → (y : Option ℤ) → Known y v → IsDivisor y → (ls : List LocalForm) → AreInOrder width ls → Gives (ceil_by a y ls) (Good ls (ceil_div u v))
  ceil_means a u v h None n p ls o = tt
  ceil_means a u v h (Some c) n p ls o = then (a.form ls) _ (Good ls u) (Good ls (ceil_div u v)) (h ls o) (λ f gf.
      then (raised f.form c) _ (IsRaised c f.form) (Good ls (ceil_div u v)) (raised_gives f.form c) (λ t j.
      subst (λ z. Good ls z (floored_form t c f.locals)) (ceil_raised u c p ∙ ap (ceil_div u) (sym n))
      (floored_good t c (u +ℤ (c -ℤ pos 1)) ls f.locals gf.more gf.grown (j.long ∙ gf.long) gf.ordered (j.same (with_locals env f.locals) ∙ ap (λ z. z +ℤ (c -ℤ pos 1)) gf.same) p)))

  rest_means : (a : Part) (u v : ℤ) → Means a u → (y : Option ℤ) → Known y v → IsDivisor y → (ls : List LocalForm) → AreInOrder width ls → Gives (rest_by a y ls) (Good ls (floor_mod u v))
  rest_means a u v h None n p ls o = tt
  rest_means a u v h (Some c) n p ls o = then (a.form ls) _ (Good ls u) (Good ls (floor_mod u v)) (h ls o) (λ f gf.
      subst (λ t. Good ls (floor_mod u t) (rest_form f.form c f.locals)) (sym n) (rest_good f.form c u ls f.locals gf.more gf.grown gf.long gf.ordered gf.same p))

  -- ---- an expression whose dimensions and symbols have forms of these values
  pub record IsMeant (a : Part) (v : ℤ) : Type 0 where
    pub known : Known a.known v
    pub means : Means a v

  minus_one : (u : ℤ) → neg_ℤ (pos 1) *ℤ u ≡ neg_ℤ u
  minus_one u = ring (Neg (Var (pos 1)) ⊗ Var u) (Neg (Var u)) (omega arith)

  -- an operand without a form forms nothing
  leaf_means : (fs : List Form) (vs : List ℤ) (i : ℕ) → Are width env fs vs → (ls : List LocalForm) → AreInOrder width ls → Gives (leaf width (slice_get fs i) ls) (Good ls (get_or vs i (pos 0)))
  leaf_means [] vs i h ls o = tt
  leaf_means (f ∷ fs) [] i h ls o = absurd h
  leaf_means (f ∷ fs) (v ∷ vs) zero h ls o = leaf_good ls f v h.0 o
  leaf_means (f ∷ fs) (v ∷ vs) (suc i) h ls o = leaf_means fs vs i h.1 ls o

  module _ (fs gs : List Form) (ds ss : List ℤ) (dims : Are width env fs ds) (syms : Are width env gs ss) where
    abbrev pub Meant : Expr → Type 0
    Meant e = IsMeant (over width fs gs e) (value ds ss e)

    one_layer : (y : Expr-F ((e : Expr) × Meant e)) → Meant (roll-Expr (map-Expr ((e : Expr) × Meant e) Expr (λ e. e.0) y))
    unfolding value over
    one_layer (Expr-F.Dim n) = simp fold-roll-Expr (record { known = tt; means = leaf_means fs ds n dims })
    one_layer (Expr-F.Sym n) = simp fold-roll-Expr (record { known = tt; means = leaf_means gs ss n syms })
    one_layer (Expr-F.Const z) = simp fold-roll-Expr (record { known = refl; means = λ ls o. number_good ls z o })
    one_layer (Expr-F.Neg a) = simp fold-roll-Expr (record { known = one_known neg_ℤ _ _ a.1.known; means = λ ls o. good_along _ ls _ _ (minus_one _) (scale_means (neg_ℤ (pos 1)) (over width fs gs a.0) _ a.1.means ls o) })
    one_layer (Expr-F.Add a b) = simp fold-roll-Expr (record { known = two_known (λ x y. x +ℤ y) _ _ _ _ a.1.known b.1.known; means = join_means Sum (over width fs gs a.0) (over width fs gs b.0) _ _ a.1.means b.1.means })
    one_layer (Expr-F.Sub a b) = simp fold-roll-Expr (record { known = two_known (λ x y. x -ℤ y) _ _ _ _ a.1.known b.1.known; means = join_means Difference (over width fs gs a.0) (over width fs gs b.0) _ _ a.1.means b.1.means })
    one_layer (Expr-F.Mul a b) = simp fold-roll-Expr (record { known = two_known (λ x y. x *ℤ y) _ _ _ _ a.1.known b.1.known; means = product_means (over width fs gs a.0) (over width fs gs b.0) _ _ a.1.means b.1.means _ _ a.1.known b.1.known })
    one_layer (Expr-F.FloorDiv a b) = simp fold-roll-Expr (record { known = two_known floor_div _ _ _ _ a.1.known b.1.known; means = floor_means (over width fs gs a.0) _ _ a.1.means _ (divisor_known _ _ b.1.known) (divisor_is (over width fs gs b.0).known) })
    one_layer (Expr-F.CeilDiv a b) = simp fold-roll-Expr (record { known = two_known ceil_div _ _ _ _ a.1.known b.1.known; means = ceil_means (over width fs gs a.0) _ _ a.1.means _ (divisor_known _ _ b.1.known) (divisor_is (over width fs gs b.0).known) })
    one_layer (Expr-F.Mod a b) = simp fold-roll-Expr (record { known = two_known floor_mod _ _ _ _ a.1.known b.1.known; means = rest_means (over width fs gs a.0) _ _ a.1.means _ (divisor_known _ _ b.1.known) (divisor_is (over width fs gs b.0).known) })

    meant : (e : Expr) → Meant e
    meant = ind-Expr Meant (λ x y is. subst (λ z. Meant (roll-Expr z)) is (one_layer y))

    -- the form of an expression, behind any locals
    pub over_gives : (e : Expr) (ls : List LocalForm) → AreInOrder width ls → Gives ((over width fs gs e).form ls) (Good ls (value ds ss e))
    over_gives e ls o = (meant e).means ls o

-- ---- the forms of variables have the numbers of a point
are_variables : (width place : ℕ) (p vs : List ℤ) → place + length vs ≤ width → ((i : ℕ) → i < length vs → get_or p (place + i) (pos 0) ≡ get_or vs i (pos 0)) → Are width p (variable_forms width place (length vs)) vs
are_variables width place p [] h g = tt
are_variables width place p (v ∷ vs) h g =
    let here : get_or p place (pos 0) ≡ v = let e : place ≡ place + 0 = omega arith in ap (λ n. get_or p n (pos 0)) e ∙ g 0 (omega arith) in
    let long : length (variable_form width place).coefs ≤ width = omega (arith, variable_long width place) in (
      record { short = long; same = variable_worth width place p (omega (arith, h)) ∙ here },
      are_variables width (suc place) p vs (omega (arith, h)) (λ i l. let e : suc place + i ≡ place + suc i = omega arith in ap (λ n. get_or p n (pos 0)) e ∙ g (suc i) (omega (arith, l))),
    )

front : (xs ys : List ℤ) (n : ℕ) → n < length xs → get_or (xs ++ ys) n (pos 0) ≡ get_or xs n (pos 0)
front [] ys n l = absurd (omega arith)
front (x ∷ xs) ys zero l = refl
front (x ∷ xs) ys (suc n) l = front xs ys n (omega arith)

second : (xs ys : List ℤ) (n m : ℕ) → m ≡ length xs + n → get_or (xs ++ ys) m (pos 0) ≡ get_or ys n (pos 0)
second [] ys n m e = let f : m ≡ n = omega (arith, e) in ap (λ i. get_or ys i (pos 0)) f
second (x ∷ xs) ys n zero e = absurd (omega (arith, e))
second (x ∷ xs) ys n (suc m) e = second xs ys n m (omega (arith, e))

-- ---- an expression over its own dimensions and symbols
module _ (ds ss : List ℤ) where
  -- the form is over the dimensions, the symbols and its locals, and has the value of the expression
  pub record IsLinear (e : Expr) (f : LinearForm) : Type 0 where
    pub shaped : IsShaped (length ds + length ss) f
    pub same : linear_value f (ds ++ ss) ≡ value ds ss e

  linear_by : (e : Expr) (r : Result State LinearFault) → Gives r (Good (ds ++ ss) (length ds + length ss) (length-append ds ss) [] (value ds ss e)) → Gives (finished r) (IsLinear e)
  linear_by e (Ok st) h = record { shaped = record { coefs = h.long; locals = h.ordered }; same = h.same }
  linear_by e (Err x) h = tt

  linear_gives : (e : Expr) → Gives (linear_of (length ds) (length ss) e) (IsLinear e)
  unfolding linear_of
  linear_gives e =
      let width = length ds + length ss in
      let dims = are_variables width 0 (ds ++ ss) ds (omega arith) (λ i l. let z : 0 + i ≡ i = omega arith in ap (λ n. get_or (ds ++ ss) n (pos 0)) z ∙ front ds ss i l) in
      let syms = are_variables width (length ds) (ds ++ ss) ss (omega arith) (λ i l. second ds ss i (length ds + i) refl) in
      linear_by e _ (over_gives (ds ++ ss) width (length-append ds ss) (variable_forms width 0 (length ds)) (variable_forms width (length ds) (length ss)) ds ss dims syms e [] tt)

-- ---- of a form that is answered
answered : (dims syms : ℕ) (e : Expr) (f : LinearForm) → linear_of dims syms e ≡ Ok f → (ds ss : List ℤ) → length ds ≡ dims → length ss ≡ syms → IsLinear ds ss e f
answered dims syms e f h ds ss d s =
    let k : linear_of (length ds) (length ss) e ≡ Ok f = ap (λ n. linear_of n (length ss) e) d ∙ ap (λ n. linear_of dims n e) s ∙ h in
    subst (λ r. Gives r (IsLinear ds ss e)) k (linear_gives ds ss e)

pub linear_means : (dims syms : ℕ) (e : Expr) (f : LinearForm) → linear_of dims syms e ≡ Ok f → (ds ss : List ℤ) → length ds ≡ dims → length ss ≡ syms → linear_value f (ds ++ ss) ≡ value ds ss e
linear_means dims syms e f h ds ss d s = (answered dims syms e f h ds ss d s).same

pub linear_shaped : (dims syms : ℕ) (e : Expr) (f : LinearForm) → linear_of dims syms e ≡ Ok f → IsShaped (dims + syms) f
linear_shaped dims syms e f h =
    let d = length-replicate dims (pos 0) in
    let s = length-replicate syms (pos 0) in
    subst (λ n. IsShaped n f) (ap (λ n. n + length (replicate syms (pos 0))) d ∙ ap (λ n. dims + n) s) (answered dims syms e f h (replicate dims (pos 0)) (replicate syms (pos 0)) d s).shaped
