-- The rows of loops, conditions and locals hold where the forms in them have the values that a turn gives them.
use Rattle.std.proofs.Common.{◌≡◌, ℕ, suc, ◌+◌, ◌-◌, ◌≤◌, Bool, true, false, cond, List, [], ◌∷◌, ◌++◌, map, length, replicate, Result, Ok, Err, ℤ, pos, neg_ℤ, ◌+ℤ◌, ◌-ℤ◌, ◌*ℤ◌, ◌<ℤ◌, ◌≤ℤ◌, refl, sym, ◌∙◌, ap, subst, arith, append_assoc, append-nil, length-append}
use Rattle.std.specs.Int.{int_div_euclid}
use Rattle.std.specs.Ordering.{int_eq}
use Rattle.std.proofs.lemmas.Int.{ints}
use Rattle.std.proofs.lemmas.Bool.{and_parts}
use Rattle.std.proofs.lemmas.Bool.Decides.{Decides-int_eq}
use Rattle.std.proofs.lemmas.List.{length-replicate}
use Rattle.num_row.specs.Ints.{narrowed}
use Rattle.num_row.proofs.Ring.{Var, ◌⊕◌, ◌⊗◌, Neg, ring}
use Rattle.num_row.proofs.Order.{mul_le_right}
use Rattle.num_row.proofs.Floors.{floor_below, floor_above, at_most_floor}
use Rattle.constraint_set.specs.Lists.{Each}
use Rattle.constraint_set.specs.Tidy.{all_zero}
use Rattle.constraint_set.proofs.Steps.{Each-append, Each-weaken}
use Rattle.affine_expr.specs.declared.expr.Expr.{Expr}
use Rattle.affine_expr.specs.declared.map.Constraint.{Constraint}
use Rattle.affine_expr.specs.declared.map.Rel.{Rel}
use Rattle.affine_expr.specs.declared.map.Rel.TheVariants.{Ge, Le, Eq}
use Rattle.affine_expr.specs.declared.linear.LinearFault.{LinearFault}
use Rattle.affine_expr.specs.declared.linear.Join.TheVariants.{Difference}
use Rattle.affine_expr.specs.Value.{floor_div, value}
use Rattle.affine_expr.specs.Truth.{compares, all_hold}
use Rattle.affine_expr.specs.Forms.{Form, LocalForm, dot, with_locals, AreInOrder}
use Rattle.affine_expr.specs.Linear.{◌>>=◌, or_wide, join_forms, number_form, padded, minus, over}
use Rattle.affine_expr.proofs.Divisions.{floor_is}
use Rattle.affine_expr.proofs.FormValues.{Gives, then, narrow_gives, worth, IsJoin, join_forms_gives, dot-longer, dot-last, number_worth, number_long}
use Rattle.affine_expr.proofs.Locals.{floor_at, length-with_locals, kept}
use Rattle.direct_meaning.specs.Static.{greatest}
use Rattle.nest_domain.specs.Forms.{Formed, all_over, floor_rows, all_floor_rows}
use Rattle.nest_domain.specs.Domains.{all_from, all_less, shifted, upper_row, last_row, upper_row_over, upper_rows, compared_rows, set_rows}
use Rattle.affine_expr.proofs.Meaning.{padded_worth, padded_most, Is, Are, Good, over_gives}

pub weaker : {A : Type 0} (w : Result A LinearFault) (P Q : A → Type 0) → Gives w P → ((x : A) → P x → Q x) → Gives w Q
weaker (Ok x) P Q h f = f x h
weaker (Err e) P Q h f = tt

-- ---- differences
pub record IsMinus (f g h : Form) : Type 0 where
  pub same : (p : List ℤ) → worth h p ≡ worth f p -ℤ worth g p
  pub short : (n : ℕ) → length f.coefs ≤ n → length g.coefs ≤ n → length h.coefs ≤ n

padded_short : (m n : ℕ) (g : Form) → m ≤ n → length g.coefs ≤ n → length (padded m g).coefs ≤ n
unfolding padded
padded_short m n g h k = omega (arith, h, k, length-append g.coefs (replicate (m - length g.coefs) (pos 0)), length-replicate (m - length g.coefs) (pos 0))

pub minus_gives : (f g : Form) → Gives (minus f g) (IsMinus f g)
unfolding minus
minus_gives f g =
    let long = padded_most (length f.coefs) g in
    weaker (join_forms Difference f (padded (length f.coefs) g)) (IsJoin Difference f (padded (length f.coefs) g)) (IsMinus f g) (join_forms_gives Difference f (padded (length f.coefs) g) long) (λ h j. record {
      same = λ p. j.same p ∙ ap (λ z. worth f p -ℤ z) (padded_worth (length f.coefs) g p);
      short = λ n a b. let s = padded_short (length f.coefs) n g a b in omega (arith, j.long, s);
    })

-- a row over so many variables that holds at a point
pub record RowHolds (n : ℕ) (p : List ℤ) (f : Form) : Type 0 where
  pub short : length f.coefs ≤ n
  pub holds : pos 0 ≤ℤ worth f p

pub minus_is : (n : ℕ) (p : List ℤ) (f g : Form) (u v : ℤ) → Is n p f u → Is n p g v → Gives (minus f g) (λ h. Is n p h (u -ℤ v))
minus_is n p f g u v a b = weaker (minus f g) (IsMinus f g) (λ h. Is n p h (u -ℤ v)) (minus_gives f g) (λ h m. record {
  short = m.short n a.short b.short;
  same = m.same p ∙ ap (λ z. z -ℤ worth g p) a.same ∙ ap (λ z. u -ℤ z) b.same;
})

pub row_of : (n : ℕ) (p : List ℤ) (f : Form) (v : ℤ) → Is n p f v → pos 0 ≤ℤ v → RowHolds n p f
row_of n p f v h k = record { short = h.short; holds = subst (λ z. pos 0 ≤ℤ z) (sym h.same) k }

pub minus_row : (n : ℕ) (p : List ℤ) (f g : Form) (u v : ℤ) → Is n p f u → Is n p g v → v ≤ℤ u → Gives (minus f g) (RowHolds n p)
minus_row n p f g u v a b l = weaker (minus f g) (λ h. Is n p h (u -ℤ v)) (RowHolds n p) (minus_is n p f g u v a b) (λ h i. row_of n p h (u -ℤ v) i (omega (arith, ints, l)))

-- a row more in front
cons_gives : {A : Type 0} (P : A → Type 0) (w : Result A LinearFault) (ws : Result (List A) LinearFault) → Gives w P → Gives ws (Each P) → Gives (w >>= (λ x. ws >>= (λ xs. Ok (x ∷ xs)))) (Each P)
cons_gives P w ws h k = (then) w (λ x. ws >>= (λ xs. Ok (x ∷ xs))) P (Each P) h (λ x px. (then) ws (λ xs. Ok (x ∷ xs)) (Each P) (Each P) k (λ xs pxs. (px, pxs)))

module _ (n : ℕ) (p : List ℤ) where
  pub all_from_hold : (f : Form) (u : ℤ) (gs : List Form) (vs : List ℤ) → Is n p f u → Are n p gs vs → Each (λ v. v ≤ℤ u) vs → Gives (all_from f gs) (Each (RowHolds n p))
  all_from_hold f u [] [] a b l = tt
  all_from_hold f u [] (v ∷ vs) a b l = absurd b
  all_from_hold f u (g ∷ gs) [] a b l = absurd b
  all_from_hold f u (g ∷ gs) (v ∷ vs) a b l = cons_gives (RowHolds n p) (minus f g) (all_from f gs) (minus_row n p f g u v a b.0 l.0) (all_from_hold f u gs vs a b.1 l.1)

  pub all_less_hold : (f : Form) (u : ℤ) (gs : List Form) (vs : List ℤ) → Is n p f u → Are n p gs vs → Each (λ v. u ≤ℤ v) vs → Gives (all_less gs f) (Each (RowHolds n p))
  all_less_hold f u [] [] a b l = tt
  all_less_hold f u [] (v ∷ vs) a b l = absurd b
  all_less_hold f u (g ∷ gs) [] a b l = absurd b
  all_less_hold f u (g ∷ gs) (v ∷ vs) a b l = cons_gives (RowHolds n p) (minus g f) (all_less gs f) (minus_row n p g f v u b.0 a l.0) (all_less_hold f u gs vs a b.1 l.1)

  pub shifted_is : (f : Form) (z u : ℤ) → Is n p f u → Gives (shifted f z) (λ h. Is n p h (u +ℤ z))
  shifted_is f z u a = (then) (or_wide (narrowed (f.constant +ℤ z))) _ (λ x. x ≡ f.constant +ℤ z) (λ h. Is n p h (u +ℤ z)) (narrow_gives (f.constant +ℤ z)) (λ x e. record {
    short = a.short;
    same = linear (dot f.coefs p) f.constant x u e a.same;
  })
    where
      linear : (d c x u : ℤ) → x ≡ c +ℤ z → d +ℤ c ≡ u → d +ℤ x ≡ u +ℤ z
      linear d c x u e h = omega (arith, ints, e, h)

  -- ---- the rows of a loop's upper results
  upper_row_holds : (iv u : Form) (t w : ℤ) → Is n p iv t → Is n p u w → t <ℤ w → Gives (upper_row iv u) (RowHolds n p)
  upper_row_holds iv u t w a b l = (then) (shifted u (neg_ℤ (pos 1))) (λ top. minus top iv) (λ h. Is n p h (w +ℤ neg_ℤ (pos 1))) (RowHolds n p) (shifted_is u (neg_ℤ (pos 1)) w b)
      (λ top i. minus_row n p top iv (w +ℤ neg_ℤ (pos 1)) t i a (omega (arith, ints, l)))

  flat_dot : (cs : List ℤ) → all_zero cs ≡ true → dot cs p ≡ pos 0
  flat_dot cs h = by cs p h
    where
      by : (cs p : List ℤ) → all_zero cs ≡ true → dot cs p ≡ pos 0
      by [] p h = refl
      by (c ∷ cs) [] h = refl
      by (c ∷ cs) (x ∷ p) h =
          let both = and_parts (int_eq c (pos 0)) (all_zero cs) h in
          let z = (Decides-int_eq c (pos 0)).0 both.0 in
          ap (λ t. t *ℤ x +ℤ dot cs p) z ∙ ap (λ t. pos 0 *ℤ x +ℤ t) (by cs p both.1) ∙ ring (Var (pos 0) ⊗ Var x ⊕ Var (pos 0)) (Var (pos 0)) (omega arith)

  -- t is k steps above l, and below w, where w - l is D
  last_most : (l t w s D : ℤ) (k : ℕ) → pos 0 <ℤ s → t ≡ l +ℤ pos k *ℤ s → t <ℤ w → w -ℤ l ≡ D → t ≤ℤ (l +ℤ floor_div (D -ℤ pos 1) s *ℤ s)
  last_most l t w s D k h e less d =
      let below : (pos k *ℤ s) ≤ℤ (D -ℤ pos 1) = linear (pos k *ℤ s) l t w D e less d in
      let q = at_most_floor (pos k) (D -ℤ pos 1) s h below in
      let m = mul_le_right (pos k) (int_div_euclid (D -ℤ pos 1) s) s q (omega (arith, ints, h)) in
      let f : floor_div (D -ℤ pos 1) s *ℤ s ≡ int_div_euclid (D -ℤ pos 1) s *ℤ s = ap (λ z. z *ℤ s) (floor_is (D -ℤ pos 1) s h) in
      finish (pos k *ℤ s) (int_div_euclid (D -ℤ pos 1) s *ℤ s) (floor_div (D -ℤ pos 1) s *ℤ s) t e m f
    where
      linear : (x l t w D : ℤ) → t ≡ l +ℤ x → t <ℤ w → w -ℤ l ≡ D → x ≤ℤ (D -ℤ pos 1)
      linear x l t w D e less d = omega (arith, ints, e, less, d)

      finish : (x y z t : ℤ) → t ≡ l +ℤ x → x ≤ℤ y → z ≡ y → t ≤ℤ (l +ℤ z)
      finish x y z t e m f = omega (arith, ints, e, m, f)

  last_row_holds : (l : Form) (s : ℤ) (iv u d : Form) (lv t w : ℤ) (k : ℕ) → pos 0 <ℤ s → Is n p l lv → Is n p iv t → Is n p u w → Is n p d (w -ℤ lv) → t ≡ lv +ℤ pos k *ℤ s → t <ℤ w → Gives (last_row l s iv u d) (RowHolds n p)
  last_row_holds l s iv u d lv t w k h a b c e is less = by (all_zero d.coefs) refl
    where
      by : (z : Bool) → all_zero d.coefs ≡ z → Gives (cond z (shifted l (floor_div (d.constant -ℤ pos 1) s *ℤ s) >>= (λ top. minus top iv)) (upper_row iv u)) (RowHolds n p)
      by true z =
          let gap : w -ℤ lv ≡ d.constant = flat (dot d.coefs p) d.constant (w -ℤ lv) (flat_dot d.coefs z) e.same in
          (then) (shifted l (floor_div (d.constant -ℤ pos 1) s *ℤ s)) (λ top. minus top iv) (λ h. Is n p h (lv +ℤ floor_div (d.constant -ℤ pos 1) s *ℤ s)) (RowHolds n p) (shifted_is l (floor_div (d.constant -ℤ pos 1) s *ℤ s) lv a)
          (λ top i. minus_row n p top iv _ t i b (last_most lv t w s d.constant k h is less gap))
        where
          flat : (x c v : ℤ) → x ≡ pos 0 → x +ℤ c ≡ v → v ≡ c
          flat x c v e f = omega (arith, ints, e, f)
      by false z = upper_row_holds iv u t w b c less

  pub upper_rows_hold : (ls : List Form) (lvs : List ℤ) (s : ℤ) (iv : Form) (t : ℤ) (us : List Form) (ws : List ℤ) (k : ℕ) → pos 0 <ℤ s → Are n p ls lvs → Is n p iv t → Are n p us ws
      → t ≡ greatest lvs +ℤ pos k *ℤ s → Each (λ w. t <ℤ w) ws → Gives (upper_rows ls s iv us) (Each (RowHolds n p))
  upper_rows_hold ls lvs s iv t [] [] k h a b c is less = tt
  upper_rows_hold ls lvs s iv t [] (w ∷ ws) k h a b c is less = absurd c
  upper_rows_hold ls lvs s iv t (u ∷ us) [] k h a b c is less = absurd c
  upper_rows_hold [] lvs s iv t (u ∷ us) (w ∷ ws) k h a b c is less =
      cons_gives (RowHolds n p) (upper_row iv u) (upper_rows [] s iv us) (upper_row_holds iv u t w b c.0 less.0) (upper_rows_hold [] lvs s iv t us ws k h a b c.1 is less.1)
  upper_rows_hold (l ∷ []) [] s iv t (u ∷ us) (w ∷ ws) k h a b c is less = absurd a
  upper_rows_hold (l ∷ []) (lv ∷ (mv ∷ lvs)) s iv t (u ∷ us) (w ∷ ws) k h a b c is less = absurd a.1
  upper_rows_hold (l ∷ []) (lv ∷ []) s iv t (u ∷ us) (w ∷ ws) k h a b c is less =
      cons_gives (RowHolds n p) (upper_row_over (l ∷ []) s iv u) (upper_rows (l ∷ []) s iv us)
      ((then) (minus u l) (λ d. last_row l s iv u d) (λ d. Is n p d (w -ℤ lv)) (RowHolds n p) (minus_is n p u l w lv c.0 a.0) (λ d i. last_row_holds l s iv u d lv t w k h a.0 b c.0 i is less.0))
      (upper_rows_hold (l ∷ []) (lv ∷ []) s iv t us ws k h a b c.1 is less.1)
  upper_rows_hold (l ∷ (m ∷ ls)) lvs s iv t (u ∷ us) (w ∷ ws) k h a b c is less =
      cons_gives (RowHolds n p) (upper_row iv u) (upper_rows (l ∷ (m ∷ ls)) s iv us) (upper_row_holds iv u t w b c.0 less.0) (upper_rows_hold (l ∷ (m ∷ ls)) lvs s iv t us ws k h a b c.1 is less.1)

  -- ---- the rows of a constraint
  pub compared_hold : (rel : Rel) (f g : Form) (u v : ℤ) → Is n p f u → Is n p g v → compares rel u v ≡ true → Gives (compared_rows rel f g) (Each (RowHolds n p))
  compared_hold Ge f g u v a b h = one_row (minus f g) (minus_row n p f g u v a b (grind (arith, ints, h)))
    where
      one_row : (w : Result Form LinearFault) → Gives w (RowHolds n p) → Gives (w >>= (λ r. Ok (r ∷ []))) (Each (RowHolds n p))
      one_row w k = (then) w (λ r. Ok (r ∷ [])) (RowHolds n p) (Each (RowHolds n p)) k (λ r x. (x, tt))
  compared_hold Le f g u v a b h = one_row (minus g f) (minus_row n p g f v u b a (grind (arith, ints, h)))
    where
      one_row : (w : Result Form LinearFault) → Gives w (RowHolds n p) → Gives (w >>= (λ r. Ok (r ∷ []))) (Each (RowHolds n p))
      one_row w k = (then) w (λ r. Ok (r ∷ [])) (RowHolds n p) (Each (RowHolds n p)) k (λ r x. (x, tt))
  compared_hold Eq f g u v a b h =
      let e : u ≡ v = (Decides-int_eq u v).0 h in
      (then) (minus f g) (λ r. minus g f >>= (λ s. Ok (r ∷ s ∷ []))) (RowHolds n p) (Each (RowHolds n p)) (minus_row n p f g u v a b (omega (arith, ints, e)))
      (λ r x. (then) (minus g f) (λ s. Ok (r ∷ s ∷ [])) (RowHolds n p) (Each (RowHolds n p)) (minus_row n p g f v u b a (omega (arith, ints, e))) (λ s y. (x, (y, tt))))

-- ---- longer points
pub is_longer : (n m : ℕ) (p more : List ℤ) (f : Form) (v : ℤ) → length p ≡ n → n ≤ m → Is n p f v → Is m (p ++ more) f v
is_longer n m p more f v e l h = record { short = omega (arith, h.short, l); same = ap (λ z. z +ℤ f.constant) (dot-longer f.coefs p more (omega (arith, h.short, e))) ∙ h.same }

pub are_longer : (n m : ℕ) (p more : List ℤ) (fs : List Form) (vs : List ℤ) → length p ≡ n → n ≤ m → Are n p fs vs → Are m (p ++ more) fs vs
are_longer n m p more [] [] e l h = tt
are_longer n m p more [] (v ∷ vs) e l h = absurd h
are_longer n m p more (f ∷ fs) [] e l h = absurd h
are_longer n m p more (f ∷ fs) (v ∷ vs) e l h = (is_longer n m p more f v e l h.0, are_longer n m p more fs vs e l h.1)

pub row_longer : (n m : ℕ) (p more : List ℤ) (f : Form) → length p ≡ n → n ≤ m → RowHolds n p f → RowHolds m (p ++ more) f
row_longer n m p more f e l h = record {
  short = omega (arith, h.short, l);
  holds = subst (λ z. pos 0 ≤ℤ z) (sym (ap (λ z. z +ℤ f.constant) (dot-longer f.coefs p more (omega (arith, h.short, e))))) h.holds;
}

pub rows_longer : (n m : ℕ) (p more : List ℤ) (fs : List Form) → length p ≡ n → n ≤ m → Each (RowHolds n p) fs → Each (RowHolds m (p ++ more)) fs
rows_longer n m p more fs e l h = Each-weaken (RowHolds n p) (RowHolds m (p ++ more)) (λ f k. row_longer n m p more f e l k) fs h

-- the locals only make the point longer
pub grows : (p : List ℤ) (ls : List LocalForm) → (more : List ℤ) × (with_locals p ls ≡ p ++ more)
grows p [] = ([], sym (append-nil p))
grows p (l ∷ ls) =
    let w = grows (p ++ floor_at l p ∷ []) ls in
    (floor_at l p ∷ w.0, w.1 ∙ append_assoc p (floor_at l p ∷ []) w.0)

-- ---- the rows of divisions, each at its floor
divided_rows : (u c q fu : ℤ) → pos 0 <ℤ c → q ≡ floor_div u c → fu ≡ u → (pos 0 ≤ℤ (fu +ℤ neg_ℤ c *ℤ q)) × (pos 0 ≤ℤ (((c -ℤ pos 1) -ℤ fu) +ℤ c *ℤ q))
divided_rows u c q fu h e f =
    let i : q ≡ int_div_euclid u c = e ∙ floor_is u c h in
    let low = floor_below u c h in
    let high = floor_above u c h in
    let m : neg_ℤ c *ℤ q ≡ neg_ℤ (int_div_euclid u c *ℤ c) = ap (λ z. neg_ℤ c *ℤ z) i ∙ ring (Neg (Var c) ⊗ Var (int_div_euclid u c)) (Neg (Var (int_div_euclid u c) ⊗ Var c)) (omega arith) in
    let k : c *ℤ q ≡ int_div_euclid u c *ℤ c = ap (λ z. c *ℤ z) i ∙ ring (Var c ⊗ Var (int_div_euclid u c)) (Var (int_div_euclid u c) ⊗ Var c) (omega arith) in
    (omega (arith, ints, m, low, f), omega (arith, ints, k, high, f))

floor_rows_hold : (env : List ℤ) (width : ℕ) (l : LocalForm) → length env ≡ width → length l.coefs ≡ width → pos 0 <ℤ l.divisor → Gives (floor_rows l) (Each (RowHolds (suc width) (env ++ floor_at l env ∷ [])))
floor_rows_hold env width l e k h =
    let f : Form = record { coefs = l.coefs; constant = l.constant } in
    let top = number_form (length l.coefs) (l.divisor -ℤ pos 1) in
    let q = floor_at l env in
    let short = number_long (length l.coefs) (l.divisor -ℤ pos 1) in
    let both = divided_rows (worth f env) l.divisor q (worth f env) h refl refl in
    (then) (join_forms Difference top f) _ (IsJoin Difference top f) (Each (RowHolds (suc width) (env ++ q ∷ []))) (join_forms_gives Difference top f (omega (arith, short))) (λ high j.
    let same = j.same env ∙ ap (λ z. z -ℤ worth f env) (number_worth (length l.coefs) (l.divisor -ℤ pos 1) env) in (
      record {
        short = omega (arith, k, length-append l.coefs (neg_ℤ l.divisor ∷ []));
        holds = subst (λ z. pos 0 ≤ℤ z) (sym (ap (λ z. z +ℤ l.constant) (dot-last l.coefs env (neg_ℤ l.divisor) q (omega (arith, k, e))) ∙ turned (dot l.coefs env) l.constant (neg_ℤ l.divisor *ℤ q))) both.0;
      },
      (
        record {
          short = omega (arith, k, j.long, length-append high.coefs (l.divisor ∷ []));
          holds = subst (λ z. pos 0 ≤ℤ z) (sym (ap (λ z. z +ℤ high.constant) (dot-last high.coefs env l.divisor q (omega (arith, k, e, j.long))) ∙ turned (dot high.coefs env) high.constant (l.divisor *ℤ q) ∙ ap (λ z. z +ℤ l.divisor *ℤ q) same)) both.1;
        },
        tt,
      ),
    ))
  where
    turned : (d c x : ℤ) → (d +ℤ x) +ℤ c ≡ (d +ℤ c) +ℤ x
    turned d c x = omega (arith, ints)

pub all_floor_rows_hold : (ls : List LocalForm) (env : List ℤ) (width : ℕ) → length env ≡ width → AreInOrder width ls → Gives (all_floor_rows ls) (Each (RowHolds (width + length ls) (with_locals env ls)))
all_floor_rows_hold [] env width e o = tt
all_floor_rows_hold (l ∷ ls) env width e o =
    let q = floor_at l env in
    let longer : length (env ++ q ∷ []) ≡ suc width = omega (arith, e, length-append env (q ∷ [])) in
    let w = grows (env ++ q ∷ []) ls in
    let count : suc width + length ls ≡ width + length (l ∷ ls) = omega arith in
    (then) (floor_rows l) _ (Each (RowHolds (suc width) (env ++ q ∷ []))) (Each (RowHolds (width + length (l ∷ ls)) (with_locals env (l ∷ ls)))) (floor_rows_hold env width l e o.0 o.1) (λ rows h.
    (then) (all_floor_rows ls) _ (Each (RowHolds (suc width + length ls) (with_locals (env ++ q ∷ []) ls))) (Each (RowHolds (width + length (l ∷ ls)) (with_locals env (l ∷ ls)))) (all_floor_rows_hold ls (env ++ q ∷ []) (suc width) longer o.2) (λ rest k.
    subst (λ m. Each (RowHolds m (with_locals env (l ∷ ls))) (rows ++ rest)) count
    (Each-append (RowHolds (suc width + length ls) (with_locals (env ++ q ∷ []) ls)) rows rest
    (subst (λ p. Each (RowHolds (suc width + length ls) p) rows) (sym w.1) (rows_longer (suc width) (suc width + length ls) (env ++ q ∷ []) w.0 rows longer (omega arith) h)) k)))

-- ---- several expressions, and the two sides of constraints
module _ (env : List ℤ) (width : ℕ) (length-env : length env ≡ width) where
  abbrev pub At : List LocalForm → List ℤ
  At ls = with_locals env ls

  pub length-At : (ls : List LocalForm) → length (At ls) ≡ width + length ls
  length-At ls = omega (arith, length-with_locals env ls, length-env)

  pub is_grown : (ls ms more : List LocalForm) (f : Form) (v : ℤ) → ms ≡ ls ++ more → Is (width + length ls) (At ls) f v → Is (width + length ms) (At ms) f v
  is_grown ls ms more f v e h = record {
    short = omega (arith, h.short, ap length e, length-append ls more);
    same = kept env f ls ms more e (omega (arith, h.short, length-env)) ∙ h.same;
  }

  pub are_grown : (ls ms more : List LocalForm) (fs : List Form) (vs : List ℤ) → ms ≡ ls ++ more → Are (width + length ls) (At ls) fs vs → Are (width + length ms) (At ms) fs vs
  are_grown ls ms more [] [] e h = tt
  are_grown ls ms more [] (v ∷ vs) e h = absurd h
  are_grown ls ms more (f ∷ fs) [] e h = absurd h
  are_grown ls ms more (f ∷ fs) (v ∷ vs) e h = (is_grown ls ms more f v e h.0, are_grown ls ms more fs vs e h.1)

  pub rows_grown : (ls ms more : List LocalForm) (rows : List Form) → ms ≡ ls ++ more → Each (RowHolds (width + length ls) (At ls)) rows → Each (RowHolds (width + length ms) (At ms)) rows
  rows_grown ls ms more rows e h = Each-weaken (RowHolds (width + length ls) (At ls)) (RowHolds (width + length ms) (At ms)) (λ f k. record {
    short = omega (arith, k.short, ap length e, length-append ls more);
    holds = subst (λ z. pos 0 ≤ℤ z) (sym (kept env f ls ms more e (omega (arith, k.short, length-env)))) k.holds;
  }) rows h

  -- forms of these values, and their locals behind those so far
  pub record AllGood (ls : List LocalForm) (vs : List ℤ) (st : Formed) : Type 0 where
    pub more : List LocalForm
    pub grown : st.locals ≡ ls ++ more
    pub ordered : AreInOrder width st.locals
    pub forms : Are (width + length st.locals) (At st.locals) st.forms vs

  -- rows that hold, and their locals behind those so far
  pub record AllRows (ls : List LocalForm) (st : Formed) : Type 0 where
    pub more : List LocalForm
    pub grown : st.locals ≡ ls ++ more
    pub ordered : AreInOrder width st.locals
    pub rows : Each (RowHolds (width + length st.locals) (At st.locals)) st.forms

  further : (a b c m n : List LocalForm) → b ≡ a ++ m → c ≡ b ++ n → c ≡ a ++ (m ++ n)
  further a b c m n e f = f ∙ ap (λ x. x ++ n) e ∙ append_assoc a m n

  module _ (fs gs : List Form) (ds ss : List ℤ) (dims : Are width env fs ds) (syms : Are width env gs ss) where
    pub all_over_gives : (es : List Expr) (ls : List LocalForm) → AreInOrder width ls → Gives (all_over width fs gs es ls) (AllGood ls (map (value ds ss) es))
    all_over_gives [] ls o = record { more = []; grown = sym (append-nil ls); ordered = o; forms = tt }
    all_over_gives (e ∷ es) ls o =
        (then) ((over width fs gs e).form ls) _ (Good env width length-env ls (value ds ss e)) (AllGood ls (map (value ds ss) (e ∷ es))) (over_gives env width length-env fs gs ds ss dims syms e ls o) (λ f g.
        (then) (all_over width fs gs es f.locals) _ (AllGood f.locals (map (value ds ss) es)) (AllGood ls (map (value ds ss) (e ∷ es))) (all_over_gives es f.locals g.ordered) (λ rest h. record {
          more = g.more ++ h.more;
          grown = further ls f.locals rest.locals g.more h.more g.grown h.grown;
          ordered = h.ordered;
          forms = (is_grown f.locals rest.locals h.more f.form (value ds ss e) h.grown (record { short = omega (arith, g.long); same = g.same }), h.forms);
        }))

    pub set_rows_hold : (cs : List Constraint) (ls : List LocalForm) → AreInOrder width ls → all_hold ds ss cs ≡ true → Gives (set_rows width fs gs cs ls) (AllRows ls)
    set_rows_hold [] ls o t = record { more = []; grown = sym (append-nil ls); ordered = o; rows = tt }
    set_rows_hold (c ∷ cs) ls o t =
        let both = and_parts (compares c.rel (value ds ss c.left) (value ds ss c.right)) (all_hold ds ss cs) t in
        (then) ((over width fs gs c.left).form ls) _ (Good env width length-env ls (value ds ss c.left)) (AllRows ls) (over_gives env width length-env fs gs ds ss dims syms c.left ls o) (λ f g.
        (then) ((over width fs gs c.right).form f.locals) _ (Good env width length-env f.locals (value ds ss c.right)) (AllRows ls) (over_gives env width length-env fs gs ds ss dims syms c.right f.locals g.ordered) (λ r h.
        let n = width + length r.locals in
        let left = is_grown f.locals r.locals h.more f.form (value ds ss c.left) h.grown (record { short = omega (arith, g.long); same = g.same }) in
        (then) (compared_rows c.rel f.form r.form) _ (Each (RowHolds n (At r.locals))) (AllRows ls) (compared_hold n (At r.locals) c.rel f.form r.form _ _ left (record { short = omega (arith, h.long); same = h.same }) both.0) (λ rows k.
        (then) (set_rows width fs gs cs r.locals) _ (AllRows r.locals) (AllRows ls) (set_rows_hold cs r.locals h.ordered both.1) (λ rest m. record {
          more = g.more ++ (h.more ++ m.more);
          grown = further ls f.locals rest.locals g.more (h.more ++ m.more) g.grown (further f.locals r.locals rest.locals h.more m.more h.grown m.grown);
          ordered = m.ordered;
          rows = Each-append (RowHolds (width + length rest.locals) (At rest.locals)) rows rest.forms (rows_grown r.locals rest.locals m.more rows m.grown k) m.rows;
        }))))
