-- What the tests of a cover say of loops.
use Rattle.std.proofs.Common.{◌≡◌, ℕ, zero, suc, ◌+◌, ◌-◌, ◌≤◌, Bool, true, false, cond, ◌&&◌, List, [], ◌∷◌, ◌++◌, length, slice_get, Option, Some, None, Result, Ok, Err, ℤ, pos, ◌+ℤ◌, ◌-ℤ◌, ◌*ℤ◌, ◌<ℤ◌, ◌≤ℤ◌, int_lt, refl, sym, ◌∙◌, ap, subst, arith, append_assoc, length-append}
use Rattle.std.specs.Prelude.{not, nat_eq, ◌||◌}
use Rattle.std.specs.Int.{int_min, int_max}
use Rattle.std.specs.Ordering.{int_eq}
use Rattle.std.specs.Cmp.Rules.{signed_items}
use Rattle.std.proofs.lemmas.Int.{ints}
use Rattle.std.proofs.lemmas.Bool.{and_parts, eqb-true}
use Rattle.std.proofs.lemmas.Bool.Decides.{Decides-int_eq}
use Rattle.num_row.specs.Ints.{narrowed}
use Rattle.num_row.proofs.Ring.{Var, ◌⊕◌, ◌⊗◌, ring}
use Rattle.constraint_set.specs.Tidy.{all_zero, same_coefs}
use Rattle.affine_expr.specs.declared.linear.LinearFault.{LinearFault}
use Rattle.affine_expr.specs.Forms.{Form, dot}
use Rattle.affine_expr.specs.Linear.{or_wide}
use Rattle.affine_expr.proofs.FormValues.{Gives, then, narrow_gives, worth, dot-longer}
use Rattle.affine_expr.specs.Linear.{padded, minus}
use Rattle.nest_domain.specs.Domains.{Going, shifted}
use Rattle.affine_expr.proofs.Meaning.{padded_worth}
use Rattle.nest_domain.proofs.Rowed.{IsMinus, minus_gives}
use Rattle.nest_domain.proofs.Sweeps.{Sweeps, Passes, Part, Parts}
use Rattle.nest_domain.specs.Boxes.{Dimension, place_at, begins_at, AllIn, AreOver}
use Rattle.box_covers.specs.Covers.{is_positive_gap, ends_at, same_form, place_form, only_form, sweeps_by, sweeps, passes_by, passes, swept_by, all_swept, others_pass, has_number}

whole : (n : ℕ) (f : Form) (p : List ℤ) → worth (padded n f) p ≡ dot (padded n f).coefs p +ℤ f.constant
unfolding padded
whole n f p = refl

-- forms that are the same have the same value
pub same_worth : (f g : Form) → same_form f g ≡ true → (p : List ℤ) → worth f p ≡ worth g p
same_worth f g h p =
    let both = and_parts (same_coefs (padded (length g.coefs) f).coefs (padded (length f.coefs) g).coefs) (int_eq f.constant g.constant) h in
    let cs = (signed_items (padded (length g.coefs) f).coefs (padded (length f.coefs) g).coefs).0 both.0 in
    let k = (Decides-int_eq f.constant g.constant).0 both.1 in
    sym (padded_worth (length g.coefs) f p) ∙ whole (length g.coefs) f p ∙ (λ i. dot (cs i) p +ℤ k i) ∙ sym (whole (length f.coefs) g p) ∙ padded_worth (length f.coefs) g p

shifted_worth : (f : Form) (z : ℤ) → Gives (shifted f z) (λ h. (p : List ℤ) → worth h p ≡ worth f p +ℤ z)
shifted_worth f z = then (or_wide (narrowed (f.constant +ℤ z))) _ (λ x. x ≡ f.constant +ℤ z) (λ h. (p : List ℤ) → worth h p ≡ worth f p +ℤ z) (narrow_gives (f.constant +ℤ z)) (λ x e p. linear (dot f.coefs p) f.constant x e)
  where
    linear : (d c x : ℤ) → x ≡ c +ℤ z → d +ℤ x ≡ (d +ℤ c) +ℤ z
    linear d c x e = omega (arith, ints, e)

flat_dot : (cs p : List ℤ) → all_zero cs ≡ true → dot cs p ≡ pos 0
flat_dot [] p h = refl
flat_dot (c ∷ cs) [] h = refl
flat_dot (c ∷ cs) (x ∷ p) h =
    let both = and_parts (int_eq c (pos 0)) (all_zero cs) h in
    let z = (Decides-int_eq c (pos 0)).0 both.0 in
    ap (λ t. t *ℤ x +ℤ dot cs p) z ∙ ap (λ t. pos 0 *ℤ x +ℤ t) (flat_dot cs p both.1) ∙ ring (Var (pos 0) ⊗ Var x ⊕ Var (pos 0)) (Var (pos 0)) (omega arith)

gap_worth : (low high : Form) (w : Result Form LinearFault) → Gives w (IsMinus high low) → is_positive_gap w ≡ true → (p : List ℤ) → worth low p <ℤ worth high p
gap_worth low high (Err e) k h p = absurd (let z : ⊥ = cc in z)
gap_worth low high (Ok d) k h p =
    let both = and_parts (all_zero d.coefs) (int_lt (pos 0) d.constant) h in
    let positive : pos 0 <ℤ d.constant = grind (arith, ints, both.1) in
    linear (worth low p) (worth high p) (dot d.coefs p) d.constant (k.same p) (flat_dot d.coefs p both.0) positive
  where
    linear : (a b x c : ℤ) → x +ℤ c ≡ b -ℤ a → x ≡ pos 0 → pos 0 <ℤ c → a <ℤ b
    linear a b x c e f h = omega (arith, ints, e, f, h)

-- a loop that passes has a turn
passes_on : (os : List ℤ) (g : Going) (ls us : List Form) → g.lowers ≡ ls → g.uppers ≡ us → passes_by (only_form ls) (only_form us) ≡ true → Passes os g
passes_on os g [] us a b h = absurd (let z : ⊥ = cc in z)
passes_on os g (l ∷ (m ∷ ls)) us a b h = absurd (let z : ⊥ = cc in z)
passes_on os g (l ∷ []) [] a b h = absurd (let z : ⊥ = cc in z)
passes_on os g (l ∷ []) (u ∷ (m ∷ us)) a b h = absurd (let z : ⊥ = cc in z)
passes_on os g (l ∷ []) (u ∷ []) a b h = record { low = l; high = u; one_lower = a; one_upper = b; less = λ p. gap_worth l u (minus u l) (minus_gives u l) h p }

pub passes_true : (os : List ℤ) (g : Going) → passes g ≡ true → Passes os g
passes_true os g h = passes_on os g g.lowers g.uppers refl refl h

ends_worth : (high f : Form) (z : ℤ) (w : Result Form LinearFault) → Gives w (λ h. (p : List ℤ) → worth h p ≡ worth f p +ℤ z) → ends_at high w ≡ true → (p : List ℤ) → worth high p ≡ worth f p +ℤ z
ends_worth high f z (Err e) k h p = absurd (let z : ⊥ = cc in z)
ends_worth high f z (Ok end) k h p = same_worth high end h p ∙ k p

-- the place of a dimension at a visit
place_worth : (d : Dimension) (os more : List ℤ) → length d.coefs ≤ length os → worth (place_form d) (os ++ more) ≡ dot d.coefs os +ℤ d.offset
place_worth d os more h = ap (λ z. z +ℤ d.offset) (dot-longer d.coefs os more h)

-- a loop that sweeps a dimension comes to each of its numbers
sweeps_on : (os : List ℤ) (d : Dimension) (g : Going) (x : ℤ) → length d.coefs ≤ length os → (dot d.coefs os +ℤ d.offset) ≤ℤ x → x <ℤ ((dot d.coefs os +ℤ d.offset) +ℤ d.extent)
    → (ls us : List Form) → g.lowers ≡ ls → g.uppers ≡ us → sweeps_by d g (only_form ls) (only_form us) ≡ true → Sweeps os g x
sweeps_on os d g x short low high [] us a b h = absurd (let z : ⊥ = cc in z)
sweeps_on os d g x short low high (l ∷ (m ∷ ls)) us a b h = absurd (let z : ⊥ = cc in z)
sweeps_on os d g x short low high (l ∷ []) [] a b h = absurd (let z : ⊥ = cc in z)
sweeps_on os d g x short low high (l ∷ []) (u ∷ (m ∷ us)) a b h = absurd (let z : ⊥ = cc in z)
sweeps_on os d g x short low high (l ∷ []) (u ∷ []) a b h =
    let one = and_parts (int_eq g.step (pos 1)) (same_form l (place_form d) && ends_at u (shifted (place_form d) d.extent)) h in
    let two = and_parts (same_form l (place_form d)) (ends_at u (shifted (place_form d) d.extent)) one.1 in
    record {
      low = l;
      high = u;
      one_lower = a;
      one_upper = b;
      by_ones = (Decides-int_eq g.step (pos 1)).0 one.0;
      from = λ more. subst (λ z. z ≤ℤ x) (sym (same_worth l (place_form d) two.0 (os ++ more) ∙ place_worth d os more short)) low;
      to = λ more. subst (λ z. x <ℤ z) (sym (ends_worth u (place_form d) d.extent (shifted (place_form d) d.extent) (shifted_worth (place_form d) d.extent) two.1 (os ++ more) ∙ ap (λ z. z +ℤ d.extent) (place_worth d os more short))) high;
    }

unclamped : (d : Dimension) (size x : ℤ) → not d.clamped ≡ true → place_at d size x ≡ x +ℤ d.offset
unfolding place_at
unclamped d size x h = by d.clamped h
  where
    by : (c : Bool) → not c ≡ true → cond c (int_max (pos 0) (int_min (x +ℤ d.offset) (size -ℤ d.extent))) (x +ℤ d.offset) ≡ x +ℤ d.offset
    by true h = absurd (let z : ⊥ = cc in z)
    by false h = refl

pub sweeps_true : (os : List ℤ) (d : Dimension) (size : ℕ) (g : Going) (x : ℤ) → length d.coefs ≤ length os → (not d.clamped && sweeps d g) ≡ true → begins_at d size os ≤ℤ x → x <ℤ (begins_at d size os +ℤ d.extent) → Sweeps os g x
sweeps_true os d size g x short h low high =
    let both = and_parts (not d.clamped) (sweeps d g) h in
    let place = unclamped d (pos size) (dot d.coefs os) both.0 in
    sweeps_on os d g x short (subst (λ z. z ≤ℤ x) place low) (subst (λ z. x <ℤ (z +ℤ d.extent)) place high) g.lowers g.uppers refl refl both.1

-- ---- the numbers wanted of the loops: those of the subscripts that they are
unfoldable pub want_of : ℕ → List ℕ → List ℤ → Option ℤ
want_of j [] xs = None
want_of j (k ∷ ks) [] = None
want_of j (k ∷ ks) (x ∷ xs) = cond (nat_eq j k) (Some x) (want_of j ks xs)

-- of so many loops from variable j on
unfoldable pub wants : ℕ → ℕ → List ℕ → List ℤ → List (Option ℤ)
wants j zero js xs = []
wants j (suc n) js xs = want_of j js xs ∷ wants (suc j) n js xs

module _ (os : List ℤ) (first : ℕ) (gs : List Going) where
  part_at : (js : List ℕ) (ds : List Dimension) (sizes : List ℕ) (xs : List ℤ) → all_swept first gs ds js ≡ true → AllIn ds sizes os xs → AreOver (length os) ds
      → (j : ℕ) (g : Going) → slice_get gs (j - first) ≡ Some g → (has_number j js || passes g) ≡ true → Part os g (want_of j js xs)
  unfolding want_of
  part_at [] ds sizes xs a i over j g at h = passes_true os g h
  part_at (k ∷ ks) [] sizes xs a i over j g at h = absurd (let z : ⊥ = cc in z)
  part_at (k ∷ ks) (d ∷ ds) [] xs a i over j g at h = absurd i
  part_at (k ∷ ks) (d ∷ ds) (size ∷ sizes) [] a i over j g at h = absurd i
  part_at (k ∷ ks) (d ∷ ds) (size ∷ sizes) (x ∷ xs) a i over j g at h =
      let both = and_parts (swept_by d (slice_get gs (k - first))) (all_swept first gs ds ks) a in
      by (nat_eq j k) refl both.0 (λ r. part_at ks ds sizes xs both.1 i.2 over.1 j g at r) h
    where
      by : (b : Bool) → nat_eq j k ≡ b → swept_by d (slice_get gs (k - first)) ≡ true → ((has_number j ks || passes g) ≡ true → Part os g (want_of j ks xs)) → ((b || has_number j ks) || passes g) ≡ true → Part os g (cond b (Some x) (want_of j ks xs))
      by true e s more h =
          let same : j ≡ k = (eqb-true j k e) in
          sweeps_true os d size g x (omega (arith, over.0)) (subst (λ o. swept_by d o ≡ true) at (subst (λ m. swept_by d (slice_get gs (m - first)) ≡ true) (sym same) s)) i.0 i.1
      by false e s more h = more h

  pub parts_from : (js : List ℕ) (ds : List Dimension) (sizes : List ℕ) (xs : List ℤ) → all_swept first gs ds js ≡ true → AllIn ds sizes os xs → AreOver (length os) ds
      → (pre rest : List Going) → gs ≡ pre ++ rest → others_pass (first + length pre) rest js ≡ true → Parts os rest (wants (first + length pre) (length rest) js xs)
  unfolding wants
  parts_from js ds sizes xs a i over pre [] e h = tt
  parts_from js ds sizes xs a i over pre (g ∷ rest) e h =
      let both = and_parts (has_number (first + length pre) js || passes g) (others_pass (suc (first + length pre)) rest js) h in
      let next : first + length (pre ++ g ∷ []) ≡ suc (first + length pre) = omega (arith, length-append pre (g ∷ [])) in (
        part_at js ds sizes xs a i over (first + length pre) g (ap (λ l. slice_get l ((first + length pre) - first)) e ∙ ap (slice_get (pre ++ g ∷ rest)) (omega arith) ∙ get_there pre g rest) both.0,
        subst (λ n. Parts os rest (wants n (length rest) js xs)) next
            (parts_from js ds sizes xs a i over (pre ++ g ∷ []) rest (e ∙ sym (append_assoc pre (g ∷ []) rest)) (subst (λ n. others_pass n rest js ≡ true) (sym next) both.1)),
      )
    where
      get_there : (pre : List Going) (g : Going) (rest : List Going) → slice_get (pre ++ g ∷ rest) (length pre) ≡ Some g
      get_there [] g rest = refl
      get_there (x ∷ pre) g rest = get_there pre g rest
