-- The places of a region whose templates keep to the rule on intervals.
use Rattle.std.proofs.Common.{◌≡◌, ℕ, zero, suc, ◌*◌, ◌≤◌, ℤ, pos, negsuc, neg_ℤ, ◌+ℤ◌, ◌-ℤ◌, ◌≤ℤ◌, Bool, true, false, cond, List, [], ◌∷◌, length, map, refl, sym, ap, ◌∙◌, subst, arith}
use Rattle.std.specs.Prelude.{◌&&◌, ◌||◌, not, int_lt, Option, Some, None}
use Rattle.std.specs.Ordering.{int_eq}
use Rattle.std.specs.List.{list_all}
use Rattle.std.specs.Int.{int_min, int_max}
use Rattle.std.proofs.lemmas.Int.{ints, clamps}
use Rattle.std.proofs.lemmas.Bool.{and_parts}
use Rattle.std.proofs.lemmas.Bool.Decides.{Decides-int_eq}
use Rattle.constraint_set.specs.Tidy.{all_zero}
use Rattle.affine_expr.specs.declared.expr.Expr.{Expr, Dim, Const, Neg, Mul}
use Rattle.affine_expr.specs.Bounded.{◌>>=◌, bounded}
use Rattle.affine_expr.specs.Pure.{is_outside}
use Rattle.affine_expr.specs.Spread.{Range, Spread, only}
use Rattle.affine_expr.proofs.Limits.{not_outside}
use Rattle.affine_ast.specs.declared.name.Name.{Name}
use Rattle.affine_ast.specs.Rules.{binding_is_small, is_small_dimension}
use Rattle.affine_ast.specs.Scope.{Binding, Variable, Symbol, IndexConstant, Data, MemrefArgument, Allocation, Scope, range_of_binding, ranges_in}
use Rattle.affine_ast.specs.Sizes.{product}
use Rattle.direct_meaning.specs.Turns.{gap}
use Rattle.nest_domain.specs.Boxes as region
use Rattle.place_intervals.specs.Places as places
use Rattle.place_intervals.specs.Places.{place_expr, terms_behind, chosen, range_of_spread, clamped_range, number_range, place_range, place_ranges, with_range, fits, copies_fit, subscripts_fit}
use Rattle.place_intervals.specs.TermRanges as terms
use Rattle.place_intervals.proofs.PlaceRanged.{form_range_is}
use Rattle.placement_texts.specs.Template.{Dimension, Copies, form, join_terms, first_term, term_names, clamp, last_place}
use Rattle.placement_regions.specs.Sites.{terms_over, offset_over, dim_over, dims_over}
use Rattle.placement_regions.proofs.Extents.{Fits, AllFit, AllSome}
use Rattle.placed_intervals.specs.Fits.{Inside, clamped_by, PlaceFits, PlacesFit, CopiesFit, LessFit, Sized}
use Rattle.placed_intervals.proofs.Ranges.{const_of}

-- a coefficient for each of these names
abbrev pub AllLong : List Name → List region.Dimension → Type 0
AllLong ns [] = Unit {0}
AllLong ns (d ∷ ds) = (length ns ≡ length d.coefs) × AllLong ns ds

-- no size is larger than a memref may be
abbrev pub AllSmall : List ℕ → Type 0
AllSmall [] = Unit {0}
AllSmall (n ∷ ns) = (n ≤ 1048576) × AllSmall ns

pub gap_is : (z : ℤ) → pos 1 ≤ℤ z → pos (gap z) ≡ z
gap_is (pos n) h = refl
gap_is (negsuc n) h = absurd (omega (arith, ints, h))

-- ---- the terms that a place has
pub zero_terms : (ns : List Name) (cs : List ℤ) → length ns ≡ length cs → all_zero cs ≡ true → terms_over ns cs ≡ []
zero_terms [] cs l h = refl
zero_terms (n ∷ ns) [] l h = refl
zero_terms (n ∷ ns) (a ∷ cs) l h =
    let p = and_parts (int_eq a (pos 0)) (all_zero cs) h in
    ap (λ b. cond b (terms_over ns cs) ((n, a) ∷ terms_over ns cs)) p.0 ∙ zero_terms ns cs (omega (arith, l)) p.1

pub some_terms : (ns : List Name) (cs : List ℤ) → length ns ≡ length cs → all_zero cs ≡ false → (t : Name × ℤ) × (ts : List (Name × ℤ)) × (terms_over ns cs ≡ t ∷ ts)
some_terms [] [] l h = absurd (let z : ⊥ = cc in z)
some_terms [] (a ∷ cs) l h = absurd (omega (arith, l))
some_terms (n ∷ ns) [] l h = absurd (omega (arith, l))
some_terms (n ∷ ns) (a ∷ cs) l h = by (int_eq a (pos 0)) refl h (some_terms ns cs (omega (arith, l)))
  where
    by : (b : Bool) → int_eq a (pos 0) ≡ b → (b && all_zero cs) ≡ false → (all_zero cs ≡ false → (t : Name × ℤ) × (ts : List (Name × ℤ)) × (terms_over ns cs ≡ t ∷ ts)) → (t : Name × ℤ) × (ts : List (Name × ℤ)) × (cond b (terms_over ns cs) ((n, a) ∷ terms_over ns cs) ≡ t ∷ ts)
    by true e h more = more h
    by false e h more = ((n, a), terms_over ns cs, refl)

-- their values
pub chosen_are : (f : Name → Range) (ns : List Name) (cs : List ℤ) → chosen cs (map f ns) ≡ map f (term_names (terms_over ns cs))
chosen_are f [] [] = refl
chosen_are f [] (a ∷ cs) = refl
chosen_are f (n ∷ ns) [] = refl
chosen_are f (n ∷ ns) (a ∷ cs) = by (int_eq a (pos 0)) (chosen_are f ns cs)
  where
    by : (b : Bool) → chosen cs (map f ns) ≡ map f (term_names (terms_over ns cs)) → cond b (chosen cs (map f ns)) (f n ∷ chosen cs (map f ns)) ≡ map f (term_names (cond b (terms_over ns cs) ((n, a) ∷ terms_over ns cs)))
    by true more = more
    by false more = ap (λ l. f n ∷ l) more

-- and the expression
terms_are : (ns : List Name) (cs : List ℤ) (e : Expr) (k : ℕ) → length ns ≡ length cs → terms_behind e k cs ≡ join_terms e k (terms_over ns cs)
terms_are [] [] e k l = refl
terms_are [] (a ∷ cs) e k l = absurd (omega (arith, l))
terms_are (n ∷ ns) [] e k l = refl
terms_are (n ∷ ns) (a ∷ cs) e k l = by (int_eq a (pos 0)) (λ e k. terms_are ns cs e k (omega (arith, l)))
  where
    by : (b : Bool) → ((e : Expr) (k : ℕ) → terms_behind e k cs ≡ join_terms e k (terms_over ns cs)) → cond b (terms_behind e k cs) (terms_behind (places.with_term e k a) (suc k) cs) ≡ join_terms e k (cond b (terms_over ns cs) ((n, a) ∷ terms_over ns cs))
    by true more = more e k
    by false more = more (places.with_term e k a) (suc k)

first_same : (n : ℕ) (a : ℤ) → places.first_term n a ≡ first_term n a
first_same n a = by (int_eq a (pos 1)) (int_eq a (neg_ℤ (pos 1))) refl refl
  where
    by : (b c : Bool) → int_eq a (pos 1) ≡ b → int_eq a (neg_ℤ (pos 1)) ≡ c → cond b (Dim n) (cond c (Neg (Dim n)) (Mul (Dim n) (Const a))) ≡ cond c (Neg (Dim n)) (cond b (Dim n) (Mul (Dim n) (Const a)))
    by true true e f = absurd (let x : a ≡ pos 1 = (Decides-int_eq a (pos 1)).0 e in let y : a ≡ neg_ℤ (pos 1) = (Decides-int_eq a (neg_ℤ (pos 1))).0 f in omega (arith, ints, x, y))
    by true false e f = refl
    by false true e f = refl
    by false false e f = refl

pub expr_is : (ns : List Name) (cs : List ℤ) (k : ℤ) → length ns ≡ length cs → place_expr cs k ≡ form (terms_over ns cs) k
expr_is [] [] k l = refl
expr_is [] (a ∷ cs) k l = absurd (omega (arith, l))
expr_is (n ∷ ns) [] k l = refl
expr_is (n ∷ ns) (a ∷ cs) k l = by (int_eq a (pos 0)) (expr_is ns cs k (omega (arith, l)))
  where
    by : (b : Bool) → place_expr cs k ≡ form (terms_over ns cs) k → cond b (place_expr cs k) (places.with_number (terms_behind (places.first_term 0 a) 1 cs) k) ≡ form (cond b (terms_over ns cs) ((n, a) ∷ terms_over ns cs)) k
    by true more = more
    by false more = ap (λ e. places.with_number e k) (terms_are ns cs (places.first_term 0 a) 1 (omega (arith, l)) ∙ ap (λ e. join_terms e 1 (terms_over ns cs)) (first_same 0 a))

-- ---- the terms' values may be dimensions: each has an interval within the limits
kept_inside : (r x : Range) → terms.kept r ≡ Some x → Inside r
kept_inside r x h = by (is_outside r.least) (is_outside r.greatest) refl refl h
  where
    by : (a b : Bool) → is_outside r.least ≡ a → is_outside r.greatest ≡ b → (cond (a || b) None (Some r)) ≡ Some x → Inside r
    by false false p q k = (p, q)
    by true b p q k = absurd (let z : ⊥ = cc in z)
    by false true p q k = absurd (let z : ⊥ = cc in z)

-- a step that gives something was given something
pub then_some : {A B : Type 0} (o : Option A) (f : A → Option B) (y : B) → (o >>= f) ≡ Some y → (x : A) × (o ≡ Some x) × (f x ≡ Some y)
then_some None f y h = absurd (let z : ⊥ = cc in z)
then_some (Some x) f y h = (x, refl, h)

times_inside : (r : Range) (a : ℤ) (x : Range) → terms.times r a ≡ Some x → Inside r
times_inside r a x h = let k = then_some (terms.kept r) _ x h in kept_inside r k.0 k.1

size_inside : (r : Range) (a : ℤ) (x : Range) → terms.size_range r a ≡ Some x → Inside r
size_inside r a x h = by (int_eq a (pos 1)) h
  where
    by : (b : Bool) → cond b (terms.kept r) (terms.times r a) ≡ Some x → Inside r
    by true k = kept_inside r x k
    by false k = times_inside r a x k

first_inside : (r : Range) (a : ℤ) (x : Range) → terms.first_range r a ≡ Some x → Inside r
first_inside r a x h = by (int_eq a (pos 1)) (int_eq a (neg_ℤ (pos 1))) h
  where
    by : (b c : Bool) → cond b (terms.kept r) (cond c (terms.kept r >>= (λ x. terms.kept (terms.opposite x))) (terms.times r a)) ≡ Some x → Inside r
    by true c k = kept_inside r x k
    by false true k = let m = then_some (terms.kept r) _ x k in kept_inside r m.0 m.1
    by false false k = times_inside r a x k

added_inside : (e r : Range) (a : ℤ) (x : Range) → terms.added_range e r a ≡ Some x → Inside r
added_inside e r a x h = by (int_lt a (pos 0)) h
  where
    by : (b : Bool) → cond b (terms.size_range r (neg_ℤ a) >>= (λ x. terms.kept (terms.less e x))) (terms.size_range r a >>= (λ x. terms.kept (terms.plus e x))) ≡ Some x → Inside r
    by true k = let m = then_some (terms.size_range r (neg_ℤ a)) _ x k in size_inside r (neg_ℤ a) m.0 m.1
    by false k = let m = then_some (terms.size_range r a) _ x k in size_inside r a m.0 m.1

module _ (s : Scope) where
  abbrev rho : Name → Range
  rho = ranges_in s

  small_inside : (n : Name) → Inside (rho n) → is_small_dimension s n ≡ true
  unfolding ranges_in is_small_dimension
  small_inside n h = by (s n) h
    where
      by : (b : Option Binding) → Inside (range_of_binding b) → binding_is_small b ≡ true
      by None h = refl
      by (Some (IndexConstant z)) h = ap not h.0
      by (Some (Variable r)) h = refl
      by (Some (Symbol r)) h = refl
      by (Some (Data ty)) h = refl
      by (Some (MemrefArgument ty)) h = refl
      by (Some (Allocation ty)) h = refl

  abbrev Smalls : List (Name × ℤ) → Type 0
  Smalls ts = list_all (is_small_dimension s) (term_names ts) ≡ true

  terms_small : (ns : List Name) (cs : List ℤ) (e x : Range) → terms.terms_range e cs (map rho ns) ≡ Some x → Smalls (terms_over ns cs)
  terms_small [] cs e x h = refl
  terms_small (n ∷ ns) [] e x h = refl
  terms_small (n ∷ ns) (a ∷ cs) e x h = by (int_eq a (pos 0)) (λ e k. terms_small ns cs e x k) h
    where
      by : (b : Bool) → ((e : Range) → terms.terms_range e cs (map rho ns) ≡ Some x → Smalls (terms_over ns cs)) → cond b (terms.terms_range e cs (map rho ns)) (terms.added_range e (rho n) a >>= (λ y. terms.terms_range y cs (map rho ns))) ≡ Some x → Smalls (cond b (terms_over ns cs) ((n, a) ∷ terms_over ns cs))
      by true more k = more e k
      by false more k = let m = then_some (terms.added_range e (rho n) a) _ x k in λ i. small_inside n (added_inside e (rho n) a m.0 m.1) i && more m.0 m.2 i

  form_small : (ns : List Name) (cs : List ℤ) (k : ℤ) (x : Range) → terms.form_range cs k (map rho ns) ≡ Some x → Smalls (terms_over ns cs)
  form_small [] cs k x h = refl
  form_small (n ∷ ns) [] k x h = refl
  form_small (n ∷ ns) (a ∷ cs) k x h = by (int_eq a (pos 0)) (λ h. form_small ns cs k x h) h
    where
      by : (b : Bool) → (terms.form_range cs k (map rho ns) ≡ Some x → Smalls (terms_over ns cs)) → cond b (terms.form_range cs k (map rho ns)) (terms.first_range (rho n) a >>= (λ y. terms.terms_range y cs (map rho ns) >>= (λ z. terms.numbered_range z k))) ≡ Some x → Smalls (cond b (terms_over ns cs) ((n, a) ∷ terms_over ns cs))
      by true more h = more h
      by false more h =
          let m = then_some (terms.first_range (rho n) a) _ x h in
          let o = then_some (terms.terms_range m.0 cs (map rho ns)) _ x m.2 in
          λ i. small_inside n (first_inside (rho n) a m.0 m.1) i && terms_small ns cs m.0 o.0 o.1 i

  -- ---- a place
  spread_some : (o : Option Spread) (x : Range) → range_of_spread o ≡ Some x → (e : Spread) × (o ≡ Some e) × (e.range ≡ x)
  spread_some None x h = absurd (let z : ⊥ = cc in z)
  spread_some (Some e) x h = (e, refl, (let is : e.range ≡ x = cc in is))

  clamped_some : (c : Bool) (most : ℤ) (o : Option Range) (r : Range) → clamped_range c most o ≡ Some r → (x : Range) × (o ≡ Some x) × (clamped_range c most (Some x) ≡ Some r)
  clamped_some c most None r h = absurd (let z : ⊥ = cc in z)
  clamped_some c most (Some x) r h = (x, refl, h)

  pub turn_clamp : (z most last : ℤ) → last ≡ most → int_max (pos 0) (int_min z most) ≡ int_max (int_min z last) (pos 0)
  turn_clamp z most last e = omega (arith, ints, clamps, e)

  pub clamp_twice : (z most last : ℤ) → last ≡ most → int_max (int_min z last) (pos 0) ≡ int_max (int_min (int_max (int_min z most) (pos 0)) last) (pos 0)
  clamp_twice z most last e = omega (arith, ints, clamps, e)

  clamp_same : (c : Bool) (D : Dimension) (most : ℤ) → last_place D ≡ most → (x r : Range) → clamped_range c most (Some x) ≡ Some r → r ≡ clamped_by c D x
  clamp_same true D most e x r h =
      let is : r ≡ record { least = int_max (pos 0) (int_min x.least most); greatest = int_max (pos 0) (int_min x.greatest most) } = cc in
      is ∙ (λ i. record { least = turn_clamp x.least most (last_place D) e i; greatest = turn_clamp x.greatest most (last_place D) e i })
  clamp_same false D most e x r h = let is : r ≡ x = cc in is

  module _ (ns : List Name) (d : region.Dimension) (size : ℕ) (long : length ns ≡ length d.coefs) (wide : pos (gap d.extent) ≡ d.extent) (fit : Fits d.extent (pos size)) (small : size ≤ 1048576) where
    -- before a clamped number is moved
    abbrev D : Dimension
    D = record { size = size; terms = terms_over ns d.coefs; offset = d.offset; extent = gap d.extent; clamped = d.clamped }

    last_is : last_place D ≡ pos size -ℤ d.extent
    last_is = ap (λ z. pos size -ℤ z) wide

    abbrev most : ℤ
    most = pos size -ℤ d.extent

    between : (z : ℤ) → is_outside (int_max (pos 0) (int_min z most)) ≡ false
    between z =
        let a = fit.0 in
        let b = fit.1 in
        not_outside (int_max (pos 0) (int_min z (pos size -ℤ d.extent))) (record { low = omega (arith, ints, clamps, a, b, small); high = omega (arith, ints, clamps, a, b, small) })

    abbrev Bound_ : Option Spread
    Bound_ = bounded (chosen d.coefs (map rho ns)) [] (place_expr d.coefs d.offset)

    -- its terms are the region's, with an interval
    formed : (e : Spread) → Bound_ ≡ Some e → bounded (map rho (term_names (terms_over ns d.coefs))) [] (form (terms_over ns d.coefs) d.offset) ≡ Some e
    formed e h = (λ i. bounded (sym (chosen_are rho ns d.coefs) i) [] (sym (expr_is ns d.coefs d.offset long) i)) ∙ h

    -- of no terms it is a number
    number_fits : (c : Bool) (r : Range) → d.clamped ≡ c → terms_over ns d.coefs ≡ [] → cond c (Some (number_range most d.offset)) (clamped_range c most (range_of_spread Bound_)) ≡ Some r → PlaceFits s D [] r
    number_fits true r e none h =
        let is : r ≡ number_range most d.offset = cc in
        (is ∙ ap only (turn_clamp d.offset most (last_place D) last_is) ∙ ap (λ b. only (cond b (clamp D d.offset) d.offset)) (sym e), subst Inside (sym is) (between d.offset, between d.offset))
    number_fits false r e none h =
        let k = clamped_some false most (range_of_spread Bound_) r h in
        let is : k.0 ≡ r = cc in
        let x = spread_some Bound_ k.0 k.1 in
        let number : bounded [] [] (Const d.offset) ≡ Some x.0 = subst (λ ts. bounded (map rho (term_names ts)) [] (form ts d.offset) ≡ Some x.0) none (formed x.0 x.1) in
        let c = const_of [] [] d.offset x.0 number in
        let r_is : r ≡ only d.offset = sym is ∙ sym x.2 ∙ c.0 in
        (r_is ∙ ap (λ b. only (cond b (clamp D d.offset) d.offset)) (sym e), subst Inside (sym r_is) (c.1, c.1))

    varying_fits : (c : Bool) (r : Range) (t : Name × ℤ) (ts : List (Name × ℤ)) → d.clamped ≡ c → terms_over ns d.coefs ≡ t ∷ ts → clamped_range c most (range_of_spread Bound_) ≡ Some r → PlaceFits s D (t ∷ ts) r
    varying_fits c r t ts e some h =
        let k = clamped_some c most (range_of_spread Bound_) r h in
        let x = spread_some Bound_ k.0 k.1 in
        let smalls = form_small ns d.coefs d.offset k.0 (sym (form_range_is d.coefs d.offset (map rho ns)) ∙ k.1) in (
          subst Smalls some smalls,
          x.0,
          subst (λ ts. bounded (map rho (term_names ts)) [] (form ts d.offset) ≡ Some x.0) some (formed x.0 x.1),
          clamp_same c D most last_is k.0 r k.2 ∙ (λ i. clamped_by (sym e i) D (sym x.2 i)),
        )

    stands : (r : Range) → place_range (map rho ns) size d ≡ Some r → PlaceFits s D (terms_over ns d.coefs) r
    stands r h = by d.clamped (all_zero d.coefs) refl refl h
      where
        by : (c z : Bool) → d.clamped ≡ c → all_zero d.coefs ≡ z → cond (c && z) (Some (number_range most d.offset)) (clamped_range c most (range_of_spread Bound_)) ≡ Some r → PlaceFits s D (terms_over ns d.coefs) r
        by c true e f k = let none = zero_terms ns d.coefs long f in subst (λ ts. PlaceFits s D ts r) (sym none) (number_fits c r e none (first c k))
          where
            first : (c : Bool) → cond (c && true) (Some (number_range most d.offset)) (clamped_range c most (range_of_spread Bound_)) ≡ Some r → cond c (Some (number_range most d.offset)) (clamped_range c most (range_of_spread Bound_)) ≡ Some r
            first true k = k
            first false k = k
        by c false e f k =
            let w = some_terms ns d.coefs long f in
            subst (λ ts. PlaceFits s D ts r) (sym w.2) (varying_fits c r w.0 w.1 e w.2 (second c k))
          where
            second : (c : Bool) → cond (c && false) (Some (number_range most d.offset)) (clamped_range c most (range_of_spread Bound_)) ≡ Some r → clamped_range c most (range_of_spread Bound_) ≡ Some r
            second true k = k
            second false k = k

    -- a number that is moved into the memref stays there
    moved : (ts : List (Name × ℤ)) (r : Range) → PlaceFits s D ts r → PlaceFits s (record D { offset = offset_over ts d size }) ts r
    moved [] r h = (h.0 ∙ ap only (same d.clamped), h.1)
      where
        same : (c : Bool) → cond c (clamp D d.offset) d.offset ≡ cond c (clamp D (cond c (int_max (int_min d.offset most) (pos 0)) d.offset)) (cond c (int_max (int_min d.offset most) (pos 0)) d.offset)
        same true = clamp_twice d.offset most (last_place D) last_is
        same false = refl
    moved (t ∷ ts) r h = h

    pub place_fits : (r : Range) → place_range (map rho ns) size d ≡ Some r → PlaceFits s (dim_over ns d size) (terms_over ns d.coefs) r
    place_fits r h = moved (terms_over ns d.coefs) r (stands r h)

  ranges_some : (o : Option Range) (q : Option (List Range)) (rs : List Range) → with_range o q ≡ Some rs → (x : Range) × (xs : List Range) × (o ≡ Some x) × (q ≡ Some xs) × (rs ≡ x ∷ xs)
  ranges_some None q rs h = absurd (let z : ⊥ = cc in z)
  ranges_some (Some x) None rs h = absurd (let z : ⊥ = cc in z)
  ranges_some (Some x) (Some xs) rs h = (x, xs, refl, refl, (let e : rs ≡ x ∷ xs = cc in e))

  -- ---- all of them
  pub places_fit : (ns : List Name) (ds : List region.Dimension) (sizes : List ℕ) (rs : List Range) → AllLong ns ds → AllFit ds sizes → AllSmall sizes → place_ranges (map rho ns) sizes ds ≡ Some rs → PlacesFit s (dims_over ns ds sizes) rs
  places_fit ns [] [] rs l f m h = subst (PlacesFit s []) (let e : [] ≡ rs = cc in e) tt
  places_fit ns [] (size ∷ sizes) rs l f m h = absurd f
  places_fit ns (d ∷ ds) [] rs l f m h = absurd f
  places_fit ns (d ∷ ds) (size ∷ sizes) rs l f m h =
      let k = ranges_some (place_range (map rho ns) size d) (place_ranges (map rho ns) sizes ds) rs h in
      subst (PlacesFit s (dims_over ns (d ∷ ds) (size ∷ sizes))) (sym k.4) (place_fits ns d size l.0 (gap_is d.extent f.0.0) f.0 m.0 k.0 k.2, places_fit ns ds sizes k.1 l.1 f.1 m.1 k.3)

-- ---- the parts of the template
fits_inside : (l g : ℤ) → fits l g ≡ true → Inside (record { least = l; greatest = g })
fits_inside l g h = by (is_outside l) (is_outside g) refl refl h
  where
    by : (a b : Bool) → is_outside l ≡ a → is_outside g ≡ b → cond a false (cond b false true) ≡ true → Inside (record { least = l; greatest = g })
    by false false p q k = (p, q)
    by true b p q k = absurd (let z : ⊥ = cc in z)
    by false true p q k = absurd (let z : ⊥ = cc in z)

pub copies_fit_ : (ns : List Name) (ds : List region.Dimension) (sizes : List ℕ) (rs : List Range) → AllFit ds sizes → copies_fit ds rs ≡ true → CopiesFit Copies (dims_over ns ds sizes) rs
copies_fit_ ns [] sizes rs f h = tt
copies_fit_ ns (d ∷ ds) [] rs f h = tt
copies_fit_ ns (d ∷ ds) (size ∷ sizes) [] f h = tt
copies_fit_ ns (d ∷ ds) (size ∷ sizes) (r ∷ rs) f h =
    let k = and_parts (fits r.least (r.greatest +ℤ (d.extent -ℤ pos 1))) (copies_fit ds rs) h in
    (subst (λ z. Inside (record { least = r.least; greatest = r.greatest +ℤ (z -ℤ pos 1) })) (sym (gap_is d.extent f.0.0)) (fits_inside r.least (r.greatest +ℤ (d.extent -ℤ pos 1)) k.0), copies_fit_ ns ds sizes rs f.1 k.1)

pub less_fit : (es rs : List Range) → subscripts_fit es rs ≡ true → LessFit es rs
less_fit [] rs h = tt
less_fit (e ∷ es) [] h = tt
less_fit (e ∷ es) (r ∷ rs) h =
    let k = and_parts (fits (e.least -ℤ r.greatest) (e.greatest -ℤ r.least)) (subscripts_fit es rs) h in
    (fits_inside (e.least -ℤ r.greatest) (e.greatest -ℤ r.least) k.0, less_fit es rs k.1)

pub all_sized : (ns : List Name) (ds : List region.Dimension) (sizes : List ℕ) → AllFit ds sizes → AllSmall sizes → Sized (dims_over ns ds sizes)
all_sized ns [] sizes f m = tt
all_sized ns (d ∷ ds) [] f m = tt
all_sized ns (d ∷ ds) (size ∷ sizes) f m =
    let wide = gap_is d.extent f.0.0 in
    let low = f.0.0 in
    let high = f.0.1 in
    (omega (arith, ints, wide, low), omega (arith, ints, wide, high), m.0, all_sized ns ds sizes f.1 m.1)

-- ---- sizes
le_times : (n m : ℕ) → 1 ≤ m → n ≤ n * m
le_times zero m h = omega arith
le_times (suc n) m h = let k = le_times n m h in omega (arith, h, k)

times_le : (n m : ℕ) → 1 ≤ n → m ≤ n * m
times_le zero m h = absurd (omega (arith, h))
times_le (suc n) m h = omega arith

some_product : (ns : List ℕ) → AllSome ns → 1 ≤ product ns
some_product [] h = omega arith
some_product (n ∷ ns) h = let a = h.0 in let b = times_le n (product ns) h.0 in let c = some_product ns h.1 in omega (arith, a, b, c)

pub all_small : (ns : List ℕ) → AllSome ns → product ns ≤ 1048576 → AllSmall ns
all_small [] h m = tt
all_small (n ∷ ns) h m =
    let a = le_times n (product ns) (some_product ns h.1) in
    let b = times_le n (product ns) h.0 in
    (omega (arith, a, m), all_small ns h.1 (omega (arith, b, m)))
