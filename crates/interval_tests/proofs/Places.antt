-- The intervals of a template's places are those of the region's places.
use Rattle.std.proofs.Common.{◌≡◌, ℕ, suc, ℤ, pos, ◌+ℤ◌, ◌-ℤ◌, Bool, true, false, cond, List, [], ◌∷◌, length, map, refl, sym, ap, ◌∙◌, subst}
use Rattle.std.specs.Prelude.{◌&&◌, Option, Some}
use Rattle.std.specs.Int.{int_min, int_max}
use Rattle.constraint_set.specs.Tidy.{all_zero}
use Rattle.affine_expr.specs.Bounded.{bounded}
use Rattle.affine_expr.specs.Pure.{is_outside}
use Rattle.affine_expr.specs.Spread.{Range, Spread, only}
use Rattle.affine_ast.specs.declared.name.Name.{Name}
use Rattle.affine_ast.specs.Scope.{Scope, ranges_in}
use Rattle.direct_meaning.specs.Turns.{gap}
use Rattle.nest_domain.specs.Boxes as region
use Rattle.place_intervals.specs.Places.{place_expr, chosen, range_of_spread, clamped_range, number_range, place_range, place_ranges, with_range, fits, copies_fit, subscripts_fit}
use Rattle.placement_texts.specs.Template.{Dimension, Copies, form, term_names, clamp, last_place, begin, begins_from}
use Rattle.placement_regions.specs.Sites.{terms_over, offset_over, dim_over, dims_over}
use Rattle.placement_regions.proofs.Extents.{AllFit}
use Rattle.placed_intervals.specs.Fits.{Inside, clamped_by, CopiesFit, LessFit}
use Rattle.placed_intervals.proofs.Ranges.{const_is}
use Rattle.placed_intervals.proofs.Places.{AllLong, gap_is, zero_terms, some_terms, chosen_are, expr_is, turn_clamp, clamp_twice}
use Rattle.interval_tests.proofs.Backward.{NumbersInside}
use Rattle.interval_tests.proofs.Unblock.{PlaceGives, PlacesGive}

-- a place without terms is a number within the limits
abbrev NumberIn : List (Name × ℤ) → Range → Type 0
NumberIn [] r = Inside r
NumberIn (t ∷ ts) r = Unit {0}

module _ (s : Scope) where
  abbrev rho : Name → Range
  rho = ranges_in s

  module _ (ns : List Name) (d : region.Dimension) (size : ℕ) (long : length ns ≡ length d.coefs) (wide : pos (gap d.extent) ≡ d.extent) where
    abbrev D : List (Name × ℤ) → Dimension
    D ts = record { size = size; terms = terms_over ns d.coefs; offset = offset_over ts d size; extent = gap d.extent; clamped = d.clamped }

    abbrev most : ℤ
    most = pos size -ℤ d.extent

    last_is : last_place (D []) ≡ most
    last_is = ap (λ z. pos size -ℤ z) wide

    abbrev Formed : Option Spread
    Formed = bounded (chosen d.coefs (map rho ns)) [] (place_expr d.coefs d.offset)

    abbrev Given : Bool → Bool → Option Range
    Given c z = cond (c && z) (Some (number_range most d.offset)) (clamped_range c most (range_of_spread Formed))

    formed_as : (ts : List (Name × ℤ)) → terms_over ns d.coefs ≡ ts → (e : Spread) → bounded (map rho (term_names ts)) [] (form ts d.offset) ≡ Some e → Formed ≡ Some e
    formed_as ts is e h = (λ i. bounded (chosen_are rho ns d.coefs i) [] (expr_is ns d.coefs d.offset long i)) ∙ (λ i. bounded (map rho (term_names (is i))) [] (form (is i) d.offset)) ∙ h

    clamped_back : (c : Bool) (x r : Range) → r ≡ clamped_by c (D []) x → clamped_range c most (Some x) ≡ Some r
    clamped_back true x r h = ap (λ (y : Range). Some y) ((λ i. record { least = turn_clamp s x.least most (last_place (D [])) last_is i; greatest = turn_clamp s x.greatest most (last_place (D [])) last_is i }) ∙ sym h)
    clamped_back false x r h = ap (λ (y : Range). Some y) (sym h)

    number : (c : Bool) (r : Range) → d.clamped ≡ c → terms_over ns d.coefs ≡ [] → PlaceGives s (D []) [] r → Inside r → Given c true ≡ Some r
    number true r e none h inside =
        let is : r ≡ only (clamp (D []) (int_max (int_min d.offset most) (pos 0))) = subst (λ c. r ≡ only (cond c (clamp (D []) (cond c (int_max (int_min d.offset most) (pos 0)) d.offset)) (cond c (int_max (int_min d.offset most) (pos 0)) d.offset))) e h in
        ap (λ (y : Range). Some y) (ap only (turn_clamp s d.offset most (last_place (D [])) last_is ∙ clamp_twice s d.offset most (last_place (D [])) last_is) ∙ sym is)
    number false r e none h inside =
        let is : r ≡ only d.offset = subst (λ c. r ≡ only (cond c (clamp (D []) (cond c (int_max (int_min d.offset most) (pos 0)) d.offset)) (cond c (int_max (int_min d.offset most) (pos 0)) d.offset))) e h in
        let small : is_outside d.offset ≡ false = (subst Inside is inside).0 in
        ap (λ o. clamped_range false most (range_of_spread o)) (formed_as [] none _ (const_is [] [] d.offset small)) ∙ ap (λ (y : Range). Some y) (sym is)

    varying : (c : Bool) (r : Range) (t : Name × ℤ) (ts : List (Name × ℤ)) → d.clamped ≡ c → terms_over ns d.coefs ≡ t ∷ ts → PlaceGives s (D (t ∷ ts)) (t ∷ ts) r → clamped_range c most (range_of_spread Formed) ≡ Some r
    varying c r t ts e some h =
        ap (λ o. clamped_range c most (range_of_spread o)) (formed_as (t ∷ ts) some h.0 h.1) ∙ clamped_back c h.0.range r (subst (λ b. r ≡ clamped_by b (D []) h.0.range) e (h.2 ∙ same d.clamped))
      where
        same : (b : Bool) → clamped_by b (D (t ∷ ts)) h.0.range ≡ clamped_by b (D []) h.0.range
        same true = refl
        same false = refl

    given : (c z : Bool) (r : Range) → d.clamped ≡ c → all_zero d.coefs ≡ z → PlaceGives s (D (terms_over ns d.coefs)) (terms_over ns d.coefs) r → NumberIn (terms_over ns d.coefs) r → Given c z ≡ Some r
    given c true r e f h k = let none = zero_terms ns d.coefs long f in number c r e none (subst (λ ts. PlaceGives s (D ts) ts r) none h) (subst (λ ts. NumberIn ts r) none k)
    given true false r e f h k = let w = some_terms ns d.coefs long f in varying true r w.0 w.1 e w.2 (subst (λ ts. PlaceGives s (D ts) ts r) w.2 h)
    given false false r e f h k = let w = some_terms ns d.coefs long f in varying false r w.0 w.1 e w.2 (subst (λ ts. PlaceGives s (D ts) ts r) w.2 h)

    place_given : (r : Range) → PlaceGives s (dim_over ns d size) (terms_over ns d.coefs) r → NumberIn (terms_over ns d.coefs) r → place_range (map rho ns) size d ≡ Some r
    place_given r h k = given d.clamped (all_zero d.coefs) r refl refl h k

  -- ---- all of them
  pub places_given : (name : ℕ → Name) (k : ℕ) (ns : List Name) (ds : List region.Dimension) (sizes : List ℕ) (rs : List Range) → AllLong ns ds → AllFit ds sizes → PlacesGive s (dims_over ns ds sizes) rs
      → NumbersInside (begins_from name k (dims_over ns ds sizes)) rs → place_ranges (map rho ns) sizes ds ≡ Some rs
  places_given name k ns [] [] [] l f h n = refl
  places_given name k ns [] [] (r ∷ rs) l f h n = absurd h
  places_given name k ns [] (size ∷ sizes) rs l f h n = absurd f
  places_given name k ns (d ∷ ds) [] rs l f h n = absurd f
  places_given name k ns (d ∷ ds) (size ∷ sizes) [] l f h n = absurd h
  places_given name k ns (d ∷ ds) (size ∷ sizes) (r ∷ rs) l f h n =
      let w = split (terms_over ns d.coefs) n in
      λ i. with_range (place_given ns d size l.0 (gap_is d.extent f.0.0) r h.0 w.0 i) (places_given name (suc k) ns ds sizes rs l.1 f.1 h.1 w.1 i)
    where
      split : (ts : List (Name × ℤ)) → NumbersInside (begin name k (dim_over ns d size) ts ∷ begins_from name (suc k) (dims_over ns ds sizes)) (r ∷ rs) → NumberIn ts r × NumbersInside (begins_from name (suc k) (dims_over ns ds sizes)) rs
      split [] n = n
      split (t ∷ ts) n = (tt, n)

-- ---- the parts of the template
inside_fits : (l g : ℤ) → Inside (record { least = l; greatest = g }) → fits l g ≡ true
inside_fits l g h = λ i. cond (h.0 i) false (cond (h.1 i) false true)

pub copies_given : (ns : List Name) (ds : List region.Dimension) (sizes : List ℕ) (rs : List Range) → AllFit ds sizes → CopiesFit Copies (dims_over ns ds sizes) rs → copies_fit ds rs ≡ true
copies_given ns [] sizes rs f h = refl
copies_given ns (d ∷ ds) [] rs f h = absurd f
copies_given ns (d ∷ ds) (size ∷ sizes) [] f h = refl
copies_given ns (d ∷ ds) (size ∷ sizes) (r ∷ rs) f h =
    let one : Inside (record { least = r.least; greatest = r.greatest +ℤ (d.extent -ℤ pos 1) }) = subst (λ z. Inside (record { least = r.least; greatest = r.greatest +ℤ (z -ℤ pos 1) })) (gap_is d.extent f.0.0) h.0 in
    λ i. inside_fits r.least (r.greatest +ℤ (d.extent -ℤ pos 1)) one i && copies_given ns ds sizes rs f.1 h.1 i

pub less_given : (es rs : List Range) → LessFit es rs → subscripts_fit es rs ≡ true
less_given [] rs h = refl
less_given (e ∷ es) [] h = refl
less_given (e ∷ es) (r ∷ rs) h = λ i. inside_fits (e.least -ℤ r.greatest) (e.greatest -ℤ r.least) h.0 i && less_given es rs h.1 i
