-- A place that keeps to the rule on intervals has small coefficients, and a small offset where one is written.
use Rattle.std.proofs.Common.{◌≡◌, ◌^◌, ◌≤ℤ◌, ◌-ℤ◌, Bool, true, false, cond, ◌||◌, ◌&&◌, List, [], ◌∷◌, Option, Some, None, ℕ, ℤ, pos, neg_ℤ, refl, sym, ap, ◌∙◌, subst, arith}
use Rattle.std.specs.Prelude.{All, not, if◌then◌else◌}
use Rattle.std.specs.Ordering.{int_eq}
use Rattle.std.proofs.lemmas.Int.{ints}
use Rattle.std.proofs.lemmas.Bool.{and_parts}
use Rattle.std.proofs.lemmas.Bool.Decides.{Decides-int_eq}
use Rattle.std.proofs.lemmas.List.Elements.{All-nil, All-cons}
use Rattle.constraint_set.specs.Tidy.{all_zero}
use Rattle.affine_expr.specs.Bounded.{◌>>=◌, bounded}
use Rattle.affine_expr.specs.Pure.{is_outside}
use Rattle.affine_expr.specs.Spread.{Range, only, scaled}
use Rattle.nest_domain.specs.Boxes.{Dimension}
use Rattle.place_intervals.specs.Places.{range_of_spread, clamped_range, number_range, chosen, place_expr, place_range}
use Rattle.place_intervals.specs.TermRanges.{kept, opposite, times, first_range, added_range, numbered_range, head, tail, terms_range, form_range}
use Rattle.place_intervals.proofs.Outsides.{no_term, no_number}
use Rattle.place_intervals.proofs.PlaceRanged.{form_range_is}
use Rattle.valid_laws.specs.Safe.{IsSmall}
use Rattle.valid_laws.proofs.Small.{small_of_test}

not_outside : (a : ℤ) → is_outside a ≡ false → IsSmall a
not_outside a h = small_of_test a (ap not h)

small_equal : (a b : ℤ) → int_eq a b ≡ true → IsSmall b → IsSmall a
small_equal a b t h = subst IsSmall (sym ((Decides-int_eq a b).0 t)) h

zero_small : IsSmall (pos 0)
zero_small = record { least = omega (arith, ints); most = omega (arith, ints) }

one_small : IsSmall (pos 1)
one_small = record { least = omega (arith, ints); most = omega (arith, ints) }

minus_small : IsSmall (neg_ℤ (pos 1))
minus_small = record { least = omega (arith, ints); most = omega (arith, ints) }

-- ---- one number of a place
term_small : (e r x : Range) (a : ℤ) → added_range e r a ≡ Some x → IsSmall a
term_small e r x a h = by (is_outside a) refl
  where
    by : (b : Bool) → is_outside a ≡ b → IsSmall a
    by true o = absurd (let f : None ≡ Some x = no_term e r a o ∙ h in let z : ⊥ = cc in z)
    by false o = not_outside a o

number_small : (e x : Range) (k : ℤ) → numbered_range e k ≡ Some x → IsSmall k
number_small e x k h = by (int_eq k (pos 0)) (is_outside k) refl refl
  where
    by : (t b : Bool) → int_eq k (pos 0) ≡ t → is_outside k ≡ b → IsSmall k
    by true b t o = small_equal k (pos 0) t zero_small
    by false true t o = absurd (let f : None ≡ Some x = no_number e k o t ∙ h in let z : ⊥ = cc in z)
    by false false t o = not_outside k o

only_small : (a : ℤ) (x : Range) → kept (only a) ≡ Some x → IsSmall a
only_small a x h = by (is_outside a) refl h
  where
    by : (b : Bool) → is_outside a ≡ b → cond (b || b) None (Some (only a)) ≡ Some x → IsSmall a
    by true o h = absurd (let z : ⊥ = cc in z)
    by false o h = not_outside a o

times_small : (r x : Range) (a : ℤ) → times r a ≡ Some x → IsSmall a
times_small r x a h = by (kept r) h
  where
    within : (y : Range) (w : Option Range) → kept (only a) ≡ w → (w >>= (λ z. kept (scaled y a))) ≡ Some x → IsSmall a
    within y None i h = absurd (let z : ⊥ = cc in z)
    within y (Some z) i h = only_small a z i

    by : (w : Option Range) → (w >>= (λ y. kept (only a) >>= (λ z. kept (scaled y a)))) ≡ Some x → IsSmall a
    by None h = absurd (let z : ⊥ = cc in z)
    by (Some y) h = within y (kept (only a)) refl h

first_small : (r x : Range) (a : ℤ) → first_range r a ≡ Some x → IsSmall a
first_small r x a h = by (int_eq a (pos 1)) (int_eq a (neg_ℤ (pos 1))) refl refl h
  where
    by : (t u : Bool) → int_eq a (pos 1) ≡ t → int_eq a (neg_ℤ (pos 1)) ≡ u
        → (if t then kept r else (if u then (kept r >>= (λ x. kept (opposite x))) else times r a)) ≡ Some x → IsSmall a
    by true u t e h = small_equal a (pos 1) t one_small
    by false true t e h = small_equal a (neg_ℤ (pos 1)) e minus_small
    by false false t e h = times_small r x a h

-- ---- all of them
terms_small : (e x : Range) (cs : List ℤ) (rs : List Range) → terms_range e cs rs ≡ Some x → All IsSmall cs
terms_small e x [] rs h = All-nil IsSmall
terms_small e x (a ∷ cs) rs h = by (int_eq a (pos 0)) refl (λ e h. terms_small e x cs (tail rs) h) h
  where
    after : (w : Option Range) → added_range e (head rs) a ≡ w → ((e : Range) → terms_range e cs (tail rs) ≡ Some x → All IsSmall cs) → (w >>= (λ y. terms_range y cs (tail rs))) ≡ Some x → All IsSmall (a ∷ cs)
    after None i more h = absurd (let z : ⊥ = cc in z)
    after (Some y) i more h = All-cons IsSmall a cs (term_small e (head rs) y a i) (more y h)

    by : (b : Bool) → int_eq a (pos 0) ≡ b → ((e : Range) → terms_range e cs (tail rs) ≡ Some x → All IsSmall cs)
        → (if b then terms_range e cs (tail rs) else (added_range e (head rs) a >>= (λ y. terms_range y cs (tail rs)))) ≡ Some x → All IsSmall (a ∷ cs)
    by true t more h = All-cons IsSmall a cs (small_equal a (pos 0) t zero_small) (more e h)
    by false t more h = after (added_range e (head rs) a) refl more h

form_small : (cs : List ℤ) (k : ℤ) (rs : List Range) (x : Range) → form_range cs k rs ≡ Some x → All IsSmall cs × IsSmall k
form_small [] k rs x h = (All-nil IsSmall, only_small k x h)
form_small (a ∷ cs) k rs x h = by (int_eq a (pos 0)) refl (λ h. form_small cs k (tail rs) x h) h
  where
    last : (y : Range) (w : Option Range) → first_range (head rs) a ≡ Some y → terms_range y cs (tail rs) ≡ w → (w >>= (λ z. numbered_range z k)) ≡ Some x → All IsSmall (a ∷ cs) × IsSmall k
    last y None i j h = absurd (let z : ⊥ = cc in z)
    last y (Some z) i j h = (All-cons IsSmall a cs (first_small (head rs) y a i) (terms_small y z cs (tail rs) j), number_small z x k h)

    after : (w : Option Range) → first_range (head rs) a ≡ w → (w >>= (λ y. terms_range y cs (tail rs) >>= (λ z. numbered_range z k))) ≡ Some x → All IsSmall (a ∷ cs) × IsSmall k
    after None i h = absurd (let z : ⊥ = cc in z)
    after (Some y) i h = last y (terms_range y cs (tail rs)) i refl h

    by : (b : Bool) → int_eq a (pos 0) ≡ b → (form_range cs k (tail rs) ≡ Some x → All IsSmall cs × IsSmall k)
        → (if b then form_range cs k (tail rs) else (first_range (head rs) a >>= (λ y. terms_range y cs (tail rs) >>= (λ z. numbered_range z k)))) ≡ Some x → All IsSmall (a ∷ cs) × IsSmall k
    by true t more h = let both = more h in (All-cons IsSmall a cs (small_equal a (pos 0) t zero_small) both.0, both.1)
    by false t more h = after (first_range (head rs) a) refl h

zeros_small : (cs : List ℤ) → all_zero cs ≡ true → All IsSmall cs
zeros_small [] h = All-nil IsSmall
zeros_small (a ∷ cs) h = let two = and_parts (int_eq a (pos 0)) (all_zero cs) h in All-cons IsSmall a cs (small_equal a (pos 0) two.0 zero_small) (zeros_small cs two.1)

-- ---- a dimension
pub record HasSmallNumbers (d : Dimension) : Type 0 where
  pub coefs : All IsSmall d.coefs
  pub offset : (d.clamped && all_zero d.coefs) ≡ false → IsSmall d.offset

pub place_small : (rs : List Range) (size : ℕ) (d : Dimension) (x : Range) → place_range rs size d ≡ Some x → HasSmallNumbers d
place_small rs size d x h = by (d.clamped && all_zero d.coefs) refl h
  where
    most : ℤ
    most = pos size -ℤ d.extent

    varying : (w : Option Range) → form_range d.coefs d.offset rs ≡ w → clamped_range d.clamped most w ≡ Some x → HasSmallNumbers d
    varying None i h = absurd (none d.clamped h)
      where
        none : (c : Bool) → clamped_range c most None ≡ Some x → ⊥
        none c h = cc
    varying (Some y) i h = let both = form_small d.coefs d.offset rs y i in record { coefs = both.0; offset = λ e. both.1 }

    second_true : (a b : Bool) → (a && b) ≡ true → b ≡ true
    second_true a b h = (and_parts a b h).1

    by : (b : Bool) → (d.clamped && all_zero d.coefs) ≡ b
        → (if b then Some (number_range most d.offset) else clamped_range d.clamped most (range_of_spread (bounded (chosen d.coefs rs) [] (place_expr d.coefs d.offset)))) ≡ Some x → HasSmallNumbers d
    by true e h = record { coefs = zeros_small d.coefs (second_true d.clamped (all_zero d.coefs) e); offset = λ f. absurd (let z : ⊥ = cc in z) }
    by false e h = varying (form_range d.coefs d.offset rs) refl (ap (clamped_range d.clamped most) (sym (form_range_is d.coefs d.offset rs)) ∙ h)
