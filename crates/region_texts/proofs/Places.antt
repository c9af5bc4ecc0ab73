-- The terms of a place, one after the other.
use Rattle.std.proofs.Common.{◌≡◌, ℕ, zero, suc, ◌+◌, ◌<◌, ◌≤◌, Bool, false, List, [], ◌∷◌, ◌++◌, length, drop, get_or, ℤ, pos, refl, sym, ap, ◌∙◌, arith, append_assoc, append-nil}
use Rattle.std.specs.Prelude.{codes}
use Rattle.affine_ast.specs.declared.name.Name.{Name}
use Rattle.nest_domain.specs.Boxes.{Dimension}
use Rattle.region_texts.specs.Text.{term_text, stands_behind, end_text, place_from, dimension_text, further_dimensions}

drop_suc : {A : Type 0} (xs : List A) (i : ℕ) (x d : A) → i < length xs → x ≡ get_or xs i d → drop i xs ≡ x ∷ drop (suc i) xs
drop_suc [] i x d h e = absurd (omega (arith, h))
drop_suc (y ∷ xs) zero x d h e = ap (λ z. z ∷ xs) (sym e)
drop_suc (y ∷ xs) (suc i) x d h e = drop_suc xs i x d (omega (arith, h)) e

drop_next : {A : Type 0} (xs : List A) (i : ℕ) (x d : A) → i < length xs → x ≡ get_or xs i d → drop i xs ≡ x ∷ drop (i + 1) xs
drop_next xs i x d h e = drop_suc xs i x d h e ∙ ap (λ k. x ∷ drop k xs) (one i)
  where
    one : (i : ℕ) → suc i ≡ i + 1
    one i = omega arith

drop_over : {A : Type 0} (xs : List A) (i : ℕ) → length xs ≤ i → drop i xs ≡ []
drop_over [] zero h = refl
drop_over [] (suc i) h = refl
drop_over (x ∷ xs) zero h = absurd (omega (arith, h))
drop_over (x ∷ xs) (suc i) h = drop_over xs i (omega (arith, h))

-- what stands so far, and what the rest adds
pub place_goes_on : (names : List Name) (cs : List ℤ) (k : ℤ) (i : ℕ) (n : Name) (a : ℤ) (begun now : Bool) (out0 out new : List ℕ) → i < length names → i < length cs → n ≡ get_or names i n → a ≡ get_or cs i (pos 0)
    → now ≡ stands_behind begun a → new ≡ out ++ term_text begun n a
    → out ++ place_from begun (drop i names) (drop i cs) k ≡ out0 ++ place_from false names cs k
    → new ++ place_from now (drop (i + 1) names) (drop (i + 1) cs) k ≡ out0 ++ place_from false names cs k
unfolding place_from
place_goes_on names cs k i n a begun now out0 out new h g p q s e inv =
    (λ j. e j ++ place_from (s j) (drop (i + 1) names) (drop (i + 1) cs) k)
    ∙ append_assoc out (term_text begun n a) (place_from (stands_behind begun a) (drop (i + 1) names) (drop (i + 1) cs) k)
    ∙ sym (λ j. out ++ place_from begun (drop_next names i n n h p j) (drop_next cs i a (pos 0) g q j) k)
    ∙ inv

pub place_stops : (names : List Name) (cs : List ℤ) (k : ℤ) (i : ℕ) (begun : Bool) (out0 out new : List ℕ) → length names ≤ i → new ≡ out ++ end_text begun k
    → out ++ place_from begun (drop i names) (drop i cs) k ≡ out0 ++ place_from false names cs k → new ≡ out0 ++ place_from false names cs k
unfolding place_from
place_stops names cs k i begun out0 out new h e inv = e ∙ ap (λ l. out ++ l) (sym (ends (drop i cs))) ∙ ap (λ l. out ++ place_from begun l (drop i cs) k) (sym (drop_over names i h)) ∙ inv
  where
    ends : (cs : List ℤ) → place_from begun [] cs k ≡ end_text begun k
    ends [] = refl
    ends (a ∷ cs) = refl

pub place_ends : (names : List Name) (cs : List ℤ) (k : ℤ) (i : ℕ) (begun : Bool) (out0 out new : List ℕ) → length cs ≤ i → new ≡ out ++ end_text begun k
    → out ++ place_from begun (drop i names) (drop i cs) k ≡ out0 ++ place_from false names cs k → new ≡ out0 ++ place_from false names cs k
unfolding place_from
place_ends names cs k i begun out0 out new h e inv = e ∙ ap (λ l. out ++ place_from begun (drop i names) l k) (sym (drop_over cs i h)) ∙ inv

-- ---- the dimensions behind a first one
further-cons : (names : List Name) (d : Dimension) (ds : List Dimension) → further_dimensions names (d ∷ ds) ≡ codes " x " ++ (dimension_text names d ++ further_dimensions names ds)
unfolding further_dimensions
further-cons names d ds = refl

pub further_goes_on : (names : List Name) (ds : List Dimension) (i : ℕ) (d : Dimension) (out0 out mid new : List ℕ) → i < length ds → d ≡ get_or ds i d → mid ≡ out ++ codes " x " → new ≡ mid ++ dimension_text names d
    → out ++ further_dimensions names (drop i ds) ≡ out0 ++ further_dimensions names ds → new ++ further_dimensions names (drop (i + 1) ds) ≡ out0 ++ further_dimensions names ds
further_goes_on names ds i d out0 out mid new h is p q inv =
    ap (λ t. t ++ further_dimensions names (drop (i + 1) ds)) (q ∙ ap (λ t. t ++ dimension_text names d) p ∙ append_assoc out (codes " x ") (dimension_text names d))
    ∙ append_assoc out (codes " x " ++ dimension_text names d) (further_dimensions names (drop (i + 1) ds))
    ∙ ap (λ t. out ++ t) (append_assoc (codes " x ") (dimension_text names d) (further_dimensions names (drop (i + 1) ds)) ∙ sym (further-cons names d (drop (i + 1) ds)))
    ∙ ap (λ l. out ++ further_dimensions names l) (sym (drop_next ds i d d h is))
    ∙ inv

pub further_ends : (names : List Name) (ds : List Dimension) (i : ℕ) (out0 out : List ℕ) → length ds ≤ i → out ++ further_dimensions names (drop i ds) ≡ out0 ++ further_dimensions names ds → out ≡ out0 ++ further_dimensions names ds
unfolding further_dimensions
further_ends names ds i out0 out h inv = sym (append-nil out) ∙ ap (λ l. out ++ further_dimensions names l) (sym (drop_over ds i h)) ∙ inv
