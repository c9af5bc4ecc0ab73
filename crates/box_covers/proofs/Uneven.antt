-- As many variables as dimensions.
use Rattle.std.proofs.Common.{◌≡◌, ℕ, suc, ◌-◌, Bool, true, false, ◌&&◌, List, [], ◌∷◌, length, refl, ap, slice_get}
use Rattle.std.specs.Prelude.{nat_eq}
use Rattle.std.proofs.lemmas.Bool.{eq-eqb}
use Rattle.nest_domain.specs.Domains.{Going}
use Rattle.nest_domain.specs.Boxes.{Dimension}
use Rattle.box_covers.specs.Covers.{swept_by, all_swept}

and_false : (a b : Bool) → b ≡ false → (a && b) ≡ false
and_false true b h = h
and_false false b h = refl

-- where there aren't, they don't sweep
pub uneven : (first : ℕ) (gs : List Going) (ds : List Dimension) (js : List ℕ) → (length ds ≡ length js → ⊥) → all_swept first gs ds js ≡ false
uneven first gs [] [] h = absurd (h refl)
uneven first gs [] (j ∷ js) h = refl
uneven first gs (d ∷ ds) [] h = refl
uneven first gs (d ∷ ds) (j ∷ js) h = and_false (swept_by d (slice_get gs (j - first))) (all_swept first gs ds js) (uneven first gs ds js (λ e. h (ap suc e)))

pub uneven_told : (first : ℕ) (gs : List Going) (ds : List Dimension) (js : List ℕ) → nat_eq (length ds) (length js) ≡ false → all_swept first gs ds js ≡ false
uneven_told first gs ds js h = uneven first gs ds js (λ e. let t : nat_eq (length ds) (length js) ≡ true = eq-eqb (length ds) (length js) e in let z : ⊥ = cc in z)
