-- What holds of each element of a list.
use Rattle.std.proofs.Common.{List, [], ◌∷◌}
use Rattle.boxes.specs.Every.{Every}

-- two predicates at once
pub every_both : {A : Type 0} (P Q : A → Type 0) (xs : List A) → Every P xs → Every Q xs → Every (λ x. P x × Q x) xs
every_both P Q [] h k = tt
every_both P Q (x ∷ xs) h k = ((h.0, k.0), every_both P Q xs h.1 k.1)

pub every_along : {A : Type 0} (P Q : A → Type 0) → ((x : A) → P x → Q x) → (xs : List A) → Every P xs → Every Q xs
every_along P Q f [] h = tt
every_along P Q f (x ∷ xs) h = (f x h.0, every_along P Q f xs h.1)
