-- What holds of each two members of a list.
use Rattle.std.proofs.Common.{List, [], ◌∷◌, ◌++◌}
use Rattle.std.specs.Prelude.{map}
use Rattle.boxes.specs.Every.{Every}
use Rattle.plan_laws.proofs.Sited.{every_append}

-- each member, and each one behind it
abbrev pub Pairwise : {A : Type 0} → (A → A → Type 0) → List A → Type 0
Pairwise R [] = Unit {0}
Pairwise R (x ∷ xs) = Every (R x) xs × Pairwise R xs

pub every_any : {A : Type 0} (P : A → Type 0) → ((x : A) → P x) → (xs : List A) → Every P xs
every_any P f [] = tt
every_any P f (x ∷ xs) = (f x, every_any P f xs)

pub every_weaker : {A : Type 0} (P Q : A → Type 0) → ((x : A) → P x → Q x) → (xs : List A) → Every P xs → Every Q xs
every_weaker P Q f [] h = tt
every_weaker P Q f (x ∷ xs) h = (f x h.0, every_weaker P Q f xs h.1)

pub pairwise_append : {A : Type 0} (R : A → A → Type 0) (xs ys : List A) → Pairwise R xs → Pairwise R ys → Every (λ x. Every (R x) ys) xs → Pairwise R (xs ++ ys)
pairwise_append R [] ys h k each = k
pairwise_append R (x ∷ xs) ys h k each = (every_append (R x) xs ys h.0 each.0, pairwise_append R xs ys h.1 k each.1)

-- of images
pub every_image : {A B : Type 0} (P : B → Type 0) (f : A → B) (xs : List A) → Every (λ x. P (f x)) xs → Every P (map f xs)
every_image P f [] h = tt
every_image P f (x ∷ xs) h = (h.0, every_image P f xs h.1)

pub pairwise_image : {A B : Type 0} (Q : A → A → Type 0) (R : B → B → Type 0) (f : A → B) → ((x y : A) → Q x y → R (f x) (f y)) → (xs : List A) → Pairwise Q xs → Pairwise R (map f xs)
pairwise_image Q R f g [] h = tt
pairwise_image Q R f g (x ∷ xs) h = (every_image (R (f x)) f xs (every_weaker (Q x) (λ y. R (f x) (f y)) (g x) xs h.0), pairwise_image Q R f g xs h.1)

pub images_apart : {A B C : Type 0} (R : C → C → Type 0) (f : A → C) (g : B → C) → ((x : A) (y : B) → R (f x) (g y)) → (xs : List A) (ys : List B) → Every (λ x. Every (R x) (map g ys)) (map f xs)
images_apart R f g h xs ys = every_image (λ x. Every (R x) (map g ys)) f xs (every_any (λ x. Every (R (f x)) (map g ys)) (λ x. every_image (R (f x)) g ys (every_any (λ y. R (f x) (g y)) (h x) ys)) xs)
