-- Lists of headers, step by step.
use Rattle.std.proofs.Common.{◌≡◌, ℕ, zero, suc, ◌+◌, ◌<◌, ◌≤◌, List, [], ◌∷◌, ◌++◌, length, map, take, drop, get_or, refl, sym, ap, ◌∙◌, arith, append_assoc, append-nil}
use Rattle.nest_domain.specs.declared.step.Step.{Step}
use Rattle.nest_domain.specs.Steps.{header_of}

pub map-append : {A B : Type 0} (f : A → B) (xs ys : List A) → map f (xs ++ ys) ≡ map f xs ++ map f ys
map-append f [] ys = refl
map-append f (x ∷ xs) ys = ap (λ l. f x ∷ l) (map-append f xs ys)

drop_next : {A : Type 0} (xs : List A) (i : ℕ) (x : A) → i < length xs → x ≡ get_or xs i x → drop i xs ≡ x ∷ drop (suc i) xs
drop_next [] i x h e = absurd (omega (arith, h))
drop_next (y ∷ xs) zero x h e = ap (λ z. z ∷ xs) (sym e)
drop_next (y ∷ xs) (suc i) x h e = drop_next xs i x (omega (arith, h)) e

drop_over : {A : Type 0} (xs : List A) (i : ℕ) → length xs ≤ i → drop i xs ≡ []
drop_over [] zero h = refl
drop_over [] (suc i) h = refl
drop_over (x ∷ xs) zero h = absurd (omega (arith, h))
drop_over (x ∷ xs) (suc i) h = drop_over xs i (omega (arith, h))

pub copy_begins : (way : List Step) → map header_of way ≡ map header_of [] ++ map header_of (drop 0 way)
copy_begins way = refl

pub copy_goes_on : (way : List Step) (i : ℕ) (out new : List Step) (x y : Step) → i < length way → x ≡ get_or way i x → header_of y ≡ header_of x → new ≡ out ++ y ∷ []
    → map header_of way ≡ map header_of out ++ map header_of (drop i way) → map header_of way ≡ map header_of new ++ map header_of (drop (i + 1) way)
copy_goes_on way i out new x y h is same e inv =
    inv
    ∙ ap (λ l. map header_of out ++ map header_of l) (drop_next way i x h is ∙ ap (λ k. x ∷ drop k way) (next i))
    ∙ ap (λ z. map header_of out ++ (z ∷ map header_of (drop (i + 1) way))) (sym same)
    ∙ sym (append_assoc (map header_of out) (header_of y ∷ []) (map header_of (drop (i + 1) way)))
    ∙ ap (λ l. l ++ map header_of (drop (i + 1) way)) (sym (ap (map header_of) e ∙ map-append header_of out (y ∷ [])))
  where
    next : (i : ℕ) → suc i ≡ i + 1
    next i = omega arith

pub copy_ends : (way : List Step) (i : ℕ) (out : List Step) → length way ≤ i → map header_of way ≡ map header_of out ++ map header_of (drop i way) → map header_of out ≡ map header_of way
copy_ends way i out h inv = sym (inv ∙ ap (λ l. map header_of out ++ map header_of l) (drop_over way i h) ∙ append-nil (map header_of out))

-- ---- ways that have grown
take_all : {A : Type 0} (xs : List A) → take (length xs) xs ≡ xs
take_all [] = refl
take_all (x ∷ xs) = ap (λ l. x ∷ l) (take_all xs)

pub take_front : {A : Type 0} (xs ys : List A) → take (length xs) (xs ++ ys) ≡ xs
take_front [] ys = nothing ys
  where
    nothing : {A : Type 0} (ys : List A) → take 0 ys ≡ []
    nothing [] = refl
    nothing (y ∷ ys) = refl
take_front (x ∷ xs) ys = ap (λ l. x ∷ l) (take_front xs ys)

-- a list begins with another, which begins with a third
pub take_chain : {A : Type 0} (xs ys zs : List A) → take (length xs) ys ≡ xs → take (length ys) zs ≡ ys → take (length xs) zs ≡ xs
take_chain [] ys zs e f = nothing zs
  where
    nothing : {A : Type 0} (ys : List A) → take 0 ys ≡ []
    nothing [] = refl
    nothing (y ∷ ys) = refl
take_chain (x ∷ xs) [] zs e f = absurd (let z : ⊥ = cc in z)
take_chain (x ∷ xs) (y ∷ ys) [] e f = absurd (let z : ⊥ = cc in z)
take_chain (x ∷ xs) (y ∷ ys) (z ∷ zs) e f =
    let same : z ≡ x = cc in
    let more : take (length xs) ys ≡ xs = cc in
    let rest : take (length ys) zs ≡ ys = cc in
    (λ i. same i ∷ take_chain xs ys zs more rest i)

-- ---- lists with one more
pub map_push : (old new : List Step) (x : Step) → new ≡ old ++ x ∷ [] → map header_of new ≡ map header_of old ++ header_of x ∷ []
map_push old new x e = ap (map header_of) e ∙ map-append header_of old (x ∷ [])

pub two_more : {A : Type 0} (a b c x y : List A) → b ≡ a ++ x → c ≡ b ++ y → c ≡ a ++ (x ++ y)
two_more a b c x y p q = q ∙ ap (λ l. l ++ y) p ∙ append_assoc a x y
