-- The steps of loops that make a list, item by item, or stop at the first refusal.
use Rattle.std.proofs.Common.{◌≡◌, ℕ, zero, suc, ◌+◌, ◌<◌, ◌≤◌, Bool, true, List, [], ◌∷◌, ◌++◌, length, drop, get_or, Result, Ok, Err, refl, sym, ap, ◌∙◌, arith, add-one, append_assoc, append-nil}
use Rattle.std.specs.List.{list_all}
use Rattle.std.proofs.lemmas.Bool.{and_parts}
use Rattle.affine_expr.specs.declared.linear.LinearFault.{LinearFault}
use Rattle.affine_expr.specs.Linear.{◌>>=◌}
use Rattle.nest_domain.specs.Forms.{try_each}

-- these, and then what follows
abbrev pub behind : {B : Type 0} → List B → Result (List B) LinearFault → Result (List B) LinearFault
behind xs (Ok ys) = Ok (xs ++ ys)
behind xs (Err e) = Err e

from : {A : Type 0} (xs : List A) (i : ℕ) (x : A) → i < length xs → x ≡ get_or xs i x → drop i xs ≡ x ∷ drop (suc i) xs
from [] i x h e = absurd (omega (arith, h))
from (y ∷ ys) zero x h e = ap (λ z. z ∷ ys) (sym e)
from (y ∷ ys) (suc i) x h e = from ys i x (omega (arith, h)) e

-- the list from a place on begins with the item there
pub from_place : {A : Type 0} (xs : List A) (i : ℕ) (x : A) → i < length xs → x ≡ get_or xs i x → drop i xs ≡ x ∷ drop (i + 1) xs
from_place xs i x h e = rw add-one (from xs i x h e)

pub past : {A : Type 0} (xs : List A) (i : ℕ) → length xs ≤ i → drop i xs ≡ []
past [] zero h = refl
past [] (suc i) h = refl
past (x ∷ xs) zero h = absurd (omega (arith, h))
past (x ∷ xs) (suc i) h = past xs i (omega (arith, h))

-- what is true of all is true of each
pub all_at : {A : Type 0} (f : A → Bool) (xs : List A) (i : ℕ) (x : A) → list_all f xs ≡ true → i < length xs → x ≡ get_or xs i x → f x ≡ true
all_at f [] i x h l e = absurd (omega (arith, l))
all_at f (y ∷ ys) zero x h l e = ap f e ∙ (and_parts (f y) (list_all f ys) h).0
all_at f (y ∷ ys) (suc i) x h l e = all_at f ys i x (and_parts (f y) (list_all f ys) h).1 (omega (arith, l)) e

behind-more : {B : Type 0} (out : List B) (y : B) (r : Result (List B) LinearFault) → behind out (r >>= (λ ys. Ok (y ∷ ys))) ≡ behind (out ++ y ∷ []) r
behind-more out y (Ok ys) = ap Ok (sym (append_assoc out (y ∷ []) ys))
behind-more out y (Err e) = refl

pub goes_on : {A B : Type 0} (f : A → Result B LinearFault) (xs : List A) (i : ℕ) (x : A) (out : List B) (y : B) → i < length xs → x ≡ get_or xs i x → f x ≡ Ok y → behind out (try_each f (drop i xs)) ≡ behind (out ++ y ∷ []) (try_each f (drop (i + 1) xs))
goes_on f xs i x out y h e k =
    ap (λ l. behind out (try_each f l)) (from_place xs i x h e) ∙ ap (λ w. behind out (w >>= (λ y. try_each f (drop (i + 1) xs) >>= (λ ys. Ok (y ∷ ys))))) k ∙ behind-more out y (try_each f (drop (i + 1) xs))

pub stops : {A B : Type 0} (f : A → Result B LinearFault) (xs : List A) (i : ℕ) (x : A) (out : List B) (e : LinearFault) → i < length xs → x ≡ get_or xs i x → f x ≡ Err e → behind out (try_each f (drop i xs)) ≡ Err e
stops f xs i x out e h is k = ap (λ l. behind out (try_each f l)) (from_place xs i x h is) ∙ ap (λ w. behind out (w >>= (λ y. try_each f (drop (i + 1) xs) >>= (λ ys. Ok (y ∷ ys))))) k

pub ends : {A B : Type 0} (f : A → Result B LinearFault) (xs : List A) (i : ℕ) (out : List B) → length xs ≤ i → behind out (try_each f (drop i xs)) ≡ Ok out
ends f xs i out h = ap (λ l. behind out (try_each f l)) (past xs i h) ∙ ap Ok (append-nil out)
