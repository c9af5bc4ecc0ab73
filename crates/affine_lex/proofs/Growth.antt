-- The token and the place that are reached, over the bytes from a place on.
use Rattle.std.proofs.Common.{◌≡◌, ℕ, zero, suc, ◌+◌, ◌-◌, ◌≤◌, Bool, List, [], ◌∷◌, ◌++◌, length, take, drop, refl, sym, ap, ◌∙◌, arith}
use Rattle.std.specs.List.{fold}
use Rattle.std.proofs.lemmas.List.Sums.{fold-append}
use Rattle.affine_lex.specs.Scan.{gap, token, in_sizes, place, place_from, stepped, Lexeme}
use Rattle.affine_lex.specs.declared.lexer.Context.{Context}
use Rattle.affine_lex.specs.declared.lexer.Place.{Place}

nil : (n : ℕ) → take {A = ℕ} n [] ≡ []
nil zero = refl
nil (suc n) = refl

pub take_more : (n k : ℕ) (s : List ℕ) → take (n + k) s ≡ take n s ++ take k (drop n s)
take_more zero k s = ap (λ m. take m s) (omega arith)
take_more (suc n) k [] = nil (suc n + k) ∙ sym (nil k)
take_more (suc n) k (b ∷ s) = let e : suc n + k ≡ suc (n + k) = omega arith in ap (λ m. take m (b ∷ s)) e ∙ ap (λ l. b ∷ l) (take_more n k s)

pub place_more : (s : List ℕ) (from to : ℕ) (p q : Place) → from ≤ to → p ≡ place (take from s) → q ≡ place_from p (take (to - from) (drop from s)) → q ≡ place (take to s)
unfolding place place_from
place_more s from to p q h a b =
    let e : from + (to - from) ≡ to = omega (arith, h) in
    b ∙ ap (λ z. fold stepped z (take (to - from) (drop from s))) a ∙ sym (fold-append stepped _ (take from s) (take (to - from) (drop from s))) ∙ ap (λ l. fold stepped (record { line = 1; column = 1 }) l) (sym (take_more from (to - from) s) ∙ ap (λ m. take m s) e)

pub short : (n : ℕ) (s : List ℕ) → length (take n s) ≤ n
short zero s = omega arith
short (suc n) [] = omega arith
short (suc n) (b ∷ s) = omega (arith, short n s)

pub short_drop : (n : ℕ) (s : List ℕ) → n ≤ length s → length (drop n s) + n ≡ length s
short_drop zero s h = omega arith
short_drop (suc n) [] h = absurd (omega (arith, h))
short_drop (suc n) (b ∷ s) h = omega (arith, short_drop n s (omega (arith, h)))

whole : (n : ℕ) (s : List ℕ) → length s ≤ n → take n s ≡ s
whole zero [] h = refl
whole zero (b ∷ s) h = absurd (omega (arith, h))
whole (suc n) [] h = refl
whole (suc n) (b ∷ s) h = ap (λ l. b ∷ l) (whole n s (omega (arith, h)))

-- a slice from a place on
pub tail : (n : ℕ) (s : List ℕ) → n ≤ length s → take (length s - n) (drop n s) ≡ drop n s
tail n s h = whole (length s - n) (drop n s) (omega (arith, short_drop n s h))

pub token_at : (s : List ℕ) (from : ℕ) (c : Context) (b : Bool) (x : Lexeme) → from ≤ length s → b ≡ in_sizes c → x ≡ token b (take (length s - from) (drop from s)) → (x.0, x.1) ≡ token (in_sizes c) (drop from s)
token_at s from c b x h e p = p ∙ ap (λ v. token v (take (length s - from) (drop from s))) e ∙ ap (λ l. token (in_sizes c) l) (tail from s h)

pub gap_at : (s : List ℕ) (to n : ℕ) → to ≤ length s → n ≡ gap (take (length s - to) (drop to s)) → n ≡ gap (drop to s)
gap_at s to n h p = p ∙ ap gap (tail to s h)
