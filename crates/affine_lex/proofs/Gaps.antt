-- The computed white space and comments are those at the front, and no other length is.
use Rattle.affine_lex.proofs.Tests.{true_no, and_left, and_right, eq_true}
use Rattle.std.proofs.Common.{◌≡◌, ℕ, zero, suc, ◌≤◌, ◌<◌, ◌==◌, ◌⊎◌, inl, inr, ◌&&◌, Bool, true, false, not, cond, List, [], ◌∷◌, length, slice_index, nat_lt, refl, sym, ap, ◌∙◌, subst, arith}
use Rattle.std.proofs.lemmas.Bool.Decides.{nat_tests}
use Rattle.affine_lex.specs.Classes.{is_in}
use Rattle.affine_lex.specs.Scan.{gap, gap_in}
use Rattle.affine_lex.specs.Tokens.{IsBlank, IsGap}
use Rattle.affine_lex.specs.declared.class.Class.TheVariants as class

-- all bytes up to the one at i are in the line
abbrev InLineTo : List ℕ → ℕ → Type 0
InLineTo bytes i = (k : ℕ) → k ≤ i → is_in class.InLine (slice_index bytes k) ≡ true

-- blank, where a comment may have begun before the bytes
abbrev IsBlankIn : Bool → List ℕ → ℕ → Type 0
IsBlankIn true bytes i = InLineTo bytes i ⊎ IsBlank bytes i
IsBlankIn false bytes i = IsBlank bytes i

record IsGapIn (comment : Bool) (bytes : List ℕ) (n : ℕ) : Type 0 where
  within : n ≤ length bytes
  blank : (i : ℕ) → i < n → IsBlankIn comment bytes i
  ended : n < length bytes → IsBlankIn comment bytes n → ⊥

step : (c d : Bool) (b : ℕ) (bytes : List ℕ) (n : ℕ) → IsBlankIn c (b ∷ bytes) 0 → ((i : ℕ) → IsBlankIn d bytes i → IsBlankIn c (b ∷ bytes) (suc i)) → ((i : ℕ) → IsBlankIn c (b ∷ bytes) (suc i) → IsBlankIn d bytes i) → IsGapIn d bytes n → IsGapIn c (b ∷ bytes) (suc n)
step c d b bytes n here up down g = record { within = omega (arith, g.within); blank = blanks; ended = λ l h. g.ended (omega (arith, l)) (down n h) }
  where
    blanks : (i : ℕ) → i < suc n → IsBlankIn c (b ∷ bytes) i
    blanks zero h = here
    blanks (suc i) h = up i (g.blank i (omega (arith, h)))

-- ---- one byte before

-- a comment further on is one where a byte stands before
later : (b : ℕ) (bytes : List ℕ) (i : ℕ) → IsBlank bytes i → IsBlank (b ∷ bytes) (suc i)
later b bytes i (inl h) = inl h
later b bytes i (inr (j, h)) = inr (suc j, (omega (arith, h.0), h.1, h.2, lines))
  where
    lines : (k : ℕ) → suc j ≤ k → k ≤ suc i → is_in class.InLine (slice_index (b ∷ bytes) k) ≡ true
    lines zero l m = absurd (omega (arith, l))
    lines (suc k) l m = h.3 k (omega (arith, l)) (omega (arith, m))

-- and a comment begins further on, or with the first byte
earlier : (b : ℕ) (bytes : List ℕ) (i : ℕ) → IsBlank (b ∷ bytes) (suc i) → IsBlank bytes i ⊎ ((b ≡ 47) × (slice_index bytes 0 ≡ 47) × InLineTo bytes i × (is_in class.InLine b ≡ true))
earlier b bytes i (inl h) = inl (inl h)
earlier b bytes i (inr (zero, h)) = inr (h.1, h.2, (λ k l. h.3 (suc k) (omega arith) (omega (arith, l))), h.3 0 (omega arith) (omega arith))
earlier b bytes i (inr (suc j, h)) = inl (inr (j, (omega (arith, h.0), h.1, h.2, λ k l m. h.3 (suc k) (omega (arith, l)) (omega (arith, m)))))

to_line : (b : ℕ) (bytes : List ℕ) (i : ℕ) → is_in class.InLine b ≡ true → InLineTo bytes i → InLineTo (b ∷ bytes) (suc i)
to_line b bytes i h l zero m = h
to_line b bytes i h l (suc k) m = l k (omega (arith, m))

of_line : (b : ℕ) (bytes : List ℕ) (i : ℕ) → InLineTo (b ∷ bytes) (suc i) → InLineTo bytes i
of_line b bytes i h k l = h (suc k) (omega (arith, l))

-- ---- the five cases

white_step : (b : ℕ) (bytes : List ℕ) (n : ℕ) → is_in class.White b ≡ true → IsGapIn false bytes n → IsGapIn false (b ∷ bytes) (suc n)
white_step b bytes n w g = step false false b bytes n (inl w) (later b bytes) down g
  where
    no_slash : b ≡ 47 → ⊥
    no_slash e = true_no (sym w ∙ ap (λ c. is_in class.White c) e)

    down : (i : ℕ) → IsBlank (b ∷ bytes) (suc i) → IsBlank bytes i
    down i h = elim (earlier b bytes i h) [ inl k ↦ k | inr k ↦ absurd (no_slash k.0) ]

slashes_step : (bytes : List ℕ) (n : ℕ) → slice_index bytes 0 ≡ 47 → IsGapIn true bytes n → IsGapIn false (47 ∷ bytes) (suc n)
slashes_step bytes n s g = step false true 47 bytes n (inr (0, (omega arith, refl, s, first))) up down g
  where
    first : (k : ℕ) → 0 ≤ k → k ≤ 0 → is_in class.InLine (slice_index (47 ∷ bytes) k) ≡ true
    first zero l m = refl
    first (suc k) l m = absurd (omega (arith, m))

    up : (i : ℕ) → IsBlankIn true bytes i → IsBlank (47 ∷ bytes) (suc i)
    up i (inl h) = inr (0, (omega arith, refl, s, λ k l m. to_line 47 bytes i refl h k m))
    up i (inr h) = later 47 bytes i h

    down : (i : ℕ) → IsBlank (47 ∷ bytes) (suc i) → IsBlankIn true bytes i
    down i h = elim (earlier 47 bytes i h) [ inl k ↦ inr k | inr k ↦ inl k.2 ]

stop : (b : ℕ) (bytes : List ℕ) → is_in class.White b ≡ false → (b == 47 && slice_index bytes 0 == 47) ≡ false → IsGapIn false (b ∷ bytes) 0
stop b bytes w s = record { within = omega arith; blank = λ i l. absurd (omega (arith, l)); ended = λ l h. none h }
  where
    both : b ≡ 47 → slice_index bytes 0 ≡ 47 → ⊥
    both e f = true_no (sym (ap (λ x. x == 47 && slice_index bytes 0 == 47) e ∙ ap (λ x. x == 47) f) ∙ s)

    none : IsBlank (b ∷ bytes) 0 → ⊥
    none (inl h) = true_no (sym h ∙ w)
    none (inr (zero, h)) = both h.1 h.2
    none (inr (suc j, h)) = omega (arith, h.0)

line_end_step : (bytes : List ℕ) (n : ℕ) → IsGapIn false bytes n → IsGapIn true (10 ∷ bytes) (suc n)
line_end_step bytes n g = step true false 10 bytes n (inr (inl refl)) (λ i h. inr (later 10 bytes i h)) down g
  where
    down : (i : ℕ) → IsBlankIn true (10 ∷ bytes) (suc i) → IsBlank bytes i
    down i (inl h) = absurd (true_no (sym (h 0 (omega arith))))
    down i (inr h) = elim (earlier 10 bytes i h) [ inl k ↦ k | inr k ↦ absurd (omega (arith, k.0)) ]

comment_step : (b : ℕ) (bytes : List ℕ) (n : ℕ) → is_in class.InLine b ≡ true → IsGapIn true bytes n → IsGapIn true (b ∷ bytes) (suc n)
comment_step b bytes n c g = step true true b bytes n (inl first) up down g
  where
    first : InLineTo (b ∷ bytes) 0
    first zero l = c
    first (suc k) l = absurd (omega (arith, l))

    up : (i : ℕ) → IsBlankIn true bytes i → IsBlankIn true (b ∷ bytes) (suc i)
    up i (inl h) = inl (to_line b bytes i c h)
    up i (inr h) = inr (later b bytes i h)

    down : (i : ℕ) → IsBlankIn true (b ∷ bytes) (suc i) → IsBlankIn true bytes i
    down i (inl h) = inl (of_line b bytes i h)
    down i (inr h) = elim (earlier b bytes i h) [ inl k ↦ inr k | inr k ↦ inl k.2 ]

gap_in_is : (comment : Bool) (bytes : List ℕ) → IsGapIn comment bytes (gap_in comment bytes)
gap_in_is false [] = record { within = omega arith; blank = λ i l. absurd (omega (arith, l)); ended = λ l h. absurd (omega (arith, l)) }
gap_in_is true [] = record { within = omega arith; blank = λ i l. absurd (omega (arith, l)); ended = λ l h. absurd (omega (arith, l)) }
gap_in_is false (b ∷ bytes) = by_white (is_in class.White b) refl (gap_in_is false bytes) (gap_in_is true bytes)
  where
    by_slashes : (v : Bool) → (b == 47 && slice_index bytes 0 == 47) ≡ v → is_in class.White b ≡ false → IsGapIn true bytes (gap_in true bytes) → IsGapIn false (b ∷ bytes) (cond v (suc (gap_in true bytes)) 0)
    by_slashes true s w g = subst (λ c. IsGapIn false (c ∷ bytes) (suc (gap_in true bytes))) (sym (eq_true b 47 (and_left (b == 47) _ s))) (slashes_step bytes (gap_in true bytes) (eq_true (slice_index bytes 0) 47 (and_right (b == 47) _ s)) g)
    by_slashes false s w g = stop b bytes w s

    by_white : (v : Bool) → is_in class.White b ≡ v → IsGapIn false bytes (gap_in false bytes) → IsGapIn true bytes (gap_in true bytes) → IsGapIn false (b ∷ bytes) (cond v (suc (gap_in false bytes)) (cond (b == 47 && slice_index bytes 0 == 47) (suc (gap_in true bytes)) 0))
    by_white true w g k = white_step b bytes (gap_in false bytes) w g
    by_white false w g k = by_slashes (b == 47 && slice_index bytes 0 == 47) refl w k
gap_in_is true (b ∷ bytes) = by_end (b == 10) refl (gap_in_is false bytes) (gap_in_is true bytes)
  where
    by_end : (v : Bool) → (b == 10) ≡ v → IsGapIn false bytes (gap_in false bytes) → IsGapIn true bytes (gap_in true bytes) → IsGapIn true (b ∷ bytes) (suc (gap_in (not v) bytes))
    by_end true e g k = subst (λ c. IsGapIn true (c ∷ bytes) (suc (gap_in false bytes))) (sym (eq_true b 10 e)) (line_end_step bytes (gap_in false bytes) g)
    by_end false e g k = comment_step b bytes (gap_in true bytes) (ap not e) k

pub gap_is : (bytes : List ℕ) → IsGap bytes (gap bytes)
unfolding gap
gap_is bytes = let g = gap_in_is false bytes in record { within = g.within; blank = g.blank; ended = g.ended }

-- there is one such length
pub gap_only : (bytes : List ℕ) (n m : ℕ) → IsGap bytes n → IsGap bytes m → n ≡ m
gap_only bytes n m g h = by_order (nat_lt n m) (nat_lt m n) refl refl
  where
    by_order : (u v : Bool) → nat_lt n m ≡ u → nat_lt m n ≡ v → n ≡ m
    by_order true v e f = let l : n < m = grind (arith, nat_tests) in absurd (g.ended (omega (arith, l, h.within)) (h.blank n l))
    by_order false true e f = let l : m < n = grind (arith, nat_tests) in absurd (h.ended (omega (arith, l, g.within)) (g.blank m l))
    by_order false false e f = grind (arith, nat_tests)
