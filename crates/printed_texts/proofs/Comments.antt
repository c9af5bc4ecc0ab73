-- A text behind lines of comments is cut into the same tokens.
use Rattle.std.proofs.Common.{◌≡◌, ℕ, suc, ◌+◌, ◌==◌, not, Bool, true, false, List, [], ◌∷◌, ◌++◌, length, drop, codes, refl, sym, ap, ◌∙◌, append_assoc, length-append, arith}
use Rattle.std.specs.Prelude.{All}
use Rattle.std.proofs.lemmas.Bool.{eqb-true}
use Rattle.std.proofs.lemmas.List.{drop-drop}
use Rattle.std.proofs.Math.Seq.{drop-append_seam}
use Rattle.affine_lex.specs.Scan.{gap, gap_in, after_word}
use Rattle.affine_lex.proofs.Written.{Piece, AreCut}
use Rattle.printed_texts.specs.Comments.{AreOnOneLine, comment_lines}

differs : (a b : ℕ) → ¬ (a ≡ b) → (a == b) ≡ false
differs a b h = by (a == b) refl
  where
    by : (t : Bool) → (a == b) ≡ t → (a == b) ≡ false
    by true e = absurd (h (eqb-true a b e))
    by false e = e

-- in a comment, up to its line feed
gap_behind : (words rest : List ℕ) → AreOnOneLine words → gap_in true (words ++ 10 ∷ rest) ≡ length words + suc (gap_in false rest)
gap_behind [] rest h = let e : gap_in true (10 ∷ rest) ≡ suc (gap_in false rest) = refl in omega (arith, e)
gap_behind (b ∷ words) rest h =
    let n : (b == 10) ≡ false = differs b 10 (h 0 b (omega arith)) in
    let later = gap_behind words rest (λ k d less. h (suc k) d (omega (arith, less))) in
    let first : gap_in true (b ∷ (words ++ 10 ∷ rest)) ≡ suc (gap_in true (words ++ 10 ∷ rest)) = ap (λ (v : Bool). suc (gap_in (not v) (words ++ 10 ∷ rest))) n in
    omega (arith, first, later)

-- a front whose bytes are white space and comments, the last of them ended
abbrev pub IsGap : List ℕ → Type 0
IsGap front = (rest : List ℕ) → gap (front ++ rest) ≡ length front + gap rest

comment_gap : (words : List ℕ) → AreOnOneLine words → IsGap (codes "//" ++ (words ++ codes "\n"))
unfolding gap
comment_gap words h rest =
    let e : (words ++ codes "\n") ++ rest ≡ words ++ 10 ∷ rest = append_assoc words (codes "\n") rest in
    let n = length-append words (codes "\n") in
    let inside = ap (gap_in true) e ∙ gap_behind words rest h in
    let whole : gap_in false (47 ∷ 47 ∷ ((words ++ codes "\n") ++ rest)) ≡ suc (suc (gap_in true ((words ++ codes "\n") ++ rest))) = refl in
    omega (arith, n, inside, whole)

both_gaps : (front more : List ℕ) → IsGap front → IsGap more → IsGap (front ++ more)
both_gaps front more h k rest =
    let e = ap gap (append_assoc front more rest) in
    let n = length-append front more in
    let a = h (more ++ rest) in
    let b = k rest in
    omega (arith, e, n, a, b)

pub comments_gap : (comments : List (List ℕ)) → All AreOnOneLine comments → IsGap (comment_lines comments)
comments_gap [] h = λ rest. (let n : length {A = ℕ} [] + gap rest ≡ gap rest = omega arith in sym n)
comments_gap (words ∷ comments) h =
    both_gaps (codes "//" ++ (words ++ codes "\n")) (comment_lines comments) (comment_gap words (h 0 words (omega arith)))
    (comments_gap comments (λ k d less. h (suc k) d (omega (arith, less))))

-- behind it the same tokens stand
pub cut_behind : (front rest : List ℕ) (ps : List Piece) → IsGap front → AreCut (after_word []) rest ps → AreCut (after_word []) (front ++ rest) ps
cut_behind front rest [] h i = let g = h rest in let n = length-append front rest in omega (arith, g, n, i)
cut_behind front rest (p ∷ ps) h i =
    let skipped : drop (gap (front ++ rest)) (front ++ rest) ≡ drop (gap rest) rest =
    ap (λ n. drop n (front ++ rest)) (h rest) ∙ sym (drop-drop (gap rest) (length front) (front ++ rest)) ∙ ap (λ l. drop (gap rest) l) (drop-append_seam front rest) in
    (i.0, (skipped ∙ i.1.0, i.1.1, i.1.2, i.1.3))
