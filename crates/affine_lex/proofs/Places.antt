-- The line and the column that are walked to are those behind the bytes.
use Rattle.std.proofs.Common.{◌≡◌, ℕ, ◌+◌, ◌==◌, Bool, true, false, not, cond, List, [], ◌∷◌, ◌++◌, reverse, refl, sym, ap, ◌∙◌, append_assoc, arith}
use Rattle.std.specs.List.{fold, count_by, prefix_len}
use Rattle.std.proofs.lemmas.List.Sums.{sum_by-append}
use Rattle.std.proofs.lemmas.List.{reverse-append, append-nil}
use Rattle.affine_lex.specs.Classes.{is_in}
use Rattle.affine_lex.specs.Scan.{place, place_from, stepped}
use Rattle.affine_lex.specs.Tokens.{line_behind, column_behind}
use Rattle.affine_lex.specs.declared.class.Class.TheVariants as class
use Rattle.affine_lex.specs.declared.lexer.Place.{Place}

abbrev pub behind : List ℕ → Place
behind bytes = record { line = line_behind bytes; column = column_behind bytes }

count_one : (front : List ℕ) (b : ℕ) → count_by (λ c. c == 10) (front ++ b ∷ []) ≡ count_by (λ c. c == 10) front + cond (b == 10) 1 0
count_one front b = omega (arith, sum_by-append (λ c. cond (c == 10) 1 0) front (b ∷ []))

line_one : (front : List ℕ) (b : ℕ) → prefix_len (is_in class.InLine) (reverse (front ++ b ∷ [])) ≡ cond (not (b == 10)) (1 + prefix_len (is_in class.InLine) (reverse front)) 0
line_one front b = ap (prefix_len (is_in class.InLine)) (reverse-append front (b ∷ []))

step : (front : List ℕ) (b : ℕ) → stepped (behind front) b ≡ behind (front ++ b ∷ [])
step front b = by_end (b == 10) refl
  where
    by_end : (v : Bool) → (b == 10) ≡ v → cond (b == 10) (record { line = line_behind front + 1; column = 1 }) (record { line = line_behind front; column = column_behind front + 1 }) ≡ behind (front ++ b ∷ [])
    by_end true e =
        let l : line_behind front + 1 ≡ line_behind (front ++ b ∷ []) = omega (arith, count_one front b, ap {B = ℕ} (λ v. cond v 1 0) e) in
        let c : 1 ≡ column_behind (front ++ b ∷ []) = omega (arith, line_one front b, ap {B = ℕ} (λ v. cond (not v) (1 + prefix_len (is_in class.InLine) (reverse front)) 0) e) in
        rw e (cc (l, c))
    by_end false e =
        let l : line_behind front ≡ line_behind (front ++ b ∷ []) = omega (arith, count_one front b, ap {B = ℕ} (λ v. cond v 1 0) e) in
        let c : column_behind front + 1 ≡ column_behind (front ++ b ∷ []) = omega (arith, line_one front b, ap {B = ℕ} (λ v. cond (not v) (1 + prefix_len (is_in class.InLine) (reverse front)) 0) e) in
        rw e (cc (l, c))

walked : (front bytes : List ℕ) → fold stepped (behind front) bytes ≡ behind (front ++ bytes)
walked front [] = ap behind (sym (append-nil front))
walked front (b ∷ bytes) = ap (λ p. fold stepped p bytes) (step front b) ∙ walked (front ++ b ∷ []) bytes ∙ ap behind (append_assoc front (b ∷ []) bytes)

pub place_is : (bytes : List ℕ) → place bytes ≡ behind bytes
unfolding place place_from
place_is bytes = walked [] bytes
