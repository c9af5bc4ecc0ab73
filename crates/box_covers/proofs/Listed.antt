-- Variables that are looked for, and gathered, one after the other.
use Rattle.std.proofs.Common.{◌≡◌, ℕ, suc, ◌+◌, ◌-◌, ◌<◌, false, cond, List, ◌++◌, Option, Some, None, ap, ◌∙◌, arith}
use Rattle.affine_expr.specs.Forms.{Form}
use Rattle.box_covers.specs.Covers.{is_variable, variable_from}

-- these, and then what follows
abbrev pub listed : List ℕ → Option (List ℕ) → Option (List ℕ)
listed xs (Some ys) = Some (xs ++ ys)
listed xs None = None

past_first : (n j : ℕ) (f : Form) → is_variable j f ≡ false → variable_from (suc n) j f ≡ variable_from n (suc j) f
past_first n j f h = ap (λ b. cond b (Some j) (variable_from n (suc j) f)) h

-- past a variable that the form isn't
pub goes_past : (count first number : ℕ) (f : Form) → number < count → is_variable (first + number) f ≡ false → variable_from (count - number) (first + number) f ≡ variable_from (count - (number + 1)) (first + (number + 1)) f
goes_past count first number f h e =
    let left : count - number ≡ suc (count - (number + 1)) = omega (arith, h) in
    let next : suc (first + number) ≡ first + (number + 1) = omega arith in
    ap (λ n. variable_from n (first + number) f) left ∙ past_first (count - (number + 1)) (first + number) f e ∙ ap (λ j. variable_from (count - (number + 1)) j f) next
