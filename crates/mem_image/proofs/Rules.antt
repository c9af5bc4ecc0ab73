-- What the rules of a line come to.
use Rattle.std.proofs.Common.{◌≡◌, ℕ, ◌<◌, ◌-◌, ◌^◌, min, List, [], ◌∷◌, ◌&&◌, length, Bool, true, false, Option, Some, None, refl, sym, ◌∙◌, ap, arith}
use Rattle.std.specs.Prelude.{nat_eq, not, codes}
use Rattle.std.specs.List.{list_all}
use Rattle.std.specs.Str.{bytes_eq}
use Rattle.std.proofs.Math.Bool.{and-false}
use Rattle.std.proofs.lemmas.Bool.Decides.{nat_tests}
use Rattle.num_row.specs.Decimals.{is_decimal}
use Rattle.affine_ast.specs.declared.module.Arg.{Arg}
use Rattle.affine_ast.specs.Validity.{rule}
use Rattle.mem_image.specs.Forms.{count_of, range_of_kind, is_name, are_numbers, name_in, numbers_in, has_form, are_between, rule_of_line}
use Rattle.mem_image.proofs.Numbers.{and_right, true_no}

-- ---- The form of a line

pub no_words : (line : List (List ℕ)) → line ≡ [] → has_form line ≡ false
unfolding has_form
no_words line e = rw e refl

pub one_word : (line rest : List (List ℕ)) (name : List ℕ) → line ≡ name ∷ rest → rest ≡ [] → has_form line ≡ false
unfolding has_form
one_word line rest name e r = rw (e, r) refl

form_of : (line rest numbers : List (List ℕ)) (name sign : List ℕ) → line ≡ name ∷ rest → rest ≡ sign ∷ numbers → has_form line ≡ (is_name name && (bytes_eq sign (codes "=") && are_numbers numbers))
unfolding has_form
form_of line rest numbers name sign e r = rw (e, r) refl

pub no_name : (line rest numbers : List (List ℕ)) (name sign : List ℕ) → line ≡ name ∷ rest → rest ≡ sign ∷ numbers → is_name name ≡ false → has_form line ≡ false
no_name line rest numbers name sign e r n = form_of line rest numbers name sign e r ∙ ap (λ b. b && (bytes_eq sign (codes "=") && are_numbers numbers)) n

pub no_sign : (line rest numbers : List (List ℕ)) (name sign : List ℕ) → line ≡ name ∷ rest → rest ≡ sign ∷ numbers → bytes_eq sign (codes "=") ≡ false → has_form line ≡ false
no_sign line rest numbers name sign e r s = form_of line rest numbers name sign e r ∙ ap (λ b. is_name name && (b && are_numbers numbers)) s ∙ and-false (is_name name)

pub then_numbers : (line rest numbers : List (List ℕ)) (name sign : List ℕ) → line ≡ name ∷ rest → rest ≡ sign ∷ numbers → is_name name ≡ true → bytes_eq sign (codes "=") ≡ true → has_form line ≡ are_numbers numbers
then_numbers line rest numbers name sign e r n s = form_of line rest numbers name sign e r ∙ ap (λ b. b && (bytes_eq sign (codes "=") && are_numbers numbers)) n ∙ ap (λ b. b && are_numbers numbers) s

-- the numbers of a line in form
pub form_numbers : (line : List (List ℕ)) → has_form line ≡ true → are_numbers (numbers_in line) ≡ true
unfolding has_form
form_numbers [] h = absurd (true_no (sym h))
form_numbers (name ∷ []) h = absurd (true_no (sym h))
form_numbers (name ∷ sign ∷ numbers) h = and_right (bytes_eq sign (codes "=")) (are_numbers numbers) (and_right (is_name name) (bytes_eq sign (codes "=") && are_numbers numbers) h)

pub form_decimal : (line : List (List ℕ)) → has_form line ≡ true → list_all is_decimal (numbers_in line) ≡ true
unfolding are_numbers
form_decimal line h = let n = form_numbers line h in decimals (numbers_in line) n
  where
    decimals : (texts : List (List ℕ)) → are_numbers texts ≡ true → list_all is_decimal texts ≡ true
    decimals texts n = and_right _ (list_all is_decimal texts) n

-- ---- The lowest rule

pub breaks_first : (arg : Option Arg) (line : List (List ℕ)) → has_form line ≡ false → rule_of_line arg line ≡ Some 1
unfolding rule_of_line
breaks_first arg line f = rw f refl

pub breaks_second : (arg : Arg) (line : List (List ℕ)) → has_form line ≡ true → bytes_eq (name_in line) arg.name.text ≡ false → rule_of_line (Some arg) line ≡ Some 2
unfolding rule_of_line
breaks_second arg line f n = rw (f, n) refl

pub breaks_third : (arg : Arg) (line : List (List ℕ)) → has_form line ≡ true → bytes_eq (name_in line) arg.name.text ≡ true → nat_eq (length (numbers_in line)) (count_of arg.kind) ≡ false → rule_of_line (Some arg) line ≡ Some 3
unfolding rule_of_line
breaks_third arg line f n c = rw (f, n, c) refl

pub breaks_fourth : (arg : Arg) (line : List (List ℕ)) → has_form line ≡ true → bytes_eq (name_in line) arg.name.text ≡ true → nat_eq (length (numbers_in line)) (count_of arg.kind) ≡ true → are_between (range_of_kind arg.kind) (numbers_in line) ≡ false → rule_of_line (Some arg) line ≡ Some 4
unfolding rule_of_line
breaks_fourth arg line f n c r = rw (f, n, c, r) refl

pub breaks_none : (arg : Arg) (line : List (List ℕ)) → has_form line ≡ true → bytes_eq (name_in line) arg.name.text ≡ true → nat_eq (length (numbers_in line)) (count_of arg.kind) ≡ true → are_between (range_of_kind arg.kind) (numbers_in line) ≡ true → rule_of_line (Some arg) line ≡ None
unfolding rule_of_line
breaks_none arg line f n c r = rw (f, n, c, r) refl

-- ---- The count of numbers, as the code compares it

pub same_count : (n k : ℕ) → n < 4294967295 → n ≡ min k (2 ^ 64 - 1) → nat_eq n k ≡ true
same_count n k h e = let q : n ≡ k = omega arith in grind (arith, nat_tests)

pub other_count : (n k m : ℕ) → m ≡ min k (2 ^ 64 - 1) → (n ≡ m → ⊥) → n < 4294967295 → nat_eq n k ≡ false
other_count n k m e f h = cases (nat_eq n k) refl
  where
    cases : (t : Bool) → nat_eq n k ≡ t → t ≡ false
    cases false q = refl
    cases true q = absurd (f (let s : n ≡ k = grind (arith, nat_tests) in omega arith))

-- ---- Names, as the code compares them

not_no : (b : Bool) → not b ≡ true → b ≡ false
not_no true h = absurd (true_no (sym h))
not_no false h = refl

not_yes : (b : Bool) → not b ≡ false → b ≡ true
not_yes true h = refl
not_yes false h = absurd (true_no h)

both : (x y a b : List ℕ) → x ≡ a → y ≡ b → bytes_eq x y ≡ bytes_eq a b
both x y a b p q = ap (λ z. bytes_eq z y) p ∙ ap (λ z. bytes_eq a z) q

pub differ : (x y a b : List ℕ) (r : Bool) → r ≡ not (bytes_eq x y) → r ≡ true → x ≡ a → y ≡ b → bytes_eq a b ≡ false
differ x y a b r e h p q = sym (both x y a b p q) ∙ not_no (bytes_eq x y) (sym e ∙ h)

pub agree : (x y a b : List ℕ) (r : Bool) → r ≡ not (bytes_eq x y) → r ≡ false → x ≡ a → y ≡ b → bytes_eq a b ≡ true
agree x y a b r e h p q = sym (both x y a b p q) ∙ not_yes (bytes_eq x y) (sym e ∙ h)

-- ---- A line that breaks no rule

pub some_none : (n : ℕ) → Some n ≡ None → ⊥
some_none n h = let x : ⊥ = cc in x

pub record Passes (arg : Arg) (line : List (List ℕ)) : Type 0 where
  pub form : has_form line ≡ true
  pub named : bytes_eq (name_in line) arg.name.text ≡ true
  pub counted : nat_eq (length (numbers_in line)) (count_of arg.kind) ≡ true
  pub between : are_between (range_of_kind arg.kind) (numbers_in line) ≡ true

all_hold : (f n c r : Bool) → rule 1 f (rule 2 n (rule 3 c (rule 4 r None))) ≡ None → (f ≡ true) × (n ≡ true) × (c ≡ true) × (r ≡ true)
all_hold true true true true h = (refl, refl, refl, refl)
all_hold true true true false h = absurd (some_none 4 h)
all_hold true true false r h = absurd (some_none 3 h)
all_hold true false c r h = absurd (some_none 2 h)
all_hold false n c r h = absurd (some_none 1 h)

pub passes : (arg : Arg) (line : List (List ℕ)) → rule_of_line (Some arg) line ≡ None → Passes arg line
unfolding rule_of_line
passes arg line h =
    let all = all_hold (has_form line) (bytes_eq (name_in line) arg.name.text) (nat_eq (length (numbers_in line)) (count_of arg.kind)) (are_between (range_of_kind arg.kind) (numbers_in line)) h in
    record { form = all.0; named = all.1; counted = all.2; between = all.3 }

pub left_over : (line : List (List ℕ)) → rule_of_line None line ≡ None → ⊥
unfolding rule_of_line
left_over line h = cases (has_form line) h
  where
    cases : (f : Bool) → rule 1 f (rule 2 false (rule 3 true (rule 4 true None))) ≡ None → ⊥
    cases true h = some_none 2 h
    cases false h = some_none 1 h
