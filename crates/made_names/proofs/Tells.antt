-- Made names are told by their texts.
use Rattle.std.proofs.Common.{◌≡◌, ℕ, suc, ◌+◌, ◌-◌, ◌*◌, ◌/◌, ◌%◌, List, ap, ◌∙◌, arith}
use Rattle.std.specs.Prelude.{slice_index_or, if◌then◌else◌}
use Rattle.affine_ast.specs.declared.name.Name.{Name}
use Rattle.affine_ast.proofs.Names.{same_name-eq}
use Rattle.made_names.specs.Made.{made_text, made_name, number_from}
use Rattle.made_names.specs.Law.{NamesAreTold}

digits : (a b c : ℕ) → ((48 + a) - 48) + 64 * (((48 + b) - 48) + 64 * ((48 + c) - 48)) ≡ a + 64 * (b + 64 * c)
digits a b c = omega arith

of_digits : (n : ℕ) → (n % 64) + 64 * (((n / 64) % 64) + 64 * ((n / 64) / 64)) ≡ n
of_digits n = omega arith

number_is : (number slot : ℕ) → number_from (made_text number slot) ≡ number
number_is number slot = digits (number % 64) ((number / 64) % 64) ((number / 64) / 64) ∙ of_digits number

first_of : List ℕ → ℕ
first_of text = slice_index_or text 0 0

slot_is : (number i j : ℕ) → made_name number i ≡ made_name number j → i ≡ j
unfolding first_of
slot_is number i j e = let f : 65 + i ≡ 65 + j = ap (λ (n : Name). first_of n.text) e in omega (arith, f)

pub told : NamesAreTold
told = record {
  by = λ number slot. ap suc (number_is number slot);
  slots = λ number i j h. slot_is number i j (same_name-eq (made_name number i) (made_name number j) h);
  of_texts = λ n h. ap (λ b. if b then suc (number_from n.text) else 0) h;
}
