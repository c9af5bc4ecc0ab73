use Rattle.std.proofs.Common.{◌∙◌, refl, sym}
use Rattle.mem_image.proofs.Rules.{no_words, one_word, no_name, no_sign, then_numbers, differ, agree}
use Rattle.mem_image.proofs.forms.has_form.Goals as goal

pub returns-in_default : goal.returns-in_default
returns-in_default c = sym (no_words _ c.in_default.ensures)

pub returns-in_default-next_word : goal.returns-in_default-next_word
returns-in_default-next_word c = sym (one_word _ _ _ c.in-Some.ensures.0 c.in_default-next_word.ensures)

pub returns-then-not-is_name : goal.returns-then-not-is_name
returns-then-not-is_name c = sym (no_name _ _ _ _ _ c.in-Some.ensures.0 c.in-Some-next_word.ensures.0 (sym c.is_name.ensures ∙ c.if-not-is_name.true))

pub returns-then-ne : goal.returns-then-ne
returns-then-ne c = sym (no_sign _ _ _ _ _ c.in-Some.ensures.0 c.in-Some-next_word.ensures.0 (differ _ _ _ _ _ c.ne.ensures c.if-ne.true refl c.as_slice.ensures))

pub returns : goal.returns
returns c = c.are_numbers.ensures ∙ sym (then_numbers _ _ _ _ _ c.in-Some.ensures.0 c.in-Some-next_word.ensures.0 (sym c.is_name.ensures ∙ c.if-not-is_name.false) (agree _ _ _ _ _ c.ne.ensures c.if-ne.false refl c.as_slice.ensures))
