use Rattle.std.proofs.Common.{◌≡◌, true, false, [], Err, sym, ap, ◌∙◌}
use Rattle.affine_lex.specs.Tokens.{text_end}
use Rattle.token_cursor.specs.declared.refusal.Refusal.{Refusal}
use Rattle.affine_text.proofs.Answers.{read_whole, read_part, read_none}
use Rattle.affine_text.proofs.text.module_of.Goals as goal

pub returns-then-is_done : goal.returns-then-is_done
returns-then-is_done c = read_whole c.args.source.now c.new.result (text_end c.args.source.now) c.new.ensures c.new-tokens.result c.new-tokens.ensures c.in-Ok.module c.file.new.tokens c.in-Ok.ensures (c.is_done.ensures.0 c.if-is_done.true)

pub returns-else-is_done : goal.returns-else-is_done
returns-else-is_done c =
    read_part c.args.source.now c.new.result (text_end c.args.source.now) c.new.ensures c.new-tokens.result c.new-tokens.ensures c.in-Ok.module c.file.new.tokens c.refused.result c.in-Ok.ensures (λ (e : c.file.new.tokens ≡ []). let z : true ≡ false = sym (c.is_done.ensures.1 e) ∙ c.if-is_done.false in cc) c.refused.ensures

pub returns-in-Here : goal.returns-in-Here
returns-in-Here c = read_none c.args.source.now c.new.result (text_end c.args.source.now) c.new.ensures c.new-tokens.result c.new-tokens.ensures c.file.result c.file.new.tokens c.refused-in-Here.result c.file.ensures (c.in-Err.is ∙ ap (λ (x : Refusal). Err x) c.in-Here.is) c.refused-in-Here.ensures
