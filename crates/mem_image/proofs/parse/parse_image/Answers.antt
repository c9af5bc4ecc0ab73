use Rattle.std.proofs.Common.{◌≡◌, ◌∙◌, ◌+◌, suc, refl, sym, ap, length, arith}
use Rattle.std.proofs.lemmas.List.{drop_all}
use Rattle.std.specs.Str.Lines.{lines}
use Rattle.mem_image.specs.Lines.{written, words}
use Rattle.mem_image.proofs.Broken.{broken_is}
use Rattle.mem_image.proofs.Printing.{drop_at}
use Rattle.mem_image.proofs.Rules.{passes, form_decimal}
use Rattle.mem_image.proofs.Spelled.{read_spells}
use Rattle.mem_image.proofs.Told.{Broken, told_lacks, told_broken, told_line, told_left, told_read, told_image}
use Rattle.mem_image.proofs.parse.parse_image.Goals as goal

pub loop-arg-init : goal.loop-arg-init
unfolding written
loop-arg-init c = record { same = cc; counted = omega arith; within = omega arith }

pub returns-in_default-clause-broken : goal.returns-in_default-clause-broken
returns-in_default-clause-broken c =
    let ended : length (lines c.next_line.new.rest.bytes.now) ≡ 0 = ap (λ bytes. length (lines bytes)) c.in_default.ensures.end in
    let counted = c.in_default.ensures.counted in
    let before = c.loop-arg.invariant.counted in
    let line : suc (length (lines c.args.bytes.now)) ≡ c.next_line.new.rest.lines + 1 = omega arith in
    broken_is _ _ _ _ _ _ _ _ refl (c.loop-arg.invariant.same ∙ told_lacks _ _ c.arg-item.result _ _ _ _ (drop_at _ c.loop-arg.arg-index c.arg-item.result c.loop-arg-test.true c.arg-item.is) c.in_default.ensures.line ∙ ap (λ n. Broken n 2) line)

pub returns-in-Some-broken_rule-clause-broken : goal.returns-in-Some-broken_rule-clause-broken
returns-in-Some-broken_rule-clause-broken c =
    broken_is _ _ _ _ _ _ _ _ refl (c.loop-arg.invariant.same ∙ told_broken _ _ c.arg-item.result _ _ _ _ _ _ _ (drop_at _ c.loop-arg.arg-index c.arg-item.result c.loop-arg-test.true c.arg-item.is) c.in-Some.ensures.line (sym c.broken_rule.ensures ∙ c.in-Some-broken_rule.is))

pub add_line-requires-clause-decimal : goal.add_line-requires-clause-decimal
add_line-requires-clause-decimal c = form_decimal (words c.in-Some.line.now) (passes c.arg-item.result (words c.in-Some.line.now) (sym c.broken_rule.ensures ∙ c.in_default-broken_rule.is)).form

pub add_line-requires-clause-between : goal.add_line-requires-clause-between
add_line-requires-clause-between c = (passes c.arg-item.result (words c.in-Some.line.now) (sym c.broken_rule.ensures ∙ c.in_default-broken_rule.is)).between

pub loop-arg-preserved : goal.loop-arg-preserved
loop-arg-preserved c = record {
  same = c.loop-arg.invariant.same ∙ told_line _ _ c.arg-item.result _ _ _ _ _ _ (drop_at _ c.loop-arg.arg-index c.arg-item.result c.loop-arg-test.true c.arg-item.is) c.in-Some.ensures.line (sym c.broken_rule.ensures ∙ c.in_default-broken_rule.is) ∙ told_image _ _ _ _ _ c.in_ok-add_line.ensures;
  counted = c.in-Some.ensures.counted ∙ c.loop-arg.invariant.counted;
  within = (let a = c.in-Some.ensures.within in let b = c.loop-arg.invariant.within in omega arith);
}

pub returns-in-Some-next_line-clause-broken : goal.returns-in-Some-next_line-clause-broken
returns-in-Some-next_line-clause-broken c =
    broken_is _ _ _ _ _ _ _ _ refl (c.loop-arg.invariant.same ∙ told_left _ _ _ _ _ _ _ _ (drop_all c.loop-arg.arg-index c.as_slice-arg-items.result.now (omega arith)) c.in-Some-next_line.ensures.line c.left_over_rule.ensures)

pub returns-in-None-clause-spells : goal.returns-in-None-clause-spells
returns-in-None-clause-spells c =
    read_spells _ _ _ _ (c.loop-arg.invariant.same ∙ told_read _ _ _ _ _ (drop_all c.loop-arg.arg-index c.as_slice-arg-items.result.now (omega arith)) c.in-None.ensures.line)
