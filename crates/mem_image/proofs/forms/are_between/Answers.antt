use Rattle.std.proofs.Common.{◌∙◌, sym, ap}
use Rattle.mem_image.specs.Forms.{are_between}
use Rattle.mem_image.proofs.Numbers.{rest_decimal, first_outside, first_inside, none_between}
use Rattle.mem_image.proofs.forms.are_between.Goals as goal

pub returns-in-None : goal.returns-in-None
returns-in-None c = sym (c.loop-word.invariant.same ∙ first_outside _ _ _ _ c.in-Some.ensures.0 c.in-None.ensures)

pub loop-word-preserved : goal.loop-word-preserved
loop-word-preserved c = record {
  decimal = rest_decimal _ _ _ c.in-Some.ensures.0 c.loop-word.invariant.decimal;
  same = c.loop-word.invariant.same ∙ first_inside _ _ _ _ c.in-Some.ensures.0 c.in-Some-read_value.ensures.0;
}

pub returns : goal.returns
returns c = sym (c.loop-word.invariant.same ∙ ap (are_between c.args.range) c.in_default.ensures ∙ none_between c.args.range)
