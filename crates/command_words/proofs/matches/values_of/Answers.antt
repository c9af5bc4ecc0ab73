use Rattle.command_words.proofs.Chosen.{value_more, no_value}
use Rattle.command_words.proofs.matches.values_of.Goals as goal

pub returns-in_default : goal.returns-in_default
returns-in_default c = λ items all.
    no_value c.args.matches.now items c.args.options.now c.loop-option.option-index _ c.value_of.result c.loop-option-test.true c.value_of.ensures c.in_default.is all

pub loop-option-preserved : goal.loop-option-preserved
loop-option-preserved c = λ items all.
    value_more c.args.matches.now items c.args.options.now c.loop-option.option-index _ c.loop-option.values.items c.push.new.self.items c.value_of.result c.in-Some.value
    c.loop-option-test.true c.value_of.ensures c.in-Some.is all (c.loop-option.invariant items all) c.in_ok-push.ensures.items
