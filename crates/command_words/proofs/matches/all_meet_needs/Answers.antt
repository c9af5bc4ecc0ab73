use Rattle.command_words.proofs.Chosen.{need_more, need_unmet}
use Rattle.command_words.proofs.matches.all_meet_needs.Goals as goal

pub returns-then-not-meets_need : goal.returns-then-not-meets_need
returns-then-not-meets_need c = λ items all.
    need_unmet c.args.matches.now items c.args.options.now c.loop-option.option-index _ c.meets_need.result c.loop-option-test.true c.meets_need.ensures c.if-not-meets_need.true all

pub loop-option-preserved : goal.loop-option-preserved
loop-option-preserved c = λ items all.
    need_more c.args.matches.now items c.args.options.now c.loop-option.option-index _ c.meets_need.result c.loop-option-test.true c.meets_need.ensures c.if-not-meets_need.false all
    (c.loop-option.invariant items all)
