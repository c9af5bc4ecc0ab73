use Rattle.std.proofs.Common.{◌∙◌, sym, ap}
use Rattle.clap.specs.Words.{app_of, rule_of}
use Rattle.command_words.proofs.Chosen.{told_more, told_same}
use Rattle.command_words.proofs.read.command.Goals as goal
use Rattle.command_words.proofs.read.command.Goals.{then-is_built+in_ok-command, else-is_built}

pub loop-option-preserved : goal.loop-option-preserved
loop-option-preserved c = elim c.if-is_built.branch [
  | then-is_built+in_ok-command w ↦
      told_more c.args.name.now c.args.options.now c.loop-option.option-index _ (app_of c.loop-option.command) (app_of c.if-is_built.command) (rule_of w.argument.result)
      c.loop-option-test.true (sym c.is_built.ensures ∙ w.if-is_built.true) c.loop-option.invariant w.argument.ensures.rule
      (ap app_of w.command-is ∙ w.in_ok-command.ensures.shape w.argument.ensures.own)
  | else-is_built w ↦
      ap app_of w.command-is
      ∙ told_same c.args.name.now c.args.options.now c.loop-option.option-index _ (app_of c.loop-option.command) c.loop-option-test.true (sym c.is_built.ensures ∙ w.if-is_built.false) c.loop-option.invariant
]
