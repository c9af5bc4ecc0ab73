use Rattle.std.proofs.Common.{◌≡◌, take}
use Rattle.clap.specs.Words.{app_of}
use Rattle.command_words.specs.Options.{rules_of}
use Rattle.command_words.specs.Reader.{app_with, choices_of}
use Rattle.command_words.proofs.read.command.Given as goal

abbrev pub invariant-loop-option : goal.invariant-loop-option
invariant-loop-option l = app_of l.command ≡ app_with l.name (choices_of (rules_of (take l.option-index l.options)))
