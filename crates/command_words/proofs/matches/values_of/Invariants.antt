use Rattle.std.proofs.Common.{◌≡◌, List, take}
use Rattle.std.specs.Prelude.{Some}
use Rattle.command_words.specs.Words.{Item}
use Rattle.command_words.specs.Options.{rules_of, values_in}
use Rattle.command_words.specs.Reader.{AllAgree}
use Rattle.command_words.proofs.matches.values_of.Given as goal

abbrev pub invariant-loop-option : goal.invariant-loop-option
invariant-loop-option l = (items : List Item) → AllAgree l.matches items (rules_of l.options) → values_in items (rules_of (take l.option-index l.options)) ≡ Some l.values.items
