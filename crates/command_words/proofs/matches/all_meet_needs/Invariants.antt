use Rattle.std.proofs.Common.{◌≡◌, true, List, take}
use Rattle.std.specs.List.{list_all}
use Rattle.command_words.specs.Words.{Item}
use Rattle.command_words.specs.Options.{rules_of, meets_need}
use Rattle.command_words.specs.Reader.{AllAgree}
use Rattle.command_words.proofs.matches.all_meet_needs.Given as goal

abbrev pub invariant-loop-option : goal.invariant-loop-option
invariant-loop-option l = (items : List Item) → AllAgree l.matches items (rules_of l.options) → list_all (meets_need items) (rules_of (take l.option-index l.options)) ≡ true
