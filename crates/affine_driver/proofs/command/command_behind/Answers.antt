use Rattle.std.proofs.Common.{◌∙◌, sym, ap, map, option_map}
use Rattle.command_words.specs.Options.{rules_of}
use Rattle.affine_driver.specs.Command.{command_by}
use Rattle.affine_driver.proofs.Commands.{behind_some, behind_none}
use Rattle.affine_driver.proofs.command.command_behind.Goals as goal

pub returns-in-Some : goal.returns-in-Some
returns-in-Some c =
    behind_some c.args.first (rules_of c.options.result.now) (map (λ w. w.now) c.args.words.now) c.in-Some.values.items (option_map (λ given. given.items) c.in_ok-values.field-0) c.command.result
    c.options.ensures (sym c.is_built.ensures ∙ c.if-not-is_built.false) c.in_ok-values.ensures (ap (option_map (λ given. given.items)) c.in-Some.is) (c.command.ensures ∙ ap (λ l. command_by c.args.first l) c.as_slice.ensures.value)

pub returns-in-None : goal.returns-in-None
returns-in-None c =
    behind_none c.args.first (rules_of c.options.result.now) (map (λ w. w.now) c.args.words.now) (option_map (λ given. given.items) c.in_ok-values.field-0)
    c.options.ensures c.in_ok-values.ensures (ap (option_map (λ given. given.items)) c.in-None.is)
