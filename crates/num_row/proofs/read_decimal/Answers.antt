use Rattle.std.proofs.Common.{sym, ◌∙◌, subst}
use Rattle.std.specs.Int.{w128}
use Rattle.std.specs.Str.Parse.{ParsesSigned}
use Rattle.num_row.proofs.DecimalTexts.{plus_refused, no_plus, text_needed, parsed}
use Rattle.num_row.proofs.read_decimal.Goals as goal

pub returns-then-starts_with : goal.returns-then-starts_with
returns-then-starts_with c = sym (plus_refused c.args.digits.now (sym c.starts_with.ensures.value ∙ c.if-starts_with.true))

pub returns-in_default : goal.returns-in_default
returns-in_default c = sym (text_needed c.args.digits.now c.in_default.ensures.cases.0)

pub returns : goal.returns
returns c =
    let no = no_plus c.args.digits.now (sym c.starts_with.ensures.value ∙ c.if-starts_with.false) in
    c.ok.ensures.value ∙ parsed c.args.digits.now c.parse.result no (subst (λ text. ParsesSigned w128 10 text c.parse.result) c.in-Ok.ensures.cases.0 c.parse.ensures.value.0)
