use Rattle.std.proofs.Common.{sym, subst}
use Rattle.affine_grammar.specs.Spelling.{Spells}
use Rattle.source_parts.specs.Parts.{text_part}
use Rattle.affine_driver.specs.declared.command.Command.TheVariants.{Check, Regions, Stage, Plain, Order}
use Rattle.affine_driver.specs.Behaviour.{Makes, ComesTo}
use Rattle.affine_driver.proofs.Refusals.{answered, comes_to}
use Rattle.affine_driver.proofs.answer.answer_of.Goals as goal

pub returns-in-Check : goal.returns-in-Check
returns-in-Check c =
    let input = c.in_ok-verified.verified.inner in
    let spells : Spells (text_part c.args.source.now) input = subst (λ t. Spells t input) c.split-parts.ensures.text c.in_ok-verified.ensures.0 in
    answered _ _ _ _ (λ o h. subst (λ k. ComesTo k c.args.source.now o) (sym c.in-Check.is) (comes_to Check c.args.source.now input o spells c.in_ok-verified.ensures.1 h)) c.checked.ensures

pub returns-in-Regions : goal.returns-in-Regions
returns-in-Regions c =
    let input = c.in_ok-verified.verified.inner in
    let spells : Spells (text_part c.args.source.now) input = subst (λ t. Spells t input) c.split-parts.ensures.text c.in_ok-verified.ensures.0 in
    answered _ _ _ _ (λ o h. subst (λ k. ComesTo k c.args.source.now o) (sym c.in-Regions.is) (comes_to (Regions c.in-Regions.options) c.args.source.now input o spells c.in_ok-verified.ensures.1 h)) c.regions_output.ensures

pub returns-in-Stage : goal.returns-in-Stage
returns-in-Stage c =
    let input = c.in_ok-verified.verified.inner in
    let spells : Spells (text_part c.args.source.now) input = subst (λ t. Spells t input) c.split-parts.ensures.text c.in_ok-verified.ensures.0 in
    answered _ _ _ _ (λ o h. subst (λ k. ComesTo k c.args.source.now o) (sym c.in-Stage.is) (comes_to (Stage c.in-Stage.options) c.args.source.now input o spells c.in_ok-verified.ensures.1 h)) c.stage_output.ensures

pub returns-in-Plain : goal.returns-in-Plain
returns-in-Plain c =
    let input = c.in_ok-verified.verified.inner in
    let spells : Spells (text_part c.args.source.now) input = subst (λ t. Spells t input) c.split-parts.ensures.text c.in_ok-verified.ensures.0 in
    answered _ _ _ _ (λ o h. subst (λ k. ComesTo k c.args.source.now o) (sym c.in-Plain.is) (comes_to Plain c.args.source.now input o spells c.in_ok-verified.ensures.1
    (subst (λ t. Makes Plain input t o) c.split-parts.ensures.image h))) c.plain_output.ensures

pub returns-in-Order : goal.returns-in-Order
returns-in-Order c =
    let input = c.in_ok-verified.verified.inner in
    let spells : Spells (text_part c.args.source.now) input = subst (λ t. Spells t input) c.split-parts.ensures.text c.in_ok-verified.ensures.0 in
    answered _ _ _ _ (λ o h. subst (λ k. ComesTo k c.args.source.now o) (sym c.in-Order.is) (comes_to (Order c.in-Order.options) c.args.source.now input o spells c.in_ok-verified.ensures.1
    (subst (λ t. Makes (Order c.in-Order.options) input t o) c.split-parts.ensures.image h))) c.order_output.ensures
