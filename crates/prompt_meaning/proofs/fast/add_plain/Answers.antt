use Rattle.prompt_meaning.proofs.Adding.{adds_fast, adds_tags, adds_none}
use Rattle.prompt_meaning.proofs.fast.add_plain.Goals as goal

pub returns-in_ok-push-in-Alloc : goal.returns-in_ok-push-in-Alloc
returns-in_ok-push-in-Alloc c = adds_fast c.args.plain.now c.in-Alloc.result c.in-Alloc.ty c.in_ok-new-in-Alloc.field-0 c.args.fasts.now.items c.push.new.self.items c.in-Alloc.is c.if-ty-eq1.true c.in_ok-new-in-Alloc.ensures c.in_ok-push-in-Alloc.ensures.items

pub returns-else-ty-eq1 : goal.returns-else-ty-eq1
returns-else-ty-eq1 c = adds_tags c.args.plain.now c.in-Alloc.result c.in-Alloc.ty c.args.fasts.now.items c.in-Alloc.is c.if-ty-eq1.false

pub returns-in_default : goal.returns-in_default
returns-in_default c = adds_none c.args.plain.now c.args.fasts.now.items (λ r ty e. c.in_default.not-Alloc r ty e)
