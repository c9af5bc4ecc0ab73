use Rattle.std.proofs.Common.{◌∙◌, sym, ap, refl, subst, rules, w64}
use Rattle.std.proofs.lemmas.Int.{to_z-of_z}
use Rattle.affine_ast.specs.Validity.{IsValid}
use Rattle.direct_meaning.specs.Memory.{slow_list}
use Rattle.order_memory.specs.declared.memory.Memory.{Memory}
use Rattle.prompt_meaning.proofs.Modules.{safe}
use Rattle.order_machine.specs.Orders.{setting}
use Rattle.order_machine.proofs.Begins.{begins}
use Rattle.order_machine.proofs.machine.Machine.new.Goals as goal

pub new-requires : goal.new-requires
new-requires c = c.requires.made.distinct

pub new-requires-2-clause-safe : goal.new-requires-2-clause-safe
new-requires-2-clause-safe c = safe c.args.module.now.inner c.args.module.now.inner c.args.image refl (subst IsValid c.module-module.ensures.value c.module-module.ensures.valid) c.requires.fits _ _ c.as_slice-3.result.now c.requires.body c.requires.arguments c.as_slice-3.ensures

pub returns : goal.returns
returns c =
    let valid = subst IsValid c.module-module.ensures.value c.module-module.ensures.valid in
    let e = c.advance.ensures.others in
    let s = setting c.args.module.now.inner c.args.image c.args.filler c.args.capacity c.args.engines in
    begins s (record { valid = valid; fits = c.requires.fits; some_engine = c.requires.some_engine; work = c.requires.work }) _ _ c.requires.body c.requires.arguments c.as_slice-3.result.now c.as_slice-3.ensures
    c.advance.new.self c.in_ok-walk.walk.left c.in_ok-walk.ensures.left c.advance.ensures.verdict c.advance.ensures.left c.advance.ensures.inside
    (ap (λ (m : Memory). m.registers.names) e.memory ∙ c.in_ok-memory.ensures.names ∙ sym c.in_ok-walk.ensures.names ∙ sym c.advance.ensures.names)
    _ e.memory _ (c.in_ok-slow.ensures ∙ ap slow_list c.as_slice.ensures) c.in_ok-memory.ensures.tied
    (e.filler ∙ to_z-of_z w64 c.args.filler (search rules)) e.capacity e.engines e.image (ap (λ v. v.items) e.memrefs ∙ c.in_ok-memrefs.ensures ∙ c.as_slice-2.ensures) e.steps
