use Rattle.std.proofs.Common.{◌∙◌, ap, sym, length, arith}
use Rattle.direct_meaning.specs.Memory.{slow_list}
use Rattle.run_laws.specs.StaysFitting.{refilled}
use Rattle.run_parts.specs.Registered.{values_of}
use Rattle.nest_meaning.specs.Held.{state_at}
use Rattle.nest_meaning.proofs.Modules.{safe, may_run, runs, fits_after}
use Rattle.nest_meaning.proofs.plain.run_plain.Goals as goal

pub new-requires-2-clause-safe : goal.new-requires-2-clause-safe
new-requires-2-clause-safe c = safe c.args.module.now.inner c.module-module.result.now c.args.image.now c.module-module.ensures.value c.module-module.ensures.valid c.requires.plain c.requires.fits _ _ c.as_slice-4.result.now c.in_ok-program.ensures.body c.in_ok-program.ensures.arguments c.as_slice-4.ensures

pub run-verdict-requires-clause-runs : goal.run-verdict-requires-clause-runs
run-verdict-requires-clause-runs c = may_run c.args.module.now.inner c.module-module.result.now c.args.image.now c.module-module.ensures.value c.module-module.ensures.valid c.requires.plain c.requires.fits _ _ c.as_slice-4.result.now c.in_ok-program.ensures.body c.in_ok-program.ensures.arguments c.as_slice-4.ensures c.in_ok-walk.walk.left (record { registers = values_of c.in_ok-registers.registers; slow = c.in_ok-slow.slow.items }) c.in_ok-walk.ensures.left (λ i. record { registers = c.in_ok-registers.ensures.values i; slow = (c.in_ok-slow.ensures ∙ ap slow_list c.as_slice.ensures) i })

pub refill-requires : goal.refill-requires
refill-requires c =
    let old = ap length c.in_ok-slow.ensures in
    let copied = ap (λ ms. length (slow_list ms)) (c.in_ok-memrefs.ensures ∙ c.as_slice-2.ensures ∙ sym c.as_slice.ensures) in
    let now = ap length c.as_slice-5.ensures.value in
    omega (arith, old, copied, now, c.run-verdict.ensures.same.slow)

pub returns-clause-runs : goal.returns-clause-runs
returns-clause-runs c =
    runs c.args.module.now.inner c.module-module.result.now c.args.image.now c.module-module.ensures.value c.module-module.ensures.valid c.requires.plain c.requires.fits _ _ c.as_slice-4.result.now c.in_ok-program.ensures.body c.in_ok-program.ensures.arguments c.as_slice-4.ensures c.in_ok-walk.walk.left (record { registers = values_of c.in_ok-registers.registers; slow = c.in_ok-slow.slow.items }) c.in_ok-walk.ensures.left (λ i. record { registers = c.in_ok-registers.ensures.values i; slow = (c.in_ok-slow.ensures ∙ ap slow_list c.as_slice.ensures) i })
    c.run-verdict.result (state_at c.run-verdict.new.machine) c.run-verdict.ensures.ends c.from_vec.result
    (c.from_vec.ensures ∙ c.refill.ensures ∙ (λ i. refilled ((c.in_ok-memrefs.ensures ∙ c.as_slice-2.ensures) i) (c.as_slice-5.ensures.value i)))

pub returns-clause-fits : goal.returns-clause-fits
returns-clause-fits c =
    fits_after c.args.module.now.inner c.module-module.result.now c.args.image.now c.module-module.ensures.value c.module-module.ensures.valid c.requires.plain c.requires.fits _ _ c.as_slice-4.result.now c.in_ok-program.ensures.body c.in_ok-program.ensures.arguments c.as_slice-4.ensures c.in_ok-walk.walk.left (record { registers = values_of c.in_ok-registers.registers; slow = c.in_ok-slow.slow.items }) c.in_ok-walk.ensures.left (λ i. record { registers = c.in_ok-registers.ensures.values i; slow = (c.in_ok-slow.ensures ∙ ap slow_list c.as_slice.ensures) i })
    c.run-verdict.result (state_at c.run-verdict.new.machine) c.run-verdict.ensures.ends c.from_vec.result
    (c.from_vec.ensures ∙ c.refill.ensures ∙ (λ i. refilled ((c.in_ok-memrefs.ensures ∙ c.as_slice-2.ensures) i) (c.as_slice-5.ensures.value i)))
