use Rattle.std.proofs.Common.{◌∙◌, ◌≤◌, ap, sym, refl, subst, length, arith, [], w64, of_z, to_z}
use Rattle.std.specs.Prelude.{vec_capacity}
use Rattle.std.proofs.lemmas.Int.{to_z-of_z}
use Rattle.direct_meaning.specs.Direct.{folded}
use Rattle.direct_meaning.specs.Memory.{slow_list}
use Rattle.prompt_semantics.specs.Prompt.{prompt_step, first_device}
use Rattle.run_laws.specs.StaysFitting.{refilled}
use Rattle.walk_program.specs.Reading.{nest_of}
use Rattle.walk_program.specs.Tree.{tree}
use Rattle.prompt_laws.specs.Rooms.{rooms_in}
use Rattle.prompt_meaning.specs.declared.device.Device.{Device}
use Rattle.prompt_meaning.specs.Held.{device_at}
use Rattle.prompt_meaning.specs.Runs.{StandsAt}
use Rattle.prompt_meaning.specs.Memrefs.{AreRooms}
use Rattle.prompt_meaning.specs.Takes.{EndsWithin}
use Rattle.prompt_meaning.proofs.Modules.{safe, stands, runs, fits_after}
use Rattle.prompt_meaning.proofs.prompt.run_prompt.Goals as goal

pub new-requires-2-clause-safe : goal.new-requires-2-clause-safe
new-requires-2-clause-safe c = safe c.args.module.now.inner c.module-module.result.now c.args.image.now c.module-module.ensures.value c.module-module.ensures.valid c.requires.fits _ _ c.as_slice-5.result.now c.in_ok-program.ensures.body c.in_ok-program.ensures.arguments c.as_slice-5.ensures

pub run-verdict-requires-clause-stands : goal.run-verdict-requires-clause-stands
run-verdict-requires-clause-stands c =
    let names = c.in_ok-program.program.names in
    let n = nest_of names (tree c.in_ok-program.program.body) in
    let are : AreRooms (rooms_in n) c.add_fasts.new.fasts.items =
    subst (λ ss. AreRooms (rooms_in (nest_of names (tree ss))) c.add_fasts.new.fasts.items) c.as_slice-3.ensures (c.in_ok-add_fasts.ensures names [] (subst (AreRooms []) (sym c.new-fasts.ensures.items) tt)) in
    let many = c.in_ok-outstanding.ensures.exact in
    record {
      rooms = rooms_in n;
      state = first_device c.args.image.now;
      at = stands c.args.module.now.inner c.module-module.result.now c.args.image.now c.module-module.ensures.value c.module-module.ensures.valid c.requires.fits n _ c.as_slice-5.result.now c.in_ok-program.ensures.body c.in_ok-program.ensures.arguments c.as_slice-5.ensures
          c.args.filler c.args.capacity c.in_ok-walk.walk.left c.in_ok-walk.ensures.left _ c.requires.work (to_z-of_z w64 c.args.filler c.ranges.filler) refl (omega (arith, many)) are
          (λ i. record { state = record { registers = c.in_ok-registers.ensures.values i; slow = (c.in_ok-slow.ensures ∙ ap slow_list c.as_slice.ensures) i }; halves = λ number h. []; live = 0; outstanding = c.in_ok-outstanding.ensures.items i; actions = 0; engine_steps = 0; peak = 0 });
    }

pub refill-requires : goal.refill-requires
refill-requires c =
    let old = ap length c.in_ok-slow.ensures in
    let copied = ap (λ ms. length (slow_list ms)) (c.in_ok-memrefs.ensures ∙ c.as_slice-2.ensures ∙ sym c.as_slice.ensures) in
    let now = ap length c.as_slice-6.ensures.value in
    omega (arith, old, copied, now, c.run-verdict.ensures.same.slow)

pub returns-clause-runs : goal.returns-clause-runs
returns-clause-runs c =
    let names = c.in_ok-program.program.names in
    let n = nest_of names (tree c.in_ok-program.program.body) in
    let are : AreRooms (rooms_in n) c.add_fasts.new.fasts.items =
    subst (λ ss. AreRooms (rooms_in (nest_of names (tree ss))) c.add_fasts.new.fasts.items) c.as_slice-3.ensures (c.in_ok-add_fasts.ensures names [] (subst (AreRooms []) (sym c.new-fasts.ensures.items) tt)) in
    let many = c.in_ok-outstanding.ensures.exact in
    let room : 65536 ≤ vec_capacity c.in_ok-outstanding.outstanding = omega (arith, many) in
    let filler = to_z-of_z w64 c.args.filler c.ranges.filler in
    let device : Device = record { registers = c.in_ok-registers.registers; slow = c.in_ok-slow.slow; fasts = c.add_fasts.new.fasts; outstanding = c.in_ok-outstanding.outstanding; filler = to_z w64 (of_z w64 c.args.filler); capacity = c.args.capacity; live = 0; actions = 0; engine_steps = 0; peak = 0 } in
    let first = first_device c.args.image.now in
    let at : StandsAt (rooms_in n) first c.in_ok-walk.walk.left device =
    stands c.args.module.now.inner c.module-module.result.now c.args.image.now c.module-module.ensures.value c.module-module.ensures.valid c.requires.fits n _ c.as_slice-5.result.now c.in_ok-program.ensures.body c.in_ok-program.ensures.arguments c.as_slice-5.ensures
    c.args.filler c.args.capacity c.in_ok-walk.walk.left c.in_ok-walk.ensures.left device c.requires.work filler refl room are
    (λ i. record { state = record { registers = c.in_ok-registers.ensures.values i; slow = (c.in_ok-slow.ensures ∙ ap slow_list c.as_slice.ensures) i }; halves = λ number h. []; live = 0; outstanding = c.in_ok-outstanding.ensures.items i; actions = 0; engine_steps = 0; peak = 0 }) in
    let ends = subst (λ g. EndsWithin (rooms_in n) c.run-verdict.result (folded (prompt_step g c.args.capacity) c.in_ok-walk.walk.left first) (device_at c.run-verdict.new.device)) filler (c.run-verdict.ensures.ends (rooms_in n) first at) in
    runs c.args.module.now.inner c.module-module.result.now c.args.image.now c.module-module.ensures.value c.module-module.ensures.valid c.requires.fits n _ c.as_slice-5.result.now c.in_ok-program.ensures.body c.in_ok-program.ensures.arguments c.as_slice-5.ensures
    c.args.filler c.args.capacity c.in_ok-walk.walk.left c.in_ok-walk.ensures.left c.run-verdict.result (device_at c.run-verdict.new.device) ends c.from_vec.result
    (c.from_vec.ensures ∙ c.refill.ensures ∙ (λ i. refilled ((c.in_ok-memrefs.ensures ∙ c.as_slice-2.ensures) i) (c.as_slice-6.ensures.value i)))

pub returns-clause-fits : goal.returns-clause-fits
returns-clause-fits c =
    let names = c.in_ok-program.program.names in
    let n = nest_of names (tree c.in_ok-program.program.body) in
    let are : AreRooms (rooms_in n) c.add_fasts.new.fasts.items =
    subst (λ ss. AreRooms (rooms_in (nest_of names (tree ss))) c.add_fasts.new.fasts.items) c.as_slice-3.ensures (c.in_ok-add_fasts.ensures names [] (subst (AreRooms []) (sym c.new-fasts.ensures.items) tt)) in
    let many = c.in_ok-outstanding.ensures.exact in
    let room : 65536 ≤ vec_capacity c.in_ok-outstanding.outstanding = omega (arith, many) in
    let filler = to_z-of_z w64 c.args.filler c.ranges.filler in
    let device : Device = record { registers = c.in_ok-registers.registers; slow = c.in_ok-slow.slow; fasts = c.add_fasts.new.fasts; outstanding = c.in_ok-outstanding.outstanding; filler = to_z w64 (of_z w64 c.args.filler); capacity = c.args.capacity; live = 0; actions = 0; engine_steps = 0; peak = 0 } in
    let first = first_device c.args.image.now in
    let at : StandsAt (rooms_in n) first c.in_ok-walk.walk.left device =
    stands c.args.module.now.inner c.module-module.result.now c.args.image.now c.module-module.ensures.value c.module-module.ensures.valid c.requires.fits n _ c.as_slice-5.result.now c.in_ok-program.ensures.body c.in_ok-program.ensures.arguments c.as_slice-5.ensures
    c.args.filler c.args.capacity c.in_ok-walk.walk.left c.in_ok-walk.ensures.left device c.requires.work filler refl room are
    (λ i. record { state = record { registers = c.in_ok-registers.ensures.values i; slow = (c.in_ok-slow.ensures ∙ ap slow_list c.as_slice.ensures) i }; halves = λ number h. []; live = 0; outstanding = c.in_ok-outstanding.ensures.items i; actions = 0; engine_steps = 0; peak = 0 }) in
    let ends = subst (λ g. EndsWithin (rooms_in n) c.run-verdict.result (folded (prompt_step g c.args.capacity) c.in_ok-walk.walk.left first) (device_at c.run-verdict.new.device)) filler (c.run-verdict.ensures.ends (rooms_in n) first at) in
    fits_after c.args.module.now.inner c.module-module.result.now c.args.image.now c.module-module.ensures.value c.module-module.ensures.valid c.requires.fits n _ c.as_slice-5.result.now c.in_ok-program.ensures.body c.in_ok-program.ensures.arguments c.as_slice-5.ensures
    c.args.filler c.args.capacity c.in_ok-walk.walk.left c.in_ok-walk.ensures.left c.run-verdict.result (device_at c.run-verdict.new.device) ends c.from_vec.result
    (c.from_vec.ensures ∙ c.refill.ensures ∙ (λ i. refilled ((c.in_ok-memrefs.ensures ∙ c.as_slice-2.ensures) i) (c.as_slice-6.ensures.value i)))
