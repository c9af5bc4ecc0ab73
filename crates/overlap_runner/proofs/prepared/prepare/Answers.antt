use Rattle.std.proofs.Common.{rules, refl, ap, ◌∙◌, subst, length}
use Rattle.direct_meaning.specs.Memory.{slow_list}
use Rattle.nest_walk.specs.Walked.{Begins}
use Rattle.walk_program.specs.Reading.{nest_of}
use Rattle.walk_program.specs.Tree.{tree}
use Rattle.prompt_laws.specs.Rooms.{rooms_in}
use Rattle.overlap_runner.specs.Preparation.{Begun}
use Rattle.overlap_runner.proofs.Begun.{safe, prepared}
use Rattle.overlap_runner.proofs.prepared.prepare.Goals as goal

pub new-requires-2-clause-safe : goal.new-requires-2-clause-safe
new-requires-2-clause-safe c = safe c.args.module.inner c.args.module.valid c.args.image c.requires.fits c.args.program.now c.requires.program c.as_slice-5.result.now c.as_slice-5.ensures

pub invariant_of-result : goal.invariant_of-result
invariant_of-result c =
    let p = c.args.program.now in
    prepared c.args.module.inner c.args.module.valid c.args.image c.requires.fits p c.requires.program _ _ _ _ _ _ _ _ _ refl refl
    (c.in_ok-registers.ensures.names ∙ c.as_slice-4.ensures) c.in_ok-registers.ensures.values
    (subst (λ zs. Begins p zs c.in_ok-walk.walk) c.as_slice-5.ensures c.in_ok-walk.ensures)
    (c.in_ok-words.ensures ∙ ap slow_list c.as_slice.ensures) (c.in_ok-memrefs.ensures ∙ c.as_slice-2.ensures)
    (c.in_ok-made.ensures.bus.0 ∙ ap (λ l. length l) c.as_slice-3.ensures.value) c.in_ok-made.ensures.bus.1
    (subst (λ ws. Begun c.in_ok-made.made.0 (rooms_in (nest_of p.names (tree p.body))) ws c.in_ok-made.made.1) c.as_slice-3.ensures.value (c.in_ok-made.ensures.memory p.names))
    c.in_ok-made.ensures.engines.0 c.in_ok-made.ensures.engines.1 (search rules)
