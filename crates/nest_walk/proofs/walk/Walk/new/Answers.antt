use Rattle.std.proofs.Common.{◌≡◌, [], sym, ap, ◌∙◌, subst}
use Rattle.direct_meaning.specs.Memory.{start_env}
use Rattle.walk_program.specs.Reading.{arguments_of}
use Rattle.nest_walk.specs.Standing.{Standing}
use Rattle.nest_walk.specs.Jobs.{Stand, stand_of, all_actions, jobs_at}
use Rattle.nest_walk.specs.Ready.{IsSound, room}
use Rattle.nest_walk.proofs.Steps.{begins, begin_sound, begin_left}
use Rattle.nest_walk.proofs.walk.Walk.new.Goals as goal

pub invariant_of-result : goal.invariant_of-result
invariant_of-result c =
    let rooms = c.in-Some.ensures ∙ ap room c.as_slice.ensures in
    let width = c.args.program.now.width in
    let at : c.in_ok-new.field-0 ≡ record { frames = []; rest = c.args.program.now.body; bindings = c.in_ok-environment.environment; subscripts = []; width = width; uses = width; capacity = room c.args.program.now.body } =
    c.in_ok-new.ensures ∙ (λ i. record { frames = []; rest = c.as_slice-4.ensures i; bindings = c.in_ok-environment.environment; subscripts = []; width = width; uses = width; capacity = rooms i }) in
    let there = begins _ c.in_ok-environment.environment c.args.program.now.names c.args.program.now.body _ width at (c.in_ok-environment.ensures.names ∙ c.as_slice-2.ensures)
    (c.in_ok-environment.ensures.env ∙ (λ i. start_env (arguments_of (c.as_slice-2.ensures i) (c.as_slice-3.ensures i)) c.args.symbols.now)) in
    subst IsSound (sym there) (begin_sound c.args.program.now.names c.args.program.now.body _ width [] c.requires.made.numbered c.requires.made.counted c.requires.safe)

pub returns : goal.returns
returns c =
    let rooms = c.in-Some.ensures ∙ ap room c.as_slice.ensures in
    let width = c.args.program.now.width in
    let at : c.in_ok-new.field-0 ≡ record { frames = []; rest = c.args.program.now.body; bindings = c.in_ok-environment.environment; subscripts = []; width = width; uses = width; capacity = room c.args.program.now.body } =
    c.in_ok-new.ensures ∙ (λ i. record { frames = []; rest = c.as_slice-4.ensures i; bindings = c.in_ok-environment.environment; subscripts = []; width = width; uses = width; capacity = rooms i }) in
    let there = begins _ c.in_ok-environment.environment c.args.program.now.names c.args.program.now.body _ width at (c.in_ok-environment.ensures.names ∙ c.as_slice-2.ensures)
    (c.in_ok-environment.ensures.env ∙ (λ i. start_env (arguments_of (c.as_slice-2.ensures i) (c.as_slice-3.ensures i)) c.args.symbols.now)) in
    record {
      names = ap (λ (p : Standing). p.bindings.names) at ∙ (c.in_ok-environment.ensures.names ∙ c.as_slice-2.ensures);
      left = ap (λ (s : Stand). all_actions (jobs_at s)) there ∙ begin_left c.args.program.now.names c.args.program.now.body _ width [];
    }
