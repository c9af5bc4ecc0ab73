use Rattle.std.proofs.Common.{rules, ◌≡◌, ◌<ℤ◌, pos, Ok, sym, ap, subst, refl, w64, SFits}
use Rattle.std.proofs.lemmas.Int.{to_z-of_z}
use Rattle.nest_domain.specs.Domains.{along_by}
use Rattle.nest_domain.specs.Gathered.{known_of, Becomes}
use Rattle.nest_domain.specs.Ready.{ReadyHeader, ranges_along}
use Rattle.nest_domain.specs.Steps.{header_of}
use Rattle.nest_domain.proofs.Taking.{set_ready, loop_as, ranges_as}
use Rattle.nest_domain.proofs.entering.along_step.Goals as goal

pub enter_loop-requires-clause-lower : goal.enter_loop-requires-clause-lower
enter_loop-requires-clause-lower c = (subst (λ s. ReadyHeader (header_of s) (known_of c.args.known.now).ranges) c.in-Round.is c.requires).0

pub enter_loop-requires-clause-upper : goal.enter_loop-requires-clause-upper
enter_loop-requires-clause-upper c = (subst (λ s. ReadyHeader (header_of s) (known_of c.args.known.now).ranges) c.in-Round.is c.requires).1

pub enter_loop-requires-clause-step : goal.enter_loop-requires-clause-step
enter_loop-requires-clause-step c =
    let f : SFits w64 c.in-Round.step = search rules in
    subst (λ z. pos 0 <ℤ z) (sym (to_z-of_z w64 c.in-Round.step f)) (subst (λ s. ReadyHeader (header_of s) (known_of c.args.known.now).ranges) c.in-Round.is c.requires).2

pub enter_condition-requires : goal.enter_condition-requires
enter_condition-requires c = set_ready (known_of c.args.known.now).ranges c.in-Given.set.now c.in-Given.operands.now (subst (λ s. ReadyHeader (header_of s) (known_of c.args.known.now).ranges) c.in-Given.is c.requires)

pub pass_plain-requires : goal.pass_plain-requires
pass_plain-requires c = subst (λ s. ReadyHeader (header_of s) (known_of c.args.known.now).ranges) c.in-Behind.is c.requires

pub returns-in-Round-clause-known : goal.returns-in-Round-clause-known
returns-in-Round-clause-known c =
    let f : SFits w64 c.in-Round.step = search rules in
    subst (λ s. Becomes (along_by (header_of s) c.args.needed (known_of c.args.known.now)) c.enter_loop.new.known c.enter_loop.result) (sym c.in-Round.is)
    (loop_as c.in-Round.var.now c.in-Round.lower.now c.in-Round.upper.now _ c.in-Round.step (known_of c.args.known.now) c.enter_loop.new.known c.enter_loop.result (to_z-of_z w64 c.in-Round.step f) c.enter_loop.ensures)

pub returns-in-Round-clause-ranges : goal.returns-in-Round-clause-ranges
returns-in-Round-clause-ranges c =
    let f : SFits w64 c.in-Round.step = search rules in
    ranges_as (header_of c.args.step.now) c.args.needed (known_of c.args.known.now) c.enter_loop.new.known c.enter_loop.result (
    subst (λ s. Becomes (along_by (header_of s) c.args.needed (known_of c.args.known.now)) c.enter_loop.new.known c.enter_loop.result) (sym c.in-Round.is)
    (loop_as c.in-Round.var.now c.in-Round.lower.now c.in-Round.upper.now _ c.in-Round.step (known_of c.args.known.now) c.enter_loop.new.known c.enter_loop.result (to_z-of_z w64 c.in-Round.step f) c.enter_loop.ensures))

pub returns-in-Given-clause-known : goal.returns-in-Given-clause-known
returns-in-Given-clause-known c = subst (λ s. Becomes (along_by (header_of s) c.args.needed (known_of c.args.known.now)) c.enter_condition.new.known c.enter_condition.result) (sym c.in-Given.is) c.enter_condition.ensures

pub returns-in-Given-clause-ranges : goal.returns-in-Given-clause-ranges
returns-in-Given-clause-ranges c = ranges_as (header_of c.args.step.now) c.args.needed (known_of c.args.known.now) c.enter_condition.new.known c.enter_condition.result (subst (λ s. Becomes (along_by (header_of s) c.args.needed (known_of c.args.known.now)) c.enter_condition.new.known c.enter_condition.result) (sym c.in-Given.is) c.enter_condition.ensures)

pub returns-in-Behind-clause-known : goal.returns-in-Behind-clause-known
returns-in-Behind-clause-known c = subst (λ s. Becomes (along_by (header_of s) c.args.needed (known_of c.args.known.now)) c.pass_plain.new.known c.pass_plain.result) (sym c.in-Behind.is) c.pass_plain.ensures

pub returns-in-Behind-clause-ranges : goal.returns-in-Behind-clause-ranges
returns-in-Behind-clause-ranges c = ranges_as (header_of c.args.step.now) c.args.needed (known_of c.args.known.now) c.pass_plain.new.known c.pass_plain.result (subst (λ s. Becomes (along_by (header_of s) c.args.needed (known_of c.args.known.now)) c.pass_plain.new.known c.pass_plain.result) (sym c.in-Behind.is) c.pass_plain.ensures)

pub returns-in-Except-clause-known : goal.returns-in-Except-clause-known
returns-in-Except-clause-known c = subst (λ s. along_by (header_of s) c.args.needed (known_of c.args.known.now) ≡ Ok (known_of c.args.known.now)) (sym c.in-Except.is) refl

pub returns-in-Except-clause-ranges : goal.returns-in-Except-clause-ranges
returns-in-Except-clause-ranges c = sym (ap (λ s. ranges_along (header_of s) (known_of c.args.known.now).ranges) c.in-Except.is)

pub returns-in-Past-clause-known : goal.returns-in-Past-clause-known
returns-in-Past-clause-known c = subst (λ s. along_by (header_of s) c.args.needed (known_of c.args.known.now) ≡ Ok (known_of c.args.known.now)) (sym c.in-Past.is) refl

pub returns-in-Past-clause-ranges : goal.returns-in-Past-clause-ranges
returns-in-Past-clause-ranges c = sym (ap (λ s. ranges_along (header_of s) (known_of c.args.known.now).ranges) c.in-Past.is)
