use Rattle.std.proofs.Common.{subst, sym, arith}
use Rattle.direct_meaning.specs.Static.{Env}
use Rattle.walk_actions.specs.Looked.{env_of}
use Rattle.nest_walk.specs.Ready.{Opened}
use Rattle.nest_walk.proofs.Steps.{fast_changed, tags_changed}
use Rattle.nest_walk.proofs.position.Position.change.Goals as goal

pub overflow_add-fasts : goal.overflow_add-fasts
overflow_add-fasts c =
    let fits = (rw c.in-Fast.is at c.requires.fits) in
    omega (arith, fits.fasts, c.counts-fasts.ensures.fasts)

pub overflow_add-tags : goal.overflow_add-tags
overflow_add-tags c =
    let fits = (rw c.in-Tags.is at c.requires.fits) in
    omega (arith, fits.tags, c.counts-fasts.ensures.tags)

pub returns-in-Fast : goal.returns-in-Fast
returns-in-Fast c = rw c.in-Fast.is (subst (λ (e : Env). Opened c.args.self.now c.place.new.self e) (fast_changed (env_of c.args.self.now.bindings) _ _ _ (sym c.counts-fasts.ensures.fasts) (sym c.counts-fasts.ensures.tags)) c.place.ensures)

pub returns-in-Tags : goal.returns-in-Tags
returns-in-Tags c = rw c.in-Tags.is (subst (λ (e : Env). Opened c.args.self.now c.place-in-Tags.new.self e) (tags_changed (env_of c.args.self.now.bindings) _ _ _ c.in-Tags.count (sym c.counts-fasts.ensures.fasts) (sym c.counts-fasts.ensures.tags)) c.place-in-Tags.ensures)
