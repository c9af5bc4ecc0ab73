use Rattle.std.proofs.Common.{◌≡◌, ◌∙◌, sym, subst}
use Rattle.walk_actions.specs.Meant.{meant}
use Rattle.direct_meaning.specs.Direct.{End, Fault}
use Rattle.run_parts.specs.declared.effect.Effect.TheVariants as effect
use Rattle.prompt_meaning.proofs.Loop.{fold_with, fold_is, none_left}
use Rattle.overlap_runner.specs.declared.device.Device.{Device}
use Rattle.overlap_runner.specs.Held.{shape_after}
use Rattle.overlap_runner.specs.Runs.{StandsAt}
use Rattle.overlap_runner.proofs.Loop.{settles_here, ready, done, faulted_here, stands_next, folds, ended, stopped, same_twice, settles, effect_is}
use Rattle.overlap_runner.proofs.run.take_all.Goals as goal

pub settle-effect-requires-clause-can : goal.settle-effect-requires-clause-can
settle-effect-requires-clause-can g c =
    let d = c.loop-action.device in
    let a = meant c.loop-action.walk.names c.next.new.self.subscripts c.in-Some.action in
    let k = c.requires.stands in
    let s = c.loop-action.invariant.stands k.rooms k.shape k.state k.at in
    settles c.loop-action.walk.names d d c.in-Some.action c.next.new.self.subscripts c.subscripts.result.now c.loop-action.invariant.names c.subscripts.ensures
    (settles_here _ k.rooms s.0 s.1 c.loop-action.walk.left c.next.new.self.left a d effect.Nothing c.in-Some.ensures.taken s.2)

pub act-requires-clause-ready : goal.act-requires-clause-ready
act-requires-clause-ready g c =
    let d = c.loop-action.device in
    let e : Device = record d { registers = c.settle-effect.new.self } in
    let back : e ≡ d = λ i. record d { registers = c.settle-effect.ensures.same i } in
    let a = meant c.loop-action.walk.names c.next.new.self.subscripts c.in-Some.action in
    let k = c.requires.stands in
    let s = c.loop-action.invariant.stands k.rooms k.shape k.state k.at in
    let st = subst (StandsAt _ k.rooms s.0 s.1 c.loop-action.walk.left) (sym back) s.2 in
    let is = effect_is c.loop-action.walk.names d e c.in-Some.action c.next.new.self.subscripts c.subscripts.result.now c.loop-action.invariant.names c.subscripts.ensures c.settle-effect.result back c.settle-effect.ensures.effect in
    (k.rooms, s.0, _, ready _ k.rooms s.0 s.1 c.loop-action.walk.left c.next.new.self.left a e c.settle-effect.result c.in-Some.ensures.taken st is)

pub returns-in-Err-clause-comes : goal.returns-in-Err-clause-comes
returns-in-Err-clause-comes g c = λ rooms shape y at.
    (let d = c.loop-action.device in
    let e : Device = record d { registers = c.settle-effect.new.self } in
    let back : e ≡ d = λ i. record d { registers = c.settle-effect.ensures.same i } in
    let a = meant c.loop-action.walk.names c.next.new.self.subscripts c.in-Some.action in
    let s = c.loop-action.invariant.stands rooms shape y at in
    let st = subst (StandsAt _ rooms s.0 s.1 c.loop-action.walk.left) (sym back) s.2 in
    let is = effect_is c.loop-action.walk.names d e c.in-Some.action c.next.new.self.subscripts c.subscripts.result.now c.loop-action.invariant.names c.subscripts.ensures c.settle-effect.result back c.settle-effect.ensures.effect in
    let can = ready _ rooms s.0 s.1 c.loop-action.walk.left c.next.new.self.left a e c.settle-effect.result c.in-Some.ensures.taken st is in
    let o = faulted_here _ rooms s.0 s.1 c.loop-action.walk.left c.next.new.self.left a e c.settle-effect.result c.in-Some.ensures.taken st is c.in-Err.kind c.act.new.self (c.in-Err.ensures.follows rooms s.0 _ can) in
    stopped _ s.0 c.act.new.self o.0 o.2 _ c.in-Err.kind
    (s.3 ∙ fold_is e.filler _ e.capacity _ c.loop-action.walk.left s.1 _ c.loop-action.invariant.same.filler c.loop-action.invariant.same.capacity
    (folds _ rooms s.0 s.1 c.loop-action.walk.left c.next.new.self.left a e c.settle-effect.result c.in-Some.ensures.taken st (Fault c.in-Err.kind o.0) o.1)))

pub loop-action-preserved : goal.loop-action-preserved
loop-action-preserved g c =
    let d = c.loop-action.device in
    let e : Device = record d { registers = c.settle-effect.new.self } in
    let back : e ≡ d = λ i. record d { registers = c.settle-effect.ensures.same i } in
    let a = meant c.loop-action.walk.names c.next.new.self.subscripts c.in-Some.action in
    let is = effect_is c.loop-action.walk.names d e c.in-Some.action c.next.new.self.subscripts c.subscripts.result.now c.loop-action.invariant.names c.subscripts.ensures c.settle-effect.result back c.settle-effect.ensures.effect in
    let next = c.in_default-act.ensures.same in
    record {
      names = next.names ∙ (λ i. (c.settle-effect.ensures.same i).names) ∙ c.loop-action.invariant.names ∙ sym c.in-Some.ensures.names;
      same = same_twice c.args.device.now d c.act.new.self c.loop-action.invariant.same (record { names = next.names ∙ (λ i. (c.settle-effect.ensures.same i).names); filler = next.filler; capacity = next.capacity });
      stands = λ rooms shape y at.
          (let s = c.loop-action.invariant.stands rooms shape y at in
          let st = subst (StandsAt _ rooms s.0 s.1 c.loop-action.walk.left) (sym back) s.2 in
          let can = ready _ rooms s.0 s.1 c.loop-action.walk.left c.next.new.self.left a e c.settle-effect.result c.in-Some.ensures.taken st is in
          let o = done _ rooms s.0 s.1 c.loop-action.walk.left c.next.new.self.left a e c.settle-effect.result c.in-Some.ensures.taken st is c.act.new.self (c.in_default-act.ensures.follows rooms s.0 _ can) in (
            shape_after s.0 a,
            o.0,
            stands_next _ rooms s.0 s.1 c.loop-action.walk.left c.next.new.self.left a e c.settle-effect.result c.in-Some.ensures.taken st c.act.new.self o.0 o.1 o.2 next,
            s.3 ∙ fold_with e.filler _ e.capacity _ c.loop-action.walk.left c.next.new.self.left s.1 o.0 c.loop-action.invariant.same.filler c.loop-action.invariant.same.capacity
                (folds _ rooms s.0 s.1 c.loop-action.walk.left c.next.new.self.left a e c.settle-effect.result c.in-Some.ensures.taken st (End o.0) o.1),
          ));
    }

pub returns-clause-comes : goal.returns-clause-comes
returns-clause-comes g c = λ rooms shape y at.
    (let s = c.loop-action.invariant.stands rooms shape y at in
    ended _ s.0 c.loop-action.device s.1 s.2.at _ (s.3 ∙ none_left _ _ c.loop-action.walk.left s.1 c.in_default.ensures.was))
