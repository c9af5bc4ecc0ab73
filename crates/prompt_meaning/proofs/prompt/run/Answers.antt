use Rattle.std.proofs.Common.{◌≡◌, ◌∙◌, sym, subst, Ok, Err}
use Rattle.walk_actions.specs.Meant.{meant}
use Rattle.direct_meaning.specs.Direct.{End, Fault}
use Rattle.run_parts.specs.declared.effect.Effect.TheVariants as effect
use Rattle.prompt_meaning.specs.declared.device.Device.{Device}
use Rattle.prompt_meaning.specs.Held.{device_at}
use Rattle.prompt_meaning.specs.Runs.{StandsAt}
use Rattle.prompt_meaning.proofs.Loop.{settles_here, few_here, reached, reaches_here, within, ok_is, err_is, stands_next, folds, ended, faulted, same_twice, settles, effect_is, fold_with, fold_is, none_left}
use Rattle.prompt_meaning.proofs.prompt.run.Goals as goal

pub settle-effect-requires-clause-can : goal.settle-effect-requires-clause-can
settle-effect-requires-clause-can c =
    let d = c.loop-action.device in
    let a = meant c.loop-action.walk.names c.next.new.self.subscripts c.in-Some.action in
    let s = c.loop-action.invariant.stands c.requires.stands.rooms c.requires.stands.state c.requires.stands.at in
    settles c.loop-action.walk.names d d c.in-Some.action c.next.new.self.subscripts c.subscripts.result.now c.loop-action.invariant.names c.subscripts.ensures
    (settles_here c.requires.stands.rooms s.0 c.loop-action.walk.left c.next.new.self.left a d effect.Nothing c.in-Some.ensures.taken s.1)

pub act-requires-clause-reached : goal.act-requires-clause-reached
act-requires-clause-reached c =
    let d = c.loop-action.device in
    let e : Device = record d { registers = c.settle-effect.new.self } in
    let back : e ≡ d = λ i. record d { registers = c.settle-effect.ensures.same i } in
    let a = meant c.loop-action.walk.names c.next.new.self.subscripts c.in-Some.action in
    let s = c.loop-action.invariant.stands c.requires.stands.rooms c.requires.stands.state c.requires.stands.at in
    let st = subst (StandsAt c.requires.stands.rooms s.0 c.loop-action.walk.left) (sym back) s.1 in
    let is = effect_is c.loop-action.walk.names d e c.in-Some.action c.next.new.self.subscripts c.subscripts.result.now c.loop-action.invariant.names c.subscripts.ensures c.settle-effect.result back c.settle-effect.ensures.effect in
    reached c.requires.stands.rooms s.0 c.loop-action.walk.left c.next.new.self.left a e c.settle-effect.result c.in-Some.ensures.taken st is

pub act-requires-clause-few : goal.act-requires-clause-few
act-requires-clause-few c =
    let d = c.loop-action.device in
    let e : Device = record d { registers = c.settle-effect.new.self } in
    let back : e ≡ d = λ i. record d { registers = c.settle-effect.ensures.same i } in
    let a = meant c.loop-action.walk.names c.next.new.self.subscripts c.in-Some.action in
    let s = c.loop-action.invariant.stands c.requires.stands.rooms c.requires.stands.state c.requires.stands.at in
    let st = subst (StandsAt c.requires.stands.rooms s.0 c.loop-action.walk.left) (sym back) s.1 in
    let is = effect_is c.loop-action.walk.names d e c.in-Some.action c.next.new.self.subscripts c.subscripts.result.now c.loop-action.invariant.names c.subscripts.ensures c.settle-effect.result back c.settle-effect.ensures.effect in
    few_here c.requires.stands.rooms s.0 c.loop-action.walk.left c.next.new.self.left a e c.settle-effect.result c.in-Some.ensures.taken st is

pub returns-in-Err-clause-ends : goal.returns-in-Err-clause-ends
returns-in-Err-clause-ends c = λ rooms y at.
    (let d = c.loop-action.device in
    let e : Device = record d { registers = c.settle-effect.new.self } in
    let back : e ≡ d = λ i. record d { registers = c.settle-effect.ensures.same i } in
    let a = meant c.loop-action.walk.names c.next.new.self.subscripts c.in-Some.action in
    let s = c.loop-action.invariant.stands rooms y at in
    let st = subst (StandsAt rooms s.0 c.loop-action.walk.left) (sym back) s.1 in
    let is = effect_is c.loop-action.walk.names d e c.in-Some.action c.next.new.self.subscripts c.subscripts.result.now c.loop-action.invariant.names c.subscripts.ensures c.settle-effect.result back c.settle-effect.ensures.effect in
    let reaches = reaches_here rooms s.0 c.loop-action.walk.left c.next.new.self.left a e c.settle-effect.result c.in-Some.ensures.taken st is in
    let takes = within rooms s.0 c.loop-action.walk.left c.next.new.self.left a e c.settle-effect.result c.in-Some.ensures.taken st is (Err c.in-Err.kind) (device_at c.act.new.self) (c.in-Err.ensures.takes rooms st.are reaches) in
    let o = err_is rooms _ c.in-Err.kind (device_at c.act.new.self) takes in
    faulted rooms _ c.in-Err.kind o.0 (device_at c.act.new.self)
    (s.2 ∙ fold_is e.filler _ e.capacity _ c.loop-action.walk.left s.0 _ c.loop-action.invariant.same.filler c.loop-action.invariant.same.capacity
    (folds rooms s.0 c.loop-action.walk.left c.next.new.self.left a e c.settle-effect.result c.in-Some.ensures.taken st (Fault c.in-Err.kind o.0) o.1)) o.2)

pub loop-action-preserved : goal.loop-action-preserved
loop-action-preserved c =
    let d = c.loop-action.device in
    let e : Device = record d { registers = c.settle-effect.new.self } in
    let back : e ≡ d = λ i. record d { registers = c.settle-effect.ensures.same i } in
    let a = meant c.loop-action.walk.names c.next.new.self.subscripts c.in-Some.action in
    let is = effect_is c.loop-action.walk.names d e c.in-Some.action c.next.new.self.subscripts c.subscripts.result.now c.loop-action.invariant.names c.subscripts.ensures c.settle-effect.result back c.settle-effect.ensures.effect in
    let next = c.in_default-act.ensures.same in
    record {
      names = next.names ∙ (λ i. (c.settle-effect.ensures.same i).names) ∙ c.loop-action.invariant.names ∙ sym c.in-Some.ensures.names;
      same = same_twice c.args.device.now d c.act.new.self c.loop-action.invariant.same (record { names = next.names ∙ (λ i. (c.settle-effect.ensures.same i).names); slow = next.slow; filler = next.filler; capacity = next.capacity; records = next.records });
      stands = λ rooms y at.
          (let s = c.loop-action.invariant.stands rooms y at in
          let st = subst (StandsAt rooms s.0 c.loop-action.walk.left) (sym back) s.1 in
          let reaches = reaches_here rooms s.0 c.loop-action.walk.left c.next.new.self.left a e c.settle-effect.result c.in-Some.ensures.taken st is in
          let takes = within rooms s.0 c.loop-action.walk.left c.next.new.self.left a e c.settle-effect.result c.in-Some.ensures.taken st is (Ok tt) (device_at c.act.new.self) (c.in_default-act.ensures.takes rooms st.are reaches) in
          let o = ok_is rooms _ tt (device_at c.act.new.self) takes in (
            o.0,
            stands_next rooms s.0 c.loop-action.walk.left c.next.new.self.left a e c.settle-effect.result c.in-Some.ensures.taken st is c.act.new.self o.0 o.1 o.2 (c.in_default-act.ensures.rooms rooms st.are) next,
            s.2 ∙ fold_with e.filler _ e.capacity _ c.loop-action.walk.left c.next.new.self.left s.0 o.0 c.loop-action.invariant.same.filler c.loop-action.invariant.same.capacity
                (folds rooms s.0 c.loop-action.walk.left c.next.new.self.left a e c.settle-effect.result c.in-Some.ensures.taken st (End o.0) o.1),
          ));
    }

pub returns-clause-ends : goal.returns-clause-ends
returns-clause-ends c = λ rooms y at.
    (let s = c.loop-action.invariant.stands rooms y at in
    ended rooms _ s.0 (device_at c.loop-action.device) (s.2 ∙ none_left _ _ c.loop-action.walk.left s.0 c.in_default.ensures.was) s.1.agrees)
