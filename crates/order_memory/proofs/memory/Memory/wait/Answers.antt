use Rattle.std.proofs.Common.{◌∙◌, sym, ap, subst}
use Rattle.std.specs.Prelude.{Some}
use Rattle.prompt_semantics.specs.Device.{record_of}
use Rattle.transfer_records.specs.Found.{Finds}
use Rattle.order_memory.proofs.Waits.{wait_idle, wait_shape, wait_passes, wait_found, wait_finished}
use Rattle.order_memory.proofs.memory.Memory.wait.Goals as goal

pub returns-in_default-clause-follows : goal.returns-in_default-clause-follows
returns-in_default-clause-follows c = λ rooms x t w. wait_idle rooms x _ t c.args.tag c.args.count (ap (record_of c.args.tag) (sym c.as_slice.ensures.value) ∙ c.in_default.ensures.1)

pub returns-then-index-count-clause-follows : goal.returns-then-index-count-clause-follows
returns-then-index-count-clause-follows c = λ rooms x t w.
    (let f = subst (λ ts. Finds ts c.args.tag (Some c.in-Some.place)) c.as_slice.ensures.value c.in-Some.ensures in
    wait_shape rooms x _ t c.args.tag c.args.count _ (wait_found _ c.args.tag c.in-Some.place c.index.result.now f c.index.ensures) c.if-index-count.true)

pub accept-requires-clause-tied : goal.accept-requires-clause-tied
accept-requires-clause-tied c =
    let y = c.requires in
    let f = subst (λ ts. Finds ts c.args.tag (Some c.in-Some.place)) c.as_slice.ensures.value c.in-Some.ensures in
    let g = wait_finished y.0 y.1 _ y.2 c.args.tag c.args.count y.3 c.index.result.now (wait_found _ c.args.tag c.in-Some.place c.index.result.now f c.index.ensures) c.if-index-count.false in
    (y.0, y.1, g.flight, y.2, g.found, g.done, g.out)

pub accept-requires-clause-place : goal.accept-requires-clause-place
accept-requires-clause-place c = (subst (λ ts. Finds ts c.args.tag (Some c.in-Some.place)) c.as_slice.ensures.value c.in-Some.ensures).1

pub accept-requires-clause-left : goal.accept-requires-clause-left
accept-requires-clause-left c = (subst (λ ts. Finds ts c.args.tag (Some c.in-Some.place)) c.as_slice.ensures.value c.in-Some.ensures).3

pub returns-clause-follows : goal.returns-clause-follows
returns-clause-follows c = λ rooms x t w.
    (let f = subst (λ ts. Finds ts c.args.tag (Some c.in-Some.place)) c.as_slice.ensures.value c.in-Some.ensures in
    let g = wait_finished rooms x _ t c.args.tag c.args.count w c.index.result.now (wait_found _ c.args.tag c.in-Some.place c.index.result.now f c.index.ensures) c.if-index-count.false in
    (_, wait_passes rooms x _ t c.args.tag c.args.count g.flight g.found g.counted, c.accept.ensures.tied rooms x g.flight t g.found g.out))
