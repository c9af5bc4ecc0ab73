use Rattle.std.proofs.Common.{◌++◌, drop, refl, ap, ◌∙◌, subst, length, arith}
use Rattle.std.proofs.lemmas.List.{with_items_is}
use Rattle.std.proofs.lemmas.List.Elements.{All-append, All-take, All-drop}
use Rattle.tag_table.specs.Shapes.{IsIdle}
use Rattle.overlap_runner.specs.Preparation.{RunsPromptly}
use Rattle.overlap_runner.proofs.Begun.{outcome, run_done}
use Rattle.overlap_runner.proofs.prepared.Prepared.run.Goals as goal

pub close-requires-clause-tied : goal.close-requires-clause-tied
close-requires-clause-tied g c =
    let o = outcome _ _ _ _ _ _ _ c.self.invariant c.run_beside-verdict.result c.run_beside-verdict.new.device c.run_beside-verdict.ensures.ends in
    (o.shape, _, o.tied, refl)

pub close-requires-clause-engines : goal.close-requires-clause-engines
close-requires-clause-engines g c =
    let idle = IsIdle c.self.inside.bus.id in
    let new = c.run_beside-verdict.new.engines in
    let old = c.self.inside.engines in
    All-take idle old.len (new ++ drop (length new) old.items) (All-append idle new (drop (length new) old.items) c.run_beside-verdict.ensures.engines (All-drop idle (length new) old.items c.self.invariant.engines_idle))

pub returns : goal.returns
returns g c =
    let p = c.self.invariant in
    let o = outcome _ _ _ _ _ _ _ p c.run_beside-verdict.result c.run_beside-verdict.new.device c.run_beside-verdict.ensures.ends in
    let a = ap (λ l. length l) (c.close.ensures o.shape _ o.tied) in
    let b = ap (λ l. length l) o.tied.slow in
    let d = o.tied.sized in
    let e = p.words_are in
    let f = c.self.inside.words.ok.0 in
    let whole = with_items_is c.self.inside.words c.close.new.into (omega (arith, a, b, d, e, f)) in
    subst (λ r. RunsPromptly r c.run_beside-verdict.result record { memrefs = c.from_vec.result; symbols = c.self.inside.image.symbols }) c.self.view_is
    (run_done _ _ _ _ _ _ _ p c.run_beside-verdict.result c.run_beside-verdict.new.device c.from_vec.result c.as_slice.result.now c.run_beside-verdict.ensures.ends
    (λ shape y t. c.as_slice.ensures.value ∙ whole ∙ c.close.ensures shape y t) (c.from_vec.ensures ∙ c.refill.ensures))
