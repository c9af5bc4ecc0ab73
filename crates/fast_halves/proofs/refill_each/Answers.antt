use Rattle.std.proofs.Common.{◌≡◌, length, replicate, arith, rules, refl, ap, ◌∙◌, length-set, to_z, of_z, w64}
use Rattle.std.proofs.lemmas.List.Elements.{All-set}
use Rattle.std.proofs.lemmas.List.{length-replicate}
use Rattle.std.proofs.lemmas.Int.{to_z-of_z}
use Rattle.fast_halves.specs.Shape.{here, shape, IsHereWith}
use Rattle.fast_halves.proofs.Shapes.{is_here, long_here, here_with, filled_more, all_filled}
use Rattle.fast_halves.proofs.refill_each.Goals as goal

pub refill-requires : goal.refill-requires
refill-requires c = is_here c.args.cells _ (c.loop-half.invariant.all_here c.loop-half.half c.index-halves-half.result (omega arith))

pub loop-half-init : goal.loop-half-init
loop-half-init c = record { long = refl; all_here = c.requires; filled = λ k lt. absurd (omega arith) }

pub loop-half-preserved : goal.loop-half-preserved
loop-half-preserved c =
    let halves = c.loop-half.halves in
    let half = c.loop-half.half in
    let told = c.refill.ensures in
    let n : length told.0 ≡ c.args.cells = long_here c.args.cells _ told.0 (c.loop-half.invariant.all_here half c.index-halves-half.result (omega arith)) told.1 in
    let now : shape c.refill.new.self ≡ here (replicate c.args.cells (to_z w64 (of_z w64 c.args.filler))) = told.2 ∙ (λ k. here (replicate (n k) (to_z w64 (of_z w64 c.args.filler)))) in
    record {
      long = length-set halves half c.refill.new.self ∙ c.loop-half.invariant.long;
      all_here = All-set (IsHereWith c.args.cells) halves half c.refill.new.self (here_with c.args.cells c.refill.new.self _ now (length-replicate c.args.cells _)) c.loop-half.invariant.all_here;
      filled = filled_more halves half c.refill.new.self _ (omega arith) now c.loop-half.invariant.filled;
    }

pub returns-clause-filled : goal.returns-clause-filled
returns-clause-filled c = all_filled _ _ _ c.loop-half.invariant.long (λ k lt. c.loop-half.invariant.filled k (omega arith) ∙ ap (λ z. here (replicate c.args.cells z)) (to_z-of_z w64 c.args.filler (search rules)))

pub returns-clause-here : goal.returns-clause-here
returns-clause-here c = c.loop-half.invariant.all_here
