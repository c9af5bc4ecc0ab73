use Rattle.std.proofs.Common.{[], ◌∷◌, ◌++◌, length, sym, subst, ◌∙◌}
use Rattle.placement_stage.specs.Places.{spot_of}
use Rattle.plan_tests.specs.Testing.{IsSettled}
use Rattle.hoisted_sites.specs.Hoisting.{module_of, text_of, site_of}
use Rattle.placed_intervals.specs.Untested.{fitted_at}
use Rattle.copy_place.specs.Planning.{IsSettledAs}
use Rattle.copy_place.proofs.Settling.{is_tried, left_as, placed_as, step_for}
use Rattle.copy_place.proofs.settle.tried.Goals as goal

pub returns-in-Some-clause-tried : goal.returns-in-Some-clause-tried
returns-in-Some-clause-tried c = λ blocks steps t aside.
    let a = c.args.asking.now in
    let m = c.args.memref.now in
    let s = spot_of c.args.path.now.at.steps in
    let x = step_for a m c.args.ty.now s c.args.site (length steps) in
    let tried = is_tried a m c.args.ty.now s c.args.site c.planned_are_described.ensures c.requires.site c.number.result c.in_ok-made.made steps c.as_slice-uses.result.now c.requires.typed c.in_ok-made.ensures (c.number.ensures ∙ t.number) c.as_slice-uses.ensures.value aside in
    let k = c.in_ok-cause.ensures.tried a.options (module_of a) c.requires.plain blocks s steps x t tried in
    left_as a m c.args.ty.now s c.args.site (blocks ++ s ∷ []) steps c.in-Some.cause c.tried.new.self (subst (λ o. IsSettled a.options (module_of a) (blocks ++ s ∷ []) steps x o c.tried.new.self) c.in-Some.is k)

pub returns-in-None-clause-tried : goal.returns-in-None-clause-tried
returns-in-None-clause-tried c = λ blocks steps t aside.
    let a = c.args.asking.now in
    let m = c.args.memref.now in
    let s = spot_of c.args.path.now.at.steps in
    let x = step_for a m c.args.ty.now s c.args.site (length steps) in
    let e = c.number.ensures ∙ t.number in
    let tried = is_tried a m c.args.ty.now s c.args.site c.planned_are_described.ensures c.requires.site c.number.result c.in_ok-made.made steps c.as_slice-uses.result.now c.requires.typed c.in_ok-made.ensures e c.as_slice-uses.ensures.value aside in
    let k = c.in_ok-cause.ensures.tried a.options (module_of a) c.requires.plain blocks s steps x t tried in
    subst (λ out. IsSettledAs a (blocks ++ s ∷ []) steps (fitted_at a.options (module_of a).args (text_of a) steps m c.args.ty.now (site_of c.args.site)) out c.tried.new.self) (sym c.staged.ensures)
    (placed_as a m c.args.ty.now s c.args.site c.requires.site (blocks ++ s ∷ []) steps c.in_ok-made.made c.number.result c.tried.new.self e c.in_ok-made.ensures (subst (λ o. IsSettled a.options (module_of a) (blocks ++ s ∷ []) steps x o c.tried.new.self) c.in-None.is k))
