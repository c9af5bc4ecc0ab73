use Rattle.std.proofs.Common.{◌≡◌, ◌<◌, not, ◌&&◌, true, length, sym, ap, subst, ◌∙◌}
use Rattle.std.proofs.lemmas.Result.{IfOk-at_ok}
use Rattle.placement_covers.specs.Law.{is_covered}
use Rattle.placement_stage.specs.Places.{spot_of}
use Rattle.access_region.specs.Finding.{covers_at}
use Rattle.std.specs.Prelude.{slice_get}
use Rattle.plan_laws.specs.Plan.{argument_number}
use Rattle.hoisted_sites.specs.Hoisting.{module_of, text_of}
use Rattle.placed_sites.proofs.Standing.{names_loop, argument_within, is_told}
use Rattle.placed_sites.proofs.placing.reads_in.Goals as goal

pub covers-requires-clause-path : goal.covers-requires-clause-path
covers-requires-clause-path c =
    let steps = c.args.site.now.at.steps in
    names_loop c.loops_are_named.ensures (text_of c.args.asking.now) (spot_of steps) steps c.requires.path.loop c.requires.path.path

pub covers-requires-clause-memref : goal.covers-requires-clause-memref
covers-requires-clause-memref c =
    let args = (module_of c.args.asking.now).args in
    let m = c.args.memref.now in
    let e = c.in_ok-number.ensures ∙ c.argument_number.ensures ∙ ap (λ l. argument_number l m) (c.as_slice.ensures ∙ ap (λ x. x.args) c.module.ensures.value) in
    subst (λ k. k < length args) (sym e) (argument_within args m c.args.ty.now c.requires.typed)

pub returns : goal.returns
returns c =
    let a = c.args.asking.now in
    let args = (module_of a).args in
    let m = c.args.memref.now in
    let steps = c.args.site.now.at.steps in
    let ds = c.args.site.now.region in
    let dma : a.options.dma ≡ true = cc in
    let e = c.in_ok-number.ensures ∙ c.argument_number.ensures ∙ ap (λ l. argument_number l m) (c.as_slice.ensures ∙ ap (λ x. x.args) c.module.ensures.value) in
    let covered = is_told c.loops_are_named.ensures args (text_of a) m c.args.ty.now (spot_of steps) ds steps c.in_ok-covered.covered c.requires.path.loop c.requires.path.path c.requires.typed
    (λ s arg there at. IfOk-at_ok (λ b. b ≡ covers_at args s arg.name ds) c.in_ok-covered.was (c.covers.ensures s arg there (ap (slice_get args) e ∙ at))) in
    ap not (covered ∙ ap (λ b. b && is_covered args (text_of a) m (spot_of steps) ds) (sym dma))
