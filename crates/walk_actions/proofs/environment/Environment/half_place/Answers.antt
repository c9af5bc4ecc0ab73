use Rattle.std.proofs.Common.{rules, ◌≤◌, ℕ, map, get_or, refl, sym, ap, ◌∙◌, arith, subst, All}
use Rattle.walk_actions.specs.Looked.{env_of}
use Rattle.walk_actions.specs.Values.{value_in, use_of, HasValue}
use Rattle.std.proofs.lemmas.Int.{to_z-of_z}
use Rattle.std.proofs.lemmas.List.Elements.{All-drop}
use mir.Val.{SFits}
use mir.Syntax.{w64}
use Rattle.affine_expr.specs.declared.expr.Expr.{Expr}
use Rattle.direct_meaning.specs.Static.{cell_in, within}
use Rattle.walk_actions.proofs.Values.{result_at, rest_is}
use Rattle.walk_actions.proofs.Elements.{all_valued, half_is}
use Rattle.walk_actions.proofs.environment.Environment.half_place.Goals as goal

pub value-subscript-requires-clause-safe : goal.value-subscript-requires-clause-safe
value-subscript-requires-clause-safe c =
    result_at c.args.self.now c.args.at.now 0 c.index-results-0.result c.requires.safe (omega (arith, c.requires.rank, c.requires.fast.has_halves)) (c.index-results-0.is ∙ ap (λ xs. get_or xs 0 c.index-results-0.result) c.as_slice-results.ensures)

pub cell-requires-clause-sizes : goal.cell-requires-clause-sizes
cell-requires-clause-sizes c =
    let P : ℕ → Type 0 = λ n. 1 ≤ n in
    subst (All P) (sym (rest_is c.args.ty.now.sizes c.as_slice-sizes.result.now _ c.as_slice-sizes.ensures refl)) (All-drop P 1 c.args.ty.now.sizes c.requires.sizes)

pub cell-requires-clause-safe : goal.cell-requires-clause-safe
cell-requires-clause-safe c =
    let P : Expr → Type 0 = HasValue (env_of c.args.self.now) (use_of c.args.self.now c.args.at.now) in
    subst (All P) (sym (rest_is c.args.at.now.map.results c.as_slice-results.result.now _ c.as_slice-results.ensures refl)) (All-drop P 1 c.args.at.now.map.results (all_valued c.args.self.now c.args.at.now c.requires.safe))

pub returns-in-Some-cell-clause-value : goal.returns-in-Some-cell-clause-value
returns-in-Some-cell-clause-value c =
    let f : SFits w64 c.value-subscript.result = search rules in
    let e = env_of c.args.self.now in
    let at = use_of c.args.self.now c.args.at.now in
    let half = (simp to_z-of_z at c.in-Some.ensures.value) in
    half_is c.args.number c.args.ty.now.sizes e at c.index-results-0.result _ _ (omega (arith, c.requires.fast.has_halves)) (omega (arith, c.requires.rank, c.requires.fast.has_halves)) (c.index-results-0.is ∙ ap (λ xs. get_or xs 0 c.index-results-0.result) c.as_slice-results.ensures)
    (half ∙ (λ i. within (c.value-subscript.ensures.value i) (get_or (c.as_slice-sizes.ensures i) 0 0)))
    (c.in-Some-cell.ensures.value ∙ (λ i. cell_in (rest_is c.args.ty.now.sizes c.as_slice-sizes.result.now _ c.as_slice-sizes.ensures refl i) (map (value_in e at) (rest_is c.args.at.now.map.results c.as_slice-results.result.now _ c.as_slice-results.ensures refl i))))

pub returns-in-None-clause-value : goal.returns-in-None-clause-value
returns-in-None-clause-value c =
    let f : SFits w64 c.value-subscript.result = search rules in
    let e = env_of c.args.self.now in
    let at = use_of c.args.self.now c.args.at.now in
    let half = (simp to_z-of_z at c.in-Some.ensures.value) in
    half_is c.args.number c.args.ty.now.sizes e at c.index-results-0.result _ _ (omega (arith, c.requires.fast.has_halves)) (omega (arith, c.requires.rank, c.requires.fast.has_halves)) (c.index-results-0.is ∙ ap (λ xs. get_or xs 0 c.index-results-0.result) c.as_slice-results.ensures)
    (half ∙ (λ i. within (c.value-subscript.ensures.value i) (get_or (c.as_slice-sizes.ensures i) 0 0)))
    (c.in-None.ensures.value ∙ (λ i. cell_in (rest_is c.args.ty.now.sizes c.as_slice-sizes.result.now _ c.as_slice-sizes.ensures refl i) (map (value_in e at) (rest_is c.args.at.now.map.results c.as_slice-results.result.now _ c.as_slice-results.ensures refl i))))

pub returns-in_default-clause-value : goal.returns-in_default-clause-value
returns-in_default-clause-value c =
    let f : SFits w64 c.value-subscript.result = search rules in
    let e = env_of c.args.self.now in
    let at = use_of c.args.self.now c.args.at.now in
    let half = (simp to_z-of_z at c.in_default.ensures.value) in
    half_is c.args.number c.args.ty.now.sizes e at c.index-results-0.result _ _ (omega (arith, c.requires.fast.has_halves)) (omega (arith, c.requires.rank, c.requires.fast.has_halves)) (c.index-results-0.is ∙ ap (λ xs. get_or xs 0 c.index-results-0.result) c.as_slice-results.ensures)
    (half ∙ (λ i. within (c.value-subscript.ensures.value i) (get_or (c.as_slice-sizes.ensures i) 0 0)))
    refl
