use Rattle.std.proofs.Common.{◌≡◌, ◌+◌, ◌-◌, ◌∷◌, ◌++◌, [], false, true, suc, map, length, refl, sym, ap, ◌∙◌, arith, append_assoc, append-nil}
use Rattle.std.proofs.lemmas.Result.{on_ok_weaker}
use Rattle.affine_ast.specs.Nest.{Nothing, nest, put_what}
use Rattle.affine_ast.specs.declared.stmt.What as what
use Rattle.loop_paths.specs.Found.{found_of}
use Rattle.loop_paths.specs.Walk.{found_in}
use Rattle.loop_paths.proofs.Walks.{here, deeper, first_alone, both_regions, none_of_plain, adding_goes_on, adding_ends}
use Rattle.loop_paths.proofs.paths.+paths.Goals as goal

pub add_one-returns-then-depth-eq0-clause-found : goal.add_one-returns-then-depth-eq0-clause-found
add_one-returns-then-depth-eq0-clause-found t c =
    let there = here c.args.trail.now.steps c.args.trail.now.round c.args.step.1 c.args.step.0 c.args.stmt.now.line c.args.stmt.now.what c.in-For.var c.in-For.lower c.in-For.upper c.in-For.step c.in-For.body c.in-For.is in
    on_ok_weaker c.add_here.result
    (λ e. e ∙ ap (λ l. map found_of c.args.out.now.items ++ l)
    (sym there ∙ ap (λ d. found_in d c.args.trail.now.steps c.args.trail.now.round c.args.step.1 c.args.step.0 (put_what c.args.stmt.now.what c.args.stmt.now.line Nothing)) (sym c.if-depth-eq0.true)))
    c.add_here.ensures

pub add_one-returns-else-depth-eq0-clause-found : goal.add_one-returns-else-depth-eq0-clause-found
add_one-returns-else-depth-eq0-clause-found t c =
    let inner : c.args.depth ≡ suc (c.args.depth - 1) = omega (arith, c.if-depth-eq0.false) in
    let there = deeper c.args.trail.now.steps c.args.trail.now.round c.args.step.1 c.args.step.0 c.args.stmt.now.line c.args.stmt.now.what (c.args.depth - 1) c.in-For.var c.in-For.lower c.in-For.upper c.in-For.step c.in-For.body c.in-For.is in
    on_ok_weaker c.add_body.result
    (λ e. e ∙ ap (λ l. map found_of c.args.out.now.items ++ l)
    (ap (λ ss. found_in (c.args.depth - 1) (c.args.trail.now.steps ++ c.args.step ∷ []) (c.args.trail.now.round ++ (length c.args.trail.now.steps + 1) ∷ []) false 0 (nest ss)) c.as_slice.ensures
    ∙ sym there
    ∙ ap (λ d. found_in d c.args.trail.now.steps c.args.trail.now.round c.args.step.1 c.args.step.0 (put_what c.args.stmt.now.what c.args.stmt.now.line Nothing)) (sym inner)))
    c.add_body.ensures.found

pub add_one-returns-in-None-clause-found : goal.add_one-returns-in-None-clause-found
add_one-returns-in-None-clause-found t c =
    c.in_ok-add_region-in-If.ensures.found
    ∙ ap (λ ss. map found_of c.args.out.now.items ++ found_in c.args.depth (c.args.trail.now.steps ++ c.args.step ∷ []) c.args.trail.now.round false 0 (nest ss)) c.as_slice-in-If.ensures
    ∙ ap (λ l. map found_of c.args.out.now.items ++ l)
    (sym (first_alone c.args.trail.now.steps c.args.trail.now.round c.args.step.1 c.args.step.0 c.args.stmt.now.line c.args.stmt.now.what c.args.depth c.in-If.set c.in-If.operands c.in-If.first (c.in-If.is ∙ ap (what.If c.in-If.set c.in-If.operands c.in-If.first) c.in-None.is)))

pub add_one-returns-in-Some-clause-found : goal.add_one-returns-in-Some-clause-found
add_one-returns-in-Some-clause-found t c =
    let there = both_regions c.args.trail.now.steps c.args.trail.now.round c.args.step.1 c.args.step.0 c.args.stmt.now.line c.args.stmt.now.what c.args.depth c.in-If.set c.in-If.operands c.in-If.first c.in-Some.other (c.in-If.is ∙ ap (what.If c.in-If.set c.in-If.operands c.in-If.first) c.in-Some.is) in
    let inner = c.args.trail.now.steps ++ c.args.step ∷ [] in
    on_ok_weaker c.add_region-in-Some.result
    (λ e.
    e
    ∙ (λ i.
    c.in_ok-add_region-in-If.ensures.found i
    ++ found_in c.args.depth ((c.in_ok-add_region-in-If.ensures.trail i).steps ++ c.args.step ∷ []) (c.in_ok-add_region-in-If.ensures.trail i).round true 0 (nest (c.as_slice-in-Some.ensures i)))
    ∙ ap (λ ss. (map found_of c.args.out.now.items ++ found_in c.args.depth inner c.args.trail.now.round false 0 (nest ss)) ++ found_in c.args.depth inner c.args.trail.now.round true 0 (nest c.in-Some.other))
    c.as_slice-in-If.ensures
    ∙ append_assoc (map found_of c.args.out.now.items) (found_in c.args.depth inner c.args.trail.now.round false 0 (nest c.in-If.first)) (found_in c.args.depth inner c.args.trail.now.round true 0 (nest c.in-Some.other))
    ∙ ap (λ l. map found_of c.args.out.now.items ++ l) (sym there))
    c.add_region-in-Some.ensures.found

pub add_one-returns-in_default : goal.add_one-returns-in_default
add_one-returns-in_default t c = record {
  found =
      sym (append-nil (map found_of c.args.out.now.items))
      ∙ ap (λ l. map found_of c.args.out.now.items ++ l)
      (sym (none_of_plain c.args.trail.now.steps c.args.trail.now.round c.args.step.1 c.args.step.0 c.args.stmt.now.line c.args.stmt.now.what c.args.depth c.in_default.not-For c.in_default.not-If));
  trail = refl;
}

pub add_all-loop-position-preserved : goal.add_all-loop-position-preserved
add_all-loop-position-preserved t c = (
  adding_goes_on c.args.depth c.args.trail.now.steps c.args.trail.now.round c.args.other c.args.stmts.now c.loop-position.position c.index-stmts-position.result
      c.args.out.now.items c.loop-position.out.items c.add_one.new.out.items (omega (arith, c.loop-position-test.true)) c.index-stmts-position.is c.loop-position.invariant.0
      (c.in_ok-add_one.ensures.found
      ∙ (λ i.
      map found_of c.loop-position.out.items
      ++ found_in c.args.depth (c.loop-position.invariant.1 i).steps (c.loop-position.invariant.1 i).round c.args.other (c.in_ok-as_step.ensures i)
      (put_what c.index-stmts-position.result.what c.index-stmts-position.result.line Nothing))),
  c.in_ok-add_one.ensures.trail ∙ c.loop-position.invariant.1,
)

pub add_all-returns-clause-found : goal.add_all-returns-clause-found
add_all-returns-clause-found t c =
    adding_ends c.args.depth c.args.trail.now.steps c.args.trail.now.round c.args.other c.args.stmts.now c.loop-position.position c.args.out.now.items c.loop-position.out.items
    (omega (arith, c.loop-position-test.false)) c.loop-position.invariant.0
