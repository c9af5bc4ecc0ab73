use Rattle.std.proofs.Common.{arith, ◌≡◌, ◌++◌, ◌-◌, suc, map, ap, sym, ◌∙◌, subst, refl, FitsSigned}
use Rattle.std.proofs.lemmas.Int.{to_z-of_z}
use Rattle.std.proofs.lemmas.Result.{on_ok_weaker}
use Rattle.std.specs.Int.{w64}
use Rattle.affine_ast.specs.Nest.{Nothing, Loop, nest}
use Rattle.nest_domain.specs.Ways.{Past}
use Rattle.nest_domain.specs.Steps.{header_of}
use Rattle.text_places.specs.Blocks.{blocks}
use Rattle.text_places.specs.Finding.{block_of, past_what, Grown}
use Rattle.text_places.proofs.Statements.{past_loop, past_condition, past_plain}
use Rattle.text_places.proofs.Blocked.{adding_goes_on, deeper_blocks, nothing_of_plain}
use Rattle.text_places.proofs.Sizes.{statement_smaller, body_smaller, both_smaller}
use Rattle.text_places.proofs.blocks.+blocks.Goals as goal

pub add_all-loop-stmt-preserved : goal.add_all-loop-stmt-preserved
add_all-loop-stmt-preserved t c =
    adding_goes_on c.args.depth c.args.stmts.now c.loop-stmt.stmt-index c.stmt-item.result _ _ _ _ _ _ (omega arith) c.stmt-item.is c.loop-stmt.invariant c.in_ok-add_one.ensures.blocks c.in_ok-add_one.ensures.way

pub add_loop-returns-clause-blocks : goal.add_loop-returns-clause-blocks
add_loop-returns-clause-blocks t c =
    let inner : c.args.depth ≡ suc (c.args.depth - 1) = omega arith in
    let f : FitsSigned w64 c.args.step = c.ranges.step in
    let added = simp to_z-of_z at c.add_region.ensures.blocks in
    let way = map header_of c.args.way.now.items in
    on_ok_weaker c.add_region.result
    (λ e. e ∙ ap (λ l. map block_of c.args.out.now.items ++ l)
    (sym (deeper_blocks (c.args.depth - 1) c.args.line c.args.var.now c.args.lower.now c.args.upper.now c.args.step (nest c.args.body.now) way)
    ∙ ap (λ k. blocks k (Loop c.args.line c.args.var.now c.args.lower.now c.args.upper.now c.args.step (nest c.args.body.now) Nothing) way) (sym inner))) added

pub add_one-returns-in_ok-push-in-For-clause-way : goal.add_one-returns-in_ok-push-in-For-clause-way
add_one-returns-in_ok-push-in-For-clause-way t c =
    subst (λ w. Grown c.args.way.now.items c.push.new.self.items (past_what w)) (sym c.in-For.is)
    (past_loop c.args.way.now.items c.add_loop.new.way.items c.push.new.self.items _ c.in-For.var c.in-For.lower c.in-For.upper c.in-For.step c.in-For.body c.in_ok-add_loop-in-For.ensures.way c.in_ok-push-in-For.ensures.items
    (ap (λ l. Past (nest l)) c.as_slice-body.ensures))

pub add_one-returns-in_ok-push-in-If-2-clause-way : goal.add_one-returns-in_ok-push-in-If-2-clause-way
add_one-returns-in_ok-push-in-If-2-clause-way t c =
    subst (λ w. Grown c.args.way.now.items c.push-in-If-2.new.self.items (past_what w)) (sym c.in-If.is)
    (past_condition c.args.way.now.items c.add_condition.new.way.items c.push-in-If.new.self.items c.push-in-If-2.new.self.items _ _ c.in-If.set c.in-If.operands c.in-If.first c.in-If.other c.in_ok-add_condition-in-If.ensures.way
    c.in_ok-push-in-If.ensures.items c.in_ok-push-in-If-2.ensures.items (ap (λ l. Past (nest l)) c.as_slice-first.ensures) (ap (λ l. Past (nest l)) c.or_none-other.ensures))

pub add_one-returns-in_ok-push-in_default : goal.add_one-returns-in_ok-push-in_default
add_one-returns-in_ok-push-in_default t c = record {
  blocks = nothing_of_plain c.args.stmt.now.what c.in_default.not-For c.in_default.not-If c.args.depth c.args.stmt.now.line (map header_of c.args.way.now.items) c.args.out.now.items;
  way = past_plain c.args.way.now.items c.push-in_default.new.self.items _ c.args.stmt.now.what c.in_default.not-For c.in_default.not-If c.in_ok-push-in_default.ensures.items refl;
}

-- ---- that each walk ends
pub add_all-add_one-requires : goal.add_all-add_one-requires
add_all-add_one-requires t c = (statement_smaller c.args.stmts.now c.loop-stmt.stmt-index c.stmt-item.result t (omega arith) c.stmt-item.is c.decreases, tt)

pub add_one-add_loop-requires : goal.add_one-add_loop-requires
add_one-add_loop-requires t c =
    (body_smaller c.args.stmt.now.line c.args.stmt.now.what t c.in-For.var c.in-For.lower c.in-For.upper c.in-For.step c.in-For.body c.as_slice-body.result.now c.in-For.is c.as_slice-body.ensures c.decreases, tt)

pub add_one-add_condition-requires : goal.add_one-add_condition-requires
add_one-add_condition-requires t c =
    (both_smaller c.args.stmt.now.line c.args.stmt.now.what t c.in-If.set c.in-If.operands c.in-If.first c.in-If.other c.as_slice-first.result.now c.or_none-other.result.now c.in-If.is c.as_slice-first.ensures c.or_none-other.ensures c.decreases, tt)
