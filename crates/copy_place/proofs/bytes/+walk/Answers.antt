use Rattle.std.proofs.Common.{◌∙◌, ap, arith}
use Rattle.affine_ast.specs.declared.stmt.What as what
use Rattle.module_work.proofs.Weights.{lighter_statement, lighter_body, lighter_first, lighter_other}
use Rattle.copy_place.proofs.Walks.{for_moves, if_moves, if_else_moves, alloc_moves, dealloc_moves, other_moves, bytes_step, peak_step, peak_end, body_bytes, first_bytes, other_bytes, alloc_bytes}
use Rattle.copy_place.proofs.bytes.+walk.Goals as goal

pub region-statement-requires : goal.region-statement-requires
region-statement-requires t c =
    let b = bytes_step c.args.stmts.now c.loop-stmt.stmt-index c.stmt-item.result c.loop-stmt-test.true c.stmt-item.is in
    let r = c.loop-stmt.invariant.room in
    (lighter_statement c.args.stmts.now c.loop-stmt.stmt-index c.stmt-item.result t c.loop-stmt-test.true c.stmt-item.is c.decreases, (omega (arith, b, r), c.loop-stmt.invariant.most))

pub statement-region-requires : goal.statement-region-requires
statement-region-requires t c =
    let b = body_bytes c.args.stmt.now.line c.args.stmt.now.what c.in-For.var c.in-For.lower c.in-For.upper c.in-For.step c.in-For.body c.as_slice.result.now c.in-For.is c.as_slice.ensures in
    let r = c.requires.room in
    (lighter_body c.args.stmt.now.line c.args.stmt.now.what t c.in-For.var c.in-For.lower c.in-For.upper c.in-For.step c.in-For.body c.as_slice.result.now c.in-For.is c.as_slice.ensures c.decreases, (omega (arith, b, r), c.requires.most))

pub statement-region-requires-in-If : goal.statement-region-requires-in-If
statement-region-requires-in-If t c =
    let b = first_bytes c.args.stmt.now.line c.args.stmt.now.what c.in-If.set c.in-If.operands c.in-If.first c.in-If.other c.as_slice-in-If.result.now c.in-If.is c.as_slice-in-If.ensures in
    let r = c.requires.room in
    (lighter_first c.args.stmt.now.line c.args.stmt.now.what t c.in-If.set c.in-If.operands c.in-If.first c.in-If.other c.as_slice-in-If.result.now c.in-If.is c.as_slice-in-If.ensures c.decreases, (omega (arith, b, r), c.requires.most))

pub statement-region-requires-in-Some : goal.statement-region-requires-in-Some
statement-region-requires-in-Some t c =
    let is = c.in-If.is ∙ ap (what.If c.in-If.set c.in-If.operands c.in-If.first) c.in-Some.is in
    let b = other_bytes c.args.stmt.now.line c.args.stmt.now.what c.in-If.set c.in-If.operands c.in-If.first c.in-Some.other c.as_slice-in-Some.result.now is c.as_slice-in-Some.ensures in
    let r = c.requires.room in
    let m = c.requires.most in
    let n = c.region-in-If.ensures.now in
    let g = c.region-in-If.ensures.most in
    (lighter_other c.args.stmt.now.line c.args.stmt.now.what t c.in-If.set c.in-If.operands c.in-If.first c.in-Some.other c.as_slice-in-Some.result.now is c.as_slice-in-Some.ensures c.decreases, (omega (arith, b, r, n), omega (arith, m, n, g)))

pub statement-allocate-requires : goal.statement-allocate-requires
statement-allocate-requires t c =
    let b = alloc_bytes c.args.stmt.now.line c.args.stmt.now.what c.in-Alloc.result c.in-Alloc.ty c.in-Alloc.is in
    let r = c.requires.room in
    record { room = omega (arith, b, r) }

pub statement-returns-in-For : goal.statement-returns-in-For
statement-returns-in-For t c =
    for_moves c.args.stmt.now c.args.live.now c.region.new.live c.requires.most c.in-For.var c.in-For.lower c.in-For.upper c.in-For.step c.in-For.body c.as_slice.result.now c.in-For.is c.as_slice.ensures c.region.ensures.now c.region.ensures.most

pub statement-returns-in-Some : goal.statement-returns-in-Some
statement-returns-in-Some t c =
    if_else_moves c.args.stmt.now c.args.live.now c.region-in-Some.new.live c.requires.most c.in-If.set c.in-If.operands c.in-If.first c.in-Some.other c.as_slice-in-If.result.now c.as_slice-in-Some.result.now c.region-in-If.new.live
    (c.in-If.is ∙ ap (what.If c.in-If.set c.in-If.operands c.in-If.first) c.in-Some.is) c.as_slice-in-If.ensures c.as_slice-in-Some.ensures c.region-in-If.ensures.now c.region-in-If.ensures.most c.region-in-Some.ensures.now c.region-in-Some.ensures.most

pub statement-returns-in-None : goal.statement-returns-in-None
statement-returns-in-None t c =
    if_moves c.args.stmt.now c.args.live.now c.region-in-If.new.live c.requires.most c.in-If.set c.in-If.operands c.in-If.first c.as_slice-in-If.result.now
    (c.in-If.is ∙ ap (what.If c.in-If.set c.in-If.operands c.in-If.first) c.in-None.is) c.as_slice-in-If.ensures c.region-in-If.ensures.now c.region-in-If.ensures.most

pub statement-returns-in-Alloc : goal.statement-returns-in-Alloc
statement-returns-in-Alloc t c = alloc_moves c.args.stmt.now c.args.live.now c.allocate.new.self c.requires.most c.in-Alloc.result c.in-Alloc.ty c.in-Alloc.is c.allocate.ensures.now c.allocate.ensures.most

pub statement-returns-in-Dealloc : goal.statement-returns-in-Dealloc
statement-returns-in-Dealloc t c = dealloc_moves c.args.stmt.now c.args.live.now c.release.new.self c.requires.most c.in-Dealloc.memref c.in-Dealloc.ty c.in-Dealloc.is c.release.ensures.now c.release.ensures.most

pub statement-returns-in_default : goal.statement-returns-in_default
statement-returns-in_default t c = other_moves c.args.stmt.now c.args.live.now c.requires.most c.in_default.not-For c.in_default.not-If c.in_default.not-Alloc c.in_default.not-Dealloc

pub region-loop-stmt-preserved : goal.region-loop-stmt-preserved
region-loop-stmt-preserved t c =
    let b = bytes_step c.args.stmts.now c.loop-stmt.stmt-index c.stmt-item.result c.loop-stmt-test.true c.stmt-item.is in
    let r = c.loop-stmt.invariant.room in
    let taken = c.statement.ensures.taken in
    record {
      greatest = peak_step c.args.stmts.now c.loop-stmt.stmt-index c.stmt-item.result _ c.loop-stmt.live c.statement.new.live c.loop-stmt-test.true c.stmt-item.is c.statement.ensures c.loop-stmt.invariant.greatest;
      room = omega (arith, b, r, taken);
      most = c.statement.ensures.most;
    }

pub region-returns-clause-most : goal.region-returns-clause-most
region-returns-clause-most t c =
    let g = c.loop-stmt.invariant.greatest in
    let e = peak_end c.args.stmts.now c.loop-stmt.stmt-index c.loop-stmt.live.now (omega arith) in
    let m = c.loop-stmt.invariant.most in
    omega (arith, g, e, m)
