use Rattle.std.proofs.Common.{◌∙◌, ap, sym}
use Rattle.affine_ast.specs.Nest.{Alloc}
use Rattle.affine_ast.specs.Rules.{shape_within, allocations_within}
use Rattle.affine_ast.specs.Scope.{Allocation, with_name, with_totals, totals_with}
use Rattle.affine_rules.specs.Scoped.{around_of, totals_of}
use Rattle.affine_verify.proofs.PlainlyLaws.{holds, not_true, judged_ok, both_held}
use Rattle.affine_verify.proofs.Released.{some_rest}
use Rattle.affine_verify.proofs.plain.alloc_stmt.Goals as goal

pub with_allocation-totals-requires-clause-shape : goal.with_allocation-totals-requires-clause-shape
with_allocation-totals-requires-clause-shape c =
    let some = some_rest c.args.into.now c.args.ty.now c.args.once in
    (both_held (shape_within c.args.ty.now) (allocations_within (totals_with c.args.ty.now (totals_of c.args.scoped.now.totals))) (holds (around_of c.args.scoped.now) (Alloc c.args.into.now c.args.ty.now) some.0 (sym (c.rule_of_alloc-rule.ensures some.0 some.1) ∙ judged_ok _ _ _ c.in_ok-judged.ensures)).elements).0

pub with_allocation-totals-requires-clause-totals : goal.with_allocation-totals-requires-clause-totals
with_allocation-totals-requires-clause-totals c =
    let some = some_rest c.args.into.now c.args.ty.now c.args.once in
    (both_held (shape_within c.args.ty.now) (allocations_within (totals_with c.args.ty.now (totals_of c.args.scoped.now.totals))) (holds (around_of c.args.scoped.now) (Alloc c.args.into.now c.args.ty.now) some.0 (sym (c.rule_of_alloc-rule.ensures some.0 some.1) ∙ judged_ok _ _ _ c.in_ok-judged.ensures)).elements).1

pub returns : goal.returns
returns c = λ rest e.
    let h = holds (around_of c.args.scoped.now) (Alloc c.args.into.now c.args.ty.now) rest (sym (c.rule_of_alloc-rule.ensures rest e) ∙ judged_ok _ _ _ c.in_ok-judged.ensures) in
    let more = c.in_ok-defined.ensures.1 (not_true _ h.new_name) in (
      sym (c.rule_of_alloc-rule.ensures rest e) ∙ c.in_ok-defined.ensures.0,
      (λ i. record (more.0 i) { totals = c.with_allocation-totals.ensures i })
          ∙ ap (λ t. with_name c.args.into.now (Allocation t) (with_totals (totals_with c.args.ty.now (totals_of c.args.scoped.now.totals)) (around_of c.args.scoped.now))) c.in_ok-copied.ensures,
      record { names = more.1.names; released = more.1.released; loops = more.1.loops; ifs = more.1.ifs },
    )
