use Rattle.std.proofs.Common.{◌∙◌, sym, subst}
use Rattle.std.specs.Prelude.{fold}
use Rattle.affine_ast.specs.Nest.{nest}
use Rattle.direct_meaning.specs.Work.{arg_ranges}
use Rattle.module_work.specs.Table.{ranges_of}
use Rattle.module_work.specs.Workable.{Workable}
use Rattle.module_work.proofs.Tables.{ranges_empty}
use Rattle.module_work.proofs.ValidWork.{valid_workable}
use Rattle.module_work.proofs.Works.{work_is}
use Rattle.module_work.proofs.total.work.Goals as goal

pub list-requires-clause-workable : goal.list-requires-clause-workable
list-requires-clause-workable c =
    subst (λ ss. Workable (nest ss) (ranges_of c.arguments.new.ranges.entries)) (sym c.as_slice-2.ensures) (subst (Workable (nest c.module-module.result.now.body))
    (sym (c.in_ok-arguments.ensures ∙ (λ i. fold arg_ranges (ranges_empty c.with_hasher-ranges.result.entries c.with_hasher-ranges.ensures.empty i) (c.as_slice.ensures i))))
    (valid_workable c.module-module.result.now c.module-module.ensures.valid))

pub returns : goal.returns
returns c =
    work_is c.list.result c.args.module.now.inner c.module-module.result.now c.as_slice-2.result.now (ranges_of c.arguments.new.ranges.entries) c.module-module.ensures.value c.as_slice-2.ensures
    (c.in_ok-arguments.ensures ∙ (λ i. fold arg_ranges (ranges_empty c.with_hasher-ranges.result.entries c.with_hasher-ranges.ensures.empty i) (c.as_slice.ensures i))) c.list.ensures.work
