use Rattle.std.proofs.Common.{◌≡◌, sym, ap, ◌∙◌, subst}
use Rattle.std.specs.Prelude.{None}
use Rattle.affine_ast.specs.PlainLimits.{plain_fault}
use Rattle.affine_ast.specs.Validity.{IsValid}
use Rattle.direct_meaning.specs.Memory.{Fits}
use Rattle.case_gen.specs.Sample.{size_of, product}
use Rattle.case_gen.proofs.Fitting.{fits}
use Rattle.case_gen.proofs.Valid.{valid, plain}
use Rattle.case_gen.proofs.sample.Goals as goal

pub seal-verified-requires : goal.seal-verified-requires
seal-verified-requires c = subst IsValid (sym c.in_ok-module.ensures) (valid c.args.number)

pub returns-clause-plain : goal.returns-clause-plain
returns-clause-plain c = ap plain_fault (c.seal-verified.ensures ∙ c.in_ok-module.ensures) ∙ plain (size_of c.args.number)

pub returns-clause-fits : goal.returns-clause-fits
returns-clause-fits c = subst (λ m. Fits m c.in_ok-image.image) (sym (c.seal-verified.ensures ∙ c.in_ok-module.ensures)) (subst (Fits (product (size_of c.args.number))) (sym c.in_ok-image.ensures) (fits c.args.number (size_of c.args.number)))
