use Rattle.std.proofs.Common.{◌≡◌, Option, sym, ap, ◌∙◌, subst}
use Rattle.std.specs.Prelude.{IfSome}
use Rattle.affine_expr.specs.declared.map.Interval.{Interval}
use Rattle.affine_expr.specs.Spread.{range_of}
use Rattle.affine_expr.specs.Bounded.{range_at, ranges, LiesIn}
use Rattle.affine_expr.specs.Spans.{interval_at}
use Rattle.affine_expr.specs.Value.{value}
use Rattle.affine_expr.proofs.Agreement.{interval_found}
use Rattle.affine_expr.proofs.Bounds.{interval_range}
use Rattle.affine_expr.proofs.Soundness.{interval_sound}
use Rattle.affine_expr.proofs.expr.Expr.interval.Goals as goal

pub returns-clause-sound : goal.returns-clause-sound
returns-clause-sound c = λ ds ss d s.
    (let e = c.shown.ensures ∙ ap interval_at c.span.ensures ∙ interval_found c.args.dims.now c.args.syms.now c.args.self.now c.requires.pure c.requires.leaves in
    subst (λ (o : Option Interval). LiesIn (value ds ss c.args.self.now) o) (sym e) (interval_sound c.args.self.now c.args.dims.now c.args.syms.now c.requires.pure c.requires.leaves ds ss d s))

pub returns-clause-range : goal.returns-clause-range
returns-clause-range c =
    let e = c.shown.ensures ∙ ap interval_at c.span.ensures ∙ interval_found c.args.dims.now c.args.syms.now c.args.self.now c.requires.pure c.requires.leaves in
    subst (λ (o : Option Interval). IfSome o (λ i. range_at i ≡ range_of (ranges c.args.dims.now) (ranges c.args.syms.now) c.args.self.now)) (sym e) (interval_range c.args.dims.now c.args.syms.now c.args.self.now)
