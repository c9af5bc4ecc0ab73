use Rattle.std.proofs.Common.{◌≡◌, drop}
use Rattle.nest_domain.specs.Forms.{all_over}
use Rattle.box_covers.proofs.Joined.{joined}
use Rattle.box_covers.proofs.bounds.all_formed.Given as goal

abbrev pub invariant-loop-expr : goal.invariant-loop-expr
invariant-loop-expr l =
    all_over l.leaves.width l.leaves.dims.now l.leaves.syms.now l.exprs l.initial.locals.items
    ≡ joined l.forms.items (all_over l.leaves.width l.leaves.dims.now l.leaves.syms.now (drop l.expr-index l.exprs) l.locals.items)
