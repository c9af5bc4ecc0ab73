use Rattle.std.proofs.Common.{◌≡◌, drop}
use Rattle.box_covers.specs.Covers.{variables_of}
use Rattle.box_covers.proofs.Listed.{listed}
use Rattle.box_covers.proofs.variables.variables_of.Given as goal

abbrev pub invariant-loop-form : goal.invariant-loop-form
invariant-loop-form l = variables_of l.fn.count l.fn.first l.forms ≡ listed l.places.items (variables_of l.fn.count l.fn.first (drop l.form-index l.forms))
