-- Faults of the layers below, as faults of a region.
use Rattle.affine_expr.specs.declared.linear.LinearFault.{LinearFault}
use Rattle.affine_expr.specs.declared.linear.LinearFault.TheVariants as form
use Rattle.projection.specs.declared.fault.ReachFault.{ReachFault}
use Rattle.projection.specs.declared.fault.ReachFault.TheVariants as reach
use Rattle.access_region.specs.declared.fault.RegionFault.{RegionFault}
use Rattle.access_region.specs.declared.fault.RegionFault.TheVariants.{Coefficient, Rows, Memory}

abbrev pub of_form : LinearFault → RegionFault
of_form form.Wide = Coefficient
of_form form.Memory = Memory

abbrev pub of_elimination : ReachFault → RegionFault
of_elimination reach.Wide = Coefficient
of_elimination reach.Rows = Rows
of_elimination reach.Memory = Memory
