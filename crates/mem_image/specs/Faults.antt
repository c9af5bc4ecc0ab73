-- Why no image was read.
use Rattle.std.specs.Prelude.{ℕ, List}
use Rattle.affine_ast.specs.declared.module.Module.{Module}
use Rattle.mem_image.specs.declared.parse.ImageFault.{ImageFault}
use Rattle.mem_image.specs.declared.parse.ImageFault.TheVariants as fault
use Rattle.mem_image.specs.Images.{IsFirstBroken}

-- the fault is the first broken rule of the text with its line; want of memory may come always
abbrev pub IsFault : List ℕ → Module → ImageFault → Type 0
IsFault text m (fault.Image line number) = IsFirstBroken text m line number
IsFault text m fault.Memory = Unit {0}
