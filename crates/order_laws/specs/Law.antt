-- What holds of the orders of every valid module.
use Rattle.std.specs.Prelude.{ℕ, ◌≤◌, ℤ, length}
use Rattle.affine_ast.specs.declared.image.Image.{Image}
use Rattle.affine_ast.specs.declared.module.Module.{Module}
use Rattle.affine_ast.specs.Validity.{IsValid}
use Rattle.direct_meaning.specs.Direct.{first_state}
use Rattle.direct_meaning.specs.Memory.{Fits, module_actions}
use Rattle.order_meaning.specs.Orderly.{Orderly}
use Rattle.order_meaning.specs.Law.{OrdersAgree}

-- from every memory that fits, the actions are orderly
abbrev pub ValidIsOrderly : Type 0
ValidIsOrderly = (m : Module) → IsValid m → (memory : Image) → Fits m memory
    → Orderly (length (first_state memory).slow) (module_actions m memory.symbols)

-- so all orders of its transfers agree, for every filler, capacity and number of engines
abbrev pub ValidOrdersAgree : Type 0
ValidOrdersAgree = (m : Module) → IsValid m → (memory : Image) → Fits m memory → (filler : ℤ) (capacity engines : ℕ)
    → 1 ≤ engines → OrdersAgree filler capacity (module_actions m memory.symbols) memory engines
