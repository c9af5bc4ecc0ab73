-- What the transfers of a valid module are known to be from its text.
use Rattle.std.specs.Prelude.{◌≡◌, ℕ, ◌<◌, ◌%◌, List, [], ◌∷◌}
use Rattle.affine_ast.specs.declared.image.Image.{Image}
use Rattle.affine_ast.specs.declared.module.Module.{Module}
use Rattle.affine_ast.specs.Nest.{nest}
use Rattle.affine_ast.specs.Validity.{IsValid}
use Rattle.bus_model.specs.declared.transfer.Transfer.{Transfer}
use Rattle.direct_meaning.specs.Action.{Action, Starts}
use Rattle.direct_meaning.specs.Actions.{tags_in}
use Rattle.direct_meaning.specs.Memory.{Fits, module_actions}

-- a transfer's tag is one of so many, and its elements are whole chunks
pub record FitsBus (tags : ℕ) (t : Transfer) : Type 0 where
  pub tag : t.tag < tags
  pub whole_chunks : t.count % t.chunk ≡ 0

-- where an action starts a transfer, that is so
abbrev pub StartsWithin : ℕ → Action → Type 0
StartsWithin tags (Starts t) = FitsBus tags t
StartsWithin tags a = Unit {0}

abbrev pub AllWithin : ℕ → List Action → Type 0
AllWithin tags [] = Unit {0}
AllWithin tags (a ∷ more) = StartsWithin tags a × AllWithin tags more

-- from every memory that fits a valid module, the tags are those of its allocations
abbrev pub ValidTransfersFit : Type 0
ValidTransfersFit = (m : Module) → IsValid m → (memory : Image) → Fits m memory
    → AllWithin (tags_in (nest m.body)) (module_actions m memory.symbols)
