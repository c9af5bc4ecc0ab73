-- What holds of every text and every module.
use Rattle.std.specs.Prelude.{◌≡◌, ◌⊎◌, ℕ, List}
use Rattle.affine_ast.specs.declared.image.Image.{Image}
use Rattle.affine_ast.specs.declared.module.Module.{Module}
use Rattle.affine_ast.specs.Validity.{IsValid}
use Rattle.direct_meaning.specs.Memory.{Fits}
use Rattle.mem_image.specs.Images.{Spells, HasNames, IsFirstBroken, printed}

-- a text spells at most one image
abbrev pub SpellsOne : Type 0
SpellsOne = (text : List ℕ) (m : Module) (a b : Image) → Spells text m a → Spells text m b → a ≡ b

-- at most one rule at one line is the first broken one
abbrev pub BreaksOne : Type 0
BreaksOne = (text : List ℕ) (m : Module) (line number other_line other_number : ℕ) → IsFirstBroken text m line number → IsFirstBroken text m other_line other_number → (line ≡ other_line) × (number ≡ other_number)

-- a text that spells an image breaks no rule
abbrev pub NotBoth : Type 0
NotBoth = (text : List ℕ) (m : Module) (image : Image) (line number : ℕ) → Spells text m image → IsFirstBroken text m line number → ⊥

-- a text that spells no image breaks a rule first
abbrev pub OneOfBoth : Type 0
OneOfBoth = (text : List ℕ) (m : Module) → ((image : Image) × Spells text m image) ⊎ ((line : ℕ) × (number : ℕ) × IsFirstBroken text m line number)

-- the printed text of an image that fits a valid module spells that image
abbrev pub ReadBack : Type 0
ReadBack = (m : Module) (image : Image) → IsValid m → HasNames m → Fits m image → Spells (printed m image) m image
