-- What is proved of numbered names.
use Rattle.std.specs.Prelude.{◌≡◌, ℕ, ℤ, []}
use Rattle.affine_ast.specs.declared.image.Image.{Image}
use Rattle.affine_ast.specs.declared.module.Module.{Module}
use Rattle.affine_ast.specs.Validity.{IsValid}
use Rattle.direct_meaning.specs.Memory.{Fits}
use Rattle.prompt_semantics.specs.Prompt.{prompt, prompt_verdict, prompt_slow, prompt_numbers}
use Rattle.numbered_names.specs.Numbers.{value_names, made_of, IsNumbered}

-- a valid module with its made names numbered is valid
abbrev pub NumberedIsValid : Type 0
NumberedIsValid = (m q : Module) → IsNumbered m q → IsValid m → IsValid q

-- no name of it counts as made
abbrev pub NoneIsMade : Type 0
NoneIsMade = (m q : Module) → IsNumbered m q → made_of (value_names q) ≡ []

-- it has the same prompt meaning: from every memory that fits, for every filler and capacity, its verdict, its slow memory and its numbers
abbrev pub NumberedRuns : Type 0
NumberedRuns = (m q : Module) → IsNumbered m q → IsValid m → (memory : Image) → Fits m memory → (filler : ℤ) (capacity : ℕ)
    → (prompt_verdict (prompt q memory filler capacity) ≡ prompt_verdict (prompt m memory filler capacity))
    × (prompt_slow (prompt q memory filler capacity) ≡ prompt_slow (prompt m memory filler capacity))
    × (prompt_numbers (prompt q memory filler capacity) ≡ prompt_numbers (prompt m memory filler capacity))

-- a memory fits it where it fits the module
abbrev pub NumberedFits : Type 0
NumberedFits = (m q : Module) → IsNumbered m q → (memory : Image) → Fits m memory → Fits q memory
