-- What V13 says of a module that is to be staged: it has no allocation, dealloc, start or wait.
use Rattle.std.specs.Prelude.{◌≡◌, ℤ, List, None}
use Rattle.affine_ast.specs.declared.module.Arg.{Arg}
use Rattle.affine_ast.specs.declared.module.Module.{Module}
use Rattle.affine_ast.specs.declared.name.Name.{Name}
use Rattle.affine_ast.specs.Nest.{nest}
use Rattle.affine_ast.specs.PlainLimits.{plain_fault}
use Rattle.direct_meaning.specs.Actions.{actions}
use Rattle.direct_meaning.specs.Memory.{start_env}
use Rattle.boxes.specs.Every.{Every}
use Rattle.box_run_laws.specs.Plain.{IsPlain}
use Rattle.placement_texts.specs.Fold.{IsSlow}
use Rattle.placement_texts.specs.OneTag.{InText, TagIsOne}
use Rattle.staging_laws.specs.Spared.{WaitedFor}

-- at the start each memref stands in slow memory
abbrev pub StartsAreSlow : Type 0
StartsAreSlow = (args : List Arg) (symbols : List ℤ) (n : Name) → IsSlow ((start_env args symbols).home n)

-- so each action of a module that meets V13 is one without allocations and transfers
abbrev pub InputsArePlain : Type 0
InputsArePlain = (m : Module) → plain_fault m ≡ None → (symbols : List ℤ) → Every IsPlain (actions (nest m.body) (start_env m.args symbols))

-- and no transfer of it is left outstanding, nor has it tags
abbrev pub InputsAreQuiet : Type 0
InputsAreQuiet = (m : Module) → plain_fault m ≡ None → WaitedFor (nest m.body) × InText TagIsOne (nest m.body)
