-- Two parts of the prompt meaning by name.
use Rattle.std.specs.Prelude.{ℕ, List, if◌then◌else◌}
use Rattle.affine_ast.specs.declared.types.Element.{Element}
use Rattle.bus_model.specs.declared.step.FaultKind.TheVariants.{Touched}
use Rattle.bus_model.specs.declared.transfer.Transfer.{Transfer}
use Rattle.direct_meaning.specs.Direct.{Outcome, End}
use Rattle.prompt_semantics.specs.Device.{Device, released, has_away, copied_in, copied_out}
use Rattle.prompt_semantics.specs.Prompt.{refused}

-- a release of a fast memref
abbrev pub prompt_release : ℕ → Element → List ℕ → Device → Outcome Device
prompt_release number element sizes y = refused (has_away y.outstanding number) Touched y (End (released element sizes y))

-- all elements of a transfer copied, in its direction
abbrev pub copied : Transfer → Device → Device
copied t y = if t.incoming then copied_in t y else copied_out t y
