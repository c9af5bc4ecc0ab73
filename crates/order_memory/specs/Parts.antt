-- Parts of the machine's actions by name.
use Rattle.std.specs.Prelude.{ℕ, ◌-◌, List}
use Rattle.affine_ast.specs.declared.types.Element.{Element}
use Rattle.bus_model.specs.declared.step.FaultKind.TheVariants.{Touched, Tag}
use Rattle.bus_model.specs.Engines.{Flight}
use Rattle.direct_meaning.specs.Direct.{Outcome, End}
use Rattle.prompt_semantics.specs.Device.{bytes_of, has_away, has_started, put_half}
use Rattle.prompt_semantics.specs.Prompt.{refused}
use Rattle.order_meaning.specs.Machine.{Here, Core, transfers_of, without_flight}

-- a release of a fast memref
abbrev pub released : ℕ → Element → List ℕ → Core → Outcome Core
released number element sizes x = refused (has_away (transfers_of x.flights) number) Touched x (End (record x { live = x.live - bytes_of element sizes }))

-- a release of tags
abbrev pub tags_released : ℕ → ℕ → Core → Outcome Core
tags_released first count x = refused (has_started (transfers_of x.flights) first count) Tag x (End x)

-- a finished transfer taken off, its cells back in its half
abbrev pub accepted : ℕ → Flight → Core → Core
accepted tag f x = record x {
  halves = put_half x.halves f.transfer.fast f.transfer.half (Here f.cells);
  flights = without_flight tag x.flights;
}
