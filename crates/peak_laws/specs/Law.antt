-- What the peak of a valid module says of its runs.
use Rattle.std.specs.Prelude.{◌≡◌, ◌≢◌, ℕ, ◌≤◌, ◌<◌, ℤ}
use Rattle.affine_ast.specs.declared.image.Image.{Image}
use Rattle.affine_ast.specs.declared.module.Module.{Module}
use Rattle.affine_ast.specs.Nest.{nest}
use Rattle.affine_ast.specs.Validity.{IsValid}
use Rattle.bus_model.specs.declared.step.FaultKind.TheVariants.{Capacity}
use Rattle.bus_model.specs.declared.step.Verdict.TheVariants as verdict
use Rattle.direct_meaning.specs.Direct.{state_of, verdict_of}
use Rattle.direct_meaning.specs.Memory.{Fits}
use Rattle.prompt_semantics.specs.Prompt.{prompt}
use Rattle.peak_laws.specs.Peak.{peak, bytes_in}

-- the most live bytes of the run that has room for the peak
abbrev pub needed : Module → Image → ℤ → ℕ
needed m memory filler = (state_of (prompt m memory filler (peak m))).peak

-- a run at a capacity
pub record RunsWithinPeak (m : Module) (memory : Image) (filler : ℤ) (capacity : ℕ) : Type 0 where
  -- it never has more live bytes than the peak
  pub within : (state_of (prompt m memory filler capacity)).peak ≤ peak m
  -- where the capacity is the peak or more, the fault `capacity` doesn't come, and the run doesn't depend on the capacity
  pub unstopped : peak m ≤ capacity → verdict_of (prompt m memory filler capacity) ≢ verdict.Fault Capacity
  pub same : peak m ≤ capacity → prompt m memory filler capacity ≡ prompt m memory filler (peak m)
  -- nor where it is what this run needs, which is no more than the peak, since a run needn't come to each region
  pub needed_is_within : needed m memory filler ≤ peak m
  pub needed_suffices : needed m memory filler ≤ capacity → prompt m memory filler capacity ≡ prompt m memory filler (peak m)
  -- where it is less than that, the run stops at this fault
  pub less_stops : capacity < needed m memory filler → verdict_of (prompt m memory filler capacity) ≡ verdict.Fault Capacity

-- so does every valid module run, from every memory that fits it
abbrev pub ValidRunsWithinPeak : Type 0
ValidRunsWithinPeak = (m : Module) → IsValid m → (memory : Image) → Fits m memory → (filler : ℤ) (capacity : ℕ)
    → RunsWithinPeak m memory filler capacity

-- all allocations of a valid module together take no more than 2^27 bytes, so its peak is no more
pub record TakesFewBytes (m : Module) : Type 0 where
  pub bytes : bytes_in (nest m.body) ≤ 134217728
  pub peak_is_less : peak m ≤ bytes_in (nest m.body)

abbrev pub ValidTakesFewBytes : Type 0
ValidTakesFewBytes = (m : Module) → IsValid m → TakesFewBytes m
