-- Which matrix the code makes. Nobody has to believe this: no clause of a public call speaks of it.
use Rattle.std.specs.Prelude.{ℕ}
use Rattle.case_gen.specs.declared.memory.Matrix.{Matrix}
use Rattle.case_gen.specs.declared.memory.Matrix.TheVariants.{A, B, C}
use Rattle.case_gen.specs.Sample.{in_a, in_b, in_c}

abbrev pub element_of : Matrix → ℕ → ℕ → ℕ
element_of (A number size) i j = in_a number size i j
element_of B i j = in_b i j
element_of C i j = in_c i j
