-- The peak of a module: the most bytes of fast memory that are live at once, on a walk of its text that enters every region once.
pub use Rattle.box_run_laws.specs.Peaks.{fast_bytes, plain_live, live_after, peak_of}
use Rattle.std.specs.Prelude.{ℕ, ◌+◌}
use Rattle.affine_ast.specs.declared.module.Module.{Module}
use Rattle.affine_ast.specs.Nest.{Plain, Nest, Nothing, Loop, Branch, Does, Alloc, nest}

-- nothing is live before the first statement
abbrev pub peak : Module → ℕ
peak m = peak_of (nest m.body) 0

-- the bytes that a statement takes, and those that all allocations of a text take
abbrev pub taken_by : Plain → ℕ
taken_by (Alloc r ty) = fast_bytes ty
taken_by p = 0

abbrev pub bytes_in : Nest → ℕ
bytes_in Nothing = 0
bytes_in (Loop line v low high s body rest) = bytes_in body + bytes_in rest
bytes_in (Branch line set names first has other rest) = bytes_in first + (bytes_in other + bytes_in rest)
bytes_in (Does line p rest) = taken_by p + bytes_in rest
