-- Loops that make one store sweep a whole box.
use Rattle.std.specs.Prelude.{ℕ, zero, suc, ◌+◌, ◌-◌, pos, Bool, true, false, not, ◌&&◌, ◌||◌, if◌then◌else◌, nat_eq, int_lt, List, [], ◌∷◌, length, drop, slice_get, Option, Some, None, Result, Ok, Err}
use Rattle.std.specs.Ordering.{int_eq}
use Rattle.constraint_set.specs.Tidy.{all_zero, same_coefs}
use Rattle.affine_expr.specs.declared.linear.LinearFault.{LinearFault}
use Rattle.affine_expr.specs.Forms.{Form}
use Rattle.affine_expr.specs.Linear.{variable_form, padded, minus}
use Rattle.affine_ast.specs.declared.module.Arg.{Arg}
use Rattle.affine_ast.specs.declared.types.Access.{Access}
use Rattle.nest_domain.specs.Ways.{Header, Round, Given, Except, Behind, Past, Use, Affine, loop_count}
use Rattle.nest_domain.specs.Domains.{Going, shifted, symbol_count}
use Rattle.nest_domain.specs.Boxes.{Dimension}
use Rattle.box_covers.specs.Traced.{Traced, nothing_traced, with_arguments, traced, Swept, swept}

-- a way within no condition
abbrev pub unconditional : List Header → Bool
unconditional [] = true
unconditional (Round v l u s ∷ hs) = unconditional hs
unconditional (Given set names ∷ hs) = false
unconditional (Except set names first ∷ hs) = false
unconditional (Behind p ∷ hs) = unconditional hs
unconditional (Past n ∷ hs) = unconditional hs

-- whether two forms are the same, where a missing coefficient counts as 0
abbrev pub same_form : Form → Form → Bool
same_form f g = same_coefs (padded (length g.coefs) f).coefs (padded (length f.coefs) g).coefs && int_eq f.constant g.constant

-- whether a form is this variable alone
abbrev pub is_variable : ℕ → Form → Bool
is_variable j f = same_form f (variable_form (suc j) j)

-- the first of n variables from j on that a form is
abbrev pub variable_from : ℕ → ℕ → Form → Option ℕ
variable_from zero j f = None
variable_from (suc n) j f = if is_variable j f then Some j else variable_from n (suc j) f

abbrev pub has_number : ℕ → List ℕ → Bool
has_number j [] = false
has_number j (k ∷ ks) = nat_eq j k || has_number j ks

-- the place of a dimension, and the place and the extent
abbrev pub place_form : Dimension → Form
place_form d = record { coefs = d.coefs; constant = d.offset }

abbrev pub ends_at : Form → Result Form LinearFault → Bool
ends_at high (Ok end) = same_form high end
ends_at high (Err e) = false

-- a loop that goes over a dimension: by ones, from its place up to its extent behind it
abbrev pub sweeps_from : Dimension → Going → Form → Form → Bool
sweeps_from d g low high = int_eq g.step (pos 1) && (same_form low (place_form d) && ends_at high (shifted (place_form d) d.extent))

-- the one form of a list
abbrev pub only_form : List Form → Option Form
only_form (f ∷ []) = Some f
only_form fs = None

abbrev pub sweeps_by : Dimension → Going → Option Form → Option Form → Bool
sweeps_by d g (Some low) (Some high) = sweeps_from d g low high
sweeps_by d g low high = false

abbrev pub sweeps : Dimension → Going → Bool
sweeps d g = sweeps_by d g (only_form g.lowers) (only_form g.uppers)

abbrev pub is_positive_gap : Result Form LinearFault → Bool
is_positive_gap (Ok d) = all_zero d.coefs && int_lt (pos 0) d.constant
is_positive_gap (Err e) = false

-- a loop that has a turn wherever it is come to: its two bounds differ by a positive number
abbrev pub passes_from : Form → Form → Bool
passes_from low high = is_positive_gap (minus high low)

abbrev pub passes_by : Option Form → Option Form → Bool
passes_by (Some low) (Some high) = passes_from low high
passes_by low high = false

abbrev pub passes : Going → Bool
passes g = passes_by (only_form g.lowers) (only_form g.uppers)

-- the variables that the subscripts are, among n from `first` on
abbrev pub with_variable : Option ℕ → Option (List ℕ) → Option (List ℕ)
with_variable (Some j) (Some js) = Some (j ∷ js)
with_variable (Some j) None = None
with_variable None js = None

abbrev pub variables_of : ℕ → ℕ → List Form → Option (List ℕ)
variables_of n first [] = Some []
variables_of n first (f ∷ fs) = with_variable (variable_from n first f) (variables_of n first fs)

abbrev pub are_distinct : List ℕ → Bool
are_distinct [] = true
are_distinct (j ∷ js) = not (has_number j js) && are_distinct js

-- the loop of each subscript's variable sweeps its dimension, which isn't clamped
abbrev pub swept_by : Dimension → Option Going → Bool
swept_by d (Some g) = not d.clamped && sweeps d g
swept_by d None = false

abbrev pub all_swept : ℕ → List Going → List Dimension → List ℕ → Bool
all_swept first gs [] [] = true
all_swept first gs [] (j ∷ js) = false
all_swept first gs (d ∷ ds) [] = false
all_swept first gs (d ∷ ds) (j ∷ js) = swept_by d (slice_get gs (j - first)) && all_swept first gs ds js

-- the loops from variable j on that sweep no dimension have a turn
abbrev pub others_pass : ℕ → List Going → List ℕ → Bool
others_pass j [] swept = true
others_pass j (g ∷ gs) swept = (has_number j swept || passes g) && others_pass (suc j) gs swept

abbrev pub sweep_all : ℕ → List Going → List Dimension → Option (List ℕ) → Bool
sweep_all first gs ds (Some js) = are_distinct js && (all_swept first gs ds js && others_pass first gs js)
sweep_all first gs ds None = false

-- the loops round a store, from a loop behind so many variables on, and its subscripts. A form that leaves 128 bits is no cover
abbrev pub covers_from : ℕ → List Dimension → Result Swept LinearFault → Bool
covers_from outer ds (Ok s) = sweep_all outer s.goings ds (variables_of (length s.goings) outer s.forms)
covers_from outer ds (Err e) = false

-- what is known at the end of a way, where so many loops stand round a store
abbrev pub traced_at : List Arg → List Header → ℕ → Traced
traced_at args way loops = traced way (with_arguments args (nothing_traced (symbol_count args + loops)))

-- a store at the end of a way that goes on from the loop's, under no condition within the loop, sweeps the box
abbrev pub store_covers : List Arg → List Header → List Header → Access → ℕ → List Dimension → Bool
store_covers args way there at outer ds =
    unconditional (drop (length way) there) && covers_from outer ds (swept (drop (length way) there) at (traced_at args way (loop_count there)))

-- the memref is accessed in the loop by one `affine.store` alone, which covers the box
unfoldable pub covers : List Arg → List Header → List Use → ℕ → List Dimension → Bool
covers args way (Affine there true at ∷ []) outer ds = store_covers args way there at outer ds
covers args way us outer ds = false
