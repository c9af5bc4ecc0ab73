-- The combinations of outer variables from which a place may be taken.
use Rattle.std.specs.Prelude.{ℕ, zero, suc, ◌+◌, ℤ, pos, ◌+ℤ◌, ◌*ℤ◌, Bool, false, ◌||◌, if◌then◌else◌, List, [], ◌∷◌, ◌++◌, length, take, drop, replicate, slice_index_or, Result, Ok}
use Rattle.constraint_set.specs.Points.{LinearSystem}
use Rattle.constraint_set.specs.Tidy.{same_coefs}
use Rattle.constraint_set.specs.Elimination as elimination
use Rattle.num_row.specs.Ints.{narrowed}
use Rattle.constraint_set.specs.Elimination.{Refusal, or_wide}
use Rattle.affine_expr.specs.Spread.{Range}
use Rattle.affine_expr.specs.Forms.{Form}
use Rattle.affine_expr.specs.Linear.{number_form}
use Rattle.nest_domain.specs.Domains.{Going}
use Rattle.access_region.specs.declared.candidate.End.{End}
use Rattle.access_region.specs.declared.candidate.End.TheVariants.{Lower, Upper}
use Rattle.access_region.specs.Faults.{NoRegion, ◌>>=◌, by_elimination}

-- what a region asks of an affine access: the loops round it, its rows, the forms of its subscripts over them, and the intervals of
-- the subscripts
pub record Reaching : Type 0 where
  pub goings : List Going
  pub system : LinearSystem
  pub forms : List Form
  pub ranges : List Range

-- the subscript in a dimension
abbrev pub subscript : ℕ → Reaching → Form
subscript d a = slice_index_or a.forms d (number_form 0 (pos 0))

-- ---- a combination of the outer variables from a subscript
abbrev pub first_coefs : List Form → List ℤ
first_coefs [] = []
first_coefs (f ∷ fs) = f.coefs

-- the first lower, or upper, result of a loop
abbrev pub first_at : End → Going → List ℤ
first_at Lower g = first_coefs g.lowers
first_at Upper g = first_coefs g.uppers

-- exactly so many coefficients
abbrev pub filled : ℕ → List ℤ → List ℤ
filled n cs = take n (cs ++ replicate n (pos 0))

-- numbers and a multiple of others, number by number: it is the sums that have to keep to 128 bits, and no product by itself
abbrev pub plus_multiple : List ℤ → ℤ → List ℤ → Result (List ℤ) Refusal
plus_multiple [] k bs = Ok []
plus_multiple (c ∷ cs) k [] = Ok []
plus_multiple (c ∷ cs) k (b ∷ bs) = elimination.◌>>=◌ (or_wide (narrowed (c +ℤ k *ℤ b))) (λ first. elimination.◌>>=◌ (plus_multiple cs k bs) (λ rest. Ok (first ∷ rest)))

-- in coefficients, variable n leaves for a form over the variables before it
abbrev pub replaced_one : ℕ → List ℤ → List ℤ → Result (List ℤ) Refusal
replaced_one n b cs = plus_multiple (filled n cs) (slice_index_or cs n (pos 0)) (filled n b)

abbrev pub nowhere : Going
nowhere = record { lowers = []; uppers = []; step = pos 1 }

-- of so many outer variables and then those of loops, the innermost loop's variable leaves for its first result, and so on outward,
-- so many of them
abbrev pub replaced : End → ℕ → List Going → ℕ → List ℤ → Result (List ℤ) Refusal
replaced end outer gs zero cs = Ok cs
replaced end outer gs (suc k) cs = elimination.◌>>=◌ (replaced_one (outer + k) (first_at end (slice_index_or gs k nowhere)) cs) (λ ds. replaced end outer gs k ds)

-- the candidate of an access over so many outer variables: its subscript's coefficients, from which the variables of the loops behind
-- the first `outside` leave. Locals are dropped
abbrev pub candidate : End → ℕ → ℕ → ℕ → Reaching → Result (List ℤ) NoRegion
candidate end outer outside d a = do
  c ← by_elimination (replaced end outer (drop outside a.goings) (length (drop outside a.goings)) (subscript d a).coefs)
  Ok (filled outer c)

abbrev pub has_coefs : List ℤ → List (List ℤ) → Bool
has_coefs c [] = false
has_coefs c (d ∷ ds) = same_coefs c d || has_coefs c ds

-- with one more, where it isn't there yet
abbrev pub with_candidate : List (List ℤ) → List ℤ → List (List ℤ)
with_candidate kept c = if has_coefs c kept then kept else kept ++ c ∷ []

abbrev pub with_candidates : End → ℕ → ℕ → ℕ → List Reaching → List (List ℤ) → Result (List (List ℤ)) NoRegion
with_candidates end outer outside d [] kept = Ok kept
with_candidates end outer outside d (a ∷ xs) kept = do
  c ← candidate end outer outside d a
  with_candidates end outer outside d xs (with_candidate kept c)

-- those of the lower results, of the upper ones, and zero
abbrev pub candidates : ℕ → ℕ → ℕ → List Reaching → Result (List (List ℤ)) NoRegion
candidates outer outside d xs = do
  low ← with_candidates Lower outer outside d xs []
  both ← with_candidates Upper outer outside d xs low
  Ok (with_candidate both (replicate outer (pos 0)))
