-- Whether two boxes may share an element at two turns of a loop: over the rational points of the rows.
use Rattle.std.specs.Prelude.{ℕ, zero, suc, ◌+◌, ◌-◌, ℤ, pos, neg_ℤ, ◌+ℤ◌, ◌-ℤ◌, ◌*ℤ◌, Bool, not, if◌then◌else◌, nat_lt, List, [], ◌∷◌, ◌++◌, length, replicate, take, map, Result, Ok, Err}
use Rattle.num_row.specs.Ints.{narrowed}
use Rattle.constraint_set.specs.Points.{LinearRow, LinearSystem, coef}
use Rattle.constraint_set.specs.Elimination.{Refusal, too_many, ◌>>=◌, or_wide, variable_limit}
use Rattle.constraint_set.specs.Reach.{emptiness, negated}
use Rattle.nest_domain.specs.Boxes.{Dimension}

-- m variables put in behind the first n
abbrev pub spread : ℕ → ℕ → List ℤ → List ℤ
spread zero m cs = replicate m (pos 0) ++ cs
spread (suc n) m [] = []
spread (suc n) m (c ∷ cs) = c ∷ spread n m cs

-- of a row over n outer variables and m locals, the row at the later turn: variable i is t more, and the locals are those
-- behind the first turn's. The product goes into the constant, and needn't fit by itself
abbrev pub later : ℕ → ℕ → ℕ → ℤ → LinearRow → Result LinearRow Refusal
later n m i t r = do
  constant ← or_wide (narrowed (r.constant +ℤ coef i r *ℤ t))
  Ok (record { coefs = spread n m r.coefs; constant = constant })

abbrev pub all_later : ℕ → ℕ → ℕ → ℤ → List LinearRow → Result (List LinearRow) Refusal
all_later n m i t [] = Ok []
all_later n m i t (r ∷ rs) = do
  first ← later n m i t r
  rest ← all_later n m i t rs
  Ok (first ∷ rest)

-- where a dimension begins, and how many numbers it has: all, where it is clamped
pub record Stretch : Type 0 where
  pub begin : LinearRow
  pub extent : ℤ

abbrev pub stretch_of : Dimension → ℕ → Stretch
stretch_of d size =
    if d.clamped
    then record { begin = record { coefs = replicate (length d.coefs) (pos 0); constant = pos 0 }; extent = pos size }
    else record { begin = record { coefs = d.coefs; constant = d.offset }; extent = d.extent }

-- variable j behind a list of coefficients
abbrev pub with_variable : ℕ → ℤ → List ℤ → List ℤ
with_variable j c cs = (cs ++ replicate (j - length cs) (pos 0)) ++ c ∷ []

-- `x - begin >= 0` and `begin + extent - 1 - x >= 0` for the number x, variable j
abbrev pub stretch_rows : ℕ → LinearRow → ℤ → Result (List LinearRow) Refusal
stretch_rows j begin extent = do
  low ← negated begin.coefs
  constant ← or_wide (narrowed (neg_ℤ begin.constant))
  top ← or_wide (narrowed (begin.constant +ℤ (extent -ℤ pos 1)))
  Ok (record { coefs = with_variable j (pos 1) low; constant = constant } ∷ record { coefs = with_variable j (neg_ℤ (pos 1)) begin.coefs; constant = top } ∷ [])

-- variable j lies in a dimension of the first box, at the first turn, and in that of the second one at the later turn
abbrev pub dimension_rows : ℕ → ℕ → ℕ → ℤ → ℕ → Dimension → Dimension → ℕ → Result (List LinearRow) Refusal
dimension_rows n m i t j d e size = do
  first ← stretch_rows j (stretch_of d size).begin (stretch_of d size).extent
  begin ← later n m i t (stretch_of e size).begin
  second ← stretch_rows j begin (stretch_of e size).extent
  Ok (first ++ second)

-- the numbers of the dimensions are the variables from j on
abbrev pub common_rows : ℕ → ℕ → ℕ → ℤ → ℕ → List Dimension → List Dimension → List ℕ → Result (List LinearRow) Refusal
common_rows n m i t j (d ∷ ds) (e ∷ es) (size ∷ sizes) = do
  here ← dimension_rows n m i t j d e size
  rest ← common_rows n m i t (suc j) ds es sizes
  Ok (here ++ rest)
common_rows n m i t j ds es sizes = Ok []

-- a row with exactly so many coefficients
abbrev pub filled : ℕ → LinearRow → LinearRow
filled vars r = record { coefs = take vars (r.coefs ++ replicate vars (pos 0)); constant = r.constant }

-- the variables are those of the outside, then its locals once more for the later turn, then one number for each dimension. The
-- rows are those of the outside at the first turn and at the later one, and for each dimension those that put its number into
-- both boxes
unfoldable pub clash_system : List Dimension → List Dimension → LinearSystem → ℕ → List ℕ → ℕ → ℤ → Result LinearSystem Refusal
clash_system first second outside n sizes i t =
    let m = outside.vars - n in
    let vars = outside.vars + m + length sizes in
    if nat_lt variable_limit vars then Err too_many else (do
      moved ← all_later n m i t outside.rows
      common ← common_rows n m i t (outside.vars + m) first second sizes
      Ok (record { vars = vars; rows = map (filled vars) (outside.rows ++ (moved ++ common)) }))

-- whether there is a scaled point
unfoldable pub clash : List Dimension → List Dimension → LinearSystem → ℕ → List ℕ → ℕ → ℤ → Result Bool Refusal
clash first second outside n sizes i t = do
  system ← clash_system first second outside n sizes i t
  empty ← emptiness system
  Ok (not empty)
