-- How far the accesses of a memref lie from a candidate, and which candidate is the best.
use Rattle.std.specs.Prelude.{ℕ, ℤ, pos, ◌+ℤ◌, ◌-ℤ◌, if◌then◌else◌, int_lt, List, [], ◌∷◌, Option, Some, None, Result, Ok, Err}
use Rattle.std.specs.Int.{int_min, int_max}
use Rattle.constraint_set.specs.Points.{LinearSystem}
use Rattle.constraint_set.specs.Reach.{Reach, never, between, reach_of}
use Rattle.affine_expr.specs.Forms.{Form}
use Rattle.affine_expr.specs.Linear.{minus}
use Rattle.nest_domain.specs.Domains.{row_at}
use Rattle.access_region.specs.declared.span.Span.{Span}
use Rattle.access_region.specs.Faults.{NoRegion, unplaced, ◌>>=◌, by_form, by_elimination}
use Rattle.access_region.specs.Candidates.{Reaching, subscript}

-- the reach of a form over rows
abbrev pub reach_at : LinearSystem → Form → Result Reach NoRegion
reach_at s f = by_elimination (reach_of s (row_at s.vars f))

abbrev pub with_reach : Reach → List Span → List Span
with_reach never spans = spans
with_reach (between least greatest) spans = record { least = least; greatest = greatest } ∷ spans

abbrev pub combination : List ℤ → Form
combination c = record { coefs = c; constant = pos 0 }

-- how far a subscript lies from a combination
abbrev pub distance : ℕ → List ℤ → Reaching → Result Reach NoRegion
distance d c a = do
  difference ← by_form (minus (subscript d a) (combination c))
  reach_at a.system difference

-- an access that its rows let no point reach gives nothing
abbrev pub spans_of : ℕ → List ℤ → List Reaching → Result (List Span) NoRegion
spans_of d c [] = Ok []
spans_of d c (a ∷ xs) = do
  reach ← distance d c a
  spans ← spans_of d c xs
  Ok (with_reach reach spans)

-- from the least of all to the greatest
abbrev pub joined : Span → Span → Span
joined s t = record { least = int_min s.least t.least; greatest = int_max s.greatest t.greatest }

abbrev pub all_joined : Span → List Span → Span
all_joined s [] = s
all_joined s (t ∷ ts) = all_joined (joined s t) ts

-- a candidate with the offset and the extent that hold all accesses
pub record Tried : Type 0 where
  pub coefs : List ℤ
  pub offset : ℤ
  pub extent : ℤ

abbrev pub tried_by : List ℤ → Span → Result Tried NoRegion
tried_by c s =
    let extent = (s.greatest -ℤ s.least) +ℤ pos 1 in
    if int_lt extent (pos 1) then Err unplaced else Ok (record { coefs = c; offset = s.least; extent = extent })

abbrev pub tried_from : List ℤ → List Span → Result Tried NoRegion
tried_from c [] = Err unplaced
tried_from c (s ∷ ss) = tried_by c (all_joined s ss)

abbrev pub tried : ℕ → List Reaching → List ℤ → Result Tried NoRegion
tried d xs c = do
  spans ← spans_of d c xs
  tried_from c spans

-- the least extent, the first at a tie
abbrev pub lesser : Option Tried → Tried → Tried
lesser None t = t
lesser (Some s) t = if int_lt t.extent s.extent then t else s

abbrev pub best : ℕ → List Reaching → List (List ℤ) → Option Tried → Result Tried NoRegion
best d xs [] (Some t) = Ok t
best d xs [] None = Err unplaced
best d xs (c ∷ cs) kept = do
  t ← tried d xs c
  best d xs cs (Some (lesser kept t))
