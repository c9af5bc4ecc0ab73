-- That every number of a program is the number of a name, and that no list of operands is longer than the program says.
use Rattle.std.specs.Prelude.{ℕ, ◌<◌, ◌≤◌, List, length, All, Option, Some, None}
use Rattle.walk_program.specs.declared.plain.Limit.{Limit}
use Rattle.walk_program.specs.declared.plain.Limit.TheVariants as limit
use Rattle.walk_program.specs.declared.plain.Plain.{Plain}
use Rattle.walk_program.specs.declared.plain.Plain.TheVariants.{Value, Load, Store, RawLoad, RawStore, Constant}
use Rattle.walk_program.specs.declared.plain.Plain.TheVariants.{Binary, Cast, Alloc, Dealloc, Start, Wait, Return}
use Rattle.walk_program.specs.Tree.{Tree, Nothing, Loop, Branch, Does}

-- numbers of operands: each is below the count of names, and they are at most so many
pub record Operands (count width : ℕ) (ks : List ℕ) : Type 0 where
  pub below : All (λ k. k < count) ks
  pub short : length ks ≤ width

abbrev pub LimitFits : ℕ → ℕ → Limit → Type 0
LimitFits count width (limit.Int z) = Unit {0}
LimitFits count width (limit.Value k) = k < count
LimitFits count width (limit.Map at) = Operands count width at.operands

abbrev pub StrideFits : ℕ → Option (ℕ × ℕ) → Type 0
StrideFits count None = Unit {0}
StrideFits count (Some two) = (two.0 < count) × (two.1 < count)

-- of a plain statement
abbrev pub PlainFits : ℕ → ℕ → Plain → Type 0
PlainFits count width (Value r pick at) = (r < count) × Operands count width at.operands
PlainFits count width (Load r m at ty) = (r < count) × (m < count) × Operands count width at.operands
PlainFits count width (Store x m at ty) = (x < count) × (m < count) × Operands count width at.operands
PlainFits count width (RawLoad r m at ty) = (r < count) × (m < count) × Operands count width at
PlainFits count width (RawStore x m at ty) = (x < count) × (m < count) × Operands count width at
PlainFits count width (Constant r z ty) = r < count
PlainFits count width (Binary r op a b ty) = (r < count) × (a < count) × (b < count)
PlainFits count width (Cast r kind x from to) = (r < count) × (x < count)
PlainFits count width (Alloc r ty) = r < count
PlainFits count width (Dealloc m ty) = m < count
PlainFits count width (Start a a_at b b_at t t_at n stride types) =
    (a < count) × Operands count width a_at.operands × (b < count) × Operands count width b_at.operands × (t < count)
    × Operands count width t_at.operands × (n < count) × StrideFits count stride
PlainFits count width (Wait t at n ty) = (t < count) × Operands count width at.operands × (n < count)
PlainFits count width Return = Unit {0}

-- of statements in program order: with a table of `count` names and room for `width` operands, every look-up by number
-- finds its entry and every list of operands has room
abbrev pub Numbered : ℕ → ℕ → Tree → Type 0
Numbered count width Nothing = Unit {0}
Numbered count width (Loop line v l u s inside body rest) =
    (v < count) × LimitFits count width l × LimitFits count width u × Numbered count width body
    × Numbered count width rest
Numbered count width (Branch line set operands first n has other m rest) =
    Operands count width operands × Numbered count width first × Numbered count width other × Numbered count width rest
Numbered count width (Does line p rest) = PlainFits count width p × Numbered count width rest
