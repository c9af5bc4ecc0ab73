-- The peak of a module with placements, without its text.
use Rattle.std.specs.Prelude.{◌≡◌, ◌⊎◌, ℕ, ◌+◌, ◌≤◌, max, List, [], ◌∷◌, ◌++◌, None}
use Rattle.affine_ast.specs.declared.module.Module.{Module}
use Rattle.affine_ast.specs.Nest.{Nest, nest}
use Rattle.affine_ast.specs.PlainLimits.{plain_fault}
use Rattle.peak_laws.specs.Peak.{peak_of}
use Rattle.placement_texts.specs.Fold.{Step, staged_all}
use Rattle.placement_texts.specs.Spots.{Spot, IsLoop}
use Rattle.plan_laws.specs.Sites.{lined}
use Rattle.staged_peaks.specs.Bytes.{more_at, step_bytes, bytes_at, most_in, bytes_round, most_within}

-- of a module that meets V13, with all placements of a list staged: the most bytes, over all its loops, of the placements at a loop and at
-- those round it
abbrev pub PeaksAreOfPlacements : Type 0
PeaksAreOfPlacements = (m : Module) → plain_fault m ≡ None → (xs : List Step) → peak_of (staged_all xs (lined (nest m.body))) 0 ≡ most_in (bytes_at xs) (nest m.body)

-- that number: no loop has more with those round it, and one has as many, where it isn't 0
pub record IsMost (bytes : Spot → ℕ) (n : Nest) : Type 0 where
  pub none_more : (s : Spot) → IsLoop s n → bytes_round bytes s n + bytes s ≤ most_in bytes n
  pub one_has_it : (most_in bytes n ≡ 0) ⊎ ((s : Spot) × IsLoop s n × (bytes_round bytes s n + bytes s ≡ most_in bytes n))

abbrev pub MostIsOfLoops : Type 0
MostIsOfLoops = (bytes : Spot → ℕ) (n : Nest) → IsMost bytes n

-- with bytes more at a loop
abbrev pub MoreAtALoop : Type 0
MoreAtALoop = (bytes : Spot → ℕ) (s : Spot) (b : ℕ) (n : Nest) → IsLoop s n
    → most_in (more_at s b bytes) n ≡ max (most_in bytes n) (bytes_round bytes s n + b + most_within bytes s n)

-- and so of one placement more
abbrev pub OnePlacementMore : Type 0
OnePlacementMore = (m : Module) → plain_fault m ≡ None → (xs : List Step) (x : Step) → IsLoop x.spot (nest m.body)
    → peak_of (staged_all (xs ++ x ∷ []) (lined (nest m.body))) 0
    ≡ max (peak_of (staged_all xs (lined (nest m.body))) 0)
    (bytes_round (bytes_at xs) x.spot (nest m.body) + step_bytes x + most_within (bytes_at xs) x.spot (nest m.body))
