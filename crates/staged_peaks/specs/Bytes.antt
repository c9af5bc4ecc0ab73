-- Bytes of fast memory at the loops of a text, and the most that loops inside one another have together.
use Rattle.std.specs.Prelude.{ℕ, ◌+◌, max, List, [], ◌∷◌, sum_by}
use Rattle.affine_ast.specs.Nest.{Nest, Nothing, Loop, Branch, Does}
use Rattle.peak_laws.specs.Peak.{fast_bytes}
use Rattle.placement_texts.specs.Fold.{Step}
use Rattle.placement_texts.specs.Spots.{Spot, Here, Behind, Inside, Other}
use Rattle.placement_texts.specs.Template.{fast_type}
use Rattle.plan_laws.specs.Sites.{loops_round}

-- so many bytes more at a place
abbrev pub more_at : Spot → ℕ → (Spot → ℕ) → Spot → ℕ
more_at Here b bytes Here = bytes Here + b
more_at (Behind s) b bytes (Behind t) = more_at s b (λ u. bytes (Behind u)) t
more_at (Inside s) b bytes (Inside t) = more_at s b (λ u. bytes (Inside u)) t
more_at (Other s) b bytes (Other t) = more_at s b (λ u. bytes (Other u)) t
more_at s b bytes t = bytes t

-- the bytes that a placement takes, once for all turns of its loop
abbrev pub step_bytes : Step → ℕ
step_bytes x = fast_bytes (fast_type x.placement)

-- those of the placements at the loop there
abbrev pub bytes_at : List Step → Spot → ℕ
bytes_at [] s = 0
bytes_at (x ∷ xs) s = more_at x.spot (step_bytes x) (bytes_at xs) s

-- the most bytes, over all loops of the text, of a loop and those round it
abbrev pub most_in : (Spot → ℕ) → Nest → ℕ
most_in bytes Nothing = 0
most_in bytes (Loop line v l u s body rest) = max (bytes Here + most_in (λ t. bytes (Inside t)) body) (most_in (λ t. bytes (Behind t)) rest)
most_in bytes (Branch line set names first has other rest) =
    max (most_in (λ t. bytes (Inside t)) first) (max (most_in (λ t. bytes (Other t)) other) (most_in (λ t. bytes (Behind t)) rest))
most_in bytes (Does line q rest) = most_in (λ t. bytes (Behind t)) rest

-- the bytes at the loops round a place
abbrev pub bytes_round : (Spot → ℕ) → Spot → Nest → ℕ
bytes_round bytes s n = sum_by bytes (loops_round s n)

-- the most bytes of the loop there and of those in it
abbrev pub most_within : (Spot → ℕ) → Spot → Nest → ℕ
most_within bytes Here (Loop line v l u s body rest) = bytes Here + most_in (λ t. bytes (Inside t)) body
most_within bytes (Inside s) (Loop line v l u step body rest) = most_within (λ t. bytes (Inside t)) s body
most_within bytes (Behind s) (Loop line v l u step body rest) = most_within (λ t. bytes (Behind t)) s rest
most_within bytes (Inside s) (Branch line set names first has other rest) = most_within (λ t. bytes (Inside t)) s first
most_within bytes (Other s) (Branch line set names first has other rest) = most_within (λ t. bytes (Other t)) s other
most_within bytes (Behind s) (Branch line set names first has other rest) = most_within (λ t. bytes (Behind t)) s rest
most_within bytes (Behind s) (Does line q rest) = most_within (λ t. bytes (Behind t)) s rest
most_within bytes s n = 0
