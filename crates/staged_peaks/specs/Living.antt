-- The bytes of placements along the way to the block whose turn it is.
use Rattle.std.specs.Prelude.{◌≡◌, ◌⊎◌, ℕ, zero, suc, ◌+◌, ◌<◌, ◌^◌, max, Bool, ◌&&◌, nat_eq, nat_le, if◌then◌else◌, List, [], ◌∷◌, ◌++◌, map, length, take, drop, get_or, reverse, Option, Some, None, SomeIff}
use mathlib.Core.Bool.{beq}
use Rattle.affine_ast.specs.declared.module.Module.{Module}
use Rattle.affine_ast.specs.Nest.{Nest, Loop, Branch, Does, nest}
use Rattle.affine_ast.specs.PlainLimits.{plain_fault}
use Rattle.boxes.specs.Every.{Every}
use Rattle.loop_paths.specs.declared.paths.LoopPath.{LoopPath}
use Rattle.loop_paths.specs.Found.{found_of, found_at}
use Rattle.peak_laws.specs.Peak.{peak_of}
use Rattle.placement_texts.specs.Fold.{Step, staged_all}
use Rattle.placement_texts.specs.Spots.{Spot, Here, Behind, Inside, Other, IsLoop, stage_one}
use Rattle.plan_laws.specs.Sites.{Holds, lined, loops_at, loops_round, path_of}
use Rattle.staged_peaks.specs.Bytes.{step_bytes, bytes_at, most_in}
use Rattle.staged_peaks.specs.declared.live.Live.{Live}
use Rattle.staged_peaks.specs.declared.live.LiveLoop.{LiveLoop}

-- ---- a way in numbers
-- how many steps two paths have in common at their beginning
abbrev pub same_step : ℕ × Bool → ℕ × Bool → Bool
same_step x y = nat_eq x.0 y.0 && beq x.1 y.1

abbrev pub shared : List (ℕ × Bool) → List (ℕ × Bool) → ℕ
shared [] ys = 0
shared (x ∷ xs) [] = 0
shared (x ∷ xs) (y ∷ ys) = if same_step x y then suc (shared xs ys) else 0

-- how many loops on the way are on the next one, too
abbrev pub kept_of : ℕ → List LiveLoop → List ℕ → ℕ
kept_of common [] ks = 0
kept_of common (x ∷ xs) [] = 0
kept_of common (x ∷ xs) (k ∷ ks) = if nat_le x.steps common then suc (kept_of common xs ks) else 0

-- a loop that no placement stands at or in
abbrev pub entered : ℕ → LiveLoop
entered steps = record { steps = steps; own = 0; below = 0 }

-- the way to a block whose path, and those of the loops round it, have these lengths
abbrev pub next_way : ℕ → List LiveLoop → List ℕ → List LiveLoop
next_way common xs ks = take (kept_of common xs ks) xs ++ map entered (drop (kept_of common xs ks) ks)

-- the bytes of the loops down to one, with so many more there, and the most in it
abbrev pub reach : ℕ → ℕ → List LiveLoop → ℕ
reach place bytes [] = bytes
reach zero bytes (x ∷ xs) = x.own + bytes + x.below
reach (suc i) bytes (x ∷ xs) = x.own + reach i bytes xs

-- with so many bytes more at a loop, which count for those round it
abbrev pub raised : ℕ → ℕ → List LiveLoop → List LiveLoop
raised place bytes [] = []
raised zero bytes (x ∷ xs) = record { steps = x.steps; own = x.own + bytes; below = x.below } ∷ xs
raised (suc i) bytes (x ∷ xs) = record { steps = x.steps; own = x.own; below = max x.below (reach i bytes xs) } ∷ raised i bytes xs

abbrev pub peak_more : Live → ℕ → ℕ → ℕ
peak_more live place bytes = max live.most (reach place bytes live.way)

-- ---- what it says of a text and placements
-- the loops on the way to a place, from the outside in, and the loop there: the length of the path of each (those of the statements of
-- this text have so many steps), its bytes, and the most in it
abbrev pub IsWay : ℕ → (Spot → ℕ) → Spot → Nest → List LiveLoop → Type 0
IsWay d bytes (Behind s) (Loop line v l u step body rest) xs = IsWay d (λ t. bytes (Behind t)) s rest xs
IsWay d bytes Here (Loop line v l u step body rest) (x ∷ []) = (x.steps ≡ d) × (x.own ≡ bytes Here) × (x.below ≡ most_in (λ t. bytes (Inside t)) body)
IsWay d bytes (Inside s) (Loop line v l u step body rest) (x ∷ xs) =
    (x.steps ≡ d) × (x.own ≡ bytes Here) × (x.below ≡ most_in (λ t. bytes (Inside t)) body) × IsWay (suc d) (λ t. bytes (Inside t)) s body xs
IsWay d bytes (Behind s) (Branch line set names first has other rest) xs = IsWay d (λ t. bytes (Behind t)) s rest xs
IsWay d bytes (Inside s) (Branch line set names first has other rest) xs = IsWay (suc d) (λ t. bytes (Inside t)) s first xs
IsWay d bytes (Other s) (Branch line set names first has other rest) xs = IsWay (suc d) (λ t. bytes (Other t)) s other xs
IsWay d bytes (Behind s) (Does line q rest) xs = IsWay d (λ t. bytes (Behind t)) s rest xs
IsWay d bytes s n xs = ⊥

abbrev pub last_of : List Spot → Option Spot
last_of [] = None
last_of (s ∷ []) = Some s
last_of (s ∷ t ∷ ss) = last_of (t ∷ ss)

abbrev pub IsWayTo : Nest → (Spot → ℕ) → Option Spot → Live → Type 0
IsWayTo n bytes None live = live.way ≡ []
IsWayTo n bytes (Some s) live = IsLoop s n × (live.at.steps ≡ path_of s) × IsWay 1 bytes s n live.way

-- one of these blocks is the place, or lies in its loop
abbrev pub HoldsOne : Spot → List Spot → Type 0
HoldsOne t [] = ⊥
HoldsOne t (s ∷ ss) = Holds t s ⊎ HoldsOne t ss

-- of a text whose blocks so far are these, the last one the block whose turn it is, with placements at loops that hold one of them
pub record Lives (n : Nest) (blocks : List Spot) (xs : List Step) (live : Live) : Type 0 where
  pub most : live.most ≡ most_in (bytes_at xs) n
  pub way : IsWayTo n (bytes_at xs) (last_of blocks) live
  pub sites : Every (λ x. HoldsOne x.spot blocks) xs

-- the loops that a placement for the block may stand at, from the outside in
abbrev pub sites_of : Nest → Spot → List Spot
sites_of n s = reverse (loops_round s n) ++ s ∷ []

-- a placement that takes so many bytes, at one of them
pub record IsSite (n : Nest) (s : Spot) (place bytes : ℕ) (x : Step) : Type 0 where
  pub within : place < length (sites_of n s)
  pub spot : x.spot ≡ get_or (sites_of n s) place s
  pub taken : step_bytes x ≡ bytes

-- the text of a module with these placements and one more
abbrev pub text_more : Module → List Step → Step → Nest
text_more m xs x = stage_one x.placement x.spot (staged_all xs (lined (nest m.body)))

-- of a module that meets V13: the peak of the text that has it, where that is a number of 64 bits
abbrev pub PeakIs : Live → ℕ → ℕ → Option ℕ → Type 0
PeakIs live place bytes peak = (m : Module) → plain_fault m ≡ None → (blocks : List Spot) (s : Spot) (xs : List Step) (x : Step)
    → Lives (nest m.body) (blocks ++ s ∷ []) xs live → IsSite (nest m.body) s place bytes x
    → SomeIff peak (peak_of (text_more m xs x) 0 < 2 ^ 64) (peak_of (text_more m xs x) 0)

-- what is kept is then that of the placements with this one
abbrev pub Added : Live → ℕ → ℕ → Live → Type 0
Added old place bytes new = (n : Nest) (blocks : List Spot) (s : Spot) (xs : List Step) (x : Step)
    → Lives n (blocks ++ s ∷ []) xs old → IsSite n s place bytes x → Lives n (blocks ++ s ∷ []) (xs ++ x ∷ []) new

-- the blocks are the loops at a depth, in text order, and this one is the next
abbrev pub Went : Live → LoopPath → Live → Type 0
Went old next new = (n : Nest) (depth : ℕ) (blocks : List Spot) (s : Spot) (rest : List Spot) (xs : List Step)
    → loops_at depth n ≡ blocks ++ s ∷ rest → found_of next ≡ found_at n s → Lives n blocks xs old → Lives n (blocks ++ s ∷ []) xs new
