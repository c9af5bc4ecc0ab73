-- Places in a text by the path of a statement: the positions are counted over the statements with a line.
use Rattle.std.specs.Prelude.{◌≡◌, ℕ, zero, suc, ◌<◌, Bool, true, false, nat_eq, if◌then◌else◌, List, [], ◌∷◌, ◌++◌, length}
use Rattle.affine_ast.specs.declared.stmt.Stmt.{Stmt}
use Rattle.placement_texts.specs.Spots.{Spot, Here, Behind, Inside, Other}

-- behind so many statements
abbrev pub behind_all : ℕ → Spot → Spot
behind_all zero s = s
behind_all (suc k) s = Behind (behind_all k s)

-- from a statement inward: at each step a position in one of its regions, with the mark `true` in its `else` region
abbrev pub inward : List (ℕ × Bool) → Spot
inward [] = Here
inward (x ∷ xs) = if x.1 then Other (behind_all x.0 (inward xs)) else Inside (behind_all x.0 (inward xs))

-- the place that a path names
abbrev pub spot_of : List (ℕ × Bool) → Spot
spot_of [] = Here
spot_of (x ∷ xs) = behind_all x.0 (inward xs)

-- how many statements have a line
abbrev pub line_count : List Stmt → ℕ
line_count [] = 0
line_count (s ∷ ss) = if nat_eq s.line 0 then line_count ss else suc (line_count ss)

-- a list with a statement that has a line, and so many that have one before it
pub record IsParted (ss : List Stmt) (k : ℕ) (front : List Stmt) (s : Stmt) (back : List Stmt) : Type 0 where
  pub whole : ss ≡ front ++ (s ∷ back)
  pub counted : line_count front ≡ k
  pub line : nat_eq s.line 0 ≡ false

-- the position of such a statement, counted over all
pub record IsPlaceOf (ss : List Stmt) (k i : ℕ) : Type 0 where
  pub within : i < length ss
  pub parted : (front : List Stmt) (s : Stmt) (back : List Stmt) → ss ≡ front ++ (s ∷ back) → length front ≡ i → IsParted ss k front s back
