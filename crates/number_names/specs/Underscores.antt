-- How many underscores the prefix of numbered names needs.
use Rattle.std.specs.Prelude.{ℕ, zero, suc, Bool, true, false, List, [], ◌∷◌, drop, nat_eq, nat_lt, if◌then◌else◌, codes}
use Rattle.std.specs.List.{starts_with}
use Rattle.affine_ast.specs.declared.name.Name.{Name}

-- how many underscores a text begins with
abbrev pub run : List ℕ → ℕ
run [] = 0
run (c ∷ cs) = if nat_eq c 95 then suc (run cs) else 0

-- how many a prefix needs not to be a beginning of this name: none where it doesn't begin with `copy`
abbrev pub needed : Name → ℕ
needed n = if n.made then 0 else (if starts_with nat_eq n.text (codes "copy") then suc (run (drop 4 n.text)) else 0)

-- the greater of a number and what a name needs
abbrev pub greater : ℕ → Name → ℕ
greater k n = if nat_lt k (needed n) then needed n else k

-- the greatest of a number and of what the names need
abbrev pub most_from : ℕ → List Name → ℕ
most_from k [] = k
most_from k (n ∷ ns) = most_from (greater k n) ns

-- as many as the name that needs most
abbrev pub most : List Name → ℕ
most ns = most_from 0 ns
