-- The names that templates made get the names of a printed text: a prefix and a number each.
use Rattle.std.specs.Prelude.{◌≡◌, ℕ, zero, suc, ◌<◌, Bool, true, false, ◌&&◌, not, List, [], ◌∷◌, ◌++◌, map, nat_eq, if◌then◌else◌, codes}
use Rattle.std.specs.Fmt.{decimal}
use Rattle.std.specs.List.{list_any, starts_with}
use Rattle.affine_ast.specs.declared.module.Arg.{Arg}
use Rattle.affine_ast.specs.declared.module.Module.{Module}
use Rattle.affine_ast.specs.declared.name.Name.{Name}
use Rattle.affine_ast.specs.Names.{same_name}
use Rattle.affine_ast.specs.Nest.{Nest, Nothing, Loop, Branch, Does, nest}
use Rattle.affine_ast.specs.Parts.{results_of}
use Rattle.placement_texts.specs.Renamed.{named}

-- ---- names that are defined

-- the names that statements define, loop variables among them, in text order
unfoldable pub defined : Nest → List Name
defined Nothing = []
defined (Loop line v l u s body rest) = v ∷ defined body ++ defined rest
defined (Branch line set names first has other rest) = defined first ++ (defined other ++ defined rest)
defined (Does line p rest) = results_of p ++ defined rest

-- the names of a module's values: its arguments, and what its statements define
abbrev pub value_names : Module → List Name
value_names m = map (λ (arg : Arg). arg.name) m.args ++ defined (nest m.body)

-- those that templates made
abbrev pub made_of : List Name → List Name
made_of [] = []
made_of (n ∷ ns) = if n.made then n ∷ made_of ns else made_of ns

-- how many names stand before the first that is this one
abbrev pub place_of : Name → List Name → ℕ
place_of n [] = 0
place_of n (x ∷ xs) = if same_name x n then 0 else suc (place_of n xs)

-- ---- the prefix

abbrev pub underscores : ℕ → List ℕ
underscores zero = []
underscores (suc k) = 95 ∷ underscores k

-- `copy` and so many underscores
abbrev pub prefix : ℕ → List ℕ
prefix k = codes "copy" ++ underscores k

-- a name of a text that begins with these bytes
abbrev pub begins : List ℕ → Name → Bool
begins bytes n = not n.made && starts_with nat_eq n.text bytes

-- the prefix is no beginning of a name of the text, and each shorter one is
pub record IsPrefix (k : ℕ) (names : List Name) : Type 0 where
  pub free : list_any (begins (prefix k)) names ≡ false
  pub least : (j : ℕ) → j < k → list_any (begins (prefix j)) names ≡ true

-- ---- numbers

-- `copyN`, for the made name that is defined behind N others
abbrev pub number_of : ℕ → List Name → Name → Name
number_of k names n = record { text = prefix k ++ decimal (place_of n (made_of names)); made = false }

abbrev pub numbered_name : ℕ → List Name → Name → Name
numbered_name k names n = if n.made then number_of k names n else n

abbrev pub numbered_arg : (Name → Name) → Arg → Arg
numbered_arg f arg = record arg { name = f arg.name }

-- a module whose made names have their numbers; nothing else differs
pub record IsNumbered (m q : Module) : Type 0 where
  pub underscore_count : ℕ
  pub prefix_is : IsPrefix underscore_count (value_names m)
  pub name : q.name ≡ m.name
  pub args : q.args ≡ map (numbered_arg (numbered_name underscore_count (value_names m))) m.args
  pub body : nest q.body ≡ named (numbered_name underscore_count (value_names m)) (nest m.body)
