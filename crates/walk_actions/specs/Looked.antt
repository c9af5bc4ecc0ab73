-- What tables by number say of names.
use Rattle.std.specs.Prelude.{ℕ, ℤ, map, List, [], ◌∷◌, Option, Some, None, if◌then◌else◌}
use Rattle.affine_ast.specs.declared.name.Name.{Name}
use Rattle.affine_ast.specs.Names.{same_name, put}
use Rattle.direct_meaning.specs.Action as meaning
use Rattle.direct_meaning.specs.Static.{Env, number}
use Rattle.walk_program.specs.Names.{name_at}
use Rattle.walk_actions.specs.declared.action.Home.{Home}
use Rattle.walk_actions.specs.declared.action.Home.TheVariants.{Slow, Fast, Tags}
use Rattle.walk_actions.specs.Bindings.{Bindings}

-- the entry of a name, where the entries stand in the order of the names; none where the name isn't among them
unfoldable pub looked : {A : Type 0} → List Name → List (Option A) → Name → Option A
looked [] entries n = None
looked (m ∷ names) [] n = None
looked (m ∷ names) (x ∷ entries) n = if same_name m n then x else looked names entries n

abbrev pub home_meant : Home → meaning.Home
home_meant (Slow number first) = meaning.SlowMemref number first
home_meant (Fast number) = meaning.FastMemref number
home_meant (Tags first) = meaning.TagMemref first

abbrev pub homes_meant : Option Home → Option meaning.Home
homes_meant None = None
homes_meant (Some home) = Some (home_meant home)

-- what bindings by number say of names
abbrev pub env_of : Bindings → Env
env_of b = record {
  known = looked b.names b.known;
  home = λ n. homes_meant (looked b.names b.homes n);
  fasts = b.fasts;
  tags = b.tags;
}

-- the number that a name has, by the name's number
abbrev pub known_of : Bindings → ℕ → Option ℤ
known_of b k = (env_of b).known (name_at b.names k)

-- the memref that a name stands for, by the name's number
abbrev pub home_of : Bindings → ℕ → Option meaning.Home
home_of b k = (env_of b).home (name_at b.names k)

-- the numbers of names, by the names' numbers
unfoldable pub numbers_at : Bindings → List ℕ → List ℤ
numbers_at b ks = map (λ k. number ((env_of b).known (name_at b.names k))) ks

-- a name with a number, or none
abbrev pub with_known : Name → Option ℤ → Env → Env
with_known n number e = record e { known = put e.known n number }

-- a name that stands for a memref, or none
abbrev pub with_home : Name → Option meaning.Home → Env → Env
with_home n home e = record e { home = put e.home n home }
