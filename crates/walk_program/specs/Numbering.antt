-- How the table of names grows while a module is numbered, and what stands from then on.
use Rattle.std.specs.Prelude.{◌≡◌, ℕ, ◌<◌, ◌≤◌, max, List, [], ◌∷◌, ◌++◌, length, map, All, Option}
use Rattle.affine_ast.specs.declared.module.Arg.{Arg}
use Rattle.affine_ast.specs.declared.name.Name.{Name}
use Rattle.affine_ast.specs.declared.types.Access.{Access}
use Rattle.affine_ast.specs.declared.types.Bound.{Bound}
use Rattle.affine_ast.specs.Nest as named
use Rattle.affine_ast.specs.Nest.{Nest}
use Rattle.walk_program.specs.declared.plain.Limit.{Limit}
use Rattle.walk_program.specs.declared.plain.Plain.{Plain}
use Rattle.walk_program.specs.declared.plain.Subscripts.{Subscripts}
use Rattle.walk_program.specs.declared.program.Argument.{Argument}
use Rattle.walk_program.specs.declared.statement.Counts.{Counts}
use Rattle.walk_program.specs.declared.statement.Statement.{Statement}
use Rattle.walk_program.specs.declared.numbering.Key.{Key}
use Rattle.walk_program.specs.Counted.{CountsOf, Counted}
use Rattle.walk_program.specs.Names.{name_at, all_listed, uses_in_plain, uses_in}
use Rattle.walk_program.specs.Numbered.{Operands, LimitFits, StrideFits, PlainFits, Numbered}
use Rattle.walk_program.specs.Reading.{names_at, access_of, bound_of, stride_of, plain_of, nest_of, arguments_of}
use Rattle.walk_program.specs.Tree.{Tree, tree}
use Rattle.walk_program.specs.Widths.{width_in_plain, width_in}

-- the names so far, each once, and how many operands the longest list of them so far has
pub record Table : Type 0 where
  pub names : List Name
  pub width : ℕ

abbrev pub name_of : Key → Name
name_of key = record { text = key.text.now; made = key.made }

-- the names that keys stand for
abbrev pub names_of_keys : List Key → List Name
names_of_keys keys = map name_of keys

-- a table with further names behind those of another, and at least its width
pub record Grows (old new : Table) : Type 0 where
  pub more : List Name
  pub names : new.names ≡ old.names ++ more
  pub width : old.width ≤ new.width

-- what is so of a table and of each that it grows to
abbrev pub Lasting : (Table → Type 0) → Table → Type 0
Lasting P now = (t : Table) → Grows now t → P t

-- numbering a part of a text with these names and this longest list of operands: the table takes them in, and from then
-- on this is so of the result
pub record Numbers (P : Table → Type 0) (uses : List Name) (width : ℕ) (old new : Table) : Type 0 where
  pub names : new.names ≡ all_listed old.names uses
  pub wide : new.width ≡ max old.width width
  pub lasting : Lasting P new

-- a part with numbers stands for a part with names: read by the table it is that part, and its numbers fit the table
pub record Stands {X Y : Type 0} (Fit : ℕ → ℕ → X → Type 0) (reading : List Name → X → Y) (x : X) (y : Y)
    (t : Table) : Type 0 where
  pub fits : Fit (length t.names) t.width x
  pub reads : reading t.names x ≡ y

abbrev pub IsBelow : ℕ → ℕ → ℕ → Type 0
IsBelow count width k = k < count

abbrev pub AreBelow : ℕ → ℕ → List ℕ → Type 0
AreBelow count width ks = All (λ k. k < count) ks

abbrev pub IsNumber : ℕ → Name → Table → Type 0
IsNumber = Stands IsBelow name_at

-- numbers of names, however many
abbrev pub AreNumbers : List ℕ → List Name → Table → Type 0
AreNumbers = Stands AreBelow names_at

-- numbers of names, no more than the width
abbrev pub AreOperands : List ℕ → List Name → Table → Type 0
AreOperands = Stands Operands names_at

abbrev pub SubscriptsFit : ℕ → ℕ → Subscripts → Type 0
SubscriptsFit count width at = Operands count width at.operands

abbrev pub IsSubscripts : Subscripts → Access → Table → Type 0
IsSubscripts = Stands SubscriptsFit access_of

abbrev pub IsLimit : Limit → Bound → Table → Type 0
IsLimit = Stands LimitFits bound_of

abbrev pub StrideIsBelow : ℕ → ℕ → Option (ℕ × ℕ) → Type 0
StrideIsBelow count width stride = StrideFits count stride

abbrev pub IsStride : Option (ℕ × ℕ) → Option (Name × Name) → Table → Type 0
IsStride = Stands StrideIsBelow stride_of

abbrev pub IsPlain : Plain → named.Plain → Table → Type 0
IsPlain = Stands PlainFits plain_of

-- a plain statement is numbered
abbrev pub NumbersPlain : Plain → named.Plain → Table → Table → Type 0
NumbersPlain p q = Numbers (IsPlain p q) (uses_in_plain q) (width_in_plain q)

-- statements with numbers stand for statements with names, and their counts are right
pub record IsTree (statements : Tree) (n : Nest) (t : Table) : Type 0 where
  pub stands : Stands Numbered nest_of statements n t
  pub counted : Counted t.names statements

-- statements are numbered
abbrev pub NumbersNest : Tree → Nest → Table → Table → Type 0
NumbersNest statements n = Numbers (IsTree statements n) (uses_in n) (width_in n)

-- a region is numbered, with what is allocated in it
pub record IsRegion (statements : List Statement) (inside : Counts) (n : Nest) (t : Table) : Type 0 where
  pub stands : IsTree (tree statements) n t
  pub counts : CountsOf n inside

abbrev pub NumbersRegion : List Statement → Counts → Nest → Table → Table → Type 0
NumbersRegion statements inside n = Numbers (IsRegion statements inside n) (uses_in n) (width_in n)

-- whatever the names are, where the counts inside a statement are right these are the statement's own
abbrev pub AreCounts : Statement → Counts → Type 0
AreCounts s counts = (names : List Name) → Counted names (tree (s ∷ []))
    → CountsOf (nest_of names (tree (s ∷ []))) counts

-- likewise of a plain statement
abbrev pub ArePlainCounts : Plain → Counts → Type 0
ArePlainCounts p counts = (names : List Name) → CountsOf (named.Does 0 (plain_of names p) named.Nothing) counts

abbrev pub ArgumentsFit : ℕ → ℕ → List Argument → Type 0
ArgumentsFit count width arguments = All (λ (a : Argument). a.name < count) arguments

abbrev pub AreArguments : List Argument → List Arg → Table → Type 0
AreArguments = Stands ArgumentsFit arguments_of
