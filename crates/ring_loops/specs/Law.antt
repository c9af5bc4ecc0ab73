-- What is proved of the loops of a doubled loop.
use Rattle.std.specs.Prelude.{◌≡◌, ℕ, ◌≤◌, ℤ, pos, ◌<ℤ◌, Bool, true, false, List}
use Rattle.std.specs.List.{list_any}
use Rattle.affine_ast.specs.declared.name.Name.{Name}
use Rattle.affine_ast.specs.declared.types.Bound.{Bound}
use Rattle.affine_ast.specs.Names.{same_name}
use Rattle.affine_ast.specs.Nest.{Nest}
use Rattle.affine_ast.specs.Rules.{is_in, is_new}
use Rattle.affine_ast.specs.Scope.{Scope}
use Rattle.loop_forms.specs.declared.parts.Parts.{Parts}
use Rattle.loop_forms.specs.Split.{split_of}
use Rattle.numbered_names.specs.Numbers.{defined, made_of}
use Rattle.placement_texts.specs.Own.{OwnNames}
use Rattle.placement_texts.specs.Renamed.{named, KeepsApart}
use Rattle.placement_texts.specs.Template.{Placement}
use Rattle.ring_plans.specs.Rings.{started, twin, twin_text}
use Rattle.ring_loops.specs.Starts.{started_scope, CanStarts, IsNoPlace}
use Rattle.ring_validity.specs.Openings.{BoundWell}
use Rattle.ring_validity.specs.Wells.{WellFormed}

-- of a text whose names, in scope or defined, are these: under new names, that stand for what the old ones do and are as much released
abbrev pub RenamedStaysWell : Type 0
RenamedStaysWell = (f : Name → Name) (own : Name → Bool) (n : Nest) (s t : Scope) (d e : Name → Bool) → KeepsApart f own → ((m : Name) → is_in s m ≡ true → own m ≡ true) → OwnNames own (defined n)
    → ((m : Name) → own m ≡ true → t (f m) ≡ s m) → ((m : Name) → own m ≡ true → e (f m) ≡ d m) → WellFormed n s d → WellFormed (named f n) t e

-- where other names are in scope too
abbrev pub MoreStaysWell : Type 0
MoreStaysWell = (own : Name → Bool) (n : Nest) (s t : Scope) (d e : Name → Bool) → ((m : Name) → is_in s m ≡ true → own m ≡ true) → OwnNames own (defined n)
    → ((m : Name) → own m ≡ true → t m ≡ s m) → ((m : Name) → own m ≡ true → e m ≡ d m) → WellFormed n s d → WellFormed n t e

-- ---- twins
-- the made names that a text defines have twins that are new, in scope and in the text
pub record TwinsAreNew (n : Nest) (s : Scope) : Type 0 where
  pub scope : (r : Name) → list_any (same_name r) (made_of (defined n)) ≡ true → is_new s (twin r) ≡ true
  pub text : (r : Name) → list_any (same_name r) (made_of (defined n)) ≡ true → list_any (same_name (twin r)) (defined n) ≡ false

-- only what is in scope has been released
abbrev pub ReleasedAreKnown : Scope → (Name → Bool) → Type 0
ReleasedAreKnown s d = (m : Name) → is_in s m ≡ false → d m ≡ false

abbrev pub EpilogueStaysWell : Type 0
EpilogueStaysWell = (n : Nest) (s : Scope) (d : Name → Bool) → TwinsAreNew n s → ReleasedAreKnown s d → WellFormed n s d → WellFormed (twin_text n) s d

-- ---- the three loops of a split
-- the bounds of the three loops can stand
pub record PartsWell (s : Scope) (parts : Parts) : Type 0 where
  pub prologue_from : BoundWell s parts.prologue.0
  pub prologue_to : BoundWell s parts.prologue.1
  pub main_from : BoundWell s parts.main.0
  pub main_to : BoundWell s parts.main.1
  pub epilogue_from : BoundWell s parts.epilogue.0
  pub epilogue_to : BoundWell s parts.epilogue.1

abbrev pub SplitStaysWell : Type 0
SplitStaysWell = (lower upper : Bound) (step : ℤ) (buffers : ℕ) (s : Scope) → pos 0 <ℤ step → BoundWell s lower → BoundWell s upper → PartsWell s (split_of lower upper step buffers)

-- ---- starts ahead
-- they are well-formed where what they need is in scope, and what follows is where their places are in scope too; nothing else changes
pub record StartsWell (buffers : ℕ) (v : Name) (lower upper : Bound) (step : ℤ) (f : Name → Name) (z : ℤ) (ps : List Placement) (s : Scope) (d : Name → Bool) : Type 0 where
  pub text : (rest : Nest) → WellFormed rest (started_scope buffers v lower upper step f z ps s) d → WellFormed (started buffers v lower upper step f z ps rest) s d
  pub others : (n : Name) → IsNoPlace buffers v lower upper step f z n ps → started_scope buffers v lower upper step f z ps s n ≡ s n

abbrev pub StartsStayWell : Type 0
StartsStayWell = (buffers : ℕ) (v : Name) (lower upper : Bound) (step : ℤ) (f : Name → Name) (z : ℤ) (ps : List Placement) (s : Scope) (d : Name → Bool) → 1 ≤ buffers → pos 0 <ℤ step
    → CanStarts buffers v lower upper step f z s d ps → StartsWell buffers v lower upper step f z ps s d
