-- Texts that break no rule but those that a plan tests: V9, V11 and V12.
use Rattle.std.specs.Prelude.{◌≡◌, ℕ, ◌≤◌, ◌<◌, ◌^◌, ℤ, Bool, true, false, ◌||◌, List, [], ◌∷◌, Option, Some, None, nat_eq}
use Rattle.affine_ast.specs.declared.name.Name.{Name}
use Rattle.affine_ast.specs.declared.types.Bound.{Bound}
use Rattle.affine_ast.specs.Intervals.{first_turn, last_end, turn_range}
use Rattle.affine_ast.specs.Names.{put}
use Rattle.affine_ast.specs.Nest.{Plain, Nest, Nothing, Loop, Branch, Does}
use Rattle.affine_ast.specs.Rules.{may_be_dimension}
use Rattle.affine_ast.specs.Scope.{Variable, MemrefArgument, Scope, ranges_in, Around, behind_plain}
use Rattle.affine_ast.specs.Sizes.{product}
use Rattle.affine_ast.specs.Validity.{Told, Broken, Passed, no_totals}
use Rattle.placement_texts.specs.Spots.{Spot, Here, Behind, Inside, Other}
use Rattle.placement_texts.specs.Template.{Dimension, How, Copies, Transfers, Placement, dim_extents, slow_type}

abbrev pub is_tested : ℕ → Bool
is_tested n = nat_eq n 9 || (nat_eq n 11 || nat_eq n 12)

abbrev pub OnlyTested : Option ℕ → Type 0
OnlyTested None = Unit {0}
OnlyTested (Some n) = is_tested n ≡ true

-- the first broken rule, if there is one, is one of these
abbrev pub BreaksOnlyTested : Told → Type 0
BreaksOnlyTested (Passed t) = Unit {0}
BreaksOnlyTested (Broken line n) = is_tested n ≡ true

-- of the text's names the same is in scope, and the same of them are released; totals and depths may differ
pub record Sees (own : Name → Bool) (a b : Around) : Type 0 where
  pub scope : (n : Name) → own n ≡ true → b.scope n ≡ a.scope n
  pub released : (n : Name) → own n ≡ true → b.released n ≡ a.released n

-- no made name is in scope, and none is released
abbrev pub Fresh : (Name → Bool) → Around → Type 0
Fresh own a = (n : Name) → own n ≡ false → (a.scope n ≡ None) × (a.released n ≡ false)

-- ---- where a placement's memref and values stand in a text

-- the memref is an argument of the written type
pub record Argued (p : Placement) (a : Around) : Type 0 where
  pub scope : a.scope p.memref ≡ Some (MemrefArgument (slow_type p))
  pub live : a.released p.memref ≡ false

-- the terms' values may stand as dimensions
abbrev pub TermsStand : Scope → List (Name × ℤ) → Type 0
TermsStand s [] = Unit {0}
TermsStand s (t ∷ ts) = (may_be_dimension (s t.0) ≡ true) × TermsStand s ts

abbrev pub DimsStand : Scope → List Dimension → Type 0
DimsStand s [] = Unit {0}
DimsStand s (d ∷ ds) = TermsStand s d.terms × DimsStand s ds

-- the names in scope behind a plain statement, and in a loop
abbrev pub behind_scope : Plain → Scope → Scope
behind_scope q s = (behind_plain q (record {
  scope = s;
  released = λ n. false;
  loops = 0;
  ifs = 0;
  totals = no_totals;
})).scope

abbrev pub loop_scope : Name → Bound → Bound → Scope → Scope
loop_scope v l u s = put s v (Some (Variable (turn_range (first_turn (ranges_in s) l) (last_end (ranges_in s) u))))

-- the names in scope at a place of a text
abbrev pub scope_at : Spot → Nest → Scope → Scope
scope_at s Nothing x = x
scope_at Here (Loop line v l u step body rest) x = x
scope_at (Behind s) (Loop line v l u step body rest) x = scope_at s rest x
scope_at (Inside s) (Loop line v l u step body rest) x = scope_at s body (loop_scope v l u x)
scope_at (Other s) (Loop line v l u step body rest) x = x
scope_at Here (Branch line set names first has other rest) x = x
scope_at (Behind s) (Branch line set names first has other rest) x = scope_at s rest x
scope_at (Inside s) (Branch line set names first has other rest) x = scope_at s first x
scope_at (Other s) (Branch line set names first has other rest) x = scope_at s other x
scope_at (Behind s) (Does line q rest) x = scope_at s rest (behind_scope q x)
scope_at s (Does line q rest) x = x

-- a stride and a chunk are as V10 asks for
abbrev pub ChunksWell : How → Type 0
ChunksWell Copies = Unit {0}
ChunksWell (Transfers None) = Unit {0}
ChunksWell (Transfers (Some two)) = (1 ≤ two.1) × (two.1 ≤ two.0) × (two.0 ≤ 1048576)

-- the box has elements, no more than a count can say, and the chunks are well
pub record NumbersWell (p : Placement) : Type 0 where
  pub least : 1 ≤ product (dim_extents p.dims)
  pub most : product (dim_extents p.dims) < 2 ^ 63
  pub chunks : ChunksWell p.how
