-- All placements of a plan, staged one after the other.
use Rattle.std.specs.Prelude.{◌≡◌, ◌⊎◌, ℕ, suc, ◌+◌, ◌≤◌, Bool, true, false, List, [], ◌∷◌, Option, Some, None, nat_le}
use Rattle.affine_ast.specs.declared.name.Name.{Name}
use Rattle.affine_ast.specs.Names.{same_name}
use Rattle.affine_ast.specs.Nest.{Nest}
use Rattle.affine_ast.specs.Sizes.{product}
use Rattle.direct_meaning.specs.Action.{Home, SlowMemref, FastMemref, TagMemref}
use Rattle.direct_meaning.specs.Static.{Env}
use Rattle.placement_texts.specs.Labels.{Numbers}
use Rattle.placement_texts.specs.Own.{OwnNest}
use Rattle.boxes.specs.Every.{Every}
use Rattle.placement_texts.specs.Each.{Each}
use Rattle.placement_texts.specs.Template.{Placement, dim_sizes, dim_extents, tags_made}
use Rattle.placement_texts.specs.Regions.{OwnDims, Apart}
use Rattle.placement_texts.specs.OneTag.{InText, TagIsOne}
use Rattle.placement_texts.specs.Spots.{Spot, IsLoop, HasLine, Disjoint, found, stage_one, fasts_before, tags_before, FineAt}
use Rattle.placement_texts.specs.Law.{TwoReadings}

-- a placement, its loop counted over the statements with a line, and the memref's number and first slow place
pub record Step : Type 0 where
  pub placement : Placement
  pub spot : Spot
  pub order : ℕ
  pub first : ℕ

abbrev pub staged_all : List Step → Nest → Nest
staged_all [] n = n
staged_all (s ∷ ss) n = staged_all ss (stage_one s.placement s.spot n)

-- the numbers that the template takes in a text
abbrev pub numbers_at : Step → Nest → Env → Numbers
numbers_at s n e = record {
  fast = e.fasts + fasts_before (found s.spot n) n;
  tag = e.tags + tags_before (found s.spot n) n;
  tags = tags_made s.placement s.placement.how;
}

-- no allocation is in scope before the text
abbrev pub IsSlow : Option Home → Type 0
IsSlow None = Unit {0}
IsSlow (Some (SlowMemref number first)) = Unit {0}
IsSlow (Some (FastMemref number)) = ⊥
IsSlow (Some (TagMemref first)) = ⊥

-- which step makes a name, counted from 1: 0 for those of the text
module _ (made_by : Name → ℕ) where
  -- names that are there before a step
  abbrev pub there : ℕ → Name → Bool
  there k n = nat_le (made_by n) k

  -- a step's names are made by it; what it speaks of is the text's
  pub record Fits (k : ℕ) (s : Step) : Type 0 where
    pub made : (i : ℕ) → made_by (s.placement.name i) ≡ suc k
    pub apart : (i j : ℕ) → same_name (s.placement.name i) (s.placement.name j) ≡ true → i ≡ j
    pub memref_own : there 0 s.placement.memref ≡ true
    pub dims_own : OwnDims (there 0) s.placement.dims
    pub elements : 1 ≤ product (dim_extents s.placement.dims)

  abbrev pub AllFit : ℕ → List Step → Type 0
  AllFit k [] = Unit {0}
  AllFit k (s ∷ ss) = Fits k s × AllFit (suc k) ss

  -- what is asked of the original text for a step
  pub record IsReady (n : Nest) (e : Env) (s : Step) : Type 0 where
    pub loop : IsLoop (found s.spot n) n
    pub line : HasLine (found s.spot n) n
    pub fine : FineAt s.placement s.order s.first (found s.spot n) n e

  -- a later step stages another memref, or at a loop apart
  abbrev pub Parted : Step → Step → Type 0
  Parted s o = (same_name o.placement.memref s.placement.memref ≡ false) ⊎ Disjoint o.spot s.spot

  abbrev pub AllParted : List Step → Type 0
  AllParted [] = Unit {0}
  AllParted (s ∷ ss) = Every (Parted s) ss × AllParted ss

  -- what scope and types give of each text on the way, by its validity: accesses of other memrefs go to other places
  abbrev pub AllApart : List Step → Nest → Env → Type 0
  AllApart [] n e = Unit {0}
  AllApart (s ∷ ss) n e = Each (Apart s.placement.memref s.first (dim_sizes s.placement.dims)) n e
      × AllApart ss (stage_one s.placement s.spot n) e

-- each text on the way and the next one are two readings of one list of parts
abbrev pub AllRead : List Step → Nest → Env → Type 0
AllRead [] n e = Unit {0}
AllRead (s ∷ ss) n e = TwoReadings s.placement s.order s.first (numbers_at s n e) (found s.spot n) n e e
    × AllRead ss (stage_one s.placement s.spot n) e

abbrev pub AllTextsAgree : Type 0
AllTextsAgree = (made_by : Name → ℕ) (ss : List Step) (n : Nest) (e : Env) → OwnNest (there made_by 0) n
    → AllFit made_by 0 ss → Every (IsReady made_by n e) ss → AllParted made_by ss
    → ((m : Name) → IsSlow (e.home m)) → InText TagIsOne n → AllApart made_by ss n e → AllRead ss n e
