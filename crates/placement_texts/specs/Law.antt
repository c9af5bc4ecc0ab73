-- The laws of a text in which one memref is staged.
use Rattle.std.specs.Prelude.{◌≡◌, ◌⊎◌, ℕ, ◌+◌, Bool, true, false}
use Rattle.affine_ast.specs.declared.name.Name.{Name}
use Rattle.affine_ast.specs.Names.{same_name}
use Rattle.affine_ast.specs.Nest.{Nest}
use Rattle.direct_meaning.specs.Static.{Env}
use Rattle.direct_meaning.specs.Actions.{actions}
use Rattle.placement_texts.specs.Labels.{Numbers, home_up}
use Rattle.placement_texts.specs.Own.{OwnNest, MadeNames}
use Rattle.placement_texts.specs.Each.{Each}
use Rattle.placement_texts.specs.Template.{Placement, dim_sizes, tags_made}
use Rattle.placement_texts.specs.Regions.{OwnDims, Tidy}
use Rattle.placement_texts.specs.Parts.{original, staged}
use Rattle.placement_texts.specs.Spots.{Spot, IsLoop, HasLine, Disjoint, found, staged_at, fasts_before, tags_before, parts_at, FineAt}

-- a placement suits a text: its names are made, the memref and the values that say where the box begins are the text's, and the
-- new numbers are those of its place in the text, whose first numbers are those of e
pub record Suits (own : Name → Bool) (p : Placement) (new : Numbers) (s : Spot) (n : Nest) (e : Env) : Type 0 where
  pub loop : IsLoop s n
  pub names : MadeNames own p.name
  pub memref_own : own p.memref ≡ true
  pub dims_own : OwnDims own p.dims
  pub text_own : OwnNest own n
  pub fast : e.fasts + fasts_before s n ≡ new.fast
  pub tag : e.tags + tags_before s n ≡ new.tag
  pub tags : new.tags ≡ tags_made p p.how

-- what is known before two texts of which one has the other's statements and made ones: of the names of the text it is the same,
-- up to numbers of memrefs
pub record Alike (own : Name → Bool) (new : Numbers) (e g : Env) : Type 0 where
  pub known : (n : Name) → own n ≡ true → g.known n ≡ e.known n
  pub home : (n : Name) → own n ≡ true → g.home n ≡ home_up new (e.home n)
  pub fasts : g.fasts ≡ e.fasts
  pub tags : g.tags ≡ e.tags

-- both lists of actions are readings of one list of parts
pub record TwoReadings (p : Placement) (order first : ℕ) (new : Numbers) (s : Spot) (n : Nest)
    (e g : Env) : Type 0 where
  pub first_reading : original (parts_at p s n e) ≡ actions n e
  pub second_reading : staged p order first new (parts_at p s n e) ≡ actions (staged_at p s n) g

abbrev pub TextsAgree : Type 0
TextsAgree = (own : Name → Bool) (p : Placement) (order first : ℕ) (new : Numbers) (s : Spot) (n : Nest) (e g : Env)
    → Suits own p new s n e → Alike own new e g → Each (Tidy new p.memref first (dim_sizes p.dims)) n e
    → FineAt p order first s n e → TwoReadings p order first new s n e g

-- what has to hold at another placement's loop holds there in the staged text too: a placement of another memref, or at a loop
-- apart
abbrev pub CarriesOver : Type 0
CarriesOver = (own : Name → Bool) (p : Placement) (order first : ℕ) (new : Numbers) (s : Spot) (n : Nest) (e g : Env)
    → Suits own p new s n e → HasLine s n → Alike own new e g → FineAt p order first s n e
    → (o : Placement) (order' first' : ℕ) (t : Spot) → own o.memref ≡ true → OwnDims own o.dims
    → (same_name o.memref p.memref ≡ false) ⊎ Disjoint (found t n) s
    → FineAt o order' first' (found t n) n e → FineAt o order' first' (found t (staged_at p s n)) (staged_at p s n) g
