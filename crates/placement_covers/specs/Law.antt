-- Where a region is covered each element of the box is stored to, in the text and in each text on the way of a plan.
use Rattle.std.specs.Prelude.{◌≡◌, ◌⊎◌, ℕ, ◌+◌, ◌≤◌, Bool, true, false, List, Some}
use Rattle.affine_ast.specs.declared.image.Image.{Image}
use Rattle.affine_ast.specs.declared.module.Arg.{Arg}
use Rattle.affine_ast.specs.declared.module.Module.{Module}
use Rattle.affine_ast.specs.declared.name.Name.{Name}
use Rattle.affine_ast.specs.declared.types.MemrefType.{MemrefType}
use Rattle.affine_ast.specs.Names.{same_name}
use Rattle.affine_ast.specs.Nest.{Nest, nest}
use Rattle.affine_ast.specs.Sizes.{product}
use Rattle.affine_ast.specs.Validity.{IsValid}
use Rattle.direct_meaning.specs.Action.{SlowMemref}
use Rattle.direct_meaning.specs.Actions.{actions}
use Rattle.direct_meaning.specs.Memory.{Fits, start_env}
use Rattle.direct_meaning.specs.Static.{Env}
use Rattle.nest_domain.specs.Ways.{loop_count}
use Rattle.nest_domain.specs.Domains.{symbol_count}
use Rattle.nest_domain.specs.Boxes as region
use Rattle.box_covers.specs.Covers.{covers}
use Rattle.placement_texts.specs.Each.{Each}
use Rattle.placement_texts.specs.Labels.{Numbers}
use Rattle.placement_texts.specs.Law.{Suits, Alike}
use Rattle.placement_texts.specs.Regions.{OwnDims, Tidy, spans_at}
use Rattle.placement_texts.specs.Spots.{Spot, HasLine, Disjoint, found, staged_at, FineAt}
use Rattle.placement_texts.specs.Template.{Placement, dim_sizes}
use Rattle.staging_laws.specs.Spared.{AtLoop, StoresAll}
use Rattle.placement_regions.specs.Sites.{from_spot, way_to, loop_uses, IsOfRegion}

-- whether the region of a memref at the loop there is covered
abbrev pub is_covered : List Arg → Nest → Name → Spot → List region.Dimension → Bool
is_covered args n m s ds = covers args (way_to s n) (loop_uses m (way_to s n) (from_spot s n)) (symbol_count args + loop_count (way_to s n)) ds

-- each time that the text comes to the placement's loop, the loop stores to each element of the box
abbrev pub Covered : Placement → ℕ → Spot → Nest → Env → Type 0
Covered p first s n e = AtLoop (λ loop e. StoresAll first (spans_at e p.dims) (actions loop e)) s n e

-- so it is in a valid module, from a memory that fits, where the placement's region is covered
abbrev pub CoveredIsStored : Type 0
CoveredIsStored = (m : Module) → IsValid m → (memory : Image) → Fits m memory
    → (p : Placement) (ty : MemrefType) (order first : ℕ) (s : Spot) (dma : Bool) → (r : IsOfRegion m.args (nest m.body) p ty s dma)
    → is_covered m.args (nest m.body) p.memref s r.region ≡ true
    → (start_env m.args memory.symbols).home p.memref ≡ Some (SlowMemref order first)
    → Covered p first s (nest m.body) (start_env m.args memory.symbols)

-- the slow places of two memrefs of these sizes
abbrev pub Beside : ℕ → List ℕ → ℕ → List ℕ → Type 0
Beside f sizes f' sizes' = (f + product sizes ≤ f') ⊎ (f' + product sizes' ≤ f)

-- of two placements, the second one's memref is another, which lies beside the first one's, or its loop is apart
abbrev pub AreParted : Placement → ℕ → Placement → ℕ → Spot → Spot → Type 0
AreParted p first o first' s t = ((same_name o.memref p.memref ≡ false) × Beside first (dim_sizes p.dims) first' (dim_sizes o.dims)) ⊎ Disjoint t s

-- a placement's loop stores to each element of its box also in the text in which another placement is staged
abbrev pub CoverCarries : Type 0
CoverCarries = (own : Name → Bool) (p : Placement) (order first : ℕ) (new : Numbers) (s : Spot) (n : Nest) (e g : Env)
    → Suits own p new s n e → HasLine s n → Alike own new e g → Each (Tidy new p.memref first (dim_sizes p.dims)) n e → FineAt p order first s n e
    → (o : Placement) (order' first' : ℕ) (t : Spot) → OwnDims own o.dims → AreParted p first o first' s (found t n)
    → FineAt o order' first' (found t n) n e → Covered o first' (found t n) n e
    → Covered o first' (found t (staged_at p s n)) (staged_at p s n) g
