-- The placement at a site.
use Rattle.std.proofs.Common.{◌≡◌, ℕ, ◌<◌, ◌^◌, Bool, List, sym, ap, subst, ◌∙◌}
use Rattle.std.specs.Prelude.{not, ◌&&◌, Some}
use Rattle.affine_ast.specs.declared.name.Name.{Name}
use Rattle.affine_ast.specs.declared.types.MemrefType.{MemrefType}
use Rattle.affine_ast.specs.Sizes.{product}
use Rattle.affine_ast.specs.Validity.{IsValid}
use Rattle.nest_domain.specs.Boxes.{Dimension}
use Rattle.nest_domain.specs.Ways.{loop_count}
use Rattle.made_names.specs.Made.{made_name}
use Rattle.placement_code.specs.Placed.{placement_of, MayBeWritten}
use Rattle.placement_covers.specs.Law.{is_covered}
use Rattle.placement_regions.specs.Sites.{way_to, from_spot, outer_names, dims_over}
use Rattle.placement_stage.specs.Places.{spot_of}
use Rattle.placement_texts.specs.Spots.{Spot}
use Rattle.placement_texts.specs.Template as template
use Rattle.placement_texts.specs.Template.{dim_extents}
use Rattle.planned_placements.specs.Writable.{MayBePlaced, RegionsMayBePlaced}
use Rattle.staged_plans.specs.Plans.{how_over, has_store, uses_there}
use Rattle.text_limits.specs.Adding.{condition_count}
use Rattle.text_places.specs.Blocks.{Block}
use Rattle.plan_laws.specs.Plan.{type_of, placement_at}
use Rattle.plan_theorem.proofs.Homes.{has_argument}
use Rattle.hoisted_sites.specs.declared.hoisting.Site.{Site}
use Rattle.hoisted_sites.specs.declared.standing.Asking.{Asking}
use Rattle.hoisted_sites.specs.Sites.{StandsAt}
use Rattle.hoisted_sites.specs.Hoisting.{module_of, text_of, site_of}
use Rattle.placed_sites.specs.declared.placing.Candidate.{Candidate}
use Rattle.placed_sites.specs.Placing.{IsSiteOf, IsCandidate}
use Rattle.placed_sites.proofs.Standing.{way_found, few_elements}

module _ (law : RegionsMayBePlaced) (a : Asking) (m : Name) (ty : MemrefType) (x : Site) (b : Block) (valid : IsValid (module_of a)) (h : IsSiteOf a m ty x) (typed : type_of (module_of a).args m ≡ Some ty) (k : StandsAt (text_of a) (spot_of x.at.steps) b) where
  abbrev Place : Spot
  Place = spot_of x.at.steps

  abbrev Names : List Name
  Names = outer_names (module_of a).args (way_to Place (text_of a))

  way_is : way_to Place (text_of a) ≡ b.way
  way_is = way_found (way_to Place (text_of a)) (from_spot Place (text_of a)) b k.is

  names_are : (names : List Name) → names ≡ outer_names (module_of a).args b.way → Names ≡ names
  names_are names e = ap (outer_names (module_of a).args) way_is ∙ sym e

  placeable : MayBePlaced Names x.region ty.sizes
  placeable = law (module_of a) valid m ty Place a.options.dma x.region (has_argument (module_of a).args m ty typed) h.path.loop h.found

  pub may_be_placed : (names : List Name) (ds : List Dimension) → names ≡ outer_names (module_of a).args b.way → ds ≡ x.region → MayBePlaced names ds ty.sizes
  may_be_placed names ds e f = subst (λ l. MayBePlaced names l ty.sizes) (sym f) (subst (λ l. MayBePlaced l x.region ty.sizes) (names_are names e) placeable)

  -- as it is made from these names, this region, and whether it reads and writes
  abbrev Made : List Name → List Dimension → Bool → Bool → ℕ → template.Placement
  Made names ds reads writes number =
      record { memref = m; element = ty.element; dims = dims_over names ds ty.sizes; reads = reads; writes = writes; how = how_over a.options.dma (dims_over names ds ty.sizes); name = made_name number }

  pub is_candidate : (names : List Name) (ds : List Dimension) (reads writes : Bool) (number : ℕ) (c : Candidate) → names ≡ outer_names (module_of a).args b.way → ds ≡ x.region
      → reads ≡ not (a.options.dma && is_covered (module_of a).args (text_of a) m Place x.region) → writes ≡ has_store (uses_there (text_of a) m Place)
      → c.site ≡ x → placement_of c.placed ≡ Made names ds reads writes number → MayBeWritten c.placed → c.round.loops ≡ loop_count b.way → c.round.ifs ≡ condition_count b.way → IsCandidate a m ty number x c
  is_candidate names ds reads writes number c e f r w site_ placed_ written_ loops_ ifs_ =
      let is : placement_of c.placed ≡ placement_at a.options (module_of a).args (text_of a) number m ty (site_of x) = placed_ ∙ (λ i. Made (sym (names_are names e) i) (f i) (r i) (w i) number) in
      record {
        site = site_;
        placed = is;
        written = written_;
        narrow = subst (λ (p : template.Placement). product (dim_extents p.dims) < 2 ^ 32) (sym is) (few_elements (dims_over Names x.region ty.sizes) placeable.narrow);
        loops = loops_ ∙ ap loop_count (sym way_is);
        ifs = ifs_ ∙ ap condition_count (sym way_is);
      }
