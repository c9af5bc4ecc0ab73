-- Where a region is covered, the loop of a visit stores to each element of the box.
use Rattle.std.proofs.Common.{◌≡◌, ℕ, ◌+◌, Bool, true, List, [], ◌∷◌, ◌++◌, drop, length, Some, ℤ, pos, ◌+ℤ◌, ◌≤ℤ◌, ◌<ℤ◌, refl, sym, ◌∙◌, ap, subst, arith}
use Rattle.std.specs.Prelude.{Contains}
use Rattle.std.proofs.lemmas.Int.{ints}
use Rattle.constraint_set.specs.Lists.{Each}
use Rattle.affine_ast.specs.declared.image.Image.{Image}
use Rattle.affine_ast.specs.declared.module.Module.{Module}
use Rattle.affine_ast.specs.declared.name.Name.{Name}
use Rattle.affine_ast.specs.declared.types.MemrefType.{MemrefType}
use Rattle.affine_ast.proofs.Names.{same_name-eq}
use Rattle.affine_ast.specs.Nest.{Nest, Nothing, Loop, Store, nest}
use Rattle.affine_ast.specs.Scope.{Scope}
use Rattle.affine_ast.specs.Validity.{IsValid}
use Rattle.direct_meaning.specs.Action.{SlowMemref}
use Rattle.direct_meaning.specs.Actions.{action_of, actions}
use Rattle.direct_meaning.specs.Memory.{Fits, start_env}
use Rattle.direct_meaning.specs.Pure.{AffineNest}
use Rattle.direct_meaning.specs.Static.{Env}
use Rattle.direct_meaning.specs.Turns.{gap}
use Rattle.valid_laws.proofs.Passing.{valid_affine}
use Rattle.boxes.specs.Boxes.{Side}
use Rattle.nest_domain.specs.Ways.{uses, loop_count}
use Rattle.nest_domain.specs.Domains.{symbol_count}
use Rattle.nest_domain.specs.Boxes as region
use Rattle.nest_domain.specs.Boxes.{begins_at, AllWithin, AllIn}
use Rattle.nest_domain.specs.Visits.{Visits}
use Rattle.box_covers.specs.Covers.{covers}
use Rattle.box_covers.proofs.Covered.{swept_by_one}
use Rattle.access_region.specs.Regions.{uses_at}
use Rattle.access_region.proofs.Lengths.{regions_are_over}
use Rattle.placement_texts.specs.Boxes.{sizes_of, InBox}
use Rattle.placement_texts.specs.Regions.{place_number, spans_at, ReachesBox}
use Rattle.placement_texts.specs.Spots.{Spot, Fine}
use Rattle.placement_texts.specs.Template.{Placement}
use Rattle.placement_texts.proofs.Redirect.{lies_at}
use Rattle.staging_laws.specs.Spared.{StoresAll, IsStored}
use Rattle.staging_laws.proofs.Covered.{stores_all}
use Rattle.placement_regions.specs.Sites.{from_spot, alone, way_to, loop_uses, outer_names, dim_over, dims_over, IsOfRegion, ExtentsFit}
use Rattle.placement_regions.proofs.Visited.{at_visits, path_to, path_is, IsLoopText, loop_there, alone_affine}
use Rattle.placement_regions.proofs.Known.{AreHeld}
use Rattle.placement_regions.proofs.Boxed.{place_is, gap_is, gap_some}
use Rattle.placement_regions.proofs.Extents.{dims_extents}
use Rattle.placement_regions.proofs.Theorem.{region_extents, region_within, held_at, fine_over}
use Rattle.placement_covers.specs.Law.{is_covered, Covered, CoveredIsStored}
use Rattle.placement_covers.proofs.Found.{AtPlace, uses_placed, each_there, action_there}

drop_front : {A : Type 0} (xs ys : List A) → drop (length xs) (xs ++ ys) ≡ ys
drop_front [] ys = refl
drop_front (x ∷ xs) ys = drop_front xs ys

-- the elements of the box are those of the region
module _ (s : Scope) (e : Env) (ns : List Name) (os : List ℤ) (held : AreHeld s e.known ns os) where
  in_region : (ds : List region.Dimension) (sizes : List ℕ) (zs : List ℤ) → ExtentsFit (dims_over ns ds sizes) → AllWithin ds sizes os → InBox (spans_at e (dims_over ns ds sizes)) zs → AllIn ds sizes os zs
  in_region [] [] [] x w h = tt
  in_region [] [] (z ∷ zs) x w h = absurd h
  in_region [] (n ∷ sizes) zs x w h = absurd w
  in_region (d ∷ ds) [] zs x w h = absurd w
  in_region (d ∷ ds) (size ∷ sizes) [] x w h = absurd h
  in_region (d ∷ ds) (size ∷ sizes) (z ∷ zs) x w h =
      let long = gap_some s e d.extent x.0 in
      let place = place_is s e ns os held d size long in
      let p = place_number e (dim_over ns d size) in
      let b = begins_at d size os in
      let exact : pos (gap p) ≡ p = gap_is s e p (subst (λ z. pos 0 ≤ℤ z) (sym place) w.0) in
      (low b p z (gap p) place exact h.0, high b p z d.extent (gap p) (gap d.extent) place exact long h.1, in_region ds sizes zs x.2 w.2 h.2)
    where
      low : (b p z : ℤ) (n : ℕ) → p ≡ b → pos n ≡ p → pos n ≤ℤ z → b ≤ℤ z
      low b p z n is exact h = omega (arith, ints, is, exact, h)

      high : (b p z extent : ℤ) (n m : ℕ) → p ≡ b → pos n ≡ p → pos m ≡ extent → z <ℤ pos (n + m) → z <ℤ (b +ℤ extent)
      high b p z extent n m is exact long h = omega (arith, ints, is, exact, long, h)

module _ (m : Module) (valid : IsValid m) (memory : Image) (fits : Fits m memory) (p : Placement) (ty : MemrefType) (order first : ℕ) (s : Spot) (dma : Bool) (r : IsOfRegion m.args (nest m.body) p ty s dma)
    (home : (start_env m.args memory.symbols).home p.memref ≡ Some (SlowMemref order first)) (covered : is_covered m.args (nest m.body) p.memref s r.region ≡ true) where
  abbrev Text : Nest
  Text = nest m.body

  abbrev Names : List Name
  Names = outer_names m.args (way_to s Text)

  abbrev spans : Env → List Side
  spans f = spans_at f (dims_over Names r.region ty.sizes)

  -- each element is stored to, by the one store among the loop's uses
  stored : (ts : List ℤ) (f : Env) → Visits (way_to s Text) (start_env m.args memory.symbols) ts f → (here : IsLoopText (from_spot s Text)) → AffineNest (Loop here.line here.variable here.lower here.upper here.step here.body Nothing)
      → Fine (record p { dims = dims_over Names r.region ty.sizes }) order first (Loop here.line here.variable here.lower here.upper here.step here.body Nothing) f
      → (zs : List ℤ) → InBox (spans f) zs → IsStored p.memref order first (sizes_of (spans f)) zs (Loop here.line here.variable here.lower here.upper here.step here.body Nothing) f
  unfolding uses
  stored ts f w here affine fine zs within =
      let way = way_to s Text in
      let os = memory.symbols ++ ts in
      let loop = Loop here.line here.variable here.lower here.upper here.step here.body Nothing in
      let x = held_at m valid memory fits p ty order first s dma r home ts f w in
      let path = path_is s Text r.loop ∙ (λ i. Some (record { way = way; here = here.is i })) in
      let us = uses_at p.memref way here.variable here.lower here.upper here.step here.body in
      let c : covers m.args way us (symbol_count m.args + loop_count way) r.region ≡ true = ap (λ n. covers m.args way (loop_uses p.memref way n) (symbol_count m.args + loop_count way) r.region) (sym here.is) ∙ covered in
      let over = regions_are_over m.args way (loop_uses p.memref way (from_spot s Text)) ty.sizes r.region dma r.is in
      let fit = dims_extents Names r.region ty.sizes (region_extents m valid p ty s dma r) in
      let all = in_region x.around.scope f Names os x.held r.region ty.sizes zs fit (region_within m valid memory fits p ty order first s dma r home ts f w here) within in
      let k = swept_by_one m valid memory fits (path_to s) way here.line here.variable here.lower here.upper here.step here.body here.rest path p.memref ty.sizes r.region c over ts f w zs all in
      let at = (subst (λ us. Each (AtPlace p.memref loop way) (us ++ [])) k.one (uses_placed p.memref loop way)).0 in
      let same : k.inner ≡ way_to at.place loop = sym (drop_front way k.inner) ∙ ap (drop (length way)) at.way ∙ drop_front way (way_to at.place loop) in
      let visits = subst (λ hs. Visits hs f k.swept.turns k.swept.env) same k.swept.visits in
      let q = Store at.value at.named k.at at.ty in
      let reaches = each_there at.line q at.rest (ReachesBox p.memref order first (spans f)) at.place loop f k.swept.turns k.swept.env affine fine.reaches at.is visits at.same in
      let found = action_there at.line q at.rest at.place loop f k.swept.turns k.swept.env affine at.is visits in
      record {
        value = at.value;
        at = k.at;
        ty = at.ty;
        env = k.swept.env;
        home = reaches.home;
        type = reaches.sizes;
        subscripts = k.swept.subscripts;
        found = subst (λ n. Contains (actions loop f) (action_of (Store at.value n k.at at.ty) k.swept.env)) (sym (same_name-eq p.memref at.named at.same)) found;
      }

  stored_at : (ts : List ℤ) (f : Env) → Visits (way_to s Text) (start_env m.args memory.symbols) ts f → StoresAll first (spans_at f p.dims) (actions (alone (from_spot s Text)) f)
  stored_at ts f w =
      let here = loop_there s Text r.loop in
      let loop = Loop here.line here.variable here.lower here.upper here.step here.body Nothing in
      let fine = subst (λ n. Fine (record p { dims = dims_over Names r.region ty.sizes }) order first (alone n) f) here.is (fine_over m valid memory fits p ty order first s dma r home ts f w here) in
      let affine = alone_affine s Text (valid_affine m valid) r.loop here in
      subst (λ ds. StoresAll first (spans_at f ds) (actions (alone (from_spot s Text)) f)) (sym r.dims)
      (subst (λ n. StoresAll first (spans f) (actions (alone n) f)) (sym here.is)
      (stores_all p.memref order first (spans f) loop f (lies_at f (dims_over Names r.region ty.sizes) fine.lie) (λ zs within. stored ts f w here affine fine zs within)))

  pub covered_stores : Covered p first s Text (start_env m.args memory.symbols)
  covered_stores = at_visits (λ loop e. StoresAll first (spans_at e p.dims) (actions loop e)) s Text (start_env m.args memory.symbols) (valid_affine m valid) r.loop (λ ts f w. stored_at ts f w)

pub covered_is_stored : CoveredIsStored
covered_is_stored m valid memory fits p ty order first s dma r covered home = covered_stores m valid memory fits p ty order first s dma r home covered
