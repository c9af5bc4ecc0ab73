-- What the parts of a run have to meet, from what holds of the text's actions and of each run of the loop.
use Rattle.std.proofs.Common.{◌≡◌, inr, ℕ, ◌+◌, ◌<◌, List, [], ◌∷◌, ◌++◌, refl, sym, ap, ◌∙◌, subst, arith, Bool, true, false}
use Rattle.std.specs.Prelude.{Option, Some, None}
use Rattle.affine_ast.specs.declared.name.Name.{Name}
use Rattle.affine_ast.specs.Sizes.{product}
use Rattle.bus_model.specs.declared.transfer.Transfer.{Transfer}
use Rattle.bus_model.specs.Places.{slow_place}
use Rattle.direct_meaning.specs.Action.{Home, SlowMemref, FastMemref, TagMemref, Place, Slow, Fast, Outside, Action, Known, Sets, Loads, Stores, RawLoads, RawStores, Operates, Converts, Allocates, Releases, AllocatesTags, ReleasesTags, Starts, Waits, Faults, Returns}
use Rattle.boxes.specs.Boxes.{cell}
use Rattle.boxes.proofs.Places.{cell_in}
use Rattle.boxes.specs.Boxes.{Side}
use Rattle.placement_texts.specs.Boxes.{sizes_of, extents_of, LiesIn, HasElements, is_of}
use Rattle.placement_texts.specs.Labels.{Numbers}
use Rattle.placement_texts.specs.Own.{MadeNames}
use Rattle.boxes.specs.Every.{Every}
use Rattle.placement_texts.specs.Template.{How, Copies, Transfers, Placement, tags_made}
use Rattle.placement_texts.specs.Parts as text
use Rattle.placement_texts.proofs.Cells.{is_of_first}
use Rattle.box_run_laws.specs.Layouts.{nowhere}
use Rattle.box_run_laws.specs.Owned.{OwnAction, OwnLoad, OwnStore, HomeWhere, FreeToLoad, FreeToStore}
use Rattle.box_run_laws.specs.Boxes.{boxed, cell_at}
use Rattle.box_run_laws.specs.Parts.{left_by, left_behind, Meets, MeetsBox}
use Rattle.box_run_laws.specs.Runs.{run_old, IsFast, Anything, MeetsRun}
use Rattle.box_run_laws.specs.Templates.{Carries}
use Rattle.box_run_laws.proofs.Boxes.{not_found}
use Rattle.box_run_laws.proofs.Owning.{load_read, store_written, load_else, store_else}
use Rattle.box_run_laws.proofs.RowMajor as row
use Rattle.staging_laws.specs.Joined.{numbering, places_in, half_of, fast_of, carrier_of, run_by, joined, Suited, OnBoxes}
use Rattle.staging_laws.specs.Spared.{HomeAside, PlaceSpared, Spares, QuietFrom, IsRun}
use Rattle.staging_laws.proofs.Cells.{is_box, sizes_volume, extents_count}
use Rattle.staging_laws.proofs.Renamed.{up_misses}
use Rattle.staging_laws.proofs.Carried.{carries}

module _ (own : Name → Bool) (p : Placement) (order first : ℕ) (new : Numbers) (total : ℕ) where
  -- ---- the loop's actions, while the box is in fast memory
  module _ (ss : List Side) (lies : LiesIn ss) (elements : HasElements ss) where
    away : (q : ℕ) → is_of first (sizes_of ss) q ≡ false → (boxed (half_of p new ss) (places_in first ss)).lives q ≡ None
    away q e = ap (cell_at new.fast 0) (not_found (places_in first ss) (product (extents_of ss)) q (λ k h same.
        let inside : cell ss k < product (sizes_of ss) = subst (λ n. cell ss k < n) (sym (sizes_volume ss)) (cell_in ss k (is_box ss lies elements) (subst (λ n. k < n) (extents_count ss) h)) in
        let z : true ≡ false = sym (is_of_first first (sizes_of ss) (cell ss k) inside) ∙ ap (is_of first (sizes_of ss)) same ∙ e in cc))

    load_at : (x : Place) → PlaceSpared first (sizes_of ss) p.reads x → OwnLoad own (numbering new) (boxed (half_of p new ss) (places_in first ss)) x
    load_at (Slow q) h = by (is_of first (sizes_of ss) q) refl
      where
        by : (t : Bool) → is_of first (sizes_of ss) q ≡ t → OwnLoad own (numbering new) (boxed (half_of p new ss) (places_in first ss)) (Slow q)
        by true e = load_read own (numbering new) (half_of p new ss) (places_in first ss) (h e) q
        by false e = load_else own (numbering new) (half_of p new ss) (places_in first ss) q (away q e)
    load_at (Fast n h c) k = tt
    load_at Outside k = tt

    store_at : (x : Place) → PlaceSpared first (sizes_of ss) p.writes x → OwnStore own (numbering new) (boxed (half_of p new ss) (places_in first ss)) x
    store_at (Slow q) h = by (is_of first (sizes_of ss) q) refl
      where
        by : (t : Bool) → is_of first (sizes_of ss) q ≡ t → OwnStore own (numbering new) (boxed (half_of p new ss) (places_in first ss)) (Slow q)
        by true e = store_written own (numbering new) (half_of p new ss) (places_in first ss) (h e) q
        by false e = store_else own (numbering new) (half_of p new ss) (places_in first ss) q (away q e)
    store_at (Fast n h c) k = tt
    store_at Outside k = tt

    raw_load_at : (o : Option Home) (others : List ℕ) → HomeAside first (sizes_of ss) o others → HomeWhere own (numbering new) (FreeToLoad own (numbering new) (boxed (half_of p new ss) (places_in first ss))) o others
    raw_load_at (Some (SlowMemref number low)) others h = λ k l. (away (low + k) (h k l), refl)
    raw_load_at (Some (FastMemref number)) others h = tt
    raw_load_at (Some (TagMemref low)) others h = tt
    raw_load_at None others h = tt

    raw_store_at : (o : Option Home) (others : List ℕ) → HomeAside first (sizes_of ss) o others → HomeWhere own (numbering new) (FreeToStore own (numbering new) (boxed (half_of p new ss) (places_in first ss))) o others
    raw_store_at (Some (SlowMemref number low)) others h = λ k l. (away (low + k) (h k l), refl, tt)
    raw_store_at (Some (FastMemref number)) others h = tt
    raw_store_at (Some (TagMemref low)) others h = tt
    raw_store_at None others h = tt

    inside_box : (x : Action) → OwnAction own (numbering new) nowhere x → Spares first (sizes_of ss) p x → OwnAction own (numbering new) (boxed (half_of p new ss) (places_in first ss)) x
    inside_box Known o h = tt
    inside_box (Sets r z) o h = o
    inside_box (Loads r x) o h = (o.0, load_at x h)
    inside_box (Stores x y) o h = (o.0, store_at y h)
    inside_box (RawLoads r home others at) o h = (o.0, raw_load_at home others h, o.2)
    inside_box (RawStores x home others at) o h = (o.0, raw_store_at home others h, o.2)
    inside_box (Operates r op bits a b) o h = o
    inside_box (Converts r kind from to x) o h = o
    inside_box (Allocates number element sizes) o h = tt
    inside_box (Releases number element sizes) o h = tt
    inside_box (AllocatesTags low count) o h = tt
    inside_box (ReleasesTags low count) o h = o
    inside_box (Starts t) o h = (inr (λ j l. away (slow_place t j) (h j l)), refl, λ e. tt)
    inside_box (Waits tag count) o h = tt
    inside_box (Faults k) o h = tt
    inside_box Returns o h = tt

    all_inside : (xs : List Action) → Every (OwnAction own (numbering new) nowhere) xs → Every (Spares first (sizes_of ss) p) xs → Every (OwnAction own (numbering new) (boxed (half_of p new ss) (places_in first ss))) xs
    all_inside [] o h = tt
    all_inside (x ∷ xs) o h = (inside_box x o.0 h.0, all_inside xs o.1 h.1)

  -- ---- one run of the loop
  module _ (names : MadeNames own p.name) (tags : new.tags ≡ tags_made p p.how) where
    is_fast : (ss : List Side) → IsFast (numbering new) (fast_of p new ss)
    is_fast ss = record { new = λ n e. up_misses new.fast 1 n 0 (omega arith) (let z : new.fast ≡ new.fast + 0 = omega arith in e ∙ z); long = refl }

    meets_box : (Fits : (ℕ → ℕ) → Type 0) (ss : List Side) (xs : List Action) → Every (OwnAction own (numbering new) nowhere) xs → IsRun p first total ss xs → Fits (places_in first ss)
        → MeetsBox own (numbering new) (half_of p new ss) total Fits (record { place = places_in first ss; inner = xs }) []
    meets_box Fits ss xs o r f =
        let v = sizes_volume ss in
        let fits = r.fits in
        record {
          box = row.is_box (half_of p new ss) total first ss (is_box ss r.box.lies r.box.elements) (extents_count ss) (omega (arith, fits, v));
          fits = f;
          misses = tt;
          owned = all_inside ss r.box.lies r.box.elements xs o r.spares;
          covered = r.covered;
        }

    meets_run : (how : How) → new.tags ≡ tags_made p how → (ss : List Side) (xs : List Action) → Every (OwnAction own (numbering new) nowhere) xs → IsRun p first total ss xs → Suited how ss
        → MeetsRun own (numbering new) total (run_by p order first new how ss xs) []
    meets_run Copies t ss xs o r c = (is_fast ss, names.made 5, names.made 6, meets_box Anything ss xs o r tt)
    meets_run (Transfers chunks) t ss xs o r c = (
      is_fast ss,
      λ n e. up_misses new.tag new.tags n 0 (omega (arith, t)) (let z : new.tag ≡ new.tag + 0 = omega arith in e ∙ z),
      meets_box (Carries (half_of p new ss) (carrier_of order new chunks ss)) ss xs o r (carries p order first new chunks ss (is_box ss r.box.lies r.box.elements) c),
    )

    run_old_is : (how : How) (ss : List Side) (xs : List Action) → run_old (run_by p order first new how ss xs) ≡ xs
    run_old_is Copies ss xs = refl
    run_old_is (Transfers chunks) ss xs = refl

    every_front : (Q : Action → Type 0) (xs ys : List Action) → Every Q (xs ++ ys) → Every Q xs × Every Q ys
    every_front Q [] ys h = (tt, h)
    every_front Q (x ∷ xs) ys h = let r = every_front Q xs ys h.1 in ((h.0, r.0), r.1)

    -- ---- all parts
    pub meets : (ps : List text.Part) (ts : List Transfer) → Every (OwnAction own (numbering new) nowhere) (text.original ps) → OnBoxes (IsRun p first total) ps → QuietFrom ps ts
        → Meets own (numbering new) run_old (MeetsRun own (numbering new) total) (joined p order first new ps) ts
    meets [] ts o b q = tt
    meets (text.Stays x ∷ ps) ts o b q = (o.0, meets ps (left_by x ts) o.1 b q)
    meets (text.Made ∷ ps) ts o b q = meets ps ts o b q
    meets (text.Box ss xs ∷ ps) ts o b q =
        let both = every_front (OwnAction own (numbering new) nowhere) xs (text.original ps) o in (
          subst (MeetsRun own (numbering new) total (run_by p order first new p.how ss xs)) (sym q.0) (meets_run p.how tags ss xs both.0 b.0 b.0.box.suited),
          subst (λ xs. Meets own (numbering new) run_old (MeetsRun own (numbering new) total) (joined p order first new ps) (left_behind xs ts)) (sym (run_old_is p.how ss xs)) (meets ps (left_behind xs ts) both.1 b.1 q.1),
        )
