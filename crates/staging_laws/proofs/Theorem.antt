-- One placement staged is one step of a run, and all placements of a plan are steps one after the other.
use Rattle.std.proofs.Common.{◌≡◌, ℕ, ◌+◌, ◌≤◌, List, [], ◌∷◌, length, refl, sym, ap, ◌∙◌, subst, Bool, true, false}
use Rattle.affine_ast.specs.declared.name.Name.{Name}
use Rattle.affine_ast.specs.Nest.{Nest, Nothing, Loop, Branch, Does}
use Rattle.affine_ast.specs.Sizes.{product}
use Rattle.direct_meaning.specs.Action.{Action}
use Rattle.direct_meaning.specs.Static.{Env}
use Rattle.direct_meaning.specs.Actions.{actions}
use Rattle.direct_meaning.specs.Direct.{folded, first_state}
use Rattle.prompt_semantics.specs.Prompt.{first_device}
use Rattle.boxes.specs.Boxes.{stride_of, chunk_of, is_mixed}
use Rattle.boxes.specs.Boxes.{Side}
use Rattle.placement_texts.specs.Labels.{Numbers}
use Rattle.placement_texts.specs.Own.{OwnNest, OwnPlain}
use Rattle.boxes.specs.Every.{Every}
use Rattle.placement_texts.specs.Each.{Each}
use Rattle.placement_texts.specs.Template.{How, Copies, Transfers, Dimension, Placement, dim_sizes}
use Rattle.placement_texts.specs.Parts.{Part, Stays, Made, Box, stride_in, chunk_in}
use Rattle.placement_texts.specs.Regions.{Tidy, spans_at}
use Rattle.placement_texts.specs.OneTag.{InText}
use Rattle.placement_texts.specs.Spots.{Spot, staged_at, parts_at, Fine, FineAt}
use Rattle.placement_texts.specs.Law.{Suits, Alike}
use Rattle.placement_texts.proofs.Inner.{each_action}
use Rattle.placement_texts.proofs.OneTag.{each_in_text}
use Rattle.placement_texts.proofs.Redirect.{sizes_at, lies_at}
use Rattle.placement_texts.proofs.SpotRun.{original_at, each_both}
use Rattle.placement_texts.proofs.Theorem.{texts}
use Rattle.box_run_laws.specs.Layouts.{nowhere}
use Rattle.box_run_laws.specs.Owned.{OwnAction}
use Rattle.box_run_laws.specs.Parts.{original}
use Rattle.box_run_laws.specs.Runs.{run_old}
use Rattle.box_run_laws.specs.Roomy.{roomy_step}
use Rattle.box_run_laws.specs.Law.{SameEnd}
use Rattle.box_run_laws.specs.Law as run
use Rattle.box_run_laws.proofs.RowMajor.{SameForm, same_count, same_shape}
use Rattle.box_run_laws.proofs.Theorem.{placements_agree}
use Rattle.staging_laws.specs.Joined.{numbering, joined, Suited, OnBoxes, IsStaged}
use Rattle.staging_laws.specs.Spared.{Keeps, Aside, ReleasedTogether, WaitedFor, AtLoop, Spares, StoresAll, IsRun}
use Rattle.staging_laws.specs.Law.{flat_spans, Sized, Kept, Allows, OneAgrees}
use Rattle.staging_laws.proofs.Renamed.{renumbers}
use Rattle.staging_laws.proofs.Joins.{joined_original, joined_staged}
use Rattle.staging_laws.proofs.PartsMeet.{meets}
use Rattle.staging_laws.proofs.Statements.{OwnStatement, own_action, spares}
use Rattle.staging_laws.proofs.Quiet.{quiet_at}
use Rattle.staging_laws.proofs.KeepsOver.{at_in}
use Rattle.staging_laws.proofs.AtLoops.{at_each, at_fine, at_both, at_all, boxes_at}

-- ---- a box has the same form wherever it begins
same_form : (e : Env) (ds : List Dimension) → SameForm (flat_spans ds) (spans_at e ds)
same_form e [] = tt
same_form e (d ∷ ds) = (refl, refl, same_form e ds)

suited_at : (how : How) (e : Env) (ds : List Dimension) → Suited how (flat_spans ds) → Suited how (spans_at e ds)
suited_at Copies e ds h = tt
suited_at (Transfers chunks) e ds h =
    let n = same_count (flat_spans ds) (spans_at e ds) (same_form e ds) in
    let s = same_shape (flat_spans ds) (spans_at e ds) (same_form e ds) in
    record {
      even = ap is_mixed (sym s) ∙ h.even;
      stride = ap (stride_in chunks) (sym n) ∙ h.stride ∙ (λ i. stride_of (s i) (n i));
      chunk = ap (chunk_in chunks) (sym n) ∙ h.chunk ∙ (λ i. chunk_of (s i) (n i));
    }

-- ---- names
own_in_text : (own : Name → Bool) (n : Nest) → OwnNest own n → InText (OwnPlain own) n
own_in_text own Nothing h = tt
own_in_text own (Loop line v l u s body rest) h = (own_in_text own body h.3, own_in_text own rest h.4)
own_in_text own (Branch line set ns first has other rest) h = (own_in_text own first h.1, own_in_text own other h.2, own_in_text own rest h.3)
own_in_text own (Does line q rest) h = (h.0, own_in_text own rest h.1)

boxes_map : (P Q : List Side → List Action → Type 0) → ((ss : List Side) (xs : List Action) → P ss xs → Q ss xs) → (ps : List Part) → OnBoxes P ps → OnBoxes Q ps
boxes_map P Q one [] h = tt
boxes_map P Q one (Stays x ∷ ps) h = boxes_map P Q one ps h
boxes_map P Q one (Made ∷ ps) h = boxes_map P Q one ps h
boxes_map P Q one (Box ss xs ∷ ps) h = (one ss xs h.0, boxes_map P Q one ps h.1)

at_if : (a b : Bool) (Q : Nest → Env → Type 0) (s : Spot) (n : Nest) (e : Env) → (a ≡ false → b ≡ true → AtLoop Q s n e) → AtLoop (λ loop e. a ≡ false → b ≡ true → Q loop e) s n e
at_if true b Q s n e h = at_all (λ loop e. true ≡ false → b ≡ true → Q loop e) (λ loop e z w. absurd (cc)) s n e
at_if false false Q s n e h = at_all (λ loop e. false ≡ false → false ≡ true → Q loop e) (λ loop e z w. absurd (cc)) s n e
at_if false true Q s n e h = at_both Q Q (λ loop e. false ≡ false → true ≡ true → Q loop e) (λ loop e q r z w. q) s n e (h refl refl) (h refl refl)

module _ (own : Name → Bool) (p : Placement) (order first : ℕ) (new : Numbers) (s : Spot) (n : Nest) (e : Env) (total : ℕ)
    (u : Suits own p new s n e) (tidy : Each (Tidy new p.memref first (dim_sizes p.dims)) n e) (fine : FineAt p order first s n e) (kept : Kept p s n) (a : Allows p first new s n e) (z : Sized p first total) (waited : WaitedFor n) where
  -- ---- the boxes
  abbrev First : Nest → Env → Type 0
  First loop e = Each (Tidy new p.memref first (dim_sizes p.dims)) loop e × Each (Aside p.memref first (dim_sizes p.dims)) loop e

  abbrev Second : Nest → Env → Type 0
  Second loop e = First loop e × InText (Keeps p) loop

  abbrev Third : Nest → Env → Type 0
  Third loop e = Second loop e × Fine p order first loop e

  abbrev Covers : Nest → Env → Type 0
  Covers loop e = p.reads ≡ false → p.writes ≡ true → StoresAll first (spans_at e p.dims) (actions loop e)

  one_run : (loop : Nest) (e : Env) → Third loop e → Covers loop e → IsRun p first total (spans_at e p.dims) (actions loop e)
  one_run loop e h c =
      let sizes = dim_sizes p.dims in
      let tidy = h.0.0.0 in
      let aside = h.0.0.1 in
      let keeps = each_in_text (Keeps p) (λ q e. Keeps p q) (λ q e k. k) loop e h.0.1 in
      let statements = each_both (Tidy new p.memref first sizes) (λ q e. Aside p.memref first sizes q e × Keeps p q) loop e tidy (each_both (Aside p.memref first sizes) (λ q e. Keeps p q) loop e aside keeps) in
      record {
        box = record { lies = lies_at e p.dims h.1.lie; elements = h.1.elements; suited = suited_at p.how e p.dims z.suited };
        fits = subst (λ sizes. first + product sizes ≤ total) (sym (sizes_at e p.dims)) z.fits;
        spares = subst (λ sizes. Every (Spares first sizes p) (actions loop e)) (sym (sizes_at e p.dims))
            (each_action (λ q e. Tidy new p.memref first sizes q e × (Aside p.memref first sizes q e × Keeps p q)) (Spares first sizes p) (λ q e k. spares p first sizes q e (k.0.1, k.1)) loop e statements);
        covered = c;
      }

  all_runs : OnBoxes (IsRun p first total) (parts_at p s n e)
  all_runs =
      let sizes = dim_sizes p.dims in
      let one = at_both (λ loop e. Each (Tidy new p.memref first sizes) loop e) (λ loop e. Each (Aside p.memref first sizes) loop e) First (λ loop e h k. (h, k)) s n e
      (at_each (Tidy new p.memref first sizes) s n e tidy) (at_each (Aside p.memref first sizes) s n e a.aside) in
      let two = at_both First (λ loop e. InText (Keeps p) loop) Second (λ loop e h k. (h, k)) s n e one (at_in (InText (Keeps p)) s n e kept) in
      let three = at_both Second (Fine p order first) Third (λ loop e h k. (h, k)) s n e two (at_fine p order first s n e fine) in
      boxes_at (IsRun p first total) p s n e
      (at_both Third Covers (λ loop e. IsRun p first total (spans_at e p.dims) (actions loop e)) one_run s n e three
      (at_if p.reads p.writes (λ loop e. StoresAll first (spans_at e p.dims) (actions loop e)) s n e a.covered))

  all_own : Every (OwnAction own (numbering new) nowhere) (actions n e)
  all_own = each_action (OwnStatement own new) (OwnAction own (numbering new) nowhere) (own_action own new) n e
      (each_both (λ q e. OwnPlain own q) (ReleasedTogether new) n e (each_in_text (OwnPlain own) (λ q e. OwnPlain own q) (λ q e h. h) n e (own_in_text own n u.text_own)) a.released)

  pub step : (g : Env) → Alike own new e g → run.Step total (actions n e) (actions (staged_at p s n) g)
  step g like =
      let both = texts own p order first new s n e g u like tidy fine in
      let ps = parts_at p s n e in
      record {
        own = own;
        nu = numbering new;
        renumbers = renumbers new;
        parts = joined p order first new ps;
        meets = meets own p order first new total u.names u.tags ps [] (subst (Every (OwnAction own (numbering new) nowhere)) (sym (original_at p s n e)) all_own) all_runs (quiet_at p s n e waited);
        old_is = joined_original p order first new ps ∙ both.first_reading;
        new_is = joined_staged p order first new ps (boxes_map (IsRun p first total) (λ ss xs. IsStaged p.how ss) (λ ss xs r. r.box) ps all_runs) ∙ both.second_reading;
      }

pub one_agrees : OneAgrees
one_agrees own p order first new s n e g u like tidy fine kept a waited memory z filler =
    let t = step own p order first new s n e (length (first_state memory).slow) u tidy fine kept a z waited g like in
    subst (λ l. SameEnd (folded (roomy_step filler) l (first_device memory)) (folded (roomy_step filler) (actions (staged_at p s n) g) (first_device memory))) t.old_is
    (subst (λ l. SameEnd (folded (roomy_step filler) (original run_old t.parts) (first_device memory)) (folded (roomy_step filler) l (first_device memory))) t.new_is
    (placements_agree t.own t.nu t.renumbers memory t.parts t.meets filler))
