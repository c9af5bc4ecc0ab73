-- The parts of a text's actions, as parts of a run, have the text's two readings.
use Rattle.std.proofs.Common.{◌≡◌, ℕ, List, [], ◌∷◌, ◌++◌, map, refl, sym, ap, Bool, true, false}
use Rattle.std.specs.Prelude.{if◌then◌else◌}
use Rattle.affine_ast.specs.Sizes.{product}
use Rattle.direct_meaning.specs.Action.{Action, Slow, Known, Allocates, AllocatesTags, Releases, ReleasesTags, Waits}
use Rattle.boxes.specs.Boxes.{Side}
use Rattle.placement_texts.specs.Boxes.{extents_of, box_place}
use Rattle.placement_texts.specs.Labels.{Numbers, action_in_box}
use Rattle.placement_texts.specs.Template.{How, Copies, Transfers, Placement}
use Rattle.placement_texts.specs.Parts.{only_if, reading, writing, allocating, releasing, boxed}
use Rattle.placement_texts.specs.Parts as text
use Rattle.box_run_laws.specs.Layouts.{nowhere, moved}
use Rattle.box_run_laws.specs.Boxes as run
use Rattle.box_run_laws.specs.Parts.{original, staged}
use Rattle.box_run_laws.specs.Runs.{run_old, run_new}
use Rattle.staging_laws.specs.Joined.{numbering, places_in, half_of, run_by, joined, Suited, OnBoxes, IsStaged}
use Rattle.staging_laws.proofs.Cells.{is_box, lives_there}
use Rattle.staging_laws.proofs.Renamed.{action_goes}
use Rattle.staging_laws.proofs.Loops.{reading_is, writing_is}
use Rattle.staging_laws.proofs.Carried.{starts}

map_same : (f g : Action → Action) → ((x : Action) → f x ≡ g x) → (xs : List Action) → map f xs ≡ map g xs
map_same f g h [] = refl
map_same f g h (x ∷ xs) = λ i. h x i ∷ map_same f g h xs i

module _ (p : Placement) (order first : ℕ) (new : Numbers) where
  only : (b : Bool) (xs ys : List Action) → ys ≡ xs → (if b then xs else []) ≡ only_if p order first new b ys
  only true xs ys e = sym e
  only false xs ys e = refl

  inner : (ss : List Side) (xs : List Action) → IsStaged p.how ss → map (moved (numbering new) (run.boxed (half_of p new ss) (places_in first ss))) xs ≡ map (action_in_box first ss new) xs
  inner ss xs s = map_same (moved (numbering new) (run.boxed (half_of p new ss) (places_in first ss))) (action_in_box first ss new)
      (action_goes (λ q. box_place first ss new.fast q) new (run.boxed (half_of p new ss) (places_in first ss)) (λ q. sym (lives_there first new.fast ss (is_box ss s.lies s.elements) q))) xs

  abbrev boxed_by : How → List Side → List Action → List Action
  boxed_by how ss xs = allocating p order first new how ss
      ++ (only_if p order first new p.reads (reading p order first new how ss)
      ++ (map (action_in_box first ss new) xs
      ++ (only_if p order first new p.writes (writing p order first new how ss) ++ releasing p order first new how ss)))

  box_reads : (how : How) (ss : List Side) (xs : List Action) → IsStaged p.how ss → Suited how ss → run_new (numbering new) (run_by p order first new how ss xs) ≡ boxed_by how ss xs
  box_reads Copies ss xs s c = λ i.
      Allocates new.fast p.element (1 ∷ extents_of ss) ∷ only p.reads _ (reading p order first new Copies ss) (reading_is p first new ss order) i
      ++ (inner ss xs s i ++ (only p.writes _ (writing p order first new Copies ss) (writing_is p first new ss order) i ++ Releases new.fast p.element (1 ∷ extents_of ss) ∷ []))
  box_reads (Transfers chunks) ss xs s c = λ i.
      Allocates new.fast p.element (1 ∷ extents_of ss) ∷ AllocatesTags new.tag 1
      ∷ only p.reads _ (reading p order first new (Transfers chunks) ss) (λ j. starts p order first new chunks ss (is_box ss s.lies s.elements) c true j ∷ Waits new.tag (product (extents_of ss)) ∷ []) i
      ++ (inner ss xs s i ++ (only p.writes _ (writing p order first new (Transfers chunks) ss) (λ j. starts p order first new chunks ss (is_box ss s.lies s.elements) c false j ∷ Waits new.tag (product (extents_of ss)) ∷ []) i
      ++ Releases new.fast p.element (1 ∷ extents_of ss) ∷ ReleasesTags new.tag 1 ∷ []))

  run_old_is : (how : How) (ss : List Side) (xs : List Action) → run_old (run_by p order first new how ss xs) ≡ xs
  run_old_is Copies ss xs = refl
  run_old_is (Transfers chunks) ss xs = refl

  pub joined_original : (ps : List text.Part) → original run_old (joined p order first new ps) ≡ text.original ps
  joined_original [] = refl
  joined_original (text.Stays x ∷ ps) = ap (λ l. x ∷ l) (joined_original ps)
  joined_original (text.Made ∷ ps) = joined_original ps
  joined_original (text.Box ss xs ∷ ps) = λ i. run_old_is p.how ss xs i ++ joined_original ps i

  pub joined_staged : (ps : List text.Part) → OnBoxes (λ ss xs. IsStaged p.how ss) ps → staged (numbering new) (run_new (numbering new)) (joined p order first new ps) ≡ text.staged p order first new ps
  joined_staged [] h = refl
  joined_staged (text.Stays x ∷ ps) h = λ i. action_goes Slow new nowhere (λ q. refl) x i ∷ joined_staged ps h i
  joined_staged (text.Made ∷ ps) h = ap (λ l. Known ∷ l) (joined_staged ps h)
  joined_staged (text.Box ss xs ∷ ps) h = λ i. box_reads p.how ss xs h.0 h.0.suited i ++ joined_staged ps h.1 i
