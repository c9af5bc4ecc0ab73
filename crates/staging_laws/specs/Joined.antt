-- The parts of a text's actions, as parts of a run.
use Rattle.std.specs.Prelude.{◌≡◌, ℕ, ◌+◌, false, List, [], ◌∷◌, Option}
use Rattle.affine_ast.specs.Sizes.{product}
use Rattle.direct_meaning.specs.Action.{Action}
use Rattle.boxes.specs.Boxes.{Side, cell, count, shape, stride_of, chunk_of, is_mixed}
use Rattle.boxes.specs.Boxes.{Side}
use Rattle.placement_texts.specs.Boxes.{extents_of, LiesIn, HasElements}
use Rattle.placement_texts.specs.Labels.{Numbers, fast_up, tag_up}
use Rattle.placement_texts.specs.Template.{How, Copies, Transfers, Placement, in_value, out_value}
use Rattle.placement_texts.specs.Parts.{stride_in, chunk_in}
use Rattle.placement_texts.specs.Parts as text
use Rattle.box_run_laws.specs.Layouts.{Numbering}
use Rattle.box_run_laws.specs.Boxes.{Half}
use Rattle.box_run_laws.specs.Parts.{Part, Stays, Made, Runs}
use Rattle.box_run_laws.specs.Templates.{Carrier}
use Rattle.box_run_laws.specs.Runs.{Fast, Run, Copying, Carrying}

-- the new numbers, of fast memrefs and of tags
abbrev pub numbering : Numbers → Numbering
numbering new = record { fasts = fast_up new; tags = tag_up new }

-- the slow place of each cell of a box of the memref that begins at `first`
abbrev pub places_in : ℕ → List Side → ℕ → ℕ
places_in first spans k = first + cell spans k

abbrev pub half_of : Placement → Numbers → List Side → Half
half_of p new spans = record {
  number = new.fast;
  half = 0;
  count = product (extents_of spans);
  reads = p.reads;
  writes = p.writes;
}

abbrev pub fast_of : Placement → Numbers → List Side → Fast
fast_of p new spans = record { half = half_of p new spans; element = p.element; sizes = 1 ∷ extents_of spans }

abbrev pub carrier_of : ℕ → Numbers → Option (ℕ × ℕ) → List Side → Carrier
carrier_of order new chunks spans = record {
  memref = order;
  stride = stride_in chunks (product (extents_of spans));
  chunk = chunk_in chunks (product (extents_of spans));
  tag = new.tag;
}

module _ (p : Placement) (order first : ℕ) (new : Numbers) where
  -- one run of the placement's loop
  abbrev pub run_by : How → List Side → List Action → Run
  run_by Copies spans xs = Copying (fast_of p new spans) (in_value p.name) (out_value p.name)
      (record { place = places_in first spans; inner = xs })
  run_by (Transfers chunks) spans xs = Carrying (fast_of p new spans) (carrier_of order new chunks spans)
      (record { place = places_in first spans; inner = xs })

  abbrev pub joined : List text.Part → List (Part Run)
  joined [] = []
  joined (text.Stays x ∷ ps) = Stays x ∷ joined ps
  joined (text.Made ∷ ps) = Made ∷ joined ps
  joined (text.Box spans xs ∷ ps) = Runs (run_by p.how spans xs) ∷ joined ps

-- one transfer carries the box: the box has a shape that one transfer has, and the transfer has its stride and its chunk
pub record Carried (chunks : Option (ℕ × ℕ)) (spans : List Side) : Type 0 where
  pub even : is_mixed (shape spans) ≡ false
  pub stride : stride_in chunks (count spans) ≡ stride_of (shape spans) (count spans)
  pub chunk : chunk_in chunks (count spans) ≡ chunk_of (shape spans) (count spans)

-- copy loops ask nothing of a box's shape
abbrev pub Suited : How → List Side → Type 0
Suited Copies spans = Unit {0}
Suited (Transfers chunks) spans = Carried chunks spans

-- each box of the parts: something holds of where it lies and of its loop's actions
abbrev pub OnBoxes : (List Side → List Action → Type 0) → List text.Part → Type 0
OnBoxes P [] = Unit {0}
OnBoxes P (text.Stays x ∷ ps) = OnBoxes P ps
OnBoxes P (text.Made ∷ ps) = OnBoxes P ps
OnBoxes P (text.Box spans xs ∷ ps) = P spans xs × OnBoxes P ps

-- a box that lies in the memref and has elements, and one transfer carries it where transfers are used
pub record IsStaged (how : How) (spans : List Side) : Type 0 where
  pub lies : LiesIn spans
  pub elements : HasElements spans
  pub suited : Suited how spans
