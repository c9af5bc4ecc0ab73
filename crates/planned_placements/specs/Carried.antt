-- How a box of a placement lies in its memref, as code finds it: from the last dimension on, with the elements of the inner box and memref.
use Rattle.std.specs.Prelude.{◌≡◌, List}
use Rattle.boxes.specs.Boxes as boxes
use Rattle.placement_texts.specs.Template.{Dimension}
use Rattle.staging_laws.specs.Law.{flat_spans}
use Rattle.planned_placements.specs.declared.how.Carried.{Carried}
use Rattle.planned_placements.specs.declared.how.Shape.{Shape}
use Rattle.planned_placements.specs.declared.how.Shape.TheVariants as code

abbrev pub shape_of : Shape → boxes.Shape
shape_of code.Whole = boxes.Whole
shape_of code.OneRun = boxes.OneRun
shape_of (code.Even chunk stride) = boxes.Even chunk stride
shape_of (code.Runs chunk stride) = boxes.Runs chunk stride
shape_of code.Mixed = boxes.Mixed

pub record IsCarried (ds : List Dimension) (c : Carried) : Type 0 where
  pub shape : shape_of c.shape ≡ boxes.shape (flat_spans ds)
  pub count : c.count ≡ boxes.count (flat_spans ds)
  pub volume : c.volume ≡ boxes.volume (flat_spans ds)
