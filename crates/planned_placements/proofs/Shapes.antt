-- The shape of a box with one dimension more, by that of the inner one.
use Rattle.std.proofs.Common.{◌≡◌, ℕ, zero, suc, ◌+◌, ◌*◌, ◌^◌, ◌≤◌, ◌<◌, List, [], ◌∷◌, Bool, drop, length, get_or, refl, sym, ap, ◌∙◌, subst, arith}
use Rattle.std.specs.Prelude.{nat_eq, if◌then◌else◌}
use Rattle.std.proofs.lemmas.List.{drop_more}
use Rattle.boxes.specs.Boxes as boxes
use Rattle.placement_texts.specs.Template.{Dimension}
use Rattle.staging_laws.specs.Law.{flat_spans}
use Rattle.planned_placements.specs.declared.how.Carried.{Carried}
use Rattle.planned_placements.specs.declared.how.Shape.TheVariants as code
use Rattle.planned_placements.specs.Carried.{shape_of, IsCarried}
use Rattle.planned_placements.specs.Writable.{IsNarrow}

side : Dimension → boxes.Side
side d = record { size = d.size; place = 0; extent = d.extent }

-- ---- by the inner box
pub behind_whole : (d : Dimension) (ds : List Dimension) (c : Carried) → c.shape ≡ code.Whole → IsCarried ds c
    → boxes.shape (flat_spans (d ∷ ds)) ≡ (if nat_eq d.extent d.size then boxes.Whole else boxes.OneRun)
behind_whole d ds c is h = ap (boxes.shape_over (record { size = d.size; place = 0; extent = d.extent }) (flat_spans ds)) (sym h.shape ∙ ap shape_of is)

pub behind_run : (d : Dimension) (ds : List Dimension) (c : Carried) → c.shape ≡ code.OneRun → IsCarried ds c
    → boxes.shape (flat_spans (d ∷ ds)) ≡ (if nat_eq d.extent 1 then boxes.OneRun else (if nat_eq d.extent d.size then boxes.Even c.count c.volume else boxes.Runs c.count c.volume))
behind_run d ds c is h =
    ap (boxes.shape_over (record { size = d.size; place = 0; extent = d.extent }) (flat_spans ds)) (sym h.shape ∙ ap shape_of is)
    ∙ (λ i. if nat_eq d.extent 1 then boxes.OneRun else (if nat_eq d.extent d.size then boxes.Even (sym h.count i) (sym h.volume i) else boxes.Runs (sym h.count i) (sym h.volume i)))

pub behind_even : (d : Dimension) (ds : List Dimension) (c : Carried) (chunk stride : ℕ) → c.shape ≡ code.Even chunk stride → IsCarried ds c
    → boxes.shape (flat_spans (d ∷ ds)) ≡ (if nat_eq d.extent d.size then boxes.Even chunk stride else boxes.Runs chunk stride)
behind_even d ds c chunk stride is h = ap (boxes.shape_over (record { size = d.size; place = 0; extent = d.extent }) (flat_spans ds)) (sym h.shape ∙ ap shape_of is)

pub behind_runs : (d : Dimension) (ds : List Dimension) (c : Carried) (chunk stride : ℕ) → c.shape ≡ code.Runs chunk stride → IsCarried ds c
    → boxes.shape (flat_spans (d ∷ ds)) ≡ (if nat_eq d.extent 1 then boxes.Runs chunk stride else boxes.Mixed)
behind_runs d ds c chunk stride is h = ap (boxes.shape_over (record { size = d.size; place = 0; extent = d.extent }) (flat_spans ds)) (sym h.shape ∙ ap shape_of is)

pub behind_mixed : (d : Dimension) (ds : List Dimension) (c : Carried) → c.shape ≡ code.Mixed → IsCarried ds c → boxes.shape (flat_spans (d ∷ ds)) ≡ boxes.Mixed
behind_mixed d ds c is h = ap (boxes.shape_over (record { size = d.size; place = 0; extent = d.extent }) (flat_spans ds)) (sym h.shape ∙ ap shape_of is)

-- ---- from the last dimension on
pub carried_more : (ds : List Dimension) (k : ℕ) (d : Dimension) (c made : Carried) → k < length ds → d ≡ get_or ds k d → IsCarried (drop (k + 1) ds) c
    → ((es : List Dimension) → IsCarried es c → IsCarried (d ∷ es) made) → IsCarried (drop k ds) made
carried_more ds k d c made h is inner more =
    subst (λ es. IsCarried es made) (sym (drop_more ds k d h ∙ ap (λ d. d ∷ drop (k + 1) ds) (sym is))) (more (drop (k + 1) ds) inner)

narrow_from : (k : ℕ) (ds : List Dimension) → IsNarrow ds → IsNarrow (drop k ds)
narrow_from zero ds h = h
narrow_from (suc k) [] h = tt
narrow_from (suc k) (d ∷ ds) h = narrow_from k ds h.3

fewer : (ds : List Dimension) → IsNarrow ds → boxes.count (flat_spans ds) ≤ boxes.volume (flat_spans ds)
fewer [] h = omega arith
fewer (d ∷ ds) h = times_most d.extent (boxes.count (flat_spans ds)) d.size (boxes.volume (flat_spans ds)) h.1 (fewer ds h.3)
  where
    times_most : (a b c d : ℕ) → a ≤ c → b ≤ d → a * b ≤ c * d
    times_most a b c d p q = grind (arith, p, q)

record HasRoom (d : Dimension) (c : Carried) : Type 0 where
  count : d.extent * c.count < 2 ^ 32
  volume : d.size * c.volume < 2 ^ 32

room : (ds : List Dimension) (k : ℕ) (d : Dimension) (c : Carried) → k < length ds → d ≡ get_or ds k d → IsNarrow ds → IsCarried (drop (k + 1) ds) c → HasRoom d c
room ds k d c h is narrow inner =
    by (subst IsNarrow (drop_more ds k d h ∙ ap (λ d. d ∷ drop (k + 1) ds) (sym is)) (narrow_from k ds narrow))
  where
    below : (a b c d m : ℕ) → a ≤ c → b ≤ d → c * d < m → a * b < m
    below a b c d m p q r = grind (arith, p, q, r)

    by : IsNarrow (d ∷ drop (k + 1) ds) → HasRoom d c
    by n =
        let rest = drop (k + 1) ds in
        let f = fewer rest n.3 in
        record {
          count = subst (λ x. d.extent * x < 2 ^ 32) (sym inner.count) (below d.extent (boxes.count (flat_spans rest)) d.size (boxes.volume (flat_spans rest)) (2 ^ 32) n.1 f n.2);
          volume = subst (λ x. d.size * x < 2 ^ 32) (sym inner.volume) n.2;
        }

pub room_count : (ds : List Dimension) (k : ℕ) (d : Dimension) (c : Carried) → k < length ds → d ≡ get_or ds k d → IsNarrow ds → IsCarried (drop (k + 1) ds) c → d.extent * c.count < 2 ^ 32
room_count ds k d c h is narrow inner = (room ds k d c h is narrow inner).count

pub room_volume : (ds : List Dimension) (k : ℕ) (d : Dimension) (c : Carried) → k < length ds → d ≡ get_or ds k d → IsNarrow ds → IsCarried (drop (k + 1) ds) c → d.size * c.volume < 2 ^ 32
room_volume ds k d c h is narrow inner = (room ds k d c h is narrow inner).volume
