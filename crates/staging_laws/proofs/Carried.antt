-- The transfer of a box: it starts without a fault, and it carries the cells of the box.
use Rattle.std.proofs.Common.{◌≡◌, ℕ, zero, suc, ◌+◌, ◌*◌, ◌%◌, ◌<◌, ◌≤◌, List, [], ◌∷◌, map, refl, sym, ap, ◌∙◌, subst, arith, Bool, true, false}
use Rattle.std.specs.Prelude.{◌&&◌, Option, nat_lt, nat_eq, if◌then◌else◌}
use Rattle.std.specs.List.{list_all, range_with_len}
use Rattle.std.proofs.lemmas.Nat.{mod-mul-add}
use Rattle.std.proofs.lemmas.Bool.{lt-ltb, le-leb}
use Rattle.affine_ast.specs.Sizes.{product}
use Rattle.bus_model.specs.declared.step.FaultKind.TheVariants.{Bounds, Shape}
use Rattle.bus_model.specs.declared.transfer.Transfer.{Transfer}
use Rattle.bus_model.specs.Places.{slow_place}
use Rattle.direct_meaning.specs.Action.{Starts, Faults}
use Rattle.direct_meaning.specs.Actions.{started, has_shape}
use Rattle.direct_meaning.specs.Transfers.{ends_by}
use Rattle.boxes.specs.Boxes.{Side, volume, count, IsBox, cell, first, shape, Whole, OneRun, Even, Runs, Mixed, stride_of, chunk_of, is_mixed}
use Rattle.boxes.specs.Boxes as box
use Rattle.boxes.proofs.Places.{cell_in, count_pos}
use Rattle.boxes.proofs.Transfers.{shape_holds, Holds, IsMixed}
use Rattle.boxes.specs.Boxes.{Side}
use Rattle.placement_texts.specs.Boxes.{sizes_of, extents_of}
use Rattle.placement_texts.specs.Labels.{Numbers}
use Rattle.placement_texts.specs.Template.{Placement}
use Rattle.placement_texts.specs.Parts.{row_number, places_of, stride_in, chunk_in}
use Rattle.box_run_laws.specs.Templates.{Carries, carrying}
use Rattle.box_run_laws.proofs.RowMajor as row
use Rattle.staging_laws.specs.Joined.{places_in, half_of, carrier_of, Carried}
use Rattle.staging_laws.proofs.Cells.{sizes_volume, extents_count}

not_mixed : (s : box.Shape) → is_mixed s ≡ false → ¬ IsMixed s
not_mixed Whole e m = m
not_mixed OneRun e m = m
not_mixed (Even c s) e m = m
not_mixed (Runs c s) e m = m
not_mixed Mixed e m = cc

-- the chunk divides the count
times_rest : (m c : ℕ) → 0 < c → m * c % c ≡ 0
times_rest m c h = (let e : m * c ≡ m * c + 0 = omega arith in ap (λ n. n % c) e) ∙ mod-mul-add m c 0 h

one_time : (n : ℕ) → 0 < n → n % n ≡ 0
one_time n h = (let e : n ≡ 1 * n = omega arith in ap (λ k. k % n) e) ∙ times_rest 1 n h

chunk_divides : (ds : List Side) → IsBox ds → (s : box.Shape) → Holds ds s → is_mixed s ≡ false → count ds % chunk_of s (count ds) ≡ 0
chunk_divides ds b Whole h e = one_time (count ds) (count_pos ds b)
chunk_divides ds b OneRun h e = one_time (count ds) (count_pos ds b)
chunk_divides ds b (Even c s) h e = ap (λ n. n % c) h.1.1.0 ∙ times_rest h.1.0 c h.0
chunk_divides ds b (Runs c s) h e = ap (λ n. n % c) h.1.1 ∙ times_rest h.1.0 c h.0
chunk_divides ds b Mixed h e = cc

first_is : (ss : List Side) → row_number (sizes_of ss) (places_of ss) ≡ first ss
first_is [] = refl
first_is (s ∷ ss) = λ i. s.place * sizes_volume ss i + first_is ss i

all_below : (f : ℕ → ℕ) (end n a : ℕ) → ((k : ℕ) → a ≤ k → k < a + n → f k < end) → list_all (λ place. nat_lt place end) (map f (range_with_len a n)) ≡ true
all_below f end zero a h = refl
all_below f end (suc n) a h =
    let one : nat_lt (f a) end ≡ true = lt-ltb (f a) end (h a (omega arith) (omega arith)) in
    λ i. one i && all_below f end n (a + 1) (λ k l m. h k (omega (arith, l)) (omega (arith, m))) i

started_is : (t : Transfer) (end cells : ℕ) → ends_by t end ≡ true → has_shape t cells ≡ true → started t end cells ≡ Starts t
started_is t end cells e f = λ i. if e i then (if f i then Starts t else Faults Shape) else Faults Bounds

-- both ways a transfer has the same slow places
either_way : (p : Placement) (order first_place : ℕ) (new : Numbers) (chunks : Option (ℕ × ℕ)) (ss : List Side) (incoming : Bool) (k : ℕ)
    → slow_place (carrying (half_of p new ss) (carrier_of order new chunks ss) incoming (places_in first_place ss)) k ≡ slow_place (carrying (half_of p new ss) (carrier_of order new chunks ss) true (places_in first_place ss)) k
unfolding slow_place
either_way p order first_place new chunks ss incoming k = refl

module _ (p : Placement) (order first_place : ℕ) (new : Numbers) (chunks : Option (ℕ × ℕ)) (ss : List Side) (b : IsBox ss) (c : Carried chunks ss) where
  pub carries : Carries (half_of p new ss) (carrier_of order new chunks ss) (places_in first_place ss)
  carries = row.carries (half_of p new ss) (carrier_of order new chunks ss) first_place ss b (not_mixed (shape ss) c.even) (extents_count ss)
      (ap (stride_in chunks) (extents_count ss) ∙ c.stride) (ap (chunk_in chunks) (extents_count ss) ∙ c.chunk)

  -- the text's transfer
  abbrev pub transfer_at : Bool → ℕ → Transfer
  transfer_at incoming base = record {
    incoming = incoming;
    tag = new.tag;
    memref = order;
    base = base;
    stride = stride_in chunks (product (extents_of ss));
    chunk = chunk_in chunks (product (extents_of ss));
    count = product (extents_of ss);
    fast = new.fast;
    half = 0;
    offset = 0;
  }

  base_is : first_place + row_number (sizes_of ss) (places_of ss) ≡ places_in first_place ss 0
  base_is = ap (λ n. first_place + n) (first_is ss ∙ sym (row.first_cell ss b))

  ends : (incoming : Bool) → ends_by (carrying (half_of p new ss) (carrier_of order new chunks ss) incoming (places_in first_place ss)) (first_place + product (sizes_of ss)) ≡ true
  ends incoming = all_below (slow_place (carrying (half_of p new ss) (carrier_of order new chunks ss) incoming (places_in first_place ss))) (first_place + product (sizes_of ss)) (product (extents_of ss)) 0
      (λ k l h.
      let less : k < product (extents_of ss) = omega (arith, h) in
      let in_it = cell_in ss k b (subst (λ n. k < n) (extents_count ss) less) in
      let v = sizes_volume ss in
      subst (λ n. n < first_place + product (sizes_of ss)) (sym (either_way p order first_place new chunks ss incoming k ∙ carries k less)) (omega (arith, in_it, v)))

  shaped : (incoming : Bool) → has_shape (carrying (half_of p new ss) (carrier_of order new chunks ss) incoming (places_in first_place ss)) (product (extents_of ss)) ≡ true
  shaped incoming =
      let n = product (extents_of ss) in
      let divides : n % chunk_in chunks n ≡ 0 = (λ i. extents_count ss i % (ap (chunk_in chunks) (extents_count ss) ∙ c.chunk) i) ∙ chunk_divides ss b (shape ss) (shape_holds ss b) c.even in
      λ i. le-leb (0 + n) n (omega arith) i && nat_eq (divides i) 0

  pub starts : (incoming : Bool) → started (transfer_at incoming (first_place + row_number (sizes_of ss) (places_of ss))) (first_place + product (sizes_of ss)) (product (extents_of ss))
      ≡ Starts (carrying (half_of p new ss) (carrier_of order new chunks ss) incoming (places_in first_place ss))
  starts incoming =
      let t = carrying (half_of p new ss) (carrier_of order new chunks ss) incoming (places_in first_place ss) in
      ap (λ base. started (transfer_at incoming base) (first_place + product (sizes_of ss)) (product (extents_of ss))) base_is
      ∙ started_is t (first_place + product (sizes_of ss)) (product (extents_of ss)) (ends incoming) (shaped incoming)
