-- The loops that copy a box, element by element, are the copies of its cells one after the other.
use Rattle.std.proofs.Common.{◌≡◌, ℕ, zero, suc, ◌+◌, ◌*◌, ◌/◌, ◌%◌, ◌<◌, List, [], ◌∷◌, refl, ap, ◌∙◌, arith}
use Rattle.std.specs.Prelude.{flat_map}
use Rattle.std.specs.List.{range_with_len}
use Rattle.std.proofs.lemmas.Nat.{mod_below, div-add-mod'}
use Rattle.affine_ast.specs.Sizes.{product}
use Rattle.direct_meaning.specs.Turns.{from_on}
use Rattle.direct_meaning.specs.Action.{Slow, Fast, Register, Action, Loads, Stores}
use Rattle.boxes.specs.Boxes.{cell}
use Rattle.boxes.specs.Boxes.{Side}
use Rattle.placement_texts.specs.Boxes.{sizes_of, extents_of}
use Rattle.placement_texts.specs.Labels.{Numbers}
use Rattle.placement_texts.specs.Template.{Placement, in_value, out_value}
use Rattle.placement_texts.specs.Parts.{row_number, behind_place, over_box, element_in, element_out}
use Rattle.box_run_laws.specs.Templates.{pairs, copies_in, copies_out}
use Rattle.box_run_laws.proofs.RowMajor.{nested, digits, nested_is, flat_same, pairs_are}
use Rattle.staging_laws.specs.Joined.{places_in, half_of}
use Rattle.staging_laws.proofs.Cells.{sizes_volume, extents_count}

range_is : (n a : ℕ) → from_on a n ≡ range_with_len a n
range_is zero a = refl
range_is (suc n) a = let e : suc a ≡ a + 1 = omega arith in λ i. a ∷ (ap (λ j. from_on j n) e ∙ range_is n (a + 1)) i

over_is : (es : List ℕ) (f : List ℕ → List Action) → over_box es f ≡ nested es f
over_is [] f = refl
over_is (e ∷ es) f = λ j. flat_map (λ i. over_is es (λ is. f (i ∷ is)) j) (range_is e 0 j)

-- the memref's element and the fast memref's, at turn t of all loops
pub row_digits : (ss : List Side) (t : ℕ) → row_number (sizes_of ss) (behind_place ss (digits (extents_of ss) t)) ≡ cell ss t
row_digits [] t = refl
row_digits (s ∷ ss) t =
    (λ i. (s.place + t / product (extents_of ss)) * product (sizes_of ss) + row_digits ss (t % product (extents_of ss)) i)
    ∙ (λ i. (s.place + t / extents_count ss i) * sizes_volume ss i + cell ss (t % extents_count ss i))

row_self : (es : List ℕ) (t : ℕ) → t < product es → row_number es (digits es t) ≡ t
row_self [] t h = omega (arith, h)
row_self (e ∷ es) t h =
    let some : 0 < product es = positive e (product es) t h in
    (λ i. t / product es * product es + row_self es (t % product es) (mod_below t (product es) some) i) ∙ div-add-mod' t (product es)
  where
    positive : (e p t : ℕ) → t < e * p → 0 < p
    positive e zero t h = absurd (let z : e * 0 ≡ 0 = omega arith in omega (arith, h, z))
    positive e (suc p) t h = omega arith

module _ (p : Placement) (first : ℕ) (new : Numbers) (ss : List Side) where
  -- whichever two actions are done with an element's two places
  loops_go : (f g : ℕ → ℕ → Action) → over_box (extents_of ss) (λ is. f (first + row_number (sizes_of ss) (behind_place ss is)) (row_number (extents_of ss) is) ∷ g (first + row_number (sizes_of ss) (behind_place ss is)) (row_number (extents_of ss) is) ∷ [])
      ≡ pairs (λ k. f (places_in first ss k) k) (λ k. g (places_in first ss k) k) (product (extents_of ss)) 0
  loops_go f g =
      let es = extents_of ss in
      let B = λ (is : List ℕ). f (first + row_number (sizes_of ss) (behind_place ss is)) (row_number es is) ∷ g (first + row_number (sizes_of ss) (behind_place ss is)) (row_number es is) ∷ [] in
      let C = λ (t : ℕ). f (places_in first ss t) t ∷ g (places_in first ss t) t ∷ [] in
      over_is es B ∙ nested_is es B
      ∙ flat_same (λ t. B (digits es t)) C (product es) 0
      (λ t l h.
      let less : t < product es = omega (arith, h) in
      λ i. f (first + row_digits ss t i) (row_self es t less i) ∷ g (first + row_digits ss t i) (row_self es t less i) ∷ [])
      ∙ pairs_are (λ k. f (places_in first ss k) k) (λ k. g (places_in first ss k) k) (product es) 0

  pub reading_is : (order : ℕ) → over_box (extents_of ss) (element_in p order first new ss) ≡ copies_in (in_value p.name) (half_of p new ss) (places_in first ss)
  reading_is order = loops_go (λ q k. Loads (in_value p.name) (Slow q)) (λ q k. Stores (Register (in_value p.name)) (Fast new.fast 0 k))

  pub writing_is : (order : ℕ) → over_box (extents_of ss) (element_out p order first new ss) ≡ copies_out (out_value p.name) (half_of p new ss) (places_in first ss)
  writing_is order = loops_go (λ q k. Loads (out_value p.name) (Fast new.fast 0 k)) (λ q k. Stores (Register (out_value p.name)) (Slow q))
