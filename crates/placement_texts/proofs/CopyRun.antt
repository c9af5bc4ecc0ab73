-- The loops that copy a box, at any rank: an action for each element, in and out.
use Rattle.std.proofs.Common.{◌≡◌, ℕ, zero, suc, ◌+◌, ◌<◌, ◌≤◌, ℤ, pos, ◌+ℤ◌, List, [], ◌∷◌, ◌++◌, length, refl, sym, ap, ◌∙◌, arith, Bool, true, false, map}
use Rattle.std.specs.Prelude.{flat_map, Some}
use Rattle.std.specs.Int.{int_max}
use Rattle.std.proofs.lemmas.Int.{ints}
use Rattle.std.proofs.lemmas.List.{append-nil, append_assoc, length-append}
use Rattle.affine_expr.specs.declared.expr.Expr.{Dim}
use Rattle.affine_expr.specs.Value.{value}
use Rattle.affine_expr.proofs.Values.{value-Add}
use Rattle.affine_ast.specs.declared.name.Name.{Name}
use Rattle.affine_ast.specs.declared.types.Bound.TheVariants as bound
use Rattle.affine_ast.specs.Names.{same_name}
use Rattle.affine_ast.specs.Nest.{Nest, Nothing}
use Rattle.affine_ast.specs.Sizes.{product}
use Rattle.affine_ast.proofs.Names.{same_name-refl, put-same, put-other}
use Rattle.direct_meaning.specs.Turns.{turns, below, from_on}
use Rattle.direct_meaning.specs.Action.{Action}
use Rattle.direct_meaning.specs.Static.{Env, knows, number, numbers, row_major, cell_in, lower_of, upper_of}
use Rattle.direct_meaning.specs.Actions.{behind, actions}
use Rattle.direct_meaning.proofs.Laws.{actions-Nothing, actions-Loop, turns_more, turns_end}
use Rattle.boxes.specs.Boxes.{Side}
use Rattle.placement_texts.specs.Boxes.{sizes_of, extents_of, LiesIn}
use Rattle.placement_texts.specs.Template.{Dimension, dim_extents, Begin, Fixed, Named, named, turn_names, turn_dims, turn_places, loops}
use Rattle.placement_texts.specs.Parts.{row_number, behind_place, over_box}
use Rattle.placement_texts.proofs.Cells.{within_at}
use Rattle.placement_texts.proofs.Subscripts.{value-plus, dim_behind, one_more, begin_numbers}
use Rattle.placement_texts.proofs.Redirect.{span_places}

-- ---- the turns of `0 to n`
from_turns : (n a : ℕ) → turns (pos a) (pos (a + n)) (pos 1) ≡ map pos (from_on a n)
from_turns zero a = turns_end (pos a) (pos (a + 0)) (pos 1) (omega (arith, ints))
from_turns (suc n) a =
    let e : pos a +ℤ int_max (pos 1) (pos 1) ≡ pos (suc a) = omega (arith, ints) in
    let f : a + suc n ≡ suc a + n = omega arith in
    turns_more (pos a) (pos (a + suc n)) (pos 1) (omega (arith, ints))
    ∙ (λ i. pos a ∷ turns (e i) (pos (f i)) (pos 1))
    ∙ ap (λ ts. pos a ∷ ts) (from_turns n (suc a))

below_turns : (n : ℕ) → turns (pos 0) (pos n) (pos 1) ≡ map pos (below n)
below_turns n = let e : n ≡ 0 + n = omega arith in ap (λ m. turns (pos 0) (pos m) (pos 1)) e ∙ from_turns n 0

-- element by element
flat_from : (A : ℕ → List Action) (B : ℤ → List Action) (n a : ℕ) → ((i : ℕ) → i < a + n → B (pos i) ≡ A i) → flat_map B (map pos (from_on a n)) ≡ flat_map A (from_on a n)
flat_from A B zero a h = refl
flat_from A B (suc n) a h = λ i. h a (omega arith) i ++ flat_from A B n (suc a) (λ j less. h j (omega (arith, less))) i

-- ---- elements of a box
abbrev pub Below : List ℕ → List ℕ → Type 0
Below [] [] = Unit {0}
Below (e ∷ es) (i ∷ is) = (i < e) × Below es is
Below [] (i ∷ is) = ⊥
Below (e ∷ es) [] = ⊥

pub below_length : (es is : List ℕ) → Below es is → length is ≡ length es
below_length [] [] h = refl
below_length (e ∷ es) (i ∷ is) h = ap suc (below_length es is h.1)
below_length [] (i ∷ is) h = absurd h
below_length (e ∷ es) [] h = absurd h

pub cell_number : (ns is : List ℕ) → Below ns is → cell_in ns (map pos is) ≡ Some (row_number ns is)
cell_number [] [] h = refl
cell_number (n ∷ ns) (i ∷ is) h = λ j. row_major (within_at i n h.0 j) (product ns) (cell_number ns is h.1 j)
cell_number [] (i ∷ is) h = absurd h
cell_number (n ∷ ns) [] h = absurd h

pub behind_below : (ss : List Side) (is : List ℕ) → LiesIn ss → Below (extents_of ss) is → Below (sizes_of ss) (behind_place ss is)
behind_below [] [] l h = tt
behind_below (s ∷ ss) (i ∷ is) l h = let a = l.0 in let b = h.0 in (omega (arith, a, b), behind_below ss is l.1 h.1)
behind_below [] (i ∷ is) l h = absurd h
behind_below (s ∷ ss) [] l h = absurd h

abbrev pub plus_each : List ℕ → List ℤ → List ℤ
plus_each [] ps = []
plus_each (i ∷ is) [] = []
plus_each (i ∷ is) (p ∷ ps) = (pos i +ℤ p) ∷ plus_each is ps

pub plus_places : (ss : List Side) (is : List ℕ) → plus_each is (span_places ss) ≡ map pos (behind_place ss is)
plus_places [] [] = refl
plus_places [] (i ∷ is) = refl
plus_places (s ∷ ss) [] = refl
plus_places (s ∷ ss) (i ∷ is) = let e : pos i +ℤ pos s.place ≡ pos (s.place + i) = omega (arith, ints) in λ j. e j ∷ plus_places ss is j

-- ---- what is known in a turn
module _ (turn : ℕ → Name) (apart : (i j : ℕ) → same_name (turn i) (turn j) ≡ true → i ≡ j) where
  abbrev pub turns_env : ℕ → List ℕ → Env → Env
  turns_env d [] g = g
  turns_env d (i ∷ is) g = turns_env (suc d) is (knows g (turn d) (pos i))

  pub turns_keep : (d : ℕ) (is : List ℕ) (g : Env) (n : Name) → ((j : ℕ) → d ≤ j → same_name (turn j) n ≡ false) → (turns_env d is g).known n ≡ g.known n
  turns_keep d [] g n h = refl
  turns_keep d (i ∷ is) g n h = turns_keep (suc d) is (knows g (turn d) (pos i)) n (λ j l. h j (omega (arith, l))) ∙ put-other g.known (turn d) (Some (pos i)) n (h d (omega arith))

  pub turns_home : (d : ℕ) (is : List ℕ) (g : Env) → (turns_env d is g).home ≡ g.home
  turns_home d [] g = refl
  turns_home d (i ∷ is) g = turns_home (suc d) is (knows g (turn d) (pos i))

  other_turn : (i j : ℕ) → (i ≡ j → ⊥) → same_name (turn i) (turn j) ≡ false
  other_turn i j ne = by_case (same_name (turn i) (turn j)) refl
    where
      by_case : (t : Bool) → same_name (turn i) (turn j) ≡ t → same_name (turn i) (turn j) ≡ false
      by_case true e = absurd (ne (apart i j e))
      by_case false e = e

  pub turns_known : (d : ℕ) (is : List ℕ) (bs : List Begin) (g : Env) → length is ≡ length bs → numbers (turns_env d is g) (turn_names turn d bs) ≡ map pos is
  turns_known d [] [] g h = refl
  turns_known d (i ∷ is) (b ∷ bs) g h =
      let g1 = knows g (turn d) (pos i) in
      λ j. number ((turns_keep (suc d) is g1 (turn d) (λ j l. other_turn j d (λ e. omega (arith, l, e))) ∙ put-same g.known (turn d) (Some (pos i)) (turn d) (same_name-refl (turn d))) j)
      ∷ turns_known (suc d) is bs g1 (omega (arith, h)) j
  turns_known d [] (b ∷ bs) g h = absurd (omega (arith, h))
  turns_known d (i ∷ is) [] g h = absurd (omega (arith, h))

  -- the loops' actions, from those of a turn
  pub loops_run : (d : ℕ) (ds : List Dimension) (inner : Nest) (g : Env) (f : List ℕ → List Action) → ((is : List ℕ) → Below (dim_extents ds) is → actions inner (turns_env d is g) ≡ f is)
      → actions (loops turn d ds inner) g ≡ over_box (dim_extents ds) f
  unfolding lower_of upper_of
  loops_run d [] inner g f h = h [] tt
  loops_run d (dim ∷ ds) inner g f h =
      actions-Loop 0 (turn d) (bound.Int (pos 0)) (bound.Int (pos dim.extent)) (pos 1) (loops turn (suc d) ds inner) Nothing g
      ∙ ap (λ xs. flat_map (λ t. actions (loops turn (suc d) ds inner) (knows g (turn d) t)) (turns (pos 0) (pos dim.extent) (pos 1)) ++ xs) (actions-Nothing (behind (loops turn (suc d) ds inner) g))
      ∙ append-nil (flat_map (λ t. actions (loops turn (suc d) ds inner) (knows g (turn d) t)) (turns (pos 0) (pos dim.extent) (pos 1)))
      ∙ ap (flat_map (λ t. actions (loops turn (suc d) ds inner) (knows g (turn d) t))) (below_turns dim.extent)
      ∙ flat_from (λ i. over_box (dim_extents ds) (λ is. f (i ∷ is))) (λ t. actions (loops turn (suc d) ds inner) (knows g (turn d) t)) dim.extent 0
      (λ i less. let l : i < dim.extent = omega (arith, less) in loops_run (suc d) ds inner (knows g (turn d) (pos i)) (λ is. f (i ∷ is)) (λ is b. h (i ∷ is) (l, b)))

-- ---- the subscripts in a turn
pub length_pos : (is : List ℕ) → length (map pos is) ≡ length is
length_pos [] = refl
length_pos (i ∷ is) = ap suc (length_pos is)

module _ (g : Env) where
  pub turn_values : (front : List ℤ) (is : List ℕ) (mid : List ℤ) (bs : List Begin) (d k : ℕ) → length front ≡ d → length front + length is + length mid ≡ k → length is ≡ length bs
      → map (value (front ++ (map pos is ++ (mid ++ numbers g (named bs)))) []) (turn_places d k bs) ≡ plus_each is (begin_numbers g bs)
  turn_values front [] mid [] d k p q r = refl
  turn_values front (i ∷ is) mid (Fixed z ∷ bs) d k p q r =
      let rest = map pos is ++ (mid ++ numbers g (named bs)) in
      let again : front ++ pos i ∷ rest ≡ (front ++ pos i ∷ []) ++ rest = sym (append_assoc front (pos i ∷ []) rest) in
      let longer = one_more front (pos i) d p in
      λ j. (value-plus (front ++ pos i ∷ rest) [] (Dim d) z ∙ ap (λ w. w +ℤ z) (dim_behind [] front (pos i) rest d p)) j
      ∷ (ap (λ l. map (value l []) (turn_places (suc d) k bs)) again ∙ turn_values (front ++ pos i ∷ []) is mid bs (suc d) k longer (omega (arith, longer, p, q)) (omega (arith, r))) j
  turn_values front (i ∷ is) mid (Named n ∷ bs) d k p q r =
      let x = number (g.known n) in
      let more = numbers g (named bs) in
      let rest = map pos is ++ (mid ++ x ∷ more) in
      let before = front ++ (map pos (i ∷ is) ++ mid) in
      let shape : front ++ pos i ∷ rest ≡ before ++ x ∷ more =
      ap (λ l. front ++ l) (sym (append_assoc (map pos (i ∷ is)) mid (x ∷ more))) ∙ sym (append_assoc front (map pos (i ∷ is) ++ mid) (x ∷ more)) in
      let long : length before ≡ k =
      (let a = length-append front (map pos (i ∷ is) ++ mid) in let b = length-append (map pos (i ∷ is)) mid in let c = length_pos (i ∷ is) in omega (arith, a, b, c, q)) in
      let again : front ++ pos i ∷ rest ≡ (front ++ pos i ∷ []) ++ (map pos is ++ ((mid ++ x ∷ []) ++ more)) =
      sym (append_assoc front (pos i ∷ []) rest) ∙ ap (λ l. (front ++ pos i ∷ []) ++ (map pos is ++ l)) (sym (append_assoc mid (x ∷ []) more)) in
      let longer = one_more front (pos i) d p in
      let mid_longer = one_more mid x (length mid) refl in
      λ j. (value-Add (front ++ pos i ∷ rest) [] (Dim d) (Dim k) ∙ (λ j. dim_behind [] front (pos i) rest d p j +ℤ (ap (λ l. value l [] (Dim k)) shape ∙ dim_behind [] before x more k long) j)) j
      ∷ (ap (λ l. map (value l []) (turn_places (suc d) (suc k) bs)) again
      ∙ turn_values (front ++ pos i ∷ []) is (mid ++ x ∷ []) bs (suc d) (suc k) longer (omega (arith, longer, mid_longer, p, q)) (omega (arith, r))) j
  turn_values front [] mid (b ∷ bs) d k p q r = absurd (omega (arith, r))
  turn_values front (i ∷ is) mid [] d k p q r = absurd (omega (arith, r))

  pub dim_values : (front : List ℤ) (is : List ℕ) (bs : List Begin) (d : ℕ) → length front ≡ d → length is ≡ length bs → map (value (front ++ map pos is) []) (turn_dims d bs) ≡ map pos is
  dim_values front [] [] d p r = refl
  dim_values front (i ∷ is) (b ∷ bs) d p r =
      let again : front ++ pos i ∷ map pos is ≡ (front ++ pos i ∷ []) ++ map pos is = sym (append_assoc front (pos i ∷ []) (map pos is)) in
      λ j. dim_behind [] front (pos i) (map pos is) d p j
      ∷ (ap (λ l. map (value l []) (turn_dims (suc d) bs)) again ∙ dim_values (front ++ pos i ∷ []) is bs (suc d) (one_more front (pos i) d p) (omega (arith, r))) j
  dim_values front [] (b ∷ bs) d p r = absurd (omega (arith, r))
  dim_values front (i ∷ is) [] d p r = absurd (omega (arith, r))
