-- Where an access with a place in the ring goes.
use Rattle.std.proofs.Common.{◌≡◌, ℕ, zero, suc, ◌+◌, ◌*◌, ◌≤◌, ℤ, pos, negsuc, ◌+ℤ◌, ◌-ℤ◌, ◌*ℤ◌, ◌<ℤ◌, ◌≤ℤ◌, List, [], ◌∷◌, ◌++◌, length, map, take, drop, refl, sym, ap, ◌∙◌, subst, arith, Bool, true, false}
use Rattle.std.specs.Prelude.{◌&&◌, Option, Some, None, if◌then◌else◌}
use Rattle.std.specs.List.{list_all}
use Rattle.std.proofs.lemmas.Bool.{and_parts, eqb-true, lt-ltb}
use Rattle.std.proofs.lemmas.Int.{ints}
use Rattle.std.proofs.lemmas.List.{append_assoc, length-append}
use Rattle.num_row.proofs.Ring.{Var, ◌⊗◌, ring}
use Rattle.num_row.proofs.Floors.{floor_below}
use Rattle.affine_expr.specs.declared.expr.Expr.{Expr, Const, Dim, FloorDiv, fold-Expr, fold-roll-Expr}
use Rattle.affine_expr.specs.declared.expr.Expr.TheVariants.{rolls-Const}
use Rattle.affine_expr.specs.declared.expr.Expr.TheOpen.{Expr-F}
use Rattle.affine_expr.specs.Value.{value, floor_div, floor_mod}
use Rattle.affine_expr.specs.Pure.{has_leaves_below, leaves_step}
use Rattle.affine_expr.proofs.Values.{value-Const, value-FloorDiv, value-Mod}
use Rattle.affine_ast.specs.declared.name.Name.{Name}
use Rattle.affine_ast.specs.declared.types.Access.{Access}
use Rattle.affine_ast.specs.declared.types.Bound.{Bound}
use Rattle.affine_ast.specs.Rules.{map_fits}
use Rattle.direct_meaning.specs.Action.{Fast, FastMemref, TagMemref}
use Rattle.direct_meaning.specs.Static.{Env, number, numbers, results_of, cell_in, row_major, fast_at, place_at, place_of, tag_at, tag_of, within}
use Rattle.direct_meaning.specs.Turns.{gap}
use Rattle.direct_meaning.proofs.TurnLaws.{floor_is}
use Rattle.placement_texts.specs.Template.{Placement, dim_extents, fast_type, plus, tag_at_zero}
use Rattle.placement_texts.proofs.Subscripts.{value-plus, value_stays, dim_behind, numbers_append, length_numbers, take_all, drop_all, one_more}
use Rattle.step_runs.specs.Stage.{Half, Stage, place_in, place_by}
use Rattle.ring_runs.specs.Places.{ring_place}
use Rattle.ring_runs.proofs.Places.{place_within}
use Rattle.ring_plans.specs.Rings.{at_place, ring_tags, ring_type}
use Rattle.ring_plans.specs.Rings as rings
use Rattle.ring_scripts.specs.Readings.{RingPlaceIs, AccessInRing, TagInRing}

-- a place in the ring is the number that its expression says
place_number : (i : ℤ) (s buffers : ℕ) → 1 ≤ buffers → pos (ring_place i s buffers) ≡ floor_mod (floor_div i (pos s)) (pos buffers)
unfolding floor_mod
place_number i s buffers h =
    let q = floor_div i (pos s) in
    let some : pos 0 <ℤ pos buffers = omega (arith, ints, h) in
    let f = floor_div q (pos buffers) in
    let e = floor_is q buffers in
    let low : (f *ℤ pos buffers) ≤ℤ q = subst (λ z. (z *ℤ pos buffers) ≤ℤ q) (sym e) (floor_below q (pos buffers) some) in
    let c : pos buffers *ℤ f ≡ f *ℤ pos buffers = ring (Var (pos buffers) ⊗ Var f) (Var f ⊗ Var (pos buffers)) (omega arith) in
    as_natural (q -ℤ pos buffers *ℤ f) (omega (arith, ints, low, c))
  where
    as_natural : (z : ℤ) → pos 0 ≤ℤ z → pos (gap z) ≡ z
    as_natural (pos n) h = refl
    as_natural (negsuc n) h = absurd h.le

length_take : {A : Type 0} (xs : List A) (n : ℕ) → n ≤ length xs → length (take n xs) ≡ n
length_take xs zero h = refl
length_take [] (suc n) h = absurd (omega (arith, h))
length_take (x ∷ xs) (suc n) h = ap suc (length_take xs n (omega (arith, h)))

-- expressions that don't see one dimension more
all_stay : (ds ss : List ℤ) (x : ℤ) (syms : ℕ) (es : List Expr) → list_all (has_leaves_below (length ds) syms) es ≡ true → map (value (ds ++ x ∷ []) ss) es ≡ map (value ds ss) es
all_stay ds ss x syms [] h = refl
all_stay ds ss x syms (e ∷ es) h = let p = and_parts _ _ h in λ i. value_stays ds (x ∷ []) ss syms e p.0 i ∷ all_stay ds ss x syms es p.1 i

rest_stays : (ds ss : List ℤ) (x : ℤ) (syms : ℕ) (es : List Expr) → list_all (has_leaves_below (length ds) syms) es ≡ true → map (value (ds ++ x ∷ []) ss) (drop 1 es) ≡ drop 1 (map (value ds ss) es)
rest_stays ds ss x syms [] h = refl
rest_stays ds ss x syms (e ∷ es) h = all_stay ds ss x syms es (and_parts _ _ h).1

-- ---- the place in the ring
module _ (g : Env) (buffers : ℕ) (v : Name) (lower upper : Bound) (s z : ℤ) where
  place_value : (ds ss : List ℤ) (d : ℕ) (x : ℤ) → length ds ≡ d → value (ds ++ x ∷ []) ss (rings.ring_place buffers v lower upper s d z) ≡ floor_mod (floor_div (x +ℤ z) s) (pos buffers)
  place_value ds ss d x l =
      let all = ds ++ x ∷ [] in
      let ahead : value all ss (plus (Dim d) z) ≡ x +ℤ z = value-plus all ss (Dim d) z ∙ ap (λ w. w +ℤ z) (dim_behind ss ds x [] d l) in
      let turn : value all ss (FloorDiv (plus (Dim d) z) (Const s)) ≡ floor_div (x +ℤ z) s = value-FloorDiv all ss (plus (Dim d) z) (Const s) ∙ (λ i. floor_div (ahead i) (value-Const all ss s i)) in
      value-Mod all ss (FloorDiv (plus (Dim d) z) (Const s)) (Const (pos buffers)) ∙ (λ i. floor_mod (turn i) (value-Const all ss (pos buffers) i))

  at_place_results : (at : Access) → map_fits at ≡ true
      → results_of g (at_place buffers v lower upper s z at) ≡ floor_mod (floor_div (number (g.known v) +ℤ z) s) (pos buffers) ∷ drop 1 (results_of g at)
  unfolding results_of map_fits
  at_place_results at fits =
      let p = and_parts _ _ fits in
      let count : length at.operands ≡ at.map.dims + at.map.syms = eqb-true (length at.operands) (at.map.dims + at.map.syms) p.0 in
      let zs = numbers g at.operands in
      let d = at.map.dims in
      let ds = take d zs in
      let ss = drop d zs in
      let x = number (g.known v) in
      let long : length zs ≡ length at.operands = length_numbers g at.operands in
      let ds_long : length ds ≡ d = length_take zs d (omega (arith, long, count)) in
      let all : numbers g (take d at.operands ++ v ∷ drop d at.operands) ≡ (ds ++ x ∷ []) ++ ss =
      numbers_append g (take d at.operands) (v ∷ drop d at.operands)
      ∙ (λ i. numbers_take d at.operands i ++ x ∷ numbers_drop d at.operands i)
      ∙ sym (append_assoc ds (x ∷ []) ss) in
      let front : length (ds ++ x ∷ []) ≡ suc d = one_more ds x d ds_long in
      let leaves : list_all (has_leaves_below (length ds) at.map.syms) at.map.results ≡ true = ap (λ n. list_all (has_leaves_below n at.map.syms) at.map.results) ds_long ∙ p.1 in
      (λ i. map (value (take (suc d) (all i)) (drop (suc d) (all i))) (rings.ring_place buffers v lower upper s d z ∷ drop 1 at.map.results))
      ∙ (λ i. map (value (take_all (ds ++ x ∷ []) ss (suc d) front i) (drop_all (ds ++ x ∷ []) ss (suc d) front i)) (rings.ring_place buffers v lower upper s d z ∷ drop 1 at.map.results))
      ∙ (λ i. place_value ds ss d x ds_long i ∷ rest_stays ds ss x at.map.syms at.map.results leaves i)
    where
      numbers_take : (n : ℕ) (xs : List Name) → numbers g (take n xs) ≡ take n (numbers g xs)
      numbers_take zero xs = refl
      numbers_take (suc n) [] = refl
      numbers_take (suc n) (x ∷ xs) = ap (λ l. number (g.known x) ∷ l) (numbers_take n xs)

      numbers_drop : (n : ℕ) (xs : List Name) → numbers g (drop n xs) ≡ drop n (numbers g xs)
      numbers_drop zero xs = refl
      numbers_drop (suc n) [] = refl
      numbers_drop (suc n) (x ∷ xs) = numbers_drop n xs

pub ring_place_is : RingPlaceIs
ring_place_is g buffers v lower upper s z t at some fits known =
    at_place_results g buffers v lower upper (pos s) z at fits
    ∙ ap (λ x. floor_mod (floor_div (number x +ℤ z) (pos s)) (pos buffers) ∷ drop 1 (results_of g at)) known
    ∙ ap (λ x. x ∷ drop 1 (results_of g at)) (sym (place_number (t +ℤ z) s buffers some))

-- ---- a half, and a tag
pub zero_leaves : has_leaves_below 0 0 (Const (pos 0)) ≡ true
unfolding has_leaves_below
zero_leaves = ap (fold-Expr Bool (leaves_step 0 0)) (sym (rolls-Const (pos 0))) ∙ fold-roll-Expr Bool (leaves_step 0 0) (Expr-F.Const (pos 0))

pub within_is : (k n : ℕ) → suc k ≤ n → within (pos k) n ≡ Some k
within_is k n h = ap (λ b. if b then Some k else None) (lt-ltb k n h)

moved_half : (stage : Stage) (a b h : ℕ) (cell : Option ℕ) → stage.half a 0 ≡ record { number = b; half = h } → fast_at b (Some h) cell ≡ place_in stage (fast_at a (Some 0) cell)
moved_half stage a b h (Some c) e = ap (λ (x : Half). Fast x.number x.half c) (sym e)
moved_half stage a b h None e = refl

pub access_in_ring : AccessInRing
unfolding place_of
access_in_ring stage e g buffers v m lower upper s t p at zs a b some fits known he hg re rg half =
    let sizes = dim_extents p.dims in
    let still : t +ℤ pos 0 ≡ t = omega (arith, ints) in
    let h = ring_place t s buffers in
    let one : within (pos 0) 1 ≡ Some 0 = within_is 0 1 (omega arith) in
    (λ i. place_at (hg i) (buffers ∷ sizes) ((ring_place_is g buffers v lower upper s (pos 0) t at some fits known ∙ (λ j. pos (ring_place (still j) s buffers) ∷ drop 1 (rg j))) i))
    ∙ ap (λ k. fast_at b k (cell_in sizes zs)) (within_is h buffers (place_within t s buffers some))
    ∙ moved_half stage a b h (cell_in sizes zs) half
    ∙ ap (λ k. place_in stage (fast_at a k (cell_in sizes zs))) (sym one)
    ∙ (λ i. place_in stage (place_at (sym he i) (1 ∷ sizes) (sym re i)))

zero_fits : map_fits tag_at_zero ≡ true
unfolding map_fits
zero_fits = ap (λ b. b && true) zero_leaves

tag_rest : (g : Env) (first buffers h : ℕ) → tag_at (Some (TagMemref first)) (cell_in (buffers ∷ []) (pos h ∷ drop 1 (results_of g tag_at_zero))) ≡ tag_at (Some (TagMemref first)) (row_major (within (pos h) buffers) 1 (Some 0))
unfolding results_of
tag_rest g first buffers h = refl

pub tag_in_ring : TagInRing
unfolding tag_of
tag_in_ring g buffers v m lower upper s z t first some known home =
    let h = ring_place (t +ℤ z) s buffers in
    let whole : first + (h * 1 + 0) ≡ first + h = omega arith in
    (λ i. tag_at (home i) (cell_in (buffers ∷ []) (ring_place_is g buffers v lower upper s z t tag_at_zero some zero_fits known i)))
    ∙ tag_rest g first buffers h
    ∙ ap (λ k. tag_at (Some (TagMemref first)) (row_major k 1 (Some 0))) (within_is h buffers (place_within (t +ℤ z) s buffers some))
    ∙ ap Some whole
