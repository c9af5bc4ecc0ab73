-- The laws' premises are met: `for %j = 0 to 4 { for %i = 0 to 3 { load %A[%i, %j] } }` of a memref of 6 x 8 elements, with a box
-- of 3 x 2 at the inner loop, whose second dimension begins at %j - 1, clamped, moved by transfers.
use Rattle.std.proofs.Common.{◌≡◌, ℕ, ◌+◌, ℤ, pos, negsuc, ◌+ℤ◌, ◌-ℤ◌, ◌*ℤ◌, ◌≤ℤ◌, ◌<ℤ◌, [], ◌∷◌, refl, sym, ap, ◌∙◌, subst, arith, Bool, true, false}
use Rattle.std.specs.Prelude.{Some, None, not, slice_index_or, if◌then◌else◌}
use Rattle.std.specs.Int.{int_min, int_max}
use Rattle.std.proofs.lemmas.Int.{ints}
use Rattle.affine_expr.specs.declared.expr.Expr.{Dim, fold-Expr, fold-roll-Expr}
use Rattle.affine_expr.specs.declared.expr.Expr.TheVariants.{rolls-Dim}
use Rattle.affine_expr.specs.declared.expr.Expr.TheOpen.{Expr-F}
use Rattle.affine_expr.specs.Pure.{has_leaves_below, leaves_step}
use Rattle.affine_expr.proofs.Values.{value-Dim}
use Rattle.affine_ast.specs.declared.name.Name.{Name}
use Rattle.affine_ast.specs.declared.types.Access.{Access}
use Rattle.affine_ast.specs.declared.types.Bound.TheVariants as bound
use Rattle.affine_ast.specs.declared.types.Element.TheVariants.{I32}
use Rattle.affine_ast.specs.declared.types.MemrefType.{MemrefType}
use Rattle.affine_ast.specs.Names.{same_name}
use Rattle.affine_ast.specs.Nest.{Nest, Nothing, Loop, Does, Load}
use Rattle.affine_ast.specs.Rules.{map_fits}
use Rattle.affine_ast.proofs.Names.{same_name-eq, same_name-refl, put-same, put-other}
use Rattle.direct_meaning.specs.Turns.{gap}
use Rattle.direct_meaning.specs.Action.{SlowMemref}
use Rattle.direct_meaning.specs.Static.{Env, knows, number, results_of, lower_of, upper_of}
use Rattle.placement_texts.specs.Boxes.{InBox}
use Rattle.placement_texts.specs.Labels.{Numbers}
use Rattle.placement_texts.specs.Each.{Each}
use Rattle.placement_texts.specs.Template.{Dimension, Placement, Transfers}
use Rattle.placement_texts.specs.Regions.{place_number, spans_at, Reaches, ReachesBox, Tidy}
use Rattle.placement_texts.specs.Spots.{Here, Inside, Fine, FineAt}
use Rattle.placement_texts.specs.Law.{Suits, Alike, TwoReadings}
use Rattle.placement_texts.proofs.Redirect.{gap_pos}
use Rattle.placement_texts.proofs.Turned.{every_turn, clamp_low, clamp_high}
use Rattle.placement_texts.specs.Fold.{Step, AllRead}
use Rattle.placement_texts.specs.Regions.{Apart}
use Rattle.placement_texts.proofs.Folded.{all_texts}
use Rattle.placement_texts.proofs.Theorem.{texts}

-- `a`, `i`, `j` and `r`
abbrev letter : ℕ → Name
letter k = record { text = k ∷ []; made = false }

abbrev pub a : Name
a = letter 97

abbrev pub i : Name
i = letter 105

abbrev pub j : Name
j = letter 106

abbrev pub r : Name
r = letter 114

abbrev pub made : ℕ → Name
made k = record { text = k ∷ []; made = true }

abbrev pub own : Name → Bool
own n = not n.made

abbrev pub ty : MemrefType
ty = record { sizes = 6 ∷ 8 ∷ []; element = I32; space = 0 }

abbrev pub at : Access
at = record { map = record { dims = 2; syms = 0; results = Dim 0 ∷ Dim 1 ∷ [] }; operands = i ∷ j ∷ [] }

abbrev pub inner : Nest
inner = Loop 2 i (bound.Int (pos 0)) (bound.Int (pos 3)) (pos 1) (Does 3 (Load r a at ty) Nothing) Nothing

abbrev pub text : Nest
text = Loop 1 j (bound.Int (pos 0)) (bound.Int (pos 4)) (pos 1) inner Nothing

abbrev second : Dimension
second = record { size = 8; terms = (j, pos 1) ∷ []; offset = negsuc 0; extent = 2; clamped = true }

abbrev pub placement : Placement
placement = record {
  memref = a;
  element = I32;
  dims = record { size = 6; terms = []; offset = pos 0; extent = 3; clamped = false } ∷ second ∷ [];
  reads = true;
  writes = true;
  how = Transfers (Some (8, 2));
  name = made;
}

abbrev pub before : Env
before = record { known = λ n. None; home = λ n. Some (SlowMemref 0 0); fasts = 0; tags = 0 }

abbrev pub new : Numbers
new = record { fast = 0; tag = 0; tags = 1 }

pub head_is : (x y : ℕ) → made x ≡ made y → x ≡ y
head_is x y e = ap (λ (n : Name). slice_index_or n.text 0 0) e

pub suits : Suits own placement new (Inside Here) text before
suits = record {
  loop = tt;
  names = record { made = λ k. refl; apart = λ x y e. head_is x y (same_name-eq (made x) (made y) e) };
  memref_own = refl;
  dims_own = (tt, ((refl, tt), tt));
  text_own = (refl, tt, tt, (refl, tt, tt, ((refl, (refl, (refl, (refl, tt)))), tt), tt), tt);
  fast = refl;
  tag = refl;
  tags = refl;
}

pub alike : Alike own new before before
alike = record { known = λ n h. refl; home = λ n h. refl; fasts = refl; tags = refl }

-- the subscripts in a turn
leaf : (n : ℕ) → has_leaves_below 2 0 (Dim n) ≡ leaves_step 2 0 (Expr-F.Dim n)
unfolding has_leaves_below
leaf n = ap (fold-Expr Bool (leaves_step 2 0)) (sym (rolls-Dim n)) ∙ fold-roll-Expr Bool (leaves_step 2 0) (Expr-F.Dim n)

fits : map_fits at ≡ true
unfolding map_fits
fits = simp leaf refl

-- %j isn't %i
apart : same_name i j ≡ false
apart = by (same_name i j) refl
  where
    by : (t : Bool) → same_name i j ≡ t → same_name i j ≡ false
    by true e = let k : 105 ≡ 106 = ap (λ (n : Name). slice_index_or n.text 0 0) (same_name-eq i j e) in absurd (omega (arith, k))
    by false e = e

module _ (t s : ℤ) where
  abbrev outer_env : Env
  outer_env = knows before j t

  abbrev inner_env : Env
  inner_env = knows outer_env i s

  known_j : number (outer_env.known j) ≡ t
  known_j = ap number (put-same before.known j (Some t) j (same_name-refl j))

  subscripts : results_of inner_env at ≡ s ∷ t ∷ []
  unfolding results_of
  subscripts =
      let x : number (inner_env.known i) ≡ s = ap number (put-same outer_env.known i (Some s) i (same_name-refl i)) in
      let y : number (inner_env.known j) ≡ t = ap number (put-other outer_env.known i (Some s) j apart) ∙ known_j in
      let zs = number (inner_env.known i) ∷ number (inner_env.known j) ∷ [] in
      λ k. (value-Dim zs [] 0 ∙ x) k ∷ (value-Dim zs [] 1 ∙ y) k ∷ []

  second_place : place_number outer_env second ≡ int_max (int_min (t -ℤ pos 1) (pos 6)) (pos 0)
  second_place =
      let e : number (outer_env.known j) *ℤ pos 1 +ℤ negsuc 0 ≡ t -ℤ pos 1 = (let k = known_j in omega (arith, ints, k)) in
      ap (λ z. int_max (int_min z (pos 6)) (pos 0)) e

  in_second : pos 0 ≤ℤ t → t <ℤ pos 4 → (pos (gap (place_number outer_env second)) ≤ℤ t) × (t <ℤ pos (gap (place_number outer_env second) + 2))
  in_second low high =
      let z = place_number outer_env second in
      let is = gap_pos z (clamp_low second (number (outer_env.known j) *ℤ pos 1 +ℤ negsuc 0)) in
      let k = second_place in
      let m : int_max (int_min (t -ℤ pos 1) (pos 6)) (pos 0) ≤ℤ t = grind (arith, ints, low, high) in
      let n : t <ℤ (int_max (int_min (t -ℤ pos 1) (pos 6)) (pos 0) +ℤ pos 2) = grind (arith, ints, low, high) in
      (omega (arith, ints, is, k, m), omega (arith, ints, is, k, n))

  reaches : pos 0 ≤ℤ t → t <ℤ pos 4 → pos 0 ≤ℤ s → s <ℤ pos 3 → Reaches a 0 0 (spans_at outer_env placement.dims) inner_env at ty
  reaches low high low' high' = record {
    home = refl;
    sizes = refl;
    fits = fits;
    inside = λ k h. subst (InBox (spans_at outer_env placement.dims)) (sym subscripts) (low', high', ((in_second low high).0, (in_second low high).1, tt));
  }

pub fine : FineAt placement 0 0 (Inside Here) text before
unfolding lower_of upper_of
fine = every_turn (λ t. Fine placement 0 0 inner (knows before j t)) (pos 0) (pos 4) (pos 1) (λ t low high.
    let k = clamp_high second (number ((knows before j t).known j) *ℤ pos 1 +ℤ negsuc 0) (omega arith) in
    record {
      home = refl;
      lie = (omega (arith, ints), omega (arith, ints), (clamp_low second (number ((knows before j t).known j) *ℤ pos 1 +ℤ negsuc 0), k, tt));
      elements = (omega arith, (omega arith, tt));
      reaches = (
        every_turn (λ s. Each (ReachesBox a 0 0 (spans_at (knows before j t) placement.dims)) (Does 3 (Load r a at ty) Nothing) (knows (knows before j t) i s)) (pos 0) (pos 3) (pos 1) (λ s low' high'.
            ((λ is. reaches t s low high low' high'), tt)),
        tt,
      );
    })

pub tidy : Each (Tidy new a 0 (6 ∷ 8 ∷ [])) text before
unfolding lower_of upper_of
tidy = (
  every_turn (λ t. Each (Tidy new a 0 (6 ∷ 8 ∷ [])) inner (knows before j t)) (pos 0) (pos 4) (pos 1) (λ t low high. (
    every_turn (λ s. Each (Tidy new a 0 (6 ∷ 8 ∷ [])) (Does 3 (Load r a at ty) Nothing) (knows (knows before j t) i s)) (pos 0) (pos 3) (pos 1) (λ s low' high'.
        ((tt, λ no. let z : true ≡ false = sym (same_name-refl a) ∙ no in absurd (cc)), tt)),
    tt,
  )),
  tt,
)

pub example : TwoReadings placement 0 0 new (Inside Here) text before before
example = texts own placement 0 0 new (Inside Here) text before before suits alike tidy fine

-- and those of the law of all placements, by one step
abbrev pub made_by : Name → ℕ
made_by n = if n.made then 1 else 0

abbrev pub step : Step
step = record { placement = placement; spot = Inside Here; order = 0; first = 0 }

pub apart_only : Each (Apart a 0 (6 ∷ 8 ∷ [])) text before
unfolding lower_of upper_of
apart_only = (
  every_turn (λ t. Each (Apart a 0 (6 ∷ 8 ∷ [])) inner (knows before j t)) (pos 0) (pos 4) (pos 1) (λ t low high. (
    every_turn (λ s. Each (Apart a 0 (6 ∷ 8 ∷ [])) (Does 3 (Load r a at ty) Nothing) (knows (knows before j t) i s)) (pos 0) (pos 3) (pos 1) (λ s low' high'.
        ((λ no. let z : true ≡ false = sym (same_name-refl a) ∙ no in absurd (cc)), tt)),
    tt,
  )),
  tt,
)

pub one_step : AllRead (step ∷ []) text before
one_step =
    all_texts made_by (step ∷ []) text before
    (refl, tt, tt, (refl, tt, tt, ((refl, (refl, (refl, (refl, tt)))), tt), tt), tt)
    (record { made = λ k. refl; apart = λ x y e. head_is x y (same_name-eq (made x) (made y) e); memref_own = refl; dims_own = (tt, ((refl, tt), tt)); elements = omega arith }, tt)
    (record { loop = tt; line = tt; fine = fine }, tt)
    (tt, tt)
    (λ m. tt)
    (((tt, tt), tt), tt)
    (apart_only, tt)
