-- The sums of a text with one placement more.
use Rattle.std.proofs.Common.{◌≡◌, ℕ, ◌+◌, List, [], ◌∷◌, ◌++◌, Bool, true, false, refl, sym, ap, ◌∙◌, arith}
use Rattle.std.specs.Prelude.{◌&&◌, sum_by, if◌then◌else◌}
use Rattle.std.specs.List.{list_all}
use Rattle.std.proofs.lemmas.List.{append-nil}
use Rattle.affine_expr.specs.declared.map.Set.{Set}
use Rattle.affine_ast.specs.declared.types.Access.{Access}
use Rattle.affine_ast.specs.declared.types.Bound.{Bound}
use Rattle.affine_ast.specs.Names.{same_name}
use Rattle.affine_ast.specs.Nest.{Plain, Nest, Nothing, Loop, Branch, Does, Value, Load, Store, RawLoad, RawStore, Constant, Binary, Cast, Alloc, Dealloc, Start, Wait, Return, followed_by, nest}
use Rattle.affine_ast.proofs.Nests.{nest-nil}
use Rattle.affine_ast.specs.Parts.{maps_of}
use Rattle.nest_domain.specs.Ways.{loop_count}
use Rattle.placement_lists.specs.Statements as lists
use Rattle.placement_lists.proofs.Lists.{lists_are}
use Rattle.placement_texts.specs.Template.{Placement, fast_name, fast_type, begins, in_fast, before, behind_loop, redirect}
use Rattle.placement_texts.specs.Spots.{Spot, IsLoop, found, staged_at}
use Rattle.placement_regions.specs.Sites.{from_spot, way_to}
use Rattle.plan_laws.specs.Limits.{map_operands, bound_operands, row_operands, operands_in}
use Rattle.text_limits.specs.Sums.{statements_in, elements_of, elements_in, tag_elements_of, tags_in, each_fits, sums_in}
use Rattle.text_limits.specs.Adding.{with_sums, accesses_of, accesses_in, accesses_in_loop, operands_more, fits_in_fast, condition_count, sums_with, PlacementsAddSums}
use Rattle.text_limits.proofs.Summed.{IsSummed, sum_followed, in_loop, staged_sum}
use Rattle.text_limits.proofs.Grown.{sum_append, operands_grow}
use Rattle.text_limits.proofs.Fitting.{fits_followed, staged_fits}

-- ---- what is summed
one : Bound → Bound → ℕ
one l u = 1

one_for : Set → ℕ
one_for set = 1

no_more : Plain → ℕ
no_more q = 0

none_in : Nest → ℕ
none_in n = 0

none_added : IsSummed (λ l u. 0) (λ set. 0) no_more none_in
unfolding no_more none_in
none_added = record { nothing = refl; of_loop = λ line v l u s body rest. refl; of_condition = λ line set names first has other rest. refl; of_plain = λ line q rest. refl }

statements_summed : IsSummed one one_for (λ q. 1) statements_in
unfolding one one_for
statements_summed = record {
  nothing = refl;
  of_loop = λ line v l u s body rest. omega arith;
  of_condition = λ line set names first has other rest. omega arith;
  of_plain = λ line q rest. omega arith;
}

elements_summed : IsSummed (λ l u. 0) (λ set. 0) elements_of elements_in
elements_summed = record {
  nothing = refl;
  of_loop = λ line v l u s body rest. omega arith;
  of_condition = λ line set names first has other rest. omega arith;
  of_plain = λ line q rest. refl;
}

tags_summed : IsSummed (λ l u. 0) (λ set. 0) tag_elements_of tags_in
tags_summed = record {
  nothing = refl;
  of_loop = λ line v l u s body rest. omega arith;
  of_condition = λ line set names first has other rest. omega arith;
  of_plain = λ line q rest. refl;
}

abbrev operands_of : Plain → ℕ
operands_of q = sum_by map_operands (maps_of q)

operands_summed : IsSummed (λ l u. bound_operands l + bound_operands u) (λ set. sum_by row_operands set.rows) operands_of operands_in
operands_summed = record {
  nothing = refl;
  of_loop = λ line v l u s body rest. omega arith;
  of_condition = λ line set names first has other rest. refl;
  of_plain = λ line q rest. refl;
}

pub sums_followed : (loops ifs : ℕ) (a b : Nest) → sums_in loops ifs (followed_by a b) ≡ with_sums (sums_in loops ifs a) (sums_in loops ifs b)
sums_followed loops ifs a b = λ i. record {
  statements = sum_followed one one_for (λ q. 1) statements_in statements_summed a b i;
  operands = sum_followed (λ l u. bound_operands l + bound_operands u) (λ set. sum_by row_operands set.rows) operands_of operands_in operands_summed a b i;
  elements = sum_followed (λ l u. 0) (λ set. 0) elements_of elements_in elements_summed a b i;
  tags = sum_followed (λ l u. 0) (λ set. 0) tag_elements_of tags_in tags_summed a b i;
  fits = fits_followed loops ifs a b i;
}

module _ (p : Placement) where
  abbrev More : Plain → ℕ
  More q = sum_by (operands_more p) (accesses_of p.memref q)

  abbrev MoreIn : Nest → ℕ
  MoreIn n = sum_by (operands_more p) (accesses_in p.memref n)

  more_summed : IsSummed (λ l u. 0) (λ set. 0) More MoreIn
  more_summed = record {
    nothing = refl;
    of_loop = λ line v l u s body rest. (let e = sum_append (operands_more p) (accesses_in p.memref body) (accesses_in p.memref rest) in omega (arith, e));
    of_condition = λ line set names first has other rest.
        (let e = sum_append (operands_more p) (accesses_in p.memref first) (accesses_in p.memref other ++ accesses_in p.memref rest) in
        let f = sum_append (operands_more p) (accesses_in p.memref other) (accesses_in p.memref rest) in
        omega (arith, e, f));
    of_plain = λ line q rest. sum_append (operands_more p) (accesses_of p.memref q) (accesses_in p.memref rest);
  }

  -- ---- an access that is redirected
  one_more : (b : Bool) (q made : Plain) (at : Access) → operands_of q ≡ 0 + map_operands at → operands_of made ≡ 0 + map_operands (in_fast (begins p) at)
      → operands_of (if b then made else q) ≡ operands_of q + sum_by (operands_more p) (if b then at ∷ [] else [])
  one_more true q made at e f = let g = operands_grow p at in omega (arith, e, f, g)
  one_more false q made at e f = omega arith

  operands_step : (q : Plain) → operands_of (redirect p q) ≡ operands_of q + More q
  operands_step (Load r m at ty) = one_more (same_name p.memref m) (Load r m at ty) (Load r (fast_name p.name) (in_fast (begins p) at) (fast_type p)) at refl refl
  operands_step (Store x m at ty) = one_more (same_name p.memref m) (Store x m at ty) (Store x (fast_name p.name) (in_fast (begins p) at) (fast_type p)) at refl refl
  operands_step (Value r pick at) = omega arith
  operands_step (RawLoad r m at ty) = omega arith
  operands_step (RawStore x m at ty) = omega arith
  operands_step (Constant r z ty) = omega arith
  operands_step (Binary r op x y ty) = omega arith
  operands_step (Cast r kind x from to) = omega arith
  operands_step (Alloc r ty) = omega arith
  operands_step (Dealloc m ty) = omega arith
  operands_step (Start x x_at y y_at t t_at n stride types) = omega arith
  operands_step (Wait t at n ty) = omega arith
  operands_step Return = omega arith

  -- which allocates nothing
  same_alloc : (of : Plain → ℕ) (b : Bool) (q made : Plain) → of made ≡ of q → of (if b then made else q) ≡ of q + no_more q
  unfolding no_more
  same_alloc of true q made e = omega (arith, e)
  same_alloc of false q made e = omega arith

  elements_step : (q : Plain) → elements_of (redirect p q) ≡ elements_of q + no_more q
  unfolding no_more
  elements_step (Load r m at ty) = same_alloc elements_of (same_name p.memref m) (Load r m at ty) (Load r (fast_name p.name) (in_fast (begins p) at) (fast_type p)) refl
  elements_step (Store x m at ty) = same_alloc elements_of (same_name p.memref m) (Store x m at ty) (Store x (fast_name p.name) (in_fast (begins p) at) (fast_type p)) refl
  elements_step (Value r pick at) = omega arith
  elements_step (RawLoad r m at ty) = omega arith
  elements_step (RawStore x m at ty) = omega arith
  elements_step (Constant r z ty) = omega arith
  elements_step (Binary r op x y ty) = omega arith
  elements_step (Cast r kind x from to) = omega arith
  elements_step (Alloc r ty) = omega arith
  elements_step (Dealloc m ty) = omega arith
  elements_step (Start x x_at y y_at t t_at n stride types) = omega arith
  elements_step (Wait t at n ty) = omega arith
  elements_step Return = omega arith

  tags_step : (q : Plain) → tag_elements_of (redirect p q) ≡ tag_elements_of q + no_more q
  unfolding no_more
  tags_step (Load r m at ty) = same_alloc tag_elements_of (same_name p.memref m) (Load r m at ty) (Load r (fast_name p.name) (in_fast (begins p) at) (fast_type p)) refl
  tags_step (Store x m at ty) = same_alloc tag_elements_of (same_name p.memref m) (Store x m at ty) (Store x (fast_name p.name) (in_fast (begins p) at) (fast_type p)) refl
  tags_step (Value r pick at) = omega arith
  tags_step (RawLoad r m at ty) = omega arith
  tags_step (RawStore x m at ty) = omega arith
  tags_step (Constant r z ty) = omega arith
  tags_step (Binary r op x y ty) = omega arith
  tags_step (Cast r kind x from to) = omega arith
  tags_step (Alloc r ty) = omega arith
  tags_step (Dealloc m ty) = omega arith
  tags_step (Start x x_at y y_at t t_at n stride types) = omega arith
  tags_step (Wait t at n ty) = omega arith
  tags_step Return = omega arith

  -- ---- the lists of the template are its texts
  front_is : nest (lists.before p) ≡ before p Nothing
  front_is = ap nest (sym (append-nil (lists.before p))) ∙ (lists_are p []).before_is ∙ ap (before p) nest-nil

  back_is : nest (lists.behind p) ≡ behind_loop p Nothing
  back_is = ap nest (sym (append-nil (lists.behind p))) ∙ (lists_are p []).behind_is ∙ ap (behind_loop p) nest-nil

  -- ---- the sums, one by one
  none_more : (n : Nest) → in_loop none_in n ≡ 0
  unfolding none_in
  none_more Nothing = refl
  none_more (Loop line v l u s body rest) = refl
  none_more (Branch line set names first has other rest) = refl
  none_more (Does line q rest) = refl

  more_there : (n : Nest) → in_loop MoreIn n ≡ sum_by (operands_more p) (accesses_in_loop p.memref n)
  more_there Nothing = refl
  more_there (Loop line v l u s body rest) = refl
  more_there (Branch line set names first has other rest) = refl
  more_there (Does line q rest) = refl

  statements_step : (q : Plain) → 1 ≡ 1 + no_more q
  unfolding no_more
  statements_step q = refl

  -- where the lists of the template have the sums of its texts
  listed : (sum : Nest → ℕ) (text more total : ℕ) → total ≡ (text + (sum (before p Nothing) + sum (behind_loop p Nothing))) + more
      → total ≡ (text + (sum (nest (lists.before p)) + sum (nest (lists.behind p)))) + more
  listed sum text more total e = let f = ap sum front_is in let g = ap sum back_is in omega (arith, e, f, g)

  statements_staged : (s : Spot) (n : Nest) → IsLoop s n → statements_in (staged_at p s n) ≡ statements_in n + (statements_in (nest (lists.before p)) + statements_in (nest (lists.behind p)))
  statements_staged s n is =
      let e = listed statements_in (statements_in n) (in_loop none_in (from_spot s n)) (statements_in (staged_at p s n)) (staged_sum one one_for (λ q. 1) statements_in statements_summed p no_more none_in none_added statements_step s n is) in
      let f = none_more (from_spot s n) in
      omega (arith, e, f)

  elements_staged : (s : Spot) (n : Nest) → IsLoop s n → elements_in (staged_at p s n) ≡ elements_in n + (elements_in (nest (lists.before p)) + elements_in (nest (lists.behind p)))
  elements_staged s n is =
      let e = listed elements_in (elements_in n) (in_loop none_in (from_spot s n)) (elements_in (staged_at p s n)) (staged_sum (λ l u. 0) (λ set. 0) elements_of elements_in elements_summed p no_more none_in none_added elements_step s n is) in
      let f = none_more (from_spot s n) in
      omega (arith, e, f)

  tags_staged : (s : Spot) (n : Nest) → IsLoop s n → tags_in (staged_at p s n) ≡ tags_in n + (tags_in (nest (lists.before p)) + tags_in (nest (lists.behind p)))
  tags_staged s n is =
      let e = listed tags_in (tags_in n) (in_loop none_in (from_spot s n)) (tags_in (staged_at p s n)) (staged_sum (λ l u. 0) (λ set. 0) tag_elements_of tags_in tags_summed p no_more none_in none_added tags_step s n is) in
      let f = none_more (from_spot s n) in
      omega (arith, e, f)

  operands_staged : (s : Spot) (n : Nest) → IsLoop s n → operands_in (staged_at p s n)
      ≡ (operands_in n + (operands_in (nest (lists.before p)) + operands_in (nest (lists.behind p)))) + sum_by (operands_more p) (accesses_in_loop p.memref (from_spot s n))
  operands_staged s n is =
      let e = listed operands_in (operands_in n) (in_loop MoreIn (from_spot s n)) (operands_in (staged_at p s n))
      (staged_sum (λ l u. bound_operands l + bound_operands u) (λ set. sum_by row_operands set.rows) operands_of operands_in operands_summed p More MoreIn more_summed operands_step s n is) in
      e ∙ ap (λ k. (operands_in n + (operands_in (nest (lists.before p)) + operands_in (nest (lists.behind p)))) + k) (more_there (from_spot s n))

  abbrev There : Spot → Nest → List Access
  There s n = accesses_in_loop p.memref (from_spot s n)

  fits_staged : (s : Spot) (n : Nest) → IsLoop s n → (sums_in 0 0 (staged_at p s n)).fits ≡ (sums_with p s n).fits
  fits_staged s n is =
      let a = loop_count (way_to s n) in
      let b = condition_count (way_to s n) in
      staged_fits p 0 0 a b s n is (omega arith) (omega arith)
      ∙ (λ i. (each_fits 0 0 n && (each_fits a b (sym front_is i) && each_fits a b (sym back_is i))) && list_all (fits_in_fast p) (There s n))

  pub sums_staged : (s : Spot) (n : Nest) → IsLoop s n → sums_in 0 0 (staged_at p s n) ≡ sums_with p s n
  sums_staged s n is = λ i. record {
    statements = statements_staged s n is i;
    operands = operands_staged s n is i;
    elements = elements_staged s n is i;
    tags = tags_staged s n is i;
    fits = fits_staged s n is i;
  }

pub placements_add_sums : PlacementsAddSums
placements_add_sums p s n is = sums_staged p (found s n) n is
