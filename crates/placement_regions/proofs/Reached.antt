-- In the loop of a visit each access of the memref is of its type and lies in the box.
use Rattle.std.proofs.Common.{◌≡◌, ℕ, ℤ, List, [], ◌∷◌, ◌++◌, refl, sym, ap, ◌∙◌, subst, Bool, true, false}
use Rattle.std.specs.Prelude.{Option, Some, None, nat_eq, length, ◌&&◌}
use Rattle.std.proofs.lemmas.Bool.{and_parts}
use Rattle.affine_ast.specs.declared.name.Name.{Name}
use Rattle.affine_ast.specs.declared.types.Access.{Access}
use Rattle.affine_ast.specs.declared.types.Bound.{Bound}
use Rattle.affine_ast.specs.declared.types.MemrefType.{MemrefType}
use Rattle.affine_ast.specs.declared.types.Scalar.TheVariants.{Int}
use Rattle.affine_ast.specs.Names.{same_name}
use Rattle.affine_ast.proofs.Names.{same_name-eq}
use Rattle.affine_ast.specs.Nest.{Plain, Nest, Nothing, Loop, Branch, Does, Value, Load, Store, RawLoad, RawStore, Constant, Binary, Cast, Alloc, Dealloc, Start, Wait, Return}
use Rattle.affine_ast.specs.Rules.{is_of, map_fits, subscripts_fit, binding_is_memref_of, is_memref_of}
use Rattle.affine_ast.specs.Scope.{MemrefArgument, Scope, Totals, Around, with_totals, counted, in_loop, in_condition, behind_plain}
use Rattle.affine_ast.specs.Validity.{Passed, then_told, rule_of_plain, rule_of_loop, rule_of_condition, told}
use Rattle.direct_meaning.specs.Action.{SlowMemref}
use Rattle.direct_meaning.specs.Actions.{after_plain, behind}
use Rattle.direct_meaning.specs.Pure.{AffineNest}
use Rattle.direct_meaning.specs.Static.{Env, knows, cell_in, results_of, lower_of, upper_of}
use Rattle.valid_laws.proofs.Passing.{judged_passed, then_passed, Holds, plain_holds, loop_holds, affine_of_told}
use Rattle.valid_laws.proofs.Scoped.{type_same}
use Rattle.boxes.specs.Boxes.{Side}
use Rattle.nest_domain.specs.Ways as ways
use Rattle.nest_domain.specs.Ways.{Header}
use Rattle.nest_domain.specs.Boxes.{Dimension}
use Rattle.nest_domain.specs.Visits.{Along}
use Rattle.access_region.specs.Laws.{AllInside, AccessInside}
use Rattle.placement_texts.specs.Boxes.{sizes_of, InBox}
use Rattle.placement_texts.specs.Each.{Each}
use Rattle.placement_texts.specs.Regions.{Reaches, ReachesBox}
use Rattle.placement_regions.proofs.Visited.{each_turn}
use Rattle.placement_regions.proofs.Known.{Kept, kept_behind, kept_loop}

module _ (m : Name) (ty : MemrefType) (order first : ℕ) (spans : List Side) (ds : List Dimension) (os : List ℤ) (sizes : sizes_of spans ≡ ty.sizes)
    (in_box : (vs : List ℤ) (k : ℕ) → AllInside 0 ds ty.sizes os vs → cell_in ty.sizes vs ≡ Some k → InBox spans vs) where
  -- the memref is in scope as the argument that it is
  record Stands (s : Scope) (e : Env) : Type 0 where
    scope : s m ≡ Some (MemrefArgument ty)
    home : e.home m ≡ Some (SlowMemref order first)

  stands_along : (s : Scope) (e : Env) (s' : Scope) (e' : Env) → Kept s e s' e' → Stands s e → Stands s' e'
  stands_along s e s' e' k h = record { scope = k.scope m _ h.scope; home = k.home m _ h.scope ∙ h.home }

  access_reaches : (s : Scope) (e : Env) (n : Name) (at : Access) (of : MemrefType) → Stands s e → is_memref_of s n of ≡ true → subscripts_fit at of ≡ true
      → (same_name m n ≡ true → AllInside 0 ds ty.sizes os (results_of e at)) → same_name m n ≡ true → Reaches m order first spans e at of
  unfolding is_memref_of subscripts_fit
  access_reaches s e n at of h typed fits inside same =
      let is : binding_is_memref_of (Some (MemrefArgument ty)) of ≡ true = ap (λ b. binding_is_memref_of b of) (sym h.scope) ∙ ap (λ x. binding_is_memref_of (s x) of) (same_name-eq m n same) ∙ typed in
      record {
        home = h.home;
        sizes = sym (type_same ty of is).sizes ∙ sym sizes;
        fits = (and_parts (map_fits at) (nat_eq (length at.map.results) (length of.sizes)) fits).0;
        inside = λ k c. in_box (results_of e at) k (inside same) (ap (λ ns. cell_in ns (results_of e at)) (sym sizes) ∙ c);
      }

  plain_reaches : (q : Plain) (line : ℕ) (a : Around) (e : Env) (rest : Nest) → Holds (counted a) q rest → Stands a.scope e → AccessInside m ds ty.sizes os (Does line q rest) e → ReachesBox m order first spans q e
  plain_reaches (Load r n at of) line a e rest h s i = access_reaches a.scope e n at of s h.types h.counts i
  plain_reaches (Store x n at of) line a e rest h s i = access_reaches a.scope e n at of s (and_parts (is_of a.scope x (Int of.element)) (is_memref_of a.scope n of) h.types).1 h.counts i
  plain_reaches (Value r pick at) line a e rest h s i = tt
  plain_reaches (RawLoad r n at of) line a e rest h s i = tt
  plain_reaches (RawStore x n at of) line a e rest h s i = tt
  plain_reaches (Constant r z of) line a e rest h s i = tt
  plain_reaches (Binary r op x y of) line a e rest h s i = tt
  plain_reaches (Cast r k x from to) line a e rest h s i = tt
  plain_reaches (Alloc r of) line a e rest h s i = tt
  plain_reaches (Dealloc n of) line a e rest h s i = tt
  plain_reaches (Start x x_at y y_at t t_at n stride types) line a e rest h s i = tt
  plain_reaches (Wait t at n of) line a e rest h s i = tt
  plain_reaches Return line a e rest h s i = tt

  text_reaches : (n : Nest) (way : List Header) (a : Around) (e : Env) (t : Totals) → told n a ≡ Passed t → AffineNest n → Stands a.scope e
      → Along (λ inner here g. AccessInside m ds ty.sizes os here g) n way e → Each (ReachesBox m order first spans) n e
  unfolding told
  text_reaches Nothing way a e t h p s i = tt
  text_reaches (Loop line v l u step body rest) way a e t h p s i =
      let j = judged_passed line (rule_of_loop (counted a) v l u step) _ t h in
      let k = then_passed (told body (in_loop v l u (counted a))) (λ t. told rest (with_totals t a)) t j.1 in
      let new = (loop_holds (counted a) v l u step j.0).new_name in (
        each_turn (lower_of e l) (upper_of e u) step p.2 (λ z. Each (ReachesBox m order first spans) body (knows e v z)) (λ z turn.
            text_reaches body (way ++ ways.Round v l u step ∷ []) (in_loop v l u (counted a)) (knows e v z) k.0 k.1 p.3 (stands_along a.scope e (in_loop v l u (counted a)).scope (knows e v z) (kept_loop a v l u e z new) s) (i.1 z turn)),
        text_reaches rest (way ++ ways.Past body ∷ []) (with_totals k.0 a) (behind body e) t k.2 p.4 (record { scope = s.scope; home = s.home }) i.2,
      )
  text_reaches (Branch line set ns first_ has other rest) way a e t h p s i =
      let j = judged_passed line (rule_of_condition (counted a) set ns) _ t h in
      let k = then_passed (told first_ (in_condition (counted a))) (λ t. then_told (told other (in_condition (with_totals t a))) (λ u. told rest (with_totals u a))) t j.1 in
      let o = then_passed (told other (in_condition (with_totals k.0 a))) (λ u. told rest (with_totals u a)) t k.2 in (
        (λ so. text_reaches first_ (way ++ ways.Given set ns ∷ []) (in_condition (counted a)) e k.0 k.1 p.0 (record { scope = s.scope; home = s.home }) (i.1 so)),
        (λ so. text_reaches other (way ++ ways.Except set ns first_ ∷ []) (in_condition (with_totals k.0 a)) (behind first_ e) o.0 o.1 p.1 (record { scope = s.scope; home = s.home }) (i.2 so)),
        text_reaches rest ((way ++ ways.Past first_ ∷ []) ++ ways.Past other ∷ []) (with_totals o.0 a) (behind other (behind first_ e)) t o.2 p.2 (record { scope = s.scope; home = s.home }) i.3,
      )
  text_reaches (Does line q rest) way a e t h p s i =
      let j = judged_passed line (rule_of_plain (counted a) q rest) _ t h in
      let holds = plain_holds (counted a) q rest j.0 in
      (plain_reaches q line a e rest holds s i.0, text_reaches rest (way ++ ways.Behind q ∷ []) (behind_plain q (counted a)) (after_plain q e) t j.1 p.1 (stands_along a.scope e (behind_plain q (counted a)).scope (after_plain q e) (kept_behind q a e rest holds) s) i.1)

  -- the loop alone, of a text that passes from it on
  pub loop_reaches : (line : ℕ) (v : Name) (l u : Bound) (step : ℤ) (body rest : Nest) (a : Around) (e : Env) (t : Totals) → told (Loop line v l u step body rest) a ≡ Passed t → a.scope m ≡ Some (MemrefArgument ty) → e.home m ≡ Some (SlowMemref order first)
      → Along (λ inner here g. AccessInside m ds ty.sizes os here g) (Loop line v l u step body Nothing) [] e → Each (ReachesBox m order first spans) (Loop line v l u step body Nothing) e
  unfolding told
  loop_reaches line v l u step body rest a e t h scope home i =
      let s : Stands a.scope e = record { scope = scope; home = home } in
      let p = affine_of_told (Loop line v l u step body rest) a t h in
      let j = judged_passed line (rule_of_loop (counted a) v l u step) _ t h in
      let k = then_passed (told body (in_loop v l u (counted a))) (λ t. told rest (with_totals t a)) t j.1 in
      let new = (loop_holds (counted a) v l u step j.0).new_name in (
        each_turn (lower_of e l) (upper_of e u) step p.2 (λ z. Each (ReachesBox m order first spans) body (knows e v z)) (λ z turn.
            text_reaches body (ways.Round v l u step ∷ []) (in_loop v l u (counted a)) (knows e v z) k.0 k.1 p.3 (stands_along a.scope e (in_loop v l u (counted a)).scope (knows e v z) (kept_loop a v l u e z new) s) (i.1 z turn)),
        tt,
      )
