-- What each action of a valid text needs and leaves, along the list of its actions.
use Rattle.std.proofs.Common.{◌≡◌, ℕ, ◌+◌, ◌≤◌, ◌<◌, ℤ, ◌≤ℤ◌, ◌<ℤ◌, true, List, length, map, refl, sym, ◌∙◌, subst}
use Rattle.std.specs.Prelude.{◌&&◌, Option, Some, None, flat_map, if◌then◌else◌}
use Rattle.std.proofs.lemmas.Bool.{and_parts}
use Rattle.std.proofs.lemmas.List.{length-map}
use Rattle.int_ops.specs.Wrapped.{InRange}
use Rattle.int_ops.proofs.Results.{cast_value_inside}
use Rattle.int_ops.proofs.Wraps.{range_grows}
use Rattle.affine_ast.specs.declared.name.Name.{Name}
use Rattle.affine_ast.specs.declared.types.MemrefType.{MemrefType}
use Rattle.affine_ast.specs.declared.types.Scalar.{Scalar}
use Rattle.affine_ast.specs.declared.types.Scalar.TheVariants as scalar
use Rattle.affine_ast.specs.Names.{put}
use Rattle.affine_ast.specs.Nest.{Plain, Nest, Nothing, Loop, Branch, Does, Value, Load, Store, RawLoad, RawStore, Constant, Binary, Cast, Alloc, Dealloc, Start, Wait, Return}
use Rattle.affine_ast.specs.PlainLimits.{plain_stands}
use Rattle.affine_ast.specs.Rules.{is_of, is_memref_of, are_indexes, casts_between}
use Rattle.affine_ast.specs.Scope.{Scope, Totals, Around, counted, in_loop, in_condition, with_totals, behind_plain, binding_of_constant}
use Rattle.affine_ast.specs.Sizes.{element_bits, scalar_bits, product}
use Rattle.affine_ast.specs.Validity.{Passed, then_told, told, rule_of_plain, rule_of_loop, rule_of_condition}
use Rattle.direct_meaning.specs.Action.{Home, SlowMemref, FastMemref, TagMemref, Place, Slow, Fast, Outside, Operand, Action}
use Rattle.direct_meaning.specs.Actions.{action_of, after_plain, behind, actions, after_constant, constant_of}
use Rattle.direct_meaning.specs.Direct.{State, read, direct_step}
use Rattle.direct_meaning.specs.Static.{Env, knows, operand, results_of, place_of, lower_of, upper_of, holds_at}
use Rattle.direct_meaning.specs.Turns.{turns}
use Rattle.direct_meaning.proofs.WorkLaws.{all_between}
use Rattle.valid_laws.specs.Safe.{SafePlain, IsMemref, SafeNest}
use Rattle.valid_laws.proofs.Passing.{Holds, judged_passed, then_passed, plain_holds, loop_holds}
use Rattle.valid_laws.proofs.SafeHolds.{plain_stands as stands_behind, turn_stands}
use Rattle.valid_laws.proofs.Scoped.{ScopeStands}
use Rattle.valid_laws.proofs.Small.{small_between}
use Rattle.run_laws.specs.CanRun.{PlaceIn, HomeIn, CanTake}
use Rattle.run_laws.specs.FitsTypes.{FitsPlace, value_at, ValuesFit}
use Rattle.run_laws.proofs.Cells.{CellsFit, LiesIn, PlaceFits, place_fits}
use Rattle.run_laws.proofs.PlainText.{PlainText}
use Rattle.run_laws.proofs.Runs.{Ends, Keeps, keeps_nil, keeps_cons, keeps_append, keeps_turns, keeps_either, keeps_along}
use Rattle.run_laws.proofs.Typed.{scalar_width, Typed, static_put, data_put, typed_back, MemrefsLie, memref_lies, IsNoMemref, lies_put, operand_reads, indexes_read, load_ends, store_ends, result_ends, operation_fits}

-- what holds of each action, over the widths of the slow places
abbrev pub Runs : List ℕ → Action → State → Type 0
Runs widths a s = CanTake a s × ValuesFit widths a s

-- ---- places

place_in : (widths : List ℕ) (slow : List ℤ) (bits : ℕ) (place : Place) → CellsFit widths slow → PlaceFits widths bits place → PlaceIn (length slow) place
place_in widths slow bits (Slow place) c h = subst (λ n. place < n) (sym c.long) h.0
place_in widths slow bits (Fast number half cell) c h = absurd h
place_in widths slow bits Outside c h = tt

loaded_fits : (widths : List ℕ) (slow : List ℤ) (bits : ℕ) (place : Place) → CellsFit widths slow → PlaceFits widths bits place → FitsPlace widths place (value_at slow place)
loaded_fits widths slow bits (Slow place) c h = c.fit place h.0
loaded_fits widths slow bits (Fast number half cell) c h = absurd h
loaded_fits widths slow bits Outside c h = tt

stored_fits : (widths : List ℕ) (bits : ℕ) (place : Place) (z : ℤ) → PlaceFits widths bits place → InRange bits z → FitsPlace widths place z
stored_fits widths bits (Slow place) z h r = subst (λ n. InRange n z) (sym h.1) r
stored_fits widths bits (Fast number half cell) z h r = absurd h
stored_fits widths bits Outside z h r = tt

home_in : (widths : List ℕ) (slow : List ℤ) (home : Option Home) (ty : MemrefType) (subscripts : List Operand) → CellsFit widths slow → LiesIn widths home ty → IsMemref home ty → length subscripts ≡ length ty.sizes → HomeIn (length slow) home ty.sizes subscripts
home_in widths slow None ty subscripts c h k e = absurd h
home_in widths slow (Some (SlowMemref number first)) ty subscripts c h k e = record {
  places = subst (λ n. first + product ty.sizes ≤ n) (sym c.long) h.places;
  places_fit = k.stands.places_fit;
  sizes_positive = k.sizes;
  rank = k.stands.rank;
  count = e;
}
home_in widths slow (Some (FastMemref number)) ty subscripts c h k e = absurd h
home_in widths slow (Some (TagMemref first)) ty subscripts c h k e = absurd h

-- ---- a plain statement

module _ (widths : List ℕ) (a : Around) (rest : Nest) (e : Env) (h : ScopeStands a.scope e) (lies : MemrefsLie widths a.scope e.home) where
  -- what an action needs, and what it leaves to the names behind it
  abbrev pub Takes : (b : Scope) → Action → State → Type 0
  Takes b x s = Runs widths x s × Ends (CellsFit widths) (Typed widths b) (direct_step x s)

  constant_takes : (r : Name) (z : ℤ) (ty : Scalar) (s : State) → Typed widths a.scope s → InRange (scalar_bits ty) z → Takes (put a.scope r (Some (binding_of_constant z ty))) (constant_of r z ty) s
  unfolding direct_step
  constant_takes r z (scalar.Int element) s t k =
      ((range_grows (element_bits element) 64 z (scalar_width (scalar.Int element)).1 k, tt), data_put widths a.scope r (scalar.Int element) z s k t)
  constant_takes r z scalar.Index s t k = ((tt, tt), static_put widths a.scope r _ s (λ x. tt) t)

  pub action_takes : (p : Plain) (s : State) → SafePlain e p → Holds (counted a) p rest → plain_stands p ≡ true → Typed widths a.scope s → Takes (behind_plain p (counted a)).scope (action_of p e) s
  unfolding action_of direct_step place_of
  action_takes (Value r pick at) s v k q t = ((tt, tt), static_put widths a.scope r _ s (λ x. tt) t)
  action_takes (Load r m at ty) s v k q t =
      let place = place_fits widths (e.home m) ty (results_of e at) (memref_lies widths a.scope e.home m ty lies k.types) in
      ((place_in widths s.slow (element_bits ty.element) _ t.cells place, loaded_fits widths s.slow (element_bits ty.element) _ t.cells place), load_ends widths a.scope s r (scalar.Int ty.element) _ t place)
  action_takes (Store x m at ty) s v k q t =
      let two = and_parts (is_of a.scope x (scalar.Int ty.element)) (is_memref_of a.scope m ty) k.types in
      let place = place_fits widths (e.home m) ty (results_of e at) (memref_lies widths a.scope e.home m ty lies two.1) in
      let z = operand_reads widths a.scope e h s t x (scalar.Int ty.element) two.0 in
      ((place_in widths s.slow (element_bits ty.element) _ t.cells place, stored_fits widths (element_bits ty.element) _ _ place z), store_ends widths a.scope s (element_bits ty.element) _ _ t place z)
  action_takes (RawLoad r m at ty) s v k q t =
      let two = and_parts (is_memref_of a.scope m ty) (are_indexes a.scope at) k.types in
      let memref = memref_lies widths a.scope e.home m ty lies two.0 in
      let place = place_fits widths (e.home m) ty (map (read s.registers) (map (operand e) at)) memref in
      let subs = indexes_read widths a.scope e h s t at two.1 in (
        (home_in widths s.slow (e.home m) ty (map (operand e) at) t.cells memref v.memref (length-map at (operand e) ∙ v.subscripts), (loaded_fits widths s.slow (element_bits ty.element) _ t.cells place, subs)),
        load_ends widths a.scope s r (scalar.Int ty.element) _ t place,
      )
  action_takes (RawStore x m at ty) s v k q t =
      let one = and_parts (is_of a.scope x (scalar.Int ty.element)) (is_memref_of a.scope m ty && are_indexes a.scope at) k.types in
      let two = and_parts (is_memref_of a.scope m ty) (are_indexes a.scope at) one.1 in
      let memref = memref_lies widths a.scope e.home m ty lies two.0 in
      let place = place_fits widths (e.home m) ty (map (read s.registers) (map (operand e) at)) memref in
      let z = operand_reads widths a.scope e h s t x (scalar.Int ty.element) one.0 in
      let subs = indexes_read widths a.scope e h s t at two.1 in (
        (home_in widths s.slow (e.home m) ty (map (operand e) at) t.cells memref v.1.memref (length-map at (operand e) ∙ v.1.subscripts), (stored_fits widths (element_bits ty.element) _ _ place z, subs)),
        store_ends widths a.scope s (element_bits ty.element) _ _ t place z,
      )
  action_takes (Constant r z ty) s v k q t = constant_takes r z ty s t v
  action_takes (Binary r op x y ty) s v k q t =
      let two = and_parts (is_of a.scope x ty) (is_of a.scope y ty) k.types in
      let left = operand_reads widths a.scope e h s t x ty two.0 in
      let right = operand_reads widths a.scope e h s t y ty two.1 in
      (((scalar_width ty, left, right), (left, right)), result_ends widths a.scope s r ty _ t (λ z is. operation_fits op ty _ _ z is))
  action_takes (Cast r kind x from to) s v k q t =
      let two = and_parts (is_of a.scope x from) (casts_between kind from to) k.types in
      let z = operand_reads widths a.scope e h s t x from two.0 in
      (((scalar_width from, scalar_width to, v.1, z), z), data_put widths a.scope r to _ s (cast_value_inside kind (scalar_bits from) (scalar_bits to) _ (scalar_width to) v.1 z) t)
  action_takes (Alloc r ty) s v k q t = absurd (let z : ⊥ = cc in z)
  action_takes (Dealloc m ty) s v k q t = absurd (let z : ⊥ = cc in z)
  action_takes (Start x xa y ya u ta n stride types) s v k q t = absurd (let z : ⊥ = cc in z)
  action_takes (Wait u at n ty) s v k q t = absurd (let z : ⊥ = cc in z)
  action_takes Return s v k q t = ((tt, tt), t)

-- ---- memrefs behind it

constant_no_memref : (z : ℤ) (ty : Scalar) → IsNoMemref (binding_of_constant z ty)
constant_no_memref z (scalar.Int element) widths home = tt
constant_no_memref z scalar.Index widths home = tt

constant_home : (r : Name) (z : ℤ) (ty : Scalar) (e : Env) → (after_constant r z ty e).home ≡ e.home
constant_home r z (scalar.Int element) e = refl
constant_home r z scalar.Index e = refl

pub lies_behind : (widths : List ℕ) (a : Around) (p : Plain) (e : Env) → plain_stands p ≡ true → MemrefsLie widths a.scope e.home → MemrefsLie widths (behind_plain p (counted a)).scope (after_plain p e).home
unfolding after_plain
lies_behind widths a (Value r pick at) e q h = lies_put widths a.scope e.home r _ (λ w m. tt) h
lies_behind widths a (Load r m at ty) e q h = lies_put widths a.scope e.home r _ (λ w m. tt) h
lies_behind widths a (Store x m at ty) e q h = h
lies_behind widths a (RawLoad r m at ty) e q h = lies_put widths a.scope e.home r _ (λ w m. tt) h
lies_behind widths a (RawStore x m at ty) e q h = h
lies_behind widths a (Constant r z ty) e q h =
    subst (MemrefsLie widths (put a.scope r (Some (binding_of_constant z ty)))) (sym (constant_home r z ty e)) (lies_put widths a.scope e.home r (binding_of_constant z ty) (constant_no_memref z ty) h)
lies_behind widths a (Binary r op x y ty) e q h = lies_put widths a.scope e.home r _ (λ w m. tt) h
lies_behind widths a (Cast r kind x from to) e q h = lies_put widths a.scope e.home r _ (λ w m. tt) h
lies_behind widths a (Alloc r ty) e q h = absurd (let z : ⊥ = cc in z)
lies_behind widths a (Dealloc m ty) e q h = absurd (let z : ⊥ = cc in z)
lies_behind widths a (Start x xa y ya u ta n stride types) e q h = absurd (let z : ⊥ = cc in z)
lies_behind widths a (Wait u at n ty) e q h = absurd (let z : ⊥ = cc in z)
lies_behind widths a Return e q h = h

-- the names before it hold what they held
pub back_before : (widths : List ℕ) (a : Around) (p : Plain) (rest : Nest) (s : State) → Holds (counted a) p rest → plain_stands p ≡ true → Typed widths (behind_plain p (counted a)).scope s → Typed widths a.scope s
back_before widths a (Value r pick at) rest s k q t = typed_back widths a.scope r _ s k.new_name t
back_before widths a (Load r m at ty) rest s k q t = typed_back widths a.scope r _ s k.new_name t
back_before widths a (Store x m at ty) rest s k q t = t
back_before widths a (RawLoad r m at ty) rest s k q t = typed_back widths a.scope r _ s k.new_name t
back_before widths a (RawStore x m at ty) rest s k q t = t
back_before widths a (Constant r z ty) rest s k q t = typed_back widths a.scope r _ s k.new_name t
back_before widths a (Binary r op x y ty) rest s k q t = typed_back widths a.scope r _ s k.new_name t
back_before widths a (Cast r kind x from to) rest s k q t = typed_back widths a.scope r _ s k.new_name t
back_before widths a (Alloc r ty) rest s k q t = absurd (let z : ⊥ = cc in z)
back_before widths a (Dealloc m ty) rest s k q t = absurd (let z : ⊥ = cc in z)
back_before widths a (Start x xa y ya u ta n stride types) rest s k q t = absurd (let z : ⊥ = cc in z)
back_before widths a (Wait u at n ty) rest s k q t = absurd (let z : ⊥ = cc in z)
back_before widths a Return rest s k q t = t

-- ---- along the list

module _ (widths : List ℕ) where
  pub runs_of_told : (n : Nest) (a : Around) (t : Totals) (e : Env) → ScopeStands a.scope e → MemrefsLie widths a.scope e.home → SafeNest n e → PlainText n → told n a ≡ Passed t
      → Keeps (Runs widths) (CellsFit widths) (Typed widths a.scope) (Typed widths a.scope) (actions n e)
  unfolding told actions
  runs_of_told Nothing a t e h lies v q k = keeps_nil (Runs widths) (CellsFit widths) _ _ (λ s h. h)
  runs_of_told (Loop line x l u s body rest) a t e h lies v q k =
      let j = judged_passed line (rule_of_loop (counted a) x l u s) _ t k in
      let p = then_passed (told body (in_loop x l u (counted a))) (λ t. told rest (with_totals t a)) t j.1 in
      let new = (loop_holds (counted a) x l u s j.0).new_name in
      let inner = λ (z : ℤ) (from : lower_of e l ≤ℤ z) (to : z <ℤ upper_of e u).
      keeps_along (Runs widths) (CellsFit widths) _ _ _ _ (actions body (knows e x z)) (λ s h. static_put widths a.scope x _ s (λ y. tt) h) (λ s h. typed_back widths a.scope x _ s new h)
      (runs_of_told body (in_loop x l u (counted a)) p.0 (knows e x z) (turn_stands a.scope e x _ z h new (small_between _ _ z v.1.lower_small v.1.upper_small from to)) (lies_put widths a.scope e.home x _ (λ w m. tt) lies) (v.2 z from to) q.0 p.1) in
      keeps_append (Runs widths) (CellsFit widths) _ _ _ (flat_map (λ t. actions body (knows e x t)) (turns (lower_of e l) (upper_of e u) s)) (actions rest (behind body e))
      (keeps_turns (Runs widths) (CellsFit widths) _ (lower_of e l) (upper_of e u) (λ t. actions body (knows e x t)) (turns (lower_of e l) (upper_of e u) s) (all_between (lower_of e l) (upper_of e u) s) inner)
      (runs_of_told rest (with_totals p.0 a) t (behind body e) h lies v.3 q.1 p.2)
  runs_of_told (Branch line set names first has other rest) a t e h lies v q k =
      let j = judged_passed line (rule_of_condition (counted a) set names) _ t k in
      let p = then_passed (told first (in_condition (counted a))) (λ t. then_told (told other (in_condition (with_totals t a))) (λ u. told rest (with_totals u a))) t j.1 in
      let r = then_passed (told other (in_condition (with_totals p.0 a))) (λ u. told rest (with_totals u a)) t p.2 in
      keeps_append (Runs widths) (CellsFit widths) _ _ _ (if holds_at e set names then actions first e else actions other (behind first e)) (actions rest (behind other (behind first e)))
      (keeps_either (Runs widths) (CellsFit widths) _ _ (holds_at e set names) (actions first e) (actions other (behind first e))
      (runs_of_told first (in_condition (counted a)) p.0 e h lies v.2 q.0 p.1)
      (runs_of_told other (in_condition (with_totals p.0 a)) r.0 (behind first e) h lies v.3 q.1 r.1))
      (runs_of_told rest (with_totals r.0 a) t (behind other (behind first e)) h lies v.4 q.2 r.2)
  runs_of_told (Does line p rest) a t e h lies v q k =
      let j = judged_passed line (rule_of_plain (counted a) p rest) _ t k in
      let holds = plain_holds (counted a) p rest j.0 in
      keeps_cons (Runs widths) (CellsFit widths) _ (Typed widths (behind_plain p (counted a)).scope) _ (action_of p e) (actions rest (after_plain p e)) (λ s typed. action_takes widths a rest e h lies p s v.1 holds q.0 typed)
      (keeps_along (Runs widths) (CellsFit widths) _ _ _ _ (actions rest (after_plain p e)) (λ s h. h) (λ s h. back_before widths a p rest s holds q.0 h)
      (runs_of_told rest (behind_plain p (counted a)) t (after_plain p e) (stands_behind a p rest e h holds v.1) (lies_behind widths a p e q.0 lies) v.2 q.1 j.1))
