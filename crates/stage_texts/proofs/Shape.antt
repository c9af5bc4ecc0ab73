-- The body of a stage has the shape of a text's.
use Rattle.std.proofs.Common.{◌≡◌, ℕ, zero, suc, ℤ, pos, Bool, true, false, List, [], ◌∷◌, map, Some, None, refl, ap, ◌∙◌, arith}
use Rattle.std.specs.Prelude.{Option, if◌then◌else◌}
use Rattle.affine_expr.specs.declared.expr.Expr.{Const}
use Rattle.affine_ast.specs.declared.name.Name.{Name}
use Rattle.affine_ast.specs.declared.types.Pick.TheVariants.{Apply, Min, Max}
use Rattle.affine_ast.specs.Names.{same_name}
use Rattle.affine_ast.specs.Nest.{Plain, Nest, Nothing, Loop, Branch, Does, Value, Load, Store, RawLoad, RawStore, Constant, Binary, Cast, Alloc, Dealloc, Start, Wait, Return, followed_by, nest}
use Rattle.affine_ast.specs.Sizes.{product}
use Rattle.placement_texts.specs.Fold.{Step, staged_all}
use Rattle.placement_texts.specs.Mapped.{mapped}
use Rattle.placement_texts.specs.Renamed.{bound_named, plain_named, named}
use Rattle.placement_texts.specs.Spots.{Spot, Here, Behind, Inside, Other, found, staged_at}
use Rattle.placement_texts.specs.Template.{Dimension, How, Copies, Transfers, Placement, fast_type, fast_name, in_fast, begins, place_name, least_name, form, over_terms, last_place, value_or_zero, place_statement, places_from, count_name, dim_extents, index_constant, chunk_constants, constants, allocs, deallocs, read_in, write_out, where_so, before, behind_loop, redirect}
use Rattle.plan_laws.specs.Sites.{line_or_one, lined}
use Rattle.plan_laws.specs.Plan.{plan_steps}
use Rattle.printed_texts.specs.Writable.{IsPositive, PlainFits, StatementsFit}
use Rattle.normal_texts.specs.Texts.{normal_plain, normal_text}
use Rattle.numbered_names.specs.Numbers.{value_names, numbered_name}
use Rattle.stage_texts.specs.Shape.{IsNoReturn, HasStep, HasRow, Shaped}
use Rattle.stage_texts.specs.Law.{StageShape, WrittenShape}
use Rattle.stage_texts.proofs.Staged.{HoldsOf, each_staged}

-- ---- statements before the `return`
assoc : (a b c : Nest) → followed_by a (followed_by b c) ≡ followed_by (followed_by a b) c
assoc Nothing b c = refl
assoc (Loop line v l u s body rest) b c = ap (Loop line v l u s body) (assoc rest b c)
assoc (Branch line set names first has other rest) b c = ap (Branch line set names first has other) (assoc rest b c)
assoc (Does line p rest) b c = ap (Does line p) (assoc rest b c)

module _ (end : Nest) where
  module _ (p : Placement) where
    behind_where : (t : Bool) (part rest : Nest) → where_so p t part (followed_by rest end) ≡ followed_by (where_so p t part rest) end
    behind_where true part rest = assoc part rest end
    behind_where false part rest = refl

    behind_deallocs : (how : How) (rest : Nest) → deallocs p how (followed_by rest end) ≡ followed_by (deallocs p how rest) end
    behind_deallocs Copies rest = refl
    behind_deallocs (Transfers chunks) rest = refl

    behind_all : (rest : Nest) → behind_loop p (followed_by rest end) ≡ followed_by (behind_loop p rest) end
    behind_all rest = ap (where_so p p.writes (write_out p p.how)) (behind_deallocs p.how rest) ∙ behind_where p.writes (write_out p p.how) (deallocs p p.how rest)

    before_allocs : (how : How) (rest : Nest) → allocs p how (followed_by rest end) ≡ followed_by (allocs p how rest) end
    before_allocs Copies rest = refl
    before_allocs (Transfers chunks) rest = refl

    before_chunks : (chunks : Option (ℕ × ℕ)) (rest : Nest) → chunk_constants p chunks (followed_by rest end) ≡ followed_by (chunk_constants p chunks rest) end
    before_chunks None rest = refl
    before_chunks (Some two) rest = refl

    before_constants : (how : How) (rest : Nest) → constants p how (followed_by rest end) ≡ followed_by (constants p how rest) end
    before_constants Copies rest = refl
    before_constants (Transfers chunks) rest = ap (index_constant p (count_name p.name) (product (dim_extents p.dims))) (before_chunks chunks rest)

    before_either : (t : Bool) (x y z : Plain) (rest : Nest) → (if t then Does 0 x (Does 0 y (followed_by rest end)) else Does 0 z (followed_by rest end)) ≡ followed_by (if t then Does 0 x (Does 0 y rest) else Does 0 z rest) end
    before_either true x y z rest = refl
    before_either false x y z rest = refl

    before_place : (k : ℕ) (d : Dimension) (ts : List (Name × ℤ)) (rest : Nest) → place_statement p.name k d ts (followed_by rest end) ≡ followed_by (place_statement p.name k d ts rest) end
    before_place k d [] rest = refl
    before_place k d (t ∷ ts) rest =
        before_either d.clamped (Value (least_name p.name k) Min (over_terms (t ∷ ts) (form (t ∷ ts) d.offset ∷ Const (last_place d) ∷ []))) (Value (place_name p.name k) Max (value_or_zero (least_name p.name k)))
        (Value (place_name p.name k) Apply (over_terms (t ∷ ts) (form (t ∷ ts) d.offset ∷ []))) rest

    before_places : (k : ℕ) (ds : List Dimension) (rest : Nest) → places_from p.name k ds (followed_by rest end) ≡ followed_by (places_from p.name k ds rest) end
    before_places k [] rest = refl
    before_places k (d ∷ ds) rest = ap (place_statement p.name k d d.terms) (before_places (suc k) ds rest) ∙ before_place k d d.terms (places_from p.name (suc k) ds rest)

    before_all : (rest : Nest) → before p (followed_by rest end) ≡ followed_by (before p rest) end
    before_all rest =
        let reads = where_so p p.reads (read_in p p.how) rest in
        ap (λ n. places_from p.name 0 p.dims (constants p p.how (allocs p p.how n))) (behind_where p.reads (read_in p p.how) rest)
        ∙ ap (λ n. places_from p.name 0 p.dims (constants p p.how n)) (before_allocs p.how reads)
        ∙ ap (places_from p.name 0 p.dims) (before_constants p.how (allocs p p.how reads))
        ∙ before_places 0 p.dims (constants p p.how (allocs p p.how reads))

    staged_front : ((s : Spot) → staged_at p s end ≡ end) → (s : Spot) (a : Nest) → staged_at p s (followed_by a end) ≡ followed_by (staged_at p s a) end
    staged_front e s Nothing = e s
    staged_front e Here (Loop line v l u step body rest) =
        ap (λ n. before p (Loop line v l u step (mapped (redirect p) body) n)) (behind_all rest) ∙ before_all (Loop line v l u step (mapped (redirect p) body) (behind_loop p rest))
    staged_front e (Behind s) (Loop line v l u step body rest) = ap (Loop line v l u step body) (staged_front e s rest)
    staged_front e (Inside s) (Loop line v l u step body rest) = refl
    staged_front e (Other s) (Loop line v l u step body rest) = refl
    staged_front e Here (Branch line set names first has other rest) = refl
    staged_front e (Behind s) (Branch line set names first has other rest) = ap (Branch line set names first has other) (staged_front e s rest)
    staged_front e (Inside s) (Branch line set names first has other rest) = refl
    staged_front e (Other s) (Branch line set names first has other rest) = refl
    staged_front e Here (Does line q rest) = refl
    staged_front e (Behind s) (Does line q rest) = ap (Does line q) (staged_front e s rest)
    staged_front e (Inside s) (Does line q rest) = refl
    staged_front e (Other s) (Does line q rest) = refl

end_stays : (p : Placement) (line : ℕ) (s : Spot) → staged_at p s (Does line Return Nothing) ≡ Does line Return Nothing
end_stays p line Here = refl
end_stays p line (Behind s) = refl
end_stays p line (Inside s) = refl
end_stays p line (Other s) = refl

-- ---- one placement keeps the shape
redirected_stays : (p : Placement) (q : Plain) → IsNoReturn q → IsNoReturn (redirect p q)
redirected_stays p (Load r m at ty) h = either (same_name p.memref m) (Load r (fast_name p.name) (in_fast (begins p) at) (fast_type p)) (Load r m at ty) tt tt
  where
    either : (t : Bool) (x y : Plain) → IsNoReturn x → IsNoReturn y → IsNoReturn (if t then x else y)
    either true x y h k = h
    either false x y h k = k
redirected_stays p (Store x m at ty) h = either (same_name p.memref m) (Store x (fast_name p.name) (in_fast (begins p) at) (fast_type p)) (Store x m at ty) tt tt
  where
    either : (t : Bool) (x y : Plain) → IsNoReturn x → IsNoReturn y → IsNoReturn (if t then x else y)
    either true x y h k = h
    either false x y h k = k
redirected_stays p (Value r pick at) h = h
redirected_stays p (RawLoad r m at ty) h = h
redirected_stays p (RawStore x m at ty) h = h
redirected_stays p (Constant r z ty) h = h
redirected_stays p (Binary r op a b ty) h = h
redirected_stays p (Cast r kind x from to) h = h
redirected_stays p (Alloc r ty) h = h
redirected_stays p (Dealloc m ty) h = h
redirected_stays p (Start a aa b bb t ta n stride types) h = h
redirected_stays p (Wait t at n ty) h = h
redirected_stays p Return h = absurd h

one_step : IsPositive (pos 1)
one_step = record { magnitude = 1; is = refl; small = omega arith }

template_shape : (p : Placement) → HoldsOf IsNoReturn IsNoReturn (λ q h. h) HasStep HasRow p
template_shape p = record {
  least = λ k d t ts. tt;
  raised = λ k. tt;
  placed = λ k d t ts. tt;
  turn_in = λ k d. one_step;
  turn_out = λ k d. one_step;
  load_in = tt;
  store_in = tt;
  load_out = tt;
  store_out = tt;
  start_in = λ chunks. tt;
  start_out = λ chunks. tt;
  wait = tt;
  constant = λ i k. tt;
  alloc_fast = tt;
  alloc_tag = tt;
  dealloc_fast = tt;
  dealloc_tag = tt;
  redirected = redirected_stays p;
}

-- ---- all placements
record Front (n : Nest) (line : ℕ) : Type 0 where
  stmts : Nest
  is : n ≡ followed_by stmts (Does line Return Nothing)
  shaped : Shaped stmts

staged_shape : (xs : List Step) (n : Nest) (line : ℕ) → Front n line → Front (staged_all xs n) line
staged_shape [] n line f = f
staged_shape (x ∷ xs) n line f = staged_shape xs _ line (record {
  stmts = staged_at x.placement (found x.spot n) f.stmts;
  is = ap (staged_at x.placement (found x.spot n)) f.is ∙ staged_front (Does line Return Nothing) x.placement (end_stays x.placement line) (found x.spot n) f.stmts;
  shaped = each_staged IsNoReturn IsNoReturn (λ q h. h) HasStep HasRow x.placement (template_shape x.placement) (found x.spot n) f.stmts f.shaped;
})

-- ---- lines, subscripts and names
module _ (end : Nest) where
  lined_front : (a : Nest) → lined (followed_by a end) ≡ followed_by (lined a) (lined end)
  lined_front Nothing = refl
  lined_front (Loop line v l u s body rest) = ap (Loop (line_or_one line) v l u s (lined body)) (lined_front rest)
  lined_front (Branch line set names first has other rest) = ap (Branch (line_or_one line) set names (lined first) has (lined other)) (lined_front rest)
  lined_front (Does line p rest) = ap (Does (line_or_one line) p) (lined_front rest)

  mapped_front : (f : Plain → Plain) (a : Nest) → mapped f (followed_by a end) ≡ followed_by (mapped f a) (mapped f end)
  mapped_front f Nothing = refl
  mapped_front f (Loop line v l u s body rest) = ap (Loop line v l u s (mapped f body)) (mapped_front f rest)
  mapped_front f (Branch line set names first has other rest) = ap (Branch line set names (mapped f first) has (mapped f other)) (mapped_front f rest)
  mapped_front f (Does line p rest) = ap (Does line (f p)) (mapped_front f rest)

  named_front : (f : Name → Name) (a : Nest) → named f (followed_by a end) ≡ followed_by (named f a) (named f end)
  named_front f Nothing = refl
  named_front f (Loop line v l u s body rest) = ap (Loop line (f v) (bound_named f l) (bound_named f u) s (named f body)) (named_front f rest)
  named_front f (Branch line set names first has other rest) = ap (Branch line set (map f names) (named f first) has (named f other)) (named_front f rest)
  named_front f (Does line p rest) = ap (Does line (plain_named f p)) (named_front f rest)

lined_shape : (n : Nest) → Shaped n → Shaped (lined n)
lined_shape Nothing h = tt
lined_shape (Loop line v l u s body rest) h = (h.0, lined_shape body h.1, lined_shape rest h.2)
lined_shape (Branch line set names first has other rest) h = (h.0, lined_shape first h.1, lined_shape other h.2, lined_shape rest h.3)
lined_shape (Does line p rest) h = (h.0, lined_shape rest h.1)

normal_stays : (p : Plain) → IsNoReturn p → IsNoReturn (normal_plain p)
normal_stays (Value r pick at) h = tt
normal_stays (Load r m at ty) h = tt
normal_stays (Store x m at ty) h = tt
normal_stays (RawLoad r m at ty) h = tt
normal_stays (RawStore x m at ty) h = tt
normal_stays (Constant r z ty) h = tt
normal_stays (Binary r op x y ty) h = tt
normal_stays (Cast r kind x from to) h = tt
normal_stays (Alloc r ty) h = tt
normal_stays (Dealloc m ty) h = tt
normal_stays (Start x x_at y y_at t t_at n stride types) h = tt
normal_stays (Wait t at n ty) h = tt
normal_stays Return h = absurd h

named_stays : (f : Name → Name) (p : Plain) → IsNoReturn p → IsNoReturn (plain_named f p)
named_stays f (Value r pick at) h = tt
named_stays f (Load r m at ty) h = tt
named_stays f (Store x m at ty) h = tt
named_stays f (RawLoad r m at ty) h = tt
named_stays f (RawStore x m at ty) h = tt
named_stays f (Constant r z ty) h = tt
named_stays f (Binary r op x y ty) h = tt
named_stays f (Cast r kind x from to) h = tt
named_stays f (Alloc r ty) h = tt
named_stays f (Dealloc m ty) h = tt
named_stays f (Start x x_at y y_at t t_at n stride types) h = tt
named_stays f (Wait t at n ty) h = tt
named_stays f Return h = absurd h

normal_shape : (n : Nest) → Shaped n → Shaped (normal_text n)
normal_shape Nothing h = tt
normal_shape (Loop line v l u s body rest) h = (h.0, normal_shape body h.1, normal_shape rest h.2)
normal_shape (Branch line set names first has other rest) h = (h.0, normal_shape first h.1, normal_shape other h.2, normal_shape rest h.3)
normal_shape (Does line p rest) h = (normal_stays p h.0, normal_shape rest h.1)

named_shape : (f : Name → Name) (n : Nest) → Shaped n → Shaped (named f n)
named_shape f Nothing h = tt
named_shape f (Loop line v l u s body rest) h = (h.0, named_shape f body h.1, named_shape f rest h.2)
named_shape f (Branch line set names first has other rest) h = (h.0, named_shape f first h.1, named_shape f other h.2, named_shape f rest h.3)
named_shape f (Does line p rest) h = (named_stays f p h.0, named_shape f rest h.1)

-- ---- the stage
pub stage_shape : StageShape
stage_shape o m q h is =
    let line = line_or_one h.line in
    let first : Front (lined (nest m.body)) line = record { stmts = lined h.stmts; is = ap lined h.body ∙ lined_front (Does h.line Return Nothing) h.stmts; shaped = lined_shape h.stmts h.shaped } in
    let placed = staged_shape (plan_steps o m) (lined (nest m.body)) line first in
    let change = numbered_name is.is_numbered.underscore_count (value_names is.ordered) in
    let end = Does line Return Nothing in
    record {
      stmts = named change (normal_text placed.stmts);
      line = line;
      body =
          is.is_numbered.body
          ∙ ap (named change) (is.is_ordered.body ∙ ap normal_text (is.is_placed.body ∙ placed.is) ∙ mapped_front end normal_plain placed.stmts)
          ∙ named_front end change (normal_text placed.stmts);
      shaped = named_shape change (normal_text placed.stmts) (normal_shape placed.stmts placed.shaped);
    }

plain_shape : (p : Plain) → PlainFits p → IsNoReturn p
plain_shape (Value r pick at) h = tt
plain_shape (Load r m at ty) h = tt
plain_shape (Store x m at ty) h = tt
plain_shape (RawLoad r m at ty) h = tt
plain_shape (RawStore x m at ty) h = tt
plain_shape (Constant r z ty) h = tt
plain_shape (Binary r op x y ty) h = tt
plain_shape (Cast r kind x from to) h = tt
plain_shape (Alloc r ty) h = tt
plain_shape (Dealloc m ty) h = tt
plain_shape (Start x x_at y y_at t t_at n stride types) h = tt
plain_shape (Wait t at n ty) h = tt
plain_shape Return h = absurd h

fit_shape : (left : ℕ) (n : Nest) → StatementsFit left n → Shaped n
fit_shape left Nothing h = tt
fit_shape zero (Loop line v l u s body rest) h = absurd h
fit_shape (suc left) (Loop line v l u s body rest) h = (h.3, fit_shape left body h.4, fit_shape (suc left) rest h.5)
fit_shape zero (Branch line set names first has other rest) h = absurd h
fit_shape (suc left) (Branch line set names first has other rest) h = (h.0.some, fit_shape left first h.1, fit_shape left other h.2, fit_shape (suc left) rest h.3)
fit_shape left (Does line p rest) h = (plain_shape p h.0, fit_shape left rest h.1)

pub written_shape : WrittenShape
written_shape m h = record { stmts = h.stmts; line = h.line; body = h.body; shaped = fit_shape 39 h.stmts h.fit }
