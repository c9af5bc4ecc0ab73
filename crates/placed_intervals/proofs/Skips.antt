-- What holds of a text under what is in scope holds of it with the template's statements before or behind it, where these are passed over.
use Rattle.std.proofs.Common.{◌≡◌, ℕ, zero, suc, ◌+◌, ◌*◌, ℤ, Bool, true, false, cond, List, [], ◌∷◌, ◌∙◌, refl}
use Rattle.std.specs.Prelude.{Option, Some, None}
use Rattle.affine_expr.specs.declared.expr.Expr.{Const}
use Rattle.affine_ast.specs.declared.name.Name.{Name}
use Rattle.affine_ast.specs.declared.types.Bound.{Bound}
use Rattle.affine_ast.specs.declared.types.Pick.TheVariants.{Apply, Min, Max}
use Rattle.affine_ast.specs.Names.{same_name, put}
use Rattle.affine_ast.proofs.Names.{put-other}
use Rattle.affine_ast.specs.Nest.{Plain, Nest, Nothing, Loop, Does, Value, Load, Store, followed_by}
use Rattle.affine_ast.specs.Scope.{Binding, Scope}
use Rattle.placement_texts.specs.Own.{MadeNames}
use Rattle.placement_texts.specs.Template.{How, Copies, Transfers, Placement, Dimension, fast_name, in_value, out_value, in_turn, out_turn, place_name, least_name, form, over_terms, last_place, value_or_zero, place_statement, places_from, begins, slow_at_turns, fast_at_turns, slow_type, fast_type, loops, read_in, write_out, chunk_constants, constants, allocs, deallocs, where_so, before, behind_loop}
use Rattle.placement_texts.specs.Tests.{behind_scope}
use Rattle.placement_texts.proofs.Skipped.{Spares, SparesIn}
use Rattle.placed_intervals.proofs.Scopes.{Agree}
use Rattle.placed_intervals.proofs.Front.{own_apart}

-- a predicate of texts that passes over statements and loops without a line, which spare a memref
pub record Skips (m : Name) (K : Nest → Scope → Type 0) : Type 0 where
  pub does : (q : Plain) (rest : Nest) (s : Scope) → Spares m q → K rest (behind_scope q s) → K (Does zero q rest) s
  pub loop : (v : Name) (l u : Bound) (step : ℤ) (body rest : Nest) (s : Scope) → SparesIn m body → K rest s → K (Loop zero v l u step body rest) s

module _ (own : Name → Bool) (p : Placement) (names : MadeNames own p.name) (m : Name) (K : Nest → Scope → Type 0) (skips : Skips m K) where
  -- of the text's names the same is in scope
  abbrev pub More : Nest → Scope → Type 0
  More rest s = (t : Scope) → Agree own s t → K rest t

  made : (s t : Scope) (i : ℕ) (b : Binding) → Agree own s t → Agree own s (put t (p.name i) (Some b))
  made s t i b h n o = put-other t (p.name i) (Some b) n (own_apart p.name own names i n o) ∙ h n o

  itself : (s : Scope) → Agree own s s
  itself s n o = refl

  place_skips : (k : ℕ) (d : Dimension) (ts : List (Name × ℤ)) (rest : Nest) (s t : Scope) → Agree own s t → More rest s → K (place_statement p.name k d ts rest) t
  place_skips k d [] rest s t a more = more t a
  place_skips k d (x ∷ ts) rest s t a more = by d.clamped
    where
      by : (b : Bool) → K (cond b
          (Does 0 (Value (least_name p.name k) Min (over_terms (x ∷ ts) (form (x ∷ ts) d.offset ∷ Const (last_place d) ∷ []))) (Does 0 (Value (place_name p.name k) Max (value_or_zero (least_name p.name k))) rest))
          (Does 0 (Value (place_name p.name k) Apply (over_terms (x ∷ ts) (form (x ∷ ts) d.offset ∷ []))) rest)) t
      by true = skips.does _ _ t tt (skips.does _ rest _ tt (more _ (made s _ (7 + 4 * k) _ (made s t (8 + 4 * k) _ a))))
      by false = skips.does _ rest t tt (more _ (made s t (7 + 4 * k) _ a))

  places_skip : (k : ℕ) (ds : List Dimension) (rest : Nest) (s t : Scope) → Agree own s t → More rest s → K (places_from p.name k ds rest) t
  places_skip k [] rest s t a more = more t a
  places_skip k (d ∷ ds) rest s t a more = place_skips k d d.terms (places_from p.name (suc k) ds rest) s t a (λ u b. places_skip (suc k) ds rest s u b more)

  chunks_skip : (chunks : Option (ℕ × ℕ)) (rest : Nest) (s t : Scope) → Agree own s t → More rest s → K (chunk_constants p chunks rest) t
  chunks_skip None rest s t a more = more t a
  chunks_skip (Some two) rest s t a more = skips.does _ _ t tt (skips.does _ rest _ tt (more _ (made s _ 4 _ (made s t 3 _ a))))

  constants_skip : (how : How) (rest : Nest) (s t : Scope) → Agree own s t → More rest s → K (constants p how rest) t
  constants_skip Copies rest s t a more = more t a
  constants_skip (Transfers chunks) rest s t a more = skips.does _ _ t tt (chunks_skip chunks rest s _ (made s t 2 _ a) more)

  allocs_skip : (how : How) (rest : Nest) (s t : Scope) → Agree own s t → More rest s → K (allocs p how rest) t
  allocs_skip Copies rest s t a more = skips.does _ rest t tt (more _ (made s t 0 _ a))
  allocs_skip (Transfers chunks) rest s t a more = skips.does _ _ t tt (skips.does _ rest _ tt (more _ (made s _ 1 _ (made s t 0 _ a))))

  deallocs_skip : (how : How) (rest : Nest) (s t : Scope) → Agree own s t → More rest s → K (deallocs p how rest) t
  deallocs_skip Copies rest s t a more = skips.does _ rest t tt (more t a)
  deallocs_skip (Transfers chunks) rest s t a more = skips.does _ _ t tt (skips.does _ rest t tt (more t a))

  -- ---- copies
  loops_spare : (turn : ℕ → Name) (d : ℕ) (ds : List Dimension) (inner : Nest) → SparesIn m inner → SparesIn m (loops turn d ds inner)
  loops_spare turn d [] inner h = h
  loops_spare turn d (x ∷ ds) inner h = (loops_spare turn (suc d) ds inner h, tt)

  loops_skip : (turn : ℕ → Name) (d : ℕ) (ds : List Dimension) (inner rest : Nest) (t : Scope) → SparesIn m inner → K (followed_by inner rest) t → K rest t → K (followed_by (loops turn d ds inner) rest) t
  loops_skip turn d [] inner rest t h k j = k
  loops_skip turn d (x ∷ ds) inner rest t h k j = skips.loop _ _ _ _ (loops turn (suc d) ds inner) rest t (loops_spare turn (suc d) ds inner h) j

  module _ (other : same_name m p.memref ≡ false) (fast : same_name m (fast_name p.name) ≡ false) where
    reads_skip : (how : How) (rest : Nest) (s t : Scope) → Agree own s t → More rest s → K (followed_by (read_in p how) rest) t
    reads_skip Copies rest s t a more =
        loops_skip (in_turn p.name) 0 p.dims (Does 0 (Load (in_value p.name) p.memref (slow_at_turns (in_turn p.name) (begins p)) (slow_type p)) (Does 0 (Store (in_value p.name) (fast_name p.name) (fast_at_turns (in_turn p.name) (begins p)) (fast_type p)) Nothing)) rest t (other, (fast, tt))
        (skips.does _ _ t other (skips.does _ rest _ fast (more _ (made s t 5 _ a)))) (more t a)
    reads_skip (Transfers chunks) rest s t a more = skips.does _ _ t tt (skips.does _ rest t tt (more t a))

    writes_skip : (how : How) (rest : Nest) (s t : Scope) → Agree own s t → More rest s → K (followed_by (write_out p how) rest) t
    writes_skip Copies rest s t a more =
        loops_skip (out_turn p.name) 0 p.dims (Does 0 (Load (out_value p.name) (fast_name p.name) (fast_at_turns (out_turn p.name) (begins p)) (fast_type p)) (Does 0 (Store (out_value p.name) p.memref (slow_at_turns (out_turn p.name) (begins p)) (slow_type p)) Nothing)) rest t (fast, (other, tt))
        (skips.does _ _ t fast (skips.does _ rest _ other (more _ (made s t 6 _ a)))) (more t a)
    writes_skip (Transfers chunks) rest s t a more = skips.does _ _ t tt (skips.does _ rest t tt (more t a))

    reads_so : (b : Bool) (rest : Nest) (s t : Scope) → Agree own s t → More rest s → K (where_so p b (read_in p p.how) rest) t
    reads_so true rest s t a more = reads_skip p.how rest s t a more
    reads_so false rest s t a more = more t a

    writes_so : (b : Bool) (rest : Nest) (s t : Scope) → Agree own s t → More rest s → K (where_so p b (write_out p p.how) rest) t
    writes_so true rest s t a more = writes_skip p.how rest s t a more
    writes_so false rest s t a more = more t a

    pub before_skips : (rest : Nest) (s : Scope) → More rest s → K (before p rest) s
    before_skips rest s more =
        places_skip 0 p.dims _ s s (itself s) (λ t a. constants_skip p.how _ s t a (λ u b. allocs_skip p.how _ s u b (λ w c. reads_so p.reads rest s w c more)))

    pub behind_skips : (rest : Nest) (s : Scope) → More rest s → K (behind_loop p rest) s
    behind_skips rest s more = writes_so p.writes _ s s (itself s) (λ t a. deallocs_skip p.how rest s t a more)
