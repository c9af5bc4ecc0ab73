-- What holds of a text holds of it with the template's statements before or behind it, where these are passed over.
use Rattle.std.proofs.Common.{◌≡◌, ℕ, zero, suc, ℤ, pos, List, [], ◌∷◌, sym, ap, ◌∙◌, subst, Bool, true, false}
use Rattle.std.specs.Prelude.{Option, Some, None, if◌then◌else◌}
use Rattle.std.specs.Int.{int_min}
use Rattle.affine_expr.specs.declared.expr.Expr.{Const}
use Rattle.affine_expr.proofs.Values.{value-Const}
use Rattle.affine_ast.specs.declared.name.Name.{Name}
use Rattle.affine_ast.specs.declared.types.Bound.{Bound}
use Rattle.affine_ast.specs.declared.types.Pick.TheVariants.{Apply, Min, Max}
use Rattle.affine_ast.specs.Names.{same_name}
use Rattle.affine_ast.specs.Nest.{Plain, Nest, Nothing, Loop, Branch, Does, Value, Load, Store, Alloc, Dealloc, followed_by}
use Rattle.affine_ast.specs.Sizes.{product}
use Rattle.direct_meaning.specs.Static.{Env, knows, numbers, picked}
use Rattle.direct_meaning.specs.Actions.{after_plain, behind, after}
use Rattle.placement_texts.specs.Template.{How, Copies, Transfers, Placement, Dimension, dim_extents, fast_name, tag_name, count_name, fast_type, tag_type, place_name, least_name, form, term_names, over_terms, last_place, clamp, value_or_zero, place_statement, places_from, loops, read_in, write_out, chunk_constants, constants, allocs, deallocs, where_so, before, behind_loop}
use Rattle.placement_texts.specs.Regions.{form_number}
use Rattle.placement_texts.proofs.Places.{value-form}
use Rattle.placement_texts.proofs.PlaceRun.{over_results, zero_results, two_known, statement_env, places_env}
use Rattle.placement_texts.proofs.Ready.{chunk_env, constants_env, allocs_env}
use Rattle.placement_texts.proofs.WaysRun.{so_env}

module _ (m : Name) where
  -- no load and no store of the memref
  abbrev pub Spares : Plain → Type 0
  Spares (Load r n at ty) = same_name m n ≡ false
  Spares (Store x n at ty) = same_name m n ≡ false
  Spares q = Unit {0}

  abbrev pub SparesIn : Nest → Type 0
  SparesIn Nothing = Unit {0}
  SparesIn (Loop line v l u step body rest) = SparesIn body × SparesIn rest
  SparesIn (Branch line set ns first has other rest) = SparesIn first × SparesIn other × SparesIn rest
  SparesIn (Does line q rest) = Spares q × SparesIn rest

  -- statements and loops without a line
  abbrev pub IsMade : Nest → Type 0
  IsMade Nothing = Unit {0}
  IsMade (Loop zero v l u step body rest) = IsMade rest
  IsMade (Does zero q rest) = IsMade rest
  IsMade n = ⊥

  -- a predicate of texts that passes over them
  pub record Skips (K : Nest → Env → Type 0) : Type 0 where
    pub does : (q : Plain) (rest : Nest) (g : Env) → Spares q → K rest (after_plain q g) → K (Does zero q rest) g
    pub loop : (v : Name) (l u : Bound) (step : ℤ) (body rest : Nest) (g : Env) → SparesIn body → K rest (behind body g) → K (Loop zero v l u step body rest) g

  module _ (K : Nest → Env → Type 0) (skips : Skips K) where
    followed_skips : (part rest : Nest) (g : Env) → IsMade part → SparesIn part → K rest (after part g) → K (followed_by part rest) g
    unfolding after
    followed_skips Nothing rest g h s k = k
    followed_skips (Loop zero v l u step body more) rest g h s k = skips.loop v l u step body (followed_by more rest) g s.0 (followed_skips more rest (behind body g) h s.1 k)
    followed_skips (Loop (suc line) v l u step body more) rest g h s k = absurd h
    followed_skips (Branch line set ns first has other more) rest g h s k = absurd h
    followed_skips (Does zero q more) rest g h s k = skips.does q (followed_by more rest) g s.0 (followed_skips more rest (after_plain q g) h s.1 k)
    followed_skips (Does (suc line) q more) rest g h s k = absurd h

    module _ (p : Placement) (other : same_name m p.memref ≡ false) (fast : same_name m (fast_name p.name) ≡ false) where
      -- ---- places
      apply_after : (k : ℕ) (d : Dimension) (ts : List (Name × ℤ)) (g : Env)
          → after_plain (Value (place_name p.name k) Apply (over_terms ts (form ts d.offset ∷ []))) g ≡ knows g (place_name p.name k) (form_number g ts d.offset)
      unfolding after_plain
      apply_after k d ts g = ap (λ zs. knows g (place_name p.name k) (picked Apply zs)) (over_results g ts (form ts d.offset ∷ []) ∙ ap (λ z. z ∷ []) (value-form g ts d.offset))

      min_after : (k : ℕ) (d : Dimension) (ts : List (Name × ℤ)) (g : Env)
          → after_plain (Value (least_name p.name k) Min (over_terms ts (form ts d.offset ∷ Const (last_place d) ∷ []))) g ≡ knows g (least_name p.name k) (int_min (form_number g ts d.offset) (last_place d))
      unfolding after_plain
      min_after k d ts g =
          ap (λ zs. knows g (least_name p.name k) (picked Min zs))
          (over_results g ts (form ts d.offset ∷ Const (last_place d) ∷ []) ∙ (λ i. value-form g ts d.offset i ∷ value-Const (numbers g (term_names ts)) [] (last_place d) i ∷ []))

      max_after : (k : ℕ) (g : Env) (z w : ℤ) → after_plain (Value (place_name p.name k) Max (value_or_zero (least_name p.name k))) (knows g (least_name p.name k) z) ≡ knows (knows g (least_name p.name k) z) (place_name p.name k) (picked Max (z ∷ pos 0 ∷ []))
      unfolding after_plain
      max_after k g z w =
          let g1 = knows g (least_name p.name k) z in
          ap (λ zs. knows g1 (place_name p.name k) (picked Max zs)) (zero_results g1 (least_name p.name k) ∙ ap (λ x. x ∷ pos 0 ∷ []) (two_known p.name k g z z))

      place_by : (b : Bool) (k : ℕ) (d : Dimension) (ts : List (Name × ℤ)) (rest : Nest) (g : Env)
          → K rest (if b
          then knows (knows g (least_name p.name k) (int_min (form_number g ts d.offset) (last_place d))) (place_name p.name k) (clamp d (form_number g ts d.offset))
          else knows g (place_name p.name k) (form_number g ts d.offset))
          → K (if b
          then Does 0 (Value (least_name p.name k) Min (over_terms ts (form ts d.offset ∷ Const (last_place d) ∷ []))) (Does 0 (Value (place_name p.name k) Max (value_or_zero (least_name p.name k))) rest)
          else Does 0 (Value (place_name p.name k) Apply (over_terms ts (form ts d.offset ∷ []))) rest) g
      place_by true k d ts rest g h =
          let z = int_min (form_number g ts d.offset) (last_place d) in
          skips.does _ _ g tt
          (subst (λ g1. K (Does 0 (Value (place_name p.name k) Max (value_or_zero (least_name p.name k))) rest) g1) (sym (min_after k d ts g))
          (skips.does _ rest (knows g (least_name p.name k) z) tt (subst (K rest) (sym (max_after k g z z)) h)))
      place_by false k d ts rest g h = skips.does _ rest g tt (subst (K rest) (sym (apply_after k d ts g)) h)

      place_skips : (k : ℕ) (d : Dimension) (ts : List (Name × ℤ)) (rest : Nest) (g : Env) → K rest (statement_env p.name k d ts g) → K (place_statement p.name k d ts rest) g
      place_skips k d [] rest g h = h
      place_skips k d (t ∷ ts) rest g h = place_by d.clamped k d (t ∷ ts) rest g h

      places_skip : (k : ℕ) (ds : List Dimension) (rest : Nest) (g : Env) → K rest (places_env p.name k ds g) → K (places_from p.name k ds rest) g
      places_skip k [] rest g h = h
      places_skip k (d ∷ ds) rest g h = place_skips k d d.terms (places_from p.name (suc k) ds rest) g (places_skip (suc k) ds rest (statement_env p.name k d d.terms g) h)

      -- ---- constants, allocations
      chunks_skip : (chunks : Option (ℕ × ℕ)) (rest : Nest) (g : Env) → K rest (chunk_env p chunks g) → K (chunk_constants p chunks rest) g
      unfolding after_plain
      chunks_skip None rest g h = h
      chunks_skip (Some two) rest g h = skips.does _ _ g tt (skips.does _ rest _ tt h)

      constants_skip : (how : How) (rest : Nest) (g : Env) → K rest (constants_env p how g) → K (constants p how rest) g
      unfolding after_plain
      constants_skip Copies rest g h = h
      constants_skip (Transfers chunks) rest g h = skips.does _ _ g tt (chunks_skip chunks rest (knows g (count_name p.name) (pos (product (dim_extents p.dims)))) h)

      allocs_skip : (how : How) (rest : Nest) (g : Env) → K rest (allocs_env p how g) → K (allocs p how rest) g
      unfolding after_plain
      allocs_skip Copies rest g h = skips.does (Alloc (fast_name p.name) (fast_type p)) rest g tt h
      allocs_skip (Transfers chunks) rest g h = skips.does (Alloc (fast_name p.name) (fast_type p)) _ g tt (skips.does (Alloc (tag_name p.name) tag_type) rest _ tt h)

      deallocs_skip : (how : How) (rest : Nest) (g : Env) → K rest g → K (deallocs p how rest) g
      unfolding after_plain
      deallocs_skip Copies rest g h = skips.does (Dealloc (fast_name p.name) (fast_type p)) rest g tt h
      deallocs_skip (Transfers chunks) rest g h = skips.does (Dealloc (fast_name p.name) (fast_type p)) _ g tt (skips.does (Dealloc (tag_name p.name) tag_type) rest _ tt h)

      -- ---- copies
      loops_made : (turn : ℕ → Name) (d : ℕ) (ds : List Dimension) (inner : Nest) → IsMade inner → IsMade (loops turn d ds inner)
      loops_made turn d [] inner h = h
      loops_made turn d (dim ∷ ds) inner h = tt

      loops_spare : (turn : ℕ → Name) (d : ℕ) (ds : List Dimension) (inner : Nest) → SparesIn inner → SparesIn (loops turn d ds inner)
      loops_spare turn d [] inner h = h
      loops_spare turn d (dim ∷ ds) inner h = (loops_spare turn (suc d) ds inner h, tt)

      read_made : (how : How) → IsMade (read_in p how)
      read_made Copies = loops_made _ 0 p.dims _ tt
      read_made (Transfers chunks) = tt

      write_made : (how : How) → IsMade (write_out p how)
      write_made Copies = loops_made _ 0 p.dims _ tt
      write_made (Transfers chunks) = tt

      read_spares : (how : How) → SparesIn (read_in p how)
      read_spares Copies = loops_spare _ 0 p.dims _ (other, (fast, tt))
      read_spares (Transfers chunks) = (tt, (tt, tt))

      write_spares : (how : How) → SparesIn (write_out p how)
      write_spares Copies = loops_spare _ 0 p.dims _ (fast, (other, tt))
      write_spares (Transfers chunks) = (tt, (tt, tt))

      so_skips : (b : Bool) (part rest : Nest) (g : Env) → IsMade part → SparesIn part → K rest (so_env b part g) → K (where_so p b part rest) g
      so_skips true part rest g h s k = followed_skips part rest g h s k
      so_skips false part rest g h s k = k

      -- ---- the template
      pub before_skips : (rest : Nest) (g : Env) → K rest (so_env p.reads (read_in p p.how) (allocs_env p p.how (constants_env p p.how (places_env p.name 0 p.dims g)))) → K (before p rest) g
      before_skips rest g h =
          places_skip 0 p.dims _ g (constants_skip p.how _ (places_env p.name 0 p.dims g)
          (allocs_skip p.how _ (constants_env p p.how (places_env p.name 0 p.dims g))
          (so_skips p.reads (read_in p p.how) rest (allocs_env p p.how (constants_env p p.how (places_env p.name 0 p.dims g))) (read_made p.how) (read_spares p.how) h)))

      pub behind_skips : (rest : Nest) (g : Env) → K rest (so_env p.writes (write_out p p.how) g) → K (behind_loop p rest) g
      behind_skips rest g h = so_skips p.writes (write_out p p.how) (deallocs p p.how rest) g (write_made p.how) (write_spares p.how) (deallocs_skip p.how rest (so_env p.writes (write_out p p.how) g) h)
