-- A loop with the template round it keeps to the rule on intervals.
use Rattle.std.proofs.Common.{◌≡◌, ℕ, ◌+◌, ◌*◌, ℤ, Bool, true, false, List, [], ◌∷◌, refl, ◌∙◌, arith}
use Rattle.std.specs.Prelude.{◌&&◌, Option, Some, None}
use Rattle.std.proofs.lemmas.Bool.{and_parts}
use Rattle.affine_expr.specs.Spread.{Range}
use Rattle.affine_ast.specs.declared.name.Name.{Name}
use Rattle.affine_ast.specs.declared.types.Bound.{Bound}
use Rattle.affine_ast.specs.Nest.{Nest, Nothing, Loop, Branch, Does, Load, Store, followed_by}
use Rattle.affine_ast.specs.Rules.{bound_bounded}
use Rattle.affine_ast.specs.Scope.{Scope}
use Rattle.placement_texts.specs.Mapped.{mapped}
use Rattle.placement_texts.specs.Own.{OwnNest, MadeNames}
use Rattle.placement_texts.specs.Regions.{OwnDims}
use Rattle.placement_texts.specs.Template.{Dimension, How, Copies, Transfers, Placement, fast_name, in_value, out_value, in_turn, out_turn, begins, slow_at_turns, fast_at_turns, slow_type, fast_type, loops, copy_in, copy_out, wait, start_in, start_out, chunk_constants, constants, allocs, deallocs, read_in, write_out, where_so, behind_loop, redirect, staged_loop}
use Rattle.placement_texts.specs.Tests.{behind_scope, loop_scope}
use Rattle.plan_laws.specs.Limits.{bounded_in}
use Rattle.placed_intervals.specs.Fits.{CopiesFit, Sized, LoopFits}
use Rattle.placed_intervals.proofs.Scopes.{Agree, bound_same, text_same, loop_agrees}
use Rattle.placed_intervals.proofs.Front.{Changes, changes_then, changes_put, changes_own, Begun, Later, places_along, begun_along, places_bounded}
use Rattle.placed_intervals.proofs.Copies.{From, turned_along, loops_bounded, fast_bounded, slow_bounded, places_access, zeros_access}
use Rattle.placed_intervals.proofs.Redirects.{body_bounded, begins_made, made_put}

-- what is in scope behind statements
abbrev pub scope_after : Nest → Scope → Scope
scope_after Nothing s = s
scope_after (Loop line v l u step body rest) s = scope_after rest s
scope_after (Branch line set ns first has other rest) s = scope_after rest s
scope_after (Does line q rest) s = scope_after rest (behind_scope q s)

followed_bounded : (part rest : Nest) (s : Scope) → bounded_in part s ≡ true → bounded_in rest (scope_after part s) ≡ true → bounded_in (followed_by part rest) s ≡ true
followed_bounded Nothing rest s h k = k
followed_bounded (Loop line v l u step body more) rest s h k =
    let w = and_parts (bound_bounded s l && bound_bounded s u) _ h in
    let x = and_parts (bounded_in body (loop_scope v l u s)) (bounded_in more s) w.1 in
    λ i. w.0 i && (x.0 i && followed_bounded more rest s x.1 k i)
followed_bounded (Branch line set ns first has other more) rest s h k =
    let w = and_parts _ _ h in
    let x = and_parts (bounded_in first s) _ w.1 in
    let y = and_parts (bounded_in other s) (bounded_in more s) x.1 in
    λ i. w.0 i && (x.0 i && (y.0 i && followed_bounded more rest s y.1 k i))
followed_bounded (Does line q more) rest s h k = let w = and_parts _ (bounded_in more (behind_scope q s)) h in λ i. w.0 i && followed_bounded more rest (behind_scope q s) w.1 k i

-- numbers of names that say no place
abbrev pub NoPlace : ℕ → Type 0
NoPlace i = (d : ℕ) → i ≡ 7 + 4 * d → ⊥

pub loops_beside : (name : ℕ → Name) (turn : ℕ → Name) (d : ℕ) (ds : List Dimension) (inner : Nest) (s : Scope) → Changes name NoPlace s (scope_after inner s) → Changes name NoPlace s (scope_after (loops turn d ds inner) s)
loops_beside name turn d [] inner s h = h
loops_beside name turn d (x ∷ ds) inner s h = λ n a. refl

module _ (own : Name → Bool) (p : Placement) (names : MadeNames own p.name) (rs : List Range) (sized : Sized p.dims) where
  abbrev Aside : Scope → Scope → Type 0
  Aside = Changes p.name NoPlace

  aside_then : (s t u : Scope) → Aside s t → Aside t u → Aside s u
  aside_then s t u = changes_then p.name NoPlace s t u

  still_begun : (s t : Scope) → Aside s t → Begun s (begins p) rs → Begun t (begins p) rs
  still_begun s t c h = begun_along own p.name names NoPlace (λ d h. h d refl) 0 p.dims rs s t c h

  -- ---- constants and allocations
  abbrev After : Nest → Scope → Type 0
  After rest s = (t : Scope) → Aside s t → bounded_in rest t ≡ true

  further : (s t : Scope) (rest : Nest) → Aside s t → After rest s → After rest t
  further s t rest c more u c' = more u (aside_then s t u c c')

  chunks_bounded : (chunks : Option (ℕ × ℕ)) (rest : Nest) (s : Scope) → After rest s → bounded_in (chunk_constants p chunks rest) s ≡ true
  chunks_bounded None rest s more = more s (λ n a. refl)
  chunks_bounded (Some two) rest s more =
      more _ (aside_then s _ _ (changes_put p.name NoPlace s 3 _ (λ d e. omega (arith, e))) (changes_put p.name NoPlace _ 4 _ (λ d e. omega (arith, e))))

  constants_bounded : (how : How) (rest : Nest) (s : Scope) → After rest s → bounded_in (constants p how rest) s ≡ true
  constants_bounded Copies rest s more = more s (λ n a. refl)
  constants_bounded (Transfers chunks) rest s more = chunks_bounded chunks rest _ (further s _ rest (changes_put p.name NoPlace s 2 _ (λ d e. omega (arith, e))) more)

  allocs_bounded : (how : How) (rest : Nest) (s : Scope) → After rest s → bounded_in (allocs p how rest) s ≡ true
  allocs_bounded Copies rest s more = more _ (changes_put p.name NoPlace s 0 _ (λ d e. omega (arith, e)))
  allocs_bounded (Transfers chunks) rest s more =
      more _ (aside_then s _ _ (changes_put p.name NoPlace s 0 _ (λ d e. omega (arith, e))) (changes_put p.name NoPlace _ 1 _ (λ d e. omega (arith, e))))

  deallocs_bounded : (how : How) (rest : Nest) (s : Scope) → bounded_in rest s ≡ true → bounded_in (deallocs p how rest) s ≡ true
  deallocs_bounded Copies rest s h = h
  deallocs_bounded (Transfers chunks) rest s h = h

  -- ---- copies
  in_apart : (a b : ℕ) → 9 + 4 * a ≡ 9 + 4 * b → a ≡ b
  in_apart a b e = omega (arith, e)

  out_apart : (a b : ℕ) → 10 + 4 * a ≡ 10 + 4 * b → a ≡ b
  out_apart a b e = omega (arith, e)

  record Part (part : Nest) (s : Scope) : Type 0 where
    bounded_ : bounded_in part s ≡ true
    aside : Aside s (scope_after part s)

  copied_in : (s : Scope) → CopiesFit Copies p.dims rs → Begun s (begins p) rs → Part (copy_in p) s
  copied_in s fit begun = record {
    bounded_ = loops_bounded own p.name names (λ d. 9 + 4 * d) in_apart 0 p.dims s inner sized (λ t c turned. let five = changes_put p.name (λ i. i ≡ 5) t 5 _ refl in
        λ i. slow_bounded own p.name names (λ d. 9 + 4 * d) in_apart t p.dims rs sized fit turned (begun_along own p.name names (From own p.name names (λ d. 9 + 4 * d) in_apart 0) (λ d w. let e = w.2 in omega (arith, e)) 0 p.dims rs s t c begun) i
        && (fast_bounded own p.name names (λ d. 9 + 4 * d) in_apart (behind_scope (Load (in_value p.name) p.memref (slow_at_turns (in_turn p.name) (begins p)) (slow_type p)) t) p.dims sized
        (turned_along own p.name names (λ d. 9 + 4 * d) in_apart (λ i. i ≡ 5) (λ e h. omega (arith, h)) t _ five 0 p.dims turned) i && true));
    aside = loops_beside p.name (in_turn p.name) 0 p.dims inner s (changes_put p.name NoPlace s 5 _ (λ d e. omega (arith, e)));
  }
    where
      inner : Nest
      inner = Does 0 (Load (in_value p.name) p.memref (slow_at_turns (in_turn p.name) (begins p)) (slow_type p)) (Does 0 (Store (in_value p.name) (fast_name p.name) (fast_at_turns (in_turn p.name) (begins p)) (fast_type p)) Nothing)

  copied_out : (s : Scope) → CopiesFit Copies p.dims rs → Begun s (begins p) rs → Part (copy_out p) s
  copied_out s fit begun = record {
    bounded_ = loops_bounded own p.name names (λ d. 10 + 4 * d) out_apart 0 p.dims s inner sized (λ t c turned.
        let t' = behind_scope (Load (out_value p.name) (fast_name p.name) (fast_at_turns (out_turn p.name) (begins p)) (fast_type p)) t in
        let six : Changes p.name (λ i. i ≡ 6) t t' = changes_put p.name (λ i. i ≡ 6) t 6 _ refl in
        let here = begun_along own p.name names (From own p.name names (λ d. 10 + 4 * d) out_apart 0) (λ d w. let e = w.2 in omega (arith, e)) 0 p.dims rs s t c begun in
        λ i. fast_bounded own p.name names (λ d. 10 + 4 * d) out_apart t p.dims sized turned i
        && (slow_bounded own p.name names (λ d. 10 + 4 * d) out_apart t' p.dims rs sized fit (turned_along own p.name names (λ d. 10 + 4 * d) out_apart (λ i. i ≡ 6) (λ e h. omega (arith, h)) t t' six 0 p.dims turned)
        (begun_along own p.name names (λ i. i ≡ 6) (λ d h. omega (arith, h)) 0 p.dims rs t t' six here) i && true));
    aside = loops_beside p.name (out_turn p.name) 0 p.dims inner s (changes_put p.name NoPlace s 6 _ (λ d e. omega (arith, e)));
  }
    where
      inner : Nest
      inner = Does 0 (Load (out_value p.name) (fast_name p.name) (fast_at_turns (out_turn p.name) (begins p)) (fast_type p)) (Does 0 (Store (out_value p.name) p.memref (slow_at_turns (out_turn p.name) (begins p)) (slow_type p)) Nothing)

  waited : (s : Scope) → bounded_in (wait p) s ≡ true
  waited s = λ i. zeros_access s [] i && true

  started_in : (chunks : Option (ℕ × ℕ)) (s : Scope) → Begun s (begins p) rs → Part (start_in p chunks) s
  started_in chunks s begun = record { bounded_ = λ i. (places_access s (begins p) rs begun i && (zeros_access s (begins p) i && zeros_access s [] i)) && waited s i; aside = λ n a. refl }

  started_out : (chunks : Option (ℕ × ℕ)) (s : Scope) → Begun s (begins p) rs → Part (start_out p chunks) s
  started_out chunks s begun = record { bounded_ = λ i. (zeros_access s (begins p) i && (places_access s (begins p) rs begun i && zeros_access s [] i)) && waited s i; aside = λ n a. refl }

  reads_in : (how : How) (s : Scope) → CopiesFit how p.dims rs → Begun s (begins p) rs → Part (read_in p how) s
  reads_in Copies s fit begun = copied_in s fit begun
  reads_in (Transfers chunks) s fit begun = started_in chunks s begun

  writes_out : (how : How) (s : Scope) → CopiesFit how p.dims rs → Begun s (begins p) rs → Part (write_out p how) s
  writes_out Copies s fit begun = copied_out s fit begun
  writes_out (Transfers chunks) s fit begun = started_out chunks s begun

  so_bounded : (b : Bool) (part rest : Nest) (s : Scope) → Part part s → After rest s → bounded_in (where_so p b part rest) s ≡ true
  so_bounded true part rest s h more = followed_bounded part rest s h.bounded_ (more (scope_after part s) h.aside)
  so_bounded false part rest s h more = more s (λ n a. refl)

  -- ---- the whole
  module _ (memref_dims : OwnDims own p.dims) where
    pub block_bounded : (line : ℕ) (v : Name) (l u : Bound) (step : ℤ) (body rest : Nest) (s t : Scope) → Agree own s t → OwnNest own (Loop line v l u step body rest) → bounded_in (Loop line v l u step body rest) s ≡ true
        → LoopFits p rs (Loop line v l u step body rest) s → bounded_in (staged_loop p (Loop line v l u step body rest) rest) t ≡ true
    block_bounded line v l u step body rest s t same o h fit =
        places_bounded own p.name names 0 p.dims rs t _ sized memref_dims (places_along own p.name names p.dims rs s t same memref_dims fit.0) (λ t1 c1 begun.
        constants_bounded p.how _ t1 (λ t2 c2. allocs_bounded p.how _ t2 (λ t3 c3.
        so_bounded p.reads (read_in p p.how) _ t3 (reads_in p.how t3 fit.1 (still_begun t2 t3 c3 (still_begun t1 t2 c2 begun))) (λ t4 c4. inside t1 c1 begun t4 (aside_then t1 t2 t4 c2 (aside_then t2 t3 t4 c3 c4))))))
      where
        agrees : (x y z : Scope) → Agree own x y → Agree own y z → Agree own x z
        agrees x y z a b n k = b n k ∙ a n k

        inside : (t1 : Scope) → Changes p.name (Later own p.name names 0) t t1 → Begun t1 (begins p) rs → (t4 : Scope) → Aside t1 t4 → bounded_in (Loop line v l u step (mapped (redirect p) body) (behind_loop p rest)) t4 ≡ true
        inside t1 c1 begun1 t4 c4 =
            let begun = still_begun t1 t4 c4 begun1 in
            let same4 : Agree own s t4 = agrees s t t4 same (agrees t t1 t4 (changes_own p.name own names (Later own p.name names 0) t t1 c1) (changes_own p.name own names NoPlace t1 t4 c4)) in
            let w = and_parts (bound_bounded s l && bound_bounded s u) _ h in
            let x = and_parts (bounded_in body (loop_scope v l u s)) (bounded_in rest s) w.1 in
            λ i. ((λ j. bound_same own s t4 same4 l o.1 j && bound_same own s t4 same4 u o.2 j) ∙ w.0) i
            && (body_bounded own p names rs body (loop_scope v l u s) (loop_scope v l u t4) (loop_agrees own s t4 same4 v l u o.1 o.2) o.3 x.0 fit.3 (begins_made own p names rs 0 p.dims rs t4 (loop_scope v l u t4) (made_put own p names rs t4 v _ o.0) begun) i
            && so_bounded p.writes (write_out p p.how) (deallocs p p.how rest) t4 (writes_out p.how t4 fit.1 begun)
            (λ t5 c5. deallocs_bounded p.how rest t5 (text_same own rest s t5 (agrees s t4 t5 same4 (changes_own p.name own names NoPlace t4 t5 c5)) o.4 ∙ x.1)) i)
