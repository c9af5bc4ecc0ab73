-- The copy loops and the transfers break no rule but tested ones.
use Rattle.std.proofs.Common.{◌≡◌, ℕ, suc, ◌+◌, ◌*◌, ◌<◌, ◌≤◌, pos, List, [], ◌∷◌, ◌++◌, length, refl, sym, ap, ◌∙◌, subst, arith, Bool, true, false}
use Rattle.std.specs.Prelude.{◌&&◌, Option, Some, None, nat_eq}
use Rattle.std.specs.List.{list_all}
use Rattle.std.proofs.lemmas.Bool.{eq-eqb}
use Rattle.std.proofs.lemmas.Int.{ints}
use Rattle.std.proofs.lemmas.List.{length-append}
use Rattle.affine_expr.specs.declared.expr.Expr.{Const}
use Rattle.affine_expr.specs.Spread.{Range}
use Rattle.affine_ast.specs.declared.name.Name.{Name}
use Rattle.affine_ast.specs.declared.types.Access.{Access}
use Rattle.affine_ast.specs.declared.types.Bound.TheVariants as bound
use Rattle.affine_ast.specs.declared.types.MemrefType.{MemrefType}
use Rattle.affine_ast.specs.declared.types.Scalar.TheVariants.{Int}
use Rattle.affine_ast.specs.Names.{put}
use Rattle.affine_ast.proofs.Names.{put-same, same_name-refl}
use Rattle.affine_ast.specs.Nest.{Plain, Nest, Nothing, Does, Load, Store, Start, Wait, followed_by}
use Rattle.affine_ast.specs.Scope.{Binding, Variable, Data, Allocation, Scope, Around, with_totals, counted, in_loop, behind_plain}
use Rattle.affine_ast.specs.Sizes.{product, element_bits}
use Rattle.affine_ast.specs.Rules.{are_in, are_values, are_stride_and_chunk, is_count, is_dimension, may_be_dimension, is_loadable, bound_bounded, text_within, same_element}
use Rattle.affine_ast.specs.Validity.{rule_of_plain, rule_of_loop, told}
use Rattle.placement_texts.specs.Own.{MadeNames}
use Rattle.placement_texts.specs.Template.{Dimension, How, Copies, Transfers, Placement, dim_sizes, dim_extents, slow_type, fast_type, tag_type, fast_name, tag_name, count_name, stride_name, chunk_name, Begin, Fixed, Named, named, begins_from, begins, turn_names, turn_places, turn_dims, place_exprs, zeros, slow_at_turns, fast_at_turns, slow_at_places, fast_at_zeros, tag_at_zero, loops, stride_of, read_in, write_out}
use Rattle.placement_texts.specs.Tests.{OnlyTested, BreaksOnlyTested, Argued, ChunksWell, NumbersWell}
use Rattle.placement_texts.proofs.ScopedTexts.{judged_only, then_only, rules_of_loop}
use Rattle.placement_texts.proofs.ScopedRedirect.{all_both}
use Rattle.placement_texts.proofs.ScopedAccess.{AreVariables, same_rank}
use Rattle.placement_texts.proofs.BlockForms.{sound_turns, sound_turn_places, sound_places, sound_zeros, sound_zero, length_turns, length_turn_dims, length_turn_places, length_places, length_zeros, access_holds}
use Rattle.placement_texts.proofs.BlockStatements.{new_here, MemrefHolds, allocation_holds, argument_holds, NumberHolds, number_holds, SubscriptsHold, subscripts_hold, load_made, store_made, EndsHold, StrideHolds, start_only, wait_only}
use Rattle.placement_texts.proofs.BlockFront.{does_only, Keeps, put_keeps, variables_kept, Laying, lay_fewer, lay_name, ChunksKnown, NumbersKnown, numbers_kept, TagKnown, tag_kept}

variables_stand : (s : Scope) (bs : List Begin) → AreVariables s bs → list_all (is_dimension s) (named bs) ≡ true
unfolding is_dimension
variables_stand s [] h = refl
variables_stand s (Fixed z ∷ bs) h = variables_stand s bs h
variables_stand s (Named n ∷ bs) h = λ i. may_be_dimension (h.1 i) && variables_stand s bs h.2 i

module _ (own : Name → Bool) (p : Placement) (names : MadeNames own p.name) where
  rank_from : (k : ℕ) (ds : List Dimension) → length (begins_from p.name k ds) ≡ length (dim_sizes ds)
  rank_from k [] = refl
  rank_from k (d ∷ ds) = ap suc (rank_from (suc k) ds)

  rank : length (begins p) ≡ length (dim_sizes p.dims)
  rank = rank_from 0 p.dims

  -- from the allocations on
  pub record Built (F : ℕ → Type 0) (a : Around) (s : Scope) (r : Name → Bool) : Type 0 where
    pub laying : Laying own p names F a s r
    pub fast : s (fast_name p.name) ≡ Some (Allocation (fast_type p))
    pub places : AreVariables s (begins p)
    pub numbers : NumbersKnown own p names p.how s
    pub tag : TagKnown own p names p.how s

  pub built_fewer : (F G : ℕ → Type 0) (a : Around) (s : Scope) (r : Name → Bool) → ((i : ℕ) → G i → F i) → Built F a s r → Built G a s r
  built_fewer F G a s r h b = record { laying = lay_fewer own p names F G a s r h b.laying; fast = b.fast; places = b.places; numbers = b.numbers; tag = b.tag }

  built_name : (F G : ℕ → Type 0) (a : Around) (s : Scope) (r : Name → Bool) (j : ℕ) (x : Option Binding) → F j → ((i : ℕ) → G i → F i × (j ≡ i → ⊥)) → Built F a s r → Built G a (put s (p.name j) x) r
  built_name F G a s r j x f h b =
      let kept : Keeps s (put s (p.name j) x) = put_keeps s (p.name j) x (b.laying.free j f) in
      record {
        laying = lay_name own p names F G a s r j x h b.laying;
        fast = kept _ _ b.fast;
        places = variables_kept s _ (begins p) kept b.places;
        numbers = numbers_kept own p names p.how s _ kept b.numbers;
        tag = tag_kept own p names p.how s _ kept b.tag;
      }

  -- ---- memrefs
  module _ (own_memref : own p.memref ≡ true) (F : ℕ → Type 0) (a b : Around) (argued : Argued p a) (built : Built F a b.scope b.released) where
    slow_holds : MemrefHolds b p.memref (slow_type p)
    slow_holds = argument_holds b p.memref (slow_type p) (built.laying.same p.memref own_memref ∙ argued.scope) (built.laying.same_released p.memref own_memref ∙ argued.live)

    fast_holds : MemrefHolds b (fast_name p.name) (fast_type p)
    fast_holds = allocation_holds b (fast_name p.name) (fast_type p) built.fast (built.laying.live 0)

    places_at : SubscriptsHold b.scope (slow_at_places (begins p)) (slow_type p)
    places_at = subscripts_hold b.scope (slow_at_places (begins p)) (slow_type p)
        (access_holds b.scope (length (named (begins p))) (place_exprs 0 (begins p)) (named (begins p)) refl (sound_places (length (named (begins p))) 0 (begins p) (omega arith)) (variables_stand b.scope (begins p) built.places))
        (length_places 0 (begins p) ∙ rank)

    zeros_at : SubscriptsHold b.scope (fast_at_zeros (begins p)) (fast_type p)
    zeros_at = subscripts_hold b.scope (fast_at_zeros (begins p)) (fast_type p)
        (access_holds b.scope 0 (Const (pos 0) ∷ zeros (begins p)) [] refl (sound_zero 0, sound_zeros 0 (begins p)) refl)
        (ap suc (length_zeros (begins p) ∙ rank ∙ sym (same_rank p.dims)))

    tag_at : SubscriptsHold b.scope tag_at_zero tag_type
    tag_at = subscripts_hold b.scope tag_at_zero tag_type (access_holds b.scope 0 (Const (pos 0) ∷ []) [] refl (sound_zero 0, tt) refl) refl

    -- ---- transfers
    module _ (chunks : Option (ℕ × ℕ)) (known : NumbersKnown own p names (Transfers chunks) b.scope) (tag : TagKnown own p names (Transfers chunks) b.scope) (least : 1 ≤ product (dim_extents p.dims)) (well : ChunksWell (Transfers chunks)) where
      count_least : is_count (Some (pos (product (dim_extents p.dims)))) ≡ true
      count_least = grind (arith, ints, least)

      tag_holds : MemrefHolds b (tag_name p.name) tag_type
      tag_holds = allocation_holds b (tag_name p.name) tag_type tag (built.laying.live 1)

      same_elements : same_element p.element p.element ≡ true
      same_elements = eq-eqb (element_bits p.element) (element_bits p.element) refl

      count_holds : NumberHolds b.scope (count_name p.name) (pos (product (dim_extents p.dims)))
      count_holds = number_holds b.scope (count_name p.name) _ known.0

      pub in_ends : EndsHold b p.memref (fast_name p.name) (tag_name p.name) (count_name p.name) (slow_at_places (begins p)) (fast_at_zeros (begins p)) tag_at_zero (slow_type p) (fast_type p) tag_type (pos (product (dim_extents p.dims)))
      in_ends = record { from = slow_holds; to = fast_holds; tag = tag_holds; from_at = places_at; to_at = zeros_at; tag_at = tag_at; elements = same_elements; spaces = refl; number = count_holds; least = count_least }

      pub out_ends : EndsHold b (fast_name p.name) p.memref (tag_name p.name) (count_name p.name) (fast_at_zeros (begins p)) (slow_at_places (begins p)) tag_at_zero (fast_type p) (slow_type p) tag_type (pos (product (dim_extents p.dims)))
      out_ends = record { from = fast_holds; to = slow_holds; tag = tag_holds; from_at = zeros_at; to_at = places_at; tag_at = tag_at; elements = same_elements; spaces = refl; number = count_holds; least = count_least }

      pub wait_holds : (rest : Nest) → OnlyTested (rule_of_plain b (Wait (tag_name p.name) tag_at_zero (count_name p.name) tag_type) rest)
      wait_holds rest = wait_only b (tag_name p.name) (count_name p.name) tag_at_zero tag_type _ rest tag_holds tag_at refl count_holds count_least

  well_chunks : (two : ℕ × ℕ) → ChunksWell (Transfers (Some two)) → are_stride_and_chunk (Some (pos two.0)) (Some (pos two.1)) ≡ true
  well_chunks two w = let x = w.0 in let y = w.1 in let z = w.2 in grind (arith, ints, x, y, z)

  pub strides : (b : Around) (chunks : Option (ℕ × ℕ)) → ChunksKnown own p names chunks b.scope → ChunksWell (Transfers chunks) → StrideHolds b (stride_of p chunks)
  unfolding are_in are_values
  strides b None k w = record { here = refl; values = refl; well = refl }
  strides b (Some two) k w =
      let x = number_holds b.scope (stride_name p.name) _ k.0 in
      let y = number_holds b.scope (chunk_name p.name) _ k.1 in
      record {
        here = λ i. x.here i && (y.here i && true);
        values = λ i. x.value i && (y.value i && true);
        well = (λ i. are_stride_and_chunk (x.number i) (y.number i)) ∙ well_chunks two w;
      }

  -- ---- copy loops, whose variables are the names numbered c, c + 4, c + 8 ..
  module _ (c v : ℕ) where
    abbrev pub turn : ℕ → Name
    turn e = p.name (c + 4 * e)

    abbrev pub TurnsBound : ℕ → Scope → Type 0
    TurnsBound k s = (e : ℕ) → e < k → (r : Range) × (s (turn e) ≡ Some (Variable r))

    abbrev pub Turning : (ℕ → Type 0) → ℕ → ℕ → Type 0
    Turning F k i = F i × ((e : ℕ) → e < k → c + 4 * e ≡ i → ⊥)

    bound_one : (k : ℕ) (s : Scope) (r : Range) → s (turn k) ≡ None → TurnsBound k s → TurnsBound (suc k) (put s (turn k) (Some (Variable r)))
    bound_one k s r free h e less = by (nat_eq e k) refl
      where
        by : (t : Bool) → nat_eq e k ≡ t → (r' : Range) × (put s (turn k) (Some (Variable r)) (turn e) ≡ Some (Variable r'))
        by true is =
            let same : e ≡ k = grind (arith, is) in
            (r, ap (λ x. put s (turn k) (Some (Variable r)) (turn x)) same ∙ put-same s (turn k) _ (turn k) (same_name-refl (turn k)))
        by false is =
            let lower : e < k = grind (arith, is, less) in
            let old = h e lower in
            (old.0, put_keeps s (turn k) _ free (turn e) _ old.1)

    turns_stand : (s : Scope) (d : ℕ) (bs : List Begin) → TurnsBound (d + length bs) s → list_all (is_dimension s) (turn_names turn d bs) ≡ true
    unfolding is_dimension
    turns_stand s d [] h = refl
    turns_stand s d (b ∷ bs) h =
        let one = h d (omega arith) in
        λ i. may_be_dimension (one.1 i) && turns_stand s (suc d) bs (λ e less. h e (omega (arith, less))) i

    loop_only : (b : Around) (k : ℕ) (extent : ℕ) → b.scope (turn k) ≡ None → OnlyTested (rule_of_loop b (turn k) (bound.Int (pos 0)) (bound.Int (pos extent)) (pos 1))
    unfolding rule_of_loop
    loop_only b k extent free = rules_of_loop _ _ _ _ _ (bound_bounded b.scope (bound.Int (pos 0)) && bound_bounded b.scope (bound.Int (pos extent))) (text_within b) refl (new_here b.scope (turn k) free) refl refl refl

    module _ (F : ℕ → Type 0) (value_free : F v) (turns_free : (e : ℕ) → F (c + 4 * e)) (apart : (e : ℕ) → c + 4 * e ≡ v → ⊥) (a : Around) where
      loops_only : (k : ℕ) (ds : List Dimension) (n : ℕ) → k + length ds ≡ n → (inner : Nest) (b : Around) → Built (Turning F k) a b.scope b.released → TurnsBound k b.scope
          → ((b' : Around) → Built (Turning F n) a b'.scope b'.released → TurnsBound n b'.scope → BreaksOnlyTested (told inner b')) → BreaksOnlyTested (told (loops turn k ds inner) b)
      unfolding told
      loops_only k [] n is inner b h t f =
          let e : k ≡ n = omega (arith, is) in
          f b (subst (λ m. Built (Turning F m) a b.scope b.released) e h) (subst (λ m. TurnsBound m b.scope) e t)
      loops_only k (d ∷ ds) n is inner b h t f =
          let here : Turning F k (c + 4 * k) = (turns_free k, λ e less same. omega (arith, less, same)) in
          let free : b.scope (turn k) ≡ None = h.laying.free (c + 4 * k) here in
          let b1 = in_loop (turn k) (bound.Int (pos 0)) (bound.Int (pos d.extent)) (counted b) in
          judged_only 0 (rule_of_loop (counted b) (turn k) (bound.Int (pos 0)) (bound.Int (pos d.extent)) (pos 1)) _ (loop_only (counted b) k d.extent free)
          (then_only (told (loops turn (suc k) ds inner) b1) (λ t. told Nothing (with_totals t b))
          (loops_only (suc k) ds n (omega (arith, is)) inner b1
          (built_name (Turning F k) (Turning F (suc k)) a b.scope b.released (c + 4 * k) _ here (λ i g. ((g.0, λ e less. g.1 e (omega (arith, less))), g.1 k (omega arith))) h)
          (bound_one k b.scope _ free t) f)
          (λ x. tt))

      -- one element: the value is loaded and stored
      module _ (m m' : Name) (at at' : Access) (ty ty' : MemrefType) (elements : ty.element ≡ ty'.element) (loads : is_loadable ty ≡ true) (stores : is_loadable ty' ≡ true)
          (n : ℕ) (is : length p.dims ≡ n)
          (from : (G : ℕ → Type 0) (b : Around) → Built G a b.scope b.released → TurnsBound n b.scope → SubscriptsHold b.scope at ty × MemrefHolds b m ty)
          (to : (G : ℕ → Type 0) (b : Around) → Built G a b.scope b.released → TurnsBound n b.scope → SubscriptsHold b.scope at' ty' × MemrefHolds b m' ty') where
        abbrev Less : ℕ → Type 0
        Less i = F i × (v ≡ i → ⊥)

        abbrev q1 : Plain
        q1 = Load (p.name v) m at ty

        abbrev q2 : Plain
        q2 = Store (p.name v) m' at' ty'

        element_only : (rest : Nest) (b : Around) → Built (Turning F n) a b.scope b.released → TurnsBound n b.scope → (Built (λ i. Turning F n i × (v ≡ i → ⊥)) a (put b.scope (p.name v) (Some (Data (Int ty.element)))) b.released
            → BreaksOnlyTested (told rest (behind_plain q2 (counted (behind_plain q1 (counted b)))))) → BreaksOnlyTested (told (Does 0 q1 (Does 0 q2 rest)) b)
        element_only rest b h t f =
            let here : Turning F n v = (value_free, λ e less same. apart e same) in
            let free : b.scope (p.name v) ≡ None = h.laying.free v here in
            let s1 = put b.scope (p.name v) (Some (Data (Int ty.element))) in
            let b1 = behind_plain q1 (counted b) in
            let kept : Keeps b.scope s1 = put_keeps b.scope (p.name v) _ free in
            let h1 = built_name (Turning F n) (λ i. Turning F n i × (v ≡ i → ⊥)) a b.scope b.released v (Some (Data (Int ty.element))) here (λ i g. g) h in
            let x = from (Turning F n) (counted b) h t in
            let y = to (λ i. Turning F n i × (v ≡ i → ⊥)) (counted b1) h1 (λ e less. ((t e less).0, kept _ _ (t e less).1)) in
            let is_value : s1 (p.name v) ≡ Some (Data (Int ty'.element)) = put-same b.scope (p.name v) _ (p.name v) (same_name-refl (p.name v)) ∙ ap (λ e. Some (Data (Int e))) elements in
            does_only q1 (Does 0 q2 rest) b (load_made (counted b) (p.name v) m at ty (Does 0 q2 rest) x.0 x.1 loads free)
            (does_only q2 rest b1 (store_made (counted b1) (p.name v) m' at' ty' rest y.0 y.1 stores is_value)
            (f h1))

        pub copies_only : (ds : List Dimension) → length ds ≡ n → (rest : Nest) (b : Around) → Built F a b.scope b.released → ((b' : Around) → Built Less a b'.scope b'.released → BreaksOnlyTested (told rest b'))
            → BreaksOnlyTested (told (followed_by (loops turn 0 ds (Does 0 q1 (Does 0 q2 Nothing))) rest) b)
        unfolding told
        copies_only [] long rest b h f =
            let none : n ≡ 0 = omega (arith, long) in
            let some : (e : ℕ) → e < n → ⊥ = λ e less. omega (arith, less, none) in
            element_only rest b (built_fewer F (Turning F n) a b.scope b.released (λ i g. g.0) h) (λ e less. absurd (some e less))
            (λ h1. f (behind_plain q2 (counted (behind_plain q1 (counted b)))) (built_fewer (λ i. Turning F n i × (v ≡ i → ⊥)) Less a (put b.scope (p.name v) (Some (Data (Int ty.element)))) b.released (λ i g. ((g.0, λ e less same. some e less), g.1)) h1))
        copies_only (d ∷ ds) long rest b h f =
            let here : Turning F 0 (c + 4 * 0) = (turns_free 0, λ e less same. omega (arith, less)) in
            let h0 = built_fewer F (Turning F 0) a b.scope b.released (λ i g. g.0) h in
            let free : b.scope (turn 0) ≡ None = h0.laying.free (c + 4 * 0) here in
            let none : TurnsBound 0 b.scope = λ e less. absurd (omega (arith, less)) in
            let inner = Does 0 q1 (Does 0 q2 Nothing) in
            let b1 = in_loop (turn 0) (bound.Int (pos 0)) (bound.Int (pos d.extent)) (counted b) in
            judged_only 0 (rule_of_loop (counted b) (turn 0) (bound.Int (pos 0)) (bound.Int (pos d.extent)) (pos 1)) _ (loop_only (counted b) 0 d.extent free)
            (then_only (told (loops turn 1 ds inner) b1) (λ t. told rest (with_totals t b))
            (loops_only 1 ds n (omega (arith, long)) inner b1
            (built_name (Turning F 0) (Turning F 1) a b.scope b.released (c + 4 * 0) _ here (λ i g. ((g.0, λ e less same. omega (arith, less)), g.1 0 (omega arith))) h0)
            (bound_one 0 b.scope _ free none)
            (λ b' h' t'. element_only Nothing b' h' t' (λ h1. tt)))
            (λ x. f (with_totals x b) (built_fewer F Less a b.scope b.released (λ i g. g.0) h)))

    -- the accesses of copy loops
    module _ (own_memref : own p.memref ≡ true) (F : ℕ → Type 0) (a b : Around) (argued : Argued p a) (built : Built F a b.scope b.released) (t : TurnsBound (length p.dims) b.scope) where
      many : length (begins p) ≡ length p.dims
      many = rank ∙ sizes p.dims
        where
          sizes : (ds : List Dimension) → length (dim_sizes ds) ≡ length ds
          sizes [] = refl
          sizes (d ∷ ds) = ap suc (sizes ds)

      turned : list_all (is_dimension b.scope) (turn_names turn 0 (begins p)) ≡ true
      turned = turns_stand b.scope 0 (begins p) (let m = many in λ e less. t e (omega (arith, less, m)))

      pub slow_turns : SubscriptsHold b.scope (slow_at_turns turn (begins p)) (slow_type p) × MemrefHolds b p.memref (slow_type p)
      slow_turns =
          let n = length (begins p) + length (named (begins p)) in (
            subscripts_hold b.scope (slow_at_turns turn (begins p)) (slow_type p)
                (access_holds b.scope n (turn_places 0 (length (begins p)) (begins p)) (turn_names turn 0 (begins p) ++ named (begins p))
                (length-append (turn_names turn 0 (begins p)) (named (begins p)) ∙ ap (λ l. l + length (named (begins p))) (length_turns turn 0 (begins p)))
                (sound_turn_places n 0 (length (begins p)) (begins p) (omega arith) (omega arith))
                (all_both (is_dimension b.scope) (turn_names turn 0 (begins p)) (named (begins p)) turned (variables_stand b.scope (begins p) built.places)))
                (length_turn_places 0 (length (begins p)) (begins p) ∙ rank),
            slow_holds own_memref F a b argued built,
          )

      pub fast_turns : SubscriptsHold b.scope (fast_at_turns turn (begins p)) (fast_type p) × MemrefHolds b (fast_name p.name) (fast_type p)
      fast_turns = (
        subscripts_hold b.scope (fast_at_turns turn (begins p)) (fast_type p)
            (access_holds b.scope (length (begins p)) (Const (pos 0) ∷ turn_dims 0 (begins p)) (turn_names turn 0 (begins p)) (length_turns turn 0 (begins p))
            (sound_zero (length (begins p)), sound_turns (length (begins p)) 0 (begins p) (omega arith)) turned)
            (ap suc (length_turn_dims 0 (begins p) ∙ rank ∙ sym (same_rank p.dims))),
        fast_holds own_memref F a b argued built,
      )

  -- ---- in and out
  module _ (own_memref : own p.memref ≡ true) (F : ℕ → Type 0) (a : Around) (argued : Argued p a) (well : NumbersWell p) where
    pub read_only : (how : How) → ChunksWell how → F 5 → ((e : ℕ) → F (9 + 4 * e)) → (rest : Nest) (b : Around) → Built F a b.scope b.released → NumbersKnown own p names how b.scope → TagKnown own p names how b.scope
        → ((b' : Around) → Built (λ i. F i × (5 ≡ i → ⊥)) a b'.scope b'.released → BreaksOnlyTested (told rest b')) → BreaksOnlyTested (told (followed_by (read_in p how) rest) b)
    read_only Copies w value turns rest b h k t f =
        copies_only 9 5 F value turns (λ e same. omega (arith, same)) a p.memref (fast_name p.name) (slow_at_turns (turn 9 5) (begins p)) (fast_at_turns (turn 9 5) (begins p)) (slow_type p) (fast_type p) refl refl refl (length p.dims) refl
        (λ G b' h' t'. slow_turns 9 5 own_memref G a b' argued h' t') (λ G b' h' t'. fast_turns 9 5 own_memref G a b' argued h' t') p.dims refl rest b h f
    read_only (Transfers chunks) w value turns rest b h k t f =
        let q1 = Start p.memref (slow_at_places (begins p)) (fast_name p.name) (fast_at_zeros (begins p)) (tag_name p.name) tag_at_zero (count_name p.name) (stride_of p chunks) (slow_type p ∷ fast_type p ∷ tag_type ∷ []) in
        let q2 = Wait (tag_name p.name) tag_at_zero (count_name p.name) tag_type in
        let b1 = behind_plain q1 (counted b) in
        does_only q1 (Does 0 q2 rest) b
        (start_only (counted b) p.memref (fast_name p.name) (tag_name p.name) (count_name p.name) _ _ _ _ _ _ _ (stride_of p chunks) _ (in_ends own_memref F a (counted b) argued h chunks k t well.least w) (strides (counted b) chunks k.1 w))
        (does_only q2 rest b1 (wait_holds own_memref F a (counted b1) argued h chunks k t well.least w rest)
        (f (behind_plain q2 (counted b1)) (built_fewer F (λ i. F i × (5 ≡ i → ⊥)) a b.scope b.released (λ i g. g.0) h)))

    pub write_only : (how : How) → ChunksWell how → F 6 → ((e : ℕ) → F (10 + 4 * e)) → (rest : Nest) (b : Around) → Built F a b.scope b.released → NumbersKnown own p names how b.scope → TagKnown own p names how b.scope
        → ((b' : Around) → Built (λ i. F i × (6 ≡ i → ⊥)) a b'.scope b'.released → BreaksOnlyTested (told rest b')) → BreaksOnlyTested (told (followed_by (write_out p how) rest) b)
    write_only Copies w value turns rest b h k t f =
        copies_only 10 6 F value turns (λ e same. omega (arith, same)) a (fast_name p.name) p.memref (fast_at_turns (turn 10 6) (begins p)) (slow_at_turns (turn 10 6) (begins p)) (fast_type p) (slow_type p) refl refl refl (length p.dims) refl
        (λ G b' h' t'. fast_turns 10 6 own_memref G a b' argued h' t') (λ G b' h' t'. slow_turns 10 6 own_memref G a b' argued h' t') p.dims refl rest b h f
    write_only (Transfers chunks) w value turns rest b h k t f =
        let q1 = Start (fast_name p.name) (fast_at_zeros (begins p)) p.memref (slow_at_places (begins p)) (tag_name p.name) tag_at_zero (count_name p.name) (stride_of p chunks) (fast_type p ∷ slow_type p ∷ tag_type ∷ []) in
        let q2 = Wait (tag_name p.name) tag_at_zero (count_name p.name) tag_type in
        let b1 = behind_plain q1 (counted b) in
        does_only q1 (Does 0 q2 rest) b
        (start_only (counted b) (fast_name p.name) p.memref (tag_name p.name) (count_name p.name) _ _ _ _ _ _ _ (stride_of p chunks) _ (out_ends own_memref F a (counted b) argued h chunks k t well.least w) (strides (counted b) chunks k.1 w))
        (does_only q2 rest b1 (wait_holds own_memref F a (counted b1) argued h chunks k t well.least w rest)
        (f (behind_plain q2 (counted b1)) (built_fewer F (λ i. F i × (6 ≡ i → ⊥)) a b.scope b.released (λ i g. g.0) h)))
