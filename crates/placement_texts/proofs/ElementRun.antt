-- A turn of the loops that copy a box: one element goes in, or out.
use Rattle.std.proofs.Common.{◌≡◌, ℕ, suc, ◌+◌, pos, List, [], ◌∷◌, ◌++◌, length, refl, sym, ap, ◌∙◌, arith, true, false, map, take, drop}
use Rattle.std.specs.Prelude.{Some, None}
use Rattle.std.proofs.lemmas.List.{length-append}
use Rattle.affine_expr.specs.declared.expr.Expr.{Const}
use Rattle.affine_expr.specs.Value.{value}
use Rattle.affine_expr.proofs.Values.{value-Const}
use Rattle.affine_ast.specs.declared.name.Name.{Name}
use Rattle.affine_ast.specs.declared.types.MemrefType.{MemrefType}
use Rattle.affine_ast.specs.Names.{same_name}
use Rattle.affine_ast.specs.Nest.{Nothing, Does, Load, Store}
use Rattle.affine_ast.proofs.Names.{same_name-refl, put-same, put-other}
use Rattle.direct_meaning.specs.Action.{SlowMemref, FastMemref, Slow, Fast, Register, Loads, Stores}
use Rattle.direct_meaning.specs.Static.{Env, forgets, number, numbers, operand_of, operand, results_of, slow_at, fast_at, place_at, place_of}
use Rattle.direct_meaning.specs.Actions.{action_of, after_plain, actions}
use Rattle.boxes.specs.Boxes.{Side}
use Rattle.placement_texts.specs.Boxes.{sizes_of, extents_of, LiesIn}
use Rattle.placement_texts.specs.Template.{Begin, Fixed, Named, named, turn_names, turn_dims, turn_places, slow_at_turns, fast_at_turns}
use Rattle.placement_texts.specs.Parts.{row_number, behind_place}
use Rattle.placement_texts.proofs.Subscripts.{begin_numbers, length_numbers, numbers_append}
use Rattle.placement_texts.proofs.PlaceRun.{take_whole, drop_whole}
use Rattle.placement_texts.proofs.Redirect.{span_places}
use Rattle.placement_texts.proofs.CopyRun.{Below, below_length, behind_below, cell_number, plus_each, plus_places, turns_env, turns_keep, turns_home, turns_known, turn_values, dim_values, length_pos}

-- the names that say places are none of the loops'
abbrev pub NamedApart : (ℕ → Name) → Name → List Begin → Type 0
NamedApart turn v [] = Unit {0}
NamedApart turn v (Fixed z ∷ bs) = NamedApart turn v bs
NamedApart turn v (Named n ∷ bs) = ((j : ℕ) → same_name (turn j) n ≡ false) × (same_name v n ≡ false) × NamedApart turn v bs

module _ (turn : ℕ → Name) (apart : (i j : ℕ) → same_name (turn i) (turn j) ≡ true → i ≡ j) (g : Env) (bs : List Begin) (spans : List Side) (order first fast : ℕ) (m f v : Name) (slow_ty fast_ty : MemrefType) where
  -- what is known before the loops
  pub record CanCopy : Type 0 where
    pub slow_home : g.home m ≡ Some (SlowMemref order first)
    pub fast_home : g.home f ≡ Some (FastMemref fast)
    pub slow_sizes : slow_ty.sizes ≡ sizes_of spans
    pub fast_sizes : fast_ty.sizes ≡ 1 ∷ extents_of spans
    pub places : begin_numbers g bs ≡ span_places spans
    pub lies : LiesIn spans
    pub rank : length bs ≡ length (extents_of spans)
    pub value_apart : (j : ℕ) → same_name v (turn j) ≡ false
    pub named_apart : NamedApart turn v bs

  -- what is known in a turn
  record InTurn (is : List ℕ) (h : Env) : Type 0 where
    home : h.home ≡ g.home
    turns : numbers h (turn_names turn 0 bs) ≡ map pos is
    names : numbers h (named bs) ≡ numbers g (named bs)

  module _ (c : CanCopy) (is : List ℕ) (b : Below (extents_of spans) is) where
    is_rank : length is ≡ length bs
    is_rank = below_length (extents_of spans) is b ∙ sym c.rank

    slow_results : (h : Env) → InTurn is h → results_of h (slow_at_turns turn bs) ≡ map pos (behind_place spans is)
    unfolding results_of
    slow_results h t =
        let all : numbers h (turn_names turn 0 bs ++ named bs) ≡ map pos is ++ numbers g (named bs) = numbers_append h (turn_names turn 0 bs) (named bs) ∙ (λ i. t.turns i ++ t.names i) in
        let count : length (map pos is ++ numbers g (named bs)) ≡ length bs + length (named bs) =
        (let a = length-append (map pos is) (numbers g (named bs)) in let b = length_pos is in let c = length_numbers g (named bs) in omega (arith, a, b, c, is_rank)) in
        (λ i. map (value (take (length bs + length (named bs)) (all i)) (drop (length bs + length (named bs)) (all i))) (turn_places 0 (length bs) bs))
        ∙ (λ i. map (value (take_whole _ _ count i) (drop_whole _ _ count i)) (turn_places 0 (length bs) bs))
        ∙ turn_values g [] is [] bs 0 (length bs) refl (omega (arith, is_rank)) is_rank
        ∙ ap (λ ps. plus_each is ps) c.places
        ∙ plus_places spans is

    fast_results : (h : Env) → InTurn is h → results_of h (fast_at_turns turn bs) ≡ pos 0 ∷ map pos is
    unfolding results_of
    fast_results h t =
        let count : length (map pos is) ≡ length bs = length_pos is ∙ is_rank in
        (λ i. map (value (take (length bs) (t.turns i)) (drop (length bs) (t.turns i))) (Const (pos 0) ∷ turn_dims 0 bs))
        ∙ (λ i. map (value (take_whole (map pos is) (length bs) count i) (drop_whole (map pos is) (length bs) count i)) (Const (pos 0) ∷ turn_dims 0 bs))
        ∙ (λ i. value-Const (map pos is) [] (pos 0) i ∷ dim_values g [] is bs 0 refl is_rank i)

    slow_place : (h : Env) → InTurn is h → place_of h m (slow_at_turns turn bs) slow_ty ≡ Slow (first + row_number (sizes_of spans) (behind_place spans is))
    unfolding place_of
    slow_place h t =
        (λ i. place_at ((ap (λ f. f m) t.home ∙ c.slow_home) i) (c.slow_sizes i) (slow_results h t i))
        ∙ ap (slow_at first) (cell_number (sizes_of spans) (behind_place spans is) (behind_below spans is c.lies b))

    fast_place : (h : Env) → InTurn is h → place_of h f (fast_at_turns turn bs) fast_ty ≡ Fast fast 0 (row_number (extents_of spans) is)
    unfolding place_of
    fast_place h t =
        (λ i. place_at ((ap (λ k. k f) t.home ∙ c.fast_home) i) (c.fast_sizes i) (fast_results h t i))
        ∙ ap (fast_at fast (Some 0)) (cell_number (extents_of spans) is b)

    -- before the load, and after it
    names_keep : (bs' : List Begin) → NamedApart turn v bs' → numbers (turns_env turn apart 0 is g) (named bs') ≡ numbers g (named bs')
    names_keep [] a = refl
    names_keep (Fixed z ∷ bs') a = names_keep bs' a
    names_keep (Named n ∷ bs') a = λ i. number (turns_keep turn apart 0 is g n (λ j l. a.0 j) i) ∷ names_keep bs' a.2 i

    before_load : InTurn is (turns_env turn apart 0 is g)
    before_load = record {
      home = turns_home turn apart 0 is g;
      turns = turns_known turn apart 0 is bs g is_rank;
      names = names_keep bs c.named_apart;
    }

    turns_forget : (h : Env) (d : ℕ) (bs' : List Begin) → numbers (forgets h v) (turn_names turn d bs') ≡ numbers h (turn_names turn d bs')
    turns_forget h d [] = refl
    turns_forget h d (b' ∷ bs') = λ i. number (put-other h.known v None (turn d) (c.value_apart d) i) ∷ turns_forget h (suc d) bs' i

    names_forget : (h : Env) (bs' : List Begin) → NamedApart turn v bs' → numbers (forgets h v) (named bs') ≡ numbers h (named bs')
    names_forget h [] a = refl
    names_forget h (Fixed z ∷ bs') a = names_forget h bs' a
    names_forget h (Named n ∷ bs') a = λ i. number (put-other h.known v None n a.1 i) ∷ names_forget h bs' a.2 i

    after_load : (h : Env) → InTurn is h → InTurn is (forgets h v)
    after_load h t = record { home = t.home; turns = turns_forget h 0 bs ∙ t.turns; names = names_forget h bs c.named_apart ∙ t.names }

    loaded : (h : Env) → operand (forgets h v) v ≡ Register v
    loaded h = ap (operand_of v) (put-same h.known v None v (same_name-refl v))

    pub turn_in : actions (Does 0 (Load v m (slow_at_turns turn bs) slow_ty) (Does 0 (Store v f (fast_at_turns turn bs) fast_ty) Nothing)) (turns_env turn apart 0 is g)
        ≡ Loads v (Slow (first + row_number (sizes_of spans) (behind_place spans is))) ∷ Stores (Register v) (Fast fast 0 (row_number (extents_of spans) is)) ∷ []
    unfolding actions action_of after_plain
    turn_in =
        let h = turns_env turn apart 0 is g in
        λ i. Loads v (slow_place h before_load i) ∷ Stores (loaded h i) (fast_place (forgets h v) (after_load h before_load) i) ∷ []

    pub turn_out : actions (Does 0 (Load v f (fast_at_turns turn bs) fast_ty) (Does 0 (Store v m (slow_at_turns turn bs) slow_ty) Nothing)) (turns_env turn apart 0 is g)
        ≡ Loads v (Fast fast 0 (row_number (extents_of spans) is)) ∷ Stores (Register v) (Slow (first + row_number (sizes_of spans) (behind_place spans is))) ∷ []
    unfolding actions action_of after_plain
    turn_out =
        let h = turns_env turn apart 0 is g in
        λ i. Loads v (fast_place h before_load i) ∷ Stores (loaded h i) (slow_place (forgets h v) (after_load h before_load) i) ∷ []
