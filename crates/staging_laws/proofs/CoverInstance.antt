-- A placement that isn't read in: `for %i = 0 to 2 { store %r, %A[%i] }` of a memref of 2 elements, whole, by one transfer out.
use Rattle.std.proofs.Common.{◌≡◌, ℕ, zero, suc, ◌≤◌, ℤ, pos, [], ◌∷◌, ◌++◌, length, refl, sym, ap, ◌∙◌, subst, arith, Bool, true, false}
use Rattle.std.specs.Prelude.{None, Some, flat_map}
use Rattle.std.specs.List.{list_any}
use Rattle.std.proofs.lemmas.Int.{ints}
use Rattle.affine_expr.specs.declared.expr.Expr.{Dim, fold-Expr, fold-roll-Expr}
use Rattle.affine_expr.specs.declared.expr.Expr.TheVariants.{rolls-Dim}
use Rattle.affine_expr.specs.declared.expr.Expr.TheOpen.{Expr-F}
use Rattle.affine_expr.specs.Pure.{has_leaves_below, leaves_step}
use Rattle.affine_expr.proofs.Values.{value-Dim}
use Rattle.affine_ast.specs.declared.image.Image.{Image}
use Rattle.affine_ast.specs.declared.types.Access.{Access}
use Rattle.affine_ast.specs.declared.types.Bound.TheVariants as bound
use Rattle.affine_ast.specs.declared.types.Element.TheVariants.{I32}
use Rattle.affine_ast.specs.declared.types.MemrefType.{MemrefType}
use Rattle.affine_ast.specs.Nest.{Nest, Nothing, Loop, Does, Store}
use Rattle.affine_ast.specs.Rules.{map_fits}
use Rattle.affine_ast.proofs.Names.{same_name-eq, same_name-refl, put-same}
use Rattle.direct_meaning.specs.Turns.{turns}
use Rattle.direct_meaning.specs.Action.{Slow, Stores}
use Rattle.direct_meaning.specs.Static.{knows, number, results_of, operand, cell_in, slow_at, place_of, lower_of, upper_of}
use Rattle.direct_meaning.specs.Actions.{action_of, actions}
use Rattle.direct_meaning.specs.Direct.{folded, first_state}
use Rattle.direct_meaning.proofs.Laws.{turns_more, turns_end}
use Rattle.prompt_semantics.specs.Prompt.{first_device}
use Rattle.placement_texts.specs.Boxes.{InBox}
use Rattle.boxes.specs.Every.{Every}
use Rattle.placement_texts.specs.Each.{Each}
use Rattle.placement_texts.specs.Template.{Placement, Transfers}
use Rattle.placement_texts.specs.Regions.{spans_at, ReachesBox, Tidy}
use Rattle.placement_texts.specs.Spots.{Here, FineAt, staged_at}
use Rattle.placement_texts.specs.Law.{Suits}
use Rattle.placement_texts.proofs.Turned.{every_turn}
use Rattle.placement_texts.proofs.Example.{a, i, r, own, made, before, new, head_is}
use Rattle.box_run_laws.specs.Roomy.{roomy_step}
use Rattle.box_run_laws.specs.Law.{SameEnd}
use Rattle.box_run_laws.specs.Parts.{stores_to}
use Rattle.staging_laws.specs.Spared.{Aside, ReleasedTogether, StoresAll}
use Rattle.staging_laws.specs.Law.{Allows}
use Rattle.staging_laws.proofs.Theorem.{one_agrees}

abbrev ty1 : MemrefType
ty1 = record { sizes = 2 ∷ []; element = I32; space = 0 }

abbrev at1 : Access
at1 = record { map = record { dims = 1; syms = 0; results = Dim 0 ∷ [] }; operands = i ∷ [] }

abbrev inner1 : Nest
inner1 = Does 2 (Store r a at1 ty1) Nothing

abbrev text1 : Nest
text1 = Loop 1 i (bound.Int (pos 0)) (bound.Int (pos 2)) (pos 1) inner1 Nothing

abbrev covered : Placement
covered = record { memref = a; element = I32; dims = record { size = 2; terms = []; offset = pos 0; extent = 2; clamped = false } ∷ []; reads = false; writes = true; how = Transfers None; name = made }

suits1 : Suits own covered new Here text1 before
suits1 = record {
  loop = tt;
  names = record { made = λ k. refl; apart = λ x y e. head_is x y (same_name-eq (made x) (made y) e) };
  memref_own = refl;
  dims_own = (tt, tt);
  text_own = (refl, tt, tt, ((refl, (refl, (refl, tt))), tt), tt);
  fast = refl;
  tag = refl;
  tags = refl;
}

leaf : (n : ℕ) → has_leaves_below 1 0 (Dim n) ≡ leaves_step 1 0 (Expr-F.Dim n)
unfolding has_leaves_below
leaf n = ap (fold-Expr Bool (leaves_step 1 0)) (sym (rolls-Dim n)) ∙ fold-roll-Expr Bool (leaves_step 1 0) (Expr-F.Dim n)

fits1 : map_fits at1 ≡ true
unfolding map_fits
fits1 = simp leaf refl

subscripts : (t : ℤ) → results_of (knows before i t) at1 ≡ t ∷ []
unfolding results_of
subscripts t =
    let x : number ((knows before i t).known i) ≡ t = ap number (put-same before.known i (Some t) i (same_name-refl i)) in
    λ k. (value-Dim (number ((knows before i t).known i) ∷ []) [] 0 ∙ x) k ∷ []

fine1 : FineAt covered 0 0 Here text1 before
unfolding lower_of upper_of
fine1 = record {
  home = refl;
  lie = (omega (arith, ints), omega (arith, ints), tt);
  elements = (omega arith, tt);
  reaches = (
    every_turn (λ t. Each (ReachesBox a 0 0 (spans_at before covered.dims)) inner1 (knows before i t)) (pos 0) (pos 2) (pos 1) (λ t low high.
        ((λ is. record { home = refl; sizes = refl; fits = fits1; inside = λ k h. subst (InBox (spans_at before covered.dims)) (sym (subscripts t)) (low, high, tt) }), tt)),
    tt,
  );
}

by_turns : (P : ℤ → Type 0) → ((t : ℤ) → P t) → Every P (turns (pos 0) (pos 2) (pos 1))
by_turns P h = every_turn P (pos 0) (pos 2) (pos 1) (λ t low high. h t)

tidy1 : Each (Tidy new a 0 (2 ∷ [])) text1 before
unfolding lower_of upper_of
tidy1 = (by_turns (λ t. Each (Tidy new a 0 (2 ∷ [])) inner1 (knows before i t)) (λ t. ((tt, λ no. let z : true ≡ false = sym (same_name-refl a) ∙ no in absurd (cc)), tt)), tt)

-- the list of the loop's actions
two_turns : turns (pos 0) (pos 2) (pos 1) ≡ pos 0 ∷ pos 1 ∷ []
two_turns =
    turns_more (pos 0) (pos 2) (pos 1) (omega (arith, ints))
    ∙ ap (λ ts. pos 0 ∷ ts) (turns_more (pos 1) (pos 2) (pos 1) (omega (arith, ints)) ∙ ap (λ ts. pos 1 ∷ ts) (turns_end (pos 2) (pos 2) (pos 1) (omega (arith, ints))))

store_at : (t : ℤ) → action_of (Store r a at1 ty1) (knows before i t) ≡ Stores (operand (knows before i t) r) (slow_at 0 (cell_in (2 ∷ []) (t ∷ [])))
unfolding action_of place_of
store_at t = ap (λ zs. Stores (operand (knows before i t) r) (slow_at 0 (cell_in (2 ∷ []) zs))) (subscripts t)

stores : actions text1 before ≡ Stores (operand (knows before i (pos 0)) r) (Slow 0) ∷ Stores (operand (knows before i (pos 1)) r) (Slow 1) ∷ []
unfolding actions lower_of upper_of
stores = ap (λ ts. flat_map (λ t. actions inner1 (knows before i t)) ts ++ []) two_turns ∙ (λ k. store_at (pos 0) k ∷ store_at (pos 1) k ∷ [])

all_stored : StoresAll 0 (spans_at before covered.dims) (actions text1 before)
all_stored zero h = ap (list_any (stores_to 0)) stores
all_stored (suc zero) h = ap (list_any (stores_to 1)) stores
all_stored (suc (suc k)) h = absurd (omega (arith, h))

allows1 : Allows covered 0 new Here text1 before
unfolding lower_of upper_of
allows1 = record {
  aside = (by_turns (λ t. Each (Aside a 0 (2 ∷ [])) inner1 (knows before i t)) (λ t. (tt, tt)), tt);
  released = (by_turns (λ t. Each (ReleasedTogether new) inner1 (knows before i t)) (λ t. (tt, tt)), tt);
  covered = λ e w. all_stored;
}

pub example : (memory : Image) → 2 ≤ length (first_state memory).slow → (filler : ℤ)
    → SameEnd (folded (roomy_step filler) (actions text1 before) (first_device memory)) (folded (roomy_step filler) (actions (staged_at covered Here text1) before) (first_device memory))
example memory room filler =
    one_agrees own covered 0 0 new Here text1 before before suits1 (record { known = λ n h. refl; home = λ n h. refl; fasts = refl; tags = refl }) tidy1 fine1 (((λ e. refl), tt), tt) allows1 (tt, tt) memory
    (record { fits = room; suited = record { even = refl; stride = refl; chunk = refl } }) filler
