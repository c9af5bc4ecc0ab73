-- The laws' premises are met by the text of `placement_texts`' example: a box of 3 x 2 of 6 x 8 elements, one dimension clamped, by
-- transfers of stride 8 and chunk 2, read in and written out, each turn of the outer loop.
use Rattle.std.proofs.Common.{◌≡◌, ℕ, ◌≤◌, ℤ, pos, List, [], ◌∷◌, length, refl, sym, subst, arith}
use Rattle.std.specs.Prelude.{Option, Some, None}
use Rattle.affine_ast.specs.declared.image.Image.{Image}
use Rattle.affine_ast.specs.Nest.{Plain, Nothing, Does, Value, Load, Store, RawLoad, RawStore, Constant, Binary, Cast, Alloc, Dealloc, Start, Wait, Return}
use Rattle.affine_ast.proofs.Names.{same_name-eq}
use Rattle.direct_meaning.specs.Action.{SlowMemref, Action}
use Rattle.direct_meaning.specs.Static.{Env, knows, lower_of, upper_of, cell_in, results_of, slow_at, place_at, place_of}
use Rattle.direct_meaning.specs.Actions.{action_of, actions}
use Rattle.direct_meaning.specs.Direct.{folded, first_state, direct_step}
use Rattle.prompt_semantics.specs.Prompt.{prompt_step, first_device}
use Rattle.boxes.specs.Every.{Every}
use Rattle.placement_texts.specs.Each.{Each}
use Rattle.placement_texts.specs.Spots.{Here, Inside, staged_at}
use Rattle.placement_texts.proofs.Turned.{every_turn}
use Rattle.placement_texts.proofs.Example.{a, i, j, r, own, ty, at, inner, text, placement, before, new, suits, alike, fine, tidy, made, made_by, head_is, step, apart_only}
use Rattle.placement_texts.specs.Fold.{staged_all}
use Rattle.placement_texts.proofs.Inner.{each_action}
use Rattle.box_run_laws.specs.Roomy.{roomy_step, most_live}
use Rattle.box_run_laws.specs.Plain.{NotFast, IsPlain}
use Rattle.box_run_laws.specs.Law.{SameEnd, Agrees}
use Rattle.staging_laws.specs.Spared.{Aside, ReleasedTogether}
use Rattle.staging_laws.specs.Law.{Allows}
use Rattle.staging_laws.proofs.Theorem.{one_agrees}
use Rattle.staging_laws.proofs.Plan.{plan_agrees}

aside : Each (Aside a 0 (6 ∷ 8 ∷ [])) text before
unfolding lower_of upper_of
aside = (
  every_turn (λ t. Each (Aside a 0 (6 ∷ 8 ∷ [])) inner (knows before j t)) (pos 0) (pos 4) (pos 1) (λ t low high. (
    every_turn (λ s. Each (Aside a 0 (6 ∷ 8 ∷ [])) (Does 3 (Load r a at ty) Nothing) (knows (knows before j t) i s)) (pos 0) (pos 3) (pos 1) (λ s low' high'. (tt, tt)),
    tt,
  )),
  tt,
)

released : Each (ReleasedTogether new) text before
unfolding lower_of upper_of
released = (
  every_turn (λ t. Each (ReleasedTogether new) inner (knows before j t)) (pos 0) (pos 4) (pos 1) (λ t low high. (
    every_turn (λ s. Each (ReleasedTogether new) (Does 3 (Load r a at ty) Nothing) (knows (knows before j t) i s)) (pos 0) (pos 3) (pos 1) (λ s low' high'. (tt, tt)),
    tt,
  )),
  tt,
)

allows : Allows placement 0 new (Inside Here) text before
unfolding lower_of upper_of
allows = record {
  aside = aside;
  released = released;
  covered = λ e. absurd (cc);
}

pub example : (memory : Image) → 48 ≤ length (first_state memory).slow → (filler : ℤ)
    → SameEnd (folded (roomy_step filler) (actions text before) (first_device memory)) (folded (roomy_step filler) (actions (staged_at placement (Inside Here) text) before) (first_device memory))
example memory room filler = one_agrees own placement 0 0 new (Inside Here) text before before suits alike tidy fine ((((λ e. refl), tt), tt)) allows ((tt, tt), tt) memory (record { fits = room; suited = record { even = refl; stride = refl; chunk = refl } }) filler

-- and those of the law of all placements, by one step, from the direct meaning, at the least capacity
abbrev IsLoad : Plain → Env → Type 0
IsLoad (Load r n at ty) e = e.home n ≡ Some (SlowMemref 0 0)
IsLoad q e = ⊥

at_slow : (o : Option ℕ) → NotFast (slow_at 0 o)
at_slow (Some k) = tt
at_slow None = tt

one_plain : (q : Plain) (e : Env) → IsLoad q e → IsPlain (action_of q e)
unfolding action_of place_of
one_plain (Load r n at ty) e h = subst (λ o. NotFast (place_at o ty.sizes (results_of e at))) (sym h) (at_slow (cell_in ty.sizes (results_of e at)))
one_plain (Value r pick at) e h = absurd h
one_plain (Store x n at ty) e h = absurd h
one_plain (RawLoad r n at ty) e h = absurd h
one_plain (RawStore x n at ty) e h = absurd h
one_plain (Constant r z ty) e h = absurd h
one_plain (Binary r op x y ty) e h = absurd h
one_plain (Cast r kind x from to) e h = absurd h
one_plain (Alloc r ty) e h = absurd h
one_plain (Dealloc n ty) e h = absurd h
one_plain (Start x x_at y y_at t t_at n stride types) e h = absurd h
one_plain (Wait t at n ty) e h = absurd h
one_plain Return e h = absurd h

each_of : (xs : List Action) → Every IsPlain xs → Every IsPlain xs
each_of [] h = tt
each_of (x ∷ xs) h = (h.0, each_of xs h.1)

loads : Each IsLoad text before
unfolding lower_of upper_of
loads = (
  every_turn (λ t. Each IsLoad inner (knows before j t)) (pos 0) (pos 4) (pos 1) (λ t low high. (
    every_turn (λ s. Each IsLoad (Does 3 (Load r a at ty) Nothing) (knows (knows before j t) i s)) (pos 0) (pos 3) (pos 1) (λ s low' high'. (refl, tt)),
    tt,
  )),
  tt,
)

pub whole : (memory : Image) → 48 ≤ length (first_state memory).slow → (filler : ℤ)
    → Agrees (folded direct_step (actions text before) (first_state memory)) (folded (prompt_step filler (most_live (actions (staged_all (step ∷ []) text) before) 0)) (actions (staged_all (step ∷ []) text) before) (first_device memory))
whole memory room filler =
    plan_agrees made_by (step ∷ []) text before
    (refl, tt, tt, (refl, tt, tt, ((refl, (refl, (refl, (refl, tt)))), tt), tt), tt)
    (record { made = λ k. refl; apart = λ x y e. head_is x y (same_name-eq (made x) (made y) e); memref_own = refl; dims_own = (tt, ((refl, tt), tt)); elements = omega arith }, tt)
    (record { loop = tt; line = tt; fine = fine }, tt)
    (tt, tt)
    (λ m. tt)
    (((tt, tt), tt), tt)
    (apart_only, tt)
    ((((λ e. refl), tt), tt), tt) (allows, tt) ((tt, tt), tt) memory
    (record { fits = room; suited = record { even = refl; stride = refl; chunk = refl } }, tt)
    (each_of (actions text before) (each_action IsLoad IsPlain one_plain text before loads))
    filler (most_live (actions (staged_all (step ∷ []) text) before) 0) (omega arith)
