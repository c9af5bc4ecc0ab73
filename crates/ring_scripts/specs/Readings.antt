-- What the statements of a loop with rings do: where an access of a ring goes, and which turns its three loops have.
use Rattle.std.specs.Prelude.{◌≡◌, ℕ, suc, ◌+◌, ◌≤◌, ℤ, pos, ◌+ℤ◌, List, ◌∷◌, ◌++◌, drop, flat_map, Option, Some, true}
use Rattle.affine_ast.specs.declared.name.Name.{Name}
use Rattle.affine_ast.specs.declared.types.Access.{Access}
use Rattle.affine_ast.specs.declared.types.Bound.{Bound}
use Rattle.affine_ast.specs.Nest.{Nest, Loop}
use Rattle.affine_ast.specs.Rules.{map_fits}
use Rattle.direct_meaning.specs.Action.{FastMemref, TagMemref}
use Rattle.direct_meaning.specs.Static.{Env, knows, lower_of, upper_of, place_of, results_of, tag_of}
use Rattle.direct_meaning.specs.Actions.{actions, behind}
use Rattle.direct_meaning.specs.Turns.{turns}
use Rattle.loop_forms.specs.Laws.{HasOneResult}
use Rattle.loop_forms.specs.Split.{split_of, prologue_end, main_end, epilogue_begin}
use Rattle.placement_texts.specs.Template.{Placement, fast_type, tag_at_zero}
use Rattle.step_runs.specs.Stage.{Stage, place_in}
use Rattle.ring_runs.specs.Places.{ring_place}
use Rattle.ring_plans.specs.Rings.{at_place, ring_tags, ring_type}

-- an access with a place in the ring has there the place of the turn that is z later, and its other subscripts stay
abbrev pub RingPlaceIs : Type 0
RingPlaceIs = (g : Env) (buffers : ℕ) (v : Name) (lower upper : Bound) (s : ℕ) (z t : ℤ) (at : Access) → 1 ≤ buffers → map_fits at ≡ true → g.known v ≡ Some t
    → results_of g (at_place buffers v lower upper (pos s) z at) ≡ pos (ring_place (t +ℤ z) s buffers) ∷ drop 1 (results_of g at)

-- the fast memref of a placement has one half in the text with single placements, and one for each place of the ring in that with
-- rings: an access of it goes to its cell in the half of the turn's place
abbrev pub AccessInRing : Type 0
AccessInRing = (stage : Stage) (e g : Env) (buffers : ℕ) (v m : Name) (lower upper : Bound) (s : ℕ) (t : ℤ) (p : Placement) (at : Access) (zs : List ℤ) (a b : ℕ)
    → 1 ≤ buffers → map_fits at ≡ true → g.known v ≡ Some t → e.home m ≡ Some (FastMemref a) → g.home m ≡ Some (FastMemref b)
    → results_of e at ≡ pos 0 ∷ zs → results_of g at ≡ pos 0 ∷ zs
    → stage.half a 0 ≡ record { number = b; half = ring_place t s buffers }
    → place_of g m (at_place buffers v lower upper (pos s) (pos 0) at) (ring_type buffers v lower upper (pos s) p) ≡ place_in stage (place_of e m at (fast_type p))

-- its tags are as many: that of a turn has the number of the turn's place
abbrev pub TagInRing : Type 0
TagInRing = (g : Env) (buffers : ℕ) (v m : Name) (lower upper : Bound) (s : ℕ) (z t : ℤ) (first : ℕ)
    → 1 ≤ buffers → g.known v ≡ Some t → g.home m ≡ Some (TagMemref first)
    → tag_of g m (at_place buffers v lower upper (pos s) z tag_at_zero) (ring_tags buffers v lower upper (pos s)) ≡ Some (first + ring_place (t +ℤ z) s buffers)

-- the three loops that a loop is split into for a ring of `suc lead` buffers have the bounds of a ring's, whatever their bodies are
abbrev pub LoopsAreCut : Type 0
LoopsAreCut = (e : Env) (v : Name) (lower upper : Bound) (s lead line : ℕ) (starts main last rest : Nest) → HasOneResult lower → HasOneResult upper → 1 ≤ s → 1 ≤ lead
    → actions
    (Loop 0 v (split_of lower upper (pos s) (suc lead)).prologue.0 (split_of lower upper (pos s) (suc lead)).prologue.1 (pos s) starts
    (Loop line v (split_of lower upper (pos s) (suc lead)).main.0 (split_of lower upper (pos s) (suc lead)).main.1 (pos s) main
    (Loop 0 v (split_of lower upper (pos s) (suc lead)).epilogue.0 (split_of lower upper (pos s) (suc lead)).epilogue.1 (pos s) last rest))) e
    ≡ flat_map (λ t. actions starts (knows e v t)) (turns (lower_of e lower) (prologue_end (lower_of e lower) (upper_of e upper) (pos s) (suc lead)) (pos s))
    ++ (flat_map (λ t. actions main (knows (behind starts e) v t)) (turns (lower_of e lower) (main_end (upper_of e upper) (pos s) (suc lead)) (pos s))
    ++ (flat_map (λ t. actions last (knows (behind main (behind starts e)) v t)) (turns (epilogue_begin (lower_of e lower) (upper_of e upper) (pos s) (suc lead)) (upper_of e upper) (pos s))
    ++ actions rest (behind last (behind main (behind starts e)))))
