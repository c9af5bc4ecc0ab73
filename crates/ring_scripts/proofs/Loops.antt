-- The three loops of a ring have its turns.
use Rattle.std.proofs.Common.{◌≡◌, ℕ, suc, ◌-◌, ◌≤◌, ℤ, pos, ◌<ℤ◌, List, ◌++◌, length, take, drop, refl, sym, ap, ◌∙◌, arith}
use Rattle.std.specs.Prelude.{flat_map}
use Rattle.std.proofs.lemmas.Int.{ints}
use Rattle.affine_ast.specs.declared.types.Bound.{Bound}
use Rattle.affine_ast.specs.declared.types.Bound.TheVariants as bound
use Rattle.affine_ast.specs.Nest.{Nest, Loop}
use Rattle.direct_meaning.specs.Static.{Env, knows, lower_of, upper_of, results_of}
use Rattle.direct_meaning.specs.Actions.{actions, behind}
use Rattle.direct_meaning.specs.Turns.{turns}
use Rattle.direct_meaning.proofs.Laws.{actions-Loop}
use Rattle.loop_forms.specs.Laws.{HasOneResult, turns_of}
use Rattle.loop_forms.specs.Split.{split_of, prologue_end, main_end, epilogue_begin}
use Rattle.loop_forms.specs.Stepped.{stepped, turn_total}
use Rattle.loop_forms.proofs.Cut.{all_turns, length_stepped, first_ones, all_but_last, last_ones}
use Rattle.loop_forms.proofs.Cuts.{split_cuts}
use Rattle.ring_scripts.specs.Readings.{LoopsAreCut}

module _ (e : Env) (lower upper : Bound) (s lead : ℕ) (hl : HasOneResult lower) (hu : HasOneResult upper) (positive : 1 ≤ s) (some : 1 ≤ lead) where
  abbrev a : ℤ
  a = lower_of e lower

  abbrev b : ℤ
  b = upper_of e upper

  two : 2 ≤ suc lead
  two = omega (arith, some)

  above : pos 0 <ℤ pos s
  above = omega (arith, ints, positive)

  abbrev total : ℕ
  total = turn_total a b s

  prologue_is : turns_of e (split_of lower upper (pos s) (suc lead)).prologue (pos s) ≡ turns a (prologue_end a b (pos s) (suc lead)) (pos s)
  prologue_is =
      (split_cuts e lower upper (pos s) (suc lead) hl hu above two).0
      ∙ ap (take (suc lead - 1)) (all_turns a b s positive)
      ∙ sym (first_ones a b s (suc lead) positive two)

  count_is : length (turns a b (pos s)) ≡ total
  count_is = ap length (all_turns a b s positive) ∙ length_stepped a (pos s) total

  main_is : turns_of e (split_of lower upper (pos s) (suc lead)).main (pos s) ≡ turns a (main_end b (pos s) (suc lead)) (pos s)
  main_is =
      (split_cuts e lower upper (pos s) (suc lead) hl hu above two).1
      ∙ (λ i. take (count_is i - (suc lead - 1)) (all_turns a b s positive i))
      ∙ sym (all_but_last a b s (suc lead) positive two)

  pub epilogue_is : turns_of e (split_of lower upper (pos s) (suc lead)).epilogue (pos s) ≡ turns (epilogue_begin a b (pos s) (suc lead)) b (pos s)
  epilogue_is =
      (split_cuts e lower upper (pos s) (suc lead) hl hu above two).2
      ∙ (λ i. drop (count_is i - (suc lead - 1)) (all_turns a b s positive i))
      ∙ sym (last_ones a b s (suc lead) positive two)

-- bounds are the same behind a region
pub lower_behind : (n : Nest) (e : Env) (l : Bound) → lower_of (behind n e) l ≡ lower_of e l
unfolding lower_of results_of
lower_behind n e (bound.Int z) = refl
lower_behind n e (bound.Value v) = refl
lower_behind n e (bound.Map at) = refl

pub upper_behind : (n : Nest) (e : Env) (l : Bound) → upper_of (behind n e) l ≡ upper_of e l
unfolding upper_of results_of
upper_behind n e (bound.Int z) = refl
upper_behind n e (bound.Value v) = refl
upper_behind n e (bound.Map at) = refl

turns_behind : (n : Nest) (e : Env) (x : Bound × Bound) (s : ℤ) → turns_of (behind n e) x s ≡ turns_of e x s
turns_behind n e x s = λ i. turns (lower_behind n e x.0 i) (upper_behind n e x.1 i) s

pub loops_are_cut : LoopsAreCut
loops_are_cut e v lower upper s lead line starts main last rest hl hu positive some =
    let parts = split_of lower upper (pos s) (suc lead) in
    let e1 = behind starts e in
    let e2 = behind main e1 in
    actions-Loop 0 v parts.prologue.0 parts.prologue.1 (pos s) starts _ e
    ∙ (λ i. flat_map (λ t. actions starts (knows e v t)) (prologue_is e lower upper s lead hl hu positive some i)
    ++ actions-Loop line v parts.main.0 parts.main.1 (pos s) main (Loop 0 v parts.epilogue.0 parts.epilogue.1 (pos s) last rest) e1 i)
    ∙ (λ i. flat_map (λ t. actions starts (knows e v t)) (turns (lower_of e lower) (prologue_end (lower_of e lower) (upper_of e upper) (pos s) (suc lead)) (pos s))
    ++ (flat_map (λ t. actions main (knows e1 v t)) ((turns_behind starts e parts.main (pos s) ∙ main_is e lower upper s lead hl hu positive some) i)
    ++ actions-Loop 0 v parts.epilogue.0 parts.epilogue.1 (pos s) last rest e2 i))
    ∙ (λ i. flat_map (λ t. actions starts (knows e v t)) (turns (lower_of e lower) (prologue_end (lower_of e lower) (upper_of e upper) (pos s) (suc lead)) (pos s))
    ++ (flat_map (λ t. actions main (knows e1 v t)) (turns (lower_of e lower) (main_end (upper_of e upper) (pos s) (suc lead)) (pos s))
    ++ (flat_map (λ t. actions last (knows e2 v t)) ((turns_behind main e1 parts.epilogue (pos s) ∙ turns_behind starts e parts.epilogue (pos s) ∙ epilogue_is e lower upper s lead hl hu positive some) i)
    ++ actions rest (behind last e2))))
