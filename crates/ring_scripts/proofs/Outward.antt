-- Loops without inward placements, and the last waits.
use Rattle.std.proofs.Common.{◌≡◌, ℕ, zero, suc, ◌+◌, ◌*◌, ◌-◌, ◌<◌, ◌≤◌, ℤ, pos, ◌+ℤ◌, List, [], ◌∷◌, ◌++◌, length, refl, sym, ap, ◌∙◌, subst, arith, Bool, true, false}
use Rattle.std.specs.Prelude.{Some, flat_map, nat_le, if◌then◌else◌}
use Rattle.std.proofs.lemmas.Bool.{leb-true, or_parts}
use Rattle.std.proofs.lemmas.Int.{ints}
use Rattle.std.proofs.lemmas.List.{append_assoc}
use Rattle.affine_ast.specs.declared.name.Name.{Name}
use Rattle.affine_ast.specs.declared.types.Bound.{Bound}
use Rattle.affine_ast.specs.Nest.{Nest, Nothing, Loop}
use Rattle.affine_ast.proofs.Names.{put-same, put-other, same_name-refl}
use Rattle.bus_model.specs.declared.transfer.Transfer.{Transfer}
use Rattle.direct_meaning.specs.Action.{Waits}
use Rattle.direct_meaning.specs.Static.{Env, knows, lower_of, number, upper_of}
use Rattle.direct_meaning.specs.Actions.{action_of, actions, behind, wait_of}
use Rattle.direct_meaning.specs.Direct.{folded}
use Rattle.direct_meaning.specs.Turns.{gap, turns}
use Rattle.direct_meaning.proofs.Laws.{actions-Loop}
use Rattle.loop_forms.specs.Laws.{HasOneResult}
use Rattle.loop_forms.specs.declared.parts.Parts.{Parts}
use Rattle.loop_forms.specs.Split.{epilogue_begin, reach, split_of}
use Rattle.loop_forms.specs.Stepped.{stepped, turn_total}
use Rattle.placement_texts.specs.Template.{Placement, count_name, tag_name}
use Rattle.prompt_semantics.specs.Device.{Device}
use Rattle.prompt_semantics.specs.Prompt.{prompt_step}
use Rattle.step_runs.specs.Steps.{Ahead, Late, Step, first_list, second_list}
use Rattle.step_runs.specs.Related.{Related, Ends}
use Rattle.step_runs.proofs.Run.{steps_run}
use Rattle.ring_runs.specs.Facts.{knowns, starts_of}
use Rattle.ring_runs.specs.Lates.{lates, turns_of}
use Rattle.ring_runs.specs.Places.{ring_place}
use Rattle.ring_runs.specs.Ring.{none_out, ring_loop, window}
use Rattle.ring_runs.proofs.Cut.{epilogue_turns}
use Rattle.ring_runs.proofs.Lists.{second-append, ring_first, ring_outward}
use Rattle.ring_runs.proofs.Ring.{ring_goes}
use Rattle.ring_plans.specs.Rings.{ring_loops, some_read, started, twin, twin_text, wait_for, waited}
use Rattle.ring_scripts.specs.Ahead.{inward_at, pads_at}
use Rattle.ring_scripts.specs.Turns.{turn_at}
use Rattle.ring_scripts.specs.Outward.{AllWait, IsKnownAs, LastWaitsAreSteps, OutwardTextAgrees, WaitsThere, late_turns}
use Rattle.ring_scripts.proofs.Ahead.{nothing_behind}
use Rattle.ring_scripts.proofs.Loops.{epilogue_is, lower_behind, upper_behind}
use Rattle.ring_scripts.proofs.Places.{tag_in_ring}
use Rattle.ring_scripts.proofs.Turns.{still}

-- ---- no placement is inward
none_inward : (buffers : ℕ) (v : Name) (lower upper : Bound) (s : ℤ) (ps : List Placement) → some_read buffers v lower upper s ps ≡ false → (i : ℕ) → inward_at ps i ≡ false
none_inward buffers v lower upper s [] h i = refl
none_inward buffers v lower upper s (p ∷ ps) h zero = (or_parts p.reads (some_read buffers v lower upper s ps) h).0
none_inward buffers v lower upper s (p ∷ ps) h (suc i) = none_inward buffers v lower upper s ps (or_parts p.reads (some_read buffers v lower upper s ps) h).1 i

no_starts : (ring : ℕ → ℕ → Transfer) (inward : ℕ → Bool) (pads : ℕ → ℕ → ℕ) (m j : ℕ) → ((i : ℕ) → inward i ≡ false) → second_list ring (starts_of inward pads m j) ≡ []
no_starts ring inward pads zero j h = refl
no_starts ring inward pads (suc m) j h =
    second-append ring (starts_of inward pads m j) (if inward m then knowns (pads m j) ++ Ahead m j ∷ [] else [])
    ∙ (λ i. no_starts ring inward pads m j h i ++ second_list ring (if h m i then knowns (pads m j) ++ Ahead m j ∷ [] else []))

module _ (lead : ℕ) (v : Name) (lower upper : Bound) (s : ℕ) (ps : List Placement) where
  abbrev parts : Parts
  parts = split_of lower upper (pos s) (suc lead)

  one_loop : (line : ℕ) (body : Nest) (g : Env) → some_read (suc lead) v lower upper (pos s) ps ≡ false → actions (ring_loops (suc lead) v lower upper (pos s) ps line body Nothing) g ≡ actions (Loop line v lower upper (pos s) body Nothing) g
  one_loop line body g none = ap (λ t. actions (if t
      then Loop 0 v parts.prologue.0 parts.prologue.1 (pos s) (started (suc lead) v lower upper (pos s) twin (pos 0) ps Nothing)
      (Loop line v parts.main.0 parts.main.1 (pos s) (started (suc lead) v lower upper (pos s) (λ n. n) (reach (pos s) (suc lead)) ps body)
      (Loop 0 v parts.epilogue.0 parts.epilogue.1 (pos s) (twin_text body) Nothing))
      else Loop line v lower upper (pos s) body Nothing) g) none

pub outward_text_agrees : OutwardTextAgrees
unfolding actions
outward_text_agrees filler small large line line' ring outward v lower upper s lead ps base turn body body' e g positive some none lowers uppers keeps firsts seconds d y h =
    let a = lower_of e lower in
    let b = upper_of e upper in
    let total = turn_total a b s in
    let ahead : ℕ → List Step = λ j. starts_of (inward_at ps) (pads_at ps) (length ps) j in
    let loop = ring_loop ahead turn lead total in
    let R : Device → Device → Type 0 = Related ring (record (base total) { out = window (inward_at ps) outward (suc lead) total total }) in
    let goes = ring_goes large ring (inward_at ps) outward lead total base ahead turn keeps in
    let run = steps_run ring filler small large loop (record (base 0) { out = none_out }) d y goes.0 h in
    let left : first_list ring loop ≡ actions (Loop line v lower upper (pos s) body Nothing) e =
    ring_first ring ahead turn lead a b s positive some (λ t. actions body (knows e v t)) (still ring (inward_at ps) (pads_at ps) (length ps)) firsts
    ∙ sym (actions-Loop line v lower upper (pos s) body Nothing e ∙ nothing_behind (flat_map (λ t. actions body (knows e v t)) (turns a b (pos s)))) in
    let right : second_list ring loop ≡ actions (ring_loops (suc lead) v lower upper (pos s) ps line' body' Nothing) g =
    ring_outward ring ahead turn lead a b s positive some (λ t. actions body' (knows g v t)) (λ j. no_starts ring (inward_at ps) (pads_at ps) (length ps) j (none_inward (suc lead) v lower upper (pos s) ps none)) seconds
    ∙ (λ i. flat_map (λ t. actions body' (knows g v t)) (turns (sym lowers i) (sym uppers i) (pos s)))
    ∙ sym (actions-Loop line' v lower upper (pos s) body' Nothing g ∙ nothing_behind (flat_map (λ t. actions body' (knows g v t)) (turns (lower_of g lower) (upper_of g upper) (pos s))))
    ∙ sym (one_loop lead v lower upper s ps line' body' g none) in
    subst (λ xs. Ends R (folded (prompt_step filler small) xs d) (folded (prompt_step filler large) (actions (ring_loops (suc lead) v lower upper (pos s) ps line' body' Nothing) g) y)) left
    (subst (λ xs. Ends R (folded (prompt_step filler small) (first_list ring loop) d) (folded (prompt_step filler large) xs y)) right
    (subst (λ s. Ends (Related ring s) (folded (prompt_step filler small) (first_list ring loop) d) (folded (prompt_step filler large) (second_list ring loop) y)) goes.1 run))

-- ---- the last waits
lates-append : (xs ys : List (ℕ × ℕ)) → lates (xs ++ ys) ≡ lates xs ++ lates ys
lates-append [] ys = refl
lates-append (x ∷ xs) ys = ap (λ l. Late x.0 x.1 ∷ l) (lates-append xs ys)

module _ (lead : ℕ) (v : Name) (lower upper : Bound) (s : ℕ) (ring : ℕ → ℕ → Transfer) (a b : ℤ) (one_lower : HasOneResult lower) (one_upper : HasOneResult upper) (positive : 1 ≤ s) where
  abbrev total : ℕ
  total = turn_total a b s

  abbrev first : ℕ
  first = total - suc lead

  abbrev waits : Placement → Nest
  waits p = wait_for (suc lead) v lower upper (pos s) p Nothing

  next_at : (k : ℕ) → turn_at a s k +ℤ pos s ≡ turn_at a s (suc k)
  next_at k = let e : suc k * s ≡ s + k * s = grind arith in omega (arith, ints, e)

  one_wait : (i : ℕ) (p : Placement) (g : Env) (j : ℕ) → WaitsThere lead v s ring a total i p g → j < total → actions (waits p) (knows g v (turn_at a s j)) ≡ Waits (ring i j).tag (ring i j).count ∷ []
  unfolding actions action_of
  one_wait i p g j w lt =
      let t = turn_at a s j in
      let still : t +ℤ pos 0 ≡ t = omega (arith, ints) in
      let tag = tag_in_ring (knows g v t) (suc lead) v (tag_name p.name) lower upper s (pos 0) t w.first_tag (omega arith) (put-same g.known v (Some t) v (same_name-refl v)) w.home
      ∙ ap (λ x. Some (w.first_tag + ring_place x s (suc lead))) still
      ∙ ap Some (sym (w.tag j lt)) in
      let count = ap (λ x. gap (number x)) (put-other g.known v (Some t) (count_name p.name) w.apart) ∙ sym (w.count j lt) in
      (λ k. wait_of (tag k) (count k) ∷ [])

  some_waits : (i : ℕ) (p : Placement) (g : Env) (r k : ℕ) → WaitsThere lead v s ring a total i p g → k + r ≤ total
      → flat_map (λ t. actions (waits p) (knows g v t)) (stepped (turn_at a s k) (pos s) r) ≡ second_list ring (lates (turns_of i r k))
  some_waits i p g zero k w le = refl
  some_waits i p g (suc r) k w le =
      (λ j. one_wait i p g k w (omega (arith, le)) j ++ flat_map (λ t. actions (waits p) (knows g v t)) (stepped (next_at k j) (pos s) r))
      ∙ ap (λ l. Waits (ring i k).tag (ring i k).count ∷ l) (some_waits i p g r (suc k) w (omega (arith, le)))

  last_ones : turns (epilogue_begin a b (pos s) (suc (suc lead))) b (pos s) ≡ stepped (turn_at a s first) (pos s) (total - first)
  last_ones = epilogue_turns a b s (suc lead) positive (omega arith) ∙ by (nat_le (suc lead) total) refl
    where
      by : (t : Bool) → nat_le (suc lead) total ≡ t → (if t then stepped (a +ℤ pos ((total - suc lead) * s)) (pos s) (suc lead) else stepped a (pos s) total) ≡ stepped (turn_at a s first) (pos s) (total - first)
      by true t = let le = leb-true (suc lead) total t in ap (stepped (turn_at a s first) (pos s)) (let e : suc lead ≡ total - first = omega (arith, le) in e)
      by false t =
          let less : total < suc lead = grind (arith, t) in
          let none : first ≡ 0 = omega (arith, less) in
          let here : a ≡ turn_at a s 0 = (let z : 0 * s ≡ 0 = omega arith in omega (arith, ints, z)) in
          let all : total ≡ total - 0 = omega arith in
          (λ i. stepped (here i) (pos s) (all i)) ∙ ap (λ n. stepped (turn_at a s n) (pos s) (total - n)) (sym none)

  abbrev Reads : ℕ → List Placement → Env → Nest → Type 0
  Reads i ps g rest = (h : Env) × IsKnownAs g h × (actions (waited (suc lead) v lower upper (pos s) ps rest) g ≡ second_list ring (lates (late_turns i ps (total - first) first)) ++ actions rest h)

  loop_waits : (i : ℕ) (p : Placement) (g : Env) (rest : Nest) → WaitsThere lead v s ring a total i p g → lower_of g lower ≡ a → upper_of g upper ≡ b
      → actions (Loop 0 v (split_of lower upper (pos s) (suc (suc lead))).epilogue.0 (split_of lower upper (pos s) (suc (suc lead))).epilogue.1 (pos s) (waits p) rest) g
      ≡ second_list ring (lates (turns_of i (total - first) first)) ++ actions rest (behind (waits p) g)
  loop_waits i p g rest w lo up =
      let last = (split_of lower upper (pos s) (suc (suc lead))).epilogue in
      actions-Loop 0 v last.0 last.1 (pos s) (waits p) rest g
      ∙ ap (λ ts. flat_map (λ t. actions (waits p) (knows g v t)) ts ++ actions rest (behind (waits p) g))
      (epilogue_is g lower upper s (suc lead) one_lower one_upper positive (omega arith) ∙ (λ k. turns (epilogue_begin (lo k) (up k) (pos s) (suc (suc lead))) (up k) (pos s)) ∙ last_ones)
      ∙ ap (λ l. l ++ actions rest (behind (waits p) g)) (some_waits i p g (total - first) first w (omega arith))

  there_stays : (i : ℕ) (p : Placement) (g : Env) (n : Nest) → WaitsThere lead v s ring a total i p g → WaitsThere lead v s ring a total i p (behind n g)
  there_stays i p g n c = record { first_tag = c.first_tag; home = c.home; apart = c.apart; count = c.count; tag = c.tag }

  all_stay : (i : ℕ) (ps : List Placement) (g : Env) (n : Nest) → AllWait lead v s ring a total i ps g → AllWait lead v s ring a total i ps (behind n g)
  all_stay i [] g n c = tt
  all_stay i (p ∷ ps) g n c = (λ r. there_stays i p g n (c.0 r), all_stay (suc i) ps g n c.1)

  -- one placement, before others
  abbrev last_loop : Placement → Nest → Nest
  last_loop p rest = Loop 0 v (split_of lower upper (pos s) (suc (suc lead))).epilogue.0 (split_of lower upper (pos s) (suc (suc lead))).epilogue.1 (pos s) (waits p) rest

  abbrev text : List Placement → Nest → Nest
  text ps rest = waited (suc lead) v lower upper (pos s) ps rest

  abbrev these : ℕ → List (ℕ × ℕ)
  these i = turns_of i (total - first) first

  abbrev others : ℕ → List Placement → List (ℕ × ℕ)
  others i ps = late_turns (suc i) ps (total - first) first

  pass_reads : (i : ℕ) (p : Placement) (ps : List Placement) (g : Env) (rest : Nest) → p.reads ≡ true → Reads (suc i) ps g rest → Reads i (p ∷ ps) g rest
  pass_reads i p ps g rest r two = (
    two.0,
    two.1,
    ap (λ c. actions (if c then text ps rest else last_loop p (text ps rest)) g) r
        ∙ two.2
        ∙ ap (λ c. second_list ring (lates ((if c then [] else these i) ++ others i ps)) ++ actions rest two.0) (sym r),
  )

  wait_reads : (i : ℕ) (p : Placement) (ps : List Placement) (g : Env) (rest : Nest) → p.reads ≡ false → WaitsThere lead v s ring a total i p g → lower_of g lower ≡ a → upper_of g upper ≡ b
      → Reads (suc i) ps (behind (waits p) g) rest → Reads i (p ∷ ps) g rest
  wait_reads i p ps g rest r w lo up two = (
    two.0,
    record {
      home = two.1.home;
      known = two.1.known;
      fasts = two.1.fasts ∙ (let e : g.fasts + 0 ≡ g.fasts = omega arith in e);
      tags = two.1.tags ∙ (let e : g.tags + 0 ≡ g.tags = omega arith in e);
    },
    ap (λ c. actions (if c then text ps rest else last_loop p (text ps rest)) g) r
        ∙ loop_waits i p g (text ps rest) w lo up
        ∙ ap (λ l. second_list ring (lates (these i)) ++ l) two.2
        ∙ sym (append_assoc (second_list ring (lates (these i))) (second_list ring (lates (others i ps))) (actions rest two.0))
        ∙ ap (λ l. l ++ actions rest two.0) (sym (second-append ring (lates (these i)) (lates (others i ps))))
        ∙ ap (λ l. second_list ring l ++ actions rest two.0) (sym (lates-append (these i) (others i ps)))
        ∙ ap (λ c. second_list ring (lates ((if c then [] else these i) ++ others i ps)) ++ actions rest two.0) (sym r),
  )

  all_read : (i : ℕ) (ps : List Placement) (g : Env) (rest : Nest) → AllWait lead v s ring a total i ps g → lower_of g lower ≡ a → upper_of g upper ≡ b → Reads i ps g rest
  all_read i [] g rest c lo up = (g, record { home = refl; known = refl; fasts = refl; tags = refl }, refl)
  all_read i (p ∷ ps) g rest c lo up =
      by p.reads refl (λ h d l u. all_read (suc i) ps h rest d l u)
    where
      by : (t : Bool) → p.reads ≡ t → ((h : Env) → AllWait lead v s ring a total (suc i) ps h → lower_of h lower ≡ a → upper_of h upper ≡ b → Reads (suc i) ps h rest) → Reads i (p ∷ ps) g rest
      by true r more = pass_reads i p ps g rest r (more g c.1 lo up)
      by false r more =
          wait_reads i p ps g rest r (c.0 r) lo up
          (more (behind (waits p) g) (all_stay (suc i) ps g (waits p) c.1) (lower_behind (waits p) g lower ∙ lo) (upper_behind (waits p) g upper ∙ up))

pub last_waits_are_steps : LastWaitsAreSteps
last_waits_are_steps lead v lower upper s ring ps g rest one_lower one_upper positive all =
    all_read lead v lower upper s ring (lower_of g lower) (upper_of g upper) one_lower one_upper positive 0 ps g rest all refl refl
