-- The turns of a loop with rings, and the run of its text.
use Rattle.std.proofs.Common.{◌≡◌, ℕ, zero, suc, ◌+◌, ◌*◌, ◌-◌, ◌<◌, ◌≤◌, ℤ, pos, ◌*ℤ◌, List, [], ◌∷◌, ◌++◌, length, refl, sym, ap, ◌∙◌, subst, arith, Bool, true, false}
use Rattle.std.specs.Prelude.{flat_map, if◌then◌else◌}
use Rattle.std.proofs.lemmas.Bool.{ne_eqb}
use Rattle.affine_ast.specs.declared.name.Name.{Name}
use Rattle.affine_ast.specs.declared.types.Bound.{Bound}
use Rattle.affine_ast.specs.Nest.{Nest, Nothing, Loop}
use Rattle.bus_model.specs.declared.transfer.Transfer.{Transfer}
use Rattle.direct_meaning.specs.Action.{Action, Known, Sets, Loads, Stores, RawLoads, RawStores, Operates, Converts, Allocates, Releases, AllocatesTags, ReleasesTags, Starts, Waits, Faults, Returns}
use Rattle.direct_meaning.specs.Static.{Env, knows, lower_of, upper_of}
use Rattle.direct_meaning.specs.Actions.{actions, behind}
use Rattle.direct_meaning.specs.Direct.{folded}
use Rattle.direct_meaning.specs.Turns.{turns}
use Rattle.direct_meaning.proofs.Laws.{actions-Loop}
use Rattle.loop_forms.specs.Laws.{HasOneResult}
use Rattle.loop_forms.specs.Split.{reach, split_of, prologue_end, main_end, epilogue_begin}
use Rattle.loop_forms.specs.Stepped.{turn_total}
use Rattle.placement_texts.specs.Template.{Placement}
use Rattle.prompt_semantics.specs.Prompt.{prompt_step}
use Rattle.step_runs.specs.Stage.{Stage}
use Rattle.step_runs.specs.Steps.{Each, Step, Both, Alone, Made, Ahead, Joins, Leaves, Late, Brings, Takes, Becomes, first_list, second_list, next, moved, load_meets, store_meets, AllowedBoth, AvoidsBoth, AvoidsMade, AvoidsAll, Goes}
use Rattle.step_runs.specs.Related.{Related, Ends}
use Rattle.ring_runs.specs.Facts.{knowns, starts_of}
use Rattle.ring_runs.specs.Ring.{window}
use Rattle.ring_runs.proofs.Facts.{starts, started, quiet_in, quiet_out}
use Rattle.ring_runs.proofs.Lists.{first-append, ring_run}
use Rattle.ring_plans.specs.Rings as rings
use Rattle.ring_plans.specs.Rings.{ring_loops, some_read, twin, twin_text}
use Rattle.ring_scripts.specs.Ahead.{inward_at, pads_at}
use Rattle.ring_scripts.specs.Turns.{KeepsClear, ClearIsCalm, TurnsMakeARing, turn_at, AreTurns, RingTextAgrees}
use Rattle.ring_scripts.proofs.Ahead.{nothing_behind, starts_are_steps}
use Rattle.ring_scripts.proofs.Loops.{loops_are_cut}

-- ---- what keeps clear avoids
module _ (large : ℕ) (ring : ℕ → ℕ → Transfer) (v : Transfer) where
  abbrev Clears : Action → Type 0
  Clears = KeepsClear large ring v

  both_avoids : (a : Action) (s : Stage) → AllowedBoth large ring a s → Clears (moved s a) → AvoidsBoth large ring a s v
  both_avoids Known s c h = tt
  both_avoids (Sets r z) s c h = tt
  both_avoids (Loads r q) s c h = h
  both_avoids (Stores x q) s c h = h
  both_avoids (RawLoads r home sizes subscripts) s c h = λ zs. subst (λ q. load_meets q v ≡ false) (c zs).0 (h zs)
  both_avoids (RawStores x home sizes subscripts) s c h = λ zs. subst (λ q. store_meets q v ≡ false) (c zs).0 (h zs)
  both_avoids (Operates r op bits a b) s c h = tt
  both_avoids (Converts r kind from to x) s c h = tt
  both_avoids (Allocates n element sizes) s c h = h
  both_avoids (Releases n element sizes) s c h = ne_eqb v.fast (s.fast n) h
  both_avoids (AllocatesTags first count) s c h = tt
  both_avoids (ReleasesTags first count) s c h = h
  both_avoids (Starts t) s c h = h
  both_avoids (Waits tag count) s c h = h
  both_avoids (Faults k) s c h = tt
  both_avoids Returns s c h = tt

  made_avoids : (a : Action) → Clears a → AvoidsMade large ring a v
  made_avoids Known h = tt
  made_avoids (Sets r z) h = tt
  made_avoids (Loads r q) h = tt
  made_avoids (Stores x q) h = tt
  made_avoids (RawLoads r home sizes subscripts) h = tt
  made_avoids (RawStores x home sizes subscripts) h = tt
  made_avoids (Operates r op bits a b) h = tt
  made_avoids (Converts r kind from to x) h = tt
  made_avoids (Allocates n element sizes) h = h
  made_avoids (Releases n element sizes) h = ne_eqb v.fast n h
  made_avoids (AllocatesTags first count) h = tt
  made_avoids (ReleasesTags first count) h = h
  made_avoids (Starts t) h = tt
  made_avoids (Waits tag count) h = tt
  made_avoids (Faults k) h = tt
  made_avoids Returns h = tt

  all_avoid : (xs : List Step) (s : Stage) → Goes large ring xs s → Each Clears (second_list ring xs) → AvoidsAll large ring xs s v
  all_avoid [] s g h = tt
  all_avoid (Both a b ∷ xs) s g h = (both_avoids a s (g.1).1 (subst Clears (g.1).0 h.0), all_avoid xs (next (Both a b) s) g.2 h.1)
  all_avoid (Alone a ∷ xs) s g h = (tt, all_avoid xs (next (Alone a) s) g.2 h)
  all_avoid (Made a ∷ xs) s g h = (made_avoids a h.0, all_avoid xs (next (Made a) s) g.2 h.1)
  all_avoid (Ahead i j ∷ xs) s g h = (h.0, all_avoid xs (next (Ahead i j) s) g.2 h.1)
  all_avoid (Joins i j t ∷ xs) s g h = (h.0, all_avoid xs (next (Joins i j t) s) g.2 h.1)
  all_avoid (Leaves i j t ∷ xs) s g h = (h.0, all_avoid xs (next (Leaves i j t) s) g.2 h.1)
  all_avoid (Late i j ∷ xs) s g h = (h.0, all_avoid xs (next (Late i j) s) g.2 h.1)
  all_avoid (Brings t lives ∷ xs) s g h = (h.0, all_avoid xs (next (Brings t lives) s) g.2 h.1.1)
  all_avoid (Takes t ∷ xs) s g h = (h.0, all_avoid xs (next (Takes t) s) g.2 h.1.1)
  all_avoid (Becomes s' ∷ xs) s g h = (tt, all_avoid xs (next (Becomes s') s) g.2 h)

pub clear_is_calm : ClearIsCalm
clear_is_calm large ring xs s v g h = all_avoid large ring v xs s g h

-- ---- a ring
pub turns_make_a_ring : TurnsMakeARing
turns_make_a_ring large ring inward outward lead count base turn number first_tag place pads m facts all go = record {
  turns = go.turns;
  leads = go.leads;
  calm_in = λ k i j here is after within some. clear_is_calm large ring (turn k) (record (base k) { out = _ }) (ring i j) (go.turns k here) (go.clear_in k i j here is after within some);
  calm_out = λ k i j here is before within. clear_is_calm large ring (turn k) (record (base k) { out = _ }) (ring i j) (go.turns k here) (go.clear_out k i j here is before within);
  starts = starts large ring inward outward lead count base number first_tag place facts pads m all;
  started = started large ring inward outward lead count base number first_tag place facts pads m all;
  quiet_in = quiet_in large ring inward outward lead count base number first_tag place facts pads m all;
  quiet_out = quiet_out large ring inward outward lead count base number first_tag place facts pads m all;
}

-- ---- the text
-- the first run does nothing where the second starts ahead
pub still : (ring : ℕ → ℕ → Transfer) (inward : ℕ → Bool) (pads : ℕ → ℕ → ℕ) (m j : ℕ) → first_list ring (starts_of inward pads m j) ≡ []
still ring inward pads zero j = refl
still ring inward pads (suc m) j =
    first-append ring (starts_of inward pads m j) (if inward m then knowns (pads m j) ++ Ahead m j ∷ [] else [])
    ∙ (λ i. still ring inward pads m j i ++ one (inward m) i)
  where
    known : (n : ℕ) → first_list ring (knowns n) ≡ []
    known zero = refl
    known (suc n) = known n

    one : (x : Bool) → first_list ring (if x then knowns (pads m j) ++ Ahead m j ∷ [] else []) ≡ []
    one true = first-append ring (knowns (pads m j)) (Ahead m j ∷ []) ∙ ap (λ l. l ++ []) (known (pads m j))
    one false = refl

reach_is : (s lead : ℕ) → reach (pos s) (suc lead) ≡ pos (lead * s)
reach_is s lead = let e : suc lead - 1 ≡ lead = omega arith in ap (λ n. pos n *ℤ pos s) e

module _ (own kept : Name → Bool) (ring : ℕ → ℕ → Transfer) (v : Name) (lower upper : Bound) (s lead : ℕ) (ps : List Placement) (turn : ℕ → List Step) (body body' : Nest) (e g : Env)
    (one_lower : HasOneResult lower) (one_upper : HasOneResult upper) (positive : 1 ≤ s) (some : 1 ≤ lead) (reads : some_read (suc lead) v lower upper (pos s) ps ≡ true)
    (are : AreTurns own kept ring v lower upper s lead ps turn body body' e g) where
  abbrev a : ℤ
  a = lower_of e lower

  abbrev b : ℤ
  b = upper_of e upper

  abbrev total : ℕ
  total = turn_total a b s

  abbrev ahead : ℕ → List Step
  ahead j = starts_of (inward_at ps) (pads_at ps) (length ps) j

  abbrev starts_text : Nest
  starts_text = rings.started (suc lead) v lower upper (pos s) twin (pos 0) ps Nothing

  abbrev main_text : ℤ → Nest
  main_text z = rings.started (suc lead) v lower upper (pos s) (λ n. n) z ps body'

  abbrev g1 : Env
  g1 = behind starts_text g

  abbrev g2 : Env
  g2 = behind (main_text (reach (pos s) (suc lead))) g1

  abbrev of_single : ℤ → List Action
  of_single t = actions body (knows e v t)

  abbrev of_starts : ℤ → List Action
  of_starts t = actions starts_text (knows g v t)

  abbrev of_main : ℤ → List Action
  of_main t = actions (main_text (reach (pos s) (suc lead))) (knows g1 v t)

  abbrev of_last : ℤ → List Action
  of_last t = actions (twin_text body') (knows g2 v t)

  firsts : (k : ℕ) → k < total → first_list ring (turn k) ≡ of_single (turn_at a s k)
  firsts = are.single

  heads : (j : ℕ) → j < lead → j < total → second_list ring (ahead j) ≡ of_starts (turn_at a s j)
  unfolding actions
  heads j low here =
      let r = starts_are_steps own kept (suc lead) v lower upper s (pos 0) (turn_at a s j) twin ring j ps (knows g v (turn_at a s j)) Nothing (omega arith) (are.first j low here) in
      sym (r.2 ∙ nothing_behind (second_list ring (ahead j)))

  mains : (k : ℕ) → k + lead < total → second_list ring (ahead (k + lead)) ++ second_list ring (turn k) ≡ of_main (turn_at a s k)
  mains k here =
      let r = starts_are_steps own kept (suc lead) v lower upper s (pos (lead * s)) (turn_at a s k) (λ n. n) ring (k + lead) ps (knows g1 v (turn_at a s k)) body' (omega arith) (are.ahead k here) in
      ap (λ l. second_list ring (ahead (k + lead)) ++ l) (are.main k here r.0 r.1)
      ∙ sym r.2
      ∙ ap (λ z. actions (main_text z) (knows g1 v (turn_at a s k))) (sym (reach_is s lead))

  lasts : (k : ℕ) → total ≤ k + lead → k < total → second_list ring (turn k) ≡ of_last (turn_at a s k)
  lasts = are.last

  single_is : (line : ℕ) → actions (Loop line v lower upper (pos s) body Nothing) e ≡ flat_map of_single (turns a b (pos s))
  unfolding actions
  single_is line = actions-Loop line v lower upper (pos s) body Nothing e ∙ nothing_behind (flat_map of_single (turns a b (pos s)))

  abbrev three : ℤ → ℤ → List Action
  three a b = flat_map of_starts (turns a (prologue_end a b (pos s) (suc lead)) (pos s)) ++ (flat_map of_main (turns a (main_end b (pos s) (suc lead)) (pos s)) ++ flat_map of_last (turns (epilogue_begin a b (pos s) (suc lead)) b (pos s)))

  rings_are : (line : ℕ) → actions (ring_loops (suc lead) v lower upper (pos s) ps line body' Nothing) g ≡ three a b
  unfolding actions
  rings_are line =
      let parts = split_of lower upper (pos s) (suc lead) in
      ap (λ t. actions (if t
      then Loop 0 v parts.prologue.0 parts.prologue.1 (pos s) starts_text
      (Loop line v parts.main.0 parts.main.1 (pos s) (main_text (reach (pos s) (suc lead)))
      (Loop 0 v parts.epilogue.0 parts.epilogue.1 (pos s) (twin_text body') Nothing))
      else Loop line v lower upper (pos s) body' Nothing) g) reads
      ∙ loops_are_cut g v lower upper s lead line starts_text (main_text (reach (pos s) (suc lead))) (twin_text body') Nothing one_lower one_upper positive some
      ∙ (let x = lower_of g lower in let y = upper_of g upper in
      ap (λ l. flat_map of_starts (turns x (prologue_end x y (pos s) (suc lead)) (pos s)) ++ (flat_map of_main (turns x (main_end y (pos s) (suc lead)) (pos s)) ++ l))
      (nothing_behind (flat_map of_last (turns (epilogue_begin x y (pos s) (suc lead)) y (pos s)))))
      ∙ (λ i. three (are.lowers i) (are.uppers i))

pub ring_text_agrees : RingTextAgrees
ring_text_agrees filler small large line line' own kept ring outward v lower upper s lead ps base turn body body' e g one_lower one_upper positive some reads keeps are d y h =
    let a = lower_of e lower in
    let b = upper_of e upper in
    let R = Related ring (record (base (turn_total a b s)) { out = window (inward_at ps) outward (suc lead) (turn_total a b s) (turn_total a b s) }) in
    let run = ring_run ring filler small large (inward_at ps) outward lead base (ahead own kept ring v lower upper s lead ps turn body body' e g one_lower one_upper positive some reads are) turn a b s
    (of_single own kept ring v lower upper s lead ps turn body body' e g one_lower one_upper positive some reads are)
    (of_starts own kept ring v lower upper s lead ps turn body body' e g one_lower one_upper positive some reads are)
    (of_main own kept ring v lower upper s lead ps turn body body' e g one_lower one_upper positive some reads are)
    (of_last own kept ring v lower upper s lead ps turn body body' e g one_lower one_upper positive some reads are)
    positive some keeps (still ring (inward_at ps) (pads_at ps) (length ps))
    (firsts own kept ring v lower upper s lead ps turn body body' e g one_lower one_upper positive some reads are)
    (heads own kept ring v lower upper s lead ps turn body body' e g one_lower one_upper positive some reads are)
    (mains own kept ring v lower upper s lead ps turn body body' e g one_lower one_upper positive some reads are)
    (lasts own kept ring v lower upper s lead ps turn body body' e g one_lower one_upper positive some reads are) d y h in
    subst (λ xs. Ends R (folded (prompt_step filler small) xs d) (folded (prompt_step filler large) (actions (ring_loops (suc lead) v lower upper (pos s) ps line' body' Nothing) g) y))
    (sym (single_is own kept ring v lower upper s lead ps turn body body' e g one_lower one_upper positive some reads are line))
    (subst (λ xs. Ends R (folded (prompt_step filler small) (flat_map (of_single own kept ring v lower upper s lead ps turn body body' e g one_lower one_upper positive some reads are) (turns a b (pos s))) d) (folded (prompt_step filler large) xs y))
    (sym (rings_are own kept ring v lower upper s lead ps turn body body' e g one_lower one_upper positive some reads are line')) run)
