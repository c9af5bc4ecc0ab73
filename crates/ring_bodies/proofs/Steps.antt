-- What the two runs do at the pieces of a body.
use Rattle.std.proofs.Common.{◌≡◌, ℕ, zero, suc, ◌+◌, ◌≤◌, ℤ, pos, ◌+ℤ◌, List, [], ◌∷◌, ◌++◌, replicate, refl, sym, ap, ◌∙◌, arith, Bool, true, false}
use Rattle.std.specs.Prelude.{Option, Some, None, if◌then◌else◌}
use Rattle.std.proofs.lemmas.Int.{ints}
use Rattle.std.proofs.lemmas.List.{append_assoc}
use Rattle.affine_ast.specs.declared.name.Name.{Name}
use Rattle.affine_ast.specs.declared.types.Bound.{Bound}
use Rattle.affine_ast.specs.Nest.{Nest, Nothing, Does, followed_by}
use Rattle.affine_ast.specs.Sizes.{product}
use Rattle.bus_model.specs.declared.transfer.Transfer.{Transfer}
use Rattle.direct_meaning.specs.Action.{Action, Allocates, AllocatesTags, Known, Starts, Waits}
use Rattle.direct_meaning.specs.Static.{Env, knows, number}
use Rattle.direct_meaning.specs.Actions.{action_of, actions, after, after_plain, dealloc_of, wait_of}
use Rattle.direct_meaning.specs.Turns.{gap}
use Rattle.direct_meaning.proofs.Laws.{actions-followed}
use Rattle.placement_texts.specs.Own.{MadeNames}
use Rattle.placement_texts.specs.Template.{Dimension, How, Copies, Placement, Transfers, allocs, before, behind_loop, constant_count, constants, count_name, deallocs, dim_extents, fast_type, place_statement, places_count, places_from, read_in, start_in, start_out, tag_name, tag_type, where_so, write_out}
use Rattle.placement_texts.proofs.Follows.{apart_own}
use Rattle.placement_texts.proofs.PlaceRun.{other_name, places_env, places_homes, places_keep, places_run, sym_false}
use Rattle.placement_texts.proofs.Ready.{chunk_env, constants_env}
use Rattle.step_runs.specs.Stage.{Stage, image}
use Rattle.step_runs.specs.Steps.{Alone, Joins, Leaves, Step, first_list, second_list}
use Rattle.ring_runs.specs.Places.{ring_place}
use Rattle.ring_runs.specs.Template.{closed, opened, own_knowns, written}
use Rattle.ring_runs.proofs.Lists.{first-append, second-append}
use Rattle.ring_plans.specs.Rings.{late_wait, wait_for}
use Rattle.ring_scripts.specs.Texts.{ring_start_out}
use Rattle.ring_scripts.proofs.Places.{tag_in_ring}
use Rattle.ring_bodies.specs.Pieces.{Piece, chunks_of, in_row, ring_piece, single_piece}
use Rattle.ring_bodies.specs.Steps.{AllDo, ClosesHere, ClosingsAreSteps, OpeningsAreSteps, OpensInward, TurnsByPieces, both_knowns, front_text, half_sizes, opening, pieces_of, start_in_of, steps_of, wait_of_template}
use Rattle.ring_bodies.proofs.Pieces.{bodies_by_pieces}

-- ---- readings of the steps
both_first : (ring : ℕ → ℕ → Transfer) (n : ℕ) → first_list ring (both_knowns n) ≡ replicate n Known
both_first ring zero = refl
both_first ring (suc n) = ap (λ l. Known ∷ l) (both_first ring n)

both_second : (ring : ℕ → ℕ → Transfer) (n : ℕ) → second_list ring (both_knowns n) ≡ replicate n Known
both_second ring zero = refl
both_second ring (suc n) = ap (λ l. Known ∷ l) (both_second ring n)

own_first : (ring : ℕ → ℕ → Transfer) (n : ℕ) (xs : List Step) → first_list ring (own_knowns n ++ xs) ≡ replicate n Known ++ first_list ring xs
own_first ring zero xs = refl
own_first ring (suc n) xs = ap (λ l. Known ∷ l) (own_first ring n xs)

own_second : (ring : ℕ → ℕ → Transfer) (n : ℕ) (xs : List Step) → second_list ring (own_knowns n ++ xs) ≡ second_list ring xs
own_second ring zero xs = refl
own_second ring (suc n) xs = own_second ring n xs

-- ---- the template before the transfer
module _ (p : Placement) where
  either : (c : Bool) (x y b : Nest) → (if c then followed_by x b else followed_by y b) ≡ followed_by (if c then x else y) b
  either true x y b = refl
  either false x y b = refl

  place_followed : (k : ℕ) (d : Dimension) (ts : List (Name × ℤ)) (rest b : Nest) → place_statement p.name k d ts (followed_by rest b) ≡ followed_by (place_statement p.name k d ts rest) b
  place_followed k d [] rest b = refl
  place_followed k d (t ∷ ts) rest b = either d.clamped _ _ b

  places_followed : (k : ℕ) (ds : List Dimension) (rest b : Nest) → places_from p.name k ds (followed_by rest b) ≡ followed_by (places_from p.name k ds rest) b
  places_followed k [] rest b = refl
  places_followed k (d ∷ ds) rest b = ap (place_statement p.name k d d.terms) (places_followed (suc k) ds rest b) ∙ place_followed k d d.terms (places_from p.name (suc k) ds rest) b

  middle_followed : (how : How) (rest b : Nest) → constants p how (allocs p how (followed_by rest b)) ≡ followed_by (constants p how (allocs p how rest)) b
  middle_followed Copies rest b = refl
  middle_followed (Transfers None) rest b = refl
  middle_followed (Transfers (Some two)) rest b = refl

  front_followed : (b : Nest) → front_text p b ≡ followed_by (front_text p Nothing) b
  front_followed b = ap (places_from p.name 0 p.dims) (middle_followed p.how Nothing b) ∙ places_followed 0 p.dims (constants p p.how (allocs p p.how Nothing)) b

  chunks_run : (chunks : Option (ℕ × ℕ)) (rest : Nest) (g : Env)
      → actions (constants p (Transfers chunks) rest) g ≡ replicate (constant_count p (Transfers chunks)) Known ++ actions rest (constants_env p (Transfers chunks) g)
  unfolding actions action_of after_plain
  chunks_run None rest g = refl
  chunks_run (Some two) rest g = refl

  chunks_fasts : (chunks : Option (ℕ × ℕ)) (g : Env) → (chunk_env p chunks g).fasts ≡ g.fasts
  chunks_fasts None g = refl
  chunks_fasts (Some two) g = refl

  chunks_tags : (chunks : Option (ℕ × ℕ)) (g : Env) → (chunk_env p chunks g).tags ≡ g.tags
  chunks_tags None g = refl
  chunks_tags (Some two) g = refl

  allocs_are : (chunks : Option (ℕ × ℕ)) (g : Env) → actions (allocs p (Transfers chunks) Nothing) g ≡ Allocates g.fasts p.element (half_sizes p) ∷ AllocatesTags g.tags 1 ∷ []
  unfolding actions action_of after_plain
  allocs_are chunks g = refl

  module _ (own : Name → Bool) (names : MadeNames own p.name) where
    front_is : (chunks : Option (ℕ × ℕ)) (how : How) → how ≡ Transfers chunks → (e : Env)
        → actions (places_from p.name 0 p.dims (constants p how (allocs p how Nothing))) e
        ≡ replicate (places_count p.name p.dims) Known ++ (replicate (constant_count p how) Known ++ (Allocates e.fasts p.element (half_sizes p) ∷ AllocatesTags e.tags 1 ∷ []))
    front_is chunks how is e =
        let g = places_env p.name 0 p.dims e in
        let g1 = knows g (count_name p.name) (pos (product (dim_extents p.dims))) in
        let h = places_homes p.name own names 0 p.dims e in
        ap (λ how. actions (places_from p.name 0 p.dims (constants p how (allocs p how Nothing))) e) is
        ∙ places_run p.name 0 p.dims (constants p (Transfers chunks) (allocs p (Transfers chunks) Nothing)) e
        ∙ ap (λ l. replicate (places_count p.name p.dims) Known ++ l)
        (chunks_run chunks (allocs p (Transfers chunks) Nothing) g
        ∙ ap (λ l. replicate (constant_count p (Transfers chunks)) Known ++ l)
        (allocs_are chunks (constants_env p (Transfers chunks) g)
        ∙ (λ i. Allocates ((chunks_fasts chunks g1 ∙ h.fasts) i) p.element (half_sizes p) ∷ AllocatesTags ((chunks_tags chunks g1 ∙ h.tags) i) 1 ∷ [])))
        ∙ ap (λ how. replicate (places_count p.name p.dims) Known ++ (replicate (constant_count p how) Known ++ (Allocates e.fasts p.element (half_sizes p) ∷ AllocatesTags e.tags 1 ∷ []))) (sym is)

-- ---- an inward placement opens
module _ (buffers : ℕ) (v : Name) (lower upper : Bound) (s : ℕ) (own : Name → Bool) (t : ℤ) (ring : ℕ → ℕ → Transfer) (i j : ℕ) (p : Placement) (brings : Transfer) (e g : Env) (some : 1 ≤ buffers)
    (c : OpensInward buffers v lower upper s own t ring i j p brings e g) where
  abbrev chunks : Option (ℕ × ℕ)
  chunks = (c.doubled).chunks

  abbrev names : MadeNames own p.name
  names = (c.doubled).names

  abbrev joins : List Step
  joins = Alone (Allocates brings.fast p.element (half_sizes p)) ∷ Alone (AllocatesTags brings.tag 1) ∷ Joins i j brings ∷ []

  abbrev reading : Nest
  reading = Does 0 (start_in_of p) (Does 0 (wait_of_template p) Nothing)

  reads_so : before p Nothing ≡ front_text p reading
  reads_so =
      let parts : where_so p p.reads (read_in p p.how) Nothing ≡ reading =
      ap (λ r. where_so p r (read_in p p.how) Nothing) c.reads
      ∙ (let is = (c.doubled).how in ap (λ how. followed_by (read_in p how) Nothing) is ∙ ap (λ cs. followed_by (start_in p cs) Nothing) (sym (ap chunks_of is))) in
      ap (front_text p) parts

  first_is : first_list ring (opening buffers v lower upper s own t ring i j p brings) ≡ actions (before p Nothing) e
  unfolding actions after_plain
  first_is =
      let n = places_count p.name p.dims in
      let m = constant_count p p.how in
      let here = after (front_text p Nothing) e in
      let opens = Allocates brings.fast p.element (half_sizes p) ∷ AllocatesTags brings.tag 1 ∷ [] in
      let rest = Starts brings ∷ Waits brings.tag brings.count ∷ [] in
      first-append ring (both_knowns n) (opened i j brings p.element (half_sizes p) m)
      ∙ (λ k. both_first ring n k ++ own_first ring m joins k)
      ∙ ap (λ l. replicate n Known ++ l) (sym (append_assoc (replicate m Known) opens rest))
      ∙ sym (append_assoc (replicate n Known) (replicate m Known ++ opens) rest)
      ∙ (λ k. (replicate n Known ++ (replicate m Known ++ (Allocates (c.fast_new k) p.element (half_sizes p) ∷ AllocatesTags (c.tag_new k) 1 ∷ []))) ++ (sym c.start k ∷ sym c.wait k ∷ []))
      ∙ (λ k. sym (front_is p own names chunks p.how (c.doubled).how e) k ++ actions reading here)
      ∙ sym (actions-followed (front_text p Nothing) reading e)
      ∙ ap (λ x. actions x e) (sym (reads_so ∙ front_followed p reading))

  abbrev behind : Env
  behind = places_env p.name 0 p.dims g

  turn_known : behind.known v ≡ Some t
  turn_known = places_keep p.name own names 0 p.dims g v (λ k l. sym_false (p.name k) v (apart_own own v (p.name k) c.own_turn (names.made k))) ∙ c.turn

  count_known : behind.known (count_name p.name) ≡ g.known (count_name p.name)
  count_known = places_keep p.name own names 0 p.dims g (count_name p.name) (λ k l. other_name p.name own names k 2 (λ is. omega (arith, l, is)))

  wait_is : actions (wait_for buffers v lower upper (pos s) p Nothing) behind ≡ Waits (ring i j).tag (ring i j).count ∷ []
  unfolding actions action_of
  wait_is =
      let still : t +ℤ pos 0 ≡ t = omega (arith, ints) in
      let home = ap (λ f. f (tag_name p.name)) (places_homes p.name own names 0 p.dims g).home ∙ c.tag in
      let tag = tag_in_ring behind buffers v (tag_name p.name) lower upper s (pos 0) t c.first_tag some turn_known home ∙ ap (λ x. Some (c.first_tag + ring_place x s buffers)) still ∙ ap Some (sym c.is_tag) in
      let count = ap (λ x. gap (number x)) count_known ∙ sym c.is_count in
      (λ k. wait_of (tag k) (count k) ∷ [])

  second_is : second_list ring (opening buffers v lower upper s own t ring i j p brings) ≡ actions (places_from p.name 0 p.dims (if p.reads then wait_for buffers v lower upper (pos s) p Nothing else late_wait buffers v lower upper (pos s) p Nothing)) g
  second_is =
      let n = places_count p.name p.dims in
      second-append ring (both_knowns n) (opened i j brings p.element (half_sizes p) (constant_count p p.how))
      ∙ (λ k. both_second ring n k ++ own_second ring (constant_count p p.how) joins k)
      ∙ ap (λ l. replicate n Known ++ l) (sym wait_is)
      ∙ sym (places_run p.name 0 p.dims (wait_for buffers v lower upper (pos s) p Nothing) g)
      ∙ ap (λ r. actions (places_from p.name 0 p.dims (if r then wait_for buffers v lower upper (pos s) p Nothing else late_wait buffers v lower upper (pos s) p Nothing)) g) (sym c.reads)

pub openings_are_steps : OpeningsAreSteps
openings_are_steps buffers v lower upper s own t ring i j p brings e g some c = (first_is buffers v lower upper s own t ring i j p brings e g some c, second_is buffers v lower upper s own t ring i j p brings e g some c)

-- ---- a placement closes
module _ (buffers : ℕ) (v : Name) (lower upper : Bound) (s : ℕ) (own : Name → Bool) (stage : Stage) (ring : ℕ → ℕ → Transfer) (i j : ℕ) (p : Placement) (w : Transfer) (e g : Env)
    (c : ClosesHere buffers v lower upper s own stage ring i j p w e g) where
  releases : (chunks : Option (ℕ × ℕ)) → actions (deallocs p (Transfers chunks) Nothing) e ≡ first_list ring (closed w p.element (half_sizes p))
  unfolding actions action_of after_plain
  releases chunks = λ k. dealloc_of (c.fast k) (fast_type p) ∷ dealloc_of (c.tag k) tag_type ∷ []

  abbrev leaving : Bool → Bool → List Step
  leaving x y = if x then (if y then written stage w else Leaves i j w ∷ []) else []

  -- the first run
  out_first : (x y : Bool) (chunks : Option (ℕ × ℕ)) → p.writes ≡ x → p.how ≡ Transfers chunks
      → actions (where_so p x (write_out p (Transfers chunks)) (deallocs p (Transfers chunks) Nothing)) e ≡ first_list ring (leaving x y) ++ first_list ring (closed w p.element (half_sizes p))
  unfolding actions after_plain
  out_first false y chunks x how = releases chunks
  out_first true y chunks x how =
      ap (λ cs. actions (followed_by (start_out p cs) (deallocs p (Transfers chunks) Nothing)) e) (sym (ap chunks_of how))
      ∙ (λ k. c.start x k ∷ c.wait x k ∷ releases chunks k)
      ∙ same y
    where
      same : (y : Bool) → Starts w ∷ Waits w.tag w.count ∷ first_list ring (closed w p.element (half_sizes p)) ≡ first_list ring (leaving true y) ++ first_list ring (closed w p.element (half_sizes p))
      same true = refl
      same false = refl

  first_closes : first_list ring (leaving p.writes p.reads ++ closed w p.element (half_sizes p)) ≡ actions (behind_loop p Nothing) e
  first_closes =
      let d = c.doubled in
      first-append ring (leaving p.writes p.reads) (closed w p.element (half_sizes p))
      ∙ sym (out_first p.writes p.reads d.chunks refl d.how)
      ∙ ap (λ how. actions (where_so p p.writes (write_out p how) (deallocs p how Nothing)) e) (sym d.how)

  -- the second run
  abbrev wait_text : Bool → Nest
  wait_text y = if y then wait_for buffers v lower upper (pos s) p Nothing else Nothing

  out_second : (y : Bool) → p.writes ≡ true → p.reads ≡ y → actions (ring_start_out buffers v lower upper (pos s) p (chunks_of p.how) (wait_text y)) g ≡ second_list ring (leaving true y)
  unfolding actions after_plain
  out_second true x y = (λ k. c.ring_start x k ∷ c.ring_wait x y k ∷ []) ∙ ap (λ r. Starts (if r then image stage w else ring i j) ∷ Waits (stage.tag w.tag) w.count ∷ []) y
  out_second false x y = (λ k. c.ring_start x k ∷ []) ∙ ap (λ r. Starts (if r then image stage w else ring i j) ∷ []) y

  both_out : (x : Bool) → p.writes ≡ x → actions (if x then ring_start_out buffers v lower upper (pos s) p (chunks_of p.how) (wait_text p.reads) else Nothing) g ≡ second_list ring (leaving x p.reads)
  unfolding actions
  both_out true x = out_second p.reads x refl
  both_out false x = refl

  second_closes : second_list ring (leaving p.writes p.reads ++ closed w p.element (half_sizes p)) ≡ actions (if p.writes then ring_start_out buffers v lower upper (pos s) p (chunks_of p.how) (wait_text p.reads) else Nothing) g
  second_closes = second-append ring (leaving p.writes p.reads) (closed w p.element (half_sizes p)) ∙ none (second_list ring (leaving p.writes p.reads)) ∙ sym (both_out p.writes refl)
    where
      none : (xs : List Action) → xs ++ [] ≡ xs
      none [] = refl
      none (x ∷ xs) = ap (λ l. x ∷ l) (none xs)

pub closings_are_steps : ClosingsAreSteps
closings_are_steps buffers v lower upper s own stage ring i j p w e g c = (first_closes buffers v lower upper s own stage ring i j p w e g c, second_closes buffers v lower upper s own stage ring i j p w e g c)

-- ---- a turn
module _ (buffers : ℕ) (v : Name) (lower upper : Bound) (s : ℤ) (ring : ℕ → ℕ → Transfer) (ps : List Placement) where
  firsts : (xs : List (Piece × List Step)) (e g : Env) → AllDo buffers v lower upper s ring ps xs e g → first_list ring (steps_of xs) ≡ actions (in_row single_piece (pieces_of xs)) e
  unfolding actions
  firsts [] e g h = refl
  firsts (x ∷ xs) e g h =
      first-append ring x.1 (steps_of xs)
      ∙ (λ k. h.0 k ++ firsts xs (after (single_piece x.0) e) (after (ring_piece buffers v lower upper s ps x.0) g) h.2 k)
      ∙ sym (actions-followed (single_piece x.0) (in_row single_piece (pieces_of xs)) e)

  seconds : (xs : List (Piece × List Step)) (e g : Env) → AllDo buffers v lower upper s ring ps xs e g → second_list ring (steps_of xs) ≡ actions (in_row (ring_piece buffers v lower upper s ps) (pieces_of xs)) g
  unfolding actions
  seconds [] e g h = refl
  seconds (x ∷ xs) e g h =
      second-append ring x.1 (steps_of xs)
      ∙ (λ k. h.1 k ++ seconds xs (after (single_piece x.0) e) (after (ring_piece buffers v lower upper s ps x.0) g) h.2 k)
      ∙ sym (actions-followed (ring_piece buffers v lower upper s ps x.0) (in_row (ring_piece buffers v lower upper s ps) (pieces_of xs)) g)

pub turns_by_pieces : TurnsByPieces
turns_by_pieces own buffers v lower upper s ring ps xs e g d pieces h =
    (firsts buffers v lower upper s ring ps xs e g h, seconds buffers v lower upper s ring ps xs e g h ∙ ap (λ n. actions n g) (sym (bodies_by_pieces own buffers v lower upper s ps (pieces_of xs) d pieces)))
