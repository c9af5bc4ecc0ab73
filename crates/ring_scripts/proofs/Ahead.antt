-- The starts ahead are the steps of a ring's starts.
use Rattle.std.proofs.Common.{◌≡◌, ℕ, zero, suc, ◌+◌, ◌<◌, ◌≤◌, ℤ, pos, ◌+ℤ◌, List, [], ◌∷◌, ◌++◌, length, replicate, refl, sym, ap, ◌∙◌, subst, arith, Bool, true, false}
use Rattle.std.specs.Prelude.{Option, Some, None, if◌then◌else◌}
use Rattle.std.proofs.lemmas.List.{append_assoc}
use Rattle.affine_ast.specs.declared.name.Name.{Name}
use Rattle.affine_ast.specs.declared.types.Bound.{Bound}
use Rattle.affine_ast.specs.Names.{same_name}
use Rattle.affine_ast.specs.Nest.{Nest}
use Rattle.bus_model.specs.declared.transfer.Transfer.{Transfer}
use Rattle.direct_meaning.specs.Action.{Action, Known, Starts}
use Rattle.direct_meaning.specs.Static.{Env}
use Rattle.direct_meaning.specs.Actions.{actions}
use Rattle.placement_texts.specs.Own.{MadeNames}
use Rattle.placement_texts.specs.Template.{Dimension, Placement, count_name, places_count, statement_count}
use Rattle.placement_texts.proofs.Follows.{apart_own}
use Rattle.placement_texts.proofs.PlaceRun.{sym_false}
use Rattle.step_runs.specs.Steps.{Step, Ahead, second_list}
use Rattle.ring_runs.specs.Facts.{knowns, starts_of}
use Rattle.ring_runs.specs.Places.{ring_place}
use Rattle.ring_runs.proofs.Lists.{second-append}
use Rattle.ring_plans.specs.Rings.{dims_later, start_later, started}
use Rattle.ring_scripts.specs.Starts.{AreBeside, IsAhead, IsBehindPlaces, IsBeside, with_place}
use Rattle.ring_scripts.specs.Ahead.{inward_at, pads_at, AreKept, names_ahead, stride_ahead, StartsThere, AllStart, IsPast, StartsAreSteps}
use Rattle.ring_scripts.proofs.Starts.{starts_ahead}

-- ---- the steps, placement by placement
abbrev one_start : ℕ → Placement → ℕ → List Step
one_start i p j = if p.reads then knowns (places_count p.name p.dims) ++ Ahead i j ∷ [] else []

abbrev starts_from : ℕ → List Placement → ℕ → List Step
starts_from i [] j = []
starts_from i (p ∷ ps) j = one_start i p j ++ starts_from (suc i) ps j

pub nothing_behind : {A : Type 0} (xs : List A) → xs ++ [] ≡ xs
nothing_behind [] = refl
nothing_behind (x ∷ xs) = ap (λ l. x ∷ l) (nothing_behind xs)

all_starts : (inward : ℕ → Bool) (pads : ℕ → ℕ → ℕ) (i j : ℕ) (ps : List Placement) → ((k : ℕ) → k < length ps → inward (i + k) ≡ inward_at ps k) → ((k : ℕ) → k < length ps → pads (i + k) j ≡ pads_at ps k j)
    → starts_of inward pads (i + length ps) j ≡ starts_of inward pads i j ++ starts_from i ps j
all_starts inward pads i j [] h k = (let e : i + 0 ≡ i = omega arith in ap (λ n. starts_of inward pads n j) e) ∙ sym (nothing_behind (starts_of inward pads i j))
all_starts inward pads i j (p ∷ ps) h k =
    let e : i + suc (length ps) ≡ suc i + length ps = omega arith in
    let z : i + 0 ≡ i = omega arith in
    let reads : inward i ≡ p.reads = ap inward (sym z) ∙ h 0 (omega arith) in
    let count : pads i j ≡ places_count p.name p.dims = ap (λ n. pads n j) (sym z) ∙ k 0 (omega arith) in
    ap (λ n. starts_of inward pads n j) e
    ∙ all_starts inward pads (suc i) j ps (λ n lt. (let f : suc i + n ≡ i + suc n = omega arith in ap inward f ∙ h (suc n) (omega (arith, lt)))) (λ n lt. (let f : suc i + n ≡ i + suc n = omega arith in ap (λ m. pads m j) f ∙ k (suc n) (omega (arith, lt))))
    ∙ (λ l. (starts_of inward pads i j ++ (if reads l then knowns (count l) ++ Ahead i j ∷ [] else [])) ++ starts_from (suc i) ps j)
    ∙ append_assoc (starts_of inward pads i j) (one_start i p j) (starts_from (suc i) ps j)

count_later : (name name' : ℕ → Name) (v : Name) (z : ℤ) (ds : List Dimension) → places_count name (dims_later v z ds) ≡ places_count name' ds
count_later name name' v z [] = refl
count_later name name' v z (d ∷ ds) = λ i. one d.terms i + count_later name name' v z ds i
  where
    one : (ts : List (Name × ℤ)) → statement_count name (record d { offset = d.offset }) ts ≡ statement_count name' d ts
    one [] = refl
    one (t ∷ ts) = refl

knowns_are : (ring : ℕ → ℕ → Transfer) (n : ℕ) → second_list ring (knowns n) ≡ replicate n Known
knowns_are ring zero = refl
knowns_are ring (suc n) = ap (λ l. Known ∷ l) (knowns_are ring n)

module _ (own kept : Name → Bool) (buffers : ℕ) (v : Name) (lower upper : Bound) (s : ℕ) (z t : ℤ) (change : Name → Name) (ring : ℕ → ℕ → Transfer) (j : ℕ) (some : 1 ≤ buffers) where
  abbrev Past : Env → Env → Type 0
  Past = IsPast own kept buffers v lower upper s z t change ring j

  abbrev There : ℕ → Placement → Env → Type 0
  There = StartsThere own kept buffers v lower upper s z t change ring j

  abbrev All : ℕ → List Placement → Env → Type 0
  All = AllStart own kept buffers v lower upper s z t change ring j

  abbrev name : Placement → ℕ → Name
  name = names_ahead own kept buffers v lower upper s z t change ring j

  abbrev stride : Placement → Option (Name × Name)
  stride = stride_ahead own kept buffers v lower upper s z t change ring j

  here : (g : Env) → Past g g
  here g = record { home = refl; fasts = refl; tags = refl; own_known = λ n h. refl; kept_known = λ n h. refl }

  past_more : (g h l : Env) → Past g h → Past h l → Past g l
  past_more g h l p q = record {
    home = q.home ∙ p.home;
    fasts = q.fasts ∙ p.fasts;
    tags = q.tags ∙ p.tags;
    own_known = λ n o. q.own_known n o ∙ p.own_known n o;
    kept_known = λ n o. q.kept_known n o ∙ p.kept_known n o;
  }

  past_places : (i : ℕ) (p : Placement) (g h : Env) → There i p g → IsBehindPlaces (name p) g h → Past g h
  past_places i p g h c b = record {
    home = b.home;
    fasts = b.fasts;
    tags = b.tags;
    own_known = λ n o. b.known n (λ k l. sym_false (name p k) n (apart_own own n (name p k) o ((c.ahead).names.made k)));
    kept_known = λ n o. b.known n (λ k l. sym_false (name p k) n (apart_own kept n (name p k) o (c.places_apart k l)));
  }

  beside_stays : (p : Placement) (e g h : Env) (n : Name) → Past g h → kept n ≡ true → IsBeside (name p) e g n → IsBeside (name p) e h n
  beside_stays p e g h n q o b = (q.kept_known n o ∙ b.0, b.1)

  chunks_stay : (p : Placement) (e g h : Env) (o : Option (Name × Name)) → Past g h → AreKept own kept buffers v lower upper s z t change ring j o → AreBeside (name p) e g o → AreBeside (name p) e h o
  chunks_stay p e g h None q k b = tt
  chunks_stay p e g h (Some two) q k b = (beside_stays p e g h two.0 q k.0 b.0, beside_stays p e g h two.1 q k.1 b.1)

  there_stays : (i : ℕ) (p : Placement) (g h : Env) → Past g h → There i p g → There i p h
  there_stays i p g h q c =
      let a = c.ahead in
      let l = a.later in
      let e = c.then_env in
      record {
        order = c.order;
        first = c.first;
        single = c.single;
        number = c.number;
        first_tag = c.first_tag;
        then_env = c.then_env;
        brings = c.brings;
        ahead = record {
          later = record { now = q.own_known v a.own_turn ∙ l.now; then_is = l.then_is; same = λ n o d. q.own_known n o ∙ l.same n o d };
          own_turn = a.own_turn;
          names = a.names;
          dims = a.dims;
          once = a.once;
          places = a.places;
          slow_then = a.slow_then;
          slow_now = ap (λ f. f p.memref) q.home ∙ a.slow_now;
          fast_then = a.fast_then;
          fast_now = ap (λ f. f (p.name 0)) q.home ∙ a.fast_now;
          tag_now = ap (λ f. f (p.name 1)) q.home ∙ a.tag_now;
          count = beside_stays p e g h (count_name p.name) q c.count_kept a.count;
          chunks = chunks_stay p e g h (stride p) q c.chunks_kept a.chunks;
        };
        start = c.start;
        is = c.is;
        count_kept = c.count_kept;
        chunks_kept = c.chunks_kept;
        places_apart = c.places_apart;
      }

  all_stay : (i : ℕ) (ps : List Placement) (g h : Env) → Past g h → All i ps g → All i ps h
  all_stay i [] g h q c = tt
  all_stay i (p ∷ ps) g h q c = (λ r. there_stays i p g h q (c.0 r), all_stay (suc i) ps g h q c.1)

  abbrev Reads : ℕ → List Placement → Env → Nest → Type 0
  Reads i ps g rest = (h : Env) × Past g h × (actions (started buffers v lower upper (pos s) change z ps rest) g ≡ second_list ring (starts_from i ps j) ++ actions rest h)

  -- one start, before others
  start_reads : (i : ℕ) (p : Placement) (ps : List Placement) (g : Env) (rest : Nest) → p.reads ≡ true → There i p g → ((h : Env) → Past g h → Reads (suc i) ps h rest) → Reads i (p ∷ ps) g rest
  start_reads i p ps g rest r c more =
      let turn = ring_place (t +ℤ z) s buffers in
      let inner = started buffers v lower upper (pos s) change z ps rest in
      let one = starts_ahead own buffers v lower upper s z t p (stride p) (name p) c.order c.first c.single c.number c.first_tag c.then_env g c.brings inner some c.ahead c.start in
      let h1 = one.0 in
      let past = past_places i p g h1 c one.1 in
      let two = more h1 past in
      let n = places_count p.name p.dims in (
        two.0,
        past_more g h1 two.0 past two.1,
        ap (λ b. actions (if b then start_later buffers v lower upper (pos s) (name p) z p inner else inner) g) r
            ∙ one.2
            ∙ (λ l. replicate (count_later (name p) p.name v z p.dims l) Known ++ Starts (sym c.is l) ∷ two.2 l)
            ∙ (λ l. sym (knowns_are ring n) l ++ Starts (ring i j) ∷ (second_list ring (starts_from (suc i) ps j) ++ actions rest two.0))
            ∙ sym (append_assoc (second_list ring (knowns n)) (Starts (ring i j) ∷ []) (second_list ring (starts_from (suc i) ps j) ++ actions rest two.0))
            ∙ ap (λ l. l ++ (second_list ring (starts_from (suc i) ps j) ++ actions rest two.0)) (sym (second-append ring (knowns n) (Ahead i j ∷ [])))
            ∙ sym (append_assoc (second_list ring (knowns n ++ Ahead i j ∷ [])) (second_list ring (starts_from (suc i) ps j)) (actions rest two.0))
            ∙ ap (λ l. l ++ actions rest two.0) (sym (second-append ring (knowns n ++ Ahead i j ∷ []) (starts_from (suc i) ps j)))
            ∙ ap (λ b. second_list ring ((if b then knowns n ++ Ahead i j ∷ [] else []) ++ starts_from (suc i) ps j) ++ actions rest two.0) (sym r),
      )

  pass_reads : (i : ℕ) (p : Placement) (ps : List Placement) (g : Env) (rest : Nest) → p.reads ≡ false → Reads (suc i) ps g rest → Reads i (p ∷ ps) g rest
  pass_reads i p ps g rest r two =
      let inner = started buffers v lower upper (pos s) change z ps rest in (
        two.0,
        two.1,
        ap (λ b. actions (if b then start_later buffers v lower upper (pos s) (name p) z p inner else inner) g) r
            ∙ two.2
            ∙ ap (λ b. second_list ring ((if b then knowns (places_count p.name p.dims) ++ Ahead i j ∷ [] else []) ++ starts_from (suc i) ps j) ++ actions rest two.0) (sym r),
      )

  all_read : (i : ℕ) (ps : List Placement) (g : Env) (rest : Nest) → All i ps g → Reads i ps g rest
  all_read i [] g rest c = (g, here g, refl)
  all_read i (p ∷ ps) g rest c = by (λ h q. all_read (suc i) ps h rest (all_stay (suc i) ps g h q c.1)) p.reads refl
    where
      by : ((h : Env) → Past g h → Reads (suc i) ps h rest) → (b : Bool) → p.reads ≡ b → Reads i (p ∷ ps) g rest
      by more true r = start_reads i p ps g rest r (c.0 r) more
      by more false r = pass_reads i p ps g rest r (more g (here g))

pub starts_are_steps : StartsAreSteps
starts_are_steps own kept buffers v lower upper s z t change ring j ps g rest some c =
    let two = all_read own kept buffers v lower upper s z t change ring j some 0 ps g rest c in
    let same : starts_of (inward_at ps) (pads_at ps) (length ps) j ≡ starts_from 0 ps j =
    (let e : length ps ≡ 0 + length ps = omega arith in ap (λ n. starts_of (inward_at ps) (pads_at ps) n j) e)
    ∙ all_starts (inward_at ps) (pads_at ps) 0 j ps (λ k lt. (let e : 0 + k ≡ k = omega arith in ap (inward_at ps) e)) (λ k lt. (let e : 0 + k ≡ k = omega arith in ap (λ n. pads_at ps n j) e)) in
    (two.0, two.1, two.2 ∙ ap (λ l. second_list ring l ++ actions rest two.0) (sym same))
