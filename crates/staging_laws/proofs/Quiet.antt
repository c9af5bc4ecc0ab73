-- Where each start is waited for at once, nothing is outstanding where the text comes to a loop, and nothing behind the text.
use Rattle.std.proofs.Common.{◌≡◌, ℕ, zero, suc, ◌+◌, ℤ, List, [], ◌∷◌, ◌++◌, map, refl, sym, ap, ◌∙◌, subst, Bool, true, false}
use Rattle.std.specs.Prelude.{flat_map, replicate, Option, Some, None, nat_eq, if◌then◌else◌}
use Rattle.std.proofs.lemmas.Bool.{eq-eqb}
use Rattle.bus_model.specs.declared.transfer.Transfer.{Transfer}
use Rattle.affine_ast.specs.declared.name.Name.{Name}
use Rattle.affine_ast.specs.declared.types.Access.{Access}
use Rattle.affine_ast.specs.declared.types.MemrefType.{MemrefType}
use Rattle.affine_ast.specs.declared.types.Scalar.{Scalar}
use Rattle.affine_ast.specs.declared.types.Scalar.TheVariants.{Int, Index}
use Rattle.affine_ast.specs.Nest.{Plain, Nest, Nothing, Loop, Branch, Does, Value, Load, Store, RawLoad, RawStore, Constant, Binary, Cast, Alloc, Dealloc, Start, Wait, Return}
use Rattle.prompt_semantics.specs.Device.{without}
use Rattle.direct_meaning.specs.Turns.{turns, gap}
use Rattle.direct_meaning.specs.Action.{Home, SlowMemref, FastMemref, TagMemref, Action, Allocates, AllocatesTags}
use Rattle.direct_meaning.specs.Static.{Env, knows, number, tag_of, lower_of, upper_of, holds_at, product}
use Rattle.direct_meaning.specs.Actions.{start_of, wait_of, layout_of, constant_of, dealloc_of, is_fast, action_of, after_plain, behind, actions}
use Rattle.direct_meaning.proofs.Laws.{actions-Nothing, actions-Loop, actions-Branch, actions-Does}
use Rattle.placement_texts.specs.Template.{Placement, places_count, constant_count}
use Rattle.placement_texts.specs.Regions.{spans_at}
use Rattle.placement_texts.proofs.SpotRun.{original_append, original_stays, original_at}
use Rattle.placement_texts.specs.Spots.{Spot, Here, Behind, Inside, Other, parts_at}
use Rattle.placement_texts.specs.Parts.{Part, Stays, Made, Box, original}
use Rattle.box_run_laws.specs.Parts.{left_by, left_behind}
use Rattle.box_run_laws.proofs.PartLists.{left_append}
use Rattle.staging_laws.specs.Spared.{QuietFrom, WaitsNext, WaitedFor}
use Rattle.staging_laws.proofs.Statements.{StartKind, Begins, Breaks, start_kind}

itself : (tag : ℕ) (t : Transfer) → t.tag ≡ tag → without tag (t ∷ []) ≡ []
itself tag t e = let b : nat_eq t.tag tag ≡ true = eq-eqb t.tag tag e in λ i. if b i then [] else t ∷ []

wait_alone : (tag : Option ℕ) (count : ℕ) → left_by (wait_of tag count) [] ≡ []
wait_alone (Some tag) count = refl
wait_alone None count = refl

waited_by : (tag : Option ℕ) (x : Action) (count : ℕ) → StartKind tag x → left_by (wait_of tag count) (left_by x []) ≡ []
waited_by tag x count (Begins t e k) = (λ i. left_by (wait_of (k i) count) (left_by (e i) [])) ∙ itself t.tag t refl
waited_by tag x count (Breaks f e) = (λ i. left_by (wait_of tag count) (left_by (e i) [])) ∙ wait_alone tag count

left_turns : (A : ℤ → List Action) → ((t : ℤ) → left_behind (A t) [] ≡ []) → (ts : List ℤ) → left_behind (flat_map A ts) [] ≡ []
left_turns A h [] = refl
left_turns A h (t ∷ ts) = left_append (A t) (flat_map A ts) [] ∙ ap (left_behind (flat_map A ts)) (h t) ∙ left_turns A h ts

left_both : (xs ys : List Action) → left_behind xs [] ≡ [] → left_behind ys [] ≡ [] → left_behind (xs ++ ys) [] ≡ []
left_both xs ys h k = left_append xs ys [] ∙ ap (left_behind ys) h ∙ k

left_chosen : (b : Bool) (xs ys : List Action) → left_behind xs [] ≡ [] → left_behind ys [] ≡ [] → left_behind (if b then xs else ys) [] ≡ []
left_chosen true xs ys h k = h
left_chosen false xs ys h k = k

-- ---- one statement
record Awaited (q : Plain) (rest : Nest) (e : Env) : Type 0 where
  line : ℕ
  tag : Name
  at : Access
  count : Name
  type : MemrefType
  more : Nest
  is : rest ≡ Does line (Wait tag at count type) more
  over : left_by (action_of (Wait tag at count type) (after_plain q e)) (left_by (action_of q e) []) ≡ []
  alone : left_by (action_of (Wait tag at count type) (after_plain q e)) [] ≡ []

data OneLeft (q : Plain) (rest : Nest) (e : Env) : Type 0 where
  Nothing_left : left_by (action_of q e) [] ≡ [] → OneLeft q rest e
  Waits_next : Awaited q rest e → OneLeft q rest e

if_alone : (b : Bool) (x y : Action) → left_by x [] ≡ [] → left_by y [] ≡ [] → left_by (if b then x else y) [] ≡ []
if_alone true x y h k = h
if_alone false x y h k = k

start_waits : (line : ℕ) (a : Name) (a_at : Access) (b : Name) (b_at : Access) (t : Name) (t_at : Access) (n : Name) (stride : Option (Name × Name)) (types : List MemrefType) (rest : Nest) (e : Env)
    → WaitsNext t t_at types rest → Awaited (Start a a_at b b_at t t_at n stride types) rest e
unfolding action_of after_plain
start_waits line a a_at b b_at t t_at n stride (a_ty ∷ b_ty ∷ t_ty ∷ []) (Does line' (Wait u u_at m ty) more) e h = record {
  line = line';
  tag = u;
  at = u_at;
  count = m;
  type = ty;
  more = more;
  is = refl;
  over = (λ i. left_by (wait_of (tag_of e (h.0 i) (h.1 i) (h.2 i)) (gap (number (e.known m)))) (left_by (start_of e a a_at b b_at t t_at (layout_of e n stride) (a_ty ∷ b_ty ∷ t_ty ∷ [])) []))
      ∙ waited_by (tag_of e t t_at t_ty) (start_of e a a_at b b_at t t_at (layout_of e n stride) (a_ty ∷ b_ty ∷ t_ty ∷ [])) (gap (number (e.known m))) (start_kind e a a_at b b_at t t_at (layout_of e n stride) a_ty b_ty t_ty);
  alone = wait_alone (tag_of e u u_at ty) (gap (number (e.known m)));
}
start_waits line a a_at b b_at t t_at n stride [] rest e h = absurd h
start_waits line a a_at b b_at t t_at n stride (a_ty ∷ []) rest e h = absurd h
start_waits line a a_at b b_at t t_at n stride (a_ty ∷ b_ty ∷ []) rest e h = absurd h
start_waits line a a_at b b_at t t_at n stride (a_ty ∷ b_ty ∷ t_ty ∷ []) Nothing e h = absurd h
start_waits line a a_at b b_at t t_at n stride (a_ty ∷ b_ty ∷ t_ty ∷ []) (Loop line' v l u' s body rest) e h = absurd h
start_waits line a a_at b b_at t t_at n stride (a_ty ∷ b_ty ∷ t_ty ∷ []) (Branch line' set ns first has other rest) e h = absurd h
start_waits line a a_at b b_at t t_at n stride (a_ty ∷ b_ty ∷ t_ty ∷ []) (Does line' (Value r pick at) more) e h = absurd h
start_waits line a a_at b b_at t t_at n stride (a_ty ∷ b_ty ∷ t_ty ∷ []) (Does line' (Load r m at ty) more) e h = absurd h
start_waits line a a_at b b_at t t_at n stride (a_ty ∷ b_ty ∷ t_ty ∷ []) (Does line' (Store x m at ty) more) e h = absurd h
start_waits line a a_at b b_at t t_at n stride (a_ty ∷ b_ty ∷ t_ty ∷ []) (Does line' (RawLoad r m at ty) more) e h = absurd h
start_waits line a a_at b b_at t t_at n stride (a_ty ∷ b_ty ∷ t_ty ∷ []) (Does line' (RawStore x m at ty) more) e h = absurd h
start_waits line a a_at b b_at t t_at n stride (a_ty ∷ b_ty ∷ t_ty ∷ []) (Does line' (Constant r z ty) more) e h = absurd h
start_waits line a a_at b b_at t t_at n stride (a_ty ∷ b_ty ∷ t_ty ∷ []) (Does line' (Binary r op x y ty) more) e h = absurd h
start_waits line a a_at b b_at t t_at n stride (a_ty ∷ b_ty ∷ t_ty ∷ []) (Does line' (Cast r kind x from to) more) e h = absurd h
start_waits line a a_at b b_at t t_at n stride (a_ty ∷ b_ty ∷ t_ty ∷ []) (Does line' (Alloc r ty) more) e h = absurd h
start_waits line a a_at b b_at t t_at n stride (a_ty ∷ b_ty ∷ t_ty ∷ []) (Does line' (Dealloc m ty) more) e h = absurd h
start_waits line a a_at b b_at t t_at n stride (a_ty ∷ b_ty ∷ t_ty ∷ []) (Does line' (Start x x_at y y_at z z_at m st tys) more) e h = absurd h
start_waits line a a_at b b_at t t_at n stride (a_ty ∷ b_ty ∷ t_ty ∷ []) (Does line' Return more) e h = absurd h
start_waits line a a_at b b_at t t_at n stride (a_ty ∷ b_ty ∷ t_ty ∷ u_ty ∷ types) rest e h = absurd h

constant_alone : (r : Name) (z : ℤ) (ty : Scalar) → left_by (constant_of r z ty) [] ≡ []
constant_alone r z (Int e) = refl
constant_alone r z Index = refl

dealloc_alone : (o : Option Home) (ty : MemrefType) → left_by (dealloc_of o ty) [] ≡ []
dealloc_alone (Some (FastMemref n)) ty = refl
dealloc_alone (Some (TagMemref n)) ty = refl
dealloc_alone (Some (SlowMemref k n)) ty = refl
dealloc_alone None ty = refl

one_left : (line : ℕ) (q : Plain) (rest : Nest) (e : Env) → WaitedFor (Does line q rest) → OneLeft q rest e
unfolding action_of
one_left line (Value r pick at) rest e h = Nothing_left (refl)
one_left line (Load r m at ty) rest e h = Nothing_left (refl)
one_left line (Store x m at ty) rest e h = Nothing_left (refl)
one_left line (RawLoad r m at ty) rest e h = Nothing_left (refl)
one_left line (RawStore x m at ty) rest e h = Nothing_left (refl)
one_left line (Constant r z ty) rest e h = Nothing_left (constant_alone r z ty)
one_left line (Binary r op a b ty) rest e h = Nothing_left (refl)
one_left line (Cast r kind x from to) rest e h = Nothing_left (refl)
one_left line (Alloc r ty) rest e h = Nothing_left (if_alone (is_fast ty) (Allocates e.fasts ty.element ty.sizes) (AllocatesTags e.tags (product ty.sizes)) refl refl)
one_left line (Dealloc m ty) rest e h = Nothing_left (dealloc_alone (e.home m) ty)
one_left line (Wait t at n ty) rest e h = Nothing_left (wait_alone (tag_of e t at ty) (gap (number (e.known n))))
one_left line Return rest e h = Nothing_left (refl)
one_left line (Start a a_at b b_at t t_at n stride types) rest e h = Waits_next (start_waits line a a_at b b_at t t_at n stride types rest e h.0)

later : (line : ℕ) (q : Plain) (rest : Nest) → WaitedFor (Does line q rest) → WaitedFor rest
later line (Value r pick at) rest h = h
later line (Load r m at ty) rest h = h
later line (Store x m at ty) rest h = h
later line (RawLoad r m at ty) rest h = h
later line (RawStore x m at ty) rest h = h
later line (Constant r z ty) rest h = h
later line (Binary r op a b ty) rest h = h
later line (Cast r kind x from to) rest h = h
later line (Alloc r ty) rest h = h
later line (Dealloc m ty) rest h = h
later line (Wait t at n ty) rest h = h
later line Return rest h = h
later line (Start a a_at b b_at t t_at n stride types) rest h = h.1

-- ---- what is left behind a text
does_left : (q : Plain) (rest : Nest) (e : Env) → OneLeft q rest e → left_behind (actions rest (after_plain q e)) [] ≡ [] → left_behind (action_of q e ∷ actions rest (after_plain q e)) [] ≡ []
does_left q rest e (Nothing_left n) h = ap (left_behind (actions rest (after_plain q e))) n ∙ h
does_left q rest e (Waits_next w) h = subst Goal (sym w.is) here h
  where
    Goal : Nest → Type 0
    Goal rest = left_behind (actions rest (after_plain q e)) [] ≡ [] → left_behind (actions rest (after_plain q e)) (left_by (action_of q e) []) ≡ []

    here : left_behind (actions (Does w.line (Wait w.tag w.at w.count w.type) w.more) (after_plain q e)) [] ≡ [] → left_behind (actions (Does w.line (Wait w.tag w.at w.count w.type) w.more) (after_plain q e)) (left_by (action_of q e) []) ≡ []
    here k =
        let wait = Wait w.tag w.at w.count w.type in
        let xs = actions w.more (after_plain wait (after_plain q e)) in
        let is = actions-Does w.line wait w.more (after_plain q e) in
        ap (λ l. left_behind l (left_by (action_of q e) [])) is ∙ ap (left_behind xs) (w.over ∙ sym w.alone) ∙ ap (λ l. left_behind l []) (sym is) ∙ k

pub left_text : (n : Nest) (e : Env) → WaitedFor n → left_behind (actions n e) [] ≡ []
left_text Nothing e h = ap (λ l. left_behind l []) (actions-Nothing e)
left_text (Loop line v l u step body rest) e h =
    ap (λ l. left_behind l []) (actions-Loop line v l u step body rest e)
    ∙ left_both (flat_map (λ t. actions body (knows e v t)) (turns (lower_of e l) (upper_of e u) step)) (actions rest (behind body e))
    (left_turns (λ t. actions body (knows e v t)) (λ t. left_text body (knows e v t) h.0) (turns (lower_of e l) (upper_of e u) step)) (left_text rest (behind body e) h.1)
left_text (Branch line set ns first has other rest) e h =
    ap (λ l. left_behind l []) (actions-Branch line set ns first has other rest e)
    ∙ left_both (if holds_at e set ns then actions first e else actions other (behind first e)) (actions rest (behind other (behind first e)))
    (left_chosen (holds_at e set ns) (actions first e) (actions other (behind first e)) (left_text first e h.0) (left_text other (behind first e) h.1)) (left_text rest (behind other (behind first e)) h.2)
left_text (Does line q rest) e h =
    ap (λ l. left_behind l []) (actions-Does line q rest e) ∙ does_left q rest e (one_left line q rest e h) (left_text rest (after_plain q e) (later line q rest h))

-- ---- and at the loop
quiet_stays : (xs : List Action) (ts : List Transfer) → QuietFrom (map Stays xs) ts
quiet_stays [] ts = tt
quiet_stays (x ∷ xs) ts = quiet_stays xs (left_by x ts)

quiet_append : (ps qs : List Part) (ts : List Transfer) → QuietFrom ps ts → QuietFrom qs (left_behind (original ps) ts) → QuietFrom (ps ++ qs) ts
quiet_append [] qs ts h k = k
quiet_append (Stays x ∷ ps) qs ts h k = quiet_append ps qs (left_by x ts) h k
quiet_append (Made ∷ ps) qs ts h k = quiet_append ps qs ts h k
quiet_append (Box ss xs ∷ ps) qs ts h k = (h.0, quiet_append ps qs (left_behind xs ts) h.1 (subst (QuietFrom qs) (left_append xs (original ps) ts) k))

quiet_made : (n : ℕ) (ps : List Part) (ts : List Transfer) → QuietFrom ps ts → QuietFrom (replicate n Made ++ ps) ts
quiet_made zero ps ts h = h
quiet_made (suc n) ps ts h = quiet_made n ps ts h

quiet_then : (ps qs : List Part) → QuietFrom ps [] → left_behind (original ps) [] ≡ [] → QuietFrom qs [] → QuietFrom (ps ++ qs) []
quiet_then ps qs h l k = quiet_append ps qs [] h (subst (QuietFrom qs) (sym l) k)

stays_then : (xs : List Action) (qs : List Part) → left_behind xs [] ≡ [] → QuietFrom qs [] → QuietFrom (map Stays xs ++ qs) []
stays_then xs qs l k = quiet_then (map Stays xs) qs (quiet_stays xs []) (ap (λ l. left_behind l []) (original_stays xs) ∙ l) k

quiet_turns : (P : ℤ → List Part) → ((t : ℤ) → QuietFrom (P t) []) → ((t : ℤ) → left_behind (original (P t)) [] ≡ []) → (ts : List ℤ) → QuietFrom (flat_map P ts) []
quiet_turns P h l [] = tt
quiet_turns P h l (t ∷ ts) = quiet_then (P t) (flat_map P ts) (h t) (l t) (quiet_turns P h l ts)

quiet_chosen : (b : Bool) (ps qs : List Part) → QuietFrom ps [] → QuietFrom qs [] → QuietFrom (if b then ps else qs) []
quiet_chosen true ps qs h k = h
quiet_chosen false ps qs h k = k

chosen_then : (b : Bool) (ps qs rs : List Part) → QuietFrom ps [] → left_behind (original ps) [] ≡ [] → QuietFrom qs [] → left_behind (original qs) [] ≡ [] → QuietFrom rs [] → QuietFrom ((if b then ps else qs) ++ rs) []
chosen_then true ps qs rs h l k m r = quiet_then ps rs h l r
chosen_then false ps qs rs h l k m r = quiet_then qs rs k m r

left_parts : (p : Placement) (s : Spot) (n : Nest) (e : Env) → WaitedFor n → left_behind (original (parts_at p s n e)) [] ≡ []
left_parts p s n e h = ap (λ l. left_behind l []) (original_at p s n e) ∙ left_text n e h

left_parts_turns : (P : ℤ → List Part) → ((t : ℤ) → left_behind (original (P t)) [] ≡ []) → (ts : List ℤ) → left_behind (original (flat_map P ts)) [] ≡ []
left_parts_turns P h [] = refl
left_parts_turns P h (t ∷ ts) = ap (λ l. left_behind l []) (original_append (P t) (flat_map P ts)) ∙ left_both (original (P t)) (original (flat_map P ts)) (h t) (left_parts_turns P h ts)

does_quiet : (p : Placement) (s : Spot) (q : Plain) (rest : Nest) (e : Env) → OneLeft q rest e → QuietFrom (parts_at p s rest (after_plain q e)) [] → QuietFrom (parts_at p s rest (after_plain q e)) (left_by (action_of q e) [])
does_quiet p s q rest e (Nothing_left n) h = subst (QuietFrom (parts_at p s rest (after_plain q e))) (sym n) h
does_quiet p s q rest e (Waits_next w) h = subst Goal (sym w.is) (here s) h
  where
    Goal : Nest → Type 0
    Goal rest = QuietFrom (parts_at p s rest (after_plain q e)) [] → QuietFrom (parts_at p s rest (after_plain q e)) (left_by (action_of q e) [])

    here : (s : Spot) → QuietFrom (parts_at p s (Does w.line (Wait w.tag w.at w.count w.type) w.more) (after_plain q e)) [] → QuietFrom (parts_at p s (Does w.line (Wait w.tag w.at w.count w.type) w.more) (after_plain q e)) (left_by (action_of q e) [])
    here (Behind s) k =
        let wait = Wait w.tag w.at w.count w.type in
        subst (QuietFrom (parts_at p s w.more (after_plain wait (after_plain q e)))) (w.alone ∙ sym w.over) k
    here Here k = quiet_stays (actions (Does w.line (Wait w.tag w.at w.count w.type) w.more) (after_plain q e)) (left_by (action_of q e) [])
    here (Inside s) k = quiet_stays (actions (Does w.line (Wait w.tag w.at w.count w.type) w.more) (after_plain q e)) (left_by (action_of q e) [])
    here (Other s) k = quiet_stays (actions (Does w.line (Wait w.tag w.at w.count w.type) w.more) (after_plain q e)) (left_by (action_of q e) [])

pub quiet_at : (p : Placement) (s : Spot) (n : Nest) (e : Env) → WaitedFor n → QuietFrom (parts_at p s n e) []
quiet_at p s Nothing e h = tt
quiet_at p Here (Loop line v l u step body rest) e h =
    quiet_made (places_count p.name p.dims + constant_count p p.how) (Box (spans_at e p.dims) (actions (Loop line v l u step body Nothing) e) ∷ map Stays (actions rest (behind body e))) []
    (refl, quiet_stays (actions rest (behind body e)) (left_behind (actions (Loop line v l u step body Nothing) e) []))
quiet_at p (Behind s) (Loop line v l u step body rest) e h =
    stays_then (flat_map (λ t. actions body (knows e v t)) (turns (lower_of e l) (upper_of e u) step)) (parts_at p s rest (behind body e))
    (left_turns (λ t. actions body (knows e v t)) (λ t. left_text body (knows e v t) h.0) (turns (lower_of e l) (upper_of e u) step)) (quiet_at p s rest (behind body e) h.1)
quiet_at p (Inside s) (Loop line v l u step body rest) e h =
    let ts = turns (lower_of e l) (upper_of e u) step in
    quiet_then (flat_map (λ t. parts_at p s body (knows e v t)) ts) (map Stays (actions rest (behind body e)))
    (quiet_turns (λ t. parts_at p s body (knows e v t)) (λ t. quiet_at p s body (knows e v t) h.0) (λ t. left_parts p s body (knows e v t) h.0) ts)
    (left_parts_turns (λ t. parts_at p s body (knows e v t)) (λ t. left_parts p s body (knows e v t) h.0) ts)
    (quiet_stays (actions rest (behind body e)) [])
quiet_at p (Other s) (Loop line v l u step body rest) e h = quiet_stays (actions (Loop line v l u step body rest) e) []
quiet_at p Here (Branch line set ns first has other rest) e h = quiet_stays (actions (Branch line set ns first has other rest) e) []
quiet_at p (Behind s) (Branch line set ns first has other rest) e h =
    stays_then (if holds_at e set ns then actions first e else actions other (behind first e)) (parts_at p s rest (behind other (behind first e)))
    (left_chosen (holds_at e set ns) (actions first e) (actions other (behind first e)) (left_text first e h.0) (left_text other (behind first e) h.1)) (quiet_at p s rest (behind other (behind first e)) h.2)
quiet_at p (Inside s) (Branch line set ns first has other rest) e h =
    chosen_then (holds_at e set ns) (parts_at p s first e) (map Stays (actions other (behind first e))) (map Stays (actions rest (behind other (behind first e))))
    (quiet_at p s first e h.0) (left_parts p s first e h.0) (quiet_stays (actions other (behind first e)) []) (ap (λ l. left_behind l []) (original_stays (actions other (behind first e))) ∙ left_text other (behind first e) h.1) (quiet_stays (actions rest (behind other (behind first e))) [])
quiet_at p (Other s) (Branch line set ns first has other rest) e h =
    chosen_then (holds_at e set ns) (map Stays (actions first e)) (parts_at p s other (behind first e)) (map Stays (actions rest (behind other (behind first e))))
    (quiet_stays (actions first e) []) (ap (λ l. left_behind l []) (original_stays (actions first e)) ∙ left_text first e h.0) (quiet_at p s other (behind first e) h.1) (left_parts p s other (behind first e) h.1) (quiet_stays (actions rest (behind other (behind first e))) [])
quiet_at p (Behind s) (Does line q rest) e h = does_quiet p s q rest e (one_left line q rest e h) (quiet_at p s rest (after_plain q e) (later line q rest h))
quiet_at p Here (Does line q rest) e h = quiet_stays (actions (Does line q rest) e) []
quiet_at p (Inside s) (Does line q rest) e h = quiet_stays (actions (Does line q rest) e) []
quiet_at p (Other s) (Does line q rest) e h = quiet_stays (actions (Does line q rest) e) []
