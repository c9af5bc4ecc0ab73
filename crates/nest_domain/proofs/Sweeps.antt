-- Loops that are come to in the turns that are wanted: any in an extent, or the first one.
use Rattle.std.proofs.Common.{◌≡◌, ℕ, suc, ◌+◌, Bool, true, false, cond, List, [], ◌∷◌, ◌++◌, length, Option, Some, None, Result, Ok, Err, ℤ, pos, negsuc, ◌+ℤ◌, ◌-ℤ◌, ◌*ℤ◌, ◌<ℤ◌, ◌≤ℤ◌, refl, sym, ◌∙◌, ap, subst, arith, append_assoc, append-nil}
use Rattle.std.specs.Prelude.{unsigned_abs}
use Rattle.std.proofs.lemmas.Int.{ints}
use Rattle.num_row.proofs.Ring.{Var, ◌⊗◌, ring}
use Rattle.affine_expr.specs.declared.linear.LinearFault.{LinearFault}
use Rattle.affine_expr.specs.Spread.{Range}
use Rattle.affine_expr.specs.Forms.{Form, LocalForm, with_locals}
use Rattle.affine_expr.specs.Linear.{◌>>=◌, variable_form, number_form, minus}
use Rattle.affine_expr.proofs.FormValues.{Gives, then, worth}
use Rattle.affine_ast.specs.declared.name.Name.{Name}
use Rattle.affine_ast.specs.declared.types.Access.{Access}
use Rattle.affine_ast.specs.declared.types.Bound.{Bound}
use Rattle.affine_ast.specs.declared.types.Pick.{Pick}
use Rattle.affine_ast.specs.declared.types.Pick.TheVariants.{Apply, Min, Max}
use Rattle.affine_ast.specs.declared.types.Scalar.TheVariants as scalar
use Rattle.affine_ast.specs.Intervals.{turn_range, first_turn, last_end}
use Rattle.affine_ast.specs.Names.{put}
use Rattle.affine_ast.specs.Nest.{Plain, Value, Load, Store, RawLoad, RawStore, Constant, Binary, Cast, Alloc, Dealloc, Start, Wait, Return}
use Rattle.direct_meaning.specs.Static.{Env, knows, greatest, least, lower_of, upper_of}
use Rattle.direct_meaning.specs.Actions.{after_plain, behind}
use Rattle.direct_meaning.specs.Work.{ranges_after}
use Rattle.direct_meaning.proofs.RangesHold.{RangesHold, put_in, plain_in, lower_in, upper_in}
use Rattle.nest_domain.specs.Ways.{Header, Round, Given, Except, Behind, Past, has_name, used}
use Rattle.nest_domain.specs.Forms.{all_floor_rows}
use Rattle.nest_domain.specs.Domains.{Going, Known, map_forms, bound_forms, all_from, upper_rows, first_form, picked_rows, with_divisions, in_loop, named, with_pick, with_value, formed_behind, behind_plain, along}
use Rattle.nest_domain.specs.Visits.{IsTurn, Visits}
use Rattle.affine_expr.proofs.Meaning.{Are}
use Rattle.nest_domain.proofs.Rowed.{grows, AllGood, are_grown}
use Rattle.nest_domain.proofs.Walks.{Holds, Reached, AffineWay, bound_values, bound_gives, lower_is, upper_is, loop_reached, plain_reached, steps_up, turn_within}

on : {A B : Type 0} (w : Result A LinearFault) (f : A → Result B LinearFault) (Q : B → Type 0) → ((x : A) → w ≡ Ok x → Gives (f x) Q) → Gives (w >>= f) Q
on (Ok x) f Q h = h x refl
on (Err e) f Q h = tt

answer : {A : Type 0} (w : Result A LinearFault) (x : A) (P : A → Type 0) → w ≡ Ok x → Gives w P → P x
answer w x P e h = subst (λ v. Gives v P) e h

-- ---- the loops on a way
abbrev Goes : List Going → Known → Type 0
Goes gs k = k.goings ≡ gs

divisions_goings : (ls : List LocalForm) (k : Known) → Gives (with_divisions ls k) (Goes k.goings)
divisions_goings ls k = on (all_floor_rows ls) _ (Goes k.goings) (λ rows e. refl)

pick_goings : (r : Name) (pick : Pick) (use_ : Access) (range : Range) (v : Form) (k : Known) → Gives (with_pick r pick use_ range v k) (Goes k.goings)
pick_goings r pick use_ range v k = on (map_forms k.forms (suc k.next) use_ []) _ (Goes k.goings) (λ formed a. on (picked_rows pick v formed.forms) _ (Goes k.goings) (λ rows b. on (minus v (number_form 0 range.least)) _ (Goes k.goings) (λ low c. on (minus (number_form 0 range.greatest) v) _ (Goes k.goings) (λ high d. divisions_goings formed.locals _))))

value_goings : (r : Name) (pick : Pick) (use_ : Access) (k : Known) → Gives (with_value r pick use_ k) (Goes k.goings)
value_goings r Apply use_ k = on (map_forms k.forms k.next use_ []) _ (Goes k.goings) (λ formed a. on (first_form formed.forms) _ (Goes k.goings) (λ f b. divisions_goings formed.locals _))
value_goings r Min use_ k = pick_goings r Min use_ _ _ k
value_goings r Max use_ k = pick_goings r Max use_ _ _ k

formed_goings : (p : Plain) (names : List Name) (k : Known) → Gives (formed_behind p names k) (Goes k.goings)
formed_goings (Value r pick use_) names k = by (has_name r names)
  where
    by : (b : Bool) → Gives (cond b (with_value r pick use_ k) (Ok (named r None k))) (Goes k.goings)
    by true = value_goings r pick use_ k
    by false = refl
formed_goings (Load r m use_ ty) names k = refl
formed_goings (Store x m use_ ty) names k = refl
formed_goings (RawLoad r m use_ ty) names k = refl
formed_goings (RawStore x m use_ ty) names k = refl
formed_goings (Constant r z (scalar.Int element)) names k = refl
formed_goings (Constant r z scalar.Index) names k = refl
formed_goings (Binary r op x y ty) names k = refl
formed_goings (Cast r kind x from to) names k = refl
formed_goings (Alloc r ty) names k = refl
formed_goings (Dealloc m ty) names k = refl
formed_goings (Start x x_at y y_at t t_at n stride types) names k = refl
formed_goings (Wait t use_ n ty) names k = refl
formed_goings Return names k = refl

plain_goings : (p : Plain) (names : List Name) (k : Known) → Gives (behind_plain p names k) (Goes k.goings)
plain_goings p names k = then (formed_behind p names k) _ (Goes k.goings) (Goes k.goings) (formed_goings p names k) (λ g h. h)

-- what a loop goes over
pub record Made (v : Name) (l u : Bound) (s : ℤ) (k k1 : Known) : Type 0 where
  pub low : Rattle.nest_domain.specs.Forms.Formed
  pub high : Rattle.nest_domain.specs.Forms.Formed
  pub lower : bound_forms k.forms k.next l [] ≡ Ok low
  pub upper : bound_forms k.forms k.next u low.locals ≡ Ok high
  pub goings : k1.goings ≡ k.goings ++ record { lowers = low.forms; uppers = high.forms; step = s } ∷ []

loop_made : (v : Name) (l u : Bound) (s : ℤ) (k : Known) → Gives (in_loop v l u s k) (Made v l u s k)
loop_made v l u s k = on (bound_forms k.forms k.next l []) _ (Made v l u s k) (λ low a. on (bound_forms k.forms k.next u low.locals) _ (Made v l u s k) (λ high b.
    on (all_from (variable_form k.next k.outer) low.forms) _ (Made v l u s k) (λ below c. on (upper_rows low.forms s (variable_form k.next k.outer) high.forms) _ (Made v l u s k) (λ above d.
    on (all_floor_rows high.locals) _ (Made v l u s k) (λ rows e. record { low = low; high = high; lower = a; upper = b; goings = refl })))))

-- ---- the turns that are wanted
abbrev pub wanted : Option ℤ → ℤ → ℤ
wanted (Some x) z = x
wanted None z = z

-- of each loop the number wanted, or its first turn
abbrev pub chosen : List Header → List (Option ℤ) → Env → List ℤ
chosen [] ws e = []
chosen (Round v l u s ∷ hs) [] e = lower_of e l ∷ chosen hs [] (knows e v (lower_of e l))
chosen (Round v l u s ∷ hs) (w ∷ ws) e = wanted w (lower_of e l) ∷ chosen hs ws (knows e v (wanted w (lower_of e l)))
chosen (Given set names ∷ hs) ws e = chosen hs ws e
chosen (Except set names first ∷ hs) ws e = chosen hs ws (behind first e)
chosen (Behind p ∷ hs) ws e = chosen hs ws (after_plain p e)
chosen (Past n ∷ hs) ws e = chosen hs ws (behind n e)

abbrev pub arrived : List Header → List (Option ℤ) → Env → Env
arrived [] ws e = e
arrived (Round v l u s ∷ hs) [] e = arrived hs [] (knows e v (lower_of e l))
arrived (Round v l u s ∷ hs) (w ∷ ws) e = arrived hs ws (knows e v (wanted w (lower_of e l)))
arrived (Given set names ∷ hs) ws e = arrived hs ws e
arrived (Except set names first ∷ hs) ws e = arrived hs ws (behind first e)
arrived (Behind p ∷ hs) ws e = arrived hs ws (after_plain p e)
arrived (Past n ∷ hs) ws e = arrived hs ws (behind n e)

-- a way within no condition
abbrev pub Unconditional : List Header → Type 0
Unconditional [] = Unit {0}
Unconditional (Round v l u s ∷ hs) = Unconditional hs
Unconditional (Given set names ∷ hs) = ⊥
Unconditional (Except set names first ∷ hs) = ⊥
Unconditional (Behind p ∷ hs) = Unconditional hs
Unconditional (Past n ∷ hs) = Unconditional hs

module _ (os : List ℤ) where
  -- a loop by ones whose bounds, wherever the outer variables have these values, hold the number between them; or one whose
  -- bounds differ by a positive number
  pub record Sweeps (g : Going) (x : ℤ) : Type 0 where
    pub low : Form
    pub high : Form
    pub one_lower : g.lowers ≡ low ∷ []
    pub one_upper : g.uppers ≡ high ∷ []
    pub by_ones : g.step ≡ pos 1
    pub from : (more : List ℤ) → worth low (os ++ more) ≤ℤ x
    pub to : (more : List ℤ) → x <ℤ worth high (os ++ more)

  pub record Passes (g : Going) : Type 0 where
    pub low : Form
    pub high : Form
    pub one_lower : g.lowers ≡ low ∷ []
    pub one_upper : g.uppers ≡ high ∷ []
    pub less : (p : List ℤ) → worth low p <ℤ worth high p

  abbrev pub Part : Going → Option ℤ → Type 0
  Part g (Some x) = Sweeps g x
  Part g None = Passes g

  abbrev pub Parts : List Going → List (Option ℤ) → Type 0
  Parts [] [] = Unit {0}
  Parts [] (w ∷ ws) = ⊥
  Parts (g ∷ gs) [] = ⊥
  Parts (g ∷ gs) (w ∷ ws) = Part g w × Parts gs ws

  pub record Sweepable (hs : List Header) (k g : Known) : Type 0 where
    pub gs : List Going
    pub grown : g.goings ≡ k.goings ++ gs
    pub visits : (e : Env) (p : List ℤ) (ws : List (Option ℤ)) → length (os ++ p) ≡ k.next → RangesHold e k.ranges → Holds k.next (os ++ p) (chosen hs ws e) k e.known → Parts gs ws → Visits hs e (chosen hs ws e) (arrived hs ws e)

  as_natural : (z : ℤ) → pos 0 ≤ℤ z → pos (unsigned_abs z) ≡ z
  as_natural (pos n) h = refl
  as_natural (negsuc n) h = absurd h.le

  turn_by_ones : (a b s x : ℤ) → s ≡ pos 1 → a ≤ℤ x → x <ℤ b → IsTurn a b s x
  turn_by_ones a b s x e l h =
      let n = as_natural (x -ℤ a) (omega (arith, ints, l)) in
      let m : pos (unsigned_abs (x -ℤ a)) *ℤ s ≡ x -ℤ a = ap (λ z. z *ℤ s) n ∙ ap (λ z. (x -ℤ a) *ℤ z) e ∙ one_times (x -ℤ a) in
      (unsigned_abs (x -ℤ a), linear (pos (unsigned_abs (x -ℤ a)) *ℤ s) m, h)
    where
      one_times : (x : ℤ) → x *ℤ pos 1 ≡ x
      one_times x = ring (Var x ⊗ Var (pos 1)) (Var x) (omega arith)

      linear : (y : ℤ) → y ≡ x -ℤ a → x ≡ a +ℤ y
      linear y e = omega (arith, ints, e)

  turn_first : (a b s : ℤ) → a <ℤ b → IsTurn a b s a
  turn_first a b s h = (0, linear (pos 0 *ℤ s) (ring (Var (pos 0) ⊗ Var s) (Var (pos 0)) (omega arith)), h)
    where
      linear : (y : ℤ) → y ≡ pos 0 → a ≡ a +ℤ y
      linear y e = omega (arith, ints, e)

  -- the one value of one form
  only_value : (n : ℕ) (p : List ℤ) (fs : List Form) (f : Form) (vs : List ℤ) → fs ≡ f ∷ [] → Are n p fs vs → (v : ℤ) × ((vs ≡ v ∷ []) × (worth f p ≡ v))
  only_value n p fs f vs e a = by vs (subst (λ gs. Are n p gs vs) e a)
    where
      by : (vs : List ℤ) → Are n p (f ∷ []) vs → (v : ℤ) × ((vs ≡ v ∷ []) × (worth f p ≡ v))
      by [] a = absurd a
      by (v ∷ []) a = (v, (refl, a.0.same))
      by (v ∷ (w ∷ vs)) a = absurd a.1

  turn_is_there : (v : Name) (l u : Bound) (s : ℤ) (k k1 : Known) (m : Made v l u s k k1) (e : Env) (p ts : List ℤ) (w : Option ℤ) → length (os ++ p) ≡ k.next → Holds k.next (os ++ p) ts k e.known
      → Part (record { lowers = m.low.forms; uppers = m.high.forms; step = s }) w → IsTurn (lower_of e l) (upper_of e u) s (wanted w (lower_of e l))
  turn_is_there v l u s k k1 m e p ts w long h part =
      let P = os ++ p in
      let x = answer (bound_forms k.forms k.next l []) m.low (AllGood P k.next long [] (bound_values e l)) m.lower (bound_gives P k.next long k.forms e h.forms l [] tt) in
      let z = answer (bound_forms k.forms k.next u m.low.locals) m.high (AllGood P k.next long m.low.locals (bound_values e u)) m.upper (bound_gives P k.next long k.forms e h.forms u m.low.locals x.ordered) in
      let lows = are_grown P k.next long m.low.locals m.high.locals z.more m.low.forms (bound_values e l) z.grown x.forms in
      let g = grows P m.high.locals in
      let here : with_locals P m.high.locals ≡ os ++ (p ++ g.0) = g.1 ∙ append_assoc os p g.0 in
      by w part (k.next + length m.high.locals) (os ++ (p ++ g.0)) (p ++ g.0) refl (subst (λ q. Are (k.next + length m.high.locals) q m.low.forms (bound_values e l)) here lows) (subst (λ q. Are (k.next + length m.high.locals) q m.high.forms (bound_values e u)) here z.forms)
    where
      by : (w : Option ℤ) → Part (record { lowers = m.low.forms; uppers = m.high.forms; step = s }) w → (n : ℕ) (q more : List ℤ) → q ≡ os ++ more → Are n q m.low.forms (bound_values e l) → Are n q m.high.forms (bound_values e u) → IsTurn (lower_of e l) (upper_of e u) s (wanted w (lower_of e l))
      by (Some x) part n q more eq a b =
          let f = only_value n q m.low.forms part.low (bound_values e l) part.one_lower a in
          let g = only_value n q m.high.forms part.high (bound_values e u) part.one_upper b in
          let low : lower_of e l ≡ worth part.low (os ++ more) = lower_is e l ∙ ap greatest f.1.0 ∙ sym f.1.1 ∙ ap (worth part.low) eq in
          let high : upper_of e u ≡ worth part.high (os ++ more) = upper_is e u ∙ ap least g.1.0 ∙ sym g.1.1 ∙ ap (worth part.high) eq in
          turn_by_ones (lower_of e l) (upper_of e u) s x part.by_ones (subst (λ z. z ≤ℤ x) (sym low) (part.from more)) (subst (λ z. x <ℤ z) (sym high) (part.to more))
      by None part n q more eq a b =
          let f = only_value n q m.low.forms part.low (bound_values e l) part.one_lower a in
          let g = only_value n q m.high.forms part.high (bound_values e u) part.one_upper b in
          let low : lower_of e l ≡ worth part.low q = lower_is e l ∙ ap greatest f.1.0 ∙ sym f.1.1 in
          let high : upper_of e u ≡ worth part.high q = upper_is e u ∙ ap least g.1.0 ∙ sym g.1.1 in
          turn_first (lower_of e l) (upper_of e u) s (subst (λ z. z <ℤ upper_of e u) (sym low) (subst (λ z. worth part.low q <ℤ z) (sym high) (part.less q)))

  pub sweeps : (hs : List Header) (own : List Name) (k : Known) → AffineWay hs → Unconditional hs → Gives (along hs own k) (Sweepable hs k)
  unfolding along
  sweeps [] own k a c = record { gs = []; grown = sym (append-nil k.goings); visits = λ e p ws long rg h parts. (refl, refl) }
  sweeps (Round v l u s ∷ hs) own k a c =
      on (in_loop v l u s k) (along hs own) (Sweepable (Round v l u s ∷ hs) k) (λ k1 made.
      let m = answer (in_loop v l u s k) k1 (Made v l u s k) made (loop_made v l u s k) in
      let going : Going = record { lowers = m.low.forms; uppers = m.high.forms; step = s } in
      weaken (along hs own k1) (Sweepable hs k1) (Sweepable (Round v l u s ∷ hs) k) (sweeps hs own k1 a.3 c) (λ g r. record {
        gs = going ∷ r.gs;
        grown = r.grown ∙ ap (λ x. x ++ r.gs) m.goings ∙ append_assoc k.goings (going ∷ []) r.gs;
        visits = λ e p ws long rg h parts. turned k1 made m r.gs r.visits e p ws long rg h parts;
      }))
    where
      weaken : (w : Result Known LinearFault) (P Q : Known → Type 0) → Gives w P → ((x : Known) → P x → Q x) → Gives w Q
      weaken (Ok x) P Q h f = f x h
      weaken (Err e) P Q h f = tt

      turned : (k1 : Known) → in_loop v l u s k ≡ Ok k1 → (m : Made v l u s k k1) (gs : List Going)
          → ((e : Env) (p : List ℤ) (ws : List (Option ℤ)) → length (os ++ p) ≡ k1.next → RangesHold e k1.ranges → Holds k1.next (os ++ p) (chosen hs ws e) k1 e.known → Parts gs ws → Visits hs e (chosen hs ws e) (arrived hs ws e))
          → (e : Env) (p : List ℤ) (ws : List (Option ℤ)) → length (os ++ p) ≡ k.next → RangesHold e k.ranges → Holds k.next (os ++ p) (chosen (Round v l u s ∷ hs) ws e) k e.known → Parts (record { lowers = m.low.forms; uppers = m.high.forms; step = s } ∷ gs) ws
          → Visits (Round v l u s ∷ hs) e (chosen (Round v l u s ∷ hs) ws e) (arrived (Round v l u s ∷ hs) ws e)
      turned k1 made m gs more e p [] long rg h parts = absurd parts
      turned k1 made m gs more e p (w ∷ ws) long rg h parts =
          let t = wanted w (lower_of e l) in
          let turn = turn_is_there v l u s k k1 m e p (t ∷ chosen hs ws (knows e v t)) w long h parts.0 in
          let rho = put k.ranges v (turn_range (first_turn k.ranges l) (last_end k.ranges u)) in
          let r = answer (in_loop v l u s k) k1 (Reached (os ++ p) (chosen hs ws (knows e v t)) (knows e v t).known rho) made (loop_reached (os ++ p) k e long v l u s t (chosen hs ws (knows e v t)) a.2 turn h) in
          let here = put_in e k.ranges v (Some t) (turn_range (first_turn k.ranges l) (last_end k.ranges u)) (turn_within (first_turn k.ranges l) (last_end k.ranges u) (lower_of e l) (upper_of e u) t (lower_in e k.ranges l rg a.0) (upper_in e k.ranges u rg a.1) (steps_up (os ++ p) k e long (lower_of e l) s t turn.0 a.2 turn.1) turn.2) rg in
          (turn, more (knows e v t) (p ++ r.more) ws (ap length (sym (append_assoc os p r.more)) ∙ r.long) (subst (RangesHold (knows e v t)) (sym r.ranges) here) (subst (λ q. Holds k1.next q (chosen hs ws (knows e v t)) k1 (knows e v t).known) (append_assoc os p r.more) r.holds) parts.1)
  sweeps (Given set names ∷ hs) own k a c = absurd c
  sweeps (Except set names first ∷ hs) own k a c = absurd c
  sweeps (Behind pl ∷ hs) own k a c =
      on (behind_plain pl (used hs own) k) (along hs own) (Sweepable (Behind pl ∷ hs) k) (λ k1 made.
      let same = answer (behind_plain pl (used hs own) k) k1 (Goes k.goings) made (plain_goings pl (used hs own) k) in
      weaken (along hs own k1) (Sweepable hs k1) (Sweepable (Behind pl ∷ hs) k) (sweeps hs own k1 a.1 c) (λ g r. record {
        gs = r.gs;
        grown = r.grown ∙ ap (λ x. x ++ r.gs) same;
        visits = λ e p ws long rg h parts.
            let q = answer (behind_plain pl (used hs own) k) k1 (Reached (os ++ p) (chosen hs ws (after_plain pl e)) (after_plain pl e).known (ranges_after pl k.ranges)) made (plain_reached (os ++ p) k e long pl (used hs own) (chosen hs ws (after_plain pl e)) a.0 rg h) in
            r.visits (after_plain pl e) (p ++ q.more) ws (ap length (sym (append_assoc os p q.more)) ∙ q.long) (subst (RangesHold (after_plain pl e)) (sym q.ranges) (plain_in pl e k.ranges a.0 rg))
            (subst (λ x. Holds k1.next x (chosen hs ws (after_plain pl e)) k1 (after_plain pl e).known) (append_assoc os p q.more) q.holds) parts;
      }))
    where
      weaken : (w : Result Known LinearFault) (P Q : Known → Type 0) → Gives w P → ((x : Known) → P x → Q x) → Gives w Q
      weaken (Ok x) P Q h f = f x h
      weaken (Err e) P Q h f = tt
  sweeps (Past n ∷ hs) own k a c =
      weaken (along hs own k) (Sweepable hs k) (Sweepable (Past n ∷ hs) k) (sweeps hs own k a c) (λ g r. record {
        gs = r.gs;
        grown = r.grown;
        visits = λ e p ws long rg h parts. r.visits (behind n e) p ws long rg (record { forms = h.forms; turns = h.turns; symbols = h.symbols; loops = h.loops; conditions = h.conditions; locals = h.locals }) parts;
      })
    where
      weaken : (w : Result Known LinearFault) (P Q : Known → Type 0) → Gives w P → ((x : Known) → P x → Q x) → Gives w Q
      weaken (Ok x) P Q h f = f x h
      weaken (Err e) P Q h f = tt
