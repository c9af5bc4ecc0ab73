-- Loops that are come to in the turns that are wanted: any in an extent, or the first one.
use Rattle.std.proofs.Common.{◌≡◌, ℕ, suc, ◌+◌, List, [], ◌∷◌, ◌++◌, length, Option, Some, None, Result, Ok, Err, ℤ, pos, negsuc, ◌+ℤ◌, ◌-ℤ◌, ◌*ℤ◌, ◌<ℤ◌, ◌≤ℤ◌, refl, sym, ◌∙◌, ap, subst, arith, append_assoc}
use Rattle.std.specs.Prelude.{unsigned_abs}
use Rattle.std.proofs.lemmas.Int.{ints}
use Rattle.num_row.proofs.Ring.{Var, ◌⊗◌, ring}
use Rattle.affine_expr.specs.declared.linear.LinearFault.{LinearFault}
use Rattle.affine_expr.specs.Forms.{Form, with_locals}
use Rattle.affine_expr.specs.Linear.{◌>>=◌}
use Rattle.affine_expr.proofs.FormValues.{Gives, worth}
use Rattle.affine_expr.proofs.Meaning.{Are}
use Rattle.affine_ast.specs.declared.types.Bound.{Bound}
use Rattle.direct_meaning.specs.Static.{Env, knows, greatest, least, lower_of, upper_of}
use Rattle.direct_meaning.specs.Actions.{after_plain, behind}
use Rattle.nest_domain.specs.Ways.{Header, Round, Given, Except, Behind, Past, loop_count}
use Rattle.nest_domain.specs.Forms.{Formed}
use Rattle.nest_domain.specs.Domains.{Going, bound_forms}
use Rattle.nest_domain.specs.Visits.{IsTurn, Visits}
use Rattle.nest_domain.proofs.Rowed.{grows, AllGood, are_grown}
use Rattle.nest_domain.proofs.Walks.{bound_values, bound_gives, lower_is, upper_is}
use Rattle.nest_domain.proofs.Sweeps.{wanted, chosen, arrived, Unconditional, Part, Parts}
use Rattle.box_covers.specs.Traced.{Traced, with_variable, behind_plain, going, goings}
use Rattle.box_covers.proofs.Tracing.{TracedIn, variable_in, plain_in}

-- ---- what a loop goes over
record Made (l u : Bound) (s : ℤ) (k : Traced) (g : Going) : Type 0 where
  low : Formed
  high : Formed
  lower : bound_forms k.forms k.next l [] ≡ Ok low
  upper : bound_forms k.forms k.next u low.locals ≡ Ok high
  is : g ≡ record { lowers = low.forms; uppers = high.forms; step = s }

made : (l u : Bound) (s : ℤ) (k : Traced) (g : Going) → going l u s k ≡ Ok g → Made l u s k g
made l u s k g h = by (bound_forms k.forms k.next l []) refl h
  where
    with_high : (low : Formed) → bound_forms k.forms k.next l [] ≡ Ok low → (w : Result Formed LinearFault) → bound_forms k.forms k.next u low.locals ≡ w
        → (w >>= (λ high. Ok (record { lowers = low.forms; uppers = high.forms; step = s }))) ≡ Ok g → Made l u s k g
    with_high low a (Err e) b h = absurd (let z : ⊥ = cc in z)
    with_high low a (Ok high) b h = record { low = low; high = high; lower = a; upper = b; is = cc }

    by : (w : Result Formed LinearFault) → bound_forms k.forms k.next l [] ≡ w
        → (w >>= (λ low. bound_forms k.forms k.next u low.locals >>= (λ high. Ok (record { lowers = low.forms; uppers = high.forms; step = s })))) ≡ Ok g → Made l u s k g
    by (Err e) a h = absurd (let z : ⊥ = cc in z)
    by (Ok low) a h = with_high low a (bound_forms k.forms k.next u low.locals) refl h

record Both (l u : Bound) (s : ℤ) (hs : List Header) (k next : Traced) (gs : List Going) : Type 0 where
  first : Going
  others : List Going
  at_first : going l u s k ≡ Ok first
  at_others : goings hs next ≡ Ok others
  are : gs ≡ first ∷ others

both : (l u : Bound) (s : ℤ) (hs : List Header) (k next : Traced) (gs : List Going) → (going l u s k >>= (λ g. goings hs next >>= (λ more. Ok (g ∷ more)))) ≡ Ok gs → Both l u s hs k next gs
both l u s hs k next gs h = by (going l u s k) refl h
  where
    with_others : (g : Going) → going l u s k ≡ Ok g → (w : Result (List Going) LinearFault) → goings hs next ≡ w → (w >>= (λ more. Ok (g ∷ more))) ≡ Ok gs → Both l u s hs k next gs
    with_others g a (Err e) b h = absurd (let z : ⊥ = cc in z)
    with_others g a (Ok more) b h = record { first = g; others = more; at_first = a; at_others = b; are = cc }

    by : (w : Result Going LinearFault) → going l u s k ≡ w → (w >>= (λ g. goings hs next >>= (λ more. Ok (g ∷ more)))) ≡ Ok gs → Both l u s hs k next gs
    by (Err e) a h = absurd (let z : ⊥ = cc in z)
    by (Ok g) a h = with_others g a (goings hs next) refl h

-- there are as many as loops on the way
pub goings_long : (hs : List Header) (k : Traced) (gs : List Going) → goings hs k ≡ Ok gs → length gs ≡ loop_count hs
goings_long [] k gs h = ap length (let e : gs ≡ [] = cc in e)
goings_long (Round v l u s ∷ hs) k gs h =
    let b = both l u s hs k (with_variable v k) gs h in
    ap length b.are ∙ ap suc (goings_long hs (with_variable v k) b.others b.at_others)
goings_long (Given set names ∷ hs) k gs h = goings_long hs k gs h
goings_long (Except set names first ∷ hs) k gs h = goings_long hs k gs h
goings_long (Behind p ∷ hs) k gs h = goings_long hs (behind_plain p k) gs h
goings_long (Past n ∷ hs) k gs h = goings_long hs k gs h

-- ---- turns
as_natural : (z : ℤ) → pos 0 ≤ℤ z → pos (unsigned_abs z) ≡ z
as_natural (pos n) h = refl
as_natural (negsuc n) h = absurd h.le

turn_by_ones : (a b s x : ℤ) → s ≡ pos 1 → a ≤ℤ x → x <ℤ b → IsTurn a b s x
turn_by_ones a b s x e l h =
    let n = as_natural (x -ℤ a) (omega (arith, ints, l)) in
    let m : pos (unsigned_abs (x -ℤ a)) *ℤ s ≡ x -ℤ a = ap (λ z. z *ℤ s) n ∙ ap (λ z. (x -ℤ a) *ℤ z) e ∙ one_times (x -ℤ a) in
    (unsigned_abs (x -ℤ a), linear (pos (unsigned_abs (x -ℤ a)) *ℤ s) m, h)
  where
    one_times : (x : ℤ) → x *ℤ pos 1 ≡ x
    one_times x = ring (Var x ⊗ Var (pos 1)) (Var x) (omega arith)

    linear : (y : ℤ) → y ≡ x -ℤ a → x ≡ a +ℤ y
    linear y e = omega (arith, ints, e)

turn_first : (a b s : ℤ) → a <ℤ b → IsTurn a b s a
turn_first a b s h = (0, linear (pos 0 *ℤ s) (ring (Var (pos 0) ⊗ Var s) (Var (pos 0)) (omega arith)), h)
  where
    linear : (y : ℤ) → y ≡ pos 0 → a ≡ a +ℤ y
    linear y e = omega (arith, ints, e)

-- the one value of one form
only_value : (n : ℕ) (p : List ℤ) (fs : List Form) (f : Form) (vs : List ℤ) → fs ≡ f ∷ [] → Are n p fs vs → (v : ℤ) × ((vs ≡ v ∷ []) × (worth f p ≡ v))
only_value n p fs f vs e a = by vs (subst (λ gs. Are n p gs vs) e a)
  where
    by : (vs : List ℤ) → Are n p (f ∷ []) vs → (v : ℤ) × ((vs ≡ v ∷ []) × (worth f p ≡ v))
    by [] a = absurd a
    by (v ∷ []) a = (v, (refl, a.0.same))
    by (v ∷ (w ∷ vs)) a = absurd a.1

answer : {A : Type 0} (w : Result A LinearFault) (x : A) (P : A → Type 0) → w ≡ Ok x → Gives w P → P x
answer w x P e h = subst (λ v. Gives v P) e h

module _ (os : List ℤ) where
  turn_is_there : (l u : Bound) (s : ℤ) (k : Traced) (g : Going) → going l u s k ≡ Ok g → (e : Env) (p ts : List ℤ) (w : Option ℤ) → TracedIn (os ++ p) ts e.known k → Part os g w → IsTurn (lower_of e l) (upper_of e u) s (wanted w (lower_of e l))
  turn_is_there l u s k g there e p ts w h part =
      let m = made l u s k g there in
      let P = os ++ p in
      let x = answer (bound_forms k.forms k.next l []) m.low (AllGood P k.next h.long [] (bound_values e l)) m.lower (bound_gives P k.next h.long k.forms e h.forms l [] tt) in
      let z = answer (bound_forms k.forms k.next u m.low.locals) m.high (AllGood P k.next h.long m.low.locals (bound_values e u)) m.upper (bound_gives P k.next h.long k.forms e h.forms u m.low.locals x.ordered) in
      let lows = are_grown P k.next h.long m.low.locals m.high.locals z.more m.low.forms (bound_values e l) z.grown x.forms in
      let w1 = grows P m.high.locals in
      let here : with_locals P m.high.locals ≡ os ++ (p ++ w1.0) = w1.1 ∙ append_assoc os p w1.0 in
      by m.low.forms m.high.forms w (subst (λ g. Part os g w) m.is part) (k.next + length m.high.locals) (p ++ w1.0)
      (subst (λ q. Are (k.next + length m.high.locals) q m.low.forms (bound_values e l)) here lows) (subst (λ q. Are (k.next + length m.high.locals) q m.high.forms (bound_values e u)) here z.forms)
    where
      by : (lows highs : List Form) (w : Option ℤ) → Part os (record { lowers = lows; uppers = highs; step = s }) w → (n : ℕ) (more : List ℤ) → Are n (os ++ more) lows (bound_values e l) → Are n (os ++ more) highs (bound_values e u) → IsTurn (lower_of e l) (upper_of e u) s (wanted w (lower_of e l))
      by lows highs (Some x) part n more a b =
          let f = only_value n (os ++ more) lows part.low (bound_values e l) part.one_lower a in
          let g = only_value n (os ++ more) highs part.high (bound_values e u) part.one_upper b in
          let low : lower_of e l ≡ worth part.low (os ++ more) = lower_is e l ∙ ap greatest f.1.0 ∙ sym f.1.1 in
          let high : upper_of e u ≡ worth part.high (os ++ more) = upper_is e u ∙ ap least g.1.0 ∙ sym g.1.1 in
          turn_by_ones (lower_of e l) (upper_of e u) s x part.by_ones (subst (λ z. z ≤ℤ x) (sym low) (part.from more)) (subst (λ z. x <ℤ z) (sym high) (part.to more))
      by lows highs None part n more a b =
          let f = only_value n (os ++ more) lows part.low (bound_values e l) part.one_lower a in
          let g = only_value n (os ++ more) highs part.high (bound_values e u) part.one_upper b in
          let low : lower_of e l ≡ worth part.low (os ++ more) = lower_is e l ∙ ap greatest f.1.0 ∙ sym f.1.1 in
          let high : upper_of e u ≡ worth part.high (os ++ more) = upper_is e u ∙ ap least g.1.0 ∙ sym g.1.1 in
          turn_first (lower_of e l) (upper_of e u) s (subst (λ z. z <ℤ upper_of e u) (sym low) (subst (λ z. worth part.low (os ++ more) <ℤ z) (sym high) (part.less (os ++ more))))

  pub turns_are_there : (hs : List Header) (k : Traced) (gs : List Going) → Unconditional hs → goings hs k ≡ Ok gs
      → (e : Env) (p : List ℤ) (ws : List (Option ℤ)) → TracedIn (os ++ p) (chosen hs ws e) e.known k → Parts os gs ws → Visits hs e (chosen hs ws e) (arrived hs ws e)
  turns_are_there [] k gs c h e p ws t parts = (refl, refl)
  turns_are_there (Round v l u s ∷ hs) k gs c h e p ws t parts =
      let b = both l u s hs k (with_variable v k) gs h in
      by ws b t (subst (λ gs. Parts os gs ws) b.are parts) (λ z us r q. turns_are_there hs (with_variable v k) b.others c b.at_others (knows e v z) p us r q)
    where
      by : (ws : List (Option ℤ)) (b : Both l u s hs k (with_variable v k) gs) → TracedIn (os ++ p) (chosen (Round v l u s ∷ hs) ws e) e.known k → Parts os (b.first ∷ b.others) ws
          → ((z : ℤ) (us : List (Option ℤ)) → TracedIn (os ++ p) (chosen hs us (knows e v z)) (knows e v z).known (with_variable v k) → Parts os b.others us → Visits hs (knows e v z) (chosen hs us (knows e v z)) (arrived hs us (knows e v z)))
          → Visits (Round v l u s ∷ hs) e (chosen (Round v l u s ∷ hs) ws e) (arrived (Round v l u s ∷ hs) ws e)
      by [] b t parts more = absurd parts
      by (w ∷ ws) b t parts more =
          let z = wanted w (lower_of e l) in (
            turn_is_there l u s k b.first b.at_first e p (z ∷ chosen hs ws (knows e v z)) w t parts.0,
            more z ws (variable_in (os ++ p) (chosen hs ws (knows e v z)) e.known k v z t) parts.1,
          )
  turns_are_there (Given set names ∷ hs) k gs c h e p ws t parts = absurd c
  turns_are_there (Except set names first ∷ hs) k gs c h e p ws t parts = absurd c
  turns_are_there (Behind pl ∷ hs) k gs c h e p ws t parts =
      let r = plain_in (os ++ p) (chosen hs ws (after_plain pl e)) e k pl t in
      turns_are_there hs (behind_plain pl k) gs c h (after_plain pl e) (p ++ r.more) ws (subst (λ q. TracedIn q (chosen hs ws (after_plain pl e)) (after_plain pl e).known (behind_plain pl k)) (append_assoc os p r.more) r.there) parts
  turns_are_there (Past n ∷ hs) k gs c h e p ws t parts = turns_are_there hs k gs c h (behind n e) p ws t parts
