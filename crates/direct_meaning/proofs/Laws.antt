-- Laws of lists of actions and of folds over them.
use Rattle.std.proofs.Common.{◌≡◌, ℕ, zero, suc, ◌-◌, ◌≤◌, ℤ, pos, negsuc, ◌+ℤ◌, ◌-ℤ◌, ◌<ℤ◌, ◌≤ℤ◌, List, [], ◌∷◌, ◌++◌, refl, sym, ap, ◌∙◌, arith, Bool, true, false}
use mathlib.Core.Path.{fun_ext}
use Rattle.std.specs.Int.{int_max}
use Rattle.std.specs.Prelude.{flat_map, int_lt, if◌then◌else◌}
use Rattle.std.proofs.lemmas.List.{append_assoc}
use Rattle.std.proofs.lemmas.Int.{ints}
use borrow.Author.Differences.{up, down}
use Rattle.affine_expr.specs.declared.map.Set.{Set}
use Rattle.affine_ast.specs.declared.name.Name.{Name}
use Rattle.affine_ast.specs.declared.types.Bound.{Bound}
use Rattle.affine_ast.specs.Nest.{Plain, Nest, Nothing, Loop, Branch, Does, followed_by}
use Rattle.direct_meaning.specs.Turns.{gap, turns, turns_within}
use Rattle.direct_meaning.specs.Action.{Action}
use Rattle.direct_meaning.specs.Static.{Env, knows, lower_of, upper_of, holds_at}
use Rattle.direct_meaning.specs.Actions.{action_of, after_plain, behind, actions, after}
use Rattle.direct_meaning.specs.Direct.{Outcome, End, Fault, then_do, folded}

-- the fold over two lists, one after the other
pub then_do_assoc : {S : Type 0} (o : Outcome S) (f g : S → Outcome S) → then_do (then_do o f) g ≡ then_do o (λ s. then_do (f s) g)
then_do_assoc (End s) f g = refl
then_do_assoc (Fault k s) f g = refl

pub folded-nil : {S : Type 0} (step : Action → S → Outcome S) (s : S) → folded step [] s ≡ End s
unfolding folded
folded-nil step s = refl

pub folded-cons : {S : Type 0} (step : Action → S → Outcome S) (a : Action) (xs : List Action) (s : S) → folded step (a ∷ xs) s ≡ then_do (step a s) (folded step xs)
unfolding folded
folded-cons step a xs s = refl

pub folded-append : {S : Type 0} (step : Action → S → Outcome S) (xs ys : List Action) (s : S) → folded step (xs ++ ys) s ≡ then_do (folded step xs s) (folded step ys)
unfolding folded
folded-append step [] ys s = refl
folded-append step (a ∷ xs) ys s = ap (then_do (step a s)) (fun_ext (λ s'. folded-append step xs ys s')) ∙ sym (then_do_assoc (step a s) (folded step xs) (folded step ys))

-- the actions of statements, one equation for each kind
pub actions-Nothing : (e : Env) → actions Nothing e ≡ []
unfolding actions
actions-Nothing e = refl

-- a loop's actions are those of its turns, one after the other
pub actions-Loop : (line : ℕ) (v : Name) (l u : Bound) (s : ℤ) (body rest : Nest) (e : Env)
    → actions (Loop line v l u s body rest) e ≡ flat_map (λ t. actions body (knows e v t)) (turns (lower_of e l) (upper_of e u) s) ++ actions rest (behind body e)
unfolding actions
actions-Loop line v l u s body rest e = refl

pub actions-Branch : (line : ℕ) (set : Set) (names : List Name) (first : Nest) (has : Bool) (other rest : Nest) (e : Env)
    → actions (Branch line set names first has other rest) e ≡ (if holds_at e set names then actions first e else actions other (behind first e)) ++ actions rest (behind other (behind first e))
unfolding actions
actions-Branch line set names first has other rest e = refl

pub actions-Does : (line : ℕ) (p : Plain) (rest : Nest) (e : Env) → actions (Does line p rest) e ≡ action_of p e ∷ actions rest (after_plain p e)
unfolding actions
actions-Does line p rest e = refl

-- statements behind statements: their actions come under what is known then
pub actions-followed : (a b : Nest) (e : Env) → actions (followed_by a b) e ≡ actions a e ++ actions b (after a e)
unfolding actions after
actions-followed Nothing b e = refl
actions-followed (Loop line v l u s body rest) b e =
    ap (λ xs. flat_map (λ t. actions body (knows e v t)) (turns (lower_of e l) (upper_of e u) s) ++ xs) (actions-followed rest b (behind body e))
    ∙ sym (append_assoc (flat_map (λ t. actions body (knows e v t)) (turns (lower_of e l) (upper_of e u) s)) (actions rest (behind body e)) (actions b (after rest (behind body e))))
actions-followed (Branch line set names first has other rest) b e =
    ap (λ xs. (if holds_at e set names then actions first e else actions other (behind first e)) ++ xs) (actions-followed rest b (behind other (behind first e)))
    ∙ sym (append_assoc (if holds_at e set names then actions first e else actions other (behind first e)) (actions rest (behind other (behind first e))) (actions b (after rest (behind other (behind first e)))))
actions-followed (Does line p rest) b e = ap (λ xs. action_of p e ∷ xs) (actions-followed rest b (after_plain p e))

pub after-followed : (a b : Nest) (e : Env) → after (followed_by a b) e ≡ after b (after a e)
unfolding after
after-followed Nothing b e = refl
after-followed (Loop line v l u s body rest) b e = after-followed rest b (behind body e)
after-followed (Branch line set names first has other rest) b e = after-followed rest b (behind other (behind first e))
after-followed (Does line p rest) b e = after-followed rest b (after_plain p e)

-- the turns of a loop, from the first on
gap_is : (z : ℤ) → gap z ≡ up z - down z
gap_is (pos n) = omega arith
gap_is (negsuc n) = omega arith

by_test : (n m : ℕ) (a b s : ℤ) (t : Bool) → int_lt a b ≡ t → (a <ℤ b → turns_within n (a +ℤ s) b s ≡ turns_within m (a +ℤ s) b s) → turns_within (suc n) a b s ≡ turns_within (suc m) a b s
by_test n m a b s true e more =
    let less : a <ℤ b = grind (arith, ints, e) in
    rw e (ap (λ ts. a ∷ ts) (more less))
by_test n m a b s false e more = rw e

-- one bound on their number is as good as another, where it is enough
enough : (n m : ℕ) (a b s : ℤ) → pos 0 <ℤ s → gap (b -ℤ a) ≤ n → gap (b -ℤ a) ≤ m → turns_within n a b s ≡ turns_within m a b s
enough zero zero a b s h p q = refl
enough zero (suc m) a b s h p q =
    let e : int_lt a b ≡ false = grind (arith, ints, gap_is (b -ℤ a)) in rw e
enough (suc n) zero a b s h p q =
    let e : int_lt a b ≡ false = grind (arith, ints, gap_is (b -ℤ a)) in rw e
enough (suc n) (suc m) a b s h p q = by_test n m a b s (int_lt a b) refl (λ less.
    let l : gap (b -ℤ (a +ℤ s)) ≤ n = omega (arith, ints, gap_is (b -ℤ a), gap_is (b -ℤ (a +ℤ s)), less, h, p) in
    let r : gap (b -ℤ (a +ℤ s)) ≤ m = omega (arith, ints, gap_is (b -ℤ a), gap_is (b -ℤ (a +ℤ s)), less, h, q) in
    enough n m (a +ℤ s) b s h l r)

-- a turn, and those after it
pub turns_more : (a b s : ℤ) → a <ℤ b → turns a b s ≡ a ∷ turns (a +ℤ int_max (pos 1) s) b s
unfolding turns
turns_more a b s less = more (int_max (pos 1) s) (grind (arith, ints))
  where
    more : (s : ℤ) → pos 0 <ℤ s → turns_within (gap (b -ℤ a)) a b s ≡ a ∷ turns_within (gap (b -ℤ (a +ℤ s))) (a +ℤ s) b s
    more s h =
        let e : int_lt a b ≡ true = grind (arith, ints, less) in
        let k : gap (b -ℤ a) ≡ suc (gap (b -ℤ a) - 1) = omega (arith, ints, gap_is (b -ℤ a), less) in
        let l : gap (b -ℤ (a +ℤ s)) ≤ gap (b -ℤ a) - 1 = omega (arith, ints, gap_is (b -ℤ a), gap_is (b -ℤ (a +ℤ s)), less, h) in
        ap (λ n. turns_within n a b s) k ∙ rw e (ap (λ ts. a ∷ ts) (enough (gap (b -ℤ a) - 1) (gap (b -ℤ (a +ℤ s))) (a +ℤ s) b s h l (omega arith)))

pub turns_end : (a b s : ℤ) → b ≤ℤ a → turns a b s ≡ []
unfolding turns
turns_end a b s h =
    let k : gap (b -ℤ a) ≡ 0 = omega (arith, ints, gap_is (b -ℤ a), h) in
    ap (λ n. turns_within n a b (int_max (pos 1) s)) k

pub ruleset action_laws = (folded-nil, folded-cons, actions-Nothing, actions-Loop, actions-Branch, actions-Does)
