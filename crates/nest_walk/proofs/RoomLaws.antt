-- Room for frames, statement by statement.
use Rattle.std.proofs.Common.{◌≡◌, ℕ, suc, ◌+◌, ◌-◌, ◌<◌, ◌≤◌, max, List, ◌∷◌, length, drop, drop-cons, get_or, sym, ap, ◌∙◌, arith}
use Rattle.std.specs.Prelude.{Option, Some, None, ℤ, IfSome}
use Rattle.std.proofs.lemmas.List.{drop_all}
use Rattle.affine_expr.specs.declared.map.Set.{Set}
use Rattle.walk_program.specs.declared.plain.Limit.{Limit}
use Rattle.walk_program.specs.declared.plain.Plain.{Plain}
use Rattle.walk_program.specs.declared.statement.Counts.{Counts}
use Rattle.walk_program.specs.declared.statement.Form as form
use Rattle.walk_program.specs.declared.statement.Form.{Form}
use Rattle.walk_program.specs.declared.statement.Statement.{Statement}
use Rattle.walk_program.specs.Tree.{Tree, put_form, tree}
use Rattle.walk_program.proofs.Trees.{tree-nil, tree-cons, put-For, put-If, put-If-else, put-Plain}
use Rattle.nest_walk.specs.Ready.{room_of, room, other_room}

pub room_for : (f : Form) (v : ℕ) (l u : Limit) (s : ℤ) (inside : Counts) (body : List Statement) (line : ℕ) (t : Tree) → f ≡ form.For v l u s inside body → room_of (put_form f line t) ≡ max (2 + room body) (room_of t)
unfolding room room_of
room_for f v l u s inside body line t is = ap room_of (ap (λ x. put_form x line t) is ∙ put-For line t v l u s inside body)

pub room_if : (f : Form) (set : Set) (operands : List ℕ) (first : List Statement) (n m : Counts) (other : Option (List Statement)) (line : ℕ) (t : Tree) → f ≡ form.If set operands first n other m → room_of (put_form f line t) ≡ max (1 + max (room first) (other_room other)) (room_of t)
unfolding room room_of
room_if f set operands first n m None line t is = ap room_of (ap (λ x. put_form x line t) is ∙ put-If line t set operands first n m)
room_if f set operands first n m (Some other) line t is = ap room_of (ap (λ x. put_form x line t) is ∙ put-If-else line t set operands first other n m)

pub room_plain : (f : Form) (p : Plain) (line : ℕ) (t : Tree) → f ≡ form.Plain p → room_of (put_form f line t) ≡ 1 + room_of t
unfolding room room_of
room_plain f p line t is = ap room_of (ap (λ x. put_form x line t) is ∙ put-Plain line t p)

pub room_end : (ss : List Statement) → 0 ≡ room (drop (length ss) ss)
unfolding room room_of
room_end ss = sym (ap room_of (ap tree (drop_all (length ss) ss (omega arith)) ∙ tree-nil))

pub room_step : (ss : List Statement) (i need n : ℕ) (d : Statement) → 0 < i → i ≤ length ss → need ≡ room (drop i ss) → ((line : ℕ) (t : Tree) → need ≡ room_of t → n ≡ room_of (put_form (get_or ss (i - 1) d).form line t)) → n ≡ room (drop (i - 1) ss)
unfolding room
room_step ss i need n d h k so_far more =
    let next : suc (i - 1) ≡ i = omega (arith, h) in
    let x = get_or ss (i - 1) d in
    more x.line (tree (drop i ss)) so_far
    ∙ sym (ap room_of (ap tree (drop-cons ss (i - 1) d (omega (arith, h, k)) ∙ ap (λ j. x ∷ drop j ss) next) ∙ tree-cons x (drop i ss)))

pub if_some : (o : Option ℕ) (P Q : ℕ → Type 0) → ((n : ℕ) → P n → Q n) → IfSome o P → IfSome o Q
if_some None P Q f h = tt
if_some (Some n) P Q f h = f n h

-- so many frames before others, for a form
abbrev pub Needs : Form → ℕ → ℕ → Type 0
Needs f rest n = (line : ℕ) (t : Tree) → rest ≡ room_of t → n ≡ room_of (put_form f line t)

pub needs_for : (f : Form) (rest k n : ℕ) (v : ℕ) (l u : Limit) (s : ℤ) (inside : Counts) (body : List Statement) → f ≡ form.For v l u s inside body → k ≡ room body → n ≡ max (2 + k) rest → Needs f rest n
needs_for f rest k n v l u s inside body is r e = λ line t h. omega (arith, room_for f v l u s inside body line t is, r, e, h)

pub needs_if : (f : Form) (rest j k n : ℕ) (set : Set) (operands : List ℕ) (first : List Statement) (a b : Counts) (other : Option (List Statement)) → f ≡ form.If set operands first a other b → j ≡ room first → k ≡ other_room other → n ≡ max (1 + max j k) rest → Needs f rest n
needs_if f rest j k n set operands first a b other is q r e = λ line t h. omega (arith, room_if f set operands first a b other line t is, q, r, e, h)

pub needs_plain : (f : Form) (rest n : ℕ) (p : Plain) → f ≡ form.Plain p → n ≡ 1 + rest → Needs f rest n
needs_plain f rest n p is e = λ line t h. omega (arith, room_plain f p line t is, e, h)
