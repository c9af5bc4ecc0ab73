-- Each allocation in scope is released in its own region, and nowhere else.
use Rattle.std.proofs.Common.{◌≡◌, ℕ, ◌≤◌, ℤ, Bool, true, List, sym, ◌∙◌, subst, arith}
use Rattle.std.specs.Prelude.{◌&&◌, nat_eq}
use Rattle.std.proofs.lemmas.Bool.{and_parts}
use Rattle.affine_expr.specs.declared.map.Set.{Set}
use Rattle.affine_ast.specs.declared.name.Name.{Name}
use Rattle.affine_ast.specs.declared.types.Bound.{Bound}
use Rattle.affine_ast.specs.declared.types.MemrefType.{MemrefType}
use Rattle.affine_ast.specs.Nest.{Plain, Nest, Nothing, Loop, Branch, Does, Alloc}
use Rattle.affine_ast.specs.Rules.{deallocs, own_deallocs, is_released_once, allocates_well, is_allocated}
use Rattle.affine_ast.specs.Scope.{Scope, Around, counted, behind_plain}
use Rattle.valid_laws.proofs.Passing.{Holds}
use Rattle.peak_laws.proofs.Names.{Before, was, is_made, before}

own_below : (m : Name) (n : Nest) → own_deallocs m n ≤ deallocs m n
unfolding own_deallocs deallocs
own_below m Nothing = omega arith
own_below m (Loop line v l u s body rest) = let k = own_below m rest in omega (arith, k)
own_below m (Branch line set names first has other rest) = let k = own_below m rest in omega (arith, k)
own_below m (Does line p rest) = let k = own_below m rest in omega (arith, k)

-- all deallocs of what is allocated stand in the region itself; none does
abbrev pub OwnAll : Scope → Nest → Type 0
OwnAll s n = (m : Name) → is_allocated s m ≡ true → deallocs m n ≡ own_deallocs m n

abbrev pub NoneIn : Scope → Nest → Type 0
NoneIn s n = (m : Name) → is_allocated s m ≡ true → deallocs m n ≡ 0

pub none_own : (s : Scope) (n : Nest) → NoneIn s n → OwnAll s n
none_own s n h m i = let k = h m i in let l = own_below m n in omega (arith, k, l)

pub own_loop : (line : ℕ) (v : Name) (l u : Bound) (z : ℤ) (body rest : Nest) (s : Scope) → OwnAll s (Loop line v l u z body rest) → NoneIn s body × OwnAll s rest
unfolding own_deallocs deallocs
own_loop line v l u z body rest s h = (
  (λ m i. let k = h m i in let b = own_below m rest in omega (arith, k, b)),
  (λ m i. let k = h m i in let b = own_below m rest in omega (arith, k, b)),
)

pub own_branch : (line : ℕ) (set : Set) (names : List Name) (first : Nest) (has : Bool) (other rest : Nest) (s : Scope) → OwnAll s (Branch line set names first has other rest) → NoneIn s first × NoneIn s other × OwnAll s rest
unfolding own_deallocs deallocs
own_branch line set names first has other rest s h = (
  (λ m i. let k = h m i in let b = own_below m rest in omega (arith, k, b)),
  (λ m i. let k = h m i in let b = own_below m rest in omega (arith, k, b)),
  (λ m i. let k = h m i in let b = own_below m rest in omega (arith, k, b)),
)

same_number : (a b : ℕ) → nat_eq a b ≡ true → a ≡ b
same_number a b h = grind (arith, h)

-- of what a statement allocates there is one dealloc behind it, in the region itself
pub once : (a : Around) (r : Name) (ty : MemrefType) (rest : Nest) → Holds (counted a) (Alloc r ty) rest → (deallocs r rest ≡ 1) × (own_deallocs r rest ≡ 1)
unfolding is_released_once
once a r ty rest k =
    let o = (and_parts (allocates_well ty) (nat_eq (deallocs r rest) 1 && nat_eq (own_deallocs r rest) 1) k.spaces).1 in
    let two = and_parts (nat_eq (deallocs r rest) 1) (nat_eq (own_deallocs r rest) 1) o in
    (same_number (deallocs r rest) 1 two.0, same_number (own_deallocs r rest) 1 two.1)

pub own_plain : (a : Around) (line : ℕ) (p : Plain) (rest : Nest) → Holds (counted a) p rest → OwnAll a.scope (Does line p rest) → OwnAll (behind_plain p (counted a)).scope rest
unfolding own_deallocs deallocs
own_plain a line p rest k h m i = by (before a p m i)
  where
    by : Before a p m → deallocs m rest ≡ own_deallocs m rest
    by (was j) = let c = h m j in omega (arith, c)
    by (is_made ty r) = let o = once a m ty rest (subst (λ p. Holds (counted a) p rest) r k) in o.0 ∙ sym o.1
