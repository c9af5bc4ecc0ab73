-- Over the scaled points of a place the forms that a reach is asked for are bounded.
use Rattle.std.proofs.Common.{◌≡◌, ℕ, zero, suc, ◌+◌, ◌≤◌, List, [], ◌∷◌, ◌++◌, take, length, Result, Ok, Err, ℤ, pos, ◌+ℤ◌, ◌*ℤ◌, ◌<ℤ◌, ◌≤ℤ◌, refl, sym, ◌∙◌, ap, subst, arith}
use Rattle.constraint_set.specs.Lists.{Each}
use Rattle.constraint_set.specs.Points.{LinearRow, LinearSystem, HoldsAtPoint, IsPoint, PointOf, value_at}
use Rattle.constraint_set.specs.Points as points
use Rattle.constraint_set.specs.Reach.{IsBounded}
use Rattle.constraint_set.proofs.Steps.{Each-first, Each-second, Each-weaken, Each-unmap}
use Rattle.affine_expr.specs.declared.linear.LinearFault.{LinearFault}
use Rattle.affine_expr.specs.Forms.{Form, dot}
use Rattle.affine_expr.specs.Linear.{◌>>=◌, padded, minus}
use Rattle.affine_expr.proofs.FormValues.{Gives}
use Rattle.affine_ast.specs.declared.module.Arg.{Arg}
use Rattle.affine_ast.specs.declared.name.Name.{Name}
use Rattle.affine_ast.specs.declared.types.Access.{Access}
use Rattle.nest_domain.specs.Ways.{Header}
use Rattle.nest_domain.specs.Forms.{Formed, all_floor_rows}
use Rattle.nest_domain.specs.Domains.{Known, map_forms, place, row_at, system_of, Accessed, access}
use Rattle.nest_domain.specs.Laws.{HasBounds, CombinationsAreBounded, SubscriptsAreBounded}
use Rattle.nest_domain.proofs.Rowed.{IsMinus, minus_gives}
use Rattle.nest_domain.proofs.Bounding.{at, Fine, minus_fine, FloorHolds, BringsAll, HoldsOn, padded_same}
use Rattle.nest_domain.proofs.PlaceBounds.{AllOn, Bounds, place_bounds, combination_fine, map_boundable, floors_of}

-- ---- forms as rows
dot_take : (n : ℕ) (xs p : List ℤ) → length p ≤ n → points.dot (take n xs) p ≡ dot xs p
dot_take zero [] [] h = refl
dot_take zero (x ∷ xs) [] h = refl
dot_take zero [] (y ∷ p) h = absurd (omega arith)
dot_take zero (x ∷ xs) (y ∷ p) h = absurd (omega arith)
dot_take (suc n) [] p h = refl
dot_take (suc n) (x ∷ xs) [] h = refl
dot_take (suc n) (x ∷ xs) (y ∷ p) h = ap (λ t. x *ℤ y +ℤ t) (dot_take n xs p (omega (arith, h)))

row_measure : (n : ℕ) (f : Form) (p : List ℤ) (y : ℤ) → length p ≤ n → value_at (row_at n f) p y ≡ at f p y
unfolding row_at padded
row_measure n f p y h = (λ i. dot_take n (padded n f).coefs p h i +ℤ constant_is i *ℤ y) ∙ padded_same n f p y
  where
    constant_is : f.constant ≡ (padded n f).constant
    constant_is = refl

-- ---- the scaled points of what is known at a place
module _ (k : Known) where
  abbrev Here : List ℤ → ℤ → Type 0
  Here p y = PointOf (system_of k) p y

  scale : (p : List ℤ) (y : ℤ) → Here p y → pos 0 <ℤ y
  scale p y s = s.point.0

  each_on : (fs : List Form) → ((p : List ℤ) (y : ℤ) → Here p y → Each (λ f. pos 0 ≤ℤ at f p y) fs) → Each (HoldsOn Here scale) fs
  each_on [] h = tt
  each_on (f ∷ fs) h = ((λ p y s. (h p y s).0), each_on fs (λ p y s. (h p y s).1))

  rows_hold : (p : List ℤ) (y : ℤ) → Here p y → Each (λ f. pos 0 ≤ℤ at f p y) (k.symbols ++ (k.loops ++ (k.conditions ++ k.locals)))
  unfolding system_of
  rows_hold p y s = Each-weaken (λ f. HoldsAtPoint p y (row_at k.next f)) (λ f. pos 0 ≤ℤ at f p y) (λ f h. subst (λ z. pos 0 ≤ℤ z) (row_measure k.next f p y (omega (arith, s.as_long))) h)
      (k.symbols ++ (k.loops ++ (k.conditions ++ k.locals))) (Each-unmap (HoldsAtPoint p y) (row_at k.next) (k.symbols ++ (k.loops ++ (k.conditions ++ k.locals))) s.point.1)

  all_on : AllOn Here scale k
  all_on =
      let all = each_on (k.symbols ++ (k.loops ++ (k.conditions ++ k.locals))) rows_hold in
      let H = HoldsOn Here scale in
      record {
        symbols = Each-first H k.symbols (k.loops ++ (k.conditions ++ k.locals)) all;
        loops = Each-first H k.loops (k.conditions ++ k.locals) (Each-second H k.symbols (k.loops ++ (k.conditions ++ k.locals)) all);
        locals = Each-second H k.conditions k.locals (Each-second H k.loops (k.conditions ++ k.locals) (Each-second H k.symbols (k.loops ++ (k.conditions ++ k.locals)) all));
      }

  long_is : (p : List ℤ) (y : ℤ) → Here p y → length p ≤ k.next
  unfolding system_of
  long_is p y s = omega (arith, s.as_long)

  bounded_row : (f : Form) → Fine Here scale f → IsBounded (system_of k) (row_at k.next f)
  bounded_row f b = record {
    low = b.low;
    high = b.high;
    above = λ p y s. subst (λ z. (b.low *ℤ y) ≤ℤ z) (sym (row_measure k.next f p y (long_is p y s))) (b.above p y s);
    below = λ p y s. subst (λ z. z ≤ℤ (b.high *ℤ y)) (sym (row_measure k.next f p y (long_is p y s))) (b.below p y s);
  }

place_has : (args : List Arg) (way : List Header) (own : List Name) (k g : Known) → HasBounds way → place args way own ≡ Ok k → AllOn (Here g) (scale g) k → Bounds (Here g) (scale g) k
place_has args way own k g b e = subst (λ w. Gives w (λ x. AllOn (Here g) (scale g) x → Bounds (Here g) (scale g) x)) e (place_bounds (Here g) (scale g) args way own b)

pub combinations_are_bounded : CombinationsAreBounded
combinations_are_bounded args way own k b e c l = bounded_row k (record { coefs = c; constant = pos 0 }) (combination_fine (Here k) (scale k) k c l (place_has args way own k k b e (all_on k)))

on : {A B : Type 0} (w : Result A LinearFault) (f : A → Result B LinearFault) (Q : B → Type 0) → ((x : A) → w ≡ Ok x → Gives (f x) Q) → Gives (w >>= f) Q
on (Ok x) f Q h = h x refl
on (Err e) f Q h = tt

-- the forms of an access are bounded over its points, and so are combinations of its outer variables
abbrev Fitted : Accessed → Type 0
Fitted a = Each (Fine (Here a.known) (scale a.known)) a.forms × ((c : List ℤ) → length c ≤ a.known.outer → Fine (Here a.known) (scale a.known) (record { coefs = c; constant = pos 0 }))

access_fits : (args : List Arg) (way : List Header) (use_ : Access) → HasBounds way → Gives (access args way use_) Fitted
unfolding access
access_fits args way use_ b =
    on (place args way use_.operands) _ Fitted (λ k ek.
    on (map_forms k.forms k.next use_ []) _ Fitted (λ formed em.
    on (all_floor_rows formed.locals >>= (λ rows. Ok (record k { next = k.next + length formed.locals; locals = k.locals ++ rows }))) _ Fitted (λ g eg.
    fits k formed g ek em eg)))
  where
    fits : (k : Known) (formed : Formed) (g : Known) → place args way use_.operands ≡ Ok k → map_forms k.forms k.next use_ [] ≡ Ok formed → (all_floor_rows formed.locals >>= (λ rows. Ok (record k { next = k.next + length formed.locals; locals = k.locals ++ rows }))) ≡ Ok g
        → Fitted (record { known = g; forms = formed.forms })
    fits k formed g ek em eg = by (all_floor_rows formed.locals) refl eg
      where
        known_of : Result Known LinearFault → Known
        known_of (Ok x) = x
        known_of (Err e) = k

        by : (w : Result (List Form) LinearFault) → all_floor_rows formed.locals ≡ w → (w >>= (λ rows. Ok (record k { next = k.next + length formed.locals; locals = k.locals ++ rows }))) ≡ Ok g → Fitted (record { known = g; forms = formed.forms })
        by (Err e) ew e2 = absurd (let z : ⊥ = cc in z)
        by (Ok rows) ew e2 = subst (λ x. Fitted (record { known = x; forms = formed.forms })) (ap known_of e2) here
          where
            h : Known
            h = record k { next = k.next + length formed.locals; locals = k.locals ++ rows }

            here : Fitted (record { known = record k { next = k.next + length formed.locals; locals = k.locals ++ rows }; forms = formed.forms })
            here =
                let g = record k { next = k.next + length formed.locals; locals = k.locals ++ rows } in
                let all = all_on g in
                let H = HoldsOn (Here g) (scale g) in
                let bounds = place_has args way use_.operands k g b ek (record { symbols = all.symbols; loops = all.loops; locals = Each-first H k.locals rows all.locals }) in
                let x = subst (λ w. Gives w (BringsAll (Here g) (scale g) [] (length use_.map.results))) em (map_boundable (Here g) (scale g) k.forms bounds.names k.next use_ []) in
                let floors = subst (Each (FloorHolds (Here g) (scale g))) x.grown (floors_of (Here g) (scale g) formed.locals rows ew (Each-second H k.locals rows all.locals)) in
                (x.bounded floors, (λ c l. combination_fine (Here g) (scale g) k c l bounds))

pub subscripts_are_bounded : SubscriptsAreBounded
subscripts_are_bounded args way use_ a b e c l =
    let f = subst (λ w. Gives w Fitted) e (access_fits args way use_ b) in
    Each-weaken (Fine (Here a.known) (scale a.known)) (λ x. (h : Form) → minus x (record { coefs = c; constant = pos 0 }) ≡ Ok h → IsBounded (system_of a.known) (row_at a.known.next h)) (λ x fine h made.
    bounded_row a.known h (minus_fine (Here a.known) (scale a.known) x (record { coefs = c; constant = pos 0 }) h
    (subst (λ w. Gives w (IsMinus x (record { coefs = c; constant = pos 0 }))) made (minus_gives x (record { coefs = c; constant = pos 0 }))) fine (f.1 c l))) a.forms f.0
