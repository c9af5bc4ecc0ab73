-- What is gathered from a text for a region, step by step.
use Rattle.std.proofs.Common.{◌≡◌, ℕ, zero, suc, ◌+◌, ◌<◌, ◌≤◌, true, false, List, [], ◌∷◌, ◌++◌, length, map, drop, get_or, Result, Ok, Err, refl, sym, ap, ◌∙◌, subst, arith, append_assoc, append-nil}
use Rattle.constraint_set.specs.Lists.{Each}
use Rattle.affine_expr.specs.declared.linear.LinearFault.{LinearFault}
use Rattle.affine_expr.specs.declared.map.Interval.{Interval}
use Rattle.affine_expr.specs.Spread.{Range}
use Rattle.affine_expr.specs.Bounded.{range_at, ranges}
use Rattle.affine_ast.specs.declared.module.Arg.{Arg}
use Rattle.affine_ast.specs.declared.name.Name.{Name}
use Rattle.nest_domain.specs.declared.step.Step.{Step}
use Rattle.nest_domain.specs.Ways.{Header, Round, Given, Except, Behind, Past, Use, Affine, Other, loop_count, loop_names}
use Rattle.nest_domain.specs.Steps.{header_of}
use Rattle.nest_domain.specs.Domains.{Accessed, access, names_of, symbol_names}
use Rattle.text_places.specs.declared.plain.FoundUse.{FoundUse}
use Rattle.text_places.specs.Finding.{seen}
use Rattle.access_region.specs.Faults.{NoRegion, by_form, after}
use Rattle.access_region.specs.Faults as faults
use Rattle.access_region.specs.Candidates.{Reaching}
use Rattle.access_region.specs.Finding.{reaching_use}
use Rattle.access_region.specs.Regions.{has_other, reaching_of, all_reaching}

-- ---- the loops over uses
drop_suc : {A : Type 0} (xs : List A) (i : ℕ) (x : A) → i < length xs → x ≡ get_or xs i x → drop i xs ≡ x ∷ drop (suc i) xs
drop_suc [] i x h e = absurd (omega (arith, h))
drop_suc (y ∷ xs) zero x h e = ap (λ z. z ∷ xs) (sym e)
drop_suc (y ∷ xs) (suc i) x h e = drop_suc xs i x (omega (arith, h)) e

drop_next : {A : Type 0} (xs : List A) (i : ℕ) (x : A) → i < length xs → x ≡ get_or xs i x → drop i xs ≡ x ∷ drop (i + 1) xs
drop_next xs i x h e = drop_suc xs i x h e ∙ ap (λ k. x ∷ drop k xs) (one i)
  where
    one : (i : ℕ) → suc i ≡ i + 1
    one i = omega arith

drop_over : {A : Type 0} (xs : List A) (i : ℕ) → length xs ≤ i → drop i xs ≡ []
drop_over [] zero h = refl
drop_over [] (suc i) h = refl
drop_over (x ∷ xs) zero h = absurd (omega (arith, h))
drop_over (x ∷ xs) (suc i) h = drop_over xs i (omega (arith, h))

pub ready_at : (P : Use → Type 0) (us : List FoundUse) (i : ℕ) (u : FoundUse) → i < length us → u ≡ get_or us i u → Each P (map seen us) → P (seen u)
ready_at P [] i u h e r = absurd (omega (arith, h))
ready_at P (v ∷ us) zero u h e r = subst (λ (x : FoundUse). P (seen x)) (sym e) r.0
ready_at P (v ∷ us) (suc i) u h e r = ready_at P us i u (omega (arith, h)) e r.1

all_next : (args : List Arg) (u : Use) (us : List Use) → all_reaching args (u ∷ us) ≡ faults.◌>>=◌ (reaching_use args u) (λ a. faults.◌>>=◌ (all_reaching args us) (λ rest. Ok (a ∷ rest)))
all_next args (Affine way stores at) us = by (access args way at)
  where
    by : (w : Result Accessed LinearFault)
        → faults.◌>>=◌ (by_form w) (λ a. faults.◌>>=◌ (all_reaching args us) (λ rest. Ok (reaching_of at a ∷ rest)))
        ≡ faults.◌>>=◌ (faults.◌>>=◌ (by_form w) (λ a. Ok (reaching_of at a))) (λ a. faults.◌>>=◌ (all_reaching args us) (λ rest. Ok (a ∷ rest)))
    by (Ok a) = refl
    by (Err e) = refl
all_next args Other us = refl

after_push : (out : List Reaching) (a : Reaching) (w : Result (List Reaching) NoRegion) → after out (faults.◌>>=◌ w (λ rest. Ok (a ∷ rest))) ≡ after (out ++ a ∷ []) w
after_push out a (Ok xs) = ap Ok (sym (append_assoc out (a ∷ []) xs))
after_push out a (Err e) = refl

module _ (args : List Arg) (us : List FoundUse) (i : ℕ) where
  pub reaching_goes_on : (u : FoundUse) (a : Reaching) (out new : List Reaching) → i < length us → u ≡ get_or us i u → reaching_use args (seen u) ≡ Ok a → new ≡ out ++ a ∷ []
      → all_reaching args (map seen us) ≡ after out (all_reaching args (map seen (drop i us))) → all_reaching args (map seen us) ≡ after new (all_reaching args (map seen (drop (i + 1) us)))
  reaching_goes_on u a out new h is e p inv =
      inv
      ∙ ap (λ (xs : List FoundUse). after out (all_reaching args (map seen xs))) (drop_next us i u h is)
      ∙ ap (after out) (all_next args (seen u) (map seen (drop (i + 1) us)) ∙ ap (λ w. faults.◌>>=◌ w (λ a. faults.◌>>=◌ (all_reaching args (map seen (drop (i + 1) us))) (λ rest. Ok (a ∷ rest)))) e)
      ∙ after_push out a (all_reaching args (map seen (drop (i + 1) us)))
      ∙ ap (λ (xs : List Reaching). after xs (all_reaching args (map seen (drop (i + 1) us)))) (sym p)

  pub reaching_stops : (u : FoundUse) (out : List Reaching) (r : NoRegion) → i < length us → u ≡ get_or us i u → reaching_use args (seen u) ≡ Err r
      → all_reaching args (map seen us) ≡ after out (all_reaching args (map seen (drop i us))) → all_reaching args (map seen us) ≡ Err r
  reaching_stops u out r h is e inv =
      inv
      ∙ ap (λ (xs : List FoundUse). after out (all_reaching args (map seen xs))) (drop_next us i u h is)
      ∙ ap (after out) (all_next args (seen u) (map seen (drop (i + 1) us)) ∙ ap (λ w. faults.◌>>=◌ w (λ a. faults.◌>>=◌ (all_reaching args (map seen (drop (i + 1) us))) (λ rest. Ok (a ∷ rest)))) e)

  pub reaching_ends : (out : List Reaching) → length us ≤ i → all_reaching args (map seen us) ≡ after out (all_reaching args (map seen (drop i us))) → all_reaching args (map seen us) ≡ Ok out
  reaching_ends out h inv = inv ∙ ap (λ (xs : List FoundUse). after out (all_reaching args (map seen xs))) (drop_over us i h) ∙ ap Ok (append-nil out)

-- ---- other accesses
other_now : (u : Use) (us : List Use) → has_other (u ∷ []) ≡ true → has_other (u ∷ us) ≡ true
other_now (Affine way stores at) us h = absurd (let z : ⊥ = cc in z)
other_now Other us h = refl

other_on : (u : Use) (us : List Use) → has_other (u ∷ []) ≡ false → has_other (u ∷ us) ≡ has_other us
other_on (Affine way stores at) us h = refl
other_on Other us h = absurd (let z : ⊥ = cc in z)

module _ (us : List FoundUse) (i : ℕ) (u : FoundUse) (h : i < length us) (is : u ≡ get_or us i u) (inv : has_other (map seen us) ≡ has_other (map seen (drop i us))) where
  pub other_found : has_other (seen u ∷ []) ≡ true → has_other (map seen us) ≡ true
  other_found e = inv ∙ ap (λ (xs : List FoundUse). has_other (map seen xs)) (drop_next us i u h is) ∙ other_now (seen u) (map seen (drop (i + 1) us)) e

  pub other_later : has_other (seen u ∷ []) ≡ false → has_other (map seen us) ≡ has_other (map seen (drop (i + 1) us))
  other_later e = inv ∙ ap (λ (xs : List FoundUse). has_other (map seen xs)) (drop_next us i u h is) ∙ other_on (seen u) (map seen (drop (i + 1) us)) e

pub no_other : (us : List FoundUse) (i : ℕ) → length us ≤ i → has_other (map seen us) ≡ has_other (map seen (drop i us)) → has_other (map seen us) ≡ false
no_other us i h inv = inv ∙ ap (λ (xs : List FoundUse). has_other (map seen xs)) (drop_over us i h)

-- ---- the intervals of the outer variables
map-append : {A B : Type 0} (f : A → B) (xs ys : List A) → map f (xs ++ ys) ≡ map f xs ++ map f ys
map-append f [] ys = refl
map-append f (x ∷ xs) ys = ap (λ l. f x ∷ l) (map-append f xs ys)

first_loops : (h : Header) (hs : List Header) → loop_names (h ∷ hs) ≡ loop_names (h ∷ []) ++ loop_names hs
first_loops (Round v l u s) hs = refl
first_loops (Given set names) hs = refl
first_loops (Except set names first) hs = refl
first_loops (Behind p) hs = refl
first_loops (Past n) hs = refl

ranges-append : (xs ys : List Interval) → ranges (xs ++ ys) ≡ ranges xs ++ ranges ys
ranges-append [] ys = refl
ranges-append (x ∷ xs) ys = ap (λ l. range_at x ∷ l) (ranges-append xs ys)

pub range_added : (old new : List Interval) (x : Interval) (r : Range) → new ≡ old ++ x ∷ [] → range_at x ≡ r → ranges new ≡ ranges old ++ r ∷ []
range_added old new x r e s = ap ranges e ∙ ranges-append old (x ∷ []) ∙ ap (λ y. ranges old ++ y ∷ []) s

more : {A B : Type 0} (f : A → B) (all out new : List B) (xs ys zs : List A) → zs ≡ xs ++ ys → new ≡ out ++ map f xs → all ≡ out ++ map f zs → all ≡ new ++ map f ys
more f all out new xs ys zs s p inv =
    inv ∙ ap (λ l. out ++ map f l) s ∙ ap (λ l. out ++ l) (map-append f xs ys) ∙ sym (append_assoc out (map f xs) (map f ys)) ∙ ap (λ l. l ++ map f ys) (sym p)

module _ (f : Name → Range) (all out : List Range) (i : ℕ) where
  pub arguments_go_on : (args : List Arg) (a : Arg) (new : List Range) → i < length args → a ≡ get_or args i a → new ≡ out ++ map f (names_of a.kind a.name)
      → all ≡ out ++ map f (symbol_names (drop i args)) → all ≡ new ++ map f (symbol_names (drop (i + 1) args))
  arguments_go_on args a new h is p inv = more f all out new (names_of a.kind a.name) (symbol_names (drop (i + 1) args)) (symbol_names (drop i args)) (ap symbol_names (drop_next args i a h is)) p inv

  pub arguments_end : (args : List Arg) → length args ≤ i → all ≡ out ++ map f (symbol_names (drop i args)) → out ≡ all
  arguments_end args h inv = sym (inv ∙ ap (λ (xs : List Arg). out ++ map f (symbol_names xs)) (drop_over args i h) ∙ append-nil out)

  pub loops_go_on : (way : List Step) (x : Step) (new : List Range) → i < length way → x ≡ get_or way i x → new ≡ out ++ map f (loop_names (header_of x ∷ []))
      → all ≡ out ++ map f (loop_names (map header_of (drop i way))) → all ≡ new ++ map f (loop_names (map header_of (drop (i + 1) way)))
  loops_go_on way x new h is p inv =
      more f all out new (loop_names (header_of x ∷ [])) (loop_names (map header_of (drop (i + 1) way))) (loop_names (map header_of (drop i way)))
      (ap (λ (xs : List Step). loop_names (map header_of xs)) (drop_next way i x h is) ∙ first_loops (header_of x) (map header_of (drop (i + 1) way))) p inv

  pub loops_end : (way : List Step) → length way ≤ i → all ≡ out ++ map f (loop_names (map header_of (drop i way))) → out ≡ all
  loops_end way h inv = sym (inv ∙ ap (λ (xs : List Step). out ++ map f (loop_names (map header_of xs))) (drop_over way i h) ∙ append-nil out)

pub both_ranges : (f : Name → Range) (xs ys : List Name) (a b c : List Range) → a ≡ [] → b ≡ a ++ map f xs → c ≡ b ++ map f ys → c ≡ map f (xs ++ ys)
both_ranges f xs ys a b c p q r = r ∙ ap (λ l. l ++ map f ys) (q ∙ ap (λ l. l ++ map f xs) p) ∙ sym (map-append f xs ys)

-- ---- the loops on a way
first_count : (h : Header) (hs : List Header) → loop_count (h ∷ hs) ≡ loop_count (h ∷ []) + loop_count hs
first_count (Round v l u s) hs = omega arith
first_count (Given set names) hs = omega arith
first_count (Except set names first) hs = omega arith
first_count (Behind p) hs = omega arith
first_count (Past n) hs = omega arith

module _ (way : List Step) (i : ℕ) (x : Step) (count : ℕ) (h : i < length way) (is : x ≡ get_or way i x) (inv : loop_count (map header_of way) ≡ count + loop_count (map header_of (drop i way))) where
  pub loop_counted : 1 ≡ loop_count (header_of x ∷ []) → loop_count (map header_of way) ≡ (count + 1) + loop_count (map header_of (drop (i + 1) way))
  loop_counted one =
      let e = ap (λ (xs : List Step). loop_count (map header_of xs)) (drop_next way i x h is) in
      let f = first_count (header_of x) (map header_of (drop (i + 1) way)) in
      omega (arith, inv, e, f, one)

  pub none_counted : 0 ≡ loop_count (header_of x ∷ []) → loop_count (map header_of way) ≡ count + loop_count (map header_of (drop (i + 1) way))
  none_counted none =
      let e = ap (λ (xs : List Step). loop_count (map header_of xs)) (drop_next way i x h is) in
      let f = first_count (header_of x) (map header_of (drop (i + 1) way)) in
      omega (arith, inv, e, f, none)

pub count_ends : (way : List Step) (i count : ℕ) → length way ≤ i → loop_count (map header_of way) ≡ count + loop_count (map header_of (drop i way)) → count ≡ loop_count (map header_of way)
count_ends way i count h inv = let e = ap (λ (xs : List Step). loop_count (map header_of xs)) (drop_over way i h) in omega (arith, inv, e)
