-- The laws of regions.
use Rattle.std.proofs.Common.{◌≡◌, ℕ, suc, ◌+◌, Bool, true, false, cond, List, [], ◌∷◌, ◌++◌, length, get_or, Result, Ok, Err, ℤ, pos, refl, sym, ◌∙◌, ap, subst, arith, append_assoc, append-nil, length-append}
use Rattle.constraint_set.specs.Lists.{Each}
use Rattle.constraint_set.specs.Points.{PointOf}
use Rattle.constraint_set.proofs.Steps.{Each-append, Each-first, Each-second}
use Rattle.affine_expr.specs.declared.linear.LinearFault.{LinearFault}
use Rattle.affine_expr.proofs.FormValues as forms
use Rattle.affine_ast.specs.declared.image.Cells.{Cells}
use Rattle.affine_ast.specs.declared.module.Arg.{Arg}
use Rattle.affine_ast.specs.declared.name.Name.{Name}
use Rattle.affine_ast.specs.declared.types.Access.{Access}
use Rattle.affine_ast.specs.declared.types.Bound.{Bound}
use Rattle.affine_ast.specs.Names.{same_name}
use Rattle.affine_ast.specs.Nest.{Nest, Nothing, Loop, Branch, Does, Value, Load, Store, RawLoad, RawStore, Constant, Binary, Cast, Alloc, Dealloc, Start, Wait, Return, nest}
use Rattle.direct_meaning.specs.Static.{Env, knows, results_of}
use Rattle.direct_meaning.specs.Actions.{after_plain, behind}
use Rattle.direct_meaning.specs.Memory.{FitsArgs, start_env}
use Rattle.direct_meaning.specs.Pure.{AffineNest}
use Rattle.valid_laws.proofs.Passing.{valid_affine}
use Rattle.nest_domain.specs.Ways.{Header, Round, Given, Except, Behind, Past, Use, Affine, Other, if_named, use_of, uses, loop_count}
use Rattle.nest_domain.specs.Domains.{Known, Accessed, symbol_count, place, access, system_of}
use Rattle.nest_domain.specs.Visits.{Visits, Along}
use Rattle.affine_expr.proofs.Meaning.{Are}
use Rattle.nest_domain.proofs.Walks.{AffineWay, Arrived}
use Rattle.nest_domain.proofs.Places.{IsSeen, seen_of, seen_point, place_arrives, AccessArrived, access_arrives, fits_length, visits_length}
use Rattle.nest_domain.proofs.Alongs.{visits_append, affine_append, path_affine, Comes, along_comes, along_weaken}
use Rattle.nest_domain.proofs.Counts.{place_outer}
use Rattle.nest_domain.specs.Boxes.{Dimension, AllWithin}
use Rattle.access_region.specs.Faults.{NoRegion, unplaced, ◌>>=◌, by_form}
use Rattle.access_region.specs.Candidates.{Reaching}
use Rattle.access_region.specs.Regions.{has_other, reaching_of, all_reaching, reaching, Outside, outside_at, dimensions, uses_at}
use Rattle.access_region.specs.Laws.{AllInside, RegionsLieWithin, AccessInside, RegionsHold}
use Rattle.access_region.specs.Widening.{for_transfers}
use Rattle.access_region.specs.Places.{region_fits, kept_where, region_of}
use Rattle.access_region.proofs.Widened.{within_kept, inside_kept}
use Rattle.access_region.proofs.Inside.{Gives, on, then_by, AtPoint, Seen, IsInside, AllHold, dimensions_hold}

-- ---- the accesses that a region is of
pub record IsReaching (args : List Arg) (way : List Header) (at : Access) (a : Reaching) : Type 0 where
  pub accessed : Accessed
  pub is : access args way at ≡ Ok accessed
  pub same : a ≡ reaching_of at accessed

abbrev pub AreOf : List Arg → List Use → List Reaching → Type 0
AreOf args [] [] = Unit {0}
AreOf args [] (a ∷ xs) = ⊥
AreOf args (u ∷ us) [] = ⊥
AreOf args (Affine way stores at ∷ us) (a ∷ xs) = IsReaching args way at a × AreOf args us xs
AreOf args (Other ∷ us) (a ∷ xs) = ⊥

pub formed_is : {A : Type 0} (w : Result A LinearFault) (x : A) → by_form w ≡ Ok x → w ≡ Ok x
formed_is {A = A} (Ok y) x e = ap back e
  where
    back : Result A NoRegion → Result A LinearFault
    back (Ok z) = Ok z
    back (Err r) = Ok x
formed_is (Err r) x e = absurd (let z : ⊥ = cc in z)

all_are_of : (args : List Arg) (us : List Use) → Gives (all_reaching args us) (AreOf args us)
all_are_of args [] = tt
all_are_of args (Affine way stores at ∷ us) =
    on (by_form (access args way at)) _ (AreOf args (Affine way stores at ∷ us)) (λ a e.
    then_by (all_reaching args us) _ (AreOf args us) (AreOf args (Affine way stores at ∷ us)) (all_are_of args us) (λ xs h. (record { accessed = a; is = formed_is (access args way at) a e; same = refl }, h)))
all_are_of args (Other ∷ us) = tt

are_of : (args : List Arg) (us : List Use) → Gives (reaching args us) (AreOf args us)
are_of args us = by (has_other us)
  where
    by : (b : Bool) → Gives (cond b (Err unplaced) (all_reaching args us)) (AreOf args us)
    by true = tt
    by false = all_are_of args us

-- ---- what holds of the region
all_within : (os : List ℤ) (n : ℕ) (xs : List Reaching) (ds : List Dimension) (sizes : List ℕ) → AllHold os n xs ds sizes → AllWithin ds sizes os
all_within os n xs [] [] h = tt
all_within os n xs [] (size ∷ sizes) h = absurd h
all_within os n xs (d ∷ ds) [] h = absurd h
all_within os n xs (d ∷ ds) (size ∷ sizes) h = (h.0.place.from, h.0.place.up_to, all_within os (suc n) xs ds sizes h.1)

all_inside : (os : List ℤ) (n : ℕ) (xs : List Reaching) (ds : List Dimension) (sizes : List ℕ) → AllHold os n xs ds sizes → Each (λ a. (vs : List ℤ) → Seen os a vs → AllInside n ds sizes os vs) xs
all_inside os n xs [] [] h = always xs
  where
    always : (xs : List Reaching) → Each (λ a. (vs : List ℤ) → Seen os a vs → Unit {0}) xs
    always [] = tt
    always (a ∷ xs) = ((λ vs s. tt), always xs)
all_inside os n xs [] (size ∷ sizes) h = absurd h
all_inside os n xs (d ∷ ds) [] h = absurd h
all_inside os n xs (d ∷ ds) (size ∷ sizes) h = both xs h.0.inside (all_inside os (suc n) xs ds sizes h.1)
  where
    both : (ys : List Reaching) → Each (λ a. (vs : List ℤ) → Seen os a vs → IsInside os d (pos size) (get_or vs n (pos 0))) ys → Each (λ a. (vs : List ℤ) → Seen os a vs → AllInside (suc n) ds sizes os vs) ys → Each (λ a. (vs : List ℤ) → Seen os a vs → AllInside n (d ∷ ds) (size ∷ sizes) os vs) ys
    both [] f g = tt
    both (a ∷ ys) f g = ((λ vs s. (f.0 vs s, g.0 vs s)), both ys f.1 g.1)

-- a region, over a point of its loop's outside
pub record Holding (args : List Arg) (us : List Use) (os : List ℤ) (sizes : List ℕ) (ds : List Dimension) : Type 0 where
  pub xs : List Reaching
  pub are : AreOf args us xs
  pub holds : AllHold os 0 xs ds sizes

-- the region before it is widened
unfoldable pub region_at : List Arg → List Header → List Use → List ℕ → Result (List Dimension) NoRegion
region_at args way us sizes = reaching args us >>= (λ xs. outside_at args way >>= (λ outside. dimensions outside (loop_count way) xs 0 sizes))

pub at_point : (k : Known) (p : List ℤ) → IsSeen k p → AtPoint (system_of k) p
at_point k p s = record { point = s.point; wide = s.wide }

region_holding : (args : List Arg) (way : List Header) (us : List Use) (sizes : List ℕ) (os rest : List ℤ) → length os ≡ symbol_count args + loop_count way
    → ((k : Known) → place args way [] ≡ Ok k → IsSeen k (os ++ rest)) → Gives (region_at args way us sizes) (Holding args us os sizes)
unfolding region_at
region_holding args way us sizes os rest e seen =
    then_by (reaching args us) _ (AreOf args us) (Holding args us os sizes) (are_of args us) (λ xs are.
    then_by (outside_at args way) (λ outside. dimensions outside (loop_count way) xs 0 sizes) Good (Holding args us os sizes) good (λ outside g.
    weaker (dimensions outside (loop_count way) xs 0 sizes) (λ ds. AllHold os 0 xs ds sizes) (Holding args us os sizes) (dimensions_hold os outside rest (loop_count way) xs 0 sizes g.0 g.1) (λ ds h. record { xs = xs; are = are; holds = h })))
  where
    Good : Outside → Type 0
    Good o = (o.outer ≡ length os) × AtPoint o.system (os ++ rest)

    good : Gives (outside_at args way) (λ o. (o.outer ≡ length os) × AtPoint o.system (os ++ rest))
    good = on (by_form (place args way [])) _ (λ o. (o.outer ≡ length os) × AtPoint o.system (os ++ rest)) (λ k made.
        let is = formed_is (place args way []) k made in
        (subst (λ w. forms.Gives w (λ g. g.outer ≡ symbol_count args + loop_count way)) is (place_outer args way []) ∙ sym e, at_point k (os ++ rest) (seen k is)))

    weaker : (w : Result (List Dimension) NoRegion) (P Q : List Dimension → Type 0) → Gives w P → ((x : List Dimension) → P x → Q x) → Gives w Q
    weaker (Ok x) P Q h f = f x h
    weaker (Err r) P Q h f = tt

same_known : (x y : Known) (w : Result Known LinearFault) → w ≡ Ok x → w ≡ Ok y → x ≡ y
same_known x y w a b = ap back (sym a ∙ b)
  where
    back : Result Known LinearFault → Known
    back (Ok z) = z
    back (Err r) = x

-- a region is what is found, widened for transfers
pub record IsFound (args : List Arg) (way : List Header) (us : List Use) (sizes : List ℕ) (dma : Bool) (ds : List Dimension) : Type 0 where
  pub found : List Dimension
  pub is : region_at args way us sizes ≡ Ok found
  pub widened : for_transfers dma sizes found ≡ ds

region_found : (args : List Arg) (way : List Header) (us : List Use) (sizes : List ℕ) (dma : Bool) → Gives (region_of args way us sizes dma) (IsFound args way us sizes dma)
unfolding region_of region_at
region_found args way us sizes dma =
    on (reaching args us) _ (IsFound args way us sizes dma) (λ xs a.
    on (outside_at args way) _ (IsFound args way us sizes dma) (λ outside b.
    on (dimensions outside (loop_count way) xs 0 sizes) _ (IsFound args way us sizes dma) (λ ds c.
    by (region_fits outside.ranges xs sizes dma (for_transfers dma sizes ds)) ds (joined xs outside ds a b c))))
  where
    joined : (xs : List Reaching) (outside : Outside) (ds : List Dimension) → reaching args us ≡ Ok xs → outside_at args way ≡ Ok outside → dimensions outside (loop_count way) xs 0 sizes ≡ Ok ds → region_at args way us sizes ≡ Ok ds
    joined xs outside ds a b c = rw (a, b, c)

    by : (b : Bool) (ds : List Dimension) → region_at args way us sizes ≡ Ok ds → Gives (kept_where b (for_transfers dma sizes ds)) (IsFound args way us sizes dma)
    by true ds e = record { found = ds; is = e; widened = refl }
    by false ds e = tt

pub found_of : (args : List Arg) (way : List Header) (us : List Use) (sizes : List ℕ) (dma : Bool) (ds : List Dimension) → region_of args way us sizes dma ≡ Ok ds → IsFound args way us sizes dma ds
found_of args way us sizes dma ds e = subst (λ w. Gives w (IsFound args way us sizes dma)) e (region_found args way us sizes dma)

pub regions_lie_within : RegionsLieWithin
regions_lie_within args way us sizes ds dma k is here os rest e point =
    let r = found_of args way us sizes dma ds is in
    let h = subst (λ w. Gives w (Holding args us os sizes)) r.is (region_holding args way us sizes os rest e (λ g made. seen_point g (os ++ rest) (subst (λ x. PointOf (system_of x) (os ++ rest) (pos 1)) (same_known k g (place args way []) here made) point))) in
    subst (λ x. AllWithin x sizes os) r.widened (within_kept os dma r.found sizes (all_within os 0 h.xs r.found sizes h.holds))

-- ---- the accesses of a text, along the making of its list
abbrev here_uses : Name → Nest → List Header → List Use
here_uses m (Does line p rest) way = use_of m p way
here_uses m here way = []

module _ (m : Name) (way : List Header) (U : Use → Type 0) where
  moved : (n : Nest) (inner more : List Header) → Each U (uses m n ((way ++ inner) ++ more)) → Each U (uses m n (way ++ (inner ++ more)))
  moved n inner more h = subst (λ w. Each U (uses m n w)) (append_assoc way inner more) h

  uses_along : (n : Nest) (inner : List Header) (e : Env) → Each U (uses m n (way ++ inner)) → Along (λ hs here g. Each U (here_uses m here (way ++ hs))) n inner e
  unfolding uses
  uses_along Nothing inner e h = tt
  uses_along (Loop line v l u s body rest) inner e h =
      let first = uses m body ((way ++ inner) ++ Round v l u s ∷ []) in
      let second = uses m rest ((way ++ inner) ++ Past body ∷ []) in (
        tt,
        (λ t turn. uses_along body (inner ++ Round v l u s ∷ []) (knows e v t) (moved body inner (Round v l u s ∷ []) (Each-first U first second h))),
        uses_along rest (inner ++ Past body ∷ []) (behind body e) (moved rest inner (Past body ∷ []) (Each-second U first second h)),
      )
  uses_along (Branch line set names first has other rest) inner e h =
      let a = uses m first ((way ++ inner) ++ Given set names ∷ []) in
      let b = uses m other ((way ++ inner) ++ Except set names first ∷ []) in
      let c = uses m rest (((way ++ inner) ++ Past first ∷ []) ++ Past other ∷ []) in (
        tt,
        (λ t. uses_along first (inner ++ Given set names ∷ []) e (moved first inner (Given set names ∷ []) (Each-first U a (b ++ c) h))),
        (λ t. uses_along other (inner ++ Except set names first ∷ []) (behind first e) (moved other inner (Except set names first ∷ []) (Each-first U b c (Each-second U a (b ++ c) h)))),
        uses_along rest ((inner ++ Past first ∷ []) ++ Past other ∷ []) (behind other (behind first e))
            (subst (λ w. Each U (uses m rest w)) (ap (λ w. w ++ Past other ∷ []) (append_assoc way inner (Past first ∷ [])) ∙ append_assoc way (inner ++ Past first ∷ []) (Past other ∷ [])) (Each-second U b c (Each-second U a (b ++ c) h))),
      )
  uses_along (Does line p rest) inner e h =
      let a = use_of m p (way ++ inner) in
      let b = uses m rest ((way ++ inner) ++ Behind p ∷ []) in
      (Each-first U a b h, uses_along rest (inner ++ Behind p ∷ []) (after_plain p e) (moved rest inner (Behind p ∷ []) (Each-second U a b h)))

along_both : (P Q : List Header → Nest → Env → Type 0) (n : Nest) (way : List Header) (e : Env) → Along P n way e → Along Q n way e → Along (λ hs here g. P hs here g × Q hs here g) n way e
along_both P Q Nothing way e h k = tt
along_both P Q (Loop line v l u s body rest) way e h k = ((h.0, k.0), (λ t turn. along_both P Q body (way ++ Round v l u s ∷ []) (knows e v t) (h.1 t turn) (k.1 t turn)), along_both P Q rest (way ++ Past body ∷ []) (behind body e) h.2 k.2)
along_both P Q (Branch line set names first has other rest) way e h k = (
  (h.0, k.0),
  (λ t. along_both P Q first (way ++ Given set names ∷ []) e (h.1 t) (k.1 t)),
  (λ t. along_both P Q other (way ++ Except set names first ∷ []) (behind first e) (h.2 t) (k.2 t)),
  along_both P Q rest ((way ++ Past first ∷ []) ++ Past other ∷ []) (behind other (behind first e)) h.3 k.3,
)
along_both P Q (Does line p rest) way e h k = ((h.0, k.0), along_both P Q rest (way ++ Behind p ∷ []) (after_plain p e) h.1 k.1)

-- ---- a loop at a visit
module _ (args : List Arg) (cells : List Cells) (zs : List ℤ) (fits : FitsArgs args cells zs) (way : List Header) (affine : AffineWay way) (ts : List ℤ) (f : Env) (visits : Visits way (start_env args zs) ts f) where
  -- each access of the loop, where it is come to from this visit
  abbrev UseInside : List Dimension → List ℕ → Use → Type 0
  UseInside ds sizes (Affine there stores at) = (inner : List Header) (us : List ℤ) (g : Env) → there ≡ way ++ inner → AffineWay inner → Visits inner f us g → AllInside 0 ds sizes (zs ++ ts) (results_of g at)
  UseInside ds sizes Other = Unit {0}

  vars_is : (k : Known) → (system_of k).vars ≡ k.next
  unfolding system_of
  vars_is k = refl

  seen_here : (a : Reaching) (inner : List Header) (us : List ℤ) (g : Env) (at : Access) → IsReaching args (way ++ inner) at a → AffineWay inner → Visits inner f us g → Seen (zs ++ ts) a (results_of g at)
  seen_here a inner us g at is aff vis =
      let k = is.accessed in
      let r = subst (λ w. forms.Gives w (AccessArrived (zs ++ (ts ++ us)) (results_of g at))) is.is
      (access_arrives args cells zs (way ++ inner) at (ts ++ us) g fits (affine_append way inner affine aff) (visits_append way inner (start_env args zs) f g ts us visits vis)) in
      let same : (zs ++ (ts ++ us)) ++ r.more ≡ (zs ++ ts) ++ (us ++ r.more) = ap (λ x. x ++ r.more) (sym (append_assoc zs ts us)) ∙ append_assoc (zs ++ ts) us r.more in
      subst (λ b. Seen (zs ++ ts) b (results_of g at)) (sym is.same) (record {
        rest = us ++ r.more;
        seen = at_point k.known ((zs ++ ts) ++ (us ++ r.more)) (subst (IsSeen k.known) same r.seen);
        forms = subst (λ n. Are n ((zs ++ ts) ++ (us ++ r.more)) k.forms (results_of g at)) (sym (vars_is k.known)) (subst (λ q. Are k.known.next q k.forms (results_of g at)) same r.forms);
      })

  uses_inside : (ds : List Dimension) (sizes : List ℕ) (us : List Use) (xs : List Reaching) → AreOf args us xs → Each (λ a. (vs : List ℤ) → Seen (zs ++ ts) a vs → AllInside 0 ds sizes (zs ++ ts) vs) xs → Each (UseInside ds sizes) us
  uses_inside ds sizes [] [] a h = tt
  uses_inside ds sizes [] (x ∷ xs) a h = absurd a
  uses_inside ds sizes (u ∷ us) [] a h = absurd a
  uses_inside ds sizes (Affine there stores at ∷ us) (x ∷ xs) a h =
      ((λ inner ws g e aff vis. h.0 (results_of g at) (seen_here x inner ws g at (subst (λ w. IsReaching args w at x) e a.0) aff vis)), uses_inside ds sizes us xs a.1 h.1)
  uses_inside ds sizes (Other ∷ us) (x ∷ xs) a h = absurd a

  outside_seen : (k : Known) → place args way [] ≡ Ok k → (rest : List ℤ) × IsSeen k ((zs ++ ts) ++ rest)
  outside_seen k is =
      let r = subst (λ w. forms.Gives w (Arrived (zs ++ ts) f)) is (place_arrives args cells zs way [] ts f fits affine visits) in
      (r.more, seen_of k ((zs ++ ts) ++ r.more) [] f.known r.long r.holds)

  region_inside : (us : List Use) (sizes : List ℕ) (ds : List Dimension) → region_at args way us sizes ≡ Ok ds → AllWithin ds sizes (zs ++ ts) × Each (UseInside ds sizes) us
  region_inside us sizes ds is =
      let long : length (zs ++ ts) ≡ symbol_count args + loop_count way = omega (arith, length-append zs ts, fits_length args cells zs fits, visits_length way (start_env args zs) ts f visits) in
      by (place args way []) refl long
    where
      holding : (rest : List ℤ) → length (zs ++ ts) ≡ symbol_count args + loop_count way → ((k : Known) → place args way [] ≡ Ok k → IsSeen k ((zs ++ ts) ++ rest)) → AllWithin ds sizes (zs ++ ts) × Each (UseInside ds sizes) us
      holding rest long seen =
          let h = subst (λ w. Gives w (Holding args us (zs ++ ts) sizes)) is (region_holding args way us sizes (zs ++ ts) rest long seen) in
          (all_within (zs ++ ts) 0 h.xs ds sizes h.holds, uses_inside ds sizes us h.xs h.are (all_inside (zs ++ ts) 0 h.xs ds sizes h.holds))

      by : (w : Result Known LinearFault) → place args way [] ≡ w → length (zs ++ ts) ≡ symbol_count args + loop_count way → AllWithin ds sizes (zs ++ ts) × Each (UseInside ds sizes) us
      by (Ok k) e long =
          let o = outside_seen k e in
          holding o.0 long (λ g made. subst (λ x. IsSeen x ((zs ++ ts) ++ o.0)) (same_known k g (place args way []) e made) o.1)
      by (Err r) e long = holding [] long (λ g made. absurd (never (sym e ∙ made)))
        where
          never : {g : Known} → ¬ (Path (Result Known LinearFault) (Err r) (Ok g))
          never p = cc

  -- the accesses of a loop's body are those of the loop alone
  loop_uses : (name : Name) (line : ℕ) (v : Name) (l u : Bound) (s : ℤ) (body : Nest) (U : Use → Type 0) → Each U (uses name body (way ++ Round v l u s ∷ [])) → Each U (uses name (Loop line v l u s body Nothing) (way ++ []))
  unfolding uses
  loop_uses name line v l u s body U h =
      Each-append U (uses name body ((way ++ []) ++ Round v l u s ∷ [])) [] (subst (λ w. Each U (uses name body (w ++ Round v l u s ∷ []))) (sym (append-nil way)) h) tt

  named_use : (name n : Name) (x : Use) (U : Use → Type 0) → Each U (if_named name n x) → same_name name n ≡ true → U x
  named_use name n x U h e = by (same_name name n) e h
    where
      by : (b : Bool) → b ≡ true → Each U (cond b (x ∷ []) []) → U x
      by true e h = h.0
      by false e h = absurd (let z : ⊥ = cc in z)

  here_inside : (name : Name) (ds : List Dimension) (sizes : List ℕ) (inner : List Header) (here : Nest) (g : Env) → Each (UseInside ds sizes) (here_uses name here (way ++ inner)) → Comes f inner g → AccessInside name ds sizes (zs ++ ts) here g
  here_inside name ds sizes inner Nothing g h c = tt
  here_inside name ds sizes inner (Loop line v l u s body rest) g h c = tt
  here_inside name ds sizes inner (Branch line set names first has other rest) g h c = tt
  here_inside name ds sizes inner (Does line (Load r n at ty) rest) g h c = λ e. named_use name n (Affine (way ++ inner) false at) (UseInside ds sizes) h e inner c.turns g refl c.affine c.visits
  here_inside name ds sizes inner (Does line (Store x n at ty) rest) g h c = λ e. named_use name n (Affine (way ++ inner) true at) (UseInside ds sizes) h e inner c.turns g refl c.affine c.visits
  here_inside name ds sizes inner (Does line (Value r pick at) rest) g h c = tt
  here_inside name ds sizes inner (Does line (RawLoad r n at ty) rest) g h c = tt
  here_inside name ds sizes inner (Does line (RawStore x n at ty) rest) g h c = tt
  here_inside name ds sizes inner (Does line (Constant r z ty) rest) g h c = tt
  here_inside name ds sizes inner (Does line (Binary r op x y ty) rest) g h c = tt
  here_inside name ds sizes inner (Does line (Cast r kind x from to) rest) g h c = tt
  here_inside name ds sizes inner (Does line (Alloc r ty) rest) g h c = tt
  here_inside name ds sizes inner (Does line (Dealloc n ty) rest) g h c = tt
  here_inside name ds sizes inner (Does line (Start x x_at y y_at t t_at n stride types) rest) g h c = tt
  here_inside name ds sizes inner (Does line (Wait t at n ty) rest) g h c = tt
  here_inside name ds sizes inner (Does line Return rest) g h c = tt

  pub loop_region : (line : ℕ) (v : Name) (l u : Bound) (s : ℤ) (body rest : Nest) → AffineNest (Loop line v l u s body rest) → (name : Name) (sizes : List ℕ) (ds : List Dimension)
      → region_at args way (uses_at name way v l u s body) sizes ≡ Ok ds → AllWithin ds sizes (zs ++ ts) × Along (λ inner here g. AccessInside name ds sizes (zs ++ ts) here g) (Loop line v l u s body Nothing) [] f
  loop_region line v l u s body rest a name sizes ds is =
      let loop = Loop line v l u s body Nothing in
      let h = region_inside (uses_at name way v l u s body) sizes ds is in
      let along = uses_along name way (UseInside ds sizes) loop [] f (loop_uses name line v l u s body (UseInside ds sizes) h.1) in
      let both = along_both (λ hs here g. Each (UseInside ds sizes) (here_uses name here (way ++ hs))) (λ hs here g. Comes f hs g) loop [] f along (along_comes loop f (a.0, a.1, a.2, a.3, tt)) in
      (h.0, along_weaken (λ hs here g. Each (UseInside ds sizes) (here_uses name here (way ++ hs)) × Comes f hs g) (λ inner here g. AccessInside name ds sizes (zs ++ ts) here g) (λ inner here g k. here_inside name ds sizes inner here g k.0 k.1) loop [] f both)

access_kept : (name : Name) (dma : Bool) (ds : List Dimension) (sizes : List ℕ) (os : List ℤ) (here : Nest) (g : Env) → AccessInside name ds sizes os here g → AccessInside name (for_transfers dma sizes ds) sizes os here g
access_kept name dma ds sizes os Nothing g h = tt
access_kept name dma ds sizes os (Loop line v l u s body rest) g h = tt
access_kept name dma ds sizes os (Branch line set names first has other rest) g h = tt
access_kept name dma ds sizes os (Does line (Load r n at ty) rest) g h = λ e. inside_kept os (results_of g at) dma ds sizes (h e)
access_kept name dma ds sizes os (Does line (Store x n at ty) rest) g h = λ e. inside_kept os (results_of g at) dma ds sizes (h e)
access_kept name dma ds sizes os (Does line (Value r pick at) rest) g h = tt
access_kept name dma ds sizes os (Does line (RawLoad r n at ty) rest) g h = tt
access_kept name dma ds sizes os (Does line (RawStore x n at ty) rest) g h = tt
access_kept name dma ds sizes os (Does line (Constant r z ty) rest) g h = tt
access_kept name dma ds sizes os (Does line (Binary r op x y ty) rest) g h = tt
access_kept name dma ds sizes os (Does line (Cast r kind x from to) rest) g h = tt
access_kept name dma ds sizes os (Does line (Alloc r ty) rest) g h = tt
access_kept name dma ds sizes os (Does line (Dealloc n ty) rest) g h = tt
access_kept name dma ds sizes os (Does line (Start x x_at y y_at t t_at n stride types) rest) g h = tt
access_kept name dma ds sizes os (Does line (Wait t at n ty) rest) g h = tt
access_kept name dma ds sizes os (Does line Return rest) g h = tt

pub regions_hold : RegionsHold
regions_hold m valid memory fits steps way line v l u s body rest at name sizes ds dma is turns f visits =
    let p = path_affine (nest m.body) steps (record { way = way; here = Loop line v l u s body rest }) (valid_affine m valid) at in
    let os = memory.symbols ++ turns in
    let r = found_of m.args way (uses_at name way v l u s body) sizes dma ds is in
    let h = loop_region m.args memory.memrefs memory.symbols fits.fits way p.0 turns f visits line v l u s body rest p.1 name sizes r.found r.is in
    subst (λ x. AllWithin x sizes os × Along (λ inner here g. AccessInside name x sizes os here g) (Loop line v l u s body Nothing) [] f) r.widened (
      within_kept os dma r.found sizes h.0,
      along_weaken (λ inner here g. AccessInside name r.found sizes os here g) (λ inner here g. AccessInside name (for_transfers dma sizes r.found) sizes os here g)
          (λ inner here g k. access_kept name dma r.found sizes os here g k) (Loop line v l u s body Nothing) [] f h.1,
    )
