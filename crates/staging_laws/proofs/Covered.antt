-- Where each element of the box is stored to in a visit of the loop, each cell's slow place is. And a store to a place of another
-- memref stays one when a placement is staged.
use Rattle.std.proofs.Common.{◌≡◌, ℕ, zero, suc, ◌*◌, ◌+◌, ◌-◌, ◌<◌, ◌%◌, ℤ, pos, List, [], ◌∷◌, ◌++◌, map, length, refl, sym, ap, ◌∙◌, arith, Bool, true, false}
use Rattle.std.specs.Prelude.{◌||◌, Some, slice_index_or, if◌then◌else◌}
use Rattle.std.specs.List.{list_any}
use Rattle.std.proofs.lemmas.Int.{ints}
use Rattle.std.proofs.lemmas.Nat.{div_below, mod_below}
use Rattle.std.proofs.lemmas.Bool.{eq-eqb, eqb-true}
use Rattle.affine_ast.specs.declared.name.Name.{Name}
use Rattle.affine_ast.specs.Nest.{Nest, Store}
use Rattle.affine_ast.specs.Sizes.{product}
use Rattle.direct_meaning.specs.Action.{Place, Slow, Fast, Outside, Operand, Action, Known, Sets, Loads, Stores, RawLoads, RawStores, Operates, Converts, Allocates, Releases, AllocatesTags, ReleasesTags, Starts, Waits, Faults, Returns}
use Rattle.direct_meaning.specs.Static.{Env, operand, cell_in, slow_at, place_at, place_of}
use Rattle.direct_meaning.specs.Actions.{action_of, actions}
use Rattle.boxes.specs.Boxes.{Side}
use Rattle.placement_texts.specs.Boxes.{sizes_of, extents_of, LiesIn, InBox, box_cell, moved_to, is_of, box_place}
use Rattle.placement_texts.specs.Labels.{Numbers, place_with, action_with, action_up, action_in_box}
use Rattle.placement_texts.specs.Template.{Placement}
use Rattle.placement_texts.specs.Parts as text
use Rattle.boxes.specs.Boxes.{cell}
use Rattle.placement_texts.specs.Parts.{row_number, behind_place}
use Rattle.placement_texts.proofs.CopyRun.{Below, cell_number, behind_below}
use Rattle.box_run_laws.specs.Parts.{stores_to}
use Rattle.box_run_laws.proofs.RowMajor.{digits}
use Rattle.staging_laws.specs.Joined.{places_in, OnBoxes}
use Rattle.staging_laws.specs.Spared.{StoresAll, IsStored}
use Rattle.staging_laws.proofs.Loops.{row_digits}

or_second : (a b : Bool) → b ≡ true → (a || b) ≡ true
or_second true b h = refl
or_second false b h = h

or_assoc : (a b c : Bool) → (a || (b || c)) ≡ ((a || b) || c)
or_assoc true b c = refl
or_assoc false b c = refl

digits_below : (es : List ℕ) (t : ℕ) → t < product es → Below es (digits es t)
digits_below [] t h = tt
digits_below (e ∷ es) t h =
    let some = positive e (product es) t h in
    (div_below t (product es) e some h, digits_below es (t % product es) (mod_below t (product es) some))
  where
    positive : (e p t : ℕ) → t < e * p → 0 < p
    positive e zero t h = absurd (let z : e * 0 ≡ 0 = omega arith in omega (arith, h, z))
    positive e (suc p) t h = omega arith

in_box : (ss : List Side) (is : List ℕ) → Below (extents_of ss) is → InBox ss (map pos (behind_place ss is))
in_box [] [] h = tt
in_box (s ∷ ss) (i ∷ is) h = let less = h.0 in (omega (arith, ints), omega (arith, ints, less), in_box ss is h.1)
in_box [] (i ∷ is) h = absurd h
in_box (s ∷ ss) [] h = absurd h

store_is : (first : ℕ) (m : Name) (order : ℕ) (sizes : List ℕ) (zs : List ℤ) (n : Nest) (f : Env) (k : ℕ) → (t : IsStored m order first sizes zs n f) → cell_in sizes zs ≡ Some k → action_of (Store t.value m t.at t.ty) t.env ≡ Stores (operand t.env t.value) (Slow (first + k))
unfolding action_of place_of
store_is first m order sizes zs n f k t e = ap (Stores (operand t.env t.value)) ((λ i. place_at (t.home i) (t.type i) (t.subscripts i)) ∙ ap (slow_at first) e)

any_from : (f : Action → Bool) (xs : List Action) (x : Action) (k : ℕ) → k < length xs → slice_index_or xs k x ≡ x → f x ≡ true → list_any f xs ≡ true
any_from f [] x k less is e = absurd (omega (arith, less))
any_from f (y ∷ xs) x zero less is e = let h : f y ≡ true = ap f is ∙ e in ap (λ b. b || list_any f xs) h
any_from f (y ∷ xs) x (suc k) less is e = or_second (f y) (list_any f xs) (any_from f xs x k (omega (arith, less)) is e)

-- from the sweep of a cover to a store at each cell's place
pub stores_all : (m : Name) (order first : ℕ) (ss : List Side) (loop : Nest) (e : Env) → LiesIn ss → ((zs : List ℤ) → InBox ss zs → IsStored m order first (sizes_of ss) zs loop e) → StoresAll first ss (actions loop e)
stores_all m order first ss loop e lies h k less =
    let is = digits (extents_of ss) k in
    let b = digits_below (extents_of ss) k less in
    let zs = map pos (behind_place ss is) in
    let t = h zs (in_box ss is b) in
    let at : cell_in (sizes_of ss) zs ≡ Some (cell ss k) = cell_number (sizes_of ss) (behind_place ss is) (behind_below ss is lies b) ∙ ap Some (row_digits ss k) in
    let found = t.found in
    any_from (stores_to (places_in first ss k)) (actions loop e) (action_of (Store t.value m t.at t.ty) t.env) found.0 found.1 found.2
    (ap (stores_to (places_in first ss k)) (store_is first m order (sizes_of ss) zs loop e (cell ss k) t at) ∙ eq-eqb (places_in first ss k) (places_in first ss k) refl)

-- ---- a store to a slow place that isn't the memref's
any_append : (f : Action → Bool) (xs ys : List Action) → list_any f (xs ++ ys) ≡ (list_any f xs || list_any f ys)
any_append f [] ys = refl
any_append f (x ∷ xs) ys = ap (λ b. f x || b) (any_append f xs ys) ∙ or_assoc (f x) (list_any f xs) (list_any f ys)

any_first : (f : Action → Bool) (xs ys : List Action) → list_any f xs ≡ true → list_any f (xs ++ ys) ≡ true
any_first f xs ys h = any_append f xs ys ∙ ap (λ b. b || list_any f ys) h

any_second : (f : Action → Bool) (xs ys : List Action) → list_any f ys ≡ true → list_any f (xs ++ ys) ≡ true
any_second f xs ys h = any_append f xs ys ∙ or_second (list_any f xs) (list_any f ys) h

data Either (a b : Bool) : Type 0 where
  First : a ≡ true → Either a b
  Second : b ≡ true → Either a b

or_either : (a b : Bool) → (a || b) ≡ true → Either a b
or_either true b h = First refl
or_either false b h = Second h

pub any_map : (f : Action → Bool) (go : Action → Action) → ((x : Action) → f x ≡ true → f (go x) ≡ true) → (xs : List Action) → list_any f xs ≡ true → list_any f (map go xs) ≡ true
any_map f go one [] h = h
any_map f go one (x ∷ xs) h = by (or_either (f x) (list_any f xs) h) (λ k. any_map f go one xs k)
  where
    by : Either (f x) (list_any f xs) → (list_any f xs ≡ true → list_any f (map go xs) ≡ true) → (f (go x) || list_any f (map go xs)) ≡ true
    by (First k) more = ap (λ b. b || list_any f (map go xs)) (one x k)
    by (Second k) more = or_second (f (go x)) (list_any f (map go xs)) (more k)

module _ (p : Placement) (order first : ℕ) (new : Numbers) (q : ℕ) where
  at_place : (g : ℕ → Place) → g q ≡ Slow q → (x : Operand) (y : Place) → stores_to q (Stores x y) ≡ true → stores_to q (Stores x (place_with g new y)) ≡ true
  at_place g stays x (Slow r) h =
      let same : r ≡ q = eqb-true r q h in
      ap (λ y. stores_to q (Stores x y)) (ap g same ∙ stays) ∙ eq-eqb q q refl
  at_place g stays x (Fast n i c) h = cc
  at_place g stays x Outside h = cc

  pub action_kept : (g : ℕ → Place) → g q ≡ Slow q → (x : Action) → stores_to q x ≡ true → stores_to q (action_with g new x) ≡ true
  action_kept g stays (Stores x y) h = at_place g stays x y h
  action_kept g stays Known h = cc
  action_kept g stays (Sets r z) h = cc
  action_kept g stays (Loads r y) h = cc
  action_kept g stays (RawLoads r home sizes subs) h = cc
  action_kept g stays (RawStores x home sizes subs) h = cc
  action_kept g stays (Operates r op bits a b) h = cc
  action_kept g stays (Converts r kind from to x) h = cc
  action_kept g stays (Allocates number element sizes) h = cc
  action_kept g stays (Releases number element sizes) h = cc
  action_kept g stays (AllocatesTags low count) h = cc
  action_kept g stays (ReleasesTags low count) h = cc
  action_kept g stays (Starts t) h = cc
  action_kept g stays (Waits tag count) h = cc
  action_kept g stays (Faults k) h = cc
  action_kept g stays Returns h = cc

  -- so a cover of another memref's box is kept by a placement
  pub stores_kept : (ps : List text.Part) → OnBoxes (λ ss xs. is_of first (sizes_of ss) q ≡ false) ps → list_any (stores_to q) (text.original ps) ≡ true → list_any (stores_to q) (text.staged p order first new ps) ≡ true
  stores_kept [] b h = h
  stores_kept (text.Stays x ∷ ps) b h = by (or_either (stores_to q x) (list_any (stores_to q) (text.original ps)) h) (λ k. stores_kept ps b k)
    where
      by : Either (stores_to q x) (list_any (stores_to q) (text.original ps)) → (list_any (stores_to q) (text.original ps) ≡ true → list_any (stores_to q) (text.staged p order first new ps) ≡ true)
          → (stores_to q (action_up new x) || list_any (stores_to q) (text.staged p order first new ps)) ≡ true
      by (First k) more = ap (λ b. b || list_any (stores_to q) (text.staged p order first new ps)) (action_kept Slow refl x k)
      by (Second k) more = or_second (stores_to q (action_up new x)) (list_any (stores_to q) (text.staged p order first new ps)) (more k)
  stores_kept (text.Made ∷ ps) b h = stores_kept ps b h
  stores_kept (text.Box ss xs ∷ ps) b h =
      by (or_either (list_any (stores_to q) xs) (list_any (stores_to q) (text.original ps)) (sym (any_append (stores_to q) xs (text.original ps)) ∙ h)) (λ k. stores_kept ps b.1 k)
    where
      stays : box_place first ss new.fast q ≡ Slow q
      stays = ap (λ t. if t then moved_to new.fast q (box_cell ss (q - first)) else Slow q) b.0

      inner : list_any (stores_to q) xs ≡ true → list_any (stores_to q) (text.boxed p order first new ss xs) ≡ true
      inner k =
          any_second (stores_to q) (text.allocating p order first new p.how ss) _
          (any_second (stores_to q) (text.only_if p order first new p.reads (text.reading p order first new p.how ss)) _
          (any_first (stores_to q) (map (action_in_box first ss new) xs) _ (any_map (stores_to q) (action_in_box first ss new) (action_kept (λ r. box_place first ss new.fast r) stays) xs k)))

      by : Either (list_any (stores_to q) xs) (list_any (stores_to q) (text.original ps)) → (list_any (stores_to q) (text.original ps) ≡ true → list_any (stores_to q) (text.staged p order first new ps) ≡ true)
          → list_any (stores_to q) (text.boxed p order first new ss xs ++ text.staged p order first new ps) ≡ true
      by (First k) more = any_first (stores_to q) (text.boxed p order first new ss xs) (text.staged p order first new ps) (inner k)
      by (Second k) more = any_second (stores_to q) (text.boxed p order first new ss xs) (text.staged p order first new ps) (more k)
