-- The bounds of the loops that a loop is split into can stand where its own can.
use Rattle.std.proofs.Common.{◌≡◌, ℕ, zero, suc, ◌+◌, ◌-◌, ◌<◌, ◌≤◌, ℤ, pos, ◌<ℤ◌, List, [], ◌∷◌, ◌++◌, length, refl, sym, ap, ◌∙◌, subst, arith, Bool, true, false, take, drop}
use Rattle.std.specs.Prelude.{◌&&◌, ◌||◌, Option, Some, None, is_some, nat_eq, int_lt, if◌then◌else◌}
use Rattle.std.specs.Ordering.{int_eq}
use Rattle.std.specs.List.{list_all}
use Rattle.std.proofs.lemmas.Bool.{and_parts, ltb-true, lt-ltb, eqb-true, eq-eqb}
use Rattle.std.proofs.lemmas.List.{length-append}
use Rattle.affine_expr.specs.declared.expr.Expr.{Expr, Const, Dim, Sub, Mul, FloorDiv, fold-Expr, fold-roll-Expr, ind-Expr, map-Expr, roll-Expr}
use Rattle.affine_expr.specs.declared.expr.Expr.TheVariants.{rolls-Const, rolls-Mul}
use Rattle.affine_expr.specs.declared.expr.Expr.TheOpen.{Expr-F}
use Rattle.affine_expr.specs.Pure.{Purity, purity_step, purity, is_pure, has_leaves_below, leaves_step}
use Rattle.affine_ast.specs.declared.name.Name.{Name}
use Rattle.affine_ast.specs.declared.types.Access.{Access}
use Rattle.affine_ast.specs.declared.types.Bound.{Bound}
use Rattle.affine_ast.specs.declared.types.Bound.TheVariants as bound
use Rattle.affine_ast.specs.Rules.{is_in, are_in, is_dimension, is_symbol, operands_stand, map_fits, has_result, access_pure}
use Rattle.affine_ast.specs.Scope.{Scope}
use Rattle.loop_forms.specs.Split.{as_map, sole, behind, second_of, over_both, with_result, reach, prologue_length, last_turns, of_maps, split_of}
use Rattle.loop_forms.specs.Sums.{number_of, sum_of, difference_by, difference_of}
use Rattle.placement_texts.proofs.BlockForms.{AccessHolds}
use Rattle.placement_texts.proofs.ScopedRedirect.{leaves-Const, leaves-Sub, all_both}
use Rattle.placement_texts.proofs.ScopedAccess.{pure-Const, pure-Sub}
use Rattle.placement_texts.proofs.Subscripts.{take_all, drop_all}
use Rattle.ring_validity.specs.Openings.{BoundWell}
use Rattle.ring_validity.proofs.Forms.{behind_leaves, behind_pure, sum_leaves, sum_pure}
use Rattle.ring_validity.proofs.Openings.{map_uses, map_stands, fitted, map_pure, sole_leaves, sole_pure}
use Rattle.ring_validity.proofs.Places.{leaves-FloorDiv, pure_floor}
use Rattle.ring_loops.specs.Law.{PartsWell, SplitStaysWell}

-- ---- expressions over so many dimensions and symbols, in which products and divisions stand
abbrev Good : ℕ → ℕ → Expr → Type 0
Good d n e = (has_leaves_below d n e ≡ true) × (is_pure e ≡ true)

abbrev AllGood : ℕ → ℕ → List Expr → Type 0
AllGood d n [] = Unit {0}
AllGood d n (e ∷ es) = Good d n e × AllGood d n es

module _ (d n : ℕ) where
  good_number : (z : ℤ) → Good d n (Const z)
  good_number z = (leaves-Const d n z, pure-Const z)

  good_sum : (a b : Expr) → Good d n a → Good d n b → Good d n (sum_of a b)
  good_sum a b h k = (sum_leaves d n a b h.0 k.0, sum_pure a b h.1 k.1)

  good_less : (a b : Expr) → Good d n a → Good d n b → Good d n (Sub a b)
  good_less a b h k = (leaves-Sub d n a b ∙ (λ i. h.0 i && k.0 i), pure-Sub a b ∙ (λ i. h.1 i && k.1 i))

  good_if : (c : Bool) (a b : Expr) → Good d n a → Good d n b → Good d n (if c then a else b)
  good_if true a b h k = h
  good_if false a b h k = k

  good_difference : (a b : Expr) → Good d n a → Good d n b → Good d n (difference_of a b)
  good_difference a b h k = by (number_of a) (number_of b)
    where
      by : (x y : Option ℤ) → Good d n (difference_by x y a b)
      by (Some x) (Some y) = good_number _
      by (Some x) None = good_less a b h k
      by None (Some y) = good_if (int_eq y (pos 0)) a (Sub a b) h (good_less a b h k)
      by None None = good_less a b h k

  or_true : (x : Bool) → (x || true) ≡ true
  or_true true = refl
  or_true false = refl

  pure_product : (a : Expr) (z : ℤ) → is_pure a ≡ true → is_pure (Mul a (Const z)) ≡ true
  unfolding is_pure
  pure_product a z h =
      ap (λ e. (fold-Expr Purity purity_step e).pure) (sym (rolls-Mul a (Const z))) ∙ ap (λ (p : Purity). p.pure) (fold-roll-Expr Purity purity_step (Expr-F.Mul a (Const z)))
      ∙ (λ i. (h i && pure-Const z i) && known i)
    where
      number : (z : ℤ) → (purity (Const z)).fixed ≡ Some z
      number z = ap (λ e. (fold-Expr Purity purity_step e).fixed) (sym (rolls-Const z)) ∙ ap (λ (p : Purity). p.fixed) (fold-roll-Expr Purity purity_step (Expr-F.Const z))

      known : (is_some (purity a).fixed || is_some (purity (Const z)).fixed) ≡ true
      known = ap (λ (o : Option ℤ). is_some (purity a).fixed || is_some o) (number z) ∙ or_true (is_some (purity a).fixed)

  leaves_product : (a b : Expr) → has_leaves_below d n (Mul a b) ≡ (has_leaves_below d n a && has_leaves_below d n b)
  unfolding has_leaves_below
  leaves_product a b = ap (fold-Expr Bool (leaves_step d n)) (sym (rolls-Mul a b)) ∙ fold-roll-Expr Bool (leaves_step d n) (Expr-F.Mul a b)

  good_product : (a : Expr) (z : ℤ) → Good d n a → Good d n (Mul a (Const z))
  good_product a z h = (leaves_product a (Const z) ∙ (λ i. h.0 i && leaves-Const d n z i), pure_product a z h.1)

  good_floor : (a : Expr) (z : ℤ) → pos 0 <ℤ z → Good d n a → Good d n (FloorDiv a (Const z))
  good_floor a z l h = (leaves-FloorDiv d n a (Const z) ∙ (λ i. h.0 i && leaves-Const d n z i), pure_floor a z l h.1)

  good_last_turns : (l u : Expr) (s : ℤ) (k : ℕ) → pos 0 <ℤ s → Good d n l → Good d n u → Good d n (last_turns l u s k)
  good_last_turns l u s k p h j =
      let length = good_difference (difference_of u l) (Const (pos 1)) (good_difference u l j h) (good_number (pos 1)) in
      let turns = good_difference (FloorDiv (difference_of (difference_of u l) (Const (pos 1))) (Const s)) (Const (pos (k - 2))) (good_floor (difference_of (difference_of u l) (Const (pos 1))) s p length) (good_number (pos (k - 2))) in
      good_sum l (Mul (difference_of (FloorDiv (difference_of (difference_of u l) (Const (pos 1))) (Const s)) (Const (pos (k - 2)))) (Const s)) h
      (good_product (difference_of (FloorDiv (difference_of (difference_of u l) (Const (pos 1))) (Const s)) (Const (pos (k - 2)))) s turns)

  all_leaves : (es : List Expr) → AllGood d n es → list_all (has_leaves_below d n) es ≡ true
  all_leaves [] h = refl
  all_leaves (e ∷ es) h = λ i. h.0.0 i && all_leaves es h.1 i

  all_pure : (es : List Expr) → AllGood d n es → list_all is_pure es ≡ true
  all_pure [] h = refl
  all_pure (e ∷ es) h = λ i. h.0.1 i && all_pure es h.1 i

-- more dimensions and symbols
module _ (d n k m : ℕ) where
  abbrev More : Expr → Type 0
  More e = has_leaves_below d n e ≡ true → has_leaves_below (d + k) (n + m) e ≡ true

  two : (a b a' b' : Bool) → (a ≡ true → a' ≡ true) → (b ≡ true → b' ≡ true) → (a && b) ≡ true → (a' && b') ≡ true
  two a b a' b' h j e = let p = and_parts a b e in λ i. h p.0 i && j p.1 i

  new : (x : Expr-F Expr) → has_leaves_below (d + k) (n + m) (roll-Expr x) ≡ leaves_step (d + k) (n + m) (map-Expr Expr Bool (has_leaves_below (d + k) (n + m)) x)
  unfolding has_leaves_below
  new x = fold-roll-Expr Bool (leaves_step (d + k) (n + m)) x

  old : (x : Expr-F Expr) → has_leaves_below d n (roll-Expr x) ≡ true → leaves_step d n (map-Expr Expr Bool (has_leaves_below d n) x) ≡ true
  unfolding has_leaves_below
  old x h = sym (fold-roll-Expr Bool (leaves_step d n) x) ∙ h

  layer : (y : Expr-F ((e : Expr) × More e)) → More (roll-Expr (map-Expr ((e : Expr) × More e) Expr (λ e. e.0) y))
  layer (Expr-F.Dim x) h = let l = ltb-true x d (old (Expr-F.Dim x) h) in new (Expr-F.Dim x) ∙ lt-ltb x (d + k) (omega (arith, l))
  layer (Expr-F.Sym x) h = let l = ltb-true x n (old (Expr-F.Sym x) h) in new (Expr-F.Sym x) ∙ lt-ltb x (n + m) (omega (arith, l))
  layer (Expr-F.Const z) h = new (Expr-F.Const z)
  layer (Expr-F.Neg a) h = new (Expr-F.Neg a.0) ∙ a.1 (old (Expr-F.Neg a.0) h)
  layer (Expr-F.Add a b) h = new (Expr-F.Add a.0 b.0) ∙ two _ _ _ _ a.1 b.1 (old (Expr-F.Add a.0 b.0) h)
  layer (Expr-F.Sub a b) h = new (Expr-F.Sub a.0 b.0) ∙ two _ _ _ _ a.1 b.1 (old (Expr-F.Sub a.0 b.0) h)
  layer (Expr-F.Mul a b) h = new (Expr-F.Mul a.0 b.0) ∙ two _ _ _ _ a.1 b.1 (old (Expr-F.Mul a.0 b.0) h)
  layer (Expr-F.FloorDiv a b) h = new (Expr-F.FloorDiv a.0 b.0) ∙ two _ _ _ _ a.1 b.1 (old (Expr-F.FloorDiv a.0 b.0) h)
  layer (Expr-F.CeilDiv a b) h = new (Expr-F.CeilDiv a.0 b.0) ∙ two _ _ _ _ a.1 b.1 (old (Expr-F.CeilDiv a.0 b.0) h)
  layer (Expr-F.Mod a b) h = new (Expr-F.Mod a.0 b.0) ∙ two _ _ _ _ a.1 b.1 (old (Expr-F.Mod a.0 b.0) h)

  more_leaves : (e : Expr) → More e
  more_leaves = ind-Expr More (λ x y is. subst (λ z. More (roll-Expr z)) is (layer y))

-- ---- operands of two maps
all_taken : (f : Name → Bool) (k : ℕ) (ns : List Name) → list_all f ns ≡ true → list_all f (take k ns) ≡ true
all_taken f zero ns h = refl
all_taken f (suc k) [] h = refl
all_taken f (suc k) (n ∷ ns) h = let p = and_parts (f n) (list_all f ns) h in λ i. p.0 i && all_taken f k ns p.1 i

all_dropped : (f : Name → Bool) (k : ℕ) (ns : List Name) → list_all f ns ≡ true → list_all f (drop k ns) ≡ true
all_dropped f zero ns h = h
all_dropped f (suc k) [] h = refl
all_dropped f (suc k) (n ∷ ns) h = all_dropped f k ns (and_parts (f n) (list_all f ns) h).1

length_taken : (ns : List Name) (k m : ℕ) → length ns ≡ k + m → length (take k ns) ≡ k
length_taken ns zero m h = refl
length_taken [] (suc k) m h = absurd (omega (arith, h))
length_taken (n ∷ ns) (suc k) m h = ap suc (length_taken ns k m (omega (arith, h)))

length_dropped : (ns : List Name) (k m : ℕ) → length ns ≡ k + m → length (drop k ns) ≡ m
length_dropped ns zero m h = omega (arith, h)
length_dropped [] (suc k) m h = absurd (omega (arith, h))
length_dropped (n ∷ ns) (suc k) m h = length_dropped ns k m (omega (arith, h))

holds : (s : Scope) (l : Bound) → BoundWell s l → AccessHolds s (as_map l)
holds s l w = record { uses = map_uses s l w; stand = map_stands s l w; fits = fitted s l w; pure = map_pure s l w }

long : (at : Access) → map_fits at ≡ true → length at.operands ≡ at.map.dims + at.map.syms
unfolding map_fits
long at h = eqb-true (length at.operands) (at.map.dims + at.map.syms) (and_parts (nat_eq (length at.operands) (at.map.dims + at.map.syms)) _ h).0

both_hold : (s : Scope) (l u : Access) (es : List Expr) → AccessHolds s l → AccessHolds s u → AllGood (l.map.dims + u.map.dims) (l.map.syms + u.map.syms) es → AccessHolds s (over_both l u es)
unfolding are_in operands_stand map_fits access_pure
both_hold s l u es h k good =
    let dl = l.map.dims in
    let du = u.map.dims in
    let front = take dl l.operands ++ take du u.operands in
    let back = drop dl l.operands ++ drop du u.operands in
    let p = and_parts (list_all (is_dimension s) (take dl l.operands)) (list_all (is_symbol s) (drop dl l.operands)) h.stand in
    let q = and_parts (list_all (is_dimension s) (take du u.operands)) (list_all (is_symbol s) (drop du u.operands)) k.stand in
    let front_long : length front ≡ dl + du = length-append (take dl l.operands) (take du u.operands) ∙ (λ i. length_taken l.operands dl l.map.syms (long l h.fits) i + length_taken u.operands du u.map.syms (long u k.fits) i) in
    let back_long : length back ≡ l.map.syms + u.map.syms = length-append (drop dl l.operands) (drop du u.operands) ∙ (λ i. length_dropped l.operands dl l.map.syms (long l h.fits) i + length_dropped u.operands du u.map.syms (long u k.fits) i) in
    let all_long : length (front ++ back) ≡ (dl + du) + (l.map.syms + u.map.syms) = length-append front back ∙ (λ i. front_long i + back_long i) in
    record {
      uses = all_both (is_in s) front back (all_both (is_in s) (take dl l.operands) (take du u.operands) (all_taken (is_in s) dl l.operands h.uses) (all_taken (is_in s) du u.operands k.uses))
          (all_both (is_in s) (drop dl l.operands) (drop du u.operands) (all_dropped (is_in s) dl l.operands h.uses) (all_dropped (is_in s) du u.operands k.uses));
      stand = λ i. (ap (list_all (is_dimension s)) (take_all front back (dl + du) front_long) ∙ all_both (is_dimension s) (take dl l.operands) (take du u.operands) p.0 q.0) i
          && (ap (list_all (is_symbol s)) (drop_all front back (dl + du) front_long) ∙ all_both (is_symbol s) (drop dl l.operands) (drop du u.operands) p.1 q.1) i;
      fits = λ i. eq-eqb (length (front ++ back)) ((dl + du) + (l.map.syms + u.map.syms)) all_long i && all_leaves (dl + du) (l.map.syms + u.map.syms) es good i;
      pure = all_pure (dl + du) (l.map.syms + u.map.syms) es good;
    }

one_holds : (s : Scope) (l : Access) (e : Expr) → AccessHolds s l → Good l.map.dims l.map.syms e → AccessHolds s (with_result l e)
unfolding map_fits access_pure
one_holds s l e h good = record {
  uses = h.uses;
  stand = h.stand;
  fits = λ i. eq-eqb (length l.operands) (l.map.dims + l.map.syms) (long l h.fits) i && (good.0 i && true);
  pure = λ i. good.1 i && true;
}

-- ---- the parts
sole_good : (s : Scope) (l : Access) → AccessHolds s l → Good l.map.dims l.map.syms (sole l.map.results)
unfolding map_fits access_pure
sole_good s l h = (
  sole_leaves l.map.dims l.map.syms l.map.results (and_parts (nat_eq (length l.operands) (l.map.dims + l.map.syms)) (list_all (has_leaves_below l.map.dims l.map.syms) l.map.results) h.fits).1,
  sole_pure l.map.results h.pure,
)

map_well : (s : Scope) (at : Access) → AccessHolds s at → has_result at ≡ true → BoundWell s (bound.Map at)
map_well s at h r = record { uses = h.uses; stand = h.stand; fits = λ i. h.fits i && r i; pure = h.pure }

number_well : (s : Scope) (z : ℤ) → BoundWell s (bound.Int z)
number_well s z = record { uses = refl; stand = refl; fits = refl; pure = refl }

maps_well : (lower upper : Bound) (step : ℤ) (buffers : ℕ) (s : Scope) → pos 0 <ℤ step → BoundWell s lower → BoundWell s upper → PartsWell s (of_maps lower upper (as_map lower) (as_map upper) step buffers)
maps_well lower upper step buffers s positive wl wu =
    let l = as_map lower in
    let u = as_map upper in
    let h = holds s lower wl in
    let k = holds s upper wu in
    let d = l.map.dims + u.map.dims in
    let n = l.map.syms + u.map.syms in
    let own = sole_good s l h in
    let first : Good d n (sole l.map.results) = (more_leaves l.map.dims l.map.syms u.map.dims u.map.syms (sole l.map.results) own.0, own.1) in
    let other = sole_good s u k in
    let second : Good d n (second_of l u) = (behind_leaves l.map.dims l.map.syms u.map.dims u.map.syms (sole u.map.results) other.0, behind_pure l.map.dims l.map.syms (sole u.map.results) other.1) in
    record {
      prologue_from = wl;
      prologue_to = map_well s (over_both l u (sum_of (sole l.map.results) (Const (prologue_length step buffers)) ∷ second_of l u ∷ []))
          (both_hold s l u (sum_of (sole l.map.results) (Const (prologue_length step buffers)) ∷ second_of l u ∷ []) h k
          (good_sum d n (sole l.map.results) (Const (prologue_length step buffers)) first (good_number d n (prologue_length step buffers)), (second, tt))) refl;
      main_from = wl;
      main_to = map_well s (with_result u (difference_of (sole u.map.results) (Const (reach step buffers))))
          (one_holds s u (difference_of (sole u.map.results) (Const (reach step buffers))) k (good_difference u.map.dims u.map.syms (sole u.map.results) (Const (reach step buffers)) other (good_number u.map.dims u.map.syms (reach step buffers)))) refl;
      epilogue_from = map_well s (over_both l u (sole l.map.results ∷ last_turns (sole l.map.results) (second_of l u) step buffers ∷ []))
          (both_hold s l u (sole l.map.results ∷ last_turns (sole l.map.results) (second_of l u) step buffers ∷ []) h k
          (first, (good_last_turns d n (sole l.map.results) (second_of l u) step buffers positive first second, tt))) refl;
      epilogue_to = wu;
    }

pub split_well : SplitStaysWell
unfolding split_of
split_well (bound.Int a) (bound.Int b) step buffers s positive wl wu = record {
  prologue_from = number_well s _;
  prologue_to = number_well s _;
  main_from = number_well s _;
  main_to = number_well s _;
  epilogue_from = number_well s _;
  epilogue_to = number_well s _;
}
split_well (bound.Int a) (bound.Value y) step buffers s positive wl wu = maps_well (bound.Int a) (bound.Value y) step buffers s positive wl wu
split_well (bound.Int a) (bound.Map y) step buffers s positive wl wu = maps_well (bound.Int a) (bound.Map y) step buffers s positive wl wu
split_well (bound.Value x) upper step buffers s positive wl wu = maps_well (bound.Value x) upper step buffers s positive wl wu
split_well (bound.Map x) upper step buffers s positive wl wu = maps_well (bound.Map x) upper step buffers s positive wl wu
