-- An access at its place in a ring meets the rules where the access does and the loop's variable may stand as a dimension.
use Rattle.std.proofs.Common.{◌≡◌, ℕ, zero, suc, ◌+◌, ◌<◌, ◌≤◌, ℤ, pos, neg_ℤ, ◌<ℤ◌, List, [], ◌∷◌, ◌++◌, length, refl, sym, ap, ◌∙◌, arith, Bool, true, false, take, drop}
use Rattle.std.specs.Prelude.{◌&&◌, ◌||◌, Option, Some, None, nat_eq, int_lt, if◌then◌else◌}
use Rattle.std.specs.Ordering.{int_eq}
use Rattle.std.specs.List.{list_all}
use Rattle.std.proofs.lemmas.Bool.{and_parts, lt-ltb, eqb-true, eq-eqb}
use Rattle.std.proofs.lemmas.Int.{ints}
use Rattle.affine_expr.specs.declared.expr.Expr.{Expr, Dim, Const, Add, Sub, FloorDiv, Mod, fold-Expr, fold-roll-Expr}
use Rattle.affine_expr.specs.declared.expr.Expr.TheVariants.{rolls-Const, rolls-Add, rolls-FloorDiv, rolls-Mod}
use Rattle.affine_expr.specs.declared.expr.Expr.TheOpen.{Expr-F}
use Rattle.affine_expr.specs.Pure.{Purity, purity_step, purity, is_positive, is_pure, has_leaves_below, leaves_step}
use Rattle.affine_ast.specs.declared.name.Name.{Name}
use Rattle.affine_ast.specs.declared.types.Access.{Access}
use Rattle.affine_ast.specs.declared.types.Bound.{Bound}
use Rattle.affine_ast.specs.declared.types.MemrefType.{MemrefType}
use Rattle.affine_ast.specs.Scope.{Scope}
use Rattle.affine_ast.specs.Rules.{is_in, are_in, is_dimension, is_symbol, operands_stand, map_fits, subscripts_fit, access_pure}
use Rattle.placement_texts.specs.Template.{plus, Named, less_places, in_fast}
use Rattle.placement_texts.proofs.ScopedRedirect.{leaves-Dim, leaves-Const, leaves-Sub, in_fast_fits, in_fast_uses, in_fast_dims, in_fast_syms, all_both}
use Rattle.placement_texts.proofs.ScopedAccess.{pure-Const, pure-Dim, pure-Sub}
use Rattle.ring_plans.specs.Rings.{ring_place, at_place}

-- ---- forms
pub leaves-Add : (d s : ℕ) (a b : Expr) → has_leaves_below d s (Add a b) ≡ (has_leaves_below d s a && has_leaves_below d s b)
unfolding has_leaves_below
leaves-Add d s a b = ap (fold-Expr Bool (leaves_step d s)) (sym (rolls-Add a b)) ∙ fold-roll-Expr Bool (leaves_step d s) (Expr-F.Add a b)

pub leaves-FloorDiv : (d s : ℕ) (a b : Expr) → has_leaves_below d s (FloorDiv a b) ≡ (has_leaves_below d s a && has_leaves_below d s b)
unfolding has_leaves_below
leaves-FloorDiv d s a b = ap (fold-Expr Bool (leaves_step d s)) (sym (rolls-FloorDiv a b)) ∙ fold-roll-Expr Bool (leaves_step d s) (Expr-F.FloorDiv a b)

leaves-Mod : (d s : ℕ) (a b : Expr) → has_leaves_below d s (Mod a b) ≡ (has_leaves_below d s a && has_leaves_below d s b)
unfolding has_leaves_below
leaves-Mod d s a b = ap (fold-Expr Bool (leaves_step d s)) (sym (rolls-Mod a b)) ∙ fold-roll-Expr Bool (leaves_step d s) (Expr-F.Mod a b)

pub pure-Add : (a b : Expr) → is_pure (Add a b) ≡ (is_pure a && is_pure b)
unfolding is_pure
pure-Add a b = ap (λ e. (fold-Expr Purity purity_step e).pure) (sym (rolls-Add a b)) ∙ ap (λ (p : Purity). p.pure) (fold-roll-Expr Purity purity_step (Expr-F.Add a b))

pub positive_number : (z : ℤ) → pos 0 <ℤ z → is_positive (purity (Const z)).fixed ≡ true
positive_number z h =
    ap (λ e. is_positive (fold-Expr Purity purity_step e).fixed) (sym (rolls-Const z)) ∙ ap (λ (p : Purity). is_positive p.fixed) (fold-roll-Expr Purity purity_step (Expr-F.Const z)) ∙ grind (arith, ints, h)

pub pure_floor : (a : Expr) (z : ℤ) → pos 0 <ℤ z → is_pure a ≡ true → is_pure (FloorDiv a (Const z)) ≡ true
unfolding is_pure
pure_floor a z l h =
    ap (λ e. (fold-Expr Purity purity_step e).pure) (sym (rolls-FloorDiv a (Const z))) ∙ ap (λ (p : Purity). p.pure) (fold-roll-Expr Purity purity_step (Expr-F.FloorDiv a (Const z)))
    ∙ (λ i. (h i && pure-Const z i) && positive_number z l i)

pure_rest : (a : Expr) (z : ℤ) → pos 0 <ℤ z → is_pure a ≡ true → is_pure (Mod a (Const z)) ≡ true
unfolding is_pure
pure_rest a z l h =
    ap (λ e. (fold-Expr Purity purity_step e).pure) (sym (rolls-Mod a (Const z))) ∙ ap (λ (p : Purity). p.pure) (fold-roll-Expr Purity purity_step (Expr-F.Mod a (Const z)))
    ∙ (λ i. (h i && pure-Const z i) && positive_number z l i)

-- `i + z`
plus_leaves : (d s k : ℕ) (z : ℤ) → k < d → has_leaves_below d s (plus (Dim k) z) ≡ true
plus_leaves d s k z l = by (int_eq z (pos 0)) (int_lt z (pos 0))
  where
    there : has_leaves_below d s (Dim k) ≡ true
    there = leaves-Dim d s k ∙ lt-ltb k d l

    by : (a b : Bool) → has_leaves_below d s (if a then Dim k else (if b then Sub (Dim k) (Const (neg_ℤ z)) else Add (Dim k) (Const z))) ≡ true
    by true b = there
    by false true = leaves-Sub d s (Dim k) (Const (neg_ℤ z)) ∙ (λ i. there i && leaves-Const d s (neg_ℤ z) i)
    by false false = leaves-Add d s (Dim k) (Const z) ∙ (λ i. there i && leaves-Const d s z i)

plus_pure : (k : ℕ) (z : ℤ) → is_pure (plus (Dim k) z) ≡ true
plus_pure k z = by (int_eq z (pos 0)) (int_lt z (pos 0))
  where
    by : (a b : Bool) → is_pure (if a then Dim k else (if b then Sub (Dim k) (Const (neg_ℤ z)) else Add (Dim k) (Const z))) ≡ true
    by true b = pure-Dim k
    by false true = pure-Sub (Dim k) (Const (neg_ℤ z)) ∙ (λ i. pure-Dim k i && pure-Const (neg_ℤ z) i)
    by false false = pure-Add (Dim k) (Const z) ∙ (λ i. pure-Dim k i && pure-Const z i)

less_none : (k : ℕ) (es : List Expr) → less_places k es [] ≡ es
less_none k [] = refl
less_none k (e ∷ es) = refl

behind_first : (f : Expr → Bool) (es : List Expr) → list_all f es ≡ true → list_all f (drop 1 es) ≡ true
behind_first f [] h = refl
behind_first f (e ∷ es) h = (and_parts (f e) (list_all f es) h).1

one_more : (d : ℕ) → d + 1 ≡ suc d
one_more d = omega arith

above : (n : ℕ) → 1 ≤ n → pos 0 <ℤ pos n
above n h = grind (arith, ints, h)

module _ (buffers : ℕ) (v : Name) (lower upper : Bound) (s : ℤ) (some : 1 ≤ buffers) (positive : pos 0 <ℤ s) where
  abbrev at_ring : ℤ → Access → Access
  at_ring z at = at_place buffers v lower upper s z at

  ring_leaves : (d n : ℕ) (z : ℤ) → has_leaves_below (suc d) n (ring_place buffers v lower upper s d z) ≡ true
  ring_leaves d n z =
      leaves-Mod (suc d) n (FloorDiv (plus (Dim d) z) (Const s)) (Const (pos buffers))
      ∙ (λ i. (leaves-FloorDiv (suc d) n (plus (Dim d) z) (Const s) ∙ (λ j. plus_leaves (suc d) n d z (omega arith) j && leaves-Const (suc d) n s j)) i && leaves-Const (suc d) n (pos buffers) i)

  ring_pure : (d : ℕ) (z : ℤ) → is_pure (ring_place buffers v lower upper s d z) ≡ true
  ring_pure d z = pure_rest (FloorDiv (plus (Dim d) z) (Const s)) (pos buffers) (above buffers some) (pure_floor (plus (Dim d) z) s positive (plus_pure d z))

  pub place_pure : (z : ℤ) (at : Access) → access_pure at ≡ true → access_pure (at_ring z at) ≡ true
  unfolding access_pure
  place_pure z at h = λ i. ring_pure at.map.dims z i && behind_first is_pure at.map.results h i

  -- the access with a number for its first subscript
  abbrev plain : Access → Access
  plain at = record { map = record { dims = at.map.dims; syms = at.map.syms; results = Const (pos 0) ∷ drop 1 at.map.results }; operands = at.operands }

  pub place_fits : (z : ℤ) (at : Access) → map_fits at ≡ true → map_fits (at_ring z at) ≡ true
  unfolding map_fits
  place_fits z at h =
      let d = at.map.dims in
      let n = at.map.syms in
      let p = and_parts _ _ h in
      let tail = behind_first (has_leaves_below d n) at.map.results p.1 in
      let there : map_fits (plain at) ≡ true = λ i. p.0 i && (leaves-Const d n (pos 0) i && tail i) in
      let q = and_parts _ _ (in_fast_fits (Named v ∷ []) (plain at) there) in
      let long : length (at_ring z at).operands ≡ (d + 1) + n = eqb-true (length (at_ring z at).operands) ((d + 1) + n) q.0 in
      let behind = (and_parts _ _ (and_parts _ _ q.1).1).1 in
      λ i. eq-eqb (length (at_ring z at).operands) (suc d + n) (omega (arith, long)) i
      && (ring_leaves d n z i && (ap (λ k. list_all (has_leaves_below k n) (drop 1 at.map.results)) (sym (one_more d)) ∙ ap (list_all (has_leaves_below (d + 1) n)) (sym (less_none (suc d) (drop 1 at.map.results))) ∙ behind) i)

  pub place_uses : (t : Scope) (z : ℤ) (at : Access) → is_in t v ≡ true → are_in t at.operands ≡ true → are_in t (at_ring z at).operands ≡ true
  unfolding are_in
  place_uses t z at hv h = in_fast_uses (is_in t) (Named v ∷ []) at h (λ i. hv i && true)

  enough : (at : Access) → map_fits at ≡ true → at.map.dims ≤ length at.operands
  unfolding map_fits
  enough at h =
      let q = and_parts _ _ h in
      let count : length at.operands ≡ at.map.dims + at.map.syms = eqb-true (length at.operands) (at.map.dims + at.map.syms) q.0 in
      omega (arith, count)

  pub place_stands : (t : Scope) (z : ℤ) (at : Access) → map_fits at ≡ true → is_dimension t v ≡ true → operands_stand t at.map.dims at.operands ≡ true → operands_stand t (at_ring z at).map.dims (at_ring z at).operands ≡ true
  unfolding operands_stand
  place_stands t z at f hv h =
      let d = at.map.dims in
      let l = enough at f in
      let q = and_parts _ _ h in
      λ i. (ap (λ k. list_all (is_dimension t) (take k (at_ring z at).operands)) (sym (one_more d)) ∙ ap (list_all (is_dimension t)) (in_fast_dims (Named v ∷ []) at l) ∙ all_both (is_dimension t) (take d at.operands) (v ∷ []) q.0 (λ j. hv j && true)) i
      && (ap (λ k. list_all (is_symbol t) (drop k (at_ring z at).operands)) (sym (one_more d)) ∙ ap (list_all (is_symbol t)) (in_fast_syms (Named v ∷ []) at l) ∙ q.1) i

  length_behind : (es : List Expr) (n : ℕ) → length es ≡ suc n → length (drop 1 es) ≡ n
  length_behind [] n h = absurd (omega (arith, h))
  length_behind (e ∷ es) n h = omega (arith, h)

  -- subscripts of a memref that has one size in front stay so many
  pub place_subscripts : (z : ℤ) (at : Access) (one two : MemrefType) (a b : ℕ) (sizes : List ℕ) → one.sizes ≡ a ∷ sizes → two.sizes ≡ b ∷ sizes → subscripts_fit at one ≡ true → subscripts_fit (at_ring z at) two ≡ true
  unfolding subscripts_fit
  place_subscripts z at one two a b sizes is1 is2 h =
      let p = and_parts (map_fits at) (nat_eq (length at.map.results) (length one.sizes)) h in
      let long : length at.map.results ≡ suc (length sizes) = eqb-true (length at.map.results) (length one.sizes) p.1 ∙ ap length is1 in
      let behind = length_behind at.map.results (length sizes) long in
      λ i. place_fits z at p.0 i && (ap (λ ns. nat_eq (suc (length (drop 1 at.map.results))) (length ns)) is2 ∙ eq-eqb (suc (length (drop 1 at.map.results))) (suc (length sizes)) (omega (arith, behind))) i
