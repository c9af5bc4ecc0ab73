-- Subscripts whose dimensions are numbered by first appearance mean the same.
use Rattle.std.proofs.Common.{◌≡◌, ℕ, zero, suc, ◌+◌, ◌<◌, ℤ, pos, List, [], ◌∷◌, ◌++◌, length, refl, sym, ap, ◌∙◌, subst, arith, Bool, true, false, map, take, drop}
use Rattle.std.specs.Prelude.{◌&&◌, Option, None, is_some, nat_eq, flat_map, slice_index_or, if◌then◌else◌}
use Rattle.std.specs.List.{list_all}
use Rattle.std.proofs.lemmas.Bool.{and_parts, ltb-true, lt-ltb, eqb-true, eq-eqb}
use Rattle.std.proofs.lemmas.List.{length-append}
use Rattle.affine_expr.specs.declared.expr.Expr.{Expr, fold-Expr, fold-roll-Expr, ind-Expr, map-Expr, roll-Expr}
use Rattle.affine_expr.specs.declared.expr.Expr.TheOpen.{Expr-F}
use Rattle.affine_expr.specs.Value.{value, value_step}
use Rattle.affine_expr.specs.Pure.{has_leaves_below, leaves_step}
use Rattle.affine_ast.specs.declared.name.Name.{Name}
use Rattle.affine_ast.specs.declared.types.Access.{Access}
use Rattle.affine_ast.specs.Rules.{map_fits}
use Rattle.direct_meaning.specs.Static.{Env, number, numbers, results_of}
use Rattle.boxes.specs.Every.{Every}
use Rattle.affine_expr.specs.Pure.{Purity, purity_step, is_pure}
use Rattle.affine_expr.specs.Spread.{Range, Spread, only}
use Rattle.affine_expr.specs.Bounded.{limited, bounded_step, bounded}
use Rattle.affine_ast.specs.Rules.{is_in, are_in, is_dimension, is_symbol, operands_stand, access_pure, is_small_dimension, has_interval, access_bounded}
use Rattle.affine_ast.specs.Scope.{Scope, ranges_in}
use Rattle.placement_texts.specs.Normal.{StaysValid, NormalStaysValid, dims_step, dims_of, dim_to, renumbered, has, firsts, index_of, no_name, ordered, first_order, normal, NormalMeansTheSame, NormalFits}
use Rattle.placement_texts.proofs.Subscripts.{take_all, drop_all}
use Rattle.placement_texts.proofs.ScopedRedirect.{all_both}

every_parts : {A : Type 0} (P : A → Type 0) (xs ys : List A) → Every P (xs ++ ys) → Every P xs × Every P ys
every_parts P [] ys h = (tt, h)
every_parts P (x ∷ xs) ys h = let k = every_parts P xs ys h.1 in ((h.0, k.0), k.1)

every_join : {A : Type 0} (P : A → Type 0) (xs ys : List A) → Every P xs → Every P ys → Every P (xs ++ ys)
every_join P [] ys h k = k
every_join P (x ∷ xs) ys h k = (h.0, every_join P xs ys h.1 k)

every_both : {A : Type 0} (P Q R : A → Type 0) → ((x : A) → P x → Q x → R x) → (xs : List A) → Every P xs → Every Q xs → Every R xs
every_both P Q R f [] h k = tt
every_both P Q R f (x ∷ xs) h k = (f x h.0 k.0, every_both P Q R f xs h.1 k.1)

-- ---- one fold over an expression and another over the renumbered one agree, where they do at each dimension
abbrev IsntDim : {A : Type 0} → Expr-F A → Type 0
IsntDim (Expr-F.Dim n) = ⊥
IsntDim x = Unit {0}

module _ (A : Type 0) (f : ℕ → ℕ) (g h : Expr-F A → A) (same : (x : Expr-F A) → IsntDim x → g x ≡ h x) where
  abbrev Agrees : Expr → Type 0
  Agrees e = Every (λ n. g (Expr-F.Dim (f n)) ≡ h (Expr-F.Dim n)) (dims_of e) → fold-Expr A g (renumbered f e) ≡ fold-Expr A h e

  abbrev R : Expr-F Expr → Expr
  R x = roll-Expr (dim_to f x)

  agrees_layer : (y : Expr-F ((e : Expr) × Agrees e)) → Agrees (roll-Expr (map-Expr ((e : Expr) × Agrees e) Expr (λ e. e.0) y))
  unfolding renumbered dims_of
  agrees_layer (Expr-F.Dim n) k =
      let d = subst (Every (λ n. g (Expr-F.Dim (f n)) ≡ h (Expr-F.Dim n))) (fold-roll-Expr (List ℕ) dims_step (Expr-F.Dim n)) k in
      ap (fold-Expr A g) (fold-roll-Expr Expr R (Expr-F.Dim n)) ∙ fold-roll-Expr A g (Expr-F.Dim (f n)) ∙ d.0 ∙ sym (fold-roll-Expr A h (Expr-F.Dim n))
  agrees_layer (Expr-F.Sym n) k = ap (fold-Expr A g) (fold-roll-Expr Expr R (Expr-F.Sym n)) ∙ fold-roll-Expr A g (Expr-F.Sym n) ∙ same (Expr-F.Sym n) tt ∙ sym (fold-roll-Expr A h (Expr-F.Sym n))
  agrees_layer (Expr-F.Const z) k = ap (fold-Expr A g) (fold-roll-Expr Expr R (Expr-F.Const z)) ∙ fold-roll-Expr A g (Expr-F.Const z) ∙ same (Expr-F.Const z) tt ∙ sym (fold-roll-Expr A h (Expr-F.Const z))
  agrees_layer (Expr-F.Neg a) k =
      let d = subst (Every (λ n. g (Expr-F.Dim (f n)) ≡ h (Expr-F.Dim n))) (fold-roll-Expr (List ℕ) dims_step (Expr-F.Neg a.0)) k in
      ap (fold-Expr A g) (fold-roll-Expr Expr R (Expr-F.Neg a.0)) ∙ fold-roll-Expr A g (Expr-F.Neg (renumbered f a.0)) ∙ ap (λ x. g (Expr-F.Neg x)) (a.1 d) ∙ same (Expr-F.Neg (fold-Expr A h a.0)) tt ∙ sym (fold-roll-Expr A h (Expr-F.Neg a.0))
  agrees_layer (Expr-F.Add a b) k =
      let d = every_parts _ (dims_of a.0) (dims_of b.0) (subst (Every (λ n. g (Expr-F.Dim (f n)) ≡ h (Expr-F.Dim n))) (fold-roll-Expr (List ℕ) dims_step (Expr-F.Add a.0 b.0)) k) in
      ap (fold-Expr A g) (fold-roll-Expr Expr R (Expr-F.Add a.0 b.0)) ∙ fold-roll-Expr A g (Expr-F.Add (renumbered f a.0) (renumbered f b.0))
      ∙ (λ i. g (Expr-F.Add (a.1 d.0 i) (b.1 d.1 i))) ∙ same (Expr-F.Add (fold-Expr A h a.0) (fold-Expr A h b.0)) tt ∙ sym (fold-roll-Expr A h (Expr-F.Add a.0 b.0))
  agrees_layer (Expr-F.Sub a b) k =
      let d = every_parts _ (dims_of a.0) (dims_of b.0) (subst (Every (λ n. g (Expr-F.Dim (f n)) ≡ h (Expr-F.Dim n))) (fold-roll-Expr (List ℕ) dims_step (Expr-F.Sub a.0 b.0)) k) in
      ap (fold-Expr A g) (fold-roll-Expr Expr R (Expr-F.Sub a.0 b.0)) ∙ fold-roll-Expr A g (Expr-F.Sub (renumbered f a.0) (renumbered f b.0))
      ∙ (λ i. g (Expr-F.Sub (a.1 d.0 i) (b.1 d.1 i))) ∙ same (Expr-F.Sub (fold-Expr A h a.0) (fold-Expr A h b.0)) tt ∙ sym (fold-roll-Expr A h (Expr-F.Sub a.0 b.0))
  agrees_layer (Expr-F.Mul a b) k =
      let d = every_parts _ (dims_of a.0) (dims_of b.0) (subst (Every (λ n. g (Expr-F.Dim (f n)) ≡ h (Expr-F.Dim n))) (fold-roll-Expr (List ℕ) dims_step (Expr-F.Mul a.0 b.0)) k) in
      ap (fold-Expr A g) (fold-roll-Expr Expr R (Expr-F.Mul a.0 b.0)) ∙ fold-roll-Expr A g (Expr-F.Mul (renumbered f a.0) (renumbered f b.0))
      ∙ (λ i. g (Expr-F.Mul (a.1 d.0 i) (b.1 d.1 i))) ∙ same (Expr-F.Mul (fold-Expr A h a.0) (fold-Expr A h b.0)) tt ∙ sym (fold-roll-Expr A h (Expr-F.Mul a.0 b.0))
  agrees_layer (Expr-F.FloorDiv a b) k =
      let d = every_parts _ (dims_of a.0) (dims_of b.0) (subst (Every (λ n. g (Expr-F.Dim (f n)) ≡ h (Expr-F.Dim n))) (fold-roll-Expr (List ℕ) dims_step (Expr-F.FloorDiv a.0 b.0)) k) in
      ap (fold-Expr A g) (fold-roll-Expr Expr R (Expr-F.FloorDiv a.0 b.0)) ∙ fold-roll-Expr A g (Expr-F.FloorDiv (renumbered f a.0) (renumbered f b.0))
      ∙ (λ i. g (Expr-F.FloorDiv (a.1 d.0 i) (b.1 d.1 i))) ∙ same (Expr-F.FloorDiv (fold-Expr A h a.0) (fold-Expr A h b.0)) tt ∙ sym (fold-roll-Expr A h (Expr-F.FloorDiv a.0 b.0))
  agrees_layer (Expr-F.CeilDiv a b) k =
      let d = every_parts _ (dims_of a.0) (dims_of b.0) (subst (Every (λ n. g (Expr-F.Dim (f n)) ≡ h (Expr-F.Dim n))) (fold-roll-Expr (List ℕ) dims_step (Expr-F.CeilDiv a.0 b.0)) k) in
      ap (fold-Expr A g) (fold-roll-Expr Expr R (Expr-F.CeilDiv a.0 b.0)) ∙ fold-roll-Expr A g (Expr-F.CeilDiv (renumbered f a.0) (renumbered f b.0))
      ∙ (λ i. g (Expr-F.CeilDiv (a.1 d.0 i) (b.1 d.1 i))) ∙ same (Expr-F.CeilDiv (fold-Expr A h a.0) (fold-Expr A h b.0)) tt ∙ sym (fold-roll-Expr A h (Expr-F.CeilDiv a.0 b.0))
  agrees_layer (Expr-F.Mod a b) k =
      let d = every_parts _ (dims_of a.0) (dims_of b.0) (subst (Every (λ n. g (Expr-F.Dim (f n)) ≡ h (Expr-F.Dim n))) (fold-roll-Expr (List ℕ) dims_step (Expr-F.Mod a.0 b.0)) k) in
      ap (fold-Expr A g) (fold-roll-Expr Expr R (Expr-F.Mod a.0 b.0)) ∙ fold-roll-Expr A g (Expr-F.Mod (renumbered f a.0) (renumbered f b.0))
      ∙ (λ i. g (Expr-F.Mod (a.1 d.0 i) (b.1 d.1 i))) ∙ same (Expr-F.Mod (fold-Expr A h a.0) (fold-Expr A h b.0)) tt ∙ sym (fold-roll-Expr A h (Expr-F.Mod a.0 b.0))

  pub fold_agrees : (e : Expr) → Agrees e
  fold_agrees = ind-Expr Agrees (λ x y is. subst (λ z. Agrees (roll-Expr z)) is (agrees_layer y))

-- the dimensions of an expression are below those that its leaves are
module _ (d s : ℕ) where
  abbrev Below : Expr → Type 0
  Below e = has_leaves_below d s e ≡ true → Every (λ n. n < d) (dims_of e)

  below_layer : (y : Expr-F ((e : Expr) × Below e)) → Below (roll-Expr (map-Expr ((e : Expr) × Below e) Expr (λ e. e.0) y))
  unfolding has_leaves_below dims_of
  below_layer (Expr-F.Dim n) h = subst (Every (λ n. n < d)) (sym (fold-roll-Expr (List ℕ) dims_step (Expr-F.Dim n))) (ltb-true n d (sym (fold-roll-Expr Bool (leaves_step d s) (Expr-F.Dim n)) ∙ h), tt)
  below_layer (Expr-F.Sym n) h = subst (Every (λ n. n < d)) (sym (fold-roll-Expr (List ℕ) dims_step (Expr-F.Sym n))) tt
  below_layer (Expr-F.Const z) h = subst (Every (λ n. n < d)) (sym (fold-roll-Expr (List ℕ) dims_step (Expr-F.Const z))) tt
  below_layer (Expr-F.Neg a) h = subst (Every (λ n. n < d)) (sym (fold-roll-Expr (List ℕ) dims_step (Expr-F.Neg a.0))) (a.1 (sym (fold-roll-Expr Bool (leaves_step d s) (Expr-F.Neg a.0)) ∙ h))
  below_layer (Expr-F.Add a b) h =
      let p = and_parts _ _ (sym (fold-roll-Expr Bool (leaves_step d s) (Expr-F.Add a.0 b.0)) ∙ h) in
      subst (Every (λ n. n < d)) (sym (fold-roll-Expr (List ℕ) dims_step (Expr-F.Add a.0 b.0))) (every_join _ (dims_of a.0) (dims_of b.0) (a.1 p.0) (b.1 p.1))
  below_layer (Expr-F.Sub a b) h =
      let p = and_parts _ _ (sym (fold-roll-Expr Bool (leaves_step d s) (Expr-F.Sub a.0 b.0)) ∙ h) in
      subst (Every (λ n. n < d)) (sym (fold-roll-Expr (List ℕ) dims_step (Expr-F.Sub a.0 b.0))) (every_join _ (dims_of a.0) (dims_of b.0) (a.1 p.0) (b.1 p.1))
  below_layer (Expr-F.Mul a b) h =
      let p = and_parts _ _ (sym (fold-roll-Expr Bool (leaves_step d s) (Expr-F.Mul a.0 b.0)) ∙ h) in
      subst (Every (λ n. n < d)) (sym (fold-roll-Expr (List ℕ) dims_step (Expr-F.Mul a.0 b.0))) (every_join _ (dims_of a.0) (dims_of b.0) (a.1 p.0) (b.1 p.1))
  below_layer (Expr-F.FloorDiv a b) h =
      let p = and_parts _ _ (sym (fold-roll-Expr Bool (leaves_step d s) (Expr-F.FloorDiv a.0 b.0)) ∙ h) in
      subst (Every (λ n. n < d)) (sym (fold-roll-Expr (List ℕ) dims_step (Expr-F.FloorDiv a.0 b.0))) (every_join _ (dims_of a.0) (dims_of b.0) (a.1 p.0) (b.1 p.1))
  below_layer (Expr-F.CeilDiv a b) h =
      let p = and_parts _ _ (sym (fold-roll-Expr Bool (leaves_step d s) (Expr-F.CeilDiv a.0 b.0)) ∙ h) in
      subst (Every (λ n. n < d)) (sym (fold-roll-Expr (List ℕ) dims_step (Expr-F.CeilDiv a.0 b.0))) (every_join _ (dims_of a.0) (dims_of b.0) (a.1 p.0) (b.1 p.1))
  below_layer (Expr-F.Mod a b) h =
      let p = and_parts _ _ (sym (fold-roll-Expr Bool (leaves_step d s) (Expr-F.Mod a.0 b.0)) ∙ h) in
      subst (Every (λ n. n < d)) (sym (fold-roll-Expr (List ℕ) dims_step (Expr-F.Mod a.0 b.0))) (every_join _ (dims_of a.0) (dims_of b.0) (a.1 p.0) (b.1 p.1))

  pub dims_below : (e : Expr) → Below e
  dims_below = ind-Expr Below (λ x y is. subst (λ z. Below (roll-Expr z)) is (below_layer y))

value_same : (ds ds' ss : List ℤ) (x : Expr-F ℤ) → IsntDim x → value_step ds' ss x ≡ value_step ds ss x
value_same ds ds' ss (Expr-F.Dim n) h = absurd h
value_same ds ds' ss (Expr-F.Sym n) h = refl
value_same ds ds' ss (Expr-F.Const z) h = refl
value_same ds ds' ss (Expr-F.Neg a) h = refl
value_same ds ds' ss (Expr-F.Add a b) h = refl
value_same ds ds' ss (Expr-F.Sub a b) h = refl
value_same ds ds' ss (Expr-F.Mul a b) h = refl
value_same ds ds' ss (Expr-F.FloorDiv a b) h = refl
value_same ds ds' ss (Expr-F.CeilDiv a b) h = refl
value_same ds ds' ss (Expr-F.Mod a b) h = refl

leaves_same : (d d' s : ℕ) (x : Expr-F Bool) → IsntDim x → leaves_step d' s x ≡ leaves_step d s x
leaves_same d d' s (Expr-F.Dim n) h = absurd h
leaves_same d d' s (Expr-F.Sym n) h = refl
leaves_same d d' s (Expr-F.Const z) h = refl
leaves_same d d' s (Expr-F.Neg a) h = refl
leaves_same d d' s (Expr-F.Add a b) h = refl
leaves_same d d' s (Expr-F.Sub a b) h = refl
leaves_same d d' s (Expr-F.Mul a b) h = refl
leaves_same d d' s (Expr-F.FloorDiv a b) h = refl
leaves_same d d' s (Expr-F.CeilDiv a b) h = refl
leaves_same d d' s (Expr-F.Mod a b) h = refl

-- ---- the order
has_end : (n : ℕ) (xs : List ℕ) → has n (xs ++ n ∷ []) ≡ true
has_end n [] = ap (λ t. if t then true else false) (eq-eqb n n refl)
has_end n (x ∷ xs) = by (nat_eq n x) (has_end n xs)
  where
    by : (t : Bool) → has n (xs ++ n ∷ []) ≡ true → (if t then true else has n (xs ++ n ∷ [])) ≡ true
    by true r = refl
    by false r = r

has_left : (n : ℕ) (xs ys : List ℕ) → has n xs ≡ true → has n (xs ++ ys) ≡ true
has_left n [] ys h = absurd (let z : ⊥ = cc in z)
has_left n (x ∷ xs) ys h = by (nat_eq n x) h (λ k. has_left n xs ys k)
  where
    by : (t : Bool) → (if t then true else has n xs) ≡ true → (has n xs ≡ true → has n (xs ++ ys) ≡ true) → (if t then true else has n (xs ++ ys)) ≡ true
    by true h r = refl
    by false h r = r h

more_seen : (n m : ℕ) (seen : List ℕ) (t : Bool) → has n seen ≡ true → has n (if t then seen else seen ++ m ∷ []) ≡ true
more_seen n m seen true h = h
more_seen n m seen false h = has_left n seen (m ∷ []) h

now_seen : (n : ℕ) (seen : List ℕ) (t : Bool) → has n seen ≡ t → has n (if t then seen else seen ++ n ∷ []) ≡ true
now_seen n seen true h = h
now_seen n seen false h = has_end n seen

firsts_keep : (n : ℕ) (ns seen : List ℕ) → has n seen ≡ true → has n (firsts seen ns) ≡ true
firsts_keep n [] seen h = h
firsts_keep n (m ∷ ns) seen h = firsts_keep n ns (if has m seen then seen else seen ++ m ∷ []) (more_seen n m seen (has m seen) h)

firsts_have : (ns seen : List ℕ) → Every (λ n. has n (firsts seen ns) ≡ true) ns
firsts_have [] seen = tt
firsts_have (m ∷ ns) seen = (firsts_keep m ns (if has m seen then seen else seen ++ m ∷ []) (now_seen m seen (has m seen) refl), firsts_have ns (if has m seen then seen else seen ++ m ∷ []))

index_less : (n : ℕ) (order : List ℕ) → has n order ≡ true → index_of n order < length order
index_less n [] h = absurd (let z : ⊥ = cc in z)
index_less n (m ∷ ms) h = by (nat_eq n m) h (λ k. index_less n ms k)
  where
    by : (t : Bool) → (if t then true else has n ms) ≡ true → (has n ms ≡ true → index_of n ms < length ms) → (if t then 0 else suc (index_of n ms)) < suc (length ms)
    by true h r = omega arith
    by false h r = let l = r h in omega (arith, l)

index_finds : {A : Type 0} (F : ℕ → A) (d : A) (n : ℕ) (order : List ℕ) → has n order ≡ true → slice_index_or (map F order) (index_of n order) d ≡ F n
index_finds F d n [] h = absurd (let z : ⊥ = cc in z)
index_finds F d n (m ∷ ms) h = by (nat_eq n m) refl h (λ k. index_finds F d n ms k)
  where
    by : (t : Bool) → nat_eq n m ≡ t → (if t then true else has n ms) ≡ true → (has n ms ≡ true → slice_index_or (map F ms) (index_of n ms) d ≡ F n) → slice_index_or (F m ∷ map F ms) (if t then 0 else suc (index_of n ms)) d ≡ F n
    by true e h r = ap F (sym (eqb-true n m e))
    by false e h r = r h

taken : {A B : Type 0} (g : A → B) (d : A) (d' : B) (k n : ℕ) (xs : List A) → n < k → n < length xs → slice_index_or (take k (map g xs)) n d' ≡ g (slice_index_or xs n d)
taken g d d' zero n xs h l = absurd (omega (arith, h))
taken g d d' (suc k) n [] h l = absurd (omega (arith, l))
taken g d d' (suc k) zero (x ∷ xs) h l = refl
taken g d d' (suc k) (suc n) (x ∷ xs) h l = taken g d d' k n xs (omega (arith, h)) (omega (arith, l))

map_joined : {A B : Type 0} (g : A → B) (xs ys : List A) → map g (xs ++ ys) ≡ map g xs ++ map g ys
map_joined g [] ys = refl
map_joined g (x ∷ xs) ys = ap (λ l. g x ∷ l) (map_joined g xs ys)

map_twice : {A B C : Type 0} (g : B → C) (f : A → B) (xs : List A) → map g (map f xs) ≡ map (λ x. g (f x)) xs
map_twice g f [] = refl
map_twice g f (x ∷ xs) = ap (λ l. g (f x) ∷ l) (map_twice g f xs)

length_mapped : {A B : Type 0} (g : A → B) (xs : List A) → length (map g xs) ≡ length xs
length_mapped g [] = refl
length_mapped g (x ∷ xs) = ap suc (length_mapped g xs)

drop_mapped : {A B : Type 0} (g : A → B) (n : ℕ) (xs : List A) → drop n (map g xs) ≡ map g (drop n xs)
drop_mapped g zero xs = refl
drop_mapped g (suc n) [] = refl
drop_mapped g (suc n) (x ∷ xs) = drop_mapped g n xs

length_dropped : {A : Type 0} (n s : ℕ) (xs : List A) → length xs ≡ n + s → length (drop n xs) ≡ s
length_dropped zero s xs h = omega (arith, h)
length_dropped (suc n) s [] h = absurd (omega (arith, h))
length_dropped (suc n) s (x ∷ xs) h = length_dropped n s xs (omega (arith, h))

-- ---- an access in another order
module _ (at : Access) (order : List ℕ) (fits : map_fits at ≡ true) where
  abbrev ix : ℕ → ℕ
  ix n = index_of n order

  abbrev op : ℕ → Name
  op n = slice_index_or at.operands n no_name

  -- what is asked of each dimension
  abbrev Stands : ℕ → Type 0
  Stands n = (has n order ≡ true) × (n < at.map.dims)

  count : length at.operands ≡ at.map.dims + at.map.syms
  unfolding map_fits
  count = eqb-true (length at.operands) (at.map.dims + at.map.syms) (and_parts _ _ fits).0

  -- any numbers of the operands
  module _ {B : Type 0} (g : Name → B) where
    new_dims : take (length order) (map g (ordered order at).operands) ≡ map (λ n. g (op n)) order
    new_dims =
        ap (take (length order)) (map_joined g (map op order) (drop at.map.dims at.operands) ∙ ap (λ l. l ++ map g (drop at.map.dims at.operands)) (map_twice g op order))
        ∙ take_all (map (λ n. g (op n)) order) (map g (drop at.map.dims at.operands)) (length order) (length_mapped (λ n. g (op n)) order)

    new_syms : drop (length order) (map g (ordered order at).operands) ≡ drop at.map.dims (map g at.operands)
    new_syms =
        ap (drop (length order)) (map_joined g (map op order) (drop at.map.dims at.operands) ∙ ap (λ l. l ++ map g (drop at.map.dims at.operands)) (map_twice g op order))
        ∙ drop_all (map (λ n. g (op n)) order) (map g (drop at.map.dims at.operands)) (length order) (length_mapped (λ n. g (op n)) order)
        ∙ sym (drop_mapped g at.map.dims at.operands)

    found_dim : (d : B) (n : ℕ) → Stands n → slice_index_or (map (λ n. g (op n)) order) (ix n) d ≡ slice_index_or (take at.map.dims (map g at.operands)) n d
    found_dim d n h =
        let c = count in
        let l = h.1 in
        index_finds (λ n. g (op n)) d n order h.0 ∙ sym (taken g no_name d at.map.dims n at.operands l (omega (arith, l, c)))

  value_ordered : (e : Env) (x : Expr) → Every Stands (dims_of x)
      → value (take (length order) (numbers e (ordered order at).operands)) (drop (length order) (numbers e (ordered order at).operands)) (renumbered ix x) ≡ value (take at.map.dims (numbers e at.operands)) (drop at.map.dims (numbers e at.operands)) x
  unfolding value
  value_ordered e x h =
      let g : Name → ℤ = λ n. number (e.known n) in
      let ds' = map (λ n. g (op n)) order in
      let ds = take at.map.dims (numbers e at.operands) in
      let ss = drop at.map.dims (numbers e at.operands) in
      (λ i. fold-Expr ℤ (value_step (new_dims g i) (new_syms g i)) (renumbered ix x))
      ∙ fold_agrees ℤ ix (value_step ds' ss) (value_step ds ss) (value_same ds ds' ss) x (every_both Stands Stands _ (λ n h k. found_dim g (pos 0) n h) (dims_of x) h h)

  leaves_ordered : (x : Expr) → Every Stands (dims_of x) → has_leaves_below at.map.dims at.map.syms x ≡ true → has_leaves_below (length order) at.map.syms (renumbered ix x) ≡ true
  unfolding has_leaves_below
  leaves_ordered x h k =
      fold_agrees Bool ix (leaves_step (length order) at.map.syms) (leaves_step at.map.dims at.map.syms) (leaves_same at.map.dims (length order) at.map.syms) x
      (every_both Stands Stands _ (λ n h k. lt-ltb (ix n) (length order) (index_less n order h.0) ∙ sym (lt-ltb n at.map.dims h.1)) (dims_of x) h h) ∙ k

  values_ordered : (e : Env) (xs : List Expr) → Every (λ x. Every Stands (dims_of x)) xs
      → map (value (take (length order) (numbers e (ordered order at).operands)) (drop (length order) (numbers e (ordered order at).operands))) (map (renumbered ix) xs)
      ≡ map (value (take at.map.dims (numbers e at.operands)) (drop at.map.dims (numbers e at.operands))) xs
  values_ordered e [] h = refl
  values_ordered e (x ∷ xs) h = λ i. value_ordered e x h.0 i ∷ values_ordered e xs h.1 i

  all_leaves_ordered : (xs : List Expr) → Every (λ x. Every Stands (dims_of x)) xs → list_all (has_leaves_below at.map.dims at.map.syms) xs ≡ true → list_all (has_leaves_below (length order) at.map.syms) (map (renumbered ix) xs) ≡ true
  all_leaves_ordered [] h k = refl
  all_leaves_ordered (x ∷ xs) h k = let p = and_parts _ _ k in λ i. leaves_ordered x h.0 p.0 i && all_leaves_ordered xs h.1 p.1 i

  fits_ordered : Every (λ x. Every Stands (dims_of x)) at.map.results → map_fits (ordered order at) ≡ true
  unfolding map_fits
  fits_ordered h =
      let a = length-append (map op order) (drop at.map.dims at.operands) in
      let b = length_mapped op order in
      let c = length_dropped at.map.dims at.map.syms at.operands count in
      λ i. eq-eqb (length (map op order ++ drop at.map.dims at.operands)) (length order + at.map.syms) (omega (arith, a, b, c)) i && all_leaves_ordered at.map.results h (and_parts _ _ fits).1 i

-- each dimension of the results stands in the order
split_all : (P : ℕ → Type 0) (xs : List Expr) → Every P (flat_map dims_of xs) → Every (λ x. Every P (dims_of x)) xs
split_all P [] h = tt
split_all P (x ∷ xs) h = let k = every_parts P (dims_of x) (flat_map dims_of xs) h in (k.0, split_all P xs k.1)

all_below : (d s : ℕ) (xs : List Expr) → list_all (has_leaves_below d s) xs ≡ true → Every (λ x. Every (λ n. n < d) (dims_of x)) xs
all_below d s [] h = tt
all_below d s (x ∷ xs) h = let p = and_parts _ _ h in (dims_below d s x p.0, all_below d s xs p.1)

both : (P Q : ℕ → Type 0) (xs : List Expr) → Every (λ x. Every P (dims_of x)) xs → Every (λ x. Every Q (dims_of x)) xs → Every (λ x. Every (λ n. P n × Q n) (dims_of x)) xs
both P Q [] h k = tt
both P Q (x ∷ xs) h k = (every_both P Q (λ n. P n × Q n) (λ n p q. (p, q)) (dims_of x) h.0 k.0, both P Q xs h.1 k.1)

stands : (at : Access) (fits : map_fits at ≡ true) → Every (λ x. Every (Stands at (first_order at) fits) (dims_of x)) at.map.results
unfolding map_fits
stands at fits =
    both (λ n. has n (first_order at) ≡ true) (λ n. n < at.map.dims) at.map.results
    (split_all (λ n. has n (first_order at) ≡ true) at.map.results (firsts_have (flat_map dims_of at.map.results) []))
    (all_below at.map.dims at.map.syms at.map.results (and_parts _ _ fits).1)

pub normal_same : NormalMeansTheSame
unfolding results_of
normal_same e at fits = values_ordered at (first_order at) fits e at.map.results (stands at fits)

pub normal_fits : NormalFits
normal_fits at fits = fits_ordered at (first_order at) fits (stands at fits)

-- ---- V1, V4, V8, V9
purity_same : (x : Expr-F Purity) → IsntDim x → purity_step x ≡ purity_step x
purity_same x h = refl

bounded_same : (ds ds' ss : List Range) (x : Expr-F (Option Spread)) → IsntDim x → bounded_step ds' ss x ≡ bounded_step ds ss x
bounded_same ds ds' ss (Expr-F.Dim n) h = absurd h
bounded_same ds ds' ss (Expr-F.Sym n) h = refl
bounded_same ds ds' ss (Expr-F.Const z) h = refl
bounded_same ds ds' ss (Expr-F.Neg a) h = refl
bounded_same ds ds' ss (Expr-F.Add a b) h = refl
bounded_same ds ds' ss (Expr-F.Sub a b) h = refl
bounded_same ds ds' ss (Expr-F.Mul a b) h = refl
bounded_same ds ds' ss (Expr-F.FloorDiv a b) h = refl
bounded_same ds ds' ss (Expr-F.CeilDiv a b) h = refl
bounded_same ds ds' ss (Expr-F.Mod a b) h = refl

firsts_all : (P : ℕ → Type 0) (ns seen : List ℕ) → Every P seen → Every P ns → Every P (firsts seen ns)
firsts_all P [] seen h k = h
firsts_all P (m ∷ ns) seen h k = firsts_all P ns (if has m seen then seen else seen ++ m ∷ []) (by (has m seen)) k.1
  where
    by : (t : Bool) → Every P (if t then seen else seen ++ m ∷ [])
    by true = h
    by false = every_join P seen (m ∷ []) h (k.0, tt)

join_all : (P : ℕ → Type 0) (xs : List Expr) → Every (λ x. Every P (dims_of x)) xs → Every P (flat_map dims_of xs)
join_all P [] h = tt
join_all P (x ∷ xs) h = every_join P (dims_of x) (flat_map dims_of xs) h.0 (join_all P xs h.1)

all_at : (f : Name → Bool) (k n : ℕ) (xs : List Name) → list_all f (take k xs) ≡ true → n < k → n < length xs → f (slice_index_or xs n no_name) ≡ true
all_at f zero n xs h l m = absurd (omega (arith, l))
all_at f (suc k) n [] h l m = absurd (omega (arith, m))
all_at f (suc k) zero (x ∷ xs) h l m = (and_parts _ _ h).0
all_at f (suc k) (suc n) (x ∷ xs) h l m = all_at f k n xs (and_parts _ _ h).1 (omega (arith, l)) (omega (arith, m))

all_halves : (f : Name → Bool) (k : ℕ) (xs : List Name) → list_all f xs ≡ true → (list_all f (take k xs) ≡ true) × (list_all f (drop k xs) ≡ true)
all_halves f zero xs h = (refl, h)
all_halves f (suc k) [] h = (refl, refl)
all_halves f (suc k) (x ∷ xs) h = let p = and_parts _ _ h in let q = all_halves f k xs p.1 in ((λ i. p.0 i && q.0 i), q.1)

module _ (at : Access) (fits : map_fits at ≡ true) where
  abbrev O : List ℕ
  O = first_order at

  order_below : Every (λ n. n < at.map.dims) O
  unfolding map_fits
  order_below = firsts_all (λ n. n < at.map.dims) (flat_map dims_of at.map.results) [] tt (join_all (λ n. n < at.map.dims) at.map.results (all_below at.map.dims at.map.syms at.map.results (and_parts _ _ fits).1))

  all_ordered : (f : Name → Bool) (ns : List ℕ) → Every (λ n. n < at.map.dims) ns → list_all f (take at.map.dims at.operands) ≡ true → list_all f (map (λ n. slice_index_or at.operands n no_name) ns) ≡ true
  all_ordered f [] h k = refl
  all_ordered f (n ∷ ns) h k =
      let c = count at O fits in
      let l = h.0 in
      λ i. all_at f at.map.dims n at.operands k h.0 (omega (arith, c, l)) i && all_ordered f ns h.1 k i

  dims_are : take (length O) (normal at).operands ≡ map (λ n. slice_index_or at.operands n no_name) O
  dims_are = take_all (map (λ n. slice_index_or at.operands n no_name) O) (drop at.map.dims at.operands) (length O) (length_mapped _ O)

  syms_are : drop (length O) (normal at).operands ≡ drop at.map.dims at.operands
  syms_are = drop_all (map (λ n. slice_index_or at.operands n no_name) O) (drop at.map.dims at.operands) (length O) (length_mapped _ O)

  dims_hold : (f : Name → Bool) → list_all f (take at.map.dims at.operands) ≡ true → list_all f (take (length O) (normal at).operands) ≡ true
  dims_hold f h = ap (list_all f) dims_are ∙ all_ordered f O order_below h

  pure_ordered : (xs : List Expr) → list_all is_pure (map (renumbered (ix at O fits)) xs) ≡ list_all is_pure xs
  unfolding is_pure
  pure_ordered [] = refl
  pure_ordered (x ∷ xs) =
      λ i. (fold_agrees Purity (ix at O fits) purity_step purity_step purity_same x (every_any (dims_of x)) i).pure && pure_ordered xs i
    where
      every_any : (ns : List ℕ) → Every (λ n. purity_step (Expr-F.Dim (ix at O fits n)) ≡ purity_step (Expr-F.Dim n)) ns
      every_any [] = tt
      every_any (n ∷ ns) = (refl, every_any ns)

  module _ (s : Scope) where
    intervals_ordered : (xs : List Expr) → Every (λ x. Every (Stands at O fits) (dims_of x)) xs
        → list_all (has_interval (take (length O) (map (ranges_in s) (normal at).operands)) (drop (length O) (map (ranges_in s) (normal at).operands))) (map (renumbered (ix at O fits)) xs)
        ≡ list_all (has_interval (take at.map.dims (map (ranges_in s) at.operands)) (drop at.map.dims (map (ranges_in s) at.operands))) xs
    unfolding has_interval bounded
    intervals_ordered [] h = refl
    intervals_ordered (x ∷ xs) h =
        let g = ranges_in s in
        let ds' = map (λ n. g (slice_index_or at.operands n no_name)) O in
        let ds = take at.map.dims (map g at.operands) in
        let ss = drop at.map.dims (map g at.operands) in
        let one : fold-Expr (Option Spread) (bounded_step (take (length O) (map g (normal at).operands)) (drop (length O) (map g (normal at).operands))) (renumbered (ix at O fits) x) ≡ fold-Expr (Option Spread) (bounded_step ds ss) x =
        (λ i. fold-Expr (Option Spread) (bounded_step (new_dims at O fits g i) (new_syms at O fits g i)) (renumbered (ix at O fits) x))
        ∙ fold_agrees (Option Spread) (ix at O fits) (bounded_step ds' ss) (bounded_step ds ss) (bounded_same ds ds' ss) x
        (every_both (Stands at O fits) (Stands at O fits) _ (λ n h k. ap (λ (r : Range). limited (record { range = r; fixed = None })) (found_dim at O fits g (only (pos 0)) n h)) (dims_of x) h.0 h.0) in
        λ i. is_some (one i) && intervals_ordered xs h.1 i

    normal_holds : StaysValid s at
    unfolding are_in operands_stand access_pure access_bounded
    normal_holds = record {
      uses = λ h. let p = all_halves (is_in s) at.map.dims at.operands h in all_both (is_in s) (map (λ n. slice_index_or at.operands n no_name) O) (drop at.map.dims at.operands) (all_ordered (is_in s) O order_below p.0) p.1;
      stands = λ h. let p = and_parts (list_all (is_dimension s) (take at.map.dims at.operands)) (list_all (is_symbol s) (drop at.map.dims at.operands)) h in λ i. dims_hold (is_dimension s) p.0 i && (ap (list_all (is_symbol s)) syms_are ∙ p.1) i;
      pure = λ h. pure_ordered at.map.results ∙ h;
      bounded = λ h. let p = and_parts (list_all (is_small_dimension s) (take at.map.dims at.operands)) _ h in λ i. dims_hold (is_small_dimension s) p.0 i && (intervals_ordered at.map.results (stands at fits) ∙ p.1) i;
    }

pub normal_valid : NormalStaysValid
normal_valid s at fits = normal_holds at fits s
