-- The table of intervals.
use Rattle.std.proofs.Common.{◌≡◌, ℕ, ◌+◌, ◌<◌, Bool, true, false, List, [], ◌∷◌, ◌++◌, map, take, drop, length, get_or, refl, sym, ap, ◌∙◌}
use Rattle.std.proofs.lemmas.List.{take_more, map-append}
use Rattle.affine_rules.proofs.Intervals.{ranges_push, ranges_take, ranges_drop}
use Rattle.std.specs.List.{list_all}
use Rattle.affine_ast.specs.declared.types.Access.{Access}
use Rattle.affine_ast.specs.Rules.{has_interval}
use Rattle.valid_laws.specs.Bounded.{BoundedAccess}
use Rattle.affine_expr.specs.Spread.{range_of}
use Rattle.std.specs.Prelude.{◌&&◌, Option, Some, if◌then◌else◌, pos}
use Rattle.std.specs.Str.{bytes_eq}
use Rattle.std.specs.Map.{lookup}
use Rattle.std.proofs.lemmas.Bool.{and_parts}
use Rattle.std.proofs.lemmas.Map.Entries.{lookup_head, lookup_tail}
use Rattle.std.proofs.lemmas.Slice.Eq.{bytes_eq-Decides}
use Rattle.indexmap.specs.IndexMap.{insert_entry}
use mathlib.Core.Path.{fun_ext}
use mathlib.Core.Bool.{beq}
use Rattle.affine_expr.specs.declared.map.Interval.{Interval}
use Rattle.affine_expr.specs.Bounded.{range_at, ranges}
use Rattle.affine_expr.specs.Spread.{Range, only}
use Rattle.affine_ast.specs.declared.name.Name.{Name}
use Rattle.affine_ast.specs.Intervals.{Ranges, ranges_at}
use Rattle.affine_ast.specs.Names.{same_bool, same_name, put}
use Rattle.affine_ast.proofs.Names.{put-same, put-other, same_name-eq, same_name-sym}
use Rattle.affine_rules.specs.declared.scope.Key.{Key}
use Rattle.affine_rules.specs.Scoped.{is_key}
use Rattle.module_work.specs.declared.ranges.Before.{Before}
use Rattle.module_work.specs.Table.{range_or_zero, ranges_of, put_back}

pub cases : {P : Type 0} (b : Bool) → (b ≡ true → P) → (b ≡ false → P) → P
cases true y n = y refl
cases false y n = n refl

beq-same : (a b : Bool) → beq a b ≡ same_bool a b
beq-same true true = refl
beq-same true false = refl
beq-same false true = refl
beq-same false false = refl

beq-true : (a b : Bool) → beq a b ≡ true → a ≡ b
beq-true true true h = refl
beq-true true false h = sym h
beq-true false true h = h
beq-true false false h = refl

-- the key of a name is the key of another exactly where they are one name
key_of_name : (n m : Name) (k : Key) → k.text.now ≡ n.text → k.made ≡ n.made → is_key m k ≡ same_name m n
unfolding same_name
key_of_name n m k t b = (λ i. bytes_eq m.text (t i) && beq m.made (b i)) ∙ ap (λ x. bytes_eq m.text n.text && x) (beq-same m.made n.made)

key_of_one : (n m : Name) (k : Key) → is_key n k ≡ true → is_key m k ≡ same_name n m
key_of_one n m k h =
    let two = and_parts (bytes_eq n.text k.text.now) (beq n.made k.made) h in
    key_of_name n m k (sym ((bytes_eq-Decides n.text k.text.now).0 two.0)) (sym (beq-true n.made k.made two.1)) ∙ same_name-sym m n

module _ (V : Type 0) (eq : Key → Key → Bool) (key : Key) (n : Name) (t : key.text.now ≡ n.text) (d : key.made ≡ n.made) (is : (j : Key) → eq key j ≡ is_key n j) (v : V) (m : Name) where
  found_here : (k : Key) (es : List (Key × V)) → is_key m k ≡ same_name n m → lookup (is_key m) ((k, v) ∷ es) ≡ (if same_name n m then Some v else lookup (is_key m) es)
  found_here k es h = cases (same_name n m)
      (λ s. lookup_head (is_key m) (k, v) es (h ∙ s) ∙ sym (ap (λ b. if b then Some v else lookup (is_key m) es) s))
      (λ s. lookup_tail (is_key m) (k, v) es (h ∙ s) ∙ sym (ap (λ b. if b then Some v else lookup (is_key m) es) s))

  other_name : (k : Key) → is_key m k ≡ true → is_key n k ≡ false → same_name n m ≡ false
  other_name k h g = cases (same_name n m) (λ s. absurd (differ (sym h ∙ ap (λ x. is_key x k) (sym (same_name-eq n m s)) ∙ g))) (λ s. s)
    where
      differ : true ≡ false → ⊥
      differ z = cc

  -- what a table finds with an entry more
  pub inserted : (es : List (Key × V)) → lookup (is_key m) (insert_entry eq es key v) ≡ (if same_name n m then Some v else lookup (is_key m) es)
  inserted [] = found_here key [] (key_of_name n m key t d ∙ same_name-sym m n)
  inserted (e ∷ es) = cases (eq key e.0)
      (λ s. ap (λ b. lookup (is_key m) (if b then (e.0, v) ∷ es else e ∷ insert_entry eq es key v)) s
      ∙ found_here e.0 es (key_of_one n m e.0 (sym (is e.0) ∙ s))
      ∙ cases (same_name n m) (λ y. ap (λ b. if b then Some v else lookup (is_key m) es) y ∙ sym (ap (λ b. if b then Some v else lookup (is_key m) (e ∷ es)) y))
      (λ y. ap (λ b. if b then Some v else lookup (is_key m) es) y ∙ sym (lookup_tail (is_key m) e es (key_of_one n m e.0 (sym (is e.0) ∙ s) ∙ y)) ∙ sym (ap (λ b. if b then Some v else lookup (is_key m) (e ∷ es)) y)))
      (λ s. ap (λ b. lookup (is_key m) (if b then (e.0, v) ∷ es else e ∷ insert_entry eq es key v)) s ∙ cases (is_key m e.0)
      (λ h. lookup_head (is_key m) e (insert_entry eq es key v) h ∙ sym (lookup_head (is_key m) e es h) ∙ sym (ap (λ b. if b then Some v else lookup (is_key m) (e ∷ es)) (other_name e.0 h (sym (is e.0) ∙ s))))
      (λ h. lookup_tail (is_key m) e (insert_entry eq es key v) h ∙ inserted es ∙ ap (λ r. if same_name n m then Some v else r) (sym (lookup_tail (is_key m) e es h))))

-- a table with one interval set
pub ranges_set : (eq : Key → Key → Bool) (key : Key) (n : Name) → key.text.now ≡ n.text → key.made ≡ n.made → ((j : Key) → eq key j ≡ (bytes_eq key.text.now j.text.now && beq key.made j.made)) → (v : Interval) (es fs : List (Key × Interval)) → fs ≡ insert_entry eq es key v
    → ranges_of fs ≡ put (ranges_of es) n (range_at v)
unfolding ranges_of
ranges_set eq key n t d is v es fs h = fun_ext (λ m. ap (λ xs. range_or_zero (lookup (is_key m) xs)) h ∙ ap range_or_zero (inserted Interval eq key n t d (λ j. is j ∙ (λ i. bytes_eq (t i) j.text.now && beq (d i) j.made)) v m es)
    ∙ cases (same_name n m)
    (λ s. ap (λ b. range_or_zero (if b then Some v else lookup (is_key m) es)) s ∙ sym (put-same (ranges_of es) n (range_at v) m s))
    (λ s. ap (λ b. range_or_zero (if b then Some v else lookup (is_key m) es)) s ∙ sym (put-other (ranges_of es) n (range_at v) m s)))

-- what a key finds
pub range_found : (key : Key) (n : Name) (o : Option Interval) (es : List (Key × Interval)) → key.text.now ≡ n.text → key.made ≡ n.made → o ≡ lookup (λ k. bytes_eq key.text.now k.text.now && beq key.made k.made) es → range_or_zero o ≡ ranges_of es n
unfolding ranges_of
range_found key n o es t d h = ap range_or_zero (h ∙ (λ i. lookup (λ (k : Key). bytes_eq (t i) k.text.now && beq (d i) k.made) es))

-- setting twice, back to what was there
pub put_twice : (rho : Ranges) (n : Name) (r : Range) → put (put rho n r) n (rho n) ≡ rho
put_twice rho n r = fun_ext (λ m. cases (same_name n m)
    (λ s. put-same (put rho n r) n (rho n) m s ∙ ap rho (same_name-eq n m s))
    (λ s. put-other (put rho n r) n (rho n) m s ∙ put-other rho n r m s))

pub put_back-append : (bs : List Before) (b : Before) (rho : Ranges) → put_back (bs ++ b ∷ []) rho ≡ put_back bs (put rho b.name.now (range_at b.interval))
put_back-append [] b rho = refl
put_back-append (c ∷ bs) b rho = ap (λ f. put f c.name.now (range_at c.interval)) (put_back-append bs b rho)

-- a name set, and what it was kept
pub kept_one : (bs cs : List Before) (b : Before) (rho sigma : Ranges) (r : Range) → cs ≡ bs ++ b ∷ [] → range_at b.interval ≡ rho b.name.now → sigma ≡ put rho b.name.now r → put_back cs sigma ≡ put_back bs rho
kept_one bs cs b rho sigma r push was is =
    (λ i. put_back (push i) (is i)) ∙ put_back-append bs b (put rho b.name.now r)
    ∙ ap (put_back bs) (ap (put (put rho b.name.now r) b.name.now) was ∙ put_twice rho b.name.now r)

-- the ranges of one name more
pub one_more : (f : Name → Range) (names : List Name) (i : ℕ) (n : Name) (is js : List Interval) (x : Interval) → i < length names → n ≡ get_or names i n → ranges is ≡ map f (take i names) → range_at x ≡ f n
    → js ≡ is ++ x ∷ [] → ranges js ≡ map f (take (i + 1) names)
one_more f names i n is js x h at so r push =
    ap ranges push ∙ ranges_push is x ∙ (λ k. so k ++ (r ∙ ap f at) k ∷ [])
    ∙ sym (map-append f (take i names) (get_or names i n ∷ [])) ∙ ap (map f) (sym (take_more names i n h))

-- over the intervals of the operands, the results of an access have intervals, and these are its ranges
module _ (rho : Ranges) (at : Access) (is ds ss : List Interval) (e : ranges is ≡ map rho at.operands) (d : ds ≡ take at.map.dims is) (t : ss ≡ drop at.map.dims is) where
  dims_are : ranges ds ≡ take at.map.dims (map rho at.operands)
  dims_are = ap ranges d ∙ ranges_take at.map.dims is ∙ ap (take at.map.dims) e

  syms_are : ranges ss ≡ drop at.map.dims (map rho at.operands)
  syms_are = ap ranges t ∙ ranges_drop at.map.dims is ∙ ap (drop at.map.dims) e

  pub results_bounded : BoundedAccess rho at → list_all (has_interval (ranges ds) (ranges ss)) at.map.results ≡ true
  results_bounded h = (λ i. list_all (has_interval (dims_are i) (syms_are i)) at.map.results) ∙ h

  pub results_found : (rs : List Range) → rs ≡ map (range_of (ranges ds) (ranges ss)) at.map.results → rs ≡ ranges_at rho at
  results_found rs h = h ∙ (λ i. map (range_of (dims_are i) (syms_are i)) at.map.results)

-- a name's range set, and set back
pub ranges_back : (rho inside behind after : Ranges) (n : Name) (r x : Range) → inside ≡ put rho n r → behind ≡ inside → after ≡ put behind n x → x ≡ rho n → after ≡ rho
ranges_back rho inside behind after n r x h k l e = l ∙ (λ i. put ((k ∙ h) i) n (e i)) ∙ put_twice rho n r

-- the last of the names put back
pub back_one : (bs cs : List Before) (b : Before) (rho sigma goal : Ranges) → cs ≡ bs ++ b ∷ [] → sigma ≡ put rho b.name.now (range_at b.interval) → put_back cs rho ≡ goal → put_back bs sigma ≡ goal
back_one bs cs b rho sigma goal push is h = ap (put_back bs) is ∙ sym (put_back-append bs b rho) ∙ ap (λ l. put_back l rho) (sym push) ∙ h

-- an empty table has no range for any name
pub ranges_empty : (es : List (Key × Interval)) → es ≡ [] → ranges_of es ≡ (λ n. only (pos 0))
unfolding ranges_of
ranges_empty es h = ap (λ xs n. range_or_zero (lookup (is_key n) xs)) h
