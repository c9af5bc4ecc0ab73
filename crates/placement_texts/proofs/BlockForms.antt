-- The template's maps: their leaves are their parameters, and each is pure.
use Rattle.std.proofs.Common.{◌≡◌, ℕ, suc, ◌+◌, ◌<◌, ◌≤◌, ℤ, pos, neg_ℤ, List, [], ◌∷◌, length, refl, sym, ap, ◌∙◌, arith, Bool, true, false, take, drop}
use Rattle.std.specs.Prelude.{◌&&◌, ◌||◌, Option, Some, None, is_some, int_lt, if◌then◌else◌}
use Rattle.std.specs.Ordering.{int_eq}
use Rattle.std.specs.List.{list_all}
use Rattle.std.proofs.lemmas.Bool.{and_parts, lt-ltb, eq-eqb}
use Rattle.affine_expr.specs.declared.expr.Expr.{Expr, Dim, Const, Neg, Add, Sub, Mul, fold-Expr, fold-roll-Expr}
use Rattle.affine_expr.specs.declared.expr.Expr.TheVariants.{rolls-Const, rolls-Neg, rolls-Add, rolls-Mul}
use Rattle.affine_expr.specs.declared.expr.Expr.TheOpen.{Expr-F}
use Rattle.affine_expr.specs.Pure.{Purity, purity_step, purity, is_pure, has_leaves_below, leaves_step}
use Rattle.affine_ast.specs.declared.name.Name.{Name}
use Rattle.affine_ast.specs.declared.types.Access.{Access}
use Rattle.affine_ast.specs.Scope.{Binding, Scope}
use Rattle.affine_ast.specs.Rules.{is_in, are_in, may_be_dimension, is_dimension, is_symbol, operands_stand, map_fits, access_pure}
use Rattle.placement_texts.specs.Template.{plus, term, first_term, join_term, join_terms, form, term_names, Begin, Fixed, Named, named, turn_names, turn_dims, turn_places, place_exprs, zeros}
use Rattle.placement_texts.proofs.ScopedRedirect.{leaves-Dim, leaves-Const, leaves-Sub}
use Rattle.placement_texts.proofs.ScopedAccess.{pure-Const, pure-Dim, pure-Sub}

leaves-Neg : (d s : ℕ) (a : Expr) → has_leaves_below d s (Neg a) ≡ has_leaves_below d s a
unfolding has_leaves_below
leaves-Neg d s a = ap (fold-Expr Bool (leaves_step d s)) (sym (rolls-Neg a)) ∙ fold-roll-Expr Bool (leaves_step d s) (Expr-F.Neg a)

leaves-Add : (d s : ℕ) (a b : Expr) → has_leaves_below d s (Add a b) ≡ (has_leaves_below d s a && has_leaves_below d s b)
unfolding has_leaves_below
leaves-Add d s a b = ap (fold-Expr Bool (leaves_step d s)) (sym (rolls-Add a b)) ∙ fold-roll-Expr Bool (leaves_step d s) (Expr-F.Add a b)

leaves-Mul : (d s : ℕ) (a b : Expr) → has_leaves_below d s (Mul a b) ≡ (has_leaves_below d s a && has_leaves_below d s b)
unfolding has_leaves_below
leaves-Mul d s a b = ap (fold-Expr Bool (leaves_step d s)) (sym (rolls-Mul a b)) ∙ fold-roll-Expr Bool (leaves_step d s) (Expr-F.Mul a b)

pure-Neg : (a : Expr) → is_pure (Neg a) ≡ is_pure a
unfolding is_pure
pure-Neg a = ap (λ e. (fold-Expr Purity purity_step e).pure) (sym (rolls-Neg a)) ∙ ap (λ (p : Purity). p.pure) (fold-roll-Expr Purity purity_step (Expr-F.Neg a))

pure-Add : (a b : Expr) → is_pure (Add a b) ≡ (is_pure a && is_pure b)
unfolding is_pure
pure-Add a b = ap (λ e. (fold-Expr Purity purity_step e).pure) (sym (rolls-Add a b)) ∙ ap (λ (p : Purity). p.pure) (fold-roll-Expr Purity purity_step (Expr-F.Add a b))

number_fixed : (z : ℤ) → is_some (purity (Const z)).fixed ≡ true
number_fixed z = ap (λ e. is_some (fold-Expr Purity purity_step e).fixed) (sym (rolls-Const z)) ∙ ap (λ (p : Purity). is_some p.fixed) (fold-roll-Expr Purity purity_step (Expr-F.Const z))

or_second : (x y : Bool) → y ≡ true → (x || y) ≡ true
or_second true y h = refl
or_second false y h = h

-- a product with a number
pure_times : (a : Expr) (z : ℤ) → is_pure a ≡ true → is_pure (Mul a (Const z)) ≡ true
unfolding is_pure
pure_times a z h =
    ap (λ e. (fold-Expr Purity purity_step e).pure) (sym (rolls-Mul a (Const z))) ∙ ap (λ (p : Purity). p.pure) (fold-roll-Expr Purity purity_step (Expr-F.Mul a (Const z)))
    ∙ (λ i. (h i && pure-Const z i) && or_second (is_some (purity a).fixed) (is_some (purity (Const z)).fixed) (number_fixed z) i)

-- over so many dimensions and no symbol, and pure
abbrev pub Sound : ℕ → Expr → Type 0
Sound d e = (has_leaves_below d 0 e ≡ true) × (is_pure e ≡ true)

abbrev pub AllSound : ℕ → List Expr → Type 0
AllSound d [] = Unit {0}
AllSound d (e ∷ es) = Sound d e × AllSound d es

module _ (d : ℕ) where
  sound_dim : (k : ℕ) → k < d → Sound d (Dim k)
  sound_dim k l = (leaves-Dim d 0 k ∙ lt-ltb k d l, pure-Dim k)

  sound_const : (z : ℤ) → Sound d (Const z)
  sound_const z = (leaves-Const d 0 z, pure-Const z)

  sound_neg : (e : Expr) → Sound d e → Sound d (Neg e)
  sound_neg e h = (leaves-Neg d 0 e ∙ h.0, pure-Neg e ∙ h.1)

  sound_add : (a b : Expr) → Sound d a → Sound d b → Sound d (Add a b)
  sound_add a b h k = (leaves-Add d 0 a b ∙ (λ i. h.0 i && k.0 i), pure-Add a b ∙ (λ i. h.1 i && k.1 i))

  sound_sub : (a b : Expr) → Sound d a → Sound d b → Sound d (Sub a b)
  sound_sub a b h k = (leaves-Sub d 0 a b ∙ (λ i. h.0 i && k.0 i), pure-Sub a b ∙ (λ i. h.1 i && k.1 i))

  sound_times : (a : Expr) (z : ℤ) → Sound d a → Sound d (Mul a (Const z))
  sound_times a z h = (leaves-Mul d 0 a (Const z) ∙ (λ i. h.0 i && leaves-Const d 0 z i), pure_times a z h.1)

  sound_if : (t : Bool) (x y : Expr) → Sound d x → Sound d y → Sound d (if t then x else y)
  sound_if true x y h k = h
  sound_if false x y h k = k

  sound_plus : (e : Expr) (z : ℤ) → Sound d e → Sound d (plus e z)
  sound_plus e z h =
      sound_if (int_eq z (pos 0)) e _ h
      (sound_if (int_lt z (pos 0)) (Sub e (Const (neg_ℤ z))) (Add e (Const z)) (sound_sub e (Const (neg_ℤ z)) h (sound_const (neg_ℤ z))) (sound_add e (Const z) h (sound_const z)))

  sound_term : (k : ℕ) (a : ℤ) → k < d → Sound d (term k a)
  sound_term k a l = sound_if (int_eq a (pos 1)) (Dim k) _ (sound_dim k l) (sound_times (Dim k) a (sound_dim k l))

  sound_first : (k : ℕ) (a : ℤ) → k < d → Sound d (first_term k a)
  sound_first k a l = sound_if (int_eq a (neg_ℤ (pos 1))) (Neg (Dim k)) (term k a) (sound_neg (Dim k) (sound_dim k l)) (sound_term k a l)

  sound_join : (e : Expr) (k : ℕ) (a : ℤ) → k < d → Sound d e → Sound d (join_term e k a)
  sound_join e k a l h = sound_if (int_lt a (pos 0)) (Sub e (term k (neg_ℤ a))) (Add e (term k a)) (sound_sub e _ h (sound_term k (neg_ℤ a) l)) (sound_add e _ h (sound_term k a l))

  sound_joins : (e : Expr) (k : ℕ) (ts : List (Name × ℤ)) → k + length ts ≤ d → Sound d e → Sound d (join_terms e k ts)
  sound_joins e k [] l h = h
  sound_joins e k (t ∷ ts) l h = sound_joins (join_term e k t.1) (suc k) ts (omega (arith, l)) (sound_join e k t.1 (omega (arith, l)) h)

  pub sound_turns : (k : ℕ) (bs : List Begin) → k + length bs ≤ d → AllSound d (turn_dims k bs)
  sound_turns k [] l = tt
  sound_turns k (b ∷ bs) l = (sound_dim k (omega (arith, l)), sound_turns (suc k) bs (omega (arith, l)))

  pub sound_turn_places : (t k : ℕ) (bs : List Begin) → t + length bs ≤ d → k + length (named bs) ≤ d → AllSound d (turn_places t k bs)
  sound_turn_places t k [] l m = tt
  sound_turn_places t k (Fixed z ∷ bs) l m = (sound_plus (Dim t) z (sound_dim t (omega (arith, l))), sound_turn_places (suc t) k bs (omega (arith, l)) m)
  sound_turn_places t k (Named n ∷ bs) l m =
      (sound_add (Dim t) (Dim k) (sound_dim t (omega (arith, l))) (sound_dim k (omega (arith, m))), sound_turn_places (suc t) (suc k) bs (omega (arith, l)) (omega (arith, m)))

  pub sound_places : (k : ℕ) (bs : List Begin) → k + length (named bs) ≤ d → AllSound d (place_exprs k bs)
  sound_places k [] m = tt
  sound_places k (Fixed z ∷ bs) m = (sound_const z, sound_places k bs m)
  sound_places k (Named n ∷ bs) m = (sound_dim k (omega (arith, m)), sound_places (suc k) bs (omega (arith, m)))

  pub sound_zeros : (bs : List Begin) → AllSound d (zeros bs)
  sound_zeros [] = tt
  sound_zeros (b ∷ bs) = (sound_const (pos 0), sound_zeros bs)

  pub sound_zero : Sound d (Const (pos 0))
  sound_zero = sound_const (pos 0)

  pub sound_number : (z : ℤ) → Sound d (Const z)
  sound_number z = sound_const z

  all_leaves : (es : List Expr) → AllSound d es → list_all (has_leaves_below d 0) es ≡ true
  all_leaves [] h = refl
  all_leaves (e ∷ es) h = λ i. h.0.0 i && all_leaves es h.1 i

  all_pure : (es : List Expr) → AllSound d es → list_all is_pure es ≡ true
  all_pure [] h = refl
  all_pure (e ∷ es) h = λ i. h.0.1 i && all_pure es h.1 i

pub sound_form : (ts : List (Name × ℤ)) (z : ℤ) → Sound (length ts) (form ts z)
sound_form [] z = sound_const 0 z
sound_form (t ∷ ts) z = sound_plus (length (t ∷ ts)) _ z (sound_joins (length (t ∷ ts)) (first_term 0 t.1) 1 ts (omega arith) (sound_first (length (t ∷ ts)) 0 t.1 (omega arith)))

pub sound_one : Sound 1 (Dim 0)
sound_one = sound_dim 1 0 (omega arith)

-- ---- lengths
pub length_terms : (ts : List (Name × ℤ)) → length (term_names ts) ≡ length ts
length_terms [] = refl
length_terms (t ∷ ts) = ap suc (length_terms ts)

pub length_turns : (turn : ℕ → Name) (d : ℕ) (bs : List Begin) → length (turn_names turn d bs) ≡ length bs
length_turns turn d [] = refl
length_turns turn d (b ∷ bs) = ap suc (length_turns turn (suc d) bs)

pub length_turn_dims : (d : ℕ) (bs : List Begin) → length (turn_dims d bs) ≡ length bs
length_turn_dims d [] = refl
length_turn_dims d (b ∷ bs) = ap suc (length_turn_dims (suc d) bs)

pub length_turn_places : (d k : ℕ) (bs : List Begin) → length (turn_places d k bs) ≡ length bs
length_turn_places d k [] = refl
length_turn_places d k (Fixed z ∷ bs) = ap suc (length_turn_places (suc d) k bs)
length_turn_places d k (Named n ∷ bs) = ap suc (length_turn_places (suc d) (suc k) bs)

pub length_places : (k : ℕ) (bs : List Begin) → length (place_exprs k bs) ≡ length bs
length_places k [] = refl
length_places k (Fixed z ∷ bs) = ap suc (length_places k bs)
length_places k (Named n ∷ bs) = ap suc (length_places (suc k) bs)

pub length_zeros : (bs : List Begin) → length (zeros bs) ≡ length bs
length_zeros [] = refl
length_zeros (b ∷ bs) = ap suc (length_zeros bs)

-- ---- a map over dimensions alone
abbrev pub over : ℕ → List Expr → List Name → Access
over n es ns = record { map = record { dims = n; syms = 0; results = es }; operands = ns }

-- what the rules ask of an access by itself
pub record AccessHolds (s : Scope) (at : Access) : Type 0 where
  pub uses : are_in s at.operands ≡ true
  pub stand : operands_stand s at.map.dims at.operands ≡ true
  pub fits : map_fits at ≡ true
  pub pure : access_pure at ≡ true

dimension_in : (b : Option Binding) → may_be_dimension b ≡ true → is_some b ≡ true
dimension_in (Some b) h = refl
dimension_in None h = absurd (cc)

dimensions_in : (s : Scope) (ns : List Name) → list_all (is_dimension s) ns ≡ true → are_in s ns ≡ true
unfolding are_in is_in is_dimension
dimensions_in s [] h = refl
dimensions_in s (n ∷ ns) h = let p = and_parts (is_dimension s n) (list_all (is_dimension s) ns) h in λ i. dimension_in (s n) p.0 i && dimensions_in s ns p.1 i

take_whole : {A : Type 0} (xs : List A) → take (length xs) xs ≡ xs
take_whole [] = refl
take_whole (x ∷ xs) = ap (λ l. x ∷ l) (take_whole xs)

drop_whole : {A : Type 0} (xs : List A) → drop (length xs) xs ≡ []
drop_whole [] = refl
drop_whole (x ∷ xs) = drop_whole xs

pub access_holds : (s : Scope) (n : ℕ) (es : List Expr) (ns : List Name) → length ns ≡ n → AllSound n es → list_all (is_dimension s) ns ≡ true → AccessHolds s (over n es ns)
unfolding operands_stand map_fits access_pure
access_holds s n es ns l h k = record {
  uses = dimensions_in s ns k;
  stand = λ i. (ap (λ m. list_all (is_dimension s) (take m ns)) (sym l) ∙ ap (list_all (is_dimension s)) (take_whole ns) ∙ k) i
      && (ap (λ m. list_all (is_symbol s) (drop m ns)) (sym l) ∙ ap (list_all (is_symbol s)) (drop_whole ns)) i;
  fits = λ i. eq-eqb (length ns) (n + 0) (omega (arith, l)) i && all_leaves n es h i;
  pure = all_pure n es h;
}
