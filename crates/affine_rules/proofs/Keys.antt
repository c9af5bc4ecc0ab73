-- Look-ups in tables whose last entry is new.
use Rattle.std.proofs.Common.{◌≡◌, Bool, true, false, List, [], ◌∷◌, ◌++◌, take, length, refl, sym, ap, ◌∙◌}
use Rattle.std.specs.Prelude.{◌&&◌, ◌||◌, Option, Some, None, if◌then◌else◌}
use Rattle.std.specs.Str.{bytes_eq}
use Rattle.std.specs.Map.{lookup}
use Rattle.std.proofs.lemmas.Map.Entries.{lookup_head, lookup_tail}
use Rattle.std.specs.List.{list_any}
use Rattle.std.specs.Option.{option_map}
use mathlib.Core.Path.{fun_ext}
use mathlib.Core.Bool.{beq}
use Rattle.affine_ast.specs.declared.name.Name.{Name}
use Rattle.affine_ast.specs.Names.{same_bool, same_name, put}
use Rattle.affine_ast.proofs.Names.{put-same, put-other, same_name-eq, same_name-sym}
use Rattle.affine_rules.specs.declared.scope.Key.{Key}
use Rattle.affine_rules.specs.declared.scope.Binding.{Binding}
use Rattle.affine_rules.specs.Scoped.{binding_of, is_key, scope_of, names_of}

beq-same : (a b : Bool) → beq a b ≡ same_bool a b
beq-same true true = refl
beq-same true false = refl
beq-same false true = refl
beq-same false false = refl

beq-sym : (a b : Bool) → same_bool a b ≡ same_bool b a
beq-sym true true = refl
beq-sym true false = refl
beq-sym false true = refl
beq-sym false false = refl

-- the key of a name is the key of another exactly where they are one name
key_of_name : (n m : Name) (k : Key) → k.text.now ≡ n.text → k.made ≡ n.made → is_key m k ≡ same_name m n
unfolding same_name
key_of_name n m k t b = (λ i. bytes_eq m.text (t i) && beq m.made (b i)) ∙ ap (λ x. bytes_eq m.text n.text && x) (beq-same m.made n.made)

-- two ways for a test to go
cases : {P : Type 0} (b : Bool) → (b ≡ true → P) → (b ≡ false → P) → P
cases true y n = y refl
cases false y n = n refl

module _ {K X : Type 0} (test : K → Bool) where
  lookup_past : (es more : List (K × X)) → lookup test es ≡ None → lookup test (es ++ more) ≡ lookup test more
  lookup_past [] more h = refl
  lookup_past (e ∷ es) more h = cases (test e.0) (λ t. absurd (some_none (sym (lookup_head test e es t) ∙ h))) (λ t. lookup_tail test e (es ++ more) t ∙ lookup_past es more (sym (lookup_tail test e es t) ∙ h))
    where
      some_none : {Y : Type 0} {y : Y} → Some y ≡ None → ⊥
      some_none z = cc

  lookup_before : (es : List (K × X)) (k : K) (x : X) → test k ≡ false → lookup test (es ++ (k, x) ∷ []) ≡ lookup test es
  lookup_before [] k x h = lookup_tail test (k, x) [] h
  lookup_before (e ∷ es) k x h = cases (test e.0) (λ t. lookup_head test e (es ++ (k, x) ∷ []) t ∙ sym (lookup_head test e es t))
      (λ t. lookup_tail test e (es ++ (k, x) ∷ []) t ∙ lookup_before es k x h ∙ sym (lookup_tail test e es t))

or_false : (b : Bool) → (b || false) ≡ b
or_false true = refl
or_false false = refl

or_assoc : (a b c : Bool) → (a || (b || c)) ≡ ((a || b) || c)
or_assoc true b c = refl
or_assoc false b c = refl

any_more : {K : Type 0} (test : K → Bool) (ks : List K) (k : K) → list_any test (ks ++ k ∷ []) ≡ (list_any test ks || test k)
any_more test [] k = or_false (test k)
any_more test (j ∷ ks) k = ap (λ b. test j || b) (any_more test ks k) ∙ or_assoc (test j) (list_any test ks) (test k)

none_of : {X Y : Type 0} (f : X → Y) (o : Option X) → option_map f o ≡ None → o ≡ None
none_of f None h = refl
none_of f (Some x) h = absurd (cc)

-- the scope with a name more
pub scope_more : (es fs : List (Key × Binding)) (n : Name) (k : Key) (b : Binding) → k.text.now ≡ n.text → k.made ≡ n.made → scope_of es n ≡ None → fs ≡ es ++ (k, b) ∷ []
    → scope_of fs ≡ put (scope_of es) n (Some (binding_of b))
unfolding scope_of
scope_more es fs n k b t d none is = fun_ext (λ m. ap (λ xs. option_map binding_of (lookup (is_key m) xs)) is ∙ cases (same_name n m) (found m) (other m))
  where
    found : (m : Name) → same_name n m ≡ true → option_map binding_of (lookup (is_key m) (es ++ (k, b) ∷ [])) ≡ put (scope_of es) n (Some (binding_of b)) m
    found m s =
        let e = same_name-eq n m s in
        let gone = none_of binding_of (lookup (is_key n) es) none in
        ap (option_map binding_of) (lookup_past (is_key m) es ((k, b) ∷ []) (ap (λ x. lookup (is_key x) es) (sym e) ∙ gone)
        ∙ lookup_head (is_key m) (k, b) [] (key_of_name n m k t d ∙ same_name-sym m n ∙ s))
        ∙ sym (put-same (scope_of es) n (Some (binding_of b)) m s)

    other : (m : Name) → same_name n m ≡ false → option_map binding_of (lookup (is_key m) (es ++ (k, b) ∷ [])) ≡ put (scope_of es) n (Some (binding_of b)) m
    other m s =
        ap (option_map binding_of) (lookup_before (is_key m) es k b (key_of_name n m k t d ∙ same_name-sym m n ∙ s))
        ∙ sym (put-other (scope_of es) n (Some (binding_of b)) m s)

-- the names with one more
pub names_more : (ks js : List Key) (n : Name) (k : Key) → k.text.now ≡ n.text → k.made ≡ n.made → js ≡ ks ++ k ∷ [] → names_of js ≡ put (names_of ks) n true
unfolding names_of
names_more ks js n k t d is = fun_ext (λ m. ap (λ xs. list_any (is_key m) xs) is ∙ any_more (is_key m) ks k ∙ cases (same_name n m) (found m) (other m))
  where
    or_true : (b : Bool) → (b || true) ≡ true
    or_true true = refl
    or_true false = refl

    or_no : (b : Bool) → (b || false) ≡ b
    or_no true = refl
    or_no false = refl

    found : (m : Name) → same_name n m ≡ true → (list_any (is_key m) ks || is_key m k) ≡ put (names_of ks) n true m
    found m s = ap (λ b. list_any (is_key m) ks || b) (key_of_name n m k t d ∙ same_name-sym m n ∙ s) ∙ or_true (list_any (is_key m) ks) ∙ sym (put-same (names_of ks) n true m s)

    other : (m : Name) → same_name n m ≡ false → (list_any (is_key m) ks || is_key m k) ≡ put (names_of ks) n true m
    other m s = ap (λ b. list_any (is_key m) ks || b) (key_of_name n m k t d ∙ same_name-sym m n ∙ s) ∙ or_no (list_any (is_key m) ks) ∙ sym (put-other (names_of ks) n true m s)

-- what a key finds is what its name finds
pub found_by : (es : List (Key × Binding)) (n : Name) (key : Key) → key.text.now ≡ n.text → key.made ≡ n.made → lookup (λ k. bytes_eq key.text.now k.text.now && beq key.made k.made) es ≡ lookup (is_key n) es
found_by es n key h g = λ i. lookup (λ (k : Key). bytes_eq (h i) k.text.now && beq (g i) k.made) es

pub listed_by : (ks : List Key) (n : Name) (key : Key) → key.text.now ≡ n.text → key.made ≡ n.made → list_any (λ k. bytes_eq key.text.now k.text.now && beq key.made k.made) ks ≡ names_of ks n
unfolding names_of
listed_by ks n key h g = λ i. list_any (λ (k : Key). bytes_eq (h i) k.text.now && beq (g i) k.made) ks

pub absent : (es : List (Key × Binding)) (n : Name) → scope_of es n ≡ None → lookup (is_key n) es ≡ None
unfolding scope_of
absent es n h = none_of binding_of (lookup (is_key n) es) h

pub take_before : {X : Type 0} (xs ys zs : List X) → zs ≡ xs ++ ys → take (length xs) zs ≡ xs
take_before xs ys zs h = ap (take (length xs)) h ∙ take-append xs ys
  where
    take-append : {X : Type 0} (xs ys : List X) → take (length xs) (xs ++ ys) ≡ xs
    take-append [] ys = refl
    take-append (x ∷ xs) ys = ap (λ l. x ∷ l) (take-append xs ys)

pub new_last : {X : Type 0} (b : Bool) (xs ys : List X) → b ≡ false → (if b then xs else ys) ≡ ys
new_last true xs ys h = absurd (cc)
new_last false xs ys h = refl
