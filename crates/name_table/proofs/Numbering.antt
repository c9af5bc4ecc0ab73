-- A table by hash gives the numbers of its list, and one name more is told with its place.
use Rattle.std.proofs.Common.{◌≡◌, ℕ, suc, Bool, true, false, cond, List, [], ◌∷◌, ◌++◌, length, Option, Some, None, is_some, nat_eq, refl, sym, ap, ◌∙◌, map, slice_get}
use Rattle.std.specs.Prelude.{Vec}
use Rattle.std.specs.Map.{lookup}
use Rattle.std.specs.Option.{option_map}
use Rattle.std.specs.Str.{bytes_eq}
use Rattle.std.specs.Cmp.Lexicographic.{bytes_decides}
use Rattle.std.specs.declared.alloc.Global.{Global}
use lib.Pointwise.{pointwise}
use Rattle.indexmap.specs.IndexMap.{insert_entry}
use Rattle.name_table.specs.Numbers.{Numbered, number_list, number_in, with_number, place_of, first_named, TellsPlaces}

abbrev pub Key : Type 0
Key = Vec ℕ Global

-- two ways for a test to go
by_test : {P : Type 0} (b : Bool) → (b ≡ true → P) → (b ≡ false → P) → P
by_test true y n = y refl
by_test false y n = n refl

true_no : true ≡ false → ⊥
true_no h = cc

pub same_both : (a b : List ℕ) → bytes_eq a b ≡ bytes_eq b a
same_both a b =
    by_test (bytes_eq a b) (λ h. h ∙ sym ((bytes_decides b a).1 (sym ((bytes_decides a b).0 h))))
    (λ h. h ∙ by_test (bytes_eq b a) (λ k. absurd (true_no (sym ((bytes_decides a b).1 (sym ((bytes_decides b a).0 k))) ∙ h))) (λ k. sym k))

-- what the table looks up is what its list tells
pub looked_up : (es : List (Key × ℕ)) (name : List ℕ) → lookup (λ (k : Key). pointwise nat_eq name k.items) es ≡ number_in name (number_list es)
looked_up [] name = refl
looked_up (e ∷ es) name = ap (λ b. cond b (Some e.1) (lookup (λ (k : Key). pointwise nat_eq name k.items) es)) (same_both name e.0.items) ∙ ap (λ o. cond (bytes_eq e.0.items name) (Some e.1) o) (looked_up es name)

-- a name that has no number goes last
pub inserted : (es : List (Key × ℕ)) (k : Key) (n : ℕ) → is_some (number_in k.items (number_list es)) ≡ false → number_list (insert_entry (λ x y. pointwise nat_eq x.items y.items) es k n) ≡ with_number k.items n (number_list es)
inserted es k n h = new_last es h ∙ ap (λ b. cond b (number_list es) (number_list es ++ (k.items, n) ∷ [])) (sym h)
  where
    new_last : (es : List (Key × ℕ)) → is_some (number_in k.items (number_list es)) ≡ false → number_list (insert_entry (λ x y. pointwise nat_eq x.items y.items) es k n) ≡ number_list es ++ (k.items, n) ∷ []
    new_last [] h = refl
    new_last (e ∷ es) h = by (bytes_eq e.0.items k.items) (same_both k.items e.0.items) h (new_last es)
      where
        by : (b : Bool) → bytes_eq k.items e.0.items ≡ b → is_some (cond b (Some e.1) (number_in k.items (number_list es))) ≡ false
            → (is_some (number_in k.items (number_list es)) ≡ false → number_list (insert_entry (λ x y. pointwise nat_eq x.items y.items) es k n) ≡ number_list es ++ (k.items, n) ∷ [])
            → number_list (cond (bytes_eq k.items e.0.items) ((e.0, n) ∷ es) (e ∷ insert_entry (λ x y. pointwise nat_eq x.items y.items) es k n)) ≡ (e.0.items, e.1) ∷ (number_list es ++ (k.items, n) ∷ [])
        by true f h rec = absurd (true_no h)
        by false f h rec = ap (λ b. number_list (cond b ((e.0, n) ∷ es) (e ∷ insert_entry (λ x y. pointwise nat_eq x.items y.items) es k n))) f ∙ ap (λ ns. (e.0.items, e.1) ∷ ns) (rec h)

-- ---- one name more

abbrev or_else : Option ℕ → Option ℕ → Option ℕ
or_else (Some n) o = Some n
or_else None o = o

else_cond : (b : Bool) (n : ℕ) (o p : Option ℕ) → cond b (Some n) (or_else o p) ≡ or_else (cond b (Some n) o) p
else_cond true n o p = refl
else_cond false n o p = refl

mapped_else : (o p : Option ℕ) → option_map suc (or_else o p) ≡ or_else (option_map suc o) (option_map suc p)
mapped_else (Some n) p = refl
mapped_else None p = refl

mapped_cond : (b : Bool) (n : ℕ) → option_map suc (cond b (Some n) None) ≡ cond b (Some (suc n)) None
mapped_cond true n = refl
mapped_cond false n = refl

number_more : (v w : List ℕ) (n : ℕ) (es : List Numbered) → number_in v (es ++ (w, n) ∷ []) ≡ or_else (number_in v es) (cond (bytes_eq w v) (Some n) None)
number_more v w n [] = refl
number_more v w n (e ∷ es) = ap (cond (bytes_eq e.0 v) (Some e.1)) (number_more v w n es) ∙ else_cond (bytes_eq e.0 v) e.1 (number_in v es) _

place_more : (v w : List ℕ) (ts : List (List ℕ)) → place_of v (ts ++ w ∷ []) ≡ or_else (place_of v ts) (cond (bytes_eq w v) (Some (length ts)) None)
place_more v w [] = refl
place_more v w (t ∷ ts) =
    ap (λ o. cond (bytes_eq t v) (Some 0) (option_map suc o)) (place_more v w ts)
    ∙ ap (cond (bytes_eq t v) (Some 0)) (mapped_else (place_of v ts) _ ∙ ap (or_else (option_map suc (place_of v ts))) (mapped_cond (bytes_eq w v) (length ts)))
    ∙ else_cond (bytes_eq t v) 0 (option_map suc (place_of v ts)) _

pub tells_more : (es : List Numbered) (ts : List (List ℕ)) (w : List ℕ) → TellsPlaces es ts → TellsPlaces (with_number w (length ts) es) (ts ++ w ∷ [])
tells_more es ts w tells v = by_test (is_some (number_in w es)) (λ h. ap (λ b. number_in v (cond b es (es ++ (w, length ts) ∷ []))) h ∙ kept h) (λ h. ap (λ b. number_in v (cond b es (es ++ (w, length ts) ∷ []))) h ∙ new)
  where
    new : number_in v (es ++ (w, length ts) ∷ []) ≡ place_of v (ts ++ w ∷ [])
    new = number_more v w (length ts) es ∙ ap (λ o. or_else o (cond (bytes_eq w v) (Some (length ts)) None)) (tells v) ∙ sym (place_more v w ts)

    there : (o p : Option ℕ) → is_some o ≡ true → o ≡ or_else o p
    there (Some n) p h = refl
    there None p h = absurd (true_no (sym h))

    nothing : (o : Option ℕ) → o ≡ or_else o None
    nothing (Some n) = refl
    nothing None = refl

    kept : is_some (number_in w es) ≡ true → number_in v es ≡ place_of v (ts ++ w ∷ [])
    kept h =
        tells v ∙ by_test (bytes_eq w v)
        (λ s. there (place_of v ts) _ (ap is_some (sym (tells v)) ∙ ap (λ x. is_some (number_in x es)) (sym ((bytes_decides w v).0 s)) ∙ h))
        (λ s. nothing (place_of v ts) ∙ ap (λ b. or_else (place_of v ts) (cond b (Some (length ts)) None)) (sym s))
        ∙ sym (place_more v w ts)

-- ---- the first item of a name

abbrev pub at_place : {X : Type 0} → Option ℕ → List X → Option X
at_place (Some i) xs = slice_get xs i
at_place None xs = None

pub first_at : {X : Type 0} (name : X → List ℕ) (w : List ℕ) (xs : List X) → at_place (place_of w (map name xs)) xs ≡ first_named name w xs
first_at name w [] = refl
first_at {X} name w (x ∷ xs) = by (bytes_eq (name x) w) (place_of w (map name xs)) (first_at name w xs)
  where
    by : (b : Bool) (o : Option ℕ) → at_place o xs ≡ first_named name w xs → at_place (cond b (Some 0) (option_map suc o)) (x ∷ xs) ≡ cond b (Some x) (first_named name w xs)
    by true o h = refl
    by false (Some i) h = h
    by false None h = h
