-- The place of a made name among the made names, and the prefix underscore by underscore.
use Rattle.std.proofs.Common.{◌≡◌, ◌≢◌, ℕ, zero, suc, ◌+◌, List, [], ◌∷◌, ◌++◌, length, refl, sym, ap, ◌∙◌, arith, Bool, true, false, map}
use Rattle.std.specs.Prelude.{◌&&◌, Option, Some, None, if◌then◌else◌, codes}
use Rattle.std.specs.Fmt.{decimal}
use Rattle.std.specs.Option.{option_map}
use Rattle.std.specs.Str.{bytes_eq}
use mathlib.Core.Path.{fun_ext}
use Rattle.affine_ast.specs.declared.name.Name.{Name}
use Rattle.affine_ast.specs.Names.{same_bool, same_name}
use Rattle.name_table.specs.Numbers.{place_of}
use Rattle.numbered_names.specs.Numbers.{made_of, number_of, numbered_name, prefix, underscores}
use Rattle.numbered_names.specs.Numbers as numbers
use Rattle.number_names.specs.Renaming.{Numbers, place_by_text, new_name}

none_some : (q : ℕ) → Some q ≡ None → ⊥
none_some q e = cc

some_is : (p q : ℕ) → Some p ≡ Some q → p ≡ q
some_is p q e = cc

pub found : (text : List ℕ) (xs : List Name) (p : ℕ) → place_of text (map (λ (n : Name). n.text) xs) ≡ Some p → p ≡ place_by_text text xs
found text [] p e = absurd (none_some p (sym e))
found text (x ∷ xs) p e = by (bytes_eq x.text text) (found text xs) e
  where
    later : (o : Option ℕ) → ((q : ℕ) → o ≡ Some q → q ≡ place_by_text text xs) → option_map suc o ≡ Some p → p ≡ suc (place_by_text text xs)
    later (Some q) again e = sym (some_is (suc q) p e) ∙ ap suc (again q refl)
    later None again e = absurd (none_some p (sym e))

    by : (t : Bool) → ((q : ℕ) → place_of text (map (λ (n : Name). n.text) xs) ≡ Some q → q ≡ place_by_text text xs)
        → (if t then Some 0 else option_map suc (place_of text (map (λ (n : Name). n.text) xs))) ≡ Some p → p ≡ (if t then 0 else suc (place_by_text text xs))
    by true again e = sym (some_is 0 p e)
    by false again e = later (place_of text (map (λ (n : Name). n.text) xs)) again e

pub missing : (text : List ℕ) (xs : List Name) → place_of text (map (λ (n : Name). n.text) xs) ≡ None → length xs ≡ place_by_text text xs
missing text [] e = refl
missing text (x ∷ xs) e = by (bytes_eq x.text text) (missing text xs) e
  where
    later : (o : Option ℕ) → (o ≡ None → length xs ≡ place_by_text text xs) → option_map suc o ≡ None → suc (length xs) ≡ suc (place_by_text text xs)
    later (Some q) again e = absurd (none_some (suc q) e)
    later None again e = ap suc (again refl)

    by : (t : Bool) → (place_of text (map (λ (n : Name). n.text) xs) ≡ None → length xs ≡ place_by_text text xs)
        → (if t then Some 0 else option_map suc (place_of text (map (λ (n : Name). n.text) xs))) ≡ None → suc (length xs) ≡ (if t then 0 else suc (place_by_text text xs))
    by true again e = absurd (none_some 0 e)
    by false again e = later (place_of text (map (λ (n : Name). n.text) xs)) again e

-- ---- made names differ by their texts
made_place : (n : Name) (names : List Name) → n.made ≡ true → place_by_text n.text (made_of names) ≡ numbers.place_of n (made_of names)
unfolding same_name
made_place n [] m = refl
made_place n (x ∷ xs) m = by x.made refl (made_place n xs m)
  where
    and_true : (b : Bool) → (b && true) ≡ b
    and_true true = refl
    and_true false = refl

    same : x.made ≡ true → same_name x n ≡ bytes_eq x.text n.text
    same k = (λ i. bytes_eq x.text n.text && same_bool (k i) (m i)) ∙ and_true (bytes_eq x.text n.text)

    by : (t : Bool) → x.made ≡ t → place_by_text n.text (made_of xs) ≡ numbers.place_of n (made_of xs) → place_by_text n.text (made_of (x ∷ xs)) ≡ numbers.place_of n (made_of (x ∷ xs))
    by true k e =
        ap (λ u. place_by_text n.text (if u then x ∷ made_of xs else made_of xs)) k
        ∙ (λ i. if sym (same k) i then 0 else suc (e i))
        ∙ ap (λ u. numbers.place_of n (if u then x ∷ made_of xs else made_of xs)) (sym k)
    by false k e =
        ap (λ u. place_by_text n.text (if u then x ∷ made_of xs else made_of xs)) k
        ∙ e
        ∙ ap (λ u. numbers.place_of n (if u then x ∷ made_of xs else made_of xs)) (sym k)

-- so the code's new names are the definition's
pub new_is : (k : ℕ) (names : List Name) → new_name (record { made = made_of names; underscores = k }) ≡ numbered_name k names
new_is k names = fun_ext (λ n. by n n.made refl)
  where
    by : (n : Name) (t : Bool) → n.made ≡ t → new_name (record { made = made_of names; underscores = k }) n ≡ numbered_name k names n
    by n true e =
        ap (λ u. if u then record { text = prefix k ++ decimal (place_by_text n.text (made_of names)); made = false } else n) e
        ∙ ap (λ p. record { text = prefix k ++ decimal p; made = false }) (made_place n names e)
        ∙ ap (λ u. if u then number_of k names n else n) (sym e)
    by n false e =
        ap (λ u. if u then record { text = prefix k ++ decimal (place_by_text n.text (made_of names)); made = false } else n) e
        ∙ ap (λ u. if u then number_of k names n else n) (sym e)

-- ---- the prefix
more : (k : ℕ) → underscores k ++ 95 ∷ [] ≡ underscores (suc k)
more zero = refl
more (suc k) = ap (λ xs. 95 ∷ xs) (more k)

pub prefix_more : (k : ℕ) → prefix k ++ 95 ∷ [] ≡ prefix (k + 1)
prefix_more k = ap (λ xs. codes "copy" ++ xs) (more k) ∙ ap prefix (let e : suc k ≡ k + 1 = omega arith in e)
