-- Names of a module stay apart when its made names get their numbers.
use Rattle.std.proofs.Common.{◌≡◌, ◌≢◌, ℕ, zero, suc, ◌+◌, ◌^◌, ◌<◌, ◌≤◌, List, [], ◌∷◌, ◌++◌, length, refl, sym, ap, ◌∙◌, subst, arith, Bool, true, false}
use Rattle.std.specs.Prelude.{◌&&◌, ◌||◌, not, nat_eq, take, if◌then◌else◌}
use Rattle.std.specs.Fmt.{decimal}
use Rattle.std.specs.List.{list_any, starts_with}
use Rattle.std.proofs.lemmas.Fmt.{decimal_injective}
use Rattle.std.proofs.lemmas.List.{append_cancel_left}
use Rattle.std.proofs.lemmas.Bool.{eq-eqb}
use Rattle.affine_ast.specs.declared.name.Name.{Name}
use Rattle.affine_ast.specs.Names.{same_name}
use Rattle.affine_ast.proofs.Names.{same_name-eq, same_name-refl, same_name-is, same_name-made, same_name-sym}
use Rattle.placement_texts.specs.Renamed.{KeepsApart}
use Rattle.numbered_names.specs.Numbers.{made_of, place_of, prefix, begins, IsPrefix, number_of, numbered_name}

-- whether a name is one of these
abbrev pub is_one_of : List Name → Name → Bool
is_one_of names n = list_any (λ x. same_name x n) names

no_bool : true ≢ false
no_bool e = cc

-- a made name of a list is one of its made names
made_in : (n : Name) (xs : List Name) → n.made ≡ true → is_one_of xs n ≡ true → is_one_of (made_of xs) n ≡ true
made_in n [] m h = h
made_in n (x ∷ xs) m h = by (same_name x n) refl (made_in n xs m) h
  where
    kept : (t : Bool) → (t || is_one_of xs n) ≡ true → t ≡ false → is_one_of xs n ≡ true
    kept true h e = absurd (no_bool e)
    kept false h e = h

    of_one : x.made ≡ true → same_name x n ≡ true → is_one_of (made_of (x ∷ xs)) n ≡ true
    of_one k e = ap (λ t. is_one_of (if t then x ∷ made_of xs else made_of xs) n) k ∙ ap (λ t. t || is_one_of (made_of xs) n) e

    later : (t : Bool) → is_one_of (made_of xs) n ≡ true → is_one_of (if t then x ∷ made_of xs else made_of xs) n ≡ true
    later true h = ap (λ t. same_name x n || t) h ∙ right (same_name x n)
      where
        right : (b : Bool) → (b || true) ≡ true
        right true = refl
        right false = refl
    later false h = h

    by : (t : Bool) → same_name x n ≡ t → (is_one_of xs n ≡ true → is_one_of (made_of xs) n ≡ true) → (same_name x n || is_one_of xs n) ≡ true → is_one_of (made_of (x ∷ xs)) n ≡ true
    by true e again h = of_one (ap (λ (a : Name). a.made) (same_name-eq x n e) ∙ m) e
    by false e again h = later x.made (again (kept (same_name x n) h e))

pub made_fewer : (xs : List Name) → length (made_of xs) ≤ length xs
made_fewer [] = omega arith
made_fewer (x ∷ xs) = by x.made (made_fewer xs)
  where
    by : (t : Bool) → length (made_of xs) ≤ length xs → length (if t then x ∷ made_of xs else made_of xs) ≤ suc (length xs)
    by true k = omega (arith, k)
    by false k = omega (arith, k)

place_within : (n : Name) (xs : List Name) → is_one_of xs n ≡ true → place_of n xs < length xs
place_within n [] h = absurd (let e : false ≡ true = h in cc)
place_within n (x ∷ xs) h = by (same_name x n) (place_within n xs) h
  where
    by : (t : Bool) → (is_one_of xs n ≡ true → place_of n xs < length xs) → (t || is_one_of xs n) ≡ true → (if t then 0 else suc (place_of n xs)) < suc (length xs)
    by true again h = omega arith
    by false again h = let k = again h in omega (arith, k)

-- a name is told by its place
place_tells : (a b : Name) (xs : List Name) → is_one_of xs a ≡ true → place_of a xs ≡ place_of b xs → a ≡ b
place_tells a b [] h e = absurd (let f : false ≡ true = h in cc)
place_tells a b (x ∷ xs) h e = by (same_name x a) (same_name x b) refl refl (place_tells a b xs) h e
  where
    by : (t u : Bool) → same_name x a ≡ t → same_name x b ≡ u → (is_one_of xs a ≡ true → place_of a xs ≡ place_of b xs → a ≡ b) → (t || is_one_of xs a) ≡ true
        → (if t then 0 else suc (place_of a xs)) ≡ (if u then 0 else suc (place_of b xs)) → a ≡ b
    by true true t u again h e = sym (same_name-eq x a t) ∙ same_name-eq x b u
    by true false t u again h e = absurd (omega (arith, e))
    by false true t u again h e = absurd (omega (arith, e))
    by false false t u again h e = again h (omega (arith, e))

-- a text begins with its first bytes
pub begins_with : (xs ys : List ℕ) → starts_with nat_eq (xs ++ ys) xs ≡ true
begins_with [] ys = refl
begins_with (x ∷ xs) ys = ap (λ t. t && starts_with nat_eq (xs ++ ys) xs) (eq-eqb x x refl) ∙ begins_with xs ys

module _ (k : ℕ) (names : List Name) (is : IsPrefix k names) (few : length names < 2 ^ 64) where
  abbrev renamed : Name → Name
  renamed = numbered_name k names

  renamed_made : (n : Name) → n.made ≡ true → renamed n ≡ number_of k names n
  renamed_made n e = ap (λ t. if t then number_of k names n else n) e

  renamed_kept : (n : Name) → n.made ≡ false → renamed n ≡ n
  renamed_kept n e = ap (λ t. if t then number_of k names n else n) e

  -- a name of the text is no number
  not_number : (a b : Name) → b.made ≡ false → is_one_of names b ≡ true → number_of k names a ≢ b
  not_number a b m h e = no_bool (sym (found names h) ∙ is.free)
    where
      begun : begins (prefix k) b ≡ true
      begun = ap (λ t. not t && starts_with nat_eq b.text (prefix k)) m ∙ ap (λ (n : Name). starts_with nat_eq n.text (prefix k)) (sym e) ∙ begins_with (prefix k) (decimal (place_of a (made_of names)))

      found : (xs : List Name) → is_one_of xs b ≡ true → list_any (begins (prefix k)) xs ≡ true
      found [] h = h
      found (x ∷ xs) h = by (same_name x b) refl (found xs) h
        where
          right : (t : Bool) → (t || true) ≡ true
          right true = refl
          right false = refl

          by : (t : Bool) → same_name x b ≡ t → (is_one_of xs b ≡ true → list_any (begins (prefix k)) xs ≡ true) → (t || is_one_of xs b) ≡ true → (begins (prefix k) x || list_any (begins (prefix k)) xs) ≡ true
          by true t again h = ap (λ c. c || list_any (begins (prefix k)) xs) (ap (begins (prefix k)) (same_name-eq x b t) ∙ begun)
          by false t again h = ap (λ c. begins (prefix k) x || c) (again h) ∙ right (begins (prefix k) x)

  numbers_tell : (a b : Name) → a.made ≡ true → b.made ≡ true → is_one_of names a ≡ true → is_one_of names b ≡ true → number_of k names a ≡ number_of k names b → a ≡ b
  numbers_tell a b ma mb ha hb e =
      let text : prefix k ++ decimal (place_of a (made_of names)) ≡ prefix k ++ decimal (place_of b (made_of names)) = ap (λ (n : Name). n.text) e in
      let fewer = made_fewer names in
      let pa = place_within a (made_of names) (made_in a names ma ha) in
      let pb = place_within b (made_of names) (made_in b names mb hb) in
      place_tells a b (made_of names) (made_in a names ma ha)
      (decimal_injective (place_of a (made_of names)) (place_of b (made_of names)) (omega (arith, pa, fewer, few)) (omega (arith, pb, fewer, few)) (append_cancel_left (prefix k) (decimal (place_of a (made_of names))) (decimal (place_of b (made_of names))) text))

  injective : (a b : Name) → is_one_of names a ≡ true → is_one_of names b ≡ true → renamed a ≡ renamed b → a ≡ b
  injective a b ha hb e = by a.made b.made refl refl
    where
      by : (t u : Bool) → a.made ≡ t → b.made ≡ u → a ≡ b
      by true true t u = numbers_tell a b t u ha hb (sym (renamed_made a t) ∙ e ∙ renamed_made b u)
      by true false t u = absurd (not_number a b u hb (sym (renamed_made a t) ∙ e ∙ renamed_kept b u))
      by false true t u = absurd (not_number b a t ha (sym (renamed_made b u) ∙ sym e ∙ renamed_kept a t))
      by false false t u = sym (renamed_kept a t) ∙ e ∙ renamed_kept b u

  pub keeps_apart : KeepsApart renamed (is_one_of names)
  keeps_apart a b ha hb = by (same_name (renamed a) (renamed b)) (same_name a b) refl refl
    where
      by : (t u : Bool) → same_name (renamed a) (renamed b) ≡ t → same_name a b ≡ u → same_name (renamed a) (renamed b) ≡ same_name a b
      by true true t u = t ∙ sym u
      by false false t u = t ∙ sym u
      by true false t u = absurd (no_bool (sym (same_name-is a b (injective a b ha hb (same_name-eq (renamed a) (renamed b) t))) ∙ u))
      by false true t u = absurd (no_bool (sym (same_name-is (renamed a) (renamed b) (ap renamed (same_name-eq a b u))) ∙ t))
