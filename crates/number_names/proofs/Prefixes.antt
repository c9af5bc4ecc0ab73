-- As many underscores as the name that needs most make the prefix.
use Rattle.std.proofs.Common.{◌≡◌, ◌≢◌, ◌⊎◌, inl, inr, ℕ, zero, suc, ◌+◌, ◌<◌, ◌≤◌, List, [], ◌∷◌, ◌++◌, drop, take, length, refl, sym, ap, ◌∙◌, subst, arith, Bool, true, false}
use Rattle.std.specs.Prelude.{◌&&◌, ◌||◌, not, nat_eq, nat_lt, if◌then◌else◌, codes}
use Rattle.std.specs.List.{list_any, starts_with}
use Rattle.std.proofs.lemmas.Bool.{and_parts, ltb-true, eq-eqb, eqb-true}
use Rattle.affine_ast.specs.declared.name.Name.{Name}
use Rattle.numbered_names.specs.Numbers.{prefix, underscores, begins, IsPrefix}
use Rattle.number_names.specs.Underscores.{run, needed, greater, most_from, most}

no_bool : true ≢ false
no_bool e = cc

eq_swap : (c : ℕ) → nat_eq 95 c ≡ nat_eq c 95
eq_swap c = by (nat_eq 95 c) (nat_eq c 95) refl refl
  where
    by : (t u : Bool) → nat_eq 95 c ≡ t → nat_eq c 95 ≡ u → nat_eq 95 c ≡ nat_eq c 95
    by true true t u = t ∙ sym u
    by false false t u = t ∙ sym u
    by true false t u = absurd (no_bool (sym (eq-eqb c 95 (sym (eqb-true 95 c t))) ∙ u))
    by false true t u = absurd (no_bool (sym (eq-eqb 95 c (sym (eqb-true c 95 u))) ∙ t))

-- a text begins with so many underscores where it has a run of as many
runs : (j : ℕ) (text : List ℕ) → j ≤ run text → starts_with nat_eq text (underscores j) ≡ true
runs zero text h = refl
runs (suc j) [] h = absurd (omega (arith, h))
runs (suc j) (c ∷ cs) h = by (nat_eq c 95) refl h (runs j cs)
  where
    by : (t : Bool) → nat_eq c 95 ≡ t → suc j ≤ (if t then suc (run cs) else 0) → (j ≤ run cs → starts_with nat_eq cs (underscores j) ≡ true) → (nat_eq 95 c && starts_with nat_eq cs (underscores j)) ≡ true
    by true e h again = ap (λ t. t && starts_with nat_eq cs (underscores j)) (eq_swap c ∙ e) ∙ again (omega (arith, h))
    by false e h again = absurd (omega (arith, h))

run_least : (j : ℕ) (text : List ℕ) → starts_with nat_eq text (underscores j) ≡ true → j ≤ run text
run_least zero text h = omega arith
run_least (suc j) [] h = absurd (no_bool (sym h))
run_least (suc j) (c ∷ cs) h = by (nat_eq c 95) refl (and_parts (nat_eq 95 c) (starts_with nat_eq cs (underscores j)) h) (run_least j cs)
  where
    by : (t : Bool) → nat_eq c 95 ≡ t → (nat_eq 95 c ≡ true) × (starts_with nat_eq cs (underscores j) ≡ true) → (starts_with nat_eq cs (underscores j) ≡ true → j ≤ run cs) → suc j ≤ (if t then suc (run cs) else 0)
    by true e two again = let k = again two.1 in omega (arith, k)
    by false e two again = absurd (no_bool (sym two.0 ∙ eq_swap c ∙ e))

-- the beginning in two parts
in_parts : (xs ys text : List ℕ) → starts_with nat_eq text (xs ++ ys) ≡ (starts_with nat_eq text xs && starts_with nat_eq (drop (length xs) text) ys)
in_parts [] ys text = refl
in_parts (x ∷ xs) ys [] = refl
in_parts (x ∷ xs) ys (c ∷ cs) = ap (λ t. nat_eq x c && t) (in_parts xs ys cs) ∙ assoc (nat_eq x c) (starts_with nat_eq cs xs)
  where
    assoc : (a b : Bool) → (a && (b && starts_with nat_eq (drop (length xs) cs) ys)) ≡ ((a && b) && starts_with nat_eq (drop (length xs) cs) ys)
    assoc true b = refl
    assoc false b = refl

-- ---- one name
module _ (j : ℕ) (n : Name) where
  abbrev copies : Bool
  copies = starts_with nat_eq n.text (codes "copy")

  abbrev rest : List ℕ
  rest = drop 4 n.text

  begins_is : begins (prefix j) n ≡ (not n.made && (copies && starts_with nat_eq rest (underscores j)))
  begins_is = ap (λ t. not n.made && t) (in_parts (codes "copy") (underscores j) n.text)

  begins_needed : begins (prefix j) n ≡ true → j < needed n
  begins_needed h = by n.made copies (sym begins_is ∙ h)
    where
      by : (t u : Bool) → (not t && (u && starts_with nat_eq rest (underscores j))) ≡ true → j < (if t then 0 else (if u then suc (run rest) else 0))
      by true u e = absurd (no_bool (sym e))
      by false false e = absurd (no_bool (sym e))
      by false true e = let k = run_least j rest e in omega (arith, k)

  needed_begins : j < needed n → begins (prefix j) n ≡ true
  needed_begins h = begins_is ∙ by n.made copies h
    where
      by : (t u : Bool) → j < (if t then 0 else (if u then suc (run rest) else 0)) → (not t && (u && starts_with nat_eq rest (underscores j))) ≡ true
      by true u e = absurd (omega (arith, e))
      by false false e = absurd (omega (arith, e))
      by false true e = runs j rest (omega (arith, e))

-- ---- all of them
greater_is : (k : ℕ) (n : Name) → (k ≤ greater k n) × (needed n ≤ greater k n)
greater_is k n = by (nat_lt k (needed n)) refl
  where
    by : (t : Bool) → nat_lt k (needed n) ≡ t → (k ≤ (if t then needed n else k)) × (needed n ≤ (if t then needed n else k))
    by true e = let h = ltb-true k (needed n) e in (omega (arith, h), omega arith)
    by false e = let h : needed n ≤ k = grind (arith, e) in (omega arith, h)

most_grows : (k : ℕ) (ns : List Name) → k ≤ most_from k ns
most_grows k [] = omega arith
most_grows k (n ∷ ns) = let a = (greater_is k n).0 in let b = most_grows (greater k n) ns in omega (arith, a, b)

free_from : (k top : ℕ) (ns : List Name) → most_from k ns ≤ top → list_any (begins (prefix top)) ns ≡ false
free_from k top [] h = refl
free_from k top (n ∷ ns) h = (λ i. one (begins (prefix top) n) refl i || free_from (greater k n) top ns h i)
  where
    one : (t : Bool) → begins (prefix top) n ≡ t → begins (prefix top) n ≡ false
    one true e =
        let a = begins_needed top n e in
        let b = (greater_is k n).1 in
        let c = most_grows (greater k n) ns in
        absurd (omega (arith, a, b, c, h))
    one false e = e

least_from : (k j : ℕ) (ns : List Name) → k ≤ j → j < most_from k ns → list_any (begins (prefix j)) ns ≡ true
least_from k j [] low h = absurd (omega (arith, low, h))
least_from k j (n ∷ ns) low h = by (nat_lt j (greater k n)) refl (λ low. least_from (greater k n) j ns low h)
  where
    right : (b : Bool) → (b || true) ≡ true
    right true = refl
    right false = refl

    is_needed : (t : Bool) → nat_lt k (needed n) ≡ t → j < (if t then needed n else k) → j < needed n
    is_needed true e lt = lt
    is_needed false e lt = absurd (omega (arith, low, lt))

    by : (t : Bool) → nat_lt j (greater k n) ≡ t → (greater k n ≤ j → list_any (begins (prefix j)) ns ≡ true) → (begins (prefix j) n || list_any (begins (prefix j)) ns) ≡ true
    by true e again = ap (λ b. b || list_any (begins (prefix j)) ns) (needed_begins j n (is_needed (nat_lt k (needed n)) refl (ltb-true j (greater k n) e)))
    by false e again = ap (λ b. begins (prefix j) n || b) (again (let h : greater k n ≤ j = grind (arith, e) in h)) ∙ right (begins (prefix j) n)

pub is_prefix : (names : List Name) → IsPrefix (most names) names
is_prefix names = record {
  free = free_from 0 (most names) names (omega arith);
  least = λ j less. least_from 0 j names (omega arith) less;
}
