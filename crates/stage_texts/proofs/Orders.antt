-- The operands of subscripts with their dimensions numbered by first appearance: none stands twice, where none did.
use Rattle.std.proofs.Common.{◌≡◌, ℕ, zero, suc, ◌+◌, ◌<◌, Bool, true, false, List, [], ◌∷◌, ◌++◌, length, map, take, drop, refl, sym, ap, ◌∙◌, subst, arith}
use Rattle.std.specs.Prelude.{◌||◌, nat_eq, flat_map, slice_index_or, if◌then◌else◌}
use Rattle.std.specs.List.{list_all}
use Rattle.std.proofs.lemmas.Bool.{and_parts, eqb-true, eq-eqb}
use Rattle.std.proofs.lemmas.List.{length-map, length-take, take-append-drop}
use Rattle.affine_expr.specs.declared.expr.Expr.{Expr}
use Rattle.affine_expr.specs.Pure.{has_leaves_below}
use Rattle.affine_ast.specs.declared.name.Name.{Name}
use Rattle.affine_ast.specs.Names.{same_name}
use Rattle.affine_ast.specs.Rules.{map_fits}
use Rattle.affine_ast.proofs.Names.{same_name-eq, same_name-is}
use Rattle.boxes.specs.Every.{Every}
use Rattle.numbered_names.proofs.Apart.{is_one_of}
use Rattle.placement_texts.specs.Normal.{dims_of, has, firsts, no_name, first_order}
use Rattle.placement_texts.proofs.Normal.{dims_below}
use Rattle.placement_texts.proofs.Subscripts.{take_all}
use Rattle.stage_texts.specs.Distinct.{AreDistinct, NormalIsDistinct}

-- ---- numbers
abbrev Apart : List ℕ → Type 0
Apart [] = Unit {0}
Apart (n ∷ ns) = (has n ns ≡ false) × Apart ns

has_both : (n m : ℕ) (xs : List ℕ) → has n xs ≡ false → nat_eq n m ≡ false → has n (xs ++ m ∷ []) ≡ false
has_both n m [] h e = ap (λ t. if t then true else false) e
has_both n m (x ∷ xs) h e = by (nat_eq n x) h (has_both n m xs)
  where
    by : (t : Bool) → (if t then true else has n xs) ≡ false → (has n xs ≡ false → nat_eq n m ≡ false → has n (xs ++ m ∷ []) ≡ false) → (if t then true else has n (xs ++ m ∷ [])) ≡ false
    by true h r = h
    by false h r = r h e

other_way : (n m : ℕ) → nat_eq n m ≡ false → nat_eq m n ≡ false
other_way n m e = grind (arith, e)

not_first : (n x : ℕ) (xs : List ℕ) → has n (x ∷ xs) ≡ false → (nat_eq n x ≡ false) × (has n xs ≡ false)
not_first n x xs h = by (nat_eq n x) h
  where
    by : (t : Bool) → (if t then true else has n xs) ≡ false → (t ≡ false) × (has n xs ≡ false)
    by true h = absurd (let z : ⊥ = cc in z)
    by false h = (refl, h)

apart_more : (xs : List ℕ) (n : ℕ) → Apart xs → has n xs ≡ false → Apart (xs ++ n ∷ [])
apart_more [] n a h = (refl, tt)
apart_more (x ∷ xs) n a h = let k = not_first n x xs h in (has_both x n xs a.0 (other_way n x k.0), apart_more xs n a.1 k.1)

firsts_apart : (seen ns : List ℕ) → Apart seen → Apart (firsts seen ns)
firsts_apart seen [] a = a
firsts_apart seen (n ∷ ns) a = by (has n seen) refl (λ next h. firsts_apart next ns h)
  where
    by : (t : Bool) → has n seen ≡ t → ((next : List ℕ) → Apart next → Apart (firsts next ns)) → Apart (firsts (if t then seen else seen ++ n ∷ []) ns)
    by true e r = r seen a
    by false e r = r (seen ++ n ∷ []) (apart_more seen n a e)

every_more : (P : ℕ → Type 0) (xs : List ℕ) (n : ℕ) → Every P xs → P n → Every P (xs ++ n ∷ [])
every_more P [] n h k = (k, tt)
every_more P (x ∷ xs) n h k = (h.0, every_more P xs n h.1 k)

firsts_every : (P : ℕ → Type 0) (seen ns : List ℕ) → Every P seen → Every P ns → Every P (firsts seen ns)
firsts_every P seen [] h k = h
firsts_every P seen (n ∷ ns) h k = by (has n seen) (λ next h. firsts_every P next ns h k.1)
  where
    by : (t : Bool) → ((next : List ℕ) → Every P next → Every P (firsts next ns)) → Every P (firsts (if t then seen else seen ++ n ∷ []) ns)
    by true r = r seen h
    by false r = r (seen ++ n ∷ []) (every_more P seen n h k.0)

every_join : (P : ℕ → Type 0) (xs ys : List ℕ) → Every P xs → Every P ys → Every P (xs ++ ys)
every_join P [] ys h k = k
every_join P (x ∷ xs) ys h k = (h.0, every_join P xs ys h.1 k)

all_below : (d s : ℕ) (es : List Expr) → list_all (has_leaves_below d s) es ≡ true → Every (λ n. n < d) (flat_map dims_of es)
all_below d s [] h = tt
all_below d s (e ∷ es) h = let two = and_parts (has_leaves_below d s e) (list_all (has_leaves_below d s) es) h in every_join _ (dims_of e) (flat_map dims_of es) (dims_below d s e two.0) (all_below d s es two.1)

-- ---- names
one_at : (xs : List Name) (j : ℕ) (n : Name) → j < length xs → same_name (slice_index_or xs j no_name) n ≡ true → is_one_of xs n ≡ true
one_at [] j n l h = absurd (omega (arith, l))
one_at (x ∷ xs) zero n l h = ap (λ t. t || is_one_of xs n) h
one_at (x ∷ xs) (suc j) n l h = ap (λ t. same_name x n || t) (one_at xs j n (omega (arith, l)) h) ∙ right (same_name x n)
  where
    right : (t : Bool) → (t || true) ≡ true
    right true = refl
    right false = refl

at_left : (xs ys : List Name) (j : ℕ) → j < length xs → slice_index_or (xs ++ ys) j no_name ≡ slice_index_or xs j no_name
at_left [] ys j l = absurd (omega (arith, l))
at_left (x ∷ xs) ys zero l = refl
at_left (x ∷ xs) ys (suc j) l = at_left xs ys j (omega (arith, l))

both_at : (x : Name) (xs : List Name) (j : ℕ) → j < length xs → is_one_of xs x ≡ false → same_name (slice_index_or xs j no_name) x ≡ true → true ≡ false
both_at x xs j l h s = sym (one_at xs j x l s) ∙ h

turned : (a b : Name) → same_name a b ≡ true → same_name b a ≡ true
turned a b s = same_name-is b a (sym (same_name-eq a b s))

no : true ≡ false → ⊥
no e = cc

tells : (xs : List Name) (i j : ℕ) → AreDistinct xs → i < length xs → j < length xs → same_name (slice_index_or xs i no_name) (slice_index_or xs j no_name) ≡ true → i ≡ j
tells [] i j h a b s = absurd (omega (arith, a))
tells (x ∷ xs) zero zero h a b s = refl
tells (x ∷ xs) zero (suc j) h a b s = absurd (no (both_at x xs j (omega (arith, b)) h.0 (turned x (slice_index_or xs j no_name) s)))
tells (x ∷ xs) (suc i) zero h a b s = absurd (no (both_at x xs i (omega (arith, a)) h.0 s))
tells (x ∷ xs) (suc i) (suc j) h a b s = ap suc (tells xs i j h.1 (omega (arith, a)) (omega (arith, b)) s)

module _ (xs ys : List Name) (h : AreDistinct xs) where
  abbrev at_number : ℕ → Name
  at_number n = slice_index_or (xs ++ ys) n no_name

  not_there : (ns : List ℕ) (n : ℕ) → n < length xs → Every (λ m. m < length xs) ns → has n ns ≡ false → is_one_of (map at_number ns) (at_number n) ≡ false
  not_there [] n l e k = refl
  not_there (m ∷ ns) n l e k = by (same_name (at_number m) (at_number n)) refl (not_there ns n l e.1 (not_first n m ns k).1)
    where
      by : (t : Bool) → same_name (at_number m) (at_number n) ≡ t → is_one_of (map at_number ns) (at_number n) ≡ false → (t || is_one_of (map at_number ns) (at_number n)) ≡ false
      by true s r =
          let same : m ≡ n = tells xs m n h e.0 l (sym (λ i. same_name (at_left xs ys m e.0 i) (at_left xs ys n l i)) ∙ s) in
          absurd (no (sym (eq-eqb n m (sym same)) ∙ (not_first n m ns k).0))
      by false s r = r

  all_distinct : (ns : List ℕ) → Every (λ m. m < length xs) ns → Apart ns → AreDistinct (map at_number ns)
  all_distinct [] e a = tt
  all_distinct (n ∷ ns) e a = (not_there ns n e.0 e.1 a.0, all_distinct ns e.1 a.1)

pub normal_distinct : NormalIsDistinct
unfolding map_fits
normal_distinct at fits h =
    let O = first_order at in
    let xs = take at.map.dims at.operands in
    let ys = drop at.map.dims at.operands in
    let two = and_parts (nat_eq (length at.operands) (at.map.dims + at.map.syms)) _ fits in
    let count = eqb-true (length at.operands) (at.map.dims + at.map.syms) two.0 in
    let cut = length-take at.map.dims at.operands in
    let long : length xs ≡ at.map.dims = omega (arith, count, cut) in
    let below = firsts_every (λ n. n < at.map.dims) [] (flat_map dims_of at.map.results) tt (all_below at.map.dims at.map.syms at.map.results two.1) in
    let get = λ (n : ℕ). slice_index_or at.operands n no_name in
    let whole = all_distinct xs ys h O (subst (λ k. Every (λ n. n < k) O) (sym long) below) (firsts_apart [] (flat_map dims_of at.map.results) tt) in
    let named = subst (λ ops. AreDistinct (map (λ n. slice_index_or ops n no_name) O)) (take-append-drop at.map.dims at.operands) whole in
    subst AreDistinct (sym (take_all (map get O) ys (length O) (length-map O get))) named
