-- The names of the module that staging makes are names of the grammar.
use Rattle.std.proofs.Common.{◌≡◌, inl, inr, ◌⊎◌, ℕ, zero, suc, ◌^◌, ◌<◌, ◌≤◌, ℤ, Bool, true, false, List, [], ◌∷◌, ◌++◌, length, map, refl, sym, ap, ◌∙◌, subst, arith}
use Rattle.std.specs.Prelude.{if◌then◌else◌}
use Rattle.std.specs.Char.{is_ascii_digit}
use Rattle.std.specs.Fmt.{decimal}
use Rattle.std.proofs.lemmas.Bool.Decides.{nat_tests}
use Rattle.std.proofs.lemmas.List.{map-append}
use Rattle.affine_expr.specs.declared.map.Set.{Set}
use Rattle.affine_lex.specs.Tokens.{IsId, IsDigits}
use Rattle.affine_ast.specs.declared.module.Arg.{Arg}
use Rattle.affine_ast.specs.declared.name.Name.{Name}
use Rattle.affine_ast.specs.declared.types.Bound.{Bound}
use Rattle.affine_ast.specs.Names.{same_name}
use Rattle.affine_ast.specs.Nest.{Plain, Nest, Nothing, Loop, Branch, Does, Value, Load, Store, RawLoad, RawStore, Constant, Binary, Cast, Alloc, Dealloc, Start, Wait, Return}
use Rattle.affine_ast.specs.Parts.{results_of}
use Rattle.placement_texts.specs.Fold.{Step, staged_all}
use Rattle.placement_texts.specs.Renamed.{plain_named, named}
use Rattle.placement_texts.specs.Spots.{found}
use Rattle.placement_texts.specs.Template.{Placement, fast_type, fast_name, in_fast, begins, redirect}
use Rattle.plan_laws.specs.Sites.{lined}
use Rattle.printed_texts.specs.Writable.{IsWritten, AllWritten}
use Rattle.printed_texts.proofs.Marks.{decimal_digits}
use Rattle.printed_texts.proofs.Pieces.{is_id_byte}
use Rattle.normal_texts.specs.Texts.{normal_plain, normal_text}
use Rattle.numbered_names.specs.Numbers.{defined, made_of, place_of, underscores, number_of, numbered_name, numbered_arg}
use Rattle.numbered_names.proofs.Apart.{made_fewer}
use Rattle.stage_texts.specs.Shape.{Each}
use Rattle.stage_texts.proofs.Staged.{HoldsOf, each_staged}

-- ---- one name
digit_id : (b : ℕ) → is_ascii_digit b ≡ true → is_id_byte b ≡ true
digit_id b h = grind (arith, nat_tests)

-- letters, digits and underscores may follow a letter
digits_in : (w : List ℕ) → IsDigits (48 ∷ w) → IsId (97 ∷ w)
digits_in [] h = (refl, tt)
digits_in (b ∷ w) h = (refl, (digit_id b h.1.0, (digits_in w (refl, h.1.1)).1))

digits_are : (w : List ℕ) → IsDigits w → IsId (97 ∷ w)
digits_are [] h = absurd h
digits_are (b ∷ w) h = digits_in (b ∷ w) (refl, h)

underscores_in : (k : ℕ) (w : List ℕ) → IsId (97 ∷ w) → IsId (97 ∷ underscores k ++ w)
underscores_in zero w h = h
underscores_in (suc k) w h = (refl, (refl, (underscores_in k w h).1))

pub number_written : (k : ℕ) (names : List Name) (n : Name) → place_of n (made_of names) < 2 ^ 64 → IsWritten (number_of k names n)
number_written k names n few = record {
  made = refl;
  form = inl (refl, (refl, (refl, (refl, (underscores_in k (decimal (place_of n (made_of names))) (digits_are (decimal (place_of n (made_of names))) (decimal_digits (place_of n (made_of names)) few))).1))));
}

place_most : (n : Name) (xs : List Name) → place_of n xs ≤ length xs
place_most n [] = omega arith
place_most n (x ∷ xs) = by (same_name x n) (place_most n xs)
  where
    by : (t : Bool) → place_of n xs ≤ length xs → (if t then 0 else suc (place_of n xs)) ≤ suc (length xs)
    by true h = omega arith
    by false h = omega (arith, h)

-- ---- names of a text, or made ones
abbrev pub Fine : Name → Type 0
Fine n = (n.made ≡ true) ⊎ IsWritten n

abbrev pub AllFine : List Name → Type 0
AllFine [] = Unit {0}
AllFine (n ∷ ns) = Fine n × AllFine ns

pub all_fine : (ns : List Name) → AllWritten ns → AllFine ns
all_fine [] h = tt
all_fine (n ∷ ns) h = (inr h.0, all_fine ns h.1)

fine_join : (xs ys : List Name) → AllFine xs → AllFine ys → AllFine (xs ++ ys)
fine_join [] ys h k = k
fine_join (x ∷ xs) ys h k = (h.0, fine_join xs ys h.1 k)

fine_parts : (xs ys : List Name) → AllFine (xs ++ ys) → AllFine xs × AllFine ys
fine_parts [] ys h = (tt, h)
fine_parts (x ∷ xs) ys h = let k = fine_parts xs ys h.1 in ((h.0, k.0), k.1)

module _ (k : ℕ) (names : List Name) (few : length names < 2 ^ 64) where
  numbered_written : (n : Name) → Fine n → IsWritten (numbered_name k names n)
  numbered_written n (inl h) =
      let p = place_most n (made_of names) in
      let q = made_fewer names in
      subst (λ t. IsWritten (if t then number_of k names n else n)) (sym h) (number_written k names n (omega (arith, p, q, few)))
  numbered_written n (inr h) = subst (λ t. IsWritten (if t then number_of k names n else n)) (sym h.made) h

  pub all_numbered : (ns : List Name) → AllFine ns → AllWritten (map (numbered_name k names) ns)
  all_numbered [] h = tt
  all_numbered (n ∷ ns) h = (numbered_written n h.0, all_numbered ns h.1)

-- ---- what a text defines
abbrev NamesOfPlain : Plain → Type 0
NamesOfPlain p = AllFine (results_of p)

abbrev NamesOfLoop : Name → Bound → Bound → ℤ → Type 0
NamesOfLoop v l u s = Fine v

abbrev NamesOfBranch : Set → List Name → Type 0
NamesOfBranch set names = Unit {0}

abbrev DefinesFine : Nest → Type 0
DefinesFine = Each NamesOfPlain NamesOfLoop NamesOfBranch

of_defined : (n : Nest) → AllFine (defined n) → DefinesFine n
unfolding defined
of_defined Nothing h = tt
of_defined (Loop line v l u s body rest) h = let k = fine_parts (defined body) (defined rest) h.1 in (h.0, of_defined body k.0, of_defined rest k.1)
of_defined (Branch line set names first has other rest) h =
    let k = fine_parts (defined first) (defined other ++ defined rest) h in
    let j = fine_parts (defined other) (defined rest) k.1 in
    (tt, of_defined first k.0, of_defined other j.0, of_defined rest j.1)
of_defined (Does line p rest) h = let k = fine_parts (results_of p) (defined rest) h in (k.0, of_defined rest k.1)

to_defined : (n : Nest) → DefinesFine n → AllFine (defined n)
unfolding defined
to_defined Nothing h = tt
to_defined (Loop line v l u s body rest) h = (h.0, fine_join (defined body) (defined rest) (to_defined body h.1) (to_defined rest h.2))
to_defined (Branch line set names first has other rest) h = fine_join (defined first) (defined other ++ defined rest) (to_defined first h.1) (fine_join (defined other) (defined rest) (to_defined other h.2) (to_defined rest h.3))
to_defined (Does line p rest) h = fine_join (results_of p) (defined rest) h.0 (to_defined rest h.1)

either : (t : Bool) (x y : Plain) → NamesOfPlain x → NamesOfPlain y → NamesOfPlain (if t then x else y)
either true x y h k = h
either false x y h k = k

redirected_fine : (p : Placement) (q : Plain) → NamesOfPlain q → NamesOfPlain (redirect p q)
redirected_fine p (Load r m at ty) h = either (same_name p.memref m) (Load r (fast_name p.name) (in_fast (begins p) at) (fast_type p)) (Load r m at ty) h h
redirected_fine p (Store x m at ty) h = either (same_name p.memref m) (Store x (fast_name p.name) (in_fast (begins p) at) (fast_type p)) (Store x m at ty) tt tt
redirected_fine p (Value r pick at) h = h
redirected_fine p (RawLoad r m at ty) h = h
redirected_fine p (RawStore x m at ty) h = h
redirected_fine p (Constant r z ty) h = h
redirected_fine p (Binary r op a b ty) h = h
redirected_fine p (Cast r kind x from to) h = h
redirected_fine p (Alloc r ty) h = h
redirected_fine p (Dealloc m ty) h = h
redirected_fine p (Start a aa b bb t ta n stride types) h = h
redirected_fine p (Wait t at n ty) h = h
redirected_fine p Return h = h

template_fine : (p : Placement) → ((i : ℕ) → (p.name i).made ≡ true) → HoldsOf NamesOfPlain NamesOfPlain (λ q h. h) NamesOfLoop NamesOfBranch p
template_fine p made = record {
  least = λ k d t ts. (inl (made _), tt);
  raised = λ k. (inl (made _), tt);
  placed = λ k d t ts. (inl (made _), tt);
  turn_in = λ k d. inl (made _);
  turn_out = λ k d. inl (made _);
  load_in = (inl (made _), tt);
  store_in = tt;
  load_out = (inl (made _), tt);
  store_out = tt;
  start_in = λ chunks. tt;
  start_out = λ chunks. tt;
  wait = tt;
  constant = λ i k. (inl (made _), tt);
  alloc_fast = (inl (made _), tt);
  alloc_tag = (inl (made _), tt);
  dealloc_fast = tt;
  dealloc_tag = tt;
  redirected = redirected_fine p;
}

abbrev pub AllMade : List Step → Type 0
AllMade [] = Unit {0}
AllMade (x ∷ xs) = ((i : ℕ) → (x.placement.name i).made ≡ true) × AllMade xs

staged_fine : (xs : List Step) (n : Nest) → AllMade xs → DefinesFine n → DefinesFine (staged_all xs n)
staged_fine [] n m h = h
staged_fine (x ∷ xs) n m h = staged_fine xs _ m.1 (each_staged NamesOfPlain NamesOfPlain (λ q h. h) NamesOfLoop NamesOfBranch x.placement (template_fine x.placement m.0) (found x.spot n) n h)

-- with placements, all names that a text defines are fine
pub placed_fine : (xs : List Step) (n : Nest) → AllMade xs → AllFine (defined n) → AllFine (defined (staged_all xs n))
placed_fine xs n m h = to_defined (staged_all xs n) (staged_fine xs n m (of_defined n h))

pub defined_lined : (n : Nest) → defined (lined n) ≡ defined n
unfolding defined
defined_lined Nothing = refl
defined_lined (Loop line v l u s body rest) = λ i. v ∷ defined_lined body i ++ defined_lined rest i
defined_lined (Branch line set names first has other rest) = λ i. defined_lined first i ++ (defined_lined other i ++ defined_lined rest i)
defined_lined (Does line p rest) = λ i. results_of p ++ defined_lined rest i

results_normal : (p : Plain) → results_of (normal_plain p) ≡ results_of p
results_normal (Value r pick at) = refl
results_normal (Load r m at ty) = refl
results_normal (Store x m at ty) = refl
results_normal (RawLoad r m at ty) = refl
results_normal (RawStore x m at ty) = refl
results_normal (Constant r z ty) = refl
results_normal (Binary r op a b ty) = refl
results_normal (Cast r kind x from to) = refl
results_normal (Alloc r ty) = refl
results_normal (Dealloc m ty) = refl
results_normal (Start a aa b bb t ta n stride types) = refl
results_normal (Wait t at n ty) = refl
results_normal Return = refl

pub defined_normal : (n : Nest) → defined (normal_text n) ≡ defined n
unfolding defined
defined_normal Nothing = refl
defined_normal (Loop line v l u s body rest) = λ i. v ∷ defined_normal body i ++ defined_normal rest i
defined_normal (Branch line set names first has other rest) = λ i. defined_normal first i ++ (defined_normal other i ++ defined_normal rest i)
defined_normal (Does line p rest) = λ i. results_normal p i ++ defined_normal rest i

module _ (f : Name → Name) where
  results_named : (q : Plain) → results_of (plain_named f q) ≡ map f (results_of q)
  results_named (Value r pick at) = refl
  results_named (Load r m at ty) = refl
  results_named (Store x m at ty) = refl
  results_named (RawLoad r m at ty) = refl
  results_named (RawStore x m at ty) = refl
  results_named (Constant r z ty) = refl
  results_named (Binary r op x y ty) = refl
  results_named (Cast r kind x from to) = refl
  results_named (Alloc r ty) = refl
  results_named (Dealloc m ty) = refl
  results_named (Start x x_at y y_at t t_at n stride types) = refl
  results_named (Wait t at n ty) = refl
  results_named Return = refl

  pub defined_named : (n : Nest) → defined (named f n) ≡ map f (defined n)
  unfolding defined
  defined_named Nothing = refl
  defined_named (Loop line v l u s body rest) = ap (λ l. f v ∷ l) ((λ i. defined_named body i ++ defined_named rest i) ∙ sym (map-append f (defined body) (defined rest)))
  defined_named (Branch line set names first has other rest) =
      (λ i. defined_named first i ++ (defined_named other i ++ defined_named rest i))
      ∙ ap (λ l. map f (defined first) ++ l) (sym (map-append f (defined other) (defined rest)))
      ∙ sym (map-append f (defined first) (defined other ++ defined rest))
  defined_named (Does line p rest) = (λ i. results_named p i ++ defined_named rest i) ∙ sym (map-append f (results_of p) (defined rest))

  pub args_named : (args : List Arg) → map (λ (arg : Arg). arg.name) (map (numbered_arg f) args) ≡ map f (map (λ (arg : Arg). arg.name) args)
  args_named [] = refl
  args_named (arg ∷ args) = ap (λ l. f arg.name ∷ l) (args_named args)
