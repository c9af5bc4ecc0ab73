-- What the states of a given text and those of its printed spelling have in common.
use Rattle.std.proofs.Common.{◌≡◌, ℕ, zero, suc, ◌+◌, ◌≤◌, ◌<◌, ◌||◌, ◌^◌, nat_le, Bool, true, false, if◌then◌else◌, List, [], ◌∷◌, ◌++◌, length, Option, Some, None, slice_get, decimal, bytes_eq, refl, sym, ap, ◌∙◌, subst, append_assoc, append-nil, length-append, arith}
use Rattle.std.proofs.lemmas.Bool.Decides.{nat_tests}
use Rattle.std.proofs.lemmas.Slice.Eq.{bytes_eq-Decides}
use Rattle.std.proofs.lemmas.Fmt.{decimal_injective}
use Rattle.affine_ast.specs.declared.name.Name.{Name}
use Rattle.affine_ast.specs.Spelling.{Leaves, parameters, operands}
use Rattle.affine_lex.proofs.Tests.{true_no}
use Rattle.affine_grammar.specs.declared.words.State.{State}
use Rattle.affine_grammar.specs.declared.words.Leaves.{Leaves as LeafKind}
use Rattle.affine_grammar.specs.declared.words.Leaves.TheVariants as leaves
use Rattle.affine_grammar.specs.Token.{named, number_of, next, appears, appearing, counting, is_full}
use Rattle.affine_grammar.proofs.Names.{string_is}
use Rattle.printed_texts.proofs.Given.{name_ascii}
use Rattle.printed_texts.proofs.Marks.{IsValueName}

-- ---- parameters of one letter

abbrev pub param : ℕ → ℕ → Name
param letter n = record { text = letter ∷ decimal n; made = false }

-- so many parameters, numbered from a on
abbrev pub params : ℕ → ℕ → ℕ → List Name
params letter a zero = []
params letter a (suc n) = param letter a ∷ params letter (a + 1) n

pub params_snoc : (letter a n : ℕ) → params letter a (suc n) ≡ params letter a n ++ param letter (a + n) ∷ []
params_snoc letter a zero = let e : a ≡ a + 0 = omega arith in ap (λ m. param letter m ∷ []) e
params_snoc letter a (suc n) =
    let e : a + 1 + n ≡ a + suc n = omega arith in
    ap (λ l. param letter a ∷ l) (params_snoc letter (a + 1) n ∙ ap (λ m. params letter (a + 1) n ++ param letter m ∷ []) e)

pub bytes_same : (w : List ℕ) → bytes_eq w w ≡ true
bytes_same w = (bytes_eq-Decides w w).1 refl

-- a test that would hold of equal texts alone
bytes_other : (v w : List ℕ) → (v ≡ w → ⊥) → bytes_eq v w ≡ false
bytes_other v w n = by_test (bytes_eq v w) refl
  where
    by_test : (b : Bool) → bytes_eq v w ≡ b → bytes_eq v w ≡ false
    by_test true e = absurd (n ((bytes_eq-Decides v w).0 e))
    by_test false e = e

other_digits : (letter a i : ℕ) → a < i → i < 2 ^ 64 → bytes_eq (letter ∷ decimal a) (letter ∷ decimal i) ≡ false
other_digits letter a i l h = bytes_other (letter ∷ decimal a) (letter ∷ decimal i) (λ e. let q : decimal a ≡ decimal i = cc in absurd (omega (arith, l, decimal_injective a i (omega (arith, l, h)) h q)))

pub param_number : (letter a n i j : ℕ) → i ≡ a + j → j < n → i < 2 ^ 64 → number_of (letter ∷ decimal i) (params letter a n) ≡ Some j
param_number letter a zero i j e l h = absurd (omega (arith, l))
param_number letter a (suc n) i zero e l h =
    let q : i ≡ a = omega (arith, e) in
    ap (λ b. if b then Some 0 else next (number_of (letter ∷ decimal i) (params letter (a + 1) n))) (ap (λ m. bytes_eq (letter ∷ decimal a) (letter ∷ decimal m)) q ∙ bytes_same (letter ∷ decimal a))
param_number letter a (suc n) i (suc j) e l h =
    ap (λ b. if b then Some 0 else next (number_of (letter ∷ decimal i) (params letter (a + 1) n))) (other_digits letter a i (omega (arith, e)) h)
    ∙ ap next (param_number letter (a + 1) n i j (omega (arith, e)) (omega (arith, l)) h)

-- a symbol is none of the dimensions
pub symbol_none : (w : List ℕ) (a n : ℕ) → number_of (115 ∷ w) (params 100 a n) ≡ None
symbol_none w a zero = refl
symbol_none w a (suc n) = ap next (symbol_none w (a + 1) n)

pub param_none : (letter a n i : ℕ) → a + n ≤ i → i < 2 ^ 64 → number_of (letter ∷ decimal i) (params letter a n) ≡ None
param_none letter a zero i l h = refl
param_none letter a (suc n) i l h =
    ap (λ b. if b then Some 0 else next (number_of (letter ∷ decimal i) (params letter (a + 1) n))) (other_digits letter a i (omega (arith, l)) h)
    ∙ ap next (param_none letter (a + 1) n i (omega (arith, l)) h)

-- ---- names by their numbers

some_name : (a b : Name) → Some a ≡ Some b → a ≡ b
some_name a b h = cc

-- the name with a number in a list
pub record Numbered (w : List ℕ) (names : List Name) (i : ℕ) : Type 0 where
  pub name : Name
  pub found : slice_get names i ≡ Some name
  pub text : name.text ≡ w
  pub below : i < length names

next_some : (o : Option ℕ) (i : ℕ) → next o ≡ Some i → (j : ℕ) × ((o ≡ Some j) × (i ≡ suc j))
next_some (Some j) i h = let e : i ≡ suc j = cc in (j, (refl, e))
next_some None i h = absurd cc

pub number_of_some : (w : List ℕ) (names : List Name) (i : ℕ) → number_of w names ≡ Some i → Numbered w names i
number_of_some w [] i h = absurd cc
number_of_some w (n ∷ names) i h = by_test (λ j. number_of_some w names j) (bytes_eq n.text w) refl h
  where
    by_test : ((j : ℕ) → number_of w names ≡ Some j → Numbered w names j) → (b : Bool) → bytes_eq n.text w ≡ b → (if b then Some 0 else next (number_of w names)) ≡ Some i → Numbered w (n ∷ names) i
    by_test ih true e q =
        let z : 0 ≡ i = cc in
        subst (λ m. Numbered w (n ∷ names) m) z (record { name = n; found = refl; text = (bytes_eq-Decides n.text w).0 e; below = omega arith })
    by_test ih false e q =
        let p = next_some (number_of w names) i q in
        let r = ih p.0 p.1.0 in
        subst (λ m. Numbered w (n ∷ names) m) (sym p.1.1) (record { name = r.name; found = r.found; text = r.text; below = omega (arith, r.below) })

get_front : (xs ys : List Name) (i : ℕ) (x : Name) → slice_get xs i ≡ Some x → slice_get (xs ++ ys) i ≡ Some x
get_front [] ys i x h = absurd cc
get_front (a ∷ xs) ys zero x h = h
get_front (a ∷ xs) ys (suc i) x h = get_front xs ys i x h

get_behind : (xs ys : List Name) (j : ℕ) → slice_get (xs ++ ys) (length xs + j) ≡ slice_get ys j
get_behind [] ys j = let e : 0 + j ≡ j = omega arith in ap (λ m. slice_get ys m) e
get_behind (a ∷ xs) ys j = let e : length (a ∷ xs) + j ≡ suc (length xs + j) = omega arith in ap (λ m. slice_get (a ∷ (xs ++ ys)) m) e ∙ get_behind xs ys j

numbered_front : (w : List ℕ) (xs ys : List Name) (i : ℕ) → Numbered w xs i → Numbered w (xs ++ ys) i
numbered_front w xs ys i h = record { name = h.name; found = get_front xs ys i h.name h.found; text = h.text; below = omega (arith, h.below, length-append xs ys) }

pub numbered_behind : (w : List ℕ) (xs ys : List Name) (i : ℕ) → Numbered w ys i → Numbered w (xs ++ ys) (length xs + i)
numbered_behind w xs ys i h = record { name = h.name; found = get_behind xs ys i ∙ h.found; text = h.text; below = omega (arith, h.below, length-append xs ys) }

last_numbered : (w : List ℕ) (names : List Name) → IsValueName w → Numbered w (names ++ named w ∷ []) (length names)
last_numbered w names h =
    let e : length names + 0 ≡ length names = omega arith in
    record {
      name = named w;
      found = ap (λ m. slice_get (names ++ named w ∷ []) m) (sym e) ∙ get_behind names (named w ∷ []) 0;
      text = string_is w (name_ascii w h);
      below = omega (arith, length-append names (named w ∷ []));
    }

-- where a value appears: it has a number in what the names become, which go on with those before
pub record Appeared (w : List ℕ) (names : List Name) (p : ℕ × List Name) : Type 0 where
  pub numbered : Numbered w p.1 p.0
  pub more : List Name
  pub parts : p.1 ≡ names ++ more

pub appeared : (w : List ℕ) (names : List Name) → IsValueName w → Appeared w names (appears w names)
appeared w names h = by_case (number_of w names) refl
  where
    by_case : (o : Option ℕ) → number_of w names ≡ o → Appeared w names (appearing o w names)
    by_case (Some i) e = record { numbered = number_of_some w names i e; more = []; parts = sym (append-nil names) }
    by_case None e = record { numbered = last_numbered w names h; more = named w ∷ []; parts = refl }

-- ---- states

-- the names and the number of operands go on from one state to another
pub record Grown (s t : State) : Type 0 where
  pub dims : List Name
  pub dims_are : t.dims ≡ s.dims ++ dims
  pub syms : List Name
  pub syms_are : t.syms ≡ s.syms ++ syms
  pub total : s.total ≤ t.total
  pub kept : s.total ≤ 1048576 → t.total ≤ 1048576

pub grown_same : (s : State) → Grown s s
grown_same s = record { dims = []; dims_are = sym (append-nil s.dims); syms = []; syms_are = sym (append-nil s.syms); total = omega arith; kept = λ h. h }

pub grown_then : (s t u : State) → Grown s t → Grown t u → Grown s u
grown_then s t u a b = record {
  dims = a.dims ++ b.dims;
  dims_are = b.dims_are ∙ ap (λ l. l ++ b.dims) a.dims_are ∙ append_assoc s.dims a.dims b.dims;
  syms = a.syms ++ b.syms;
  syms_are = b.syms_are ∙ ap (λ l. l ++ b.syms) a.syms_are ∙ append_assoc s.syms a.syms b.syms;
  total = omega (arith, a.total, b.total);
  kept = λ h. b.kept (a.kept h);
}

pub numbered_dims : (w : List ℕ) (s t : State) (i : ℕ) → Grown s t → Numbered w s.dims i → Numbered w t.dims i
numbered_dims w s t i g h = subst (λ l. Numbered w l i) (sym g.dims_are) (numbered_front w s.dims g.dims i h)

pub numbered_syms : (w : List ℕ) (s t : State) (i : ℕ) → Grown s t → Numbered w s.syms i → Numbered w t.syms i
numbered_syms w s t i g h = subst (λ l. Numbered w l i) (sym g.syms_are) (numbered_front w s.syms g.syms i h)

pub first_numbered : (w : List ℕ) (xs ys : List Name) (i : ℕ) → Numbered w xs i → Numbered w (xs ++ ys) i
first_numbered w xs ys i h = numbered_front w xs ys i h

-- how the leaves are printed, where the values that a text names are those of the last state
abbrev pub printed_leaves : LeafKind → State → Leaves
printed_leaves leaves.Parameters final = parameters
printed_leaves leaves.Values final = operands (final.dims ++ final.syms) (length final.dims)

-- The state of the printed spelling: it has parameters of its own, and so many operands may stand before
-- it that don't stand before the given text.
abbrev pub moved : LeafKind → ℕ → State → State
moved leaves.Parameters d s = record { operands = s.operands; total = s.total + d; dims = params 100 0 (length s.dims); syms = params 115 0 (length s.syms) }
moved leaves.Values d s = record { operands = s.operands; total = s.total + d; dims = s.dims; syms = s.syms }

-- parameters that can be numbered
abbrev pub Few : LeafKind → State → Type 0
Few leaves.Parameters s = (length s.dims < 2 ^ 64) × (length s.syms < 2 ^ 64)
Few leaves.Values s = Unit {0}

-- there is room for all operands, and there are numbers for all parameters
pub record Room (l : LeafKind) (d : ℕ) (final : State) : Type 0 where
  pub total : final.total + d ≤ 1048576
  pub few : Few l final

-- the parameters stay the same
abbrev pub Fixed : LeafKind → State → State → Type 0
Fixed leaves.Parameters s t = (t.dims ≡ s.dims) × (t.syms ≡ s.syms)
Fixed leaves.Values s t = Unit {0}

pub fixed_counting : (l : LeafKind) (s : State) → Fixed l s (counting s)
fixed_counting leaves.Parameters s = (refl, refl)
fixed_counting leaves.Values s = tt

pub fixed_then : (l : LeafKind) (s t u : State) → Fixed l s t → Fixed l t u → Fixed l s u
fixed_then leaves.Parameters s t u a b = (b.0 ∙ a.0, b.1 ∙ a.1)
fixed_then leaves.Values s t u a b = tt

same_state : (s t : State) → s.operands ≡ t.operands → s.total ≡ t.total → s.dims ≡ t.dims → s.syms ≡ t.syms → s ≡ t
same_state s t a b c d =
    let e : ◌≡◌ {A = State} (record { operands = s.operands; total = s.total; dims = s.dims; syms = s.syms }) (record { operands = t.operands; total = t.total; dims = t.dims; syms = t.syms }) = cc in
    e

pub moved_counting : (l : LeafKind) (d : ℕ) (s : State) → counting (moved l d s) ≡ moved l d (counting s)
moved_counting leaves.Parameters d s = same_state (counting (moved leaves.Parameters d s)) (moved leaves.Parameters d (counting s)) refl (omega arith) refl refl
moved_counting leaves.Values d s = same_state (counting (moved leaves.Values d s)) (moved leaves.Values d (counting s)) refl (omega arith) refl refl

-- ---- limits

or_false : (a b : Bool) → (a || b) ≡ false → (a ≡ false) × (b ≡ false)
or_false true b h = absurd (true_no h)
or_false false b h = (refl, h)

le_false : (a b : ℕ) → nat_le a b ≡ false → b < a
le_false a b h = grind (arith, nat_tests)

not_le : (a b : ℕ) → b < a → nat_le a b ≡ false
not_le a b h = grind (arith, nat_tests)

pub full_by : (operands total : ℕ) → operands < 256 → total < 1048576 → (nat_le 256 operands || nat_le 1048576 total) ≡ false
full_by operands total a b = ap (λ v. v || nat_le 1048576 total) (not_le 256 operands a) ∙ not_le 1048576 total b

pub not_full : (s : State) → is_full s ≡ false → (s.operands < 256) × (s.total < 1048576)
not_full s h = let i = or_false (nat_le 256 s.operands) (nat_le 1048576 s.total) h in (le_false 256 s.operands i.0, le_false 1048576 s.total i.1)

pub moved_not_full : (l : LeafKind) (d : ℕ) (s : State) → s.operands < 256 → s.total + d < 1048576 → is_full (moved l d s) ≡ false
moved_not_full leaves.Parameters d s a b = full_by s.operands (s.total + d) a b
moved_not_full leaves.Values d s a b = full_by s.operands (s.total + d) a b

pub grown_counting : (s : State) → is_full s ≡ false → Grown s (counting s)
grown_counting s h = let i = not_full s h in record { dims = []; dims_are = sym (append-nil s.dims); syms = []; syms_are = sym (append-nil s.syms); total = omega arith; kept = λ k. omega (arith, i.1) }
