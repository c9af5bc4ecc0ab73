-- The parameters of printed maps and sets, and those of a given text.
use Rattle.std.proofs.Common.{◌≡◌, ℕ, zero, suc, ◌+◌, ◌≤◌, ◌<◌, ◌&&◌, ◌^◌, Bool, true, false, if◌then◌else◌, List, [], ◌∷◌, ◌++◌, length, Option, Some, None, decimal, codes, refl, sym, ap, ◌∙◌, subst, append_assoc, length-append, inl, inr, arith}
use Rattle.std.specs.List.{range_with_len}
use Rattle.std.specs.Char.{is_ascii}
use Rattle.std.specs.Str.{bytes_eq}
use Rattle.readers.specs.Languages.{One, Many, none, more, Optional}
use Rattle.affine_ast.specs.declared.name.Name.{Name}
use Rattle.affine_ast.specs.Spelling.{listed, numbered_text, symbols_text, parameters_text}
use Rattle.affine_grammar.specs.declared.words.Scope.{Scope}
use Rattle.affine_grammar.specs.Token.{Tok, sign, fresh, number_of, next, named, all_ascii, is_there}
use Rattle.affine_grammar.specs.Grammar.{Parameter, NextParameter, ParameterList, SymbolList, Params}
use Rattle.affine_grammar.proofs.Names.{string_is}
use Rattle.printed_texts.proofs.Pieces.{ends, Prints, seq, prints_as, in_left, in_right, giving, nothing, no_item, item_then, is_word_first, blank_behind}
use Rattle.printed_texts.proofs.Marks.{word_piece, open_paren, close_paren, open_square, close_square, comma_sign, decimal_digits, suc_no}
use Rattle.printed_texts.proofs.Given.{Given, name_ascii}
use Rattle.printed_texts.proofs.States.{param, params, params_snoc, param_none, symbol_none}
use Rattle.printed_texts.proofs.Leaves.{param_word}
use Rattle.printed_texts.proofs.Lists.{more_text, more_joins}

pub length_params : (letter a n : ℕ) → length (params letter a n) ≡ n
length_params letter a zero = refl
length_params letter a (suc n) = omega (arith, length_params letter (a + 1) n)

-- ---- parameters that are new

pub next_none : (o : Option ℕ) → next o ≡ None → o ≡ None
next_none (Some i) h = absurd cc
next_none None h = refl

none_append : (w : List ℕ) (xs ys : List Name) → number_of w xs ≡ None → number_of w ys ≡ None → number_of w (xs ++ ys) ≡ None
none_append w [] ys a b = b
none_append w (x ∷ xs) ys a b = by_test (λ h. none_append w xs ys h b) (bytes_eq x.text w) refl a
  where
    by_test : (number_of w xs ≡ None → number_of w (xs ++ ys) ≡ None) → (v : Bool) → bytes_eq x.text w ≡ v → (if v then Some 0 else next (number_of w xs)) ≡ None → (if bytes_eq x.text w then Some 0 else next (number_of w (xs ++ ys))) ≡ None
    by_test ih true e h = absurd cc
    by_test ih false e h = ap (λ v. if v then Some 0 else next (number_of w (xs ++ ys))) e ∙ ap next (ih (next_none (number_of w xs) h))

param_named : (letter n : ℕ) → n < 2 ^ 64 → is_ascii letter ≡ true → named (letter ∷ decimal n) ≡ param letter n
param_named letter n h a =
    let e : all_ascii (letter ∷ decimal n) ≡ true = ap (λ v. v && all_ascii (decimal n)) a ∙ name_ascii (decimal n) (inr (decimal_digits n h)) in
    ap (λ (t : List ℕ). let m : Name = record { text = t; made = false } in m) (string_is (letter ∷ decimal n) e)

-- a letter of parameters, and the names before them
pub record Lettered (letter : ℕ) (before : List Name) : Type 0 where
  pub first : is_word_first letter ≡ true
  pub ascii : is_ascii letter ≡ true
  pub word : (n : ℕ) → bytes_eq (letter ∷ decimal n) (codes "memref") ≡ false
  pub new : (n : ℕ) → number_of (letter ∷ decimal n) before ≡ None

dims_lettered : Lettered 100 []
dims_lettered = record { first = refl; ascii = refl; word = λ n. refl; new = λ n. refl }

syms_lettered : (dims : ℕ) → Lettered 115 (params 100 0 dims)
syms_lettered dims = record { first = refl; ascii = refl; word = λ n. refl; new = λ n. symbol_none (decimal n) 0 dims }

module _ (letter : ℕ) (before : List Name) (l : Lettered letter before) where
  parameter_again : (i : ℕ) → i < 2 ^ 64 → Prints true (letter ∷ decimal i) (Parameter before (params letter 0 i)) (params letter 0 i ++ param letter i ∷ [])
  parameter_again i h =
      giving (λ n. params letter 0 i ++ n ∷ []) (word_piece (letter ∷ decimal i) (fresh (before ++ params letter 0 i)) (param letter i) (param_word letter i h l.first (l.word i))
      (λ line column. ap (λ o. if is_there o then None else Some (named (letter ∷ decimal i))) (none_append (letter ∷ decimal i) before (params letter 0 i) (l.new i) (param_none letter 0 i i (omega arith) h))
      ∙ ap (λ m. Some m) (param_named letter i h l.ascii)))

  next_snoc : (i : ℕ) → params letter 0 i ++ param letter i ∷ [] ≡ params letter 0 (i + 1)
  next_snoc i =
      let e : 0 + i ≡ i = omega arith in
      let q : suc i ≡ i + 1 = omega arith in
      ap (λ m. params letter 0 i ++ param letter m ∷ []) (sym e) ∙ sym (params_snoc letter 0 i) ∙ ap (λ m. params letter 0 m) q

  parameters_again : (k i : ℕ) → i + k < 2 ^ 64 → Prints true (more_text (λ n. letter ∷ decimal n) (range_with_len i k)) (Many (NextParameter before) (params letter 0 i)) (params letter 0 (i + k))
  parameters_again zero i h = let e : i ≡ i + 0 = omega arith in subst (λ m. Prints true [] (Many (NextParameter before) (params letter 0 i)) (params letter 0 m)) e (no_item (params letter 0 i))
  parameters_again (suc k) i h =
      let f : ℕ → List ℕ = λ n. letter ∷ decimal n in
      let x : Prints true (codes ", " ++ f i) (NextParameter before (params letter 0 i)) (params letter 0 (i + 1)) =
      subst (λ v. Prints true (codes ", " ++ f i) (NextParameter before (params letter 0 i)) v) (next_snoc i) (seq (blank_behind comma_sign) tt (parameter_again i (omega (arith, h)))) in
      let e : i + 1 + k ≡ i + suc k = omega arith in
      let y : Prints true (more_text f (range_with_len (i + 1) k)) (Many (NextParameter before) (params letter 0 (i + 1))) (params letter 0 (i + suc k)) =
      subst (λ m. Prints true (more_text f (range_with_len (i + 1) k)) (Many (NextParameter before) (params letter 0 (i + 1))) (params letter 0 m)) e (parameters_again k (i + 1) (omega (arith, h))) in
      item_then {L = NextParameter before} {b = params letter 0 i} {c = params letter 0 (i + 1)} {d = params letter 0 (i + suc k)} x (more_joins f (range_with_len (i + 1) k)) y

  -- all parameters, and the sign that closes them
  pub parameter_list_again : (close n : ℕ) → n < 2 ^ 64 → Prints false (close ∷ []) (One (sign close)) tt → ((r : List ℕ) → ends (close ∷ r) ≡ true) → Prints false (listed (λ n. letter ∷ decimal n) (range_with_len 0 n) ++ close ∷ []) (ParameterList close before) (params letter 0 n)
  unfolding listed
  parameter_list_again close zero h c e = in_left (giving (λ _. []) c)
  parameter_list_again close (suc n) h c e =
      let f : ℕ → List ℕ = λ n. letter ∷ decimal n in
      let q : 0 + 1 + n ≡ suc n = omega arith in
      let z : 0 + 1 ≡ 1 = omega arith in
      let first : Prints true (f 0) (Parameter before []) (params letter 0 1) = parameter_again 0 (omega arith) in
      let rest : Prints true (more_text f (range_with_len (0 + 1) n)) (Many (NextParameter before) (params letter 0 1)) (params letter 0 (suc n)) =
      subst (λ m. Prints true (more_text f (range_with_len (0 + 1) n)) (Many (NextParameter before) (params letter 0 1)) (params letter 0 m)) q (parameters_again n 1 (omega (arith, h))) in
      in_right (seq (seq first (more_joins f (range_with_len (0 + 1) n)) rest) (λ r i. e r) (giving (λ _. params letter 0 (suc n)) c))

-- ---- the parameters of a map or set

abbrev pub scope_of : ℕ → ℕ → Scope
scope_of dims syms = record { dims = params 100 0 dims; syms = params 115 0 syms }

symbols_again : (dims syms : ℕ) → syms < 2 ^ 64 → Prints false (symbols_text syms) (Optional (SymbolList (params 100 0 dims)) []) (params 115 0 syms)
unfolding symbols_text numbered_text
symbols_again dims zero h = in_right (nothing [])
symbols_again dims (suc n) h =
    let t : List ℕ = codes "[" ++ (numbered_text (codes "s") (suc n) ++ codes "]") in
    let p : Prints false t (Optional (SymbolList (params 100 0 dims)) []) (params 115 0 (suc n)) = in_left (seq open_square tt (parameter_list_again 115 (params 100 0 dims) (syms_lettered dims) 93 (suc n) h close_square (λ r. refl))) in
    prints_as p (sym (ap (λ b. if b then [] else t) (suc_no n)))

pub params_again : (dims syms : ℕ) → dims < 2 ^ 64 → syms < 2 ^ 64 → Prints false (parameters_text dims syms) Params (scope_of dims syms)
unfolding parameters_text numbered_text
params_again dims syms d s =
    let p : Prints false (numbered_text (codes "d") dims ++ codes ")") (ParameterList 41 []) (params 100 0 dims) = parameter_list_again 100 [] dims_lettered 41 dims d close_paren (λ r. refl) in
    prints_as (seq open_paren tt (seq p tt (giving (λ syms. record { dims = params 100 0 dims; syms = syms }) (symbols_again dims syms s)))) (ap (λ l. 40 ∷ l) (append_assoc (numbered_text (codes "d") dims) (codes ")") (symbols_text syms)))

-- ---- the parameters of a given text

-- a list of parameters has no more names than tokens
names_told : (before b c : List Name) (f : List Tok) → Many (NextParameter before) b f c → length c ≤ length b + length f
names_told before b c f (none _ _ p) = omega arith
names_told before b c f (more _ d _ _ left right p i m) =
    let r = names_told before d c right m in
    let q = i.second in
    omega (arith, r, ap (λ (l : List Name). length l) q.second.1, length-append b (q.value ∷ []), ap (λ (l : List Tok). length l) p, length-append left right, ap (λ (l : List Tok). length l) i.parts, length-append i.left i.right, ap (λ (l : List Tok). length l) i.first.alone)

list_names : (close : ℕ) (before c : List Name) (f : List Tok) → ParameterList close before f c → length c ≤ length f
list_names close before c f (inl h) = omega (arith, ap (λ (l : List Name). length l) h.second.1)
list_names close before c f (inr h) =
    let i = h.first in
    let p = i.first in
    let r = names_told before i.value h.value i.right i.second in
    omega (
      arith,
      r,
      ap (λ (l : List Name). length l) h.second.second.1,
      ap (λ (l : List Tok). length l) h.parts,
      length-append h.left h.right,
      ap (λ (l : List Tok). length l) i.parts,
      length-append i.left i.right,
      ap (λ (l : List Name). length l) p.second.1,
      ap (λ (l : List Tok). length l) p.parts,
      length-append p.left p.right,
      ap (λ (l : List Tok). length l) p.first.alone,
    )

-- the parameters can be numbered
pub record FewNames (names : Scope) : Type 0 where
  pub dims : length names.dims < 2 ^ 64
  pub syms : length names.syms < 2 ^ 64

symbol_names : (dims c : List Name) (f : List Tok) → Optional (SymbolList dims) [] f c → length c ≤ length f
symbol_names dims c f (inl h) = omega (arith, list_names 93 dims c h.right h.second, ap (λ (l : List Tok). length l) h.parts, length-append h.left h.right)
symbol_names dims c f (inr h) = omega (arith, ap (λ (l : List Name). length l) h.1)

pub params_told : (f : List Tok) (names : Scope) → Given f → Params f names → FewNames names
params_told f names g h =
    let i = h.second in
    let s = i.second in
    let d = list_names 41 [] i.value i.left i.first in
    let y = symbol_names i.value s.value s.left s.first in
    let e1 = ap (λ (l : List Tok). length l) h.parts in
    let e2 = ap (λ (l : List Tok). length l) i.parts in
    let e3 = ap (λ (l : List Tok). length l) s.parts in
    subst FewNames (sym s.second.1) (record {
      dims = omega (arith, g.few, d, e1, e2, length-append h.left h.right, length-append i.left i.right);
      syms = omega (arith, g.few, y, e1, e2, e3, length-append h.left h.right, length-append i.left i.right, length-append s.left s.right);
    })
