-- Uses of maps and sets, and subscripts, are spelled again.
use Rattle.std.proofs.Common.{◌≡◌, ℕ, zero, suc, ◌+◌, ◌≤◌, ◌&&◌, nat_le, not, Bool, true, false, if◌then◌else◌, List, [], ◌∷◌, ◌++◌, length, take, drop, Some, None, codes, refl, sym, ap, ◌∙◌, subst, append_assoc, append-nil, inl, inr, arith}
use Rattle.std.proofs.lemmas.Bool.Decides.{nat_tests}
use Rattle.std.proofs.Math.Seq.{take-append_seam, drop-append_seam}
use Rattle.readers.specs.Languages.{Lang, Nothing, Both, Many, none, more, Linked, Times, Exactly, Enclosed, Listed}
use Rattle.affine_expr.specs.declared.expr.Expr.{Expr}
use Rattle.affine_expr.specs.declared.map.Map.{Map}
use Rattle.affine_expr.specs.declared.map.Set.{Set}
use Rattle.affine_ast.specs.declared.name.Name.{Name}
use Rattle.affine_ast.specs.declared.types.Access.{Access}
use Rattle.affine_ast.specs.Spelling.{expression_text, name_text, names_text, listed, symbol_names_text, operands_text, use_text, set_text, opening_text, results_text, rows_text, subscripts_text}
use Rattle.affine_grammar.specs.declared.words.State.{State}
use Rattle.affine_grammar.specs.declared.words.Leaves.TheVariants as leaves
use Rattle.affine_grammar.specs.Token.{Tok, sign, brings}
use Rattle.affine_grammar.specs.Grammar as grammar
use Rattle.affine_grammar.specs.Grammar.{Result, NextResult, Map0, Set0, OneValue, Values, SymbolValues, Operands, SomeMap, SomeSet, Use, no_values, access_with, Subscripts, NextValue, Brackets}
use Rattle.printed_texts.specs.Nesting.{AllNest, RowsNest, UseNests}
pub use Rattle.printed_texts.specs.Writable.{AllWritten}
use Rattle.printed_texts.proofs.Pieces.{Prints, seq, prints_as, in_left, in_right, giving, nothing, no_item, item_then}
use Rattle.printed_texts.proofs.Marks.{open_square, close_square, comma}
use Rattle.printed_texts.proofs.Given.{Given, IsWritten, given_left, given_right, given_one, value_given, value_prints}
use Rattle.printed_texts.proofs.Places.{parens}
use Rattle.printed_texts.proofs.States.{grown_same, printed_leaves, moved, Room}
use Rattle.printed_texts.proofs.Expressions.{ToldExpression}
use Rattle.printed_texts.proofs.Lists.{more_text, more_joins, ToldList}
use Rattle.printed_texts.proofs.Maps.{map_text, FitsSeveral, ToldMap, set_head_text, ToldSet}

-- ---- names

-- the separators and values behind the first
abbrev NextOne : List Name → Lang Tok (List Name)
NextOne = Linked (λ vs. sign 44) (λ vs _. OneValue vs)

record ToldNames (b c : List Name) : Type 0 where
  items : List Name
  items_are : c ≡ b ++ items
  written : AllWritten items

record ToldName (b c : List Name) : Type 0 where
  name : Name
  name_is : c ≡ b ++ name ∷ []
  written : IsWritten name

one_told : (b c : List Name) (f : List Tok) → Given f → OneValue b f c → ToldName b c
one_told b c f g h = record { name = h.value; name_is = h.second.1; written = value_given h.first.token h.value (given_one h.left h.first.token h.first.alone (given_left f h.left h.right h.parts g)) h.first.accepted }

abbrev names_none : (b : List Name) → ToldNames b b
names_none b = record { items = []; items_are = sym (append-nil b); written = tt }

abbrev names_more : (b d c : List Name) → ToldName b d → ToldNames d c → ToldNames b c
names_more b d c t r = record { items = t.name ∷ r.items; items_are = r.items_are ∙ ap (λ l. l ++ r.items) t.name_is ∙ append_assoc b (t.name ∷ []) r.items; written = (t.written, r.written) }

-- so many names
record ToldTimes (n : ℕ) (b c : List Name) : Type 0 where
  told : ToldNames b c
  count : length told.items ≡ n

times_told : (n : ℕ) (b c : List Name) (f : List Tok) → Given f → Times n NextOne b f c → ToldTimes n b c
times_told zero b c f g h = subst (ToldTimes zero b) (sym h.1) (record { told = names_none b; count = refl })
times_told (suc n) b c f g h =
    let gl = given_left f h.left h.right h.parts g in
    let r = times_told n h.value c h.right (given_right f h.left h.right h.parts g) h.second in
    let t = one_told b h.value h.first.right (given_right h.left h.first.left h.first.right h.first.parts gl) h.first.second in
    record { told = names_more b h.value c t r.told; count = omega (arith, r.count) }

-- names between two signs
pub record ToldValues (n : ℕ) (vs : List Name) : Type 0 where
  pub count : length vs ≡ n
  pub written : AllWritten vs

exactly_told : (n : ℕ) (vs : List Name) (f : List Tok) → Given f → Exactly n (λ vs. sign 44) OneValue [] f vs → ToldValues n vs
exactly_told zero vs f g h = subst (ToldValues zero) (sym h.1) (record { count = refl; written = tt })
exactly_told (suc n) vs f g h =
    let t = one_told [] h.value h.left (given_left f h.left h.right h.parts g) h.first in
    let r = times_told n h.value vs h.right (given_right f h.left h.right h.parts g) h.second in
    let e : vs ≡ t.name ∷ r.told.items = r.told.items_are ∙ ap (λ l. l ++ r.told.items) t.name_is in
    subst (ToldValues (suc n)) (sym e) (record { count = omega (arith, r.count); written = (t.written, r.told.written) })

values_told : (opening close n : ℕ) (vs : List Name) (f : List Tok) → Given f → Values opening close n f vs → ToldValues n vs
values_told opening close n vs f g h =
    let i = h.second in
    subst (ToldValues n) (sym i.second.second.1) (exactly_told n i.value i.left (given_left h.right i.left i.right i.parts (given_right f h.left h.right h.parts g)) i.first)

next_again : (b : List Name) (n : Name) → IsWritten n → Prints true (codes ", " ++ name_text n) (NextOne b) (b ++ n ∷ [])
next_again b n h = seq comma tt (giving (λ v. b ++ v ∷ []) (value_prints n h))

times_again : (items b : List Name) → AllWritten items → Prints true (more_text name_text items) (Times (length items) NextOne b) (b ++ items)
times_again [] b h = subst (λ c. Prints true [] (Nothing b) c) (sym (append-nil b)) (nothing b)
times_again (n ∷ items) b h =
    let y : Prints true (more_text name_text items) (Times (length items) NextOne (b ++ n ∷ [])) (b ++ n ∷ items) = subst (λ c. Prints true (more_text name_text items) (Times (length items) NextOne (b ++ n ∷ [])) c) (append_assoc b (n ∷ []) items) (times_again items (b ++ n ∷ []) h.1) in
    seq (next_again b n h.0) (more_joins name_text items) y

exactly_again : (vs : List Name) → AllWritten vs → Prints true (names_text vs) (Exactly (length vs) (λ vs. sign 44) OneValue []) vs
unfolding listed
exactly_again [] h = nothing []
exactly_again (n ∷ vs) h =
    let x : Prints true (name_text n) (OneValue []) (n ∷ []) = giving (λ v. v ∷ []) (value_prints n h.0) in
    seq x (more_joins name_text vs) (times_again vs (n ∷ []) h.1)

values_again : (vs : List Name) → AllWritten vs → Prints false (codes "(" ++ (names_text vs ++ codes ")")) (Values 40 41 (length vs)) vs
values_again vs h = parens (exactly_again vs h)

squares : {A : Type 0} {b : List ℕ} {L : Lang Tok A} {x : A} → Prints true b L x → Prints false (codes "[" ++ (b ++ codes "]")) (Enclosed (sign 91) (sign 93) L) x
squares {x = x} p = seq open_square tt (seq p (λ r c. refl) (giving (λ _. x) close_square))

-- ---- operands

-- the operands of the dimensions and those of the symbols
pub record ToldOperands (dims syms : ℕ) (vs : List Name) : Type 0 where
  pub first : List Name
  pub second : List Name
  pub parts : vs ≡ first ++ second
  pub dims_told : ToldValues dims first
  pub syms_told : ToldValues syms second

symbol_values_told : (n : ℕ) (vs : List Name) (f : List Tok) → Given f → SymbolValues n f vs → ToldValues n vs
symbol_values_told zero vs f g (inl h) = values_told 91 93 0 vs f g h
symbol_values_told zero vs f g (inr h) = subst (ToldValues zero) (sym h.1) (record { count = refl; written = tt })
symbol_values_told (suc n) vs f g h = values_told 91 93 (suc n) vs f g h

pub operands_told : (dims syms : ℕ) (vs : List Name) (f : List Tok) → Given f → Operands dims syms f vs → ToldOperands dims syms vs
operands_told dims syms vs f g h =
    let i = h.second in
    let gr = given_right f h.left h.right h.parts g in
    record {
      first = h.value;
      second = i.value;
      parts = i.second.1;
      dims_told = values_told 40 41 dims h.value h.left (given_left f h.left h.right h.parts g) h.first;
      syms_told = symbol_values_told syms i.value i.left (given_left h.right i.left i.right i.parts gr) i.first;
    }

symbols_again : (vs : List Name) → AllWritten vs → Prints false (symbol_names_text vs) (SymbolValues (length vs)) vs
unfolding symbol_names_text
symbols_again [] h = in_right (nothing [])
symbols_again (n ∷ vs) h = squares (exactly_again (n ∷ vs) h)

pub operands_again : (dims syms : ℕ) (vs : List Name) → ToldOperands dims syms vs → Prints false (operands_text dims vs) (Operands dims syms) vs
unfolding operands_text
operands_again dims syms vs t =
    let x = values_again t.first t.dims_told.written in
    let y = symbols_again t.second t.syms_told.written in
    let T : List ℕ = (codes "(" ++ (names_text t.first ++ codes ")")) ++ symbol_names_text t.second in
    let z : Prints false ((codes "(" ++ (names_text t.first ++ codes ")")) ++ symbol_names_text t.second) (Operands (length t.first) (length t.second)) (t.first ++ t.second) = seq x tt (giving (λ ss. t.first ++ ss) y) in
    let w : Prints false ((codes "(" ++ (names_text t.first ++ codes ")")) ++ symbol_names_text t.second) (Operands dims syms) vs =
    subst (λ v. Prints false T (Operands dims syms) v) (sym t.parts) (subst (λ n. Prints false T (Operands dims n) (t.first ++ t.second)) t.syms_told.count (subst (λ n. Prints false T (Operands n (length t.second)) (t.first ++ t.second)) t.dims_told.count z)) in
    let a : take dims vs ≡ t.first = ap (λ l. take dims l) t.parts ∙ ap (λ n. take n (t.first ++ t.second)) (sym t.dims_told.count) ∙ take-append_seam t.first t.second in
    let b : drop dims vs ≡ t.second = ap (λ l. drop dims l) t.parts ∙ ap (λ n. drop n (t.first ++ t.second)) (sym t.dims_told.count) ∙ drop-append_seam t.first t.second in
    prints_as w (ap (λ l. 40 ∷ l) (append_assoc (names_text t.first) (codes ")") (symbol_names_text t.second)) ∙ sym (ap (λ l. 40 ∷ (names_text l ++ (41 ∷ symbol_names_text (drop dims vs)))) a ∙ ap (λ l. 40 ∷ (names_text t.first ++ (41 ∷ symbol_names_text l))) b))

-- ---- aliases

pub brings_some : {A : Type 0} (counted : Bool) (total : ℕ) (x : A) (p : A × ℕ) → counted ≡ true → brings counted total x ≡ Some p → (total ≤ 1048576) × ((x, total) ≡ p)
brings_some counted total x p c h = by_test (nat_le total 1048576) refl (subst (λ b. (if b && not (nat_le total 1048576) then None else Some (x, total)) ≡ Some p) c h)
  where
    le_true : (v : Bool) → nat_le total 1048576 ≡ v → v ≡ true → total ≤ 1048576
    le_true v e t = let q : nat_le total 1048576 ≡ true = e ∙ t in grind (arith, nat_tests)

    by_test : (v : Bool) → nat_le total 1048576 ≡ v → (if not v then None else Some (x, total)) ≡ Some p → (total ≤ 1048576) × ((x, total) ≡ p)
    by_test true e q = let r : (x, total) ≡ p = cc in (le_true true e refl, r)
    by_test false e q = absurd cc

-- ---- maps and sets where they are used

pub record UsedMap (m : Map) (total behind : ℕ) : Type 0 where
  pub small : total ≤ 1048576 → behind ≤ 1048576
  pub again : (several : Bool) → FitsSeveral several m → behind ≤ 1048576 → AllNest m.results → Prints true (map_text m) (Map0 several total) (m, behind)

pub record UsedSet (m : Set) (total behind : ℕ) : Type 0 where
  pub small : total ≤ 1048576 → behind ≤ 1048576
  pub again : behind ≤ 1048576 → RowsNest m.rows → Prints true (set_head_text m) (Set0 total) (m, behind)

plus_zero : (n : ℕ) → n + 0 ≡ n
plus_zero n = omega arith

zero_plus : (n : ℕ) → 0 + n ≡ n
zero_plus n = omega arith

plus_comm : (a b : ℕ) → a + b ≡ b + a
plus_comm a b = omega arith

pub plain_map : (m : Map) (total behind : ℕ) → ToldMap m total behind → UsedMap m total behind
plain_map m total behind t = record {
  small = t.small;
  again = λ several c h n. subst (λ k. Prints true (map_text m) (Map0 several k) (m, behind)) (plus_zero total)
      (subst (λ k. Prints true (map_text m) (Map0 several (total + 0)) (m, k)) (plus_zero behind) (t.again several c 0 (omega (arith, h)) n));
}

pub plain_set : (m : Set) (total behind : ℕ) → ToldSet m total behind → UsedSet m total behind
plain_set m total behind t = record {
  small = t.small;
  again = λ h n. subst (λ k. Prints true (set_head_text m) (Set0 k) (m, behind)) (plus_zero total)
      (subst (λ k. Prints true (set_head_text m) (Set0 (total + 0)) (m, k)) (plus_zero behind) (t.again 0 (omega (arith, h)) n));
}

-- ---- uses

pub record ToldUse (at : Access) (total behind : ℕ) : Type 0 where
  pub small : total ≤ 1048576 → behind ≤ 1048576
  pub again : (several : Bool) → FitsSeveral several at.map → behind ≤ 1048576 → UseNests at → Prints false (use_text at) (Use [] several total) (at, behind)

pub use_of : (total : ℕ) (p : Map × ℕ) (vs : List Name) → UsedMap p.0 total p.1 → ToldOperands p.0.dims p.0.syms vs → ToldUse (record { map = p.0; operands = vs }) total p.1
unfolding use_text operands_text
use_of total p vs m o = record {
  small = m.small;
  again = λ several c h n.
      let x : Prints true (map_text p.0) (SomeMap [] several total) p = in_right (m.again several c h n) in
      let y = operands_again p.0.dims p.0.syms vs o in
      prints_as (seq x (λ r d. refl) (giving (λ (ws : List Name). let q : Access × ℕ = (record { map = p.0; operands = ws }, p.1) in q) y)) (append_assoc (opening_text (codes "affine_map<") p.0.dims p.0.syms) (results_text p.0.results) (operands_text p.0.dims vs));
}

-- a set with its operands
pub set_use_again : (total behind : ℕ) (m : Set) (vs : List Name) → UsedSet m total behind → ToldOperands m.dims m.syms vs → behind ≤ 1048576 → RowsNest m.rows
    → {B : Type 0} {K : List Name → Lang Tok B} {b : List ℕ} {o : Bool} {y : B} → Prints o b (K vs) y → Prints o (set_text m vs ++ b) (Both (SomeSet [] total) (λ p. Both (Operands p.0.dims p.0.syms) (λ vs. K vs))) y
unfolding set_text operands_text
set_use_again total behind m vs t o h n {b = b} k =
    let x : Prints true (set_head_text m) (SomeSet [] total) (m, behind) = in_right (t.again h n) in
    let y = operands_again m.dims m.syms vs o in
    prints_as (seq x (λ r d. refl) (seq y tt k)) (append_assoc (opening_text (codes "affine_set<") m.dims m.syms) (rows_text m.rows) (operands_text m.dims vs ++ b) ∙ sym (append_assoc (opening_text (codes "affine_set<") m.dims m.syms) (rows_text m.rows ++ operands_text m.dims vs) b ∙ ap (λ l. opening_text (codes "affine_set<") m.dims m.syms ++ l) (append_assoc (rows_text m.rows) (operands_text m.dims vs) b)))

-- ---- subscripts

pub record ToldSubscripts (at : Access) (total behind : ℕ) : Type 0 where
  pub small : total ≤ 1048576 → behind ≤ 1048576
  pub again : behind ≤ 1048576 → UseNests at → Prints false (subscripts_text at) (Subscripts total) (at, behind)

same_state : (s : State) → ◌≡◌ {A = State} (moved leaves.Values 0 s) s
same_state s = ap (λ n. let t : State = record { operands = s.operands; total = n; dims = s.dims; syms = s.syms } in t) (plus_zero s.total)

pub no_subscripts : (total : ℕ) → ToldSubscripts (access_with ([], no_values total)).0 total total
unfolding subscripts_text listed
no_subscripts total = record { small = λ h. h; again = λ h n. seq open_square tt (giving access_with (in_left (giving (λ _. ([], no_values total)) close_square))) }

pub subscripts_of : (total : ℕ) (p : Expr × State) (b : List Expr × State) → ToldExpression leaves.Values (no_values total) p → ToldList leaves.Values (p.0 ∷ [], p.1) b → ToldSubscripts (access_with b).0 total (access_with b).1
unfolding subscripts_text listed
subscripts_of total p b t r = record { small = λ h. r.grown.kept (t.grown.kept h); again = again }
  where
    again : b.1.total ≤ 1048576 → AllNest b.0 → Prints false (subscripts_text (access_with b).0) (Subscripts total) (access_with b)
    again h n =
        let S = printed_leaves leaves.Values b.1 in
        let room : Room leaves.Values 0 b.1 = record { total = omega (arith, h); few = tt } in
        let m : AllNest (p.0 ∷ r.items) = subst AllNest r.items_are n in
        let x : Prints true (expression_text S p.0) (Result leaves.Values ([], no_values total)) (p.0 ∷ [], p.1) =
        giving (λ (q : Expr × State). (q.0 ∷ [], q.1)) (subst (λ (s : State). Prints {A = Expr × State} true (expression_text S p.0) (grammar.Expression leaves.Values (no_values total)) (p.0, s)) (same_state p.1) (subst (λ (s : State). Prints true (expression_text S p.0) (grammar.Expression leaves.Values s) (p.0, moved leaves.Values 0 p.1)) (same_state (no_values total)) (t.again 0 b.1 room r.grown m.0))) in
        let y : Prints true (more_text (expression_text S) r.items) (Many (NextResult leaves.Values true) (p.0 ∷ [], p.1)) b =
        subst (λ s. Prints true (more_text (expression_text S) r.items) (Many (NextResult leaves.Values true) (p.0 ∷ [], p.1)) (b.0, s)) (same_state b.1) (subst (λ s. Prints true (more_text (expression_text S) r.items) (Many (NextResult leaves.Values true) (p.0 ∷ [], s)) (b.0, moved leaves.Values 0 b.1)) (same_state p.1) (r.again true (inl refl) 0 b.1 room (grown_same b.1) m.1)) in
        let e : expression_text S p.0 ++ more_text (expression_text S) r.items ≡ listed (expression_text S) b.0 = ap (λ l. listed (expression_text S) l) (sym r.items_are) in
        seq open_square tt (giving access_with (in_right (seq (prints_as (seq x (more_joins (expression_text S) r.items) y) e) (λ s c. refl) (giving (λ _. b) close_square))))

-- ---- the names of a raw access

raw_names_told : (b c : List Name) (f : List Tok) → Given f → Many NextValue b f c → ToldNames b c
raw_names_told b c f g (none _ _ p) = names_none b
raw_names_told b c f g (more _ d _ _ left right p i m) =
    let gl = given_left f left right p g in
    names_more b d c (one_told b d i.right (given_right left i.left i.right i.parts gl) i.second) (raw_names_told d c right (given_right f left right p g) m)

pub brackets_told : (vs : List Name) (f : List Tok) → Given f → Brackets f vs → AllWritten vs
brackets_told vs f g h = by_case h.second
  where
    gr : Given h.right
    gr = given_right f h.left h.right h.parts g

    by_case : Listed (sign 93) [] (Both (OneValue []) (Many NextValue)) h.right vs → AllWritten vs
    by_case (inl i) = subst AllWritten (sym i.second.1) tt
    by_case (inr i) =
        let j = i.first in
        let g1 = given_left h.right i.left i.right i.parts gr in
        let t = one_told [] j.value j.left (given_left i.left j.left j.right j.parts g1) j.first in
        let r = raw_names_told j.value i.value j.right (given_right i.left j.left j.right j.parts g1) j.second in
        let e : i.value ≡ t.name ∷ r.items = r.items_are ∙ ap (λ l. l ++ r.items) t.name_is in
        subst AllWritten (sym (i.second.second.1 ∙ e)) (t.written, r.written)

raw_again : (items b : List Name) → AllWritten items → Prints true (more_text name_text items) (Many NextValue b) (b ++ items)
raw_again [] b h = subst (λ c. Prints true [] (Many NextValue b) c) (sym (append-nil b)) (no_item b)
raw_again (n ∷ items) b h =
    let y : Prints true (more_text name_text items) (Many NextValue (b ++ n ∷ [])) (b ++ n ∷ items) = subst (λ c. Prints true (more_text name_text items) (Many NextValue (b ++ n ∷ [])) c) (append_assoc b (n ∷ []) items) (raw_again items (b ++ n ∷ []) h.1) in
    item_then {L = NextValue} {b = b} {c = b ++ n ∷ []} {d = b ++ n ∷ items} (next_again b n h.0) (more_joins name_text items) y

pub brackets_again : (vs : List Name) → AllWritten vs → Prints false (codes "[" ++ (names_text vs ++ codes "]")) Brackets vs
unfolding listed
brackets_again [] h = seq open_square tt (in_left (giving (λ _. []) close_square))
brackets_again (n ∷ vs) h =
    let x : Prints true (name_text n) (OneValue []) (n ∷ []) = giving (λ v. v ∷ []) (value_prints n h.0) in
    seq open_square tt (in_right (seq (seq x (more_joins name_text vs) (raw_again vs (n ∷ []) h.1)) (λ r c. refl) (giving (λ _. n ∷ vs) close_square)))
