-- A module that a text spells may be written, but for a negated 0 under the nesting limit.
use Rattle.std.proofs.Common.{◌≡◌, ℕ, zero, suc, ◌+◌, ◌≤◌, ◌<◌, ◌^◌, true, List, [], ◌∷◌, ◌++◌, length, Option, Some, None, codes, refl, sym, ap, ◌∙◌, subst, inl, inr, append_assoc, append-nil, arith}
use Rattle.readers.specs.Languages.{Both, Many, none, more, Giving, Optional}
use Rattle.affine_lex.proofs.Tests.{true_no}
use Rattle.affine_expr.specs.declared.map.Set.{Set}
use Rattle.affine_ast.specs.declared.module.Module.{Module}
use Rattle.affine_ast.specs.declared.name.Name.{Name}
use Rattle.affine_ast.specs.declared.stmt.Stmt.{Stmt}
use Rattle.affine_ast.specs.declared.stmt.What as what
use Rattle.affine_ast.specs.declared.stmt.What.{What}
use Rattle.affine_ast.specs.declared.types.Access.{Access}
use Rattle.affine_ast.specs.Nest.{Plain, Value, Load, Store, RawLoad, RawStore, Constant, Binary, Cast, Alloc, Dealloc, Start, Wait, Return, Nest, Nothing, Loop, Branch, Does, followed_by, put_what, nest}
use Rattle.affine_ast.proofs.Nests.{nest-nil, nest-cons, nest-append, put-For, put-If, put-If-else}
use Rattle.affine_grammar.specs.declared.words.Action.{Action}
use Rattle.affine_grammar.specs.declared.words.Action.TheVariants as action
use Rattle.affine_grammar.specs.declared.words.Alias.{Alias}
use Rattle.affine_grammar.specs.declared.words.Body.{Body}
use Rattle.affine_grammar.specs.declared.words.Definition.{Definition}
use Rattle.affine_grammar.specs.declared.words.Definition.TheVariants as definition
use Rattle.affine_grammar.specs.declared.words.Turns.{Turns}
use Rattle.affine_grammar.specs.Token.{Tok, value, sign}
use Rattle.affine_grammar.specs.Grammar.{Operands}
use Rattle.affine_grammar.specs.GrammarFile.{Regions, Region, TurnsOf, Defined, Part, Else, Acted, Statement, Statements, Function, AliasBody, AliasDefinition, ModuleOf}
use Rattle.affine_grammar.specs.Spelling.{tokens_of, Spells}
use Rattle.affine_ast.specs.Spelling.{spelling}
use Rattle.printed_texts.specs.Lines.{AreSameButLines}
use Rattle.printed_texts.specs.Nesting.{RowsNest, PlainNests, StatementsNest, ModuleNests}
use Rattle.printed_texts.specs.Writable.{IsWritten, IsPositive, ConditionFits, PlainFits, StatementsFit, operands_in_plain, operands_in_nest, MayBeWritten}
use Rattle.printed_texts.proofs.Given.{Given, given_left, given_right, given_one, value_given, limited_some}
use Rattle.printed_texts.proofs.Types.{signed_told, memref_told}
use Rattle.printed_texts.proofs.Unlined.{put_split}
use Rattle.printed_texts.proofs.Uses.{operands_told, brackets_told}
use Rattle.printed_texts.proofs.Bounds.{step_told}
use Rattle.printed_texts.proofs.Plain.{value_of, typed_told, stride_told}
use Rattle.printed_texts.proofs.Blocks.{lined_some}
use Rattle.printed_texts.proofs.Modules.{HasParts, returning, module_parts}
use Rattle.printed_texts.proofs.Whole.{given_text}
use Rattle.printed_texts.proofs.Writing.{written_spells}
use Rattle.printed_texts.proofs.Unnested.{what_of, put_plain}
use Rattle.printed_texts.proofs.Spelt.{use_spelt, SpeltSubscripts, subscripts_spelt, SpeltBound, bound_spelt, SpeltSet, some_set_spelt, condition_spelt, map_spelt, set_spelt, BodySpelt, AliasesSpelt}

-- ---- one statement

-- a statement of a given text, by what it is among others
pub record SpeltStatement (left : ℕ) (w : What) (total behind : ℕ) : Type 0 where
  pub fit : (line : ℕ) → StatementsNest (put_what w line Nothing) → StatementsFit left (put_what w line Nothing)
  pub count : (line : ℕ) → behind ≡ total + operands_in_nest (put_what w line Nothing)
  pub small : total ≤ 1048576 → behind ≤ 1048576

abbrev Spelt : ℕ → ℕ → What × ℕ → Type 0
Spelt left total p = SpeltStatement left p.0 total p.1

nothing_more : (n k : ℕ) → n + k ≡ n + (k + 0)
nothing_more n k = omega arith

-- one without regions
plain_spelt : (left : ℕ) (p : Plain) (total behind : ℕ) → (PlainNests p → PlainFits p) → behind ≡ total + operands_in_plain p → (total ≤ 1048576 → behind ≤ 1048576) → SpeltStatement left (what_of p) total behind
plain_spelt left p total behind f c s = record {
  fit = λ line n. subst (StatementsFit left) (sym (put_plain p line Nothing)) (f (subst StatementsNest (put_plain p line Nothing) n).0, tt);
  count = λ line. c ∙ nothing_more total (operands_in_plain p) ∙ ap (λ m. total + operands_in_nest m) (sym (put_plain p line Nothing));
  small = s;
}

no_operands : (left : ℕ) (p : Plain) (total : ℕ) → operands_in_plain p ≡ 0 → PlainFits p → SpeltStatement left (what_of p) total total
no_operands left p total z f = plain_spelt left p total total (λ n. f) (omega (arith, z)) (λ k. k)

definition_spelt : (left : ℕ) (aliases : List Alias) (total : ℕ) (r : Name) (d : Definition) (p : What × ℕ) (f : List Tok) → IsWritten r → AliasesSpelt aliases → Given f → Defined aliases total r d f p → Spelt left total p
definition_spelt left aliases total r (definition.Value c) p f w a g h =
    let u = use_spelt aliases true total h.value h.left a (given_left f h.left h.right h.parts g) h.first in
    subst (Spelt left total) (sym h.second.1) (plain_spelt left (Value r c h.value.0) total h.value.1 (λ n. (w, u.fit n)) u.count u.small)
definition_spelt left aliases total r definition.Load p f w a g h =
    let i = h.second in
    let gr = given_right f h.left h.right h.parts g in
    let t = typed_told (λ ty. let x : What × ℕ = (what.Load r h.value i.value.0 ty, i.value.1) in x) p i.right i.second in
    let m = value_of h.left h.value (given_left f h.left h.right h.parts g) h.first in
    let s = subscripts_spelt total i.value i.left (given_left h.right i.left i.right i.parts gr) i.first in
    subst (Spelt left total) (sym t.1.1) (plain_spelt left (Load r h.value i.value.0 t.0) total i.value.1 (λ n. (w, m, s.fit n, t.1.0)) s.count s.small)
definition_spelt left aliases total r definition.RawLoad p f w a g h =
    let i = h.second in
    let gr = given_right f h.left h.right h.parts g in
    let t = typed_told (λ ty. let x : What × ℕ = (what.RawLoad r h.value i.value ty, total) in x) p i.right i.second in
    let m = value_of h.left h.value (given_left f h.left h.right h.parts g) h.first in
    let b = brackets_told i.value i.left (given_left h.right i.left i.right i.parts gr) i.first in
    subst (Spelt left total) (sym t.1.1) (no_operands left (RawLoad r h.value i.value t.0) total refl (w, m, b, t.1.0))
definition_spelt left aliases total r definition.Constant p f w a g h =
    let i = h.second.second in
    subst (Spelt left total) (sym i.second.1) (no_operands left (Constant r h.value i.value) total refl (w, signed_told h.value h.left h.first))
definition_spelt left aliases total r (definition.Binary o) p f w a g h =
    let i = h.second in
    let j = i.second in
    let k = j.second.second in
    let g1 = given_right f h.left h.right h.parts g in
    let g2 = given_right h.right i.left i.right i.parts g1 in
    let x = value_of h.left h.value (given_left f h.left h.right h.parts g) h.first in
    let y = value_of j.left j.value (given_left i.right j.left j.right j.parts g2) j.first in
    subst (Spelt left total) (sym k.second.1) (no_operands left (Binary r o h.value j.value k.value) total refl (w, x, y))
definition_spelt left aliases total r (definition.Cast c) p f w a g h =
    let j = h.second.second in
    let k = j.second.second in
    subst (Spelt left total) (sym k.second.1) (no_operands left (Cast r c h.value j.value k.value) total refl (w, value_of h.left h.value (given_left f h.left h.right h.parts g) h.first))
definition_spelt left aliases total r definition.Alloc p f w a g h =
    let i = h.second in
    let t = typed_told (λ ty. let x : What × ℕ = (what.Alloc r ty, total) in x) p i.right i.second in
    subst (Spelt left total) (sym t.1.1) (no_operands left (Alloc r t.0) total refl (w, t.1.0))

-- a memref with its subscripts
record SpeltPart (m : Name) (at : Access) (total behind : ℕ) : Type 0 where
  name : IsWritten m
  subscripts : SpeltSubscripts at total behind

part_spelt : (total : ℕ) (p : Name × (Access × ℕ)) (f : List Tok) → Given f → Part total f p → SpeltPart p.0 p.1.0 total p.1.1
part_spelt total p f g h =
    let i = h.second in
    subst (λ (x : Name × (Access × ℕ)). SpeltPart x.0 x.1.0 total x.1.1) (sym i.second.1) (record {
      name = value_of h.left h.value (given_left f h.left h.right h.parts g) h.first;
      subscripts = subscripts_spelt total i.value i.left (given_left h.right i.left i.right i.parts (given_right f h.left h.right h.parts g)) i.first;
    })

store_spelt : (left : ℕ) (S : Regions) (aliases : List Alias) (total : ℕ) (p : What × ℕ) (f : List Tok) → Given f → Acted S aliases total action.Store f p → Spelt left total p
store_spelt left S aliases total p f g h =
    let i = h.second.second in
    let j = i.second in
    let g1 = given_right h.right h.second.left h.second.right h.second.parts (given_right f h.left h.right h.parts g) in
    let g2 = given_right h.second.right i.left i.right i.parts g1 in
    let t = typed_told (λ ty. let x : What × ℕ = (what.Store h.value i.value j.value.0 ty, j.value.1) in x) p j.right j.second in
    let x = value_of h.left h.value (given_left f h.left h.right h.parts g) h.first in
    let m = value_of i.left i.value (given_left h.second.right i.left i.right i.parts g1) i.first in
    let s = subscripts_spelt total j.value j.left (given_left i.right j.left j.right j.parts g2) j.first in
    subst (Spelt left total) (sym t.1.1) (plain_spelt left (Store h.value i.value j.value.0 t.0) total j.value.1 (λ n. (x, m, s.fit n, t.1.0)) s.count s.small)

raw_store_spelt : (left : ℕ) (S : Regions) (aliases : List Alias) (total : ℕ) (p : What × ℕ) (f : List Tok) → Given f → Acted S aliases total action.RawStore f p → Spelt left total p
raw_store_spelt left S aliases total p f g h =
    let i = h.second.second in
    let j = i.second in
    let g1 = given_right h.right h.second.left h.second.right h.second.parts (given_right f h.left h.right h.parts g) in
    let g2 = given_right h.second.right i.left i.right i.parts g1 in
    let t = typed_told (λ ty. let x : What × ℕ = (what.RawStore h.value i.value j.value ty, total) in x) p j.right j.second in
    let x = value_of h.left h.value (given_left f h.left h.right h.parts g) h.first in
    let m = value_of i.left i.value (given_left h.second.right i.left i.right i.parts g1) i.first in
    let b = brackets_told j.value j.left (given_left i.right j.left j.right j.parts g2) j.first in
    subst (Spelt left total) (sym t.1.1) (no_operands left (RawStore h.value i.value j.value t.0) total refl (x, m, b, t.1.0))

dealloc_spelt : (left : ℕ) (S : Regions) (aliases : List Alias) (total : ℕ) (p : What × ℕ) (f : List Tok) → Given f → Acted S aliases total action.Dealloc f p → Spelt left total p
dealloc_spelt left S aliases total p f g h =
    let t = typed_told (λ ty. let x : What × ℕ = (what.Dealloc h.value ty, total) in x) p h.right h.second in
    subst (Spelt left total) (sym t.1.1) (no_operands left (Dealloc h.value t.0) total refl (value_of h.left h.value (given_left f h.left h.right h.parts g) h.first, t.1.0))

wait_spelt : (left : ℕ) (S : Regions) (aliases : List Alias) (total : ℕ) (p : What × ℕ) (f : List Tok) → Given f → Acted S aliases total action.Wait f p → Spelt left total p
wait_spelt left S aliases total p f g h =
    let i = h.second.second in
    let g1 = given_right h.right h.second.left h.second.right h.second.parts (given_right f h.left h.right h.parts g) in
    let t = typed_told (λ ty. let x : What × ℕ = (what.Wait h.value.0 h.value.1.0 i.value ty, h.value.1.1) in x) p i.right i.second in
    let a = part_spelt total h.value h.left (given_left f h.left h.right h.parts g) h.first in
    let s = a.subscripts in
    let n = value_of i.left i.value (given_left h.second.right i.left i.right i.parts g1) i.first in
    subst (Spelt left total) (sym t.1.1) (plain_spelt left (Wait h.value.0 h.value.1.0 i.value t.0) total h.value.1.1 (λ k. (a.name, s.fit k, n, t.1.0)) s.count s.small)

start_spelt : (left : ℕ) (S : Regions) (aliases : List Alias) (total : ℕ) (p : What × ℕ) (f : List Tok) → Given f → Acted S aliases total action.Start f p → Spelt left total p
start_spelt left S aliases total p f g h =
    let b = h.second.second in
    let c = b.second.second in
    let n = c.second.second in
    let s = n.second in
    let t = s.second.second in
    let u = t.second.second in
    let v = u.second.second in
    let g1 = given_right h.right h.second.left h.second.right h.second.parts (given_right f h.left h.right h.parts g) in
    let g2 = given_right b.right b.second.left b.second.right b.second.parts (given_right h.second.right b.left b.right b.parts g1) in
    let g3 = given_right c.right c.second.left c.second.right c.second.parts (given_right b.second.right c.left c.right c.parts g2) in
    let g4 = given_right c.second.right n.left n.right n.parts g3 in
    let pa = part_spelt total h.value h.left (given_left f h.left h.right h.parts g) h.first in
    let pb = part_spelt h.value.1.1 b.value b.left (given_left h.second.right b.left b.right b.parts g1) b.first in
    let pc = part_spelt b.value.1.1 c.value c.left (given_left b.second.right c.left c.right c.parts g2) c.first in
    let wn = value_of n.left n.value (given_left c.second.right n.left n.right n.parts g3) n.first in
    let ws = stride_told s.value s.left (given_left n.right s.left s.right s.parts g4) s.first in
    let wt = memref_told t.value t.left t.first in
    let wu = memref_told u.value u.left u.first in
    let wv = memref_told v.value v.left v.first in
    let sa = pa.subscripts in
    let sb = pb.subscripts in
    let sc = pc.subscripts in
    let ca = sa.count in
    let cb = sb.count in
    let cd = sc.count in
    let q : Plain = Start h.value.0 h.value.1.0 b.value.0 b.value.1.0 c.value.0 c.value.1.0 n.value s.value (t.value ∷ u.value ∷ v.value ∷ []) in
    let behind : c.value.1.1 ≡ total + operands_in_plain q = omega (arith, ca, cb, cd) in
    subst (Spelt left total) (sym v.second.1) (plain_spelt left q total c.value.1.1
    (λ k. ((pa.name, sa.fit k.0), (pb.name, sb.fit k.1), (pc.name, sc.fit k.2), wn, ws, (wt, wu, wv)))
    behind (λ k. sc.small (sb.small (sa.small k))))

-- ---- lists of statements

pub record SpeltLines (left : ℕ) (ss : List Stmt) (total behind : ℕ) : Type 0 where
  pub fit : StatementsNest (nest ss) → StatementsFit left (nest ss)
  pub count : behind ≡ total + operands_in_nest (nest ss)
  pub small : total ≤ 1048576 → behind ≤ 1048576

nests_parts : (a b : Nest) → StatementsNest (followed_by a b) → StatementsNest a × StatementsNest b
nests_parts Nothing b h = (tt, h)
nests_parts (Loop line v l u s body rest) b h = let i = nests_parts rest b h.3 in ((h.0, h.1, h.2, i.0), i.1)
nests_parts (Branch line set names first has other rest) b h = let i = nests_parts rest b h.3 in ((h.0, h.1, h.2, i.0), i.1)
nests_parts (Does line p rest) b h = let i = nests_parts rest b h.1 in ((h.0, i.0), i.1)

pub fit_followed : (left : ℕ) (a b : Nest) → StatementsFit left a → StatementsFit left b → StatementsFit left (followed_by a b)
fit_followed left Nothing b h k = k
fit_followed zero (Loop line v l u s body rest) b h k = absurd h
fit_followed (suc left) (Loop line v l u s body rest) b h k = (h.0, h.1, h.2, h.3, h.4, fit_followed (suc left) rest b h.5 k)
fit_followed zero (Branch line set names first has other rest) b h k = absurd h
fit_followed (suc left) (Branch line set names first has other rest) b h k = (h.0, h.1, h.2, fit_followed (suc left) rest b h.3 k)
fit_followed left (Does line p rest) b h k = (h.0, fit_followed left rest b h.1 k)

pub count_followed : (a b : Nest) → operands_in_nest (followed_by a b) ≡ operands_in_nest a + operands_in_nest b
count_followed Nothing b = omega arith
count_followed (Loop line v l u s body rest) b = let r = count_followed rest b in omega (arith, r)
count_followed (Branch line set names first has other rest) b = let r = count_followed rest b in omega (arith, r)
count_followed (Does line p rest) b = let r = count_followed rest b in omega (arith, r)

lines_none : (left total : ℕ) → SpeltLines left [] total total
lines_none left total = record {
  fit = λ n. subst (StatementsFit left) (sym nest-nil) tt;
  count = (let z : operands_in_nest (nest []) ≡ 0 = ap operands_in_nest nest-nil in omega (arith, z));
  small = λ k. k;
}

lines_more : (left : ℕ) (s : Stmt) (ss : List Stmt) (total middle behind : ℕ) → SpeltStatement left s.what total middle → SpeltLines left ss middle behind → SpeltLines left (s ∷ ss) total behind
lines_more left s ss total middle behind t r = record {
  fit = λ n. let i = nests_parts (put_what s.what s.line Nothing) (nest ss) (subst StatementsNest split n) in subst (StatementsFit left) (sym split) (fit_followed left (put_what s.what s.line Nothing) (nest ss) (t.fit s.line i.0) (r.fit i.1));
  count = (let a = t.count s.line in let b = r.count in let c = ap operands_in_nest split ∙ count_followed (put_what s.what s.line Nothing) (nest ss) in omega (arith, a, b, c));
  small = λ k. r.small (t.small k);
}
  where
    split : nest (s ∷ ss) ≡ followed_by (put_what s.what s.line Nothing) (nest ss)
    split = nest-cons s ss ∙ put_split s.what s.line (nest ss)

-- ---- regions

-- what the statements of a region are, where it stands among statements with so many regions left
abbrev SpellsRegion : ℕ → Regions → Type 0
SpellsRegion left S = (total : ℕ) (f : List Tok) (p : List Stmt × ℕ) → Given f → S total f p → (k : ℕ) × ((left ≡ suc k) × SpeltLines k p.0 total p.1)

loop_spelt : (left k : ℕ) (v : Name) (t : Turns) (body : List Stmt) (total behind : ℕ) → left ≡ suc k → IsWritten v → (n1 : ℕ) → SpeltBound t.lower total n1 → SpeltBound t.upper n1 t.total → IsPositive t.step → SpeltLines k body t.total behind
    → SpeltStatement left (what.For v t.lower t.upper t.step body) total behind
loop_spelt left k v t body total behind e w n1 a b s r = subst (λ n. SpeltStatement n (what.For v t.lower t.upper t.step body) total behind) (sym e) (record {
  fit = λ line n.
      let q = put-For line Nothing v t.lower t.upper t.step body in
      let m = subst StatementsNest q n in
      subst (StatementsFit (suc k)) (sym q) (w, a.fit m.0, b.fit m.1, s, r.fit m.2, tt);
  count = λ line.
      let q = ap operands_in_nest (put-For line Nothing v t.lower t.upper t.step body) in
      let x = a.count in
      let y = b.count in
      let z = r.count in
      omega (arith, q, x, y, z);
  small = λ h. r.small (b.small (a.small h));
})

if_spelt : (left k : ℕ) (set : Set) (vs : List Name) (first : List Stmt) (total n1 behind : ℕ) → left ≡ suc k → SpeltSet set total n1 → (RowsNest set.rows → ConditionFits set vs) → SpeltLines k first n1 behind
    → SpeltStatement left (what.If set vs first None) total behind
if_spelt left k set vs first total n1 behind e s c r = subst (λ n. SpeltStatement n (what.If set vs first None) total behind) (sym e) (record {
  fit = λ line n.
      let q = put-If line Nothing set vs first in
      let m = subst StatementsNest q n in
      subst (StatementsFit (suc k)) (sym q) (c m.0, r.fit m.1, tt, tt);
  count = λ line.
      let q = ap operands_in_nest (put-If line Nothing set vs first) in
      let x = s.count in
      let z = r.count in
      omega (arith, q, x, z);
  small = λ h. r.small (s.small h);
})

if_else_spelt : (left k : ℕ) (set : Set) (vs : List Name) (first other : List Stmt) (total n1 n2 behind : ℕ) → left ≡ suc k → SpeltSet set total n1 → (RowsNest set.rows → ConditionFits set vs) → SpeltLines k first n1 n2 → SpeltLines k other n2 behind
    → SpeltStatement left (what.If set vs first (Some other)) total behind
if_else_spelt left k set vs first other total n1 n2 behind e s c r o = subst (λ n. SpeltStatement n (what.If set vs first (Some other)) total behind) (sym e) (record {
  fit = λ line n.
      let q = put-If-else line Nothing set vs first other in
      let m = subst StatementsNest q n in
      subst (StatementsFit (suc k)) (sym q) (c m.0, r.fit m.1, o.fit m.2, tt);
  count = λ line.
      let q = ap operands_in_nest (put-If-else line Nothing set vs first other) in
      let x = s.count in
      let y = r.count in
      let z = o.count in
      omega (arith, q, x, y, z);
  small = λ h. o.small (r.small (s.small h));
})

-- the bounds and the step of a loop
record SpeltTurns (t : Turns) (total : ℕ) : Type 0 where
  middle : ℕ
  lower : SpeltBound t.lower total middle
  upper : SpeltBound t.upper middle t.total
  step : IsPositive t.step

turns_spelt : (aliases : List Alias) (total : ℕ) (t : Turns) (f : List Tok) → AliasesSpelt aliases → Given f → TurnsOf aliases total f t → SpeltTurns t total
turns_spelt aliases total t f a g h =
    let i = h.second.second in
    let j = i.second in
    let g2 = given_right h.right h.second.left h.second.right h.second.parts (given_right f h.left h.right h.parts g) in
    let p = bound_spelt (codes "max") aliases total h.value h.left a (given_left f h.left h.right h.parts g) h.first in
    let q = bound_spelt (codes "min") aliases h.value.1 i.value i.left a (given_left h.second.right i.left i.right i.parts g2) i.first in
    subst (λ x. SpeltTurns x total) (sym j.second.1) (record { middle = h.value.1; lower = p; upper = q; step = step_told j.value j.left j.first })

module _ (left : ℕ) (S : Regions) (aliases : List Alias) (known : AliasesSpelt aliases) (region : SpellsRegion left S) where
  for_spelt : (total : ℕ) (p : What × ℕ) (f : List Tok) → Given f → Acted S aliases total action.For f p → Spelt left total p
  for_spelt total p f g h =
      let i = h.second.second in
      let j = i.second in
      let g1 = given_right h.right h.second.left h.second.right h.second.parts (given_right f h.left h.right h.parts g) in
      let g2 = given_right h.second.right i.left i.right i.parts g1 in
      let v = value_given h.first.token h.value (given_one h.left h.first.token h.first.alone (given_left f h.left h.right h.parts g)) h.first.accepted in
      let t = turns_spelt aliases total i.value i.left known (given_left h.second.right i.left i.right i.parts g1) i.first in
      let r = region i.value.total j.left j.value (given_left i.right j.left j.right j.parts g2) j.first in
      subst (Spelt left total) (sym j.second.1) (loop_spelt left r.0 h.value i.value j.value.0 total j.value.1 r.1.0 v t.middle t.lower t.upper t.step r.1.1)

  branch_spelt : (total : ℕ) (p : What × ℕ) (f : List Tok) → Given f → Acted S aliases total action.If f p → Spelt left total p
  branch_spelt total p f g h = by_else k.value k.first k.second.1
    where
      o : Both (Operands h.value.0.dims h.value.0.syms) (λ vs. Both (S h.value.1) (λ q. Giving (Optional (Else S q.1) (None, q.1)) (λ r. (what.If h.value.0 vs q.0 r.0, r.1)))) h.right p
      o = h.second

      b : Both (S h.value.1) (λ q. Giving (Optional (Else S q.1) (None, q.1)) (λ r. (what.If h.value.0 o.value q.0 r.0, r.1))) o.right p
      b = o.second

      k : Giving (Optional (Else S b.value.1) (None, b.value.1)) (λ r. (what.If h.value.0 o.value b.value.0 r.0, r.1)) b.right p
      k = b.second

      g1 : Given h.right
      g1 = given_right f h.left h.right h.parts g

      g2 : Given o.right
      g2 = given_right h.right o.left o.right o.parts g1

      gk : Given k.left
      gk = given_left b.right k.left k.right k.parts (given_right o.right b.left b.right b.parts g2)

      set : SpeltSet h.value.0 total h.value.1
      set = some_set_spelt aliases total h.value h.left known (given_left f h.left h.right h.parts g) h.first

      condition : RowsNest h.value.0.rows → ConditionFits h.value.0 o.value
      condition = condition_spelt h.value.0 o.value total h.value.1 set (operands_told h.value.0.dims h.value.0.syms o.value o.left (given_left h.right o.left o.right o.parts g1) o.first)

      first : (m : ℕ) × ((left ≡ suc m) × SpeltLines m b.value.0 h.value.1 b.value.1)
      first = region h.value.1 b.left b.value (given_left o.right b.left b.right b.parts g2) b.first

      same_left : (m n : ℕ) (ss : List Stmt) (total behind : ℕ) → left ≡ suc m → left ≡ suc n → SpeltLines n ss total behind → SpeltLines m ss total behind
      same_left m n ss total behind x y r = let e : n ≡ m = omega (arith, x, y) in subst (λ j. SpeltLines j ss total behind) e r

      by_else : (r : Option (List Stmt) × ℕ) → Optional (Else S b.value.1) (None, b.value.1) k.left r → p ≡ (what.If h.value.0 o.value b.value.0 r.0, r.1) → Spelt left total p
      by_else r (inr x) e =
          let q : p ≡ (what.If h.value.0 o.value b.value.0 None, b.value.1) = e ∙ ap (λ (r : Option (List Stmt) × ℕ). let y : What × ℕ = (what.If h.value.0 o.value b.value.0 r.0, r.1) in y) x.1 in
          subst (Spelt left total) (sym q) (if_spelt left first.0 h.value.0 o.value b.value.0 total h.value.1 b.value.1 first.1.0 set condition first.1.1)
      by_else r (inl x) e =
          let y = x.second in
          let q : p ≡ (what.If h.value.0 o.value b.value.0 (Some y.value.0), y.value.1) = e ∙ ap (λ (r : Option (List Stmt) × ℕ). let y : What × ℕ = (what.If h.value.0 o.value b.value.0 r.0, r.1) in y) y.second.1 in
          let other = region b.value.1 y.left y.value (given_left x.right y.left y.right y.parts (given_right k.left x.left x.right x.parts gk)) y.first in
          subst (Spelt left total) (sym q) (if_else_spelt left first.0 h.value.0 o.value b.value.0 y.value.0 total h.value.1 b.value.1 y.value.1 first.1.0 set condition first.1.1 (same_left first.0 other.0 y.value.0 b.value.1 y.value.1 first.1.0 other.1.0 other.1.1))

  acted_spelt : (total : ℕ) (a : Action) (p : What × ℕ) (f : List Tok) → Given f → Acted S aliases total a f p → Spelt left total p
  acted_spelt total action.For p f g h = for_spelt total p f g h
  acted_spelt total action.If p f g h = branch_spelt total p f g h
  acted_spelt total action.Store p f g h = store_spelt left S aliases total p f g h
  acted_spelt total action.RawStore p f g h = raw_store_spelt left S aliases total p f g h
  acted_spelt total action.Dealloc p f g h = dealloc_spelt left S aliases total p f g h
  acted_spelt total action.Start p f g h = start_spelt left S aliases total p f g h
  acted_spelt total action.Wait p f g h = wait_spelt left S aliases total p f g h

  -- a statement more
  record SpeltItem (b c : List Stmt × ℕ) : Type 0 where
    stmt : Stmt
    stmt_is : c.0 ≡ b.0 ++ stmt ∷ []
    spelt : SpeltStatement left stmt.what b.1 c.1

  statement_spelt : (b c : List Stmt × ℕ) (f : List Tok) → Given f → Statement S aliases b f c → SpeltItem b c
  statement_spelt b c f g (inl h) =
      let j = h.second.second in
      let d = j.second in
      let g1 = given_right h.right h.second.left h.second.right h.second.parts (given_right f h.left h.right h.parts g) in
      let gd = given_left j.right d.left d.right d.parts (given_right h.second.right j.left j.right j.parts g1) in
      let r = value_given h.first.token h.value.1 (given_one h.left h.first.token h.first.alone (given_left f h.left h.right h.parts g)) (lined_some value h.first.token h.value h.first.accepted) in
      subst (SpeltItem b) (sym d.second.1) (record { stmt = record { line = h.value.0; what = d.value.0 }; stmt_is = refl; spelt = definition_spelt left aliases b.1 h.value.1 j.value d.value d.left r known gd d.first })
  statement_spelt b c f g (inr h) =
      let d = h.second in
      let gd = given_left h.right d.left d.right d.parts (given_right f h.left h.right h.parts g) in
      subst (SpeltItem b) (sym d.second.1) (record { stmt = record { line = h.value.0; what = d.value.0 }; stmt_is = refl; spelt = acted_spelt b.1 h.value.1 d.value d.left gd d.first })

  record SpeltItems (b c : List Stmt × ℕ) : Type 0 where
    items : List Stmt
    items_are : c.0 ≡ b.0 ++ items
    spelt : SpeltLines left items b.1 c.1

  items_spelt : (b c : List Stmt × ℕ) (f : List Tok) → Given f → Many (Statement S aliases) b f c → SpeltItems b c
  items_spelt b c f g (none _ _ p) = record { items = []; items_are = sym (append-nil b.0); spelt = lines_none left b.1 }
  items_spelt b c f g (more _ d _ _ l r p i m) =
      let t = statement_spelt b d l (given_left f l r p g) i in
      let q = items_spelt d c r (given_right f l r p g) m in
      record {
        items = t.stmt ∷ q.items;
        items_are = q.items_are ∙ ap (λ xs. xs ++ q.items) t.stmt_is ∙ append_assoc b.0 (t.stmt ∷ []) q.items;
        spelt = lines_more left t.stmt q.items b.1 d.1 c.1 t.spelt q.spelt;
      }

  statements_spelt : (total : ℕ) (p : List Stmt × ℕ) (f : List Tok) → Given f → Statements S aliases total f p → SpeltLines left p.0 total p.1
  statements_spelt total p f g h =
      let t = items_spelt ([], total) p f g h in
      subst (λ ss. SpeltLines left ss total p.1) (sym t.items_are) t.spelt

region_spelt : (aliases : List Alias) → AliasesSpelt aliases → (left : ℕ) → SpellsRegion left (Region aliases left)
region_spelt aliases known zero total f p g h = absurd (true_no (limited_some true (sign 123) h.first.token tt (given_one h.left h.first.token h.first.alone (given_left f h.left h.right h.parts g)).counted h.first.accepted).0)
region_spelt aliases known (suc left) total f p g h =
    let i = h.second in
    let gi = given_left h.right i.left i.right i.parts (given_right f h.left h.right h.parts g) in
    let t = statements_spelt left (Region aliases left) aliases known (region_spelt aliases known left) total i.value i.left gi i.first in
    (left, (refl, subst (λ (x : List Stmt × ℕ). SpeltLines left x.0 total x.1) (sym i.second.second.1) t))

-- ---- modules

aliases_append : (aliases : List Alias) (a : Alias) → AliasesSpelt aliases → BodySpelt a.body a.operands → AliasesSpelt (aliases ++ a ∷ [])
aliases_append [] a t h = (h, tt)
aliases_append (b ∷ aliases) a t h = (t.0, aliases_append aliases a t.1 h)

alias_body_spelt : (p : Body × ℕ) (f : List Tok) → Given f → AliasBody f p → BodySpelt p.0 p.1
alias_body_spelt p f g (inl h) = subst (λ (x : Body × ℕ). BodySpelt x.0 x.1) (sym h.second.1) (map_spelt true 0 h.value h.left (given_left f h.left h.right h.parts g) h.first)
alias_body_spelt p f g (inr h) = subst (λ (x : Body × ℕ). BodySpelt x.0 x.1) (sym h.second.1) (set_spelt 0 h.value h.left (given_left f h.left h.right h.parts g) h.first)

aliases_spelt : (b c : List Alias) (f : List Tok) → Given f → AliasesSpelt b → Many AliasDefinition b f c → AliasesSpelt c
aliases_spelt b c f g t (none _ _ p) = t
aliases_spelt b c f g t (more _ d _ _ left right p i m) =
    let gl = given_left f left right p g in
    let e = i.second.second in
    let g1 = given_right i.right i.second.left i.second.right i.second.parts (given_right left i.left i.right i.parts gl) in
    let known : AliasesSpelt d = subst AliasesSpelt (sym e.second.1) (aliases_append b (record { name = i.value; body = e.value.0; operands = e.value.1 }) t (alias_body_spelt e.value e.left (given_left i.second.right e.left e.right e.parts g1) e.first)) in
    aliases_spelt d c right (given_right f left right p g) known m

-- the statements of a function, and its return
record SpeltBody (body : List Stmt) : Type 0 where
  stmts : List Stmt
  line : ℕ
  body_is : body ≡ stmts ++ returning line ∷ []
  behind : ℕ
  spelt : SpeltLines 39 stmts 0 behind

function_spelt : (aliases : List Alias) (m : Module) (f : List Tok) → AliasesSpelt aliases → Given f → Function aliases f m → SpeltBody m.body
function_spelt aliases m f known g h =
    let n = h.second in
    let a = n.second in
    let b = a.second in
    let g1 = given_right f h.left h.right h.parts g in
    let g2 = given_right h.right n.left n.right n.parts g1 in
    let g3 = given_right n.right a.left a.right a.parts g2 in
    let i = b.first.second in
    let gb = given_left a.right b.left b.right b.parts g3 in
    let gi = given_left b.first.right i.left i.right i.parts (given_right b.left b.first.left b.first.right b.first.parts gb) in
    let j = i.first in
    let t = statements_spelt 39 (Region aliases 39) aliases known (region_spelt aliases known 39) 0 j.value j.left (given_left i.left j.left j.right j.parts gi) j.first in
    let e : b.value ≡ j.value.0 ++ returning j.second.value.0 ∷ [] = i.second.second.1 ∙ j.second.second.1 in
    subst (λ (x : Module). SpeltBody x.body) (sym b.second.1) (record { stmts = j.value.0; line = j.second.value.0; body_is = e; behind = j.value.1; spelt = t })

module_spelt : (aliases : List Alias) (m : Module) (f : List Tok) → AliasesSpelt aliases → Given f → ModuleOf aliases f m → SpeltBody m.body
module_spelt aliases m f known g (inr h) = function_spelt aliases m f known g h
module_spelt aliases m f known g (inl h) =
    let i = h.second.second in
    let g2 = given_right h.right h.second.left h.second.right h.second.parts (given_right f h.left h.right h.parts g) in
    subst (λ (x : Module). SpeltBody x.body) (sym i.second.second.1) (function_spelt aliases i.value i.left known (given_left h.second.right i.left i.right i.parts g2) i.first)

written_of : (m : Module) → HasParts m → SpeltBody m.body → ModuleNests m → MayBeWritten m
written_of m t b n =
    let s = b.spelt in
    let last : nest (returning b.line ∷ []) ≡ Does b.line Return Nothing = nest-cons (returning b.line) [] ∙ ap (λ r. put_what what.Return b.line r) nest-nil ∙ put_plain Return b.line Nothing in
    let body : nest m.body ≡ followed_by (nest b.stmts) (Does b.line Return Nothing) = ap nest b.body_is ∙ nest-append b.stmts (returning b.line ∷ []) ∙ ap (λ r. followed_by (nest b.stmts) r) last in
    let i = nests_parts (nest b.stmts) (Does b.line Return Nothing) (subst StatementsNest body n) in
    let c = s.count in
    let small = s.small (omega arith) in
    record { name = t.name; args = t.args; stmts = nest b.stmts; line = b.line; body = body; fit = s.fit i.0; operands = omega (arith, c, small) }

-- what a text spells may be written, where its expressions nest no deeper in the printed spelling than a text may
pub spelt_written : (source : List ℕ) (m : Module) → length source < 2 ^ 64 → Spells source m → ModuleNests m → MayBeWritten m
spelt_written source m short s n =
    let given = given_text source s.tokens s.end short s.lexed in
    let h = s.spelled in
    let f = tokens_of source s.tokens in
    let gl = given_left f h.left h.right h.parts given in
    let gr = given_right f h.left h.right h.parts given in
    let parts = module_parts h.value m h.right gr h.second in
    let body = module_spelt h.value m h.right (aliases_spelt [] h.value h.left gl tt h.first) gr h.second in
    written_of m parts body n

-- so its printed spelling spells one that is the same but for its lines
pub spelled_again : (source : List ℕ) (m : Module) → length source < 2 ^ 64 → Spells source m → ModuleNests m → (n : Module) × (AreSameButLines m n × Spells (spelling m) n)
spelled_again source m short s n = written_spells m (spelt_written source m short s n) [] (λ i d less. absurd (omega (arith, less)))
