-- States in which each name of data and each slow cell holds a number of its type.
use Rattle.std.proofs.Common.{◌≡◌, ℕ, ℤ, pos, Bool, true, false, List, [], ◌∷◌, map, refl, sym, ap, ◌∙◌, subst, arith}
use Rattle.std.specs.Prelude.{not, Option, Some, None, is_some, slice_index_or}
use Rattle.std.specs.List.{All, list_all}
use Rattle.std.proofs.lemmas.Bool.{and_parts}
use Rattle.std.proofs.lemmas.Int.{ints}
use Rattle.std.proofs.lemmas.List.Elements.{All-nil, All-cons}
use Rattle.int_ops.specs.declared.operation.Op.{Op}
use Rattle.int_ops.specs.Operation.{operation}
use Rattle.int_ops.specs.Wrapped.{IsWidth, InRange}
use Rattle.int_ops.proofs.Results.{operation_inside}
use Rattle.int_ops.proofs.Wraps.{half_pos}
use Rattle.affine_ast.specs.declared.name.Name.{Name}
use Rattle.affine_ast.specs.declared.types.Element.{Element}
use Rattle.affine_ast.specs.declared.types.Element.TheVariants.{I8, I16, I32, I64}
use Rattle.affine_ast.specs.declared.types.MemrefType.{MemrefType}
use Rattle.affine_ast.specs.declared.types.Scalar.{Scalar}
use Rattle.affine_ast.specs.declared.types.Scalar.TheVariants as scalar
use Rattle.affine_ast.specs.Names.{same_name, put}
use Rattle.affine_ast.proofs.Names.{put-same, put-other, same_name-eq}
use Rattle.affine_ast.specs.Rules.{is_in, same_scalar, binding_is_scalar, is_of, are_indexes, binding_is_memref_of, is_memref_of}
use Rattle.affine_ast.specs.Scope.{Binding, Variable, Symbol, IndexConstant, Data, MemrefArgument, Allocation, Scope}
use Rattle.affine_ast.specs.Sizes.{element_bits, scalar_bits}
use Rattle.direct_meaning.specs.Action.{Home, Place, Slow, Fast, Outside}
use Rattle.direct_meaning.specs.Direct.{State, keep, read, direct_load, direct_store, keep_result}
use Rattle.direct_meaning.specs.Static.{Env, operand_of, operand}
use Rattle.valid_laws.specs.Safe.{FitsOperand}
use Rattle.valid_laws.proofs.Scoped.{Stands, ScopeStands, operand_fits, type_same}
use Rattle.run_laws.proofs.Cells.{CellsFit, LiesIn, lies_along, PlaceFits, cells_set}
use Rattle.run_laws.proofs.Runs.{Ends}

-- ---- widths

pub element_width : (t : Element) → IsWidth (element_bits t)
element_width I8 = (omega arith, omega arith)
element_width I16 = (omega arith, omega arith)
element_width I32 = (omega arith, omega arith)
element_width I64 = (omega arith, omega arith)

pub scalar_width : (t : Scalar) → IsWidth (scalar_bits t)
scalar_width (scalar.Int t) = element_width t
scalar_width scalar.Index = (omega arith, omega arith)

pub zero_in_range : (bits : ℕ) → InRange bits (pos 0)
zero_in_range bits = let k = half_pos bits in record { least = omega (arith, ints, k); most = omega (arith, ints, k) }

same_bits : (a b : Scalar) → same_scalar a b ≡ true → scalar_bits a ≡ scalar_bits b
same_bits (scalar.Int a) (scalar.Int b) h = grind (arith, h)
same_bits scalar.Index scalar.Index h = refl
same_bits (scalar.Int a) scalar.Index h = absurd (let z : ⊥ = cc in z)
same_bits scalar.Index (scalar.Int b) h = absurd (let z : ⊥ = cc in z)

-- ---- names

-- a name of data holds a number of its type
abbrev pub NameFits : Option Binding → ℤ → Type 0
NameFits None z = Unit {0}
NameFits (Some (Variable r)) z = Unit {0}
NameFits (Some (Symbol r)) z = Unit {0}
NameFits (Some (IndexConstant c)) z = Unit {0}
NameFits (Some (Data ty)) z = InRange (scalar_bits ty) z
NameFits (Some (MemrefArgument ty)) z = Unit {0}
NameFits (Some (Allocation ty)) z = Unit {0}

pub record Typed (widths : List ℕ) (s : Scope) (st : State) : Type 0 where
  pub names : (n : Name) → NameFits (s n) (st.registers n)
  pub cells : CellsFit widths st.slow

pub zero_fits : (b : Option Binding) → NameFits b (pos 0)
zero_fits None = tt
zero_fits (Some (Variable r)) = tt
zero_fits (Some (Symbol r)) = tt
zero_fits (Some (IndexConstant c)) = tt
zero_fits (Some (Data ty)) = zero_in_range (scalar_bits ty)
zero_fits (Some (MemrefArgument ty)) = tt
zero_fits (Some (Allocation ty)) = tt

-- one name more in scope, that isn't data
abbrev pub IsStatic : Binding → Type 0
IsStatic b = (z : ℤ) → NameFits (Some b) z

pub static_put : (widths : List ℕ) (s : Scope) (r : Name) (b : Binding) (st : State) → IsStatic b → Typed widths s st → Typed widths (put s r (Some b)) st
static_put widths s r b st k h = record { names = λ n. by n (same_name r n) refl; cells = h.cells }
  where
    by : (n : Name) (t : Bool) → same_name r n ≡ t → NameFits (put s r (Some b) n) (st.registers n)
    by n true t = subst (λ x. NameFits x (st.registers n)) (sym (put-same s r (Some b) n t)) (k (st.registers n))
    by n false t = subst (λ x. NameFits x (st.registers n)) (sym (put-other s r (Some b) n t)) (h.names n)

-- a name of data, with its value
pub data_put : (widths : List ℕ) (s : Scope) (r : Name) (ty : Scalar) (z : ℤ) (st : State) → InRange (scalar_bits ty) z → Typed widths s st → Typed widths (put s r (Some (Data ty))) (keep r z st)
data_put widths s r ty z st k h = record { names = λ n. by n (same_name r n) refl; cells = h.cells }
  where
    by : (n : Name) (t : Bool) → same_name r n ≡ t → NameFits (put s r (Some (Data ty)) n) (put st.registers r z n)
    by n true t = subst (λ x. x) (λ i. NameFits (sym (put-same s r (Some (Data ty)) n t) i) (sym (put-same st.registers r z n t) i)) k
    by n false t = subst (λ x. x) (λ i. NameFits (sym (put-other s r (Some (Data ty)) n t) i) (sym (put-other st.registers r z n t) i)) (h.names n)

-- behind a region, without the name
not_there : (o : Option Binding) (z : ℤ) → not (is_some o) ≡ true → NameFits o z
not_there None z h = tt
not_there (Some b) z h = absurd (let y : ⊥ = cc in y)

pub typed_back : (widths : List ℕ) (s : Scope) (r : Name) (b : Binding) (st : State) → not (is_in s r) ≡ true → Typed widths (put s r (Some b)) st → Typed widths s st
unfolding is_in
typed_back widths s r b st new h = record { names = λ n. by n (same_name r n) refl; cells = h.cells }
  where
    by : (n : Name) (t : Bool) → same_name r n ≡ t → NameFits (s n) (st.registers n)
    by n true t = not_there (s n) (st.registers n) (ap (λ m. not (is_some (s m))) (sym (same_name-eq r n t)) ∙ new)
    by n false t = subst (λ x. NameFits x (st.registers n)) (put-other s r (Some b) n t) (h.names n)

-- ---- memrefs

abbrev pub Lies : List ℕ → Option Binding → Option Home → Type 0
Lies widths None home = Unit {0}
Lies widths (Some (Variable r)) home = Unit {0}
Lies widths (Some (Symbol r)) home = Unit {0}
Lies widths (Some (IndexConstant c)) home = Unit {0}
Lies widths (Some (Data ty)) home = Unit {0}
Lies widths (Some (MemrefArgument ty)) home = LiesIn widths home ty
Lies widths (Some (Allocation ty)) home = ⊥

-- each memref in scope is an argument that lies in the slow memory
abbrev pub MemrefsLie : List ℕ → Scope → (Name → Option Home) → Type 0
MemrefsLie widths s home = (n : Name) → Lies widths (s n) (home n)

binding_lies : (widths : List ℕ) (b : Option Binding) (home : Option Home) (ty : MemrefType) → Lies widths b home → binding_is_memref_of b ty ≡ true → LiesIn widths home ty
binding_lies widths None home ty h t = absurd (let z : ⊥ = cc in z)
binding_lies widths (Some (Variable r)) home ty h t = absurd (let z : ⊥ = cc in z)
binding_lies widths (Some (Symbol r)) home ty h t = absurd (let z : ⊥ = cc in z)
binding_lies widths (Some (IndexConstant c)) home ty h t = absurd (let z : ⊥ = cc in z)
binding_lies widths (Some (Data of)) home ty h t = absurd (let z : ⊥ = cc in z)
binding_lies widths (Some (MemrefArgument of)) home ty h t = lies_along widths home of ty (type_same of ty t) h
binding_lies widths (Some (Allocation of)) home ty h t = absurd h

pub memref_lies : (widths : List ℕ) (s : Scope) (home : Name → Option Home) (m : Name) (ty : MemrefType) → MemrefsLie widths s home → is_memref_of s m ty ≡ true → LiesIn widths (home m) ty
unfolding is_memref_of
memref_lies widths s home m ty h t = binding_lies widths (s m) (home m) ty (h m) t

-- a name more that is no memref
abbrev pub IsNoMemref : Binding → Type 0
IsNoMemref b = (widths : List ℕ) (home : Option Home) → Lies widths (Some b) home

pub lies_put : (widths : List ℕ) (s : Scope) (home : Name → Option Home) (r : Name) (b : Binding) → IsNoMemref b → MemrefsLie widths s home → MemrefsLie widths (put s r (Some b)) home
lies_put widths s home r b k h n = by (same_name r n) refl
  where
    by : (t : Bool) → same_name r n ≡ t → Lies widths (put s r (Some b) n) (home n)
    by true t = subst (λ x. Lies widths x (home n)) (sym (put-same s r (Some b) n t)) (k widths (home n))
    by false t = subst (λ x. Lies widths x (home n)) (sym (put-other s r (Some b) n t)) (h n)

-- ---- operands

data_reads : (b : Option Binding) (known : Option ℤ) (home : Option Home) (z : ℤ) (ty : Scalar) → Stands b known home → NameFits b z → binding_is_scalar b ty ≡ true → known ≡ None → InRange (scalar_bits ty) z
data_reads None known home z ty h k t e = absurd (let y : ⊥ = cc in y)
data_reads (Some (Variable r)) known home z ty h k t e = absurd (let c = h.0.is in let y : ⊥ = cc in y)
data_reads (Some (Symbol r)) known home z ty h k t e = absurd (let c = h.0.is in let y : ⊥ = cc in y)
data_reads (Some (IndexConstant c)) known home z ty h k t e = absurd (let d = h.0 in let y : ⊥ = cc in y)
data_reads (Some (Data of)) known home z ty h k t e = subst (λ n. InRange n z) (same_bits of ty t) k
data_reads (Some (MemrefArgument of)) known home z ty h k t e = absurd (let y : ⊥ = cc in y)
data_reads (Some (Allocation of)) known home z ty h k t e = absurd (let y : ⊥ = cc in y)

operand_in : (bits : ℕ) (o : Option ℤ) (registers : Name → ℤ) (n : Name) → FitsOperand bits o → (o ≡ None → InRange bits (registers n)) → InRange bits (read registers (operand_of n o))
unfolding read
operand_in bits None registers n h f = f refl
operand_in bits (Some z) registers n h f = h

module _ (widths : List ℕ) (s : Scope) (e : Env) (h : ScopeStands s e) (st : State) (typed : Typed widths s st) where
  pub operand_reads : (n : Name) (ty : Scalar) → is_of s n ty ≡ true → InRange (scalar_bits ty) (read st.registers (operand e n))
  unfolding is_of
  operand_reads n ty t = operand_in (scalar_bits ty) (e.known n) st.registers n (operand_fits s e h n ty t) (λ k. data_reads (s n) (e.known n) (e.home n) (st.registers n) ty (h n) (typed.names n) t k)

  pub indexes_read : (names : List Name) → are_indexes s names ≡ true → All (λ x. InRange 64 (read st.registers x)) (map (operand e) names)
  unfolding are_indexes
  indexes_read [] t = All-nil (λ x. InRange 64 (read st.registers x))
  indexes_read (n ∷ names) t =
      let two = and_parts (is_of s n scalar.Index) (list_all (λ n. is_of s n scalar.Index) names) t in
      All-cons (λ x. InRange 64 (read st.registers x)) (operand e n) (map (operand e) names) (operand_reads n scalar.Index two.0) (indexes_read names two.1)

-- ---- loads, stores and results

pub load_ends : (widths : List ℕ) (s : Scope) (st : State) (r : Name) (ty : Scalar) (place : Place) → Typed widths s st → PlaceFits widths (scalar_bits ty) place → Ends (CellsFit widths) (Typed widths (put s r (Some (Data ty)))) (direct_load r place st)
load_ends widths s st r ty (Slow place) h k = data_put widths s r ty _ st (subst (λ n. InRange n (slice_index_or st.slow place (pos 0))) k.1 (h.cells.fit place k.0)) h
load_ends widths s st r ty (Fast number half cell) h k = absurd k
load_ends widths s st r ty Outside h k = h.cells

pub store_ends : (widths : List ℕ) (s : Scope) (st : State) (bits : ℕ) (z : ℤ) (place : Place) → Typed widths s st → PlaceFits widths bits place → InRange bits z → Ends (CellsFit widths) (Typed widths s) (direct_store z place st)
store_ends widths s st bits z (Slow place) h k r = record { names = h.names; cells = cells_set widths st.slow place bits z h.cells k.0 k.1 r }
store_ends widths s st bits z (Fast number half cell) h k r = absurd k
store_ends widths s st bits z Outside h k r = h.cells

pub result_ends : (widths : List ℕ) (s : Scope) (st : State) (r : Name) (ty : Scalar) (o : Option ℤ) → Typed widths s st → ((z : ℤ) → o ≡ Some z → InRange (scalar_bits ty) z) → Ends (CellsFit widths) (Typed widths (put s r (Some (Data ty)))) (keep_result r o st)
result_ends widths s st r ty (Some z) h f = data_put widths s r ty z st (f z refl) h
result_ends widths s st r ty None h f = h.cells

pub operation_fits : (op : Op) (ty : Scalar) (a b z : ℤ) → operation op (scalar_bits ty) a b ≡ Some z → InRange (scalar_bits ty) z
operation_fits op ty a b z e = let w = scalar_width ty in operation_inside op (scalar_bits ty) a b z (omega (arith, w.0)) e
